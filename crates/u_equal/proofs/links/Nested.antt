-- How deep links are in links: each edge of calls has links of earlier edges inside.
use Rattle.std.proofs.Common.{◌≡◌, ℕ, ◌≤◌, Bool, List, [], ◌∷◌, ◌++◌, sym, subst, arith}
use Rattle.u_equal.specs.declared.link.Link.{Link}
use Rattle.u_equal.specs.declared.link.Link.TheVariants as link
use Rattle.u_equal.specs.Links.{Nests, NestsEach, no_depth, given_within, call_within, no_lists, lists_within}
use Rattle.u_equal.specs.Chains.{NestsFrom}

-- ---- one link
pub given-nests : (time factor : ℕ) (turned : Bool) → NestsFrom time (link.Given factor turned)
given-nests time factor turned n less = given_within n factor turned [] (no_depth n)

pub call-nests : (time : ℕ) (pairs : List (List Link)) → NestsEach time pairs → NestsFrom time (link.Call pairs)
call-nests time pairs each n less = call_within time n pairs [] less each (no_depth n)

-- ---- a link more
nests-through : (n : ℕ) (xs ys : List Link) → Nests n xs → Nests n ys → Nests n (xs ++ ys)
nests-through n xs ys (no_depth d) k = k
nests-through n xs ys (given_within d factor turned rest h) k = given_within d factor turned (rest ++ ys) (nests-through d rest ys h k)
nests-through n xs ys (call_within m d pairs rest less each h) k = call_within m d pairs (rest ++ ys) less each (nests-through d rest ys h k)

pub links-nest : (n : ℕ) (links after : List Link) (l : Link) → after ≡ links ++ l ∷ [] → Nests n links → Nests n (l ∷ []) → Nests n after
links-nest n links after l is h k = subst (λ (ls : List Link). Nests n ls) (sym is) (nests-through n links (l ∷ []) h k)

each-nests-more : (n : ℕ) (pairs : List (List Link)) (links : List Link) → NestsEach n pairs → Nests n links → NestsEach n (pairs ++ links ∷ [])
each-nests-more n pairs links (no_lists d) k = lists_within d links [] k (no_lists d)
each-nests-more n pairs links (lists_within d first rest h hs) k = lists_within d first (rest ++ links ∷ []) h (each-nests-more d rest links hs k)

pub pairs-nest : (n : ℕ) (pairs after : List (List Link)) (links : List Link) → after ≡ pairs ++ links ∷ [] → NestsEach n pairs → Nests n links → NestsEach n after
pairs-nest n pairs after links is h k = subst (λ ps. NestsEach n ps) (sym is) (each-nests-more n pairs links h k)

-- ---- a larger bound
pub nests-wider : (m n : ℕ) (links : List Link) → m ≤ n → Nests m links → Nests n links
nests-wider m n links wide (no_depth d) = no_depth n
nests-wider m n links wide (given_within d factor turned rest h) = given_within n factor turned rest (nests-wider d n rest wide h)
nests-wider m n links wide (call_within k d pairs rest less each h) = call_within k n pairs rest (omega (arith, less, wide)) each (nests-wider d n rest wide h)
