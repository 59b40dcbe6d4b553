-- Links that lead by the equalities of a product lead by those among the factors of a spine that begins with them; and how they are taken apart.
use Rattle.std.proofs.Common.{◌≡◌, ℕ, zero, suc, ◌+◌, ◌<◌, true, false, List, [], ◌∷◌, ◌++◌, length, inl, inr, refl, ap, sym, ◌∙◌, subst, arith}
use Rattle.std.specs.Prelude.{Some, slice_get}
use Rattle.std.proofs.lemmas.Option.{none-some}
use Rattle.u_terms.specs.Syntax.{U, Zero, One, Add, Mul, Squash, Not, Sum, Rel, Eq, Pred, Val}
use Rattle.u_terms.specs.declared.term.Val.TheVariants as v
use Rattle.u_rules.specs.Terms.{◌≐◌, mul_leaves}
use Rattle.u_equal.specs.declared.link.Link.{Link}
use Rattle.u_equal.specs.declared.link.Link.TheVariants as link
use Rattle.u_equal.specs.Standing.{IsIn, standing}
use Rattle.u_equal.specs.Links.{Leads, LeadsEach, no_link, forth, back, called, no_pair, pair, HasCount, nothing, given_more, HasNoCall, Nests, NestsEach, no_depth, given_within, call_within, lists_within}
use Rattle.u_equal.proofs.products.Members.{in-either, in-none}
use Rattle.u_entail.proofs.chains.Links.{call-parts, given-no_call}
use Rattle.u_entail.specs.Sides.{IsAmong, LeadsBy, LeadsEachBy, at_end, along, by_given, by_call, at_last, and_then, AreGiven}

-- ---- how deep calls are in calls
nests-rest : (n : ℕ) (l : Link) (ls : List Link) → Nests n (l ∷ ls) → Nests n ls
nests-rest n l ls (given_within m factor t rest h) = h
nests-rest n l ls (call_within m k pairs rest less each h) = h

record CallNests (n : ℕ) (pairs : List (List Link)) : Type 0 where
  level : ℕ
  less : level < n
  by : NestsEach level pairs

call-nests-by : (n : ℕ) (l : Link) (ls : List Link) → Nests n (l ∷ ls) → (pairs : List (List Link)) → l ≡ link.Call pairs → CallNests n pairs
call-nests-by n l ls (given_within m factor t rest h) pairs e = absurd (given-no_call factor t pairs e)
call-nests-by n l ls (call_within m k qs rest less each h) pairs e = record { level = m; less = less; by = subst (λ ps. NestsEach m ps) (call-parts qs pairs e) each }

nests-call : (n : ℕ) (pairs : List (List Link)) (ls : List Link) → Nests n (link.Call pairs ∷ ls) → CallNests n pairs
nests-call n pairs ls h = call-nests-by n (link.Call pairs) ls h pairs refl

pub nests-pair : (n : ℕ) (links : List Link) (pairs : List (List Link)) → NestsEach n (links ∷ pairs) → Nests n links × NestsEach n pairs
nests-pair n links pairs (lists_within m ls ps h hs) = (h, hs)

-- ---- what stands in a product stands in a factor of it
pub at-left : {X : Type 0} (xs ys : List X) (i : ℕ) (x : X) → slice_get xs i ≡ Some x → slice_get (xs ++ ys) i ≡ Some x
at-left [] ys i x at = absurd (none-some x at)
at-left (y ∷ xs) ys zero x at = at
at-left (y ∷ xs) ys (suc i) x at = at-left xs ys i x at

among-only : (u : U) (a : Val) → mul_leaves u ≡ u ∷ [] → IsIn a (standing u) → IsAmong (mul_leaves u) a
among-only u a leaf stands = record { place = 0; factor = u; at = ap (λ (xs : List U). slice_get xs 0) leaf; stands = stands }

among-left : (xs ys : List U) (a : Val) → IsAmong xs a → IsAmong (xs ++ ys) a
among-left xs ys a h = record { place = h.place; factor = h.factor; at = at-left xs ys h.place h.factor h.at; stands = h.stands }

among-right : (xs ys : List U) (a : Val) → IsAmong ys a → IsAmong (xs ++ ys) a
among-right [] ys a h = h
among-right (x ∷ xs) ys a h = let k = among-right xs ys a h in record { place = suc k.place; factor = k.factor; at = k.at; stands = k.stands }

among-leaves : (u : U) (a : Val) → IsIn a (standing u) → IsAmong (mul_leaves u) a
unfolding mul_leaves standing
among-leaves Zero a stands = absurd (in-none a stands)
among-leaves One a stands = absurd (in-none a stands)
among-leaves (Add x y) a stands = among-only (Add x y) a refl stands
among-leaves (Mul x y) a stands = elim (in-either (standing x) (standing y) a stands) [
  | inl here ↦ among-left (mul_leaves x) (mul_leaves y) a (among-leaves x a here)
  | inr there ↦ among-right (mul_leaves x) (mul_leaves y) a (among-leaves y a there)
]
among-leaves (Squash x) a stands = among-only (Squash x) a refl stands
among-leaves (Not x) a stands = among-only (Not x) a refl stands
among-leaves (Sum body) a stands = absurd (in-none a stands)
among-leaves (Rel table shape arguments) a stands = among-only (Rel table shape arguments) a refl stands
among-leaves (Eq x y) a stands = among-only (Eq x y) a refl stands
among-leaves (Pred symbol shape arguments) a stands = among-only (Pred symbol shape arguments) a refl stands

-- ---- by the factors
module _ (product : U) (factors rest : List U) (begins : factors ≡ mul_leaves product ++ rest) where
  side : (factor : ℕ) (a b : Val) → slice_get (mul_leaves product) factor ≡ Some (a ≐ b) → slice_get factors factor ≡ Some (a ≐ b)
  side factor a b at = ap (λ (xs : List U). slice_get xs factor) begins ∙ at-left (mul_leaves product) rest factor (a ≐ b) at

  pub among : (a : Val) → IsIn a (standing product) → IsAmong factors a
  among a stands =
      let h = among-leaves product a stands in
      record { place = h.place; factor = h.factor; at = ap (λ (xs : List U). slice_get xs h.place) begins ∙ at-left (mul_leaves product) rest h.place h.factor h.at; stands = h.stands }

  mutual
    pub leads-by : (n : ℕ) (a b : Val) (links : List Link) → Leads product a links b → Nests n links → LeadsBy factors n a links b
    leads-by n a b links (no_link c) nests = at_end n c
    leads-by n a b links (forth factor c d e ls h k) nests = along n c d e (link.Given factor false) ls (by_given n factor false c d (side factor c d h)) (leads-by n d e ls k (nests-rest n (link.Given factor false) ls nests))
    leads-by n a b links (back factor c d e ls h k) nests = along n c d e (link.Given factor true) ls (by_given n factor true c d (side factor d c h)) (leads-by n d e ls k (nests-rest n (link.Given factor true) ls nests))
    leads-by n a b links (called f xs ys e pairs ls sx sy each k) nests =
        let inside = nests-call n pairs ls nests in
        along n (v.Fun f xs) (v.Fun f ys) e (link.Call pairs) ls
        (by_call inside.level n f xs ys pairs inside.less (among (v.Fun f xs) sx) (among (v.Fun f ys) sy) (each-by inside.level xs ys pairs each inside.by))
        (leads-by n (v.Fun f ys) e ls k (nests-rest n (link.Call pairs) ls nests))

    pub each-by : (n : ℕ) (xs ys : List Val) (pairs : List (List Link)) → LeadsEach product xs pairs ys → NestsEach n pairs → LeadsEachBy factors n xs pairs ys
    each-by n xs ys pairs no_pair nests = at_last n
    each-by n xs ys pairs (pair a b links as' bs ps h hs) nests =
        let both = nests-pair n links ps nests in
        and_then n a b links as' bs ps (leads-by n a b links h both.0) (each-by n as' bs ps hs both.1)

-- ---- where no call stands
pub leads-given : (product : U) → HasNoCall (standing product) → (a b : Val) (links : List Link) → Leads product a links b → AreGiven links
leads-given product without a b links (no_link c) = tt
leads-given product without a b links (forth factor c d e ls h k) = ((factor, false, refl), leads-given product without d e ls k)
leads-given product without a b links (back factor c d e ls h k) = ((factor, true, refl), leads-given product without d e ls k)
leads-given product without a b links (called f xs ys e pairs ls sx sy each k) = absurd (without f xs sx)

-- then no call is in a call
pub nests-given : (links : List Link) → AreGiven links → Nests 0 links
nests-given [] flat = no_depth 0
nests-given (first ∷ rest) flat = let is = flat.0.2 in subst (λ (l : Link). Nests 0 (l ∷ rest)) (sym is) (given_within 0 flat.0.0 flat.0.1 rest (nests-given rest flat.1))

pub count-given : (links : List Link) → AreGiven links → HasCount links (length links)
count-given [] flat = nothing
count-given (first ∷ rest) flat =
    let is = flat.0.2 in
    let one : 1 + length rest ≡ length (first ∷ rest) = omega arith in
    subst (λ n. HasCount (first ∷ rest) n) one
    (subst (λ (l : Link). HasCount (l ∷ rest) (1 + length rest)) (sym is) (given_more flat.0.0 flat.0.1 rest (length rest) (count-given rest flat.1)))
