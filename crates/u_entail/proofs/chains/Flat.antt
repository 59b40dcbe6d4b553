-- Links made flat: the hops of no link, of one, and of one after the other.
use Rattle.std.proofs.Common.{◌≡◌, ℕ, ◌+◌, ◌<◌, ◌≤◌, Bool, List, [], ◌∷◌, ◌++◌, length, append_assoc, refl, ap, sym, ◌∙◌, subst, arith}
use Rattle.std.proofs.lemmas.List.{append-nil, length-append}
use Rattle.u_terms.specs.Syntax.{U, Val}
use Rattle.u_terms.specs.declared.term.Val.TheVariants as v
use Rattle.u_moves.specs.Derivations.{IsWithin}
use Rattle.u_equal.specs.declared.link.Link.{Link}
use Rattle.u_equal.specs.declared.link.Link.TheVariants as link
use Rattle.u_equal.specs.Links.{HasCount, HasCountEach, nothing, given_more, call_more, list_more}
use Rattle.u_entail.specs.declared.hops.Hop.{Hop}
use Rattle.u_entail.specs.Sides.{IsAmong, IsSide, LeadsBy, LinkLeads, LeadsEachBy, at_end, along, by_given, by_call, at_last, and_then}
use Rattle.u_entail.specs.Small.{AreSmall, IsSmall, HaveRoom}
use Rattle.u_entail.specs.Spines.{spine}
use Rattle.u_entail.specs.Spots.{Spot, filled, way}
use Rattle.u_entail.specs.Hops.{HopsLead, arrived, hopped, StayWithin, stays, goes, AreHops, ArePairHops, PushesHops, PushesPairHops}
use Rattle.u_entail.proofs.substitution.Filled.{deeper, way-deeper, filled-deeper}
use Rattle.u_entail.proofs.chains.Links.{given-parts, call-parts, given-no_call}
use Rattle.u_entail.proofs.sizes.Small.{calls-room, room-call, room-next, sides-small, small-wider}

-- ---- hops, one list after the other
pub stay-append : (most deepest : ℕ) (factors : List U) (a b c : U) (hs ks : List Hop) → StayWithin most deepest factors a hs b → StayWithin most deepest factors b ks c
    → StayWithin most deepest factors a (hs ++ ks) c
stay-append most deepest factors a b c hs ks (stays d) k = k
stay-append most deepest factors a b c hs ks (goes d mid e first rest h one two r) k = goes d mid c first (rest ++ ks) h one two (stay-append most deepest factors mid e c rest ks r k)

pub stay-lead : (most deepest : ℕ) (factors : List U) (a b : U) (hs : List Hop) → StayWithin most deepest factors a hs b → HopsLead factors a hs b
stay-lead most deepest factors a b hs (stays d) = arrived d
stay-lead most deepest factors a b hs (goes d mid e first rest h one two r) = hopped d mid e first rest h (stay-lead most deepest factors mid e rest r)

-- where the end is within bounds, the start is
pub stay-start : (most deepest : ℕ) (factors : List U) (a b : U) (hs : List Hop) → StayWithin most deepest factors a hs b → IsWithin most deepest (spine factors b) → IsWithin most deepest (spine factors a)
stay-start most deepest factors a b hs (stays d) last = last
stay-start most deepest factors a b hs (goes d mid e first rest h one two r) last = one

-- ---- links taken apart
ended-by : (factors : List U) (n : ℕ) (a b : Val) → LeadsBy factors n a [] b → a ≡ b
ended-by factors n a b (at_end m c) = refl

record First (factors : List U) (n : ℕ) (a : Val) (first : Link) (rest : List Link) (b : Val) : Type 0 where
  mid : Val
  one : LinkLeads factors n a first mid
  more : LeadsBy factors n mid rest b

first-of : (factors : List U) (n : ℕ) (a b : Val) (first : Link) (rest : List Link) → LeadsBy factors n a (first ∷ rest) b → First factors n a first rest b
first-of factors n a b first rest (along m c d e f r h k) = record { mid = d; one = h; more = k }

alone-by : (factors : List U) (n : ℕ) (a b : Val) (first : Link) → LinkLeads factors n a first b → LeadsBy factors n a (first ∷ []) b
alone-by factors n a b first h = along n a b b first [] h (at_end n b)

only : (factors : List U) (n : ℕ) (a b : Val) (first : Link) → LeadsBy factors n a (first ∷ []) b → LinkLeads factors n a first b
only factors n a b first h =
    let p = first-of factors n a b first [] h in
    subst (λ (c : Val). LinkLeads factors n a first c) (ended-by factors n p.mid b p.more) p.one

given-side : (factors : List U) (n : ℕ) (a b : Val) (l : Link) → LinkLeads factors n a l b → (factor : ℕ) (turned : Bool) → l ≡ link.Given factor turned → IsSide factors factor turned a b
given-side factors n a b l (by_given m i t c d h) factor turned e =
    let p = given-parts i factor t turned e in
    subst (λ (k : ℕ). IsSide factors k turned c d) p.0 (subst (λ (r : Bool). IsSide factors i r c d) p.1 h)
given-side factors n a b l (by_call m k f xs ys pairs less from to h) factor turned e = absurd (given-no_call factor turned pairs (sym e))

record CallSides (factors : List U) (n : ℕ) (a b : Val) (pairs : List (List Link)) : Type 0 where
  level : ℕ
  less : level < n
  symbol : ℕ
  xs : List Val
  ys : List Val
  from : a ≡ v.Fun symbol xs
  to : b ≡ v.Fun symbol ys
  from_among : IsAmong factors (v.Fun symbol xs)
  to_among : IsAmong factors (v.Fun symbol ys)
  by : LeadsEachBy factors level xs pairs ys

call-sides : (factors : List U) (n : ℕ) (a b : Val) (l : Link) → LinkLeads factors n a l b → (pairs : List (List Link)) → l ≡ link.Call pairs → CallSides factors n a b pairs
call-sides factors n a b l (by_given m i t c d h) pairs e = absurd (given-no_call i t pairs e)
call-sides factors n a b l (by_call m k f xs ys qs less from to h) pairs e = record {
  level = m;
  less = less;
  symbol = f;
  xs = xs;
  ys = ys;
  from = refl;
  to = refl;
  from_among = from;
  to_among = to;
  by = subst (λ ps. LeadsEachBy factors m xs ps ys) (call-parts qs pairs e) h;
}

record Counted (first : Link) (rest : List Link) (n : ℕ) : Type 0 where
  in_first : ℕ
  in_rest : ℕ
  is : n ≡ in_first + in_rest
  one : HasCount (first ∷ []) in_first
  more : HasCount rest in_rest

counted : (first : Link) (rest : List Link) (n : ℕ) → HasCount (first ∷ rest) n → Counted first rest n
counted first rest n (given_more factor turned r m h) = record { in_first = 1; in_rest = m; is = refl; one = given_more factor turned [] 0 nothing; more = h }
counted first rest n (call_more pairs r k m hk h) = record { in_first = 1 + k + 0; in_rest = m; is = omega arith; one = call_more pairs [] k 0 hk nothing; more = h }

count-some : (first : Link) (rest : List Link) (n : ℕ) → HasCount (first ∷ rest) n → 1 ≤ n
count-some first rest n (given_more factor turned r m h) = omega arith
count-some first rest n (call_more pairs r k m hk h) = omega arith

record CallCounted (pairs : List (List Link)) (n : ℕ) : Type 0 where
  inside : ℕ
  is : inside ≤ n
  by : HasCountEach pairs inside

call-counted : (l : Link) (ls : List Link) (n : ℕ) → HasCount ls n → ls ≡ l ∷ [] → (pairs : List (List Link)) → l ≡ link.Call pairs → CallCounted pairs n
call-counted l ls n nothing is pairs e = let none = ap length is in absurd (omega (arith, none))
call-counted l ls n (given_more i t rest m h) is pairs e = let same : link.Given i t ≡ l = cc in absurd (given-no_call i t pairs (same ∙ e))
call-counted l ls n (call_more qs rest m k hm hk) is pairs e =
    let same : link.Call qs ≡ l = cc in
    record { inside = m; is = omega arith; by = subst (λ ps. HasCountEach ps m) (call-parts qs pairs (same ∙ e)) hm }

record PairCounted (links : List Link) (pairs : List (List Link)) (n : ℕ) : Type 0 where
  in_first : ℕ
  in_rest : ℕ
  is : n ≡ in_first + in_rest
  one : HasCount links in_first
  more : HasCountEach pairs in_rest

pair-counted : (links : List Link) (pairs : List (List Link)) (n : ℕ) → HasCountEach (links ∷ pairs) n → PairCounted links pairs n
pair-counted links pairs n (list_more ls ps m k hm hk) = record { in_first = m; in_rest = k; is = refl; one = hm; more = hk }

-- ---- of links
module _ (place : List ℕ) where
  pub hops-none : AreHops place [] []
  hops-none = record {
    stay = λ many deep factors small n a b h spot at most deepest within.
        subst (λ (c : Val). StayWithin most deepest factors (filled spot a) [] (filled spot c)) (ended-by factors n a b h) (stays (filled spot a));
    few = λ n h. omega arith;
  }

  pub hops-more : (first : Link) (rest : List Link) (hs ks : List Hop) → AreHops place (first ∷ []) hs → AreHops place rest ks → AreHops place (first ∷ rest) (hs ++ ks)
  hops-more first rest hs ks h k = record {
    stay = λ many deep factors small n a b l spot at most deepest within.
        let p = first-of factors n a b first rest l in
        stay-append most deepest factors (filled spot a) (filled spot p.mid) (filled spot b) hs ks
        (h.stay many deep factors small n a p.mid (alone-by factors n a p.mid first p.one) spot at most deepest within) (k.stay many deep factors small n p.mid b p.more spot at most deepest within);
    few = λ n c. let p = counted first rest n c in omega (arith, h.few p.in_first p.one, k.few p.in_rest p.more, p.is, length-append hs ks);
  }

  pub given-hops : (l : Link) (factor : ℕ) (turned : Bool) → l ≡ link.Given factor turned → AreHops place (l ∷ []) (record { place = place; factor = factor; turned = turned } ∷ [])
  given-hops l factor turned is = record {
    stay = λ many deep factors small n a b h spot at most deepest within.
        let side = given-side factors n a b l (only factors n a b l h) factor turned is in
        let both = sides-small many deep factors small n factor turned a b side in
        goes (filled spot a) (filled spot b) (filled spot b) (record { place = place; factor = factor; turned = turned }) []
        (record { spot = spot; left = a; right = b; at = at; side = side; from = refl; to = refl }) (within a both.0) (within b both.1) (stays (filled spot b));
    few = λ n c. count-some l [] n c;
  }

  pub call-hops : (l : Link) (pairs : List (List Link)) → l ≡ link.Call pairs → (hs : List Hop) → ArePairHops place 0 pairs hs → AreHops place (l ∷ []) hs
  call-hops l pairs is hs h = record {
    stay = λ many deep factors small n a b k spot at most deepest within.
        let c = call-sides factors n a b l (only factors n a b l k) pairs is in
        let inner = h.stay many deep factors small c.level c.xs c.ys c.by spot at c.symbol [] refl (calls-room many deep factors small c.symbol c.symbol c.xs c.ys c.from_among c.to_among) most deepest
        (λ x x_small. within x (small-wider many deep (c.level + 1) n x (omega (arith, c.less)) x_small)) in
        subst (λ (x : Val). StayWithin most deepest factors (filled spot x) hs (filled spot b)) (sym c.from)
        (subst (λ (x : Val). StayWithin most deepest factors (filled spot (v.Fun c.symbol c.xs)) hs (filled spot x)) (sym c.to) inner);
    few = λ n c. let p = call-counted l (l ∷ []) n c refl pairs is in omega (arith, p.is, h.few p.inside p.by);
  }

  -- ---- of arguments
  pub pairs-none : (done : ℕ) → ArePairHops place done [] []
  pairs-none done = record {
    stay = λ many deep factors small n xs ys h spot at f before long room most deepest within.
        none-left most deepest factors n xs ys h (filled spot (v.Fun f (before ++ xs))) (λ zs. filled spot (v.Fun f (before ++ zs))) refl;
    few = λ n h. omega arith;
  } where
    none-left : (most deepest : ℕ) (factors : List U) (n : ℕ) (xs ys : List Val) → LeadsEachBy factors n xs [] ys → (first : U) (whole : List Val → U) → first ≡ whole xs
        → StayWithin most deepest factors first [] (whole ys)
    none-left most deepest factors n xs ys (at_last m) first whole is = subst (λ (x : U). StayWithin most deepest factors first [] x) is (stays first)

  record PairFirst (factors : List U) (n : ℕ) (xs : List Val) (links : List Link) (pairs : List (List Link)) (ys : List Val) : Type 0 where
    a : Val
    b : Val
    as' : List Val
    bs : List Val
    from : xs ≡ a ∷ as'
    to : ys ≡ b ∷ bs
    one : LeadsBy factors n a links b
    more : LeadsEachBy factors n as' pairs bs

  pair-first : (factors : List U) (n : ℕ) (xs ys : List Val) (links : List Link) (pairs : List (List Link)) → LeadsEachBy factors n xs (links ∷ pairs) ys → PairFirst factors n xs links pairs ys
  pair-first factors n xs ys links pairs (and_then m a b ls as' bs ps h k) = record { a = a; b = b; as' = as'; bs = bs; from = refl; to = refl; one = h; more = k }

  module _ (done : ℕ) (links : List Link) (pairs : List (List Link)) (inner : List ℕ) (inner_is : inner ≡ place ++ done ∷ []) (hs ks : List Hop) (h : AreHops inner links hs) (k : ArePairHops place (done + 1) pairs ks)
      (many deep : ℕ) (factors : List U) (small : AreSmall many deep factors) (n : ℕ) (spot : Spot) (at : way spot ≡ place) (f : ℕ) (before : List Val) (long : length before ≡ done)
      (most deepest : ℕ) (within : (x : Val) → IsSmall many deep (n + 1) x → IsWithin most deepest (spine factors (filled spot x))) where
    stay-first : (a b : Val) (as' bs : List Val) → HaveRoom many deep before (a ∷ as') (b ∷ bs) → LeadsBy factors n a links b
        → StayWithin most deepest factors (filled spot (v.Fun f (before ++ a ∷ as'))) hs (filled spot (v.Fun f (before ++ b ∷ as')))
    stay-first a b as' bs room one =
        let there : Spot = deeper spot f before as' in
        let way_there : way there ≡ inner = way-deeper spot f before as' ∙ ap (λ (q : List ℕ). q ++ length before ∷ []) at ∙ ap (λ m. place ++ m ∷ []) long ∙ sym inner_is in
        let made = h.stay many deep factors small n a b one there way_there most deepest
        (λ x x_small. subst (λ (u : U). IsWithin most deepest (spine factors u)) (sym (filled-deeper spot f before as' x)) (within (v.Fun f (before ++ x ∷ as')) (room-call many deep n f before a b as' bs room x x_small))) in
        subst (λ (u : U). StayWithin most deepest factors u hs (filled spot (v.Fun f (before ++ b ∷ as')))) (filled-deeper spot f before as' a)
        (subst (λ (u : U). StayWithin most deepest factors (filled there a) hs u) (filled-deeper spot f before as' b) made)

    stay-rest : (a b : Val) (as' bs : List Val) → HaveRoom many deep before (a ∷ as') (b ∷ bs) → LeadsEachBy factors n as' pairs bs
        → StayWithin most deepest factors (filled spot (v.Fun f (before ++ b ∷ as'))) ks (filled spot (v.Fun f (before ++ b ∷ bs)))
    stay-rest a b as' bs room more =
        let longer : length (before ++ b ∷ []) ≡ done + 1 = omega (arith, long, length-append before (b ∷ [])) in
        let rest = k.stay many deep factors small n as' bs more spot at f (before ++ b ∷ []) longer (room-next many deep before a b as' bs room) most deepest within in
        subst (λ (zs : List Val). StayWithin most deepest factors (filled spot (v.Fun f zs)) ks (filled spot (v.Fun f (before ++ b ∷ bs)))) (append_assoc before (b ∷ []) as')
        (subst (λ (zs : List Val). StayWithin most deepest factors (filled spot (v.Fun f ((before ++ b ∷ []) ++ as'))) ks (filled spot (v.Fun f zs))) (append_assoc before (b ∷ []) bs) rest)

    stay-both : (a b : Val) (as' bs : List Val) → HaveRoom many deep before (a ∷ as') (b ∷ bs) → LeadsBy factors n a links b → LeadsEachBy factors n as' pairs bs
        → StayWithin most deepest factors (filled spot (v.Fun f (before ++ a ∷ as'))) (hs ++ ks) (filled spot (v.Fun f (before ++ b ∷ bs)))
    stay-both a b as' bs room one more =
        stay-append most deepest factors (filled spot (v.Fun f (before ++ a ∷ as'))) (filled spot (v.Fun f (before ++ b ∷ as'))) (filled spot (v.Fun f (before ++ b ∷ bs))) hs ks
        (stay-first a b as' bs room one) (stay-rest a b as' bs room more)

    pub stay-pairs : (xs ys : List Val) → HaveRoom many deep before xs ys → LeadsEachBy factors n xs (links ∷ pairs) ys
        → StayWithin most deepest factors (filled spot (v.Fun f (before ++ xs))) (hs ++ ks) (filled spot (v.Fun f (before ++ ys)))
    stay-pairs xs ys room l =
        let p = pair-first factors n xs ys links pairs l in
        let there = subst (λ (zs : List Val). HaveRoom many deep before zs (p.b ∷ p.bs)) p.from (subst (λ (zs : List Val). HaveRoom many deep before xs zs) p.to room) in
        subst (λ (zs : List Val). StayWithin most deepest factors (filled spot (v.Fun f (before ++ zs))) (hs ++ ks) (filled spot (v.Fun f (before ++ ys)))) (sym p.from)
        (subst (λ (zs : List Val). StayWithin most deepest factors (filled spot (v.Fun f (before ++ p.a ∷ p.as'))) (hs ++ ks) (filled spot (v.Fun f (before ++ zs)))) (sym p.to)
        (stay-both p.a p.b p.as' p.bs there p.one p.more))

  pub pairs-more : (done : ℕ) (links : List Link) (pairs : List (List Link)) (inner : List ℕ) → inner ≡ place ++ done ∷ [] → (hs ks : List Hop) → AreHops inner links hs
      → ArePairHops place (done + 1) pairs ks → ArePairHops place done (links ∷ pairs) (hs ++ ks)
  pairs-more done links pairs inner inner_is hs ks h k = record {
    stay = λ many deep factors small n xs ys l spot at f before long room most deepest within.
        stay-pairs done links pairs inner inner_is hs ks h k many deep factors small n spot at f before long most deepest within xs ys room l;
    few = λ n c. let p = pair-counted links pairs n c in omega (arith, h.few p.in_first p.one, k.few p.in_rest p.more, p.is, length-append hs ks);
  }

-- ---- pushed
pub pushed-all : (place : List ℕ) (links : List Link) (before made : List Hop) → AreHops place links made → PushesHops place links before (before ++ made)
pushed-all place links before made h = record { hops = made; are = h; is = refl }

pub pushed-as : (place : List ℕ) (links : List Link) (before after : List Hop) → PushesHops place links before (after ++ []) → PushesHops place links before after
pushed-as place links before after h = record { hops = h.hops; are = h.are; is = sym (append-nil after) ∙ h.is }

pub pairs-pushed-as : (place : List ℕ) (pairs : List (List Link)) (before after : List Hop) → PushesPairHops place pairs before (after ++ []) → PushesPairHops place pairs before after
pairs-pushed-as place pairs before after h = record { hops = h.hops; are = h.are; is = sym (append-nil after) ∙ h.is }

pub regrouped-hops : (before mid made1 made2 : List Hop) → mid ≡ before ++ made1 → before ++ (made1 ++ made2) ≡ mid ++ made2
regrouped-hops before mid made1 made2 is = sym (append_assoc before made1 made2) ∙ ap (λ (hs : List Hop). hs ++ made2) (sym is)
