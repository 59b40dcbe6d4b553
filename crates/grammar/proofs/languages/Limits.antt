-- A limit is passed at no more than one token of a text, and at none of a prefix within it. What a text costs that goes on from a prefix with
-- chosen tokens is what the prefix has cost.
use Rattle.std.proofs.Common.{◌≡◌, ℕ, ◌+◌, ◌≤◌, ◌<◌, Bool, true, false, nat_lt, List, [], ◌∷◌, ◌++◌, refl, sym, ◌∙◌, ap, subst, append_assoc, arith}
use Rattle.std.proofs.lemmas.Bool.{ltb-true, ltb-false}
use Rattle.std.proofs.lemmas.List.{append-nil, append_cancel_right}
use Rattle.std.specs.List.{list_all}
use Rattle.grammar.specs.Completions.{Completed, Completes, Overspends, Reaches}
use Rattle.grammar.specs.Language.{HasPrefixes, Includes, Language}
use Rattle.grammar.specs.Limits.{IsFirstBeyond, KeepsWithin, within_cost}
use Rattle.grammar.proofs.languages.Cut.{Cut, longer, same, shorter, cut}

-- a prefix of a prefix is a prefix
abbrev pub IsPrefixClosed : {T A : Type 0} → Language T A → Type 0
IsPrefixClosed B = (x y : List _) → B.prefix (x ++ y) → B.prefix x

module _ {T A : Type 0} (U B : Language T A) (b : IsPrefixClosed B) where
  -- no token of a prefix within the limit passes it
  pub kept : (ts : List T) → B.prefix ts → KeepsWithin U B ts
  kept ts f x more t e d = d.beyond (b (x ++ t ∷ []) more (subst B.prefix (e ∙ sym (append_assoc x (t ∷ []) more)) f))

  pub passed_once : (x more y others : List T) (t u : T) → IsFirstBeyond U B x t → IsFirstBeyond U B y u → x ++ t ∷ more ≡ y ++ u ∷ others → (x ≡ y) × (t ≡ u)
  passed_once x more y others t u d e i = go (cut x (t ∷ more) y (u ∷ others) i)
    where
      first : (t u : T) (k l : List T) → t ∷ k ≡ u ∷ l → t ≡ u
      first t u k l i = cc

      go : Cut x (t ∷ more) y (u ∷ others) → (x ≡ y) × (t ≡ u)
      go (longer c k p q) = absurd (kept y e.within x k t (p ∙ ap (λ z. x ++ z ∷ k) (sym (first t c more (k ++ u ∷ others) q))) d)
      go (same p q) = (sym p, sym (first u t others more q))
      go (shorter c k p q) = absurd (kept x d.within y k u (p ∙ ap (λ z. y ++ z ∷ k) (sym (first u c others (k ++ t ∷ more) q))) e)

-- ---- completions

module _ {T A : Type 0} {chosen : T → Bool} {L : Language T A} where
  -- what is spelled is completed by nothing
  pub whole_completed : (ts : List T) (v : A) → L.spells ts v → Completes chosen L ts v
  whole_completed ts v s = record { more = []; are_chosen = refl; spelled = subst (λ z. L.spells z v) (sym (append-nil ts)) s }

  pub completed_begins : HasPrefixes L → (ts : List T) (v : A) → Completes chosen L ts v → L.prefix ts
  completed_begins f ts v c = f.shorter ts c.more (f.spelled (ts ++ c.more) v c.spelled)

  pub completed_in : {M : Language T A} → Includes M L → (ts : List T) (v : A) → Completes chosen L ts v → Completes chosen M ts v
  completed_in m ts v c = record { more = c.more; are_chosen = c.are_chosen; spelled = m.spells (ts ++ c.more) v c.spelled }

  -- what stands here before the rest
  pub reached : (here taken rest : List T) (v : A) → here ≡ taken ++ rest → Reaches chosen L here v rest → Completes chosen L taken v
  reached here taken rest v i r = subst (λ z. Completes chosen L z v) (append_cancel_right r.taken taken rest (sym r.whole ∙ i)) r.completes

  pub reached_in : {M : Language T A} → Includes M L → (here rest : List T) (v : A) → Reaches chosen L here v rest → Reaches chosen M here v rest
  reached_in m here rest v r = record { taken = r.taken; whole = r.whole; completes = completed_in m r.taken v r.completes }

  pub overspends_in : {M : Language T A} → Includes M L → (cost : A → ℕ) (most spent : ℕ) (here rest : List T) → Overspends chosen L cost most spent here rest → Overspends chosen M cost most spent here rest
  overspends_in m cost most spent here rest o = record {
    before = o.before;
    up_to = reached_in m here rest o.before o.up_to;
    within = o.within;
    token = o.token;
    more = o.more;
    next = o.next;
    with_it = o.with_it;
    and_it = reached_in m here o.more o.with_it o.and_it;
    too_much = o.too_much;
  }

-- Each prefix goes on with chosen tokens to a whole text, and that costs no more than any other that goes on from there.
pub record CostsByCompletion {T A : Type 0} (chosen : T → Bool) (L : Language T A) (cost : A → ℕ) : Type 0 where
  pub prefixes : HasPrefixes L
  pub completed : (ts : List T) → L.prefix ts → Completed chosen L ts
  pub least : (x y z : List T) (v w : A) → list_all chosen y ≡ true → L.spells (x ++ y) v → L.spells (x ++ z) w → cost v ≤ cost w

module _ {T A : Type 0} {chosen : T → Bool} {L : Language T A} {cost : A → ℕ} (m : CostsByCompletion chosen L cost) where
  -- a longer prefix has cost no less
  pub grows : (x y : List T) (v w : A) → Completes chosen L (x ++ y) w → Completes chosen L x v → cost v ≤ cost w
  grows x y v w d c = m.least x c.more (y ++ d.more) v w c.are_chosen c.spelled (subst (λ z. L.spells z w) (append_assoc x y d.more) d.spelled)

  -- a prefix has cost one number
  pub one_cost : (ts : List T) (v w : A) → Completes chosen L ts v → Completes chosen L ts w → cost v ≡ cost w
  one_cost ts v w c d = both (grows ts [] v w (padded w d) c) (grows ts [] w v (padded v c) d)
    where
      padded : (u : A) → Completes chosen L ts u → Completes chosen L (ts ++ []) u
      padded u = subst (λ z. Completes chosen L z u) (sym (append-nil ts))

      both : cost v ≤ cost w → cost w ≤ cost v → cost v ≡ cost w
      both i j = omega (arith, i, j)

  module _ (most spent : ℕ) where
    abbrev Within : Language T A
    Within = within_cost chosen cost most spent L

    pub within_cost_closed : IsPrefixClosed Within
    within_cost_closed x y (v, c, l) =
        let r = m.completed x (m.prefixes.shorter x y (completed_begins m.prefixes (x ++ y) v c)) in (r.value, r.by, few (grows x y r.value v c r.by))
      where
        few : {n : ℕ} → n ≤ cost v → spent + n ≤ most
        few i = omega (arith, i, l)

    -- where what completes it costs too much, it is no prefix within the limit
    pub beyond_cost : (ts : List T) (v : A) → Completes chosen L ts v → most < spent + cost v → Within.prefix ts → ⊥
    beyond_cost ts v c o (w, d, l) = omega (arith, one_cost ts v w c d, o, l)

    pub whole_within_cost : (ts : List T) (v : A) → Within.spells ts v → Within.prefix ts
    whole_within_cost ts v s = (v, whole_completed ts v s.0, s.1)

    pub kept_within_cost : (ts : List T) → Within.prefix ts → KeepsWithin L Within ts
    kept_within_cost = kept L Within within_cost_closed

    pub cost_passed_once : (x more y others : List T) (t u : T) → IsFirstBeyond L Within x t → IsFirstBeyond L Within y u → x ++ t ∷ more ≡ y ++ u ∷ others → (x ≡ y) × (t ≡ u)
    cost_passed_once = passed_once L Within within_cost_closed

    -- the limit is passed at a token where within it the cost is no more than the most, and with it more
    pub first_beyond : (x : List T) (t : T) (v w : A) → Completes chosen L x v → spent + cost v ≤ most → Completes chosen L (x ++ t ∷ []) w → most < spent + cost w → IsFirstBeyond L Within x t
    first_beyond x t v w c l d o = record { goes_on = completed_begins m.prefixes (x ++ t ∷ []) w d; within = (v, c, l); beyond = beyond_cost (x ++ t ∷ []) w d o }

    pub costs_at_beyond : (x : List T) (t : T) (v w : A) → Completes chosen L x v → Completes chosen L (x ++ t ∷ []) w → IsFirstBeyond L Within x t → (spent + cost v ≤ most) × (most < spent + cost w)
    costs_at_beyond x t v w c d b = (cheap b.within, dear (nat_lt most (spent + cost w)) refl)
      where
        cheap : Within.prefix x → spent + cost v ≤ most
        cheap (u, e, l) = omega (arith, one_cost x v u c e, l)

        dear : (l : Bool) → nat_lt most (spent + cost w) ≡ l → most < spent + cost w
        dear true e = ltb-true most (spent + cost w) e
        dear false e = absurd (b.beyond (w, d, ltb-false most (spent + cost w) e))

    pub overspends_beyond : (here before rest : List T) (t : T) → here ≡ before ++ t ∷ rest → Overspends chosen L cost most spent here (t ∷ rest) → IsFirstBeyond L Within before t
    overspends_beyond here before rest t i o =
        first_beyond before t o.before o.with_it (reached here before (t ∷ rest) o.before i o.up_to) o.within
        (reached here (before ++ t ∷ []) rest o.with_it (i ∙ sym (append_assoc before (t ∷ []) rest)) (subst (Reaches chosen L here o.with_it) (tail_of o.token t o.more rest (sym o.next)) o.and_it))
        o.too_much
      where
        tail_of : (t u : T) (x y : List T) → t ∷ x ≡ u ∷ y → x ≡ y
        tail_of t u x y e = cc
