-- Where turns lead, and why they do not.
use Rattle.std.proofs.Common.{◌≡◌, ℕ, zero, suc, ◌-◌, ◌<◌, ◌≤◌, List, [], ◌∷◌, length, take, drop, Option, Some, None, sym, ◌∙◌, subst, arith}
use Rattle.std.specs.Prelude.{MatchOption}
use Rattle.std.proofs.Math.Seq.{take-length}
use denote.Ref.{Bor}
use Rattle.u_terms.specs.Syntax.{U}
use Rattle.u_terms.proofs.Parts.{parts-Sum}
use Rattle.u_terms.specs.Binding.{opened, sums}
use Rattle.u_terms.specs.declared.facts.Facts.{Facts}
use Rattle.u_binder.specs.Changes.{exchanged}
use Rattle.u_rules.specs.Terms.{S}
use Rattle.u_moves.specs.Derivations.{Derivation}
use Rattle.u_congruence.specs.Congruence.{IsFromTo}
use Rattle.term_shapes.specs.Factors.{sum_count}
use Rattle.term_shapes.proofs.Reading.{count-Sum}
use Rattle.shape_entails.specs.Places.{IsAround}
use Rattle.shape_entails.proofs.Putting.{inside-sums}
use Rattle.shape_entails.proofs.Meeting.{go-still, go-turned, end}
use Rattle.u_bag.specs.Rows.{AreMet}
use Rattle.u_bag.proofs.products.Factors.{sums-more}
use Rattle.u_bag.proofs.pairing.Ordered.{summed-there}
use Rattle.u_bag.specs.Shapes.{HasTooManySums}
use Rattle.u_bag.specs.Meeting.{Turn, IsMeeting, IsMeetingAfter, IsMeetingInside, GoesOutward, IsInsideSums}

-- ---- where terms are sums
pub no-sums : (turn : ℕ) (turns : List ℕ) (left right : U) → ((f g : U) → left ≡ S f → right ≡ S g → ⊥) → Turn (turn ∷ turns) left right → ⊥
no-sums turn turns left right none h =
    let f = summed-there left (length turns) h.turning.turned.many_left in
    let g = summed-there right (length turns) h.turning.turned.many_right in
    none f.0 g.0 f.1 g.1

-- where some turn is left
pub no-sums-left : (turns : List ℕ) (left right : U) → 0 < length turns → ((f g : U) → left ≡ S f → right ≡ S g → ⊥) → Turn turns left right → ⊥
no-sums-left [] left right some none h = absurd (omega (arith, some))
no-sums-left (turn ∷ turns) left right some none h = no-sums turn turns left right none h

pub others-few : (turns : List ℕ) → 0 < length turns → length turns ≤ 2048 → length (take (length turns - 1) (drop 1 turns)) < 2048
others-few [] some few = absurd (omega (arith, some))
others-few (turn ∷ turns) some few =
    let n : length turns ≡ length (turn ∷ turns) - 1 = omega arith in
    subst (λ (m : ℕ). length (take m turns) < 2048) n (subst (λ (l : List ℕ). length l < 2048) (sym (take-length turns)) (omega (arith, few)))

pub by-end : (F : Facts) (names : ℕ) (turns : List ℕ) (left right : U) → length turns < 1 → (o : Option Derivation) → AreMet F names left right o → IsMeeting F names turns left right o
by-end F names [] left right none None h = λ t. h (end t.s t.t t.forth t.back left right t.turning)
by-end F names [] left right none (Some d) h = h
by-end F names (turn ∷ turns) left right none o h = absurd (omega (arith, none))

-- ---- inside sums
around-less : (count : ℕ) (f : U) → 0 < count → IsAround count (S f) → IsAround (count - 1) f
around-less zero f some a = absurd (omega (arith, some))
around-less (suc count) f some a =
    let n : count ≡ suc count - 1 = omega arith in
    subst (λ (k : ℕ). IsAround k f) n (record { inside = a.inside; is = parts-Sum f (sums count a.inside) a.is })

pub inside-more : (count : ℕ) (u f g : U) → 0 < count → u ≡ S f → g ≡ f → (o : Option (Bor U)) → IsInsideSums (count - 1) g o → IsInsideSums count u o
inside-more count u f g some is same None h = λ a. h (subst (λ (x : U). IsAround (count - 1) x) (sym same) (around-less count f some (subst (λ (x : U). IsAround count x) is a)))
inside-more count u f g some is same (Some body) h = sums-more count u f body.now some is (sym same ∙ h)

-- ---- one turn
module _ (F : Facts) (names : ℕ) (turns : List ℕ) (f g : U) where
  pub by-still : (turn : ℕ) → turn ≡ 0 → (o : Option Derivation) → IsMeetingInside F names turns f g o → IsMeeting F names (turn ∷ turns) (S f) (S g) o
  by-still turn is None h = λ t. h (still (subst (λ (n : ℕ). Turn (n ∷ turns) (S f) (S g)) is t))
    where
      still : Turn (0 ∷ turns) (S f) (S g) → Turn turns (opened f names) (opened g names)
      still t = record { s = t.s; t = t.t; forth = t.forth; back = t.back; turning = go-still t.s t.t t.forth t.back turns f g names t.turning }
  by-still turn is (Some d) h = h

  -- the turn is among the sums
  turn-among : (turn : ℕ) → Turn (turn ∷ turns) (S f) (S g) → turn ≤ length turns
  turn-among turn t = t.turning.turned.turns_are.0

  pub by-many : (turn : ℕ) → length turns < 2048 → 2048 ≤ turn → Turn (turn ∷ turns) (S f) (S g) → ⊥
  by-many turn few many t = omega (arith, few, many, turn-among turn t)

  pub by-none : (turn : ℕ) → (IsAround turn f → ⊥) → Turn (turn ∷ turns) (S f) (S g) → ⊥
  by-none turn none t =
      let here : turn ≤ length turns = turn-among turn t in
      let many : sum_count (S f) ≡ suc (length turns) = t.turning.turned.many_left in
      let body : sum_count (S f) ≡ suc (sum_count f) = count-Sum f in
      none (inside-sums turn f (omega (arith, here, many, body)))

  pub by-outward : (turn : ℕ) (first : Derivation) → GoesOutward F names turn f first → (o : Option Derivation) → IsMeetingAfter F names turns first g o → IsMeeting F names (turn ∷ turns) (S f) (S g) o
  by-outward turn first out None h = λ t. h (sums turn (exchanged turn 1 out.body)) out.to (go (subst (λ (x : U). Turn (turn ∷ turns) (S x) (S g)) out.is t))
    where
      go : Turn (turn ∷ turns) (S (sums turn out.body)) (S g) → Turn turns (opened (sums turn (exchanged turn 1 out.body)) names) (opened g names)
      go t = record { s = t.s; t = t.t; forth = t.forth; back = t.back; turning = go-turned t.s t.t t.forth t.back turn turns out.body g names t.turning }
  by-outward turn first out (Some d) h = record { facts = h.facts; outs = h.outs; from = h.from ∙ out.from.from; to = h.to }

  pub by-inside : (first : Derivation) → first.to ≡ S f → (o : Option Derivation) → o ≡ None → IsMeetingInside F names turns f g o → (x : U) → first.to ≡ S x → Turn turns (opened x names) (opened g names) → ⊥
  by-inside first to o none h x at t =
      subst (λ (q : Option Derivation). IsMeetingInside F names turns f g q) none h (subst (λ (y : U). Turn turns (opened y names) (opened g names)) (parts-Sum x f (sym at ∙ to)) t)

-- ---- the turns that are found
pub by-turn : (F : Facts) (names : ℕ) (turns : List ℕ) (left right : U) → Turn turns left right → (o : Option Derivation) → IsMeeting F names turns left right o
    → MatchOption o (HasTooManySums left) (IsFromTo F names left right)
by-turn F names turns left right t None h = absurd (h t)
by-turn F names turns left right t (Some d) h = h
