-- One turn after the other, until both terms have their sums in one order.
use Rattle.std.proofs.Common.{◌≡◌, ◌≢◌, ℕ, suc, ◌+◌, ◌-◌, ◌<◌, ◌≤◌, inl, inr, Bool, true, false, List, [], ◌∷◌, length, refl, ap, sym, ◌∙◌, subst, arith}
use Rattle.std.specs.Prelude.{◌⊎◌, nat_eq, nat_lt, if◌then◌else◌}
use Rattle.std.proofs.lemmas.Bool.{cases_Bool}
use Rattle.std.proofs.lemmas.Bool.Decides.{nat_tests}
use Rattle.u_terms.specs.Syntax.{U, Val, Bound, constructors}
use Rattle.u_terms.specs.declared.term.Val.TheVariants as v
use Rattle.u_terms.specs.Binding.{mapped_value, same_name, sums, opened, value_for_place}
use Rattle.u_terms.proofs.Mapped.{mapped-Bound, mapped-Free}
use Rattle.u_rules.specs.Terms.{S}
use Rattle.u_binder.specs.Changes.{exchanged, moved_at}
use Rattle.indexmap.proofs.IndexTableLemmas.Probe.{pigeonhole}
use Rattle.shapes.specs.Shapes.{Point, column, literal, Entry, Shape, entry_of, IsPoint}
use Rattle.shapes.specs.Alike.{Pairing}
use Rattle.term_shapes.specs.Factors.{sum_count, under_sums}
use Rattle.term_shapes.proofs.Reading.{count-Sum, under-Sum}
use Rattle.shape_entails.specs.Values.{point_value}
use Rattle.shape_entails.specs.Places.{IsPlace, ArePlaces}
use Rattle.shape_entails.specs.Matched.{SameValues}
use Rattle.shape_entails.specs.Turning.{source, AreTurns, Goes, a_name, a_place, IsTurned}
use Rattle.shape_entails.proofs.Putting.{value-under, count-put, around-under, around-count}

-- ---- choices
yes : {X : Type 0} (b : Bool) (x y : X) → b ≡ true → (if b then x else y) ≡ x
yes true x y e = refl
yes false x y e = absurd (grind (arith, e))

no-so : {X : Type 0} (b : Bool) (x y : X) → b ≡ false → (if b then x else y) ≡ y
no-so false x y e = refl
no-so true x y e = absurd (grind (arith, e))

-- ---- where places come from
pub source-last : (turn : ℕ) (turns : List ℕ) → source (turn ∷ turns) (length turns) ≡ length turns - turn
unfolding source
source-last turn turns = yes (nat_eq (length turns) (length turns)) (length turns - turn) _ (grind (arith, nat_tests))

-- one of the others, as it is, or one further out
pub data HowLater (turn : ℕ) (turns : List ℕ) (place : ℕ) : Type 0 where
  inside : source turns place < length turns - turn → source (turn ∷ turns) place ≡ source turns place → HowLater turn turns place
  outside : length turns - turn ≤ source turns place → source (turn ∷ turns) place ≡ source turns place + 1 → HowLater turn turns place

pub source-later : (turn : ℕ) (turns : List ℕ) (place : ℕ) → place < length turns → HowLater turn turns place
unfolding source
source-later turn turns place less = elim (cases_Bool (nat_lt (source turns place) (length turns - turn))) [
  | inl is ↦ inside (grind (arith, nat_tests)) (no-so (nat_eq place (length turns)) (length turns - turn) _ other ∙ yes (nat_lt (source turns place) (length turns - turn)) (source turns place) (source turns place + 1) is)
  | inr isnt ↦ outside (grind (arith, nat_tests)) (no-so (nat_eq place (length turns)) (length turns - turn) _ other ∙ no-so (nat_lt (source turns place) (length turns - turn)) (source turns place) (source turns place + 1) isnt)
]
  where
    other : nat_eq place (length turns) ≡ false
    other = let apart : place ≢ length turns = omega (arith, less) in grind (arith, nat_tests)

-- the outermost place, or one of the others
pub last-or-later : (n place : ℕ) → place < suc n → (place ≡ n) ⊎ (place < n)
last-or-later n place less = elim (cases_Bool (nat_eq place n)) [
  | inl is ↦ inl (grind (arith, nat_tests))
  | inr isnt ↦ inr (let apart : place ≢ n = grind (arith, nat_tests) in omega (arith, less, apart))
]

pub source-below : (turns : List ℕ) → AreTurns turns → (place : ℕ) → place < length turns → source turns place < length turns
source-below [] h place less = absurd (omega (arith, less))
source-below (turn ∷ turns) h place less = elim (last-or-later (length turns) place less) [
  | inl is ↦ let e : source (turn ∷ turns) place ≡ length turns - turn = ap (source (turn ∷ turns)) is ∙ source-last turn turns in omega (arith, e)
  | inr later ↦ at (source-later turn turns place later) (source-below turns h.1 place later)
]
  where
    at : HowLater turn turns place → source turns place < length turns → source (turn ∷ turns) place < suc (length turns)
    at (inside low e) below = omega (arith, e, below)
    at (outside low e) below = omega (arith, e, below)

-- ---- a sum that is opened
opened-value : ℕ → ℕ → Val → Val
opened-value name k value = mapped_value (value_for_place (v.Free name)) same_name k value

opened-last : (name k : ℕ) → opened-value name k (v.Bound k) ≡ v.Free name
unfolding opened-value
opened-last name k = mapped-Bound (value_for_place (v.Free name)) same_name k k ∙ yes (nat_eq k k) (v.Free name) (v.Bound k) (grind (arith, nat_tests))

opened-other : (name k place : ℕ) → place ≢ k → opened-value name k (v.Bound place) ≡ v.Bound place
unfolding opened-value
opened-other name k place apart = mapped-Bound (value_for_place (v.Free name)) same_name k place ∙ no-so (nat_eq place k) (v.Free name) (v.Bound place) (grind (arith, nat_tests))

opened-name : (name k other : ℕ) → opened-value name k (v.Free other) ≡ v.Free other
unfolding opened-value
opened-name name k other = mapped-Free (value_for_place (v.Free name)) same_name k other

-- ---- a sum inside so many others that goes outside them
turned-value : ℕ → ℕ → Val → Val
turned-value turn k value = mapped_value (moved_at turn 1) same_name k value

turned-inside : (turn k place : ℕ) → place < k → turned-value turn k (v.Bound place) ≡ v.Bound place
unfolding turned-value
turned-inside turn k place less = mapped-Bound (moved_at turn 1) same_name k place ∙ ap v.Bound (yes (nat_lt place k) place _ (grind (arith, nat_tests)))

turned-first : (turn k : ℕ) → turned-value turn k (v.Bound k) ≡ v.Bound (k + turn)
unfolding turned-value
turned-first turn k =
    mapped-Bound (moved_at turn 1) same_name k k
    ∙ ap v.Bound (no-so (nat_lt k k) k _ (grind (arith, nat_tests)) ∙ yes (nat_lt k (k + 1)) (k + turn) _ (let less : k < k + 1 = omega arith in grind (arith, nat_tests)))

turned-outside : (turn k place : ℕ) → k ≤ place → place < k + turn → turned-value turn k (v.Bound (place + 1)) ≡ v.Bound place
unfolding turned-value
turned-outside turn k place low high =
    let one : nat_lt (place + 1) k ≡ false = not-less (place + 1) k (omega (arith, low)) in
    let two : nat_lt (place + 1) (k + 1) ≡ false = not-less (place + 1) (k + 1) (omega (arith, low)) in
    let three : nat_lt (place + 1) (k + 1 + turn) ≡ true = is-less (place + 1) (k + 1 + turn) (omega (arith, high)) in
    let back : place + 1 - 1 ≡ place = omega arith in
    mapped-Bound (moved_at turn 1) same_name k (place + 1)
    ∙ ap v.Bound (no-so (nat_lt (place + 1) k) (place + 1) _ one ∙ no-so (nat_lt (place + 1) (k + 1)) (place + 1 + turn) _ two ∙ yes (nat_lt (place + 1) (k + 1 + turn)) (place + 1 - 1) (place + 1) three ∙ back)
  where
    not-less : (a b : ℕ) → b ≤ a → nat_lt a b ≡ false
    not-less a b h = grind (arith, nat_tests)

    is-less : (a b : ℕ) → a < b → nat_lt a b ≡ true
    is-less a b h = grind (arith, nat_tests)

turned-name : (turn k other : ℕ) → turned-value turn k (v.Free other) ≡ v.Free other
unfolding turned-value
turned-name turn k other = mapped-Free (moved_at turn 1) same_name k other

-- ---- one turn: k sums are inside the one that goes outermost
module _ (turn k name : ℕ) (turns : List ℕ) (long : length turns ≡ k + turn) (turns_are : AreTurns turns) where
  goes-place : (place : ℕ) → place < suc (length turns)
      → Goes turns (opened-value name (k + turn) (turned-value turn k (v.Bound (source (turn ∷ turns) place)))) (opened-value name (k + turn) (v.Bound place))
  goes-place place less = elim (last-or-later (length turns) place less) [
    | inl is ↦
        let at : source (turn ∷ turns) place ≡ k = ap (source (turn ∷ turns)) is ∙ source-last turn turns ∙ omega (arith, long) in
        let from : opened-value name (k + turn) (turned-value turn k (v.Bound (source (turn ∷ turns) place))) ≡ v.Free name =
        ap (λ n. opened-value name (k + turn) (turned-value turn k (v.Bound n))) at ∙ ap (opened-value name (k + turn)) (turned-first turn k) ∙ opened-last name (k + turn) in
        let to : opened-value name (k + turn) (v.Bound place) ≡ v.Free name = ap (λ n. opened-value name (k + turn) (v.Bound n)) (is ∙ long) ∙ opened-last name (k + turn) in
        subst (λ x. Goes turns x (opened-value name (k + turn) (v.Bound place))) (sym from) (subst (Goes turns (v.Free name)) (sym to) (a_name name))
    | inr later ↦
        let to : opened-value name (k + turn) (v.Bound place) ≡ v.Bound place = opened-other name (k + turn) place (omega (arith, later, long)) in
        subst (λ x. Goes turns x (opened-value name (k + turn) (v.Bound place))) (sym (from later (source-later turn turns place later) (source-below turns turns_are place later)))
        (subst (Goes turns (v.Bound (source turns place))) (sym to) (a_place place later))
  ]
    where
      from : place < length turns → HowLater turn turns place → source turns place < length turns
          → opened-value name (k + turn) (turned-value turn k (v.Bound (source (turn ∷ turns) place))) ≡ v.Bound (source turns place)
      from later (inside low e) below =
          ap (λ n. opened-value name (k + turn) (turned-value turn k (v.Bound n))) e ∙ ap (opened-value name (k + turn)) (turned-inside turn k (source turns place) (omega (arith, low, long)))
          ∙ opened-other name (k + turn) (source turns place) (omega (arith, below, long))
      from later (outside low e) below =
          ap (λ n. opened-value name (k + turn) (turned-value turn k (v.Bound n))) e
          ∙ ap (opened-value name (k + turn)) (turned-outside turn k (source turns place) (omega (arith, low, long)) (omega (arith, below, long)))
          ∙ opened-other name (k + turn) (source turns place) (omega (arith, below, long))

  goes-on : (x y : Val) → Goes (turn ∷ turns) x y → Goes turns (opened-value name (k + turn) (turned-value turn k x)) (opened-value name (k + turn) y)
  goes-on x y (a_name other) =
      subst (λ z. Goes turns z (opened-value name (k + turn) (v.Free other))) (sym (ap (opened-value name (k + turn)) (turned-name turn k other) ∙ opened-name name (k + turn) other))
      (subst (Goes turns (v.Free other)) (sym (opened-name name (k + turn) other)) (a_name other))
  goes-on x y (a_place place less) = goes-place place less

pub turned-once : (s : Shape) (forth : ℕ → ℕ) (turn : ℕ) (turns : List ℕ) (body g : U) (name : ℕ) → IsTurned s forth (turn ∷ turns) (S (sums turn body)) (S g)
    → IsTurned s forth turns (opened (sums turn (exchanged turn 1 body)) name) (opened g name)
unfolding opened-value turned-value
turned-once s forth turn turns body g name h = record {
  turns_are = h.turns_are.1;
  many_left = count-put (value_for_place (v.Free name)) 0 (sums turn (exchanged turn 1 body)) ∙ many_inside;
  many_right = count-put (value_for_place (v.Free name)) 0 g ∙ many_g;
  goes = λ e c i. subst (λ x. Goes turns x (point_value (under_sums (opened g name)) (column (forth e) c))) (sym (left_value (column e c)))
      (subst (Goes turns (opened-value name (sum_count body + turn) (turned-value turn (sum_count body) (point_value (under_sums body) (column e c))))) (sym (right_value (column (forth e) c)))
      (goes-on turn (sum_count body) name turns many h.turns_are.1 (point_value (under_sums body) (column e c)) (point_value (under_sums g) (column (forth e) c))
      (subst (λ (w : U). Goes (turn ∷ turns) (point_value w (column e c)) (point_value (under_sums g) (column (forth e) c))) (under-Sum (sums turn body) ∙ around-under turn body)
      (subst (λ (w : U). Goes (turn ∷ turns) (point_value (under_sums (S (sums turn body))) (column e c)) (point_value w (column (forth e) c))) (under-Sum g) (h.goes e c i)))));
}
  where
    many : length turns ≡ sum_count body + turn
    many = let a : sum_count (S (sums turn body)) ≡ suc (turn + sum_count body) = count-Sum (sums turn body) ∙ ap suc (around-count turn body) in omega (arith, h.many_left, a)

    many_g : sum_count g ≡ length turns
    many_g = omega (arith, h.many_right, count-Sum g)

    many_inside : sum_count (sums turn (exchanged turn 1 body)) ≡ length turns
    many_inside = around-count turn (exchanged turn 1 body) ∙ ap (λ n. turn + n) (count-put (moved_at turn 1) 0 body) ∙ omega (arith, many)

    left_value : (p : Point) → point_value (under_sums (opened (sums turn (exchanged turn 1 body)) name)) p
        ≡ opened-value name (sum_count body + turn) (turned-value turn (sum_count body) (point_value (under_sums body) p))
    left_value p =
        let deep : 0 + sum_count (sums turn (exchanged turn 1 body)) ≡ sum_count body + turn = omega (arith, many_inside, many) in
        let deep_in : 0 + sum_count body ≡ sum_count body = omega arith in
        value-under (value_for_place (v.Free name)) 0 (sums turn (exchanged turn 1 body)) p
        ∙ ap (λ n. mapped_value (value_for_place (v.Free name)) same_name n (point_value (under_sums (sums turn (exchanged turn 1 body))) p)) deep
        ∙ ap (λ (w : U). mapped_value (value_for_place (v.Free name)) same_name (sum_count body + turn) (point_value w p)) (around-under turn (exchanged turn 1 body))
        ∙ ap (mapped_value (value_for_place (v.Free name)) same_name (sum_count body + turn))
        (value-under (moved_at turn 1) 0 body p ∙ ap (λ n. mapped_value (moved_at turn 1) same_name n (point_value (under_sums body) p)) deep_in)

    right_value : (p : Point) → point_value (under_sums (opened g name)) p ≡ opened-value name (sum_count body + turn) (point_value (under_sums g) p)
    right_value p =
        let deep : 0 + sum_count g ≡ sum_count body + turn = omega (arith, many_g, many) in
        value-under (value_for_place (v.Free name)) 0 g p ∙ ap (λ n. mapped_value (value_for_place (v.Free name)) same_name n (point_value (under_sums g) p)) deep

-- ---- a turn that leaves the sums in their order
goes-still : (k name : ℕ) (turns : List ℕ) → length turns ≡ k + 0 → AreTurns turns → (x y : Val) → Goes (0 ∷ turns) x y → Goes turns (opened-value name (k + 0) x) (opened-value name (k + 0) y)
goes-still k name turns long turns_are x y h = subst (λ z. Goes turns (opened-value name (k + 0) z) (opened-value name (k + 0) y)) (still x y h) (goes-on 0 k name turns long turns_are x y h)
  where
    at : (place : ℕ) → place < suc k → turned-value 0 k (v.Bound place) ≡ v.Bound place
    at place less = elim (last-or-later k place less) [
      | inl is ↦ let same : k + 0 ≡ place = omega (arith, is) in ap (λ n. turned-value 0 k (v.Bound n)) is ∙ turned-first 0 k ∙ ap v.Bound same
      | inr later ↦ turned-inside 0 k place later
    ]

    still : (x y : Val) → Goes (0 ∷ turns) x y → turned-value 0 k x ≡ x
    still x y (a_name name) = turned-name 0 k name
    still x y (a_place place less) = at (source (0 ∷ turns) place) (let low = source-below (0 ∷ turns) (omega arith, turns_are) place less in omega (arith, low, long))

pub turned-still : (s : Shape) (forth : ℕ → ℕ) (turns : List ℕ) (f g : U) (name : ℕ) → IsTurned s forth (0 ∷ turns) (S f) (S g) → IsTurned s forth turns (opened f name) (opened g name)
unfolding opened-value
turned-still s forth turns f g name h = record {
  turns_are = h.turns_are.1;
  many_left = count-put (value_for_place (v.Free name)) 0 f ∙ many_f;
  many_right = count-put (value_for_place (v.Free name)) 0 g ∙ many_g;
  goes = λ e c i. subst (λ x. Goes turns x (point_value (under_sums (opened g name)) (column (forth e) c))) (sym (value_is f (omega (arith, many_f)) (column e c)))
      (subst (Goes turns (opened-value name (length turns + 0) (point_value (under_sums f) (column e c)))) (sym (value_is g (omega (arith, many_g)) (column (forth e) c)))
      (goes-still (length turns) name turns (omega arith) h.turns_are.1 (point_value (under_sums f) (column e c)) (point_value (under_sums g) (column (forth e) c))
      (subst (λ (w : U). Goes (0 ∷ turns) (point_value w (column e c)) (point_value (under_sums g) (column (forth e) c))) (under-Sum f)
      (subst (λ (w : U). Goes (0 ∷ turns) (point_value (under_sums (S f)) (column e c)) (point_value w (column (forth e) c))) (under-Sum g) (h.goes e c i)))));
}
  where
    many_f : sum_count f ≡ length turns
    many_f = omega (arith, h.many_left, count-Sum f)

    many_g : sum_count g ≡ length turns
    many_g = omega (arith, h.many_right, count-Sum g)

    value_is : (w : U) → 0 + sum_count w ≡ length turns + 0 → (p : Point) → point_value (under_sums (opened w name)) p ≡ opened-value name (length turns + 0) (point_value (under_sums w) p)
    value_is w deep p = value-under (value_for_place (v.Free name)) 0 w p ∙ ap (λ n. mapped_value (value_for_place (v.Free name)) same_name n (point_value (under_sums w) p)) deep

-- ---- no turn is left
pub turned-all : (s : Shape) (forth : ℕ → ℕ) (left right : U) → IsTurned s forth [] left right → SameValues s forth (under_sums left) (under_sums right)
turned-all s forth left right h (literal number) i = refl
turned-all s forth left right h (column e c) i = at (point_value (under_sums left) (column e c)) (point_value (under_sums right) (column (forth e) c)) (h.goes e c i)
  where
    at : (x y : Val) → Goes [] x y → y ≡ x
    at x y (a_name name) = refl
    at x y (a_place place less) = absurd (omega (arith, less))

-- ---- the first turn
number-of : Val → ℕ
number-of (Bound place) = place
number-of _ = 0

number-place : (place : ℕ) → number-of (v.Bound place) ≡ place
unfolding number-of constructors
number-place place = refl

module _ (s t : Shape) (forth back : ℕ → ℕ) (forth_in : (e : ℕ) → e < length s.entries → forth e < length t.entries) (back_forth : (e : ℕ) → e < length s.entries → back (forth e) ≡ e)
    (tables : (e : ℕ) → e < length s.entries → entry_of t.entries (forth e) ≡ entry_of s.entries e) (n m : ℕ) (b c : U) (in_b : ArePlaces s n b) (in_c : ArePlaces t m c) where
  -- the place of the image of the column that has the place
  image : (i : ℕ) → (i < n) ⊎ (n ≤ i) → ℕ
  image i (inl less) = let k = in_b.columns i less in number-of (point_value c (column (forth k.entry) k.of_entry))
  image i (inr past) = 0

  image-point : (i : ℕ) (less : i < n) → IsPoint t.entries (column (forth (in_b.columns i less).entry) (in_b.columns i less).of_entry)
  image-point i less =
      let k = in_b.columns i less in
      (forth_in k.entry k.is_point.0, subst (λ (e : Entry). k.of_entry < e.columns) (sym (tables k.entry k.is_point.0)) k.is_point.1)

  image-is : (i : ℕ) (less : i < n) → IsPlace m (point_value c (column (forth (in_b.columns i less).entry) (in_b.columns i less).of_entry))
  image-is i less = in_c.places (forth (in_b.columns i less).entry) (in_b.columns i less).of_entry (image-point i less)

  numbered : (i : ℕ) (less : i < n) → point_value c (column (forth (in_b.columns i less).entry) (in_b.columns i less).of_entry) ≡ v.Bound (image i (inl less))
  unfolding image
  numbered i less = let k = image-is i less in k.is ∙ ap v.Bound (sym (ap number-of k.is ∙ number-place k.place))

  image-below : (i : ℕ) (w : (i < n) ⊎ (n ≤ i)) → i < n → image i w < m
  unfolding image
  image-below i (inl less) l = let k = image-is i less in let e : image i (inl less) ≡ k.place = ap number-of k.is ∙ number-place k.place in omega (arith, e, k.below)
  image-below i (inr past) l = absurd (omega (arith, l, past))

  image-apart : (i j : ℕ) (w : (i < n) ⊎ (n ≤ i)) (z : (j < n) ⊎ (n ≤ j)) → i < n → j < n → image i w ≡ image j z → i ≡ j
  image-apart i j (inl less) (inl within) l k same =
      let x = in_b.columns i less in
      let y = in_b.columns j within in
      let columns = in_c.apart (forth x.entry) x.of_entry (forth y.entry) y.of_entry (image-point i less) (image-point j within) (numbered i less ∙ ap v.Bound same ∙ sym (numbered j within)) in
      let entries : x.entry ≡ y.entry = sym (back_forth x.entry x.is_point.0) ∙ ap (λ p. back (entry-of p)) columns ∙ back_forth y.entry y.is_point.0 in
      sym (number-place i) ∙ ap number-of (sym x.is ∙ ap (λ e. point_value b (column e x.of_entry)) entries ∙ ap (λ d. point_value b (column y.entry d)) (ap column-of columns) ∙ y.is) ∙ number-place j
    where
      entry-of : Point → ℕ
      entry-of (column e d) = e
      entry-of (literal number) = 0

      column-of : Point → ℕ
      column-of (column e d) = d
      column-of (literal number) = 0
  image-apart i j (inr past) z l k same = absurd (omega (arith, l, past))
  image-apart i j (inl less) (inr past) l k same = absurd (omega (arith, k, past))

  below-or-past : (i : ℕ) → (i < n) ⊎ (n ≤ i)
  below-or-past i = elim (cases_Bool (nat_lt i n)) [ inl is ↦ inl (grind (arith, nat_tests)) | inr isnt ↦ inr (grind (arith, nat_tests)) ]

  no-more : n ≤ m
  no-more = pigeonhole n m (λ i. image i (below-or-past i)) (λ i less. image-below i (below-or-past i) less) (λ i j less within same. image-apart i j (below-or-past i) (below-or-past j) less within same)

-- terms whose shapes are paired have as many sums
pub as-many-sums : (s t : Shape) (forth back : ℕ → ℕ) → Pairing s t forth back → (n m : ℕ) (b c : U) → ArePlaces s n b → ArePlaces t m c → n ≡ m
as-many-sums s t forth back h n m b c in_b in_c =
    let one = no-more s t forth back h.forth_in h.back_forth h.tables n m b c in_b in_c in
    let two = no-more t s back forth h.back_in h.forth_back (λ e less. sym (h.tables (back e) (h.back_in e less)) ∙ ap (entry_of t.entries) (h.forth_back e less)) m n c b in_c in_b in
    omega (arith, one, two)

pub turning : (s t : Shape) (forth back : ℕ → ℕ) → Pairing s t forth back → (left right : U) → ArePlaces s (sum_count left) (under_sums left) → ArePlaces t (sum_count right) (under_sums right)
    → (turns : List ℕ) → AreTurns turns → sum_count left ≡ length turns
    → ((e c i j : ℕ) → IsPoint s.entries (column e c) → point_value (under_sums left) (column e c) ≡ v.Bound i → point_value (under_sums right) (column (forth e) c) ≡ v.Bound j → i ≡ source turns j)
    → IsTurned s forth turns left right
turning s t forth back h left right in_left in_right turns turns_are many comes = record {
  turns_are = turns_are;
  many_left = many;
  many_right = sym same ∙ many;
  goes = λ e c i.
      let x = in_left.places e c i in
      let y = in_right.places (forth e) c (h.forth_in e i.0, subst (λ (n : Entry). c < n.columns) (sym (h.tables e i.0)) i.1) in
      subst (λ z. Goes turns z (point_value (under_sums right) (column (forth e) c))) (sym (x.is ∙ ap v.Bound (comes e c x.place y.place i x.is y.is)))
      (subst (Goes turns (v.Bound (source turns y.place))) (sym y.is) (a_place y.place (omega (arith, y.below, same, many))));
}
  where
    same : sum_count left ≡ sum_count right
    same = as-many-sums s t forth back h (sum_count left) (sum_count right) (under_sums left) (under_sums right) in_left in_right
