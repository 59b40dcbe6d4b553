-- What opening and closing do to the meaning of a term, and to each other.
use Rattle.std.proofs.Common.{◌≡◌, ◌≢◌, ℕ, zero, suc, ◌+◌, ◌-◌, ◌<◌, ◌≤◌, Bool, true, false, List, [], ◌∷◌, length, get_or, refl, ap, sym, ◌∙◌, arith, inl, inr}
use Rattle.std.specs.Prelude.{nat_eq, nat_le, nat_lt, ◌&&◌, ◌⊎◌, if◌then◌else◌}
use Rattle.std.proofs.lemmas.Bool.{cases_Bool}
use Rattle.std.proofs.lemmas.Bool.Decides.{nat_tests}
use mathlib.Core.Path.{fun_ext}
use Rattle.data_model.specs.Numbers.{squash, negate, one_if}
use Rattle.data_model.specs.Rows.{Row, occurrences}
use Rattle.data_model.specs.Reading.{Reading, function_value, predicate_holds, aggregate_value}
use Rattle.data_model.specs.Database.{Database, table_rows}
use Rattle.data_model.proofs.Sums.{sum_below-same}
use Rattle.u_terms.specs.declared.term.U.TheVariants as u
use Rattle.u_terms.specs.Syntax.{U, Zero, One, Add, Mul, Squash, Not, Sum, Rel, Eq, Pred, Val, Bound, Free, Lit, Fun, Agg, Vals, NoVals, ValThen, constructors}
use Rattle.u_terms.specs.Places.{IsClosed, IsClosedValue}
use Rattle.u_terms.specs.Names.{EachName, EachNameValue, EachNameRow, IsUnused, fresh}
use Rattle.u_terms.specs.Meaning.{put, meaning, value_meaning, row_meaning}
use Rattle.u_terms.specs.Binding.{mapped, mapped_value, mapped_row, same_place, same_name, value_for_place, place_for_name, place_for_names, opened_with, opened, closed_at, closed_path, sums, sums_over_names, put_path}
use Rattle.u_terms.proofs.Agreement.{get_or-put_same, get_or-put_other, list_below-same, meaning-anywhere, value_meaning-anywhere}
use Rattle.u_terms.proofs.FreeNames.{below-fresh}

-- ---- meaning
-- Fits k p q: inside k binders, where the places of the new term are p, what was put means what the old term has at the places q
module _ (n : ℕ) (reading : Reading) (db : Database) (names others : List ℕ) (at_place at_name : ℕ → ℕ → Val) (Fits : ℕ → List ℕ → List ℕ → Type 0)
    (place_means : (k i : ℕ) (p q : List ℕ) → Fits k p q → value_meaning n reading db names p (at_place k i) ≡ get_or q i 0)
    (name_means : (k x : ℕ) (p q : List ℕ) → Fits k p q → value_meaning n reading db names p (at_name k x) ≡ get_or others x 0)
    (inside : (k v : ℕ) (p q : List ℕ) → Fits k p q → Fits (k + 1) (v ∷ p) (v ∷ q)) where
  mutual
    unfolding meaning mapped

    pub meaning-mapped : (u : U) (k : ℕ) (p q : List ℕ) → Fits k p q → meaning n reading db names p (mapped at_place at_name k u) ≡ meaning n reading db others q u
    meaning-mapped Zero k p q fits = refl
    meaning-mapped One k p q fits = refl
    meaning-mapped (Add a b) k p q fits = rw (meaning-mapped a k p q fits, meaning-mapped b k p q fits) refl
    meaning-mapped (Mul a b) k p q fits = rw (meaning-mapped a k p q fits, meaning-mapped b k p q fits) refl
    meaning-mapped (Squash a) k p q fits = ap squash (meaning-mapped a k p q fits)
    meaning-mapped (Not a) k p q fits = ap negate (meaning-mapped a k p q fits)
    meaning-mapped (Sum body) k p q fits = sum_below-same n _ _ (λ v _. meaning-mapped body (k + 1) (v ∷ p) (v ∷ q) (inside k v p q fits))
    meaning-mapped (Rel table shape arguments) k p q fits = ap (λ (r : Row). occurrences r (table_rows db table)) (row_meaning-mapped arguments k p q fits)
    meaning-mapped (Eq a b) k p q fits = rw (value_meaning-mapped a k p q fits, value_meaning-mapped b k p q fits) refl
    meaning-mapped (Pred symbol shape arguments) k p q fits =
        ap (λ (r : Row). one_if (predicate_holds reading symbol r)) (row_meaning-mapped arguments k p q fits)

    pub value_meaning-mapped : (value : Val) (k : ℕ) (p q : List ℕ) → Fits k p q
        → value_meaning n reading db names p (mapped_value at_place at_name k value) ≡ value_meaning n reading db others q value
    value_meaning-mapped (Bound place) k p q fits = place_means k place p q fits
    value_meaning-mapped (Free name) k p q fits = name_means k name p q fits
    value_meaning-mapped (Lit literal) k p q fits = refl
    value_meaning-mapped (Fun symbol shape arguments) k p q fits = ap (function_value reading symbol) (row_meaning-mapped arguments k p q fits)
    value_meaning-mapped (Agg aggregate body) k p q fits =
        ap (aggregate_value reading aggregate)
        (list_below-same n _ _ (λ v _. meaning-mapped body (k + 1) (v ∷ p) (v ∷ q) (inside k v p q fits)))

    pub row_meaning-mapped : {m : _} (row : Vals m) (k : ℕ) (p q : List ℕ) → Fits k p q
        → row_meaning n reading db names p (mapped_row at_place at_name k row) ≡ row_meaning n reading db others q row
    row_meaning-mapped NoVals k p q fits = refl
    row_meaning-mapped (ValThen value rest) k p q fits = rw (value_meaning-mapped value k p q fits, row_meaning-mapped rest k p q fits) refl

-- ---- opening
-- q is p with w at place k
pub record PutAt (w k : ℕ) (p q : List ℕ) : Type 0 where
  pub each : (i : ℕ) → get_or q i 0 ≡ (if nat_eq i k then w else get_or p i 0)

put_at-inside : (w k v : ℕ) (p q : List ℕ) → PutAt w k p q → PutAt w (k + 1) (v ∷ p) (v ∷ q)
put_at-inside w k v p q is = record { each = each }
  where
    first : nat_eq 0 (k + 1) ≡ false
    first = grind (arith, nat_tests)

    later : (i : ℕ) → nat_eq (suc i) (k + 1) ≡ nat_eq i k
    later i = grind (arith, nat_tests)

    each : (i : ℕ) → get_or (v ∷ q) i 0 ≡ (if nat_eq i (k + 1) then w else get_or (v ∷ p) i 0)
    each zero = rw first refl
    each (suc i) = rw (later i) (is.each i)

pub put_at-first : (w v : ℕ) (places : List ℕ) → PutAt w 0 (v ∷ places) (w ∷ places)
put_at-first w v places = record { each = each }
  where
    later : (i : ℕ) → nat_eq (suc i) 0 ≡ false
    later i = grind (arith, nat_tests)

    each : (i : ℕ) → get_or (w ∷ places) i 0 ≡ (if nat_eq i 0 then w else get_or (v ∷ places) i 0)
    each zero = refl
    each (suc i) = rw (later i) refl

pub put_at-none : (w : ℕ) → PutAt w 0 [] (w ∷ [])
put_at-none w = record { each = each }
  where
    later : (i : ℕ) → nat_eq (suc i) 0 ≡ false
    later i = grind (arith, nat_tests)

    each : (i : ℕ) → get_or (w ∷ []) i 0 ≡ (if nat_eq i 0 then w else get_or [] i 0)
    each zero = refl
    each (suc i) = rw (later i) refl

module _ (n : ℕ) (reading : Reading) (db : Database) (names : List ℕ) where
  module _ (value : Val) (closed : IsClosedValue 0 value) where
    value_for_place-means : (k i : ℕ) (p q : List ℕ) → PutAt (value_meaning n reading db names [] value) k p q
        → value_meaning n reading db names p (value_for_place value k i) ≡ get_or q i 0
    unfolding meaning
    value_for_place-means k i p q is = elim (cases_Bool (nat_eq i k)) [
      | inl here ↦ rw (here, is.each i, here) (value_meaning-anywhere n reading db names value p [] closed)
      | inr other ↦ rw (other, is.each i, other) refl
    ]

    same_name-means : (k x : ℕ) (p q : List ℕ) → PutAt (value_meaning n reading db names [] value) k p q
        → value_meaning n reading db names p (same_name k x) ≡ get_or names x 0
    unfolding meaning
    same_name-means k x p q is = refl

    pub meaning-opened_with : (u : U) (p q : List ℕ) → PutAt (value_meaning n reading db names [] value) 0 p q
        → meaning n reading db names p (opened_with u value) ≡ meaning n reading db names q u
    meaning-opened_with u p q is =
        meaning-mapped n reading db names names (value_for_place value) same_name (PutAt (value_meaning n reading db names [] value))
        value_for_place-means same_name-means (put_at-inside (value_meaning n reading db names [] value)) u 0 p q is

  pub opened_with_alone : (u : U) (value : Val) → IsClosedValue 0 value
      → meaning n reading db names [] (opened_with u value) ≡ meaning n reading db names (value_meaning n reading db names [] value ∷ []) u
  opened_with_alone u value closed = meaning-opened_with value closed u [] _ (put_at-none _)

  pub opened_with_among : (u : U) (value : Val) (v : ℕ) (places : List ℕ) → IsClosedValue 0 value
      → meaning n reading db names (v ∷ places) (opened_with u value) ≡ meaning n reading db names (value_meaning n reading db names [] value ∷ places) u
  opened_with_among u value v places closed = meaning-opened_with value closed u (v ∷ places) _ (put_at-first _ v places)

  name_value : (x : ℕ) → value_meaning n reading db names [] (Free x) ≡ get_or names x 0
  unfolding meaning
  name_value x = refl

  name_closed : (x : ℕ) → IsClosedValue 0 (Free x)
  unfolding IsClosed
  name_closed x = tt

  pub opened_alone : (u : U) (x : ℕ) → meaning n reading db names [] (opened u x) ≡ meaning n reading db names (get_or names x 0 ∷ []) u
  opened_alone u x = opened_with_alone u (Free x) (name_closed x) ∙ ap (λ v. meaning n reading db names (v ∷ []) u) (name_value x)

  pub opened_among : (u : U) (x v : ℕ) (places : List ℕ)
      → meaning n reading db names (v ∷ places) (opened u x) ≡ meaning n reading db names (get_or names x 0 ∷ places) u
  opened_among u x v places =
      opened_with_among u (Free x) v places (name_closed x) ∙ ap (λ w. meaning n reading db names (w ∷ places) u) (name_value x)

-- ---- closing
-- p is `outer` below k further values
record Below (outer : List ℕ) (k : ℕ) (p q : List ℕ) : Type 0 where
  same : p ≡ q
  rest : (j : ℕ) → get_or p (k + j) 0 ≡ get_or outer j 0

below-inside : (outer : List ℕ) (k v : ℕ) (p q : List ℕ) → Below outer k p q → Below outer (k + 1) (v ∷ p) (v ∷ q)
below-inside outer k v p q is = record { same = ap (λ (r : List ℕ). v ∷ r) is.same; rest = λ j. ap (λ i. get_or (v ∷ p) i 0) (next j) ∙ is.rest j }
  where
    next : (j : ℕ) → k + 1 + j ≡ suc (k + j)
    next j = omega arith

below-here : (outer : List ℕ) → Below outer 0 outer outer
below-here outer = record { same = refl; rest = λ j. ap (λ i. get_or outer i 0) (omega arith) }

abbrev pub IsOfPath : ℕ → ℕ → ℕ → Bool
IsOfPath first count x = nat_le first x && nat_lt x (first + count)

pub of_path : (first count x : ℕ) → first ≤ x → x < first + count → IsOfPath first count x ≡ true
of_path first count x from below = grind (arith, nat_tests)

pub not_of_path : (first count x : ℕ) → (x < first) ⊎ (first + count ≤ x) → IsOfPath first count x ≡ false
not_of_path first count x (inl before) = grind (arith, nat_tests)
not_of_path first count x (inr after) = grind (arith, nat_tests)

pub path_cases : (first count x : ℕ) → (first ≤ x × x < first + count) ⊎ ((x < first) ⊎ (first + count ≤ x))
path_cases first count x = elim (cases_Bool (nat_lt x first)) [
  | inl is ↦ inr (inl (grind (arith, nat_tests)))
  | inr is ↦ elim (cases_Bool (nat_lt x (first + count))) [
    | inl less ↦ inl (grind (arith, nat_tests), grind (arith, nat_tests))
    | inr more ↦ inr (inr (grind (arith, nat_tests)))
  ]
]

pub get_or-put_path_of : (names : List ℕ) (first : ℕ) (places : List ℕ) (x : ℕ) → first ≤ x → x < first + length places
    → get_or (put_path names first places) x 0 ≡ get_or places (first + length places - 1 - x) 0
get_or-put_path_of names first [] x from below = absurd (omega arith)
get_or-put_path_of names first (v ∷ outer) x from below = elim (cases_Bool (nat_eq x (first + length outer))) [
  | inl here ↦
      let e : x ≡ first + length outer = grind (arith, nat_tests) in
      let index : first + suc (length outer) - 1 - (first + length outer) ≡ 0 = omega arith in
      rw (e, index) (get_or-put_same (put_path names first outer) (first + length outer) v)
  | inr other ↦
      let e : x ≢ first + length outer = grind (arith, nat_tests) in
      let index : first + suc (length outer) - 1 - x ≡ suc (first + length outer - 1 - x) = omega arith in
      rw index (get_or-put_other (put_path names first outer) (first + length outer) v x e ∙ get_or-put_path_of names first outer x from (omega arith))
]

pub get_or-put_path_other : (names : List ℕ) (first : ℕ) (places : List ℕ) (x : ℕ) → (x < first) ⊎ (first + length places ≤ x)
    → get_or (put_path names first places) x 0 ≡ get_or names x 0
get_or-put_path_other names first [] x other = refl
get_or-put_path_other names first (v ∷ outer) x (inl before) =
    get_or-put_other (put_path names first outer) (first + length outer) v x (omega arith) ∙ get_or-put_path_other names first outer x (inl before)
get_or-put_path_other names first (v ∷ outer) x (inr after) =
    get_or-put_other (put_path names first outer) (first + length outer) v x (omega arith) ∙ get_or-put_path_other names first outer x (inr (omega arith))

module _ (n : ℕ) (reading : Reading) (db : Database) (names : List ℕ) where
  same_place-means : (outer : List ℕ) (k i : ℕ) (p q : List ℕ) → Below outer k p q → value_meaning n reading db names p (same_place k i) ≡ get_or q i 0
  unfolding meaning
  same_place-means outer k i p q is = ap (λ (r : List ℕ). get_or r i 0) is.same

  place_for_name-means : (x v : ℕ) (places : List ℕ) (k name : ℕ) (p q : List ℕ) → Below (v ∷ places) k p q
      → value_meaning n reading db names p (place_for_name x k name) ≡ get_or (put names x v) name 0
  unfolding meaning
  place_for_name-means x v places k name p q is = elim (cases_Bool (nat_eq name x)) [
    | inl here ↦
        let e : name ≡ x = grind (arith, nat_tests) in
        let index : k + 0 ≡ k = omega arith in
        rw here (ap (λ i. get_or p i 0) (sym index) ∙ is.rest 0 ∙ sym (rw e (get_or-put_same names x v)))
    | inr other ↦
        let e : name ≢ x = grind (arith, nat_tests) in
        rw other (sym (get_or-put_other names x v name e))
  ]

  -- the places may be those of an open term
  pub meaning-closed_at : (u : U) (x v : ℕ) (places : List ℕ)
      → meaning n reading db names (v ∷ places) (closed_at u x) ≡ meaning n reading db (put names x v) (v ∷ places) u
  meaning-closed_at u x v places =
      meaning-mapped n reading db names (put names x v) same_place (place_for_name x) (Below (v ∷ places)) (same_place-means (v ∷ places))
      (place_for_name-means x v places) (below-inside (v ∷ places)) u 0 (v ∷ places) (v ∷ places) (below-here (v ∷ places))

  pub closed_at_alone : (u : U) (x v : ℕ) → IsClosed 0 u
      → meaning n reading db names (v ∷ []) (closed_at u x) ≡ meaning n reading db (put names x v) [] u
  closed_at_alone u x v closed = meaning-closed_at u x v [] ∙ meaning-anywhere n reading db (put names x v) u (v ∷ []) [] closed

  place_for_names-means : (first : ℕ) (places : List ℕ) (k name : ℕ) (p q : List ℕ) → Below places k p q
      → value_meaning n reading db names p (place_for_names first (length places) k name) ≡ get_or (put_path names first places) name 0
  unfolding meaning
  place_for_names-means first places k name p q is = elim (path_cases first (length places) name) [
    | inl within ↦
        rw (of_path first (length places) name within.0 within.1)
        (is.rest (first + length places - 1 - name) ∙ sym (get_or-put_path_of names first places name within.0 within.1))
    | inr outside ↦ rw (not_of_path first (length places) name outside) (sym (get_or-put_path_other names first places name outside))
  ]

  pub meaning-closed_path : (u : U) (first : ℕ) (places : List ℕ)
      → meaning n reading db names places (closed_path u first (length places)) ≡ meaning n reading db (put_path names first places) places u
  meaning-closed_path u first places =
      meaning-mapped n reading db names (put_path names first places) same_place (place_for_names first (length places)) (Below places) (same_place-means places)
      (place_for_names-means first places) (below-inside places) u 0 places places (below-here places)

  pub closed_path_alone : (u : U) (first : ℕ) (places : List ℕ) → IsClosed 0 u
      → meaning n reading db names places (closed_path u first (length places)) ≡ meaning n reading db (put_path names first places) [] u
  closed_path_alone u first places closed =
      meaning-closed_path u first places ∙ meaning-anywhere n reading db (put_path names first places) u places [] closed

-- ---- one walk after another
-- Deeper j k: the first walk is inside j binders where the second is inside k
module _ (f g f' g' f'' g'' : ℕ → ℕ → Val) (Deeper : ℕ → ℕ → Type 0)
    (place_is : (j k i : ℕ) → Deeper j k → mapped_value f' g' k (f j i) ≡ f'' j i)
    (name_is : (j k x : ℕ) → Deeper j k → mapped_value f' g' k (g j x) ≡ g'' j x)
    (inside : (j k : ℕ) → Deeper j k → Deeper (j + 1) (k + 1)) where
  mutual
    unfolding mapped

    pub mapped-mapped : (u : U) (j k : ℕ) → Deeper j k → mapped f' g' k (mapped f g j u) ≡ mapped f'' g'' j u
    mapped-mapped Zero j k d = refl
    mapped-mapped One j k d = refl
    mapped-mapped (Add a b) j k d = rw (mapped-mapped a j k d, mapped-mapped b j k d) refl
    mapped-mapped (Mul a b) j k d = rw (mapped-mapped a j k d, mapped-mapped b j k d) refl
    mapped-mapped (Squash a) j k d = rw (mapped-mapped a j k d) refl
    mapped-mapped (Not a) j k d = rw (mapped-mapped a j k d) refl
    mapped-mapped (Sum body) j k d = rw (mapped-mapped body (j + 1) (k + 1) (inside j k d)) refl
    mapped-mapped (Rel table shape arguments) j k d = rw (mapped_row-mapped arguments j k d) refl
    mapped-mapped (Eq a b) j k d = rw (mapped_value-mapped a j k d, mapped_value-mapped b j k d) refl
    mapped-mapped (Pred symbol shape arguments) j k d = rw (mapped_row-mapped arguments j k d) refl

    pub mapped_value-mapped : (value : Val) (j k : ℕ) → Deeper j k → mapped_value f' g' k (mapped_value f g j value) ≡ mapped_value f'' g'' j value
    mapped_value-mapped (Bound place) j k d = place_is j k place d
    mapped_value-mapped (Free name) j k d = name_is j k name d
    mapped_value-mapped (Lit literal) j k d = refl
    mapped_value-mapped (Fun symbol shape arguments) j k d = rw (mapped_row-mapped arguments j k d) refl
    mapped_value-mapped (Agg aggregate body) j k d = rw (mapped-mapped body (j + 1) (k + 1) (inside j k d)) refl

    pub mapped_row-mapped : {m : _} (row : Vals m) (j k : ℕ) → Deeper j k → mapped_row f' g' k (mapped_row f g j row) ≡ mapped_row f'' g'' j row
    mapped_row-mapped NoVals j k d = refl
    mapped_row-mapped (ValThen value rest) j k d = rw (mapped_value-mapped value j k d, mapped_row-mapped rest j k d) refl

-- ---- a walk that changes nothing
module _ (P : ℕ → Type 0) (f g : ℕ → ℕ → Val) (place_is : (k i : ℕ) → f k i ≡ Bound i) (name_is : (k x : ℕ) → P x → g k x ≡ Free x) where
  mutual
    unfolding mapped EachName

    pub mapped-same : (u : U) (k : ℕ) → EachName P u → mapped f g k u ≡ u
    mapped-same Zero k each = refl
    mapped-same One k each = refl
    mapped-same (Add a b) k each = rw (mapped-same a k each.0, mapped-same b k each.1) refl
    mapped-same (Mul a b) k each = rw (mapped-same a k each.0, mapped-same b k each.1) refl
    mapped-same (Squash a) k each = rw (mapped-same a k each) refl
    mapped-same (Not a) k each = rw (mapped-same a k each) refl
    mapped-same (Sum body) k each = rw (mapped-same body (k + 1) each) refl
    mapped-same (Rel table shape arguments) k each = rw (mapped_row-same arguments k each) refl
    mapped-same (Eq a b) k each = rw (mapped_value-same a k each.0, mapped_value-same b k each.1) refl
    mapped-same (Pred symbol shape arguments) k each = rw (mapped_row-same arguments k each) refl

    pub mapped_value-same : (value : Val) (k : ℕ) → EachNameValue P value → mapped_value f g k value ≡ value
    mapped_value-same (Bound place) k each = place_is k place
    mapped_value-same (Free name) k each = name_is k name each
    mapped_value-same (Lit literal) k each = refl
    mapped_value-same (Fun symbol shape arguments) k each = rw (mapped_row-same arguments k each) refl
    mapped_value-same (Agg aggregate body) k each = rw (mapped-same body (k + 1) each) refl

    pub mapped_row-same : {m : _} (row : Vals m) (k : ℕ) → EachNameRow P row → mapped_row f g k row ≡ row
    mapped_row-same NoVals k each = refl
    mapped_row-same (ValThen value rest) k each = rw (mapped_value-same value k each.0, mapped_row-same rest k each.1) refl

-- ---- closing what was opened
pub closed_at-unused : (u : U) (x : ℕ) → IsUnused x u → closed_at u x ≡ u
closed_at-unused u x unused = mapped-same (λ other. other ≢ x) same_place (place_for_name x) (λ k i. refl) stays u 0 unused
  where
    stays : (k name : ℕ) → name ≢ x → place_for_name x k name ≡ Free name
    stays k name other = let e : nat_eq name x ≡ false = grind (arith, nat_tests) in rw e refl

closing_opened : (x k i : ℕ) → mapped_value same_place (place_for_name x) k (value_for_place (Free x) k i) ≡ Bound i
unfolding mapped
closing_opened x k i = elim (cases_Bool (nat_eq i k)) [
  | inl here ↦
      let e : i ≡ k = grind (arith, nat_tests) in
      let same : nat_eq x x ≡ true = grind (arith, nat_tests) in
      rw (here, same, e) refl
  | inr other ↦ rw other refl
]

closing_name : (x k name : ℕ) → mapped_value same_place (place_for_name x) k (same_name k name) ≡ place_for_name x k name
unfolding mapped
closing_name x k name = refl

pub closed_at-opened : (u : U) (x : ℕ) → IsUnused x u → closed_at (opened u x) x ≡ u
closed_at-opened u x unused =
    mapped-mapped (value_for_place (Free x)) same_name same_place (place_for_name x) same_place (place_for_name x) (λ j k. j ≡ k)
    (λ j k i e. rw (sym e) (closing_opened x j i)) (λ j k name e. rw (sym e) (closing_name x j name)) (λ j k e. ap (λ m. m + 1) e) u 0 0 refl
    ∙ closed_at-unused u x unused

-- ---- one name after another
pub closed_path-one : (u : U) (x : ℕ) → closed_path u x 1 ≡ closed_at u x
closed_path-one u x = ap (λ g. mapped same_place g 0 u) (fun_ext (λ k. fun_ext (λ name. one k name)))
  where
    one : (k name : ℕ) → place_for_names x 1 k name ≡ place_for_name x k name
    one k name = elim (cases_Bool (nat_eq name x)) [
      | inl here ↦
          let e : name ≡ x = grind (arith, nat_tests) in
          let index : k + (x + 1 - 1 - name) ≡ k = omega arith in
          rw (of_path x 1 name (omega arith) (omega arith), here, index) refl
      | inr other ↦
          let outside : (name < x) ⊎ (x + 1 ≤ name) = elim (path_cases x 1 name) [
            | inl within ↦ let e : name ≡ x = omega (arith, within.0, within.1) in let f : name ≢ x = grind (arith, nat_tests) in absurd (f e)
            | inr out ↦ out
          ] in
          rw (not_of_path x 1 name outside, other) refl
    ]

pub closed_path-none : (u : U) (first : ℕ) → closed_path u first 0 ≡ u
closed_path-none u first = mapped-same (λ name. name < fresh u) same_place (place_for_names first 0) (λ k i. refl) stays u 0 (below-fresh (fresh u) u (omega arith))
  where
    outside : (name : ℕ) → (name < first) ⊎ (first + 0 ≤ name)
    outside name = elim (path_cases first 0 name) [ inl within ↦ absurd (omega (arith, within.0, within.1)) | inr out ↦ out ]

    stays : (k name : ℕ) → name < fresh u → place_for_names first 0 k name ≡ Free name
    stays k name _ = rw (not_of_path first 0 name (outside name)) refl

next_name : (first count j k name : ℕ) → k ≡ j + count
    → mapped_value same_place (place_for_name first) k (place_for_names (first + 1) count j name) ≡ place_for_names first (suc count) j name
unfolding mapped
next_name first count j k name e = elim (path_cases (first + 1) count name) [
  | inl within ↦
      let index : j + (first + 1 + count - 1 - name) ≡ j + (first + suc count - 1 - name) = omega arith in
      rw (
        of_path (first + 1) count name within.0 within.1,
        of_path first (suc count) name (omega (arith, within.0)) (omega (arith, within.1)),
      ) (ap (λ i. Bound i) index)
  | inr outside ↦ elim (cases_Bool (nat_eq name first)) [
    | inl here ↦
        let is : name ≡ first = grind (arith, nat_tests) in
        let index : k ≡ j + (first + suc count - 1 - name) = omega (arith, e, is) in
        rw (
          not_of_path (first + 1) count name outside,
          of_path first (suc count) name (omega (arith, is)) (omega (arith, is)),
          here,
        ) (ap (λ i. Bound i) index)
    | inr other ↦
        let is : name ≢ first = grind (arith, nat_tests) in
        let out : (name < first) ⊎ (first + suc count ≤ name) = elim outside [ inl before ↦ inl (omega (arith, before, is)) | inr after ↦ inr (omega (arith, after)) ] in
        rw (not_of_path (first + 1) count name outside, not_of_path first (suc count) name out, other) refl
  ]
]

closing_place : (x k i : ℕ) → mapped_value same_place (place_for_name x) k (Bound i) ≡ Bound i
unfolding mapped
closing_place x k i = refl

-- the outermost name after the others
pub closed_path-next : (u : U) (first count : ℕ) → mapped same_place (place_for_name first) count (closed_path u (first + 1) count) ≡ closed_path u first (suc count)
closed_path-next u first count =
    mapped-mapped same_place (place_for_names (first + 1) count) same_place (place_for_name first) same_place (place_for_names first (suc count)) (λ j k. k ≡ j + count)
    (λ j k i e. closing_place first k i) (λ j k name e. next_name first count j k name e) (λ j k e. omega (arith, e)) u 0 count (omega arith)

-- one more sum is outside the others
pub sums-more : (count : ℕ) (body : U) → sums (count + 1) body ≡ u.Sum (sums count body)
sums-more count body = let e : count + 1 ≡ suc count = omega arith in ap (λ (k : ℕ). sums k body) e

pub ruleset around = (sums-more)

mapped-sums : (f g : ℕ → ℕ → Val) (count k : ℕ) (u : U) → mapped f g k (sums count u) ≡ sums count (mapped f g (k + count) u)
unfolding mapped constructors
mapped-sums f g zero k u = let e : k + 0 ≡ k = omega arith in rw e refl
mapped-sums f g (suc count) k u =
    let e : k + 1 + count ≡ k + suc count = omega arith in
    ap (λ body. Sum body) (mapped-sums f g count (k + 1) u ∙ ap (λ m. sums count (mapped f g m u)) e)

pub sums_over_names-path : (u : U) (first count : ℕ) → sums_over_names first count u ≡ sums count (closed_path u first count)
unfolding constructors
sums_over_names-path u first zero = sym (closed_path-none u first)
sums_over_names-path u first (suc count) =
    let under = mapped-sums same_place (place_for_name first) count 0 inner in
    let last = ap (λ m. mapped same_place (place_for_name first) m inner) zero_and ∙ closed_path-next u first count in
    ap (λ body. Sum body) (ap (λ body. closed_at body first) (sums_over_names-path u (first + 1) count) ∙ under ∙ ap (sums count) last)
  where
    inner : U
    inner = closed_path u (first + 1) count

    zero_and : 0 + count ≡ count
    zero_and = omega arith

pub ruleset laws = (
  opened_with_alone,
  opened_with_among,
  opened_alone,
  opened_among,
  closed_at_alone,
  closed_path_alone,
  closed_at-opened,
  closed_at-unused,
  get_or-put_path_of,
  get_or-put_path_other,
  closed_path-one,
  sums_over_names-path,
)
