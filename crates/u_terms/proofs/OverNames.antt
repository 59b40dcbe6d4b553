-- Values of names, and what sums over all values of some names mean.
use Rattle.std.proofs.Common.{◌≡◌, ℕ, zero, suc, ◌+◌, ◌<◌, ◌≤◌, List, [], ◌∷◌, length, get_or, refl, ap, sym, ◌∙◌, arith}
use Rattle.data_model.specs.Numbers.{sum_below, list_below}
use Rattle.data_model.specs.Rows.{Row}
use Rattle.data_model.specs.Reading.{Reading, aggregate_value}
use Rattle.data_model.specs.Database.{Database}
use Rattle.data_model.proofs.Sums.{sum_below-same, sum_rows, sum_rows-same, sum_row_lists}
use Rattle.u_terms.specs.Syntax.{U, constructors}
use Rattle.u_terms.specs.declared.term.U.TheVariants as u
use Rattle.u_terms.specs.declared.term.Val.TheVariants as v
use Rattle.u_terms.specs.Places.{IsClosed}
use Rattle.u_terms.specs.Meaning.{put, meaning, value_meaning}
use Rattle.u_terms.specs.Binding.{closed_at, sums_over_names}
use Rattle.u_terms.proofs.Agreement.{get_or-put_same, get_or-put_other, list_below-same}
use Rattle.u_terms.proofs.Binding.{closed_at_alone}
use Rattle.u_terms.proofs.Closedness.{closed_at-closed}
use Rattle.u_terms.proofs.Meanings.{meaning-Sum, meaning-Agg}

-- ---- names
-- the names from `first` on have the values of the row
abbrev pub put_row : List ℕ → ℕ → Row → List ℕ
put_row names first [] = names
put_row names first (v ∷ row) = put_row (put names first v) (first + 1) row

-- the same of one row after another
abbrev pub put_rows : List ℕ → ℕ → List Row → List ℕ
put_rows names first [] = names
put_rows names first (row ∷ rows) = put_rows (put_row names first row) (first + length row) rows

-- the names below d have the values that they had
abbrev pub AgreeBelow : ℕ → List ℕ → List ℕ → Type 0
AgreeBelow d names names' = (i : ℕ) → i < d → get_or names' i 0 ≡ get_or names i 0

pub AgreeBelow-refl : (d : ℕ) (names : List ℕ) → AgreeBelow d names names
AgreeBelow-refl d names i h = refl

pub AgreeBelow-trans : (d e : ℕ) (p q r : List ℕ) → AgreeBelow d p q → AgreeBelow e q r → d ≤ e → AgreeBelow d p r
AgreeBelow-trans d e p q r h k le i lt = k i (omega arith) ∙ h i lt

pub put-agree : (d x v : ℕ) (names : List ℕ) → d ≤ x → AgreeBelow d names (put names x v)
put-agree d x v names h i lt = get_or-put_other names x v i (λ e. absurd (omega (arith, e, lt, h)))

pub put_row-agree : (d x : ℕ) (w names : List ℕ) → d ≤ x → AgreeBelow d names (put_row names x w)
put_row-agree d x [] names h i lt = refl
put_row-agree d x (v ∷ w) names h i lt = put_row-agree d (x + 1) w (put names x v) (omega arith) i lt ∙ put-agree d x v names h i lt

pub put_row-reads : (d i : ℕ) (w names : List ℕ) → i < length w → get_or (put_row names d w) (d + i) 0 ≡ get_or w i 0
put_row-reads d i [] names h = absurd (omega arith)
put_row-reads d zero (v ∷ w) names h =
    let e : d + 0 ≡ d = omega arith in
    rw e (put_row-agree (d + 1) (d + 1) w (put names d v) (omega arith) d (omega arith) ∙ get_or-put_same names d v)
put_row-reads d (suc i) (v ∷ w) names h =
    let e : d + suc i ≡ (d + 1) + i = omega arith in
    rw e (put_row-reads (d + 1) i w (put names d v) (omega arith))

pub put_rows-agree : (d x : ℕ) (c : List Row) (names : List ℕ) → d ≤ x → AgreeBelow d names (put_rows names x c)
put_rows-agree d x [] names h i lt = refl
put_rows-agree d x (r ∷ c) names h i lt =
    put_rows-agree d (x + length r) c (put_row names x r) (omega arith) i lt ∙ put_row-agree d x r names h i lt

-- ---- sums over names
sum-closed : (a : U) (d : ℕ) → IsClosed 0 a → IsClosed 0 (u.Sum (closed_at a d))
unfolding IsClosed constructors
sum-closed a d c = closed_at-closed a d c

pub sums_over_names-closed : (d count : ℕ) (a : U) → IsClosed 0 a → IsClosed 0 (sums_over_names d count a)
sums_over_names-closed d zero a c = c
sums_over_names-closed d (suc count) a c = sum-closed (sums_over_names (d + 1) count a) d (sums_over_names-closed (d + 1) count a c)

sums_over_names-split : (j k d : ℕ) (a : U) → sums_over_names d (j + k) a ≡ sums_over_names d j (sums_over_names (d + j) k a)
sums_over_names-split zero k d a = let e : 0 + k ≡ k = omega arith in let f : d + 0 ≡ d = omega arith in rw (e, f) refl
sums_over_names-split (suc j) k d a =
    let e : suc j + k ≡ suc (j + k) = omega arith in let f : d + suc j ≡ (d + 1) + j = omega arith in
    rw (e, f, sums_over_names-split j k (d + 1) a) refl

-- ---- over the names of one row after another, whose widths are ks
abbrev pub total_width : List ℕ → ℕ
total_width [] = 0
total_width (k ∷ ks) = k + total_width ks

abbrev row_by_row : List ℕ → ℕ → U → U
row_by_row [] d a = a
row_by_row (k ∷ ks) d a = sums_over_names d k (row_by_row ks (d + k) a)

sums-row_by_row : (ks : List ℕ) (d : ℕ) (a : U) → sums_over_names d (total_width ks) a ≡ row_by_row ks d a
sums-row_by_row [] d a = refl
sums-row_by_row (k ∷ ks) d a = sums_over_names-split k (total_width ks) d a ∙ ap (sums_over_names d k) (sums-row_by_row ks (d + k) a)

row_by_row-closed : (ks : List ℕ) (d : ℕ) (a : U) → IsClosed 0 a → IsClosed 0 (row_by_row ks d a)
row_by_row-closed [] d a c = c
row_by_row-closed (k ∷ ks) d a c = sums_over_names-closed d k (row_by_row ks (d + k) a) (row_by_row-closed ks (d + k) a c)

module _ (n : ℕ) (reading : Reading) (db : Database) where
  sum-means : (names : List ℕ) (d : ℕ) (a : U) → IsClosed 0 a
      → meaning n reading db names [] (u.Sum (closed_at a d)) ≡ sum_below n (λ v. meaning n reading db (put names d v) [] a)
  sum-means names d a c = meaning-Sum n reading db names [] (closed_at a d) ∙ sum_below-same n _ _ (λ v lt. closed_at_alone n reading db names a d v c)

  pub sums_over_names-mean : (d count : ℕ) (names : List ℕ) (a : U) → IsClosed 0 a
      → meaning n reading db names [] (sums_over_names d count a) ≡ sum_rows n count (λ w. meaning n reading db (put_row names d w) [] a)
  sums_over_names-mean d zero names a c = refl
  sums_over_names-mean d (suc count) names a c =
      sum-means names d (sums_over_names (d + 1) count a) (sums_over_names-closed (d + 1) count a c)
      ∙ sum_below-same n _ _ (λ v lt. sums_over_names-mean (d + 1) count (put names d v) a c)

  row_by_row-means : (ks : List ℕ) (d : ℕ) (names : List ℕ) (a : U) → IsClosed 0 a
      → meaning n reading db names [] (row_by_row ks d a) ≡ sum_row_lists n ks (λ c. meaning n reading db (put_rows names d c) [] a)
  row_by_row-means [] d names a c = refl
  row_by_row-means (k ∷ ks) d names a c =
      sums_over_names-mean d k names (row_by_row ks (d + k) a) (row_by_row-closed ks (d + k) a c)
      ∙ sum_rows-same n k _ _ (λ w h. row_by_row-means ks (d + k) (put_row names d w) a c
      ∙ ap (λ e. sum_row_lists n ks (λ c. meaning n reading db (put_rows (put_row names d w) (d + e) c) [] a)) (sym h.long))

  pub sums_over_rows-mean : (ks : List ℕ) (d : ℕ) (names : List ℕ) (a : U) → IsClosed 0 a
      → meaning n reading db names [] (sums_over_names d (total_width ks) a) ≡ sum_row_lists n ks (λ c. meaning n reading db (put_rows names d c) [] a)
  sums_over_rows-mean ks d names a c = ap (meaning n reading db names []) (sums-row_by_row ks d a) ∙ row_by_row-means ks d names a c

  -- an aggregate goes over the values of one name
  pub aggregate-means : (names : List ℕ) (d i : ℕ) (a : U) → IsClosed 0 a
      → value_meaning n reading db names [] (v.Agg i (closed_at a d)) ≡ aggregate_value reading i (list_below n (λ x. meaning n reading db (put names d x) [] a))
  aggregate-means names d i a c =
      meaning-Agg n reading db names [] i (closed_at a d)
      ∙ ap (aggregate_value reading i) (list_below-same n _ _ (λ x lt. closed_at_alone n reading db names a d x c))
