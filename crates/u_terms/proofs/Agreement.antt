-- What the values of places and names that a term does not have cannot change.
use Rattle.std.proofs.Common.{◌≡◌, ◌≢◌, ℕ, zero, suc, ◌+◌, ◌<◌, List, [], ◌∷◌, get_or, refl, ap, arith}
use Rattle.data_model.specs.Numbers.{squash, negate, one_if, list_below}
use Rattle.data_model.specs.Rows.{Row, occurrences}
use Rattle.data_model.specs.Reading.{Reading, function_value, predicate_holds, aggregate_value}
use Rattle.data_model.specs.Database.{Database, table_rows}
use Rattle.data_model.proofs.Sums.{sum_below-same}
use Rattle.u_terms.specs.Syntax.{U, Zero, One, Add, Mul, Squash, Not, Sum, Rel, Eq, Pred, Val, Bound, Free, Lit, Fun, Agg, Vals, NoVals, ValThen}
use Rattle.u_terms.specs.Places.{IsClosed, IsClosedValue, IsClosedRow}
use Rattle.u_terms.specs.Meaning.{put, meaning, value_meaning, row_meaning}

-- ---- names
pub get_or-put_same : (names : List ℕ) (x v : ℕ) → get_or (put names x v) x 0 ≡ v
get_or-put_same [] zero v = refl
get_or-put_same [] (suc x) v = get_or-put_same [] x v
get_or-put_same (w ∷ names) zero v = refl
get_or-put_same (w ∷ names) (suc x) v = get_or-put_same names x v

pub get_or-put_other : (names : List ℕ) (x v y : ℕ) → y ≢ x → get_or (put names x v) y 0 ≡ get_or names y 0
get_or-put_other [] zero v zero other = absurd (other refl)
get_or-put_other [] zero v (suc y) other = refl
get_or-put_other [] (suc x) v zero other = refl
get_or-put_other [] (suc x) v (suc y) other = get_or-put_other [] x v y (λ e. other (ap suc e))
get_or-put_other (w ∷ names) zero v zero other = absurd (other refl)
get_or-put_other (w ∷ names) zero v (suc y) other = refl
get_or-put_other (w ∷ names) (suc x) v zero other = refl
get_or-put_other (w ∷ names) (suc x) v (suc y) other = get_or-put_other names x v y (λ e. other (ap suc e))

-- ---- places
pub list_below-same : (m : ℕ) (f g : ℕ → ℕ) → ((v : ℕ) → v < m → f v ≡ g v) → list_below m f ≡ list_below m g
list_below-same zero f g e = refl
list_below-same (suc m) f g e = rw (list_below-same m f g (λ v h. e v (omega arith)), e m (omega arith)) refl

-- the values of the first k places agree
pub record AgreeBelow (k : ℕ) (p q : List ℕ) : Type 0 where
  pub each : (i : ℕ) → i < k → get_or p i 0 ≡ get_or q i 0

pub agree-inside : (k v : ℕ) (p q : List ℕ) → AgreeBelow k p q → AgreeBelow (k + 1) (v ∷ p) (v ∷ q)
agree-inside k v p q agree = record { each = each }
  where
    each : (i : ℕ) → i < k + 1 → get_or (v ∷ p) i 0 ≡ get_or (v ∷ q) i 0
    each zero h = refl
    each (suc i) h = agree.each i (omega arith)

pub agree-nowhere : (p q : List ℕ) → AgreeBelow 0 p q
agree-nowhere p q = record { each = λ i h. absurd (omega arith) }

module _ (n : ℕ) (reading : Reading) (db : Database) (names : List ℕ) where
  abbrev term_at : List ℕ → U → ℕ
  term_at = meaning n reading db names

  abbrev value_at : List ℕ → Val → ℕ
  value_at = value_meaning n reading db names

  abbrev row_at : {m : _} → List ℕ → Vals m → Row
  row_at = row_meaning n reading db names

  -- what is closed inside k binders means the same where the places agree below k
  mutual
    unfolding meaning IsClosed

    pub meaning-closed : (u : U) (k : ℕ) (p q : List ℕ) → AgreeBelow k p q → IsClosed k u → term_at p u ≡ term_at q u
    meaning-closed Zero k p q agree closed = refl
    meaning-closed One k p q agree closed = refl
    meaning-closed (Add a b) k p q agree closed = rw (meaning-closed a k p q agree closed.0, meaning-closed b k p q agree closed.1) refl
    meaning-closed (Mul a b) k p q agree closed = rw (meaning-closed a k p q agree closed.0, meaning-closed b k p q agree closed.1) refl
    meaning-closed (Squash a) k p q agree closed = ap squash (meaning-closed a k p q agree closed)
    meaning-closed (Not a) k p q agree closed = ap negate (meaning-closed a k p q agree closed)
    meaning-closed (Sum body) k p q agree closed =
        sum_below-same n _ _ (λ v _. meaning-closed body (k + 1) (v ∷ p) (v ∷ q) (agree-inside k v p q agree) closed)
    meaning-closed (Rel table shape arguments) k p q agree closed =
        ap (λ (r : Row). occurrences r (table_rows db table)) (row_meaning-closed arguments k p q agree closed)
    meaning-closed (Eq a b) k p q agree closed = rw (value_meaning-closed a k p q agree closed.0, value_meaning-closed b k p q agree closed.1) refl
    meaning-closed (Pred symbol shape arguments) k p q agree closed =
        ap (λ (r : Row). one_if (predicate_holds reading symbol r)) (row_meaning-closed arguments k p q agree closed)

    pub value_meaning-closed : (value : Val) (k : ℕ) (p q : List ℕ) → AgreeBelow k p q → IsClosedValue k value → value_at p value ≡ value_at q value
    value_meaning-closed (Bound place) k p q agree closed = agree.each place closed
    value_meaning-closed (Free name) k p q agree closed = refl
    value_meaning-closed (Lit literal) k p q agree closed = refl
    value_meaning-closed (Fun symbol shape arguments) k p q agree closed = ap (function_value reading symbol) (row_meaning-closed arguments k p q agree closed)
    value_meaning-closed (Agg aggregate body) k p q agree closed =
        ap (aggregate_value reading aggregate)
        (list_below-same n _ _ (λ v _. meaning-closed body (k + 1) (v ∷ p) (v ∷ q) (agree-inside k v p q agree) closed))

    pub row_meaning-closed : {m : _} (row : Vals m) (k : ℕ) (p q : List ℕ) → AgreeBelow k p q → IsClosedRow k row → row_at p row ≡ row_at q row
    row_meaning-closed NoVals k p q agree closed = refl
    row_meaning-closed (ValThen value rest) k p q agree closed =
        rw (value_meaning-closed value k p q agree closed.0, row_meaning-closed rest k p q agree closed.1) refl

  pub meaning-anywhere : (u : U) (p q : List ℕ) → IsClosed 0 u → term_at p u ≡ term_at q u
  meaning-anywhere u p q closed = meaning-closed u 0 p q (agree-nowhere p q) closed

  pub value_meaning-anywhere : (value : Val) (p q : List ℕ) → IsClosedValue 0 value → value_at p value ≡ value_at q value
  value_meaning-anywhere value p q closed = value_meaning-closed value 0 p q (agree-nowhere p q) closed

pub ruleset laws = (get_or-put_same, get_or-put_other, meaning-anywhere)
