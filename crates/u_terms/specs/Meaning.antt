-- What a term denotes: a multiplicity, over a domain of n values, a reading of the symbols and a database (Chu, Murphy, Roesch, Cheung and
-- Suciu, "Axiomatic Foundations and Algorithms for Deciding Semantic Equivalences of SQL Queries", PVLDB 11(11), 2018, section 3, in the
-- semiring of the natural numbers). Names and dangling places stand for values; a name or place without one is 0.
use Rattle.std.specs.Prelude.{ℕ, zero, suc, ◌+◌, ◌*◌, nat_eq, List, [], ◌∷◌, get_or}
use Rattle.data_model.specs.Numbers.{one_if, squash, negate, sum_below, list_below}
use Rattle.data_model.specs.Rows.{Row, occurrences}
use Rattle.data_model.specs.Reading.{Reading, literal_value, function_value, predicate_holds, aggregate_value}
use Rattle.data_model.specs.Database.{Database, table_rows}
use Rattle.u_terms.specs.Syntax.{U, Zero, One, Add, Mul, Squash, Not, Sum, Rel, Eq, Pred, Val, Bound, Free, Lit, Fun, Agg, Vals, NoVals, ValThen}

-- the values of the names, with name x being v, and with 0 for the names before it that have none
abbrev pub put : List ℕ → ℕ → ℕ → List ℕ
put [] zero v = v ∷ []
put [] (suc x) v = 0 ∷ put [] x v
put (w ∷ names) zero v = v ∷ names
put (w ∷ names) (suc x) v = w ∷ put names x v

-- the values of the names come before those of the dangling places, the innermost place first
module _ (n : ℕ) (reading : Reading) (db : Database) where
  unfoldable mutual
    pub meaning : List ℕ → List ℕ → U → ℕ
    meaning names places Zero = 0
    meaning names places One = 1
    meaning names places (Add a b) = meaning names places a + meaning names places b
    meaning names places (Mul a b) = meaning names places a * meaning names places b
    meaning names places (Squash a) = squash (meaning names places a)
    meaning names places (Not a) = negate (meaning names places a)
    meaning names places (Sum body) = sum_below n (λ v. meaning names (v ∷ places) body)
    meaning names places (Rel table shape arguments) = occurrences (row_meaning names places arguments) (table_rows db table)
    meaning names places (Eq a b) = one_if (nat_eq (value_meaning names places a) (value_meaning names places b))
    meaning names places (Pred symbol shape arguments) = one_if (predicate_holds reading symbol (row_meaning names places arguments))

    pub value_meaning : List ℕ → List ℕ → Val → ℕ
    value_meaning names places (Bound place) = get_or places place 0
    value_meaning names places (Free name) = get_or names name 0
    value_meaning names places (Lit literal) = literal_value reading literal
    value_meaning names places (Fun symbol shape arguments) = function_value reading symbol (row_meaning names places arguments)
    value_meaning names places (Agg aggregate body) = aggregate_value reading aggregate (list_below n (λ v. meaning names (v ∷ places) body))

    pub row_meaning : {n : _} → List ℕ → List ℕ → Vals n → Row
    row_meaning names places NoVals = []
    row_meaning names places (ValThen value rest) = value_meaning names places value ∷ row_meaning names places rest
