-- What a reading on a domain gives is a value of the domain, also where it has no entry.
use Rattle.std.proofs.Common.{◌≡◌, ℕ, zero, suc, ◌<◌, List, [], ◌∷◌, get_or, length, inl, inr}
use Rattle.std.specs.Prelude.{nat_eq, ◌&&◌}
use Rattle.std.proofs.lemmas.Bool.{cases_Bool}
use Rattle.data_model.specs.Lists.{Each}
use Rattle.data_model.specs.Rows.{AllBelow, same_row}
use Rattle.data_model.specs.Reading.{Reading, IsOn, LiteralEntry, FunctionEntry, AggregateEntry, first_literal, first_function, first_aggregate, literal_value, function_value, aggregate_value}

module _ (n : ℕ) (some : 0 < n) where
  pub get_or-below : (vs : List ℕ) (i : ℕ) → AllBelow n vs → get_or vs i 0 < n
  get_or-below [] i h = some
  get_or-below (v ∷ vs) zero h = h.0
  get_or-below (v ∷ vs) (suc i) h = get_or-below vs i h.1

  first_literal-below : (es : List LiteralEntry) (literal : ℕ) → Each (λ e. e.value < n) es → first_literal es literal < n
  first_literal-below [] literal h = some
  first_literal-below (e ∷ es) literal h = elim (cases_Bool (nat_eq e.literal literal)) [ inl t ↦ rw t h.0 | inr f ↦ rw f (first_literal-below es literal h.1) ]

  first_function-below : (es : List FunctionEntry) (symbol : ℕ) (args : List ℕ) → Each (λ e. AllBelow n e.arguments × (e.value < n)) es → first_function es symbol args < n
  first_function-below [] symbol args h = some
  first_function-below (e ∷ es) symbol args h =
      elim (cases_Bool (nat_eq e.symbol symbol && same_row e.arguments args)) [ inl t ↦ rw t h.0.1 | inr f ↦ rw f (first_function-below es symbol args h.1) ]

  first_aggregate-below : (es : List AggregateEntry) (aggregate : ℕ) (counts : List ℕ) → Each (λ e. (length e.counts ≡ n) × (e.value < n)) es → first_aggregate es aggregate counts < n
  first_aggregate-below [] aggregate counts h = some
  first_aggregate-below (e ∷ es) aggregate counts h =
      elim (cases_Bool (nat_eq e.aggregate aggregate && same_row e.counts counts)) [ inl t ↦ rw t h.0.1 | inr f ↦ rw f (first_aggregate-below es aggregate counts h.1) ]

  module _ (reading : Reading) (on : IsOn n reading) where
    pub literal_value-below : (literal : ℕ) → literal_value reading literal < n
    literal_value-below literal = first_literal-below reading.literals literal on.literals

    pub function_value-below : (symbol : ℕ) (args : List ℕ) → function_value reading symbol args < n
    function_value-below symbol args = first_function-below reading.functions symbol args on.functions

    pub aggregate_value-below : (aggregate : ℕ) (counts : List ℕ) → aggregate_value reading aggregate counts < n
    aggregate_value-below aggregate counts = first_aggregate-below reading.aggregates aggregate counts on.aggregates
