-- What literals, functions, predicates and aggregates stand for: four lists, in which a look-up takes the first entry. They are
-- uninterpreted, so a claim under every reading uses no law about them.
use Rattle.std.specs.Prelude.{ℕ, ◌<◌, nat_eq, Bool, true, false, ◌&&◌, if◌then◌else◌, List, [], ◌∷◌, ◌≡◌, length}
use Rattle.data_model.specs.Lists.{Each}
use Rattle.data_model.specs.Rows.{AllBelow, same_row}

pub record LiteralEntry : Type 0 where
  pub literal : ℕ
  pub value : ℕ

-- what a function gives for these arguments
pub record FunctionEntry : Type 0 where
  pub symbol : ℕ
  pub arguments : List ℕ
  pub value : ℕ

-- arguments of which a predicate is true
pub record PredicateEntry : Type 0 where
  pub symbol : ℕ
  pub arguments : List ℕ

-- what an aggregate gives for the bag in which each of the n values occurs as often as its count says
pub record AggregateEntry : Type 0 where
  pub aggregate : ℕ
  pub counts : List ℕ
  pub value : ℕ

pub record Reading : Type 0 where
  pub literals : List LiteralEntry
  pub functions : List FunctionEntry
  pub predicates : List PredicateEntry
  pub aggregates : List AggregateEntry

-- ---- look-ups: without an entry the value is 0, and a predicate is false
abbrev pub first_literal : List LiteralEntry → ℕ → ℕ
first_literal [] literal = 0
first_literal (e ∷ rest) literal = if nat_eq e.literal literal then e.value else first_literal rest literal

abbrev pub first_function : List FunctionEntry → ℕ → List ℕ → ℕ
first_function [] symbol arguments = 0
first_function (e ∷ rest) symbol arguments =
    if nat_eq e.symbol symbol && same_row e.arguments arguments then e.value else first_function rest symbol arguments

abbrev pub some_predicate : List PredicateEntry → ℕ → List ℕ → Bool
some_predicate [] symbol arguments = false
some_predicate (e ∷ rest) symbol arguments =
    if nat_eq e.symbol symbol && same_row e.arguments arguments then true else some_predicate rest symbol arguments

abbrev pub first_aggregate : List AggregateEntry → ℕ → List ℕ → ℕ
first_aggregate [] aggregate counts = 0
first_aggregate (e ∷ rest) aggregate counts =
    if nat_eq e.aggregate aggregate && same_row e.counts counts then e.value else first_aggregate rest aggregate counts

abbrev pub literal_value : Reading → ℕ → ℕ
literal_value reading = first_literal reading.literals

abbrev pub function_value : Reading → ℕ → List ℕ → ℕ
function_value reading = first_function reading.functions

abbrev pub predicate_holds : Reading → ℕ → List ℕ → Bool
predicate_holds reading = some_predicate reading.predicates

abbrev pub aggregate_value : Reading → ℕ → List ℕ → ℕ
aggregate_value reading = first_aggregate reading.aggregates

-- A reading on the domain of n values: all values in it are below n. An aggregate has one count for each value, and the counts are any numbers.
pub record IsOn (n : ℕ) (reading : Reading) : Type 0 where
  pub literals : Each (λ e. e.value < n) reading.literals
  pub functions : Each (λ e. AllBelow n e.arguments × (e.value < n)) reading.functions
  pub predicates : Each (λ e. AllBelow n e.arguments) reading.predicates
  pub aggregates : Each (λ e. (length e.counts ≡ n) × (e.value < n)) reading.aggregates
