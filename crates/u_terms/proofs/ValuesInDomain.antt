-- A value of a term means a value of the domain.
use Rattle.std.proofs.Common.{ℕ, ◌<◌, List}
use Rattle.data_model.specs.Rows.{AllBelow}
use Rattle.data_model.specs.Reading.{Reading, IsOn}
use Rattle.data_model.specs.Database.{Database}
use Rattle.data_model.proofs.Domains.{get_or-below, literal_value-below, function_value-below, aggregate_value-below}
use Rattle.u_terms.specs.Syntax.{Val, Bound, Free, Lit, Fun, Agg}
use Rattle.u_terms.specs.Meaning.{value_meaning}

module _ (n : ℕ) (some : 0 < n) (reading : Reading) (on : IsOn n reading) (db : Database) (names : List ℕ) (named : AllBelow n names) where
  pub value-below : (value : Val) (p : List ℕ) → AllBelow n p → value_meaning n reading db names p value < n
  unfolding value_meaning
  value-below (Bound i) p h = get_or-below n some p i h
  value-below (Free x) p h = get_or-below n some names x named
  value-below (Lit literal) p h = literal_value-below n some reading on literal
  value-below (Fun symbol shape arguments) p h = function_value-below n some reading on symbol _
  value-below (Agg aggregate body) p h = aggregate_value-below n some reading on aggregate _
