-- Equivalence of queries is an equivalence.
use Rattle.std.proofs.Common.{refl, sym, ◌∙◌}
use Rattle.sql_model.specs.declared.schema.Schema.{Schema}
use Rattle.sql_model.specs.Syntax.{Query}
use Rattle.sql_model.specs.Equivalent.{Equivalent}

pub Equivalent-refl : (schema : Schema) (q : Query) → Equivalent schema q q
Equivalent-refl schema q n some reading on db meets r = refl

pub Equivalent-sym : (schema : Schema) (p q : Query) → Equivalent schema p q → Equivalent schema q p
Equivalent-sym schema p q same n some reading on db meets r = sym (same n some reading on db meets r)

pub Equivalent-trans : (schema : Schema) (p q t : Query) → Equivalent schema p q → Equivalent schema q t → Equivalent schema p t
Equivalent-trans schema p q t first second n some reading on db meets r =
    first n some reading on db meets r ∙ second n some reading on db meets r

pub ruleset laws = (Equivalent-refl, Equivalent-sym, Equivalent-trans)
