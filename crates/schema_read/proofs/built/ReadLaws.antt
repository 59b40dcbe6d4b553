-- What is built, and what is refused.
use Rattle.std.proofs.Common.{◌≡◌, None, sym, subst, ◌∙◌, List, Result, Ok, Err, IfOk, IfErr, ap}
use Rattle.sql_model.specs.declared.schema.Schema.{Schema}
use Rattle.sql_model.specs.declared.statement.Statement.{Statement}
use Rattle.schema_read.specs.declared.fault.SchemaFault.{SchemaFault}
use Rattle.schema_read.specs.Order.{Refuses}
use Rattle.schema_read.specs.Builds.{Builds, schema_fault}
use Rattle.schema_read.specs.Building.{no_statements, fault_from, built_from}
use Rattle.schema_read.proofs.built.Links.{faults-are, built_linked}
use Rattle.schema_read.specs.Views.{Gives, seen_schema, shown}

abbrev BuildsOf : List Statement → Result Schema SchemaFault → Type 0
BuildsOf statements result = Gives seen_schema result (fault_from no_statements statements) (shown (built_from no_statements statements))

pub builds : (statements : List Statement) (result : Result Schema SchemaFault) → BuildsOf statements result → IfOk result (Builds statements)
builds statements (Ok schema) gives =
    let faultless : schema_fault statements ≡ None = sym (faults-are statements) ∙ gives.0 in
    let linked = built_linked statements faultless in
    record { faultless = faultless; relations = ap (λ p. p.0) gives.1 ∙ linked.relations; fkeys = ap (λ p. p.1) gives.1 ∙ linked.fkeys }
builds statements (Err fault) gives = tt

pub refuses : (statements : List Statement) (result : Result Schema SchemaFault) → BuildsOf statements result
    → IfErr result (λ fault. Refuses fault (schema_fault statements))
refuses statements (Ok schema) gives = tt
refuses statements (Err fault) gives = subst (Refuses fault) (faults-are statements) gives
