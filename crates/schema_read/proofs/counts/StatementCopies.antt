-- What statements copy is what the queries of their views copy. Each prefix of statements goes on with tokens that copy nothing, and copies least
-- so.
use Rattle.std.proofs.Common.{refl, None, arith}
use Rattle.grammar.proofs.languages.Limits.{CostsByCompletion}
use Rattle.grammar.proofs.completed.Costs.{costed_skip_then, costed_then_skip}
use Rattle.sql_grammar.specs.Numbering.{each}
use Rattle.sql_grammar.specs.QueryCopies.{copies_nothing}
use Rattle.sql_grammar.specs.QueryGrammar.{The, query}
use Rattle.sql_grammar.proofs.copies.CopyOnce.{form_costs}
use Rattle.sql_grammar.proofs.copies.CopyCosts.{each_copies}
use Rattle.sql_grammar.proofs.copies.FactoredCosts.{EvenIn, evenly, none}
use Rattle.schema_read.specs.StatementGrammar as g
use Rattle.schema_read.specs.StatementTrees as t
use Rattle.schema_read.specs.Statements.{statements}

-- what no query is part of copies nothing
pub free : {A : Type 0} (f : The A) → EvenIn f (λ v. 0)
free f = record { same = λ v w s. none; still = λ v s. refl }

table_even : EvenIn (g.table_with g.elements) (λ read. read.copies)
table_even = evenly.of_map (λ p. t.table p.0 p.1.0 p.1.1) (λ read. read.copies) (free _) (λ v. refl)

index_even : EvenIn g.index (λ read. read.copies)
index_even = evenly.of_map (λ p. t.index p.0 p.1.0 p.1.1.0 p.1.1.1) (λ read. read.copies) (free _) (λ v. refl)

view_even : EvenIn g.view (λ read. read.copies)
view_even =
    evenly.of_map (λ p. t.view p.0 p.1) (λ read. read.copies)
    (costed_skip_then evenly (free _) (evenly.of_seq (free _) (costed_skip_then evenly (free _) (evenly.of_ref query)))) (λ v. omega arith)

ended_even : EvenIn (g.ended_with g.elements) (λ read. read.copies)
ended_even = costed_then_skip evenly (costed_skip_then evenly (free _) (evenly.of_alt table_even (evenly.of_alt view_even index_even))) (free _)

pub statements_even : EvenIn g.statements (λ read. read.copies)
statements_even = evenly.of_map (λ read. each read) (λ read. read.copies) (evenly.of_star None ended_even) (λ v. each_copies v)

pub statement_costs : CostsByCompletion copies_nothing statements (λ read. read.copies)
statement_costs = form_costs g.statements refl (λ read. read.copies) statements_even refl
