use Rattle.std.proofs.Common.{ap, sym, ◌∙◌, arith}
use Rattle.u_terms.specs.Syntax.{U}
use Rattle.u_terms.specs.declared.term.U.TheVariants as u
use Rattle.u_rules.proofs.terms.UnderSums.{under-sums}
use Rattle.u_rules.proofs.table_same.+under_sums.Goals as goal

pub returns-in-Sum : goal.returns-in-Sum
returns-in-Sum t c =
    under-sums c.args.count c.args.u.now c.get.result.now c.under_sums.result (c.in-Sum.is ∙ ap (λ (a : U). u.Sum a) (sym c.get.ensures)) (omega arith) c.under_sums.ensures
