use Rattle.std.proofs.Common.{List, subst}
use Rattle.u_rules.specs.declared.rule.Arg.{Arg}
use Rattle.u_rules.specs.Rows.{Instance}
use Rattle.u_moves.proofs.steps.Rooted.{root-known, root-made}
use Rattle.u_moves.proofs.moves.Moves.at_root.Goals as goal

pub one_step-requires-clause-known : goal.one_step-requires-clause-known
one_step-requires-clause-known c =
    rw c.new-from.ensures (root-known c.args.self.facts.now c.args.self.outs c.args.rule c.args.args c.requires c.in-Ok.from c.in-Ok.to
    (subst (λ (args : List Arg). Instance c.args.self.facts.now c.args.rule args c.in-Ok.from c.in-Ok.to) c.as_slice.ensures c.in-Ok.ensures.answers))

pub one_step-requires-clause-made : goal.one_step-requires-clause-made
one_step-requires-clause-made c =
    rw (c.new-from.ensures, c.new-to.ensures) (root-made c.args.self.facts.now c.args.self.outs c.args.rule c.args.args c.requires c.in-Ok.from c.in-Ok.to
    (subst (λ (args : List Arg). Instance c.args.self.facts.now c.args.rule args c.in-Ok.from c.in-Ok.to) c.as_slice.ensures c.in-Ok.ensures.answers) c.new.result c.new-in-Ok.result c.new.ensures c.new-in-Ok.ensures)
