use Rattle.std.proofs.Common.{[], ◌∷◌, ap, ◌∙◌}
use Rattle.u_terms.specs.Syntax.{U}
use Rattle.u_rules.specs.declared.rule.Arg.TheVariants.{Term}
use Rattle.u_rules.specs.Terms.{sq}
use Rattle.u_moves.proofs.steps.Fixed.{fix-known, fix-made}
use Rattle.u_moves.proofs.moves.Moves.sq_fix.Goals as goal

pub one_step-requires-clause-known : goal.one_step-requires-clause-known
one_step-requires-clause-known c =
    let copied = c.in_ok-copy.ensures {u = tt} ∙ c.get.ensures ∙ c.new-x.ensures ∙ c.into_end-x.ensures.to in
    rw c.new-from.ensures
    (fix-known c.args.self.facts.now c.args.self.outs c.args.square c.into_end-x.ensures.sound c.requires.facts c.requires.outs c.requires.square (sq c.in_ok-new.field-0)
    (ap sq (c.in_ok-new.ensures {u = tt} ∙ copied)))

pub one_step-requires-clause-made : goal.one_step-requires-clause-made
one_step-requires-clause-made c =
    let ends = c.into_end-x.ensures.to in
    let copied = c.in_ok-copy.ensures {u = tt} ∙ c.get.ensures ∙ c.new-x.ensures ∙ ends in
    let copied_again = c.in_ok-copy-2.ensures {u = tt} ∙ c.get-2.ensures ∙ c.new-x.ensures ∙ ends in
    rw (c.new-from.ensures, c.new-to.ensures)
    (fix-made c.args.self.facts.now c.args.self.outs c.args.square c.into_end-x.ensures.sound c.requires.facts c.requires.outs c.requires.square (sq c.in_ok-new.field-0) c.in_ok-copy-2.field-0 c.new-2.result
    c.from_vec.result c.into_end-x.result.1 (ap sq (c.in_ok-new.ensures {u = tt} ∙ copied)) copied_again c.new-2.ensures
    (c.from_vec.ensures ∙ (c.in_ok-args.ensures {u = tt}).items ∙ ap (λ (x : U). Term x ∷ []) (c.into_inner.ensures ∙ c.new-x.ensures ∙ ends)) c.into_end-x.ensures.steps)
