use Rattle.std.proofs.Common.{max, [], ◌∷◌, refl, ◌∙◌}
use Rattle.u_terms.specs.Size.{nodes, depth}
use Rattle.u_moves.proofs.derivations.Sound.{one-sound, sound-by}
use Rattle.u_moves.proofs.deriv.Deriv.one_step.Goals as goal

pub invariant_of-result : goal.invariant_of-result
invariant_of-result c =
    let ends = c.in_ok-from.ensures {u = tt} in
    sound-by
    (record {
      facts = c.args.facts.now;
      outs = c.args.outs;
      from = c.args.from;
      to = c.args.to;
      steps = c.args.step ∷ [];
      nodes = max (nodes c.args.from) (nodes c.args.to);
      depth = max (depth c.args.from) (depth c.args.to);
    })
    (one-sound c.args.facts.now c.args.outs c.args.from c.args.step c.args.to c.requires.known c.requires.made ends.room)
    c.args.facts.now c.args.outs c.in_ok-from.field-0.from c.in_ok-from.field-0.to c.from_vec-steps.result c.in_ok-from.field-0.bounds.nodes c.in_ok-from.field-0.bounds.depth
    refl refl ends.from ends.to (c.from_vec-steps.ensures ∙ (c.in_ok-vec.ensures {u = tt}).items) ends.nodes ends.depth
