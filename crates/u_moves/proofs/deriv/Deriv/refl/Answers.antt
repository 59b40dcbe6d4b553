use Rattle.std.proofs.Common.{[], ◌∙◌, arith}
use Rattle.u_terms.specs.Size.{nodes, depth}
use Rattle.std.proofs.Common.{◌≡◌, ap, refl}
use Rattle.u_moves.proofs.derivations.Sound.{still-sound, sound-by}
use Rattle.u_moves.proofs.deriv.Deriv.refl.Goals as goal

pub invariant_of-result : goal.invariant_of-result
invariant_of-result c =
    let first : c.in_ok-from.from ≡ c.args.u.now = c.in_ok-from.ensures {u = tt} ∙ c.new.ensures ∙ c.in_ok-copy.ensures {u = tt} in
    sound-by
    (record {
      facts = c.args.facts.now;
      outs = c.args.outs;
      from = c.args.u.now;
      to = c.args.u.now;
      steps = [];
      nodes = nodes c.args.u.now;
      depth = depth c.args.u.now;
    })
    (still-sound c.args.facts.now c.args.outs c.args.u.now c.requires.known c.requires.shallow)
    c.args.facts.now c.args.outs c.in_ok-from.from c.in_ok-to.to c.new-3.result c.nodes-nodes.result c.depth.result
    refl refl first (c.in_ok-to.ensures {u = tt} ∙ first) c.new-3.ensures (c.nodes-nodes.ensures ∙ ap nodes first) (omega (arith, c.depth.ensures, c.requires.shallow))
