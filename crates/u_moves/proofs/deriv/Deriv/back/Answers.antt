use Rattle.std.proofs.Common.{refl}
use Rattle.u_moves.specs.Derivations.{Derivation}
use Rattle.u_moves.proofs.derivations.Sound.{turned, turned-sound, sound-by}
use Rattle.u_moves.proofs.deriv.Deriv.back.Goals as goal

pub invariant_of-result : goal.invariant_of-result
invariant_of-result c =
    let d : Derivation = record {
      facts = c.self.inside.facts.now;
      outs = c.self.inside.outs;
      from = c.self.inside.from;
      to = c.self.inside.to;
      steps = c.self.inside.steps;
      nodes = c.self.inside.nodes;
      depth = c.self.inside.depth;
    } in
    sound-by (turned d) (turned-sound d c.self.invariant) d.facts d.outs d.to d.from c.turned.result d.nodes d.depth refl refl refl refl c.turned.ensures refl refl
