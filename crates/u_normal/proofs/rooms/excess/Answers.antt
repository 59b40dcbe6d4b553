use Rattle.std.proofs.Common.{ap, subst, ◌∙◌, arith}
use Rattle.u_terms.specs.Size.{nodes}
use Rattle.u_moves.specs.Derivations.{Derivation, IsSound}
use Rattle.u_moves.proofs.derivations.Sound.{last-within}
use Rattle.u_normal.proofs.rooms.excess.Goals as goal

pub returns-then-nodes-room : goal.returns-then-nodes-room
returns-then-nodes-room c =
    let within = last-within c.args.d.now (subst (λ (d : Derivation). IsSound d) c.get.ensures c.to-last.ensures.sound) in
    omega (arith, within.few, c.if-nodes-room.true, c.nodes.ensures, ap (λ (d : Derivation). d.nodes) c.get-2.ensures)

pub returns-then-count-room : goal.returns-then-count-room
returns-then-count-room c =
    let sound = subst (λ (d : Derivation). IsSound d) c.get.ensures c.to-last.ensures.sound in
    let within = last-within c.args.d.now sound in
    let last = c.to-last.ensures.lent ∙ ap (λ (d : Derivation). d.to) c.get.ensures in
    record {
      counted = omega (arith, c.nodes-count.ensures, ap nodes last, within.few, ap (λ (d : Derivation). d.nodes) c.get-2.ensures, c.nodes.ensures, c.nodes.type_inv);
      more = c.if-count-room.true;
      fits = omega (arith, c.nodes-count.type_inv);
      sound = sound;
    }

pub returns-else-count-room : goal.returns-else-count-room
returns-else-count-room c =
    let within = last-within c.args.d.now (subst (λ (d : Derivation). IsSound d) c.get.ensures c.to-last.ensures.sound) in
    let last = c.to-last.ensures.lent ∙ ap (λ (d : Derivation). d.to) c.get.ensures in
    omega (arith, c.if-count-room.false, c.nodes-count.ensures, ap nodes last, within.few, ap (λ (d : Derivation). d.nodes) c.get-2.ensures, c.nodes.ensures, c.nodes.type_inv)
