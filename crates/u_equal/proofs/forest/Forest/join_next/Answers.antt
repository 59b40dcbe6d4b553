use Rattle.std.proofs.Common.{◌∙◌, subst}
use Rattle.std.specs.Prelude.{ℕ, List, true}
use Rattle.indexmap.specs.IndexMap.{get}
use Rattle.u_equal.specs.Joined.{State, seen}
use Rattle.u_equal.specs.Tables.{same_signature}
use Rattle.u_equal.specs.Agendas.{AreSettled, IsNext}
use Rattle.u_equal.proofs.congruence.Waiting.{next-joined, next-none, rest-settled}
use Rattle.u_equal.proofs.forest.Forest.join_next.Goals as goal

pub returns-then-branch-clause-next : goal.returns-then-branch-clause-next
returns-then-branch-clause-next c =
    let calls = c.args.calls.now in
    let t = seen c.loop-number.self in
    let w = seen c.join_number.new.self in
    let look = get same_signature c.join_number.new.known in
    subst (λ (x : State). IsNext calls x w c.pop.new.self look true) c.loop-number.invariant.same
    (next-joined calls c.in-Some.number c.loop-number.agenda.waiting c.pop.new.self c.in-Some.ensures.items t w (get same_signature c.loop-number.known) look c.in_ok-join_number.field-0
    c.in_ok-join_number.ensures.looked c.loop-number.invariant.settled c.if-branch.true)

pub loop-number-preserved : goal.loop-number-preserved
loop-number-preserved c =
    let calls = c.args.calls.now in
    let t = seen c.loop-number.self in
    let w = seen c.join_number.new.self in
    let look = get same_signature c.join_number.new.known in
    let looked = c.in_ok-join_number.ensures.looked in
    record {
      tree = c.in_ok-join_number.ensures.tree;
      same = looked.stays c.if-branch.false ∙ c.loop-number.invariant.same;
      known = looked.known;
      users = c.loop-number.invariant.users;
      settled = rest-settled calls c.in-Some.number c.loop-number.agenda.waiting c.pop.new.self c.in-Some.ensures.items t w (get same_signature c.loop-number.known) look c.in_ok-join_number.field-0 looked
          c.loop-number.invariant.settled c.if-branch.false;
    }

pub returns-clause-next : goal.returns-clause-next
returns-clause-next c =
    let calls = c.args.calls.now in
    let t = seen c.loop-number.self in
    let look = get same_signature c.loop-number.known in
    let h = c.loop-number.invariant in
    next-none calls (seen c.args.self.now) t c.pop.new.self look c.requires.state h.same h.known (subst (λ (ns : List ℕ). AreSettled calls ns t look) c.in_default.ensures.none h.settled)
