use Rattle.std.proofs.Common.{◌≡◌, ◌<◌, ◌-◌, ◌∙◌, List, ℕ, length, refl, ap, sym, subst, arith}
use Rattle.std.proofs.lemmas.List.{length_push}
use Rattle.indexmap.specs.IndexMap.{get}
use Rattle.u_terms.specs.Syntax.{Val}
use Rattle.u_equal.specs.Joined.{State, label_now, seen, IsProgress}
use Rattle.u_equal.specs.Tables.{AreCallsOf, same_signature}
use Rattle.u_equal.specs.Agendas.{EachUses}
use Rattle.u_equal.proofs.edges.Reaches.{fewer-edges}
use Rattle.u_equal.proofs.congruence.Signatures.{all-closed, known-less, progress-through}
use Rattle.u_equal.proofs.congruence.Waiting.{all-settled, all-use, each-leads}
use Rattle.u_equal.proofs.forest.Forest.join_calls.Goals as goal

pub loop-agenda-smaller : goal.loop-agenda-smaller
loop-agenda-smaller c =
    let n = c.in_ok-join_next.ensures.next in
    let joins = n.joins c.if-branch.true in
    let same : length c.join_next.new.self.values.keys ≡ length c.loop-agenda.self.values.keys = ap length n.progress.values in
    let fewer = fewer-edges (seen c.join_next.new.self) n.progress.state in
    let more = ap (λ (x : State). length x.edges) joins.1 in
    let less : length c.join_next.new.self.values.keys - length c.join_next.new.self.edges.items < length c.loop-agenda.self.values.keys - length c.loop-agenda.self.edges.items =
    omega (arith, same, fewer, more, length_push c.loop-agenda.self.edges.items joins.0) in
    less

pub loop-agenda-preserved : goal.loop-agenda-preserved
loop-agenda-preserved c =
    let calls = c.args.calls.now in
    let s = seen c.loop-agenda.self in
    let t = seen c.join_next.new.self in
    let before = c.join_next.new.agenda in
    let after = c.wake.new.self in
    let h = c.loop-agenda.invariant in
    let n = c.in_ok-join_next.ensures.next in
    let joins = n.joins c.if-branch.true in
    let woken = c.in_ok-wake.ensures.woken in
    let forgotten = c.in_ok-wake.ensures.forgotten in
    let look = get same_signature c.join_next.new.known in
    let look_after = get same_signature c.wake.new.known in
    let users = ap (λ us. us.items) c.in_ok-join_next.ensures.users in
    let uses = subst (λ (us : List (List ℕ)). EachUses (label_now s) us calls) (sym users) h.uses in
    record {
      tree = c.in_ok-join_next.ensures.tree;
      progress = progress-through c.args.self.now.values.keys (seen c.args.self.now) s t h.progress (subst (λ (vs : List Val). IsProgress vs s t) h.progress.values n.progress);
      known = known-less t.values t t look look_after n.known forgotten;
      long = omega (arith, woken.long, ap length users, h.long, ap length n.progress.values);
      uses = all-use s t joins.0 joins.1 calls before after woken uses;
      settled = all-settled s t joins.0 joins.1 calls before after woken look look_after forgotten uses joins.2;
    }

pub returns-clause-progress : goal.returns-clause-progress
returns-clause-progress c =
    let s = seen c.loop-agenda.self in
    let t = seen c.join_next.new.self in
    let h = c.loop-agenda.invariant in
    let n = c.in_ok-join_next.ensures.next in
    progress-through c.args.self.now.values.keys (seen c.args.self.now) s t h.progress (subst (λ (vs : List Val). IsProgress vs s t) h.progress.values n.progress)

pub returns-clause-closed : goal.returns-clause-closed
returns-clause-closed c =
    let calls = c.args.calls.now in
    let t = seen c.join_next.new.self in
    let look = get same_signature c.join_next.new.known in
    let h = c.loop-agenda.invariant in
    let n = c.in_ok-join_next.ensures.next in
    all-closed t.values calls t look refl
    (subst (λ (vs : List Val). AreCallsOf vs calls) (sym (n.progress.values ∙ h.progress.values)) c.requires.calls)
    (each-leads calls t look (n.settled c.if-branch.false))
