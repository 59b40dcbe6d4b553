use Rattle.std.proofs.Common.{◌≡◌, ◌-◌, false, sym, ap, ◌∙◌, arith}
use Rattle.std.proofs.lemmas.Result.{on_ok_weaker}
use Rattle.indexmap.specs.IndexMap.{get}
use Rattle.u_equal.specs.declared.calls.Signature.{Signature}
use Rattle.u_equal.specs.Joined.{label_now, seen}
use Rattle.u_equal.specs.Tables.{same_signature, signature}
use Rattle.u_equal.proofs.congruence.Signatures.{forgets}
use Rattle.u_equal.proofs.agenda.Agenda.wake_call.Goals as goal

pub returns-clause-forgotten : goal.returns-clause-forgotten
returns-clause-forgotten c =
    let s = seen c.args.forest.now in
    let call = c.args.call.now in
    let before : Signature = c.in_ok-before.before in
    let now : Signature = signature (label_now s) call in
    let differs : same_signature before now ≡ false = ap (λ (g : Signature). same_signature before g) (sym c.in_ok-signature.ensures) ∙ sym c.eq.ensures ∙ c.if-eq.false in
    on_ok_weaker c.push.result (λ added.
    forgets s c.requires.state call (c.len.result - 1) before (get same_signature c.args.known.now) (get same_signature c.swap_remove.new.self) (omega (arith, c.len.ensures)) c.in_ok-before.ensures differs c.swap_remove.ensures.updates.0) c.push.ensures.added
