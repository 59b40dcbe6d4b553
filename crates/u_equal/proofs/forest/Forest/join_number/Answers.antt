use Rattle.std.proofs.Common.{length, refl}
use Rattle.std.proofs.lemmas.Option.{slice_get_past, slice_get_read}
use Rattle.std.proofs.lemmas.Result.{IfOk-weaker}
use Rattle.indexmap.specs.IndexMap.{get}
use Rattle.u_equal.specs.Joined.{seen}
use Rattle.u_equal.specs.Tables.{same_signature}
use Rattle.u_equal.proofs.congruence.Waiting.{looked-none, looked-step}
use Rattle.u_equal.proofs.forest.Forest.join_number.Goals as goal

pub returns-in-Some-clause-looked : goal.returns-in-Some-clause-looked
returns-in-Some-clause-looked c =
    let calls = c.args.calls.now in
    let found = c.in-Some.ensures.lookup in
    let at = slice_get_read calls (length calls) c.args.number c.in-Some.call.now refl found.3.0 found.1 in
    IfOk-weaker c.join_call.result _ _
    (λ joined step. looked-step calls c.args.number c.in-Some.call.now (seen c.args.self.now) (seen c.join_call.new.self) (get same_signature c.args.known.now) (get same_signature c.join_call.new.known) joined at step)
    c.join_call.ensures.step

pub returns-in-None-clause-looked : goal.returns-in-None-clause-looked
returns-in-None-clause-looked c =
    let found = c.in-None.ensures.lookup in
    looked-none c.args.calls.now c.args.number (seen c.args.self.now) (get same_signature c.args.known.now) c.requires.state c.requires.known (slice_get_past c.args.calls.now c.args.number found.3)
