use Rattle.std.proofs.Common.{sym, refl, subst}
use Rattle.std.specs.Prelude.{ℕ, Option}
use Rattle.std.proofs.lemmas.Result.{IfOk-weaker}
use Rattle.indexmap.specs.IndexMap.{get}
use Rattle.u_equal.specs.declared.calls.Signature.{Signature}
use Rattle.u_equal.specs.Joined.{seen, label_now}
use Rattle.u_equal.specs.Tables.{IsNoted, IsStep, same_signature, signature}
use Rattle.u_equal.proofs.congruence.Signatures.{step-joined}
use Rattle.u_equal.proofs.forest.Forest.join_call.Goals as goal

pub returns-in-Some-clause-step : goal.returns-in-Some-clause-step
returns-in-Some-clause-step c =
    let s = seen c.args.self.now in
    let t = seen c.join.new.self in
    let call = c.args.call.now in
    let one : Signature → Option ℕ = get same_signature c.args.known.now in
    let two : Signature → Option ℕ = get same_signature c.note.new.known in
    let g = signature (label_now s) call in
    let noted = subst (λ (o : Option ℕ). IsNoted g call.place one two o) c.in-Some.is c.in_ok-other.ensures in
    IfOk-weaker c.join.result _ _
    (λ joined m. subst (λ (look : Signature → Option ℕ). IsStep call s t one look joined) (sym noted.1)
    (step-joined s c.requires.state call c.requires.call one c.requires.known g refl t c.in-Some.other joined noted.0 m))
    c.join.ensures.moved
