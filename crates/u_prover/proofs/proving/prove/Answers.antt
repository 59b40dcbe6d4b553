use Rattle.std.proofs.Common.{subst}
use Rattle.std.specs.Prelude.{Option, MatchOption}
use Rattle.std.proofs.lemmas.Result.{IfOk-weaker}
use Rattle.u_moves.specs.Derivations.{Derivation}
use Rattle.u_prover.specs.Proving.{AreNoSmallTerm, IsEnding, IsFound, IsOutcome}
use Rattle.u_prover.proofs.Outcomes.{outcome-of}
use Rattle.u_prover.proofs.proving.prove.Goals as goal

pub returns-in-None : goal.returns-in-None
returns-in-None c =
    let F = c.args.facts.now in
    let outs = c.args.outs in
    let left = c.args.left.now in
    let right = c.args.right.now in
    let differ : AreNoSmallTerm left right =
    subst (λ (o : Option Derivation). MatchOption o (AreNoSmallTerm left right) (IsFound F outs left right)) c.in-None.is (c.in_ok-deriv.ensures {u = tt}) in
    IfOk-weaker c.by_normal_forms.result (IsEnding F outs left right c.args.budget) (IsOutcome F outs left right c.args.budget) (outcome-of F outs left right c.args.budget differ) c.by_normal_forms.ensures
