use Rattle.std.proofs.Common.{subst, inl, inr}
use Rattle.std.specs.Prelude.{Option, MatchOption}
use Rattle.u_moves.specs.Derivations.{Derivation}
use Rattle.u_prover.specs.Proving.{HasNoNormal, IsMadeNormal}
use Rattle.u_prover.proofs.Reach.{none-told}
use Rattle.u_prover.proofs.simplifying.normal_ends.Goals as goal

pub returns-in_default : goal.returns-in_default
returns-in_default c =
    let m = c.args.moves in
    inl (none-told (HasNoNormal m.facts.now m.outs c.args.left.now) (IsMadeNormal m.facts.now m.outs c.args.left.now) c.in_ok-down.field-0 c.in_default.not-Some (c.in_ok-down.ensures {u = tt}))

pub returns-in_default-2 : goal.returns-in_default-2
returns-in_default-2 c =
    let m = c.args.moves in
    inr (none-told (HasNoNormal m.facts.now m.outs c.args.right.now) (IsMadeNormal m.facts.now m.outs c.args.right.now) c.in_ok-up.field-0 c.in_default-2.not-Some (c.in_ok-up.ensures {u = tt}))

pub returns : goal.returns
returns c =
    let m = c.args.moves in
    record {
      down = subst (λ (o : Option Derivation). MatchOption o (HasNoNormal m.facts.now m.outs c.args.left.now) (IsMadeNormal m.facts.now m.outs c.args.left.now)) c.in-Some.is (c.in_ok-down.ensures {u = tt});
      up = subst (λ (o : Option Derivation). MatchOption o (HasNoNormal m.facts.now m.outs c.args.right.now) (IsMadeNormal m.facts.now m.outs c.args.right.now)) c.in-Some-2.is (c.in_ok-up.ensures {u = tt});
    }
