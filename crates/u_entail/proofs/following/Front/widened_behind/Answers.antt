use Rattle.std.proofs.Common.{refl}
use Rattle.std.proofs.lemmas.Result.{IfOk-weaker}
use Rattle.u_rules.specs.Terms.{terms}
use Rattle.u_entail.specs.Spines.{spine}
use Rattle.u_entail.proofs.chains.Gained.{last-known, whole-known, whole-shallow, widened-more}
use Rattle.u_entail.proofs.following.Front.widened_behind.Goals as goal

pub still-requires-clause-known : goal.still-requires-clause-known
still-requires-clause-known c =
    let front = terms c.args.before.now in
    whole-known c.args.self.now.moves.outs (terms c.args.self.now.factors.now) front c.args.last.now c.requires.parts c.requires.factors (spine front c.args.last.now) refl

pub still-requires-clause-shallow : goal.still-requires-clause-shallow
still-requires-clause-shallow c =
    let front = terms c.args.before.now in
    whole-shallow c.args.self.now.moves.outs (terms c.args.self.now.factors.now) front c.args.last.now c.requires.parts c.requires.factors (spine front c.args.last.now) refl c.requires.shallow

pub times_one-requires : goal.times_one-requires
times_one-requires c = last-known c.args.self.now.moves.outs (terms c.args.self.now.factors.now) (terms c.args.before.now) c.args.last.now c.requires.parts c.requires.factors

pub returns : goal.returns
returns c =
    let m = c.args.self.now.moves in
    IfOk-weaker c.then_behind.result _ _
    (λ d made. widened-more m.facts.now m.outs (terms c.args.self.now.factors.now) (terms c.args.before.now) c.args.last.now c.requires.parts c.in_ok-still.still c.in_ok-wide.wide d (c.in_ok-still.ensures {u = tt})
    (c.in_ok-wide.ensures {u = tt}) made)
    c.then_behind.ensures
