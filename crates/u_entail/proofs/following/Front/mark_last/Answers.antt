use Rattle.std.proofs.Common.{ap, ◌∙◌}
use Rattle.u_terms.specs.Syntax.{U}
use Rattle.u_rules.specs.Terms.{terms}
use Rattle.u_entail.specs.Spines.{spine}
use Rattle.u_entail.proofs.copies.Doubled.{first-known, last-known, last-leaves}
use Rattle.u_entail.proofs.following.Front.mark_last.Goals as goal

pub mul_ac-requires-clause-x : goal.mul_ac-requires-clause-x
mul_ac-requires-clause-x c =
    first-known (terms c.args.self.now.factors.now) (terms c.args.others.now) c.args.place c.args.mark.now c.requires.parted c.args.self.now.moves.outs c.requires.factors c.into_inner.result
    (c.into_inner.ensures ∙ c.in_ok-whole.ensures {u = tt})

pub mul_ac-requires-clause-y : goal.mul_ac-requires-clause-y
mul_ac-requires-clause-y c =
    last-known (terms c.args.self.now.factors.now) (terms c.args.others.now) c.args.place c.args.mark.now c.requires.parted c.args.self.now.moves.outs c.requires.factors c.in_ok-last.last
    (c.in_ok-last.ensures {u = tt} ∙ ap (λ (x : U). spine (terms c.args.others.now) x) (c.in_ok-copy.ensures {u = tt}))

pub mul_ac-requires-clause-leaves : goal.mul_ac-requires-clause-leaves
mul_ac-requires-clause-leaves c =
    last-leaves (terms c.args.self.now.factors.now) (terms c.args.others.now) c.args.place c.args.mark.now c.requires.parted c.into_inner.result c.in_ok-last.last
    (c.into_inner.ensures ∙ c.in_ok-whole.ensures {u = tt})
    (c.in_ok-last.ensures {u = tt} ∙ ap (λ (x : U). spine (terms c.args.others.now) x) (c.in_ok-copy.ensures {u = tt}))
