use Rattle.std.proofs.Common.{ap, ◌∙◌}
use Rattle.u_terms.specs.Syntax.{U}
use Rattle.u_rules.specs.Terms.{terms}
use Rattle.u_entail.specs.Spines.{spine}
use Rattle.u_entail.proofs.copies.Doubled.{end-known, gathered-leaves, twice-known}
use Rattle.u_entail.proofs.following.Front.mark_gathered.Goals as goal

pub mul_ac-requires-clause-x : goal.mul_ac-requires-clause-x
mul_ac-requires-clause-x c =
    twice-known (terms c.args.self.now.factors.now) (terms c.args.others.now) c.args.place c.args.mark.now c.requires.parted c.args.self.now.moves.outs c.requires.factors c.into_inner.result
    (c.into_inner.ensures ∙ c.in_ok-twice.ensures {u = tt})

pub mul_ac-requires-clause-y : goal.mul_ac-requires-clause-y
mul_ac-requires-clause-y c =
    end-known (terms c.args.self.now.factors.now) (terms c.args.others.now) c.args.place c.args.mark.now c.requires.parted c.args.self.now.moves.outs c.requires.factors c.in_ok-gathered.gathered
    (c.in_ok-gathered.ensures {u = tt} ∙ ap (λ (x : U). spine (terms c.args.self.now.factors.now) x) (c.in_ok-copy.ensures {u = tt}))

pub mul_ac-requires-clause-leaves : goal.mul_ac-requires-clause-leaves
mul_ac-requires-clause-leaves c =
    gathered-leaves (terms c.args.self.now.factors.now) (terms c.args.others.now) c.args.place c.args.mark.now c.requires.parted c.into_inner.result c.in_ok-gathered.gathered
    (c.into_inner.ensures ∙ c.in_ok-twice.ensures {u = tt})
    (c.in_ok-gathered.ensures {u = tt} ∙ ap (λ (x : U). spine (terms c.args.self.now.factors.now) x) (c.in_ok-copy.ensures {u = tt}))
