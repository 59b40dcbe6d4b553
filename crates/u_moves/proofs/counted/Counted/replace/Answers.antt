use Rattle.std.proofs.Common.{◌≡◌, ◌∙◌, subst, sym, arith}
use Rattle.u_terms.specs.Syntax.{U}
use Rattle.u_terms.specs.Size.{nodes}
use Rattle.u_deriv.proofs.contexts.Extents.{replaced-nodes}
use Rattle.u_moves.specs.Lifting.{Stands}
use Rattle.u_moves.proofs.derivations.Sound.{never_refused}
use Rattle.u_moves.proofs.counted.Counted.replace.Goals as goal

pub overflow_sub-self : goal.overflow_sub-self
overflow_sub-self c =
    let made = replaced-nodes c.args.outs c.args.path.now c.self.inside.term c.from.inside.term c.to.inside.term c.replace.new.u (rw (c.get_mut.ensures.value, c.get.ensures, c.into_inner.ensures) at (c.in-Ok.ensures {u = tt})) in
    let sum = c.in-Some.ensures {u = tt} in
    let here : c.self.inside.nodes ≡ nodes c.self.inside.term = c.self.invariant in
    let old : c.from.inside.nodes ≡ nodes c.from.inside.term = c.from.invariant in
    let new : c.to.inside.nodes ≡ nodes c.to.inside.term = c.to.invariant in
    omega (arith, made, sum.1, here, old, new)

pub invariant_of-self : goal.invariant_of-self
invariant_of-self c =
    let made = replaced-nodes c.args.outs c.args.path.now c.self.inside.term c.from.inside.term c.to.inside.term c.replace.new.u (rw (c.get_mut.ensures.value, c.get.ensures, c.into_inner.ensures) at (c.in-Ok.ensures {u = tt})) in
    let sum = c.in-Some.ensures {u = tt} in
    let here : c.self.inside.nodes ≡ nodes c.self.inside.term = c.self.invariant in
    let old : c.from.inside.nodes ≡ nodes c.from.inside.term = c.from.invariant in
    let new : c.to.inside.nodes ≡ nodes c.to.inside.term = c.to.invariant in
    omega (arith, made, sum.1, here, old, new)

pub unreachable-requires : goal.unreachable-requires
unreachable-requires c =
    let whole : c.get_mut.result.now ≡ c.args.self.now = c.get_mut.ensures.value ∙ c.self.view_is in
    let part : c.get.result.now ≡ c.args.from.now = c.get.ensures ∙ c.from.view_is in
    let stands : Stands c.args.outs c.args.path.now c.get_mut.result.now c.get.result.now =
    subst (λ (u : U). Stands c.args.outs c.args.path.now u c.get.result.now) (sym whole)
    (subst (λ (u : U). Stands c.args.outs c.args.path.now c.args.self.now u) (sym part) c.requires.stands) in
    never_refused c.args.outs c.args.path.now c.get_mut.result.now c.get.result.now c.into_inner.result c.replace.new.u c.in-Err.field-0 stands (c.in-Err.ensures {u = tt})
