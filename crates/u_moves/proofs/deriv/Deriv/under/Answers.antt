use Rattle.std.proofs.Common.{◌≡◌, ap, ◌∙◌}
use Rattle.u_moves.specs.Derivations.{Derivation}
use Rattle.u_moves.specs.Lifting.{IsMadeIn, IsUnder}
use Rattle.u_moves.proofs.derivations.Whole.{enough-names, whole-known, whole-shallow, part-of-none, under-shown, if-ok}
use Rattle.u_moves.proofs.deriv.Deriv.under.Goals as goal

pub overflow_sub-names : goal.overflow_sub-names
overflow_sub-names c =
    let outs : c.self.inside.outs ≡ c.args.self.outs = ap (λ (d : Derivation). d.outs) c.self.view_is in
    enough-names c.args.path.now c.args.whole.now c.args.self.outs c.args.self.from c.requires c.self.inside.outs c.binders_on.result outs c.binders_on.ensures

pub refl-requires-clause-known : goal.refl-requires-clause-known
refl-requires-clause-known c =
    let outs : c.self.inside.outs ≡ c.args.self.outs = ap (λ (d : Derivation). d.outs) c.self.view_is in
    whole-known c.args.path.now c.args.whole.now c.args.self.outs c.args.self.from c.requires c.self.inside.outs c.binders_on.result outs c.binders_on.ensures

pub refl-requires-clause-shallow : goal.refl-requires-clause-shallow
refl-requires-clause-shallow c =
    let outs : c.self.inside.outs ≡ c.args.self.outs = ap (λ (d : Derivation). d.outs) c.self.view_is in
    whole-shallow c.args.path.now c.args.whole.now c.args.self.outs c.args.self.from c.requires c.self.inside.outs c.binders_on.result outs c.binders_on.ensures

pub then_under-requires-clause-facts : goal.then_under-requires-clause-facts
then_under-requires-clause-facts c =
    let still = c.in_ok-none.ensures {u = tt} in
    still.facts ∙ ap (λ (d : Derivation). d.facts) c.self.view_is

pub then_under-requires-clause-part : goal.then_under-requires-clause-part
then_under-requires-clause-part c =
    let outs : c.self.inside.outs ≡ c.args.self.outs = ap (λ (d : Derivation). d.outs) c.self.view_is in
    part-of-none c.args.path.now c.args.whole.now c.args.self.outs c.args.self.from c.requires c.self.inside.outs c.binders_on.result outs c.binders_on.ensures c.self.inside.facts.now
    c.in_ok-none.none (c.in_ok-none.ensures {u = tt})

pub returns : goal.returns
returns c =
    if-ok (IsMadeIn c.args.path.now c.in_ok-none.none c.args.self) (IsUnder c.args.path.now c.args.whole.now c.args.self)
    (λ d made. under-shown c.args.path.now c.args.whole.now c.self.inside.facts.now _ c.args.self c.in_ok-none.none d (ap (λ (x : Derivation). x.facts) c.self.view_is) (c.in_ok-none.ensures {u = tt}) made)
    c.then_under.result c.then_under.ensures
