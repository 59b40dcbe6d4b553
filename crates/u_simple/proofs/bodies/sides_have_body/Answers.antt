use Rattle.std.proofs.Common.{ℕ, ◌∷◌, refl, ap, ◌∙◌}
use Rattle.u_rules.specs.Terms.{◌≐◌}
use Rattle.u_simple.proofs.StandingBodies.{body-in_first, body-in_second}
use Rattle.u_simple.proofs.bodies.sides_have_body.Goals as goal

pub returns-in-Some-eq0-default : goal.returns-in-Some-eq0-default
returns-in-Some-eq0-default c =
    let found = c.in-Some-eq0-default in
    λ h. body-in_first c.args.body.now (c.args.a.now ≐ c.args.b.now) c.args.path.now found.rest.now c.args.a.now c.args.b.now refl
    (found.ensures.cases.0 ∙ ap (λ (n : ℕ). n ∷ found.rest.now) found.field-0-0-test) (c.value_has_body.ensures h)

pub returns-in-Some-eq1-default : goal.returns-in-Some-eq1-default
returns-in-Some-eq1-default c =
    let found = c.in-Some-eq1-default in
    λ h. body-in_second c.args.body.now (c.args.a.now ≐ c.args.b.now) c.args.path.now found.rest.now c.args.a.now c.args.b.now refl
    (found.ensures.cases.0 ∙ ap (λ (n : ℕ). n ∷ found.rest.now) found.field-0-0-test) (c.value_has_body-in-Some-eq1-default.ensures h)
