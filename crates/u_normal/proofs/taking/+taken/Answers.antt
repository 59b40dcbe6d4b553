use Rattle.std.proofs.Common.{◌≡◌, true, false, subst}
use Rattle.u_terms.specs.Syntax.{U}
use Rattle.u_rules.specs.Terms.{◌⊗◌}
use Rattle.u_normal.specs.Taking.{HasNone, IsTaken}
use Rattle.u_normal.proofs.products.Takings.{found-some, found-none, none-one, none-leaf, none-both, taken-alone, taken-before, taken-behind}
use Rattle.u_normal.proofs.taking.+taken.Goals as goal

pub returns-in-One : goal.returns-in-One
returns-in-One t c = none-one c.args.kind c.args.u.now c.in-One.is

pub returns-in_ok-before-in-Some : goal.returns-in_ok-before-in-Some
returns-in_ok-before-in-Some t c =
    let found = found-some c.args.kind c.get.result.now c.in_ok-found-in-Mul.field-0 c.in-Some.found c.in-Some.is (c.in_ok-found-in-Mul.ensures {u = tt}) in
    let whole = c.in_ok-before-in-Some.ensures {u = tt} in
    taken-before c.args.kind c.args.u.now c.in-Mul.a c.in-Mul.b c.in-Mul.is c.in-Some.found c.in_ok-before-in-Some.field-0
    (subst (λ (a : U). IsTaken c.args.kind a c.in-Some.found) c.get.ensures found)
    (subst (λ (b : U). c.in_ok-before-in-Some.field-0.rest ≡ c.in-Some.found.rest ⊗ b) c.get-in-Some.ensures whole.rest) whole.part

pub returns-in_ok-behind-in-Some-2 : goal.returns-in_ok-behind-in-Some-2
returns-in_ok-behind-in-Some-2 t c =
    let found = found-some c.args.kind c.get-in-None.result.now c.in_ok-found-in-None.field-0 c.in-Some-2.found c.in-Some-2.is (c.in_ok-found-in-None.ensures {u = tt}) in
    let whole = c.in_ok-behind-in-Some-2.ensures {u = tt} in
    taken-behind c.args.kind c.args.u.now c.in-Mul.a c.in-Mul.b c.in-Mul.is c.in-Some-2.found c.in_ok-behind-in-Some-2.field-0
    (subst (λ (b : U). IsTaken c.args.kind b c.in-Some-2.found) c.get-in-None.ensures found)
    (subst (λ (a : U). c.in_ok-behind-in-Some-2.field-0.rest ≡ a ⊗ c.in-Some-2.found.rest) c.get-in-Some-2.ensures whole.rest) whole.part

pub returns-in-None-2 : goal.returns-in-None-2
returns-in-None-2 t c =
    none-both c.args.kind c.args.u.now c.in-Mul.a c.in-Mul.b c.in-Mul.is
    (subst (λ (a : U). HasNone c.args.kind a) c.get.ensures (found-none c.args.kind c.get.result.now c.in_ok-found-in-Mul.field-0 c.in-None.is (c.in_ok-found-in-Mul.ensures {u = tt})))
    (subst (λ (b : U). HasNone c.args.kind b) c.get-in-None.ensures (found-none c.args.kind c.get-in-None.result.now c.in_ok-found-in-None.field-0 c.in-None-2.is (c.in_ok-found-in-None.ensures {u = tt})))

pub returns-in_ok-alone-in_default : goal.returns-in_ok-alone-in_default
returns-in_ok-alone-in_default t c =
    let whole = c.in_ok-alone-in_default.ensures {u = tt} in
    taken-alone c.args.kind c.args.u.now c.in_ok-alone-in_default.field-0 c.in_default.not-One c.in_default.not-Mul (c.is_of.ensures.0 c.if-is_of.true) whole.rest whole.part

pub returns-in_default-2 : goal.returns-in_default-2
returns-in_default-2 t c = none-leaf c.args.kind c.args.u.now c.in_default-2.not-One c.in_default-2.not-Mul (λ e. let k : false ≡ true = (c.if-is_of.ensures {u = tt}).1 e in absurd (cc))
