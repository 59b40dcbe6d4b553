use Rattle.std.proofs.Common.{◌≡◌, ◌<◌, length, arith, sym, ◌∙◌}
use Rattle.u_simple.proofs.BodiesLed.{led-aggregate, led-function, led-row}
use Rattle.u_simple.proofs.bodies.+has_body.Goals as goal

pub row_has_body-returns-in-Some-get : goal.row_has_body-returns-in-Some-get
row_has_body-returns-in-Some-get t c =
    let found = c.in-Some-get.ensures.lookup in
    let less : c.in-Some.index.now < length c.args.values.now = grind (arith, found.0) in
    λ h. led-row c.args.body.now c.args.path.now c.args.values.now c.in-Some.index.now c.in-Some.rest.now c.in-Some-get.value.now c.in-Some.ensures.cases.0 less found.1 (c.value_has_body.ensures h)

pub value_has_body-returns-in-Fun : goal.value_has_body-returns-in-Fun
value_has_body-returns-in-Fun t c =
    λ h. led-function c.args.body.now c.args.path.now c.args.value.now c.in-Fun.field-0 c.in-Fun.values c.as_slice.result.now c.in-Fun.is c.as_slice.ensures (c.row_has_body.ensures h)

pub value_has_body-returns-then-is_empty : goal.value_has_body-returns-then-is_empty
value_has_body-returns-then-is_empty t c =
    let none : length c.args.path.now ≡ 0 = grind (arith, c.is_empty.ensures, c.if-is_empty.true) in
    λ h. led-aggregate c.args.body.now c.args.path.now c.args.value.now c.in-Agg.field-0 c.in-Agg.found none c.in-Agg.is (sym c.get.ensures ∙ c.same.ensures.0 h)
