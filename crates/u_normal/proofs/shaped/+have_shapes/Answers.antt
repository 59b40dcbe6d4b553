use Rattle.std.proofs.Common.{◌≡◌, false, true, sym, subst}
use Rattle.std.specs.Prelude.{IfOk, ◌↔◌, IsTrue}
use Rattle.u_terms.specs.Syntax.{U}
use Rattle.u_normal.specs.Shaped.{AreShaped}
use Rattle.u_normal.proofs.shapes.ShapedSums.{tells-block, tells-left, tells-right}
use Rattle.u_normal.proofs.shaped.+have_shapes.Goals as goal

pub returns-then-not-branch : goal.returns-then-not-branch
returns-then-not-branch t c =
    tells-left c.args.outs c.args.u.now c.in-Add.a c.in-Add.b c.in-Add.is
    (λ h. let k : c.in_ok-have_shapes-in-Add.field-0 ≡ true = (c.in_ok-have_shapes-in-Add.ensures {u = tt}).1 (subst (λ (x : U). AreShaped c.args.outs x) (sym c.get.ensures) h) in
    let n : c.in_ok-have_shapes-in-Add.field-0 ≡ false = c.if-not-branch.true in cc)

pub returns-else-not-branch : goal.returns-else-not-branch
returns-else-not-branch t c =
    tells-right c.args.outs c.args.u.now c.in-Add.a c.in-Add.b c.in-Add.is
    (subst (λ (x : U). AreShaped c.args.outs x) c.get.ensures ((c.in_ok-have_shapes-in-Add.ensures {u = tt}).0 c.if-not-branch.false))
    c.have_shapes-in-Add.result
    (subst (λ (x : U). IfOk c.have_shapes-in-Add.result (λ all. IsTrue all ↔ AreShaped c.args.outs x)) c.get-in-Add.ensures c.have_shapes-in-Add.ensures)

pub returns-in_default : goal.returns-in_default
returns-in_default t c = tells-block c.args.outs c.args.u.now c.in_default.not-Add c.has_shape.result c.has_shape.ensures
