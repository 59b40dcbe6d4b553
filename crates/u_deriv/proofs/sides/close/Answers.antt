use Rattle.std.proofs.Common.{◌≡◌, ap, sym, ◌∙◌, arith}
use Rattle.u_terms.specs.Binding.{closed_path}
use Rattle.u_terms.proofs.Binding.{closed_path-none}
use Rattle.u_deriv.proofs.sides.close.Goals as goal

pub returns-then-count-eq0 : goal.returns-then-count-eq0
returns-then-count-eq0 c =
    let none : c.args.count ≡ 0 = omega arith in
    sym (closed_path-none c.args.u c.args.outs) ∙ ap (closed_path c.args.u c.args.outs) (sym none)
