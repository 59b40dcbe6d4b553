use Rattle.std.proofs.Common.{◌≡◌, ap, sym, ◌∙◌, arith}
use Rattle.u_terms.specs.Binding.{closed_path}
use Rattle.u_terms.proofs.Binding.{closed_path-none}
use Rattle.u_deriv.proofs.edit.close_names.Goals as goal

pub returns-else-count-gt0 : goal.returns-else-count-gt0
returns-else-count-gt0 c =
    let none : c.args.count ≡ 0 = omega arith in
    sym (closed_path-none c.args.u.now c.args.outs) ∙ ap (closed_path c.args.u.now c.args.outs) (sym none)
