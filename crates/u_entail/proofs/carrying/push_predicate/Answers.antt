use Rattle.std.proofs.Common.{◌≡◌, ℕ, List, ap, sym, ◌∙◌, subst, arith}
use Rattle.std.proofs.lemmas.Result.{IfOk-weaker}
use Rattle.u_terms.specs.Syntax.{U, Val}
use Rattle.u_rules.specs.Terms.{P}
use Rattle.u_entail.specs.Carrying.{IsMarkPaired}
use Rattle.u_entail.proofs.copies.Carried.{pred-paired}
use Rattle.u_entail.proofs.carrying.push_predicate.Goals as goal

pub returns-else-symbol-other : goal.returns-else-symbol-other
returns-else-symbol-other c =
    let product = c.args.classes.now in
    let symbol = c.args.symbol in
    let same : c.in-Pred.other ≡ symbol = omega arith in
    let is : c.args.wanted.now ≡ P symbol c.as_slice.result.now = c.in-Pred.is ∙ ap (λ (n : ℕ). P n c.in-Pred.others) same ∙ ap (λ (vs : List Val). P symbol vs) (sym c.as_slice.ensures) in
    IfOk-weaker c.push_points.result _ _
    (λ answer h. subst (λ (w : U). IsMarkPaired product (P symbol c.args.points.now) w c.args.pairs.now.items c.push_points.new.pairs.items answer) (sym is)
    (pred-paired product symbol c.args.points.now c.as_slice.result.now c.args.pairs.now.items c.push_points.new.pairs.items answer h))
    c.push_points.ensures
