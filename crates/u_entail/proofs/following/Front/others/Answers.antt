use Rattle.std.proofs.Common.{◌≡◌, length, rules, ap, ◌∙◌, arith}
use Rattle.u_rules.specs.Terms.{terms}
use Rattle.u_entail.specs.Marks.{without}
use Rattle.u_entail.proofs.copies.Doubled.{terms-without, within-terms}
use Rattle.u_entail.proofs.following.Front.others.Goals as goal

pub remove-requires : goal.remove-requires
remove-requires c =
    let same : c.in_ok-others.others.items ≡ c.args.self.now.factors.now = search rules in
    let h = c.requires in
    omega (arith, within-terms c.args.self.now.factors.now c.args.place h.mark h.at, ap length same)

pub returns : goal.returns
returns c =
    let same : c.in_ok-others.others.items ≡ c.args.self.now.factors.now = search rules in
    ap terms c.remove.ensures.items ∙ terms-without c.in_ok-others.others.items c.args.place ∙ ap (λ rs. without c.args.place (terms rs)) same
