use Rattle.std.proofs.Common.{◌≡◌, ◌∷◌, length, slice_range, arith}
use Rattle.std.specs.Prelude.{IsTrue, ◌↔◌}
use Rattle.std.proofs.lemmas.Grind.{common_steps}
use Rattle.u_terms.specs.Binding.{mapped, same_place, place_for_names}
use Rattle.u_terms.specs.Products.{product_of}
use Rattle.u_terms.proofs.Mapped.{mapped-Mul}
use Rattle.u_terms.proofs.Parts.{parts-Mul}
use Rattle.u_rules.specs.Factors.{factor_of}
use Rattle.u_rules.specs.Terms.{◌≐◌, equal_rows}
use Rattle.u_rules.proofs.terms.UnderSums.{rows-step}
use Rattle.u_rules.proofs.table_same.+are_rows.Goals as goal

pub returns-then-is_factor : goal.returns-then-is_factor
returns-then-is_factor t c =
    let step = rows-step (factor_of c.args.head) c.args.s.now c.args.t.now c.a-item.result c.b-item.result c.in-len1-up.len_at_least c.in-len1-up-t.len_at_least c.a-item.is c.b-item.is in
    let told : IsTrue c.are_rows.result ↔ (c.get-then-is_factor.result.now ≡ mapped same_place (place_for_names c.args.first c.args.count) c.args.binders (product_of ((c.a-item.result ≐ c.b-item.result) ∷ equal_rows (slice_range c.args.s.now 1 (length c.args.s.now)) (slice_range c.args.t.now 1 (length c.args.t.now))))) = c.are_rows.ensures in
    rw (c.in-Mul.is, step, mapped-Mul) (λ yes. grind (arith, common_steps), λ e. let h = parts-Mul _ _ _ _ e in grind (arith, common_steps))

pub returns-else-is_factor : goal.returns-else-is_factor
returns-else-is_factor t c =
    let step = rows-step (factor_of c.args.head) c.args.s.now c.args.t.now c.a-item.result c.b-item.result c.in-len1-up.len_at_least c.in-len1-up-t.len_at_least c.a-item.is c.b-item.is in
    rw (c.in-Mul.is, step, mapped-Mul) (λ yes. grind (arith, common_steps), λ e. let h = parts-Mul _ _ _ _ e in grind (arith, common_steps))
