use Rattle.std.proofs.Common.{◌≡◌, ◌∷◌, length, slice_index_or, slice_range, arith}
use Rattle.std.specs.Prelude.{IsTrue, ◌↔◌}
use Rattle.std.proofs.lemmas.Grind.{common_steps}
use Rattle.u_terms.specs.Binding.{mapped, same_place, place_for_names}
use Rattle.u_terms.specs.Products.{product_of}
use Rattle.u_terms.proofs.Mapped.{mapped-Mul}
use Rattle.u_terms.proofs.Parts.{parts-Mul}
use Rattle.u_rules.specs.Factors.{cells_of, factor_of}
use Rattle.u_rules.specs.Terms.{◌≐◌, column, equal_columns}
use Rattle.u_rules.proofs.terms.UnderSums.{columns-step}
use Rattle.u_rules.proofs.table_same.+are_columns.Goals as goal

pub returns-then-is_factor : goal.returns-then-is_factor
returns-then-is_factor t c =
    let step = columns-step (factor_of c.args.head) (cells_of c.args.s) c.args.cs.now (cells_of c.args.t) c.args.ds.now c.in-len1-up.len_at_least c.in-len1-up-ds.len_at_least in
    let told : IsTrue c.are_columns.result ↔ (c.get-then-is_factor.result.now ≡ mapped same_place (place_for_names c.args.first c.args.count) c.args.binders (product_of ((column (cells_of c.args.s) (slice_index_or c.args.cs.now 0 0) ≐ column (cells_of c.args.t) (slice_index_or c.args.ds.now 0 0)) ∷ equal_columns (cells_of c.args.s) (slice_range c.args.cs.now 1 (length c.args.cs.now)) (cells_of c.args.t) (slice_range c.args.ds.now 1 (length c.args.ds.now))))) = c.are_columns.ensures in
    rw (c.in-Mul.is, step, mapped-Mul) (λ yes. grind (arith, common_steps), λ e. let h = parts-Mul _ _ _ _ e in grind (arith, common_steps))

pub returns-else-is_factor : goal.returns-else-is_factor
returns-else-is_factor t c =
    let step = columns-step (factor_of c.args.head) (cells_of c.args.s) c.args.cs.now (cells_of c.args.t) c.args.ds.now c.in-len1-up.len_at_least c.in-len1-up-ds.len_at_least in
    rw (c.in-Mul.is, step, mapped-Mul) (λ yes. grind (arith, common_steps), λ e. let h = parts-Mul _ _ _ _ e in grind (arith, common_steps))
