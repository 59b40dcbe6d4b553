use Rattle.std.proofs.Common.{◌≡◌, ◌∷◌, arith}
use Rattle.std.specs.Prelude.{IsTrue, ◌↔◌}
use Rattle.u_terms.specs.Syntax.{U}
use Rattle.u_terms.specs.Binding.{mapped, sums, same_place, place_for_names}
use Rattle.u_terms.specs.Products.{product_of}
use Rattle.u_rules.specs.Terms.{R, places, equal_columns}
use Rattle.u_rules.proofs.terms.UnderSums.{deep-under, same-under, never-under}
use Rattle.u_rules.proofs.table_same.are_found_rows.Goals as goal

pub are_columns-requires-clause-shallow : goal.are_columns-requires-clause-shallow
are_columns-requires-clause-shallow c =
    let under : c.args.u.now ≡ sums c.args.width c.in-Some.body.now = rw c.from.ensures at c.in-Some.ensures in
    omega (arith, deep-under c.args.width c.args.u.now c.in-Some.body.now under, c.requires.shallow)

pub returns-in-Some : goal.returns-in-Some
returns-in-Some c =
    let under : c.args.u.now ≡ sums c.args.width c.in-Some.body.now = rw c.from.ensures at c.in-Some.ensures in
    let w = c.args.width in
    let told : IsTrue c.are_columns.result ↔ (c.in-Some.body.now ≡ mapped same_place (place_for_names c.args.first c.args.count) w (product_of (R c.args.fkey.now.to (places w) ∷ equal_columns (places w) c.as_slice.result.now c.args.row.now c.as_slice-in-Some.result.now)))
    = c.are_columns.ensures in
    same-under same_place (place_for_names c.args.first c.args.count) w c.args.u.now c.in-Some.body.now
    (product_of (R c.args.fkey.now.to (places w) ∷ equal_columns (places w) c.args.fkey.now.key c.args.row.now c.args.fkey.now.cols))
    c.are_columns.result under (rw (c.as_slice.ensures, c.as_slice-in-Some.ensures) at told)

pub returns-in-None : goal.returns-in-None
returns-in-None c =
    let w = c.args.width in
    let body : U = product_of (R c.args.fkey.now.to (places w) ∷ equal_columns (places w) c.args.fkey.now.key c.args.row.now c.args.fkey.now.cols) in
    let none : (under : U) → c.args.u.now ≡ sums w under → ⊥ = rw c.from.ensures at c.in-None.ensures in
    (λ never. absurd (cc), λ is. absurd (never-under same_place (place_for_names c.args.first c.args.count) w c.args.u.now body none is))
