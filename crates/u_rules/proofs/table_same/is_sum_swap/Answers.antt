use Rattle.std.proofs.Common.{◌≡◌, ◌+◌, arith}
use Rattle.u_terms.specs.Syntax.{U}
use Rattle.u_terms.specs.Binding.{sums, same_place, place_for_names}
use Rattle.u_rules.specs.Sides.{side_of}
use Rattle.u_rules.specs.Terms.{turned}
use Rattle.u_rules.proofs.terms.UnderSums.{deep-under, side-under, same-under, never-under}
use Rattle.u_rules.proofs.table_same.is_sum_swap.Goals as goal

pub is_swapped-requires-clause-shallow : goal.is_swapped-requires-clause-shallow
is_swapped-requires-clause-shallow c =
    let n = c.args.outer + c.args.inner in
    let under : c.args.u.now ≡ sums n c.in-Some.under.now = rw (c.from.ensures, c.from-2.ensures) at c.in-Some.ensures in
    omega (arith, deep-under n c.args.u.now c.in-Some.under.now under, c.requires.shallow)

pub returns-in-Some : goal.returns-in-Some
returns-in-Some c =
    let n = c.args.outer + c.args.inner in
    let body : U = side_of c.args.turned c.args.body.now (turned c.args.outer c.args.inner c.args.body.now) in
    let under : c.args.u.now ≡ sums n c.in-Some.under.now = rw (c.from.ensures, c.from-2.ensures) at c.in-Some.ensures in
    rw (side-under c.args.turned n c.args.body.now (turned c.args.outer c.args.inner c.args.body.now))
    (same-under same_place (place_for_names c.args.first c.args.count) n c.args.u.now c.in-Some.under.now body c.is_swapped.result under c.is_swapped.ensures)

pub returns-in-None : goal.returns-in-None
returns-in-None c =
    let n = c.args.outer + c.args.inner in
    let body : U = side_of c.args.turned c.args.body.now (turned c.args.outer c.args.inner c.args.body.now) in
    let none : (under : U) → c.args.u.now ≡ sums n under → ⊥ = rw (c.from.ensures, c.from-2.ensures) at c.in-None.ensures in
    rw (side-under c.args.turned n c.args.body.now (turned c.args.outer c.args.inner c.args.body.now))
    (λ never. absurd (cc), λ is. absurd (never-under same_place (place_for_names c.args.first c.args.count) n c.args.u.now body none is))
