use Rattle.std.proofs.Common.{◌≡◌, Some, None, true, false, refl, arith}
use Rattle.u_rules.specs.Answers.{fault_of, left_found, right_found}
use Rattle.u_rules.specs.Rows.{row}
use Rattle.u_rules.proofs.arguments.Answering.{wrong-closed, wrong-not_closed, told-yes, told-no}
use Rattle.u_rules.proofs.instances.admitted.Goals as goal

pub returns-then-not-branch : goal.returns-then-not-branch
returns-then-not-branch c =
    let no : c.in_ok-are_closed-in-Err-Wrong.field-0 ≡ false = grind (arith, c.if-not-branch.true) in
    let fault : fault_of (row c.args.facts.now c.args.rule c.args.args.now) ≡ Some c.in-Err-Wrong.misfit = rw c.in-Err-Wrong.field-0-is at c.in-Err-Wrong.ensures in
    rw c.refused-then-not-branch.ensures
    (wrong-not_closed c.args.facts.now c.args.rule c.args.args.now c.in-Err-Wrong.misfit (row c.args.facts.now c.args.rule c.args.args.now) refl fault
    (told-no _ c.in_ok-are_closed-in-Err-Wrong.field-0 no c.in_ok-are_closed-in-Err-Wrong.ensures))

pub returns-else-not-branch : goal.returns-else-not-branch
returns-else-not-branch c =
    let yes : c.in_ok-are_closed-in-Err-Wrong.field-0 ≡ true = grind (arith, c.if-not-branch.false) in
    let fault : fault_of (row c.args.facts.now c.args.rule c.args.args.now) ≡ Some c.in-Err-Wrong.misfit = rw c.in-Err-Wrong.field-0-is at c.in-Err-Wrong.ensures in
    rw (c.refused-in-Err-Wrong.ensures, c.why.ensures, c.in-Err-Wrong.misfit-is)
    (wrong-closed c.args.facts.now c.args.rule c.args.args.now c.in-Err-Wrong.misfit (row c.args.facts.now c.args.rule c.args.args.now) refl fault
    (told-yes _ c.in_ok-are_closed-in-Err-Wrong.field-0 yes c.in_ok-are_closed-in-Err-Wrong.ensures))

pub returns-then-not-branch-2 : goal.returns-then-not-branch-2
returns-then-not-branch-2 c =
    let no : c.in_ok-are_closed-in-Ok.field-0 ≡ false = grind (arith, c.if-not-branch-2.true) in
    rw c.refused-then-not-branch-2.ensures (
      record { fault = None; left = left_found c.in-Ok.found; right = right_found c.in-Ok.found },
      c.in-Ok.ensures,
      told-no _ c.in_ok-are_closed-in-Ok.field-0 no c.in_ok-are_closed-in-Ok.ensures,
    )
