use Rattle.std.proofs.Common.{◌≡◌, ◌<◌, ◌∷◌, subst, sym, rules, arith}
use Rattle.u_deriv.specs.Turns.{count_of}
use Rattle.u_deriv.specs.Walk.{first_count}
use Rattle.u_deriv.proofs.paths.Ways.{next_in_run, next_at_end}
use Rattle.u_moves.proofs.binders.Way.next.Goals as goal

pub returns-then-passed-count : goal.returns-then-passed-count
returns-then-passed-count c =
    let is : c.self.inside.runs.now ≡ c.in-Some.run'.now ∷ c.in-Some.rest.now = search rules in
    let h = next_in_run c.self.inside.runs.now c.in-Some.rest.now c.in-Some.run'.now c.self.inside.passed is (omega arith) in
    rw (← c.self.view_is) (sym h)

pub returns-else-passed-count : goal.returns-else-passed-count
returns-else-passed-count c =
    let is : c.self.inside.runs.now ≡ c.in-Some.run'.now ∷ c.in-Some.rest.now = search rules in
    let first : c.self.inside.passed < count_of c.in-Some.run'.now = subst (λ runs. c.self.inside.passed < first_count runs) is c.self.invariant.1 in
    let h = next_at_end c.self.inside.runs.now c.in-Some.rest.now c.in-Some.run'.now c.self.inside.passed is (omega arith) in
    rw (← c.self.view_is) (sym h)
