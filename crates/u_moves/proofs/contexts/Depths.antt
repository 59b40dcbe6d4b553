-- A value is at least one deep.
use Rattle.std.proofs.Common.{◌≤◌, arith}
use Rattle.u_terms.specs.Syntax.{Val, Bound, Free, Lit, Fun, Agg}
use Rattle.u_terms.specs.Size.{depth, value_depth}

pub value_depth-positive : (value : Val) → 1 ≤ value_depth value
unfolding depth
value_depth-positive (Bound place) = omega arith
value_depth-positive (Free name) = omega arith
value_depth-positive (Lit literal) = omega arith
value_depth-positive (Fun symbol shape arguments) = omega arith
value_depth-positive (Agg aggregate body) = omega arith
