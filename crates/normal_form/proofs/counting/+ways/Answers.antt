use Rattle.std.proofs.Common.{min, ap, ◌∙◌, arith}
use Rattle.u_terms.specs.Syntax.{U}
use Rattle.normal_form.specs.Ways.{ways, value_ways}
use Rattle.normal_form.proofs.WaysAt.{multiplied, ways-Mul, ways-Eq, ways-positive, value_ways-positive}
use Rattle.normal_form.proofs.counting.+ways.Goals as goal

pub ways-returns-in-Mul : goal.ways-returns-in-Mul
ways-returns-in-Mul t c =
    multiplied c.saturating_mul.result c.ways-in-Mul.result c.ways-in-Mul-2.result (ways c.in-Mul.a) (ways c.in-Mul.b) (ways c.args.u.now) 18446744073709551615
    c.saturating_mul.ensures
    (c.ways-in-Mul.ensures ∙ ap (λ (u : U). min (ways u) 18446744073709551615) c.get-in-Mul.ensures)
    (c.ways-in-Mul-2.ensures ∙ ap (λ (u : U). min (ways u) 18446744073709551615) c.get-in-Mul-2.ensures)
    (ap ways c.in-Mul.is ∙ ways-Mul c.in-Mul.a c.in-Mul.b) (ways-positive c.in-Mul.a) (ways-positive c.in-Mul.b) (omega arith)

pub ways-returns-in-Eq : goal.ways-returns-in-Eq
ways-returns-in-Eq t c =
    multiplied c.saturating_mul-in-Eq.result c.value_ways.result c.value_ways-in-Eq.result (value_ways c.in-Eq.a) (value_ways c.in-Eq.b) (ways c.args.u.now) 18446744073709551615
    c.saturating_mul-in-Eq.ensures c.value_ways.ensures c.value_ways-in-Eq.ensures
    (ap ways c.in-Eq.is ∙ ways-Eq c.in-Eq.a c.in-Eq.b) (value_ways-positive c.in-Eq.a) (value_ways-positive c.in-Eq.b) (omega arith)
