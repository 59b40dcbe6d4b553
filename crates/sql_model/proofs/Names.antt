-- A comparison of names decides whether they are one.
use Rattle.std.proofs.Common.{◌≡◌, Bool, sym, ◌∙◌}
use Rattle.std.specs.Prelude.{IsTrue, ◌↔◌}
use Rattle.std.specs.Cmp.Lexicographic.{bytes_decides}
use Rattle.sql_model.specs.Columns.{same_name}
use Rattle.sql_model.specs.Syntax.{Name}

pub one_name : (told : Bool) (a b : Name) → told ≡ same_name a b → IsTrue told ↔ (a ≡ b)
one_name told a b is = ((λ yes. (bytes_decides a b).0 (sym is ∙ yes)), (λ same. is ∙ (bytes_decides a b).1 same))

pub ruleset laws = (one_name)
