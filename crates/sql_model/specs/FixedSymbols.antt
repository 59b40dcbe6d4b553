-- The literals and symbols that every case has before its first token. Each has its place here as its number, from 0 on.
use Rattle.std.specs.Prelude.{List, [], ◌∷◌, codes}
use Rattle.sql_model.specs.declared.symbols.Lit.{Lit}
use Rattle.sql_model.specs.declared.symbols.LitKind.TheVariants.{Number}
use Rattle.sql_model.specs.Syntax.{Name}

-- the number 1, which an aggregate that counts rows is handed for each row
abbrev pub fixed_literals : List Lit
fixed_literals = record { kind = Number; text = codes "1" } ∷ []

-- the predicates, and then the operators; `-` of one argument is unary minus
abbrev pub fixed_symbols : List Name
fixed_symbols = codes "<" ∷ codes "<=" ∷ codes "like" ∷ codes "+" ∷ codes "-" ∷ codes "*" ∷ codes "/" ∷ codes "||" ∷ []
