-- The world of the samples: its tables are r(a, b): (0, 1), (0, 2), (1, 1), s(a): 0, 0, 2 and none(a): no row, and its domain has 4 values.
-- The literals are 1 and 2. Some operators, predicates and called names have entries.
use Rattle.std.specs.Prelude.{ℕ, List, [], ◌∷◌}
use Rattle.data_model.specs.Rows.{Row}
use Rattle.data_model.specs.Reading.{Reading, FunctionEntry, PredicateEntry}
use Rattle.sql_model.specs.declared.tree.Expr.TheVariants as expr
use Rattle.sql_model.specs.Syntax.{Expr, Query}
use Rattle.sql_model.specs.World.{World}
use Rattle.sql_model.specs.Meaning.{rows}
use Rattle.sql_model.specs.samples.Forms as forms

-- ---- the numbers of symbols: those that every case has, and two called names
abbrev pub less : ℕ
less = 0

abbrev pub at_most : ℕ
at_most = 1

abbrev pub plus : ℕ
plus = 3

abbrev pub minus : ℕ
minus = 4

abbrev pub times : ℕ
times = 5

abbrev pub f : ℕ
f = 8

abbrev pub p : ℕ
p = 9

abbrev gives : ℕ → List ℕ → ℕ → FunctionEntry
gives symbol arguments value = record { symbol = symbol; arguments = arguments; value = value }

abbrev holds : ℕ → List ℕ → PredicateEntry
holds symbol arguments = record { symbol = symbol; arguments = arguments }

-- 0 + 1 is 1, 0 + 2 is 2, 1 + 1 is 2; - 1 is 3 and - 2 is 2; 0 - 1 is 1; f(1) is 2, f(2) is 3, and f() is 1
-- 0 < 1, 0 < 2, 1 < 2, and with <= each of 0, 1, 2 with itself too; p(1) and p(1, 0) hold, and f(2) holds as a condition
abbrev reading : Reading
reading = record forms.reading {
  functions =
      gives plus (0 ∷ 1 ∷ []) 1 ∷ gives plus (0 ∷ 2 ∷ []) 2 ∷ gives plus (1 ∷ 1 ∷ []) 2 ∷ gives minus (1 ∷ []) 3 ∷ gives minus (2 ∷ []) 2
      ∷ gives minus (0 ∷ 1 ∷ []) 1 ∷ gives f (1 ∷ []) 2 ∷ gives f (2 ∷ []) 3 ∷ gives f [] 1 ∷ [];
  predicates =
      holds less (0 ∷ 1 ∷ []) ∷ holds less (0 ∷ 2 ∷ []) ∷ holds less (1 ∷ 2 ∷ []) ∷ holds at_most (0 ∷ 0 ∷ []) ∷ holds at_most (0 ∷ 1 ∷ [])
      ∷ holds at_most (0 ∷ 2 ∷ []) ∷ holds at_most (1 ∷ 1 ∷ []) ∷ holds at_most (1 ∷ 2 ∷ []) ∷ holds at_most (2 ∷ 2 ∷ []) ∷ holds p (1 ∷ [])
      ∷ holds p (1 ∷ 0 ∷ []) ∷ holds f (2 ∷ []) ∷ [];
}

abbrev w : World
w = record forms.w { reading = reading }

-- what a query gives there, in no block
abbrev pub rows_of : Query → List Row
rows_of q = rows q w []

-- ---- expressions
abbrev pub operator : ℕ → List Expr → Expr
operator symbol arguments = expr.Fun symbol arguments 0

abbrev pub predicate : ℕ → List Expr → Expr
predicate symbol arguments = expr.Pred symbol arguments 0

abbrev pub call : ℕ → List Expr → Expr
call symbol arguments = expr.Call symbol arguments 0

abbrev pub negated : Expr → Expr
negated part = expr.Not part 0

abbrev pub all : List Expr → Expr
all parts = expr.And parts 0

abbrev pub some : List Expr → Expr
some parts = expr.Or parts 0
