-- The trees of what only the left-factored grammar names: what follows a first part, and what stands in parentheses.
use Rattle.std.specs.Prelude.{ℕ, ◌+◌, List, [], ◌∷◌, Option, ◌⊎◌}
use Rattle.std.proofs.Common.{inl, inr}
use Rattle.sql_model.specs.declared.tree.Expr.{Expr}
use Rattle.sql_model.specs.declared.tree.Query.{Query}
use Rattle.sql_lex.specs.Lexemes.{Lexeme}
use Rattle.sql_grammar.specs.Numbering.{Built}
use Rattle.sql_grammar.specs.QueryTrees.{Left, SetWord, and_node, chained, in_list, in_query, operated, or_node, sets, sub, tested}

-- ---- what follows the first part of an expression or a query

-- an expression, from its first part of this many tokens and what follows it: `* /`, `+ - ||`, a test, AND and OR
abbrev pub continued : (List (Lexeme × Built Expr) × List (Lexeme × Built Expr)) × ℕ → Option (Left → Built Expr) → List (Built Expr) → List (Built Expr) → Left → Built Expr
continued operators rest ands ors first =
    chained or_node (
      chained and_node
          (tested (operated (operated first.0 operators.0.0) operators.0.1, first.1 + operators.1) rest, ands),
      ors,
    )

-- the same, from a part of AND
abbrev pub joined : List (Built Expr) → List (Built Expr) → Built Expr → Built Expr
joined ands ors first = chained or_node (chained and_node (first, ands), ors)

-- a query, from its first operand and what follows it: INTERSECT, and UNION and EXCEPT
abbrev pub combined : List (SetWord × Built Query) → List (SetWord × Built Query) → Built Query → Built Query
combined intersects unions first = sets (sets first intersects) unions

-- ---- what stands in parentheses

-- a query, with the parenthesis before it
abbrev pub Enclosed : Type 0
Enclosed = Lexeme × Built Query

-- A query that is not in parentheses as a whole; one that is, with what follows it; or an expression that is no subquery, with the same.
abbrev pub Inside : Type 0 → Type 0
Inside M = Built Query ⊎ ((Enclosed × M) ⊎ (Built Expr × M))

-- the expression that ( .. ) is: a query in more parentheses is one subquery, at the first of them
abbrev pub enclosed : Lexeme × Inside (Unit {0}) → Built Expr
enclosed (open_, inl q) = sub (open_, q)
enclosed (open_, inr (inl p)) = sub (open_, p.0.1)
enclosed (open_, inr (inr p)) = p.0

-- what IN ( .. ) tests: a query, a list whose first member is a subquery, or another list
abbrev pub in_inside : Option Lexeme → Lexeme → Inside (List (Built Expr)) → Left → Built Expr
in_inside word in_word (inl q) left = in_query word in_word q left
in_inside word in_word (inr (inl (p, []))) left = in_query word in_word p.1 left
in_inside word in_word (inr (inl (p, next ∷ others))) left = in_list word (sub p, next ∷ others) left
in_inside word in_word (inr (inr p)) left = in_list word p left

-- ---- what they have names for

pub data Tail : Type 0 where
  set_tail : Tail
  and_tail : Tail
  expr_tail : Tail
  inner : Tail
  in_inner : Tail

-- what is read of each
abbrev pub ReadTail : Tail → Type 0
ReadTail set_tail = Built Query → Built Query
ReadTail and_tail = Built Expr → Built Expr
ReadTail expr_tail = Left → Built Expr
ReadTail inner = Inside (Unit {0})
ReadTail in_inner = Inside (List (Built Expr))
