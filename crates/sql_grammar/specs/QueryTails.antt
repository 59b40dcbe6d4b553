-- What one token of lookahead can read of queries, as names of its own: what follows a first part, and what stands in parentheses. The grammar
-- has no need of them.
use Rattle.std.specs.Prelude.{List, Some}
use Rattle.std.proofs.Common.{inl, inr}
use Rattle.grammar.specs.Form.{empty, seq, alt, star, map, only, nonempty, counted, ref}
use Rattle.grammar.specs.Productions.{skip_then, optional}
use Rattle.sql_model.specs.declared.tree.Expr.{Expr}
use Rattle.sql_model.specs.declared.tree.Query.{Query}
use Rattle.sql_grammar.specs.Kinds as k
use Rattle.sql_grammar.specs.Numbering.{Built}
use Rattle.sql_grammar.specs.QueryTrees.{not_sub}
use Rattle.sql_grammar.specs.QueryTailTrees as t
use Rattle.sql_grammar.specs.QueryTailTrees.{Inside, ReadTail, Tail}
use Rattle.sql_grammar.specs.QueryGrammar.{Production, The, a, most_separators, in_parentheses, parens, intersects, unions, products, sums, ands, ors, query, block, expr, rest, further}

-- INTERSECT, UNION and EXCEPT behind an operand
pattern abbrev pub set_tail : Production
set_tail = further t.set_tail

-- AND and OR behind a part of AND
pattern abbrev pub and_tail : Production
and_tail = further t.and_tail

-- what follows the first part of an expression
pattern abbrev pub expr_tail : Production
expr_tail = further t.expr_tail

-- what stands in parentheses
pattern abbrev pub inner : Production
inner = further t.inner

-- what stands in those of IN
pattern abbrev pub in_inner : Production
in_inner = further t.in_inner

-- a query that begins with a parenthesis, and goes on behind it
abbrev pub longer_query : The (Built Query)
longer_query = map (λ p. p.1 p.0) (seq (parens (ref query)) (nonempty (ref set_tail)))

-- , expr
abbrev pub next_comma : The (Built Expr)
next_comma = skip_then (a k.Comma) (ref expr)

-- {, expr}
abbrev pub commas : The (List (Built Expr))
commas = star (Some most_separators) next_comma

-- what may stand behind a parenthesis, with what may follow an expression there
abbrev pub insides : {M : Type 0} → The M → The (Inside M)
insides more =
    alt (map (λ q. inl q) (alt (map (λ p. p.1 p.0) (seq (ref block) (ref set_tail))) longer_query))
    (alt (map (λ p. inr (inl p)) (seq (in_parentheses (ref query)) more))
    (map (λ p. inr (inr p)) (seq (only not_sub (ref expr)) more)))

abbrev pub tail_rules : (tail : Tail) → The (ReadTail tail)
tail_rules t.set_tail = map (λ p. t.combined p.0 p.1) (seq intersects unions)
tail_rules t.and_tail = map (λ p. t.joined p.0 p.1) (seq ands ors)
tail_rules t.expr_tail =
    map (λ p. t.continued p.0 p.1.0 p.1.1.0 p.1.1.1)
    (seq (counted (seq products sums)) (seq (optional (ref rest)) (seq ands ors)))
tail_rules t.inner = insides empty
tail_rules t.in_inner = insides commas
