-- The grammar of queries once more, so that one token always tells how to go on: names of the same languages, with other productions.
use Rattle.std.proofs.Common.{ℕ, Option, Some, None, ◌⊎◌, inl, inr}
use Rattle.grammar.specs.Language.{Language}
use Rattle.grammar.specs.Form.{Room, form_language, language, Rules, empty, seq, alt, map, nonempty, counted, fork, ref}
use Rattle.grammar.specs.Productions.{skip_then, optional}
use Rattle.sql_model.specs.declared.tree.Expr.{Expr}
use Rattle.sql_model.specs.declared.tree.Item.{Item}
use Rattle.sql_lex.specs.Lexemes.{Lexeme}
use Rattle.sql_grammar.specs.Kinds as k
use Rattle.sql_grammar.specs.Kinds.{Kind, kind_of}
use Rattle.sql_grammar.specs.Numbering.{Built, plain}
use Rattle.sql_grammar.specs.QueryTrees as t
use Rattle.sql_grammar.specs.QueryTailTrees as tails
use Rattle.sql_grammar.specs.QueryTrees.{Left}
use Rattle.sql_grammar.specs.QueryTailTrees.{Enclosed, Inside}
use Rattle.sql_grammar.specs.QueryEntries.{few_froms}
use Rattle.sql_grammar.specs.QueryGrammar.{Production, Read, The, Froms, block_with, a, one_of, name, called_word, in_parentheses, parens, listed, alias, not_neg, exists, minus, comparison, block, item, from, reference, expr, rest, value, primary, agg}
use Rattle.sql_grammar.specs.QueryTails.{commas, set_tail, and_tail, expr_tail, inner, in_inner}
use Rattle.sql_grammar.specs.Queries.{rules}

-- ---- first parts of expressions

abbrev pub literal : The (Built Expr)
literal = alt (map t.number_literal (a k.Number)) (map t.text_literal (a k.Text))

-- [. name]
abbrev pub dot_name : The (Option Lexeme)
dot_name = optional (skip_then (a k.Dot) name)

-- [. (* | name)]
abbrev pub dot_star_or_name : The (Option (Lexeme ⊎ Lexeme))
dot_star_or_name = optional (skip_then (a k.Dot) (alt (map (λ sign. inl sign) (a k.Star)) (map (λ name. inr name) name)))

-- ( [expr {, expr}] ), and the arguments of COUNT and of the other aggregates
abbrev pub arguments : The (Lexeme → Built Expr)
arguments = map (λ args word. t.call word args) (parens (optional (listed (ref expr))))

abbrev pub one_argument : The (Lexeme → Built Expr)
one_argument = map (λ p word. t.aggregated word p.0 p.1) (seq (optional (a k.Distinct)) (ref expr))

abbrev pub other_aggregate : The Lexeme
other_aggregate = one_of k.other_aggregates

abbrev pub count_arguments : The (Lexeme → Built Expr)
count_arguments = parens (alt (map (λ sign word. t.count_rows word) (a k.Star)) one_argument)

-- a word with what may follow a name, or with arguments
abbrev pub word_with : {D X : Type 0} → The Lexeme → The (Lexeme → Built Expr) → The D → (Lexeme → D → X) → (Built Expr → X) → The X
word_with {X = X} word args dot named called =
    map (λ (p : Lexeme × (Lexeme → X)). p.1 p.0)
    (seq word (alt (map (λ d w. named w d) dot) (map (λ f w. called (f w)) args)))

-- what begins with a name: the name and what follows it, or a call
abbrev pub words : {D X : Type 0} → The D → (Lexeme → D → X) → (Built Expr → X) → The X
words dot named called =
    alt (map (λ p. named p.0 p.1) (seq (a k.Quoted) dot))
    (alt (word_with called_word arguments dot named called)
    (alt (word_with (a k.Count) count_arguments dot named called)
    (word_with other_aggregate (parens one_argument) dot named called)))

-- a column, from its first name and what follows that
abbrev pub column_or : Lexeme → Option Lexeme → Expr
column_or word None = t.column (None, word)
column_or qual (Some word) = t.column (Some qual, word)

abbrev pub column_of : Lexeme → Option Lexeme → Built Expr
column_of word None = plain (t.column (None, word))
column_of qual (Some word) = plain (t.column (Some qual, word))

abbrev pub named_first : The (Built Expr)
named_first = words dot_name column_of (λ x. x)

-- ( .. ) as the first part of an expression
abbrev pub enclosed_first : The (Built Expr)
enclosed_first = map tails.enclosed (in_parentheses (ref inner))

-- ---- expressions by their first parts

-- a first part of these, and what follows it
abbrev pub going_on : The (Built Expr) → The (Built Expr)
going_on first = map (λ p. p.1 p.0) (seq (counted first) (ref expr_tail))

abbrev pub going_on_by_and : The (Built Expr)
going_on_by_and = map (λ p. p.1 p.0) (seq (alt not_neg exists) (ref and_tail))

-- an expression that begins with a minus, a literal, a NOT, an EXISTS or such a first part
abbrev pub expression_from : The (Built Expr) → The (Built Expr)
expression_from first = alt (going_on (alt minus (alt literal first))) going_on_by_and

-- an expression that begins with no parenthesis
abbrev pub no_parenthesis : The (Built Expr)
no_parenthesis = expression_from named_first

-- ---- what stands in parentheses

-- a query, or an expression with the number of its tokens
abbrev pub sort : (Lexeme × Inside (Unit {0})) × ℕ → (Enclosed × ℕ) ⊎ Left
sort ((open_, inl q), count) = inl ((open_, q), count)
sort ((open_, inr (inl p)), count) = inl ((open_, p.0.1), count)
sort ((open_, inr (inr p)), count) = inr (p.0, count)

-- after ( query ): a set operator, a part of an expression, or neither
abbrev pub after_query : {M : Type 0} → The M → The (Enclosed × ℕ → Inside M)
after_query more =
    alt (map (λ f q. inl (f q.0.1)) (nonempty (ref set_tail)))
    (alt (map (λ p q. inr (inr (p.0 (t.sub q.0, q.1), p.1))) (seq (nonempty (ref expr_tail)) more))
    (map (λ m q. inr (inl (q.0, m))) more))

abbrev pub after_expression : {M : Type 0} → The M → The (Left → Inside M)
after_expression more = map (λ p left. inr (inr (p.0 left, p.1))) (seq (ref expr_tail) more)

abbrev pub factored_of_insides : {M : Type 0} → The M → The (Inside M)
factored_of_insides more =
    alt (map (λ p. inl (p.1 p.0)) (seq (ref block) (ref set_tail)))
    (alt (map (λ p. inr (inr p)) (seq no_parenthesis more))
    (fork (map sort (counted (in_parentheses (ref inner)))) (after_query more) (after_expression more)))

-- ---- items

abbrev pub Starred : Type 0
Starred = Lexeme ⊎ Built Expr

abbrev pub star_or_column : Lexeme → Option (Lexeme ⊎ Lexeme) → Starred
star_or_column word None = inr (plain (t.column (None, word)))
star_or_column qual (Some (inl sign)) = inl qual
star_or_column qual (Some (inr word)) = inr (plain (t.column (Some qual, word)))

abbrev pub star_or_left : Starred × ℕ → Lexeme ⊎ Left
star_or_left (inl qual, count) = inl qual
star_or_left (inr x, count) = inr (x, count)

-- name . * or the first part of an expression that begins with a name
abbrev pub starred : The Starred
starred = words dot_star_or_name star_or_column (λ x. inr x)

abbrev pub named_item : The (Built Item)
named_item =
    fork (map star_or_left (counted starred))
    (map (λ nothing qual. t.alias_star_item qual) empty)
    (map (λ p left. t.value_item (p.0 left) p.1) (seq (ref expr_tail) (optional alias)))

-- an expression that begins with no name
abbrev pub item_value : The (Built Expr)
item_value = expression_from enclosed_first

abbrev pub factored_of_item : The (Built Item)
factored_of_item =
    alt (map t.star_item (a k.Star))
    (alt named_item
    (map (λ p. t.value_item p.0 p.1) (seq item_value (optional alias))))

-- ---- tests

-- value AND value
abbrev pub between_values : The (Built Expr × Built Expr)
between_values = seq (ref value) (skip_then (a k.And) (ref value))

-- IN ( .. ), BETWEEN value AND value and LIKE value, perhaps behind a NOT
abbrev pub by_word : The (Option Lexeme → Left → Built Expr)
by_word =
    alt (map (λ p word left. tails.in_inside word p.0 p.1 left) (seq (a k.In) (parens (ref in_inner))))
    (alt (map (λ p word left. t.between word p.0 p.1 left) (skip_then (a k.Between) between_values))
    (map (λ x word left. t.like word x left) (skip_then (a k.Like) (ref value))))

abbrev pub factored_of_rest : The (Left → Built Expr)
factored_of_rest =
    alt comparison
    (alt (map (λ p. p.1 (Some p.0)) (seq (a k.Not) by_word)) (map (λ f. f None) by_word))

-- ---- the left-factored grammar

-- with these items of FROM in each block
abbrev pub factored_with : The Froms → Rules Lexeme Kind Production Read
factored_with froms item = factored_of_item
factored_with froms reference = map (λ p. column_or p.0 p.1) (seq name dot_name)
factored_with froms rest = factored_of_rest
factored_with froms primary = alt literal (alt named_first enclosed_first)
factored_with froms agg =
    alt (map (λ p. p.1 p.0) (seq (a k.Count) count_arguments))
    (map (λ p. p.1 p.0) (seq other_aggregate (parens one_argument)))
factored_with froms inner = factored_of_insides empty
factored_with froms in_inner = factored_of_insides commas
factored_with froms block = block_with froms
factored_with froms other = rules other

abbrev pub factored : Rules Lexeme Kind Production Read
factored = factored_with (listed (ref from))

-- with at most so many further entries in each block
abbrev pub few_factored : ℕ → Rules Lexeme Kind Production Read
few_factored most = factored_with (few_froms most)

abbrev pub of_factored : Room → (p : Production) → Language Lexeme (Read p)
of_factored room p = language kind_of factored room p

-- of a form over these names, by which one token decides
abbrev pub in_factored : {A : Type 0} → Room → The A → Language Lexeme A
in_factored room f = form_language kind_of of_factored room f
