-- The grammar of queries, with the trees that it spells. `optional f` is [f], `star most f` is {f} and `listed f` is f {, f}. Each `(`,
-- prefix NOT and prefix minus opens a level; within the limits a chain of set operators, of `+ - ||` or of `* /` has at most `most_operators`
-- of them, and one of AND or OR and a list at most `most_separators`.
use Rattle.std.specs.Prelude.{ℕ, List, [], ◌∷◌, Option, Some, None}
use Rattle.grammar.specs.Form.{Form, Rules, token, seq, alt, star, nest, map, only, counted, ref}
use Rattle.grammar.specs.Productions.{skip_then, then_skip, optional, separated}
use Rattle.sql_model.specs.declared.tree.Expr.{Expr}
use Rattle.sql_model.specs.declared.tree.Item.{Item}
use Rattle.sql_model.specs.declared.tree.Entry.{Entry}
use Rattle.sql_model.specs.declared.tree.Query.{Query}
use Rattle.sql_model.specs.Syntax.{Except, Intersect}
use Rattle.sql_lex.specs.Lexemes.{Lexeme}
use Rattle.sql_grammar.specs.Kinds as k
use Rattle.sql_grammar.specs.Kinds.{Kind, same, among}
pub use Rattle.sql_grammar.specs.Kinds.{name_kinds}
use Rattle.sql_grammar.specs.Numbering.{Built, plain}
use Rattle.sql_grammar.specs.QueryTrees as t
use Rattle.sql_grammar.specs.QueryTrees.{Left, Listed, SetWord, not_sub}
use Rattle.sql_grammar.specs.QueryTailTrees.{Tail, ReadTail}

pub data Production : Type 0 where
  query : Production
  part : Production
  operand : Production
  block : Production
  item : Production
  from : Production
  entry : Production
  reference : Production
  expr : Production
  conj : Production
  neg : Production
  test : Production
  rest : Production
  value : Production
  term : Production
  unary : Production
  primary : Production
  agg : Production
  -- of these the grammar has no need: they are what one token of lookahead can read (QueryTails)
  further : Tail → Production

-- what is read of each
abbrev pub Read : Production → Type 0
Read query = Built Query
Read part = Built Query
Read operand = Built Query
Read block = Built Query
Read item = Built Item
Read from = Built (List Entry)
Read entry = Built Listed
Read reference = Expr
Read expr = Built Expr
Read conj = Built Expr
Read neg = Built Expr
Read test = Built Expr
Read rest = Left → Built Expr
Read value = Built Expr
Read term = Built Expr
Read unary = Built Expr
Read primary = Built Expr
Read agg = Built Expr
Read (further tail) = ReadTail tail

abbrev pub The : Type 0 → Type 1
The A = Form Lexeme Kind Production Read A

-- ---- tokens

abbrev pub a : Kind → The Lexeme
a kind = token (same kind)

abbrev pub one_of : List Kind → The Lexeme
one_of kinds = token (among kinds)

-- a name of something: an unreserved word or a quoted name
abbrev pub name : The Lexeme
name = one_of name_kinds

-- a word that names no aggregate, and one that does
abbrev pub called_word : The Lexeme
called_word = one_of k.called_kinds

abbrev pub aggregate_word : The Lexeme
aggregate_word = one_of (k.Count ∷ k.other_aggregates)

-- ---- lengths

-- operators of a chain of set operators, of `+ - ||` or of `* /`: at most 64 operands, so one fewer
abbrev pub most_operators : ℕ
most_operators = 63

-- ANDs, ORs or commas of a chain or a list: at most 256 parts, so one fewer
abbrev pub most_separators : ℕ
most_separators = 255

-- ---- ways to write productions

-- ( f ), with the parenthesis
abbrev pub in_parentheses : {A : Type 0} → The A → The (Lexeme × A)
in_parentheses f = nest (seq (a k.Open) (then_skip f (a k.Close)))

-- ( f )
abbrev pub parens : {A : Type 0} → The A → The A
parens f = map (λ p. p.1) (in_parentheses f)

-- f {, f}
abbrev pub listed : {A : Type 0} → The A → The (A × List A)
listed f = separated (Some most_separators) (a k.Comma) f

-- [AS] name
abbrev pub alias : The Lexeme
alias = skip_then (optional (a k.As)) name

-- ---- the productions

-- (UNION [ALL] | EXCEPT)
abbrev pub union_or_except : The SetWord
union_or_except =
    alt (map (λ p. t.union_word p.0 p.1) (seq (a k.Union) (optional (a k.All))))
    (map (λ word. (Except, word.start)) (a k.Except))

abbrev pub intersect : The SetWord
intersect = map (λ word. (Intersect, word.start)) (a k.Intersect)

-- [INNER] JOIN entry ON expr
abbrev pub join_on : The (Built Entry)
join_on =
    map (λ p. t.joined_on p.0 p.1)
    (skip_then (seq (optional (a k.Inner)) (a k.Join)) (seq (ref entry) (skip_then (a k.On) (ref expr))))

-- CROSS JOIN entry
abbrev pub cross_join : The (Built Entry)
cross_join = map t.cross_joined (skip_then (seq (a k.Cross) (a k.Join)) (ref entry))

-- [GROUP BY ref {, ref}]
abbrev pub group_by : The (Option (Expr × List Expr))
group_by = optional (skip_then (seq (a k.Group) (a k.By)) (listed (ref reference)))

-- (= | <> | < | <= | > | >=) value
abbrev pub comparison : The (Left → Built Expr)
comparison =
    map (λ p left. t.comparison p.0 p.1 left)
    (seq (one_of k.comparisons) (ref value))

-- [NOT] IN ( query )
abbrev pub in_query : The (Left → Built Expr)
in_query = map (λ p left. t.in_query p.0 p.1.0 p.1.1 left) (seq (optional (a k.Not)) (seq (a k.In) (parens (ref query))))

-- [NOT] IN ( expr {, expr} ), but for one subquery
abbrev pub in_list : The (Left → Built Expr)
in_list =
    map (λ p left. t.in_list p.0 p.1 left)
    (seq (optional (a k.Not)) (skip_then (a k.In) (parens (only t.is_no_query (listed (ref expr))))))

-- [NOT] BETWEEN value AND value
abbrev pub between : The (Left → Built Expr)
between =
    map (λ p left. t.between p.0 p.1.0 p.1.1 left)
    (seq (optional (a k.Not)) (skip_then (a k.Between) (seq (ref value) (skip_then (a k.And) (ref value)))))

-- [NOT] LIKE value
abbrev pub like : The (Left → Built Expr)
like = map (λ p left. t.like p.0 p.1 left) (seq (optional (a k.Not)) (skip_then (a k.Like) (ref value)))

-- word ( [expr {, expr}] )
abbrev pub call : The (Built Expr)
call = map (λ p. t.call p.0 p.1) (seq called_word (parens (optional (listed (ref expr)))))

-- INTERSECT operand
abbrev pub next_intersect : The (SetWord × Built Query)
next_intersect = seq intersect (ref operand)

-- {INTERSECT operand}
abbrev pub intersects : The (List (SetWord × Built Query))
intersects = star (Some most_operators) next_intersect

-- (UNION [ALL] | EXCEPT) part
abbrev pub next_union : The (SetWord × Built Query)
next_union = seq union_or_except (ref part)

-- {(UNION [ALL] | EXCEPT) part}
abbrev pub unions : The (List (SetWord × Built Query))
unions = star (Some most_operators) next_union

-- (* | /) unary
abbrev pub next_product : The (Lexeme × Built Expr)
next_product = seq (one_of (k.Star ∷ k.Slash ∷ [])) (ref unary)

-- {(* | /) unary}
abbrev pub products : The (List (Lexeme × Built Expr))
products = star (Some most_operators) next_product

-- (+ | - | ||) term
abbrev pub next_sum : The (Lexeme × Built Expr)
next_sum = seq (one_of (k.Plus ∷ k.Minus ∷ k.Concat ∷ [])) (ref term)

-- {(+ | - | ||) term}
abbrev pub sums : The (List (Lexeme × Built Expr))
sums = star (Some most_operators) next_sum

-- AND neg
abbrev pub next_and : The (Built Expr)
next_and = skip_then (a k.And) (ref neg)

-- {AND neg}
abbrev pub ands : The (List (Built Expr))
ands = star (Some most_separators) next_and

-- OR conj
abbrev pub next_or : The (Built Expr)
next_or = skip_then (a k.Or) (ref conj)

-- {OR conj}
abbrev pub ors : The (List (Built Expr))
ors = star (Some most_separators) next_or

-- NOT neg
abbrev pub not_neg : The (Built Expr)
not_neg = map t.not_of (nest (seq (a k.Not) (ref neg)))

-- EXISTS ( query )
abbrev pub exists : The (Built Expr)
exists = map t.exists (seq (a k.Exists) (parens (ref query)))

-- - unary
abbrev pub minus : The (Built Expr)
minus = map t.minus (nest (seq (a k.Minus) (ref unary)))

-- ( query )
abbrev pub subquery : The (Built Expr)
subquery = map t.sub (in_parentheses (ref query))

-- the items of FROM, each with its entries
abbrev pub Froms : Type 0
Froms = Built (List Entry) × List (Built (List Entry))

-- SELECT [DISTINCT] item {, item} FROM froms [WHERE expr] [GROUP BY ref {, ref}] [HAVING expr]
abbrev pub block_with : The Froms → The (Built Query)
block_with froms =
    map (λ p. t.block_of p.0 p.1.0 p.1.1.0 p.1.1.1.0 p.1.1.1.1.0 p.1.1.1.1.1)
    (skip_then (a k.Select) (seq (optional (a k.Distinct)) (seq (listed (ref item))
    (seq (skip_then (a k.From) froms)
    (seq (optional (skip_then (a k.Where) (ref expr))) (seq group_by (optional (skip_then (a k.Having) (ref expr)))))))))

-- With these items of FROM in each block. What the further names spell is given: no production has need of it.
abbrev pub rules_with : ((tail : Tail) → The (ReadTail tail)) → The Froms → Rules Lexeme Kind Production Read
rules_with tails froms query = map (λ p. t.sets p.0 p.1) (seq (ref part) unions)
rules_with tails froms part = map (λ p. t.sets p.0 p.1) (seq (ref operand) intersects)
rules_with tails froms operand = alt (ref block) (parens (ref query))
rules_with tails froms block = block_with froms
rules_with tails froms item =
    alt (map t.star_item (a k.Star))
    (alt (map t.alias_star_item (then_skip name (seq (a k.Dot) (a k.Star))))
    (map (λ p. t.value_item p.0 p.1) (seq (ref expr) (optional alias))))
rules_with tails froms from = map (λ p. t.entries p.0 p.1) (seq (ref entry) (star None (alt join_on cross_join)))
rules_with tails froms entry =
    alt (map (λ p. t.table_entry p.0 p.1) (seq name (optional alias)))
    (map (λ p. t.query_entry p.0 p.1) (seq (parens (ref query)) alias))
rules_with tails froms reference = map t.column (seq (optional (then_skip name (a k.Dot))) name)
rules_with tails froms expr = map (t.chained t.or_node) (seq (ref conj) ors)
rules_with tails froms conj = map (t.chained t.and_node) (seq (ref neg) ands)
rules_with tails froms neg = alt not_neg (ref test)
rules_with tails froms test =
    alt exists
    (map (λ p. t.tested p.0 p.1) (seq (counted (ref value)) (optional (ref rest))))
rules_with tails froms rest = alt comparison (alt in_query (alt in_list (alt between like)))
rules_with tails froms value = map (λ p. t.operated p.0 p.1) (seq (ref term) sums)
rules_with tails froms term = map (λ p. t.operated p.0 p.1) (seq (ref unary) products)
rules_with tails froms unary = alt minus (ref primary)
rules_with tails froms primary =
    alt (map t.number_literal (a k.Number))
    (alt (map t.text_literal (a k.Text))
    (alt (map (λ x. plain x) (ref reference))
    (alt (ref agg)
    (alt call
    (alt (parens (only not_sub (ref expr)))
    subquery)))))
rules_with tails froms agg =
    alt (map (λ p. t.count_rows p.0) (seq (a k.Count) (parens (a k.Star))))
    (map (λ p. t.aggregated p.0 p.1.0 p.1.1) (seq aggregate_word (parens (seq (optional (a k.Distinct)) (ref expr)))))
rules_with tails froms (further tail) = tails tail
