-- What the reading functions do, from the left: what is read, or where and why reading stops. They go like the left-factored grammar: one token always tells how
-- to go on.
use Rattle.std.specs.Prelude.{ℕ, zero, suc, ◌+◌, ◌-◌, Bool, true, false, List, [], ◌∷◌, ◌++◌, length, Option, Some, None, Result, ◌⊎◌}
use Rattle.std.proofs.Common.{inl, inr}
use Rattle.sql_lex.specs.Lexemes.{Lexeme}
use Rattle.sql_model.specs.declared.tree.Entry.{Entry}
use Rattle.sql_model.specs.declared.tree.Expr.{Expr}
use Rattle.sql_model.specs.declared.tree.Expr.TheVariants as an_expr
use Rattle.sql_model.specs.declared.tree.Item.{Item}
use Rattle.sql_model.specs.declared.tree.Item.TheVariants as an_item
use Rattle.sql_model.specs.declared.tree.Query.{Query}
use Rattle.sql_model.specs.declared.tree.Query.TheVariants as a_query
use Rattle.sql_model.specs.Syntax as s
use Rattle.sql_model.specs.Syntax.{Name, SetOp}
use Rattle.sql_grammar.specs.declared.listed.Listed.{Listed}
use Rattle.sql_grammar.specs.declared.kinds.Kind.{Kind}
use Rattle.sql_grammar.specs.declared.kinds.Kind.TheVariants as k
use Rattle.sql_grammar.specs.Kinds.{among, called_kinds, comparisons, kind_of, name_kinds, other_aggregates, same}
use Rattle.sql_grammar.specs.Numbering.{literal_number, symbol_number}
use Rattle.sql_grammar.specs.QueryEntries.{most_entries}
use Rattle.sql_grammar.specs.QueryGrammar.{most_operators, most_separators}
use Rattle.sql_grammar.specs.QueryTrees as t
use Rattle.sql_grammar.specs.TokenValues.{name_of}
use Rattle.sql_cursor.specs.declared.fault.ReadFault.{ReadFault}
use Rattle.sql_read.specs.declared.reading.inside.Grouped.{Grouped}
use Rattle.sql_read.specs.declared.reading.inside.Grouped.TheVariants as grouped
use Rattle.sql_read.specs.declared.reading.inside.Inside.{Inside}
use Rattle.sql_read.specs.declared.reading.inside.Inside.TheVariants as inside
use Rattle.sql_read.specs.declared.reading.item.Starred.{Starred}
use Rattle.sql_read.specs.declared.reading.item.Starred.TheVariants as starred
use Rattle.sql_read.specs.declared.reading.test.Sought.{Sought}
use Rattle.sql_cursor.specs.declared.tokens.counting.Mark.{Mark}
use Rattle.sql_cursor.specs.Cursor.{Cursor}
use Rattle.sql_read.specs.Parts.{grouped_of, allowed_entry}
use Rattle.sql_cursor.specs.Readers.{Reader, ◌>>=◌, Gives, done, refused, seen, eaten, eaten_within, on, accepted, expected, expected_within, repeated, numbered, copied, mark, weight_since}

-- ---- lists

abbrev pub comma : ℕ → Reader (Option Lexeme)
comma = eaten_within (among (k.Comma ∷ []))

-- one more of what is read so, behind those before it
abbrev pub one_more : {A W : Type 0} → Reader A → List A → W → Reader (List A)
one_more f xs w c = f c >>= λ x. done (xs ++ x ∷ [])

-- f {, f}
abbrev pub listed : {A : Type 0} → Reader A → Reader (List A)
listed f c = f c >>= λ first. repeated comma (one_more f) most_separators (first ∷ [])

-- ---- names

-- [. name] behind this word
unfoldable pub column : Lexeme → Reader Expr
column word c =
    eaten (same k.Dot) c >>= on
    (λ dot c. expected (among name_kinds) c >>= λ name. done (t.column (Some word, name)))
    (done (t.column (None, word)))

unfoldable pub reference : Reader Expr
reference c = expected (among name_kinds) c >>= column

-- [. (* | name)] behind this word
unfoldable pub column_or_star : Lexeme → Reader Starred
column_or_star word c =
    eaten (same k.Dot) c >>= on
    (λ dot c. eaten (same k.Star) c >>= on
    (λ star. done (starred.All (an_item.AliasStar (name_of word) word.start)))
    (λ c. expected (among name_kinds) c >>= λ name. done (starred.First (t.column (Some word, name)))))
    (done (starred.First (t.column (None, word))))

-- a call where a parenthesis follows this word, and else the word, which begins a column
abbrev pub call_behind : (Lexeme → Reader Expr) → Lexeme → Reader (Lexeme ⊎ Expr)
call_behind call word = seen (same k.Open) (λ c. call word c >>= λ x. done (inr x)) (done (inl word))

-- what is read behind the word, or made of the call
abbrev pub with_named : {A : Type 0} → (Lexeme → Reader A) → (Expr → A) → Lexeme ⊎ Expr → Reader A
with_named column made (inl word) = column word
with_named column made (inr call) = done (made call)

-- [AS] name
unfoldable pub alias : Reader Lexeme
alias c = eaten (same k.As) c >>= λ word. expected (among name_kinds)

unfoldable pub optional_alias : Reader (Option Lexeme)
optional_alias c = eaten (same k.As) c >>= on (λ word c. expected (among name_kinds) c >>= λ name. done (Some name)) (eaten (among name_kinds))

unfoldable pub item_name : Reader (Option Name)
item_name c = optional_alias c >>= λ alias. done (t.name_of_alias alias)

abbrev pub table_named : Lexeme → Option Lexeme → Listed
table_named table None = t.listed_table table table
table_named table (Some alias) = t.listed_table table alias

unfoldable pub table_entry : Reader Listed
table_entry c = expected (among name_kinds) c >>= λ table c. optional_alias c >>= λ alias. done (table_named table alias)

-- ---- literals

unfoldable pub literal : Reader (Option Expr)
literal c =
    eaten (same k.Number) c >>= on
    (λ token c. numbered (literal_number (t.number_of token)) c >>= λ lit. done (Some (an_expr.Lit lit token.start)))
    (λ c. eaten (same k.Text) c >>= on
    (λ token c. numbered (literal_number (t.text_of token)) c >>= λ lit. done (Some (an_expr.Lit lit token.start)))
    (done None))

-- ---- sets of kinds, each as the code lists them; others are of the grammar

abbrev pub expr_kinds : List Kind
expr_kinds =
    k.Exists ∷ k.Not ∷ k.Count ∷ k.Sum ∷ k.Avg ∷ k.Min ∷ k.Max ∷ k.Key ∷ k.View ∷ k.Index ∷ k.Word ∷ k.Quoted ∷ k.Number ∷ k.Text ∷ k.Open ∷ k.Minus ∷ []

abbrev pub test_kinds : List Kind
test_kinds = k.Between ∷ k.In ∷ k.Like ∷ k.Not ∷ comparisons

abbrev pub set_kinds : List Kind
set_kinds = k.Except ∷ k.Intersect ∷ k.Union ∷ []

abbrev pub tail_kinds : List Kind
tail_kinds =
    k.And ∷ k.Between ∷ k.In ∷ k.Like ∷ k.Not ∷ k.Or ∷ k.Star ∷ k.Equals ∷ k.Differs ∷ k.Less ∷ k.AtMost ∷ k.Greater ∷ k.AtLeast ∷ k.Plus ∷ k.Minus ∷ k.Slash ∷
    k.Concat ∷ []

-- ---- words of chains

abbrev pub product_sign : ℕ → Reader (Option Lexeme)
product_sign = eaten_within (among (k.Star ∷ k.Slash ∷ []))

abbrev pub sum_sign : ℕ → Reader (Option Lexeme)
sum_sign = eaten_within (among (k.Plus ∷ k.Minus ∷ k.Concat ∷ []))

abbrev pub and_word : ℕ → Reader (Option Lexeme)
and_word = eaten_within (among (k.And ∷ []))

abbrev pub or_word : ℕ → Reader (Option Lexeme)
or_word = eaten_within (among (k.Or ∷ []))

abbrev pub intersect_word : ℕ → Reader (Option Lexeme)
intersect_word = eaten_within (among (k.Intersect ∷ []))

-- UNION, UNION ALL or EXCEPT, with room for so many, and the place of its first word
unfoldable pub set_word : ℕ → Reader (Option (SetOp × ℕ))
set_word room c =
    eaten_within (among (k.Union ∷ [])) room c >>= on
    (λ word c. eaten (same k.All) c >>= on (λ all. done (Some (s.UnionAll, word.start))) (done (Some (s.Union, word.start))))
    (λ c. eaten_within (among (k.Except ∷ [])) room c >>= on (λ word. done (Some (s.Except, word.start))) (done None))

-- ---- what is made of parts

abbrev pub enclosed_of : Grouped → Expr
enclosed_of (grouped.Query q at) = an_expr.Sub q at
enclosed_of (grouped.Expr x) = x

-- one more operand of an operator
abbrev pub operated : Reader Expr → Expr → Lexeme → Reader Expr
operated f left sign c = f c >>= λ right. done (an_expr.Fun (t.operator (kind_of sign)) (left ∷ right ∷ []) (t.place_of left))

abbrev pub any_of : Expr → List Expr → Expr → Expr
any_of sought [] last = last
any_of sought (x ∷ xs) last = an_expr.Or ((x ∷ xs) ++ last ∷ []) (t.place_of sought)

-- ---- parts that open no level

unfoldable pub group_by : Reader (Option (List Expr))
group_by c =
    eaten (same k.Group) c >>= on (λ word c. expected (same k.By) c >>= λ by c. listed reference c >>= λ columns. done (Some columns)) (done None)

-- the value compared with a member: a copy of it
unfoldable pub compared_copy : Sought → Expr → Reader Expr
compared_copy sought member c = copied sought.weight c >>= λ u. done (an_expr.Eq sought.value member (t.place_of sought.value))

-- ---- what is one level deeper

pub record Deeper : Type 0 where
  pub query : Reader Query
  pub neg : Reader Expr
  pub unary : Reader Expr
  pub exprs : Reader (List Expr)
  pub argument : Lexeme → Reader Expr
  pub inner : Reader Inside
  pub in_inner : Sought → Reader Expr

module _ (levels : ℕ) (deeper : Deeper) where
  abbrev pub opened : Reader Lexeme
  opened = expected_within (among (k.Open ∷ [])) levels

  -- f ), and what is made of it
  abbrev pub closed : {A B : Type 0} → Reader A → (A → B) → Reader B
  closed f made c = f c >>= λ x c. expected (same k.Close) c >>= λ close. done (made x)

  -- ---- what begins with a name

  unfoldable pub arguments : Lexeme → Reader Expr
  arguments word c =
      opened c >>= λ open_ c. numbered (symbol_number (name_of word)) c >>= λ sym. closed deeper.exprs (λ args. an_expr.Call sym args word.start)

  unfoldable pub count_arguments : Lexeme → Reader Expr
  count_arguments word c =
      opened c >>= λ open_ c. eaten (same k.Star) c >>= on
      (λ star c. expected (same k.Close) c >>= λ close. done (an_expr.Agg s.Count false None word.start))
      (closed (deeper.argument word) (λ x. x))

  unfoldable pub aggregate : Lexeme → Reader Expr
  aggregate word c = opened c >>= λ open_. closed (deeper.argument word) (λ x. x)

  unfoldable pub call_or_word : Reader (Lexeme ⊎ Expr)
  call_or_word c =
      eaten (same k.Quoted) c >>= on (λ word. done (inl word))
      (λ c. eaten (among called_kinds) c >>= on (call_behind arguments)
      (λ c. eaten (same k.Count) c >>= on (call_behind count_arguments)
      (λ c. expected (among other_aggregates) c >>= call_behind aggregate)))

  unfoldable pub named_first : Reader Expr
  named_first c = call_or_word c >>= with_named column (λ x. x)

  unfoldable pub name_or_star : Reader Starred
  name_or_star c = call_or_word c >>= with_named column_or_star (λ x. starred.First x)

  -- ---- operands

  unfoldable pub in_parentheses : Reader Grouped
  in_parentheses c = opened c >>= λ open_. closed deeper.inner (λ inside. grouped_of inside open_.start)

  unfoldable pub enclosed : Reader Expr
  enclosed c = in_parentheses c >>= λ inside. done (enclosed_of inside)

  unfoldable pub primary : Reader Expr
  primary c = literal c >>= on done (seen (same k.Open) enclosed named_first)

  unfoldable pub negative : Reader Expr
  negative c = expected_within (among (k.Minus ∷ [])) levels c >>= λ sign c. deeper.unary c >>= λ part. done (an_expr.Fun 4 (part ∷ []) sign.start)

  unfoldable pub unary : Reader Expr
  unary = seen (same k.Minus) negative primary

  unfoldable pub products : Expr → Reader Expr
  products left = repeated product_sign (operated unary) most_operators left

  unfoldable pub term : Reader Expr
  term c = unary c >>= products

  unfoldable pub sums : Expr → Reader Expr
  sums left = repeated sum_sign (operated term) most_operators left

  unfoldable pub value : Reader Expr
  value c = term c >>= sums

  -- ---- tests

  unfoldable pub bounds : ℕ → Expr → Reader Expr
  bounds weight left c =
      copied weight c >>= λ u c. value c >>= λ low c. expected (same k.And) c >>= λ word c. value c >>= λ high. done (t.bounds left low high)

  unfoldable pub by_word : ℕ → Expr → Reader Expr
  by_word weight left c =
      eaten (same k.In) c >>= on
      (λ word c. opened c >>= λ open_. closed (deeper.in_inner (record { value = left; weight = weight; in_at = word.start })) (λ x. x))
      (λ c. eaten (same k.Between) c >>= on (λ word. bounds weight left)
      (λ c. expected (same k.Like) c >>= λ word c. value c >>= λ pattern_. done (an_expr.Pred 2 (left ∷ pattern_ ∷ []) (t.place_of left))))

  unfoldable pub rest : ℕ → Expr → Reader Expr
  rest weight left c =
      eaten (among comparisons) c >>= on
      (λ sign c. value c >>= λ right. done (t.compared (kind_of sign) left right))
      (λ c. eaten (same k.Not) c >>= on (λ word c. by_word weight left c >>= λ test. done (an_expr.Not test (t.place_of test))) (by_word weight left))

  -- the test of the value that began at the mark, if one follows
  unfoldable pub tested : Mark → Expr → Reader Expr
  tested start left = seen (among test_kinds) (λ c. rest (weight_since start c) left c) (done left)

  -- ( query ) behind EXISTS
  abbrev pub exists_of : Lexeme → Reader Expr
  exists_of word c = opened c >>= λ open_. closed deeper.query (λ q. an_expr.Exists q word.start)

  unfoldable pub tested_value : Reader Expr
  tested_value c = eaten (same k.Exists) c >>= on exists_of (λ c. value c >>= tested (mark c))

  -- ---- chains of AND and OR

  abbrev pub negated : Lexeme → Reader Expr
  negated word c = deeper.neg c >>= λ part. done (an_expr.Not part word.start)

  unfoldable pub neg : Reader Expr
  neg c = eaten_within (among (k.Not ∷ [])) levels c >>= on negated tested_value

  unfoldable pub ands : Expr → Reader Expr
  ands first = seen (same k.And) (λ c. repeated and_word (one_more neg) most_separators (first ∷ []) c >>= λ parts. done (an_expr.And parts (t.place_of first))) (done first)

  unfoldable pub conj : Reader Expr
  conj c = neg c >>= ands

  unfoldable pub ors : Expr → Reader Expr
  ors first = seen (same k.Or) (λ c. repeated or_word (one_more conj) most_separators (first ∷ []) c >>= λ parts. done (an_expr.Or parts (t.place_of first))) (done first)

  unfoldable pub expr : Reader Expr
  expr c = conj c >>= ors

  -- what may follow the first part of an expression, which began at the mark
  unfoldable pub expr_tail : Mark → Expr → Reader Expr
  expr_tail start first c = products first c >>= λ left c. sums left c >>= λ left c. tested start left c >>= λ left c. ands left c >>= ors

  -- ---- arguments and members

  unfoldable pub exprs : Reader (List Expr)
  exprs = seen (among expr_kinds) (listed expr) (done [])

  abbrev pub aggregated : Lexeme → Bool → Reader Expr
  aggregated word distinct c = expr c >>= λ x. done (an_expr.Agg (t.aggregate (kind_of word)) distinct (Some x) word.start)

  unfoldable pub argument : Lexeme → Reader Expr
  argument word c = accepted (same k.Distinct) c >>= aggregated word

  -- the members before the last, and the last
  abbrev pub next_member : Sought → List Expr × Expr → Lexeme → Reader (List Expr × Expr)
  next_member sought members word c = compared_copy sought members.1 c >>= λ equal c. expr c >>= λ next. done (members.0 ++ equal ∷ [], next)

  -- the members of a list of IN behind the first
  unfoldable pub members : Sought → Expr → Reader Expr
  members sought first c =
      repeated comma (next_member sought) most_separators ([], first) c >>= λ found. done (any_of sought.value found.0 (an_expr.Eq sought.value found.1 (t.place_of sought.value)))

  -- ---- items

  abbrev value_named : Expr → Reader Item
  value_named x c = item_name c >>= λ name. done (an_item.Value x name)

  abbrev pub starred_item : Mark → Starred → Reader Item
  starred_item start (starred.All whole) = done whole
  starred_item start (starred.First first) = λ c. expr_tail start first c >>= value_named

  unfoldable pub named_item : Reader Item
  named_item c = name_or_star c >>= starred_item (mark c)

  unfoldable pub item : Reader Item
  item c =
      eaten (same k.Star) c >>= on (λ star. done (an_item.Star star.start))
      (seen (among name_kinds) named_item (λ c. expr c >>= value_named))

  unfoldable pub items : Reader (List Item)
  items = listed item

  -- ---- entries

  abbrev pub allowed : ℕ → Reader (Unit {0})
  allowed count c = (allowed_entry levels count c.tokens, c)

  -- an entry behind so many others
  unfoldable pub entry : ℕ → Reader Listed
  entry count c =
      allowed count c >>= λ u c. eaten_within (among (k.Open ∷ [])) levels c >>= on
      (λ open_ c. deeper.query c >>= λ q c. expected (same k.Close) c >>= λ close c. alias c >>= λ name. done (t.listed_query name q))
      table_entry

  -- one that is joined on a condition
  unfoldable pub joined_on : ℕ → Reader (Option Entry)
  joined_on count c =
      accepted (same k.Inner) c >>= λ inner c. expected (same k.Join) c >>= λ join c. entry count c >>= λ listed c.
      expected (same k.On) c >>= λ word c. expr c >>= λ on. done (Some (t.entry_of true (Some on) listed))

  unfoldable pub joined_entry : ℕ → Reader (Option Entry)
  joined_entry count c =
      eaten (same k.Cross) c >>= on
      (λ word c. expected (same k.Join) c >>= λ join c. entry count c >>= λ listed. done (Some (t.entry_of true None listed)))
      (seen (among (k.Inner ∷ k.Join ∷ [])) (joined_on count) (done None))

  -- the entries that are joined to those before, where so many more fit
  unfoldable pub joined : ℕ → List Entry → Reader (List Entry)
  joined zero entries c = joined_entry (length entries) c >>= λ next. done entries
  joined (suc more) entries c = joined_entry (length entries) c >>= on (λ next. joined more (entries ++ next ∷ [])) (done entries)

  -- an item of FROM: its entries, behind those before
  unfoldable pub from : List Entry → Reader (List Entry)
  from before c =
      entry (length before) c >>= λ first. joined (most_entries - length (before ++ t.entry_of false None first ∷ [])) (before ++ t.entry_of false None first ∷ [])

  abbrev pub next_from : List Entry → Lexeme → Reader (List Entry)
  next_from entries word = from entries

  unfoldable pub entries : Reader (List Entry)
  entries c = from [] c >>= repeated comma next_from most_separators

  -- ---- blocks

  -- an expression behind this word, if it stands next
  unfoldable pub condition : Kind → Reader (Option Expr)
  condition word c = eaten (same word) c >>= on (λ word c. expr c >>= λ x. done (Some x)) (done None)

  -- what follows the entries
  unfoldable pub clauses : Bool → List Item → List Entry → Reader Query
  clauses distinct items entries c =
      condition k.Where c >>= λ cond c. group_by c >>= λ groups c. condition k.Having c >>= λ having. done (t.block_node distinct items entries cond groups having)

  unfoldable pub block : Reader Query
  block c =
      expected (same k.Select) c >>= λ select c. accepted (same k.Distinct) c >>= λ distinct c. items c >>= λ items c. expected (same k.From) c >>= λ word c.
      entries c >>= clauses distinct items

  -- ---- queries

  -- ( query ) or a block
  unfoldable pub operand : Reader Query
  operand c = eaten_within (among (k.Open ∷ [])) levels c >>= on (λ open_. closed deeper.query (λ q. q)) block

  abbrev pub intersected : Query → Lexeme → Reader Query
  intersected left word c = operand c >>= λ right. done (a_query.Set s.Intersect left right word.start)

  unfoldable pub intersects : Query → Reader Query
  intersects left = repeated intersect_word intersected most_operators left

  unfoldable pub part : Reader Query
  part c = operand c >>= intersects

  abbrev pub united : Query → SetOp × ℕ → Reader Query
  united left word c = part c >>= λ right. done (a_query.Set word.0 left right word.1)

  unfoldable pub unions : Query → Reader Query
  unions left = repeated set_word united most_operators left

  unfoldable pub query : Reader Query
  query c = part c >>= unions

  -- what follows the first operand of a query
  unfoldable pub set_tail : Query → Reader Query
  set_tail left c = intersects left c >>= unions

  -- ---- what stands in parentheses

  abbrev some_query : Query → Reader Inside
  some_query q = done (inside.Query q)

  abbrev some_expr : Reader Expr → Reader Inside
  some_expr f c = f c >>= λ x. done (inside.Expr x)

  -- behind a query in parentheses, which began at the mark, and whose parenthesis is at this place
  unfoldable pub after_query : Mark → Query → ℕ → Reader Inside
  after_query start q at =
      seen (among set_kinds) (λ c. set_tail q c >>= some_query)
      (seen (among tail_kinds) (some_expr (expr_tail start (an_expr.Sub q at))) (done (inside.Enclosed q at)))

  abbrev pub after_group : Mark → Grouped → Reader Inside
  after_group start (grouped.Query q at) = after_query start q at
  after_group start (grouped.Expr first) = some_expr (expr_tail start first)

  unfoldable pub inner : Reader Inside
  inner =
      seen (same k.Select) (λ c. block c >>= λ first c. set_tail first c >>= some_query)
      (seen (same k.Open) (λ c. in_parentheses c >>= after_group (mark c)) (some_expr expr))

  -- ---- what stands in the parentheses of IN

  -- the value sought in a query
  abbrev in_query : Sought → Query → Reader Expr
  in_query sought q = done (an_expr.In sought.value q (t.place_of sought.value) sought.in_at)

  unfoldable pub in_after_query : Sought → Mark → Query → ℕ → Reader Expr
  in_after_query sought start q at =
      seen (among set_kinds) (λ c. set_tail q c >>= in_query sought)
      (seen (among tail_kinds) (λ c. expr_tail start (an_expr.Sub q at) c >>= members sought)
      (seen (same k.Comma) (members sought (an_expr.Sub q at)) (in_query sought q)))

  abbrev pub in_after_group : Sought → Mark → Grouped → Reader Expr
  in_after_group sought start (grouped.Query q at) = in_after_query sought start q at
  in_after_group sought start (grouped.Expr first) = λ c. expr_tail start first c >>= members sought

  unfoldable pub in_inner : Sought → Reader Expr
  in_inner sought =
      seen (same k.Select) (λ c. block c >>= λ first c. set_tail first c >>= in_query sought)
      (seen (same k.Open) (λ c. in_parentheses c >>= in_after_group sought (mark c)) (λ c. expr c >>= members sought))

-- ---- with so many levels left

-- what is deeper than a level that has so many more, where this is deeper than those
abbrev pub deeper_than : ℕ → Deeper → Deeper
deeper_than levels deeper = record {
  query = query levels deeper;
  neg = neg levels deeper;
  unary = unary levels deeper;
  exprs = exprs levels deeper;
  argument = argument levels deeper;
  inner = inner levels deeper;
  in_inner = in_inner levels deeper;
}

unfoldable pub at : ℕ → Deeper
at zero = record {
  query = refused;
  neg = refused;
  unary = refused;
  exprs = refused;
  argument = λ word. refused;
  inner = refused;
  in_inner = λ sought. refused;
}
at (suc levels) = deeper_than levels (at levels)

-- Code did what the reader does with so many levels left.
abbrev pub Does : {A : Type 0} → (ℕ → Deeper → Reader A) → ℕ → Cursor → Result A ReadFault → Cursor → Type 0
Does reader levels before result after = Gives result after (reader levels (at levels) before)
