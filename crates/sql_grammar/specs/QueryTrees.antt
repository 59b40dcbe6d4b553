-- The trees of queries, from what is read of their parts. A node's place is that of its first operand in the text, of its operator where
-- that comes first, or of the parenthesis of a subquery.
use Rattle.std.specs.Prelude.{ℕ, ◌+◌, ◌*◌, Bool, true, false, not, List, [], ◌∷◌, ◌++◌, length, Option, Some, None}
use Rattle.sql_model.specs.declared.symbols.Lit.{Lit}
use Rattle.sql_model.specs.declared.symbols.LitKind.TheVariants as literal
use Rattle.sql_model.specs.declared.tree.Expr.{Expr}
use Rattle.sql_model.specs.declared.tree.Expr.TheVariants as expr
use Rattle.sql_model.specs.declared.tree.Item.{Item}
use Rattle.sql_model.specs.declared.tree.Item.TheVariants as item
use Rattle.sql_model.specs.declared.tree.Source.TheVariants as source
use Rattle.sql_model.specs.declared.tree.Entry.{Entry, roll-Entry}
use Rattle.sql_model.specs.declared.tree.Block.{roll-Block}
use Rattle.sql_model.specs.declared.tree.Query.{Query}
use Rattle.sql_model.specs.declared.tree.Query.TheVariants as query
use Rattle.sql_model.specs.Syntax as s
use Rattle.sql_model.specs.Syntax.{Name, SetOp, AggFun}
use Rattle.sql_lex.specs.Lexemes.{Lexeme}
pub use Rattle.sql_model.specs.Places.{place_of}
pub use Rattle.sql_grammar.specs.declared.listed.Listed.{Listed}
use Rattle.sql_grammar.specs.Kinds as k
use Rattle.sql_grammar.specs.Kinds.{Kind, kind_of}
use Rattle.sql_grammar.specs.TokenValues.{name_of, inside, normalised}
use Rattle.sql_grammar.specs.Numbering.{Built, plain, mapped, both, each, perhaps, copying, literal_number, symbol_number, first_numbers}

abbrev pub is_sub : Expr → Bool
is_sub (s.Sub q at) = true
is_sub other = false

-- What is built is no subquery, shown at the first numbers: which numbers stand before it makes no difference.
abbrev pub not_sub : Built Expr → Bool
not_sub b = not (is_sub (b.build first_numbers).0)

-- ---- single tokens

-- a column, with its qualifier where it has one
abbrev pub column : Option Lexeme × Lexeme → Expr
column (None, name) = expr.Col None 0 (name_of name) name.start
column (Some qual, name) = expr.Col (Some (name_of qual)) qual.start (name_of name) name.start

abbrev pub literal_at : ℕ → Lit → Built Expr
literal_at at l = mapped (λ number. expr.Lit number at) (literal_number l)

abbrev pub number_of : Lexeme → Lit
number_of t = record { kind = literal.Number; text = normalised t.text }

abbrev pub text_of : Lexeme → Lit
text_of t = record { kind = literal.Text; text = inside t.text }

abbrev pub number_literal : Lexeme → Built Expr
number_literal t = literal_at t.start (number_of t)

abbrev pub text_literal : Lexeme → Built Expr
text_literal t = literal_at t.start (text_of t)

-- ---- operators

-- a chain of one part is that part
abbrev pub chained : (List Expr → ℕ → Expr) → Built Expr × List (Built Expr) → Built Expr
chained node (first, []) = first
chained node (first, next ∷ others) = mapped (λ p. node (p.0 ∷ p.1) (place_of p.0)) (both first (each (next ∷ others)))

abbrev pub or_node : List Expr → ℕ → Expr
or_node parts at = expr.Or parts at

abbrev pub and_node : List Expr → ℕ → Expr
and_node parts at = expr.And parts at

abbrev pub operator : Kind → ℕ
operator k.Plus = 3
operator k.Minus = 4
operator k.Star = 5
operator k.Slash = 6
operator other = 7

-- operators associate to the left
abbrev pub operated : Built Expr → List (Lexeme × Built Expr) → Built Expr
operated left [] = left
operated left (p ∷ others) =
    operated (mapped (λ q. expr.Fun (operator (kind_of p.0)) (q.0 ∷ q.1 ∷ []) (place_of q.0)) (both left p.1)) others

abbrev pub minus : Lexeme × Built Expr → Built Expr
minus (sign, part) = mapped (λ x. expr.Fun 4 (x ∷ []) sign.start) part

abbrev pub not_of : Lexeme × Built Expr → Built Expr
not_of (word, part) = mapped (λ x. expr.Not x word.start) part

-- ---- comparisons

abbrev pub compared : Kind → Expr → Expr → Expr
compared k.Equals x y = expr.Eq x y (place_of x)
compared k.Differs x y = expr.Not (expr.Eq x y (place_of x)) (place_of x)
compared k.Less x y = expr.Pred 0 (x ∷ y ∷ []) (place_of x)
compared k.AtMost x y = expr.Pred 1 (x ∷ y ∷ []) (place_of x)
compared k.Greater x y = expr.Pred 0 (y ∷ x ∷ []) (place_of x)
compared other x y = expr.Pred 1 (y ∷ x ∷ []) (place_of x)

-- what stands to the left, with the number of its tokens
abbrev pub Left : Type 0
Left = Built Expr × ℕ

-- what a copy of it weighs: its tokens, and the copies that are made in it
abbrev pub weight : Left → ℕ
weight left = left.1 + left.0.copies

-- a NOT behind the left side makes a node in its place
abbrev pub negated : Option Lexeme → Expr → Expr
negated None x = x
negated (Some word) x = expr.Not x (place_of x)

abbrev pub comparison : Lexeme → Built Expr → Left → Built Expr
comparison sign right left = mapped (λ p. compared (kind_of sign) p.0 p.1) (both left.0 right)

abbrev pub in_query : Option Lexeme → Lexeme → Built Query → Left → Built Expr
in_query word in_word q left = mapped (λ p. negated word (expr.In p.0 p.1 (place_of p.0) in_word.start)) (both left.0 q)

abbrev pub equals_each : Expr → List Expr → List Expr
equals_each x [] = []
equals_each x (y ∷ ys) = expr.Eq x y (place_of x) ∷ equals_each x ys

abbrev pub member : Expr → Expr → List Expr → Expr
member x y [] = expr.Eq x y (place_of x)
member x y (z ∷ zs) = expr.Or (equals_each x (y ∷ z ∷ zs)) (place_of x)

-- the left side is copied at each comma
abbrev pub in_list : Option Lexeme → Built Expr × List (Built Expr) → Left → Built Expr
in_list word members left =
    copying (length members.1 * weight left)
    (mapped (λ p. negated word (member p.0 p.1.0 p.1.1)) (both left.0 (both members.0 (each members.1))))

abbrev pub is_no_query : Built Expr × List (Built Expr) → Bool
is_no_query (only, []) = not_sub only
is_no_query (first, next ∷ others) = true

abbrev pub bounds : Expr → Expr → Expr → Expr
bounds x low high = expr.And (expr.Pred 1 (low ∷ x ∷ []) (place_of x) ∷ expr.Pred 1 (x ∷ high ∷ []) (place_of x) ∷ []) (place_of x)

-- the left side is copied at BETWEEN
abbrev pub between : Option Lexeme → Built Expr → Built Expr → Left → Built Expr
between word low high left = copying (weight left) (mapped (λ p. negated word (bounds p.0 p.1.0 p.1.1)) (both left.0 (both low high)))

abbrev pub like : Option Lexeme → Built Expr → Left → Built Expr
like word pattern_ left = mapped (λ p. negated word (expr.Pred 2 (p.0 ∷ p.1 ∷ []) (place_of p.0))) (both left.0 pattern_)

abbrev pub tested : Left → Option (Left → Built Expr) → Built Expr
tested left None = left.0
tested left (Some rest) = rest left

-- ---- calls and subqueries

abbrev pub exists : Lexeme × Built Query → Built Expr
exists (word, q) = mapped (λ x. expr.Exists x word.start) q

abbrev pub sub : Lexeme × Built Query → Built Expr
sub (open_, q) = mapped (λ x. expr.Sub x open_.start) q

abbrev pub listed_or_none : Option (Built Expr × List (Built Expr)) → List (Built Expr)
listed_or_none None = []
listed_or_none (Some p) = p.0 ∷ p.1

abbrev pub call : Lexeme → Option (Built Expr × List (Built Expr)) → Built Expr
call word args = mapped (λ p. expr.Call p.0 p.1 word.start) (both (symbol_number (name_of word)) (each (listed_or_none args)))

abbrev pub aggregate : Kind → AggFun
aggregate k.Count = s.Count
aggregate k.Sum = s.Sum
aggregate k.Avg = s.Avg
aggregate k.Min = s.Min
aggregate other = s.Max

abbrev pub is_given : {X : Type 0} → Option X → Bool
is_given None = false
is_given (Some x) = true

abbrev pub count_rows : Lexeme → Built Expr
count_rows word = plain (expr.Agg s.Count false None word.start)

abbrev pub aggregated : Lexeme → Option Lexeme → Built Expr → Built Expr
aggregated word distinct argument = mapped (λ x. expr.Agg (aggregate (kind_of word)) (is_given distinct) (Some x) word.start) argument

-- ---- items and entries

abbrev pub name_of_alias : Option Lexeme → Option Name
name_of_alias None = None
name_of_alias (Some alias) = Some (name_of alias)

abbrev pub star_item : Lexeme → Built Item
star_item star = plain (item.Star star.start)

abbrev pub alias_star_item : Lexeme → Built Item
alias_star_item alias = plain (item.AliasStar (name_of alias) alias.start)

abbrev pub value_item : Built Expr → Option Lexeme → Built Item
value_item value alias = mapped (λ x. item.Value x (name_of_alias alias)) value

abbrev pub listed_table : Lexeme → Lexeme → Listed
listed_table table alias = record { source = source.Named (name_of table) table.start; alias = name_of alias; at = alias.start }

abbrev pub listed_query : Lexeme → Query → Listed
listed_query alias x = record { source = source.Query x; alias = name_of alias; at = alias.start }

abbrev pub table_entry : Lexeme → Option Lexeme → Built Listed
table_entry table None = plain (listed_table table table)
table_entry table (Some alias) = plain (listed_table table alias)

abbrev pub query_entry : Built Query → Lexeme → Built Listed
query_entry q alias = mapped (listed_query alias) q

abbrev pub entry_of : Bool → Option Expr → Listed → Entry
entry_of joined on listed = roll-Entry (record { source = listed.source; alias = listed.alias; at = listed.at; joined = joined; on = on })

abbrev pub joined_on : Built Listed → Built Expr → Built Entry
joined_on listed on = mapped (λ p. entry_of true (Some p.1) p.0) (both listed on)

abbrev pub cross_joined : Built Listed → Built Entry
cross_joined listed = mapped (entry_of true None) listed

abbrev pub entries : Built Listed → List (Built Entry) → Built (List Entry)
entries first joined = mapped (λ p. entry_of false None p.0 ∷ p.1) (both first (each joined))

-- ---- queries

abbrev pub concatenated : {X : Type 0} → List (List X) → List X
concatenated [] = []
concatenated (xs ∷ others) = xs ++ concatenated others

abbrev pub block_node : Bool → List Item → List Entry → Option Expr → Option (List Expr) → Option Expr → Query
block_node distinct items entries cond groups having = query.Block (roll-Block (record {
  distinct = distinct;
  items = items;
  entries = entries;
  cond = cond;
  groups = groups;
  having = having;
}))

abbrev block_tree : Bool → List Item → List (List Entry) → Option Expr → Option (List Expr) → Option Expr → Query
block_tree distinct items froms cond groups having = block_node distinct items (concatenated froms) cond groups having

abbrev pub all_of : {X : Type 0} → X × List X → List X
all_of p = p.0 ∷ p.1

-- entries behind others
abbrev pub appended : Built (List Entry) → Built (List Entry) → Built (List Entry)
appended before read = mapped (λ p. p.0 ++ p.1) (both before read)

-- the entries of all items of FROM
abbrev pub all_entries : Built (List Entry) × List (Built (List Entry)) → Built (List Entry)
all_entries froms = mapped concatenated (each (all_of froms))

abbrev pub columns_of : Option (Expr × List Expr) → Option (List Expr)
columns_of None = None
columns_of (Some p) = Some (p.0 ∷ p.1)

-- DISTINCT, the items, FROM, WHERE, GROUP BY and HAVING
abbrev pub block_of : Option Lexeme → Built Item × List (Built Item) → Built (List Entry) × List (Built (List Entry)) → Option (Built Expr) →
    Option (Expr × List Expr) → Option (Built Expr) → Built Query
block_of distinct items froms cond groups having =
    mapped (λ p. block_tree (is_given distinct) p.0 p.1.0 p.1.1.0 (columns_of groups) p.1.1.1)
    (both (each (all_of items)) (both (each (all_of froms)) (both (perhaps cond) (perhaps having))))

-- a set operator, and the place of its word
abbrev pub SetWord : Type 0
SetWord = SetOp × ℕ

abbrev pub union_word : Lexeme → Option Lexeme → SetWord
union_word word None = (s.Union, word.start)
union_word word (Some all) = (s.UnionAll, word.start)

-- set operators associate to the left
abbrev pub sets : Built Query → List (SetWord × Built Query) → Built Query
sets left [] = left
sets left (p ∷ others) = sets (mapped (λ q. query.Set p.0.0 q.0 q.1 p.0.1) (both left p.1)) others
