-- Queries as texts of tokens with one blank between them, and the trees that they spell, computed.
use Rattle.std.specs.Prelude.{ℕ, ◌≡◌, ◌+◌, ◌==◌, Bool, if◌then◌else◌, List, [], ◌∷◌, ◌++◌, map, codes, length, replicate, true, false, refl, Option, Some, None}
use Rattle.std.specs.List.{list_all}
use Rattle.grammar.specs.Parses.{name_begins, name_parses, whole_values}
use Rattle.sql_model.specs.declared.tree.Query.{Query}
use Rattle.sql_model.specs.declared.tree.Expr.{Expr}
use Rattle.sql_model.specs.declared.tree.Expr.TheVariants as expr
use Rattle.sql_model.specs.declared.tree.Item.{Item}
use Rattle.sql_model.specs.declared.tree.Item.TheVariants as item
use Rattle.sql_model.specs.declared.tree.Source.TheVariants as source
use Rattle.sql_model.specs.declared.tree.Query.TheVariants as query
use Rattle.sql_model.specs.declared.tree.Entry.{Entry, roll-Entry}
use Rattle.sql_model.specs.Syntax.{Count, Max, Union, UnionAll, Except, Intersect}
use Rattle.sql_model.specs.declared.tree.Block.{roll-Block}
use Rattle.sql_model.specs.Compute.{everything}
use Rattle.sql_lex.specs.declared.token.TokenKind.{TokenKind}
use Rattle.sql_lex.specs.declared.token.TokenKind.TheVariants as token
use Rattle.sql_lex.specs.Bytes.{begins_word, is_digit, quote, double_quote}
use Rattle.sql_lex.specs.Lexemes.{Lexeme}
use Rattle.sql_grammar.specs.Kinds.{kind_of}
use Rattle.sql_grammar.specs.Numbering.{first_numbers}
use Rattle.sql_grammar.specs.QueryCopies.{copies_nothing}
use Rattle.sql_grammar.specs.QueryEntries.{few_rules}
use Rattle.sql_grammar.specs.Queries.{rules}
use Rattle.sql_grammar.specs.QueryGrammar as g

-- ---- texts

abbrev blank : ℕ
blank = 32

abbrev class : ℕ → TokenKind
class byte =
    if begins_word byte then token.Word
    else (if is_digit byte then token.Number
    else (if byte == quote then token.Text
    else (if byte == double_quote then token.Quoted
    else token.Symbol)))

abbrev token_at : ℕ → List ℕ → List Lexeme
token_at start [] = []
token_at start (byte ∷ bytes) = record { kind = class byte; text = byte ∷ bytes; start = start } ∷ []

-- what is left of a text at this place, after the bytes of a token that began there
abbrev cut : ℕ → List ℕ → ℕ → List ℕ → List Lexeme
cut at [] start bytes = token_at start bytes
cut at (byte ∷ text) start bytes =
    if byte == blank then token_at start bytes ++ cut (at + 1) text (at + 1) [] else cut (at + 1) text start (bytes ++ byte ∷ [])

abbrev pub tokens : List ℕ → List Lexeme
tokens text = cut 0 text 0 []

-- ---- what they spell

abbrev pub expressions : List ℕ → List Expr
expressions text = map (λ read. (read.build first_numbers).0) (whole_values (name_parses kind_of rules 40 None g.expr (tokens text)))

abbrev pub queries : List ℕ → List Query
queries text = map (λ read. (read.build first_numbers).0) (whole_values (name_parses kind_of rules 40 None g.query (tokens text)))

-- what an expression copies
abbrev pub copies : List ℕ → List ℕ
copies text = map (λ read. read.copies) (whole_values (name_parses kind_of rules 40 None g.expr (tokens text)))

-- what a prefix of an expression has copied, by what it goes on with, which is none where that copies anything
abbrev pub copied : List ℕ → List ℕ → List ℕ
copied text more = if list_all copies_nothing (tokens more) then copies (text ++ blank ∷ more) else []

-- how many readings an expression has where so many levels may be opened
abbrev pub within : ℕ → List ℕ → ℕ
within levels text = length (whole_values (name_parses kind_of rules 40 (Some levels) g.expr (tokens text)))

-- the queries where a block has at most so many entries besides its first
abbrev pub with_few : ℕ → List ℕ → List Query
with_few further text = map (λ read. (read.build first_numbers).0) (whole_values (name_parses kind_of (few_rules further) 40 None g.query (tokens text)))

-- whether a text is a prefix of these
abbrev pub begins_few : ℕ → List ℕ → Bool
begins_few further text = name_begins kind_of (few_rules further) 40 None g.query (tokens text)

-- ---- short forms

abbrev a : ℕ → Expr
a at = expr.Col None 0 (codes "a") at

abbrev b : ℕ → Expr
b at = expr.Col None 0 (codes "b") at

abbrev c : ℕ → Expr
c at = expr.Col None 0 (codes "c") at

abbrev entry : List ℕ → ℕ → List ℕ → ℕ → Bool → Option Expr → Entry
entry table at alias alias_at joined on = roll-Entry (record { source = source.Named table at; alias = alias; at = alias_at; joined = joined; on = on })

-- a table under its own name
abbrev table : List ℕ → ℕ → Entry
table name at = entry name at name at false None

abbrev block : Bool → List Item → List Entry → Option Expr → Option (List Expr) → Option Expr → Query
block distinct items entries cond groups having = query.Block (roll-Block (record {
  distinct = distinct;
  items = items;
  entries = entries;
  cond = cond;
  groups = groups;
  having = having;
}))

-- SELECT * FROM name
abbrev all_of : List ℕ → ℕ → ℕ → Query
all_of name star_at name_at = block false (item.Star star_at ∷ []) (table name name_at ∷ []) None None None

-- ---- parentheses

-- ((q)) is one subquery, at its first parenthesis
pub subquery : expressions (codes "( ( SELECT * FROM r ) )") ≡ expr.Sub (all_of (codes "r") 11 18) 0 ∷ []
unfolding everything
subquery = refl

-- ((q) UNION q) is one of a set
pub subquery_of_a_set : expressions (codes "( ( SELECT * FROM r ) UNION SELECT * FROM s )") ≡
    expr.Sub (query.Set Union (all_of (codes "r") 11 18) (all_of (codes "s") 35 42) 22) 0 ∷ []
unfolding everything
subquery_of_a_set = refl

-- ((q) + 1) is a sum
pub sum_with_a_subquery : expressions (codes "( ( SELECT * FROM r ) + 1 )") ≡
    expr.Fun 3 (expr.Sub (all_of (codes "r") 11 18) 2 ∷ expr.Lit 0 24 ∷ []) 2 ∷ []
unfolding everything
sum_with_a_subquery = refl

-- IN ((q)) is IN of the query
pub in_a_query : expressions (codes "a IN ( ( SELECT * FROM r ) )") ≡ expr.In (a 0) (all_of (codes "r") 16 23) 0 2 ∷ []
unfolding everything
in_a_query = refl

-- IN ((q), 1) is a list
pub in_a_list : expressions (codes "a IN ( ( SELECT * FROM r ) , 1 )") ≡
    expr.Or (expr.Eq (a 0) (expr.Sub (all_of (codes "r") 16 23) 7) 0 ∷ expr.Eq (a 0) (expr.Lit 0 29) 0 ∷ []) 0 ∷ []
unfolding everything
in_a_list = refl

pub in_one : expressions (codes "a NOT IN ( b )") ≡ expr.Not (expr.Eq (a 0) (b 11) 0) 0 ∷ []
unfolding everything
in_one = refl

-- parentheses make no node, and give no place
pub grouping : expressions (codes "( a ) = ( ( b ) )") ≡ expr.Eq (a 2) (b 12) 2 ∷ []
unfolding everything
grouping = refl

-- ---- names of aggregates

pub count_twice : expressions (codes "count = COUNT ( * )") ≡
    expr.Eq (expr.Col None 0 (codes "count") 0) (expr.Agg Count false None 8) 0 ∷ []
unfolding everything
count_twice = refl

pub aggregate : expressions (codes "max ( DISTINCT a )") ≡ expr.Agg Max true (Some (a 15)) 0 ∷ []
unfolding everything
aggregate = refl

-- a quoted name is never called
pub quoted_call : expressions (codes "\"count\" ( a )") ≡ []
unfolding everything
quoted_call = refl

pub quoted_name : expressions (codes "\"a\"\"B\"") ≡ expr.Col None 0 (codes "a\"B") 0 ∷ []
unfolding everything
quoted_name = refl

-- ---- comparisons

-- a > b is b < a
pub greater : expressions (codes "a > b") ≡ expr.Pred 0 (b 4 ∷ a 0 ∷ []) 0 ∷ []
unfolding everything
greater = refl

pub at_least : expressions (codes "a >= b") ≡ expr.Pred 1 (b 5 ∷ a 0 ∷ []) 0 ∷ []
unfolding everything
at_least = refl

pub differs : expressions (codes "a != b") ≡ expr.Not (expr.Eq (a 0) (b 5) 0) 0 ∷ []
unfolding everything
differs = refl

-- numbers are given in the order of the text, not of the tree
pub numbered_in_order : expressions (codes "7 > 8") ≡ expr.Pred 0 (expr.Lit 2 4 ∷ expr.Lit 1 0 ∷ []) 0 ∷ []
unfolding everything
numbered_in_order = refl

pub between : expressions (codes "a BETWEEN b AND c") ≡
    expr.And (expr.Pred 1 (b 10 ∷ a 0 ∷ []) 0 ∷ expr.Pred 1 (a 0 ∷ c 16 ∷ []) 0 ∷ []) 0 ∷ []
unfolding everything
between = refl

-- the AND of BETWEEN is in no chain
pub between_in_a_chain : expressions (codes "a BETWEEN b AND c AND a = b") ≡
    expr.And (expr.And (expr.Pred 1 (b 10 ∷ a 0 ∷ []) 0 ∷ expr.Pred 1 (a 0 ∷ c 16 ∷ []) 0 ∷ []) 0 ∷ expr.Eq (a 22) (b 26) 22 ∷ []) 0 ∷ []
unfolding everything
between_in_a_chain = refl

-- three tokens are copied, and one at each comma
pub copies_of_between : copies (codes "a + b BETWEEN 1 AND 2") ≡ 3 ∷ []
unfolding everything
copies_of_between = refl

pub copies_of_in : copies (codes "a IN ( 1 , 2 , 3 )") ≡ 2 ∷ []
unfolding everything
copies_of_in = refl

pub no_copies_of_in : copies (codes "a IN ( 1 )") ≡ 0 ∷ []
unfolding everything
no_copies_of_in = refl

pub not_like : expressions (codes "a NOT LIKE 'x''y'") ≡ expr.Not (expr.Pred 2 (a 0 ∷ expr.Lit 1 11 ∷ []) 0) 0 ∷ []
unfolding everything
not_like = refl

-- ---- operators and calls

-- to the left
pub differences : expressions (codes "a - b - c") ≡ expr.Fun 4 (expr.Fun 4 (a 0 ∷ b 4 ∷ []) 0 ∷ c 8 ∷ []) 0 ∷ []
unfolding everything
differences = refl

pub products_first : expressions (codes "a + b * - c") ≡ expr.Fun 3 (a 0 ∷ expr.Fun 5 (b 4 ∷ expr.Fun 4 (c 10 ∷ []) 8 ∷ []) 4 ∷ []) 0 ∷ []
unfolding everything
products_first = refl

-- a call with no arguments, and one whose argument is a call of another name
pub calls : expressions (codes "f ( ) = g ( f ( ) , a )") ≡
    expr.Eq (expr.Call 8 [] 0) (expr.Call 9 (expr.Call 8 [] 12 ∷ a 20 ∷ []) 8) 0 ∷ []
unfolding everything
calls = refl

pub chains : expressions (codes "NOT a = b OR a = c AND EXISTS ( SELECT * FROM r ) OR r . a = 1") ≡
    expr.Or (
    expr.Not (expr.Eq (a 4) (b 8) 4) 0
    ∷ expr.And (expr.Eq (a 13) (c 17) 13 ∷ expr.Exists (all_of (codes "r") 39 46) 23 ∷ []) 13
    ∷ expr.Eq (expr.Col (Some (codes "r")) 53 (codes "a") 57) (expr.Lit 0 61) 53 ∷ []) 0 ∷ []
unfolding everything
chains = refl

-- ---- numbers

pub numbers : expressions (codes "01.50 = 1.5 OR 2. = 2") ≡
    expr.Or (expr.Eq (expr.Lit 1 0) (expr.Lit 1 8) 0 ∷ expr.Eq (expr.Lit 2 15) (expr.Lit 2 20) 15 ∷ []) 0 ∷ []
unfolding everything
numbers = refl

-- ---- levels

pub not_opens_a_level : within 0 (codes "NOT a") ≡ 0
unfolding everything
not_opens_a_level = refl

pub not_opens_a_level_within : within 1 (codes "NOT a") ≡ 1
unfolding everything
not_opens_a_level_within = refl

pub minus_opens_a_level : within 1 (codes "- - a") ≡ 0
unfolding everything
minus_opens_a_level = refl

pub minus_opens_a_level_within : within 2 (codes "- - a") ≡ 1
unfolding everything
minus_opens_a_level_within = refl

-- a level of a parenthesis lasts to its end
pub one_level_after_the_other : within 0 (codes "( a ) + f ( )") ≡ 0
unfolding everything
one_level_after_the_other = refl

pub one_level_after_the_other_within : within 1 (codes "( a ) + f ( )") ≡ 1
unfolding everything
one_level_after_the_other_within = refl

-- ---- queries

pub set_operators : queries (codes "SELECT * FROM r UNION ALL SELECT * FROM s INTERSECT SELECT * FROM r EXCEPT ( SELECT * FROM s )") ≡
    query.Set Except (query.Set UnionAll (all_of (codes "r") 7 14)
    (query.Set Intersect (all_of (codes "s") 33 40) (all_of (codes "r") 59 66) 42) 16) (all_of (codes "s") 84 91) 68 ∷ []
unfolding everything
set_operators = refl

pub whole_block : queries (codes "SELECT DISTINCT a AS x , r . * , b y FROM r , s z JOIN t ON a = b CROSS JOIN u WHERE a = 1 GROUP BY a , r . b HAVING c = 1") ≡
    block true
    (item.Value (a 16) (Some (codes "x")) ∷ item.AliasStar (codes "r") 25 ∷ item.Value (b 33) (Some (codes "y")) ∷ [])
    (table (codes "r") 42 ∷ entry (codes "s") 46 (codes "z") 48 false None
    ∷ entry (codes "t") 55 (codes "t") 55 true (Some (expr.Eq (a 60) (b 64) 60))
    ∷ entry (codes "u") 77 (codes "u") 77 true None ∷ [])
    (Some (expr.Eq (a 85) (expr.Lit 0 89) 85))
    (Some (a 100 ∷ expr.Col (Some (codes "r")) 104 (codes "b") 108 ∷ []))
    (Some (expr.Eq (c 117) (expr.Lit 0 121) 117)) ∷ []
unfolding everything
whole_block = refl

pub derived_table : queries (codes "SELECT * FROM ( SELECT * FROM r ) AS d INNER JOIN s ON d . a = b") ≡
    block false (item.Star 7 ∷ [])
    (roll-Entry (record { source = source.Query (all_of (codes "r") 23 30); alias = codes "d"; at = 37; joined = false; on = None })
    ∷ entry (codes "s") 50 (codes "s") 50 true (Some (expr.Eq (expr.Col (Some (codes "d")) 55 (codes "a") 59) (b 63) 55)) ∷ [])
    None None None ∷ []
unfolding everything
derived_table = refl

-- a subquery in FROM has a name
pub no_name : queries (codes "SELECT * FROM ( SELECT * FROM r )") ≡ []
unfolding everything
no_name = refl

-- ---- entries of a block

abbrev three_entries : Query
three_entries = block false (item.Star 7 ∷ []) (table (codes "r") 14 ∷ table (codes "s") 18 ∷ entry (codes "t") 31 (codes "t") 31 true None ∷ []) None None None

pub three : with_few 2 (codes "SELECT * FROM r , s CROSS JOIN t") ≡ three_entries ∷ []
unfolding everything
three = refl

pub third_is_too_many : with_few 1 (codes "SELECT * FROM r , s CROSS JOIN t") ≡ []
unfolding everything
third_is_too_many = refl

-- each block has its own
pub two_in_each_block : with_few 1 (codes "SELECT * FROM r , ( SELECT * FROM r , s ) d") ≡
    block false (item.Star 7 ∷ [])
    (table (codes "r") 14
    ∷ roll-Entry (record { source = source.Query (block false (item.Star 27 ∷ []) (table (codes "r") 34 ∷ table (codes "s") 38 ∷ []) None None None); alias = codes "d"; at = 42; joined = false; on = None })
    ∷ []) None None None ∷ []
unfolding everything
two_in_each_block = refl

-- the entry itself is too many, and not what stands before it
pub comma_before_one_too_many : begins_few 1 (codes "SELECT * FROM r , s ,") ≡ true
unfolding everything
comma_before_one_too_many = refl

pub one_too_many : begins_few 1 (codes "SELECT * FROM r , s , (") ≡ false
unfolding everything
one_too_many = refl

pub join_before_one_too_many : begins_few 1 (codes "SELECT * FROM r , s INNER JOIN") ≡ true
unfolding everything
join_before_one_too_many = refl

pub one_too_many_joined : begins_few 1 (codes "SELECT * FROM r , s INNER JOIN t") ≡ false
unfolding everything
one_too_many_joined = refl

pub cross_join_before_one_too_many : begins_few 1 (codes "SELECT * FROM r , s CROSS JOIN") ≡ true
unfolding everything
cross_join_before_one_too_many = refl

pub other_parts_go_on : begins_few 1 (codes "SELECT * FROM r , s WHERE") ≡ true
unfolding everything
other_parts_go_on = refl

-- ---- copies up to a token

pub none_yet : copied (codes "a + 1") (codes "* 2") ≡ 0 ∷ []
unfolding everything
none_yet = refl

pub at_between : copied (codes "a + b BETWEEN") (codes "1 AND 2") ≡ 3 ∷ []
unfolding everything
at_between = refl

pub first_member : copied (codes "a IN ( 1") (codes "+ 2 )") ≡ 0 ∷ []
unfolding everything
first_member = refl

pub at_a_comma : copied (codes "a IN ( 1 ,") (codes "2 )") ≡ 1 ∷ []
unfolding everything
at_a_comma = refl

pub third_member : copied (codes "a IN ( 1 , 2 , 3") (codes ")") ≡ 2 ∷ []
unfolding everything
third_member = refl

pub at_not_between : copied (codes "a NOT BETWEEN") (codes "1 AND 2") ≡ 1 ∷ []
unfolding everything
at_not_between = refl

pub behind_between : copied (codes "a BETWEEN 1 AND") (codes "2") ≡ 1 ∷ []
unfolding everything
behind_between = refl

-- the comma of a call copies nothing
pub at_a_comma_of_a_call : copied (codes "a IN ( f ( 1 , 2") (codes ") )") ≡ 0 ∷ []
unfolding everything
at_a_comma_of_a_call = refl

-- seven tokens, and the copy that was made in them
pub copies_of_copies : copied (codes "( a BETWEEN 1 AND 2 ) IN ( 1 ,") (codes "2 )") ≡ 9 ∷ []
unfolding everything
copies_of_copies = refl

-- ---- neighbours that are not spelled

abbrev pub readings : List (List ℕ) → List ℕ
readings [] = []
readings (text ∷ texts) = length (expressions text) ∷ readings texts

pub not_expressions : readings (
    codes "( ( SELECT * FROM r )" ∷ codes "( SELECT * FROM r ) UNION SELECT * FROM s" ∷ codes "a IN ( )" ∷ codes "a IN SELECT * FROM r"
    ∷ codes "a BETWEEN b" ∷ codes "a NOT = b" ∷ codes "a > b > c" ∷ codes "a LIKE" ∷ codes "count ( )" ∷ codes "max ( * )" ∷ codes "f ( DISTINCT a )"
    ∷ codes "f ( a , )" ∷ codes "EXISTS ( a )" ∷ codes "a . b . c" ∷ codes "a OR" ∷ codes "NOT" ∷ []) ≡ replicate 16 0
unfolding everything
not_expressions = refl

abbrev pub query_readings : List (List ℕ) → List ℕ
query_readings [] = []
query_readings (text ∷ texts) = length (queries text) ∷ query_readings texts

pub not_queries : query_readings (
    codes "SELECT FROM r" ∷ codes "SELECT a" ∷ codes "SELECT a FROM r WHERE" ∷ codes "SELECT a FROM r JOIN s" ∷ codes "SELECT a FROM r CROSS JOIN s ON a = b"
    ∷ codes "SELECT a FROM r GROUP a" ∷ codes "SELECT a FROM r HAVING a = b WHERE a = b" ∷ codes "SELECT a FROM r UNION ALL ALL SELECT a FROM r"
    ∷ codes "SELECT a FROM r EXCEPT ALL SELECT a FROM r" ∷ codes "SELECT a FROM r INTERSECT" ∷ codes "SELECT a AS FROM r" ∷ []) ≡ replicate 11 0
unfolding everything
not_queries = refl
