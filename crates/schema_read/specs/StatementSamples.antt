-- Statements as texts of tokens with one blank between them, and the trees that they spell, computed.
use Rattle.std.specs.Prelude.{ℕ, ◌≡◌, Bool, true, false, List, [], ◌∷◌, map, codes, length, replicate, refl, Option, Some, None}
use Rattle.grammar.specs.Parses.{begins, name_begins, name_parses, parses, whole_values}
use Rattle.sql_model.specs.declared.statement.NameAt.{NameAt}
use Rattle.sql_model.specs.declared.statement.TableRule.{TableRule}
use Rattle.sql_model.specs.declared.statement.TableRule.TheVariants as rule
use Rattle.sql_model.specs.declared.statement.Statement.{Statement}
use Rattle.sql_model.specs.declared.statement.Statement.TheVariants as statement
use Rattle.sql_model.specs.declared.tree.Entry.{roll-Entry}
use Rattle.sql_model.specs.declared.tree.Expr.TheVariants as expr
use Rattle.sql_model.specs.declared.tree.Item.TheVariants as item
use Rattle.sql_model.specs.declared.tree.Query.TheVariants as query
use Rattle.sql_model.specs.declared.tree.Source.TheVariants as source
use Rattle.sql_model.specs.declared.tree.Block.{roll-Block}
use Rattle.sql_model.specs.Compute.{everything}
use Rattle.sql_grammar.specs.Kinds.{kind_of}
use Rattle.sql_grammar.specs.Numbering.{first_numbers}
use Rattle.sql_grammar.specs.Queries.{rules}
use Rattle.sql_grammar.specs.QuerySamples.{tokens}
use Rattle.schema_read.specs.StatementGrammar as g
use Rattle.schema_read.specs.StatementLimits.{few_columns}

-- ---- what they spell

abbrev pub statements : List ℕ → List (List Statement)
statements text = map (λ read. (read.build first_numbers).0) (whole_values (parses kind_of (name_parses kind_of rules 20) None g.statements (tokens text)))

-- how many readings a text has where so many levels may be opened
abbrev pub within : ℕ → List ℕ → ℕ
within levels text = length (whole_values (parses kind_of (name_parses kind_of rules 20) (Some levels) g.statements (tokens text)))

-- whether a text is a prefix of statements whose tables have at most so many columns besides their first
abbrev pub begins_narrow : ℕ → List ℕ → Bool
begins_narrow most text = begins kind_of (name_parses kind_of rules 20) (name_begins kind_of rules 20) None (g.statements_with (few_columns most)) (tokens text)

-- what the views of whole statements copy
abbrev pub copied : List ℕ → List ℕ
copied text = map (λ read. read.copies) (whole_values (parses kind_of (name_parses kind_of rules 20) None g.statements (tokens text)))

-- ---- short forms

abbrev at_ : List ℕ → ℕ → NameAt
at_ name at = record { name = name; at = at }

abbrev primary : List NameAt → ℕ → TableRule
primary columns at = rule.Key true columns at

abbrev unique : List NameAt → ℕ → TableRule
unique columns at = rule.Key false columns at

abbrev foreign : List NameAt → NameAt → Option (List NameAt) → TableRule
foreign columns to target = rule.Foreign columns to target

-- ---- tables

pub keyed : statements (codes "CREATE TABLE r ( a INT PRIMARY KEY , b VARCHAR ( 25 ) NOT NULL ) ;")
    ≡ (statement.Table (at_ (codes "r") 13) (at_ (codes "a") 17 ∷ at_ (codes "b") 37 ∷ []) (primary (at_ (codes "a") 17 ∷ []) 23 ∷ []) ∷ []) ∷ []
unfolding everything
keyed = refl

pub rules_of_columns : statements (codes "CREATE TABLE s ( f INT UNIQUE REFERENCES r , g INT NOT NULL REFERENCES r ( k ) ) ;")
    ≡ (statement.Table (at_ (codes "s") 13) (at_ (codes "f") 17 ∷ at_ (codes "g") 45 ∷ []) (
    unique (at_ (codes "f") 17 ∷ []) 23
    ∷ foreign (at_ (codes "f") 17 ∷ []) (at_ (codes "r") 41) None
    ∷ foreign (at_ (codes "g") 45 ∷ []) (at_ (codes "r") 71) (Some (at_ (codes "k") 75 ∷ []))
    ∷ []) ∷ []) ∷ []
unfolding everything
rules_of_columns = refl

-- the rules of a table in order, and a name in quotes as it is
pub rules_of_tables : statements (codes "CREATE TABLE \"S\" ( b INT , CONSTRAINT c PRIMARY KEY ( b , A ) , a INT , UNIQUE ( a ) , FOREIGN KEY ( a , b ) REFERENCES r ( x , y ) , FOREIGN KEY ( b ) REFERENCES t ) ;")
    ≡ (statement.Table (at_ (codes "S") 13) (at_ (codes "b") 19 ∷ at_ (codes "a") 64 ∷ []) (
    primary (at_ (codes "b") 54 ∷ at_ (codes "a") 58 ∷ []) 40
    ∷ unique (at_ (codes "a") 81 ∷ []) 72
    ∷ foreign (at_ (codes "a") 101 ∷ at_ (codes "b") 105 ∷ []) (at_ (codes "r") 120) (Some (at_ (codes "x") 124 ∷ at_ (codes "y") 128 ∷ []))
    ∷ foreign (at_ (codes "b") 148 ∷ []) (at_ (codes "t") 163) None
    ∷ []) ∷ []) ∷ []
unfolding everything
rules_of_tables = refl

-- the names of aggregates, and KEY, are names and words of types
pub special_words : statements (codes "CREATE TABLE count ( key double precision ( 8 , 2 ) , sum max ( 5 ) UNIQUE ) ;")
    ≡ (statement.Table (at_ (codes "count") 13) (at_ (codes "key") 21 ∷ at_ (codes "sum") 54 ∷ []) (unique (at_ (codes "sum") 54 ∷ []) 68 ∷ []) ∷ []) ∷ []
unfolding everything
special_words = refl

-- ---- indexes and views

pub indexes : statements (codes "CREATE INDEX i ON r ( a , b ) ; CREATE UNIQUE INDEX j ON r ( b ) ;")
    ≡ (statement.Index (at_ (codes "i") 13) false (at_ (codes "r") 18) (at_ (codes "a") 22 ∷ at_ (codes "b") 26 ∷ []) ∷ statement.Index (at_ (codes "j") 52) true (at_ (codes "r") 57) (at_ (codes "b") 61 ∷ []) ∷ []) ∷ []
unfolding everything
indexes = refl

-- SELECT the literal of this number FROM r
abbrev literal_view : List ℕ → ℕ → ℕ → ℕ → ℕ → Statement
literal_view name at literal literal_at table_at =
    statement.View (at_ name at) (query.Block (roll-Block (record {
      distinct = false;
      items = item.Value (expr.Lit literal literal_at) None ∷ [];
      entries = roll-Entry (record { source = source.Named (codes "r") table_at; alias = codes "r"; at = table_at; joined = false; on = None }) ∷ [];
      cond = None;
      groups = None;
      having = None;
    })))

-- literals are numbered through all views, and a size is no literal
pub numbered_views : statements (codes "CREATE TABLE r ( a DECIMAL ( 5 ) ) ; CREATE VIEW v AS SELECT 3 FROM r ; CREATE VIEW w AS SELECT 4 FROM r ;")
    ≡ (statement.Table (at_ (codes "r") 13) (at_ (codes "a") 17 ∷ []) [] ∷ literal_view (codes "v") 49 1 61 68 ∷ literal_view (codes "w") 84 2 96 103 ∷ []) ∷ []
unfolding everything
numbered_views = refl

pub no_statements : statements [] ≡ [] ∷ []
unfolding everything
no_statements = refl

-- ---- limits

pub two_levels : within 2 (codes "CREATE TABLE r ( a INT ( 5 ) ) ;") ≡ 1
unfolding everything
two_levels = refl

pub three_levels : within 1 (codes "CREATE TABLE r ( a INT ( 5 ) ) ;") ≡ 0
unfolding everything
three_levels = refl

pub comma_before_a_column_too_many : begins_narrow 1 (codes "CREATE TABLE r ( a INT , b INT ,") ≡ true
unfolding everything
comma_before_a_column_too_many = refl

pub a_column_too_many : begins_narrow 1 (codes "CREATE TABLE r ( a INT , b INT , c") ≡ false
unfolding everything
a_column_too_many = refl

pub a_rule_is_no_column : begins_narrow 1 (codes "CREATE TABLE r ( a INT , b INT , UNIQUE ( a ) , CONSTRAINT c") ≡ true
unfolding everything
a_rule_is_no_column = refl

pub a_column_too_many_behind_a_rule : begins_narrow 1 (codes "CREATE TABLE r ( a INT , UNIQUE ( a ) , b INT , UNIQUE ( b ) , c") ≡ false
unfolding everything
a_column_too_many_behind_a_rule = refl

-- each table has its own columns
pub columns_of_the_next_table : begins_narrow 0 (codes "CREATE TABLE r ( a INT ) ; CREATE TABLE s ( b INT ,") ≡ true
unfolding everything
columns_of_the_next_table = refl

-- the first view copies one token, and the second three
pub copies_of_views : copied (codes "CREATE VIEW v AS SELECT * FROM r WHERE a BETWEEN 1 AND 2 ; CREATE VIEW w AS SELECT * FROM r WHERE a + b BETWEEN 1 AND 2 ;") ≡ 4 ∷ []
unfolding everything
copies_of_views = refl

-- ---- neighbours that are not spelled

abbrev pub readings : List (List ℕ) → List ℕ
readings [] = []
readings (text ∷ texts) = length (statements text) ∷ readings texts

pub no_tables : readings (
    codes "CREATE TABLE r ( ) ;" ∷ codes "CREATE TABLE r ( UNIQUE ( a ) ) ;" ∷ codes "CREATE TABLE r ( a ) ;" ∷
    codes "CREATE TABLE r ( a INT , ) ;" ∷ codes "CREATE TABLE r ( a INT )" ∷ codes "CREATE TABLE r ( a \"int\" ) ;" ∷
    codes "CREATE TABLE r ( a one two three four ) ;" ∷ codes "CREATE TABLE r ( a INT ( ) ) ;" ∷
    codes "CREATE TABLE r ( a INT ( 1 , 2 , 3 ) ) ;" ∷ codes "CREATE TABLE r ( a INT ( b ) ) ;" ∷ codes "CREATE TABLE r ( a INT NULL ) ;" ∷
    codes "CREATE TABLE r ( a INT PRIMARY ) ;" ∷ codes "CREATE TABLE r ( a INT , PRIMARY ( a ) ) ;" ∷
    codes "CREATE TABLE r ( a INT , CONSTRAINT c b INT ) ;" ∷ codes "CREATE TABLE r ( a INT , CONSTRAINT UNIQUE ( a ) ) ;" ∷
    codes "CREATE TABLE r ( a INT , UNIQUE ( ) ) ;" ∷ codes "CREATE TABLE r ( a INT , FOREIGN KEY ( a ) ) ;" ∷
    codes "CREATE TABLE r ( a INT REFERENCES ( a ) ) ;" ∷ codes "CREATE TABLE ( a INT ) ;" ∷ codes "CREATE UNIQUE TABLE r ( a INT ) ;" ∷ []) ≡ replicate 20 0
unfolding everything
no_tables = refl

pub no_indexes_or_views : readings (
    codes "CREATE INDEX i ON r ;" ∷ codes "CREATE INDEX ON r ( a ) ;" ∷ codes "CREATE UNIQUE i ON r ( a ) ;" ∷
    codes "CREATE INDEX i r ( a ) ;" ∷ codes "CREATE VIEW v SELECT * FROM r ;" ∷ codes "CREATE VIEW v AS r ;" ∷
    codes "CREATE VIEW v ( a ) AS SELECT * FROM r ;" ∷ codes "; ;" ∷ codes "SELECT * FROM r ;" ∷ codes "CREATE" ∷ []) ≡ replicate 10 0
unfolding everything
no_indexes_or_views = refl
