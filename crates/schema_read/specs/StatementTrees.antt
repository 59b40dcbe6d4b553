-- The trees of statements, from what is read of their parts.
use Rattle.std.specs.Prelude.{true, false, List, [], ◌∷◌, ◌++◌, Option, Some, None}
use Rattle.sql_model.specs.declared.statement.NameAt.{NameAt}
use Rattle.sql_model.specs.declared.statement.TableRule.{TableRule}
use Rattle.sql_model.specs.declared.statement.TableRule.TheVariants as rule
use Rattle.sql_model.specs.declared.statement.Statement.{Statement}
use Rattle.sql_model.specs.declared.statement.Statement.TheVariants as statement
use Rattle.sql_model.specs.declared.tree.Query.{Query}
use Rattle.sql_lex.specs.Lexemes.{Lexeme}
use Rattle.sql_grammar.specs.TokenValues.{name_of}
use Rattle.sql_grammar.specs.Numbering.{Built, plain, mapped}
use Rattle.sql_grammar.specs.QueryTrees.{is_given}
pub use Rattle.schema_read.specs.declared.reading.elements.Elements.{Elements}

-- ---- names

-- a name, with its place
abbrev pub named : Lexeme → NameAt
named token = record { name = name_of token; at = token.start }

abbrev pub all_named : List Lexeme → List NameAt
all_named [] = []
all_named (token ∷ tokens) = named token ∷ all_named tokens

abbrev pub names : Lexeme × List Lexeme → List NameAt
names p = named p.0 ∷ all_named p.1

-- ---- columns and rules

-- the table that is referenced, with its columns where they are written
abbrev pub Target : Type 0
Target = NameAt × Option (List NameAt)

-- the place of a key is that of its word PRIMARY or UNIQUE
abbrev pub primary_key : Lexeme → List NameAt → TableRule
primary_key word columns = rule.Key true columns word.start

abbrev pub unique_key : Lexeme → List NameAt → TableRule
unique_key word columns = rule.Key false columns word.start

abbrev pub foreign_key : List NameAt → Target → TableRule
foreign_key columns target = rule.Foreign columns target.0 target.1

-- what stands behind a column is a rule of that column alone, or none
abbrev pub no_rule : NameAt → Option TableRule
no_rule column = None

abbrev pub primary_column : Lexeme → NameAt → Option TableRule
primary_column word column = Some (primary_key word (column ∷ []))

abbrev pub unique_column : Lexeme → NameAt → Option TableRule
unique_column word column = Some (unique_key word (column ∷ []))

abbrev pub foreign_column : Target → NameAt → Option TableRule
foreign_column target column = Some (foreign_key (column ∷ []) target)

abbrev pub before_rules : Option TableRule → List TableRule → List TableRule
before_rules None rules = rules
before_rules (Some r) rules = r ∷ rules

abbrev pub rules_of : NameAt → List (NameAt → Option TableRule) → List TableRule
rules_of column [] = []
rules_of column (rule_of ∷ others) = before_rules (rule_of column) (rules_of column others)

-- ---- tables

-- what stands in the parentheses of a table: columns and rules, each in the order of the text
abbrev pub no_elements : Elements
no_elements = record { columns = []; rules = [] }

abbrev pub with_elements : Elements → Elements → Elements
with_elements first others = record { columns = first.columns ++ others.columns; rules = first.rules ++ others.rules }

abbrev pub all_elements : List Elements → Elements
all_elements [] = no_elements
all_elements (element ∷ others) = with_elements element (all_elements others)

abbrev pub column : Lexeme → List (NameAt → Option TableRule) → Elements
column name rules = record { columns = named name ∷ []; rules = rules_of (named name) rules }

abbrev pub table_rule : TableRule → Elements
table_rule r = record { columns = []; rules = r ∷ [] }

abbrev pub table_of : NameAt → Elements → Statement
table_of name elements = statement.Table name elements.columns elements.rules

-- ---- statements

abbrev pub table : Lexeme → Elements → List Elements → Built Statement
table name first others = plain (table_of (named name) (with_elements first (all_elements others)))

abbrev pub view : Lexeme → Built Query → Built Statement
view name query = mapped (λ q. statement.View (named name) q) query

abbrev pub index : Option Lexeme → Lexeme → Lexeme → List NameAt → Built Statement
index unique name table columns = plain (statement.Index (named name) (is_given unique) (named table) columns)
