-- What the functions that read statements do, from the left, over the readers of `sql_read`: what is read, or where and why reading stops.
use Rattle.std.specs.Prelude.{Bool, ℕ, zero, suc, ◌==◌, if◌then◌else◌, List, [], ◌∷◌, ◌++◌, length, Option, Some, None, Err}
use Rattle.sql_lex.specs.Lexemes.{Lexeme}
use Rattle.sql_model.specs.declared.statement.NameAt.{NameAt}
use Rattle.sql_model.specs.declared.statement.Statement.{Statement}
use Rattle.sql_model.specs.declared.statement.Statement.TheVariants as statement
use Rattle.sql_model.specs.declared.statement.TableRule.{TableRule}
use Rattle.sql_grammar.specs.declared.kinds.Kind.{Kind}
use Rattle.sql_grammar.specs.declared.kinds.Kind.TheVariants as k
use Rattle.sql_grammar.specs.Kinds.{among, name_kinds, same}
use Rattle.sql_grammar.specs.Queries.{most_levels}
use Rattle.sql_grammar.specs.QueryGrammar.{most_separators}
use Rattle.sql_cursor.specs.declared.fault.LimitKind.TheVariants as limit
use Rattle.sql_cursor.specs.declared.fault.ReadFault.TheVariants.{Limit}
use Rattle.sql_read.specs.Reading.{at, comma, listed, query}
use Rattle.sql_cursor.specs.Readers.{Reader, ◌>>=◌, done, eaten, expected, on, refused, repeated, seen, accepted}
use Rattle.schema_read.specs.StatementGrammar.{word_kinds}
use Rattle.schema_read.specs.StatementLimits.{most_columns, most_relations}
use Rattle.schema_read.specs.StatementTrees as t
use Rattle.schema_read.specs.StatementTrees.{Elements}

-- nothing is kept of what was read
abbrev pub nothing : Reader (Unit {0})
nothing = done tt

-- ---- names and types

unfoldable pub name : Reader NameAt
name c = expected (among name_kinds) c >>= λ token. done (t.named token)

unfoldable pub listed_names : Reader (List NameAt)
listed_names = listed name

-- names ), behind their parenthesis
unfoldable pub names_behind : Reader (List NameAt)
names_behind c = listed_names c >>= λ names c. expected (same k.Close) c >>= λ close. done names

unfoldable pub names : Reader (List NameAt)
names c = expected (same k.Open) c >>= λ open_. names_behind

unfoldable pub more_words : Reader (Unit {0})
more_words c = eaten (among word_kinds) c >>= on (λ word c. eaten (among word_kinds) c >>= λ more. nothing) nothing

unfoldable pub sizes_inside : Reader (Unit {0})
sizes_inside c = expected (same k.Number) c >>= λ size c. eaten (same k.Comma) c >>= on (λ comma c. expected (same k.Number) c >>= λ size. nothing) nothing

unfoldable pub sizes : Reader (Unit {0})
sizes c = eaten (same k.Open) c >>= on (λ open_ c. sizes_inside c >>= λ u c. expected (same k.Close) c >>= λ close. nothing) nothing

unfoldable pub type_name : Reader (Unit {0})
type_name c = expected (among word_kinds) c >>= λ word c. more_words c >>= λ u. sizes

-- ---- the rules behind a column

unfoldable pub names_if_any : Reader (Option (List NameAt))
names_if_any c = eaten (same k.Open) c >>= on (λ open_ c. names_behind c >>= λ names. done (Some names)) (done None)

-- a foreign key of these columns
unfoldable pub references : List NameAt → Reader TableRule
references columns c = expected (same k.References) c >>= λ word c. name c >>= λ table c. names_if_any c >>= λ target. done (t.foreign_key columns (table, target))

unfoldable pub column_rule : NameAt → Reader (Option TableRule)
column_rule column c =
    eaten (same k.Not) c >>= on (λ word c. expected (same k.Null) c >>= λ null. done None)
    (λ c. eaten (same k.Primary) c >>= on (λ word c. expected (same k.Key) c >>= λ key. done (Some (t.primary_key word (column ∷ []))))
    (λ c. eaten (same k.Unique) c >>= on (λ word. done (Some (t.unique_key word (column ∷ []))))
    (λ c. references (column ∷ []) c >>= λ rule. done (Some rule))))

-- what a rule behind a column begins with
abbrev pub rule_kinds : List Kind
rule_kinds = k.Not ∷ k.Primary ∷ k.Unique ∷ k.References ∷ []

-- Further rules behind these, while one begins. Each takes a token: there are no more than so many.
unfoldable pub further_rules : NameAt → ℕ → List TableRule → Reader (List TableRule)
further_rules column zero rules = done rules
further_rules column (suc most) rules = seen (among rule_kinds) (λ c. column_rule column c >>= λ rule. further_rules column most (rules ++ t.before_rules rule [])) (done rules)

unfoldable pub column_rules : NameAt → List TableRule → Reader (List TableRule)
column_rules column before c = further_rules column (length c.tokens) before c

-- ---- the rules of a table

unfoldable pub constraint_name : Reader (Unit {0})
constraint_name c = eaten (same k.Constraint) c >>= on (λ word c. name c >>= λ of. nothing) nothing

unfoldable pub foreign_key : Reader TableRule
foreign_key c = expected (same k.Foreign) c >>= λ word c. expected (same k.Key) c >>= λ key c. names c >>= references

unfoldable pub table_rule : Reader TableRule
table_rule c =
    eaten (same k.Primary) c >>= on (λ word c. expected (same k.Key) c >>= λ key c. names c >>= λ columns. done (t.primary_key word columns))
    (λ c. eaten (same k.Unique) c >>= on (λ word c. names c >>= λ columns. done (t.unique_key word columns)) foreign_key)

unfoldable pub constraint : Reader TableRule
constraint c = constraint_name c >>= λ u. table_rule

-- ---- tables, each element behind those before it

unfoldable pub rule_element : Elements → Reader Elements
rule_element before c = constraint c >>= λ rule. done (record { columns = before.columns; rules = before.rules ++ rule ∷ [] })

unfoldable pub column : Elements → Reader Elements
column before c =
    name c >>= λ name c. type_name c >>= λ u c. column_rules name before.rules c >>= λ rules. done (record { columns = before.columns ++ name ∷ []; rules = rules })

-- what a rule of a table begins with, where it is no column
abbrev pub constraint_kinds : List Kind
constraint_kinds = k.Constraint ∷ k.Primary ∷ k.Unique ∷ k.Foreign ∷ []

-- no column may follow: one is too many, and what is none is refused
unfoldable pub no_column : Reader Elements
no_column = seen (among name_kinds) (λ c. (Err (Limit limit.Columns), c)) refused

unfoldable pub element : Elements → Reader Elements
element before = seen (among constraint_kinds) (rule_element before) (if length before.columns == most_columns then no_column else column before)

abbrev pub next_element : Elements → Lexeme → Reader Elements
next_element before word = element before

unfoldable pub listed_elements : Reader Elements
listed_elements c = column t.no_elements c >>= repeated comma next_element most_separators

unfoldable pub table_elements : Reader Elements
table_elements c = expected (same k.Open) c >>= λ open_ c. listed_elements c >>= λ elements c. expected (same k.Close) c >>= λ close. done elements

-- ---- statements

unfoldable pub table : Reader Statement
table c = expected (same k.Table) c >>= λ word c. name c >>= λ name c. table_elements c >>= λ elements. done (t.table_of name elements)

unfoldable pub view : Reader Statement
view c =
    expected (same k.View) c >>= λ word c. name c >>= λ name c. expected (same k.As) c >>= λ word c. query most_levels (at most_levels) c >>= λ q. done (statement.View name q)

abbrev pub unique_word : Reader Bool
unique_word = accepted (same k.Unique)

unfoldable pub index : Reader Statement
index c =
    unique_word c >>= λ unique c. expected (same k.Index) c >>= λ word c. name c >>= λ index c. expected (same k.On) c >>= λ word c. name c >>= λ table c. names c >>= λ columns.
    done (statement.Index index unique table columns)

unfoldable pub one_statement : Reader Statement
one_statement c = expected (same k.Create) c >>= λ word. seen (same k.Table) table (seen (same k.View) view index)

unfoldable pub ended_statement : Reader Statement
ended_statement c = one_statement c >>= λ statement c. expected (same k.Semicolon) c >>= λ end. done statement

-- further statements behind these, where so many more fit
unfoldable pub further_statements : ℕ → List Statement → Reader (List Statement)
further_statements zero list = seen (same k.Create) (λ c. (Err (Limit limit.Relations), c)) (done list)
further_statements (suc room) list = seen (same k.Create) (λ c. ended_statement c >>= λ next. further_statements room (list ++ next ∷ [])) (done list)

unfoldable pub statements : Reader (List Statement)
statements = further_statements most_relations []
