-- The grammar of statements, with the trees that it spells. No part of a statement comes back to itself but through the query of a view, so
-- its productions are forms over the names of the grammar of queries. The levels and the lengths of lists are limited as they are there.
use Rattle.std.specs.Prelude.{◌∷◌, [], List, Option, Some, None}
use Rattle.grammar.specs.Form.{seq, alt, star, map, ref}
use Rattle.grammar.specs.Productions.{skip_then, then_skip, optional}
use Rattle.sql_model.specs.declared.statement.NameAt.{NameAt}
use Rattle.sql_model.specs.declared.statement.TableRule.{TableRule}
use Rattle.sql_model.specs.declared.statement.Statement.{Statement}
use Rattle.sql_lex.specs.Lexemes.{Lexeme}
use Rattle.sql_grammar.specs.declared.kinds.Kind.{Kind}
use Rattle.sql_grammar.specs.declared.kinds.Kind.TheVariants as k
use Rattle.sql_grammar.specs.Numbering.{Built, each}
use Rattle.sql_grammar.specs.QueryGrammar.{The, a, one_of, name, most_separators, parens, listed, query}
use Rattle.schema_read.specs.StatementTrees as t
use Rattle.schema_read.specs.StatementTrees.{Elements, Target}

-- ---- names and types

abbrev pub word_kinds : List Kind
word_kinds = k.Word ∷ k.Count ∷ k.Sum ∷ k.Avg ∷ k.Min ∷ k.Max ∷ k.Key ∷ k.View ∷ k.Index ∷ []

-- an unreserved word
abbrev pub word : The Lexeme
word = one_of word_kinds

-- ( name {, name} )
abbrev pub names : The (List NameAt)
names = map t.names (parens (listed name))

-- [word [word]]
abbrev pub more_words : The (Option (Lexeme × Option Lexeme))
more_words = optional (seq word (optional word))

-- number [, number]
abbrev pub sizes_inside : The (Lexeme × Option Lexeme)
sizes_inside = seq (a k.Number) (optional (skip_then (a k.Comma) (a k.Number)))

-- [( number [, number] )]
abbrev pub sizes : The (Option (Lexeme × Option Lexeme))
sizes = optional (parens sizes_inside)

-- word [word [word]] [( number [, number] )], of which nothing is kept
abbrev pub type : The (Unit {0})
type = map (λ p. tt) (seq word (seq more_words sizes))

-- ---- columns and rules

-- REFERENCES name [names]
abbrev pub references : The Target
references = skip_then (a k.References) (seq (map t.named name) (optional names))

-- PRIMARY KEY
abbrev pub primary_key : The Lexeme
primary_key = then_skip (a k.Primary) (a k.Key)

-- NOT NULL | PRIMARY KEY | UNIQUE | REFERENCES name [names]
abbrev pub column_rule : The (NameAt → Option TableRule)
column_rule =
    alt (map (λ p. t.no_rule) (seq (a k.Not) (a k.Null)))
    (alt (map t.primary_column primary_key)
    (alt (map t.unique_column (a k.Unique))
    (map t.foreign_column references)))

-- name type {colrule}
abbrev pub column : The Elements
column = map (λ p. t.column p.0 p.1) (seq name (skip_then type (star None column_rule)))

-- FOREIGN KEY names REFERENCES name [names]
abbrev pub foreign_key : The TableRule
foreign_key = map (λ p. t.foreign_key p.0 p.1) (skip_then (seq (a k.Foreign) (a k.Key)) (seq names references))

-- PRIMARY KEY names | UNIQUE names | FOREIGN KEY names REFERENCES name [names]
abbrev pub table_rule : The TableRule
table_rule =
    alt (map (λ p. t.primary_key p.0 p.1) (seq primary_key names))
    (alt (map (λ p. t.unique_key p.0 p.1) (seq (a k.Unique) names))
    foreign_key)

-- [CONSTRAINT name]
abbrev pub constraint_name : The (Option (Lexeme × Lexeme))
constraint_name = optional (seq (a k.Constraint) name)

-- [CONSTRAINT name] tablerule
abbrev pub constraint : The Elements
constraint = map t.table_rule (skip_then constraint_name table_rule)

-- column | [CONSTRAINT name] tablerule
abbrev pub element : The Elements
element = alt column constraint

-- {, element}
abbrev pub elements : The (List Elements)
elements = star (Some most_separators) (skip_then (a k.Comma) element)

-- ---- statements, with what may follow the first column of a table

-- TABLE name ( column elements )
abbrev pub table_with : The (List Elements) → The (Built Statement)
table_with others = map (λ p. t.table p.0 p.1.0 p.1.1) (skip_then (a k.Table) (seq name (parens (seq column others))))

-- VIEW name AS query
abbrev pub view : The (Built Statement)
view = map (λ p. t.view p.0 p.1) (skip_then (a k.View) (seq name (skip_then (a k.As) (ref query))))

-- [UNIQUE] INDEX name ON name names
abbrev pub index : The (Built Statement)
index =
    map (λ p. t.index p.0 p.1.0 p.1.1.0 p.1.1.1)
    (seq (optional (a k.Unique)) (seq (skip_then (a k.Index) name) (seq (skip_then (a k.On) name) names)))

-- CREATE and one of these
abbrev pub statement_with : The (List Elements) → The (Built Statement)
statement_with others = skip_then (a k.Create) (alt (table_with others) (alt view index))

-- statement ;
abbrev pub ended_with : The (List Elements) → The (Built Statement)
ended_with others = then_skip (statement_with others) (a k.Semicolon)

-- {statement ;}
abbrev pub statements_with : The (List Elements) → The (Built (List Statement))
statements_with others = map (λ read. each read) (star None (ended_with others))

abbrev pub statement : The (Built Statement)
statement = statement_with elements

-- statement ;
abbrev pub ended : The (Built Statement)
ended = ended_with elements

abbrev pub statements : The (Built (List Statement))
statements = statements_with elements
