-- What a text has to spell to be a case, and the terms of its two queries.
use Rattle.std.specs.Prelude.{◌≡◌, ◌≤◌, ℕ, List, length, Option, IfSome}
use Rattle.std.specs.Option.{option_or}
use Rattle.sql_model.specs.declared.schema.Schema.{Schema}
use Rattle.sql_model.specs.Syntax.{Query}
use Rattle.sql_grammar.specs.Numbering.{Numbers}
use Rattle.scope_core.specs.ViewTrees.{tree_of, views_of}
use Rattle.u_terms.specs.declared.term.U.{U}
use Rattle.sql_to_u.specs.declared.fault.TermFault.{TermFault}
use Rattle.sql_to_u.specs.Answer.{translation}
use Rattle.sql_to_u.specs.Limits.{too_big}
use Rattle.case_core.specs.declared.text.CaseText.{CaseText}
use Rattle.case_core.specs.Answer.{HasSchema, IsWellFormed, width_of}
use Rattle.udp_run.specs.Limits.{most_case_bytes}

-- The text is within its length, and spells two queries and statements before them, within the limits; the statements build this schema.
pub record Spells (text : List ℕ) (schema : Schema) (written : CaseText) : Type 0 where
  pub within : length text ≤ most_case_bytes
  pub numbers : Numbers
  pub has_schema : HasSchema text written numbers schema

-- the two queries are well formed over the schema, and so are its views; and they have one width
pub record AreComparable (schema : Schema) (written : CaseText) : Type 0 where
  pub well_formed : IsWellFormed schema written
  pub one_width : width_of schema written.left ≡ width_of schema written.right

-- how often the row of the names 0, 1, .. occurs in the answer of a query
abbrev pub term_of : Schema → Query → U
term_of schema query = translation (views_of schema) (tree_of schema query)

-- of the first query, then of the second
abbrev pub size_fault : Schema → CaseText → Option TermFault
size_fault schema written = option_or (too_big (term_of schema written.left)) (too_big (term_of schema written.right))

-- The text, where it is told, spells a schema and two queries, which are comparable, and this holds of them.
pub record HasCase (case : Option (List ℕ)) (P : Schema → CaseText → Type 0) : Type 0 where
  pub schema : Schema
  pub written : CaseText
  pub spelled : IfSome case (λ text. Spells text schema written)
  pub comparable : AreComparable schema written
  pub holds : P schema written
