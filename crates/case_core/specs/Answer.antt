-- What the reader of cases answers.
use Rattle.std.specs.Prelude.{◌≡◌, ◌≢◌, ℕ, List, length, map, Option, Some}
use Rattle.std.specs.Option.{option_or}
use Rattle.sql_model.specs.declared.schema.Schema.{Schema}
use Rattle.sql_model.specs.Headings.{output_columns}
use Rattle.sql_model.specs.Syntax.{Query}
use Rattle.sql_cursor.specs.Cursor.{numbers_of}
use Rattle.sql_grammar.specs.Numbering.{Numbers}
use Rattle.schema_read.specs.declared.fault.SchemaFault.{SchemaFault}
use Rattle.schema_read.specs.declared.fault.SchemaFault.TheVariants as schema_refusal
use Rattle.schema_read.specs.Builds.{Builds, schema_fault}
use Rattle.schema_read.specs.SchemaFacts.{AreFactsOf}
use Rattle.scope_core.specs.declared.fault.ScopeFault.{ScopeFault}
use Rattle.scope_core.specs.declared.fault.ScopeFault.TheVariants as scope_refusal
use Rattle.scope_core.specs.FirstFault.{query_fault, schema_fault as views_fault}
use Rattle.scope_core.specs.Relations.{known_of}
use Rattle.scope_core.specs.ViewTrees.{Resolves, views_of}
use Rattle.scope_core.specs.Scope.{heading}
use Rattle.scope_core.specs.WellFormed.{SchemaWellFormed, SchemaWithinWidth, WellFormed, WithinWidth}
use Rattle.case_core.specs.declared.fault.CaseFault.{CaseFault}
use Rattle.case_core.specs.declared.fault.CaseFault.TheVariants.{Read, Schema as OfSchema, Scope as OfScope, QueriesDiffer, NotTwoQueries, NoMemory}
use Rattle.case_core.specs.declared.text.CaseText.{CaseText}
use Rattle.case_core.specs.Cases.{IsRead}
use Rattle.case_core.specs.Fitting.{TreesFitSymbols}
use Rattle.case_core.specs.Parts.{Parts}
use Rattle.case_core.specs.Refusals.{IsNoCase}

-- the text spells this within the limits, and its statements build the schema
pub record HasSchema (text : List ℕ) (written : CaseText) (numbers : Numbers) (schema : Schema) : Type 0 where
  pub read : IsRead text written numbers
  pub built : Builds written.statements schema

-- no view and neither query has a fault
pub record IsWellFormed (schema : Schema) (written : CaseText) : Type 0 where
  pub views : SchemaWellFormed schema
  pub views_within_width : SchemaWithinWidth schema
  pub left : WellFormed schema written.left
  pub left_within_width : WithinWidth schema written.left
  pub right : WellFormed schema written.right
  pub right_within_width : WithinWidth schema written.right

-- how many columns the answer of a query has
abbrev pub width_of : Schema → Query → ℕ
width_of schema query = length (output_columns query (map heading (known_of schema)))

-- The text spells a schema and two queries of one width over it, and these are its parts; each literal in the trees has its number in the
-- symbols.
pub record IsCase (text : List ℕ) (parts : Parts) : Type 0 where
  pub written : CaseText
  pub has_schema : HasSchema text written (numbers_of parts.symbols) parts.schema
  pub well_formed : IsWellFormed parts.schema written
  pub views : parts.views ≡ views_of parts.schema
  pub left : Resolves parts.schema written.left parts.left
  pub right : Resolves parts.schema written.right parts.right
  pub one_width : width_of parts.schema written.left ≡ width_of parts.schema written.right
  pub facts : AreFactsOf parts.schema parts.facts
  pub fit_symbols : TreesFitSymbols parts.symbols parts.views parts.left parts.right

-- ---- the first fault

-- of the statements
abbrev pub IsSchemaFault : CaseText → SchemaFault → Type 0
IsSchemaFault written (schema_refusal.Refused code at) = schema_fault written.statements ≡ Some (record { code = code; at = at })
IsSchemaFault written schema_refusal.NoMemory = ⊥

pub record BreaksRule (text : List ℕ) (fault : SchemaFault) : Type 0 where
  pub written : CaseText
  pub numbers : Numbers
  pub read : IsRead text written numbers
  pub first : IsSchemaFault written fault

-- of the views, then of the first query, then of the second
abbrev pub scope_fault : Schema → CaseText → Option ScopeFault
scope_fault schema written = option_or (views_fault schema) (option_or (query_fault schema written.left) (query_fault schema written.right))

pub record IsOutOfScope (text : List ℕ) (fault : ScopeFault) : Type 0 where
  pub written : CaseText
  pub numbers : Numbers
  pub schema : Schema
  pub has_schema : HasSchema text written numbers schema
  pub first : scope_fault schema written ≡ Some fault
  pub no_memory : fault ≢ scope_refusal.NoMemory

-- the queries are well formed, and have these widths
pub record HasTwoWidths (text : List ℕ) (left right : ℕ) : Type 0 where
  pub written : CaseText
  pub numbers : Numbers
  pub schema : Schema
  pub has_schema : HasSchema text written numbers schema
  pub well_formed : IsWellFormed schema written
  pub left_width : left ≡ width_of schema written.left
  pub right_width : right ≡ width_of schema written.right
  pub differ : left ≢ right

-- Where each fault comes; want of memory may come anywhere.
abbrev pub IsRefused : List ℕ → CaseFault → Type 0
IsRefused text (Read fault) = IsNoCase text (Read fault)
IsRefused text (OfSchema fault) = BreaksRule text fault
IsRefused text (OfScope fault) = IsOutOfScope text fault
IsRefused text (QueriesDiffer left right) = HasTwoWidths text left right
IsRefused text (NotTwoQueries count at) = IsNoCase text (NotTwoQueries count at)
IsRefused text NoMemory = Unit {0}
