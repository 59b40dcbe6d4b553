-- Whether the literals of a case are those that have numbers in it.
use Rattle.std.specs.Prelude.{ℕ, List, length}
use Rattle.data_model.specs.Lists.{Each}
use Rattle.sql_model.specs.declared.statement.Statement.{Statement}
use Rattle.sql_model.specs.declared.symbols.Symbols.{Symbols}
use Rattle.schema_read.specs.FewEntries.{OfView}
use Rattle.scope_core.specs.Literals.{QueryFits, TreeFits}
use Rattle.scope_core.specs.Syntax.{RQuery}
use Rattle.case_core.specs.declared.text.CaseText.{CaseText}

-- ---- of what is written, where the first `count` literals have numbers

-- each literal of a view's query has one
abbrev pub ViewFits : ℕ → Statement → Type 0
ViewFits count s = OfView (QueryFits count) s

-- each literal of the views and of the two queries has one
pub record TextFits (count : ℕ) (written : CaseText) : Type 0 where
  pub views : Each (ViewFits count) written.statements
  pub left : QueryFits count written.left
  pub right : QueryFits count written.right

-- ---- of trees

-- each literal in the tree has its number in these symbols
abbrev pub FitsSymbols : Symbols → RQuery → Type 0
FitsSymbols symbols tree = TreeFits (length symbols.lits.keys) tree

-- so has each in the views and in the two queries
pub record TreesFitSymbols (symbols : Symbols) (views : List RQuery) (left right : RQuery) : Type 0 where
  pub views_fit : Each (FitsSymbols symbols) views
  pub left_fits : FitsSymbols symbols left
  pub right_fits : FitsSymbols symbols right
