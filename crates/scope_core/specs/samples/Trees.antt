-- Short forms for the trees of the samples, and what the queries of sql_model's samples are resolved and evaluated over.
use Rattle.std.specs.Prelude.{ℕ, false, List, [], ◌∷◌, map, Some, None, Option}
use Rattle.data_model.specs.Rows.{Row}
use Rattle.data_model.specs.Database.{Database}
use Rattle.sql_model.specs.Syntax.{Name, Query}
use Rattle.sql_model.specs.samples.Forms.{r, s, none, a, b, reading}
use Rattle.scope_core.specs.declared.tree.RSource.TheVariants as source
use Rattle.scope_core.specs.declared.tree.RQuery.TheVariants as query
use Rattle.scope_core.specs.declared.tree.Grouping.TheVariants as grouping
use Rattle.scope_core.specs.declared.tree.RBlock.{roll-RBlock}
use Rattle.scope_core.specs.declared.tree.REntry.{REntry, roll-REntry}
use Rattle.scope_core.specs.declared.fault.ScopeCode.{ScopeCode}
use Rattle.scope_core.specs.declared.fault.ScopeFault.{ScopeFault}
use Rattle.scope_core.specs.declared.fault.ScopeFault.TheVariants as fault
use Rattle.scope_core.specs.Syntax.{RVal, RCond, RQuery, Grouping}
use Rattle.scope_core.specs.Scope.{Known}
use Rattle.scope_core.specs.Resolving.{resolved}
use Rattle.scope_core.specs.Sites.{sites}
use Rattle.scope_core.specs.FirstFault.{first_fault}
use Rattle.scope_core.specs.Evaluation.{world_of, rows}

-- ---- r(a, b) is base table 0, s(a) is 1 and none(a) is 2
abbrev pub table : Name → List Name → ℕ → Known
table name columns number = record { name = name; columns = map Some columns; source = source.Table number }

abbrev pub known : List Known
known = table r (a ∷ b ∷ []) 0 ∷ table s (a ∷ []) 1 ∷ table none (a ∷ []) 2 ∷ []

-- r: (0, 1), (0, 2), (1, 1)      s: 0, 0, 2      none: no row
abbrev pub db : Database
db =
    record { table = 0; rows = (0 ∷ 1 ∷ []) ∷ (0 ∷ 2 ∷ []) ∷ (1 ∷ 1 ∷ []) ∷ [] }
    ∷ record { table = 1; rows = (0 ∷ []) ∷ (0 ∷ []) ∷ (2 ∷ []) ∷ [] } ∷ []

abbrev pub tree : Query → RQuery
tree q = resolved q known []

-- the rows of its tree
abbrev pub rows_of : Query → List Row
rows_of q = rows (tree q) (world_of 4 reading db []) []

abbrev pub fault_of : Query → Option ScopeFault
fault_of q = first_fault (sites q known [])

-- a fault without widths
abbrev pub refused : ScopeCode → ℕ → Option ScopeFault
refused code at = Some (fault.Refused code at 0 0)

-- ---- trees
abbrev pub entry : ℕ → ℕ → REntry
entry number width = roll-REntry (record { source = source.Table number; width = width })

abbrev pub grouped : List REntry → List RCond → Grouping → Option RCond → List RVal → RQuery
grouped entries conds grouping having items = query.Block (roll-RBlock (record {
  distinct = false;
  entries = entries;
  conds = conds;
  grouping = grouping;
  having = having;
  items = items;
}))

abbrev pub plain : List REntry → List RCond → List RVal → RQuery
plain entries conds items = grouped entries conds grouping.Plain None items
