-- Ropes in which a name is sought by the relations that declare it, as they are made of those of entries.
use Rattle.std.specs.Prelude.{◌≡◌, Bool, true, false, List, Option, map}
use Rattle.std.specs.List.{list_any}
use Rattle.data_model.specs.Lists.{Each}
use Rattle.sql_model.specs.Columns.{is_called, same_name}
use Rattle.sql_model.specs.Headings.{Heading}
use Rattle.sql_model.specs.Syntax.{Name, Item, Star, AliasStar, Value}
use Rattle.scope_core.specs.declared.sources.DirectedEntry.{DirectedEntry}
use Rattle.scope_core.specs.declared.guide.Outside.{Outside}
use Rattle.scope_core.specs.declared.guide.Outside.TheVariants as outside
use Rattle.scope_core.specs.declared.relation_set.RelationSet.{RelationSet}
use Rattle.scope_core.specs.declared.rope.Rope.{Rope}
use Rattle.scope_core.specs.Ropes.{IsDirected, columns_within}

abbrev pub heading_in : DirectedEntry → Heading
heading_in entry = record { alias = entry.alias.now; columns = columns_within entry.columns }

abbrev pub headings_in : List DirectedEntry → List Heading
headings_in entries = map heading_in entries

abbrev pub AreDirected : (Name → RelationSet) → (Name → Bool) → List DirectedEntry → Type 0
AreDirected declared outside entries = Each (λ entry. IsDirected declared outside entry.columns) entries

-- directed by whatever directs these entries
abbrev pub IsMadeOf : List DirectedEntry → Option Rope → Type 0
IsMadeOf entries rope = (declared : Name → RelationSet) (outside : Name → Bool) → AreDirected declared outside entries → IsDirected declared outside rope

-- ---- what items show
-- whether an item stands for the columns of the entry of this alias, maybe beside others
abbrev pub is_star_of : Name → Item → Bool
is_star_of alias (Star at) = true
is_star_of alias (AliasStar called at) = same_name called alias
is_star_of alias (Value expr name) = false

abbrev pub is_shown : List Item → Name → Bool
is_shown items alias = list_any (is_star_of alias) items

-- ---- the names that may stand outside of relations
abbrev pub Widens : (Name → Bool) → (Name → Bool) → Type 0
Widens before after = (name : Name) → before name ≡ true → after name ≡ true

abbrev pub admits : Outside → Name → Bool
admits outside.Nothing name = false
admits outside.Anything name = true
admits (outside.Among names) name = list_any (is_called name) names
