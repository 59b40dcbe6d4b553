-- The relations that a query can name, with the relations that declare each name.
use Rattle.std.specs.Prelude.{◌≡◌, ◌%◌, ℕ, true, false, List, Option, Some, None}
use Rattle.std.specs.Borrow.{Bor}
use Rattle.std.specs.Map.{lookup}
use Rattle.data_model.specs.Lists.{Each}
use Rattle.sql_model.specs.Syntax.{Name}
use Rattle.sql_model.specs.Columns.{same_name}
use Rattle.scope_core.specs.declared.catalog.Known.{Known as LentKnown}
use Rattle.scope_core.specs.declared.relation_set.RelationSet.{RelationSet}
use Rattle.scope_core.specs.Names.{is_one_of}
use Rattle.scope_core.specs.RelationSets.{Has, Includes, is_low}
use Rattle.scope_core.specs.Ropes.{IsDirected}

pub record Catalog : Type 0 where
  pub relations : List LentKnown
  pub declared : List (Bor Name × RelationSet)

-- ---- the relations that declare a name
abbrev pub or_none : Option RelationSet → RelationSet
or_none None = record { low = 0; high = 0 }
or_none (Some set) = set

abbrev pub declared_in : List (Bor Name × RelationSet) → Name → RelationSet
declared_in entries name = or_none (lookup (λ key. same_name name key.now) entries)

abbrev pub declared_by : Catalog → Name → RelationSet
declared_by catalog = declared_in catalog.declared

-- a name is declared by what declared it, and maybe by more
abbrev pub Grows : (Name → RelationSet) → (Name → RelationSet) → Type 0
Grows before after = (name : Name) → Includes (after name) (before name)

-- a relation of this number declares these names
abbrev pub IsDeclaredAt : (Name → RelationSet) → List (Bor Name) → ℕ → Type 0
IsDeclaredAt declared names number = (name : Name) → is_one_of names name ≡ true → Has (declared name) (is_low number) (number % 128)

-- ---- where names stand among the columns of relations, which are all declared
abbrev pub AreDirected : (Name → RelationSet) → List LentKnown → Type 0
AreDirected declared relations = Each (λ known. IsDirected declared (λ name. false) known.columns) relations
