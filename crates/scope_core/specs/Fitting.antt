-- When trees fit a schema and views: each base table and each view in them is there, and as wide as its entry says.
use Rattle.std.specs.Prelude.{ℕ, zero, suc, ◌≡◌, List, [], ◌∷◌, ◌++◌, length}
use Rattle.data_model.specs.Lists.{Has}
use Rattle.sql_model.specs.declared.schema.Relation.TheVariants as relation
use Rattle.sql_model.specs.Syntax.{Name}
use Rattle.sql_model.specs.Relations.{Relation}
use Rattle.scope_core.specs.Syntax.{RQuery}
use Rattle.scope_core.specs.Width.{width}
use Rattle.scope_core.specs.Sound.{IsSound}

-- a base table of this number and width
abbrev pub IsTableOf : ℕ → ℕ → Relation → Type 0
IsTableOf number wide (relation.Table table) = (table.number ≡ number) × (length table.columns ≡ wide)
IsTableOf number wide (relation.View query at) = ⊥

abbrev pub HasTable : List (Name × Relation) → ℕ → ℕ → Type 0
HasTable relations number wide = Has (λ r. IsTableOf number wide r.1) relations

-- the view at this place has this width
abbrev pub HasView : List RQuery → ℕ → ℕ → Type 0
HasView [] place wide = ⊥
HasView (tree ∷ rest) zero wide = width tree ≡ wide
HasView (tree ∷ rest) (suc place) wide = HasView rest place wide

-- a tree that stands by itself is sound, and fits these relations and views
abbrev pub IsSoundOver : List (Name × Relation) → List RQuery → RQuery → Type 0
IsSoundOver relations views tree = IsSound (HasTable relations) (HasView views) [] tree

-- each of these trees, over the views before it
abbrev pub AreSoundViews : List (Name × Relation) → List RQuery → List RQuery → Type 0
AreSoundViews relations earlier [] = Unit {0}
AreSoundViews relations earlier (tree ∷ rest) = IsSoundOver relations earlier tree × AreSoundViews relations (earlier ++ tree ∷ []) rest

-- ---- whatever base tables there are
-- a tree that stands by itself is sound, and fits these views
abbrev pub FitsViews : List RQuery → RQuery → Type 0
FitsViews views tree = IsSound (λ number wide. Unit {0}) (HasView views) [] tree

-- each of these trees fits the views before it
abbrev pub DoViewsFit : List RQuery → List RQuery → Type 0
DoViewsFit earlier [] = Unit {0}
DoViewsFit earlier (tree ∷ rest) = FitsViews earlier tree × DoViewsFit (earlier ++ tree ∷ []) rest
