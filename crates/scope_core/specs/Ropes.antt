-- Columns by their parts: the list that a rope stands for, and what a look-up in it rests on.
use Rattle.std.specs.Prelude.{◌≡◌, ◌^◌, ℕ, nat_eq, nat_lt, Bool, true, not, ◌||◌, ◌&&◌, List, [], ◌∷◌, ◌++◌, length, Option, Some, None, option_map}
use Rattle.std.specs.Borrow.{Bor}
use Rattle.std.specs.List.{list_any}
use mathlib.Core.Former.{Count as Length, none_left, one_more, this, arity}
use Rattle.plain_data.specs.formers.list.List.{the_former}
use Rattle.sql_model.specs.Syntax.{Name}
use Rattle.sql_model.specs.Frames.{ColumnName}
use Rattle.sql_model.specs.Columns.{is_called}
use Rattle.scope_core.specs.declared.relation_set.RelationSet.{RelationSet}
use Rattle.scope_core.specs.declared.rope.Extent.{Extent}
use Rattle.scope_core.specs.declared.rope.Part.{Part}
use Rattle.scope_core.specs.declared.rope.Rope as rope
use Rattle.scope_core.specs.declared.rope.Rope.{Rope}
use Rattle.scope_core.specs.declared.rope.Rope.TheBlock as node
use Rattle.scope_core.specs.declared.rope.Rope.TheVariants as v
use Rattle.scope_core.specs.RelationSets.{empty, has_number, same_set, union_of, with_number}

-- ---- a rope, by the names that the definitions match on
abbrev pub Parts : Length → Type 0
Parts = rope.Row_of-Part

-- how long a list is
abbrev pub Shape : Type 0
Shape = (the_former (this {0})).Shape

abbrev pub long : Shape → Length
long s = arity (the_former (this {0})) s

pattern abbrev pub One : Option (Bor Name) → Rope
One name = v.One name

pattern abbrev pub Named : List ColumnName → Rope
Named names = v.Named names

pattern abbrev pub Relation : Rope → ℕ → Extent → Rope
Relation inside number extent = v.Relation' tt (rope.more_of-Rope inside rope.end_of-Rope) number extent

pattern abbrev pub Joined : (s : Shape) → Parts (long s) → Extent → Rope
Joined s parts extent = v.Joined' s parts extent

pattern abbrev pub NoParts : Parts none_left
NoParts = rope.end_of-Part

pattern abbrev pub PartThen : {n : Length} → Rope → Parts n → Parts (one_more n)
PartThen part rest = rope.more_of-Part tt (rope.more_of-Rope part rope.end_of-Rope) rest

-- ---- its columns
unfoldable mutual
  pub columns_in : Rope → List ColumnName
  columns_in (One name) = option_map (λ n. n.now) name ∷ []
  columns_in (Named names) = names
  columns_in (Relation inside number extent) = columns_in inside
  columns_in (Joined s parts extent) = parts_columns parts

  pub parts_columns : {n : Length} → Parts n → List ColumnName
  parts_columns NoParts = []
  parts_columns (PartThen part rest) = columns_in part ++ parts_columns rest

-- the relations that are its parts
abbrev pub shown_in : Rope → RelationSet
shown_in (One name) = empty
shown_in (Named names) = empty
shown_in (Relation inside number extent) = extent.shown
shown_in (Joined s parts extent) = extent.shown

abbrev pub parts_shown : {n : Length} → Parts n → RelationSet
parts_shown NoParts = empty
parts_shown (PartThen part rest) = union_of (shown_in part) (parts_shown rest)

-- a rope has as many columns as it says, and its parts are the relations that it says
unfoldable mutual
  pub is_sound : Rope → Bool
  is_sound (One name) = true
  is_sound (Named names) = true
  is_sound (Relation inside number extent) =
      nat_eq extent.width (length (columns_in inside)) && (same_set extent.shown (with_number (shown_in inside) number) && is_sound inside)
  is_sound (Joined s parts extent) =
      nat_eq extent.width (length (parts_columns parts))
      && (nat_lt extent.width (2 ^ 64) && (same_set extent.shown (parts_shown parts) && are_sound parts))

  pub are_sound : {n : Length} → Parts n → Bool
  are_sound NoParts = true
  are_sound (PartThen part rest) = is_sound part && are_sound rest

-- whether a name stands only in parts of relations that declare it, or, where it may stand outside of relations, there
unfoldable mutual
  pub stands_among : RelationSet → Bool → Name → Rope → Bool
  stands_among declared outside name (One own) = outside || not (list_any (is_called name) (option_map (λ n. n.now) own ∷ []))
  stands_among declared outside name (Named names) = outside || not (list_any (is_called name) names)
  stands_among declared outside name (Relation inside number extent) = stands_among declared (has_number declared number) name inside
  stands_among declared outside name (Joined s parts extent) = stand_among declared outside name parts

  pub stand_among : {n : Length} → RelationSet → Bool → Name → Parts n → Bool
  stand_among declared outside name NoParts = true
  stand_among declared outside name (PartThen part rest) = stands_among declared outside name part && stand_among declared outside name rest

-- ---- of parts as code has them, in a list
abbrev pub parts_row : (parts : List Part) → Parts (long (node.shape-the_row-Part-1 parts))
parts_row parts = node.hidden-the_row-Part-1 parts

unfoldable pub columns_listed : List Part → List ColumnName
columns_listed parts = parts_columns (parts_row parts)

unfoldable pub shown_listed : List Part → RelationSet
shown_listed parts = parts_shown (parts_row parts)

unfoldable pub are_listed_sound : List Part → Bool
are_listed_sound parts = are_sound (parts_row parts)

unfoldable pub stand_listed : RelationSet → Bool → Name → List Part → Bool
stand_listed declared outside name parts = stand_among declared outside name (parts_row parts)

abbrev pub part_of : Rope → Part
part_of rope = record { rope = rope }

-- ---- of a rope, or of no columns
abbrev pub columns_within : Option Rope → List ColumnName
columns_within None = []
columns_within (Some rope) = columns_in rope

abbrev pub is_sound_within : Option Rope → Bool
is_sound_within None = true
is_sound_within (Some rope) = is_sound rope

abbrev pub stands_within : RelationSet → Bool → Name → Option Rope → Bool
stands_within declared outside name None = true
stands_within declared outside name (Some rope) = stands_among declared outside name rope

-- the columns of a relation of this number
abbrev pub relation_within : ℕ → Option Rope → Option Rope
relation_within number None = None
relation_within number (Some inside) = Some (v.Relation inside number (record { width = length (columns_in inside); shown = with_number (shown_in inside) number }))

-- ---- where a name stands
-- A name stands only in parts of relations that declare it, or, where `outside` has it, outside of relations.
abbrev pub IsDirected : (Name → RelationSet) → (Name → Bool) → Option Rope → Type 0
IsDirected declared outside rope = (name : Name) → stands_within (declared name) (outside name) name rope ≡ true

abbrev pub AreDirectedParts : (Name → RelationSet) → (Name → Bool) → List Part → Type 0
AreDirectedParts declared outside parts = (name : Name) → stand_listed (declared name) (outside name) name parts ≡ true
