-- Columns by their places, and the keys of a table.
use Rattle.std.specs.Prelude.{ℕ, nat_eq, Bool, ◌&&◌, if◌then◌else◌, List, [], ◌∷◌, ◌++◌, map, length, find, position, Option, Some, None, option_and_then, unwrap_or}
use Rattle.std.specs.List.{list_any, list_all}
use Rattle.std.specs.Option.{option_map}
use Rattle.sql_model.specs.declared.statement.NameAt.{NameAt}
use Rattle.sql_model.specs.Syntax.{Name}
use Rattle.sql_model.specs.Columns.{same_name}

abbrev pub is_among : Name → List Name → Bool
is_among name names = list_any (λ other. same_name other name) names

abbrev pub is_named : Name → List NameAt → Bool
is_named name names = list_any (λ other. same_name other.name name) names

abbrev pub position_of : List Name → Name → Option ℕ
position_of columns name = position (λ other. same_name other name) columns

-- the place of the first column of this name; the width where there is none
abbrev pub place_in : List Name → Name → ℕ
place_in columns name = unwrap_or (position_of columns name) (length columns)

abbrev pub places_in : List Name → List NameAt → List ℕ
places_in columns names = map (λ n. place_in columns n.name) names

abbrev pub is_part : List ℕ → List ℕ → Bool
is_part xs ys = list_all (λ x. list_any (λ y. nat_eq y x) ys) xs

abbrev pub same_set : List ℕ → List ℕ → Bool
same_set xs ys = is_part xs ys && is_part ys xs

abbrev pub has_key : List (List ℕ) → List ℕ → Bool
has_key keys columns = list_any (same_set columns) keys

-- a key as it is written
pub record KeyRule : Type 0 where
  pub is_primary : Bool
  pub columns : List ℕ

-- the first primary key
abbrev pub primary_of : List KeyRule → Option (List ℕ)
primary_of rules = option_map (λ rule. rule.columns) (find (λ rule. rule.is_primary) rules)

-- this key where no earlier one has the same set of columns
abbrev pub if_new : List (List ℕ) → List ℕ → List (List ℕ) → List (List ℕ)
if_new earlier key others = if has_key earlier key then others else key ∷ others

-- the first key of each set of columns
abbrev pub first_of_each : List (List ℕ) → List (List ℕ) → List (List ℕ)
first_of_each earlier [] = []
first_of_each earlier (key ∷ keys) = if_new earlier key (first_of_each (earlier ++ key ∷ []) keys)

-- the primary key stands for a key of the same set of columns
abbrev pub stands_for : Option (List ℕ) → List ℕ → List ℕ
stands_for None key = key
stands_for (Some primary) key = if same_set primary key then primary else key

abbrev pub keys_from : Option (List ℕ) → List (List ℕ) → List (List ℕ)
keys_from primary keys = map (stands_for primary) (first_of_each [] keys)

abbrev pub keys_of : List KeyRule → List (List ℕ)
keys_of rules = keys_from (primary_of rules) (map (λ rule. rule.columns) rules)

abbrev pub place_of_key : List (List ℕ) → List ℕ → Option ℕ
place_of_key keys key = position (same_set key) keys

abbrev pub primary_place : List KeyRule → Option ℕ
primary_place rules = option_and_then (place_of_key (keys_of rules)) (primary_of rules)
