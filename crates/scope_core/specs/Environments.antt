-- What a resolved tree is evaluated over. Blocks, entries and columns are known by their places, and no name is left.
use Rattle.std.specs.Prelude.{ℕ, zero, suc, List, [], ◌∷◌, get_or}
use Rattle.data_model.specs.Rows.{Row}
use Rattle.data_model.specs.Reading.{Reading}
use Rattle.data_model.specs.Database.{Database}

-- one row of each entry of FROM, in the order of FROM
abbrev pub Combination : Type 0
Combination = List Row

-- What one block offers: the rows of its entries; or, in the items and HAVING of a grouped block, the values of the group's columns and the
-- members of the group, and no rows.
pub record Frame : Type 0 where
  pub rows : Combination
  pub key : Row
  pub members : List Combination

-- the frames of the blocks around a place, the innermost first
abbrev pub Environment : Type 0
Environment = List Frame

-- the frame of a combination outside a group
abbrev pub frame_of : Combination → Frame
frame_of combination = record { rows = combination; key = []; members = [] }

-- the domain, what literals, functions, predicates and aggregates stand for, the base tables, and the rows of each view by its place
pub record World : Type 0 where
  pub size : ℕ
  pub reading : Reading
  pub db : Database
  pub views : List (List Row)

-- ---- columns
abbrev pub row_of : Combination → ℕ → Row
row_of combination entry = get_or combination entry []

abbrev pub rows_at : Environment → ℕ → Combination
rows_at [] up = []
rows_at (frame ∷ outer) zero = frame.rows
rows_at (frame ∷ outer) (suc up) = rows_at outer up

abbrev pub column_value : Environment → ℕ → ℕ → ℕ → ℕ
column_value env up entry col = get_or (row_of (rows_at env up) entry) col 0

-- ---- the innermost frame's key and members, and the frames around it
abbrev pub key_here : Environment → Row
key_here [] = []
key_here (frame ∷ outer) = frame.key

abbrev pub members_here : Environment → List Combination
members_here [] = []
members_here (frame ∷ outer) = frame.members

abbrev pub outer_frames : Environment → Environment
outer_frames [] = []
outer_frames (frame ∷ outer) = outer
