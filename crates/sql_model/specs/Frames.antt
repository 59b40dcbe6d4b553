-- What a condition or an item sees while it is evaluated: the entries of FROM, each with the row that it has at the moment, block by
-- block (SQL, ISO/IEC 9075-2, 7.6 table reference: the range variables of a query and their scope).
use Rattle.std.specs.Prelude.{List, [], ◌∷◌, Option}
use Rattle.data_model.specs.Rows.{Row}
use Rattle.sql_model.specs.Syntax.{Name}

-- the name of an output column, where it has one
abbrev pub ColumnName : Type 0
ColumnName = Option Name

-- an entry of FROM: its alias, the names of its columns, and one of its rows
pub record BoundEntry : Type 0 where
  pub alias : Name
  pub columns : List ColumnName
  pub row : Row

-- One row of each entry of FROM, in the order of FROM.
abbrev pub Combination : Type 0
Combination = List BoundEntry

-- What one block offers. In the items and HAVING of a grouped block the entries have the rows of the group's first member, and `members` are
-- all members of the group; everywhere else `members` is empty.
pub record Frame : Type 0 where
  pub entries : Combination
  pub members : List Combination

-- the frames of the blocks around a place, the innermost first
abbrev pub Environment : Type 0
Environment = List Frame

-- the frame of a combination outside a group
abbrev pub frame_of : Combination → Frame
frame_of combination = record { entries = combination; members = [] }

-- ---- the innermost frame's entries and members, and the frames around it
abbrev pub entries_here : Environment → Combination
entries_here [] = []
entries_here (frame ∷ outer) = frame.entries

abbrev pub members_here : Environment → List Combination
members_here [] = []
members_here (frame ∷ outer) = frame.members

abbrev pub outer_frames : Environment → Environment
outer_frames [] = []
outer_frames (frame ∷ outer) = outer
