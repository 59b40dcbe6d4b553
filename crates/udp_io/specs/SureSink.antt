-- What a sink in memory that never fails keeps and tells.
use Rattle.std.specs.Prelude.{ℕ, ◌-◌, ◌||◌, nat_lt, Bool, false, List, [], ◌++◌, Option, Some, None, length, take, if◌then◌else◌}

-- the bytes that it keeps, how many it keeps at most, and whether more came
pub record FaultlessSink : Type 0 where
  pub kept : List ℕ
  pub room : ℕ
  pub is_over : Bool

abbrev pub empty_sure_sink : ℕ → FaultlessSink
empty_sure_sink room = record { kept = []; room = room; is_over = false }

-- what was written, which it tells while no more came than it keeps
abbrev pub sure_written : FaultlessSink → Option (List ℕ)
sure_written sink = if sink.is_over then None else Some sink.kept

-- the sink after these bytes
abbrev pub with_bytes : FaultlessSink → List ℕ → FaultlessSink
with_bytes sink bytes = record {
  kept = take sink.room (sink.kept ++ bytes);
  room = sink.room;
  is_over = sink.is_over || nat_lt (sink.room - length sink.kept) (length bytes);
}
