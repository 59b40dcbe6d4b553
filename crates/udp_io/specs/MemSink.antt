-- What a sink in memory that fails by a plan holds.
use Rattle.std.specs.Prelude.{ℕ, ◌-◌, ◌==◌, ◌||◌, Bool, List, [], length, min}
use Rattle.udp_io.specs.FaultPlan.{Plan, no_plan, fails_next}

-- what was written, the most bytes that are taken at once and in all, and which calls fail
pub record PlannedSink : Type 0 where
  pub bytes : List ℕ
  pub piece : ℕ
  pub room : ℕ
  pub plan : Plan

abbrev pub empty_sink : ℕ → ℕ → PlannedSink
empty_sink piece room = record { bytes = []; piece = piece; room = room; plan = no_plan }

-- a sink whose room is full fails, and so does a call that is listed
abbrev pub put_fails : PlannedSink → Bool
put_fails sink = fails_next sink.plan || (length sink.bytes == sink.room)

-- how many of these bytes the sink takes
abbrev pub put_count : PlannedSink → List ℕ → ℕ
put_count sink bytes = min (min (length bytes) sink.piece) (sink.room - length sink.bytes)
