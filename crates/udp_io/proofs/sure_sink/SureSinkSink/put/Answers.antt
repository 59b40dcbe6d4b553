use Rattle.std.proofs.Common.{◌≡◌, ◌++◌, ◌-◌, ◌≤◌, List, ℕ, length, take, min, arith}
use Rattle.std.proofs.Math.Seq.{take-append-add}
use Rattle.std.proofs.lemmas.List.{take_min}
use Rattle.udp_io.proofs.sure_sink.SureSinkSink.put.Goals as goal

-- what is kept of some bytes when the first ones that fit are appended
take-append_min : (room : ℕ) (kept bytes : List ℕ) → length kept ≤ room → take room (kept ++ bytes) ≡ kept ++ take (min (length bytes) (room - length kept)) bytes
take-append_min room kept bytes fits = grind (arith, take-append-add kept bytes (room - length kept), take_min (room - length kept) bytes)

pub returns-clause-after : goal.returns-clause-after
returns-clause-after c = grind (arith, take-append_min)
