-- What writing does to what a sink holds, where the sink tells it, and to what is pending: bytes that were written and not yet handed on.
use Rattle.std.specs.Prelude.{◌≡◌, ℕ, ◌≤◌, Bool, true, false, List, ◌++◌, Option}
use Rattle.udp_io.specs.Faults.{Rose}
use Rattle.udp_io.specs.Writing.{Grows, GrowsByPrefix}

-- the bytes that are pending, and whether the sink has failed
pub record Unsent : Type 0 where
  pub bytes : List ℕ
  pub failed : Bool

-- the text was written: what was pending and it were appended to the sink, but for what is pending now
pub record Sends (old new : Option (List ℕ)) (pending text left : List ℕ) : Type 0 where
  pub sent : List ℕ
  pub grows : Grows old new sent
  pub same : sent ++ left ≡ pending ++ text

-- The text was written, or the sink failed and holds a part of it. After it has failed it is left alone.
pub record Writes (old new : Option (List ℕ)) (before now : ℕ) (p : Unsent) (text : List ℕ) (q : Unsent) : Type 0 where
  pub later : before ≤ now
  pub holds : q.failed ≡ false → (p.failed ≡ false) × Sends old new p.bytes text q.bytes
  pub fails : q.failed ≡ true → p.failed ≡ false → GrowsByPrefix old new (p.bytes ++ text) × Rose before now
  pub stays : p.failed ≡ true → (q.failed ≡ true) × (new ≡ old)
