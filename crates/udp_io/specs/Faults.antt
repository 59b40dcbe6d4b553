-- Why a call of a store or a sink may fail: only where its count of faults rose.
use Rattle.std.specs.Prelude.{ℕ, ◌+◌, ◌-◌, ◌^◌, ◌≤◌, min, List, Result, OnErr}

-- a count rose by one at least, or stands at the last value of a u64
abbrev pub Rose : ℕ → ℕ → Type 0
Rose before now = min (before + 1) (2 ^ 64 - 1) ≤ now

-- the count did not fall in a call, and where the call failed it rose
pub record HasCause {T E : Type 0} (before now : ℕ) (result : Result T E) : Type 0 where
  pub later : before ≤ now
  pub failed : OnErr result (Rose before now)

-- the same for a count for each name: no count fell, and where the call failed, that of the name it was given rose
pub record HasCauseAt {T E : Type 0} (before now : List ℕ → ℕ) (name : List ℕ) (result : Result T E) : Type 0 where
  pub later : (other : List ℕ) → before other ≤ now other
  pub failed : OnErr result (Rose (before name) (now name))
