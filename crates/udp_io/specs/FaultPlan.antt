-- A plan of which calls of a store or a sink in memory fail.
use Rattle.std.specs.Prelude.{ℕ, ◌+◌, ◌-◌, ◌^◌, ◌==◌, Bool, List, [], ◌∷◌, ◌++◌, min, if◌then◌else◌}
use Rattle.std.specs.List.{list_any}

-- the number of the next call, the numbers of the calls that are to fail, and how many calls have failed
pub record Plan : Type 0 where
  pub call : ℕ
  pub failing : List ℕ
  pub faults : ℕ

-- no call is to fail, and none was made
abbrev pub no_plan : Plan
no_plan = record { call = 0; failing = []; faults = 0 }

-- the next call is to fail
abbrev pub fails_next : Plan → Bool
fails_next plan = list_any (λ listed. listed == plan.call) plan.failing

-- this call is to fail too
abbrev pub with_failing : Plan → ℕ → Plan
with_failing plan call = record plan { failing = plan.failing ++ call ∷ [] }

-- a count after one more, which stops at the last value of a u64
abbrev pub next : ℕ → ℕ
next n = min (n + 1) (2 ^ 64 - 1)

-- the plan after a call, which failed or did not
abbrev pub after_call : Plan → Bool → Plan
after_call plan failed = record plan {
  call = next plan.call;
  faults = if failed then next plan.faults else plan.faults;
}
