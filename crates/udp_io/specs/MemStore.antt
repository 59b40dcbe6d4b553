-- What a store in memory that fails by a plan means as a store.
use Rattle.std.specs.Prelude.{ℕ, List, Option, Some, IsSome}
use Rattle.udp_io.specs.FaultPlan.{Plan, no_plan}
use Rattle.udp_io.specs.Texts.{NamedTexts, no_texts, text_of, place_of, IsSelected}

-- its texts, the most bytes that are taken at once, and which calls fail
pub record PlannedStore : Type 0 where
  pub texts : NamedTexts
  pub piece : ℕ
  pub plan : Plan

abbrev pub empty_store : ℕ → PlannedStore
empty_store piece = record { texts = no_texts; piece = piece; plan = no_plan }

abbrev pub store_text : PlannedStore → List ℕ → Option (List ℕ)
store_text store name = Some (text_of store.texts name)

abbrev pub store_left : PlannedStore → Option (List ℕ)
store_left store = Some store.texts.left

-- a text of this name is there, and it is the selected one
abbrev pub IsUsable : PlannedStore → List ℕ → Type 0
IsUsable store name = IsSelected store.texts name × IsSome (place_of store.texts name)

-- one count for every name
abbrev pub store_faults : PlannedStore → List ℕ → ℕ
store_faults store name = store.plan.faults
