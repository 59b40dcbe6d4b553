-- The calls that wait to be looked at, and those that use a class: contracts of private functions cite this.
use Rattle.std.specs.Prelude.{◌≡◌, ◌⊎◌, ℕ, ◌-◌, Bool, true, false, List, [], Option, Some, slice_get, get_or, length}
use Rattle.u_equal.specs.declared.agenda.Agenda.{Agenda}
use Rattle.u_equal.specs.declared.calls.Call.{Call}
use Rattle.u_equal.specs.declared.calls.Signature.{Signature}
use Rattle.u_equal.specs.declared.forest.Edge.{Edge}
use Rattle.u_equal.specs.Standing.{IsIn}
use Rattle.u_equal.specs.Joined.{State, edge_at, label_at, label_now, pushed, IsProgress}
use Rattle.u_equal.specs.Tables.{Finds, IsKnown, Leads, signature}

-- ---- who uses a class
abbrev pub users_at : List (List ℕ) → ℕ → List ℕ
users_at users class = get_or users class []

-- the call with this number is among those that use the classes of its arguments
abbrev pub Uses : (ℕ → ℕ) → List (List ℕ) → ℕ → Call → Type 0
Uses label users number c = (place : ℕ) → IsIn place c.arguments → IsIn number (users_at users (label place))

abbrev pub EachUses : (ℕ → ℕ) → List (List ℕ) → List Call → Type 0
EachUses label users calls = (number : ℕ) (c : Call) → slice_get calls number ≡ Some c → Uses label users number c

-- all calls wait
abbrev pub EachWaits : List ℕ → List Call → Type 0
EachWaits waiting calls = (number : ℕ) (c : Call) → slice_get calls number ≡ Some c → IsIn number waiting

pub record IsBegun (places : ℕ) (label : ℕ → ℕ) (calls : List Call) (agenda : Agenda) : Type 0 where
  pub long : length agenda.users.items ≡ places
  pub uses : EachUses label agenda.users.items calls
  pub waits : EachWaits agenda.waiting calls

-- whoever used a class uses it still
abbrev pub StillUse : List (List ℕ) → List (List ℕ) → Type 0
StillUse before after = (class number : ℕ) → IsIn number (users_at before class) → IsIn number (users_at after class)

-- the call waits too, and uses its classes
pub record IsEntered (label : ℕ → ℕ) (number : ℕ) (c : Call) (before after : Agenda) : Type 0 where
  pub long : length after.users.items ≡ length before.users.items
  pub still : StillUse before.users.items after.users.items
  pub uses : Uses label after.users.items number c
  pub waits : IsIn number after.waiting
  pub others : (other : ℕ) → IsIn other before.waiting → IsIn other after.waiting

-- ---- what the last edge joined
abbrev pub last_time : State → ℕ
last_time s = length s.edges - 1

-- the class that it hung under another one, and that one
abbrev pub hung : State → ℕ
hung s = label_at s.edges (last_time s) (edge_at s.edges (last_time s)).right

abbrev pub above : State → ℕ
above s = label_at s.edges (last_time s) (edge_at s.edges (last_time s)).left

-- whoever used the one class uses the other one
pub record IsGathered (from to : ℕ) (before after : Agenda) (moved : List ℕ) : Type 0 where
  pub long : length after.users.items ≡ length before.users.items
  pub still : (class number : ℕ) → (class ≡ from → ⊥) → IsIn number (users_at before.users.items class) → IsIn number (users_at after.users.items class)
  pub moves : (number : ℕ) → IsIn number (users_at before.users.items from) → IsIn number (users_at after.users.items to) × IsIn number moved
  pub waiting : after.waiting ≡ before.waiting

-- the call waits, or the last edge left its signature as it was
abbrev pub WaitsOrKeeps : State → ℕ → Call → List ℕ → Type 0
WaitsOrKeeps s number c waiting = IsIn number waiting ⊎ (signature (label_at s.edges (last_time s)) c ≡ signature (label_now s) c)

abbrev pub StillWait : List ℕ → List ℕ → Type 0
StillWait before after = (number : ℕ) → IsIn number before → IsIn number after

pub record IsWokenCall (s : State) (number : ℕ) (c : Call) (before after : List ℕ) : Type 0 where
  pub waits : WaitsOrKeeps s number c after
  pub others : StillWait before after

-- the call with this number, if there is one
pub record IsWokenNumber (calls : List Call) (s : State) (number : ℕ) (before after : List ℕ) : Type 0 where
  pub waits : (c : Call) → slice_get calls number ≡ Some c → WaitsOrKeeps s number c after
  pub others : StillWait before after

pub record AreWoken (calls : List Call) (s : State) (numbers : List ℕ) (before after : List ℕ) : Type 0 where
  pub waits : (number : ℕ) (c : Call) → IsIn number numbers → slice_get calls number ≡ Some c → WaitsOrKeeps s number c after
  pub others : StillWait before after

-- whoever used the class that the last edge hung uses the one above it, and waits if that changed its signature
pub record IsWoken (calls : List Call) (s : State) (before after : Agenda) : Type 0 where
  pub long : length after.users.items ≡ length before.users.items
  pub still : (class number : ℕ) → (class ≡ hung s → ⊥) → IsIn number (users_at before.users.items class) → IsIn number (users_at after.users.items class)
  pub moves : (number : ℕ) → IsIn number (users_at before.users.items (hung s)) → IsIn number (users_at after.users.items (above s))
  pub waits : (number : ℕ) (c : Call) → IsIn number (users_at before.users.items (hung s)) → slice_get calls number ≡ Some c → WaitsOrKeeps s number c after.waiting
  pub others : StillWait before.waiting after.waiting

-- signatures that no call has any more may be forgotten
pub record IsForgotten (s : State) (before after : Signature → Option ℕ) : Type 0 where
  pub still : (c : Call) → after (signature (label_now s) c) ≡ before (signature (label_now s) c)
  pub only : (g : Signature) (place : ℕ) → after g ≡ Some place → before g ≡ Some place

-- ---- what was looked at
-- each call waits, or its signature leads to a call in its class
abbrev pub AreSettled : List Call → List ℕ → State → (Signature → Option ℕ) → Type 0
AreSettled calls waiting s look = (number : ℕ) (c : Call) → slice_get calls number ≡ Some c → IsIn number waiting ⊎ Leads s look c

-- or the signature did that it had before
abbrev pub AreAlmostSettled : List Call → List ℕ → State → State → (Signature → Option ℕ) → Type 0
AreAlmostSettled calls waiting before after look = (number : ℕ) (c : Call) → slice_get calls number ≡ Some c → IsIn number waiting ⊎ Finds before after look c

-- the call with this number, if there is one, was joined with what is known, or is known from now on
pub record IsLooked (calls : List Call) (number : ℕ) (before after : State) (look_before look_after : Signature → Option ℕ) (joined : Bool) : Type 0 where
  pub progress : IsProgress before.values before after
  pub known : IsKnown after.values after look_after
  pub pushes : joined ≡ true → (e : Edge) × (after ≡ pushed before e)
  pub stays : joined ≡ false → after ≡ before
  pub kept : (g : Signature) (place : ℕ) → look_before g ≡ Some place → look_after g ≡ Some place
  pub finds : (c : Call) → slice_get calls number ≡ Some c → Finds before after look_after c

-- of the calls that wait one was joined, or all were looked at
pub record IsNext (calls : List Call) (before after : State) (waiting : List ℕ) (look : Signature → Option ℕ) (joined : Bool) : Type 0 where
  pub progress : IsProgress before.values before after
  pub known : IsKnown after.values after look
  pub joins : joined ≡ true → (e : Edge) × (after ≡ pushed before e) × AreAlmostSettled calls waiting before after look
  pub settled : joined ≡ false → AreSettled calls [] after look
