-- Tables of values, and the calls among them: contracts of private functions cite this.
use Rattle.std.specs.Prelude.{◌≡◌, ℕ, ◌≤◌, Bool, true, false, ◌&&◌, nat_eq, List, length, map, Option, None, Some, slice_get, cond}
use Rattle.std.specs.Cmp.Lexicographic.{pointwise}
use Rattle.u_terms.specs.Syntax.{Val}
use Rattle.u_terms.specs.declared.term.Val.TheVariants as v
use Rattle.u_equal.specs.declared.calls.Call.{Call}
use Rattle.u_equal.specs.declared.calls.Signature.{Signature}
use Rattle.u_equal.specs.declared.forest.Edge.{Edge}
use Rattle.u_equal.specs.Standing.{EachOnce, IsIn}
use Rattle.u_terms.specs.Syntax.{U}
use Rattle.u_rules.specs.Terms.{◌≐◌}
use Rattle.u_equal.specs.Joined.{FirstAt, State, label_at, label_now, pushed, IsProgress}

-- both lists have the same values, the second one each of them once
pub record AreValuesOf (standing values : List Val) : Type 0 where
  pub all : (a : Val) → IsIn a standing → IsIn a values
  pub only : (a : Val) → IsIn a values → IsIn a standing
  pub once : EachOnce values
  pub few : length values ≤ length standing

-- the sides of the equalities among the factors
abbrev pub HasSides : List U → List Val → Type 0
HasSides factors values = (factor : ℕ) (a b : Val) → slice_get factors factor ≡ Some (a ≐ b) → IsIn a values × IsIn b values

-- ---- calls
abbrev pub AreIn : List Val → List Val → Type 0
AreIn xs values = (x : Val) → IsIn x xs → IsIn x values

-- with a call its arguments are among the values
abbrev pub HasArguments : List Val → Type 0
HasArguments values = (f : ℕ) (xs : List Val) → IsIn (v.Fun f xs) values → AreIn xs values

-- the places of these values
abbrev pub ArePlaces : List Val → List Val → List ℕ → Type 0
ArePlaces values xs places = (length places ≡ length xs) × ((k : ℕ) (x : Val) (place : ℕ) → slice_get xs k ≡ Some x → slice_get places k ≡ Some place → FirstAt values x place)

-- the value at a place, by the places of its arguments
pub record IsCall (values : List Val) (c : Call) : Type 0 where
  pub from : List Val
  pub here : FirstAt values (v.Fun c.symbol from) c.place
  pub arguments : ArePlaces values from c.arguments

pub record AreCallsOf (values : List Val) (calls : List Call) : Type 0 where
  pub are : (k : ℕ) (c : Call) → slice_get calls k ≡ Some c → IsCall values c
  pub all : (place f : ℕ) (xs : List Val) → slice_get values place ≡ Some (v.Fun f xs) → (k : ℕ) × (c : Call) × (slice_get calls k ≡ Some c) × (c.place ≡ place)

-- ---- signatures
abbrev pub same_signature : Signature → Signature → Bool
same_signature s t = nat_eq s.symbol t.symbol && pointwise nat_eq s.classes t.classes

abbrev pub signature : (ℕ → ℕ) → Call → Signature
signature label c = record { symbol = c.symbol; classes = map label c.arguments }

-- what is known: where a signature leads to, a call had it by the labels of some time
abbrev pub IsKnown : List Val → State → (Signature → Option ℕ) → Type 0
IsKnown values s look = (g : Signature) (place : ℕ) → look g ≡ Some place
    → (c : Call) × (time : ℕ) × IsCall values c × (c.place ≡ place) × (time ≤ length s.edges) × (g ≡ signature (label_at s.edges time) c)

-- the signature that the call had before leads to a call that is in its class after
abbrev pub Finds : State → State → (Signature → Option ℕ) → Call → Type 0
Finds before after look c = (place : ℕ) × (look (signature (label_now before) c) ≡ Some place) × (label_now after place ≡ label_now after c.place)

abbrev pub Leads : State → (Signature → Option ℕ) → Call → Type 0
Leads s = Finds s s

-- what a signature leads to, or that it leads to this place from now on
abbrev pub IsNoted : Signature → ℕ → (Signature → Option ℕ) → (Signature → Option ℕ) → Option ℕ → Type 0
IsNoted g place before after (Some other) = (before g ≡ Some other) × (after ≡ before)
IsNoted g place before after None = (before g ≡ None) × ((q : Signature) → after q ≡ cond (same_signature g q) (Some place) (before q))

-- one call was joined with what is known, or is known from now on
pub record IsStep (c : Call) (before after : State) (look_before look_after : Signature → Option ℕ) (joined : Bool) : Type 0 where
  pub progress : IsProgress before.values before after
  pub known : IsKnown after.values after look_after
  pub pushes : joined ≡ true → (e : Edge) × (after ≡ pushed before e)
  pub stays : joined ≡ false → after ≡ before
  pub kept : (g : Signature) (place : ℕ) → look_before g ≡ Some place → look_after g ≡ Some place
  pub finds : Finds before after look_after c
