-- Two terms that mean the same wherever the facts are met, and what a call that answers an instance says.
use Rattle.std.specs.Prelude.{ℕ, ◌≡◌, ◌<◌, Bool, true, false, MatchBool, List, [], Option, Some, None, Result, Ok, Err}
use Rattle.data_model.specs.Lists.{Each}
use Rattle.data_model.specs.Reading.{Reading, IsOn}
use Rattle.data_model.specs.Rows.{AllBelow}
use Rattle.data_model.specs.Database.{Database}
use Rattle.u_terms.specs.Syntax.{U}
use Rattle.u_terms.specs.Meaning.{meaning}
use Rattle.u_terms.specs.Binding.{closed_path}
use Rattle.u_terms.specs.Facts.{MeetsFacts}
use Rattle.u_terms.specs.Names.{EachName, EachNameValue}
use Rattle.u_terms.specs.declared.facts.Facts.{Facts}
use Rattle.u_rules.specs.declared.rule.Arg.{Arg}
use Rattle.u_rules.specs.declared.rule.Arg.TheVariants.{Term, Body, Value, Values, Num}
use Rattle.u_rules.specs.declared.rule.Rule.{Rule}
use Rattle.u_rules.specs.declared.rule.Rule.TheVariants as rule
use Rattle.u_rules.specs.declared.rule.Why.{Why}
use Rattle.u_rules.specs.declared.rule.Why.TheVariants as why
use Rattle.u_rules.specs.declared.rule.InstanceFault.{InstanceFault}
use Rattle.u_rules.specs.declared.rule.InstanceFault.TheVariants.{BadInstance, NoMemory}
use Rattle.u_rules.specs.declared.faults.Misfit.{Misfit}
use Rattle.u_rules.specs.Misfits.{why_of}
use Rattle.u_rules.specs.Terms.{◌⊗◌}
use Rattle.u_rules.specs.Rows.{Row, row, AreClosed, LeavesAgree, Instance}

abbrev pub SameMeaning : Facts → U → U → Type 0
SameMeaning F l r =
    (n : ℕ) (reading : Reading) (db : Database) (names : List ℕ) → 0 < n → IsOn n reading → AllBelow n names → MeetsFacts F n db
    → meaning n reading db names [] l ≡ meaning n reading db names [] r

-- what the inner steps of `sq_fix` show
abbrev pub FixesSquare : Facts → Rule → U → Type 0
FixesSquare F q x = q ≡ rule.SqFix → SameMeaning F (x ⊗ x) x

abbrev pub HasInstance : Facts → Rule → List Arg → Type 0
HasInstance F q args = (l : U) × (r : U) × Instance F q args l r

-- ---- why there is no instance: the first reason that holds
-- closed arguments of the right kinds, with this row
pub record HasRow (F : Facts) (q : Rule) (args : List Arg) (wrong : Option Misfit) (l r : U) : Type 0 where
  pub row : row F q args ≡ Some (record { fault = wrong; left = l; right = r })
  pub closed : AreClosed q args

abbrev pub Refused : Facts → Rule → List Arg → Why → Type 0
Refused F q args why.ArgKinds = row F q args ≡ None
Refused F q args why.NotClosed = (r : Row) × (row F q args ≡ Some r) × (AreClosed q args → ⊥)
Refused F q args why.LeavesDiffer = (l : U) × (r : U) × HasRow F q args None l r × (LeavesAgree q l r → ⊥)
Refused F q args w = (misfit : Misfit) × (why_of misfit ≡ w) × (l : U) × (r : U) × HasRow F q args (Some misfit) l r

abbrev pub Answers : Facts → Rule → List Arg → Result (U × U) InstanceFault → Type 0
Answers F q args (Ok p) = Instance F q args p.0 p.1
Answers F q args (Err (BadInstance w)) = Refused F q args w
Answers F q args (Err NoMemory) = Unit {0}

-- one side of two
abbrev pub side_of : Bool → U → U → U
side_of false l r = l
side_of true l r = r

-- whether a term in place is this side of the instance, the names from `first` on closed
abbrev pub TellsSide : Facts → Rule → List Arg → Bool → U → ℕ → ℕ → Result Bool InstanceFault → Type 0
TellsSide F q args turned part first count (Ok b) =
    (l : U) × (r : U) × Instance F q args l r × MatchBool b (part ≡ closed_path (side_of turned l r) first count) (part ≡ closed_path (side_of turned l r) first count → ⊥)
TellsSide F q args turned part first count (Err (BadInstance w)) = Refused F q args w
TellsSide F q args turned part first count (Err NoMemory) = Unit {0}

-- the sides mean the same, for `sq_fix` where its inner steps show what they must
abbrev pub AreSound : Facts → Rule → Result (U × U) InstanceFault → Type 0
AreSound F q (Ok p) = FixesSquare F q p.1 → SameMeaning F p.0 p.1
AreSound F q (Err fault) = Unit {0}

-- ---- the free names of arguments
-- P holds of each
abbrev pub HasNames : (ℕ → Type 0) → Arg → Type 0
HasNames P (Term x) = EachName P x
HasNames P (Body f) = EachName P f
HasNames P (Value a) = EachNameValue P a
HasNames P (Values s) = Each (EachNameValue P) s
HasNames P (Num m) = Unit {0}

abbrev pub AreNamed : ℕ → List Arg → Type 0
AreNamed bound = Each (HasNames (λ name. name < bound))
