-- A step at the root, and where rules apply.
use Rattle.std.proofs.Common.{◌≡◌, ℕ, ◌+◌, true, List, [], ◌∷◌, Option, Some, None, refl, inl}
use Rattle.std.specs.Prelude.{IsPermutation}
use Rattle.u_terms.specs.Syntax.{U, Val}
use Rattle.u_terms.specs.declared.facts.Facts.{Facts}
use Rattle.u_rules.specs.declared.faults.Misfit.{Misfit}
use Rattle.u_rules.specs.declared.rule.Arg.{Arg}
use Rattle.u_rules.specs.declared.rule.Arg.TheVariants.{Term, Body, Value, Values, Num}
use Rattle.u_rules.specs.declared.rule.Rule.{Rule}
use Rattle.u_rules.specs.declared.rule.Rule.TheVariants as rule
use Rattle.u_rules.specs.Terms.{add_leaves, mul_leaves}
use Rattle.u_rules.specs.Rows.{row_with, Instance, swap_fault, key_fault}
use Rattle.u_rules.proofs.arguments.SidesKept.{sides-closed, sides-below}
use Rattle.u_deriv.specs.declared.run.Run.{Run}
use Rattle.u_deriv.specs.declared.step.Step.{Step, roll-Step}
use Rattle.u_deriv.specs.Steps.{Rewrites}
use Rattle.u_moves.specs.Derivations.{IsKnown}
use Rattle.u_moves.proofs.steps.Elsewhere.{rewrites-at_root}
use Rattle.u_moves.specs.Moving.{IsKnownValue, AreKnownValues, Applies}

faultless : (w : Option Misfit) (l r : U) → w ≡ None → row_with w l r [] ≡ Some (record { fault = None; left = l; right = r })
faultless w l r e = rw e refl

module _ (F : Facts) (outs : ℕ) where
  pub applies-add_ac : (x : U) (y : U) → IsKnown 0 outs x → IsKnown 0 outs y → IsPermutation (add_leaves x) (add_leaves y) → Applies F outs rule.AddAc (Term x ∷ Term y ∷ [])
  applies-add_ac x y kx ky same = record { instance = record { row = refl; closed = (kx.closed, (ky.closed, tt)); leaves = same }; named = (kx.named, (ky.named, tt)); plain = λ e. absurd (cc) }

  pub applies-mul_ac : (x : U) (y : U) → IsKnown 0 outs x → IsKnown 0 outs y → IsPermutation (mul_leaves x) (mul_leaves y) → Applies F outs rule.MulAc (Term x ∷ Term y ∷ [])
  applies-mul_ac x y kx ky same = record { instance = record { row = refl; closed = (kx.closed, (ky.closed, tt)); leaves = same }; named = (kx.named, (ky.named, tt)); plain = λ e. absurd (cc) }

  pub applies-mul_zero : (x : U) → IsKnown 0 outs x → Applies F outs rule.MulZero (Term x ∷ [])
  applies-mul_zero x kx = record { instance = record { row = refl; closed = (kx.closed, tt); leaves = tt }; named = (kx.named, tt); plain = λ e. absurd (cc) }

  pub applies-distr : (x : U) (y : U) (z : U) → IsKnown 0 outs x → IsKnown 0 outs y → IsKnown 0 outs z → Applies F outs rule.Distr (Term x ∷ Term y ∷ Term z ∷ [])
  applies-distr x y z kx ky kz = record { instance = record { row = refl; closed = (kx.closed, (ky.closed, (kz.closed, tt))); leaves = tt }; named = (kx.named, (ky.named, (kz.named, tt))); plain = λ e. absurd (cc) }

  pub applies-sq_zero : Applies F outs rule.SqZero []
  applies-sq_zero = record { instance = record { row = refl; closed = tt; leaves = tt }; named = tt; plain = λ e. absurd (cc) }

  pub applies-sq_one : (x : U) → IsKnown 0 outs x → Applies F outs rule.SqOne (Term x ∷ [])
  applies-sq_one x kx = record { instance = record { row = refl; closed = (kx.closed, tt); leaves = tt }; named = (kx.named, tt); plain = λ e. absurd (cc) }

  pub applies-sq_add : (x : U) (y : U) → IsKnown 0 outs x → IsKnown 0 outs y → Applies F outs rule.SqAdd (Term x ∷ Term y ∷ [])
  applies-sq_add x y kx ky = record { instance = record { row = refl; closed = (kx.closed, (ky.closed, tt)); leaves = tt }; named = (kx.named, (ky.named, tt)); plain = λ e. absurd (cc) }

  pub applies-sq_mul : (x : U) (y : U) → IsKnown 0 outs x → IsKnown 0 outs y → Applies F outs rule.SqMul (Term x ∷ Term y ∷ [])
  applies-sq_mul x y kx ky = record { instance = record { row = refl; closed = (kx.closed, (ky.closed, tt)); leaves = tt }; named = (kx.named, (ky.named, tt)); plain = λ e. absurd (cc) }

  pub applies-sq_dup : (x : U) → IsKnown 0 outs x → Applies F outs rule.SqDup (Term x ∷ [])
  applies-sq_dup x kx = record { instance = record { row = refl; closed = (kx.closed, tt); leaves = tt }; named = (kx.named, tt); plain = λ e. absurd (cc) }

  pub applies-sq_abs : (x : U) → IsKnown 0 outs x → Applies F outs rule.SqAbs (Term x ∷ [])
  applies-sq_abs x kx = record { instance = record { row = refl; closed = (kx.closed, tt); leaves = tt }; named = (kx.named, tt); plain = λ e. absurd (cc) }

  pub applies-sq_part : (x : U) (y : U) → IsKnown 0 outs x → IsKnown 0 outs y → Applies F outs rule.SqPart (Term x ∷ Term y ∷ [])
  applies-sq_part x y kx ky = record { instance = record { row = refl; closed = (kx.closed, (ky.closed, tt)); leaves = tt }; named = (kx.named, (ky.named, tt)); plain = λ e. absurd (cc) }

  pub applies-sq_eq : (a : Val) (b : Val) → IsKnownValue outs a → IsKnownValue outs b → Applies F outs rule.SqEq (Value a ∷ Value b ∷ [])
  applies-sq_eq a b ka kb = record { instance = record { row = refl; closed = (ka.closed, (kb.closed, tt)); leaves = tt }; named = (ka.named, (kb.named, tt)); plain = λ e. absurd (cc) }

  pub applies-sq_pred : (p : ℕ) (s : List Val) → AreKnownValues outs s → Applies F outs rule.SqPred (Num p ∷ Values s ∷ [])
  applies-sq_pred p s ks = record { instance = record { row = refl; closed = (tt, (ks.closed, tt)); leaves = tt }; named = (tt, (ks.named, tt)); plain = λ e. absurd (cc) }

  pub applies-not_zero : Applies F outs rule.NotZero []
  applies-not_zero = record { instance = record { row = refl; closed = tt; leaves = tt }; named = tt; plain = λ e. absurd (cc) }

  pub applies-not_one : Applies F outs rule.NotOne []
  applies-not_one = record { instance = record { row = refl; closed = tt; leaves = tt }; named = tt; plain = λ e. absurd (cc) }

  pub applies-not_mul : (x : U) (y : U) → IsKnown 0 outs x → IsKnown 0 outs y → Applies F outs rule.NotMul (Term x ∷ Term y ∷ [])
  applies-not_mul x y kx ky = record { instance = record { row = refl; closed = (kx.closed, (ky.closed, tt)); leaves = tt }; named = (kx.named, (ky.named, tt)); plain = λ e. absurd (cc) }

  pub applies-not_add : (x : U) (y : U) → IsKnown 0 outs x → IsKnown 0 outs y → Applies F outs rule.NotAdd (Term x ∷ Term y ∷ [])
  applies-not_add x y kx ky = record { instance = record { row = refl; closed = (kx.closed, (ky.closed, tt)); leaves = tt }; named = (kx.named, (ky.named, tt)); plain = λ e. absurd (cc) }

  pub applies-not_sq : (x : U) → IsKnown 0 outs x → Applies F outs rule.NotSq (Term x ∷ [])
  applies-not_sq x kx = record { instance = record { row = refl; closed = (kx.closed, tt); leaves = tt }; named = (kx.named, tt); plain = λ e. absurd (cc) }

  pub applies-sq_not : (x : U) → IsKnown 0 outs x → Applies F outs rule.SqNot (Term x ∷ [])
  applies-sq_not x kx = record { instance = record { row = refl; closed = (kx.closed, tt); leaves = tt }; named = (kx.named, tt); plain = λ e. absurd (cc) }

  pub applies-not_self : (x : U) → IsKnown 0 outs x → Applies F outs rule.NotSelf (Term x ∷ [])
  applies-not_self x kx = record { instance = record { row = refl; closed = (kx.closed, tt); leaves = tt }; named = (kx.named, tt); plain = λ e. absurd (cc) }

  pub applies-not_not : (x : U) → IsKnown 0 outs x → Applies F outs rule.NotNot (Term x ∷ [])
  applies-not_not x kx = record { instance = record { row = refl; closed = (kx.closed, tt); leaves = tt }; named = (kx.named, tt); plain = λ e. absurd (cc) }

  pub applies-split : (x : U) → IsKnown 0 outs x → Applies F outs rule.Split (Term x ∷ [])
  applies-split x kx = record { instance = record { row = refl; closed = (kx.closed, tt); leaves = tt }; named = (kx.named, tt); plain = λ e. absurd (cc) }

  pub applies-sum_zero : Applies F outs rule.SumZero []
  applies-sum_zero = record { instance = record { row = refl; closed = tt; leaves = tt }; named = tt; plain = λ e. absurd (cc) }

  pub applies-sum_add : (f : U) (g : U) → IsKnown 1 outs f → IsKnown 1 outs g → Applies F outs rule.SumAdd (Body f ∷ Body g ∷ [])
  applies-sum_add f g kf kg = record { instance = record { row = refl; closed = (kf.closed, (kg.closed, tt)); leaves = tt }; named = (kf.named, (kg.named, tt)); plain = λ e. absurd (cc) }

  pub applies-sum_swap : (outer : ℕ) (inner : ℕ) (f : U) → IsKnown (outer + inner) outs f → swap_fault outer inner ≡ None → Applies F outs rule.SumSwap (Num outer ∷ Num inner ∷ Body f ∷ [])
  applies-sum_swap outer inner f kf fits = record { instance = record { row = faultless _ _ _ fits; closed = (tt, (tt, (kf.closed, tt))); leaves = tt }; named = (tt, (tt, (kf.named, tt))); plain = λ e. absurd (cc) }

  pub applies-sum_mul : (x : U) (f : U) → IsKnown 0 outs x → IsKnown 1 outs f → Applies F outs rule.SumMul (Term x ∷ Body f ∷ [])
  applies-sum_mul x f kx kf = record { instance = record { row = refl; closed = (kx.closed, (kf.closed, tt)); leaves = tt }; named = (kx.named, (kf.named, tt)); plain = λ e. absurd (cc) }

  pub applies-sum_sq : (f : U) → IsKnown 1 outs f → Applies F outs rule.SumSq (Body f ∷ [])
  applies-sum_sq f kf = record { instance = record { row = refl; closed = (kf.closed, tt); leaves = tt }; named = (kf.named, tt); plain = λ e. absurd (cc) }

  pub applies-sum_point : (e : Val) (f : U) → IsKnownValue outs e → IsKnown 1 outs f → Applies F outs rule.SumPoint (Value e ∷ Body f ∷ [])
  applies-sum_point e f ke kf = record { instance = record { row = refl; closed = (ke.closed, (kf.closed, tt)); leaves = tt }; named = (ke.named, (kf.named, tt)); plain = λ e. absurd (cc) }

  pub applies-sum_use : (e : Val) (f : U) → IsKnownValue outs e → IsKnown 1 outs f → Applies F outs rule.SumUse (Value e ∷ Body f ∷ [])
  applies-sum_use e f ke kf = record { instance = record { row = refl; closed = (ke.closed, (kf.closed, tt)); leaves = tt }; named = (ke.named, (kf.named, tt)); plain = λ e. absurd (cc) }

  pub applies-eq_refl : (a : Val) → IsKnownValue outs a → Applies F outs rule.EqRefl (Value a ∷ [])
  applies-eq_refl a ka = record { instance = record { row = refl; closed = (ka.closed, tt); leaves = tt }; named = (ka.named, tt); plain = λ e. absurd (cc) }

  pub applies-eq_sym : (a : Val) (b : Val) → IsKnownValue outs a → IsKnownValue outs b → Applies F outs rule.EqSym (Value a ∷ Value b ∷ [])
  applies-eq_sym a b ka kb = record { instance = record { row = refl; closed = (ka.closed, (kb.closed, tt)); leaves = tt }; named = (ka.named, (kb.named, tt)); plain = λ e. absurd (cc) }

  pub applies-eq_subst : (a : Val) (b : Val) (f : U) → IsKnownValue outs a → IsKnownValue outs b → IsKnown 1 outs f → Applies F outs rule.EqSubst (Value a ∷ Value b ∷ Body f ∷ [])
  applies-eq_subst a b f ka kb kf = record { instance = record { row = refl; closed = (ka.closed, (kb.closed, (kf.closed, tt))); leaves = tt }; named = (ka.named, (kb.named, (kf.named, tt))); plain = λ e. absurd (cc) }

  pub applies-eq_split : (a : Val) (b : Val) → IsKnownValue outs a → IsKnownValue outs b → Applies F outs rule.EqSplit (Value a ∷ Value b ∷ [])
  applies-eq_split a b ka kb = record { instance = record { row = refl; closed = (ka.closed, (kb.closed, tt)); leaves = tt }; named = (ka.named, (kb.named, tt)); plain = λ e. absurd (cc) }

  pub applies-key : (t : ℕ) (i : ℕ) (s : List Val) (r : List Val) → AreKnownValues outs s → AreKnownValues outs r → key_fault F t i s r ≡ None → Applies F outs rule.Key (Num t ∷ Num i ∷ Values s ∷ Values r ∷ [])
  applies-key t i s r ks kr fits = record { instance = record { row = faultless _ _ _ fits; closed = (tt, (tt, (ks.closed, (kr.closed, tt)))); leaves = tt }; named = (tt, (tt, (ks.named, (kr.named, tt)))); plain = λ e. absurd (cc) }

pub ruleset applies = (
  applies-add_ac,
  applies-mul_ac,
  applies-mul_zero,
  applies-distr,
  applies-sq_zero,
  applies-sq_one,
  applies-sq_add,
  applies-sq_mul,
  applies-sq_dup,
  applies-sq_abs,
  applies-sq_part,
  applies-sq_eq,
  applies-sq_pred,
  applies-not_zero,
  applies-not_one,
  applies-not_mul,
  applies-not_add,
  applies-not_sq,
  applies-sq_not,
  applies-not_self,
  applies-not_not,
  applies-split,
  applies-sum_zero,
  applies-sum_add,
  applies-sum_swap,
  applies-sum_mul,
  applies-sum_sq,
  applies-sum_point,
  applies-sum_use,
  applies-eq_refl,
  applies-eq_sym,
  applies-eq_subst,
  applies-eq_split,
  applies-key,
)

-- ---- a step at the root
module _ (F : Facts) (outs : ℕ) (q : Rule) (args : List Arg) (applies : Applies F outs q args) (l r : U) (i : Instance F q args l r) where
  pub root-known : IsKnown 0 outs l
  root-known =
      let closed = sides-closed F q args l r i in
      let named = sides-below outs F q args l r i applies.named in
      record { closed = closed.0; named = named.0 }

  pub root-made : (path : List Run) (inner : List Step) → path ≡ [] → inner ≡ []
      → Rewrites F outs l (roll-Step (record { path = path; forward = true; rule = q; args = args; inner = inner })) r
  root-made path inner ep ei = rw (ep, ei) (rewrites-at_root F outs q args [] l r i applies.named (inl (applies.plain, refl)))
