-- The arguments that a rule has a row for are of the kinds that the rule names.
use Rattle.std.proofs.Common.{◌≡◌, List, [], ◌∷◌, Option, Some, None}
use Rattle.std.specs.Prelude.{slice_get}
use Rattle.u_terms.specs.Syntax.{Val}
use Rattle.u_terms.specs.declared.facts.Facts.{Facts}
use Rattle.u_terms.specs.declared.facts.Fkey.{Fkey}
use Rattle.u_rules.specs.declared.rule.Arg.{Arg}
use Rattle.u_rules.specs.declared.rule.Arg.TheVariants.{Term, Body, Value, Values, Num}
use Rattle.u_rules.specs.declared.rule.Rule.{Rule}
use Rattle.u_rules.specs.declared.rule.Rule.TheVariants as rule
use Rattle.u_rules.specs.Rows.{Row, row, fkey_row}
use Rattle.proof_text.specs.RuleNames.{kinds_of}
use Rattle.proof_text.specs.Written.{AreOf}

fkey-ends : (F : Facts) (key : Option Fkey) (s : List Val) (a : Arg) (rest : List Arg) (r : Row) → fkey_row F key s (a ∷ rest) ≡ Some r → ⊥
fkey-ends F None s a rest r e = cc e
fkey-ends F (Some key) s a rest r e = cc e

module _ (F : Facts) (r : Row) where
  pub row-kinds : (q : Rule) (args : List Arg) → row F q args ≡ Some r → AreOf (kinds_of q) args
  row-kinds rule.AddAc (Term x ∷ Term y ∷ []) e = (tt, (tt, tt))
  row-kinds rule.AddAc _ e = absurd (cc e)
  row-kinds rule.MulAc (Term x ∷ Term y ∷ []) e = (tt, (tt, tt))
  row-kinds rule.MulAc _ e = absurd (cc e)
  row-kinds rule.MulZero (Term x ∷ []) e = (tt, tt)
  row-kinds rule.MulZero _ e = absurd (cc e)
  row-kinds rule.Distr (Term x ∷ Term y ∷ Term z ∷ []) e = (tt, (tt, (tt, tt)))
  row-kinds rule.Distr _ e = absurd (cc e)
  row-kinds rule.SqZero [] e = tt
  row-kinds rule.SqZero _ e = absurd (cc e)
  row-kinds rule.SqOne (Term x ∷ []) e = (tt, tt)
  row-kinds rule.SqOne _ e = absurd (cc e)
  row-kinds rule.SqAdd (Term x ∷ Term y ∷ []) e = (tt, (tt, tt))
  row-kinds rule.SqAdd _ e = absurd (cc e)
  row-kinds rule.SqMul (Term x ∷ Term y ∷ []) e = (tt, (tt, tt))
  row-kinds rule.SqMul _ e = absurd (cc e)
  row-kinds rule.SqDup (Term x ∷ []) e = (tt, tt)
  row-kinds rule.SqDup _ e = absurd (cc e)
  row-kinds rule.SqAbs (Term x ∷ []) e = (tt, tt)
  row-kinds rule.SqAbs _ e = absurd (cc e)
  row-kinds rule.SqFix (Term x ∷ []) e = (tt, tt)
  row-kinds rule.SqFix _ e = absurd (cc e)
  row-kinds rule.SqPart (Term x ∷ Term y ∷ []) e = (tt, (tt, tt))
  row-kinds rule.SqPart _ e = absurd (cc e)
  row-kinds rule.SqEq (Value x ∷ Value y ∷ []) e = (tt, (tt, tt))
  row-kinds rule.SqEq _ e = absurd (cc e)
  row-kinds rule.SqPred (Num x ∷ Values y ∷ []) e = (tt, (tt, tt))
  row-kinds rule.SqPred _ e = absurd (cc e)
  row-kinds rule.NotZero [] e = tt
  row-kinds rule.NotZero _ e = absurd (cc e)
  row-kinds rule.NotOne [] e = tt
  row-kinds rule.NotOne _ e = absurd (cc e)
  row-kinds rule.NotMul (Term x ∷ Term y ∷ []) e = (tt, (tt, tt))
  row-kinds rule.NotMul _ e = absurd (cc e)
  row-kinds rule.NotAdd (Term x ∷ Term y ∷ []) e = (tt, (tt, tt))
  row-kinds rule.NotAdd _ e = absurd (cc e)
  row-kinds rule.NotSq (Term x ∷ []) e = (tt, tt)
  row-kinds rule.NotSq _ e = absurd (cc e)
  row-kinds rule.SqNot (Term x ∷ []) e = (tt, tt)
  row-kinds rule.SqNot _ e = absurd (cc e)
  row-kinds rule.NotSelf (Term x ∷ []) e = (tt, tt)
  row-kinds rule.NotSelf _ e = absurd (cc e)
  row-kinds rule.NotNot (Term x ∷ []) e = (tt, tt)
  row-kinds rule.NotNot _ e = absurd (cc e)
  row-kinds rule.Split (Term x ∷ []) e = (tt, tt)
  row-kinds rule.Split _ e = absurd (cc e)
  row-kinds rule.SumZero [] e = tt
  row-kinds rule.SumZero _ e = absurd (cc e)
  row-kinds rule.SumAdd (Body x ∷ Body y ∷ []) e = (tt, (tt, tt))
  row-kinds rule.SumAdd _ e = absurd (cc e)
  row-kinds rule.SumSwap (Num x ∷ Num y ∷ Body z ∷ []) e = (tt, (tt, (tt, tt)))
  row-kinds rule.SumSwap _ e = absurd (cc e)
  row-kinds rule.SumMul (Term x ∷ Body y ∷ []) e = (tt, (tt, tt))
  row-kinds rule.SumMul _ e = absurd (cc e)
  row-kinds rule.SumSq (Body x ∷ []) e = (tt, tt)
  row-kinds rule.SumSq _ e = absurd (cc e)
  row-kinds rule.SumPoint (Value x ∷ Body y ∷ []) e = (tt, (tt, tt))
  row-kinds rule.SumPoint _ e = absurd (cc e)
  row-kinds rule.SumUse (Value x ∷ Body y ∷ []) e = (tt, (tt, tt))
  row-kinds rule.SumUse _ e = absurd (cc e)
  row-kinds rule.EqRefl (Value x ∷ []) e = (tt, tt)
  row-kinds rule.EqRefl _ e = absurd (cc e)
  row-kinds rule.EqSym (Value x ∷ Value y ∷ []) e = (tt, (tt, tt))
  row-kinds rule.EqSym _ e = absurd (cc e)
  row-kinds rule.EqSubst (Value x ∷ Value y ∷ Body z ∷ []) e = (tt, (tt, (tt, tt)))
  row-kinds rule.EqSubst _ e = absurd (cc e)
  row-kinds rule.EqSplit (Value x ∷ Value y ∷ []) e = (tt, (tt, tt))
  row-kinds rule.EqSplit _ e = absurd (cc e)
  row-kinds rule.Key (Num x ∷ Num y ∷ Values z ∷ Values w ∷ []) e = (tt, (tt, (tt, (tt, tt))))
  row-kinds rule.Key _ e = absurd (cc e)
  row-kinds rule.Fkey (Num i ∷ Values s ∷ []) e = (tt, (tt, tt))
  row-kinds rule.Fkey (Num i ∷ Values s ∷ a ∷ rest) e = absurd (fkey-ends F (slice_get F.fkeys i) s a rest r e)
  row-kinds rule.Fkey _ e = absurd (cc e)
