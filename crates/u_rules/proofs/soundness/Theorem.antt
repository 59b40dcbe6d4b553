-- Every rule is sound.
use Rattle.std.proofs.Common.{◌≡◌, ℕ, ◌<◌, List, [], Some, None, refl, subst, Result, Ok, Err}
use Rattle.data_model.specs.Lists.{Each}
use Rattle.data_model.specs.Rows.{AllBelow}
use Rattle.data_model.specs.Reading.{Reading, IsOn}
use Rattle.data_model.specs.Database.{Database}
use Rattle.u_terms.specs.Syntax.{U}
use Rattle.u_terms.specs.Meaning.{meaning}
use Rattle.u_terms.specs.declared.facts.Facts.{Facts}
use Rattle.u_terms.specs.Facts.{FactsOk, MeetsFacts}
use Rattle.u_rules.specs.declared.rule.Arg.{Arg}
use Rattle.u_rules.specs.declared.rule.Rule.{Rule}
use Rattle.u_rules.specs.declared.rule.Rule.TheVariants as rule
use Rattle.u_rules.specs.declared.rule.InstanceFault.{InstanceFault}
use Rattle.u_rules.specs.Terms.{◌⊗◌}
use Rattle.u_rules.specs.Rows.{row, IsClosedArg, body_places, Instance, LeavesAgree}
use Rattle.u_rules.specs.Sides.{SameMeaning, FixesSquare, Answers, AreSound}
use Rattle.u_rules.proofs.soundness.Sound as s

module _ (n : ℕ) (reading : Reading) (db : Database) (names : List ℕ) (F : Facts) (some : 0 < n) (on : IsOn n reading) (named : AllBelow n names) (ok : FactsOk F) (meets : MeetsFacts F n db) where
  abbrev means : U → ℕ
  means x = meaning n reading db names [] x

  abbrev Rests : Rule → U → U → Type 0
  Rests rule.AddAc l r = LeavesAgree rule.AddAc l r
  Rests rule.MulAc l r = LeavesAgree rule.MulAc l r
  Rests rule.SqFix l r = means (r ⊗ r) ≡ means r
  Rests _ l r = Unit {0}

  sound : (q : Rule) (k : ℕ) (args : List Arg) → Each (IsClosedArg k) args → s.Good n reading db names (Rests q) k (row F q args)
  sound rule.AddAc k args c = s.sound-AddAc n reading db names F k args c
  sound rule.MulAc k args c = s.sound-MulAc n reading db names F k args c
  sound rule.MulZero k args c = s.sound-MulZero n reading db names F k args c
  sound rule.Distr k args c = s.sound-Distr n reading db names F k args c
  sound rule.SqZero k args c = s.sound-SqZero n reading db names F k args c
  sound rule.SqOne k args c = s.sound-SqOne n reading db names F k args c
  sound rule.SqAdd k args c = s.sound-SqAdd n reading db names F k args c
  sound rule.SqMul k args c = s.sound-SqMul n reading db names F k args c
  sound rule.SqDup k args c = s.sound-SqDup n reading db names F k args c
  sound rule.SqAbs k args c = s.sound-SqAbs n reading db names F k args c
  sound rule.SqFix k args c = s.sound-SqFix n reading db names F k args c
  sound rule.SqPart k args c = s.sound-SqPart n reading db names F k args c
  sound rule.SqEq k args c = s.sound-SqEq n reading db names F k args c
  sound rule.SqPred k args c = s.sound-SqPred n reading db names F k args c
  sound rule.NotZero k args c = s.sound-NotZero n reading db names F k args c
  sound rule.NotOne k args c = s.sound-NotOne n reading db names F k args c
  sound rule.NotMul k args c = s.sound-NotMul n reading db names F k args c
  sound rule.NotAdd k args c = s.sound-NotAdd n reading db names F k args c
  sound rule.NotSq k args c = s.sound-NotSq n reading db names F k args c
  sound rule.SqNot k args c = s.sound-SqNot n reading db names F k args c
  sound rule.NotSelf k args c = s.sound-NotSelf n reading db names F k args c
  sound rule.NotNot k args c = s.sound-NotNot n reading db names F k args c
  sound rule.Split k args c = s.sound-Split n reading db names F k args c
  sound rule.SumZero k args c = s.sound-SumZero n reading db names F k args c
  sound rule.SumAdd k args c = s.sound-SumAdd n reading db names F k args c
  sound rule.SumSwap k args c = s.sound-SumSwap n reading db names F k args c
  sound rule.SumMul k args c = s.sound-SumMul n reading db names F k args c
  sound rule.SumSq k args c = s.sound-SumSq n reading db names F k args c
  sound rule.SumPoint k args c = s.sound-SumPoint n reading db names F k args c some on named
  sound rule.SumUse k args c = s.sound-SumUse n reading db names F k args c some on named
  sound rule.EqRefl k args c = s.sound-EqRefl n reading db names F k args c
  sound rule.EqSym k args c = s.sound-EqSym n reading db names F k args c
  sound rule.EqSubst k args c = s.sound-EqSubst n reading db names F k args c
  sound rule.EqSplit k args c = s.sound-EqSplit n reading db names F k args c
  sound rule.Key k args c = s.sound-Key n reading db names F k args c ok meets
  sound rule.Fkey k args c = s.sound-Fkey n reading db names F k args c ok meets

  rests : (q : Rule) (l r : U) → LeavesAgree q l r → (q ≡ rule.SqFix → means (r ⊗ r) ≡ means r) → Rests q l r
  rests rule.AddAc l r h f = h
  rests rule.MulAc l r h f = h
  rests rule.MulZero l r h f = tt
  rests rule.Distr l r h f = tt
  rests rule.SqZero l r h f = tt
  rests rule.SqOne l r h f = tt
  rests rule.SqAdd l r h f = tt
  rests rule.SqMul l r h f = tt
  rests rule.SqDup l r h f = tt
  rests rule.SqAbs l r h f = tt
  rests rule.SqFix l r h f = f refl
  rests rule.SqPart l r h f = tt
  rests rule.SqEq l r h f = tt
  rests rule.SqPred l r h f = tt
  rests rule.NotZero l r h f = tt
  rests rule.NotOne l r h f = tt
  rests rule.NotMul l r h f = tt
  rests rule.NotAdd l r h f = tt
  rests rule.NotSq l r h f = tt
  rests rule.SqNot l r h f = tt
  rests rule.NotSelf l r h f = tt
  rests rule.NotNot l r h f = tt
  rests rule.Split l r h f = tt
  rests rule.SumZero l r h f = tt
  rests rule.SumAdd l r h f = tt
  rests rule.SumSwap l r h f = tt
  rests rule.SumMul l r h f = tt
  rests rule.SumSq l r h f = tt
  rests rule.SumPoint l r h f = tt
  rests rule.SumUse l r h f = tt
  rests rule.EqRefl l r h f = tt
  rests rule.EqSym l r h f = tt
  rests rule.EqSubst l r h f = tt
  rests rule.EqSplit l r h f = tt
  rests rule.Key l r h f = tt
  rests rule.Fkey l r h f = tt

  pub sound-Instance : (q : Rule) (args : List Arg) (l r : U) → Instance F q args l r → (q ≡ rule.SqFix → means (r ⊗ r) ≡ means r) → means l ≡ means r
  sound-Instance q args l r i f =
      let good : s.Good n reading db names (Rests q) (body_places q args) (Some (record { fault = None; left = l; right = r }))
      = subst (s.Good n reading db names (Rests q) (body_places q args)) i.row (sound q (body_places q args) args i.closed) in
      good refl (rests q l r i.leaves f)

pub sides-mean : (F : Facts) → FactsOk F → (q : Rule) (args : List Arg) (l r : U) → Instance F q args l r → FixesSquare F q r → SameMeaning F l r
sides-mean F ok q args l r i f n reading db names some on named meets =
    sound-Instance n reading db names F some on named ok meets q args l r i (λ e. f e n reading db names some on named meets)

pub sound-answer : (F : Facts) → FactsOk F → (q : Rule) (args : List Arg) (r : Result (U × U) InstanceFault) → Answers F q args r → AreSound F q r
sound-answer F ok q args (Ok p) h = λ f. sides-mean F ok q args p.0 p.1 h f
sound-answer F ok q args (Err e) h = tt

pub ruleset laws = (sides-mean)
