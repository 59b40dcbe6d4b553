-- The names of the rules as they are written, and what arguments each takes. The names are told apart byte by byte.
use Rattle.std.specs.Prelude.{ℕ, Bool, true, false, List, [], ◌∷◌, codes}
use Rattle.u_rules.specs.declared.rule.Rule.{Rule}
use Rattle.u_rules.specs.declared.rule.Rule.TheVariants.{AddAc, MulAc, MulZero, Distr, SqZero, SqOne, SqAdd, SqMul, SqDup, SqAbs, SqFix, SqPart, SqEq, SqPred, NotZero, NotOne, NotMul, NotAdd, NotSq, SqNot, NotSelf, NotNot, Split, SumZero, SumAdd, SumSwap, SumMul, SumSq, SumPoint, SumUse, EqRefl, EqSym, EqSubst, EqSplit, Key, Fkey}
use Rattle.proof_text.specs.declared.kinds.Kind.{Kind}
use Rattle.proof_text.specs.declared.kinds.Kind.TheVariants.{Term, Body, Value, Values, Num}
use Rattle.proof_text.specs.Signs.{Sign}
use Rattle.proof_text.specs.Signs as s

-- names that begin alike
pub data Names : Type 0 where
  found : Rule → Names
  -- these bytes, and then the rest of a name
  word : List ℕ → Names → Names
  -- this sign and then a name of the one sort, or else one of the other
  either : Sign → Names → Names → Names

unfoldable pub mul_names : Names
mul_names = either s.SmallA (word (codes "c") (found MulAc)) (word (codes "zero") (found MulZero))

unfoldable pub squash_names : Names
squash_names =
    either s.SmallZ (word (codes "ero") (found SqZero)) (
    either s.SmallO (word (codes "ne") (found SqOne)) (
    either s.SmallA (either s.SmallD (word (codes "d") (found SqAdd)) (word (codes "bs") (found SqAbs))) (
    either s.SmallM (word (codes "ul") (found SqMul)) (
    either s.SmallD (word (codes "up") (found SqDup)) (
    either s.SmallF (word (codes "ix") (found SqFix)) (
    either s.SmallP (either s.SmallA (word (codes "rt") (found SqPart)) (word (codes "red") (found SqPred))) (
    either s.SmallE (word (codes "q") (found SqEq)) (word (codes "not") (found SqNot)))))))))

unfoldable pub sum_names : Names
sum_names =
    either s.SmallZ (word (codes "ero") (found SumZero)) (
    either s.SmallA (word (codes "dd") (found SumAdd)) (
    either s.SmallS (either s.SmallW (word (codes "ap") (found SumSwap)) (word (codes "q") (found SumSq))) (
    either s.SmallM (word (codes "ul") (found SumMul)) (
    either s.SmallP (word (codes "oint") (found SumPoint)) (word (codes "use") (found SumUse))))))

unfoldable pub not_names : Names
not_names =
    either s.SmallZ (word (codes "ero") (found NotZero)) (
    either s.SmallO (word (codes "ne") (found NotOne)) (
    either s.SmallM (word (codes "ul") (found NotMul)) (
    either s.SmallA (word (codes "dd") (found NotAdd)) (
    either s.SmallS (either s.SmallQ (found NotSq) (word (codes "elf") (found NotSelf))) (word (codes "not") (found NotNot))))))

unfoldable pub eq_names : Names
eq_names =
    either s.SmallR (word (codes "efl") (found EqRefl)) (
    word (codes "s") (either s.SmallY (word (codes "m") (found EqSym)) (
    either s.SmallU (word (codes "bst") (found EqSubst)) (word (codes "plit") (found EqSplit)))))

unfoldable pub s_names : Names
s_names =
    either s.SmallQ (word (codes "_") squash_names) (
    either s.SmallP (word (codes "lit") (found Split)) (word (codes "um_") sum_names))

unfoldable pub names : Names
names =
    either s.SmallA (word (codes "dd_ac") (found AddAc)) (
    either s.SmallM (word (codes "ul_") mul_names) (
    either s.SmallD (word (codes "istr") (found Distr)) (
    either s.SmallS s_names (
    either s.SmallN (word (codes "ot_") not_names) (
    either s.SmallE (word (codes "q_") eq_names) (
    either s.SmallK (word (codes "ey") (found Key)) (word (codes "fkey") (found Fkey))))))))

abbrev pub kinds_of : Rule → List Kind
kinds_of AddAc = Term ∷ Term ∷ []
kinds_of MulAc = Term ∷ Term ∷ []
kinds_of MulZero = Term ∷ []
kinds_of Distr = Term ∷ Term ∷ Term ∷ []
kinds_of SqZero = []
kinds_of SqOne = Term ∷ []
kinds_of SqAdd = Term ∷ Term ∷ []
kinds_of SqMul = Term ∷ Term ∷ []
kinds_of SqDup = Term ∷ []
kinds_of SqAbs = Term ∷ []
kinds_of SqFix = Term ∷ []
kinds_of SqPart = Term ∷ Term ∷ []
kinds_of SqEq = Value ∷ Value ∷ []
kinds_of SqPred = Num ∷ Values ∷ []
kinds_of NotZero = []
kinds_of NotOne = []
kinds_of NotMul = Term ∷ Term ∷ []
kinds_of NotAdd = Term ∷ Term ∷ []
kinds_of NotSq = Term ∷ []
kinds_of SqNot = Term ∷ []
kinds_of NotSelf = Term ∷ []
kinds_of NotNot = Term ∷ []
kinds_of Split = Term ∷ []
kinds_of SumZero = []
kinds_of SumAdd = Body ∷ Body ∷ []
kinds_of SumSwap = Num ∷ Num ∷ Body ∷ []
kinds_of SumMul = Term ∷ Body ∷ []
kinds_of SumSq = Body ∷ []
kinds_of SumPoint = Value ∷ Body ∷ []
kinds_of SumUse = Value ∷ Body ∷ []
kinds_of EqRefl = Value ∷ []
kinds_of EqSym = Value ∷ Value ∷ []
kinds_of EqSubst = Value ∷ Value ∷ Body ∷ []
kinds_of EqSplit = Value ∷ Value ∷ []
kinds_of Key = Num ∷ Num ∷ Values ∷ Values ∷ []
kinds_of Fkey = Num ∷ Values ∷ []

-- whether inner steps follow
abbrev pub has_inner : Rule → Bool
has_inner SqFix = true
has_inner _ = false
