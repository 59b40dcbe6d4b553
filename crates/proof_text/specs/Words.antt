-- Numbers of 32 bits, as every term in a program has them: what is written of others is not read.
use Rattle.std.specs.Prelude.{◌<◌, ◌≤◌, ◌^◌}
use Rattle.data_model.specs.Lists.{Each}
use Rattle.u_terms.specs.Syntax.{U, Zero, One, Add, Mul, Squash, Not, Sum, Rel, Eq, Pred, Val, Bound, Free, Lit, Fun, Agg, Vals, NoVals, ValThen}
use Rattle.u_rules.specs.declared.rule.Arg.{Arg}
use Rattle.u_rules.specs.declared.rule.Arg.TheVariants.{Term, Body, Value, Values, Num}
use Rattle.u_deriv.specs.declared.run.Run.{Run}
use Rattle.u_deriv.specs.declared.run.Run.TheVariants.{Left, Right, Inside, Argument}

unfoldable mutual
  pub HasWords : U → Type 0
  HasWords Zero = Unit {0}
  HasWords One = Unit {0}
  HasWords (Add a b) = HasWords a × HasWords b
  HasWords (Mul a b) = HasWords a × HasWords b
  HasWords (Squash a) = HasWords a
  HasWords (Not a) = HasWords a
  HasWords (Sum body) = HasWords body
  HasWords (Rel table shape arguments) = (table < 2 ^ 32) × RowHasWords arguments
  HasWords (Eq a b) = ValueHasWords a × ValueHasWords b
  HasWords (Pred symbol shape arguments) = (symbol < 2 ^ 32) × RowHasWords arguments

  pub ValueHasWords : Val → Type 0
  ValueHasWords (Bound place) = place < 2 ^ 32
  ValueHasWords (Free name) = name < 2 ^ 32
  ValueHasWords (Lit literal) = literal < 2 ^ 32
  ValueHasWords (Fun symbol shape arguments) = (symbol < 2 ^ 32) × RowHasWords arguments
  ValueHasWords (Agg aggregate body) = (aggregate < 2 ^ 32) × HasWords body

  pub RowHasWords : {n : _} → Vals n → Type 0
  RowHasWords NoVals = Unit {0}
  RowHasWords (ValThen value rest) = ValueHasWords value × RowHasWords rest

abbrev pub ArgumentHasWords : Arg → Type 0
ArgumentHasWords (Term x) = HasWords x
ArgumentHasWords (Body f) = HasWords f
ArgumentHasWords (Value a) = ValueHasWords a
ArgumentHasWords (Values s) = Each ValueHasWords s
ArgumentHasWords (Num m) = m < 2 ^ 32

-- a run takes a turn at least
abbrev pub RunHasWord : Run → Type 0
RunHasWord (Left count) = (1 ≤ count) × (count < 2 ^ 32)
RunHasWord (Right count) = (1 ≤ count) × (count < 2 ^ 32)
RunHasWord (Inside count) = (1 ≤ count) × (count < 2 ^ 32)
RunHasWord (Argument index) = index < 2 ^ 32
