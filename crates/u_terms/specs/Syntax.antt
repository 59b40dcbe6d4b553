-- U-expressions and their values, by the names that definitions match on (Chu, Murphy, Roesch, Cheung and Suciu, "Axiomatic Foundations
-- and Algorithms for Deciding Semantic Equivalences of SQL Queries", PVLDB 11(11), 2018, section 3), in locally nameless form
-- (Charguéraud, "The Locally Nameless Representation", Journal of Automated Reasoning 49, 2012).
--     Vals n      n values in a row: NoVals, or ValThen value rest
-- A node with a list has before it the list's shape, which says how long the list is and no more: `Rel table shape arguments`.
-- A box is not seen: `Add a b`.
use Rattle.std.specs.Prelude.{ℕ, List}
use mathlib.Core.Former.{Count as Length, none_left, one_more, this, arity}
use Rattle.plain_data.specs.formers.list.List.{the_former}
use Rattle.u_terms.specs.declared.term.U.{U as TheU, Row_of-U, end_of-U, more_of-U}
use Rattle.u_terms.specs.declared.term.U.TheBlock.{shape-the_row-Val-1, hidden-the_row-Val-1}
use Rattle.u_terms.specs.declared.term.U.TheVariants as u
use Rattle.u_terms.specs.declared.term.Val.{Val as TheVal, Row_of-Val, end_of-Val, more_of-Val}
use Rattle.u_terms.specs.declared.term.Val.TheVariants as v

-- ---- the types
abbrev pub U : Type 0
U = TheU

abbrev pub Val : Type 0
Val = TheVal

abbrev pub Vals : Length → Type 0
Vals = Row_of-Val

-- how long a list is
abbrev pub Shape : Type 0
Shape = (the_former (this {0})).Shape

abbrev pub long : Shape → Length
long shape = arity (the_former (this {0})) shape

-- ---- values, and rows of them
pattern abbrev pub NoVals : Vals none_left
NoVals = end_of-Val

pattern abbrev pub ValThen : {n : Length} → Val → Vals n → Vals (one_more n)
ValThen value rest = more_of-Val value rest

pattern abbrev pub Bound : ℕ → Val
Bound place = v.Bound place

pattern abbrev pub Free : ℕ → Val
Free name = v.Free name

pattern abbrev pub Lit : ℕ → Val
Lit literal = v.Lit literal

pattern abbrev pub Fun : ℕ → (shape : Shape) → Vals (long shape) → Val
Fun symbol shape arguments = v.Fun' symbol shape arguments

pattern abbrev pub Agg : ℕ → U → Val
Agg aggregate body = v.Agg' aggregate tt (more_of-U body end_of-U)

-- ---- terms
pattern abbrev pub Zero : U
Zero = u.Zero

pattern abbrev pub One : U
One = u.One

pattern abbrev pub Add : U → U → U
Add a b = u.Add' tt (more_of-U a end_of-U) tt (more_of-U b end_of-U)

pattern abbrev pub Mul : U → U → U
Mul a b = u.Mul' tt (more_of-U a end_of-U) tt (more_of-U b end_of-U)

pattern abbrev pub Squash : U → U
Squash a = u.Squash' tt (more_of-U a end_of-U)

pattern abbrev pub Not : U → U
Not a = u.Not' tt (more_of-U a end_of-U)

pattern abbrev pub Sum : U → U
Sum body = u.Sum' tt (more_of-U body end_of-U)

pattern abbrev pub Rel : ℕ → (shape : Shape) → Vals (long shape) → U
Rel table shape arguments = u.Rel' table shape arguments

pattern abbrev pub Eq : Val → Val → U
Eq a b = u.Eq a b

pattern abbrev pub Pred : ℕ → (shape : Shape) → Vals (long shape) → U
Pred symbol shape arguments = u.Pred' symbol shape arguments

-- ---- what code writes
-- the shape and the row of a list
abbrev pub shape_of : List Val → Shape
shape_of values = shape-the_row-Val-1 values

abbrev pub row_of : (values : List Val) → Vals (long (shape_of values))
row_of values = hidden-the_row-Val-1 values

-- Code's constructors, `u.Add a b` and `u.Rel table values` of `TheVariants`, open to those above where a proof has this name on its
-- `unfolding` line.
unfoldable pub constructors : Unit {0}
unfolding
    denote.Hole.Carrier.hidden Rattle.u_terms.specs.declared.term.U.TheBlock.hidden-the_row-U-0
    Rattle.u_terms.specs.declared.term.U.TheBlock.shape-the_row-Val-1 Rattle.u_terms.specs.declared.term.U.TheBlock.hidden-the_row-Val-1
constructors = tt
