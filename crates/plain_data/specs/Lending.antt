-- What a `Boxed`, a `Kept` and a `List` hold once the borrow of what they lent is over.
use Rattle.std.specs.Prelude.{ℕ, List, ◌++◌, length, take, drop, slice_set}
use Rattle.std.specs.Borrow.{Lends, MutBor, Fml, RattleType, Array}
use Rattle.plain_data.specs.contracts.boxed.Boxed as boxed
use Rattle.plain_data.specs.contracts.kept.Kept as kept
use Rattle.plain_data.specs.contracts.list.List as list

-- the box holds what was written
abbrev pub LendsInner : (R : RattleType) → MutBor R.Denot → MutBor R.Denot → Fml
LendsInner R lender lent = Lends (boxed.the_row R) R lender lent (λ written. written)

-- what is kept is what was written
abbrev pub LendsKept : (R : RattleType) → MutBor R.Denot → MutBor R.Denot → Fml
LendsKept R lender lent = Lends (kept.the_row R) R lender lent (λ written. written)

-- A list with others written over its front. Behind a `&mut` slice both have one length, and the others are all that is left;
-- the law of a loan asks for a list of that length at any length of what was written.
abbrev pub overlaid : {A : Type 0} → List A → List A → List A
overlaid items written = take (length items) (written ++ drop (length written) items)

abbrev pub LendsAll : (R : RattleType) → MutBor (List R.Denot) → MutBor (List R.Denot) → Fml
LendsAll R lender lent = Lends (list.the_row R) (Array R 0) lender lent (overlaid lender.now)

-- the list holds what was written at one index
abbrev pub LendsAt : (R : RattleType) → MutBor (List R.Denot) → ℕ → MutBor R.Denot → Fml
LendsAt R lender at lent = Lends (list.the_row R) R lender lent (λ written. slice_set lender.now at written)
