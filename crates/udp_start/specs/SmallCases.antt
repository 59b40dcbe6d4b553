-- Cases of two filtered unions, and what is promised of small ones that are alike.
use Rattle.std.specs.Prelude.{◌≡◌, ℕ, ◌⊎◌, List, Option, IsSomeAnd}
use Rattle.sql_model.specs.declared.schema.Schema.{Schema}
use Rattle.scope_core.specs.ViewTrees.{tree_of}
use Rattle.block_shapes.specs.Classes.{Alike, FilteredUnion, Small}
use Rattle.case_core.specs.declared.text.CaseText.{CaseText}
use Rattle.u_prover.specs.Proving.{IsEnough}
use Rattle.udp_run.specs.declared.answer.Status.{Status}
use Rattle.udp_run.specs.declared.answer.Status.TheVariants as status
use Rattle.udp_run.specs.Cases.{AreComparable, Spells}

-- the text spells a schema and two queries, which are comparable, and whose trees are filtered unions
pub record IsUnionCase (text : List ℕ) : Type 0 where
  pub schema : Schema
  pub written : CaseText
  pub spelled : Spells text schema written
  pub comparable : AreComparable schema written
  pub of_left : FilteredUnion (tree_of schema written.left)
  pub of_right : FilteredUnion (tree_of schema written.right)

-- the same of unions that are small and alike
pub record IsSmallAlike (text : List ℕ) : Type 0 where
  pub schema : Schema
  pub written : CaseText
  pub spelled : Spells text schema written
  pub comparable : AreComparable schema written
  pub alike : Alike (tree_of schema written.left) (tree_of schema written.right)
  pub small : Small (tree_of schema written.left) (tree_of schema written.right)

-- and the budget has all lists of the entries of each block of the left query
pub record IsPromised (budget : ℕ) (text : List ℕ) : Type 0 where
  pub unions : IsSmallAlike text
  pub enough : IsEnough unions.alike.of_left.shapes budget

-- where the text is told
abbrev pub IsSmallAlikeCase : Option (List ℕ) → Type 0
IsSmallAlikeCase case = IsSomeAnd case IsSmallAlike

abbrev pub IsPromisedCase : ℕ → Option (List ℕ) → Type 0
IsPromisedCase budget case = IsSomeAnd case (IsPromised budget)

-- done, unless the store or the sink fails or memory runs out: the exit status is 0, 5, 6 or 8
abbrev pub IsDoneOrFault : Status → Type 0
IsDoneOrFault answer = (answer ≡ status.Done) ⊎ ((answer ≡ status.ReadFault) ⊎ ((answer ≡ status.WriteFault) ⊎ (answer ≡ status.NoMemory)))
