-- What a search for a derivation comes to.
use Rattle.std.specs.Prelude.{◌≡◌, ◌≢◌, ℕ, ◌≤◌, ◌<◌, ◌⊎◌, max, Bool, true, false, List, ◌++◌, length, Contains}
use Rattle.data_model.specs.Lists.{Each}
use Rattle.u_terms.specs.Size as size
use Rattle.u_terms.specs.Syntax.{U}
use Rattle.u_terms.specs.declared.facts.Facts.{Facts}
use Rattle.u_rules.specs.declared.rule.Rule.TheVariants as rule
use Rattle.u_rules.specs.Terms.{add_leaves}
use Rattle.u_deriv.specs.declared.step.Step.{Step, out-Step}
use Rattle.u_deriv.specs.Steps.{Replays}
use Rattle.u_moves.specs.Derivations.{Derivation, IsSound}
use Rattle.u_moves.specs.Turning.{turned_back}
use Rattle.u_congruence.specs.Congruence.{IsFromTo}
use Rattle.normal_form.specs.NormalTerms.{IsNormal}
use Rattle.u_normal.specs.Limits.{IsTooLarge}
use Rattle.u_normal.specs.Shaped.{KeepsSum}
use Rattle.shapes.specs.Shapes.{Shape}
use Rattle.shapes.specs.Small.{SmallQuery, columns_of, most_entries}
use Rattle.shapes.specs.Tried.{tried, tries}
use Rattle.shapes.specs.Unions.{AllAlike}
use Rattle.term_shapes.specs.BlockTerms.{HaveShapes}
use Rattle.term_shapes.specs.FewOnes.{HasFewOnes}
use Rattle.u_bag.specs.Pairs.{SomePassBudget}
use Rattle.proof_text.specs.StepLines.{lines_of, steps_in}
use Rattle.proof_text.specs.Written.{FitsRule, IsSmall as IsSmallArgument, IsWritable, proof_text}
use Rattle.proof_check.specs.Accepted.{AllFit}
use Rattle.proof_check.specs.Limits.{IsWithin, SidesAreSmall, most_steps, sizes_for}
use Rattle.u_prover.specs.declared.deciding.Outcome.{Outcome}
use Rattle.u_prover.specs.declared.deciding.Outcome.TheVariants.{Found, Unknown}
use Rattle.u_prover.specs.declared.simplifying.Ends.{Ends}
use Rattle.u_prover.specs.Costs.{IsCheap}

-- ---- the limits of a proof
-- bytes of a proof
abbrev pub most_proof_bytes : ℕ
most_proof_bytes = 1073741824

-- The steps lead from the first term to the last, and have a text, which is within its length. They pass no limit of a proof: in number, in the
-- inner proofs that are open at once, and in the nodes and depth of their arguments, of their sides, and of the terms that they lead to.
pub record KeepsLimits (d : Derivation) : Type 0 where
  pub written : Each FitsRule d.steps
  pub few : steps_in (lines_of d.steps) ≤ most_steps
  pub fit : AllFit d.facts 0 d.outs d.from d.steps d.to
  pub short : length (proof_text d.outs d.steps) ≤ most_proof_bytes

-- the step has no inner steps, and neither an argument nor a side of its row passes a limit
pub record IsSmallStep (facts : Facts) (step : Step) : Type 0 where
  pub plain : (out-Step step).rule ≢ rule.SqFix
  pub arguments : Each IsSmallArgument (out-Step step).args
  pub sides : SidesAreSmall (sizes_for facts step)

-- what is looked at before the text: the number of steps, what is stated of the terms on the way, and each step
pub record KeepsCounts (d : Derivation) : Type 0 where
  pub few : length d.steps ≤ most_steps
  pub within : IsWithin d.nodes d.depth
  pub small : Each (IsSmallStep d.facts) d.steps

-- the steps have a text, which is longer than that of a proof
pub record HasLongText (d : Derivation) : Type 0 where
  pub writable : Each IsWritable d.steps
  pub long : most_proof_bytes < length (proof_text d.outs d.steps)

-- it does not keep one of these counts, or its text is too long
abbrev pub PassesOne : Derivation → Type 0
PassesOne d = (KeepsCounts d → ⊥) ⊎ HasLongText d

-- ---- a derivation is found
-- a derivation from the left term to the right one, whose steps are a proof's
pub record IsFound (F : Facts) (names : ℕ) (left right : U) (d : Derivation) : Type 0 where
  pub facts : d.facts ≡ F
  pub outs : d.outs ≡ names
  pub from : d.from ≡ left
  pub to : d.to ≡ right
  pub limits : KeepsLimits d

-- ---- none is known
-- steps lead from the term to this one, which is in normal form
pub record IsNormalOf (F : Facts) (names : ℕ) (u reached : U) : Type 0 where
  pub steps : List Step
  pub replays : Replays F names u steps reached
  pub normal : IsNormal reached

-- a term on the way to a normal form is too large, or both lead to normal terms that differ
pub data AreApart (F : Facts) (names : ℕ) (left right : U) : Type 0 where
  left_too_large : (nodes : ℕ) → IsTooLarge F names left nodes → AreApart F names left right
  right_too_large : (nodes : ℕ) → IsTooLarge F names right nodes → AreApart F names left right
  normal_terms_differ : (down up : U) → IsNormalOf F names left down → IsNormalOf F names right up → down ≢ up → AreApart F names left right

-- A derivation leads from the left term to the right one, which passes a limit. Between sums of blocks that have shapes it costs no more than
-- one by way of normal forms, whose blocks are paired.
pub record PassesLimits (F : Facts) (names : ℕ) (left right : U) : Type 0 where
  pub deriv : Derivation
  pub leads : IsFromTo F names left right deriv
  pub sound : IsSound deriv
  pub passes : PassesOne deriv
  pub costs : IsCheap names left right deriv

-- For a block of a normal term that the left one leads to and one of the right's, the search for a pairing tries more lists of entries than the
-- budget has.
pub record IsSpent (F : Facts) (names : ℕ) (left right : U) (budget : ℕ) : Type 0 where
  pub down : U
  pub up : U
  pub left_leads : IsNormalOf F names left down
  pub right_leads : IsNormalOf F names right up
  pub passes : SomePassBudget names (add_leaves down) (add_leaves up) budget

-- ---- sums of blocks that are alike
-- no block has more columns than a step exchanges sums
abbrev pub HaveFewColumns : List Shape → Type 0
HaveFewColumns ss = (s : Shape) → Contains ss s → columns_of s.entries ≤ 2048

-- the blocks of the one sum can be paired with those of the other, each two alike
pub record AreAlikeSums (names : ℕ) (left right : U) : Type 0 where
  pub ss : List Shape
  pub ts : List Shape
  pub left_has : HaveShapes names left ss
  pub right_has : HaveShapes names right ts
  pub alike : AllAlike ss ts
  pub few : HaveFewColumns ss

-- some search for a pairing of two of these blocks tries more lists of entries than the budget has
pub record SomeSearchPasses (ss ts : List Shape) (budget : ℕ) : Type 0 where
  pub s : Shape
  pub t : Shape
  pub s_in : Contains ss s
  pub t_in : Contains ts t
  pub above : budget < tried s t

-- the budget has all lists of the entries of each block
abbrev pub IsEnough : List Shape → ℕ → Type 0
IsEnough ss budget = (s : Shape) → Contains ss s → tries (length s.entries) ≤ budget

-- What is promised: between sums of blocks that are alike and small, with no more factors 1 than they need, a derivation is found with such a
-- budget for the left one.
pub record IsPromised (names : ℕ) (left right : U) (budget : ℕ) : Type 0 where
  pub ss : List Shape
  pub ts : List Shape
  pub left_has : HaveShapes names left ss
  pub right_has : HaveShapes names right ts
  pub alike : AllAlike ss ts
  pub left_small : SmallQuery most_entries ss
  pub right_small : SmallQuery most_entries ts
  pub left_ones : HasFewOnes left
  pub right_ones : HasFewOnes right
  pub enough : IsEnough ss budget

-- A term on the way to a normal form is too large, or normal terms differ. Sums of blocks that are alike are missed only where the budget ended a
-- search, and of sums of blocks that have shapes this is said only where some search passes it.
pub record IsMissed (F : Facts) (names : ℕ) (left right : U) (budget : ℕ) (spent : Bool) : Type 0 where
  pub apart : AreApart F names left right
  pub beyond : AreAlikeSums names left right → spent ≡ true
  pub above : spent ≡ true → (ss ts : List Shape) → HaveShapes names left ss → HaveShapes names right ts → SomeSearchPasses ss ts budget

-- that the terms are the same only where they pass a limit
abbrev pub AreNoSmallTerm : U → U → Type 0
AreNoSmallTerm left right = left ≡ right → IsWithin (size.nodes left) (size.depth left) → ⊥

-- The budget is said to be spent only where a search passes it. Where both terms are the same and within the limits of a proof, one without a
-- step is found, and so is one that is promised.
pub record IsUnknown (F : Facts) (names : ℕ) (left right : U) (budget : ℕ) (spent : Bool) : Type 0 where
  pub spends : spent ≡ true → IsSpent F names left right budget
  pub differ : AreNoSmallTerm left right
  pub unpromised : IsPromised names left right budget → ⊥
  pub cause : IsMissed F names left right budget spent ⊎ ((spent ≡ false) × PassesLimits F names left right)

abbrev pub IsOutcome : Facts → ℕ → U → U → ℕ → Outcome → Type 0
IsOutcome facts outs left right budget (Found deriv) = IsFound facts outs left right deriv
IsOutcome facts outs left right budget (Unknown spent) = IsUnknown facts outs left right budget spent

-- ---- contracts of private functions alone cite these
-- of a derivation that keeps the limits, and of one that does not
pub record IsKept (d kept : Derivation) : Type 0 where
  pub is : kept ≡ d
  pub limits : KeepsLimits kept

pub record IsPassing (d : Derivation) : Type 0 where
  pub sound : IsSound d
  pub passes : PassesOne d

abbrev pub IsWithinLimits : Derivation → Outcome → Type 0
IsWithinLimits d (Found deriv) = IsKept d deriv
IsWithinLimits d (Unknown spent) = (spent ≡ false) × IsPassing d

-- the same of terms that may be the same and small
pub record IsNone (F : Facts) (names : ℕ) (left right : U) (budget : ℕ) (spent : Bool) : Type 0 where
  pub spends : spent ≡ true → IsSpent F names left right budget
  pub cause : IsMissed F names left right budget spent ⊎ ((spent ≡ false) × PassesLimits F names left right)

abbrev pub IsEnding : Facts → ℕ → U → U → ℕ → Outcome → Type 0
IsEnding facts outs left right budget (Found deriv) = IsFound facts outs left right deriv
IsEnding facts outs left right budget (Unknown spent) = IsNone facts outs left right budget spent

-- a term on the way to a normal form of this one is too large
pub record HasNoNormal (F : Facts) (names : ℕ) (u : U) : Type 0 where
  pub nodes : ℕ
  pub large : IsTooLarge F names u nodes

-- a derivation by these facts that ends in normal form; a sum of blocks that have shapes ends in one of the same shapes
pub record IsNormalEnd (F : Facts) (names : ℕ) (d : Derivation) : Type 0 where
  pub facts : d.facts ≡ F
  pub outs : d.outs ≡ names
  pub normal : IsNormal d.to
  pub keeps : (ss : List Shape) → HaveShapes names d.from ss → KeepsSum names ss d

-- the same, from this term
pub record IsMadeNormal (F : Facts) (names : ℕ) (u : U) (d : Derivation) : Type 0 where
  pub from : d.from ≡ u
  pub end : IsNormalEnd F names d

abbrev pub SomeHasNoNormal : Facts → ℕ → U → U → Type 0
SomeHasNoNormal F names left right = HasNoNormal F names left ⊎ HasNoNormal F names right

pub record AreEnds (F : Facts) (names : ℕ) (left right : U) (ends : Ends) : Type 0 where
  pub down : IsMadeNormal F names left ends.down
  pub up : IsMadeNormal F names right ends.up

-- the steps of the first derivation, and then those of the other one backward
pub record IsThere (first other d : Derivation) : Type 0 where
  pub steps : d.steps ≡ first.steps ++ turned_back other.steps
  pub nodes : d.nodes ≡ max first.nodes other.nodes
  pub depth : d.depth ≡ max first.depth other.depth

-- the same with one between them
pub record IsThrough (first between other d : Derivation) : Type 0 where
  pub steps : d.steps ≡ (first.steps ++ between.steps) ++ turned_back other.steps
  pub nodes : d.nodes ≡ max (max first.nodes between.nodes) other.nodes
  pub depth : d.depth ≡ max (max first.depth between.depth) other.depth
