-- Sums of blocks that have shapes, and what they are with the factors of each block by their kinds.
use Rattle.std.specs.Prelude.{◌≡◌, ℕ, ◌+◌, ◌≤◌, max, List, length}
use Rattle.data_model.specs.Lists.{Each}
use Rattle.u_terms.specs.Syntax.{U, Add, Sum}
use Rattle.u_terms.specs.Size.{nodes, depth}
use Rattle.u_terms.specs.Products.{product_of}
use Rattle.u_terms.specs.declared.facts.Facts.{Facts}
use Rattle.u_rules.specs.Terms.{◌⊕◌, add_leaves, mul_leaves}
use Rattle.u_deriv.specs.declared.run.Run.{Run}
use Rattle.u_moves.specs.declared.moves.Moves.{Moves}
use Rattle.u_moves.specs.Derivations.{Derivation, HasPlainSteps, IsStill}
use Rattle.u_moves.specs.Lifting.{IsMadeIn}
use Rattle.u_congruence.specs.Congruence.{IsBy, IsFromTo}
use Rattle.normal_form.specs.NormalTerms.{IsNormal}
use Rattle.normal_form.specs.Kinds.{ordered}
use Rattle.shapes.specs.Shapes.{Shape}
use Rattle.term_shapes.specs.TermShape.{HasShape}
use Rattle.term_shapes.specs.BlockTerms.{HaveShapes, IsSquashed}
use Rattle.u_normal.specs.Leading.{Leads}

-- ---- the two forms
pub data IsShaped (outs : ℕ) : U → Type 0 where
  sum_of_shapes : {u : U} (ss : List Shape) → HaveShapes outs u ss → IsShaped outs u
  squash_of_shape : {u : U} (s : Shape) → IsSquashed outs u s → IsShaped outs u

-- So many steps at most, and no term on the way with more nodes, or deeper, than the first has nodes. The steps are plain, so the bound of
-- their lines is at most, for each step, 18 and 39 for each node of the first term, by the law of plain derivations.
pub record IsShort (most : ℕ) (d : Derivation) : Type 0 where
  pub few : length d.steps ≤ most
  pub small : d.nodes ≤ nodes d.from
  pub shallow : d.depth ≤ nodes d.from
  pub plain : HasPlainSteps d

-- each of the terms that are added has at most so many nodes
abbrev pub HasSmallBlocks : ℕ → U → Type 0
HasSmallBlocks most u = Each (λ block. nodes block ≤ most) (add_leaves u)

pub record KeepsSum (outs : ℕ) (ss : List Shape) (d : Derivation) : Type 0 where
  pub shapes : HaveShapes outs d.to ss
  pub short : IsShort (length ss + 1) d
  -- no deeper than a level for each block, and the nodes of the largest one
  pub level : (most : ℕ) → HasSmallBlocks most d.from → d.depth ≤ length ss + most

pub record KeepsSquash (outs : ℕ) (s : Shape) (d : Derivation) : Type 0 where
  pub shape : IsSquashed outs d.to s
  pub short : IsShort 1 d

-- the same shapes in the same order, by a step for each block and one for the sum
pub record KeepsShapes (outs : ℕ) (u : U) (d : Derivation) : Type 0 where
  pub sum : (ss : List Shape) → HaveShapes outs u ss → KeepsSum outs ss d
  pub squash : (s : Shape) → IsSquashed outs u s → KeepsSquash outs s d

-- ---- contracts of private functions alone cite these
pub record HasSomeShape (outs : ℕ) (u : U) : Type 0 where
  pub shape : Shape
  pub has : HasShape outs u shape

pub record AreShaped (outs : ℕ) (u : U) : Type 0 where
  pub shapes : List Shape
  pub have : HaveShapes outs u shapes

-- the factors under the sums of a block by their kinds
unfoldable pub tidied : U → U
tidied (Sum body) = Sum (tidied body)
tidied u = product_of (ordered (mul_leaves u))

-- the same of each block of a sum
unfoldable pub all_tidied : U → U
all_tidied (Add a b) = Add (all_tidied a) (all_tidied b)
all_tidied u = tidied u

unfoldable pub block_count : U → ℕ
block_count (Add a b) = block_count a + block_count b
block_count u = 1

-- one row of normal blocks, or one squash of one, with the shapes that the first term has
pub record IsShapedEnd (F : Facts) (names : ℕ) (first : U) (d : Derivation) : Type 0 where
  pub leads : Leads IsNormal F names first d
  pub keeps : KeepsShapes names first d

-- from the term to another one with no more nodes
pub record IsBrief (F : Facts) (names : ℕ) (first last : U) (most : ℕ) (d : Derivation) : Type 0 where
  pub ends : IsFromTo F names first last d
  pub short : IsShort most d
  pub fewer : nodes last ≤ nodes first

-- no deeper than a level for each block of the first term, and the nodes of the largest one
pub record IsLevel (first : U) (d : Derivation) : Type 0 where
  pub level : (most : ℕ) → HasSmallBlocks most first → d.depth ≤ block_count first + most

-- the factors of each block of a sum by their kinds
pub record IsBriefSum (F : Facts) (names : ℕ) (first : U) (d : Derivation) : Type 0 where
  pub brief : IsBrief F names first (all_tidied first) (block_count first) d
  pub level : IsLevel first d

-- a derivation without more than it needs
pub record IsBriefPart (d : Derivation) : Type 0 where
  pub short : IsShort (length d.steps) d
  pub fewer : nodes d.to ≤ nodes d.from

-- derivations of the parts of a sum
pub record AreBriefParts (F : Facts) (names : ℕ) (sum : U) (left right : Derivation) : Type 0 where
  pub is : sum ≡ left.from ⊕ right.from
  pub left_by : IsBy F names left
  pub right_by : IsBy F names right
  pub left_brief : IsBriefPart left
  pub right_brief : IsBriefPart right

-- both, made in the sum: no deeper than the sum, or than a part with one turn more
pub record IsBriefBeside (F : Facts) (names : ℕ) (sum : U) (left right d : Derivation) : Type 0 where
  pub brief : IsBrief F names sum (left.to ⊕ right.to) (length left.steps + length right.steps) d
  pub shallow : d.depth ≤ max (depth sum) (1 + max left.depth right.depth)

-- the part's derivation, made in a whole term
pub record IsMadeAt (path : List Run) (moves : Moves) (whole : U) (part d : Derivation) : Type 0 where
  pub none : Derivation
  pub still : IsStill moves.facts.now moves.outs whole none
  pub made : IsMadeIn path none part d
