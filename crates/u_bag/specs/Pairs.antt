-- What a search for a pairing of the blocks of two sums comes to.
use Rattle.std.specs.Prelude.{◌≡◌, ℕ, ◌<◌, List, Some, None, length, get_or, map, IsPermutation, All, Contains, IsSorted}
use Rattle.std.specs.declared.cmp.Ordering.{Ordering}
use Rattle.std.specs.Ordering.{nat_cmp, ordering_then}
use Rattle.u_terms.specs.Syntax.{U}
use Rattle.shapes.specs.Shapes.{Entry, Shape, IsWhole}
use Rattle.shapes.specs.Alike.{Alike}
use Rattle.shapes.specs.Tried.{IsPairing, tried}
use Rattle.shapes.specs.Unions.{AllAlike}
use Rattle.term_shapes.specs.TermShape.{HasShape, term_shape}
use Rattle.bag_search.specs.declared.search.Match.{Match}
use Rattle.bag_search.specs.declared.search.Match.TheVariants as m
use Rattle.u_bag.specs.declared.pairs.Block.{Block}
use Rattle.u_bag.specs.declared.pairs.Pair.{Pair}
use Rattle.u_bag.specs.declared.pairs.Partners.{Partners}
use Rattle.u_bag.specs.declared.pairs.Partners.TheVariants as partners
use Rattle.u_bag.specs.declared.pairs.Partner.{Partner}
use Rattle.u_bag.specs.declared.pairs.Partner.TheVariants as partner
use Rattle.u_bag.specs.Shapes.{ArePairedBy, PassesBudget}

-- each block of the one list can be paired with one of its own of the other: all have shapes, and the shapes of each two are alike
pub record CanBePaired (outs : ℕ) (lefts rights : List U) : Type 0 where
  pub ss : List Shape
  pub ts : List Shape
  pub lefts_have : map (term_shape outs) lefts ≡ map Some ss
  pub rights_have : map (term_shape outs) rights ≡ map Some ts
  pub alike : AllAlike ss ts

-- for a block of the one list and one of the other the search tries more lists of entries than the budget has
pub record SomePassBudget (outs : ℕ) (lefts rights : List U) (budget : ℕ) : Type 0 where
  pub left : U
  pub right : U
  pub left_in : Contains lefts left
  pub right_in : Contains rights right
  pub passes : PassesBudget outs left right budget

-- ---- contracts of private functions alone cite this
-- ---- blocks
abbrev pub table_of : Entry → ℕ × ℕ
table_of entry = (entry.table, entry.columns)

-- by number, then by columns
abbrev pub table_order : ℕ × ℕ → ℕ × ℕ → Ordering
table_order x y = ordering_then (nat_cmp x.0 y.0) (nat_cmp x.1 y.1)

-- the tables of the entries, in order
pub record AreTables (entries : List Entry) (tables : List (ℕ × ℕ)) : Type 0 where
  pub are : IsPermutation (map table_of entries) tables
  pub ascend : IsSorted table_order tables

-- the block's term has its shape
pub record IsBlock (outs : ℕ) (block : Block) : Type 0 where
  pub shape : HasShape outs block.term.now block.shape
  pub tables : AreTables block.shape.entries block.tables.items

-- the same, whatever the term
pub record IsOfWholeShape (block : Block) : Type 0 where
  pub whole : IsWhole block.shape
  pub tables : AreTables block.shape.entries block.tables.items

abbrev pub terms_of : List Block → List U
terms_of = map (λ block. block.term.now)

abbrev pub shapes_of : List Block → List Shape
shapes_of = map (λ block. block.shape)

-- the blocks of these terms
pub record AreBlocks (outs : ℕ) (us : List U) (blocks : List Block) : Type 0 where
  pub terms_are : terms_of blocks ≡ us
  pub each : All (IsBlock outs) blocks

-- one of the terms has no shape
pub record SomeShapeless (outs : ℕ) (us : List U) : Type 0 where
  pub term : U
  pub is_in : Contains us term
  pub shapeless : term_shape outs term ≡ None

-- ---- pairs
abbrev pub lefts_of : List Pair → List U
lefts_of = map (λ pair. pair.left.now)

abbrev pub rights_of : List Pair → List U
rights_of = map (λ pair. pair.right.now)

abbrev pub HasPairing : Pair → Type 0
HasPairing pair = ArePairedBy pair.entries pair.left.now pair.right.now

-- each of the one list in order, with one of its own of the other
pub record ArePairs (lefts rights : List U) (found : List Pair) : Type 0 where
  pub lefts_are : lefts_of found ≡ lefts
  pub rights_are : IsPermutation rights (rights_of found)
  pub each : All HasPairing found

abbrev pub ArePartners : ℕ → List U → List U → ℕ → Partners → Type 0
ArePartners outs lefts rights budget (partners.All found) = ArePairs lefts rights found.items × CanBePaired outs lefts rights
ArePartners outs lefts rights budget partners.Nothing = CanBePaired outs lefts rights → ⊥
ArePartners outs lefts rights budget partners.Spent = SomePassBudget outs lefts rights budget

-- ---- the search
-- of the pairing of two shapes, unless the budget ends it
abbrev pub IsAnswer : Shape → Shape → ℕ → Match → Type 0
IsAnswer s t budget (m.Found list) = IsPairing s t list
IsAnswer s t budget m.Nothing = Alike s t → ⊥
IsAnswer s t budget m.Spent = budget < tried s t

-- the list pairs the shape with that of the block at the place
pub record IsPartnerAt (s : Shape) (blocks : List Block) (place : ℕ) (list : List ℕ) : Type 0 where
  pub inside : place < length blocks
  pub pairing : (block : Block) → get_or blocks place block ≡ block → IsPairing s block.shape list

-- a shape whose search with this one was ended by the budget
pub record SomeSpendsBudget (s : Shape) (blocks : List Block) (budget : ℕ) : Type 0 where
  pub block : Block
  pub is_in : Contains blocks block
  pub above : budget < tried s block.shape

abbrev pub IsPartner : Shape → List Block → ℕ → Partner → Type 0
IsPartner s blocks budget (partner.At place list) = IsPartnerAt s blocks place list
IsPartner s blocks budget partner.Nowhere = (block : Block) → Contains blocks block → Alike s block.shape → ⊥
IsPartner s blocks budget partner.Spent = SomeSpendsBudget s blocks budget

-- two of these blocks
pub record IsFoundAmong (lefts rights : List Block) (pair : Pair) : Type 0 where
  pub left : Block
  pub right : Block
  pub left_in : Contains lefts left
  pub right_in : Contains rights right
  pub left_is : pair.left.now ≡ left.term.now
  pub right_is : pair.right.now ≡ right.term.now
  pub pairing : IsPairing left.shape right.shape pair.entries

-- each of the one list in order, with one of its own of the other
pub record AreAllFound (lefts rights : List Block) (found : List Pair) : Type 0 where
  pub lefts_are : lefts_of found ≡ terms_of lefts
  pub rights_are : IsPermutation (terms_of rights) (rights_of found)
  pub each : All (IsFoundAmong lefts rights) found
  pub alike : AllAlike (shapes_of lefts) (shapes_of rights)

-- two of these blocks whose search the budget ended
pub record SpendAmong (lefts rights : List Block) (budget : ℕ) : Type 0 where
  pub left : Block
  pub right : Block
  pub left_in : Contains lefts left
  pub right_in : Contains rights right
  pub above : budget < tried left.shape right.shape

abbrev pub AreFoundAmong : List Block → List Block → ℕ → Partners → Type 0
AreFoundAmong lefts rights budget (partners.All found) = AreAllFound lefts rights found.items
AreFoundAmong lefts rights budget partners.Nothing = AllAlike (shapes_of lefts) (shapes_of rights) → ⊥
AreFoundAmong lefts rights budget partners.Spent = SpendAmong lefts rights budget
