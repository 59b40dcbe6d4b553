-- The classes of queries, on resolved trees, and when two queries of a class are alike and small.
use Rattle.std.specs.Prelude.{◌≡◌, Bool, true, false, List, [], Some}
use Rattle.scope_core.specs.Syntax.{RQuery}
use Rattle.shapes.specs.Shapes.{Shape}
use Rattle.shapes.specs.Small as small
use Rattle.shapes.specs.Unions.{AllAlike}
use Rattle.block_shapes.specs.Blocks.{query_shape, union_shapes}

-- one block of a shape, with DISTINCT or without
pub record BlockOf (is_distinct : Bool) (tree : RQuery) : Type 0 where
  pub shape : Shape
  pub is : query_shape is_distinct tree ≡ Some shape

abbrev pub Filtered : RQuery → Type 0
Filtered tree = BlockOf false tree

abbrev pub FilteredDistinct : RQuery → Type 0
FilteredDistinct tree = BlockOf true tree

-- without marks
pub record PlainOf (is_distinct : Bool) (tree : RQuery) : Type 0 where
  pub block : BlockOf is_distinct tree
  pub unmarked : block.shape.marks ≡ []

abbrev pub Plain : RQuery → Type 0
Plain tree = PlainOf false tree

abbrev pub PlainDistinct : RQuery → Type 0
PlainDistinct tree = PlainOf true tree

pub record FilteredUnion (tree : RQuery) : Type 0 where
  pub shapes : List Shape
  pub are : union_shapes tree ≡ Some shapes

-- ---- of two filtered unions
pub record Alike (left right : RQuery) : Type 0 where
  pub of_left : FilteredUnion left
  pub of_right : FilteredUnion right
  pub paired : AllAlike of_left.shapes of_right.shapes

pub record Small (left right : RQuery) : Type 0 where
  pub of_left : FilteredUnion left
  pub of_right : FilteredUnion right
  pub sizes : small.Small of_left.shapes of_right.shapes

-- ---- of two filtered blocks with DISTINCT
pub record SmallDistinct (left right : RQuery) : Type 0 where
  pub of_left : FilteredDistinct left
  pub of_right : FilteredDistinct right
  pub sizes : small.SmallDistinct of_left.shape of_right.shape
