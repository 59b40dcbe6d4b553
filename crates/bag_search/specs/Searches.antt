-- What a search asks for.
use Rattle.std.specs.Prelude.{◌≡◌, ℕ, ◌<◌, ◌≤◌, ◌^◌, true, List, length}
use Rattle.shapes.specs.Tests.{fits}
use Rattle.bag_search.specs.Entries.{AreSides}
use Rattle.bag_search.specs.Known.{AreKnown}
use Rattle.bag_search.specs.declared.sides.Sides.{Sides}
use Rattle.bag_search.specs.declared.tables.Known.{Known}

-- a list that fits, no longer than there are entries, in each of the two shapes as many
pub record CanBeTried (sides : Sides) (known : Known) (l : List ℕ) : Type 0 where
  pub sides_are : AreSides sides
  pub known_are : AreKnown sides known
  pub as_many : length sides.left.shape.now.entries ≡ length sides.right.shape.now.entries
  pub small : length sides.left.shape.now.entries < 2 ^ 32
  pub fit : fits sides.left.shape.now sides.right.shape.now l ≡ true
  pub no_longer : length l ≤ length sides.left.shape.now.entries

pub record CanGoOn (sides : Sides) (known : Known) (l : List ℕ) : Type 0 where
  pub tried : CanBeTried sides known l
  pub shorter : length l < length sides.left.shape.now.entries
