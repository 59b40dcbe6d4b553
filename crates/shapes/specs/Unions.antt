-- When the blocks of two unions are alike: each block of the one is paired with a block of the other of its own.
use Rattle.std.specs.Prelude.{List, [], ◌∷◌}
use Rattle.shapes.specs.Shapes.{Shape, IsShape}
use Rattle.shapes.specs.Alike.{Alike}

-- a list of shapes, and what is left where one place of it, at which t stands, is taken out
pub data TakenOut (t : Shape) : List Shape → List Shape → Type 0 where
  the_first : {ts : List Shape} → TakenOut t (t ∷ ts) ts
  a_later : {u : Shape} {ts rest : List Shape} → TakenOut t ts rest → TakenOut t (u ∷ ts) (u ∷ rest)

pub data AllAlike : List Shape → List Shape → Type 0 where
  no_blocks : AllAlike [] []
  one_block : {s t : Shape} {ss ts rest : List Shape} → TakenOut t ts rest → Alike s t → AllAlike ss rest → AllAlike (s ∷ ss) ts

abbrev pub AreShapes : List Shape → Type 0
AreShapes [] = Unit {0}
AreShapes (s ∷ ss) = IsShape s × AreShapes ss
