use Rattle.std.proofs.Common.{◌≡◌, ◌+◌, ◌++◌, drop, length, take}
use Rattle.std.specs.Prelude.{◌↔◌, All, Contains, IsPermutation}
use Rattle.shapes.specs.Unions.{AllAlike}
use Rattle.u_bag.specs.Pairs.{IsFoundAmong, lefts_of, rights_of, shapes_of, terms_of}
use Rattle.u_bag.proofs.pairs.pair_all.Given as goal

-- all blocks can be paired exactly where those that are left over can
abbrev pub invariant-loop-left : goal.invariant-loop-left
invariant-loop-left l = record {
  many : length l.rest.items + l.left-index ≡ length l.fn.rights.items;
  lefts_are : lefts_of l.pairs.items ≡ terms_of (take l.left-index l.lefts);
  rights_are : IsPermutation (terms_of l.fn.rights.items) (rights_of l.pairs.items ++ terms_of l.rest.items);
  each : All (IsFoundAmong l.lefts l.fn.rights.items) l.pairs.items;
  rest_in : All (Contains l.fn.rights.items) l.rest.items;
  alike : AllAlike (shapes_of l.lefts) (shapes_of l.fn.rights.items) ↔ AllAlike (shapes_of (drop l.left-index l.lefts)) (shapes_of l.rest.items);
}
