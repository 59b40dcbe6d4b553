-- How bytes that are taken one after another join.
use Rattle.std.proofs.Common.{ℕ, ◌+◌, ◌≤◌, List, ◌++◌, Option, length, arith, length-append}
use Rattle.std.specs.Io.KnownBytes.{Consumes}
use Rattle.std.proofs.KnownBytes.{Consumes-trans}
use Rattle.udp_io.specs.Reading.{TakesAtMost}

pub TakesAtMost-after : (a b c : Option (List ℕ)) (bytes : List ℕ) (most all : ℕ) → Consumes a b bytes → TakesAtMost b c most → length bytes + most ≤ all → TakesAtMost a c all
TakesAtMost-after a b c bytes most all before more within = record {
  piece = bytes ++ more.piece;
  taken = Consumes-trans a b c bytes more.piece before more.taken;
  within = omega (arith, length-append bytes more.piece, more.within);
}
