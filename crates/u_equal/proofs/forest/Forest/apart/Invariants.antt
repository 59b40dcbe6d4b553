use Rattle.std.proofs.Common.{◌≡◌, ℕ, ◌<◌, length}
use Rattle.u_equal.specs.declared.forest.Place.TheVariants.{Root}
use Rattle.u_equal.specs.Joined.{place_at}
use Rattle.u_equal.proofs.forest.Forest.apart.Given as goal

abbrev pub invariant-loop-place : goal.invariant-loop-place
invariant-loop-place l = record {
  long : length l.places.items ≡ l.«_place»;
  roots : (i : ℕ) → i < l.«_place» → place_at l.places.items i ≡ Root 1;
}
