-- Sets of relations by their numbers modulo 256, one bit for each.
use Rattle.std.specs.Prelude.{◌≡◌, ◌%◌, ◌*◌, ◌^◌, ℕ, nat_eq, nat_lt, Bool, true, false, cond, not, ◌&&◌, ◌||◌}
use Rattle.std.specs.Int.{bit_at}
use Rattle.std.specs.Int.RustNames.{bit_and, bit_or}
use Rattle.scope_core.specs.declared.relation_set.RelationSet.{RelationSet}

-- in which half the bit of a relation stands
abbrev pub is_low : ℕ → Bool
is_low number = nat_lt (number % 256) 128

-- ---- sets as they are computed
abbrev pub empty : RelationSet
empty = record { low = 0; high = 0 }

-- the bit of a relation in its half
abbrev pub bit_of : ℕ → ℕ
bit_of number = 1 * 2 ^ (number % 128) % 2 ^ 128

-- a set and this relation
abbrev pub with_number : RelationSet → ℕ → RelationSet
with_number set number = record {
  low = cond (is_low number) (bit_or set.low (bit_of number)) set.low;
  high = cond (is_low number) set.high (bit_or set.high (bit_of number));
}

abbrev pub has_number : RelationSet → ℕ → Bool
has_number set number = cond (is_low number) (not (nat_eq (bit_and set.low (bit_of number)) 0)) (not (nat_eq (bit_and set.high (bit_of number)) 0))

-- the relations of both
abbrev pub union_of : RelationSet → RelationSet → RelationSet
union_of set other = record { low = bit_or set.low other.low; high = bit_or set.high other.high }

-- whether a relation is in both
abbrev pub meet_sets : RelationSet → RelationSet → Bool
meet_sets set other = not (nat_eq (bit_and set.low other.low) 0) || not (nat_eq (bit_and set.high other.high) 0)

abbrev pub same_set : RelationSet → RelationSet → Bool
same_set set other = nat_eq set.low other.low && nat_eq set.high other.high

-- ---- sets by what they have
abbrev pub half : RelationSet → Bool → ℕ
half set true = set.low
half set false = set.high

-- whether this bit of this half is set
abbrev pub Has : RelationSet → Bool → ℕ → Type 0
Has set low bit = bit_at (half set low) bit ≡ 1

-- a set that has what another has
abbrev pub Includes : RelationSet → RelationSet → Type 0
Includes set other = (low : Bool) (bit : ℕ) → Has other low bit → Has set low bit
