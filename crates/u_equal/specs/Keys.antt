-- Values as keys: two are one key where their codes are equal, and a hasher is fed the code.
use Rattle.std.specs.Prelude.{◌≡◌, ℕ, Bool, List, nat_eq, IsTrue, flat_map}
use Rattle.std.proofs.Common.{ap}
use Rattle.std.specs.Cmp.Lexicographic.{pointwise, bytes_decides}
use Rattle.std.specs.Hash as fed
use Rattle.std.specs.Hash.{HashWrites}
use Rattle.u_terms.specs.Syntax.{Val}
use Rattle.u_rules.specs.Codes.{value_code}

abbrev pub same_code : Val → Val → Bool
same_code a b = pointwise nat_eq (value_code a) (value_code b)

-- each number of a code is one write
abbrev pub written : List ℕ → HashWrites
written = flat_map fed.u32

abbrev pub key_writes : Val → HashWrites
key_writes value = written (value_code value)

pub key_writes-alike : (a b : Val) → IsTrue (same_code a b) → key_writes a ≡ key_writes b
key_writes-alike a b same = ap written ((bytes_decides (value_code a) (value_code b)).0 same)
