-- The search for a pairing, and how many lists of entries it tries.
use Rattle.std.specs.Prelude.{◌≡◌, ℕ, zero, suc, ◌+◌, ◌*◌, nat_eq, if◌then◌else◌, List, [], length}
use Rattle.shapes.specs.Shapes.{Shape}
use Rattle.shapes.specs.Alike.{Pairing}
use Rattle.shapes.specs.Tests.{entry_at, place_of, fits, makes_alike}
use Rattle.shapes.specs.Search.{Outcome, went_on, tries_of, further, fresh}

-- Where it ends, and after how many lists. Without entries the empty list decides, and none is tried.
unfoldable pub search_alike : Shape → Shape → Outcome
search_alike s t =
    if nat_eq (length s.entries) (length t.entries) then further (length t.entries) fresh (fits s t) (makes_alike s t) (length s.entries) [] else went_on 0

-- the list pairs each entry of s with the entry of t that it has at the entry's place
pub record IsPairing (s t : Shape) (l : List ℕ) : Type 0 where
  pub long : length l ≡ length s.entries
  pub paired : Pairing s t (λ e. entry_at l e) (λ x. place_of x 0 l)

abbrev pub tried : Shape → Shape → ℕ
tried s t = tries_of (search_alike s t)

-- how many lists of different numbers below m there are, the empty one left out
abbrev pub tries : ℕ → ℕ
tries zero = 0
tries (suc m) = suc m * (1 + tries m)
