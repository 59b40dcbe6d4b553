-- A walk over the bytes of a text, one at a time.
use Rattle.std.proofs.Common.{◌≡◌, ℕ, suc, ◌+◌, ◌<◌, Bool, true, false, not, nat_eq, ◌&&◌, List, length, drop, get_or, Option, Some, None, refl, ap, arith, drop-cons, add-one}
use Rattle.sql_lex.specs.Front.{one_more, end_len, close_len}

-- behind so many bytes
abbrev pub later : ℕ → Option ℕ → Option ℕ
later n None = None
later n (Some k) = Some (n + k)

pub later-none : (o : Option ℕ) → later 0 o ≡ o
later-none None = refl
later-none (Some k) = ap Some (omega arith)

pub later-one_more : (n : ℕ) (o : Option ℕ) → later n (one_more o) ≡ later (suc n) o
later-one_more n None = refl
later-one_more n (Some k) = ap Some (omega arith)

-- ---- up to a mark that is not doubled
pub end_len-mark : (mark : ℕ) (marked : Bool) (bytes : List ℕ) (i : ℕ) → i < length bytes → nat_eq (get_or bytes i 0) mark ≡ true
    → later i (end_len mark marked (drop i bytes)) ≡ later (i + 1) (end_len mark (not marked) (drop (i + 1) bytes))
end_len-mark mark marked bytes i h e = rw (drop-cons bytes i 0 h, e, add-one) (later-one_more i _)

pub end_len-other : (mark : ℕ) (bytes : List ℕ) (i : ℕ) → i < length bytes → nat_eq (get_or bytes i 0) mark ≡ false
    → later i (end_len mark false (drop i bytes)) ≡ later (i + 1) (end_len mark false (drop (i + 1) bytes))
end_len-other mark bytes i h e = rw (drop-cons bytes i 0 h, e, add-one) (later-one_more i _)

pub end_len-ended : (mark : ℕ) (bytes : List ℕ) (i : ℕ) → i < length bytes → nat_eq (get_or bytes i 0) mark ≡ false
    → later i (end_len mark true (drop i bytes)) ≡ Some i
end_len-ended mark bytes i h e = rw (drop-cons bytes i 0 h, e) (ap Some (omega arith))

-- ---- up to the end of a comment
pub close_len-closed : (bytes : List ℕ) (i : ℕ) → i < length bytes → nat_eq (get_or bytes i 0) 47 ≡ true
    → later i (close_len true (drop i bytes)) ≡ Some (i + 1)
close_len-closed bytes i h e = rw (drop-cons bytes i 0 h, e) refl

pub close_len-step : (star : Bool) (bytes : List ℕ) (i : ℕ) → i < length bytes → star && nat_eq (get_or bytes i 0) 47 ≡ false
    → later i (close_len star (drop i bytes)) ≡ later (i + 1) (close_len (nat_eq (get_or bytes i 0) 42) (drop (i + 1) bytes))
close_len-step star bytes i h e = rw (drop-cons bytes i 0 h, e, add-one) (later-one_more i _)

pub ruleset ends = (later-none, end_len-mark, end_len-other, end_len-ended)

pub ruleset closes = (later-none, close_len-closed, close_len-step)
