-- Kinds of bytes, all of ASCII: bytes of 128 and above are of none of these kinds.
use Rattle.std.specs.Prelude.{ℕ, ◌+◌, Bool, ◌&&◌, ◌||◌, nat_eq, nat_le, if◌then◌else◌}

abbrev pub is_within : ℕ → ℕ → ℕ → Bool
is_within low high byte = nat_le low byte && nat_le byte high

abbrev pub is_upper : ℕ → Bool
is_upper = is_within 65 90

abbrev pub is_digit : ℕ → Bool
is_digit = is_within 48 57

-- a letter or `_`
abbrev pub begins_word : ℕ → Bool
begins_word byte = is_upper byte || is_within 97 122 byte || nat_eq byte 95

-- a letter, a digit or `_`
abbrev pub goes_on_word : ℕ → Bool
goes_on_word byte = begins_word byte || is_digit byte

-- space, tab, line feed or carriage return
abbrev pub is_blank : ℕ → Bool
is_blank byte = nat_eq byte 32 || nat_eq byte 9 || nat_eq byte 10 || nat_eq byte 13

-- words are compared after folding, to lower case
abbrev pub folded_byte : ℕ → ℕ
folded_byte byte = if is_upper byte then byte + 32 else byte

-- ---- single bytes by name
abbrev pub quote : ℕ
quote = 39

abbrev pub double_quote : ℕ
double_quote = 34

abbrev pub point : ℕ
point = 46

abbrev pub line_feed : ℕ
line_feed = 10
