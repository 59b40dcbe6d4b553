-- The bytes of a word, passed at once: contracts of private functions alone cite this.
use Rattle.std.specs.Prelude.{ℕ, ◌≡◌, Bool, true, false, List, Ok}
use Rattle.proof_text.specs.Reading.{Rest, word_at}

-- they all stood next, or none was passed
abbrev pub PassesAll : List ℕ → Rest → Bool → Rest → Type 0
PassesAll bytes before true after = word_at bytes before ≡ (Ok tt, after)
PassesAll bytes before false after = after ≡ before
