-- The bytes of a word, passed at once.
use Rattle.std.proofs.Common.{◌≡◌, ℕ, Bool, List, [], ◌∷◌, ◌++◌, Ok, refl}
use Rattle.std.proofs.lemmas.Bool.{eq-eqb}
use Rattle.proof_text.specs.Signs.{code, sign}
use Rattle.proof_text.specs.LinesOfText.{fed}
use Rattle.proof_text.specs.Reading.{word_at}
use Rattle.proof_text.proofs.texts.HeadingsRead.{fed_behind}

word_prefix : (bytes text : List ℕ) (nodes : ℕ) → word_at bytes (record { nodes = nodes; text = bytes ++ text }) ≡ (Ok tt, record { nodes = nodes; text = text })
unfolding word_at
word_prefix [] text nodes = refl
word_prefix (byte ∷ bytes) text nodes = rw (eq-eqb (code (sign byte)) (code (sign byte)) refl) (word_prefix bytes text nodes)

-- they stood next in a line
pub all_passed : (bytes line left : List ℕ) (ended : Bool) (nodes : ℕ) → line ≡ bytes ++ left
    → word_at bytes (record { nodes = nodes; text = fed line ended }) ≡ (Ok tt, record { nodes = nodes; text = fed left ended })
all_passed bytes line left ended nodes e = rw (e, fed_behind bytes left ended) (word_prefix bytes (fed left ended) nodes)
