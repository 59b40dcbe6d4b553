-- The lines in front of the steps: what is read is the number that is written there.
use Rattle.std.proofs.Common.{◌≡◌, ℕ, ◌<◌, ◌^◌, Bool, true, false, List, [], ◌∷◌, ◌++◌, length, drop, Option, Some, None, Ok, Err, refl, sym, ap, ◌∙◌, subst, append-nil, append_assoc, arith}
use Rattle.std.specs.Prelude.{◌==◌}
use Rattle.std.specs.Fmt.{decimal}
use Rattle.std.proofs.lemmas.List.{append_cancel_left, append_cancel_right}
use Rattle.u_deriv.specs.StepText.{newline}
use Rattle.proof_text.specs.Signs.{code}
use Rattle.proof_text.specs.declared.cursor.Stop.{Stop}
use Rattle.proof_text.specs.declared.cursor.Stop.TheVariants.{Unexpected, TooMany, TooDeep, NoMemory}
use Rattle.proof_text.specs.LinesOfText.{fed}
use Rattle.proof_text.specs.Heading.{numbered_line, IsNumbered}
use Rattle.proof_text.specs.Reading.{Rest, Reading, Stops, next, number_at}
use Rattle.proof_text.proofs.spelled.NumbersAgain.{number_again}
use Rattle.proof_text.proofs.spelled.Glyphs.{Spelt, passed_byte}
use Rattle.proof_text.proofs.spelled.TermsSpelled.{IsWord, number_has}

abbrev pub start : List ℕ → Rest
start text = record { nodes = 0; text = text }

-- the line of a number is read
pub number_line : (text : List ℕ) (n : ℕ) → n < 2 ^ 32 → text ≡ numbered_line [] n → number_at (start text) ≡ (Ok n, start newline)
number_line text n h e = subst (λ (t : List ℕ). number_at (start t) ≡ (Ok n, start newline)) (sym e) (number_again n 0 newline h refl)

none_left : (x : List ℕ) → length x ≡ 0 → x ≡ []
none_left [] e = refl
none_left (byte ∷ x) e = absurd (omega (arith, e))

-- what is read, with a line feed behind it and nothing else, is the line of its number
pub is_number_line : (text : List ℕ) (n : ℕ) (r : Rest) → number_at (start text) ≡ (Ok n, r) → (code (next r) == 24) ≡ true → length (drop 1 r.text) ≡ 0 → (text ≡ numbered_line [] n) × (n < 2 ^ 32)
is_number_line text n r e c l =
    let has : Spelt text (λ m. [] ++ decimal m) (IsWord 0) (Ok n, r) = subst (λ (z : Reading ℕ). Spelt text (λ m. [] ++ decimal m) (IsWord 0) z) e (number_has text [] (start text) refl) in
    let fed_behind = passed_byte 24 10 refl refl refl text (decimal n) r has.text c in
    (fed_behind ∙ (ap (λ (z : List ℕ). (decimal n ++ newline) ++ z) (none_left (drop 1 r.text) l) ∙ append-nil (decimal n ++ newline)), has.is.0)

-- nothing is read: the text is the line of no number
pub not_refused : (text : List ℕ) (stop : Stop) (r : Rest) → (stop ≡ NoMemory → ⊥) → Stops stop r (number_at (start text)) → IsNumbered [] text None
not_refused text Unexpected r h e n w i = let o : Err Unexpected ≡ Ok n = ap (λ (z : Reading ℕ). z.0) (sym e ∙ number_line text n w i) in cc
not_refused text TooMany r h e n w i = let o : Err TooMany ≡ Ok n = ap (λ (z : Reading ℕ). z.0) (sym e ∙ number_line text n w i) in cc
not_refused text TooDeep r h e n w i = let o : Err TooDeep ≡ Ok n = ap (λ (z : Reading ℕ). z.0) (sym e ∙ number_line text n w i) in cc
not_refused text NoMemory r h e n w i = h refl

-- behind the number of a line its line feed is left
pub at_line_feed : (text : List ℕ) (m n : ℕ) (r : Rest) → number_at (start text) ≡ (Ok m, r) → n < 2 ^ 32 → text ≡ numbered_line [] n → r ≡ start newline
at_line_feed text m n r e w i = ap (λ (z : Reading ℕ). z.1) (sym e ∙ number_line text n w i)

-- ---- behind the bytes in front
pub fed_behind : (prefix x : List ℕ) (ended : Bool) → fed (prefix ++ x) ended ≡ prefix ++ fed x ended
fed_behind prefix x true = append_assoc prefix x (10 ∷ [])
fed_behind prefix x false = refl

pub numbered_behind : (prefix line x : List ℕ) (ended : Bool) (r : Option ℕ) → line ≡ prefix ++ x → IsNumbered [] (fed x ended) r → IsNumbered prefix (fed line ended) r
numbered_behind prefix line x ended (Some n) e h =
    (ap (λ (z : List ℕ). fed z ended) e ∙ fed_behind prefix x ended ∙ ap (λ (z : List ℕ). prefix ++ z) h.0, h.1)
numbered_behind prefix line x ended None e h =
    λ n w i. h n w (append_cancel_left prefix (fed x ended) (decimal n ++ newline) (sym (fed_behind prefix x ended) ∙ ap (λ (z : List ℕ). fed z ended) (sym e) ∙ i))

pub not_behind : (prefix line : List ℕ) (ended : Bool) → ((rest : List ℕ) → line ≡ prefix ++ rest → ⊥) → IsNumbered prefix (fed line ended) None
not_behind prefix line true h n w i = h (decimal n) (append_cancel_right line (prefix ++ decimal n) (10 ∷ []) (i ∙ sym (append_assoc prefix (decimal n) (10 ∷ []))))
not_behind prefix line false h n w i = h (decimal n ++ newline) i
