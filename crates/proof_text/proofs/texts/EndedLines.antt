-- The lines that end in the first bytes of a text.
use Rattle.std.proofs.Common.{◌≡◌, ℕ, true, false, List, [], ◌∷◌, ◌++◌, refl, sym, ap, subst, ◌∙◌, append_assoc, append-nil}
use Rattle.data_model.specs.Lists.{Each}
use Rattle.proof_text.specs.LinesOfText.{fed, AreEnded, AreLines}
use Rattle.proof_text.specs.LinesOfText as text
use Rattle.proof_text.proofs.texts.TextLines.{Unbroken, behind_feed, without_feed}

-- with more bytes behind them
pub ended-before : (bytes : List ℕ) (lines : List (List ℕ)) (rest more : List ℕ) → AreEnded bytes lines rest → AreEnded (bytes ++ more) lines (rest ++ more)
ended-before _ _ rest more text.nothing = text.nothing
ended-before _ _ rest more (text.line bytes {text = after} {lines = lines} u a) =
    subst (λ (z : List ℕ). AreEnded z (fed bytes true ∷ lines) (rest ++ more)) (sym (append_assoc (fed bytes true) after more))
    (text.line bytes u (ended-before after lines rest more a))

-- and those of the rest
pub ended-append : (bytes : List ℕ) (lines : List (List ℕ)) (rest : List ℕ) (others : List (List ℕ)) (end : List ℕ)
    → AreEnded bytes lines rest → AreEnded rest others end → AreEnded bytes (lines ++ others) end
ended-append _ _ rest others end text.nothing b = b
ended-append _ _ rest others end (text.line bytes {text = after} {lines = lines} u a) b = text.line bytes u (ended-append after lines rest others end a b)

-- of two pieces
pub ended-pieces : (prefix first more rest : List ℕ) (lines others : List (List ℕ)) (end : List ℕ)
    → AreEnded (prefix ++ first) lines rest → AreEnded (rest ++ more) others end → AreEnded (prefix ++ (first ++ more)) (lines ++ others) end
ended-pieces prefix first more rest lines others end a b =
    subst (λ (z : List ℕ). AreEnded z (lines ++ others) end) (append_assoc prefix first more)
    (ended-append ((prefix ++ first) ++ more) lines (rest ++ more) others end (ended-before (prefix ++ first) lines rest more a) b)

-- with the lines of what is behind them these are all lines
pub ended-lines : (bytes : List ℕ) (lines : List (List ℕ)) (rest : List ℕ) (others : List (List ℕ)) → AreEnded bytes lines rest → AreLines rest others → AreLines bytes (lines ++ others)
ended-lines _ _ rest others text.nothing b = b
ended-lines _ _ rest others (text.line bytes {text = after} {lines = lines} u a) b = text.first bytes u (ended-lines after lines rest others a b)

-- where no line feed is left, no line is missing
pub record Follows (lines all : List (List ℕ)) : Type 0 where
  pub more : List (List ℕ)
  pub parts : all ≡ lines ++ more

fed-first : (bytes after : List ℕ) → fed bytes true ++ after ≡ bytes ++ 10 ∷ after
fed-first bytes after = append_assoc bytes (10 ∷ []) after

pub ended-all : (bytes same : List ℕ) (lines all : List (List ℕ)) (rest end : List ℕ) → bytes ≡ same → AreEnded bytes lines rest → AreEnded same all end → Unbroken end → Follows lines all
ended-all _ same _ all rest end e text.nothing b u = record { more = all; parts = refl }
ended-all _ _ _ _ rest end e (text.line bytes {text = after} {lines = lines} v a) text.nothing u =
    absurd (without_feed end bytes after u (sym e ∙ fed-first bytes after))
ended-all _ _ _ _ rest end e (text.line bytes {text = after} {lines = lines} v a) (text.line others {text = later} {lines = all} w b) u =
    let i = behind_feed bytes others after later v w (sym (fed-first bytes after) ∙ e ∙ fed-first others later) in
    let f = ended-all after later lines all rest end i.1 a b u in
    record { more = f.more; parts = ap (λ (z : List ℕ). fed z true ∷ all) (sym i.0) ∙ ap (λ (z : List (List ℕ)). fed bytes true ∷ z) f.parts }
