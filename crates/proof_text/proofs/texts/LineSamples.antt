-- Texts that are written out, with their lines. A wrong definition stops the check.
use Rattle.std.proofs.Common.{[], ◌∷◌, ◌++◌, arith}
use Rattle.std.specs.Prelude.{codes}
use Rattle.proof_text.specs.LinesOfText.{AreLines, none, first, last}

-- a last line may have no line feed
three_lines : AreLines (codes "a" ++ 10 ∷ 10 ∷ codes "b") ((codes "a" ++ 10 ∷ []) ∷ (10 ∷ []) ∷ codes "b" ∷ [])
three_lines = first (codes "a") (λ e. absurd (omega (arith, e)), tt) (first [] tt (last (λ e. absurd (omega (arith, e)), tt) (λ e. cc e)))

-- and behind a line feed there is no empty line
one_line : AreLines (codes "a" ++ 10 ∷ []) ((codes "a" ++ 10 ∷ []) ∷ [])
one_line = first (codes "a") (λ e. absurd (omega (arith, e)), tt) none
