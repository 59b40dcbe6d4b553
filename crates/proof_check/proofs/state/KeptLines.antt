-- The lines of a text as they are read, one after the other.
use Rattle.std.proofs.Common.{◌≡◌, ℕ, ◌+◌, ◌<◌, length, length-append, arith, Bool, true, false, List, [], ◌∷◌, ◌++◌, refl, sym, ap, subst, ◌∙◌, append-nil, append_assoc, eqb, inl, inr}
use Rattle.std.specs.Prelude.{◌≢◌, ◌⊎◌, Result, is_err}
use Rattle.std.proofs.lemmas.Bool.Decides.{eqb_tells}
use Rattle.u_terms.specs.Syntax.{U}
use Rattle.u_terms.specs.declared.facts.Facts.{Facts}
use Rattle.proof_text.specs.LinesOfText.{fed, Unread, IsNextLine, AreLines, none, first, last}
use Rattle.proof_check.specs.declared.answers.Stop.{Stop}
use Rattle.proof_check.specs.Checking.{State, on, stopped, IsFed, Stands}
use Rattle.proof_check.specs.Check.{IsNext, Tells, Reads, ReadsSoFar}
use Rattle.proof_check.proofs.state.Feeding.{feeding, staying}

abbrev HaveLines : List ℕ → Type 0
HaveLines text = (lines : List (List ℕ)) × AreLines text lines

-- ---- every text has lines
longer : (byte : ℕ) → (byte ≡ 10 → ⊥) → (text : List ℕ) (lines : List (List ℕ)) → AreLines text lines → HaveLines (byte ∷ text)
longer byte other _ _ none = (_, last {bytes = byte ∷ []} (other, tt) (λ e. cc))
longer byte other _ _ (first bytes unbroken rest) = (_, first (byte ∷ bytes) (other, unbroken) rest)
longer byte other _ _ (last {bytes = bytes} unbroken some) = (_, last {bytes = byte ∷ bytes} (other, unbroken) (λ e. cc))

starting : (byte : ℕ) (text : List ℕ) → HaveLines text → ((eqb byte 10 ≡ true) × (byte ≡ 10)) ⊎ ((eqb byte 10 ≡ false) × (byte ≢ 10)) → HaveLines (byte ∷ text)
starting byte text rest (inl feed) = subst (λ (b : ℕ). HaveLines (b ∷ text)) (sym feed.1) (fed [] true ∷ rest.0, first [] tt rest.1)
starting byte text rest (inr other) = longer byte other.1 text rest.0 rest.1

pub lines_of_text : (text : List ℕ) → HaveLines text
lines_of_text [] = ([], none)
lines_of_text (byte ∷ text) = starting byte text (lines_of_text text) (eqb_tells byte 10)

-- ---- one line more
no_lines : (text : List ℕ) (lines : List (List ℕ)) → AreLines text lines → text ≡ [] → lines ≡ []
no_lines _ _ none e = refl
no_lines _ _ (first [] unbroken rest) e = absurd (cc)
no_lines _ _ (first (byte ∷ bytes) unbroken rest) e = absurd (cc)
no_lines _ _ (last unbroken some) e = absurd (some e)

pub line_more : (before : Unread) (bytes : List ℕ) (number : ℕ) (ended : Bool) (after : Unread) → IsNextLine before bytes number ended after
    → (others : List (List ℕ)) → AreLines after.text others → AreLines before.text (fed bytes ended ∷ others)
line_more before bytes number true after next others rest = subst (λ text. AreLines text (fed bytes true ∷ others)) (sym next.text) (first bytes next.unbroken rest)
line_more before bytes number false after next others rest =
    let ends = next.last refl in
    let all : before.text ≡ bytes = next.text ∙ (ap (λ x. bytes ++ x) ends ∙ append-nil bytes) in
    subst (λ text. AreLines text (fed bytes false ∷ others)) (sym all)
    (subst (λ x. AreLines bytes (fed bytes false ∷ x)) (sym (no_lines after.text others rest ends)) (last next.unbroken (λ e. next.some (all ∙ e))))

module _ (facts : Facts) (outs : ℕ) (left : U) (text : List ℕ) where
  pub reads_none : (state : State) → Stands facts outs left [] state → (number : ℕ) → ReadsSoFar facts outs left text state (record { number = number; text = text })
  reads_none state s number = record { lines = []; are_lines = λ others a. a; stands = s }

  pub reads_more : (state after : State) (before : Unread) (bytes : List ℕ) (number : ℕ) (ended : Bool) (unread : Unread)
      → IsNextLine before bytes number ended unread → IsFed facts outs state (fed bytes ended) after
      → ReadsSoFar facts outs left text state before → ReadsSoFar facts outs left text after unread
  reads_more state after before bytes number ended unread next is_fed r =
      record {
        lines = r.lines ++ fed bytes ended ∷ [];
        are_lines = λ others a.
            subst (λ lines. AreLines text lines) (sym (append_assoc r.lines (fed bytes ended ∷ []) others))
            (r.are_lines (fed bytes ended ∷ others) (line_more before bytes number ended unread next others a));
        stands = feeding facts outs left r.lines state (fed bytes ended) after r.stands is_fed;
      }

  -- at its end
  pub reads_all : (state : State) (unread : Unread) → unread.text ≡ [] → ReadsSoFar facts outs left text state unread → Reads facts outs left text state
  reads_all state unread e r =
      record {
        lines = r.lines ++ [];
        are_lines = r.are_lines [] (subst (λ x. AreLines x []) (sym e) none);
        stands = subst (λ lines. Stands facts outs left lines state) (sym (append-nil r.lines)) r.stands;
      }

  -- or behind a stop
  pub reads_stopped : (stop : Stop) (unread : Unread) → HaveLines unread.text → ReadsSoFar facts outs left text (stopped stop) unread → Reads facts outs left text (stopped stop)
  reads_stopped stop unread rest r =
      record { lines = r.lines ++ rest.0; are_lines = r.are_lines rest.0 rest.1; stands = staying facts outs left r.lines rest.0 stop r.stands }

  pub reads_to_stop : (state : State) (unread : Unread) (answer : Result (Unit {0}) Stop) → Tells state answer → is_err answer ≡ true
      → ReadsSoFar facts outs left text state unread → Reads facts outs left text state
  reads_to_stop (on lines progress) unread answer told failed r = let e : is_err answer ≡ false = ap (λ (a : Result (Unit {0}) Stop). is_err a) told in absurd (cc)
  reads_to_stop (stopped stop) unread answer told failed r = reads_stopped stop unread (lines_of_text unread.text) r

-- ---- the numbers of lines
pub next_fed : (facts : Facts) (outs : ℕ) (before : State) (text : List ℕ) (after : State) (number : ℕ) → IsNext before number → IsFed facts outs before text after
    → IsNext after (number + 1)
next_fed facts outs (on lines before) text (on more after) number is (counted, taken) = omega (arith, is, counted)
next_fed facts outs (on lines before) text (stopped stop) number is ends_here = tt
next_fed facts outs (stopped stop) text after number is e = subst (λ state. IsNext state (number + 1)) (sym e) tt

pub shorter : (before : Unread) (bytes : List ℕ) (number : ℕ) (ended : Bool) (after : Unread) → IsNextLine before bytes number ended after → length after.text < length before.text
shorter before bytes number true after next = omega (arith, ap length next.text, length-append (bytes ++ 10 ∷ []) after.text, length-append bytes (10 ∷ []))
shorter before [] number false after next = absurd (next.some (next.text ∙ next.last refl))
shorter before (byte ∷ bytes) number false after next = omega (arith, ap length next.text, length-append bytes after.text)
