-- The two lines in front of the steps.
use Rattle.std.proofs.Common.{◌≡◌, ℕ, ◌<◌, ◌≤◌, ◌^◌, List, [], ◌++◌, length, Option, Some, None, Ok, refl, sym, ap, subst, ◌∙◌, inl, arith}
use Rattle.std.specs.Prelude.{◌≢◌, codes, Result}
use Rattle.proof_text.specs.declared.cursor.Stop.{Stop}
use Rattle.std.specs.Fmt.{decimal}
use Rattle.std.proofs.lemmas.List.{append_cancel_left}
use Rattle.u_terms.specs.Syntax.{U}
use Rattle.u_terms.specs.declared.facts.Facts.{Facts}
use Rattle.u_deriv.specs.StepText.{newline}
use Rattle.proof_text.specs.Heading.{numbered_line, IsNumbered}
use Rattle.proof_text.specs.Reading.{Rest, Reading}
use Rattle.proof_text.proofs.texts.HeadingsRead.{start, number_line}
use Rattle.proof_check.specs.declared.part.Part.TheVariants as part
use Rattle.proof_check.specs.declared.steps.Steps.{Steps}
use Rattle.proof_check.specs.declared.steps.Waiting.{Waiting as KeptWaiting}
use Rattle.proof_check.specs.Judging.{Takes, width, versioned, among, width_line}
use Rattle.proof_check.specs.Kept.{waiting_in, progress_of, most_outs, AreNear, AreFresh, AreSteppable}

ok_number : (m n : ℕ) (r s : Rest) → ◌≡◌ {A = Reading ℕ} (Ok m, r) (Ok n, s) → m ≡ n
ok_number m n r s e = let told : ◌≡◌ {A = Result ℕ Stop} (Ok m) (Ok n) = ap (λ (x : Reading ℕ). x.0) e in cc

one_number : (prefix : List ℕ) (m n : ℕ) → m < 2 ^ 32 → n < 2 ^ 32 → numbered_line prefix m ≡ numbered_line prefix n → m ≡ n
one_number prefix m n few less e =
    let same : decimal m ++ newline ≡ decimal n ++ newline = append_cancel_left prefix (decimal m ++ newline) (decimal n ++ newline) e in
    let pair : ◌≡◌ {A = Reading ℕ} (Ok m, start newline) (Ok n, start newline) = sym (number_line (decimal m ++ newline) m few refl) ∙ number_line (decimal m ++ newline) n less same in
    ok_number m n (start newline) (start newline) pair

-- a line that tells no width, or another one
pub other_line : (outs : ℕ) → outs < 2 ^ 32 → (text : List ℕ) (told : Option ℕ) → IsNumbered (codes "outs ") text told → (told ≡ Some outs → ⊥) → text ≢ width_line outs
other_line outs fits text (Some n) h other = λ e. other (ap (λ (m : ℕ). Some m) (one_number (codes "outs ") n outs h.1 fits (sym h.0 ∙ e)))
other_line outs fits text None h other = λ e. h outs fits e

module _ (facts : Facts) (outs : ℕ) where
  begun_with : (u : U) (names : ℕ) (kept : List KeptWaiting) (count : ℕ) (text : List ℕ) → names ≡ outs → kept ≡ [] → count ≡ 0 → text ≡ width_line outs
      → Takes facts outs (versioned u) text (among (record { outs = names; term = u }) (waiting_in kept) count)
  begun_with u names kept count text named empty none e =
      subst (λ o. Takes facts outs (versioned u) text (among (record { outs = o; term = u }) (waiting_in kept) count)) (sym named)
      (subst (λ ws. Takes facts outs (versioned u) text (among (record { outs = outs; term = u }) (waiting_in ws) count)) (sym empty)
      (subst (λ k. Takes facts outs (versioned u) text (among (record { outs = outs; term = u }) [] k)) (sym none) (width e)))

  pub width_taken : (steps : Steps) (text : List ℕ) → AreFresh outs steps → text ≡ width_line outs
      → Takes facts outs (progress_of part.Width steps) text (progress_of part.Steps steps)
  width_taken steps text fresh e = begun_with steps.level.term steps.level.outs steps.waiting.items steps.count text fresh.names fresh.none fresh.count e

pub fresh_steppable : (outs : ℕ) (steps : Steps) → AreFresh outs steps → AreSteppable steps
fresh_steppable outs steps fresh =
    let bound : steps.level.outs ≤ most_outs = omega (arith, fresh.names, fresh.few) in
    record {
      term = inl fresh.small;
      names = subst (λ ws. AreNear steps.level.outs (waiting_in ws)) (sym fresh.none) bound;
      few = subst (λ ws. length (waiting_in ws) ≤ 64) (sym fresh.none) (omega arith);
    }
