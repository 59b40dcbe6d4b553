-- The steps of a derivation that keeps the limits are those of a proof.
use Rattle.std.proofs.Common.{◌≡◌, ℕ, ◌<◌, ◌≤◌, ◌^◌, Bool, true, false, List, [], length, refl, sym, ap, subst, inl, inr, arith}
use Rattle.std.specs.Prelude.{◌↔◌, IsTrue, MatchBool}
use Rattle.std.specs.Fmt.{decimal}
use Rattle.std.proofs.lemmas.Fmt.{length-decimal-le}
use Rattle.data_model.specs.Lists.{Each}
use Rattle.u_terms.specs.Size as size
use Rattle.u_terms.specs.Syntax.{U}
use Rattle.u_terms.specs.declared.facts.Facts.{Facts}
use Rattle.u_deriv.specs.declared.step.Step.{Step, out-Step}
use Rattle.u_deriv.specs.StepText.{lines_length}
use Rattle.u_deriv.specs.Steps as steps
use Rattle.u_deriv.specs.Steps.{Exchanged, Rewrites, Sides}
use Rattle.u_moves.specs.Derivations as moves
use Rattle.u_moves.specs.Derivations.{Derivation, IsSound, IsStill, ReplaysThrough}
use Rattle.u_moves.proofs.steps.Chains.{starts}
use Rattle.proof_text.specs.RuleNames.{kinds_of}
use Rattle.proof_text.specs.StepLines.{step_lines, lines_of, steps_in}
use Rattle.proof_text.specs.Written.{AreOf, FitsRule, IsWritable, proof_text}
use Rattle.proof_text.proofs.writing.LongTexts.{length-proof}
use Rattle.proof_text.proofs.texts.StepLines.{no_inner, whole_lines, steps_in-append}
use Rattle.proof_text.proofs.writing.TextsAt.{fits}
use Rattle.proof_check.specs.Accepted.{AllFit, Fits, by_rule, no_step, first_then}
use Rattle.proof_check.specs.Limits.{IsSmall, IsWithin}
use Rattle.u_prover.specs.Proving.{HasLongText, IsPassing, IsSmallStep, KeepsCounts, KeepsLimits, PassesOne, most_proof_bytes}
use Rattle.u_prover.proofs.RuleKinds.{row-kinds}

pub number-short : (n : ℕ) → n < 2 ^ 32 → length (decimal n) ≤ 10
number-short n small = length-decimal-le 10 n (omega arith) (omega (arith, small)) (omega (arith, small))

sides-kinds : (F : Facts) (forward : Bool) (s : Step) (from to : U) → Sides F forward s from to → AreOf (kinds_of (out-Step s).rule) (out-Step s).args
sides-kinds F true s from to i = row-kinds F _ (out-Step s).rule (out-Step s).args i.row
sides-kinds F false s from to i = row-kinds F _ (out-Step s).rule (out-Step s).args i.row

module _ (F : Facts) (outs : ℕ) where
  none_inner : (a b : U) (s : Step) → Rewrites F outs a s b → IsSmallStep F s → (out-Step s).inner ≡ []
  none_inner a b s (steps.by_rule t plain none) small = none
  none_inner a b s (steps.by_proof x t fix args inner) small = absurd (small.plain fix)

  kinds_there : (a b : U) (s : Step) → Rewrites F outs a s b → AreOf (kinds_of (out-Step s).rule) (out-Step s).args
  kinds_there a b s (steps.by_rule t plain none) = sides-kinds F (out-Step s).forward s t.from t.to t.sides
  kinds_there a b s (steps.by_proof x t fix args inner) = sides-kinds F (out-Step s).forward s t.from t.to t.sides

  one_written : (a b : U) (s : Step) → Rewrites F outs a s b → IsSmallStep F s → FitsRule s
  one_written a b s step small =
      let none = none_inner a b s step small in
      fits s (record { kinds = kinds_there a b s step; none = λ e. none; inner = subst (Each FitsRule) (sym none) tt })

  one_line : (a b : U) (s : Step) → Rewrites F outs a s b → IsSmallStep F s → steps_in (step_lines s) ≡ 1
  one_line a b s step small = ap steps_in (whole_lines s (none_inner a b s step small) (no_inner (out-Step s).rule small.plain))

  one_fits : (a b : U) (s : Step) → Rewrites F outs a s b → IsSmallStep F s → IsSmall b → Fits F 0 outs a s b
  one_fits a b s (steps.by_rule t plain none) small within =
      by_rule t plain none (record { arguments = small.arguments; sides = small.sides; term = within })
  one_fits a b s (steps.by_proof x t fix args inner) small within = absurd (small.plain fix)

  module _ (n m : ℕ) (within : IsWithin n m) where
    abbrev P : U → Type 0
    P = moves.IsWithin n m

    is_small : (u : U) → P u → IsSmall u
    is_small u w = record { few = omega (arith, w.few, within.few); flat = omega (arith, w.shallow, within.flat) }

    all_written : (a b : U) (xs : List Step) → ReplaysThrough P F outs a xs b → Each (IsSmallStep F) xs → Each FitsRule xs
    all_written a b xs (moves.no_step p) small = tt
    all_written a b xs (moves.first_then {middle = d} {step = s} {rest = rest} p step more) small =
        (one_written a d s step small.0, all_written d b rest more small.1)

    all_lines : (a b : U) (xs : List Step) → ReplaysThrough P F outs a xs b → Each (IsSmallStep F) xs → steps_in (lines_of xs) ≡ length xs
    all_lines a b xs (moves.no_step p) small = omega arith
    all_lines a b xs (moves.first_then {middle = d} {step = s} {rest = rest} p step more) small =
        omega (arith, steps_in-append (step_lines s) (lines_of rest), one_line a d s step small.0, all_lines d b rest more small.1)

    all_fit : (a b : U) (xs : List Step) → ReplaysThrough P F outs a xs b → Each (IsSmallStep F) xs → AllFit F 0 outs a xs b
    all_fit a b xs (moves.no_step p) small = no_step
    all_fit a b xs (moves.first_then {middle = d} {step = s} {rest = rest} p step more) small =
        first_then (one_fits a d s step small.0 (is_small d (starts F P outs d b rest more))) (all_fit d b rest more small.1)

pub steps-written : (d : Derivation) → IsSound d → KeepsCounts d → Each FitsRule d.steps
steps-written d sound counts = all_written d.facts d.outs d.nodes d.depth counts.within d.from d.to d.steps sound.replays counts.small

keeps_limits : (d : Derivation) → IsSound d → KeepsCounts d → length (proof_text d.outs d.steps) ≤ most_proof_bytes → KeepsLimits d
keeps_limits d sound counts short = record {
  written = steps-written d sound counts;
  few = omega (arith, counts.few, all_lines d.facts d.outs d.nodes d.depth counts.within d.from d.to d.steps sound.replays counts.small);
  fit = all_fit d.facts d.outs d.nodes d.depth counts.within d.from d.to d.steps sound.replays counts.small;
  short = short;
}

-- ---- what is told of it
module _ (d : Derivation) where
  -- by the length of its text, where that is looked at
  pub short-told : IsSound d → KeepsCounts d → (b : Bool) → IsTrue b ↔ (length (proof_text d.outs d.steps) ≤ most_proof_bytes) → Each IsWritable d.steps
      → MatchBool b (KeepsLimits d) (PassesOne d)
  short-told sound counts true exact writable = keeps_limits d sound counts (exact.0 refl)
  short-told sound counts false exact writable = inr (record { writable = writable; long = omega (arith, beyond) })
    where
      beyond : length (proof_text d.outs d.steps) ≤ most_proof_bytes → ⊥
      beyond short = let e : false ≡ true = exact.1 short in absurd (cc)

  pub count-passed : (b : Bool) → b ≡ false → IsTrue b ↔ KeepsCounts d → MatchBool b (KeepsLimits d) (PassesOne d)
  count-passed true off exact = absurd (cc)
  count-passed false off exact = inl (λ counts. let e : false ≡ true = exact.1 counts in absurd (cc))

-- ---- a derivation without a step
pub still-passes : (F : Facts) (outs : ℕ) (t : U) (d : Derivation) → IsStill F outs t d → IsPassing d → IsWithin (size.nodes t) (size.depth t) → ⊥
still-passes F outs t d still passing within = elim (passing.passes) [ inl passes ↦ passes counts | inr long ↦ too-long long ]
  where
    counts : KeepsCounts d
    counts = record {
      few = omega (arith, ap length still.steps);
      within = record { few = omega (arith, still.nodes, within.few); flat = omega (arith, still.depth, within.flat) };
      small = subst (λ (steps : List Step). Each (IsSmallStep d.facts) steps) (sym still.steps) tt;
    }

    too-long : HasLongText d → ⊥
    too-long long =
        let sound = passing.sound in
        let word : d.outs < 2 ^ 32 = omega (arith, sound.room) in
        let none : lines_length d.steps ≡ 0 = ap lines_length still.steps in
        absurd (omega (arith, long.long, length-proof d.outs d.steps, none, number-short d.outs word))
