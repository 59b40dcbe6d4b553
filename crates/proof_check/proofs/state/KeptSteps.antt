-- What the lines of steps make of what is kept.
use Rattle.std.proofs.Common.{◌≡◌, ℕ, ◌+◌, ◌*◌, ◌<◌, ◌≤◌, ◌^◌, Bool, true, false, List, [], ◌∷◌, ◌++◌, length, fold, refl, sym, ap, subst, ◌∙◌, inl, inr, arith}
use Rattle.std.specs.Prelude.{◌⊎◌, Ok, Err}
use Rattle.std.proofs.lemmas.List.Sums.{fold-append}
use Rattle.data_model.specs.Lists.{Each}
use Rattle.u_terms.specs.Syntax.{U}
use Rattle.u_terms.specs.Size.{depth}
use Rattle.u_terms.specs.declared.facts.Facts.{Facts}
use Rattle.u_rules.specs.declared.rule.Rule.{Rule}
use Rattle.u_rules.specs.declared.rule.Rule.TheVariants as rule
use Rattle.u_rules.specs.declared.rule.Arg.TheVariants.{Term}
use Rattle.u_deriv.specs.declared.place.Place.{Place}
use Rattle.u_deriv.specs.declared.step.Step.{Step, out-Step}
use Rattle.u_deriv.specs.Contexts.{binders}
use Rattle.u_deriv.specs.Steps.{Exchanged, Rewrites, by_rule}
use Rattle.u_deriv.proofs.steps.Keeps.{exchanged-of}
use Rattle.proof_text.specs.RuleNames.{has_inner}
use Rattle.proof_text.specs.ReadingLines.{IsRead, IsRefused}
use Rattle.proof_text.specs.Written.{Says, IsSmall as IsSmallArgument}
use Rattle.proof_text.specs.declared.limits.LimitKind.TheVariants as limit
use Rattle.proof_text.specs.declared.line.LineFault.{LineFault}
use Rattle.proof_text.specs.declared.line.LineFault.TheVariants as line_fault
use Rattle.proof_text.specs.declared.line.LineStep.TheVariants.{Whole, Opens, Closes, Ends}
use Rattle.proof_check.specs.declared.answers.ProofFault.TheVariants as fault
use Rattle.proof_check.specs.declared.answers.Stop.{Stop}
use Rattle.proof_check.specs.declared.answers.Stop.TheVariants.{Fails, Fault}
use Rattle.proof_check.specs.declared.limits.Passed.{Passed}
use Rattle.proof_check.specs.declared.part.Part.{Part}
use Rattle.proof_check.specs.declared.part.Part.TheVariants as part
use Rattle.proof_check.specs.declared.steps.Steps.{Steps}
use Rattle.proof_check.specs.declared.steps.Waiting.{Waiting as KeptWaiting}
use Rattle.proof_check.specs.Judging.{Level, Waiting, among, ended, step_line, behind_step, square_of, HasRoom, IsAdmitted, Takes, Stops, makes, opens, closes, ends, bad, argument_passes, closes_nothing, ends_within, too_many, too_nested, side_passes, fails, opens_nothing, passes, inner_end_differs, passes_behind}
use Rattle.proof_check.specs.Kept.{waiting_of, waiting_in, most_outs, AreNear, AreKept, CanStep, GoOn, GoesOut, refused_line, misplaced_line}
use Rattle.proof_text.specs.Limits.{most_depth}
use Rattle.proof_check.specs.Limits.{IsSmall, SidesAreSmall, sizes_for, most_steps, most_nesting}
use Rattle.proof_check.specs.Refusing.{LeavesRoom, KeepsTerm, KeepsSides, ExchangesAt}
use Rattle.proof_check.proofs.state.SizedTerms.{steppable-depth, few-binders}

-- ---- the steps that wait
pub waiting-pushed : (kept : List KeptWaiting) (inner : KeptWaiting) → waiting_in (kept ++ inner ∷ []) ≡ waiting_of inner ∷ waiting_in kept
waiting-pushed kept inner = fold-append (λ outer w. waiting_of w ∷ outer) [] kept (inner ∷ [])

waiting-behind : (outer : List Waiting) (kept : List KeptWaiting) → length (fold (λ ws w. waiting_of w ∷ ws) outer kept) ≡ length outer + length kept
waiting-behind outer [] = omega arith
waiting-behind outer (w ∷ kept) = omega (arith, waiting-behind (waiting_of w ∷ outer) kept)

pub waiting-length : (kept : List KeptWaiting) → length (waiting_in kept) ≡ length kept
waiting-length kept = omega (arith, waiting-behind [] kept)

pub none_waits : (kept : List KeptWaiting) → length kept ≡ 0 → waiting_in kept ≡ []
none_waits [] e = refl
none_waits (w ∷ kept) e = absurd (omega (arith, e))

abbrev Innermost : List Waiting → Type 0
Innermost waiting = (inner : Waiting) × (others : List Waiting) × (waiting ≡ inner ∷ others)

innermost : (waiting : List Waiting) → (length waiting ≡ 0 → ⊥) → Innermost waiting
innermost [] some = absurd (some refl)
innermost (w ∷ waiting) some = (w, waiting, refl)

pub some_wait : (kept : List KeptWaiting) → (length kept ≡ 0 → ⊥) → Innermost (waiting_in kept)
some_wait kept some = innermost (waiting_in kept) (λ e. some (sym (waiting-length kept) ∙ e))

near-outs : (outs : ℕ) (waiting : List Waiting) → AreNear outs waiting → outs ≤ most_outs + 2048 * length waiting
near-outs outs [] near = omega arith
near-outs outs (w ∷ waiting) near = omega (arith, near-outs w.behind.outs waiting near.1)

pub few-outs : (level : Level) (waiting : List Waiting) → CanStep level waiting → level.outs ≤ 133120
few-outs level waiting can = omega (arith, near-outs level.outs waiting can.names, can.few)

pub shallow : (level : Level) (waiting : List Waiting) → CanStep level waiting → level.outs + depth level.term + most_depth ≤ 2 ^ 32
shallow level waiting can = omega (arith, few-outs level waiting can, steppable-depth level.term can.term)

-- ---- what a line of a step says
plain : (q : Rule) → has_inner q ≡ false → q ≡ rule.SqFix → ⊥
plain q outer is = let e : has_inner q ≡ true = ap has_inner is in cc

pub made : (facts : Facts) (outs : ℕ) (before : U) (step : Step) (after : U) → Says (Whole step) → Exchanged facts outs before step after → Rewrites facts outs before step after
made facts outs before step after says t = by_rule t (plain (out-Step step).rule says.opens) says.none

pub small-root : (step : Step) (x : U) → Says (Opens step) → (out-Step step).args ≡ Term x ∷ [] → IsSmall x
small-root step x says are =
    let each = subst (λ args. Each IsSmallArgument args) are says.small in
    record { few = each.0.0; flat = each.0.1 }

module _ (facts : Facts) (outs number : ℕ) (level : Level) (waiting : List Waiting) (count : ℕ) (text : List ℕ) where
  abbrev pub IsLast : Stop → Type 0
  IsLast stop = Stops facts outs number (among level waiting count) text stop ⊎ (stop ≡ Fault fault.NoMemory)

  abbrev pub told : Passed → Stop
  told passed = Fault (fault.Limit passed.what passed.count)

  -- ---- why a line is none, or stands where it may not
  pub refused : (line_fault : LineFault) → IsRefused text line_fault → IsLast (refused_line number line_fault)
  refused (line_fault.Bad column) r = inl (bad r)
  refused (line_fault.Limit what passing) r = inl (argument_passes r)
  refused line_fault.NoMemory r = inr refl

  module _ (step : Step) (inner : Bool) (read : IsRead text (step_line inner step)) where
    pub full : (passed : Passed) → LeavesRoom limit.Steps count most_steps (Err passed) → IsLast (told passed)
    full passed h = subst (λ p. IsLast (told p)) (sym h.1) (inl (too_many inner step read h.0))

    pub wide : (passed : Passed) → HasRoom inner count (length waiting) → KeepsSides (sizes_for facts step) (Err passed) → IsLast (told passed)
    wide passed room h = inl (side_passes inner step read room h)

  -- ---- a step without inner steps
  module _ (step : Step) (read : IsRead text (Whole step)) (says : Says (Whole step)) (room : count < most_steps) (sides : SidesAreSmall (sizes_for facts step)) where
    admitted : IsAdmitted facts false text step count (length waiting)
    admitted = record { read = read; room = room; sides = sides }

    pub unmade : (after : U) (stop : Stop) → ExchangesAt facts level.outs number level.term step after (Err stop) → IsLast stop
    unmade after stop (inl (none, is)) =
        subst IsLast (sym is) (inl (fails admitted (λ other r. none other (exchanged-of facts level.outs level.term step other r))))
    unmade after stop (inr is) = inr is

    pub large : (after : U) (passed : Passed) → Exchanged facts level.outs level.term step after → KeepsTerm after (Err passed) → IsLast (told passed)
    large after passed t h = inl (passes admitted (made facts level.outs level.term step after says t) h)

    pub taken : (after : U) → Exchanged facts level.outs level.term step after → IsSmall after
        → Takes facts outs (among level waiting count) text (among (behind_step level after) waiting (count + 1))
    taken after t small = makes admitted (made facts level.outs level.term step after says t) small

  -- ---- a step of `sq_fix`
  module _ (step : Step) (read : IsRead text (Opens step)) (room : count < most_steps) where
    pub nested : (passed : Passed) → LeavesRoom limit.Nesting (length waiting) most_nesting (Err passed) → IsLast (told passed)
    nested passed h = subst (λ p. IsLast (told p)) (sym h.1) (inl (too_nested read room h.0))

    module _ (few : length waiting < most_nesting) (sides : SidesAreSmall (sizes_for facts step)) where
      admitted_open : IsAdmitted facts true text step count (length waiting)
      admitted_open = record { read = read; room = (room, few); sides = sides }

      pub unopened : (after : U) (stop : Stop) → ExchangesAt facts level.outs number level.term step after (Err stop) → IsLast stop
      unopened after stop (inl (none, is)) = subst IsLast (sym is) (inl (opens_nothing admitted_open (λ x other names o. none other o.exchanged)))
      unopened after stop (inr is) = inr is

      pub no_term : ((x : U) → (out-Step step).args ≡ Term x ∷ [] → ⊥) → IsLast (Fails number)
      no_term none = inl (opens_nothing admitted_open (λ x other names o. none x o.args))

      pub opened : (x after : U) (place : Place) → (out-Step step).args ≡ Term x ∷ [] → ExchangesAt facts level.outs number level.term step after (Ok place)
          → Takes facts outs (among level waiting count) text
          (among (square_of x (level.outs + place.binders)) (record { behind = behind_step level after; root = x } ∷ waiting) (count + 1))
      opened x after place are t =
          opens admitted_open (record { args = are; exchanged = t.0; outs = ap (λ (p : Place). level.outs + p.binders) t.1 })

  -- ---- the line behind inner steps, and behind all steps
  pub closed : (inner : Waiting) → IsRead text Closes → (GoesOut number level.term inner (Ok tt)) → Takes facts outs (among level (inner ∷ waiting) count) text (among inner.behind waiting count)
  closed inner read h = closes read h.0 h.1

  pub unclosed : (inner : Waiting) (stop : Stop) → IsRead text Closes → GoesOut number level.term inner (Err stop)
      → Stops facts outs number (among level (inner ∷ waiting) count) text stop ⊎ (stop ≡ Fault fault.NoMemory)
  unclosed inner stop read (inl (differs, is)) =
      inl (subst (λ s. Stops facts outs number (among level (inner ∷ waiting) count) text s) (sym is) (inner_end_differs read differs))
  unclosed inner stop read (inr (passed, same, large, is)) =
      inl (subst (λ s. Stops facts outs number (among level (inner ∷ waiting) count) text s) (sym is) (passes_behind read same large))

  pub none_closed : waiting ≡ [] → IsRead text Closes → IsLast (misplaced_line number)
  none_closed none read = subst (λ ws. Stops facts outs number (among level ws count) text (misplaced_line number) ⊎ (misplaced_line number ≡ Fault fault.NoMemory)) (sym none) (inl (closes_nothing read))

  pub ended_here : waiting ≡ [] → IsRead text Ends → Takes facts outs (among level waiting count) text (ended level.term)
  ended_here none read = subst (λ ws. Takes facts outs (among level ws count) text (ended level.term)) (sym none) (ends read)

  pub ended_within : (inner : Waiting) (others : List Waiting) → waiting ≡ inner ∷ others → IsRead text Ends → IsLast (misplaced_line number)
  ended_within inner others is read =
      subst (λ ws. Stops facts outs number (among level ws count) text (misplaced_line number) ⊎ (misplaced_line number ≡ Fault fault.NoMemory)) (sym is) (inl (ends_within read))

-- ---- steps can be made again
pub opened-near : (facts : Facts) (level : Level) (waiting : List Waiting) (step : Step) (number : ℕ) (x after : U) (place : Place) → CanStep level waiting → length waiting < most_nesting → IsSmall x
    → ExchangesAt facts level.outs number level.term step after (Ok place)
    → CanStep (square_of x (level.outs + place.binders)) (record { behind = behind_step level after; root = x } ∷ waiting)
opened-near facts level waiting step number x after place can few small t =
    let b : place.binders ≡ binders t.0.replaced.context = ap (λ (p : Place). p.binders) t.1 in
    record {
      term = inr (record { factor = x; small = small; square = refl });
      names = (omega (arith, b, few-binders facts level.outs level.term step after t.0, steppable-depth level.term can.term), can.names);
      few = omega (arith, few);
    }

pub names-fit : (facts : Facts) (level : Level) (waiting : List Waiting) (step : Step) (number : ℕ) (after : U) (place : Place) → CanStep level waiting
    → ExchangesAt facts level.outs number level.term step after (Ok place) → level.outs + place.binders < 2 ^ 32
names-fit facts level waiting step number after place can t =
    let b : place.binders ≡ binders t.0.replaced.context = ap (λ (p : Place). p.binders) t.1 in
    omega (arith, b, few-outs level waiting can, few-binders facts level.outs level.term step after t.0, steppable-depth level.term can.term)

pub kept_on : (outs : ℕ) (steps : Steps) (next : Part) → GoOn next steps → AreKept outs next steps
kept_on outs steps part.Version kept = absurd kept
kept_on outs steps part.Width kept = absurd kept
kept_on outs steps part.Steps kept = kept
kept_on outs steps part.Ended kept = kept
