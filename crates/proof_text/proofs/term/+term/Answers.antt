use Rattle.std.proofs.Common.{◌≡◌, ◌+◌, ◌-◌, length, take, ◌++◌, ◌∷◌, [], arith, rules, refl, ◌∙◌}
use Rattle.proof_text.proofs.reading.Firsts.{begun, value_begun, no_term, no_value}
use Rattle.proof_text.proofs.reading.Loops.{behind-none, values-over, values-halted, values-next, values-last}
use Rattle.std.proofs.lemmas.List.{length-set}
use Rattle.proof_text.proofs.reading.Overwritten.{written}
use Rattle.proof_text.specs.Reading.{Stops, ◌>>=◌, value_at, values_at, list_of, expected}
use Rattle.proof_text.specs.Signs as s
use Rattle.std.specs.Prelude.{Ok}
use Rattle.proof_text.proofs.term.+term.Goals as goal

pub term-returns-in_err-enter-in-Digit0 : goal.term-returns-in_err-enter-in-Digit0
term-returns-in_err-enter-in-Digit0 t c = rw (begun c.args.levels c.args.cursor.now s.Digit0 (search rules) refl) (search rules)

pub term-returns-in_ok-enter-in-Digit0 : goal.term-returns-in_ok-enter-in-Digit0
term-returns-in_ok-enter-in-Digit0 t c = rw (begun c.args.levels c.args.cursor.now s.Digit0 (search rules) refl) (search rules)

pub term-returns-in_err-enter-in-Digit1 : goal.term-returns-in_err-enter-in-Digit1
term-returns-in_err-enter-in-Digit1 t c = rw (begun c.args.levels c.args.cursor.now s.Digit1 (search rules) refl) (search rules)

pub term-returns-in_ok-enter-in-Digit1 : goal.term-returns-in_ok-enter-in-Digit1
term-returns-in_ok-enter-in-Digit1 t c = rw (begun c.args.levels c.args.cursor.now s.Digit1 (search rules) refl) (search rules)

pub term-returns-in_err-enter-in-Plus : goal.term-returns-in_err-enter-in-Plus
term-returns-in_err-enter-in-Plus t c = rw (begun c.args.levels c.args.cursor.now s.Plus (search rules) refl) (search rules)

pub term-returns-in_ok-enter-in-Plus : goal.term-returns-in_ok-enter-in-Plus
term-returns-in_ok-enter-in-Plus t c = rw (begun c.args.levels c.args.cursor.now s.Plus (search rules) refl) (search rules)

pub term-returns-in_err-enter-in-Star : goal.term-returns-in_err-enter-in-Star
term-returns-in_err-enter-in-Star t c = rw (begun c.args.levels c.args.cursor.now s.Star (search rules) refl) (search rules)

pub term-returns-in_ok-enter-in-Star : goal.term-returns-in_ok-enter-in-Star
term-returns-in_ok-enter-in-Star t c = rw (begun c.args.levels c.args.cursor.now s.Star (search rules) refl) (search rules)

pub term-returns-in_err-enter-in-Hash : goal.term-returns-in_err-enter-in-Hash
term-returns-in_err-enter-in-Hash t c = rw (begun c.args.levels c.args.cursor.now s.Hash (search rules) refl) (search rules)

pub term-returns-in_ok-enter-in-Hash : goal.term-returns-in_ok-enter-in-Hash
term-returns-in_ok-enter-in-Hash t c = rw (begun c.args.levels c.args.cursor.now s.Hash (search rules) refl) (search rules)

pub term-returns-in_err-enter-in-Bang : goal.term-returns-in_err-enter-in-Bang
term-returns-in_err-enter-in-Bang t c = rw (begun c.args.levels c.args.cursor.now s.Bang (search rules) refl) (search rules)

pub term-returns-in_ok-enter-in-Bang : goal.term-returns-in_ok-enter-in-Bang
term-returns-in_ok-enter-in-Bang t c = rw (begun c.args.levels c.args.cursor.now s.Bang (search rules) refl) (search rules)

pub term-returns-in_err-enter-in-UpperS : goal.term-returns-in_err-enter-in-UpperS
term-returns-in_err-enter-in-UpperS t c = rw (begun c.args.levels c.args.cursor.now s.UpperS (search rules) refl) (search rules)

pub term-returns-in_ok-enter-in-UpperS : goal.term-returns-in_ok-enter-in-UpperS
term-returns-in_ok-enter-in-UpperS t c = rw (begun c.args.levels c.args.cursor.now s.UpperS (search rules) refl) (search rules)

pub term-returns-in_err-enter-in-UpperR : goal.term-returns-in_err-enter-in-UpperR
term-returns-in_err-enter-in-UpperR t c = rw (begun c.args.levels c.args.cursor.now s.UpperR (search rules) refl) (search rules)

pub term-returns-in_ok-enter-in-UpperR : goal.term-returns-in_ok-enter-in-UpperR
term-returns-in_ok-enter-in-UpperR t c = rw (begun c.args.levels c.args.cursor.now s.UpperR (search rules) refl) (search rules)

pub term-returns-in_err-enter-in-Equals : goal.term-returns-in_err-enter-in-Equals
term-returns-in_err-enter-in-Equals t c = rw (begun c.args.levels c.args.cursor.now s.Equals (search rules) refl) (search rules)

pub term-returns-in_ok-enter-in-Equals : goal.term-returns-in_ok-enter-in-Equals
term-returns-in_ok-enter-in-Equals t c = rw (begun c.args.levels c.args.cursor.now s.Equals (search rules) refl) (search rules)

pub term-returns-in_err-enter-in-UpperP : goal.term-returns-in_err-enter-in-UpperP
term-returns-in_err-enter-in-UpperP t c = rw (begun c.args.levels c.args.cursor.now s.UpperP (search rules) refl) (search rules)

pub term-returns-in_ok-enter-in-UpperP : goal.term-returns-in_ok-enter-in-UpperP
term-returns-in_ok-enter-in-UpperP t c = rw (begun c.args.levels c.args.cursor.now s.UpperP (search rules) refl) (search rules)

pub term-returns-in_default : goal.term-returns-in_default
term-returns-in_default t c =
    let d = c.in_default in
    no_term c.args.levels c.args.cursor.now c.peek.result c.peek.ensures d.not-Digit0 d.not-Digit1 d.not-Plus d.not-Star d.not-Hash d.not-Bang d.not-UpperS d.not-UpperR d.not-Equals d.not-UpperP

pub value-returns-in_err-enter-in-SmallB : goal.value-returns-in_err-enter-in-SmallB
value-returns-in_err-enter-in-SmallB t c = rw (value_begun c.args.levels c.args.cursor.now s.SmallB (search rules) refl) (search rules)

pub value-returns-in_err-number-in-SmallB : goal.value-returns-in_err-number-in-SmallB
value-returns-in_err-number-in-SmallB t c = rw (value_begun c.args.levels c.args.cursor.now s.SmallB (search rules) refl) (search rules)

pub value-returns-in_ok-number-in-SmallB : goal.value-returns-in_ok-number-in-SmallB
value-returns-in_ok-number-in-SmallB t c = rw (value_begun c.args.levels c.args.cursor.now s.SmallB (search rules) refl) (search rules)

pub value-returns-in_err-enter-in-SmallF : goal.value-returns-in_err-enter-in-SmallF
value-returns-in_err-enter-in-SmallF t c = rw (value_begun c.args.levels c.args.cursor.now s.SmallF (search rules) refl) (search rules)

pub value-returns-in_err-number-in-SmallF : goal.value-returns-in_err-number-in-SmallF
value-returns-in_err-number-in-SmallF t c = rw (value_begun c.args.levels c.args.cursor.now s.SmallF (search rules) refl) (search rules)

pub value-returns-in_ok-number-in-SmallF : goal.value-returns-in_ok-number-in-SmallF
value-returns-in_ok-number-in-SmallF t c = rw (value_begun c.args.levels c.args.cursor.now s.SmallF (search rules) refl) (search rules)

pub value-returns-in_err-enter-in-SmallC : goal.value-returns-in_err-enter-in-SmallC
value-returns-in_err-enter-in-SmallC t c = rw (value_begun c.args.levels c.args.cursor.now s.SmallC (search rules) refl) (search rules)

pub value-returns-in_err-number-in-SmallC : goal.value-returns-in_err-number-in-SmallC
value-returns-in_err-number-in-SmallC t c = rw (value_begun c.args.levels c.args.cursor.now s.SmallC (search rules) refl) (search rules)

pub value-returns-in_ok-number-in-SmallC : goal.value-returns-in_ok-number-in-SmallC
value-returns-in_ok-number-in-SmallC t c = rw (value_begun c.args.levels c.args.cursor.now s.SmallC (search rules) refl) (search rules)

pub value-returns-in_err-enter-in-UpperF : goal.value-returns-in_err-enter-in-UpperF
value-returns-in_err-enter-in-UpperF t c = rw (value_begun c.args.levels c.args.cursor.now s.UpperF (search rules) refl) (search rules)

pub value-returns-in_ok-enter-in-UpperF : goal.value-returns-in_ok-enter-in-UpperF
value-returns-in_ok-enter-in-UpperF t c = rw (value_begun c.args.levels c.args.cursor.now s.UpperF (search rules) refl) (search rules)

pub value-returns-in_err-enter-in-UpperG : goal.value-returns-in_err-enter-in-UpperG
value-returns-in_err-enter-in-UpperG t c = rw (value_begun c.args.levels c.args.cursor.now s.UpperG (search rules) refl) (search rules)

pub value-returns-in_ok-enter-in-UpperG : goal.value-returns-in_ok-enter-in-UpperG
value-returns-in_ok-enter-in-UpperG t c = rw (value_begun c.args.levels c.args.cursor.now s.UpperG (search rules) refl) (search rules)

pub value-returns-in_default : goal.value-returns-in_default
value-returns-in_default t c =
    let d = c.in_default in
    no_value c.args.levels c.args.cursor.now c.peek.result c.peek.ensures d.not-SmallB d.not-SmallF d.not-SmallC d.not-UpperF d.not-UpperG

pub values-loop-at-init : goal.values-loop-at-init
values-loop-at-init t c =
    let z : c.left-at-end.result - 0 ≡ length c.expect.new.self.text = omega (arith, c.left-at-end.ensures.left) in
    let e : values_at (value_at c.args.levels) (c.left-at-end.result - 0) c.expect.new.self ≡ list_of (value_at c.args.levels) c.args.cursor.now = rw z (search rules) in
    record { within = omega arith; same = behind-none _ ∙ e }

pub values-returns-in_err-value : goal.values-returns-in_err-value
values-returns-in_err-value t c =
    let e : Stops c.in_err-value.field-0.0 c.value.new.cursor (list_of (value_at c.args.levels) c.args.cursor.now) =
    values-halted _ _ _ _ _ c.loop-at.invariant.same (omega arith) c.in_err-value.field-0.0 _ (search rules) in
    search rules

pub values-returns-in_err-expect-2 : goal.values-returns-in_err-expect-2
values-returns-in_err-expect-2 t c =
    let e : list_of (value_at c.args.levels) c.args.cursor.now ≡ (expected 21 c.value.new.cursor >>= λ close r. (Ok (take c.loop-at.at c.loop-at.kept ++ c.value.new.kept ∷ []), r)) =
    values-last _ _ _ _ _ c.loop-at.invariant.same (omega arith) c.value.new.kept c.value.new.cursor (search rules) (search rules) in
    search rules

pub values-returns-then-code-2 : goal.values-returns-then-code-2
values-returns-then-code-2 t c =
    let e : list_of (value_at c.args.levels) c.args.cursor.now ≡ (expected 21 c.value.new.cursor >>= λ close r. (Ok (take c.loop-at.at c.loop-at.kept ++ c.value.new.kept ∷ []), r)) =
    values-last _ _ _ _ _ c.loop-at.invariant.same (omega arith) c.value.new.kept c.value.new.cursor (search rules) (search rules) in
    let o : expected 21 c.value.new.cursor ≡ (Ok tt, c.expect-then-code-2.new.self) = search rules in
    let k : c.cut-then-code-2.new.kept ≡ take c.loop-at.at c.loop-at.kept ++ c.value.new.kept ∷ [] =
    c.cut-then-code-2.ensures ∙ written c.loop-at.kept c.ready_value.new.kept c.loop-at.at c.value.new.kept c.in_ok-ready_value.ensures.within c.in_ok-ready_value.ensures.before in
    rw (e, o, k) refl

pub values-loop-at-preserved : goal.values-loop-at-preserved
values-loop-at-preserved t c =
    let z : c.left-at-end.result - (c.loop-at.at + 1) ≡ c.left-at-end.result - c.loop-at.at - 1 = omega arith in
    let p = written c.loop-at.kept c.ready_value.new.kept c.loop-at.at c.value.new.kept c.in_ok-ready_value.ensures.within c.in_ok-ready_value.ensures.before in
    record {
      within = rw length-set (omega (arith, c.in_ok-ready_value.ensures.within));
      same = rw (p, c.pass-in-loop-at.ensures, z) (values-next _ _ _ _ _ c.loop-at.invariant.same (omega arith) c.value.new.kept c.value.new.cursor (search rules) (search rules));
    }

pub values-returns : goal.values-returns
values-returns t c = values-over _ _ _ _ _ c.loop-at.invariant.same (omega arith)
