use Rattle.std.proofs.Common.{◌≡◌, ◌+◌, get_or, length, take, arith, rules, refl, ◌∙◌}
use Rattle.std.specs.Prelude.{Ok}
use Rattle.std.proofs.lemmas.List.{length-set, take_all}
use Rattle.proof_text.specs.declared.kinds.Kind.TheVariants as kind
use Rattle.proof_text.specs.Reading.{Stops, argument_at, arguments_at, expected}
use Rattle.proof_text.proofs.reading.Loops.{behind-none, arguments-halted, argument-halted, arguments-next, arguments-over}
use Rattle.proof_text.proofs.reading.Overwritten.{written}
use Rattle.proof_text.proofs.argument.arguments.Goals as goal

pub loop-at-init : goal.loop-at-init
loop-at-init c = record { within = omega arith; same = behind-none _ }

pub returns-in_err-expect : goal.returns-in_err-expect
returns-in_err-expect c =
    let e : Stops c.in_err-expect.field-0.0 c.expect.new.self (arguments_at c.args.kinds.now c.args.cursor.now) =
    arguments-halted (take c.loop-at.at c.loop-at.kept) c.args.kinds.now c.loop-at.at c.loop-at.cursor _ c.loop-at.invariant.same (omega arith) _ _ (search rules) in
    search rules

pub returns-in_err-argument : goal.returns-in_err-argument
returns-in_err-argument c =
    let o : expected 23 c.loop-at.cursor ≡ (Ok tt, c.expect.new.self) = search rules in
    let e : Stops c.in_err-argument.field-0.0 c.argument.new.cursor (arguments_at c.args.kinds.now c.args.cursor.now) =
    argument-halted (take c.loop-at.at c.loop-at.kept) c.args.kinds.now c.loop-at.at c.loop-at.cursor _ c.loop-at.invariant.same (omega arith) _ o _ _ (search rules) in
    search rules

pub loop-at-preserved : goal.loop-at-preserved
loop-at-preserved c =
    let o : expected 23 c.loop-at.cursor ≡ (Ok tt, c.expect.new.self) = search rules in
    let a : argument_at (get_or c.args.kinds.now c.loop-at.at kind.Term) c.expect.new.self ≡ (Ok c.argument.new.kept, c.argument.new.cursor) = search rules in
    let p = written c.loop-at.kept c.ready_argument.new.kept c.loop-at.at c.argument.new.kept c.in_ok-ready_argument.ensures.within c.in_ok-ready_argument.ensures.before in
    record {
      within = rw length-set (omega (arith, c.in_ok-ready_argument.ensures.within));
      same = rw p (arguments-next (take c.loop-at.at c.loop-at.kept) c.args.kinds.now c.loop-at.at c.loop-at.cursor _ c.loop-at.invariant.same (omega arith) _ o _ _ a);
    }

pub returns : goal.returns
returns c =
    let k : c.loop-at.at ≡ length c.args.kinds.now = omega arith in
    rw (c.cut.ensures, ← k) (arguments-over (take c.loop-at.at c.loop-at.kept) c.args.kinds.now c.loop-at.at c.loop-at.cursor _ c.loop-at.invariant.same (omega arith))
