use Rattle.std.proofs.Common.{◌≡◌, ◌+◌, ◌-◌, length, arith, rules, refl}
use Rattle.std.specs.Prelude.{Ok, None, Some}
use Rattle.proof_text.specs.Reading.{Stops, path_at, run_at}
use Rattle.proof_text.proofs.reading.Loops.{behind-none, runs-halted, runs-last, runs-next, runs-over}
use Rattle.proof_text.proofs.path.path.Goals as goal

pub loop-init : goal.loop-init
loop-init c =
    let z : c.left-end.result - 0 ≡ length c.args.cursor.now.text = omega (arith, c.left-end.ensures.left) in
    rw (c.new-path.ensures, z) (record { same = behind-none _; last = refl })

pub returns-in_err-run : goal.returns-in_err-run
returns-in_err-run c =
    let e : Stops c.in_err-run.field-0.0 c.run.new.cursor (path_at c.args.cursor.now) =
    runs-halted _ _ _ _ _ c.loop.invariant.same (omega arith) c.in_err-run.field-0.0 _ c.in_err-run.ensures.gives in
    search rules

pub returns-in_default : goal.returns-in_default
returns-in_default c =
    let e : run_at c.loop.last c.loop.cursor ≡ (Ok None, c.run.new.cursor) = search rules in
    runs-last _ _ _ _ _ c.loop.invariant.same (omega arith) c.run.new.cursor e

pub loop-preserved : goal.loop-preserved
loop-preserved c =
    let z : c.left-end.result - (c.loop.counter + 1) ≡ c.left-end.result - c.loop.counter - 1 = omega arith in
    let e : run_at c.loop.last c.loop.cursor ≡ (Ok (Some c.in-Some.run'), c.run.new.cursor) = search rules in
    rw (c.in_ok-push.ensures.runs, c.last_of-last.ensures, z)
    (record { same = runs-next _ _ _ _ _ c.loop.invariant.same (omega arith) c.in-Some.run' c.run.new.cursor e; last = search rules })

pub returns : goal.returns
returns c = runs-over _ _ _ _ _ c.loop.invariant.same (omega arith)
