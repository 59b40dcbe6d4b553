use Rattle.std.proofs.Common.{◌≡◌, arith, rules}
use Rattle.std.specs.Prelude.{Ok}
use Rattle.proof_text.specs.Signs.{code}
use Rattle.proof_text.specs.Reading.{Stops, expected, word_at}
use Rattle.proof_text.proofs.reading.Loops.{word-halted, word-next, word-over}
use Rattle.proof_text.proofs.rule_name.letters.Goals as goal

pub returns-in_err-expect : goal.returns-in_err-expect
returns-in_err-expect c =
    let e : Stops c.in_err-expect.field-0.0 c.expect.new.self (word_at c.args.bytes.now c.args.cursor.now) =
    word-halted c.args.bytes.now c.loop-byte.byte-index c.loop-byte.cursor _ c.loop-byte.invariant (omega arith) c.sign_of.result c.sign_of.ensures _ _ (search rules) in
    search rules

pub loop-byte-preserved : goal.loop-byte-preserved
loop-byte-preserved c =
    let o : expected (code c.sign_of.result) c.loop-byte.cursor ≡ (Ok tt, c.expect.new.self) = search rules in
    word-next c.args.bytes.now c.loop-byte.byte-index c.loop-byte.cursor _ c.loop-byte.invariant (omega arith) c.sign_of.result c.sign_of.ensures _ o

pub returns : goal.returns
returns c = word-over c.args.bytes.now c.loop-byte.byte-index c.loop-byte.cursor _ c.loop-byte.invariant (omega arith)
