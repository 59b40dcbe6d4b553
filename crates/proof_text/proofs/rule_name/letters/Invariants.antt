use Rattle.std.proofs.Common.{◌≡◌, drop}
use Rattle.proof_text.specs.Reading.{word_at}
use Rattle.proof_text.proofs.rule_name.letters.Given as goal

-- the bytes that are left are read as all were
abbrev pub invariant-loop-byte : goal.invariant-loop-byte
invariant-loop-byte l = word_at (drop l.byte-index l.bytes) l.cursor ≡ word_at l.fn.bytes l.fn.cursor
