use Rattle.std.proofs.Common.{◌≡◌, length, sym, ◌∙◌}
use Rattle.std.specs.Prelude.{vec_len}
use Rattle.std.proofs.lemmas.Bool.{eqb-true, eq-eqb}
use Rattle.proof_check.specs.Kept.{level_of, waiting_in}
use Rattle.proof_check.proofs.state.KeptSteps.{none_waits, some_wait, ended_here, ended_within}
use Rattle.proof_check.proofs.steps.Steps.end.Goals as goal

pub returns-then-is_empty-clause-taken : goal.returns-then-is_empty-clause-taken
returns-then-is_empty-clause-taken c facts outs text read =
    let steps = c.args.self.now in
    let none : length steps.waiting.items ≡ 0 = sym steps.waiting.ok.0 ∙ eqb-true (vec_len steps.waiting) 0 (sym c.is_empty.ensures ∙ c.if-is_empty.true) in
    ended_here facts outs c.args.line (level_of steps.level) (waiting_in steps.waiting.items) steps.count text (none_waits steps.waiting.items none) read

pub returns-else-is_empty-clause-taken : goal.returns-else-is_empty-clause-taken
returns-else-is_empty-clause-taken c facts outs text read =
    let steps = c.args.self.now in
    let some = some_wait steps.waiting.items (λ e. let told = eq-eqb (length steps.waiting.items) 0 e in cc (c.is_empty.ensures, c.if-is_empty.false)) in
    rw c.misplaced.ensures (ended_within facts outs c.args.line (level_of steps.level) (waiting_in steps.waiting.items) steps.count text some.0 some.1 some.2 read)
