use Rattle.std.proofs.Common.{subst, sym}
use Rattle.case_core.specs.Answer.{IsCase, IsRefused}
use Rattle.case_core.proofs.Texts.{refused_at}
use Rattle.case_core.proofs.WholeCases.{text_refused}
use Rattle.case_core.proofs.read.read_case.Goals as goal

pub returns-in_err-text-clause-refused : goal.returns-in_err-text-clause-refused
returns-in_err-text-clause-refused c = refused_at c.from_residual.result (IsRefused c.args.bytes.now) c.from_residual.ensures.1 (text_refused c.args.bytes.now _ c.in_err-text.ensures.refused)

pub returns-in_err-resolved-clause-refused : goal.returns-in_err-resolved-clause-refused
returns-in_err-resolved-clause-refused c =
    refused_at c.from_residual-in_err-resolved.result (IsRefused c.args.bytes.now) c.from_residual-in_err-resolved.ensures.1
    (c.in_err-resolved.ensures.refused c.args.bytes.now _ c.in_ok-text.ensures.read)

pub new-requires-clause-symbols : goal.new-requires-clause-symbols
new-requires-clause-symbols c = (c.in_ok-resolved.ensures.read c.in_ok-text.symbols c.args.bytes.now c.in_ok-text.ensures.read).fit_symbols

pub returns-clause-read : goal.returns-clause-read
returns-clause-read c = subst (λ parts. IsCase c.args.bytes.now parts) (sym c.new.ensures) (c.in_ok-resolved.ensures.read c.in_ok-text.symbols c.args.bytes.now c.in_ok-text.ensures.read)
