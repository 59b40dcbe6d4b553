use Rattle.case_core.specs.Refusals.{IsNoText}
use Rattle.case_core.proofs.Texts.{no_text, refused_at, text_read, tokens_fit}
use Rattle.case_core.proofs.text.read_text.Goals as goal

pub returns-in_err-text-clause-refused : goal.returns-in_err-text-clause-refused
returns-in_err-text-clause-refused c =
    let t = c.in_ok-tokens.ensures in
    refused_at c.from_residual-in_err-text.result (IsNoText c.args.bytes.now) c.from_residual-in_err-text.ensures.1 (no_text c.args.bytes.now c.in_ok-tokens.tokens t.tokens t.end t.copies _ (c.in_err-text.ensures.refused.says c.into_symbols-symbols.ensures.within))

pub returns-clause-read : goal.returns-clause-read
returns-clause-read c =
    let t = c.in_ok-tokens.ensures in
    let text = c.in_ok-text.ensures in
    text_read t.tokens t.numbers t.copies text.taken text.few (text.small (tokens_fit c.args.bytes.now c.in_ok-tokens.tokens c.requires t.tokens)) c.into_symbols-symbols.ensures.numbers c.into_symbols-symbols.ensures.within
