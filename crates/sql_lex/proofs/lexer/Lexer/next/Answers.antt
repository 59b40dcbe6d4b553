use Rattle.std.proofs.Common.{◌+◌, arith, sym, ◌∙◌, ap, refl}
use Rattle.sql_lex.specs.Lexing.{lexed}
use Rattle.sql_lex.specs.Lexemes.{with_first}
use Rattle.sql_lex.proofs.WholeTexts.{passes_gap, gives_token, gives_fault, gives_nothing, some_token, some_fault, lexed-nothing}
use Rattle.sql_lex.proofs.lexer.Lexer.next.Goals as goal

pub split_at-requires : goal.split_at-requires
split_at-requires c = (passes_gap c.loop-self.self-inside.start c.in-Ok-Gap.len c.in-Ok-Gap.field-0 c.loop-self.self-inside.rest.now c.loop-self-test.ensures c.in-Ok-Gap.ensures c.in-Ok-Gap.field-0-is).within

pub loop-self-smaller : goal.loop-self-smaller
loop-self-smaller c =
    let p = passes_gap c.loop-self.self-inside.start c.in-Ok-Gap.len c.in-Ok-Gap.field-0 c.loop-self.self-inside.rest.now c.loop-self-test.ensures c.in-Ok-Gap.ensures c.in-Ok-Gap.field-0-is in
    omega arith

pub loop-self-preserved : goal.loop-self-preserved
loop-self-preserved c =
    let p = passes_gap c.loop-self.self-inside.start c.in-Ok-Gap.len c.in-Ok-Gap.field-0 c.loop-self.self-inside.rest.now c.loop-self-test.ensures c.in-Ok-Gap.ensures c.in-Ok-Gap.field-0-is in
    record {
      held = ap (lexed (c.loop-self.self-inside.start + c.in-Ok-Gap.len)) c.split_at.ensures.back ∙ p.held ∙ c.loop-self.invariant.held;
      fits = omega arith;
    }

pub split_at-requires-in-Ok-Lexeme : goal.split_at-requires-in-Ok-Lexeme
split_at-requires-in-Ok-Lexeme c = (gives_token c.loop-self.self-inside.start c.in-Ok-Lexeme.len c.in-Ok-Lexeme.kind c.in-Ok-Lexeme.field-0 c.loop-self.self-inside.rest.now c.loop-self-test.ensures c.in-Ok-Lexeme.ensures c.in-Ok-Lexeme.field-0-is).within

pub returns-in-Ok-Lexeme-clause-token : goal.returns-in-Ok-Lexeme-clause-token
returns-in-Ok-Lexeme-clause-token c =
    let start = c.loop-self.self-inside.start in
    let kind = c.in-Ok-Lexeme.kind in
    let g = gives_token start c.in-Ok-Lexeme.len kind c.in-Ok-Lexeme.field-0 c.loop-self.self-inside.rest.now c.loop-self-test.ensures c.in-Ok-Lexeme.ensures c.in-Ok-Lexeme.field-0-is in
    let parts = c.split_at-in-Ok-Lexeme.ensures in
    sym c.loop-self.invariant.held ∙ g.held
    ∙ (λ i. with_first (record { kind = kind; text = sym parts.front i; start = start }) (lexed (start + c.in-Ok-Lexeme.len) (sym parts.back i)))

pub returns-in-Ok-Lexeme-clause-end : goal.returns-in-Ok-Lexeme-clause-end
returns-in-Ok-Lexeme-clause-end c =
    let g = gives_token c.loop-self.self-inside.start c.in-Ok-Lexeme.len c.in-Ok-Lexeme.kind c.in-Ok-Lexeme.field-0 c.loop-self.self-inside.rest.now c.loop-self-test.ensures c.in-Ok-Lexeme.ensures c.in-Ok-Lexeme.field-0-is in
    (λ e. cc, λ e. absurd (some_token _ _ (sym g.held ∙ c.loop-self.invariant.held ∙ e)))

pub returns-in-Err-clause-fault : goal.returns-in-Err-clause-fault
returns-in-Err-clause-fault c = (
  sym c.loop-self.invariant.held ∙ gives_fault c.loop-self.self-inside.start c.in-Err.code c.loop-self.self-inside.rest.now c.loop-self-test.ensures c.in-Err.ensures,
  lexed-nothing c.loop-self.self-inside.start,
)

pub returns-in-Err-clause-end : goal.returns-in-Err-clause-end
returns-in-Err-clause-end c =
    let fault = gives_fault c.loop-self.self-inside.start c.in-Err.code c.loop-self.self-inside.rest.now c.loop-self-test.ensures c.in-Err.ensures in
    (λ e. cc, λ e. absurd (some_fault _ (sym fault ∙ c.loop-self.invariant.held ∙ e)))

pub returns-clause-end : goal.returns-clause-end
returns-clause-end c =
    (λ e. sym c.loop-self.invariant.held ∙ gives_nothing c.loop-self.self-inside.start c.loop-self.self-inside.rest.now c.loop-self-test.ensures, λ e. refl)

pub returns-clause-after_end : goal.returns-clause-after_end
returns-clause-after_end c = λ e. gives_nothing c.loop-self.self-inside.start c.loop-self.self-inside.rest.now c.loop-self-test.ensures
