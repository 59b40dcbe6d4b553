-- What the reader of the tokens answers, as the answer for the text; and the exits of its functions.
use Rattle.std.proofs.Common.{◌≡◌, ◌≤◌, ◌<◌, ◌^◌, ℕ, List, length, Result, sym, ◌∙◌, ap, subst, arith}
use Rattle.std.specs.Prelude.{IfErr}
use Rattle.std.specs.Result.{IsErrAnd}
use Rattle.std.proofs.lemmas.Result.{err_from_is_err_and}
use Rattle.data_model.specs.Lists.{Each}
use Rattle.sql_lex.specs.Tokens.{Lexes}
use Rattle.sql_cursor.specs.Cursor.{Cursor, most_bytes}
use Rattle.sql_grammar.specs.Numbering.{Numbers, first_numbers}
use Rattle.sql_grammar.specs.QueryCopies.{most_copies}
use Rattle.sql_cursor.proofs.code.Cursors.{no_more_tokens}
use Rattle.schema_read.specs.Declarations.{IsSmall}
use Rattle.schema_read.specs.StatementLimits.{most_relations}
use Rattle.case_core.specs.declared.fault.CaseFault.{CaseFault}
use Rattle.case_core.specs.declared.fault.CaseFault.TheVariants.{Read, NotTwoQueries}
use Rattle.case_core.specs.declared.text.CaseText.{CaseText}
use Rattle.grammar.proofs.languages.Limits.{kept}
use Rattle.case_core.specs.Cases.{IsRead, cases, shallow_cases}
use Rattle.case_core.proofs.CasePrefixes.{shallow_prefixes}
use Rattle.case_core.specs.ReadingCases.{RefusesCase, TakesCase}
use Rattle.case_core.specs.Refusals.{IsNoText, Says}

-- at the exit of a `?`
pub refused_at : {X : Type 0} (result : Result X CaseFault) {fault : CaseFault} (P : CaseFault → Type 0) → IsErrAnd result (λ y. y ≡ fault) → P fault → IfErr result P
refused_at result P i p =
    let e = err_from_is_err_and result i in
    subst (λ z. IfErr z P) (sym e.1) (subst P (sym e.2) p)

pub refused_exit : {X : Type 0} {before after : Cursor} {fault : CaseFault} (result : Result X CaseFault) → IsErrAnd result (λ y. y ≡ fault) → RefusesCase before fault after
    → IfErr result (λ y. RefusesCase before y after)
refused_exit {before = before} {after = after} result i r = refused_at result (λ y. RefusesCase before y after) i r

pub refused_as : {before after : Cursor} {fault other : CaseFault} → other ≡ fault → RefusesCase before fault after → RefusesCase before other after
refused_as {before} {after} e r = subst (λ y. RefusesCase before y after) (sym e) r

pub no_text : (text : List ℕ) (start : Cursor) → Lexes 0 text start.tokens start.fault → start.end ≡ length text → start.copies ≡ 0 → (fault : CaseFault) → Says start.copies start.tokens start.fault start.end fault → IsNoText text fault
no_text text start l e i (Read fault) s =
    record { tokens = start.tokens; fault = start.fault; lexed = l; says = subst (λ end. Says 0 start.tokens start.fault end (Read fault)) e (subst (λ copied. Says copied start.tokens start.fault start.end (Read fault)) i s) }
no_text text start l e i (NotTwoQueries count at) s =
    record { tokens = start.tokens; fault = start.fault; lexed = l; says = subst (λ end. Says 0 start.tokens start.fault end (NotTwoQueries count at)) e (subst (λ copied. Says copied start.tokens start.fault start.end (NotTwoQueries count at)) i s) }
no_text text start l e i other s = s

pub text_read : {text : List ℕ} {start end : Cursor} {written : CaseText} {numbers : Numbers} → Lexes 0 text start.tokens start.fault → start.numbers ≡ first_numbers
    → start.copies ≡ 0 → TakesCase start written end → length written.statements ≤ most_relations → Each IsSmall written.statements → numbers ≡ end.numbers → end.copies ≤ most_copies → IsRead text written numbers
text_read {text} {start} {end} {written} l f none t few small n most = record {
  spells = record {
    tokens = start.tokens;
    lexed = subst (λ z. Lexes 0 text start.tokens z) t.last l;
    read = t.value;
    spelled = t.spelled;
    built = ap (λ z. t.value.build z) (sym f) ∙ (t.built ∙ ap (λ z. (written, z)) (sym n));
  };
  shallow = kept cases shallow_cases shallow_prefixes.shorter start.tokens (shallow_prefixes.spelled start.tokens t.value t.shallow);
  few = t.few;
  few_copies = omega (arith, none, most, t.copied);
  few_relations = few;
  small = small;
}

pub tokens_fit : (text : List ℕ) (start : Cursor) → length text ≤ most_bytes → Lexes 0 text start.tokens start.fault → length start.tokens < 2 ^ 31
tokens_fit text start i l = omega (arith, i, no_more_tokens 0 text start.tokens start.fault l)
