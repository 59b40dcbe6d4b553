-- Where reading stops, as the text is refused there: what was read of the forms of a case is read of the published grammar.
use Rattle.std.proofs.Common.{◌≡◌, ◌≤◌, ℕ, List, [], ◌∷◌, ◌++◌, ◌⊎◌, Option, Some, None, Result, Ok, Err, inl, inr, refl, ◌∙◌, ap, subst, map as map_list}
use Rattle.std.proofs.lemmas.Bool.{cond_both}
use Rattle.std.proofs.lemmas.List.{append-nil}
use Rattle.grammar.specs.Form.{Room}
use Rattle.grammar.specs.Language.{Language, HasPrefixes}
use Rattle.grammar.specs.Reading.{Took, Failed}
use Rattle.grammar.proofs.readers.Longest.{no_longer, stops_at_longest}
use Rattle.grammar.proofs.readers.Steps.{Same, took_in, failed_in}
use Rattle.sql_lex.specs.declared.token.LexFault.{LexFault}
use Rattle.sql_lex.specs.Bytes.{folded_byte}
use Rattle.sql_lex.specs.Lexemes.{Lexeme}
use Rattle.sql_cursor.specs.declared.fault.ReadFault.{ReadFault}
use Rattle.sql_cursor.specs.declared.fault.ReadFault.TheVariants.{Unexpected, LeftOut, TooDeep, Limit, NoMemory}
use Rattle.sql_cursor.specs.declared.fault.LimitKind.TheVariants as limit
use Rattle.sql_cursor.specs.Cursor.{Cursor}
use Rattle.sql_cursor.specs.Eating.{Extends}
use Rattle.sql_grammar.specs.Queries.{most_levels, of_form}
use Rattle.sql_grammar.specs.QueryCopies.{most_copies}
use Rattle.sql_grammar.specs.QueryGrammar.{The}
use Rattle.sql_read.specs.Reads.{Fails, RefusesWithin, TakesWithin, few_form, relations_too}
use Rattle.sql_read.specs.ReadingTexts as of_texts
use Rattle.sql_cursor.specs.Refusals.{is_left_out_word, refusal_of}
use Rattle.sql_read.proofs.whole.WholeTexts as whole
use Rattle.sql_read.proofs.whole.WholeTexts.{refusal_here}
use Rattle.schema_read.specs.Counting.{IsPlaced}
use Rattle.schema_read.specs.StatementGrammar.{statements}
use Rattle.sql_grammar.specs.FactoredQueries.{in_factored}
use Rattle.schema_read.proofs.counts.CountSteps.{begun_free}
use Rattle.sql_grammar.proofs.queries.QueryForms.{form_has_prefixes, known_includes, left_factored_includes}
use Rattle.case_core.specs.declared.fault.CaseFault.TheVariants.{Read}
use Rattle.case_core.specs.CaseGrammar as g
use Rattle.case_core.specs.Cases.{cases, texts}
use Rattle.case_core.specs.ReadingCases.{IsMore, RefusesCase}
use Rattle.case_core.specs.Refusals.{GoesOnBehind, HasNotTwoQueries, IsUnfinished, Says}
use Rattle.case_core.specs.Wrapping.{of_read}
use Rattle.case_core.proofs.CaseCopies.{CopiedAll, Counted, case_costs, keeps_limits}
use Rattle.case_core.proofs.CaseCounts.{CountsRefused, KeepsAll, few_before, left_factored_within, within_prefixes, within_same}
use Rattle.schema_read.proofs.counts.CopiedParts.{counted_within, keeps_copies}
use Rattle.case_core.proofs.CasePrefixes.{prefixes, no_third, shallow_included}

-- both limits were kept before
abbrev FailsAll : {A : Type 0} → The A → Cursor → ReadFault → Cursor → Type 0
FailsAll f before fault after = Fails relations_too f (few_form f) most_levels before fault after

abbrev pub TakesAll : {A : Type 0} → The A → List Lexeme → A → List Lexeme → Type 0
TakesAll f here value rest = TakesWithin relations_too f (few_form f) most_levels here value rest

abbrev pub RefusesAll : {A : Type 0} → The A → Cursor → ReadFault → Cursor → Type 0
RefusesAll f before fault after = RefusesWithin relations_too f (few_form f) most_levels before fault after

-- ---- of the published grammar

factored_same : {A : Type 0} (f : The A) (room : Room) → Same (in_factored room f) (of_form room f)
factored_same f room = record { there = known_includes room f; back = left_factored_includes room f }

pub took : {A : Type 0} (f : The A) {here rest : List Lexeme} {value : A} → TakesAll f here value rest → Took (of_form None f) (of_form (Some most_levels) f) here value rest
took f {here = here} {rest = rest} {value = value} t = took_in _ _ _ _ (factored_same f None) (factored_same f (Some most_levels)) here value rest t.took

failed : {A : Type 0} (f : The A) {before after : Cursor} {fault : ReadFault} → FailsAll f before fault after → Failed (of_form None f) (of_form (Some most_levels) f) before.tokens after.tokens
failed f {before = before} {after = after} r = failed_in _ _ _ _ (factored_same f None) (factored_same f (Some most_levels)) before.tokens after.tokens r.failed

-- ---- parts that are not all of the text

-- the part was read, and more stands behind it
pub record Behind {V : Type 0} (part : The V) (before : Cursor) : Type 0 where
  pub value : V
  pub here : Cursor
  pub takes : TakesAll part before.tokens value here.tokens
  pub fault : here.fault ≡ before.fault
  pub more : IsMore here

-- the text does not spell the part
abbrev pub Exceeding : {V : Type 0} → The V → Cursor → Type 0
Exceeding {V = V} part before = before.fault ≡ None → (value : V) → (of_form None part).spells before.tokens value → ⊥

pub more_behind : {V : Type 0} {part : The V} {before : Cursor} → Behind part before → Exceeding part before
more_behind {part = part} {before = before} b n value s = stopped b.here.tokens refl
  where
    t : Took (of_form None part) (of_form (Some most_levels) part) before.tokens b.value b.here.tokens
    t = took part b.takes

    stopped : (rest : List Lexeme) → b.here.tokens ≡ rest → ⊥
    stopped [] e = b.more (record { tokens = e; fault = b.fault ∙ n })
    stopped (c ∷ rest) e =
        no_longer (of_form None part) (form_has_prefixes None part) t.taken b.here.tokens c rest t.stops e rest
        (subst (of_form None part).prefix (t.whole ∙ ap (λ z. t.taken ++ z) e) ((form_has_prefixes None part).spelled before.tokens value s))

unspelled : {A : Type 0} (U B : Language Lexeme A) → HasPrefixes U → (ts rest : List Lexeme) → Failed U B ts rest → (value : A) → U.spells ts value → ⊥
unspelled U B l ts [] r value s = r.unspelled value (subst (λ z. U.spells z value) (r.whole ∙ append-nil r.taken) s)
unspelled U B l ts (c ∷ rest) r value s = no_longer U l r.taken (c ∷ rest) c rest r.stops refl rest (subst U.prefix r.whole (l.spelled ts value s))

pub refused_within : {V : Type 0} {part : The V} {before after : Cursor} {fault : ReadFault} → FailsAll part before fault after → Exceeding part before
refused_within {part = part} {before = before} {after = after} r n value s =
    unspelled (of_form None part) (of_form (Some most_levels) part) (form_has_prefixes None part) before.tokens after.tokens (failed part r) value s

-- either shows that the text does not spell the part, where the fault is of the text
abbrev pub Excluded : {V : Type 0} → The V → Cursor → ReadFault → Cursor → Type 0
Excluded part before fault after = Behind part before ⊎ RefusesAll part before fault after

excluded : {V : Type 0} {part : The V} {before after : Cursor} {fault : ReadFault} → (RefusesAll part before fault after → FailsAll part before fault after)
    → Excluded part before fault after → Exceeding part before
excluded is_failed (inl b) = more_behind b
excluded is_failed (inr r) = refused_within (is_failed r)

-- ---- refusals

pub not_two_excluded : (before : Cursor) → Exceeding statements before → Exceeding g.one_query before
    → ((at : ℕ) → GoesOnBehind before.tokens at → ⊥) → (count at : ℕ) → HasNotTwoQueries before.tokens before.fault before.end count at → ⊥
not_two_excluded before none one third count at (inl (e, x)) = none x.last x.value x.whole
not_two_excluded before none one third count at (inr (inl (e, x))) = one x.last x.value x.whole
not_two_excluded before none one third count at (inr (inr (e, x))) = third at x

-- the longest prefix was taken, and keeps the limits
fails_within : {before after : Cursor} (fault : ReadFault) → RefusesAll g.case before fault after → CountsRefused before fault after → IsPlaced fault → FailsAll g.case before fault after → KeepsAll before.tokens after.tokens
fails_within fault r n placed f limit.Columns = n.columns.begun placed
fails_within fault r n placed f limit.Entries = let t = f.few tt in record { taken = t.taken; whole = t.whole; begun = t.begun }
fails_within fault r n placed f limit.Relations = n.relations.begun placed
fails_within fault r n placed f limit.Copies = begun_free {f = g.case} tt fault r placed

unfinished : {before after : Cursor} {fault : ReadFault} → FailsAll g.case before fault after → KeepsAll before.tokens after.tokens → Counted before after → after.copies ≤ most_copies → Extends before after
    → Exceeding statements before → Exceeding g.one_query before → IsUnfinished before.copies before.tokens before.fault before.end fault
unfinished {before} {after} r few copies most x none one =
    let t = failed g.case r in
    record {
      taken = t.taken;
      rest = after.tokens;
      parts = t.whole;
      leading = stops_at_longest cases prefixes before.tokens t.taken after.tokens t.whole (shallow_included.prefix t.taken t.begun) t.stops;
      unspelled = refused_within r;
      not_counted = not_two_excluded before none one (λ at third. no_third t third);
      kept = keeps_limits before.copies t.taken after.tokens t.whole t.begun (few_before few t.taken t.whole) (counted_within copies most t.taken t.whole) t.stops;
      refusal = r.refused ∙ refusal_here x;
    }

-- a limit is passed
limited : {before after : Cursor} (fault : ReadFault) → after.copies ≤ most_copies → RefusesAll g.case before fault after → CountsRefused before fault after → CopiedAll before fault after → Extends before after
    → of_texts.IsRefused texts before.copies before.tokens before.fault before.end fault
limited {before} {after} fault most r n c x =
    whole.refused texts (left_factored_within limit.Columns) (left_factored_within limit.Relations) (within_same limit.Columns) (within_same limit.Entries) (within_same limit.Relations) (λ what. (within_prefixes what).shorter) case_costs
    relations_too tt before after x fault r
    (record { columns_kept = λ placed shallow. n.columns.begun placed; relations_kept = λ placed shallow. n.relations.begun placed; columns_passed = n.columns.passed; relations_passed = n.relations.passed })
    (keeps_copies texts most fault c)

-- ---- all refusals

-- a part of the case was refused, and the text is neither statements alone nor one query behind them
pub refused : {before after : Cursor} {fault : ReadFault} → RefusesAll g.case before fault after → CountsRefused before fault after → CopiedAll before fault after → Extends before after
    → Excluded statements before fault after → Excluded g.one_query before fault after → RefusesCase before (of_read fault) after
refused {fault = TooDeep at} r n c x none one = record { says = λ l. limited (TooDeep at) l r n c x }
refused {fault = Limit what} r n c x none one = record { says = λ l. limited (Limit what) l r n c x }
refused {fault = NoMemory} r n c x none one = record { says = λ l. tt }
refused {fault = other} r n c x none one = record { says = λ l. unfinished r.says (fails_within other r n tt r.says) c.says l x (excluded (λ q. q.says) none) (excluded (λ q. q.says) one) }

-- ---- what stands next is refused: at the end, a token or a lexical fault

pub says_next : (copied : ℕ) (tokens : List Lexeme) (fault : Option LexFault) (end here : ℕ) (stands : Result (Option Lexeme) LexFault)
    → IsUnfinished copied tokens fault end (refusal_of here stands) → Says copied tokens fault end (Read (refusal_of here stands))
says_next copied tokens fault end here (Ok None) u = u
says_next copied tokens fault end here (Ok (Some t)) u =
    cond_both (is_left_out_word t.kind t.text) (LeftOut (map_list folded_byte t.text) t.start) (Unexpected t.start) (λ z. IsUnfinished copied tokens fault end z → Says copied tokens fault end (Read z))
    (λ e u. u) (λ e u. u) u
says_next copied tokens fault end here (Err lexical) u = u
