-- What readers read of the left-factored grammar is read of texts of the grammar: of queries, of statements and of whole cases alike.
use Rattle.std.proofs.Common.{◌≡◌, ◌≤◌, ℕ, List, [], ◌∷◌, ◌++◌, length, length-append, Some, None, refl, sym, ◌∙◌, ap, subst, append_assoc, arith}
use Rattle.grammar.specs.Completions.{Reaches}
use Rattle.grammar.specs.Language.{HasPrefixes, Language}
use Rattle.grammar.specs.Limits.{IsFirstBeyond}
use Rattle.grammar.specs.Reading.{Began, Exceeded, Failed, Passes as PassesHere, Took}
use Rattle.grammar.proofs.languages.Limits.{CostsByCompletion, IsPrefixClosed}
use Rattle.grammar.proofs.readers.Longest.{stops_at_longest}
use Rattle.grammar.proofs.languages.Forms.{form_prefixes}
use Rattle.grammar.proofs.languages.Heights.{name_prefixes}
use Rattle.grammar.proofs.readers.Steps.{Same, failed_in, took_in}
use Rattle.sql_lex.specs.Lexemes.{Lexeme}
use Rattle.sql_cursor.specs.declared.fault.LimitKind.{LimitKind}
use Rattle.sql_cursor.specs.declared.fault.LimitKind.TheVariants as limit
use Rattle.sql_cursor.specs.declared.fault.ReadFault.{ReadFault}
use Rattle.sql_cursor.specs.declared.fault.ReadFault.TheVariants.{TooDeep, Limit, NoMemory}
use Rattle.sql_read.specs.Copied.{CopiesTooMuch}
use Rattle.sql_cursor.specs.Cursor.{Cursor, next}
use Rattle.sql_cursor.specs.Eating.{Extends, IsNextAt}
use Rattle.sql_read.specs.ReadingTexts.{IsRead, IsRefused, IsSooner, IsUnfinished, Passes, PassesDepth, TextLimit, Texts, any, count_limit, depth_limit, keeping}
use Rattle.sql_read.specs.Reads.{Fails, GivesWithin, IsPlaced, RefusesWithin, SaysLimit, TellsEntries, Told, few_form}
use Rattle.sql_cursor.specs.Refusals.{refusal, refusal_of}
use Rattle.sql_grammar.specs.Numbering.{Built}
use Rattle.sql_grammar.specs.Queries.{most_levels, of_form}
use Rattle.sql_grammar.specs.Kinds.{kind_of}
use Rattle.sql_grammar.specs.QueryCopies.{copies_nothing, most_copies, within_copies}
use Rattle.sql_grammar.specs.FactoredQueries.{in_factored, of_factored, factored}
use Rattle.sql_grammar.proofs.copies.CopyLimits.{too_many_here}
use Rattle.sql_grammar.proofs.queries.QueryForms.{form_has_prefixes, known_includes, left_factored_includes, roomier}
use Rattle.sql_read.proofs.steps.ReadSteps.{same_taken}

pub refusal_here : {before after : Cursor} → Extends before after → refusal after ≡ refusal_of before.end (next after.tokens before.fault)
refusal_here {before} {after} x = ap (λ end. refusal_of end (next after.tokens after.fault)) x.end ∙ ap (λ f. refusal_of before.end (next after.tokens f)) x.fault

-- what was taken, whatever begins it
pub prefix_taken : {A : Type 0} {P L : Language Lexeme A} {ts rest : List Lexeme} → Same P L → Began P ts rest → (taken : List Lexeme) → ts ≡ taken ++ rest → L.prefix taken
prefix_taken {L = L} {ts = ts} {rest = rest} s b taken e = subst L.prefix (same_taken ts rest b.taken taken b.whole e) (s.there.prefix b.taken b.begun)

failed_began : {A : Type 0} {U B : Language Lexeme A} {ts rest : List Lexeme} → Failed U B ts rest → Began B ts rest
failed_began r = record { taken = r.taken; whole = r.whole; begun = r.begun }

exceeded_began : {A : Type 0} {U B : Language Lexeme A} {ts rest : List Lexeme} → Exceeded U B ts rest → Began B ts rest
exceeded_began r = record { taken = r.taken; whole = r.whole; begun = r.begun }

-- before a token that goes on
began_before : {A : Type 0} {L : Language Lexeme A} → IsPrefixClosed L → {ts here more : List Lexeme} {token : Lexeme} (taken : List Lexeme) → ts ≡ taken ++ here → here ≡ token ∷ more → Began L ts more → Began L ts here
began_before {L = L} closed {ts} {here} {more} {token} taken whole stood b = record {
  taken = taken;
  whole = whole;
  begun = closed taken (token ∷ []) (subst L.prefix (same_taken ts more b.taken (taken ++ token ∷ []) b.whole (whole ∙ ap (λ z. taken ++ z) stood ∙ sym (append_assoc taken (token ∷ []) more))) b.begun);
}

module _ {A : Type 0} (T : Texts A) where
  pub free_same : Same (in_factored None T.form) (any T)
  free_same = record { there = known_includes None T.form; back = left_factored_includes None T.form }

  pub shallow_same : Same (in_factored (Some most_levels) T.form) (of_form (Some most_levels) T.form)
  shallow_same = record { there = known_includes (Some most_levels) T.form; back = left_factored_includes (Some most_levels) T.form }

  -- what was taken from here to there keeps this limit
  abbrev pub KeptTo : TextLimit → Cursor → List Lexeme → Type 0
  KeptTo which before rest = (taken : List Lexeme) → before.tokens ≡ taken ++ rest → (keeping T before.copies which).prefix taken

  unfinished : {before after : Cursor} {fault : ReadFault} → Failed (in_factored None T.form) (in_factored (Some most_levels) T.form) before.tokens after.tokens → fault ≡ refusal after → Extends before after
      → ((which : TextLimit) → KeptTo which before after.tokens) → IsUnfinished T before.copies before.tokens before.fault before.end fault
  unfinished {before} {after} r refused x kept =
      let t = failed_in _ _ _ _ free_same shallow_same before.tokens after.tokens r in
      record {
        taken = t.taken;
        rest = after.tokens;
        parts = t.whole;
        leading = stops_at_longest (any T) (form_has_prefixes None T.form) before.tokens t.taken after.tokens t.whole ((roomier (Some most_levels) None tt T.form).prefix t.taken t.begun) t.stops;
        unspelled = t.unspelled;
        kept = λ which. kept which t.taken t.whole;
        refusal = refused ∙ refusal_here x;
      }

  -- The next token goes on in the left-factored grammar, and passes a limit, whose texts of the left-factored grammar are those of L.
  passes : (which : TextLimit) (L : Language Lexeme (Built A)) (before : Cursor) (here more : List Lexeme) (token : Lexeme) → Same L (keeping T before.copies which) → Exceeded (in_factored None T.form) L before.tokens here → here ≡ token ∷ more
      → ((other : TextLimit) → KeptTo other before here) → ((other : TextLimit) → IsSooner other which → KeptTo other before more) → Passes T before.copies before.tokens which
  passes which L before here more token s e stood kept sooner = record {
    taken = e.taken;
    token = token;
    rest = more;
    parts = parts;
    beyond = record { goes_on = free_same.there.prefix _ past.0; within = kept which e.taken e.whole; beyond = λ f. past.1 (s.back.prefix _ f) };
    kept = λ other. kept other e.taken e.whole;
    sooner = λ other i. sooner other i (e.taken ++ token ∷ []) (parts ∙ sym (append_assoc e.taken (token ∷ []) more));
  }
    where
      parts : before.tokens ≡ e.taken ++ token ∷ more
      parts = e.whole ∙ ap (λ z. e.taken ++ z) stood

      past : PassesHere (in_factored None T.form) L e.taken (token ∷ more)
      past = subst (λ z. PassesHere (in_factored None T.form) L e.taken z) stood e.passes

  too_deep : (before after : Cursor) (at : ℕ) → Exceeded (in_factored None T.form) (in_factored (Some most_levels) T.form) before.tokens after.tokens → IsNextAt at after.tokens
      → ((other : TextLimit) → KeptTo other before after.tokens) → PassesDepth T before.copies before.tokens at
  unfolding passes
  too_deep before after at e n kept = by after.tokens refl n
    where
      none_sooner : (rest : List Lexeme) (other : TextLimit) → IsSooner other depth_limit → KeptTo other before rest
      none_sooner rest depth_limit i = absurd i
      none_sooner rest (count_limit what) i = absurd i

      by : (rest : List Lexeme) → after.tokens ≡ rest → IsNextAt at rest → PassesDepth T before.copies before.tokens at
      by [] stood n = absurd (subst (λ z. PassesHere (in_factored None T.form) (in_factored (Some most_levels) T.form) e.taken z) stood e.passes)
      by (token ∷ more) stood n = record { passes = passes depth_limit (in_factored (Some most_levels) T.form) before after.tokens more token shallow_same e stood kept (none_sooner more); place = n }

  -- What is copied up to a refusal is within the limit, or the token that was passed last is the first with which it is not.
  abbrev pub KeepsCopies : Cursor → ReadFault → Cursor → Type 0
  KeepsCopies before (Limit limit.Copies) after = CopiesTooMuch T.form (λ read. read) before before after
  KeepsCopies before NoMemory after = Unit {0}
  KeepsCopies before other after = KeptTo (count_limit limit.Copies) before after.tokens

  -- The texts of the left-factored grammar that keep the limits on columns and on relations.
  module _ (columns relations : Language Lexeme (Built A)) (same_columns : Same columns (T.within limit.Columns)) (same_entries : Same (few_form T.form) (T.within limit.Entries)) (same_relations : Same relations (T.within limit.Relations))
      (closed : (what : LimitKind) → IsPrefixClosed (T.within what)) (costs : CostsByCompletion copies_nothing (any T) (λ read. read.copies)) where
    abbrev Shallow : List Lexeme → List Lexeme → Type 0
    Shallow = Began (in_factored (Some most_levels) T.form)

    -- where the fault tells where it comes, both are kept
    pub record CountsKept (before : Cursor) (fault : ReadFault) (after : Cursor) : Type 0 where
      pub columns_kept : IsPlaced fault → Shallow before.tokens after.tokens → Began columns before.tokens after.tokens
      pub relations_kept : IsPlaced fault → Shallow before.tokens after.tokens → Began relations before.tokens after.tokens
      pub columns_passed : fault ≡ Limit limit.Columns → Exceeded (in_factored None T.form) columns before.tokens after.tokens
      pub relations_passed : fault ≡ Limit limit.Relations → Exceeded (in_factored None T.form) relations before.tokens after.tokens

    module _ {before after : Cursor} {fault : ReadFault} (placed : IsPlaced fault) (n : CountsKept before fault after) (d : Shallow before.tokens after.tokens) (few : Began (few_form T.form) before.tokens after.tokens) where
      -- what is told before copies
      sooner_kept : (which : TextLimit) → IsSooner which (count_limit limit.Copies) → KeptTo which before after.tokens
      sooner_kept depth_limit i = prefix_taken shallow_same d
      sooner_kept (count_limit limit.Columns) i = prefix_taken same_columns (n.columns_kept placed d)
      sooner_kept (count_limit limit.Entries) i = prefix_taken same_entries few
      sooner_kept (count_limit limit.Relations) i = prefix_taken same_relations (n.relations_kept placed d)
      sooner_kept (count_limit limit.Copies) i = absurd i

      pub kept_to : KeptTo (count_limit limit.Copies) before after.tokens → (which : TextLimit) → KeptTo which before after.tokens
      kept_to copies (count_limit limit.Copies) = copies
      kept_to copies other = sooner_kept other tt

    -- ---- what was read

    pub read_whole : {told : Told} {before after : Cursor} {value : A} (s : GivesWithin told T.form (few_form T.form) most_levels (λ read. read) before before value after)
        → Took (in_factored None T.form) columns before.tokens s.read after.tokens → Took (in_factored None T.form) (few_form T.form) before.tokens s.read after.tokens → Took (in_factored None T.form) relations before.tokens s.read after.tokens
        → Extends before after → after.copies ≤ most_copies → IsRead T before value after
    read_whole {before = before} {after = after} s narrow few others x most = record {
      taken = t.taken;
      whole = t.whole;
      leading = stops_at_longest (any T) prefixes before.tokens t.taken after.tokens t.whole (prefixes.spelled t.taken s.read spelled) t.stops;
      read = s.read;
      spelled = spelled;
      kept = kept;
      built = s.builds.numbers;
      copied = s.builds.copies;
      passed = omega (arith, x.counted, ap length t.whole, length-append t.taken after.tokens);
      fault = x.fault;
      end = x.end;
    }
      where
        t : Took (any T) (of_form (Some most_levels) T.form) before.tokens s.read after.tokens
        t = took_in _ _ _ _ free_same shallow_same before.tokens s.read after.tokens s.takes.took

        prefixes : HasPrefixes (any T)
        prefixes = form_has_prefixes None T.form

        spelled : (any T).spells t.taken s.read
        spelled = (roomier (Some most_levels) None tt T.form).spells t.taken s.read t.spelled

        taken_in : {P L : Language Lexeme (Built A)} → Same P L → Took (in_factored None T.form) P before.tokens s.read after.tokens → L.spells t.taken s.read
        taken_in {L = L} same u = subst (λ z. L.spells z s.read) (same_taken before.tokens after.tokens u.taken t.taken u.whole t.whole) (same.there.spells u.taken s.read u.spelled)

        kept : (which : TextLimit) → (keeping T before.copies which).spells t.taken s.read
        kept depth_limit = t.spelled
        kept (count_limit limit.Columns) = taken_in same_columns narrow
        kept (count_limit limit.Entries) = taken_in same_entries few
        kept (count_limit limit.Relations) = taken_in same_relations others
        kept (count_limit limit.Copies) = (spelled, omega (arith, s.builds.copies, most))

    -- before a token with which too much is copied all other limits are kept, as they are with it, and so is that on copies
    others_before : (copied : ℕ) (taken : List Lexeme) (token : Lexeme) → ((other : TextLimit) → IsSooner other (count_limit limit.Copies) → (keeping T copied other).prefix (taken ++ token ∷ [])) → (within_copies copied (any T)).prefix taken
        → (other : TextLimit) → (keeping T copied other).prefix taken
    others_before copied taken token w c depth_limit = (form_has_prefixes (Some most_levels) T.form).shorter taken (token ∷ []) (w depth_limit tt)
    others_before copied taken token w c (count_limit limit.Copies) = c
    others_before copied taken token w c (count_limit what) = closed what taken (token ∷ []) (w (count_limit what) tt)

    too_much_copied : {before after : Cursor} → CountsKept before (Limit limit.Copies) after → Shallow before.tokens after.tokens → Began (few_form T.form) before.tokens after.tokens
        → CopiesTooMuch T.form (λ read. read) before before after → Passes T before.copies before.tokens (count_limit limit.Copies)
    too_much_copied {before} {after} n d few r = record {
      taken = up_to.taken;
      token = r.token;
      rest = after.tokens;
      parts = up_to.whole;
      beyond = beyond;
      kept = others_before before.copies up_to.taken r.token with_it beyond.within;
      sooner = with_it;
    }
      where
        up_to : Reaches copies_nothing (in_factored None T.form) before.tokens r.overspends.before (r.token ∷ after.tokens)
        up_to = r.overspends.up_to

        beyond : IsFirstBeyond (any T) (within_copies before.copies (any T)) up_to.taken r.token
        beyond = too_many_here T.form costs before.copies before.tokens up_to.taken after.tokens r.token up_to.whole r.overspends

        with_it : (other : TextLimit) → IsSooner other (count_limit limit.Copies) → (keeping T before.copies other).prefix (up_to.taken ++ r.token ∷ [])
        with_it other i = sooner_kept tt n d few other i (up_to.taken ++ r.token ∷ []) (up_to.whole ∙ sym (append_assoc up_to.taken (r.token ∷ []) after.tokens))

    -- ---- all refusals

    module _ (told : Told) (tells : TellsEntries told) (before after : Cursor) (x : Extends before after) where
      -- only that on depth is told sooner than a count
      depth_with : {more : List Lexeme} (what : LimitKind) → ((other : LimitKind) → IsSooner (count_limit other) (count_limit what) → ⊥) → Shallow before.tokens more → (other : TextLimit) → IsSooner other (count_limit what) → KeptTo other before more
      depth_with what none d depth_limit i = prefix_taken shallow_same d
      depth_with what none d (count_limit other) i = absurd (none other i)

      shallow_before : {more : List Lexeme} {token : Lexeme} (taken : List Lexeme) → before.tokens ≡ taken ++ after.tokens → after.tokens ≡ token ∷ more → Shallow before.tokens more → Shallow before.tokens after.tokens
      shallow_before = began_before ((form_prefixes kind_of of_factored (name_prefixes kind_of factored) T.form (Some most_levels)).shorter)

      stopped : {fault : ReadFault} → IsPlaced fault → Fails told T.form (few_form T.form) most_levels before fault after → CountsKept before fault after → KeptTo (count_limit limit.Copies) before after.tokens
          → IsUnfinished T before.copies before.tokens before.fault before.end fault
      stopped placed r n copies = unfinished r.failed r.refused x (kept_to placed n (failed_began r.failed) (failed_began (r.few tells)) copies)

      limited : (what : LimitKind) → SaysLimit told T.form (few_form T.form) most_levels before what after → CountsKept before (Limit what) after → KeepsCopies before (Limit what) after → Passes T before.copies before.tokens (count_limit what)
      limited limit.Entries r n copies =
          let e = r.few tells in
          passes (count_limit limit.Entries) (few_form T.form) before after.tokens r.more r.token same_entries e r.next (kept_to tt n (shallow_before e.taken e.whole r.next r.goes_on) (exceeded_began e) copies) (depth_with limit.Entries (λ other i. i) r.goes_on)
      limited limit.Columns r n copies =
          let few = r.few tells in
          passes (count_limit limit.Columns) columns before after.tokens r.more r.token same_columns (n.columns_passed refl) r.next (kept_to tt n (shallow_before few.taken few.whole r.next r.goes_on) few copies) (depth_with limit.Columns (λ other i. i) r.goes_on)
      limited limit.Relations r n copies =
          let few = r.few tells in
          passes (count_limit limit.Relations) relations before after.tokens r.more r.token same_relations (n.relations_passed refl) r.next (kept_to tt n (shallow_before few.taken few.whole r.next r.goes_on) few copies) (depth_with limit.Relations (λ other i. i) r.goes_on)
      limited limit.Copies r n copies = too_much_copied n r.goes_on (r.few tells) copies

      pub refused : (fault : ReadFault) → RefusesWithin told T.form (few_form T.form) most_levels before fault after → CountsKept before fault after → KeepsCopies before fault after
          → IsRefused T before.copies before.tokens before.fault before.end fault
      refused (TooDeep at) r n copies = let s = r.says in too_deep before after at s.exceeded s.place (kept_to tt n (exceeded_began s.exceeded) (s.few tells) copies)
      refused (Limit what) r n copies = limited what r.says n copies
      refused NoMemory r n copies = tt
      refused other r n copies = stopped tt r.says n copies
