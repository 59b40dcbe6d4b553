-- The columns of a table as they are counted by the loop that reads its elements.
use Rattle.std.proofs.Common.{◌≡◌, ℕ, zero, suc, ◌+◌, ◌-◌, ◌≤◌, ◌<◌, nat_lt, Bool, true, false, not, ◌||◌, List, [], ◌∷◌, ◌++◌, length, inl, inr, None, refl, sym, ◌∙◌, ap, subst, arith, Result}
use Rattle.std.proofs.lemmas.Bool.{ltb-true, ltb-false, lt-ltb}
use Rattle.grammar.specs.Form.{seq}
use Rattle.grammar.specs.Language.{HasPrefixes, Language, alt_language, seq_language, no_language}
use Rattle.grammar.specs.Reading.{Began, Exceeded, Passes, Stops, Took}
use Rattle.grammar.proofs.readers.Begun.{nothing_began}
use Rattle.grammar.proofs.readers.Choices.{is_absent}
use Rattle.grammar.proofs.languages.Forms.{includes_itself}
use Rattle.grammar.proofs.factorings.Factorings.{alt_within, nothing_within, seq_within}
use Rattle.grammar.proofs.readers.Predictions.{ahead, known}
use Rattle.grammar.proofs.readers.Residuals as r
use Rattle.grammar.proofs.languages.Sets.{and_both, implied}
use Rattle.grammar.proofs.readers.Steps.{IsWithin, no_room}
use Rattle.sql_lex.specs.Lexemes.{Lexeme}
use Rattle.sql_grammar.specs.declared.kinds.Kind.TheVariants as k
use Rattle.sql_grammar.specs.Kinds.{kind_of, same, among, name_kinds}
use Rattle.sql_grammar.specs.Numbering.{Built}
use Rattle.sql_grammar.specs.QueryGrammar.{The}
use Rattle.sql_grammar.proofs.lists.EveryKind.{every_kind_is_there}
use Rattle.sql_grammar.proofs.queries.QueryTable.{left_factored}
use Rattle.sql_cursor.specs.declared.fault.ReadFault.{ReadFault}
use Rattle.sql_cursor.specs.declared.fault.ReadFault.TheVariants.{Limit, TooDeep}
use Rattle.sql_cursor.specs.declared.fault.LimitKind.TheVariants as limit
use Rattle.sql_cursor.specs.Cursor.{Cursor}
use Rattle.sql_cursor.specs.Eating.{Overflows, PassesWithin, Stays, is_next}
use Rattle.sql_read.specs.Reads.{columns_too, few_form, Reads, Refuses, RefusesWithin, allowed}
use Rattle.sql_read.proofs.steps.ReadSteps.{absent_unless, same_taken, absent_where, entries_within}
use Rattle.schema_read.specs.Counting.{RefusesCounted, TakesCounted, element_behind, narrowly, Counts}
use Rattle.schema_read.specs.StatementGrammar as g
use Rattle.schema_read.specs.StatementLimits.{few_columns, most_columns}
use Rattle.schema_read.specs.StatementTrees.{Elements}
use Rattle.schema_read.proofs.counts.CountSteps.{Rest, RestOf, below_within, free, held, holds_of, no_columns, part_counted}
use Rattle.schema_read.proofs.spelled.FewColumns.{Comma, behind, behind_comma, each_next, element_and_more, few, next, no_column, one_column, sorted}
use Rattle.schema_read.proofs.spelled.StatementPrefixes.{columns_below}
use Rattle.sql_grammar.proofs.queries.QueryForms.{known_includes}
use Rattle.schema_read.proofs.spelled.StatementColumns.{in_column, in_rule}
use Rattle.schema_read.proofs.spelled.Unlimited.{Below, itself}
use Rattle.grammar.proofs.languages.Prefixes.{no_prefixes}
use Rattle.sql_read.proofs.steps.ReadLoops.{IsFirst, first_there}
use Rattle.schema_read.specs.StatementReaders.{constraint_kinds}

column_prefixes : HasPrefixes (free g.column)
column_prefixes = (known left_factored g.column refl).prefixes

rule_prefixes : HasPrefixes (free g.constraint)
rule_prefixes = (known left_factored g.constraint refl).prefixes

element_prefixes : HasPrefixes (free g.element)
element_prefixes = (known left_factored g.element refl).prefixes

few_below : (m : ℕ) → Below (few_columns m) (each_next g.element)
few_below m = record { holds = (columns_below m).holds }

few_within : (m : ℕ) → IsWithin (free (each_next g.element)) (few m)
few_within m = below_within (few_below m)

-- a column, if it is allowed
pub allowed_within : (b : Bool) → IsWithin (free g.column) (allowed b (free g.column))
allowed_within true = record { includes = includes_itself (free g.column); prefixes = column_prefixes }
allowed_within false = nothing_within (free g.column) column_prefixes.empty

abbrev pub element_if : Bool → Language Lexeme Elements
element_if b = alt_language (allowed b (free g.column)) (free g.constraint)

pub element_if_within : (b : Bool) → IsWithin (free g.element) (element_if b)
element_if_within b = alt_within _ _ _ _ (allowed_within b) (record { includes = includes_itself (free g.constraint); prefixes = rule_prefixes })

abbrev pub fits : ℕ → Bool
fits count = nat_lt count most_columns

pub element_within : (count : ℕ) → IsWithin (free g.element) (element_behind count)
unfolding element_behind
element_within count = element_if_within (fits count)

-- ---- behind so many columns

abbrev pub fewer : ℕ → ℕ
fewer count = most_columns - (count + 1)

abbrev pub left : ℕ → ℕ
left count = most_columns - count

comma_at : (count : ℕ) → Comma (behind (fits count) (fewer count) (left count)) (few (left count))
comma_at count = go (fits count) refl
  where
    go : (b : Bool) → fits count ≡ b → Comma (behind b (fewer count) (left count)) (few (left count))
    go true e =
        let less : count < most_columns = ltb-true count most_columns e in let room : suc (fewer count) ≡ left count = omega (arith, less) in
        subst (λ z. Comma (behind true (fewer count) z) (few z)) room (one_column column_prefixes rule_prefixes (fewer count))
    go false e =
        let full : most_columns ≤ count = ltb-false count most_columns e in let room : zero ≡ left count = omega (arith, full) in
        subst (λ z. Comma (behind false (fewer count) z) (few z)) room (no_column column_prefixes rule_prefixes (fewer count))

-- ---- the loop

abbrev pub listed : The (Elements × List Elements)
listed = seq g.column g.elements

-- within the limit
abbrev pub narrow_listed : The (Elements × List Elements)
narrow_listed = seq g.column narrowly

-- so many columns were read, and what may follow them is few
pub record Narrow (start here : Cursor) (count : ℕ) (join : List Elements → Elements × List Elements) : Type 0 where
  rest : RestOf (each_next g.element) (few (left count)) here.tokens listed (free narrow_listed) start.tokens join

-- one column was read
pub narrow_first : {start here : Cursor} {count : ℕ} {join : List Elements → Elements × List Elements} → count ≡ 1 → Rest g.elements narrowly here.tokens listed (free narrow_listed) start.tokens join → Narrow start here count join
narrow_first {start = start} {here = here} {join = join} e l = subst (λ n. Narrow start here n join) (sym e) (record { rest = record { residual = l.residual } })

few_none : (m : ℕ) → (few m).spells [] []
few_none zero = refl
few_none (suc m) = (([], []), ([], [], refl, refl, inl (tt, refl, refl)), refl)

-- what is taken of an element is taken of the column, or of the rule
element_stops_column : (x rest : List Lexeme) → Stops (free g.element) x rest → Stops (free g.column) x rest
element_stops_column x [] s = tt
element_stops_column x (t ∷ rest) s = λ b. s (inl b)

element_stops_rule : (x rest : List Lexeme) → Stops (free g.element) x rest → Stops (free g.constraint) x rest
element_stops_rule x [] s = tt
element_stops_rule x (t ∷ rest) s = λ b. s (inr b)

-- a rule begins with none of what a column begins with
no_column_there : (here taken rest : List Lexeme) (v : Elements) → here ≡ taken ++ rest → (free g.constraint).spells taken v → is_absent kind_of (ahead left_factored (seq g.column (each_next g.element))) here ≡ true
no_column_there here [] rest v e s = let n : false ≡ true = (known left_factored g.constraint refl).ahead.nullable v s in cc
no_column_there here (t ∷ taken) rest v e s =
    subst (λ z. is_absent kind_of (ahead left_factored (seq g.column (each_next g.element))) z ≡ true) (sym e)
    (and_both _ _ refl
    (implied ((ahead left_factored g.constraint).first (kind_of t)) (not ((ahead left_factored (seq g.column (each_next g.element))).first (kind_of t)))
    (every_kind_is_there (λ x. not ((ahead left_factored g.constraint).first x) || not ((ahead left_factored (seq g.column (each_next g.element))).first x)) refl (kind_of t))
    ((known left_factored g.constraint refl).ahead.first t taken (rule_prefixes.spelled (t ∷ taken) v s))))

-- a column begins with a token
first_of_column : (here taken rest : List Lexeme) (v : Elements) → here ≡ taken ++ rest → (free g.column).spells taken v → (t : Lexeme) × (more : List Lexeme) × (here ≡ t ∷ more) × (free (seq g.column (each_next g.element))).prefix (t ∷ [])
first_of_column here [] rest v e s = let n : false ≡ true = (known left_factored g.column refl).ahead.nullable v s in cc
first_of_column here (t ∷ taken) rest v e s = (t, taken ++ rest, e, inl (column_prefixes.shorter (t ∷ []) taken (column_prefixes.spelled (t ∷ taken) v s)))

abbrev pub ListRefused : Cursor → ReadFault → Cursor → Type 0
ListRefused start fault after = RefusesCounted limit.Columns listed (free narrow_listed) start fault after

module _ {start here : Cursor} {count : ℕ} {join : List Elements → Elements × List Elements} (l : Narrow start here count join) where
  -- what was taken up to here begins the list
  list_begins : Began (free narrow_listed) start.tokens here.tokens
  list_begins = l.rest.residual.began here.tokens (nothing_began (few (left count)) (few_within (left count)).prefixes here.tokens)

  -- no comma follows
  pub listed_counted : {after : Cursor} → Stays (same k.Comma) here after → TakesCounted listed (free narrow_listed) start after
  listed_counted q =
      subst (λ z. TakesCounted listed (free narrow_listed) start z) (sym q.still)
      (record {
        read = join [];
        took = r.left_last left_factored _ _ start.tokens None (next g.element) (free (next g.element)) (below_within (itself (next g.element))) refl (few (left count)) (few_none (left count)) here.tokens join l.rest.residual
            (absent_unless (same k.Comma) (ahead left_factored (next g.element)) refl here.tokens q.not_next);
      })

  -- a comma is too deep
  pub comma_refused : {room : ℕ} {after : Cursor} {fault : ReadFault} → Overflows (same k.Comma) room here fault after → ListRefused start fault after
  comma_refused q = record {
    begun = λ p. subst (λ z. Began (free narrow_listed) start.tokens z.tokens) (sym q.still) list_begins;
    passed = λ e. let no : TooDeep q.at ≡ Limit limit.Columns = sym q.too_deep ∙ e in cc;
  }

  module _ {room : ℕ} {comma : Lexeme} {mid : Cursor} (q : PassesWithin (same k.Comma) room here comma mid) where
    abbrev Left : Bool → Type 0
    Left b = RestOf element_and_more (behind b (fewer count) (left count)) mid.tokens listed (free narrow_listed) start.tokens (λ v. join (v.0 ∷ v.1))

    element_left : Left (fits count)
    element_left = behind_comma element_prefixes (comma_at count) comma q.passes.of_kind q.passes.stood l.rest

    column_taken : (b : Bool) → Left b → (v : Elements) (after : Cursor) (taken : List Lexeme) → mid.tokens ≡ taken ++ after.tokens → (allowed b (free g.column)).spells taken v
        → Stops (free g.element) taken after.tokens → Narrow start after (count + 1) (λ more. join (v ∷ more))
    column_taken false e v after taken w s i = absurd s
    column_taken true e v after taken w s i =
        let f = first_of_column mid.tokens taken after.tokens v w s in
        let one = r.left_by_token left_factored _ _ start.tokens (seq g.column (each_next g.element)) (seq g.constraint (each_next g.element)) _ _ mid.tokens _ e.residual
        (seq_within _ _ _ _ (below_within (itself g.constraint)) (few_within (left count))) refl f.0 f.1 f.2 f.3 in
        record {
          rest = record {
            residual = r.left_second left_factored _ _ start.tokens g.column (each_next g.element) (free g.column) (few (fewer count)) (below_within (itself g.column)) (few_within (fewer count)) refl mid.tokens _ one v after.tokens
                (record { taken = taken; whole = w; spelled = s; stops = element_stops_column taken after.tokens i });
          };
        }

    rule_taken : (v : Elements) (after : Cursor) (taken : List Lexeme) → mid.tokens ≡ taken ++ after.tokens → (free g.constraint).spells taken v → Stops (free g.element) taken after.tokens
        → Narrow start after count (λ more. join (v ∷ more))
    rule_taken v after taken w s i =
        let one = r.left_other left_factored _ _ start.tokens (seq g.column (each_next g.element)) (seq g.constraint (each_next g.element)) _ _ mid.tokens _ element_left.residual
        (seq_within _ _ _ _ (allowed_within (fits count)) (few_within (fewer count))) refl (no_column_there mid.tokens taken after.tokens v w s) in
        record {
          rest = record {
            residual = r.left_second left_factored _ _ start.tokens g.constraint (each_next g.element) (free g.constraint) (few (left count)) (below_within (itself g.constraint)) (few_within (left count)) refl mid.tokens _ one v after.tokens
                (record { taken = taken; whole = w; spelled = s; stops = element_stops_rule taken after.tokens i });
          };
        }

    -- one more element, with its columns
    pub record More (v : Elements) (after : Cursor) : Type 0 where
      pub counted : Narrow start after (count + length v.columns) (λ more. join (v ∷ more))
      pub fits_too : count + length v.columns ≤ most_columns

    more_as : (v : Elements) (after : Cursor) (so_far : ℕ) → count + length v.columns ≡ so_far → so_far ≤ most_columns → Narrow start after so_far (λ more. join (v ∷ more)) → More v after
    more_as v after so_far e i l = record { counted = subst (λ n. Narrow start after n (λ more. join (v ∷ more))) (sym e) l; fits_too = subst (λ n. n ≤ most_columns) (sym e) i }

    element_taken : count ≤ most_columns → (v : Elements) (after : Cursor) (taken : List Lexeme) → mid.tokens ≡ taken ++ after.tokens → (element_if (fits count)).spells taken v → Stops (free g.element) taken after.tokens → More v after
    element_taken n v after taken w (inl s) i =
        let one : length v.columns ≡ 1 = in_column taken v ((known_includes None g.column).spells taken v ((allowed_within (fits count)).includes.spells taken v s)) in
        more_as v after (count + 1) (ap (λ n. count + n) one) (has_room (fits count) refl s) (column_taken (fits count) element_left v after taken w s i)
      where
        has_room : (b : Bool) → fits count ≡ b → (allowed b (free g.column)).spells taken v → count + 1 ≤ most_columns
        has_room true e s = let less : count < most_columns = ltb-true count most_columns e in omega (arith, less)
        has_room false e s = absurd s
    element_taken n v after taken w (inr s) i =
        let none : length v.columns ≡ 0 = in_rule taken v ((known_includes None g.constraint).spells taken v s) in
        more_as v after count (omega (arith, none)) n (rule_taken v after taken w s i)

    pub element_counted : count ≤ most_columns → (v : Elements) (after : Cursor) → Took (free g.element) (element_behind count) mid.tokens v after.tokens → More v after
    unfolding element_behind
    element_counted n v after t = element_taken n v after t.taken t.whole t.spelled t.stops

    -- ---- an element that is refused

    begins_behind : (b : Bool) (x : List Lexeme) → (element_if b).prefix x → (behind b (fewer count) (left count)).prefix x
    begins_behind b x (inl f) = inl (inl f)
    begins_behind b x (inr f) = inr (inl f)

    wide : (b : Bool) (x : List Lexeme) → (behind b (fewer count) (left count)).prefix x → (seq_language (element_if b) (free (each_next g.element))).prefix x
    wide b x (inl (inl f)) = inl (inl f)
    wide b x (inl (inr (y, z, v, e, s, f))) = inr (y, z, v, e, inl s, (few_within (fewer count)).includes.prefix z f)
    wide b x (inr (inl f)) = inl (inr f)
    wide b x (inr (inr (y, z, v, e, s, f))) = inr (y, z, v, e, inr s, (few_within (left count)).includes.prefix z f)

    passes_behind : (b : Bool) (x rest : List Lexeme) → Passes (free (seq g.element (each_next g.element))) (seq_language (element_if b) (free (each_next g.element))) x rest
        → Passes (free element_and_more) (behind b (fewer count) (left count)) x rest
    passes_behind b x [] p = p
    passes_behind b x (t ∷ rest) p = (sorted element_prefixes (x ++ t ∷ []) p.0, λ f. p.1 (wide b (x ++ t ∷ []) f))

    exceeded_behind : (b : Bool) (rest : List Lexeme) → Exceeded (free g.element) (element_if b) mid.tokens rest → Exceeded (free element_and_more) (behind b (fewer count) (left count)) mid.tokens rest
    exceeded_behind b rest t =
        let s = r.left_first_exceeded left_factored _ _ mid.tokens g.element (each_next g.element) (element_if b) (free (each_next g.element)) (element_if_within b) (below_within (itself (each_next g.element))) refl mid.tokens (λ v. v)
        (r.residual_whole (free (seq g.element (each_next g.element))) (seq_language (element_if b) (free (each_next g.element))) mid.tokens) rest t in
        record {
          taken = s.taken;
          whole = s.whole;
          begun = begins_behind b s.taken (subst (element_if b).prefix (same_taken mid.tokens rest t.taken s.taken t.whole s.whole) t.begun);
          passes = passes_behind b s.taken rest s.passes;
        }

    pub element_refused : {after : Cursor} {fault : ReadFault} → RefusesCounted limit.Columns g.element (element_behind count) mid fault after → ListRefused start fault after
    unfolding element_behind
    element_refused {after = after} t = record {
      begun = λ p. let x = t.begun p in element_left.residual.began after.tokens (record { taken = x.taken; whole = x.whole; begun = begins_behind (fits count) x.taken x.begun });
      passed = λ e. element_left.residual.exceeded after.tokens (exceeded_behind (fits count) after.tokens (t.passed e));
    }

-- ---- a name where no column may follow

name_next : (s : Cursor) → is_next (among name_kinds) s.tokens ≡ true → IsFirst (among name_kinds) s.tokens
name_next s n = first_there (among name_kinds) s.tokens n

pub column_refused : {levels : ℕ} {s : Cursor} → is_next (among name_kinds) s.tokens ≡ true → RefusesWithin columns_too g.column (few_form g.column) levels s (Limit limit.Columns) s
column_refused {s = s} n =
    let first = name_next s n in
    record {
      says = record {
        counts = tt;
        token = first.first;
        more = first.others;
        next = first.stood;
        goes_on = record { taken = first.first ∷ []; whole = first.stood; begun = inl (inr (first.first, refl, first.of_kind)) };
        few = λ i. nothing_began (few_form g.column) (entries_within g.column).prefixes s.tokens;
      };
    }

pub column_too_many : {s : Cursor} → is_next (among name_kinds) s.tokens ≡ true → RefusesCounted limit.Columns g.column no_language s (Limit limit.Columns) s
column_too_many {s = s} n =
    let first = name_next s n in
    record {
      begun = λ p. nothing_began no_language no_prefixes s.tokens;
      passed = λ e. subst (λ z. Exceeded (free g.column) no_language z z) (sym first.stood) (no_room (free g.column) first.first first.others (inl (inr (first.first, refl, first.of_kind))));
    }

pub column_missed : {levels : ℕ} {s : Cursor} {fault : ReadFault} → Refuses g.column levels s fault s → RefusesCounted limit.Columns g.column no_language s fault s
column_missed {s = s} t = record { begun = λ p. nothing_began no_language no_prefixes s.tokens; passed = λ e. absurd (no_columns t e) }

-- ---- elements

rule_left : (here : List Lexeme) (b : Bool) → is_next (among constraint_kinds) here ≡ true → RestOf g.constraint (free g.constraint) here g.element (element_if b) here (λ v. v)
rule_left here b n = record {
  residual = r.left_other left_factored _ _ here g.column g.constraint (allowed b (free g.column)) (free g.constraint) here (λ v. v) (r.residual_whole (free g.element) (element_if b) here) (allowed_within b) refl
      (absent_where (among constraint_kinds) (ahead left_factored g.column) refl here n);
}

column_left : (here : List Lexeme) (b : Bool) → is_next (among constraint_kinds) here ≡ false → RestOf g.column (allowed b (free g.column)) here g.element (element_if b) here (λ v. v)
column_left here b n = record {
  residual = r.left_first left_factored _ _ here g.column g.constraint (allowed b (free g.column)) (free g.constraint) here (λ v. v) (r.residual_whole (free g.element) (element_if b) here) (below_within (itself g.constraint)) refl
      (absent_unless (among constraint_kinds) (ahead left_factored g.constraint) refl here n);
}

module _ {X : Type 0} {levels : ℕ} {k : Elements → Built X} {s b : Cursor} {result : Result X ReadFault} where
  pub element_rule : (count : ℕ) → is_next (among constraint_kinds) s.tokens ≡ true → Reads g.constraint levels k s s result b → Counts limit.Columns g.element (element_behind count) s result b
  unfolding element_behind
  element_rule count n t = part_counted (rule_left s.tokens (fits count) n) t

  pub element_column : (count : ℕ) → count < most_columns → is_next (among constraint_kinds) s.tokens ≡ false → Reads g.column levels k s s result b → Counts limit.Columns g.element (element_behind count) s result b
  unfolding element_behind
  element_column count room n t =
      subst (λ z. Counts limit.Columns g.element (element_if z) s result b) (sym (lt-ltb count most_columns room)) (part_counted (column_left s.tokens true n) t)

pub element_full : (count : ℕ) {s : Cursor} {fault : ReadFault} → count ≡ most_columns → is_next (among constraint_kinds) s.tokens ≡ false → RefusesCounted limit.Columns g.column no_language s fault s
    → RefusesCounted limit.Columns g.element (element_behind count) s fault s
unfolding element_behind
element_full count {s = s} {fault = fault} e n t =
    subst (λ z. RefusesCounted limit.Columns g.element (element_if (fits z)) s fault s) (sym e) (held (holds_of (column_left s.tokens false n)) t)
