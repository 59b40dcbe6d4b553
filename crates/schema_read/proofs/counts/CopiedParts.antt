-- How what a part of statements, or of a case, has copied is what the whole has copied.
use Rattle.std.proofs.Common.{◌≡◌, ◌≢◌, ◌≤◌, ◌+◌, ℕ, true, List, ◌∷◌, ◌++◌, None, Result, Ok, Err, refl, sym, subst, arith, Bool, ◌∙◌}
use Rattle.std.specs.Result.{IsErrAnd}
use Rattle.std.proofs.lemmas.Result.{err_from_is_err_and}
use Rattle.grammar.specs.Language.{Includes}
use Rattle.grammar.proofs.readers.Completing as c
use Rattle.grammar.proofs.languages.Forms.{includes_through}
use Rattle.sql_lex.specs.Lexemes.{Lexeme}
use Rattle.sql_cursor.specs.declared.fault.LimitKind.TheVariants as limit
use Rattle.sql_cursor.specs.declared.fault.ReadFault.{ReadFault}
use Rattle.sql_cursor.specs.declared.fault.ReadFault.TheVariants.{Limit, NoMemory}
use Rattle.sql_read.specs.Copied as of_query
use Rattle.sql_read.specs.Copied.{CopiesSoFar, CopiesTooMuch}
use Rattle.sql_cursor.specs.Cursor.{Cursor, next_of}
use Rattle.sql_read.specs.Reads.{TakesWithin, Told, few_form}
use Rattle.sql_read.proofs.steps.ReadCopies.{Going, SameCost}
use Rattle.sql_grammar.specs.Numbering.{Built}
use Rattle.sql_grammar.specs.QueryCopies.{copies_nothing, most_copies, within_copies}
use Rattle.sql_grammar.specs.QueryGrammar.{The}
use Rattle.sql_grammar.proofs.copies.CopyLimits.{reached_copies}
use Rattle.sql_grammar.proofs.copies.CopySteps.{factored_filled}
use Rattle.sql_grammar.proofs.copies.QueryCompletions.{filled, is_filled}
use Rattle.sql_grammar.proofs.queries.QueryTable.{left_factored}
use Rattle.schema_read.specs.Counting.{IsPlaced}
use Rattle.schema_read.specs.CopiedStatements.{Copied, CopiedToFault, Says}
use Rattle.sql_grammar.specs.FactoredQueries.{in_factored}
use Rattle.sql_grammar.proofs.queries.QueryForms.{known_includes, roomier}
use Rattle.schema_read.proofs.spelled.Unlimited.{gl}
use Rattle.sql_cursor.specs.Eating.{Misses}
use Rattle.sql_grammar.specs.declared.kinds.Kind.{Kind}
use Rattle.sql_read.proofs.steps.RefusedNext.{no_limit}
use Rattle.sql_read.proofs.whole.WholeTexts.{KeepsCopies}
use Rattle.sql_read.specs.ReadingTexts.{Texts}

-- ---- what was read, in the grammar of statements

-- these tokens spell the value
pub record Spelled {A : Type 0} (f : The A) (here : List Lexeme) (value : A) (rest : List Lexeme) : Type 0 where
  pub taken : List Lexeme
  pub whole : here ≡ taken ++ rest
  pub spelled : (gl f).spells taken value

pub taken_spelled : {A : Type 0} {limits : Told} {f : The A} {levels : ℕ} {here rest : List Lexeme} {value : A} → TakesWithin limits f (few_form f) levels here value rest → Spelled f here value rest
taken_spelled {f = f} {levels = levels} {value = value} t =
    let unlimited : Includes (gl f) (in_factored _ f) = includes_through _ _ _ (known_includes _ f) (roomier _ None tt f) in
    record { taken = t.took.taken; whole = t.took.whole; spelled = unlimited.spells t.took.taken value t.took.spelled }

-- ---- refusals

module _ {A Y : Type 0} {N : The A} {whole : A → Built Y} {start first after : Cursor} where
  -- where the fault tells where it comes
  pub told_if : (fault : ReadFault) → fault ≢ Limit limit.Copies → (IsPlaced fault → CopiesSoFar N whole start first after) → CopiedToFault N whole start first fault after
  told_if (Limit limit.Copies) n s = absurd (n refl)
  told_if NoMemory n s = record { says = tt }
  told_if other n s = record { says = s tt }

  pub copied_exit : {D : Type 0} {fault : ReadFault} {result : Result D ReadFault} → IsErrAnd result (λ y. y ≡ fault) → CopiedToFault N whole start first fault after → Copied N whole start first result after
  copied_exit {result = result} i t =
      let p = err_from_is_err_and result i in
      subst (λ z. Copied N whole start first z after) (sym p.1) (record { answers = subst (λ z. CopiedToFault N whole start first z after) (sym p.2) t })

  module _ {C : Type 0} {f : The C} {h : C → A} where
    -- nothing of what remains stands here
    pub counted_before : Going f after.tokens N first.tokens h → (e : is_filled f ≡ true) → after.copies ≡ start.copies + (whole (h (filled f e).value)).copies → CopiesSoFar N whole start first after
    counted_before l e i = let b = filled f e in record {
      value = h b.value;
      up_to = c.left_filled left_factored 0 copies_nothing (in_factored None N) first.tokens f after.tokens h l.goes b.value (factored_filled f b.value b.filled);
      count = i;
    }

    -- the whole has copied what its part has
    pub copied_to : {X : Type 0} {part : C → Built X} {began before : Cursor} (fault : ReadFault) → Going f before.tokens N first.tokens h → SameCost start (λ v. whole (h v)) began part
        → CopiedToFault f part began before fault after → CopiedToFault N whole start first fault after
    copied_to {X = X} {part = part} {began = began} {before = before} fault l e s = record { says = by fault s.says }
      where
        counted : CopiesSoFar f part began before after → CopiesSoFar N whole start first after
        counted r = record { value = h r.value; up_to = l.goes.reaches r.value after.tokens r.up_to; count = omega (arith, r.count, e r.value) }

        too_much : CopiesTooMuch f part began before after → CopiesTooMuch N whole start first after
        too_much r = record {
          token = r.token;
          overspends = c.overspends_from copies_nothing (in_factored None f) before.tokens (in_factored None N) first.tokens h l.goes (λ v. (part v).copies) (λ v. (whole v).copies) most_copies began.copies start.copies e (r.token ∷ after.tokens) r.overspends;
        }

        by : (fault : ReadFault) → Says f part began before fault after → Says N whole start first fault after
        by (Limit limit.Copies) s = too_much s
        by NoMemory s = tt
        by other s = counted s

    pub copied_in : {X D : Type 0} {part : C → Built X} {began before : Cursor} (result : Result D ReadFault) → Going f before.tokens N first.tokens h → SameCost start (λ v. whole (h v)) began part
        → Copied f part began before result after → Copied N whole start first result after
    copied_in (Ok value) l e q = record { answers = tt }
    copied_in (Err fault) l e q = record { answers = copied_to fault l e q.answers }

-- ---- parts that are read as queries are, and the query of a view and of a case

module _ {V A : Type 0} {f : The V} {h : V → Built A} {start before after : Cursor} where
  pub query_copied : (fault : ReadFault) → of_query.CopiedToFault f h start before fault after → CopiedToFault f h start before fault after
  query_copied (Limit limit.Columns) s = absurd s.says
  query_copied (Limit limit.Relations) s = absurd s.says
  query_copied other s = record { says = s.says }

  pub part_copied : {B : Type 0} (result : Result B ReadFault) → of_query.Copied f h start before result after → Copied f h start before result after
  part_copied (Ok value) s = record { answers = tt }
  part_copied (Err fault) s = record { answers = query_copied fault s.answers }

-- ---- the limit

-- what was counted up to here is within it
pub counted_within : {A : Type 0} {f : The (Built A)} {before after : Cursor} → CopiesSoFar f (λ read. read) before before after → after.copies ≤ most_copies → (taken : List Lexeme) → before.tokens ≡ taken ++ after.tokens
    → (within_copies before.copies (gl f)).prefix taken
counted_within {f = f} {before = before} {after = after} r most taken e = (r.value, reached_copies f before.tokens taken after.tokens r.value e r.up_to, omega (arith, r.count, most))

pub keeps_copies : {A : Type 0} (T : Texts A) {before after : Cursor} → after.copies ≤ most_copies → (fault : ReadFault) → CopiedToFault T.form (λ read. read) before before fault after → KeepsCopies T before fault after
keeps_copies T most (Limit limit.Copies) c = c.says
keeps_copies T most NoMemory c = tt
keeps_copies T most other c = counted_within c.says most

-- ---- refusals that are not of copies

pub missed_other : {p : Kind → Bool} {a b : Cursor} {fault : ReadFault} → Misses p a fault b → fault ≢ Limit limit.Copies
missed_other {b = b} m e = no_limit b.end limit.Copies (next_of b) (sym e ∙ m.refusing (λ z. cc))
