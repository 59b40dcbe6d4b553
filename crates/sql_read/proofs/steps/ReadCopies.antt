-- How what a part has copied where it is refused is what the whole has copied there.
use Rattle.std.proofs.Common.{◌≡◌, ℕ, ◌+◌, Bool, List, ◌∷◌, Some, None, Result, Ok, Err, sym, ◌∙◌}
use Rattle.grammar.specs.Completions.{Continues}
use Rattle.grammar.specs.Reading.{Took}
use Rattle.grammar.specs.Form.{alt, map, nest, ref, seq, token}
use Rattle.grammar.proofs.readers.Completing as c
use Rattle.sql_lex.specs.Lexemes.{Lexeme}
use Rattle.sql_cursor.specs.declared.fault.LimitKind.TheVariants as limit
use Rattle.sql_cursor.specs.declared.fault.ReadFault.{ReadFault}
use Rattle.sql_cursor.specs.declared.fault.ReadFault.TheVariants.{Limit, NoMemory}
use Rattle.sql_read.specs.Copied.{Copied, CopiedToFault, CopiesSoFar, CopiesTooMuch, Says}
use Rattle.sql_cursor.specs.Cursor.{Cursor, next_of}
use Rattle.sql_grammar.specs.QueryCopies.{copies_nothing, most_copies}
use Rattle.sql_cursor.specs.Eating.{Passes}
use Rattle.sql_grammar.specs.declared.kinds.Kind.{Kind}
use Rattle.sql_grammar.specs.Numbering.{Built}
use Rattle.sql_grammar.specs.QueryGrammar.{Production, Read, The}
use Rattle.sql_grammar.specs.FactoredQueries.{factored, in_factored}
use Rattle.sql_read.specs.Reads.{Takes}
use Rattle.sql_cursor.specs.Refusals.{refusal}
use Rattle.sql_grammar.proofs.copies.QueryFillings.{Filled}
use Rattle.sql_grammar.proofs.copies.CopySteps.{factored_filled}
use Rattle.sql_grammar.proofs.queries.QueryTable.{left_factored}
use Rattle.sql_read.proofs.steps.ReadSteps.{took_token}
use Rattle.sql_read.proofs.steps.RefusedNext.{by_refusal}

-- f goes on here in a text of N that began at the start: what completes f here completes N from the start
pub record Going {C A : Type 0} (f : The C) (here : List Lexeme) (N : The A) (start : List Lexeme) (h : C → A) : Type 0 where
  pub goes : Continues copies_nothing (in_factored None f) here (in_factored None N) start h

pub at_start : {A : Type 0} {N : The A} {start : List Lexeme} → Going N start N start (λ v. v)
at_start {N = N} {start = start} = record { goes = c.continues_whole copies_nothing (in_factored None N) start }

module _ {A : Type 0} {N : The A} {start : List Lexeme} where
  pub on_production : (n : Production) {here : List Lexeme} {h : Read n → A} → Going (ref n) here N start h → Going (factored n) here N start h
  on_production n {here = here} l = record { goes = record { reaches = λ v rest r. l.goes.reaches v rest ((c.continues_production left_factored 0 copies_nothing n here).reaches v rest r) } }

  module _ {C D : Type 0} {here : List Lexeme} where
    pub on_mapped : {k : C → D} {f : The C} {h : D → A} → Going (map k f) here N start h → Going f here N start (λ v. h (k v))
    on_mapped {k = k} {f = f} {h = h} l = record { goes = c.left_map left_factored 0 copies_nothing (in_factored None N) start k f here h l.goes }

    -- the second part, behind the first
    pub on_taken : {f : The C} {g : The D} {h : C × D → A} {v : C} (d : ℕ) {mid : List Lexeme} → Going (seq f g) here N start h → Took (in_factored None f) (in_factored (Some d) f) here v mid → Going g mid N start (λ w. h (v, w))
    on_taken {f = f} {g = g} {h = h} {v = v} d {mid = mid} l t = record { goes = c.left_second left_factored d copies_nothing (in_factored None N) start f g here h l.goes v mid t }

    pub on_second : {f : The C} {g : The D} {h : C × D → A} {v : C} {d : ℕ} {mid : List Lexeme} → Going (seq f g) here N start h → Takes f d here v mid → Going g mid N start (λ w. h (v, w))
    on_second {d = d} l t = on_taken d l t.took

    -- the first part, with something behind it
    pub on_first : {f : The C} {g : The D} {h : C × D → A} {w : D} → Going (seq f g) here N start h → Filled g w → Going f here N start (λ v. h (v, w))
    on_first {f = f} {g = g} {h = h} {w = w} l b = record { goes = c.left_first left_factored 0 copies_nothing (in_factored None N) start f g here h l.goes w (factored_filled g w b) }

  module _ {C : Type 0} {here : List Lexeme} {f g : The C} {h : C → A} where
    pub on_one : Going (alt f g) here N start h → Going f here N start h
    on_one l = record { goes = c.left_one left_factored 0 copies_nothing (in_factored None N) start f g here h l.goes }

    pub on_other : Going (alt f g) here N start h → Going g here N start h
    on_other l = record { goes = c.left_other left_factored 0 copies_nothing (in_factored None N) start f g here h l.goes }

  -- behind a token
  pub on_passed : {C : Type 0} {p : Kind → Bool} {a b : Cursor} {t : Lexeme} {g : The C} {h : Lexeme × C → A} → Going (seq (token p) g) a.tokens N start h → Passes p a t b → Going g b.tokens N start (λ w. h (t, w))
  on_passed l q = on_second l (took_token 0 q)

  pub on_nested : {C : Type 0} {here : List Lexeme} {f : The C} {h : C → A} → Going (nest f) here N start h → Going f here N start h
  on_nested {here = here} {f = f} {h = h} l = record { goes = c.left_nest left_factored 0 copies_nothing (in_factored None N) start f here h l.goes }

-- ---- refusals

-- the cost of a part is that of the whole
abbrev pub SameCost : {C X Y : Type 0} → Cursor → (C → Built Y) → Cursor → (C → Built X) → Type 0
SameCost {C = C} start whole began part = (v : C) → start.copies + (whole v).copies ≡ began.copies + (part v).copies

-- what is said of a part, said of the whole
module _ {C A X Y : Type 0} {f : The C} {N : The A} {part : C → Built X} {whole : A → Built Y} {began before start first after : Cursor} (so_far : CopiesSoFar f part began before after → CopiesSoFar N whole start first after)
    (too_much : CopiesTooMuch f part began before after → CopiesTooMuch N whole start first after) where
  pub copied_by : {fault : ReadFault} → CopiedToFault f part began before fault after → CopiedToFault N whole start first fault after
  copied_by {fault = fault} s = record { says = by fault s.says }
    where
      by : (fault : ReadFault) → Says f part began before fault after → Says N whole start first fault after
      by (Limit limit.Copies) s = too_much s
      by (Limit limit.Columns) s = s
      by (Limit limit.Relations) s = s
      by NoMemory s = tt
      by other s = so_far s

module _ {C A X Y : Type 0} {f : The C} {N : The A} {part : C → Built X} {whole : A → Built Y} {h : C → A} {began before start first after : Cursor} where
  -- the whole has copied what its part has
  copied_to : {fault : ReadFault} → Going f before.tokens N first.tokens h → SameCost start (λ v. whole (h v)) began part
      → CopiedToFault f part began before fault after → CopiedToFault N whole start first fault after
  copied_to l e = copied_by
      (λ r. record { value = h r.value; up_to = l.goes.reaches r.value after.tokens r.up_to; count = r.count ∙ sym (e r.value) })
      (λ r. record {
        token = r.token;
        overspends = c.overspends_from copies_nothing (in_factored None f) before.tokens (in_factored None N) first.tokens h l.goes (λ v. (part v).copies) (λ v. (whole v).copies) most_copies began.copies start.copies e
            (r.token ∷ after.tokens) r.overspends;
      })

  pub copied_in : {B : Type 0} {result : Result B ReadFault} → Going f before.tokens N first.tokens h → SameCost start (λ v. whole (h v)) began part
      → Copied f part began before result after → Copied N whole start first result after
  copied_in {result = Ok value} l e q = record { answers = tt }
  copied_in {result = Err fault} l e q = record { answers = copied_to l e q.answers }

  -- the same where it is refused
  pub copied_exit : {D : Type 0} {fault : ReadFault} → Going f before.tokens N first.tokens h → SameCost start (λ v. whole (h v)) began part
      → CopiedToFault f part began before fault after → Copied {B = D} N whole start first (Err fault) after
  copied_exit l e q = record { answers = copied_to l e q }

-- nothing of what remains stands here
pub copied_before : {C A Y : Type 0} {f : The C} {N : The A} {whole : A → Built Y} {h : C → A} {start first after : Cursor} {v : C} → Going f after.tokens N first.tokens h → Filled f v
    → after.copies ≡ start.copies + (whole (h v)).copies → CopiesSoFar N whole start first after
copied_before {f = f} {N = N} {h = h} {first = first} {after = after} {v = v} l b e =
    record { value = h v; up_to = c.left_filled left_factored 0 copies_nothing (in_factored None N) first.tokens f after.tokens h l.goes v (factored_filled f v b); count = e }

-- what stands next is refused
pub copied_next : {A Y : Type 0} {N : The A} {whole : A → Built Y} {start first : Cursor} (after : Cursor) → CopiesSoFar N whole start first after → CopiedToFault N whole start first (refusal after) after
copied_next {N = N} {whole = whole} {start = start} {first = first} after s = record { says = by_refusal (λ z. Says N whole start first z after) (λ fault. s) (λ at. s) (λ word at. s) after.end (next_of after) }
