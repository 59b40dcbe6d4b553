-- Readers of parts with columns to count: what a reading comes to, with what is told of the limits, and the steps through it.
use Rattle.std.proofs.Common.{◌≡◌, ℕ, ◌-◌, ◌<◌, Bool, true, false, Ok, Err, refl, sym, subst}
use Rattle.grammar.specs.Form.{alt, map, nest, seq}
use Rattle.grammar.specs.Language.{Language}
use Rattle.grammar.specs.Reading.{Took}
use Rattle.grammar.proofs.readers.Predictions.{ahead, ok}
use Rattle.grammar.proofs.readers.Steps.{IsWithin}
use Rattle.sql_lex.specs.Lexemes.{Lexeme}
use Rattle.sql_cursor.specs.declared.fault.LimitKind.TheVariants as limit
use Rattle.sql_cursor.specs.Cursor.{Cursor}
use Rattle.sql_cursor.specs.Eating.{Extends, is_next}
use Rattle.sql_cursor.specs.Readers.{Reader, Reading, ◌>>=◌, done}
use Rattle.sql_read.specs.Reads.{Builds, Told, entries_too, few_form}
use Rattle.sql_grammar.specs.declared.kinds.Kind.{Kind}
use Rattle.sql_grammar.specs.Numbering.{Built}
use Rattle.sql_grammar.specs.QueryGrammar.{The}
use Rattle.sql_grammar.proofs.copies.QueryCompletions.{filled, is_filled}
use Rattle.sql_grammar.proofs.queries.QueryTable.{left_factored}
use Rattle.sql_read.proofs.steps.Agreeing as of_parts
use Rattle.sql_read.proofs.steps.Agreeing.{by_read}
use Rattle.sql_cursor.proofs.code.Extending.{◌⨟◌, extends_itself}
use Rattle.sql_read.proofs.steps.ReadCopies.{Going, SameCost, at_start, on_first, on_mapped, on_nested, on_one, on_other, on_taken}
use Rattle.sql_read.proofs.steps.ReadLoops.{Begins, first_there}
use Rattle.sql_read.proofs.steps.ReadPassing.{first_next, other_unless}
use Rattle.sql_read.proofs.steps.ReadSteps as steps
use Rattle.sql_read.proofs.steps.ReadSteps.{LeftOf, absent_unless, begins_with, deep_within}
use Rattle.schema_read.specs.CopiedStatements.{Copied}
use Rattle.schema_read.specs.Counting.{Counts, ReadsTelling}
use Rattle.schema_read.proofs.counts.CopiedParts.{copied_to, part_copied}
use Rattle.schema_read.proofs.counts.CountSteps.{Rest, below_within, free, held, holds, part_counted, rest_by_token, rest_first, rest_mapped, rest_nested, rest_of, rest_other, rest_second, same_read, whole_rest}
use Rattle.schema_read.proofs.agree.Telling.{More, reads_more}
use Rattle.schema_read.proofs.spelled.Unlimited.{Below}

-- What a reading comes to, of which so much is told: what was read of the form, and what was spelled or begun of it within the limit on columns, as
-- F says; what was copied up to a refusal; and that it went on.
pub record Agrees {V A : Type 0} (told : Told) (f : The V) (F : Language Lexeme V) (levels : ℕ) (h : V → Built A) (start before : Cursor) (r : Reading A) : Type 0 where
  pub reads : ReadsTelling told f levels h start before r.0 r.1
  pub columns : Counts limit.Columns f F before r.0 r.1
  pub copied : Copied f h start before r.0 r.1
  pub extends : Extends before r.1

-- f remains here of a reading of N that began at the start, and of what is within the limit f' of N'
pub record CountedResidual {C A : Type 0} (told : Told) (f f' : The C) (d : ℕ) (here : Cursor) (N N' : The A) (e : ℕ) (start : Cursor) (h : C → A) : Type 0 where
  pub left : LeftOf told f d here.tokens N (few_form N) e start.tokens h
  pub counted : Rest f f' here.tokens N (free N') start.tokens h
  pub going : Going f here.tokens N start.tokens h
  pub extends : Extends start here

pub whole : {A : Type 0} {told : Told} {N N' : The A} {e : ℕ} {start : Cursor} → CountedResidual told N N' e start N N' e start (λ v. v)
whole = record { left = steps.whole; counted = whole_rest; going = at_start; extends = extends_itself }

-- a part with no columns
pub part_agrees : {V A : Type 0} {told : Told} {f : The V} {levels : ℕ} {h : V → Built A} {start before : Cursor} {r : Reading A} → More entries_too told → of_parts.Agrees f levels h h start before r
    → Agrees told f (free f) levels h start before r
part_agrees {f = f} {r = r} m t = record { reads = reads_more m t.reads; columns = part_counted (rest_of (whole_rest {N = f} {N' = f})) t.reads; copied = part_copied r.0 t.copied; extends = t.extends }

-- what was taken within the limit is what was read
pub taken_counted : {V A : Type 0} {told : Told} {f : The V} {F : Language Lexeme V} {levels : ℕ} {h : V → Built A} {start before mid : Cursor} {x : A} → ok left_factored f ≡ true → IsWithin (free f) F
    → (t : Agrees told f F levels h start before (Ok x, mid)) → Took (free f) F before.tokens t.reads.answers.read mid.tokens
taken_counted {f = f} {F = F} {levels = levels} {before = before} {mid = mid} o m t =
    subst (λ v. Took (free f) F before.tokens v mid.tokens) (sym (same_read f o (deep_within levels f) m t.reads.answers.takes.took t.columns.answers.took)) t.columns.answers.took

module _ {A : Type 0} {told : Told} {N N' : The A} {e : ℕ} {start : Cursor} where
  module _ {C D : Type 0} {d : ℕ} {here : Cursor} where
    pub mapped : {k : C → D} {f f' : The C} {h : D → A} → CountedResidual told (map k f) (map k f') d here N N' e start h → CountedResidual told f f' d here N N' e start (λ v. h (k v))
    mapped l = record { left = steps.mapped l.left; counted = rest_mapped l.counted; going = on_mapped l.going; extends = l.extends }

    pub second : {X : Type 0} {f f' : The C} {g g' : The D} {h : C × D → A} {k : C → Built X} {began mid : Cursor} {x : X} → Below f' f → Below g' g → CountedResidual told (seq f g) (seq f' g') d here N N' e start h
        → ok left_factored (seq f g) ≡ true → ok left_factored f ≡ true → (t : Agrees told f (free f') d k began here (Ok x, mid)) → CountedResidual told g g' d mid N N' e start (λ w. h (t.reads.answers.read, w))
    second m n l o i t = record {
      left = steps.second l.left o t.reads.answers.takes;
      counted = rest_second m n l.counted o (taken_counted i (below_within m) t);
      going = on_taken d l.going t.reads.answers.takes.took;
      extends = l.extends ⨟ t.extends;
    }

  module _ {C : Type 0} {d : ℕ} {here : Cursor} {h : C → A} where
    pub nested : {f f' : The C} → CountedResidual told (nest f) (nest f') d here N N' e start h → 0 < d → CountedResidual told f f' (d - 1) here N N' e start h
    nested l n = record { left = steps.nested l.left n; counted = rest_nested l.counted; going = on_nested l.going; extends = l.extends }

    module _ {f f' g g' : The C} (l : CountedResidual told (alt f g) (alt f' g') d here N N' e start h) where
      -- the next token begins the one, or begins none of it
      pub one_next : (q : Kind → Bool) → Below g' g → ok left_factored (alt f g) ≡ true → Begins q f → is_next q here.tokens ≡ true → CountedResidual told f f' d here N N' e start h
      one_next q m o b n =
          let t = first_there q here.tokens n in
          record {
            left = first_next q l.left o b n;
            counted = rest_by_token l.counted m o t.first t.others t.stood (b t.first t.of_kind);
            going = on_one l.going;
            extends = l.extends;
          }

      pub other_next : (q : Kind → Bool) → Below f' f → ok left_factored f ≡ true → begins_with q (ahead left_factored f) ≡ true → is_next q here.tokens ≡ false → CountedResidual told g g' d here N N' e start h
      other_next q m o w n = record {
        left = other_unless q l.left o w n;
        counted = rest_other l.counted m o (absent_unless q (ahead left_factored f) w here.tokens n);
        going = on_other l.going;
        extends = l.extends;
      }

made_itself : {X : Type 0} (r : Reading X) → (r >>= λ x. done x) ≡ r
made_itself (Ok x, c) = refl
made_itself (Err fault, c) = refl

module _ {A X : Type 0} {told : Told} {N N' : The A} {e : ℕ} {k : A → Built X} {began start : Cursor} where
  module _ {C : Type 0} {f f' : The C} {d : ℕ} {h : C → A} {here : Cursor} where
    -- what remains is read so, and something is made of it
    pub makes : {Y : Type 0} {part : C → Built Y} {s : Cursor} (r : Reading Y) (of : Y → X) → CountedResidual told f f' d here N N' e start h → SameCost began (λ v. k (h v)) s part
        → ((v : C) (y : Y) (end : Cursor) → Builds (part v) s y end → Builds (k (h v)) began (of y) end) → Agrees told f (free f') d part s here r → Agrees told N (free N') e k began start (r >>= λ y. done (of y))
    makes (Ok y, end) of l cost made t = let read = t.reads.answers in record {
      reads = record { answers = steps.gives l.left read.read read.takes (made read.read y end read.builds) };
      columns = record { answers = record { read = _; took = l.counted.residual.took t.columns.answers.read end.tokens t.columns.answers.took } };
      copied = record { answers = tt };
      extends = l.extends ⨟ t.extends;
    }
    makes (Err fault, end) of l cost made t = record {
      reads = record { answers = steps.refuses (steps.blocks l.left) t.reads.answers };
      columns = record { answers = held (holds l.counted) t.columns.answers };
      copied = record { answers = copied_to fault l.going cost t.copied.answers };
      extends = l.extends ⨟ t.extends;
    }

    pub ends_by : {part : C → Built X} {s : Cursor} (r : Reading X) → CountedResidual told f f' d here N N' e start h → SameCost began (λ v. k (h v)) s part
        → ((v : C) (x : X) (end : Cursor) → Builds (part v) s x end → Builds (k (h v)) began x end) → Agrees told f (free f') d part s here r → Agrees told N (free N') e k began start r
    ends_by r l cost made t = subst (λ z. Agrees told N (free N') e k began start z) (made_itself r) (makes r (λ x. x) l cost made t)

  -- the first part is read, and then the rest
  pub then_rest : {C D Y : Type 0} {f f' : The C} {g g' : The D} {d : ℕ} {h : C × D → A} {part : C → Built Y} {s here : Cursor} (r : Reading Y) {next : Y → Reader X} → Below f' f → Below g' g → Agrees told f (free f') d part s here r
      → CountedResidual told (seq f g) (seq f' g') d here N N' e start h → ok left_factored (seq f g) ≡ true → (w : is_filled g ≡ true) → SameCost began (λ v. k (h (v, (filled g w).value))) s part
      → ((y : Y) (mid : Cursor) → Agrees told f (free f') d part s here (Ok y, mid) → Agrees told N (free N') e k began start (next y mid)) → Agrees told N (free N') e k began start (r >>= next)
  then_rest {f = f} {f' = f'} {g = g} {d = d} {part = part} {s = s} {here = here} r {next = next} m n t l o w cost more =
      by_read (λ z. Agrees told N (free N') e k began start z) (Agrees told f (free f') d part s here) r next t more (λ fault mid u. record {
        reads = record { answers = steps.refuses (steps.first_part l.left o) u.reads.answers };
        columns = record { answers = held (rest_first m n l.counted o) u.columns.answers };
        copied = record { answers = copied_to fault (on_first l.going (filled g w).filled) cost u.copied.answers };
        extends = l.extends ⨟ u.extends;
      })
