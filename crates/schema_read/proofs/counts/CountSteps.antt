-- How what is told of a limit on a count goes from the parts of a form to the form.
use Rattle.std.proofs.Common.{◌≡◌, ℕ, true, List, [], ◌∷◌, None, Result, Ok, Err, subst}
use Rattle.grammar.specs.Form.{alt, language, map, nest, seq}
use Rattle.grammar.specs.Language.{Language}
use Rattle.grammar.specs.Reading.{Began, Exceeded, Residual, Took}
use Rattle.grammar.proofs.readers.Choices.{is_absent}
use Rattle.grammar.proofs.languages.Forms.{form_prefixes, includes_through}
use Rattle.grammar.proofs.languages.Heights.{name_prefixes}
use Rattle.grammar.proofs.readers.Predictions.{ahead, known, ok}
use Rattle.grammar.proofs.readers.Residuals as r
use Rattle.grammar.proofs.readers.Steps.{IsWithin}
use Rattle.sql_lex.specs.Lexemes.{Lexeme}
use Rattle.sql_cursor.specs.declared.fault.ReadFault.{ReadFault}
use Rattle.sql_cursor.specs.declared.fault.ReadFault.TheVariants.{TooDeep, Limit, NoMemory}
use Rattle.sql_cursor.specs.declared.fault.LimitKind.{LimitKind}
use Rattle.sql_cursor.specs.declared.fault.LimitKind.TheVariants as limit
use Rattle.sql_cursor.specs.Cursor.{Cursor}
use Rattle.sql_read.specs.Reads.{Reads, Refuses, RefusesWithin, TakesWithin, Told, TellsEntries, columns_too, few_form}
use Rattle.sql_grammar.specs.Kinds.{kind_of}
use Rattle.sql_grammar.specs.Numbering.{Built}
use Rattle.sql_grammar.specs.QueryGrammar.{The}
use Rattle.sql_grammar.specs.FactoredQueries.{factored, in_factored}
use Rattle.sql_grammar.proofs.queries.QueryTable.{left_factored}
use Rattle.sql_read.proofs.steps.ReadSteps.{deep_within, entries_within, same_taken}
use Rattle.schema_read.specs.Counting.{Counts, IsPlaced, RefusesCounted}
use Rattle.sql_grammar.proofs.queries.QueryForms.{known_includes, left_factored_includes}
use Rattle.schema_read.proofs.spelled.Unlimited.{Below, gl}

-- a form with no limits, over the left-factored grammar of queries
abbrev pub free : {A : Type 0} → The A → Language Lexeme A
free f = in_factored None f

-- what is spelled by less than a form is within it
pub below_within : {A : Type 0} {f f' : The A} → Below f' f → IsWithin (free f) (free f')
below_within {f = f} {f' = f'} b = record {
  includes = includes_through (free f') (gl f') (free f) (known_includes None f') (includes_through (gl f') (gl f) (free f) b.holds (left_factored_includes None f));
  prefixes = form_prefixes kind_of (language kind_of factored) (name_prefixes kind_of factored) f' None;
}

-- f remains here of the reading of N, and F of what of N is within the limit
pub record RestOf {C A : Type 0} (f : The C) (F : Language Lexeme C) (here : List Lexeme) (N : The A) (NC : Language Lexeme A) (start : List Lexeme) (h : C → A) : Type 0 where
  pub residual : Residual (free f) F here (free N) NC start h

-- the same, where what is within the limit is a form
pub record Rest {C A : Type 0} (f f' : The C) (here : List Lexeme) (N : The A) (NC : Language Lexeme A) (start : List Lexeme) (h : C → A) : Type 0 where
  pub residual : Residual (free f) (free f') here (free N) NC start h

-- what stops f here stops N
pub record Holds {C A : Type 0} (f : The C) (F : Language Lexeme C) (here : List Lexeme) (N : The A) (NC : Language Lexeme A) (start : List Lexeme) : Type 0 where
  pub exceeded : (rest : List Lexeme) → Exceeded (free f) F here rest → Exceeded (free N) NC start rest
  pub began : (rest : List Lexeme) → Began F here rest → Began NC start rest

-- ---- parts that have no columns

pub took_free : {A : Type 0} {told : Told} {f : The A} {B : Language Lexeme A} {d : ℕ} {here rest : List Lexeme} {v : A} → TakesWithin told f B d here v rest → Took (free f) (free f) here v rest
took_free {f = f} {d = d} {v = v} t =
    record { taken = t.took.taken; whole = t.took.whole; spelled = (deep_within d f).includes.spells t.took.taken v t.took.spelled; stops = t.took.stops }

freely : {A : Type 0} (f : The A) (here rest : List Lexeme) → Began (few_form f) here rest → Began (free f) here rest
freely f here rest t = record { taken = t.taken; whole = t.whole; begun = (entries_within f).includes.prefix t.taken t.begun }

module _ {A : Type 0} {told : Told} {f : The A} {d : ℕ} (n : TellsEntries told) where
  -- what was taken begins the form
  pub begun_free : {a b : Cursor} (fault : ReadFault) → RefusesWithin told f (few_form f) d a fault b → IsPlaced fault → Began (free f) a.tokens b.tokens
  begun_free {a = a} {b = b} (TooDeep at) t p = freely f a.tokens b.tokens (t.says.few n)
  begun_free {a = a} {b = b} (Limit limit.Entries) t p = let x = t.says.few n in freely f a.tokens b.tokens (record { taken = x.taken; whole = x.whole; begun = x.begun })
  begun_free {a = a} {b = b} (Limit other) t p = freely f a.tokens b.tokens (t.says.few n)
  begun_free NoMemory t p = absurd p
  begun_free {a = a} {b = b} other t p = let x = t.says.few n in freely f a.tokens b.tokens (record { taken = x.taken; whole = x.whole; begun = x.begun })

module _ {A : Type 0} {f : The A} {d : ℕ} {a b : Cursor} {fault : ReadFault} where
  pub no_columns : Refuses f d a fault b → fault ≡ Limit limit.Columns → ⊥
  no_columns t e = let s = subst (λ z. Refuses f d a z b) e t in s.says.counts

  no_relations : RefusesWithin columns_too f (few_form f) d a fault b → fault ≡ Limit limit.Relations → ⊥
  no_relations t e = let s = subst (λ z. RefusesWithin columns_too f (few_form f) d a z b) e t in s.says.counts

  pub part_refused : Refuses f d a fault b → RefusesCounted limit.Columns f (free f) a fault b
  part_refused t = record { begun = begun_free tt fault t; passed = λ e. absurd (no_columns t e) }

  pub statement_refused : RefusesWithin columns_too f (few_form f) d a fault b → RefusesCounted limit.Relations f (free f) a fault b
  statement_refused t = record { begun = begun_free tt fault t; passed = λ e. absurd (no_relations t e) }

-- ---- one reading

-- what is read within two limits is one value
pub same_read : {A : Type 0} (f : The A) → ok left_factored f ≡ true → {B C : Language Lexeme A} → IsWithin (free f) B → IsWithin (free f) C → {here rest : List Lexeme} {v w : A}
    → Took (free f) B here v rest → Took (free f) C here w rest → v ≡ w
same_read f o m n {here = here} {rest = rest} {v = v} {w = w} t u =
    let i = same_taken here rest u.taken t.taken u.whole t.whole in
    (known left_factored f o).unique t.taken v w (m.includes.spells t.taken v t.spelled) (subst (λ z. (free f).spells z w) i (n.includes.spells u.taken w u.spelled))

-- ---- what stops a part stops the whole

module _ {A C : Type 0} {f : The C} {N : The A} {NC : Language Lexeme A} {start here : List Lexeme} {h : C → A} where
  pub rest_of : {f' : The C} → Rest f f' here N NC start h → RestOf f (free f') here N NC start h
  rest_of l = record { residual = l.residual }

  pub holds_of : {F : Language Lexeme C} → RestOf f F here N NC start h → Holds f F here N NC start
  holds_of l = record { exceeded = l.residual.exceeded; began = l.residual.began }

  pub holds : {f' : The C} → Rest f f' here N NC start h → Holds f (free f') here N NC start
  holds l = record { exceeded = l.residual.exceeded; began = l.residual.began }

pub held : {A C : Type 0} {own : LimitKind} {f : The C} {F : Language Lexeme C} {N : The A} {NC : Language Lexeme A} {a s b : Cursor} {fault : ReadFault}
    → Holds f F a.tokens N NC s.tokens → RefusesCounted own f F a fault b → RefusesCounted own N NC s fault b
held {b = b} l t = record { begun = λ p. l.began b.tokens (t.begun p); passed = λ e. l.exceeded b.tokens (t.passed e) }

-- ---- from a form to its parts

pub whole_rest : {A : Type 0} {N N' : The A} {start : List Lexeme} → Rest N N' start N (free N') start (λ v. v)
whole_rest {N = N} {N' = N'} {start = start} = record { residual = r.residual_whole (free N) (free N') start }

module _ {A : Type 0} {N : The A} {NC : Language Lexeme A} {start : List Lexeme} {here : List Lexeme} where
  pub rest_mapped : {C D : Type 0} {k : C → D} {f f' : The C} {h : D → A} → Rest (map k f) (map k f') here N NC start h → Rest f f' here N NC start (λ v. h (k v))
  rest_mapped {k = k} {f = f} {f' = f'} {h = h} l = record { residual = r.left_map left_factored _ _ start k f (free f') here h l.residual }

  pub rest_nested : {C : Type 0} {f f' : The C} {h : C → A} → Rest (nest f) (nest f') here N NC start h → Rest f f' here N NC start h
  rest_nested l = record { residual = l.residual }

  module _ {C D : Type 0} {f f' : The C} {g g' : The D} (m : Below f' f) (n : Below g' g) {h : C × D → A} (l : Rest (seq f g) (seq f' g') here N NC start h) (o : ok left_factored (seq f g) ≡ true) where
    pub rest_second : {v : C} {mid : List Lexeme} → Took (free f) (free f') here v mid → Rest g g' mid N NC start (λ w. h (v, w))
    rest_second {v = v} {mid = mid} t = record { residual = r.left_second left_factored _ _ start f g (free f') (free g') (below_within m) (below_within n) o here h l.residual v mid t }

    pub rest_first : Holds f (free f') here N NC start
    rest_first = record {
      exceeded = r.left_first_exceeded left_factored _ _ start f g (free f') (free g') (below_within m) (below_within n) o here h l.residual;
      began = r.left_first_began left_factored _ _ start f g (free f') (free g') (below_within m) (below_within n) o here h l.residual;
    }

  module _ {C : Type 0} {f f' g g' : The C} {h : C → A} (l : Rest (alt f g) (alt f' g') here N NC start h) where
    pub rest_by_token : Below g' g → ok left_factored (alt f g) ≡ true → (t : Lexeme) (more : List Lexeme) → here ≡ t ∷ more → (free f).prefix (t ∷ []) → Rest f f' here N NC start h
    rest_by_token n o t more e i = record { residual = r.left_by_token left_factored _ _ start f g (free f') (free g') here h l.residual (below_within n) o t more e i }

    pub rest_other : Below f' f → ok left_factored f ≡ true → is_absent kind_of (ahead left_factored f) here ≡ true → Rest g g' here N NC start h
    rest_other m o n = record { residual = r.left_other left_factored _ _ start f g (free f') (free g') here h l.residual (below_within m) o n }

-- of a part that has no columns
module _ {A C X : Type 0} {f : The C} {N : The A} {NC : Language Lexeme A} {h : C → A} {a s b : Cursor} where
  pub part_counted : {d : ℕ} {k : C → Built X} {start : Cursor} {result : Result X ReadFault} → RestOf f (free f) a.tokens N NC s.tokens h → Reads f d k start a result b → Counts limit.Columns N NC s result b
  part_counted {result = Ok value} l t = record { answers = record { read = _; took = l.residual.took t.answers.read b.tokens (took_free t.answers.takes) } }
  part_counted {result = Err fault} l t = record { answers = held (holds_of l) (part_refused t.answers) }
