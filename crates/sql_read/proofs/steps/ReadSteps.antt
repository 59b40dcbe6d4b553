-- The steps of the reader: what its calls for single tokens and for parts do, as steps through the form that is read.
use Rattle.std.proofs.Common.{◌≡◌, ◌≢◌, ℕ, zero, suc, ◌+◌, ◌-◌, ◌<◌, Bool, true, false, not, ◌&&◌, ◌||◌, List, [], ◌∷◌, ◌++◌, inr, Option, Some, None, Result, refl, sym, ◌∙◌, ap, subst, arith}
use Rattle.std.specs.List.{list_all}
use Rattle.std.specs.Result.{IsErrAnd}
use Rattle.std.proofs.lemmas.List.{append_cancel_right}
use Rattle.std.proofs.lemmas.Result.{err_from_is_err_and}
use Rattle.grammar.specs.Form.{empty, language, token, seq, alt, nest, map, ref}
use Rattle.grammar.specs.Language.{Language, seq_language, token_language}
use Rattle.grammar.specs.Lookahead.{Lookahead}
use Rattle.grammar.specs.Productions.{optional}
use Rattle.grammar.specs.Reading.{Took, Failed, Exceeded, Began, Residual}
use Rattle.grammar.proofs.readers.Choices.{is_absent}
use Rattle.grammar.proofs.languages.Forms.{includes_through}
use Rattle.grammar.proofs.languages.Heights.{from_rule, to_rule}
use Rattle.grammar.proofs.readers.Predictions.{ok, ahead, bounded_within, produced, within}
use Rattle.grammar.proofs.readers.Residuals as r
use Rattle.grammar.proofs.languages.Sets.{and_left, and_right, and_both, implied}
use Rattle.grammar.proofs.readers.Steps.{IsWithin, Same, empty_took, token_took, token_ended, token_failed}
use Rattle.sql_lex.specs.Lexemes.{Lexeme}
use Rattle.sql_cursor.specs.declared.fault.ReadFault.{ReadFault}
use Rattle.sql_cursor.specs.declared.fault.ReadFault.TheVariants.{TooDeep, Limit, NoMemory}
use Rattle.sql_cursor.specs.declared.fault.LimitKind.{LimitKind}
use Rattle.sql_cursor.specs.declared.fault.LimitKind.TheVariants as limit
use Rattle.sql_cursor.specs.Cursor.{Cursor, next_of}
use Rattle.sql_cursor.specs.Eating.{is_next, Passes, Stays, Misses}
use Rattle.sql_grammar.specs.declared.kinds.Kind.{Kind}
use Rattle.sql_grammar.specs.Kinds.{kind_of, every_kind}
use Rattle.sql_grammar.specs.Numbering.{Built, both, plain, mapped as mapped_built}
use Rattle.sql_grammar.specs.QueryGrammar.{Production, Read, The}
use Rattle.sql_grammar.specs.QueryEntries.{most_further}
use Rattle.sql_grammar.specs.FactoredQueries.{few_factored, of_factored, factored, in_factored}
use Rattle.sql_read.specs.Reads.{Told, entries_too, TellsColumns, TellsEntries, TellsRelations, few_form, Builds, TakesWithin, GivesWithin, Fills, Says, SaysLimit, RefusesWithin, ReadsWithin}
use Rattle.sql_cursor.specs.Refusals.{refusal}
use Rattle.sql_grammar.proofs.lists.EveryKind.{every_kind_is_there}
use Rattle.sql_grammar.proofs.entries.FewFactored.{few_within}
use Rattle.sql_grammar.proofs.queries.QueryTable.{left_factored}
use Rattle.sql_grammar.proofs.queries.QueryWords.{Below}
use Rattle.grammar.proofs.factorings.Alike.{itself}
use Rattle.sql_read.proofs.steps.RefusedNext.{no_limit, not_too_deep}

abbrev pub FailedForm : {C : Type 0} → The C → ℕ → List Lexeme → List Lexeme → Type 0
FailedForm f d here rest = Failed (in_factored None f) (in_factored (Some d) f) here rest

abbrev pub ExceededForm : {C : Type 0} → The C → ℕ → List Lexeme → List Lexeme → Type 0
ExceededForm f d here rest = Exceeded (in_factored None f) (in_factored (Some d) f) here rest

-- what stops M here stops N from the start
pub record Halts {C A : Type 0} (M M' : Language Lexeme C) (here : List Lexeme) (N N' : Language Lexeme A) (start : List Lexeme) : Type 0 where
  pub failed : (rest : List Lexeme) → Failed M M' here rest → Failed N N' start rest
  pub exceeded : (rest : List Lexeme) → Exceeded M M' here rest → Exceeded N N' start rest
  pub began : (rest : List Lexeme) → Began M' here rest → Began N' start rest

-- what remains
pub halts_of : {C A : Type 0} {M M' : Language Lexeme C} {here : List Lexeme} {N N' : Language Lexeme A} {start : List Lexeme} {h : C → A} → Residual M M' here N N' start h → Halts M M' here N N' start
halts_of l = record { failed = l.failed; exceeded = l.exceeded; began = l.began }

-- what begins with the same tokens
pub halts_as : {C D A : Type 0} {L L' : Language Lexeme C} {M M' : Language Lexeme D} {here : List Lexeme} {N N' : Language Lexeme A} {start : List Lexeme} {h : D → A}
    → ((rest : List Lexeme) → Failed L L' here rest → Failed M M' here rest)
    → ((rest : List Lexeme) → Exceeded L L' here rest → Exceeded M M' here rest) → ((ts : List Lexeme) → L'.prefix ts → M'.prefix ts) → Residual M M' here N N' start h → Halts L L' here N N' start
halts_as f e b l = record {
  failed = λ rest t. l.failed rest (f rest t);
  exceeded = λ rest t. l.exceeded rest (e rest t);
  began = λ rest t. l.began rest (record { taken = t.taken; whole = t.whole; begun = b t.taken t.begun });
}

-- what stops a part stops that of which it is a part
pub halts_through : {C D A : Type 0} {L L' : Language Lexeme C} {here : List Lexeme} {M M' : Language Lexeme D} {mid : List Lexeme} {N N' : Language Lexeme A} {start : List Lexeme}
    → Halts M M' mid N N' start → Halts L L' here M M' mid → Halts L L' here N N' start
halts_through m l = record { failed = λ rest t. m.failed rest (l.failed rest t); exceeded = λ rest t. m.exceeded rest (l.exceeded rest t); began = λ rest t. m.began rest (l.began rest t) }

-- f remains here of the reading of N that began at the start: the value of N is h of that of f. B and NB are what may be read of f and N where no
-- block has too many entries.
pub record LeftWithin {C A : Type 0} (told : Told) (f : The C) (B : Language Lexeme C) (d : ℕ) (here : List Lexeme) (N : The A) (NB : Language Lexeme A) (e : ℕ) (start : List Lexeme) (h : C → A) : Type 0 where
  pub residual : Residual (in_factored None f) (in_factored (Some d) f) here (in_factored None N) (in_factored (Some e) N) start h
  pub few : TellsEntries told → Residual (in_factored None f) B here (in_factored None N) NB start h

abbrev pub LeftOf : {C A : Type 0} → Told → The C → ℕ → List Lexeme → (N : The A) → Language Lexeme A → ℕ → List Lexeme → (C → A) → Type 0
LeftOf told f d here N NB e start h = LeftWithin told f (few_form f) d here N NB e start h

abbrev pub Left : {C A : Type 0} → The C → ℕ → List Lexeme → The A → ℕ → List Lexeme → (C → A) → Type 0
Left f d here N e start h = LeftOf entries_too f d here N (few_form N) e start h

-- what stops f here stops N
pub record BlocksOf {C A : Type 0} (told : Told) (f : The C) (B : Language Lexeme C) (d : ℕ) (here : List Lexeme) (N : The A) (NB : Language Lexeme A) (e : ℕ) (start : List Lexeme) : Type 0 where
  pub halts : Halts (in_factored None f) (in_factored (Some d) f) here (in_factored None N) (in_factored (Some e) N) start
  pub few : TellsEntries told → Halts (in_factored None f) B here (in_factored None N) NB start

abbrev pub Blocks : {C A : Type 0} → The C → ℕ → List Lexeme → The A → ℕ → List Lexeme → Type 0
Blocks f d here N e start = BlocksOf entries_too f (few_form f) d here N (few_form N) e start

-- what stands before one rest is one list
pub same_taken : (start rest x y : List Lexeme) → start ≡ x ++ rest → start ≡ y ++ rest → x ≡ y
same_taken start rest x y e i = append_cancel_right x y rest (sym e ∙ i)

-- ---- languages within the left-factored grammar's

pub deep_within : {A : Type 0} (d : ℕ) (f : The A) → IsWithin (in_factored None f) (in_factored (Some d) f)
deep_within d f = bounded_within left_factored d f

pub entries_within : {A : Type 0} (f : The A) → IsWithin (in_factored None f) (few_form f)
unfolding few_form
entries_within f = within left_factored (language kind_of (few_factored most_further)) (few_within most_further (omega arith)) None f

-- what is read of a form that spells less
pub fewer_within : {A : Type 0} {f f' : The A} → Below of_factored f' f → IsWithin (in_factored None f) (few_form f')
fewer_within {f' = f'} b = let w = entries_within f' in record { includes = includes_through _ _ _ w.includes (b.holds None); prefixes = w.prefixes }

-- ---- what stands next

module _ (p : Kind → Bool) (a : Lookahead Kind) where
  -- whatever a begins with is of these kinds
  abbrev pub begins_with : Bool
  begins_with = not a.nullable && list_all (λ x. p x || not (a.first x)) every_kind

  -- a begins with none of these kinds
  abbrev pub begins_otherwise : Bool
  begins_otherwise = not a.nullable && list_all (λ x. not (p x) || not (a.first x)) every_kind

  pub absent_unless : begins_with ≡ true → (ts : List Lexeme) → is_next p ts ≡ false → is_absent kind_of a ts ≡ true
  absent_unless e [] n = and_left (not a.nullable) _ e
  absent_unless e (t ∷ ts) n =
      let none : p (kind_of t) ≡ false = n in
      and_both (not a.nullable) (not (a.first (kind_of t))) (and_left (not a.nullable) _ e)
      (rw none at (every_kind_is_there (λ x. p x || not (a.first x)) (and_right (not a.nullable) _ e) (kind_of t)))

  pub absent_where : begins_otherwise ≡ true → (ts : List Lexeme) → is_next p ts ≡ true → is_absent kind_of a ts ≡ true
  absent_where e [] n = cc
  absent_where e (t ∷ ts) n =
      and_both (not a.nullable) (not (a.first (kind_of t))) (and_left (not a.nullable) _ e)
      (implied (p (kind_of t)) _ (every_kind_is_there (λ x. not (p x) || not (a.first x)) (and_right (not a.nullable) _ e) (kind_of t)) n)

pub next_there : (p : Kind → Bool) (a b : Cursor) (t : Lexeme) → Passes p a t b → is_next p a.tokens ≡ true
next_there p a b t q = subst (λ ts. is_next p ts ≡ true) (sym q.stood) q.of_kind

-- the token alone
pub took_token : {told : Told} {p : Kind → Bool} (d : ℕ) {a b : Cursor} {t : Lexeme} → Passes p a t b → TakesWithin told (token p) (few_form (token p)) d a.tokens t b.tokens
unfolding few_form
took_token {p = p} d {b = b} {t = t} q =
    let it = token_took kind_of p t b.tokens q.of_kind in
    record { took = subst (λ ts. Took (in_factored None (token p)) (in_factored (Some d) (token p)) ts t b.tokens) (sym q.stood) it; few = λ n. subst (λ ts. Took (in_factored None (token p)) (few_form (token p)) ts t b.tokens) (sym q.stood) it }

-- ---- from a form to its parts

pub whole_within : {A : Type 0} {told : Told} {N : The A} {NB : Language Lexeme A} {e : ℕ} {start : List Lexeme} → LeftWithin told N NB e start N NB e start (λ v. v)
whole_within {N = N} {NB = NB} {e = e} {start = start} = record { residual = r.residual_whole (in_factored None N) (in_factored (Some e) N) start; few = λ n. r.residual_whole (in_factored None N) NB start }

pub whole : {A : Type 0} {told : Told} {N : The A} {e : ℕ} {start : List Lexeme} → LeftOf told N e start N (few_form N) e start (λ v. v)
whole = whole_within

few_production : (n : Production) → Same (few_form (few_factored most_further n)) (few_form (ref n))
unfolding few_form
few_production n = record { there = from_rule kind_of (few_factored most_further) None n; back = to_rule kind_of (few_factored most_further) None n }

module _ {A : Type 0} {told : Told} {N : The A} {NB : Language Lexeme A} {e : ℕ} {start : List Lexeme} where
  -- of a name its production remains
  pub production : (n : Production) {d : ℕ} {here : List Lexeme} {h : Read n → A} → LeftOf told (ref n) d here N NB e start h
      → LeftWithin told (factored n) (few_form (few_factored most_further n)) d here N NB e start h
  production n {d = d} {here = here} {h = h} l = record {
    residual = r.residual_production left_factored n _ _ (produced left_factored (Some d) n) here _ _ start h l.residual;
    few = λ t. r.residual_production left_factored n _ _ (few_production n) here _ _ start h (l.few t);
  }

  module _ {C D : Type 0} {d : ℕ} {here : List Lexeme} where
    pub mapped_to : (f' : The C) {k : C → D} {f : The C} {h : D → A} → LeftWithin told (map k f) (few_form (map k f')) d here N NB e start h → LeftWithin told f (few_form f') d here N NB e start (λ v. h (k v))
    unfolding few_form
    mapped_to f' {k = k} {f = f} {h = h} l = record { residual = r.left_map left_factored _ _ start k f _ here h l.residual; few = λ t. r.left_map left_factored _ _ start k f (few_form f') here h (l.few t) }

    pub mapped : {k : C → D} {f : The C} {h : D → A} → LeftOf told (map k f) d here N NB e start h → LeftOf told f d here N NB e start (λ v. h (k v))
    mapped {f = f} l = mapped_to f l

    module _ {f : The C} {g : The D} (F : Language Lexeme C) (G : Language Lexeme D) (m : IsWithin (in_factored None f) F) (n : IsWithin (in_factored None g) G) {h : C × D → A}
        (l : LeftWithin told (seq f g) (seq_language F G) d here N NB e start h) (o : ok left_factored (seq f g) ≡ true) where
      pub second_in : {v : C} {mid : List Lexeme} → TakesWithin told f F d here v mid → LeftWithin told g G d mid N NB e start (λ w. h (v, w))
      second_in {v = v} {mid = mid} t = record {
        residual = r.left_second left_factored _ _ start f g _ _ (deep_within d f) (deep_within d g) o here h l.residual v mid t.took;
        few = λ i. r.left_second left_factored _ _ start f g F G m n o here h (l.few i) v mid (t.few i);
      }

      pub first_in : BlocksOf told f F d here N NB e start
      first_in = record {
        halts = record {
          failed = r.left_first_failed left_factored _ _ start f g _ _ (deep_within d f) (deep_within d g) o here h l.residual;
          exceeded = r.left_first_exceeded left_factored _ _ start f g _ _ (deep_within d f) (deep_within d g) o here h l.residual;
          began = r.left_first_began left_factored _ _ start f g _ _ (deep_within d f) (deep_within d g) o here h l.residual;
        };
        few = λ i. record {
          failed = r.left_first_failed left_factored _ _ start f g F G m n o here h (l.few i);
          exceeded = r.left_first_exceeded left_factored _ _ start f g F G m n o here h (l.few i);
          began = r.left_first_began left_factored _ _ start f g F G m n o here h (l.few i);
        };
      }

    module _ {f f' : The C} {g g' : The D} (m : Below of_factored f' f) (n : Below of_factored g' g) {h : C × D → A}
        (l : LeftWithin told (seq f g) (few_form (seq f' g')) d here N NB e start h) (o : ok left_factored (seq f g) ≡ true) where
      pub second_to : {v : C} {mid : List Lexeme} → TakesWithin told f (few_form f') d here v mid → LeftWithin told g (few_form g') d mid N NB e start (λ w. h (v, w))
      unfolding few_form
      second_to t = second_in (few_form f') (few_form g') (fewer_within m) (fewer_within n) l o t

      pub first_to : BlocksOf told f (few_form f') d here N NB e start
      unfolding few_form
      first_to = first_in (few_form f') (few_form g') (fewer_within m) (fewer_within n) l o

    pub second : {f : The C} {g : The D} {h : C × D → A} {v : C} {mid : List Lexeme} → LeftOf told (seq f g) d here N NB e start h → ok left_factored (seq f g) ≡ true
        → TakesWithin told f (few_form f) d here v mid → LeftOf told g d mid N NB e start (λ w. h (v, w))
    second {f = f} {g = g} l o t = second_to (itself f) (itself g) l o t

    pub first_part : {f : The C} {g : The D} {h : C × D → A} → LeftOf told (seq f g) d here N NB e start h → ok left_factored (seq f g) ≡ true → BlocksOf told f (few_form f) d here N NB e start
    first_part {f = f} {g = g} l o = first_to (itself f) (itself g) l o

  module _ {C : Type 0} {d : ℕ} where
    -- where less is read of either
    module _ {here : List Lexeme} {f g : The C} {h : C → A} where
      pub one_to : (f' : The C) {g' : The C} → LeftWithin told (alt f g) (few_form (alt f' g')) d here N NB e start h → Below of_factored g' g → ok left_factored g ≡ true → is_absent kind_of (ahead left_factored g) here ≡ true
          → LeftWithin told f (few_form f') d here N NB e start h
      unfolding few_form
      one_to f' {g' = g'} l b o n = record {
        residual = r.left_first left_factored _ _ start f g _ _ here h l.residual (deep_within d g) o n;
        few = λ t. r.left_first left_factored _ _ start f g (few_form f') (few_form g') here h (l.few t) (fewer_within b) o n;
      }

      pub other_to : (g' : The C) {f' : The C} → LeftWithin told (alt f g) (few_form (alt f' g')) d here N NB e start h → Below of_factored f' f → ok left_factored f ≡ true → is_absent kind_of (ahead left_factored f) here ≡ true
          → LeftWithin told g (few_form g') d here N NB e start h
      unfolding few_form
      other_to g' {f' = f'} l b o n = record {
        residual = r.left_other left_factored _ _ start f g _ _ here h l.residual (deep_within d f) o n;
        few = λ t. r.left_other left_factored _ _ start f g (few_form f') (few_form g') here h (l.few t) (fewer_within b) o n;
      }

      -- the next token begins the first
      pub next_to : (f' : The C) {g' : The C} → LeftWithin told (alt f g) (few_form (alt f' g')) d here N NB e start h → Below of_factored g' g → ok left_factored (alt f g) ≡ true → (t : Lexeme) (more : List Lexeme) → here ≡ t ∷ more
          → (in_factored None f).prefix (t ∷ []) → LeftWithin told f (few_form f') d here N NB e start h
      unfolding few_form
      next_to f' {g' = g'} l b o t more s i = record {
        residual = r.left_by_token left_factored _ _ start f g _ _ here h l.residual (deep_within d g) o t more s i;
        few = λ n. r.left_by_token left_factored _ _ start f g (few_form f') (few_form g') here h (l.few n) (fewer_within b) o t more s i;
      }

      pub first : LeftOf told (alt f g) d here N NB e start h → ok left_factored g ≡ true → is_absent kind_of (ahead left_factored g) here ≡ true → LeftOf told f d here N NB e start h
      first l o n = one_to f l (itself g) o n

      pub other : LeftOf told (alt f g) d here N NB e start h → ok left_factored f ≡ true → is_absent kind_of (ahead left_factored f) here ≡ true → LeftOf told g d here N NB e start h
      other l o n = other_to g l (itself f) o n

      pub by_next : LeftOf told (alt f g) d here N NB e start h → ok left_factored (alt f g) ≡ true → (t : Lexeme) (more : List Lexeme) → here ≡ t ∷ more → (in_factored None f).prefix (t ∷ []) → LeftOf told f d here N NB e start h
      by_next l o t more s i = next_to f l (itself g) o t more s i

    pub by_token : {p : Kind → Bool} {a b : Cursor} {t : Lexeme} {f g : The C} {h : C → A} → LeftOf told (alt f g) d a.tokens N NB e start h → ok left_factored (alt f g) ≡ true
        → Passes p a t b → (in_factored None f).prefix (t ∷ []) → LeftOf told f d a.tokens N NB e start h
    by_token {b = b} {t = t} l o q i = by_next l o t b.tokens q.stood i

    pub blocks : {here : List Lexeme} {f : The C} {B : Language Lexeme C} {h : C → A} → LeftWithin told f B d here N NB e start h → BlocksOf told f B d here N NB e start
    blocks l = record { halts = halts_of l.residual; few = λ n. halts_of (l.few n) }

  -- ---- levels

  pub nested : {C : Type 0} {d : ℕ} {here : List Lexeme} {f : The C} {h : C → A} → LeftOf told (nest f) d here N NB e start h → 0 < d → LeftOf told f (d - 1) here N NB e start h
  unfolding few_form
  nested {d = zero} l n = absurd (omega arith)
  nested {d = suc d} {here = here} {f = f} {h = h} l n =
      let same : suc d - 1 ≡ d = omega arith in
      subst (λ z. LeftOf told f z here N NB e start h) (sym same) (record { residual = l.residual; few = l.few })

  -- ---- single tokens

  module _ {C : Type 0} {d : ℕ} {p : Kind → Bool} {a b : Cursor} {t : Lexeme} where
    pub eaten : {g : The C} {h : Lexeme × C → A} → LeftOf told (seq (token p) g) d a.tokens N NB e start h → ok left_factored (seq (token p) g) ≡ true → Passes p a t b
        → LeftOf told g d b.tokens N NB e start (λ w. h (t, w))
    eaten l o q = second l o (took_token d q)

-- the token begins what begins with it
pub starts : {p : Kind → Bool} {a b : Cursor} {t : Lexeme} → Passes p a t b → (in_factored None (token p)).prefix (t ∷ [])
starts {t = t} q = inr (t, refl, q.of_kind)

-- ---- what may be left out

pub takes : {A C : Type 0} {told : Told} {N : The A} {NB : Language Lexeme A} {e : ℕ} {start : List Lexeme} {f : The C} {B : Language Lexeme C} {d : ℕ} {here : List Lexeme} {h : C → A} {v : C} {rest : List Lexeme}
    → LeftWithin told f B d here N NB e start h → TakesWithin told f B d here v rest → TakesWithin told N NB e start (h v) rest
takes {v = v} {rest = rest} l t = record { took = l.residual.took v rest t.took; few = λ n. (l.few n).took v rest (t.few n) }

-- no tokens
pub took_nothing : {told : Told} (d : ℕ) (ts : List Lexeme) → TakesWithin told empty (few_form empty) d ts tt ts
unfolding few_form
took_nothing d ts = record { took = empty_took ts; few = λ n. empty_took ts }

pub none_taken : {C : Type 0} {told : Told} {f : The C} {p : Kind → Bool} (d : ℕ) {a b : Cursor} → ok left_factored f ≡ true → begins_with p (ahead left_factored f) ≡ true → Stays p a b
    → TakesWithin told (optional f) (few_form (optional f)) d a.tokens None b.tokens
none_taken {told = told} {f = f} {p = p} d {a = a} {b = b} o w q =
    let l = mapped (other (whole {told = told} {N = optional f} {e = d} {start = a.tokens}) o (absent_unless p (ahead left_factored f) w a.tokens q.not_next)) in
    subst (λ z. TakesWithin told (optional f) (few_form (optional f)) d a.tokens None z.tokens) (sym q.still) (takes l (took_nothing d a.tokens))

module _ {A : Type 0} {told : Told} {N : The A} {NB : Language Lexeme A} {e : ℕ} {start : List Lexeme} {C : Type 0} {d : ℕ} {p : Kind → Bool} {a b : Cursor} {t : Lexeme} where
  pub some_left : {f : The C} {h : Option C → A} → LeftOf told (optional f) d a.tokens N NB e start h → ok left_factored (optional f) ≡ true → Passes p a t b
      → (in_factored None f).prefix (t ∷ []) → LeftOf told f d a.tokens N NB e start (λ v. h (Some v))
  some_left l o q i = mapped (by_token l o q i)

-- ---- refusals

-- a fault that is neither a limit nor want of memory
module _ {C : Type 0} (told : Told) (f : The C) (B : Language Lexeme C) (d : ℕ) (a b : Cursor) where
  pub fails : (fault : ReadFault) → FailedForm f d a.tokens b.tokens → (TellsEntries told → Failed (in_factored None f) B a.tokens b.tokens) → (fault ≢ NoMemory → fault ≡ refusal b)
      → Says told f B d a fault b
  fails (TooDeep at) t u n = absurd (not_too_deep b.end at (next_of b) (n (λ z. cc)))
  fails (Limit what) t u n = absurd (no_limit b.end what (next_of b) (n (λ z. cc)))
  fails NoMemory t u n = tt
  fails other t u n = record { failed = t; few = u; refused = n (λ z. cc) }

none_there : (p : Kind → Bool) (ts : List Lexeme) → is_next p ts ≡ false → Failed (token_language kind_of p) (token_language kind_of p) ts ts
none_there p [] n = token_ended kind_of p
none_there p (t ∷ ts) n = token_failed kind_of p t ts n

pub missed : {told : Told} {p : Kind → Bool} {d : ℕ} {a b : Cursor} {fault : ReadFault} → Misses p a fault b → RefusesWithin told (token p) (few_form (token p)) d a fault b
unfolding few_form
missed {told = told} {p = p} {d = d} {a = a} {b = b} {fault = fault} m =
    let none = subst (λ z. Failed (token_language kind_of p) (token_language kind_of p) a.tokens z.tokens) (sym m.stays.still) (none_there p a.tokens m.stays.not_next) in
    record { says = fails told (token p) (few_form (token p)) d a b fault none (λ n. none) m.refusing }

-- ---- ends

module _ {C A : Type 0} (told : Told) {less : Told} {f : The C} {B : Language Lexeme C} {d : ℕ} {N : The A} {NB : Language Lexeme A} {e : ℕ} (entries : TellsEntries less → TellsEntries told) where
  still_full : {counted fewer : Type 0} (a s b : Cursor) → (counted → fewer) → BlocksOf less f B d a.tokens N NB e s.tokens → Fills counted told f B d a b → Fills fewer less N NB e s b
  still_full a s b i l t =
      record { counts = i t.counts; token = t.token; more = t.more; next = t.next; goes_on = l.halts.began t.more t.goes_on; few = λ n. (l.few n).began b.tokens (t.few (entries n)) }

  limit_refused : (TellsColumns told → TellsColumns less) → (TellsRelations told → TellsRelations less) → (a s b : Cursor) (what : LimitKind) → BlocksOf less f B d a.tokens N NB e s.tokens
      → SaysLimit told f B d a what b
      → SaysLimit less N NB e s what b
  limit_refused i j a s b limit.Entries l t =
      record { token = t.token; more = t.more; next = t.next; goes_on = l.halts.began t.more t.goes_on; few = λ n. (l.few n).exceeded b.tokens (t.few (entries n)) }
  limit_refused i j a s b limit.Columns l t = still_full a s b i l t
  limit_refused i j a s b limit.Relations l t = still_full a s b j l t
  limit_refused i j a s b limit.Copies l t = record { goes_on = l.halts.began b.tokens t.goes_on; few = λ n. (l.few n).began b.tokens (t.few (entries n)) }

  -- what refuses a part refuses the whole, of which no more is told
  pub refuses_less : (TellsColumns told → TellsColumns less) → (TellsRelations told → TellsRelations less) → (a s b : Cursor) (fault : ReadFault) → BlocksOf less f B d a.tokens N NB e s.tokens
      → RefusesWithin told f B d a fault b
      → RefusesWithin less N NB e s fault b
  refuses_less i j a s b (TooDeep at) l t = record { says = record { exceeded = l.halts.exceeded b.tokens t.says.exceeded; few = λ n. (l.few n).began b.tokens (t.says.few (entries n)); place = t.says.place } }
  refuses_less i j a s b (Limit what) l t = record { says = limit_refused i j a s b what l t.says }
  refuses_less i j a s b NoMemory l t = record { says = tt }
  refuses_less i j a s b _ l t = record { says = record { failed = l.halts.failed b.tokens t.says.failed; few = λ n. (l.few n).failed b.tokens (t.says.few (entries n)); refused = t.says.refused } }

pub refuses : {C A : Type 0} {told : Told} {f : The C} {B : Language Lexeme C} {d : ℕ} {N : The A} {NB : Language Lexeme A} {e : ℕ} {a s b : Cursor} {fault : ReadFault} → BlocksOf told f B d a.tokens N NB e s.tokens
    → RefusesWithin told f B d a fault b → RefusesWithin told N NB e s fault b
refuses {told = told} {a = a} {s = s} {b = b} {fault = fault} l t = refuses_less told {less = told} (λ n. n) (λ n. n) (λ n. n) a s b fault l t

-- at the exit of a `?`
pub exits : {A X : Type 0} {told : Told} {N : The A} {NB : Language Lexeme A} {e : ℕ} {h : A → Built X} {start s b : Cursor} {result : Result X ReadFault} {fault : ReadFault}
    → IsErrAnd result (λ y. y ≡ fault) → RefusesWithin told N NB e s fault b → ReadsWithin told N NB e h start s result b
exits {told = told} {N = N} {NB = NB} {e = e} {h = h} {start = start} {s = s} {b = b} {result = result} {fault = fault} i t =
    let p = err_from_is_err_and result i in
    subst (λ z. ReadsWithin told N NB e h start s z b) (sym p.1) (record { answers = subst (λ z. RefusesWithin told N NB e s z b) (sym p.2) t })

pub gives : {C A X : Type 0} {told : Told} {f : The C} {B : Language Lexeme C} {d : ℕ} {N : The A} {NB : Language Lexeme A} {e : ℕ} {h : C → A} {k : A → Built X} {here : List Lexeme} {start s b : Cursor} {value : X}
    → LeftWithin told f B d here N NB e s.tokens h → (read : C) → TakesWithin told f B d here read b.tokens → Builds (k (h read)) start value b → GivesWithin told N NB e k start s value b
gives {h = h} l read t builds = record { read = h read; takes = takes l t; builds = builds }

-- ---- what is built

pub behind : {X : Type 0} {built : Built X} {value : X} {p : Kind → Bool} {a b c : Cursor} {t : Lexeme} → Passes p a t b → Builds built b value c → Builds built a value c
behind {built = built} {value = value} {a = a} {c = c} q t = subst (λ z. Builds built z value c → Builds built a value c) (sym q.moved) (λ u. record { numbers = u.numbers; copies = u.copies }) t

pub before : {X : Type 0} {built : Built X} {value : X} {p : Kind → Bool} {a b c : Cursor} {t : Lexeme} → Builds built a value b → Passes p b t c → Builds built a value c
before {built = built} {value = value} {a = a} {b = b} t q = subst (λ z. Builds built a value z) (sym q.moved) (record { numbers = t.numbers; copies = t.copies })

module _ {X Y : Type 0} where
  pub built_map : {built : Built X} {value : X} {a b : Cursor} → (f : X → Y) → Builds built a value b → Builds (mapped_built f built) a (f value) b
  built_map {built = built} {value = value} f t = record { numbers = ap (λ p. (f p.0, p.1)) t.numbers; copies = t.copies }

  pub built_both : {one : Built X} {two : Built Y} {x : X} {y : Y} {a b c : Cursor} → Builds one a x b → Builds two b y c → Builds (both one two) a (x, y) c
  built_both {one = one} {two = two} {x = x} {y = y} {b = b} t u = record {
    numbers = ap (λ p. let q = two.build p.1 in ((p.0, q.0), q.1)) t.numbers ∙ ap (λ q. ((x, q.0), q.1)) u.numbers;
    copies = omega (arith, t.copies, u.copies);
  }

pub built_plain : {X : Type 0} (value : X) {a b : Cursor} → b.numbers ≡ a.numbers → b.copies ≡ a.copies → Builds (plain value) a value b
built_plain value {a = a} {b = b} n m = record { numbers = ap (λ z. (value, z)) (sym n); copies = m ∙ sym add_none }
  where
    add_none : a.copies + 0 ≡ a.copies
    add_none = omega arith

pub plain_here : {X : Type 0} {value : X} {a : Cursor} → Builds (plain value) a value a
plain_here = built_plain _ refl refl

pub built_as : {X : Type 0} {built : Built X} {value same : X} {a b : Cursor} → value ≡ same → Builds built a same b → Builds built a value b
built_as {built = built} {a = a} {b = b} e t = subst (λ z. Builds built a z b) (sym e) t
