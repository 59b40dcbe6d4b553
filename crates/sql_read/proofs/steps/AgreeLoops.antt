-- Further parts behind words: so many of a repetition were read, and the rest of it remains.
use Rattle.std.proofs.Common.{◌≡◌, ℕ, zero, suc, ◌+◌, ◌<◌, Bool, true, false, List, [], ◌∷◌, ◌++◌, Option, Some, None, Ok, Err, refl, sym, ◌∙◌, ap, subst, append_assoc, arith}
use Rattle.std.proofs.lemmas.List.{append-nil}
use Rattle.grammar.specs.Form.{seq, star, token}
use Rattle.grammar.specs.Language.{Language}
use Rattle.grammar.specs.Productions.{skip_then}
use Rattle.grammar.specs.Completions.{Continues, Reaches}
use Rattle.grammar.specs.Reading as read
use Rattle.grammar.specs.Reading.{Took}
use Rattle.grammar.proofs.readers.Predictions.{ok, ahead}
use Rattle.grammar.proofs.readers.Repetitions.{once_more}
use Rattle.sql_lex.specs.Lexemes.{Lexeme}
use Rattle.sql_cursor.specs.declared.fault.ReadFault.{ReadFault}
use Rattle.sql_cursor.specs.declared.fault.ReadFault.TheVariants.{TooDeep}
use Rattle.sql_cursor.specs.Cursor.{Cursor}
use Rattle.sql_cursor.specs.Eating.{Extends, Overflows, PassesWithin, is_next}
use Rattle.sql_read.specs.Reads.{Builds, Told, TakesWithin, few_form}
use Rattle.sql_cursor.specs.Readers.{Reader, Reading, ◌>>=◌, continuing, done as finished, repeated}
use Rattle.sql_grammar.specs.declared.kinds.Kind.{Kind}
use Rattle.sql_grammar.specs.Numbering.{Built, Numbers, both, each, mapped as built_mapped}
use Rattle.sql_grammar.specs.QueryCopies.{copies_nothing}
use Rattle.sql_grammar.specs.QueryGrammar.{The}
use Rattle.sql_grammar.proofs.copies.QueryFillings.{fill_none}
use Rattle.sql_grammar.proofs.queries.QueryTable.{left_factored}
use Rattle.sql_read.proofs.steps.Agreeing.{AgreesWithin, ResidualIn, StopsIn, all_left, behind, by_made, inside, mapped, stopped, too_deep_here, whole}
use Rattle.sql_read.proofs.steps.AgreeSteps.{none_here}
use Rattle.sql_cursor.proofs.code.Extending.{◌⨟◌}
use Rattle.sql_read.proofs.steps.ReadCopiedSteps.{on_last, on_next_taken}
use Rattle.sql_read.proofs.parts.ReadChains.{each_more, each_more_copies}
use Rattle.sql_read.proofs.steps.ReadLoops.{Begins, first_there, none_more, one_too_many, repeated_begins, repeated_next}
use Rattle.sql_read.proofs.steps.ReadPassing.{Alike, alike_within, built_from}
use Rattle.sql_read.proofs.steps.ReadSteps as steps
use Rattle.sql_read.proofs.steps.ReadSteps.{begins_with, built_both, built_map, next_there}
use Rattle.sql_grammar.specs.FactoredQueries.{in_factored}

-- ---- steps through a repetition

module _ {T A C : Type 0} {M M' : Language T C} {here : List T} {N N' : Language T A} {start : List T} {h k : C → A} where
  renamed : ((v : C) → h v ≡ k v) → read.Residual M M' here N N' start h → read.Residual M M' here N N' start k
  renamed i l = record { took = λ v rest t. subst (λ z. Took N N' start z rest) (i v) (l.took v rest t); failed = l.failed; exceeded = l.exceeded; began = l.began }

module _ {A C : Type 0} {told : Told} {N : The A} {NB : Language Lexeme A} {e : ℕ} {start : Cursor} {d : ℕ} where
  -- what is read is the same
  pub so : {f : The C} {B : Language Lexeme C} {here : Cursor} {h k : C → A} → ResidualIn told f B d here N NB e start h → ((v : C) → h v ≡ k v) → ResidualIn told f B d here N NB e start k
  so l i = record {
    left = record { residual = renamed i l.left.residual; few = λ n. renamed i (l.left.few n) };
    going = record { goes = record { reaches = λ v rest r. subst (λ z. Reaches copies_nothing (in_factored None N) start.tokens z rest) (i v) (l.going.goes.reaches v rest r) } };
    extends = l.extends;
  }

  module _ {f : The C} (most : Option ℕ) {here : Cursor} {h : List C → A} (l : ResidualIn told (star (once_more most) f) (few_form (star (once_more most) f)) d here N NB e start h) (o : ok left_factored (star (once_more most) f) ≡ true) where
    -- one more begins
    pub next_of : (q : Kind → Bool) → Begins q f → is_next q here.tokens ≡ true → StopsIn told f (few_form f) d here N NB e start (λ v. h (v ∷ []))
    next_of q i n =
        let t = first_there q here.tokens n in
        record { blocks = repeated_begins most l.left o t.first t.others t.stood (i t.first t.of_kind); going = on_last l.going; extends = l.extends }

    -- one more was read
    pub next_behind : {v : C} {mid : Cursor} → TakesWithin told f (few_form f) d here.tokens v mid.tokens → Extends here mid → ResidualIn told (star most f) (few_form (star most f)) d mid N NB e start (λ vs. h (v ∷ vs))
    next_behind t x = record { left = repeated_next {most = most} l.left o t; going = on_next_taken l.going d t.took; extends = l.extends ⨟ x }

-- ---- words

-- A word of these kinds, for which there was room, begins f: behind it g is left.
pub record IsWord {C U : Type 0} (told : Told) (f : The C) (g : The U) (make : U → C) (q : Kind → Bool) (d room : ℕ) (now mid : Cursor) : Type 0 where
  pub rest : ResidualIn told g (few_form g) d mid f (few_form f) d now make
  pub next : is_next q now.tokens ≡ true
  pub room_left : 0 < room
  pub alike : Alike now mid

module _ {U : Type 0} {told : Told} {g : The U} {q : Kind → Bool} {d room : ℕ} {now mid : Cursor} {t : Lexeme} (s : ok left_factored (seq (token q) g) ≡ true) (i : PassesWithin q room now t mid) where
  pub token_word : IsWord told (seq (token q) g) g (λ u. (t, u)) q d room now mid
  token_word = record { rest = behind whole s i.passes; next = next_there q now mid t i.passes; room_left = i.room_left; alike = alike_within i }

  pub skipped_word : IsWord told (skip_then (token q) g) g (λ u. u) q d room now mid
  skipped_word = record { rest = behind (mapped whole) s i.passes; next = next_there q now mid t i.passes; room_left = i.room_left; alike = alike_within i }

-- ---- loops

-- what is built is the same
pub record IsSame {X : Type 0} (one two : Built X) : Type 0 where
  pub numbers : (n : Numbers) → one.build n ≡ two.build n
  pub copies : one.copies ≡ two.copies

pub built_same : {X : Type 0} {one two : Built X} {value : X} {a b : Cursor} → IsSame one two → Builds two a value b → Builds one a value b
built_same {a = a} s t = record { numbers = s.numbers a.numbers ∙ t.numbers; copies = t.copies ∙ ap (λ z. a.copies + z) (sym s.copies) }

pub same_by : {X : Type 0} {one two : Built X} → one ≡ two → IsSame one two
same_by e = record { numbers = λ n. ap (λ z. z.build n) e; copies = ap (λ z. z.copies) e }

pub each_more_same : {X : Type 0} (xs : List (Built X)) (y : Built X) → IsSame (each (xs ++ y ∷ [])) (built_mapped (λ p. p.0 ++ p.1 ∷ []) (both (each xs) y))
each_more_same xs y = record { numbers = each_more xs y; copies = each_more_copies xs y }

never_nil : {A : Type 0} (xs : List A) (y : A) → xs ++ y ∷ [] ≡ [] → ⊥
never_nil [] y e = cc
never_nil (x ∷ xs) y e = cc

-- What was read so far of f is one list; I says what was built of it. Each word begins one more, of which g is left.
module _ {A C U X Y W : Type 0} {told : Told} {N : The A} {NB : Language Lexeme A} {e d : ℕ} {start built_at : Cursor} {whole_of whole_copied : A → Built Y} {f : The C} (begun : Cursor) (g : The U) (make : W → U → C) (q : Kind → Bool)
    (h : List C → A) (P : Reading X → Type 0) (word : ℕ → Reader (Option W))
    (Has : ℕ → Cursor → W → Cursor → Type 0) (word_of : (room : ℕ) (now : Cursor) (w : W) (mid : Cursor) → Has room now w mid → IsWord told f g (make w) q d room now mid)
    (by_word : (room : ℕ) (now : Cursor) (go : Option W → Reader X) → ((w : W) (mid : Cursor) → Has room now w mid → P (go (Some w) mid))
    → ((at : ℕ) → Overflows q room now (TooDeep at) now → P (Err (TooDeep at), now)) → (is_next q now.tokens ≡ false → P (go None now)) → P (word room now >>= go))
    (o : ok left_factored (star None f) ≡ true) (i : Begins q f) (b : begins_with q (ahead left_factored f) ≡ true) where
  -- What was copied so far is in what was read so far; one word too many is refused; where no word follows, what was read is the whole; and behind a word
  -- one more is read in its place, and reading goes on.
  module _ (next : X → W → Reader X) (I : List C → X → Cursor → Type 0) (cost : (done : List C) (x : X) (now : Cursor) → I done x now → now.copies ≡ built_at.copies + (whole_copied (h done)).copies)
      (too_many : (done : List C) (x : X) (now : Cursor) → I done x now → (room at : ℕ) → Overflows q room now (TooDeep at) now
      → AgreesWithin told N NB e whole_of whole_copied built_at start (Err (TooDeep at), now) → P (Err (TooDeep at), now))
      (ends : (done : List C) (x : X) (now : Cursor) → I done x now → (done ≡ [] → is_next q begun.tokens ≡ false) → is_next q now.tokens ≡ false
      → TakesWithin told N NB e start.tokens (h done) now.tokens → Extends start now → P (Ok x, now))
      (one : (done : List C) (x : X) (now : Cursor) → I done x now → Continues copies_nothing (in_factored None (star None f)) now.tokens (in_factored None N) start.tokens (λ vs. h (done ++ vs))
      → (room : ℕ) (w : W) (mid : Cursor) → Has room now w mid → StopsIn told g (few_form g) d mid N NB e start (λ u. h (done ++ make w u ∷ [])) → (again : X → Reader X)
      → ((u : U) (y : X) (after : Cursor) → TakesWithin told g (few_form g) d mid.tokens u after.tokens → Extends mid after → I (done ++ make w u ∷ []) y after → P (again y after)) → P (next x w mid >>= again)) where
    module _ {room : ℕ} {done : List C} {x : X} {now : Cursor} (r : I done x now) (l : ResidualIn told (star (Some room) f) (few_form (star (Some room) f)) d now N NB e start (λ vs. h (done ++ vs))) where
      full : (at : ℕ) → Overflows q room now (TooDeep at) now → P (Err (TooDeep at), now)
      full at v = too_many done x now r room at v (too_deep_here (all_left l) (fill_none (Some room) f) (subst (λ z. now.copies ≡ built_at.copies + (whole_copied (h z)).copies) (sym (append-nil done)) (cost done x now r))
          (one_too_many {s = now} steps.whole o i v))

      no_more : (done ≡ [] → now ≡ begun) → is_next q now.tokens ≡ false → P (Ok x, now)
      no_more m n = ends done x now r (λ e. subst (λ z. is_next q z.tokens ≡ false) (m e) n) n
          (subst (λ z. TakesWithin told N NB e start.tokens (h z) now.tokens) (append-nil done) (none_more {p = q} l.left o b (none_here q now n))) l.extends

    pub repeats : (room : ℕ) (done : List C) (x : X) (now : Cursor) → I done x now → (done ≡ [] → now ≡ begun) → ResidualIn told (star (Some room) f) (few_form (star (Some room) f)) d now N NB e start (λ vs. h (done ++ vs))
        → P (repeated word next room x now)
    unfolding repeated
    repeats zero done x now r m l = by_word zero now (λ w c. (Ok x, c)) (λ w mid u. let none : 0 < 0 = (word_of 0 now w mid u).room_left in absurd (omega (arith, none))) (full r l) (no_more r l m)
    repeats (suc room) done x now r m l = by_word (suc room) now (continuing next (repeated word next room) x)
        (λ w mid u. let v = word_of (suc room) now w mid u in one done x now r l.going.goes (suc room) w mid u (inside (next_of (Some room) l o q i v.next) (all_left v.rest)) (repeated word next room)
        (λ u y after t x r. repeats room (done ++ make w u ∷ []) y after r (λ e. absurd (never_nil done (make w u) e))
        (so (next_behind (Some room) l o (steps.takes v.rest.left t) (v.rest.extends ⨟ x)) (λ vs. ap h (sym (append_assoc done (make w u ∷ []) vs))))))
        (full r l) (no_more r l m)

  -- Where each of them is read and a value is made with it, what was read so far is built as value_of says.
  module _ {V : Type 0} (part : Reader V) {k : U → Built V} (agrees : (c : Cursor) → AgreesWithin told g (few_form g) d k k c c (part c)) (of : X → W → V → X) (value_of : List C → Built X)
      (more : (done : List C) (w : W) (u : U) → IsSame (value_of (done ++ make w u ∷ [])) (built_mapped (λ p. of p.0 w p.1) (both (value_of done) (k u))))
      (own_cost : (done : List C) → (whole_copied (h done)).copies ≡ (value_of done).copies)
      (stop : (fault : ReadFault) (end : Cursor) → AgreesWithin told N NB e whole_of whole_copied built_at start (Err fault, end) → P (Err fault, end))
      (ends : (done : List C) (x : X) (now : Cursor) → Builds (value_of done) built_at x now → (done ≡ [] → is_next q begun.tokens ≡ false) → is_next q now.tokens ≡ false
      → TakesWithin told N NB e start.tokens (h done) now.tokens → Extends start now → P (Ok x, now)) where
    abbrev next_part : X → W → Reader X
    next_part x w c = part c >>= λ y. finished (of x w y)

    pub parts_repeat : (room : ℕ) (x : X) → Builds (value_of []) built_at x begun → ResidualIn told (star (Some room) f) (few_form (star (Some room) f)) d begun N NB e start h → P (repeated word next_part room x begun)
    parts_repeat room x r l = repeats next_part (λ done x now. Builds (value_of done) built_at x now) (λ done x now r. r.copies ∙ ap (λ z. built_at.copies + z) (sym (own_cost done))) (λ done x now r room at v. stop (TooDeep at) now) ends
        (λ done x now r l room w mid has s again go. let alike = (word_of room now w mid has).alike in by_made P (AgreesWithin told g (few_form g) d k k mid mid) (part mid) (of x w) again (agrees mid)
        (λ y after t. let read = t.reads.answers in go read.read (of x w y) after read.takes t.extends (built_same (more done w read.read) (built_map (λ p. of p.0 w p.1) (built_both r (built_from alike read.builds)))))
        (λ fault after t. stop fault after (stopped s (λ u. omega (arith, own_cost (done ++ make w u ∷ []), (more done w u).copies, r.copies, alike.copies)) t)))
        room [] x begun r (λ e. refl) l
