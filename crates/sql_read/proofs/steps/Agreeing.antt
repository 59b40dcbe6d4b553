-- The readers agree with the left-factored grammar: what remains of a form while it is read, and how each step of a reader goes through it.
use Rattle.std.specs.Prelude.{◌==◌, if◌then◌else◌}
use Rattle.std.proofs.Common.{◌≡◌, ℕ, zero, suc, ◌+◌, ◌-◌, ◌<◌, Bool, true, false, List, [], ◌∷◌, Option, Some, None, Ok, Err, refl, sym, subst, arith}
use Rattle.std.proofs.Math.Dec.{eqb-suc-zero}
use Rattle.grammar.specs.Form.{alt, map, nest, ref, seq, token}
use Rattle.grammar.specs.Language.{Language}
use Rattle.grammar.proofs.readers.Choices.{is_absent}
use Rattle.grammar.proofs.readers.Predictions.{ok, ahead}
use Rattle.sql_lex.specs.Lexemes.{Lexeme}
use Rattle.sql_cursor.specs.declared.fault.ReadFault.{ReadFault}
use Rattle.sql_cursor.specs.declared.fault.ReadFault.TheVariants.{TooDeep}
use Rattle.sql_read.specs.Copied.{Copied}
use Rattle.sql_cursor.specs.Cursor.{Cursor, behind_next, next_of}
use Rattle.sql_cursor.specs.Eating.{Extends, Misses, Overflows, Passes, PassesWithin, is_next}
use Rattle.sql_read.specs.Reads.{Builds, Told, TakesWithin, ReadsWithin, RefusesWithin, few_form, entries_too}
use Rattle.sql_cursor.specs.Readers.{Reader, Reading, ◌>>=◌, demanded, done, eaten, eaten_within, expected, passed, too_deep}
use Rattle.sql_cursor.specs.Refusals.{refusal}
use Rattle.sql_grammar.specs.declared.kinds.Kind.{Kind}
use Rattle.sql_grammar.specs.Kinds.{kind_of}
use Rattle.sql_grammar.specs.Numbering.{Built}
use Rattle.sql_grammar.specs.QueryGrammar.{Production, Read, The}
use Rattle.sql_grammar.specs.FactoredQueries.{few_factored, of_factored, factored, in_factored}
use Rattle.sql_grammar.specs.QueryEntries.{most_further}
use Rattle.sql_grammar.proofs.copies.QueryFillings.{Filled}
use Rattle.sql_grammar.proofs.queries.QueryTable.{left_factored}
use Rattle.sql_grammar.proofs.queries.QueryWords.{Below}
use Rattle.grammar.proofs.factorings.Alike.{itself}
use Rattle.sql_cursor.proofs.code.Extending.{◌⨟◌, extends_itself, extends_passes}
use Rattle.sql_read.proofs.steps.ReadSteps as steps
use Rattle.sql_read.proofs.steps.ReadSteps.{BlocksOf, LeftWithin, begins_with, absent_unless, took_token}
use Rattle.sql_read.proofs.steps.ReadCopies as c
use Rattle.sql_read.proofs.steps.ReadCopies.{Going, SameCost}
use Rattle.sql_read.proofs.steps.RefusedNext as refused

-- In these B is what may be read of f where no block has too many entries, and NB what may be of N.

-- What a reading comes to: what was read of the form, and is built as h says; what was copied up to a refusal, by c; and that it went on.
pub record AgreesWithin {V A : Type 0} (told : Told) (f : The V) (B : Language Lexeme V) (levels : ℕ) (h c : V → Built A) (start before : Cursor) (r : Reading A) : Type 0 where
  pub reads : ReadsWithin told f B levels h start before r.0 r.1
  pub copied : Copied f c start before r.0 r.1
  pub extends : Extends before r.1

abbrev pub Agrees : {V A : Type 0} → The V → ℕ → (V → Built A) → (V → Built A) → Cursor → Cursor → Reading A → Type 0
Agrees f levels h c start before r = AgreesWithin entries_too f (few_form f) levels h c start before r

-- f remains here, with so many levels, of a reading of N that began at the start
pub record ResidualIn {C A : Type 0} (told : Told) (f : The C) (B : Language Lexeme C) (d : ℕ) (here : Cursor) (N : The A) (NB : Language Lexeme A) (e : ℕ) (start : Cursor) (h : C → A) : Type 0 where
  pub left : LeftWithin told f B d here.tokens N NB e start.tokens h
  pub going : Going f here.tokens N start.tokens h
  pub extends : Extends start here

abbrev pub Residual : {C A : Type 0} → The C → ℕ → Cursor → The A → ℕ → Cursor → (C → A) → Type 0
Residual f d here N e start h = ResidualIn entries_too f (few_form f) d here N (few_form N) e start h

-- what stops f here stops N
pub record StopsIn {C A : Type 0} (told : Told) (f : The C) (B : Language Lexeme C) (d : ℕ) (here : Cursor) (N : The A) (NB : Language Lexeme A) (e : ℕ) (start : Cursor) (h : C → A) : Type 0 where
  pub blocks : BlocksOf told f B d here.tokens N NB e start.tokens
  pub going : Going f here.tokens N start.tokens h
  pub extends : Extends start here

pub whole_in : {A : Type 0} {told : Told} {N : The A} {NB : Language Lexeme A} {e : ℕ} {start : Cursor} → ResidualIn told N NB e start N NB e start (λ v. v)
whole_in = record { left = steps.whole_within; going = c.at_start; extends = extends_itself }

pub whole : {A : Type 0} {told : Told} {N : The A} {e : ℕ} {start : Cursor} → ResidualIn told N (few_form N) e start N (few_form N) e start (λ v. v)
whole = whole_in

-- what stops the last part stops that of which it is a part
pub through : {C D A : Type 0} {told : Told} {f : The C} {B : Language Lexeme C} {d : ℕ} {here : List Lexeme} {M : The D} {MB : Language Lexeme D} {i : ℕ} {mid : List Lexeme} {N : The A} {NB : Language Lexeme A}
    {e : ℕ} {start : List Lexeme}
    → BlocksOf told M MB i mid N NB e start → BlocksOf told f B d here M MB i mid → BlocksOf told f B d here N NB e start
through m l = record { halts = steps.halts_through m.halts l.halts; few = λ n. steps.halts_through (m.few n) (l.few n) }

pub inside : {C D A : Type 0} {told : Told} {f : The C} {B : Language Lexeme C} {d : ℕ} {here : Cursor} {M : The D} {MB : Language Lexeme D} {i : ℕ} {mid : Cursor} {N : The A} {NB : Language Lexeme A} {e : ℕ} {start : Cursor}
    {h : D → A} {k : C → D} → StopsIn told M MB i mid N NB e start h → StopsIn told f B d here M MB i mid k → StopsIn told f B d here N NB e start (λ v. h (k v))
inside m l = record {
  blocks = through m.blocks l.blocks;
  going = record { goes = record { reaches = λ v rest r. m.going.goes.reaches _ rest (l.going.goes.reaches v rest r) } };
  extends = m.extends ⨟ l.extends;
}

-- ---- from a form to its parts

module _ {A : Type 0} {told : Told} {N : The A} {NB : Language Lexeme A} {e : ℕ} {start : Cursor} where
  pub production : (n : Production) {d : ℕ} {here : Cursor} {h : Read n → A} → ResidualIn told (ref n) (few_form (ref n)) d here N NB e start h → ResidualIn told (factored n) (few_form (few_factored most_further n)) d here N NB e start h
  production n l = record { left = steps.production n l.left; going = c.on_production n l.going; extends = l.extends }

  -- all that remains
  pub all_left : {C : Type 0} {d : ℕ} {here : Cursor} {f : The C} {B : Language Lexeme C} {h : C → A} → ResidualIn told f B d here N NB e start h → StopsIn told f B d here N NB e start h
  all_left l = record { blocks = steps.blocks l.left; going = l.going; extends = l.extends }

  module _ {C D : Type 0} {d : ℕ} {here : Cursor} where
    pub mapped_to : (f' : The C) {k : C → D} {f : The C} {h : D → A} → ResidualIn told (map k f) (few_form (map k f')) d here N NB e start h → ResidualIn told f (few_form f') d here N NB e start (λ v. h (k v))
    mapped_to f' l = record { left = steps.mapped_to f' l.left; going = c.on_mapped l.going; extends = l.extends }

    pub mapped : {k : C → D} {f : The C} {h : D → A} → ResidualIn told (map k f) (few_form (map k f)) d here N NB e start h → ResidualIn told f (few_form f) d here N NB e start (λ v. h (k v))
    mapped {f = f} l = mapped_to f l

    module _ {f : The C} {g : The D} {h : C × D → A} where
      -- where less may be read of them
      module _ {f' : The C} {g' : The D} (m : Below of_factored f' f) (n : Below of_factored g' g) (l : ResidualIn told (seq f g) (few_form (seq f' g')) d here N NB e start h) (o : ok left_factored (seq f g) ≡ true) where
        -- the first part, with something behind it
        pub first_to : {w : D} → Filled g w → StopsIn told f (few_form f') d here N NB e start (λ v. h (v, w))
        first_to filled = record { blocks = steps.first_to m n l.left o; going = c.on_first l.going filled; extends = l.extends }

        -- the second part, behind the first
        pub second_to : {v : C} {mid : Cursor} → TakesWithin told f (few_form f') d here.tokens v mid.tokens → Extends here mid → ResidualIn told g (few_form g') d mid N NB e start (λ w. h (v, w))
        second_to t x = record { left = steps.second_to m n l.left o t; going = c.on_taken d l.going t.took; extends = l.extends ⨟ x }

      pub first_of : {w : D} → ResidualIn told (seq f g) (few_form (seq f g)) d here N NB e start h → ok left_factored (seq f g) ≡ true → Filled g w → StopsIn told f (few_form f) d here N NB e start (λ v. h (v, w))
      first_of l o filled = first_to (itself f) (itself g) l o filled

      -- the second part, behind what was taken
      pub behind_taken : {v : C} {mid : Cursor} → ResidualIn told (seq f g) (few_form (seq f g)) d here N NB e start h → ok left_factored (seq f g) ≡ true → TakesWithin told f (few_form f) d here.tokens v mid.tokens → Extends here mid
          → ResidualIn told g (few_form g) d mid N NB e start (λ w. h (v, w))
      behind_taken l o t x = second_to (itself f) (itself g) l o t x

      pub second : {X : Type 0} {k w : C → Built X} {began mid : Cursor} {value : X} → ResidualIn told (seq f g) (few_form (seq f g)) d here N NB e start h → ok left_factored (seq f g) ≡ true
          → (t : AgreesWithin told f (few_form f) d k w began here (Ok value, mid)) → ResidualIn told g (few_form g) d mid N NB e start (λ v. h (t.reads.answers.read, v))
      second l o t = behind_taken l o t.reads.answers.takes t.extends

  module _ {C : Type 0} {d : ℕ} {f g : The C} {h : C → A} where
    -- the next token begins the first, or begins none of it, or none of the other
    pub by_token : {q : Kind → Bool} {a b : Cursor} {t : Lexeme} → ResidualIn told (alt f g) (few_form (alt f g)) d a N NB e start h → ok left_factored (alt f g) ≡ true → Passes q a t b → (in_factored None f).prefix (t ∷ [])
        → ResidualIn told f (few_form f) d a N NB e start h
    by_token l o q i = record { left = steps.by_token l.left o q i; going = c.on_one l.going; extends = l.extends }

    -- where less is read of either
    pub one_to : (f' : The C) {g' : The C} {here : Cursor} → ResidualIn told (alt f g) (few_form (alt f' g')) d here N NB e start h → Below of_factored g' g → ok left_factored g ≡ true
        → is_absent kind_of (ahead left_factored g) here.tokens ≡ true
        → ResidualIn told f (few_form f') d here N NB e start h
    one_to f' l b o n = record { left = steps.one_to f' l.left b o n; going = c.on_one l.going; extends = l.extends }

    pub other_to : (g' : The C) {f' : The C} {here : Cursor} → ResidualIn told (alt f g) (few_form (alt f' g')) d here N NB e start h → Below of_factored f' f → ok left_factored f ≡ true
        → is_absent kind_of (ahead left_factored f) here.tokens ≡ true
        → ResidualIn told g (few_form g') d here N NB e start h
    other_to g' l b o n = record { left = steps.other_to g' l.left b o n; going = c.on_other l.going; extends = l.extends }

    pub first : {here : Cursor} → ResidualIn told (alt f g) (few_form (alt f g)) d here N NB e start h → ok left_factored g ≡ true → is_absent kind_of (ahead left_factored g) here.tokens ≡ true → ResidualIn told f (few_form f) d here N NB e start h
    first l o n = one_to f l (itself g) o n

    pub other : {here : Cursor} → ResidualIn told (alt f g) (few_form (alt f g)) d here N NB e start h → ok left_factored f ≡ true → is_absent kind_of (ahead left_factored f) here.tokens ≡ true → ResidualIn told g (few_form g) d here N NB e start h
    other l o n = other_to g l (itself f) o n

    pub other_unless : (q : Kind → Bool) {here : Cursor} → ResidualIn told (alt f g) (few_form (alt f g)) d here N NB e start h → ok left_factored f ≡ true → begins_with q (ahead left_factored f) ≡ true → is_next q here.tokens ≡ false
        → ResidualIn told g (few_form g) d here N NB e start h
    other_unless q {here = here} l o w n = other l o (absent_unless q (ahead left_factored f) w here.tokens n)

  -- behind a token
  pub behind : {C : Type 0} {d : ℕ} {q : Kind → Bool} {a b : Cursor} {t : Lexeme} {g : The C} {h : Lexeme × C → A} → ResidualIn told (seq (token q) g) (few_form (seq (token q) g)) d a N NB e start h → ok left_factored (seq (token q) g) ≡ true
      → Passes q a t b → ResidualIn told g (few_form g) d b N NB e start (λ w. h (t, w))
  behind {d = d} l o q = behind_taken l o (took_token d q) (extends_passes q)

  -- one level deeper
  pub nested : {C : Type 0} {d : ℕ} {here : Cursor} {f : The C} {h : C → A} → ResidualIn told (nest f) (few_form (nest f)) d here N NB e start h → 0 < d → ResidualIn told f (few_form f) (d - 1) here N NB e start h
  nested l n = record { left = steps.nested l.left n; going = c.on_nested l.going; extends = l.extends }

-- ---- readers, by what they find

-- something was read, and it goes on, or it stopped
pub by_read : {X Y : Type 0} (P : Reading X → Type 0) (Q : Reading Y → Type 0) (r : Reading Y) (next : Y → Reader X) → Q r → ((y : Y) (mid : Cursor) → Q (Ok y, mid) → P (next y mid))
    → ((fault : ReadFault) (mid : Cursor) → Q (Err fault, mid) → P (Err fault, mid)) → P (r >>= next)
by_read P Q (Ok y, mid) next t more stop = more y mid t
by_read P Q (Err fault, mid) next t more stop = stop fault mid t

-- something is made of what was read, and it goes on
pub by_made : {X Y Z : Type 0} (P : Reading Z → Type 0) (Q : Reading Y → Type 0) (r : Reading Y) (of : Y → X) (again : X → Reader Z) → Q r → ((y : Y) (mid : Cursor) → Q (Ok y, mid) → P (again (of y) mid))
    → ((fault : ReadFault) (mid : Cursor) → Q (Err fault, mid) → P (Err fault, mid)) → P ((r >>= λ y. done (of y)) >>= again)
by_made P Q (Ok y, mid) of again t more stop = more y mid t
by_made P Q (Err fault, mid) of again t more stop = stop fault mid t

-- one of these kinds stands next or does not
pub by_next : {X : Type 0} (P : Reading X → Type 0) (q : Kind → Bool) (here : Cursor) {there absent : Reading X} → (is_next q here.tokens ≡ true → P there) → (is_next q here.tokens ≡ false → P absent)
    → P (if is_next q here.tokens then there else absent)
by_next P q here {there} {absent} t a = go (is_next q here.tokens) refl
  where
    go : (b : Bool) → is_next q here.tokens ≡ b → P (if b then there else absent)
    go true i = t i
    go false i = a i

-- one token of these kinds is passed, or none is, and no more is done
pub by_eaten_last : (P : Reading (Option Lexeme) → Type 0) (q : Kind → Bool) (here : Cursor) → ((t : Lexeme) (mid : Cursor) → Passes q here t mid → P (Ok (Some t), mid)) →
    (is_next q here.tokens ≡ false → P (Ok None, here)) → P (eaten q here)
unfolding eaten
by_eaten_last P q here there absent = go here.tokens refl (is_next q here.tokens) refl
  where
    go : (ts : List Lexeme) → here.tokens ≡ ts → (b : Bool) → is_next q ts ≡ b → P (if b then passed ts here else (Ok None, here))
    go [] s true i = cc
    go (t ∷ ts) s true i = there t (behind_next here) (record { stood = rw s refl; of_kind = i; moved = refl })
    go ts s false i = absent (subst (λ z. is_next q z ≡ false) (sym s) i)

pub missing : {q : Kind → Bool} {here : Cursor} → is_next q here.tokens ≡ false → Misses q here (refusal here) here
missing {here = here} n = record { stays = record { still = refl; not_next = n }; refusing = λ z. refl; memory = λ e. absurd (refused.no_memory here.end (next_of here) e) }

module _ {X : Type 0} (P : Reading X → Type 0) (q : Kind → Bool) (here : Cursor) where
  -- the same, and then it goes on
  pub by_eaten : (next : Option Lexeme → Reader X) → ((t : Lexeme) (mid : Cursor) → Passes q here t mid → P (next (Some t) mid)) → (is_next q here.tokens ≡ false → P (next None here))
      → P (eaten q here >>= next)
  by_eaten next there absent = by_eaten_last (λ r. P (r >>= next)) q here there absent

  -- one token of these kinds is passed, or it is missing
  pub by_expected : (next : Lexeme → Reader X) → ((t : Lexeme) (mid : Cursor) → Passes q here t mid → P (next t mid)) → (Misses q here (refusal here) here → P (Err (refusal here), here)) → P (expected q here >>= next)
  unfolding expected
  by_expected next there absent = by_eaten_last (λ r. P ((r >>= demanded) >>= next)) q here there (λ n. absent (missing n))

  -- one token of these kinds is passed, where there is room for it, or none is
  pub by_eaten_within : (room : ℕ) (next : Option Lexeme → Reader X) → ((t : Lexeme) (mid : Cursor) → PassesWithin q room here t mid → P (next (Some t) mid))
      → ((at : ℕ) → Overflows q room here (TooDeep at) here → P (Err (TooDeep at), here)) → (is_next q here.tokens ≡ false → P (next None here))
      → P (eaten_within q room here >>= next)
  unfolding eaten_within
  by_eaten_within room next there full absent = go room refl here.tokens refl (is_next q here.tokens) refl
    where
      go : (n : ℕ) → room ≡ n → (ts : List Lexeme) → here.tokens ≡ ts → (b : Bool) → is_next q ts ≡ b
          → P ((if b then (if n == 0 then too_deep ts here else passed ts here) else (Ok None, here)) >>= next)
      go n m [] s true i = cc
      go zero m (t ∷ ts) s true i = full t.start (record { still = refl; full = m; next = subst (λ z. is_next q z ≡ true) (sym s) i; at = t.start; place = rw s refl; too_deep = refl })
      go (suc n) m (t ∷ ts) s true i =
          rw (eqb-suc-zero n) (there t (behind_next here) (record { passes = record { stood = rw s refl; of_kind = i; moved = refl }; room_left = rw m (omega arith) }))
      go n m ts s false i = absent (subst (λ z. is_next q z ≡ false) (sym s) i)

-- ---- ends

module _ {A X : Type 0} {told : Told} {N : The A} {NB : Language Lexeme A} {e : ℕ} {whole_of whole_copied : A → Built X} {built_at s : Cursor} where
  module _ {C : Type 0} {d : ℕ} {f : The C} {B : Language Lexeme C} {h : C → A} {a : Cursor} where
    -- the value of what remains was built
    pub built : {b : Cursor} {value : X} → ResidualIn told f B d a N NB e s h → (read : C) → TakesWithin told f B d a.tokens read b.tokens → Extends a b → Builds (whole_of (h read)) built_at value b
        → AgreesWithin told N NB e whole_of whole_copied built_at s (Ok value, b)
    built l read t x y = record { reads = record { answers = steps.gives l.left read t y }; copied = record { answers = tt }; extends = l.extends ⨟ x }

    -- a part was refused
    pub stopped : {Y : Type 0} {k w : C → Built Y} {began b : Cursor} {fault : ReadFault} → StopsIn told f B d a N NB e s h → SameCost built_at (λ v. whole_copied (h v)) began w → AgreesWithin told f B d k w began a (Err fault, b)
        → AgreesWithin told N NB e whole_of whole_copied built_at s (Err fault, b)
    stopped l same t = record { reads = record { answers = steps.refuses l.blocks t.reads.answers }; copied = c.copied_exit l.going same t.copied.answers; extends = l.extends ⨟ t.extends }

    -- nothing of a part stands here
    module _ {v : C} (l : StopsIn told f B d a N NB e s h) (filled : Filled f v) (cost : a.copies ≡ built_at.copies + (whole_copied (h v)).copies) where
      pub refused_here : RefusesWithin told f B d a (refusal a) a → AgreesWithin told N NB e whole_of whole_copied built_at s (Err (refusal a), a)
      refused_here r = record { reads = record { answers = steps.refuses l.blocks r }; copied = record { answers = c.copied_next a (c.copied_before l.going filled cost) }; extends = l.extends }

      -- or it is one level or one repetition too many
      pub too_deep_here : {at : ℕ} → RefusesWithin told f B d a (TooDeep at) a → AgreesWithin told N NB e whole_of whole_copied built_at s (Err (TooDeep at), a)
      too_deep_here r = record { reads = record { answers = steps.refuses l.blocks r }; copied = record { answers = record { says = c.copied_before l.going filled cost } }; extends = l.extends }

  -- ---- at a bind

  -- a part is read, and then it goes on
  pub then_part : {C Y : Type 0} {d : ℕ} {f : The C} {B : Language Lexeme C} {k w : C → Built Y} {began a : Cursor} {h : C → A} (r : Reading Y) (next : Y → Reader X) → AgreesWithin told f B d k w began a r
      → StopsIn told f B d a N NB e s h
      → SameCost built_at (λ v. whole_copied (h v)) began w → ((y : Y) (mid : Cursor) → AgreesWithin told f B d k w began a (Ok y, mid) → AgreesWithin told N NB e whole_of whole_copied built_at s (next y mid))
      → AgreesWithin told N NB e whole_of whole_copied built_at s (r >>= next)
  then_part {d = d} {f = f} {B = B} {k = k} {w = w} {began = began} {a = a} r next t l same more =
      by_read (λ z. AgreesWithin told N NB e whole_of whole_copied built_at s z) (λ z. AgreesWithin told f B d k w began a z) r next t more (λ fault mid u. stopped l same u)

  -- what remains was read, and of its value that of the whole is built
  pub ends_by : {C : Type 0} {d : ℕ} {f : The C} {B : Language Lexeme C} {h : C → A} {part own_cost : C → Built X} {began a : Cursor} (r : Reading X) → ResidualIn told f B d a N NB e s h → SameCost built_at
      (λ v. whole_copied (h v)) began own_cost
      → ((v : C) (x : X) (end : Cursor) → Builds (part v) began x end → Builds (whole_of (h v)) built_at x end) → AgreesWithin told f B d part own_cost began a r → AgreesWithin told N NB e whole_of whole_copied built_at s r
  ends_by (Ok x, end) l cost made t = let read = t.reads.answers in built l read.read read.takes t.extends (made read.read x end read.builds)
  ends_by (Err fault, end) l cost made t = stopped (all_left l) cost t

  -- its answer is that of the whole
  pub ends_in : {C : Type 0} {d : ℕ} {f : The C} {B : Language Lexeme C} {h : C → A} {w : C → Built X} {a : Cursor} (r : Reading X) → ResidualIn told f B d a N NB e s h → SameCost built_at (λ v. whole_copied (h v)) built_at w
      → AgreesWithin told f B d (λ v. whole_of (h v)) w built_at a r → AgreesWithin told N NB e whole_of whole_copied built_at s r
  ends_in r l same t = ends_by r l same (λ v x end u. u) t

  module _ {C Y : Type 0} {d : ℕ} {f : The C} {k w : C → Built Y} {began a : Cursor} (r : Reading Y) where
    -- the first part of what remains is read, and then the rest
    pub then_rest : {next : Y → Reader X} {D : Type 0} {g : The D} {h : C × D → A} {v : D} → AgreesWithin told f (few_form f) d k w began a r
        → ((y : Y) (mid : Cursor) → AgreesWithin told f (few_form f) d k w began a (Ok y, mid) → AgreesWithin told N NB e whole_of whole_copied built_at s (next y mid))
        → ResidualIn told (seq f g) (few_form (seq f g)) d a N NB e s h → ok left_factored (seq f g) ≡ true → Filled g v → SameCost built_at (λ u. whole_copied (h (u, v))) began w
        → AgreesWithin told N NB e whole_of whole_copied built_at s (r >>= next)
    then_rest t more l o filled same = then_part r _ t (first_of l o filled) same more

    -- and what follows it goes on from its value
    pub then_tail : {D : Type 0} {g : The D} {h : C × D → A} {v : D} (tail : Y → Reader X) → AgreesWithin told f (few_form f) d k w began a r → ResidualIn told (seq f g) (few_form (seq f g)) d a N NB e s h → ok left_factored
        (seq f g) ≡ true → Filled g v
        → SameCost built_at (λ u. whole_copied (h (u, v))) began w
        → ((read : C) (y : Y) (mid : Cursor) → Builds (k read) began y mid → AgreesWithin told g (few_form g) d (λ z. whole_of (h (read, z))) (λ z. whole_copied (h (read, z))) built_at mid (tail y mid))
        → AgreesWithin told N NB e whole_of whole_copied built_at s (r >>= tail)
    then_tail tail t l o filled same more = then_rest t (λ y mid u. let read = u.reads.answers in ends_in (tail y mid) (second l o u) (λ v. refl) (more read.read y mid read.builds)) l o filled same

    -- of what remains a node is made
    pub makes : {h : C → A} (of : Y → X) → ResidualIn told f (few_form f) d a N NB e s h → SameCost built_at (λ v. whole_copied (h v)) began w
        → ((v : C) (y : Y) (end : Cursor) → Builds (k v) began y end → Builds (whole_of (h v)) built_at (of y) end) → AgreesWithin told f (few_form f) d k w began a r
        → AgreesWithin told N NB e whole_of whole_copied built_at s (r >>= λ y. done (of y))
    makes of l cost made t = then_part r _ t (all_left l) cost (λ y end u. let read = u.reads.answers in built l read.read read.takes u.extends (made read.read y end read.builds))

  -- ---- at a token
  module _ {q : Kind → Bool} {d : ℕ} {a : Cursor} where
    -- it is a part
    pub needs_at : {h : Lexeme → A} {v : Lexeme} (next : Lexeme → Reader X) → StopsIn told (token q) (few_form (token q)) d a N NB e s h → Filled (token q) v → a.copies ≡ built_at.copies + (whole_copied (h v)).copies
        → ((t : Lexeme) (mid : Cursor) → Passes q a t mid → AgreesWithin told N NB e whole_of whole_copied built_at s (next t mid)) → AgreesWithin told N NB e whole_of whole_copied built_at s (expected q a >>= next)
    needs_at next l filled cost more = by_expected (λ r. AgreesWithin told N NB e whole_of whole_copied built_at s r) q a next more (λ m. refused_here l filled cost (steps.missed m))

    -- it is all that remains
    pub needs_last : {h : Lexeme → A} {v : Lexeme} {next : Lexeme → Reader X} → ResidualIn told (token q) (few_form (token q)) d a N NB e s h → Filled (token q) v → a.copies ≡ built_at.copies + (whole_copied (h v)).copies
        → ((t : Lexeme) (mid : Cursor) → Passes q a t mid → AgreesWithin told N NB e whole_of whole_copied built_at s (next t mid)) → AgreesWithin told N NB e whole_of whole_copied built_at s (expected q a >>= next)
    needs_last l filled cost more = needs_at _ (all_left l) filled cost more

    -- it is the next part of what remains
    pub needs : {D : Type 0} {g : The D} {h : Lexeme × D → A} {v : Lexeme × D} {next : Lexeme → Reader X} → ResidualIn told (seq (token q) g) (few_form (seq (token q) g)) d a N NB e s h → ok left_factored (seq (token q) g) ≡ true
        → Filled (seq (token q) g) v → a.copies ≡ built_at.copies + (whole_copied (h v)).copies
        → ((t : Lexeme) (mid : Cursor) → Passes q a t mid → AgreesWithin told N NB e whole_of whole_copied built_at s (next t mid)) → AgreesWithin told N NB e whole_of whole_copied built_at s (expected q a >>= next)
    needs l o filled cost more =
        by_expected (λ r. AgreesWithin told N NB e whole_of whole_copied built_at s r) q a _ more (λ m. refused_here (all_left l) filled cost (steps.refuses {s = a} (steps.first_part steps.whole o) (steps.missed m)))
