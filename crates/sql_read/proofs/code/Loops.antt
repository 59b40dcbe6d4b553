-- Further parts, read one by one.
use Rattle.std.proofs.Common.{ℕ, zero, suc, ◌+◌, ◌-◌, List, [], ◌∷◌, ◌++◌, length, Result, ◌<◌, ◌≡◌, ◌==◌, ◌∙◌, sym, subst, ap, add-one, length-append, Some, None, Option, Ok, Err, OnOk, refl, arith, inl, inr, Bool, true, false, ◌&&◌, ◌||◌, nat_lt, if◌then◌else◌}
use Rattle.std.proofs.Math.Dec.{eqb-suc-zero}
use Rattle.std.proofs.lemmas.Bool.{cases_Bool, eqb-true, ltb-true}
use native.Mathlib.Numerals.{unary_clauses}
use Rattle.sql_grammar.specs.Kinds.{among, name_kinds, same}
use Rattle.sql_grammar.specs.QueryEntries.{most_entries}
use Rattle.sql_grammar.specs.QueryTrees.{place_of}
use Rattle.sql_grammar.specs.declared.kinds.Kind.{Kind}
use Rattle.sql_grammar.specs.declared.kinds.Kind.TheVariants as k
use Rattle.sql_grammar.specs.declared.listed.Listed.{Listed}
use Rattle.sql_lex.specs.Lexemes.{Lexeme}
use Rattle.sql_model.specs.declared.tree.Entry.{Entry}
use Rattle.sql_model.specs.declared.tree.Expr.{Expr}
use Rattle.sql_model.specs.declared.tree.Expr.TheVariants.{Or}
use Rattle.sql_cursor.specs.declared.fault.ReadFault.{ReadFault}
use Rattle.sql_cursor.specs.declared.fault.ReadFault.TheVariants.{Limit, NoMemory}
use Rattle.sql_cursor.specs.declared.fault.LimitKind.TheVariants as limit
use Rattle.sql_cursor.specs.declared.tokens.counting.Mark.{Mark}
use Rattle.sql_cursor.specs.Cursor.{Cursor}
use Rattle.sql_cursor.specs.Eating.{PassesWithin, Stays, is_next}
use Rattle.sql_read.specs.Parts.{allowed_entry}
use Rattle.sql_cursor.specs.Refusals.{refusal}
use Rattle.sql_read.specs.Reading.{any_of, table_entry, joined, joined_entry, at, deeper_than}
use Rattle.sql_cursor.specs.Readers.{Gives, Reader, Reading, Stops, ◌>>=◌, eaten, eaten_within, expected, mark, repeated}

-- what stops stops what would go on behind it
pub stops_first : {A B : Type 0} (fault : ReadFault) (here : Cursor) (reading : Reading A) (next : A → Reader B) → Stops fault here reading → Stops fault here (reading >>= next)
stops_first NoMemory here reading next s = tt
stops_first other here reading next s = rw s refl

-- a word that was passed was found
pub eaten_some : {p : Kind → Bool} {room : ℕ} {a b : Cursor} {t : Lexeme} → PassesWithin p room a t b → eaten_within p room a ≡ (Ok (Some t), b)
unfolding eaten_within
eaten_some {room = zero} q = let none : 0 < 0 = q.room_left in absurd (omega (arith, none))
eaten_some {room = suc n} q = rw (q.passes.stood, q.passes.of_kind, eqb-suc-zero n, q.passes.moved) refl

pub marked : (m : Mark) (c : Cursor) → m.passed ≡ c.passed → m.copies ≡ c.copies → m ≡ mark c
marked m c e f i = record { passed = e i; copies = f i }

module _ {A W : Type 0} (word : ℕ → Reader (Option W)) (next : A → W → Reader A) (room : ℕ) (x : A) (c : Cursor) (start : Reading A) (same : repeated word next room x c ≡ start) where
  pub word_stops : (fault : ReadFault) (d : Cursor) → Stops fault d (word room c) → Stops fault d start
  unfolding repeated
  word_stops fault d s = subst (Stops fault d) same (go room s)
    where
      go : (n : ℕ) → Stops fault d (word n c) → Stops fault d (repeated word next n x c)
      go zero s = stops_first fault d (word zero c) _ s
      go (suc n) s = stops_first fault d (word (suc n) c) _ s

  pub no_word : (d : Cursor) → word room c ≡ (Ok None, d) → start ≡ (Ok x, d)
  unfolding repeated
  no_word d e = sym same ∙ go room e
    where
      go : (n : ℕ) → word n c ≡ (Ok None, d) → repeated word next n x c ≡ (Ok x, d)
      go zero e = rw e refl
      go (suc n) e = rw e refl

  module _ (w : W) (d : Cursor) (e : word room c ≡ (Ok (Some w), d)) (some : 0 < room) where
    goes_on : (n : ℕ) → word n c ≡ (Ok (Some w), d) → 0 < n → repeated word next n x c ≡ (next x w d >>= repeated word next (n - 1))
    unfolding repeated
    goes_on zero e some = absurd (omega (arith, some))
    goes_on (suc n) e some = simp unary_clauses (rw e refl)

    pub part_stops : (fault : ReadFault) (f : Cursor) → Stops fault f (next x w d) → Stops fault f start
    part_stops fault f s = subst (Stops fault f) (sym (goes_on room e some) ∙ same) (stops_first fault f (next x w d) _ s)

    pub part_read : (y : A) (f : Cursor) → next x w d ≡ (Ok y, f) → repeated word next (room - 1) y f ≡ start
    part_read y f n = sym (goes_on room e some ∙ rw n refl) ∙ same

-- ---- of which something is made

module _ {A B W : Type 0} (word : ℕ → Reader (Option W)) (next : A → W → Reader A) (room : ℕ) (x : A) (c : Cursor) (made : A → Reader B) (start : Reading B) (same : (repeated word next room x c >>= made) ≡ start) where
  pub made_word_stops : (fault : ReadFault) (d : Cursor) → Stops fault d (word room c) → Stops fault d start
  made_word_stops fault d s = subst (Stops fault d) same (stops_first fault d _ made (word_stops word next room x c _ refl fault d s))

  pub made_no_word : (d : Cursor) → word room c ≡ (Ok None, d) → start ≡ made x d
  made_no_word d e = sym same ∙ rw (no_word word next room x c _ refl d e) refl

  module _ (w : W) (d : Cursor) (e : word room c ≡ (Ok (Some w), d)) (some : 0 < room) where
    pub made_part_stops : (fault : ReadFault) (f : Cursor) → Stops fault f (next x w d) → Stops fault f start
    made_part_stops fault f s = subst (Stops fault f) same (stops_first fault f _ made (part_stops word next room x c _ refl w d e some fault f s))

    pub made_part_read : (y : A) (f : Cursor) → next x w d ≡ (Ok y, f) → (repeated word next (room - 1) y f >>= made) ≡ start
    made_part_read y f n = rw (part_read word next room x c _ refl w d e some y f n) same

pub several : (sought : Expr) (xs : List Expr) (last : Expr) → (xs ≡ [] → ⊥) → any_of sought xs last ≡ Or (xs ++ last ∷ []) (place_of sought)
several sought [] last some = absurd (some refl)
several sought (x ∷ xs) last some = refl

-- ---- entries that are joined

module _ (levels : ℕ) (entries : List Entry) (c : Cursor) (start : Reading (List Entry)) (same : joined levels (at levels) (most_entries - length entries) entries c ≡ start) where
  pub join_stops : (fault : ReadFault) (d : Cursor) → Stops fault d (joined_entry levels (at levels) (length entries) c) → Stops fault d start
  unfolding joined
  join_stops fault d s = subst (Stops fault d) same (go (most_entries - length entries))
    where
      go : (n : ℕ) → Stops fault d (joined levels (at levels) n entries c)
      go zero = stops_first fault d (joined_entry levels (at levels) (length entries) c) _ s
      go (suc n) = stops_first fault d (joined_entry levels (at levels) (length entries) c) _ s

  pub no_join : (d : Cursor) → joined_entry levels (at levels) (length entries) c ≡ (Ok None, d) → start ≡ (Ok entries, d)
  unfolding joined
  no_join d e = sym same ∙ go (most_entries - length entries)
    where
      go : (n : ℕ) → joined levels (at levels) n entries c ≡ (Ok entries, d)
      go zero = rw e refl
      go (suc n) = rw e refl

  pub join_read : (next : Entry) (d : Cursor) → joined_entry levels (at levels) (length entries) c ≡ (Ok (Some next), d) → length entries < most_entries
      → joined levels (at levels) (most_entries - length (entries ++ next ∷ [])) (entries ++ next ∷ []) d ≡ start
  unfolding joined
  join_read next d e fits = go (most_entries - length (entries ++ next ∷ [])) (omega (arith, length-append entries (next ∷ []))) ∙ same
    where
      go : (n : ℕ) → most_entries - length entries ≡ n + 1 → joined levels (at levels) n (entries ++ next ∷ []) d ≡ joined levels (at levels) (most_entries - length entries) entries c
      go n i = rw (i, add-one) (rw e refl)

apart : {A : Type 0} (fault : ReadFault) (x : A) (c d : Cursor) → ◌≡◌ {A = Reading A} (Err fault, c) (Ok x, d) → ⊥
apart {A} fault x c d e = let i : ◌≡◌ {A = Result A ReadFault} (Err fault) (Ok x) = ap (λ p. p.0) e in cc

abbrev pub fine : Result (Unit {0}) ReadFault
fine = Ok tt

abbrev pub too_many : Result (Unit {0}) ReadFault
too_many = Err (Limit limit.Entries)

-- where none fits and one is allowed, a parenthesis stands here and no level is left for it, or there stands no name either
allowed_where : (b z o n : Bool) {done : Unit {0}} → b ≡ false → Ok done ≡ (if b || (z && o) then fine else (if o || n then too_many else fine)) → (o ≡ true → z ≡ true) × (o ≡ false → n ≡ false)
allowed_where true z o n i e = cc
allowed_where false true true n i e = (λ w. refl, λ w. cc)
allowed_where false false true n i e = cc
allowed_where false true false true i e = cc
allowed_where false false false true i e = cc
allowed_where false z false false i e = (λ w. cc, λ w. refl)

module _ (levels count : ℕ) (here : List Lexeme) {done : Unit {0}} (n : nat_lt count most_entries ≡ false) (e : Ok done ≡ allowed_entry levels count here) where
  pub no_level : is_next (same k.Open) here ≡ true → levels ≡ 0
  no_level o = eqb-true levels 0 ((allowed_where (nat_lt count most_entries) (levels == 0) (is_next (same k.Open) here) (is_next (among name_kinds) here) n e).0 o)

  pub no_name : is_next (same k.Open) here ≡ false → is_next (among name_kinds) here ≡ false
  no_name o = (allowed_where (nat_lt count most_entries) (levels == 0) (is_next (same k.Open) here) (is_next (among name_kinds) here) n e).1 o

-- where one more was allowed and a table was read, one more fits
module _ (levels count : ℕ) {b c : Cursor} (q : Stays (same k.Open) b c) {done_ : Unit {0}} (e : Ok done_ ≡ allowed_entry levels count b.tokens) where
  pub table_fits : (result : Result Listed ReadFault) (d : Cursor) → Gives result d (table_entry c) → OnOk result (count < most_entries)
  unfolding table_entry expected eaten
  table_fits (Err fault) d g = tt
  table_fits (Ok listed) d g = elim (cases_Bool (nat_lt count most_entries)) [
    | inl small ↦ ltb-true _ _ small
    | inr none ↦
        let unnamed : is_next (among name_kinds) c.tokens ≡ false = subst (λ z. is_next (among name_kinds) z.tokens ≡ false) (sym q.still) (no_name levels count b.tokens none e q.not_next) in
        absurd (apart (refusal c) listed c d (rw unnamed at g))
  ]

-- ---- levels

-- where a level may be opened, what is deeper has one fewer
pub one_fewer : (levels : ℕ) → 0 < levels → deeper_than (levels - 1) (at (levels - 1)) ≡ at levels
unfolding at
one_fewer zero some = absurd (omega (arith, some))
one_fewer (suc levels) some =
    let same : suc levels - 1 ≡ levels = omega arith in
    subst (λ n. deeper_than n (at n) ≡ at (suc levels)) (sym same) refl
