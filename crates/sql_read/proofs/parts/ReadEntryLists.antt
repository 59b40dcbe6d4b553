-- The entries of a block as they are read one by one, where it may have no more of them than the limit: in one list, as in the grammar with few
-- entries.
use Rattle.std.proofs.Common.{◌≡◌, ℕ, zero, suc, ◌+◌, ◌-◌, ◌≤◌, ◌<◌, nat_lt, Bool, true, false, List, [], ◌∷◌, ◌++◌, inl, inr, Option, refl, sym, ◌∙◌, ap, subst, None, append_assoc, arith}
use Rattle.std.proofs.lemmas.List.{append-nil}
use Rattle.grammar.specs.Form.{ref, seq, star, alt, map, only, empty}
use Rattle.grammar.proofs.languages.Forms.{includes_through}
use Rattle.grammar.proofs.languages.Heights.{name_prefixes}
use Rattle.std.proofs.lemmas.Bool.{ltb-true, ltb-false}
use Rattle.grammar.specs.Language.{Language, seq_language}
use Rattle.grammar.specs.Productions.{optional, skip_then}
use Rattle.grammar.specs.Reading.{Took, Began, Residual}
use Rattle.grammar.proofs.readers.Begun.{nothing_began}
use Rattle.grammar.proofs.readers.Choices.{is_absent}
use Rattle.grammar.proofs.readers.Predictions.{ahead, known}
use Rattle.grammar.proofs.readers.Residuals as r
use Rattle.grammar.proofs.readers.Repetitions.{IsOneMore}
use Rattle.grammar.proofs.readers.Steps.{IsWithin}
use Rattle.sql_lex.specs.Lexemes.{Lexeme}
use Rattle.sql_model.specs.declared.tree.Entry.{Entry}
use Rattle.sql_model.specs.declared.tree.Expr.{Expr}
use Rattle.sql_grammar.specs.declared.kinds.Kind.TheVariants as k
use Rattle.sql_grammar.specs.Kinds.{kind_of, same, among}
use Rattle.sql_grammar.specs.Numbering.{Built}
use Rattle.sql_grammar.specs.QueryEntries.{Further, before_entry, further_entries, most_entries, most_further, next_entry}
use Rattle.sql_grammar.specs.QueryGrammar.{The, a, entry, expr}
use Rattle.sql_grammar.specs.FactoredQueries.{of_factored, factored, in_factored}
use Rattle.sql_grammar.specs.QueryTrees as t
use Rattle.sql_grammar.specs.declared.listed.Listed.{Listed}
use Rattle.sql_cursor.specs.Cursor.{Cursor}
use Rattle.sql_cursor.specs.Eating.{Passes}
use Rattle.sql_read.specs.Reads.{TakesWithin, entries_too, few_form}
use Rattle.sql_grammar.proofs.copies.QueryFillings.{word}
use Rattle.sql_grammar.proofs.queries.QueryTable.{left_factored}
use Rattle.sql_grammar.proofs.queries.QueryWords.{Below}
use Rattle.grammar.proofs.factorings.Alike.{below_alt, below_map, below_seq, itself}
use Rattle.sql_read.proofs.steps.ReadSteps as steps
use Rattle.sql_read.proofs.steps.ReadSteps.{Halts, LeftWithin, entries_within, fewer_within, halts_of, halts_through, starts, took_token, whole_within}
use Rattle.sql_read.proofs.parts.ReadBegins.{begins_each}
use Rattle.sql_read.proofs.steps.ReadLoops.{Begins}
use Rattle.sql_grammar.specs.declared.kinds.Kind.{Kind}

-- ---- forms

-- an entry, where one fits
abbrev pub fitting : Bool → The (Built Listed)
fitting true = ref entry
fitting false = map (λ none. t.table_entry (word []) None) (only (λ none. false) empty)

abbrev pub cross_words : The (Lexeme × Lexeme)
cross_words = seq (a k.Cross) (a k.Join)

abbrev pub on_words : The (Option Lexeme × Lexeme)
on_words = seq (optional (a k.Inner)) (a k.Join)

abbrev pub condition : The (Built Expr)
condition = skip_then (a k.On) (ref expr)

-- such an entry behind JOIN
abbrev pub on_of : The (Built Listed) → The (Built Entry)
on_of e = map (λ p. t.joined_on p.0 p.1) (skip_then on_words (seq e condition))

abbrev pub cross_of : The (Built Listed) → The (Built Entry)
cross_of e = map t.cross_joined (skip_then cross_words e)

abbrev pub joins_of : The (Built Listed) → The (Built Entry)
joins_of e = alt (on_of e) (cross_of e)

abbrev pub joins : The (Built Entry)
joins = joins_of (ref entry)

abbrev pub comma_entry : The (Built Listed)
comma_entry = skip_then (a k.Comma) (ref entry)

-- such an entry behind a comma or JOIN
abbrev comma_of : The (Built Listed) → The Further
comma_of e = map (λ listed. inl listed) (skip_then (a k.Comma) e)

abbrev join_of : The (Built Listed) → The Further
join_of e = map (λ joined. inr joined) (joins_of e)

abbrev next_of : The (Built Listed) → The Further
next_of e = alt (comma_of e) (join_of e)

-- one more entry fits behind so many
abbrev pub fits : ℕ → Bool
fits count = nat_lt count most_entries

-- behind so many others
abbrev pub entry_behind : ℕ → The (Built Listed)
entry_behind count = fitting (fits count)

abbrev pub joins_behind : ℕ → The (Built Entry)
joins_behind count = joins_of (entry_behind count)

-- all entries of a block, and few
abbrev pub one_list : The (Built Listed × List Further)
one_list = seq (ref entry) (star None next_entry)

abbrev pub few_list : The (Built Listed × List Further)
few_list = seq (ref entry) (further_entries most_further)

abbrev pub join_kinds : Kind → Bool
join_kinds = among (k.Cross ∷ k.Inner ∷ k.Join ∷ [])

pub join_begins : Begins join_kinds joins
join_begins = begins_each joins (k.Cross ∷ k.Inner ∷ k.Join ∷ [])
    ((same k.Cross, λ t i. inr (inl (inl (inr (t, refl, i)))))
    ∷ (same k.Inner, λ t i. inl (inl (inl (inl (inr (t, refl, i))))))
    ∷ (same k.Join, λ t i. inl (inl (inr ([], t ∷ [], None, refl, inr (tt, refl, refl), inr (t, refl, i)))))
    ∷ []) refl

-- ---- less is read of these where no entry fits

pub entry_below : (fits : Bool) → Below of_factored (fitting fits) (ref entry)
entry_below true = itself (ref entry)
entry_below false = record {
  holds = λ room. record {
    spells = λ ts v s. let none : false ≡ true = s.1.1 in cc;
    prefix = λ ts f. subst (of_factored room entry).prefix (sym f) (name_prefixes kind_of factored room entry).empty;
  };
}

comma_below : (fits : Bool) → Below of_factored (comma_of (fitting fits)) (comma_of (ref entry))
comma_below fits = below_map (λ listed. inl listed) (below_map (λ p. p.1) (below_seq (itself (a k.Comma)) (entry_below fits)))

pub on_below : (fits : Bool) → Below of_factored (on_of (fitting fits)) (on_of (ref entry))
on_below fits = below_map (λ p. t.joined_on p.0 p.1) (below_map (λ p. p.1) (below_seq (itself on_words) (below_seq (entry_below fits) (itself condition))))

pub cross_below : (fits : Bool) → Below of_factored (cross_of (fitting fits)) (cross_of (ref entry))
cross_below fits = below_map t.cross_joined (below_map (λ p. p.1) (below_seq (itself cross_words) (entry_below fits)))

joins_below : (fits : Bool) → Below of_factored (join_of (fitting fits)) (join_of (ref entry))
joins_below fits = below_map (λ joined. inr joined) (below_alt (on_below fits) (cross_below fits))

next_within : (fits : Bool) → IsWithin (in_factored None next_entry) (few_form (next_of (fitting fits)))
next_within fits = fewer_within (below_alt (comma_below fits) (joins_below fits))

-- ---- further entries are within a repetition

abbrev all_next : Language Lexeme (List Further)
all_next = in_factored None (star None next_entry)

before_begins : (ts : List Lexeme) → (in_factored None before_entry).prefix ts → (in_factored None next_entry).prefix ts
before_begins ts (inl c) = inl (inl c)
before_begins ts (inr (inl j)) = inr (inl (inl j))
before_begins ts (inr (inr c)) = inr (inr (inl c))

one_begins_all : (ts : List Lexeme) → (in_factored None next_entry).prefix ts → all_next.prefix ts
one_begins_all ts f = inr ([], ts, [], refl, refl, f)

further_spells : (n : ℕ) (ts : List Lexeme) (v : List Further) → (in_factored None (further_entries n)).spells ts v → all_next.spells ts v
further_spells zero ts v (inl (u, e, i)) = subst (λ z. all_next.spells ts z) (sym i) e
further_spells zero ts v (inr (u, (s, n), i)) = cc
further_spells (suc n) ts v (inl (u, e, i)) = subst (λ z. all_next.spells ts z) (sym i) e
further_spells (suc n) ts v (inr (u, (x, y, e, s, q), i)) = subst (λ z. all_next.spells ts z) (sym i) (x, y, e, s, further_spells n y u.1 q)

after_one : (ts x y : List Lexeme) (v : Further) → ts ≡ x ++ y → (in_factored None next_entry).spells x v → all_next.prefix y → all_next.prefix ts
after_one ts x y v e s (inl i) = inr (x, y, v ∷ [], e, (x, [], sym (append-nil x), s, refl), subst (in_factored None next_entry).prefix (sym i) (known left_factored next_entry refl).prefixes.empty)
after_one ts x y v e s (inr (p, q, vs, i, c, f)) = inr (x ++ p, q, v ∷ vs, e ∙ (ap (λ z. x ++ z) i ∙ sym (append_assoc x p q)), (x, p, refl, s, c), f)

further_begins : (n : ℕ) (ts : List Lexeme) → (in_factored None (further_entries n)).prefix ts → all_next.prefix ts
further_begins zero ts (inl e) = inl e
further_begins zero ts (inr b) = one_begins_all ts (before_begins ts b)
further_begins (suc n) ts (inl e) = inl e
further_begins (suc n) ts (inr (inl f)) = one_begins_all ts f
further_begins (suc n) ts (inr (inr (x, y, v, e, s, f))) = after_one ts x y v e s (further_begins n y f)

pub further_within : (n : ℕ) → IsWithin all_next (few_form (further_entries n))
further_within n =
    let w = entries_within (further_entries n) in
    record { includes = includes_through _ _ _ w.includes (record { spells = further_spells n; prefix = further_begins n }); prefixes = w.prefixes }

-- ---- one more of them

-- there is room for it
room_for_one : (n : ℕ) → IsOneMore (few_form next_entry) (few_form (further_entries n)) (few_form (further_entries (suc n)))
unfolding few_form
room_for_one n = record { spells = λ x y v vs s q. inr ((v, vs), (x, y, refl, s, q), refl); there = λ x f. inr f; back = back }
  where
    back : (x : List Lexeme) → (x ≡ [] → ⊥) → (few_form (further_entries (suc n))).prefix x → (seq_language (few_form next_entry) (few_form (further_entries n))).prefix x
    back x m (inl e) = absurd (m e)
    back x m (inr f) = f

-- there is none
abbrev no_next : The Further
no_next = next_of (fitting false)

no_entry : (ts : List Lexeme) (v : Further) → (few_form no_next).spells ts v → ⊥
unfolding few_form
no_entry ts v (inl (e, (p, (x, y, i, c, s), j), l)) = let none : false ≡ true = s.1.1 in cc
no_entry ts v (inr (e, inl (u, (p, (x, y, i, c, (x1, y1, i1, s, q)), j), l), m)) = let none : false ≡ true = s.1.1 in cc
no_entry ts v (inr (e, inr (u, (p, (x, y, i, c, s), j), l), m)) = let none : false ≡ true = s.1.1 in cc

whole_of : (ts x y : List Lexeme) → ts ≡ x ++ y → y ≡ [] → x ≡ ts
whole_of ts x y e i = sym (e ∙ (ap (λ z. x ++ z) i ∙ append-nil x))

abbrev joining : The Lexeme
joining = skip_then (optional (a k.Inner)) (a k.Join)

abbrev crossing : The Lexeme
crossing = skip_then (a k.Cross) (a k.Join)

to_before : (ts : List Lexeme) → (few_form no_next).prefix ts → (few_form before_entry).prefix ts
unfolding few_form
to_before ts (inl (inl c)) = inl c
to_before ts (inl (inr (x, y, v, e, c, i))) = inl (subst (few_form (a k.Comma)).prefix (whole_of ts x y e i) ((entries_within (a k.Comma)).prefixes.spelled x v c))
to_before ts (inr (inl (inl j))) = inr (inl j)
to_before ts (inr (inl (inr (x, y, v, e, j, inl i)))) = inr (inl (subst (few_form joining).prefix (whole_of ts x y e i) ((entries_within joining).prefixes.spelled x v.1 (v, j, refl))))
to_before ts (inr (inl (inr (x, y, v, e, j, inr (x1, y1, w, e1, s, f))))) = let none : false ≡ true = s.1.1 in cc
to_before ts (inr (inr (inl c))) = inr (inr c)
to_before ts (inr (inr (inr (x, y, v, e, c, i)))) = inr (inr (subst (few_form crossing).prefix (whole_of ts x y e i) ((entries_within crossing).prefixes.spelled x v.1 (v, c, refl))))

from_before : (ts : List Lexeme) → (few_form before_entry).prefix ts → (few_form no_next).prefix ts
unfolding few_form
from_before ts (inl c) = inl (inl c)
from_before ts (inr (inl j)) = inr (inl (inl j))
from_before ts (inr (inr c)) = inr (inr (inl c))

no_room : IsOneMore (few_form no_next) (few_form (further_entries zero)) (few_form (further_entries zero))
unfolding few_form
no_room = record { spells = λ x y v vs s q. absurd (no_entry x v s); there = there; back = back }
  where
    there : (x : List Lexeme) → (seq_language (few_form no_next) (few_form (further_entries zero))).prefix x → (few_form (further_entries zero)).prefix x
    there x (inl f) = inr (to_before x f)
    there x (inr (y, z, v, e, s, f)) = absurd (no_entry y v s)

    back : (x : List Lexeme) → (x ≡ [] → ⊥) → (few_form (further_entries zero)).prefix x → (seq_language (few_form no_next) (few_form (further_entries zero))).prefix x
    back x m (inl e) = absurd (m e)
    back x m (inr f) = inl (from_before x f)

-- behind so many
one_more_behind : (count : ℕ) → IsOneMore (few_form (next_of (entry_behind count))) (few_form (further_entries (most_entries - (count + 1)))) (few_form (further_entries (most_entries - count)))
one_more_behind count = go (fits count) refl
  where
    go : (b : Bool) → fits count ≡ b → IsOneMore (few_form (next_of (fitting b))) (few_form (further_entries (most_entries - (count + 1)))) (few_form (further_entries (most_entries - count)))
    go true e =
        let n : count < most_entries = ltb-true count most_entries e in
        let more : most_entries - count ≡ suc (most_entries - (count + 1)) = omega (arith, n) in
        subst (λ z. IsOneMore (few_form next_entry) (few_form (further_entries (most_entries - (count + 1)))) (few_form (further_entries z))) (sym more) (room_for_one (most_entries - (count + 1)))
    go false e =
        let n : most_entries ≤ count = ltb-false count most_entries e in
        let none : most_entries - count ≡ zero = omega (arith, n) in
        let still : most_entries - (count + 1) ≡ zero = omega (arith, n) in
        subst (λ z. IsOneMore (few_form no_next) (few_form (further_entries z)) (few_form (further_entries (most_entries - count)))) (sym still)
        (subst (λ z. IsOneMore (few_form no_next) (few_form (further_entries zero)) (few_form (further_entries z))) (sym none) no_room)

-- ---- steps

-- further entries may follow here, behind so many of a list that began at the start
pub record FurtherLeft (count : ℕ) (start here : List Lexeme) : Type 0 where
  pub join : List Further → Built Listed × List Further
  pub residual : Residual (in_factored None (star None next_entry)) (few_form (further_entries (most_entries - count))) here (in_factored None one_list) (few_form few_list) start join

-- an entry is to stand here: the first of the list, or one behind a comma
pub data EntryAwaited (count : ℕ) (start : List Lexeme) (here : Cursor) : Type 0 where
  at_start : count ≡ 0 → here.tokens ≡ start → EntryAwaited count start here
  behind_comma : (before : Cursor) (comma : Lexeme) → Passes (same k.Comma) before comma here → FurtherLeft count start before.tokens → EntryAwaited count start here

none_further : (n : ℕ) → (few_form (further_entries n)).spells [] []
unfolding few_form
none_further zero = inl (tt, refl, refl)
none_further (suc n) = inl (tt, refl, refl)

module _ {count : ℕ} {start here : List Lexeme} (l : FurtherLeft count start here) where
  abbrev next : Language Lexeme Further
  next = few_form (next_of (entry_behind count))

  next_taken : (v : Further) (mid : List Lexeme) → Took (in_factored None next_entry) next here v mid → FurtherLeft (count + 1) start mid
  next_taken v mid s = record {
    join = λ vs. l.join (v ∷ vs);
    residual = r.left_more left_factored _ _ start None next_entry next (next_within (fits count)) refl _ _ (further_within (most_entries - (count + 1))) (one_more_behind count) here l.join l.residual v mid s;
  }

  next_halts : (token : Lexeme) (more : List Lexeme) → here ≡ token ∷ more → (in_factored None next_entry).prefix (token ∷ []) → Halts (in_factored None next_entry) next here (in_factored None one_list) (few_form few_list) start
  next_halts token more e b = record {
    failed = r.left_more_failed left_factored _ _ start None next_entry next (next_within (fits count)) refl _ _ (further_within (most_entries - (count + 1))) (one_more_behind count) here l.join l.residual token more e b;
    exceeded = r.left_more_exceeded left_factored _ _ start None next_entry next (next_within (fits count)) refl _ _ (further_within (most_entries - (count + 1))) (one_more_behind count) here l.join l.residual;
    began = r.left_more_began left_factored _ _ start None next_entry next (next_within (fits count)) refl _ _ (further_within (most_entries - (count + 1))) (one_more_behind count) here l.join l.residual;
  }

  -- what was taken up to here begins the list
  pub list_begins : Began (few_form few_list) start here
  list_begins = l.residual.began here (nothing_began (few_form (further_entries (most_entries - count))) (entries_within (further_entries (most_entries - count))).prefixes here)

  -- no further entry
  pub list_ended : is_absent kind_of (ahead left_factored next_entry) here ≡ true → Took (in_factored None one_list) (few_form few_list) start (l.join []) here
  list_ended n = r.left_last left_factored _ _ start None next_entry next (next_within (fits count)) refl (few_form (further_entries (most_entries - count))) (none_further (most_entries - count)) here l.join l.residual n

-- ---- the entry that is to stand here

comma_left : (fits : Bool) {before here : Cursor} {comma : Lexeme} → Passes (same k.Comma) before comma here
    → Residual (in_factored None (ref entry)) (few_form (fitting fits)) here.tokens (in_factored None next_entry) (few_form (next_of (fitting fits))) before.tokens (λ listed. inl listed)
comma_left fits {before = before} {here = here} {comma = comma} q =
    let choice = steps.next_to (comma_of (fitting fits)) (whole_within {told = entries_too} {N = next_entry} {NB = few_form (next_of (fitting fits))} {e = 0} {start = before.tokens})
    (joins_below fits) refl comma here.tokens q.stood (inl (starts q)) in
    (steps.second_to (itself (a k.Comma)) (entry_below fits) (steps.mapped_to (seq (a k.Comma) (fitting fits)) (steps.mapped_to (skip_then (a k.Comma) (fitting fits)) choice)) refl (took_token 0 q)).few tt

-- all of the list remains at its start
whole_list : (levels : ℕ) (start : List Lexeme) → LeftWithin entries_too one_list (seq_language (few_form (ref entry)) (few_form (further_entries most_further))) levels start one_list
    (few_form few_list) levels start (λ p. p)
unfolding few_form
whole_list levels start = whole_within

module _ {count : ℕ} {start : List Lexeme} {here : Cursor} where
  pub entry_read : {levels : ℕ} → EntryAwaited count start here → (v : Built Listed) (mid : List Lexeme) → TakesWithin entries_too (ref entry) (few_form (entry_behind count)) levels here.tokens v mid
      → FurtherLeft (count + 1) start mid
  entry_read (behind_comma before comma q l) v mid s = next_taken l (inl v) mid ((comma_left (fits count) q).took v mid (s.few tt))
  entry_read {levels = levels} (at_start z e) v mid s =
      subst (λ n. FurtherLeft (n + 1) start mid) (sym z) (record {
        join = λ vs. (v, vs);
        residual = (steps.second_in {f = ref entry} {g = star None next_entry} (few_form (ref entry)) (few_form (further_entries most_further)) (entries_within (ref entry)) (further_within most_further)
            (whole_list levels start) refl (subst (λ u. TakesWithin entries_too (ref entry) (few_form (ref entry)) levels u v mid) e
            (subst (λ n. TakesWithin entries_too (ref entry) (few_form (entry_behind n)) levels here.tokens v mid) z s))).few tt;
      })

  pub entry_halts : EntryAwaited count start here → Halts (in_factored None (ref entry)) (few_form (entry_behind count)) here.tokens (in_factored None one_list) (few_form few_list) start
  entry_halts (behind_comma before comma q l) =
      halts_through (next_halts l comma here.tokens q.stood (inl (inl (starts q)))) (halts_of (comma_left (fits count) q))
  entry_halts (at_start z e) =
      subst (λ n. Halts (in_factored None (ref entry)) (few_form (entry_behind n)) here.tokens (in_factored None one_list) (few_form few_list) start) (sym z)
      (subst (λ u. Halts (in_factored None (ref entry)) (few_form (ref entry)) u (in_factored None one_list) (few_form few_list) start) (sym e)
      ((steps.first_in {f = ref entry} {g = star None next_entry} (few_form (ref entry)) (few_form (further_entries most_further)) (entries_within (ref entry)) (further_within most_further)
      (whole_list 0 start) refl).few tt))

-- ---- an entry behind JOIN

module _ {count : ℕ} {start here : List Lexeme} (l : FurtherLeft count start here) (n : is_absent kind_of (ahead left_factored comma_entry) here ≡ true) where
  joins_left : Residual (in_factored None joins) (few_form (joins_behind count)) here (in_factored None next_entry) (few_form (next_of (entry_behind count))) here (λ j. inr j)
  joins_left = (steps.mapped_to (joins_behind count)
      (steps.other_to (join_of (entry_behind count)) (whole_within {told = entries_too} {N = next_entry} {NB = few_form (next_of (entry_behind count))} {e = 0} {start = here}) (comma_below (fits count)) refl n)).few tt

  pub join_read : (j : Built Entry) (mid : List Lexeme) → Took (in_factored None joins) (few_form (joins_behind count)) here j mid → FurtherLeft (count + 1) start mid
  join_read j mid s = next_taken l (inr j) mid (joins_left.took j mid s)

  pub join_halts : (token : Lexeme) (more : List Lexeme) → here ≡ token ∷ more → (in_factored None joins).prefix (token ∷ [])
      → Halts (in_factored None joins) (few_form (joins_behind count)) here (in_factored None one_list) (few_form few_list) start
  join_halts token more e b = halts_through (next_halts l token more e (inr b)) (halts_of joins_left)
