-- An entry that is one too many, and the entries of a block where they are few.
use Rattle.std.proofs.Common.{◌≡◌, ℕ, zero, suc, ◌+◌, ◌==◌, Bool, true, false, not, ◌&&◌, ◌||◌, List, [], ◌∷◌, ◌++◌, ◌⊎◌, inl, inr, Some, None, Result, Ok, Err, if◌then◌else◌, refl, sym, ◌∙◌, ap, length, subst, append_assoc, arith}
use Rattle.std.proofs.lemmas.Bool.{or_cases, or_parts}
use Rattle.grammar.specs.Form.{ref}
use Rattle.grammar.specs.Language.{Language}
use Rattle.grammar.specs.Reading.{Began, Exceeded, Failed, Took}
use Rattle.grammar.specs.Reading as reading
use Rattle.grammar.proofs.readers.Choices.{is_absent}
use Rattle.grammar.proofs.languages.Heights.{from_rule}
use Rattle.grammar.proofs.readers.Predictions.{ahead, known, ok}
use Rattle.sql_lex.specs.Lexemes.{Lexeme}
use Rattle.sql_model.specs.declared.tree.Entry.{Entry}
use Rattle.sql_cursor.specs.declared.fault.LimitKind.TheVariants as limit
use Rattle.sql_cursor.specs.declared.fault.ReadFault.{ReadFault}
use Rattle.sql_cursor.specs.declared.fault.ReadFault.TheVariants.{TooDeep, Limit, NoMemory}
use Rattle.sql_cursor.specs.Cursor.{Cursor}
use Rattle.sql_cursor.specs.Eating.{is_next}
use Rattle.sql_read.specs.Parts.{allowed_entry}
use Rattle.sql_grammar.specs.declared.kinds.Kind.TheVariants as k
use Rattle.sql_grammar.specs.declared.kinds.Kind.{Kind}
use Rattle.sql_grammar.specs.Kinds.{among, kind_of, name_kinds, same, every_kind}
use Rattle.sql_grammar.specs.Numbering.{Built}
use Rattle.sql_grammar.specs.QueryEntries.{Further, few_froms, items_of, most_further, next_entry}
use Rattle.sql_grammar.specs.QueryGrammar.{The, Froms, entry, from, listed}
use Rattle.sql_grammar.specs.FactoredQueries.{factored, in_factored}
use Rattle.sql_grammar.specs.declared.listed.Listed.{Listed}
use Rattle.sql_grammar.specs.QueryTrees.{all_entries}
use Rattle.sql_read.specs.Reads.{depth_alone, entries_too, few_form, Crowds, GivesWithin, RefusesWithin, TakesWithin}
use Rattle.sql_grammar.proofs.lists.EveryKind.{every_kind_is_there}
use Rattle.sql_grammar.proofs.entries.FewFactored.{list_left_factored}
use Rattle.sql_grammar.proofs.queries.QueryTable.{left_factored}
use Rattle.sql_read.proofs.code.Loops.{fine, too_many}
use Rattle.sql_read.proofs.parts.ReadEntryLists.{FurtherLeft, comma_entry, entry_behind, few_list, fits, fitting, join_begins, join_halts, join_kinds, join_read, joins, joins_behind, one_list}
use Rattle.sql_read.proofs.steps.ReadLoops.{IsFirst, first_there}
use Rattle.sql_read.proofs.steps.ReadSteps.{Halts, absent_where, deep_within, fewer_within, same_taken, absent_unless}
use Rattle.grammar.proofs.languages.Sets.{implied}
use Rattle.sql_read.proofs.steps.ReadPassing.{neither_next}
use Rattle.std.specs.List.{list_all}

-- ---- what may begin an entry

abbrev pub begins_entry : Kind → Bool
begins_entry kind = same k.Open kind || among name_kinds kind

both_next : (ts : List Lexeme) → (is_next (same k.Open) ts || is_next (among name_kinds) ts) ≡ is_next begins_entry ts
both_next [] = refl
both_next (t ∷ ts) = refl

abbrev deep : ℕ → Language Lexeme (Built Listed)
deep levels = in_factored (Some levels) (ref entry)

-- a parenthesis or a name begins one, where a level is left for the parenthesis
entry_begins : (levels : ℕ) (t : Lexeme) → begins_entry (kind_of t) ≡ true → ((levels == 0) && same k.Open (kind_of t)) ≡ false → (deep levels).prefix (t ∷ [])
entry_begins levels t e f = go levels f (or_cases (same k.Open (kind_of t)) (among name_kinds (kind_of t)) e)
  where
    go : (levels : ℕ) → ((levels == 0) && same k.Open (kind_of t)) ≡ false → (same k.Open (kind_of t) ≡ true) ⊎ (among name_kinds (kind_of t) ≡ true) → (deep levels).prefix (t ∷ [])
    go levels f (inr n) = (from_rule kind_of factored (Some levels) entry).prefix (t ∷ []) (inl (inl (inr (t, refl, n))))
    go zero f (inl o) = cc
    go (suc levels) f (inl o) = (from_rule kind_of factored (Some (suc levels)) entry).prefix (t ∷ []) (inr (inl (inl (inr (t, refl, o)))))

-- what a form begins with is of these kinds
first_is : {A : Type 0} (f : The A) (p : Kind → Bool) → ok left_factored f ≡ true → list_all (λ kind. not ((ahead left_factored f).first kind) || p kind) every_kind ≡ true → (t : Lexeme) (x : List Lexeme) → (in_factored None f).prefix
    (t ∷ x) → p (kind_of t) ≡ true
first_is f p o e t x s = implied ((ahead left_factored f).first (kind_of t)) (p (kind_of t)) (every_kind_is_there (λ kind. not ((ahead left_factored f).first kind) || p kind) e (kind_of t)) ((known left_factored f o).ahead.first t x s)

-- ---- whether one more entry is allowed

record Refused (b c : Bool) (fault : ReadFault) : Type 0 where
  first : b ≡ false
  second : c ≡ true
  is_limit : fault ≡ Limit limit.Entries

refused_by : (b c : Bool) (fault : ReadFault) → Err fault ≡ (if b then fine else (if c then too_many else fine)) → Refused b c fault
refused_by true c fault e = cc
refused_by false true fault e = record { first = refl; second = refl; is_limit = cc }
refused_by false false fault e = cc

pub too_many_entries : {fault : ReadFault} (levels count : ℕ) (tokens : List Lexeme) → Err fault ≡ allowed_entry levels count tokens → fault ≡ Limit limit.Entries
too_many_entries levels count tokens e = (refused_by _ _ _ e).is_limit

pub all_fits : (count : ℕ) → fits count ≡ true → few_form (ref entry) ≡ few_form (entry_behind count)
all_fits count e = sym (ap (λ (b : Bool). few_form (fitting b)) e)

-- one begins, and none fits
beyond_all : (t : Lexeme) (rest : List Lexeme) → (in_factored None (ref entry)).prefix (t ∷ []) → Exceeded (in_factored None (ref entry)) (few_form (fitting false)) (t ∷ rest) (t ∷ rest)
unfolding few_form
beyond_all t rest f = record { taken = []; whole = refl; begun = refl; passes = (f, λ e. cc) }

-- the entry is one too many
pub not_allowed : (levels count : ℕ) {a : Cursor} {fault : ReadFault} → Err fault ≡ allowed_entry levels count a.tokens → RefusesWithin entries_too (ref entry) (few_form (entry_behind count)) levels a fault a
not_allowed levels count {a = a} {fault = fault} e =
    subst (λ z. RefusesWithin entries_too (ref entry) (few_form (entry_behind count)) levels a z a) (sym o.is_limit) (record {
      says = record {
        token = f.first;
        more = f.others;
        next = f.stood;
        goes_on = record { taken = f.first ∷ []; whole = f.stood; begun = begins };
        few = λ n. subst (λ b. Exceeded (in_factored None (ref entry)) (few_form (fitting b)) a.tokens a.tokens) (sym none)
            (subst (λ ts. Exceeded (in_factored None (ref entry)) (few_form (fitting false)) ts ts) (sym f.stood)
            (beyond_all f.first f.others ((deep_within levels (ref entry)).includes.prefix (f.first ∷ []) begins)));
      };
    })
  where
    o : Refused (fits count || ((levels == 0) && is_next (same k.Open) a.tokens)) (is_next (same k.Open) a.tokens || is_next (among name_kinds) a.tokens) fault
    o = refused_by _ _ fault e

    none : fits count ≡ false
    none = (or_parts (fits count) ((levels == 0) && is_next (same k.Open) a.tokens) o.first).0

    f : IsFirst begins_entry a.tokens
    f = first_there begins_entry a.tokens (sym (both_next a.tokens) ∙ o.second)

    level : ((levels == 0) && same k.Open (kind_of f.first)) ≡ false
    level = subst (λ ts. ((levels == 0) && is_next (same k.Open) ts) ≡ false) f.stood (or_parts (fits count) ((levels == 0) && is_next (same k.Open) a.tokens) o.first).1

    begins : (deep levels).prefix (f.first ∷ [])
    begins = entry_begins levels f.first f.of_kind level

-- ---- what stops the list

-- what each fault says of the list that began at the start
abbrev pub ListSays : List Lexeme → ReadFault → List Lexeme → Type 0
ListSays start (TooDeep at) rest = Began (few_form few_list) start rest
ListSays start (Limit limit.Entries) rest = Exceeded (in_factored None one_list) (few_form few_list) start rest
ListSays start (Limit limit.Copies) rest = Began (few_form few_list) start rest
ListSays start (Limit other) rest = Unit {0}
ListSays start NoMemory rest = Unit {0}
ListSays start other rest = Failed (in_factored None one_list) (few_form few_list) start rest

pub record ListRefused (start : List Lexeme) (fault : ReadFault) (rest : List Lexeme) : Type 0 where
  pub says : ListSays start fault rest

-- what stops a part stops the list
pub list_stopped : (start : List Lexeme) {A : Type 0} {N : The A} {B : Language Lexeme A} {levels : ℕ} {a b : Cursor} (fault : ReadFault)
    → Halts (in_factored None N) B a.tokens (in_factored None one_list) (few_form few_list) start
    → RefusesWithin entries_too N B levels a fault b → ListRefused start fault b.tokens
list_stopped start {b = b} (TooDeep at) h t = record { says = h.began b.tokens (t.says.few tt) }
list_stopped start {b = b} (Limit limit.Entries) h t = record { says = h.exceeded b.tokens (t.says.few tt) }
list_stopped start {b = b} (Limit limit.Copies) h t = record { says = h.began b.tokens (t.says.few tt) }
list_stopped start (Limit other) h t = record { says = tt }
list_stopped start NoMemory h t = record { says = tt }
list_stopped start {b = b} other h t = record { says = h.failed b.tokens (t.says.few tt) }

-- ---- all entries of a block

abbrev froms : The Froms
froms = listed (ref from)

abbrev few : Language Lexeme Froms
few = few_form (few_froms most_further)

as_froms : (ts : List Lexeme) (v : Built Listed × List Further) → (few_form few_list).spells ts v → few.spells ts (items_of v)
unfolding few_form
as_froms ts v s = (v, s, refl)

begun_froms : (ts : List Lexeme) → (few_form few_list).prefix ts → few.prefix ts
unfolding few_form
begun_froms ts f = f

froms_begun : (ts : List Lexeme) → few.prefix ts → (few_form few_list).prefix ts
unfolding few_form
froms_begun ts f = f

-- one value is read
same_read : (ts : List Lexeme) (v : Froms) (w : Built Listed × List Further) → (in_factored None froms).spells ts v → (few_form few_list).spells ts w → v ≡ items_of w
same_read ts v w s q = (known left_factored froms refl).unique ts v (items_of w) s ((fewer_within (list_left_factored most_further (omega arith))).includes.spells ts (items_of w) (as_froms ts w q))

pub list_given : {levels : ℕ} {a b : Cursor} {es : List Entry} {C : Language Lexeme Froms} (w : Built Listed × List Further) → GivesWithin depth_alone froms C levels all_entries a a es b
    → Took (in_factored None one_list) (few_form few_list) a.tokens w b.tokens → GivesWithin entries_too froms few levels all_entries a a es b
list_given {levels = levels} {a = a} {b = b} w g t = record { read = g.read; takes = record { took = g.takes.took; few = λ n. taken }; builds = g.builds }
  where
    d : Took (in_factored None froms) (in_factored (Some levels) froms) a.tokens g.read b.tokens
    d = g.takes.took

    i : t.taken ≡ d.taken
    i = same_taken a.tokens b.tokens t.taken d.taken t.whole d.whole

    spelled : (few_form few_list).spells d.taken w
    spelled = subst (λ z. (few_form few_list).spells z w) i t.spelled

    taken : Took (in_factored None froms) few a.tokens g.read b.tokens
    taken = record {
      taken = d.taken;
      whole = d.whole;
      spelled = subst (λ z. few.spells d.taken z) (sym (same_read d.taken g.read w ((deep_within levels froms).includes.spells d.taken g.read d.spelled) spelled)) (as_froms d.taken w spelled);
      stops = d.stops;
    }

module _ (levels : ℕ) (a b : Cursor) where
  list_failed : Failed (in_factored None froms) (in_factored (Some levels) froms) a.tokens b.tokens → Failed (in_factored None one_list) (few_form few_list) a.tokens b.tokens → Failed (in_factored None froms) few a.tokens b.tokens
  list_failed d t = record {
    taken = d.taken;
    whole = d.whole;
    begun = subst few.prefix (same_taken a.tokens b.tokens t.taken d.taken t.whole d.whole) (begun_froms t.taken t.begun);
    unspelled = d.unspelled;
    stops = d.stops;
  }

  list_begun : Began (few_form few_list) a.tokens b.tokens → Began few a.tokens b.tokens
  list_begun t = record { taken = t.taken; whole = t.whole; begun = begun_froms t.taken t.begun }

  list_crowded : Crowds depth_alone froms few levels a b → Exceeded (in_factored None one_list) (few_form few_list) a.tokens b.tokens → Exceeded (in_factored None froms) few a.tokens b.tokens
  list_crowded d t = record { taken = t.taken; whole = t.whole; begun = begun_froms t.taken t.begun; passes = go b.tokens d.next t.whole t.passes }
    where
      goes_on : a.tokens ≡ t.taken ++ d.token ∷ d.more → (in_factored None froms).prefix (t.taken ++ d.token ∷ [])
      goes_on e =
          (deep_within levels froms).includes.prefix _
          (subst (in_factored (Some levels) froms).prefix (same_taken a.tokens d.more d.goes_on.taken (t.taken ++ d.token ∷ []) d.goes_on.whole (e ∙ sym (append_assoc t.taken (d.token ∷ []) d.more))) d.goes_on.begun)

      go : (rest : List Lexeme) → rest ≡ d.token ∷ d.more → a.tokens ≡ t.taken ++ rest → reading.Passes (in_factored None one_list) (few_form few_list) t.taken rest → reading.Passes (in_factored None froms) few t.taken rest
      go [] i e p = p
      go (u ∷ rest) i e p =
          let h : d.token ≡ u = cc in
          let m : d.more ≡ rest = cc in
          (subst (λ z. (in_factored None froms).prefix (t.taken ++ z ∷ [])) h (goes_on (e ∙ ap (λ z. t.taken ++ z) i)), λ f. p.1 (froms_begun _ f))

pub list_refused : {levels : ℕ} {a b : Cursor} {C : Language Lexeme Froms} (fault : ReadFault) → RefusesWithin depth_alone froms C levels a fault b → ListRefused a.tokens fault b.tokens
    → RefusesWithin entries_too froms few levels a fault b
list_refused {levels = levels} {a = a} {b = b} (TooDeep at) d t = record { says = record { exceeded = d.says.exceeded; few = λ n. list_begun levels a b t.says; place = d.says.place } }
list_refused {levels = levels} {a = a} {b = b} (Limit limit.Entries) d t =
    let e : Crowds depth_alone froms few levels a b = record { token = d.says.token; more = d.says.more; next = d.says.next; goes_on = d.says.goes_on; few = λ n. absurd n } in
    record { says = record { token = e.token; more = e.more; next = e.next; goes_on = e.goes_on; few = λ n. list_crowded levels a b e t.says } }
list_refused {levels = levels} {a = a} {b = b} (Limit limit.Copies) d t = record { says = record { goes_on = d.says.goes_on; few = λ n. list_begun levels a b t.says } }
list_refused (Limit limit.Columns) d t = absurd d.says.counts
list_refused (Limit limit.Relations) d t = absurd d.says.counts
list_refused NoMemory d t = record { says = tt }
list_refused {levels = levels} {a = a} {b = b} other d t = record { says = record { failed = d.says.failed; few = λ n. list_failed levels a b d.says.failed t.says; refused = d.says.refused } }

-- none of the entries that follow is joined
pub record ListRead (count : ℕ) (start rest : List Lexeme) : Type 0 where
  pub further : FurtherLeft count start rest
  pub no_join : is_next join_kinds rest ≡ false

abbrev pub ListAnswers : List Lexeme → Result (List Entry) ReadFault → List Lexeme → Type 0
ListAnswers start (Ok entries) rest = ListRead (length entries) start rest
ListAnswers start (Err fault) rest = ListRefused start fault rest

-- the entries so far, as part of the list that began at the start
pub record ReadsList (start : List Lexeme) (result : Result (List Entry) ReadFault) (rest : List Lexeme) : Type 0 where
  pub answers : ListAnswers start result rest

-- no comma and no JOIN follows
pub no_further : (here : List Lexeme) → is_next (same k.Comma) here ≡ false → is_next join_kinds here ≡ false → is_absent kind_of (ahead left_factored next_entry) here ≡ true
no_further here n m = absent_unless (λ x. same k.Comma x || join_kinds x) (ahead left_factored next_entry) refl here (neither_next (same k.Comma) join_kinds here n m)

-- ---- what stands before a JOIN

-- no comma stands there
no_comma : (ts : List Lexeme) → is_next join_kinds ts ≡ true → is_absent kind_of (ahead left_factored comma_entry) ts ≡ true
no_comma ts n = absent_where join_kinds (ahead left_factored comma_entry) refl ts n

joins_next : (start rest : List Lexeme) (v : Built Entry) (taken : List Lexeme) → start ≡ taken ++ rest → (in_factored None joins).spells taken v → is_next join_kinds start ≡ true
joins_next start rest v [] e s = let i : false ≡ true = (known left_factored joins refl).ahead.nullable v s in cc
joins_next start rest v (t ∷ x) e s = subst (λ ts. is_next join_kinds ts ≡ true) (sym e) (first_is joins join_kinds refl refl t x ((known left_factored joins refl).prefixes.spelled (t ∷ x) v s))

-- ---- so many as the list is long

pub joined_taken : {count levels : ℕ} {start here rest : List Lexeme} {read : Built Entry} → FurtherLeft count start here
    → TakesWithin entries_too joins (few_form (joins_behind count)) levels here read rest → FurtherLeft (count + 1) start rest
joined_taken {levels = levels} {here = here} {rest = rest} {read = read} l t =
    join_read l (no_comma here (joins_next here rest read t.took.taken t.took.whole ((deep_within levels joins).includes.spells _ _ t.took.spelled))) read rest (t.few tt)

pub joining_halts : {count : ℕ} {start here : List Lexeme} → FurtherLeft count start here → is_next join_kinds here ≡ true
    → Halts (in_factored None joins) (few_form (joins_behind count)) here (in_factored None one_list) (few_form few_list) start
joining_halts {here = here} l n =
    let f = first_there join_kinds here n in
    join_halts l (no_comma here n) f.first f.others f.stood (join_begins f.first f.of_kind)
