-- No two of the limits on columns, relations and entries are passed at one token of statements: a table has no entries and a view no
-- columns, and with its first token no statement has either.
use Rattle.std.proofs.Common.{◌≡◌, ℕ, zero, suc, ◌≤◌, nat_lt, true, false, List, [], ◌∷◌, ◌++◌, length, inl, inr, Some, None, refl, sym, ◌∙◌, ap, subst, append_assoc, arith}
use Rattle.std.specs.Prelude.{◌⊎◌}
use Rattle.std.proofs.lemmas.Bool.{cases_Bool, ltb-true, ltb-false}
use Rattle.std.proofs.lemmas.List.{append-nil}
use Rattle.grammar.specs.Form.{language}
use Rattle.grammar.specs.Language.{Concatenates, HasPrefixes, Includes, Language, map_language, seq_language, star_language, upto_language}
use Rattle.grammar.specs.Lookahead.{lookahead}
use Rattle.grammar.proofs.languages.Cut.{Cut, longer, same, shorter, cut, nil_right, not_nil}
use Rattle.grammar.proofs.languages.Forms.{form_prefixes}
use Rattle.grammar.proofs.languages.Prefixes.{star_prefixes}
use Rattle.grammar.proofs.languages.Heights.{name_prefixes}
use Rattle.grammar.proofs.languages.Known.{Known}
use Rattle.grammar.proofs.readers.Repetitions.{repeats_once_more}
use Rattle.grammar.proofs.languages.Sets as sets
use Rattle.grammar.proofs.languages.Sets.{apart}
use Rattle.sql_lex.specs.Lexemes.{Lexeme}
use Rattle.sql_model.specs.declared.statement.Statement.{Statement}
use Rattle.sql_grammar.specs.declared.kinds.Kind.TheVariants as kind
use Rattle.sql_grammar.specs.Kinds as kinds
use Rattle.sql_grammar.specs.Kinds.{every_kind, kind_of}
use Rattle.sql_grammar.specs.Numbering.{Built}
use Rattle.sql_grammar.specs.QueryEntries.{few_rules, most_further}
use Rattle.sql_grammar.specs.QueryGrammar.{The, a}
use Rattle.sql_grammar.specs.QueryLookahead.{table}
use Rattle.sql_grammar.proofs.lists.EveryKind.{every_kind_is_there}
use Rattle.schema_read.specs.StatementGrammar as g
use Rattle.schema_read.specs.StatementLimits.{few_columns, few_entry_statements, few_statements, most_further_columns, most_relations, narrow_statements}
use Rattle.schema_read.specs.Statements.{statements}
use Rattle.grammar.specs.Limits.{IsFirstBeyond}
use Rattle.schema_read.proofs.spelled.StatementPrefixes.{ended_below, few_form_included, statement_below}
use Rattle.sql_grammar.proofs.queries.QueryForms.{form_has_prefixes}
use Rattle.schema_read.proofs.spelled.StatementKnown.{known}
use Rattle.schema_read.proofs.spelled.Unlimited.{gl}
use Rattle.schema_read.specs.StatementGrammar.{ended}
use Rattle.schema_read.proofs.agree.WholeStatements.{few_grammar}

abbrev Ended : Type 1
Ended = Language Lexeme (Built Statement)

abbrev narrow_ended : Ended
narrow_ended = gl (g.ended_with (few_columns most_further_columns))

abbrev few_ended : Ended
few_ended = few_grammar ended

ended_known : Known kind_of (gl ended) (lookahead table ended)
ended_known = known ended refl None

-- no statement with its semicolon begins another
ended_alone : (ts k : List Lexeme) (read : Built Statement) (t : Lexeme) → (gl ended).spells ts read → (gl ended).prefix (ts ++ t ∷ k) → ⊥
ended_alone ts k read t s f = let e : false ≡ true = ended_known.ahead.last ts read t k s f in cc

-- where two begin one text they are the same
record SameEnded (x more y others : List Lexeme) (v w : Built Statement) : Type 0 where
  tokens : x ≡ y
  values : v ≡ w
  behind : more ≡ others

same_ended : (x more y others : List Lexeme) (v w : Built Statement) → (gl ended).spells x v → (gl ended).spells y w → x ++ more ≡ y ++ others → SameEnded x more y others v w
same_ended x more y others v w s r e = go (cut x more y others e)
  where
    prefixes : (ts : List Lexeme) (read : Built Statement) → (gl ended).spells ts read → (gl ended).prefix ts
    prefixes = (form_has_prefixes None ended).spelled

    go : Cut x more y others → SameEnded x more y others v w
    go (longer t k i j) = absurd (ended_alone x k v t s (subst (gl ended).prefix i (prefixes y w r)))
    go (same i j) = record { tokens = sym i; values = ended_known.unique x v w s (subst (λ z. (gl ended).spells z w) i r); behind = sym j }
    go (shorter t k i j) = absurd (ended_alone y k w t r (subst (gl ended).prefix i (prefixes x v s)))

statement_known : Known kind_of (gl g.statement) (lookahead table g.statement)
statement_known = known g.statement refl None

-- ---- one statement

-- a statement is begun within one of the limits: a table has few entries, anything else few columns
statement_begun : (ts : List Lexeme) → (gl g.statement).prefix ts → (gl (g.statement_with (few_columns most_further_columns))).prefix ts ⊎ (few_grammar g.statement).prefix ts
statement_begun ts (inl w) = inl (inl w)
statement_begun ts (inr (x, y, w, e, s, inl f)) = inr (inr (x, y, w, e, s, inl f))
statement_begun ts (inr (x, y, w, e, s, inr f)) = inl (inr (x, y, w, e, s, inr f))

statement_spelled : (ts : List Lexeme) (v : Built Statement) → (gl g.statement).spells ts v
    → (gl (g.statement_with (few_columns most_further_columns))).spells ts v ⊎ (few_grammar g.statement).spells ts v
statement_spelled ts v (u, (x, y, e, s, inl f), i) = inr (u, (x, y, e, s, inl f), i)
statement_spelled ts v (u, (x, y, e, s, inr f), i) = inl (u, (x, y, e, s, inr f), i)

ended_begun : (ts : List Lexeme) → (gl ended).prefix ts → narrow_ended.prefix ts ⊎ few_ended.prefix ts
ended_begun ts (inl f) = elim (statement_begun ts f) [ inl r ↦ inl (inl r) | inr r ↦ inr (inl r) ]
ended_begun ts (inr (x, y, v, e, s, f)) = elim (statement_spelled x v s) [ inl r ↦ inl (inr (x, y, v, e, r, f)) | inr r ↦ inr (inr (x, y, v, e, r, f)) ]

-- its first token is CREATE
begins_created : (t : Lexeme) → (gl ended).prefix (t ∷ []) → kinds.same kind.Create (kind_of t) ≡ true
begins_created t f = sets.inside every_kind every_kind_is_there (lookahead table ended).first (kinds.same kind.Create) refl (kind_of t) (ended_known.ahead.first t [] f)

-- ---- what is begun within a limit, and whole, is so within the limit

nothing_behind : (p q : List Lexeme) (v : Built Statement) → (gl ended).spells p v → (gl ended).prefix (p ++ q) → q ≡ []
nothing_behind p [] v s f = refl
nothing_behind p (t ∷ q) v s f = absurd (ended_alone p q v t s f)

some_tokens : (p q : List Lexeme) (v : Built Statement) → (gl ended).spells p v → p ++ q ≡ [] → ⊥
some_tokens [] q v s e = let n : false ≡ true = ended_known.ahead.nullable v s in cc
some_tokens (t ∷ p) q v s e = cc

-- B is a language of statements, and its statements have a semicolon
module _ (B : Ended) (i : Includes (gl g.statement) B) (b : HasPrefixes B) where
  abbrev with_semicolon : Ended
  with_semicolon = map_language (λ p. p.0) (seq_language B (gl (a kind.Semicolon)))

  last_tokens : (x y : List Lexeme) (t u : Lexeme) → x ++ t ∷ [] ≡ y ++ u ∷ [] → x ≡ y
  last_tokens x y t u e = go (cut x (t ∷ []) y (u ∷ []) e)
    where
      go : Cut x (t ∷ []) y (u ∷ []) → x ≡ y
      go (longer c l p q) = let n : l ++ u ∷ [] ≡ [] = cc in absurd (not_nil l [] u n)
      go (same p q) = sym p
      go (shorter c l p q) = let n : l ++ t ∷ [] ≡ [] = cc in absurd (not_nil l [] t n)

  pub ended_kept : (ts : List Lexeme) (v : Built Statement) → with_semicolon.prefix ts → (gl ended).spells ts v → with_semicolon.spells ts v
  ended_kept ts v f (u, (x, y, e, s, (j, m)), l) = go f
    where
      text : ts ≡ x ++ u.1 ∷ []
      text = e ∙ ap (λ z. x ++ z) j

      -- no statement goes on with a semicolon
      not_begun : B.prefix ts → ⊥
      not_begun h =
          apart every_kind every_kind_is_there (lookahead table g.statement).last (kinds.same kind.Semicolon) refl (kind_of u.1)
          (statement_known.ahead.last x u.0 u.1 [] s (i.prefix (x ++ u.1 ∷ []) (subst B.prefix text h))) m

      go : with_semicolon.prefix ts → with_semicolon.spells ts v
      go (inl h) = absurd (not_begun h)
      go (inr (x', y', w, e', r, inl n)) =
          let whole : ts ≡ x' = e' ∙ (ap (λ z. x' ++ z) n ∙ append-nil x') in absurd (not_begun (subst B.prefix (sym whole) (b.spelled x' w r)))
      go (inr (x', y', w, e', r, inr (c, n, q))) =
          let same_tokens : x' ≡ x = last_tokens x' x c u.1 (sym (e' ∙ ap (λ z. x' ++ z) n) ∙ text) in
          let here : B.spells x w = subst (λ z. B.spells z w) same_tokens r in
          let same_value : w ≡ u.0 = statement_known.unique x w u.0 (i.spells x w here) s in
          (u, (x, y, e, subst (λ z. B.spells x z) same_value here, (j, m)), l)

abbrev Keeps : Ended → Type 0
Keeps B = (ts : List Lexeme) (v : Built Statement) → B.prefix ts → (gl ended).spells ts v → B.spells ts v

-- B is what keeps to a limit of the statements with their semicolons
module _ (B : Ended) (i : Includes (gl ended) B) (b : HasPrefixes B) (kept : Keeps B) where
  pub each_kept : (vs : List (Built Statement)) (ts : List Lexeme) → (star_language B).prefix ts → Concatenates (gl ended).spells ts vs → Concatenates B.spells ts vs
  each_kept [] ts f s = s
  each_kept (v ∷ vs) ts f (p, q, e, s, r) =
      go ((repeats_once_more B b None None).back (p ++ q) (some_tokens p q v s) (subst (star_language B).prefix e f)) (λ h. each_kept vs q h r)
    where
      go : (seq_language B (star_language B)).prefix (p ++ q) → ((star_language B).prefix q → Concatenates B.spells q vs) → Concatenates B.spells ts (v ∷ vs)
      go (inl h) rest = (p, q, e, kept p v (b.shorter p q h) s, rest (inl (nothing_behind p q v s (i.prefix (p ++ q) h))))
      go (inr (y, z, w, j, t, h)) rest =
          let one = same_ended p q y z v w s (i.spells y w t) j in
          (p, q, e, kept p v (subst B.prefix (sym one.tokens) (b.spelled y w t)) s, rest (subst (star_language B).prefix (sym one.behind) h))

  -- behind whole statements one goes on within the limit
  pub goes_behind : (x done begun : List Lexeme) (t : Lexeme) (vs : List (Built Statement)) → x ≡ done ++ begun → Concatenates (gl ended).spells done vs → (star_language B).prefix x
      → B.prefix (begun ++ t ∷ []) → (star_language B).prefix (x ++ t ∷ [])
  goes_behind x done begun t vs e s f h = inr (
    done,
    begun ++ t ∷ [],
    vs,
    ap (λ z. z ++ t ∷ []) e ∙ append_assoc done begun (t ∷ []),
    each_kept vs done ((star_prefixes B b).shorter done begun (subst (star_language B).prefix e f)) s,
    h,
  )

-- ---- so many statements

few_more : (m : ℕ) (p q : List Lexeme) (v : Built Statement) → (gl ended).spells p v → (upto_language (suc m) (gl ended)).prefix (p ++ q) → (upto_language m (gl ended)).prefix q
few_more m p q v s f = go ((repeats_once_more (gl ended) ended_known.prefixes (Some zero) (Some m)).back (p ++ q) (some_tokens p q v s) f)
  where
    go : (seq_language (gl ended) (upto_language m (gl ended))).prefix (p ++ q) → (upto_language m (gl ended)).prefix q
    go (inl h) = inl (nothing_behind p q v s h)
    go (inr (y, z, w, j, t, h)) = let one = same_ended p q y z v w s t j in subst (upto_language m (gl ended)).prefix (sym one.behind) h

none_more : (p q : List Lexeme) (v : Built Statement) → (gl ended).spells p v → (upto_language zero (gl ended)).prefix (p ++ q) → ⊥
none_more p q v s (inl e) = some_tokens p q v s e
none_more p q v s (inr (x, y, vs, e, c, f, n)) = omega (arith, n)

few_kept : (m : ℕ) (vs : List (Built Statement)) (ts : List Lexeme) → (upto_language m (gl ended)).prefix ts → Concatenates (gl ended).spells ts vs → length vs ≤ m
few_kept m [] ts f s = omega arith
few_kept zero (v ∷ vs) ts f (p, q, e, s, r) = absurd (none_more p q v s (subst (upto_language zero (gl ended)).prefix e f))
few_kept (suc m) (v ∷ vs) ts f (p, q, e, s, r) =
    let n = few_kept m vs q (few_more m p q v s (subst (upto_language (suc m) (gl ended)).prefix e f)) r in omega (arith, n)

-- behind as many as there may be none is begun
full_ends : (m : ℕ) (vs : List (Built Statement)) (p q : List Lexeme) → Concatenates (gl ended).spells p vs → m ≤ length vs → (upto_language m (gl ended)).prefix (p ++ q) → q ≡ []
full_ends zero vs p q s n (inl e) = nil_right p q (sym e)
full_ends zero vs p q s n (inr (x, y, ws, e, c, f, l)) = absurd (omega (arith, l))
full_ends (suc m) [] p q s n f = absurd (omega (arith, n))
full_ends (suc m) (v ∷ vs) p q (x, y, e, s, r) n f =
    full_ends m vs y q r (omega (arith, n)) (few_more m x (y ++ q) v s (subst (upto_language (suc m) (gl ended)).prefix (ap (λ z. z ++ q) e ∙ append_assoc x y q) f))

-- ---- the statement in which a token stands

-- behind these whole statements it goes on with one that is begun so
record Inside (x : List Lexeme) (t : Lexeme) : Type 0 where
  done : List Lexeme
  begun : List Lexeme
  before : List (Built Statement)
  whole : x ≡ done ++ begun
  spelled : Concatenates (gl ended).spells done before
  goes_on : (gl ended).prefix (begun ++ t ∷ [])

inside : (vs : List (Built Statement)) (x p q : List Lexeme) (t : Lexeme) → x ++ t ∷ [] ≡ p ++ q → Concatenates (gl ended).spells p vs → (gl ended).prefix q → Inside x t
inside [] x p q t e s f = record { done = []; begun = x; before = []; whole = refl; spelled = refl; goes_on = subst (gl ended).prefix (sym (e ∙ ap (λ z. z ++ q) s)) f }
inside (v ∷ vs) x p q t e (a, b, i, s, r) f = go (cut x (t ∷ []) a (b ++ q) (e ∙ (ap (λ z. z ++ q) i ∙ append_assoc a b q))) (λ y w. inside vs y b q t w r f)
  where
    behind : (y : List Lexeme) → x ≡ a ++ y → Inside y t → Inside x t
    behind y w l = record {
      done = a ++ l.done;
      begun = l.begun;
      before = v ∷ l.before;
      whole = w ∙ (ap (λ z. a ++ z) l.whole ∙ sym (append_assoc a l.done l.begun));
      spelled = (a, l.done, refl, s, l.spelled);
      goes_on = l.goes_on;
    }

    go : Cut x (t ∷ []) a (b ++ q) → ((y : List Lexeme) → y ++ t ∷ [] ≡ b ++ q → Inside y t) → Inside x t
    go (longer c k u w) rest =
        let n : c ≡ t = cc in
        let begun = subst (gl ended).prefix (u ∙ (ap (λ z. x ++ z ∷ k) n ∙ sym (append_assoc x (t ∷ []) k))) (ended_known.prefixes.spelled a v s) in
        record { done = []; begun = x; before = []; whole = refl; spelled = refl; goes_on = ended_known.prefixes.shorter (x ++ t ∷ []) k begun }
    go (same u w) rest = behind [] (sym (append-nil a ∙ u)) (rest [] (sym w))
    go (shorter c k u w) rest = behind (c ∷ k) u (rest (c ∷ k) (sym w))

statement_of : (x : List Lexeme) (t : Lexeme) → (star_language (gl ended)).prefix (x ++ t ∷ []) → Inside x t
statement_of x t (inl e) = absurd (not_nil x [] t e)
statement_of x t (inr (p, q, vs, e, s, f)) = inside vs x p q t e s f

-- ---- two limits

narrow_kept : Keeps narrow_ended
narrow_kept =
    ended_kept (gl (g.statement_with (few_columns most_further_columns))) (statement_below most_further_columns).holds (form_has_prefixes None (g.statement_with (few_columns most_further_columns)))

narrow_prefixes : HasPrefixes narrow_ended
narrow_prefixes = form_has_prefixes None (g.ended_with (few_columns most_further_columns))

few_prefixes_of : {A : Type 0} (f : The A) → HasPrefixes (few_grammar f)
few_prefixes_of f = form_prefixes kind_of (language kind_of (few_rules most_further)) (name_prefixes kind_of (few_rules most_further)) f None

few_entries_kept : Keeps few_ended
few_entries_kept = ended_kept (few_grammar g.statement) (few_form_included g.statement) (few_prefixes_of g.statement)

-- Where texts go on, and were begun within both limits, they go on within one of them.
abbrev pub KeepsOne : {A : Type 0} → Language Lexeme A → Language Lexeme A → Language Lexeme A → Type 0
KeepsOne U L M = (x : List Lexeme) (t : Lexeme) → U.prefix (x ++ t ∷ []) → L.prefix x → M.prefix x → L.prefix (x ++ t ∷ []) ⊎ M.prefix (x ++ t ∷ [])

pub columns_or_entries : KeepsOne statements (narrow_statements most_further_columns) (few_entry_statements most_further)
columns_or_entries x t f n e = let i = statement_of x t f in elim (ended_begun (i.begun ++ t ∷ []) i.goes_on) [
  | inl h ↦ inl (goes_behind narrow_ended (ended_below most_further_columns).holds narrow_prefixes narrow_kept x i.done i.begun t i.before i.whole i.spelled n h)
  | inr h ↦ inr (goes_behind few_ended (few_form_included ended) (few_prefixes_of ended) few_entries_kept x i.done i.begun t i.before i.whole i.spelled e h)
]

-- B is what keeps to another limit, and each statement begins within it
module _ (B : Ended) (i : Includes (gl ended) B) (b : HasPrefixes B) (kept : Keeps B) (begins : (t : Lexeme) → (gl ended).prefix (t ∷ []) → B.prefix (t ∷ [])) where
  relations_or : (x : List Lexeme) (t : Lexeme) → (star_language (gl ended)).prefix (x ++ t ∷ []) → (upto_language most_relations (gl ended)).prefix x → (star_language B).prefix x
      → (upto_language most_relations (gl ended)).prefix (x ++ t ∷ []) ⊎ (star_language B).prefix (x ++ t ∷ [])
  relations_or x t f n m = let o = statement_of x t f in elim (cases_Bool (nat_lt (length o.before) most_relations)) [
    | inl is ↦
        inl (inr (o.done, o.begun ++ t ∷ [], o.before, ap (λ z. z ++ t ∷ []) o.whole ∙ append_assoc o.done o.begun (t ∷ []), o.spelled, o.goes_on, ltb-true (length o.before) most_relations is))
    | inr isnt ↦
        let none : o.begun ≡ [] = full_ends most_relations o.before o.done o.begun o.spelled (ltb-false (length o.before) most_relations isnt) (subst (upto_language most_relations (gl ended)).prefix o.whole n) in
        let one : B.prefix (t ∷ []) = begins t (subst (λ z. (gl ended).prefix (z ++ t ∷ [])) none o.goes_on) in
        inr (goes_behind B i b kept x o.done o.begun t o.before o.whole o.spelled m (subst (λ z. B.prefix (z ++ t ∷ [])) (sym none) one))
  ]

pub relations_or_columns : KeepsOne statements (few_statements most_relations) (narrow_statements most_further_columns)
relations_or_columns = relations_or narrow_ended (ended_below most_further_columns).holds narrow_prefixes narrow_kept (λ t f. inl (inl (inr (t, refl, begins_created t f))))

pub relations_or_entries : KeepsOne statements (few_statements most_relations) (few_entry_statements most_further)
relations_or_entries = relations_or few_ended (few_form_included ended) (few_prefixes_of ended) few_entries_kept (λ t f. inl (inl (inr (t, refl, begins_created t f))))

-- ---- whole statements

pub narrow_whole : (ts : List Lexeme) (read : Built (List Statement)) → (narrow_statements most_further_columns).prefix ts → statements.spells ts read → (narrow_statements most_further_columns).spells ts read
narrow_whole ts read f (vs, s, e) = (vs, each_kept narrow_ended (ended_below most_further_columns).holds narrow_prefixes narrow_kept vs ts f s, e)

pub few_whole : (ts : List Lexeme) (read : Built (List Statement)) → (few_statements most_relations).prefix ts → statements.spells ts read → (few_statements most_relations).spells ts read
few_whole ts read f (vs, s, e) = (vs, (s, few_kept most_relations vs ts f s), e)

-- ---- one token

-- it is not one too many for both
pub not_both : {A : Type 0} (U L M : Language Lexeme A) → KeepsOne U L M → (x : List Lexeme) (t : Lexeme) → IsFirstBeyond U L x t → IsFirstBeyond U M x t → ⊥
not_both U L M keeps x t l m = elim (keeps x t l.goes_on l.within m.within) [ inl f ↦ l.beyond f | inr f ↦ m.beyond f ]
