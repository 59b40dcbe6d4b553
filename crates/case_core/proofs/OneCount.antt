-- Of the counts of a case no two pass their limits.
use Rattle.std.proofs.Common.{◌≡◌, ℕ, List, [], ◌∷◌, ◌++◌, ◌⊎◌, inl, inr, None, refl, sym, ◌∙◌, ap, subst, append_assoc}
use Rattle.std.proofs.lemmas.List.{append-nil}
use Rattle.grammar.specs.Language.{HasPrefixes, Includes, Language, map_language, seq_language}
use Rattle.grammar.specs.Lookahead.{lookahead}
use Rattle.grammar.specs.Limits.{IsFirstBeyond, KeepsWithin}
use Rattle.grammar.proofs.languages.Limits.{kept}
use Rattle.grammar.proofs.languages.Cut.{Cut, longer, same, shorter, cut, nil_right}
use Rattle.grammar.proofs.languages.Forms.{includes_itself}
use Rattle.grammar.proofs.languages.Prefixes.{map_prefixes, seq_prefixes}
use Rattle.grammar.proofs.languages.Known.{Known}
use Rattle.grammar.proofs.languages.Sets.{apart}
use Rattle.sql_lex.specs.Lexemes.{Lexeme}
use Rattle.sql_model.specs.declared.statement.Statement.{Statement}
use Rattle.sql_model.specs.declared.tree.Query.{Query}
use Rattle.sql_cursor.specs.declared.fault.LimitKind.{LimitKind}
use Rattle.sql_cursor.specs.declared.fault.LimitKind.TheVariants as limit
use Rattle.sql_read.specs.ReadingTexts.{IsSooner, Passes, TextLimit, count_limit, depth_limit, keeping}
use Rattle.sql_grammar.specs.Kinds.{every_kind, kind_of}
use Rattle.sql_grammar.specs.Numbering.{Built}
use Rattle.sql_grammar.specs.QueryEntries.{most_further}
use Rattle.sql_grammar.specs.QueryLookahead.{table}
use Rattle.sql_grammar.proofs.lists.EveryKind.{every_kind_is_there}
use Rattle.schema_read.specs.StatementGrammar as of_statements
use Rattle.schema_read.specs.StatementLimits.{few_columns, few_entry_statements, few_statements, most_further_columns, most_relations, narrow_statements}
use Rattle.schema_read.specs.Statements.{OfStatements, statements}
use Rattle.schema_read.proofs.counts.CountsApart.{KeepsOne, columns_or_entries, few_whole, narrow_whole, not_both, relations_or_columns, relations_or_entries}
use Rattle.schema_read.proofs.spelled.StatementPrefixes.{few_entries_included, few_entry_prefixes, few_form_included, few_statement_prefixes, few_statements_included, narrow_included}
use Rattle.sql_grammar.proofs.queries.QueryForms.{form_has_prefixes}
use Rattle.schema_read.proofs.spelled.StatementKnown.{known}
use Rattle.schema_read.proofs.spelled.Unlimited.{gl}
use Rattle.schema_read.proofs.agree.WholeStatements.{few_grammar}
use Rattle.case_core.specs.declared.text.CaseText.{CaseText}
use Rattle.case_core.specs.CaseGrammar as g
use Rattle.case_core.specs.Cases.{cases, texts, within}
use Rattle.case_core.proofs.CaseCopies.{closed}
use Rattle.case_core.proofs.LimitsOnce.{Order, before, behind, one, order}

abbrev Queries : Type 1
Queries = Language Lexeme (Built Query × Built Query)

statements_known : Known kind_of statements (lookahead table of_statements.statements)
statements_known = known of_statements.statements refl None

queries_known : Known kind_of (gl g.two_queries) (lookahead table g.two_queries)
queries_known = known g.two_queries refl None

-- behind whole statements no token both goes on with them and begins a query
at_odds : (p q rest : List Lexeme) (t : Lexeme) (read : Built (List Statement)) → statements.spells p read → statements.prefix (p ++ t ∷ q) → (gl g.two_queries).prefix (t ∷ rest) → ⊥
at_odds p q rest t read s f h =
    apart every_kind every_kind_is_there (lookahead table of_statements.statements).last (lookahead table g.two_queries).first refl (kind_of t)
    (statements_known.ahead.last p read t q s f) (queries_known.ahead.first t rest h)

abbrev with_queries : OfStatements → Queries → Language Lexeme (Built CaseText)
with_queries L Q = map_language g.case_of (seq_language L Q)

-- what is begun in statements of a case is begun within its limit on statements
begun_first : (L : OfStatements) (Q : Queries) → Includes statements L → HasPrefixes L → Includes (gl g.two_queries) Q → (x more : List Lexeme) → statements.prefix (x ++ more) → (with_queries L Q).prefix x → L.prefix x
begun_first L Q i l j x more f (inl h) = h
begun_first L Q i l j x more f (inr (p, [], read, e, s, h)) = subst L.prefix (sym (e ∙ append-nil p)) (l.spelled p read s)
begun_first L Q i l j x more f (inr (p, t ∷ q, read, e, s, h)) =
    absurd (at_odds p (q ++ more) q t read (i.spells p read s) (subst statements.prefix (ap (λ z. z ++ more) e ∙ append_assoc p (t ∷ q) more) f) (j.prefix (t ∷ q) h))

-- L and M keep to two limits of statements, Q keeps to the second of queries
module _ (L M : OfStatements) (Q : Queries) (i : Includes statements L) (j : Includes statements M) (q : Includes (gl g.two_queries) Q) (l : HasPrefixes L) (m : HasPrefixes M)
    (keeps : KeepsOne statements L M) (whole : (ts : List Lexeme) (read : Built (List Statement)) → L.prefix ts → statements.spells ts read → L.spells ts read) where
  abbrev Either : List Lexeme → Type 0
  Either ts = (with_queries L (gl g.two_queries)).prefix ts ⊎ (with_queries M Q).prefix ts

  in_statements : (x : List Lexeme) (t : Lexeme) → statements.prefix (x ++ t ∷ []) → (with_queries L (gl g.two_queries)).prefix x → (with_queries M Q).prefix x → Either (x ++ t ∷ [])
  in_statements x t f a b = elim (keeps x t f (begun_first L (gl g.two_queries) i l (includes_itself (gl g.two_queries)) x (t ∷ []) f a) (begun_first M Q j m q x (t ∷ []) f b)) [
    | inl h ↦ inl (inl h)
    | inr h ↦ inr (inl h)
  ]

  first_prefixes : HasPrefixes (with_queries L (gl g.two_queries))
  first_prefixes = map_prefixes g.case_of (seq_language L (gl g.two_queries)) (seq_prefixes L (gl g.two_queries) l queries_known.prefixes)

  -- behind whole statements
  in_queries : (x p more : List Lexeme) (read : Built (List Statement)) → x ≡ p ++ more → statements.spells p read → (with_queries L (gl g.two_queries)).prefix x → L.spells p read
  in_queries x p more read e s a =
      whole p read
      (begun_first L (gl g.two_queries) i l (includes_itself (gl g.two_queries)) p [] (subst statements.prefix (sym (append-nil p)) (statements_known.prefixes.spelled p read s))
      (first_prefixes.shorter p more (subst (with_queries L (gl g.two_queries)).prefix e a))) s

  pub either : (x : List Lexeme) (t : Lexeme) → cases.prefix (x ++ t ∷ []) → (with_queries L (gl g.two_queries)).prefix x → (with_queries M Q).prefix x → Either (x ++ t ∷ [])
  either x t (inl f) a b = in_statements x t f a b
  either x t (inr (p, r, read, e, s, f)) a b = go (cut x (t ∷ []) p r e)
    where
      go : Cut x (t ∷ []) p r → Either (x ++ t ∷ [])
      go (longer c k u v) =
          let n : k ++ r ≡ [] = cc in
          let none : r ≡ [] = nil_right k r (sym n) in
          in_statements x t (subst statements.prefix (sym (e ∙ (ap (λ z. p ++ z) none ∙ append-nil p))) (statements_known.prefixes.spelled p read s)) a b
      go (same u v) = inl (inr (p, r, read, e, in_queries x p [] read (sym u ∙ sym (append-nil p)) s a, f))
      go (shorter c k u v) = inl (inr (p, r, read, e, in_queries x p (c ∷ k) read u s a, f))

narrow_prefixes : HasPrefixes (narrow_statements most_further_columns)
narrow_prefixes = form_has_prefixes None (of_statements.statements_with (few_columns most_further_columns))

columns_entries : KeepsOne cases (within limit.Columns) (within limit.Entries)
columns_entries =
    either (narrow_statements most_further_columns) (few_entry_statements most_further) (few_grammar g.two_queries) (narrow_included most_further_columns) few_entries_included (few_form_included g.two_queries)
    narrow_prefixes (few_entry_prefixes most_further) columns_or_entries narrow_whole

relations_columns : KeepsOne cases (within limit.Relations) (within limit.Columns)
relations_columns =
    either (few_statements most_relations) (narrow_statements most_further_columns) (gl g.two_queries) (few_statements_included most_relations) (narrow_included most_further_columns)
    (includes_itself (gl g.two_queries)) (few_statement_prefixes most_relations) narrow_prefixes relations_or_columns few_whole

relations_entries : KeepsOne cases (within limit.Relations) (within limit.Entries)
relations_entries =
    either (few_statements most_relations) (few_entry_statements most_further) (few_grammar g.two_queries) (few_statements_included most_relations) few_entries_included
    (few_form_included g.two_queries) (few_statement_prefixes most_relations) (few_entry_prefixes most_further) relations_or_entries few_whole

-- ---- one token

module _ (copied : ℕ) (x : List Lexeme) (t : Lexeme) where
  -- the limits that are told sooner are kept with it
  abbrev IsTold : TextLimit → Type 0
  IsTold which = (sooner : TextLimit) → IsSooner sooner which → (keeping texts copied sooner).prefix (x ++ t ∷ [])

  abbrev IsBeyond : TextLimit → Type 0
  IsBeyond which = IsFirstBeyond cases (keeping texts copied which) x t

  one_count : (what other : LimitKind) → IsBeyond (count_limit what) → IsBeyond (count_limit other) → IsTold (count_limit what) → IsTold (count_limit other) → what ≡ other
  one_count limit.Columns limit.Columns a b s r = refl
  one_count limit.Columns limit.Entries a b s r = absurd (not_both cases (within limit.Columns) (within limit.Entries) columns_entries x t a b)
  one_count limit.Columns limit.Relations a b s r = absurd (not_both cases (within limit.Relations) (within limit.Columns) relations_columns x t b a)
  one_count limit.Entries limit.Columns a b s r = absurd (not_both cases (within limit.Columns) (within limit.Entries) columns_entries x t b a)
  one_count limit.Entries limit.Entries a b s r = refl
  one_count limit.Entries limit.Relations a b s r = absurd (not_both cases (within limit.Relations) (within limit.Entries) relations_entries x t b a)
  one_count limit.Relations limit.Columns a b s r = absurd (not_both cases (within limit.Relations) (within limit.Columns) relations_columns x t a b)
  one_count limit.Relations limit.Entries a b s r = absurd (not_both cases (within limit.Relations) (within limit.Entries) relations_entries x t a b)
  one_count limit.Relations limit.Relations a b s r = refl
  one_count limit.Copies limit.Copies a b s r = refl
  one_count limit.Copies other a b s r = absurd (b.beyond (s (count_limit other) tt))
  one_count what limit.Copies a b s r = absurd (a.beyond (r (count_limit what) tt))

  one_at : (which other : TextLimit) → IsBeyond which → IsBeyond other → IsTold which → IsTold other → which ≡ other
  one_at depth_limit depth_limit a b s r = refl
  one_at depth_limit (count_limit what) a b s r = absurd (a.beyond (r depth_limit tt))
  one_at (count_limit what) depth_limit a b s r = absurd (b.beyond (s depth_limit tt))
  one_at (count_limit what) (count_limit other) a b s r = ap (λ z. count_limit z) (one_count what other a b s r)

-- ---- one text

-- Before the token that passes one limit none passes another.
pub one_limit : (copied : ℕ) (tokens : List Lexeme) (which other : TextLimit) → Passes texts copied tokens which → Passes texts copied tokens other → which ≡ other
one_limit copied tokens which other a b = go (order tokens a.taken b.taken a.rest b.rest a.token b.token a.parts b.parts)
  where
    not_before : (limit : TextLimit) (x : List Lexeme) → (keeping texts copied limit).prefix x → KeepsWithin cases (keeping texts copied limit) x
    not_before limit = kept cases (keeping texts copied limit) (closed copied limit)

    go : Order a.taken b.taken a.token b.token → which ≡ other
    go (before k e) = absurd (not_before which b.taken (b.kept which) a.taken k a.token e a.beyond)
    go (one e f) =
        one_at copied b.taken b.token which other (subst (λ z. IsFirstBeyond cases (keeping texts copied which) z b.token) e (subst (λ z. IsFirstBeyond cases (keeping texts copied which) a.taken z) f a.beyond)) b.beyond
        (λ sooner i. subst (λ z. (keeping texts copied sooner).prefix (z ++ b.token ∷ [])) e (subst (λ z. (keeping texts copied sooner).prefix (a.taken ++ z ∷ [])) f (a.sooner sooner i))) b.sooner
    go (behind k e) = absurd (not_before other a.taken (a.kept other) b.taken k b.token e b.beyond)
