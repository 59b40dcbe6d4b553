-- What begins statements within a limit begins statements.
use Rattle.std.proofs.Common.{◌≡◌, ℕ, zero, suc, List, [], ◌∷◌, ◌++◌, inl, inr, refl, sym, ◌∙◌, ap, subst, append_assoc, Some, None, arith}
use Rattle.std.proofs.lemmas.List.{append-nil}
use Rattle.grammar.specs.Language.{Includes, HasPrefixes, upto_language, star_language}
use Rattle.grammar.specs.Form.{Room, IsRoomier, alt, form_language, language, seq}
use Rattle.grammar.specs.Productions.{skip_then}
use Rattle.grammar.proofs.languages.Prefixes.{map_prefixes, upto_prefixes}
use Rattle.grammar.proofs.languages.Forms.{includes_through, includes_itself, form_grows, form_prefixes, map_in, star_includes_upto}
use Rattle.grammar.proofs.languages.Heights.{name_prefixes, name_grows}
use Rattle.sql_lex.specs.Lexemes.{Lexeme}
use Rattle.sql_grammar.specs.declared.kinds.Kind.TheVariants as k
use Rattle.sql_grammar.specs.Kinds.{kind_of}
use Rattle.sql_grammar.specs.Numbering.{each}
use Rattle.sql_grammar.specs.Queries.{of_production, rules}
use Rattle.sql_grammar.specs.QueryEntries.{few_rules, most_further}
use Rattle.sql_grammar.specs.QueryGrammar.{Production, The, a, name, most_separators}
use Rattle.sql_grammar.proofs.entries.EntryLists.{few_included}
use Rattle.sql_grammar.proofs.queries.QueryForms.{form_has_prefixes}
use Rattle.schema_read.specs.StatementTrees as t
use Rattle.schema_read.specs.StatementTrees.{Elements}
use Rattle.schema_read.specs.StatementGrammar as g
use Rattle.schema_read.specs.StatementLimits.{constraints, few_columns, few_statements, few_entry_statements, narrow_statements}
use Rattle.schema_read.specs.Statements.{statements}
use Rattle.schema_read.proofs.spelled.Unlimited.{Below, gl, itself, below_map, below_star, below_alt, below_seq, below_skip_then, below_then_skip, below_parens, in_first, in_second}

-- ---- prefixes

pub few_statement_prefixes : (most : ℕ) → HasPrefixes (few_statements most)
few_statement_prefixes most =
    let L = gl (g.ended_with g.elements) in map_prefixes (λ read. each read) (upto_language most L) (upto_prefixes L (form_has_prefixes None (g.ended_with g.elements)) most)

pub few_entry_prefixes : (most : ℕ) → HasPrefixes (few_entry_statements most)
few_entry_prefixes most = form_prefixes kind_of (language kind_of (few_rules most)) (name_prefixes kind_of (few_rules most)) g.statements None

-- ---- the limits keep to the grammar

pub few_statements_included : (most : ℕ) → Includes statements (few_statements most)
few_statements_included most =
    let L = gl (g.ended_with g.elements) in map_in (upto_language most L) (star_language L) (star_includes_upto L L (includes_itself L) most) (λ read. each read)

-- what has few entries is in the grammar
pub few_form_included : {A : Type 0} (f : The A) → Includes (gl f) (form_language kind_of (language kind_of (few_rules most_further)) None f)
few_form_included f = form_grows kind_of (language kind_of (few_rules most_further)) of_production (name_prefixes kind_of rules) names f None None tt
  where
    names : (small large : Room) → IsRoomier small large → (p : Production) → Includes (of_production large p) (language kind_of (few_rules most_further) small p)
    names small large w p =
        includes_through (language kind_of (few_rules most_further) small p) (language kind_of (few_rules most_further) large p) (of_production large p)
        (name_grows kind_of (few_rules most_further) small large w p) (few_included most_further (omega arith) large p)

pub few_entries_included : Includes statements (few_entry_statements most_further)
few_entries_included = few_form_included g.statements

-- ---- few columns

constraints_below : Below constraints g.elements
constraints_below = below_star None (Some most_separators) (below_skip_then (a k.Comma) (in_second g.column g.constraint))

next_column_below : Below (skip_then (a k.Comma) g.column) (skip_then (a k.Comma) g.element)
next_column_below = below_skip_then (a k.Comma) (in_first g.column g.constraint)

-- elements before others
more_spell : (ts x y : List Lexeme) (es others : List Elements) → ts ≡ x ++ y → (gl g.elements).spells x es → (gl g.elements).spells y others → (gl g.elements).spells ts (es ++ others)
more_spell ts x y [] others i s r = subst (λ z. (gl g.elements).spells z others) (sym (i ∙ ap (λ z. z ++ y) s)) r
more_spell ts x y (e ∷ es) others i (x1, y1, i1, s, q) r =
    (x1, y1 ++ y, i ∙ (ap (λ z. z ++ y) i1 ∙ append_assoc x1 y1 y), s, more_spell (y1 ++ y) y1 y es others refl q r)

more_begin : (ts x y : List Lexeme) (es : List Elements) → ts ≡ x ++ y → (gl g.elements).spells x es → (gl g.elements).prefix y → (gl g.elements).prefix ts
more_begin ts x y es i s (inl e) = (form_has_prefixes None g.elements).spelled ts (es ++ []) (more_spell ts x y es [] i s e)
more_begin ts x y es i s (inr (x1, y1, others, i1, r, f)) =
    inr (x ++ x1, y1, es ++ others, i ∙ (ap (λ z. x ++ z) i1 ∙ sym (append_assoc x x1 y1)), more_spell (x ++ x1) x x1 es others refl s r, f)

one_begins : (ts : List Lexeme) → (gl (skip_then (a k.Comma) g.element)).prefix ts → (gl g.elements).prefix ts
one_begins ts f = inr ([], ts, [], refl, refl, f)

columns_spell : (m : ℕ) (ts : List Lexeme) (es : List Elements) → (gl (few_columns m)).spells ts es → (gl g.elements).spells ts es
columns_spell zero ts es s = constraints_below.holds.spells ts es s
columns_spell (suc m) ts es (p, (x, y, i, s, inl (u, e, j)), l) =
    subst ((gl g.elements).spells ts) (ap (λ z. p.0 ++ z) (sym j) ∙ sym l) (more_spell ts x y p.0 [] i (constraints_below.holds.spells x p.0 s) e)
columns_spell (suc m) ts es (p, (x, y, i, s, inr (u, (x1, y1, i1, c, f), j)), l) =
    subst ((gl g.elements).spells ts) (ap (λ z. p.0 ++ z) (sym j) ∙ sym l)
    (more_spell ts x y p.0 (u.0 ∷ u.1) i (constraints_below.holds.spells x p.0 s) (x1, y1, i1, next_column_below.holds.spells x1 u.0 c, columns_spell m y1 u.1 f))

columns_begin : (m : ℕ) (ts : List Lexeme) → (gl (few_columns m)).prefix ts → (gl g.elements).prefix ts
columns_begin zero ts f = constraints_below.holds.prefix ts f
columns_begin (suc m) ts (inl f) = constraints_below.holds.prefix ts f
columns_begin (suc m) ts (inr (x, y, es, i, s, inl e)) = more_begin ts x y es i (constraints_below.holds.spells x es s) (inl e)
columns_begin (suc m) ts (inr (x, y, es, i, s, inr (inl f))) =
    more_begin ts x y es i (constraints_below.holds.spells x es s) (one_begins y (next_column_below.holds.prefix y f))
columns_begin (suc m) ts (inr (x, y, es, i, s, inr (inr (x1, y1, e, i1, c, f)))) =
    more_begin ts x y es i (constraints_below.holds.spells x es s)
    (more_begin y x1 y1 (e ∷ []) i1 (x1, [], sym (append-nil x1), next_column_below.holds.spells x1 e c, refl) (columns_begin m y1 f))

pub columns_below : (m : ℕ) → Below (few_columns m) g.elements
columns_below m = record { holds = record { spells = columns_spell m; prefix = columns_begin m } }

pub listed_below : (m : ℕ) → Below (seq g.column (few_columns m)) (seq g.column g.elements)
listed_below m = below_seq (itself g.column) (columns_below m)

pub table_below : (m : ℕ) → Below (g.table_with (few_columns m)) (g.table_with g.elements)
table_below m = below_map (λ p. t.table p.0 p.1.0 p.1.1) (below_skip_then (a k.Table) (below_seq (itself name) (below_parens (listed_below m))))

pub statement_below : (m : ℕ) → Below (g.statement_with (few_columns m)) g.statement
statement_below m = below_skip_then (a k.Create) (below_alt (table_below m) (itself (alt g.view g.index)))

pub ended_below : (m : ℕ) → Below (g.ended_with (few_columns m)) (g.ended_with g.elements)
ended_below m = below_then_skip (a k.Semicolon) (statement_below m)

pub narrow_below : (m : ℕ) → Below (g.statements_with (few_columns m)) g.statements
narrow_below m = below_map (λ read. each read) (below_star None None (ended_below m))

pub narrow_included : (m : ℕ) → Includes statements (narrow_statements m)
narrow_included m = (narrow_below m).holds
