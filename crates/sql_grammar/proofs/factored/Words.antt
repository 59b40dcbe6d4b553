-- What the left-factored grammar reads of a name, and what it reads behind a word, stands so in the grammar.
use Rattle.std.proofs.Common.{◌≡◌, Bool, true, not, ◌||◌, List, [], ◌∷◌, ◌++◌, inl, inr, refl, sym, ◌∙◌, ap, subst, append_assoc, Option, Some, None}
use Rattle.std.proofs.lemmas.List.{append-nil}
use Rattle.grammar.specs.Form.{Room, token, seq, map, ref}
use Rattle.grammar.proofs.languages.Sets.{implied, or_left, or_right}
use Rattle.grammar.proofs.factorings.Alike.{at_second, below_alt, below_map, below_seq, either, itself, of_alike, through}
use Rattle.sql_lex.specs.Lexemes.{Lexeme}
use Rattle.sql_model.specs.declared.tree.Expr.{Expr}
use Rattle.sql_grammar.specs.Kinds as k
use Rattle.sql_grammar.specs.Kinds.{Kind, kind_of, same, among}
use Rattle.sql_grammar.proofs.lists.EveryKind.{every_kind_is_there}
use Rattle.sql_grammar.specs.Numbering.{Built, plain}
use Rattle.sql_grammar.specs.QueryGrammar.{Production, The, a, name, parens, call, name_kinds, rules_with, reference, primary, agg}
use Rattle.sql_grammar.specs.QueryTails.{tail_rules}
use Rattle.sql_grammar.specs.Queries.{rules}
use Rattle.sql_grammar.specs.FactoredQueries.{factored, column_of, column_or, named_first, word_with, dot_name, arguments, one_argument, other_aggregate, count_arguments}
use Rattle.sql_grammar.proofs.queries.QueryWords.{Below, after_word, aggregate_of, applied_to, call_part, count_parts, distinct_argument, rows_counted, with_dot, word_parts}
use Rattle.sql_grammar.proofs.factored.Insides.{G, gl, closes}
use Rattle.sql_grammar.proofs.queries.Variants.{Variant}

module _ (variant : Variant) where
  -- ---- references

  -- a name and what follows it
  pub dotted_reference : (room : Room) (ts x y : List Lexeme) (w : Lexeme) (o : Option Lexeme) → ts ≡ x ++ y → (gl variant room name).spells x w → (gl variant room dot_name).spells y o → (gl variant room (rules reference)).spells ts (column_or w o)
  dotted_reference room ts x y w o e n (inl (c, (p, (x1, y1, e1, d, m), j), l)) =
      subst (λ z. (gl variant room (rules reference)).spells ts (column_or w z)) (sym (l ∙ ap (λ z. Some z) j))
      ((Some w, p.1), (x ++ x1, y1, e ∙ (ap (λ z. x ++ z) e1 ∙ sym (append_assoc x x1 y1)), inl (w, ((w, p.0), (x, x1, refl, n, d), refl), refl), m), refl)
  dotted_reference room ts x y w o e n (inr (c, d, l)) =
      subst (λ z. (gl variant room (rules reference)).spells ts (column_or w z)) (sym l)
      ((None, w), ([], ts, refl, inr (tt, refl, refl), subst (λ z. (gl variant room name).spells z w) (sym (e ∙ (ap (λ z. x ++ z) d ∙ append-nil x))) n), refl)

  pub dotted_prefix : (room : Room) (ts : List Lexeme) → (gl variant room (seq name dot_name)).prefix ts → (gl variant room (rules reference)).prefix ts
  dotted_prefix room ts (inl n) = inl (inl (inl n))
  dotted_prefix room ts (inr (x, y, w, e, n, inl (inl d))) = inl (inl (inr (x, y, w, e, n, d)))
  dotted_prefix room ts (inr (x, y, w, e, n, inl (inr (x1, y1, c, e1, d, m)))) =
      inr (x ++ x1, y1, Some w, e ∙ (ap (λ z. x ++ z) e1 ∙ sym (append_assoc x x1 y1)), inl (w, ((w, c), (x, x1, refl, n, d), refl), refl), m)
  dotted_prefix room ts (inr (x, y, w, e, (i, q), inr d)) = inl (inl (inl (inr (w, e ∙ (ap (λ z. x ++ z) d ∙ (append-nil x ∙ i)), q))))

  -- ---- first parts that begin with a name

  pub quoted_name : (kind : Kind) → same k.Quoted kind ≡ true → among name_kinds kind ≡ true
  quoted_name kind e = implied (same k.Quoted kind) (among name_kinds kind) (every_kind_is_there (λ x. not (same k.Quoted x) || among name_kinds x) refl kind) e

  pub called_name : (kind : Kind) → among k.called_kinds kind ≡ true → among name_kinds kind ≡ true
  called_name kind e = implied _ (among name_kinds kind) (every_kind_is_there (λ x. not (among k.called_kinds x) || among name_kinds x) refl kind) e

  pub count_name : (kind : Kind) → same k.Count kind ≡ true → among name_kinds kind ≡ true
  count_name kind e = implied (same k.Count kind) (among name_kinds kind) (every_kind_is_there (λ x. not (same k.Count x) || among name_kinds x) refl kind) e

  pub other_name : (kind : Kind) → among k.other_aggregates kind ≡ true → among name_kinds kind ≡ true
  other_name kind e = implied _ (among name_kinds kind) (every_kind_is_there (λ x. not (among k.other_aggregates x) || among name_kinds x) refl kind) e

  column_is : (w : Lexeme) (o : Option Lexeme) → column_of w o ≡ plain (column_or w o)
  column_is w None = refl
  column_is w (Some n) = refl

  -- more kinds
  pub token_below : (p q : Kind → Bool) → ((kind : Kind) → p kind ≡ true → q kind ≡ true) → Below (G variant) (token p) (token q)
  token_below p q m = record { holds = λ room. record { spells = λ ts v s. (s.0, m (kind_of v) s.1); prefix = prefix room } }
    where
      prefix : (room : Room) (ts : List Lexeme) → (gl variant room (token p)).prefix ts → (gl variant room (token q)).prefix ts
      prefix room ts (inl e) = inl e
      prefix room ts (inr (w, e, s)) = inr (w, e, m (kind_of w) s)

  name_first : Below (G variant) (with_dot dot_name column_of name) (rules primary)
  name_first = record {
    holds = λ room. record {
      spells = λ ts v (u, (x, y, e, n, d), i). inr (inr (inl (
        column_or u.0 u.1,
        (closes variant room reference).spells ts (column_or u.0 u.1) (dotted_reference room ts x y u.0 u.1 e n d),
        i ∙ column_is u.0 u.1,
      )));
      prefix = λ ts f. inr (inr (inl ((closes variant room reference).prefix ts (dotted_prefix room ts f))));
    };
  }

  -- a word of some kinds of names, with what may follow it
  module _ (p : Kind → Bool) (in_names : (kind : Kind) → p kind ≡ true → among name_kinds kind ≡ true) where
    dotted_first : Below (G variant) (with_dot dot_name column_of (token p)) (rules primary)
    dotted_first = through (below_map (λ u. column_of u.0 u.1) (below_seq (token_below p (among name_kinds) in_names) (itself dot_name))) name_first

    -- or with arguments
    word_first : (args : The (Lexeme → Built Expr)) → Below (G variant) (map applied_to (seq (token p) args)) (rules primary)
        → Below (G variant) (word_with (token p) args dot_name column_of (λ x. x)) (rules primary)
    word_first args m = through (of_alike (word_parts dot_name column_of (λ x. x) (token p) args)) (either dotted_first m)

  -- what a name's production is stands for the name
  pub closed : (p : Production) → Below (G variant) (rules_with tail_rules variant.froms p) (ref p)
  closed p = record { holds = λ room. closes variant room p }

  -- ---- aggregates and calls as first parts

  count_below : Below (G variant) (map applied_to (seq (a k.Count) count_arguments)) (rules agg)
  count_below =
      through (of_alike count_parts)
      (below_alt (itself rows_counted)
      (below_map aggregate_of (below_seq (token_below (same k.Count) (among (k.Count ∷ k.other_aggregates)) (λ kind e. or_left _ _ e)) (itself (parens distinct_argument)))))

  other_below : Below (G variant) (map applied_to (seq other_aggregate (parens one_argument))) (rules agg)
  other_below =
      through (of_alike (after_word other_aggregate))
      (at_second rows_counted
      (below_map aggregate_of (below_seq (token_below (among k.other_aggregates) (among (k.Count ∷ k.other_aggregates)) (λ kind e. or_right _ _ e)) (itself (parens distinct_argument)))))

  pub agg_left_factored : Below (G variant) (factored agg) (rules agg)
  agg_left_factored = either count_below other_below

  pub reference_left_factored : Below (G variant) (factored reference) (rules reference)
  reference_left_factored = record {
    holds = λ room. record {
      spells = λ ts v (u, (x, y, e, n, d), i). subst ((gl variant room (rules reference)).spells ts) (sym i) (dotted_reference room ts x y u.0 u.1 e n d);
      prefix = dotted_prefix room;
    };
  }

  agg_first : Below (G variant) (rules agg) (rules primary)
  agg_first = record { holds = λ room. record { spells = λ ts v s. inr (inr (inr (inl ((closes variant room agg).spells ts v s)))); prefix = λ ts f. inr (inr (inr (inl ((closes variant room agg).prefix ts f)))) } }

  call_first : Below (G variant) call (rules primary)
  call_first = record { holds = λ room. record { spells = λ ts v s. inr (inr (inr (inr (inl s)))); prefix = λ ts f. inr (inr (inr (inr (inl f)))) } }

  -- what begins with a name
  pub named_first_left_factored : Below (G variant) named_first (rules primary)
  named_first_left_factored =
      either (dotted_first (same k.Quoted) quoted_name)
      (either (word_first (among k.called_kinds) called_name arguments (through (of_alike call_part) call_first))
      (either (word_first (same k.Count) count_name count_arguments (through count_below agg_first))
      (word_first (among k.other_aggregates) other_name (parens one_argument) (through other_below agg_first))))
