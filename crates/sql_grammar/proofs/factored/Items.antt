-- What the left-factored grammar reads as an item stands so in the grammar.
use Rattle.std.proofs.Common.{◌≡◌, Bool, true, List, [], ◌++◌, length, ◌⊎◌, inl, inr, sym, ◌∙◌, ap, subst}
use Rattle.std.proofs.lemmas.List.{append-nil}
use Rattle.grammar.specs.Form.{Room, token, seq, alt, map, counted, ref}
use Rattle.grammar.specs.Productions.{optional}
use Rattle.grammar.proofs.languages.Heights.{of_form}
use Rattle.sql_lex.specs.Lexemes.{Lexeme}
use Rattle.sql_model.specs.declared.tree.Expr.{Expr}
use Rattle.sql_model.specs.declared.tree.Item.{Item}
use Rattle.sql_grammar.specs.Kinds as k
use Rattle.sql_grammar.specs.Kinds.{Kind, kind_of, same, among}
use Rattle.sql_grammar.specs.Numbering.{Built}
use Rattle.sql_grammar.specs.QueryTrees as t
use Rattle.sql_grammar.specs.QueryTrees.{Left}
use Rattle.sql_grammar.specs.QueryGrammar as grammar
use Rattle.sql_grammar.specs.QueryGrammar.{The, name, called_word, name_kinds, alias, minus, parens, rules_with, item, expr, primary}
use Rattle.sql_grammar.specs.QueryTails.{tail_rules}
use Rattle.sql_grammar.specs.Queries.{rules}
use Rattle.sql_grammar.specs.FactoredQueries.{factored, literal, dot_name, arguments, one_argument, other_aggregate, count_arguments, column_of, named_first, enclosed_first, going_on, going_on_by_and, star_or_left, Starred}
use Rattle.grammar.proofs.factorings.Alike.{at_first, at_second, below_alt, below_map, below_seq, either, itself, of_alike, through}
use Rattle.sql_grammar.proofs.queries.QueryWords.{Below, left_of, name_and_star, right_of, star_or_first, star_parts, starred_parts, with_dot}
use Rattle.sql_grammar.proofs.queries.QueryItems.{starred_words, plain_word, by_name, with_alias}
use Rattle.sql_grammar.proofs.factored.Insides.{G, gl, closes, tailed, joined_at, first_and_prefix}
use Rattle.sql_grammar.proofs.factored.Words.{token_below, quoted_name, called_name, count_name, other_name, named_first_left_factored}
use Rattle.sql_grammar.proofs.factored.Parens.{literal_left_factored, enclosed_first_left_factored, first_prefix}
use Rattle.sql_grammar.proofs.factored.OfInsides.{by_first, minus_unary, primary_unary}
use Rattle.sql_grammar.proofs.queries.Variants.{Variant}

module _ (variant : Variant) where
  -- ---- names that are followed by a point and a star, and others

  -- any of these names, and all first parts that begin so
  abbrev star_or_named : The Starred
  star_or_named = star_or_first name named_first

  of_kinds : {f : The (Built Expr)} (p : Kind → Bool) → ((kind : Kind) → p kind ≡ true → among name_kinds kind ≡ true) → Below (G variant) f named_first → Below (G variant) (star_or_first (token p) f) star_or_named
  of_kinds p m l = below_alt (below_map left_of (below_map (λ z. z.0) (below_seq (token_below variant p (among name_kinds) m) (itself (seq (grammar.a k.Dot) (grammar.a k.Star)))))) (below_map right_of l)

  starred_left_factored : Below (G variant) (starred_words variant) star_or_named
  starred_left_factored =
      either (through (of_alike (star_parts (grammar.a k.Quoted))) (of_kinds (same k.Quoted) (quoted_name variant) (at_first _ (itself (with_dot dot_name column_of (grammar.a k.Quoted))))))
      (either (through (of_alike (starred_parts called_word arguments))
      (of_kinds (among k.called_kinds) (called_name variant) (at_second _ (at_first _ (itself (plain_word variant called_word arguments))))))
      (either (through (of_alike (starred_parts (grammar.a k.Count) count_arguments))
      (of_kinds (same k.Count) (count_name variant) (at_second _ (at_second _ (at_first _ (itself (plain_word variant (grammar.a k.Count) count_arguments)))))))
      (through (of_alike (starred_parts other_aggregate (parens one_argument)))
      (of_kinds (among k.other_aggregates) (other_name variant) (at_second _ (at_second _ (at_second _ (itself (plain_word variant other_aggregate (parens one_argument))))))))))

  -- ---- items

  abbrev star_items : The (Built Item)
  star_items = map t.alias_star_item (name_and_star name)

  abbrev expr_items : The (Built Item)
  expr_items = with_alias variant (ref expr)

  star_of : (room : Room) (ts : List Lexeme) (q : Lexeme) → (gl variant room star_or_named).spells ts (left_of q) → (gl variant room (name_and_star name)).spells ts q
  star_of room ts q (inl (u, s, i)) = let e : q ≡ u = cc in subst ((gl variant room (name_and_star name)).spells ts) (sym e) s
  star_of room ts q (inr (u, s, i)) = cc

  first_of : (room : Room) (ts : List Lexeme) (x : Built Expr) → (gl variant room star_or_named).spells ts (right_of x) → (G variant room primary).spells ts x
  first_of room ts x (inl (u, s, i)) = cc
  first_of room ts x (inr (u, s, i)) =
      let e : x ≡ u = cc in (closes variant room primary).spells ts x (((named_first_left_factored variant).holds room).spells ts x (subst ((gl variant room named_first).spells ts) (sym e) s))

  abbrev star_or_value : The (Lexeme ⊎ Left)
  star_or_value = map star_or_left (counted (starred_words variant))

  -- a star behind a name, and a first part with the number of its tokens
  star_in : (room : Room) (ts : List Lexeme) (q : Lexeme) → (gl variant room star_or_value).spells ts (inl q) → (gl variant room (name_and_star name)).spells ts q
  star_in room ts q ((inl u, n), (s, c), j) = let e : q ≡ u = cc in subst ((gl variant room (name_and_star name)).spells ts) (sym e) (star_of room ts u ((starred_left_factored.holds room).spells ts (inl u) s))
  star_in room ts q ((inr x, n), (s, c), j) = cc

  first_in : (room : Room) (ts : List Lexeme) (left : Left) → (gl variant room star_or_value).spells ts (inr left) → (G variant room primary).spells ts left.0 × (left.1 ≡ length ts)
  first_in room ts left ((inl u, n), (s, c), j) = cc
  first_in room ts left ((inr x, n), (s, c), j) =
      let e : left ≡ (x, n) = cc in
      (subst ((G variant room primary).spells ts) (sym (ap (λ z. z.0) e)) (first_of room ts x ((starred_left_factored.holds room).spells ts (inr x) s)), ap (λ z. z.1) e ∙ c)

  nothing_after : (ts x y : List Lexeme) → ts ≡ x ++ y → y ≡ [] → x ≡ ts
  nothing_after ts x y e n = sym (e ∙ (ap (λ z. x ++ z) n ∙ append-nil x))

  by_name_left_factored : Below (G variant) (by_name variant) (alt star_items expr_items)
  by_name_left_factored = record { holds = λ room. record { spells = spells room; prefix = prefix room } }
    where
      spells : (room : Room) (ts : List Lexeme) (v : Built Item) → (gl variant room (by_name variant)).spells ts v → (gl variant room (alt star_items expr_items)).spells ts v
      spells room ts v (x, y, inl q, e, s, (g, (u, n, i), j)) =
          inl (q, subst (λ z. (gl variant room (name_and_star name)).spells z q) (nothing_after ts x y e n) (star_in room x q s), j ∙ ap (λ h. h q) i)
      spells room ts v (x, y, inr left, e, s, (g, (u, (a, b, e1, r, o), i), j)) =
          let w = first_in room x left s in
          inr ((u.0 left, u.1), (x ++ a, b, joined_at ts x y a b e e1, tailed variant room x a left.0 left.1 u.0 w.1 w.0 r, o), j ∙ ap (λ h. h left) i)

      prefix : (room : Room) (ts : List Lexeme) → (gl variant room (by_name variant)).prefix ts → (gl variant room (alt star_items expr_items)).prefix ts
      prefix room ts (inl s) = go ((starred_left_factored.holds room).prefix ts s)
        where
          go : (gl variant room star_or_named).prefix ts → (gl variant room (alt star_items expr_items)).prefix ts
          go (inl q) = inl q
          go (inr x) = inr (inl (first_prefix variant room ts ((closes variant room primary).prefix ts (((named_first_left_factored variant).holds room).prefix ts x))))
      prefix room ts (inr (x, y, inl q, e, s, n)) =
          inl (subst (gl variant room (name_and_star name)).prefix (nothing_after ts x y e n) ((of_form kind_of (rules_with tail_rules variant.froms) (name_and_star name) room).spelled x q (star_in room x q s)))
      prefix room ts (inr (x, y, inr left, e, s, inl r)) =
          inr (inl (subst (G variant room expr).prefix (sym e) (first_and_prefix variant room x y left.0 (first_in room x left s).0 r)))
      prefix room ts (inr (x, y, inr left, e, s, inr (a, b, f, e1, r, o))) =
          let w = first_in room x left s in
          inr (inr (x ++ a, b, f left, joined_at ts x y a b e e1, tailed variant room x a left.0 left.1 f w.1 w.0 r, o))

  others_left_factored : Below (G variant) (with_alias variant (alt (going_on (alt minus (alt literal enclosed_first))) going_on_by_and)) expr_items
  others_left_factored =
      below_map (λ p. t.value_item p.0 p.1)
      (below_seq (by_first variant (either (minus_unary variant) (either (through (literal_left_factored variant) (primary_unary variant)) (through (enclosed_first_left_factored variant) (primary_unary variant))))) (itself (optional alias)))

  pub item_left_factored : Below (G variant) (factored item) (rules item)
  item_left_factored =
      either (at_first (alt star_items expr_items) (itself (map t.star_item (grammar.a k.Star))))
      (either (at_second (map t.star_item (grammar.a k.Star)) by_name_left_factored) (at_second (map t.star_item (grammar.a k.Star)) (at_second star_items others_left_factored)))
