-- The items of a query by the grammar, the left-factored grammar reads.
use Rattle.std.proofs.Common.{List, [], ◌++◌, length, inl, inr, refl, sym, ◌∙◌, ap, append_assoc}
use Rattle.std.proofs.lemmas.List.{append-nil}
use Rattle.grammar.specs.Form.{Room, empty, seq, alt, map, counted, fork, ref}
use Rattle.grammar.specs.Productions.{optional}
use Rattle.grammar.proofs.factorings.Alike.{alt_seq, at_first, at_second, below_alt, below_map, below_seq, either, first_part, itself, map_alt, of_alike, second_part, through}
use Rattle.sql_lex.specs.Lexemes.{Lexeme}
use Rattle.sql_model.specs.declared.tree.Expr.{Expr}
use Rattle.sql_model.specs.declared.tree.Item.{Item}
use Rattle.sql_grammar.specs.Kinds as k
use Rattle.sql_grammar.specs.Numbering.{Built}
use Rattle.sql_grammar.specs.QueryTrees as t
use Rattle.sql_grammar.specs.QueryTrees.{Left}
use Rattle.sql_grammar.specs.QueryGrammar.{The, a, name, called_word, alias, minus, parens, item, expr}
use Rattle.sql_grammar.specs.QueryTails.{expr_tail}
use Rattle.sql_grammar.specs.Queries.{rules}
use Rattle.sql_grammar.specs.FactoredQueries.{factored, literal, dot_name, dot_star_or_name, arguments, one_argument, other_aggregate, count_arguments, word_with, words, column_of, named_first, enclosed_first, going_on, going_on_by_and, star_or_column, star_or_left, Starred}
use Rattle.sql_grammar.proofs.queries.QueryInside.{P, fl}
use Rattle.sql_grammar.proofs.queries.QueryInsides.{expr_parts, kept}
use Rattle.sql_grammar.proofs.queries.QuerySplits.{going_on_alt}
use Rattle.sql_grammar.proofs.queries.QueryWords.{Below, any_named, go_on_below, left_of, name_and_star, right_of, star_parts, starred_parts, with_dot}
use Rattle.sql_grammar.proofs.queries.Variants.{Variant}

module _ (variant : Variant) where
  -- ---- names that may be followed by a point and a star

  abbrev pub starred_words : The Starred
  starred_words = words dot_star_or_name star_or_column (λ x. inr x)

  abbrev pub plain_word : The Lexeme → The (Lexeme → Built Expr) → The (Built Expr)
  plain_word word args = word_with word args dot_name column_of (λ x. x)

  pub named_starred : Below (P variant) (map right_of named_first) starred_words
  named_starred =
      through (of_alike (map_alt right_of (with_dot dot_name column_of (a k.Quoted)) (alt (plain_word called_word arguments) (alt (plain_word (a k.Count) count_arguments) (plain_word other_aggregate (parens one_argument))))))
      (below_alt (second_part (star_parts (a k.Quoted)))
      (through (of_alike (map_alt right_of (plain_word called_word arguments) (alt (plain_word (a k.Count) count_arguments) (plain_word other_aggregate (parens one_argument)))))
      (below_alt (second_part (starred_parts called_word arguments))
      (through (of_alike (map_alt right_of (plain_word (a k.Count) count_arguments) (plain_word other_aggregate (parens one_argument))))
      (below_alt (second_part (starred_parts (a k.Count) count_arguments)) (second_part (starred_parts other_aggregate (parens one_argument))))))))

  -- ---- an item that begins with a name

  abbrev after_star : The (Lexeme → Built Item)
  after_star = map (λ nothing qual. t.alias_star_item qual) empty

  abbrev after_left : The (Left → Built Item)
  after_left = map (λ p left. t.value_item (p.0 left) p.1) (seq (ref expr_tail) (optional alias))

  abbrev pub by_name : The (Built Item)
  by_name = fork (map star_or_left (counted starred_words)) after_star after_left

  abbrev others : The (Built Item)
  others = map (λ p. t.value_item p.0 p.1) (seq (alt (going_on (alt minus (alt literal enclosed_first))) going_on_by_and) (optional alias))

  star_first : Below (P variant) (map left_of (name_and_star name)) starred_words
  star_first = through (first_part (star_parts name)) (any_named variant dot_star_or_name star_or_column right_of)

  -- name . *
  star_left_factored : Below (P variant) (map t.alias_star_item (name_and_star name)) by_name
  star_left_factored = record {
    holds = λ room. record {
      spells = λ ts v (w, s, i). (
        ts,
        [],
        inl w,
        sym (append-nil ts),
        ((inl w, length ts), ((star_first.holds room).spells ts (inl w) (w, s, refl), refl), refl),
        ((λ qual. t.alias_star_item qual), (tt, refl, refl), i),
      );
      prefix = λ ts s. inl ((star_first.holds room).prefix ts s);
    };
  }

  abbrev pub with_alias : The (Built Expr) → The (Built Item)
  with_alias f = map (λ p. t.value_item p.0 p.1) (seq f (optional alias))

  -- an expression that begins with a name
  named_left_factored : Below (P variant) (with_alias (going_on named_first)) by_name
  named_left_factored = record { holds = λ room. record { spells = spells room; prefix = prefix room } }
    where
      first_left : (room : Room) (x : List Lexeme) (left : Left) → (fl variant room (counted named_first)).spells x left → (fl variant room (map star_or_left (counted starred_words))).spells x (inr left)
      first_left room x left (s, n) = ((inr left.0, left.1), ((named_starred.holds room).spells x (inr left.0) (left.0, s, refl), n), refl)

      spells : (room : Room) (ts : List Lexeme) (v : Built Item) → (fl variant room (with_alias (going_on named_first))).spells ts v → (fl variant room by_name).spells ts v
      spells room ts v (p, (x, y, e, (u, (x1, y1, e1, s, r), j), o), i) = (
        x1,
        y1 ++ y,
        inr u.0,
        e ∙ (ap (λ z. z ++ y) e1 ∙ append_assoc x1 y1 y),
        first_left room x1 u.0 s,
        ((λ left. t.value_item (u.1 left) p.1), ((u.1, p.1), (y1, y, refl, r, o), refl), i ∙ ap (λ z. t.value_item z p.1) j),
      )

      prefix : (room : Room) (ts : List Lexeme) → (fl variant room (seq (going_on named_first) (optional alias))).prefix ts → (fl variant room by_name).prefix ts
      prefix room ts (inl (inl s)) = inl ((named_starred.holds room).prefix ts s)
      prefix room ts (inl (inr (x, y, left, e, s, r))) = inr (x, y, inr left, e, first_left room x left s, inl r)
      prefix room ts (inr (x, y, v, e, (u, (x1, y1, e1, s, r), j), o)) =
          inr (x1, y1 ++ y, inr u.0, e ∙ (ap (λ z. z ++ y) e1 ∙ append_assoc x1 y1 y), first_left room x1 u.0 s, inr (y1, y, u.1, refl, r, o))

  -- ---- all items

  go_on_either : (f g : The (Built Expr)) → Below (P variant) (going_on (alt f g)) (alt (going_on f) (going_on g))
  go_on_either f g = of_alike (going_on_alt variant.froms (P variant) (kept variant) f g)

  with_alias_either : (f g : The (Built Expr)) → Below (P variant) (with_alias (alt f g)) (alt (with_alias f) (with_alias g))
  with_alias_either f g =
      through (below_map (λ p. t.value_item p.0 p.1) (of_alike (alt_seq f g (optional alias))))
      (of_alike (map_alt (λ p. t.value_item p.0 p.1) (seq f (optional alias)) (seq g (optional alias))))

  with_alias_below : {f g : The (Built Expr)} → Below (P variant) f g → Below (P variant) (with_alias f) (with_alias g)
  with_alias_below l = below_map (λ p. t.value_item p.0 p.1) (below_seq l (itself (optional alias)))

  abbrev other_firsts : The (Built Expr)
  other_firsts = alt minus (alt literal enclosed_first)

  abbrev by_others : The (Built Expr)
  by_others = alt (going_on other_firsts) going_on_by_and

  -- an expression begins with a name, or otherwise
  expr_by_first : Below (P variant) (ref expr) (alt (going_on named_first) by_others)
  expr_by_first =
      through (of_alike (expr_parts variant))
      (either (at_second (going_on named_first) (at_second (going_on other_firsts) (itself going_on_by_and)))
      (either
      (through (go_on_either minus (alt literal named_first))
      (either (at_second (going_on named_first) (at_first going_on_by_and (go_on_below (at_first (alt literal enclosed_first) (itself minus)))))
      (through (go_on_either literal named_first)
      (either (at_second (going_on named_first) (at_first going_on_by_and (go_on_below (at_second minus (at_first enclosed_first (itself literal))))))
      (at_first by_others (itself (going_on named_first)))))))
      (at_second (going_on named_first) (at_first going_on_by_and (go_on_below (at_second minus (at_second literal (itself enclosed_first))))))))

  value_left_factored : Below (P variant) (with_alias (ref expr)) (alt by_name others)
  value_left_factored =
      through (with_alias_below expr_by_first)
      (through (with_alias_either (going_on named_first) by_others)
      (below_alt named_left_factored (itself others)))

  pub item_below : Below (P variant) (rules item) (factored item)
  item_below =
      either (at_first (alt by_name others) (itself (map t.star_item (a k.Star))))
      (either (at_second (map t.star_item (a k.Star)) (at_first others star_left_factored))
      (at_second (map t.star_item (a k.Star)) value_left_factored))
