-- What the left-factored grammar reads as a test stands so in the grammar.
use Rattle.std.proofs.Common.{◌≡◌, true, List, [], ◌∷◌, inl, inr, refl, Some}
use Rattle.grammar.specs.Form.{Room, seq, alt, map, only, ref}
use Rattle.grammar.specs.Productions.{skip_then}
use Rattle.grammar.proofs.factorings.Alike.{Alike, alike_map, alike_second, applied, at_first, at_second, below_alt, below_map, below_seq, chain, either, itself, map_alt, map_map, of_alike, seq_alt, through, to_alike}
use Rattle.sql_lex.specs.Lexemes.{Lexeme}
use Rattle.sql_model.specs.declared.tree.Expr.{Expr}
use Rattle.sql_model.specs.declared.tree.Query.{Query}
use Rattle.sql_grammar.specs.Kinds as k
use Rattle.sql_grammar.specs.Kinds.{kind_of}
use Rattle.sql_grammar.specs.Numbering.{Built}
use Rattle.sql_grammar.specs.QueryTrees as t
use Rattle.sql_grammar.specs.QueryTailTrees as tails
use Rattle.sql_grammar.specs.QueryTrees.{not_sub}
use Rattle.sql_grammar.specs.QueryTailTrees.{Inside}
use Rattle.sql_grammar.specs.QueryGrammar.{The, a, in_parentheses, parens, listed, comparison, in_query, in_list, between, like, query, expr, value, rest, most_separators}
use Rattle.sql_grammar.specs.QueryTails.{commas, next_comma, insides, in_inner}
use Rattle.sql_grammar.specs.Queries.{rules}
use Rattle.sql_grammar.specs.FactoredQueries.{factored, by_word}
use Rattle.sql_grammar.proofs.queries.QueryWords.{Below, Test, alone, given, given_parts, negated, parens_alt, parens_below, parens_map}
use Rattle.sql_grammar.proofs.factored.Insides.{G, gl, opens, star_empty}
use Rattle.sql_grammar.proofs.factored.Parens.{query_of, wrapped_of, expr_of, prefix_of, wrapped_query, subquery_first, first_alone}
use Rattle.sql_grammar.proofs.queries.Variants.{Variant}

module _ (variant : Variant) where
  -- ---- IN ( .. )

  abbrev members : The (Built Expr × List (Built Expr))
  members = only t.is_no_query (listed (ref expr))

  abbrev inside_test : Inside (List (Built Expr)) → Lexeme → Test
  inside_test i in_word word left = tails.in_inside word in_word i left

  abbrev query_test : Built Query → Lexeme → Test
  query_test q in_word word left = t.in_query word in_word q left

  abbrev list_test : Built Expr × List (Built Expr) → Lexeme → Test
  list_test p in_word word left = t.in_list word p left

  -- a query or a list
  abbrev query_or_list : The (Lexeme → Test)
  query_or_list = alt (map query_test (ref query)) (map list_test members)

  no_query : (v : Built Expr) (ms : List (Built Expr)) → not_sub v ≡ true → t.is_no_query (v, ms) ≡ true
  no_query v [] n = n
  no_query v (m ∷ ms) n = refl

  inner_below : Below (G variant) (map inside_test (ref in_inner)) query_or_list
  inner_below = record { holds = λ room. record { spells = λ ts v s. spells room ts v s.0 ((opens variant room in_inner).spells ts s.0 s.1) s.2; prefix = prefix room } }
    where
      wrapped : (room : Room) (ts : List Lexeme) (v : Lexeme → Test) (p : Lexeme × Built Query) (ms : List (Built Expr)) → (gl variant room (seq (in_parentheses (ref query)) commas)).spells ts (p, ms) → v ≡ inside_test (inr (inl (p, ms)))
          → (gl variant room query_or_list).spells ts v
      wrapped room ts v p [] (x, y, e, r, c) j = inl (p.1, wrapped_query variant room ts x y p e r (star_empty variant room (Some most_separators) next_comma y c), j)
      wrapped room ts v p (m ∷ ms) (x, y, e, r, c) j = inr ((t.sub p, m ∷ ms), ((x, y, e, first_alone variant room x (t.sub p) (subquery_first variant room x p r), c), refl), j)

      plainly : (room : Room) (ts : List Lexeme) (v : Lexeme → Test) (w : Built Expr × List (Built Expr)) → (gl variant room (seq (only not_sub (ref expr)) commas)).spells ts w → v ≡ inside_test (inr (inr w)) → (gl variant room query_or_list).spells ts v
      plainly room ts v w (x, y, e, (r, n), c) j = inr (w, ((x, y, e, r, c), no_query w.0 w.1 n), j)

      spells : (room : Room) (ts : List Lexeme) (v : Lexeme → Test) (i : Inside (List (Built Expr))) → (gl variant room (insides commas)).spells ts i → v ≡ inside_test i → (gl variant room query_or_list).spells ts v
      spells room ts v (inl q) s j = inl (q, query_of variant commas room ts q s, j)
      spells room ts v (inr (inl (p, ms))) s j = wrapped room ts v p ms (wrapped_of variant commas room ts (p, ms) s) j
      spells room ts v (inr (inr w)) s j = plainly room ts v w (expr_of variant commas room ts w s) j

      prefix : (room : Room) (ts : List Lexeme) → (G variant room in_inner).prefix ts → (gl variant room query_or_list).prefix ts
      prefix room ts s = prefix_of variant commas room ts ((opens variant room in_inner).prefix ts s)

  abbrev in_left_factored : The Test
  in_left_factored = map (λ p word left. tails.in_inside word p.0 p.1 left) (seq (a k.In) (parens (ref in_inner)))

  abbrev in_a_query : The Test
  in_a_query = map (λ p word left. t.in_query word p.0 p.1 left) (seq (a k.In) (parens (ref query)))

  abbrev in_a_list : The Test
  in_a_list = map (λ p word left. t.in_list word p left) (skip_then (a k.In) (parens members))

  abbrev applied_to : Lexeme × (Lexeme → Test) → Test
  applied_to p = p.1 p.0

  -- what follows IN
  after_in : {A : Type 0} (h : A → Lexeme → Test) (f : The A) → Alike kind_of (G variant) (map applied_to (seq (a k.In) (parens (map h f)))) (map (λ p. h p.1 p.0) (seq (a k.In) (parens f)))
  after_in h f =
      chain (alike_map applied_to (alike_second (a k.In) (parens_map h f))) (applied h (a k.In) (parens f))

  in_below : Below (G variant) in_left_factored (alt in_a_query in_a_list)
  in_below =
      through (to_alike (after_in inside_test (ref in_inner)))
      (through (below_map applied_to (below_seq (itself (a k.In)) (parens_below inner_below)))
      (through (below_map applied_to (below_seq (itself (a k.In)) (of_alike (parens_alt (map query_test (ref query)) (map list_test members)))))
      (through (below_map applied_to (of_alike (seq_alt (parens (map query_test (ref query))) (parens (map list_test members)) (a k.In))))
      (through (of_alike (map_alt applied_to (seq (a k.In) (parens (map query_test (ref query)))) (seq (a k.In) (parens (map list_test members)))))
      (below_alt (of_alike (after_in query_test (ref query)))
      (through (of_alike (after_in list_test members))
      (to_alike (map_map (λ p word left. t.in_list word p left) (λ p. p.1) (seq (a k.In) (parens members))))))))))

  -- ---- behind a NOT or none

  -- what the grammar reads, with a NOT and without
  record ReadsTest (f : The Test) : Type 0 where
    behind_not : Below (G variant) (map negated (seq (a k.Not) f)) (rules rest)
    by_itself : Below (G variant) (map alone f) (rules rest)

  either_test : {f g : The Test} → ReadsTest f → ReadsTest g → ReadsTest (alt f g)
  either_test {f = f} {g = g} l m = record {
    behind_not = through (below_map negated (of_alike (seq_alt f g (a k.Not)))) (through (of_alike (map_alt negated (seq (a k.Not) f) (seq (a k.Not) g))) (either l.behind_not m.behind_not));
    by_itself = through (of_alike (map_alt alone f g)) (either l.by_itself m.by_itself);
  }

  fewer_tests : {f g : The Test} → Below (G variant) f g → ReadsTest g → ReadsTest f
  fewer_tests l m = record {
    behind_not = through (below_map negated (below_seq (itself (a k.Not)) l)) m.behind_not;
    by_itself = through (below_map alone l) m.by_itself;
  }

  given_test : {A : Type 0} (h : A → Test) (f : The A) → Below (G variant) (given h f) (rules rest) → ReadsTest (map h f)
  given_test h f l = record {
    behind_not = through (at_first (map alone (map h f)) (itself (map negated (seq (a k.Not) (map h f))))) (through (to_alike (given_parts h f)) l);
    by_itself = through (at_second (map negated (seq (a k.Not) (map h f))) (itself (map alone (map h f)))) (through (to_alike (given_parts h f)) l);
  }

  tests_read : ReadsTest by_word
  tests_read =
      either_test
      (fewer_tests in_below
      (either_test
      (given_test (λ p word left. t.in_query word p.0 p.1 left) (seq (a k.In) (parens (ref query))) (at_second comparison (at_first _ (itself in_query))))
      (given_test (λ p word left. t.in_list word p left) (skip_then (a k.In) (parens members)) (at_second comparison (at_second in_query (at_first _ (itself in_list)))))))
      (either_test
      (given_test (λ p word left. t.between word p.0 p.1 left) (skip_then (a k.Between) (seq (ref value) (skip_then (a k.And) (ref value))))
      (at_second comparison (at_second in_query (at_second in_list (at_first _ (itself between))))))
      (given_test (λ x word left. t.like word x left) (skip_then (a k.Like) (ref value)) (at_second comparison (at_second in_query (at_second in_list (at_second between (itself like)))))))

  pub rest_left_factored : Below (G variant) (factored rest) (rules rest)
  rest_left_factored = either (at_first _ (itself comparison)) (either tests_read.behind_not tests_read.by_itself)
