-- What tests a value by the grammar, the left-factored grammar reads.
use Rattle.std.proofs.Common.{◌≡◌, true, List, [], ◌∷◌, ◌++◌, length, inl, inr, refl, sym, ◌∙◌, ap, subst, append_assoc, Option, Some}
use Rattle.grammar.proofs.factorings.Alike.{at_first, at_second, below_alt, below_map, below_seq, either, itself, of_alike, through}
use Rattle.grammar.specs.Form.{Room, seq, alt, map, only, ref}
use Rattle.grammar.specs.Productions.{skip_then}
use Rattle.sql_lex.specs.Lexemes.{Lexeme}
use Rattle.sql_model.specs.declared.tree.Expr.{Expr}
use Rattle.sql_model.specs.declared.tree.Query.{Query}
use Rattle.sql_grammar.specs.Kinds as k
use Rattle.sql_grammar.specs.Numbering.{Built}
use Rattle.sql_grammar.specs.QueryTrees as t
use Rattle.sql_grammar.specs.QueryTailTrees as tails
use Rattle.sql_grammar.specs.QueryTrees.{Left}
use Rattle.sql_grammar.specs.QueryTailTrees.{Enclosed, Inside}
use Rattle.sql_grammar.specs.QueryGrammar.{The, a, in_parentheses, parens, listed, comparison, query, operand, expr, value, rest, most_separators}
use Rattle.sql_grammar.specs.QueryTails.{commas, next_comma, insides, set_tail, expr_tail, inner, in_inner}
use Rattle.sql_grammar.specs.Queries.{rules}
use Rattle.sql_grammar.specs.FactoredQueries.{factored, factored_of_insides, going_on, going_on_by_and, enclosed_first, by_word}
use Rattle.sql_grammar.proofs.queries.QuerySplits as split
use Rattle.sql_grammar.proofs.queries.QueryInside.{P, fl, opens, closes, star_none, deeper_some, deeper_there, deeper_back, deeper_prefix, sorted, sets_identity, tail_identity}
use Rattle.sql_grammar.proofs.queries.QueryInsides.{kept, bare_first, expr_parts, counted_as, sorted_of, tail_of_expression, more_of_expression, expr_spells, expr_prefix, insides_included}
use Rattle.sql_grammar.proofs.queries.QueryWords.{Below, Test, alone, given, given_parts, negated}
use Rattle.sql_grammar.proofs.queries.Variants.{Variant}

module _ (variant : Variant) where
  abbrev left_factored_list : The (Inside (List (Built Expr)))
  left_factored_list = factored_of_insides commas

  abbrev no_commas : (room : Room) → (fl variant room commas).spells [] []
  no_commas room = star_none (P variant) room (Some most_separators) next_comma

  -- ---- a list

  -- what is read tests as the list does
  abbrev TestsAs : Inside (List (Built Expr)) → Built Expr × List (Built Expr) → Type 0
  TestsAs i members = (word : Option Lexeme) (in_word : Lexeme) (left : Left) → tails.in_inside word in_word i left ≡ t.in_list word members left

  record ReadAs (room : Room) (ts : List Lexeme) (members : Built Expr × List (Built Expr)) : Type 0 where
    inside : Inside (List (Built Expr))
    spelled : (fl variant room left_factored_list).spells ts inside
    same_test : TestsAs inside members

  module _ (room : Room) where
    read_plainly : (ts : List Lexeme) (v : Built Expr) (ms : List (Built Expr)) → (fl variant room left_factored_list).spells ts (inr (inr (v, ms))) → ReadAs room ts (v, ms)
    read_plainly ts v ms s = record { inside = inr (inr (v, ms)); spelled = s; same_test = λ word in_word left. refl }

    -- a first member that is or begins with ( query )
    query_member : (x y b : List Lexeme) (p : Enclosed) (f : Left → Built Expr) (m : Built Expr) (ms : List (Built Expr)) → (fl variant room sorted).spells x (inl (p, length x)) → (P variant room expr_tail).spells b f
        → (fl variant room commas).spells y (m ∷ ms) → ReadAs room (x ++ (b ++ y)) (f (t.sub p, length x), m ∷ ms)
    query_member x y [] p f m ms s r q = record {
      inside = inr (inl (p, m ∷ ms));
      spelled = inr (inr (x, y, inl (p, length x), refl, s, ((λ u. inr (inl (u.0, m ∷ ms))), inr (inr (m ∷ ms, q, refl)), refl)));
      same_test = λ word in_word left. ap (λ g. t.in_list word (g (t.sub p, length x), m ∷ ms) left) (sym (tail_identity variant room f r));
    }
    query_member x y (c ∷ b) p f m ms s r q =
        read_plainly _ _ _ (inr (inr (x, (c ∷ b) ++ y, inl (p, length x), refl, s, ((λ u. inr (inr (f (t.sub u.0, u.1), m ∷ ms))), inr (inl ((f, m ∷ ms), (c ∷ b, y, refl, (r, λ e. cc), q), refl)), refl))))

    enclosed_member : (x y b : List Lexeme) (w : Lexeme × Inside (Unit {0})) (f : Left → Built Expr) (m : Built Expr) (ms : List (Built Expr)) → (fl variant room (in_parentheses (ref inner))).spells x w → (P variant room expr_tail).spells b f
        → (fl variant room commas).spells y (m ∷ ms) → ReadAs room (x ++ (b ++ y)) (f (tails.enclosed w, length x), m ∷ ms)
    enclosed_member x y b (o, inl q) f m ms s r u = query_member x y b (o, q) f m ms (sorted_of variant commas room x (o, inl q) s) r u
    enclosed_member x y b (o, inr (inl p)) f m ms s r u = query_member x y b (o, p.0.1) f m ms (sorted_of variant commas room x (o, inr (inl p)) s) r u
    enclosed_member x y b (o, inr (inr p)) f m ms s r u =
        read_plainly _ _ _ (inr (inr (tail_of_expression variant commas room x b y (p.0, length x) f (m ∷ ms) (sorted_of variant commas room x (o, inr (inr p)) s) r u)))

    list_read : (x y : List Lexeme) (v : Built Expr) (ms : List (Built Expr)) → (P variant room expr).spells x v → (fl variant room commas).spells y ms → t.is_no_query (v, ms) ≡ true → ReadAs room (x ++ y) (v, ms)
    list_read x y v [] s r n = read_plainly (x ++ y) v [] (expr_spells variant commas room x y v [] s n r)
    list_read x y v (m ∷ ms) s r n = go (((expr_parts variant).there room).spells x v s)
      where
        go : (fl variant room (alt going_on_by_and (alt (going_on (bare_first variant)) (going_on enclosed_first)))).spells x v → ReadAs room (x ++ y) (v, m ∷ ms)
        go (inl b) = read_plainly (x ++ y) v (m ∷ ms) (inr (inl ((v, m ∷ ms), (x, y, refl, inr b, r), refl)))
        go (inr (inl b)) = read_plainly (x ++ y) v (m ∷ ms) (inr (inl ((v, m ∷ ms), (x, y, refl, inl b, r), refl)))
        go (inr (inr (u, (a, b, e, ((w, o, i), c), q), j))) =
            let value : v ≡ u.1 (tails.enclosed w, length a) = j ∙ ap u.1 (counted_as variant u.0 (tails.enclosed w) (length a) i c) in
            subst (λ z. ReadAs room (z ++ y) (v, m ∷ ms)) (sym e)
            (subst (λ z. ReadAs room z (v, m ∷ ms)) (sym (append_assoc a b y))
            (subst (λ z. ReadAs room (a ++ (b ++ y)) (z, m ∷ ms)) (sym value) (enclosed_member a y b w u.1 m ms o q r)))

    -- where the commas go on
    query_more : (x y b : List Lexeme) (p : Enclosed) (f : Left → Built Expr) → (fl variant room sorted).spells x (inl (p, length x)) → (P variant room expr_tail).spells b f → (fl variant room commas).prefix y
        → (fl variant room left_factored_list).prefix (x ++ (b ++ y))
    query_more x y [] p f s r q = inr (inr (inr (x, y, inl (p, length x), refl, s, inr (inr q))))
    query_more x y (c ∷ b) p f s r q = inr (inr (inr (x, (c ∷ b) ++ y, inl (p, length x), refl, s, inr (inl (inr (c ∷ b, y, f, refl, (r, λ e. cc), q))))))

    enclosed_commas : (x y b : List Lexeme) (w : Lexeme × Inside (Unit {0})) (f : Left → Built Expr) → (fl variant room (in_parentheses (ref inner))).spells x w → (P variant room expr_tail).spells b f → (fl variant room commas).prefix y
        → (fl variant room left_factored_list).prefix (x ++ (b ++ y))
    enclosed_commas x y b (o, inl q) f s r u = query_more x y b (o, q) f (sorted_of variant commas room x (o, inl q) s) r u
    enclosed_commas x y b (o, inr (inl p)) f s r u = query_more x y b (o, p.0.1) f (sorted_of variant commas room x (o, inr (inl p)) s) r u
    enclosed_commas x y b (o, inr (inr p)) f s r u = inr (inr (more_of_expression variant commas room x b y (p.0, length x) f (sorted_of variant commas room x (o, inr (inr p)) s) r u))

    list_prefix : (ts : List Lexeme) → (fl variant room (listed (ref expr))).prefix ts → (fl variant room left_factored_list).prefix ts
    list_prefix ts (inl s) = expr_prefix variant commas room ts s
    list_prefix ts (inr (x, y, v, e, s, r)) = subst (fl variant room left_factored_list).prefix (sym e) (go (((expr_parts variant).there room).spells x v s))
      where
        go : (fl variant room (alt going_on_by_and (alt (going_on (bare_first variant)) (going_on enclosed_first)))).spells x v → (fl variant room left_factored_list).prefix (x ++ y)
        go (inl b) = inr (inl (inr (x, y, v, refl, inr b, r)))
        go (inr (inl b)) = inr (inl (inr (x, y, v, refl, inl b, r)))
        go (inr (inr (u, (a, b, e, ((w, o, i), c), q), j))) =
            subst (λ z. (fl variant room left_factored_list).prefix (z ++ y)) (sym e) (subst (fl variant room left_factored_list).prefix (sym (append_assoc a b y)) (enclosed_commas a y b w u.1 o q r))

  -- ---- a query in the place of a list

  -- the left-factored grammar reads it as a query
  data QueryRead (room : Room) (ts : List Lexeme) (q : Built Query) : Type 0 where
    plainly : (fl variant room left_factored_list).spells ts (inl q) → QueryRead room ts q
    wrapped : (o : Lexeme) → (fl variant room left_factored_list).spells ts (inr (inl ((o, q), []))) → QueryRead room ts q

  module _ (room : Room) where
    included : (ts : List Lexeme) (v : Inside (List (Built Expr))) → (fl variant room (insides commas)).spells ts v → (fl variant room left_factored_list).spells ts v
    included = (insides_included variant commas room).spells

    with_sets : (ts x z : List Lexeme) (e : ts ≡ x ++ z) (q : Built Query) (p : Enclosed) (f : Built Query → Built Query) → (fl variant room (in_parentheses (ref query))).spells x p → (P variant room set_tail).spells z f → q ≡ f p.1 → QueryRead room ts q
    with_sets ts x [] e q p f s r i =
        subst (QueryRead room ts) (sym (i ∙ ap (λ g. g p.1) (sets_identity variant room f r)))
        (wrapped p.0 (included ts (inr (inl (p, []))) (inr (inl ((p, []), (x, [], e, s, no_commas room), refl)))))
    with_sets ts x (c ∷ z) e q p f s r i =
        plainly (included ts (inl q) (inl (q, inr ((p.1, f), (x, c ∷ z, e, (p, s, refl), (r, λ n. cc)), i), refl)))

    query_read : (ts : List Lexeme) (q : Built Query) → (P variant room query).spells ts q → QueryRead room ts q
    query_read ts q s = go (((split.query_split variant.froms (P variant) (kept variant)).there room).spells ts q s)
      where
        go : (fl variant room (map (λ p. p.1 p.0) (seq (ref operand) (ref set_tail)))).spells ts q → QueryRead room ts q
        go (u, (x, z, e, o, r), i) = by_operand ((opens variant room operand).spells x u.0 o)
          where
            by_operand : (fl variant room (factored operand)).spells x u.0 → QueryRead room ts q
            by_operand (inl b) = plainly (included ts (inl q) (inl (q, inl (u, (x, z, e, b, r), i), refl)))
            by_operand (inr (p, s, j)) = with_sets ts x z e q p u.1 s r (i ∙ ap u.1 j)

    query_read_prefix : (ts : List Lexeme) → (P variant room query).prefix ts → (fl variant room left_factored_list).prefix ts
    query_read_prefix ts s = (insides_included variant commas room).prefix ts (go (((split.query_split variant.froms (P variant) (kept variant)).there room).prefix ts s))
      where
        go : (fl variant room (map (λ p. p.1 p.0) (seq (ref operand) (ref set_tail)))).prefix ts → (fl variant room (insides commas)).prefix ts
        go (inl o) = by_operand ((opens variant room operand).prefix ts o)
          where
            by_operand : (fl variant room (factored operand)).prefix ts → (fl variant room (insides commas)).prefix ts
            by_operand (inl b) = inl (inl (inl b))
            by_operand (inr s) = inl (inr (inl s))
        go (inr (x, z, q, e, o, r)) = by_operand ((opens variant room operand).spells x q o)
          where
            by_operand : (fl variant room (factored operand)).spells x q → (fl variant room (insides commas)).prefix ts
            by_operand (inl b) = inl (inl (inr (x, z, q, e, b, r)))
            by_operand (inr s) = inl (inr (inr (x, z, q, e, s, r)))

  -- ---- IN ( .. )

  -- what IN ( .. ) tests, by the left-factored grammar
  abbrev in_left_factored : The (Option Lexeme → Left → Built Expr)
  in_left_factored = map (λ p word left. tails.in_inside word p.0 p.1 left) (seq (a k.In) (parens (ref in_inner)))

  abbrev in_a_query : The (Option Lexeme → Left → Built Expr)
  in_a_query = map (λ p word left. t.in_query word p.0 p.1 left) (seq (a k.In) (parens (ref query)))

  abbrev members : The (Built Expr × List (Built Expr))
  members = only t.is_no_query (listed (ref expr))

  abbrev in_a_list : The (Option Lexeme → Left → Built Expr)
  in_a_list = map (λ p word left. t.in_list word p left) (skip_then (a k.In) (parens members))

  -- what stands in the parentheses, with a test that it makes
  record Inner (room : Room) (z : List Lexeme) (test_ : Option Lexeme → Lexeme → Left → Built Expr) : Type 0 where
    inside : Inside (List (Built Expr))
    spelled : (P variant room in_inner).spells z inside
    same_test : (λ word in_word left. tails.in_inside word in_word inside left) ≡ test_

  query_inner : (room : Room) (z : List Lexeme) (q : Built Query) → (P variant room query).spells z q → Inner room z (λ word in_word left. t.in_query word in_word q left)
  query_inner room z q s = go (query_read room z q s)
    where
      go : QueryRead room z q → Inner room z (λ word in_word left. t.in_query word in_word q left)
      go (plainly r) = record { inside = inl q; spelled = (closes variant room in_inner).spells z (inl q) r; same_test = refl }
      go (wrapped o r) = record { inside = inr (inl ((o, q), [])); spelled = (closes variant room in_inner).spells z (inr (inl ((o, q), []))) r; same_test = refl }

  list_inner : (room : Room) (z : List Lexeme) (p : Built Expr × List (Built Expr)) → (fl variant room members).spells z p → Inner room z (λ word in_word left. t.in_list word p left)
  list_inner room z (v, ms) ((x, y, e, s, r), n) =
      let read = list_read room x y v ms s r n in
      record {
        inside = read.inside;
        spelled = (closes variant room in_inner).spells z read.inside (subst (λ u. (fl variant room left_factored_list).spells u read.inside) (sym e) read.spelled);
        same_test = λ i. λ word in_word left. read.same_test word in_word left i;
      }

  list_inner_prefix : (room : Room) (z : List Lexeme) → (fl variant room members).prefix z → (P variant room in_inner).prefix z
  list_inner_prefix room z f = (closes variant room in_inner).prefix z (list_prefix room z f)

  query_inner_prefix : (room : Room) (z : List Lexeme) → (P variant room query).prefix z → (P variant room in_inner).prefix z
  query_inner_prefix room z f = (closes variant room in_inner).prefix z (query_read_prefix room z f)

  -- such a test in parentheses
  record InParens (room : Room) (y : List Lexeme) (test_ : Option Lexeme → Lexeme → Left → Built Expr) : Type 0 where
    inside : Inside (List (Built Expr))
    spelled : (fl variant room (parens (ref in_inner))).spells y inside
    same_test : (λ word in_word left. tails.in_inside word in_word inside left) ≡ test_

  module _ {A : Type 0} (f : The A) (test_ : A → Option Lexeme → Lexeme → Left → Built Expr) (m : (r : Room) (z : List Lexeme) (v : A) → (fl variant r f).spells z v → Inner r z (test_ v)) where
    in_parens : (room : Room) (y : List Lexeme) (v : A) → (fl variant room (parens f)).spells y v → InParens room y (test_ v)
    in_parens room y v (p, s, i) =
        let r = deeper_some (λ r. fl variant r f) (λ r. P variant r in_inner) (λ u. (λ word in_word left. tails.in_inside word in_word u left) ≡ test_ p.1) room y p
        (λ r z j. let n = m r z p.1 j in (n.inside, n.same_test, n.spelled)) ((deeper_there (P variant) f room).spells y p s) in
        record { inside = r.0; spelled = ((p.0, r.0), (deeper_back (P variant) (ref in_inner) room).spells y (p.0, r.0) r.2, refl); same_test = r.1 ∙ sym (ap test_ i) }

    in_parens_prefix : ((r : Room) (z : List Lexeme) → (fl variant r f).prefix z → (P variant r in_inner).prefix z) → (room : Room) (y : List Lexeme) → (fl variant room (parens f)).prefix y → (fl variant room (parens (ref in_inner))).prefix y
    in_parens_prefix g room y s =
        (deeper_back (P variant) (ref in_inner) room).prefix y
        (deeper_prefix (λ r. fl variant r f) (λ r. P variant r in_inner) room g (λ r z v w. let i = m r z v w in (i.inside, i.spelled)) y ((deeper_there (P variant) f room).prefix y s))

  abbrev query_test : Built Query → Option Lexeme → Lexeme → Left → Built Expr
  query_test q word in_word left = t.in_query word in_word q left

  abbrev list_test : Built Expr × List (Built Expr) → Option Lexeme → Lexeme → Left → Built Expr
  list_test p word in_word left = t.in_list word p left

  in_query_left_factored : Below (P variant) in_a_query in_left_factored
  in_query_left_factored = record { holds = λ room. record { spells = spells room; prefix = prefix room } }
    where
      spells : (room : Room) (ts : List Lexeme) (v : Option Lexeme → Left → Built Expr) → (fl variant room in_a_query).spells ts v → (fl variant room in_left_factored).spells ts v
      spells room ts v (u, (x, y, e, o, s), i) =
          let r = in_parens (ref query) query_test query_inner room y u.1 s in
          ((u.0, r.inside), (x, y, e, o, r.spelled), i ∙ sym (ap (λ g word left. g word u.0 left) r.same_test))

      prefix : (room : Room) (ts : List Lexeme) → (fl variant room in_a_query).prefix ts → (fl variant room in_left_factored).prefix ts
      prefix room ts (inl o) = inl o
      prefix room ts (inr (x, y, w, e, o, s)) = inr (x, y, w, e, o, in_parens_prefix (ref query) query_test query_inner query_inner_prefix room y s)

  in_list_left_factored : Below (P variant) in_a_list in_left_factored
  in_list_left_factored = record { holds = λ room. record { spells = spells room; prefix = prefix room } }
    where
      spells : (room : Room) (ts : List Lexeme) (v : Option Lexeme → Left → Built Expr) → (fl variant room in_a_list).spells ts v → (fl variant room in_left_factored).spells ts v
      spells room ts v (p, (u, (x, y, e, o, s), j), i) =
          let r = in_parens members list_test list_inner room y u.1 s in
          ((u.0, r.inside), (x, y, e, o, r.spelled), i ∙ (ap (λ z word left. t.in_list word z left) j ∙ sym (ap (λ g word left. g word u.0 left) r.same_test)))

      prefix : (room : Room) (ts : List Lexeme) → (fl variant room in_a_list).prefix ts → (fl variant room in_left_factored).prefix ts
      prefix room ts (inl o) = inl o
      prefix room ts (inr (x, y, w, e, o, s)) = inr (x, y, w, e, o, in_parens_prefix members list_test list_inner list_inner_prefix room y s)

  -- ---- behind a NOT or none

  abbrev not_by_word : The (Left → Built Expr)
  not_by_word = map negated (seq (a k.Not) by_word)

  abbrev by_word_alone : The (Left → Built Expr)
  by_word_alone = map alone by_word

  perhaps_not : {A : Type 0} (h : A → Test) (f : The A) → Below (P variant) (map h f) by_word → Below (P variant) (given h f) (alt not_by_word by_word_alone)
  perhaps_not h f m = through (of_alike (given_parts h f)) (below_alt (below_map negated (below_seq (itself (a k.Not)) m)) (below_map alone m))

  abbrev between_words : The (Option Lexeme → Left → Built Expr)
  between_words = map (λ p word left. t.between word p.0 p.1 left) (skip_then (a k.Between) (seq (ref value) (skip_then (a k.And) (ref value))))

  abbrev like_words : The (Option Lexeme → Left → Built Expr)
  like_words = map (λ x word left. t.like word x left) (skip_then (a k.Like) (ref value))

  pub rest_below : Below (P variant) (rules rest) (factored rest)
  rest_below =
      either (at_first (alt not_by_word by_word_alone) (itself comparison))
      (either (at_second comparison (perhaps_not (λ p word left. t.in_query word p.0 p.1 left) (seq (a k.In) (parens (ref query))) (at_first (alt between_words like_words) in_query_left_factored)))
      (either (at_second comparison (perhaps_not (λ p word left. t.in_list word p left) (skip_then (a k.In) (parens members)) (at_first (alt between_words like_words) in_list_left_factored)))
      (either (at_second comparison (perhaps_not (λ p word left. t.between word p.0 p.1 left) (skip_then (a k.Between) (seq (ref value) (skip_then (a k.And) (ref value)))) (at_second in_left_factored (at_first like_words (itself between_words)))))
      (at_second comparison (perhaps_not (λ x word left. t.like word x left) (skip_then (a k.Like) (ref value)) (at_second in_left_factored (at_second between_words (itself like_words))))))))
