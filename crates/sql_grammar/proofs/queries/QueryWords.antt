-- What stands in parentheses and behind words in two ways, in any languages of the names; and that the left-factored grammar reads what begins with a name.
use Rattle.std.proofs.Common.{◌≡◌, Bool, true, false, not, ◌||◌, List, [], ◌∷◌, ◌⊎◌, inl, inr, refl, sym, ◌∙◌, ap, subst, ◌++◌, Option, Some, None}
use Rattle.grammar.specs.Form.{Room, token, seq, alt, map, ref}
use Rattle.grammar.specs.Productions.{optional, then_skip}
use Rattle.grammar.proofs.languages.Sets.{implied}
use Rattle.grammar.proofs.factorings.Alike as alike
use Rattle.grammar.proofs.factorings.Alike.{Alike, alike_alt, alike_itself, alike_map, alike_nest, alike_second, alt_alt, alt_seq, applied, at_first, at_second, below_alt, below_counted, below_map, below_nest, below_seq, both_below, chain, either, first_part, flip, itself, map_alt, map_map, nest_alt, nest_map, of_alike, second_part, seq_alt, seq_map, seq_with_map, through}
use Rattle.sql_lex.specs.Lexemes.{Lexeme}
use Rattle.sql_model.specs.declared.tree.Expr.{Expr}
use Rattle.sql_grammar.specs.Kinds as k
use Rattle.sql_grammar.specs.Kinds.{Kind, kind_of, same, among}
use Rattle.sql_grammar.specs.Numbering.{Built}
use Rattle.sql_grammar.specs.QueryTrees as t
use Rattle.sql_grammar.specs.QueryTrees.{Left}
use Rattle.sql_grammar.specs.QueryGrammar.{The, a, name, name_kinds, call, called_word, aggregate_word, expr, in_parentheses, listed, parens}
use Rattle.sql_grammar.specs.QueryTails.{expr_tail}
use Rattle.sql_grammar.proofs.lists.EveryKind.{every_kind_is_there}
use Rattle.sql_grammar.specs.FactoredQueries.{arguments, column_of, count_arguments, dot_name, dot_star_or_name, going_on, one_argument, other_aggregate, star_or_column, word_with, words, Starred}
use Rattle.sql_grammar.proofs.queries.QueryInside.{Names, P, el, fl}
use Rattle.sql_grammar.proofs.queries.Variants.{Variant}

-- what f spells and begins, g does
abbrev pub Below : Names → {A : Type 0} → The A → The A → Type 0
Below E f g = alike.Below kind_of E f g

-- ---- words that are called

abbrev pub applied_to : Lexeme × (Lexeme → Built Expr) → Built Expr
applied_to p = p.1 p.0

abbrev pub distinct_argument : The (Option Lexeme × Built Expr)
distinct_argument = seq (optional (a k.Distinct)) (ref expr)

abbrev pub aggregate_of : Lexeme × (Option Lexeme × Built Expr) → Built Expr
aggregate_of p = t.aggregated p.0 p.1.0 p.1.1

abbrev to_argument : Option Lexeme × Built Expr → Lexeme → Built Expr
to_argument p word = t.aggregated word p.0 p.1

abbrev row_count : Lexeme → Lexeme → Built Expr
row_count sign word = t.count_rows word

abbrev pub rows_counted : The (Built Expr)
rows_counted = map (λ p. t.count_rows p.0) (seq (a k.Count) (parens (a k.Star)))

-- a name with what may follow it, and a word with what calls it
abbrev pub with_dot : {D X : Type 0} → The D → (Lexeme → D → X) → The Lexeme → The X
with_dot dot named word = map (λ p. named p.0 p.1) (seq word dot)

abbrev pub with_call : {X : Type 0} → (Built Expr → X) → The Lexeme → The (Lexeme → Built Expr) → The X
with_call called word args = map (λ p. called (p.1 p.0)) (seq word args)

-- ---- names that a point and a star may follow

abbrev pub left_of : Lexeme → Starred
left_of w = inl w

abbrev pub right_of : Built Expr → Starred
right_of x = inr x

abbrev pub name_and_star : The Lexeme → The Lexeme
name_and_star word = then_skip word (seq (a k.Dot) (a k.Star))

-- a name and a star, or a first part
abbrev pub star_or_first : The Lexeme → The (Built Expr) → The Starred
star_or_first word first = alt (map left_of (name_and_star word)) (map right_of first)

-- ---- tests by a word

abbrev pub Test : Type 0
Test = Option Lexeme → Left → Built Expr

abbrev pub negated : Lexeme × Test → Left → Built Expr
negated p = p.1 (Some p.0)

abbrev pub alone : Test → Left → Built Expr
alone f = f None

-- behind a NOT or none
abbrev pub given : {A : Type 0} → (A → Test) → The A → The (Left → Built Expr)
given h f = map (λ p left. h p.1 p.0 left) (seq (optional (a k.Not)) f)

-- ---- whatever languages the names have

module _ {E : Names} where
  pub parens_below : {A : Type 0} {f g : The A} → Below E f g → Below E (parens f) (parens g)
  parens_below l = below_map (λ p. p.1) (below_nest (below_seq (itself (a k.Open)) (below_map (λ p. p.0) (below_seq l (itself (a k.Close))))))

  -- a first part and what follows it
  pub go_on_below : {f g : The (Built Expr)} → Below E f g → Below E (going_on f) (going_on g)
  go_on_below l = below_map (λ p. p.1 p.0) (below_seq (below_counted l) (itself (ref expr_tail)))

  -- another value for what stands in parentheses
  pub parens_map : {A B : Type 0} (h : A → B) (f : The A) → Alike kind_of E (parens (map h f)) (map h (parens f))
  parens_map {A = A} {B = B} h f =
      chain (alike_map second (alike_nest (alike_second (a k.Open) closed_map)))
      (chain (alike_map second (alike_nest (seq_with_map h (then_skip f (a k.Close)) (a k.Open))))
      (chain (alike_map second (nest_map with_h (seq (a k.Open) (then_skip f (a k.Close)))))
      (chain (map_map second with_h (in_parentheses f)) (flip (map_map h (λ p. p.1) (in_parentheses f))))))
    where
      second : Lexeme × B → B
      second p = p.1

      with_h : Lexeme × A → Lexeme × B
      with_h p = (p.0, h p.1)

      closed_map : Alike kind_of E (then_skip (map h f) (a k.Close)) (map h (then_skip f (a k.Close)))
      closed_map =
          chain (alike_map (λ p. p.0) (seq_map h f (a k.Close)))
          (chain (map_map (λ p. p.0) (λ p. (h p.0, p.1)) (seq f (a k.Close))) (flip (map_map h (λ p. p.0) (seq f (a k.Close)))))

  -- either of two in parentheses
  pub parens_alt : {A : Type 0} (f g : The A) → Alike kind_of E (parens (alt f g)) (alt (parens f) (parens g))
  parens_alt {A = A} f g =
      chain (alike_map second (alike_nest (alike_second (a k.Open) closed_alt)))
      (chain (alike_map second (alike_nest (seq_alt (then_skip f (a k.Close)) (then_skip g (a k.Close)) (a k.Open))))
      (chain (alike_map second (nest_alt (seq (a k.Open) (then_skip f (a k.Close))) (seq (a k.Open) (then_skip g (a k.Close)))))
      (map_alt second (in_parentheses f) (in_parentheses g))))
    where
      second : Lexeme × A → A
      second p = p.1

      closed_alt : Alike kind_of E (then_skip (alt f g) (a k.Close)) (alt (then_skip f (a k.Close)) (then_skip g (a k.Close)))
      closed_alt = chain (alike_map (λ p. p.0) (alt_seq f g (a k.Close))) (map_alt (λ p. p.0) (seq f (a k.Close)) (seq g (a k.Close)))

  -- one argument after a word
  pub after_word : (word : The Lexeme) → Alike kind_of E (map applied_to (seq word (parens one_argument))) (map aggregate_of (seq word (parens distinct_argument)))
  after_word word = chain (alike_map applied_to (alike_second word (parens_map to_argument distinct_argument))) (applied to_argument word (parens distinct_argument))

  -- COUNT with its arguments
  pub count_parts : Alike kind_of E (map applied_to (seq (a k.Count) count_arguments)) (alt rows_counted (map aggregate_of (seq (a k.Count) (parens distinct_argument))))
  count_parts =
      chain (alike_map applied_to (alike_second (a k.Count) (parens_alt (map row_count (a k.Star)) one_argument)))
      (chain (alike_map applied_to (seq_alt (parens (map row_count (a k.Star))) (parens one_argument) (a k.Count)))
      (chain (map_alt applied_to (seq (a k.Count) (parens (map row_count (a k.Star)))) (seq (a k.Count) (parens one_argument)))
      (alike_alt (chain (alike_map applied_to (alike_second (a k.Count) (parens_map row_count (a k.Star)))) (applied row_count (a k.Count) (parens (a k.Star)))) (after_word (a k.Count)))))

  -- ( .. ) behind a word that is not an aggregate's name
  pub call_part : Alike kind_of E (map applied_to (seq called_word arguments)) call
  call_part = applied (λ args word. t.call word args) called_word (parens (optional (listed (ref expr))))

  -- a word with what may follow it, or called
  pub word_parts : {D X : Type 0} (dot : The D) (named : Lexeme → D → X) (called : Built Expr → X) (word : The Lexeme) (args : The (Lexeme → Built Expr))
      → Alike kind_of E (word_with word args dot named called) (alt (with_dot dot named word) (with_call called word args))
  word_parts {X = X} dot named called word args =
      chain (alike_map apply (seq_alt (map (λ d w. named w d) dot) (map (λ f w. called (f w)) args) word))
      (chain (map_alt apply (seq word (map (λ d w. named w d) dot)) (seq word (map (λ f w. called (f w)) args)))
      (alike_alt (applied (λ d w. named w d) word dot) (applied (λ f w. called (f w)) word args)))
    where
      apply : Lexeme × (Lexeme → X) → X
      apply p = p.1 p.0

  -- where a star may follow the point
  pub star_parts : (word : The Lexeme) → Alike kind_of E (with_dot dot_star_or_name star_or_column word) (star_or_first word (with_dot dot_name column_of word))
  star_parts word =
      both_below (record { holds = λ room. record { spells = spells room; prefix = prefix room } }) (record { holds = λ room. record { spells = spelled_back room; prefix = prefix_back room } })
    where
      spells : (room : Room) (ts : List Lexeme) (v : Starred) → (el E room (with_dot dot_star_or_name star_or_column word)).spells ts v
          → (el E room (star_or_first word (with_dot dot_name column_of word))).spells ts v
      spells room ts v (u, (x, y, e, w, inl (c, (p, (x1, y1, e1, d, inl (sign, s, l)), j), m)), i) =
          inl (u.0, ((u.0, (p.0, sign)), (x, y, e, w, (x1, y1, e1, d, s)), refl), i ∙ ap (star_or_column u.0) (m ∙ ap (λ z. Some z) (j ∙ l)))
      spells room ts v (u, (x, y, e, w, inl (c, (p, (x1, y1, e1, d, inr (n, s, l)), j), m)), i) =
          inr (column_of u.0 (Some n), ((u.0, Some n), (x, y, e, w, inl (n, ((p.0, n), (x1, y1, e1, d, s), refl), refl)), refl), i ∙ ap (star_or_column u.0) (m ∙ ap (λ z. Some z) (j ∙ l)))
      spells room ts v (u, (x, y, e, w, inr (c, n, m)), i) = inr (column_of u.0 None, ((u.0, None), (x, y, e, w, inr (tt, n, refl)), refl), i ∙ ap (star_or_column u.0) m)

      prefix : (room : Room) (ts : List Lexeme) → (el E room (seq word dot_star_or_name)).prefix ts → (el E room (star_or_first word (with_dot dot_name column_of word))).prefix ts
      prefix room ts (inl w) = inr (inl w)
      prefix room ts (inr (x, y, u, e, w, inl (inl d))) = inr (inr (x, y, u, e, w, inl (inl d)))
      prefix room ts (inr (x, y, u, e, w, inl (inr (x1, y1, c, e1, d, inl s)))) = inl (inr (x, y, u, e, w, inr (x1, y1, c, e1, d, s)))
      prefix room ts (inr (x, y, u, e, w, inl (inr (x1, y1, c, e1, d, inr s)))) = inr (inr (x, y, u, e, w, inl (inr (x1, y1, c, e1, d, s))))
      prefix room ts (inr (x, y, u, e, w, inr n)) = inr (inr (x, y, u, e, w, inr n))

      spelled_back : (room : Room) (ts : List Lexeme) (v : Starred) → (el E room (star_or_first word (with_dot dot_name column_of word))).spells ts v
          → (el E room (with_dot dot_star_or_name star_or_column word)).spells ts v
      spelled_back room ts v (inl (z, (p, (x, y, e, w, (x1, y1, e1, d, s)), j), i)) =
          ((p.0, Some (inl p.1.1)), (x, y, e, w, inl (inl p.1.1, ((p.1.0, inl p.1.1), (x1, y1, e1, d, inl (p.1.1, s, refl)), refl), refl)), i ∙ ap left_of j)
      spelled_back room ts v (inr (z, (u, (x, y, e, w, inl (n, (p, (x1, y1, e1, d, s), j), m)), l), i)) =
          ((u.0, Some (inr p.1)), (x, y, e, w, inl (inr p.1, ((p.0, inr p.1), (x1, y1, e1, d, inr (p.1, s, refl)), refl), refl)), i ∙ ap right_of (l ∙ ap (column_of u.0) (m ∙ ap (λ q. Some q) j)))
      spelled_back room ts v (inr (z, (u, (x, y, e, w, inr (c, n, m)), l), i)) = ((u.0, None), (x, y, e, w, inr (tt, n, refl)), i ∙ ap right_of (l ∙ ap (column_of u.0) m))

      prefix_back : (room : Room) (ts : List Lexeme) → (el E room (star_or_first word (with_dot dot_name column_of word))).prefix ts → (el E room (seq word dot_star_or_name)).prefix ts
      prefix_back room ts (inl (inl w)) = inl w
      prefix_back room ts (inl (inr (x, y, u, e, w, inl d))) = inr (x, y, u, e, w, inl (inl d))
      prefix_back room ts (inl (inr (x, y, u, e, w, inr (x1, y1, c, e1, d, s)))) = inr (x, y, u, e, w, inl (inr (x1, y1, c, e1, d, inl s)))
      prefix_back room ts (inr (inl w)) = inl w
      prefix_back room ts (inr (inr (x, y, u, e, w, inl (inl d)))) = inr (x, y, u, e, w, inl (inl d))
      prefix_back room ts (inr (inr (x, y, u, e, w, inl (inr (x1, y1, c, e1, d, s))))) = inr (x, y, u, e, w, inl (inr (x1, y1, c, e1, d, inr s)))
      prefix_back room ts (inr (inr (x, y, u, e, w, inr n))) = inr (x, y, u, e, w, inr n)

  pub starred_parts : (word : The Lexeme) (args : The (Lexeme → Built Expr))
      → Alike kind_of E (word_with word args dot_star_or_name star_or_column right_of) (star_or_first word (word_with word args dot_name column_of (λ x. x)))
  starred_parts word args =
      chain (word_parts dot_star_or_name star_or_column right_of word args)
      (chain (alike_alt (star_parts word) (alike_itself (with_call right_of word args)))
      (chain (flip (alt_alt (map left_of (name_and_star word)) (map right_of (with_dot dot_name column_of word)) (with_call right_of word args)))
      (alike_alt (alike_itself (map left_of (name_and_star word))) (flip (
      chain (alike_map right_of (word_parts dot_name column_of (λ x. x) word args))
      (chain (map_alt right_of (with_dot dot_name column_of word) (with_call (λ x. x) word args))
      (alike_alt (alike_itself (map right_of (with_dot dot_name column_of word))) (map_map right_of (λ p. p.1 p.0) (seq word args))))
      )))))

  -- behind a NOT, and behind none
  pub given_parts : {A : Type 0} (h : A → Test) (f : The A) → Alike kind_of E (given h f) (alt (map negated (seq (a k.Not) (map h f))) (map alone (map h f)))
  given_parts h f =
      both_below (record { holds = λ room. record { spells = spells room; prefix = prefix room } }) (either (record {
        holds = λ room. record { spells = λ ts v (u, (x, y, e, n, (b, s, l)), i). ((Some u.0, b), (x, y, e, inl (u.0, n, refl), s), i ∙ ap (λ g. g (Some u.0)) l); prefix = not_prefix room };
      }) (record {
        holds = λ room. record {
          spells = λ ts v (g, (b, s, l), i). ((None, b), ([], ts, refl, inr (tt, refl, refl), s), i ∙ ap (λ m. m None) l);
          prefix = λ ts s. inr ([], ts, None, refl, inr (tt, refl, refl), s);
        };
      }))
    where
      spells : (room : Room) (ts : List Lexeme) (v : Left → Built Expr) → (el E room (given h f)).spells ts v → (el E room (alt (map negated (seq (a k.Not) (map h f))) (map alone (map h f)))).spells ts v
      spells room ts v (u, (x, y, e, inl (w, n, j), s), i) = inl ((w, h u.1), (x, y, e, n, (u.1, s, refl)), i ∙ ap (λ z left. h u.1 z left) j)
      spells room ts v (u, (x, y, e, inr (w, n, j), s), i) =
          inr (h u.1, (u.1, subst (λ z. (el E room f).spells z u.1) (sym (e ∙ ap (λ z. z ++ y) n)) s, refl), i ∙ ap (λ z left. h u.1 z left) j)

      prefix : (room : Room) (ts : List Lexeme) → (el E room (given h f)).prefix ts → (el E room (alt (map negated (seq (a k.Not) (map h f))) (map alone (map h f)))).prefix ts
      prefix room ts (inl (inl n)) = inl (inl n)
      prefix room ts (inl (inr e)) = inl (inl (inl e))
      prefix room ts (inr (x, y, o, e, inl (w, n, j), s)) = inl (inr (x, y, w, e, n, s))
      prefix room ts (inr (x, y, o, e, inr (w, n, j), s)) = inr (subst (el E room f).prefix (sym (e ∙ ap (λ z. z ++ y) n)) s)

      not_prefix : (room : Room) (ts : List Lexeme) → (el E room (seq (a k.Not) (map h f))).prefix ts → (el E room (given h f)).prefix ts
      not_prefix room ts (inl n) = inl (inl n)
      not_prefix room ts (inr (x, y, w, e, n, s)) = inr (x, y, Some w, e, inl (w, n, refl), s)

-- ---- kinds of names

or_cases : (x y : Bool) → (x || y) ≡ true → (x ≡ true) ⊎ (y ≡ true)
or_cases true y e = inl refl
or_cases false y e = inr e

abbrev by_kind : Kind → Bool
by_kind kind = same k.Quoted kind || (among k.called_kinds kind || (same k.Count kind || among k.other_aggregates kind))

name_by_kind : (kind : Kind) → among name_kinds kind ≡ true → by_kind kind ≡ true
name_by_kind kind e = implied (among name_kinds kind) (by_kind kind) (every_kind_is_there (λ x. not (among name_kinds x) || by_kind x) refl kind) e

aggregate_by_kind : (kind : Kind) → among (k.Count ∷ k.other_aggregates) kind ≡ true → (same k.Count kind || among k.other_aggregates kind) ≡ true
aggregate_by_kind kind e = e

module _ (variant : Variant) where
  -- a token of either set
  token_parts : (p q r : Kind → Bool) → ((kind : Kind) → p kind ≡ true → (q kind || r kind) ≡ true) → Below (P variant) (token p) (alt (token q) (token r))
  token_parts p q r m = record { holds = λ room. record { spells = spells room; prefix = prefix room } }
    where
      spells : (room : Room) (ts : List Lexeme) (v : Lexeme) → (fl variant room (token p)).spells ts v → (fl variant room (alt (token q) (token r))).spells ts v
      spells room ts v (e, s) = elim (or_cases (q (kind_of v)) (r (kind_of v)) (m (kind_of v) s)) [ inl x ↦ inl (e, x) | inr y ↦ inr (e, y) ]

      prefix : (room : Room) (ts : List Lexeme) → (fl variant room (token p)).prefix ts → (fl variant room (alt (token q) (token r))).prefix ts
      prefix room ts (inl e) = inl (inl e)
      prefix room ts (inr (v, e, s)) = elim (or_cases (q (kind_of v)) (r (kind_of v)) (m (kind_of v) s)) [ inl x ↦ inl (inr (v, e, x)) | inr y ↦ inr (inr (v, e, y)) ]

  abbrev after_quoted : Kind → Bool
  after_quoted kind = among k.called_kinds kind || (same k.Count kind || among k.other_aggregates kind)

  abbrev aggregates : Kind → Bool
  aggregates kind = same k.Count kind || among k.other_aggregates kind

  pub name_parts : Below (P variant) name (alt (a k.Quoted) (alt called_word (alt (a k.Count) other_aggregate)))
  name_parts =
      through (token_parts (among name_kinds) (same k.Quoted) after_quoted name_by_kind)
      (below_alt (itself (a k.Quoted))
      (through (token_parts after_quoted (among k.called_kinds) aggregates (λ kind e. e))
      (below_alt (itself called_word) (token_parts aggregates (same k.Count) (among k.other_aggregates) (λ kind e. e)))))

  pub aggregate_parts : Below (P variant) aggregate_word (alt (a k.Count) other_aggregate)
  aggregate_parts = token_parts (among (k.Count ∷ k.other_aggregates)) (same k.Count) (among k.other_aggregates) aggregate_by_kind

  -- ---- words

  module _ {D X : Type 0} (dot : The D) (named : Lexeme → D → X) (called : Built Expr → X) where
    abbrev all_words : The X
    all_words = words dot named called

    part_named : (f g : The Lexeme) → Below (P variant) (with_dot dot named (alt f g)) (alt (with_dot dot named f) (with_dot dot named g))
    part_named f g =
        through (below_map (λ (p : Lexeme × D). named p.0 p.1) (of_alike (alt_seq f g dot)))
        (of_alike (map_alt (λ (p : Lexeme × D). named p.0 p.1) (seq f dot) (seq g dot)))

    -- each name
    pub any_named : Below (P variant) (with_dot dot named name) all_words
    any_named =
        through (below_map (λ (p : Lexeme × D). named p.0 p.1) (below_seq name_parts (itself dot)))
        (through (part_named (a k.Quoted) (alt called_word (alt (a k.Count) other_aggregate)))
        (below_alt (itself (with_dot dot named (a k.Quoted)))
        (through (part_named called_word (alt (a k.Count) other_aggregate))
        (below_alt (first_part (word_parts dot named called called_word arguments))
        (through (part_named (a k.Count) other_aggregate)
        (below_alt (first_part (word_parts dot named called (a k.Count) count_arguments)) (first_part (word_parts dot named called other_aggregate (parens one_argument)))))))))

    abbrev quoted_part : The X
    quoted_part = with_dot dot named (a k.Quoted)

    pub any_called : Below (P variant) (with_call called called_word arguments) all_words
    any_called = at_second quoted_part (at_first _ (second_part (word_parts dot named called called_word arguments)))

    pub any_count : Below (P variant) (with_call called (a k.Count) count_arguments) all_words
    any_count = at_second quoted_part (at_second _ (at_first _ (second_part (word_parts dot named called (a k.Count) count_arguments))))

    pub any_aggregate : Below (P variant) (with_call called other_aggregate (parens one_argument)) all_words
    any_aggregate = at_second quoted_part (at_second _ (at_second _ (second_part (word_parts dot named called other_aggregate (parens one_argument)))))
