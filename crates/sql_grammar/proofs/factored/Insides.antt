-- What the left-factored grammar reads in parentheses may stand there by the grammar.
use Rattle.std.proofs.Common.{◌≡◌, ℕ, true, List, [], ◌++◌, length, inl, inr, refl, sym, ◌∙◌, ap, subst, append_assoc, Option, Some, None}
use Rattle.grammar.specs.Language.{Language, Includes}
use Rattle.grammar.specs.Form.{Room, star, ref, form_language, language}
use Rattle.grammar.specs.Productions.{optional}
use Rattle.grammar.proofs.languages.Heights.{to_rule, from_rule}
use Rattle.grammar.proofs.factorings.Alike.{Alike}
use Rattle.sql_lex.specs.Lexemes.{Lexeme}
use Rattle.sql_model.specs.declared.tree.Expr.{Expr}
use Rattle.sql_grammar.specs.Kinds.{kind_of}
use Rattle.sql_grammar.specs.Numbering.{Built}
use Rattle.sql_grammar.specs.QueryTrees as t
use Rattle.sql_grammar.specs.QueryTrees.{Left, not_sub}
use Rattle.sql_grammar.specs.QueryGrammar.{Production, Read, The, rules_with, next_product, next_sum, next_and, next_or, expr, unary, primary, rest, most_operators, most_separators}
use Rattle.sql_grammar.specs.QueryTails.{tail_rules, set_tail, expr_tail}
use Rattle.sql_grammar.specs.Queries.{rules}
use Rattle.sql_grammar.proofs.queries.QuerySplits.{is_kept}
use Rattle.sql_grammar.proofs.queries.QuerySplits as split
use Rattle.sql_grammar.proofs.queries.QueryInside.{no_set_words}
use Rattle.sql_grammar.proofs.queries.NoSubqueries.{MakesNone, MayMakeNone, Something, nothing, something, something_or_not, continued_is, comparison_makes, in_query_makes, in_list_makes, between_makes, like_makes}
use Rattle.sql_grammar.proofs.queries.Variants.{Variant}

pub joined_at : (ts x y a b : List Lexeme) → ts ≡ x ++ y → y ≡ a ++ b → ts ≡ (x ++ a) ++ b
joined_at ts x y a b e f = e ∙ (ap (λ z. x ++ z) f ∙ sym (append_assoc x a b))

module _ (variant : Variant) where
  abbrev pub G : Room → (p : Production) → Language Lexeme (Read p)
  G = language kind_of (rules_with tail_rules variant.froms)

  abbrev pub gl : {A : Type 0} → Room → The A → Language Lexeme A
  gl room f = form_language kind_of (language kind_of (rules_with tail_rules variant.froms)) room f

  pub opens : (room : Room) (p : Production) → Includes (gl room (rules_with tail_rules variant.froms p)) (G room p)
  opens room p = to_rule kind_of (rules_with tail_rules variant.froms) room p

  pub closes : (room : Room) (p : Production) → Includes (G room p) (gl room (rules_with tail_rules variant.froms p))
  closes room p = from_rule kind_of (rules_with tail_rules variant.froms) room p

  pub own : (p : Production) → is_kept p ≡ true → Alike kind_of G (ref p) (rules_with tail_rules variant.froms p)
  own p e = record { there = λ room. opens room p; back = λ room. closes room p }

  -- ---- tails

  pub star_empty : {A : Type 0} (room : Room) (most : Option ℕ) (f : The A) (ts : List Lexeme) → (gl room (star most f)).spells ts [] → ts ≡ []
  star_empty None most f ts s = s
  star_empty (Some levels) None f ts s = s
  star_empty (Some levels) (Some most) f ts s = s.0

  pub no_sets : (room : Room) → (G room set_tail).spells [] (λ q. q)
  no_sets room = (closes room set_tail).spells [] (λ q. q) (no_set_words G room)

  -- a test makes no subquery
  rest_makes : (room : Room) (ts : List Lexeme) (f : Left → Built Expr) → (gl room (ref rest)).spells ts f → MakesNone f
  rest_makes room ts f s left = go ((opens room rest).spells ts f s)
    where
      as_made : (g : Left → Built Expr) → f ≡ g → not_sub (g left) ≡ true → not_sub (f left) ≡ true
      as_made g i n = subst (λ z. not_sub (z left) ≡ true) (sym i) n

      go : (gl room (rules rest)).spells ts f → not_sub (f left) ≡ true
      go (inl (u, r, i)) = as_made (λ l. t.comparison u.0 u.1 l) i (comparison_makes u.0 u.1 left)
      go (inr (inl (u, r, i))) = as_made (λ l. t.in_query u.0 u.1.0 u.1.1 l) i (in_query_makes u.0 u.1.0 u.1.1 left)
      go (inr (inr (inl (u, r, i)))) = as_made (λ l. t.in_list u.0 u.1 l) i (in_list_makes u.0 u.1 left)
      go (inr (inr (inr (inl (u, r, i))))) = as_made (λ l. t.between u.0 u.1.0 u.1.1 l) i (between_makes u.0 u.1.0 u.1.1 left)
      go (inr (inr (inr (inr (u, r, i))))) = as_made (λ l. t.like u.0 u.1 l) i (like_makes u.0 u.1 left)

  may_make : (room : Room) (ts : List Lexeme) (r : Option (Left → Built Expr)) → (gl room (optional (ref rest))).spells ts r → MayMakeNone r
  may_make room ts r (inl (w, s, j)) = subst MayMakeNone (sym j) (rest_makes room ts w s)
  may_make room ts r (inr (w, e, j)) = subst MayMakeNone (sym j) tt

  -- a tail keeps a first part from being a subquery
  pub tail_keeps : (room : Room) (ts : List Lexeme) (f : Left → Built Expr) → (G room expr_tail).spells ts f → (left : Left) → not_sub left.0 ≡ true → not_sub (f left) ≡ true
  tail_keeps room ts f s left n = go ((opens room expr_tail).spells ts f s)
    where
      go : (gl room (rules expr_tail)).spells ts f → not_sub (f left) ≡ true
      go (u, (x, y, e, c, (a, b, e2, r, q)), i) =
          subst (λ z. not_sub (z left) ≡ true) (sym i) (continued_is u.0 u.1.0 u.1.1.0 u.1.1.1 (may_make room a u.1.0 r) left n)

  -- and one with a token makes no subquery
  pub tail_makes : (room : Room) (ts : List Lexeme) (f : Left → Built Expr) → (G room expr_tail).spells ts f → (ts ≡ [] → ⊥) → MakesNone f
  tail_makes room ts f s n left = go ((opens room expr_tail).spells ts f s)
    where
      no_rest : (a : List Lexeme) (r : Option (Left → Built Expr)) → r ≡ None → (gl room (optional (ref rest))).spells a r → a ≡ []
      no_rest a r e (inl (w, s, j)) = cc
      no_rest a r e (inr (w, m, j)) = m

      joined : (x y : List Lexeme) → x ≡ [] → y ≡ [] → x ++ y ≡ []
      joined x y e f = ap (λ z. z ++ y) e ∙ f

      go : (gl room (rules expr_tail)).spells ts f → not_sub (f left) ≡ true
      go (u, (x, y, e, ((x1, y1, e1, ps, ss), c), (a, b, e2, r, (x3, y3, e3, as_, os))), i) = by_something (something_or_not u.0 u.1.0 u.1.1.0 u.1.1.1 (may_make room a u.1.0 r))
        where
          by_something : Something u.0 u.1.0 u.1.1.0 u.1.1.1 → not_sub (f left) ≡ true
          by_something (something m) = subst (λ z. not_sub (z left) ≡ true) (sym i) (m left)
          by_something (nothing p1 p2 p3 p4 p5) = absurd (n (e ∙ joined x y
              (e1 ∙ joined x1 y1 (star_empty room (Some most_operators) next_product x1 (subst (λ z. (gl room (star (Some most_operators) next_product)).spells x1 z) p1 ps)) (star_empty room (Some most_operators) next_sum y1 (subst (λ z. (gl room (star (Some most_operators) next_sum)).spells y1 z) p2 ss)))
              (e2 ∙ joined a b (no_rest a u.1.0 p3 r)
              (e3 ∙ joined x3 y3 (star_empty room (Some most_separators) next_and x3 (subst (λ z. (gl room (star (Some most_separators) next_and)).spells x3 z) p4 as_)) (star_empty room (Some most_separators) next_or y3 (subst (λ z. (gl room (star (Some most_separators) next_or)).spells y3 z) p5 os))))))

  -- ---- expressions by first parts

  -- a first part and what follows it
  pub first_and_tail : (room : Room) (x b : List Lexeme) (w : Built Expr) (f : Left → Built Expr) → (G room primary).spells x w → (G room expr_tail).spells b f → (G room expr).spells (x ++ b) (f (w, length x))
  first_and_tail room x b w f s r =
      ((split.expr_split variant.froms G own).back room).spells (x ++ b) (f (w, length x))
      (inr (((w, length x), f), (x, b, refl, ((closes room unary).spells x w (inr s), refl), r), refl))

  -- with the number of tokens that was read of the first part
  pub tailed : (room : Room) (x b : List Lexeme) (w : Built Expr) (n : ℕ) (f : Left → Built Expr) → n ≡ length x → (G room primary).spells x w → (G room expr_tail).spells b f → (G room expr).spells (x ++ b) (f (w, n))
  tailed room x b w n f c s r = subst (λ z. (G room expr).spells (x ++ b) (f (w, z))) (sym c) (first_and_tail room x b w f s r)

  pub first_and_prefix : (room : Room) (x b : List Lexeme) (w : Built Expr) → (G room primary).spells x w → (G room expr_tail).prefix b → (G room expr).prefix (x ++ b)
  first_and_prefix room x b w s r =
      ((split.expr_split variant.froms G own).back room).prefix (x ++ b) (inr (inr (x, b, (w, length x), refl, ((closes room unary).spells x w (inr s), refl), r)))
