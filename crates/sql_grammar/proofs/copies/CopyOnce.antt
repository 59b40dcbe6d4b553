-- A text that goes on from a prefix with tokens that copy nothing copies no more than one that goes on from there with others. So what such texts
-- copy is one number, which grows along prefixes, and the limit on copies is passed at no more than one token of a text.
use Rattle.std.proofs.Common.{◌≡◌, ℕ, zero, suc, ◌≤◌, true, List, [], ◌∷◌, ◌++◌, refl, subst, None, arith}
use Rattle.std.specs.List.{list_all}
use Rattle.grammar.specs.Form.{empty, language_within, ref}
use Rattle.grammar.specs.Lookahead.{is_predictive}
use Rattle.grammar.proofs.languages.Heights.{spelled_at}
use Rattle.grammar.proofs.languages.Limits.{CostsByCompletion}
use Rattle.grammar.proofs.readers.Predictions.{named}
use Rattle.grammar.proofs.completed.SamePrefixes.{SameOf, StillOf, alike, same_prefixes, still_of, still_texts}
use Rattle.grammar.proofs.languages.Sets.{and_both}
use Rattle.sql_lex.specs.Lexemes.{Lexeme}
use Rattle.sql_grammar.specs.Kinds.{every_kind, kind_of}
use Rattle.sql_grammar.specs.QueryGrammar.{Production, Read, The, query, item, reference, test, rest, primary, agg}
use Rattle.sql_grammar.specs.QueryTails.{commas, set_tail, and_tail, expr_tail, inner, in_inner}
use Rattle.sql_grammar.specs.Queries.{of_form, queries}
use Rattle.sql_grammar.specs.QueryCopies.{copies_nothing}
use Rattle.sql_grammar.specs.QueryLookahead.{table}
use Rattle.sql_grammar.specs.FactoredQueries.{of_factored, factored}
use Rattle.sql_grammar.proofs.copies.CopyCosts.{cost_of}
use Rattle.sql_grammar.proofs.copies.FactoredCosts.{any, EvenIn, SameRead, StillRead, LooseRead, evenly, none, no_cost, members_cost, commas_even, set_tail_rule, and_tail_rule, expr_tail_rule}
use Rattle.sql_grammar.proofs.copies.FactoredSame.{test_rule, rest_rule, primary_rule, agg_rule, item_rule, insides_even}
use Rattle.sql_grammar.proofs.copies.QueryCompletions.{completed, goes_on}
use Rattle.sql_grammar.proofs.queries.QueryForms.{form_has_prefixes, left_factored_includes}
use Rattle.sql_grammar.proofs.queries.QueryTable.{left_factored}

pub same_rule : (p : Production) (v w : Read p) → SameOf left_factored copies_nothing any SameRead StillRead LooseRead (factored p) v w → SameRead p v w
same_rule item v w s = item_rule.same v w s
same_rule reference v w s = none
same_rule test v w s = test_rule.same v w s
same_rule rest v w s = rest_rule.same v w s
same_rule primary v w s = primary_rule.same v w s
same_rule agg v w s = agg_rule.same v w s
same_rule set_tail v w s = set_tail_rule.same v w s
same_rule and_tail v w s = and_tail_rule.same v w s
same_rule expr_tail v w s = expr_tail_rule.same v w s
same_rule inner v w s = (insides_even empty no_cost evenly.of_empty).same v w s
same_rule in_inner v w s = λ left. (insides_even commas (members_cost left) (commas_even left)).same v w s
same_rule other v w s = (cost_of evenly other refl).same v w s

pub still_rule : (p : Production) (v : Read p) → StillOf left_factored copies_nothing StillRead (factored p) v → StillRead p v
still_rule item v s = item_rule.still v s
still_rule reference v s = refl
still_rule test v s = test_rule.still v s
still_rule rest v s = rest_rule.still v s
still_rule primary v s = primary_rule.still v s
still_rule agg v s = agg_rule.still v s
still_rule set_tail v s = set_tail_rule.still v s
still_rule and_tail v s = and_tail_rule.still v s
still_rule expr_tail v s = expr_tail_rule.still v s
still_rule inner v s = (insides_even empty no_cost evenly.of_empty).still v s
still_rule in_inner v s = λ left. (insides_even commas (members_cost left) (commas_even left)).still v s
still_rule other v s = (cost_of evenly other refl).still v s

pub loose_rule : (p : Production) (v : Read p) → StillOf left_factored any LooseRead (factored p) v → LooseRead p v
loose_rule rest v s = rest_rule.loose v s
loose_rule set_tail v s = set_tail_rule.loose v s
loose_rule and_tail v s = and_tail_rule.loose v s
loose_rule expr_tail v s = expr_tail_rule.loose v s
loose_rule other v s = tt

any_tokens : (ts : List Lexeme) → list_all any ts ≡ true
any_tokens [] = refl
any_tokens (t ∷ ts) = and_both true (list_all any ts) refl (any_tokens ts)

still_name : (p : Production) (ts : List Lexeme) (v : Read p) → list_all copies_nothing ts ≡ true → (of_factored None p).spells ts v → StillRead p v
still_name p ts v c s = still_texts left_factored copies_nothing any SameRead StillRead LooseRead still_rule loose_rule same_rule p ts v c s

loose_at : (h : ℕ) (p : Production) (ts : List Lexeme) (v : Read p) → list_all any ts ≡ true → (language_within kind_of factored h None p).spells ts v → LooseRead p v
loose_at zero p ts v c s = absurd s
loose_at (suc h) p ts v c s = loose_rule p v (still_of left_factored any LooseRead (language_within kind_of factored h) (loose_at h) (factored p) ts v c s)

loose_name : (p : Production) (ts : List Lexeme) (v : Read p) → list_all any ts ≡ true → (of_factored None p).spells ts v → LooseRead p v
loose_name p ts v c s = let r = spelled_at kind_of factored None p ts v s in loose_at r.0 p ts v c r.1

same_name : (p : Production) (b c x y z : List Lexeme) (v w : Read p) → b ≡ x ++ y → c ≡ x ++ z → (x ≡ [] → ⊥) → list_all copies_nothing y ≡ true → list_all any z ≡ true
    → (of_factored None p).spells b v → (of_factored None p).spells c w → SameRead p v w
same_name p b c x y z v w i j n d e s r =
    same_prefixes left_factored copies_nothing any SameRead StillRead LooseRead still_rule loose_rule same_rule p x y z v w n d e
    (subst (λ k. (of_factored None p).spells k v) i s) (subst (λ k. (of_factored None p).spells k w) j r)

-- ---- of a form

module _ {A : Type 0} (f : The A) (o : is_predictive every_kind table f ≡ true) (cost : A → ℕ) (l : EvenIn f cost) where
  no_less : (x y z : List Lexeme) (v w : A) → list_all copies_nothing y ≡ true → (of_form None f).spells (x ++ y) v → (of_form None f).spells (x ++ z) w → cost v ≤ cost w
  no_less [] y z v w c s r =
      least (cost v) (cost w) (l.still v (still_of left_factored copies_nothing StillRead of_factored still_name f y v c ((left_factored_includes None f).spells y v s)))
    where
      least : (a b : ℕ) → a ≡ 0 → a ≤ b
      least a b i = omega (arith, i)
  no_less (u ∷ x) y z v w c s r =
      l.same v w (alike left_factored copies_nothing any SameRead StillRead LooseRead of_factored (λ room p. named left_factored room p) still_name loose_name same_name f o
      (u ∷ (x ++ y)) (u ∷ (x ++ z)) (u ∷ x) y z v w refl refl (λ e. cc) c (any_tokens z)
      ((left_factored_includes None f).spells (u ∷ (x ++ y)) v s) ((left_factored_includes None f).spells (u ∷ (x ++ z)) w r))

  pub form_costs : goes_on f ≡ true → CostsByCompletion copies_nothing (of_form None f) cost
  form_costs e = record { prefixes = form_has_prefixes None f; completed = completed f e; least = no_less }

pub query_costs : CostsByCompletion copies_nothing queries (λ read. read.copies)
query_costs = form_costs (ref query) refl (λ read. read.copies) (evenly.of_ref query) refl
