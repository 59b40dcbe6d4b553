-- What is copied in the parts of each production is what is copied in its value.
use Rattle.std.proofs.Common.{◌≡◌, ℕ, ◌+◌, Bool, true, false, List, [], ◌∷◌, refl, ◌∙◌, ap, Option, Some, None, arith}
use Rattle.grammar.specs.Form.{seq, alt, map, ref, star}
use Rattle.grammar.specs.Productions.{skip_then}
use Rattle.grammar.proofs.completed.Costs.{Costing, summed, optional_cost, free_map, free_seq, free_optional, costed_skip_then, costed_then_skip, costed_optional, costed_separated}
use Rattle.sql_model.specs.Syntax.{Except, Intersect}
use Rattle.sql_lex.specs.Lexemes.{Lexeme}
use Rattle.sql_model.specs.declared.tree.Expr.{Expr}
use Rattle.sql_model.specs.declared.tree.Query.{Query}
use Rattle.sql_grammar.specs.Kinds as k
use Rattle.sql_grammar.specs.Kinds.{Kind, same, among}
use Rattle.sql_grammar.specs.Numbering.{Built, plain, each, perhaps}
use Rattle.sql_grammar.specs.QueryTrees as t
use Rattle.sql_grammar.specs.QueryTrees.{SetWord, not_sub}
use Rattle.sql_grammar.specs.QueryGrammar as grammar
use Rattle.sql_grammar.specs.QueryGrammar.{Production, Read, The, a, one_of, in_parentheses, parens, listed, alias, union_or_except, intersect, join_on, cross_join, group_by, exists, minus, not_neg, call, query, part, operand, block, item, from, entry, reference, expr, conj, neg, test, rest, value, term, unary, primary, agg, further, most_operators, most_separators}
use Rattle.sql_grammar.specs.Queries.{rules}

-- what is copied in a value of a production that goes by its parts alone
abbrev pub copies_in : (p : Production) → Read p → ℕ
copies_in reference read = 0
copies_in rest read = 0
copies_in (further tail) read = 0
copies_in other read = read.copies

-- ---- sums with nothing

pub from_zero : (c : ℕ) → c ≡ 0 + c
from_zero c = omega arith

pub to_zero : (c : ℕ) → c ≡ c + 0
to_zero c = omega arith

pub twice_zero : (c : ℕ) → c ≡ 0 + (0 + c)
twice_zero c = omega arith

pub around_zero : (c : ℕ) → c ≡ 0 + (c + 0)
around_zero c = omega arith

with_zero : (x y z : ℕ) → (x + y) + z ≡ x + ((0 + y) + z)
with_zero x y z = omega arith

pub regroup : (x y z : ℕ) → (x + y) + z ≡ x + (y + z)
regroup x y z = omega arith

-- ---- lists of parts

abbrev copies_of : {A : Type 0} → Built A → ℕ
copies_of b = b.copies

pub each_copies : {A : Type 0} (bs : List (Built A)) → (each bs).copies ≡ summed copies_of bs
each_copies [] = refl
each_copies (b ∷ bs) = ap (λ z. b.copies + z) (each_copies bs)

perhaps_copies : {A : Type 0} (b : Option (Built A)) → (perhaps b).copies ≡ optional_cost copies_of b
perhaps_copies None = refl
perhaps_copies (Some b) = refl

pub sets_copies : (ps : List (SetWord × Built Query)) (left : Built Query) → (t.sets left ps).copies ≡ left.copies + summed (λ p. 0 + p.1.copies) ps
sets_copies [] left = omega arith
sets_copies (p ∷ ps) left = sets_copies ps _ ∙ with_zero left.copies p.1.copies (summed (λ q. 0 + q.1.copies) ps)

pub operated_copies : (ps : List (Lexeme × Built Expr)) (left : Built Expr) → (t.operated left ps).copies ≡ left.copies + summed (λ p. 0 + p.1.copies) ps
operated_copies [] left = omega arith
operated_copies (p ∷ ps) left = operated_copies ps _ ∙ with_zero left.copies p.1.copies (summed (λ q. 0 + q.1.copies) ps)

pub chained_copies : (node : List Expr → ℕ → Expr) (first : Built Expr) (others : List (Built Expr)) → (t.chained node (first, others)).copies ≡ first.copies + summed copies_of others
chained_copies node first [] = omega arith
chained_copies node first (next ∷ others) = ap (λ z. first.copies + (next.copies + z)) (each_copies others)

pub call_copies : (word : Lexeme) (args : Option (Built Expr × List (Built Expr))) → (t.call word args).copies ≡ 0 + optional_cost (λ p. p.0.copies + summed copies_of p.1) args
call_copies word None = refl
call_copies word (Some p) = ap (λ z. 0 + (p.0.copies + z)) (each_copies p.1)

-- productions whose values are made of their parts alone
abbrev pub is_counted : Production → Bool
is_counted test = false
is_counted rest = false
is_counted (further tail) = false
is_counted other = true

module _ {Costed : (A : Type 0) → The A → (A → ℕ) → Type 0} (pr : Costing copies_in Costed) where
  abbrev Costs : {A : Type 0} → The A → (A → ℕ) → Type 0
  Costs f cost = Costed _ f cost

  abbrev Free : {A : Type 0} → The A → Type 0
  Free f = Costed _ f (λ v. 0)

  pub a_token : (kind : Kind) → Free (a kind)
  a_token kind = pr.of_token (same kind)

  pub some_token : (kinds : List Kind) → Free (one_of kinds)
  some_token kinds = pr.of_token (among kinds)

  of : (p : Production) → Costs (ref p) (copies_in p)
  of p = pr.of_ref p

  pub in_parens : {A : Type 0} {f : The A} {cost : A → ℕ} → Costs f cost → Costs (in_parentheses f) (λ p. 0 + cost p.1)
  in_parens l = pr.of_nest (pr.of_seq (a_token k.Open) (costed_then_skip pr l (a_token k.Close)))

  pub costed_parens : {A : Type 0} {f : The A} {cost : A → ℕ} → Costs f cost → Costs (parens f) cost
  costed_parens {cost = cost} l = pr.of_map (λ p. p.1) cost (in_parens l) (λ p. from_zero (cost p.1))

  pub costed_listed : {A : Type 0} {f : The A} {cost : A → ℕ} → Costs f cost → Costs (listed f) (λ v. cost v.0 + summed cost v.1)
  costed_listed l = costed_separated pr (Some most_separators) (a_token k.Comma) l

  pub free_alias : Free alias
  free_alias = costed_skip_then pr (free_optional pr (a_token k.As)) (some_token grammar.name_kinds)

  -- ---- queries

  pub free_union : Free union_or_except
  free_union =
      pr.of_alt (free_map pr (λ p. t.union_word p.0 p.1) (free_seq pr (a_token k.Union) (free_optional pr (a_token k.All))))
      (free_map pr (λ word. (Except, word.start)) (a_token k.Except))

  pub free_intersect : Free intersect
  free_intersect = free_map pr (λ word. (Intersect, word.start)) (a_token k.Intersect)

  -- operands, with set operators between them
  sets_cost : {p : The (Built Query)} {word : The SetWord} → Free word → Costs p copies_of → Costs (map (λ v. t.sets v.0 v.1) (seq p (star (Some most_operators) (seq word p)))) copies_of
  sets_cost free l = pr.of_map (λ v. t.sets v.0 v.1) copies_of (pr.of_seq l (pr.of_star (Some most_operators) (pr.of_seq free l))) (λ v. sets_copies v.1 v.0)

  free_groups : Free group_by
  free_groups =
      free_optional pr
      (costed_skip_then pr (free_seq pr (a_token k.Group) (a_token k.By))
      (pr.of_same (λ v. 0) (costed_listed (of reference)) (λ v. none v.1)))
    where
      none : (vs : List Expr) → 0 ≡ 0 + summed (copies_in reference) vs
      none [] = refl
      none (v ∷ vs) = none vs ∙ from_zero _

  block_cost : Costs (rules block) (copies_in block)
  block_cost =
      pr.of_map (λ p. t.block_of p.0 p.1.0 p.1.1.0 p.1.1.1.0 p.1.1.1.1.0 p.1.1.1.1.1) (copies_in block)
      (costed_skip_then pr (a_token k.Select) (pr.of_seq (free_optional pr (a_token k.Distinct)) (pr.of_seq (costed_listed (of item))
      (pr.of_seq (costed_skip_then pr (a_token k.From) (costed_listed (of from)))
      (pr.of_seq (costed_optional pr (costed_skip_then pr (a_token k.Where) (of expr)))
      (pr.of_seq free_groups (costed_optional pr (costed_skip_then pr (a_token k.Having) (of expr)))))))))
      (λ v. all_parts v.1.0.0.copies v.1.1.0.0.copies (each_copies v.1.0.1) (each_copies v.1.1.0.1) (perhaps_copies v.1.1.1.0) (perhaps_copies v.1.1.1.1.1))
    where
      all_parts : (i f : ℕ) {is fs w h js gs u g : ℕ} → is ≡ js → fs ≡ gs → w ≡ u → h ≡ g → (i + is) + ((f + fs) + (w + h)) ≡ 0 + ((i + js) + ((f + gs) + (u + (0 + g))))
      all_parts i f p q r s = omega (arith, p, q, r, s)

  item_cost : Costs (rules item) (copies_in item)
  item_cost =
      pr.of_alt (pr.of_map t.star_item (copies_in item) (a_token k.Star) (λ v. refl))
      (pr.of_alt
      (pr.of_map t.alias_star_item (copies_in item) (costed_then_skip pr (some_token grammar.name_kinds) (free_seq pr (a_token k.Dot) (a_token k.Star))) (λ v. refl))
      (pr.of_map (λ p. t.value_item p.0 p.1) (copies_in item) (pr.of_seq (of expr) (free_optional pr free_alias)) (λ v. to_zero v.0.copies)))

  join_cost : Costs (alt join_on cross_join) copies_of
  join_cost =
      pr.of_alt
      (pr.of_map (λ p. t.joined_on p.0 p.1) copies_of
      (costed_skip_then pr (free_seq pr (free_optional pr (a_token k.Inner)) (a_token k.Join))
      (pr.of_seq (of entry) (costed_skip_then pr (a_token k.On) (of expr)))) (λ v. refl))
      (pr.of_map t.cross_joined copies_of (costed_skip_then pr (free_seq pr (a_token k.Cross) (a_token k.Join)) (of entry)) (λ v. refl))

  from_cost : Costs (rules from) (copies_in from)
  from_cost =
      pr.of_map (λ p. t.entries p.0 p.1) (copies_in from) (pr.of_seq (of entry) (pr.of_star None join_cost))
      (λ v. ap (λ z. v.0.copies + z) (each_copies v.1))

  entry_cost : Costs (rules entry) (copies_in entry)
  entry_cost =
      pr.of_alt
      (pr.of_map (λ p. t.table_entry p.0 p.1) (copies_in entry) (free_seq pr (some_token grammar.name_kinds) (free_optional pr free_alias)) (λ v. none v.0 v.1))
      (pr.of_map (λ p. t.query_entry p.0 p.1) (copies_in entry) (pr.of_seq (costed_parens (of query)) free_alias) (λ v. to_zero v.0.copies))
    where
      none : (w : Lexeme) (o : Option Lexeme) → (t.table_entry w o).copies ≡ 0
      none w None = refl
      none w (Some n) = refl

  reference_cost : Costs (rules reference) (copies_in reference)
  reference_cost =
      free_map pr t.column
      (free_seq pr (free_optional pr (costed_then_skip pr (some_token grammar.name_kinds) (a_token k.Dot))) (some_token grammar.name_kinds))

  -- ---- expressions

  -- a chain, as of AND and OR
  chain_cost : {p : The (Built Expr)} {word : The Lexeme} (node : List Expr → ℕ → Expr) → Free word → Costs p copies_of
      → Costs (map (t.chained node) (seq p (star (Some most_separators) (skip_then word p)))) copies_of
  chain_cost node free l = pr.of_map (t.chained node) copies_of (pr.of_seq l (pr.of_star (Some most_separators) (costed_skip_then pr free l))) (λ v. chained_copies node v.0 v.1)

  -- operands, with operators between them
  operators_cost : {p : The (Built Expr)} {sign : The Lexeme} → Free sign → Costs p copies_of → Costs (map (λ v. t.operated v.0 v.1) (seq p (star (Some most_operators) (seq sign p)))) copies_of
  operators_cost free l = pr.of_map (λ v. t.operated v.0 v.1) copies_of (pr.of_seq l (pr.of_star (Some most_operators) (pr.of_seq free l))) (λ v. operated_copies v.1 v.0)

  pub not_neg_cost : Costs not_neg copies_of
  not_neg_cost = pr.of_map t.not_of copies_of (pr.of_nest (pr.of_seq (a_token k.Not) (of neg))) (λ v. from_zero v.1.copies)

  pub minus_cost : Costs minus copies_of
  minus_cost = pr.of_map t.minus copies_of (pr.of_nest (pr.of_seq (a_token k.Minus) (of unary))) (λ v. from_zero v.1.copies)

  pub exists_cost : Costs exists copies_of
  exists_cost =
      pr.of_map t.exists copies_of (pr.of_seq (a_token k.Exists) (costed_parens (of query))) (λ v. from_zero v.1.copies)

  primary_cost : Costs (rules primary) (copies_in primary)
  primary_cost =
      pr.of_alt (pr.of_map t.number_literal (copies_in primary) (a_token k.Number) (λ v. refl))
      (pr.of_alt (pr.of_map t.text_literal (copies_in primary) (a_token k.Text) (λ v. refl))
      (pr.of_alt (pr.of_map (λ x. plain x) (copies_in primary) (of reference) (λ v. refl))
      (pr.of_alt (of agg)
      (pr.of_alt
      (pr.of_map (λ p. t.call p.0 p.1) (copies_in primary)
      (pr.of_seq (some_token k.called_kinds) (costed_parens (costed_optional pr (costed_listed (of expr))))) (λ v. call_copies v.0 v.1))
      (pr.of_alt (costed_parens (pr.of_only not_sub (of expr)))
      (pr.of_map t.sub (copies_in primary) (in_parens (of query)) (λ v. from_zero v.1.copies)))))))

  agg_cost : Costs (rules agg) (copies_in agg)
  agg_cost =
      pr.of_alt
      (pr.of_map (λ p. t.count_rows p.0) (copies_in agg) (free_seq pr (a_token k.Count) (costed_parens (a_token k.Star))) (λ v. refl))
      (pr.of_map (λ p. t.aggregated p.0 p.1.0 p.1.1) (copies_in agg)
      (pr.of_seq (some_token (k.Count ∷ k.other_aggregates)) (costed_parens (pr.of_seq (free_optional pr (a_token k.Distinct)) (of expr)))) (λ v. twice_zero v.1.1.copies))

  -- ---- the parts of tests

  pub bounds_cost : Costs (seq (ref value) (skip_then (a k.And) (ref value))) (λ v. v.0.copies + v.1.copies)
  bounds_cost = pr.of_seq (of value) (costed_skip_then pr (a_token k.And) (of value))

  -- all but tests, and what is no part of a query
  pub cost_of : (p : Production) → is_counted p ≡ true → Costs (rules p) (copies_in p)
  cost_of query i = sets_cost free_union (of part)
  cost_of part i = sets_cost free_intersect (of operand)
  cost_of operand i = pr.of_alt (of block) (costed_parens (of query))
  cost_of block i = block_cost
  cost_of item i = item_cost
  cost_of from i = from_cost
  cost_of entry i = entry_cost
  cost_of reference i = reference_cost
  cost_of expr i = chain_cost t.or_node (a_token k.Or) (of conj)
  cost_of conj i = chain_cost t.and_node (a_token k.And) (of neg)
  cost_of neg i = pr.of_alt not_neg_cost (of test)
  cost_of value i = operators_cost (some_token (k.Plus ∷ k.Minus ∷ k.Concat ∷ [])) (of term)
  cost_of term i = operators_cost (some_token (k.Star ∷ k.Slash ∷ [])) (of unary)
  cost_of unary i = pr.of_alt minus_cost (of primary)
  cost_of primary i = primary_cost
  cost_of agg i = agg_cost
  cost_of other i = cc
