-- What is read of the left-factored grammar's names, where a prefix goes on with tokens that copy nothing, copies no more than where it goes on with others.
use Rattle.std.proofs.Common.{◌≡◌, ℕ, ◌+◌, ◌≤◌, Bool, true, List, [], ◌∷◌, inl, inr, refl, ◌∙◌, ap, Some, None, arith}
use Rattle.grammar.specs.Form.{seq, counted, ref}
use Rattle.grammar.specs.Productions.{optional}
use Rattle.grammar.proofs.completed.Costs.{Costing, summed, costed_skip_then}
use Rattle.grammar.proofs.completed.SamePrefixes.{AlikeLists, Each, SameOf, StillOf}
use Rattle.grammar.proofs.completed.SameCosts.{Adds, Even, adds_alt, adds_at, adds_behind, adds_map, adds_seq, even, even_counted}
use Rattle.sql_lex.specs.Lexemes.{Lexeme}
use Rattle.sql_model.specs.declared.tree.Expr.{Expr}
use Rattle.sql_model.specs.declared.tree.Query.{Query}
use Rattle.sql_grammar.specs.Kinds as k
use Rattle.sql_grammar.specs.Kinds.{among}
use Rattle.sql_grammar.specs.Numbering.{Built}
use Rattle.sql_grammar.specs.QueryTrees as t
use Rattle.sql_grammar.specs.QueryTailTrees as tails
use Rattle.sql_grammar.specs.QueryTrees.{Left, SetWord, weight}
use Rattle.sql_grammar.specs.QueryTailTrees.{Inside}
use Rattle.sql_grammar.specs.QueryGrammar.{Production, Read, The, a, products, sums, ands, ors, part, operand, expr, conj, neg, rest, term, unary, most_operators, most_separators}
use Rattle.sql_grammar.specs.QueryTails.{next_comma, commas, set_tail, and_tail, expr_tail, inner, in_inner}
use Rattle.sql_grammar.specs.Queries.{rules}
use Rattle.sql_grammar.specs.QueryCopies.{copies_nothing}
use Rattle.sql_grammar.proofs.copies.TestCopies.{behind_commas, comma_copies, no_members, one_more_comma}
use Rattle.sql_grammar.proofs.copies.CopyCosts.{copies_in, sets_copies, operated_copies, chained_copies, free_union, free_intersect, regroup, to_zero}
use Rattle.sql_grammar.proofs.queries.QueryTable.{left_factored}

-- what is copied in what stands in parentheses, with a cost for what follows it there
abbrev pub inside_copies : {M : Type 0} → (M → ℕ) → Inside M → ℕ
inside_copies cost (inl q) = q.copies
inside_copies cost (inr (inl (p, m))) = p.1.copies + cost m
inside_copies cost (inr (inr (x, m))) = x.copies + cost m

abbrev pub no_cost : {M : Type 0} → M → ℕ
no_cost m = 0

-- members behind commas are copied as the left side says
abbrev pub members_cost : Left → List (Built Expr) → ℕ
members_cost left members = behind_commas members left

-- whatever the other text goes on with
abbrev pub any : Lexeme → Bool
any token = true

abbrev pub SameRead : (p : Production) → Read p → Read p → Type 0
SameRead rest v w = (left : Left) → (v left).copies ≤ (w left).copies
SameRead expr_tail v w = (left : Left) → (v left).copies ≤ (w left).copies
SameRead set_tail v w = (q : Built Query) → (v q).copies ≤ (w q).copies
SameRead and_tail v w = (x : Built Expr) → (v x).copies ≤ (w x).copies
SameRead inner v w = inside_copies no_cost v ≤ inside_copies no_cost w
SameRead in_inner v w = (left : Left) → inside_copies (members_cost left) v ≤ inside_copies (members_cost left) w
SameRead other v w = copies_in other v ≤ copies_in other w

abbrev pub StillRead : (p : Production) → Read p → Type 0
StillRead rest v = (left : Left) → (v left).copies ≡ left.0.copies
StillRead expr_tail v = (left : Left) → (v left).copies ≡ left.0.copies
StillRead set_tail v = (q : Built Query) → (v q).copies ≡ q.copies
StillRead and_tail v = (x : Built Expr) → (v x).copies ≡ x.copies
StillRead inner v = inside_copies no_cost v ≡ 0
StillRead in_inner v = (left : Left) → inside_copies (members_cost left) v ≡ 0
StillRead other v = copies_in other v ≡ 0

-- what stands to the left is copied with
abbrev pub LooseRead : (p : Production) → Read p → Type 0
LooseRead rest v = (left : Left) → left.0.copies ≤ (v left).copies
LooseRead expr_tail v = (left : Left) → left.0.copies ≤ (v left).copies
LooseRead set_tail v = (q : Built Query) → q.copies ≤ (v q).copies
LooseRead and_tail v = (x : Built Expr) → x.copies ≤ (v x).copies
LooseRead other v = Unit {0}

pub none : 0 ≤ 0
none = omega arith

same_own_cost : (p : Production) (v w : Read p) → SameRead p v w → copies_in p v ≤ copies_in p w
same_own_cost rest v w i = none
same_own_cost expr_tail v w i = none
same_own_cost set_tail v w i = none
same_own_cost and_tail v w i = none
same_own_cost inner v w i = none
same_own_cost in_inner v w i = none
same_own_cost other v w i = i

still_cost : (p : Production) (v : Read p) → StillRead p v → copies_in p v ≡ 0
still_cost rest v i = refl
still_cost expr_tail v i = refl
still_cost set_tail v i = refl
still_cost and_tail v i = refl
still_cost inner v i = refl
still_cost in_inner v i = refl
still_cost other v i = i

abbrev pub EvenIn : {A : Type 0} → The A → (A → ℕ) → Type 0
EvenIn f cost = Even left_factored copies_nothing any SameRead StillRead LooseRead f cost

abbrev pub AddsIn : {B X : Type 0} → The B → (B → X → ℕ) → (X → ℕ) → Type 0
AddsIn f measure base = Adds left_factored copies_nothing any SameRead StillRead LooseRead f measure base

pub evenly : Costing copies_in (λ A f a. Even left_factored copies_nothing any SameRead StillRead LooseRead f a)
evenly = even copies_in same_own_cost still_cost

-- ---- names that are functions of what stands to the left

pub set_tail_adds : AddsIn (ref set_tail) (λ f (q : Built Query). (f q).copies) (λ q. q.copies)
set_tail_adds = record { same = λ v w r. r; still = λ v r. r; loose = λ v r. r }

pub and_tail_adds : AddsIn (ref and_tail) (λ f (x : Built Expr). (f x).copies) (λ x. x.copies)
and_tail_adds = record { same = λ v w r. r; still = λ v r. r; loose = λ v r. r }

pub expr_tail_adds : AddsIn (ref expr_tail) (λ f (left : Left). (f left).copies) (λ left. left.0.copies)
expr_tail_adds = record { same = λ v w r. r; still = λ v r. r; loose = λ v r. r }

pub rest_adds : AddsIn (ref rest) (λ f (left : Left). (f left).copies) (λ left. left.0.copies)
rest_adds = record { same = λ v w r. r; still = λ v r. r; loose = λ v r. r }

pub inner_even : EvenIn (ref inner) (inside_copies no_cost)
inner_even = record { same = λ v w r. r; still = λ v r. r }

pub in_inner_even : (left : Left) → EvenIn (ref in_inner) (inside_copies (members_cost left))
in_inner_even left = record { same = λ v w r. r left; still = λ v r. r left }

-- ---- lists behind commas

-- a comma copies, so it is none of the chosen tokens
comma_moves : (v : Built Expr) → StillOf left_factored copies_nothing StillRead next_comma v → ⊥
comma_moves v (u, (c, r), i) = comma_copies u.0 c.0 c.1

next_comma_even : EvenIn next_comma (λ x. x.copies)
next_comma_even = costed_skip_then evenly (evenly.of_token (k.same k.Comma)) (evenly.of_ref expr)

no_more : (vs : List (Built Expr)) → Each (StillOf left_factored copies_nothing StillRead next_comma) vs → vs ≡ []
no_more [] r = refl
no_more (v ∷ vs) r = absurd (comma_moves v r.0)

pub commas_even : (left : Left) → EvenIn commas (members_cost left)
commas_even left = record { same = same; still = λ vs r. no_members vs left (no_more vs r) }
  where
    step : (w a b c d : ℕ) → a ≤ c → b ≤ d → (w + a) + b ≤ (w + c) + d
    step w a b c d i j = omega (arith, i, j)

    next_step : (v w : Built Expr) (vs ws : List (Built Expr)) → v.copies ≤ w.copies → behind_commas vs left ≤ behind_commas ws left → behind_commas (v ∷ vs) left ≤ behind_commas (w ∷ ws) left
    next_step v w vs ws i j =
        omega (arith, one_more_comma v vs left, one_more_comma w ws left, step (weight left) v.copies (behind_commas vs left) w.copies (behind_commas ws left) i j)

    least : (a b : ℕ) → a ≡ 0 → a ≤ b
    least a b i = omega (arith, i)

    equal : (a b : ℕ) → a ≡ b → a ≤ b
    equal a b i = omega (arith, i)

    same : (vs ws : List (Built Expr))
        → AlikeLists (SameOf left_factored copies_nothing any SameRead StillRead LooseRead next_comma) (StillOf left_factored copies_nothing StillRead next_comma) (StillOf left_factored any LooseRead next_comma) vs ws
        → behind_commas vs left ≤ behind_commas ws left
    same [] ws r = absurd r
    same (v ∷ vs) [] r = absurd r
    same (v ∷ vs) (w ∷ ws) (inl (r, (p, q))) =
        next_step v w vs ws (next_comma_even.same v w r) (least (behind_commas vs left) (behind_commas ws left) (no_members vs left (no_more vs p)))
    same (v ∷ vs) (w ∷ ws) (inr (i, r)) = next_step v w vs ws (equal v.copies w.copies (ap (λ z. z.copies) i)) (same vs ws r)

-- ---- tails

abbrev operators_cost : List (Lexeme × Built Expr) → ℕ
operators_cost ps = summed (λ p. 0 + p.1.copies) ps

abbrev words_cost : List (SetWord × Built Query) → ℕ
words_cost ps = summed (λ p. 0 + p.1.copies) ps

abbrev parts_cost : List (Built Expr) → ℕ
parts_cost xs = summed (λ x. x.copies) xs

pub set_tail_rule : AddsIn (rules set_tail) (λ f (q : Built Query). (f q).copies) (λ q. q.copies)
set_tail_rule =
    adds_map (λ q (u : List (SetWord × Built Query) × List (SetWord × Built Query)). words_cost u.0 + words_cost u.1)
    (λ q. evenly.of_seq (evenly.of_star (Some most_operators) (evenly.of_seq (free_intersect evenly) (evenly.of_ref operand))) (evenly.of_star (Some most_operators) (evenly.of_seq (free_union evenly) (evenly.of_ref part))))
    (λ p. tails.combined p.0 p.1) (λ f q. (f q).copies) (λ q. q.copies)
    (λ u q. sets_copies u.1 (t.sets q u.0) ∙ (ap (λ z. z + words_cost u.1) (sets_copies u.0 q) ∙ regroup q.copies (words_cost u.0) (words_cost u.1)))

chain_even : EvenIn (seq ands ors) (λ p. parts_cost p.0 + parts_cost p.1)
chain_even =
    evenly.of_seq (evenly.of_star (Some most_separators) (costed_skip_then evenly (evenly.of_token (k.same k.And)) (evenly.of_ref neg)))
    (evenly.of_star (Some most_separators) (costed_skip_then evenly (evenly.of_token (k.same k.Or)) (evenly.of_ref conj)))

chains_copies : (x : Built Expr) (p : List (Built Expr) × List (Built Expr))
    → (t.chained t.or_node (t.chained t.and_node (x, p.0), p.1)).copies ≡ x.copies + (parts_cost p.0 + parts_cost p.1)
chains_copies x p =
    chained_copies t.or_node (t.chained t.and_node (x, p.0)) p.1
    ∙ (ap (λ z. z + parts_cost p.1) (chained_copies t.and_node x p.0) ∙ regroup x.copies (parts_cost p.0) (parts_cost p.1))

pub and_tail_rule : AddsIn (rules and_tail) (λ f (x : Built Expr). (f x).copies) (λ x. x.copies)
and_tail_rule =
    adds_map (λ x (u : List (Built Expr) × List (Built Expr)). parts_cost u.0 + parts_cost u.1) (λ x. chain_even)
    (λ p. tails.joined p.0 p.1) (λ f x. (f x).copies) (λ x. x.copies) (λ u x. chains_copies x u)

-- a test may follow a value
pub maybe_rest : AddsIn (optional (ref rest)) (λ o (left : Left). (t.tested left o).copies) (λ left. left.0.copies)
maybe_rest =
    adds_alt
    (adds_at rest_adds (λ f. Some f) (λ o left. (t.tested left o).copies) (λ left. left.0.copies) (λ left. left) (λ f left. refl) (λ left. refl))
    (adds_map (λ left (u : Unit {0}). 0) (λ left. evenly.of_empty) (λ u. None) (λ o left. (t.tested left o).copies) (λ left. left.0.copies) (λ u left. to_zero left.0.copies))

operators_even : EvenIn (counted (seq products sums)) (λ v. operators_cost v.0.0 + operators_cost v.0.1)
operators_even =
    even_counted (evenly.of_seq (evenly.of_star (Some most_operators) (evenly.of_seq (evenly.of_token (among (k.Star ∷ k.Slash ∷ []))) (evenly.of_ref unary)))
    (evenly.of_star (Some most_operators) (evenly.of_seq (evenly.of_token (among (k.Plus ∷ k.Minus ∷ k.Concat ∷ []))) (evenly.of_ref term))))

abbrev Operators : Type 0
Operators = (List (Lexeme × Built Expr) × List (Lexeme × Built Expr)) × ℕ

abbrev operands : Operators → Left → Left
operands o left = (t.operated (t.operated left.0 o.0.0) o.0.1, left.1 + o.1)

pub expr_tail_rule : AddsIn (rules expr_tail) (λ f (left : Left). (f left).copies) (λ left. left.0.copies)
expr_tail_rule =
    adds_behind operators_even
    (adds_seq maybe_rest chain_even)
    (λ p. tails.continued p.0 p.1.0 p.1.1.0 p.1.1.1) (λ f left. (f left).copies) (λ left. left.0.copies) operands
    (λ u left. chains_copies (t.tested (operands u.0 left) u.1.0) u.1.1)
    (λ o left. operated_copies o.0.1 (t.operated left.0 o.0.0) ∙ (ap (λ z. z + operators_cost o.0.1) (operated_copies o.0.0 left.0) ∙ regroup left.0.copies (operators_cost o.0.0) (operators_cost o.0.1)))
