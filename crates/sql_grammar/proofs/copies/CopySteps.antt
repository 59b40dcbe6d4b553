-- The two places where a reader that follows the left-factored grammar finds too much copied, and what it needs on its way out from there.
use Rattle.std.proofs.Common.{◌≡◌, ℕ, ◌+◌, ◌*◌, ◌≤◌, ◌<◌, true, List, [], ◌∷◌, ◌++◌, inl, inr, refl, sym, ◌∙◌, Option, Some, None, codes, arith}
use Rattle.std.proofs.lemmas.List.{append-nil}
use Rattle.std.specs.List.{list_all}
use Rattle.grammar.specs.Language.{Language, nonempty_language}
use Rattle.grammar.specs.Form.{ref, seq}
use Rattle.grammar.specs.Productions.{skip_then}
use Rattle.grammar.specs.Completions.{Fills, Reaches, Overspends}
use Rattle.grammar.proofs.readers.Completing.{continues_whole, left_filled}
use Rattle.grammar.proofs.readers.Predictions.{free}
use Rattle.grammar.proofs.completed.SamePrefixes.{still_texts}
use Rattle.sql_lex.specs.Lexemes.{Lexeme}
use Rattle.sql_model.specs.declared.tree.Expr.{Expr}
use Rattle.sql_model.specs.declared.tree.Query.{Query}
use Rattle.sql_model.specs.Syntax.{Union}
use Rattle.sql_grammar.specs.Kinds as k
use Rattle.sql_grammar.specs.Kinds.{kind_of}
use Rattle.sql_grammar.specs.Numbering.{Built}
use Rattle.sql_grammar.specs.QueryTrees as t
use Rattle.sql_grammar.specs.QueryTailTrees as tails
use Rattle.sql_grammar.specs.QueryTrees.{Left, weight}
use Rattle.sql_grammar.specs.QueryGrammar as grammar
use Rattle.sql_grammar.specs.QueryGrammar.{The, rest, most_separators}
use Rattle.sql_grammar.specs.QueryTails.{next_comma, commas, expr_tail, set_tail}
use Rattle.sql_grammar.specs.Queries.{rules}
use Rattle.sql_grammar.specs.FactoredQueries.{by_word, of_factored}
use Rattle.sql_grammar.specs.QueryCopies.{copies_nothing}
use Rattle.sql_grammar.proofs.copies.CopyCosts.{to_zero}
use Rattle.sql_grammar.proofs.copies.CopyOnce.{loose_rule, same_rule, still_rule}
use Rattle.sql_grammar.proofs.copies.FactoredCosts.{any, SameRead, StillRead, LooseRead, members_cost}
use Rattle.sql_grammar.proofs.copies.QueryCompletions.{G, in_names}
use Rattle.sql_grammar.proofs.queries.QueryForms.{left_factored_includes}
use Rattle.sql_grammar.proofs.copies.QueryFillings.{Filled, word, symbol, number_one, select_one, fill_token, fill_seq, fill_second, fill_map, fill_other, fill_none, fill_value, fill_expr, fill_part}
use Rattle.sql_grammar.proofs.queries.QueryTable.{left_factored}
use Rattle.grammar.proofs.languages.Heights.{from_rule}

-- what fills a form, fills it in the left-factored grammar
pub factored_filled : {A : Type 0} (f : The A) (v : A) → Filled f v → Fills copies_nothing (free left_factored f) v
factored_filled f v l = record { filling = l.by.filling; are_chosen = l.by.are_chosen; spelled = (left_factored_includes None f).spells l.by.filling v l.by.spelled }

-- a prefix of one token, and what completes it
one_token : {A : Type 0} (f : The A) (v : A) (here more : List Lexeme) (token : Lexeme) (filling : List Lexeme) → here ≡ token ∷ more
    → list_all copies_nothing filling ≡ true → (in_names G f).spells (token ∷ filling) v
    → Reaches copies_nothing (free left_factored f) here v more
one_token f v here more token filling i c s = record {
  taken = token ∷ [];
  whole = i;
  completes = record { more = filling; are_chosen = c; spelled = (left_factored_includes None f).spells (token ∷ filling) v s };
}

no_token : {A : Type 0} (f : The A) (v : A) (here : List Lexeme) → Filled f v → Reaches copies_nothing (free left_factored f) here v here
no_token f v here l = left_filled left_factored 0 copies_nothing (free left_factored f) here f here (λ v. v) (continues_whole copies_nothing (free left_factored f) here) v (factored_filled f v l)

pub fill_like : Filled by_word (λ word left. t.like word number_one left)
fill_like = fill_other _ (fill_other _ (fill_map (λ x word left. t.like word x left) (fill_second (fill_token k.Like (word (codes "like")) refl refl) fill_value)))

pub fill_high : Filled (skip_then (grammar.a k.And) (ref grammar.value)) number_one
fill_high = fill_second (fill_token k.And (word (codes "and")) refl refl) fill_value

abbrev bounds : The (Built Expr × Built Expr)
bounds = seq (ref grammar.value) (skip_then (grammar.a k.And) (ref grammar.value))

fill_bounds : Filled bounds (number_one, number_one)
fill_bounds = fill_seq fill_value fill_high

-- ---- where too much is copied

-- the word BETWEEN stands next, behind this left side and perhaps a NOT
pub between_too_much : (not_word : Option Lexeme) (left : Left) (most spent : ℕ) (here more : List Lexeme) (token : Lexeme) → here ≡ token ∷ more → k.same k.Between (kind_of token) ≡ true
    → spent + left.0.copies ≤ most → most < (spent + left.0.copies) + weight left → Overspends copies_nothing (free left_factored by_word) (λ f. (f not_word left).copies) most spent here here
between_too_much not_word left most spent here more token i b within passed = record {
  before = λ word left. t.like word number_one left;
  up_to = no_token by_word (λ word left. t.like word number_one left) here fill_like;
  within = few spent left.0.copies most within;
  token = token;
  more = more;
  next = i;
  with_it = λ word left. t.between word number_one number_one left;
  and_it = one_token by_word (λ word left. t.between word number_one number_one left) here more token fill_bounds.by.filling i fill_bounds.by.are_chosen
      (inr (inl ((number_one, number_one), ((token, (number_one, number_one)), (token ∷ [], fill_bounds.by.filling, refl, (refl, b), fill_bounds.by.spelled), refl), refl)));
  too_much = many spent left.0.copies (weight left) most passed;
}
  where
    few : (a b m : ℕ) → a + b ≤ m → a + (b + 0) ≤ m
    few a b m l = omega (arith, l)

    many : (a b w m : ℕ) → m < (a + b) + w → m < a + ((b + (0 + 0)) + w)
    many a b w m l = omega (arith, l)

-- a comma stands next in a list of IN behind this left side
pub comma_too_much : (left : Left) (most spent : ℕ) (here more : List Lexeme) (token : Lexeme) → here ≡ token ∷ more → k.same k.Comma (kind_of token) ≡ true
    → spent ≤ most → most < spent + weight left → Overspends copies_nothing (free left_factored commas) (members_cost left) most spent here here
comma_too_much left most spent here more token i b within passed = record {
  before = [];
  up_to = no_token commas [] here (fill_none (Some most_separators) next_comma);
  within = few spent (weight left) most within;
  token = token;
  more = more;
  next = i;
  with_it = number_one ∷ [];
  and_it = one_token commas (number_one ∷ []) here more token fill_expr.by.filling i fill_expr.by.are_chosen
      (token ∷ fill_expr.by.filling, [], sym (append-nil (token ∷ fill_expr.by.filling)), ((token, number_one), (token ∷ [], fill_expr.by.filling, refl, (refl, b), fill_expr.by.spelled), refl), refl);
  too_much = many spent (weight left) most passed;
}
  where
    few : (a w m : ℕ) → a ≤ m → a + (0 * w + 0) ≤ m
    few a w m l = omega (arith, l)

    many : (a w m : ℕ) → m < a + w → m < a + (1 * w + (0 + 0))
    many a w m l = omega (arith, l)

-- ---- tails that have a token

-- Where a prefix of a tail is completed by nothing, it may be completed by something that copies nothing either.
pub record SomeTail {A : Type 0} (L : Language Lexeme A) (cost : A → ℕ) (here beyond : List Lexeme) (total : ℕ) : Type 0 where
  pub value : A
  pub reaches : Reaches copies_nothing (nonempty_language L) here value beyond
  pub same_cost : cost value ≡ total

some_tail : {A : Type 0} (L : Language Lexeme A) (cost : A → ℕ) (here beyond : List Lexeme) (v other : A) (token : Lexeme) (filling : List Lexeme)
    → list_all copies_nothing (token ∷ filling) ≡ true → L.spells (token ∷ filling) other
    → (L.spells [] v → cost other ≡ cost v) → Reaches copies_nothing L here v beyond → SomeTail L cost here beyond (cost v)
some_tail {A = A} L cost here beyond v other token filling c s e r = go r.taken r.completes.more r.whole r.completes.are_chosen r.completes.spelled
  where
    go : (taken more : List Lexeme) → here ≡ taken ++ beyond → list_all copies_nothing more ≡ true → L.spells (taken ++ more) v → SomeTail L cost here beyond (cost v)
    go [] [] i m p = record { value = other; reaches = record { taken = []; whole = i; completes = record { more = token ∷ filling; are_chosen = c; spelled = (s, λ z. cc) } }; same_cost = e p }
    go [] (x ∷ more) i m p = record { value = v; reaches = record { taken = []; whole = i; completes = record { more = x ∷ more; are_chosen = m; spelled = (p, λ z. cc) } }; same_cost = refl }
    go (x ∷ taken) more i m p = record { value = v; reaches = record { taken = x ∷ taken; whole = i; completes = record { more = more; are_chosen = m; spelled = (p, λ z. cc) } }; same_cost = refl }

overspends_some : {A : Type 0} (L : Language Lexeme A) (cost : A → ℕ) (most spent : ℕ) (here beyond : List Lexeme)
    → ((v : A) (beyond : List Lexeme) → Reaches copies_nothing L here v beyond → SomeTail L cost here beyond (cost v))
    → Overspends copies_nothing L cost most spent here beyond → Overspends copies_nothing (nonempty_language L) cost most spent here beyond
overspends_some L cost most spent here beyond m o =
    let b = m o.before beyond o.up_to in let w = m o.with_it o.more o.and_it in
    record {
      before = b.value;
      up_to = b.reaches;
      within = few spent (cost b.value) (cost o.before) most b.same_cost o.within;
      token = o.token;
      more = o.more;
      next = o.next;
      with_it = w.value;
      and_it = w.reaches;
      too_much = many spent (cost w.value) (cost o.with_it) most w.same_cost o.too_much;
    }
  where
    few : (a b c m : ℕ) → b ≡ c → a + c ≤ m → a + b ≤ m
    few a b c m i l = omega (arith, i, l)

    many : (a b c m : ℕ) → b ≡ c → m < a + c → m < a + b
    many a b c m i l = omega (arith, i, l)

abbrev compared_tail : Left → Built Expr
compared_tail left = tails.continued (([], []), 0) (Some (λ left. t.comparison (symbol 61) number_one left)) [] [] left

-- = 1
expr_tail_spelled : (of_factored None expr_tail).spells (symbol 61 ∷ fill_value.by.filling) compared_tail
expr_tail_spelled =
    (left_factored_includes None (ref expr_tail)).spells (symbol 61 ∷ fill_value.by.filling) compared_tail ((from_rule kind_of rules None expr_tail).spells (symbol 61 ∷ fill_value.by.filling) compared_tail (
      ((([], []), 0), (Some (λ left. t.comparison (symbol 61) number_one left), ([], []))),
      (
        [],
        symbol 61 ∷ fill_value.by.filling,
        refl,
        (([], [], refl, refl, refl), refl),
        (symbol 61 ∷ fill_value.by.filling, [], sym (append-nil (symbol 61 ∷ fill_value.by.filling)), inl ((λ left. t.comparison (symbol 61) number_one left), rest_spelled, refl), ([], [], refl, refl, refl)),
      ),
      refl,
    ))
  where
    rest_spelled : (G None rest).spells (symbol 61 ∷ fill_value.by.filling) (λ left. t.comparison (symbol 61) number_one left)
    rest_spelled = (from_rule kind_of rules None rest).spells (symbol 61 ∷ fill_value.by.filling) (λ left. t.comparison (symbol 61) number_one left)
        (inl ((symbol 61, number_one), (symbol 61 ∷ [], fill_value.by.filling, refl, (refl, refl), fill_value.by.spelled), refl))

pub expr_tail_reaches : (left : Left) (here : List Lexeme) (v : Left → Built Expr) (beyond : List Lexeme) → Reaches copies_nothing (of_factored None expr_tail) here v beyond
    → SomeTail (of_factored None expr_tail) (λ f. (f left).copies) here beyond (v left).copies
expr_tail_reaches left here v beyond r =
    some_tail (of_factored None expr_tail) (λ f. (f left).copies) here beyond v compared_tail (symbol 61) fill_value.by.filling fill_value.by.are_chosen expr_tail_spelled
    (λ p. sym (to_zero left.0.copies) ∙ sym (still_texts left_factored copies_nothing any SameRead StillRead LooseRead still_rule loose_rule same_rule expr_tail [] v refl p left)) r

pub expr_tail_some : (left : Left) (most spent : ℕ) (here beyond : List Lexeme) → Overspends copies_nothing (of_factored None expr_tail) (λ f. (f left).copies) most spent here beyond
    → Overspends copies_nothing (nonempty_language (of_factored None expr_tail)) (λ f. (f left).copies) most spent here beyond
expr_tail_some left most spent here beyond o = overspends_some (of_factored None expr_tail) (λ f. (f left).copies) most spent here beyond (expr_tail_reaches left here) o

abbrev union_tail : Built Query → Built Query
union_tail q = tails.combined [] (((Union, 0), select_one) ∷ []) q

-- UNION SELECT 1 FROM a
set_tail_spelled : (of_factored None set_tail).spells (word (codes "union") ∷ fill_part.by.filling) union_tail
set_tail_spelled =
    (left_factored_includes None (ref set_tail)).spells (word (codes "union") ∷ fill_part.by.filling) union_tail ((from_rule kind_of rules None set_tail).spells (word (codes "union") ∷ fill_part.by.filling) union_tail (
      ([], ((Union, 0), select_one) ∷ []),
      (
        [],
        word (codes "union") ∷ fill_part.by.filling,
        refl,
        refl,
        (
          word (codes "union") ∷ fill_part.by.filling,
          [],
          sym (append-nil (word (codes "union") ∷ fill_part.by.filling)),
          (word (codes "union") ∷ [], fill_part.by.filling, refl, inl ((word (codes "union"), None), (word (codes "union") ∷ [], [], refl, (refl, refl), inr (tt, refl, refl)), refl), fill_part.by.spelled),
          refl,
        ),
      ),
      refl,
    ))

pub set_tail_reaches : (q : Built Query) (here : List Lexeme) (v : Built Query → Built Query) (beyond : List Lexeme) → Reaches copies_nothing (of_factored None set_tail) here v beyond
    → SomeTail (of_factored None set_tail) (λ f. (f q).copies) here beyond (v q).copies
set_tail_reaches q here v beyond r =
    some_tail (of_factored None set_tail) (λ f. (f q).copies) here beyond v union_tail (word (codes "union")) fill_part.by.filling fill_part.by.are_chosen set_tail_spelled
    (λ p. sym (to_zero q.copies) ∙ sym (still_texts left_factored copies_nothing any SameRead StillRead LooseRead still_rule loose_rule same_rule set_tail [] v refl p q)) r

pub set_tail_some : (q : Built Query) (most spent : ℕ) (here beyond : List Lexeme) → Overspends copies_nothing (of_factored None set_tail) (λ f. (f q).copies) most spent here beyond
    → Overspends copies_nothing (nonempty_language (of_factored None set_tail)) (λ f. (f q).copies) most spent here beyond
set_tail_some q most spent here beyond o = overspends_some (of_factored None set_tail) (λ f. (f q).copies) most spent here beyond (set_tail_reaches q here) o
