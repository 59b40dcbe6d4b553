-- What tests copy besides the value before them.
use Rattle.std.proofs.Common.{◌≡◌, ℕ, suc, ◌+◌, ◌*◌, true, List, [], ◌∷◌, length, ◌∙◌, ap, Option, arith}
use Rattle.sql_lex.specs.Lexemes.{Lexeme}
use Rattle.sql_model.specs.declared.tree.Expr.{Expr}
use Rattle.sql_grammar.specs.Kinds as k
use Rattle.sql_grammar.specs.Kinds.{kind_of, among}
use Rattle.sql_grammar.specs.Numbering.{Built, each}
use Rattle.sql_grammar.specs.QueryTrees as t
use Rattle.sql_grammar.specs.QueryTrees.{Left, weight}
use Rattle.sql_grammar.specs.QueryCopies.{copies_nothing}
use Rattle.grammar.proofs.languages.Sets.{not_both, or_left, or_right}

-- ---- the tokens that copy

pub between_copies : (w : Lexeme) → copies_nothing w ≡ true → k.same k.Between (kind_of w) ≡ true → ⊥
between_copies w c i = not_both (among (k.Between ∷ k.Comma ∷ []) (kind_of w)) c (or_left _ _ i)

pub comma_copies : (w : Lexeme) → copies_nothing w ≡ true → k.same k.Comma (kind_of w) ≡ true → ⊥
comma_copies w c i = not_both (among (k.Between ∷ k.Comma ∷ []) (kind_of w)) c (or_right _ _ (or_left _ _ i))

-- ---- comparisons and BETWEEN

pub compared_adds : (u : Lexeme × Built Expr) (left : Left) → (t.comparison u.0 u.1 left).copies ≡ left.0.copies + (0 + u.1.copies)
compared_adds u left = omega arith

pub bounds_add : (word : Option Lexeme) (v : Built Expr × Built Expr) (left : Left) → (t.between word v.0 v.1 left).copies ≡ left.0.copies + (weight left + (v.0.copies + v.1.copies))
bounds_add word v left = sum left.0.copies v.0.copies v.1.copies (weight left)
  where
    sum : (x low high w : ℕ) → (x + (low + high)) + w ≡ x + (w + (low + high))
    sum x low high w = omega arith

-- ---- the lists of IN

-- members behind commas
abbrev pub behind_commas : List (Built Expr) → Left → ℕ
behind_commas members left = length members * weight left + (each members).copies

pub no_members : (vs : List (Built Expr)) (left : Left) → vs ≡ [] → behind_commas vs left ≡ 0
no_members vs left i = ap (λ z. behind_commas z left) i ∙ none (weight left)
  where
    none : (w : ℕ) → 0 * w + 0 ≡ 0
    none w = omega arith

-- what is behind the first comma, with more behind that
pub one_more_comma : (v : Built Expr) (vs : List (Built Expr)) (left : Left) → behind_commas (v ∷ vs) left ≡ (weight left + v.copies) + behind_commas vs left
one_more_comma v vs left = sum (length vs) (weight left) v.copies (each vs).copies
  where
    sum : (n w c d : ℕ) → suc n * w + (c + d) ≡ (w + c) + (n * w + d)
    sum n w c d = omega arith

-- what a whole list copies
abbrev pub list_copies : Built Expr × List (Built Expr) → Left → ℕ
list_copies m left = m.0.copies + behind_commas m.1 left

pub list_adds : (word : Option Lexeme) (m : Built Expr × List (Built Expr)) (left : Left) → (t.in_list word m left).copies ≡ left.0.copies + list_copies m left
list_adds word m left = sum left.0.copies m.0.copies (each m.1).copies (length m.1 * weight left)
  where
    sum : (x first others w : ℕ) → (x + (first + others)) + w ≡ x + (first + (w + others))
    sum x first others w = omega arith
