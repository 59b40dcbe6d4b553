-- What operators, tests and tails make is no subquery.
use Rattle.std.proofs.Common.{◌≡◌, true, false, not, List, [], ◌∷◌, refl, Option, Some, None, ℕ, ap}
use Rattle.sql_lex.specs.Lexemes.{Lexeme}
use Rattle.sql_model.specs.declared.tree.Expr.{Expr}
use Rattle.sql_model.specs.declared.tree.Expr.TheVariants as expr
use Rattle.sql_model.specs.declared.tree.Query.{Query}
use Rattle.sql_model.specs.Compute.{everything}
use Rattle.sql_grammar.specs.Kinds as k
use Rattle.sql_grammar.specs.Kinds.{Kind, kind_of}
use Rattle.sql_grammar.specs.Numbering.{Built, mapped, both}
use Rattle.sql_grammar.specs.QueryTrees as t
use Rattle.sql_grammar.specs.QueryTailTrees as tails
use Rattle.sql_grammar.specs.QueryTrees.{Left, not_sub, is_sub}

compared_is : (kind : Kind) (x y : Expr) → is_sub (t.compared kind x y) ≡ false
unfolding everything
compared_is k.Equals x y = refl
compared_is other x y = refl

abbrev step : Built Expr → Lexeme × Built Expr → Built Expr
step x p = mapped (λ q. expr.Fun (t.operator (kind_of p.0)) (q.0 ∷ q.1 ∷ []) (t.place_of q.0)) (both x p.1)

pub operated_is : (ps : List (Lexeme × Built Expr)) (x : Built Expr) → not_sub x ≡ true → not_sub (t.operated x ps) ≡ true
unfolding everything
operated_is [] x n = n
operated_is (p ∷ ps) x n = operated_is ps (step x p) refl

pub operated_more : (x : Built Expr) (p : Lexeme × Built Expr) (ps : List (Lexeme × Built Expr)) → not_sub (t.operated x (p ∷ ps)) ≡ true
unfolding everything
operated_more x p ps = operated_is ps (step x p) refl

pub and_is : (x : Built Expr) (others : List (Built Expr)) → not_sub x ≡ true → not_sub (t.chained t.and_node (x, others)) ≡ true
unfolding everything
and_is x [] n = n
and_is x (y ∷ ys) n = refl

pub or_is : (x : Built Expr) (others : List (Built Expr)) → not_sub x ≡ true → not_sub (t.chained t.or_node (x, others)) ≡ true
unfolding everything
or_is x [] n = n
or_is x (y ∷ ys) n = refl

-- a test never makes a subquery
abbrev pub MakesNone : (Left → Built Expr) → Type 0
MakesNone f = (left : Left) → not_sub (f left) ≡ true

pub comparison_makes : (sign : Lexeme) (x : Built Expr) → MakesNone (λ left. t.comparison sign x left)
unfolding everything
comparison_makes sign x left = ap (λ b. not b) (compared_is (kind_of sign) _ _)

pub in_query_makes : (word : Option Lexeme) (w : Lexeme) (q : Built Query) → MakesNone (λ left. t.in_query word w q left)
unfolding everything
in_query_makes None w q left = refl
in_query_makes (Some word) w q left = refl

pub in_list_makes : (word : Option Lexeme) (members : Built Expr × List (Built Expr)) → MakesNone (λ left. t.in_list word members left)
unfolding everything
in_list_makes None (y, []) left = refl
in_list_makes (Some word) (y, []) left = refl
in_list_makes None (y, z ∷ zs) left = refl
in_list_makes (Some word) (y, z ∷ zs) left = refl

pub between_makes : (word : Option Lexeme) (low high : Built Expr) → MakesNone (λ left. t.between word low high left)
unfolding everything
between_makes None low high left = refl
between_makes (Some word) low high left = refl

pub like_makes : (word : Option Lexeme) (x : Built Expr) → MakesNone (λ left. t.like word x left)
unfolding everything
like_makes None x left = refl
like_makes (Some word) x left = refl

abbrev pub MayMakeNone : Option (Left → Built Expr) → Type 0
MayMakeNone None = Unit {0}
MayMakeNone (Some f) = MakesNone f

tested_is : (rest : Option (Left → Built Expr)) → MayMakeNone rest → (left : Left) → not_sub left.0 ≡ true → not_sub (t.tested left rest) ≡ true
tested_is None m left n = n
tested_is (Some f) m left n = m left

-- what follows keeps a first part from being a subquery
pub continued_is : (operators : (List (Lexeme × Built Expr) × List (Lexeme × Built Expr)) × ℕ) (rest : Option (Left → Built Expr)) (ands ors : List (Built Expr)) → MayMakeNone rest
    → (left : Left) → not_sub left.0 ≡ true → not_sub (tails.continued operators rest ands ors left) ≡ true
continued_is operators rest ands ors m left n =
    or_is _ ors (and_is _ ands (tested_is rest m _ (operated_is operators.0.1 _ (operated_is operators.0.0 left.0 n))))

pub joined_is : (ands ors : List (Built Expr)) (x : Built Expr) → not_sub x ≡ true → not_sub (tails.joined ands ors x) ≡ true
joined_is ands ors x n = or_is _ ors (and_is x ands n)

-- and makes none where there is something
pub data Something (operators : (List (Lexeme × Built Expr) × List (Lexeme × Built Expr)) × ℕ) (rest : Option (Left → Built Expr)) (ands ors : List (Built Expr)) : Type 0 where
  nothing : operators.0.0 ≡ [] → operators.0.1 ≡ [] → rest ≡ None → ands ≡ [] → ors ≡ [] → Something operators rest ands ors
  something : ((left : Left) → not_sub (tails.continued operators rest ands ors left) ≡ true) → Something operators rest ands ors

pub something_or_not : (operators : (List (Lexeme × Built Expr) × List (Lexeme × Built Expr)) × ℕ) (rest : Option (Left → Built Expr)) (ands ors : List (Built Expr)) → MayMakeNone rest
    → Something operators rest ands ors
unfolding everything
something_or_not operators rest ands (o ∷ ors) m = something (λ left. refl)
something_or_not operators rest (a ∷ ands) [] m = something (λ left. refl)
something_or_not operators (Some f) [] [] m = something (λ left. m _)
something_or_not ((ps, s ∷ ss), n) None [] [] m = something (λ left. operated_more _ s ss)
something_or_not ((p ∷ ps, []), n) None [] [] m = something (λ left. operated_more _ p ps)
something_or_not (([], []), n) None [] [] m = nothing refl refl refl refl refl
