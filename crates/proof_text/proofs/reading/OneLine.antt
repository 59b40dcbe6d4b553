-- One byte tells how a text goes on, so no text spells two lines.
use Rattle.std.proofs.Common.{◌≡◌, ℕ, zero, suc, Bool, true, List, [], ◌∷◌, refl}
use Rattle.std.specs.Prelude.{None}
use Rattle.std.specs.List.{list_all}
use Rattle.grammar.proofs.languages.Sets.{and_left, and_right}
use Rattle.grammar.proofs.readers.Predictions.{named}
use Rattle.grammar.specs.Lookahead.{AreAll, PredictiveGrammar, is_right, unlimited}
use Rattle.grammar.specs.Language.{IsUnambiguous}
use Rattle.proof_text.specs.Signs as s
use Rattle.proof_text.specs.Signs.{Sign, code, sign, signs}
use Rattle.proof_text.specs.declared.path.Last.TheVariants as last
use Rattle.proof_text.specs.RuleNames.{names, mul_names, squash_names, sum_names, not_names, eq_names, s_names}
use Rattle.proof_text.specs.Grammar.{Behind1, Behind2, Behind3, Behind4, Behind5, Behind6, Behind7, Behind8, Behind9, Behind10, Name, term, value, arguments, number, upto, greatest, count, runs, use_of_rule, line, Tree, rules, table}

-- the tests of the signs after the first n
abbrev after : (Sign → Bool) → ℕ → List Sign → Bool
after p zero ks = list_all p ks
after p (suc n) [] = true
after p (suc n) (x ∷ ks) = after p n ks

passed : (p : Sign → Bool) (n : ℕ) (ks : List Sign) → list_all p ks ≡ true → after p n ks ≡ true
passed p zero ks e = e
passed p (suc n) [] e = refl
passed p (suc n) (x ∷ ks) e = passed p n ks (and_right (p x) (list_all p ks) e)

pub every : AreAll signs
every p e s.Digit0 = and_left (p s.Digit0) (after p 1 signs) (passed p 0 signs e)
every p e s.Digit1 = and_left (p s.Digit1) (after p 2 signs) (passed p 1 signs e)
every p e s.Digit2 = and_left (p s.Digit2) (after p 3 signs) (passed p 2 signs e)
every p e s.Digit3 = and_left (p s.Digit3) (after p 4 signs) (passed p 3 signs e)
every p e s.Digit4 = and_left (p s.Digit4) (after p 5 signs) (passed p 4 signs e)
every p e s.Digit5 = and_left (p s.Digit5) (after p 6 signs) (passed p 5 signs e)
every p e s.Digit6 = and_left (p s.Digit6) (after p 7 signs) (passed p 6 signs e)
every p e s.Digit7 = and_left (p s.Digit7) (after p 8 signs) (passed p 7 signs e)
every p e s.Digit8 = and_left (p s.Digit8) (after p 9 signs) (passed p 8 signs e)
every p e s.Digit9 = and_left (p s.Digit9) (after p 10 signs) (passed p 9 signs e)
every p e s.Plus = and_left (p s.Plus) (after p 11 signs) (passed p 10 signs e)
every p e s.Star = and_left (p s.Star) (after p 12 signs) (passed p 11 signs e)
every p e s.Hash = and_left (p s.Hash) (after p 13 signs) (passed p 12 signs e)
every p e s.Bang = and_left (p s.Bang) (after p 14 signs) (passed p 13 signs e)
every p e s.UpperS = and_left (p s.UpperS) (after p 15 signs) (passed p 14 signs e)
every p e s.UpperR = and_left (p s.UpperR) (after p 16 signs) (passed p 15 signs e)
every p e s.Equals = and_left (p s.Equals) (after p 17 signs) (passed p 16 signs e)
every p e s.UpperP = and_left (p s.UpperP) (after p 18 signs) (passed p 17 signs e)
every p e s.UpperF = and_left (p s.UpperF) (after p 19 signs) (passed p 18 signs e)
every p e s.UpperG = and_left (p s.UpperG) (after p 20 signs) (passed p 19 signs e)
every p e s.Open = and_left (p s.Open) (after p 21 signs) (passed p 20 signs e)
every p e s.Close = and_left (p s.Close) (after p 22 signs) (passed p 21 signs e)
every p e s.Comma = and_left (p s.Comma) (after p 23 signs) (passed p 22 signs e)
every p e s.Space = and_left (p s.Space) (after p 24 signs) (passed p 23 signs e)
every p e s.Newline = and_left (p s.Newline) (after p 25 signs) (passed p 24 signs e)
every p e s.Slash = and_left (p s.Slash) (after p 26 signs) (passed p 25 signs e)
every p e s.Forward = and_left (p s.Forward) (after p 27 signs) (passed p 26 signs e)
every p e s.Backward = and_left (p s.Backward) (after p 28 signs) (passed p 27 signs e)
every p e s.OpenBrace = and_left (p s.OpenBrace) (after p 29 signs) (passed p 28 signs e)
every p e s.CloseBrace = and_left (p s.CloseBrace) (after p 30 signs) (passed p 29 signs e)
every p e s.Low = and_left (p s.Low) (after p 31 signs) (passed p 30 signs e)
every p e s.SmallA = and_left (p s.SmallA) (after p 32 signs) (passed p 31 signs e)
every p e s.SmallB = and_left (p s.SmallB) (after p 33 signs) (passed p 32 signs e)
every p e s.SmallC = and_left (p s.SmallC) (after p 34 signs) (passed p 33 signs e)
every p e s.SmallD = and_left (p s.SmallD) (after p 35 signs) (passed p 34 signs e)
every p e s.SmallE = and_left (p s.SmallE) (after p 36 signs) (passed p 35 signs e)
every p e s.SmallF = and_left (p s.SmallF) (after p 37 signs) (passed p 36 signs e)
every p e s.SmallI = and_left (p s.SmallI) (after p 38 signs) (passed p 37 signs e)
every p e s.SmallK = and_left (p s.SmallK) (after p 39 signs) (passed p 38 signs e)
every p e s.SmallL = and_left (p s.SmallL) (after p 40 signs) (passed p 39 signs e)
every p e s.SmallM = and_left (p s.SmallM) (after p 41 signs) (passed p 40 signs e)
every p e s.SmallN = and_left (p s.SmallN) (after p 42 signs) (passed p 41 signs e)
every p e s.SmallO = and_left (p s.SmallO) (after p 43 signs) (passed p 42 signs e)
every p e s.SmallP = and_left (p s.SmallP) (after p 44 signs) (passed p 43 signs e)
every p e s.SmallQ = and_left (p s.SmallQ) (after p 45 signs) (passed p 44 signs e)
every p e s.SmallR = and_left (p s.SmallR) (after p 46 signs) (passed p 45 signs e)
every p e s.SmallS = and_left (p s.SmallS) (after p 47 signs) (passed p 46 signs e)
every p e s.SmallT = and_left (p s.SmallT) (after p 48 signs) (passed p 47 signs e)
every p e s.SmallU = and_left (p s.SmallU) (after p 49 signs) (passed p 48 signs e)
every p e s.SmallW = and_left (p s.SmallW) (after p 50 signs) (passed p 49 signs e)
every p e s.SmallX = and_left (p s.SmallX) (after p 51 signs) (passed p 50 signs e)
every p e s.SmallY = and_left (p s.SmallY) (after p 52 signs) (passed p 51 signs e)
every p e s.SmallZ = and_left (p s.SmallZ) (after p 53 signs) (passed p 52 signs e)
every p e s.Other = and_left (p s.Other) (after p 54 signs) (passed p 53 signs e)
every p e s.End = and_left (p s.End) (after p 55 signs) (passed p 54 signs e)

pub right : (n : Name) → is_right signs table rules n ≡ true
unfolding names mul_names squash_names sum_names not_names eq_names s_names
right term = refl
right value = refl
right arguments = refl
right number = refl
right (upto zero) = refl
right (upto (suc n)) = refl
right (greatest Behind1) = refl
right (greatest Behind2) = refl
right (greatest Behind3) = refl
right (greatest Behind4) = refl
right (greatest Behind5) = refl
right (greatest Behind6) = refl
right (greatest Behind7) = refl
right (greatest Behind8) = refl
right (greatest Behind9) = refl
right (greatest Behind10) = refl
right count = refl
right (runs last.Other) = refl
right (runs last.Left) = refl
right (runs last.Right) = refl
right (runs last.Inside) = refl
right use_of_rule = refl
right line = refl

abbrev pub grammar : PredictiveGrammar ℕ Sign Name Tree
grammar = record { kind = sign; kinds = signs; every = every; rules = rules; table = table; right = right }

-- no text spells two lines
pub one_line : IsUnambiguous (unlimited grammar line)
one_line = (named grammar None line).unique
