-- The text of proofs as a grammar over bytes: the lines, terms and values. It reads as the format is published:
--     line        /RUNS DIR RULE ARG ARG, or }, or end; a line of sq_fix ends with {
--     runs        l, r or i alone or with a count of at least 2, no two alike beside each other; a with a number
--     term        0, 1, +(x,y), *(x,y), #(x), !(x), S(x), R3(v,v), =(v,v), P0(v,v)
--     value       b0, f0, c0, F3(v,v), G1(x)
-- One space stands between the parts of a line, and a line feed at its end. A number has 32 bits and no leading zero: while its digits are
-- those of the greatest one this is told, so that a prefix of a number is a prefix at each byte.
use Rattle.std.specs.Prelude.{ℕ, zero, suc, ◌+◌, ◌*◌, ◌==◌, ◌&&◌, ◌||◌, nat_lt, Bool, true, false, List, [], ◌∷◌, Option, Some, None, fold, codes}
use Rattle.u_terms.specs.declared.term.U.{U}
use Rattle.u_terms.specs.declared.term.Val.{Val}
use Rattle.u_terms.specs.declared.term.U.TheVariants as u
use Rattle.u_terms.specs.declared.term.Val.TheVariants as v
use Rattle.u_rules.specs.declared.rule.Rule.{Rule}
use Rattle.u_rules.specs.declared.rule.Arg.{Arg}
use Rattle.u_rules.specs.declared.rule.Arg.TheVariants as arg
use Rattle.u_deriv.specs.declared.run.Run.{Run}
use Rattle.u_deriv.specs.declared.run.Run.TheVariants as run
use Rattle.u_deriv.specs.declared.step.Step.{Step, roll-Step}
use Rattle.grammar.specs.Form.{Form, Rules, empty, token, seq, alt, nest, map, ref}
use Rattle.grammar.specs.Productions.{skip_then, then_skip, optional, separated}
use Rattle.grammar.specs.Lookahead.{Lookahead, no_kind}
use Rattle.proof_text.specs.declared.kinds.Kind.{Kind}
use Rattle.proof_text.specs.declared.kinds.Kind.TheVariants as kind
use Rattle.proof_text.specs.declared.path.Last.{Last}
use Rattle.proof_text.specs.declared.path.Last.TheVariants as last
use Rattle.proof_text.specs.declared.line.LineStep.{LineStep}
use Rattle.proof_text.specs.declared.line.LineStep.TheVariants.{Whole, Opens, Closes, Ends}
use Rattle.proof_text.specs.Signs.{Sign, code, sign}
use Rattle.proof_text.specs.Signs as s
use Rattle.proof_text.specs.RuleNames.{Names, found, word, either, names, kinds_of, has_inner}

-- how many digits of the greatest number were read
pub data Place : Type 0 where
  Behind1 : Place
  Behind2 : Place
  Behind3 : Place
  Behind4 : Place
  Behind5 : Place
  Behind6 : Place
  Behind7 : Place
  Behind8 : Place
  Behind9 : Place
  Behind10 : Place

pub data Name : Type 0 where
  term : Name
  value : Name
  arguments : Name
  number : Name
  -- so many digits more, or fewer
  upto : ℕ → Name
  -- digits behind the first so many of the greatest number
  greatest : Place → Name
  -- a number of at least 2
  count : Name
  -- the runs of a path, behind one of this kind
  runs : Last → Name
  -- a rule, its arguments, and the end of the line
  use_of_rule : Name
  line : Name

abbrev pub Tree : Name → Type 0
Tree term = U
Tree value = Val
Tree arguments = List Val
Tree number = ℕ
Tree (upto n) = List ℕ
Tree (greatest n) = List ℕ
Tree count = ℕ
Tree (runs l) = List Run
Tree use_of_rule = Rule × List Arg
Tree line = LineStep

abbrev pub F : Type 0 → Type 1
F A = Form ℕ Sign Name Tree A

-- ---- single bytes
abbrev pub of_code : ℕ → F ℕ
of_code c = token (λ k. code k == c)

abbrev pub the : Sign → F ℕ
the k = of_code (code k)

-- these bytes, and then the form
abbrev pub spelled : {A : Type 0} → List ℕ → F A → F A
spelled [] f = f
spelled (byte ∷ bytes) f = skip_then (the (sign byte)) (spelled bytes f)

abbrev pub line_feed : F ℕ
line_feed = the s.Newline

-- ---- numbers
abbrev pub below : ℕ → F ℕ
below c = token (λ k. nat_lt (code k) c)

abbrev pub above : ℕ → F ℕ
above c = token (λ k. nat_lt c (code k) && nat_lt (code k) 10)

-- a digit between the two
abbrev pub between : ℕ → ℕ → F ℕ
between c d = token (λ k. nat_lt c (code k) && nat_lt (code k) d)

abbrev pub no_digits : F (List ℕ)
no_digits = map (λ e. []) empty

-- a digit, and then these
abbrev pub digit_then : F ℕ → F (List ℕ) → F (List ℕ)
digit_then digit rest = map (λ p. p.0 ∷ p.1) (seq digit rest)

-- The next digit of the greatest number, which goes on with n. With a lower one any few digits follow, with a higher one fewer.
abbrev pub beside : ℕ → ℕ → Place → F (List ℕ)
beside d few n =
    alt (digit_then (below d) (ref (upto (suc few)))) (alt (digit_then (of_code d) (ref (greatest n))) (digit_then (above d) (ref (upto few))))

abbrev pub value_of : List ℕ → ℕ
value_of = fold (λ m byte. 10 * m + code (sign byte)) 0

-- a number of two digits or more that begins with 1 to 3, one that begins with 4, and with 5 to 9
abbrev pub from_four : F (List ℕ)
from_four = alt (digit_then (of_code 4) (ref (greatest Behind1))) (digit_then (above 4) (ref (upto 8)))

-- ---- terms and values
-- ( .. )
abbrev pub within : {A : Type 0} → F A → F A
within f = skip_then (the s.Open) (then_skip f (the s.Close))

abbrev pub pair : {A : Type 0} → F A → F (A × A)
pair f = within (seq f (skip_then (the s.Comma) f))

abbrev pub or_none : Option (Val × List Val) → List Val
or_none None = []
or_none (Some p) = p.0 ∷ p.1

abbrev pub term_form : F U
term_form =
    alt (map (λ t. u.Zero) (the s.Digit0)) (
    alt (map (λ t. u.One) (the s.Digit1)) (
    alt (map (λ p. u.Add p.0 p.1) (skip_then (the s.Plus) (pair (ref term)))) (
    alt (map (λ p. u.Mul p.0 p.1) (skip_then (the s.Star) (pair (ref term)))) (
    alt (map (λ a. u.Squash a) (skip_then (the s.Hash) (within (ref term)))) (
    alt (map (λ a. u.Not a) (skip_then (the s.Bang) (within (ref term)))) (
    alt (map (λ a. u.Sum a) (skip_then (the s.UpperS) (within (ref term)))) (
    alt (map (λ p. u.Rel p.0 p.1) (skip_then (the s.UpperR) (seq (ref number) (ref arguments)))) (
    alt (map (λ p. u.Eq p.0 p.1) (skip_then (the s.Equals) (pair (ref value))))
    (map (λ p. u.Pred p.0 p.1) (skip_then (the s.UpperP) (seq (ref number) (ref arguments))))))))))))

abbrev pub value_form : F Val
value_form =
    alt (map (λ i. v.Bound i) (skip_then (the s.SmallB) (ref number))) (
    alt (map (λ i. v.Free i) (skip_then (the s.SmallF) (ref number))) (
    alt (map (λ i. v.Lit i) (skip_then (the s.SmallC) (ref number))) (
    alt (map (λ p. v.Fun p.0 p.1) (skip_then (the s.UpperF) (seq (ref number) (ref arguments))))
    (map (λ p. v.Agg p.0 p.1) (skip_then (the s.UpperG) (seq (ref number) (within (ref term))))))))

-- ---- paths
-- a letter alone, or with its count
abbrev pub counted_run : Sign → (ℕ → Run) → F Run
counted_run letter made = skip_then (the letter) (alt (map made (ref count)) (map (λ e. made 1) empty))

abbrev pub run_then : F Run → Last → F (List Run)
run_then first last = map (λ p. p.0 ∷ p.1) (seq first (ref (runs last)))

abbrev pub lefts : F (List Run)
lefts = run_then (counted_run s.SmallL run.Left) last.Left

abbrev pub rights : F (List Run)
rights = run_then (counted_run s.SmallR run.Right) last.Right

abbrev pub insides : F (List Run)
insides = run_then (counted_run s.SmallI run.Inside) last.Inside

abbrev pub an_argument : F (List Run)
an_argument = run_then (skip_then (the s.SmallA) (map run.Argument (ref number))) last.Other

abbrev pub no_run : F (List Run)
no_run = map (λ e. []) empty

-- ---- rules and their arguments
abbrev pub argument_form : Kind → F Arg
argument_form kind.Term = map (λ x. arg.Term x) (ref term)
argument_form kind.Body = map (λ x. arg.Body x) (ref term)
argument_form kind.Value = map (λ a. arg.Value a) (ref value)
argument_form kind.Values = map (λ a. arg.Values a) (ref arguments)
argument_form kind.Num = map (λ n. arg.Num n) (ref number)

-- each behind a space, and then this
abbrev pub arguments_then : {A : Type 0} → List Kind → F A → F (List Arg × A)
arguments_then [] f = map (λ v. ([], v)) f
arguments_then (k ∷ ks) f = map (λ p. (p.0 ∷ p.1.0, p.1.1)) (skip_then (the s.Space) (seq (argument_form k) (arguments_then ks f)))

abbrev pub end_of_line : Bool → F ℕ
end_of_line true = spelled (codes " {") line_feed
end_of_line false = line_feed

abbrev pub of_rule : Rule → F (Rule × List Arg)
of_rule q = map (λ p. (q, p.0)) (arguments_then (kinds_of q) (end_of_line (has_inner q)))

abbrev pub named : Names → F (Rule × List Arg)
named (found q) = of_rule q
named (word bytes more) = spelled bytes (named more)
named (either letter first others) = alt (skip_then (the letter) (named first)) (named others)

-- ---- lines
abbrev pub direction : F Bool
direction = alt (map (λ t. true) (the s.Forward)) (map (λ t. false) (the s.Backward))

abbrev pub with_inner : Bool → Step → LineStep
with_inner true step = Opens step
with_inner false step = Whole step

-- the step of a line, with no inner steps so far
abbrev pub made : List Run → Bool → Rule → List Arg → LineStep
made path forward q args =
    with_inner (has_inner q) (roll-Step (record { path = path; forward = forward; rule = q; args = args; inner = [] }))

abbrev pub step_line : F LineStep
step_line =
    map (λ p. made p.0 p.1.0 p.1.1.0 p.1.1.1) (skip_then (the s.Slash) (seq (ref (runs last.Other)) (
    skip_then (the s.Space) (seq direction (skip_then (the s.Space) (ref use_of_rule))))))

abbrev pub rules : Rules ℕ Sign Name Tree
rules term = nest term_form
rules value = nest value_form
rules arguments = map or_none (within (optional (separated None (the s.Comma) (ref value))))
rules number = map value_of (alt (map (λ t. t ∷ []) (of_code 0)) (alt (digit_then (between 0 4) (ref (upto 9))) from_four))
rules (upto zero) = no_digits
rules (upto (suc n)) = alt (digit_then (below 10) (ref (upto n))) no_digits
rules (greatest Behind1) = alt (beside 2 7 Behind2) no_digits
rules (greatest Behind2) = alt (beside 9 6 Behind3) no_digits
rules (greatest Behind3) = alt (beside 4 5 Behind4) no_digits
rules (greatest Behind4) = alt (beside 9 4 Behind5) no_digits
rules (greatest Behind5) = alt (beside 6 3 Behind6) no_digits
rules (greatest Behind6) = alt (beside 7 2 Behind7) no_digits
rules (greatest Behind7) = alt (beside 2 1 Behind8) no_digits
rules (greatest Behind8) = alt (beside 9 0 Behind9) no_digits
rules (greatest Behind9) = alt (alt (digit_then (below 5) (ref (upto 0))) (digit_then (of_code 5) (ref (greatest Behind10)))) no_digits
rules (greatest Behind10) = no_digits
rules count =
    map value_of (alt (digit_then (of_code 1) (digit_then (below 10) (ref (upto 8)))) (alt (digit_then (between 1 4) (ref (upto 9))) from_four))
rules (runs last.Other) = alt lefts (alt rights (alt insides (alt an_argument no_run)))
rules (runs last.Left) = alt rights (alt insides (alt an_argument no_run))
rules (runs last.Right) = alt lefts (alt insides (alt an_argument no_run))
rules (runs last.Inside) = alt lefts (alt rights (alt an_argument no_run))
rules use_of_rule = named names
rules line =
    alt step_line (alt (map (λ t. Closes) (skip_then (the s.CloseBrace) line_feed)) (map (λ t. Ends) (spelled (codes "end") line_feed)))

-- ---- what one byte tells
abbrev pub is_digit : Sign → Bool
is_digit k = nat_lt (code k) 10

abbrev pub begins_term : Sign → Bool
begins_term k = nat_lt (code k) 2 || (nat_lt 9 (code k) && nat_lt (code k) 18)

abbrev pub begins_value : Sign → Bool
begins_value k = (code k == 32) || (code k == 36) || (code k == 33) || (code k == 18) || (code k == 19)

abbrev pub is_the : Sign → Sign → Bool
is_the l k = code k == code l

abbrev pub begins_run : Sign → Bool
begins_run k = is_the s.SmallL k || is_the s.SmallR k || is_the s.SmallI k || is_the s.SmallA k

abbrev pub begins_name : Sign → Bool
begins_name k = is_the s.SmallA k || is_the s.SmallM k || is_the s.SmallD k || is_the s.SmallS k || is_the s.SmallN k || is_the s.SmallE k || is_the s.SmallK k || is_the s.SmallF k

abbrev pub table : Name → Lookahead Sign
table term = record { nullable = false; first = begins_term; last = no_kind }
table value = record { nullable = false; first = begins_value; last = is_digit }
table arguments = record { nullable = false; first = is_the s.Open; last = no_kind }
table number = record { nullable = false; first = is_digit; last = is_digit }
table (upto n) = record { nullable = true; first = is_digit; last = is_digit }
table (greatest n) = record { nullable = true; first = is_digit; last = is_digit }
table count = record { nullable = false; first = (λ k. nat_lt 0 (code k) && is_digit k); last = is_digit }
table (runs l) = record { nullable = true; first = begins_run; last = (λ k. is_digit k || begins_run k) }
table use_of_rule = record { nullable = false; first = begins_name; last = no_kind }
table line = record { nullable = false; first = (λ k. is_the s.Slash k || is_the s.CloseBrace k || is_the s.SmallE k); last = no_kind }
