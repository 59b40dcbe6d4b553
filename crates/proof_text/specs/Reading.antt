-- How the readers go on, from the left: what is read, and where they stop.
use Rattle.std.specs.Prelude.{ℕ, zero, suc, ◌+◌, ◌-◌, ◌*◌, ◌^◌, ◌≡◌, ◌==◌, ◌&&◌, Bool, true, false, nat_lt, if◌then◌else◌, List, [], ◌∷◌, drop, length, codes, Option, Some, None, Result, Ok, Err}
use Rattle.u_terms.specs.declared.term.U.{U}
use Rattle.u_terms.specs.declared.term.Val.{Val}
use Rattle.u_terms.specs.declared.term.U.TheVariants as u
use Rattle.u_terms.specs.declared.term.Val.TheVariants as v
use Rattle.proof_text.specs.Signs.{Sign, code, sign}
use Rattle.proof_text.specs.Signs as s
use Rattle.u_rules.specs.declared.rule.Rule.{Rule}
use Rattle.u_rules.specs.declared.rule.Arg.{Arg}
use Rattle.u_rules.specs.declared.rule.Arg.TheVariants as arg
use Rattle.u_deriv.specs.declared.run.Run.{Run}
use Rattle.u_deriv.specs.declared.run.Run.TheVariants as run
use Rattle.proof_text.specs.declared.kinds.Kind.{Kind}
use Rattle.proof_text.specs.declared.kinds.Kind.TheVariants as kind
use Rattle.proof_text.specs.declared.path.Last.{Last}
use Rattle.proof_text.specs.declared.path.Last.TheVariants as last
use Rattle.proof_text.specs.declared.line.LineStep.{LineStep}
use Rattle.proof_text.specs.declared.line.LineStep.TheVariants.{Closes, Ends}
use Rattle.proof_text.specs.Limits.{most_nodes, most_depth}
use Rattle.proof_text.specs.RuleNames.{Names, found, word, either, names, kinds_of, has_inner}
use Rattle.proof_text.specs.Grammar.{begins_term, begins_value, made}
use Rattle.proof_text.specs.declared.cursor.Stop.{Stop}
use Rattle.proof_text.specs.declared.cursor.Stop.TheVariants.{Unexpected, TooMany, TooDeep, NoMemory}

-- the text that is left, and how many nodes may still come
pub record Rest : Type 0 where
  pub nodes : ℕ
  pub text : List ℕ

-- what was read, or why it stopped, and what is left
abbrev pub Reading : Type 0 → Type 0
Reading A = Result A Stop × Rest

infixl 10 ◌>>=◌
abbrev pub ◌>>=◌ : {A B : Type 0} → Reading A → (A → Rest → Reading B) → Reading B
(Ok x, rest) >>= next = next x rest
(Err stop, rest) >>= next = (Err stop, rest)

-- Code stopped there for this reason, or memory ran out.
abbrev pub Stops : {A : Type 0} → Stop → Rest → Reading A → Type 0
Stops Unexpected rest reading = reading ≡ (Err Unexpected, rest)
Stops TooMany rest reading = reading ≡ (Err TooMany, rest)
Stops TooDeep rest reading = reading ≡ (Err TooDeep, rest)
Stops NoMemory rest reading = Unit {0}

-- Code answered what reading gives, unless memory ran out.
abbrev pub Gives : {A : Type 0} → Result A Stop → Rest → Reading A → Type 0
Gives (Ok x) rest reading = reading ≡ (Ok x, rest)
Gives (Err stop) rest reading = Stops stop rest reading

abbrev pub sign_at : List ℕ → Sign
sign_at [] = s.End
sign_at (byte ∷ text) = sign byte

abbrev pub next : Rest → Sign
next rest = sign_at rest.text

abbrev pub passed : Rest → Rest
passed rest = record rest { text = drop 1 rest.text }

abbrev pub bad : {A : Type 0} → Rest → Reading A
bad rest = (Err Unexpected, rest)

-- this sign
abbrev pub expected : ℕ → Rest → Reading (Unit {0})
expected c rest = if code (next rest) == c then (Ok tt, passed rest) else bad rest

-- ---- numbers
-- whether the digit makes a longer number, of 32 bits
abbrev pub is_longer : ℕ → ℕ → Bool
is_longer m digit = nat_lt digit 10 && nat_lt (10 * m + digit) (2 ^ 32)

-- the number that begins with the digits of m
abbrev pub longest : ℕ → List ℕ → ℕ × List ℕ
longest m [] = (m, [])
longest m (byte ∷ text) = if is_longer m (code (sign byte)) then longest (10 * m + code (sign byte)) text else (m, byte ∷ text)

abbrev pub longest_at : ℕ → Rest → Reading ℕ
longest_at m rest = (Ok (longest m rest.text).0, record rest { text = (longest m rest.text).1 })

unfoldable pub number_at : Rest → Reading ℕ
number_at rest =
    if code (next rest) == 0 then (Ok 0, passed rest) else
    if nat_lt (code (next rest)) 10 then longest_at (code (next rest)) (passed rest) else
    bad rest

-- ---- terms and values
-- a node begins here, with so many levels left
abbrev pub entered : ℕ → Rest → Reading (Unit {0})
entered levels rest =
    if rest.nodes == 0 then (Err TooMany, rest) else
    if levels == 0 then (Err TooDeep, rest) else
    (Ok tt, record { nodes = rest.nodes - 1; text = drop 1 rest.text })

-- ( .. )
abbrev pub within : {A : Type 0} → (Rest → Reading A) → Rest → Reading A
within f rest = expected 20 rest >>= λ o r. f r >>= λ a r. expected 21 r >>= λ c r. (Ok a, r)

-- two with a comma between them
abbrev pub both : {A : Type 0} → (Rest → Reading A) → Rest → Reading (A × A)
both f rest = f rest >>= λ a r. expected 22 r >>= λ m r. f r >>= λ b r. (Ok (a, b), r)

abbrev pub pair_of : {A : Type 0} → (Rest → Reading A) → Rest → Reading (A × A)
pair_of f = within (both f)

-- a value was read: with a comma behind it more are read, and else the closing parenthesis ends them
abbrev pub values_with : (Rest → Reading (List Val)) → Val → Rest → Reading (List Val)
values_with more value rest =
    if code (next rest) == 22 then (more (passed rest) >>= λ others r. (Ok (value ∷ others), r)) else
    (expected 21 rest >>= λ c r. (Ok (value ∷ []), r))

-- values up to the closing parenthesis, of which at most so many can stand there
unfoldable pub values_at : (Rest → Reading Val) → ℕ → Rest → Reading (List Val)
values_at value zero rest = bad rest
values_at value (suc most) rest = value rest >>= values_with (values_at value most)

abbrev pub list_of : (Rest → Reading Val) → Rest → Reading (List Val)
list_of value rest =
    expected 20 rest >>= λ o r. if code (next r) == 21 then (Ok [], passed r) else values_at value (length r.text) r

-- a number and what follows it
abbrev pub numbered : {A B : Type 0} → (Rest → Reading A) → (ℕ → A → B) → Rest → Reading B
numbered f built rest = number_at rest >>= λ n r. f r >>= λ a r. (Ok (built n a), r)

-- the term that begins with this sign, which was passed
abbrev pub term_with : (Rest → Reading U) → (Rest → Reading Val) → Sign → Rest → Reading U
term_with term value s.Digit0 rest = (Ok u.Zero, rest)
term_with term value s.Digit1 rest = (Ok u.One, rest)
term_with term value s.Plus rest = pair_of term rest >>= λ p r. (Ok (u.Add p.0 p.1), r)
term_with term value s.Star rest = pair_of term rest >>= λ p r. (Ok (u.Mul p.0 p.1), r)
term_with term value s.Hash rest = within term rest >>= λ a r. (Ok (u.Squash a), r)
term_with term value s.Bang rest = within term rest >>= λ a r. (Ok (u.Not a), r)
term_with term value s.UpperS rest = within term rest >>= λ a r. (Ok (u.Sum a), r)
term_with term value s.UpperR rest = numbered (list_of value) u.Rel rest
term_with term value s.Equals rest = pair_of value rest >>= λ p r. (Ok (u.Eq p.0 p.1), r)
term_with term value s.UpperP rest = numbered (list_of value) u.Pred rest
term_with term value _ rest = bad rest

abbrev pub value_with : (Rest → Reading U) → (Rest → Reading Val) → Sign → Rest → Reading Val
value_with term value s.SmallB rest = number_at rest >>= λ n r. (Ok (v.Bound n), r)
value_with term value s.SmallF rest = number_at rest >>= λ n r. (Ok (v.Free n), r)
value_with term value s.SmallC rest = number_at rest >>= λ n r. (Ok (v.Lit n), r)
value_with term value s.UpperF rest = numbered (list_of value) v.Fun rest
value_with term value s.UpperG rest = numbered (within term) v.Agg rest
value_with term value _ rest = bad rest

-- with so many levels left
unfoldable mutual
  pub term_at : ℕ → Rest → Reading U
  term_at zero rest = if begins_term (next rest) then (entered 0 rest >>= λ e r. bad r) else bad rest
  term_at (suc levels) rest =
      if begins_term (next rest) then (entered (suc levels) rest >>= λ e r. term_with (term_at levels) (value_at levels) (next rest) r) else bad rest

  pub value_at : ℕ → Rest → Reading Val
  value_at zero rest = if begins_value (next rest) then (entered 0 rest >>= λ e r. bad r) else bad rest
  value_at (suc levels) rest =
      if begins_value (next rest) then (entered (suc levels) rest >>= λ e r. value_with (term_at levels) (value_at levels) (next rest) r) else bad rest

-- ---- lines
-- these bytes
unfoldable pub word_at : List ℕ → Rest → Reading (Unit {0})
word_at [] rest = (Ok tt, rest)
word_at (byte ∷ bytes) rest = expected (code (sign byte)) rest >>= λ o r. word_at bytes r

-- a number of at least 2
unfoldable pub count_at : Rest → Reading ℕ
count_at rest =
    if code (next rest) == 0 then bad rest else
    if code (next rest) == 1 then (if nat_lt (code (next (passed rest))) 10 then longest_at 1 (passed rest) else bad (passed rest)) else
    if nat_lt (code (next rest)) 10 then longest_at (code (next rest)) (passed rest) else
    bad rest

-- how often a run takes its turn, behind its letter
abbrev pub turns_at : Rest → Reading ℕ
turns_at rest = if nat_lt 0 (code (next rest)) && nat_lt (code (next rest)) 10 then count_at rest else (Ok 1, rest)

abbrev pub may_be_left : Last → Bool
may_be_left last.Left = false
may_be_left _ = true

abbrev pub may_be_right : Last → Bool
may_be_right last.Right = false
may_be_right _ = true

abbrev pub may_be_inside : Last → Bool
may_be_inside last.Inside = false
may_be_inside _ = true

-- the next run of a path, behind one of this kind
unfoldable pub run_at : Last → Rest → Reading (Option Run)
run_at l rest =
    if (code (next rest) == code s.SmallL) && may_be_left l then (turns_at (passed rest) >>= λ n r. (Ok (Some (run.Left n)), r)) else
    if (code (next rest) == code s.SmallR) && may_be_right l then (turns_at (passed rest) >>= λ n r. (Ok (Some (run.Right n)), r)) else
    if (code (next rest) == code s.SmallI) && may_be_inside l then (turns_at (passed rest) >>= λ n r. (Ok (Some (run.Inside n)), r)) else
    if code (next rest) == code s.SmallA then (number_at (passed rest) >>= λ n r. (Ok (Some (run.Argument n)), r)) else
    (Ok None, rest)

abbrev pub last_of : Run → Last
last_of (run.Left n) = last.Left
last_of (run.Right n) = last.Right
last_of (run.Inside n) = last.Inside
last_of (run.Argument n) = last.Other

-- the run was read: others follow it, or there was none
abbrev pub runs_with : (Last → Rest → Reading (List Run)) → Option Run → Rest → Reading (List Run)
runs_with more None rest = (Ok [], rest)
runs_with more (Some x) rest = more (last_of x) rest >>= λ xs r. (Ok (x ∷ xs), r)

-- the runs of a path, of which at most so many can stand there
unfoldable pub runs_at : ℕ → Last → Rest → Reading (List Run)
runs_at zero l rest = (Ok [], rest)
runs_at (suc most) l rest = run_at l rest >>= runs_with (runs_at most)

abbrev pub path_at : Rest → Reading (List Run)
path_at rest = runs_at (length rest.text) last.Other rest

abbrev pub direction_at : Rest → Reading Bool
direction_at rest =
    if code (next rest) == code s.Forward then (Ok true, passed rest) else
    (expected (code s.Backward) rest >>= λ o r. (Ok false, r))

-- the rule whose name stands here
unfoldable pub rule_at : Names → Rest → Reading Rule
rule_at (found q) rest = (Ok q, rest)
rule_at (word bytes more) rest = word_at bytes rest >>= λ o r. rule_at more r
rule_at (either letter first others) rest = if code (next rest) == code letter then rule_at first (passed rest) else rule_at others rest

-- the nodes of each argument are counted afresh
abbrev pub fresh : Rest → Rest
fresh rest = record rest { nodes = most_nodes }

abbrev pub argument_at : Kind → Rest → Reading Arg
argument_at kind.Term rest = term_at most_depth (fresh rest) >>= λ x r. (Ok (arg.Term x), r)
argument_at kind.Body rest = term_at most_depth (fresh rest) >>= λ x r. (Ok (arg.Body x), r)
argument_at kind.Value rest = value_at most_depth (fresh rest) >>= λ a r. (Ok (arg.Value a), r)
argument_at kind.Values rest = list_of (value_at most_depth) (fresh rest) >>= λ a r. (Ok (arg.Values a), r)
argument_at kind.Num rest = number_at (fresh rest) >>= λ n r. (Ok (arg.Num n), r)

unfoldable pub arguments_at : List Kind → Rest → Reading (List Arg)
arguments_at [] rest = (Ok [], rest)
arguments_at (k ∷ ks) rest = expected (code s.Space) rest >>= λ o r. argument_at k r >>= λ a r. arguments_at ks r >>= λ others r. (Ok (a ∷ others), r)

-- the line feed, behind a brace where inner steps follow
abbrev pub end_at : Bool → Rest → Reading (Unit {0})
end_at true rest = word_at (codes " {") rest >>= λ o r. expected (code s.Newline) r
end_at false rest = expected (code s.Newline) rest

unfoldable pub step_at : Rest → Reading LineStep
step_at rest =
    path_at rest >>= λ path r. expected (code s.Space) r >>= λ o r. direction_at r >>= λ forward r. expected (code s.Space) r >>= λ o r.
    rule_at names r >>= λ q r. arguments_at (kinds_of q) r >>= λ args r. end_at (has_inner q) r >>= λ o r. (Ok (made path forward q args), r)

unfoldable pub line_at : Rest → Reading LineStep
line_at rest =
    if code (next rest) == code s.Slash then step_at (passed rest) else
    if code (next rest) == code s.CloseBrace then (expected (code s.Newline) (passed rest) >>= λ o r. (Ok Closes, r)) else
    (word_at (codes "end") rest >>= λ o r. expected (code s.Newline) r >>= λ o r. (Ok Ends, r))

-- all that is left is this line
abbrev pub if_over : {A : Type 0} → List ℕ → A → Rest → Reading A
if_over [] a rest = (Ok a, rest)
if_over (byte ∷ text) a rest = bad rest

abbrev pub alone : {A : Type 0} → (Rest → Reading A) → Rest → Reading A
alone f rest = f rest >>= λ a r. if_over r.text a r
