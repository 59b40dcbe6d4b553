-- Steps that serve several readers: by what stands next, at numbers and copies, into parentheses and out of them, and by the value of a first part.
use Rattle.std.specs.Prelude.{nat_lt, if◌then◌else◌, not, ◌&&◌}
use Rattle.std.proofs.Common.{◌≡◌, ℕ, ◌+◌, ◌-◌, Bool, true, false, List, [], ◌∷◌, ◌⊎◌, Option, Some, None, Ok, Err, refl, sym, subst, ap, arith, ◌∙◌, inl, inr}
use Rattle.std.proofs.lemmas.List.{append-nil}
use Rattle.std.proofs.lemmas.Bool.{ltb-false, ltb-true}
use Rattle.grammar.specs.Form.{alt, counted, fork, map, nest, seq, token}
use Rattle.grammar.specs.Language.{Language}
use Rattle.grammar.specs.Productions.{then_skip}
use Rattle.grammar.proofs.readers.Completing.{either_of}
use Rattle.grammar.proofs.readers.Predictions.{ok, ahead}
use Rattle.sql_lex.specs.Lexemes.{Lexeme}
use Rattle.sql_cursor.specs.declared.fault.LimitKind.TheVariants as limit
use Rattle.sql_cursor.specs.declared.fault.ReadFault.TheVariants.{Limit, TooDeep}
use Rattle.sql_cursor.specs.Cursor.{Cursor}
use Rattle.sql_cursor.specs.Eating.{Copies, Extends, GoesOn, Numbers, Overflows, PassesWithin, Stays, is_next}
use Rattle.sql_read.specs.Reads.{Builds, Takes, Told, entries_too, few_form, Refuses}
use Rattle.sql_cursor.specs.Readers.{Reader, Reading, ◌>>=◌, copied, demanded, done, eaten_within, expected, expected_within, numbered}
use Rattle.sql_grammar.specs.declared.kinds.Kind.TheVariants as k
use Rattle.sql_grammar.specs.declared.kinds.Kind.{Kind}
use Rattle.sql_grammar.specs.Kinds.{among, same}
use Rattle.sql_grammar.specs.Numbering.{Built, literal_number, plain, symbol_number, with_member}
use Rattle.sql_grammar.specs.QueryCopies.{copies_nothing, most_copies}
use Rattle.sql_grammar.specs.QueryGrammar.{The, a, in_parentheses, parens}
use Rattle.sql_grammar.proofs.copies.QueryFillings.{Filled, fill_first, fill_nest, fill_seq, fill_token, symbol}
use Rattle.sql_grammar.proofs.queries.QueryTable.{left_factored}
use Rattle.sql_model.specs.declared.symbols.Lit.{Lit}
use Rattle.sql_model.specs.Syntax.{Name}
use Rattle.sql_read.proofs.steps.Agreeing.{Agrees, Residual, StopsIn, all_left, behind, behind_taken, built, by_eaten, by_eaten_within, ends_by, first_of, mapped, missing, needs_last, nested, other_unless, refused_here, then_part, then_rest, second, through, too_deep_here, whole}
use Rattle.sql_cursor.proofs.code.Extending.{◌⨟◌, extends_by, extends_passes, goes_nowhere}
use Rattle.sql_read.proofs.steps.ReadCopies as c
use Rattle.sql_read.proofs.steps.ReadCopies.{Going, SameCost}
use Rattle.sql_read.proofs.steps.ReadCopiedSteps.{on_behind_first, on_behind_other, on_counted, on_either}
use Rattle.sql_read.proofs.steps.ReadForks.{forks, of_first, of_other}
use Rattle.sql_read.proofs.steps.ReadLoops.{Begins, counted_part}
use Rattle.sql_read.proofs.steps.ReadPassing as p
use Rattle.sql_read.proofs.steps.ReadPassing.{Alike, alone, built_from}
use Rattle.sql_read.proofs.steps.ReadSteps as steps
use Rattle.sql_read.proofs.steps.ReadSteps.{LeftWithin, before, begins_otherwise, begins_with, plain_here, took_token, deep_within, entries_within, refuses}
use Rattle.sql_cursor.specs.declared.fault.ReadFault.{ReadFault}
use Rattle.sql_grammar.specs.FactoredQueries.{in_factored}

-- ---- readers one by one

pub one_by_one : {X Y Z : Type 0} (r : Reading X) (f : X → Reader Y) (g : Y → Reader Z) → ((r >>= f) >>= g) ≡ (r >>= λ x c. f x c >>= g)
one_by_one (Ok x, c) f g = refl
one_by_one (Err fault, c) f g = refl

-- ---- by what stands next

module _ {A : Type 0} {N : The A} {e : ℕ} {start : Cursor} {C : Type 0} {d : ℕ} where
  module _ {here : Cursor} {f g : The C} {h : C → A} (q : Kind → Bool) (l : Residual (alt f g) d here N e start h) where
    pub first_next : ok left_factored (alt f g) ≡ true → Begins q f → is_next q here.tokens ≡ true → Residual f d here N e start h
    first_next o i n = record { left = p.first_next q l.left o i n; going = c.on_one l.going; extends = l.extends }

    pub other_next : ok left_factored (alt g f) ≡ true → Begins q g → is_next q here.tokens ≡ true → Residual g d here N e start h
    other_next o i n = record { left = p.other_next q l.left o i n; going = c.on_other l.going; extends = l.extends }

    pub first_unless : ok left_factored g ≡ true → begins_with q (ahead left_factored g) ≡ true → is_next q here.tokens ≡ false → Residual f d here N e start h
    first_unless o w n = record { left = p.first_unless q l.left o w n; going = c.on_one l.going; extends = l.extends }

    pub first_where : ok left_factored g ≡ true → begins_otherwise q (ahead left_factored g) ≡ true → is_next q here.tokens ≡ true → Residual f d here N e start h
    first_where o w n = record { left = p.first_where q l.left o w n; going = c.on_one l.going; extends = l.extends }

    pub other_where : ok left_factored f ≡ true → begins_otherwise q (ahead left_factored f) ≡ true → is_next q here.tokens ≡ true → Residual g d here N e start h
    other_where o w n = record { left = p.other_where q l.left o w n; going = c.on_other l.going; extends = l.extends }

  -- where the same tokens stand
  pub there : {f : The C} {h : C → A} {m n : Cursor} → Residual f d m N e start h → n.tokens ≡ m.tokens → Extends m n → Residual f d n N e start h
  there {f = f} {h = h} l i x = record {
    left = subst (λ z. LeftWithin entries_too f (few_form f) d z N (few_form N) e start.tokens h) (sym i) l.left;
    going = subst (λ z. Going f z N start.tokens h) (sym i) l.going;
    extends = l.extends ⨟ x;
  }

-- none of these kinds stands here
pub none_here : (q : Kind → Bool) (here : Cursor) → is_next q here.tokens ≡ false → Stays q here here
none_here q here n = record { still = refl; not_next = n }

-- ---- tokens of one kind alone

module _ {X : Type 0} (P : Reading X → Type 0) (kind : Kind) (here : Cursor) (room : ℕ) (next : Option Lexeme → Reader X) where
  pub by_eaten_alone : ((t : Lexeme) (mid : Cursor) → PassesWithin (same kind) room here t mid → P (next (Some t) mid)) → ((at : ℕ) → Overflows (same kind) room here (TooDeep at) here → P (Err (TooDeep at), here))
      → (is_next (same kind) here.tokens ≡ false → P (next None here)) → P (eaten_within (among (kind ∷ [])) room here >>= next)
  by_eaten_alone passes full absent = subst (λ q. P (eaten_within q room here >>= next)) (sym (alone kind)) (by_eaten_within P (same kind) here room next passes full absent)

-- ---- numbers

kept : {X : Type 0} (q : X → Bool) (new : X) (xs : List X) → GoesOn xs (with_member q new xs)
kept q new [] = (new ∷ [], refl)
kept q new (x ∷ xs) = go (kept q new xs) (q x)
  where
    go : GoesOn xs (with_member q new xs) → (b : Bool) → GoesOn (x ∷ xs) (if b then x ∷ xs else x ∷ with_member q new xs)
    go more true = ([], sym (append-nil (x ∷ xs)))
    go more false = (more.0, ap (λ z. x ∷ z) more.1)

pub extends_symbol : {name : Name} {number : ℕ} {m n : Cursor} → Numbers (symbol_number name) m number n → Extends m n
extends_symbol {name = name} {m = m} u =
    subst (λ z. Extends m z) (sym u.moved) (extends_by {a = m} ((symbol_number name).build m.numbers).1 m.copies (goes_nowhere m.numbers.literals) (kept _ _ m.numbers.symbols) (omega arith))

pub extends_literal : {lit : Lit} {number : ℕ} {m n : Cursor} → Numbers (literal_number lit) m number n → Extends m n
extends_literal {lit = lit} {m = m} u =
    subst (λ z. Extends m z) (sym u.moved) (extends_by {a = m} ((literal_number lit).build m.numbers).1 m.copies (kept _ _ m.numbers.literals) (goes_nowhere m.numbers.symbols) (omega arith))

-- a copy of this weight was counted
abbrev pub Paid : ℕ → Cursor → Cursor → Type 0
Paid weight a b = b ≡ record a { copies = a.copies + weight }

pub tokens_copied : (weight : ℕ) (a b : Cursor) → Paid weight a b → b.tokens ≡ a.tokens
tokens_copied weight a b q = ap (λ z. z.tokens) q

pub extends_copied : (weight : ℕ) {a b : Cursor} → Paid weight a b → Extends a b
extends_copied weight {a = a} q =
    subst (λ z. Extends a z) (sym q) (extends_by {a = a} a.numbers (a.copies + weight) (goes_nowhere a.numbers.literals) (goes_nowhere a.numbers.symbols) (omega arith))

-- nothing of the form was taken, and the token before it was the first with which too much is copied
pub too_many_copies : {A : Type 0} {N : The A} {e : ℕ} (weight : ℕ) (a b : Cursor) {fault : ReadFault} → Copies weight a (Err fault) b → Refuses N e a fault b
too_many_copies {N = N} {e = e} weight a b q =
    subst (λ z. Refuses N e a z b) (sym q.1)
    (record {
      says = record {
        goes_on = record { taken = []; whole = still; begun = (deep_within e N).prefixes.empty };
        few = λ n. record { taken = []; whole = still; begun = (entries_within N).prefixes.empty };
      };
    })
  where
    still : a.tokens ≡ b.tokens
    still = sym (ap (λ z. z.tokens) q.0)

module _ {X : Type 0} (P : Reading X → Type 0) (here : Cursor) where
  pub by_numbered : (given : Built ℕ) (next : ℕ → Reader X) → ((number : ℕ) (mid : Cursor) → Numbers given here number mid → P (next number mid)) → P (numbered given here >>= next)
  unfolding numbered
  by_numbered given next goes = goes _ _ (record { is = refl; moved = refl })

  -- a copy is counted, or the limit is passed
  pub by_copied : (weight : ℕ) (next : Unit {0} → Reader X) → ((mid : Cursor) → Paid weight here mid → P (next tt mid)) → (Copies weight here (Err (Limit limit.Copies)) here → P (Err (Limit limit.Copies), here))
      → P (copied weight here >>= next)
  unfolding copied
  by_copied weight next paid over = go (nat_lt most_copies here.copies) refl (nat_lt most_copies (here.copies + weight)) refl
    where
      go : (b : Bool) → nat_lt most_copies here.copies ≡ b → (c : Bool) → nat_lt most_copies (here.copies + weight) ≡ c
          → P ((if not b && c then (Err (Limit limit.Copies), here) else (Ok tt, record here { copies = here.copies + weight })) >>= next)
      go true i c j = paid _ refl
      go false i true j = over (refl, refl, ltb-true most_copies (here.copies + weight) j, ltb-false most_copies here.copies i)
      go false i false j = paid _ refl

-- ---- ends

-- a token of this kind opens a level
abbrev pub opening : {C D : Type 0} → Kind → (Lexeme × D → C) → The D → The C
opening kind made g = map made (nest (seq (a kind) g))

pub fill_group : {C : Type 0} {f : The C} {v : C} → Filled f v → Filled (in_parentheses f) (symbol 40, v)
fill_group filled = fill_nest (fill_seq (fill_token k.Open (symbol 40) refl refl) (fill_first filled (fill_token k.Close (symbol 41) refl refl)))

-- one token of these kinds, which is to stand next
pub token_agrees : {q : Kind → Bool} {levels : ℕ} {v : Lexeme} → Filled (token q) v → (c : Cursor) → Agrees (token q) levels plain plain c c (expected q c)
unfolding expected
token_agrees {q = q} {levels = levels} filled here = by_eaten (Agrees (token q) levels plain plain here here) q here demanded
    (λ t mid i. built whole t (took_token levels i) (extends_passes i) (before plain_here i)) (λ n. refused_here (all_left whole) filled (omega arith) (steps.missed (missing n)))

-- what stops what is counted stops what it counts, where nothing goes by the number of tokens
pub counted_of : {A C : Type 0} {told : Told} {f : The C} {d : ℕ} {here : Cursor} {N : The A} {NB : Language Lexeme A} {e : ℕ} {start : Cursor} {h : C × ℕ → A} {k : C → A}
    → StopsIn told (counted f) (few_form (counted f)) d here N NB e start h → ((v : C) (count : ℕ) → h (v, count) ≡ k v) → StopsIn told f (few_form f) d here N NB e start k
counted_of {f = f} {d = d} {here = here} l uncounted = record { blocks = through l.blocks (counted_part steps.whole); going = on_counted l.going uncounted; extends = l.extends }

module _ {A X : Type 0} {N : The A} {e : ℕ} {whole_of whole_copied : A → Built X} {built_at s : Cursor} where
  module _ {C : Type 0} {d : ℕ} {f : The C} {h : C → A} where
    -- nothing was numbered and nothing copied before it
    pub ends_alike : {began here : Cursor} (r : Reading X) → Residual f d here N e s h → Alike built_at began → Agrees f d (λ v. whole_of (h v)) (λ v. whole_copied (h v)) began here r
        → Agrees N e whole_of whole_copied built_at s r
    ends_alike r l alike t = ends_by r l (λ v. ap (λ z. z + (whole_copied (h v)).copies) (sym alike.copies)) (λ v x end u. built_from alike u) t

    -- a node is made of what was read, and a parenthesis closes behind it
    pub closes : {Y : Type 0} {part : C → Built Y} {began here : Cursor} (r : Reading Y) (of : Y → X) → Residual (then_skip f (a k.Close)) d here N e s h → ok left_factored (seq f (a k.Close)) ≡ true
        → SameCost built_at (λ v. whole_copied (h v)) began part → ((v : C) (y : Y) (end : Cursor) → Builds (part v) began y end → Builds (whole_of (h v)) built_at (of y) end) → Agrees f d part part began here r
        → Agrees N e whole_of whole_copied built_at s (r >>= λ y c. expected (same k.Close) c >>= λ close. done (of y))
    closes r of l o cost made t = then_rest r t
        (λ y mid u. let read = u.reads.answers in let left = second (mapped l) o u in
        needs_last left (fill_token k.Close (symbol 41) refl refl) (read.builds.copies ∙ sym (cost read.read))
        (λ close end i. built left close (took_token d i) (extends_passes i) (before (made read.read y mid read.builds) i)))
        (mapped l) o (fill_token k.Close (symbol 41) refl refl) cost

  -- the tokens of what is read are counted, and then the rest is read
  pub then_counted : {C D Y : Type 0} {d : ℕ} {f : The C} {g : The D} {h : (C × ℕ) × D → A} {v : D} {part own_cost : C → Built Y} {began here : Cursor} {next : Y → Reader X} (r : Reading Y) (of : C → A)
      → Agrees f d part own_cost began here r → Residual (seq (counted f) g) d here N e s h → ok left_factored (seq (counted f) g) ≡ true → Filled g v → ((u : C) (count : ℕ) → h ((u, count), v) ≡ of u)
      → SameCost built_at (λ u. whole_copied (of u)) began own_cost
      → ((y : Y) (mid : Cursor) (t : Agrees f d part own_cost began here (Ok y, mid)) → Residual g d mid N e s (λ w. h ((t.reads.answers.read, mid.passed - here.passed), w)) → Agrees N e whole_of whole_copied built_at s (next y mid))
      → Agrees N e whole_of whole_copied built_at s (r >>= next)
  then_counted r of t l o filled uncounted cost more =
      then_part r _ t (counted_of (first_of l o filled) uncounted) cost (λ y mid u. more y mid u (behind_taken l o (p.took_counted u.extends u.reads.answers.takes) u.extends))

  -- ---- levels

  module _ {D : Type 0} {g : The D} (kind : Kind) {d : ℕ} {here : Cursor} where
    -- a token of one kind opens a level
    pub opens_alone : {h : Lexeme × D → A} {v : Lexeme × D} {next : Lexeme → Reader X} → Residual (nest (seq (token (same kind)) g)) d here N e s h → ok left_factored (seq (token (same kind)) g) ≡ true
        → begins_with (same kind) (ahead left_factored (nest (seq (token (same kind)) g))) ≡ true → Filled (nest (seq (token (same kind)) g)) v → here.copies ≡ built_at.copies + (whole_copied (h v)).copies
        → ((t : Lexeme) (mid : Cursor) → PassesWithin (same kind) d here t mid → Residual g (d - 1) mid N e s (λ w. h (t, w)) → Agrees N e whole_of whole_copied built_at s (next t mid))
        → Agrees N e whole_of whole_copied built_at s (expected_within (among (kind ∷ [])) d here >>= next)
    unfolding expected_within
    opens_alone {next = next} l o w filled cost goes =
        by_eaten_alone (λ r. Agrees N e whole_of whole_copied built_at s (r >>= next)) kind here d demanded (λ t mid i. goes t mid i (behind (nested l i.room_left) o i.passes))
        (λ at full. too_deep_here (all_left l) filled cost (p.overflows full)) (λ n. refused_here (all_left l) filled cost (p.misses {p = same kind} o w (missing n)))

    -- it opens a level where it stands next
    pub may_open : {C : Type 0} {made : Lexeme × D → C} {other : The C} {h : C → A} {v : C} (next : Option Lexeme → Reader X) → Residual (alt (opening kind made g) other) d here N e s h
        → ok left_factored (opening kind made g) ≡ true → ok left_factored (alt (opening kind made g) other) ≡ true → ok left_factored (seq (a kind) g) ≡ true → begins_with (same kind) (ahead left_factored (opening kind made g)) ≡ true
        → Filled (alt (opening kind made g) other) v → here.copies ≡ built_at.copies + (whole_copied (h v)).copies
        → ((t : Lexeme) (mid : Cursor) → PassesWithin (same kind) d here t mid → Residual g (d - 1) mid N e s (λ w. h (made (t, w))) → Agrees N e whole_of whole_copied built_at s (next (Some t) mid))
        → (is_next (same kind) here.tokens ≡ false → Residual other d here N e s h → Agrees N e whole_of whole_copied built_at s (next None here))
        → Agrees N e whole_of whole_copied built_at s (eaten_within (among (kind ∷ [])) d here >>= next)
    may_open {made = made} {other = other} next l one o i w filled cost goes absent =
        by_eaten_alone (λ r. Agrees N e whole_of whole_copied built_at s r) kind here d next
        (λ t mid q. goes t mid q (behind (nested (mapped (first_next (same kind) l o begins (steps.next_there (same kind) here mid t q.passes))) q.room_left) i q.passes))
        (λ at full. too_deep_here (all_left l) filled cost (steps.refuses {s = here} (steps.blocks (mapped (first_next (same kind) (whole {start = here}) o begins full.next)).left) (p.overflows full)))
        (λ n. absent n (other_unless (same kind) l one w n))
      where
        begins : Begins (same kind) (opening kind made g)
        begins t j = inl (inr (t, refl, j))

  -- a parenthesis opens one
  pub opens_parens : {C : Type 0} {f : The C} {d : ℕ} {here : Cursor} {h : C → A} {v : C} {next : Lexeme → Reader X} → Residual (parens f) d here N e s h → ok left_factored (seq (a k.Open) (then_skip f (a k.Close))) ≡ true
      → begins_with (same k.Open) (ahead left_factored (in_parentheses f)) ≡ true → Filled f v → here.copies ≡ built_at.copies + (whole_copied (h v)).copies
      → ((t : Lexeme) (mid : Cursor) → PassesWithin (same k.Open) d here t mid → Residual (then_skip f (a k.Close)) (d - 1) mid N e s h → Agrees N e whole_of whole_copied built_at s (next t mid))
      → Agrees N e whole_of whole_copied built_at s (expected_within (among (k.Open ∷ [])) d here >>= next)
  opens_parens l o w filled cost goes = opens_alone k.Open (mapped l) o w (fill_group filled) cost goes

-- ---- what goes by the value of a first part

module _ {A : Type 0} {N : The A} {e : ℕ} {start : Cursor} {C D E : Type 0} {f : The (C ⊎ D)} {g : The (C → E)} {i : The (D → E)} {d : ℕ} {here : Cursor} {h : E → A} (l : Residual (fork f g i) d here N e start h)
    (o : ok left_factored (fork f g i) ≡ true) where
  -- the first part, with something behind it of either kind
  pub fork_of : {k : C → E} {j : D → E} → Filled g k → Filled i j → StopsIn entries_too f (few_form f) d here N (few_form N) e start (λ v. h (either_of left_factored 0 copies_nothing (in_factored None N) start.tokens k j v))
  fork_of x y = record { blocks = forks l.left o; going = on_either l.going x y; extends = l.extends }

  module _ {mid : Cursor} where
    pub behind_first : {v : C} → Takes f d here.tokens (inl v) mid.tokens → Extends here mid → Residual g d mid N e start (λ k. h (k v))
    behind_first t x = record { left = of_first l.left o t; going = on_behind_first l.going t; extends = l.extends ⨟ x }

    pub behind_other : {v : D} → Takes f d here.tokens (inr v) mid.tokens → Extends here mid → Residual i d mid N e start (λ k. h (k v))
    behind_other t x = record { left = of_other l.left o t; going = on_behind_other l.going t; extends = l.extends ⨟ x }
