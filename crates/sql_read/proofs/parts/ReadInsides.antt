-- What stands in parentheses, as the reader's own types and the grammar's have it, and how a reading goes on by it.
use Rattle.std.proofs.Common.{◌≡◌, true, false, ℕ, ◌+◌, ◌-◌, ◌*◌, Bool, List, [], ◌∷◌, ◌++◌, ◌⊎◌, inl, inr, Some, None, Result, Ok, Err, refl, sym, ◌∙◌, ap, subst, length, length-append, arith}
use Rattle.grammar.specs.Completions.{Overspends, Reaches}
use Rattle.grammar.specs.Form.{nonempty, map, counted, ref, empty}
use Rattle.grammar.specs.Language.{Language}
use Rattle.grammar.specs.Reading.{Stops}
use Rattle.grammar.proofs.readers.Steps.{nonempty_exceeded, nonempty_failed, nonempty_took}
use Rattle.sql_lex.specs.Lexemes.{Lexeme}
use Rattle.sql_model.specs.declared.tree.Expr.{Expr}
use Rattle.sql_model.specs.declared.tree.Expr.TheVariants as expr
use Rattle.sql_model.specs.declared.tree.Query.{Query}
use Rattle.sql_cursor.specs.declared.fault.ReadFault.{ReadFault}
use Rattle.sql_read.specs.declared.reading.inside.Grouped.{Grouped}
use Rattle.sql_read.specs.declared.reading.inside.Grouped.TheVariants as read_grouped
use Rattle.sql_read.specs.Copied.{CopiedToFault}
use Rattle.sql_cursor.specs.Cursor.{Cursor}
use Rattle.sql_cursor.specs.Eating.{Extends, Stays, is_next}
use Rattle.sql_read.specs.Parts.{built_grouped, built_inside}
use Rattle.sql_read.specs.Reading.{enclosed_of}
use Rattle.sql_read.specs.Reads.{few_form, Builds, Gives, IsBuilt, Reads, Takes}
use Rattle.sql_grammar.specs.declared.kinds.Kind.TheVariants as k
use Rattle.sql_grammar.specs.declared.kinds.Kind.{Kind}
use Rattle.sql_grammar.specs.Kinds.{same}
use Rattle.sql_grammar.specs.Numbering.{Built, mapped}
use Rattle.sql_grammar.specs.QueryCopies.{copies_nothing, most_copies}
use Rattle.sql_grammar.specs.QueryGrammar.{The, in_parentheses}
use Rattle.sql_grammar.specs.QueryTails.{commas, expr_tail, inner, set_tail}
use Rattle.sql_grammar.specs.FactoredQueries.{sort, in_factored}
use Rattle.sql_grammar.specs.QueryTrees as t
use Rattle.sql_grammar.specs.QueryTailTrees as tails
use Rattle.sql_grammar.specs.QueryTrees.{Left as Part}
use Rattle.sql_grammar.specs.QueryTailTrees.{Enclosed, Inside}
use Rattle.sql_grammar.proofs.copies.CopySteps.{expr_tail_reaches, expr_tail_some, set_tail_reaches, set_tail_some, SomeTail}
use Rattle.sql_read.proofs.steps.ReadCopies.{copied_by}
use Rattle.sql_read.proofs.steps.ReadForks.{takes_mapped, unmapped, not_both}
use Rattle.sql_read.proofs.steps.ReadLoops.{Begins, first_there, none_more}
use Rattle.sql_read.proofs.steps.ReadPassing.{built_counted, took_counted}
use Rattle.sql_read.proofs.steps.ReadSteps.{Blocks, Left, halts_as, built_as, built_both, built_map, took_nothing, whole}

-- ---- what has a token

-- where a token begins it, some is taken
pub cannot_stay : {A : Type 0} (U : Language Lexeme A) (here : List Lexeme) (first : Lexeme) (others taken rest : List Lexeme) → here ≡ first ∷ others → U.prefix (first ∷ [])
    → here ≡ taken ++ rest → Stops U taken rest → here ≡ rest → ⊥
cannot_stay U here first others [] [] e f i s j = cc
cannot_stay U here first others [] (c ∷ rest) e f i s j = let k : first ≡ c = cc in s (subst (λ z. U.prefix (z ∷ [])) k f)
cannot_stay U here first others (c ∷ taken) rest e f i s j =
    let n : length here ≡ (length taken + 1) + length rest = ap length i ∙ omega (arith, length-append taken rest) in
    let m : length here ≡ length rest = ap length j in
    absurd (omega (arith, n, m))

pub takes_some : {C : Type 0} {f : The C} {d : ℕ} {here rest : List Lexeme} {v : C} (p : Kind → Bool) → Begins p f → is_next p here ≡ true → Takes f d here v rest
    → Takes (nonempty f) d here v rest
unfolding few_form
takes_some {f = f} {d = d} {here = here} {rest = rest} {v = v} p i n s =
    let first = first_there p here n in
    let moved : here ≡ rest → ⊥ =
    cannot_stay (in_factored None f) here first.first first.others s.took.taken rest first.stood (i first.first first.of_kind) s.took.whole s.took.stops in
    record { took = nonempty_took (in_factored None f) (in_factored (Some d) f) here v rest moved s.took; few = λ t. nonempty_took (in_factored None f) (few_form f) here v rest moved (s.few t) }

module _ {A : Type 0} {N : The A} {e : ℕ} {start : List Lexeme} {C : Type 0} {f : The C} {d : ℕ} {here : List Lexeme} {h : C → A} where
  pub some_part : Left (nonempty f) d here N e start h → Blocks f d here N e start
  unfolding few_form
  some_part l = record {
    halts = halts_as (nonempty_failed (in_factored None f) (in_factored (Some d) f) here) (nonempty_exceeded (in_factored None f) (in_factored (Some d) f) here) (λ ts b. b) l.residual;
    few = λ n. halts_as (nonempty_failed (in_factored None f) (few_form f) here) (nonempty_exceeded (in_factored None f) (few_form f) here) (λ ts b. b) (l.few n);
  }

module _ {C Y : Type 0} {f : The C} {part : C → Built Y} {start before after : Cursor}
    (reaches : (v : C) (rest : List Lexeme) → Reaches copies_nothing (in_factored None f) before.tokens v rest → SomeTail (in_factored None f) (λ v. (part v).copies) before.tokens rest (part v).copies)
    (over : (rest : List Lexeme) → Overspends copies_nothing (in_factored None f) (λ v. (part v).copies) most_copies start.copies before.tokens rest
    → Overspends copies_nothing (in_factored None (nonempty f)) (λ v. (part v).copies) most_copies start.copies before.tokens rest) where
  copied_some : {fault : ReadFault} → CopiedToFault f part start before fault after → CopiedToFault (nonempty f) part start before fault after
  copied_some = copied_by
      (λ r. let some = reaches r.value after.tokens r.up_to in record { value = some.value; up_to = some.reaches; count = omega (arith, r.count, some.same_cost) })
      (λ r. record { token = r.token; overspends = over (r.token ∷ after.tokens) r.overspends })

module _ {start before after : Cursor} {fault : ReadFault} where
  pub some_set_tail : {q : Built Query} → CopiedToFault (ref set_tail) (λ tail. tail q) start before fault after → CopiedToFault (nonempty (ref set_tail)) (λ tail. tail q) start before fault after
  some_set_tail {q = q} s = copied_some (λ v rest r. set_tail_reaches q before.tokens v rest r) (λ rest o. set_tail_some q most_copies start.copies before.tokens rest o) s

  pub some_expr_tail : {left : t.Left} → CopiedToFault (ref expr_tail) (λ tail. tail left) start before fault after
      → CopiedToFault (nonempty (ref expr_tail)) (λ tail. tail left) start before fault after
  some_expr_tail {left = left} s = copied_some (λ v rest r. expr_tail_reaches left before.tokens v rest r) (λ rest o. expr_tail_some left most_copies start.copies before.tokens rest o) s

pub takes_nothing : {d : ℕ} {here : List Lexeme} → Takes empty d here tt here
takes_nothing {d = d} {here = here} = took_nothing d here

-- ---- what stands in parentheses

pub built_enclosed : (r : Lexeme × Inside (Unit {0})) {start here : Cursor} {g : Grouped} → Builds (built_grouped r) start g here → Builds (tails.enclosed r) start (enclosed_of g) here
built_enclosed (open_, inl q) u = record { numbers = ap (λ z. (enclosed_of z.0, z.1)) u.numbers; copies = u.copies }
built_enclosed (open_, inr (inl p)) u = record { numbers = ap (λ z. (enclosed_of z.0, z.1)) u.numbers; copies = u.copies }
built_enclosed (open_, inr (inr p)) u = record { numbers = ap (λ z. (enclosed_of z.0, z.1)) u.numbers; copies = u.copies }

pub enclosed_cost : (read : Lexeme × Inside (Unit {0})) → (tails.enclosed read).copies ≡ (built_grouped read).copies
enclosed_cost (open_, inl q) = refl
enclosed_cost (open_, inr (inl p)) = refl
enclosed_cost (open_, inr (inr p)) = refl

-- nothing follows it
abbrev pub closed : {M : Type 0} → M → Lexeme × Inside (Unit {0}) → Inside M
closed m (open_, inl q) = inr (inl ((open_, q), m))
closed m (open_, inr (inl p)) = inr (inl ((open_, p.0.1), m))
closed m (open_, inr (inr p)) = inr (inr (p.0, m))

pub closed_cost : (read : Lexeme × Inside (Unit {0})) → (built_inside (closed tt read)).copies ≡ (built_grouped read).copies
closed_cost (open_, inl q) = refl
closed_cost (open_, inr (inl p)) = refl
closed_cost (open_, inr (inr p)) = refl

pub in_closed_cost : (word : Lexeme) (left : t.Left) (read : Lexeme × Inside (Unit {0})) → (tails.in_inside None word (closed [] read) left).copies ≡ left.0.copies + (built_grouped read).copies
in_closed_cost word left (open_, inl q) = refl
in_closed_cost word left (open_, inr (inl p)) = refl
in_closed_cost word left (open_, inr (inr p)) = alone left.0.copies p.0.copies (t.weight left)
  where
    alone : (a b w : ℕ) → (a + (b + 0)) + 0 * w ≡ a + b
    alone a b w = omega arith

-- a list whose first member is a query
pub listed_cost : (word : Lexeme) (left : t.Left) (p : Enclosed) (others : List (Built Expr)) → (tails.in_inside None word (inr (inl (p, others))) left).copies ≡ (t.in_list None (t.sub p, others) left).copies
listed_cost word left p [] = alone left.0.copies p.1.copies (t.weight left)
  where
    alone : (a b w : ℕ) → a + b ≡ (a + (b + 0)) + 0 * w
    alone a b w = omega arith
listed_cost word left p (next ∷ others) = refl

-- ---- what is read of it where it may go on

same_place : {x y : Query} {at to : ℕ} → read_grouped.Query x at ≡ read_grouped.Query y to → at ≡ to
same_place e = cc

abbrev pub sorted_parentheses : The ((Enclosed × ℕ) ⊎ Part)
sorted_parentheses = map sort (counted (in_parentheses (ref inner)))

-- a query in parentheses was read, the first of which opens at the place
pub record IsQuery (d : ℕ) (before : Cursor) (q : Query) (at : ℕ) (after : Cursor) : Type 0 where
  pub open_ : Lexeme
  pub built : Built Query
  pub place : open_.start ≡ at
  pub takes : Takes sorted_parentheses d before.tokens (inl ((open_, built), after.passed - before.passed)) after.tokens
  pub builds : IsBuilt built (after.passed - before.passed) before q after

-- an expression in parentheses was read
pub record IsExpr (d : ℕ) (before : Cursor) (x : Expr) (after : Cursor) : Type 0 where
  pub built : Built Expr
  pub takes : Takes sorted_parentheses d before.tokens (inr (built, after.passed - before.passed)) after.tokens
  pub builds : IsBuilt built (after.passed - before.passed) before x after

module _ {d : ℕ} {a b : Cursor} (goes_on : Extends a b) where
  sorted : (r : Lexeme × Inside (Unit {0})) → Takes (in_parentheses (ref inner)) d a.tokens r b.tokens → Takes sorted_parentheses d a.tokens (sort (r, b.passed - a.passed)) b.tokens
  sorted r s = takes_mapped sort (took_counted goes_on s)

  pub query_of : {q : Query} {at : ℕ} (r : Lexeme × Inside (Unit {0})) → Takes (in_parentheses (ref inner)) d a.tokens r b.tokens
      → Builds (built_grouped r) a (read_grouped.Query q at) b → IsQuery d a q at b
  query_of {q = q} {at = at} (open_, inl built) s u = record {
    open_ = open_;
    built = built;
    place = same_place (ap (λ p. p.0) u.numbers);
    takes = sorted (open_, inl built) s;
    builds = built_counted goes_on (unmapped {built = built} (λ x. read_grouped.Query x at) (λ x y e. cc)
        (subst (λ z. Builds (mapped (λ x. read_grouped.Query x z) built) a (read_grouped.Query q at) b) (same_place (ap (λ p. p.0) u.numbers)) u));
  }
  query_of {q = q} {at = at} (open_, inr (inl p)) s u = record {
    open_ = open_;
    built = p.0.1;
    place = same_place (ap (λ p. p.0) u.numbers);
    takes = sorted (open_, inr (inl p)) s;
    builds = built_counted goes_on (unmapped {built = p.0.1} (λ x. read_grouped.Query x at) (λ x y e. cc)
        (subst (λ z. Builds (mapped (λ x. read_grouped.Query x z) p.0.1) a (read_grouped.Query q at) b) (same_place (ap (λ p. p.0) u.numbers)) u));
  }
  query_of {q = q} {at = at} (open_, inr (inr p)) s u =
      absurd (not_both {built = p.0} (λ x. read_grouped.Expr x) (λ x. read_grouped.Query x at) (λ x y e. cc) u)

  pub expr_of : {x : Expr} (r : Lexeme × Inside (Unit {0})) → Takes (in_parentheses (ref inner)) d a.tokens r b.tokens
      → Builds (built_grouped r) a (read_grouped.Expr x) b → IsExpr d a x b
  expr_of (open_, inl built) s u = absurd (not_both {built = built} (λ x. read_grouped.Query x open_.start) (λ x. read_grouped.Expr x) (λ x y e. cc) u)
  expr_of (open_, inr (inl p)) s u = absurd (not_both {built = p.0.1} (λ x. read_grouped.Query x open_.start) (λ x. read_grouped.Expr x) (λ x y e. cc) u)
  expr_of (open_, inr (inr p)) s u = record {
    built = p.0;
    takes = sorted (open_, inr (inr p)) s;
    builds = built_counted goes_on (unmapped {built = p.0} (λ x. read_grouped.Expr x) (λ x y e. cc) u);
  }

-- a query in parentheses as an expression
pub built_sub : (opening : Lexeme) {before : Built Query} {count at : ℕ} {began here : Cursor} {q : Query} → opening.start ≡ at → IsBuilt before count began q here → IsBuilt (t.sub (opening, before)) count began (expr.Sub q at) here
built_sub opening {q = q} i u = record { builds = built_as (ap (λ z. expr.Sub q z) (sym i)) (built_map (λ y. expr.Sub y opening.start) u.builds); counted = u.counted }

-- ---- tests by a query

pub built_in_query : (word : Lexeme) (before : Built Expr) (inside : Built Query) (count : ℕ) {at : ℕ} {began middle here : Cursor} {x : Expr} {q : Query} → word.start ≡ at → Builds before began x middle → Builds inside middle q here
    → Builds (t.in_query None word inside (before, count)) began (expr.In x q (t.place_of x) at) here
built_in_query word before inside count {x = x} {q = q} i u v = built_as (ap (λ z. expr.In x q (t.place_of x) z) (sym i)) (built_map (λ p. expr.In p.0 p.1 (t.place_of p.0) word.start) (built_both u v))

-- ---- a list whose first member is a query

pub no_commas : {d : ℕ} (m : Cursor) → is_next (same k.Comma) m.tokens ≡ false → Takes commas d m.tokens [] m.tokens
no_commas m n =
    let none : Stays (same k.Comma) m m = record { still = refl; not_next = n } in
    none_more whole refl refl none

begins_commas : Begins (same k.Comma) commas
begins_commas t i = inr ([], t ∷ [], [], refl, refl, inl (inr (t, refl, i)))

nothing_taken : {d : ℕ} {here rest : List Lexeme} → is_next (same k.Comma) here ≡ true → Takes commas d here [] rest → ⊥
nothing_taken {here = here} {rest = rest} n s =
    let first = first_there (same k.Comma) here n in
    cannot_stay (in_factored None commas) here first.first first.others s.took.taken rest first.stood (begins_commas first.first first.of_kind) s.took.whole s.took.stops
    (s.took.whole ∙ ap (λ z. z ++ rest) s.took.spelled.0)

module _ {d : ℕ} {start m n : Cursor} (comma : is_next (same k.Comma) m.tokens ≡ true) (word : Lexeme) (p : Enclosed) (left : Part) where
  listed : {value : Expr} (read : List (Built Expr)) → Takes commas d m.tokens read n.tokens → Builds (t.in_list None (t.sub p, read) left) start value n
      → Gives commas d (λ others. tails.in_inside None word (inr (inl (p, others))) left) start m value n
  listed [] s u = absurd (nothing_taken comma s)
  listed (next ∷ others) s u = record { read = next ∷ others; takes = s; builds = u }

  -- the list has more members than the query
  pub more_listed : {result : Result Expr ReadFault} → Reads commas d (λ others. t.in_list None (t.sub p, others) left) start m result n
      → Reads commas d (λ others. tails.in_inside None word (inr (inl (p, others))) left) start m result n
  more_listed {result = Ok value} s = record { answers = listed s.answers.read s.answers.takes s.answers.builds }
  more_listed {result = Err fault} s = record { answers = s.answers }
