-- The reader of the members of a list of IN agrees with the left-factored grammar.
use Rattle.std.proofs.Common.{◌≡◌, ℕ, ◌+◌, ◌≤◌, ◌<◌, List, [], ◌∷◌, ◌++◌, None, Ok, Err, refl, sym, ◌∙◌, ap, subst, arith}
use Rattle.grammar.specs.Completions.{Continues, Overspends}
use Rattle.grammar.specs.Form.{ref}
use Rattle.grammar.proofs.readers.Completing.{overspends_from}
use Rattle.sql_lex.specs.Lexemes.{Lexeme}
use Rattle.sql_model.specs.declared.tree.Expr.{Expr}
use Rattle.sql_model.specs.declared.tree.Expr.TheVariants as an_expr
use Rattle.sql_cursor.specs.declared.fault.LimitKind.TheVariants as limit
use Rattle.sql_cursor.specs.declared.fault.ReadFault.TheVariants.{Limit}
use Rattle.sql_read.specs.declared.reading.test.Sought.{Sought}
use Rattle.sql_read.specs.Copied.{CopiesTooMuch}
use Rattle.sql_cursor.specs.Cursor.{Cursor}
use Rattle.sql_cursor.specs.Eating.{Copies, Extends, PassesWithin}
use Rattle.sql_read.specs.Reads.{Builds, Takes}
use Rattle.sql_read.specs.Reading.{Deeper, any_of, comma, compared_copy, expr, members, next_member}
use Rattle.sql_cursor.specs.Readers.{Reading, ◌>>=◌, done, repeated}
use Rattle.sql_grammar.specs.declared.kinds.Kind.TheVariants as k
use Rattle.sql_grammar.specs.Kinds.{same}
use Rattle.sql_grammar.specs.Numbering.{Built, Numbers, both, each}
use Rattle.sql_grammar.specs.QueryCopies.{copies_nothing, most_copies}
use Rattle.sql_grammar.specs.QueryGrammar as grammar
use Rattle.sql_grammar.specs.QueryTails as tails
use Rattle.sql_grammar.specs.QueryTrees as t
use Rattle.sql_grammar.proofs.copies.CopySteps.{comma_too_much}
use Rattle.sql_grammar.proofs.copies.FactoredCosts.{members_cost}
use Rattle.sql_grammar.proofs.copies.TestCopies.{behind_commas, list_adds, no_members, one_more_comma}
use Rattle.sql_read.proofs.steps.AgreeDeeper.{DeeperAgrees}
use Rattle.sql_read.proofs.agree.AgreeExprs.{expr_agrees}
use Rattle.sql_read.proofs.steps.AgreeLoops.{repeats, skipped_word}
use Rattle.sql_read.proofs.steps.AgreeSteps.{Paid, by_copied, by_eaten_alone, extends_copied, there, tokens_copied, too_many_copies}
use Rattle.sql_read.proofs.steps.Agreeing.{Agrees, all_left, built, by_made, inside, stopped, whole}
use Rattle.sql_cursor.proofs.code.Extending.{◌⨟◌}
use Rattle.sql_read.proofs.parts.ReadChains.{each_more}
use Rattle.sql_read.proofs.steps.ReadLoops.{begins_skip}
use Rattle.sql_read.proofs.steps.ReadSteps as steps
use Rattle.sql_read.proofs.steps.ReadSteps.{built_both, plain_here}
use Rattle.sql_grammar.specs.QueryGrammar.{most_separators}
use Rattle.sql_grammar.specs.FactoredQueries.{in_factored}

-- ---- what is built

equals_more : (x : Expr) (ys : List Expr) (v : Expr) → t.equals_each x (ys ++ v ∷ []) ≡ t.equals_each x ys ++ an_expr.Eq x v (t.place_of x) ∷ []
equals_more x [] v = refl
equals_more x (y ∷ ys) v = ap (λ z. an_expr.Eq x y (t.place_of x) ∷ z) (equals_more x ys v)

any_is : (x : Expr) (parts : List Expr) (last y : Expr) (others : List Expr) → t.equals_each x (y ∷ others) ≡ parts ++ an_expr.Eq x last (t.place_of x) ∷ [] → t.member x y others ≡ any_of x parts (an_expr.Eq x last (t.place_of x))
any_is x [] last y [] e = cc
any_is x [] last y (z ∷ others) e = cc
any_is x (p ∷ []) last y [] e = cc
any_is x (p ∷ (q ∷ parts)) last y [] e = cc
any_is x (p ∷ parts) last y (z ∷ others) e = ap (λ z. an_expr.Or z (t.place_of x)) e

numbers_more : (before first r : Built Expr) (done : List (Built Expr)) (n now after : Numbers) (x y v : Expr) (ys : List Expr)
    → (both before (both first (each done))).build n ≡ ((x, (y, ys)), now) → r.build now ≡ (v, after)
    → (both before (both first (each (done ++ r ∷ [])))).build n ≡ ((x, (y, ys ++ v ∷ [])), after)
numbers_more before first r done n now after x y v ys e i =
    let p = before.build n in
    let q = first.build p.1 in
    ap (λ s. ((p.0, (q.0, s.0)), s.1)) (each_more done r q.1)
    ∙ ap (λ s. let w = r.build s.1 in ((s.0.0, (s.0.1.0, s.0.1.1 ++ w.0 ∷ [])), w.1)) e
    ∙ ap (λ w. ((x, (y, ys ++ w.0 ∷ [])), w.1)) i

behind_more : (done others : List (Built Expr)) (left : t.Left) → behind_commas (done ++ others) left ≡ behind_commas done left + behind_commas others left
behind_more [] others left = let none : behind_commas [] left ≡ 0 = no_members [] left refl in omega (arith, none)
behind_more (v ∷ done) others left =
    let all : behind_commas (v ∷ (done ++ others)) left ≡ (t.weight left + v.copies) + behind_commas (done ++ others) left = one_more_comma v (done ++ others) left in
    let so_far : behind_commas (v ∷ done) left ≡ (t.weight left + v.copies) + behind_commas done left = one_more_comma v done left in
    omega (arith, all, so_far, behind_more done others left)

module _ (levels : ℕ) (deeper : Deeper) (d : DeeperAgrees levels deeper) where
  module _ (sought : Sought) (before member : Built Expr) (count : ℕ) (weighs : sought.weight ≡ t.weight (before, count)) (began begun : Cursor) where
    abbrev own_cost : List (Built Expr) → ℕ
    own_cost others = (t.in_list None (member, others) (before, count)).copies

    -- what more members cost
    cost_more : (done others : List (Built Expr)) → own_cost (done ++ others) ≡ own_cost done + members_cost (before, count) others
    cost_more done others =
        let all : own_cost (done ++ others) ≡ before.copies + (member.copies + behind_commas (done ++ others) (before, count)) = list_adds None (member, done ++ others) (before, count) in
        let so_far : own_cost done ≡ before.copies + (member.copies + behind_commas done (before, count)) = list_adds None (member, done) (before, count) in
        omega (arith, all, so_far, behind_more done others (before, count))

    cost_one : (done : List (Built Expr)) (x : Built Expr) → own_cost (done ++ x ∷ []) ≡ own_cost done + (sought.weight + x.copies)
    cost_one done x =
        let none : members_cost (before, count) [] ≡ 0 = no_members [] (before, count) refl in
        let one : members_cost (before, count) (x ∷ []) ≡ (t.weight (before, count) + x.copies) + members_cost (before, count) [] = one_more_comma x [] (before, count) in
        omega (arith, cost_more done (x ∷ []), one, none, weighs)

    abbrev Listed : Reading Expr → Type 0
    Listed r = Agrees tails.commas levels (λ others. t.in_list None (member, others) (before, count)) (λ others. t.in_list None (member, others) (before, count)) began begun r

    -- each of those that were read but the last was compared with the value
    record SoFar (done : List (Built Expr)) (found : List Expr × Expr) (now : Cursor) : Type 0 where
      one : Expr
      others : List Expr
      numbers : (both before (both member (each done))).build began.numbers ≡ ((sought.value, (one, others)), now.numbers)
      copies : now.copies ≡ began.copies + own_cost done
      members : t.equals_each sought.value (one ∷ others) ≡ found.0 ++ an_expr.Eq sought.value found.1 (t.place_of sought.value) ∷ []

    abbrev Tested : Reading (List Expr × Expr) → Type 0
    Tested r = Listed (r >>= λ found. done (any_of sought.value found.0 (an_expr.Eq sought.value found.1 (t.place_of sought.value))))

    module _ (some : List (Built Expr)) (found : List Expr × Expr) (now : Cursor) (l : SoFar some found now) where
      members_end : Takes tails.commas levels begun.tokens some now.tokens → Extends begun now → Tested (Ok found, now)
      members_end takes x = built whole some takes x (record {
        numbers = ap (λ z. (t.member z.0.0 z.0.1.0 z.0.1.1, z.1)) l.numbers ∙ ap (λ z. (z, now.numbers)) (any_is sought.value found.0 found.1 l.one l.others l.members);
        copies = l.copies;
      })

      module _ {room : ℕ} {mid : Cursor} {word : Lexeme} (i : PassesWithin (same k.Comma) room now word mid) where
        still : mid.copies ≡ now.copies
        still = ap (λ z. z.copies) i.passes.moved

        one_read : {paid after : Cursor} {y : Expr} (x : Built Expr) → Paid sought.weight mid paid → Builds x paid y after → SoFar (some ++ x ∷ []) (found.0 ++ an_expr.Eq sought.value found.1 (t.place_of sought.value) ∷ [], y) after
        one_read {after = after} {y = y} x c b = record {
          one = l.one;
          others = l.others ++ y ∷ [];
          numbers = numbers_more before member x some began.numbers now.numbers after.numbers sought.value l.one y l.others l.numbers
              (subst (λ z. x.build z ≡ (y, after.numbers)) (ap (λ z. z.numbers) c ∙ ap (λ z. z.numbers) i.passes.moved) b.numbers);
          copies = omega (arith, l.copies, b.copies, cost_one some x, still, ap (λ z. z.copies) c);
          members = equals_more sought.value (l.one ∷ l.others) y ∙ ap (λ z. z ++ an_expr.Eq sought.value y (t.place_of sought.value) ∷ []) l.members;
        }

        -- a copy passes the limit
        too_much : Continues copies_nothing (in_factored None tails.commas) now.tokens (in_factored None tails.commas) begun.tokens (λ others. some ++ others) → Copies sought.weight mid (Err (Limit limit.Copies)) mid
            → CopiesTooMuch tails.commas (λ others. t.in_list None (member, others) (before, count)) began begun mid
        too_much goes over = record {
          token = word;
          overspends = overspends_from copies_nothing (in_factored None tails.commas) now.tokens (in_factored None tails.commas) begun.tokens (λ others. some ++ others) goes
              (members_cost (before, count)) own_cost most_copies now.copies began.copies
              (λ others. omega (arith, cost_more some others, l.copies)) (word ∷ mid.tokens)
              (subst (λ z. Overspends copies_nothing (in_factored None tails.commas) (members_cost (before, count)) most_copies now.copies z (word ∷ mid.tokens)) (sym i.passes.stood)
              (comma_too_much (before, count) most_copies now.copies (word ∷ mid.tokens) mid.tokens word refl i.passes.of_kind within passed));
        }
          where
            within : now.copies ≤ most_copies
            within = omega (arith, still, over.3)

            passed : most_copies < now.copies + t.weight (before, count)
            passed = omega (arith, still, over.2, weighs)

    all_members : (found : List Expr × Expr) → SoFar [] found begun → Tested (repeated comma (next_member levels deeper sought) most_separators found begun)
    unfolding compared_copy
    all_members found l = repeats begun (ref grammar.expr) (λ word x. x) (same k.Comma) (λ others. others) Tested comma (λ room now t mid. PassesWithin (same k.Comma) room now t mid) (λ room now t mid i. skipped_word refl i)
        (λ room now go. by_eaten_alone Tested k.Comma now room go) refl (begins_skip (same k.Comma) (ref grammar.expr)) refl (next_member levels deeper sought) SoFar (λ some x now l. l.copies) (λ some x now l room at v t. t)
        (λ some x now l none n takes e. members_end some x now l takes e)
        (λ some found now l goes room word mid i s again go.
        by_copied (λ r. Tested ((r >>= λ equal c. expr levels deeper c >>= λ y. done (found.0 ++ equal ∷ [], y)) >>= again)) mid sought.weight (λ u. done (an_expr.Eq sought.value found.1 (t.place_of sought.value)))
        (λ paid c. let m = there (whole {N = ref grammar.expr} {start = mid}) (tokens_copied sought.weight mid paid c) (extends_copied sought.weight c) in
        by_made Tested (Agrees (ref grammar.expr) levels (λ read. read) (λ read. read) paid paid) (expr levels deeper paid) (λ y. (found.0 ++ an_expr.Eq sought.value found.1 (t.place_of sought.value) ∷ [], y)) again
        (expr_agrees levels deeper d paid)
        (λ y after u. let read = u.reads.answers in go read.read _ after (steps.takes m.left read.takes) (m.extends ⨟ u.extends) (one_read some found now l i read.read c read.builds))
        (λ fault after u. stopped (inside s (all_left m)) (λ x. omega (arith, cost_one some x, l.copies, still some found now l i, ap (λ z. z.copies) c)) u))
        (λ over. record { reads = record { answers = steps.refuses s.blocks (too_many_copies sought.weight mid mid over) }; copied = record { answers = record { says = too_much some found now l i goes over } }; extends = s.extends }))
        most_separators [] found begun l (λ e. refl) whole

  pub members_agrees : (before member : Built Expr) (count : ℕ) (began middle now : Cursor) (sought : Sought) (first : Expr) → sought.weight ≡ t.weight (before, count)
      → Builds before began sought.value middle → Builds member middle first now
      → Agrees tails.commas levels (λ others. t.in_list None (member, others) (before, count)) (λ others. t.in_list None (member, others) (before, count)) began now (members levels deeper sought first now)
  unfolding members
  members_agrees before member count began middle now sought first weighs b c =
      let all = built_both b (built_both c (plain_here {value = []})) in
      let cost_first : (t.in_list None (member, []) (before, count)).copies ≡ before.copies + (member.copies + behind_commas [] (before, count)) = list_adds None (member, []) (before, count) in
      let none : behind_commas [] (before, count) ≡ 0 = no_members [] (before, count) refl in
      all_members sought before member count weighs began now ([], first) (record { one = first; others = []; numbers = all.numbers; copies = omega (arith, all.copies, cost_first, none); members = refl })
