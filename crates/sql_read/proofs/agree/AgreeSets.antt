-- The readers of queries and of the set operators between them agree with the left-factored grammar.
use Rattle.std.proofs.Common.{◌≡◌, ℕ, ◌+◌, ◌<◌, Bool, true, false, List, [], ◌∷◌, ◌++◌, Option, Some, None, Err, refl, sym, ap, arith, inl, inr}
use Rattle.grammar.specs.Form.{ref, seq, star}
use Rattle.grammar.proofs.readers.Predictions.{ok, ahead}
use Rattle.sql_lex.specs.Lexemes.{Lexeme}
use Rattle.sql_model.specs.declared.tree.Query.{Query}
use Rattle.sql_model.specs.declared.tree.Query.TheVariants as a_query
use Rattle.sql_model.specs.Syntax.{Except, Intersect, Union, UnionAll}
use Rattle.sql_cursor.specs.declared.fault.ReadFault.{ReadFault}
use Rattle.sql_cursor.specs.declared.fault.ReadFault.TheVariants.{TooDeep}
use Rattle.sql_cursor.specs.Cursor.{Cursor}
use Rattle.sql_cursor.specs.Eating.{Extends, Overflows, is_next}
use Rattle.sql_read.specs.Reads.{Builds, Takes, entries_too}
use Rattle.sql_read.specs.Reading.{Deeper, block, intersect_word, intersects, operand, part, query, set_tail, set_word, unions}
use Rattle.sql_cursor.specs.Readers.{Reader, Reading, ◌>>=◌, done, repeated}
use Rattle.sql_grammar.specs.declared.kinds.Kind.TheVariants as kind
use Rattle.sql_grammar.specs.declared.kinds.Kind.{Kind}
use Rattle.sql_grammar.specs.Kinds.{among, same}
use Rattle.sql_grammar.specs.Numbering.{Built, both, mapped as built_mapped}
use Rattle.sql_grammar.specs.QueryGrammar as grammar
use Rattle.sql_grammar.specs.QueryTails as further
use Rattle.sql_grammar.specs.QueryGrammar.{The, intersect, next_intersect, next_union, union_or_except, most_operators}
use Rattle.sql_grammar.specs.QueryTrees.{SetWord, sets}
use Rattle.sql_grammar.proofs.copies.QueryFillings.{fill_none, fill_query}
use Rattle.sql_grammar.proofs.queries.QueryTable.{left_factored}
use Rattle.sql_read.proofs.steps.AgreeDeeper.{DeeperAgrees}
use Rattle.sql_read.proofs.steps.AgreeLoops.{IsWord, parts_repeat, same_by}
use Rattle.sql_read.proofs.steps.AgreeSteps.{by_eaten_alone, closes, fill_group, first_unless, none_here, other_where}
use Rattle.sql_read.proofs.steps.Agreeing.{Agrees, Residual, all_left, behind, behind_taken, built, by_eaten, by_eaten_within, by_token, ends_in, mapped, nested, other_unless, production, then_tail, too_deep_here, whole}
use Rattle.sql_cursor.proofs.code.Extending.{◌⨟◌, extends_passes, extends_within}
use Rattle.sql_read.proofs.steps.ReadLoops.{Begins}
use Rattle.sql_read.proofs.steps.ReadPassing as p
use Rattle.sql_read.proofs.steps.ReadPassing.{Alike, ◌then◌, alike_passes, alike_within, built_from, passes_alone, either_next, neither_next, or_next}
use Rattle.sql_read.proofs.steps.ReadSteps as steps
use Rattle.sql_read.proofs.steps.ReadSteps.{begins_with, next_there, none_taken, some_left, starts, took_token}
use Rattle.sql_read.proofs.parts.ReadBegins.{begins_each}
use Rattle.sql_read.proofs.agree.AgreeBlocks.{block_agrees}

-- ---- chains of set operators

sets_more : (first : Built Query) (done : List (SetWord × Built Query)) (word : SetWord) (q : Built Query)
    → sets first (done ++ (word, q) ∷ []) ≡ built_mapped (λ p. a_query.Set word.0 p.0 p.1 word.1) (both (sets first done) q)
sets_more first [] word q = refl
sets_more first (p ∷ done) word q = sets_more (built_mapped (λ q. a_query.Set p.0.0 q.0 q.1 p.0.1) (both first p.1)) done word q

module _ {W : Type 0} (f : The SetWord) (g : The (Built Query)) (q : Kind → Bool) (levels : ℕ) (word : ℕ → Reader (Option W)) (value : W → SetWord) (right : Reader Query)
    (by_word : (P : Reading Query → Type 0) (room : ℕ) (here : Cursor) (next : Option W → Reader Query)
    → ((w : W) (mid : Cursor) → IsWord entries_too (seq f g) g (λ u. (value w, u)) q levels room here mid → P (next (Some w) mid))
    → ((at : ℕ) → Overflows q room here (TooDeep at) here → P (Err (TooDeep at), here)) → (is_next q here.tokens ≡ false → P (next None here)) → P (word room here >>= next))
    (right_agrees : (c : Cursor) → Agrees g levels (λ read. read) (λ read. read) c c (right c))
    (o : ok left_factored (star None (seq f g)) ≡ true) (i : Begins q (seq f g)) (b : begins_with q (ahead left_factored (seq f g)) ≡ true) where
  abbrev set : Query → W → Reader Query
  set left w c = right c >>= λ r. done (a_query.Set (value w).0 left r (value w).1)

  module _ (first : Built Query) (start begun : Cursor) where
    abbrev Chain : Reading Query → Type 0
    Chain r = Agrees (star (Some most_operators) (seq f g)) levels (λ more. sets first more) (λ more. sets first more) start begun r

    abbrev Word : ℕ → Cursor → W → Cursor → Type 0
    Word room now w mid = IsWord entries_too (seq f g) g (λ u. (value w, u)) q levels room now mid

    sets_agree : (left : Query) → Builds first start left begun → Chain (repeated word set most_operators left begun)
    sets_agree left t = parts_repeat begun g (λ w u. (value w, u)) q (λ more. more) Chain word Word (λ room now w mid has. has) (by_word Chain) o i b right right_agrees (λ left w r. a_query.Set (value w).0 left r (value w).1) (sets first)
        (λ done w u. same_by (sets_more first done (value w) u)) (λ done. refl) (λ fault end t. t) (λ done x now r none n t e. built whole done t e r) most_operators left t whole

-- ---- the words of set operators

abbrev intersect_kinds : Kind → Bool
intersect_kinds = among (kind.Intersect ∷ [])

abbrev union_kinds : Kind → Bool
union_kinds = among (kind.Union ∷ kind.Except ∷ [])

begins_intersect : Begins intersect_kinds next_intersect
begins_intersect = begins_each next_intersect (kind.Intersect ∷ []) ((same kind.Intersect, λ t i. inl (inr (t, refl, i))) ∷ []) refl

begins_union : Begins union_kinds next_union
begins_union = begins_each next_union (kind.Union ∷ kind.Except ∷ []) ((same kind.Union, λ t i. inl (inl (inl (inr (t, refl, i))))) ∷ (same kind.Except, λ t i. inl (inr (inr (t, refl, i)))) ∷ []) refl

module _ {room : ℕ} {here : Cursor} where
  full_too : {q : Kind → Bool} {fault : ReadFault} → is_next union_kinds here.tokens ≡ true → Overflows q room here fault here → Overflows union_kinds room here fault here
  full_too n v = record { still = v.still; full = v.full; next = n; at = v.at; place = v.place; too_deep = v.too_deep }

  module _ {levels : ℕ} {g : The (Built Query)} {mid : Cursor} where
    set_word_read : {f : The SetWord} {q : Kind → Bool} {word : SetWord} → ok left_factored (seq f g) ≡ true → Takes f levels here.tokens word mid.tokens → Extends here mid → is_next q here.tokens ≡ true → 0 < room → Alike here mid
        → IsWord entries_too (seq f g) g (λ u. (word, u)) q levels room here mid
    set_word_read s t x n m alike = record { rest = behind_taken whole s t x; next = n; room_left = m; alike = alike }

module _ (P : Reading Query → Type 0) (levels room : ℕ) (here : Cursor) where
  by_intersect : (next : Option Lexeme → Reader Query) → ((t : Lexeme) (mid : Cursor) → IsWord entries_too next_intersect (ref grammar.operand) (λ u. ((Intersect, t.start), u)) intersect_kinds levels room here mid → P (next (Some t) mid))
      → ((at : ℕ) → Overflows intersect_kinds room here (TooDeep at) here → P (Err (TooDeep at), here)) → (is_next intersect_kinds here.tokens ≡ false → P (next None here)) → P (intersect_word room here >>= next)
  by_intersect next there full absent = by_eaten_within P intersect_kinds here room next
      (λ t mid q. there t mid (set_word_read refl (steps.takes (steps.mapped steps.whole) (took_token levels (passes_alone kind.Intersect q.passes))) (extends_within q)
      (next_there intersect_kinds here mid t q.passes) q.room_left (alike_within q))) full absent

  by_set_word : (next : Option SetWord → Reader Query) → ((w : SetWord) (mid : Cursor) → IsWord entries_too next_union (ref grammar.part) (λ u. (w, u)) union_kinds levels room here mid → P (next (Some w) mid))
      → ((at : ℕ) → Overflows union_kinds room here (TooDeep at) here → P (Err (TooDeep at), here)) → (is_next union_kinds here.tokens ≡ false → P (next None here)) → P (set_word room here >>= next)
  unfolding set_word
  by_set_word next there full absent =
      by_eaten_alone (λ r. P (r >>= next)) kind.Union here room _
      (λ word mid q. let n = either_next (same kind.Union) (among (kind.Except ∷ [])) here.tokens (next_there (same kind.Union) here mid word q.passes) in
      let l = behind (mapped (by_token (whole {N = union_or_except} {e = levels} {start = here}) refl q.passes (inl (starts q.passes)))) refl q.passes in
      by_eaten (λ r. P (r >>= next)) (same kind.All) mid _
      (λ all after i. there (UnionAll, word.start) after
      (set_word_read refl (steps.takes (some_left l.left refl i (starts i)) (took_token levels i)) (extends_within q ⨟ extends_passes i) n q.room_left (alike_within q then alike_passes i)))
      (λ m. there (Union, word.start) mid (set_word_read refl (steps.takes l.left (none_taken levels refl refl (none_here (same kind.All) mid m))) (extends_within q) n q.room_left (alike_within q))))
      (λ at q. full at (full_too (either_next (same kind.Union) (among (kind.Except ∷ [])) here.tokens q.next) q))
      (λ n. let l = mapped (other_unless (same kind.Union) (whole {N = union_or_except} {e = levels} {start = here}) refl refl n) in
      by_eaten_within (λ r. P (r >>= next)) (among (kind.Except ∷ [])) here room _
      (λ word mid q. there (Except, word.start) mid
      (set_word_read refl (steps.takes l.left (took_token levels (passes_alone kind.Except q.passes))) (extends_within q)
      (or_next (same kind.Union) (among (kind.Except ∷ [])) here.tokens (next_there (among (kind.Except ∷ [])) here mid word q.passes)) q.room_left (alike_within q)))
      (λ at q. full at (full_too (or_next (same kind.Union) (among (kind.Except ∷ [])) here.tokens q.next) q))
      (λ m. absent (neither_next (same kind.Union) (among (kind.Except ∷ [])) here.tokens n m)))

-- ---- the readers

module _ (levels : ℕ) (deeper : Deeper) (d : DeeperAgrees levels deeper) where
  pub operand_agrees : (c : Cursor) → Agrees (ref grammar.operand) levels (λ read. read) (λ read. read) c c (operand levels deeper c)
  unfolding operand
  operand_agrees c = by_eaten_alone (Agrees (ref grammar.operand) levels (λ read. read) (λ read. read) c c) kind.Open c levels _
      (λ t mid q. closes (deeper.query mid) (λ q. q) (behind (nested (mapped (parenthesized (next_there (same kind.Open) c mid t q.passes))) q.room_left) refl q.passes) refl
      (λ v. ap (λ z. z + v.copies) (sym (alike_within q).copies)) (λ v y end b. built_from (alike_within q) b) ((d q.room_left).query mid))
      (λ at q. too_deep_here (all_left (mapped (parenthesized q.next))) (fill_group fill_query) (omega arith) (p.overflows q))
      (λ n. ends_in (block levels deeper c) (first_unless (same kind.Open) (production grammar.operand whole) refl refl n) (λ v. refl) (block_agrees levels deeper d c))
    where
      parenthesized : is_next (same kind.Open) c.tokens ≡ true → Residual (grammar.parens (ref grammar.query)) levels c (ref grammar.operand) levels c (λ read. read)
      parenthesized n = other_where (same kind.Open) (production grammar.operand whole) refl refl n

  pub intersects_agrees : (before : Built Query) (start now : Cursor) (left : Query) → Builds before start left now
      → Agrees grammar.intersects levels (λ more. sets before more) (λ more. sets before more) start now (intersects levels deeper left now)
  unfolding intersects
  intersects_agrees before start now left t = sets_agree intersect (ref grammar.operand) intersect_kinds levels intersect_word (λ word. (Intersect, word.start)) (operand levels deeper)
      (λ P. by_intersect P levels) operand_agrees refl begins_intersect refl before start now left t

  pub part_agrees : (c : Cursor) → Agrees (ref grammar.part) levels (λ read. read) (λ read. read) c c (part levels deeper c)
  unfolding part
  part_agrees c =
      then_tail (operand levels deeper c) (intersects levels deeper) (operand_agrees c) (mapped (production grammar.part whole)) refl (fill_none (Some most_operators) next_intersect) (λ v. refl)
      (λ read first mid b. intersects_agrees read c mid first b)

  pub unions_agrees : (before : Built Query) (start now : Cursor) (left : Query) → Builds before start left now
      → Agrees grammar.unions levels (λ more. sets before more) (λ more. sets before more) start now (unions levels deeper left now)
  unfolding unions
  unions_agrees before start now left t = sets_agree union_or_except (ref grammar.part) union_kinds levels set_word (λ word. word) (part levels deeper)
      (λ P. by_set_word P levels) part_agrees refl begins_union refl before start now left t

  pub query_agrees : (c : Cursor) → Agrees (ref grammar.query) levels (λ read. read) (λ read. read) c c (query levels deeper c)
  unfolding query
  query_agrees c =
      then_tail (part levels deeper c) (unions levels deeper) (part_agrees c) (mapped (production grammar.query whole)) refl (fill_none (Some most_operators) next_union) (λ v. refl) (λ read first mid b. unions_agrees read c mid first b)

  pub set_tail_agrees : (before : Built Query) (start now : Cursor) (first : Query) → Builds before start first now
      → Agrees (ref further.set_tail) levels (λ tail. tail before) (λ tail. tail before) start now (set_tail levels deeper first now)
  unfolding set_tail
  set_tail_agrees before start now first b =
      then_tail (intersects levels deeper first now) (unions levels deeper) (intersects_agrees before start now first b) (mapped (production further.set_tail whole)) refl (fill_none (Some most_operators) next_union) (λ v. refl)
      (λ read left mid b. unions_agrees (sets before read) start mid left b)
