-- The readers count the nodes that begin.
use Rattle.std.proofs.Common.{◌≡◌, ◌≢◌, ℕ, zero, suc, ◌+◌, ◌*◌, ◌-◌, ◌<◌, ◌≤◌, Bool, true, false, not, ◌&&◌, ◌||◌, List, [], ◌∷◌, ◌++◌, length, Ok, Err, refl, sym, ap, ◌∙◌, subst, arith, append_assoc}
use Rattle.std.specs.Prelude.{◌==◌, nat_lt, if◌then◌else◌}
use Rattle.std.proofs.lemmas.Bool.{eq-eqb, eqb-true, ltb-true}
use Rattle.std.proofs.Math.Bool.{and-false}
use Rattle.std.specs.List.{list_all}
use Rattle.grammar.proofs.languages.Sets.{and_left}
use Rattle.u_terms.specs.declared.term.U.{U}
use Rattle.u_terms.specs.declared.term.Val.{Val}
use Rattle.u_terms.specs.declared.term.U.TheVariants as u
use Rattle.u_terms.specs.declared.term.Val.TheVariants as v
use Rattle.proof_text.specs.declared.cursor.Stop.{Stop}
use Rattle.proof_text.specs.declared.cursor.Stop.TheVariants.{Unexpected, TooMany, TooDeep}
use Rattle.proof_text.specs.Signs as s
use Rattle.proof_text.specs.Signs.{Sign, code, sign, signs}
use Rattle.proof_text.specs.Grammar.{begins_term, begins_value}
use Rattle.proof_text.specs.Reading.{Rest, Reading, ◌>>=◌, next, passed, bad, entered, expected, is_longer, longest, within, both, pair_of, values_with, values_at, list_of, numbered, number_at, term_with, value_with, term_at, value_at}
use Rattle.proof_text.specs.Begun.{Begun, is_parenthesis, opens, begun_with, begun_from}
use Rattle.proof_text.proofs.reading.OneLine.{every}
use Rattle.proof_text.proofs.reading.NumbersRead.{not_equal}

-- ---- no more nodes than so many, at any place of a text
pub data Kept (most : ℕ) : Begun → List ℕ → Type 0 where
  at_end : {b : Begun} → b.nodes ≤ most → Kept most b []
  then_more : {b : Begun} {byte : ℕ} {text : List ℕ} → b.nodes ≤ most → Kept most (begun_with b byte) text → Kept most b (byte ∷ text)

pub begun_from-append : (b : Begun) (x y : List ℕ) → begun_from b (x ++ y) ≡ begun_from (begun_from b x) y
begun_from-append b [] y = refl
begun_from-append b (byte ∷ x) y = begun_from-append (begun_with b byte) x y

pub kept-append : {most : ℕ} {b : Begun} {x : List ℕ} (y : List ℕ) → Kept most b x → Kept most (begun_from b x) y → Kept most b (x ++ y)
kept-append y (at_end h) k = k
kept-append y (then_more h r) k = then_more h (kept-append y r k)

-- ---- what was passed began as many nodes as may come no more
pub record Passed (b : Begun) (before after : Rest) : Type 0 where
  pub taken : List ℕ
  pub whole : before.text ≡ taken ++ after.text
  pub count : (begun_from b taken).nodes + after.nodes ≡ b.nodes + before.nodes
  pub kept : Kept (b.nodes + before.nodes) b taken

-- the same, and whether a node may begin behind it
pub record Moves (b : Begun) (last : Bool) (before after : Rest) : Type 0 where
  pub passed : Passed b before after
  pub state : (begun_from b passed.taken).may ≡ last

-- a node begins next
pub record BeginsNext (b : Begun) (after : Rest) : Type 0 where
  pub byte : ℕ
  pub more : List ℕ
  pub text : after.text ≡ byte ∷ more
  pub one_more : (begun_with b byte).nodes ≡ b.nodes + 1

-- where a node is too many, none may come any more, and where one is too deep, one might
abbrev pub Full : Stop → Begun → Rest → Type 0
Full TooMany b after = (after.nodes ≡ 0) × BeginsNext b after
Full TooDeep b after = 0 < after.nodes
Full _ b after = Unit {0}

-- where it stopped
pub record Halted (b : Begun) (stop : Stop) (before after : Rest) : Type 0 where
  pub passed : Passed b before after
  pub full : Full stop (begun_from b passed.taken) after

abbrev pub At : {A : Type 0} → Begun → Bool → Rest → Reading A → Type 0
At b last before (Ok v, after) = Moves b last before after
At b last before (Err stop, after) = Halted b stop before after

abbrev pub Counts : {A : Type 0} → Bool → Bool → Rest → Reading A → Type 0
Counts may last before reading = (b : Begun) → b.may ≡ may → At b last before reading

abbrev still : (b : Begun) (rest : Rest) → Passed b rest rest
still b rest = record { taken = []; whole = refl; count = refl; kept = at_end (omega arith) }

stuck : (A : Type 0) (may last : Bool) (rest : Rest) → Counts {A = A} may last rest (bad rest)
stuck A may last rest b e = record { passed = still b rest; full = tt }

done : {A : Type 0} (may : Bool) (a : A) (rest : Rest) → Counts may may rest (Ok a, rest)
done may a rest b e = record { passed = still b rest; state = e }

abbrev further : {b : Begun} {before middle after : Rest} (p : Passed b before middle) → Passed (begun_from b p.taken) middle after → Passed b before after
further {b = b} p q = record {
  taken = p.taken ++ q.taken;
  whole = p.whole ∙ ap (λ z. p.taken ++ z) q.whole ∙ sym (append_assoc p.taken q.taken _);
  count = rw (begun_from-append b p.taken q.taken) (omega (arith, p.count, q.count));
  kept = kept-append q.taken p.kept (subst (λ m. Kept m (begun_from b p.taken) q.taken) p.count q.kept);
}

moves : {last : Bool} {b : Begun} {before middle after : Rest} (p : Passed b before middle) → Moves (begun_from b p.taken) last middle after → Moves b last before after
moves {b = b} p m = record { passed = further p m.passed; state = ap (λ (z : Begun). z.may) (begun_from-append b p.taken m.passed.taken) ∙ m.state }

halts : {stop : Stop} {b : Begun} {before middle after : Rest} (p : Passed b before middle) → Halted (begun_from b p.taken) stop middle after → Halted b stop before after
halts {stop = stop} {b = b} {after = after} p m = record {
  passed = further p m.passed;
  full = subst (λ (z : Begun). Full stop z after) (sym (begun_from-append b p.taken m.passed.taken)) m.full;
}

module _ {A B : Type 0} (may mid last : Bool) (before : Rest) where
  pub after_it : (reading : Reading A) (more : A → Rest → Reading B) → Counts may mid before reading → ((v : A) (r : Rest) → Counts mid last r (more v r)) → Counts may last before (reading >>= more)
  after_it (Err stop, r) more c k b e = c b e
  after_it (Ok v, r) more c k b e = joined (more v r) (k v r (begun_from b (c b e).passed.taken) (c b e).state)
    where
      joined : (reading : Reading B) → At (begun_from b (c b e).passed.taken) last r reading → At b last before reading
      joined (Ok w, z) d = moves (c b e).passed d
      joined (Err stop, z) d = halts (c b e).passed d

gives : {A B : Type 0} (may last : Bool) (before : Rest) (reading : Reading A) (h : A → B) → Counts may last before reading → Counts may last before (reading >>= λ v r. (Ok (h v), r))
gives may last before (Ok v, r) h c = c
gives may last before (Err stop, r) h c = c

-- one byte that begins no node
one : (may last : Bool) (nodes byte : ℕ) (text : List ℕ) → (code (sign byte) == 23) ≡ false → (may && not (is_parenthesis (sign byte))) ≡ false → opens (sign byte) ≡ last
    → (b : Begun) → b.may ≡ may → Moves b last (record { nodes = nodes; text = byte ∷ text }) (record { nodes = nodes; text = text })
one may last nodes byte text n e o b i =
    let z : (b.may && not (is_parenthesis (sign byte))) ≡ false = rw i e in
    let w : begun_with b byte ≡ record { nodes = b.nodes + 0; may = opens (sign byte) } = rw (n, z) refl in
    record {
      passed = record { taken = byte ∷ []; whole = refl; count = rw w (omega arith); kept = then_more (omega arith) (rw w (at_end {b = record { nodes = b.nodes + 0; may = opens (sign byte) }} (omega arith))) };
      state = rw w o;
    }

no_space : (c : ℕ) (k : Sign) → (code k == c) ≡ true → (23 == c) ≡ false → (code k == 23) ≡ false
no_space c k e n = let i : code k ≡ c = eqb-true (code k) c e in rw i (not_equal c 23 (λ j. let t : (23 == c) ≡ true = eq-eqb 23 c (sym j) in cc))

module _ (may last : Bool) (c : ℕ) (no_end : (54 == c) ≡ false) (space : (23 == c) ≡ false) (none : (byte : ℕ) → (code (sign byte) == c) ≡ true → (may && not (is_parenthesis (sign byte))) ≡ false) (behind : (byte : ℕ) → (code (sign byte) == c) ≡ true → opens (sign byte) ≡ last) where
  expecting : (rest : Rest) → Counts may last rest (expected c rest)
  expecting rest = at rest.nodes rest.text
    where
      at : (nodes : ℕ) (text : List ℕ) → Counts may last (record { nodes = nodes; text = text }) (expected c (record { nodes = nodes; text = text }))
      at nodes [] = rw no_end (stuck (Unit {0}) may last (record { nodes = nodes; text = [] }))
      at nodes (byte ∷ text) = go (code (sign byte) == c) refl
        where
          go : (b : Bool) → (code (sign byte) == c) ≡ b
              → Counts {A = Unit {0}} may last (record { nodes = nodes; text = byte ∷ text }) (if b then (Ok (tt {0}), record { nodes = nodes; text = text }) else (Err Unexpected, record { nodes = nodes; text = byte ∷ text }))
          go true e = one may last nodes byte text (no_space c (sign byte) e space) (none byte e) (behind byte e)
          go false e = stuck (Unit {0}) may last (record { nodes = nodes; text = byte ∷ text })

opening : (may : Bool) (rest : Rest) → Counts may true rest (expected 20 rest)
opening may = expecting may true 20 refl refl (λ byte e. let i : code (sign byte) ≡ 20 = eqb-true (code (sign byte)) 20 e in rw i (and-false may)) (λ byte e. let i : code (sign byte) ≡ 20 = eqb-true (code (sign byte)) 20 e in rw i refl)

comma : (rest : Rest) → Counts false true rest (expected 22 rest)
comma = expecting false true 22 refl refl (λ byte e. refl) (λ byte e. let i : code (sign byte) ≡ 22 = eqb-true (code (sign byte)) 22 e in rw i refl)

closing : (rest : Rest) → Counts false false rest (expected 21 rest)
closing = expecting false false 21 refl refl (λ byte e. refl) (λ byte e. let i : code (sign byte) ≡ 21 = eqb-true (code (sign byte)) 21 e in rw i refl)

-- ---- numbers
digit_opens : (c : ℕ) → nat_lt c 10 ≡ true → ((c == 20) || (c == 22)) ≡ false
digit_opens c e = let h : c < 10 = ltb-true c 10 e in rw (not_equal c 20 (λ i. omega arith), not_equal c 22 (λ i. omega arith)) refl

digit_space : (c : ℕ) → nat_lt c 10 ≡ true → (c == 23) ≡ false
digit_space c e = let h : c < 10 = ltb-true c 10 e in not_equal c 23 (λ i. omega arith)

digit_counts : (nodes byte : ℕ) (text : List ℕ) → nat_lt (code (sign byte)) 10 ≡ true → (b : Begun) → b.may ≡ false → Moves b false (record { nodes = nodes; text = byte ∷ text }) (record { nodes = nodes; text = text })
digit_counts nodes byte text e = one false false nodes byte text (digit_space (code (sign byte)) e) refl (digit_opens (code (sign byte)) e)

longest_moves : (m nodes : ℕ) (text : List ℕ) (b : Begun) → b.may ≡ false → Moves b false (record { nodes = nodes; text = text }) (record { nodes = nodes; text = (longest m text).1 })
longest_moves m nodes [] b i = record { passed = still b (record { nodes = nodes; text = [] }); state = i }
longest_moves m nodes (byte ∷ text) b i = go (is_longer m (code (sign byte))) refl (λ b i. longest_moves (10 * m + code (sign byte)) nodes text b i)
  where
    go : (x : Bool) → is_longer m (code (sign byte)) ≡ x → ((b : Begun) → b.may ≡ false → Moves b false (record { nodes = nodes; text = text }) (record { nodes = nodes; text = (longest (10 * m + code (sign byte)) text).1 }))
        → Moves b false (record { nodes = nodes; text = byte ∷ text }) (record { nodes = nodes; text = (if x then longest (10 * m + code (sign byte)) text else (m, byte ∷ text)).1 })
    go true e k =
        let d = digit_counts nodes byte text (and_left (nat_lt (code (sign byte)) 10) _ e) b i in
        moves d.passed (k (begun_from b d.passed.taken) d.state)
    go false e k = record { passed = still b (record { nodes = nodes; text = byte ∷ text }); state = i }

number_counts : (rest : Rest) → Counts false false rest (number_at rest)
unfolding number_at
number_counts rest = at rest.nodes rest.text
  where
    at : (nodes : ℕ) (text : List ℕ) → Counts false false (record { nodes = nodes; text = text }) (number_at (record { nodes = nodes; text = text }))
    at nodes [] = stuck ℕ false false (record { nodes = nodes; text = [] })
    at nodes (byte ∷ text) = go (code (sign byte) == 0) (nat_lt (code (sign byte)) 10) refl refl
      where
        go : (a b : Bool) → (code (sign byte) == 0) ≡ a → nat_lt (code (sign byte)) 10 ≡ b → Counts false false (record { nodes = nodes; text = byte ∷ text }) (number_at (record { nodes = nodes; text = byte ∷ text }))
        go true b i k = let e : code (sign byte) ≡ 0 = eqb-true (code (sign byte)) 0 i in rw i (digit_counts nodes byte text (rw e refl))
        go false true i k =
            rw (i, k)
            (λ b j. let d = digit_counts nodes byte text k b j in
            moves d.passed (longest_moves (code (sign byte)) nodes text (begun_from b d.passed.taken) d.state))
        go false false i k = rw (i, k) (stuck ℕ false false (record { nodes = nodes; text = byte ∷ text }))

-- ---- in parentheses
module _ {A : Type 0} (read : Rest → Reading A) (reads : (rest : Rest) → Counts true false rest (read rest)) where
  within_counts : (rest : Rest) → Counts false false rest (within read rest)
  within_counts rest = after_it false true false rest (expected 20 rest) (λ o r. read r >>= λ a r. expected 21 r >>= λ c r. (Ok a, r)) (opening false rest)
      (λ o r. after_it true false false r (read r) (λ a r. expected 21 r >>= λ c r. (Ok a, r)) (reads r) (λ a r. gives false false r (expected 21 r) (λ c. a) (closing r)))

  both_counts : (rest : Rest) → Counts true false rest (both read rest)
  both_counts rest = after_it true false false rest (read rest) (λ a r. expected 22 r >>= λ m r. read r >>= λ b r. (Ok (a, b), r)) (reads rest)
      (λ a r. after_it false true false r (expected 22 r) (λ m r. read r >>= λ b r. (Ok (a, b), r)) (comma r) (λ m r. gives true false r (read r) (λ b. (a, b)) (reads r)))

module _ (read : Rest → Reading Val) (reads : (rest : Rest) → Counts true false rest (read rest)) where
  values_counts : (most : ℕ) (rest : Rest) → Counts true false rest (values_at read most rest)
  unfolding values_at
  values_counts zero rest = stuck (List Val) true false rest
  values_counts (suc most) rest = after_it true false false rest (read rest) (values_with (values_at read most)) (reads rest) (λ a r. behind a r.nodes r.text (λ z. values_counts most z))
    where
      behind : (a : Val) (nodes : ℕ) (text : List ℕ) → ((z : Rest) → Counts true false z (values_at read most z)) → Counts false false (record { nodes = nodes; text = text }) (values_with (values_at read most) a (record { nodes = nodes; text = text }))
      behind a nodes [] k = stuck (List Val) false false (record { nodes = nodes; text = [] })
      behind a nodes (byte ∷ text) k = go (code (sign byte) == 22) refl
        where
          go : (b : Bool) → (code (sign byte) == 22) ≡ b → Counts false false (record { nodes = nodes; text = byte ∷ text }) (values_with (values_at read most) a (record { nodes = nodes; text = byte ∷ text }))
          go true e =
              let i : code (sign byte) ≡ 22 = eqb-true (code (sign byte)) 22 e in
              rw e (after_it {A = Unit {0}} false true false (record { nodes = nodes; text = byte ∷ text }) (Ok (tt {0}), record { nodes = nodes; text = text }) (λ t r. values_at read most r >>= λ others r. (Ok (a ∷ others), r)) (one false true nodes byte text (rw i refl) refl (rw i refl)) (λ t r. gives true false r (values_at read most r) (λ others. a ∷ others) (k r)))
          go false e = rw e (gives false false (record { nodes = nodes; text = byte ∷ text }) (expected 21 (record { nodes = nodes; text = byte ∷ text })) (λ c. a ∷ []) (closing (record { nodes = nodes; text = byte ∷ text })))

  opened_counts : (nodes : ℕ) (text : List ℕ) → Counts true false (record { nodes = nodes; text = text }) (if code (next (record { nodes = nodes; text = text })) == 21 then (Ok [], passed (record { nodes = nodes; text = text })) else values_at read (length text) (record { nodes = nodes; text = text }))
  opened_counts nodes [] = values_counts 0 (record { nodes = nodes; text = [] })
  opened_counts nodes (byte ∷ text) = go (code (sign byte) == 21) refl
    where
      go : (b : Bool) → (code (sign byte) == 21) ≡ b → Counts true false (record { nodes = nodes; text = byte ∷ text }) (if b then (Ok [], record { nodes = nodes; text = text }) else values_at read (length (byte ∷ text)) (record { nodes = nodes; text = byte ∷ text }))
      go true e = let i : code (sign byte) ≡ 21 = eqb-true (code (sign byte)) 21 e in one true false nodes byte text (rw i refl) (rw i refl) (rw i refl)
      go false e = values_counts (length (byte ∷ text)) (record { nodes = nodes; text = byte ∷ text })

  list_counts : (may : Bool) (rest : Rest) → Counts may false rest (list_of read rest)
  list_counts may rest = after_it may true false rest (expected 20 rest) (λ o r. if code (next r) == 21 then (Ok [], passed r) else values_at read (length r.text) r) (opening may rest) (λ o r. opened_counts r.nodes r.text)

numbered_counts : {A B : Type 0} (read : Rest → Reading A) (built : ℕ → A → B) → ((rest : Rest) → Counts false false rest (read rest)) → (rest : Rest) → Counts false false rest (numbered read built rest)
numbered_counts read built reads rest = after_it false false false rest (number_at rest) (λ n r. read r >>= λ a r. (Ok (built n a), r)) (number_counts rest) (λ n r. gives false false r (read r) (built n) (reads r))

module _ (term_read : Rest → Reading U) (value_read : Rest → Reading Val) (terms : (rest : Rest) → Counts true false rest (term_read rest)) (values : (rest : Rest) → Counts true false rest (value_read rest)) where
  term_with_counts : (k : Sign) (rest : Rest) → Counts false false rest (term_with term_read value_read k rest)
  term_with_counts s.Digit0 rest = done false u.Zero rest
  term_with_counts s.Digit1 rest = done false u.One rest
  term_with_counts s.Plus rest = gives false false rest (pair_of term_read rest) (λ p. u.Add p.0 p.1) (within_counts (both term_read) (both_counts term_read terms) rest)
  term_with_counts s.Star rest = gives false false rest (pair_of term_read rest) (λ p. u.Mul p.0 p.1) (within_counts (both term_read) (both_counts term_read terms) rest)
  term_with_counts s.Hash rest = gives false false rest (within term_read rest) (λ a. u.Squash a) (within_counts term_read terms rest)
  term_with_counts s.Bang rest = gives false false rest (within term_read rest) (λ a. u.Not a) (within_counts term_read terms rest)
  term_with_counts s.UpperS rest = gives false false rest (within term_read rest) (λ a. u.Sum a) (within_counts term_read terms rest)
  term_with_counts s.UpperR rest = numbered_counts (list_of value_read) (λ n a. u.Rel n a) (list_counts value_read values false) rest
  term_with_counts s.Equals rest = gives false false rest (pair_of value_read rest) (λ p. u.Eq p.0 p.1) (within_counts (both value_read) (both_counts value_read values) rest)
  term_with_counts s.UpperP rest = numbered_counts (list_of value_read) (λ n a. u.Pred n a) (list_counts value_read values false) rest
  term_with_counts _ rest = stuck U false false rest

  value_with_counts : (k : Sign) (rest : Rest) → Counts false false rest (value_with term_read value_read k rest)
  value_with_counts s.UpperF rest = numbered_counts (list_of value_read) (λ n a. v.Fun n a) (list_counts value_read values false) rest
  value_with_counts s.UpperG rest = numbered_counts (within term_read) (λ n a. v.Agg n a) (within_counts term_read terms) rest
  value_with_counts s.SmallB rest = gives false false rest (number_at rest) (λ n. v.Bound n) (number_counts rest)
  value_with_counts s.SmallC rest = gives false false rest (number_at rest) (λ n. v.Lit n) (number_counts rest)
  value_with_counts s.SmallF rest = gives false false rest (number_at rest) (λ n. v.Free n) (number_counts rest)
  value_with_counts _ rest = stuck Val false false rest

-- ---- nodes
-- a sign that begins a node is no parenthesis, no space, and opens nothing
abbrev plain_sign : Sign → Bool
plain_sign k = not (code k == 23) && (not (is_parenthesis k) && not (opens k))

pub record IsPlain (k : Sign) : Type 0 where
  pub space : (code k == 23) ≡ false
  pub parenthesis : is_parenthesis k ≡ false
  pub opening : opens k ≡ false

plain : (p : Sign → Bool) → list_all (λ k. not (p k) || plain_sign k) signs ≡ true → (k : Sign) → p k ≡ true → IsPlain k
plain p a k e = go (p k) (code k == 23) (is_parenthesis k) (opens k) (every (λ k. not (p k) || plain_sign k) a k) e refl refl refl
  where
    go : (x w y z : Bool) → (not x || (not w && (not y && not z))) ≡ true → x ≡ true → (code k == 23) ≡ w → is_parenthesis k ≡ y → opens k ≡ z → IsPlain k
    go true false false false h e i j l = record { space = i; parenthesis = j; opening = l }
    go true true y z h e i j l = cc
    go true false true z h e i j l = cc
    go true false false true h e i j l = cc
    go false w y z h e i j l = cc

-- one byte that begins one
beginning : (b : Begun) (byte : ℕ) → b.may ≡ true → IsPlain (sign byte) → begun_with b byte ≡ record { nodes = b.nodes + 1; may = false }
beginning b byte e p = rw (p.space, e, p.parenthesis, p.opening) refl

node_counts : {A : Type 0} (levels nodes byte : ℕ) (text : List ℕ) → IsPlain (sign byte) → (more : Rest → Reading A) → ((r : Rest) → Counts false false r (more r))
    → Counts true false (record { nodes = nodes; text = byte ∷ text }) (entered levels (record { nodes = nodes; text = byte ∷ text }) >>= λ e r. more r)
node_counts {A = A} levels nodes byte text p more k b e = go (nodes == 0) (levels == 0) refl
  where
    w : begun_with b byte ≡ record { nodes = b.nodes + 1; may = false }
    w = beginning b byte e p

    positive : (nodes == 0) ≡ false → 0 < nodes
    positive i = let some : nodes ≢ 0 = λ z. let t : (nodes == 0) ≡ true = eq-eqb nodes 0 z in cc in omega arith

    go : (x y : Bool) → (nodes == 0) ≡ x
        → At b false (record { nodes = nodes; text = byte ∷ text }) (◌>>=◌ {A = Unit {0}} (if x then (Err TooMany, record { nodes = nodes; text = byte ∷ text }) else (if y then (Err TooDeep, record { nodes = nodes; text = byte ∷ text }) else (Ok (tt {0}), record { nodes = nodes - 1; text = text }))) (λ e r. more r))
    go true y i = record { passed = still b (record { nodes = nodes; text = byte ∷ text }); full = (eqb-true nodes 0 i, record { byte = byte; more = text; text = refl; one_more = ap (λ (z : Begun). z.nodes) w }) }
    go false true i = record { passed = still b (record { nodes = nodes; text = byte ∷ text }); full = positive i }
    go false false i =
        let h = positive i in
        let passed : Passed b (record { nodes = nodes; text = byte ∷ text }) (record { nodes = nodes - 1; text = text }) =
        record { taken = byte ∷ []; whole = refl; count = rw w (omega arith); kept = then_more (omega arith) (rw w (at_end {b = record { nodes = b.nodes + 1; may = false }} (omega arith))) } in
        joined passed (more (record { nodes = nodes - 1; text = text })) (k (record { nodes = nodes - 1; text = text }) (begun_with b byte) (rw w refl))
      where
        joined : (passed : Passed b (record { nodes = nodes; text = byte ∷ text }) (record { nodes = nodes - 1; text = text })) (reading : Reading A)
            → At (begun_from b passed.taken) false (record { nodes = nodes - 1; text = text }) reading → At b false (record { nodes = nodes; text = byte ∷ text }) reading
        joined passed (Ok a, z) d = moves passed d
        joined passed (Err stop, z) d = halts passed d

module _ {A : Type 0} (p : Sign → Bool) (a : list_all (λ k. not (p k) || plain_sign k) signs ≡ true) (no_end : p s.End ≡ false) (levels : ℕ) (more : Sign → Rest → Reading A) (k : (sign : Sign) (r : Rest) → Counts false false r (more sign r)) where
  at_node : (nodes : ℕ) (text : List ℕ) → Counts true false (record { nodes = nodes; text = text }) (if p (next (record { nodes = nodes; text = text })) then (entered levels (record { nodes = nodes; text = text }) >>= λ e r. more (next (record { nodes = nodes; text = text })) r) else bad (record { nodes = nodes; text = text }))
  at_node nodes [] = rw no_end (stuck A true false (record { nodes = nodes; text = [] }))
  at_node nodes (byte ∷ text) = go (p (sign byte)) refl
    where
      go : (b : Bool) → p (sign byte) ≡ b → Counts true false (record { nodes = nodes; text = byte ∷ text }) (if b then (entered levels (record { nodes = nodes; text = byte ∷ text }) >>= λ e r. more (sign byte) r) else bad (record { nodes = nodes; text = byte ∷ text }))
      go true e = node_counts levels nodes byte text (plain p a (sign byte) e) (more (sign byte)) (k (sign byte))
      go false e = stuck A true false (record { nodes = nodes; text = byte ∷ text })

mutual
  unfolding term_at value_at

  pub term_counts : (levels : ℕ) (rest : Rest) → Counts true false rest (term_at levels rest)
  term_counts zero rest = at_node begins_term refl refl 0 (λ k r. bad r) (λ k r. stuck U false false r) rest.nodes rest.text
  term_counts (suc levels) rest = at_node begins_term refl refl (suc levels) (term_with (term_at levels) (value_at levels)) (term_with_counts (term_at levels) (value_at levels) (term_counts levels) (value_counts levels)) rest.nodes rest.text

  pub value_counts : (levels : ℕ) (rest : Rest) → Counts true false rest (value_at levels rest)
  value_counts zero rest = at_node begins_value refl refl 0 (λ k r. bad r) (λ k r. stuck Val false false r) rest.nodes rest.text
  value_counts (suc levels) rest = at_node begins_value refl refl (suc levels) (value_with (term_at levels) (value_at levels)) (value_with_counts (term_at levels) (value_at levels) (term_counts levels) (value_counts levels)) rest.nodes rest.text

pub values_list_counts : (levels : ℕ) (rest : Rest) → Counts true false rest (list_of (value_at levels) rest)
values_list_counts levels rest = list_counts (value_at levels) (value_counts levels) true rest
