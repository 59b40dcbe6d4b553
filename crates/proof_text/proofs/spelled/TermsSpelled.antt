-- The text of what is read of terms and values is what was taken.
use Rattle.std.proofs.Common.{◌≡◌, ◌≢◌, ℕ, zero, suc, ◌+◌, ◌*◌, ◌-◌, ◌/◌, ◌%◌, ◌^◌, ◌<◌, ◌≤◌, Bool, true, false, List, [], ◌∷◌, ◌++◌, length, get_or, drop, Ok, Err, refl, sym, ap, ◌∙◌, subst, arith, append_assoc}
use Rattle.std.specs.Prelude.{◌==◌, nat_lt, if◌then◌else◌}
use Rattle.std.specs.Fmt.{decimal}
use Rattle.std.proofs.lemmas.Fmt.{decimal_digit, decimal_step}
use Rattle.std.proofs.lemmas.Bool.{eqb-true, eq-eqb, ltb-true}
use Rattle.std.proofs.Math.Dec.{eqb-suc-zero}
use Rattle.std.proofs.lemmas.List.Sums.{sum_by-cons}
use Rattle.grammar.proofs.languages.Sets.{and_left, and_right}
use Rattle.data_model.specs.Lists.{Each}
use Rattle.u_terms.specs.declared.term.U.TheVariants as u
use Rattle.u_terms.specs.declared.term.Val.TheVariants as v
use Rattle.u_terms.specs.Syntax.{U, Val, constructors}
use Rattle.u_terms.specs.Size.{nodes, value_nodes, list_nodes, depth, value_depth, list_depth}
use Rattle.u_terms.proofs.Sizes.{row_nodes-list, row_depth-list, list_depth-cons}
use Rattle.u_deriv.specs.StepText.{term_text, value_text}
use Rattle.proof_text.specs.declared.cursor.Stop.TheVariants.{TooMany, TooDeep}
use Rattle.proof_text.specs.Words.{HasWords, ValueHasWords}
use Rattle.proof_text.specs.Signs as s
use Rattle.proof_text.specs.Signs.{Sign, code, sign}
use Rattle.proof_text.specs.Grammar.{begins_term, begins_value}
use Rattle.proof_text.specs.Reading.{Rest, Reading, ◌>>=◌, sign_at, next, passed, bad, entered, expected, is_longer, longest, longest_at, within, both, pair_of, values_with, values_at, list_of, numbered, number_at, term_with, value_with, term_at, value_at}
use Rattle.proof_text.proofs.reading.NumbersRead.{not_equal}
use Rattle.proof_text.proofs.spelled.TermsAgain.{more_text, list_text, first_text-list, words-list}
use Rattle.proof_text.proofs.spelled.Glyphs.{glyphs, glyph_of, Spelt, spelt_then, AsBefore, expected_has, passed_byte}

-- ---- numbers
digit_byte : (byte : ℕ) → nat_lt (code (sign byte)) 10 ≡ true → byte ≡ 48 + code (sign byte)
digit_byte byte e =
    let h : code (sign byte) < 10 = ltb-true (code (sign byte)) 10 e in
    glyph_of byte (not_equal (code (sign byte)) 53 (λ i. omega (arith, i))) ∙ at (code (sign byte)) h
  where
    at : (d : ℕ) → d < 10 → get_or glyphs d 0 ≡ 48 + d
    at zero h = refl
    at (suc zero) h = refl
    at (suc (suc zero)) h = refl
    at (suc (suc (suc zero))) h = refl
    at (suc (suc (suc (suc zero)))) h = refl
    at (suc (suc (suc (suc (suc zero))))) h = refl
    at (suc (suc (suc (suc (suc (suc zero)))))) h = refl
    at (suc (suc (suc (suc (suc (suc (suc zero))))))) h = refl
    at (suc (suc (suc (suc (suc (suc (suc (suc zero)))))))) h = refl
    at (suc (suc (suc (suc (suc (suc (suc (suc (suc zero))))))))) h = refl
    at (suc (suc (suc (suc (suc (suc (suc (suc (suc (suc d)))))))))) h = absurd (omega (arith, h))

decimal_more : (m d : ℕ) → 0 < m → d < 10 → 10 * m + d < 2 ^ 32 → decimal (10 * m + d) ≡ decimal m ++ (48 + d) ∷ []
decimal_more m d p h s =
    let q : (10 * m + d) / 10 ≡ m = omega arith in
    let r : (10 * m + d) % 10 ≡ d = omega arith in
    decimal_step (10 * m + d) (omega arith) (omega arith) ∙ (rw (q, r) refl)

pub longest_has : (m : ℕ) (text : List ℕ) → 0 < m → m < 2 ^ 32 → (decimal m ++ text ≡ decimal (longest m text).0 ++ (longest m text).1) × ((longest m text).0 < 2 ^ 32)
longest_has m [] p s = (refl, s)
longest_has m (byte ∷ text) p s = go (is_longer m (code (sign byte))) refl (λ p s. longest_has (10 * m + code (sign byte)) text p s)
  where
    go : (b : Bool) → is_longer m (code (sign byte)) ≡ b
        → (0 < 10 * m + code (sign byte) → 10 * m + code (sign byte) < 2 ^ 32
        → (decimal (10 * m + code (sign byte)) ++ text ≡ decimal (longest (10 * m + code (sign byte)) text).0 ++ (longest (10 * m + code (sign byte)) text).1) × ((longest (10 * m + code (sign byte)) text).0 < 2 ^ 32))
        → (decimal m ++ (byte ∷ text) ≡ decimal (if b then longest (10 * m + code (sign byte)) text else (m, byte ∷ text)).0 ++ (if b then longest (10 * m + code (sign byte)) text else (m, byte ∷ text)).1)
        × ((if b then longest (10 * m + code (sign byte)) text else (m, byte ∷ text)).0 < 2 ^ 32)
    go true e k =
        let low = and_left (nat_lt (code (sign byte)) 10) (nat_lt (10 * m + code (sign byte)) (2 ^ 32)) e in
        let h : code (sign byte) < 10 = ltb-true (code (sign byte)) 10 low in
        let t : 10 * m + code (sign byte) < 2 ^ 32 = ltb-true (10 * m + code (sign byte)) (2 ^ 32) (and_right (nat_lt (code (sign byte)) 10) (nat_lt (10 * m + code (sign byte)) (2 ^ 32)) e) in
        let (one, two) = k (omega arith) t in
        let more : decimal m ++ (byte ∷ text) ≡ decimal (10 * m + code (sign byte)) ++ text =
        rw (decimal_more m (code (sign byte)) p h t) (sym (append_assoc (decimal m) ((48 + code (sign byte)) ∷ []) text ∙ ap (λ (z : ℕ). decimal m ++ (z ∷ text)) (sym (digit_byte byte low)))) in
        (more ∙ one, two)
    go false e k = (refl, s)

abbrev pub IsWord : ℕ → ℕ → ℕ → Type 0
IsWord before n after = (n < 2 ^ 32) × (after ≡ before)

pub longest_spelt : (m : ℕ) (all x : List ℕ) (rest : Rest) → 0 < m → m < 2 ^ 32 → all ≡ (x ++ decimal m) ++ rest.text → Spelt all (λ n. x ++ decimal n) (IsWord rest.nodes) (longest_at m rest)
longest_spelt m all x rest p s i =
    let (same, small) = longest_has m rest.text p s in
    record { text = i ∙ append_assoc x (decimal m) rest.text ∙ ap (λ (z : List ℕ). x ++ z) same ∙ sym (append_assoc x (decimal (longest m rest.text).0) (longest m rest.text).1); is = (small, refl) }

-- a digit was passed
pub digit_passed : (all x : List ℕ) (rest : Rest) → all ≡ x ++ rest.text → nat_lt (code (next rest)) 10 ≡ true → all ≡ (x ++ decimal (code (next rest))) ++ (passed rest).text
digit_passed all x rest i h = at rest.text i h
  where
    at : (text : List ℕ) → all ≡ x ++ text → nat_lt (code (sign_at text)) 10 ≡ true → all ≡ (x ++ decimal (code (sign_at text))) ++ drop 1 text
    at [] i h = cc
    at (byte ∷ text) i h =
        let low : code (sign byte) < 10 = ltb-true (code (sign byte)) 10 h in
        let d : decimal (code (sign byte)) ≡ byte ∷ [] = decimal_digit (code (sign byte)) low ∙ ap (λ (z : ℕ). z ∷ []) (sym (digit_byte byte h)) in
        rw d (i ∙ sym (append_assoc x (byte ∷ []) text))

pub number_has : (all x : List ℕ) (rest : Rest) → all ≡ x ++ rest.text → Spelt all (λ n. x ++ decimal n) (IsWord rest.nodes) (number_at rest)
unfolding number_at
number_has all x rest i = go (code (next rest) == 0) (nat_lt (code (next rest)) 10) refl refl
  where
    go : (a b : Bool) → (code (next rest) == 0) ≡ a → nat_lt (code (next rest)) 10 ≡ b
        → Spelt all (λ n. x ++ decimal n) (IsWord rest.nodes) (if a then (Ok 0, passed rest) else (if b then longest_at (code (next rest)) (passed rest) else bad rest))
    go true b e h =
        let z : code (next rest) ≡ 0 = eqb-true (code (next rest)) 0 e in
        let t : all ≡ (x ++ decimal (code (next rest))) ++ (passed rest).text = digit_passed all x rest i (rw z refl) in
        record { text = subst (λ m. all ≡ (x ++ decimal m) ++ (passed rest).text) z t; is = (omega arith, refl) }
    go false true e h =
        let low : code (next rest) < 10 = ltb-true (code (next rest)) 10 h in
        let some : code (next rest) ≢ 0 = λ z. let t : (code (next rest) == 0) ≡ true = eq-eqb (code (next rest)) 0 z in cc in
        longest_spelt (code (next rest)) all x (passed rest) (omega arith) (omega arith) (digit_passed all x rest i h)
    go false false e h = tt

-- ---- what was read, with another value
pub gives_spelt : {A B : Type 0} (all : List ℕ) (prefix : A → List ℕ) (P : A → ℕ → Type 0) (whole : B → List ℕ) (Q : B → ℕ → Type 0) (reading : Reading A) (h : A → B)
    → Spelt all prefix P reading → ((v : A) → prefix v ≡ whole (h v)) → ((v : A) (m : ℕ) → P v m → Q (h v) m) → Spelt all whole Q (reading >>= λ v r. (Ok (h v), r))
gives_spelt all prefix P whole Q (Ok v, r) h c e k = record { text = c.text ∙ ap (λ (z : List ℕ). z ++ r.text) (e v); is = k v r.nodes c.is }
gives_spelt all prefix P whole Q (Err stop, r) h c e k = tt

-- ---- in parentheses
-- both, one after the other
abbrev TwoOf : {A : Type 0} → (ℕ → A → ℕ → Type 0) → ℕ → A × A → ℕ → Type 0
TwoOf P before p after = (middle : ℕ) × P before p.0 middle × P middle p.1 after

abbrev pub HasText : {A : Type 0} → (A → List ℕ) → (ℕ → A → ℕ → Type 0) → (Rest → Reading A) → Type 0
HasText t P read = (all x : List ℕ) (rest : Rest) → all ≡ x ++ rest.text → Spelt all (λ a. x ++ t a) (P rest.nodes) (read rest)

module _ {A : Type 0} (t : A → List ℕ) (P : ℕ → A → ℕ → Type 0) (read : Rest → Reading A) (has : HasText t P read) where
  within_has : HasText (λ a. 40 ∷ (t a ++ 41 ∷ [])) P (within read)
  within_has all x rest i =
      spelt_then all (λ o. x ++ 40 ∷ []) (AsBefore rest.nodes) (λ a. x ++ (40 ∷ (t a ++ 41 ∷ []))) (P rest.nodes) (expected 20 rest) (λ o r. read r >>= λ a r. expected 21 r >>= λ c r. (Ok a, r))
      (expected_has 20 40 refl refl refl all x rest i)
      (λ o r e n. spelt_then all (λ a. (x ++ 40 ∷ []) ++ t a) (P r.nodes) (λ a. x ++ (40 ∷ (t a ++ 41 ∷ []))) (P rest.nodes) (read r) (λ a r. expected 21 r >>= λ c r. (Ok a, r))
      (has all (x ++ 40 ∷ []) r e)
      (λ a r' e q. gives_spelt all (λ c. ((x ++ 40 ∷ []) ++ t a) ++ 41 ∷ []) (AsBefore r'.nodes) (λ a. x ++ (40 ∷ (t a ++ 41 ∷ []))) (P rest.nodes) (expected 21 r') (λ c. a)
      (expected_has 21 41 refl refl refl all ((x ++ 40 ∷ []) ++ t a) r' e)
      (λ c. append_assoc (x ++ 40 ∷ []) (t a) (41 ∷ []) ∙ append_assoc x (40 ∷ []) (t a ++ 41 ∷ []))
      (λ c m z. subst (λ y. P rest.nodes a y) (sym z) (subst (λ y. P y a r'.nodes) n q))))

  both_has : HasText (λ p. t p.0 ++ (44 ∷ t p.1)) (TwoOf P) (both read)
  both_has all x rest i =
      spelt_then all (λ a. x ++ t a) (P rest.nodes) (λ p. x ++ (t p.0 ++ (44 ∷ t p.1))) (TwoOf P rest.nodes) (read rest) (λ a r. expected 22 r >>= λ m r. read r >>= λ b r. (Ok (a, b), r))
      (has all x rest i)
      (λ a r e q. spelt_then all (λ c. (x ++ t a) ++ 44 ∷ []) (AsBefore r.nodes) (λ p. x ++ (t p.0 ++ (44 ∷ t p.1))) (TwoOf P rest.nodes) (expected 22 r) (λ m r. read r >>= λ b r. (Ok (a, b), r))
      (expected_has 22 44 refl refl refl all (x ++ t a) r e)
      (λ c r' e n. gives_spelt all (λ b. ((x ++ t a) ++ 44 ∷ []) ++ t b) (P r'.nodes) (λ p. x ++ (t p.0 ++ (44 ∷ t p.1))) (TwoOf P rest.nodes) (read r') (λ b. (a, b))
      (has all ((x ++ t a) ++ 44 ∷ []) r' e)
      (λ b. append_assoc (x ++ t a) (44 ∷ []) (t b) ∙ append_assoc x (t a) (44 ∷ t b))
      (λ b m z. (r.nodes, q, subst (λ y. P y b m) n z))))

pair_has : {A : Type 0} (t : A → List ℕ) (P : ℕ → A → ℕ → Type 0) (read : Rest → Reading A) (has : HasText t P read) → HasText (λ p. 40 ∷ (t p.0 ++ (44 ∷ (t p.1 ++ 41 ∷ [])))) (TwoOf P) (pair_of read)
pair_has {A = A} t P read has all x rest i =
    regroup (pair_of read rest) (within_has (λ p. t p.0 ++ (44 ∷ t p.1)) (TwoOf P) (both read) (both_has t P read has) all x rest i)
  where
    regroup : (reading : Reading (A × A)) → Spelt all (λ p. x ++ (40 ∷ ((t p.0 ++ (44 ∷ t p.1)) ++ 41 ∷ []))) (TwoOf P rest.nodes) reading
        → Spelt all (λ p. x ++ (40 ∷ (t p.0 ++ (44 ∷ (t p.1 ++ 41 ∷ []))))) (TwoOf P rest.nodes) reading
    regroup (Ok p, r) c = record { text = c.text ∙ ap (λ (z : List ℕ). (x ++ (40 ∷ z)) ++ r.text) (append_assoc (t p.0) (44 ∷ t p.1) (41 ∷ [])); is = c.is }
    regroup (Err stop, r) c = tt

-- ---- terms and values
pub record IsTermOf (levels before : ℕ) (term : U) (after : ℕ) : Type 0 where
  pub words : HasWords term
  pub shallow : depth term ≤ levels
  pub count : before ≡ nodes term + after

pub record IsValueOf (levels before : ℕ) (value : Val) (after : ℕ) : Type 0 where
  pub words : ValueHasWords value
  pub shallow : value_depth value ≤ levels
  pub count : before ≡ value_nodes value + after

pub record IsListOf (levels before : ℕ) (list : List Val) (after : ℕ) : Type 0 where
  pub words : Each ValueHasWords list
  pub shallow : list_depth list ≤ levels
  pub count : before ≡ list_nodes list + after

pub record IsSomeListOf (levels before : ℕ) (list : List Val) (after : ℕ) : Type 0 where
  pub is_list : IsListOf levels before list after
  pub some : list ≡ [] → ⊥

behind_comma : (list : List Val) → (list ≡ [] → ⊥) → 44 ∷ list_text list ≡ more_text list
behind_comma [] n = absurd (n refl)
behind_comma (value ∷ list) n = refl

abbrev pub HasTerms : ℕ → (Rest → Reading U) → Type 0
HasTerms levels read = HasText term_text (IsTermOf levels) read

abbrev pub HasValues : ℕ → (Rest → Reading Val) → Type 0
HasValues levels read = HasText value_text (IsValueOf levels) read

module _ (levels : ℕ) (term_read : Rest → Reading U) (value_read : Rest → Reading Val) (terms : HasTerms levels term_read) (values : HasValues levels value_read) where
  -- ---- lists
  values_has : (most : ℕ) → HasText list_text (IsSomeListOf levels) (values_at value_read most)
  unfolding values_at
  values_has zero all x rest i = tt
  values_has (suc most) all x rest i =
      spelt_then all (λ a. x ++ value_text a) (IsValueOf levels rest.nodes) (λ l. x ++ list_text l) (IsSomeListOf levels rest.nodes) (value_read rest) (values_with (values_at value_read most)) (values all x rest i)
      (λ a r e q. behind (values_has most) a r e q (code (next r) == 22) refl)
    where
      behind : HasText list_text (IsSomeListOf levels) (values_at value_read most) → (a : Val) (r : Rest) → all ≡ (x ++ value_text a) ++ r.text → IsValueOf levels rest.nodes a r.nodes → (b : Bool) → (code (next r) == 22) ≡ b
          → Spelt all (λ l. x ++ list_text l) (IsSomeListOf levels rest.nodes)
          (if b then (values_at value_read most (passed r) >>= λ others r. (Ok (a ∷ others), r)) else (expected 21 r >>= λ c r. (Ok (a ∷ []), r)))
      behind others a r e q true h =
          with_more (values_at value_read most (passed r)) (others all ((x ++ value_text a) ++ 44 ∷ []) (passed r) (passed_byte 22 44 refl refl refl all (x ++ value_text a) r e h))
        where
          with_more : (reading : Reading (List Val)) → Spelt all (λ l. ((x ++ value_text a) ++ 44 ∷ []) ++ list_text l) (IsSomeListOf levels r.nodes) reading
              → Spelt all (λ l. x ++ list_text l) (IsSomeListOf levels rest.nodes) (reading >>= λ others r. (Ok (a ∷ others), r))
          with_more (Ok l, z) c =
              let g : ((x ++ value_text a) ++ 44 ∷ []) ++ list_text l ≡ x ++ (value_text a ++ more_text l) =
              append_assoc (x ++ value_text a) (44 ∷ []) (list_text l) ∙ append_assoc x (value_text a) (44 ∷ list_text l) ∙ ap (λ (y : List ℕ). x ++ (value_text a ++ y)) (behind_comma l c.is.some) in
              record {
                text = c.text ∙ ap (λ (y : List ℕ). y ++ z.text) g;
                is = record {
                  is_list = record {
                    words = (q.words, c.is.is_list.words);
                    shallow = omega (arith, list_depth-cons a l, q.shallow, c.is.is_list.shallow);
                    count = omega (arith, sum_by-cons value_nodes a l, q.count, c.is.is_list.count);
                  };
                  some = λ n. cc;
                };
              }
          with_more (Err stop, z) c = tt
      behind others a r e q false h =
          gives_spelt all (λ c. (x ++ value_text a) ++ 41 ∷ []) (AsBefore r.nodes) (λ l. x ++ list_text l) (IsSomeListOf levels rest.nodes) (expected 21 r) (λ c. a ∷ [])
          (expected_has 21 41 refl refl refl all (x ++ value_text a) r e)
          (λ c. append_assoc x (value_text a) (41 ∷ []))
          (λ c m z. record {
            is_list = record {
              words = (q.words, tt);
              shallow = omega (arith, list_depth-cons a [], q.shallow);
              count = omega (arith, sum_by-cons value_nodes a [], q.count, z);
            };
            some = λ n. cc;
          })

  list_has : HasText (λ l. 40 ∷ list_text l) (IsListOf levels) (list_of value_read)
  list_has all x rest i =
      spelt_then all (λ o. x ++ 40 ∷ []) (AsBefore rest.nodes) (λ l. x ++ (40 ∷ list_text l)) (IsListOf levels rest.nodes) (expected 20 rest)
      (λ o r. if code (next r) == 21 then (Ok [], passed r) else values_at value_read (length r.text) r)
      (expected_has 20 40 refl refl refl all x rest i)
      (λ o r e n. behind r e n (code (next r) == 21) refl)
    where
      behind : (r : Rest) → all ≡ (x ++ 40 ∷ []) ++ r.text → r.nodes ≡ rest.nodes → (b : Bool) → (code (next r) == 21) ≡ b
          → Spelt all (λ l. x ++ (40 ∷ list_text l)) (IsListOf levels rest.nodes) (if b then (Ok [], passed r) else values_at value_read (length r.text) r)
      behind r e n true h =
          record {
            text = passed_byte 21 41 refl refl refl all (x ++ 40 ∷ []) r e h ∙ ap (λ (y : List ℕ). y ++ (passed r).text) (append_assoc x (40 ∷ []) (41 ∷ []));
            is = record { words = tt; shallow = omega arith; count = omega (arith, n) };
          }
      behind r e n false h = some (values_at value_read (length r.text) r) (values_has (length r.text) all (x ++ 40 ∷ []) r e)
        where
          some : (reading : Reading (List Val)) → Spelt all (λ l. (x ++ 40 ∷ []) ++ list_text l) (IsSomeListOf levels r.nodes) reading → Spelt all (λ l. x ++ (40 ∷ list_text l)) (IsListOf levels rest.nodes) reading
          some (Ok l, z) c = record { text = c.text ∙ ap (λ (y : List ℕ). y ++ z.text) (append_assoc x (40 ∷ []) (list_text l)); is = subst (λ y. IsListOf levels y l z.nodes) n c.is.is_list }
          some (Err stop, z) c = tt

  -- a number and what follows it
  numbered_has : {A B : Type 0} (t : A → List ℕ) (P : ℕ → A → ℕ → Type 0) (read : Rest → Reading A) → HasText t P read → (built : ℕ → A → B) (all x : List ℕ) (whole : B → List ℕ) (Q : B → ℕ → Type 0) (rest : Rest) → all ≡ x ++ rest.text
      → ((n : ℕ) (a : A) → x ++ (decimal n ++ t a) ≡ whole (built n a)) → ((n : ℕ) (a : A) (m : ℕ) → n < 2 ^ 32 → P rest.nodes a m → Q (built n a) m)
      → Spelt all whole Q (numbered read built rest)
  numbered_has t P read has built all x whole Q rest i e k =
      spelt_then all (λ n. x ++ decimal n) (IsWord rest.nodes) whole Q (number_at rest) (λ n r. read r >>= λ a r. (Ok (built n a), r)) (number_has all x rest i)
      (λ n r i w. gives_spelt all (λ a. (x ++ decimal n) ++ t a) (P r.nodes) whole Q (read r) (built n) (has all (x ++ decimal n) r i)
      (λ a. append_assoc x (decimal n) (t a) ∙ e n a) (λ a m z. k n a m w.0 (subst (λ y. P y a m) w.1 z)))

  -- ---- behind the first byte
  letter : (c byte : ℕ) (k : Sign) → sign byte ≡ k → (code k == 53) ≡ false → get_or glyphs (code k) 0 ≡ c → byte ≡ c
  letter c byte k e n g = glyph_of byte (rw e n) ∙ (rw e g)

  term_with_has : (k : Sign) (byte : ℕ) → sign byte ≡ k → (all x : List ℕ) (rest : Rest) → all ≡ (x ++ byte ∷ []) ++ rest.text
      → Spelt all (λ a. x ++ term_text a) (IsTermOf (suc levels) (1 + rest.nodes)) (term_with term_read value_read k rest)
  unfolding term_text nodes depth HasWords constructors
  term_with_has s.Digit0 byte e all x rest i = record { text = rw (letter 48 byte s.Digit0 e refl refl) at i; is = record { words = tt; shallow = omega arith; count = refl } }
  term_with_has s.Digit1 byte e all x rest i = record { text = rw (letter 49 byte s.Digit1 e refl refl) at i; is = record { words = tt; shallow = omega arith; count = refl } }
  term_with_has s.Plus byte e all x rest i =
      gives_spelt all (λ p. (x ++ 43 ∷ []) ++ (40 ∷ (term_text p.0 ++ (44 ∷ (term_text p.1 ++ 41 ∷ []))))) (TwoOf (IsTermOf levels) rest.nodes) (λ a. x ++ term_text a) (IsTermOf (suc levels) (1 + rest.nodes)) (pair_of term_read rest) (λ p. u.Add p.0 p.1)
      (pair_has term_text (IsTermOf levels) term_read terms all (x ++ 43 ∷ []) rest (rw (letter 43 byte s.Plus e refl refl) at i))
      (λ p. append_assoc x (43 ∷ []) (40 ∷ (term_text p.0 ++ (44 ∷ (term_text p.1 ++ 41 ∷ [])))))
      (λ p m z. record { words = (z.1.words, z.2.words); shallow = omega (arith, z.1.shallow, z.2.shallow); count = omega (arith, z.1.count, z.2.count) })
  term_with_has s.Star byte e all x rest i =
      gives_spelt all (λ p. (x ++ 42 ∷ []) ++ (40 ∷ (term_text p.0 ++ (44 ∷ (term_text p.1 ++ 41 ∷ []))))) (TwoOf (IsTermOf levels) rest.nodes) (λ a. x ++ term_text a) (IsTermOf (suc levels) (1 + rest.nodes)) (pair_of term_read rest) (λ p. u.Mul p.0 p.1)
      (pair_has term_text (IsTermOf levels) term_read terms all (x ++ 42 ∷ []) rest (rw (letter 42 byte s.Star e refl refl) at i))
      (λ p. append_assoc x (42 ∷ []) (40 ∷ (term_text p.0 ++ (44 ∷ (term_text p.1 ++ 41 ∷ [])))))
      (λ p m z. record { words = (z.1.words, z.2.words); shallow = omega (arith, z.1.shallow, z.2.shallow); count = omega (arith, z.1.count, z.2.count) })
  term_with_has s.Hash byte e all x rest i =
      gives_spelt all (λ a. (x ++ 35 ∷ []) ++ (40 ∷ (term_text a ++ 41 ∷ []))) (IsTermOf levels rest.nodes) (λ a. x ++ term_text a) (IsTermOf (suc levels) (1 + rest.nodes)) (within term_read rest) (λ a. u.Squash a)
      (within_has term_text (IsTermOf levels) term_read terms all (x ++ 35 ∷ []) rest (rw (letter 35 byte s.Hash e refl refl) at i))
      (λ a. append_assoc x (35 ∷ []) (40 ∷ (term_text a ++ 41 ∷ [])))
      (λ a m z. record { words = z.words; shallow = omega (arith, z.shallow); count = omega (arith, z.count) })
  term_with_has s.Bang byte e all x rest i =
      gives_spelt all (λ a. (x ++ 33 ∷ []) ++ (40 ∷ (term_text a ++ 41 ∷ []))) (IsTermOf levels rest.nodes) (λ a. x ++ term_text a) (IsTermOf (suc levels) (1 + rest.nodes)) (within term_read rest) (λ a. u.Not a)
      (within_has term_text (IsTermOf levels) term_read terms all (x ++ 33 ∷ []) rest (rw (letter 33 byte s.Bang e refl refl) at i))
      (λ a. append_assoc x (33 ∷ []) (40 ∷ (term_text a ++ 41 ∷ [])))
      (λ a m z. record { words = z.words; shallow = omega (arith, z.shallow); count = omega (arith, z.count) })
  term_with_has s.UpperS byte e all x rest i =
      gives_spelt all (λ a. (x ++ 83 ∷ []) ++ (40 ∷ (term_text a ++ 41 ∷ []))) (IsTermOf levels rest.nodes) (λ a. x ++ term_text a) (IsTermOf (suc levels) (1 + rest.nodes)) (within term_read rest) (λ a. u.Sum a)
      (within_has term_text (IsTermOf levels) term_read terms all (x ++ 83 ∷ []) rest (rw (letter 83 byte s.UpperS e refl refl) at i))
      (λ a. append_assoc x (83 ∷ []) (40 ∷ (term_text a ++ 41 ∷ [])))
      (λ a m z. record { words = z.words; shallow = omega (arith, z.shallow); count = omega (arith, z.count) })
  term_with_has s.UpperR byte e all x rest i =
      numbered_has (λ l. 40 ∷ list_text l) (IsListOf levels) (list_of value_read) list_has u.Rel all (x ++ 82 ∷ []) (λ a. x ++ term_text a) (IsTermOf (suc levels) (1 + rest.nodes)) rest (rw (letter 82 byte s.UpperR e refl refl) at i)
      (λ n l. append_assoc x (82 ∷ []) (decimal n ++ (40 ∷ list_text l)) ∙ ap (λ (y : List ℕ). x ++ (82 ∷ (decimal n ++ (40 ∷ y)))) (sym (first_text-list l)))
      (λ n l m w z. record { words = (w, rw (words-list l) z.words); shallow = omega (arith, z.shallow, row_depth-list l); count = omega (arith, z.count, row_nodes-list l) })
  term_with_has s.Equals byte e all x rest i =
      gives_spelt all (λ p. (x ++ 61 ∷ []) ++ (40 ∷ (value_text p.0 ++ (44 ∷ (value_text p.1 ++ 41 ∷ []))))) (TwoOf (IsValueOf levels) rest.nodes) (λ a. x ++ term_text a) (IsTermOf (suc levels) (1 + rest.nodes)) (pair_of value_read rest) (λ p. u.Eq p.0 p.1)
      (pair_has value_text (IsValueOf levels) value_read values all (x ++ 61 ∷ []) rest (rw (letter 61 byte s.Equals e refl refl) at i))
      (λ p. append_assoc x (61 ∷ []) (40 ∷ (value_text p.0 ++ (44 ∷ (value_text p.1 ++ 41 ∷ [])))))
      (λ p m z. record { words = (z.1.words, z.2.words); shallow = omega (arith, z.1.shallow, z.2.shallow); count = omega (arith, z.1.count, z.2.count) })
  term_with_has s.UpperP byte e all x rest i =
      numbered_has (λ l. 40 ∷ list_text l) (IsListOf levels) (list_of value_read) list_has u.Pred all (x ++ 80 ∷ []) (λ a. x ++ term_text a) (IsTermOf (suc levels) (1 + rest.nodes)) rest (rw (letter 80 byte s.UpperP e refl refl) at i)
      (λ n l. append_assoc x (80 ∷ []) (decimal n ++ (40 ∷ list_text l)) ∙ ap (λ (y : List ℕ). x ++ (80 ∷ (decimal n ++ (40 ∷ y)))) (sym (first_text-list l)))
      (λ n l m w z. record { words = (w, rw (words-list l) z.words); shallow = omega (arith, z.shallow, row_depth-list l); count = omega (arith, z.count, row_nodes-list l) })
  term_with_has _ byte e all x rest i = tt

  -- a number behind a letter
  named_has : (c : ℕ) (made : ℕ → Val) (all x : List ℕ) (rest : Rest) → all ≡ (x ++ c ∷ []) ++ rest.text → ((n : ℕ) → value_text (made n) ≡ c ∷ decimal n) → ((n : ℕ) → n < 2 ^ 32 → IsValueOf (suc levels) (1 + rest.nodes) (made n) rest.nodes)
      → Spelt all (λ a. x ++ value_text a) (IsValueOf (suc levels) (1 + rest.nodes)) (number_at rest >>= λ n r. (Ok (made n), r))
  named_has c made all x rest i e k =
      gives_spelt all (λ n. (x ++ c ∷ []) ++ decimal n) (IsWord rest.nodes) (λ a. x ++ value_text a) (IsValueOf (suc levels) (1 + rest.nodes)) (number_at rest) made
      (number_has all (x ++ c ∷ []) rest i) (λ n. append_assoc x (c ∷ []) (decimal n) ∙ ap (λ (y : List ℕ). x ++ y) (sym (e n)))
      (λ n m w. subst (λ y. IsValueOf (suc levels) (1 + rest.nodes) (made n) y) (sym w.1) (k n w.0))

  value_with_has : (k : Sign) (byte : ℕ) → sign byte ≡ k → (all x : List ℕ) (rest : Rest) → all ≡ (x ++ byte ∷ []) ++ rest.text
      → Spelt all (λ a. x ++ value_text a) (IsValueOf (suc levels) (1 + rest.nodes)) (value_with term_read value_read k rest)
  unfolding term_text nodes depth HasWords constructors
  value_with_has s.SmallB byte e all x rest i = named_has 98 v.Bound all x rest (rw (letter 98 byte s.SmallB e refl refl) at i) (λ n. refl) (λ n w. record { words = w; shallow = omega arith; count = refl })
  value_with_has s.SmallF byte e all x rest i = named_has 102 v.Free all x rest (rw (letter 102 byte s.SmallF e refl refl) at i) (λ n. refl) (λ n w. record { words = w; shallow = omega arith; count = refl })
  value_with_has s.SmallC byte e all x rest i = named_has 99 v.Lit all x rest (rw (letter 99 byte s.SmallC e refl refl) at i) (λ n. refl) (λ n w. record { words = w; shallow = omega arith; count = refl })
  value_with_has s.UpperF byte e all x rest i =
      numbered_has (λ l. 40 ∷ list_text l) (IsListOf levels) (list_of value_read) list_has v.Fun all (x ++ 70 ∷ []) (λ a. x ++ value_text a) (IsValueOf (suc levels) (1 + rest.nodes)) rest (rw (letter 70 byte s.UpperF e refl refl) at i)
      (λ n l. append_assoc x (70 ∷ []) (decimal n ++ (40 ∷ list_text l)) ∙ ap (λ (y : List ℕ). x ++ (70 ∷ (decimal n ++ (40 ∷ y)))) (sym (first_text-list l)))
      (λ n l m w z. record { words = (w, rw (words-list l) z.words); shallow = omega (arith, z.shallow, row_depth-list l); count = omega (arith, z.count, row_nodes-list l) })
  value_with_has s.UpperG byte e all x rest i =
      numbered_has (λ a. 40 ∷ (term_text a ++ 41 ∷ [])) (IsTermOf levels) (within term_read) (within_has term_text (IsTermOf levels) term_read terms) v.Agg all (x ++ 71 ∷ []) (λ a. x ++ value_text a) (IsValueOf (suc levels) (1 + rest.nodes)) rest (rw (letter 71 byte s.UpperG e refl refl) at i)
      (λ n a. append_assoc x (71 ∷ []) (decimal n ++ (40 ∷ (term_text a ++ 41 ∷ []))))
      (λ n a m w z. record { words = (w, z.words); shallow = omega (arith, z.shallow); count = omega (arith, z.count) })
  value_with_has _ byte e all x rest i = tt

-- ---- with so many levels
module _ {A : Type 0} (t : A → List ℕ) (P : ℕ → A → ℕ → Type 0) (begins : Sign → Bool) (no_end : begins s.End ≡ false) (with_it : Sign → Rest → Reading A) where
  node_has : (levels : ℕ)
      → ((byte : ℕ) (all x : List ℕ) (rest : Rest) → all ≡ (x ++ byte ∷ []) ++ rest.text → Spelt all (λ a. x ++ t a) (P (1 + rest.nodes)) (with_it (sign byte) rest))
      → HasText t P (λ rest. if begins (next rest) then (entered (suc levels) rest >>= λ e r. with_it (next rest) r) else bad rest)
  node_has levels k all x rest i = at rest.nodes rest.text i
    where
      at : (nodes : ℕ) (text : List ℕ) → all ≡ x ++ text
          → Spelt all (λ a. x ++ t a) (P nodes) (if begins (sign_at text) then (entered (suc levels) (record { nodes = nodes; text = text }) >>= λ e r. with_it (sign_at text) r) else bad (record { nodes = nodes; text = text }))
      at nodes [] i = rw no_end tt
      at nodes (byte ∷ text) i = rw (eqb-suc-zero levels) (go (begins (sign byte)) (nodes == 0) refl)
        where
          some : (nodes == 0) ≡ false → 1 + (nodes - 1) ≡ nodes
          some e = let h : nodes ≢ 0 = λ z. let t : (nodes == 0) ≡ true = eq-eqb nodes 0 z in cc in omega arith

          go : (a b : Bool) → (nodes == 0) ≡ b
              → Spelt all (λ a. x ++ t a) (P nodes) (if a then (◌>>=◌ {A = Unit {0}} (if b then (Err TooMany, record { nodes = nodes; text = byte ∷ text }) else (Ok tt, record { nodes = nodes - 1; text = text })) (λ e r. with_it (sign byte) r)) else bad (record { nodes = nodes; text = byte ∷ text }))
          go true true e = tt
          go true false e = subst (λ m. Spelt all (λ a. x ++ t a) (P m) (with_it (sign byte) (record { nodes = nodes - 1; text = text }))) (some e) (k byte all x (record { nodes = nodes - 1; text = text }) (i ∙ sym (append_assoc x (byte ∷ []) text)))
          go false b e = tt

-- with none nothing is entered
none_has : {A : Type 0} (t : A → List ℕ) (P : ℕ → A → ℕ → Type 0) (begins : Sign → Bool) → HasText t P (λ rest. if begins (next rest) then (entered 0 rest >>= λ e r. bad r) else bad rest)
none_has {A = A} t P begins all x rest i = go (begins (next rest)) (rest.nodes == 0)
  where
    go : (a b : Bool) → Spelt {A = A} all (λ a. x ++ t a) (P rest.nodes) (if a then (◌>>=◌ {A = Unit {0}} (if b then (Err TooMany, rest) else (Err TooDeep, rest)) (λ e r. bad r)) else bad rest)
    go true true = tt
    go true false = tt
    go false b = tt

mutual
  unfolding term_at value_at

  pub term_has : (levels : ℕ) → HasTerms levels (term_at levels)
  term_has zero = none_has term_text (IsTermOf zero) begins_term
  term_has (suc levels) =
      node_has term_text (IsTermOf (suc levels)) begins_term refl (term_with (term_at levels) (value_at levels)) levels
      (λ byte all x rest i. term_with_has levels (term_at levels) (value_at levels) (term_has levels) (value_has levels) (sign byte) byte refl all x rest i)

  pub value_has : (levels : ℕ) → HasValues levels (value_at levels)
  value_has zero = none_has value_text (IsValueOf zero) begins_value
  value_has (suc levels) =
      node_has value_text (IsValueOf (suc levels)) begins_value refl (value_with (term_at levels) (value_at levels)) levels
      (λ byte all x rest i. value_with_has levels (term_at levels) (value_at levels) (term_has levels) (value_has levels) (sign byte) byte refl all x rest i)

pub list_of_has : (levels : ℕ) → HasText (λ l. 40 ∷ list_text l) (IsListOf levels) (list_of (value_at levels))
list_of_has levels = list_has levels (term_at levels) (value_at levels) (term_has levels) (value_has levels)
