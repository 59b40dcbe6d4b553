-- What a mark begins ends at the first mark that is not doubled.
use Rattle.std.proofs.Common.{◌≡◌, ℕ, suc, ◌+◌, ◌≤◌, Bool, true, false, nat_eq, List, [], ◌∷◌, ◌++◌, length, Option, Some, None, refl, sym, ap, ◌∙◌, subst, arith, inl, inr}
use Rattle.std.proofs.lemmas.Bool.{cases_Bool, eqb-true}
use Rattle.std.proofs.lemmas.Bool.Decides.{nat_tests}
use Rattle.std.proofs.lemmas.List.{append-nil}
use Rattle.sql_lex.specs.Classes.{doubled}
use Rattle.sql_lex.specs.Front.{end_len, first_passes, one_more}
use Rattle.sql_lex.proofs.Steps.{later, later-none, later-one_more}

one_more-later : (n : ℕ) (o : Option ℕ) → one_more (later n o) ≡ later (suc n) o
one_more-later n None = refl
one_more-later n (Some k) = ap Some (omega arith)

pub one_more-some : (o : Option ℕ) (m : ℕ) → one_more o ≡ Some m → (k : ℕ) × (o ≡ Some k) × (m ≡ 1 + k)
one_more-some None m e = absurd cc
one_more-some (Some k) m e = let same : 1 + k ≡ m = cc in (k, refl, sym same)

pub one_more-none : (o : Option ℕ) → one_more o ≡ None → o ≡ None
one_more-none None e = refl
one_more-none (Some k) e = absurd cc

pub later-least : (n : ℕ) (o : Option ℕ) (m : ℕ) → later n o ≡ Some m → n ≤ m
later-least n None m e = absurd cc
later-least n (Some k) m e = let same : n + k ≡ m = cc in omega arith

module _ (mark : ℕ) where
  itself : nat_eq mark mark ≡ true
  itself = grind (arith, nat_tests)

  -- a mark that stands just before
  abbrev pub behind : Bool → List ℕ → List ℕ
  behind true bytes = mark ∷ bytes
  behind false bytes = bytes

  abbrev pub count : Bool → ℕ
  count true = 1
  count false = 0

  pub end_len-doubled : (inside ys : List ℕ) → end_len mark false (doubled mark inside ++ ys) ≡ later (length (doubled mark inside)) (end_len mark false ys)
  end_len-doubled [] ys = sym (later-none _)
  end_len-doubled (byte ∷ inside) ys = elim (cases_Bool (nat_eq byte mark)) [
    | inl same ↦
        rw same (rw (itself, end_len-doubled inside ys)
        (ap one_more (one_more-later (length (doubled mark inside)) (end_len mark false ys)) ∙ one_more-later (suc (length (doubled mark inside))) (end_len mark false ys)))
    | inr other ↦ rw (other, other, end_len-doubled inside ys) (one_more-later (length (doubled mark inside)) (end_len mark false ys))
  ]

  -- the mark that ends these bytes
  pub record Ended (marked : Bool) (bytes : List ℕ) (m : ℕ) : Type 0 where
    pub inside : List ℕ
    pub rest : List ℕ
    pub parts : behind marked bytes ≡ doubled mark inside ++ mark ∷ rest
    pub size : length (doubled mark inside) + 1 ≡ m + count marked
    pub alone : first_passes (nat_eq mark) rest ≡ false

  doubled-mark : (inside : List ℕ) → doubled mark (mark ∷ inside) ≡ mark ∷ mark ∷ doubled mark inside
  doubled-mark inside = rw (itself) refl

  doubled-other : (byte : ℕ) (inside : List ℕ) → nat_eq byte mark ≡ false → doubled mark (byte ∷ inside) ≡ byte ∷ doubled mark inside
  doubled-other byte inside other = rw other refl

  not_first : (byte : ℕ) (bytes : List ℕ) → nat_eq byte mark ≡ false → first_passes (nat_eq mark) (byte ∷ bytes) ≡ false
  not_first byte bytes other = grind (arith, nat_tests)

  pair_ended : (bytes : List ℕ) (m : ℕ) → Ended false bytes m → Ended true (mark ∷ bytes) (1 + m)
  pair_ended bytes m more = record {
    inside = mark ∷ more.inside;
    rest = more.rest;
    parts = ap (λ t. mark ∷ mark ∷ t) more.parts ∙ ap (λ t. t ++ mark ∷ more.rest) (sym (doubled-mark more.inside));
    size = omega (arith, more.size, ap length (doubled-mark more.inside));
    alone = more.alone;
  }

  mark_ended : (bytes : List ℕ) (m : ℕ) → Ended true bytes m → Ended false (mark ∷ bytes) (1 + m)
  mark_ended bytes m more = record {
    inside = more.inside;
    rest = more.rest;
    parts = more.parts;
    size = omega (arith, more.size);
    alone = more.alone;
  }

  other_ended : (byte : ℕ) (bytes : List ℕ) (m : ℕ) → nat_eq byte mark ≡ false → Ended false bytes m → Ended false (byte ∷ bytes) (1 + m)
  other_ended byte bytes m other more = record {
    inside = byte ∷ more.inside;
    rest = more.rest;
    parts = ap (λ t. byte ∷ t) more.parts ∙ ap (λ t. t ++ mark ∷ more.rest) (sym (doubled-other byte more.inside other));
    size = omega (arith, more.size, ap length (doubled-other byte more.inside other));
    alone = more.alone;
  }

  ended_at : (marked : Bool) (byte : ℕ) (bytes : List ℕ) → nat_eq byte mark ≡ true → (m : ℕ) → Ended marked (mark ∷ bytes) m → Ended marked (byte ∷ bytes) m
  ended_at marked byte bytes same m e = subst (λ b. Ended marked (b ∷ bytes) m) (sym (eqb-true byte mark same)) e

  pub ended : (marked : Bool) (bytes : List ℕ) (m : ℕ) → end_len mark marked bytes ≡ Some m → Ended marked bytes m
  ended true [] m e = let none : 0 ≡ m = cc in record { inside = []; rest = []; parts = refl; size = omega arith; alone = refl }
  ended false [] m e = absurd cc
  ended true (byte ∷ bytes) m e = elim (cases_Bool (nat_eq byte mark)) [
    | inl same ↦
        let k = one_more-some (end_len mark false bytes) m (rw same at e) in
        rw k.2 (ended_at true byte bytes same (1 + k.0) (pair_ended bytes k.0 (ended false bytes k.0 k.1)))
    | inr other ↦
        let f : ◌≡◌ {A = Option ℕ} (Some 0) (Some m) = rw other at e in
        let none : 0 ≡ m = cc in
        record { inside = []; rest = byte ∷ bytes; parts = refl; size = omega arith; alone = not_first byte bytes other }
  ]
  ended false (byte ∷ bytes) m e = elim (cases_Bool (nat_eq byte mark)) [
    | inl same ↦
        let k = one_more-some (end_len mark true bytes) m (rw same at e) in
        rw k.2 (ended_at false byte bytes same (1 + k.0) (mark_ended bytes k.0 (ended true bytes k.0 k.1)))
    | inr other ↦
        let k = one_more-some (end_len mark false bytes) m (rw other at e) in
        rw k.2 (other_ended byte bytes k.0 other (ended false bytes k.0 k.1))
  ]

  abbrev pub Unended : Bool → List ℕ → Type 0
  Unended marked bytes = (inside : List ℕ) × (behind marked bytes ≡ doubled mark inside)

  pair_unended : (bytes : List ℕ) → Unended false bytes → Unended true (mark ∷ bytes)
  pair_unended bytes (inside, e) = (mark ∷ inside, ap (λ t. mark ∷ mark ∷ t) e ∙ sym (doubled-mark inside))

  other_unended : (byte : ℕ) (bytes : List ℕ) → nat_eq byte mark ≡ false → Unended false bytes → Unended false (byte ∷ bytes)
  other_unended byte bytes other (inside, e) = (byte ∷ inside, ap (λ t. byte ∷ t) e ∙ sym (doubled-other byte inside other))

  -- no mark ends these bytes
  pub unended : (marked : Bool) (bytes : List ℕ) → end_len mark marked bytes ≡ None → Unended marked bytes
  unended true [] e = absurd cc
  unended false [] e = ([], refl)
  unended true (byte ∷ bytes) e = elim (cases_Bool (nat_eq byte mark)) [
    | inl same ↦ subst (λ b. Unended true (b ∷ bytes)) (sym (eqb-true byte mark same)) (pair_unended bytes (unended false bytes (one_more-none _ (rw same at e))))
    | inr other ↦ let f : ◌≡◌ {A = Option ℕ} (Some 0) None = rw other at e in absurd cc
  ]
  unended false (byte ∷ bytes) e = elim (cases_Bool (nat_eq byte mark)) [
    | inl same ↦ subst (λ b. Unended false (b ∷ bytes)) (sym (eqb-true byte mark same)) (unended true bytes (one_more-none _ (rw same at e)))
    | inr other ↦ other_unended byte bytes other (unended false bytes (one_more-none _ (rw other at e)))
  ]

  -- what ends nowhere has no end
  pub open-none : (inside : List ℕ) → end_len mark false (doubled mark inside) ≡ None
  open-none inside = ap (end_len mark false) (sym (append-nil (doubled mark inside))) ∙ end_len-doubled inside []

  one_more-end : (inside after : List ℕ) → end_len mark false (doubled mark inside ++ mark ∷ after) ≡ later (suc (length (doubled mark inside))) (end_len mark true after)
  one_more-end inside after = end_len-doubled inside (mark ∷ after) ∙ rw (itself) (later-one_more (length (doubled mark inside)) _)

  -- a mark that ends bytes does not stand behind the one that was found
  pub end_len-least : (inside after : List ℕ) (m : ℕ) → end_len mark false (doubled mark inside ++ mark ∷ after) ≡ Some m → length (doubled mark inside) + 1 ≤ m
  end_len-least inside after m e =
      omega (arith, later-least (suc (length (doubled mark inside))) (end_len mark true after) m (sym (one_more-end inside after) ∙ e))

  -- what ends there, ends there
  pub end_len-ends : (inside rest : List ℕ) → first_passes (nat_eq mark) rest ≡ false → end_len mark false (doubled mark inside ++ mark ∷ rest) ≡ Some (suc (length (doubled mark inside)))
  end_len-ends inside [] alone = one_more-end inside [] ∙ ap Some (omega arith)
  end_len-ends inside (byte ∷ rest) alone =
      let other : nat_eq byte mark ≡ false = grind (arith, nat_tests) in
      one_more-end inside (byte ∷ rest) ∙ rw other (ap Some (omega arith))
