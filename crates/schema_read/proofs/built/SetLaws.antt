-- Two lists of columns have one number where they are the same set.
use Prim.Native.Nat.{max}
use Rattle.std.proofs.Common.{◌≡◌, ℕ, ◌^◌, nat_eq, Bool, true, false, cond, ◌||◌, List, [], ◌∷◌, ◌++◌, map, fold, Option, Some, None, refl, sym, ap, subst, ◌∙◌, inl, inr, arith}
use Rattle.std.specs.Prelude.{not}
use Rattle.std.specs.Int.{bit_at}
use Rattle.std.specs.List.{list_any}
use Rattle.std.proofs.lemmas.Bool.{and_from, and_parts, cases_Bool, cond_both, eq-eqb, eqb-false, not-false, not-true}
use Rattle.std.proofs.lemmas.List.{map-append}
use Rattle.std.proofs.lemmas.Map.Views.{exact_unsigned_eq}
use Rattle.std.proofs.lemmas.Nat.Bits.{bit_at_or, bit_at-zero, bit_at-pow_same, bit_at-pow_other, same_from_bits}
use Rattle.indexmap.specs.IndexSet.{insert_key}
use Rattle.data_model.specs.Numbers.{one_if}
use Rattle.schema_read.specs.Building.{with_key}
use Rattle.schema_read.specs.Keys.{is_part, same_set, has_key, stands_for}
use Rattle.schema_read.specs.Sets.{with_column, column_set}
use Rattle.schema_read.proofs.built.KeyLaws.{is_in, iff, in_whole, part_self}

bit-pow : (x i : ℕ) → bit_at (2 ^ x) i ≡ one_if (nat_eq x i)
bit-pow x i = elim (cases_Bool (nat_eq x i)) [
  | inl is ↦ rw is (ap (λ k. bit_at (2 ^ x) k) (sym (exact_unsigned_eq x i is)) ∙ bit_at-pow_same x)
  | inr isnt ↦ rw isnt (bit_at-pow_other x i (λ same. eqb-false x i isnt (sym same)))
]

either-max : (s : ℕ) (a b : Bool) → max (max s (one_if a)) (one_if b) ≡ max s (one_if (a || b))
either-max s true true = omega arith
either-max s true false = omega arith
either-max s false true = omega arith
either-max s false false = omega arith

bits-from : (s : ℕ) (xs : List ℕ) (i : ℕ) → bit_at (fold with_column s xs) i ≡ max (bit_at s i) (one_if (is_in i xs))
bits-from s [] i = omega arith
bits-from s (x ∷ xs) i =
    bits-from (with_column s x) xs i
    ∙ ap (λ m. max m (one_if (is_in i xs))) (bit_at_or s (2 ^ x) i ∙ ap (max (bit_at s i)) (bit-pow x i))
    ∙ either-max (bit_at s i) (nat_eq x i) (is_in i xs)

bits : (xs : List ℕ) (i : ℕ) → bit_at (column_set xs) i ≡ one_if (is_in i xs)
bits xs i = omega (arith, bits-from 0 xs i, bit_at-zero i)

same_flag : (a b : Bool) → one_if a ≡ one_if b → a ≡ b
same_flag true true e = refl
same_flag false false e = refl
same_flag true false e = absurd (omega (arith, e))
same_flag false true e = absurd (omega (arith, e))

-- ---- one number, one set
same_members : (xs ys : List ℕ) → column_set xs ≡ column_set ys → (x : ℕ) → is_in x xs ≡ true → is_in x ys ≡ true
same_members xs ys e x member =
    sym (same_flag (is_in x xs) (is_in x ys) (sym (bits xs x) ∙ ap (λ set. bit_at set x) e ∙ bits ys x)) ∙ member

same_numbers : (xs ys : List ℕ) → same_set xs ys ≡ true → column_set xs ≡ column_set ys
same_numbers xs ys same =
    let parts = and_parts (is_part xs ys) (is_part ys xs) same in
    same_from_bits (column_set xs) (column_set ys)
    (λ i. bits xs i ∙ ap one_if (iff (is_in i xs) (is_in i ys) (in_whole i xs ys parts.0) (in_whole i ys xs parts.1)) ∙ sym (bits ys i))

pub one-number : (xs ys : List ℕ) → nat_eq (column_set xs) (column_set ys) ≡ same_set xs ys
one-number xs ys =
    iff (nat_eq (column_set xs) (column_set ys)) (same_set xs ys)
    (λ e. let one = exact_unsigned_eq (column_set xs) (column_set ys) e in
    and_from (is_part xs ys) (is_part ys xs) (part_self xs ys (same_members xs ys one)) (part_self ys xs (same_members ys xs (sym one))))
    (λ same. subst (λ set. nat_eq (column_set xs) set ≡ true) (same_numbers xs ys same) (eq-eqb (column_set xs) (column_set xs) refl))

-- ---- keys with their numbers
pub known : (keys : List (List ℕ)) (key : List ℕ) → list_any (nat_eq (column_set key)) (map column_set keys) ≡ has_key keys key
known [] key = refl
known (k ∷ keys) key = ap (λ b. b || list_any (nat_eq (column_set key)) (map column_set keys)) (one-number key k) ∙ ap (λ b. same_set key k || b) (known keys key)

standing-number : (primary : Option (List ℕ)) (key : List ℕ) → column_set (stands_for primary key) ≡ column_set key
standing-number None key = refl
standing-number (Some q) key = cond_both (same_set q key) q key (λ z. column_set z ≡ column_set key) (λ is. same_numbers q key is) (λ isnt. refl)

module _ (primary : Option (List ℕ)) (keys : List (List ℕ)) (key : List ℕ) where
  pub numbers-kept : insert_key nat_eq (map column_set keys) (column_set key) ≡ map column_set (with_key primary keys key)
  numbers-kept =
      ap (λ b. cond b (map column_set keys) (map column_set keys ++ column_set key ∷ [])) (known keys key) ∙ by (has_key keys key)
    where
      by : (b : Bool) → cond b (map column_set keys) (map column_set keys ++ column_set key ∷ []) ≡ map column_set (cond b keys (keys ++ stands_for primary key ∷ []))
      by true = refl
      by false =
          ap (λ set. map column_set keys ++ set ∷ []) (sym (standing-number primary key))
          ∙ sym (map-append column_set keys (stands_for primary key ∷ []))

-- what an insertion of a key's number tells
pub told : (numbers : List ℕ) (keys : List (List ℕ)) (key : List ℕ) (set : ℕ) (added : Bool) → numbers ≡ map column_set keys → set ≡ column_set key
    → added ≡ not (list_any (nat_eq set) numbers) → not (has_key keys key) ≡ added
told numbers keys key set added same is tells =
    sym (ap not (known keys key)) ∙ ap (λ s. not (list_any (nat_eq s) (map column_set keys))) (sym is)
    ∙ ap (λ ns. not (list_any (nat_eq set) ns)) (sym same) ∙ sym tells

pub key_added : (primary : Option (List ℕ)) (keys : List (List ℕ)) (key : List ℕ) → not (has_key keys key) ≡ true → with_key primary keys key ≡ keys ++ stands_for primary key ∷ []
key_added primary keys key new = rw (not-true (has_key keys key) new) refl

pub key_kept : (primary : Option (List ℕ)) (keys : List (List ℕ)) (key : List ℕ) → not (has_key keys key) ≡ false → with_key primary keys key ≡ keys
key_kept primary keys key old = rw (not-false (has_key keys key) old) refl

pub numbers-after : (primary : Option (List ℕ)) (keys : List (List ℕ)) (key : List ℕ) (numbers new : List ℕ) (set : ℕ) → numbers ≡ map column_set keys → set ≡ column_set key
    → new ≡ insert_key nat_eq numbers set → new ≡ map column_set (with_key primary keys key)
numbers-after primary keys key numbers new set same is tells =
    tells ∙ ap (insert_key nat_eq numbers) is ∙ ap (λ ns. insert_key nat_eq ns (column_set key)) same ∙ numbers-kept primary keys key
