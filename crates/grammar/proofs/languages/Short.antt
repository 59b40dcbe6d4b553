-- What holds of the names' languages for short texts holds of forms.
use Rattle.std.proofs.Common.{◌≡◌, ℕ, ◌≤◌, List, [], ◌∷◌, ◌++◌, length, length-append, inl, inr, ap, None, arith}
use Rattle.grammar.specs.Language.{Language, Concatenates}
use Rattle.grammar.specs.Form.{Form, Room, empty, token, seq, alt, star, nest, map, only, nonempty, counted, fork, ref, form_language}

pub first_short : {T : Type 0} (m : ℕ) (ts x y : List T) → ts ≡ x ++ y → length ts ≤ m → length x ≤ m
first_short m ts x y i n = omega (arith, n, ap length i, length-append x y)

pub second_short : {T : Type 0} (m : ℕ) (ts x y : List T) → ts ≡ x ++ y → length ts ≤ m → length y ≤ m
second_short m ts x y i n = omega (arith, n, ap length i, length-append x y)

module _ {T K N : Type 0} {V : N → Type 0} (kind : T → K) (m : ℕ) (E F : Room → (n : N) → Language T (V n))
    (a : (n : N) (ts : List T) (v : V n) → length ts ≤ m → (E None n).spells ts v → (F None n).spells ts v) where
  all_short : {A : Type 0} (S R : List T → A → Type 0) → ((ts : List T) (v : A) → length ts ≤ m → S ts v → R ts v) → (ts : List T) (vs : List A) → length ts ≤ m → Concatenates S ts vs → Concatenates R ts vs
  all_short S R f ts [] n s = s
  all_short S R f ts (v ∷ vs) n (x, y, i, s, r) = (x, y, i, f x v (first_short m ts x y i n) s, all_short S R f y vs (second_short m ts x y i n) r)

  pub short : {A : Type 0} (f : Form T K N V A) (ts : List T) (v : A) → length ts ≤ m → (form_language kind E None f).spells ts v → (form_language kind F None f).spells ts v
  short empty ts v n s = s
  short (token p) ts v n s = s
  short (seq f g) ts v n (x, y, i, s, r) = (x, y, i, short f x v.0 (first_short m ts x y i n) s, short g y v.1 (second_short m ts x y i n) r)
  short (alt f g) ts v n (inl s) = inl (short f ts v n s)
  short (alt f g) ts v n (inr s) = inr (short g ts v n s)
  short (star most f) ts v n s = all_short _ _ (short f) ts v n s
  short (nest f) ts v n s = short f ts v n s
  short (map h f) ts v n (u, s, i) = (u, short f ts u n s, i)
  short (only p f) ts v n (s, i) = (short f ts v n s, i)
  short (nonempty f) ts v n (s, i) = (short f ts v n s, i)
  short (counted f) ts v n (s, i) = (short f ts v.0 n s, i)
  short (fork f g h) ts v n (x, y, inl c, i, s, (k, r, j)) = (x, y, inl c, i, short f x (inl c) (first_short m ts x y i n) s, (k, short g y k (second_short m ts x y i n) r, j))
  short (fork f g h) ts v n (x, y, inr c, i, s, (k, r, j)) = (x, y, inr c, i, short f x (inr c) (first_short m ts x y i n) s, (k, short h y k (second_short m ts x y i n) r, j))
  short (ref p) ts v n s = a p ts v n s
