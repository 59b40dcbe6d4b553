-- In each language that forms mean, a prefix of a prefix is a prefix, and so is a spelling.
use Rattle.std.proofs.Common.{◌≡◌, ℕ, zero, suc, ◌≤◌, Bool, List, [], ◌∷◌, ◌++◌, length, ◌⊎◌, inl, inr, refl, sym, ◌∙◌, ap, subst, append_assoc, arith}
use Rattle.std.proofs.lemmas.List.{append-nil}
use Rattle.grammar.specs.Language.{Language, HasPrefixes, Concatenates, empty_language, token_language, seq_language, alt_language, star_language, upto_language, map_language, only_language, nonempty_language, counted_language, bind_language, branch, no_language}
use Rattle.grammar.proofs.languages.Cut.{Cut, longer, same, shorter, cut, nil_left}

pub empty_prefixes : {T : Type 0} → HasPrefixes (empty_language {T = T})
empty_prefixes = record {
  empty = refl;
  shorter = λ x y f. nil_left x y (sym f);
  spelled = λ ts v s. s;
}

pub no_prefixes : {T A : Type 0} → HasPrefixes (no_language {T = T} {A = A})
no_prefixes = record {
  empty = refl;
  shorter = λ x y f. nil_left x y (sym f);
  spelled = λ ts v s. absurd s;
}

module _ {T K : Type 0} (kind : T → K) (p : K → Bool) where
  token_shorter : (x y : List T) → (token_language kind p).prefix (x ++ y) → (token_language kind p).prefix x
  token_shorter [] y f = inl refl
  token_shorter (s ∷ x) y (inl e) = cc
  token_shorter (s ∷ x) y (inr (t, e, q)) = let f : x ++ y ≡ [] = cc in let g = nil_left x y (sym f) in inr (t, cc, q)

  pub token_prefixes : HasPrefixes (token_language kind p)
  token_prefixes = record {
    empty = inl refl;
    shorter = token_shorter;
    spelled = λ ts v s. inr (v, s.0, s.1);
  }

module _ {T A B : Type 0} (L : Language T A) (M : A → Language T B) (l : HasPrefixes L) (m : (v : A) → HasPrefixes (M v)) where
  bind_shorter : (x y : List T) → (bind_language L M).prefix (x ++ y) → (bind_language L M).prefix x
  bind_shorter x y (inl f) = inl (l.shorter x y f)
  bind_shorter x y (inr (a, b, v, e, s, f)) = go (cut x y a b e)
    where
      go : Cut x y a b → (bind_language L M).prefix x
      go (longer t k p q) = inl (l.shorter x (t ∷ k) (subst L.prefix p (l.spelled a v s)))
      go (same p q) = inl (subst L.prefix p (l.spelled a v s))
      go (shorter t k p q) = inr (a, t ∷ k, v, p, s, (m v).shorter (t ∷ k) y (subst (M v).prefix q f))

  pub bind_prefixes : HasPrefixes (bind_language L M)
  bind_prefixes = record {
    empty = inl l.empty;
    shorter = bind_shorter;
    spelled = λ ts w s. inr (s.0, s.1, s.2, s.3, s.4, (m s.2).spelled s.1 w s.5);
  }

module _ {T A B : Type 0} (L : Language T A) (M : Language T B) (l : HasPrefixes L) (m : HasPrefixes M) where
  pub seq_prefixes : HasPrefixes (seq_language L M)
  seq_prefixes = record {
    empty = inl l.empty;
    shorter = bind_shorter L (λ v. M) l (λ v. m);
    spelled = λ ts w s. inr (s.0, s.1, w.0, s.2, s.3, m.spelled s.1 w.1 s.4);
  }

module _ {T A : Type 0} (L M : Language T A) (l : HasPrefixes L) (m : HasPrefixes M) where
  alt_shorter : (x y : List T) → (alt_language L M).prefix (x ++ y) → (alt_language L M).prefix x
  alt_shorter x y (inl f) = inl (l.shorter x y f)
  alt_shorter x y (inr f) = inr (m.shorter x y f)

  alt_spelled : (x : List T) (v : A) → (alt_language L M).spells x v → (alt_language L M).prefix x
  alt_spelled x v (inl s) = inl (l.spelled x v s)
  alt_spelled x v (inr s) = inr (m.spelled x v s)

  pub alt_prefixes : HasPrefixes (alt_language L M)
  alt_prefixes = record { empty = inl l.empty; shorter = alt_shorter; spelled = alt_spelled }

module _ {T A B : Type 0} (h : A → B) (L : Language T A) (l : HasPrefixes L) where
  pub map_prefixes : HasPrefixes (map_language h L)
  map_prefixes = record { empty = l.empty; shorter = l.shorter; spelled = λ x v s. l.spelled x s.0 s.1 }

module _ {T A : Type 0} (L : Language T A) (l : HasPrefixes L) where
  pub only_prefixes : (p : A → Bool) → HasPrefixes (only_language p L)
  only_prefixes p = record { empty = l.empty; shorter = l.shorter; spelled = λ x v s. l.spelled x v s.0 }

  pub nonempty_prefixes : HasPrefixes (nonempty_language L)
  nonempty_prefixes = record { empty = l.empty; shorter = l.shorter; spelled = λ x v s. l.spelled x v s.0 }

  pub counted_prefixes : HasPrefixes (counted_language L)
  counted_prefixes = record { empty = l.empty; shorter = l.shorter; spelled = λ x v s. l.spelled x v.0 s.0 }

module _ {T A B C : Type 0} (L : Language T (A → C)) (M : Language T (B → C)) (l : HasPrefixes L) (m : HasPrefixes M) where
  pub branch_prefixes : (v : A ⊎ B) → HasPrefixes (branch L M v)
  branch_prefixes (inl a) = map_prefixes (λ f. f a) L l
  branch_prefixes (inr b) = map_prefixes (λ f. f b) M m

-- ---- any number of times

module _ {T A : Type 0} (L : Language T A) (l : HasPrefixes L) where
  -- one more before what is begun
  pub one_before : (m : ℕ) (x y : List T) (v : A) → L.spells x v → (upto_language m L).prefix y → (upto_language (suc m) L).prefix (x ++ y)
  one_before m x y v s (inl e) =
      inr ([], x ++ y, [], refl, refl, subst (λ z. L.prefix (x ++ z)) (sym e) (subst L.prefix (sym (append-nil x)) (l.spelled x v s)), omega arith)
  one_before m x y v s (inr (a, b, vs, e, r, f, n)) =
      inr (x ++ a, b, v ∷ vs, ap (λ z. x ++ z) e ∙ sym (append_assoc x a b), (x, a, refl, s, r), f, omega (arith, n))

  -- what stands before the cut
  upto_cut : (m : ℕ) (x y : List T) (vs : List A) → Concatenates L.spells (x ++ y) vs → length vs ≤ m → (upto_language m L).prefix x
  upto_cut m x y [] e n = inl (nil_left x y (sym e))
  upto_cut zero x y (v ∷ vs) s n = absurd (no n)
    where
      no : length (v ∷ vs) ≤ zero → ⊥
      no n = omega (arith, n)
  upto_cut (suc m) x y (v ∷ vs) (a, b, e, s, r) n = go (cut x y a b e) (λ z w i. upto_cut m z w vs (subst (λ u. Concatenates L.spells u vs) i r) (omega (arith, n)))
    where
      one : L.prefix x → (upto_language (suc m) L).prefix x
      one f = inr ([], x, [], refl, refl, f, omega arith)

      go : Cut x y a b → ((z w : List T) → b ≡ z ++ w → (upto_language m L).prefix z) → (upto_language (suc m) L).prefix x
      go (longer t k p q) ih = one (l.shorter x (t ∷ k) (subst L.prefix p (l.spelled a v s)))
      go (same p q) ih = one (subst L.prefix p (l.spelled a v s))
      go (shorter t k p q) ih = subst (upto_language (suc m) L).prefix (sym p) (one_before m a (t ∷ k) v s (ih (t ∷ k) y q))

  upto_spelled : (m : ℕ) (x : List T) (vs : List A) → Concatenates L.spells x vs → length vs ≤ m → (upto_language m L).prefix x
  upto_spelled m x vs s n = upto_cut m x [] vs (subst (λ z. Concatenates L.spells z vs) (sym (append-nil x)) s) n

  upto_shorter : (m : ℕ) (x y : List T) → (upto_language m L).prefix (x ++ y) → (upto_language m L).prefix x
  upto_shorter m x y (inl e) = inl (nil_left x y (sym e))
  upto_shorter m x y (inr (a, b, vs, e, r, f, n)) = go (cut x y a b e)
    where
      at_most : length vs ≤ m
      at_most = omega (arith, n)

      go : Cut x y a b → (upto_language m L).prefix x
      go (longer t k p q) = upto_cut m x (t ∷ k) vs (subst (λ u. Concatenates L.spells u vs) p r) at_most
      go (same p q) = upto_spelled m x vs (subst (λ u. Concatenates L.spells u vs) p r) at_most
      go (shorter t k p q) = inr (a, t ∷ k, vs, p, r, l.shorter (t ∷ k) y (subst L.prefix q f), n)

  pub upto_prefixes : (m : ℕ) → HasPrefixes (upto_language m L)
  upto_prefixes m = record {
    empty = inl refl;
    shorter = upto_shorter m;
    spelled = λ ts vs s. upto_spelled m ts vs s.0 s.1;
  }

  -- a prefix with no limit is one for some limit
  pub star_from : (m : ℕ) (ts : List T) → (upto_language m L).prefix ts → (star_language L).prefix ts
  star_from m ts (inl e) = inl e
  star_from m ts (inr (x, y, vs, e, s, f, n)) = inr (x, y, vs, e, s, f)

  pub star_to : (ts : List T) → (star_language L).prefix ts → (m : ℕ) × (upto_language m L).prefix ts
  star_to ts (inl e) = (zero, inl e)
  star_to ts (inr (x, y, vs, e, s, f)) = (suc (length vs), inr (x, y, vs, e, s, f, omega arith))

  pub star_prefixes : HasPrefixes (star_language L)
  star_prefixes = record {
    empty = inl refl;
    shorter = λ x y f. let p = star_to (x ++ y) f in star_from p.0 x (upto_shorter p.0 x y p.1);
    spelled = λ ts vs s. star_from (length vs) ts (upto_spelled (length vs) ts vs s (omega arith));
  }
