-- How readings of one part make a reading of its repetition, with no limit or with one on the number of parts.
use Rattle.std.proofs.Common.{◌≡◌, ℕ, zero, suc, ◌≤◌, true, not, List, [], ◌∷◌, ◌++◌, length, Option, Some, None, inl, inr, refl, sym, ◌∙◌, ap, subst, append_assoc, arith}
use Rattle.std.proofs.lemmas.List.{append-nil}
use Rattle.grammar.specs.Language.{Language, HasPrefixes, Concatenates, seq_language, star_language, upto_language}
use Rattle.grammar.specs.Form.{Room, repeated}
use Rattle.grammar.specs.Lookahead.{Lookahead, star_lookahead}
use Rattle.grammar.specs.Reading.{Stops, Passes, Took, Failed, Exceeded}
use Rattle.grammar.proofs.languages.Cut.{nil_left, not_nil}
use Rattle.grammar.proofs.languages.Sets.{and_right, not_both}
use Rattle.grammar.proofs.languages.Prefixes.{one_before, star_from, star_to}
use Rattle.grammar.proofs.languages.Forms.{repeated_prefixes, repeated_grows}
use Rattle.grammar.proofs.languages.Known.{Known, Parted, star_known}
use Rattle.grammar.proofs.readers.Steps.{Behind, IsWithin, seq_behind, seq_first_failed, seq_first_exceeded}
use Rattle.grammar.proofs.readers.Choices.{is_absent}

-- one more behind those that are there
pub one_more : {T A : Type 0} (S : List T → A → Type 0) (x y : List T) (vs : List A) (v : A) → Concatenates S x vs → S y v → Concatenates S (x ++ y) (vs ++ v ∷ [])
one_more S x y [] v i r = (y, [], ap (λ z. z ++ y) i ∙ sym (append-nil y), r, refl)
one_more S x y (w ∷ vs) v (a, b, i, s, r) t = (a, b ++ y, ap (λ z. z ++ y) i ∙ append_assoc a b y, s, one_more S b y vs v r t)

-- M' repeats B once more than M may: what one of B and then M spell or begin, M' does, and the other way where there are tokens
pub record IsOneMore {T A : Type 0} (B : Language T A) (M M' : Language T (List A)) : Type 0 where
  pub spells : (x y : List T) (v : A) (vs : List A) → B.spells x v → M.spells y vs → M'.spells (x ++ y) (v ∷ vs)
  pub there : (x : List T) → (seq_language B M).prefix x → M'.prefix x
  pub back : (x : List T) → (x ≡ [] → ⊥) → M'.prefix x → (seq_language B M).prefix x

module _ {T A : Type 0} (B : Language T A) (b : HasPrefixes B) where
  -- with no limit
  star_one_more : IsOneMore B (star_language B) (star_language B)
  star_one_more = record { spells = λ x y v vs s r. (x, y, refl, s, r); there = there; back = back }
    where
      there : (x : List T) → (seq_language B (star_language B)).prefix x → (star_language B).prefix x
      there x (inl f) = inr ([], x, [], refl, refl, f)
      there x (inr (y, z, v, e, s, f)) =
          let p = star_to B b z f in
          star_from B b (suc p.0) x (subst (upto_language (suc p.0) B).prefix (sym e) (one_before B b p.0 y z v s p.1))

      back : (x : List T) → (x ≡ [] → ⊥) → (star_language B).prefix x → (seq_language B (star_language B)).prefix x
      back x n (inl e) = absurd (n e)
      back x n (inr (y, z, [], e, r, f)) = inl (subst B.prefix (sym (e ∙ ap (λ o. o ++ z) r)) f)
      back x n (inr (y, z, v ∷ vs, e, (p, q, i, s, r), f)) =
          inr (p, q ++ z, v, e ∙ (ap (λ o. o ++ z) i ∙ append_assoc p q z), s, inr (q, z, vs, refl, r, f))

  upto_one_more : (m : ℕ) → IsOneMore B (upto_language m B) (upto_language (suc m) B)
  upto_one_more m = record { spells = λ x y v vs s r. ((x, y, refl, s, r.0), fits vs r.1); there = there; back = back }
    where
      fits : (vs : List A) → length vs ≤ m → suc (length vs) ≤ suc m
      fits vs n = omega (arith, n)

      there : (x : List T) → (seq_language B (upto_language m B)).prefix x → (upto_language (suc m) B).prefix x
      there x (inl f) = inr ([], x, [], refl, refl, f, omega arith)
      there x (inr (y, z, v, e, s, f)) = subst (upto_language (suc m) B).prefix (sym e) (one_before B b m y z v s f)

      back : (x : List T) → (x ≡ [] → ⊥) → (upto_language (suc m) B).prefix x → (seq_language B (upto_language m B)).prefix x
      back x n (inl e) = absurd (n e)
      back x n (inr (y, z, [], e, r, f, k)) = inl (subst B.prefix (sym (e ∙ ap (λ o. o ++ z) r)) f)
      back x n (inr (y, z, v ∷ vs, e, (p, q, i, s, r), f, k)) =
          inr (p, q ++ z, v, e ∙ (ap (λ o. o ++ z) i ∙ append_assoc p q z), s, inr (q, z, vs, refl, r, f, omega (arith, k)))

-- how often something may stand still, after once more
abbrev pub once_more : Option ℕ → Option ℕ
once_more None = None
once_more (Some m) = Some (suc m)

module _ {T A : Type 0} (B : Language T A) where
  pub repeats_once_more : HasPrefixes B → (room : Room) (most : Option ℕ) → IsOneMore B (repeated room most B) (repeated room (once_more most) B)
  repeats_once_more b None most = star_one_more B b
  repeats_once_more b (Some levels) None = star_one_more B b
  repeats_once_more b (Some levels) (Some m) = upto_one_more B b m

  pub repeats_none : (room : Room) (most : Option ℕ) → (repeated room most B).spells [] []
  repeats_none None most = refl
  repeats_none (Some levels) None = refl
  repeats_none (Some levels) (Some m) = (refl, omega arith)

pub repeated_within : {T A : Type 0} (U B : Language T A) → IsWithin U B → (room : Room) (most : Option ℕ) → IsWithin (star_language U) (repeated room most B)
repeated_within U B l room most = record { includes = repeated_grows B U l.includes most room None tt; prefixes = repeated_prefixes room most B l.prefixes }

-- M is what remains of the repetition of B after one more, and M' what remained before it
module _ {T K A : Type 0} (kind : T → K) (U B : Language T A) (a : Lookahead K) (u : Known kind U a) (l : IsWithin U B) (never_null : a.nullable ≡ true → ⊥) (parted : Parted a a) where
  abbrev all : Language T (List A)
  all = star_language U

  pub all_known : Known kind all (star_lookahead a)
  all_known = star_known kind U a u never_null parted

  -- ---- none

  pub star_end : (M : Language T (List A)) → M.spells [] [] → (ts : List T) → is_absent kind a ts ≡ true → Took all M ts [] ts
  star_end M s ts d = record { taken = []; whole = refl; spelled = s; stops = go ts d }
    where
      go : (ts : List T) → is_absent kind a ts ≡ true → Stops all [] ts
      go [] d = tt
      go (t ∷ ts) d = λ f. not_both (a.first (kind t)) (and_right (not a.nullable) (not (a.first (kind t))) d) (all_known.ahead.first t [] f)

  -- ---- one, and the rest

  abbrev one_of : Language T (A × List A)
  one_of = seq_language U all

  one_stops : (x rest : List T) → Stops one_of x rest → Stops all x rest
  one_stops x [] s = tt
  one_stops x (t ∷ rest) s = λ f. s ((star_one_more U u.prefixes).back (x ++ t ∷ []) (λ e. not_nil x [] t e) f)

  module _ (M M' : Language T (List A)) (m : IsWithin all M) (o : IsOneMore B M M') where
    abbrev one_few : Language T (A × List A)
    one_few = seq_language B M

    one_passes : (x rest : List T) → Passes one_of one_few x rest → Passes all M' x rest
    one_passes x [] p = p
    one_passes x (t ∷ rest) p = ((star_one_more U u.prefixes).there _ p.0, λ f. p.1 (o.back (x ++ t ∷ []) (λ e. not_nil x [] t e) f))

    one_failed : (ts rest : List T) (k : Failed one_of one_few ts rest) → (k.taken ≡ [] → ⊥) → Failed all M' ts rest
    one_failed ts rest k n = record {
      taken = k.taken;
      whole = k.whole;
      begun = o.there k.taken k.begun;
      unspelled = unspelled;
      stops = one_stops k.taken rest k.stops;
    }
      where
        unspelled : (vs : List A) → Concatenates U.spells k.taken vs → ⊥
        unspelled [] e = n e
        unspelled (v ∷ vs) s = k.unspelled (v, vs) s

    -- a failure of one and the rest has taken something, where one begins
    something_taken : (ts rest : List T) (t : T) (others : List T) → ts ≡ t ∷ others → U.prefix (t ∷ []) → (k : Failed one_of one_few ts rest) → k.taken ≡ [] → ⊥
    something_taken ts rest t others i f k e = go rest (sym i ∙ (k.whole ∙ ap (λ z. z ++ rest) e)) (subst (λ z. Stops one_of z rest) e k.stops)
      where
        go : (rest : List T) → t ∷ others ≡ rest → Stops one_of [] rest → ⊥
        go [] i s = cc
        go (c ∷ rest) i s = let j : t ≡ c = cc in s (inl (subst (λ z. U.prefix (z ∷ [])) j f))

    -- what remains behind one
    pub star_behind : (x : List T) (v : A) → B.spells x v → (mid : List T) → Stops U x mid → Behind all M all M' x mid
    star_behind x v s mid stop = record {
      begun = λ y rest e f. o.there (x ++ y) (one.begun y rest e f);
      spelled = spelled;
      there = λ y t rest e f. (star_one_more U u.prefixes).there (x ++ (y ++ t ∷ [])) (one.there y t rest e f);
      back = λ y t rest e f. one.back y t rest e ((star_one_more U u.prefixes).back (x ++ (y ++ t ∷ [])) (some y t) f);
      within = λ y t rest e f. one.within y t rest e (o.back (x ++ (y ++ t ∷ [])) (some y t) f);
    }
      where
        one : Behind all M one_of one_few x mid
        one = seq_behind kind U B all M a (star_lookahead a) u all_known l m parted x v s mid stop

        some : (y : List T) (t : T) → x ++ (y ++ t ∷ []) ≡ [] → ⊥
        some y t e = not_nil (x ++ y) [] t (append_assoc x y (t ∷ []) ∙ e)

        spelled : (y rest : List T) → mid ≡ y ++ rest → Stops all y rest → M.prefix y → (ws : List A) → all.spells (x ++ y) ws → (vs : List A) × all.spells y vs
        spelled y rest e p f [] s' = absurd (never_null (u.ahead.nullable v (l.includes.spells [] v (subst (λ z. B.spells z v) (nil_left x y (sym s')) s))))
        spelled y rest e p f (w ∷ ws) s' = one.spelled y rest e p f (w, ws) s'

    -- where one more begins, and is not read to its end
    pub star_failed : (t : T) (ts rest : List T) → U.prefix (t ∷ []) → Failed U B (t ∷ ts) rest → Failed all M' (t ∷ ts) rest
    star_failed t ts rest f r =
        let k = seq_first_failed kind U B all M a (star_lookahead a) u all_known l m parted (t ∷ ts) rest r in
        one_failed (t ∷ ts) rest k (something_taken (t ∷ ts) rest t ts refl f k)

    pub star_exceeded : (ts rest : List T) → Exceeded U B ts rest → Exceeded all M' ts rest
    star_exceeded ts rest r =
        let k = seq_first_exceeded kind U B all M a (star_lookahead a) u all_known l m parted ts rest r in
        record { taken = k.taken; whole = k.whole; begun = o.there k.taken k.begun; passes = one_passes k.taken rest k.passes }

-- where so many are read as the limit allows, and one more begins
pub star_full : {T A : Type 0} (U B : Language T A) (levels : ℕ) (t : T) (rest : List T) → U.prefix (t ∷ []) → Exceeded (star_language U) (repeated (Some levels) (Some zero) B) (t ∷ rest) (t ∷ rest)
star_full U B levels t rest f = record { taken = []; whole = refl; begun = inl refl; passes = (inr ([], t ∷ [], [], refl, refl, f), no) }
  where
    no : (upto_language zero B).prefix (t ∷ []) → ⊥
    no (inl e) = cc
    no (inr (x, y, vs, e, s, g, n)) = omega (arith, n)
