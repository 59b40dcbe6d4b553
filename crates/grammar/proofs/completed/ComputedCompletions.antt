-- What fills a form, and that each of its prefixes goes on, by computing: tokens are taken from samples, and of names both are given.
use Rattle.std.proofs.Common.{◌≡◌, Bool, true, false, ◌&&◌, List, [], ◌∷◌, Option, Some, None, length, refl, sym, subst}
use Rattle.grammar.specs.Form.{Form, Room, empty, token, seq, alt, star, nest, map, only, nonempty, counted, fork, ref, form_language}
use Rattle.grammar.specs.Language.{Language}
use Rattle.grammar.proofs.completed.Fillings.{Filled, fill_empty, fill_token, fill_seq, fill_one, fill_other, fill_none, fill_nest, fill_map, fill_counted}
use Rattle.grammar.proofs.completed.PrefixCompletions.{Completable, completable_alt, completable_counted, completable_empty, completable_map, completable_nest, completable_seq, completable_star, completable_token}
use Rattle.grammar.proofs.languages.Sets.{and_left, and_right}

module _ {T K N : Type 0} {V : N → Type 0} (kind : T → K) (E : Room → (n : N) → Language T (V n)) (chosen : T → Bool) where
  -- a chosen token of a kind
  pub record Sample : Type 0 where
    pub its_kind : K
    pub token : T
    pub is_of_kind : kind token ≡ its_kind
    pub is_chosen : chosen token ≡ true

  -- chosen tokens spell a value of the form
  pub record FilledBy {A : Type 0} (f : Form T K N V A) : Type 0 where
    pub value : A
    pub filled : Filled kind E chosen f value

  abbrev pub is_filled : {A : Type 0} {f : Form T K N V A} → Option (FilledBy f) → Bool
  is_filled (Some b) = true
  is_filled None = false

  pub never : false ≡ true → ⊥
  never e = cc

  abbrev pub filled_by : {A : Type 0} {f : Form T K N V A} (o : Option (FilledBy f)) → is_filled o ≡ true → FilledBy f
  filled_by (Some b) e = b
  filled_by None e = absurd (never e)

  module _ (samples : List Sample) (of_name : (n : N) → Option (FilledBy (ref n))) where
    abbrev this_or : (p : K → Bool) (s : Sample) (b : Bool) → p s.its_kind ≡ b → Option (FilledBy (token p)) → Option (FilledBy (token p))
    this_or p s true e others = Some (record { value = s.token; filled = fill_token kind E chosen p s.token s.is_chosen (subst (λ z. p z ≡ true) (sym s.is_of_kind) e) })
    this_or p s false e others = others

    abbrev a_token : (p : K → Bool) → List Sample → Option (FilledBy (token p))
    a_token p [] = None
    a_token p (s ∷ others) = this_or p s (p s.its_kind) refl (a_token p others)

    abbrev both : {A B : Type 0} {f : Form T K N V A} {g : Form T K N V B} → Option (FilledBy f) → Option (FilledBy g) → Option (FilledBy (seq f g))
    both None o = None
    both (Some p) None = None
    both (Some p) (Some q) = Some (record { value = (p.value, q.value); filled = fill_seq kind E chosen p.filled q.filled })

    abbrev either : {A : Type 0} {f g : Form T K N V A} → Option (FilledBy f) → Option (FilledBy g) → Option (FilledBy (alt f g))
    either {g = g} (Some p) o = Some (record { value = p.value; filled = fill_one kind E chosen g p.filled })
    either {f = f} None (Some q) = Some (record { value = q.value; filled = fill_other kind E chosen f q.filled })
    either None None = None

    abbrev nested : {A : Type 0} {f : Form T K N V A} → Option (FilledBy f) → Option (FilledBy (nest f))
    nested (Some p) = Some (record { value = p.value; filled = fill_nest kind E chosen p.filled })
    nested None = None

    abbrev mapped : {A B : Type 0} {f : Form T K N V A} (h : A → B) → Option (FilledBy f) → Option (FilledBy (map h f))
    mapped h (Some p) = Some (record { value = h p.value; filled = fill_map kind E chosen h p.filled })
    mapped h None = None

    abbrev with_count : {A : Type 0} {f : Form T K N V A} → Option (FilledBy f) → Option (FilledBy (counted f))
    with_count (Some p) = Some (record { value = (p.value, length p.filled.by.filling); filled = fill_counted kind E chosen p.filled })
    with_count None = None

    abbrev pub fill : {A : Type 0} (f : Form T K N V A) → Option (FilledBy f)
    fill empty = Some (record { value = tt; filled = fill_empty kind E chosen })
    fill (token p) = a_token p samples
    fill (seq f g) = both (fill f) (fill g)
    fill (alt f g) = either (fill f) (fill g)
    fill (star most f) = Some (record { value = []; filled = fill_none kind E chosen most f })
    fill (nest f) = nested (fill f)
    fill (map h f) = mapped h (fill f)
    fill (only p f) = None
    fill (nonempty f) = None
    fill (counted f) = with_count (fill f)
    fill (fork f g h) = None
    fill (ref n) = of_name n

    -- ---- prefixes

    -- of these names each prefix goes on
    module _ (goes_name : N → Bool) where
      abbrev pub goes : {A : Type 0} → Form T K N V A → Bool
      goes empty = true
      goes (token p) = true
      goes (seq f g) = goes f && (goes g && is_filled (fill g))
      goes (alt f g) = goes f && goes g
      goes (star most f) = goes f
      goes (nest f) = goes f
      goes (map h f) = goes f
      goes (only p f) = false
      goes (nonempty f) = false
      goes (counted f) = goes f
      goes (fork f g h) = false
      goes (ref n) = goes_name n

      module _ (Q : Room → (n : N) → Language T (V n))
          (up : (A : Type 0) (f : Form T K N V A) (ts : List T) (v : A) → (form_language kind Q None f).spells ts v → (form_language kind E None f).spells ts v)
          (at_name : (n : N) → goes_name n ≡ true → Completable kind chosen E Q up (ref n)) where
        pub completable : {A : Type 0} (f : Form T K N V A) → goes f ≡ true → Completable kind chosen E Q up f
        completable empty e = completable_empty
        completable (token p) e = completable_token p
        completable (seq f g) e =
            let i = and_right (goes f) (goes g && is_filled (fill g)) e in
            completable_seq (completable f (and_left (goes f) (goes g && is_filled (fill g)) e)) (completable g (and_left (goes g) (is_filled (fill g)) i))
            (filled_by (fill g) (and_right (goes g) (is_filled (fill g)) i)).filled
        completable (alt f g) e = completable_alt (completable f (and_left (goes f) (goes g) e)) (completable g (and_right (goes f) (goes g) e))
        completable (star most f) e = completable_star most (completable f e)
        completable (nest f) e = completable_nest (completable f e)
        completable (map h f) e = completable_map h (completable f e)
        completable (only p f) e = absurd (never e)
        completable (nonempty f) e = absurd (never e)
        completable (counted f) e = completable_counted (completable f e)
        completable (fork f g h) e = absurd (never e)
        completable (ref n) e = at_name n e
