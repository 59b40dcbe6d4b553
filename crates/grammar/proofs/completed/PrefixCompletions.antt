-- Each prefix with a token goes on, with chosen tokens, to a whole text.
use Rattle.std.proofs.Common.{◌≡◌, ℕ, Bool, true, List, [], ◌∷◌, ◌++◌, inl, inr, refl, sym, ◌∙◌, ap, subst, append_assoc, length, None, Option}
use Rattle.std.proofs.lemmas.List.{append-nil}
use Rattle.std.specs.List.{list_all}
use Rattle.grammar.specs.Language.{Language, Concatenates}
use Rattle.grammar.specs.Form.{Form, Room, empty, token, seq, alt, star, nest, map, counted, ref, form_language}
use Rattle.grammar.specs.Completions.{Completes}
use Rattle.grammar.proofs.readers.Completing.{both_chosen}
use Rattle.grammar.proofs.completed.Fillings.{Filled}
use Rattle.grammar.proofs.readers.Repetitions.{one_more}

-- the prefixes are those where the names have the languages Q, and what Q spells E does
module _ {T K N : Type 0} {V : N → Type 0} (kind : T → K) (chosen : T → Bool) (E Q : Room → (n : N) → Language T (V n))
    (up : (A : Type 0) (f : Form T K N V A) (ts : List T) (v : A) → (form_language kind Q None f).spells ts v → (form_language kind E None f).spells ts v) where
  pub record Completion {A : Type 0} (f : Form T K N V A) (x : List T) : Type 0 where
    pub value : A
    pub by : Completes chosen (form_language kind E None f) x value

  pub record Completable {A : Type 0} (f : Form T K N V A) : Type 0 where
    pub completion : (x : List T) → (x ≡ [] → ⊥) → (form_language kind Q None f).prefix x → Completion f x

module _ {T K N : Type 0} {V : N → Type 0} {kind : T → K} {chosen : T → Bool} {E Q : Room → (n : N) → Language T (V n)}
    {up : (A : Type 0) (f : Form T K N V A) (ts : List T) (v : A) → (form_language kind Q None f).spells ts v → (form_language kind E None f).spells ts v} where
  pub completion_with : {A : Type 0} (f : Form T K N V A) (x more : List T) (v : A) → list_all chosen more ≡ true → (form_language kind E None f).spells (x ++ more) v → Completion kind chosen E Q up f x
  completion_with f x more v c s = record { value = v; by = record { more = more; are_chosen = c; spelled = s } }

  -- what is spelled is completed by nothing
  complete : {A : Type 0} (f : Form T K N V A) (x y : List T) (v : A) → x ≡ y → (form_language kind E None f).spells y v → Completion kind chosen E Q up f x
  complete f x y v i s = completion_with f x [] v refl (subst (λ z. (form_language kind E None f).spells z v) (sym (append-nil x ∙ i)) s)

  -- with another form, of which these are texts
  pub as_text : {A B : Type 0} {f : Form T K N V A} (g : Form T K N V B) (h : A → B) → ((ts : List T) (v : A) → (form_language kind E None f).spells ts v → (form_language kind E None g).spells ts (h v))
      → (x : List T) → Completion kind chosen E Q up f x → Completion kind chosen E Q up g x
  as_text g h m x r = completion_with g x r.by.more (h r.value) r.by.are_chosen (m (x ++ r.by.more) r.value r.by.spelled)

  pub completable_ref : (n : N) → ((x : List T) → (x ≡ [] → ⊥) → (Q None n).prefix x → Completion kind chosen E Q up (ref n) x) → Completable kind chosen E Q up (ref n)
  completable_ref n m = record { completion = m }

  pub completable_empty : Completable kind chosen E Q up empty
  completable_empty = record { completion = λ x n s. absurd (n s) }

  pub completable_token : (p : K → Bool) → Completable kind chosen E Q up (token p)
  completable_token p = record { completion = go }
    where
      go : (x : List T) → (x ≡ [] → ⊥) → (form_language kind Q None (token p)).prefix x → Completion kind chosen E Q up (token p) x
      go x n (inl e) = absurd (n e)
      go x n (inr (t, i, q)) = complete (token p) x (t ∷ []) t i (refl, q)

  pub completable_nest : {A : Type 0} {f : Form T K N V A} → Completable kind chosen E Q up f → Completable kind chosen E Q up (nest f)
  completable_nest {f = f} m = record { completion = λ x n s. as_text (nest f) (λ v. v) (λ ts v r. r) x (m.completion x n s) }

  pub completable_map : {A B : Type 0} {f : Form T K N V A} (h : A → B) → Completable kind chosen E Q up f → Completable kind chosen E Q up (map h f)
  completable_map {f = f} h m = record { completion = λ x n s. as_text (map h f) h (λ ts v r. (v, r, refl)) x (m.completion x n s) }

  pub completable_counted : {A : Type 0} {f : Form T K N V A} → Completable kind chosen E Q up f → Completable kind chosen E Q up (counted f)
  completable_counted {f = f} m = record {
    completion = λ x n s.
        let r = m.completion x n s in
        completion_with (counted f) x r.by.more (r.value, length (x ++ r.by.more)) r.by.are_chosen (r.by.spelled, refl);
  }

  pub completable_alt : {A : Type 0} {f g : Form T K N V A} → Completable kind chosen E Q up f → Completable kind chosen E Q up g → Completable kind chosen E Q up (alt f g)
  completable_alt {f = f} {g = g} m n = record { completion = go }
    where
      go : (x : List T) → (x ≡ [] → ⊥) → (form_language kind Q None (alt f g)).prefix x → Completion kind chosen E Q up (alt f g) x
      go x e (inl s) = as_text (alt f g) (λ v. v) (λ ts v r. inl r) x (m.completion x e s)
      go x e (inr s) = as_text (alt f g) (λ v. v) (λ ts v r. inr r) x (n.completion x e s)

  -- what is behind a prefix of the first is filled
  pub completable_seq : {A B : Type 0} {f : Form T K N V A} {g : Form T K N V B} {w : B} → Completable kind chosen E Q up f
      → Completable kind chosen E Q up g → Filled kind E chosen g w → Completable kind chosen E Q up (seq f g)
  completable_seq {A = A} {f = f} {g = g} {w = w} m n l = record { completion = go }
    where
      filled : (x : List T) → Completion kind chosen E Q up f x → Completion kind chosen E Q up (seq f g) x
      filled x r =
          completion_with (seq f g) x (r.by.more ++ l.by.filling) (r.value, w) (both_chosen chosen r.by.more l.by.filling r.by.are_chosen l.by.are_chosen)
          (x ++ r.by.more, l.by.filling, sym (append_assoc x r.by.more l.by.filling), r.by.spelled, l.by.spelled)

      second : (x p q : List T) (v : A) → x ≡ p ++ q → (form_language kind E None f).spells p v → (form_language kind Q None g).prefix q → Completion kind chosen E Q up (seq f g) x
      second x p [] v i s d = filled x (complete f x p v (i ∙ append-nil p) s)
      second x p (t ∷ k) v i s d =
          let r = n.completion (t ∷ k) (λ e. cc) d in
          completion_with (seq f g) x r.by.more (v, r.value) r.by.are_chosen (p, (t ∷ k) ++ r.by.more, ap (λ z. z ++ r.by.more) i ∙ append_assoc p (t ∷ k) r.by.more, s, r.by.spelled)

      go : (x : List T) → (x ≡ [] → ⊥) → (form_language kind Q None (seq f g)).prefix x → Completion kind chosen E Q up (seq f g) x
      go x e (inl s) = filled x (m.completion x e s)
      go x e (inr (p, q, v, i, s, d)) = second x p q v i (up _ f p v s) d

  pub completable_star : {A : Type 0} {f : Form T K N V A} (most : Option ℕ) → Completable kind chosen E Q up f → Completable kind chosen E Q up (star most f)
  completable_star {A = A} {f = f} most m = record { completion = go }
    where
      last : (x p q : List T) (vs : List A) → x ≡ p ++ q → (form_language kind E None (star most f)).spells p vs → (form_language kind Q None f).prefix q → Completion kind chosen E Q up (star most f) x
      last x p [] vs i s d = complete (star most f) x p vs (i ∙ append-nil p) s
      last x p (t ∷ k) vs i s d =
          let r = m.completion (t ∷ k) (λ e. cc) d in
          completion_with (star most f) x r.by.more (vs ++ r.value ∷ []) r.by.are_chosen
          (subst (λ z. Concatenates (form_language kind E None f).spells z (vs ++ r.value ∷ [])) (sym (ap (λ z. z ++ r.by.more) i ∙ append_assoc p (t ∷ k) r.by.more))
          (one_more (form_language kind E None f).spells p ((t ∷ k) ++ r.by.more) vs r.value s r.by.spelled))

      go : (x : List T) → (x ≡ [] → ⊥) → (form_language kind Q None (star most f)).prefix x → Completion kind chosen E Q up (star most f) x
      go x e (inl i) = absurd (e i)
      go x e (inr (p, q, vs, i, s, d)) = last x p q vs i (up _ (star most f) p vs s) d
