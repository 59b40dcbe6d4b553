-- What may follow the first column of a table, by the comma that stands next: a column, if one more is allowed, or a rule.
use Rattle.std.proofs.Common.{◌≡◌, ℕ, zero, suc, Bool, true, false, List, [], ◌∷◌, ◌++◌, inl, inr, None, refl, sym, ◌∙◌, ap, subst, append_assoc}
use Rattle.std.proofs.lemmas.List.{append-nil}
use Rattle.grammar.specs.Form.{alt, seq, star}
use Rattle.grammar.specs.Language.{HasPrefixes, Language, alt_language, seq_language}
use Rattle.grammar.specs.Productions.{skip_then}
use Rattle.grammar.specs.Reading.{Passes, Stops}
use Rattle.sql_lex.specs.Lexemes.{Lexeme}
use Rattle.sql_grammar.specs.declared.kinds.Kind.TheVariants as k
use Rattle.sql_grammar.specs.Kinds.{kind_of, same}
use Rattle.sql_grammar.specs.QueryGrammar.{The, a}
use Rattle.sql_read.specs.Reads.{allowed}
use Rattle.schema_read.specs.StatementGrammar as g
use Rattle.schema_read.specs.StatementLimits.{constraints, few_columns}
use Rattle.schema_read.specs.StatementTrees.{Elements}
use Rattle.schema_read.proofs.counts.CountSteps.{RestOf, free}

-- ---- behind a comma

abbrev pub next : {A : Type 0} → The A → The A
next f = skip_then (a k.Comma) f

abbrev pub each_next : {A : Type 0} → The A → The (List A)
each_next f = star None (next f)

module _ {A : Type 0} (f : The A) (prefixes : HasPrefixes (free f)) where
  begun_after : (c : Lexeme) (z : List Lexeme) → (free (next f)).prefix (c ∷ z) → (free f).prefix z
  begun_after c z (inl (inl e)) = cc
  begun_after c z (inl (inr (t, e, i))) = let n : z ≡ [] = cc in subst (free f).prefix (sym n) prefixes.empty
  begun_after c z (inr (x, y, v, e, (i, p), b)) =
      let n : c ∷ z ≡ v ∷ y = e ∙ ap (λ w. w ++ y) i in
      let same_rest : y ≡ z = cc in
      subst (free f).prefix same_rest b

  -- a spelling is a comma and a spelling of f
  after_comma : (x : List Lexeme) (v : A) → (free (next f)).spells x v → (t : Lexeme) × (y : List Lexeme) × (x ≡ t ∷ y) × (free f).spells y v
  after_comma x v (p, (x1, y, e, (i, q), s), j) = (p.0, y, e ∙ ap (λ w. w ++ y) i, subst ((free f).spells y) (sym j) s)

  -- what a comma and more begins, split behind the first
  rest_after : (c : Lexeme) (z x y : List Lexeme) (v : A) → c ∷ z ≡ x ++ y → (free (next f)).spells x v → (x1 : List Lexeme) × (z ≡ x1 ++ y) × (free f).spells x1 v
  rest_after c z x y v e s =
      let q = after_comma x v s in
      let n : c ∷ z ≡ q.0 ∷ (q.1 ++ y) = e ∙ ap (λ w. w ++ y) q.2 in
      (q.1, cc, q.3)

  all_after : (c : Lexeme) (z : List Lexeme) → (free (each_next f)).prefix (c ∷ z) → (seq_language (free f) (free (each_next f))).prefix z
  all_after c z (inl e) = cc
  all_after c z (inr (p, q, [], e, r, b)) = inl (begun_after c z (subst (free (next f)).prefix (sym (e ∙ ap (λ w. w ++ q) r)) b))
  all_after c z (inr (p, q, v ∷ vs, e, (x, y, i, s, r), b)) =
      let m = rest_after c z x (y ++ q) v (e ∙ ap (λ w. w ++ q) i ∙ append_assoc x y q) s in
      inr (m.0, y ++ q, v, m.1, m.2, inr (y, q, vs, refl, r, b))

  module _ (c : Lexeme) (i : same k.Comma (kind_of c) ≡ true) where
    begun_before : (z : List Lexeme) → (free f).prefix z → (free (next f)).prefix (c ∷ z)
    begun_before z b = inr (c ∷ [], z, c, refl, (refl, i), b)

    before_comma : (y : List Lexeme) (v : A) → (free f).spells y v → (free (next f)).spells (c ∷ y) v
    before_comma y v s = ((c, v), (c ∷ [], y, refl, (refl, i), s), refl)

    -- one behind the comma, and a prefix behind it
    split_before : (z x y p q : List Lexeme) → z ≡ x ++ y → y ≡ p ++ q → c ∷ z ≡ (c ∷ x ++ p) ++ q
    split_before z x y p q e j = ap (λ w. c ∷ w) (e ∙ (ap (λ w. x ++ w) j ∙ sym (append_assoc x p q)))

    all_before : (z : List Lexeme) → (seq_language (free f) (free (each_next f))).prefix z → (free (each_next f)).prefix (c ∷ z)
    all_before z (inl b) = inr ([], c ∷ z, [], refl, refl, begun_before z b)
    all_before z (inr (x, y, v, e, s, inl j)) =
        inr (c ∷ x, y, v ∷ [], ap (λ w. c ∷ w) e, (c ∷ x, [], sym (append-nil (c ∷ x)), before_comma x v s, refl), subst (free (next f)).prefix (sym j) (inl (inl refl)))
    all_before z (inr (x, y, v, e, s, inr (p, q, vs, j, r, b))) = inr (c ∷ x ++ p, q, v ∷ vs, split_before z x y p q e j, (c ∷ x, p, refl, before_comma x v s, r), b)

-- ---- few columns

abbrev pub few : ℕ → Language Lexeme (List Elements)
few most = free (few_columns most)

-- behind a comma: a column where one is allowed, with so few behind it, or a rule with so few
abbrev pub behind : Bool → ℕ → ℕ → Language Lexeme (Elements × List Elements)
behind fits fewer most = alt_language (seq_language (allowed fits (free g.column)) (few fewer)) (seq_language (free g.constraint) (few most))

-- D stands behind a comma, where M stands before it
pub record Comma (D : Language Lexeme (Elements × List Elements)) (M : Language Lexeme (List Elements)) : Type 0 where
  pub begun : (c : Lexeme) (z : List Lexeme) → M.prefix (c ∷ z) → D.prefix z
  pub begins : (c : Lexeme) → same k.Comma (kind_of c) ≡ true → (z : List Lexeme) → D.prefix z → M.prefix (c ∷ z)
  pub spells : (c : Lexeme) → same k.Comma (kind_of c) ≡ true → (z : List Lexeme) (v : Elements × List Elements) → D.spells z v → M.spells (c ∷ z) (v.0 ∷ v.1)

module _ (column : HasPrefixes (free g.column)) (rule : HasPrefixes (free g.constraint)) where
  -- where no column is allowed
  pub no_column : (n : ℕ) → Comma (behind false n zero) (few zero)
  no_column n = record { begun = λ c z b. inr (all_after g.constraint rule c z b); begins = begins; spells = spells }
    where
      begins : (c : Lexeme) → same k.Comma (kind_of c) ≡ true → (z : List Lexeme) → (behind false n zero).prefix z → (few zero).prefix (c ∷ z)
      begins c i z (inl (inl e)) = all_before g.constraint rule c i z (inl (subst (free g.constraint).prefix (sym e) rule.empty))
      begins c i z (inl (inr (x, y, v, e, s, b))) = absurd s
      begins c i z (inr b) = all_before g.constraint rule c i z b

      spells : (c : Lexeme) → same k.Comma (kind_of c) ≡ true → (z : List Lexeme) (v : Elements × List Elements) → (behind false n zero).spells z v → (few zero).spells (c ∷ z) (v.0 ∷ v.1)
      spells c i z v (inl (x, y, e, s, r)) = absurd s
      spells c i z v (inr (x, y, e, s, r)) = (c ∷ x, y, ap (λ w. c ∷ w) e, before_comma g.constraint rule c i x v.0 s, r)

  -- where one more is
  pub one_column : (n : ℕ) → Comma (behind true n (suc n)) (few (suc n))
  one_column n = record { begun = begun; begins = begins; spells = spells }
    where
      wider : (z : List Lexeme) → (seq_language (free g.constraint) (free constraints)).prefix z → (seq_language (free g.constraint) (few (suc n))).prefix z
      wider z (inl b) = inl b
      wider z (inr (x, y, v, e, s, b)) = inr (x, y, v, e, s, inl b)

      column_begun : (c : Lexeme) (z : List Lexeme) → (seq_language (free (next g.column)) (few n)).prefix (c ∷ z) → (seq_language (free g.column) (few n)).prefix z
      column_begun c z (inl b) = inl (begun_after g.column column c z b)
      column_begun c z (inr (x, y, v, e, s, b)) = let m = rest_after g.column column c z x y v e s in inr (m.0, y, v, m.1, m.2, b)

      begun : (c : Lexeme) (z : List Lexeme) → (few (suc n)).prefix (c ∷ z) → (behind true n (suc n)).prefix z
      begun c z (inl b) = inr (wider z (all_after g.constraint rule c z b))
      begun c z (inr (x, y, [], e, r, inl j)) = let none : c ∷ z ≡ [] = e ∙ ap (λ w. w ++ y) r ∙ j in cc
      begun c z (inr (x, y, [], e, r, inr b)) = inl (column_begun c z (subst (seq_language (free (next g.column)) (few n)).prefix (sym (e ∙ ap (λ w. w ++ y) r)) b))
      begun c z (inr (x, y, v ∷ vs, e, (p, q, j, s, r), b)) =
          let m = rest_after g.constraint rule c z p (q ++ y) v (e ∙ ap (λ w. w ++ y) j ∙ append_assoc p q y) s in
          inr (inr (m.0, q ++ y, v, m.1, m.2, inr (q, y, vs, refl, r, b)))

      begins : (c : Lexeme) → same k.Comma (kind_of c) ≡ true → (z : List Lexeme) → (behind true n (suc n)).prefix z → (few (suc n)).prefix (c ∷ z)
      begins c i z (inl (inl b)) = inr ([], c ∷ z, [], refl, refl, inr (inl (begun_before g.column column c i z b)))
      begins c i z (inl (inr (x, y, v, e, s, b))) = inr ([], c ∷ z, [], refl, refl, inr (inr (c ∷ x, y, v, ap (λ w. c ∷ w) e, before_comma g.column column c i x v s, b)))
      begins c i z (inr (inl b)) = inl (all_before g.constraint rule c i z (inl b))
      begins c i z (inr (inr (x, y, v, e, s, inl b))) = inl (all_before g.constraint rule c i z (inr (x, y, v, e, s, b)))
      begins c i z (inr (inr (x, y, v, e, s, inr (p, q, vs, j, r, b)))) =
          inr (c ∷ x ++ p, q, v ∷ vs, split_before g.constraint rule c i z x y p q e j, (c ∷ x, p, refl, before_comma g.constraint rule c i x v s, r), b)

      spells : (c : Lexeme) → same k.Comma (kind_of c) ≡ true → (z : List Lexeme) (v : Elements × List Elements) → (behind true n (suc n)).spells z v → (few (suc n)).spells (c ∷ z) (v.0 ∷ v.1)
      spells c i z v (inl (x, y, e, s, r)) =
          (([], v.0 ∷ v.1), ([], c ∷ z, refl, refl, inr ((v.0, v.1), (c ∷ x, y, ap (λ w. c ∷ w) e, before_comma g.column column c i x v.0 s, r), refl)), refl)
      spells c i z v (inr (x, y, e, s, (p, (x1, y1, j, r, q), l))) =
          ((v.0 ∷ p.0, p.1), (c ∷ x ++ x1, y1, split_before g.constraint rule c i z x y x1 y1 e j, (c ∷ x, x1, refl, before_comma g.constraint rule c i x v.0 s, r), q), ap (λ w. v.0 ∷ w) l)

-- ---- without a limit

abbrev pub element_and_more : The (Elements × List Elements)
element_and_more = alt (seq g.column (each_next g.element)) (seq g.constraint (each_next g.element))

module _ (element : HasPrefixes (free g.element)) where
  pub sorted : (z : List Lexeme) → (seq_language (free g.element) (free (each_next g.element))).prefix z → (free element_and_more).prefix z
  sorted z (inl (inl b)) = inl (inl b)
  sorted z (inl (inr b)) = inr (inl b)
  sorted z (inr (x, y, v, e, inl s, b)) = inl (inr (x, y, v, e, s, b))
  sorted z (inr (x, y, v, e, inr s, b)) = inr (inr (x, y, v, e, s, b))

  pub together : (z : List Lexeme) → (free element_and_more).prefix z → (seq_language (free g.element) (free (each_next g.element))).prefix z
  together z (inl (inl b)) = inl (inl b)
  together z (inr (inl b)) = inl (inr b)
  together z (inl (inr (x, y, v, e, s, b))) = inr (x, y, v, e, inl s, b)
  together z (inr (inr (x, y, v, e, s, b))) = inr (x, y, v, e, inr s, b)

  stops : (c : Lexeme) (x rest : List Lexeme) → Stops (free element_and_more) x rest → Stops (free (each_next g.element)) (c ∷ x) rest
  stops c x [] s = tt
  stops c x (t ∷ rest) s = λ f. s (sorted (x ++ t ∷ []) (all_after g.element element c (x ++ t ∷ []) f))

  all_unspelled : (c : Lexeme) (z : List Lexeme) (vs : List Elements) → (free (each_next g.element)).spells (c ∷ z) vs → (v : Elements × List Elements) × (free element_and_more).spells z v
  all_unspelled c z [] e = cc
  all_unspelled c z (v ∷ vs) (x, y, e, s, r) =
      let m = rest_after g.element element c z x y v e s in
      elim m.2 [ inl q ↦ ((v, vs), inl (m.0, y, m.1, q, r)) | inr q ↦ ((v, vs), inr (m.0, y, m.1, q, r)) ]

  module _ {D : Language Lexeme (Elements × List Elements)} {M : Language Lexeme (List Elements)} (d : Comma D M) (c : Lexeme) (i : same k.Comma (kind_of c) ≡ true) where
    passes : (x rest : List Lexeme) → Passes (free element_and_more) D x rest → Passes (free (each_next g.element)) M (c ∷ x) rest
    passes x [] p = p
    passes x (t ∷ rest) p = (all_before g.element element c i (x ++ t ∷ []) (together (x ++ t ∷ []) p.0), λ f. p.1 (d.begun c (x ++ t ∷ []) f))

    -- behind a comma one more element remains
    pub behind_comma : {A : Type 0} {N : The A} {NC : Language Lexeme A} {start here mid : List Lexeme} {join : List Elements → A} → here ≡ c ∷ mid → RestOf (each_next g.element) M here N NC start join
        → RestOf element_and_more D mid N NC start (λ v. join (v.0 ∷ v.1))
    behind_comma stood l = record {
      residual = record {
        took = λ v rest t. l.residual.took (v.0 ∷ v.1) rest
            (record { taken = c ∷ t.taken; whole = stood ∙ ap (λ w. c ∷ w) t.whole; spelled = d.spells c i t.taken v t.spelled; stops = stops c t.taken rest t.stops });
        failed = λ rest t. l.residual.failed rest (record {
          taken = c ∷ t.taken;
          whole = stood ∙ ap (λ w. c ∷ w) t.whole;
          begun = d.begins c i t.taken t.begun;
          unspelled = λ vs s. let p = all_unspelled c t.taken vs s in t.unspelled p.0 p.1;
          stops = stops c t.taken rest t.stops;
        });
        exceeded = λ rest t. l.residual.exceeded rest (record { taken = c ∷ t.taken; whole = stood ∙ ap (λ w. c ∷ w) t.whole; begun = d.begins c i t.taken t.begun; passes = passes t.taken rest t.passes });
        began = λ rest t. l.residual.began rest (record { taken = c ∷ t.taken; whole = stood ∙ ap (λ w. c ∷ w) t.whole; begun = d.begins c i t.taken t.begun });
      };
    }
