-- Aggregates at the end of a path of arguments stand in the term with their bodies.
use Rattle.std.proofs.Common.{◌≡◌, ℕ, List, [], ◌∷◌, ◌++◌, length, refl, ap, sym, subst, ◌∙◌, append-nil, append_assoc}
use Rattle.u_terms.specs.declared.term.U.TheVariants as u
use Rattle.u_terms.specs.Syntax.{U, Val}
use Rattle.u_normal.specs.Values.{IsPlace, Stands, AreStanding, StandsWithBody}
use Rattle.u_normal.proofs.derivations.Standing.{relation-place, predicate-place, left-place, right-place, stands-function, stands-aggregate}
use Rattle.u_simple.specs.Bodies.{LeadsToBody, RowLeadsToBody, at_aggregate, in_function, at_argument}

stands-at : (path : List ℕ) (index : ℕ) (arguments before after : List Val) (value : Val) (t : U) → index ≡ length before → arguments ≡ before ++ value ∷ after → AreStanding path arguments t → Stands (path ++ index ∷ []) value t
stands-at path index arguments before after value t long parted s = record {
  around = λ x. s.around (before ++ x ∷ after);
  place = subst (λ (n : ℕ). IsPlace (path ++ n ∷ []) (λ x. s.around (before ++ x ∷ after))) (sym long) (s.place.each before after);
  is = s.is ∙ ap s.around parted;
}

module _ (body t : U) where
  mutual
    body-in : (walked path : List ℕ) (value : Val) → LeadsToBody body path value → Stands walked value t → StandsWithBody (walked ++ path) body t
    body-in walked path value (at_aggregate number e) s =
        subst (λ (p : List ℕ). StandsWithBody p body t) (sym (append-nil walked)) (stands-aggregate walked number body body t refl (subst (λ (x : Val). Stands walked x t) e s))
    body-in walked path value (in_function symbol arguments e h) s =
        row-in walked path arguments h (stands-function walked symbol arguments t (subst (λ (x : Val). Stands walked x t) e s))

    row-in : (walked path : List ℕ) (arguments : List Val) → RowLeadsToBody body path arguments → AreStanding walked arguments t → StandsWithBody (walked ++ path) body t
    row-in walked path arguments (at_argument {index = index} {path = rest} before after value long parted h) s =
        subst (λ (p : List ℕ). StandsWithBody p body t) (append_assoc walked (index ∷ []) rest)
        (body-in (walked ++ index ∷ []) rest value h (stands-at walked index arguments before after value t long parted s))

  pub body-in_relation : (path : List ℕ) (table : ℕ) (vs ws : List Val) → t ≡ u.Rel table vs → ws ≡ vs → RowLeadsToBody body path ws → StandsWithBody path body t
  body-in_relation path table vs ws e f h =
      row-in [] path ws h (record { around = λ xs. u.Rel table xs; place = relation-place table; is = e ∙ ap (λ (xs : List Val). u.Rel table xs) (sym f) })

  pub body-in_predicate : (path : List ℕ) (symbol : ℕ) (vs ws : List Val) → t ≡ u.Pred symbol vs → ws ≡ vs → RowLeadsToBody body path ws → StandsWithBody path body t
  body-in_predicate path symbol vs ws e f h =
      row-in [] path ws h (record { around = λ xs. u.Pred symbol xs; place = predicate-place symbol; is = e ∙ ap (λ (xs : List Val). u.Pred symbol xs) (sym f) })

  pub body-in_first : (path rest : List ℕ) (a b : Val) → t ≡ u.Eq a b → path ≡ 0 ∷ rest → LeadsToBody body rest a → StandsWithBody path body t
  body-in_first path rest a b e f h =
      subst (λ (p : List ℕ). StandsWithBody p body t) (sym f) (body-in (0 ∷ []) rest a h (record { around = λ x. u.Eq x b; place = left-place b; is = e }))

  pub body-in_second : (path rest : List ℕ) (a b : Val) → t ≡ u.Eq a b → path ≡ 1 ∷ rest → LeadsToBody body rest b → StandsWithBody path body t
  body-in_second path rest a b e f h =
      subst (λ (p : List ℕ). StandsWithBody p body t) (sym f) (body-in (1 ∷ []) rest b h (record { around = λ x. u.Eq a x; place = right-place a; is = e }))
