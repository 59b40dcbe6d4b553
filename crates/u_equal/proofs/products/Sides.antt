-- The steps of the loop that joins the sides of factors.
use Rattle.std.proofs.Common.{◌≡◌, ℕ, ◌+◌, ◌<◌, ◌≤◌, List, take, length, get_or, inl, inr, refl, ap, sym, ◌∙◌, subst, arith}
use Rattle.std.specs.Prelude.{Bool, false, Some, slice_get, count_by}
use Rattle.std.proofs.lemmas.Bool.{cases_eq, cases_Bool}
use Rattle.std.proofs.lemmas.List.Sums.{count_by_more_yes, count_by_more_no}
use Rattle.std.proofs.lemmas.Option.{same_Some, get_or_from_slice_get}
use Rattle.u_terms.specs.Syntax.{U, Val, One}
use Rattle.u_rules.specs.Terms.{◌≐◌}
use Rattle.u_equal.specs.declared.forest.Reason.TheVariants.{Given, Called}
use Rattle.u_equal.specs.Joined.{label_now, AreSame, Same, FirstAt, State, IsState, IsMoved, JoinsFactors}
use Rattle.u_equal.specs.Links.{is_equality}
use Rattle.u_equal.proofs.products.KeyLaws.{sides-Eq}
use Rattle.u_equal.proofs.edges.Relabelled.{same-coarser}
use Rattle.u_equal.proofs.edges.Moves.{moved-values, moved-state, moved-edges, moved-joins, moved-same, moved-once}

pub factors-none : (factors : List U) (s : State) → IsState s → JoinsFactors factors 0 s s
factors-none factors s state = record { values = refl; state = state; edges_hold = λ calls h. h; joins = λ factor a b less at. absurd (omega arith); few = omega arith }

count-grows : (factors : List U) (i : ℕ) → i < length factors → count_by is_equality (take i factors) ≤ count_by is_equality (take (i + 1) factors)
count-grows factors i within = elim (cases_Bool (is_equality (get_or factors i One))) [
  | inl met ↦ omega (arith, count_by_more_yes is_equality factors i One within met)
  | inr unmet ↦ omega (arith, count_by_more_no is_equality factors i One within unmet)
]

module _ (factors : List U) (i : ℕ) (within : i < length factors) (s t : State) (done : JoinsFactors factors i s t) where
  pub factors-other : ((a b : Val) → slice_get factors i ≡ Some (a ≐ b) → ⊥) → JoinsFactors factors (i + 1) s t
  factors-other not_equal = record {
    values = done.values;
    state = done.state;
    edges_hold = done.edges_hold;
    joins = joins-more;
    few = omega (arith, done.few, count-grows factors i within);
  }
    where
      joins-more : (factor : ℕ) (a b : Val) → factor < i + 1 → slice_get factors factor ≡ Some (a ≐ b) → AreSame t a b
      joins-more factor a b less at = elim (cases_eq factor i) [
        | inl same ↦ absurd (not_equal a b (subst (λ (m : ℕ). slice_get factors m ≡ Some (a ≐ b)) same at))
        | inr other ↦ done.joins factor a b (omega (arith, less, other)) at
      ]

  module _ (w : State) (a b : Val) (left right : ℕ) (joined : Bool) (at : slice_get factors i ≡ Some (a ≐ b)) (first_a : FirstAt t.values a left) (first_b : FirstAt t.values b right)
      (m : IsMoved left right (Given i false) t w joined) where
    values-are : w.values ≡ t.values
    values-are = moved-values t left right (Given i false) w joined m

    kept : (c d : Val) → AreSame t c d → AreSame w c d
    kept c d h =
        subst (λ (vs : List Val). Same vs (label_now w) c d) (sym values-are)
        (same-coarser t.values (label_now t) (label_now w) (λ j k j_in k_in same. moved-joins t left right (Given i false) w joined m j k same) c d h)

    here : AreSame w a b
    here =
        subst (λ (vs : List Val). Same vs (label_now w) a b) (sym values-are)
        (inr (record { left = left; right = right; is_left = first_a; is_right = first_b; joined = moved-same t left right (Given i false) w joined m }))

    joins-more : (factor : ℕ) (c d : Val) → factor < i + 1 → slice_get factors factor ≡ Some (c ≐ d) → AreSame w c d
    joins-more factor c d less at_c = elim (cases_eq factor i) [
      | inl same ↦
          let p = sides-Eq a b c d (same_Some (a ≐ b) (c ≐ d) (sym at ∙ subst (λ (m : ℕ). slice_get factors m ≡ Some (c ≐ d)) same at_c)) in
          subst (λ (x : Val). AreSame w x d) p.0 (subst (λ (x : Val). AreSame w a x) p.1 here)
      | inr other ↦ kept c d (done.joins factor c d (omega (arith, less, other)) at_c)
    ]

    not-called : Given i false ≡ Called → ⊥
    not-called e = cc

    pub factors-more : JoinsFactors factors (i + 1) s w
    factors-more = record {
      values = values-are ∙ done.values;
      state = moved-state t left right (Given i false) a b first_a.here first_b.here w joined m done.state (λ is. absurd (not-called is));
      edges_hold = λ calls h. moved-edges t left right (Given i false) a b first_a.here first_b.here w joined m factors calls at (done.edges_hold calls h);
      joins = joins-more;
      few = omega (
        arith,
        done.few,
        moved-once t left right (Given i false) w joined m,
        count_by_more_yes is_equality factors i One within (ap is_equality (get_or_from_slice_get factors i (a ≐ b) One at)),
      );
    }
