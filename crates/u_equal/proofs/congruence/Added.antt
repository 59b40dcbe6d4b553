-- Numbers that are added to others, and marks on those that are there.
use Rattle.std.proofs.Common.{◌≡◌, ℕ, zero, suc, ◌<◌, ◌≤◌, Bool, true, false, List, [], ◌∷◌, ◌++◌, length, inl, inr, refl, ap, sym, ◌∙◌, subst, arith}
use Rattle.std.proofs.Math.ListN.{set, replicate, get_or-eq_default}
use Rattle.std.specs.Prelude.{Some, slice_get, nat_eq}
use Rattle.std.specs.List.{list_any}
use Rattle.std.proofs.lemmas.Bool.{cases_Bool, cases_eq, eqb-true, true≢false}
use Rattle.std.proofs.lemmas.List.{get_or-replicate, get_or-set_other, get_or-set_same, length-replicate}
use Rattle.std.proofs.lemmas.List.Folds.{Any-from_list_any}
use Rattle.std.proofs.lemmas.Option.{get_or_from_slice_get, slice_get-get_or, none-some}
use Rattle.indexmap.specs.IndexSet.{insert_key}
use Rattle.u_equal.specs.Standing.{EachOnce, IsIn}
use Rattle.u_equal.specs.Numbered.{AreMarked, IsAdded, SameMarks, mark_at}
use Rattle.u_equal.proofs.products.Listed.{once-more}
use Rattle.u_equal.proofs.products.Members.{in-cons, in-last, in-left, in-none, in-push, in-rest}

pub added-last : (numbers : List ℕ) (number : ℕ) → IsAdded number numbers (numbers ++ number ∷ [])
added-last numbers number = record { here = in-last numbers number; still = λ other h. in-left numbers (number ∷ []) other h }

pub added-key : (numbers : List ℕ) (number : ℕ) → IsAdded number numbers (insert_key nat_eq numbers number)
added-key numbers number = elim (cases_Bool (list_any (nat_eq number) numbers)) [
  | inl met ↦
      let h = Any-from_list_any (nat_eq number) numbers met in
      let there : IsIn number numbers = record { place = h.0; here = slice_get-get_or numbers h.0 h.1 h.2 ∙ ap (λ (x : ℕ). Some x) (h.3 ∙ sym (eqb-true number h.1 h.4)) } in
      rw met (record { here = there; still = λ other k. k })
  | inr not_met ↦ rw not_met (added-last numbers number)
]

-- ---- the first one
first-once : (number : ℕ) (rest : List ℕ) → EachOnce (number ∷ rest) → IsIn number rest → ⊥
first-once number rest once h = let is = once 0 (suc h.place) number refl h.here in omega (arith, is)

-- ---- marks
no-mark-past : (marks : List Bool) (number : ℕ) → length marks ≤ number → mark_at marks number ≡ false
no-mark-past marks number past = get_or-eq_default marks false past

pub mark-of : (marks : List Bool) (number : ℕ) (mark : Bool) → slice_get marks number ≡ Some mark → mark_at marks number ≡ mark
mark-of marks number mark at = get_or_from_slice_get marks number mark false at

pub marked-within : (marks : List Bool) (number : ℕ) → mark_at marks number ≡ true → number < length marks
marked-within [] number at = absurd (true≢false (sym at ∙ no-mark-past [] number (omega arith)))
marked-within (mark ∷ marks) zero at = omega arith
marked-within (mark ∷ marks) (suc number) at = let h = marked-within marks number at in omega (arith, h)

-- a place more, without a mark
pub same-marks : (marks : List Bool) (number : ℕ) → mark_at (marks ++ false ∷ []) number ≡ mark_at marks number
same-marks [] zero = refl
same-marks [] (suc number) = refl
same-marks (mark ∷ marks) zero = refl
same-marks (mark ∷ marks) (suc number) = same-marks marks number

pub fresh-marks : (count number : ℕ) → mark_at (replicate count false) number ≡ false
fresh-marks count number = elim (cases_Bool (mark_at (replicate count false) number)) [
  | inl on ↦
      let within = marked-within (replicate count false) number on in
      absurd (true≢false (sym on ∙ get_or-replicate count number false false (omega (arith, within, length-replicate count false))))
  | inr off ↦ off
]

module _ (numbers : List ℕ) (marks : List Bool) (are : AreMarked numbers marks) where
  -- places are made
  pub marked-same : (after : List Bool) → SameMarks marks after → AreMarked numbers after
  marked-same after same = record { once = are.once; there = λ n on. are.there n (sym (same n) ∙ on); marked = λ n h. same n ∙ are.marked n h }

  pub unmarked-absent : (number : ℕ) → mark_at marks number ≡ false → IsIn number numbers → ⊥
  unmarked-absent number off h = true≢false (sym (are.marked number h) ∙ off)

  module _ (number : ℕ) (absent : IsIn number numbers → ⊥) (within : number < length marks) where
    more-there : (n : ℕ) → mark_at (set marks number true) n ≡ true → IsIn n (numbers ++ number ∷ [])
    more-there n on = elim (cases_eq n number) [
      | inl same ↦ subst (λ (m : ℕ). IsIn m (numbers ++ number ∷ [])) (sym same) (in-last numbers number)
      | inr differ ↦ in-left numbers (number ∷ []) n (are.there n (sym (get_or-set_other marks number n true false differ) ∙ on))
    ]

    more-marked : (n : ℕ) → IsIn n (numbers ++ number ∷ []) → mark_at (set marks number true) n ≡ true
    more-marked n h = elim (cases_eq n number) [
      | inl same ↦ ap (λ (m : ℕ). mark_at (set marks number true) m) same ∙ get_or-set_same marks number true false within
      | inr differ ↦ elim (in-push numbers number n h) [
        | inl before ↦ get_or-set_other marks number n true false differ ∙ are.marked n before
        | inr is ↦ absurd (differ is)
      ]
    ]

    -- the number waits too, and has its mark
    pub marked-more : AreMarked (numbers ++ number ∷ []) (set marks number true)
    marked-more = record { once = once-more numbers number absent are.once; there = more-there; marked = more-marked }

-- the first number no longer waits
module _ (number : ℕ) (rest : List ℕ) (marks : List Bool) (are : AreMarked (number ∷ rest) marks) where
  pub first-within : number < length marks
  first-within = marked-within marks number (are.marked number (record { place = 0; here = refl }))

  left-there : (n : ℕ) → mark_at (set marks number false) n ≡ true → IsIn n rest
  left-there n on = elim (cases_eq n number) [
    | inl same ↦ absurd (true≢false (sym on ∙ ap (λ (m : ℕ). mark_at (set marks number false) m) same ∙ get_or-set_same marks number false false first-within))
    | inr differ ↦ elim (in-cons number rest n (are.there n (sym (get_or-set_other marks number n false false differ) ∙ on))) [
      | inl is ↦ absurd (differ is)
      | inr there ↦ there
    ]
  ]

  left-marked : (n : ℕ) → IsIn n rest → mark_at (set marks number false) n ≡ true
  left-marked n h = elim (cases_eq n number) [
    | inl same ↦ absurd (first-once number rest are.once (subst (λ (m : ℕ). IsIn m rest) same h))
    | inr differ ↦ get_or-set_other marks number n false false differ ∙ are.marked n (in-rest number rest n h)
  ]

  left-once : EachOnce rest
  left-once i j n at_i at_j = let is = are.once (suc i) (suc j) n at_i at_j in omega (arith, is)

  pub marked-left : AreMarked rest (set marks number false)
  marked-left = record { once = left-once; there = left-there; marked = left-marked }

-- none waits
pub marked-none : (marks : List Bool) → ((n : ℕ) → mark_at marks n ≡ false) → AreMarked [] marks
marked-none marks none = record {
  once = λ i j n at_i at_j. absurd (none-some n at_i);
  there = λ n on. absurd (true≢false (sym on ∙ none n));
  marked = λ n h. absurd (in-none n h);
}
