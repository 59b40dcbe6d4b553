-- Lists that the search comes to.
use Rattle.std.proofs.Common.{◌≡◌, ℕ, Bool, true, false, zero, suc, List, length, ap, sym, ◌∙◌}
use Rattle.std.specs.Prelude.{◌&&◌, if◌then◌else◌}
use Rattle.shapes.specs.Search.{ended, went_on}
use Rattle.bag_search.specs.Answers.{outcome, further}
use Rattle.shapes.specs.Shapes.{Shape}
use Rattle.shapes.specs.Tests.{fits, outputs_carried, marks_carried, back_from, makes_alike}

-- of a list that fits
pub fit-alike : (s t : Shape) (l : List ℕ) → fits s t l ≡ true → makes_alike s t l ≡ (outputs_carried s t l && marks_carried s t l && marks_carried t s (back_from 0 (length l) l))
unfolding makes_alike
fit-alike s t l h = ap (λ x. x && outputs_carried s t l && marks_carried s t l && marks_carried t s (back_from 0 (length l) l)) h

pub unfit-alike : (s t : Shape) (l : List ℕ) → fits s t l ≡ false → makes_alike s t l ≡ false
unfolding makes_alike
unfit-alike s t l h = ap (λ x. x && outputs_carried s t l && marks_carried s t l && marks_carried t s (back_from 0 (length l) l)) h

-- a list that does not fit leads to nothing
pub unfit-further : (s t : Shape) (missing : ℕ) (l : List ℕ) → fits s t l ≡ false → further s t missing l ≡ went_on 0
unfit-further s t zero l h = ap (λ b. if b then ended l 0 else went_on 0) (unfit-alike s t l h)
unfit-further s t (suc missing) l h = ap (λ b. if b then outcome s t missing l else went_on 0) h

pub fit-further : (s t : Shape) (missing : ℕ) (l : List ℕ) → fits s t l ≡ true → further s t (suc missing) l ≡ outcome s t missing l
fit-further s t missing l h = ap (λ b. if b then outcome s t missing l else went_on 0) h

pub alike-further : (s t : Shape) (l : List ℕ) (b : Bool) → makes_alike s t l ≡ b → further s t 0 l ≡ (if b then ended l 0 else went_on 0)
alike-further s t l b h = ap (λ b. if b then ended l 0 else went_on 0) h

-- ---- a list that fits and is long enough
module _ (s t : Shape) (l : List ℕ) (fit : fits s t l ≡ true) (outputs : Bool) (outputs_are : outputs ≡ outputs_carried s t l) where
  pub without-outputs : outputs ≡ false → false ≡ makes_alike s t l
  without-outputs none =
      sym (fit-alike s t l fit ∙ ap (λ b. b && marks_carried s t l && marks_carried t s (back_from 0 (length l) l)) (sym outputs_are ∙ none))

  module _ (has_outputs : outputs ≡ true) (marks : Bool) (marks_are : marks ≡ marks_carried s t l) where
    and-marks : makes_alike s t l ≡ (marks && marks_carried t s (back_from 0 (length l) l))
    and-marks =
        fit-alike s t l fit ∙ ap (λ b. b && marks_carried s t l && marks_carried t s (back_from 0 (length l) l)) (sym outputs_are ∙ has_outputs)
        ∙ ap (λ b. b && marks_carried t s (back_from 0 (length l) l)) (sym marks_are)

    pub without-marks : marks ≡ false → false ≡ makes_alike s t l
    without-marks none = sym (and-marks ∙ ap (λ b. b && marks_carried t s (back_from 0 (length l) l)) none)

    pub by-other_marks : marks ≡ true → (back : List ℕ) (others : Bool) → back ≡ back_from 0 (length l) l → others ≡ marks_carried t s back → others ≡ makes_alike s t l
    by-other_marks has_marks back others back_is others_are =
        others_are ∙ ap (marks_carried t s) back_is ∙ sym (and-marks ∙ ap (λ b. b && marks_carried t s (back_from 0 (length l) l)) has_marks)
