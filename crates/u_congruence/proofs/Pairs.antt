-- A sum or a product whose parts lead to others, and a term with one part.
use Rattle.std.proofs.Common.{◌≡◌, ℕ, ◌+◌, List, [], ◌∷◌, ◌++◌, length, refl, ap, sym, subst, ◌∙◌, arith}
use Rattle.std.specs.Prelude.{max}
use Rattle.u_terms.specs.declared.facts.Facts.{Facts}
use Rattle.u_terms.specs.Syntax.{U}
use Rattle.u_terms.specs.Size.{nodes, depth}
use Rattle.u_terms.specs.Places.{IsClosed}
use Rattle.u_deriv.specs.declared.run.Run.{Run}
use Rattle.u_deriv.specs.declared.run.Run.TheVariants.{Left, Right, Inside}
use Rattle.u_deriv.specs.declared.step.Step.{Step}
use Rattle.u_deriv.specs.Steps.{Replaced}
use Rattle.u_deriv.specs.Turns.{turns}
use Rattle.u_moves.specs.Derivations.{Derivation, IsKnown, IsSound, IsStill}
use Rattle.u_moves.specs.Lifting.{IsPart, IsMadeIn, lifted}
use Rattle.u_moves.proofs.derivations.Sound.{first-within, last-within}
use Rattle.u_congruence.specs.Congruence.{AreBeside, IsBy, IsFromTo, IsOneDown}
use Rattle.u_congruence.proofs.Turned.{from-known}

-- the part's derivation, made in a term that is told
moved : (path : List Run) (outs m : ℕ) (whole before part from : U) → whole ≡ before → part ≡ from → outs ≡ m → IsPart m path before m from → IsPart outs path whole m part
moved path outs m whole before part from ew ep eo h =
    subst (λ (n : ℕ). IsPart n path whole m part) (sym eo) (subst (λ (t : U). IsPart m path t m part) (sym ew) (subst (λ (t : U). IsPart m path before m t) (sym ep) h))

replaced-at : (path : List Run) (outs m : ℕ) (before whole from part to after : U) → before ≡ whole → from ≡ part → outs ≡ m → Replaced outs path before from to after → Replaced m path whole part to after
replaced-at path outs m before whole from part to after ew ep eo r =
    subst (λ (n : ℕ). Replaced n path whole part to after) eo (subst (λ (t : U). Replaced outs path t part to after) ew (subst (λ (t : U). Replaced outs path before t to after) ep r))

module _ (op : U → U → U)
    (known : (outs : ℕ) (a b : U) → IsKnown 0 outs a → IsKnown 0 outs b → IsKnown 0 outs (op a b))
    (part_left : (outs : ℕ) (a b : U) → IsClosed 0 a → IsPart outs (Left 1 ∷ []) (op a b) outs a)
    (made_left : (outs : ℕ) (a b c after : U) → Replaced outs (Left 1 ∷ []) (op a b) a c after → after ≡ op c b)
    (part_right : (outs : ℕ) (a b : U) → IsClosed 0 b → IsPart outs (Right 1 ∷ []) (op a b) outs b)
    (made_right : (outs : ℕ) (a b c after : U) → Replaced outs (Right 1 ∷ []) (op a b) b c after → after ≡ op a c)
    (F : Facts) (outs : ℕ) (l r : Derivation) (by_left : IsBy F outs l) (by_right : IsBy F outs r) where
  pub pair-known : (w : U) → IsSound l → IsSound r → w ≡ op l.from r.from → IsKnown 0 outs w
  pair-known w hl hr is = subst (λ (t : U). IsKnown 0 outs t) (sym is) (known outs l.from r.from (from-known F outs l by_left hl) (from-known F outs r by_right hr))

  module _ (w : U) (is : w ≡ op l.from r.from) (d : Derivation) (none : IsFromTo F outs w w d) where
    pub pair-left : IsSound l → IsPart d.outs (Left 1 ∷ []) d.to l.outs l.from
    pair-left h =
        subst (λ (n : ℕ). IsPart d.outs (Left 1 ∷ []) d.to n l.from) (sym by_left.outs)
        (moved (Left 1 ∷ []) d.outs outs d.to (op l.from r.from) l.from l.from (none.to ∙ is) refl none.outs (part_left outs l.from r.from (from-known F outs l by_left h).closed))

    module _ (e : Derivation) (made : IsMadeIn (Left 1 ∷ []) d l e) where
      after-left : e.to ≡ op l.to r.from
      after-left = made_left outs l.from r.from l.to e.to (replaced-at (Left 1 ∷ []) d.outs outs d.to (op l.from r.from) l.from l.from l.to e.to (none.to ∙ is) refl none.outs made.replaced)

      pub pair-right : IsSound r → IsPart e.outs (Right 1 ∷ []) e.to r.outs r.from
      pair-right h =
          subst (λ (n : ℕ). IsPart e.outs (Right 1 ∷ []) e.to n r.from) (sym by_right.outs)
          (moved (Right 1 ∷ []) e.outs outs e.to (op l.to r.from) r.from r.from after-left refl (made.outs ∙ none.outs) (part_right outs l.to r.from (from-known F outs r by_right h).closed))

      pub pair-shown : (x : Derivation) → IsMadeIn (Right 1 ∷ []) e r x → IsFromTo F outs (op l.from r.from) (op l.to r.to) x
      pair-shown x last = record {
        facts = last.facts ∙ made.facts ∙ none.facts;
        outs = last.outs ∙ made.outs ∙ none.outs;
        from = last.from ∙ made.from ∙ none.from ∙ is;
        to = made_right outs l.to r.from r.to x.to (replaced-at (Right 1 ∷ []) e.outs outs e.to (op l.to r.from) r.from r.from r.to x.to after-left refl (made.outs ∙ none.outs) last.replaced);
      }

      pub pair-costs : ((a b : U) → nodes (op a b) ≡ 1 + nodes a + nodes b) → ((a b : U) → depth (op a b) ≡ 1 + max (depth a) (depth b)) → IsSound l → IsSound r → IsStill F outs w d
          → (x : Derivation) → IsMadeIn (Right 1 ∷ []) e r x → AreBeside l r x
      pair-costs many deep sound_left sound_right still x last =
          let first = first-within l sound_left in
          let end = last-within l sound_left in
          let other = first-within r sound_right in
          let left : length (turns (Left 1 ∷ [])) ≡ 1 = refl in
          let right : length (turns (Right 1 ∷ [])) ≡ 1 = refl in
          record {
            steps = last.steps ∙ ap (λ (s : List Step). s ++ lifted (Right 1 ∷ []) r.steps) (made.steps ∙ ap (λ (s : List Step). s ++ lifted (Left 1 ∷ []) l.steps) still.steps);
            nodes = omega (arith, last.nodes, made.nodes, still.nodes, ap nodes still.to, ap nodes is, ap nodes after-left, many l.from r.from, many l.to r.from, first.few, end.few, other.few);
            depth = omega (arith, last.depth, made.depth, still.depth, ap depth is, left, right, deep l.from r.from, first.shallow, other.shallow);
          }

module _ (op : U → U) (F : Facts) (outs inner : ℕ) (l : Derivation) (by : IsBy F inner l)
    (known : (a : U) → IsKnown 0 inner a → IsKnown 0 outs (op a))
    (part_in : (a : U) → IsClosed 0 a → IsPart outs (Inside 1 ∷ []) (op a) inner a)
    (made_in : (a c after : U) → Replaced outs (Inside 1 ∷ []) (op a) a c after → after ≡ op c) where
  pub one-known : (w : U) → IsSound l → w ≡ op l.from → IsKnown 0 outs w
  one-known w h is = subst (λ (t : U). IsKnown 0 outs t) (sym is) (known l.from (from-known F inner l by h))

  module _ (w : U) (is : w ≡ op l.from) (d : Derivation) (none : IsFromTo F outs w w d) where
    pub one-part : IsSound l → IsPart d.outs (Inside 1 ∷ []) d.to l.outs l.from
    one-part h =
        subst (λ (n : ℕ). IsPart d.outs (Inside 1 ∷ []) d.to n l.from) (sym by.outs)
        (subst (λ (n : ℕ). IsPart n (Inside 1 ∷ []) d.to inner l.from) (sym none.outs)
        (subst (λ (t : U). IsPart outs (Inside 1 ∷ []) t inner l.from) (sym (none.to ∙ is)) (part_in l.from (from-known F inner l by h).closed)))

    pub one-shown : (x : Derivation) → IsMadeIn (Inside 1 ∷ []) d l x → IsFromTo F outs (op l.from) (op l.to) x
    one-shown x made = record {
      facts = made.facts ∙ none.facts;
      outs = made.outs ∙ none.outs;
      from = made.from ∙ none.from ∙ is;
      to = made_in l.from l.to x.to (replaced-at (Inside 1 ∷ []) d.outs outs d.to (op l.from) l.from l.from l.to x.to (none.to ∙ is) refl none.outs made.replaced);
    }

    pub one-costs : ((a : U) → nodes (op a) ≡ 1 + nodes a) → ((a : U) → depth (op a) ≡ 1 + depth a) → IsSound l → IsStill F outs w d → (x : Derivation) → IsMadeIn (Inside 1 ∷ []) d l x → IsOneDown l x
    one-costs many deep sound still x made =
        let first = first-within l sound in
        let once : length (turns (Inside 1 ∷ [])) ≡ 1 = refl in
        record {
          steps = made.steps ∙ ap (λ (s : List Step). s ++ lifted (Inside 1 ∷ []) l.steps) still.steps;
          nodes = omega (arith, made.nodes, still.nodes, ap nodes still.to, ap nodes is, many l.from, first.few);
          depth = omega (arith, made.depth, still.depth, ap depth is, once, deep l.from, first.shallow);
        }
