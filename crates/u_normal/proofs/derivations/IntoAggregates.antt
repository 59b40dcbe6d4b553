-- The path from argument to argument and into the body of an aggregate, and a derivation that is made there.
use Rattle.std.proofs.Common.{◌≡◌, ℕ, ◌+◌, ◌≤◌, List, [], ◌∷◌, ◌++◌, length, map, take, take_all, Some, None, refl, ap, sym, subst, ◌∙◌}
use Rattle.std.specs.Prelude.{Option, Result, IfOk, slice_get}
use Rattle.std.specs.Option.{option_map}
use Rattle.std.proofs.lemmas.Option.{slice_get-map}
use Rattle.u_terms.specs.Places.{IsClosed}
use Rattle.u_terms.specs.Binding.{closed_at}
use Rattle.u_deriv.specs.declared.run.Run.{Run}
use Rattle.u_deriv.specs.declared.run.Run.TheVariants.{Left, Right, Inside, Argument}
use Rattle.u_deriv.specs.declared.run.Turn.{Turn}
use Rattle.u_deriv.specs.declared.run.Turn.TheVariants as turn
use Rattle.u_deriv.specs.Normal.{IsLike}
use Rattle.u_deriv.specs.Turns.{turns}
use Rattle.u_moves.specs.Derivations.{Derivation}
use Rattle.u_moves.specs.Lifting.{IsPart, IsMadeIn}
use Rattle.u_moves.proofs.derivations.Whole.{if-ok}
use Rattle.u_normal.specs.Values.{arguments, StandsWithBody, HasOtherBody, LeadsOn}
use Rattle.u_normal.proofs.derivations.Standing.{body-part, other-body}

abbrev pub runs_of : List ℕ → List Run
runs_of = map (λ index. Argument index)

pub turns-arguments : (path : List ℕ) → turns (runs_of path) ≡ arguments path
turns-arguments [] = refl
turns-arguments (index ∷ path) = ap (λ (ts : List Turn). turn.Argument index ∷ ts) (turns-arguments path)

-- the last argument is not alike the turn into the body
unlike : (last : Option ℕ) (x : Run) → option_map (λ index. Argument index) last ≡ Some x → IsLike x (Inside 1) → ⊥
unlike None x e h = absurd (cc)
unlike (Some index) (Left n) e h = absurd (cc)
unlike (Some index) (Right n) e h = absurd (cc)
unlike (Some index) (Inside n) e h = absurd (cc)
unlike (Some index) (Argument n) e h = h

pub unlike-last : (path : List ℕ) (k : ℕ) (x : Run) → slice_get (runs_of path) k ≡ Some x → IsLike x (Inside 1) → ⊥
unlike-last path k x e h = unlike (slice_get path k) x (sym (slice_get-map (λ index. Argument index) path k) ∙ e) h

pub turns-into : (path : List ℕ) (k : ℕ) (runs longer : List Run) → runs ≡ runs_of (take k path) → length path ≤ k → turns longer ≡ turns runs ++ turn.Inside ∷ [] → turns longer ≡ arguments path ++ turn.Inside ∷ []
turns-into path k runs longer e all is =
    is ∙ ap (λ (rs : List Run). turns rs ++ turn.Inside ∷ []) (e ∙ ap runs_of (take_all k path all)) ∙ ap (λ (ts : List Turn). ts ++ turn.Inside ∷ []) (turns-arguments path)

-- ---- the derivation of the body, made in the whole
module _ (path : List ℕ) (runs : List Run) (at_path : turns runs ≡ arguments path ++ turn.Inside ∷ []) (whole part first second : Derivation) (is_first : first ≡ whole) (is_second : second ≡ part) where
  pub part-moved : part.outs ≡ whole.outs + 1 → IsClosed 0 part.from → StandsWithBody path (closed_at part.from whole.outs) whole.to → IsPart first.outs runs first.to second.outs second.from
  part-moved outs closed stands =
      subst (λ (d : Derivation). IsPart d.outs runs d.to second.outs second.from) (sym is_first)
      (subst (λ (d : Derivation). IsPart whole.outs runs whole.to d.outs d.from) (sym is_second)
      (subst (λ (n : ℕ). IsPart whole.outs runs whole.to n part.from) (sym outs) (body-part path runs at_path whole.outs whole.to part.from stands closed)))

  made-there : (d : Derivation) → IsMadeIn runs first second d → LeadsOn (HasOtherBody path whole.outs part.from part.to) whole d
  made-there d made =
      let is : IsMadeIn runs whole part d = subst (λ (x : Derivation). IsMadeIn runs whole x d) is_second (subst (λ (x : Derivation). IsMadeIn runs x second d) is_first made) in
      record { facts = is.facts; outs = is.outs; from = is.from; reached = other-body path runs at_path whole.outs whole.to part.from part.to d.to is.replaced }

  pub led-in_aggregate : {E : Type 0} (d : Derivation) → IsMadeIn runs first second d → (result : Result Derivation E) → IfOk result (λ x. x ≡ d) → IfOk result (LeadsOn (HasOtherBody path whole.outs part.from part.to) whole)
  led-in_aggregate d made result is =
      if-ok (λ x. x ≡ d) (LeadsOn (HasOtherBody path whole.outs part.from part.to) whole) (λ x e. subst (λ (y : Derivation). LeadsOn (HasOtherBody path whole.outs part.from part.to) whole y) (sym e) (made-there d made)) result is
