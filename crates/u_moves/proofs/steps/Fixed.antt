-- The squash of a term becomes the term, by steps that lead from its square to it.
use Rattle.std.proofs.Common.{◌≡◌, ℕ, true, List, [], ◌∷◌, refl, sym, subst, inr}
use Rattle.u_terms.specs.Syntax.{U}
use Rattle.u_terms.specs.declared.facts.Facts.{Facts}
use Rattle.u_rules.specs.declared.rule.Arg.{Arg}
use Rattle.u_rules.specs.declared.rule.Arg.TheVariants.{Term}
use Rattle.u_rules.specs.declared.rule.Rule.TheVariants as rule
use Rattle.u_rules.specs.Terms.{◌⊗◌, sq}
use Rattle.u_rules.specs.Rows.{Instance}
use Rattle.u_rules.proofs.arguments.SidesKept.{sides-closed, sides-below}
use Rattle.u_deriv.specs.declared.run.Run.{Run}
use Rattle.u_deriv.specs.declared.step.Step.{Step, roll-Step}
use Rattle.u_deriv.specs.Steps.{Rewrites, Replays}
use Rattle.u_moves.specs.Derivations.{Derivation, IsKnown, IsSound}
use Rattle.u_moves.proofs.steps.Elsewhere.{rewrites-at_root}
use Rattle.u_moves.proofs.derivations.Sound.{sound-plain, last-known}

module _ (F : Facts) (outs : ℕ) (d : Derivation) (h : IsSound d) (ef : d.facts ≡ F) (eo : d.outs ≡ outs) (square : d.from ≡ d.to ⊗ d.to) where
  x-known : IsKnown 0 outs d.to
  x-known = subst (λ m. IsKnown 0 m d.to) eo (last-known d h)

  fix-instance : Instance F rule.SqFix (Term d.to ∷ []) (sq d.to) d.to
  fix-instance = record { row = refl; closed = (x-known.closed, tt); leaves = tt }

  leads : Replays F outs (d.to ⊗ d.to) d.steps d.to
  leads = subst (λ u. Replays F outs u d.steps d.to) square (subst (λ m. Replays F m d.from d.steps d.to) eo (subst (λ f. Replays f d.outs d.from d.steps d.to) ef (sound-plain d h)))

  pub fix-known : (from : U) → from ≡ sq d.to → IsKnown 0 outs from
  fix-known from is =
      let closed = sides-closed F rule.SqFix (Term d.to ∷ []) (sq d.to) d.to fix-instance in
      let named = sides-below outs F rule.SqFix (Term d.to ∷ []) (sq d.to) d.to fix-instance (x-known.named, tt) in
      subst (IsKnown 0 outs) (sym is) (record { closed = closed.0; named = named.0 })

  pub fix-made : (from to : U) (path : List Run) (args : List Arg) (inner : List Step) → from ≡ sq d.to → to ≡ d.to → path ≡ [] → args ≡ Term d.to ∷ [] → inner ≡ d.steps
      → Rewrites F outs from (roll-Step (record { path = path; forward = true; rule = rule.SqFix; args = args; inner = inner })) to
  fix-made from to path args inner a b p q s =
      rw (a, b, p, q, s) (rewrites-at_root F outs rule.SqFix (Term d.to ∷ []) d.steps (sq d.to) d.to fix-instance (x-known.named, tt) (inr (d.to, refl, refl, leads)))
