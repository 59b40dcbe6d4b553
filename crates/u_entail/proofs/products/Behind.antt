-- What stands behind the first factors of a spine, and a derivation made there.
use Rattle.std.proofs.Common.{◌≡◌, ℕ, List, [], ◌∷◌, length, refl, ap, sym, ◌∙◌, arith}
use Rattle.std.specs.Prelude.{replicate}
use Rattle.std.proofs.lemmas.List.{length-append, length-map, length-replicate}
use Rattle.u_terms.specs.Syntax.{U}
use Rattle.u_terms.specs.Binding.{closed_path}
use Rattle.u_terms.specs.Places.{IsClosed}
use Rattle.u_terms.specs.Size.{nodes}
use Rattle.u_terms.proofs.Binding.{closed_path-none}
use denote.Ref.{Bor}
use Rattle.u_rules.specs.Terms.{◌⊗◌, terms}
use Rattle.u_deriv.specs.declared.run.Run.{Run}
use Rattle.u_deriv.specs.declared.run.Turn.{Turn}
use Rattle.u_deriv.specs.declared.run.Turn.TheVariants as turn
use Rattle.u_deriv.specs.Contexts.{Context, hole, mul_right, filled, way, binders}
use Rattle.u_deriv.specs.Opening.{opened_path}
use Rattle.u_deriv.specs.Turns.{turns}
use Rattle.u_deriv.proofs.contexts.OneContext.{same_context}
use Rattle.u_deriv.proofs.contexts.Opening.{opened_path-closed}
use Rattle.u_moves.specs.Derivations.{Derivation}
use Rattle.u_moves.specs.Lifting.{IsPart, IsMadeIn, lifted, lifted_step}
use Rattle.u_moves.proofs.derivations.Plain.{made-plain}
use Rattle.u_entail.specs.Spines.{spine, IsMadeBehind}
use Rattle.u_entail.proofs.products.Spines.{nodes-spine}

abbrev behind : List U → Context
behind [] = hole
behind (x ∷ xs) = mul_right x (behind xs)

filled-behind : (xs : List U) (part : U) → filled (behind xs) part ≡ spine xs part
unfolding filled
filled-behind [] part = refl
filled-behind (x ∷ xs) part = ap (λ (t : U). x ⊗ t) (filled-behind xs part)

way-behind : (xs : List U) → way (behind xs) ≡ replicate (length xs) turn.Right
unfolding way
way-behind [] = refl
way-behind (x ∷ xs) = ap (λ (ts : List Turn). turn.Right ∷ ts) (way-behind xs)

binders-behind : (xs : List U) → binders (behind xs) ≡ 0
unfolding binders
binders-behind [] = refl
binders-behind (x ∷ xs) = binders-behind xs

pub opened-none : (u : U) (outs : ℕ) → IsClosed 0 u → opened_path u outs 0 ≡ u
opened-none u outs closed = ap (λ (t : U). opened_path t outs 0) (sym (closed_path-none u outs)) ∙ opened_path-closed outs 0 u closed

-- the path of code, by the number of the factors that it passes
pub at-terms : (refs : List (Bor U)) (path : List Run) → turns path ≡ replicate (length refs) turn.Right → turns path ≡ replicate (length (terms refs)) turn.Right
at-terms refs path at = at ∙ ap (λ (n : ℕ). replicate n turn.Right) (sym (length-map refs (λ r. r.now)))

module _ (xs : List U) (path : List Run) (at : turns path ≡ replicate (length xs) turn.Right) where
  way-is : way (behind xs) ≡ turns path
  way-is = way-behind xs ∙ sym at

  pub part-behind : (whole part : U) (outs inner : ℕ) → whole ≡ spine xs part → outs ≡ inner → IsClosed 0 part → IsPart outs path whole inner part
  part-behind whole part outs inner is same closed = record {
    context = behind xs;
    inside = part;
    at_path = way-is;
    is = is ∙ sym (filled-behind xs part);
    names = omega (arith, same, binders-behind xs);
    opened = sym (ap (λ (n : ℕ). opened_path part outs n) (binders-behind xs) ∙ opened-none part outs closed);
  }

  turns-long : length (turns path) ≡ length xs
  turns-long = ap length at ∙ length-replicate (length xs) turn.Right

  module _ (first part d : Derivation) (is : first.to ≡ spine xs part.from) (made : IsMadeIn path first part d) where
    same-there : made.replaced.context ≡ behind xs
    same-there =
        let r = made.replaced in
        same_context r.context (behind xs) (closed_path part.from first.outs (binders r.context)) part.from (r.at_path ∙ sym way-is) (sym r.is_from ∙ is ∙ sym (filled-behind xs part.from))

    ends-behind : d.to ≡ spine xs part.to
    ends-behind =
        let r = made.replaced in
        r.is_to ∙ ap (λ (c : Context). filled c (closed_path part.to first.outs (binders c))) same-there
        ∙ ap (λ (n : ℕ). filled (behind xs) (closed_path part.to first.outs n)) (binders-behind xs)
        ∙ ap (λ (t : U). filled (behind xs) t) (closed_path-none part.to first.outs) ∙ filled-behind xs part.to

    pub made-behind : IsMadeBehind xs first part d
    made-behind = record {
      facts = made.facts;
      outs = made.outs;
      from = made.from;
      to = ends-behind;
      steps = omega (arith, ap length made.steps, length-append first.steps (lifted path part.steps), length-map part.steps (lifted_step path));
      nodes = omega (arith, made.nodes, ap nodes is, nodes-spine xs part.from);
      depth = omega (arith, made.depth, turns-long);
      plain = λ whole inner. made-plain path first part d made.steps whole inner;
    }
