-- A derivation inside a negation.
use Rattle.std.proofs.Common.{◌≡◌, ℕ, ◌+◌, ◌^◌, ◌<◌, List, [], ◌∷◌, length, refl, ap, sym, ◌∙◌, arith}
use Rattle.std.proofs.lemmas.List.{length-map}
use Rattle.u_terms.specs.Syntax.{U, Val}
use Rattle.u_terms.specs.Binding.{closed_path}
use Rattle.u_terms.specs.Places.{IsClosed}
use Rattle.u_terms.specs.Size.{nodes, depth}
use Rattle.u_terms.specs.declared.facts.Facts.{Facts}
use Rattle.u_terms.proofs.Binding.{closed_path-none}
use Rattle.u_terms.proofs.Sizes.{nodes-Not, nodes-Eq, depth-Not, depth-Eq}
use Rattle.u_rules.specs.Terms.{◌≐◌, neg}
use Rattle.u_deriv.specs.declared.run.Run.{Run}
use Rattle.u_deriv.specs.declared.run.Turn.TheVariants as turn
use Rattle.u_deriv.specs.Contexts.{Context, hole, in_not, filled, way, binders}
use Rattle.u_deriv.specs.Opening.{opened_path}
use Rattle.u_deriv.specs.Steps.{Replaced}
use Rattle.u_deriv.specs.Turns.{turns}
use Rattle.u_deriv.proofs.contexts.OneContext.{same_context}
use Rattle.u_moves.specs.Derivations.{Derivation, IsKnown}
use Rattle.u_moves.specs.Lifting.{IsPartOfKnown, IsUnder, lifted_step}
use Rattle.u_moves.proofs.derivations.Plain.{under-plain}
use Rattle.u_entail.specs.Gaining.{IsRegrouped}
use Rattle.u_entail.proofs.products.Behind.{opened-none}

filled-not : (x : U) → filled (in_not hole) x ≡ neg x
unfolding filled
filled-not x = refl

way-not : way (in_not hole) ≡ turn.Inside ∷ []
unfolding way
way-not = refl

binders-not : binders (in_not hole) ≡ 0
unfolding binders
binders-not = refl

module _ (path : List Run) (at : turns path ≡ turn.Inside ∷ []) where
  -- what stands in a negation
  pub part-of-negation : (outs inner : ℕ) (whole x : U) → whole ≡ neg x → IsKnown 0 outs whole → outs + depth whole < 2 ^ 32 → IsClosed 0 x → inner ≡ outs → IsPartOfKnown path whole inner x
  part-of-negation outs inner whole x is known shallow closed same = record {
    outs = outs;
    known = known;
    shallow = shallow;
    part = record {
      context = in_not hole;
      inside = x;
      at_path = way-not ∙ sym at;
      is = is ∙ sym (filled-not x);
      names = omega (arith, same, binders-not);
      opened = sym (ap (λ (n : ℕ). opened_path x outs n) binders-not ∙ opened-none x outs closed);
    };
  }

  module _ (outs : ℕ) (whole x y last : U) (is : whole ≡ neg x) (r : Replaced outs path whole x y last) where
    pub same-there : r.context ≡ in_not hole
    same-there = same_context r.context (in_not hole) (closed_path x outs (binders r.context)) x (r.at_path ∙ at ∙ sym way-not) (sym r.is_from ∙ is ∙ sym (filled-not x))

    pub ends-negated : last ≡ neg y
    ends-negated =
        r.is_to ∙ ap (λ (c : Context). filled c (closed_path y outs (binders c))) same-there ∙ ap (λ (n : ℕ). filled (in_not hole) (closed_path y outs n)) binders-not
        ∙ ap (λ (t : U). filled (in_not hole) t) (closed_path-none y outs) ∙ filled-not y

  -- the sides of a negated equality exchanged
  pub negation-exchanged : (facts : Facts) (outs : ℕ) (a b : Val) (whole : U) (inner d : Derivation) → whole ≡ neg (a ≐ b) → IsRegrouped facts outs (a ≐ b) (b ≐ a) inner → IsUnder path whole inner d
      → IsRegrouped facts outs (neg (a ≐ b)) (neg (b ≐ a)) d
  negation-exchanged facts outs a b whole inner d is one u =
      let l = one.leads in
      let r = u.replaced in
      let there : r.context ≡ in_not hole = same-there d.outs whole inner.from inner.to d.to (is ∙ ap (λ (x : U). neg x) (sym l.from)) r in
      let names : inner.outs ≡ d.outs = omega (arith, u.names, ap binders there, binders-not) in
      record {
        leads = record {
          facts = u.facts ∙ l.facts;
          outs = sym names ∙ l.outs;
          from = u.from ∙ is;
          to = ends-negated d.outs whole inner.from inner.to d.to (is ∙ ap (λ (x : U). neg x) (sym l.from)) r ∙ ap (λ (x : U). neg x) l.to;
          plain = under-plain path inner d u.steps l.plain;
        };
        steps = omega (arith, ap length u.steps, length-map inner.steps (lifted_step path), one.steps);
        nodes = omega (arith, u.nodes, one.nodes, ap nodes is, ap nodes l.from, nodes-Not (a ≐ b), nodes-Not (b ≐ a), nodes-Eq a b, nodes-Eq b a);
        depth = omega (arith, u.depth, one.depth, ap depth is, ap length at, depth-Not (a ≐ b), depth-Not (b ≐ a), depth-Eq a b, depth-Eq b a);
      }
