-- A step at the root, the other way, and at the end of a path.
use Rattle.std.proofs.Common.{◌≡◌, ℕ, ◌+◌, Bool, true, false, List, [], ◌∷◌, ◌++◌, refl, ap, sym, ◌∙◌, subst, arith, inl, inr}
use Rattle.std.specs.Prelude.{◌⊎◌, not}
use Rattle.u_terms.specs.Syntax.{U}
use Rattle.u_terms.specs.declared.facts.Facts.{Facts}
use Rattle.u_terms.specs.Binding.{same_place, place_for_names, closed_path, mapped}
use Rattle.u_terms.proofs.Binding.{closed_path-none}
use Rattle.u_rules.specs.declared.rule.Arg.{Arg}
use Rattle.u_rules.specs.declared.rule.Arg.TheVariants.{Term}
use Rattle.u_rules.specs.declared.rule.Rule.{Rule}
use Rattle.u_rules.specs.declared.rule.Rule.TheVariants as rule
use Rattle.u_rules.specs.Terms.{◌⊗◌}
use Rattle.u_rules.specs.Rows.{Instance}
use Rattle.u_rules.specs.Sides.{AreNamed}
use Rattle.u_deriv.specs.declared.run.Run.{Run}
use Rattle.u_deriv.specs.declared.run.Turn.{Turn}
use Rattle.u_deriv.specs.declared.step.Step.{Step, out-Step, roll-Step}
use Rattle.u_deriv.specs.declared.step.Step.TheViews.{out-roll-Step}
use Rattle.u_deriv.specs.declared.step.Step.TheOpen.{Step-F}
use Rattle.u_deriv.specs.Turns.{turns}
use Rattle.u_deriv.specs.Contexts.{Context, hole, filled, way, binders}
use Rattle.u_deriv.specs.Steps.{Sides, Exchanged, Rewrites, Replays, by_rule, by_proof}
use Rattle.u_moves.specs.Turning.{flipped}
use Rattle.u_moves.specs.Lifting.{after, lifted_step}
use Rattle.u_moves.proofs.contexts.Nested.{within, filled-within, way-within, binders-within, context_mapped, mapped-filled, way-mapped, binders-mapped}
use Rattle.u_moves.proofs.contexts.Closings.{closed_path-twice}
use Rattle.u_moves.proofs.contexts.Paths.{turns-after}

-- ---- a context, with the names of another closed in it, in the hole of that one
module _ (outs : ℕ) (c : Context) where
  abbrev lifted_context : Context → Context
  lifted_context d = within c (context_mapped same_place (place_for_names outs (binders c)) 0 d)

  lifted-binders : (d : Context) → binders (lifted_context d) ≡ binders c + binders d
  lifted-binders d =
      binders-within c (context_mapped same_place (place_for_names outs (binders c)) 0 d)
      ∙ ap (λ m. binders c + m) (binders-mapped same_place (place_for_names outs (binders c)) d 0)

  lifted-way : (d : Context) → way (lifted_context d) ≡ way c ++ way d
  lifted-way d =
      way-within c (context_mapped same_place (place_for_names outs (binders c)) 0 d)
      ∙ ap (λ (w : List Turn). way c ++ w) (way-mapped same_place (place_for_names outs (binders c)) d 0)

  lifted-filled : (d : Context) (l : U)
      → filled c (closed_path (filled d (closed_path l (outs + binders c) (binders d))) outs (binders c))
      ≡ filled (lifted_context d) (closed_path l outs (binders (lifted_context d)))
  lifted-filled d l =
      ap (filled c)
      (mapped-filled same_place (place_for_names outs (binders c)) d (closed_path l (outs + binders c) (binders d)) 0
      ∙ ap (filled (context_mapped same_place (place_for_names outs (binders c)) 0 d)) inside)
      ∙ sym (filled-within c (context_mapped same_place (place_for_names outs (binders c)) 0 d) (closed_path l outs (binders c + binders d)))
      ∙ ap (λ m. filled (lifted_context d) (closed_path l outs m)) (sym (lifted-binders d))
    where
      inside : mapped same_place (place_for_names outs (binders c)) (0 + binders d) (closed_path l (outs + binders c) (binders d)) ≡ closed_path l outs (binders c + binders d)
      inside = let e : 0 + binders d ≡ binders d = omega arith in rw e (closed_path-twice l outs (binders c) (binders d))

-- ---- a step by its parts
abbrev Ends : Facts → Bool → Rule → List Arg → U → U → Type 0
Ends facts true q args from to = Instance facts q args from to
Ends facts false q args from to = Instance facts q args to from

ends-back : (facts : Facts) (forward : Bool) (q : Rule) (args : List Arg) (from to : U) → Ends facts forward q args from to → Ends facts (not forward) q args to from
ends-back facts true q args from to i = i
ends-back facts false q args from to i = i

sides-ends : (facts : Facts) (forward : Bool) (s : Step) (from to : U) → Sides facts forward s from to → Ends facts forward (out-Step s).rule (out-Step s).args from to
sides-ends facts true s from to i = i
sides-ends facts false s from to i = i

ends-sides : (facts : Facts) (forward : Bool) (s : Step) (from to : U) → Ends facts forward (out-Step s).rule (out-Step s).args from to → Sides facts forward s from to
ends-sides facts true s from to i = i
ends-sides facts false s from to i = i

abbrev pub AreShown : Facts → ℕ → Rule → List Arg → List Step → Type 0
AreShown facts outs q args inner =
    ((q ≡ rule.SqFix → ⊥) × (inner ≡ [])) ⊎ ((x : U) × (q ≡ rule.SqFix) × (args ≡ Term x ∷ []) × Replays facts outs (x ⊗ x) inner x)

record Parts (facts : Facts) (outs : ℕ) (before : U) (d : Step-F Step) (after : U) : Type 0 where
  pub context : Context
  pub from : U
  pub to : U
  pub at_path : way context ≡ turns d.path
  pub ends : Ends facts d.forward d.rule d.args from to
  pub named : AreNamed (outs + binders context) d.args
  pub shown : AreShown facts (outs + binders context) d.rule d.args d.inner
  pub is_from : before ≡ filled context (closed_path from outs (binders context))
  pub is_to : after ≡ filled context (closed_path to outs (binders context))

module _ (facts : Facts) where
  of_exchanged : (outs : ℕ) (a : U) (s : Step) (b : U) (t : Exchanged facts outs a s b)
      → AreShown facts (outs + binders t.replaced.context) (out-Step s).rule (out-Step s).args (out-Step s).inner → Parts facts outs a (out-Step s) b
  of_exchanged outs a s b t shown = record {
    context = t.replaced.context;
    from = t.from;
    to = t.to;
    at_path = t.replaced.at_path;
    ends = sides-ends facts (out-Step s).forward s t.from t.to t.sides;
    named = t.named;
    shown = shown;
    is_from = t.replaced.is_from;
    is_to = t.replaced.is_to;
  }

  parts : (outs : ℕ) (a : U) (s : Step) (b : U) → Rewrites facts outs a s b → Parts facts outs a (out-Step s) b
  parts outs a s b (by_rule t other empty) = of_exchanged outs a s b t (inl (other, empty))
  parts outs a s b (by_proof x t is are inner) = of_exchanged outs a s b t (inr (x, is, are, inner))

  to_exchanged : (outs : ℕ) (a : U) (s : Step) (b : U) → Parts facts outs a (out-Step s) b → Exchanged facts outs a s b
  to_exchanged outs a s b p = record {
    from = p.from;
    to = p.to;
    sides = ends-sides facts (out-Step s).forward s p.from p.to p.ends;
    replaced = record { context = p.context; at_path = p.at_path; is_from = p.is_from; is_to = p.is_to };
    named = p.named;
  }

  whole_of : (outs : ℕ) (a : U) (s : Step) (b : U) (p : Parts facts outs a (out-Step s) b)
      → AreShown facts (outs + binders p.context) (out-Step s).rule (out-Step s).args (out-Step s).inner → Rewrites facts outs a s b
  unfolding to_exchanged
  whole_of outs a s b p (inl plain) = by_rule (to_exchanged outs a s b p) plain.0 plain.1
  whole_of outs a s b p (inr proof) = by_proof proof.0 (to_exchanged outs a s b p) proof.1 proof.2 proof.3

  whole : (outs : ℕ) (a : U) (d : Step-F Step) (b : U) → Parts facts outs a d b → Rewrites facts outs a (roll-Step d) b
  whole outs a d b p =
      let q = subst (λ (e : Step-F Step). Parts facts outs a e b) (sym (out-roll-Step d)) p in
      whole_of outs a (roll-Step d) b q q.shown

  -- ---- at the root
  pub rewrites-at_root : (outs : ℕ) (q : Rule) (args : List Arg) (inner : List Step) (l r : U) → Instance facts q args l r → AreNamed outs args
      → AreShown facts outs q args inner → Rewrites facts outs l (roll-Step (record { path = []; forward = true; rule = q; args = args; inner = inner })) r
  unfolding way binders filled
  rewrites-at_root outs q args inner l r i named shown =
      let none : outs ≡ outs + 0 = omega arith in
      whole outs l (record { path = []; forward = true; rule = q; args = args; inner = inner }) r (record {
        context = hole;
        from = l;
        to = r;
        at_path = refl;
        ends = i;
        named = subst (λ m. AreNamed m args) none named;
        shown = subst (λ m. AreShown facts m q args inner) none shown;
        is_from = sym (closed_path-none l outs);
        is_to = sym (closed_path-none r outs);
      })

  -- ---- the other way
  pub rewrites-back : (outs : ℕ) (a b : U) (s : Step) → Rewrites facts outs a s b → Rewrites facts outs b (flipped s) a
  rewrites-back outs a b s r =
      let p = parts outs a s b r in
      let d = out-Step s in
      whole outs b (record { path = d.path; forward = not d.forward; rule = d.rule; args = d.args; inner = d.inner }) a (record {
        context = p.context;
        from = p.to;
        to = p.from;
        at_path = p.at_path;
        ends = ends-back facts d.forward d.rule d.args p.from p.to p.ends;
        named = p.named;
        shown = p.shown;
        is_from = p.is_to;
        is_to = p.is_from;
      })

  -- ---- elsewhere
  pub rewrites-under : (outs : ℕ) (c : Context) (path : List Run) (a b : U) (s : Step) → way c ≡ turns path → Rewrites facts (outs + binders c) a s b
      → Rewrites facts outs (filled c (closed_path a outs (binders c))) (lifted_step path s) (filled c (closed_path b outs (binders c)))
  rewrites-under outs c path a b s at r =
      let p = parts (outs + binders c) a s b r in
      let d = out-Step s in
      let deep : outs + binders c + binders p.context ≡ outs + binders (lifted_context outs c p.context) = omega (arith, lifted-binders outs c p.context) in
      whole outs (filled c (closed_path a outs (binders c)))
      (record { path = after path d.path; forward = d.forward; rule = d.rule; args = d.args; inner = d.inner })
      (filled c (closed_path b outs (binders c))) (record {
        context = lifted_context outs c p.context;
        from = p.from;
        to = p.to;
        at_path = lifted-way outs c p.context ∙ ap (λ (w : List Turn). way c ++ w) p.at_path ∙ ap (λ (w : List Turn). w ++ turns d.path) at ∙ sym (turns-after path d.path);
        ends = p.ends;
        named = subst (λ m. AreNamed m d.args) deep p.named;
        shown = subst (λ m. AreShown facts m d.rule d.args d.inner) deep p.shown;
        is_from = ap (λ (t : U). filled c (closed_path t outs (binders c))) p.is_from ∙ lifted-filled outs c p.context p.from;
        is_to = ap (λ (t : U). filled c (closed_path t outs (binders c))) p.is_to ∙ lifted-filled outs c p.context p.to;
      })
