-- What is seen of two arguments, and what a step does that moves the one to the place of the other.
use Rattle.std.proofs.Common.{◌≡◌, ℕ, ◌+◌, ◌≤◌, max, Bool, true, false, List, [], ◌∷◌, Option, Some, None, Result, Ok, Err, refl, ap, sym, subst, ◌∙◌, arith}
use Rattle.std.specs.Prelude.{not, MatchOption, IsPermutation}
use Rattle.u_terms.specs.Syntax.{U}
use Rattle.u_terms.specs.Size.{nodes, depth}
use Rattle.u_terms.specs.Binding.{closed_path}
use Rattle.u_terms.specs.Names.{fresh}
use Rattle.u_terms.specs.Places.{IsClosed}
use Rattle.u_terms.specs.declared.facts.Facts.{Facts}
use Rattle.u_terms.proofs.FreeNames.{below-fresh, fresh-least}
use Rattle.u_rules.specs.declared.rule.Arg.{Arg}
use Rattle.u_rules.specs.declared.rule.Arg.TheVariants.{Term, Body, Value, Values, Num}
use Rattle.u_rules.specs.declared.rule.Rule.TheVariants as rule
use Rattle.u_rules.specs.declared.side_sizes.Sizes.{Sizes}
use Rattle.u_rules.specs.Rows.{row, row_with, T, AreClosed, Instance}
use Rattle.u_rules.specs.Sides.{AreNamed, side_of}
use Rattle.u_rules.specs.Measures.{capped, measure_of, sizes_of}
use Rattle.u_rules.specs.Terms as terms
use Rattle.u_rules.proofs.arguments.OneInstance.{one-instance}
use Rattle.u_deriv.specs.declared.outlines.Outline.{Outline}
use Rattle.u_deriv.specs.declared.fault.StepFault.TheVariants.{NoResult, NoMemory}
use Rattle.u_deriv.specs.declared.fault.StepFault.{StepFault}
use Rattle.u_deriv.specs.declared.place.Place.{Place}
use Rattle.u_deriv.specs.declared.step.Step.{Step, out-Step}
use Rattle.u_deriv.specs.Contexts.{filled, binders}
use Rattle.u_deriv.specs.Steps.{Sides, Exchanged}
use Rattle.u_deriv.specs.Applying.{IsExchanged, Writes}
use Rattle.u_deriv.specs.Editing.{left_of, right_of}
use Rattle.u_deriv.specs.Outlining.{dangling, outline_of}
use Rattle.u_deriv.specs.Spending.{AreClosedTerms, SeesNames, Agree, rearranging, two_terms, term_at}
use Rattle.u_deriv.proofs.steps.OutlinesAt.{closed-none, none-closed}

-- ---- what is seen of two terms
module _ (args : List Arg) (l r : U) (a b : Outline) (are : args ≡ Term l ∷ Term r ∷ []) (p : a ≡ outline_of l) (q : b ≡ outline_of r) where
  pub sizes-seen : (sizes : Sizes) → sizes ≡ record { left_nodes = a.nodes; left_depth = a.depth; right_nodes = b.nodes; right_depth = b.depth } → sizes ≡ sizes_of (two_terms args)
  unfolding outline_of measure_of
  sizes-seen sizes is = is ∙ rw (are, p, q) refl

  left-binders : a.binders ≡ dangling l
  unfolding outline_of dangling
  left-binders = rw p refl

  right-binders : b.binders ≡ dangling r
  unfolding outline_of dangling
  right-binders = rw q refl

  names-are : max a.names b.names ≡ max (fresh l) (fresh r)
  unfolding outline_of fresh
  names-are = rw (p, q) refl

  pub names-seen : (names : Option ℕ) → MatchOption names (a.binders ≡ 0 → b.binders ≡ 0 → ⊥) (λ n. (a.binders ≡ 0) × (b.binders ≡ 0) × (n ≡ max a.names b.names)) → SeesNames args names
  names-seen (Some n) h = (
    l,
    r,
    record {
      are = are;
      left_closed = closed-none l (sym left-binders ∙ h.0);
      right_closed = closed-none r (sym right-binders ∙ h.1);
    },
    h.2 ∙ names-are,
  )
  names-seen None h = λ left right t.
      let x : l ≡ left = ap (λ (s : List Arg). term_at s 0) (sym are ∙ t.are) in
      let y : r ≡ right = ap (λ (s : List Arg). term_at s 1) (sym are ∙ t.are) in
      h (left-binders ∙ none-closed l (subst (λ z. IsClosed 0 z) (sym x) t.left_closed)) (right-binders ∙ none-closed r (subst (λ z. IsClosed 0 z) (sym y) t.right_closed))

-- ---- the row of two terms
second : (x : U) (args : List Arg) (l r : U) → T (λ y. row_with None x y) args ≡ Some (record { fault = None; left = l; right = r }) → Term x ∷ args ≡ Term l ∷ Term r ∷ []
second x [] l r e = absurd cc
second x (Term y ∷ []) l r e =
    let p : x ≡ l = ap left_of e in
    let q : y ≡ r = ap right_of e in
    rw (p, q) refl
second x (Term y ∷ z ∷ rest) l r e = absurd cc
second x (Body y ∷ rest) l r e = absurd cc
second x (Value y ∷ rest) l r e = absurd cc
second x (Values y ∷ rest) l r e = absurd cc
second x (Num y ∷ rest) l r e = absurd cc

two-terms : (args : List Arg) (l r : U) → two_terms args ≡ Some (record { fault = None; left = l; right = r }) → args ≡ Term l ∷ Term r ∷ []
two-terms [] l r e = absurd cc
two-terms (Term x ∷ rest) l r e = second x rest l r e
two-terms (Body x ∷ rest) l r e = absurd cc
two-terms (Value x ∷ rest) l r e = absurd cc
two-terms (Values x ∷ rest) l r e = absurd cc
two-terms (Num x ∷ rest) l r e = absurd cc

module _ (facts : Facts) (args : List Arg) (l r : U) where
  -- an instance of the rule of sums, or of that of products
  instance-terms : (product : Bool) → Instance facts (rearranging product) args l r → AreClosedTerms args l r
  instance-terms false i = let are = two-terms args l r i.row in let c = subst (λ s. AreClosed rule.AddAc s) are i.closed in record { are = are; left_closed = c.0; right_closed = c.1.0 }
  instance-terms true i = let are = two-terms args l r i.row in let c = subst (λ s. AreClosed rule.MulAc s) are i.closed in record { are = are; left_closed = c.0; right_closed = c.1.0 }

  instance-leaves : (product : Bool) → Instance facts (rearranging product) args l r → IsPermutation (terms.leaves product l) (terms.leaves product r)
  instance-leaves false i = i.leaves
  instance-leaves true i = i.leaves

  terms-instance : (product : Bool) → AreClosedTerms args l r → IsPermutation (terms.leaves product l) (terms.leaves product r) → Instance facts (rearranging product) args l r
  terms-instance false t same = record {
    row = ap (λ s. row facts rule.AddAc s) t.are;
    closed = subst (λ s. AreClosed rule.AddAc s) (sym t.are) (t.left_closed, (t.right_closed, tt));
    leaves = same;
  }
  terms-instance true t same = record {
    row = ap (λ s. row facts rule.MulAc s) t.are;
    closed = subst (λ s. AreClosed rule.MulAc s) (sym t.are) (t.left_closed, (t.right_closed, tt));
    leaves = same;
  }

  names-below : (bound : ℕ) → args ≡ Term l ∷ Term r ∷ [] → max (fresh l) (fresh r) ≤ bound → AreNamed bound args
  names-below bound are few = subst (λ s. AreNamed bound s) (sym are) (below-fresh bound l (omega (arith, few)), (below-fresh bound r (omega (arith, few)), tt))

  below-names : (bound : ℕ) → args ≡ Term l ∷ Term r ∷ [] → AreNamed bound args → max (fresh l) (fresh r) ≤ bound
  below-names bound are named =
      let n = subst (λ s. AreNamed bound s) are named in
      omega (arith, fresh-least bound l n.0, fresh-least bound r n.1.0)

-- ---- a step of one of the two rules
module _ (facts : Facts) (step : Step) (product : Bool) (is : (out-Step step).rule ≡ rearranging product) where
  abbrev args : List Arg
  args = (out-Step step).args

  there : (l r : U) → Instance facts (out-Step step).rule args l r → Instance facts (rearranging product) args l r
  there l r i = subst (λ q. Instance facts q args l r) is i

  back : (l r : U) → Instance facts (rearranging product) args l r → Instance facts (out-Step step).rule args l r
  back l r i = subst (λ q. Instance facts q args l r) (sym is) i

  sides-instance : (forward : Bool) (from to : U) → Sides facts forward step from to → Instance facts (rearranging product) args (side_of (not forward) from to) (side_of (not forward) to from)
  sides-instance true from to s = there from to s
  sides-instance false from to s = there to from s

  instance-sides : (forward : Bool) (l r : U) → Instance facts (rearranging product) args l r → Sides facts forward step (side_of (not forward) l r) (side_of forward l r)
  instance-sides true l r i = back l r i
  instance-sides false l r i = back l r i

  pub unseen : SeesNames args None → (outs : ℕ) (before other : U) → Exchanged facts outs before step other → ⊥
  unseen none outs before other t =
      let f = (out-Step step).forward in
      none (side_of (not f) t.from t.to) (side_of (not f) t.to t.from)
      (instance-terms facts args (side_of (not f) t.from t.to) (side_of (not f) t.to t.from) product (sides-instance f t.from t.to t.sides))

  pub disagreeing : (Agree product args → ⊥) → (outs : ℕ) (before other : U) → Exchanged facts outs before step other → ⊥
  disagreeing none outs before other t =
      let f = (out-Step step).forward in
      let i = sides-instance f t.from t.to t.sides in
      none (record {
        left = side_of (not f) t.from t.to;
        right = side_of (not f) t.to t.from;
        are = (instance-terms facts args (side_of (not f) t.from t.to) (side_of (not f) t.to t.from) product i).are;
        same = instance-leaves facts args (side_of (not f) t.from t.to) (side_of (not f) t.to t.from) product i;
      })

  module _ (names : ℕ) (seen : SeesNames args (Some names)) (agree : Agree product args) (outs : ℕ) (before after : U) where
    abbrev left : U
    left = term_at args 0

    abbrev right : U
    right = term_at args 1

    left-is : left ≡ seen.0
    left-is = ap (λ s. term_at s 0) seen.2.are

    right-is : right ≡ seen.1
    right-is = ap (λ s. term_at s 1) seen.2.are

    closed : AreClosedTerms args left right
    closed = subst (λ x. AreClosedTerms args x right) (sym left-is) (subst (λ y. AreClosedTerms args seen.0 y) (sym right-is) seen.2)

    same : IsPermutation (terms.leaves product left) (terms.leaves product right)
    same =
        subst (λ x. IsPermutation (terms.leaves product x) (terms.leaves product right)) (sym (ap (λ s. term_at s 0) agree.are))
        (subst (λ y. IsPermutation (terms.leaves product agree.left) (terms.leaves product y)) (sym (ap (λ s. term_at s 1) agree.are)) agree.same)

    instance : Instance facts (rearranging product) args left right
    instance = terms-instance facts args left right product closed same

    least : names ≡ max (fresh left) (fresh right)
    least = rw (left-is, right-is) seen.3

    one-side : (forward : Bool) (from to : U) → Sides facts forward step from to → (from ≡ side_of (not forward) left right) × (to ≡ side_of forward left right)
    one-side true from to s = one-instance facts (out-Step step).rule args from to left right s (back left right instance)
    one-side false from to s = let e = one-instance facts (out-Step step).rule args to from left right s (back left right instance) in (e.1, e.0)

    abbrev from : U
    from = side_of (not (out-Step step).forward) left right

    abbrev to : U
    to = side_of (out-Step step).forward left right

    pub rearranged : (r : Result Place StepFault) → Writes outs (out-Step step).path names before from to after r → IsExchanged facts outs before step after r
    rearranged (Ok place) w = (
      record {
        from = from;
        to = to;
        sides = instance-sides (out-Step step).forward left right instance;
        replaced = w.0;
        named = names-below facts args left right (outs + binders w.0.context) closed.are (omega (arith, least, w.2));
      },
      w.1,
    )
    rearranged (Err NoResult) w = (
      λ other t.
          let e = one-side (out-Step step).forward t.from t.to t.sides in
          let c = t.replaced.context in
          w.0 other (record {
            context = c;
            at_path = t.replaced.at_path;
            is_from = t.replaced.is_from ∙ ap (λ (x : U). filled c (closed_path x outs (binders c))) e.0;
            is_to = t.replaced.is_to ∙ ap (λ (x : U). filled c (closed_path x outs (binders c))) e.1;
          }) (omega (arith, least, below-names facts args left right (outs + binders c) closed.are t.named)),
      w.1,
    )
    rearranged (Err NoMemory) w = absurd w

-- ---- room for the names
module _ (args : List Arg) (sizes : Sizes) (room : ℕ) (l r : U) (are : args ≡ Term l ∷ Term r ∷ []) (is : sizes ≡ sizes_of (two_terms args)) where
  measured : sizes ≡ record { left_nodes = capped (nodes l); left_depth = capped (depth l); right_nodes = capped (nodes r); right_depth = capped (depth r) }
  unfolding measure_of
  measured = is ∙ rw are refl

  pub left-room : room + sizes.left_depth ≤ 4294967296 → room + depth (term_at args 0) ≤ 4294967296
  left-room h = rw are (omega (arith, ap (λ (s : Sizes). s.left_depth) measured, h))

  pub right-room : room + sizes.right_depth ≤ 4294967296 → room + depth (term_at args 1) ≤ 4294967296
  right-room h = rw are (omega (arith, ap (λ (s : Sizes). s.right_depth) measured, h))
