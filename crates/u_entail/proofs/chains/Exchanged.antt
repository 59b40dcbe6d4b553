-- One step by an equality among the factors, and the whole with its two ends.
use Rattle.std.proofs.Common.{◌≡◌, ℕ, ◌+◌, Bool, true, false, List, length, take, drop, get_or, ap, sym, ◌∙◌, subst, arith}
use Rattle.std.specs.Prelude.{Some, IfOk, Result, Ok, Err, slice_get}
use Rattle.std.proofs.lemmas.Option.{same_Some}
use Rattle.data_model.specs.Lists.{Each}
use Rattle.u_terms.specs.Syntax.{U, Val}
use Rattle.u_terms.specs.Places.{IsClosed}
use Rattle.u_terms.specs.Size.{nodes, depth}
use Rattle.u_terms.specs.declared.facts.Facts.{Facts}
use Rattle.u_terms.proofs.Closedness.{opened_with-closed}
use Rattle.u_rules.specs.declared.rule.Arg.{Arg}
use Rattle.u_rules.specs.declared.rule.Rule.TheVariants as rule
use denote.Ref.{Bor}
use Rattle.u_rules.specs.Terms.{◌⊗◌, ◌≐◌, put, terms}
use Rattle.u_moves.specs.Derivations.{Derivation, IsKnown, IsOneStep}
use Rattle.u_moves.specs.Moving.{root_step, IsKnownValue}
use Rattle.u_equal.proofs.products.KeyLaws.{sides-Eq}
use Rattle.u_entail.specs.Sides.{AreFactors, HasSide}
use Rattle.u_moves.specs.Turning.{turned_back}
use Rattle.u_moves.proofs.derivations.Lines.{count-back}
use Rattle.u_entail.specs.Following.{IsExchange, Exchanges}
use Rattle.u_entail.specs.Spines.{spine}
use Rattle.u_moves.proofs.derivations.Plain.{back-plain, move-plain}
use Rattle.u_entail.proofs.copies.Doubled.{term-at}
use Rattle.u_entail.proofs.products.Spines.{put-spine}
use Rattle.u_entail.proofs.products.Lists.{each-at, each-drop, each-weaker}
use Rattle.u_entail.proofs.products.Parts.{spine-split, left-known, right-known, mul-closed, spine-known, all-closed, wider-known}

module _ (facts : Facts) (outs : ℕ) (factors : List U) (ready : AreFactors outs factors) (body : U) (known : IsKnown 1 outs body) (factor : ℕ) (a b : Val)
    (at : slice_get factors factor ≡ Some (a ≐ b)) where
  abbrev rest : List U
  rest = drop (factor + 1) factors

  abbrev front : List U
  front = take factor factors

  equality-known : IsKnown 0 outs (a ≐ b)
  equality-known = each-at (IsKnown 0 outs) factors factor (a ≐ b) ready.known at

  pub side-known : IsKnownValue outs a × IsKnownValue outs b
  side-known = (left-known outs a b equality-known, right-known outs a b equality-known)

  rest-known : Each (IsKnown 0 outs) rest
  rest-known = each-drop (IsKnown 0 outs) factors (factor + 1) ready.known

  pub body-known : (f : U) → f ≡ spine rest body → IsKnown 1 outs f
  body-known f is =
      subst (IsKnown 1 outs) (sym is) (spine-known outs 1 rest body (each-weaker (IsKnown 0 outs) (IsKnown 1 outs) (λ x k. wider-known outs x k) rest rest-known) known)

  whole-with : (c : Val) (f : U) → f ≡ spine rest body → spine factors (put c body) ≡ spine front ((a ≐ b) ⊗ put c f)
  whole-with c f is =
      spine-split factors factor (a ≐ b) (put c body) at
      ∙ ap (λ (t : U). spine front ((a ≐ b) ⊗ t)) (sym (put-spine c rest body (all-closed outs rest rest-known)) ∙ ap (λ (t : U). put c t) (sym is))

  closed-with : (c : Val) (f : U) → f ≡ spine rest body → IsKnownValue outs c → IsClosed 0 ((a ≐ b) ⊗ put c f)
  closed-with c f is k = let g = body-known f is in mul-closed (a ≐ b) (put c f) equality-known.closed (opened_with-closed f c k.closed g.closed)

  pub exchange-made : (f : U) → f ≡ spine rest body → (args : List Arg) (d : Derivation)
      → IsOneStep facts outs ((a ≐ b) ⊗ put a f) (root_step rule.EqSubst args) ((a ≐ b) ⊗ put b f) d → IsExchange facts outs factors factor (put a body) (put b body) d
  exchange-made f is args d one = record {
    facts = one.facts;
    outs = one.outs;
    from = whole-with a f is ∙ ap (λ (t : U). spine front t) (sym one.from);
    to = whole-with b f is ∙ ap (λ (t : U). spine front t) (sym one.to);
    closed_from = subst (IsClosed 0) (sym one.from) (closed-with a f is side-known.0);
    closed_to = subst (IsClosed 0) (sym one.to) (closed-with b f is side-known.1);
    steps = ap length one.steps;
    nodes = omega (arith, one.nodes, ap nodes one.from, ap nodes one.to);
    depth = omega (arith, one.depth, ap depth one.from, ap depth one.to);
    plain = move-plain rule.EqSubst args d (λ e. cc) (λ e. cc) one.steps;
  }

  -- the same of values that are equal
  pub exchange-by : (a' b' : Val) → a' ≡ a → b' ≡ b → (f : U) → f ≡ spine rest body → (args : List Arg) (d : Derivation)
      → IsOneStep facts outs ((a' ≐ b') ⊗ put a' f) (root_step rule.EqSubst args) ((a' ≐ b') ⊗ put b' f) d → IsExchange facts outs factors factor (put a body) (put b body) d
  exchange-by a' b' ea eb f is args d one =
      exchange-made f is args d
      (subst (λ (x : Val). IsOneStep facts outs ((x ≐ b) ⊗ put x f) (root_step rule.EqSubst args) ((x ≐ b) ⊗ put b f) d) ea
      (subst (λ (y : Val). IsOneStep facts outs ((a' ≐ y) ⊗ put a' f) (root_step rule.EqSubst args) ((a' ≐ y) ⊗ put y f) d) eb one))

-- ---- in the direction of the hop
same-sides : (factors : List U) (factor : ℕ) (a b x y : Val) → slice_get factors factor ≡ Some (a ≐ b) → slice_get factors factor ≡ Some (x ≐ y) → (a ≡ x) × (b ≡ y)
same-sides factors factor a b x y p q = sides-Eq a b x y (same_Some (a ≐ b) (x ≐ y) (sym p ∙ q))

exchange-back : (F : Facts) (names : ℕ) (factors : List U) (factor : ℕ) (first last : U) (part d : Derivation) → IsExchange F names factors factor first last part → d.facts ≡ part.facts → d.outs ≡ part.outs
    → d.from ≡ part.to → d.to ≡ part.from → d.steps ≡ turned_back part.steps → d.nodes ≡ part.nodes → d.depth ≡ part.depth → IsExchange F names factors factor last first d
exchange-back F names factors factor first last part d ex facts outs from to steps many deep = record {
  facts = facts ∙ ex.facts;
  outs = outs ∙ ex.outs;
  from = ex.to ∙ ap (λ (t : U). spine (take factor factors) t) (sym from);
  to = ex.from ∙ ap (λ (t : U). spine (take factor factors) t) (sym to);
  closed_from = subst (IsClosed 0) (sym from) ex.closed_to;
  closed_to = subst (IsClosed 0) (sym to) ex.closed_from;
  steps = ap length steps ∙ count-back part.steps ∙ ex.steps;
  nodes = omega (arith, many, ex.nodes, ap nodes from, ap nodes to);
  depth = omega (arith, deep, ex.depth, ap depth from, ap depth to);
  plain = back-plain part d steps ex.plain;
}

module _ (F : Facts) (names : ℕ) (factors : List U) (factor : ℕ) (a b : Val) (at : slice_get factors factor ≡ Some (a ≐ b)) (body : U) (part : Derivation)
    (ex : IsExchange F names factors factor (put a body) (put b body) part) where
  pub exchanged-forth : (turned : Bool) → turned ≡ false → Exchanges F names factors factor turned body part
  exchanged-forth false e = record {
    each = λ x y is.
        let s = same-sides factors factor a b x y at is in
        subst (λ (v : Val). IsExchange F names factors factor (put v body) (put y body) part) s.0 (subst (λ (w : Val). IsExchange F names factors factor (put a body) (put w body) part) s.1 ex);
  }
  exchanged-forth true e = absurd cc

  back-at : (d : Derivation) → IsExchange F names factors factor (put b body) (put a body) d → Exchanges F names factors factor true body d
  back-at d turned = record {
    each = λ x y is.
        let s = same-sides factors factor a b y x at is in
        subst (λ (v : Val). IsExchange F names factors factor (put v body) (put y body) d) s.1 (subst (λ (w : Val). IsExchange F names factors factor (put b body) (put w body) d) s.0 turned);
  }

  pub exchanged-back : {E : Type 0} (turned : Bool) → turned ≡ true → (r : Result Derivation E) → IfOk r (λ d. d.facts ≡ part.facts) → IfOk r (λ d. d.outs ≡ part.outs) → IfOk r (λ d. d.from ≡ part.to)
      → IfOk r (λ d. d.to ≡ part.from) → IfOk r (λ d. d.steps ≡ turned_back part.steps) → IfOk r (λ d. d.nodes ≡ part.nodes) → IfOk r (λ d. d.depth ≡ part.depth) → IfOk r (Exchanges F names factors factor turned body)
  exchanged-back true e (Ok d) facts outs from to steps many deep = back-at d (exchange-back F names factors factor (put a body) (put b body) part d ex facts outs from to steps many deep)
  exchanged-back true e (Err fault) facts outs from to steps many deep = tt
  exchanged-back false e r facts outs from to steps many deep = absurd cc

-- the equality that code takes from among the factors
pub equality-at : (refs : List (Bor U)) (factor : ℕ) (turned : Bool) → ((a : Val) × HasSide (terms refs) factor turned a) → (r : Bor U) (a b : Val) → (get_or refs factor r).now ≡ (a ≐ b) → slice_get (terms refs) factor ≡ Some (a ≐ b)
equality-at refs factor false side r a b e = let h = side.1 in h.is ∙ ap Some (sym (term-at refs factor r (side.0 ≐ h.to) h.is) ∙ e)
equality-at refs factor true side r a b e = let h = side.1 in h.is ∙ ap Some (sym (term-at refs factor r (h.to ≐ side.0) h.is) ∙ e)
