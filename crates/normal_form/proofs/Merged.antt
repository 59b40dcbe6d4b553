-- The kinds of factors in groups.
use Rattle.std.proofs.Common.{◌≡◌, ◌≤◌, Bool, true, false, cond, List, [], ◌∷◌, ◌++◌, length, Some, refl, ap, ◌∙◌, arith}
use Rattle.std.proofs.lemmas.List.{append-nil, append_assoc}
use Rattle.std.proofs.lemmas.List.Elements.{filter-append}
use Rattle.data_model.specs.Lists.{Each}
use Rattle.u_terms.specs.declared.term.U.TheVariants as u
use Rattle.u_terms.specs.Syntax.{U}
use Rattle.u_terms.specs.Products.{product_of}
use Rattle.u_rules.specs.Terms.{mul_leaves}
use Rattle.u_rules.proofs.multisets.LeavesAt.{mul_leaves-Mul}
use Rattle.normal_form.specs.declared.kind.Kind.{Kind}
use Rattle.normal_form.specs.declared.kind.Kind.TheVariants.{Mark, Atom, Squash, Negation}
use Rattle.normal_form.specs.Kinds.{kind_of, is_kind, of_kind, ordered}
use Rattle.normal_form.specs.NormalTerms.{AreFactors, no_factor, factor_then}
use Rattle.normal_form.proofs.Lists.{each-append, each-filter}
use Rattle.normal_form.proofs.Leaves.{IsMulLeaf, each-mul_leaf, mul_leaves-row}
use Rattle.normal_form.proofs.Ordered.{kind-of_factor, first-of_kind}

-- ---- of one kind
own-kind : (k : Kind) → is_kind k (Some k) ≡ true
own-kind Mark = refl
own-kind Atom = refl
own-kind Squash = refl
own-kind Negation = refl

of_kind-own : (k : Kind) (us : List U) → AreFactors k us → of_kind k us ≡ us
of_kind-own k us no_factor = refl
of_kind-own k us (factor_then {factor = t} {rest = rest} h hs) =
    first-of_kind k k t rest (kind-of_factor k t h) ∙ ap (λ (b : Bool). cond b (t ∷ of_kind k rest) (of_kind k rest)) (own-kind k) ∙ ap (λ (vs : List U). t ∷ vs) (of_kind-own k rest hs)

of_kind-other : (k other : Kind) (us : List U) → is_kind other (Some k) ≡ false → AreFactors k us → of_kind other us ≡ []
of_kind-other k other us e no_factor = refl
of_kind-other k other us e (factor_then {factor = t} {rest = rest} h hs) =
    first-of_kind other k t rest (kind-of_factor k t h) ∙ ap (λ (b : Bool). cond b (t ∷ of_kind other rest) (of_kind other rest)) e ∙ of_kind-other k other rest e hs

-- ---- in groups
of_groups : (k : Kind) (ms rs ss ns : List U) → of_kind k ((ms ++ rs) ++ (ss ++ ns)) ≡ (of_kind k ms ++ of_kind k rs) ++ (of_kind k ss ++ of_kind k ns)
of_groups k ms rs ss ns =
    filter-append (λ t. is_kind k (kind_of t)) (ms ++ rs) (ss ++ ns)
    ∙ ap (λ (us : List U). us ++ of_kind k (ss ++ ns)) (filter-append (λ t. is_kind k (kind_of t)) ms rs)
    ∙ ap (λ (us : List U). (of_kind k ms ++ of_kind k rs) ++ us) (filter-append (λ t. is_kind k (kind_of t)) ss ns)

module _ (ms rs ss ns : List U) (hm : AreFactors Mark ms) (ha : AreFactors Atom rs) (hs : AreFactors Squash ss) (hn : AreFactors Negation ns) where
  squashes-are : of_kind Squash ((ms ++ rs) ++ (ss ++ ns)) ≡ ss
  squashes-are =
      of_groups Squash ms rs ss ns
      ∙ ap (λ (us : List U). (us ++ of_kind Squash rs) ++ (of_kind Squash ss ++ of_kind Squash ns)) (of_kind-other Mark Squash ms refl hm)
      ∙ ap (λ (us : List U). us ++ (of_kind Squash ss ++ of_kind Squash ns)) (of_kind-other Atom Squash rs refl ha)
      ∙ ap (λ (us : List U). us ++ of_kind Squash ns) (of_kind-own Squash ss hs)
      ∙ ap (λ (us : List U). ss ++ us) (of_kind-other Negation Squash ns refl hn)
      ∙ append-nil ss

  negations-are : of_kind Negation ((ms ++ rs) ++ (ss ++ ns)) ≡ ns
  negations-are =
      of_groups Negation ms rs ss ns
      ∙ ap (λ (us : List U). (us ++ of_kind Negation rs) ++ (of_kind Negation ss ++ of_kind Negation ns)) (of_kind-other Mark Negation ms refl hm)
      ∙ ap (λ (us : List U). us ++ (of_kind Negation ss ++ of_kind Negation ns)) (of_kind-other Atom Negation rs refl ha)
      ∙ ap (λ (us : List U). us ++ of_kind Negation ns) (of_kind-other Squash Negation ss refl hs)
      ∙ of_kind-own Negation ns hn

  pub few-squashes : length ss ≤ 1 → length (of_kind Squash ((ms ++ rs) ++ (ss ++ ns))) ≤ 1
  few-squashes h = omega (arith, ap length squashes-are)

  pub few-negations : length ns ≤ 1 → length (of_kind Negation ((ms ++ rs) ++ (ss ++ ns))) ≤ 1
  few-negations h = omega (arith, ap length negations-are)

-- ---- the leaves of a product in groups
module _ (t : U) where
  each-of_kind : (k : Kind) → Each IsMulLeaf (of_kind k (mul_leaves t))
  each-of_kind k = each-filter IsMulLeaf (λ x. is_kind k (kind_of x)) (mul_leaves t) (each-mul_leaf t)

  pub plain-leaves : mul_leaves (product_of (of_kind Mark (mul_leaves t) ++ of_kind Atom (mul_leaves t))) ≡ of_kind Mark (mul_leaves t) ++ of_kind Atom (mul_leaves t)
  plain-leaves = mul_leaves-row _ (each-append IsMulLeaf _ _ (each-of_kind Mark) (each-of_kind Atom))

  pub kind-leaves : (k : Kind) → mul_leaves (product_of (of_kind k (mul_leaves t))) ≡ of_kind k (mul_leaves t)
  kind-leaves k = mul_leaves-row _ (each-of_kind k)

  pub groups-leaves : (a b c : U) → a ≡ product_of (of_kind Mark (mul_leaves t) ++ of_kind Atom (mul_leaves t)) → b ≡ product_of (of_kind Squash (mul_leaves t)) → c ≡ product_of (of_kind Negation (mul_leaves t))
      → mul_leaves (u.Mul a (u.Mul b c)) ≡ ordered (mul_leaves t)
  groups-leaves a b c ea eb ec =
      mul_leaves-Mul a (u.Mul b c)
      ∙ ap (λ (us : List U). us ++ mul_leaves (u.Mul b c)) (ap mul_leaves ea ∙ plain-leaves)
      ∙ ap (λ (us : List U). (of_kind Mark (mul_leaves t) ++ of_kind Atom (mul_leaves t)) ++ us)
      (mul_leaves-Mul b c ∙ ap (λ (us : List U). us ++ mul_leaves c) (ap mul_leaves eb ∙ kind-leaves Squash) ∙ ap (λ (us : List U). of_kind Squash (mul_leaves t) ++ us) (ap mul_leaves ec ∙ kind-leaves Negation))
      ∙ append_assoc (of_kind Mark (mul_leaves t)) (of_kind Atom (mul_leaves t)) (of_kind Squash (mul_leaves t) ++ of_kind Negation (mul_leaves t))
