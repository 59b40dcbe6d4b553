-- What the factors cost that a product gains, and what a derivation between two products costs that gain each other's.
use Rattle.std.proofs.Common.{◌≡◌, ℕ, ◌+◌, ◌*◌, ◌≤◌, true, false, List, [], ◌∷◌, ◌++◌, length, Option, Some, None, refl, ap, sym, subst, ◌∙◌, arith}
use Rattle.std.specs.Prelude.{max, sum_by, count_by, slice_get, Result, Ok, Err, IfOk, IfSome, IsPermutation}
use Rattle.std.proofs.Math.Nat.{mul-le-mul_left}
use Rattle.std.proofs.lemmas.List.{length-append}
use Rattle.std.proofs.lemmas.List.Sums.{sum_by-cons, sum_by-append}
use Rattle.data_model.specs.Lists.{Each}
use Rattle.u_terms.specs.Syntax.{U, Zero, One, Add, Mul, Squash, Not, Sum, Rel, Eq, Pred, Val, constructors}
use Rattle.u_terms.specs.Size.{nodes, depth}
use Rattle.u_terms.specs.Products.{product_of}
use Rattle.u_terms.specs.declared.facts.Facts.{Facts}
use Rattle.u_rules.specs.Terms.{◌≐◌, P, neg, mul_leaves, terms}
use Rattle.u_moves.specs.Derivations.{Derivation, HasPlainSteps, IsStill, IsWithin}
use Rattle.u_deriv.specs.LineBounds.{IsPlain, lines_bound}
use Rattle.u_deriv.specs.declared.step.Step.{Step}
use Rattle.u_moves.proofs.derivations.Lines.{count-back, plain-back, plain-then}
use Rattle.u_moves.proofs.derivations.Plain.{joined-plain, still-plain}
use Rattle.u_congruence.specs.Congruence.{IsSequence}
use Rattle.u_equal.specs.Links.{is_equality}
use Rattle.u_equal.specs.Standing.{standing}
use Rattle.u_entail.specs.Carrying as carry
use Rattle.u_entail.specs.Carrying.{Carries, Follows, straight, exchanged, points}
use Rattle.u_entail.specs.Copies.{IsCopyAt}
use Rattle.u_entail.specs.Gaining.{Begins, IsAppended}
use Rattle.u_entail.specs.Marks as marks
use Rattle.u_entail.specs.Marks.{IsMark}
use Rattle.u_entail.specs.Small.{AreBasic, IsBasic}
use Rattle.u_entail.proofs.sizes.Bounds.{depth-row, depth-row-more, nodes-row-more}
use Rattle.u_entail.proofs.products.Lists.{each-append, each-parts}
use Rattle.normal_form.proofs.Lists.{each-last}
use Rattle.u_simple.specs.Steps.{IsOnePlainStep}
use Rattle.u_simple.proofs.Chosen.{each-permuted}
use Rattle.shapes.specs.Shapes.{Shape}
use Rattle.block_costs.specs.Costs.{equality_count, gaining_steps}
use Rattle.shape_entails.specs.Values.{is_atom}
use Rattle.shape_entails.proofs.Leaves.{atom-Eq, atom-Not, atom-Pred}
use Rattle.u_bag.specs.declared.gaining.Row.{Row}
use Rattle.u_bag.specs.Rows.{IsRowWith}
use Rattle.u_bag.specs.Costs.{FactorCosts, GainCosts, HasFactorsOf, IsBackward, IsOneStepAtMost, IsThreefold, KeepsProductCosts, MetCosts, RowCosts, gain_steps, of_facts, one_more, row_nodes, row_depth}
use Rattle.u_bag.proofs.costs.FactorsOf.{no-call, steps-equality, yes-Pred, yes-Not}
use Rattle.u_bag.proofs.costs.Numbers.{facts-all, others-less, ones, row-few}

-- both clauses of a call
pub both-ok : {X E : Type 0} (P Q R : X → Type 0) → ((x : X) → P x → Q x → R x) → (r : Result X E) → IfOk r P → IfOk r Q → IfOk r R
both-ok P Q R make (Ok x) p q = make x p q
both-ok P Q R make (Err e) p q = tt

pub if-some : {X : Type 0} (P Q : X → Type 0) → ((x : X) → P x → Q x) → (o : Option X) → IfSome o P → IfSome o Q
if-some P Q keeps None h = tt
if-some P Q keeps (Some x) h = keeps x h

-- ---- one factor
begins-basic : (product : U) (factors : List U) → Begins product factors → AreBasic factors → AreBasic (mul_leaves product)
begins-basic product factors b h = (each-parts (λ x. Each IsBasic (standing x)) (mul_leaves product) b.rest (subst AreBasic b.is h)).0

pub equality-costs : (F : Facts) (names : ℕ) (product : U) (factors : List U) (a b : Val) (o : Option Derivation) (d : Derivation) → Begins product factors → IsAppended F names product factors a b o → o ≡ Some d
    → AreBasic factors → FactorCosts product factors (a ≐ b) d
equality-costs F names product factors a b o d begins h is basic =
    let k = subst (λ (q : Option Derivation). IsAppended F names product factors a b q) is h in
    let few : length d.steps ≤ count_by is_equality (mul_leaves product) + 2 = k.short.steps (no-call product (begins-basic product factors begins basic)) in
    let lean = k.lean basic in
    record {
      steps = λ n less. omega (arith, few, less, steps-equality n a b);
      lean = record { nodes = let most = lean.nodes in omega (arith, most); depth = let most = lean.depth in omega (arith, most) };
      plain = k.leads.plain;
      no_atom = atom-Eq a b;
    }

equality-yes : (a b : Val) → is_equality (a ≐ b) ≡ true
unfolding constructors
equality-yes a b = refl

-- what follows from a mark is a mark
mark-no : (x : U) → IsMark x → is_equality x ≡ false
mark-no x (marks.holds symbol vs) = yes-Pred symbol vs
mark-no x (marks.fails y) = yes-Not y

carried-no : (product x y : U) → Carries product x y → is_equality x ≡ false → is_equality y ≡ false
carried-no product x y (carry.holds symbol xs ys each) e = yes-Pred symbol ys
carried-no product x y (carry.equal a b c d h k) e = absurd (let yes : true ≡ false = sym (equality-yes a b) ∙ e in grind (arith, yes))
carried-no product x y (carry.fails mark wanted h) e = yes-Not wanted

carried-no-atom : (product x y : U) → Carries product x y → is_atom y ≡ false
carried-no-atom product x y (carry.holds symbol xs ys each) = atom-Pred symbol ys
carried-no-atom product x y (carry.equal a b c d h k) = atom-Eq c d
carried-no-atom product x y (carry.fails mark wanted h) = atom-Not wanted

follows-no : (product mark wanted : U) → Follows product mark wanted → is_equality mark ≡ false → (is_equality wanted ≡ false) × (is_atom wanted ≡ false)
follows-no product mark wanted (straight x y h) e = (carried-no product x y h e, carried-no-atom product x y h)
follows-no product mark wanted (exchanged a b y h) e = (carried-no product (neg (b ≐ a)) y h (yes-Not (b ≐ a)), carried-no-atom product (neg (b ≐ a)) y h)

other-steps : (n : ℕ) (x : U) → is_equality x ≡ false → gain_steps n x ≡ length (points x) * n + 5
unfolding gain_steps
other-steps n Zero e = refl
other-steps n One e = refl
other-steps n (Add a b) e = refl
other-steps n (Mul a b) e = refl
other-steps n (Squash a) e = refl
other-steps n (Not a) e = refl
other-steps n (Sum body) e = refl
other-steps n (Rel table shape arguments) e = refl
other-steps n (Eq a b) e = absurd (grind (arith, e))
other-steps n (Pred symbol shape arguments) e = refl

pub mark-costs : (F : Facts) (names : ℕ) (product : U) (factors : List U) (place : ℕ) (mark wanted : U) (o : Option Derivation) (d : Derivation) → Begins product factors → slice_get factors place ≡ Some mark → IsMark mark
    → IsCopyAt F names product factors place wanted o → o ≡ Some d → AreBasic factors → FactorCosts product factors wanted d
mark-costs F names product factors place mark wanted o d begins at is_mark h is basic =
    let k = subst (λ (q : Option Derivation). IsCopyAt F names product factors place wanted q) is h mark at in
    let no = follows-no product mark wanted k.follows (mark-no mark is_mark) in
    let few : length d.steps ≤ length (points wanted) * count_by is_equality (mul_leaves product) + 5 = k.steps.short (no-call product (begins-basic product factors begins basic)) in
    record {
      steps = λ n less. omega (arith, few, mul-le-mul_left (length (points wanted)) less, other-steps n wanted no.0);
      lean = k.lean basic;
      plain = k.leads.plain;
      no_atom = no.1;
    }

-- ---- rows
-- one factor more
pub row-one : (product : U) (before row : Row) (step d : Derivation) (wanted : U) → IsSequence before.deriv step d → row.deriv ≡ d → terms row.factors.items ≡ terms before.factors.items ++ wanted ∷ []
    → (AreBasic (terms before.factors.items) → FactorCosts product (terms before.factors.items) wanted step) → AreBasic (terms row.factors.items) → RowCosts product before (wanted ∷ []) row
row-one product before row step d wanted joined deriv are costs basic =
    let k = costs (each-parts (λ x. Each IsBasic (standing x)) (terms before.factors.items) (wanted ∷ []) (subst AreBasic are basic)).0 in
    let lean = k.lean in
    record {
      steps = λ n less. let few = k.steps n less in
          omega (arith, few, ap (λ (x : Derivation). length x.steps) deriv, ap length joined.steps, length-append before.deriv.steps step.steps, sum_by-cons (gain_steps n) wanted []);
      nodes = let most = lean.nodes in let bounds = joined.bounds.nodes in omega (arith, most, bounds, ap (λ (x : Derivation). x.nodes) deriv, ap (λ (us : List U). nodes (product_of us)) are);
      depth = let most = lean.depth in let bounds = joined.bounds.depth in omega (arith, most, bounds, ap (λ (x : Derivation). x.depth) deriv, ap (λ (us : List U). depth (product_of us)) are);
      plain = λ plain. joined-plain before.deriv step row.deriv (ap (λ (x : Derivation). x.steps) deriv ∙ joined.steps) plain k.plain;
      no_atoms = (k.no_atom, tt);
    }

pub row-none : (product : U) (row : Row) → RowCosts product row [] row
row-none product row = record { steps = λ n less. omega arith; nodes = omega arith; depth = omega arith; plain = λ plain. plain; no_atoms = tt }

-- the first of those that are wanted, and then the others
pub row-then : (product : U) (before mid row : Row) (first : U) (rest : List U) → (AreBasic (terms mid.factors.items) → RowCosts product before (first ∷ []) mid) → terms row.factors.items ≡ terms mid.factors.items ++ rest
    → (AreBasic (terms row.factors.items) → RowCosts product mid rest row) → AreBasic (terms row.factors.items) → RowCosts product before (first ∷ rest) row
row-then product before mid row first rest one are others basic =
    let k = one (each-parts (λ x. Each IsBasic (standing x)) (terms mid.factors.items) rest (subst AreBasic are basic)).0 in
    let l = others basic in
    record {
      steps = λ n less. let few = k.steps n less in let more = l.steps n less in omega (arith, few, more, sum_by-cons (gain_steps n) first rest, sum_by-cons (gain_steps n) first []);
      nodes = let most = k.nodes in let last = l.nodes in omega (arith, most, last, ap (λ (us : List U). nodes (product_of us)) are, nodes-row-more (terms mid.factors.items) rest);
      depth = let most = k.depth in let last = l.depth in omega (arith, most, last, ap (λ (us : List U). depth (product_of us)) are, depth-row-more (terms mid.factors.items) rest);
      plain = λ plain. l.plain (k.plain plain);
      no_atoms = (k.no_atoms.0, l.no_atoms);
    }

abbrev pub KeepsRowCosts : U → Row → List U → Option Row → Type 0
KeepsRowCosts product before wanted o = IfSome o (λ row. AreBasic (terms row.factors.items) → RowCosts product before wanted row)

pub all-costs : (F : Facts) (names : ℕ) (product : U) (before : Row) (wanted rest : List U) (first : U) (mid : Row) → wanted ≡ first ∷ rest → (o : Option Row) → o ≡ Some mid → KeepsRowCosts product before (first ∷ []) o
    → (last : Option Row) → IsRowWith F names product (terms mid.factors.items) rest last → KeepsRowCosts product mid rest last → KeepsRowCosts product before wanted last
all-costs F names product before wanted rest first mid is o there one None leads costs = tt
all-costs F names product before wanted rest first mid is o there one (Some row) leads costs = λ basic.
    subst (λ (us : List U). RowCosts product before us row) (sym is)
    (row-then product before mid row first rest (subst (KeepsRowCosts product before (first ∷ [])) there one) leads.are costs basic)

-- a row to which one step leads at most, and then the wanted factors
pub row-gains-costs : (product : U) (first row : Row) (wanted : List U) → IsOneStepAtMost product (product_of (mul_leaves product)) first.deriv → terms row.factors.items ≡ mul_leaves product ++ wanted
    → (AreBasic (terms row.factors.items) → RowCosts product first wanted row) → AreBasic (mul_leaves product ++ wanted) → GainCosts product wanted row.deriv
row-gains-costs product first row wanted one are costs basic =
    let k = costs (subst AreBasic (sym are) basic) in
    record {
      steps = λ n less. let few = k.steps n less in let start = one.steps in omega (arith, few, start);
      nodes = let most = k.nodes in let start = one.nodes in omega (arith, most, start, ap (λ (us : List U). nodes (product_of us)) are, nodes-row-more (mul_leaves product) wanted);
      depth = let most = k.depth in let start = one.depth in omega (arith, most, start, ap (λ (us : List U). depth (product_of us)) are, depth-row-more (mul_leaves product) wanted);
      plain = k.plain one.plain;
      no_atoms = k.no_atoms;
    }

abbrev pub KeepsGainCosts : U → List U → Option Derivation → Type 0
KeepsGainCosts product wanted o = IfSome o (λ d. AreBasic (mul_leaves product ++ wanted) → GainCosts product wanted d)

pub nothing-costs : (F : Facts) (names : ℕ) (product : U) (d : Derivation) → IsStill F names product d → GainCosts product [] d
nothing-costs F names product d h = record {
  steps = λ n less. let none = ap length h.steps in omega (arith, none);
  nodes = let same = h.nodes in omega (arith, same);
  depth = let same = h.depth in omega (arith, same);
  plain = still-plain d h.steps;
  no_atoms = tt;
}

-- ---- the step between, and the way back
pub threefold : (first between mid last d : Derivation) → IsSequence first between mid → IsSequence mid last d → IsThreefold first between last d
threefold first between mid last d one two = record {
  steps = two.steps ∙ ap (λ (xs : List Step). xs ++ last.steps) one.steps;
  nodes = let inner = one.bounds.nodes in let outer = two.bounds.nodes in omega (arith, inner, outer);
  depth = let inner = one.bounds.depth in let outer = two.bounds.depth in omega (arith, inner, outer);
}

pub no-step : (F : Facts) (names : ℕ) (first last : U) (d : Derivation) → IsStill F names first d → IsOneStepAtMost first last d
no-step F names first last d h = record {
  steps = let none = ap length h.steps in omega (arith, none);
  nodes = let same = h.nodes in omega (arith, same);
  depth = let same = h.depth in omega (arith, same);
  bytes = let none = ap lines_bound h.steps in omega (arith, none);
  plain = still-plain d h.steps;
}

pub one-step : (first last : U) (d : Derivation) → IsOnePlainStep first last d → IsOneStepAtMost first last d
one-step first last d h = record {
  steps = let one = h.steps in omega (arith, one);
  nodes = let same = h.nodes in omega (arith, same);
  depth = let same = h.depth in omega (arith, same);
  bytes = let same = h.bytes in omega (arith, same);
  plain = h.plain;
}

pub met-costs : (first last : U) (down between up back d : Derivation) → IsOneStepAtMost first last between → IsWithin down.nodes down.depth first → IsWithin up.nodes up.depth last → IsBackward up back
    → IsThreefold down between back d → MetCosts down up d
met-costs first last down between up back d one from to turned all = record {
  steps = let few = one.steps in
      omega (
        arith,
        few,
        ap length all.steps,
        length-append (down.steps ++ between.steps) back.steps,
        length-append down.steps between.steps,
        ap length turned.steps,
        count-back up.steps,
      );
  nodes = let bounds = all.nodes in let most = one.nodes in let same = turned.nodes in let f = from.few in let t = to.few in omega (arith, bounds, most, same, f, t);
  depth = let bounds = all.depth in let most = one.depth in let same = turned.depth in let f = from.shallow in let t = to.shallow in omega (arith, bounds, most, same, f, t);
  plain = λ p q.
      subst (Each IsPlain) (sym all.steps)
      (plain-then (down.steps ++ between.steps) back.steps (plain-then down.steps between.steps p one.plain) (subst (Each IsPlain) (sym turned.steps) (plain-back up.steps q)));
}

-- ---- two products
-- what both have in common, and what each has beside that
module _ (left right : U) (common only_left only_right : List U) (left_is : IsPermutation (mul_leaves left) (common ++ only_left)) (right_is : IsPermutation (mul_leaves right) (common ++ only_right))
    (s t : Shape) (of_left : HasFactorsOf s left) (of_right : HasFactorsOf t right) where
  -- what holds of each factor of the other product holds of those that it has alone
  right-each : (Q : U → Type 0) → Each Q (mul_leaves right) → Each Q only_right
  right-each Q each = each-last Q common only_right (each-permuted Q (mul_leaves right) (common ++ only_right) right_is each)

  -- those that are gained, by what the other shape says
  facts-most : (f : U → ℕ) → Each (λ x. is_atom x ≡ false) only_right → sum_by f only_right ≤ sum_by (of_facts f) (mul_leaves right)
  facts-most f none = omega (arith, facts-all f only_right none, others-less (of_facts f) (mul_leaves right) common only_right right_is)

  gained-basic : AreBasic (mul_leaves left ++ only_right)
  gained-basic = each-append (λ x. Each IsBasic (standing x)) (mul_leaves left) only_right of_left.basic (right-each (λ x. Each IsBasic (standing x)) of_right.basic)

  record GainsWithin (d : Derivation) : Type 0 where
    steps : length d.steps ≤ gaining_steps s t
    nodes : d.nodes ≤ max (nodes left) (row_nodes s t + 2)
    depth : d.depth ≤ max (depth left) (row_depth s t + 1)
    plain : HasPlainSteps d

  gains-within : (d : Derivation) → (AreBasic (mul_leaves left ++ only_right) → GainCosts left only_right d) → GainsWithin d
  gains-within d costs =
      let k = costs gained-basic in
      record {
        steps = let few = k.steps (equality_count s) of_left.equalities in
            let all = of_right.steps_of_facts (equality_count s) in
            omega (arith, few, all, facts-most (gain_steps (equality_count s)) k.no_atoms);
        nodes = let most = k.nodes in
            let all = of_left.nodes in
            let more = of_right.nodes_of_facts in
            omega (arith, most, all, more, row-few (mul_leaves left ++ only_right), sum_by-append one_more (mul_leaves left) only_right, facts-most one_more k.no_atoms);
        depth = let most = k.depth in
            let all = of_left.many in
            let more = of_right.facts in
            omega (
              arith,
              most,
              all,
              more,
              depth-row 3 (mul_leaves left ++ only_right) (omega arith) (each-append (λ x. depth x ≤ 3) (mul_leaves left) only_right of_left.shallow (right-each (λ x. depth x ≤ 3) of_right.shallow)),
              length-append (mul_leaves left) only_right,
              facts-most (λ x. 1) k.no_atoms,
              ones only_right,
            );
        plain = k.plain;
      }

pub products-cost : (left right : U) (common only_left only_right : List U) → IsPermutation (mul_leaves left) (common ++ only_left) → IsPermutation (mul_leaves right) (common ++ only_right) → (down up d : Derivation)
    → (AreBasic (mul_leaves left ++ only_right) → GainCosts left only_right down) → (AreBasic (mul_leaves right ++ only_left) → GainCosts right only_left up) → MetCosts down up d → KeepsProductCosts left right d
products-cost left right common only_left only_right left_is right_is down up d k l met = record {
  by = λ s t of_left of_right.
      let p = gains-within left right common only_left only_right left_is right_is s t of_left of_right down k in
      let q = gains-within right left common only_right only_left right_is left_is t s of_right of_left up l in
      record {
        steps = let few = met.steps in let one = p.steps in let other = q.steps in omega (arith, few, one, other);
        nodes = λ n a b c e. let few = met.nodes in let one = p.nodes in let other = q.nodes in omega (arith, few, one, other, a, b, c, e);
        depth = λ n a b c e. let few = met.depth in let one = p.depth in let other = q.depth in omega (arith, few, one, other, a, b, c, e);
        plain = met.plain p.plain q.plain;
      };
}
