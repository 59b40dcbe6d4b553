-- A product's factors by their kinds say what they say in their order.
use Rattle.std.proofs.Common.{◌≡◌, ℕ, ◌+◌, Bool, true, false, List, [], ◌∷◌, ◌++◌, length, Option, Some, None, refl, ap, sym, ◌∙◌, append_assoc}
use Rattle.std.specs.Prelude.{option_map, option_and_then, if◌then◌else◌}
use Rattle.std.specs.List.{list_all}
use Rattle.std.proofs.lemmas.List.{append-nil}
use Rattle.data_model.specs.Lists.{Each}
use Rattle.u_terms.specs.Syntax.{U, Zero, One, Add, Mul, Squash as SquashOf, Not as NotOf, Sum, Rel, Eq, Pred, Val, Bound, Free, Lit, Fun, Agg, Vals, NoVals, ValThen}
use Rattle.u_terms.specs.Products.{product_of}
use Rattle.u_rules.specs.Terms.{mul_leaves}
use Rattle.normal_form.specs.declared.kind.Kind.TheVariants.{Mark, Atom, Squash, Negation}
use Rattle.normal_form.specs.Kinds.{is_truth, kind_of, of_kind, ordered}
use Rattle.normal_form.specs.NormalTerms.{IsNormalValue, AreNormalValues, equality as is_equality, predicate, no_equality, no_predicate, relation, bound, free, literal, no_value, value_then}
use Rattle.normal_form.specs.LooseTerms.{IsSomeFactor}
use Rattle.normal_form.proofs.Lists.{each-append}
use Rattle.normal_form.proofs.Leaves.{leaves-in_order}
use Rattle.shapes.specs.Options.{both_of}
use Rattle.shapes.specs.Shapes.{Point, Shape}
use Rattle.term_shapes.specs.Factors.{Factor, atom, equality, difference, truth, falsehood, listed, negated, factors}
use Rattle.term_shapes.specs.TermShape.{folded, Points, placed, Atoms, with_atom, no_atoms, value_point, value_points, Said, nothing_said, with_equality, said_output, said_equality, with_factor, all_points, shape_said, shape_of_atoms, product_shape, has_point}
use Rattle.term_shapes.proofs.Reading.{folded-append}

-- ---- folds that go
-- what comes first, where all goes
pub record GoesBy {X Y : Type 0} (f : X → Option Y) (o : Option X) (y : Y) : Type 0 where
  pub first : X
  pub is : o ≡ Some first
  pub goes : f first ≡ Some y

pub goes-by : {X Y : Type 0} (f : X → Option Y) (o : Option X) (y : Y) → option_and_then f o ≡ Some y → GoesBy f o y
goes-by f None y e = absurd (cc)
goes-by f (Some x) y e = record { first = x; is = refl; goes = e }

pub record IsMapped {X : Type 0} (o : Option X) : Type 0 where
  pub first : X
  pub is : o ≡ Some first

mapped-by : {X Y : Type 0} (f : X → Y) (o : Option X) (y : Y) → option_map f o ≡ Some y → IsMapped o
mapped-by f None y e = absurd (cc)
mapped-by f (Some x) y e = record { first = x; is = refl }

pub record AreBoth {X Y : Type 0} (o : Option X) (p : Option Y) : Type 0 where
  pub left : X
  pub right : Y
  pub left_is : o ≡ Some left
  pub right_is : p ≡ Some right

both-by : {X Y Z : Type 0} (f : X → Y → Z) (o : Option X) (p : Option Y) (z : Z) → both_of f o p ≡ Some z → AreBoth o p
both-by f None None z e = absurd (cc)
both-by f None (Some y) z e = absurd (cc)
both-by f (Some x) None z e = absurd (cc)
both-by f (Some x) (Some y) z e = record { left = x; right = y; left_is = refl; right_is = refl }

and-then-same : {X Y : Type 0} (f g : X → Option Y) (o : Option X) → ((x : X) → f x ≡ g x) → option_and_then f o ≡ option_and_then g o
and-then-same f g None h = refl
and-then-same f g (Some x) h = h x

-- ---- what factors may be
-- a factor that says something of a block
pub data Says : U → Type 0 where
  of_relation : {table : ℕ} {shape : _} {arguments : _} → Says (Rel table shape arguments)
  of_equality : {a b : Val} → Says (Eq a b)
  of_predicate : {symbol : ℕ} {shape : _} {arguments : _} → Says (Pred symbol shape arguments)
  of_no_equality : {a b : Val} → Says (NotOf (Eq a b))
  of_no_predicate : {symbol : ℕ} {shape : _} {arguments : _} → Says (NotOf (Pred symbol shape arguments))

pub record IsSaying (x : U) : Type 0 where
  pub says : Says x
  pub normal : IsSomeFactor x

-- ---- values that are points
point-normal : (points : Points) (value : Val) (p : Point) → value_point points value ≡ Some p → IsNormalValue value
point-normal points (Bound place) p e = bound
point-normal points (Free name) p e = free
point-normal points (Lit number) p e = literal
point-normal points (Fun symbol shape arguments) p e = absurd (cc)
point-normal points (Agg number body) p e = absurd (cc)

points-normal : {n : _} (points : Points) (row : Vals n) (ps : List Point) → value_points points (listed row) ≡ Some ps → AreNormalValues n row
points-normal points NoVals ps e = no_value
points-normal points (ValThen value rest) ps e =
    let both = both-by (λ p qs. p ∷ qs) (value_point points value) (value_points points (listed rest)) ps e in
    value_then (point-normal points value both.left both.left_is) (points-normal points rest both.right both.right_is)

placed-normal : {n : _} (e c : ℕ) (row : Vals n) (points after : Points) → placed e c (listed row) points ≡ Some after → AreNormalValues n row
placed-normal e c NoVals points after h = no_value
placed-normal e c (ValThen (Bound place) rest) points after h =
    let by = goes-by (placed e (c + 1) (listed rest)) _ after h in
    value_then bound (placed-normal e (c + 1) rest by.first after by.goes)
placed-normal e c (ValThen (Free name) rest) points after h = absurd (cc)
placed-normal e c (ValThen (Lit number) rest) points after h = absurd (cc)
placed-normal e c (ValThen (Fun symbol shape arguments) rest) points after h = absurd (cc)
placed-normal e c (ValThen (Agg number body) rest) points after h = absurd (cc)

output-normal : (points : Points) (said t : Said) (name : ℕ) (value : Val) → said_output points said name value ≡ Some t → IsNormalValue value
output-normal points said t name value e = let by = goes-by _ (value_point points value) t e in point-normal points value by.first by.is

pub record AreNormalSides (a b : Val) : Type 0 where
  pub left : IsNormalValue a
  pub right : IsNormalValue b

sides-normal : (points : Points) (said t : Said) (a b : Val) → both_of (with_equality said) (value_point points a) (value_point points b) ≡ Some t → AreNormalSides a b
sides-normal points said t a b e =
    let both = both-by (with_equality said) (value_point points a) (value_point points b) t e in
    record { left = point-normal points a both.left both.left_is; right = point-normal points b both.right both.right_is }

equality-normal : (points : Points) (said t : Said) (a b : Val) → said_equality points said a b ≡ Some t → AreNormalSides a b
equality-normal points said t (Free name) b e = record { left = free; right = output-normal points said t name b e }
equality-normal points said t (Bound i) (Free name) e = record { left = bound; right = free }
equality-normal points said t (Bound i) (Bound j) e = record { left = bound; right = bound }
equality-normal points said t (Bound i) (Lit m) e = record { left = bound; right = literal }
equality-normal points said t (Bound i) (Fun g shape arguments) e = sides-normal points said t (Bound i) (Fun g shape arguments) e
equality-normal points said t (Bound i) (Agg g body) e = sides-normal points said t (Bound i) (Agg g body) e
equality-normal points said t (Lit n) (Free name) e = record { left = literal; right = free }
equality-normal points said t (Lit n) (Bound j) e = record { left = literal; right = bound }
equality-normal points said t (Lit n) (Lit m) e = record { left = literal; right = literal }
equality-normal points said t (Lit n) (Fun g shape arguments) e = sides-normal points said t (Lit n) (Fun g shape arguments) e
equality-normal points said t (Lit n) (Agg g body) e = sides-normal points said t (Lit n) (Agg g body) e
equality-normal points said t (Fun f shape arguments) (Free name) e = record { left = output-normal points said t name (Fun f shape arguments) e; right = free }
equality-normal points said t (Fun f shape arguments) (Bound j) e = sides-normal points said t (Fun f shape arguments) (Bound j) e
equality-normal points said t (Fun f shape arguments) (Lit m) e = sides-normal points said t (Fun f shape arguments) (Lit m) e
equality-normal points said t (Fun f shape arguments) (Fun g more values) e = sides-normal points said t (Fun f shape arguments) (Fun g more values) e
equality-normal points said t (Fun f shape arguments) (Agg g body) e = sides-normal points said t (Fun f shape arguments) (Agg g body) e
equality-normal points said t (Agg f inner) (Free name) e = record { left = output-normal points said t name (Agg f inner) e; right = free }
equality-normal points said t (Agg f inner) (Bound j) e = sides-normal points said t (Agg f inner) (Bound j) e
equality-normal points said t (Agg f inner) (Lit m) e = sides-normal points said t (Agg f inner) (Lit m) e
equality-normal points said t (Agg f inner) (Fun g shape arguments) e = sides-normal points said t (Agg f inner) (Fun g shape arguments) e
equality-normal points said t (Agg f inner) (Agg g body) e = sides-normal points said t (Agg f inner) (Agg g body) e

-- ---- the factors of a product that says something
alone-goes : {S X : Type 0} (step : S → X → Option S) (s t : S) (x : X) → folded step s (x ∷ []) ≡ Some t → step s x ≡ Some t
alone-goes step s t x e = let by = goes-by (λ more. folded step more []) (step s x) t e in by.is ∙ by.goes

negated-saying : (points : Points) (x y : Said) (a : U) → with_factor points x (negated a) ≡ Some y → IsSaying (NotOf a)
unfolding negated
negated-saying points x y Zero e = absurd (cc)
negated-saying points x y One e = absurd (cc)
negated-saying points x y (Add a b) e = absurd (cc)
negated-saying points x y (Mul a b) e = absurd (cc)
negated-saying points x y (SquashOf a) e = absurd (cc)
negated-saying points x y (NotOf a) e = absurd (cc)
negated-saying points x y (Sum a) e = absurd (cc)
negated-saying points x y (Rel table shape arguments) e = absurd (cc)
negated-saying points x y (Eq a b) e =
    let both = both-by _ (value_point points a) (value_point points b) y e in
    record { says = of_no_equality; normal = record { kind = Mark; is = no_equality (point-normal points a both.left both.left_is) (point-normal points b both.right both.right_is) } }
negated-saying points x y (Pred symbol shape arguments) e =
    let by = mapped-by _ (value_points points (listed arguments)) y e in
    record { says = of_no_predicate; normal = record { kind = Mark; is = no_predicate (points-normal points arguments by.first by.is) } }

pub saying : (w : U) (s t : Atoms) (points : Points) (x y : Said) → folded with_atom s (factors w) ≡ Some t → folded (with_factor points) x (factors w) ≡ Some y → Each IsSaying (mul_leaves w)
unfolding factors mul_leaves
saying Zero s t points x y g e = absurd (cc)
saying One s t points x y g e = tt
saying (Add a b) s t points x y g e = absurd (cc)
saying (Mul a b) s t points x y g e =
    let first = goes-by (λ more. folded with_atom more (factors b)) (folded with_atom s (factors a)) t (sym (folded-append with_atom s (factors a) (factors b)) ∙ g) in
    let said = goes-by (λ more. folded (with_factor points) more (factors b)) (folded (with_factor points) x (factors a)) y (sym (folded-append (with_factor points) x (factors a) (factors b)) ∙ e) in
    each-append IsSaying (mul_leaves a) (mul_leaves b) (saying a s first.first points x said.first first.is said.is) (saying b first.first t points said.first y first.goes said.goes)
saying (SquashOf a) s t points x y g e = absurd (cc)
saying (NotOf a) s t points x y g e = (negated-saying points x y a (alone-goes (with_factor points) x y (negated a) e), tt)
saying (Sum a) s t points x y g e = absurd (cc)
saying (Rel table shape arguments) s t points x y g e =
    let by = mapped-by _ (placed (length s.entries) 0 (listed arguments) s.points) t (alone-goes with_atom s t (atom table (listed arguments)) g) in
    (record { says = of_relation; normal = record { kind = Atom; is = relation (placed-normal (length s.entries) 0 arguments s.points by.first by.is) } }, tt)
saying (Eq a b) s t points x y g e =
    let sides = equality-normal points x y a b (alone-goes (with_factor points) x y (equality a b) e) in
    (record { says = of_equality; normal = record { kind = Mark; is = is_equality sides.left sides.right } }, tt)
saying (Pred symbol shape arguments) s t points x y g e =
    let by = mapped-by _ (value_points points (listed arguments)) y (alone-goes (with_factor points) x y (truth symbol (listed arguments)) e) in
    (record { says = of_predicate; normal = record { kind = Mark; is = predicate (points-normal points arguments by.first by.is) } }, tt)

-- ---- what the leaves of a product say
abbrev pub leaf_factors : List U → List Factor
leaf_factors [] = []
leaf_factors (x ∷ xs) = factors x ++ leaf_factors xs

leaf_factors-append : (xs ys : List U) → leaf_factors (xs ++ ys) ≡ leaf_factors xs ++ leaf_factors ys
leaf_factors-append [] ys = refl
leaf_factors-append (x ∷ xs) ys = ap (λ (fs : List Factor). factors x ++ fs) (leaf_factors-append xs ys) ∙ sym (append_assoc (factors x) (leaf_factors xs) (leaf_factors ys))

pub factors-leaves : (w : U) → factors w ≡ leaf_factors (mul_leaves w)
unfolding factors mul_leaves
factors-leaves Zero = refl
factors-leaves One = refl
factors-leaves (Add a b) = refl
factors-leaves (Mul a b) =
    ap (λ (fs : List Factor). fs ++ factors b) (factors-leaves a) ∙ ap (λ (fs : List Factor). leaf_factors (mul_leaves a) ++ fs) (factors-leaves b)
    ∙ sym (leaf_factors-append (mul_leaves a) (mul_leaves b))
factors-leaves (SquashOf a) = refl
factors-leaves (NotOf a) = refl
factors-leaves (Sum body) = refl
factors-leaves (Rel table shape arguments) = refl
factors-leaves (Eq a b) = refl
factors-leaves (Pred symbol shape arguments) = refl

-- ---- folds by kinds: one factor more, and all of them
module _ (s : Atoms) (us : List U) where
  atoms-skip_one : (x : U) → Says x → folded with_atom s (leaf_factors (of_kind Mark us)) ≡ Some s → folded with_atom s (leaf_factors (of_kind Mark (x ∷ us))) ≡ Some s
  unfolding kind_of is_truth factors negated
  atoms-skip_one x of_relation e = e
  atoms-skip_one x of_equality e = e
  atoms-skip_one x of_predicate e = e
  atoms-skip_one x of_no_equality e = e
  atoms-skip_one x of_no_predicate e = e

  atoms-keep_one : (x : U) → Says x → ((more : Atoms) → folded with_atom more (leaf_factors (of_kind Atom us)) ≡ folded with_atom more (leaf_factors us))
      → folded with_atom s (leaf_factors (of_kind Atom (x ∷ us))) ≡ folded with_atom s (leaf_factors (x ∷ us))
  unfolding kind_of is_truth factors negated
  atoms-keep_one x (of_relation {table = table} {arguments = arguments}) e =
      and-then-same (λ more. folded with_atom more (leaf_factors (of_kind Atom us))) (λ more. folded with_atom more (leaf_factors us)) (with_atom s (atom table (listed arguments))) e
  atoms-keep_one x of_equality e = e s
  atoms-keep_one x of_predicate e = e s
  atoms-keep_one x of_no_equality e = e s
  atoms-keep_one x of_no_predicate e = e s

atoms-skip : (s : Atoms) (us : List U) → Each IsSaying us → folded with_atom s (leaf_factors (of_kind Mark us)) ≡ Some s
atoms-skip s [] h = refl
atoms-skip s (x ∷ us) h = atoms-skip_one s us x h.0.says (atoms-skip s us h.1)

atoms-kept : (us : List U) → Each IsSaying us → (s : Atoms) → folded with_atom s (leaf_factors (of_kind Atom us)) ≡ folded with_atom s (leaf_factors us)
atoms-kept [] h s = refl
atoms-kept (x ∷ us) h s = atoms-keep_one s us x h.0.says (atoms-kept us h.1)

module _ (points : Points) where
  module _ (s : Said) (us : List U) where
    marks-skip_one : (x : U) → Says x → ((more : Said) → folded (with_factor points) more (leaf_factors (of_kind Atom us)) ≡ Some more) → folded (with_factor points) s (leaf_factors (of_kind Atom (x ∷ us))) ≡ Some s
    unfolding kind_of is_truth factors negated
    marks-skip_one x of_relation e = e s
    marks-skip_one x of_equality e = e s
    marks-skip_one x of_predicate e = e s
    marks-skip_one x of_no_equality e = e s
    marks-skip_one x of_no_predicate e = e s

    module _ (e : (more : Said) → folded (with_factor points) more (leaf_factors (of_kind Mark us)) ≡ folded (with_factor points) more (leaf_factors us)) where
      marks-goes : (f : Factor) → folded (with_factor points) s (f ∷ leaf_factors (of_kind Mark us)) ≡ folded (with_factor points) s (f ∷ leaf_factors us)
      marks-goes f =
          and-then-same (λ more. folded (with_factor points) more (leaf_factors (of_kind Mark us))) (λ more. folded (with_factor points) more (leaf_factors us)) (with_factor points s f) e

      marks-keep_one : (x : U) → Says x → folded (with_factor points) s (leaf_factors (of_kind Mark (x ∷ us))) ≡ folded (with_factor points) s (leaf_factors (x ∷ us))
      unfolding kind_of is_truth factors negated
      marks-keep_one x of_relation = e s
      marks-keep_one x (of_equality {a = a} {b = b}) = marks-goes (equality a b)
      marks-keep_one x (of_predicate {symbol = symbol} {arguments = arguments}) = marks-goes (truth symbol (listed arguments))
      marks-keep_one x (of_no_equality {a = a} {b = b}) = marks-goes (difference a b)
      marks-keep_one x (of_no_predicate {symbol = symbol} {arguments = arguments}) = marks-goes (falsehood symbol (listed arguments))

  marks-skip : (us : List U) → Each IsSaying us → (s : Said) → folded (with_factor points) s (leaf_factors (of_kind Atom us)) ≡ Some s
  marks-skip [] h s = refl
  marks-skip (x ∷ us) h s = marks-skip_one s us x h.0.says (marks-skip us h.1)

  marks-kept : (us : List U) → Each IsSaying us → (s : Said) → folded (with_factor points) s (leaf_factors (of_kind Mark us)) ≡ folded (with_factor points) s (leaf_factors us)
  marks-kept [] h s = refl
  marks-kept (x ∷ us) h s = marks-keep_one s us (marks-kept us h.1) x h.0.says

no-squash_one : (us : List U) (x : U) → Says x → of_kind Squash us ≡ [] → of_kind Squash (x ∷ us) ≡ []
unfolding kind_of is_truth
no-squash_one us x of_relation e = e
no-squash_one us x of_equality e = e
no-squash_one us x of_predicate e = e
no-squash_one us x of_no_equality e = e
no-squash_one us x of_no_predicate e = e

no-negation_one : (us : List U) (x : U) → Says x → of_kind Negation us ≡ [] → of_kind Negation (x ∷ us) ≡ []
unfolding kind_of is_truth
no-negation_one us x of_relation e = e
no-negation_one us x of_equality e = e
no-negation_one us x of_predicate e = e
no-negation_one us x of_no_equality e = e
no-negation_one us x of_no_predicate e = e

pub no-squashes : (us : List U) → Each IsSaying us → of_kind Squash us ≡ []
no-squashes [] h = refl
no-squashes (x ∷ us) h = no-squash_one us x h.0.says (no-squashes us h.1)

pub no-negations : (us : List U) → Each IsSaying us → of_kind Negation us ≡ []
no-negations [] h = refl
no-negations (x ∷ us) h = no-negation_one us x h.0.says (no-negations us h.1)

-- ---- the same shape
if-some : {X : Type 0} (b : Bool) (o : Option X) (x : X) → (if b then o else None) ≡ Some x → o ≡ Some x
if-some true o x e = e
if-some false o x e = absurd (cc)

and-then-some : {X : Type 0} (o : Option X) → option_and_then (λ x. Some x) o ≡ o
and-then-some None = refl
and-then-some (Some x) = refl

module _ (w : U) (h : Each IsSaying (mul_leaves w)) where
  abbrev us : List U
  us = mul_leaves w

  ordered-two : ordered us ≡ of_kind Mark us ++ of_kind Atom us
  ordered-two =
      ap (λ (qs : List U). of_kind Mark us ++ (of_kind Atom us ++ (qs ++ of_kind Negation us))) (no-squashes us h)
      ∙ ap (λ (ns : List U). of_kind Mark us ++ (of_kind Atom us ++ ns)) (no-negations us h)
      ∙ ap (λ (xs : List U). of_kind Mark us ++ xs) (append-nil (of_kind Atom us))

  row-factors : factors (product_of (ordered us)) ≡ leaf_factors (of_kind Mark us) ++ leaf_factors (of_kind Atom us)
  row-factors =
      factors-leaves (product_of (ordered us)) ∙ ap leaf_factors (leaves-in_order w) ∙ ap leaf_factors ordered-two
      ∙ leaf_factors-append (of_kind Mark us) (of_kind Atom us)

  atoms-again : (s : Atoms) → folded with_atom s (factors (product_of (ordered us))) ≡ folded with_atom s (factors w)
  atoms-again s =
      ap (λ (fs : List Factor). folded with_atom s fs) row-factors ∙ folded-append with_atom s (leaf_factors (of_kind Mark us)) (leaf_factors (of_kind Atom us))
      ∙ ap (λ (o : Option Atoms). option_and_then (λ more. folded with_atom more (leaf_factors (of_kind Atom us))) o) (atoms-skip s us h)
      ∙ atoms-kept us h s ∙ ap (λ (fs : List Factor). folded with_atom s fs) (sym (factors-leaves w))

  marks-again : (points : Points) (s : Said) → folded (with_factor points) s (factors (product_of (ordered us))) ≡ folded (with_factor points) s (factors w)
  marks-again points s =
      ap (λ (fs : List Factor). folded (with_factor points) s fs) row-factors
      ∙ folded-append (with_factor points) s (leaf_factors (of_kind Mark us)) (leaf_factors (of_kind Atom us))
      ∙ and-then-same (λ more. folded (with_factor points) more (leaf_factors (of_kind Atom us))) (λ more. Some more) (folded (with_factor points) s (leaf_factors (of_kind Mark us))) (marks-skip points us h)
      ∙ and-then-some (folded (with_factor points) s (leaf_factors (of_kind Mark us)))
      ∙ marks-kept points us h s ∙ ap (λ (fs : List Factor). folded (with_factor points) s fs) (sym (factors-leaves w))

  pub shape-again : (outs sums : ℕ) → product_shape outs sums (factors (product_of (ordered us))) ≡ product_shape outs sums (factors w)
  shape-again outs sums =
      ap (λ (o : Option Atoms). option_and_then (shape_of_atoms outs (factors (product_of (ordered us)))) o) (atoms-again (no_atoms sums))
      ∙ and-then-same (shape_of_atoms outs (factors (product_of (ordered us)))) (shape_of_atoms outs (factors w)) (folded with_atom (no_atoms sums) (factors w))
      (λ atoms. ap (λ (o : Option Said). if list_all has_point atoms.points then option_and_then (λ said. option_map (shape_said atoms.entries said) (all_points said.outputs)) o else None) (marks-again atoms.points (nothing_said outs)))

pub product-saying : (outs sums : ℕ) (w : U) (s : Shape) → product_shape outs sums (factors w) ≡ Some s → Each IsSaying (mul_leaves w)
product-saying outs sums w s h =
    let atoms = goes-by (shape_of_atoms outs (factors w)) (folded with_atom (no_atoms sums) (factors w)) s h in
    let said = goes-by (λ said. option_map (shape_said atoms.first.entries said) (all_points said.outputs)) (folded (with_factor atoms.first.points) (nothing_said outs) (factors w)) s
    (if-some (list_all has_point atoms.first.points) (option_and_then (λ said. option_map (shape_said atoms.first.entries said) (all_points said.outputs)) (folded (with_factor atoms.first.points) (nothing_said outs) (factors w))) s atoms.goes) in
    saying w (no_atoms sums) atoms.first atoms.first.points (nothing_said outs) said.first atoms.is said.is
