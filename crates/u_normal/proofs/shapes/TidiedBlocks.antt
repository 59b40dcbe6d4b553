-- A block whose factors stand by their kinds: it has the shape that it had, and names and places in it change as before.
use Rattle.std.proofs.Common.{◌≡◌, ℕ, ◌+◌, Bool, true, false, cond, List, [], ◌∷◌, ◌++◌, length, map, Some, refl, ap, sym, ◌∙◌, arith}
use Rattle.std.specs.Prelude.{Option, if◌then◌else◌}
use Rattle.std.proofs.lemmas.List.{map-append}
use Rattle.data_model.specs.Lists.{Each}
use Rattle.u_terms.specs.declared.term.U.TheVariants as u
use Rattle.u_terms.specs.Syntax.{U, Zero, One, Add, Mul, Squash as SquashOf, Not as NotOf, Sum, Rel, Eq, Pred, Val, constructors}
use Rattle.u_terms.specs.Products.{product_of}
use Rattle.u_terms.specs.Binding.{mapped, same_place, place_for_name, closed_at}
use Rattle.u_rules.specs.Terms.{mul_leaves}
use Rattle.normal_form.specs.declared.kind.Kind.{Kind}
use Rattle.normal_form.specs.declared.kind.Kind.TheVariants.{Mark, Atom, Squash, Negation}
use Rattle.normal_form.specs.Kinds.{is_truth, kind_of, is_kind, of_kind, ordered}
use Rattle.normal_form.specs.NormalTerms.{IsBlock, sum_over}
use Rattle.normal_form.specs.LooseTerms.{IsSomeFactor, IsProduct, IsLooseBlock, over_all, loose_product}
use Rattle.normal_form.proofs.Lists.{each-of}
use Rattle.normal_form.proofs.Leaves.{each-ordered}
use Rattle.normal_form.proofs.Loose.{in_order-block}
use Rattle.normal_form.proofs.Renamed.{product_of-mapped}
use Rattle.shapes.specs.Shapes.{Shape}
use Rattle.term_shapes.specs.Factors.{factors, sum_count, under_sums}
use Rattle.term_shapes.specs.TermShape.{product_shape, term_shape, HasShape}
use Rattle.u_normal.specs.Shaped.{tidied}
use Rattle.u_normal.proofs.shapes.SaidAgain.{Says, of_relation, of_equality, of_predicate, of_no_equality, of_no_predicate, IsSaying, shape-again, product-saying, no-squashes, no-negations}

-- ---- a row of such factors is under no sum
no-sum : (x : U) → Says x → sum_count x ≡ 0
unfolding sum_count
no-sum x of_relation = refl
no-sum x of_equality = refl
no-sum x of_predicate = refl
no-sum x of_no_equality = refl
no-sum x of_no_predicate = refl

row-count : (us : List U) → Each IsSaying us → sum_count (product_of us) ≡ 0
unfolding sum_count constructors
row-count [] h = refl
row-count (x ∷ []) h = no-sum x h.0.says
row-count (x ∷ y ∷ us) h = refl

under-none : (x : U) → Says x → under_sums x ≡ x
unfolding under_sums
under-none x of_relation = refl
under-none x of_equality = refl
under-none x of_predicate = refl
under-none x of_no_equality = refl
under-none x of_no_predicate = refl

row-under : (us : List U) → Each IsSaying us → under_sums (product_of us) ≡ product_of us
unfolding under_sums constructors
row-under [] h = refl
row-under (x ∷ []) h = under-none x h.0.says
row-under (x ∷ y ∷ us) h = refl

ordered-saying : (w : U) → Each IsSaying (mul_leaves w) → Each IsSaying (ordered (mul_leaves w))
ordered-saying w h = each-ordered IsSaying (mul_leaves w) h

-- ---- under its sums
pub tidied-under : (u : U) → Each IsSaying (mul_leaves (under_sums u)) → under_sums (tidied u) ≡ product_of (ordered (mul_leaves (under_sums u)))
unfolding under_sums tidied
tidied-under Zero h = row-under (ordered (mul_leaves Zero)) (ordered-saying Zero h)
tidied-under One h = row-under (ordered (mul_leaves One)) (ordered-saying One h)
tidied-under (Add a b) h = row-under (ordered (mul_leaves (Add a b))) (ordered-saying (Add a b) h)
tidied-under (Mul a b) h = row-under (ordered (mul_leaves (Mul a b))) (ordered-saying (Mul a b) h)
tidied-under (SquashOf a) h = row-under (ordered (mul_leaves (SquashOf a))) (ordered-saying (SquashOf a) h)
tidied-under (NotOf a) h = row-under (ordered (mul_leaves (NotOf a))) (ordered-saying (NotOf a) h)
tidied-under (Sum body) h = tidied-under body h
tidied-under (Rel table shape arguments) h = row-under (ordered (mul_leaves (Rel table shape arguments))) (ordered-saying (Rel table shape arguments) h)
tidied-under (Eq a b) h = row-under (ordered (mul_leaves (Eq a b))) (ordered-saying (Eq a b) h)
tidied-under (Pred symbol shape arguments) h = row-under (ordered (mul_leaves (Pred symbol shape arguments))) (ordered-saying (Pred symbol shape arguments) h)

pub tidied-count : (u : U) → Each IsSaying (mul_leaves (under_sums u)) → sum_count (tidied u) ≡ sum_count u
unfolding under_sums sum_count tidied
tidied-count Zero h = row-count (ordered (mul_leaves Zero)) (ordered-saying Zero h)
tidied-count One h = row-count (ordered (mul_leaves One)) (ordered-saying One h)
tidied-count (Add a b) h = row-count (ordered (mul_leaves (Add a b))) (ordered-saying (Add a b) h)
tidied-count (Mul a b) h = row-count (ordered (mul_leaves (Mul a b))) (ordered-saying (Mul a b) h)
tidied-count (SquashOf a) h = row-count (ordered (mul_leaves (SquashOf a))) (ordered-saying (SquashOf a) h)
tidied-count (NotOf a) h = row-count (ordered (mul_leaves (NotOf a))) (ordered-saying (NotOf a) h)
tidied-count (Sum body) h = omega (arith, tidied-count body h)
tidied-count (Rel table shape arguments) h = row-count (ordered (mul_leaves (Rel table shape arguments))) (ordered-saying (Rel table shape arguments) h)
tidied-count (Eq a b) h = row-count (ordered (mul_leaves (Eq a b))) (ordered-saying (Eq a b) h)
tidied-count (Pred symbol shape arguments) h = row-count (ordered (mul_leaves (Pred symbol shape arguments))) (ordered-saying (Pred symbol shape arguments) h)

-- ---- a block that has a shape
pub shape-saying : (outs : ℕ) (u : U) (s : Shape) → HasShape outs u s → Each IsSaying (mul_leaves (under_sums u))
unfolding term_shape
shape-saying outs u s h = product-saying outs (sum_count u) (under_sums u) s h

pub tidied-shape : (outs : ℕ) (u : U) (s : Shape) → HasShape outs u s → HasShape outs (tidied u) s
unfolding term_shape
tidied-shape outs u s h =
    let each = product-saying outs (sum_count u) (under_sums u) s h in
    ap (λ (n : ℕ). product_shape outs n (factors (under_sums (tidied u)))) (tidied-count u each)
    ∙ ap (λ (w : U). product_shape outs (sum_count u) (factors w)) (tidied-under u each)
    ∙ shape-again (under_sums u) each outs (sum_count u) ∙ h

-- a product of factors, and with its factors by kinds a block
pub product-by : (w : U) → Each IsSaying (mul_leaves w) → IsProduct w
product-by w h = record { factors = each-of IsSaying IsSomeFactor (λ x says. says.normal) (mul_leaves w) h }

block-by : (w : U) → Each IsSaying (mul_leaves w) → IsBlock (product_of (ordered (mul_leaves w)))
block-by w h =
    in_order-block w (product-by w h) (omega (arith, ap length (no-squashes (mul_leaves w) h))) (omega (arith, ap length (no-negations (mul_leaves w) h)))

pub loose-by : (u : U) → Each IsSaying (mul_leaves (under_sums u)) → IsLooseBlock u
unfolding under_sums
loose-by Zero h = loose_product (product-by Zero h)
loose-by One h = loose_product (product-by One h)
loose-by (Add a b) h = loose_product (product-by (Add a b) h)
loose-by (Mul a b) h = loose_product (product-by (Mul a b) h)
loose-by (SquashOf a) h = loose_product (product-by (SquashOf a) h)
loose-by (NotOf a) h = loose_product (product-by (NotOf a) h)
loose-by (Sum body) h = over_all (loose-by body h)
loose-by (Rel table shape arguments) h = loose_product (product-by (Rel table shape arguments) h)
loose-by (Eq a b) h = loose_product (product-by (Eq a b) h)
loose-by (Pred symbol shape arguments) h = loose_product (product-by (Pred symbol shape arguments) h)

tidied-by : (u : U) → Each IsSaying (mul_leaves (under_sums u)) → IsBlock (tidied u)
unfolding under_sums tidied
tidied-by Zero h = block-by Zero h
tidied-by One h = block-by One h
tidied-by (Add a b) h = block-by (Add a b) h
tidied-by (Mul a b) h = block-by (Mul a b) h
tidied-by (SquashOf a) h = block-by (SquashOf a) h
tidied-by (NotOf a) h = block-by (NotOf a) h
tidied-by (Sum body) h = sum_over (tidied-by body h)
tidied-by (Rel table shape arguments) h = block-by (Rel table shape arguments) h
tidied-by (Eq a b) h = block-by (Eq a b) h
tidied-by (Pred symbol shape arguments) h = block-by (Pred symbol shape arguments) h

pub shape-loose : (outs : ℕ) (u : U) (s : Shape) → HasShape outs u s → IsLooseBlock u
shape-loose outs u s h = loose-by u (shape-saying outs u s h)

pub tidied-block : (outs : ℕ) (u : U) (s : Shape) → HasShape outs u s → IsBlock (tidied u)
tidied-block outs u s h = tidied-by u (shape-saying outs u s h)

-- ---- at code's constructors
pub tidied-Sum : (body : U) → tidied (u.Sum body) ≡ u.Sum (tidied body)
unfolding tidied constructors
tidied-Sum body = refl

pub tidied-product : (t : U) → ((body : U) → t ≡ u.Sum body → ⊥) → tidied t ≡ product_of (ordered (mul_leaves t))
unfolding tidied constructors
tidied-product Zero other = refl
tidied-product One other = refl
tidied-product (Add a b) other = refl
tidied-product (Mul a b) other = refl
tidied-product (SquashOf a) other = refl
tidied-product (NotOf a) other = refl
tidied-product (Sum body) other = absurd (other body refl)
tidied-product (Rel table shape arguments) other = refl
tidied-product (Eq a b) other = refl
tidied-product (Pred symbol shape arguments) other = refl

-- ---- with other names and places
module _ (f g : ℕ → ℕ → Val) where
  truth-mapped : (k : ℕ) (a : U) → is_truth (mapped f g k a) ≡ is_truth a
  unfolding mapped is_truth
  truth-mapped k Zero = refl
  truth-mapped k One = refl
  truth-mapped k (Add a b) = refl
  truth-mapped k (Mul a b) = refl
  truth-mapped k (SquashOf a) = refl
  truth-mapped k (NotOf a) = refl
  truth-mapped k (Sum body) = refl
  truth-mapped k (Rel table shape arguments) = refl
  truth-mapped k (Eq a b) = refl
  truth-mapped k (Pred symbol shape arguments) = refl

  kind-mapped : (k : ℕ) (a : U) → kind_of (mapped f g k a) ≡ kind_of a
  unfolding mapped kind_of
  kind-mapped k Zero = refl
  kind-mapped k One = refl
  kind-mapped k (Add a b) = refl
  kind-mapped k (Mul a b) = refl
  kind-mapped k (SquashOf a) = refl
  kind-mapped k (NotOf a) = ap (λ (b : Bool). Some (if b then Mark else Negation)) (truth-mapped k a)
  kind-mapped k (Sum body) = refl
  kind-mapped k (Rel table shape arguments) = refl
  kind-mapped k (Eq a b) = refl
  kind-mapped k (Pred symbol shape arguments) = refl

  leaves-mapped : (k : ℕ) (a : U) → mul_leaves (mapped f g k a) ≡ map (mapped f g k) (mul_leaves a)
  unfolding mapped mul_leaves
  leaves-mapped k Zero = refl
  leaves-mapped k One = refl
  leaves-mapped k (Add a b) = refl
  leaves-mapped k (Mul a b) =
      ap (λ (us : List U). us ++ mul_leaves (mapped f g k b)) (leaves-mapped k a) ∙ ap (λ (us : List U). map (mapped f g k) (mul_leaves a) ++ us) (leaves-mapped k b)
      ∙ sym (map-append (mapped f g k) (mul_leaves a) (mul_leaves b))
  leaves-mapped k (SquashOf a) = refl
  leaves-mapped k (NotOf a) = refl
  leaves-mapped k (Sum body) = refl
  leaves-mapped k (Rel table shape arguments) = refl
  leaves-mapped k (Eq a b) = refl
  leaves-mapped k (Pred symbol shape arguments) = refl

  kept-mapped : (k : ℕ) (b : Bool) (x : U) (xs : List U) → cond b (mapped f g k x ∷ map (mapped f g k) xs) (map (mapped f g k) xs) ≡ map (mapped f g k) (cond b (x ∷ xs) xs)
  kept-mapped k true x xs = refl
  kept-mapped k false x xs = refl

  of_kind-mapped : (k : ℕ) (kind : Kind) (us : List U) → of_kind kind (map (mapped f g k) us) ≡ map (mapped f g k) (of_kind kind us)
  of_kind-mapped k kind [] = refl
  of_kind-mapped k kind (x ∷ us) =
      ap (λ (o : Option Kind). cond (is_kind kind o) (mapped f g k x ∷ of_kind kind (map (mapped f g k) us)) (of_kind kind (map (mapped f g k) us))) (kind-mapped k x)
      ∙ ap (λ (xs : List U). cond (is_kind kind (kind_of x)) (mapped f g k x ∷ xs) xs) (of_kind-mapped k kind us)
      ∙ kept-mapped k (is_kind kind (kind_of x)) x (of_kind kind us)

  four-mapped : (k : ℕ) (ms rs ss ns : List U) → map (mapped f g k) (ms ++ (rs ++ (ss ++ ns))) ≡ map (mapped f g k) ms ++ (map (mapped f g k) rs ++ (map (mapped f g k) ss ++ map (mapped f g k) ns))
  four-mapped k ms rs ss ns =
      map-append (mapped f g k) ms (rs ++ (ss ++ ns)) ∙ ap (λ (us : List U). map (mapped f g k) ms ++ us) (map-append (mapped f g k) rs (ss ++ ns))
      ∙ ap (λ (us : List U). map (mapped f g k) ms ++ (map (mapped f g k) rs ++ us)) (map-append (mapped f g k) ss ns)

  ordered-mapped : (k : ℕ) (us : List U) → ordered (map (mapped f g k) us) ≡ map (mapped f g k) (ordered us)
  ordered-mapped k us =
      ap (λ (xs : List U). xs ++ (of_kind Atom (map (mapped f g k) us) ++ (of_kind Squash (map (mapped f g k) us) ++ of_kind Negation (map (mapped f g k) us)))) (of_kind-mapped k Mark us)
      ∙ ap (λ (xs : List U). map (mapped f g k) (of_kind Mark us) ++ (xs ++ (of_kind Squash (map (mapped f g k) us) ++ of_kind Negation (map (mapped f g k) us)))) (of_kind-mapped k Atom us)
      ∙ ap (λ (xs : List U). map (mapped f g k) (of_kind Mark us) ++ (map (mapped f g k) (of_kind Atom us) ++ (xs ++ of_kind Negation (map (mapped f g k) us)))) (of_kind-mapped k Squash us)
      ∙ ap (λ (xs : List U). map (mapped f g k) (of_kind Mark us) ++ (map (mapped f g k) (of_kind Atom us) ++ (map (mapped f g k) (of_kind Squash us) ++ xs))) (of_kind-mapped k Negation us)
      ∙ sym (four-mapped k (of_kind Mark us) (of_kind Atom us) (of_kind Squash us) (of_kind Negation us))

  row-mapped : (k : ℕ) (a : U) → product_of (ordered (mul_leaves (mapped f g k a))) ≡ mapped f g k (product_of (ordered (mul_leaves a)))
  row-mapped k a =
      ap (λ (us : List U). product_of (ordered us)) (leaves-mapped k a) ∙ ap product_of (ordered-mapped k (mul_leaves a)) ∙ sym (product_of-mapped f g k (ordered (mul_leaves a)))

  tidied-mapped : (k : ℕ) (a : U) → tidied (mapped f g k a) ≡ mapped f g k (tidied a)
  unfolding mapped tidied
  tidied-mapped k Zero = row-mapped k Zero
  tidied-mapped k One = row-mapped k One
  tidied-mapped k (Add a b) = row-mapped k (Add a b)
  tidied-mapped k (Mul a b) = row-mapped k (Mul a b)
  tidied-mapped k (SquashOf a) = row-mapped k (SquashOf a)
  tidied-mapped k (NotOf a) = row-mapped k (NotOf a)
  tidied-mapped k (Sum body) = ap (λ (x : U). Sum x) (tidied-mapped (k + 1) body)
  tidied-mapped k (Rel table shape arguments) = row-mapped k (Rel table shape arguments)
  tidied-mapped k (Eq a b) = row-mapped k (Eq a b)
  tidied-mapped k (Pred symbol shape arguments) = row-mapped k (Pred symbol shape arguments)

pub tidied-closed : (x : ℕ) (a : U) → closed_at (tidied a) x ≡ tidied (closed_at a x)
tidied-closed x a = sym (tidied-mapped same_place (place_for_name x) 0 a)
