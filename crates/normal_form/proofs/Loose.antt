-- What is normal is on the way; what a term on the way has for parts; what is made of it.
use Rattle.std.proofs.Common.{◌≡◌, ◌≤◌, Bool, true, false, List, [], ◌∷◌, ◌++◌, length, refl, ap, sym, subst, ◌∙◌}
use Rattle.data_model.specs.Lists.{Each}
use Rattle.u_terms.specs.declared.term.U.TheVariants as u
use Rattle.u_terms.specs.Syntax.{U, Zero, One, Add, Mul, Squash as SquashOf, Not, Sum, Rel, Eq, Pred, constructors}
use Rattle.u_terms.specs.Products.{product_of}
use Rattle.u_rules.specs.Terms.{add_leaves, mul_leaves}
use Rattle.u_rules.proofs.multisets.LeavesAt.{add_leaves-Zero, add_leaves-One, add_leaves-Add, add_leaves-Mul, add_leaves-Sum, mul_leaves-One, mul_leaves-Mul}
use Rattle.normal_form.specs.declared.kind.Kind.{Kind}
use Rattle.normal_form.specs.declared.kind.Kind.TheVariants.{Mark, Atom, Squash, Negation}
use Rattle.normal_form.specs.Kinds.{is_truth, of_kind, ordered}
use Rattle.normal_form.specs.NormalTerms.{sum_of, IsNormal, AreBlocks, IsBlock, AreFactors, IsFactor, sum_of_blocks, no_block, block_then, sum_over, product_of_factors, no_factor, factor_then, equality, predicate, no_equality, no_predicate, relation, squash, negation}
use Rattle.normal_form.specs.LooseTerms.{IsSomeFactor, IsProduct, IsLooseBlock, IsLoose, over_all, loose_product}
use Rattle.normal_form.proofs.Lists.{each-append, each-first, each-last}
use Rattle.normal_form.proofs.Leaves.{mul_leaves-row, add_leaves-row}
use Rattle.normal_form.proofs.Ordered.{are-of_kind}

-- ---- factors
pub factor-leaf : (kind : Kind) (u : U) → IsFactor kind u → mul_leaves u ≡ u ∷ []
unfolding mul_leaves
factor-leaf kind u (equality a b) = refl
factor-leaf kind u (predicate vs) = refl
factor-leaf kind u (no_equality a b) = refl
factor-leaf kind u (no_predicate vs) = refl
factor-leaf kind u (relation vs) = refl
factor-leaf kind u (squash n) = refl
factor-leaf kind u (negation n e) = refl

pub factor-added : (kind : Kind) (u : U) → IsFactor kind u → add_leaves u ≡ u ∷ []
unfolding add_leaves
factor-added kind u (equality a b) = refl
factor-added kind u (predicate vs) = refl
factor-added kind u (no_equality a b) = refl
factor-added kind u (no_predicate vs) = refl
factor-added kind u (relation vs) = refl
factor-added kind u (squash n) = refl
factor-added kind u (negation n e) = refl

each-some : (kind : Kind) (us : List U) → AreFactors kind us → Each IsSomeFactor us
each-some kind us no_factor = tt
each-some kind us (factor_then {rest = rest} h hs) = (record { kind = kind; is = h }, each-some kind rest hs)

some-leaves : (us : List U) → Each IsSomeFactor us → Each (λ u. mul_leaves u ≡ u ∷ []) us
some-leaves [] h = tt
some-leaves (u ∷ us) h = (factor-leaf h.0.kind u h.0.is, some-leaves us h.1)

product-row : (us : List U) → Each IsSomeFactor us → IsProduct (product_of us)
product-row us h = record { factors = subst (λ (vs : List U). Each IsSomeFactor vs) (sym (mul_leaves-row us (some-leaves us h))) h }

-- ---- normal terms are on the way
added-row_of_factors : (us : List U) → Each IsSomeFactor us → add_leaves (product_of us) ≡ product_of us ∷ []
added-row_of_factors [] h = add_leaves-One
added-row_of_factors (u ∷ []) h = factor-added h.0.kind u h.0.is
added-row_of_factors (u ∷ v ∷ us) h = add_leaves-Mul u (product_of (v ∷ us))

four-factors : (ms rs ss ns : List U) → AreFactors Mark ms → AreFactors Atom rs → AreFactors Squash ss → AreFactors Negation ns → Each IsSomeFactor (ms ++ (rs ++ (ss ++ ns)))
four-factors ms rs ss ns hm ha hs hn =
    each-append IsSomeFactor ms (rs ++ (ss ++ ns)) (each-some Mark ms hm)
    (each-append IsSomeFactor rs (ss ++ ns) (each-some Atom rs ha) (each-append IsSomeFactor ss ns (each-some Squash ss hs) (each-some Negation ns hn)))

pub block-leaf : (u : U) → IsBlock u → add_leaves u ≡ u ∷ []
unfolding add_leaves
block-leaf u (sum_over h) = refl
block-leaf u (product_of_factors ms rs ss ns hm ha hs ls hn ln e) =
    ap add_leaves e ∙ added-row_of_factors (ms ++ (rs ++ (ss ++ ns))) (four-factors ms rs ss ns hm ha hs hn) ∙ ap (λ (v : U). v ∷ []) (sym e)

block-loose : (u : U) → IsBlock u → IsLooseBlock u
block-loose u (sum_over {body = body} h) = over_all (block-loose body h)
block-loose u (product_of_factors ms rs ss ns hm ha hs ls hn ln e) =
    loose_product (subst (λ v. IsProduct v) (sym e) (product-row (ms ++ (rs ++ (ss ++ ns))) (four-factors ms rs ss ns hm ha hs hn)))

each-loose : (us : List U) → AreBlocks us → Each IsLooseBlock us
each-loose us no_block = tt
each-loose us (block_then {block = block} {rest = rest} h hs) = (block-loose block h, each-loose rest hs)

each-block_leaf : (us : List U) → AreBlocks us → Each (λ u. add_leaves u ≡ u ∷ []) us
each-block_leaf us no_block = tt
each-block_leaf us (block_then {block = block} {rest = rest} h hs) = (block-leaf block h, each-block_leaf rest hs)

pub normal-blocks : (u : U) → IsNormal u → AreBlocks (add_leaves u)
normal-blocks u (sum_of_blocks blocks h e) = subst AreBlocks (sym (ap add_leaves e ∙ add_leaves-row blocks (each-block_leaf blocks h))) h

pub normal-loose : (u : U) → IsNormal u → IsLoose u
normal-loose u h = record { blocks = each-loose (add_leaves u) (normal-blocks u h) }

-- ---- a factor is a term on the way
pub product-loose : (u : U) → IsProduct u → add_leaves u ≡ u ∷ [] → IsLoose u
product-loose u h e = record { blocks = subst (λ (us : List U). Each IsLooseBlock us) (sym e) (loose_product h, tt) }

pub factor-loose : (kind : Kind) (u : U) → IsFactor kind u → IsLoose u
factor-loose kind u h =
    product-loose u (record { factors = subst (λ (us : List U). Each IsSomeFactor us) (sym (factor-leaf kind u h)) (record { kind = kind; is = h }, tt) }) (factor-added kind u h)

pub zero-loose : IsLoose u.Zero
zero-loose = record { blocks = subst (λ (us : List U). Each IsLooseBlock us) (sym add_leaves-Zero) tt }

pub one-product : IsProduct u.One
one-product = record { factors = subst (λ (us : List U). Each IsSomeFactor us) (sym mul_leaves-One) tt }

pub one-loose : IsLoose u.One
one-loose = product-loose u.One one-product add_leaves-One

pub squash-loose : (a : U) → IsNormal a → IsLoose (u.Squash a)
unfolding constructors
squash-loose a h = factor-loose Squash (SquashOf a) (squash h)

-- ---- bare equalities and predicates
some-truth : (kind : Kind) (u : U) → IsFactor kind u → is_truth u ≡ true → IsFactor Mark u
unfolding is_truth
some-truth kind u (equality a b) e = equality a b
some-truth kind u (predicate vs) e = predicate vs
some-truth kind u (no_equality a b) e = absurd (cc)
some-truth kind u (no_predicate vs) e = absurd (cc)
some-truth kind u (relation vs) e = absurd (cc)
some-truth kind u (squash n) e = absurd (cc)
some-truth kind u (negation n f) e = absurd (cc)

row-truth : (us : List U) → Each IsSomeFactor us → is_truth (product_of us) ≡ true → IsFactor Mark (product_of us)
unfolding is_truth constructors
row-truth [] h e = absurd (cc)
row-truth (u ∷ []) h e = some-truth h.0.kind u h.0.is e
row-truth (u ∷ v ∷ us) h e = absurd (cc)

block-truth : (u : U) → IsBlock u → is_truth u ≡ true → IsFactor Mark u
unfolding is_truth
block-truth u (sum_over h) e = absurd (cc)
block-truth u (product_of_factors ms rs ss ns hm ha hs ls hn ln is) e =
    subst (λ v. IsFactor Mark v) (sym is) (row-truth (ms ++ (rs ++ (ss ++ ns))) (four-factors ms rs ss ns hm ha hs hn) (sym (ap is_truth is) ∙ e))

blocks-truth : (us : List U) → AreBlocks us → is_truth (sum_of us) ≡ true → IsFactor Mark (sum_of us)
unfolding is_truth constructors
blocks-truth us no_block e = absurd (cc)
blocks-truth us (block_then {block = b} h no_block) e = block-truth b h e
blocks-truth us (block_then h (block_then k hs)) e = absurd (cc)

normal-truth : (u : U) → IsNormal u → is_truth u ≡ true → IsFactor Mark u
normal-truth u (sum_of_blocks blocks h is) e = subst (λ v. IsFactor Mark v) (sym is) (blocks-truth blocks h (sym (ap is_truth is) ∙ e))

no-mark : (a : U) → IsFactor Mark a → is_truth a ≡ true → IsFactor Mark (Not a)
unfolding is_truth
no-mark a (equality x y) e = no_equality x y
no-mark a (predicate vs) e = no_predicate vs
no-mark a (no_equality x y) e = absurd (cc)
no-mark a (no_predicate vs) e = absurd (cc)

not-by : (b : Bool) (a : U) → is_truth a ≡ b → IsNormal a → IsSomeFactor (Not a)
not-by true a e h = record { kind = Mark; is = no-mark a (normal-truth a h e) e }
not-by false a e h = record { kind = Negation; is = negation h e }

pub not-factor : (a : U) → IsNormal a → IsSomeFactor (u.Not a)
unfolding constructors
not-factor a h = not-by (is_truth a) a refl h

pub not-loose : (a : U) → IsNormal a → IsLoose (u.Not a)
not-loose a h = let f = not-factor a h in factor-loose f.kind (u.Not a) f.is

-- ---- the parts of terms on the way
pub added-loose : (a b : U) → IsLoose a → IsLoose b → IsLoose (u.Add a b)
added-loose a b h k = record { blocks = subst (λ (us : List U). Each IsLooseBlock us) (sym (add_leaves-Add a b)) (each-append IsLooseBlock (add_leaves a) (add_leaves b) h.blocks k.blocks) }

pub left-loose : (a b : U) → IsLoose (u.Add a b) → IsLoose a
left-loose a b h = record { blocks = each-first IsLooseBlock (add_leaves a) (add_leaves b) (subst (λ (us : List U). Each IsLooseBlock us) (add_leaves-Add a b) h.blocks) }

pub right-loose : (a b : U) → IsLoose (u.Add a b) → IsLoose b
right-loose a b h = record { blocks = each-last IsLooseBlock (add_leaves a) (add_leaves b) (subst (λ (us : List U). Each IsLooseBlock us) (add_leaves-Add a b) h.blocks) }

-- a product has no 0, no sum and no sum over all values for a factor
no-zero : (kind : Kind) → IsFactor kind Zero → ⊥
no-zero kind h = elim h [ ]

no-added : (kind : Kind) (a b : U) → IsFactor kind (Add a b) → ⊥
no-added kind a b h = elim h [ ]

no-sum : (kind : Kind) (body : U) → IsFactor kind (Sum body) → ⊥
no-sum kind body h = elim h [ ]

product-added : (u : U) → IsProduct u → add_leaves u ≡ u ∷ []
unfolding add_leaves mul_leaves
product-added Zero h = absurd (no-zero h.factors.0.kind h.factors.0.is)
product-added One h = refl
product-added (Add a b) h = absurd (no-added h.factors.0.kind a b h.factors.0.is)
product-added (Mul a b) h = refl
product-added (SquashOf a) h = refl
product-added (Not a) h = refl
product-added (Sum body) h = refl
product-added (Rel table shape arguments) h = refl
product-added (Eq a b) h = refl
product-added (Pred symbol shape arguments) h = refl

pub loose_block-leaf : (u : U) → IsLooseBlock u → add_leaves u ≡ u ∷ []
unfolding add_leaves
loose_block-leaf u (over_all h) = refl
loose_block-leaf u (loose_product h) = product-added u h

pub loose-of_block : (u : U) → IsLooseBlock u → IsLoose u
loose-of_block u h = record { blocks = subst (λ (us : List U). Each IsLooseBlock us) (sym (loose_block-leaf u h)) (h, tt) }

body-block : (body : U) → IsLooseBlock (Sum body) → IsLooseBlock body
unfolding mul_leaves
body-block body (over_all h) = h
body-block body (loose_product h) = absurd (no-sum h.factors.0.kind body h.factors.0.is)

pub sum_body-block : (body : U) → IsLooseBlock (u.Sum body) → IsLooseBlock body
unfolding constructors
sum_body-block body h = body-block body h

pub block-of_sum : (body : U) → IsLooseBlock body → IsLooseBlock (u.Sum body)
unfolding constructors
block-of_sum body h = over_all h

pub sum_body-loose : (body : U) → IsLoose (u.Sum body) → IsLoose body
sum_body-loose body h = loose-of_block body (sum_body-block body (subst (λ (us : List U). Each IsLooseBlock us) (add_leaves-Sum body) h.blocks).0)

product-of_block : (t : U) → IsLooseBlock t → ((body : U) → t ≡ u.Sum body → ⊥) → IsProduct t
unfolding constructors
product-of_block t (over_all {body = body} h) nowhere = absurd (nowhere body refl)
product-of_block t (loose_product h) nowhere = h

pub product-at : (t : U) → IsLooseBlock t → ((body : U) → t ≡ u.Sum body → ⊥) → IsProduct t
product-at t h nowhere = product-of_block t h nowhere

pub only-product : (t : U) → IsLoose t → (t ≡ u.Zero → ⊥) → ((a b : U) → t ≡ u.Add a b → ⊥) → ((body : U) → t ≡ u.Sum body → ⊥) → IsProduct t
unfolding add_leaves constructors
only-product Zero h not_nothing not_more nowhere = absurd (not_nothing refl)
only-product One h not_nothing not_more nowhere = one-product
only-product (Add a b) h not_nothing not_more nowhere = absurd (not_more a b refl)
only-product (Mul a b) h not_nothing not_more nowhere = product-of_block (Mul a b) h.blocks.0 nowhere
only-product (SquashOf a) h not_nothing not_more nowhere = product-of_block (SquashOf a) h.blocks.0 nowhere
only-product (Not a) h not_nothing not_more nowhere = product-of_block (Not a) h.blocks.0 nowhere
only-product (Sum body) h not_nothing not_more nowhere = absurd (nowhere body refl)
only-product (Rel table shape arguments) h not_nothing not_more nowhere = product-of_block (Rel table shape arguments) h.blocks.0 nowhere
only-product (Eq a b) h not_nothing not_more nowhere = product-of_block (Eq a b) h.blocks.0 nowhere
only-product (Pred symbol shape arguments) h not_nothing not_more nowhere = product-of_block (Pred symbol shape arguments) h.blocks.0 nowhere

pub block-at : (t : U) → IsLoose t → (t ≡ u.Zero → ⊥) → ((a b : U) → t ≡ u.Add a b → ⊥) → IsLooseBlock t
unfolding add_leaves constructors
block-at Zero h not_nothing not_more = absurd (not_nothing refl)
block-at One h not_nothing not_more = h.blocks.0
block-at (Add a b) h not_nothing not_more = absurd (not_more a b refl)
block-at (Mul a b) h not_nothing not_more = h.blocks.0
block-at (SquashOf a) h not_nothing not_more = h.blocks.0
block-at (Not a) h not_nothing not_more = h.blocks.0
block-at (Sum body) h not_nothing not_more = h.blocks.0
block-at (Rel table shape arguments) h not_nothing not_more = h.blocks.0
block-at (Eq a b) h not_nothing not_more = h.blocks.0
block-at (Pred symbol shape arguments) h not_nothing not_more = h.blocks.0

pub multiplied-product : (a b : U) → IsProduct a → IsProduct b → IsProduct (u.Mul a b)
multiplied-product a b h k = record { factors = subst (λ (us : List U). Each IsSomeFactor us) (sym (mul_leaves-Mul a b)) (each-append IsSomeFactor (mul_leaves a) (mul_leaves b) h.factors k.factors) }

pub multiplied-loose : (a b : U) → IsProduct a → IsProduct b → IsLoose (u.Mul a b)
multiplied-loose a b h k = product-loose (u.Mul a b) (multiplied-product a b h k) (add_leaves-Mul a b)

-- ---- what is made
pub blocks-append : (us vs : List U) → AreBlocks us → AreBlocks vs → AreBlocks (us ++ vs)
blocks-append us vs no_block k = k
blocks-append us vs (block_then {rest = rest} h hs) k = block_then h (blocks-append rest vs hs k)

pub in_order-block : (u : U) → IsProduct u → length (of_kind Squash (mul_leaves u)) ≤ 1 → length (of_kind Negation (mul_leaves u)) ≤ 1 → IsBlock (product_of (ordered (mul_leaves u)))
in_order-block u h squashes negations =
    product_of_factors (of_kind Mark (mul_leaves u)) (of_kind Atom (mul_leaves u)) (of_kind Squash (mul_leaves u)) (of_kind Negation (mul_leaves u))
    (are-of_kind Mark (mul_leaves u) h.factors) (are-of_kind Atom (mul_leaves u) h.factors) (are-of_kind Squash (mul_leaves u) h.factors) squashes
    (are-of_kind Negation (mul_leaves u) h.factors) negations refl

pub in_row-normal : (u : U) → AreBlocks (add_leaves u) → IsNormal (sum_of (add_leaves u))
in_row-normal u h = sum_of_blocks (add_leaves u) h refl
