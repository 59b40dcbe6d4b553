-- The size that is reckoned from a sound tree is the size of its term.
use Rattle.std.proofs.Common.{◌≡◌, ℕ, zero, suc, ◌+◌, min, max, Bool, true, false, List, [], ◌∷◌, ◌++◌, map, length, get_or, refl, ap, sym, subst, ◌∙◌, arith}
use Rattle.std.proofs.lemmas.List.{map-append}
use Rattle.sql_model.specs.Syntax.{SetOp, UnionAll, Union, Except, Intersect}
use Rattle.sql_model.specs.Aggregates.{counts_rows, number_of}
use Rattle.u_terms.specs.Syntax.{U, Val}
use Rattle.u_terms.specs.declared.term.U.TheVariants as u
use Rattle.u_terms.specs.declared.term.Val.TheVariants as v
use Rattle.u_terms.specs.Size.{nodes, value_nodes, list_nodes, depth, value_depth, list_depth}
use Rattle.u_terms.specs.Binding.{closed_at, closed_path}
use Rattle.u_terms.proofs.MappedSizes.{closed_at-nodes, closed_at-depth, closed_path-nodes, closed_path-depth, sums-nodes, sums-depth}
use Rattle.u_terms.proofs.Sizes.{nodes-Zero, nodes-One, nodes-Add, nodes-Mul, nodes-Squash, nodes-Not, nodes-Rel, nodes-Eq, nodes-Pred, nodes-Free, nodes-Lit, nodes-Fun, nodes-Agg, depth-Zero, depth-One, depth-Add, depth-Mul, depth-Squash, depth-Not, depth-Rel, depth-Eq, depth-Pred, depth-Free, depth-Lit, depth-Fun, depth-Agg, list_depth-cons}
use Rattle.std.proofs.lemmas.List.Sums.{sum_by-cons}
use Rattle.scope_core.specs.Scope.{Place}
use Rattle.scope_core.specs.Width.{width}
use Rattle.scope_core.specs.Sound.{SeenBlocks, SeenRows, SeenGroup, widths, member_seen, IsSound, IsSoundBlock, IsSoundHaving, IsSoundScalar, IsSoundAggregate, AreSoundEntries, IsSoundSource, IsSoundCondition, AreSoundConditions, IsSoundValue, IsSoundArgument, AreSoundValues}
use Rattle.scope_core.specs.Syntax as r
use Rattle.sql_to_u.specs.Scopes.{Members, Scope, count_columns, firsts, rows_here, group_here, members_of, member_scope, counted}
use Rattle.sql_to_u.specs.Translation.{TermAt, query_term, block_term, source_terms, source_term, item_factors, condition_term, condition_terms, having_factors, value_term, value_terms, argument_term, scalar_term, first_term}
use Rattle.sql_to_u.specs.declared.product.GroupSize.{GroupSize}
use Rattle.sql_to_u.specs.declared.product.Product.{Product}
use Rattle.sql_to_u.specs.declared.product.Product.TheVariants as p
use Rattle.sql_to_u.specs.Sizes.{no_members, query_size, block_size, source_sizes, source_size, item_sizes, condition_size, condition_sizes, having_sizes, value_size, values_size, argument_size, scalar_size, first_size}
use Rattle.sql_to_u.specs.declared.size.Size.{Size}
use Rattle.sql_to_u.proofs.sizes.ProductSizes.{folded, sized, made, cap-add, cap-count, product-is, with-append}
use Rattle.sql_to_u.specs.Factors.{sum_of, over_names, squash_if, combined_terms, names_from, key_equalities}
use Rattle.u_terms.specs.Products.{product_of}
use Rattle.sql_to_u.specs.Sizes.{capped, term_size, value_term_size, leaf, under, beside, nothing, both, over_size, names_size, product_size, with_factor, with_factors, finished, squash_size_if, combined_size, leaves, key_sizes}

pub size-closed_at : (a : U) (x : ℕ) → term_size (closed_at a x) ≡ term_size a
size-closed_at a x = λ i. record { nodes = capped (closed_at-nodes a x i); depth = capped (closed_at-depth a x i) }

-- ---- capped arithmetic, for any cap
cap-both : (c a b : ℕ) → min (min (min a c + min b c) c + 1) c ≡ min (1 + a + b) c
cap-both c a b = omega arith

cap-max : (c a b : ℕ) → min (max (min a c) (min b c) + 1) c ≡ min (1 + max a b) c
cap-max c a b = omega arith

cap-beside : (c a b : ℕ) → min (min a c + min b c) c ≡ min (a + b) c
cap-beside c a b = omega arith

cap-deepest : (c a b : ℕ) → max (min a c) (min b c) ≡ min (max a b) c
cap-deepest c a b = omega arith

cap-one : (c a : ℕ) → min (min a c + 1) c ≡ min (1 + a) c
cap-one c a = omega arith

-- ---- at each constructor, as code writes it

size-Zero : term_size u.Zero ≡ leaf
size-Zero = rw (nodes-Zero, depth-Zero) refl

size-One : term_size u.One ≡ leaf
size-One = rw (nodes-One, depth-One) refl

size-Squash : (a : U) → term_size (u.Squash a) ≡ under (term_size a)
size-Squash a = rw (nodes-Squash a, depth-Squash a) (made _ _ _ _ (sym (cap-one _ (nodes a))) (sym (cap-one _ (depth a))))

size-Not : (a : U) → term_size (u.Not a) ≡ under (term_size a)
size-Not a = rw (nodes-Not a, depth-Not a) (made _ _ _ _ (sym (cap-one _ (nodes a))) (sym (cap-one _ (depth a))))

size-Add : (a b : U) → term_size (u.Add a b) ≡ both (term_size a) (term_size b)
size-Add a b = rw (nodes-Add a b, depth-Add a b) (made _ _ _ _ (sym (cap-both _ (nodes a) (nodes b))) (sym (cap-max _ (depth a) (depth b))))

size-Mul : (a b : U) → term_size (u.Mul a b) ≡ both (term_size a) (term_size b)
size-Mul a b = rw (nodes-Mul a b, depth-Mul a b) (made _ _ _ _ (sym (cap-both _ (nodes a) (nodes b))) (sym (cap-max _ (depth a) (depth b))))

size-Eq : (a b : Val) → term_size (u.Eq a b) ≡ both (value_term_size a) (value_term_size b)
size-Eq a b = rw (nodes-Eq a b, depth-Eq a b) (made _ _ _ _ (sym (cap-both _ (value_nodes a) (value_nodes b))) (sym (cap-max _ (value_depth a) (value_depth b))))

-- of a list of values
abbrev pub list_size : List Val → Size
list_size [] = nothing
list_size (v ∷ vs) = beside (value_term_size v) (list_size vs)

list_size-is : (vs : List Val) → list_size vs ≡ sized (capped (list_nodes vs)) (capped (list_depth vs))
list_size-is [] = refl
list_size-is (v ∷ vs) =
    ap (beside (value_term_size v)) (list_size-is vs)
    ∙ (rw (sum_by-cons value_nodes v vs, list_depth-cons v vs) (made _ _ _ _ (cap-beside _ (value_nodes v) (list_nodes vs)) (cap-deepest _ (value_depth v) (list_depth vs))))

size-Rel : (table : ℕ) (vs : List Val) → term_size (u.Rel table vs) ≡ under (list_size vs)
size-Rel table vs = rw (list_size-is vs, nodes-Rel table vs, depth-Rel table vs) (made _ _ _ _ (sym (cap-one _ (list_nodes vs))) (sym (cap-one _ (list_depth vs))))

size-Pred : (symbol : ℕ) (vs : List Val) → term_size (u.Pred symbol vs) ≡ under (list_size vs)
size-Pred symbol vs = rw (list_size-is vs, nodes-Pred symbol vs, depth-Pred symbol vs) (made _ _ _ _ (sym (cap-one _ (list_nodes vs))) (sym (cap-one _ (list_depth vs))))

size-Fun : (symbol : ℕ) (vs : List Val) → value_term_size (v.Fun symbol vs) ≡ under (list_size vs)
size-Fun symbol vs = rw (list_size-is vs, nodes-Fun symbol vs, depth-Fun symbol vs) (made _ _ _ _ (sym (cap-one _ (list_nodes vs))) (sym (cap-one _ (list_depth vs))))

size-Free : (name : ℕ) → value_term_size (v.Free name) ≡ leaf
size-Free name = rw (nodes-Free name, depth-Free name) refl

size-Lit : (literal : ℕ) → value_term_size (v.Lit literal) ≡ leaf
size-Lit literal = rw (nodes-Lit literal, depth-Lit literal) refl

size-Agg : (aggregate : ℕ) (a : U) → value_term_size (v.Agg aggregate a) ≡ under (term_size a)
size-Agg aggregate a = rw (nodes-Agg aggregate a, depth-Agg aggregate a) (made _ _ _ _ (sym (cap-one _ (nodes a))) (sym (cap-one _ (depth a))))

-- ---- of what terms are built of
size-over_names : (first count : ℕ) (a : U) → term_size (over_names first count a) ≡ over_size count (term_size a)
size-over_names first count a =
    rw (sums-nodes count (closed_path a first count), sums-depth count (closed_path a first count), closed_path-nodes a first count, closed_path-depth a first count)
    (made _ _ _ _ (sym (cap-add _ (nodes a) count)) (sym (cap-add _ (depth a) count)))

-- the number of sums may be capped
size-over_entries : (first count : ℕ) (a : U) → term_size (over_names first count a) ≡ over_size (capped count) (term_size a)
size-over_entries first count a =
    size-over_names first count a
    ∙ made _ _ _ _ (sym (cap-count _ (capped (nodes a)) count)) (sym (cap-count _ (capped (depth a)) count))

folded-product : (fs : List U) → term_size (product_of fs) ≡ folded (map term_size fs)
folded-product [] = size-One
folded-product (f ∷ []) = refl
folded-product (f ∷ g ∷ rest) = size-Mul f (product_of (g ∷ rest)) ∙ ap (both (term_size f)) (folded-product (g ∷ rest))

folded-sum : (fs : List U) → term_size (sum_of fs) ≡ folded (map term_size fs)
folded-sum [] = size-Zero
folded-sum (f ∷ []) = refl
folded-sum (f ∷ g ∷ rest) = size-Add f (sum_of (g ∷ rest)) ∙ ap (both (term_size f)) (folded-sum (g ∷ rest))

size-product : (fs : List U) → term_size (product_of fs) ≡ product_size (map term_size fs)
size-product fs = folded-product fs ∙ sym (product-is (map term_size fs))

size-sum : (fs : List U) → term_size (sum_of fs) ≡ product_size (map term_size fs)
size-sum fs = folded-sum fs ∙ sym (product-is (map term_size fs))

-- factors after others
after : (q : Product) (fs gs : List U) (ss ts : List Size) → map term_size fs ≡ ss → map term_size gs ≡ ts
    → with_factors q (map term_size (fs ++ gs)) ≡ with_factors (with_factors q ss) ts
after q fs gs ss ts e f =
    ap (with_factors q) (map-append term_size fs gs) ∙ with-append q (map term_size fs) (map term_size gs) ∙ (λ i. with_factors (with_factors q (e i)) (f i))

three : (fs gs hs : List U) (ss ts us : List Size) → map term_size fs ≡ ss → map term_size gs ≡ ts → map term_size hs ≡ us
    → with_factors p.Empty (map term_size ((fs ++ gs) ++ hs)) ≡ with_factors (with_factors (with_factors p.Empty ss) ts) us
three fs gs hs ss ts us e f h =
    after p.Empty (fs ++ gs) hs (map term_size (fs ++ gs)) us refl h ∙ ap (λ q. with_factors q us) (after p.Empty fs gs ss ts e f)

size-squash_if : (b : Bool) (a : U) → term_size (squash_if b a) ≡ squash_size_if b (term_size a)
size-squash_if true a = size-Squash a
size-squash_if false a = refl

size-combined : (op : SetOp) (p q : U) → term_size (combined_terms op p q) ≡ combined_size op (term_size p) (term_size q)
size-combined UnionAll p q = size-Add p q
size-combined Union p q = size-Squash (u.Add p q) ∙ ap under (size-Add p q)
size-combined Except p q = size-Mul (u.Squash p) (u.Not q) ∙ (λ i. both (size-Squash p i) (size-Not q i))
size-combined Intersect p q = size-Squash (u.Mul p q) ∙ ap under (size-Mul p q)

pub size-names : (first count : ℕ) → map value_term_size (names_from first count) ≡ leaves count
size-names first zero = refl
size-names first (suc count) = λ i. size-Free first i ∷ size-names (first + 1) count i

list_size-names : (first count : ℕ) → list_size (names_from first count) ≡ names_size count
list_size-names first zero = refl
list_size-names first (suc count) = λ i. beside (size-Free first i) (list_size-names (first + 1) count i)

size-keys : (columns : List Place) (ss : List ℕ) (key : ℕ) → map term_size (key_equalities columns ss key) ≡ key_sizes columns
size-keys [] ss key = refl
size-keys (c ∷ columns) ss key =
    λ i. (size-Eq (v.Free (get_or ss c.0 0 + c.1)) (v.Free key) ∙ (λ j. both (size-Free (get_or ss c.0 0 + c.1) j) (size-Free key j))) i ∷ size-keys columns ss (key + 1) i

-- ---- of the translation
-- the sizes of the members' factors, at any names
pub record AreSized (members : Members) (sizes : GroupSize) : Type 0 where
  pub columns : capped members.columns ≡ sizes.columns
  pub factors : (first : ℕ) → with_factors p.Empty (map term_size (members.factors first)) ≡ sizes.factors

size-counted : (members : Members) (sizes : GroupSize) (a : Val) (s : Size) (name : ℕ) → AreSized members sizes → value_term_size a ≡ s
    → term_size (counted members a name) ≡ over_size sizes.columns (finished (with_factor sizes.factors (both s leaf)))
size-counted members sizes a s name m e =
    let fs = members.factors (name + 1) in
    let last : term_size (u.Eq a (v.Free name)) ≡ both s leaf = size-Eq a (v.Free name) ∙ (λ i. both (e i) (size-Free name i)) in
    let inside : term_size (product_of (fs ++ u.Eq a (v.Free name) ∷ [])) ≡ finished (with_factor sizes.factors (both s leaf)) =
    size-product (fs ++ u.Eq a (v.Free name) ∷ [])
    ∙ ap finished (after p.Empty fs (u.Eq a (v.Free name) ∷ []) (map term_size fs) (both s leaf ∷ []) refl (λ j. last j ∷ [])
    ∙ ap (λ q. with_factor q (both s leaf)) (m.factors (name + 1))) in
    size-over_entries (name + 1) members.columns (product_of (fs ++ u.Eq a (v.Free name) ∷ [])) ∙ (λ i. over_size (m.columns i) (inside i))

nobody-sized : (firsts : List ℕ) → AreSized (rows_here firsts).members no_members
nobody-sized firsts = record { columns = refl; factors = λ first. refl }

-- ---- values beside each other, reckoned one by one
from-nothing : (n d : ℕ) → sized (capped n) (capped d) ≡ sized (capped (0 + n)) (capped (max 0 d))
from-nothing n d =
    let e : n ≡ 0 + n = omega arith in let f : d ≡ max 0 d = omega arith in
    made _ _ _ _ (ap capped e) (ap capped f)

all-values : (vs : List Val) (s : Size) → s ≡ sized (capped (0 + list_nodes vs)) (capped (max 0 (list_depth vs))) → list_size vs ≡ s
all-values vs s e = list_size-is vs ∙ from-nothing (list_nodes vs) (list_depth vs) ∙ sym e

of-none : (n d : ℕ) → sized (capped n) (capped d) ≡ sized (capped (n + 0)) (capped (max d 0))
of-none n d =
    let e : n ≡ n + 0 = omega arith in let f : d ≡ max d 0 = omega arith in
    made _ _ _ _ (ap capped e) (ap capped f)

of-more : (n d : ℕ) (x : Val) (xs : List Val)
    → sized (capped (n + value_nodes x + list_nodes xs)) (capped (max (max d (value_depth x)) (list_depth xs)))
    ≡ sized (capped (n + list_nodes (x ∷ xs))) (capped (max d (list_depth (x ∷ xs))))
of-more n d x xs =
    let e : n + value_nodes x + list_nodes xs ≡ n + list_nodes (x ∷ xs) = omega (arith, sum_by-cons value_nodes x xs) in
    let f : max (max d (value_depth x)) (list_depth xs) ≡ max d (list_depth (x ∷ xs)) = omega (arith, list_depth-cons x xs) in
    made _ _ _ _ (ap capped e) (ap capped f)

module _ (IsTable IsView : ℕ → ℕ → Type 0) (views : List TermAt) (sizes : List Size)
    (view : (place wide : ℕ) → IsView place wide → (first next : ℕ) → term_size (get_or views place (λ row next. u.Zero) (names_from first wide) next) ≡ get_or sizes place leaf) where
  mutual
    unfolding query_term query_size IsSound

    pub query-sized : (q : r.RQuery) (shape : SeenBlocks) (scope : Scope) (row : List Val) (ss : List Size) (next : ℕ) → IsSound IsTable IsView shape q → map value_term_size row ≡ ss
        → term_size (query_term views q scope row next) ≡ query_size sizes q ss
    query-sized (r.OfBlock block) shape scope row ss next h e = block-sized block shape scope row ss next h e
    query-sized (r.Set op left right) shape scope row ss next h e =
        size-combined op (query_term views left scope row next) (query_term views right scope row next)
        ∙ (λ i. combined_size op (query-sized left shape scope row ss next h.0 e i) (query-sized right shape scope row ss next h.1 e i))

    pub block-sized : (b : r.RBlock) (shape : SeenBlocks) (scope : Scope) (row : List Val) (ss : List Size) (next : ℕ) → IsSoundBlock IsTable IsView shape b → map value_term_size row ≡ ss
        → term_size (block_term views b scope row next) ≡ block_size sizes b ss
    block-sized (r.Select is_distinct s entries s' conds r.Plain having s'' items) shape scope row ss next h e =
        let z = next + count_columns entries in
        let here = rows_here (firsts entries next) ∷ scope in
        let fs = source_terms views entries scope next z in
        let gs = condition_terms views conds here z in
        let hs = item_factors views items here row z in
        let inside = SeenRows (widths entries) ∷ shape in
        let nobody = nobody-sized (firsts entries next) in
        size-squash_if is_distinct (over_names next (count_columns entries) (product_of ((fs ++ gs) ++ hs)))
        ∙ ap (squash_size_if is_distinct) (size-over_entries next (count_columns entries) (product_of ((fs ++ gs) ++ hs))
        ∙ ap (over_size (capped (count_columns entries))) (size-product ((fs ++ gs) ++ hs)
        ∙ ap finished (three fs gs hs _ _ _ (sources-sized entries shape scope next z h.0) (conditions-sized conds inside here no_members z h.1 nobody)
        (items-sized items inside here no_members row ss z h.3 nobody e))))
    block-sized (r.Select is_distinct s entries s' conds r.One having s'' items) shape scope row ss next h e =
        let factors : ℕ → List U = λ first. source_terms views entries scope first (first + count_columns entries) ++ condition_terms views conds (rows_here (firsts entries first) ∷ scope) (first + count_columns entries) in
        let members : Members = record { columns = count_columns entries; firsts = λ first. firsts entries first; factors = factors } in
        let ms : GroupSize = record {
          columns = capped (count_columns entries);
          factors = with_factors (with_factors p.Empty (source_sizes sizes entries)) (condition_sizes sizes conds no_members);
        } in
        let m : AreSized members ms = record {
          columns = refl;
          factors = λ first. after p.Empty (source_terms views entries scope first (first + count_columns entries)) (condition_terms views conds (rows_here (firsts entries first) ∷ scope) (first + count_columns entries)) _ _
              (sources-sized entries shape scope first (first + count_columns entries) h.0)
              (conditions-sized conds (SeenRows (widths entries) ∷ shape) (rows_here (firsts entries first) ∷ scope) no_members (first + count_columns entries) h.1 (nobody-sized (firsts entries first)));
        } in
        let inside = group_here next members ∷ scope in
        let shape' = SeenGroup 0 (widths entries) ∷ shape in
        let gs = having_factors views having inside next in
        let hs = item_factors views items inside row next in
        size-squash_if is_distinct (product_of (gs ++ hs))
        ∙ ap (squash_size_if is_distinct) (size-product (gs ++ hs)
        ∙ ap finished (after p.Empty gs hs _ _ (having-sized having shape' inside ms next h.2 m) (items-sized items shape' inside ms row ss next h.3 m e)))
    block-sized (r.Select is_distinct s entries s' conds (r.Keys columns) having s'' items) shape scope row ss next h e =
        let z = next + length columns in
        let fronts : ℕ → List U = λ first. source_terms views entries scope first (first + count_columns entries) ++ condition_terms views conds (rows_here (firsts entries first) ∷ scope) (first + count_columns entries) in
        let factors : ℕ → List U = λ first. fronts first ++ key_equalities columns (firsts entries first) next in
        let members : Members = record { columns = count_columns entries; firsts = λ first. firsts entries first; factors = factors } in
        let ms : GroupSize = record {
          columns = capped (count_columns entries);
          factors = with_factors (with_factors (with_factors p.Empty (source_sizes sizes entries)) (condition_sizes sizes conds no_members)) (key_sizes columns);
        } in
        let m : AreSized members ms = record {
          columns = refl;
          factors = λ first.
              after p.Empty (fronts first) (key_equalities columns (firsts entries first) next) (map term_size (fronts first)) (key_sizes columns) refl (size-keys columns (firsts entries first) next)
              ∙ ap (λ q. with_factors q (key_sizes columns)) (after p.Empty (source_terms views entries scope first (first + count_columns entries)) (condition_terms views conds (rows_here (firsts entries first) ∷ scope) (first + count_columns entries)) _ _
              (sources-sized entries shape scope first (first + count_columns entries) h.0)
              (conditions-sized conds (SeenRows (widths entries) ∷ shape) (rows_here (firsts entries first) ∷ scope) no_members (first + count_columns entries) h.1 (nobody-sized (firsts entries first))));
        } in
        let inside = group_here next members ∷ scope in
        let shape' = SeenGroup (length columns) (widths entries) ∷ shape in
        let K = over_names z (count_columns entries) (product_of (factors z)) in
        let some : term_size (u.Squash K) ≡ under (over_size ms.columns (finished ms.factors)) =
        size-Squash K ∙ ap under (size-over_entries z (count_columns entries) (product_of (factors z))
        ∙ ap (over_size (capped (count_columns entries))) (size-product (factors z) ∙ ap finished (m.factors z))) in
        let gs = having_factors views having inside z in
        let hs = item_factors views items inside row z in
        size-squash_if is_distinct (over_names next (length columns) (product_of (u.Squash K ∷ gs ++ hs)))
        ∙ ap (squash_size_if is_distinct) (size-over_names next (length columns) (product_of (u.Squash K ∷ gs ++ hs))
        ∙ ap (over_size (length columns)) (size-product (u.Squash K ∷ gs ++ hs)
        ∙ ap finished (ap (λ x. with_factors (with_factor p.Empty x) (map term_size (gs ++ hs))) some
        ∙ after (with_factor p.Empty (under (over_size ms.columns (finished ms.factors)))) gs hs _ _
        (having-sized having shape' inside ms z h.2 m) (items-sized items shape' inside ms row ss z h.3 m e))))

    pub sources-sized : {k : _} (es : r.Entries k) (shape : SeenBlocks) (scope : Scope) (first next : ℕ) → AreSoundEntries IsTable IsView shape es
        → map term_size (source_terms views es scope first next) ≡ source_sizes sizes es
    sources-sized r.NoEntries shape scope first next h = refl
    sources-sized (r.EntryThen source wide rest) shape scope first next h =
        λ i. source-sized source wide shape scope first next h.0 i ∷ sources-sized rest shape scope (first + wide) next h.1 i

    pub source-sized : (s : r.RSource) (wide : ℕ) (shape : SeenBlocks) (scope : Scope) (first next : ℕ) → IsSoundSource IsTable IsView shape s wide
        → term_size (source_term views s scope (names_from first wide) next) ≡ source_size sizes s wide
    source-sized (r.Table number) wide shape scope first next h = size-Rel number (names_from first wide) ∙ ap under (list_size-names first wide)
    source-sized (r.View place) wide shape scope first next h = view place wide h first next
    source-sized (r.Derived query) wide shape scope first next h = query-sized query shape scope (names_from first wide) (leaves wide) next h.0 (size-names first wide)

    pub items-sized : {k : _} (items : r.Values k) (shape : SeenBlocks) (scope : Scope) (ms : GroupSize) (row : List Val) (ss : List Size) (next : ℕ)
        → AreSoundValues IsTable IsView shape items → AreSized (members_of scope) ms → map value_term_size row ≡ ss
        → map term_size (item_factors views items scope row next) ≡ item_sizes sizes items ms ss
    items-sized r.NoValues shape scope ms row ss next h m e = refl
    items-sized (r.ValueThen item rest) shape scope ms [] ss next h m e = subst (λ ss. [] ≡ item_sizes sizes (r.ValueThen item rest) ms ss) e refl
    items-sized (r.ValueThen item rest) shape scope ms (value ∷ row) ss next h m e =
        (λ i. (size-Eq (value_term views item scope next) value ∙ ap (λ q. both q (value_term_size value)) (value-sized item shape scope ms next h.0 m)) i
        ∷ items-sized rest shape scope ms row (map value_term_size row) next h.1 m refl i)
        ∙ ap (item_sizes sizes (r.ValueThen item rest) ms) e

    pub condition-sized : (c : r.RCond) (shape : SeenBlocks) (scope : Scope) (ms : GroupSize) (next : ℕ) → IsSoundCondition IsTable IsView shape c → AreSized (members_of scope) ms
        → term_size (condition_term views c scope next) ≡ condition_size sizes c ms
    condition-sized (r.Eq left right) shape scope ms next h m =
        size-Eq (value_term views left scope next) (value_term views right scope next)
        ∙ (λ i. both (value-sized left shape scope ms next h.0 m i) (value-sized right shape scope ms next h.1 m i))
    condition-sized (r.Pred sym s args) shape scope ms next h m = size-Pred sym (value_terms views args scope next) ∙ ap under (all-values (value_terms views args scope next) (values_size sizes args ms nothing) (values-sized args shape scope ms next 0 0 h m))
    condition-sized (r.And s parts) shape scope ms next h m = size-product (condition_terms views parts scope next) ∙ ap product_size (conditions-sized parts shape scope ms next h m)
    condition-sized (r.Or s parts) shape scope ms next h m =
        size-Squash (sum_of (condition_terms views parts scope next)) ∙ ap under (size-sum (condition_terms views parts scope next) ∙ ap product_size (conditions-sized parts shape scope ms next h m))
    condition-sized (r.Not part) shape scope ms next h m = size-Not (condition_term views part scope next) ∙ ap under (condition-sized part shape scope ms next h m)
    condition-sized (r.Exists query) shape scope ms next h m =
        let k = width query in
        let a = query_term views query scope (names_from next k) (next + k) in
        size-Squash (over_names next k a) ∙ ap under (size-over_names next k a ∙ ap (over_size k) (query-sized query shape scope (names_from next k) (leaves k) (next + k) h.1 (size-names next k)))
    condition-sized (r.In left query) shape scope ms next h m =
        let a = value_term views left scope next in
        size-Squash (query_term views query scope (a ∷ []) next)
        ∙ ap under (query-sized query shape scope (a ∷ []) (value_size sizes left ms ∷ []) next h.2 (λ i. value-sized left shape scope ms next h.1 m i ∷ []))

    pub conditions-sized : {k : _} (cs : r.Conditions k) (shape : SeenBlocks) (scope : Scope) (ms : GroupSize) (next : ℕ) → AreSoundConditions IsTable IsView shape cs → AreSized (members_of scope) ms
        → map term_size (condition_terms views cs scope next) ≡ condition_sizes sizes cs ms
    conditions-sized r.NoConditions shape scope ms next h m = refl
    conditions-sized (r.ConditionThen condition rest) shape scope ms next h m =
        λ i. condition-sized condition shape scope ms next h.0 m i ∷ conditions-sized rest shape scope ms next h.1 m i

    pub having-sized : (having : r.MaybeCondition) (shape : SeenBlocks) (scope : Scope) (ms : GroupSize) (next : ℕ) → IsSoundHaving IsTable IsView shape having → AreSized (members_of scope) ms
        → map term_size (having_factors views having scope next) ≡ having_sizes sizes having ms
    having-sized r.NoCondition shape scope ms next h m = refl
    having-sized (r.ACondition (r.And s parts)) shape scope ms next h m = conditions-sized parts shape scope ms next h.1 m
    having-sized (r.ACondition (r.Eq left right)) shape scope ms next h m = λ i. condition-sized (r.Eq left right) shape scope ms next h.1 m i ∷ []
    having-sized (r.ACondition (r.Pred sym s args)) shape scope ms next h m = λ i. condition-sized (r.Pred sym s args) shape scope ms next h.1 m i ∷ []
    having-sized (r.ACondition (r.Or s parts)) shape scope ms next h m = λ i. condition-sized (r.Or s parts) shape scope ms next h.1 m i ∷ []
    having-sized (r.ACondition (r.Not part)) shape scope ms next h m = λ i. condition-sized (r.Not part) shape scope ms next h.1 m i ∷ []
    having-sized (r.ACondition (r.Exists query)) shape scope ms next h m = λ i. condition-sized (r.Exists query) shape scope ms next h.1 m i ∷ []
    having-sized (r.ACondition (r.In left query)) shape scope ms next h m = λ i. condition-sized (r.In left query) shape scope ms next h.1 m i ∷ []

    pub value-sized : (a : r.RVal) (shape : SeenBlocks) (scope : Scope) (ms : GroupSize) (next : ℕ) → IsSoundValue IsTable IsView shape a → AreSized (members_of scope) ms
        → value_term_size (value_term views a scope next) ≡ value_size sizes a ms
    value-sized (r.Col up entry col) shape scope ms next h m = size-Free _
    value-sized (r.Key place) shape scope ms next h m = size-Free _
    value-sized (r.Lit lit) shape scope ms next h m = size-Lit lit
    value-sized (r.Fun sym s args) shape scope ms next h m = size-Fun sym (value_terms views args scope next) ∙ ap under (all-values (value_terms views args scope next) (values_size sizes args ms nothing) (values-sized args shape scope ms next 0 0 h m))
    value-sized (r.Agg fun is_distinct argument) shape scope ms next h m =
        let members = members_of scope in
        let inside = member_scope scope (next + 1) in
        let a = argument_term views argument (counts_rows fun is_distinct) inside (next + 1 + members.columns) in
        let term = squash_if is_distinct (counted members a next) in
        size-Agg (number_of fun) (closed_at term next)
        ∙ ap under (size-closed_at term next ∙ size-squash_if is_distinct (counted members a next)
        ∙ ap (squash_size_if is_distinct) (size-counted members ms a (argument_size sizes argument (counts_rows fun is_distinct)) next m
        (argument-sized argument (counts_rows fun is_distinct) (member_seen shape) inside (next + 1 + members.columns) h.1 (record { columns = refl; factors = λ first. refl }))))
    value-sized (r.Sub block) shape scope ms next h m = scalar-sized block shape scope next h.1

    -- after values with n nodes, of depth d
    values-sized : {k : _} (es : r.Values k) (shape : SeenBlocks) (scope : Scope) (ms : GroupSize) (next n d : ℕ) → AreSoundValues IsTable IsView shape es → AreSized (members_of scope) ms
        → values_size sizes es ms (sized (capped n) (capped d))
        ≡ sized (capped (n + list_nodes (value_terms views es scope next))) (capped (max d (list_depth (value_terms views es scope next))))
    values-sized r.NoValues shape scope ms next n d h m = of-none n d
    values-sized (r.ValueThen a rest) shape scope ms next n d h m =
        let x = value_term views a scope next in
        let xs = value_terms views rest scope next in
        ap (λ q. values_size sizes rest ms (beside (sized (capped n) (capped d)) q)) (sym (value-sized a shape scope ms next h.0 m))
        ∙ ap (values_size sizes rest ms) (made _ _ _ _ (cap-beside _ n (value_nodes x)) (cap-deepest _ d (value_depth x)))
        ∙ values-sized rest shape scope ms next (n + value_nodes x) (max d (value_depth x)) h.1 m
        ∙ of-more n d x xs

    pub argument-sized : (argument : r.MaybeArgument) (counting : Bool) (shape : SeenBlocks) (scope : Scope) (next : ℕ) → IsSoundArgument IsTable IsView shape argument → AreSized (members_of scope) no_members
        → value_term_size (argument_term views argument counting scope next) ≡ argument_size sizes argument counting
    argument-sized r.NoArgument counting shape scope next h m = size-Lit 0
    argument-sized (r.AnArgument a) true shape scope next h m = size-Lit 0
    argument-sized (r.AnArgument a) false shape scope next h m = value-sized a shape scope no_members next h m

    pub scalar-sized : (b : r.RBlock) (shape : SeenBlocks) (scope : Scope) (next : ℕ) → IsSoundScalar IsTable IsView shape b
        → value_term_size (scalar_term views b scope next) ≡ scalar_size sizes b
    scalar-sized (r.Select is_distinct s entries s' conds r.One r.NoCondition s'' items) shape scope next h =
        let factors : ℕ → List U = λ first. source_terms views entries scope first (first + count_columns entries) ++ condition_terms views conds (rows_here (firsts entries first) ∷ scope) (first + count_columns entries) in
        let members : Members = record { columns = count_columns entries; firsts = λ first. firsts entries first; factors = factors } in
        let ms : GroupSize = record {
          columns = capped (count_columns entries);
          factors = with_factors (with_factors p.Empty (source_sizes sizes entries)) (condition_sizes sizes conds no_members);
        } in
        let m : AreSized members ms = record {
          columns = refl;
          factors = λ first. after p.Empty (source_terms views entries scope first (first + count_columns entries)) (condition_terms views conds (rows_here (firsts entries first) ∷ scope) (first + count_columns entries)) _ _
              (sources-sized entries shape scope first (first + count_columns entries) h.0)
              (conditions-sized conds (SeenRows (widths entries) ∷ shape) (rows_here (firsts entries first) ∷ scope) no_members (first + count_columns entries) h.1 (nobody-sized (firsts entries first)));
        } in
        first-sized items 0 (widths entries) shape (group_here next members ∷ scope) ms next h.2 m
    scalar-sized (r.Select is_distinct s entries s' conds r.One (r.ACondition having) s'' items) shape scope next h = absurd h
    scalar-sized (r.Select is_distinct s entries s' conds r.Plain having s'' items) shape scope next h = absurd h
    scalar-sized (r.Select is_distinct s entries s' conds (r.Keys columns) having s'' items) shape scope next h = absurd h

    pub first-sized : {k : _} (es : r.Values k) (count : ℕ) (ks : List ℕ) (shape : SeenBlocks) (scope : Scope) (ms : GroupSize) (next : ℕ)
        → IsSoundAggregate IsTable IsView (SeenGroup count ks ∷ shape) es → AreSized (members_of scope) ms
        → value_term_size (first_term views es scope next) ≡ first_size sizes es ms
    first-sized r.NoValues count ks shape scope ms next h m = absurd h
    first-sized (r.ValueThen (r.Agg fun is_distinct argument) r.NoValues) count ks shape scope ms next h m = value-sized (r.Agg fun is_distinct argument) (SeenGroup count ks ∷ shape) scope ms next (tt, h) m
    first-sized (r.ValueThen (r.Agg fun is_distinct argument) (r.ValueThen a rest)) count ks shape scope ms next h m = absurd h
    first-sized (r.ValueThen (r.Col up entry col) rest) count ks shape scope ms next h m = absurd h
    first-sized (r.ValueThen (r.Key place) rest) count ks shape scope ms next h m = absurd h
    first-sized (r.ValueThen (r.Lit lit) rest) count ks shape scope ms next h m = absurd h
    first-sized (r.ValueThen (r.Fun sym s args) rest) count ks shape scope ms next h m = absurd h
    first-sized (r.ValueThen (r.Sub block) rest) count ks shape scope ms next h m = absurd h
