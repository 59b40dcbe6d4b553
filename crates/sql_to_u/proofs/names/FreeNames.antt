-- The free names of a sound tree's term are below the next name.
use Rattle.std.proofs.Common.{◌≡◌, ◌≢◌, ℕ, zero, suc, ◌+◌, ◌-◌, ◌<◌, ◌≤◌, Bool, true, false, List, [], ◌∷◌, ◌++◌, length, get_or, refl, ap, sym, subst, arith, inl, inr, append_assoc, ◌∙◌}
use Rattle.std.specs.Prelude.{nat_eq}
use Rattle.std.proofs.lemmas.List.{append-nil}
use Rattle.std.proofs.lemmas.Bool.{cases_Bool}
use Rattle.std.proofs.lemmas.Bool.Decides.{nat_tests}
use Rattle.data_model.specs.Lists.{Each}
use Rattle.sql_model.specs.Syntax.{SetOp, UnionAll, Union, Except, Intersect}
use Rattle.sql_model.specs.Aggregates.{counts_rows, number_of}
use Rattle.u_terms.specs.Syntax.{U, Zero, One, Add, Mul, Squash, Not, Sum, Rel, Eq, Pred, Val, Bound, Free, Lit, Fun, Agg, Vals, NoVals, ValThen, constructors}
use Rattle.u_terms.specs.declared.term.U.TheVariants as u
use Rattle.u_terms.specs.declared.term.Val.TheVariants as v
use Rattle.u_terms.specs.Names.{IsFreeBelow, fresh, value_fresh, row_fresh, list_fresh}
use Rattle.u_terms.specs.Binding.{mapped, mapped_value, mapped_row, same_place, place_for_name, place_for_names, closed_at, closed_path, sums}
use Rattle.u_terms.proofs.Binding.{of_path, not_of_path, path_cases}
use Rattle.u_terms.proofs.FreeNames.{list_fresh-cons, fresh-Zero, fresh-One, fresh-Add, fresh-Mul, fresh-Squash, fresh-Not, fresh-Rel, fresh-Eq, fresh-Pred, fresh-Free, fresh-Lit, fresh-Fun, fresh-Agg, below-fresh}
use Rattle.scope_core.specs.Scope.{Place}
use Rattle.scope_core.specs.Width.{width}
use Rattle.scope_core.specs.Syntax as r
use Rattle.scope_core.specs.Sound.{Seen, SeenBlocks, SeenRows, SeenGroup, SeenMember, SeesGroup, widths, widths_at, member_seen, IsKeyOf, IsSound, IsSoundBlock, IsSoundHaving, IsSoundScalar, IsSoundAggregate, AreSoundEntries, IsSoundSource, IsSoundCondition, AreSoundConditions, IsSoundValue, IsSoundArgument, AreSoundValues}
use Rattle.scope_core.specs.Fitting.{HasView, FitsViews, DoViewsFit}
use Rattle.scope_core.proofs.schema.FittingTrees.{HasView-in, HasView-cases}
use Rattle.scope_core.proofs.basics.Lists.{longer, get-between, get-before}
use Rattle.sql_to_u.specs.Factors.{sum_of, over_names, squash_if, combined_terms, names_from, key_equalities}
use Rattle.u_terms.specs.Products.{product_of}
use Rattle.sql_to_u.specs.Scopes.{Members, Here, Scope, count_columns, firsts, rows_here, group_here, firsts_at, key_of, members_of, member_scope, counted}
use Rattle.sql_to_u.specs.Translation.{TermAt, query_term, block_term, source_terms, source_term, item_factors, condition_term, condition_terms, having_factors, value_term, value_terms, argument_term, scalar_term, first_term}
use Rattle.sql_to_u.specs.Answer.{view_term, view_terms, translation}

-- ---- closing removes names
module _ (f g : ℕ → ℕ → Val) (from to : ℕ) (place_below : (k i : ℕ) → value_fresh (f k i) ≤ to) (name_below : (k x : ℕ) → x + 1 ≤ from → value_fresh (g k x) ≤ to) where
  mutual
    unfolding fresh mapped

    fresh-mapped : (a : U) (k : ℕ) → fresh a ≤ from → fresh (mapped f g k a) ≤ to
    fresh-mapped Zero k h = omega arith
    fresh-mapped One k h = omega arith
    fresh-mapped (Add a b) k h = let p = fresh-mapped a k (omega (arith, h)) in let q = fresh-mapped b k (omega (arith, h)) in omega (arith, p, q)
    fresh-mapped (Mul a b) k h = let p = fresh-mapped a k (omega (arith, h)) in let q = fresh-mapped b k (omega (arith, h)) in omega (arith, p, q)
    fresh-mapped (Squash a) k h = fresh-mapped a k h
    fresh-mapped (Not a) k h = fresh-mapped a k h
    fresh-mapped (Sum body) k h = fresh-mapped body (k + 1) h
    fresh-mapped (Rel table shape arguments) k h = row_fresh-mapped arguments k h
    fresh-mapped (Eq a b) k h = let p = value_fresh-mapped a k (omega (arith, h)) in let q = value_fresh-mapped b k (omega (arith, h)) in omega (arith, p, q)
    fresh-mapped (Pred symbol shape arguments) k h = row_fresh-mapped arguments k h

    value_fresh-mapped : (a : Val) (k : ℕ) → value_fresh a ≤ from → value_fresh (mapped_value f g k a) ≤ to
    value_fresh-mapped (Bound place) k h = place_below k place
    value_fresh-mapped (Free name) k h = name_below k name h
    value_fresh-mapped (Lit literal) k h = omega arith
    value_fresh-mapped (Fun symbol shape arguments) k h = row_fresh-mapped arguments k h
    value_fresh-mapped (Agg aggregate body) k h = fresh-mapped body (k + 1) h

    row_fresh-mapped : {m : _} (row : Vals m) (k : ℕ) → row_fresh row ≤ from → row_fresh (mapped_row f g k row) ≤ to
    row_fresh-mapped NoVals k h = omega arith
    row_fresh-mapped (ValThen a rest) k h = let p = value_fresh-mapped a k (omega (arith, h)) in let q = row_fresh-mapped rest k (omega (arith, h)) in omega (arith, p, q)

bound-fresh : (i : ℕ) → value_fresh (Bound i) ≡ 0
unfolding fresh
bound-fresh i = refl

free-fresh : (x : ℕ) → value_fresh (Free x) ≡ x + 1
unfolding fresh
free-fresh x = refl

pub closed_path-below : (a : U) (first count : ℕ) → fresh a ≤ first + count → fresh (closed_path a first count) ≤ first
closed_path-below a first count h = fresh-mapped same_place (place_for_names first count) (first + count) first (λ k i. omega (arith, bound-fresh i)) name a 0 h
  where
    name : (k x : ℕ) → x + 1 ≤ first + count → value_fresh (place_for_names first count k x) ≤ first
    name k x h = elim (path_cases first count x) [
      | inl within ↦ rw (of_path first count x within.0 within.1) (omega (arith, bound-fresh (k + (first + count - 1 - x))))
      | inr outside ↦
          let low : x < first = elim outside [ inl before ↦ before | inr after ↦ absurd (omega (arith, after, h)) ] in
          rw (not_of_path first count x outside) (omega (arith, free-fresh x, low))
    ]

pub closed_at-below : (a : U) (x : ℕ) → fresh a ≤ x + 1 → fresh (closed_at a x) ≤ x
closed_at-below a x h = fresh-mapped same_place (place_for_name x) (x + 1) x (λ k i. omega (arith, bound-fresh i)) name a 0 h
  where
    name : (k y : ℕ) → y + 1 ≤ x + 1 → value_fresh (place_for_name x k y) ≤ x
    name k y h = elim (cases_Bool (nat_eq y x)) [
      | inl here ↦ rw here (omega (arith, bound-fresh k))
      | inr other ↦ let e : y ≢ x = grind (arith, nat_tests) in rw other (omega (arith, free-fresh y, e, h))
    ]

sums-fresh : (count : ℕ) (a : U) → fresh (sums count a) ≡ fresh a
unfolding fresh constructors
sums-fresh zero a = refl
sums-fresh (suc count) a = sums-fresh count a

over_names-below : (first count : ℕ) (a : U) → fresh a ≤ first + count → fresh (over_names first count a) ≤ first
over_names-below first count a h = let p = closed_path-below a first count h in let q = sums-fresh count (closed_path a first count) in omega (arith, p, q)

-- ---- of what terms are built of
abbrev pub AreBelow : ℕ → List U → Type 0
AreBelow bound = Each (λ a. fresh a ≤ bound)

product-below : (bound : ℕ) (fs : List U) → AreBelow bound fs → fresh (product_of fs) ≤ bound
product-below bound [] h = omega (arith, fresh-One)
product-below bound (f ∷ []) h = h.0
product-below bound (f ∷ g ∷ rest) h = let p = product-below bound (g ∷ rest) h.1 in let q = fresh-Mul f (product_of (g ∷ rest)) in let h0 = h.0 in omega (arith, p, q, h0)

sum-below : (bound : ℕ) (fs : List U) → AreBelow bound fs → fresh (sum_of fs) ≤ bound
sum-below bound [] h = omega (arith, fresh-Zero)
sum-below bound (f ∷ []) h = h.0
sum-below bound (f ∷ g ∷ rest) h = let p = sum-below bound (g ∷ rest) h.1 in let q = fresh-Add f (sum_of (g ∷ rest)) in let h0 = h.0 in omega (arith, p, q, h0)

both-below : (bound : ℕ) (fs gs : List U) → AreBelow bound fs → AreBelow bound gs → AreBelow bound (fs ++ gs)
both-below bound [] gs h k = k
both-below bound (f ∷ fs) gs h k = (h.0, both-below bound fs gs h.1 k)

eq-below : (bound : ℕ) (a b : Val) → value_fresh a ≤ bound → value_fresh b ≤ bound → fresh (u.Eq a b) ≤ bound
eq-below bound a b h k = let e = fresh-Eq a b in omega (arith, e, h, k)

free-below : (bound name : ℕ) → name < bound → value_fresh (v.Free name) ≤ bound
free-below bound name h = let e = fresh-Free name in omega (arith, e, h)

lit-below : (bound lit : ℕ) → value_fresh (v.Lit lit) ≤ bound
lit-below bound lit = let e = fresh-Lit lit in omega (arith, e)

squash-below : (bound : ℕ) (a : U) → fresh a ≤ bound → fresh (u.Squash a) ≤ bound
squash-below bound a h = let e = fresh-Squash a in omega (arith, e, h)

squash_if-below : (bound : ℕ) (b : Bool) (a : U) → fresh a ≤ bound → fresh (squash_if b a) ≤ bound
squash_if-below bound true a h = squash-below bound a h
squash_if-below bound false a h = h

combined-below : (bound : ℕ) (op : SetOp) (p q : U) → fresh p ≤ bound → fresh q ≤ bound → fresh (combined_terms op p q) ≤ bound
combined-below bound UnionAll p q h k = let e = fresh-Add p q in omega (arith, e, h, k)
combined-below bound Union p q h k = let e = fresh-Add p q in squash-below bound (u.Add p q) (omega (arith, e, h, k))
combined-below bound Except p q h k = let e = fresh-Mul (u.Squash p) (u.Not q) in let f = fresh-Squash p in let g = fresh-Not q in omega (arith, e, f, g, h, k)
combined-below bound Intersect p q h k = let e = fresh-Mul p q in squash-below bound (u.Mul p q) (omega (arith, e, h, k))

names-below : (first count : ℕ) → list_fresh (names_from first count) ≤ first + count
names-below first zero = omega arith
names-below first (suc count) =
    let p = names-below (first + 1) count in
    let e = list_fresh-cons (v.Free first) (names_from (first + 1) count) in
    let f = fresh-Free first in
    omega (arith, p, e, f)

-- ---- names of the columns around
abbrev pub FirstsBelow : ℕ → List ℕ → List ℕ → Type 0
FirstsBelow d [] [] = Unit {0}
FirstsBelow d (k ∷ ks) (s ∷ ss) = (s + k ≤ d) × FirstsBelow d ks ss
FirstsBelow d _ _ = ⊥

abbrev pub MembersBelow : ℕ → List ℕ → Members → Type 0
MembersBelow d ks members = (e : ℕ) → d ≤ e → FirstsBelow (e + members.columns) ks (members.firsts e) × AreBelow (e + members.columns) (members.factors e)

abbrev pub BlockBelow : ℕ → Seen → Here → Type 0
BlockBelow d (SeenRows ks) h = FirstsBelow d ks h.firsts
BlockBelow d (SeenMember ks) h = FirstsBelow d ks h.firsts
BlockBelow d (SeenGroup m ks) h = (h.key + m ≤ d) × MembersBelow d ks h.members

abbrev pub ScopeBelow : ℕ → SeenBlocks → Scope → Type 0
ScopeBelow d [] [] = Unit {0}
ScopeBelow d (l ∷ shape) (h ∷ scope) = BlockBelow d l h × ScopeBelow d shape scope
ScopeBelow d _ _ = ⊥

FirstsBelow-later : (d d' : ℕ) (ks ss : List ℕ) → d ≤ d' → FirstsBelow d ks ss → FirstsBelow d' ks ss
FirstsBelow-later d d' [] [] le h = tt
FirstsBelow-later d d' (k ∷ ks) (s ∷ ss) le h = (let h0 = h.0 in omega (arith, le, h0), FirstsBelow-later d d' ks ss le h.1)
FirstsBelow-later d d' [] (s ∷ ss) le h = absurd h
FirstsBelow-later d d' (k ∷ ks) [] le h = absurd h

BlockBelow-later : (d d' : ℕ) (l : Seen) (h : Here) → d ≤ d' → BlockBelow d l h → BlockBelow d' l h
BlockBelow-later d d' (SeenRows ks) h le s = FirstsBelow-later d d' ks h.firsts le s
BlockBelow-later d d' (SeenMember ks) h le s = FirstsBelow-later d d' ks h.firsts le s
BlockBelow-later d d' (SeenGroup m ks) h le s = (let s0 = s.0 in omega (arith, le, s0), λ e b. s.1 e (omega (arith, le, b)))

later : (d d' : ℕ) (shape : SeenBlocks) (scope : Scope) → d ≤ d' → ScopeBelow d shape scope → ScopeBelow d' shape scope
later d d' [] [] le s = tt
later d d' (l ∷ shape) (h ∷ scope) le s = (BlockBelow-later d d' l h le s.0, later d d' shape scope le s.1)
later d d' [] (h ∷ scope) le s = absurd s
later d d' (l ∷ shape) [] le s = absurd s

own : {m : _} (es : r.Entries m) (d : ℕ) → FirstsBelow (d + count_columns es) (widths es) (firsts es d)
own r.NoEntries d = tt
own (r.EntryThen source wide rest) d =
    let end : (d + wide) + count_columns rest ≡ d + (wide + count_columns rest) = omega arith in
    (omega arith, subst (λ e. FirstsBelow e (widths rest) (firsts rest (d + wide))) end (own rest (d + wide)))

entry-below : (d : ℕ) (ks ss : List ℕ) (entry col : ℕ) → FirstsBelow d ks ss → col < get_or ks entry 0 → get_or ss entry 0 + col < d
entry-below d [] ss entry col h lt = absurd (omega (arith, lt))
entry-below d (k ∷ ks) [] entry col h lt = absurd h
entry-below d (k ∷ ks) (s ∷ ss) zero col h lt = let h0 = h.0 in omega (arith, h0, lt)
entry-below d (k ∷ ks) (s ∷ ss) (suc entry) col h lt = entry-below d ks ss entry col h.1 lt

column-below : (d : ℕ) (shape : SeenBlocks) (scope : Scope) (up entry col : ℕ) → ScopeBelow d shape scope → col < get_or (widths_at shape up) entry 0
    → get_or (firsts_at scope up) entry 0 + col < d
column-below d [] scope up entry col s lt = absurd (omega (arith, lt))
column-below d (l ∷ shape) [] up entry col s lt = absurd s
column-below d (SeenRows ks ∷ shape) (h ∷ scope) zero entry col s lt = entry-below d ks h.firsts entry col s.0 lt
column-below d (SeenMember ks ∷ shape) (h ∷ scope) zero entry col s lt = entry-below d ks h.firsts entry col s.0 lt
column-below d (SeenGroup m ks ∷ shape) (h ∷ scope) zero entry col s lt = absurd (omega (arith, lt))
column-below d (l ∷ shape) (h ∷ scope) (suc up) entry col s lt = column-below d shape scope up entry col s.1 lt

key-below : (d : ℕ) (shape : SeenBlocks) (scope : Scope) (place : ℕ) → ScopeBelow d shape scope → IsKeyOf shape place → key_of scope + place < d
key-below d [] scope place s k = absurd k
key-below d (SeenRows ks ∷ shape) scope place s k = absurd k
key-below d (SeenMember ks ∷ shape) scope place s k = absurd k
key-below d (SeenGroup m ks ∷ shape) [] place s k = absurd s
key-below d (SeenGroup m ks ∷ shape) (h ∷ scope) place s k = let s0 = s.0.0 in omega (arith, s0, k)

keys-below : (columns : List Place) (ks ss : List ℕ) (bound key : ℕ) → Each (λ c. c.1 < get_or ks c.0 0) columns → FirstsBelow bound ks ss → key + length columns ≤ bound
    → AreBelow bound (key_equalities columns ss key)
keys-below [] ks ss bound key h s le = tt
keys-below (c ∷ columns) ks ss bound key h s le = (
  eq-below bound (v.Free (get_or ss c.0 0 + c.1)) (v.Free key) (free-below bound _ (entry-below bound ks ss c.0 c.1 s h.0)) (free-below bound key (omega (arith, le))),
  keys-below columns ks ss bound (key + 1) h.1 s (omega (arith, le)),
)

-- the members that the innermost block has
members-below : (d : ℕ) (shape : SeenBlocks) (scope : Scope) → SeesGroup shape → ScopeBelow d shape scope
    → ((e : ℕ) → d ≤ e → AreBelow (e + (members_of scope).columns) ((members_of scope).factors e) × ScopeBelow (e + (members_of scope).columns) (member_seen shape) (member_scope scope e))
members-below d [] scope g s = absurd g
members-below d (SeenRows ks ∷ shape) scope g s = absurd g
members-below d (SeenMember ks ∷ shape) scope g s = absurd g
members-below d (SeenGroup m ks ∷ shape) [] g s = absurd s
members-below d (SeenGroup m ks ∷ shape) (h ∷ scope) g s =
    λ e le. let all = s.0.1 e le in (all.1, (all.0, later d (e + h.members.columns) shape scope (omega (arith, le)) s.1))

counted-below : (members : Members) (a : Val) (d : ℕ) → AreBelow (d + 1 + members.columns) (members.factors (d + 1)) → value_fresh a ≤ d + 1 + members.columns
    → fresh (counted members a d) ≤ d + 1
counted-below members a d h k =
    let fs = members.factors (d + 1) ++ u.Eq a (v.Free d) ∷ [] in
    over_names-below (d + 1) members.columns (product_of fs)
    (product-below (d + 1 + members.columns) fs (both-below (d + 1 + members.columns) (members.factors (d + 1)) (u.Eq a (v.Free d) ∷ []) h
    (eq-below (d + 1 + members.columns) a (v.Free d) k (free-below (d + 1 + members.columns) d (omega arith)), tt)))

-- ---- of the translation
module _ (IsTable IsView : ℕ → ℕ → Type 0) (views : List TermAt)
    (view : (place wide : ℕ) → IsView place wide → (row : List Val) (next : ℕ) → list_fresh row ≤ next → fresh (get_or views place (λ row next. u.Zero) row next) ≤ next) where
  mutual
    unfolding query_term IsSound

    pub query-below : (q : r.RQuery) (shape : SeenBlocks) (scope : Scope) (row : List Val) (d : ℕ) → IsSound IsTable IsView shape q → ScopeBelow d shape scope → list_fresh row ≤ d
        → fresh (query_term views q scope row d) ≤ d
    query-below (r.OfBlock block) shape scope row d h o c = block-below block shape scope row d h o c
    query-below (r.Set op left right) shape scope row d h o c =
        combined-below d op (query_term views left scope row d) (query_term views right scope row d) (query-below left shape scope row d h.0 o c) (query-below right shape scope row d h.1 o c)

    pub block-below : (b : r.RBlock) (shape : SeenBlocks) (scope : Scope) (row : List Val) (d : ℕ) → IsSoundBlock IsTable IsView shape b → ScopeBelow d shape scope → list_fresh row ≤ d
        → fresh (block_term views b scope row d) ≤ d
    block-below (r.Select is_distinct s entries s' conds r.Plain having s'' items) shape scope row d h o c =
        let z = d + count_columns entries in
        let inside = rows_here (firsts entries d) ∷ scope in
        let o' : ScopeBelow z (SeenRows (widths entries) ∷ shape) inside = (own entries d, later d z shape scope (omega arith) o) in
        let fs = source_terms views entries scope d z ++ condition_terms views conds inside z in
        let gs = item_factors views items inside row z in
        squash_if-below d is_distinct (over_names d (count_columns entries) (product_of (fs ++ gs)))
        (over_names-below d (count_columns entries) (product_of (fs ++ gs)) (product-below z (fs ++ gs) (both-below z fs gs
        (both-below z (source_terms views entries scope d z) (condition_terms views conds inside z)
        (sources-below entries shape scope d z h.0 (later d z shape scope (omega arith) o) (omega arith)) (conditions-below conds (SeenRows (widths entries) ∷ shape) inside z h.1 o'))
        (items-below items (SeenRows (widths entries) ∷ shape) inside row z h.3 o' (omega (arith, c))))))
    block-below (r.Select is_distinct s entries s' conds r.One having s'' items) shape scope row d h o c =
        let factors : ℕ → List U = λ first. source_terms views entries scope first (first + count_columns entries) ++ condition_terms views conds (rows_here (firsts entries first) ∷ scope) (first + count_columns entries) in
        let members : Members = record { columns = count_columns entries; firsts = λ first. firsts entries first; factors = factors } in
        let all : MembersBelow d (widths entries) members = λ e le. (
          own entries e,
          both-below (e + count_columns entries) (source_terms views entries scope e (e + count_columns entries)) (condition_terms views conds (rows_here (firsts entries e) ∷ scope) (e + count_columns entries))
              (sources-below entries shape scope e (e + count_columns entries) h.0 (later d (e + count_columns entries) shape scope (omega (arith, le)) o) (omega arith))
              (conditions-below conds (SeenRows (widths entries) ∷ shape) (rows_here (firsts entries e) ∷ scope) (e + count_columns entries) h.1 (own entries e, later d (e + count_columns entries) shape scope (omega (arith, le)) o)),
        ) in
        let inside = group_here d members ∷ scope in
        let shape' = SeenGroup 0 (widths entries) ∷ shape in
        let o' : ScopeBelow d shape' inside = ((omega arith, all), o) in
        let fs = having_factors views having inside d in
        let gs = item_factors views items inside row d in
        squash_if-below d is_distinct (product_of (fs ++ gs))
        (product-below d (fs ++ gs) (both-below d fs gs (having-below having shape' inside d h.2 o') (items-below items shape' inside row d h.3 o' c)))
    block-below (r.Select is_distinct s entries s' conds (r.Keys columns) having s'' items) shape scope row d h o c =
        let z = d + length columns in
        let fronts : ℕ → List U = λ first. source_terms views entries scope first (first + count_columns entries) ++ condition_terms views conds (rows_here (firsts entries first) ∷ scope) (first + count_columns entries) in
        let factors : ℕ → List U = λ first. fronts first ++ key_equalities columns (firsts entries first) d in
        let members : Members = record { columns = count_columns entries; firsts = λ first. firsts entries first; factors = factors } in
        let all : MembersBelow z (widths entries) members = λ e le. (
          own entries e,
          both-below (e + count_columns entries) (fronts e) (key_equalities columns (firsts entries e) d)
              (both-below (e + count_columns entries) (source_terms views entries scope e (e + count_columns entries)) (condition_terms views conds (rows_here (firsts entries e) ∷ scope) (e + count_columns entries))
              (sources-below entries shape scope e (e + count_columns entries) h.0 (later d (e + count_columns entries) shape scope (omega (arith, le)) o) (omega arith))
              (conditions-below conds (SeenRows (widths entries) ∷ shape) (rows_here (firsts entries e) ∷ scope) (e + count_columns entries) h.1 (own entries e, later d (e + count_columns entries) shape scope (omega (arith, le)) o)))
              (keys-below columns (widths entries) (firsts entries e) (e + count_columns entries) d h.4 (own entries e) (omega (arith, le))),
        ) in
        let inside = group_here d members ∷ scope in
        let shape' = SeenGroup (length columns) (widths entries) ∷ shape in
        let o' : ScopeBelow z shape' inside = ((omega arith, all), later d z shape scope (omega arith) o) in
        let K = over_names z (count_columns entries) (product_of (factors z)) in
        let fs = having_factors views having inside z in
        let gs = item_factors views items inside row z in
        squash_if-below d is_distinct (over_names d (length columns) (product_of (u.Squash K ∷ fs ++ gs)))
        (over_names-below d (length columns) (product_of (u.Squash K ∷ fs ++ gs)) (product-below z (u.Squash K ∷ fs ++ gs) (
          squash-below z K (over_names-below z (count_columns entries) (product_of (factors z)) (product-below (z + count_columns entries) (factors z) (all z (omega arith)).1)),
          both-below z fs gs (having-below having shape' inside z h.2 o') (items-below items shape' inside row z h.3 o' (omega (arith, c))),
        )))

    pub having-below : (having : r.MaybeCondition) (shape : SeenBlocks) (scope : Scope) (d : ℕ) → IsSoundHaving IsTable IsView shape having → ScopeBelow d shape scope → AreBelow d (having_factors views having scope d)
    having-below r.NoCondition shape scope d h o = tt
    having-below (r.ACondition (r.And s parts)) shape scope d h o = conditions-below parts shape scope d h.1 o
    having-below (r.ACondition (r.Eq left right)) shape scope d h o = (condition-below (r.Eq left right) shape scope d h.1 o, tt)
    having-below (r.ACondition (r.Pred sym s args)) shape scope d h o = (condition-below (r.Pred sym s args) shape scope d h.1 o, tt)
    having-below (r.ACondition (r.Or s parts)) shape scope d h o = (condition-below (r.Or s parts) shape scope d h.1 o, tt)
    having-below (r.ACondition (r.Not part)) shape scope d h o = (condition-below (r.Not part) shape scope d h.1 o, tt)
    having-below (r.ACondition (r.Exists query)) shape scope d h o = (condition-below (r.Exists query) shape scope d h.1 o, tt)
    having-below (r.ACondition (r.In left query)) shape scope d h o = (condition-below (r.In left query) shape scope d h.1 o, tt)

    pub sources-below : {m : _} (es : r.Entries m) (shape : SeenBlocks) (scope : Scope) (first d : ℕ) → AreSoundEntries IsTable IsView shape es → ScopeBelow d shape scope → first + count_columns es ≤ d
        → AreBelow d (source_terms views es scope first d)
    sources-below r.NoEntries shape scope first d h o le = tt
    sources-below (r.EntryThen source wide rest) shape scope first d h o le = (
      source-below source wide shape scope (names_from first wide) d h.0 o (let n = names-below first wide in omega (arith, n, le)),
      sources-below rest shape scope (first + wide) d h.1 o (omega (arith, le)),
    )

    pub source-below : (s : r.RSource) (wide : ℕ) (shape : SeenBlocks) (scope : Scope) (row : List Val) (d : ℕ) → IsSoundSource IsTable IsView shape s wide → ScopeBelow d shape scope → list_fresh row ≤ d
        → fresh (source_term views s scope row d) ≤ d
    source-below (r.Table number) wide shape scope row d h o c = let e = fresh-Rel number row in omega (arith, e, c)
    source-below (r.View place) wide shape scope row d h o c = view place wide h row d c
    source-below (r.Derived query) wide shape scope row d h o c = query-below query shape scope row d h.0 o c

    pub items-below : {m : _} (items : r.Values m) (shape : SeenBlocks) (scope : Scope) (row : List Val) (d : ℕ) → AreSoundValues IsTable IsView shape items → ScopeBelow d shape scope → list_fresh row ≤ d
        → AreBelow d (item_factors views items scope row d)
    items-below r.NoValues shape scope row d h o c = tt
    items-below (r.ValueThen e rest) shape scope [] d h o c = tt
    items-below (r.ValueThen e rest) shape scope (value ∷ row) d h o c =
        let f = list_fresh-cons value row in
        (eq-below d (value_term views e scope d) value (value-below e shape scope d h.0 o) (omega (arith, f, c)), items-below rest shape scope row d h.1 o (omega (arith, f, c)))

    pub condition-below : (c : r.RCond) (shape : SeenBlocks) (scope : Scope) (d : ℕ) → IsSoundCondition IsTable IsView shape c → ScopeBelow d shape scope → fresh (condition_term views c scope d) ≤ d
    condition-below (r.Eq left right) shape scope d h o = eq-below d (value_term views left scope d) (value_term views right scope d) (value-below left shape scope d h.0 o) (value-below right shape scope d h.1 o)
    condition-below (r.Pred sym s args) shape scope d h o = let e = fresh-Pred sym (value_terms views args scope d) in let k = values-below args shape scope d h o in omega (arith, e, k)
    condition-below (r.And s parts) shape scope d h o = product-below d (condition_terms views parts scope d) (conditions-below parts shape scope d h o)
    condition-below (r.Or s parts) shape scope d h o = squash-below d (sum_of (condition_terms views parts scope d)) (sum-below d (condition_terms views parts scope d) (conditions-below parts shape scope d h o))
    condition-below (r.Not part) shape scope d h o = let e = fresh-Not (condition_term views part scope d) in let k = condition-below part shape scope d h o in omega (arith, e, k)
    condition-below (r.Exists query) shape scope d h o =
        let k = width query in
        let a = query_term views query scope (names_from d k) (d + k) in
        squash-below d (over_names d k a) (over_names-below d k a (query-below query shape scope (names_from d k) (d + k) h.1 (later d (d + k) shape scope (omega arith) o) (names-below d k)))
    condition-below (r.In left query) shape scope d h o =
        let a = value_term views left scope d in
        let f = list_fresh-cons a [] in
        let g = value-below left shape scope d h.1 o in
        squash-below d (query_term views query scope (a ∷ []) d) (query-below query shape scope (a ∷ []) d h.2 o (omega (arith, f, g)))

    pub conditions-below : {m : _} (cs : r.Conditions m) (shape : SeenBlocks) (scope : Scope) (d : ℕ) → AreSoundConditions IsTable IsView shape cs → ScopeBelow d shape scope → AreBelow d (condition_terms views cs scope d)
    conditions-below r.NoConditions shape scope d h o = tt
    conditions-below (r.ConditionThen condition rest) shape scope d h o = (condition-below condition shape scope d h.0 o, conditions-below rest shape scope d h.1 o)

    pub value-below : (a : r.RVal) (shape : SeenBlocks) (scope : Scope) (d : ℕ) → IsSoundValue IsTable IsView shape a → ScopeBelow d shape scope → value_fresh (value_term views a scope d) ≤ d
    value-below (r.Col up entry col) shape scope d h o = free-below d _ (column-below d shape scope up entry col o h)
    value-below (r.Key place) shape scope d h o = free-below d _ (key-below d shape scope place o h)
    value-below (r.Lit lit) shape scope d h o = lit-below d lit
    value-below (r.Fun sym s args) shape scope d h o = let e = fresh-Fun sym (value_terms views args scope d) in let k = values-below args shape scope d h o in omega (arith, e, k)
    value-below (r.Agg fun is_distinct argument) shape scope d h o =
        let members = members_of scope in
        let inside = member_scope scope (d + 1) in
        let a = argument_term views argument (counts_rows fun is_distinct) inside (d + 1 + members.columns) in
        let all = members-below d shape scope h.0 o (d + 1) (omega arith) in
        let k = counted-below members a d all.0 (argument-below argument (counts_rows fun is_distinct) (member_seen shape) inside (d + 1 + members.columns) h.1 all.1) in
        let t = squash_if is_distinct (counted members a d) in
        let e = fresh-Agg (number_of fun) (closed_at t d) in
        let p = closed_at-below t d (squash_if-below (d + 1) is_distinct (counted members a d) k) in
        omega (arith, e, p)
    value-below (r.Sub block) shape scope d h o = scalar-below block shape scope d h.1 o

    pub values-below : {m : _} (es : r.Values m) (shape : SeenBlocks) (scope : Scope) (d : ℕ) → AreSoundValues IsTable IsView shape es → ScopeBelow d shape scope → list_fresh (value_terms views es scope d) ≤ d
    values-below r.NoValues shape scope d h o = omega arith
    values-below (r.ValueThen a rest) shape scope d h o =
        let f = list_fresh-cons (value_term views a scope d) (value_terms views rest scope d) in
        let p = value-below a shape scope d h.0 o in
        let q = values-below rest shape scope d h.1 o in
        omega (arith, f, p, q)

    pub argument-below : (argument : r.MaybeArgument) (counting : Bool) (shape : SeenBlocks) (scope : Scope) (d : ℕ) → IsSoundArgument IsTable IsView shape argument → ScopeBelow d shape scope
        → value_fresh (argument_term views argument counting scope d) ≤ d
    argument-below r.NoArgument counting shape scope d h o = lit-below d 0
    argument-below (r.AnArgument a) true shape scope d h o = lit-below d 0
    argument-below (r.AnArgument a) false shape scope d h o = value-below a shape scope d h o

    pub scalar-below : (b : r.RBlock) (shape : SeenBlocks) (scope : Scope) (d : ℕ) → IsSoundScalar IsTable IsView shape b → ScopeBelow d shape scope → value_fresh (scalar_term views b scope d) ≤ d
    scalar-below (r.Select is_distinct s entries s' conds r.One r.NoCondition s'' items) shape scope d h o =
        let factors : ℕ → List U = λ first. source_terms views entries scope first (first + count_columns entries) ++ condition_terms views conds (rows_here (firsts entries first) ∷ scope) (first + count_columns entries) in
        let members : Members = record { columns = count_columns entries; firsts = λ first. firsts entries first; factors = factors } in
        let all : MembersBelow d (widths entries) members = λ e le. (
          own entries e,
          both-below (e + count_columns entries) (source_terms views entries scope e (e + count_columns entries)) (condition_terms views conds (rows_here (firsts entries e) ∷ scope) (e + count_columns entries))
              (sources-below entries shape scope e (e + count_columns entries) h.0 (later d (e + count_columns entries) shape scope (omega (arith, le)) o) (omega arith))
              (conditions-below conds (SeenRows (widths entries) ∷ shape) (rows_here (firsts entries e) ∷ scope) (e + count_columns entries) h.1 (own entries e, later d (e + count_columns entries) shape scope (omega (arith, le)) o)),
        ) in
        first-below items 0 (widths entries) shape (group_here d members ∷ scope) d h.2 ((omega arith, all), o)
    scalar-below (r.Select is_distinct s entries s' conds r.One (r.ACondition having) s'' items) shape scope d h o = absurd h
    scalar-below (r.Select is_distinct s entries s' conds r.Plain having s'' items) shape scope d h o = absurd h
    scalar-below (r.Select is_distinct s entries s' conds (r.Keys columns) having s'' items) shape scope d h o = absurd h

    pub first-below : {m : _} (es : r.Values m) (count : ℕ) (ks : List ℕ) (shape : SeenBlocks) (scope : Scope) (d : ℕ) → IsSoundAggregate IsTable IsView (SeenGroup count ks ∷ shape) es
        → ScopeBelow d (SeenGroup count ks ∷ shape) scope → value_fresh (first_term views es scope d) ≤ d
    first-below r.NoValues count ks shape scope d h o = absurd h
    first-below (r.ValueThen (r.Agg fun is_distinct argument) r.NoValues) count ks shape scope d h o = value-below (r.Agg fun is_distinct argument) (SeenGroup count ks ∷ shape) scope d (tt, h) o
    first-below (r.ValueThen (r.Agg fun is_distinct argument) (r.ValueThen a rest)) count ks shape scope d h o = absurd h
    first-below (r.ValueThen (r.Col up entry col) rest) count ks shape scope d h o = absurd h
    first-below (r.ValueThen (r.Key place) rest) count ks shape scope d h o = absurd h
    first-below (r.ValueThen (r.Lit lit) rest) count ks shape scope d h o = absurd h
    first-below (r.ValueThen (r.Fun sym s args) rest) count ks shape scope d h o = absurd h
    first-below (r.ValueThen (r.Sub block) rest) count ks shape scope d h o = absurd h

-- ---- of a tree that stands by itself
abbrev none : List Val → ℕ → U
none row next = u.Zero

record BelowViews (trees : List r.RQuery) (terms : List TermAt) : Type 0 where
  pub long : length terms ≡ length trees
  pub view : (place wide : ℕ) → HasView trees place wide → (row : List Val) (next : ℕ) → list_fresh row ≤ next → fresh (get_or terms place none row next) ≤ next

more : (trees : List r.RQuery) (terms : List TermAt) (t : r.RQuery) → BelowViews trees terms → FitsViews trees t → BelowViews (trees ++ t ∷ []) (terms ++ view_term terms t ∷ [])
more trees terms t s fits =
    let new : TermAt = view_term terms t in
    let last : get_or (terms ++ new ∷ []) (length trees) none ≡ new = subst (λ l. get_or (terms ++ new ∷ []) l none ≡ new) s.long (get-between terms new [] none) in
    record {
      long = longer terms new ∙ ap suc s.long ∙ sym (longer trees t);
      view = λ place wide h row next c. elim (HasView-cases trees t place wide h) [
        | inl before ↦
            let lt = HasView-in trees place wide before in
            subst (λ (q : TermAt). fresh (q row next) ≤ next) (sym (get-before terms new none place (omega (arith, lt, s.long)))) (s.view place wide before row next c)
        | inr here ↦ subst (λ p. fresh (get_or (terms ++ new ∷ []) p none row next) ≤ next) here.0
            (subst (λ (q : TermAt). fresh (q row next) ≤ next) (sym last) (query-below (λ number wide. Unit {0}) (HasView trees) terms s.view t [] [] row next fits tt c))
      ];
    }

all_below : (rest earlier : List r.RQuery) (terms : List TermAt) → BelowViews earlier terms → DoViewsFit earlier rest → BelowViews (earlier ++ rest) (view_terms terms rest)
all_below [] earlier terms s fit = subst (λ trees. BelowViews trees terms) (sym (append-nil earlier)) s
all_below (t ∷ rest) earlier terms s fit =
    subst (λ trees. BelowViews trees (view_terms terms (t ∷ rest))) (append_assoc earlier (t ∷ []) rest) (all_below rest (earlier ++ t ∷ []) _ (more earlier terms t s fit.0) fit.1)

pub translation-below : (views : List r.RQuery) (tree : r.RQuery) → DoViewsFit [] views → FitsViews views tree → IsFreeBelow (width tree) (translation views tree)
translation-below views tree fit fits =
    let s = all_below views [] [] (record { long = refl; view = λ place wide h row next c. absurd h }) fit in
    below-fresh (width tree) (translation views tree)
    (query-below (λ number wide. Unit {0}) (HasView views) (view_terms [] views) s.view tree [] [] (names_from 0 (width tree)) (width tree) fits tt (let n = names-below 0 (width tree) in omega (arith, n)))

pub ruleset laws = (translation-below)
