-- The terms of trees as code builds them.
use Rattle.std.proofs.Common.{◌≡◌, ℕ, suc, ◌+◌, ◌<◌, ◌≤◌, Bool, List, [], ◌∷◌, ◌++◌, length, drop, take, get_or, Option, Some, None, refl, ap, sym, subst, ◌∙◌, arith}
use Rattle.std.proofs.Math.Seq.{drop-cons}
use Rattle.std.proofs.lemmas.Option.{same_Some}
use Rattle.std.specs.Prelude.{slice_get}
use Rattle.std.proofs.lemmas.List.{drop_all, append-nil, append_assoc}
use Rattle.sql_model.specs.Syntax.{AggFun, SetOp}
use Rattle.sql_model.specs.Aggregates.{counts_rows, number_of}
use Rattle.u_terms.specs.Syntax.{U, Val}
use Rattle.u_terms.specs.declared.term.U.TheVariants as u
use Rattle.u_terms.specs.declared.term.Val.TheVariants as w
use Rattle.u_terms.specs.Binding.{closed_at}
use Rattle.scope_core.specs.Scope.{Place}
use Rattle.scope_core.specs.declared.tree.RVal.TheVariants as v
use Rattle.scope_core.specs.declared.tree.RCond.TheVariants as c
use Rattle.scope_core.specs.declared.tree.RSource.TheVariants as s
use Rattle.scope_core.specs.declared.tree.RQuery.TheVariants as q
use Rattle.scope_core.specs.declared.tree.Grouping.TheVariants as g
use Rattle.scope_core.specs.declared.tree.RBlock.{roll-RBlock, out-RBlock, roll-out-RBlock}
use Rattle.scope_core.specs.declared.tree.REntry.{REntry}
use Rattle.scope_core.specs.Syntax.{RVal, RCond, RBlock, RQuery, Grouping}
use Rattle.scope_core.specs.Width.{width}
use Rattle.scope_core.specs.Written.{written}
use Rattle.scope_core.specs.Compute.{everything}
use Rattle.scope_core.proofs.basics.Lists.{at-head, at-end, drop-head}
use Rattle.sql_to_u.specs.Factors.{sum_of, over_names, squash_if, combined_terms, names_from}
use Rattle.u_terms.specs.Products.{product_of}
use Rattle.sql_to_u.specs.Scopes.{Scope, group_here, firsts_at, key_of}
use Rattle.sql_to_u.specs.Listed.{columns_listed}
use Rattle.sql_to_u.specs.Translation.{TermAt, query_term, block_term, source_term, condition_term, value_term, scalar_term}
use Rattle.sql_to_u.specs.Answer.{view_term}
use Rattle.sql_to_u.proofs.terms.OverEarlier.{at-place, past-last}
use Rattle.sql_to_u.specs.TermLists.{firsts_listed, source_terms_listed, condition_terms_listed, item_factors_listed, value_terms_listed, having_written, counted_written, grouped_scope, plain_term, one_term, keys_term, plain_parts, one_parts, keys_parts, grouped_parts, joined_parts, terms_of}

module _ (views : List TermAt) (scope : Scope) where
  -- ---- lists
  pub sources-cons : (e : REntry) (es : List REntry) (first next : ℕ)
      → source_terms_listed views scope (e ∷ es) first next ≡ source_term views e.source scope (names_from first e.width) next ∷ source_terms_listed views scope es (first + e.width) next
  unfolding everything query_term source_terms_listed
  sources-cons e es first next = refl

  pub sources-nil : (first next : ℕ) → source_terms_listed views scope [] first next ≡ []
  unfolding everything query_term source_terms_listed
  sources-nil first next = refl

  pub conditions-cons : (next : ℕ) (e : RCond) (es : List RCond) → condition_terms_listed views scope (e ∷ es) next ≡ condition_term views e scope next ∷ condition_terms_listed views scope es next
  unfolding everything query_term condition_terms_listed
  conditions-cons next e es = refl

  pub conditions-nil : (next : ℕ) → condition_terms_listed views scope [] next ≡ []
  unfolding everything query_term condition_terms_listed
  conditions-nil next = refl

  pub items-cons : (next : ℕ) (e : RVal) (es : List RVal) (a : Val) (row : List Val)
      → item_factors_listed views scope (e ∷ es) (a ∷ row) next ≡ u.Eq (value_term views e scope next) a ∷ item_factors_listed views scope es row next
  unfolding everything query_term item_factors_listed
  items-cons next e es a row = refl

  pub items-none : (next : ℕ) (es : List RVal) → item_factors_listed views scope es [] next ≡ []
  unfolding everything query_term item_factors_listed
  items-none next [] = refl
  items-none next (e ∷ es) = refl

  pub items-nil : (next : ℕ) (row : List Val) → item_factors_listed views scope [] row next ≡ []
  unfolding everything query_term item_factors_listed
  items-nil next row = refl

  pub values-cons : (next : ℕ) (e : RVal) (es : List RVal) → value_terms_listed views scope (e ∷ es) next ≡ value_term views e scope next ∷ value_terms_listed views scope es next
  unfolding everything query_term value_terms_listed
  values-cons next e es = refl

  pub values-nil : (next : ℕ) → value_terms_listed views scope [] next ≡ []
  unfolding everything query_term value_terms_listed
  values-nil next = refl

  -- ---- at each constructor
  pub query-Block : (b : RBlock) (row : List Val) (next : ℕ) → query_term views (q.Block b) scope row next ≡ block_term views b scope row next
  unfolding everything query_term
  query-Block b row next = refl

  pub query-Set : (op : SetOp) (left right : RQuery) (row : List Val) (next : ℕ)
      → query_term views (q.Set op left right) scope row next ≡ combined_terms op (query_term views left scope row next) (query_term views right scope row next)
  unfolding everything query_term
  query-Set op left right row next = refl

  pub source-Table : (number : ℕ) (row : List Val) (next : ℕ) → source_term views (s.Table number) scope row next ≡ u.Rel number row
  unfolding everything query_term
  source-Table number row next = refl

  pub source-View : (place : ℕ) (row : List Val) (next : ℕ) → source_term views (s.View place) scope row next ≡ get_or views place (λ row next. u.Zero) row next
  unfolding everything query_term
  source-View place row next = refl

  pub source-Query : (query : RQuery) (row : List Val) (next : ℕ) → source_term views (s.Query query) scope row next ≡ query_term views query scope row next
  unfolding everything query_term
  source-Query query row next = refl

  module _ (next : ℕ) where
    pub condition-Eq : (left right : RVal) → condition_term views (c.Eq left right) scope next ≡ u.Eq (value_term views left scope next) (value_term views right scope next)
    unfolding everything query_term
    condition-Eq left right = refl

    pub condition-Pred : (sym : ℕ) (args : List RVal) → condition_term views (c.Pred sym args) scope next ≡ u.Pred sym (value_terms_listed views scope args next)
    unfolding everything query_term value_terms_listed
    condition-Pred sym args = refl

    pub condition-And : (parts : List RCond) → condition_term views (c.And parts) scope next ≡ product_of (condition_terms_listed views scope parts next)
    unfolding everything query_term condition_terms_listed
    condition-And parts = refl

    pub condition-Or : (parts : List RCond) → condition_term views (c.Or parts) scope next ≡ u.Squash (sum_of (condition_terms_listed views scope parts next))
    unfolding everything query_term condition_terms_listed
    condition-Or parts = refl

    pub condition-Not : (part : RCond) → condition_term views (c.Not part) scope next ≡ u.Not (condition_term views part scope next)
    unfolding everything query_term
    condition-Not part = refl

    pub condition-Exists : (query : RQuery) → condition_term views (c.Exists query) scope next
        ≡ u.Squash (over_names next (width query) (query_term views query scope (names_from next (width query)) (next + width query)))
    unfolding everything query_term
    condition-Exists query = refl

    pub condition-In : (left : RVal) (query : RQuery) → condition_term views (c.In left query) scope next ≡ u.Squash (query_term views query scope (value_term views left scope next ∷ []) next)
    unfolding everything query_term
    condition-In left query = refl

    pub value-Col : (up entry col : ℕ) → value_term views (v.Col up entry col) scope next ≡ w.Free (get_or (firsts_at scope up) entry 0 + col)
    unfolding everything query_term
    value-Col up entry col = refl

    pub value-Key : (place : ℕ) → value_term views (v.Key place) scope next ≡ w.Free (key_of scope + place)
    unfolding everything query_term
    value-Key place = refl

    pub value-Lit : (lit : ℕ) → value_term views (v.Lit lit) scope next ≡ w.Lit lit
    unfolding everything query_term
    value-Lit lit = refl

    pub value-Fun : (sym : ℕ) (args : List RVal) → value_term views (v.Fun sym args) scope next ≡ w.Fun sym (value_terms_listed views scope args next)
    unfolding everything query_term value_terms_listed
    value-Fun sym args = refl

    pub value-Agg : (fun : AggFun) (d : Bool) (argument : Option RVal) → value_term views (v.Agg fun d argument) scope next
        ≡ w.Agg (number_of fun) (closed_at (squash_if d (counted_written views (counts_rows fun d) scope argument next)) next)
    unfolding everything query_term
    value-Agg fun d None = refl
    value-Agg fun d (Some argument) = refl

    pub value-Sub : (b : RBlock) → value_term views (v.Sub b) scope next ≡ scalar_term views b scope next
    unfolding everything query_term
    value-Sub b = refl

    abbrev pub having_of : RCond → List U
    having_of condition = having_written views scope (Some condition) next

    pub having-And : (parts : List RCond) → having_of (c.And parts) ≡ condition_terms_listed views scope parts next
    unfolding everything query_term condition_terms_listed
    having-And parts = refl

    pub having-Eq : (left right : RVal) → having_of (c.Eq left right) ≡ condition_term views (c.Eq left right) scope next ∷ []
    unfolding everything query_term
    having-Eq left right = refl

    pub having-Pred : (sym : ℕ) (args : List RVal) → having_of (c.Pred sym args) ≡ condition_term views (c.Pred sym args) scope next ∷ []
    unfolding everything query_term
    having-Pred sym args = refl

    pub having-Or : (parts : List RCond) → having_of (c.Or parts) ≡ condition_term views (c.Or parts) scope next ∷ []
    unfolding everything query_term
    having-Or parts = refl

    pub having-Not : (part : RCond) → having_of (c.Not part) ≡ condition_term views (c.Not part) scope next ∷ []
    unfolding everything query_term
    having-Not part = refl

    pub having-Exists : (query : RQuery) → having_of (c.Exists query) ≡ condition_term views (c.Exists query) scope next ∷ []
    unfolding everything query_term
    having-Exists query = refl

    pub having-In : (left : RVal) (query : RQuery) → having_of (c.In left query) ≡ condition_term views (c.In left query) scope next ∷ []
    unfolding everything query_term
    having-In left query = refl

  -- ---- blocks
  -- the scope of a block that is one group
  abbrev alone_parts : List REntry → List RCond → ℕ → Scope
  alone_parts es cs next =
      group_here next (record { columns = columns_listed es; firsts = λ first. firsts_listed es first; factors = λ first. joined_parts views es cs scope first }) ∷ scope

  no-keys : (es : List REntry) (cs : List RCond) (next : ℕ) → alone_parts es cs next ≡ grouped_parts views es cs [] next scope
  no-keys es cs next =
      ap (λ (factors : ℕ → List U). group_here next (record { columns = columns_listed es; firsts = λ first. firsts_listed es first; factors = factors }) ∷ scope)
      (λ i first. sym (append-nil (joined_parts views es cs scope first)) i)

  plain-rolled : (d : Bool) (es : List REntry) (cs : List RCond) (h : Option RCond) (items : List RVal) (row : List Val) (next : ℕ)
      → block_term views (roll-RBlock (record { distinct = d; entries = es; conds = cs; grouping = g.Plain; having = h; items = items })) scope row next ≡ plain_parts views d es cs items scope row next
  unfolding everything query_term columns_listed firsts_listed source_terms_listed condition_terms_listed item_factors_listed
  plain-rolled d es cs None items row next = refl
  plain-rolled d es cs (Some h) items row next = refl

  -- a group without columns has members with no equalities for them
  one-rolled : (d : Bool) (es : List REntry) (cs : List RCond) (h : Option RCond) (items : List RVal) (row : List Val) (next : ℕ)
      → block_term views (roll-RBlock (record { distinct = d; entries = es; conds = cs; grouping = g.One; having = h; items = items })) scope row next ≡ one_parts views d es cs h items scope row next
  unfolding everything query_term columns_listed firsts_listed source_terms_listed condition_terms_listed item_factors_listed
  one-rolled d es cs None items row next = ap (λ inside. squash_if d (product_of (item_factors_listed views inside items row next))) (no-keys es cs next)
  one-rolled d es cs (Some h) items row next = ap (λ inside. squash_if d (product_of (having_written views inside (Some h) next ++ item_factors_listed views inside items row next))) (no-keys es cs next)

  keys-rolled : (columns : List Place) (d : Bool) (es : List REntry) (cs : List RCond) (h : Option RCond) (items : List RVal) (row : List Val) (next : ℕ)
      → block_term views (roll-RBlock (record { distinct = d; entries = es; conds = cs; grouping = g.Keys columns; having = h; items = items })) scope row next ≡ keys_parts views columns d es cs h items scope row next
  unfolding everything query_term columns_listed firsts_listed source_terms_listed condition_terms_listed item_factors_listed
  keys-rolled columns d es cs None items row next = refl
  keys-rolled columns d es cs (Some h) items row next = refl

  scalar-rolled : (gr : Grouping) (d : Bool) (es : List REntry) (cs : List RCond) (h : Option RCond) (e : RVal) (items : List RVal) (next : ℕ)
      → scalar_term views (roll-RBlock (record { distinct = d; entries = es; conds = cs; grouping = gr; having = h; items = e ∷ items })) scope next ≡ value_term views e (grouped_parts views es cs [] next scope) next
  unfolding everything query_term columns_listed firsts_listed source_terms_listed condition_terms_listed
  scalar-rolled gr d es cs None e items next = ap (λ inside. value_term views e inside next) (no-keys es cs next)
  scalar-rolled gr d es cs (Some h) e items next = ap (λ inside. value_term views e inside next) (no-keys es cs next)

  scalar-empty-rolled : (gr : Grouping) (d : Bool) (es : List REntry) (cs : List RCond) (h : Option RCond) (next : ℕ)
      → scalar_term views (roll-RBlock (record { distinct = d; entries = es; conds = cs; grouping = gr; having = h; items = [] })) scope next ≡ w.Lit 0
  unfolding everything query_term
  scalar-empty-rolled gr d es cs None next = refl
  scalar-empty-rolled gr d es cs (Some h) next = refl

  module _ (b : RBlock) where
    rolled-as : (gr : Grouping) → (out-RBlock b).grouping ≡ gr
        → roll-RBlock (record { distinct = (out-RBlock b).distinct; entries = (out-RBlock b).entries; conds = (out-RBlock b).conds; grouping = gr; having = (out-RBlock b).having; items = (out-RBlock b).items }) ≡ b
    rolled-as gr e =
        ap (λ x. roll-RBlock (record { distinct = (out-RBlock b).distinct; entries = (out-RBlock b).entries; conds = (out-RBlock b).conds; grouping = x; having = (out-RBlock b).having; items = (out-RBlock b).items })) (sym e)
        ∙ roll-out-RBlock b

    pub plain-is : (row : List Val) (next : ℕ) → (out-RBlock b).grouping ≡ g.Plain → block_term views b scope row next ≡ plain_term views b scope row next
    plain-is row next e = subst (λ x. block_term views x scope row next ≡ plain_term views b scope row next) (rolled-as g.Plain e)
        (plain-rolled (out-RBlock b).distinct (out-RBlock b).entries (out-RBlock b).conds (out-RBlock b).having (out-RBlock b).items row next)

    pub one-is : (row : List Val) (next : ℕ) → (out-RBlock b).grouping ≡ g.One → block_term views b scope row next ≡ one_term views b scope row next
    one-is row next e = subst (λ x. block_term views x scope row next ≡ one_term views b scope row next) (rolled-as g.One e)
        (one-rolled (out-RBlock b).distinct (out-RBlock b).entries (out-RBlock b).conds (out-RBlock b).having (out-RBlock b).items row next)

    pub keys-is : (columns : List Place) (row : List Val) (next : ℕ) → (out-RBlock b).grouping ≡ g.Keys columns → block_term views b scope row next ≡ keys_term views columns b scope row next
    keys-is columns row next e = subst (λ x. block_term views x scope row next ≡ keys_term views columns b scope row next) (rolled-as (g.Keys columns) e)
        (keys-rolled columns (out-RBlock b).distinct (out-RBlock b).entries (out-RBlock b).conds (out-RBlock b).having (out-RBlock b).items row next)

    items-as : (es : List RVal) → (out-RBlock b).items ≡ es
        → roll-RBlock (record { distinct = (out-RBlock b).distinct; entries = (out-RBlock b).entries; conds = (out-RBlock b).conds; grouping = (out-RBlock b).grouping; having = (out-RBlock b).having; items = es }) ≡ b
    items-as es e =
        ap (λ x. roll-RBlock (record { distinct = (out-RBlock b).distinct; entries = (out-RBlock b).entries; conds = (out-RBlock b).conds; grouping = (out-RBlock b).grouping; having = (out-RBlock b).having; items = x })) (sym e)
        ∙ roll-out-RBlock b

    without_items : (xs : List RVal) (next : ℕ) → (out-RBlock b).items ≡ xs → slice_get xs 0 ≡ None → scalar_term views b scope next ≡ w.Lit 0
    without_items [] next is none = subst (λ x. scalar_term views x scope next ≡ w.Lit 0) (items-as [] is)
        (scalar-empty-rolled (out-RBlock b).grouping (out-RBlock b).distinct (out-RBlock b).entries (out-RBlock b).conds (out-RBlock b).having next)
    without_items (x ∷ xs) next is none = cc

    with_items : (xs : List RVal) (e : RVal) (next : ℕ) → (out-RBlock b).items ≡ xs → slice_get xs 0 ≡ Some e
        → scalar_term views b scope next ≡ value_term views e (grouped_scope views b [] next scope) next
    with_items [] e next is some = cc
    with_items (x ∷ xs) e next is some =
        subst (λ y. scalar_term views y scope next ≡ value_term views x (grouped_scope views b [] next scope) next) (items-as (x ∷ xs) is)
        (scalar-rolled (out-RBlock b).grouping (out-RBlock b).distinct (out-RBlock b).entries (out-RBlock b).conds (out-RBlock b).having x xs next)
        ∙ ap (λ y. value_term views y (grouped_scope views b [] next scope) next) (same_Some x e some)

    -- where code has looked for a first item
    pub scalar-none : (next : ℕ) → slice_get (out-RBlock b).items 0 ≡ None → scalar_term views b scope next ≡ w.Lit 0
    scalar-none next none = without_items (out-RBlock b).items next refl none

    pub scalar-some : (e : RVal) (next : ℕ) → slice_get (out-RBlock b).items 0 ≡ Some e
        → scalar_term views b scope next ≡ value_term views e (grouped_scope views b [] next scope) next
    scalar-some e next some = with_items (out-RBlock b).items e next refl some

  pub sources-step : (es : List REntry) (i : ℕ) (e : REntry) (first next : ℕ) (made made' whole : List U) → i < length es → e ≡ get_or es i e
      → made' ≡ made ++ source_term views e.source scope (names_from first e.width) next ∷ [] → made ++ source_terms_listed views scope (drop i es) first next ≡ whole
      → made' ++ source_terms_listed views scope (drop (i + 1) es) (first + e.width) next ≡ whole
  sources-step es i e first next made made' whole h is step invariant =
      rw step (append_assoc made (source_term views e.source scope (names_from first e.width) next ∷ []) (source_terms_listed views scope (drop (i + 1) es) (first + e.width) next)
      ∙ ap (λ r. made ++ r) (sym (at-head (λ xs. source_terms_listed views scope xs first next) es i e h is ∙ sources-cons e (drop (i + 1) es) first next)) ∙ invariant)

  pub sources-end : (es : List REntry) (i first next : ℕ) (made whole : List U) → length es ≤ i → made ++ source_terms_listed views scope (drop i es) first next ≡ whole → made ≡ whole
  sources-end es i first next made whole h invariant =
      sym (append-nil made) ∙ (ap (λ r. made ++ r) (sym (at-end (λ xs. source_terms_listed views scope xs first next) es i h ∙ sources-nil first next)) ∙ invariant)

  -- ---- items beside a row
  abbrev pub items_from : List RVal → List Val → ℕ → ℕ → List U
  items_from items row next i = item_factors_listed views scope (drop i items) (drop i row) next

  pub item-step : (items : List RVal) (row : List Val) (next i : ℕ) (item : RVal) (d : Val) (made made' whole : List U)
      → i < length items → item ≡ get_or items i item → i < length row → made' ≡ made ++ u.Eq (value_term views item scope next) (get_or row i d) ∷ []
      → made ++ items_from items row next i ≡ whole → made' ++ items_from items row next (i + 1) ≡ whole
  item-step items row next i item d made made' whole h is k step invariant =
      let a = get_or row i d in
      let e : suc i ≡ i + 1 = omega arith in
      let rows : drop i row ≡ a ∷ drop (i + 1) row = drop-cons row i d k ∙ ap (λ j. a ∷ drop j row) e in
      rw step (append_assoc made (u.Eq (value_term views item scope next) a ∷ []) (items_from items row next (i + 1))
      ∙ ap (λ r. made ++ r) (sym (items-cons next item (drop (i + 1) items) a (drop (i + 1) row))
      ∙ (λ j. item_factors_listed views scope (sym (drop-head items i item h is) j) (sym rows j) next))
      ∙ invariant)

  pub item-skip : (items : List RVal) (row : List Val) (next i : ℕ) (made whole : List U) → length row ≤ i → made ++ items_from items row next i ≡ whole
      → made ++ items_from items row next (i + 1) ≡ whole
  item-skip items row next i made whole h invariant =
      let d : drop i row ≡ [] = drop_all i row h in
      let e : drop (i + 1) row ≡ [] = drop_all (i + 1) row (omega (arith, h)) in
      ap (λ r. made ++ r) (ap (λ xs. item_factors_listed views scope (drop (i + 1) items) xs next) e ∙ items-none next (drop (i + 1) items)
      ∙ sym (ap (λ xs. item_factors_listed views scope (drop i items) xs next) d ∙ items-none next (drop i items)))
      ∙ invariant

  pub item-end : (items : List RVal) (row : List Val) (next i : ℕ) (made whole : List U) → length items ≤ i → made ++ items_from items row next i ≡ whole → made ≡ whole
  item-end items row next i made whole h invariant =
      let d : drop i items ≡ [] = drop_all i items h in
      sym (append-nil made) ∙ (ap (λ r. made ++ r) (sym (ap (λ es. item_factors_listed views scope es (drop i row) next) d ∙ items-nil next (drop i row))) ∙ invariant)

  -- ---- items in parts
  pub items-both : (next : ℕ) (xs ys : List RVal) (row : List Val)
      → item_factors_listed views scope (xs ++ ys) row next
      ≡ item_factors_listed views scope xs row next ++ item_factors_listed views scope ys (drop (length xs) row) next
  items-both next [] ys row = ap (λ before. before ++ item_factors_listed views scope ys row next) (sym (items-nil next row))
  items-both next (x ∷ xs) ys [] =
      let d : drop (length (x ∷ xs)) [] ≡ [] = drop_all (length (x ∷ xs)) [] (omega arith) in
      items-none next (x ∷ xs ++ ys)
      ∙ sym ((λ j. items-none next (x ∷ xs) j ++ item_factors_listed views scope ys (d j) next) ∙ items-none next ys)
  items-both next (x ∷ xs) ys (a ∷ row) =
      items-cons next x (xs ++ ys) a row
      ∙ (ap (λ rest. u.Eq (value_term views x scope next) a ∷ rest) (items-both next xs ys row)
      ∙ ap (λ before. before ++ item_factors_listed views scope ys (drop (length xs) row) next) (sym (items-cons next x xs a row)))

  pub part-step : (parts : List (List RVal)) (i : ℕ) (part last : List RVal) (row row' : List Val) (next : ℕ) (made made' whole : List U)
      → i < length parts → part ≡ get_or parts i part → made' ≡ made ++ item_factors_listed views scope part row next → row' ≡ drop (length part) row
      → made ++ item_factors_listed views scope (written (drop i parts) last) row next ≡ whole
      → made' ++ item_factors_listed views scope (written (drop (i + 1) parts) last) row' next ≡ whole
  part-step parts i part last row row' next made made' whole h is step rest invariant =
      let after = written (drop (i + 1) parts) last in
      rw (step, rest) (append_assoc made (item_factors_listed views scope part row next) (item_factors_listed views scope after (drop (length part) row) next)
      ∙ (ap (λ r. made ++ r) (sym (items-both next part after row)
      ∙ ap (λ xs. item_factors_listed views scope (written xs last) row next) (sym (drop-head parts i part h is)))
      ∙ invariant))

  pub part-end : (parts : List (List RVal)) (i : ℕ) (last : List RVal) (row : List Val) (next : ℕ) (made whole : List U)
      → length parts ≤ i → made ++ item_factors_listed views scope (written (drop i parts) last) row next ≡ whole
      → made ++ item_factors_listed views scope last row next ≡ whole
  part-end parts i last row next made whole h invariant =
      let d : drop i parts ≡ [] = drop_all i parts h in
      ap (λ xs. made ++ item_factors_listed views scope (written xs last) row next) (sym d) ∙ invariant

pub ruleset queries = (query-Block, query-Set)

pub ruleset sources = (source-Table, source-View, source-Query)

pub ruleset conditions = (condition-Eq, condition-Pred, condition-And, condition-Or, condition-Not, condition-Exists, condition-In)

pub ruleset having_at = (having-And, having-Eq, having-Pred, having-Or, having-Not, having-Exists, having-In)

pub ruleset values = (value-Col, value-Key, value-Lit, value-Fun, value-Agg, value-Sub)

pub ruleset blocks = (plain-is, one-is, keys-is)

pub ruleset scalars = (scalar-none, scalar-some)

-- ---- views
pub view-there : (trees : List RQuery) (place : ℕ) (tree : RQuery) → place < length trees → tree ≡ get_or trees place tree
    → get_or (terms_of trees) place (λ row next. u.Zero) ≡ view_term (terms_of (take place trees)) tree
unfolding terms_of
view-there trees place tree h is = at-place TermAt view_term trees place tree (λ row next. u.Zero) h is

pub view-past : (trees : List RQuery) (place : ℕ) → length trees ≤ place → get_or (terms_of trees) place (λ row next. u.Zero) ≡ (λ row next. u.Zero)
unfolding terms_of
view-past trees place h = past-last TermAt view_term trees place (λ row next. u.Zero) h
