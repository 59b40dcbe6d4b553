-- The rows of a query are those of its resolved tree, in the same order.
--     w and env are the world and the environment of names, rd and renv those of places; ls are the levels, and H the headings of FROM.
use Rattle.std.proofs.Common.{◌≡◌, ℕ, suc, ◌+◌, Bool, true, false, not, ◌&&◌, ◌||◌, List, [], ◌∷◌, ◌++◌, map, filter, length, get_or, option_map, unwrap_or, cond, refl, ap, sym, subst, ◌∙◌, arith}
use Rattle.std.specs.Prelude.{nat_eq, if◌then◌else◌}
use Rattle.std.specs.List.{flat_map}
use Rattle.std.proofs.lemmas.Bool.Decides.{nat_tests}
use Rattle.std.proofs.lemmas.List.{append_assoc, map-append}
use Rattle.data_model.specs.Lists.{Each}
use Rattle.data_model.specs.Rows.{Row, same_row, is_among, distinct, product}
use Rattle.data_model.specs.Reading.{literal_value, function_value, predicate_holds}
use Rattle.data_model.specs.Database.{Database}
use Rattle.data_model.proofs.Occurrences.{same_row-is}
use Rattle.data_model.proofs.Sums.{equal_self}
use Rattle.sql_model.specs.Syntax as n
use Rattle.sql_model.specs.Frames.{BoundEntry}
use Rattle.sql_model.specs.Frames as nf
use Rattle.sql_model.specs.Columns.{column_value}
use Rattle.sql_model.specs.Headings.{Heading, output_columns, headings, source_columns}
use Rattle.sql_model.specs.Grouping.{is_one_group}
use Rattle.sql_model.specs.Grouping as grouping
use Rattle.sql_model.specs.Aggregates.{counts_rows, aggregate}
use Rattle.sql_model.specs.Answers.{distinct_if, combined, is_empty, only_value}
use Rattle.sql_model.specs.World.{relation_headings}
use Rattle.sql_model.specs.World.{World as NamedWorld}
use Rattle.sql_model.specs.Meaning as m
use Rattle.scope_core.specs.declared.tree.RVal.TheVariants as v
use Rattle.scope_core.specs.declared.tree.RCond.TheVariants as c
use Rattle.scope_core.specs.Syntax.{RCond}
use Rattle.scope_core.specs.Scope.{Known, heading, Place, same_place, is_among_places, Sight, AsRows, AsGroup, Level, Levels, output_sight, rows_level, member_levels, on_level, no_entry, group_place, group_places, grouping_of}
use Rattle.scope_core.specs.Resolving.{conjunction, resolved_value, resolved_values, resolved_argument, only_block, conjuncts, conjuncts_of_each, resolved_conditions, conjuncts_written, resolved_having, resolved, resolved_block, resolved_entries, resolved_source, on_conjuncts, resolved_items, resolved_item, index_of}
use Rattle.scope_core.specs.Environments.{World, Environment, Frame, frame_of, row_of, rows_at, members_here, outer_frames}
use Rattle.scope_core.specs.Evaluation.{values_at, group_frame, group_of, frames, value, truth, rows, block_rows, source_rows}
use Rattle.scope_core.proofs.basics.Booleans.{and-first, and-second, and-true, and-assoc}
use Rattle.scope_core.proofs.basics.Each.{Each-filter, Each-distinct}
use Rattle.scope_core.proofs.basics.Lists.{longer, get-between, map-map, map-id}
use Rattle.scope_core.proofs.well_formed.Resolvable.{ResolvableKey, ResolvableKeys, ResolvableGroupBy, ResolvableArgument, ResolvableScalar, Resolvable, ResolvableBlock, ResolvableEntries, ResolvableSource, ResolvableWritten, ResolvableItems, ResolvableItem, ResolvableValue, ResolvableValues, ResolvableCondition, ResolvableConditions}
use Rattle.scope_core.proofs.rows.Built.{values_of, every, some, held, argument_given, rows_each, value-Fun, value-Col, value-Sub, value-Agg, truth-Eq, truth-Pred, truth-Or, truth-Not, truth-Exists, truth-In, truth-conjunction, source-Query, rows-Block, rows-Set, rows-of_block}
use Rattle.scope_core.proofs.rows.Places.{IsBound, AtRows, read, rows_of_entries, ReadsColumns, ReadsLevel, Outer, Reads, outer, place-reads, column-same, star-same, alias_star-same}
use Rattle.scope_core.proofs.rows.Wide.{Heads, product-heads, Shows, named-same, choices-wide, known-eq, group-under}

-- ---- lists
-- one row of each entry, with its names or alone
product-map : {X Y : Type 0} (f : X → Y) (css : List (List X)) → product (map (map f) css) ≡ map (map f) (product css)
product-map f [] = refl
product-map f (cs ∷ css) = (λ i. flat_map (λ b. map (λ bs. b ∷ bs) (product-map f css i)) (map f cs)) ∙ flat f cs (product css)
  where
    inner : {X Y : Type 0} (f : X → Y) (c : X) (p : List (List X)) → map (λ bs. f c ∷ bs) (map (map f) p) ≡ map (map f) (map (λ bs. c ∷ bs) p)
    inner f c [] = refl
    inner f c (x ∷ p) = ap (λ l. (f c ∷ map f x) ∷ l) (inner f c p)

    flat : {X Y : Type 0} (f : X → Y) (cs : List X) (p : List (List X)) → flat_map (λ b. map (λ bs. b ∷ bs) (map (map f) p)) (map f cs) ≡ map (map f) (flat_map (λ b. map (λ bs. b ∷ bs) p) cs)
    flat f [] p = refl
    flat f (c ∷ cs) p = (λ i. inner f c p i ++ flat f cs p i) ∙ sym (map-append (map f) (map (λ bs. c ∷ bs) p) (flat_map (λ b. map (λ bs. b ∷ bs) p) cs))

made-cond : {X Y Z : Type 0} (made : Y → Z) (made' : X → Z) (y : Y) (x : X) (ys : List Y) (xs : List X) (b : Bool) → made y ≡ made' x → map made ys ≡ map made' xs
    → map made (cond b (y ∷ ys) ys) ≡ map made' (cond b (x ∷ xs) xs)
made-cond made made' y x ys xs true e es = λ i. e i ∷ es i
made-cond made made' y x ys xs false e es = es

-- what is kept and made, of combinations of either kind
made-same : {X Y Z : Type 0} (f : X → Y) (P : X → Type 0) (k : Y → Bool) (k' : X → Bool) (made : Y → Z) (made' : X → Z) (xs : List X)
    → ((x : X) → P x → k (f x) ≡ k' x) → ((x : X) → P x → made (f x) ≡ made' x) → Each P xs → map made (filter k (map f xs)) ≡ map made' (filter k' xs)
made-same f P k k' made made' [] hk hm each = refl
made-same f P k k' made made' (x ∷ xs) hk hm each =
    ap (λ b. map made (cond b (f x ∷ filter k (map f xs)) (filter k (map f xs)))) (hk x each.0)
    ∙ made-cond made made' (f x) x (filter k (map f xs)) (filter k' xs) (k' x) (hm x each.0) (made-same f P k k' made made' xs hk hm each.1)

-- keeping commutes with mapping
filter-map : {X Y : Type 0} (f : X → Y) (P : X → Type 0) (k : Y → Bool) (k' : X → Bool) (xs : List X) → ((x : X) → P x → k (f x) ≡ k' x) → Each P xs → filter k (map f xs) ≡ map f (filter k' xs)
filter-map f P k k' xs h each = sym (map-id (filter k (map f xs))) ∙ made-same f P k k' (λ y. y) f xs h (λ x p. refl) each

map-each : {X Y : Type 0} (P : X → Type 0) (f g : X → Y) (xs : List X) → ((x : X) → P x → f x ≡ g x) → Each P xs → map f xs ≡ map g xs
map-each P f g [] h each = refl
map-each P f g (x ∷ xs) h each = λ i. h x each.0 i ∷ map-each P f g xs h each.1 i

made-pairs : {A Y X : Type 0} (P : A → Type 0) (fy : A → Y) (fx : A → X) (k : Y → Bool) (k' : X → Bool) (made : Y → Row) (made' : X → Row) (xs : List A)
    → ((x : A) → P x → k (fy x) ≡ k' (fx x)) → ((x : A) → P x → made (fy x) ≡ made' (fx x)) → Each P xs → map made (filter k (map fy xs)) ≡ map made' (filter k' (map fx xs))
made-pairs P fy fx k k' made made' [] hk hm each = refl
made-pairs P fy fx k k' made made' (x ∷ xs) hk hm each =
    ap (λ b. map made (cond b (fy x ∷ filter k (map fy xs)) (filter k (map fy xs)))) (hk x each.0)
    ∙ made-cond made made' (fy x) (fx x) (filter k (map fy xs)) (filter k' (map fx xs)) (k' (fx x)) (hm x each.0) (made-pairs P fy fx k k' made made' xs hk hm each.1)

-- ---- groups
same-self : (r : Row) → same_row r r ≡ true
same-self [] = refl
same-self (x ∷ r) = rw (equal_self x) (same-self r)

abbrev NonEmpty : {X : Type 0} → List X → Type 0
NonEmpty [] = ⊥
NonEmpty (x ∷ xs) = Unit {0}

-- a group for a key has a member, which has this key
hit-first : {X : Type 0} (b : Bool) (x : X) (xs : List X) → b ≡ true → NonEmpty (cond b (x ∷ xs) xs)
hit-first b x xs e = subst (λ b. NonEmpty (cond b (x ∷ xs) xs)) (sym e) tt

hit-later : {X : Type 0} (b : Bool) (x : X) (xs : List X) → NonEmpty xs → NonEmpty (cond b (x ∷ xs) xs)
hit-later true x xs h = tt
hit-later false x xs h = h

all-hit : {X : Type 0} (key : X → Row) (xs : List X) → Each (λ k. NonEmpty (filter (λ c. same_row (key c) k) xs)) (map key xs)
all-hit key [] = tt
all-hit key (x ∷ xs) = (
  hit-first (same_row (key x) (key x)) x (filter (λ c. same_row (key c) (key x)) xs) (same-self (key x)),
  weaker (map key xs) (all-hit key xs),
)
  where
    weaker : (ks : List Row) → Each (λ k. NonEmpty (filter (λ c. same_row (key c) k) xs)) ks → Each (λ k. NonEmpty (filter (λ c. same_row (key c) k) (x ∷ xs))) ks
    weaker [] h = tt
    weaker (k ∷ ks) h = (hit-later (same_row (key x) k) x (filter (λ c. same_row (key c) k) xs) h.0, weaker ks h.1)

kept-passes : {X : Type 0} (p : X → Bool) (xs : List X) → Each (λ x. p x ≡ true) (filter p xs)
kept-passes p [] = tt
kept-passes p (x ∷ xs) = keep (p x) refl (kept-passes p xs)
  where
    keep : (b : Bool) → p x ≡ b → Each (λ x. p x ≡ true) (filter p xs) → Each (λ x. p x ≡ true) (cond b (x ∷ filter p xs) (filter p xs))
    keep true e h = (e, h)
    keep false e h = h

key-at : (columns : List Place) (rs : List Row) (p : Place) → is_among_places p columns ≡ true → get_or (values_at columns rs) (index_of p columns) 0 ≡ read rs p
key-at [] rs p h = grind (arith, h)
key-at (c ∷ columns) rs p h = split (same_place p c) refl (λ k. key-at columns rs p k)
  where
    same-first : same_place p c ≡ true → read rs c ≡ read rs p
    same-first e =
        let first : nat_eq p.0 c.0 ≡ true = and-first (nat_eq p.0 c.0) (nat_eq p.1 c.1) e in
        let second : nat_eq p.1 c.1 ≡ true = and-second (nat_eq p.0 c.0) (nat_eq p.1 c.1) e in
        let q : p.0 ≡ c.0 = grind (arith, nat_tests) in
        let q' : p.1 ≡ c.1 = grind (arith, nat_tests) in
        sym (λ i. get_or (row_of rs (q i)) (q' i) 0)

    split : (b : Bool) → same_place p c ≡ b → (is_among_places p columns ≡ true → get_or (values_at columns rs) (index_of p columns) 0 ≡ read rs p)
        → get_or (read rs c ∷ values_at columns rs) (if b then 0 else suc (index_of p columns)) 0 ≡ read rs p
    split true e ih = same-first e
    split false e ih = ih (rw e at h)

-- ---- combinations
at_rows : (pre : List Row) (hs : List Heading) (bs : List BoundEntry) → Heads hs bs → AtRows (length pre) hs bs (pre ++ rows_of_entries bs)
at_rows pre [] [] h = tt
at_rows pre [] (b ∷ bs) h = absurd h
at_rows pre (k ∷ hs) [] h = absurd h
at_rows pre (k ∷ hs) (b ∷ bs) h = (
  record { alias = h.0.alias; columns = h.0.columns; long = h.0.long; row = get-between pre b.row (rows_of_entries bs) [] },
  subst (λ l. AtRows l hs bs (pre ++ b.row ∷ rows_of_entries bs)) (longer pre b.row)
      (subst (λ rs. AtRows (length (pre ++ b.row ∷ [])) hs bs rs) (append_assoc pre (b.row ∷ []) (rows_of_entries bs)) (at_rows (pre ++ b.row ∷ []) hs bs h.1)),
)

-- ---- what an ON sees
at_end : (k : ℕ) (hs : List Heading) (bs : List BoundEntry) (h : Heading) (b : BoundEntry) (full : List Row) → AtRows k hs bs full → IsBound h b (row_of full (k + length bs)) → AtRows k (hs ++ h ∷ []) (bs ++ b ∷ []) full
at_end k [] [] h b full a is = let e : k + 0 ≡ k = omega arith in (subst (λ j. IsBound h b (row_of full j)) e is, tt)
at_end k [] (x ∷ bs) h b full a is = absurd a
at_end k (y ∷ hs) [] h b full a is = absurd a
at_end k (y ∷ hs) (x ∷ bs) h b full a is =
    let e : k + suc (length bs) ≡ suc k + length bs = omega arith in
    (a.0, at_end (suc k) hs bs h b full a.1 (subst (λ j. IsBound h b (row_of full j)) e is))

pub record SeesItem (l : Level) (item : List BoundEntry) (full : List Row) (k : ℕ) : Type 0 where
  pub sight : l.sight ≡ AsRows
  pub at : AtRows l.first l.headings item full
  pub next : l.first + length item ≡ k

seen_next : (joined : Bool) (l : Level) (item : List BoundEntry) (full : List Row) (k : ℕ) (h : Heading) (b : BoundEntry) → SeesItem l item full k → IsBound h b (row_of full k)
    → SeesItem (on_level joined l k h) ((if joined then item else []) ++ b ∷ []) full (suc k)
seen_next true l item full k h b s is = record {
  sight = refl;
  at = at_end l.first l.headings item h b full s.at (subst (λ j. IsBound h b (row_of full j)) (sym s.next) is);
  next = ap (λ q. l.first + q) (longer item b) ∙ (let e : l.first + suc (length item) ≡ suc (l.first + length item) = omega arith in e ∙ ap suc s.next);
}
seen_next false l item full k h b s is = record { sight = refl; at = (is, tt); next = omega arith }

-- ---- tests
every-append : (xs ys : List RCond) (w : World) (env : Environment) → every (xs ++ ys) w env ≡ (every xs w env && every ys w env)
every-append [] ys w env = refl
every-append (x ∷ xs) ys w env = ap (λ b. truth x w env && b) (every-append xs ys w env) ∙ and-assoc (truth x w env) (every xs w env) (every ys w env)

module _ (w : NamedWorld) (known : List Known) (db : Database) (views : List (List Row)) where
  abbrev pub rd : World
  rd = record { size = w.size; reading = w.reading; db = db; views = views }

  module _ (shows : Shows rd w.relations known) where
    abbrev hs : List Heading
    hs = map heading known

    knowns : relation_headings w ≡ hs
    knowns = known-eq w rd known shows

    abbrev out : List Heading → Sight → Level
    out H K = record { first = 0; headings = H; sight = K }

    reads_block : (H : List Heading) (c : List BoundEntry) (ls : Levels) (env : nf.Environment) (renv : Environment) → Heads H c → Outer ls env renv
        → Reads (rows_level H ∷ ls) (nf.frame_of c ∷ env) (frame_of (rows_of_entries c) ∷ renv)
    reads_block H c ls env renv h r = (record { columns = at_rows [] H c h; members = refl; each = tt }, r)

    -- ---- groups
    abbrev group : List Heading → List (List BoundEntry) → nf.Frame
    group H ms = grouping.group_frame H ms

    group-members : (H : List Heading) (ms : List (List BoundEntry)) → (group H ms).members ≡ ms
    group-members H [] = refl
    group-members H (c ∷ ms) = refl

    each-at : (H : List Heading) (ms : List (List BoundEntry)) → Each (Heads H) ms → Each (λ c. AtRows 0 H c (rows_of_entries c)) ms
    each-at H [] h = tt
    each-at H (c ∷ ms) h = (at_rows [] H c h.0, each-at H ms h.1)

    group-reads : (H : List Heading) (columns : List Place) (ms : List (List BoundEntry)) (k : Row) (gm : List (List Row)) → Each (Heads H) ms → gm ≡ map rows_of_entries ms
        → ((p : Place) → is_among_places p columns ≡ true → get_or k (index_of p columns) 0 ≡ read (rows_of_entries (group H ms).entries) p)
        → ReadsLevel (out H (AsGroup columns)) (group H ms) (group_frame k gm)
    group-reads H columns ms k gm h e hk = record {
      columns = (at_rows [] H (group H ms).entries (group-under w rd known shows H ms h), hk);
      members = e ∙ ap (map rows_of_entries) (sym (group-members H ms));
      each = subst (Each (λ c. AtRows 0 H c (rows_of_entries c))) (sym (group-members H ms)) (each-at H ms h);
    }

    key-same : (e : n.Expr) (H : List Heading) (c : List BoundEntry) (env : nf.Environment) → ResolvableKey e H → Heads H c → m.value e w (nf.frame_of c ∷ env) ≡ read (rows_of_entries c) (group_place e H)
    unfolding m.rows
    key-same (n.Col qual qual_at name at) H c env f h =
        ap (λ o. unwrap_or o (column_value qual name env)) (place-reads qual name 0 H c (rows_of_entries c) (at_rows [] H c h))
        ∙ (let p = f.1 in ap (λ o. unwrap_or (option_map (read (rows_of_entries c)) o) (column_value qual name env)) p ∙ ap (λ o. read (rows_of_entries c) (unwrap_or o (length H, 0))) (sym p))
    key-same (n.Lit lit at) H c env f h = absurd f
    key-same (n.Fun sym s args at) H c env f h = absurd f
    key-same (n.Pred sym s args at) H c env f h = absurd f
    key-same (n.Call sym s args at) H c env f h = absurd f
    key-same (n.Agg fun is_distinct argument at) H c env f h = absurd f
    key-same (n.Sub query at) H c env f h = absurd f
    key-same (n.Eq left right at) H c env f h = absurd f
    key-same (n.And s parts at) H c env f h = absurd f
    key-same (n.Or s parts at) H c env f h = absurd f
    key-same (n.Not part at) H c env f h = absurd f
    key-same (n.Exists query at) H c env f h = absurd f
    key-same (n.In left query at in_at) H c env f h = absurd f

    keys-same : {k : _} (es : n.Exprs k) (H : List Heading) (c : List BoundEntry) (env : nf.Environment) → ResolvableKeys es H → Heads H c → m.values es w (nf.frame_of c ∷ env) ≡ values_at (group_places es H) (rows_of_entries c)
    unfolding m.rows
    keys-same n.NoExprs H c env f h = refl
    keys-same (n.ExprThen expr rest) H c env f h = λ i. key-same expr H c env f.0 h i ∷ keys-same rest H c env f.1 h i

    -- the group of a key
    group-of-key : (H : List Heading) (columns : List Place) (key : List BoundEntry → Row) (k : Row) (ms : List (List BoundEntry)) (gm : List (List Row))
        → ((c : List BoundEntry) → Heads H c → key c ≡ values_at columns (rows_of_entries c)) → Each (Heads H) ms → Each (λ c. same_row (key c) k ≡ true) ms → NonEmpty ms → gm ≡ map rows_of_entries ms
        → ReadsLevel (out H (AsGroup columns)) (group H ms) (group_frame k gm)
    group-of-key H columns key k [] gm hk h passes some e = absurd some
    group-of-key H columns key k (c ∷ ms) gm hk h passes some e =
        group-reads H columns (c ∷ ms) k gm h e
        (λ p is. ap (λ r. get_or r (index_of p columns) 0) (sym (same_row-is (key c) k passes.0) ∙ hk c h.0) ∙ key-at columns (rows_of_entries c) p is)

    -- frames of either kind, and what is made of them
    finish : (group_by : n.MaybeGroupBy) (one : Bool) (H : List Heading) (kept : List (List BoundEntry)) (env : nf.Environment) (keep : Frame → Bool) (keep' : nf.Frame → Bool) (made : Frame → Row) (made' : nf.Frame → Row)
        → ResolvableGroupBy group_by H → Each (Heads H) kept
        → ((f : nf.Frame) (x : Frame) → ReadsLevel (out H (output_sight (grouping_of group_by one H))) f x → keep x ≡ keep' f)
        → ((f : nf.Frame) (x : Frame) → ReadsLevel (out H (output_sight (grouping_of group_by one H))) f x → made x ≡ made' f)
        → map made (filter keep (frames (grouping_of group_by one H) (map rows_of_entries kept))) ≡ map made' (filter keep' (m.frames group_by one H kept w env))
    unfolding m.rows
    finish n.NoGroupBy false H kept env keep keep' made made' f h hk hm =
        ap (λ fs. map made (filter keep fs)) (map-map frame_of rows_of_entries kept)
        ∙ made-pairs (Heads H) (λ c. frame_of (rows_of_entries c)) nf.frame_of keep keep' made made' kept
        (λ c i. hk (nf.frame_of c) (frame_of (rows_of_entries c)) (record { columns = at_rows [] H c i; members = refl; each = tt }))
        (λ c i. hm (nf.frame_of c) (frame_of (rows_of_entries c)) (record { columns = at_rows [] H c i; members = refl; each = tt })) h
    finish n.NoGroupBy true H kept env keep keep' made made' f h hk hm =
        let level = group-reads H [] kept [] (map rows_of_entries kept) h refl (λ p is. absurd (let b : false ≡ true = is in grind (arith, b))) in
        made-pairs (λ (u : Unit {0}). Unit {0}) (λ u. group_frame [] (map rows_of_entries kept)) (λ u. group H kept) keep keep' made made' (tt ∷ [])
        (λ u i. hk (group H kept) (group_frame [] (map rows_of_entries kept)) level)
        (λ u i. hm (group H kept) (group_frame [] (map rows_of_entries kept)) level) (tt, tt)
    finish (n.GroupBy s keys) one H kept env keep keep' made made' f h hk hm =
        let columns = group_places keys H in
        let key = λ (c : List BoundEntry). m.values keys w (nf.frame_of c ∷ env) in
        let key-is : (c : List BoundEntry) → Heads H c → key c ≡ values_at columns (rows_of_entries c) = λ c i. keys-same keys H c env f i in
        let of_key = λ (k : Row). filter (λ c. same_row (key c) k) kept in
        let ks = distinct (map key kept) in
        let P : Row → Type 0 = λ k. NonEmpty (of_key k) in
        let level : (k : Row) → P k → ReadsLevel (out H (AsGroup columns)) (group H (of_key k)) (group_of columns (map rows_of_entries kept) k) = λ k some.
        group-of-key H columns key k (of_key k) (filter (λ c. same_row (values_at columns c) k) (map rows_of_entries kept)) key-is (Each-filter (Heads H) (λ c. same_row (key c) k) kept h) (kept-passes (λ c. same_row (key c) k) kept) some
        (filter-map rows_of_entries (Heads H) (λ c. same_row (values_at columns c) k) (λ c. same_row (key c) k) kept (λ c i. ap (λ r. same_row r k) (sym (key-is c i))) h) in
        ap (λ ks. map made (filter keep (map (group_of columns (map rows_of_entries kept)) ks)))
        (ap distinct (map-map (values_at columns) rows_of_entries kept ∙ map-each (Heads H) (λ c. values_at columns (rows_of_entries c)) key kept (λ c i. sym (key-is c i)) h))
        ∙ made-pairs P (group_of columns (map rows_of_entries kept)) (λ k. group H (of_key k)) keep keep' made made' ks
        (λ k some. hk (group H (of_key k)) (group_of columns (map rows_of_entries kept) k) (level k some))
        (λ k some. hm (group H (of_key k)) (group_of columns (map rows_of_entries kept) k) (level k some))
        (Each-distinct P (map key kept) (all-hit key kept))
        ∙ ap (λ fs. map made' (filter keep' fs)) (sym (map-map (grouping.group_frame H) of_key ks))

    -- an aggregate's members
    members-same : (ls : Levels) (env : nf.Environment) (renv : Environment) (P : List Row → ℕ) (Q : List BoundEntry → ℕ) → Reads ls env renv
        → ((c : List BoundEntry) → Reads (member_levels ls) (nf.frame_of c ∷ nf.outer_frames env) (frame_of (rows_of_entries c) ∷ outer_frames renv) → P (rows_of_entries c) ≡ Q c)
        → map P (members_here renv) ≡ map Q (nf.members_here env)
    members-same [] [] [] P Q r h = refl
    members-same [] [] (x ∷ renv) P Q r h = absurd r
    members-same [] (f ∷ env) renv P Q r h = absurd r
    members-same (l ∷ ls) [] renv P Q r h = absurd r
    members-same (l ∷ ls) (f ∷ env) [] P Q r h = absurd r
    members-same (l ∷ ls) (f ∷ env) (x ∷ renv) P Q r h =
        ap (map P) r.0.members ∙ map-map P rows_of_entries f.members
        ∙ map-each (λ c. AtRows l.first l.headings c (rows_of_entries c)) (λ c. P (rows_of_entries c)) Q f.members (λ c a. h c (record { columns = a; members = refl; each = tt }, r.1)) r.0.each

    lit-same : (lit : ℕ) (renv : Environment) → value (v.Lit lit) rd renv ≡ literal_value w.reading lit
    unfolding rows
    lit-same lit renv = refl

    nothing_out : (ls : Levels) (env : nf.Environment) (renv : Environment) → Outer ls env renv → rows_at renv (length ls) ≡ []
    nothing_out [] [] [] r = refl
    nothing_out [] [] (x ∷ renv) r = absurd r
    nothing_out [] (f ∷ env) renv r = absurd r
    nothing_out (l ∷ ls) [] renv r = absurd r
    nothing_out (l ∷ ls) (f ∷ env) [] r = absurd r
    nothing_out (l ∷ ls) (f ∷ env) (x ∷ renv) r = nothing_out ls env renv r.2

    nothing_at : (ls : Levels) (env : nf.Environment) (renv : Environment) → Reads ls env renv → rows_at renv (length ls) ≡ []
    nothing_at [] [] [] r = refl
    nothing_at [] [] (x ∷ renv) r = absurd r
    nothing_at [] (f ∷ env) renv r = absurd r
    nothing_at (l ∷ ls) [] renv r = absurd r
    nothing_at (l ∷ ls) (f ∷ env) [] r = absurd r
    nothing_at (l ∷ ls) (f ∷ env) (x ∷ renv) r = nothing_out ls env renv r.1

    outer_frames-zero : (ls : Levels) (env : nf.Environment) (renv : Environment) → Reads ls env renv → value (v.Col (length ls) 0 0) rd renv ≡ 0
    outer_frames-zero ls env renv r = value-Col rd renv (length ls) 0 0 ∙ ap (λ q. get_or (row_of q 0) 0 0) (nothing_at ls env renv r)

    single : (a : RCond) (renv : Environment) (b : Bool) → truth a rd renv ≡ b → every (a ∷ []) rd renv ≡ b
    single a renv b e = and-true (truth a rd renv) ∙ e

    alone : (cs : List RCond) (renv : Environment) (b : Bool) → every cs rd renv ≡ b → truth (conjunction cs) rd renv ≡ b
    alone cs renv b e = truth-conjunction rd renv cs ∙ e

    mutual
      unfolding m.rows Resolvable resolved output_columns

      pub value-same : (e : n.Expr) (ls : Levels) (env : nf.Environment) (renv : Environment) → ResolvableValue e hs ls → Reads ls env renv → value (resolved_value e known ls) rd renv ≡ m.value e w env
      value-same (n.Col qual qual_at name at) ls env renv f r = column-same rd qual name ls env renv f r
      value-same (n.Lit lit at) ls env renv f r = lit-same lit renv
      value-same (n.Fun sym s args at) ls env renv f r = value-Fun rd renv sym (resolved_values args known ls) ∙ ap (function_value w.reading sym) (values-same args ls env renv f r)
      value-same (n.Call sym s args at) ls env renv f r = value-Fun rd renv sym (resolved_values args known ls) ∙ ap (function_value w.reading sym) (values-same args ls env renv f r)
      value-same (n.Agg fun is_distinct argument at) ls env renv f r =
          value-Agg rd renv fun is_distinct (resolved_argument argument known (member_levels ls))
          ∙ ap (aggregate w.size w.reading fun is_distinct)
          (members-same ls env renv (λ c. argument_given (resolved_argument argument known (member_levels ls)) (counts_rows fun is_distinct) rd (frame_of c ∷ outer_frames renv))
          (λ c. m.argument_value argument (counts_rows fun is_distinct) w (nf.frame_of c ∷ nf.outer_frames env)) r
          (λ c r'. argument-same argument fun is_distinct (member_levels ls) (nf.frame_of c ∷ nf.outer_frames env) (frame_of (rows_of_entries c) ∷ outer_frames renv) f.1 r'))
      value-same (n.Sub query at) ls env renv f r = value-Sub rd renv (only_block query known ls) ∙ ap only_value (sub-same query ls env renv f.1 (outer ls env renv f.0 r))
      value-same (n.Pred sym s args at) ls env renv f r = absurd f
      value-same (n.Eq left right at) ls env renv f r = absurd f
      value-same (n.And s parts at) ls env renv f r = absurd f
      value-same (n.Or s parts at) ls env renv f r = absurd f
      value-same (n.Not part at) ls env renv f r = absurd f
      value-same (n.Exists query at) ls env renv f r = absurd f
      value-same (n.In left query at in_at) ls env renv f r = absurd f

      pub argument-same : (argument : n.MaybeArgument) (fun : _) (is_distinct : Bool) (ls : Levels) (env : nf.Environment) (renv : Environment) → ResolvableArgument argument hs ls → Reads ls env renv
          → argument_given (resolved_argument argument known ls) (counts_rows fun is_distinct) rd renv ≡ m.argument_value argument (counts_rows fun is_distinct) w env
      argument-same n.NoArgument fun is_distinct ls env renv f r = refl
      argument-same (n.AnArgument expr) fun is_distinct ls env renv f r = ap (λ x. if counts_rows fun is_distinct then literal_value w.reading 0 else x) (value-same expr ls env renv f r)

      pub sub-same : (query : n.Query) (ls : Levels) (env : nf.Environment) (renv : Environment) → ResolvableScalar query hs ls → Outer ls env renv → block_rows (only_block query known ls) rd renv ≡ m.rows query w env
      sub-same (n.OfBlock block) ls env renv f r = block-same block ls env renv f.0 r
      sub-same (n.Set op left right at) ls env renv f r = absurd f

      pub values-same : {k : _} (es : n.Exprs k) (ls : Levels) (env : nf.Environment) (renv : Environment) → ResolvableValues es hs ls → Reads ls env renv → values_of (resolved_values es known ls) rd renv ≡ m.values es w env
      values-same n.NoExprs ls env renv f r = refl
      values-same (n.ExprThen expr rest) ls env renv f r = λ i. value-same expr ls env renv f.0 r i ∷ values-same rest ls env renv f.1 r i

      pub some-same : {k : _} (es : n.Exprs k) (ls : Levels) (env : nf.Environment) (renv : Environment) → ResolvableConditions es hs ls → Reads ls env renv → some (resolved_conditions es known ls) rd renv ≡ m.some_hold es w env
      some-same n.NoExprs ls env renv f r = refl
      some-same (n.ExprThen expr rest) ls env renv f r = λ i. alone (conjuncts expr known ls) renv _ (conjuncts-same expr ls env renv f.0 r) i || some-same rest ls env renv f.1 r i

      pub conjuncts-same : (e : n.Expr) (ls : Levels) (env : nf.Environment) (renv : Environment) → ResolvableCondition e hs ls → Reads ls env renv → every (conjuncts e known ls) rd renv ≡ m.truth e w env
      conjuncts-same (n.And s parts at) ls env renv f r = conjuncts_of_each-same parts ls env renv f r
      conjuncts-same (n.Pred sym s args at) ls env renv f r =
          single (c.Pred sym (resolved_values args known ls)) renv _ (truth-Pred rd renv sym (resolved_values args known ls) ∙ ap (predicate_holds w.reading sym) (values-same args ls env renv f r))
      conjuncts-same (n.Call sym s args at) ls env renv f r =
          single (c.Pred sym (resolved_values args known ls)) renv _ (truth-Pred rd renv sym (resolved_values args known ls) ∙ ap (predicate_holds w.reading sym) (values-same args ls env renv f r))
      conjuncts-same (n.Eq left right at) ls env renv f r =
          single (c.Eq (resolved_value left known ls) (resolved_value right known ls)) renv _
          (truth-Eq rd renv (resolved_value left known ls) (resolved_value right known ls) ∙ (λ i. nat_eq (value-same left ls env renv f.0 r i) (value-same right ls env renv f.1 r i)))
      conjuncts-same (n.Or s parts at) ls env renv f r = single (c.Or (resolved_conditions parts known ls)) renv _ (truth-Or rd renv (resolved_conditions parts known ls) ∙ some-same parts ls env renv f r)
      conjuncts-same (n.Not part at) ls env renv f r = single (c.Not (conjunction (conjuncts part known ls))) renv _ (truth-Not rd renv (conjunction (conjuncts part known ls)) ∙ ap not (alone (conjuncts part known ls) renv _ (conjuncts-same part ls env renv f r)))
      conjuncts-same (n.Exists query at) ls env renv f r =
          single (c.Exists (resolved query known ls)) renv _ (truth-Exists rd renv (resolved query known ls) ∙ ap (λ rs. not (is_empty rs)) (rows-same query ls env renv f.1 (outer ls env renv f.0 r)))
      conjuncts-same (n.In left query at in_at) ls env renv f r =
          single (c.In (resolved_value left known ls) (resolved query known ls)) renv _
          (truth-In rd renv (resolved_value left known ls) (resolved query known ls) ∙ (λ i. is_among (value-same left ls env renv f.1 r i ∷ []) (rows-same query ls env renv f.2 (outer ls env renv f.0 r) i)))
      conjuncts-same (n.Col qual qual_at name at) ls env renv f r = absurd f
      conjuncts-same (n.Lit lit at) ls env renv f r = absurd f
      conjuncts-same (n.Fun sym s args at) ls env renv f r = absurd f
      conjuncts-same (n.Agg fun is_distinct argument at) ls env renv f r = absurd f
      conjuncts-same (n.Sub query at) ls env renv f r = absurd f

      pub conjuncts_of_each-same : {k : _} (es : n.Exprs k) (ls : Levels) (env : nf.Environment) (renv : Environment) → ResolvableConditions es hs ls → Reads ls env renv
          → every (conjuncts_of_each es known ls) rd renv ≡ m.all_hold es w env
      conjuncts_of_each-same n.NoExprs ls env renv f r = refl
      conjuncts_of_each-same (n.ExprThen expr rest) ls env renv f r =
          every-append (conjuncts expr known ls) (conjuncts_of_each rest known ls) rd renv ∙ (λ i. conjuncts-same expr ls env renv f.0 r i && conjuncts_of_each-same rest ls env renv f.1 r i)

      pub written-same : (e : n.MaybeCondition) (ls : Levels) (env : nf.Environment) (renv : Environment) → ResolvableWritten e hs ls → Reads ls env renv → every (conjuncts_written e known ls) rd renv ≡ m.holds e w env
      written-same n.NoCondition ls env renv f r = refl
      written-same (n.ACondition expr) ls env renv f r = conjuncts-same expr ls env renv f r

      pub having-same : (having : n.MaybeCondition) (ls : Levels) (env : nf.Environment) (renv : Environment) → ResolvableWritten having hs ls → Reads ls env renv → held (resolved_having having known ls) rd renv ≡ m.holds having w env
      having-same n.NoCondition ls env renv f r = refl
      having-same (n.ACondition expr) ls env renv f r = alone (conjuncts expr known ls) renv _ (conjuncts-same expr ls env renv f r)

      pub rows-same : (query : n.Query) (ls : Levels) (env : nf.Environment) (renv : Environment) → Resolvable query hs ls → Outer ls env renv → rows (resolved query known ls) rd renv ≡ m.rows query w env
      rows-same (n.OfBlock block) ls env renv f r = rows-Block rd renv (resolved_block block known ls) ∙ block-same block ls env renv f r
      rows-same (n.Set op left right at) ls env renv f r =
          rows-Set rd renv op (resolved left known ls) (resolved right known ls) ∙ (λ i. combined op (rows-same left ls env renv f.0 r i) (rows-same right ls env renv f.1 r i))

      pub block-same : (b : n.Block) (ls : Levels) (env : nf.Environment) (renv : Environment) → ResolvableBlock b hs ls → Outer ls env renv → block_rows (resolved_block b known ls) rd renv ≡ m.block_rows b w env
      block-same (n.Select is_distinct s items s' from where_condition group_by having) ls env renv f r =
          let H = headings from hs in
          let one = is_one_group items having in
          let K = output_sight (grouping_of group_by one H) in
          let conds = on_conjuncts from 0 no_entry known ls ++ conjuncts_written where_condition known (rows_level H ∷ ls) in
          let keep = λ (c : List BoundEntry). m.joins_hold from c [] w env && m.holds where_condition w (nf.frame_of c ∷ env) in
          let kept = filter keep (product (m.choices from w env)) in
          let all = product-heads H (m.choices from w env) (choices-wide w rd known shows from 0 no_entry ls env f.0) in
          let hold = λ (x : Frame). held (resolved_having having known (out H K ∷ ls)) rd (x ∷ renv) in
          let made = λ (x : Frame). values_of (resolved_items items known (out H K ∷ ls)) rd (x ∷ renv) in
          let hold' = λ (x : nf.Frame). m.holds having w (x ∷ env) in
          let made' = λ (x : nf.Frame). m.output_row items w (x ∷ env) in
          rows-of_block rd renv is_distinct (resolved_entries from known ls) conds (grouping_of group_by one H) (resolved_having having known (out H K ∷ ls)) (resolved_items items known (out H K ∷ ls))
          ∙ ap (distinct_if is_distinct) (
          ap (λ cs. map made (filter hold (frames (grouping_of group_by one H) cs)))
          (ap (filter (λ c. every conds rd (frame_of c ∷ renv))) (ap product (choices-same from 0 no_entry ls env renv f.0 r) ∙ product-map (λ b. b.row) (m.choices from w env))
          ∙ filter-map rows_of_entries (Heads H) (λ c. every conds rd (frame_of c ∷ renv)) keep (product (m.choices from w env))
          (λ b h. every-append (on_conjuncts from 0 no_entry known ls) (conjuncts_written where_condition known (rows_level H ∷ ls)) rd (frame_of (rows_of_entries b) ∷ renv)
          ∙ (λ i. joins-same from 0 no_entry [] b (rows_of_entries b) ls env renv f.0 (record { sight = refl; at = tt; next = refl }) (at_rows [] H b h) r i
          && written-same where_condition (rows_level H ∷ ls) (nf.frame_of b ∷ env) (frame_of (rows_of_entries b) ∷ renv) f.1 (reads_block H b ls env renv h r) i)) all)
          ∙ finish group_by one H kept env hold hold' made made' f.2 (Each-filter (Heads H) keep (product (m.choices from w env)) all)
          (λ fr x level. having-same having (out H K ∷ ls) (fr ∷ env) (x ∷ renv) f.3 (level, r))
          (λ fr x level. row-same items H K fr x ls env renv f.4 level r)
          ∙ ap (λ hs'. map made' (filter hold' (m.frames group_by one (headings from hs') kept w env))) (sym knowns))

      pub choices-same : {k : _} (es : n.Entries k) (place : ℕ) (l : Level) (ls : Levels) (env : nf.Environment) (renv : Environment) → ResolvableEntries es place l hs ls → Outer ls env renv
          → rows_each rd renv (resolved_entries es known ls) ≡ map rows_of_entries (m.choices es w env)
      choices-same n.NoEntries place l ls env renv f r = refl
      choices-same (n.EntryThen source alias at joined on rest) place l ls env renv f r =
          λ i. (source-same source ls env renv f.0 r ∙ sym (unbound (m.source_rows source w env))) i
          ∷ choices-same rest (suc place) (on_level joined l place (record { alias = alias; columns = source_columns source hs })) ls env renv f.2 r i
        where
          unbound : (rs : List Row) → rows_of_entries (map (λ r. record { alias = alias; columns = source_columns source (relation_headings w); row = r }) rs) ≡ rs
          unbound [] = refl
          unbound (x ∷ rs) = ap (λ l. x ∷ l) (unbound rs)

      pub source-same : (s : n.Source) (ls : Levels) (env : nf.Environment) (renv : Environment) → ResolvableSource s hs ls → Outer ls env renv → source_rows (resolved_source s known ls) rd renv ≡ m.source_rows s w env
      source-same (n.Named name at) ls env renv f r = named-same rd renv name w.relations known shows
      source-same (n.Derived query) ls env renv f r = source-Query rd renv (resolved query known ls) ∙ rows-same query ls env renv f r

      pub joins-same : {k : _} (es : n.Entries k) (place : ℕ) (l : Level) (item bs : List BoundEntry) (full : List Row) (ls : Levels) (env : nf.Environment) (renv : Environment)
          → ResolvableEntries es place l hs ls → SeesItem l item full place → AtRows place (headings es hs) bs full → Outer ls env renv
          → every (on_conjuncts es place l known ls) rd (frame_of full ∷ renv) ≡ m.joins_hold es bs item w env
      joins-same n.NoEntries place l item bs full ls env renv f s a r = refl
      joins-same (n.EntryThen source alias at joined on rest) place l item [] full ls env renv f s a r = absurd a
      joins-same (n.EntryThen source alias at joined on rest) place l item (b ∷ bs) full ls env renv f s a r =
          let h : Heading = record { alias = alias; columns = source_columns source hs } in
          let next = on_level joined l place h in
          let seen = (if joined then item else []) ++ b ∷ [] in
          let sees = seen_next joined l item full place h b s a.0 in
          let level : ReadsLevel next (nf.frame_of seen) (frame_of full) = record { columns = subst (λ K. ReadsColumns K next (nf.frame_of seen) (frame_of full)) (sym sees.sight) sees.at; members = refl; each = tt } in
          every-append (conjuncts_written on known (next ∷ ls)) (on_conjuncts rest (suc place) next known ls) rd (frame_of full ∷ renv)
          ∙ (λ i. written-same on (next ∷ ls) (nf.frame_of seen ∷ env) (frame_of full ∷ renv) f.1 (level, r) i
          && joins-same rest (suc place) next seen bs full ls env renv f.2 sees a.1 r i)

      pub row-same : {k : _} (items : n.Items k) (H : List Heading) (K : Sight) (fr : nf.Frame) (x : Frame) (ls : Levels) (env : nf.Environment) (renv : Environment)
          → ResolvableItems items hs (out H K ∷ ls) → ReadsLevel (out H K) fr x → Outer ls env renv
          → values_of (resolved_items items known (out H K ∷ ls)) rd (x ∷ renv) ≡ m.output_row items w (fr ∷ env)
      row-same n.NoItems H K fr x ls env renv f h r = refl
      row-same (n.ItemThen item rest) H K fr x ls env renv f h r =
          map-append (λ e. value e rd (x ∷ renv)) (resolved_item item known (out H K ∷ ls)) (resolved_items rest known (out H K ∷ ls))
          ∙ (λ i. item-same item H K fr x ls env renv f.0 h r i ++ row-same rest H K fr x ls env renv f.1 h r i)

      pub item-same : (item : n.Item) (H : List Heading) (K : Sight) (fr : nf.Frame) (x : Frame) (ls : Levels) (env : nf.Environment) (renv : Environment)
          → ResolvableItem item hs (out H K ∷ ls) → ReadsLevel (out H K) fr x → Outer ls env renv
          → values_of (resolved_item item known (out H K ∷ ls)) rd (x ∷ renv) ≡ m.item_values item w (fr ∷ env)
      item-same (n.Star at) H K fr x ls env renv f h r = star-same rd (x ∷ renv) 0 H fr.entries (subst (λ q. ReadsColumns q (out H K) fr x) f h.columns)
      item-same (n.AliasStar alias at) H K fr x ls env renv f h r = alias_star-same rd (x ∷ renv) alias 0 H fr.entries (subst (λ q. ReadsColumns q (out H K) fr x) f h.columns)
      item-same (n.Value expr name) H K fr x ls env renv f h r = ap (λ y. y ∷ []) (value-same expr (out H K ∷ ls) (fr ∷ env) (x ∷ renv) f (h, r))
