-- A block's term, put together: its atoms, its conditions and its items.
use Rattle.std.proofs.Common.{◌≡◌, ℕ, zero, suc, ◌+◌, ◌-◌, ◌<◌, ◌≤◌, Bool, true, List, [], ◌∷◌, ◌++◌, length, map, get_or, Option, Some, None, refl, ap, sym, ◌∙◌, append_assoc, subst, arith}
use Rattle.std.specs.Prelude.{if◌then◌else◌, slice_get, slice_set, replicate, option_map, option_and_then}
use Rattle.std.specs.List.{list_all}
use Rattle.std.proofs.lemmas.List.{append-nil, length-append}
use Rattle.u_terms.specs.Syntax.{U}
use Rattle.u_terms.specs.Binding.{mapped, same_place, place_for_names, sums}
use Rattle.u_terms.specs.Products.{product_of}
use Rattle.scope_core.specs.Syntax as r
use Rattle.scope_core.specs.Syntax.{Values, NoValues, ValueThen, Conditions, Entries, NoEntries, EntryThen, Select, RQuery, OfBlock, Set}
use Rattle.scope_core.specs.Width.{count_values}
use Rattle.sql_to_u.specs.Factors.{names_from, over_names}
use Rattle.sql_to_u.specs.Scopes.{Here, rows_here, count_columns, firsts}
use Rattle.sql_to_u.specs.Translation.{TermAt, condition_terms, item_factors, source_terms}
use Rattle.shapes.specs.Options.{both_of}
use Rattle.shapes.specs.Shapes.{Point, column, Mark, Entry, Shape, IsPoint, In, first, later, MarkIn, here, there, sides}
use Rattle.block_shapes.specs.Blocks as tree
use Rattle.block_shapes.specs.Blocks.{equality, mark, equalities_of, marks_of, table_entries, table_entry, conditions_said, value_point, value_points, shape_with, parts_shape, query_shape}
use Rattle.block_shapes.proofs.ClassLaws.{some-same, none-some, both-some, map-some, then-some}
use Rattle.term_shapes.specs.Factors.{Factor, factors, sum_count, under_sums}
use Rattle.term_shapes.specs.TermShape as term
use Rattle.term_shapes.specs.TermShape.{Points, Atoms, folded, with_factor, with_atom, no_atoms, nothing_said, has_point, all_points, shape_said, shape_of_atoms, product_shape, term_shape}
use Rattle.term_shapes.specs.Walks.{atoms}
use Rattle.term_shapes.proofs.Reading.{folded-append}
use Rattle.block_shapes.specs.Drawn.{ArePoints, IsDrawn}
use Rattle.block_terms.proofs.Mapping.{all_factors, factors-product, factors_at, factors_at-append, factors-mapped, sums-count, sums-under}
use Rattle.block_terms.proofs.Atoms.{entry_atoms, total, offset, AllPlaced, all-placed}
use Rattle.block_terms.proofs.Values.{Located}
use Rattle.block_terms.proofs.Conditions.{AreIn, added, all_added, conditions-said}
use Rattle.block_terms.proofs.Items.{filled, items-said, sources-atoms, atoms-silent}
use Rattle.block_terms.proofs.NoAtoms.{no-sum, conditions-no_atoms, items-no_atoms}

-- ---- columns
columns-counted : {m : _} (entries : Entries m) (es : List Entry) → table_entries entries ≡ Some es → total es ≡ count_columns entries
columns-counted NoEntries es e = sym (ap total (some-same [] es e))
columns-counted (EntryThen (r.Table number) wide rest) es e =
    let k = map-some (λ l. table_entry number wide ∷ l) (table_entries rest) es e in
    sym (ap total k.is) ∙ ap (λ n. wide + n) (columns-counted rest k.x k.from)
columns-counted (EntryThen (r.View place) wide rest) es e = absurd (none-some es e)
columns-counted (EntryThen (r.Derived query) wide rest) es e = absurd (none-some es e)

firsts-at : {m : _} (entries : Entries m) (es : List Entry) (from i : ℕ) → table_entries entries ≡ Some es → i < length es → get_or (firsts entries from) i 0 ≡ from + offset es i
firsts-at NoEntries es from i e less = absurd (let n : length es ≡ 0 = sym (ap length (some-same [] es e)) in omega (arith, less, n))
firsts-at (EntryThen (r.Table number) wide rest) es from i e less =
    let k = map-some (λ l. table_entry number wide ∷ l) (table_entries rest) es e in
    subst (λ (l : List Entry). get_or (firsts (EntryThen (r.Table number) wide rest) from) i 0 ≡ from + offset l i) k.is
    (at k.x i (subst (λ (l : List Entry). i < length l) (sym k.is) less) (λ j less. firsts-at rest k.x (from + wide) j k.from less))
  where
    at : (more : List Entry) (i : ℕ) → i < length (table_entry number wide ∷ more) → ((j : ℕ) → j < length more → get_or (firsts rest (from + wide)) j 0 ≡ from + wide + offset more j)
        → get_or (firsts (EntryThen (r.Table number) wide rest) from) i 0 ≡ from + offset (table_entry number wide ∷ more) i
    at more zero less rest_at = omega arith
    at more (suc i) less rest_at = rest_at i (omega (arith, less)) ∙ omega arith
firsts-at (EntryThen (r.View place) wide rest) es from i e less = absurd (none-some es e)
firsts-at (EntryThen (r.Derived query) wide rest) es from i e less = absurd (none-some es e)

-- ---- tables without points
none-in : (n k : ℕ) → k < n → slice_get (replicate {A = Option Point} n None) k ≡ Some None
none-in zero k less = absurd (omega (arith, less))
none-in (suc n) zero less = refl
none-in (suc n) (suc k) less = none-in n k (omega (arith, less))

none-past : (n k : ℕ) → n ≤ k → slice_get (replicate {A = Option Point} n None) k ≡ None
none-past zero zero low = refl
none-past zero (suc k) low = refl
none-past (suc n) zero low = absurd (omega (arith, low))
none-past (suc n) (suc k) low = none-past n k (omega (arith, low))

all-have : (points : Points) → ((k : ℕ) → slice_get points k ≡ Some None → ⊥) → list_all has_point points ≡ true
all-have [] h = refl
all-have (None ∷ points) h = absurd (h 0 refl)
all-have (Some p ∷ points) h = all-have points (λ k. h (suc k))

-- ---- outputs
set-at : (before after : Points) (x : Option Point) (p : Point) → slice_set (before ++ x ∷ after) (length before) (Some p) ≡ before ++ Some p ∷ after
set-at [] after x p = refl
set-at (y ∷ before) after x p = ap (λ (l : Points). y ∷ l) (set-at before after x p)

filled-all : (before : Points) (ps : List Point) → filled (before ++ replicate (length ps) None) (length before) ps ≡ before ++ map Some ps
filled-all before [] = refl
filled-all before (p ∷ ps) =
    let next : length before + 1 ≡ length (before ++ Some p ∷ []) = omega (arith, length-append before (Some p ∷ [])) in
    ap (λ (l : Points). filled l (length before + 1) ps) (set-at before (replicate (length ps) None) None p ∙ sym (append_assoc before (Some p ∷ []) (replicate (length ps) None)))
    ∙ ap (λ n. filled ((before ++ Some p ∷ []) ++ replicate (length ps) None) n ps) next ∙ filled-all (before ++ Some p ∷ []) ps ∙ append_assoc before (Some p ∷ []) (map Some ps)

all-some : (ps : List Point) → all_points (map Some ps) ≡ Some ps
all-some [] = refl
all-some (p ∷ ps) = ap (λ (o : Option (List Point)). both_of (λ q qs. q ∷ qs) (Some p) o) (all-some ps)

outputs-all : (outs : ℕ) (ps : List Point) → length ps ≡ outs → all_points (filled (replicate outs None) 0 ps) ≡ Some ps
outputs-all outs ps long = ap (λ n. all_points (filled (replicate n None) 0 ps)) (sym long) ∙ ap all_points (filled-all [] ps) ∙ all-some ps

points-long : {m : _} (values : Values m) (ps : List Point) → value_points values ≡ Some ps → length ps ≡ count_values values
points-long NoValues ps e = sym (ap length (some-same [] ps e))
points-long (ValueThen value rest) ps e =
    let k = both-some (λ p qs. p ∷ qs) (value_point value) (value_points rest) ps e in
    sym (ap length k.is) ∙ ap suc (points-long rest k.y k.right)

-- ---- what is said
abbrev said_of : List (Point × Point) → List Mark → Points → term.Said
said_of equalities marks outputs = record { equalities = equalities; marks = marks; outputs = outputs }

all-added : (said : term.Said) (xs : List tree.Said) → all_added said xs ≡ said_of (said.equalities ++ equalities_of xs) (said.marks ++ marks_of xs) said.outputs
all-added said [] =
    ap (λ (l : List (Point × Point)). said_of l said.marks said.outputs) (sym (append-nil said.equalities))
    ∙ ap (λ (l : List Mark). said_of (said.equalities ++ []) l said.outputs) (sym (append-nil said.marks))
all-added said (equality p q ∷ xs) =
    all-added (added said (equality p q)) xs
    ∙ ap (λ (l : List (Point × Point)). said_of l (said.marks ++ marks_of xs) said.outputs) (append_assoc said.equalities ((p, q) ∷ []) (equalities_of xs))
all-added said (mark m ∷ xs) =
    all-added (added said (mark m)) xs
    ∙ ap (λ (l : List Mark). said_of (said.equalities ++ equalities_of xs) l said.outputs) (append_assoc said.marks (m ∷ []) (marks_of xs))

in-range : (es : List Entry) (xs : List tree.Said) → ((p : Point) → In p (sides (equalities_of xs)) → IsPoint es p) → ((m : Mark) → MarkIn m (marks_of xs) → ArePoints es m.points) → AreIn es xs
in-range es [] hs hm = tt
in-range es (equality p q ∷ xs) hs hm = ((hs p first, hs q (later first)), in-range es xs (λ x i. hs x (later (later i))) hm)
in-range es (mark m ∷ xs) hs hm = (hm m here, in-range es xs hs (λ n i. hm n (there i)))

-- ---- the block
factors-append : (ws vs : List U) → all_factors (ws ++ vs) ≡ all_factors ws ++ all_factors vs
factors-append [] vs = refl
factors-append (w ∷ ws) vs = ap (λ (l : List Factor). factors w ++ l) (factors-append ws vs) ∙ sym (append_assoc (factors w) (all_factors ws) (all_factors vs))

module _ (views : List TermAt) {m m' m'' : _} (entries : Entries m) (conds : Conditions m') (items : Values m'') (es : List Entry) (xs : List tree.Said) (ps : List Point)
    (entries_are : table_entries entries ≡ Some es) (conds_are : conditions_said conds ≡ Some xs) (items_are : value_points items ≡ Some ps) (drawn : IsDrawn (shape_with es xs ps)) where
  abbrev outs : ℕ
  outs = count_values items

  abbrev size : ℕ
  size = count_columns entries

  abbrev inner : ℕ
  inner = count_values items + count_columns entries

  abbrev block_here : Here
  block_here = rows_here (firsts entries (count_values items))

  abbrev closed : List U → List Factor
  closed ws = factors_at same_place (place_for_names (count_values items) (count_columns entries)) 0 (all_factors ws)

  abbrev sources : List U
  sources = source_terms views entries [] outs inner

  abbrev conditions : List U
  conditions = condition_terms views conds (block_here ∷ []) inner

  abbrev equals : List U
  equals = item_factors views items (block_here ∷ []) (names_from 0 outs) inner

  abbrev body : U
  body = mapped same_place (place_for_names outs size) 0 (product_of ((sources ++ conditions) ++ equals))

  wide : total es ≡ count_columns entries
  wide = columns-counted entries es entries_are

  body-factors : factors body ≡ entry_atoms es size ++ (closed conditions ++ closed equals)
  body-factors =
      let at : List Factor → List Factor = factors_at same_place (place_for_names outs size) 0 in
      let here_is : outs + size - outs ≡ size = omega arith in
      factors-mapped same_place (place_for_names outs size) 0 (product_of ((sources ++ conditions) ++ equals))
      ∙ ap at (factors-product ((sources ++ conditions) ++ equals) ∙ factors-append (sources ++ conditions) equals ∙ ap (λ (l : List Factor). l ++ all_factors equals) (factors-append sources conditions))
      ∙ factors_at-append same_place (place_for_names outs size) 0 (all_factors sources ++ all_factors conditions) (all_factors equals)
      ∙ ap (λ (l : List Factor). l ++ closed equals) (factors_at-append same_place (place_for_names outs size) 0 (all_factors sources) (all_factors conditions))
      ∙ append_assoc (closed sources) (closed conditions) (closed equals)
      ∙ ap (λ (l : List Factor). l ++ (closed conditions ++ closed equals)) (sources-atoms views entries [] outs size outs inner es entries_are (omega arith) (omega (arith, wide)) ∙ ap (entry_atoms es) here_is)

  placed : AllPlaced [] es (count_columns entries) (replicate (count_columns entries) None)
  placed = all-placed [] es (count_columns entries) (replicate (count_columns entries) None) (omega (arith, wide)) (λ p less. none-in (count_columns entries) p less)

  atoms-fold : folded with_atom (no_atoms size) (entry_atoms es size ++ (closed conditions ++ closed equals)) ≡ Some (atoms es placed.after)
  atoms-fold =
      folded-append with_atom (no_atoms size) (entry_atoms es size) (closed conditions ++ closed equals)
      ∙ ap (λ (o : Option Atoms). option_and_then (λ more. folded with_atom more (closed conditions ++ closed equals)) o) placed.is
      ∙ folded-append with_atom (atoms es placed.after) (closed conditions) (closed equals)
      ∙ ap (λ (o : Option Atoms). option_and_then (λ more. folded with_atom more (closed equals)) o) (conditions-no_atoms views (block_here ∷ []) inner outs size (atoms es placed.after) conds xs conds_are)
      ∙ items-no_atoms views (block_here ∷ []) inner outs size (atoms es placed.after) items (names_from 0 outs)

  located : Located (firsts entries (count_values items)) (count_values items) (count_columns entries) es placed.after
  located = record { first = λ i less. firsts-at entries es (count_values items) i entries_are less; wide = wide; point = λ i d less within. placed.point i d less within ∙ ap (λ n. Some (Some (column n d))) (zero_and i) }
    where
      zero_and : (n : ℕ) → 0 + n ≡ n
      zero_and n = omega arith

  has-points : list_all has_point placed.after ≡ true
  has-points = all-have placed.after (λ k none. by k none (below k))
    where
      below : (k : ℕ) → ((k < count_columns entries) → ⊥) → count_columns entries ≤ k
      below k h = omega (arith, h)

      by : (k : ℕ) → slice_get placed.after k ≡ Some None → (((k < count_columns entries) → ⊥) → count_columns entries ≤ k) → ⊥
      by k none low =
          let past : (k < count_columns entries) → ⊥ = λ less. placed.full k (omega (arith, wide)) less none in
          none-some None (sym (none-past (count_columns entries) k (low past)) ∙ sym (placed.kept k (low past)) ∙ none)

  abbrev said : term.Said
  said = all_added (nothing_said (count_values items)) xs

  said-outputs : said.outputs ≡ replicate (count_values items) None
  said-outputs = ap (λ (x : term.Said). x.outputs) (all-added (nothing_said (count_values items)) xs)

  abbrev ended : term.Said
  ended = term.with_outputs said (filled said.outputs 0 ps)

  said-fold : folded (with_factor placed.after) (nothing_said outs) (entry_atoms es size ++ (closed conditions ++ closed equals)) ≡ Some ended
  said-fold =
      folded-append (with_factor placed.after) (nothing_said outs) (entry_atoms es size) (closed conditions ++ closed equals)
      ∙ ap (λ (o : Option term.Said). option_and_then (λ more. folded (with_factor placed.after) more (closed conditions ++ closed equals)) o) (atoms-silent placed.after (nothing_said outs) es size)
      ∙ folded-append (with_factor placed.after) (nothing_said outs) (closed conditions) (closed equals)
      ∙ ap (λ (o : Option term.Said). option_and_then (λ more. folded (with_factor placed.after) more (closed equals)) o)
      (conditions-said views block_here [] inner outs size es placed.after located conds xs (nothing_said outs) conds_are (in-range es xs drawn.sides_are drawn.marks_are))
      ∙ items-said views block_here [] inner outs size es placed.after located items 0 ps said (omega arith)
      (λ k low less. ap (λ (o : Points). slice_get o k) said-outputs ∙ none-in (count_values items) k less) items_are drawn.outputs_are

  shape-is : shape_said es ended ps ≡ shape_with es xs ps
  shape-is = ap (λ (x : term.Said). shape_with' x.equalities x.marks) (all-added (nothing_said (count_values items)) xs)
    where
      shape_with' : List (Point × Point) → List Mark → Shape
      shape_with' equalities marks = record { entries = es; equalities = equalities; marks = marks; outputs = ps }

  atoms-shape : shape_of_atoms outs (entry_atoms es size ++ (closed conditions ++ closed equals)) (atoms es placed.after) ≡ Some (shape_with es xs ps)
  atoms-shape =
      let fs : List Factor = entry_atoms es size ++ (closed conditions ++ closed equals) in
      let ends : (o : Option term.Said) → Option Shape = λ o. option_and_then (λ x. option_map (shape_said es x) (all_points x.outputs)) o in
      ap (λ (b : Bool). if b then option_and_then (λ x. option_map (shape_said es x) (all_points x.outputs)) (folded (with_factor placed.after) (nothing_said outs) fs) else None) has-points
      ∙ ap (λ (o : Option term.Said). option_and_then (λ x. option_map (shape_said es x) (all_points x.outputs)) o) said-fold
      ∙ ap (λ (o : Option (List Point)). option_map (shape_said es ended) o)
      (ap (λ (o : Points). all_points (filled o 0 ps)) said-outputs ∙ outputs-all outs ps (points-long items ps items_are))
      ∙ ap Some shape-is

  pub block-shape : term_shape outs (over_names outs size (product_of ((sources ++ conditions) ++ equals))) ≡ Some (shape_with es xs ps)
  unfolding term_shape
  block-shape =
      let fold : folded (with_factor placed.after) (nothing_said outs) (factors body) ≡ Some ended = ap (folded (with_factor placed.after) (nothing_said outs)) body-factors ∙ said-fold in
      let none = no-sum placed.after (nothing_said outs) ended body fold in
      let count : sum_count (sums size body) ≡ size = sums-count size body ∙ ap (λ n. size + n) none.0 ∙ omega arith in
      let under : under_sums (sums size body) ≡ body = sums-under size body ∙ none.1 in
      ap (λ n. product_shape outs n (factors (under_sums (sums size body)))) count
      ∙ ap (λ (w : U). product_shape outs size (factors w)) under
      ∙ ap (product_shape outs size) body-factors
      ∙ ap (λ (o : Option Atoms). option_and_then (shape_of_atoms outs (entry_atoms es size ++ (closed conditions ++ closed equals))) o) atoms-fold
      ∙ atoms-shape

pub parts-shape : (views : List TermAt) {m m' m'' : _} (entries : Entries m) (conds : Conditions m') (items : Values m'') (s : Shape) → parts_shape entries conds items ≡ Some s → IsDrawn s
    → term_shape (count_values items)
    (over_names (count_values items) (count_columns entries) (product_of (
    (source_terms views entries [] (count_values items) (count_values items + count_columns entries)
    ++ condition_terms views conds (rows_here (firsts entries (count_values items)) ∷ []) (count_values items + count_columns entries))
    ++ item_factors views items (rows_here (firsts entries (count_values items)) ∷ []) (names_from 0 (count_values items)) (count_values items + count_columns entries))))
    ≡ Some s
parts-shape views entries conds items s e drawn =
    let k = then-some (λ es. both_of (shape_with es) (conditions_said conds) (value_points items)) (table_entries entries) s e in
    let b = both-some (shape_with k.x) (conditions_said conds) (value_points items) s k.is in
    block-shape views entries conds items k.x b.x b.y k.from b.left b.right (subst IsDrawn (sym b.is) drawn) ∙ ap Some b.is
