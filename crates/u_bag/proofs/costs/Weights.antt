-- What the factors under the sums of a term weigh, by its shape: each atom by its columns, each equality and each output alike, each mark by its points.
use Rattle.std.proofs.Common.{◌≡◌, ℕ, zero, suc, ◌+◌, ◌*◌, ◌≤◌, List, [], ◌∷◌, ◌++◌, length, map, Option, None, Some, refl, ap, sym, subst, ◌∙◌, arith}
use Rattle.std.specs.Prelude.{sum_by, slice_get, slice_set, replicate, option_map}
use Rattle.std.proofs.lemmas.List.{length-append}
use Rattle.std.proofs.lemmas.List.Sums.{sum_by-cons, sum_by_push}
use Rattle.std.proofs.lemmas.Option.{same_Some, none-some}
use Rattle.data_model.specs.Lists.{Each}
use Rattle.u_terms.specs.Syntax.{U, Val, Bound, Free, Lit, Fun, Agg}
use Rattle.u_rules.specs.Terms.{◌≐◌, P, R, neg, mul_leaves}
use Rattle.u_entail.specs.Small.{IsBasic}
use Rattle.u_entail.proofs.products.Lists.{each-append}
use Rattle.shapes.specs.Options.{both_of}
use Rattle.shapes.specs.Shapes.{Entry, Point, column, Kind, differ, holds, fails, Mark, Shape}
use Rattle.block_costs.specs.Costs.{equality_count}
use Rattle.term_shapes.specs.Factors.{Factor, atom, equality, difference, truth, falsehood, other, factors, sum_count, under_sums}
use Rattle.term_shapes.specs.TermShape.{folded, Points, pointed, placed, Atoms, entry_with, with_entry, with_atom, no_atoms, value_point, value_points, Said, nothing_said, with_equality, with_mark, with_outputs, said_output, said_equality, said_difference, said_mark, with_factor, all_points, HasShape}
use Rattle.shape_entails.proofs.Leaves.{term_of, leaves-are}
use Rattle.term_shapes.proofs.Walked.{both-some, map-some, pointed-written, read-of, then-some}
use Rattle.shape_entails.proofs.Walks.{folded-keeps}
use Rattle.shape_entails.proofs.Shaped.{read-said}

-- ---- how many places, or names, have their points
abbrev given : Points → ℕ
given [] = 0
given (None ∷ points) = given points
given (Some p ∷ points) = suc (given points)

given-set : (points : Points) (place : ℕ) (p : Point) → slice_get points place ≡ Some None → given (slice_set points place (Some p)) ≡ suc (given points)
given-set [] place p h = absurd (none-some None h)
given-set (None ∷ points) zero p h = refl
given-set (Some q ∷ points) zero p h = absurd (none-some q (sym (same_Some (Some q) None h)))
given-set (None ∷ points) (suc place) p h = given-set points place p h
given-set (Some q ∷ points) (suc place) p h = ap suc (given-set points place p h)

given-pointed : (points after : Points) (place : ℕ) (p : Point) → pointed points place p ≡ Some after → given after ≡ suc (given points)
given-pointed points after place p h = let w = pointed-written points after place p h in ap given (sym w.is) ∙ given-set points place p w.had

given-none : (n : ℕ) → given (replicate n None) ≡ 0
given-none zero = refl
given-none (suc n) = given-none n

given-all : (points : Points) (ps : List Point) → all_points points ≡ Some ps → given points ≡ length ps
given-all [] ps h = ap length (same_Some [] ps h)
given-all (None ∷ points) ps h = let both = both-some (λ q qs. q ∷ qs) None (all_points points) ps h in absurd (none-some both.x both.left)
given-all (Some p ∷ points) ps h =
    let both = both-some (λ q qs. q ∷ qs) (Some p) (all_points points) ps h in
    ap suc (given-all points both.y both.right) ∙ ap length both.is

-- ---- factors of places, names and literals alone
abbrev pub IsBasicAtom : Factor → Type 0
IsBasicAtom (atom table values) = Each IsBasic values
IsBasicAtom _ = Unit {0}

abbrev pub IsBasicFact : Factor → Type 0
IsBasicFact (atom table values) = Unit {0}
IsBasicFact (equality x y) = IsBasic x × IsBasic y
IsBasicFact (difference x y) = IsBasic x × IsBasic y
IsBasicFact (truth symbol values) = Each IsBasic values
IsBasicFact (falsehood symbol values) = Each IsBasic values
IsBasicFact other = ⊥

point-basic : (points : Points) (x : Val) (p : Point) → value_point points x ≡ Some p → IsBasic x
point-basic points (Bound place) p h = tt
point-basic points (Free name) p h = absurd (none-some p h)
point-basic points (Lit number) p h = tt
point-basic points (Fun symbol shape arguments) p h = absurd (none-some p h)
point-basic points (Agg aggregate body) p h = absurd (none-some p h)

record AreBasicPoints (values : List Val) (ps : List Point) : Type 0 where
  each : Each IsBasic values
  long : length ps ≡ length values

points-basic : (points : Points) (values : List Val) (ps : List Point) → value_points points values ≡ Some ps → AreBasicPoints values ps
points-basic points [] ps h = record { each = tt; long = ap length (sym (same_Some [] ps h)) }
points-basic points (x ∷ values) ps h =
    let both = both-some (λ q qs. q ∷ qs) (value_point points x) (value_points points values) ps h in
    let rest = points-basic points values both.y both.right in
    record { each = (point-basic points x both.x both.left, rest.each); long = ap length (sym both.is) ∙ ap suc rest.long }

-- ---- atoms
placed-basic : (e c : ℕ) (values : List Val) (points after : Points) → placed e c values points ≡ Some after → Each IsBasic values
placed-basic e c [] points after h = tt
placed-basic e c (Bound place ∷ values) points after h =
    let one = then-some (placed e (c + 1) values) (pointed points place (column e c)) after h in (tt, placed-basic e (c + 1) values one.x after one.is)
placed-basic e c (Free name ∷ values) points after h = absurd (none-some after h)
placed-basic e c (Lit a ∷ values) points after h = absurd (none-some after h)
placed-basic e c (Fun symbol s args ∷ values) points after h = absurd (none-some after h)
placed-basic e c (Agg aggregate body ∷ values) points after h = absurd (none-some after h)

module _ (a : ℕ → ℕ) where
  abbrev atom_weight : Factor → ℕ
  atom_weight (atom table values) = a (length values)
  atom_weight _ = 0

  abbrev entry_weight : Entry → ℕ
  entry_weight entry = a entry.columns

  record AtomsWeigh (fs : List Factor) (atoms : Atoms) : Type 0 where
    basic : Each IsBasicAtom fs
    weight : sum_by entry_weight atoms.entries ≡ sum_by atom_weight fs

  no-atoms-weigh : (sums : ℕ) → AtomsWeigh [] (no_atoms sums)
  no-atoms-weigh sums = record { basic = tt; weight = refl }

  atom-more : (fs : List Factor) (before after : Atoms) (table : ℕ) (values : List Val) → with_atom before (atom table values) ≡ Some after → AtomsWeigh fs before → AtomsWeigh (fs ++ atom table values ∷ []) after
  atom-more fs before after table values h k =
      let one = map-some (with_entry before.entries (entry_with table values)) (placed (length before.entries) 0 values before.points) after h in
      subst (AtomsWeigh (fs ++ atom table values ∷ [])) one.is (record {
        basic = each-append IsBasicAtom fs (atom table values ∷ []) k.basic (placed-basic (length before.entries) 0 values before.points one.x one.from, tt);
        weight = let so_far = k.weight in
            omega (arith, so_far, sum_by_push entry_weight before.entries (entry_with table values), sum_by_push atom_weight fs (atom table values));
      })

  none-more : (fs : List Factor) (before after : Atoms) (f : Factor) → IsBasicAtom f → atom_weight f ≡ 0 → (let o : Option Atoms = Some before in o) ≡ Some after → AtomsWeigh fs before → AtomsWeigh (fs ++ f ∷ []) after
  none-more fs before after f basic nothing h k = subst (AtomsWeigh (fs ++ f ∷ [])) (same_Some before after h) (record {
    basic = each-append IsBasicAtom fs (f ∷ []) k.basic (basic, tt);
    weight = let so_far = k.weight in omega (arith, so_far, nothing, sum_by_push atom_weight fs f);
  })

  factor-more : (fs : List Factor) (before after : Atoms) (f : Factor) → with_atom before f ≡ Some after → AtomsWeigh fs before → AtomsWeigh (fs ++ f ∷ []) after
  factor-more fs before after (atom table values) h k = atom-more fs before after table values h k
  factor-more fs before after (equality x y) h k = none-more fs before after (equality x y) tt refl h k
  factor-more fs before after (difference x y) h k = none-more fs before after (difference x y) tt refl h k
  factor-more fs before after (truth symbol values) h k = none-more fs before after (truth symbol values) tt refl h k
  factor-more fs before after (falsehood symbol values) h k = none-more fs before after (falsehood symbol values) tt refl h k
  factor-more fs before after other h k = none-more fs before after other tt refl h k

  atoms-weigh : (sums : ℕ) (fs : List Factor) (atoms : Atoms) → folded with_atom (no_atoms sums) fs ≡ Some atoms → AtomsWeigh fs atoms
  atoms-weigh sums fs atoms h = folded-keeps with_atom AtomsWeigh factor-more [] (no_atoms sums) atoms fs h (no-atoms-weigh sums)

-- ---- equalities, outputs and marks
one-output : (e a b n : ℕ) → b ≡ suc n → e * (a + b) ≡ e * (a + n) + e
one-output e a b n is = ap (λ (k : ℕ). e * (a + k)) is ∙ omega arith

one-equality : (e a b n : ℕ) → a ≡ n + 1 → e * (a + b) ≡ e * (n + b) + e
one-equality e a b n is = ap (λ (k : ℕ). e * (k + b)) is ∙ omega arith

module _ (e : ℕ) (m : ℕ → ℕ) where
  abbrev fact_weight : Factor → ℕ
  fact_weight (equality x y) = e
  fact_weight (difference x y) = m 2
  fact_weight (truth symbol values) = m (length values)
  fact_weight (falsehood symbol values) = m (length values)
  fact_weight _ = 0

  abbrev mark_weight : Mark → ℕ
  mark_weight mark = m (length mark.points)

  abbrev said_weight : Said → ℕ
  said_weight said = e * (length said.equalities + given said.outputs) + sum_by mark_weight said.marks

  record SaidWeighs (fs : List Factor) (said : Said) : Type 0 where
    basic : Each IsBasicFact fs
    weight : said_weight said ≡ sum_by fact_weight fs

  nothing-weighs : (outs : ℕ) → SaidWeighs [] (nothing_said outs)
  nothing-weighs outs = record { basic = tt; weight = ap (λ (n : ℕ). e * (0 + n) + 0) (given-none outs) ∙ omega arith }

  -- one factor more, of this weight
  more-said : (fs : List Factor) (said more : Said) (f : Factor) → IsBasicFact f → said_weight more ≡ said_weight said + fact_weight f → SaidWeighs fs said → SaidWeighs (fs ++ f ∷ []) more
  more-said fs said more f basic weighs k = record {
    basic = each-append IsBasicFact fs (f ∷ []) k.basic (basic, tt);
    weight = let so_far = k.weight in omega (arith, so_far, weighs, sum_by_push fact_weight fs f);
  }

  record OutputSaid (said more : Said) (v : Val) : Type 0 where
    basic : IsBasic v
    weighs : said_weight more ≡ said_weight said + e

  output-said : (points : Points) (said more : Said) (name : ℕ) (v : Val) → said_output points said name v ≡ Some more → OutputSaid said more v
  output-said points said more name v h =
      let one = then-some (λ p. option_map (with_outputs said) (pointed said.outputs name p)) (value_point points v) more h in
      let two = map-some (with_outputs said) (pointed said.outputs name one.x) more one.is in
      let counted = given-pointed said.outputs two.x name one.x two.from in
      record {
        basic = point-basic points v one.x one.from;
        weighs = ap said_weight (sym two.is) ∙ omega (arith, one-output e (length said.equalities) (given two.x) (given said.outputs) counted);
      }

  two-said : (points : Points) (said more : Said) (x y : Val) → both_of (with_equality said) (value_point points x) (value_point points y) ≡ Some more
      → (IsBasic x × IsBasic y) × (said_weight more ≡ said_weight said + e)
  two-said points said more x y h =
      let both = both-some (with_equality said) (value_point points x) (value_point points y) more h in (
        (point-basic points x both.x both.left, point-basic points y both.y both.right),
        ap said_weight (sym both.is)
            ∙ omega (
              arith,
              one-equality e (length (said.equalities ++ (both.x, both.y) ∷ [])) (given said.outputs) (length said.equalities) (length-append said.equalities ((both.x, both.y) ∷ [])),
            ),
      )

  equality-said : (points : Points) (said more : Said) (x y : Val) → said_equality points said x y ≡ Some more → (IsBasic x × IsBasic y) × (said_weight more ≡ said_weight said + e)
  equality-said points said more (Free name) y h = let o = output-said points said more name y h in ((tt, o.basic), o.weighs)
  equality-said points said more x (Free name) h = let o = output-said points said more name x h in ((o.basic, tt), o.weighs)
  equality-said points said more x y h = two-said points said more x y h

  mark-weighs : (said : Said) (kind : Kind) (ps : List Point) → said_weight (with_mark said kind ps) ≡ said_weight said + m (length ps)
  mark-weighs said kind ps = omega (arith, sum_by_push mark_weight said.marks (record { kind = kind; points = ps }))

  mark-said : (points : Points) (said more : Said) (kind : Kind) (values : List Val) → said_mark points said kind values ≡ Some more
      → Each IsBasic values × (said_weight more ≡ said_weight said + m (length values))
  mark-said points said more kind values h =
      let one = map-some (with_mark said kind) (value_points points values) more h in
      let basic = points-basic points values one.x one.from in
      (basic.each, ap said_weight (sym one.is) ∙ mark-weighs said kind one.x ∙ ap (λ (n : ℕ). said_weight said + m n) basic.long)

  difference-said : (points : Points) (said more : Said) (x y : Val) → said_difference points said x y ≡ Some more → (IsBasic x × IsBasic y) × (said_weight more ≡ said_weight said + m 2)
  difference-said points said more x y h =
      let both = both-some (λ p q. with_mark said differ (p ∷ q ∷ [])) (value_point points x) (value_point points y) more h in
      ((point-basic points x both.x both.left, point-basic points y both.y both.right), ap said_weight (sym both.is) ∙ mark-weighs said differ (both.x ∷ both.y ∷ []))

  module _ (points : Points) where
    said-more : (fs : List Factor) (said more : Said) (f : Factor) → with_factor points said f ≡ Some more → SaidWeighs fs said → SaidWeighs (fs ++ f ∷ []) more
    said-more fs said more (atom table values) h k = more-said fs said more (atom table values) tt (let same = ap said_weight (same_Some said more h) in omega (arith, same)) k
    said-more fs said more (equality x y) h k = let it = equality-said points said more x y h in more-said fs said more (equality x y) it.0 it.1 k
    said-more fs said more (difference x y) h k = let it = difference-said points said more x y h in more-said fs said more (difference x y) it.0 it.1 k
    said-more fs said more (truth symbol values) h k = let it = mark-said points said more (holds symbol) values h in more-said fs said more (truth symbol values) it.0 it.1 k
    said-more fs said more (falsehood symbol values) h k = let it = mark-said points said more (fails symbol) values h in more-said fs said more (falsehood symbol values) it.0 it.1 k
    said-more fs said more other h k = absurd (none-some more h)

    said-weighs : (outs : ℕ) (fs : List Factor) (said : Said) → folded (with_factor points) (nothing_said outs) fs ≡ Some said → SaidWeighs fs said
    said-weighs outs fs said h = folded-keeps (with_factor points) SaidWeighs said-more [] (nothing_said outs) said fs h (nothing-weighs outs)

-- ---- the factors of a term that has a shape
pub record AreBasicFactors (outs : ℕ) (w : U) (s : Shape) : Type 0 where
  pub leaves : mul_leaves (under_sums w) ≡ map term_of (factors (under_sums w))
  pub atoms : Each IsBasicAtom (factors (under_sums w))
  pub facts : Each IsBasicFact (factors (under_sums w))

pub basic-factors : (outs : ℕ) (w : U) (s : Shape) → HasShape outs w s → AreBasicFactors outs w s
basic-factors outs w s h =
    let r = read-of outs w s h in
    let k = read-said outs w r.atoms r.said r.placed r.told in
    record {
      leaves = leaves-are (under_sums w) k.0;
      atoms = (atoms-weigh (λ n. 0) (sum_count w) (factors (under_sums w)) r.atoms r.placed).basic;
      facts = (said-weighs 0 (λ n. 0) r.atoms.points outs (factors (under_sums w)) r.said r.told).basic;
    }

module _ (a : ℕ → ℕ) (e : ℕ) (m : ℕ → ℕ) where
  -- a measure of terms that is no more than these
  pub record Weighs (g : U → ℕ) : Type 0 where
    pub atoms : (table : ℕ) (values : List Val) → Each IsBasic values → g (R table values) ≤ a (length values)
    pub equalities : (x y : Val) → IsBasic x → IsBasic y → g (x ≐ y) ≤ e
    pub truths : (symbol : ℕ) (values : List Val) → Each IsBasic values → g (P symbol values) ≤ m (length values)
    pub falsehoods : (symbol : ℕ) (values : List Val) → Each IsBasic values → g (neg (P symbol values)) ≤ m (length values)
    pub differences : (x y : Val) → IsBasic x → IsBasic y → g (neg (x ≐ y)) ≤ m 2

  factor-light : (g : U → ℕ) → Weighs g → (f : Factor) → IsBasicAtom f → IsBasicFact f → g (term_of f) ≤ atom_weight a f + fact_weight e m f
  factor-light g h (atom table values) i j = let light = h.atoms table values i in omega (arith, light)
  factor-light g h (equality x y) i j = let light = h.equalities x y j.0 j.1 in omega (arith, light)
  factor-light g h (difference x y) i j = let light = h.differences x y j.0 j.1 in omega (arith, light)
  factor-light g h (truth symbol values) i j = let light = h.truths symbol values j in omega (arith, light)
  factor-light g h (falsehood symbol values) i j = let light = h.falsehoods symbol values j in omega (arith, light)
  factor-light g h other i j = absurd j

  factors-light : (g : U → ℕ) → Weighs g → (fs : List Factor) → Each IsBasicAtom fs → Each IsBasicFact fs → sum_by g (map term_of fs) ≤ sum_by (atom_weight a) fs + sum_by (fact_weight e m) fs
  factors-light g h [] i j = omega arith
  factors-light g h (f ∷ fs) i j =
      let first = factor-light g h f i.0 j.0 in
      let rest = factors-light g h fs i.1 j.1 in
      omega (arith, first, rest, sum_by-cons g (term_of f) (map term_of fs), sum_by-cons (atom_weight a) f fs, sum_by-cons (fact_weight e m) f fs)

  pub shape-light : (g : U → ℕ) → Weighs g → (outs : ℕ) (w : U) (s : Shape) → HasShape outs w s
      → sum_by g (mul_leaves (under_sums w)) ≤ sum_by (λ (entry : Entry). a entry.columns) s.entries + (e * equality_count s + sum_by (λ (mark : Mark). m (length mark.points)) s.marks)
  shape-light g h outs w s k =
      let r = read-of outs w s k in
      let basic = basic-factors outs w s k in
      let atoms : sum_by (entry_weight a) r.atoms.entries ≡ sum_by (atom_weight a) (factors (under_sums w)) = (atoms-weigh a (sum_count w) (factors (under_sums w)) r.atoms r.placed).weight in
      let said : said_weight e m r.said ≡ sum_by (fact_weight e m) (factors (under_sums w)) = (said-weighs e m r.atoms.points outs (factors (under_sums w)) r.said r.told).weight in
      let outputs : given r.said.outputs ≡ length r.outputs = given-all r.said.outputs r.outputs r.all in
      let light : sum_by g (mul_leaves (under_sums w)) ≤ sum_by (atom_weight a) (factors (under_sums w)) + sum_by (fact_weight e m) (factors (under_sums w)) =
      subst (λ (xs : List U). sum_by g xs ≤ sum_by (atom_weight a) (factors (under_sums w)) + sum_by (fact_weight e m) (factors (under_sums w))) (sym basic.leaves)
      (factors-light g h (factors (under_sums w)) basic.atoms basic.facts) in
      let said_is : e * (length r.said.equalities + length r.outputs) + sum_by (mark_weight e m) r.said.marks ≡ sum_by (fact_weight e m) (factors (under_sums w)) =
      ap (λ (n : ℕ). e * (length r.said.equalities + n) + sum_by (mark_weight e m) r.said.marks) (sym outputs) ∙ said in
      subst (λ (t : Shape). sum_by g (mul_leaves (under_sums w)) ≤ sum_by (λ (entry : Entry). a entry.columns) t.entries + (e * equality_count t + sum_by (λ (mark : Mark). m (length mark.points)) t.marks)) r.is
      (omega (arith, atoms, said_is, light))
