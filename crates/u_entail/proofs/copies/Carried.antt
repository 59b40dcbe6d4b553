-- What the points of marks say of the marks, and the hops along the chains of points.
use Rattle.std.proofs.Common.{◌≡◌, ℕ, suc, ◌+◌, ◌*◌, ◌≤◌, max, Bool, true, false, List, [], ◌∷◌, ◌++◌, Option, Some, None, length, append_assoc, refl, ap, sym, ◌∙◌, subst, arith}
use Rattle.std.specs.Prelude.{MatchOption, count_by}
use Rattle.std.proofs.lemmas.List.{append-nil, length-append}
use Rattle.std.proofs.lemmas.List.Sums.{sum_by-cons, sum_by-append}
use Rattle.u_terms.specs.Size.{nodes, depth, row_nodes, row_depth, value_nodes, value_depth, list_nodes, list_depth}
use Rattle.u_terms.specs.Syntax.{U, Zero, One, Add, Mul, Squash, Not, Sum, Rel, Eq, Pred, Val, Vals, NoVals, ValThen, constructors}
use Rattle.u_terms.specs.declared.term.U.TheVariants as u
use Rattle.u_terms.specs.declared.term.Val.TheVariants as v
use Rattle.u_terms.proofs.Parts.{parts-Not, parts-Pred}
use Rattle.u_terms.proofs.Sizes.{nodes-Eq, nodes-Not, nodes-One, nodes-Pred, depth-Eq, depth-Not, depth-One, depth-Pred, list_depth-cons}
use Rattle.u_rules.specs.Terms.{◌≐◌, I, P, neg, mul_leaves}
use Rattle.u_moves.specs.Derivations.{IsWithin}
use Rattle.u_equal.specs.declared.link.Link.{Link}
use Rattle.u_equal.specs.Entails.{Entails, EntailsEach, none, more}
use Rattle.u_equal.specs.LinkCounts.{row_values}
use Rattle.u_equal.specs.Links.{LeadsEach, no_pair, pair, HasNoCall, NestsEach, no_lists, lists_within, is_equality, told}
use Rattle.u_equal.specs.Routes.{Course, HasDistance, IsChain, IsFrom}
use Rattle.u_equal.specs.Standing.{standing}
use Rattle.u_equal.proofs.entailment.Entailed.{leads-entail}
use Rattle.u_equal.proofs.products.KeyLaws.{sides-Eq}
use Rattle.u_equal.proofs.links.LinkNumbers.{row_values-list}
use Rattle.u_entail.specs.Gaining.{Begins}
use Rattle.u_entail.specs.Small.{AreSmall, IsSmall}
use Rattle.u_entail.specs.Spines.{spine}
use Rattle.u_entail.specs.Spots.{Spot, here, in_predicate, at_left, at_right, in_negation, filled, way}
use Rattle.u_entail.specs.Hops.{AreHops, StayWithin, stays}
use Rattle.u_entail.specs.Carrying as spec
use Rattle.u_entail.specs.Carrying.{points, Carries, holds, equal, fails, Follows, straight, exchanged, IsReadAs, as_it_stands, sides_exchanged, IsMarkFrom, AreDistances, no_distance, distance_more, Form, predicate, equality, negation, mark_of, Fits, AreCourses, no_course, course_more, LeadsMark, LeadsExchanged, LeadsEither, IsPair, ArePairs, no_point, point_more, AreEntailed, AreMarkPairs, PairsMark, PairsExchanged, PairsEither, LeadAlong, PushesPairs, ArePaired, IsPaired, PushesMark, IsMarkPaired, PushesExchanged, IsExchangedPaired, IsDifferencePaired, HavePoints, HaveSpare, MarksBy, PointsBy, AlongCourses, AlongPairs, PushesChain, PushesRoute, CarriesBy, links_of, AreFew, IsShortCourse, AreShortCourses}
use Rattle.u_entail.specs.declared.carrying.MarkPairs.{MarkPairs}
use Rattle.u_entail.specs.declared.carrying.Pair.{Pair}
use Rattle.u_entail.specs.declared.hops.Hop.{Hop}
use Rattle.u_entail.proofs.sizes.Basic.{value-positive, values-many}
use Rattle.u_entail.proofs.chains.Flat.{stay-append}
use Rattle.u_entail.proofs.chains.Leading.{leads-by, leads-given, count-given, nests-pair}
use Rattle.u_entail.proofs.substitution.Placed.{eq-not, pred-eq, pred-not, symbols}
use Rattle.u_entail.proofs.sizes.Small.{list_depth-between, list_depth-push}

-- ---- numbers
one-times : (n : ℕ) → 1 * n ≡ n
one-times n = omega arith

two-times : (n : ℕ) → 2 * n ≡ n + n
two-times n = omega arith

more-times : (m n : ℕ) → suc m * n ≡ n + m * n
more-times m n = grind arith

same-many : (product : U) (m n hops : ℕ) → n ≡ m → hops ≤ m * count_by is_equality (mul_leaves product) → hops ≤ n * count_by is_equality (mul_leaves product)
same-many product m n hops same le = subst (λ (k : ℕ). hops ≤ k * count_by is_equality (mul_leaves product)) (sym same) le

-- ---- the points
pub points-pred : (symbol : ℕ) (vs : List Val) → points (P symbol vs) ≡ vs
unfolding points constructors
points-pred symbol vs = row_values-list vs

pub points-eq : (a b : Val) → points (a ≐ b) ≡ a ∷ b ∷ []
unfolding points constructors
points-eq a b = refl

pub points-not : (mark : U) → points (neg mark) ≡ points mark
unfolding points constructors
points-not mark = refl

-- ---- a mark that is carried
pub read-follows : (product mark first wanted : U) → IsReadAs mark first → Carries product first wanted → Follows product mark wanted
read-follows product mark first wanted as_it_stands carries = straight mark wanted carries
read-follows product mark first wanted (sides_exchanged a b is) carries = subst (λ (x : U). Follows product x wanted) (sym is) (exchanged a b wanted carries)

record IsPred (product : U) (symbol : ℕ) (xs : List Val) (wanted : U) : Type 0 where
  ys : List Val
  is : wanted ≡ P symbol ys
  by : EntailsEach product xs ys

carried-pred : (product : U) (mark wanted : U) → Carries product mark wanted → (symbol : ℕ) (xs : List Val) → mark ≡ P symbol xs → IsPred product symbol xs wanted
carried-pred product mark wanted (holds i as' bs h) symbol xs is =
    let same : i ≡ symbol = symbols i symbol as' xs is in
    record { ys = bs; is = ap (λ n. P n bs) same; by = subst (λ (vs : List Val). EntailsEach product vs bs) (parts-Pred i symbol as' xs is) h }
carried-pred product mark wanted (equal a b c d h k) symbol xs is = absurd (pred-eq symbol xs a b (sym is))
carried-pred product mark wanted (fails x y h) symbol xs is = absurd (pred-not symbol xs x (sym is))

record IsEq (product : U) (a b : Val) (wanted : U) : Type 0 where
  c : Val
  d : Val
  is : wanted ≡ c ≐ d
  left : Entails product a c
  right : Entails product b d

carried-eq : (product : U) (mark wanted : U) → Carries product mark wanted → (a b : Val) → mark ≡ a ≐ b → IsEq product a b wanted
carried-eq product mark wanted (holds i xs ys h) a b is = absurd (pred-eq i xs a b is)
carried-eq product mark wanted (equal p q c d h k) a b is =
    let both = sides-Eq p q a b is in
    record { c = c; d = d; is = refl; left = subst (λ (x : Val). Entails product x c) both.0 h; right = subst (λ (x : Val). Entails product x d) both.1 k }
carried-eq product mark wanted (fails x y h) a b is = absurd (eq-not a b x (sym is))

record IsNot (product : U) (inner wanted : U) : Type 0 where
  other : U
  is : wanted ≡ neg other
  by : Carries product inner other

carried-not : (product : U) (mark wanted : U) → Carries product mark wanted → (inner : U) → mark ≡ neg inner → IsNot product inner wanted
carried-not product mark wanted (holds i xs ys h) inner is = absurd (pred-not i xs inner is)
carried-not product mark wanted (equal a b c d h k) inner is = absurd (eq-not a b inner is)
carried-not product mark wanted (fails x y h) inner is = record { other = y; is = refl; by = subst (λ (z : U). Carries product z y) (parts-Not x inner is) h }

pub no-mark-carried : (product mark wanted : U) → ((i : ℕ) (vs : List Val) → mark ≡ u.Pred i vs → ⊥) → ((a b : Val) → mark ≡ u.Eq a b → ⊥) → ((x : U) → mark ≡ u.Not x → ⊥) → Carries product mark wanted → ⊥
no-mark-carried product mark wanted pred eq not (holds i xs ys h) = pred i xs refl
no-mark-carried product mark wanted pred eq not (equal a b c d h k) = eq a b refl
no-mark-carried product mark wanted pred eq not (fails x y h) = not x refl

pub no-pred-carried : (product : U) (symbol : ℕ) (xs : List Val) (wanted : U) → ((i : ℕ) (vs : List Val) → wanted ≡ u.Pred i vs → ⊥) → Carries product (P symbol xs) wanted → ⊥
no-pred-carried product symbol xs wanted differ h = let p = carried-pred product (P symbol xs) wanted h symbol xs refl in differ symbol p.ys p.is

pub no-eq-carried : (product : U) (a b : Val) (wanted : U) → ((c d : Val) → wanted ≡ u.Eq c d → ⊥) → Carries product (a ≐ b) wanted → ⊥
no-eq-carried product a b wanted differ h = let p = carried-eq product (a ≐ b) wanted h a b refl in differ p.c p.d p.is

pub no-not-carried : (product inner wanted : U) → ((x : U) → wanted ≡ u.Not x → ⊥) → Carries product (neg inner) wanted → ⊥
no-not-carried product inner wanted differ h = let p = carried-not product (neg inner) wanted h inner refl in differ p.other p.is

pub other-symbol : (product : U) (symbol i : ℕ) (xs ys : List Val) → (symbol ≡ i → ⊥) → Carries product (P symbol xs) (P i ys) → ⊥
other-symbol product symbol i xs ys differ h = let p = carried-pred product (P symbol xs) (P i ys) h symbol xs refl in differ (sym (symbols i symbol ys p.ys p.is))

-- ---- forms
pub fits-same : (form : Form) (xs ys : List Val) → length xs ≡ length ys → Fits form xs → Fits form ys
fits-same (predicate symbol) xs ys same fits = tt
fits-same equality xs ys same fits = sym same ∙ fits
fits-same (negation form) xs ys same fits = fits-same form xs ys same fits

pub mark-points : (form : Form) (vs : List Val) → Fits form vs → points (mark_of form vs) ≡ vs
mark-points (predicate symbol) vs fits = points-pred symbol vs
mark-points equality [] fits = absurd (omega (arith, fits))
mark-points equality (a ∷ []) fits = absurd (omega (arith, fits))
mark-points equality (a ∷ (b ∷ [])) fits = points-eq a b
mark-points equality (a ∷ (b ∷ (c ∷ vs))) fits = absurd (omega (arith, fits))
mark-points (negation form) vs fits = points-not (mark_of form vs) ∙ mark-points form vs fits

pub each-long : (product : U) (xs ys : List Val) → EntailsEach product xs ys → length xs ≡ length ys
each-long product xs ys none = refl
each-long product xs ys (more a b as' bs h hs) = omega (arith, each-long product as' bs hs)

record EachFirst (product : U) (x : Val) (xs : List Val) (y : Val) (ys : List Val) : Type 0 where
  one : Entails product x y
  more : EntailsEach product xs ys

each-first : (product : U) (x : Val) (xs : List Val) (y : Val) (ys : List Val) → EntailsEach product (x ∷ xs) (y ∷ ys) → EachFirst product x xs y ys
each-first product x xs y ys (more a b as' bs h hs) = record { one = h; more = hs }

pub mark-carries : (product : U) (form : Form) (xs ys : List Val) → Fits form xs → EntailsEach product xs ys → Carries product (mark_of form xs) (mark_of form ys)
mark-carries product (predicate symbol) xs ys fits each = holds symbol xs ys each
mark-carries product (negation form) xs ys fits each = fails (mark_of form xs) (mark_of form ys) (mark-carries product form xs ys fits each)
mark-carries product equality [] ys fits each = absurd (omega (arith, fits))
mark-carries product equality (a ∷ []) ys fits each = absurd (omega (arith, fits))
mark-carries product equality (a ∷ (b ∷ (c ∷ xs))) ys fits each = absurd (omega (arith, fits))
mark-carries product equality (a ∷ (b ∷ [])) [] fits each = absurd (omega (arith, each-long product (a ∷ (b ∷ [])) [] each))
mark-carries product equality (a ∷ (b ∷ [])) (c ∷ []) fits each = absurd (omega (arith, each-long product (a ∷ (b ∷ [])) (c ∷ []) each))
mark-carries product equality (a ∷ (b ∷ [])) (c ∷ (d ∷ (e ∷ ys))) fits each = absurd (omega (arith, each-long product (a ∷ (b ∷ [])) (c ∷ (d ∷ (e ∷ ys))) each))
mark-carries product equality (a ∷ (b ∷ [])) (c ∷ (d ∷ [])) fits each =
    let first = each-first product a (b ∷ []) c (d ∷ []) each in
    let second = each-first product b [] d [] first.more in
    equal a b c d first.one second.one

-- ---- where a point stands
abbrev or_first : List Val → Val
or_first [] = v.Bound 0
or_first (a ∷ vs) = a

abbrev pub spot_of : Form → List Val → List Val → Spot
spot_of (predicate symbol) before after = in_predicate symbol before here after
spot_of equality [] after = at_left here (or_first after)
spot_of equality (a ∷ before) after = at_right a here
spot_of (negation form) before after = in_negation (spot_of form before after)

pub way-of : (form : Form) (before after : List Val) (x : Val) → Fits form (before ++ x ∷ after) → way (spot_of form before after) ≡ length before ∷ []
way-of (predicate symbol) before after x fits = refl
way-of equality [] after x fits = refl
way-of equality (a ∷ []) after x fits = refl
way-of equality (a ∷ (b ∷ before)) after x fits = absurd (omega (arith, fits, length-append before (x ∷ after)))
way-of (negation form) before after x fits = way-of form before after x fits

pub filled-of : (form : Form) (before after : List Val) (x : Val) → Fits form (before ++ x ∷ after) → filled (spot_of form before after) x ≡ mark_of form (before ++ x ∷ after)
filled-of (predicate symbol) before after x fits = refl
filled-of equality [] [] x fits = absurd (omega (arith, fits))
filled-of equality [] (b ∷ []) x fits = refl
filled-of equality [] (b ∷ (c ∷ after)) x fits = absurd (omega (arith, fits))
filled-of equality (a ∷ []) [] x fits = refl
filled-of equality (a ∷ []) (b ∷ after) x fits = absurd (omega (arith, fits))
filled-of equality (a ∷ (b ∷ before)) after x fits = absurd (omega (arith, fits, length-append before (x ∷ after)))
filled-of (negation form) before after x fits = ap (λ (z : U). neg z) (filled-of form before after x fits)

-- ---- how large marks are
two-nodes : (a b : Val) → list_nodes (a ∷ b ∷ []) ≡ value_nodes a + value_nodes b
two-nodes a b = omega (arith, sum_by-cons value_nodes a (b ∷ []), sum_by-cons value_nodes b [])

two-depth : (a b : Val) → list_depth (a ∷ b ∷ []) ≡ max (value_depth a) (value_depth b)
two-depth a b = omega (arith, list_depth-cons a (b ∷ []), list_depth-cons b [])

no-nodes : nodes I ≡ 1
no-nodes = nodes-One

pub nodes-form : (form : Form) (xs vs : List Val) → Fits form xs → nodes (mark_of form vs) + list_nodes xs ≤ nodes (mark_of form xs) + list_nodes vs
nodes-form (predicate symbol) xs vs fits = omega (arith, nodes-Pred symbol xs, nodes-Pred symbol vs)
nodes-form (negation form) xs vs fits = omega (arith, nodes-form form xs vs fits, nodes-Not (mark_of form xs), nodes-Not (mark_of form vs))
nodes-form equality [] vs fits = absurd (omega (arith, fits))
nodes-form equality (a ∷ []) vs fits = absurd (omega (arith, fits))
nodes-form equality (a ∷ (b ∷ (c ∷ xs))) vs fits = absurd (omega (arith, fits))
nodes-form equality (a ∷ (b ∷ [])) [] fits = omega (arith, no-nodes, nodes-Eq a b, sum_by-cons value_nodes a (b ∷ []), sum_by-cons value_nodes b [])
nodes-form equality (a ∷ (b ∷ [])) (c ∷ []) fits = omega (arith, no-nodes, nodes-Eq a b, sum_by-cons value_nodes a (b ∷ []), sum_by-cons value_nodes b [])
nodes-form equality (a ∷ (b ∷ [])) (c ∷ (d ∷ [])) fits =
    omega (arith, nodes-Eq a b, nodes-Eq c d, sum_by-cons value_nodes a (b ∷ []), sum_by-cons value_nodes b [], sum_by-cons value_nodes c (d ∷ []), sum_by-cons value_nodes d [])
nodes-form equality (a ∷ (b ∷ [])) (c ∷ (d ∷ (e ∷ vs))) fits = omega (arith, no-nodes, nodes-Eq a b, sum_by-cons value_nodes a (b ∷ []), sum_by-cons value_nodes b [])

pub depth-form : (form : Form) (xs vs : List Val) → Fits form xs → depth (mark_of form vs) ≤ depth (mark_of form xs) + list_depth vs
depth-form (predicate symbol) xs vs fits = omega (arith, depth-Pred symbol xs, depth-Pred symbol vs)
depth-form (negation form) xs vs fits = omega (arith, depth-form form xs vs fits, depth-Not (mark_of form xs), depth-Not (mark_of form vs))
depth-form equality [] vs fits = absurd (omega (arith, fits))
depth-form equality (a ∷ []) vs fits = absurd (omega (arith, fits))
depth-form equality (a ∷ (b ∷ (c ∷ xs))) vs fits = absurd (omega (arith, fits))
depth-form equality (a ∷ (b ∷ [])) [] fits = omega (arith, depth-One, depth-Eq a b)
depth-form equality (a ∷ (b ∷ [])) (c ∷ []) fits = omega (arith, depth-One, depth-Eq a b)
depth-form equality (a ∷ (b ∷ [])) (c ∷ (d ∷ [])) fits = omega (arith, depth-Eq a b, depth-Eq c d, list_depth-cons c (d ∷ []), list_depth-cons d [])
depth-form equality (a ∷ (b ∷ [])) (c ∷ (d ∷ (e ∷ vs))) fits = omega (arith, depth-One, depth-Eq a b)

-- the points are within the mark
row-light : {n : _} (row : Vals n) → list_nodes (row_values row) ≤ row_nodes row
unfolding row_values nodes
row-light NoVals = omega arith
row-light (ValThen value rest) = omega (arith, row-light rest, sum_by-cons value_nodes value (row_values rest))

row-shallow : {n : _} (row : Vals n) → list_depth (row_values row) ≤ row_depth row
unfolding row_values depth
row-shallow NoVals = omega arith
row-shallow (ValThen value rest) = omega (arith, row-shallow rest, list_depth-cons value (row_values rest))

points-light : (mark : U) → list_nodes (points mark) ≤ nodes mark
unfolding points nodes
points-light Zero = omega arith
points-light One = omega arith
points-light (Add a b) = omega arith
points-light (Mul a b) = omega arith
points-light (Squash a) = omega arith
points-light (Not a) = omega (arith, points-light a)
points-light (Sum body) = omega arith
points-light (Rel table shape arguments) = omega arith
points-light (Eq a b) = omega (arith, sum_by-cons value_nodes a (b ∷ []), sum_by-cons value_nodes b [])
points-light (Pred symbol shape arguments) = omega (arith, row-light arguments)

points-shallow : (mark : U) → list_depth (points mark) ≤ depth mark
unfolding points depth
points-shallow Zero = omega arith
points-shallow One = omega arith
points-shallow (Add a b) = omega arith
points-shallow (Mul a b) = omega arith
points-shallow (Squash a) = omega arith
points-shallow (Not a) = omega (arith, points-shallow a)
points-shallow (Sum body) = omega arith
points-shallow (Rel table shape arguments) = omega arith
points-shallow (Eq a b) = omega (arith, list_depth-cons a (b ∷ []), list_depth-cons b [])
points-shallow (Pred symbol shape arguments) = omega (arith, row-shallow arguments)

pub whole-spare : (mark wanted : U) (level : ℕ) → HaveSpare (nodes wanted) (depth mark + depth wanted + level) (points mark) (points wanted)
whole-spare mark wanted level =
    record { few = omega (arith, points-light wanted); shallow_from = omega (arith, points-shallow mark); shallow_to = omega (arith, points-shallow wanted) }

-- a mark of lighter, or less deep, points is lighter, or less deep
pub carried-lighter : (product mark wanted : U) → Carries product mark wanted → list_nodes (points mark) ≤ list_nodes (points wanted) → nodes mark ≤ nodes wanted
carried-lighter product mark wanted (holds symbol xs ys each) le =
    omega (arith, le, nodes-Pred symbol xs, nodes-Pred symbol ys, ap list_nodes (points-pred symbol xs), ap list_nodes (points-pred symbol ys))
carried-lighter product mark wanted (equal a b c d h k) le =
    omega (arith, le, nodes-Eq a b, nodes-Eq c d, two-nodes a b, two-nodes c d, ap list_nodes (points-eq a b), ap list_nodes (points-eq c d))
carried-lighter product mark wanted (fails x y h) le =
    omega (arith, nodes-Not x, nodes-Not y, carried-lighter product x y h (omega (arith, le, ap list_nodes (points-not x), ap list_nodes (points-not y))))

pub carried-lower : (product mark wanted : U) → Carries product mark wanted → list_depth (points mark) ≤ list_depth (points wanted) → depth mark ≤ depth wanted
carried-lower product mark wanted (holds symbol xs ys each) le =
    omega (arith, le, depth-Pred symbol xs, depth-Pred symbol ys, ap list_depth (points-pred symbol xs), ap list_depth (points-pred symbol ys))
carried-lower product mark wanted (equal a b c d h k) le =
    omega (arith, le, depth-Eq a b, depth-Eq c d, two-depth a b, two-depth c d, ap list_depth (points-eq a b), ap list_depth (points-eq c d))
carried-lower product mark wanted (fails x y h) le =
    omega (arith, depth-Not x, depth-Not y, carried-lower product x y h (omega (arith, le, ap list_depth (points-not x), ap list_depth (points-not y))))

-- ---- a chain of points
pub point-from : (product : U) (x y : Val) (found : Option Course) → MatchOption found (Entails product x y → ⊥) (λ course. IsFrom course product x y) → (course : Course) → found ≡ Some course
    → IsFrom course product x y
point-from product x y found h course is = subst (λ (o : Option Course). MatchOption o (Entails product x y → ⊥) (λ c. IsFrom c product x y)) is h

-- ---- pairs of points, pushed
pushed-behind : {X : Type 0} (before mid after hs ks : List X) → mid ≡ before ++ hs → after ≡ mid ++ ks → after ≡ before ++ (hs ++ ks)
pushed-behind {X} before mid after hs ks h k = k ∙ ap (λ (xs : List X). xs ++ ks) h ∙ append_assoc before hs ks

pub pairs-none : (product : U) (before : List Pair) → ArePaired product [] [] before before true
pairs-none product before = record { pairs = []; is = sym (append-nil before); each = no_point }

module _ (product : U) (x y : Val) (xs ys : List Val) (before mid after : List Pair) where
  pub pairs-more : IsPaired product x y before mid true → (answer : Bool) → ArePaired product xs ys mid after answer → ArePaired product (x ∷ xs) (y ∷ ys) before after answer
  pairs-more h true k = record {
    pairs = h.0 ∷ k.pairs;
    is = pushed-behind before mid after (h.0 ∷ []) k.pairs h.1 k.is;
    each = point_more x y h.0 xs ys k.pairs h.2 k.each;
  }
  pairs-more h false k = λ each. let p = each-first product x xs y ys each in k p.more

  pub pairs-stopped : IsPaired product x y before after false → ArePaired product (x ∷ xs) (y ∷ ys) before after false
  pairs-stopped apart = λ each. let p = each-first product x xs y ys each in apart p.one

one-paired : (product : U) (x y : Val) (before after : List Pair) (answer : Bool) → IsPaired product x y before after answer → ArePaired product (x ∷ []) (y ∷ []) before after answer
one-paired product x y before after true h = pairs-more product x y [] [] before after after h true (pairs-none product after)
one-paired product x y before after false h = pairs-stopped product x y [] [] before after after h

-- ---- pairs of marks, pushed
pub pred-paired : (product : U) (symbol : ℕ) (xs ys : List Val) (before after : List Pair) (answer : Bool) → ArePaired product xs ys before after answer
    → IsMarkPaired product (P symbol xs) (P symbol ys) before after answer
pred-paired product symbol xs ys before after true h = record {
  pairs = h.pairs;
  is = h.is;
  leads = record { form = predicate symbol; from = xs; to = ys; mark_is = refl; wanted_is = refl; fits = tt; each = h.each };
}
pred-paired product symbol xs ys before after false h = λ carried.
    let p = carried-pred product (P symbol xs) (P symbol ys) carried symbol xs refl in
    h (subst (λ (vs : List Val). EntailsEach product xs vs) (sym (parts-Pred symbol symbol ys p.ys p.is)) p.by)

module _ (product : U) (a b c d : Val) where
  sides-carried : Carries product (a ≐ b) (c ≐ d) → Entails product a c × Entails product b d
  sides-carried carried =
      let p = carried-eq product (a ≐ b) (c ≐ d) carried a b refl in
      let both = sides-Eq c d p.c p.d p.is in
      (subst (λ (x : Val). Entails product a x) (sym both.0) p.left, subst (λ (x : Val). Entails product b x) (sym both.1) p.right)

  both-paired : (before after : List Pair) (answer : Bool) → ArePaired product (a ∷ (b ∷ [])) (c ∷ (d ∷ [])) before after answer → IsMarkPaired product (a ≐ b) (c ≐ d) before after answer
  both-paired before after true h = record {
    pairs = h.pairs;
    is = h.is;
    leads = record { form = equality; from = a ∷ (b ∷ []); to = c ∷ (d ∷ []); mark_is = refl; wanted_is = refl; fits = refl; each = h.each };
  }
  both-paired before after false h = λ carried. let both = sides-carried carried in h (more a c (b ∷ []) (d ∷ []) both.0 (more b d [] [] both.1 none))

  pub eq-paired : (before mid after : List Pair) → IsPaired product a c before mid true → (answer : Bool) → IsPaired product b d mid after answer → IsMarkPaired product (a ≐ b) (c ≐ d) before after answer
  eq-paired before mid after h answer k =
      both-paired before after answer (pairs-more product a c (b ∷ []) (d ∷ []) before mid after h answer (one-paired product b d mid after answer k))

  pub eq-stopped : (before after : List Pair) → IsPaired product a c before after false → Carries product (a ≐ b) (c ≐ d) → ⊥
  eq-stopped before after apart carried = let both = sides-carried carried in apart both.0

pub not-paired : (product inner other : U) (before after : List Pair) (answer : Bool) → IsMarkPaired product inner other before after answer → IsMarkPaired product (neg inner) (neg other) before after answer
not-paired product inner other before after true h =
    let l = h.leads in
    record {
      pairs = h.pairs;
      is = h.is;
      leads = record {
        form = negation l.form;
        from = l.from;
        to = l.to;
        mark_is = ap (λ (z : U). neg z) l.mark_is;
        wanted_is = ap (λ (z : U). neg z) l.wanted_is;
        fits = l.fits;
        each = l.each;
      };
    }
not-paired product inner other before after false h = λ carried.
    let p = carried-not product (neg inner) (neg other) carried inner refl in
    h (subst (λ (z : U). Carries product inner z) (sym (parts-Not other p.other p.is)) p.by)

-- ---- with sides exchanged
pub exchanged-paired : (product term wanted : U) (a b : Val) → term ≡ a ≐ b → (before after : List Pair) (answer : Bool) → IsMarkPaired product (b ≐ a) wanted before after answer
    → IsExchangedPaired product term wanted before after answer
exchanged-paired product term wanted a b is before after true h = record { left = a; right = b; is = is; pushes = h }
exchanged-paired product term wanted a b is before after false h = λ c d also carried.
    let both = sides-Eq a b c d (sym is ∙ also) in
    h (subst (λ (x : Val). Carries product (x ≐ a) wanted) (sym both.1) (subst (λ (x : Val). Carries product (d ≐ x) wanted) (sym both.0) carried))

pub no-exchanged : (product term wanted : U) (before after : List Pair) → ((a b : Val) → term ≡ u.Eq a b → ⊥) → IsExchangedPaired product term wanted before after false
no-exchanged product term wanted before after differ = λ a b is carried. differ a b is

pub difference-paired : (product inner other : U) (before after : List Pair) (answer : Bool) → IsExchangedPaired product inner other before after answer
    → IsDifferencePaired product (neg inner) (neg other) before after answer
difference-paired product inner other before after true h =
    let made = not-paired product (h.right ≐ h.left) other before after true h.pushes in
    record { pairs = made.pairs; is = made.is; leads = record { left = h.left; right = h.right; is = ap (λ (z : U). neg z) h.is; leads = made.leads } }
difference-paired product inner other before after false h = λ a b is carried.
    let p = carried-not product (neg (b ≐ a)) (neg other) carried (b ≐ a) refl in
    h a b (parts-Not inner (a ≐ b) is) (subst (λ (z : U). Carries product (b ≐ a) z) (sym (parts-Not other p.other p.is)) p.by)

pub no-difference : (product mark wanted : U) (before after : List Pair) → ((x : U) → mark ≡ u.Not x → ⊥) → IsDifferencePaired product mark wanted before after false
no-difference product mark wanted before after differ = λ a b is carried. differ (a ≐ b) is

pub no-other-difference : (product inner wanted : U) (before after : List Pair) → ((x : U) → wanted ≡ u.Not x → ⊥) → IsDifferencePaired product (neg inner) wanted before after false
no-other-difference product inner wanted before after differ = λ a b is carried.
    no-not-carried product (b ≐ a) wanted differ carried

-- ---- all that were pushed
pub mark-paired : (product mark wanted : U) (before after : List Pair) → before ≡ [] → (answer : Bool) → IsMarkPaired product mark wanted before after answer → answer ≡ true → PairsMark product mark wanted after
mark-paired product mark wanted before after empty answer h true_is =
    let p = subst (λ (b : Bool). IsMarkPaired product mark wanted before after b) true_is h in
    subst (λ (ps : List Pair). PairsMark product mark wanted ps) (sym (p.is ∙ ap (λ (ps : List Pair). ps ++ p.pairs) empty)) p.leads

pub difference-all-paired : (product mark wanted : U) (before after : List Pair) → before ≡ [] → (answer : Bool) → IsDifferencePaired product mark wanted before after answer → answer ≡ true
    → PairsExchanged product mark wanted after
difference-all-paired product mark wanted before after empty answer h true_is =
    let p = subst (λ (b : Bool). IsDifferencePaired product mark wanted before after b) true_is h in
    subst (λ (ps : List Pair). PairsExchanged product mark wanted ps) (sym (p.is ∙ ap (λ (ps : List Pair). ps ++ p.pairs) empty)) p.leads

pub no-mark-paired : (product mark wanted : U) (before after : List Pair) (answer : Bool) → IsMarkPaired product mark wanted before after answer → answer ≡ false → Carries product mark wanted → ⊥
no-mark-paired product mark wanted before after answer h is = subst (λ (b : Bool). IsMarkPaired product mark wanted before after b) is h

pub no-difference-paired : (product mark wanted : U) (before after : List Pair) (answer : Bool) → IsDifferencePaired product mark wanted before after answer → answer ≡ false
    → (a b : Val) → mark ≡ neg (a ≐ b) → Carries product (neg (b ≐ a)) wanted → ⊥
no-difference-paired product mark wanted before after answer h is = subst (λ (b : Bool). IsDifferencePaired product mark wanted before after b) is h

-- ---- what pairs of points say
pair-entailed : (product : U) (a b : Val) (p : Pair) → IsPair product a b p → Entails product p.from.now p.to.now
pair-entailed product a b p is =
    subst (λ (x : Val). Entails product x p.to.now) (sym is.from_is) (subst (λ (x : Val). Entails product a x) (sym is.to_is) is.entailed)

pairs-entailed : (product : U) (xs ys : List Val) (pairs : List Pair) → ArePairs product xs pairs ys → AreEntailed product pairs
pairs-entailed product xs ys pairs no_point = tt
pairs-entailed product xs ys pairs (point_more a b p as' bs ps is each) = (pair-entailed product a b p is, pairs-entailed product as' bs ps each)

pub either-entailed : (product mark wanted : U) (exchanged : Bool) (pairs : List Pair) → PairsEither product mark wanted exchanged pairs → AreEntailed product pairs
either-entailed product mark wanted false pairs l = pairs-entailed product l.from l.to pairs l.each
either-entailed product mark wanted true pairs l = let m = l.leads in pairs-entailed product m.from m.to pairs m.each

-- what was found of the pairs of a mark
pub pairs-found : (product mark wanted : U) (found : Option MarkPairs) → MatchOption found (Follows product mark wanted → ⊥) (λ pairs. AreMarkPairs product mark wanted pairs) → (pairs : MarkPairs) → found ≡ Some pairs
    → AreMarkPairs product mark wanted pairs
pairs-found product mark wanted found h pairs is = subst (λ (o : Option MarkPairs). MatchOption o (Follows product mark wanted → ⊥) (λ ps. AreMarkPairs product mark wanted ps)) is h

pub no-pairs-found : (product mark wanted : U) (found : Option MarkPairs) → MatchOption found (Follows product mark wanted → ⊥) (λ pairs. AreMarkPairs product mark wanted pairs) → found ≡ None
    → Follows product mark wanted → ⊥
no-pairs-found product mark wanted found h is = subst (λ (o : Option MarkPairs). MatchOption o (Follows product mark wanted → ⊥) (λ ps. AreMarkPairs product mark wanted ps)) is h

pub own-pairs : (product mark wanted : U) (pairs : MarkPairs) → AreMarkPairs product mark wanted pairs → AreMarkPairs product pairs.mark.now wanted pairs
own-pairs product mark wanted pairs h =
    record { mark_is = refl; paired = subst (λ (m : U). PairsEither product m wanted pairs.exchanged pairs.points.items) (sym h.mark_is) h.paired }

-- ---- chains of pairs
none-along : (product : U) (xs ys : List Val) → ArePairs product xs [] ys → AreCourses product xs [] ys
none-along product xs ys no_point = no_course

pub lead-none : (product : U) → LeadAlong product [] []
lead-none product = record { by = none-along product }

module _ (product : U) (p : Pair) (course : Course) (from : IsFrom course product p.from.now p.to.now) (pairs : List Pair) (courses : List Course) (left : LeadAlong product pairs courses) where
  from-pair : (a b : Val) → IsPair product a b p → IsFrom course product a b
  from-pair a b is = subst (λ (x : Val). IsFrom course product x b) is.from_is (subst (λ (x : Val). IsFrom course product p.from.now x) is.to_is from)

  more-along : (xs ys : List Val) (ps : List Pair) → ArePairs product xs ps ys → ps ≡ p ∷ pairs → AreCourses product xs (course ∷ courses) ys
  more-along xs ys ps no_point is = let none_is = ap length is in absurd (omega (arith, none_is))
  more-along xs ys ps (point_more a b q as' bs rest one each) is =
      let first : q ≡ p = cc in
      let others : rest ≡ pairs = cc in
      course_more a b course as' bs courses (from-pair a b (subst (λ (o : Pair). IsPair product a b o) first one)) (left.by as' bs (subst (λ (os : List Pair). ArePairs product as' os bs) others each))

  pub lead-more : LeadAlong product (p ∷ pairs) (course ∷ courses)
  lead-more = record { by = λ xs ys each. more-along xs ys (p ∷ pairs) each refl }

mark-along : (product mark wanted : U) (pairs : List Pair) (courses : List Course) → LeadAlong product pairs courses → PairsMark product mark wanted pairs → LeadsMark product mark wanted courses
mark-along product mark wanted pairs courses h l = record {
  form = l.form;
  from = l.from;
  to = l.to;
  mark_is = l.mark_is;
  wanted_is = l.wanted_is;
  fits = l.fits;
  each = h.by l.from l.to l.each;
}

pub either-along : (product mark wanted : U) (exchanged : Bool) (pairs : List Pair) (courses : List Course) → LeadAlong product pairs courses → PairsEither product mark wanted exchanged pairs
    → LeadsEither product mark wanted exchanged courses
either-along product mark wanted false pairs courses h l = mark-along product mark wanted pairs courses h l
either-along product mark wanted true pairs courses h l = record { left = l.left; right = l.right; is = l.is; leads = mark-along product (neg (l.right ≐ l.left)) wanted pairs courses h l.leads }

-- ---- hops along the chains of points
points-none : (product : U) (done : ℕ) → PointsBy product done [] [] []
points-none product done = record {
  entailed = none;
  pairs = [];
  chains = no_pair;
  nested = no_lists (length (standing product));
  number = 0;
  distances = no_distance;
  few = omega arith;
  short = λ none_there. omega arith;
  stay = λ n nests factors begins many deep small form before long fits most level room nodes depth within. stays (mark_of form (before ++ []));
}

pub along-none : (done : ℕ) → AlongCourses done [] []
along-none done = record { by = λ product xs ys each. none-by product xs ys each; counted = λ less. omega arith } where
  none-by : (product : U) (xs ys : List Val) → AreCourses product xs [] ys → PointsBy product done xs ys []
  none-by product xs ys no_course = points-none product done

module _ (product : U) (done : ℕ) (x y : Val) (xs ys : List Val) (links : List Link) (chain : IsChain product x y (Some links)) (hs ks : List Hop) (are : AreHops (done ∷ []) links hs)
    (b : PointsBy product (done + 1) xs ys ks) where
  abbrev far : HasDistance product x y links
  far = chain.3

  points-short : HasNoCall (standing product) → length (hs ++ ks) ≤ length (y ∷ ys) * count_by is_equality (mul_leaves product)
  points-short none_there =
      let E : ℕ = count_by is_equality (mul_leaves product) in
      omega (
        arith,
        are.few (length links) (count-given links (leads-given product none_there x y links chain.0)),
        chain.1 none_there,
        b.short none_there,
        more-times (length ys) E,
        length-append hs ks,
      )

  module _ (n : ℕ) (nests : NestsEach n (links ∷ b.pairs)) (factors : List U) (begins : Begins product factors) (many deep : ℕ) (small : AreSmall many deep factors) (form : Form) (before : List Val)
      (long : length before ≡ done) (fits : Fits form (before ++ x ∷ xs)) (most level : ℕ) (room : HavePoints most level before (x ∷ xs) (y ∷ ys)) (nodes depth : ℕ)
      (within : (vs : List Val) → spec.AreWithin (most + (many + 2 * (n * many))) (max level (deep + n)) vs → IsWithin nodes depth (spine factors (mark_of form vs))) where
    fits-with : (z : Val) → Fits form (before ++ z ∷ xs)
    fits-with z = fits-same form (before ++ x ∷ xs) (before ++ z ∷ xs) (omega (arith, length-append before (x ∷ xs), length-append before (z ∷ xs))) fits

    point-within : (z : Val) → IsSmall many deep n z → spec.AreWithin (most + (many + 2 * (n * many))) (max level (deep + n)) (before ++ z ∷ xs)
    point-within z z_small = record {
      few = omega (
        arith,
        room.few,
        z_small.few,
        value-positive y,
        values-many ys,
        sum_by-append value_nodes before (z ∷ xs),
        sum_by-cons value_nodes z xs,
        sum_by-cons value_nodes x xs,
        sum_by-cons value_nodes y ys,
      );
      shallow = omega (arith, room.shallow_before, room.shallow_from, z_small.shallow, list_depth-between before xs z, list_depth-cons x xs);
    }

    filled-with : (z : Val) → filled (spot_of form before xs) z ≡ mark_of form (before ++ z ∷ xs)
    filled-with z = filled-of form before xs z (fits-with z)

    stay-one : StayWithin nodes depth factors (mark_of form (before ++ x ∷ xs)) hs (mark_of form (before ++ y ∷ xs))
    stay-one =
        let both = nests-pair n links b.pairs nests in
        let made = are.stay many deep factors small n x y (leads-by product factors begins.rest begins.is n x y links chain.0 both.0) (spot_of form before xs)
        (way-of form before xs x fits ∙ ap (λ (k : ℕ). k ∷ []) long) nodes depth
        (λ z z_small. subst (λ (w : U). IsWithin nodes depth (spine factors w)) (sym (filled-with z)) (within (before ++ z ∷ xs) (point-within z z_small))) in
        subst (λ (w : U). StayWithin nodes depth factors w hs (mark_of form (before ++ y ∷ xs))) (filled-with x)
        (subst (λ (w : U). StayWithin nodes depth factors (filled (spot_of form before xs) x) hs w) (filled-with y) made)

    room-left : HavePoints most level (before ++ y ∷ []) xs ys
    room-left = record {
      few = omega (
        arith,
        room.few,
        value-positive x,
        sum_by-append value_nodes before (y ∷ []),
        sum_by-cons value_nodes y [],
        sum_by-cons value_nodes x xs,
        sum_by-cons value_nodes y ys,
      );
      shallow_before = omega (arith, room.shallow_before, room.shallow_to, list_depth-push before y, list_depth-cons y ys);
      shallow_from = omega (arith, room.shallow_from, list_depth-cons x xs);
      shallow_to = omega (arith, room.shallow_to, list_depth-cons y ys);
    }

    stay-left : StayWithin nodes depth factors (mark_of form (before ++ y ∷ xs)) ks (mark_of form (before ++ y ∷ ys))
    stay-left =
        let both = nests-pair n links b.pairs nests in
        let longer : length (before ++ y ∷ []) ≡ done + 1 = omega (arith, long, length-append before (y ∷ [])) in
        let there = subst (λ (vs : List Val). Fits form vs) (sym (append_assoc before (y ∷ []) xs)) (fits-with y) in
        let made = b.stay n both.1 factors begins many deep small form (before ++ y ∷ []) longer there most level room-left nodes depth within in
        subst (λ (vs : List Val). StayWithin nodes depth factors (mark_of form vs) ks (mark_of form (before ++ y ∷ ys))) (append_assoc before (y ∷ []) xs)
        (subst (λ (vs : List Val). StayWithin nodes depth factors (mark_of form ((before ++ y ∷ []) ++ xs)) ks (mark_of form vs)) (append_assoc before (y ∷ []) ys) made)

    points-stay : StayWithin nodes depth factors (mark_of form (before ++ x ∷ xs)) (hs ++ ks) (mark_of form (before ++ y ∷ ys))
    points-stay = stay-append nodes depth factors (mark_of form (before ++ x ∷ xs)) (mark_of form (before ++ y ∷ xs)) (mark_of form (before ++ y ∷ ys)) hs ks stay-one stay-left

  points-more : PointsBy product done (x ∷ xs) (y ∷ ys) (hs ++ ks)
  points-more = record {
    entailed = more x y xs ys (leads-entail product x y links chain.0) b.entailed;
    pairs = links ∷ b.pairs;
    chains = pair x y links xs ys b.pairs chain.0 b.chains;
    nested = lists_within (length (standing product)) links b.pairs chain.2 b.nested;
    number = far.number + b.number;
    distances = distance_more x y xs ys far.number b.number far.is b.distances;
    few = omega (arith, are.few far.number far.counted, b.few, length-append hs ks);
    short = points-short;
    stay = points-stay;
  }

module _ (done : ℕ) (course : Course) (courses : List Course) (before after : List Hop) (h : PushesRoute done course before after) (ks : List Hop) (k : AlongCourses (done + 1) courses ks) where
  chain-at : (product : U) (x y : Val) → IsFrom course product x y → IsChain product x y (Some h.links)
  chain-at product x y from =
      subst (λ (p : U). IsChain p x y (Some h.links)) from.product_is
      (subst (λ (a : Val). IsChain course.product a y (Some h.links)) from.from_is (subst (λ (b : Val). IsChain course.product course.from b (Some h.links)) from.to_is h.chain))

  more-by : (product : U) (xs ys : List Val) (cs : List Course) → AreCourses product xs cs ys → cs ≡ course ∷ courses → PointsBy product done xs ys (h.hops ++ ks)
  more-by product xs ys cs no_course is = let none_is = ap length is in absurd (omega (arith, none_is))
  more-by product xs ys cs (course_more x y c as' bs rest from each) is =
      let first : c ≡ course = cc in
      let left : rest ≡ courses = cc in
      points-more product done x y as' bs h.links (chain-at product x y (subst (λ (o : Course). IsFrom o product x y) first from)) h.hops ks h.are
      (k.by product as' bs (subst (λ (os : List Course). AreCourses product as' os bs) left each))

  pub along-more : AlongCourses done (course ∷ courses) (h.hops ++ ks)
  along-more = record {
    by = λ product xs ys each. more-by product xs ys (course ∷ courses) each refl;
    counted = λ less.
        let c = h.counted in
        let are = h.are in
        let sum = sum_by-cons (λ (o : Course). o.links) course courses in
        omega (arith, less, sum, c.is, are.few c.count c.counted, k.counted (omega (arith, less, sum)), length-append h.hops ks);
  }

-- the same along chains that were not counted
pub pairs-along-none : (product : U) (done : ℕ) → AlongPairs product done [] []
pairs-along-none product done = record { by = none-by } where
  none-by : (xs ys : List Val) → ArePairs product xs [] ys → PointsBy product done xs ys []
  none-by xs ys no_point = points-none product done

module _ (product : U) (done : ℕ) (p : Pair) (pairs : List Pair) (before after : List Hop) (h : PushesChain done product p.from.now p.to.now before after) (ks : List Hop) (k : AlongPairs product (done + 1) pairs ks) where
  chain-of-pair : (x y : Val) → IsPair product x y p → IsChain product x y (Some h.links)
  chain-of-pair x y is = subst (λ (a : Val). IsChain product a y (Some h.links)) is.from_is (subst (λ (b : Val). IsChain product p.from.now b (Some h.links)) is.to_is h.chain)

  more-between : (xs ys : List Val) (ps : List Pair) → ArePairs product xs ps ys → ps ≡ p ∷ pairs → PointsBy product done xs ys (h.hops ++ ks)
  more-between xs ys ps no_point is = let none_is = ap length is in absurd (omega (arith, none_is))
  more-between xs ys ps (point_more x y q as' bs rest one each) is =
      let first : q ≡ p = cc in
      let left : rest ≡ pairs = cc in
      points-more product done x y as' bs h.links (chain-of-pair x y (subst (λ (o : Pair). IsPair product x y o) first one)) h.hops ks h.are
      (k.by as' bs (subst (λ (os : List Pair). ArePairs product as' os bs) left each))

  pub pairs-along-more : AlongPairs product done (p ∷ pairs) (h.hops ++ ks)
  pairs-along-more = record { by = λ xs ys each. more-between xs ys (p ∷ pairs) each refl }

-- ---- what carries a mark
module _ (product : U) (hops : List Hop) (form : Form) (from to : List Val) (fits : Fits form from) (by : PointsBy product 0 from to hops) where
  fits-to : Fits form to
  fits-to = fits-same form from to (each-long product from to by.entailed) fits

  abbrev first_mark : U
  first_mark = mark_of form from

  abbrev last_mark : U
  last_mark = mark_of form to

  mark-stay : (n : ℕ) → NestsEach n by.pairs → (factors : List U) → Begins product factors → (many deep : ℕ) → AreSmall many deep factors
      → (spare rise : ℕ) → HaveSpare spare rise from to → deep + n ≤ rise → (most deepest : ℕ)
      → ((x : U) → IsWithin (nodes first_mark + spare + (many + 2 * (n * many))) (depth first_mark + rise) x → IsWithin most deepest (spine factors x))
      → StayWithin most deepest factors first_mark hops last_mark
  mark-stay n nests factors begins many deep small spare rise has low most deepest within =
      by.stay n nests factors begins many deep small form [] refl fits (list_nodes from + spare) (max (list_depth from) (list_depth to))
      (record { few = omega (arith, has.few); shallow_before = omega arith; shallow_from = omega arith; shallow_to = omega arith }) most deepest
      (λ vs w. within (mark_of form vs) (record {
        few = omega (arith, w.few, nodes-form form from vs fits);
        shallow = omega (arith, w.shallow, low, has.shallow_from, has.shallow_to, depth-form form from vs fits);
      }))

  form-carried : CarriesBy product first_mark last_mark hops
  form-carried = record {
    carries = mark-carries product form from to fits by.entailed;
    pairs = by.pairs;
    chains =
        subst (λ (vs : List Val). LeadsEach product vs by.pairs (points last_mark)) (sym (mark-points form from fits))
        (subst (λ (vs : List Val). LeadsEach product from by.pairs vs) (sym (mark-points form to fits-to)) by.chains);
    nested = by.nested;
    number = by.number;
    distances =
        subst (λ (vs : List Val). AreDistances product vs (points last_mark) by.number) (sym (mark-points form from fits))
        (subst (λ (vs : List Val). AreDistances product from vs by.number) (sym (mark-points form to fits-to)) by.distances);
    few = by.few;
    short = λ none_there. same-many product (length to) (length (points last_mark)) (length hops) (ap length (mark-points form to fits-to)) (by.short none_there);
    stay = λ n nests factors begins many deep small spare rise has low.
        mark-stay n nests factors begins many deep small spare rise
        (subst (λ (vs : List Val). HaveSpare spare rise vs to) (mark-points form from fits) (subst (λ (vs : List Val). HaveSpare spare rise (points first_mark) vs) (mark-points form to fits-to) has)) low;
  }

pub mark-carried : (product mark wanted : U) (Are : List Val → List Val → Type 0) → MarksBy mark wanted Are → (hops : List Hop) → ((xs ys : List Val) → Are xs ys → PointsBy product 0 xs ys hops)
    → CarriesBy product mark wanted hops
mark-carried product mark wanted Are l hops along =
    subst (λ (x : U). CarriesBy product x wanted hops) (sym l.mark_is)
    (subst (λ (x : U). CarriesBy product (mark_of l.form l.from) x hops) (sym l.wanted_is) (form-carried product hops l.form l.from l.to l.fits (along l.from l.to l.each)))

-- ---- how many links where no call stands
short-at : (product : U) (a b : Val) (course : Course) → IsFrom course product a b → IsShortCourse course → HasNoCall (standing product) → course.links ≤ count_by is_equality (mul_leaves product)
short-at product a b course from short no_call =
    subst (λ (p : U). HasNoCall (standing p) → course.links ≤ count_by is_equality (mul_leaves p)) from.product_is short no_call

courses-short : (product : U) (xs ys : List Val) (courses : List Course) → AreCourses product xs courses ys → AreShortCourses courses → AreFew product (length ys) (links_of courses)
courses-short product xs ys courses no_course short no_call = omega arith
courses-short product xs ys courses (course_more a b course as' bs rest from each) short no_call =
    let one = short-at product a b course from short.0 no_call in
    let more = courses-short product as' bs rest each short.1 no_call in
    omega (arith, sum_by-cons (λ (o : Course). o.links) course rest, one, more, more-times (length bs) (count_by is_equality (mul_leaves product)))

courses-long : (product : U) (xs ys : List Val) (courses : List Course) → AreCourses product xs courses ys → length xs ≡ length ys
courses-long product xs ys courses no_course = refl
courses-long product xs ys courses (course_more a b course as' bs rest from each) = omega (arith, courses-long product as' bs rest each)

mark-short : (product mark wanted : U) (courses : List Course) → LeadsMark product mark wanted courses → AreShortCourses courses → AreFew product (length (points wanted)) (links_of courses)
mark-short product mark wanted courses l short no_call =
    let fits : Fits l.form l.to = fits-same l.form l.from l.to (courses-long product l.from l.to courses l.each) l.fits in
    same-many product (length l.to) (length (points wanted)) (links_of courses) (ap (λ (w : U). length (points w)) l.wanted_is ∙ ap length (mark-points l.form l.to fits))
    (courses-short product l.from l.to courses l.each short no_call)

pub route-short : (product mark wanted : U) (exchanged : Bool) (courses : List Course) (links : ℕ) → LeadsEither product mark wanted exchanged courses → links ≡ told (links_of courses) → AreShortCourses courses
    → AreFew product (length (points wanted)) links
route-short product mark wanted false courses links l is short no_call = omega (arith, is, mark-short product mark wanted courses l short no_call)
route-short product mark wanted true courses links l is short no_call = omega (arith, is, mark-short product (neg (l.right ≐ l.left)) wanted courses l.leads short no_call)

-- ---- what a route of a mark says
record HaveDistances (product : U) (xs ys : List Val) (links : ℕ) : Type 0 where
  entailed : EntailsEach product xs ys
  number : ℕ
  distances : AreDistances product xs ys number
  same : told links ≡ told number

courses-far : (product : U) (xs ys : List Val) (courses : List Course) → AreCourses product xs courses ys → HaveDistances product xs ys (links_of courses)
courses-far product xs ys courses no_course = record { entailed = none; number = 0; distances = no_distance; same = refl }
courses-far product xs ys courses (course_more a b course as' bs rest from each) =
    let far = courses-far product as' bs rest each in
    record {
      entailed = more a b as' bs from.entailed far.entailed;
      number = from.number + far.number;
      distances = distance_more a b as' bs from.number far.number from.distance far.distances;
      same = omega (arith, from.links_are, far.same, sum_by-cons (λ (o : Course). o.links) course rest);
    }

record IsCarriedFar (product mark wanted : U) (links : ℕ) : Type 0 where
  carries : Carries product mark wanted
  number : ℕ
  distances : AreDistances product (points mark) (points wanted) number
  same : told links ≡ told number

form-far : (product : U) (form : Form) (from to : List Val) → Fits form from → (links : ℕ) → HaveDistances product from to links → IsCarriedFar product (mark_of form from) (mark_of form to) links
form-far product form from to fits links far =
    let fits_to : Fits form to = fits-same form from to (each-long product from to far.entailed) fits in
    record {
      carries = mark-carries product form from to fits far.entailed;
      number = far.number;
      distances =
          subst (λ (vs : List Val). AreDistances product vs (points (mark_of form to)) far.number) (sym (mark-points form from fits))
          (subst (λ (vs : List Val). AreDistances product from vs far.number) (sym (mark-points form to fits_to)) far.distances);
      same = far.same;
    }

mark-far : (product mark wanted : U) (courses : List Course) → LeadsMark product mark wanted courses → IsCarriedFar product mark wanted (links_of courses)
mark-far product mark wanted courses l =
    subst (λ (x : U). IsCarriedFar product x wanted (links_of courses)) (sym l.mark_is)
    (subst (λ (x : U). IsCarriedFar product (mark_of l.form l.from) x (links_of courses)) (sym l.wanted_is)
    (form-far product l.form l.from l.to l.fits (links_of courses) (courses-far product l.from l.to courses l.each)))

read-from : (product mark first wanted : U) (courses : List Course) (links : ℕ) → IsReadAs mark first → IsCarriedFar product first wanted (links_of courses) → links ≡ told (links_of courses)
    → IsMarkFrom (record { product = product; mark = mark; wanted = wanted; links = links }) product mark wanted
read-from product mark first wanted courses links read far is = record {
  product_is = refl;
  mark_is = refl;
  wanted_is = refl;
  read_as = first;
  read = read;
  carries = far.carries;
  number = far.number;
  distances = far.distances;
  links_are = is ∙ far.same;
}

pub route-from : (product mark wanted : U) (exchanged : Bool) (courses : List Course) (links : ℕ) → LeadsEither product mark wanted exchanged courses → links ≡ told (links_of courses)
    → IsMarkFrom (record { product = product; mark = mark; wanted = wanted; links = links }) product mark wanted
route-from product mark wanted false courses links l is = read-from product mark mark wanted courses links as_it_stands (mark-far product mark wanted courses l) is
route-from product mark wanted true courses links l is =
    let first : U = neg (l.right ≐ l.left) in
    read-from product mark first wanted courses links (sides_exchanged l.left l.right l.is) (mark-far product first wanted courses l.leads) is
