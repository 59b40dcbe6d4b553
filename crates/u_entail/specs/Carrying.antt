-- The same mark of other points, where each is entailed to be equal to the one in its place.
use Rattle.std.specs.Prelude.{◌≡◌, ℕ, ◌+◌, ◌-◌, ◌^◌, ◌<◌, ◌≤◌, ◌*◌, max, count_by, sum_by, Bool, true, false, List, [], ◌∷◌, ◌++◌, Some, length}
use Rattle.data_model.specs.Lists.{Each}
use Rattle.u_terms.specs.Syntax.{U, Val, Eq, Not, Pred}
use Rattle.u_terms.specs.Size as size
use Rattle.u_terms.specs.Size.{list_nodes, list_depth}
use Rattle.u_rules.specs.Terms.{◌≐◌, I, P, neg, mul_leaves}
use Rattle.u_moves.specs.Derivations.{IsWithin}
use Rattle.u_equal.specs.declared.link.Link.{Link}
use Rattle.u_equal.specs.Entails.{Entails, EntailsEach}
use Rattle.u_equal.specs.LinkCounts.{row_values}
use Rattle.u_equal.specs.Links.{LeadsEach, HasNoCall, NestsEach, is_equality, told}
use Rattle.u_equal.specs.Routes.{AreCounted, Course, IsChain, IsDistance, IsFrom}
use Rattle.u_equal.specs.Standing.{standing}
use Rattle.u_entail.specs.Gaining.{Begins}
use Rattle.u_entail.specs.Hops.{AreHops, StayWithin}
use Rattle.u_entail.specs.Small.{AreSmall}
use Rattle.u_entail.specs.Spines.{spine}
use Rattle.u_entail.specs.declared.carrying.MarkPairs.{MarkPairs}
use Rattle.u_entail.specs.declared.carrying.Pair.{Pair}
use Rattle.u_entail.specs.declared.hops.Hop.{Hop}

-- the values that a mark is of
unfoldable pub points : U → List Val
points (Pred symbol shape row) = row_values row
points (Eq a b) = a ∷ b ∷ []
points (Not mark) = points mark
points _ = []

-- the same predicate or equality under the same negations, where each point is entailed to be equal to the one in its place
pub data Carries (product : U) : U → U → Type 0 where
  holds : (symbol : ℕ) (xs ys : List Val) → EntailsEach product xs ys → Carries product (P symbol xs) (P symbol ys)
  equal : (a b c d : Val) → Entails product a c → Entails product b d → Carries product (a ≐ b) (c ≐ d)
  fails : (mark wanted : U) → Carries product mark wanted → Carries product (neg mark) (neg wanted)

-- the mark carries the wanted one, or does so once the sides of a negated equality are exchanged
pub data Follows (product : U) : U → U → Type 0 where
  straight : (mark wanted : U) → Carries product mark wanted → Follows product mark wanted
  exchanged : (a b : Val) (wanted : U) → Carries product (neg (b ≐ a)) wanted → Follows product (neg (a ≐ b)) wanted

-- the mark as it stands, or a negated equality with its sides exchanged
pub data IsReadAs (mark : U) : U → Type 0 where
  as_it_stands : IsReadAs mark mark
  sides_exchanged : (a b : Val) → mark ≡ neg (a ≐ b) → IsReadAs mark (neg (b ≐ a))

-- how many links there are from each value to the one in its place, together
pub data AreDistances (product : U) : List Val → List Val → ℕ → Type 0 where
  no_distance : AreDistances product [] [] 0
  distance_more : (a b : Val) (xs ys : List Val) (m n : ℕ) → IsDistance product a b m → AreDistances product xs ys n → AreDistances product (a ∷ xs) (b ∷ ys) (m + n)

-- ---- forms
-- a mark but for its points: a predicate of any number of them, an equality of two, or such a one negated
pub data Form : Type 0 where
  predicate : ℕ → Form
  equality : Form
  negation : Form → Form

abbrev pub mark_of : Form → List Val → U
mark_of (predicate symbol) vs = P symbol vs
mark_of equality (a ∷ (b ∷ [])) = a ≐ b
mark_of equality vs = I
mark_of (negation form) vs = neg (mark_of form vs)

abbrev pub Fits : Form → List Val → Type 0
Fits (predicate symbol) vs = Unit {0}
Fits equality vs = length vs ≡ 2
Fits (negation form) vs = Fits form vs

-- ---- chains that are counted and not made yet
-- one from each value to the one in its place
pub data AreCourses (product : U) : List Val → List Course → List Val → Type 0 where
  no_course : AreCourses product [] [] []
  course_more : (a b : Val) (course : Course) (xs ys : List Val) (courses : List Course) → IsFrom course product a b → AreCourses product xs courses ys
      → AreCourses product (a ∷ xs) (course ∷ courses) (b ∷ ys)

-- From the one mark to the same mark of other points: these lists are its points and those.
pub record MarksBy (mark wanted : U) (Are : List Val → List Val → Type 0) : Type 0 where
  pub form : Form
  pub from : List Val
  pub to : List Val
  pub mark_is : mark ≡ mark_of form from
  pub wanted_is : wanted ≡ mark_of form to
  pub fits : Fits form from
  pub each : Are from to

-- from a negated equality with its sides exchanged
pub record ExchangedBy (mark wanted : U) (Are : List Val → List Val → Type 0) : Type 0 where
  pub left : Val
  pub right : Val
  pub is : mark ≡ neg (left ≐ right)
  pub leads : MarksBy (neg (right ≐ left)) wanted Are

abbrev pub EitherBy : U → U → Bool → (List Val → List Val → Type 0) → Type 0
EitherBy mark wanted false Are = MarksBy mark wanted Are
EitherBy mark wanted true Are = ExchangedBy mark wanted Are

-- chains lead from point to point
abbrev pub LeadsMark : U → U → U → List Course → Type 0
LeadsMark product mark wanted courses = MarksBy mark wanted (λ from to. AreCourses product from courses to)

abbrev pub LeadsExchanged : U → U → U → List Course → Type 0
LeadsExchanged product mark wanted courses = ExchangedBy mark wanted (λ from to. AreCourses product from courses to)

abbrev pub LeadsEither : U → U → U → Bool → List Course → Type 0
LeadsEither product mark wanted is_exchanged courses = EitherBy mark wanted is_exchanged (λ from to. AreCourses product from courses to)

-- from what mark to which one, by the equalities of which product, and the number of links of all chains together
pub record MarkCourse : Type 0 where
  pub product : U
  pub mark : U
  pub wanted : U
  pub links : ℕ

-- The mark, as it is read, carries the wanted one, and there are as many links from its points to those in their places as is told.
pub record IsMarkFrom (course : MarkCourse) (product mark wanted : U) : Type 0 where
  pub product_is : course.product ≡ product
  pub mark_is : course.mark ≡ mark
  pub wanted_is : course.wanted ≡ wanted
  pub read_as : U
  pub read : IsReadAs mark read_as
  pub carries : Carries product read_as wanted
  pub number : ℕ
  pub distances : AreDistances product (points read_as) (points wanted) number
  pub links_are : course.links ≡ told number

abbrev pub links_of : List Course → ℕ
links_of = sum_by (λ course. course.links)

-- where no call stands in the product, at most as many as it has equalities, for each of so many points
abbrev pub AreFew : U → ℕ → ℕ → Type 0
AreFew product points number = HasNoCall (standing product) → number ≤ points * count_by is_equality (mul_leaves product)

-- what a route of a mark keeps
pub record IsMarkRoute (product mark wanted : U) (exchanged : Bool) (courses : List Course) (links : ℕ) : Type 0 where
  pub leads : LeadsEither product mark wanted exchanged courses
  pub is : links ≡ told (links_of courses)
  pub few : AreFew product (length (points wanted)) links

-- ---- contracts of private functions alone cite this
-- where no call stands in its product, a chain has no more links than that has equalities
abbrev pub IsShortCourse : Course → Type 0
IsShortCourse course = HasNoCall (standing course.product) → course.links ≤ count_by is_equality (mul_leaves course.product)

abbrev pub AreShortCourses : List Course → Type 0
AreShortCourses = Each IsShortCourse

-- a point, and the one that it is entailed to be equal to
pub record IsPair (product : U) (a b : Val) (one : Pair) : Type 0 where
  pub from_is : one.from.now ≡ a
  pub to_is : one.to.now ≡ b
  pub entailed : Entails product a b

pub data ArePairs (product : U) : List Val → List Pair → List Val → Type 0 where
  no_point : ArePairs product [] [] []
  point_more : (a b : Val) (one : Pair) (xs ys : List Val) (pairs : List Pair) → IsPair product a b one → ArePairs product xs pairs ys
      → ArePairs product (a ∷ xs) (one ∷ pairs) (b ∷ ys)

abbrev pub PairsMark : U → U → U → List Pair → Type 0
PairsMark product mark wanted pairs = MarksBy mark wanted (λ from to. ArePairs product from pairs to)

abbrev pub PairsExchanged : U → U → U → List Pair → Type 0
PairsExchanged product mark wanted pairs = ExchangedBy mark wanted (λ from to. ArePairs product from pairs to)

abbrev pub PairsEither : U → U → U → Bool → List Pair → Type 0
PairsEither product mark wanted is_exchanged pairs = EitherBy mark wanted is_exchanged (λ from to. ArePairs product from pairs to)

-- the pairs of points of this mark and of the wanted one
pub record AreMarkPairs (product mark wanted : U) (pairs : MarkPairs) : Type 0 where
  pub mark_is : pairs.mark.now ≡ mark
  pub paired : PairsEither product mark wanted pairs.exchanged pairs.points.items

abbrev pub AreEntailed : U → List Pair → Type 0
AreEntailed product = Each (λ one. Entails product one.from.now one.to.now)

-- chains lead from the points to those that they are equal to
pub record LeadAlong (product : U) (pairs : List Pair) (courses : List Course) : Type 0 where
  pub by : (xs ys : List Val) → ArePairs product xs pairs ys → AreCourses product xs courses ys

-- pairs were pushed, one for each point
pub record PushesPairs (product : U) (xs ys : List Val) (before after : List Pair) : Type 0 where
  pub pairs : List Pair
  pub is : after ≡ before ++ pairs
  pub each : ArePairs product xs pairs ys

abbrev pub ArePaired : U → List Val → List Val → List Pair → List Pair → Bool → Type 0
ArePaired product xs ys before after true = PushesPairs product xs ys before after
ArePaired product xs ys before after false = EntailsEach product xs ys → ⊥

abbrev pub IsPaired : U → Val → Val → List Pair → List Pair → Bool → Type 0
IsPaired product x y before after true = (one : Pair) × (after ≡ before ++ one ∷ []) × IsPair product x y one
IsPaired product x y before after false = Entails product x y → ⊥

pub record PushesMark (product mark wanted : U) (before after : List Pair) : Type 0 where
  pub pairs : List Pair
  pub is : after ≡ before ++ pairs
  pub leads : PairsMark product mark wanted pairs

abbrev pub IsMarkPaired : U → U → U → List Pair → List Pair → Bool → Type 0
IsMarkPaired product mark wanted before after true = PushesMark product mark wanted before after
IsMarkPaired product mark wanted before after false = Carries product mark wanted → ⊥

-- of an equality with its sides exchanged
pub record PushesExchanged (product term wanted : U) (before after : List Pair) : Type 0 where
  pub left : Val
  pub right : Val
  pub is : term ≡ left ≐ right
  pub pushes : PushesMark product (right ≐ left) wanted before after

abbrev pub IsExchangedPaired : U → U → U → List Pair → List Pair → Bool → Type 0
IsExchangedPaired product term wanted before after true = PushesExchanged product term wanted before after
IsExchangedPaired product term wanted before after false = (a b : Val) → term ≡ a ≐ b → Carries product (b ≐ a) wanted → ⊥

-- of a negated one
pub record PushesDifference (product mark wanted : U) (before after : List Pair) : Type 0 where
  pub pairs : List Pair
  pub is : after ≡ before ++ pairs
  pub leads : PairsExchanged product mark wanted pairs

abbrev pub IsDifferencePaired : U → U → U → List Pair → List Pair → Bool → Type 0
IsDifferencePaired product mark wanted before after true = PushesDifference product mark wanted before after
IsDifferencePaired product mark wanted before after false = (a b : Val) → mark ≡ neg (a ≐ b) → Carries product (neg (b ≐ a)) wanted → ⊥

-- ---- the hops of such chains
-- points on the way are within this
pub record AreWithin (most level : ℕ) (vs : List Val) : Type 0 where
  pub few : list_nodes vs ≤ most
  pub shallow : list_depth vs ≤ level

-- The points before are reached, and these lead to those, each of which has one node at least.
pub record HavePoints (most level : ℕ) (before xs ys : List Val) : Type 0 where
  pub few : list_nodes before + list_nodes xs + list_nodes ys ≤ most + length ys
  pub shallow_before : list_depth before ≤ level
  pub shallow_from : list_depth xs ≤ level
  pub shallow_to : list_depth ys ≤ level

pub record PointsBy (product : U) (done : ℕ) (xs ys : List Val) (hops : List Hop) : Type 0 where
  pub entailed : EntailsEach product xs ys
  pub pairs : List (List Link)
  pub chains : LeadsEach product xs pairs ys
  pub nested : NestsEach (length (standing product)) pairs
  pub number : ℕ
  pub distances : AreDistances product xs ys number
  pub few : length hops ≤ number
  pub short : AreFew product (length ys) (length hops)
  pub stay : (n : ℕ) → NestsEach n pairs → (factors : List U) → Begins product factors → (many deep : ℕ) → AreSmall many deep factors → (form : Form) (before : List Val) → length before ≡ done
      → Fits form (before ++ xs) → (most level : ℕ) → HavePoints most level before xs ys
      → (nodes depth : ℕ) → ((vs : List Val) → AreWithin (most + (many + 2 * (n * many))) (max level (deep + n)) vs → IsWithin nodes depth (spine factors (mark_of form vs)))
      → StayWithin nodes depth factors (mark_of form (before ++ xs)) hops (mark_of form (before ++ ys))

-- whatever leads along the courses of points from this one on
pub record AlongCourses (done : ℕ) (courses : List Course) (hops : List Hop) : Type 0 where
  pub by : (product : U) (xs ys : List Val) → AreCourses product xs courses ys → PointsBy product done xs ys hops
  pub counted : links_of courses < 2 ^ 64 - 1 → length hops ≤ links_of courses

-- whatever leads along the chains between the points of pairs from this one on
pub record AlongPairs (product : U) (done : ℕ) (pairs : List Pair) (hops : List Hop) : Type 0 where
  pub by : (xs ys : List Val) → ArePairs product xs pairs ys → PointsBy product done xs ys hops

-- the chain from one value to the other
pub record PushesChain (argument : ℕ) (product : U) (a b : Val) (before after : List Hop) : Type 0 where
  pub hops : List Hop
  pub is : after ≡ before ++ hops
  pub links : List Link
  pub chain : IsChain product a b (Some links)
  pub are : AreHops (argument ∷ []) links hops

-- one of those that were counted
pub record PushesRoute (argument : ℕ) (course : Course) (before after : List Hop) : Type 0 where
  pub hops : List Hop
  pub is : after ≡ before ++ hops
  pub links : List Link
  pub chain : IsChain course.product course.from course.to (Some links)
  pub counted : AreCounted links course.links
  pub are : AreHops (argument ∷ []) links hops

-- the points to which these lead have so many nodes at most beside one each, and none of either is deeper than this
pub record HaveSpare (spare rise : ℕ) (xs ys : List Val) : Type 0 where
  pub few : list_nodes ys ≤ spare + length ys
  pub shallow_from : list_depth xs ≤ rise
  pub shallow_to : list_depth ys ≤ rise

-- the hops that lead from the one mark to the other, and a chain for each point
pub record CarriesBy (product mark wanted : U) (hops : List Hop) : Type 0 where
  pub carries : Carries product mark wanted
  pub pairs : List (List Link)
  pub chains : LeadsEach product (points mark) pairs (points wanted)
  pub nested : NestsEach (length (standing product)) pairs
  pub number : ℕ
  pub distances : AreDistances product (points mark) (points wanted) number
  pub few : length hops ≤ number
  pub short : AreFew product (length (points wanted)) (length hops)
  pub stay : (n : ℕ) → NestsEach n pairs → (factors : List U) → Begins product factors → (many deep : ℕ) → AreSmall many deep factors
      → (spare rise : ℕ) → HaveSpare spare rise (points mark) (points wanted) → deep + n ≤ rise → (nodes depth : ℕ)
      → ((x : U) → IsWithin (size.nodes mark + spare + (many + 2 * (n * many))) (size.depth mark + rise) x → IsWithin nodes depth (spine factors x))
      → StayWithin nodes depth factors mark hops wanted
