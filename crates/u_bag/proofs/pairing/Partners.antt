-- The search for partners: blocks of other tables are not alike, and what is left over can be paired where all can.
use Rattle.std.proofs.Common.{◌≡◌, ℕ, zero, suc, ◌+◌, ◌<◌, inl, inr, Bool, true, List, [], ◌∷◌, ◌++◌, length, map, take, drop, drop-cons, refl, ap, sym, ◌∙◌, subst, arith}
use Rattle.std.specs.Prelude.{nat_eq, ◌&&◌, get_or, slice_get, IsPermutation, All, Contains, Some, remove}
use Rattle.std.specs.declared.cmp.Ordering.TheVariants.{Less, Equal, Greater}
use Rattle.std.specs.declared.cmp.Ordering.{Ordering}
use Rattle.std.specs.Cmp.{IsTotalOrder}
use Rattle.std.specs.Cmp.Lexicographic.{pointwise}
use Rattle.std.specs.Ordering.{nat_cmp, ordering_then}
use Rattle.std.proofs.lemmas.Cmp.{by_ranked, nat_cmp_total, on_total, ranked, then_total}
use Rattle.std.proofs.lemmas.Bool.Decides.{nat_tests}
use Rattle.std.proofs.lemmas.List.{get_or-map, get_or_default, length-map, map-append, take_more}
use Rattle.std.proofs.lemmas.List.Elements.{All-append, All-contains, All-drop, All-head, All-tail, All-take, All-weaker, Contains-get_or}
use Rattle.std.proofs.lemmas.List.Sorted.{IsPermutation-map, IsPermutation-more, IsPermutation-sym, IsPermutation-trans}
use Rattle.std.proofs.lemmas.Option.{none-some, same_Some}
use Rattle.shapes.specs.Shapes.{Entry, Shape, entry_of}
use Rattle.shapes.specs.Alike.{Alike}
use Rattle.shapes.specs.Tests.{entry_at, place_of}
use Rattle.shapes.specs.Tried.{IsPairing}
use Rattle.shapes.specs.Unions.{AllAlike, no_blocks, one_block, AreShapes, TakenOut, the_first, a_later}
use Rattle.shapes.proofs.Greedy.{any-alike}
use Rattle.shape_entails.proofs.Bijections.{permuted}
use Rattle.shape_entails.proofs.Turned.{last-or-later}
use Rattle.u_rules.proofs.multisets.OneOrder.{one_order}
use Rattle.u_bag.specs.declared.pairs.Block.{Block}
use Rattle.u_bag.specs.declared.pairs.Pair.{Pair}
use Rattle.u_bag.specs.Pairs.{AreTables, IsOfWholeShape, lefts_of, rights_of, shapes_of, table_of, table_order, terms_of}
use Rattle.u_terms.specs.Syntax.{U}

-- ---- tables
table_order-total : IsTotalOrder table_order
table_order-total = then_total (on_total (λ (p : ℕ × ℕ). p.0) nat_cmp_total) (on_total (λ (p : ℕ × ℕ). p.1) nat_cmp_total)

same-number : (x y : ℕ) → nat_cmp x y ≡ Equal → x ≡ y
same-number x y e = by_ranked (x < y) (x ≡ y) (y < x) (nat_cmp x y) (ranked x y (nat_cmp x y) refl) (λ o l. absurd (let z : Less ≡ Equal = sym o ∙ e in cc)) (λ o l. l) (λ o l. absurd (let z : Greater ≡ Equal = sym o ∙ e in cc))

both-equal : (a b : Ordering) → ordering_then a b ≡ Equal → (a ≡ Equal) × (b ≡ Equal)
both-equal Less b e = absurd (cc)
both-equal Equal b e = (refl, e)
both-equal Greater b e = absurd (cc)

table_order-exact : (x y : ℕ × ℕ) → table_order x y ≡ Equal → x ≡ y
table_order-exact x y e =
    let both = both-equal (nat_cmp x.0 y.0) (nat_cmp x.1 y.1) e in
    let first : x.0 ≡ y.0 = same-number x.0 y.0 both.0 in
    let second : x.1 ≡ y.1 = same-number x.1 y.1 both.1 in
    ap (λ (a : ℕ). (a, x.1)) first ∙ ap (λ (b : ℕ). (y.0, b)) second

-- what `==` says of tables
one-and-one : (a b : Bool) → a ≡ true → b ≡ true → a && b ≡ true
one-and-one a b e f = ap (λ (z : Bool). z && b) e ∙ f

pub same-tables : (xs ys : List (ℕ × ℕ)) → xs ≡ ys → pointwise (λ x y. nat_eq x.0 y.0 && nat_eq x.1 y.1) xs ys ≡ true
same-tables xs ys e = subst (λ (zs : List (ℕ × ℕ)). pointwise (λ x y. nat_eq x.0 y.0 && nat_eq x.1 y.1) xs zs ≡ true) e (alone xs)
  where
    alone : (zs : List (ℕ × ℕ)) → pointwise (λ x y. nat_eq x.0 y.0 && nat_eq x.1 y.1) zs zs ≡ true
    alone [] = refl
    alone (z ∷ zs) =
        one-and-one (nat_eq z.0 z.0 && nat_eq z.1 z.1) (pointwise (λ x y. nat_eq x.0 y.0 && nat_eq x.1 y.1) zs zs)
        (one-and-one (nat_eq z.0 z.0) (nat_eq z.1 z.1) (grind (arith, nat_tests)) (grind (arith, nat_tests))) (alone zs)

entry-there : (entries : List Entry) (e : ℕ) (x : Entry) → slice_get entries e ≡ Some x → (e < length entries) × (entry_of entries e ≡ x)
entry-there [] e x h = absurd (none-some x h)
entry-there (y ∷ entries) zero x h = (omega arith, same_Some y x h)
entry-there (y ∷ entries) (suc e) x h = let k = entry-there entries e x h in (omega (arith, k.0), k.1)

there-entry : (entries : List Entry) (e : ℕ) → e < length entries → slice_get entries e ≡ Some (entry_of entries e)
there-entry [] e less = absurd (omega (arith, less))
there-entry (y ∷ entries) zero less = refl
there-entry (y ∷ entries) (suc e) less = there-entry entries e (omega (arith, less))

-- shapes that are alike have the same entries, in some order
alike-entries : (s t : Shape) → Alike s t → IsPermutation s.entries t.entries
alike-entries s t a =
    permuted s.entries t.entries a.forth a.paired.as_many
    (λ d e less within same. sym (a.paired.back_forth d less) ∙ ap a.back same ∙ a.paired.back_forth e within)
    (λ e x at.
    let k = entry-there s.entries e x at in
    there-entry t.entries (a.forth e) (a.paired.forth_in e k.0) ∙ ap Some (a.paired.tables e k.0 ∙ k.1))

pub alike-tables : (s t : Shape) (xs ys : List (ℕ × ℕ)) → AreTables s.entries xs → AreTables t.entries ys → Alike s t → xs ≡ ys
alike-tables s t xs ys l r a =
    one_order table_order table_order-total table_order-exact xs ys l.ascend r.ascend
    (IsPermutation-trans xs (map table_of s.entries) ys (IsPermutation-sym (map table_of s.entries) xs l.are)
    (IsPermutation-trans (map table_of s.entries) (map table_of t.entries) ys (IsPermutation-map table_of s.entries t.entries (alike-entries s t a)) r.are))

-- ---- lists of blocks
pub are-shapes : (blocks : List Block) → All IsOfWholeShape blocks → AreShapes (shapes_of blocks)
are-shapes [] all = tt
are-shapes (block ∷ blocks) all = ((All-head IsOfWholeShape block blocks all).whole.shape, are-shapes blocks (All-tail IsOfWholeShape block blocks all))

taken-long : (t : Shape) (ts rest : List Shape) → TakenOut t ts rest → length ts ≡ suc (length rest)
taken-long t ts rest the_first = refl
taken-long t ts rest (a_later {ts = more} {rest = left} out) = ap suc (taken-long t more left out)

pub alike-long : (ss ts : List Shape) → AllAlike ss ts → length ss ≡ length ts
alike-long ss ts no_blocks = refl
alike-long ss ts (one_block {t = t} {ss = more} {rest = rest} out a h) = ap suc (alike-long more rest h) ∙ sym (taken-long t ts rest out)

taken-at : (blocks : List Block) (i : ℕ) (block : Block) → i < length blocks → get_or blocks i block ≡ block → TakenOut block.shape (shapes_of blocks) (shapes_of (remove blocks i))
taken-at [] i block less is = absurd (omega (arith, less))
taken-at (first ∷ blocks) zero block less is = subst (λ (b : Block). TakenOut b.shape (shapes_of (first ∷ blocks)) (shapes_of blocks)) is the_first
taken-at (first ∷ blocks) (suc i) block less is = a_later (taken-at blocks i block (omega (arith, less)) is)

-- a shape that is taken out is a block's
record IsTaken (t : Shape) (blocks : List Block) : Type 0 where
  block : Block
  is_in : Contains blocks block
  is : t ≡ block.shape

taken-block : (t : Shape) (ts rest : List Shape) → TakenOut t ts rest → (blocks : List Block) → ts ≡ shapes_of blocks → IsTaken t blocks
taken-block t ts rest the_first [] e = absurd (cc)
taken-block t ts rest the_first (block ∷ blocks) e = record { block = block; is_in = (0, omega arith, refl); is = cc }
taken-block t ts rest (a_later out) [] e = absurd (cc)
taken-block t ts rest (a_later {ts = more} {rest = left} out) (block ∷ blocks) e =
    let k = taken-block t more left out blocks cc in
    record { block = k.block; is_in = (suc k.is_in.0, let low = k.is_in.1 in omega (arith, low), k.is_in.2); is = k.is }

pub no-partner : (s : Shape) (ss : List Shape) (blocks : List Block) → ((block : Block) → Contains blocks block → Alike s block.shape → ⊥) → (all : List Shape) → all ≡ s ∷ ss
    → (ts : List Shape) → ts ≡ shapes_of blocks → AllAlike all ts → ⊥
no-partner s ss blocks apart all is ts are no_blocks = absurd (cc)
no-partner s ss blocks apart all is ts are (one_block {s = s'} {t = t} {rest = rest} out a h) =
    let k = taken-block t ts rest out blocks are in
    let same : s' ≡ s = cc in
    apart k.block k.is_in (subst (λ (x : Shape). Alike x k.block.shape) same (subst (Alike s') k.is a))

-- where all can be paired, so can those that are left over
pub others-alike : (lefts blocks : List Block) (left block : Block) (place : ℕ) → IsOfWholeShape left → All IsOfWholeShape lefts → All IsOfWholeShape blocks → place < length blocks
    → get_or blocks place block ≡ block → Alike left.shape block.shape → AllAlike (shapes_of (left ∷ lefts)) (shapes_of blocks) → AllAlike (shapes_of lefts) (shapes_of (remove blocks place))
others-alike lefts blocks left block place is_left are_lefts are_blocks less is a h =
    any-alike left.shape block.shape (shapes_of lefts) (shapes_of blocks) (shapes_of (remove blocks place)) is_left.whole.shape (are-shapes lefts are_lefts) (are-shapes blocks are_blocks)
    (taken-at blocks place block less is) a h

-- the next of the blocks
pub first-left : (lefts : List Block) (i : ℕ) (left : Block) → i < length lefts → left ≡ get_or lefts i left → drop i lefts ≡ left ∷ drop (i + 1) lefts
first-left lefts i left less is =
    let next : suc i ≡ i + 1 = omega arith in
    drop-cons lefts i left less ∙ ap (λ (b : Block). b ∷ drop (suc i) lefts) (sym is) ∙ ap (λ (k : ℕ). left ∷ drop k lefts) next

-- none of the blocks up to the next place is alike
pub apart-more : (s : Shape) (blocks : List Block) (place : ℕ) (next : Block) → place < length blocks → get_or blocks place next ≡ next → (Alike s next.shape → ⊥)
    → ((k : ℕ) (block : Block) → k < place → get_or blocks k block ≡ block → Alike s block.shape → ⊥)
    → (k : ℕ) (block : Block) → k < place + 1 → get_or blocks k block ≡ block → Alike s block.shape → ⊥
apart-more s blocks place next within at apart before k block less is a = elim (last-or-later place k (omega (arith, less))) [
  | inr low ↦ before k block low is a
  | inl same ↦
      let one : block ≡ next = sym is ∙ ap (λ i. get_or blocks i block) same ∙ get_or_default blocks place block next within ∙ at in
      apart (subst (λ (b : Block). Alike s b.shape) one a)
]

-- ---- blocks that are left over
pub all-here : {X : Type 0} (xs : List X) → All (Contains xs) xs
all-here xs = λ k d less. Contains-get_or xs k d less

pub all-left_over : {X : Type 0} (P : X → Type 0) (xs : List X) (i : ℕ) → All P xs → All P (remove xs i)
all-left_over P xs i all = All-append P (take i xs) (drop (suc i) xs) (All-take P i xs all) (All-drop P (suc i) xs all)

pub all-among : {X : Type 0} (P : X → Type 0) (xs rest : List X) → All P xs → All (Contains xs) rest → All P rest
all-among P xs rest all among = All-weaker (Contains xs) P (λ x i. All-contains P xs x all i) rest among

map-removed : {X Y : Type 0} (f : X → Y) (xs : List X) (i : ℕ) → map f (remove xs i) ≡ remove (map f xs) i
map-removed f [] zero = refl
map-removed f [] (suc i) = refl
map-removed f (x ∷ xs) zero = refl
map-removed f (x ∷ xs) (suc i) = ap (λ ys. f x ∷ ys) (map-removed f xs i)

pub alike-by : (s t : Shape) (list : List ℕ) → IsPairing s t list → Alike s t
alike-by s t list h = record { forth = λ e. entry_at list e; back = λ x. place_of x 0 list; paired = h.paired }

-- the next block is paired with the one at a place of those that are left over
module _ (lefts rights rest : List Block) (found more : List Pair) (i place : ℕ) (left right : Block) (pair : Pair) (less : i < length lefts) (left_is : left ≡ get_or lefts i left) (within : place < length rest)
    (right_is : right ≡ get_or rest place right) (pushed : more ≡ found ++ pair ∷ []) where
  pub next-lefts : pair.left.now ≡ left.term.now → lefts_of found ≡ terms_of (take i lefts) → lefts_of more ≡ terms_of (take (i + 1) lefts)
  next-lefts is h =
      ap lefts_of pushed ∙ map-append (λ (p : Pair). p.left.now) found (pair ∷ []) ∙ ap (λ (us : List U). us ++ pair.left.now ∷ []) h ∙ ap (λ (u : U). terms_of (take i lefts) ++ u ∷ []) is
      ∙ sym (map-append (λ (b : Block). b.term.now) (take i lefts) (left ∷ []))
      ∙ ap terms_of (ap (λ (b : Block). take i lefts ++ b ∷ []) left_is ∙ sym (take_more lefts i left less))

  pub next-rights : pair.right.now ≡ right.term.now → IsPermutation (terms_of rights) (rights_of found ++ terms_of rest)
      → IsPermutation (terms_of rights) (rights_of more ++ terms_of (remove rest place))
  next-rights is h =
      let there : right.term.now ≡ get_or (terms_of rest) place right.term.now = ap (λ (b : Block). b.term.now) right_is ∙ sym (get_or-map (λ (b : Block). b.term.now) rest place right right.term.now within) in
      let step = IsPermutation-more (terms_of rights) (rights_of found) (terms_of rest) place right.term.now (omega (arith, within, length-map rest (λ (b : Block). b.term.now))) there h in
      let done : rights_of found ++ right.term.now ∷ [] ≡ rights_of more =
      ap (λ (u : U). rights_of found ++ u ∷ []) (sym is) ∙ sym (map-append (λ (p : Pair). p.right.now) found (pair ∷ [])) ∙ ap rights_of (sym pushed) in
      subst (λ (us : List U). IsPermutation (terms_of rights) (us ++ terms_of (remove rest place))) done
      (subst (λ (us : List U). IsPermutation (terms_of rights) ((rights_of found ++ right.term.now ∷ []) ++ us)) (sym (map-removed (λ (b : Block). b.term.now) rest place)) step)

  pub next-alike : All IsOfWholeShape lefts → All IsOfWholeShape rest → IsOfWholeShape left → Alike left.shape right.shape → AllAlike (shapes_of (drop i lefts)) (shapes_of rest)
      → AllAlike (shapes_of (drop (i + 1) lefts)) (shapes_of (remove rest place))
  next-alike are_lefts are_rest is_left a h =
      others-alike (drop (i + 1) lefts) rest left right place is_left (All-drop IsOfWholeShape (i + 1) lefts are_lefts) are_rest within (sym right_is) a
      (subst (λ (bs : List Block). AllAlike (shapes_of bs) (shapes_of rest)) (first-left lefts i left less left_is) h)

  -- and where those that are left over then can be paired, so can all
  pub before-alike : Alike left.shape right.shape → AllAlike (shapes_of (drop (i + 1) lefts)) (shapes_of (remove rest place)) → AllAlike (shapes_of (drop i lefts)) (shapes_of rest)
  before-alike a h =
      subst (λ (bs : List Block). AllAlike (shapes_of bs) (shapes_of rest)) (sym (first-left lefts i left less left_is))
      (one_block {s = left.shape} {t = right.shape} (taken-at rest place right within (sym right_is)) a h)
