-- Which turns bring the sums of paired blocks into one order, and how the code finds them.
use Rattle.std.proofs.Common.{◌≡◌, ℕ, zero, suc, ◌+◌, ◌<◌, ◌≤◌, inl, inr, false, List, [], ◌∷◌, ◌++◌, append_assoc, length, map, set, take, drop, refl, ap, sym, ◌∙◌, subst, arith}
use Rattle.std.proofs.Math.ListN.{length-set}
use Rattle.std.specs.Prelude.{◌⊎◌, get_or, slice_get, reverse, Some}
use Rattle.std.specs.List.{remove}
use Rattle.std.proofs.lemmas.Bool.{cases_Bool, cases_eq}
use Rattle.std.proofs.lemmas.Grind.{get_or-set_at}
use Rattle.std.proofs.lemmas.List.{get_or-map, get_or-set_other, append-nil, drop_all, length-map, length-reverse, map-append, take_all, take_more}
use denote.Ref.{Bor}
use Rattle.shapes.specs.Shapes.{Point, column, literal, Entry, Shape, IsPoint}
use Rattle.shapes.specs.Tests.{entry_at, place_of}
use Rattle.shapes.specs.Tried.{IsPairing}
use Rattle.term_shapes.specs.Factors.{sum_count, under_sums}
use Rattle.term_shapes.specs.TermShape.{HasShape}
use Rattle.shape_entails.specs.Values.{is_atom, row_of_atom, table_of, atoms, rows, point_value}
use Rattle.shape_entails.specs.ProductOf.{IsProductOf}
use Rattle.shape_entails.specs.Places.{ArePlaces}
use Rattle.shape_entails.specs.Turning.{AreFound, AreSources}
use Rattle.shape_entails.proofs.Leaves.{atom-is, atoms-other, rows-more}
use Rattle.shape_entails.proofs.Meeting.{begin}
use Rattle.shape_entails.proofs.Positions.{sources-in-order}
use Rattle.shape_entails.proofs.Putting.{around-count, around-under, without-sums}
use Rattle.shape_entails.proofs.Shaped.{many-atoms, places-are, product-of, row-long, same-place}
use Rattle.shape_entails.proofs.Turned.{as-many-sums, last-or-later}
use Rattle.u_terms.specs.Binding.{sums}
use Rattle.u_terms.specs.Syntax.{U, Zero, One, Add, Mul, Squash, Not, Sum, Rel, Eq, Pred, Val, constructors}
use Rattle.u_terms.specs.declared.term.Val.TheVariants as v
use Rattle.u_rules.specs.Terms.{R, S, terms}
use Rattle.u_simple.specs.Sums.{HasAllSums, HasSums}
use Rattle.u_bag.specs.Order.{ArePairedRows, AreSent, AreTurnsAmong, AreWanted, IsRowSent, IsTurn, RowSends, Sends, lent_rows, rows_among}
use Rattle.u_bag.specs.Shapes.{HasTooManySums}

-- ---- the sums around a term
pub summed-there : (u : U) (n : ℕ) → sum_count u ≡ suc n → (f : U) × (u ≡ S f)
unfolding sum_count constructors
summed-there Zero n h = absurd (omega (arith, h))
summed-there One n h = absurd (omega (arith, h))
summed-there (Add a b) n h = absurd (omega (arith, h))
summed-there (Mul a b) n h = absurd (omega (arith, h))
summed-there (Squash a) n h = absurd (omega (arith, h))
summed-there (Not a) n h = absurd (omega (arith, h))
summed-there (Sum a) n h = (a, refl)
summed-there (Rel table shape row) n h = absurd (omega (arith, h))
summed-there (Eq a b) n h = absurd (omega (arith, h))
summed-there (Pred symbol shape row) n h = absurd (omega (arith, h))

not-summed : (u : U) → ((f : U) → u ≡ S f → ⊥) → (n : ℕ) → sum_count u ≡ n → sum_count u ≡ 0
not-summed u other zero e = e
not-summed u other (suc n) e = let there = summed-there u n e in absurd (other there.0 there.1)

pub all-sums : (count : ℕ) (u body : U) → HasAllSums count u → u ≡ sums count body → (count ≡ sum_count u) × (body ≡ under_sums u)
all-sums count u body h is =
    let none : sum_count h.inside ≡ 0 = not-summed h.inside h.no_sum (sum_count h.inside) refl in
    let many : sum_count u ≡ count + sum_count h.inside = ap (λ (x : U). sum_count x) h.is ∙ around-count count h.inside in
    let around : sum_count u ≡ count + sum_count body = ap (λ (x : U). sum_count x) is ∙ around-count count body in
    (omega (arith, none, many), sym (ap (λ (x : U). under_sums x) is ∙ around-under count body ∙ without-sums body (omega (arith, none, many, around))))

pub too-many : (u : U) → HasSums (2048 + 1) u → HasTooManySums u
too-many u h = let many : sum_count u ≡ 2049 + sum_count h.inside = ap (λ (x : U). sum_count x) h.is ∙ around-count 2049 h.inside in omega (arith, many)

-- ---- the rows of factors
not-atom : (x : U) → ((table : ℕ) (values : List Val) → x ≡ R table values → ⊥) → is_atom x ≡ false
not-atom x other = elim (cases_Bool (is_atom x)) [ inl is ↦ absurd (other (table_of x) (row_of_atom x) (atom-is x is)) | inr isnt ↦ isnt ]

module _ (refs : List (Bor U)) (i : ℕ) (r : Bor U) (less : i < length refs) (is : r ≡ get_or refs i r) where
  terms-next : terms (take (i + 1) refs) ≡ terms (take i refs) ++ r.now ∷ []
  terms-next = ap terms (take_more refs i r less ∙ ap (λ (x : Bor U). take i refs ++ x ∷ []) (sym is)) ∙ map-append (λ x. x.now) (take i refs) (r ∷ [])

  pub atom-next : (table : ℕ) (values : List Val) (rows more : List (Bor (List Val))) (row : Bor (List Val)) → r.now ≡ R table values → more ≡ rows ++ row ∷ [] → row.now ≡ values
      → lent_rows rows ≡ rows_among (terms (take i refs)) → lent_rows more ≡ rows_among (terms (take (i + 1) refs))
  atom-next table values rows more row at pushed here so_far =
      ap lent_rows pushed ∙ map-append (λ x. x.now) rows (row ∷ []) ∙ ap (λ (l : List (List Val)). l ++ row.now ∷ []) so_far
      ∙ ap (λ (x : List Val). rows_among (terms (take i refs)) ++ x ∷ []) here
      ∙ sym (rows-more (terms (take i refs)) table values) ∙ ap (λ (x : U). rows_among (terms (take i refs) ++ x ∷ [])) (sym at) ∙ ap rows_among (sym terms-next)

  pub other-next : (rows : List (Bor (List Val))) → ((table : ℕ) (values : List Val) → r.now ≡ R table values → ⊥)
      → lent_rows rows ≡ rows_among (terms (take i refs)) → lent_rows rows ≡ rows_among (terms (take (i + 1) refs))
  other-next rows other so_far =
      so_far ∙ ap (map row_of_atom) (sym (atoms-other (terms (take i refs)) r.now (not-atom r.now other))) ∙ ap rows_among (sym terms-next)

-- ---- paired blocks
entry-in : Point → ℕ
entry-in (column e c) = e
entry-in (literal number) = 0

column-in : Point → ℕ
column-in (column e c) = c
column-in (literal number) = 0

rows-many : (s : Shape) (product : U) → IsProductOf s product → length (rows product) ≡ length s.entries
rows-many s product p = length-map (atoms product) row_of_atom ∙ many-atoms s product p

found-long : (waiting wanted turns : List ℕ) → AreFound waiting wanted turns → length turns ≡ length wanted
found-long waiting [] [] h = refl
found-long waiting [] (turn ∷ turns) h = absurd h
found-long waiting (place ∷ wanted) [] h = absurd h
found-long waiting (place ∷ wanted) (turn ∷ turns) h = ap suc (found-long (remove waiting turn) wanted turns h.1)

module _ (outs : ℕ) (s t : Shape) (list : List ℕ) (left right : U) (l : HasShape outs left s) (r : HasShape outs right t) (h : IsPairing s t list) where
  in_left : ArePlaces s (sum_count left) (under_sums left)
  in_left = places-are outs left s l

  in_right : ArePlaces t (sum_count right) (under_sums right)
  in_right = places-are outs right t r

  of_left : IsProductOf s (under_sums left)
  of_left = product-of outs left s l

  of_right : IsProductOf t (under_sums right)
  of_right = product-of outs right t r

  pub as-many : sum_count left ≡ sum_count right
  as-many = as-many-sums s t (entry_at list) (λ x. place_of x 0 list) h.paired (sum_count left) (sum_count right) (under_sums left) (under_sums right) in_left in_right

  point : (e c : ℕ) → e < length list → c < length (get_or (rows (under_sums left)) e []) → IsPoint s.entries (column e c)
  point e c less within =
      let low : e < length s.entries = omega (arith, less, h.long) in
      (low, subst (λ (n : ℕ). c < n) (row-long s (under_sums left) of_left e low) within)

  image : (e c : ℕ) → IsPoint s.entries (column e c) → IsPoint t.entries (column (entry_at list e) c)
  image e c i = (h.paired.forth_in e i.0, subst (λ (n : Entry). c < n.columns) (sym (h.paired.tables e i.0)) i.1)

  long-rows : (e : ℕ) → e < length list → length (get_or (rows (under_sums left)) e []) ≡ length (get_or (rows (under_sums right)) (entry_at list e) [])
  long-rows e less =
      let low : e < length s.entries = omega (arith, less, h.long) in
      row-long s (under_sums left) of_left e low ∙ ap (λ (n : Entry). n.columns) (sym (h.paired.tables e low))
      ∙ sym (row-long t (under_sums right) of_right (entry_at list e) (h.paired.forth_in e low))

  place-below : (from to : ℕ) → Sends (rows (under_sums left)) (rows (under_sums right)) list (length list) from to → to < sum_count right
  place-below from to w =
      let i = point w.entry w.row.place w.is_first w.row.is_first in
      let p = in_right.places (entry_at list w.entry) w.row.place (image w.entry w.row.place i) in
      let number : to ≡ p.place = same-place to p.place (sym w.row.at_to ∙ p.is) in
      omega (arith, number, p.below)

  one-place : (from another to : ℕ) → Sends (rows (under_sums left)) (rows (under_sums right)) list (length list) from to
      → Sends (rows (under_sums left)) (rows (under_sums right)) list (length list) another to → from ≡ another
  unfolding entry-in column-in
  one-place from another to w x =
      let i = point w.entry w.row.place w.is_first w.row.is_first in
      let j = point x.entry x.row.place x.is_first x.row.is_first in
      let same : column (entry_at list w.entry) w.row.place ≡ column (entry_at list x.entry) x.row.place =
      in_right.apart (entry_at list w.entry) w.row.place (entry_at list x.entry) x.row.place (image w.entry w.row.place i) (image x.entry x.row.place j) (w.row.at_to ∙ sym x.row.at_to) in
      let entries : w.entry ≡ x.entry = sym (h.paired.back_forth w.entry i.0) ∙ ap (λ p. place_of (entry-in p) 0 list) same ∙ h.paired.back_forth x.entry j.0 in
      let places : w.row.place ≡ x.row.place = ap column-in same in
      same-place from another (sym w.row.at_from ∙ ap (λ e. point_value (under_sums left) (column e w.row.place)) entries ∙ ap (λ c. point_value (under_sums left) (column x.entry c)) places ∙ x.row.at_from)

  pub paired-rows : ArePairedRows (rows (under_sums left)) (rows (under_sums right)) list (sum_count right)
  paired-rows = record {
    as_many = h.long ∙ sym (rows-many s (under_sums left) of_left);
    inside = λ e less.
        let low : entry_at list e < length t.entries = h.paired.forth_in e (omega (arith, less, h.long)) in
        omega (arith, low, rows-many t (under_sums right) of_right);
    as_long = long-rows;
    below = place-below;
    one = one-place;
  }

  sources-of : (sources : List ℕ) → AreSent (rows (under_sums left)) (rows (under_sums right)) list (length list) (sum_count right) sources → AreSources s (entry_at list) sources left right
  sources-of sources sent = record {
    long = sent.long;
    each = λ e c i j p at_left at_right.
        let low : e < length list = omega (arith, p.0, h.long) in
        let within : c < length (get_or (rows (under_sums left)) e []) = subst (λ (n : ℕ). c < n) (sym (row-long s (under_sums left) of_left e p.0)) p.1 in
        sent.sent i j (record { entry = e; is_first = low; row = record { place = c; is_first = within; at_from = at_left; at_to = at_right } });
  }

  -- each place is wanted once
  pub all-wanted : (sources : List ℕ) → AreSent (rows (under_sums left)) (rows (under_sums right)) list (length list) (sum_count right) sources → sum_count left ≤ 2048
      → AreWanted (sum_count left) (reverse sources)
  all-wanted sources sent few = record {
    few = few;
    order = sources-in-order s t (entry_at list) (λ x. place_of x 0 list) h.paired left right in_left in_right sources (sources-of sources sent);
  }

  pub turn-among : (sources turns : List ℕ) → AreSent (rows (under_sums left)) (rows (under_sums right)) list (length list) (sum_count right) sources → sum_count left ≤ 2048
      → AreTurnsAmong (sum_count left) (reverse sources) turns → IsTurn turns left right
  turn-among sources turns sent few among =
      let long : length turns ≡ sum_count left = found-long among.places (reverse sources) turns among.found ∙ length-reverse sources ∙ sent.long ∙ sym as-many in
      record {
        few = omega (arith, long);
        turn = record {
          s = s;
          t = t;
          forth = entry_at list;
          back = λ x. place_of x 0 list;
          turning = begin outs left right s t (entry_at list) (λ x. place_of x 0 list) l r h.paired sources (sources-of sources sent) among.places turns among.all long among.found;
        };
      }

-- ---- one row that is sent
module _ (row other : List Val) where
  more-columns : (many more from to : ℕ) → many ≤ more → RowSends row other many from to → RowSends row other more from to
  more-columns many more from to less w = record { place = w.place; is_first = omega (arith, w.is_first); at_from = w.at_from; at_to = w.at_to }

  pub none-sent : (sources : List ℕ) → IsRowSent row other 0 sources sources
  none-sent sources = record { long = refl; sent = λ from to w. absurd (let low = w.is_first in omega (arith, low)); kept = λ to. inl refl }

  -- one of the first columns, or the last one
  split-column : (many from to : ℕ) → RowSends row other (many + 1) from to
      → RowSends row other many from to ⊎ ((get_or row many (v.Lit 0) ≡ v.Bound from) × (get_or other many (v.Lit 0) ≡ v.Bound to))
  split-column many from to w = elim (last-or-later many w.place (let low = w.is_first in omega (arith, low))) [
    | inl is ↦ inr (subst (λ (k : ℕ). get_or row k (v.Lit 0) ≡ v.Bound from) is w.at_from, subst (λ (k : ℕ). get_or other k (v.Lit 0) ≡ v.Bound to) is w.at_to)
    | inr less ↦ inl (record { place = w.place; is_first = less; at_from = w.at_from; at_to = w.at_to })
  ]

  -- the next column has no places
  pub column-left : (many : ℕ) (old new : List ℕ) → ((from to : ℕ) → get_or row many (v.Lit 0) ≡ v.Bound from → get_or other many (v.Lit 0) ≡ v.Bound to → ⊥)
      → IsRowSent row other many old new → IsRowSent row other (many + 1) old new
  column-left many old new none h = record {
    long = h.long;
    sent = λ from to w. elim (split-column many from to w) [ inl before ↦ h.sent from to before | inr last ↦ absurd (none from to last.0 last.1) ];
    kept = λ to. elim (h.kept to) [ inl same ↦ inl same | inr w ↦ inr (more-columns many (many + 1) (get_or new to 0) to (omega arith) w) ];
  }

  -- the next column has two
  pub column-sent : (many from to : ℕ) (old new : List ℕ) → ((one another at : ℕ) → RowSends row other (length row) one at → RowSends row other (length row) another at → one ≡ another)
      → many < length row → get_or row many (v.Lit 0) ≡ v.Bound from → get_or other many (v.Lit 0) ≡ v.Bound to → to < length new
      → IsRowSent row other many old new → IsRowSent row other (many + 1) old (set new to from)
  column-sent many from to old new one less at_from at_to within h = record {
    long = length-set new to from ∙ h.long;
    sent = λ x y w. elim (cases_eq y to) [
      | inl is ↦
          let same : x ≡ from = one x from y (more-columns (many + 1) (length row) x y (omega (arith, less)) w)
          (record { place = many; is_first = less; at_from = at_from; at_to = at_to ∙ ap v.Bound (sym is) }) in
          get_or-set_at new to y from 0 is within ∙ sym same
      | inr apart ↦ elim (split-column many x y w) [
        | inl before ↦ get_or-set_other new to y from 0 apart ∙ h.sent x y before
        | inr last ↦ absurd (apart (same-place y to (sym last.1 ∙ at_to)))
      ]
    ];
    kept = λ y. elim (cases_eq y to) [
      | inl is ↦ inr (record { place = many; is_first = omega arith; at_from = at_from ∙ ap v.Bound (sym (get_or-set_at new to y from 0 is within)); at_to = at_to ∙ ap v.Bound (sym is) })
      | inr apart ↦ elim (h.kept y) [
        | inl same ↦ inl (get_or-set_other new to y from 0 apart ∙ same)
        | inr w ↦ inr (subst (λ x. RowSends row other (many + 1) x y) (sym (get_or-set_other new to y from 0 apart)) (more-columns many (many + 1) (get_or new y 0) y (omega arith) w))
      ]
    ];
  }

-- ---- all rows
module _ (lefts rights : List (List Val)) (list : List ℕ) where
  pub sends-of : (e many from to : ℕ) → e < many → RowSends (get_or lefts e []) (get_or rights (entry_at list e) []) (length (get_or lefts e [])) from to → Sends lefts rights list many from to
  sends-of e many from to less w = record { entry = e; is_first = less; row = w }

  pub no-rows : (places : ℕ) (sources : List ℕ) → length sources ≡ places → AreSent lefts rights list 0 places sources
  no-rows places sources long = record { long = long; sent = λ from to w. absurd (let low = w.is_first in omega (arith, low)) }

  pub next-row : (e places : ℕ) (old new : List ℕ) → ArePairedRows lefts rights list places → e < length list
      → IsRowSent (get_or lefts e []) (get_or rights (entry_at list e) []) (length (get_or lefts e [])) old new → AreSent lefts rights list e places old → AreSent lefts rights list (e + 1) places new
  next-row e places old new p less row h = record {
    long = row.long ∙ h.long;
    sent = λ from to w. elim (last-or-later e w.entry (let low = w.is_first in omega (arith, low))) [
      | inl is ↦ row.sent from to (subst (λ (k : ℕ). RowSends (get_or lefts k []) (get_or rights (entry_at list k) []) (length (get_or lefts k [])) from to) is w.row)
      | inr before ↦ elim (row.kept to) [
        | inl same ↦ same ∙ h.sent from to (sends-of w.entry e from to before w.row)
        | inr x ↦ p.one (get_or new to 0) from to (sends-of e (length list) (get_or new to 0) to less x) (sends-of w.entry (length list) from to (omega (arith, before, less)) w.row)
      ]
    ];
  }

-- the entry of a list
entry-at : (list : List ℕ) (e : ℕ) → entry_at list e ≡ get_or list e 0
entry-at [] e = refl
entry-at (x ∷ list) zero = refl
entry-at (x ∷ list) (suc e) = entry-at list e

-- the row that is lent
lent-row : (rows : List (Bor (List Val))) (e : ℕ) (row : Bor (List Val)) → e < length rows → get_or rows e row ≡ row → get_or (lent_rows rows) e [] ≡ row.now
lent-row rows e row less is = get_or-map (λ r. r.now) rows e row [] less ∙ ap (λ (r : Bor (List Val)). r.now) is

module _ (lefts rights : List (Bor (List Val))) (list : List ℕ) (places e : ℕ) (row other : Bor (List Val)) (p : ArePairedRows (lent_rows lefts) (lent_rows rights) list places)
    (less : e < length list) (row_is : get_or lefts e row ≡ row) where
  row-here : get_or (lent_rows lefts) e [] ≡ row.now
  row-here = lent-row lefts e row (omega (arith, less, p.as_many, length-map lefts (λ r. r.now))) row_is

  pub entry-below : get_or list e 0 < length rights
  entry-below = let low = p.inside e less in omega (arith, low, entry-at list e, length-map rights (λ r. r.now))

  module _ (other_is : get_or rights (get_or list e 0) other ≡ other) where
    other-here : get_or (lent_rows rights) (entry_at list e) [] ≡ other.now
    other-here = ap (λ k. get_or (lent_rows rights) k []) (entry-at list e) ∙ lent-row rights (get_or list e 0) other entry-below other_is

    sends-here : (from to : ℕ) → RowSends row.now other.now (length row.now) from to → Sends (lent_rows lefts) (lent_rows rights) list (length list) from to
    sends-here from to w =
        sends-of (lent_rows lefts) (lent_rows rights) list e (length list) from to less
        (subst (λ (r : List Val). RowSends r (get_or (lent_rows rights) (entry_at list e) []) (length r) from to) (sym row-here)
        (subst (λ (o : List Val). RowSends row.now o (length row.now) from to) (sym other-here) w))

    pub rows-long : length row.now ≡ length other.now
    rows-long = ap length (sym row-here) ∙ p.as_long e less ∙ ap length other-here

    pub row-below : (from to : ℕ) → RowSends row.now other.now (length row.now) from to → to < places
    row-below from to w = p.below from to (sends-here from to w)

    pub row-one : (from another to : ℕ) → RowSends row.now other.now (length row.now) from to → RowSends row.now other.now (length row.now) another to → from ≡ another
    row-one from another to w x = p.one from another to (sends-here from to w) (sends-here another to x)

    pub row-sent : (old new : List ℕ) → IsRowSent row.now other.now (length row.now) old new → AreSent (lent_rows lefts) (lent_rows rights) list e places old
        → AreSent (lent_rows lefts) (lent_rows rights) list (e + 1) places new
    row-sent old new sent h =
        next-row (lent_rows lefts) (lent_rows rights) list e places old new p less
        (subst (λ (r : List Val). IsRowSent r (get_or (lent_rows rights) (entry_at list e) []) (length r) old new) (sym row-here)
        (subst (λ (o : List Val). IsRowSent row.now o (length row.now) old new) (sym other-here) sent)) h

-- what stands in a list whose slice was written
pub written : (count : ℕ) (old new : List ℕ) → count ≡ length old → length new ≡ length old → take count (new ++ drop (length new) old) ≡ new
written count old new long same =
    ap (λ (l : List ℕ). take count (new ++ l)) (drop_all (length new) old (omega (arith, same))) ∙ ap (take count) (append-nil new) ∙ take_all count new (omega (arith, long, same))

-- ---- turn by turn
pub next-turn : (first whole waiting wanted rest turns : List ℕ) (place before : ℕ) → wanted ≡ place ∷ rest → slice_get waiting before ≡ Some place
    → ((others : List ℕ) → AreFound waiting wanted others → AreFound first whole (turns ++ others))
    → (others : List ℕ) → AreFound (remove waiting before) rest others → AreFound first whole ((turns ++ before ∷ []) ++ others)
next-turn first whole waiting wanted rest turns place before is at goes others h =
    subst (λ (l : List ℕ). AreFound first whole l) (sym (append_assoc turns (before ∷ []) others))
    (goes (before ∷ others) (subst (λ (l : List ℕ). AreFound waiting l (before ∷ others)) (sym is) (at, h)))
