-- Products of shapes that are paired say the same, where the points have the same values.
use Rattle.std.proofs.Common.{◌≡◌, ℕ, zero, suc, ◌<◌, inl, inr, Bool, true, false, List, [], ◌∷◌, length, map, get_or, Some, refl, ap, sym, ◌∙◌, subst, arith}
use Rattle.std.specs.Prelude.{slice_get, IsPermutation}
use Rattle.std.proofs.lemmas.List.{ext_get_or}
use Rattle.std.proofs.lemmas.Option.{same_Some, none-some, slice_get_within}
use Rattle.u_terms.specs.Syntax.{U, Val, constructors}
use Rattle.u_terms.specs.declared.term.Val.TheVariants as v
use Rattle.u_rules.specs.Terms.{◌≐◌, R, P, neg}
use Rattle.u_equal.specs.Entails as entails
use Rattle.u_equal.specs.Entails.{Entails, EntailsEach}
use Rattle.shapes.specs.Shapes.{Entry, Point, column, literal, Kind, holds, fails, differ, Mark, Shape, entry_of, sides, turned, In, first, later, MarkIn, IsIn, AllIn, IsPoint}
use Rattle.shapes.specs.Alike as rel
use Rattle.shapes.specs.Alike.{Given, Equal, moved, Pairwise, none, one_more, SamePoints, FoundMark, Pairing}
use Rattle.shape_entails.specs.Values.{IsFactor, is_atom, atoms, rows, point_value, mark_term, mark_of}
use Rattle.shape_entails.specs.ProductOf.{IsSaid, atom, equality, output, turned_output, mark, atom_of, IsProductOf}
use Rattle.shape_entails.specs.Matched as matched
use Rattle.shape_entails.specs.Matched.{SameValues, Repeats, HasMark, EntailsFactor, Says, SayTheSame}
use Rattle.shape_entails.proofs.Leaves.{atom-yes}
use Rattle.shape_entails.proofs.Shaped.{many-atoms, atom-there, row-long}
use Rattle.shape_entails.proofs.Bijections.{permuted}

-- ---- what a product entails
factor-entailed : (product : U) (a b : Val) → IsFactor (a ≐ b) product → Entails product a b
factor-entailed product a b i = entails.given i.place a b i.here

pub equal-entailed : (s : Shape) (product : U) → IsProductOf s product → (p q : Point) → Equal s p q → Entails product (point_value product p) (point_value product q)
equal-entailed s product h p q (rel.itself a) = entails.itself (point_value product a)
equal-entailed s product h p q (rel.given a b g) = factor-entailed product (point_value product a) (point_value product b) (h.equalities a b g)
equal-entailed s product h p q (rel.other_way a b g) = entails.turned (point_value product a) (point_value product b) (equal-entailed s product h a b g)
equal-entailed s product h p q (rel.through a b c g k) =
    entails.through (point_value product a) (point_value product b) (point_value product c) (equal-entailed s product h a b g) (equal-entailed s product h b c k)

pub output-entailed : (s : Shape) (product : U) → IsProductOf s product → (k : ℕ) (p : Point) → slice_get s.outputs k ≡ Some p → Entails product (v.Free k) (point_value product p)
output-entailed s product h k p g = elim (h.outputs k p g) [
  | inl i ↦ factor-entailed product (v.Free k) (point_value product p) i
  | inr i ↦ entails.turned (point_value product p) (v.Free k) (factor-entailed product (point_value product p) (v.Free k) i)
]

pub turned-output : (s : Shape) (product : U) → IsProductOf s product → (k : ℕ) (p : Point) → slice_get s.outputs k ≡ Some p → Entails product (point_value product p) (v.Free k)
turned-output s product h k p g = entails.turned (v.Free k) (point_value product p) (output-entailed s product h k p g)

-- ---- what is entailed of a factor, by its form
of-equality : (product : U) (a b : Val) → Entails product a b → EntailsFactor product (a ≐ b)
unfolding EntailsFactor constructors
of-equality product a b h = h

of-predicate : (product : U) (symbol : ℕ) (values : List Val) → HasMark product (P symbol values) → EntailsFactor product (P symbol values)
unfolding EntailsFactor constructors
of-predicate product symbol values h = h

of-negation : (product part : U) → HasMark product (neg part) → EntailsFactor product (neg part)
unfolding EntailsFactor constructors
of-negation product part h = h

of-mark : (product : U) (kind : Kind) (values : List Val) → HasMark product (mark_term kind values) → EntailsFactor product (mark_term kind values)
of-mark product (holds symbol) values h = of-predicate product symbol values h
of-mark product (fails symbol) values h = of-negation product (P symbol values) h
of-mark product differ values h = of-negation product (get_or values 0 (v.Lit 0) ≐ get_or values 1 (v.Lit 0)) h

true-false : {A : Type 0} (b : Bool) → b ≡ true → b ≡ false → A
true-false b e d = absurd (let f : true ≡ false = sym e ∙ d in grind (arith, f))

-- ---- points that are moved
round : (f g : ℕ → ℕ) (n : ℕ) → ((e : ℕ) → e < n → g (f e) ≡ e) → (p : Point) → IsIn n p → moved g (moved f p) ≡ p
round f g n back (column e c) i = ap (λ d. column d c) (back e i)
round f g n back (literal a) i = refl

moved-in : (f : ℕ → ℕ) (n m : ℕ) → ((e : ℕ) → e < n → f e < m) → (p : Point) → IsIn n p → IsIn m (moved f p)
moved-in f n m within (column e c) i = within e i
moved-in f n m within (literal a) i = tt

in-at : (n : ℕ) (ps : List Point) → AllIn n ps → (k : ℕ) (p : Point) → slice_get ps k ≡ Some p → IsIn n p
in-at n [] all k p h = absurd (none-some p h)
in-at n (q ∷ ps) all zero p h = subst (IsIn n) (same_Some q p h) all.0
in-at n (q ∷ ps) all (suc k) p h = in-at n ps all.1 k p h

-- ---- from a shape to another one: each of its points has the value of the point that it is carried to
module _ (s t : Shape) (b c : U) (of_s : IsProductOf s b) (of_t : IsProductOf t c) (f : ℕ → ℕ) (same : (p : Point) → IsIn (length t.entries) p → point_value b (moved f p) ≡ point_value c p) where
  -- what is equal to a point's image is entailed to be equal to the point
  carried : (p q : Point) → IsIn (length t.entries) p → Equal s (moved f p) q → Entails b (point_value b q) (point_value c p)
  carried p q i e =
      subst (Entails b (point_value b q)) (same p i) (entails.turned (point_value b (moved f p)) (point_value b q) (equal-entailed s b of_s (moved f p) q e))

  carried-each : (ps qs : List Point) → AllIn (length t.entries) ps → Pairwise (λ p q. Equal s (moved f p) q) ps qs → EntailsEach b (map (point_value b) qs) (map (point_value c) ps)
  carried-each ps qs all none = entails.none
  carried-each ps qs all (one_more {p = p} {q = q} {ps = more} {qs = rest} e k) =
      entails.more (point_value b q) (point_value c p) (map (point_value b) rest) (map (point_value c) more) (carried p q all.0 e) (carried-each more rest all.1 k)

  first-of : (xs ys : List Val) → EntailsEach b xs ys → Entails b (get_or xs 0 (v.Lit 0)) (get_or ys 0 (v.Lit 0))
  first-of xs ys entails.none = entails.itself (v.Lit 0)
  first-of xs ys (entails.more x y more rest e k) = e

  second-of : (xs ys : List Val) → EntailsEach b xs ys → Entails b (get_or xs 1 (v.Lit 0)) (get_or ys 1 (v.Lit 0))
  second-of xs ys entails.none = entails.itself (v.Lit 0)
  second-of xs ys (entails.more x y more rest e k) = first-of more rest k

  differ-straight : (xs ys : List Val) → EntailsEach b xs ys → Repeats b (mark_term differ xs) (mark_term differ ys)
  differ-straight xs ys h = matched.differ (get_or xs 0 (v.Lit 0)) (get_or xs 1 (v.Lit 0)) (get_or ys 0 (v.Lit 0)) (get_or ys 1 (v.Lit 0)) (first-of xs ys h) (second-of xs ys h)

  -- the points of a negated equality, in the other order
  differ-turned : (ps qs : List Point) → AllIn (length t.entries) ps → Pairwise (λ p q. Equal s (moved f p) q) (turned ps) qs
      → Repeats b (mark_term differ (map (point_value b) qs)) (mark_term differ (map (point_value c) ps))
  differ-turned [] qs all h = differ-straight (map (point_value b) qs) [] (carried-each [] qs tt h)
  differ-turned (p ∷ []) qs all h = differ-straight (map (point_value b) qs) (point_value c p ∷ []) (carried-each (p ∷ []) qs all h)
  differ-turned (p ∷ (q ∷ [])) qs all h =
      let k = carried-each (q ∷ (p ∷ [])) qs (all.1.0, (all.0, tt)) h in
      matched.turned (get_or (map (point_value b) qs) 0 (v.Lit 0)) (get_or (map (point_value b) qs) 1 (v.Lit 0)) (point_value c p) (point_value c q)
      (second-of (map (point_value b) qs) (point_value c q ∷ (point_value c p ∷ [])) k) (first-of (map (point_value b) qs) (point_value c q ∷ (point_value c p ∷ [])) k)
  differ-turned (p ∷ (q ∷ (o ∷ ps))) qs all h = differ-straight (map (point_value b) qs) (map (point_value c) (p ∷ (q ∷ (o ∷ ps)))) (carried-each (p ∷ (q ∷ (o ∷ ps))) qs all h)

  repeated : (kind : Kind) (ps qs : List Point) → AllIn (length t.entries) ps → SamePoints kind (λ p q. Equal s (moved f p) q) ps qs
      → Repeats b (mark_term kind (map (point_value b) qs)) (mark_term kind (map (point_value c) ps))
  repeated (holds symbol) ps qs all h = matched.holds symbol (map (point_value b) qs) (map (point_value c) ps) (carried-each ps qs all h)
  repeated (fails symbol) ps qs all h = matched.fails symbol (map (point_value b) qs) (map (point_value c) ps) (carried-each ps qs all h)
  repeated differ ps qs all (inl h) = differ-straight (map (point_value b) qs) (map (point_value c) ps) (carried-each ps qs all h)
  repeated differ ps qs all (inr h) = differ-turned ps qs all h

  mark-repeated : (m : Mark) → MarkIn m t.marks → FoundMark t s f m → HasMark b (mark_of c m)
  mark-repeated m i found = record {
    mark = mark_of b found.mark;
    is_factor = of_s.marks found.mark found.is_in;
    repeats = subst (λ (kind : Kind). Repeats b (mark_term kind (map (point_value b) found.mark.points)) (mark_of c m)) (sym found.kind)
        (repeated m.kind m.points found.mark.points (of_t.whole.shape.marks_in m i) found.same);
  }

  output-given : (k : ℕ) (q p : Point) → slice_get s.outputs k ≡ Some p → IsIn (length t.entries) q → Equal s (moved f q) p → Entails b (v.Free k) (point_value c q)
  output-given k q p g i e = entails.through (v.Free k) (point_value b p) (point_value c q) (output-entailed s b of_s k p g) (carried q p i e)

  -- what says so of the images says so of the points
  record IsCarried : Type 0 where
    equalities : (p q : Point) → Given t.equalities p q → Entails b (point_value c p) (point_value c q)
    outputs : (k : ℕ) (q : Point) → slice_get t.outputs k ≡ Some q → Entails b (v.Free k) (point_value c q)
    marks : (m : Mark) → MarkIn m t.marks → FoundMark t s f m

  entailed-so : IsCarried → (x : U) → IsSaid t c x → is_atom x ≡ false → EntailsFactor b x
  entailed-so h x (atom e less) no_atom = true-false (is_atom (atom_of t c e)) (atom-yes (entry_of t.entries e).table (get_or (rows c) e [])) no_atom
  entailed-so h x (equality p q g) no_atom = of-equality b (point_value c p) (point_value c q) (h.equalities p q g)
  entailed-so h x (output k q g) no_atom = of-equality b (v.Free k) (point_value c q) (h.outputs k q g)
  entailed-so h x (turned_output k q g) no_atom = of-equality b (point_value c q) (v.Free k) (entails.turned (v.Free k) (point_value c q) (h.outputs k q g))
  entailed-so h x (mark m i) no_atom = of-mark b m.kind (map (point_value c) m.points) (mark-repeated m i (h.marks m i))

  says : IsCarried → Says b c
  says h x i no_atom = entailed-so h x (of_t.each x i) no_atom

-- ---- outputs, one by one
record PairedAt (Q : Point → Point → Type 0) (ps : List Point) (k : ℕ) (q : Point) : Type 0 where
  point : Point
  at : slice_get ps k ≡ Some point
  is : Q point q

left-at : (Q : Point → Point → Type 0) (ps qs : List Point) → Pairwise Q ps qs → (k : ℕ) (q : Point) → slice_get qs k ≡ Some q → PairedAt Q ps k q
left-at Q ps qs none k q h = absurd (none-some q h)
left-at Q ps qs (one_more {p = p} {q = r} {ps = more} {qs = rest} e l) zero q h = record { point = p; at = refl; is = subst (Q p) (same_Some r q h) e }
left-at Q ps qs (one_more {p = p} {q = r} {ps = more} {qs = rest} e l) (suc k) q h = let j = left-at Q more rest l k q h in record { point = j.point; at = j.at; is = j.is }

right-at : (Q : Point → Point → Type 0) (ps qs : List Point) → Pairwise Q ps qs → (k : ℕ) (p : Point) → slice_get ps k ≡ Some p → PairedAt (λ q o. Q o q) qs k p
right-at Q ps qs none k p h = absurd (none-some p h)
right-at Q ps qs (one_more {p = o} {q = q} {ps = more} {qs = rest} e l) zero p h = record { point = q; at = refl; is = subst (λ x. Q x q) (same_Some o p h) e }
right-at Q ps qs (one_more {p = o} {q = q} {ps = more} {qs = rest} e l) (suc k) p h = let j = right-at Q more rest l k p h in record { point = j.point; at = j.at; is = j.is }

-- ---- points that equalities speak of
given-sides : (es : List (Point × Point)) (p q : Point) → Given es p q → In p (sides es) × In q (sides es)
given-sides es p q (rel.given_first {e = d} {es = more}) = (first, later first)
given-sides es p q (rel.given_later {e = d} {es = more} {p = a} {q = b} g) = let k = given-sides more a b g in (later (later k.0), later (later k.1))

point-in : (entries : List Entry) (p : Point) → IsPoint entries p → IsIn (length entries) p
point-in entries (column e c) h = h.0
point-in entries (literal a) h = tt

given-in : (s : Shape) (product : U) → IsProductOf s product → (p q : Point) → Given s.equalities p q → IsIn (length s.entries) p × IsIn (length s.entries) q
given-in s product h p q g =
    let k = given-sides s.equalities p q g in
    (point-in s.entries p (h.whole.sides_in p k.0), point-in s.entries q (h.whole.sides_in q k.1))

-- ---- shapes that are paired
module _ (s t : Shape) (forth back : ℕ → ℕ) (h : Pairing s t forth back) (b c : U) (of_s : IsProductOf s b) (of_t : IsProductOf t c) (values : SameValues s forth b c) where
  rows-same : (e : ℕ) → e < length s.entries → get_or (rows c) (forth e) [] ≡ get_or (rows b) e []
  rows-same e less = ext_get_or (v.Lit 0) (get_or (rows c) (forth e) []) (get_or (rows b) e []) (long_c ∙ sym long_b)
      (λ i within. values (column e i) (less, omega (arith, within, long_c)))
    where
      long_b : length (get_or (rows b) e []) ≡ (entry_of s.entries e).columns
      long_b = row-long s b of_s e less

      long_c : length (get_or (rows c) (forth e) []) ≡ (entry_of s.entries e).columns
      long_c = row-long t c of_t (forth e) (h.forth_in e less) ∙ ap (λ (n : Entry). n.columns) (h.tables e less)

  values-forth : (p : Point) → IsIn (length s.entries) p → point_value c (moved forth p) ≡ point_value b p
  values-forth (column e i) less = ap (λ (row : List Val). get_or row i (v.Lit 0)) (rows-same e less)
  values-forth (literal a) less = refl

  values-back : (q : Point) → IsIn (length t.entries) q → point_value b (moved back q) ≡ point_value c q
  values-back q i =
      sym (values-forth (moved back q) (moved-in back (length t.entries) (length s.entries) h.back_in q i)) ∙ ap (point_value c) (round back forth (length t.entries) h.forth_back q i)

  atom-same : (e : ℕ) → e < length s.entries → atom_of t c (forth e) ≡ atom_of s b e
  atom-same e less = ap (λ (n : Entry). R n.table (get_or (rows c) (forth e) [])) (h.tables e less) ∙ ap (R (entry_of s.entries e).table) (rows-same e less)

  atoms-same : IsPermutation (atoms b) (atoms c)
  atoms-same = permuted (atoms b) (atoms c) forth (many-atoms s b of_s ∙ h.as_many ∙ sym (many-atoms t c of_t))
      (λ d e less within same. sym (h.back_forth d (below d less)) ∙ ap back same ∙ h.back_forth e (below e within))
      (λ e x g.
      let less = below e (slice_get_within (atoms b) e x g) in
      atom-there t c of_t (forth e) (h.forth_in e less) ∙ ap Some (atom-same e less) ∙ sym (atom-there s b of_s e less) ∙ g)
    where
      below : (e : ℕ) → e < length (atoms b) → e < length s.entries
      below e less = omega (arith, less, many-atoms s b of_s)

  -- equal points of the right shape, moved back
  equal-back : (p q : Point) → IsIn (length s.entries) p → IsIn (length t.entries) q → Equal t (moved forth p) q → Equal s p (moved back q)
  equal-back p q i j e =
      (h.classes p (moved back q) i (moved-in back (length t.entries) (length s.entries) h.back_in q j)).1
      (subst (Equal t (moved forth p)) (sym (round back forth (length t.entries) h.forth_back q j)) e)

  equal-points-back : (p q : Point) → IsIn (length t.entries) p → IsIn (length t.entries) q → Equal t p q → Equal s (moved back p) (moved back q)
  equal-points-back p q i j e =
      equal-back (moved back p) q (moved-in back (length t.entries) (length s.entries) h.back_in p i) j
      (subst (λ (o : Point). Equal t o q) (sym (round back forth (length t.entries) h.forth_back p i)) e)

  forth-carried : (p q : Point) → IsIn (length t.entries) p → IsIn (length t.entries) q → Equal t p q → Entails b (point_value c p) (point_value c q)
  forth-carried p q i j e =
      subst (λ (x : Val). Entails b x (point_value c q)) (values-back p i)
      (subst (Entails b (point_value b (moved back p))) (values-back q j) (equal-entailed s b of_s (moved back p) (moved back q) (equal-points-back p q i j e)))

  back-carried : (p q : Point) → IsIn (length s.entries) p → IsIn (length s.entries) q → Equal s p q → Entails c (point_value b p) (point_value b q)
  back-carried p q i j e =
      subst (λ (x : Val). Entails c x (point_value b q)) (values-forth p i)
      (subst (Entails c (point_value c (moved forth p))) (values-forth q j) (equal-entailed t c of_t (moved forth p) (moved forth q) ((h.classes p q i j).0 e)))

  forth-says : Says b c
  forth-says = says s t b c of_s of_t back values-back (record {
    equalities = λ p q g. let i = given-in t c of_t p q g in forth-carried p q i.0 i.1 (rel.given p q g);
    outputs = λ k q g.
        let at = left-at (λ p o. Equal t (moved forth p) o) s.outputs t.outputs h.outputs k q g in
        let i = in-at (length s.entries) s.outputs of_s.whole.shape.outputs_in k at.point at.at in
        let j = in-at (length t.entries) t.outputs of_t.whole.shape.outputs_in k q g in
        output-given s t b c of_s of_t back values-back k q at.point at.at j (rel.other_way at.point (moved back q) (equal-back at.point q i j at.is));
    marks = h.marks_back;
  })

  back-says : Says c b
  back-says = says t s c b of_t of_s forth values-forth (record {
    equalities = λ p q g. let i = given-in s b of_s p q g in back-carried p q i.0 i.1 (rel.given p q g);
    outputs = λ k p g.
        let at = right-at (λ o q. Equal t (moved forth o) q) s.outputs t.outputs h.outputs k p g in
        output-given t s c b of_t of_s forth values-forth k p at.point at.at (in-at (length s.entries) s.outputs of_s.whole.shape.outputs_in k p g) at.is;
    marks = h.marks_forth;
  })

  pub say-the-same : SayTheSame b c
  say-the-same = record { atoms_are = atoms-same; forth = forth-says; back = back-says }

pub ruleset laws = (equal-entailed, output-entailed, turned-output)
