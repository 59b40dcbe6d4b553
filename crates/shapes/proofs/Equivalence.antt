-- Being alike is an equivalence.
use Rattle.std.proofs.Common.{◌≡◌, ℕ, ◌<◌, inl, inr, List, [], ◌∷◌, length, refl, ap, sym, ◌∙◌, subst}
use Rattle.shapes.specs.Shapes.{Point, column, literal, Kind, holds, fails, differ, Mark, Shape, entry_of, turned, IsIn, AllIn, MarkIn, IsShape}
use Rattle.shapes.specs.Alike.{Equal, other_way, through, moved, Pairwise, none, one_more, SamePoints, FoundMark, Pairing, Alike}

moved-itself : (f : ℕ → ℕ) (m : ℕ) (p : Point) → ((e : ℕ) → e < m → f e ≡ e) → IsIn m p → moved f p ≡ p
moved-itself f m (column e c) same within = ap (λ x. column x c) (same e within)
moved-itself f m (literal a) same within = refl

moved-twice : (f g : ℕ → ℕ) (p : Point) → moved g (moved f p) ≡ moved (λ e. g (f e)) p
moved-twice f g (column e c) = refl
moved-twice f g (literal a) = refl

moved-in : (f : ℕ → ℕ) (m n : ℕ) (p : Point) → ((e : ℕ) → e < m → f e < n) → IsIn m p → IsIn n (moved f p)
moved-in f m n (column e c) within i = within e i
moved-in f m n (literal a) within i = tt

-- ---- lists of points
pairwise-through : (P Q R : Point → Point → Type 0) (m n : ℕ) (ps qs rs : List Point) → AllIn m ps → AllIn n qs
    → ((p q r : Point) → IsIn m p → IsIn n q → P p q → Q q r → R p r) → Pairwise P ps qs → Pairwise Q qs rs → Pairwise R ps rs
pairwise-through P Q R m n [] [] [] a b one h k = none
pairwise-through P Q R m n [] [] (r ∷ rs) a b one h k = elim k [ ]
pairwise-through P Q R m n [] (q ∷ qs) rs a b one h k = elim h [ ]
pairwise-through P Q R m n (p ∷ ps) [] rs a b one h k = elim h [ ]
pairwise-through P Q R m n (p ∷ ps) (q ∷ qs) [] a b one h k = elim k [ ]
pairwise-through P Q R m n (p ∷ ps) (q ∷ qs) (r ∷ rs) a b one (one_more h hs) (one_more k ks) =
    one_more (one p q r a.0 b.0 h k) (pairwise-through P Q R m n ps qs rs a.1 b.1 one hs ks)

pairwise-back : (P Q : Point → Point → Type 0) (m n : ℕ) (ps qs : List Point) → AllIn m ps → AllIn n qs
    → ((p q : Point) → IsIn m p → IsIn n q → P p q → Q q p) → Pairwise P ps qs → Pairwise Q qs ps
pairwise-back P Q m n [] [] a b one h = none
pairwise-back P Q m n [] (q ∷ qs) a b one h = elim h [ ]
pairwise-back P Q m n (p ∷ ps) [] a b one h = elim h [ ]
pairwise-back P Q m n (p ∷ ps) (q ∷ qs) a b one (one_more h hs) = one_more (one p q a.0 b.0 h) (pairwise-back P Q m n ps qs a.1 b.1 one hs)

turned-turned : (ps : List Point) → turned (turned ps) ≡ ps
turned-turned [] = refl
turned-turned (p ∷ []) = refl
turned-turned (p ∷ q ∷ []) = refl
turned-turned (p ∷ q ∷ r ∷ ps) = refl

pairwise-turned : (P : Point → Point → Type 0) (ps qs : List Point) → Pairwise P ps qs → Pairwise P (turned ps) (turned qs)
pairwise-turned P [] [] h = h
pairwise-turned P [] (q ∷ qs) h = elim h [ ]
pairwise-turned P (p ∷ ps) [] h = elim h [ ]
pairwise-turned P (p ∷ []) (q ∷ []) h = h
pairwise-turned P (p ∷ []) (q ∷ q' ∷ qs) (one_more h hs) = elim hs [ ]
pairwise-turned P (p ∷ p' ∷ ps) (q ∷ []) (one_more h hs) = elim hs [ ]
pairwise-turned P (p ∷ p' ∷ []) (q ∷ q' ∷ []) (one_more h (one_more h' hs)) = one_more h' (one_more h hs)
pairwise-turned P (p ∷ p' ∷ []) (q ∷ q' ∷ r ∷ qs) (one_more h (one_more h' hs)) = elim hs [ ]
pairwise-turned P (p ∷ p' ∷ r ∷ ps) (q ∷ q' ∷ []) (one_more h (one_more h' hs)) = elim hs [ ]
pairwise-turned P (p ∷ p' ∷ r ∷ ps) (q ∷ q' ∷ r' ∷ qs) h = h

all-turned : (m : ℕ) (ps : List Point) → AllIn m ps → AllIn m (turned ps)
all-turned m [] a = a
all-turned m (p ∷ []) a = a
all-turned m (p ∷ q ∷ []) a = (a.1.0, (a.0, tt))
all-turned m (p ∷ q ∷ r ∷ ps) a = a

same-through : (kind : Kind) (P Q R : Point → Point → Type 0) (m n : ℕ) (ps qs rs : List Point) → AllIn m ps → AllIn n qs
    → ((p q r : Point) → IsIn m p → IsIn n q → P p q → Q q r → R p r) → SamePoints kind P ps qs → SamePoints kind Q qs rs → SamePoints kind R ps rs
same-through (holds symbol) P Q R m n ps qs rs a b one h k = pairwise-through P Q R m n ps qs rs a b one h k
same-through (fails symbol) P Q R m n ps qs rs a b one h k = pairwise-through P Q R m n ps qs rs a b one h k
same-through differ P Q R m n ps qs rs a b one (inl h) (inl k) = inl (pairwise-through P Q R m n ps qs rs a b one h k)
same-through differ P Q R m n ps qs rs a b one (inl h) (inr k) =
    inr (pairwise-through P Q R m n (turned ps) (turned qs) rs (all-turned m ps a) (all-turned n qs b) one (pairwise-turned P ps qs h) k)
same-through differ P Q R m n ps qs rs a b one (inr h) (inl k) = inr (pairwise-through P Q R m n (turned ps) qs rs (all-turned m ps a) b one h k)
same-through differ P Q R m n ps qs rs a b one (inr h) (inr k) =
    inl (pairwise-through P Q R m n ps (turned qs) rs a (all-turned n qs b) one
    (subst (λ (xs : List Point). Pairwise P xs (turned qs)) (turned-turned ps) (pairwise-turned P (turned ps) qs h)) k)

-- ---- the other way
pairing-back : (s t : Shape) (f g : ℕ → ℕ) → IsShape s → IsShape t → Pairing s t f g → Pairing t s g f
pairing-back s t f g is_s is_t h = record {
  as_many = sym h.as_many;
  forth_in = h.back_in;
  back_in = h.forth_in;
  back_forth = h.forth_back;
  forth_back = h.back_forth;
  tables = λ e less. sym (h.tables (g e) (h.back_in e less)) ∙ ap (entry_of t.entries) (h.forth_back e less);
  classes = λ p q i j. (
    λ k. (h.classes (moved g p) (moved g q) (in_s p i) (in_s q j)).1 (there_and p q i j k),
    λ k. back_again p q i j ((h.classes (moved g p) (moved g q) (in_s p i) (in_s q j)).0 k),
  );
  outputs = pairwise-back (λ p q. Equal t (moved f p) q) (λ q p. Equal s (moved g q) p) (length s.entries) (length t.entries) s.outputs t.outputs is_s.outputs_in is_t.outputs_in
      (λ p q i j k. other_way p (moved g q)
      ((h.classes p (moved g q) i (in_s q j)).1 (subst (λ (x : Point). Equal t (moved f p) x) (sym (round q j)) k))) h.outputs;
  marks_forth = h.marks_back;
  marks_back = h.marks_forth;
}
  where
    in_s : (p : Point) → IsIn (length t.entries) p → IsIn (length s.entries) (moved g p)
    in_s p i = moved-in g (length t.entries) (length s.entries) p h.back_in i

    round : (p : Point) → IsIn (length t.entries) p → moved f (moved g p) ≡ p
    round p i = moved-twice g f p ∙ moved-itself (λ e. f (g e)) (length t.entries) p h.forth_back i

    there_and : (p q : Point) → IsIn (length t.entries) p → IsIn (length t.entries) q → Equal t p q → Equal t (moved f (moved g p)) (moved f (moved g q))
    there_and p q i j k = subst (λ (x : Point). Equal t x (moved f (moved g q))) (sym (round p i)) (subst (λ (y : Point). Equal t p y) (sym (round q j)) k)

    back_again : (p q : Point) → IsIn (length t.entries) p → IsIn (length t.entries) q → Equal t (moved f (moved g p)) (moved f (moved g q)) → Equal t p q
    back_again p q i j k = subst (λ (x : Point). Equal t x q) (round p i) (subst (λ (y : Point). Equal t (moved f (moved g p)) y) (round q j) k)

-- ---- one after the other
-- a mark found in the one and then in the next, by maps that carry classes
found-through : (s t r : Shape) (f g : ℕ → ℕ) → IsShape s → IsShape t
    → ((p q o : Point) → IsIn (length s.entries) p → IsIn (length t.entries) q → Equal t (moved f p) q → Equal r (moved g q) o → Equal r (moved (λ e. g (f e)) p) o)
    → ((m : Mark) → MarkIn m s.marks → FoundMark s t f m) → ((m : Mark) → MarkIn m t.marks → FoundMark t r g m) → (m : Mark) → MarkIn m s.marks → FoundMark s r (λ e. g (f e)) m
found-through s t r f g is_s is_t one h k m i =
    let a = h m i in
    let b = k a.mark a.is_in in
    record {
      mark = b.mark;
      is_in = b.is_in;
      kind = b.kind ∙ a.kind;
      same = same-through m.kind (λ p q. Equal t (moved f p) q) (λ q o. Equal r (moved g q) o) (λ p o. Equal r (moved (λ e. g (f e)) p) o) (length s.entries) (length t.entries)
          m.points a.mark.points b.mark.points (is_s.marks_in m i) (is_t.marks_in a.mark a.is_in) one a.same
          (subst (λ (kind : Kind). SamePoints kind (λ q o. Equal r (moved g q) o) a.mark.points b.mark.points) a.kind b.same);
    }

pairing-through : (s t r : Shape) (f g f' g' : ℕ → ℕ) → IsShape s → IsShape t → IsShape r → Pairing s t f g → Pairing t r f' g'
    → Pairing s r (λ e. f' (f e)) (λ e. g (g' e))
pairing-through s t r f g f' g' is_s is_t is_r h k = record {
  as_many = h.as_many ∙ k.as_many;
  forth_in = λ e less. k.forth_in (f e) (h.forth_in e less);
  back_in = λ e less. h.back_in (g' e) (k.back_in e less);
  back_forth = λ e less. ap g (k.back_forth (f e) (h.forth_in e less)) ∙ h.back_forth e less;
  forth_back = λ e less. ap f' (h.forth_back (g' e) (k.back_in e less)) ∙ k.forth_back e less;
  tables = λ e less. k.tables (f e) (h.forth_in e less) ∙ h.tables e less;
  classes = λ p q i j.
      let one = h.classes p q i j in
      let two = k.classes (moved f p) (moved f q) (in_t p i) (in_t q j) in
      (λ c. twice p q (two.0 (one.0 c)), λ c. one.1 (two.1 (apart p q c)));
  outputs = pairwise-through (λ p q. Equal t (moved f p) q) (λ q o. Equal r (moved f' q) o) (λ p o. Equal r (moved (λ e. f' (f e)) p) o) (length s.entries) (length t.entries)
      s.outputs t.outputs r.outputs is_s.outputs_in is_t.outputs_in forth h.outputs k.outputs;
  marks_forth = found-through s t r f f' is_s is_t forth h.marks_forth k.marks_forth;
  marks_back = found-through r t s g' g is_r is_t back k.marks_back h.marks_back;
}
  where
    in_t : (p : Point) → IsIn (length s.entries) p → IsIn (length t.entries) (moved f p)
    in_t p i = moved-in f (length s.entries) (length t.entries) p h.forth_in i

    twice : (p q : Point) → Equal r (moved f' (moved f p)) (moved f' (moved f q)) → Equal r (moved (λ e. f' (f e)) p) (moved (λ e. f' (f e)) q)
    twice p q c =
        subst (λ (x : Point). Equal r x (moved (λ e. f' (f e)) q)) (moved-twice f f' p)
        (subst (λ (y : Point). Equal r (moved f' (moved f p)) y) (moved-twice f f' q) c)

    apart : (p q : Point) → Equal r (moved (λ e. f' (f e)) p) (moved (λ e. f' (f e)) q) → Equal r (moved f' (moved f p)) (moved f' (moved f q))
    apart p q c =
        subst (λ (x : Point). Equal r x (moved f' (moved f q))) (sym (moved-twice f f' p))
        (subst (λ (y : Point). Equal r (moved (λ e. f' (f e)) p) y) (sym (moved-twice f f' q)) c)

    forth : (p q o : Point) → IsIn (length s.entries) p → IsIn (length t.entries) q → Equal t (moved f p) q → Equal r (moved f' q) o
        → Equal r (moved (λ e. f' (f e)) p) o
    forth p q o i j a b =
        subst (λ (x : Point). Equal r x o) (moved-twice f f' p)
        (through (moved f' (moved f p)) (moved f' q) o ((k.classes (moved f p) q (in_t p i) j).0 a) b)

    in_t_back : (p : Point) → IsIn (length r.entries) p → IsIn (length t.entries) (moved g' p)
    in_t_back p i = moved-in g' (length r.entries) (length t.entries) p k.back_in i

    h_back : Pairing t s g f
    h_back = pairing-back s t f g is_s is_t h

    back : (p q o : Point) → IsIn (length r.entries) p → IsIn (length t.entries) q → Equal t (moved g' p) q → Equal s (moved g q) o
        → Equal s (moved (λ e. g (g' e)) p) o
    back p q o i j a b =
        subst (λ (x : Point). Equal s x o) (moved-twice g' g p)
        (through (moved g (moved g' p)) (moved g q) o ((h_back.classes (moved g' p) q (in_t_back p i) j).0 a) b)

pub alike-back : (s t : Shape) → IsShape s → IsShape t → Alike s t → Alike t s
alike-back s t is_s is_t h = record { forth = h.back; back = h.forth; paired = pairing-back s t h.forth h.back is_s is_t h.paired }

pub alike-through : (s t r : Shape) → IsShape s → IsShape t → IsShape r → Alike s t → Alike t r → Alike s r
alike-through s t r is_s is_t is_r h k = record {
  forth = λ e. k.forth (h.forth e);
  back = λ e. h.back (k.back e);
  paired = pairing-through s t r h.forth h.back k.forth k.back is_s is_t is_r h.paired k.paired;
}
