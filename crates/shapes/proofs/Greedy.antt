-- The blocks of two unions may be paired one after the other, each with any block that is left and alike.
use Rattle.std.proofs.Common.{◌≡◌, ◌⊎◌, inl, inr, List, [], ◌∷◌, refl, ap, sym, subst}
use Rattle.shapes.specs.Shapes.{Shape, IsShape}
use Rattle.shapes.specs.Alike.{Alike}
use Rattle.shapes.specs.Unions.{TakenOut, the_first, a_later, AllAlike, no_blocks, one_block, AreShapes}
use Rattle.shapes.proofs.Equivalence.{alike-back, alike-through}

-- ---- what is taken out of one list in turn
record BothOut (t u : Shape) (a b : List Shape) : Type 0 where
  rest : List Shape
  from_one : TakenOut u a rest
  from_other : TakenOut t b rest

-- the same place, or two places
abbrev Places : (t u : Shape) → List Shape → List Shape → Type 0
Places t u a b = ((t ≡ u) × (a ≡ b)) ⊎ BothOut t u a b

-- where the first shape of a list is taken out, or a later one
record Later (u x : Shape) (more b : List Shape) : Type 0 where
  rest : List Shape
  out : TakenOut u more rest
  is : b ≡ x ∷ rest

abbrev first-of : Shape → List Shape → Shape
first-of s [] = s
first-of s (x ∷ more) = x

abbrev others-of : List Shape → List Shape
others-of [] = []
others-of (x ∷ more) = more

taken : (u : Shape) (l b : List Shape) → TakenOut u l b → (x : Shape) (more : List Shape) → l ≡ x ∷ more → ((u ≡ x) × (b ≡ more)) ⊎ Later u x more b
taken u l b (the_first {ts = ts}) x more e = inl (ap (first-of u) e, ap others-of e)
taken u l b (a_later {u = y} {ts = ts} {rest = c} o) x more e =
    inr (record { rest = c; out = subst (λ (k : List Shape). TakenOut u k c) (ap others-of e) o; is = ap (λ z. z ∷ c) (ap (first-of u) e) })

first-taken : (u x : Shape) (l : List Shape) → u ≡ x → TakenOut u (x ∷ l) l
first-taken u x l e = subst (λ (y : Shape). TakenOut u (y ∷ l) l) e the_first

two-taken : (t u : Shape) (ts a b : List Shape) → TakenOut t ts a → TakenOut u ts b → Places t u a b
two-taken t u ts a b (the_first {ts = more}) other = elim (taken u (t ∷ more) b other t more refl) [
  | inl same ↦ inl (sym same.0, sym same.1)
  | inr k ↦ subst (λ (l : List Shape). Places t u more l) (sym k.is) (inr (record { rest = k.rest; from_one = k.out; from_other = the_first }))
]
two-taken t u ts a b (a_later {u = x} {ts = more} {rest = left} o) other = elim (taken u (x ∷ more) b other x more refl) [
  | inl same ↦ inr (record { rest = left; from_one = first-taken u x left same.0; from_other = subst (λ (l : List Shape). TakenOut t l left) (sym same.1) o })
  | inr k ↦ subst (λ (l : List Shape). Places t u (x ∷ left) l) (sym k.is) (later_both k.rest (two-taken t u more left k.rest o k.out))
]
  where
    later_both : (c : List Shape) → Places t u left c → Places t u (x ∷ left) (x ∷ c)
    later_both c (inl same) = inl (same.0, ap (λ (l : List Shape). x ∷ l) same.1)
    later_both c (inr k) = inr (record { rest = x ∷ k.rest; from_one = a_later k.from_one; from_other = a_later k.from_other })

-- one after the other, in either order
record OtherOrder (u v : Shape) (all last : List Shape) : Type 0 where
  between : List Shape
  one : TakenOut v all between
  other : TakenOut u between last

in-turn : (u v : Shape) (all mid last : List Shape) → TakenOut u all mid → TakenOut v mid last → OtherOrder u v all last
in-turn u v all mid last (the_first {ts = more}) second = record { between = u ∷ last; one = a_later second; other = the_first }
in-turn u v all mid last (a_later {u = x} {ts = more} {rest = left} o) second = elim (taken v (x ∷ left) last second x left refl) [
  | inl same ↦ record { between = more; one = first-taken v x more same.0; other = subst (λ (l : List Shape). TakenOut u more l) (sym same.1) o }
  | inr k ↦
      let rest = in-turn u v more left k.rest o k.out in
      record { between = x ∷ rest.between; one = a_later rest.one; other = subst (λ (l : List Shape). TakenOut u (x ∷ rest.between) l) (sym k.is) (a_later rest.other) }
]

-- ---- shapes among shapes
taken-shapes : (t : Shape) (ts rest : List Shape) → TakenOut t ts rest → AreShapes ts → IsShape t × AreShapes rest
taken-shapes t ts rest (the_first {ts = more}) all = (all.0, all.1)
taken-shapes t ts rest (a_later {u = x} {ts = more} {rest = left} o) all = let k = taken-shapes t more left o all.1 in (k.0, (all.0, k.1))

-- u may stand where t stood, to which it is alike
exchanged : (t u : Shape) (ss r rest mid : List Shape) → AreShapes ss → IsShape t → IsShape u → AreShapes r → Alike t u → TakenOut t r mid → TakenOut u rest mid → AllAlike ss r → AllAlike ss rest
exchanged t u ss r rest mid are_ss is_t is_u are_r tu out_t out_u no_blocks = absurd (elim out_t [ ])
exchanged t u ss r rest mid are_ss is_t is_u are_r tu out_t out_u (one_block {s = s} {t = v} {ss = more} {rest = q} out_v a h) =
    let of_v = taken-shapes v r q out_v are_r in
    at (two-taken t v r mid q out_t out_v) (λ w last out_t' out_u'. exchanged t u more q w last are_ss.1 is_t is_u of_v.1 tu out_t' out_u' h)
  where
    at : Places t v mid q → ((w last : List Shape) → TakenOut t q last → TakenOut u w last → AllAlike more w) → AllAlike (s ∷ more) rest
    at (inl same) next =
        let st : Alike s t = subst (λ (x : Shape). Alike s x) (sym same.0) a in
        one_block out_u (alike-through s t u are_ss.0 is_t is_u st tu) (subst (λ (l : List Shape). AllAlike more l) (sym same.1) h)
    at (inr k) next = let o = in-turn u v rest mid k.rest out_u k.from_one in one_block o.one a (next o.between k.rest k.from_other o.other)

pub any-alike : (s t : Shape) (ss ts rest : List Shape) → IsShape s → AreShapes ss → AreShapes ts → TakenOut t ts rest → Alike s t → AllAlike (s ∷ ss) ts → AllAlike ss rest
any-alike s t ss ts rest is_s are_ss are_ts out_t st (one_block {t = u} {rest = r} out_u su h) =
    let of_t = taken-shapes t ts rest out_t are_ts in
    let of_u = taken-shapes u ts r out_u are_ts in
    at of_t.0 of_u.0 of_u.1 (two-taken t u ts rest r out_t out_u)
  where
    at : IsShape t → IsShape u → AreShapes r → Places t u rest r → AllAlike ss rest
    at is_t is_u are_r (inl same) = subst (λ (l : List Shape). AllAlike ss l) (sym same.1) h
    at is_t is_u are_r (inr k) =
        exchanged t u ss r rest k.rest are_ss is_t is_u are_r (alike-through t s u is_t is_s is_u (alike-back s t is_s is_t st) su) k.from_other k.from_one h
