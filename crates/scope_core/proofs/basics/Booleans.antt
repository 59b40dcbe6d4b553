-- Truths that are made of others.
use Rattle.std.proofs.Common.{◌≡◌, Bool, true, false, not, refl, sym, arith, ◌∙◌}
use Rattle.std.specs.Prelude.{◌&&◌, ◌||◌}

pub no : true ≡ false → ⊥
no e = let b : true ≡ false = e in grind (arith, b)

pub not-false : (b : Bool) → not b ≡ false → b ≡ true
not-false true e = refl
not-false false e = grind (arith, e)

pub contraposed : (a b : Bool) → (a ≡ true → b ≡ true) → b ≡ false → a ≡ false
contraposed true b h e = absurd (no (sym (h refl) ∙ e))
contraposed false b h e = refl

pub or-left : (a b : Bool) → (a || b) ≡ false → a ≡ false
or-left true b e = e
or-left false b e = refl

pub or-right : (a b : Bool) → (a || b) ≡ false → b ≡ false
or-right true b e = grind (arith, e)
or-right false b e = e

pub or-of-left : (a b : Bool) → a ≡ true → (a || b) ≡ true
or-of-left a b e = rw e refl

pub or-of-right : (a b : Bool) → b ≡ true → (a || b) ≡ true
or-of-right true b e = refl
or-of-right false b e = e

pub and-first : (a b : Bool) → (a && b) ≡ true → a ≡ true
and-first true b e = refl
and-first false b e = e

pub and-second : (a b : Bool) → (a && b) ≡ true → b ≡ true
and-second true b e = e
and-second false b e = grind (arith, e)

pub and-true : (b : Bool) → (b && true) ≡ b
and-true true = refl
and-true false = refl

pub and-false : (b : Bool) → (b && false) ≡ false
and-false true = refl
and-false false = refl

pub and-assoc : (a b c : Bool) → (a && (b && c)) ≡ ((a && b) && c)
and-assoc true b c = refl
and-assoc false b c = refl
