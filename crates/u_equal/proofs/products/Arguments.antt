-- With a call its arguments stand in a term.
use Rattle.std.proofs.Common.{◌≡◌, ℕ, List, [], ◌∷◌, ◌++◌, inl, inr, refl, ap, sym, ◌∙◌, subst}
use Rattle.u_terms.specs.declared.term.U.TheVariants as u
use Rattle.u_terms.specs.declared.term.Val.TheVariants as v
use Rattle.u_terms.specs.declared.term.U.TheOpen.{Val-F}
use Rattle.u_terms.specs.declared.term.U.TheViews.{out-Val, out-roll-Val, rolls-Bound, rolls-Free, rolls-Lit, rolls-Agg, rolls-Fun}
use Rattle.u_terms.specs.Syntax.{U, Zero, One, Add, Mul, Squash, Not, Sum, Rel, Eq, Pred, Val, Bound, Free, Lit, Fun, Agg, Vals, NoVals, ValThen, Shape, long, shape_of, row_of, constructors}
use Rattle.u_equal.specs.LinkCounts.{row_values}
use Rattle.u_equal.specs.Standing.{standing, value_standing, row_standing, IsIn}
use Rattle.u_rules.specs.Terms.{mul_leaves}
use Rattle.u_equal.specs.Tables.{AreIn, HasArguments}
use Rattle.u_equal.proofs.products.StandingAt.{standing-Eq}
use Rattle.u_equal.proofs.products.Members.{in-head, in-cons, in-none, in-left, in-right, in-either, in-last, in-push}
use Rattle.u_equal.proofs.congruence.Signatures.{parts-Fun}

-- ---- rows as lists
rolled : {X : Type 0} (call : (shape : Shape) → Vals (long shape) → X) (shape : Shape) (row : Vals (long shape)) → call shape row ≡ call (shape_of (row_values row)) (row_of (row_values row))
unfolding row_values constructors
rolled call [] NoVals = refl
rolled call (x ∷ shape) (ValThen value rest) = rolled (λ sh row. call (tt ∷ sh) (ValThen value row)) shape rest

fun-rolled : (symbol : ℕ) (shape : Shape) (row : Vals (long shape)) → Fun symbol shape row ≡ v.Fun symbol (row_values row)
unfolding constructors
fun-rolled symbol shape row = rolled (λ sh r. Fun symbol sh r) shape row

-- ---- other values are no calls
abbrev is_call : Val-F U Val → Type 0
is_call (Val-F.Fun i vs) = Unit {0}
is_call _ = ⊥

no-call : (d : Val-F U Val) (value : Val) → out-Val value ≡ d → (is_call d → ⊥) → (f : ℕ) (xs : List Val) → v.Fun f xs ≡ value → ⊥
no-call d value is none f xs same = none (subst is_call (sym (out-roll-Val (Val-F.Fun f xs)) ∙ ap out-Val (rolls-Fun f xs ∙ same) ∙ is) tt)

not-Bound : (place f : ℕ) (xs : List Val) → v.Fun f xs ≡ v.Bound place → ⊥
not-Bound place = no-call (Val-F.Bound place) (v.Bound place) (ap out-Val (sym (rolls-Bound place)) ∙ out-roll-Val (Val-F.Bound place)) (λ h. h)

not-Free : (name f : ℕ) (xs : List Val) → v.Fun f xs ≡ v.Free name → ⊥
not-Free name = no-call (Val-F.Free name) (v.Free name) (ap out-Val (sym (rolls-Free name)) ∙ out-roll-Val (Val-F.Free name)) (λ h. h)

not-Lit : (literal f : ℕ) (xs : List Val) → v.Fun f xs ≡ v.Lit literal → ⊥
not-Lit literal = no-call (Val-F.Lit literal) (v.Lit literal) (ap out-Val (sym (rolls-Lit literal)) ∙ out-roll-Val (Val-F.Lit literal)) (λ h. h)

not-Agg : (aggregate : ℕ) (body : U) (f : ℕ) (xs : List Val) → v.Fun f xs ≡ v.Agg aggregate body → ⊥
not-Agg aggregate body = no-call (Val-F.Agg aggregate body) (v.Agg aggregate body) (ap out-Val (sym (rolls-Agg aggregate body)) ∙ out-roll-Val (Val-F.Agg aggregate body)) (λ h. h)

agg-is : (aggregate : ℕ) (body : U) → Agg aggregate body ≡ v.Agg aggregate body
unfolding constructors
agg-is aggregate body = refl

-- ---- values stand in themselves
stands-itself : (value : Val) → IsIn value (value_standing value)
unfolding standing
stands-itself (Bound place) = in-head (Bound place) []
stands-itself (Free name) = in-head (Free name) []
stands-itself (Lit literal) = in-head (Lit literal) []
stands-itself (Fun symbol shape arguments) = in-last (row_standing arguments) (Fun symbol shape arguments)
stands-itself (Agg aggregate body) = in-head (Agg aggregate body) []

row-stands : {n : _} (row : Vals n) → AreIn (row_values row) (row_standing row)
unfolding standing row_values
row-stands NoVals x h = absurd (in-none x h)
row-stands (ValThen value rest) x h = elim (in-cons value (row_values rest) x h) [
  | inl is ↦ in-left (value_standing value) (row_standing rest) x (subst (λ (y : Val). IsIn y (value_standing value)) (sym is) (stands-itself value))
  | inr more ↦ in-right (value_standing value) (row_standing rest) x (row-stands rest x more)
]

-- ---- with a call its arguments
both-have : (xs ys : List Val) → HasArguments xs → HasArguments ys → HasArguments (xs ++ ys)
both-have xs ys one two f as' has x x_in = elim (in-either xs ys (v.Fun f as') has) [
  | inl here ↦ in-left xs ys x (one f as' here x x_in)
  | inr there ↦ in-right xs ys x (two f as' there x x_in)
]

one-has : (value : Val) → ((f : ℕ) (xs : List Val) → v.Fun f xs ≡ value → ⊥) → HasArguments (value ∷ [])
one-has value not_call f xs has x x_in = elim (in-cons value [] (v.Fun f xs) has) [
  | inl is ↦ absurd (not_call f xs is)
  | inr none ↦ absurd (in-none (v.Fun f xs) none)
]

call-has : (symbol : ℕ) (shape : Shape) (row : Vals (long shape)) → HasArguments (row_standing row) → HasArguments (row_standing row ++ Fun symbol shape row ∷ [])
call-has symbol shape row rest f xs has x x_in = elim (in-push (row_standing row) (Fun symbol shape row) (v.Fun f xs) has) [
  | inl here ↦ in-left (row_standing row) (Fun symbol shape row ∷ []) x (rest f xs here x x_in)
  | inr is ↦
      let same = parts-Fun f symbol xs (row_values row) (is ∙ fun-rolled symbol shape row) in
      in-left (row_standing row) (Fun symbol shape row ∷ []) x (row-stands row x (subst (λ (ys : List Val). IsIn x ys) same.1 x_in))
]

mutual
  unfolding standing

  pub standing-has : (term : U) → HasArguments (standing term)
  standing-has Zero f xs has x x_in = absurd (in-none (v.Fun f xs) has)
  standing-has One f xs has x x_in = absurd (in-none (v.Fun f xs) has)
  standing-has (Add a b) f xs has x x_in = both-have (standing a) (standing b) (standing-has a) (standing-has b) f xs has x x_in
  standing-has (Mul a b) f xs has x x_in = both-have (standing a) (standing b) (standing-has a) (standing-has b) f xs has x x_in
  standing-has (Squash a) f xs has x x_in = standing-has a f xs has x x_in
  standing-has (Not a) f xs has x x_in = standing-has a f xs has x x_in
  standing-has (Sum body) f xs has x x_in = absurd (in-none (v.Fun f xs) has)
  standing-has (Rel table shape arguments) f xs has x x_in = row-has arguments f xs has x x_in
  standing-has (Eq a b) f xs has x x_in = both-have (value_standing a) (value_standing b) (value-has a) (value-has b) f xs has x x_in
  standing-has (Pred symbol shape arguments) f xs has x x_in = row-has arguments f xs has x x_in

  value-has : (value : Val) → HasArguments (value_standing value)
  value-has (Bound place) = one-has (Bound place) (not-Bound place)
  value-has (Free name) = one-has (Free name) (not-Free name)
  value-has (Lit literal) = one-has (Lit literal) (not-Lit literal)
  value-has (Fun symbol shape arguments) = call-has symbol shape arguments (row-has arguments)
  value-has (Agg aggregate body) = one-has (Agg aggregate body) (λ f xs same. not-Agg aggregate body f xs (same ∙ agg-is aggregate body))

  row-has : {n : _} (row : Vals n) → HasArguments (row_standing row)
  row-has NoVals f xs has x x_in = absurd (in-none (v.Fun f xs) has)
  row-has (ValThen value rest) f xs has x x_in = both-have (value_standing value) (row_standing rest) (value-has value) (row-has rest) f xs has x x_in

-- ---- the sides of factors stand
leaf-only : (term leaf : U) (a b : Val) → IsIn (u.Eq a b) (leaf ∷ []) → standing leaf ≡ standing term → IsIn a (standing term) × IsIn b (standing term)
leaf-only term leaf a b has same = elim (in-cons leaf [] (u.Eq a b) has) [
  | inl is ↦
      let stand = subst (λ (vs : List Val). IsIn a vs × IsIn b vs) (sym (standing-Eq a b))
      (in-left (value_standing a) (value_standing b) a (stands-itself a), in-right (value_standing a) (value_standing b) b (stands-itself b)) in
      subst (λ (vs : List Val). IsIn a vs × IsIn b vs) (ap standing is ∙ same) stand
  | inr none ↦ absurd (in-none (u.Eq a b) none)
]

both-stand : (x y : U) (a b : Val) → (IsIn (u.Eq a b) (mul_leaves x) → IsIn a (standing x) × IsIn b (standing x)) → (IsIn (u.Eq a b) (mul_leaves y) → IsIn a (standing y) × IsIn b (standing y))
    → IsIn (u.Eq a b) (mul_leaves x ++ mul_leaves y) → IsIn a (standing x ++ standing y) × IsIn b (standing x ++ standing y)
both-stand x y a b one two has = elim (in-either (mul_leaves x) (mul_leaves y) (u.Eq a b) has) [
  | inl here ↦ let h = one here in (in-left (standing x) (standing y) a h.0, in-left (standing x) (standing y) b h.1)
  | inr there ↦ let h = two there in (in-right (standing x) (standing y) a h.0, in-right (standing x) (standing y) b h.1)
]

pub sides-stand : (term : U) (a b : Val) → IsIn (u.Eq a b) (mul_leaves term) → IsIn a (standing term) × IsIn b (standing term)
unfolding standing mul_leaves
sides-stand One a b has = absurd (in-none (u.Eq a b) has)
sides-stand (Mul x y) a b has = both-stand x y a b (sides-stand x a b) (sides-stand y a b) has
sides-stand Zero a b has = leaf-only Zero Zero a b has refl
sides-stand (Add x y) a b has = leaf-only (Add x y) (Add x y) a b has refl
sides-stand (Squash x) a b has = leaf-only (Squash x) (Squash x) a b has refl
sides-stand (Not x) a b has = leaf-only (Not x) (Not x) a b has refl
sides-stand (Sum body) a b has = leaf-only (Sum body) (Sum body) a b has refl
sides-stand (Rel table shape arguments) a b has = leaf-only (Rel table shape arguments) (Rel table shape arguments) a b has refl
sides-stand (Eq x y) a b has = leaf-only (Eq x y) (Eq x y) a b has refl
sides-stand (Pred symbol shape arguments) a b has = leaf-only (Pred symbol shape arguments) (Pred symbol shape arguments) a b has refl
