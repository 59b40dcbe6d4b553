-- The factors that a product entails: equalities, and marks that follow from its own.
use Rattle.std.proofs.Common.{◌≡◌, ℕ, zero, suc, ◌+◌, ◌<◌, inl, inr, List, [], ◌∷◌, ◌++◌, length, get_or, Option, Some, None, refl, ap, sym, subst, ◌∙◌, arith}
use Rattle.std.specs.Prelude.{slice_get}
use Rattle.std.proofs.lemmas.Option.{slice_get_within, same_Some}
use denote.Ref.{Bor}
use Rattle.u_terms.specs.Syntax.{U, Zero, One, Add, Mul, Squash, Not, Sum, Rel, Eq, Pred, Val, constructors}
use Rattle.u_terms.specs.Products.{product_of}
use Rattle.u_terms.specs.declared.facts.Facts.{Facts}
use Rattle.u_rules.specs.Terms.{◌≐◌, P, neg, mul_leaves, terms}
use Rattle.u_moves.specs.Derivations.{Derivation}
use Rattle.u_congruence.specs.Congruence.{IsFromTo}
use Rattle.u_equal.specs.Entails.{Entails}
use Rattle.u_equal.specs.Standing.{IsIn}
use Rattle.u_equal.proofs.products.Members.{in-left}
use Rattle.u_entail.specs.Carrying as carry
use Rattle.u_entail.specs.Carrying.{Follows, straight, exchanged}
use Rattle.u_entail.specs.Copies.{IsCopyAt}
use Rattle.u_entail.specs.Gaining.{Begins, IsAppended}
use Rattle.u_entail.specs.Marks as marks
use Rattle.u_entail.specs.Marks.{IsMark}
use Rattle.shape_entails.specs.Matched.{Repeats, holds, fails, differ, turned, HasMark, EntailsFactor}
use Rattle.shape_entails.proofs.Turned.{last-or-later}
use Rattle.u_bag.specs.Rows.{IsFactorGained, IsMarkGained}

follows : (product mark wanted : U) → Repeats product mark wanted → Follows product mark wanted
follows product mark wanted (holds symbol xs ys each) = straight (P symbol xs) (P symbol ys) (carry.holds symbol xs ys each)
follows product mark wanted (fails symbol xs ys each) =
    straight (neg (P symbol xs)) (neg (P symbol ys)) (carry.fails (P symbol xs) (P symbol ys) (carry.holds symbol xs ys each))
follows product mark wanted (differ a b c d h k) = straight (neg (a ≐ b)) (neg (c ≐ d)) (carry.fails (a ≐ b) (c ≐ d) (carry.equal a b c d h k))
follows product mark wanted (turned a b c d h k) = exchanged a b (neg (c ≐ d)) (carry.fails (b ≐ a) (c ≐ d) (carry.equal b a c d h k))

is-mark : (product mark wanted : U) → Repeats product mark wanted → IsMark mark
is-mark product mark wanted (holds symbol xs ys each) = marks.holds symbol xs
is-mark product mark wanted (fails symbol xs ys each) = marks.fails (P symbol xs)
is-mark product mark wanted (differ a b c d h k) = marks.fails (a ≐ b)
is-mark product mark wanted (turned a b c d h k) = marks.fails (a ≐ b)

-- where it follows from no mark among the factors, the product has no such mark
pub no-mark : (product wanted : U) (factors : List U) → Begins product factors
    → ((k : ℕ) → k < length factors → (mark : U) → slice_get factors k ≡ Some mark → IsMark mark → Follows product mark wanted → ⊥) → HasMark product wanted → ⊥
no-mark product wanted factors first none h =
    let there : IsIn h.mark factors = subst (λ (us : List U). IsIn h.mark us) (sym first.is) (in-left (mul_leaves product) first.rest h.mark h.is_factor) in
    none there.place (slice_get_within factors there.place h.mark there.here) h.mark there.here (is-mark product h.mark wanted h.repeats) (follows product h.mark wanted h.repeats)

-- whatever is no equality is a mark
pub factor-mark : (product wanted : U) → ((a b : Val) → wanted ≡ a ≐ b → ⊥) → EntailsFactor product wanted → HasMark product wanted
unfolding EntailsFactor constructors
factor-mark product Zero other h = absurd h
factor-mark product One other h = absurd h
factor-mark product (Add a b) other h = absurd h
factor-mark product (Mul a b) other h = absurd h
factor-mark product (Squash a) other h = absurd h
factor-mark product (Not a) other h = h
factor-mark product (Sum a) other h = absurd h
factor-mark product (Rel table shape row) other h = absurd h
factor-mark product (Eq a b) other h = absurd (other a b refl)
factor-mark product (Pred symbol shape row) other h = h

pub factor-equality : (product : U) (a b : Val) → EntailsFactor product (a ≐ b) → Entails product a b
unfolding EntailsFactor constructors
factor-equality product a b h = h

-- ---- answers of the code
pub term-here : (refs : List (Bor U)) (k : ℕ) (r : Bor U) → k < length refs → r ≡ get_or refs k r → slice_get (terms refs) k ≡ Some r.now
term-here [] k r less is = absurd (omega (arith, less))
term-here (x ∷ refs) zero r less is = ap (λ (y : Bor U). Some y.now) (sym is)
term-here (x ∷ refs) (suc k) r less is = term-here refs k r (omega (arith, less)) is

pub copy-leads : (F : Facts) (names : ℕ) (product : U) (factors : List U) (place : ℕ) (mark wanted : U) (o : Option Derivation) (d : Derivation) → slice_get factors place ≡ Some mark
    → IsCopyAt F names product factors place wanted o → o ≡ Some d → IsFromTo F names (product_of factors) (product_of (factors ++ wanted ∷ [])) d
copy-leads F names product factors place mark wanted o d at h is =
    let l = (subst (λ (q : Option Derivation). IsCopyAt F names product factors place wanted q) is h mark at).leads in
    record { facts = l.facts; outs = l.outs; from = l.from; to = l.to }

pub no-copy : (F : Facts) (names : ℕ) (product : U) (factors : List U) (place : ℕ) (mark wanted : U) (o : Option Derivation) → slice_get factors place ≡ Some mark
    → IsCopyAt F names product factors place wanted o → o ≡ None → Follows product mark wanted → ⊥
no-copy F names product factors place mark wanted o at h is = subst (λ (q : Option Derivation). IsCopyAt F names product factors place wanted q) is h mark at

pub not-appended : (F : Facts) (names : ℕ) (product : U) (factors : List U) (a b : Val) (o : Option Derivation) → IsAppended F names product factors a b o → o ≡ None
    → EntailsFactor product (a ≐ b) → ⊥
not-appended F names product factors a b o h is e = subst (λ (q : Option Derivation). IsAppended F names product factors a b q) is h (factor-equality product a b e)

pub as-factor : (F : Facts) (names : ℕ) (product : U) (factors : List U) (wanted : U) → ((a b : Val) → wanted ≡ a ≐ b → ⊥) → (o : Option Derivation)
    → IsMarkGained F names product factors wanted o → IsFactorGained F names product factors wanted o
as-factor F names product factors wanted other None h = λ e. h (factor-mark product wanted other e)
as-factor F names product factors wanted other (Some d) h = h

-- up to the next place
pub next-place : (factors : List U) (wanted product : U) (place : ℕ) (u : U) → slice_get factors place ≡ Some u
    → ((k : ℕ) → k < place → (mark : U) → slice_get factors k ≡ Some mark → IsMark mark → Follows product mark wanted → ⊥)
    → (IsMark u → Follows product u wanted → ⊥)
    → (k : ℕ) → k < place + 1 → (mark : U) → slice_get factors k ≡ Some mark → IsMark mark → Follows product mark wanted → ⊥
next-place factors wanted product place u at before here k less mark there is f = elim (last-or-later place k (omega (arith, less))) [
  | inr low ↦ before k low mark there is f
  | inl same ↦
      let one : mark ≡ u = same_Some mark u (sym there ∙ ap (slice_get factors) same ∙ at) in
      here (subst IsMark one is) (subst (λ (w : U). Follows product w wanted) one f)
]
