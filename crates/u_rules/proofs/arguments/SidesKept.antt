-- The sides of an instance are closed, and have no names beside those of the arguments.
use Rattle.std.proofs.Common.{◌≡◌, ℕ, ◌+◌, ◌<◌, List, [], ◌∷◌, subst, sym, arith, inl, inr}
use Rattle.std.specs.Prelude.{nat_eq}
use Rattle.std.proofs.lemmas.Bool.{cases_Bool}
use Rattle.std.proofs.lemmas.Bool.Decides.{nat_tests}
use Rattle.data_model.specs.Lists.{Each}
use Rattle.u_terms.specs.Syntax.{U, Val, constructors}
use Rattle.u_terms.specs.declared.facts.Facts.{Facts}
use Rattle.u_terms.specs.Places.{IsClosed, IsClosedValue}
use Rattle.u_terms.specs.Names.{EachName, EachNameValue, IsFreeBelow}
use Rattle.u_terms.specs.Binding.{same_name, value_for_place}
use Rattle.u_terms.proofs.ClosedTerms.{IsClosed-Rel, IsClosed-Pred}
use Rattle.u_terms.proofs.Closedness.{closed-more, value_closed-more, closed-mapped, opened_with-closed}
use Rattle.u_rules.specs.declared.rule.Arg.{Arg}
use Rattle.u_rules.specs.declared.rule.Arg.TheVariants.{Term, Body, Value, Values, Num}
use Rattle.u_rules.specs.declared.rule.Rule.{Rule}
use Rattle.u_binder.specs.Changes.{moved, moved_at}
use Rattle.u_rules.specs.Terms.{turned}
use Rattle.u_rules.specs.Rows.{Instance, IsClosedArg, body_places}
use Rattle.u_rules.specs.Sides.{HasNames, AreNamed}
use Rattle.u_rules.proofs.arguments.Kept.{IsKept, KeptArg, sides-kept}
use Rattle.u_terms.proofs.MappedNames.{names-mapped, EachNameRow-list}

-- ---- places
moved-below : (a b k i : ℕ) → i < k + (a + b) → moved a b k i < k + (a + b)
moved-below a b k i h = grind (arith, nat_tests)

place_closed : (a b k i : ℕ) → i < k + (a + b) → IsClosedValue (k + (a + b)) (moved_at a b k i)
unfolding IsClosed
place_closed a b k i h = moved-below a b k i h

name_closed : (m k x : ℕ) → IsClosedValue m (same_name k x)
unfolding IsClosed
name_closed m k x = tt

turned-closed : (a b : ℕ) (f : U) → IsClosed (a + b) f → IsClosed (a + b) (turned a b f)
turned-closed a b f c =
    let e : 0 + (a + b) ≡ a + b = omega arith in
    subst (λ m. IsClosed m (turned a b f)) e
    (closed-mapped (moved_at a b) same_name (a + b) (a + b) (place_closed a b) (λ k x. name_closed (k + (a + b)) k x) f 0 (subst (λ m. IsClosed m f) (sym e) c))

closed-kept : IsKept IsClosed IsClosedValue
unfolding IsClosed constructors
closed-kept = record {
  zero_ = λ k. tt;
  one = λ k. tt;
  add = λ k a b ca cb. (ca, cb);
  mul = λ k a b ca cb. (ca, cb);
  squash = λ k a c. c;
  not = λ k a c. c;
  sum = λ k f c. c;
  rel = λ k table vs c. rw IsClosed-Rel c;
  eq = λ k a b ca cb. (ca, cb);
  pred = λ k symbol vs c. rw IsClosed-Pred c;
  bound = λ k i h. h;
  lit = λ k i. tt;
  more = λ k x c. closed-more x 0 k (omega arith) c;
  value_more = λ k a c. value_closed-more a 0 k (omega arith) c;
  put = λ e f ce cf. opened_with-closed f e ce cf;
  turned = turned-closed;
}

closed_args : (k : ℕ) (args : List Arg) → Each (IsClosedArg k) args → Each (KeptArg IsClosed IsClosedValue closed-kept k) args
closed_args k [] c = tt
closed_args k (Term x ∷ rest) c = (c.0, closed_args k rest c.1)
closed_args k (Body x ∷ rest) c = (c.0, closed_args k rest c.1)
closed_args k (Value x ∷ rest) c = (c.0, closed_args k rest c.1)
closed_args k (Values x ∷ rest) c = (c.0, closed_args k rest c.1)
closed_args k (Num x ∷ rest) c = (c.0, closed_args k rest c.1)

pub sides-closed : (F : Facts) (q : Rule) (args : List Arg) (l r : U) → Instance F q args l r → IsClosed 0 l × IsClosed 0 r
sides-closed F q args l r i = sides-kept IsClosed IsClosedValue closed-kept F q args l r i.row (closed_args (body_places q args) args i.closed)

-- ---- names
module _ (P : ℕ → Type 0) where
  value-named : (e : Val) (k i : ℕ) → EachNameValue P e → EachNameValue P (value_for_place e k i)
  unfolding EachName
  value-named e k i each = elim (cases_Bool (nat_eq i k)) [ inl here ↦ rw here each | inr other ↦ rw other tt ]

  name-named : (k x : ℕ) → P x → EachNameValue P (same_name k x)
  unfolding EachName
  name-named k x h = h

  moved-named : (a b k i : ℕ) → EachNameValue P (moved_at a b k i)
  unfolding EachName
  moved-named a b k i = tt

  names-kept : IsKept (λ k. EachName P) (λ k. EachNameValue P)
  unfolding EachName constructors
  names-kept = record {
    zero_ = λ k. tt;
    one = λ k. tt;
    add = λ k a b ca cb. (ca, cb);
    mul = λ k a b ca cb. (ca, cb);
    squash = λ k a c. c;
    not = λ k a c. c;
    sum = λ k f c. c;
    rel = λ k table vs c. rw (EachNameRow-list P vs) c;
    eq = λ k a b ca cb. (ca, cb);
    pred = λ k symbol vs c. rw (EachNameRow-list P vs) c;
    bound = λ k i h. tt;
    lit = λ k i. tt;
    more = λ k x c. c;
    value_more = λ k a c. c;
    put = λ e f ce cf. names-mapped P P (value_for_place e) same_name (λ k i. value-named e k i ce) name-named f 0 cf;
    turned = λ a b f c. names-mapped P P (moved_at a b) same_name (moved-named a b) name-named f 0 c;
  }

  named_args : (k : ℕ) (args : List Arg) → Each (HasNames P) args → Each (KeptArg (λ j. EachName P) (λ j. EachNameValue P) names-kept k) args
  named_args k [] c = tt
  named_args k (Term x ∷ rest) c = (c.0, named_args k rest c.1)
  named_args k (Body x ∷ rest) c = (c.0, named_args k rest c.1)
  named_args k (Value x ∷ rest) c = (c.0, named_args k rest c.1)
  named_args k (Values x ∷ rest) c = (c.0, named_args k rest c.1)
  named_args k (Num x ∷ rest) c = (c.0, named_args k rest c.1)

  pub sides-named : (F : Facts) (q : Rule) (args : List Arg) (l r : U) → Instance F q args l r → Each (HasNames P) args → EachName P l × EachName P r
  sides-named F q args l r i c = sides-kept (λ k. EachName P) (λ k. EachNameValue P) names-kept F q args l r i.row (named_args (body_places q args) args c)

pub sides-below : (bound : ℕ) (F : Facts) (q : Rule) (args : List Arg) (l r : U) → Instance F q args l r → AreNamed bound args → IsFreeBelow bound l × IsFreeBelow bound r
sides-below bound F q args l r i c = sides-named (λ name. name < bound) F q args l r i c

pub ruleset laws = (sides-closed, sides-below)
