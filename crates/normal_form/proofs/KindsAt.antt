-- Kinds at each constructor as code writes it.
use Rattle.std.proofs.Common.{◌≡◌, ℕ, true, false, List, Some, None, refl}
use Rattle.std.specs.Prelude.{if◌then◌else◌}
use Rattle.u_terms.specs.declared.term.U.TheVariants as u
use Rattle.u_terms.specs.Syntax.{U, Val, constructors}
use Rattle.normal_form.specs.declared.kind.Kind.TheVariants.{Mark, Atom, Squash, Negation}
use Rattle.normal_form.specs.Kinds.{is_truth, kind_of}

pub is_truth-Zero : is_truth u.Zero ≡ false
unfolding is_truth constructors
is_truth-Zero = refl

pub is_truth-One : is_truth u.One ≡ false
unfolding is_truth constructors
is_truth-One = refl

pub is_truth-Add : (a : U) (b : U) → is_truth (u.Add a b) ≡ false
unfolding is_truth constructors
is_truth-Add a b = refl

pub is_truth-Mul : (a : U) (b : U) → is_truth (u.Mul a b) ≡ false
unfolding is_truth constructors
is_truth-Mul a b = refl

pub is_truth-Squash : (a : U) → is_truth (u.Squash a) ≡ false
unfolding is_truth constructors
is_truth-Squash a = refl

pub is_truth-Not : (a : U) → is_truth (u.Not a) ≡ false
unfolding is_truth constructors
is_truth-Not a = refl

pub is_truth-Sum : (body : U) → is_truth (u.Sum body) ≡ false
unfolding is_truth constructors
is_truth-Sum body = refl

pub is_truth-Rel : (table : ℕ) (vs : List Val) → is_truth (u.Rel table vs) ≡ false
unfolding is_truth constructors
is_truth-Rel table vs = refl

pub is_truth-Eq : (a : Val) (b : Val) → is_truth (u.Eq a b) ≡ true
unfolding is_truth constructors
is_truth-Eq a b = refl

pub is_truth-Pred : (symbol : ℕ) (vs : List Val) → is_truth (u.Pred symbol vs) ≡ true
unfolding is_truth constructors
is_truth-Pred symbol vs = refl

pub kind_of-Zero : kind_of u.Zero ≡ None
unfolding kind_of constructors
kind_of-Zero = refl

pub kind_of-One : kind_of u.One ≡ None
unfolding kind_of constructors
kind_of-One = refl

pub kind_of-Add : (a : U) (b : U) → kind_of (u.Add a b) ≡ None
unfolding kind_of constructors
kind_of-Add a b = refl

pub kind_of-Mul : (a : U) (b : U) → kind_of (u.Mul a b) ≡ None
unfolding kind_of constructors
kind_of-Mul a b = refl

pub kind_of-Squash : (a : U) → kind_of (u.Squash a) ≡ Some Squash
unfolding kind_of constructors
kind_of-Squash a = refl

pub kind_of-Not : (a : U) → kind_of (u.Not a) ≡ Some (if is_truth a then Mark else Negation)
unfolding kind_of constructors
kind_of-Not a = refl

pub kind_of-Sum : (body : U) → kind_of (u.Sum body) ≡ None
unfolding kind_of constructors
kind_of-Sum body = refl

pub kind_of-Rel : (table : ℕ) (vs : List Val) → kind_of (u.Rel table vs) ≡ Some Atom
unfolding kind_of constructors
kind_of-Rel table vs = refl

pub kind_of-Eq : (a : Val) (b : Val) → kind_of (u.Eq a b) ≡ Some Mark
unfolding kind_of constructors
kind_of-Eq a b = refl

pub kind_of-Pred : (symbol : ℕ) (vs : List Val) → kind_of (u.Pred symbol vs) ≡ Some Mark
unfolding kind_of constructors
kind_of-Pred symbol vs = refl

pub ruleset kinds_at = (is_truth-Zero, is_truth-One, is_truth-Add, is_truth-Mul, is_truth-Squash, is_truth-Not, is_truth-Sum, is_truth-Rel, is_truth-Eq, is_truth-Pred, kind_of-Zero, kind_of-One, kind_of-Add, kind_of-Mul, kind_of-Squash, kind_of-Not, kind_of-Sum, kind_of-Rel, kind_of-Eq, kind_of-Pred)
