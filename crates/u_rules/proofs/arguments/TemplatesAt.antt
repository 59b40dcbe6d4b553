-- Rows by the kinds of arguments.
use Rattle.std.proofs.Common.{◌≡◌, Bool, true, false, List, [], ◌∷◌, Option, Some, None, refl, ap, sym, ◌∙◌, subst}
use Rattle.u_terms.specs.Syntax.{U}
use Rattle.u_rules.specs.declared.rule.Arg.{Arg}
use Rattle.u_rules.specs.declared.rule.Arg.TheVariants.{Term, Body, Value, Values, Num}
use Rattle.u_rules.specs.declared.forms.Kind.{Kind}
use Rattle.u_rules.specs.declared.forms.Kind.TheVariants as kind
use Rattle.u_rules.specs.Terms.{O}
use Rattle.u_rules.specs.Sides.{side_of}
use Rattle.u_rules.specs.Rows.{Row}
use Rattle.u_rules.specs.declared.forms.Template.{Template}
use Rattle.u_rules.specs.Templates.{denote, template_row, by_kinds, fits}

-- ---- rows by kinds
abbrev pub Filled : List Kind → List Arg → (List Arg → U) → (List Arg → U) → Bool → Type 0
Filled ks args l r true = by_kinds ks l r args ≡ Some (record { fault = None; left = l args; right = r args })
Filled ks args l r false = by_kinds ks l r args ≡ None

pub filled : (ks : List Kind) (args : List Arg) (l r : List Arg → U) → Filled ks args l r (fits ks args)
filled [] [] l r = refl
filled [] (a ∷ args) l r = refl
filled (kind.Term ∷ ks) [] l r = refl
filled (kind.Body ∷ ks) [] l r = refl
filled (kind.Value ∷ ks) [] l r = refl
filled (kind.Values ∷ ks) [] l r = refl
filled (kind.Num ∷ ks) [] l r = refl
filled (kind.Term ∷ ks) (Term x ∷ args) l r = filled ks args (λ rest. l (Term x ∷ rest)) (λ rest. r (Term x ∷ rest))
filled (kind.Term ∷ ks) (Body x ∷ args) l r = refl
filled (kind.Term ∷ ks) (Value x ∷ args) l r = refl
filled (kind.Term ∷ ks) (Values x ∷ args) l r = refl
filled (kind.Term ∷ ks) (Num x ∷ args) l r = refl
filled (kind.Body ∷ ks) (Body x ∷ args) l r = filled ks args (λ rest. l (Body x ∷ rest)) (λ rest. r (Body x ∷ rest))
filled (kind.Body ∷ ks) (Term x ∷ args) l r = refl
filled (kind.Body ∷ ks) (Value x ∷ args) l r = refl
filled (kind.Body ∷ ks) (Values x ∷ args) l r = refl
filled (kind.Body ∷ ks) (Num x ∷ args) l r = refl
filled (kind.Value ∷ ks) (Value x ∷ args) l r = filled ks args (λ rest. l (Value x ∷ rest)) (λ rest. r (Value x ∷ rest))
filled (kind.Value ∷ ks) (Term x ∷ args) l r = refl
filled (kind.Value ∷ ks) (Body x ∷ args) l r = refl
filled (kind.Value ∷ ks) (Values x ∷ args) l r = refl
filled (kind.Value ∷ ks) (Num x ∷ args) l r = refl
filled (kind.Values ∷ ks) (Values x ∷ args) l r = filled ks args (λ rest. l (Values x ∷ rest)) (λ rest. r (Values x ∷ rest))
filled (kind.Values ∷ ks) (Term x ∷ args) l r = refl
filled (kind.Values ∷ ks) (Body x ∷ args) l r = refl
filled (kind.Values ∷ ks) (Value x ∷ args) l r = refl
filled (kind.Values ∷ ks) (Num x ∷ args) l r = refl
filled (kind.Num ∷ ks) (Num x ∷ args) l r = filled ks args (λ rest. l (Num x ∷ rest)) (λ rest. r (Num x ∷ rest))
filled (kind.Num ∷ ks) (Term x ∷ args) l r = refl
filled (kind.Num ∷ ks) (Body x ∷ args) l r = refl
filled (kind.Num ∷ ks) (Value x ∷ args) l r = refl
filled (kind.Num ∷ ks) (Values x ∷ args) l r = refl

pub fitting : (t : Template) (args : List Arg) → fits t.kinds.now args ≡ true → template_row t args ≡ Some (record { fault = None; left = denote args t.left; right = denote args t.right })
fitting t args e = subst (Filled t.kinds.now args (λ args. denote args t.left) (λ args. denote args t.right)) e (filled t.kinds.now args (λ args. denote args t.left) (λ args. denote args t.right))

pub misfitting : (t : Template) (args : List Arg) → fits t.kinds.now args ≡ false → template_row t args ≡ None
misfitting t args e = subst (Filled t.kinds.now args (λ args. denote args t.left) (λ args. denote args t.right)) e (filled t.kinds.now args (λ args. denote args t.left) (λ args. denote args t.right))

-- ---- the sides of an instance
left_of : Option Row → U
left_of None = O
left_of (Some r) = r.left

right_of : Option Row → U
right_of None = O
right_of (Some r) = r.right

pub side-chosen : (turned : Bool) (l r x y : U) → (l ≡ x) × (r ≡ y) → side_of turned l r ≡ side_of turned x y
side-chosen true l r x y e = e.1
side-chosen false l r x y e = e.0

pub row-sides : (o : Option Row) (l r x y : U) → o ≡ Some (record { fault = None; left = l; right = r }) → o ≡ Some (record { fault = None; left = x; right = y }) → (l ≡ x) × (r ≡ y)
unfolding left_of right_of
row-sides o l r x y e f = (ap left_of (sym e ∙ f), ap right_of (sym e ∙ f))
