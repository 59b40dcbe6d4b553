-- The first fault along a list of sites or parts.
use Rattle.std.proofs.Common.{◌≡◌, ℕ, ◌+◌, List, [], ◌∷◌, ◌++◌, drop, Option, Some, None, Result, Ok, Err, refl, ap, sym, subst, ◌∙◌}
use Rattle.std.specs.Prelude.{IfErr, IfOk, IsErr, IsErrAnd}
use Rattle.std.specs.Option.{option_or}
use Rattle.scope_core.specs.declared.fault.ScopeFault.{ScopeFault}
use Rattle.scope_core.specs.Sites.{Site}
use Rattle.scope_core.specs.FirstFault.{fault_at, first_fault}
use Rattle.scope_core.specs.Answer.{IsCause}
use Rattle.scope_core.proofs.basics.Booleans.{no}

pub or-assoc : {X : Type 0} (a b c : Option X) → option_or (option_or a b) c ≡ option_or a (option_or b c)
or-assoc None b c = refl
or-assoc (Some x) b c = refl

or-none : {X : Type 0} (a : Option X) → option_or a None ≡ a
or-none None = refl
or-none (Some x) = refl

pub first_fault-append : (a b : List Site) → first_fault (a ++ b) ≡ option_or (first_fault a) (first_fault b)
first_fault-append [] b = refl
first_fault-append (site ∷ a) b = rw (first_fault-append a b) (sym (or-assoc (fault_at site) (first_fault a) (first_fault b)))

pub first_fault-one : (site : Site) → first_fault (site ∷ []) ≡ fault_at site
first_fault-one site = or-none (fault_at site)

pub first_fault-three : (a b : List Site) (site : Site)
    → first_fault (a ++ b ++ site ∷ []) ≡ option_or (first_fault a) (option_or (first_fault b) (fault_at site))
first_fault-three a b site =
    first_fault-append (a ++ b) (site ∷ [])
    ∙ (rw (first_fault-append a b, first_fault-one site) (or-assoc (first_fault a) (first_fault b) (fault_at site)))

-- ---- a fault of two parts in a row
pub cause-first : (f : ScopeFault) (whole a b : Option ScopeFault) → whole ≡ option_or a b → IsCause f a → IsCause f whole
unfolding IsCause
cause-first f whole a b e h = λ ne. e ∙ ap (λ o. option_or o b) (h ne)

pub cause-second : (f : ScopeFault) (whole a b : Option ScopeFault) → whole ≡ option_or a b → a ≡ None → IsCause f b → IsCause f whole
unfolding IsCause
cause-second f whole a b e none h = λ ne. e ∙ (ap (λ o. option_or o b) none ∙ h ne)

pub cause-same : (f : ScopeFault) (whole a : Option ScopeFault) → whole ≡ a → IsCause f a → IsCause f whole
unfolding IsCause
cause-same f whole a e h = λ ne. e ∙ h ne

pub no-fault-both : (whole a b : Option ScopeFault) → whole ≡ option_or a b → a ≡ None → b ≡ None → whole ≡ None
no-fault-both whole a b e none none' = e ∙ (ap (λ o. option_or o b) none ∙ none')

-- ---- along a list, where the fault of a list is that of its first item or of the others
module _ {X : Type 0} (fault : List X → Option ScopeFault) (xs : List X) (i : ℕ) (whole : Option ScopeFault) where
  pub fault-step : (x : X) (here : Option ScopeFault) → fault (drop i xs) ≡ option_or here (fault (drop (i + 1) xs)) → here ≡ None
      → fault (drop i xs) ≡ whole → fault (drop (i + 1) xs) ≡ whole
  fault-step x here e none invariant = sym (e ∙ ap (λ o. option_or o (fault (drop (i + 1) xs))) none) ∙ invariant

  pub fault-here : (f : ScopeFault) (here : Option ScopeFault) → fault (drop i xs) ≡ option_or here (fault (drop (i + 1) xs)) → IsCause f here
      → fault (drop i xs) ≡ whole → IsCause f whole
  fault-here f here e h invariant = cause-first f whole here (fault (drop (i + 1) xs)) (sym invariant ∙ e) h

-- ---- what a `?` hands on
pub handed_on : {T : Type 0} (r : Result T ScopeFault) (f : ScopeFault) (P : ScopeFault → Type 0) → IsErrAnd r (λ g. g ≡ f) → P f → IfErr r P
handed_on (Ok x) f P h p = absurd h
handed_on (Err g) f P h p = subst P (sym h) p

-- there is no value of which anything is to be said
pub no_value : {T : Type 0} (r : Result T ScopeFault) (P : T → Type 0) → IsErr r → IfOk r P
no_value (Ok x) P h = absurd (no (sym h))
no_value (Err g) P h = tt
