-- What holds of terms as long as there is room for them.
use Rattle.std.proofs.Common.{◌≡◌, ℕ, ◌≤◌, ◌<◌, ◌⊎◌, inl, inr, true, false, ap, arith}
use Rattle.std.proofs.lemmas.Bool.{cases_lt}
use Rattle.u_terms.specs.declared.facts.Facts.{Facts}
use Rattle.u_terms.specs.Syntax.{U}
use Rattle.u_terms.specs.Size.{nodes}
use Rattle.u_terms.specs.Binding.{closed_at}
use Rattle.u_terms.proofs.MappedSizes.{closed_at-nodes}
use Rattle.u_terms.proofs.Sizes.{nodes-Add, nodes-Mul, nodes-Squash, nodes-Not, nodes-Sum}
use Rattle.u_rules.specs.Terms.{◌⊗◌, ◌⊕◌, S, neg, sq}
use Rattle.u_moves.specs.Derivations.{Derivation}
use Rattle.normal_form.proofs.Renamed.{added-closed}
use Rattle.u_normal.specs.Leading.{Leads}
use Rattle.u_normal.specs.Rooms.{InRoom, BecomesInRoom, beside}
use Rattle.u_normal.specs.Summing.{IsBlockSum, IsSumOverBlocks}
use Rattle.u_normal.specs.Values.{LeadsOn}

pub within : (room : ℕ) (P : U → Type 0) (u : U) → P u → InRoom room P u
within room P u h = record { fits = λ small. h }

pub within-over : (room : ℕ) (P : U → Type 0) (u : U) → room < nodes u → InRoom room P u
within-over room P u over = record { fits = λ small. absurd (omega (arith, small, over)) }

within-by : (room : ℕ) (u : U) → (room < nodes u) ⊎ (nodes u ≤ room) → (room < nodes u → false ≡ true) → nodes u ≤ room
within-by room u (inr small) h = small
within-by room u (inl over) h = let e : false ≡ true = h over in absurd (cc)

pub not-over : (room : ℕ) (u : U) → (room < nodes u → false ≡ true) → nodes u ≤ room
not-over room u h = within-by room u (cases_lt room (nodes u)) h

-- ---- derivations that end so
pub leads-over : (room : ℕ) (P Q : U → Type 0) (F : Facts) (outs : ℕ) (first : U) (d : Derivation) → room < nodes d.to → Leads P F outs first d → Leads (InRoom room Q) F outs first d
leads-over room P Q F outs first d over h = record { facts = h.facts; outs = h.outs; from = h.from; reached = within-over room Q d.to over }

pub leads-within : (room : ℕ) (P : U → Type 0) (F : Facts) (outs : ℕ) (first : U) (d : Derivation) → Leads P F outs first d → Leads (InRoom room P) F outs first d
leads-within room P F outs first d h = record { facts = h.facts; outs = h.outs; from = h.from; reached = within room P d.to h.reached }

pub leads-in : (room : ℕ) (P : U → Type 0) (F : Facts) (outs : ℕ) (first : U) (d : Derivation) → nodes d.to ≤ room → Leads (InRoom room P) F outs first d → Leads P F outs first d
leads-in room P F outs first d small h = record { facts = h.facts; outs = h.outs; from = h.from; reached = h.reached.fits small }

pub led-over : (room : ℕ) (P Q : U → U → Type 0) (whole d : Derivation) → room < nodes d.to → LeadsOn P whole d → LeadsOn (BecomesInRoom room Q) whole d
led-over room P Q whole d over h = record { facts = h.facts; outs = h.outs; from = h.from; reached = record { fits = λ small. absurd (omega (arith, small, over)) } }

pub led-in : (room : ℕ) (P : U → U → Type 0) (whole d : Derivation) → nodes d.to ≤ room → LeadsOn (BecomesInRoom room P) whole d → LeadsOn P whole d
led-in room P whole d small h = record { facts = h.facts; outs = h.outs; from = h.from; reached = h.reached.fits small }

pub led-within : (room : ℕ) (P : U → U → Type 0) (whole d : Derivation) → LeadsOn P whole d → LeadsOn (BecomesInRoom room P) whole d
led-within room P whole d h = record { facts = h.facts; outs = h.outs; from = h.from; reached = record { fits = λ small. h.reached } }

pub led-fits : (room : ℕ) (P Q : U → U → Type 0) (whole : Derivation) → ((a b : U) → nodes b ≤ room → P a b → Q a b) → (d : Derivation) → LeadsOn P whole d → LeadsOn (BecomesInRoom room Q) whole d
led-fits room P Q whole keeps d h = record { facts = h.facts; outs = h.outs; from = h.from; reached = record { fits = λ small. keeps whole.to d.to small h.reached } }

-- ---- wholes and their parts
module _ (room : ℕ) (P Q : U → Type 0) where
  pub squash-within : (a : U) → (P a → Q (sq a)) → InRoom room P a → InRoom room Q (sq a)
  squash-within a keeps h = record { fits = λ small. keeps (h.fits (omega (arith, small, nodes-Squash a))) }

  pub not-within : (a : U) → (P a → Q (neg a)) → InRoom room P a → InRoom room Q (neg a)
  not-within a keeps h = record { fits = λ small. keeps (h.fits (omega (arith, small, nodes-Not a))) }

pub mul-within : (room : ℕ) (P Q R : U → Type 0) (a b : U) → (P a → Q b → R (a ⊗ b)) → InRoom room P a → InRoom (beside room a) Q b → InRoom room R (a ⊗ b)
mul-within room P Q R a b keeps h k = record { fits = λ small. keeps (h.fits (omega (arith, small, nodes-Mul a b))) (k.fits (omega (arith, small, nodes-Mul a b))) }

pub add-within : (room : ℕ) (P Q R : U → Type 0) (a b : U) → (P a → Q b → R (a ⊕ b)) → InRoom room P a → InRoom (beside room a) Q b → InRoom room R (a ⊕ b)
add-within room P Q R a b keeps h k = record { fits = λ small. keeps (h.fits (omega (arith, small, nodes-Add a b))) (k.fits (omega (arith, small, nodes-Add a b))) }

pub sum-within : (room outs : ℕ) (a t : U) → t ≡ S (closed_at a outs) → InRoom room IsBlockSum a → InRoom room IsSumOverBlocks t
sum-within room outs a t e h = record {
  fits = λ small. record {
    body = closed_at a outs;
    is = e;
    sum = record { blocks = added-closed outs a (h.fits (omega (arith, small, ap nodes e, nodes-Sum (closed_at a outs), closed_at-nodes a outs))).blocks };
  };
}
