-- From derivations between terms to what is reached.
use Rattle.std.proofs.Common.{◌≡◌, ℕ, sym, subst, ◌∙◌}
use Rattle.u_terms.specs.Syntax.{U}
use Rattle.u_terms.specs.declared.facts.Facts.{Facts}
use Rattle.u_moves.specs.Derivations.{Derivation}
use Rattle.u_congruence.specs.Congruence.{IsFromTo}
use Rattle.u_normal.specs.Leading.{Leads}

pub leads-to : (P : U → Type 0) (F F' : Facts) (outs n : ℕ) (first first' last : U) → F' ≡ F → n ≡ outs → first' ≡ first → P last → (d : Derivation) → IsFromTo F' n first' last d → Leads P F outs first d
leads-to P F F' outs n first first' last ef en e h d x = record { facts = x.facts ∙ ef; outs = x.outs ∙ en; from = x.from ∙ e; reached = subst P (sym x.to) h }

pub leads-more : (P Q : U → Type 0) (F : Facts) (outs : ℕ) (first : U) → ((t : U) → P t → Q t) → (d : Derivation) → Leads P F outs first d → Leads Q F outs first d
leads-more P Q F outs first keeps d x = record { facts = x.facts; outs = x.outs; from = x.from; reached = keeps d.to x.reached }

pub leads-then : (P Q : U → Type 0) (F : Facts) (outs : ℕ) (first : U) (d e x : Derivation) → Leads P F outs first d → (P d.to → Q e.to) → IsFromTo d.facts d.outs d.from e.to x → Leads Q F outs first x
leads-then P Q F outs first d e x led keeps joined = record {
  facts = joined.facts ∙ led.facts;
  outs = joined.outs ∙ led.outs;
  from = joined.from ∙ led.from;
  reached = subst Q (sym joined.to) (keeps led.reached);
}

pub same-ends : (F F' : Facts) (outs n : ℕ) (first first' last last' : U) → F' ≡ F → n ≡ outs → first' ≡ first → last' ≡ last → (d : Derivation) → IsFromTo F' n first' last' d → IsFromTo F outs first last d
same-ends F F' outs n first first' last last' ef en e g d x = record { facts = x.facts ∙ ef; outs = x.outs ∙ en; from = x.from ∙ e; to = x.to ∙ g }

pub leads-same : (P : U → Type 0) (F F' : Facts) (outs n : ℕ) (first first' : U) → F' ≡ F → n ≡ outs → first' ≡ first → (d : Derivation) → Leads P F' n first' d → Leads P F outs first d
leads-same P F F' outs n first first' ef en e d x = record { facts = x.facts ∙ ef; outs = x.outs ∙ en; from = x.from ∙ e; reached = x.reached }
