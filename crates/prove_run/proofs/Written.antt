-- The text of a derivation that keeps the limits is a proof of its ends.
use Rattle.std.proofs.Common.{ℕ, List, subst}
use Rattle.std.specs.Prelude.{Option}
use Rattle.u_terms.specs.Syntax.{U}
use Rattle.u_terms.specs.declared.facts.Facts.{Facts}
use Rattle.u_moves.specs.Derivations.{Derivation}
use Rattle.u_prover.specs.Proving.{IsFound, KeepsLimits}
use Rattle.proof_text.specs.Written.{ProofText, proof_text}
use Rattle.prove_run.specs.declared.proving.Searched.{Searched}
use Rattle.prove_run.specs.Proving.{IsProof, IsSearched}

pub derivation-proof : (d : Derivation) → KeepsLimits d → ProofText (proof_text d.outs d.steps) d.outs d.steps → IsProof d.facts d.outs d.from d.to (proof_text d.outs d.steps)
derivation-proof d keeps spelled = record {
  short = keeps.short;
  accepted = record { steps = d.steps; text = spelled; few = keeps.few; fit = keeps.fit };
}

-- what is searched of the ends of a derivation that was found is searched of the terms
pub found-searched : (F : Facts) (outs : ℕ) (left right : U) (d : Derivation) → IsFound F outs left right d → (budget : ℕ) (old new : Option (List ℕ)) (b n : ℕ) (r : Searched)
    → IsSearched d.facts d.outs d.from d.to budget old new b n r → IsSearched F outs left right budget old new b n r
found-searched F outs left right d found budget old new b n r h =
    subst (λ (G : Facts). IsSearched G outs left right budget old new b n r) found.facts
    (subst (λ (m : ℕ). IsSearched d.facts m left right budget old new b n r) found.outs
    (subst (λ (t : U). IsSearched d.facts d.outs t right budget old new b n r) found.from
    (subst (λ (t : U). IsSearched d.facts d.outs d.from t budget old new b n r) found.to h)))
