-- What a search for a proof of two terms comes to.
use Rattle.std.specs.Prelude.{◌≡◌, ℕ, ◌≤◌, List, Option, length}
use Rattle.u_terms.specs.Syntax.{U}
use Rattle.u_terms.specs.declared.facts.Facts.{Facts}
use Rattle.udp_io.specs.Faults.{Rose}
use Rattle.udp_io.specs.Writing.{Grows, GrowsByPrefix}
use Rattle.proof_check.specs.Accepted.{Accepted}
use Rattle.u_prover.specs.Proving.{IsUnknown, most_proof_bytes}
use Rattle.prove_run.specs.declared.proving.Searched.{Searched}
use Rattle.prove_run.specs.declared.proving.Searched.TheVariants.{Proved, Unknown, WriteFault, NoMemory}

-- the text is within its length, and accepted for the terms
pub record IsProof (facts : Facts) (outs : ℕ) (left right : U) (text : List ℕ) : Type 0 where
  pub short : length text ≤ most_proof_bytes
  pub accepted : Accepted facts outs left right text

-- by what a sink held and holds, where it tells it, and how many faults it had and has
abbrev pub IsSearched : Facts → ℕ → U → U → ℕ → Option (List ℕ) → Option (List ℕ) → ℕ → ℕ → Searched → Type 0
IsSearched facts outs left right budget old new before now Proved = (text : List ℕ) × IsProof facts outs left right text × Grows old new text
IsSearched facts outs left right budget old new before now (Unknown spent) = (new ≡ old) × (now ≡ before) × IsUnknown facts outs left right budget spent
IsSearched facts outs left right budget old new before now WriteFault =
    (text : List ℕ) × IsProof facts outs left right text × Rose before now × GrowsByPrefix old new text
IsSearched facts outs left right budget old new before now NoMemory = (new ≡ old) × (now ≡ before)
