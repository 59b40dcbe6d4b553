-- A grammar in the languages of another one, and readers within languages that are put together alike.
use Rattle.std.proofs.Common.{ℕ, zero, suc, []}
use Rattle.grammar.specs.Language.{Language, Includes, seq_language, alt_language, no_language}
use Rattle.grammar.specs.Form.{Rules, Room, IsRoomier, form_language, language_within, language}
use Rattle.grammar.proofs.languages.Forms.{includes_through, includes_nothing, form_grows, seq_in, alt_in}
use Rattle.grammar.proofs.languages.Prefixes.{seq_prefixes, alt_prefixes, no_prefixes}
use Rattle.grammar.proofs.readers.Steps.{IsWithin}
use Rattle.grammar.proofs.languages.Heights.{from_rule, name_prefixes, spelled_at, prefix_at, same_room}
use Rattle.grammar.proofs.factorings.Alike.{Below}

-- ---- all names at once

-- where each production of the left-factored grammar is included in the rules' languages, so is the left-factored grammar
module _ {T K N : Type 0} {V : N → Type 0} (kind : T → K) (factored rules : Rules T K N V)
    (closed : (room : Room) (n : N) → Includes (language kind rules room n) (form_language kind (language kind rules) room (factored n))) where
  within_rules : (h : ℕ) (small large : Room) → IsRoomier small large → (n : N) → Includes (language kind rules large n) (language_within kind factored h small n)
  within_rules zero small large w n = includes_nothing _ (name_prefixes kind rules large n).empty
  within_rules (suc h) small large w n =
      includes_through _ _ _ (form_grows kind (language_within kind factored h) (language kind rules) (name_prefixes kind rules) (within_rules h) (factored n) small large w) (closed large n)

  factored_included : (room : Room) (n : N) → Includes (language kind rules room n) (language kind factored room n)
  factored_included room n = record {
    spells = λ ts v s. let p = spelled_at kind factored room n ts v s in (within_rules p.0 room room (same_room room) n).spells ts v p.1;
    prefix = λ ts f. let p = prefix_at kind factored room n ts f in (within_rules p.0 room room (same_room room) n).prefix ts p.1;
  }

-- so where each production of the left-factored grammar is below that of the rules
pub below_included : {T K N : Type 0} {V : N → Type 0} (kind : T → K) (factored rules : Rules T K N V) → ((n : N) → Below kind (language kind rules) (factored n) (rules n)) → (room : Room) (n : N)
    → Includes (language kind rules room n) (language kind factored room n)
below_included kind factored rules below = factored_included kind factored rules (λ room n. includes_through _ _ _ ((below n).holds room) (from_rule kind rules room n))

-- ---- within a language

pub seq_within : {T A C : Type 0} (U B : Language T A) (W D : Language T C) → IsWithin U B → IsWithin W D → IsWithin (seq_language U W) (seq_language B D)
seq_within U B W D l m = record {
  includes = seq_in B U D W l.includes m.includes;
  prefixes = seq_prefixes B D l.prefixes m.prefixes;
}

pub alt_within : {T A : Type 0} (U B W D : Language T A) → IsWithin U B → IsWithin W D → IsWithin (alt_language U W) (alt_language B D)
alt_within U B W D l m = record { includes = alt_in B U D W l.includes m.includes; prefixes = alt_prefixes B D l.prefixes m.prefixes }

pub nothing_within : {T A : Type 0} (U : Language T A) → U.prefix [] → IsWithin U no_language
nothing_within U f = record { includes = includes_nothing U f; prefixes = no_prefixes }
