use Rattle.std.proofs.Common.{rules, ◌≡◌, codes, string_bytes, inl, inr, refl, arith, length, sym, ◌∙◌}
use Rattle.std.specs.Prelude.{◌⊎◌}
use Rattle.udp_start.proofs.WordForms.{two, four, prove_long, prove_verb, prove_option}
use Rattle.udp_start.proofs.words.proof_words.Goals as goal
use Rattle.udp_start.proofs.words.proof_words.Goals.{in_default-via-then-words-lt2, in_default-via-in-len2+else-eq, in_default-via-else-words-lt2+else-words-lt3+then-words-lt4, in_default-via-in-len4+then-eq-2+else-eq-3, in_default-via-in-len4+else-eq-2, in_default-via-else-words-lt2+else-words-lt3+else-words-lt4+else-words-lt5}

pub returns-in-len2 : goal.returns-in-len2
returns-in-len2 c =
    let verb : string_bytes c.verb-item.result ≡ codes "prove" = search rules in
    inl (two c.args.words.now _ _ _ (omega arith) c.verb-item.is c.case-item.is verb (sym c.as_str-in-len2.ensures.value), refl)

pub returns-in_ok-budget-in-len4 : goal.returns-in_ok-budget-in-len4
returns-in_ok-budget-in-len4 c =
    let verb : string_bytes c.verb-item-then-words-lt5.result ≡ codes "prove" = search rules in
    let option : string_bytes c.option-item.result ≡ codes "--budget" = search rules in
    let found = c.in_ok-budget-in-len4.ensures {u = tt} in
    inr (
      four c.args.words.now _ _ _ _ _ _ (omega arith) c.verb-item-then-words-lt5.is c.case-item-then-words-lt5.is c.option-item.is c.number-item.is
          verb (sym c.as_str-in-len4.ensures.value) option (sym c.as_str-in-len4-2.ensures.value ∙ found.1),
      found.0,
    )

pub returns-in_default : goal.returns-in_default
returns-in_default c =
    elim c.in_default.branch [
      | in_default-via-then-words-lt2 w ↦ λ case budget h. let long : (length c.args.words.now ≡ 2) ⊎ (length c.args.words.now ≡ 4) = prove_long c.args.words.now case budget h in search rules
      | in_default-via-in-len2+else-eq w ↦ λ case budget h.
          let v : w.as_str.result.now ≡ codes "prove" = w.as_str.ensures.value ∙ prove_verb c.args.words.now case budget _ h w.verb-item.is in search rules
      | in_default-via-else-words-lt2+else-words-lt3+then-words-lt4 w ↦ λ case budget h. let long : (length c.args.words.now ≡ 2) ⊎ (length c.args.words.now ≡ 4) = prove_long c.args.words.now case budget h in search rules
      | in_default-via-in-len4+then-eq-2+else-eq-3 w ↦ λ case budget h.
          let v : w.as_str-then-eq-2.result.now ≡ codes "--budget" = w.as_str-then-eq-2.ensures.value ∙ prove_option c.args.words.now case budget _ h (omega arith) w.option-item.is in search rules
      | in_default-via-in-len4+else-eq-2 w ↦ λ case budget h.
          let v : w.as_str-then-words-lt5.result.now ≡ codes "prove" = w.as_str-then-words-lt5.ensures.value ∙ prove_verb c.args.words.now case budget _ h w.verb-item-then-words-lt5.is in search rules
      | in_default-via-else-words-lt2+else-words-lt3+else-words-lt4+else-words-lt5 w ↦ λ case budget h. let long : (length c.args.words.now ≡ 2) ⊎ (length c.args.words.now ≡ 4) = prove_long c.args.words.now case budget h in search rules
    ]
