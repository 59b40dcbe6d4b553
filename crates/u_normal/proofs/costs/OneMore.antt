-- A derivation, and one step more at most.
use Rattle.std.proofs.Common.{◌≡◌, ℕ, List, ◌++◌, length, ap, sym, subst, ◌∙◌, arith}
use Rattle.std.proofs.lemmas.List.{length-append}
use Rattle.u_terms.specs.Syntax.{U}
use Rattle.u_terms.specs.Size.{nodes, depth}
use Rattle.u_terms.specs.declared.facts.Facts.{Facts}
use Rattle.u_rules.specs.declared.rule.Arg.{Arg}
use Rattle.u_rules.specs.declared.rule.Rule.{Rule}
use Rattle.u_rules.specs.declared.rule.Rule.TheVariants as rule
use Rattle.u_moves.specs.Derivations.{Derivation, IsSound, IsOneStep, IsJoined}
use Rattle.u_moves.specs.Moving.{root_step}
use Rattle.u_moves.proofs.derivations.Plain.{joined-plain, move-plain}
use Rattle.u_moves.proofs.derivations.Sound.{last-within}
use Rattle.u_normal.specs.Leading.{IsOneMore}

pub none-more : (d : Derivation) → IsOneMore d d
none-more d = record { few = omega arith; small = omega arith; shallow = omega arith; plain = λ each. each }

pub one-more : (F : Facts) (outs : ℕ) (before made d : Derivation) (last : U) (q : Rule) (args : List Arg) → (q ≡ rule.SqFix → ⊥) → (q ≡ rule.SumUse → ⊥) → IsSound before → IsOneStep F outs before.to (root_step q args) last made
    → d.steps ≡ before.steps ++ made.steps → IsJoined before made d → d.to ≡ made.to → IsOneMore before d
one-more F outs before made d last q args proves uses sound one steps joined to =
    let within = last-within before sound in
    record {
      few = omega (arith, ap length steps, length-append before.steps made.steps, ap length one.steps);
      small = omega (arith, joined.nodes, one.nodes, within.few, ap nodes to, ap nodes one.to);
      shallow = omega (arith, joined.depth, one.depth, within.shallow, ap depth to, ap depth one.to);
      plain = λ each. joined-plain before made d steps each (move-plain q args made proves uses one.steps);
    }

pub more-of : (F : Facts) (outs : ℕ) (before first made d : Derivation) (from last : U) (q : Rule) (args : List Arg) → (q ≡ rule.SqFix → ⊥) → (q ≡ rule.SumUse → ⊥) → first ≡ before → IsSound before → from ≡ before.to → IsOneStep F outs from (root_step q args) last made
    → d.steps ≡ first.steps ++ made.steps → IsJoined first made d → d.to ≡ made.to → (x : Derivation) → x ≡ d → IsOneMore before x
more-of F outs before first made d from last q args proves uses is sound e one steps joined to x same =
    subst (λ (y : Derivation). IsOneMore before y) (sym same)
    (one-more F outs before made d last q args proves uses sound (subst (λ (t : U). IsOneStep F outs t (root_step q args) last made) e one)
    (steps ∙ ap (λ (y : Derivation). y.steps ++ made.steps) is) (subst (λ (y : Derivation). IsJoined y made d) is joined) to)
