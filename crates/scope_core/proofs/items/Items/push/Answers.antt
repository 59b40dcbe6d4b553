use Rattle.std.proofs.Common.{◌++◌, ◌∷◌, [], length, ap, sym, ◌∙◌, ◌+◌}
use Rattle.scope_core.specs.Written.{written}
use Rattle.scope_core.proofs.basics.Written.{length-more, written-more}
use Rattle.scope_core.proofs.items.Items.push.Goals as goal

pub invariant_of-self-2 : goal.invariant_of-self-2
invariant_of-self-2 g c =
    let parts = c.self.inside.parts.items in
    let last = c.self.inside.last in
    c.in-Some.ensures.1 ∙ (ap (λ n. n + 1) c.self.invariant ∙ (sym (length-more parts last c.args.value) ∙ ap (λ xs. length (written parts xs)) (sym c.in_ok-push.ensures.ok)))

pub returns : goal.returns
returns g c =
    let parts = c.self.inside.parts.items in
    let last = c.self.inside.last in
    ap (λ xs. written parts xs) c.in_ok-push.ensures.ok ∙ (written-more parts last (c.args.value ∷ []) ∙ ap (λ xs. xs ++ c.args.value ∷ []) c.self.view_is)
