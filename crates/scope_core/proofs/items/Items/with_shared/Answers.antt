use Rattle.std.proofs.Common.{◌≡◌, ◌++◌, [], length, ap, sym, ◌∙◌, ◌+◌}
use Rattle.std.proofs.lemmas.List.{length-append}
use Rattle.scope_core.specs.Written.{written}
use Rattle.scope_core.proofs.basics.Written.{written-shared}
use Rattle.scope_core.proofs.items.Items.with_shared.Goals as goal

pub returns : goal.returns
returns g c =
    let parts = c.in_ok-parts.parts.items in
    ap (λ xs. written c.push.new.self.items xs) c.new.ensures
    ∙ (ap (λ xs. written xs []) c.in_ok-push.ensures.items
    ∙ (written-shared parts c.args.values ∙ ap (λ xs. xs ++ c.args.values) (c.in_ok-parts.ensures ∙ c.self.view_is)))

pub invariant_of-result : goal.invariant_of-result
invariant_of-result g c =
    let own : c.self.inside.len ≡ length c.args.self = c.self.invariant ∙ ap length c.self.view_is in
    let more : c.len.result ≡ length c.args.values = c.len.ensures ∙ ap length c.get.ensures in
    c.in-Some.ensures.1
    ∙ (ap (λ n. n + c.len.result) own
    ∙ (ap (λ n. length c.args.self + n) more
    ∙ (sym (length-append c.args.self c.args.values) ∙ ap length (sym (returns g c)))))
