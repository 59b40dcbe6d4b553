use Rattle.std.proofs.Common.{◌++◌, ◌∷◌, [], ap, sym, ◌∙◌}
use Rattle.scope_core.specs.declared.tree.RVal.TheVariants as v
use Rattle.scope_core.specs.Runs.{columns_from}
use Rattle.scope_core.proofs.basics.Written.{columns_from-more}
use Rattle.scope_core.proofs.run.written_columns.Goals as goal

pub loop-place-preserved : goal.loop-place-preserved
loop-place-preserved c =
    let run = c.args.run in
    let place = c.loop-place.place in
    c.in_ok-push.ensures.items
    ∙ (ap (λ xs. xs ++ v.Col 0 run.entry c.in-Some.col ∷ []) c.loop-place.invariant
    ∙ (ap (λ n. columns_from run.entry run.first place ++ v.Col 0 run.entry n ∷ []) c.in-Some.ensures.1
    ∙ sym (columns_from-more run.entry run.first place 1)))
