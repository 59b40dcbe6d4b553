use Rattle.std.proofs.Common.{◌≡◌, ◌++◌, ◌+◌, ◌∷◌, [], ap, sym, ◌∙◌, arith, append_assoc}
use Rattle.scope_core.specs.declared.tree.RVal.TheVariants as v
use Rattle.scope_core.specs.Runs.{columns_from}
use Rattle.scope_core.proofs.basics.Written.{columns_from-more}
use Rattle.scope_core.proofs.star.write_columns.Goals as goal

pub loop-col-preserved : goal.loop-col-preserved
loop-col-preserved c =
    let entry = c.args.entry in
    let col = c.loop-col.col in
    let before = c.args.columns.now.items in
    let e : 0 + col ≡ col = omega arith in
    let more : columns_from entry 0 (col + 1) ≡ columns_from entry 0 col ++ v.Col 0 entry col ∷ [] =
    columns_from-more entry 0 col 1 ∙ ap (λ n. columns_from entry 0 col ++ v.Col 0 entry n ∷ []) e in
    c.in_ok-push.ensures.items
    ∙ (ap (λ xs. xs ++ v.Col 0 entry col ∷ []) c.loop-col.invariant
    ∙ (append_assoc before (columns_from entry 0 col) (v.Col 0 entry col ∷ []) ∙ ap (λ xs. before ++ xs) (sym more)))
