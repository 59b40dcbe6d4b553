use Rattle.std.proofs.Common.{◌≡◌, ◌++◌, ◌∷◌, [], false, ◌||◌, ◌+◌, take, option_map, ap, sym, subst, ◌∙◌}
use Rattle.std.specs.List.{list_any}
use Rattle.sql_model.specs.Columns.{is_called}
use Rattle.scope_core.specs.Directed.{Widens}
use Rattle.scope_core.specs.Names.{is_one_of, names_of}
use Rattle.scope_core.proofs.basics.NamedColumns.{any-more, but-unnamed, one-more, one-of-more}
use Rattle.scope_core.proofs.sources.gather.Goals as goal
use Rattle.scope_core.proofs.sources.gather.Goals.{in-Some+in_ok-push, in_default}

pub loop-name-preserved : goal.loop-name-preserved
loop-name-preserved c =
    let before = c.loop-name.outside.items in
    let items = c.args.columns.now in
    let i = c.loop-name.name-index in
    let more = any-more items i c.name-item.result c.loop-name-test.true c.name-item.is in
    elim c.match-name.branch [
      | in-Some+in_ok-push w ↦
          let own = w.in-Some.own in
          let grown : c.match-name.outside.items ≡ before ++ own ∷ [] = ap (λ names. names.items) w.outside-is ∙ w.in_ok-push.ensures.items in
          subst
          (λ names. Widens (is_one_of c.args.outside.now.items) (is_one_of names)
          × Widens (λ name. list_any (is_called name) (names_of (take (i + 1) items))) (is_one_of names))
          (sym grown) (
            λ name e. one-more before own name (c.loop-name.invariant.0 name e),
            λ name e.
                let any = list_any (is_called name) (names_of (take i items)) in
                one-of-more before own name any (c.loop-name.invariant.1 name)
                (sym (more name ∙ ap (λ item. any || (is_called name (option_map (λ n. n.now) item) || false)) w.in-Some.is) ∙ e),
          )
      | in_default w ↦
          subst
          (λ names. Widens (is_one_of c.args.outside.now.items) (is_one_of names.items)
          × Widens (λ name. list_any (is_called name) (names_of (take (i + 1) items))) (is_one_of names.items))
          (sym w.outside-is) (
            c.loop-name.invariant.0,
            λ name e.
                let any = list_any (is_called name) (names_of (take i items)) in
                c.loop-name.invariant.1 name
                (but-unnamed any (sym (more name ∙ ap (λ item. any || (is_called name (option_map (λ n. n.now) item) || false)) w.in_default.is) ∙ e)),
          )
    ]
