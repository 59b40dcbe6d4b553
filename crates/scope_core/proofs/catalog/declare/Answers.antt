use Rattle.std.proofs.Common.{◌≡◌, ◌+◌, [], ◌∷◌, ◌++◌, take, ap, sym, subst, ◌∙◌}
use Rattle.std.proofs.lemmas.List.{take_more}
use Rattle.scope_core.specs.Catalogs.{IsDeclaredAt, declared_in}
use Rattle.scope_core.proofs.basics.Catalogs.{Grows-trans, IsDeclaredAt-grows, IsDeclaredAt-more}
use Rattle.scope_core.proofs.catalog.declare.Goals as goal

pub loop-name-preserved : goal.loop-name-preserved
loop-name-preserved c =
    let start = declared_in c.args.declared.now.entries in
    let before = declared_in c.loop-name.declared.entries in
    let after = declared_in c.declare_one.new.declared.entries in
    let items = c.args.names.now in
    let i = c.loop-name.name-index in
    let number = c.args.number in
    let own = c.name-item.result in
    let more : take (i + 1) items ≡ take i items ++ own ∷ [] =
    take_more items i own c.loop-name-test.true ∙ ap (λ x. take i items ++ x ∷ []) (sym c.name-item.is) in
    let grows = c.in_ok-declare_one.ensures.grows in (
      Grows-trans start before after c.loop-name.invariant.0 grows,
      subst (λ names. IsDeclaredAt after names number) (sym more)
          (IsDeclaredAt-more after (take i items) number (IsDeclaredAt-grows before after grows (take i items) number c.loop-name.invariant.1) own
          c.in_ok-declare_one.ensures.own),
    )
