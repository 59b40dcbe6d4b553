use Rattle.std.proofs.Common.{◌≡◌, ◌∷◌, ◌++◌, [], None, option_map, ap, sym, subst, ◌∙◌}
use Rattle.std.proofs.lemmas.List.{map-append}
use Rattle.scope_core.specs.Faults.{name_twice}
use Rattle.scope_core.specs.Names.{IsIndexOf, names_of}
use Rattle.scope_core.proofs.basics.Occurring.{index-unnamed, unnamed-repeats}
use Rattle.scope_core.proofs.names.Names.push_unnamed.Goals as goal

pub invariant_of-self-2 : goal.invariant_of-self-2
invariant_of-self-2 c =
    let items = c.self.inside.names.items in
    let columns = names_of items in
    let grown : names_of c.push.new.self.items ≡ columns ++ None ∷ [] =
    ap (λ xs. names_of xs) c.in_ok-push.ensures.items ∙ map-append (option_map (λ n. n.now)) items (None ∷ []) in (
      subst (IsIndexOf c.self.inside.index.entries) (sym grown) (index-unnamed c.self.inside.index.entries columns c.self.invariant.0),
      c.self.invariant.1 ∙ (sym (unnamed-repeats columns) ∙ ap name_twice (sym grown)),
    )
