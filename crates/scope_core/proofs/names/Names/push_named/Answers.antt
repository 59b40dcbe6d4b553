use Rattle.std.proofs.Common.{◌≡◌, ◌∷◌, ◌++◌, [], Some, length, option_map, vec_len, ap, sym, subst, ◌∙◌, arith}
use Rattle.std.proofs.lemmas.List.{length-map, map-append}
use Rattle.scope_core.specs.Faults.{name_twice}
use Rattle.scope_core.specs.Names.{IsIndexOf, names_of}
use Rattle.scope_core.proofs.basics.Occurring.{index-named, index-repeats}
use Rattle.scope_core.proofs.names.Names.push_named.Goals as goal

pub invariant_of-self-2 : goal.invariant_of-self-2
invariant_of-self-2 c =
    let items = c.self.inside.names.items in
    let columns = names_of items in
    let name = c.args.name.now in
    let grown : names_of c.push_reserved.new.self.items ≡ columns ++ Some name ∷ [] =
    ap (λ xs. names_of xs) (c.push_reserved.ensures.items ∙ ap (λ xs. xs ++ Some c.args.name ∷ []) c.in_ok-reserve.ensures.items)
    ∙ map-append (option_map (λ n. n.now)) items (Some c.args.name ∷ []) in
    let counted : vec_len c.reserve.new.self ≡ length items =
    grind (arith, c.reserve.new.self.ok) in
    let place : c.len.result ≡ length columns = c.len.ensures ∙ (counted ∙ sym (length-map items (option_map (λ n. n.now)))) in (
      subst (IsIndexOf c.note.new.index.entries) (sym grown)
          (index-named c.self.inside.index.entries columns c.self.invariant.0 name _ c.len.result place c.in_ok-seen.ensures.noted),
      index-repeats c.self.inside.index.entries columns c.self.invariant.0 name _ _ c.self.invariant.1 c.in_ok-seen.ensures.seen ∙ ap name_twice (sym grown),
    )
