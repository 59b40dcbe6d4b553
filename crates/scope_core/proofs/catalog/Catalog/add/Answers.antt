use Rattle.std.proofs.Common.{◌≡◌, false, [], ◌∷◌, ◌++◌, map, Some, ap, sym, subst, ◌∙◌}
use Rattle.std.proofs.lemmas.List.{map-append}
use Rattle.scope_core.specs.declared.catalog.Known.{Known}
use Rattle.scope_core.specs.Catalogs.{AreDirected, IsDeclaredAt, declared_by, declared_in}
use Rattle.scope_core.specs.Lent.{relation_of, relations_of, source_of}
use Rattle.scope_core.specs.Names.{is_one_of}
use Rattle.scope_core.specs.Ropes.{IsDirected}
use Rattle.scope_core.proofs.basics.Catalogs.{AreDirected-grows, names_in}
use Rattle.scope_core.proofs.basics.Directed.{directed-grows}
use Rattle.scope_core.proofs.basics.Each.{Each-end}
use Rattle.scope_core.proofs.catalog.Catalog.add.Goals as goal

-- where no relation is appended, names may be declared by more
pub invariant_of-self : goal.invariant_of-self
invariant_of-self c = (
  AreDirected-grows (declared_in c.self.inside.declared.entries) (declared_in c.declare.new.declared.entries) c.declare.ensures.grows c.self.inside.relations.items
      c.self.invariant.0,
  c.self.invariant.1,
)

pub invariant_of-self-in_err-columns : goal.invariant_of-self-in_err-columns
invariant_of-self-in_err-columns c = (
  AreDirected-grows (declared_in c.self.inside.declared.entries) (declared_in c.declare.new.declared.entries) c.declare.ensures.grows c.self.inside.relations.items
      c.self.invariant.0,
  c.self.invariant.1,
)

pub invariant_of-self-in_err-reserve : goal.invariant_of-self-in_err-reserve
invariant_of-self-in_err-reserve c =
    let items = c.self.inside.relations.items in
    let after = declared_in c.declare.new.declared.entries in
    let kept : c.reserve.new.self.items ≡ items = c.in_err-reserve.ensures.items in (
      subst (AreDirected after) (sym kept)
          (AreDirected-grows (declared_in c.self.inside.declared.entries) after c.declare.ensures.grows items c.self.invariant.0),
      c.self.invariant.1 ∙ ap names_in (sym kept),
    )

pub invariant_of-self-in_err-push : goal.invariant_of-self-in_err-push
invariant_of-self-in_err-push c =
    let items = c.self.inside.relations.items in
    let after = declared_in c.declare.new.declared.entries in
    let kept : c.reserve.new.self.items ≡ items = c.in_ok-reserve.ensures.items in (
      subst (AreDirected after) (sym kept)
          (AreDirected-grows (declared_in c.self.inside.declared.entries) after c.declare.ensures.grows items c.self.invariant.0),
      c.in_err-push.ensures.err ∙ (c.self.invariant.1 ∙ ap names_in (sym kept)),
    )

pub invariant_of-self-2 : goal.invariant_of-self-2
invariant_of-self-2 c =
    let before = declared_in c.self.inside.declared.entries in
    let after = declared_in c.declare.new.declared.entries in
    let items = c.self.inside.relations.items in
    let name = c.args.name in
    let new : Known = record { name = name; columns = c.in_ok-columns.columns; stored = c.args.stored } in
    let grown : c.push_reserved.new.self.items ≡ items ++ new ∷ [] =
    c.push_reserved.ensures.items ∙ ap (λ ks. ks ++ new ∷ []) c.in_ok-reserve.ensures.items in
    let outside = c.args.columns.outside.items in
    let columns = c.args.columns.columns in
    let directed : IsDirected after (is_one_of outside) columns =
    directed-grows before after (is_one_of outside) (is_one_of outside) c.declare.ensures.grows (λ name e. e) columns
    (subst (λ catalog. IsDirected (declared_by catalog) (is_one_of outside) columns) (sym c.self.view_is) c.requires) in (
      subst (AreDirected after) (sym grown)
          (Each-end (λ known. IsDirected after (λ name. false) known.columns) items new
          (AreDirected-grows before after c.declare.ensures.grows items c.self.invariant.0)
          (c.in_ok-columns.ensures.directed after (subst (λ names. IsDirected after (is_one_of names) columns) (sym c.as_slice-2.ensures.value) directed)
          (subst (λ names. IsDeclaredAt after names c.len-number.result) (c.as_slice.ensures.value ∙ sym c.as_slice-2.ensures.value) c.in_ok-declare.ensures.declared))),
      c.in_ok-push.ensures.ok
          ∙ ((λ i. c.self.invariant.1 i ++ Some name.now ∷ [])
          ∙ sym (ap names_in grown ∙ map-append (λ known. Some known.name.now) items (new ∷ []))),
    )

pub returns : goal.returns
returns c =
    let items = c.self.inside.relations.items in
    let name = c.args.name in
    let new : Known = record { name = name; columns = c.in_ok-columns.columns; stored = c.args.stored } in
    ap (λ ks. map relation_of ks) (c.push_reserved.ensures.items ∙ ap (λ ks. ks ++ new ∷ []) c.in_ok-reserve.ensures.items)
    ∙ (map-append relation_of items (new ∷ [])
    ∙ λ i. relations_of (c.self.view_is i) ++ record { name = name.now; columns = c.in_ok-columns.ensures.columns i; source = source_of c.args.stored } ∷ [])
