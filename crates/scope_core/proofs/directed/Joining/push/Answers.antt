use Rattle.std.proofs.Common.{◌≡◌, [], ◌∷◌, ◌++◌, Some, ap, sym, subst, ◌∙◌}
use Rattle.std.proofs.lemmas.Result.{on_ok_weaker}
use Rattle.scope_core.specs.Ropes.{AreDirectedParts, IsDirected, columns_in, columns_listed, columns_within, part_of, stands_among}
use Rattle.scope_core.proofs.basics.Directed.{directed-append, directed-one}
use Rattle.scope_core.proofs.basics.Ropes.{columns-one, columns_listed-append}
use Rattle.scope_core.proofs.directed.Joining.push.Goals as goal

pub returns-in-Some-few_parts-clause-columns : goal.returns-in-Some-few_parts-clause-columns
returns-in-Some-few_parts-clause-columns c =
    let parts = c.args.self.now in
    let whole : c.args.columns ≡ Some c.in-Some.rope = sym c.columns.view_is ∙ c.in-Some.is in
    on_ok_weaker c.push_all.result
    (λ is.
    ap columns_listed is
    ∙ (columns_listed-append parts c.in-Some-few_parts.few.now
    ∙ ap (λ cs. columns_listed parts ++ cs)
    (sym c.in-Some-few_parts.ensures.columns ∙ (ap columns_in c.get.ensures ∙ sym (ap columns_within whole)))))
    c.push_all.ensures

pub returns-in-Some-few_parts-clause-directed : goal.returns-in-Some-few_parts-clause-directed
returns-in-Some-few_parts-clause-directed c =
    let whole : c.args.columns ≡ Some c.in-Some.rope = sym c.columns.view_is ∙ c.in-Some.is in
    on_ok_weaker c.push_all.result
    (λ is. λ declared outside parts directed. subst (AreDirectedParts declared outside) (sym is)
    (directed-append declared outside c.args.self.now c.in-Some-few_parts.few.now parts
    (λ name. sym (c.in-Some-few_parts.ensures.stand (declared name) (outside name) name)
    ∙ (ap (λ r. stands_among (declared name) (outside name) name r) c.get.ensures ∙ subst (IsDirected declared outside) whole directed name))))
    c.push_all.ensures

pub returns-clause-columns : goal.returns-clause-columns
returns-clause-columns c =
    let parts = c.args.self.now in
    let part = part_of c.in-Some.rope in
    let whole : c.args.columns ≡ Some c.in-Some.rope = sym c.columns.view_is ∙ c.in-Some.is in
    on_ok_weaker c.push_part.result
    (λ is.
    ap columns_listed is
    ∙ (columns_listed-append parts (part ∷ []) ∙ ap (λ cs. columns_listed parts ++ cs) (columns-one part ∙ sym (ap columns_within whole))))
    c.push_part.ensures

pub returns-clause-directed : goal.returns-clause-directed
returns-clause-directed c =
    let whole : c.args.columns ≡ Some c.in-Some.rope = sym c.columns.view_is ∙ c.in-Some.is in
    on_ok_weaker c.push_part.result
    (λ is. λ declared outside parts directed. subst (AreDirectedParts declared outside) (sym is)
    (directed-append declared outside c.args.self.now (part_of c.in-Some.rope ∷ []) parts
    (directed-one declared outside c.in-Some.rope (subst (IsDirected declared outside) whole directed))))
    c.push_part.ensures
