use Rattle.std.proofs.Common.{◌++◌, Some, ap, sym, subst, ◌∙◌, arith}
use Rattle.std.proofs.lemmas.List.{append-nil}
use Rattle.scope_core.specs.Ropes.{IsDirected, are_listed_sound, columns_in, columns_listed, columns_within, is_sound, stand_listed}
use Rattle.scope_core.proofs.basics.Lists.{at-end}
use Rattle.scope_core.proofs.basics.Ropes.{columns-at, columns_listed-nil, sound-at, stands-at}
use Rattle.scope_core.proofs.directed.Joining.joined.Goals as goal

pub returns-in-empty-clause-columns : goal.returns-in-empty-clause-columns
returns-in-empty-clause-columns c =
    let parts = c.as_slice.result.now in
    ap columns_within c.new.ensures
    ∙ sym (ap columns_listed (sym c.self.view_is ∙ sym c.as_slice.ensures.value)
    ∙ (at-end columns_listed parts 0 (omega (arith, c.in-empty.len_below)) ∙ columns_listed-nil))

pub invariant_of-result : goal.invariant_of-result
invariant_of-result c =
    ap is_sound c.in_ok-share-in-len1.ensures
    ∙ sound-at c.as_slice.result.now 0 c.part-item.result (omega (arith, c.in-len1.len_at_least)) c.part-item.is
    (ap are_listed_sound c.as_slice.ensures.value ∙ c.self.invariant)

pub returns-in-len1-clause-columns : goal.returns-in-len1-clause-columns
returns-in-len1-clause-columns c =
    let parts = c.as_slice.result.now in
    let rope = c.part-item.result.rope in
    ap columns_in c.in_ok-share-in-len1.ensures
    ∙ sym (ap columns_listed (sym c.self.view_is ∙ sym c.as_slice.ensures.value)
    ∙ (columns-at parts 0 c.part-item.result (omega (arith, c.in-len1.len_at_least)) c.part-item.is
    ∙ (ap (λ cs. columns_in rope ++ cs) (at-end columns_listed parts 1 (omega (arith, c.in-len1.len_below)) ∙ columns_listed-nil)
    ∙ append-nil (columns_in rope))))

pub returns-in-len1-clause-directed : goal.returns-in-len1-clause-directed
returns-in-len1-clause-directed c =
    let parts = c.as_slice.result.now in
    λ declared outside are. subst (λ r. IsDirected declared outside (Some r)) (sym c.in_ok-share-in-len1.ensures)
    (λ name. stands-at (declared name) (outside name) name parts 0 c.part-item.result (omega (arith, c.in-len1.len_at_least)) c.part-item.is
    (ap (λ ps. stand_listed (declared name) (outside name) name ps) (c.as_slice.ensures.value ∙ c.self.view_is) ∙ are name))
