use Rattle.std.proofs.Common.{◌≡◌, [], ◌∷◌, option_map, ap, sym, subst, ◌∙◌, arith}
use Rattle.std.proofs.lemmas.Result.{IfOk-weaker}
use Rattle.std.specs.List.{list_any}
use Rattle.sql_model.specs.Columns.{is_called}
use Rattle.scope_core.specs.Directed.{Widens}
use Rattle.scope_core.specs.Names.{is_one_of, names_of}
use Rattle.scope_core.specs.Ropes.{IsDirected, columns_within}
use Rattle.scope_core.proofs.basics.Directed.{directed-Named, directed-One}
use Rattle.scope_core.proofs.basics.Lists.{at-end, at-head}
use Rattle.scope_core.proofs.basics.Ropes.{columns-Named, columns-One}
use Rattle.scope_core.proofs.sources.columns_of_values.Goals as goal

pub returns-in-len1-clause-columns : goal.returns-in-len1-clause-columns
returns-in-len1-clause-columns c =
    let names = c.args.values.now in
    let own = c.name-item.result in
    IfOk-weaker c.of_one.result _ _
    (λ d is.
    ap columns_within is
    ∙ (columns-One own
    ∙ sym (at-head names_of names 0 own (omega (arith, c.in-len1.len_at_least)) c.name-item.is
    ∙ ap (λ ns. option_map (λ n. n.now) own ∷ ns) (at-end names_of names 1 (omega (arith, c.in-len1.len_below))))))
    c.of_one.ensures

pub returns-in-len1-clause-directed : goal.returns-in-len1-clause-directed
returns-in-len1-clause-directed c =
    let names = c.args.values.now in
    let own = c.name-item.result in
    let outside = is_one_of c.gather.new.outside.items in
    let all : names_of names ≡ option_map (λ n. n.now) own ∷ [] =
    at-head names_of names 0 own (omega (arith, c.in-len1.len_at_least)) c.name-item.is
    ∙ ap (λ ns. option_map (λ n. n.now) own ∷ ns) (at-end names_of names 1 (omega (arith, c.in-len1.len_below))) in
    IfOk-weaker c.of_one.result _ _
    (λ d is. λ declared. subst (IsDirected declared outside) (sym is)
    (directed-One declared outside own
    (subst (λ columns. Widens (λ name. list_any (is_called name) columns) outside) all c.in_ok-gather.ensures.gathered)))
    c.of_one.ensures

pub returns-in_ok-of_columns-in_default-clause-columns : goal.returns-in_ok-of_columns-in_default-clause-columns
returns-in_ok-of_columns-in_default-clause-columns c =
    let names = c.in_ok-of_columns-in_default.field-0 in
    IfOk-weaker c.of_names.result _ _
    (λ d is. ap columns_within is ∙ (columns-Named names ∙ c.in_ok-of_columns-in_default.ensures)) c.of_names.ensures

pub returns-in_ok-of_columns-in_default-clause-directed : goal.returns-in_ok-of_columns-in_default-clause-directed
returns-in_ok-of_columns-in_default-clause-directed c =
    let names = c.in_ok-of_columns-in_default.field-0 in
    let outside = is_one_of c.gather.new.outside.items in
    IfOk-weaker c.of_names.result _ _
    (λ d is. λ declared. subst (IsDirected declared outside) (sym is)
    (directed-Named declared outside names
    (subst (λ columns. Widens (λ name. list_any (is_called name) columns) outside) (sym c.in_ok-of_columns-in_default.ensures) c.in_ok-gather.ensures.gathered)))
    c.of_names.ensures
