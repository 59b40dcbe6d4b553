use Rattle.std.proofs.Common.{subst}
use Rattle.scope_core.specs.Catalogs.{declared_by}
use Rattle.scope_core.specs.Directed.{Widens, admits}
use Rattle.scope_core.specs.Names.{is_one_of}
use Rattle.scope_core.proofs.basics.Directed.{directed-grows, stays}
use Rattle.scope_core.proofs.guide.Guide.of_source.Goals as goal

pub invariant_of-result : goal.invariant_of-result
invariant_of-result c =
    let declared = declared_by c.args.known.now in
    let outside = admits c.in_ok-outside.outside in
    directed-grows declared declared (is_one_of c.directed_source.new.outside.items) outside (stays declared)
    (subst (λ names. Widens (is_one_of names) outside) c.as_slice.ensures.value c.in_ok-outside.ensures) c.in_ok-columns.columns c.in_ok-columns.ensures.directed
