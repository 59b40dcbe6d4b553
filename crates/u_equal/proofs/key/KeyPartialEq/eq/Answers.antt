use Rattle.std.proofs.Common.{ap, ◌∙◌}
use Rattle.u_terms.specs.Syntax.{Val}
use Rattle.u_equal.specs.Keys.{same_code}
use Rattle.u_equal.proofs.products.KeyLaws.{same-is}
use Rattle.u_equal.proofs.key.KeyPartialEq.eq.Goals as goal

pub returns : goal.returns
returns c =
    same-is c.same_value.result c.self.inside.value.now c.other.inside.value.now c.same_value.ensures
    ∙ ap (λ (x : Val). same_code x c.other.inside.value.now) c.self.view_is
    ∙ ap (λ (x : Val). same_code c.args.self.now x) c.other.view_is
