use Rattle.std.proofs.Common.{refl, sym, ◌∙◌}
use Rattle.std.proofs.lemmas.Bool.{true≢false}
use Rattle.u_entail.proofs.carrying.push_point.Goals as goal

pub returns-then-not-entails : goal.returns-then-not-entails
returns-then-not-entails c = λ entailed. true≢false (sym (c.entails.ensures.1 entailed) ∙ c.if-not-entails.true)

pub returns : goal.returns
returns c = (
  record { from = c.args.x; to = c.args.y },
  c.in_ok-push.ensures.items,
  record { from_is = refl; to_is = refl; entailed = c.entails.ensures.0 c.if-not-entails.false },
)
