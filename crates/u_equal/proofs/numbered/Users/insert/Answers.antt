use Rattle.std.proofs.Common.{List, ℕ, sym, subst}
use Rattle.u_equal.specs.Numbered.{IsAdded}
use Rattle.u_equal.proofs.congruence.Added.{added-key}
use Rattle.u_equal.proofs.numbered.Users.insert.Goals as goal

pub returns : goal.returns
returns c =
    let inside : List ℕ = c.self.inside.numbers.keys in
    subst (λ (ns : List ℕ). IsAdded c.args.number ns c.insert.new.self.keys) c.self.view_is
    (subst (λ (ns : List ℕ). IsAdded c.args.number inside ns) (sym c.in_ok-insert.ensures.keys) (added-key inside c.args.number))
