use Rattle.std.proofs.Common.{ap, sym, ◌∙◌, subst}
use Rattle.std.proofs.lemmas.Result.{IfOk-weaker}
use Rattle.u_terms.specs.Syntax.{Val}
use Rattle.u_rules.specs.declared.rule.Rule.TheVariants as rule
use Rattle.u_rules.specs.Terms.{◌≐◌, terms}
use Rattle.u_moves.specs.Moving.{IsKnownValue}
use Rattle.u_entail.proofs.copies.Copied.{sides-here}
use Rattle.u_entail.proofs.chains.Gained.{regrouped}
use Rattle.u_entail.proofs.following.Front.sides_exchanged.Goals as goal

pub eq_sym-requires-clause-a : goal.eq_sym-requires-clause-a
eq_sym-requires-clause-a c =
    let m = c.args.self.now.moves in
    let both = sides-here m.outs (terms c.args.self.now.factors.now) c.requires.factors c.args.place c.args.a.now c.args.b.now c.requires.at in
    subst (IsKnownValue m.outs) (sym (c.in_ok-copy.ensures {u = tt})) both.0

pub eq_sym-requires-clause-b : goal.eq_sym-requires-clause-b
eq_sym-requires-clause-b c =
    let m = c.args.self.now.moves in
    let both = sides-here m.outs (terms c.args.self.now.factors.now) c.requires.factors c.args.place c.args.a.now c.args.b.now c.requires.at in
    subst (IsKnownValue m.outs) (sym (c.in_ok-copy-2.ensures {u = tt})) both.1

pub returns : goal.returns
returns c =
    let m = c.args.self.now.moves in
    let ea = c.in_ok-copy.ensures {u = tt} in
    let eb = c.in_ok-copy-2.ensures {u = tt} in
    IfOk-weaker c.eq_sym.result _ _
    (λ d one. regrouped m.facts.now m.outs (c.in_ok-copy.field-0 ≐ c.in_ok-copy-2.field-0) (c.in_ok-copy-2.field-0 ≐ c.in_ok-copy.field-0) (c.args.a.now ≐ c.args.b.now) (c.args.b.now ≐ c.args.a.now) rule.EqSym _ d (λ e. cc) (λ e. cc)
    (ap (λ (x : Val). x ≐ c.in_ok-copy-2.field-0) ea ∙ ap (λ (x : Val). c.args.a.now ≐ x) eb) (ap (λ (x : Val). x ≐ c.in_ok-copy.field-0) eb ∙ ap (λ (x : Val). c.args.b.now ≐ x) ea) one)
    c.eq_sym.ensures
