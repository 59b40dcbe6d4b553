use Rattle.std.proofs.Common.{sym, ap, subst, ◌∙◌, arith, Ok, Err}
use Rattle.u_terms.specs.Size.{depth}
use Rattle.u_rules.specs.declared.side_sizes.Sizes.{Sizes}
use Rattle.u_deriv.specs.declared.step.Step.{out-Step}
use Rattle.u_deriv.specs.Applying.{IsExchanged}
use Rattle.proof_check.specs.TermSize.{IsSteppable, directed}
use Rattle.proof_check.proofs.state.SizedTerms.{grows}
use Rattle.proof_check.proofs.sized.SizedTerm.exchange.Goals as goal

pub exchange_spending-requires-clause-left_room : goal.exchange_spending-requires-clause-left_room
exchange_spending-requires-clause-left_room c =
    omega (arith, ap (λ (s : Sizes). s.left_depth) c.requires.measured.sizes, c.requires.small.left.flat, ap depth c.self.view_is, c.requires.shallow)

pub exchange_spending-requires-clause-right_room : goal.exchange_spending-requires-clause-right_room
exchange_spending-requires-clause-right_room c =
    omega (arith, ap (λ (s : Sizes). s.right_depth) c.requires.measured.sizes, c.requires.small.right.flat, ap depth c.self.view_is, c.requires.shallow)

pub overflow_add-self : goal.overflow_add-self
overflow_add-self c =
    let before = c.self.inside.term in
    let steppable : IsSteppable before = subst (λ u. IsSteppable u) (sym c.self.view_is) c.requires.steppable in
    let sizes = c.directed-sizes.ensures ∙ ap (λ (s : Sizes). directed (out-Step c.args.step.now).forward s) c.requires.measured.sizes in
    let g = grows c.args.facts.now c.args.outs before c.args.step.now c.exchange_spending.new.u c.in-Ok.ensures.0 c.self.inside.nodes c.self.inside.depth c.in-Ok.place c.directed-sizes.result steppable c.self.invariant c.requires.small c.in-Ok.ensures.1 sizes in
    omega (arith, g.few)

pub overflow_sub-self : goal.overflow_sub-self
overflow_sub-self c =
    let before = c.self.inside.term in
    let steppable : IsSteppable before = subst (λ u. IsSteppable u) (sym c.self.view_is) c.requires.steppable in
    let sizes = c.directed-sizes.ensures ∙ ap (λ (s : Sizes). directed (out-Step c.args.step.now).forward s) c.requires.measured.sizes in
    let g = grows c.args.facts.now c.args.outs before c.args.step.now c.exchange_spending.new.u c.in-Ok.ensures.0 c.self.inside.nodes c.self.inside.depth c.in-Ok.place c.directed-sizes.result steppable c.self.invariant c.requires.small c.in-Ok.ensures.1 sizes in
    g.fits

pub invariant_of-self : goal.invariant_of-self
invariant_of-self c =
    let before = c.self.inside.term in
    let steppable : IsSteppable before = subst (λ u. IsSteppable u) (sym c.self.view_is) c.requires.steppable in
    let sizes = c.directed-sizes.ensures ∙ ap (λ (s : Sizes). directed (out-Step c.args.step.now).forward s) c.requires.measured.sizes in
    let g = grows c.args.facts.now c.args.outs before c.args.step.now c.exchange_spending.new.u c.in-Ok.ensures.0 c.self.inside.nodes c.self.inside.depth c.in-Ok.place c.directed-sizes.result steppable c.self.invariant c.requires.small c.in-Ok.ensures.1 sizes in
    rw c.depth_after-self-inside.ensures g.size

pub returns-in-Ok : goal.returns-in-Ok
returns-in-Ok c = subst (λ u. IsExchanged c.args.facts.now c.args.outs u c.args.step.now c.exchange_spending.new.u (Ok c.in-Ok.place)) c.self.view_is c.in-Ok.ensures

pub returns-in-Err : goal.returns-in-Err
returns-in-Err c = subst (λ u. IsExchanged c.args.facts.now c.args.outs u c.args.step.now c.exchange_spending.new.u (Err c.in-Err.fault)) c.self.view_is c.in-Err.ensures
