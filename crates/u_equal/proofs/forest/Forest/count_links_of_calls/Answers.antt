use Rattle.std.proofs.Common.{ℕ, List, length, ap, sym, ◌∙◌}
use Rattle.std.proofs.lemmas.Result.{IfOk-weaker}
use Rattle.u_terms.specs.Syntax.{Val}
use Rattle.u_terms.specs.declared.term.Val.TheVariants as v
use Rattle.u_equal.specs.Joined.{seen}
use Rattle.u_equal.specs.Links.{told}
use Rattle.u_equal.specs.LinkCounts.{links_of_values}
use Rattle.u_equal.proofs.links.LinkNumbers.{pairs-found}
use Rattle.u_equal.proofs.forest.Forest.count_links_of_calls.Goals as goal

pub returns-in-Fun-Fun : goal.returns-in-Fun-Fun
returns-in-Fun-Fun c =
    let f : Val → Val → ℕ = links_of_values (seen c.args.self.now) (length c.args.numbers.now) in
    IfOk-weaker c.count_links_of_pairs.result _ _
    (λ number h. h ∙ ap told (pairs-found f c.args.a.now c.args.b.now c.in-Fun-Fun.field-0-0 c.in-Fun-Fun.field-0-1 c.as_slice.result.now c.as_slice-in-Fun-Fun.result.now
    (c.in-Fun-Fun.is-0 ∙ ap (λ (xs : List Val). v.Fun c.in-Fun-Fun.field-0-0 xs) (sym c.as_slice.ensures))
    (c.in-Fun-Fun.is-1 ∙ ap (λ (ys : List Val). v.Fun c.in-Fun-Fun.field-0-1 ys) (sym c.as_slice-in-Fun-Fun.ensures))))
    c.count_links_of_pairs.ensures
