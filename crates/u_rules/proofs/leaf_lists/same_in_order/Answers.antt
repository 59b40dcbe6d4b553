use Rattle.std.proofs.Common.{rules}
use Rattle.std.proofs.lemmas.Iterator.{cases_from_all, YieldsList-from_slice, YieldsList-from_zip}
use borrow.Author.Tests.{tests}
use denote.Ref.{Bor}
use Rattle.u_terms.specs.declared.term.U.{U}
use Rattle.u_rules.proofs.multisets.LeavesPairs.{Same, Differ, same_from_pairs}
use Rattle.u_rules.proofs.leaf_lists.same_in_order.Goals as goal

abbrev term : Bor U → U
term reference = reference.now

pub returns : goal.returns
returns c =
    same_from_pairs term c.args.left.now c.args.right.now c.all.result c.requires
    (cases_from_all c.all.new.self _ c.all.result (Same term) (Differ term) c.all.ensures.ran
    (YieldsList-from_zip {s = c.zip.result} (YieldsList-from_slice c.args.left.now (cc (c.zip.ensures.first, c.iter.ensures.rest))) (YieldsList-from_slice c.args.right.now c.zip.ensures.second.0))
    (λ x q k. search (rules, tests)) (λ x q k. search (rules, tests)))
