use Rattle.std.proofs.Common.{◌≡◌, ◌∙◌, arith}
use Rattle.u_terms.specs.Size.{nodes, depth}
use Rattle.proof_check.proofs.state.SizedTerms.{size-square}
use Rattle.proof_check.proofs.sized.SizedTerm.square_of.Goals as goal

pub invariant_of-result : goal.invariant_of-result
invariant_of-result c =
    let count : c.nodes-nodes.result ≡ nodes c.args.x.now = omega (arith, c.nodes-nodes.ensures, c.requires.few) in
    let deep : c.depth-depth.result ≡ depth c.args.x.now = omega (arith, c.depth-depth.ensures, c.requires.flat) in
    let left : c.in_ok-left.left ≡ c.args.x.now = c.in_ok-left.ensures ∙ c.in_ok-copy.ensures in
    let right : c.in_ok-right.right ≡ c.args.x.now = c.in_ok-right.ensures ∙ c.in_ok-copy-2.ensures in
    rw (left, right, count, deep) (size-square c.args.x.now)
