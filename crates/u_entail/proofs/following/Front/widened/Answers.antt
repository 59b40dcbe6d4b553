use Rattle.u_entail.proofs.products.Parts.{one-known}
use Rattle.u_entail.proofs.following.Front.widened.Goals as goal

pub refl-requires-clause-known : goal.refl-requires-clause-known
refl-requires-clause-known c = one-known c.args.self.now.moves.outs
