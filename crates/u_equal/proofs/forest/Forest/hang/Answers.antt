use Rattle.std.proofs.Common.{rules, ◌≡◌, ℕ, List, [], ◌∷◌, ◌++◌, length, set, sym, subst}
use Rattle.u_equal.specs.declared.forest.Edge.{Edge}
use Rattle.u_equal.specs.declared.forest.Place.TheVariants.{Root, Under}
use Rattle.u_equal.specs.Joined.{seen, IsTreeOf}
use Rattle.u_equal.proofs.edges.Trees.{tree-hung}
use Rattle.u_equal.proofs.forest.Forest.hang.Goals as goal

pub returns-clause-tree : goal.returns-clause-tree
returns-clause-tree c =
    let s = c.args.self.now in
    let h = tree-hung (seen s) c.args.edge (length s.values.keys) s.places.items c.args.root c.args.under c.saturating_add-size.result c.requires.tree
    c.requires.root c.requires.under c.requires.root_within c.requires.under_within c.requires.root_stands c.requires.under_stands c.requires.apart in
    let items : c.push.new.self.items ≡ s.edges.items ++ c.args.edge ∷ [] = c.in_ok-push.ensures.items in
    subst (λ (es : List Edge). IsTreeOf (length s.values.keys) es (set (set s.places.items c.args.root (Root c.saturating_add-size.result)) c.args.under (Under c.args.root c.len-time.result))) (sym items)
    (subst (λ (time : ℕ). IsTreeOf (length s.values.keys) (s.edges.items ++ c.args.edge ∷ []) (set (set s.places.items c.args.root (Root c.saturating_add-size.result)) c.args.under (Under c.args.root time)))
    (search rules) h)
