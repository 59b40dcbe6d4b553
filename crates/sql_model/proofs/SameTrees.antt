-- Blocks whose fields are equal are equal.
use Rattle.std.proofs.Common.{◌≡◌, sym, ◌∙◌}
use Rattle.sql_model.specs.declared.tree.Block.{Block, out-Block, roll-Block, roll-out-Block}

pub one_block : (a b : Block) → (out-Block a).distinct ≡ (out-Block b).distinct → (out-Block a).items ≡ (out-Block b).items → (out-Block a).entries ≡ (out-Block b).entries
    → (out-Block a).cond ≡ (out-Block b).cond → (out-Block a).groups ≡ (out-Block b).groups → (out-Block a).having ≡ (out-Block b).having → a ≡ b
one_block a b distinct items entries condition groups having =
    sym (roll-out-Block a)
    ∙ ((λ i. roll-Block (record { distinct = distinct i; items = items i; entries = entries i; cond = condition i; groups = groups i; having = having i }))
    ∙ roll-out-Block b)

pub ruleset laws = (one_block)
