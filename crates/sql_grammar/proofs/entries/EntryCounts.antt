-- How many entries the items of FROM have that are read in one list.
use Rattle.std.proofs.Common.{◌≡◌, ℕ, suc, ◌+◌, List, [], ◌∷◌, length, length-append, inl, inr, refl, arith}
use Rattle.sql_model.specs.declared.tree.Entry.{Entry}
use Rattle.sql_grammar.specs.Numbering.{Built, Numbers, each}
use Rattle.sql_grammar.specs.QueryEntries.{Further, items_of, parted}
use Rattle.sql_grammar.specs.QueryTrees as t
use Rattle.sql_grammar.specs.QueryTrees.{Listed}

each_length : {X : Type 0} (bs : List (Built X)) (numbers : Numbers) → length ((each bs).build numbers).0 ≡ length bs
each_length [] numbers = refl
each_length (b ∷ bs) numbers = omega (arith, each_length bs (b.build numbers).1)

record Count (w : List Further) : Type 0 where
  count : ℕ
  items : (numbers : Numbers) → length (t.concatenated ((each (parted w).1).build numbers).0) ≡ count
  sum : length (parted w).0 + count ≡ length w

item_count : (listed : Built Listed) (joined : List (Built Entry)) (bs : List (Built (List Entry))) (count : ℕ) → ((numbers : Numbers) → length (t.concatenated ((each bs).build numbers).0) ≡ count)
    → (numbers : Numbers) → length (t.concatenated ((each (t.entries listed joined ∷ bs)).build numbers).0) ≡ suc (length joined) + count
item_count listed joined bs count c numbers =
    let b = t.entries listed joined in
    let ess = ((each bs).build (b.build numbers).1).0 in
    omega (arith, length-append (b.build numbers).0 (t.concatenated ess), each_length joined (listed.build numbers).1, c (b.build numbers).1)

counted : (w : List Further) → Count w
counted [] = record { count = 0; items = λ numbers. refl; sum = refl }
counted (inl listed ∷ others) =
    let r = counted others in
    record { count = suc (length (parted others).0) + r.count; items = item_count listed (parted others).0 (parted others).1 r.count r.items; sum = omega (arith, r.sum) }
counted (inr joined ∷ others) = let r = counted others in record { count = r.count; items = r.items; sum = omega (arith, r.sum) }

pub all_counted : (first : Built Listed) (w : List Further) (numbers : Numbers) → length (t.concatenated ((each (t.all_of (items_of (first, w)))).build numbers).0) ≡ suc (length w)
all_counted first w numbers = let r = counted w in omega (arith, item_count first (parted w).0 (parted w).1 r.count r.items numbers, r.sum)
