use Rattle.std.proofs.Common.{◌≡◌, ◌++◌, take}
use Rattle.sql_model.proofs.+copy.Given as goal

abbrev pub invariant-copying::append_copies-loop-expr : goal.invariant-copying::append_copies-loop-expr
invariant-copying::append_copies-loop-expr l = l.copies.items ≡ l.initial.copies.items ++ take l.expr-index l.exprs

abbrev pub invariant-copying::copy_items-loop-item : goal.invariant-copying::copy_items-loop-item
invariant-copying::copy_items-loop-item l = l.copies.items ≡ take l.item-index l.items

abbrev pub invariant-copying::copy_entries-loop-entry : goal.invariant-copying::copy_entries-loop-entry
invariant-copying::copy_entries-loop-entry l = l.copies.items ≡ take l.entry-index l.entries
