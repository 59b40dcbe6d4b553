use Rattle.std.proofs.Common.{◌≡◌, [], map, take}
use Rattle.indexmap.specs.IndexSet.{insert_all}
use Rattle.sql_model.specs.Columns.{same_name}
use Rattle.sql_model.specs.FixedSymbols.{fixed_symbols}
use Rattle.sql_model.proofs.symbols.fixed_symbols.Given as goal

abbrev pub invariant-loop-text : goal.invariant-loop-text
invariant-loop-text l = record {
  texts : map (λ text. text.now) l.text-items ≡ fixed_symbols;
  added : l.syms.keys ≡ insert_all same_name [] (take l.text-index fixed_symbols);
}
