-- The names that tokens spell.
use Rattle.std.specs.Prelude.{ℕ, ◌≡◌, ◌≢◌, false, List, [], map}
use Rattle.sql_lex.specs.declared.token.TokenKind.{TokenKind}
use Rattle.sql_lex.specs.declared.token.TokenKind.TheVariants.{Word, Quoted, Number, Text, Symbol}
use Rattle.sql_lex.specs.Bytes.{folded_byte, double_quote}
use Rattle.sql_lex.specs.Classes.{between}
use Rattle.sql_grammar.specs.Kinds.{is_reserved}

-- A token of this kind and these bytes spells the name: an unreserved word is folded, a quoted name stands for what is inside.
abbrev pub SpellsName : TokenKind → List ℕ → List ℕ → Type 0
SpellsName Word bytes name = (name ≡ map folded_byte bytes) × (is_reserved name ≡ false)
SpellsName Quoted bytes name = (name ≢ []) × (bytes ≡ between double_quote name)
SpellsName Number bytes name = ⊥
SpellsName Text bytes name = ⊥
SpellsName Symbol bytes name = ⊥
