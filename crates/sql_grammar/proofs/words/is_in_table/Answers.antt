use Rattle.std.proofs.Common.{ℕ, Bool, List, Bor, map, bytes_eq, ap, ◌∙◌}
use Rattle.std.specs.List.{list_any}
use Rattle.sql_lex.specs.Bytes.{folded_byte}
use Rattle.sql_grammar.proofs.lists.FirstLetters.{among_by_letter}
use Rattle.sql_grammar.proofs.words.is_in_table.Goals as goal

pub returns : goal.returns
returns c =
    let is_it : Bor (List ℕ) → Bool = λ word. bytes_eq (map folded_byte c.args.text.now) (map folded_byte word.now) in
    c.is_one_of.ensures ∙ ap (list_any is_it) c.entries_for.ensures
    ∙ among_by_letter (λ (word : Bor (List ℕ)). map folded_byte word.now) _ _ c.requires (map folded_byte c.args.text.now)
