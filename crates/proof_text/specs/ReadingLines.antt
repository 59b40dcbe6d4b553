-- What a line says, and where bytes are no line. A text here is the bytes of a line with its line feed, where it has one.
use Rattle.std.specs.Prelude.{ℕ, ◌+◌, ◌≡◌, List, [], ◌∷◌, ◌++◌, length, Some, None, Result, Ok, Err}
use Rattle.grammar.specs.Form.{language}
use Rattle.grammar.specs.Language.{Language}
use Rattle.grammar.specs.Reading.{IsLongestPrefix}
use Rattle.proof_text.specs.declared.limits.LimitKind.{LimitKind}
use Rattle.proof_text.specs.declared.limits.LimitKind.TheVariants.{Nodes, Depth, Steps, Nesting}
use Rattle.proof_text.specs.declared.line.LineStep.{LineStep}
use Rattle.proof_text.specs.declared.line.LineFault.{LineFault}
use Rattle.proof_text.specs.declared.line.LineFault.TheVariants.{Bad, Limit, NoMemory}
use Rattle.proof_text.specs.Limits.{most_nodes, most_depth}
use Rattle.proof_text.specs.Signs.{sign}
use Rattle.proof_text.specs.Grammar.{rules, line}
use Rattle.proof_text.specs.Begun.{begun_in, KeepsNodes}

-- lines with arguments of any depth
abbrev pub lines : Language ℕ LineStep
lines = language sign rules None line

-- and of those with no argument that is too deep
abbrev pub shallow_lines : Language ℕ LineStep
shallow_lines = language sign rules (Some most_depth) line

-- the text is a line that says this, and no argument is too large or too deep
pub record IsRead (text : List ℕ) (says : LineStep) : Type 0 where
  pub spelled : shallow_lines.spells text says
  pub few : KeepsNodes text

-- The text is no line. The longest prefix ends before the column, counted from 1, and no argument passes a limit in it.
pub record IsBad (text : List ℕ) (column : ℕ) : Type 0 where
  pub prefix : List ℕ
  pub longest : IsLongestPrefix lines text prefix
  pub is : column ≡ length prefix + 1
  pub unspelled : (says : LineStep) → lines.spells text says → ⊥
  pub shallow : shallow_lines.prefix prefix
  pub few : KeepsNodes prefix

-- the byte behind this prefix begins a node of an argument, and one too many
pub record PassesNodes (text : List ℕ) : Type 0 where
  pub prefix : List ℕ
  pub byte : ℕ
  pub rest : List ℕ
  pub whole : text ≡ prefix ++ byte ∷ rest
  pub goes_on : lines.prefix (prefix ++ byte ∷ [])
  pub shallow : shallow_lines.prefix prefix
  pub few : KeepsNodes prefix
  pub many : (begun_in (prefix ++ byte ∷ [])).nodes ≡ most_nodes + 1

-- the byte behind this prefix begins a node that is too deep, and none too many
pub record PassesDepth (text : List ℕ) : Type 0 where
  pub prefix : List ℕ
  pub byte : ℕ
  pub rest : List ℕ
  pub whole : text ≡ prefix ++ byte ∷ rest
  pub goes_on : lines.prefix (prefix ++ byte ∷ [])
  pub shallow : shallow_lines.prefix prefix
  pub deep : shallow_lines.prefix (prefix ++ byte ∷ []) → ⊥
  pub few : KeepsNodes (prefix ++ byte ∷ [])

-- the count that passes the limit is the limit and one
abbrev pub IsLimit : List ℕ → LimitKind → ℕ → Type 0
IsLimit text Nodes count = PassesNodes text × (count ≡ most_nodes + 1)
IsLimit text Depth count = PassesDepth text × (count ≡ most_depth + 1)
IsLimit text Steps count = ⊥
IsLimit text Nesting count = ⊥

abbrev pub IsRefused : List ℕ → LineFault → Type 0
IsRefused text (Bad column) = IsBad text column
IsRefused text (Limit what count) = IsLimit text what count
IsRefused text NoMemory = Unit {0}

abbrev pub IsAnswer : List ℕ → Result LineStep LineFault → Type 0
IsAnswer text (Ok says) = IsRead text says
IsAnswer text (Err fault) = IsRefused text fault
