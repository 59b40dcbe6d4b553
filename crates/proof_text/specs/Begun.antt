-- How many nodes have begun in the argument that a prefix of a line ends in. An argument stands behind a space. A node begins with each byte
-- at the argument's start, behind `(` and behind `,`, but for parentheses; a number, and the brace of ` {`, count as one too.
use Rattle.std.specs.Prelude.{ℕ, ◌+◌, ◌≤◌, ◌≡◌, ◌==◌, ◌&&◌, ◌||◌, Bool, true, false, not, if◌then◌else◌, List, ◌++◌, fold}
use Rattle.proof_text.specs.Limits.{most_nodes}
use Rattle.proof_text.specs.Signs.{Sign, code, sign}
use Rattle.proof_text.specs.Signs as s

pub record Begun : Type 0 where
  pub nodes : ℕ
  -- whether a node may begin next
  pub may : Bool

abbrev pub is_parenthesis : Sign → Bool
is_parenthesis k = (code k == code s.Open) || (code k == code s.Close)

-- behind it a node may begin
abbrev pub opens : Sign → Bool
opens k = (code k == code s.Open) || (code k == code s.Comma)

-- with one byte more
abbrev pub begun_with : Begun → ℕ → Begun
begun_with b byte =
    if code (sign byte) == code s.Space then record { nodes = 0; may = true } else
    record { nodes = b.nodes + (if b.may && not (is_parenthesis (sign byte)) then 1 else 0); may = opens (sign byte) }

abbrev pub begun_from : Begun → List ℕ → Begun
begun_from = fold begun_with

abbrev pub begun_in : List ℕ → Begun
begun_in = begun_from (record { nodes = 0; may = false })

-- up to no place more nodes have begun than an argument may have
abbrev pub KeepsNodes : List ℕ → Type 0
KeepsNodes prefix = (x y : List ℕ) → prefix ≡ x ++ y → (begun_in x).nodes ≤ most_nodes
