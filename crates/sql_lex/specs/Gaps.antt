-- What may stand between tokens: blanks and comments.
use Rattle.std.specs.Prelude.{ℕ, ◌≡◌, ◌++◌, Bool, not, nat_eq, List, [], ◌∷◌, IsTrue, ◌⊎◌, codes}
use Rattle.std.specs.List.{list_all, concat}
use Rattle.sql_lex.specs.Bytes.{is_blank, line_feed}

-- the part stands somewhere in the text
abbrev pub Occurs : List ℕ → List ℕ → Type 0
Occurs part text = (before after : List ℕ) × (text ≡ before ++ (part ++ after))

-- the text has this part at its front
abbrev pub BeginsWith : List ℕ → List ℕ → Type 0
BeginsWith part text = (after : List ℕ) × (text ≡ part ++ after)

-- `--` and `/*` always begin a comment
abbrev pub BeginsComment : List ℕ → Type 0
BeginsComment text = BeginsWith (codes "--") text ⊎ BeginsWith (codes "/*") text

-- any byte but a line feed
abbrev pub is_in_line : ℕ → Bool
is_in_line byte = not (nat_eq byte line_feed)

-- a line ends before these bytes
abbrev pub EndsLine : List ℕ → Type 0
EndsLine [] = Unit {0}
EndsLine (byte ∷ rest) = byte ≡ line_feed

-- Before that rest these bytes are `--` up to a line feed or the end.
abbrev pub IsLineComment : List ℕ → List ℕ → Type 0
IsLineComment bytes rest = (body : List ℕ) × (bytes ≡ codes "--" ++ body) × IsTrue (list_all is_in_line body) × EndsLine rest

-- These bytes are `/*` up to the first `*/`: no other one ends before the last byte.
abbrev pub IsBlockComment : List ℕ → Type 0
IsBlockComment bytes = (body : List ℕ) × (bytes ≡ codes "/*" ++ (body ++ codes "*/")) × ¬ Occurs (codes "*/") (body ++ codes "*")

-- Before that rest these bytes are blanks, or a comment.
abbrev pub IsGap : List ℕ → List ℕ → Type 0
IsGap bytes rest = IsTrue (list_all is_blank bytes) ⊎ (IsLineComment bytes rest ⊎ IsBlockComment bytes)

-- Before that rest each of these pieces is blanks, or a comment.
abbrev pub AreGaps : List (List ℕ) → List ℕ → Type 0
AreGaps [] rest = Unit {0}
AreGaps (piece ∷ pieces) rest = IsGap piece (concat pieces ++ rest) × AreGaps pieces rest
