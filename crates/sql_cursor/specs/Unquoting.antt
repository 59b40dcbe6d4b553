-- How marks are made single; cited by private contracts alone.
use Rattle.std.specs.Prelude.{ℕ, Bool, true, false, nat_eq, if◌then◌else◌, List, [], ◌∷◌, ◌++◌, Option, Some, None, option_and_then}
use Rattle.sql_lex.specs.Bytes.{double_quote}

-- these bytes, and then those
abbrev pub behind : List ℕ → Option (List ℕ) → Option (List ℕ)
behind prefix None = None
behind prefix (Some rest) = Some (prefix ++ rest)

-- What stands before the mark that ends the bytes, with doubled marks made single; nothing where a mark that is not doubled stands
-- elsewhere, or none at the end. A mark may have been just before.
abbrev pub unquoted : ℕ → Bool → List ℕ → Option (List ℕ)
unquoted mark marked [] = if marked then Some [] else None
unquoted mark marked (byte ∷ bytes) =
    if nat_eq byte mark then (if marked then behind (mark ∷ []) (unquoted mark false bytes) else unquoted mark true bytes)
    else (if marked then None else behind (byte ∷ []) (unquoted mark false bytes))

-- a name that is not empty
abbrev pub some_name : List ℕ → Option (List ℕ)
some_name [] = None
some_name (byte ∷ bytes) = Some (byte ∷ bytes)

-- the name in double quotes that the bytes are
abbrev pub quoted_name : List ℕ → Option (List ℕ)
quoted_name [] = None
quoted_name (byte ∷ bytes) = if nat_eq byte double_quote then option_and_then some_name (unquoted double_quote false bytes) else None
