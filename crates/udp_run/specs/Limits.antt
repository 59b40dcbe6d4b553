-- How large texts may be.
use Rattle.std.specs.Prelude.{ℕ}
use Rattle.sql_cursor.specs.Cursor.{most_bytes}

-- bytes of a case
abbrev pub most_case_bytes : ℕ
most_case_bytes = most_bytes

-- bytes of a proof that are taken at once
abbrev pub most_piece_bytes : ℕ
most_piece_bytes = 4096

-- bytes of a proof
abbrev pub most_proof_bytes : ℕ
most_proof_bytes = 1073741824
