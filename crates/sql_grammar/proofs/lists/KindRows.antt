-- Looking a kind up in a table, row by row.
use Rattle.std.proofs.Common.{◌≡◌, ℕ, ◌+◌, ◌≤◌, ◌<◌, List, map, Bor, length, drop, get_or, drop-cons, add-one, true, false, bytes_eq, refl}
use Rattle.std.proofs.lemmas.List.{drop_all}
use Rattle.sql_lex.specs.Bytes.{folded_byte}
use Rattle.sql_grammar.specs.Kinds.{Kind, kind_in}

abbrev pub Row : Type 0
Row = Bor (List ℕ) × Kind

abbrev pub folded_rows : List Row → List (List ℕ × Kind)
folded_rows rows = map (λ (row : Row). (map folded_byte row.0.now, row.1)) rows

-- the text has the same kind in both, whatever that of other texts is
abbrev pub SameKind : List Row → List Row → List ℕ → Type 0
SameKind some rows text = (other : Kind) → kind_in (folded_rows some) other (map folded_byte text) ≡ kind_in (folded_rows rows) other (map folded_byte text)

pub row_found : (rows : List Row) (i : ℕ) (d : Row) (text : List ℕ) (other : Kind) → i < length rows → bytes_eq (map folded_byte (get_or rows i d).0.now) (map folded_byte text) ≡ true
    → kind_in (folded_rows (drop i rows)) other (map folded_byte text) ≡ (get_or rows i d).1
row_found rows i d text other h e = rw (drop-cons rows i d h, e) refl

pub row_passed : (rows : List Row) (i : ℕ) (d : Row) (text : List ℕ) (other : Kind) → i < length rows → bytes_eq (map folded_byte (get_or rows i d).0.now) (map folded_byte text) ≡ false
    → kind_in (folded_rows (drop i rows)) other (map folded_byte text) ≡ kind_in (folded_rows (drop (i + 1) rows)) other (map folded_byte text)
row_passed rows i d text other h e = rw (drop-cons rows i d h, e, add-one) refl

pub no_row : (rows : List Row) (i : ℕ) (text : List ℕ) (other : Kind) → length rows ≤ i → kind_in (folded_rows (drop i rows)) other (map folded_byte text) ≡ other
no_row rows i text other h = rw (drop_all i rows h) refl
