-- How what is read numbers literals and called names in the order of the text, and counts what is copied.
use Rattle.std.specs.Prelude.{ℕ, ◌+◌, Bool, true, false, ◌&&◌, bytes_eq, if◌then◌else◌, List, [], ◌∷◌, Option, Some, None}
use Rattle.sql_model.specs.declared.symbols.Lit.{Lit}
use Rattle.sql_model.specs.declared.symbols.LitKind.{LitKind}
use Rattle.sql_model.specs.declared.symbols.LitKind.TheVariants as literal
use Rattle.sql_model.specs.FixedSymbols.{fixed_literals, fixed_symbols}
use Rattle.sql_model.specs.Syntax.{Name}

-- the literals and the symbols so far; each has its place as its number
pub record Numbers : Type 0 where
  pub literals : List Lit
  pub symbols : List Name

-- those that every case has
abbrev pub first_numbers : Numbers
first_numbers = record { literals = fixed_literals; symbols = fixed_symbols }

-- the place of the first that passes the test, or else at the end
abbrev pub place_of : {X : Type 0} → (X → Bool) → List X → ℕ
place_of p [] = 0
place_of p (x ∷ xs) = if p x then 0 else place_of p xs + 1

abbrev pub with_member : {X : Type 0} → (X → Bool) → X → List X → List X
with_member p new [] = new ∷ []
with_member p new (x ∷ xs) = if p x then x ∷ xs else x ∷ with_member p new xs

abbrev pub is_same_kind : LitKind → LitKind → Bool
is_same_kind literal.Number literal.Number = true
is_same_kind literal.Text literal.Text = true
is_same_kind a b = false

abbrev pub is_same_literal : Lit → Lit → Bool
is_same_literal a b = is_same_kind a.kind b.kind && bytes_eq a.text b.text

-- ---- what is built with numbers

-- what is built from the numbers so far, with the numbers after it; and the weight of all that is copied in it
pub record Built (A : Type 0) : Type 0 where
  pub copies : ℕ
  pub build : Numbers → A × Numbers

-- with no numbers and no copies
abbrev pub plain : {A : Type 0} → A → Built A
plain x = record { copies = 0; build = λ numbers. (x, numbers) }

abbrev pub mapped : {A B : Type 0} → (A → B) → Built A → Built B
mapped f b = record { copies = b.copies; build = λ numbers. let p = b.build numbers in (f p.0, p.1) }

-- the one, and then the other
abbrev pub both : {A B : Type 0} → Built A → Built B → Built (A × B)
both a b = record {
  copies = a.copies + b.copies;
  build = λ numbers. let p = a.build numbers in let q = b.build p.1 in ((p.0, q.0), q.1);
}

abbrev pub each : {A : Type 0} → List (Built A) → Built (List A)
each [] = plain []
each (b ∷ bs) = mapped (λ p. p.0 ∷ p.1) (both b (each bs))

abbrev pub perhaps : {A : Type 0} → Option (Built A) → Built (Option A)
perhaps None = plain None
perhaps (Some b) = mapped (λ x. Some x) b

-- with a copy of this weight
abbrev pub copying : {A : Type 0} → ℕ → Built A → Built A
copying weight b = record { copies = b.copies + weight; build = b.build }

-- the number of a literal
abbrev pub literal_number : Lit → Built ℕ
literal_number new = record {
  copies = 0;
  build = λ numbers. (place_of (is_same_literal new) numbers.literals, record numbers { literals = with_member (is_same_literal new) new numbers.literals });
}

-- the number of a called name
abbrev pub symbol_number : Name → Built ℕ
symbol_number new = record {
  copies = 0;
  build = λ numbers. (place_of (bytes_eq new) numbers.symbols, record numbers { symbols = with_member (bytes_eq new) new numbers.symbols });
}
