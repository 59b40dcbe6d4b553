-- Texts by name, of which one is selected and taken piece by piece.
use Rattle.std.specs.Prelude.{◌≡◌, ℕ, Bool, List, [], ◌∷◌, ◌++◌, Option, None, Some, length, take, drop, min, slice_get, is_some, position, bytes_eq}

pub record NamedText : Type 0 where
  pub name : List ℕ
  pub bytes : List ℕ

-- the texts, the place of the selected one among them, and what is left of it
pub record NamedTexts : Type 0 where
  pub texts : List NamedText
  pub selected : Option ℕ
  pub left : List ℕ

abbrev pub no_texts : NamedTexts
no_texts = record { texts = []; selected = None; left = [] }

-- the place of the text of this name
abbrev pub place_of : NamedTexts → List ℕ → Option ℕ
place_of held name = position (λ t. bytes_eq t.name name) held.texts

abbrev pub has_name : NamedTexts → List ℕ → Bool
has_name held name = is_some (place_of held name)

abbrev pub bytes_of : Option NamedText → List ℕ
bytes_of None = []
bytes_of (Some t) = t.bytes

-- the text at a place, and the empty text where there is no place
abbrev pub text_at : List NamedText → Option ℕ → List ℕ
text_at texts None = []
text_at texts (Some place) = bytes_of (slice_get texts place)

-- the text under this name, and the empty text where there is none
abbrev pub text_of : NamedTexts → List ℕ → List ℕ
text_of held name = text_at held.texts (place_of held name)

-- the text of this name is the selected one
abbrev pub IsSelected : NamedTexts → List ℕ → Type 0
IsSelected held name = held.selected ≡ place_of held name

abbrev pub with_text : NamedTexts → List ℕ → List ℕ → NamedTexts
with_text held name bytes = record held { texts = held.texts ++ record { name = name; bytes = bytes } ∷ [] }

-- the text of this name is the selected one, and all of it is left
abbrev pub with_selected : NamedTexts → List ℕ → NamedTexts
with_selected held name = record held { selected = place_of held name; left = text_of held name }

-- how many bytes go into this buffer, of at most `most` at once
abbrev pub take_count : NamedTexts → ℕ → List ℕ → ℕ
take_count held most buf = min (min (length buf) most) (length held.left)

-- the buffer, with the first n bytes of what is left at its front
abbrev pub with_front : List ℕ → NamedTexts → ℕ → List ℕ
with_front buf held n = take n held.left ++ drop n buf

-- the first n bytes of what was left are taken
abbrev pub without_first : NamedTexts → ℕ → NamedTexts
without_first held n = record held { left = drop n held.left }
