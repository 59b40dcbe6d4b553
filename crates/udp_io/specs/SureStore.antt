-- What a store in memory that never fails means as a store.
use Rattle.std.specs.Prelude.{ℕ, List, Option, Some}
use Rattle.udp_io.specs.Texts.{NamedTexts, no_texts, text_of, IsSelected}

-- its texts, and the most bytes that are taken at once
pub record FaultlessStore : Type 0 where
  pub texts : NamedTexts
  pub piece : ℕ

abbrev pub empty_sure_store : ℕ → FaultlessStore
empty_sure_store piece = record { texts = no_texts; piece = piece }

-- an absent name has the empty text
abbrev pub sure_text : FaultlessStore → List ℕ → Option (List ℕ)
sure_text store name = Some (text_of store.texts name)

abbrev pub sure_left : FaultlessStore → Option (List ℕ)
sure_left store = Some store.texts.left

-- the text of this name is the selected one
abbrev pub IsSureUsable : FaultlessStore → List ℕ → Type 0
IsSureUsable store name = IsSelected store.texts name
