-- The parts of a store over files.
use Rattle.std.specs.Prelude.{ℕ, List, Option, IsSome, option_and_then}
use Rattle.udp_io.specs.declared.file_store.FileStore.{FileStore}

-- a file is selected
abbrev pub HasFile : {R File Dir : Type 0} → FileStore R File Dir → Type 0
HasFile store = IsSome store.selected

-- the bytes that the selected file has left, where the type of files tells them
abbrev pub file_remaining : {R File Dir : Type 0} → (File → Option (List ℕ)) → FileStore R File Dir → Option (List ℕ)
file_remaining remaining store = option_and_then remaining store.selected

-- one count for every name
abbrev pub file_faults : {R File Dir : Type 0} → FileStore R File Dir → List ℕ → ℕ
file_faults store name = store.faults
