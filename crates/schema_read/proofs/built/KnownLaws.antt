-- What is known of keys, as numbers, one by one.
use Rattle.std.proofs.Common.{◌≡◌, ℕ, nat_eq, Bool, true, false, ◌||◌, inl, inr, List, [], ◌∷◌, ◌++◌, map, refl, sym, ap, subst, ◌∙◌, ◌<◌, ◌+◌, length, get_or, take}
use Rattle.std.specs.List.{list_any}
use Rattle.std.specs.Cmp.Lexicographic.{same_text}
use Rattle.std.proofs.lemmas.Bool.{cases_Bool, cond_both}
use Rattle.std.proofs.lemmas.List.{map-append, take_more}
use Rattle.std.proofs.lemmas.List.Folds.{list_any-append}
use Rattle.std.proofs.lemmas.Map.Views.{exact_unsigned_eq}
use Rattle.std.proofs.lemmas.Option.{same_Some}
use Rattle.indexmap.specs.IndexSet.{insert_key}
use Rattle.sql_model.specs.declared.schema.Table.{Table}
use Rattle.sql_model.specs.Columns.{same_name}
use Rattle.sql_model.specs.Syntax.{Name}
use Rattle.schema_read.specs.declared.sets.KeySets.{KeySets}
use Rattle.schema_read.specs.Keys.{has_key}
use Rattle.schema_read.specs.Known.{AreSetsOf, Learns}
use Rattle.schema_read.specs.Sets.{column_set}
use Rattle.schema_read.proofs.built.SetLaws.{known}

any-insert : (numbers : List ℕ) (q set : ℕ) → list_any (nat_eq set) (insert_key nat_eq numbers q) ≡ (list_any (nat_eq set) numbers || (nat_eq set q || false))
any-insert numbers q set = cond_both (list_any (nat_eq q) numbers) numbers (numbers ++ q ∷ []) (λ z. list_any (nat_eq set) z ≡ (list_any (nat_eq set) numbers || (nat_eq set q || false)))
    (λ old. absorbed (list_any (nat_eq set) numbers) (nat_eq set q) (λ same. subst (λ n. list_any (nat_eq n) numbers ≡ true) (sym (exact_unsigned_eq set q same)) old))
    (λ new. list_any-append (nat_eq set) numbers (q ∷ []))
  where
    absorbed : (a b : Bool) → (b ≡ true → a ≡ true) → a ≡ (a || (b || false))
    absorbed true b h = refl
    absorbed false true h = h refl
    absorbed false false h = refl

pub sets_push : (keys : List (List ℕ)) (numbers : List ℕ) (key : List ℕ) → AreSetsOf keys numbers → AreSetsOf (keys ++ key ∷ []) (insert_key nat_eq numbers (column_set key))
sets_push keys numbers key are set =
    any-insert numbers (column_set key) set
    ∙ ap (λ b. b || (nat_eq set (column_set key) || false)) (are set)
    ∙ sym (list_any-append (nat_eq set) (map column_set keys) (column_set key ∷ []))
    ∙ ap (list_any (nat_eq set)) (sym (map-append column_set keys (key ∷ [])))

pub take_next : (xs : List (List ℕ)) (i : ℕ) (x : List ℕ) → i < length xs → x ≡ get_or xs i x → take i xs ++ x ∷ [] ≡ take (i + 1) xs
take_next xs i x within is = sym (take_more xs i x within ∙ ap (λ y. take i xs ++ y ∷ []) (sym is))

pub learns_push : (known : List (Name × KeySets)) (to : Name) (keys : KeySets) (table : Table) → AreSetsOf table.keys keys.sets.keys
    → Learns known (known ++ (to, keys) ∷ []) to table
learns_push [] to keys table are name sets h = elim (cases_Bool (same_name name to)) [
  | inl is ↦ inr (same_text name to (sym is), subst (λ s. AreSetsOf table.keys s.sets.keys) (same_Some keys sets (rw is at h)) are)
  | inr isnt ↦ inl (rw isnt at h)
]
learns_push (x ∷ known) to keys table are name sets h = elim (cases_Bool (same_name name x.0)) [
  | inl is ↦ inl (rw is (rw is at h))
  | inr isnt ↦ rw isnt (learns_push known to keys table are name sets (rw isnt at h))
]

pub known_key : (keys : List (List ℕ)) (numbers : List ℕ) (columns : List ℕ) → AreSetsOf keys numbers → list_any (nat_eq (column_set columns)) numbers ≡ has_key keys columns
known_key keys numbers columns are = are (column_set columns) ∙ known keys columns
