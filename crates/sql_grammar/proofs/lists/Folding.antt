-- Folding to lower case is that of the standard library.
use Rattle.std.proofs.Common.{◌≡◌, ℕ, Bool, true, false, List, [], ◌∷◌, map, refl, sym, ◌∙◌, ◌↔◌, IsTrue, arith, inl, inr, bytes_eq}
use Rattle.std.specs.Char.{to_ascii_lowercase}
use Rattle.std.proofs.lemmas.Bool.{cases_Bool, false≢true}
use Rattle.std.proofs.lemmas.Bool.Decides.{nat_tests}
use Rattle.std.proofs.lemmas.Slice.Eq.{bytes_eq-Decides}
use Rattle.sql_lex.specs.Bytes.{folded_byte}

folded-is : (byte : ℕ) → to_ascii_lowercase byte ≡ folded_byte byte
folded-is byte = grind (arith, nat_tests)

map_folded-is : (bytes : List ℕ) → map to_ascii_lowercase bytes ≡ map folded_byte bytes
map_folded-is [] = refl
map_folded-is (byte ∷ bytes) = λ i. folded-is byte i ∷ map_folded-is bytes i

pub same_when_folded : (result : Bool) (a b : List ℕ) → (IsTrue result ↔ (map to_ascii_lowercase a ≡ map to_ascii_lowercase b)) → result ≡ bytes_eq (map folded_byte a) (map folded_byte b)
same_when_folded true a b h = sym ((bytes_eq-Decides (map folded_byte a) (map folded_byte b)).1 (sym (map_folded-is a) ∙ h.0 refl ∙ map_folded-is b))
same_when_folded false a b h = elim (cases_Bool (bytes_eq (map folded_byte a) (map folded_byte b))) [
  | inl same ↦ absurd (false≢true (h.1 (map_folded-is a ∙ (bytes_eq-Decides (map folded_byte a) (map folded_byte b)).0 same ∙ sym (map_folded-is b))))
  | inr differ ↦ sym differ
]
