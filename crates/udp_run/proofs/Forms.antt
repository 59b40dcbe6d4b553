-- Words that a pattern of three has taken apart.
use Rattle.std.proofs.Common.{◌≡◌, ℕ, List, [], ◌∷◌, length, map, get_or, String, string_bytes, ◌∙◌, ap, arith, codes}
use Rattle.std.specs.declared.alloc.Global.{Global}
use Rattle.udp_run.specs.Answer.{IsCheck}

pub three : {X : Type 0} (xs : List X) (a b c : X) → length xs ≡ 3 → a ≡ get_or xs 0 a → b ≡ get_or xs 1 b → c ≡ get_or xs 2 c → xs ≡ a ∷ b ∷ c ∷ []
three [] a b c long p q r = absurd (omega arith)
three (x ∷ []) a b c long p q r = absurd (omega arith)
three (x ∷ y ∷ []) a b c long p q r = absurd (omega arith)
three (x ∷ y ∷ z ∷ []) a b c long p q r = cc
three (x ∷ y ∷ z ∷ w ∷ ws) a b c long p q r = absurd (omega arith)

pub check_of : (words : List (String Global)) (verb case proof : String Global) → length words ≡ 3 → verb ≡ get_or words 0 verb → case ≡ get_or words 1 case → proof ≡ get_or words 2 proof → string_bytes verb ≡ codes "check" → IsCheck words (string_bytes case) (string_bytes proof)
check_of words verb case proof long p q r is =
    ap (map string_bytes) (three words verb case proof long p q r) ∙ ap (λ (v : List ℕ). v ∷ string_bytes case ∷ string_bytes proof ∷ []) is
