-- Words that ask for a proof, as a pattern takes them apart.
use Rattle.std.proofs.Common.{◌≡◌, ℕ, List, [], ◌∷◌, length, map, get_or, String, string_bytes, sym, ◌∙◌, ap, arith, codes, inl, inr}
use Rattle.std.specs.Prelude.{◌⊎◌}
use Rattle.std.proofs.lemmas.List.{length-map}
use Rattle.std.specs.Fmt.{decimal}
use Rattle.std.proofs.lemmas.Fmt.{decimal_injective}
use Rattle.std.specs.declared.alloc.Global.{Global}
use Rattle.udp_start.specs.Words.{IsProve, IsBudget}
use Rattle.udp_run.specs.Answer.{IsCheck}

two_items : {X : Type 0} (xs : List X) (a b : X) → length xs ≡ 2 → a ≡ get_or xs 0 a → b ≡ get_or xs 1 b → xs ≡ a ∷ b ∷ []
two_items [] a b long p q = absurd (omega arith)
two_items (x ∷ []) a b long p q = absurd (omega arith)
two_items (x ∷ y ∷ []) a b long p q = cc
two_items (x ∷ y ∷ z ∷ zs) a b long p q = absurd (omega arith)

four_items : {X : Type 0} (xs : List X) (a b c d : X) → length xs ≡ 4 → a ≡ get_or xs 0 a → b ≡ get_or xs 1 b → c ≡ get_or xs 2 c → d ≡ get_or xs 3 d → xs ≡ a ∷ b ∷ c ∷ d ∷ []
four_items [] a b c d long p q r s = absurd (omega arith)
four_items (x ∷ []) a b c d long p q r s = absurd (omega arith)
four_items (x ∷ y ∷ []) a b c d long p q r s = absurd (omega arith)
four_items (x ∷ y ∷ z ∷ []) a b c d long p q r s = absurd (omega arith)
four_items (x ∷ y ∷ z ∷ w ∷ []) a b c d long p q r s = cc
four_items (x ∷ y ∷ z ∷ w ∷ v ∷ vs) a b c d long p q r s = absurd (omega arith)

pub two : (words : List (String Global)) (verb case : String Global) (name : List ℕ) → length words ≡ 2 → verb ≡ get_or words 0 verb → case ≡ get_or words 1 case
    → string_bytes verb ≡ codes "prove" → string_bytes case ≡ name → map string_bytes words ≡ codes "prove" ∷ name ∷ []
two words verb case name long p q is there =
    ap (map string_bytes) (two_items words verb case long p q)
    ∙ ap (λ (v : List ℕ). v ∷ string_bytes case ∷ []) is ∙ ap (λ (n : List ℕ). codes "prove" ∷ n ∷ []) there

pub four : (words : List (String Global)) (verb case option number : String Global) (name digits : List ℕ) → length words ≡ 4
    → verb ≡ get_or words 0 verb → case ≡ get_or words 1 case → option ≡ get_or words 2 option → number ≡ get_or words 3 number
    → string_bytes verb ≡ codes "prove" → string_bytes case ≡ name → string_bytes option ≡ codes "--budget" → string_bytes number ≡ digits
    → map string_bytes words ≡ codes "prove" ∷ name ∷ codes "--budget" ∷ digits ∷ []
four words verb case option number name digits long p q r s is there says counts =
    ap (map string_bytes) (four_items words verb case option number long p q r s)
    ∙ ap (λ (v : List ℕ). v ∷ string_bytes case ∷ string_bytes option ∷ string_bytes number ∷ []) is
    ∙ ap (λ (n : List ℕ). codes "prove" ∷ n ∷ string_bytes option ∷ string_bytes number ∷ []) there
    ∙ ap (λ (o : List ℕ). codes "prove" ∷ name ∷ o ∷ string_bytes number ∷ []) says
    ∙ ap (λ (d : List ℕ). codes "prove" ∷ name ∷ codes "--budget" ∷ d ∷ []) counts

-- ---- words that ask for a proof
pub prove_long : (words : List (String Global)) (case : List ℕ) (budget : ℕ) → IsProve words case budget → (length words ≡ 2) ⊎ (length words ≡ 4)
prove_long words case budget (inl (e, b)) = inl (sym (length-map words string_bytes) ∙ ap length e)
prove_long words case budget (inr (e, b)) = inr (sym (length-map words string_bytes) ∙ ap length e)

pub prove_verb : (words : List (String Global)) (case : List ℕ) (budget : ℕ) (verb : String Global) → IsProve words case budget → verb ≡ get_or words 0 verb → string_bytes verb ≡ codes "prove"
prove_verb [] case budget verb (inl (e, b)) is = absurd (cc e)
prove_verb [] case budget verb (inr (e, b)) is = absurd (cc e)
prove_verb (w ∷ words) case budget verb (inl (e, b)) is = cc
prove_verb (w ∷ words) case budget verb (inr (e, b)) is = cc

pub prove_option : (words : List (String Global)) (case : List ℕ) (budget : ℕ) (option : String Global) → IsProve words case budget → length words ≡ 4 → option ≡ get_or words 2 option
    → string_bytes option ≡ codes "--budget"
prove_option (w ∷ v ∷ o ∷ words) case budget option (inr (e, b)) long is = cc
prove_option [] case budget option h long is = absurd (omega arith)
prove_option (w ∷ []) case budget option h long is = absurd (omega arith)
prove_option (w ∷ v ∷ []) case budget option h long is = absurd (omega arith)
prove_option (w ∷ v ∷ o ∷ words) case budget option (inl (e, b)) long is = absurd (cc e)

-- the number behind the option
pub prove_number : (words : List (String Global)) (case : List ℕ) (budget : ℕ) (number : String Global) → IsProve words case budget → length words ≡ 4 → number ≡ get_or words 3 number
    → (string_bytes number ≡ decimal budget) × IsBudget budget
prove_number (w ∷ v ∷ o ∷ n ∷ words) case budget number (inr (e, b)) long is = (cc, b)
prove_number [] case budget number h long is = absurd (omega arith)
prove_number (w ∷ []) case budget number h long is = absurd (omega arith)
prove_number (w ∷ v ∷ []) case budget number h long is = absurd (omega arith)
prove_number (w ∷ v ∷ o ∷ []) case budget number h long is = absurd (omega arith)
prove_number (w ∷ v ∷ o ∷ n ∷ words) case budget number (inl (e, b)) long is = absurd (cc e)

-- ---- they are of one form, and give one name
pub prove_once : (words : List (String Global)) (case other : List ℕ) (budget more : ℕ) → IsProve words case budget → IsProve words other more → case ≡ other
prove_once words case other budget more (inl (e, b)) (inl (f, c)) = let g : codes "prove" ∷ case ∷ [] ≡ codes "prove" ∷ other ∷ [] = sym e ∙ f in cc
prove_once words case other budget more (inr (e, b)) (inr (f, c)) =
    let g : codes "prove" ∷ case ∷ codes "--budget" ∷ decimal budget ∷ [] ≡ codes "prove" ∷ other ∷ codes "--budget" ∷ decimal more ∷ [] = sym e ∙ f in cc
prove_once words case other budget more (inl (e, b)) (inr (f, c)) =
    absurd (let g : codes "prove" ∷ case ∷ [] ≡ codes "prove" ∷ other ∷ codes "--budget" ∷ decimal more ∷ [] = sym e ∙ f in cc)
prove_once words case other budget more (inr (e, b)) (inl (f, c)) =
    absurd (let g : codes "prove" ∷ case ∷ codes "--budget" ∷ decimal budget ∷ [] ≡ codes "prove" ∷ other ∷ [] = sym e ∙ f in cc)

-- and one budget
pub budget_once : (words : List (String Global)) (case other : List ℕ) (budget more : ℕ) → IsProve words case budget → IsProve words other more → budget ≡ more
budget_once words case other budget more (inl (e, b)) (inl (f, c)) = b ∙ sym c
budget_once words case other budget more (inr (e, b)) (inr (f, c)) =
    let g : codes "prove" ∷ case ∷ codes "--budget" ∷ decimal budget ∷ [] ≡ codes "prove" ∷ other ∷ codes "--budget" ∷ decimal more ∷ [] = sym e ∙ f in
    let same : decimal budget ≡ decimal more = cc in decimal_injective budget more b.1 c.1 same
budget_once words case other budget more (inl (e, b)) (inr (f, c)) =
    absurd (let g : codes "prove" ∷ case ∷ [] ≡ codes "prove" ∷ other ∷ codes "--budget" ∷ decimal more ∷ [] = sym e ∙ f in cc)
budget_once words case other budget more (inr (e, b)) (inl (f, c)) =
    absurd (let g : codes "prove" ∷ case ∷ codes "--budget" ∷ decimal budget ∷ [] ≡ codes "prove" ∷ other ∷ [] = sym e ∙ f in cc)

pub not_check : (words : List (String Global)) (case name proof : List ℕ) (budget : ℕ) → IsProve words case budget → IsCheck words name proof → ⊥
not_check words case name proof budget (inl (e, b)) is = let g : codes "prove" ∷ case ∷ [] ≡ codes "check" ∷ name ∷ proof ∷ [] = sym e ∙ is in cc
not_check words case name proof budget (inr (e, b)) is =
    let g : codes "prove" ∷ case ∷ codes "--budget" ∷ decimal budget ∷ [] ≡ codes "check" ∷ name ∷ proof ∷ [] = sym e ∙ is in cc
