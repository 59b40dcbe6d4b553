-- Lists that are made of parts, and columns in a row.
use Rattle.std.proofs.Common.{◌≡◌, ℕ, zero, suc, ◌+◌, Bool, true, false, List, [], ◌∷◌, ◌++◌, length, ◌&&◌, refl, ap, sym, ◌∙◌, arith, append_assoc, append-nil}
use Rattle.std.specs.List.{list_all}
use Rattle.std.proofs.lemmas.List.{length-append}
use Rattle.std.proofs.lemmas.List.Folds.{list_all-append}
use Rattle.sql_model.specs.Frames.{ColumnName}
use Rattle.scope_core.specs.declared.tree.RVal.TheVariants as v
use Rattle.scope_core.specs.Resolving.{entry_columns}
use Rattle.scope_core.specs.Runs.{columns_from}
use Rattle.scope_core.specs.Written.{written}

-- ---- parts
pub written-more : {T : Type 0} (parts : List (List T)) (last more : List T) → written parts (last ++ more) ≡ written parts last ++ more
written-more [] last more = refl
written-more (part ∷ rest) last more = ap (λ xs. part ++ xs) (written-more rest last more) ∙ sym (append_assoc part (written rest last) more)

pub written-part : {T : Type 0} (parts : List (List T)) (part last : List T) → written (parts ++ part ∷ []) last ≡ written parts (part ++ last)
written-part [] part last = refl
written-part (first ∷ rest) part last = ap (λ xs. first ++ xs) (written-part rest part last)

pub written-closed : {T : Type 0} (parts : List (List T)) (part : List T) → written (parts ++ part ∷ []) [] ≡ written parts part
written-closed parts part = written-part parts part [] ∙ ap (written parts) (append-nil part)

pub written-shared : {T : Type 0} (parts : List (List T)) (part : List T) → written (parts ++ part ∷ []) [] ≡ written parts [] ++ part
written-shared parts part = written-closed parts part ∙ written-more parts [] part

pub length-more : {T : Type 0} (parts : List (List T)) (last : List T) (x : T) → length (written parts (last ++ x ∷ [])) ≡ length (written parts last) + 1
length-more parts last x = ap length (written-more parts last (x ∷ [])) ∙ length-append (written parts last) (x ∷ [])

and-all : {T : Type 0} (p : T → Bool) (b : Bool) (parts : List (List T)) (last rest : List T)
    → (list_all (λ part. list_all p part) parts && list_all p last) ≡ list_all p rest
    → ((b && list_all (λ part. list_all p part) parts) && list_all p last) ≡ (b && list_all p rest)
and-all p true parts last rest same = same
and-all p false parts last rest same = refl

pub all-written : {T : Type 0} (p : T → Bool) (parts : List (List T)) (last : List T)
    → (list_all (λ part. list_all p part) parts && list_all p last) ≡ list_all p (written parts last)
all-written p [] last = refl
all-written p (part ∷ rest) last =
    and-all p (list_all p part) rest last (written rest last) (all-written p rest last) ∙ sym (list_all-append p part (written rest last))

-- ---- columns
pub columns_from-more : (entry first count more : ℕ) → columns_from entry first (count + more) ≡ columns_from entry first count ++ columns_from entry (first + count) more
columns_from-more entry first zero more =
    let e : first + 0 ≡ first = omega arith in
    let z : zero + more ≡ more = omega arith in
    rw (e, z) refl
columns_from-more entry first (suc count) more =
    let s : suc count + more ≡ suc (count + more) = omega arith in
    let e : first + suc count ≡ suc first + count = omega arith in
    rw (s, e) (ap (λ xs. v.Col 0 entry first ∷ xs) (columns_from-more entry (suc first) count more))

pub entry_columns-are : (entry first : ℕ) (columns : List ColumnName) → columns_from entry first (length columns) ≡ entry_columns entry first columns
entry_columns-are entry first [] = refl
entry_columns-are entry first (column ∷ rest) = ap (λ xs. v.Col 0 entry first ∷ xs) (entry_columns-are entry (suc first) rest)
