-- Spines: put together, opened, how large they are, and what they multiply.
use Rattle.std.proofs.Common.{◌≡◌, ℕ, ◌+◌, ◌≤◌, List, [], ◌∷◌, ◌++◌, length, refl, ap, ◌∙◌, arith}
use Rattle.std.proofs.lemmas.List.Sums.{sum_by-cons}
use Rattle.data_model.specs.Lists.{Each}
use Rattle.u_terms.specs.Syntax.{U, Val}
use Rattle.u_terms.specs.Binding.{value_for_place, same_name}
use Rattle.u_terms.specs.Places.{IsClosed}
use Rattle.u_terms.specs.Products.{product_of}
use Rattle.u_terms.specs.Size.{nodes, depth}
use Rattle.u_terms.proofs.Mapped.{mapped-Mul}
use Rattle.u_terms.proofs.Sizes.{nodes-Mul, depth-Mul}
use denote.Ref.{Bor}
use Rattle.u_rules.specs.Terms.{◌⊗◌, put, terms}
use Rattle.u_entail.specs.Spines.{spine, weight}
use Rattle.u_entail.proofs.substitution.Places.{closed-unaffected}

pub spine-append : (xs ys : List U) (last : U) → spine (xs ++ ys) last ≡ spine xs (spine ys last)
spine-append [] ys last = refl
spine-append (x ∷ xs) ys last = ap (λ (t : U). x ⊗ t) (spine-append xs ys last)

pub product-spine : (xs : List U) (last : U) → product_of (xs ++ last ∷ []) ≡ spine xs last
product-spine [] last = refl
product-spine (x ∷ []) last = refl
product-spine (x ∷ (y ∷ xs)) last = ap (λ (t : U). x ⊗ t) (product-spine (y ∷ xs) last)

pub put-spine : (a : Val) (xs : List U) (body : U) → Each (IsClosed 0) xs → put a (spine xs body) ≡ spine xs (put a body)
put-spine a [] body each = refl
put-spine a (x ∷ xs) body each =
    mapped-Mul (value_for_place a) same_name 0 x (spine xs body)
    ∙ ap (λ (t : U). t ⊗ put a (spine xs body)) (closed-unaffected a x each.0)
    ∙ ap (λ (t : U). x ⊗ t) (put-spine a xs body each.1)

pub nodes-spine : (xs : List U) (last : U) → nodes (spine xs last) ≡ weight xs + nodes last
nodes-spine [] last = omega arith
nodes-spine (x ∷ xs) last = omega (arith, nodes-Mul x (spine xs last), nodes-spine xs last, sum_by-cons nodes x xs)

-- a part behind the first factors lies as many levels deeper
pub depth-behind : (xs : List U) (last : U) → length xs + depth last ≤ depth (spine xs last)
depth-behind [] last = omega arith
depth-behind (x ∷ xs) last = omega (arith, depth-Mul x (spine xs last), depth-behind xs last)

-- a last factor that is deeper by some levels makes no spine deeper by more
pub depth-near : (more : ℕ) (xs : List U) (y z : U) → depth y ≤ depth z + more → depth (spine xs y) ≤ depth (spine xs z) + more
depth-near more [] y z le = le
depth-near more (x ∷ xs) y z le = omega (arith, depth-Mul x (spine xs y), depth-Mul x (spine xs z), depth-near more xs y z le)

-- nor does one factor less
pub depth-fewer : (front : List U) (x : U) (back : List U) (last : U) → depth (spine (front ++ back) last) ≤ depth (spine (front ++ x ∷ back) last)
depth-fewer [] x back last = omega (arith, depth-Mul x (spine back last))
depth-fewer (y ∷ front) x back last =
    omega (arith, depth-Mul y (spine (front ++ back) last), depth-Mul y (spine (front ++ x ∷ back) last), depth-fewer front x back last)

-- what code that puts spines together needs
pub spine-pop : (refs : List (Bor U)) (r : Bor U) (last : U) → spine (terms (refs ++ r ∷ [])) last ≡ spine (terms refs) (r.now ⊗ last)
spine-pop [] r last = refl
spine-pop (x ∷ refs) r last = ap (λ (t : U). x.now ⊗ t) (spine-pop refs r last)

pub ruleset built = (spine-pop)
