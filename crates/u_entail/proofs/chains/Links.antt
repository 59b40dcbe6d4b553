-- A link that is given is no call, and both give back their parts.
use Rattle.std.proofs.Common.{◌≡◌, ℕ, Bool, false, List, [], ap, sym, ◌∙◌}
use Rattle.u_equal.specs.declared.link.Link.{Link}
use Rattle.u_equal.specs.declared.link.Link.TheOpen.{Link-F}
use Rattle.u_equal.specs.declared.link.Link.TheViews.{out-Link, out-roll-Link, rolls-Given, rolls-Call}
use Rattle.u_equal.specs.declared.link.Link.TheVariants as link

abbrev factor_of : Link-F Link → ℕ
factor_of (Link-F.Given factor turned) = factor
factor_of (Link-F.Call pairs) = 0

abbrev turned_of : Link-F Link → Bool
turned_of (Link-F.Given factor turned) = turned
turned_of (Link-F.Call pairs) = false

abbrev pairs_of : Link-F Link → List (List Link)
pairs_of (Link-F.Given factor turned) = []
pairs_of (Link-F.Call pairs) = pairs

out-given : (factor : ℕ) (turned : Bool) → out-Link (link.Given factor turned) ≡ Link-F.Given factor turned
out-given factor turned = ap out-Link (sym (rolls-Given factor turned)) ∙ out-roll-Link (Link-F.Given factor turned)

out-call : (pairs : List (List Link)) → out-Link (link.Call pairs) ≡ Link-F.Call pairs
out-call pairs = ap out-Link (sym (rolls-Call pairs)) ∙ out-roll-Link (Link-F.Call pairs)

pub given-parts : (i j : ℕ) (t r : Bool) → link.Given i t ≡ link.Given j r → (i ≡ j) × (t ≡ r)
given-parts i j t r e = let o = sym (out-given i t) ∙ ap out-Link e ∙ out-given j r in (ap factor_of o, ap turned_of o)

pub call-parts : (ps qs : List (List Link)) → link.Call ps ≡ link.Call qs → ps ≡ qs
call-parts ps qs e = ap pairs_of (sym (out-call ps) ∙ ap out-Link e ∙ out-call qs)

pub given-no_call : (i : ℕ) (t : Bool) (ps : List (List Link)) → link.Given i t ≡ link.Call ps → ⊥
given-no_call i t ps e = let o = sym (out-given i t) ∙ ap out-Link e ∙ out-call ps in cc
