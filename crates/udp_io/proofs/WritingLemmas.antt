-- How what a sink holds grows over several calls.
use Rattle.std.proofs.Common.{ℕ, ◌+◌, List, [], ◌++◌, Option, None, Some, length, take, sym, ◌∙◌, ap, arith, append_assoc, append-nil, length-append}
use Rattle.std.proofs.Math.Seq.{take-append-add}
use Rattle.udp_io.specs.Writing.{Grows, GrowsByPrefix}

pub Grows-nil : (a : Option (List ℕ)) → Grows a a []
Grows-nil None = tt
Grows-nil (Some x) = sym (append-nil x)

pub Grows-trans : (a b c : Option (List ℕ)) (bs cs : List ℕ) → Grows a b bs → Grows b c cs → Grows a c (bs ++ cs)
Grows-trans a b None bs cs p q = tt
Grows-trans a None (Some z) bs cs p q = absurd q
Grows-trans None (Some y) (Some z) bs cs p q = absurd p
Grows-trans (Some x) (Some y) (Some z) bs cs p q = q ∙ ap (λ l. l ++ cs) p ∙ append_assoc x bs cs

-- a prefix of the second bytes came after all of the first ones
pub GrowsByPrefix-after : (a b c : Option (List ℕ)) (bs cs : List ℕ) → Grows a b bs → GrowsByPrefix b c cs → GrowsByPrefix a c (bs ++ cs)
GrowsByPrefix-after a b c bs cs p q = (length bs + q.0, omega (arith, length-append bs cs, q.1), rw take-append-add (Grows-trans a b c bs (take q.0 cs) p q.2))
