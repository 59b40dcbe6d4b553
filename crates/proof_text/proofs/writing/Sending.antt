-- Texts that are written one after the other.
use Rattle.std.proofs.Common.{◌≡◌, ℕ, ◌≤◌, Bool, true, false, List, [], ◌++◌, length, length-append, Option, refl, sym, ap, ◌∙◌, subst, arith, append_assoc, append-nil}
use Rattle.std.proofs.lemmas.List.{take-append-le}
use Rattle.udp_io.specs.Faults.{Rose}
use Rattle.udp_io.specs.Writing.{Grows, GrowsByPrefix}
use Rattle.udp_io.proofs.WritingLemmas.{Grows-nil, Grows-trans, GrowsByPrefix-after}
use Rattle.proof_text.specs.Sent.{Unsent, Sends, Writes}

pub sends-none : (a : Option (List ℕ)) (p t : List ℕ) → Sends a a p t (p ++ t)
sends-none a p t = record { sent = []; grows = Grows-nil a; same = refl }

sends-then : (a b c : Option (List ℕ)) (p t q u r : List ℕ) → Sends a b p t q → Sends b c q u r → Sends a c p (t ++ u) r
sends-then a b c p t q u r m n = record {
  sent = m.sent ++ n.sent;
  grows = Grows-trans a b c m.sent n.sent m.grows n.grows;
  same = append_assoc m.sent n.sent r ∙ ap (λ (z : List ℕ). m.sent ++ z) n.same ∙ sym (append_assoc m.sent q u) ∙ ap (λ (z : List ℕ). z ++ u) m.same ∙ append_assoc p t u;
}

-- a fault in what comes behind
prefix-after : (a b c : Option (List ℕ)) (p t q u : List ℕ) → Sends a b p t q → GrowsByPrefix b c (q ++ u) → GrowsByPrefix a c (p ++ (t ++ u))
prefix-after a b c p t q u m g =
    subst (λ (z : List ℕ). GrowsByPrefix a c z)
    (sym (append_assoc m.sent q u) ∙ ap (λ (z : List ℕ). z ++ u) m.same ∙ append_assoc p t u)
    (GrowsByPrefix-after a b c m.sent (q ++ u) m.grows g)

-- a fault before what comes behind
prefix-first : (a c : Option (List ℕ)) (x y : List ℕ) → GrowsByPrefix a c x → GrowsByPrefix a c (x ++ y)
prefix-first a c x y g =
    let h : g.0 ≤ length x = omega (arith, g.1) in
    (g.0, omega (arith, length-append x y, g.1), subst (λ (z : List ℕ). Grows a c z) (sym (take-append-le g.0 x y h)) g.2)

-- what was written, and then the rest
pub writes-then : {a b c : Option (List ℕ)} {x y z : ℕ} {p q r : Unsent} {t u : List ℕ} → Writes a b x y p t q → Writes b c y z q u r → Writes a c x z p (t ++ u) r
writes-then {a = a} {b = b} {c = c} {x = x} {y = y} {z = z} {p = p} {q = q} {r = r} {t = t} {u = u} m n = record {
  later = omega (arith, m.later, n.later);
  holds = λ e. let k = n.holds e in let h = m.holds k.0 in (h.0, sends-then a b c p.bytes t q.bytes u r.bytes h.1 k.1);
  fails = λ e f. go q.failed refl e f;
  stays = λ e. let h = m.stays e in let k = n.stays h.0 in (k.0, k.1 ∙ h.1);
}
  where
    go : (d : Bool) → q.failed ≡ d → r.failed ≡ true → p.failed ≡ false → GrowsByPrefix a c (p.bytes ++ (t ++ u)) × Rose x z
    go true d e f =
        let h = m.fails d f in
        let k = n.stays d in (
          subst (λ (w : Option (List ℕ)). GrowsByPrefix a w (p.bytes ++ (t ++ u))) (sym k.1)
              (subst (λ (w : List ℕ). GrowsByPrefix a b w) (append_assoc p.bytes t u) (prefix-first a b (p.bytes ++ t) u h.0)),
          omega (arith, h.1, n.later),
        )
    go false d e f =
        let h = m.holds d in
        let k = n.fails e d in
        (prefix-after a b c p.bytes t q.bytes u h.1 k.0, omega (arith, m.later, k.1))

-- nothing was handed on
pub writes-none : (a : Option (List ℕ)) (x : ℕ) (p : Unsent) (t : List ℕ) → Writes a a x x p t (record { bytes = p.bytes ++ t; failed = p.failed })
writes-none a x p t = record {
  later = omega arith;
  holds = λ e. (e, sends-none a p.bytes t);
  fails = λ e f. cc;
  stays = λ e. (e, refl);
}

pub writes-as : {a b : Option (List ℕ)} {x y : ℕ} {p q : Unsent} {t u : List ℕ} → t ≡ u → Writes a b x y p t q → Writes a b x y p u q
writes-as {a = a} {b = b} {x = x} {y = y} {p = p} {q = q} e m = subst (λ (t : List ℕ). Writes a b x y p t q) e m

-- ---- at the end
pub sent-all : (old new : Option (List ℕ)) (before now : ℕ) (text : List ℕ) (q : Unsent) → Writes old new before now (record { bytes = []; failed = false }) (text ++ []) q → q.failed ≡ false → q.bytes ≡ []
    → Grows old new text
sent-all old new before now text q m e h =
    let k = (m.holds e).1 in
    subst (λ (z : List ℕ). Grows old new z) (sym (append-nil k.sent) ∙ ap (λ (z : List ℕ). k.sent ++ z) (sym h) ∙ k.same ∙ append-nil text) k.grows

pub sent-some : (old new : Option (List ℕ)) (before now : ℕ) (text : List ℕ) (q : Unsent) → Writes old new before now (record { bytes = []; failed = false }) (text ++ []) q → q.failed ≡ true
    → GrowsByPrefix old new text
sent-some old new before now text q m e = subst (λ (z : List ℕ). GrowsByPrefix old new z) (append-nil text) (m.fails e refl).0
