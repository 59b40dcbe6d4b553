-- Where a reader stops is the end of the longest prefix.
use Rattle.std.proofs.Common.{◌≡◌, ℕ, ◌≤◌, List, [], ◌∷◌, ◌++◌, length, length-append, append_assoc, sym, ◌∙◌, ap, subst, arith, Some, None}
use Rattle.grammar.specs.Language.{Language, HasPrefixes}
use Rattle.grammar.specs.Reading.{Stops, Took, Failed, IsLongestPrefix}
use Rattle.grammar.specs.Form.{Rules, language}
use Rattle.grammar.proofs.languages.Heights.{name_prefixes, name_grows}
use Rattle.grammar.proofs.languages.Cut.{Cut, longer, same, shorter, cut}

module _ {T A : Type 0} (L : Language T A) (l : HasPrefixes L) where
  pub no_longer : (x rest : List T) (t : T) (k : List T) → Stops L x rest → rest ≡ t ∷ k → (y : List T) → L.prefix (x ++ t ∷ y) → ⊥
  no_longer x [] t k s e y f = cc
  no_longer x (c ∷ rest) t k s e y f =
      let i : t ≡ c = cc in
      s (subst (λ z. L.prefix (x ++ z ∷ [])) i (l.shorter (x ++ t ∷ []) y (subst L.prefix (sym (append_assoc x (t ∷ []) y)) f)))

  pub stops_at_longest : (ts taken rest : List T) → ts ≡ taken ++ rest → L.prefix taken → Stops L taken rest → IsLongestPrefix L ts taken
  stops_at_longest ts taken rest e b s = record {
    leading = (rest, e);
    begins = b;
    longest = λ x y i f. at_most x y (cut x y taken rest (sym i ∙ e)) f;
  }
    where
      at_most : (x y : List T) → Cut x y taken rest → L.prefix x → length x ≤ length taken
      at_most x y (longer t k p q) f = omega (arith, ap length p, length-append x (t ∷ k))
      at_most x y (same p q) f = omega (arith, ap length p)
      at_most x y (shorter t k p q) f = absurd (no_longer taken rest t (k ++ y) s q k (subst L.prefix p f))

module _ {T K N : Type 0} {V : N → Type 0} (kind : T → K) (rules : Rules T K N V) (n : N) (levels : ℕ) (ts rest : List T) where
  abbrev free : Language T (V n)
  free = language kind rules None n

  abbrev bounded : Language T (V n)
  bounded = language kind rules (Some levels) n

  pub took_longest : (v : V n) (r : Took free bounded ts v rest) → IsLongestPrefix free ts r.taken
  took_longest v r =
      let f = name_prefixes kind rules None n in
      stops_at_longest free f ts r.taken rest r.whole (f.spelled r.taken v ((name_grows kind rules (Some levels) None tt n).spells r.taken v r.spelled)) r.stops

  pub failed_longest : (r : Failed free bounded ts rest) → IsLongestPrefix free ts r.taken
  failed_longest r =
      stops_at_longest free (name_prefixes kind rules None n) ts r.taken rest r.whole ((name_grows kind rules (Some levels) None tt n).prefix r.taken r.begun) r.stops
