-- What holds of the languages of names holds of the languages of forms: they have prefixes, and grow with the names' languages and the room.
use Rattle.std.proofs.Common.{◌≡◌, ℕ, zero, suc, ◌≤◌, Bool, List, [], ◌∷◌, ◌⊎◌, inl, inr, Some, None, Option, arith}
use Rattle.grammar.specs.Language.{Language, Includes, HasPrefixes, Concatenates, seq_language, alt_language, bind_language, branch, map_language, only_language, nonempty_language, counted_language, no_language, star_language, upto_language}
use Rattle.grammar.specs.Form.{Form, Room, IsRoomier, empty, token, seq, alt, star, nest, map, only, nonempty, counted, fork, ref, form_language, repeated}
use Rattle.grammar.proofs.languages.Prefixes.{empty_prefixes, token_prefixes, seq_prefixes, alt_prefixes, star_prefixes, upto_prefixes, map_prefixes, only_prefixes, nonempty_prefixes, counted_prefixes, bind_prefixes, branch_prefixes, no_prefixes}

pub includes_itself : {T A : Type 0} (L : Language T A) → Includes L L
includes_itself L = record { spells = λ ts v s. s; prefix = λ ts f. f }

pub includes_through : {T A : Type 0} (L M N : Language T A) → Includes M L → Includes N M → Includes N L
includes_through L M N a b = record { spells = λ ts v s. b.spells ts v (a.spells ts v s); prefix = λ ts f. b.prefix ts (a.prefix ts f) }

pub prefix_of_nil : {T A : Type 0} (L : Language T A) → L.prefix [] → (ts : List T) → ts ≡ [] → L.prefix ts
prefix_of_nil L b [] e = b
prefix_of_nil L b (t ∷ ts) e = cc

pub includes_nothing : {T A : Type 0} (L : Language T A) → L.prefix [] → Includes L no_language
includes_nothing L b = record { spells = λ ts v s. absurd s; prefix = prefix_of_nil L b }

pub concatenates_more : {T A : Type 0} (S R : List T → A → Type 0) → ((ts : List T) (v : A) → S ts v → R ts v) → (ts : List T) (vs : List A) → Concatenates S ts vs → Concatenates R ts vs
concatenates_more S R m ts [] e = e
concatenates_more S R m ts (v ∷ vs) (x, y, e, s, r) = (x, y, e, m x v s, concatenates_more S R m y vs r)

-- ---- prefixes

pub repeated_prefixes : {T A : Type 0} (room : Room) (most : Option ℕ) (L : Language T A) → HasPrefixes L → HasPrefixes (repeated room most L)
repeated_prefixes None most L l = star_prefixes L l
repeated_prefixes (Some levels) None L l = star_prefixes L l
repeated_prefixes (Some levels) (Some most) L l = upto_prefixes L l most

module _ {T K N : Type 0} {V : N → Type 0} (kind : T → K) (E : Room → (n : N) → Language T (V n)) (e : (room : Room) (n : N) → HasPrefixes (E room n)) where
  pub form_prefixes : {A : Type 0} (f : Form T K N V A) (room : Room) → HasPrefixes (form_language kind E room f)
  form_prefixes empty room = empty_prefixes
  form_prefixes (token p) room = token_prefixes kind p
  form_prefixes (seq f g) room = seq_prefixes (form_language kind E room f) (form_language kind E room g) (form_prefixes f room) (form_prefixes g room)
  form_prefixes (alt f g) room = alt_prefixes (form_language kind E room f) (form_language kind E room g) (form_prefixes f room) (form_prefixes g room)
  form_prefixes (star most f) room = repeated_prefixes room most (form_language kind E room f) (form_prefixes f room)
  form_prefixes (nest f) None = form_prefixes f None
  form_prefixes (nest f) (Some zero) = no_prefixes
  form_prefixes (nest f) (Some (suc levels)) = form_prefixes f (Some levels)
  form_prefixes (map h f) room = map_prefixes h (form_language kind E room f) (form_prefixes f room)
  form_prefixes (only p f) room = only_prefixes (form_language kind E room f) (form_prefixes f room) p
  form_prefixes (nonempty f) room = nonempty_prefixes (form_language kind E room f) (form_prefixes f room)
  form_prefixes (counted f) room = counted_prefixes (form_language kind E room f) (form_prefixes f room)
  form_prefixes (fork f g h) room =
      bind_prefixes (form_language kind E room f) _ (form_prefixes f room)
      (branch_prefixes (form_language kind E room g) (form_language kind E room h) (form_prefixes g room) (form_prefixes h room))
  form_prefixes (ref n) room = e room n

-- ---- growth

pub seq_in : {T A B : Type 0} (L M : Language T A) (L' M' : Language T B) → Includes M L → Includes M' L' → Includes (seq_language M M') (seq_language L L')
seq_in L M L' M' l m = record { spells = λ ts v s. (s.0, s.1, s.2, l.spells s.0 v.0 s.3, m.spells s.1 v.1 s.4); prefix = prefix }
  where
    prefix : (ts : List _) → (seq_language L L').prefix ts → (seq_language M M').prefix ts
    prefix ts (inl f) = inl (l.prefix ts f)
    prefix ts (inr (x, y, v, e, s, f)) = inr (x, y, v, e, l.spells x v s, m.prefix y f)

pub alt_in : {T A : Type 0} (L M L' M' : Language T A) → Includes M L → Includes M' L' → Includes (alt_language M M') (alt_language L L')
alt_in L M L' M' l m = record {
  spells = λ ts v s. elim s [ inl a ↦ inl (l.spells ts v a) | inr b ↦ inr (m.spells ts v b) ];
  prefix = λ ts f. elim f [ inl a ↦ inl (l.prefix ts a) | inr b ↦ inr (m.prefix ts b) ];
}

bind_in : {T A B : Type 0} (L M : Language T A) (P Q : A → Language T B) → Includes M L → ((v : A) → Includes (Q v) (P v)) → Includes (bind_language M Q) (bind_language L P)
bind_in L M P Q l m = record { spells = λ ts w s. (s.0, s.1, s.2, s.3, l.spells s.0 s.2 s.4, (m s.2).spells s.1 w s.5); prefix = prefix }
  where
    prefix : (ts : List _) → (bind_language L P).prefix ts → (bind_language M Q).prefix ts
    prefix ts (inl f) = inl (l.prefix ts f)
    prefix ts (inr (x, y, v, e, s, f)) = inr (x, y, v, e, l.spells x v s, (m v).prefix y f)

module _ {T A : Type 0} (L M : Language T A) (m : Includes M L) where
  pub map_in : {B : Type 0} (h : A → B) → Includes (map_language h M) (map_language h L)
  map_in h = record { spells = λ ts v s. (s.0, m.spells ts s.0 s.1, s.2); prefix = m.prefix }

  only_in : (p : A → Bool) → Includes (only_language p M) (only_language p L)
  only_in p = record { spells = λ ts v s. (m.spells ts v s.0, s.1); prefix = m.prefix }

  nonempty_in : Includes (nonempty_language M) (nonempty_language L)
  nonempty_in = record { spells = λ ts v s. (m.spells ts v s.0, s.1); prefix = m.prefix }

  pub counted_in : Includes (counted_language M) (counted_language L)
  counted_in = record { spells = λ ts v s. (m.spells ts v.0 s.0, s.1); prefix = m.prefix }

  pub star_grows : Includes (star_language M) (star_language L)
  star_grows = record { spells = concatenates_more _ _ m.spells; prefix = prefix }
    where
      prefix : (ts : List T) → (star_language L).prefix ts → (star_language M).prefix ts
      prefix ts (inl e) = inl e
      prefix ts (inr (x, y, vs, e, s, f)) = inr (x, y, vs, e, concatenates_more _ _ m.spells x vs s, m.prefix y f)

  upto_grows : (most : ℕ) → Includes (upto_language most M) (upto_language most L)
  upto_grows most = record { spells = λ ts vs s. (concatenates_more _ _ m.spells ts vs s.0, s.1); prefix = prefix }
    where
      prefix : (ts : List T) → (upto_language most L).prefix ts → (upto_language most M).prefix ts
      prefix ts (inl e) = inl e
      prefix ts (inr (x, y, vs, e, s, f, n)) = inr (x, y, vs, e, concatenates_more _ _ m.spells x vs s, m.prefix y f, n)

  pub star_includes_upto : (most : ℕ) → Includes (star_language M) (upto_language most L)
  star_includes_upto most = record { spells = λ ts vs s. concatenates_more _ _ m.spells ts vs s.0; prefix = prefix }
    where
      prefix : (ts : List T) → (upto_language most L).prefix ts → (star_language M).prefix ts
      prefix ts (inl e) = inl e
      prefix ts (inr (x, y, vs, e, s, f, n)) = inr (x, y, vs, e, concatenates_more _ _ m.spells x vs s, m.prefix y f)

  pub repeated_grows : (most : Option ℕ) (small large : Room) → IsRoomier small large → Includes (repeated large most M) (repeated small most L)
  repeated_grows most None None w = star_grows
  repeated_grows most None (Some levels) w = absurd w
  repeated_grows None (Some few) None w = star_grows
  repeated_grows (Some most) (Some few) None w = star_includes_upto most
  repeated_grows None (Some few) (Some levels) w = star_grows
  repeated_grows (Some most) (Some few) (Some levels) w = upto_grows most

branch_in : {T A B C : Type 0} (L M : Language T (A → C)) (P Q : Language T (B → C)) → Includes M L → Includes Q P → (v : A ⊎ B) → Includes (branch M Q v) (branch L P v)
branch_in L M P Q l m (inl a) = map_in L M l (λ f. f a)
branch_in L M P Q l m (inr b) = map_in P Q m (λ f. f b)

no_level : (few : ℕ) → suc few ≤ zero → ⊥
no_level few w = omega (arith, w)

module _ {T K N : Type 0} {V : N → Type 0} (kind : T → K) (E F : Room → (n : N) → Language T (V n))
    (b : (room : Room) (n : N) → HasPrefixes (F room n))
    (m : (small large : Room) → IsRoomier small large → (n : N) → Includes (F large n) (E small n)) where
  pub form_grows : {A : Type 0} (f : Form T K N V A) (small large : Room) → IsRoomier small large → Includes (form_language kind F large f) (form_language kind E small f)
  form_grows empty small large w = includes_itself _
  form_grows (token p) small large w = includes_itself _
  form_grows (seq f g) small large w = seq_in _ _ _ _ (form_grows f small large w) (form_grows g small large w)
  form_grows (alt f g) small large w = alt_in _ _ _ _ (form_grows f small large w) (form_grows g small large w)
  form_grows (star most f) small large w = repeated_grows _ _ (form_grows f small large w) most small large w
  form_grows (nest f) None None w = form_grows f None None w
  form_grows (nest f) None (Some levels) w = absurd w
  form_grows (nest f) (Some zero) large w = includes_nothing _ (form_prefixes kind F b (nest f) large).empty
  form_grows (nest f) (Some (suc few)) None w = form_grows f (Some few) None w
  form_grows (nest f) (Some (suc few)) (Some zero) w = absurd (no_level few w)
  form_grows (nest f) (Some (suc few)) (Some (suc levels)) w = form_grows f (Some few) (Some levels) (omega (arith, w))
  form_grows (map h f) small large w = map_in _ _ (form_grows f small large w) h
  form_grows (only p f) small large w = only_in _ _ (form_grows f small large w) p
  form_grows (nonempty f) small large w = nonempty_in _ _ (form_grows f small large w)
  form_grows (counted f) small large w = counted_in _ _ (form_grows f small large w)
  form_grows (fork f g h) small large w =
      bind_in _ _ _ _ (form_grows f small large w) (branch_in _ _ _ _ (form_grows g small large w) (form_grows h small large w))
  form_grows (ref n) small large w = m small large w n
