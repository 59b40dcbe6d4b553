-- The language of a name is that of its production, at the names' languages, with every room.
use Rattle.std.proofs.Common.{ℕ, zero, suc, List, [], ◌∷◌, ◌++◌, inl, inr, refl, Some, None, arith}
use Rattle.grammar.specs.Language.{Language, Includes, HasPrefixes, Concatenates}
use Rattle.grammar.specs.Form.{Form, Rules, Room, IsRoomier, empty, token, seq, alt, star, nest, map, only, nonempty, counted, fork, ref, form_language, language_within, language}
use Rattle.grammar.proofs.languages.Prefixes.{no_prefixes}
use Rattle.grammar.proofs.languages.Forms.{includes_itself, includes_through, includes_nothing, concatenates_more, form_prefixes, form_grows}

-- ---- heights

-- at most
data Le (h : ℕ) : ℕ → Type 0 where
  at : Le h h
  up : {j : ℕ} → Le h j → Le h (suc j)

from_zero : (j : ℕ) → Le zero j
from_zero zero = at
from_zero (suc j) = up (from_zero j)

both_up : {h j : ℕ} → Le h j → Le (suc h) (suc j)
both_up at = at
both_up (up p) = up (both_up p)

record Above (h j : ℕ) : Type 0 where
  top : ℕ
  left : Le h top
  right : Le j top

above : (h j : ℕ) → Above h j
above zero j = record { top = j; left = from_zero j; right = at }
above (suc h) j = let a = above h j in record { top = suc a.top; left = both_up a.left; right = up a.right }

pub same_room : (room : Room) → IsRoomier room room
same_room None = tt
same_room (Some levels) = omega arith

module _ {T K N : Type 0} {V : N → Type 0} (kind : T → K) (rules : Rules T K N V) where
  abbrev At : ℕ → Room → (n : N) → Language T (V n)
  At h = language_within kind rules h

  abbrev All : Room → (n : N) → Language T (V n)
  All = language kind rules

  pub prefixes_within : (h : ℕ) (room : Room) (n : N) → HasPrefixes (At h room n)
  prefixes_within zero room n = no_prefixes
  prefixes_within (suc h) room n = form_prefixes kind (At h) (prefixes_within h) (rules n) room

  -- with no limits, more is spelled at the same height
  roomier : (h : ℕ) (small large : Room) → IsRoomier small large → (n : N) → Includes (At h large n) (At h small n)
  roomier zero small large w n = includes_itself _
  roomier (suc h) small large w n = form_grows kind (At h) (At h) (prefixes_within h) (roomier h) (rules n) small large w

  one_more : (h : ℕ) (small large : Room) → IsRoomier small large → (n : N) → Includes (At (suc h) large n) (At h small n)
  one_more zero small large w n = includes_nothing _ (prefixes_within (suc zero) large n).empty
  one_more (suc h) small large w n = form_grows kind (At h) (At (suc h)) (prefixes_within (suc h)) (one_more h) (rules n) small large w

  higher : {h j : ℕ} → Le h j → (small large : Room) → IsRoomier small large → (n : N) → Includes (At j large n) (At h small n)
  higher at small large w n = roomier _ small large w n
  higher (up {j = j} p) small large w n = includes_through _ _ _ (higher p small large w n) (one_more j large large (same_room large) n)

  lift : {A : Type 0} (f : Form T K N V A) (room : Room) {h j : ℕ} → Le h j → Includes (form_language kind (At j) room f) (form_language kind (At h) room f)
  lift f room {h} {j} p = form_grows kind (At h) (At j) (prefixes_within j) (higher p) f room room (same_room room)

  -- ---- a spelling or a prefix uses finitely many levels

  abbrev Spelled : {A : Type 0} → Form T K N V A → Room → List T → A → Type 0
  Spelled f room ts v = (h : ℕ) × (form_language kind (At h) room f).spells ts v

  abbrev Begun : {A : Type 0} → Form T K N V A → Room → List T → Type 0
  Begun f room ts = (h : ℕ) × (form_language kind (At h) room f).prefix ts

  all_spelled : {A : Type 0} (f : Form T K N V A) (room : Room) (L : Language T A) → ((ts : List T) (v : A) → L.spells ts v → Spelled f room ts v)
      → (ts : List T) (vs : List A) → Concatenates L.spells ts vs → (h : ℕ) × Concatenates (form_language kind (At h) room f).spells ts vs
  all_spelled f room L one ts [] e = (zero, e)
  all_spelled f room L one ts (v ∷ vs) (x, y, e, s, r) =
      let p = one x v s in let q = all_spelled f room L one y vs r in let a = above p.0 q.0 in
      (a.top, (x, y, e, (lift f room a.left).spells x v p.1, concatenates_more _ _ (lift f room a.right).spells y vs q.1))

  spelled : {A : Type 0} (f : Form T K N V A) (room : Room) (ts : List T) (v : A) → (form_language kind All room f).spells ts v → Spelled f room ts v
  unfolding language
  spelled empty room ts v s = (zero, s)
  spelled (token p) room ts v s = (zero, s)
  spelled (seq f g) room ts v (x, y, e, s, r) =
      let p = spelled f room x v.0 s in let q = spelled g room y v.1 r in let a = above p.0 q.0 in
      (a.top, (x, y, e, (lift f room a.left).spells x v.0 p.1, (lift g room a.right).spells y v.1 q.1))
  spelled (alt f g) room ts v (inl s) = let p = spelled f room ts v s in (p.0, inl p.1)
  spelled (alt f g) room ts v (inr s) = let p = spelled g room ts v s in (p.0, inr p.1)
  spelled (star most f) None ts v s = all_spelled f None (form_language kind All None f) (spelled f None) ts v s
  spelled (star None f) (Some levels) ts v s = all_spelled f (Some levels) (form_language kind All (Some levels) f) (spelled f (Some levels)) ts v s
  spelled (star (Some most) f) (Some levels) ts v s =
      let p = all_spelled f (Some levels) (form_language kind All (Some levels) f) (spelled f (Some levels)) ts v s.0 in (p.0, (p.1, s.1))
  spelled (nest f) None ts v s = spelled f None ts v s
  spelled (nest f) (Some zero) ts v s = absurd s
  spelled (nest f) (Some (suc levels)) ts v s = spelled f (Some levels) ts v s
  spelled (map k f) room ts v (u, s, e) = let p = spelled f room ts u s in (p.0, (u, p.1, e))
  spelled (only t f) room ts v (s, e) = let p = spelled f room ts v s in (p.0, (p.1, e))
  spelled (nonempty f) room ts v (s, e) = let p = spelled f room ts v s in (p.0, (p.1, e))
  spelled (counted f) room ts v (s, e) = let p = spelled f room ts v.0 s in (p.0, (p.1, e))
  spelled (fork f g h) room ts v (x, y, inl c, e, s, (k, r, i)) =
      let p = spelled f room x (inl c) s in let q = spelled g room y k r in let a = above p.0 q.0 in
      (a.top, (x, y, inl c, e, (lift f room a.left).spells x (inl c) p.1, (k, (lift g room a.right).spells y k q.1, i)))
  spelled (fork f g h) room ts v (x, y, inr c, e, s, (k, r, i)) =
      let p = spelled f room x (inr c) s in let q = spelled h room y k r in let a = above p.0 q.0 in
      (a.top, (x, y, inr c, e, (lift f room a.left).spells x (inr c) p.1, (k, (lift h room a.right).spells y k q.1, i)))
  spelled (ref n) room ts v s = s

  begun : {A : Type 0} (f : Form T K N V A) (room : Room) (ts : List T) → (form_language kind All room f).prefix ts → Begun f room ts
  unfolding language
  begun empty room ts s = (zero, s)
  begun (token p) room ts s = (zero, s)
  begun (seq f g) room ts (inl s) = let p = begun f room ts s in (p.0, inl p.1)
  begun (seq f g) room ts (inr (x, y, v, e, s, r)) =
      let p = spelled f room x v s in let q = begun g room y r in let a = above p.0 q.0 in
      (a.top, inr (x, y, v, e, (lift f room a.left).spells x v p.1, (lift g room a.right).prefix y q.1))
  begun (alt f g) room ts (inl s) = let p = begun f room ts s in (p.0, inl p.1)
  begun (alt f g) room ts (inr s) = let p = begun g room ts s in (p.0, inr p.1)
  begun (star most f) None ts (inl e) = (zero, inl e)
  begun (star most f) None ts (inr (x, y, vs, e, s, r)) =
      let p = all_spelled f None (form_language kind All None f) (spelled f None) x vs s in let q = begun f None y r in let a = above p.0 q.0 in
      (a.top, inr (x, y, vs, e, concatenates_more _ _ (lift f None a.left).spells x vs p.1, (lift f None a.right).prefix y q.1))
  begun (star None f) (Some levels) ts (inl e) = (zero, inl e)
  begun (star None f) (Some levels) ts (inr (x, y, vs, e, s, r)) =
      let p = all_spelled f (Some levels) (form_language kind All (Some levels) f) (spelled f (Some levels)) x vs s in
      let q = begun f (Some levels) y r in let a = above p.0 q.0 in
      (a.top, inr (x, y, vs, e, concatenates_more _ _ (lift f (Some levels) a.left).spells x vs p.1, (lift f (Some levels) a.right).prefix y q.1))
  begun (star (Some most) f) (Some levels) ts (inl e) = (zero, inl e)
  begun (star (Some most) f) (Some levels) ts (inr (x, y, vs, e, s, r, n)) =
      let p = all_spelled f (Some levels) (form_language kind All (Some levels) f) (spelled f (Some levels)) x vs s in
      let q = begun f (Some levels) y r in let a = above p.0 q.0 in
      (a.top, inr (x, y, vs, e, concatenates_more _ _ (lift f (Some levels) a.left).spells x vs p.1, (lift f (Some levels) a.right).prefix y q.1, n))
  begun (nest f) None ts s = begun f None ts s
  begun (nest f) (Some zero) ts s = (zero, s)
  begun (nest f) (Some (suc levels)) ts s = begun f (Some levels) ts s
  begun (map k f) room ts s = begun f room ts s
  begun (only t f) room ts s = begun f room ts s
  begun (nonempty f) room ts s = begun f room ts s
  begun (counted f) room ts s = begun f room ts s
  begun (fork f g h) room ts (inl s) = let p = begun f room ts s in (p.0, inl p.1)
  begun (fork f g h) room ts (inr (x, y, inl c, e, s, r)) =
      let p = spelled f room x (inl c) s in let q = begun g room y r in let a = above p.0 q.0 in
      (a.top, inr (x, y, inl c, e, (lift f room a.left).spells x (inl c) p.1, (lift g room a.right).prefix y q.1))
  begun (fork f g h) room ts (inr (x, y, inr c, e, s, r)) =
      let p = spelled f room x (inr c) s in let q = begun h room y r in let a = above p.0 q.0 in
      (a.top, inr (x, y, inr c, e, (lift f room a.left).spells x (inr c) p.1, (lift h room a.right).prefix y q.1))
  begun (ref n) room ts s = s

  -- ---- what holds at each height holds of the whole

  pub in_name : (h : ℕ) (room : Room) (n : N) → Includes (All room n) (At h room n)
  unfolding language
  in_name h room n = record { spells = λ ts v s. (h, s); prefix = λ ts s. (h, s) }

  pub spelled_at : (room : Room) (n : N) (ts : List T) (v : V n) → (All room n).spells ts v → (h : ℕ) × (At h room n).spells ts v
  unfolding language
  spelled_at room n ts v s = s

  pub prefix_at : (room : Room) (n : N) (ts : List T) → (All room n).prefix ts → (h : ℕ) × (At h room n).prefix ts
  unfolding language
  prefix_at room n ts s = s

  pub name_prefixes : (room : Room) (n : N) → HasPrefixes (All room n)
  name_prefixes room n = record {
    empty = (in_name zero room n).prefix [] refl;
    shorter = λ x y f. let p = prefix_at room n (x ++ y) f in (in_name p.0 room n).prefix x ((prefixes_within p.0 room n).shorter x y p.1);
    spelled = λ ts v s. let p = spelled_at room n ts v s in (in_name p.0 room n).prefix ts ((prefixes_within p.0 room n).spelled ts v p.1);
  }

  -- more room, more is spelled
  pub name_grows : (small large : Room) → IsRoomier small large → (n : N) → Includes (All large n) (All small n)
  name_grows small large w n = record {
    spells = λ ts v s. let p = spelled_at small n ts v s in (in_name p.0 large n).spells ts v ((roomier p.0 small large w n).spells ts v p.1);
    prefix = λ ts f. let p = prefix_at small n ts f in (in_name p.0 large n).prefix ts ((roomier p.0 small large w n).prefix ts p.1);
  }

  -- two facts at one height
  pub record Together (room : Room) (n : N) (P Q : Language T (V n) → Type 0) : Type 0 where
    pub height : ℕ
    pub left : P (At height room n)
    pub right : Q (At height room n)

  pub spelled_and_prefix : (room : Room) (n : N) (x : List T) (v : V n) (y : List T) → (All room n).spells x v → (All room n).prefix y
      → Together room n (λ L. L.spells x v) (λ L. L.prefix y)
  spelled_and_prefix room n x v y s f =
      let p = spelled_at room n x v s in let q = prefix_at room n y f in let a = above p.0 q.0 in
      record { height = a.top; left = (higher a.left room room (same_room room) n).spells x v p.1; right = (higher a.right room room (same_room room) n).prefix y q.1 }

  pub spelled_both : (room : Room) (n : N) (x y : List T) (v w : V n) → (All room n).spells x v → (All room n).spells y w
      → Together room n (λ L. L.spells x v) (λ L. L.spells y w)
  spelled_both room n x y v w s r =
      let p = spelled_at room n x v s in let q = spelled_at room n y w r in let a = above p.0 q.0 in
      record { height = a.top; left = (higher a.left room room (same_room room) n).spells x v p.1; right = (higher a.right room room (same_room room) n).spells y w q.1 }

  pub spelled_twice : (room : Room) (n : N) (x : List T) (v w : V n) → (All room n).spells x v → (All room n).spells x w
      → Together room n (λ L. L.spells x v) (λ L. L.spells x w)
  spelled_twice room n x v w s r = spelled_both room n x x v w s r

  -- ---- a name's language and its production's

  pub of_form : {A : Type 0} (f : Form T K N V A) (room : Room) → HasPrefixes (form_language kind All room f)
  of_form f room = form_prefixes kind All name_prefixes f room

  -- what a form means at a height is part of what it means
  pub lifted : {A : Type 0} (h : ℕ) (f : Form T K N V A) (room : Room) → Includes (form_language kind All room f) (form_language kind (At h) room f)
  lifted h f room =
      form_grows kind (At h) All name_prefixes (λ small large w m. includes_through _ _ _ (in_name h small m) (name_grows small large w m)) f room room (same_room room)

  opened : (h : ℕ) (room : Room) (n : N) → Includes (form_language kind All room (rules n)) (At h room n)
  opened zero room n = includes_nothing _ (of_form (rules n) room).empty
  opened (suc h) room n = lifted h (rules n) room

  pub to_rule : (room : Room) (n : N) → Includes (form_language kind All room (rules n)) (All room n)
  to_rule room n = record {
    spells = λ ts v s. let p = spelled_at room n ts v s in (opened p.0 room n).spells ts v p.1;
    prefix = λ ts s. let p = prefix_at room n ts s in (opened p.0 room n).prefix ts p.1;
  }

  pub from_rule : (room : Room) (n : N) → Includes (All room n) (form_language kind All room (rules n))
  unfolding language
  from_rule room n = record {
    spells = λ ts v s. let p = spelled (rules n) room ts v s in (suc p.0, p.1);
    prefix = λ ts s. let p = begun (rules n) room ts s in (suc p.0, p.1);
  }
