-- Where a table computes to be right, the language of each name and form is known.
use Rattle.std.proofs.Common.{◌≡◌, ℕ, zero, suc, Bool, true, not, ◌&&◌, ◌||◌, List, [], ◌∷◌, ◌++◌, Some, None, Option, ◌⊎◌}
use Rattle.grammar.specs.Language.{Language, branch, star_language, upto_language}
use Rattle.grammar.specs.Form.{Form, Rules, Room, empty, token, seq, alt, star, nest, map, only, nonempty, counted, fork, ref, form_language, repeated, language_within, language}
use Rattle.grammar.specs.Lookahead.{Lookahead, AreAll, are_apart, is_inside, is_narrower, is_predictive, is_right, lookahead, either_lookahead, star_lookahead}
use Rattle.grammar.proofs.languages.Sets.{and_left, and_right, and_both, not_both, implied, apart, inside}
use Rattle.grammar.proofs.languages.Prefixes.{upto_prefixes}
use Rattle.grammar.proofs.languages.Forms.{includes_itself, repeated_grows}
use Rattle.grammar.proofs.languages.Heights.{name_prefixes, spelled_at, prefix_at, spelled_and_prefix, spelled_twice}
use Rattle.grammar.proofs.languages.Known.{Apart, Known, Parted, narrowed, no_known, empty_known, token_known, map_known, only_known, nonempty_known, counted_known, bind_known, seq_known, alt_known, branch_known, star_known}

-- ---- where the next token decides, it does so in the parts

module _ {T K N : Type 0} {V : N → Type 0} (kinds : List K) (all : AreAll kinds) (table : N → Lookahead K) where
  abbrev ok : {A : Type 0} → Form T K N V A → Bool
  ok f = is_predictive kinds table f

  abbrev la : {A : Type 0} → Form T K N V A → Lookahead K
  la f = lookahead table f

  pub seq_decides : {A B : Type 0} (f : Form T K N V A) (g : Form T K N V B) → ok (seq f g) ≡ true → (ok f ≡ true) × (ok g ≡ true) × Parted (la f) (la g)
  seq_decides f g o =
      let both = and_left (ok f && ok g) (are_apart kinds (la f).last (la g).first) o in
      (and_left (ok f) (ok g) both, and_right (ok f) (ok g) both, apart kinds all (la f).last (la g).first (and_right (ok f && ok g) (are_apart kinds (la f).last (la g).first) o))

  pub alt_decides : {A : Type 0} (f g : Form T K N V A) → ok (alt f g) ≡ true → (ok f ≡ true) × (ok g ≡ true) × Apart (la f) (la g) × ((la f).nullable ≡ true → (la g).nullable ≡ true → ⊥)
  alt_decides f g o =
      let one_way = are_apart kinds (la f).first (la g).first && not ((la f).nullable && (la g).nullable) in
      let both = and_left (ok f && ok g) one_way o in
      let decided = and_right (ok f && ok g) one_way o in (
        and_left (ok f) (ok g) both,
        and_right (ok f) (ok g) both,
        apart kinds all (la f).first (la g).first (and_left (are_apart kinds (la f).first (la g).first) _ decided),
        λ p q. not_both ((la f).nullable && (la g).nullable) (and_right (are_apart kinds (la f).first (la g).first) _ decided) (and_both (la f).nullable (la g).nullable p q),
      )

  pub star_decides : {A : Type 0} (most : Option ℕ) (f : Form T K N V A) → ok (star most f) ≡ true → (ok f ≡ true) × ((la f).nullable ≡ true → ⊥) × Parted (la f) (la f)
  star_decides most f o =
      let goes_on = not (la f).nullable && are_apart kinds (la f).last (la f).first in
      let decided = and_right (ok f) goes_on o in
      (and_left (ok f) goes_on o, λ p. not_both (la f).nullable (and_left (not (la f).nullable) _ decided) p, apart kinds all (la f).last (la f).first (and_right (not (la f).nullable) _ decided))

  pub fork_decides : {A B C : Type 0} (f : Form T K N V (A ⊎ B)) (g : Form T K N V (A → C)) (h : Form T K N V (B → C)) → ok (fork f g h) ≡ true
      → (ok f ≡ true) × (ok g ≡ true) × (ok h ≡ true) × Parted (la f) (either_lookahead (la g) (la h))
  fork_decides f g h o =
      let follow = are_apart kinds (la f).last (either_lookahead (la g) (la h)).first in
      let others = and_right (ok f) (ok g && (ok h && follow)) o in
      let last = and_right (ok g) (ok h && follow) others in (
        and_left (ok f) (ok g && (ok h && follow)) o,
        and_left (ok g) (ok h && follow) others,
        and_left (ok h) follow last,
        apart kinds all (la f).last (either_lookahead (la g) (la h)).first (and_right (ok h) follow last),
      )

-- ---- what is known

module _ {T K : Type 0} (kind : T → K) (kinds : List K) (all : AreAll kinds) where
  repeated_known : {A : Type 0} (L : Language T A) (a : Lookahead K) (room : Room) (most : Option ℕ) → Known kind L a → Known kind (star_language L) (star_lookahead a) → Known kind (repeated room most L) (star_lookahead a)
  repeated_known L a None most l k = k
  repeated_known L a (Some levels) None l k = k
  repeated_known L a (Some levels) (Some most) l k =
      narrowed kind (upto_language most L) (star_language L) (star_lookahead a) (repeated_grows L L (includes_itself L) (Some most) (Some levels) None tt) (upto_prefixes L l.prefixes most) k

  pub weaker : {A : Type 0} (L : Language T A) (a b : Lookahead K) → is_narrower kinds a b ≡ true → Known kind L a → Known kind L b
  weaker L a b n l =
      let n1 = and_right (not a.nullable || b.nullable) _ n in
      record {
        prefixes = l.prefixes;
        ahead = record {
          nullable = λ v s. implied a.nullable b.nullable (and_left (not a.nullable || b.nullable) _ n) (l.ahead.nullable v s);
          first = λ t x f. inside kinds all a.first b.first (and_left (is_inside kinds a.first b.first) _ n1) (kind t) (l.ahead.first t x f);
          last = λ x v t y s f. inside kinds all a.last b.last (and_right (is_inside kinds a.first b.first) _ n1) (kind t) (l.ahead.last x v t y s f);
        };
        unique = l.unique;
      }

  module _ {N : Type 0} {V : N → Type 0} (table : N → Lookahead K) where
    module _ (E : Room → (n : N) → Language T (V n)) (e : (room : Room) (n : N) → Known kind (E room n) (table n)) where
      abbrev of : {A : Type 0} → Room → Form T K N V A → Language T A
      of room f = form_language kind E room f

      pub form_known : {A : Type 0} (f : Form T K N V A) (room : Room) → is_predictive kinds table f ≡ true → Known kind (form_language kind E room f) (lookahead table f)
      form_known empty room o = empty_known kind
      form_known (token p) room o = token_known kind p
      form_known (seq f g) room o =
          let d = seq_decides kinds all table f g o in
          seq_known kind (of room f) (of room g) (lookahead table f) (lookahead table g) (form_known f room d.0) (form_known g room d.1) d.2
      form_known (alt f g) room o =
          let d = alt_decides kinds all table f g o in
          alt_known kind (of room f) (of room g) (lookahead table f) (lookahead table g) (form_known f room d.0) (form_known g room d.1) d.2 d.3
      form_known (star most f) room o =
          let d = star_decides kinds all table most f o in let k = form_known f room d.0 in
          repeated_known (of room f) (lookahead table f) room most k (star_known kind (of room f) (lookahead table f) k d.1 d.2)
      form_known (nest f) None o = form_known f None o
      form_known (nest f) (Some zero) o = no_known kind (lookahead table f)
      form_known (nest f) (Some (suc levels)) o = form_known f (Some levels) o
      form_known (map h f) room o = map_known kind (of room f) (lookahead table f) (form_known f room o) h
      form_known (only p f) room o = only_known kind (of room f) (lookahead table f) (form_known f room o) p
      form_known (nonempty f) room o = nonempty_known kind (of room f) (lookahead table f) (form_known f room o)
      form_known (counted f) room o = counted_known kind (of room f) (lookahead table f) (form_known f room o)
      form_known (fork f g h) room o =
          let d = fork_decides kinds all table f g h o in
          bind_known kind (of room f) (branch (of room g) (of room h)) (lookahead table f) (either_lookahead (lookahead table g) (lookahead table h)) (form_known f room d.0)
          (branch_known kind (of room g) (of room h) (lookahead table g) (lookahead table h) (form_known g room d.1) (form_known h room d.2)) d.3
      form_known (ref n) room o = e room n

    module _ (rules : Rules T K N V) (right : (n : N) → is_right kinds table rules n ≡ true) where
      known_within : (h : ℕ) (room : Room) (n : N) → Known kind (language_within kind rules h room n) (table n)
      known_within zero room n = no_known kind (table n)
      known_within (suc h) room n =
          weaker _ (lookahead table (rules n)) (table n) (and_right (is_predictive kinds table (rules n)) _ (right n))
          (form_known (language_within kind rules h) (known_within h) (rules n) room (and_left (is_predictive kinds table (rules n)) _ (right n)))

      -- each name has the lookahead of the table
      pub name_known : (room : Room) (n : N) → Known kind (language kind rules room n) (table n)
      name_known room n = record {
        prefixes = name_prefixes kind rules room n;
        ahead = record {
          nullable = λ v s. let p = spelled_at kind rules room n [] v s in (known_within p.0 room n).ahead.nullable v p.1;
          first = λ t x f. let p = prefix_at kind rules room n (t ∷ x) f in (known_within p.0 room n).ahead.first t x p.1;
          last = λ x v t y s f. let p = spelled_and_prefix kind rules room n x v (x ++ t ∷ y) s f in (known_within p.height room n).ahead.last x v t y p.left p.right;
        };
        unique = λ x v w s r. let p = spelled_twice kind rules room n x v w s r in (known_within p.height room n).unique x v w p.left p.right;
      }

      -- and so has each form of the grammar
      pub grammar_known : {A : Type 0} (f : Form T K N V A) (room : Room) → is_predictive kinds table f ≡ true → Known kind (form_language kind (language kind rules) room f) (lookahead table f)
      grammar_known f room o = form_known (language kind rules) name_known f room o
