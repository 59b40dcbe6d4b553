-- Where an `Items` keeps its values, so that a type may hold itself through one. The names are those that the check asks for.
use mathlib.Core.Path.{◌≡◌, refl, sym, ap, ◌∙◌}
use mathlib.Core.List.{List, [], ◌∷◌, map}
use mathlib.Core.Former.{Former, one_more, this, const, pair, list, via, children}
use Prim.Native.Nat.{ℕ}
use native.Mathlib.Nat.{ℕ_set}
use lib.ListN.{length, length-map}
use base.Stored.{code_map}
use denote.RattleType.{RattleType}
use denote.HoleLaws.{Alike}
use denote.HolePlaces.{Recodes, struct_places, laid}
use denote.Hole.Carrier.{listed, list-listed}
use denote.Hole.Fix.{over}
use denote.Param.Weighed.{Weighed, w_list}
use denote.Model.Placed.{Held, held, view_places}
use Rattle.std.specs.formers.vec.Vec as vec
use Rattle.std.specs.declared.alloc.Global.{Global}
use Rattle.std.specs.contracts.alloc.Global as global
use Rattle.std.specs.contracts.impls.GlobalAllocator.TheImpl.{ghosts}
use Rattle.plain_data.specs.formers.list.List as items
use Rattle.plain_data.specs.contracts.list.List as items_contract
use Rattle.plain_data.specs.formers.shared.Shared as shared
use Rattle.plain_data.specs.contracts.shared.Shared as shared_contract
use Rattle.scope_core.specs.Written.{written}
use Rattle.scope_core.specs.declared.items.Items.TheInside.{Inside}
use Rattle.scope_core.specs.declared.items.Items.TheView.{view, invariant}
use Rattle.scope_core.specs.contracts.items.Items as contract
use Rattle.scope_core.specs.contracts.items.Items.TheInside as inside

abbrev pub the_former : Former {0} → Former {0}
the_former g = list g

abbrev pub the_weighed : {g : Former {0}} → Weighed g → Weighed (the_former g)
the_weighed w = w_list w

pub the_empty : List ⊥
the_empty = []

abbrev pub the_items : (X : Type 0) → List X → List X
the_items X items = items

pub the_items_listed : (X : Type 0) (items : List X) → listed _ (children (the_former this) X items) ≡ the_items X items
the_items_listed X items = list-listed X items

-- its fields: lists that are shared, one of its own, and how many values they hold
abbrev fields : Former {0}
fields =
    via (pair (vec.the_former (list this) Global) (pair (list this) (const ℕ))) Inside (λ X a. (a.parts, (a.last, a.len)))
    (λ X v. record { parts = v.0; last = v.1.0; len = v.1.1 }) (λ X a. refl) (λ X v. refl)

-- one value more in front
abbrev one_held : (X : Type 0) → X → Held X → Held X
one_held X x h = (one_more h.0, (x, h.1))

held-written : (X : Type 0) (parts : List (List X)) (last : List X)
    → ◌≡◌ {A = Held X} (held (list this) X (written parts last)) (held (pair (list (list this)) (list this)) X (parts, last))
held-written X [] last = refl
held-written X ([] ∷ rest) last = held-written X rest last
held-written X ((x ∷ part) ∷ rest) last = ap (one_held X x) (held-written X (part ∷ rest) last)

map-written : (X Y : Type 0) (h : X → Y) (parts : List (List X)) (last : List X)
    → written (map (map h) parts) (map h last) ≡ map h (written parts last)
map-written X Y h [] last = refl
map-written X Y h ([] ∷ rest) last = map-written X Y h rest last
map-written X Y h ((x ∷ part) ∷ rest) last = ap (λ xs. h x ∷ xs) (map-written X Y h (part ∷ rest) last)

length-written : (X Y : Type 0) (h : X → Y) (parts : List (List X)) (last : List X)
    → length (written (map (map h) parts) (map h last)) ≡ length (written parts last)
length-written X Y h parts last = ap length (map-written X Y h parts last) ∙ length-map (written parts last) h

module _ (R S : RattleType) (h : R.Denot → S.Denot) where
  pub the_places : Alike R S h → Alike (contract.the_row R) (contract.the_row S) ((the_former this).map R.Denot S.Denot h)
  the_places alike =
      let one : Alike (items_contract.the_row R) (items_contract.the_row S) (map h) = items.the_places R S h alike in
      let part : Alike (shared_contract.the_row (items_contract.the_row R)) (shared_contract.the_row (items_contract.the_row S)) (map h)
      = shared.the_places (items_contract.the_row R) (items_contract.the_row S) (map h) one in
      view_places fields (list this) view (λ X Y k u. map-written X Y k u.parts.items u.last) (λ X u. held-written X u.parts.items u.last)
      R.Denot S.Denot h
      (contract.the_row R).coded (contract.the_row S).coded (invariant R.Denot) (invariant S.Denot)
      (λ u p q. ℕ_set _ _ p q) (λ u p q. ℕ_set _ _ p q)
      (λ u e. e ∙ sym (length-written R.Denot S.Denot h u.parts.items u.last)) (λ u e. e ∙ length-written R.Denot S.Denot h u.parts.items u.last)
      (over (inside.the_row R)) (over (inside.the_row S))
      (struct_places (inside.the_type R) (inside.the_type S) (vec.mapped (map h), (map h, ((λ n. n), tt))) _ (λ d. refl) refl
      (laid _ _ _ (vec.the_places global.the_row ghosts _ _ (map h) part), (laid _ _ _ one, ((refl, (λ n. refl, λ n. refl)), tt))))

  pub the_codes_placed : Recodes R S h → Recodes (contract.the_row R) (contract.the_row S) ((the_former this).map R.Denot S.Denot h)
  the_codes_placed recodes items = sym (code_map R.coded.code S.coded.code h (λ x. sym (recodes x)) items)
