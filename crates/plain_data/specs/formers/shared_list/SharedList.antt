-- Where a `SharedList` keeps its items, so that a type may hold itself through one. The names are those that the check asks for.
use mathlib.Core.Path.{◌≡◌, refl, sym}
use mathlib.Core.List.{List, [], map}
use mathlib.Core.Former.{Former, this, list, via, children}
use base.Stored.{code_map}
use denote.RattleType.{RattleType}
use denote.HoleLaws.{Alike}
use denote.HolePlaces.{Recodes, struct_places, laid}
use denote.Hole.Carrier.{listed, list-listed}
use denote.Hole.Fix.{over}
use denote.Param.Weighed.{Weighed, w_list}
use denote.Model.Placed.{view_places}
use Rattle.plain_data.specs.formers.list.List as items
use Rattle.plain_data.specs.contracts.list.List as items_contract
use Rattle.plain_data.specs.formers.shared.Shared as shared
use Rattle.plain_data.specs.contracts.shared.Shared as shared_contract
use Rattle.plain_data.specs.declared.shared_list.SharedList.TheInside.{Inside}
use Rattle.plain_data.specs.declared.shared_list.SharedList.TheView.{view, invariant}
use Rattle.plain_data.specs.contracts.shared_list.SharedList as contract
use Rattle.plain_data.specs.contracts.shared_list.SharedList.TheInside as inside

abbrev pub the_former : Former {0} → Former {0}
the_former g = list g

abbrev pub the_weighed : {g : Former {0}} → Weighed g → Weighed (the_former g)
the_weighed w = w_list w

pub the_empty : List ⊥
the_empty = []

abbrev pub the_items : (X : Type 0) → List X → List X
the_items X items = items

pub the_items_listed : (X : Type 0) (items : List X) → listed _ (children (the_former this) X items) ≡ the_items X items
the_items_listed X items = list-listed X items

-- its one field is a list that is shared
abbrev fields : Former {0}
fields = via (list this) Inside (λ X a. a.items) (λ X v. record { items = v }) (λ X a. refl) (λ X v. refl)

module _ (R S : RattleType) (h : R.Denot → S.Denot) where
  pub the_places : Alike R S h → Alike (contract.the_row R) (contract.the_row S) ((the_former this).map R.Denot S.Denot h)
  the_places alike =
      let one : Alike (items_contract.the_row R) (items_contract.the_row S) (map h) = items.the_places R S h alike in
      let held : Alike (shared_contract.the_row (items_contract.the_row R)) (shared_contract.the_row (items_contract.the_row S)) (map h)
      = shared.the_places (items_contract.the_row R) (items_contract.the_row S) (map h) one in
      view_places fields (list this) view (λ X Y k u. refl) (λ X u. refl) R.Denot S.Denot h
      (contract.the_row R).coded (contract.the_row S).coded (invariant R.Denot) (invariant S.Denot)
      (λ u p q. refl) (λ u p q. refl) (λ u e. tt) (λ u e. tt) (over (inside.the_row R)) (over (inside.the_row S))
      (struct_places (inside.the_type R) (inside.the_type S) (map h, tt) _ (λ d. refl) refl
      (laid _ _ _ held, tt))

  pub the_codes_placed : Recodes R S h → Recodes (contract.the_row R) (contract.the_row S) ((the_former this).map R.Denot S.Denot h)
  the_codes_placed recodes items = sym (code_map R.coded.code S.coded.code h (λ x. sym (recodes x)) items)
