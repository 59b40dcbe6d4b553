-- Where a `Shared` keeps its value, so that a type may hold itself through one. The names are those that the check asks for.
use mathlib.Core.Path.{refl}
use mathlib.Core.Former.{Former, this, const, pair, via}
use base.Stored.{gnil}
use base.Fml.{ftrue}
use denote.RattleType.{RattleType}
use denote.Memory.{part_of}
use denote.RawPtr.{Ptr}
use denote.Sharing.{nothing}
use denote.HoleLaws.{Alike}
use denote.HolePlaces.{Recodes, struct_places, laid, one_value}
use denote.Hole.Fix.{over}
use denote.Param.Weighed.{Weighed}
use denote.Model.Placed.{view_places}
use Rattle.std.specs.declared.rc.Rc.{Rc}
use Rattle.std.specs.contracts.rc.Rc as rc
use Rattle.std.specs.declared.alloc.Global.{Global}
use Rattle.std.specs.contracts.alloc.Global as global
use Rattle.std.specs.contracts.impls.GlobalAllocator.TheImpl.{ghosts}
use Rattle.plain_data.specs.declared.shared.Shared.TheInside.{Inside}
use Rattle.plain_data.specs.declared.shared.Shared.TheView.{view, invariant}
use Rattle.plain_data.specs.contracts.shared.Shared as contract
use Rattle.plain_data.specs.contracts.shared.Shared.TheInside as inside

abbrev pub the_former : Former {0} → Former {0}
the_former g = g

abbrev pub the_weighed : {g : Former {0}} → Weighed g → Weighed (the_former g)
the_weighed w = w

-- its one field is an `Rc`: a pointer and the value
abbrev fields : Former {0}
fields =
    via (pair (const Ptr) this) Inside (λ X a. (a.inner.ptr, a.inner.value))
    (λ X v. record { inner = record { ptr = v.0; value = v.1 } }) (λ X a. refl) (λ X v. refl)

-- the same pointer to another value
abbrev around : {X Y : Type 0} → Rc X Global → Y → Rc Y Global
around r value = record { ptr = r.ptr; value = value }

abbrev rc_of : RattleType → RattleType
rc_of R = rc.the_row R global.the_row ghosts

module _ (R S : RattleType) (h : R.Denot → S.Denot) where
  -- what a counted pointer to one value owns and lends depends on the value alone
  rc_places : Alike R S h → Alike (rc_of R) (rc_of S) (λ r. around r (h r.value))
  unfolding part_of
  rc_places alike = record {
    mir_same = λ i. (rc_of (one_value R (alike.mir_same i) (λ _. ftrue) (λ _ _. nothing) gnil)).mir;
    own_same = λ r i. (rc_of (one_value R (alike.mir_same i) (alike.own_same r.value i) (alike.shr_same r.value i) gnil)).own_val (around r tt);
    shr_same = λ r i. (rc_of (one_value R (alike.mir_same i) (alike.own_same r.value i) (alike.shr_same r.value i) gnil)).shr_at (around r tt);
  }

  pub the_places : Alike R S h → Alike (contract.the_row R) (contract.the_row S) ((the_former this).map R.Denot S.Denot h)
  the_places alike =
      view_places fields this view (λ X Y k u. refl) (λ X u. refl) R.Denot S.Denot h
      (contract.the_row R).coded (contract.the_row S).coded (invariant R.Denot) (invariant S.Denot)
      (λ u p q. refl) (λ u p q. refl) (λ u e. tt) (λ u e. tt) (over (inside.the_row R)) (over (inside.the_row S))
      (struct_places (inside.the_type R) (inside.the_type S) ((λ r. around r (h r.value)), tt) _ (λ d. refl) refl
      (laid _ _ _ (rc_places alike), tt))

  pub the_codes_placed : Recodes R S h → Recodes (contract.the_row R) (contract.the_row S) ((the_former this).map R.Denot S.Denot h)
  the_codes_placed recodes value = recodes value
