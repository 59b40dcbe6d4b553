-- The call over whole trees.
use Rattle.std.proofs.Common.{◌≡◌, ℕ, ◌<◌, ◌-◌, ◌^◌, min, false, List, [], Option, Some, None, ap, sym, ◌∙◌, arith, inl, inr}
use Rattle.std.specs.Prelude.{nat_lt, if◌then◌else◌}
use Rattle.std.proofs.lemmas.Bool.{cases_Bool}
use Rattle.std.proofs.lemmas.Bool.Decides.{nat_tests}
use Rattle.u_terms.specs.Syntax.{U}
use Rattle.u_terms.specs.Size.{nodes, depth}
use Rattle.u_terms.specs.Names.{IsFreeBelow}
use Rattle.u_terms.specs.Places.{IsClosed}
use Rattle.scope_core.specs.Syntax.{RQuery}
use Rattle.scope_core.specs.Width.{width}
use Rattle.scope_core.specs.Fitting.{FitsViews, DoViewsFit}
use Rattle.sql_to_u.specs.declared.size.Size.{Size}
use Rattle.sql_to_u.specs.declared.fault.TermFault.{TermFault}
use Rattle.sql_to_u.specs.declared.fault.TermFault.TheVariants as fault
use Rattle.sql_to_u.specs.declared.fault.LimitKind.TheVariants as limit
use Rattle.sql_to_u.specs.Answer.{translation}
use Rattle.sql_to_u.specs.Limits.{too_big, IsWithinLimits, IsCause}
use Rattle.sql_to_u.specs.Reckoned.{too_big_size}
use Rattle.sql_to_u.specs.Sizes.{capped, term_size, view_size, view_sizes}
use Rattle.sql_to_u.proofs.names.FreeNames.{translation-below}
use Rattle.sql_to_u.proofs.queries.Whole.{translation-closed}
use Rattle.sql_to_u.proofs.queries.WholeSizes.{size-is}

-- ---- what is above a limit is so when it is capped
lt-capped : (c n most : ℕ) → most < c → nat_lt most (min n c) ≡ nat_lt most n
lt-capped c n most h = grind (arith, nat_tests)

same-fault : (u : U) → too_big_size (term_size u) ≡ too_big u
same-fault u =
    (λ i. if lt-capped (2 ^ 64 - 1) (nodes u) 200000 (omega arith) i then Some (fault.TooBig limit.Nodes (capped (nodes u)))
    else if lt-capped (2 ^ 64 - 1) (depth u) 2048 (omega arith) i then Some (fault.TooBig limit.Depth (capped (depth u))) else None)

-- the size that is found is that of the term
pub found-size : (views : List RQuery) (tree : RQuery) (vs : List Size) (s : Size) → DoViewsFit [] views → FitsViews views tree → vs ≡ view_sizes [] views
    → s ≡ view_size vs tree → too_big_size s ≡ too_big (translation views tree)
found-size views tree vs s fit fits e f =
    ap too_big_size (f ∙ ap (λ q. view_size q tree) e ∙ sym (size-is views tree fit fits)) ∙ same-fault (translation views tree)

pub cause-memory : (f : TermFault) (found : Option TermFault) → f ≡ fault.NoMemory → IsCause f found
unfolding IsCause
cause-memory f found e = λ ne. absurd (ne e)

pub cause-is : (f : TermFault) (found : Option TermFault) → found ≡ Some f → IsCause f found
unfolding IsCause
cause-is f found e = λ ne. e

pub ruleset checks = (found-size, cause-memory, cause-is)

-- ---- what is within the limits
some-is-no-none : (f : TermFault) → Some f ≡ None → ⊥
some-is-no-none f e = cc

pub within : (u : U) → too_big u ≡ None → IsWithinLimits u
within u e = elim (cases_Bool (nat_lt 200000 (nodes u))) [
  | inl big ↦ absurd (some-is-no-none _ (sym (ap (λ b. if b then Some (fault.TooBig limit.Nodes (capped (nodes u)))
      else if nat_lt 2048 (depth u) then Some (fault.TooBig limit.Depth (capped (depth u))) else None) big) ∙ e))
  | inr few ↦ elim (cases_Bool (nat_lt 2048 (depth u))) [
    | inl deep ↦ absurd (some-is-no-none _ (sym (λ i. if few i then Some (fault.TooBig limit.Nodes (capped (nodes u)))
        else if deep i then Some (fault.TooBig limit.Depth (capped (depth u))) else None) ∙ e))
    | inr shallow ↦ record { few = grind (arith, nat_tests); shallow = grind (arith, nat_tests) }
  ]
]

pub none-within : (u : U) → IsWithinLimits u → too_big u ≡ None
none-within u h =
    let few : nat_lt 200000 (nodes u) ≡ false = grind (arith, nat_tests, h.few) in
    let shallow : nat_lt 2048 (depth u) ≡ false = grind (arith, nat_tests, h.shallow) in
    λ i. if few i then Some (fault.TooBig limit.Nodes (capped (nodes u))) else if shallow i then Some (fault.TooBig limit.Depth (capped (depth u))) else None

pub translated-within : (views : List RQuery) (tree : RQuery) (u : U) → u ≡ translation views tree → too_big (translation views tree) ≡ None → IsWithinLimits u
translated-within views tree u e f = within u (ap (λ t. too_big t) e ∙ f)

pub translated-closed : (views : List RQuery) (tree : RQuery) (u : U) → u ≡ translation views tree → IsClosed 0 u
translated-closed views tree u e = rw e (translation-closed views tree)

pub translated-below : (views : List RQuery) (tree : RQuery) (u : U) → DoViewsFit [] views → FitsViews views tree → u ≡ translation views tree → IsFreeBelow (width tree) u
translated-below views tree u fit fits e = rw e (translation-below views tree fit fits)

pub ruleset laws = (translated-within, translated-closed, translated-below, cause-memory)
