-- Which fault a column has, by what was found of its name.
use Rattle.std.proofs.Common.{◌≡◌, ℕ, Bool, true, false, List, [], ◌∷◌, Option, Some, None, refl, sym, not}
use Rattle.std.specs.Prelude.{◌&&◌, if◌then◌else◌, is_some, is_none}
use Rattle.std.specs.Prelude.{find}
use Rattle.std.specs.List.{list_any}
use Rattle.sql_model.specs.Syntax.{Name}
use Rattle.sql_model.specs.Columns.{same_name}
use Rattle.sql_model.specs.Headings.{Heading}
use Rattle.scope_core.proofs.basics.Booleans.{no}
use Rattle.scope_core.specs.declared.fault.ScopeFault.{ScopeFault}
use Rattle.scope_core.specs.declared.fault.ScopeFault.TheVariants as fault
use Rattle.scope_core.specs.declared.fault.ScopeCode.{ScopeCode}
use Rattle.scope_core.specs.declared.fault.ScopeCode.TheVariants as code
use Rattle.scope_core.specs.Scope.{Known, Level, Levels, headings_here, sight_here}
use Rattle.scope_core.specs.Sites.{ASource, AnAlias, AStar, AnAliasStar, AColumn}
use Rattle.scope_core.specs.Faults.{block_meant, is_here, is_in_group, is_member, lacks_alias, lacks_column, names_two, not_grouped}
use Rattle.scope_core.specs.FirstFault.{fault_at, refused}
use Rattle.scope_core.specs.Answer.{IsCause, found_code}

-- ---- causes
pub cause-is : (f : ScopeFault) (o : Option ScopeFault) → o ≡ Some f → IsCause f o
unfolding IsCause
cause-is f o e = λ ne. e

pub cause-memory : (f : ScopeFault) (o : Option ScopeFault) → f ≡ fault.NoMemory → IsCause f o
unfolding IsCause
cause-memory f o e = λ ne. absurd (ne e)

pub ruleset causes = (cause-is, cause-memory)

-- ---- a name that no block has
pub fault-nowhere_qualified : (alias : Name) (qual_at : ℕ) (name : Name) (levels : Levels) (at : ℕ) → block_meant (Some alias) name levels ≡ None
    → fault_at (AColumn (Some alias) qual_at name levels at) ≡ Some (fault.Refused code.UnknownAlias qual_at 0 0)
fault-nowhere_qualified alias qual_at name levels at e = rw e refl

pub fault-nowhere_bare : (qual_at : ℕ) (name : Name) (levels : Levels) (at : ℕ) → block_meant None name levels ≡ None
    → fault_at (AColumn None qual_at name levels at) ≡ Some (fault.Refused code.UnknownColumn at 0 0)
fault-nowhere_bare qual_at name levels at e = rw e refl

-- ---- a name that some block has
abbrev coded : Option ScopeCode → ℕ → Option ScopeFault
coded None at = None
coded (Some c) at = Some (fault.Refused c at 0 0)

pub alias_is_known : (qual : Option Name) (name : Name) (levels : Levels) → is_some (block_meant qual name levels) ≡ true → lacks_alias qual name levels ≡ false
alias_is_known None name levels m = refl
alias_is_known (Some alias) name levels m = by (block_meant (Some alias) name levels) m
  where
    by : (o : Option Level) → is_some o ≡ true → is_none o ≡ false
    by None e = sym e
    by (Some l) e = refl

not_grouped-anywhere : (qual : Option Name) (qual_at : ℕ) (name : Name) (levels : Levels) (at : ℕ)
    → not_grouped (AColumn qual qual_at name levels at) ≡ not_grouped (AColumn qual 0 name levels 0)
not_grouped-anywhere qual qual_at name [] at = refl
not_grouped-anywhere qual qual_at name (level ∷ outer) at = refl

pub fault-found : (qual : Option Name) (qual_at : ℕ) (name : Name) (levels : Levels) (at : ℕ) (two lacks here grouped : Bool)
    → is_some (block_meant qual name levels) ≡ true → names_two qual name levels ≡ two → lacks_column qual name levels ≡ lacks
    → is_here qual name levels ≡ here → not_grouped (AColumn qual 0 name levels 0) ≡ grouped
    → fault_at (AColumn qual qual_at name levels at) ≡ coded (found_code two lacks (is_member (sight_here levels) && not here) grouped) at
fault-found qual qual_at name levels at two lacks here grouped m t l h g =
    rw (alias_is_known qual name levels m, not_grouped-anywhere qual qual_at name levels at, m, t, l, h, g) (by two lacks (is_member (sight_here levels) && not here) grouped)
  where
    by : (two lacks outer grouped : Bool) → refused (AColumn qual qual_at name levels at) (found_code two lacks outer grouped) ≡ coded (found_code two lacks outer grouped) at
    by true lacks outer grouped = refl
    by false true outer grouped = refl
    by false false true grouped = refl
    by false false false true = refl
    by false false false false = refl

pub ruleset laws = (causes, fault-nowhere_qualified, fault-nowhere_bare, fault-found)

-- ---- names of entries
pub cause-unknown_table : (name : Name) (known : List Known) (at : ℕ) (f : ScopeFault) → find (λ k. same_name name k.name) known ≡ None
    → f ≡ fault.Refused code.UnknownTable at 0 0 → IsCause f (fault_at (ASource name known at))
cause-unknown_table name known at f e is = cause-is f (fault_at (ASource name known at)) (rw (e, is) refl)

pub cause-alias_twice : (alias : Name) (before : List Name) (at : ℕ) (f : ScopeFault) → list_any (same_name alias) before ≡ true
    → f ≡ fault.Refused code.AliasTwice at 0 0 → IsCause f (fault_at (AnAlias alias before at))
cause-alias_twice alias before at f e is = cause-is f (fault_at (AnAlias alias before at)) (rw (e, is) refl)

pub ruleset names = (causes, cause-unknown_table, cause-alias_twice)

-- ---- stars
pub cause-star_in_group : (levels : Levels) (at : ℕ) (f : ScopeFault) → is_in_group (sight_here levels) ≡ true
    → f ≡ fault.Refused code.StarInGroup at 0 0 → IsCause f (fault_at (AStar levels at))
cause-star_in_group levels at f e is = cause-is f (fault_at (AStar levels at)) (rw (e, is) refl)

pub cause-alias_star_in_group : (alias : Name) (levels : Levels) (at : ℕ) (f : ScopeFault) → is_in_group (sight_here levels) ≡ true
    → f ≡ fault.Refused code.StarInGroup at 0 0 → IsCause f (fault_at (AnAliasStar alias levels at))
cause-alias_star_in_group alias levels at f e is = cause-is f (fault_at (AnAliasStar alias levels at)) (rw (e, is) refl)

pub cause-alias_unknown : (alias : Name) (levels : Levels) (at : ℕ) (f : ScopeFault) → is_in_group (sight_here levels) ≡ false
    → find (λ h. same_name alias h.alias) (headings_here levels) ≡ None
    → f ≡ fault.Refused code.UnknownAlias at 0 0 → IsCause f (fault_at (AnAliasStar alias levels at))
cause-alias_unknown alias levels at f e none is = cause-is f (fault_at (AnAliasStar alias levels at)) (rw (e, none, is) refl)

pub alias_star-fine : (alias : Name) (levels : Levels) (at : ℕ) → is_in_group (sight_here levels) ≡ false
    → is_some (find (λ h. same_name alias h.alias) (headings_here levels)) ≡ true → fault_at (AnAliasStar alias levels at) ≡ None
alias_star-fine alias levels at e found = rw e (by (find (λ h. same_name alias h.alias) (headings_here levels)) found)
  where
    by : (o : Option Heading) → is_some o ≡ true → refused (AnAliasStar alias levels at) (if is_none o then Some code.UnknownAlias else None) ≡ None
    by None e = absurd (no (sym e))
    by (Some h) e = refl

pub ruleset stars = (causes, cause-star_in_group, cause-alias_star_in_group, cause-alias_unknown, alias_star-fine)
