-- When a resolved tree is sound: each column of it is one of an entry that its place sees, each aggregate and each subquery stands where it may,
-- widths agree, and each table and view is as wide as its entry says.
use Rattle.std.specs.Prelude.{ℕ, zero, suc, ◌<◌, ◌≡◌, List, [], ◌∷◌, get_or, length}
use Rattle.data_model.specs.Lists.{Each}
use Rattle.scope_core.specs.Syntax.{RVal, Col, Key, Lit, Fun, Agg, Sub, Values, NoValues, ValueThen, MaybeArgument, NoArgument, AnArgument, RCond, Eq, Pred, And, Or, Not, Exists, In, Conditions, NoConditions, ConditionThen, MaybeCondition, NoCondition, ACondition, RSource, Table, View, Derived, Entries, NoEntries, EntryThen, RBlock, Select, RQuery, OfBlock, Set, Grouping, Plain, One, Keys}
use Rattle.scope_core.specs.Width.{width}

-- What a place of a tree sees of a block around it, by the widths of the block's entries.
pub data Seen : Type 0 where
  -- the rows of its entries
  SeenRows : List ℕ → Seen
  -- in the items and HAVING of a grouped block: so many columns of the group; its members have rows of these widths
  SeenGroup : ℕ → List ℕ → Seen
  -- in the argument of an aggregate there: the rows of a member
  SeenMember : List ℕ → Seen

-- the blocks around a place, the innermost first
abbrev pub SeenBlocks : Type 0
SeenBlocks = List Seen

abbrev pub widths : {m : _} → Entries m → List ℕ
widths NoEntries = []
widths (EntryThen source width rest) = width ∷ widths rest

-- in the items and HAVING of a block of this grouping
abbrev pub output_seen : Grouping → List ℕ → Seen
output_seen Plain ks = SeenRows ks
output_seen One ks = SeenGroup 0 ks
output_seen (Keys columns) ks = SeenGroup (length columns) ks

-- the widths of the entries that are seen of a block
abbrev pub widths_of : Seen → List ℕ
widths_of (SeenRows ks) = ks
widths_of (SeenMember ks) = ks
widths_of (SeenGroup count ks) = []

abbrev pub widths_at : SeenBlocks → ℕ → List ℕ
widths_at [] up = []
widths_at (block ∷ outer) zero = widths_of block
widths_at (block ∷ outer) (suc up) = widths_at outer up

abbrev pub IsKeyOf : SeenBlocks → ℕ → Type 0
IsKeyOf (SeenGroup count ks ∷ outer) place = place < count
IsKeyOf _ place = ⊥

-- where an aggregate may stand, and what its argument sees
abbrev pub SeesGroup : SeenBlocks → Type 0
SeesGroup (SeenGroup count ks ∷ outer) = Unit {0}
SeesGroup _ = ⊥

abbrev pub member_seen : SeenBlocks → SeenBlocks
member_seen (SeenGroup count ks ∷ outer) = SeenMember ks ∷ outer
member_seen blocks = blocks

-- where a subquery may stand
abbrev pub SeesRows : SeenBlocks → Type 0
SeesRows [] = Unit {0}
SeesRows (SeenRows ks ∷ outer) = Unit {0}
SeesRows _ = ⊥

-- each column of the key is one of an entry of the block
abbrev pub AreKeys : Grouping → List ℕ → Type 0
AreKeys (Keys columns) ks = Each (λ p. p.1 < get_or ks p.0 0) columns
AreKeys _ ks = Unit {0}

-- `IsTable` and `IsView` say which base tables and views there are, by number or place and width.
module _ (IsTable IsView : ℕ → ℕ → Type 0) where
  unfoldable mutual
    pub IsSound : SeenBlocks → RQuery → Type 0
    IsSound seen (OfBlock block) = IsSoundBlock seen block
    IsSound seen (Set op left right) = IsSound seen left × IsSound seen right × (width left ≡ width right)

    pub IsSoundBlock : SeenBlocks → RBlock → Type 0
    IsSoundBlock seen (Select is_distinct s entries s' conds grouping having s'' items) =
        AreSoundEntries seen entries × AreSoundConditions (SeenRows (widths entries) ∷ seen) conds
        × IsSoundHaving (output_seen grouping (widths entries) ∷ seen) having × AreSoundValues (output_seen grouping (widths entries) ∷ seen) items
        × AreKeys grouping (widths entries)

    -- only a grouped block has one
    pub IsSoundHaving : SeenBlocks → MaybeCondition → Type 0
    IsSoundHaving seen NoCondition = Unit {0}
    IsSoundHaving seen (ACondition condition) = SeesGroup seen × IsSoundCondition seen condition

    -- A scalar subquery is one group with one item, an aggregate, and no HAVING that may leave it out.
    pub IsSoundScalar : SeenBlocks → RBlock → Type 0
    IsSoundScalar seen (Select is_distinct s entries s' conds One NoCondition s'' items) =
        AreSoundEntries seen entries × AreSoundConditions (SeenRows (widths entries) ∷ seen) conds
        × IsSoundAggregate (SeenGroup 0 (widths entries) ∷ seen) items
    IsSoundScalar seen _ = ⊥

    pub IsSoundAggregate : {m : _} → SeenBlocks → Values m → Type 0
    IsSoundAggregate seen (ValueThen (Agg fun is_distinct argument) NoValues) = IsSoundArgument (member_seen seen) argument
    IsSoundAggregate seen _ = ⊥

    pub AreSoundEntries : {m : _} → SeenBlocks → Entries m → Type 0
    AreSoundEntries seen NoEntries = Unit {0}
    AreSoundEntries seen (EntryThen source width rest) = IsSoundSource seen source width × AreSoundEntries seen rest

    pub IsSoundSource : SeenBlocks → RSource → ℕ → Type 0
    IsSoundSource seen (Table number) wide = IsTable number wide
    IsSoundSource seen (View place) wide = IsView place wide
    IsSoundSource seen (Derived query) wide = IsSound seen query × (width query ≡ wide)

    pub IsSoundCondition : SeenBlocks → RCond → Type 0
    IsSoundCondition seen (Eq left right) = IsSoundValue seen left × IsSoundValue seen right
    IsSoundCondition seen (Pred sym s args) = AreSoundValues seen args
    IsSoundCondition seen (And s parts) = AreSoundConditions seen parts
    IsSoundCondition seen (Or s parts) = AreSoundConditions seen parts
    IsSoundCondition seen (Not part) = IsSoundCondition seen part
    IsSoundCondition seen (Exists query) = SeesRows seen × IsSound seen query
    IsSoundCondition seen (In left query) = SeesRows seen × IsSoundValue seen left × IsSound seen query × (width query ≡ 1)

    pub AreSoundConditions : {m : _} → SeenBlocks → Conditions m → Type 0
    AreSoundConditions seen NoConditions = Unit {0}
    AreSoundConditions seen (ConditionThen condition rest) = IsSoundCondition seen condition × AreSoundConditions seen rest

    pub IsSoundValue : SeenBlocks → RVal → Type 0
    IsSoundValue seen (Col up entry col) = col < get_or (widths_at seen up) entry 0
    IsSoundValue seen (Key place) = IsKeyOf seen place
    IsSoundValue seen (Lit lit) = Unit {0}
    IsSoundValue seen (Fun sym s args) = AreSoundValues seen args
    IsSoundValue seen (Agg fun is_distinct argument) = SeesGroup seen × IsSoundArgument (member_seen seen) argument
    IsSoundValue seen (Sub block) = SeesRows seen × IsSoundScalar seen block

    pub IsSoundArgument : SeenBlocks → MaybeArgument → Type 0
    IsSoundArgument seen NoArgument = Unit {0}
    IsSoundArgument seen (AnArgument e) = IsSoundValue seen e

    pub AreSoundValues : {m : _} → SeenBlocks → Values m → Type 0
    AreSoundValues seen NoValues = Unit {0}
    AreSoundValues seen (ValueThen e rest) = IsSoundValue seen e × AreSoundValues seen rest

-- a tree that stands by itself, whatever base tables and views there are
abbrev pub IsSoundAlone : RQuery → Type 0
IsSoundAlone tree = IsSound (λ number wide. Unit {0}) (λ place wide. Unit {0}) [] tree
