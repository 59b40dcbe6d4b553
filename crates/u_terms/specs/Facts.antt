-- When facts fit together, and when a database meets them (SQL, ISO/IEC 9075-2, 11.7 unique constraint definition and 11.8 referential
-- constraint definition, over columns without nulls).
use Rattle.std.specs.Prelude.{ℕ, suc, ◌≡◌, ◌<◌, List, [], ◌∷◌, map, length, get_or}
use Rattle.data_model.specs.Lists.{Each, Has}
use Rattle.data_model.specs.Rows.{AllBelow}
use Rattle.data_model.specs.Database.{Database, TableConstraints, ReferentialConstraint, MeetsConstraints}
use Rattle.u_terms.specs.declared.facts.Facts.{Facts}
use Rattle.u_terms.specs.declared.facts.Fkey.{Fkey}

-- ---- facts that fit together

abbrev pub IsAmong : List ℕ → ℕ → Type 0
IsAmong columns column = Has (λ c. c ≡ column) columns

-- the same columns, in any order
pub record AreSameColumns (some others : List ℕ) : Type 0 where
  pub there : Each (IsAmong others) some
  pub back : Each (IsAmong some) others

-- each table has a width and keys, and the columns of its keys are columns of it
abbrev pub KeysFit : List ℕ → List (List (List ℕ)) → Type 0
KeysFit [] [] = Unit {0}
KeysFit [] (keys ∷ others) = ⊥
KeysFit (width ∷ widths) [] = ⊥
KeysFit (width ∷ widths) (keys ∷ others) = Each (AllBelow width) keys × KeysFit widths others

-- columns of the referencing table, and as many of the referenced table, which are as a set a key of it
pub record FkeyFits (facts : Facts) (fkey : Fkey) : Type 0 where
  pub from : fkey.from < length facts.widths
  pub columns : AllBelow (get_or facts.widths fkey.from 0) fkey.cols
  pub to : fkey.to < length facts.widths
  pub key : Has (AreSameColumns fkey.key) (get_or facts.keys fkey.to [])
  pub counts : length fkey.cols ≡ length fkey.key

pub record FactsOk (facts : Facts) : Type 0 where
  pub keys : KeysFit facts.widths facts.keys
  pub fkeys : Each (FkeyFits facts) facts.fkeys

-- ---- databases that meet them

-- tables of these widths and keys, numbered from this number on
abbrev pub numbered_from : ℕ → List ℕ → List (List (List ℕ)) → List TableConstraints
numbered_from number [] keys = []
numbered_from number (width ∷ widths) [] = []
numbered_from number (width ∷ widths) (keys ∷ others) = record { number = number; width = width; keys = keys } ∷ numbered_from (suc number) widths others

abbrev pub referential_constraint : Fkey → ReferentialConstraint
referential_constraint fkey = record { from = fkey.from; columns = fkey.cols; to = fkey.to; key = fkey.key }

abbrev pub MeetsFacts : Facts → ℕ → Database → Type 0
MeetsFacts facts n db = MeetsConstraints n db (numbered_from 0 facts.widths facts.keys) (map referential_constraint facts.fkeys)
