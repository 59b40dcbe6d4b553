-- Values that stand in a term under no binder, and what they become. Contracts of private functions alone cite this.
use Rattle.std.specs.Prelude.{◌≡◌, ℕ, ◌≤◌, List, [], ◌∷◌, ◌++◌, length, map, drop}
use Rattle.data_model.specs.Lists.{Each}
use Rattle.u_terms.specs.declared.term.Val.TheVariants as v
use Rattle.u_terms.specs.Syntax.{U, Val}
use Rattle.u_terms.specs.Size.{nodes}
use Rattle.u_terms.specs.Binding.{closed_at}
use Rattle.u_deriv.specs.declared.run.Turn.{Turn}
use Rattle.u_deriv.specs.declared.run.Turn.TheVariants as turn
use Rattle.u_deriv.specs.Contexts.{Context, ValueContext, filled, filled_value, way, value_way, binders, value_binders}
use Rattle.u_moves.specs.Derivations.{Derivation}
use Rattle.normal_form.specs.NormalTerms.{IsNormalValue}

-- ---- where a value stands
-- one argument after the other, each counted from 0
abbrev pub arguments : List ℕ → List Turn
arguments = map (λ index. turn.Argument index)

-- the arguments lead to the value in `K value`: a part of the value is a part of the term, further down
pub record IsPlace (path : List ℕ) (K : Val → U) : Type 0 where
  pub context : ValueContext → Context
  pub filled_is : (c : ValueContext) (s : U) → filled (context c) s ≡ K (filled_value c s)
  pub way_is : (c : ValueContext) → way (context c) ≡ arguments path ++ value_way c
  pub binders_is : (c : ValueContext) → binders (context c) ≡ value_binders c

-- the same of each value in the row of `K values`
pub record IsRowPlace (path : List ℕ) (K : List Val → U) : Type 0 where
  pub each : (before after : List Val) → IsPlace (path ++ length before ∷ []) (λ value. K (before ++ value ∷ after))

pub record Stands (path : List ℕ) (value : Val) (u : U) : Type 0 where
  pub around : Val → U
  pub place : IsPlace path around
  pub is : u ≡ around value

pub record AreStanding (path : List ℕ) (values : List Val) (u : U) : Type 0 where
  pub around : List Val → U
  pub place : IsRowPlace path around
  pub is : u ≡ around values

-- an aggregate with this body
pub record StandsWithBody (path : List ℕ) (body u : U) : Type 0 where
  pub number : ℕ
  pub stands : Stands path (v.Agg number body) u

-- ---- what becomes of it
-- at the end of the path an aggregate has another body, after the name is closed in both; the term has at least the nodes of that body
pub record HasOtherBody (path : List ℕ) (name : ℕ) (from to before after : U) : Type 0 where
  pub few : nodes to ≤ nodes after
  pub put : (number : ℕ) (K : Val → U) → IsPlace path K → before ≡ K (v.Agg number (closed_at from name)) → after ≡ K (v.Agg number (closed_at to name))

-- at the end of the path there is a normal value now
pub record IsNormalAt (path : List ℕ) (value : Val) (before after : U) : Type 0 where
  pub became : Val
  pub normal : IsNormalValue became
  pub put : (K : Val → U) → IsPlace path K → before ≡ K value → after ≡ K became

pub record AreNormalAt (path : List ℕ) (values : List Val) (before after : U) : Type 0 where
  pub became : List Val
  pub normal : Each IsNormalValue became
  pub put : (K : List Val → U) → IsRowPlace path K → before ≡ K values → after ≡ K became

-- so far for so many
pub record AreNormalUpTo (count : ℕ) (path : List ℕ) (values : List Val) (before after : U) : Type 0 where
  pub became : List Val
  pub long : length became ≡ count
  pub normal : Each IsNormalValue became
  pub put : (K : List Val → U) → IsRowPlace path K → before ≡ K values → after ≡ K (became ++ drop count values)

-- the derivation, and then more steps to a term with the property
pub record LeadsOn (P : U → U → Type 0) (whole d : Derivation) : Type 0 where
  pub facts : d.facts ≡ whole.facts
  pub outs : d.outs ≡ whole.outs
  pub from : d.from ≡ whole.from
  pub reached : P whole.to d.to
