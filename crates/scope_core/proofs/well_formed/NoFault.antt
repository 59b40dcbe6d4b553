-- A query is well formed and within the limit exactly where no site has a fault.
use Rattle.std.proofs.Common.{◌≡◌, ℕ, ◌+◌, Bool, true, false, List, [], ◌∷◌, map, Option, Some, None, refl, ap, arith}
use Rattle.std.specs.Prelude.{◌↔◌, is_some, if◌then◌else◌}
use Rattle.std.specs.Option.{option_or}
use Rattle.data_model.specs.Lists.{Each}
use Rattle.sql_model.specs.declared.schema.Schema.{Schema}
use Rattle.sql_model.specs.declared.schema.Relation.TheVariants as relation
use Rattle.sql_model.specs.Syntax.{Name, Query}
use Rattle.sql_model.specs.Headings.{output_columns}
use Rattle.sql_model.specs.Relations.{Relation}
use Rattle.scope_core.specs.declared.fault.ScopeCode.{ScopeCode}
use Rattle.scope_core.specs.declared.fault.ScopeCode.TheVariants as code
use Rattle.scope_core.specs.declared.fault.ScopeFault.TheVariants as fault
use Rattle.scope_core.specs.Scope.{Known, heading}
use Rattle.scope_core.specs.Relations.{count_views, known_with, known_of}
use Rattle.scope_core.specs.Sites.{Site, sites}
use Rattle.scope_core.specs.Faults.{name_twice, is_too_wide}
use Rattle.scope_core.specs.WellFormed.{HasNoFault, IsRelationWellFormed, AreWellFormed, SchemaWellFormed, WellFormed, IsRelationWithinWidth, AreWithinWidth, SchemaWithinWidth, WithinWidth}
use Rattle.scope_core.specs.FirstFault.{tests, first_code, code_at, refused, outputs_of, fault_at, first_fault, query_fault, name_fault, relation_fault, relations_fault, schema_fault}

some-none : {X : Type 0} (x : X) → Some x ≡ None → ⊥
some-none x e = let b : true ≡ false = ap is_some e in grind (arith, b)

first_code-none : (cs : List (Bool × ScopeCode)) → first_code cs ≡ None → Each (λ test. test.0 ≡ false) cs
first_code-none [] e = tt
first_code-none ((true, c) ∷ rest) e = absurd (some-none c e)
first_code-none ((false, c) ∷ rest) e = (refl, first_code-none rest e)

none-first_code : (cs : List (Bool × ScopeCode)) → Each (λ test. test.0 ≡ false) cs → first_code cs ≡ None
none-first_code [] h = refl
none-first_code ((true, c) ∷ rest) h = absurd (let b : true ≡ false = h.0 in grind (arith, b))
none-first_code ((false, c) ∷ rest) h = none-first_code rest h.1

-- ---- at one site
no-code : (site : Site) → code_at site ≡ None → HasNoFault site
no-code site e =
    let t = first_code-none (tests site) e in
    record {
      star_may_stand = t.0;
      truth_is_truth = t.1.0;
      value_is_value = t.1.1.0;
      aggregate_may_stand = t.1.1.1.0;
      subquery_may_stand = t.1.1.1.1.0;
      scalar_is_aggregate = t.1.1.1.1.1.0;
      alias_is_known = t.1.1.1.1.1.1.0;
      column_is_one = t.1.1.1.1.1.1.1.0;
      column_is_known = t.1.1.1.1.1.1.1.1.0;
      argument_is_inner = t.1.1.1.1.1.1.1.1.1.0;
      column_is_grouped = t.1.1.1.1.1.1.1.1.1.1.0;
      table_is_known = t.1.1.1.1.1.1.1.1.1.1.1.0;
      alias_is_new = t.1.1.1.1.1.1.1.1.1.1.1.1.0;
      widths_agree = t.1.1.1.1.1.1.1.1.1.1.1.1.1.0;
    }

code-none : (site : Site) → HasNoFault site → code_at site ≡ None
code-none site h = none-first_code (tests site) (
  h.star_may_stand,
  (
    h.truth_is_truth,
    (
      h.value_is_value,
      (
        h.aggregate_may_stand,
        (
          h.subquery_may_stand,
          (
            h.scalar_is_aggregate,
            (
              h.alias_is_known,
              (h.column_is_one, (h.column_is_known, (h.argument_is_inner, (h.column_is_grouped, (h.table_is_known, (h.alias_is_new, (h.widths_agree, tt))))))),
            ),
          ),
        ),
      ),
    ),
  ),
)

fault-none : (site : Site) → HasNoFault site → is_too_wide site ≡ false → fault_at site ≡ None
fault-none site h w = rw w (ap (refused site) (code-none site h))

no-fault : (site : Site) → fault_at site ≡ None → HasNoFault site × (is_too_wide site ≡ false)
no-fault site e = by (is_too_wide site) refl e
  where
    known : (o : Option ScopeCode) → refused site o ≡ None → o ≡ None
    known None e = refl
    known (Some c) e = absurd (some-none _ e)

    by : (b : Bool) → is_too_wide site ≡ b → (if b then Some (fault.TooWide (outputs_of site)) else refused site (code_at site)) ≡ None → HasNoFault site × (is_too_wide site ≡ false)
    by true w e = absurd (some-none _ e)
    by false w e = (no-code site (known (code_at site) e), w)

-- ---- at all of them
or-none : {X : Type 0} (o p : Option X) → option_or o p ≡ None → (o ≡ None) × (p ≡ None)
or-none None p e = (refl, e)
or-none (Some x) p e = absurd (some-none x e)

pub no-first : (ss : List Site) → first_fault ss ≡ None → Each HasNoFault ss × Each (λ site. is_too_wide site ≡ false) ss
no-first [] e = (tt, tt)
no-first (site ∷ rest) e =
    let both = or-none (fault_at site) (first_fault rest) e in
    let here = no-fault site both.0 in
    let later = no-first rest both.1 in
    ((here.0, later.0), (here.1, later.1))

first-none : (ss : List Site) → Each HasNoFault ss → Each (λ site. is_too_wide site ≡ false) ss → first_fault ss ≡ None
first-none [] h w = refl
first-none (site ∷ rest) h w = rw (fault-none site h.0 w.0) (first-none rest h.1 w.1)

pub query_fault-none : (schema : Schema) (query : Query) → (query_fault schema query ≡ None) ↔ (WellFormed schema query × WithinWidth schema query)
query_fault-none schema query =
    let ss = sites query (known_of schema) [] in
    (no-first ss, λ h. first-none ss h.0 h.1)

-- ---- of the views
no-name-fault : (known : List Known) (query : Query) (at : ℕ) → name_fault known query at ≡ None → name_twice (output_columns query (map heading known)) ≡ false
no-name-fault known query at e = by (name_twice (output_columns query (map heading known))) refl e
  where
    by : (b : Bool) → name_twice (output_columns query (map heading known)) ≡ b → (if b then Some (fault.Refused code.NameTwice at 0 0) else None) ≡ None
        → name_twice (output_columns query (map heading known)) ≡ false
    by true h e = absurd (some-none _ e)
    by false h e = h

no-relation-fault : (known : List Known) (r : Relation) → relation_fault known r ≡ None → IsRelationWellFormed known r × IsRelationWithinWidth known r
no-relation-fault known (relation.Table table) e = (tt, tt)
no-relation-fault known (relation.View query at) e =
    let both = or-none (first_fault (sites query known [])) (name_fault known query at) e in
    let fine = no-first (sites query known []) both.0 in
    ((fine.0, no-name-fault known query at both.1), fine.1)

relation-fault-none : (known : List Known) (r : Relation) → IsRelationWellFormed known r → IsRelationWithinWidth known r → relation_fault known r ≡ None
relation-fault-none known (relation.Table table) h w = refl
relation-fault-none known (relation.View query at) h w = rw (first-none (sites query known []) h.0 w, h.1) refl

no-relations-fault : (known : List Known) (views : ℕ) (relations : List (Name × Relation)) → relations_fault known views relations ≡ None
    → AreWellFormed known views relations × AreWithinWidth known views relations
no-relations-fault known views [] e = (tt, tt)
no-relations-fault known views (r ∷ rest) e =
    let both = or-none (relation_fault known r.1) _ e in
    let here = no-relation-fault known r.1 both.0 in
    let later = no-relations-fault (known_with known views r.0 r.1) (views + count_views r.1) rest both.1 in
    ((here.0, later.0), (here.1, later.1))

relations-fault-none : (known : List Known) (views : ℕ) (relations : List (Name × Relation)) → AreWellFormed known views relations → AreWithinWidth known views relations
    → relations_fault known views relations ≡ None
relations-fault-none known views [] h w = refl
relations-fault-none known views (r ∷ rest) h w =
    rw (relation-fault-none known r.1 h.0 w.0) (relations-fault-none (known_with known views r.0 r.1) (views + count_views r.1) rest h.1 w.1)

pub schema_fault-none : (schema : Schema) → (schema_fault schema ≡ None) ↔ (SchemaWellFormed schema × SchemaWithinWidth schema)
schema_fault-none schema =
    (no-relations-fault [] 0 schema.relations.entries, λ h. relations-fault-none [] 0 schema.relations.entries h.0 h.1)

pub ruleset laws = (query_fault-none, schema_fault-none)
