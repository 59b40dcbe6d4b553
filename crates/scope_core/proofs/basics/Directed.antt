-- Ropes in which a name is sought by the relations that declare it, as they are made of others.
use Rattle.std.proofs.Common.{◌≡◌, ℕ, Bool, true, false, ◌||◌, ◌&&◌, not, List, [], ◌∷◌, ◌++◌, Option, Some, None, refl, sym, ◌∙◌, option_map}
use Rattle.std.specs.Borrow.{Bor}
use Rattle.std.specs.List.{list_any}
use Rattle.sql_model.specs.Syntax.{Name}
use Rattle.sql_model.specs.Frames.{ColumnName}
use Rattle.sql_model.specs.Columns.{is_called}
use Rattle.scope_core.specs.declared.sources.DirectedEntry.{DirectedEntry}
use Rattle.scope_core.specs.declared.rope.Part.{Part}
use Rattle.scope_core.specs.declared.rope.Rope.{Rope}
use Rattle.scope_core.specs.declared.rope.Rope.TheVariants as rope
use Rattle.scope_core.specs.declared.relation_set.RelationSet.{RelationSet}
use Rattle.scope_core.specs.Catalogs.{Grows, IsDeclaredAt}
use Rattle.scope_core.specs.Directed.{AreDirected, Widens}
use Rattle.scope_core.specs.Names.{is_one_of}
use Rattle.scope_core.specs.RelationSets.{empty}
use Rattle.scope_core.specs.Ropes.{AreDirectedParts, IsDirected, columns_within, relation_within, stands_among}
use Rattle.scope_core.proofs.basics.Booleans.{or-of-left, or-of-right}
use Rattle.scope_core.proofs.basics.Each.{Each-in}
use Rattle.scope_core.proofs.basics.RelationSets.{has_number-decides}
use Rattle.scope_core.proofs.basics.Ropes.{columns-Relation, stand_listed-append, stand_listed-cons, stand_listed-nil, stands-Joined-is, stands-Relation-is, stands-grows}

pub columns-relation : (number : ℕ) (inside : Option Rope) → columns_within (relation_within number inside) ≡ columns_within inside
columns-relation number None = refl
columns-relation number (Some inside) = columns-Relation inside number _

-- ---- where names stand
free : (any outside : Bool) → (any ≡ true → outside ≡ true) → (outside || not any) ≡ true
free true outside wide = or-of-left outside false (wide refl)
free false outside wide = or-of-right outside true refl

module _ (declared : Name → RelationSet) (outside : Name → Bool) where
  pub directed-One : (own : Option (Bor Name)) → Widens (λ name. list_any (is_called name) (option_map (λ n. n.now) own ∷ [])) outside
      → IsDirected declared outside (Some (rope.One own))
  unfolding stands_among
  directed-One own wide = λ name. free _ (outside name) (wide name)

  pub directed-Named : (names : List ColumnName) → Widens (λ name. list_any (is_called name) names) outside → IsDirected declared outside (Some (rope.Named names))
  unfolding stands_among
  directed-Named names wide = λ name. free (list_any (is_called name) names) (outside name) (wide name)

  pub directed-no-parts : AreDirectedParts declared outside []
  directed-no-parts = λ name. stand_listed-nil (declared name) (outside name) name

  pub directed-one : (r : Rope) → IsDirected declared outside (Some r) → AreDirectedParts declared outside (record { rope = r } ∷ [])
  directed-one r directed = λ name.
      stand_listed-cons (declared name) (outside name) name (record { rope = r }) [] ∙ λ i. directed name i && directed-no-parts name i

  pub directed-append : (parts more : List Part) → AreDirectedParts declared outside parts → AreDirectedParts declared outside more
      → AreDirectedParts declared outside (parts ++ more)
  directed-append parts more are too = λ name. stand_listed-append (declared name) (outside name) name parts more ∙ λ i. are name i && too name i

  -- in the columns of a relation that declares the names outside of relations
  pub directed-relation : (number : ℕ) (inside : Option Rope) → IsDirected declared outside inside
      → (names : List (Bor Name)) → Widens outside (is_one_of names) → IsDeclaredAt declared names number
      → (other : Name → Bool) → IsDirected declared other (relation_within number inside)
  directed-relation number None directed names are declares other = λ name. refl
  directed-relation number (Some inside) directed names are declares other = λ name.
      stands-Relation-is (declared name) (other name) name inside number _
      ∙ stands-grows (declared name) (declared name) (λ low bit h. h) name inside (outside name) _
      (λ own. (has_number-decides (declared name) number).1 (declares name (are name own))) (directed name)

module _ (declared more : Name → RelationSet) (outside wider : Name → Bool) (grows : Grows declared more) (widens : Widens outside wider) where
  pub directed-grows : (r : Option Rope) → IsDirected declared outside r → IsDirected more wider r
  directed-grows None directed = λ name. refl
  directed-grows (Some r) directed = λ name.
      stands-grows (declared name) (more name) (grows name) name r (outside name) (wider name) (widens name) (directed name)

  pub parts-grow : (parts : List Part) → AreDirectedParts declared outside parts → AreDirectedParts more wider parts
  parts-grow parts are = λ name.
      let all = rope.Joined parts (record { width = 0; shown = empty }) in
      sym (stands-Joined-is (more name) (wider name) name parts _)
      ∙ stands-grows (declared name) (more name) (grows name) name all (outside name) (wider name) (widens name)
      (stands-Joined-is (declared name) (outside name) name parts _ ∙ are name)

  pub entries-grow : (entries : List DirectedEntry) → AreDirected declared outside entries → AreDirected more wider entries
  entries-grow entries =
      Each-in (λ e. IsDirected declared outside e.columns) (λ e. IsDirected more wider e.columns) (λ e h. directed-grows e.columns h) entries

-- where more names may stand outside of relations
pub stays : (declared : Name → RelationSet) → Grows declared declared
stays declared = λ name low bit h. h
