-- Which relations declare a name, where names stand, as names are declared, and the columns of the relation of a name.
use Rattle.std.proofs.Common.{◌≡◌, ℕ, suc, ◌%◌, ◌+◌, ◌<◌, Bool, true, false, cond, ◌||◌, List, [], ◌∷◌, ◌++◌, find, get_or, length, map, Option, Some, None, option_map, unwrap_or, refl, ap, sym, subst, ◌∙◌, arith}
use Rattle.std.specs.Prelude.{nat_lt, position}
use Rattle.std.specs.Borrow.{Bor}
use Rattle.std.specs.Cmp.Lexicographic.{bytes_decides}
use Rattle.std.specs.Map.{lookup}
use Rattle.std.proofs.lemmas.List.Folds.{list_any-append}
use Rattle.sql_model.specs.Syntax.{Name}
use Rattle.sql_model.specs.Frames.{ColumnName}
use Rattle.sql_model.specs.Columns.{is_called, same_name}
use Rattle.sql_model.specs.Headings.{columns_of}
use Rattle.scope_core.specs.declared.catalog.Known.{Known as LentKnown}
use Rattle.scope_core.specs.declared.relation_set.RelationSet.{RelationSet}
use Rattle.scope_core.specs.Catalogs.{AreDirected, Grows, IsDeclaredAt, declared_in, or_none}
use Rattle.scope_core.specs.RelationSets.{Has, Includes, is_low}
use Rattle.scope_core.specs.Ropes.{IsDirected}
use Rattle.scope_core.specs.Scope.{Known, heading}
use Rattle.scope_core.specs.Faults.{count_called}
use Rattle.scope_core.specs.Lent.{relation_of}
use Rattle.scope_core.specs.Names.{is_one_of, occurrences}
use Rattle.scope_core.specs.declared.names.Occurrences.{Occurrences}
use Rattle.std.proofs.lemmas.Option.{none-some}
use Rattle.scope_core.proofs.basics.Occurring.{position-cons}
use Rattle.scope_core.proofs.basics.Each.{Each-in}
use Rattle.scope_core.proofs.basics.Directed.{directed-grows}

-- ---- growth
module _ (before between after : Name → RelationSet) where
  pub Grows-trans : Grows before between → Grows between after → Grows before after
  Grows-trans h g = λ name low bit i. g name low bit (h name low bit i)

module _ (before after : Name → RelationSet) (grows : Grows before after) where
  pub IsDeclaredAt-grows : (names : List (Bor Name)) (number : ℕ) → IsDeclaredAt before names number → IsDeclaredAt after names number
  IsDeclaredAt-grows names number h = λ name one. grows name (is_low number) (number % 128) (h name one)

  pub AreDirected-grows : (relations : List LentKnown) → AreDirected before relations → AreDirected after relations
  AreDirected-grows relations =
      Each-in (λ known. IsDirected before (λ name. false) known.columns) (λ known. IsDirected after (λ name. false) known.columns)
      (λ known h. directed-grows before after (λ name. false) (λ name. false) grows (λ name e. e) known.columns h) relations

-- a name is declared by what a map has for it, and by more
module _ (entries entries' : List (Bor Name × RelationSet)) (name : Name) (before set : RelationSet) where
  pub Grows-one : before ≡ declared_in entries name → Includes set before
      → ((other : Name) → lookup (λ key. same_name other key.now) entries' ≡ cond (same_name name other) (Some set) (lookup (λ key. same_name other key.now) entries))
      → Grows (declared_in entries) (declared_in entries')
  Grows-one is more step other = by (same_name name other) refl
    where
      by : (b : Bool) → same_name name other ≡ b → Includes (declared_in entries' other) (declared_in entries other)
      by true e =
          let same : name ≡ other = (bytes_decides name other).0 e in
          let had : before ≡ declared_in entries other = is ∙ ap (λ n. declared_in entries n) same in
          let has : declared_in entries' other ≡ set =
          ap or_none (step other) ∙ ap (λ b. or_none (cond b (Some set) (lookup (λ key. same_name other key.now) entries))) e in
          subst (λ s. Includes s (declared_in entries other)) (sym has) (subst (λ s. Includes set s) had more)
      by false e =
          let kept : declared_in entries' other ≡ declared_in entries other =
          ap or_none (step other) ∙ ap (λ b. or_none (cond b (Some set) (lookup (λ key. same_name other key.now) entries))) e in
          subst (λ s. Includes s (declared_in entries other)) (sym kept) (λ low bit h. h)

-- ---- names that a relation declares, one more
pub IsDeclaredAt-more : (declared : Name → RelationSet) (names : List (Bor Name)) (number : ℕ) → IsDeclaredAt declared names number
    → (own : Bor Name) → Has (declared own.now) (is_low number) (number % 128) → IsDeclaredAt declared (names ++ own ∷ []) number
IsDeclaredAt-more declared names number is own has name one =
    by (is_one_of names name) (same_name name own.now) refl refl (sym (list_any-append (λ n. same_name name n.now) names (own ∷ [])) ∙ one)
  where
    by : (a b : Bool) → is_one_of names name ≡ a → same_name name own.now ≡ b → (a || (b || false)) ≡ true → Has (declared name) (is_low number) (number % 128)
    by true b is_a is_b e = is name is_a
    by false true is_a is_b e = subst (λ n. Has (declared n) (is_low number) (number % 128)) (sym ((bytes_decides name own.now).0 is_b)) has
    by false false is_a is_b e = cc

-- ---- the columns of the first relation of a name
module _ (name : Name) where
  columns_of-known : (known : List Known) → columns_of name (map heading known) ≡ unwrap_or (option_map (λ k. k.columns) (find (λ k. same_name name k.name) known)) []
  columns_of-known [] = refl
  columns_of-known (k ∷ known) = by (same_name name k.name) (columns_of-known known)
    where
      by : (b : Bool) → columns_of name (map heading known) ≡ unwrap_or (option_map (λ k. k.columns) (find (λ k. same_name name k.name) known)) []
          → unwrap_or (option_map (λ h. h.columns) (cond b (Some (heading k)) (find (λ h. same_name name h.alias) (map heading known)))) []
          ≡ unwrap_or (option_map (λ k. k.columns) (cond b (Some k) (find (λ k. same_name name k.name) known))) []
      by true later = refl
      by false later = later

  pub columns_of-found : (known : List Known) (k : Known) → Some k ≡ find (λ k. same_name name k.name) known → columns_of name (map heading known) ≡ k.columns
  columns_of-found known k e = columns_of-known known ∙ ap (λ o. unwrap_or (option_map (λ k. k.columns) o) []) (sym e)

  pub columns_of-missing : (known : List Known) → None ≡ find (λ k. same_name name k.name) known → columns_of name (map heading known) ≡ []
  columns_of-missing known e = columns_of-known known ∙ ap (λ o. unwrap_or (option_map (λ k. k.columns) o) []) (sym e)

-- ---- the first relation of a name, by the place of that among the names of all
abbrev pub names_in : List LentKnown → List ColumnName
names_in relations = map (λ known. Some known.name.now) relations

module _ (name : Name) where
  abbrev found : List LentKnown → Option Known
  found relations = find (λ k. same_name name k.name) (map relation_of relations)

  -- what is found where the name stands there or nowhere
  abbrev FoundAt : List LentKnown → Option ℕ → Type 0
  FoundAt relations None = found relations ≡ None
  FoundAt relations (Some first) = (first < length relations) × ((known : LentKnown) → found relations ≡ Some (relation_of (get_or relations first known)))

  found-at : (relations : List LentKnown) → FoundAt relations (position (is_called name) (names_in relations))
  found-at [] = refl
  found-at (known ∷ relations) =
      subst (FoundAt (known ∷ relations)) (sym (position-cons (is_called name) (Some known.name.now) (names_in relations)))
      (by (same_name name known.name.now) (position (is_called name) (names_in relations)) refl (found-at relations))
    where
      by : (b : Bool) (o : Option ℕ) → same_name name known.name.now ≡ b → FoundAt relations o → FoundAt (known ∷ relations) (cond b (Some 0) (option_map (λ i. suc i) o))
      by true o e later = (omega arith, λ d. ap (λ b. cond b (Some (relation_of known)) (found relations)) e)
      by false None e later = ap (λ b. cond b (Some (relation_of known)) (found relations)) e ∙ later
      by false (Some first) e later =
          (omega (arith, later.0), λ d. ap (λ b. cond b (Some (relation_of known)) (found relations)) e ∙ later.1 d)

  pub found-seen : (relations : List LentKnown) (seen : Occurrences) → occurrences name (names_in relations) ≡ Some seen → FoundAt relations (Some seen.first)
  found-seen relations seen e = by (position (is_called name) (names_in relations)) refl
    where
      by : (o : Option ℕ) → position (is_called name) (names_in relations) ≡ o → FoundAt relations (Some seen.first)
      by None is = absurd (none-some seen (sym (ap (λ o. option_map (λ i. record { first = i; twice = nat_lt 1 (count_called name (names_in relations)) }) o) is) ∙ e))
      by (Some first) is =
          let same : first ≡ seen.first = ap (λ o. unwrap_or (option_map (λ s. s.first) o) 0)
          (sym (ap (λ o. option_map (λ i. record { first = i; twice = nat_lt 1 (count_called name (names_in relations)) }) o) is) ∙ e) in
          subst (λ i. FoundAt relations (Some i)) same (subst (FoundAt relations) is (found-at relations))

  pub found-none : (relations : List LentKnown) → occurrences name (names_in relations) ≡ None → found relations ≡ None
  found-none relations e = by (position (is_called name) (names_in relations)) refl
    where
      by : (o : Option ℕ) → position (is_called name) (names_in relations) ≡ o → found relations ≡ None
      by None is = subst (FoundAt relations) is (found-at relations)
      by (Some first) is =
          absurd (none-some _ (sym e ∙ ap (λ o. option_map (λ i. record { first = i; twice = nat_lt 1 (count_called name (names_in relations)) }) o) is))
