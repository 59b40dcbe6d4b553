-- Chosen tokens that spell a form, from those that spell its parts.
use Rattle.std.proofs.Common.{◌≡◌, Bool, true, [], ◌∷◌, ◌++◌, inl, inr, refl, ℕ, length, Option, None}
use Rattle.grammar.specs.Language.{Language}
use Rattle.grammar.specs.Form.{Form, Rules, Room, empty, token, seq, alt, star, nest, map, only, counted, ref, form_language, language}
use Rattle.grammar.specs.Completions.{Fills}
use Rattle.grammar.proofs.readers.Completing.{both_chosen}
use Rattle.grammar.proofs.languages.Heights.{from_rule}
use Rattle.grammar.proofs.languages.Sets.{and_both}

module _ {T K N : Type 0} {V : N → Type 0} (kind : T → K) (E : Room → (n : N) → Language T (V n)) (chosen : T → Bool) where
  -- of a form, where the names have these languages, with no limits
  pub record Filled {A : Type 0} (f : Form T K N V A) (v : A) : Type 0 where
    pub by : Fills chosen (form_language kind E None f) v

  pub fill_empty : Filled empty tt
  fill_empty = record { by = record { filling = []; are_chosen = refl; spelled = refl } }

  pub fill_token : (p : K → Bool) (t : T) → chosen t ≡ true → p (kind t) ≡ true → Filled (token p) t
  fill_token p t c i = record { by = record { filling = t ∷ []; are_chosen = and_both (chosen t) true c refl; spelled = (refl, i) } }

  pub fill_seq : {A B : Type 0} {f : Form T K N V A} {g : Form T K N V B} {v : A} {w : B} → Filled f v → Filled g w → Filled (seq f g) (v, w)
  fill_seq p q = record {
    by = record {
      filling = p.by.filling ++ q.by.filling;
      are_chosen = both_chosen chosen p.by.filling q.by.filling p.by.are_chosen q.by.are_chosen;
      spelled = (p.by.filling, q.by.filling, refl, p.by.spelled, q.by.spelled);
    };
  }

  pub fill_one : {A : Type 0} {f : Form T K N V A} (g : Form T K N V A) {v : A} → Filled f v → Filled (alt f g) v
  fill_one g p = record { by = record { filling = p.by.filling; are_chosen = p.by.are_chosen; spelled = inl p.by.spelled } }

  pub fill_other : {A : Type 0} (f : Form T K N V A) {g : Form T K N V A} {v : A} → Filled g v → Filled (alt f g) v
  fill_other f p = record { by = record { filling = p.by.filling; are_chosen = p.by.are_chosen; spelled = inr p.by.spelled } }

  pub fill_none : {A : Type 0} (most : Option ℕ) (f : Form T K N V A) → Filled (star most f) []
  fill_none most f = record { by = record { filling = []; are_chosen = refl; spelled = refl } }

  pub fill_nest : {A : Type 0} {f : Form T K N V A} {v : A} → Filled f v → Filled (nest f) v
  fill_nest p = record { by = record { filling = p.by.filling; are_chosen = p.by.are_chosen; spelled = p.by.spelled } }

  pub fill_map : {A B : Type 0} {f : Form T K N V A} (h : A → B) {v : A} → Filled f v → Filled (map h f) (h v)
  fill_map h {v = v} p = record { by = record { filling = p.by.filling; are_chosen = p.by.are_chosen; spelled = (v, p.by.spelled, refl) } }

  pub fill_only : {A : Type 0} {f : Form T K N V A} (q : A → Bool) {v : A} → q v ≡ true → Filled f v → Filled (only q f) v
  fill_only q i p = record { by = record { filling = p.by.filling; are_chosen = p.by.are_chosen; spelled = (p.by.spelled, i) } }

  pub fill_counted : {A : Type 0} {f : Form T K N V A} {v : A} → (p : Filled f v) → Filled (counted f) (v, length p.by.filling)
  fill_counted p = record { by = record { filling = p.by.filling; are_chosen = p.by.are_chosen; spelled = (p.by.spelled, refl) } }

-- of a name, from its production
pub fill_name : {T K N : Type 0} {V : N → Type 0} (kind : T → K) (rules : Rules T K N V) (chosen : T → Bool) (n : N) (v : V n)
    → Filled kind (language kind rules) chosen (rules n) v → Filled kind (language kind rules) chosen (ref n) v
fill_name kind rules chosen n v p = record {
  by = record {
    filling = p.by.filling;
    are_chosen = p.by.are_chosen;
    spelled = (from_rule kind rules None n).spells p.by.filling v p.by.spelled;
  };
}
