use Rattle.std.proofs.Common.{◌≡◌, rules, tests, bytes_eq, position, ap, ◌∙◌, is_some}
use Rattle.std.proofs.lemmas.Iterator.{YieldsList-from_slice}
use Rattle.std.proofs.lemmas.Iterator.Search.{position_from_yields_List}
use Rattle.udp_io.specs.Texts.{NamedTexts, place_of}
use Rattle.udp_io.proofs.texts.Texts.select.Goals.{After-is_some}
use Rattle.udp_io.proofs.texts.Texts.select.Goals as goal

-- the place that was found among the fields is that of the name
place-inside : (c : After-is_some) → c.position-self-inside.result ≡ position (λ t. bytes_eq t.name c.args.name.now) c.self.inside.texts.items
place-inside c =
    rw c.deref.ensures.value at (position_from_yields_List (λ t. bytes_eq t.name c.args.name.now) _ _ c.position-self-inside.result c.position-self-inside.ensures.ran (YieldsList-from_slice _ c.iter.ensures.rest) (λ x b q k. search (rules, tests)))

place : (c : After-is_some) → c.position-self-inside.result ≡ place_of c.args.self.now c.args.name.now
place c = place-inside c ∙ ap (λ (held : NamedTexts). place_of held c.args.name.now) c.self.view_is

pub returns-clause-found : goal.returns-clause-found
returns-clause-found c = c.is_some.ensures ∙ ap is_some (place c)

pub returns-clause-selected : goal.returns-clause-selected
returns-clause-selected c = rw (place c) (search rules)
