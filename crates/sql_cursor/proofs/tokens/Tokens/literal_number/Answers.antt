use Rattle.std.proofs.Common.{refl}
use Rattle.sql_cursor.proofs.code.Numbered.{literal_numbered, literal_extends, numbers_given}
use Rattle.sql_cursor.proofs.tokens.Tokens.literal_number.Goals as goal

pub returns-clause-number : goal.returns-clause-number
returns-clause-number c = literal_numbered c.self.view_is c.args.literal _ _ _ c.number_at.ensures c.in_ok-place.ensures.index c.in_ok-place.ensures.keys refl

pub returns-clause-extends : goal.returns-clause-extends
returns-clause-extends c = literal_extends c.self.view_is _ c.args.literal _ c.in_ok-place.ensures.keys refl

pub returns-clause-gives : goal.returns-clause-gives
returns-clause-gives c = numbers_given _ _ _ _ (returns-clause-number c)
