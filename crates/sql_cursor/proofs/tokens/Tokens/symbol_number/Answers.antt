use Rattle.std.proofs.Common.{refl}
use Rattle.sql_cursor.proofs.code.Numbered.{symbol_numbered, symbol_extends, numbers_given}
use Rattle.sql_cursor.proofs.tokens.Tokens.symbol_number.Goals as goal

pub returns-clause-number : goal.returns-clause-number
returns-clause-number c = symbol_numbered c.self.view_is c.args.name _ _ _ c.number_at.ensures c.in_ok-place.ensures.index c.in_ok-place.ensures.keys refl

pub returns-clause-extends : goal.returns-clause-extends
returns-clause-extends c = symbol_extends c.self.view_is _ c.args.name _ c.in_ok-place.ensures.keys refl

pub returns-clause-gives : goal.returns-clause-gives
returns-clause-gives c = numbers_given _ _ _ _ (returns-clause-number c)
