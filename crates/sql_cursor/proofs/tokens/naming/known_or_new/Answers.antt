use Rattle.std.proofs.Common.{ap, sym, ◌∙◌}
use Rattle.std.specs.Option.{option_copied}
use Rattle.sql_cursor.proofs.code.Numbered.{stored_name}
use Rattle.sql_cursor.proofs.tokens.naming.known_or_new.Goals as goal

pub returns-in-Some : goal.returns-in-Some
returns-in-Some c =
    stored_name c.args.name c.in-Some.known.now c.insert_full.new.self.keys c.in_ok-place.place _ c.in_ok-place.ensures.stored (sym (ap option_copied c.in-Some.is) ∙ c.get_index.ensures.key) c.copy.ensures
