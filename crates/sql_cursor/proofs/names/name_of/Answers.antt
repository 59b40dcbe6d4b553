use Rattle.sql_cursor.proofs.code.Unquoting.{quoted_is, no_quoted}
use Rattle.sql_cursor.proofs.names.name_of.Goals as goal

pub returns-in-Quoted-clause-name : goal.returns-in-Quoted-clause-name
returns-in-Quoted-clause-name c = rw c.in-Quoted.is (quoted_is c.quoted_name.result c.args.token.now.text.now c.quoted_name.ensures)

pub returns-in-Quoted-clause-none : goal.returns-in-Quoted-clause-none
returns-in-Quoted-clause-none c = rw c.in-Quoted.is (no_quoted c.quoted_name.result c.args.token.now.text.now c.quoted_name.ensures)
