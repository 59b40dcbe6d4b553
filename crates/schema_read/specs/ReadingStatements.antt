-- What `read_statements` does with the tokens that are still to come.
use Rattle.std.specs.Prelude.{◌≤◌, List, length}
use Rattle.data_model.specs.Lists.{Each}
use Rattle.sql_model.specs.declared.statement.Statement.{Statement}
use Rattle.sql_cursor.specs.declared.fault.ReadFault.{ReadFault}
use Rattle.sql_cursor.specs.Cursor.{Cursor}
use Rattle.sql_read.specs.ReadingTexts as of_texts
use Rattle.sql_read.specs.ReadingTexts.{Texts}
use Rattle.schema_read.specs.Declarations.{IsSmall}
use Rattle.schema_read.specs.StatementGrammar as g
use Rattle.schema_read.specs.StatementLimits.{most_relations, within}

abbrev pub texts : Texts (List Statement)
texts = record { form = g.statements; within = within }

-- the longest list of tokens that begins statements was taken, and it spells these statements within the limits
pub record IsRead (before : Cursor) (list : List Statement) (after : Cursor) : Type 0 where
  pub read : of_texts.IsRead texts before list after
  -- the statements are within the limits of a schema
  pub few_relations : length list ≤ most_relations
  pub small : Each IsSmall list

-- the first token of statements that is refused, and why
abbrev pub IsRefused : Cursor → ReadFault → Type 0
IsRefused before fault = of_texts.IsRefused texts before.copies before.tokens before.fault before.end fault
