-- The line of each refusal, with its line feed. It is empty where memory ran out.
use Rattle.std.specs.Prelude.{ℕ, List, [], ◌∷◌, ◌++◌, codes}
use Rattle.std.specs.Fmt.{decimal}
use Rattle.sql_lex.specs.declared.token.LexCode.{LexCode}
use Rattle.sql_lex.specs.declared.token.LexCode.TheVariants as lex
use Rattle.sql_cursor.specs.declared.fault.LimitKind.{LimitKind}
use Rattle.sql_cursor.specs.declared.fault.LimitKind.TheVariants as limit
use Rattle.sql_cursor.specs.declared.fault.ReadFault.{ReadFault}
use Rattle.sql_cursor.specs.declared.fault.ReadFault.TheVariants as read
use Rattle.schema_read.specs.declared.fault.SchemaCode.{SchemaCode}
use Rattle.schema_read.specs.declared.fault.SchemaCode.TheVariants as of_schema
use Rattle.schema_read.specs.declared.fault.SchemaFault.{SchemaFault}
use Rattle.schema_read.specs.declared.fault.SchemaFault.TheVariants as schema
use Rattle.scope_core.specs.declared.fault.ScopeCode.{ScopeCode}
use Rattle.scope_core.specs.declared.fault.ScopeCode.TheVariants as of_scope
use Rattle.scope_core.specs.declared.fault.ScopeFault.{ScopeFault}
use Rattle.scope_core.specs.declared.fault.ScopeFault.TheVariants as scope
use Rattle.sql_to_u.specs.declared.fault.LimitKind.TheVariants as size
use Rattle.sql_to_u.specs.declared.fault.TermFault.{TermFault}
use Rattle.sql_to_u.specs.declared.fault.TermFault.TheVariants as term
use Rattle.case_core.specs.declared.fault.CaseFault.{CaseFault}
use Rattle.case_core.specs.declared.fault.CaseFault.TheVariants.{Read, Schema, Scope, QueriesDiffer, NotTwoQueries, NoMemory}
use Rattle.proof_text.specs.declared.limits.LimitKind.{LimitKind as ProofLimit}
use Rattle.proof_text.specs.declared.limits.LimitKind.TheVariants as of_proof
use Rattle.proof_check.specs.declared.answers.ProofFault.{ProofFault}
use Rattle.proof_check.specs.declared.answers.ProofFault.TheVariants as proof
use Rattle.udp_run.specs.declared.answer.Status.{Status}
use Rattle.udp_run.specs.declared.answer.Status.TheVariants as status

abbrev pub line : List ℕ → List ℕ
line text = text ++ 10 ∷ []

-- ---- what is refused, and where
-- case refused: CODE at PLACE
abbrev pub refused_at : List ℕ → ℕ → List ℕ
refused_at code place = codes "case refused: " ++ (code ++ (codes " at " ++ (decimal place ++ 10 ∷ [])))

-- a word that is left out
abbrev pub left_out : List ℕ → ℕ → List ℕ
left_out word place = codes "case refused: E11 " ++ (word ++ (codes " at " ++ (decimal place ++ 10 ∷ [])))

abbrev pub lex_code : LexCode → List ℕ
lex_code lex.BadByte = codes "E01"
lex_code lex.OpenString = codes "E02"
lex_code lex.OpenComment = codes "E03"
lex_code lex.OpenName = codes "E04"
lex_code lex.BadNumber = codes "E05"

abbrev pub schema_code : SchemaCode → List ℕ
schema_code of_schema.TableTwice = codes "E20"
schema_code of_schema.ColumnTwice = codes "E21"
schema_code of_schema.UnknownTable = codes "E22"
schema_code of_schema.UnknownColumn = codes "E23"
schema_code of_schema.NoSuchKey = codes "E24"
schema_code of_schema.CountDiffers = codes "E25"
schema_code of_schema.PrimaryTwice = codes "E26"

-- with the two widths, where two differ
abbrev pub scope_code : ScopeCode → ℕ → ℕ → List ℕ
scope_code of_scope.UnknownTable first second = codes "E30"
scope_code of_scope.UnknownAlias first second = codes "E31"
scope_code of_scope.UnknownColumn first second = codes "E32"
scope_code of_scope.Ambiguous first second = codes "E33"
scope_code of_scope.AliasTwice first second = codes "E34"
scope_code of_scope.NotTruth first second = codes "E35"
scope_code of_scope.NotValue first second = codes "E36"
scope_code of_scope.AggregateHere first second = codes "E37"
scope_code of_scope.NotGrouped first second = codes "E38"
scope_code of_scope.OuterAggregate first second = codes "E39"
scope_code of_scope.SubqueryInGroup first second = codes "E40"
scope_code of_scope.WidthDiffers first second = codes "E41 " ++ (decimal first ++ (codes " " ++ decimal second))
scope_code of_scope.ScalarNotAggregate first second = codes "E42"
scope_code of_scope.NameTwice first second = codes "E43"
scope_code of_scope.StarInGroup first second = codes "E44"

-- ---- limits
-- limit NAME NUMBER
abbrev pub count_limit : LimitKind → List ℕ
count_limit limit.Columns = line (codes "limit columns 32")
count_limit limit.Entries = line (codes "limit entries 32")
count_limit limit.Relations = line (codes "limit relations 256")
count_limit limit.Copies = line (codes "limit copies 1000000")

-- ---- the faults of a case
abbrev pub read_text : ReadFault → List ℕ
read_text (read.Lex fault) = refused_at (lex_code fault.code) fault.at
read_text (read.Unexpected at) = refused_at (codes "E10") at
read_text (read.LeftOut word at) = left_out word at
read_text (read.TooDeep at) = refused_at (codes "E12") at
read_text (read.Limit what) = count_limit what
read_text read.NoMemory = []

abbrev pub schema_text : SchemaFault → List ℕ
schema_text (schema.Refused code at) = refused_at (schema_code code) at
schema_text schema.NoMemory = []

abbrev pub scope_text : ScopeFault → List ℕ
scope_text (scope.Refused code at first second) = refused_at (scope_code code first second) at
scope_text (scope.TooWide width) = line (codes "limit width 2048")
scope_text scope.NoMemory = []

abbrev pub case_text : CaseFault → List ℕ
case_text (Read fault) = read_text fault
case_text (Schema fault) = schema_text fault
case_text (Scope fault) = scope_text fault
case_text (QueriesDiffer left right) = codes "case refused: E45 " ++ (decimal left ++ (codes " " ++ (decimal right ++ 10 ∷ [])))
case_text (NotTwoQueries count at) = codes "case refused: E46 " ++ (decimal count ++ (codes " at " ++ (decimal at ++ 10 ∷ [])))
case_text NoMemory = []

-- ---- the size of a term
abbrev pub size_text : TermFault → List ℕ
size_text (term.TooBig size.Nodes count) = line (codes "limit nodes 200000")
size_text (term.TooBig size.Depth count) = line (codes "limit depth 2048")
size_text term.NoMemory = []

-- ---- the faults of a proof
abbrev pub proof_limit : ProofLimit → List ℕ
proof_limit of_proof.Nodes = line (codes "limit nodes 200000")
proof_limit of_proof.Depth = line (codes "limit depth 2048")
proof_limit of_proof.Steps = line (codes "limit steps 1000000")
proof_limit of_proof.Nesting = line (codes "limit nesting 64")

-- proof refused: P4 at line LINE column COLUMN
abbrev pub bad_line : ℕ → ℕ → List ℕ
bad_line number column = codes "proof refused: P4 at line " ++ (decimal number ++ (codes " column " ++ (decimal column ++ 10 ∷ [])))

abbrev pub proof_text : ProofFault → List ℕ
proof_text proof.BadHeader = line (codes "proof refused: P1")
proof_text proof.BadVersion = line (codes "proof refused: P2")
proof_text proof.BadOuts = line (codes "proof refused: P3")
proof_text (proof.BadLine number column) = bad_line number column
proof_text proof.NoEnd = line (codes "proof refused: P5")
proof_text proof.AfterEnd = line (codes "proof refused: P6")
proof_text (proof.Limit what count) = proof_limit what
proof_text proof.NoMemory = []

-- ---- the statuses
abbrev pub read_status : ReadFault → Status
read_status (read.Limit what) = status.Limit
read_status read.NoMemory = status.NoMemory
read_status _ = status.CaseRefused

abbrev pub schema_status : SchemaFault → Status
schema_status (schema.Refused code at) = status.CaseRefused
schema_status schema.NoMemory = status.NoMemory

abbrev pub scope_status : ScopeFault → Status
scope_status (scope.Refused code at first second) = status.CaseRefused
scope_status (scope.TooWide width) = status.Limit
scope_status scope.NoMemory = status.NoMemory

abbrev pub case_status : CaseFault → Status
case_status (Read fault) = read_status fault
case_status (Schema fault) = schema_status fault
case_status (Scope fault) = scope_status fault
case_status (QueriesDiffer left right) = status.CaseRefused
case_status (NotTwoQueries count at) = status.CaseRefused
case_status NoMemory = status.NoMemory

abbrev pub size_status : TermFault → Status
size_status (term.TooBig what count) = status.Limit
size_status term.NoMemory = status.NoMemory

abbrev pub proof_status : ProofFault → Status
proof_status proof.BadHeader = status.ProofRefused
proof_status proof.BadVersion = status.ProofRefused
proof_status proof.BadOuts = status.ProofRefused
proof_status (proof.BadLine number column) = status.ProofRefused
proof_status proof.NoEnd = status.ProofRefused
proof_status proof.AfterEnd = status.ProofRefused
proof_status (proof.Limit what count) = status.Limit
proof_status proof.NoMemory = status.NoMemory
