-- How a run ends: the exit status of each end, and the line that standard error gets.
use Rattle.std.specs.Prelude.{ℕ, List, [], ◌∷◌, ◌++◌, codes}
use Rattle.std.specs.Fmt.{decimal}
use Rattle.std.specs.List.{concat}
use Rattle.programs.specs.declared.op.ProgramKind.{ProgramKind}
use Rattle.programs.specs.declared.op.ProgramKind.TheVariants as program
use Rattle.query_types.specs.declared.refusal.TypeKind.{TypeKind}
use Rattle.query_types.specs.declared.refusal.TypeKind.TheVariants as typing
use Rattle.sql_read.specs.declared.refusal.SqlKind.{SqlKind}
use Rattle.sql_read.specs.declared.refusal.SqlKind.TheVariants as sql
use Rattle.sql_types.specs.declared.refusal.SchemaKind.{SchemaKind}
use Rattle.sql_types.specs.declared.refusal.SchemaKind.TheVariants as catalog
use Rattle.table_load.specs.declared.refusal.DataKind.{DataKind}
use Rattle.table_load.specs.declared.refusal.DataKind.TheVariants as loading
use Rattle.voodoo_text.specs.declared.refusal.TextKind.{TextKind}
use Rattle.voodoo_text.specs.declared.refusal.TextKind.TheVariants as algebra
use Rattle.run_steps.specs.declared.status.UsageKind.TheVariants.{Words}
use Rattle.run_steps.specs.declared.status.FileRole.{FileRole}
use Rattle.run_steps.specs.declared.status.FileRole.TheVariants.{Schema, Table, Text}
use Rattle.run_steps.specs.declared.status.SchemaCause.{SchemaCause}
use Rattle.run_steps.specs.declared.status.SchemaCause.TheVariants as cause
use Rattle.run_steps.specs.declared.status.QueryCause.{QueryCause}
use Rattle.run_steps.specs.declared.status.QueryCause.TheVariants as query_cause
use Rattle.run_steps.specs.declared.status.AlgebraCause.{AlgebraCause}
use Rattle.run_steps.specs.declared.status.AlgebraCause.TheVariants as algebra_cause
use Rattle.run_steps.specs.declared.status.LimitWhat.{LimitWhat}
use Rattle.run_steps.specs.declared.status.LimitWhat.TheVariants as limit
use Rattle.run_steps.specs.declared.status.Status.{Status}
use Rattle.run_steps.specs.declared.status.Status.TheVariants.{Done, Usage, ReadFault, WriteFault, SchemaRefused, DataRefused, QueryRefused, AlgebraRefused, LimitReached, Overflow, NotYet, NoMemory}

abbrev pub status_code : Status → ℕ
status_code Done = 0
status_code (Usage kind) = 2
status_code (ReadFault role) = 3
status_code WriteFault = 4
status_code (SchemaRefused at kind) = 5
status_code (DataRefused table at_record at_column kind) = 6
status_code (QueryRefused at kind) = 7
status_code (AlgebraRefused line kind) = 9
status_code (LimitReached what number) = 10
status_code Overflow = 11
status_code NoMemory = 12
status_code (NotYet role) = 13

-- a file by what it is to the run
abbrev pub role_name : FileRole → List ℕ
role_name Schema = codes "schema"
role_name (Table k) = codes "table " ++ decimal k
role_name Text = codes "text"

-- a kind is printed as its variant's name
abbrev pub sql_kind_name : SqlKind → List ℕ
sql_kind_name sql.NotText = codes "NotText"
sql_kind_name sql.BadToken = codes "BadToken"
sql_kind_name sql.NumberTooWide = codes "NumberTooWide"
sql_kind_name sql.TooLong = codes "TooLong"
sql_kind_name sql.Unexpected = codes "Unexpected"
sql_kind_name sql.TooDeep = codes "TooDeep"
sql_kind_name sql.DateRange = codes "DateRange"

abbrev pub schema_kind_name : SchemaKind → List ℕ
schema_kind_name catalog.TableTwice = codes "TableTwice"
schema_kind_name catalog.ColumnTwice = codes "ColumnTwice"
schema_kind_name catalog.TwoKeys = codes "TwoKeys"
schema_kind_name catalog.KeyUnknown = codes "KeyUnknown"
schema_kind_name catalog.BadWidth = codes "BadWidth"
schema_kind_name catalog.TooManyTables = codes "TooManyTables"
schema_kind_name catalog.TooManyColumns = codes "TooManyColumns"

abbrev pub schema_cause_name : SchemaCause → List ℕ
schema_cause_name (cause.Text kind) = sql_kind_name kind
schema_cause_name (cause.Catalog kind) = schema_kind_name kind

abbrev pub type_kind_name : TypeKind → List ℕ
type_kind_name typing.UnknownTable = codes "UnknownTable"
type_kind_name typing.UnknownColumn = codes "UnknownColumn"
type_kind_name typing.Ambiguous = codes "Ambiguous"
type_kind_name typing.NameTwice = codes "NameTwice"
type_kind_name typing.TypesDiffer = codes "TypesDiffer"
type_kind_name typing.NotGrouped = codes "NotGrouped"
type_kind_name typing.NestedAggregate = codes "NestedAggregate"
type_kind_name typing.NotAKey = codes "NotAKey"
type_kind_name typing.ZeroDivisor = codes "ZeroDivisor"
type_kind_name typing.NotColumns = codes "NotColumns"
type_kind_name typing.TooManyTables = codes "TooManyTables"
type_kind_name typing.TooManyItems = codes "TooManyItems"
type_kind_name typing.TooManyKeys = codes "TooManyKeys"
type_kind_name typing.ScaleTooLarge = codes "ScaleTooLarge"

abbrev pub query_cause_name : QueryCause → List ℕ
query_cause_name (query_cause.Text kind) = sql_kind_name kind
query_cause_name (query_cause.Typing kind) = type_kind_name kind

abbrev pub text_kind_name : TextKind → List ℕ
text_kind_name algebra.NotText = codes "NotText"
text_kind_name algebra.BadToken = codes "BadToken"
text_kind_name algebra.Unexpected = codes "Unexpected"
text_kind_name algebra.BadNumber = codes "BadNumber"
text_kind_name algebra.NotAdmissible = codes "NotAdmissible"

abbrev pub program_kind_name : ProgramKind → List ℕ
program_kind_name program.TooManyStatements = codes "TooManyStatements"
program_kind_name program.UnknownName = codes "UnknownName"
program_kind_name program.NoSuchPath = codes "NoSuchPath"
program_kind_name program.NoLength = codes "NoLength"
program_kind_name program.PathClash = codes "PathClash"
program_kind_name program.TooDeep = codes "TooDeep"
program_kind_name program.TooManyKeys = codes "TooManyKeys"
program_kind_name program.NameTwice = codes "NameTwice"
program_kind_name program.NoPersist = codes "NoPersist"

abbrev pub algebra_cause_name : AlgebraCause → List ℕ
algebra_cause_name (algebra_cause.Text kind) = text_kind_name kind
algebra_cause_name (algebra_cause.Program kind) = program_kind_name kind

abbrev pub data_kind_name : DataKind → List ℕ
data_kind_name loading.Header = codes "Header"
data_kind_name loading.TooManyRows = codes "TooManyRows"
data_kind_name loading.FieldCount = codes "FieldCount"
data_kind_name loading.NotInteger = codes "NotInteger"
data_kind_name loading.IntegerRange = codes "IntegerRange"
data_kind_name loading.NotDate = codes "NotDate"
data_kind_name loading.NotText = codes "NotText"
data_kind_name loading.TextTooLong = codes "TextTooLong"
data_kind_name loading.NotDecimal = codes "NotDecimal"
data_kind_name loading.DecimalRange = codes "DecimalRange"
data_kind_name (loading.KeyTwice earlier) = codes "KeyTwice "

-- a key that stands twice is followed by the earlier record's number
abbrev pub data_kind_number : DataKind → List ℕ
data_kind_number (loading.KeyTwice earlier) = decimal earlier
data_kind_number kind = []

abbrev pub line_end : List ℕ
line_end = codes "\n"

-- a line that names a place, and what is wrong there
abbrev pub place_line : List ℕ → ℕ → List ℕ → List ℕ
place_line start at name = concat (start ∷ decimal at ∷ codes ": " ∷ name ∷ line_end ∷ [])

abbrev pub schema_line : ℕ → SchemaCause → List ℕ
schema_line at kind = place_line (codes "voodoo: schema: byte ") at (schema_cause_name kind)

abbrev pub query_line : ℕ → QueryCause → List ℕ
query_line at kind = place_line (codes "voodoo: query: byte ") at (query_cause_name kind)

abbrev pub algebra_line : ℕ → AlgebraCause → List ℕ
algebra_line line kind = place_line (codes "voodoo: algebra: line ") line (algebra_cause_name kind)

abbrev pub data_line : ℕ → ℕ → ℕ → DataKind → List ℕ
data_line table at_record at_column kind = concat (
    codes "voodoo: table " ∷ decimal table ∷ codes ": record " ∷ decimal at_record ∷ codes ": column " ∷ decimal at_column
    ∷ codes ": " ∷ data_kind_name kind ∷ data_kind_number kind ∷ line_end ∷ [])

-- what a limit is on
abbrev pub limit_name : LimitWhat → List ℕ
limit_name limit.Slots = codes "slots"
limit_name (limit.File role) = role_name role

abbrev pub limit_line : LimitWhat → ℕ → List ℕ
limit_line what number = concat (codes "voodoo: limit: " ∷ limit_name what ∷ codes ": " ∷ decimal number ∷ line_end ∷ [])

-- the line of a status: none where the run is done
abbrev pub status_line : Status → List ℕ
status_line Done = []
status_line (Usage Words) = codes "voodoo: usage: Words\n"
status_line (ReadFault role) = codes "voodoo: cannot read " ++ role_name role ++ line_end
status_line WriteFault = codes "voodoo: cannot write\n"
status_line (SchemaRefused at kind) = schema_line at kind
status_line (DataRefused table at_record at_column kind) = data_line table at_record at_column kind
status_line (QueryRefused at kind) = query_line at kind
status_line (AlgebraRefused line kind) = algebra_line line kind
status_line (LimitReached what number) = limit_line what number
status_line Overflow = codes "voodoo: overflow\n"
status_line (NotYet role) = codes "voodoo: not yet: " ++ role_name role ++ line_end
status_line NoMemory = codes "voodoo: out of memory\n"
