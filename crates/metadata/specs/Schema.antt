-- The schema of metadata (ECMA-335 II.22 and II.24.2.6), by the lists of columns and of tagged tables.
use Rattle.std.specs.Prelude.{ℕ, Bool, ◌==◌, ◌&&◌, List, Option, filter, find, map}
use Rattle.std.specs.Option.{option_map}
use Rattle.metadata.specs.declared.schema.Table.{Table}
use Rattle.metadata.specs.declared.schema.Table.TheVariants as tables
use Rattle.metadata.specs.declared.schema.CodedKind.{CodedKind}
use Rattle.metadata.specs.declared.schema.CodedKind.TheVariants as kinds
use Rattle.metadata.specs.declared.schema.ColumnKind.{ColumnKind}
use Rattle.metadata.specs.declared.schema.Column.{Column}
use Rattle.metadata.specs.declared.schema.CodedTable.{CodedTable}
use Rattle.metadata.specs.declared.schema.TheConstants.{CODED_KINDS, CODED_TABLES, COLUMNS}

-- the number of a table
abbrev pub table_number : Table → ℕ
table_number tables.Module = 0x00
table_number tables.TypeRef = 0x01
table_number tables.TypeDef = 0x02
table_number tables.Field = 0x04
table_number tables.MethodDef = 0x06
table_number tables.Param = 0x08
table_number tables.InterfaceImpl = 0x09
table_number tables.MemberRef = 0x0A
table_number tables.Constant = 0x0B
table_number tables.CustomAttribute = 0x0C
table_number tables.FieldMarshal = 0x0D
table_number tables.DeclSecurity = 0x0E
table_number tables.ClassLayout = 0x0F
table_number tables.FieldLayout = 0x10
table_number tables.StandAloneSig = 0x11
table_number tables.EventMap = 0x12
table_number tables.Event = 0x14
table_number tables.PropertyMap = 0x15
table_number tables.Property = 0x17
table_number tables.MethodSemantics = 0x18
table_number tables.MethodImpl = 0x19
table_number tables.ModuleRef = 0x1A
table_number tables.TypeSpec = 0x1B
table_number tables.ImplMap = 0x1C
table_number tables.FieldRVA = 0x1D
table_number tables.Assembly = 0x20
table_number tables.AssemblyProcessor = 0x21
table_number tables.AssemblyOS = 0x22
table_number tables.AssemblyRef = 0x23
table_number tables.AssemblyRefProcessor = 0x24
table_number tables.AssemblyRefOS = 0x25
table_number tables.File = 0x26
table_number tables.ExportedType = 0x27
table_number tables.ManifestResource = 0x28
table_number tables.NestedClass = 0x29
table_number tables.GenericParam = 0x2A
table_number tables.MethodSpec = 0x2B
table_number tables.GenericParamConstraint = 0x2C

-- the number of a kind of coded index
abbrev pub kind_number : CodedKind → ℕ
kind_number kinds.TypeDefOrRef = 0
kind_number kinds.HasConstant = 1
kind_number kinds.HasCustomAttribute = 2
kind_number kinds.HasFieldMarshal = 3
kind_number kinds.HasDeclSecurity = 4
kind_number kinds.MemberRefParent = 5
kind_number kinds.HasSemantics = 6
kind_number kinds.MethodDefOrRef = 7
kind_number kinds.MemberForwarded = 8
kind_number kinds.Implementation = 9
kind_number kinds.CustomAttributeType = 10
kind_number kinds.ResolutionScope = 11
kind_number kinds.TypeOrMethodDef = 12

-- how many of an index's low bits are its tag
abbrev pub tag_bits : CodedKind → ℕ
tag_bits kinds.TypeDefOrRef = 2
tag_bits kinds.HasConstant = 2
tag_bits kinds.HasCustomAttribute = 5
tag_bits kinds.HasFieldMarshal = 1
tag_bits kinds.HasDeclSecurity = 2
tag_bits kinds.MemberRefParent = 3
tag_bits kinds.HasSemantics = 1
tag_bits kinds.MethodDefOrRef = 1
tag_bits kinds.MemberForwarded = 1
tag_bits kinds.Implementation = 2
tag_bits kinds.CustomAttributeType = 3
tag_bits kinds.ResolutionScope = 2
tag_bits kinds.TypeOrMethodDef = 1

-- a column is of a table
abbrev pub is_of : ℕ → Column → Bool
is_of table column = table_number column.table == table

-- the kinds of a table's columns, in their order; none where there is no such table
abbrev pub columns_in : List Column → ℕ → List ColumnKind
columns_in columns table = map (λ c. c.kind) (filter (is_of table) columns)

unfoldable pub columns_of : ℕ → List ColumnKind
columns_of table = columns_in COLUMNS table

-- the table that a tag of a kind names
abbrev pub tagged_table_in : List CodedTable → CodedKind → ℕ → Option Table
tagged_table_in tagged kind tag = option_map (λ t. t.table) (find (λ t. (kind_number t.kind == kind_number kind) && (t.tag == tag)) tagged)

unfoldable pub tagged_table : CodedKind → ℕ → Option Table
tagged_table kind tag = tagged_table_in CODED_TABLES kind tag

-- the kind of a number
abbrev pub kind_in : List CodedKind → ℕ → Option CodedKind
kind_in kinds number = find (λ k. kind_number k == number) kinds

unfoldable pub kind_numbered : ℕ → Option CodedKind
kind_numbered number = kind_in CODED_KINDS number
