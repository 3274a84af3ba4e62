-- The record of an assembly answers coded indexes as the metadata does.
use Rattle.std.proofs.Common.{◌≡◌, ℕ, ◌<◌, ◌/◌, ◌%◌, ◌^◌, List, cond, Some, None, Option, refl, sym, ap, ◌∙◌, arith}
use Rattle.std.specs.Prelude.{nat_le}
use Rattle.std.specs.Option.{option_and_then}
use Rattle.metadata.specs.declared.schema.Table.{Table}
use Rattle.metadata.specs.declared.schema.Table.TheVariants as tables
use Rattle.metadata.specs.declared.schema.CodedKind.{CodedKind}
use Rattle.metadata.specs.declared.schema.CodedKind.TheVariants as kinds
use Rattle.metadata.specs.Schema.{kind_number, kind_numbered, table_number, tag_bits, tagged_table}
use Rattle.metadata.specs.Heaps.{coded_of, token}
use Rattle.metadata.specs.Heaps.{coded_token as coded_by_layout, row_token as row_by_layout}
use Rattle.metadata.specs.Tables.{Layout}
use Rattle.cli_assembly.specs.Assemblies.{assembly_by, assembly_of, coded_token, row_token}
use Rattle.cli_assembly.specs.Kept.{file_layout}
use Rattle.cli_assembly.proofs.Records.{rows_are}

-- each table is one of 64
pub few : (table : Table) → table_number table < 64
few tables.Module = omega arith
few tables.TypeRef = omega arith
few tables.TypeDef = omega arith
few tables.Field = omega arith
few tables.MethodDef = omega arith
few tables.Param = omega arith
few tables.InterfaceImpl = omega arith
few tables.MemberRef = omega arith
few tables.Constant = omega arith
few tables.CustomAttribute = omega arith
few tables.FieldMarshal = omega arith
few tables.DeclSecurity = omega arith
few tables.ClassLayout = omega arith
few tables.FieldLayout = omega arith
few tables.StandAloneSig = omega arith
few tables.EventMap = omega arith
few tables.Event = omega arith
few tables.PropertyMap = omega arith
few tables.Property = omega arith
few tables.MethodSemantics = omega arith
few tables.MethodImpl = omega arith
few tables.ModuleRef = omega arith
few tables.TypeSpec = omega arith
few tables.ImplMap = omega arith
few tables.FieldRVA = omega arith
few tables.Assembly = omega arith
few tables.AssemblyProcessor = omega arith
few tables.AssemblyOS = omega arith
few tables.AssemblyRef = omega arith
few tables.AssemblyRefProcessor = omega arith
few tables.AssemblyRefOS = omega arith
few tables.File = omega arith
few tables.ExportedType = omega arith
few tables.ManifestResource = omega arith
few tables.NestedClass = omega arith
few tables.GenericParam = omega arith
few tables.MethodSpec = omega arith
few tables.GenericParamConstraint = omega arith

row_token_is : (bytes : List ℕ) (layout : Layout) (row : ℕ) (table : Table)
    → row_token (assembly_by bytes layout) row table ≡ row_by_layout layout row table
row_token_is bytes layout row table =
    ap (λ n. cond (nat_le row n) (Some (token (table_number table) row)) None) (rows_are bytes layout table (few table))

of_table : (bytes : List ℕ) (layout : Layout) (row : ℕ) (table : Option Table)
    → option_and_then (row_token (assembly_by bytes layout) row) table ≡ option_and_then (row_by_layout layout row) table
of_table bytes layout row None = refl
of_table bytes layout row (Some table) = row_token_is bytes layout row table

pub coded_token_is : (bytes : List ℕ) (layout : Layout) (kind : CodedKind) (value : ℕ)
    → coded_token (assembly_by bytes layout) kind value ≡ coded_by_layout layout kind value
unfolding coded_token coded_by_layout
coded_token_is bytes layout kind value = of_table bytes layout (value / 2 ^ tag_bits kind) (tagged_table kind (value % 2 ^ tag_bits kind))

-- each kind is one of the list of kinds
kind_is_numbered : (kind : CodedKind) → kind_numbered (kind_number kind) ≡ Some kind
unfolding kind_numbered
kind_is_numbered kinds.TypeDefOrRef = refl
kind_is_numbered kinds.HasConstant = refl
kind_is_numbered kinds.HasCustomAttribute = refl
kind_is_numbered kinds.HasFieldMarshal = refl
kind_is_numbered kinds.HasDeclSecurity = refl
kind_is_numbered kinds.MemberRefParent = refl
kind_is_numbered kinds.HasSemantics = refl
kind_is_numbered kinds.MethodDefOrRef = refl
kind_is_numbered kinds.MemberForwarded = refl
kind_is_numbered kinds.Implementation = refl
kind_is_numbered kinds.CustomAttributeType = refl
kind_is_numbered kinds.ResolutionScope = refl
kind_is_numbered kinds.TypeOrMethodDef = refl

pub coded_is : (bytes : List ℕ) (kind : CodedKind) (value : ℕ)
    → coded_of (file_layout bytes) (kind_number kind) value ≡ coded_token (assembly_of bytes) kind value
unfolding assembly_of
coded_is bytes kind value =
    ap (option_and_then (λ k. coded_by_layout (file_layout bytes) k value)) (kind_is_numbered kind)
    ∙ sym (coded_token_is bytes (file_layout bytes) kind value)
