-- The lines of an assembly: its name, and each type with its methods.
use Rattle.std.specs.Prelude.{ℕ, ◌+◌, ◌%◌, ◌^◌, List, [], ◌∷◌, ◌++◌, codes, unwrap_or}
use Rattle.std.specs.List.{flat_map, range_with_len}
use Rattle.hex.specs.Hex.{encode_lower}
use Rattle.metadata.specs.declared.schema.Table.TheVariants as tables
use Rattle.cli_assembly.specs.Assemblies.{Assembly, assembly_name, blob_at, column, methods_of, row_count, string_at}
use Rattle.rtr_outside.specs.Text.{hex8, newline, printed_name}
use Rattle.r2rdump.specs.Text.{method_token}

-- the text and the blob at an offset, empty where there is none: an assembly whose checks hold has each that a row names
abbrev pub text_or_empty : Assembly → ℕ → List ℕ
text_or_empty assembly at = unwrap_or (string_at assembly at) []

abbrev pub blob_or_empty : Assembly → ℕ → List ℕ
blob_or_empty assembly at = unwrap_or (blob_at assembly at) []

-- the token of a TypeDef row (ECMA-335 II.22.37), as a word of 32 bits
abbrev pub type_token : ℕ → ℕ
type_token row = (0x0200_0000 + row) % 2 ^ 32

-- a namespace and a dot, where the namespace isn't empty
abbrev pub before_name : List ℕ → List ℕ
before_name [] = []
before_name (b ∷ namespace) = printed_name (b ∷ namespace) ++ codes "."

-- TypeName and TypeNamespace of a TypeDef row
abbrev pub type_line : Assembly → ℕ → List ℕ
type_line assembly row =
    codes "type " ++ hex8 (type_token row) ++ codes " " ++ before_name (text_or_empty assembly (column assembly tables.TypeDef row 2))
    ++ printed_name (text_or_empty assembly (column assembly tables.TypeDef row 1)) ++ newline

-- Name and Signature of a MethodDef row (II.22.26)
abbrev pub method_line : Assembly → ℕ → List ℕ
method_line assembly row =
    codes "method " ++ hex8 (method_token row) ++ codes " "
    ++ printed_name (text_or_empty assembly (column assembly tables.MethodDef row 3)) ++ codes " "
    ++ encode_lower (blob_or_empty assembly (column assembly tables.MethodDef row 4)) ++ newline

-- a type, and after it the methods of its list
abbrev pub type_lines : Assembly → ℕ → List ℕ
type_lines assembly row = type_line assembly row ++ flat_map (method_line assembly) (methods_of assembly row)

abbrev pub assembly_line : Assembly → List ℕ
assembly_line assembly = codes "assembly " ++ printed_name (unwrap_or (assembly_name assembly) []) ++ newline

unfoldable pub assembly_lines : Assembly → List ℕ
assembly_lines assembly =
    assembly_line assembly ++ flat_map (type_lines assembly) (range_with_len 1 (row_count assembly tables.TypeDef))
