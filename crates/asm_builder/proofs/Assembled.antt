-- The join of all parts: what a built file is read as, and that it passes every check.
use Rattle.std.proofs.Common.{◌≡◌, ◌≤◌, ℕ, zero, suc, List, [], ◌∷◌, length, get_or, Some, None, refl, ap, arith}
use Rattle.std.specs.Prelude.{slice_get}
use Rattle.rtr_bytes.specs.Checks.{first_fault}
use Rattle.cli_assembly.specs.Assemblies.{assembly_of}
use Rattle.cli_assembly.specs.Checks.{assembly_checks}
use Rattle.asm_builder.specs.declared.asked.Method.{Method}
use Rattle.asm_builder.specs.Asked.{Asked}
use Rattle.asm_builder.specs.Content.{content_of, locals_after}
use Rattle.asm_builder.specs.File.{file_of}
use Rattle.asm_builder.proofs.Sizes.{file_length}
use Rattle.asm_builder.specs.Sound.{IsEntry, IsSound}
use Rattle.asm_builder.proofs.BodiesBack.{locals_before}
use Rattle.asm_builder.proofs.BuiltRecord.{built_assembly, built_bodies}
use Rattle.asm_builder.proofs.MetadataAssembled.{assembled_with, passes_all}
use Rattle.asm_builder.proofs.TablesMethods.{body_of_method}

length-built : (before : ℕ) (ms : List Method) → length (built_bodies before ms) ≡ length ms
length-built before [] = refl
length-built before (m ∷ ms) = let later = length-built (locals_after before m) ms in omega (arith, later)

built_at : (before : ℕ) (ms : List Method) (i : ℕ) (m : Method) → slice_get ms i ≡ Some m
    → get_or (built_bodies before ms) i None ≡ body_of_method (locals_before before ms i) m
built_at before [] i m e = absurd (let x : ⊥ = cc in x)
built_at before (n ∷ ms) zero m e = let same : n ≡ m = cc in ap (body_of_method before) same
built_at before (n ∷ ms) (suc i) m e = built_at (locals_after before n) ms i m e

-- what it is read as
pub assembled : (asked : Asked) (entry : ℕ) → IsSound asked → IsEntry asked entry → file_length (content_of asked) ≤ 16_777_216
    → assembly_of (file_of (content_of asked) entry) ≡ built_assembly asked entry
unfolding built_assembly
assembled asked entry sound is_entry fits =
    assembled_with asked entry sound is_entry fits (built_bodies 0 asked.methods) (length-built 0 asked.methods) (built_at 0 asked.methods)

-- and every check passes
pub passes : (asked : Asked) (entry : ℕ) → IsSound asked → IsEntry asked entry → file_length (content_of asked) ≤ 16_777_216
    → first_fault (assembly_checks (file_of (content_of asked) entry)) (file_of (content_of asked) entry) ≡ None
passes = passes_all
