-- The record of a built assembly, and that it has the heaps of what was asked for.
use Rattle.std.proofs.Common.{ℕ, false, List, [], ◌∷◌, length, replicate, Option, Some, None, refl, arith}
use Rattle.std.specs.Prelude.{◌-◌, if◌then◌else◌}
use Rattle.pe_image.specs.Places.{aligned}
use Rattle.cli_assembly.specs.Assemblies.{Assembly}
use Rattle.cli_assembly.specs.Bodies.{MethodBody}
use Rattle.asm_builder.specs.declared.asked.Method.{Method}
use Rattle.asm_builder.specs.Asked.{Asked}
use Rattle.asm_builder.specs.Cells.{is_empty, tables_of}
use Rattle.asm_builder.specs.Content.{all_after, content_of, locals_after, locals_token, no_heaps}
use Rattle.asm_builder.specs.Sound.{IsSound, rows_asked}
use Rattle.asm_builder.proofs.AllTables.{small_heaps}
use Rattle.asm_builder.proofs.CellsNamed.{HasHeaps, rows_counted}

-- the body of a method, where so many rows of StandAloneSig are before its own
abbrev pub built_body : ℕ → Method → Option MethodBody
built_body before m =
    if is_empty m.code then None
    else Some (record { max_stack = m.max_stack; locals = locals_token before m; code = m.code; more = false })

abbrev pub built_bodies : ℕ → List Method → List (Option MethodBody)
built_bodies before [] = []
built_bodies before (m ∷ ms) = built_body before m ∷ built_bodies (locals_after before m) ms

-- the record of the content
unfoldable pub built_assembly : Asked → ℕ → Assembly
built_assembly asked entry =
    let content = content_of asked in
    record {
      tables = content.tables;
      strings = content.strings;
      user_strings = content.user_strings;
      guids = content.guids;
      blobs = content.blobs;
      bodies = built_bodies 0 asked.methods;
      flags = 1;
      entry_token = entry;
    }

pub has_heaps : (asked : Asked) (entry : ℕ) → IsSound asked
    → HasHeaps (built_assembly asked entry) (all_after no_heaps (tables_of asked)) (rows_asked (tables_of asked))
unfolding built_assembly content_of
has_heaps asked entry sound =
    let heaps = all_after no_heaps (tables_of asked) in
    let small = small_heaps asked sound in
    record {
      rows_are = rows_counted no_heaps (tables_of asked);
      heaps = record {
        strings = replicate (aligned 4 (length heaps.strings) - length heaps.strings) 0;
        blobs = replicate (aligned 4 (length heaps.blobs) - length heaps.blobs) 0;
        strings_are = refl;
        blobs_are = refl;
      };
      few = omega (arith, small.1);
    }
