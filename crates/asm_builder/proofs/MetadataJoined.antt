-- What a reader takes from the metadata of a built file, joined: all checks of the metadata, and the record of the assembly but its
-- bodies.
use Rattle.std.proofs.Common.{◌≡◌, ◌++◌, ◌∙◌, ℕ, List, [], length, map, drop, get_or, Option, None, sym, ap, refl}
use Rattle.std.specs.List.{range_with_len}
use Rattle.std.proofs.lemmas.List.FromFn.{fill_by_all}
use Rattle.rtr_bytes.specs.declared.fault.Span.{Span}
use Rattle.rtr_bytes.specs.Checks.{first_fault}
use Rattle.rtr_bytes.proofs.Joined.{first_fault-append}
use Rattle.pe_image.specs.Headers.{headers_of}
use Rattle.metadata.specs.declared.schema.Table.TheVariants as tables
use Rattle.metadata.specs.Checks.{column_checks, header_checks, layout_checks, metadata_checks, root_checks, row_checks, stream_checks}
use Rattle.metadata.specs.Heaps.{heap_bytes}
use Rattle.metadata.specs.Schema.{table_number}
use Rattle.metadata.specs.Tables.{Layout, layout_of, table_of}
use Rattle.cli_assembly.specs.Assemblies.{Assembly, assembly_by, assembly_of, bodies_in}
use Rattle.cli_assembly.specs.Bodies.{MethodBody}
use Rattle.cli_assembly.specs.Checks.{metadata_of}
use Rattle.asm_builder.specs.declared.content.Content.{Content}
use Rattle.asm_builder.specs.File.{metadata_at, metadata_bytes}
use Rattle.asm_builder.proofs.Sizes.{content_layout}
use Rattle.asm_builder.proofs.TablesBack.{IsSpelled, blobs_back, guids_back, strings_back, table_back, user_strings_back}
use Rattle.asm_builder.proofs.MetadataBack.{header_passes, layout_is, root_passes, rows_pass, span_in, streams_pass}
use Rattle.asm_builder.proofs.PeBack.{IsShort}

-- an assembly by its parts
abbrev made : List (List (List ℕ)) → List ℕ → List ℕ → List ℕ → List ℕ → List (Option MethodBody) → ℕ → ℕ → Assembly
made tables strings user_strings guids blobs bodies flags entry = record {
  tables = tables;
  strings = strings;
  user_strings = user_strings;
  guids = guids;
  blobs = blobs;
  bodies = bodies;
  flags = flags;
  entry_token = entry;
}

same_parts : (t t' : List (List (List ℕ))) (s s' u u' g g' b b' : List ℕ) (m m' : List (Option MethodBody)) (f f' e e' : ℕ) → t ≡ t'
    → s ≡ s' → u ≡ u' → g ≡ g' → b ≡ b' → m ≡ m' → f ≡ f' → e ≡ e' → made t s u g b m f e ≡ made t' s' u' g' b' m' f' e'
same_parts t t' s s' u u' g g' b b' m m' f f' e e' p1 p2 p3 p4 p5 p6 p7 p8 = rw (p1, p2, p3, p4, p5, p6, p7, p8) refl

module _ (bytes : List ℕ) (content : Content) (is : IsSpelled content) (short : IsShort content) (rest : List ℕ)
    (stands : drop (metadata_at content) bytes ≡ metadata_bytes content ++ rest) where
  -- all checks of the metadata, where those of its columns pass
  pub metadata_passes : length (get_or content.tables (table_number tables.Module) []) ≡ 1
      → length (get_or content.tables (table_number tables.Assembly) []) ≡ 1
      → first_fault (column_checks (span_in content)) bytes ≡ None
      → first_fault (metadata_checks (span_in content)) bytes ≡ None
  unfolding metadata_checks
  metadata_passes one_module one_assembly columns =
      let span = span_in content in
      first_fault-append (root_checks span) (stream_checks span ++ (header_checks span ++ layout_checks span)) bytes
      (root_passes bytes content is short rest stands)
      ∙ first_fault-append (stream_checks span) (header_checks span ++ layout_checks span) bytes
      (streams_pass bytes content is short rest stands)
      ∙ first_fault-append (header_checks span) (layout_checks span) bytes (header_passes bytes content is short rest stands)
      ∙ first_fault-append (row_checks span) (column_checks span) bytes
      (rows_pass bytes content is short rest stands one_module one_assembly)
      ∙ columns

  pub tables_are : map (table_of bytes (content_layout content)) (range_with_len 0 64) ≡ content.tables
  tables_are =
      sym (fill_by_all (table_of bytes (content_layout content)) content.tables 64 [] is.count
      (λ k below. sym (table_back bytes content is short rest stands k below)))

  pub assembly_is : (bodies : List (Option MethodBody)) (flags entry : ℕ) → metadata_of bytes ≡ span_in content
      → bodies_in bytes (content_layout content) ≡ bodies → (headers_of bytes).cli_flags ≡ flags → (headers_of bytes).entry_token ≡ entry
      → assembly_of bytes
      ≡ record {
        tables = content.tables;
        strings = content.strings;
        user_strings = content.user_strings;
        guids = content.guids;
        blobs =
            content.blobs;
        bodies = bodies;
        flags = flags;
        entry_token = entry;
      }
  unfolding assembly_of assembly_by
  assembly_is bodies flags entry place bodies_are flags_are entry_is =
      let layout = content_layout content in
      ap (λ (span : Span). assembly_by bytes (layout_of bytes span)) place
      ∙ ap (λ (l : Layout). assembly_by bytes l) (layout_is bytes content is short rest stands)
      ∙ same_parts (map (table_of bytes layout) (range_with_len 0 64)) content.tables (heap_bytes bytes layout.strings) content.strings
      (heap_bytes bytes layout.user_strings) content.user_strings (heap_bytes bytes layout.guids) content.guids
      (heap_bytes bytes layout.blobs) content.blobs (bodies_in bytes layout) bodies (headers_of bytes).cli_flags flags
      (headers_of bytes).entry_token entry tables_are (strings_back bytes content is short rest stands)
      (user_strings_back bytes content is short rest stands) (guids_back bytes content is short rest stands)
      (blobs_back bytes content is short rest stands) bodies_are flags_are entry_is
