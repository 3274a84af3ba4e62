-- What a reader keeps of the CLI header (ECMA-335 II.25.3.3).
use Rattle.std.specs.Prelude.{◌≡◌, ℕ, ◌+◌, List, unwrap_or}
use Rattle.rtr_bytes.specs.Field.{u32_of}
use Rattle.pe_image.specs.declared.cli.Cli.{Cli}
use Rattle.pe_image.specs.Headers.{cli_at, metadata_place, metadata_size, native_of}

pub record IsCliOf (bytes : List ℕ) (cli : Cli) : Type 0 where
  pub header : cli.header ≡ record { start = cli_at bytes; len = 72 }
  pub metadata : cli.metadata ≡ record { start = unwrap_or (metadata_place bytes) 0; len = metadata_size bytes }
  pub flags : cli.flags ≡ u32_of bytes (cli_at bytes + 16)
  pub entry_token : cli.entry_token ≡ u32_of bytes (cli_at bytes + 20)
  pub native : cli.native ≡ native_of bytes
