-- What the optional header says of the sections, number by number.
use Rattle.std.proofs.Common.{◌≡◌, ℕ, ◌+◌, List, length, refl}
use Rattle.pe_image.specs.declared.section.PeSection.{PeSection}
use Rattle.rtr_bytes.specs.declared.fault.Span.{Span}
use Rattle.pe_image.specs.declared.values.CoffHeader.{CoffHeader}
use Rattle.pe_image.specs.declared.values.OptionalHeader.{OptionalHeader}
use Rattle.pe_image.specs.declared.values.HeaderValues.{HeaderValues}
use Rattle.pe_image.specs.declared.values.Sizes.{Sizes}
use Rattle.pe_image.specs.Places.{aligned, cod_rva, headers_end}
use Rattle.pe_image.specs.Written.{section_alignment_of, resources_of, image_size, coff_header, optional_header}
use Rattle.pe_image.specs.Written.{header_sizes, header_values}

pub sizes-are : (sections : List PeSection) (bytes : List ℕ) (dat_len cod_len code initialized base alignment image headers : ℕ)
    → code ≡ aligned 512 cod_len → initialized ≡ aligned 512 dat_len → base ≡ cod_rva sections dat_len
    → alignment ≡ section_alignment_of bytes
    → image ≡ image_size (section_alignment_of bytes) (cod_rva sections dat_len + cod_len)
    → headers ≡ aligned 512 (headers_end (length sections + 2))
    → (let sizes : Sizes = record {
      size_of_code = code;
      size_of_initialized_data = initialized;
      base_of_code = base;
      section_alignment = alignment;
      size_of_image = image;
      size_of_headers = headers;
    } in sizes) ≡ header_sizes sections bytes dat_len cod_len
unfolding header_sizes
sizes-are sections bytes dat_len cod_len code initialized base alignment image headers a b c d e f = rw (a, b, c, d, e, f) refl

-- the values of the headers, part by part
pub values-are : (sections : List PeSection) (bytes : List ℕ) (dat_len cod_len cli count : ℕ) (coff : CoffHeader)
    (optional : OptionalHeader) (sizes : Sizes) (resources : Span)
    → coff ≡ coff_header count → count ≡ length sections + 2 → optional ≡ optional_header sizes
    → sizes ≡ header_sizes sections bytes dat_len cod_len
    → resources ≡ resources_of bytes
    → (let v : HeaderValues =
    record { coff = coff; optional = optional; resource_table = resources; cli_header = record { start = cli; len = 72 } } in v)
    ≡ header_values sections bytes dat_len cod_len cli
values-are sections bytes dat_len cod_len cli count coff optional sizes resources a b c d e = rw (a, b, c, d, e) refl
