-- Headers of bodies in a file with one section, computed by the definitions: 32 bytes of the file from 128 on are at the RVA 0x1000.
use Rattle.std.proofs.Common.{◌≡◌, ℕ, List, [], ◌∷◌, ◌++◌, replicate, false, refl}
use Rattle.cli_assembly.specs.Bodies.{body_at, fat_at, tiny_at}
use Rattle.cli_assembly.specs.declared.header.BodyAt.TheVariants as at

-- the PE header is at 64, has no optional header, and has one section header, at 88
headers : List ℕ
headers =
    replicate 60 0 ++ 0x40 ∷ 0x00 ∷ 0x00 ∷ 0x00 ∷ []
    ++ 0x50 ∷ 0x45 ∷ 0x00 ∷ 0x00 ∷ 0x4C ∷ 0x01 ∷ 0x01 ∷ 0x00 ∷ []
    ++ replicate 16 0
    ++ 0x2E ∷ 0x74 ∷ 0x65 ∷ 0x78 ∷ 0x74 ∷ 0x00 ∷ 0x00 ∷ 0x00 ∷ 0x20 ∷ 0x00 ∷ 0x00 ∷ 0x00 ∷ 0x00 ∷ 0x10 ∷ 0x00 ∷ 0x00
    ∷ 0x20 ∷ 0x00 ∷ 0x00 ∷ 0x00 ∷ 0x80 ∷ 0x00 ∷ 0x00 ∷ 0x00 ∷ []
    ++ replicate 16 0

-- a tiny body, a header of another format, a fat body, a fat header of 2 words, a tiny body that is cut, and a fat header that is cut
content : List ℕ
content =
    0x06 ∷ 0x2A ∷ 0x01 ∷ 0x00 ∷ []
    ++ 0x13 ∷ 0x30 ∷ 0x02 ∷ 0x00 ∷ 0x02 ∷ 0x00 ∷ 0x00 ∷ 0x00 ∷ 0x01 ∷ 0x00 ∷ 0x00 ∷ 0x11 ∷ 0x06 ∷ 0x2A ∷ []
    ++ 0x03 ∷ 0x20 ∷ 0x00 ∷ 0x00 ∷ 0x00 ∷ 0x00 ∷ 0x00 ∷ 0x00 ∷ 0x00 ∷ 0x00 ∷ 0x00 ∷ 0x00 ∷ []
    ++ 0x1A ∷ 0x03 ∷ []

file : List ℕ
file = headers ++ content

tiny : body_at file 0x1000 ≡ at.Placed (record { max_stack = 8; locals = 0; code = record { start = 129; len = 1 }; more = false })
unfolding body_at tiny_at fat_at file headers content
tiny = refl

other_format : body_at file 0x1002 ≡ at.Malformed 130
unfolding body_at tiny_at fat_at file headers content
other_format = refl

fat : body_at file 0x1004 ≡ at.Placed (record { max_stack = 2; locals = 0x11000001; code = record { start = 144; len = 2 }; more = false })
unfolding body_at tiny_at fat_at file headers content
fat = refl

two_words : body_at file 0x1012 ≡ at.Malformed 146
unfolding body_at tiny_at fat_at file headers content
two_words = refl

-- the tiny body's code, the fat header, and the byte at the section's end are not in a section
outside : (body_at file 0x101E ≡ at.Unplaced) × (body_at file 0x101F ≡ at.Unplaced) × (body_at file 0x1020 ≡ at.Unplaced)
unfolding body_at tiny_at fat_at file headers content
outside = (refl, refl, refl)
