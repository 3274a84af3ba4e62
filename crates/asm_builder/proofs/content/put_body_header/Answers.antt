use Rattle.std.proofs.Common.{◌≡◌, ◌++◌}
use Rattle.byteorder.specs.Endian.{little_bytes}
use Rattle.asm_builder.specs.Content.{body_header}
use Rattle.asm_builder.proofs.Padding.{four_parts}
use Rattle.asm_builder.proofs.content.put_body_header.Goals as goal

pub returns : goal.returns
returns c =
    let size : c.to_le_bytes-3.result ≡ little_bytes 4 c.len.result = c.to_le_bytes-3.ensures in
    let whole : body_header c.args.locals c.args.m.now
    ≡ c.to_le_bytes.result ++ (c.to_le_bytes-2.result ++ (c.to_le_bytes-3.result ++ c.to_le_bytes-4.result)) = cc in
    four_parts c.args.out.now.items c.to_le_bytes.result c.to_le_bytes-2.result c.to_le_bytes-3.result c.to_le_bytes-4.result
    (body_header c.args.locals c.args.m.now) c.extend_from_slice.new.self.items c.extend_from_slice-2.new.self.items
    c.extend_from_slice-3.new.self.items
    c.extend_from_slice-4.new.self.items c.in_ok-extend_from_slice.ensures.items c.in_ok-extend_from_slice-2.ensures.items
    c.in_ok-extend_from_slice-3.ensures.items c.in_ok-extend_from_slice-4.ensures.items whole
