use Rattle.r2rdump.proofs.Parts.{image_parts}
use Rattle.r2rdump.proofs.image.image_lines.Goals as goal

pub returns : goal.returns
returns c =
    image_parts c.args.image.now c.own.result c.as_slice.result.now c.as_slice-2.result.now c.as_slice-3.result.now
    c.as_slice-4.result.now c.as_slice-5.result.now
    c.args.text.now c.native_line.new.text c.rtr_section_lines.new.text c.import_lines.new.text c.entry_lines.new.text c.entry_lines.result
    c.own.ensures c.as_slice.ensures c.as_slice-2.ensures c.as_slice-3.ensures c.as_slice-4.ensures c.as_slice-5.ensures
    c.in_ok-native_line.ensures c.in_ok-rtr_section_lines.ensures c.in_ok-import_lines.ensures c.entry_lines.ensures
