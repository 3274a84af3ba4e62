use Rattle.std.proofs.Common.{◌++◌, ◌∙◌, ap, drop, take, arith}
use Rattle.std.proofs.lemmas.List.Elements.{All-drop, All-same}
use Rattle.fixup_sigs.specs.Shortest.{IsSpellable}
use Rattle.rtr_sections.specs.declared.slots.Slot.{Slot}
use Rattle.r2rdump.specs.OnePass.{imports_in_one_pass}
use Rattle.r2rdump.proofs.Numbered.{imports-more}
use Rattle.r2rdump.proofs.image.import_lines.Goals as goal

pub loop-number-preserved : goal.loop-number-preserved
loop-number-preserved c =
    let HasSpelling = λ (slot : Slot). IsSpellable slot.fixup in
    let rest = c.loop-number.rest.now in
    let all = c.args.text.now ++ imports_in_one_pass 0 c.args.imports.now c.args.slots.now in
    record {
      spellable = All-same HasSpelling c.split_slots.result.1.now _ c.split_slots.ensures.others
          (All-drop HasSpelling _ rest c.loop-number.invariant.spellable);
      lines = imports-more c.args.imports.now c.loop-number.number _ rest c.split_slots.result.0.now c.split_slots.result.1.now
          c.loop-number.text c.import_line.new.text c.slot_lines.new.text all (omega arith)
          (c.split_slots.ensures.own ∙ ap (λ n. take n rest) c.slot_count.ensures.count)
          (c.split_slots.ensures.others ∙ ap (λ n. drop n rest) c.slot_count.ensures.count)
          c.in_ok-import_line.ensures c.in_ok-slot_lines.ensures c.loop-number.invariant.lines;
    }
