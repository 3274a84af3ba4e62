use Rattle.std.proofs.Common.{◌≡◌, ◌+◌, ◌<◌, ◌∙◌, Some, None, sym, arith}
use Rattle.native_format.specs.Sparse.{element_of}
use Rattle.rtr_sections.specs.Numbered.{present}
use Rattle.rtr_sections.specs.Entries.{content_place, entry_of}
use Rattle.rtr_sections.proofs.Numbered.{present-more, present-none}
use Rattle.rtr_sections.proofs.EntriesRead.{entry_some, entry_none}
use Rattle.rtr_sections.proofs.EntryHeads.{entry_by_head}
use Rattle.rtr_sections.proofs.entries.read_all.Goals as goal
use Rattle.rtr_sections.proofs.entries.read_all.Goals.{in-Some+in_ok-entry+in-Some-2+in_ok-push, in-Some+in_ok-entry+in_default-2}
use Rattle.rtr_sections.proofs.entries.read_all.Goals.{in_default}

pub loop-index-preserved : goal.loop-index-preserved
loop-index-preserved c =
    let bytes = c.args.file.now in
    let part = c.args.part in
    let a = c.args.array.now in
    let i = c.loop-index.index in
    let all = present (entry_of bytes part a) 0 a.count in
    let below : i < a.count = omega arith in
    elim c.match-content_at.branch [
      | in-Some+in_ok-entry+in-Some-2+in_ok-push w ↦
          let at = w.in-Some.at in
          let entry = w.in-Some-2.entry in
          let content : content_place (element_of a i) ≡ Some at = sym c.content_at.ensures.place ∙ w.in-Some.is in
          let there : entry_of bytes part a i ≡ Some entry =
          entry_some bytes part a i at content ∙ entry_by_head bytes part (i + 1) at ∙ sym w.in_ok-entry.ensures ∙ w.in-Some-2.is in
          rw (w.entries-is, w.in_ok-push.ensures.items)
          (present-more (entry_of bytes part a) a.count i c.loop-index.entries.items all entry below there c.loop-index.invariant)
      | in-Some+in_ok-entry+in_default-2 w ↦
          let at = w.in-Some.at in
          let content : content_place (element_of a i) ≡ Some at = sym c.content_at.ensures.place ∙ w.in-Some.is in
          let gone : entry_of bytes part a i ≡ None =
          entry_some bytes part a i at content ∙ entry_by_head bytes part (i + 1) at ∙ sym w.in_ok-entry.ensures ∙ w.in_default-2.is in
          rw w.entries-is (present-none (entry_of bytes part a) a.count i c.loop-index.entries.items all below gone c.loop-index.invariant)
      | in_default w ↦
          let content : content_place (element_of a i) ≡ None = sym c.content_at.ensures.place ∙ w.in_default.is in
          rw w.entries-is
          (present-none (entry_of bytes part a) a.count i c.loop-index.entries.items all below
          (entry_none bytes part a i content) c.loop-index.invariant)
    ]
