use Rattle.std.proofs.Common.{◌≡◌, ◌+◌, ◌<◌, ◌≤◌, ◌*◌, ◌∙◌, ℕ, List, Bool, true, cond, Some, None, sym, ap, subst, length, arith}
use Rattle.std.specs.Prelude.{sum_by}
use Rattle.std.specs.List.{range_with_len}
use Rattle.native_format.specs.Sparse.{element_of}
use Rattle.rtr_sections.specs.declared.imports.ImportSection.{ImportSection}
use Rattle.rtr_sections.specs.Entries.{content_place}
use Rattle.rtr_sections.specs.EntryHeads.{Linking, is_linked_at, list_len_at, list_len_in, unlinked_index}
use Rattle.rtr_sections.proofs.Numbered.{first_bad-step}
use Rattle.rtr_sections.proofs.EntriesRead.{place_some, place_none}
use Rattle.rtr_sections.proofs.ListsLen.{no_list, some_list, sum_more, sum_same}
use Rattle.rtr_sections.proofs.entries.check_links.Goals as goal
use Rattle.rtr_sections.proofs.entries.check_links.Goals.{in-Some+in_ok-linked+in_ok-ensure, in_default}

pub loop-index-preserved : goal.loop-index-preserved
loop-index-preserved c =
    let bytes = c.args.file.now in
    let part = c.args.part in
    let imports = c.args.lists.now.imports in
    let functions = c.args.functions in
    let a = c.args.array.now in
    let i = c.loop-index.index in
    let before = c.loop-index.invariant in
    let bad = unlinked_index bytes part imports functions a in
    let below : i < a.count = omega arith in
    elim c.match-content_at.branch [
      | in-Some+in_ok-linked+in_ok-ensure w ↦
          let at = w.in-Some.at in
          let content : content_place (element_of a i) ≡ Some at = sym c.content_at.ensures.place ∙ w.in-Some.is in
          let holds : w.in_ok-linked.linked ≡ true = w.in_ok-ensure.ensures.holds in
          let linked : is_linked_at bytes part imports functions at ≡ true =
          ap (λ (s : List ImportSection). is_linked_at bytes part s functions at) (sym before.same_imports)
          ∙ sym w.in_ok-linked.ensures.linked ∙ holds in
          let good : bad i ≡ None =
          place_some bytes part imports functions a i at content ∙ ap (λ (b : Bool). cond b None (Some (part.start + at))) linked in
          let asked = w.in_ok-linked.ensures.asked holds in
          record {
            checked = sym (first_bad-step bad a.count i below good) ∙ before.checked;
            same_bytes = ap (λ (l : Linking). l.bytes) (w.lists-is ∙ asked) ∙ before.same_bytes;
            same_imports = ap (λ (l : Linking). l.imports) (w.lists-is ∙ asked) ∙ before.same_imports;
            asked = ap (λ (l : Linking). l.asked) (w.lists-is ∙ asked)
                ∙ sum_more (list_len_in bytes part a) i (list_len_at bytes part at) _ (some_list bytes part a i at content) before.asked;
            room = rw w.lists-is (w.in_ok-linked.ensures.room holds);
            within = omega arith;
          }
      | in_default w ↦
          let content : content_place (element_of a i) ≡ None = sym c.content_at.ensures.place ∙ w.in_default.is in
          record {
            checked = sym (first_bad-step bad a.count i below (place_none bytes part imports functions a i content)) ∙ before.checked;
            same_bytes = ap (λ (l : Linking). l.bytes) w.lists-is ∙ before.same_bytes;
            same_imports = ap (λ (l : Linking). l.imports) w.lists-is ∙ before.same_imports;
            asked = ap (λ (l : Linking). l.asked) w.lists-is
                ∙ sum_same (list_len_in bytes part a) i _ (no_list bytes part a i content) before.asked;
            room = rw w.lists-is before.room;
            within = omega arith;
          }
    ]
