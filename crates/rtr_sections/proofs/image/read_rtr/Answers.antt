use Rattle.std.proofs.Common.{◌≡◌, ◌≤◌, ◌*◌, ℕ, List, length, None, IfErr, IfOk, OnOk, subst, arith}
use Rattle.std.proofs.lemmas.Result.{IfOk-weaker}
use Rattle.rtr_bytes.specs.declared.fault.ReadRefusal.{ReadRefusal}
use Rattle.rtr_bytes.specs.Checks.{first_fault, RefusedBy}
use Rattle.rtr_sections.specs.declared.image.Image.{Image}
use Rattle.rtr_sections.specs.Image.{image_of, own_lists_len, own_slot_count, rtr_checks}
use Rattle.rtr_sections.proofs.ImageRead.{image_own, image_spellable}
use Rattle.rtr_sections.proofs.image.read_rtr.Goals as goal

pub read_image-requires : goal.read_image-requires
read_image-requires c = record { native = rw c.new-file.ensures c.requires.native }

pub returns-clause-malformed : goal.returns-clause-malformed
returns-clause-malformed c =
    let P : List ℕ → Type 0 =
    λ b. IfErr c.read_image.result (λ (e : ReadRefusal). RefusedBy (first_fault (rtr_checks c.args.method_rows) b) e) in
    subst P c.new-file.ensures c.read_image.ensures.malformed

pub returns-clause-well_formed : goal.returns-clause-well_formed
returns-clause-well_formed c =
    let P : List ℕ → Type 0 = λ b. OnOk c.read_image.result (first_fault (rtr_checks c.args.method_rows) b ≡ None) in
    subst P c.new-file.ensures c.read_image.ensures.well_formed

pub returns-clause-image : goal.returns-clause-image
returns-clause-image c =
    let P : List ℕ → Type 0 = λ b. IfOk c.read_image.result (λ (image : Image). image ≡ image_of b) in
    subst P c.new-file.ensures c.read_image.ensures.image

pub returns-clause-room : goal.returns-clause-room
returns-clause-room c =
    let P : List ℕ → Type 0 = λ b. OnOk c.read_image.result (own_lists_len b ≤ 32 * length b) in
    subst P c.new-file.ensures c.read_image.ensures.room

pub returns-clause-few_slots : goal.returns-clause-few_slots
returns-clause-few_slots c =
    let P : List ℕ → Type 0 = λ b. OnOk c.read_image.result (own_slot_count b ≤ 4 * length b) in
    subst P c.new-file.ensures c.read_image.ensures.few_slots

pub returns-clause-own : goal.returns-clause-own
returns-clause-own c =
    let P : List ℕ → Type 0 = λ b. IfOk c.read_image.result (λ (image : Image). image ≡ image_of b) in
    IfOk-weaker c.read_image.result _ _ (λ image e. image_own c.args.bytes.now image e)
    (subst P c.new-file.ensures c.read_image.ensures.image)

pub returns-clause-spellable : goal.returns-clause-spellable
returns-clause-spellable c =
    let P : List ℕ → Type 0 = λ b. IfOk c.read_image.result (λ (image : Image). image ≡ image_of b) in
    IfOk-weaker c.read_image.result _ _ (λ image e.
    image_spellable c.read_fixup_is_spellable.ensures c.args.bytes.now image (λ i. omega (arith, c.type_inv.bytes i)) e)
    (subst P c.new-file.ensures c.read_image.ensures.image)
