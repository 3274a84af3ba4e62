-- Why a call of a draft did nothing.
use Rattle.std.specs.Prelude.{◌≡◌, ◌↔◌}
use Rattle.asm_builder.specs.declared.draft.DraftRefusal.{DraftRefusal}
use Rattle.asm_builder.specs.declared.draft.DraftRefusal.TheVariants as refusals

-- `Unsound` exactly where a condition does not hold, and `TooLong` never
abbrev pub IsRefused : Type 0 → DraftRefusal → Type 0
IsRefused Sound e = ((e ≡ refusals.Unsound) ↔ ¬ Sound) × ¬ (e ≡ refusals.TooLong)
