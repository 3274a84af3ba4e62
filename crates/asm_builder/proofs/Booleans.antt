-- Tests, and what they are true of.
use Rattle.std.proofs.Common.{◌≡◌, ◌<◌, ◌+◌, ◌*◌, ◌^◌, ℕ, Bool, true, false, not, List, length, refl, sym, ap, ◌∙◌}
use Rattle.std.specs.Prelude.{◌↔◌, ◌&&◌, ◌==◌, nat_lt, IsTrue}
use Rattle.std.specs.List.{list_all, list_any}
use Rattle.std.specs.Str.{is_utf8}
use Rattle.std.proofs.lemmas.Bool.{and_parts, ltb-true}
use Rattle.cli_assembly.specs.declared.signature.TypeSig.{TypeSig}
use Rattle.cli_assembly.specs.declared.signature.MethodSig.{MethodSig}
use Rattle.cli_assembly.specs.Shortest.{is_writable_type}
use Rattle.rtr_bytes.specs.Compressed.{compressed_bytes}
use Rattle.asm_builder.specs.Cells.{user_string_bytes}
use Rattle.asm_builder.proofs.Strings.{length-string}
use Rattle.asm_builder.specs.Sound.{is_name, are_writable_locals, is_writable_sig}

pub same_tests : (a b : Bool) → (IsTrue a ↔ IsTrue b) → a ≡ b
same_tests true b e = sym (e.0 refl)
same_tests false true e = e.1 refl
same_tests false false e = refl

pub iff_then : {P Q R : Type 0} → (P ↔ Q) → (Q ↔ R) → (P ↔ R)
iff_then first second = (λ p. second.0 (first.0 p), λ r. first.1 (second.1 r))

pub sig_few : (sig : MethodSig) → is_writable_sig sig ≡ true → length sig.params < 2 ^ 29
sig_few sig ok =
    ltb-true (length sig.params) (2 ^ 29)
    (and_parts (nat_lt (length sig.params) (2 ^ 29)) (is_writable_type sig.ret && list_all is_writable_type sig.params) ok).0

pub locals_few : (locals : List TypeSig) → are_writable_locals locals ≡ true → length locals < 2 ^ 29
locals_few locals ok =
    ltb-true (length locals) (2 ^ 29) (and_parts (nat_lt (length locals) (2 ^ 29)) (list_all is_writable_type locals) ok).0

pub string_len : (units : List ℕ)
    → length (user_string_bytes units) ≡ length (compressed_bytes (2 * length units + 1)) + (2 * length units + 1)
string_len units = length-string units

pub name_is : (text : List ℕ) (zero_there : Bool) → is_utf8 text ≡ true → zero_there ≡ list_any (λ b. b == 0) text
    → not zero_there ≡ is_name text
name_is text zero_there utf8 is =
    ap not is ∙ sym (ap (λ (u : Bool). u && not (list_any (λ b. b == 0) text)) utf8)
