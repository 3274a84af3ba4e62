-- A written signature is read back: the law of cli_assembly, for the signatures that a builder takes.
use Rattle.std.proofs.Common.{◌≡◌, ◌<◌, ◌^◌, List, length, Some}
use Rattle.std.specs.Prelude.{◌&&◌, All, nat_lt, IsTrue}
use Rattle.std.specs.List.{list_all}
use Rattle.std.proofs.lemmas.Bool.{and_parts, ltb-true}
use Rattle.std.proofs.lemmas.List.Sums.{AllPass-from_list_all}
use Rattle.cli_assembly.specs.Shortest.{IsWritable, IsWritableType, field_sig_bytes, is_writable_type, local_sig_bytes, method_sig_bytes}
use Rattle.cli_assembly.specs.Signatures.{field_sig_of, local_sig_of, method_sig_of}
use Rattle.cli_assembly.specs.declared.signature.TypeSig.{TypeSig}
use Rattle.cli_assembly.specs.declared.signature.MethodSig.{MethodSig}
use Rattle.asm_builder.specs.Sound.{are_writable_locals, is_writable_sig}

-- the clauses of `signatures_are_read_back`
pub record SignaturesAreBack : Type 0 where
  pub methods : (sig : MethodSig) → IsWritable sig → method_sig_of (method_sig_bytes sig) ≡ Some sig
  pub fields : (of : TypeSig) → IsWritableType of → field_sig_of (field_sig_bytes of) ≡ Some of
  pub locals : (locals : List TypeSig) → length locals < 2 ^ 29 → All IsWritableType locals
      → local_sig_of (local_sig_bytes locals) ≡ Some locals

-- ---- what a builder's tests say, as the law has it

all_writable : (types : List TypeSig) → IsTrue (list_all is_writable_type types) → All IsWritableType types
all_writable types all = AllPass-from_list_all is_writable_type types all

sig_writable : (sig : MethodSig) → IsTrue (is_writable_sig sig) → IsWritable sig
sig_writable sig writable =
    let parts =
    and_parts (nat_lt (length sig.params) (2 ^ 29)) (is_writable_type sig.ret && list_all is_writable_type sig.params) writable in
    let types = and_parts (is_writable_type sig.ret) (list_all is_writable_type sig.params) parts.1 in
    record {
      few = ltb-true (length sig.params) (2 ^ 29) parts.0;
      ret = types.0;
      params = all_writable sig.params types.1;
    }

-- ---- so each is read as what was asked for

pub method_sig_back : SignaturesAreBack → (sig : MethodSig) → IsTrue (is_writable_sig sig) → method_sig_of (method_sig_bytes sig) ≡ Some sig
method_sig_back law sig writable = law.methods sig (sig_writable sig writable)

pub field_sig_back : SignaturesAreBack → (sig : TypeSig) → IsTrue (is_writable_type sig) → field_sig_of (field_sig_bytes sig) ≡ Some sig
field_sig_back law sig writable = law.fields sig writable

pub local_sig_back : SignaturesAreBack → (locals : List TypeSig) → IsTrue (are_writable_locals locals)
    → local_sig_of (local_sig_bytes locals) ≡ Some locals
local_sig_back law locals writable =
    let parts = and_parts (nat_lt (length locals) (2 ^ 29)) (list_all is_writable_type locals) writable in
    law.locals locals (ltb-true (length locals) (2 ^ 29) parts.0) (all_writable locals parts.1)
