-- The fault of a file is the one of the lower number of those that the readers of its assembly and of its image give.
use Rattle.std.proofs.Common.{◌≡◌, ℕ, ◌<◌, ◌≤◌, ◌&&◌, Bool, true, false, cond, List, [], ◌∷◌, ◌++◌, Option, Some, None}
use Rattle.std.proofs.Common.{refl, sym, ap, ◌∙◌, append_assoc, arith}
use Rattle.std.specs.Prelude.{nat_le}
use Rattle.std.specs.List.{list_all}
use Rattle.std.proofs.lemmas.Bool.{le-ltb, leb-true, lt-ltb}
use Rattle.rtr_bytes.specs.declared.fault.Fault.{Fault}
use Rattle.rtr_bytes.specs.declared.fault.ReadRefusal.{ReadRefusal}
use Rattle.rtr_bytes.specs.declared.fault.ReadRefusal.TheVariants as refusals
use Rattle.rtr_bytes.specs.Checks.{Check, RefusedBy, first_fault, fault_or}
use Rattle.rtr_bytes.proofs.Joined.{first_fault-append_some}
use Rattle.pe_image.specs.Checks.{pe_checks}
use Rattle.rtr_sections.specs.Header.{header_checks}
use Rattle.rtr_sections.specs.Image.{image_checks, own_checks, rtr_checks}
use Rattle.metadata.specs.Checks.{metadata_checks}
use Rattle.metadata.specs.declared.schema.Table.TheVariants as tables
use Rattle.cli_assembly.specs.Assemblies.{assembly_of, row_count}
use Rattle.cli_assembly.specs.Checks.{assembly_checks, body_checks, metadata_of}
use Rattle.r2rdump.specs.Dump.{dump_checks, file_fault, image_fault, lower, method_rows, rows_asked}

-- ---- the first fault of two lists

abbrev or_fault : Option Fault → Option Fault → Option Fault
or_fault None others = others
or_fault (Some f) others = Some f

place_or : (n : ℕ) (o : Option ℕ) (a b c : Option Fault) → a ≡ or_fault b c → fault_or n o a ≡ or_fault (fault_or n o b) c
place_or n None a b c e = e
place_or n (Some p) a b c e = refl

joined : (cs ds : List Check) (bytes : List ℕ) → first_fault (cs ++ ds) bytes ≡ or_fault (first_fault cs bytes) (first_fault ds bytes)
joined [] ds bytes = refl
joined (c ∷ cs) ds bytes =
    place_or c.number (c.failing_place bytes) (first_fault (cs ++ ds) bytes) (first_fault cs bytes)
    (first_fault ds bytes) (joined cs ds bytes)

-- ---- the numbers of checks

abbrev between : ℕ → ℕ → ℕ → Bool
between low high n = nat_le low n && nat_le n high

-- a fault has a number between these
abbrev IsBetween : ℕ → ℕ → Option Fault → Type 0
IsBetween low high None = Unit {0}
IsBetween low high (Some f) = (low ≤ f.check) × (f.check ≤ high)

both : (a b : Bool) → (a && b) ≡ true → (a ≡ true) × (b ≡ true)
both true b e = (refl, e)
both false b e = absurd (let x : ⊥ = cc in x)

bounds : (low high n : ℕ) (others : Bool) → (between low high n && others) ≡ true → (low ≤ n) × (n ≤ high) × (others ≡ true)
bounds low high n others e =
    let (here, there) = both (between low high n) others e in
    let (a, b) = both (nat_le low n) (nat_le n high) here in
    (leb-true low n a, leb-true n high b, there)

fault_between : (low high n : ℕ) (o : Option ℕ) (others : Option Fault) → low ≤ n → n ≤ high → IsBetween low high others
    → IsBetween low high (fault_or n o others)
fault_between low high n None others a b h = h
fault_between low high n (Some p) others a b h = (a, b)

numbers : (low high : ℕ) (cs : List Check) (bytes : List ℕ) → list_all (λ c. between low high c.number) cs ≡ true
    → IsBetween low high (first_fault cs bytes)
numbers low high [] bytes h = tt
numbers low high (c ∷ cs) bytes h =
    let (a, b, others) = bounds low high c.number (list_all (λ c. between low high c.number) cs) h in
    fault_between low high c.number (c.failing_place bytes) (first_fault cs bytes) a b (numbers low high cs bytes others)

of_pe : (bytes : List ℕ) → IsBetween 1 14 (first_fault pe_checks bytes)
of_pe bytes = numbers 1 14 pe_checks bytes refl

of_header : (bytes : List ℕ) → IsBetween 16 22 (first_fault (header_checks ++ image_checks) bytes)
unfolding header_checks
of_header bytes = numbers 16 22 (header_checks ++ image_checks) bytes refl

of_assembly : (bytes : List ℕ)
    → IsBetween 30 51 (first_fault (metadata_checks (metadata_of bytes) ++ body_checks (metadata_of bytes)) bytes)
unfolding metadata_checks
of_assembly bytes = numbers 30 51 (metadata_checks (metadata_of bytes) ++ body_checks (metadata_of bytes)) bytes refl

of_own : (rows : ℕ) (bytes : List ℕ) → IsBetween 60 66 (first_fault (own_checks rows) bytes)
of_own rows bytes = numbers 60 66 (own_checks rows) bytes refl

-- ---- the lower of two

later : (f g : Fault) → f.check ≤ g.check → lower (Some f) (Some g) ≡ Some f
later f g le = ap (λ b. cond b (Some g) (Some f)) (le-ltb g.check f.check le)

earlier : (f g : Fault) → g.check < f.check → lower (Some f) (Some g) ≡ Some g
earlier f g lt = ap (λ b. cond b (Some g) (Some f)) (lt-ltb g.check f.check lt)

after_all : (f : Fault) (own : Option Fault) → IsBetween 60 66 own → f.check ≤ 51 → Some f ≡ lower (Some f) own
after_all f None b le = refl
after_all f (Some g) b le = sym (later f g (omega (arith, b.0, le)))

-- the four parts of the checks by their faults: where no header of PE fails and the assembly is refused, own checks are of
-- higher numbers
lowest : (pe header assembly : Option Fault) (own : ℕ → Option Fault) (rows : ℕ)
    → IsBetween 1 14 pe → IsBetween 16 22 header → IsBetween 30 51 assembly → ((n : ℕ) → IsBetween 60 66 (own n))
    → or_fault pe (or_fault header (or_fault assembly (own rows)))
    ≡ lower (or_fault pe assembly) (or_fault header (own (rows_asked (or_fault pe assembly) rows)))
lowest None header None own rows p h a o = refl
lowest None (Some h) (Some a) own rows p hs ms o = sym (earlier a h (omega (arith, hs.1, ms.0)))
lowest None None (Some a) own rows p hs ms o = after_all a (own 16777215) (o 16777215) ms.1
lowest (Some p) (Some h) assembly own rows ps hs ms o = sym (later p h (omega (arith, ps.1, hs.0)))
lowest (Some p) None assembly own rows ps hs ms o = after_all p (own 16777215) (o 16777215) (omega (arith, ps.1))

-- ---- of a file

assembly_parts : (bytes : List ℕ) → first_fault (assembly_checks bytes) bytes
    ≡ or_fault (first_fault pe_checks bytes) (first_fault (metadata_checks (metadata_of bytes) ++ body_checks (metadata_of bytes)) bytes)
unfolding assembly_checks
assembly_parts bytes = joined pe_checks (metadata_checks (metadata_of bytes) ++ body_checks (metadata_of bytes)) bytes

image_parts : (rows : ℕ) (bytes : List ℕ) → first_fault (rtr_checks rows) bytes
    ≡ or_fault (first_fault (header_checks ++ image_checks) bytes) (first_fault (own_checks rows) bytes)
unfolding rtr_checks
image_parts rows bytes =
    ap (λ (cs : List Check). first_fault cs bytes) (sym (append_assoc header_checks image_checks (own_checks rows)))
    ∙ joined (header_checks ++ image_checks) (own_checks rows) bytes

all_parts : (bytes : List ℕ) → file_fault bytes
    ≡ or_fault (first_fault pe_checks bytes) (or_fault (first_fault (header_checks ++ image_checks) bytes)
    (or_fault (first_fault (metadata_checks (metadata_of bytes) ++ body_checks (metadata_of bytes)) bytes)
    (first_fault (own_checks (method_rows bytes)) bytes)))
unfolding dump_checks
all_parts bytes =
    let m = metadata_checks (metadata_of bytes) ++ body_checks (metadata_of bytes) in
    let own = own_checks (method_rows bytes) in
    let h = header_checks ++ image_checks in
    joined pe_checks (h ++ (m ++ own)) bytes
    ∙ ap (or_fault (first_fault pe_checks bytes)) (joined h (m ++ own) bytes
    ∙ ap (or_fault (first_fault h bytes)) (joined m own bytes))

pub lower_is : (bytes : List ℕ) → file_fault bytes ≡ lower (first_fault (assembly_checks bytes) bytes) (image_fault bytes)
lower_is bytes =
    let m = metadata_checks (metadata_of bytes) ++ body_checks (metadata_of bytes) in
    let own = λ (n : ℕ). first_fault (own_checks n) bytes in
    all_parts bytes
    ∙ lowest (first_fault pe_checks bytes) (first_fault (header_checks ++ image_checks) bytes) (first_fault m bytes) own (method_rows bytes)
    (of_pe bytes) (of_header bytes) (of_assembly bytes) (λ n. of_own n bytes)
    ∙ rw (assembly_parts bytes) (ap (lower (or_fault (first_fault pe_checks bytes) (first_fault m bytes)))
    (sym (image_parts (rows_asked (or_fault (first_fault pe_checks bytes) (first_fault m bytes)) (method_rows bytes)) bytes)))

abbrev by_assembly : List ℕ → Option Fault → Option Fault
by_assembly bytes assembly = lower assembly (first_fault (rtr_checks (rows_asked assembly (method_rows bytes))) bytes)

-- where the assembly is refused
pub refused_is : (bytes : List ℕ) (f : Fault) → first_fault (assembly_checks bytes) bytes ≡ Some f
    → file_fault bytes ≡ lower (Some f) (first_fault (rtr_checks 16777215) bytes)
refused_is bytes f e = lower_is bytes ∙ ap (by_assembly bytes) e

-- where it is read
read_is : (bytes : List ℕ) → first_fault (assembly_checks bytes) bytes ≡ None
    → file_fault bytes ≡ first_fault (rtr_checks (method_rows bytes)) bytes
read_is bytes e = lower_is bytes ∙ ap (by_assembly bytes) e

pub read_with : (bytes assembly : List ℕ) (rows : ℕ) → assembly ≡ bytes → rows ≡ row_count (assembly_of assembly) tables.MethodDef
    → first_fault (assembly_checks bytes) bytes ≡ None → file_fault bytes ≡ first_fault (rtr_checks rows) bytes
read_with bytes assembly rows same count none =
    let rows_are : method_rows bytes ≡ rows =
    sym (count ∙ ap (λ (file : List ℕ). row_count (assembly_of file) tables.MethodDef) same) in
    read_is bytes none ∙ ap (λ (n : ℕ). first_fault (rtr_checks n) bytes) rows_are

-- where the PE headers are refused
pub first_of_pe : (bytes : List ℕ) (e : ReadRefusal) → RefusedBy (first_fault pe_checks bytes) e → RefusedBy (file_fault bytes) e
unfolding dump_checks
first_of_pe bytes (refusals.Malformed f) h =
    first_fault-append_some pe_checks ((header_checks ++ image_checks)
    ++ ((metadata_checks (metadata_of bytes) ++ body_checks (metadata_of bytes)) ++ own_checks (method_rows bytes))) bytes f h
first_of_pe bytes refusals.NoMemory h = tt
