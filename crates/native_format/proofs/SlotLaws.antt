-- Lists of slots and the numbers that spell them.
use Rattle.std.proofs.Common.{◌≡◌, ◌⊎◌, ℕ, zero, suc, ◌+◌, ◌*◌, ◌-◌, ◌^◌, ◌<◌, ◌≤◌, Bool, true, false, cond, eqb, ltb, List, [], ◌∷◌, ◌++◌}
use Rattle.std.proofs.Common.{length, get_or, take, drop, Option, Some, None, Result, Ok, Err, refl, sym, ap, subst, ◌∙◌, append_assoc}
use Rattle.std.proofs.Common.{arith, inl, inr}
use Rattle.std.specs.Option.{option_map}
use Rattle.std.specs.Result.{IfOk}
use Rattle.std.specs.List.{flat_map, AllByRecursion}
use Rattle.std.specs.Global.{Vec}
use Rattle.std.proofs.lemmas.Bool.{eq-eqb, ne_eqb, lt-ltb, le-ltb, ltb-true, and_parts, and_right}
use Rattle.std.proofs.lemmas.List.{append-nil, drop_more, drop_all, drop-drop, length-append, length-drop, take_rest}
use Rattle.std.proofs.lemmas.Grind.{flat_map-append}
use Rattle.std.proofs.lemmas.Option.{none-some, same_Some}
use Rattle.native_format.specs.declared.nibbles.SlotRef.{SlotRef}
use Rattle.native_format.specs.declared.nibbles.ListRefusal.{ListRefusal}
use Rattle.native_format.specs.Nibbles.{nibbles, numbers, numbers_between, numbers_after_slot, numbers_of, Precedes, AscendFrom, IsSlotList}
use Rattle.native_format.specs.Nibbles.{FitsWords, BeginsWithList, fits_words, with_first, at_slot, slots_behind, slots_of, list_at}
use Rattle.native_format.specs.Nibbles.{GivesList, groups, list_bytes, list_nibbles, numbers_len}
use Rattle.native_format.specs.NibbleSteps.{GivesNext, IsLost, ReadsSlot, Unread, list_end, nibble_after, numbers_for, numbers_from}
use Rattle.native_format.specs.NibbleSteps.{numbers_left, slots_from}
use Rattle.native_format.proofs.NibbleLaws.{after_both, group_one, length-nibbles, nibbles-append, nibbles-drop, nibbles_packed}
use Rattle.native_format.proofs.NibbleLaws.{numbers_written, written_are}

abbrev Slots : Type 0
Slots = List SlotRef

-- ---- one slot before others

pub first_fits : (r : SlotRef) (rs : Slots) → FitsWords r → with_first r (Some rs) ≡ Some (r ∷ rs)
first_fits r rs h = rw (lt-ltb r.section (2 ^ 32) h.0, lt-ltb r.slot (2 ^ 32) h.1) refl

pub first_is : (r : SlotRef) (others : Option Slots) → FitsWords r → with_first r others ≡ option_map (λ rs. r ∷ rs) others
first_is r others h = rw (lt-ltb r.section (2 ^ 32) h.0, lt-ltb r.slot (2 ^ 32) h.1) refl

pub section_wide : (r : SlotRef) (others : Option Slots) → 2 ^ 32 ≤ r.section → with_first r others ≡ None
section_wide r others h = rw (le-ltb r.section (2 ^ 32) h) refl

pub slot_wide : (r : SlotRef) (others : Option Slots) → 2 ^ 32 ≤ r.slot → with_first r others ≡ None
slot_wide r others h = rw (and_right (ltb r.section (2 ^ 32)) (ltb r.slot (2 ^ 32)) (le-ltb r.slot (2 ^ 32) h)) refl

record Fronted (r : SlotRef) (others : Option Slots) (list : Slots) : Type 0 where
  pub fits : FitsWords r
  pub rest : Slots
  pub others_are : others ≡ Some rest
  pub list_is : r ∷ rest ≡ list

fronted : (r : SlotRef) (others : Option Slots) (list : Slots) → with_first r others ≡ Some list → Fronted r others list
fronted r others list e = go (fits_words r) others refl e where
  go : (b : Bool) (o : Option Slots) → fits_words r ≡ b → cond b (option_map (λ rs. r ∷ rs) o) None ≡ Some list → Fronted r o list
  go false o is e = absurd (none-some list e)
  go true None is e = absurd (none-some list e)
  go true (Some rs) is e =
      let parts = and_parts (ltb r.section (2 ^ 32)) (ltb r.slot (2 ^ 32)) is in
      record { fits = (ltb-true _ _ parts.0, ltb-true _ _ parts.1); rest = rs; others_are = refl; list_is = same_Some (r ∷ rs) list e }

-- ---- a distance above 0

pub behind_slot : (last : SlotRef) (d : ℕ) (ns : List ℕ) → 0 < d
    → slots_behind last (d ∷ ns) ≡ with_first (at_slot last.section (last.slot + d))
    (slots_behind (at_slot last.section (last.slot + d)) ns)
unfolding slots_behind
behind_slot last zero ns h = absurd (omega arith)
behind_slot last (suc d) ns h = refl

pub behind_section : (last : SlotRef) (d slot : ℕ) (ns : List ℕ) → 0 < d
    → slots_behind last (0 ∷ d ∷ slot ∷ ns) ≡ with_first (at_slot (last.section + d) slot)
    (slots_behind (at_slot (last.section + d) slot) ns)
unfolding slots_behind
behind_section last zero slot ns h = absurd (omega arith)
behind_section last (suc d) slot ns h = refl

-- what was read, and what is read after it
abbrev pub with_front : Slots → Option Slots → Option Slots
with_front front others = option_map (λ rs. front ++ rs) others

pub front_more : (front : Slots) (r : SlotRef) (others : Option Slots)
    → with_front front (option_map (λ rs. r ∷ rs) others) ≡ with_front (front ++ r ∷ []) others
front_more front r None = refl
front_more front r (Some rs) = ap (λ (l : Slots). Some l) (sym (append_assoc front (r ∷ []) rs))

pub front_none : (others : Option Slots) → with_front [] others ≡ others
front_none None = refl
front_none (Some rs) = refl

-- ---- what is spelled is read

all_behind : (last : SlotRef) (list : Slots) (behind : List ℕ) → AscendFrom last list → AllByRecursion FitsWords list
    → slots_behind last (numbers_after_slot last list ++ behind) ≡ Some list
unfolding slots_behind numbers_after_slot
all_behind last [] behind ascend fit = refl
all_behind last (r ∷ rs) behind (inl lower, ascend) fit =
    let apart : eqb r.section last.section ≡ false = ne_eqb _ _ (λ e. omega (arith, e)) in
    let sum : last.section + (r.section - last.section) ≡ r.section = omega arith in
    rw apart
    (behind_section last (r.section - last.section) r.slot (numbers_after_slot r rs ++ behind) (omega arith)
    ∙ rw sum (ap (with_first r) (all_behind r rs behind ascend fit.1) ∙ first_fits r rs fit.0))
all_behind last (r ∷ rs) behind (inr same, ascend) fit =
    let equal : eqb r.section last.section ≡ true = eq-eqb _ _ (sym same.0) in
    let sum : last.slot + (r.slot - last.slot) ≡ r.slot = omega (arith, same.1) in
    let section : last.section ≡ r.section = same.0 in
    rw equal
    (behind_slot last (r.slot - last.slot) (numbers_after_slot r rs ++ behind) (omega (arith, same.1))
    ∙ rw (sum, section) (ap (with_first r) (all_behind r rs behind ascend fit.1) ∙ first_fits r rs fit.0))

pub all_of : (list : Slots) (behind : List ℕ) → IsSlotList list → AllByRecursion FitsWords list
    → slots_of (numbers_of list ++ behind) ≡ Some list
unfolding slots_of numbers_of
all_of [] behind ascend fit = absurd ascend
all_of (r ∷ rs) behind ascend fit = ap (with_first r) (all_behind r rs behind ascend fit.1) ∙ first_fits r rs fit.0

-- ---- what is read is spelled

record Behind (last : SlotRef) (list : Slots) (ns : List ℕ) : Type 0 where
  pub ascend : AscendFrom last list
  pub behind : List ℕ
  pub spelled : ns ≡ numbers_after_slot last list ++ behind

read_behind : (last : SlotRef) (ns : List ℕ) (list : Slots) → slots_behind last ns ≡ Some list → Behind last list ns
unfolding slots_behind numbers_after_slot
read_behind last [] list e = absurd (none-some list e)
read_behind last (zero ∷ []) list e = absurd (none-some list e)
read_behind last (zero ∷ zero ∷ ns) list e =
    subst (λ (l : Slots). Behind last l (zero ∷ zero ∷ ns)) (same_Some [] list e) (record { ascend = tt; behind = ns; spelled = refl })
read_behind last (zero ∷ suc d ∷ []) list e = absurd (none-some list e)
read_behind last (zero ∷ suc d ∷ slot ∷ ns) list e =
    let r = at_slot (last.section + suc d) slot in
    let f = fronted r (slots_behind r ns) list e in
    let b = read_behind r ns f.rest f.others_are in
    let apart : eqb (last.section + suc d) last.section ≡ false = ne_eqb _ _ (λ e. omega (arith, e)) in
    let distance : last.section + suc d - last.section ≡ suc d = omega arith in
    subst (λ (l : Slots). Behind last l (zero ∷ suc d ∷ slot ∷ ns)) f.list_is (record {
      ascend = (inl (omega arith), b.ascend);
      behind = b.behind;
      spelled = rw (apart, distance) (ap (λ (t : List ℕ). zero ∷ suc d ∷ slot ∷ t) b.spelled);
    })
read_behind last (suc d ∷ ns) list e =
    let r = at_slot last.section (last.slot + suc d) in
    let f = fronted r (slots_behind r ns) list e in
    let b = read_behind r ns f.rest f.others_are in
    let equal : eqb last.section last.section ≡ true = eq-eqb _ _ refl in
    let distance : last.slot + suc d - last.slot ≡ suc d = omega arith in
    subst (λ (l : Slots). Behind last l (suc d ∷ ns)) f.list_is (record {
      ascend = (inr (refl, omega arith), b.ascend);
      behind = b.behind;
      spelled = rw (equal, distance) (ap (λ (t : List ℕ). suc d ∷ t) b.spelled);
    })

read_numbers : (bytes ns : List ℕ) (list : Slots) → numbers (nibbles bytes) ≡ ns → slots_of ns ≡ Some list → BeginsWithList bytes list
unfolding slots_of numbers_of
read_numbers bytes [] list is e = absurd (none-some list e)
read_numbers bytes (section ∷ []) list is e = absurd (none-some list e)
read_numbers bytes (section ∷ slot ∷ ns) list is e =
    let r = at_slot section slot in
    let f = fronted r (slots_behind r ns) list e in
    let b = read_behind r ns f.rest f.others_are in
    subst (λ (l : Slots). BeginsWithList bytes l) f.list_is
    (record { ascending = b.ascend; behind = b.behind; spelled = is ∙ ap (λ (t : List ℕ). section ∷ slot ∷ t) b.spelled })

pub read_list : (bytes : List ℕ) (list : Slots) → slots_of (numbers (nibbles bytes)) ≡ Some list → BeginsWithList bytes list
read_list bytes list e = read_numbers bytes (numbers (nibbles bytes)) list refl e

pub is_found : (bytes : List ℕ) (at : ℕ) (r : Result (Vec SlotRef) ListRefusal) → GivesList r (list_at bytes at)
    → IfOk r (λ v. BeginsWithList (drop at bytes) v.items)
is_found bytes at (Ok v) e = read_list (drop at bytes) v.items e
is_found bytes at (Err e) given = tt

pub is_read : (bytes : List ℕ) (at : ℕ) (list : Slots) → AllByRecursion FitsWords list → BeginsWithList (drop at bytes) list
    → list_at bytes at ≡ Some list
is_read bytes at list fit h = ap slots_of h.spelled ∙ all_of list h.behind h.ascending fit

-- ---- what is written is spelled, whatever follows

pub is_written : (list : Slots) (rest : List ℕ) → IsSlotList list → BeginsWithList (list_bytes list ++ rest) list
is_written list rest ascending =
    let ns = flat_map groups (numbers_of list) in
    let p = nibbles_packed ns (written_are (numbers_of list)) in
    let whole : nibbles (list_bytes list ++ rest) ≡ ns ++ (p.0 ++ nibbles rest) =
    nibbles-append (list_bytes list) rest ∙ ap (λ (t : List ℕ). t ++ nibbles rest) p.1 ∙ append_assoc ns p.0 (nibbles rest) in
    record {
      ascending = ascending;
      behind = numbers (p.0 ++ nibbles rest);
      spelled = ap numbers whole
          ∙ numbers_written (numbers_of list) (p.0 ++ nibbles rest);
    }

-- ---- the parts of the reader

lost_or_cut : (ns : List ℕ) → IsLost ns → (ns ≡ []) ⊎ ((v : ℕ) × (rest : List ℕ) × (ns ≡ v ∷ rest) × (2 ^ 32 ≤ v))
lost_or_cut [] h = inl refl
lost_or_cut (v ∷ rest) h = inr (v, rest, refl, h)

pub no_section : (ns : List ℕ) → IsLost ns → slots_of ns ≡ None
unfolding slots_of
no_section [] h = refl
no_section (section ∷ []) h = refl
no_section (section ∷ slot ∷ ns) h = section_wide (at_slot section slot) (slots_behind (at_slot section slot) ns) h

pub no_slot : (section : ℕ) (ns : List ℕ) → IsLost ns → slots_of (section ∷ ns) ≡ None
unfolding slots_of
no_slot section [] h = refl
no_slot section (slot ∷ ns) h = slot_wide (at_slot section slot) (slots_behind (at_slot section slot) ns) h

pub slot_sum_wide : (last : SlotRef) (d : ℕ) (ns : List ℕ) → 0 < d → 2 ^ 32 ≤ last.slot + d → slots_behind last (d ∷ ns) ≡ None
slot_sum_wide last d ns some h =
    behind_slot last d ns some ∙ slot_wide (at_slot last.section (last.slot + d)) (slots_behind (at_slot last.section (last.slot + d)) ns) h

pub no_distance : (last : SlotRef) (ns : List ℕ) → IsLost ns → slots_behind last ns ≡ None
unfolding slots_behind
no_distance last [] h = refl
no_distance last (v ∷ ns) h = slot_sum_wide last v ns (omega arith) (omega arith)

pub section_sum_wide : (last : SlotRef) (d : ℕ) (ns : List ℕ) → 0 < d → 2 ^ 32 ≤ last.section + d → slots_behind last (0 ∷ d ∷ ns) ≡ None
unfolding slots_behind
section_sum_wide last zero ns some h = absurd (omega arith)
section_sum_wide last (suc d) [] some h = refl
section_sum_wide last (suc d) (slot ∷ ns) some h =
    section_wide (at_slot (last.section + suc d) slot) (slots_behind (at_slot (last.section + suc d) slot) ns) h

pub no_section_distance : (last : SlotRef) (ns : List ℕ) → IsLost ns → slots_behind last (0 ∷ ns) ≡ None
unfolding slots_behind
no_section_distance last [] h = refl
no_section_distance last (v ∷ ns) h = section_sum_wide last v ns (omega arith) (omega arith)

pub no_first_slot : (last : SlotRef) (d : ℕ) (ns : List ℕ) → 0 < d → IsLost ns → slots_behind last (0 ∷ d ∷ ns) ≡ None
unfolding slots_behind
no_first_slot last zero ns some h = absurd (omega arith)
no_first_slot last (suc d) [] some h = refl
no_first_slot last (suc d) (slot ∷ ns) some h =
    slot_wide (at_slot (last.section + suc d) slot) (slots_behind (at_slot (last.section + suc d) slot) ns) h

pub ends_here : (last : SlotRef) (ns : List ℕ) → slots_behind last (0 ∷ 0 ∷ ns) ≡ Some []
unfolding slots_behind
ends_here last ns = refl

pub reads : (bytes : List ℕ) (list : Option Slots) (last : Option SlotRef) (start at n : ℕ) (slot : SlotRef) → start < at
    → at ≤ 2 * length bytes → FitsWords slot → list ≡ with_first slot (slots_behind slot (numbers_from bytes at))
    → numbers_for last slot ≡ n → at ≡ nibble_after n bytes start → ReadsSlot bytes list last start slot at
reads bytes list last start at n slot further within fit is count after =
    record {
      further = further;
      within = within;
      list_is = is ∙ first_is slot (slots_behind slot (numbers_from bytes at)) fit;
      after_is = after ∙ ap (λ k. nibble_after k bytes start) (sym count);
    }

pub one_number : (last : SlotRef) (slot : ℕ) → numbers_for (Some last) (at_slot last.section slot) ≡ 1
one_number last slot = rw (eq-eqb last.section last.section refl) refl

pub three_numbers : (last : SlotRef) (d slot : ℕ) → 0 < d → numbers_for (Some last) (at_slot (last.section + d) slot) ≡ 3
three_numbers last d slot some = rw (ne_eqb (last.section + d) last.section (λ e. omega (arith, e))) refl

-- ---- where a list ends

left_after : (last : SlotRef) (list : Slots) → numbers_left (Some last) list ≡ length (numbers_after_slot last list)
unfolding numbers_after_slot
left_after last [] = refl
left_after last (r ∷ rs) = omega (arith, left_after r rs, length-append (numbers_between last r) (numbers_after_slot r rs))

left_all : (r : SlotRef) (rs : Slots) → numbers_left None (r ∷ rs) ≡ length (numbers_of (r ∷ rs))
unfolding numbers_of
left_all r rs = omega (arith, left_after r rs)

pub begins : (bytes : List ℕ) (at : ℕ)
    → list_end (record { last = None; stream = drop (2 * at) (nibbles bytes); place = 2 * at; reached = 2 * at }) ≡ option_map
    (λ n. 2 * at + n) (list_nibbles bytes at)
begins bytes at =
    let ends : List ℕ → Option ℕ =
    λ ns. option_map (λ (list : Slots). 2 * at + numbers_len (numbers_left None list) ns) (slots_of (numbers ns)) in
    ap ends (nibbles-drop at bytes) ∙ go (list_at bytes at) refl where
      go : (o : Option Slots) → list_at bytes at ≡ o
          → option_map (λ (list : Slots). 2 * at + numbers_len (numbers_left None list) (nibbles (drop at bytes))) o ≡ option_map
          (λ n. 2 * at + n) (option_map (λ (list : Slots). numbers_len (length (numbers_of list)) (nibbles (drop at bytes))) o)
      go None is = refl
      go (Some []) is = absurd (BeginsWithList.ascending (read_list (drop at bytes) [] is))
      go (Some (r ∷ rs)) is = ap (λ k. Some (2 * at + numbers_len k (nibbles (drop at bytes)))) (left_all r rs)

-- the reader before and after a slot
abbrev pub at_nibble : List ℕ → Option SlotRef → ℕ → ℕ → Unread
at_nibble bytes last place reached = record { last = last; stream = drop place (nibbles bytes); place = place; reached = reached }

ends_alike : (bytes : List ℕ) (last : Option SlotRef) (place after : ℕ) (slot : SlotRef) (old new : Option Slots)
    → after ≡ nibble_after (numbers_for last slot) bytes place → old ≡ option_map (λ slots. slot ∷ slots) new
    → option_map (λ slots. nibble_after (numbers_left (Some slot) slots) bytes after) new ≡ option_map
    (λ slots. nibble_after (numbers_left last slots) bytes place) old
ends_alike bytes last place after slot old None there first = rw first refl
ends_alike bytes last place after slot old (Some slots) there first =
    rw first
    (ap (λ n. Some n)
    (after_both bytes place after (nibble_after (numbers_left (Some slot) slots) bytes after) (numbers_for last slot)
    (numbers_left (Some slot) slots) there refl))

pub gives_next : (bytes : List ℕ) (last : Option SlotRef) (place reached after : ℕ) (slot : SlotRef)
    → ReadsSlot bytes (slots_from last (numbers_from bytes place)) last place slot after
    → GivesNext slot (at_nibble bytes last place reached) (at_nibble bytes (Some slot) after after)
gives_next bytes last place reached after slot read =
    let n = numbers_len (numbers_for last slot) (drop place (nibbles bytes)) in
    record {
      first = read.list_is;
      further = ap (λ a. at_nibble bytes (Some slot) a a) read.after_is
          ∙ ap (λ (s : List ℕ). record { last = Some slot; stream = s; place = place + n; reached = place + n })
          (sym (drop-drop n place (nibbles bytes)));
      fewer =
          omega (
            arith,
            read.further,
            read.within,
            length-nibbles bytes,
            length-drop after (nibbles bytes),
            length-drop place (nibbles bytes),
          );
      same_end = ends_alike bytes last place after slot (slots_from last (numbers_from bytes place))
          (slots_behind slot (numbers_from bytes after)) read.after_is read.list_is;
    }

-- the list from a place on, by its nibbles
pub list_from_nibble : (bytes : List ℕ) (at : ℕ) → slots_of (numbers_from bytes (2 * at)) ≡ list_at bytes at
list_from_nibble bytes at = ap (λ (ns : List ℕ). slots_of (numbers ns)) (nibbles-drop at bytes)

pub slots_of_two : (section slot : ℕ) (ns : List ℕ)
    → slots_of (section ∷ slot ∷ ns) ≡ with_first (at_slot section slot) (slots_behind (at_slot section slot) ns)
unfolding slots_of
slots_of_two section slot ns = refl

-- two numbers and what is after them
pub same_two : {a b : ℕ} (all some behind : List ℕ) (m n : ℕ) → a ≡ m → b ≡ n → all ≡ a ∷ some → some ≡ b ∷ behind → all ≡ m ∷ n ∷ behind
same_two {a} {b} all some behind m n p q e f = rw (e, f, p, q) refl

-- ---- the loop of the reader

pub starts : (bytes : List ℕ) (at : ℕ) (front : Slots) (left : Option Slots) → front ≡ [] → left ≡ list_at bytes at
    → with_front front left ≡ list_at bytes at
starts bytes at front left none is = rw none (front_none left ∙ is)

pub more : (front list : Slots) (slot : SlotRef) (old new all : Option Slots) → list ≡ front ++ slot ∷ []
    → old ≡ option_map (λ slots. slot ∷ slots) new → with_front front old ≡ all → with_front list new ≡ all
more front list slot old new all is first e = rw is (sym (front_more front slot new) ∙ ap (with_front front) (sym first) ∙ e)

pub refused : (front : Slots) (others all : Option Slots) → others ≡ None → with_front front others ≡ all → all ≡ None
refused front others all none e = sym e ∙ ap (with_front front) none

pub complete : (front : Slots) (others all : Option Slots) → others ≡ Some [] → with_front front others ≡ all → all ≡ Some front
complete front others all ended e = sym e ∙ ap (with_front front) ended ∙ ap (λ (l : Slots). Some l) (append-nil front)

-- ---- the loop of the writer

pub in_order : (last : SlotRef) (list : Slots) (i : ℕ) (slot d : SlotRef) → i < length list → slot ≡ get_or list i d
    → AscendFrom last (drop i list) → Precedes last slot × AscendFrom slot (drop (i + 1) list)
in_order last list i slot d lt is h =
    let next : drop i list ≡ slot ∷ drop (i + 1) list = drop_more list i d lt ∙ ap (λ (r : SlotRef). r ∷ drop (i + 1) list) (sym is) in
    subst (AscendFrom last) next h

-- what was put, and what is put after it, are all
pub put_one : (old new all : List ℕ) (last : SlotRef) (list : Slots) (i : ℕ) (slot d : SlotRef) → i < length list → slot ≡ get_or list i d
    → new ≡ old ++ flat_map groups (numbers_between last slot) → old ++ flat_map groups (numbers_after_slot last (drop i list)) ≡ all
    → new ++ flat_map groups (numbers_after_slot slot (drop (i + 1) list)) ≡ all
unfolding numbers_after_slot
put_one old new all last list i slot d lt is new-is e =
    let next : drop i list ≡ slot ∷ drop (i + 1) list = drop_more list i d lt ∙ ap (λ (r : SlotRef). r ∷ drop (i + 1) list) (sym is) in
    let others = numbers_after_slot slot (drop (i + 1) list) in
    let split : flat_map groups (numbers_after_slot last (drop i list)) ≡ flat_map groups (numbers_between last slot) ++ flat_map groups
    others =
    ap (λ (l : Slots). flat_map groups (numbers_after_slot last l)) next ∙ flat_map-append groups (numbers_between last slot) others in
    ap (λ (l : List ℕ). l ++ flat_map groups others) new-is ∙ append_assoc old _ _ ∙ ap (λ (l : List ℕ). old ++ l) (sym split) ∙ e

pub put_last : (old one new all : List ℕ) (last : SlotRef) (list : Slots) (i : ℕ) → length list ≤ i → one ≡ old ++ groups 0
    → new ≡ one ++ groups 0
    → old ++ flat_map groups (numbers_after_slot last (drop i list)) ≡ all → new ≡ all
unfolding numbers_after_slot
put_last old one new all last list i le one-is new-is e =
    let nothing : drop i list ≡ [] = drop_all i list le in
    new-is ∙ ap (λ (l : List ℕ). l ++ groups 0) one-is ∙ append_assoc old (groups 0) (groups 0)
    ∙ ap (λ (l : List ℕ). old ++ (groups 0 ++ l)) (sym (append-nil (groups 0)))
    ∙ ap (λ (l : Slots). old ++ flat_map groups (numbers_after_slot last l)) (sym nothing) ∙ e

pub some_slot : (list : Slots) → IsSlotList list → 1 ≤ length list
some_slot [] h = absurd h
some_slot (r ∷ rs) h = omega arith

pub first_and_others : (list : Slots) (first d : SlotRef) → first ≡ get_or list 0 d → IsSlotList list → list ≡ first ∷ drop 1 list
first_and_others [] first d is h = absurd h
first_and_others (r ∷ rs) first d is h = ap (λ (x : SlotRef). x ∷ rs) (sym is)

pub others_ascend : (list : Slots) (first d : SlotRef) → first ≡ get_or list 0 d → IsSlotList list → AscendFrom first (drop 1 list)
others_ascend list first d is h = subst IsSlotList (first_and_others list first d is h) h

pub put_all : (list : Slots) (first d : SlotRef) (old one two new : List ℕ) → first ≡ get_or list 0 d → IsSlotList list
    → one ≡ old ++ groups first.section → two ≡ one ++ groups first.slot
    → new ≡ two ++ flat_map groups (numbers_after_slot first (take (length list - 1) (drop 1 list)))
    → new ≡ old ++ flat_map groups (numbers_of list)
unfolding numbers_of
put_all list first d old one two new is h one-is two-is new-is =
    let rest = flat_map groups (numbers_after_slot first (drop 1 list)) in
    let whole : old ++ flat_map groups (numbers_of (first ∷ drop 1 list)) ≡ old ++ flat_map groups (numbers_of list) =
    ap (λ (l : Slots). old ++ flat_map groups (numbers_of l)) (sym (first_and_others list first d is h)) in
    new-is ∙ ap (λ (l : Slots). two ++ flat_map groups (numbers_after_slot first l)) (take_rest list 1)
    ∙ ap (λ (l : List ℕ). l ++ rest) two-is ∙ ap (λ (l : List ℕ). (l ++ groups first.slot) ++ rest) one-is ∙ simp append_assoc whole

-- ---- how many nibbles

abbrev count_of : List ℕ → ℕ
count_of numbers = length (flat_map groups numbers)

pub count_one : (last : SlotRef) (list : Slots) (i : ℕ) (slot d : SlotRef) → i < length list → slot ≡ get_or list i d
    → count_of (numbers_after_slot last (drop i list)) ≡ count_of (numbers_between last slot) + count_of
    (numbers_after_slot slot (drop (i + 1) list))
count_one last list i slot d lt is =
    let between = flat_map groups (numbers_between last slot) in
    sym (ap length (put_one [] between (flat_map groups (numbers_after_slot last (drop i list))) last list i slot d lt is refl refl))
    ∙ length-append between (flat_map groups (numbers_after_slot slot (drop (i + 1) list)))

pub count_last : (last : SlotRef) (list : Slots) (i : ℕ) → length list ≤ i → count_of (numbers_after_slot last (drop i list)) ≡ 2
count_last last list i le =
    sym
    (ap length (put_last [] (groups 0) (groups 0 ++ groups 0) (flat_map groups (numbers_after_slot last (drop i list))) last list i le refl
    refl refl))
    ∙ length-append (groups 0) (groups 0) ∙ ap (λ (n : ℕ). n + length (groups 0)) (group_one 0 (omega arith))
    ∙ ap (λ (n : ℕ). 1 + n) (group_one 0 (omega arith))

pub count_all : (list : Slots) (first d : SlotRef) → first ≡ get_or list 0 d → IsSlotList list
    → count_of (numbers_of list) ≡ length (groups first.section) + length (groups first.slot) + count_of
    (numbers_after_slot first (take (length list - 1) (drop 1 list)))
count_all list first d is h =
    let others = flat_map groups (numbers_after_slot first (take (length list - 1) (drop 1 list))) in
    let front = groups first.section ++ groups first.slot in
    sym (ap length (put_all list first d [] (groups first.section) front (front ++ others) is h refl refl refl))
    ∙ length-append front others ∙ ap (λ (n : ℕ). n + length others) (length-append (groups first.section) (groups first.slot))
