-- The pieces of a written file, joined.
use Rattle.std.proofs.Common.{◌≡◌, ℕ, ◌-◌, List, [], ◌∷◌, ◌++◌, length, map, Result, Ok, Err, OnOk, sym, ap, ◌∙◌, append_assoc, append-nil}
use Rattle.std.specs.Prelude.{replicate}
use Rattle.std.specs.List.{flat_map}
use Rattle.std.proofs.lemmas.Grind.{flat_map-append}
use Rattle.pe_image.specs.declared.section.PeSection.{PeSection}
use Rattle.pe_image.specs.declared.values.HeaderValues.{HeaderValues}
use Rattle.pe_image.specs.Places.{aligned, placed_from, end_from}
use Rattle.pe_image.specs.Pieces.{header_bytes, section_bytes, file_of}
use Rattle.pe_image.specs.Raw.{padded, raw_of, raw_parts}
use Rattle.pe_image.proofs.PlacesLemmas.{placed_from-append}

pub headers_joined : (front : List ℕ) (ss more : List PeSection) (first start next len : ℕ) (a b c d e : List ℕ)
    → a ≡ [] → b ≡ a ++ front → c ≡ b ++ flat_map section_bytes (placed_from first ss) → next ≡ end_from first ss
    → d ≡ c ++ flat_map section_bytes (placed_from next more) → len ≡ length d → e ≡ d ++ replicate (aligned 512 len - len) 0
    → first ≡ start
    → e ≡ padded (front ++ flat_map section_bytes (placed_from start (ss ++ more)))
unfolding padded
headers_joined front ss more first start next len a b c d e ea eb ec en ed el ee es =
    let table = flat_map section_bytes (placed_from first ss) in
    let others = flat_map section_bytes (placed_from next more) in
    let whole : table ++ others ≡ flat_map section_bytes (placed_from start (ss ++ more)) =
    ap (λ (t : ℕ). table ++ flat_map section_bytes (placed_from t more)) en
    ∙ sym (flat_map-append section_bytes (placed_from first ss) (placed_from (end_from first ss) more))
    ∙ ap (λ (t : List PeSection). flat_map section_bytes t) (sym (placed_from-append ss more first))
    ∙ ap (λ (t : ℕ). flat_map section_bytes (placed_from t (ss ++ more))) es in
    let b-is : b ≡ front = eb ∙ ap (λ (t : List ℕ). t ++ front) ea in
    let d-is : d ≡ front ++ flat_map section_bytes (placed_from start (ss ++ more)) =
    ed ∙ ap (λ (t : List ℕ). t ++ others) (ec ∙ ap (λ (t : List ℕ). t ++ table) b-is) ∙ append_assoc front table others
    ∙ ap (λ (t : List ℕ). front ++ t) whole in
    ee ∙ ap (λ (t : ℕ). d ++ replicate (aligned 512 t - t) 0) el
    ∙ ap (λ (t : List ℕ). t ++ replicate (aligned 512 (length t) - length t) 0) d-is

pub parts_joined : (v : HeaderValues) (placed sections : List PeSection) (bytes dat cod : List ℕ) (a b c d : List ℕ)
    → a ≡ padded (header_bytes v ++ flat_map section_bytes placed) → b ≡ a ++ flat_map padded (map (raw_of bytes) sections)
    → c ≡ b ++ padded dat → d ≡ c ++ padded cod
    → d ≡ file_of v placed (raw_parts sections bytes dat cod)
unfolding file_of raw_parts
parts_joined v placed sections bytes dat cod a b c d ea eb ec ed =
    let head = padded (header_bytes v ++ flat_map section_bytes placed) in
    let raw = flat_map padded (map (raw_of bytes) sections) in
    let b-is : b ≡ head ++ raw = eb ∙ ap (λ (t : List ℕ). t ++ raw) ea in
    ed ∙ ap (λ (t : List ℕ). t ++ padded cod) (ec ∙ ap (λ (t : List ℕ). t ++ padded dat) b-is)
    ∙ ap (λ (t : List ℕ). t ++ padded cod) (append_assoc head raw (padded dat)) ∙ append_assoc head (raw ++ padded dat) (padded cod)
    ∙ ap (λ (t : List ℕ). head ++ t) (append_assoc raw (padded dat) (padded cod))
    ∙ ap (λ (t : List ℕ). head ++ (raw ++ (padded dat ++ t))) (sym (append-nil (padded cod)))
    ∙ ap (λ (t : List ℕ). head ++ t) (sym (flat_map-append padded (map (raw_of bytes) sections) (dat ∷ cod ∷ [])))

pub on_ok_then : {A E : Type 0} (r : Result A E) (P Q : Type 0) → (P → Q) → OnOk r P → OnOk r Q
on_ok_then (Ok x) P Q f h = f h
on_ok_then (Err e) P Q f h = tt
