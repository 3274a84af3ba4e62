use Rattle.std.proofs.Common.{◌≡◌, ◌∷◌, [], ◌++◌, ◌∙◌, ℕ, List, length, ap, sym, subst, arith}
use Rattle.asm_builder.specs.Asked.{Asked, with_user_string}
use Rattle.asm_builder.specs.Cells.{user_heap}
use Rattle.asm_builder.specs.Sound.{IsSound}
use Rattle.asm_builder.proofs.Strings.{heap_more, length-string, room_for}
use Rattle.asm_builder.proofs.builder.Builder.user_string.Goals as goal

pub user_string_len-requires : goal.user_string_len-requires
user_string_len-requires c =
    let room = room_for c.args.self.now c.args.units.now c.requires.sound.small in
    let own = length-string c.args.units.now in
    omega (arith, room, own)

pub overflow_add-self : goal.overflow_add-self
overflow_add-self c =
    let room = room_for c.args.self.now c.args.units.now c.requires.sound.small in
    let own = length-string c.args.units.now in
    let is = c.self.invariant.0 in
    let view = ap (λ (a : Asked). length (user_heap a.user_strings)) c.self.view_is in
    let len = c.user_string_len.ensures in
    omega (arith, room, own, is, view, len)

pub overflow_add-result : goal.overflow_add-result
overflow_add-result c =
    let room = room_for c.args.self.now c.args.units.now c.requires.sound.small in
    let is = c.self.invariant.0 in
    let view = ap (λ (a : Asked). length (user_heap a.user_strings)) c.self.view_is in
    omega (arith, room, is, view)

pub invariant_of-self-2 : goal.invariant_of-self-2
invariant_of-self-2 c =
    let before : List (List ℕ) = c.self.inside.user_strings.items in
    let same : c.from_vec.result ≡ c.args.units.now =
    c.from_vec.ensures ∙ c.in_ok-extend_from_slice.ensures.items ∙ ap (λ (l : List ℕ). l ++ c.args.units.now) c.new-list.ensures.items in
    let items : c.push.new.self.items ≡ c.self.inside.user_strings.items ++ c.args.units.now ∷ [] =
    c.in_ok-push.ensures.items ∙ ap (λ (u : List ℕ). c.self.inside.user_strings.items ++ u ∷ []) same in
    let sum = heap_more c.self.inside.user_strings.items c.args.units.now in
    let own = length-string c.args.units.now in
    let all = ap (λ (l : List (List ℕ)). length (user_heap l)) items in
    let is = c.self.invariant.0 in
    let len = c.user_string_len.ensures in
    let sound = subst (λ (a : Asked). IsSound (with_user_string a c.args.units.now)) (sym c.self.view_is) c.requires.sound in (
      omega (arith, sum, own, all, is, len),
      subst (λ (l : List (List ℕ)). IsSound (record {
        name = c.self.inside.name;
        assembly_refs = c.self.inside.assembly_refs.items;
        type_refs = c.self.inside.type_refs.items;
        type_defs = c.self.inside.type_defs.items;
        fields = c.self.inside.fields.items;
        methods = c.self.inside.methods.items;
        member_refs = c.self.inside.member_refs.items;
        user_strings = l;
        attributes = c.self.inside.attributes.items;
      })) (sym items) sound,
    )
