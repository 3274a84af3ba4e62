-- Steps of loads and stores as an emulator of the architecture makes them, for each row of the table. Written by scripts/emulate-steps.
use Rattle.std.proofs.Common.{◌≡◌, refl, ℕ, List, [], ◌∷◌}
use Rattle.std.specs.Prelude.{map}
use Rattle.a64_meaning.specs.Step.{step, fetched}
use Rattle.a64_meaning.proofs.Emulating.{b, ran}

store_immediate : map ran (b 0x39000423 (0x80000000 ∷ 0x200015808 ∷ 0x1 ∷ 0x7fffffffffffffff ∷ 0x8000000000000000 ∷ 0xfffffffe ∷ 0x17a3a8394 ∷ 0x80000000 ∷ 0x374db9a1 ∷ []) 0x200010000 7 0x100013ce4 0x200015800
    ∷ b 0x79000405 (0x200015916 ∷ 0xfffffffffffffffe ∷ 0xfa87 ∷ 0xce99106f712e17f6 ∷ 0x23e0709e82c2c4ba ∷ 0x8000000000000000 ∷ 0xffffffff ∷ 0x100000000 ∷ 0xffffffffffffffff ∷ []) 0x200010000 5 0x100013d94 0x200015900
    ∷ b 0xb93ffc24 (0x1661392bd4376fb5 ∷ 0x200011a0f ∷ 0x7fffffff ∷ 0xfffffffe ∷ 0x3132b388cfc3f35a ∷ 0x291be0233c95532 ∷ 0xfffffffffffffffe ∷ 0xb8be7212d75037b1 ∷ 0xcf869269 ∷ []) 0x200010000 15 0x100013e44 0x200015a00
    ∷ b 0xf900001f (0x200015b00 ∷ 0x1fc99ac3 ∷ 0xffffffff ∷ 0xfffffffffffffffe ∷ 0xffffffffffffffff ∷ 0x42898f49 ∷ 0x1243749c ∷ 0x7fffffff ∷ 0x2915d522e99c7e50 ∷ []) 0x200010000 9 0x100013ef4 0x200015b00 ∷ []) ≡
    ((0x80000000 ∷ 0x200015808 ∷ 0x1 ∷ 0x7fffffffffffffff ∷ 0x8000000000000000 ∷ 0xfffffffe ∷ 0x17a3a8394 ∷ 0x80000000 ∷ 0x374db9a1 ∷ 0x200010000 ∷ 0x100013ce8 ∷ 0x7 ∷ 0xc09b76512c07e2bd98734e2904dfba95704b2601dcb7926d4823fed9b48f6a4520fbd6b18c67421df8d3ae89643ffff5d0ab86613c17f2cd ∷ [])
    ∷ (0x200015916 ∷ 0xfffffffffffffffe ∷ 0xfa87 ∷ 0xce99106f712e17f6 ∷ 0x23e0709e82c2c4ba ∷ 0x8000000000000000 ∷ 0xffffffff ∷ 0x100000000 ∷ 0xffffffffffffffff ∷ 0x200010000 ∷ 0x100013d98 ∷ 0x5 ∷ 0xcba6815c3712edc8a37e59340feac5a07b56310ce7c29d78532e09e4bf9a00002b06e1bc97724d2803deb9946f4a2500dbb6916c4722fdd8 ∷ [])
    ∷ (0x1661392bd4376fb5 ∷ 0x200011a0f ∷ 0x7fffffff ∷ 0xfffffffe ∷ 0x3132b388cfc3f35a ∷ 0x291be0233c95532 ∷ 0xfffffffffffffffe ∷ 0xb8be7212d75037b1 ∷ 0xcf869269 ∷ 0x200010000 ∷ 0x100013e48 ∷ 0xf ∷ 0xd6b18c67421df8d3ae89643f1af5d0ab86613c17f2cda8835e3914efcaa5805b3611ecc7a27d58330ecfc3f35a55300be6c19c77522d08e3 ∷ [])
    ∷ (0x200015b00 ∷ 0x1fc99ac3 ∷ 0xffffffff ∷ 0xfffffffffffffffe ∷ 0xffffffffffffffff ∷ 0x42898f49 ∷ 0x1243749c ∷ 0x7fffffff ∷ 0x2915d522e99c7e50 ∷ 0x200010000 ∷ 0x100013ef8 ∷ 0x9 ∷ 0xe1bc97724d2803deb9946f4a2500dbb6916c4722fdd8b38e69441ffad5b08b66411cf7d2ad88633e19f4cfaa85603b160000000000000000 ∷ []) ∷ [])
unfolding step fetched Rattle.a64_meaning.specs.Access.plain_load Rattle.a64_meaning.specs.Access.in_cell Rattle.a64_meaning.specs.Access.is_cell Rattle.a64_meaning.specs.Access.found Rattle.a64_meaning.specs.Access.is_writable Rattle.a64_meaning.specs.Access.load Rattle.a64_meaning.specs.Access.store Rattle.a64_code.specs.Words.instruction Rattle.a64_meaning.specs.Effects.act Rattle.a64_meaning.specs.Numbers.holds Rattle.a64_meaning.specs.Numbers.shifted Rattle.a64_meaning.specs.Numbers.logical Rattle.a64_meaning.specs.Numbers.multiplied Rattle.a64_meaning.specs.Numbers.long_product Rattle.a64_meaning.specs.Numbers.high_product Rattle.a64_meaning.specs.Numbers.quotient Rattle.a64_meaning.specs.Numbers.bit_field Rattle.a64_meaning.specs.Numbers.moved_wide
store_immediate = refl

load_immediate : map ran (b 0x395e801f (0x20001547f ∷ 0x3e587e62054bcbcb ∷ 0x9e7b ∷ 0x1 ∷ 0x8000000000000000 ∷ 0x4 ∷ 0xfffffffffffffffe ∷ 0x487286342ec600e ∷ 0x76c493945bed ∷ []) 0x200010000 3 0x100013fa4 0x200015c00
    ∷ b 0x79400044 (0x1 ∷ 0xffffffffffffffff ∷ 0x200015d06 ∷ 0x100000000 ∷ 0x9780ff20 ∷ 0xab34 ∷ 0x65886209bf1fc521 ∷ 0x0 ∷ 0xb1a16a1b ∷ []) 0x200010000 12 0x100014054 0x200015d00
    ∷ b 0xb9400005 (0x200015e17 ∷ 0xfb314b37d7d0912a ∷ 0xe9ab5979fc5f26b9 ∷ 0x100000000 ∷ 0x53 ∷ 0xae1f39d7f53660b9 ∷ 0xded8 ∷ 0xfffffffe ∷ 0x1 ∷ []) 0x200010000 10 0x100014104 0x200015e00
    ∷ b 0xf97fffe3 (0x100000000 ∷ 0x77ed79ffff5c859d ∷ 0x0 ∷ 0x8 ∷ 0x14409a232 ∷ 0xa0d4f2e345ffb65d ∷ 0x928ca2ceca468e9 ∷ 0x1f27b474402615f6 ∷ 0x3c953f5d6f066429 ∷ []) 0x20000df10 3 0x1000141b4 0x200015f00 ∷ []) ≡
    ((0x20001547f ∷ 0x3e587e62054bcbcb ∷ 0x9e7b ∷ 0x1 ∷ 0x8000000000000000 ∷ 0x4 ∷ 0xfffffffffffffffe ∷ 0x487286342ec600e ∷ 0x76c493945bed ∷ 0x200010000 ∷ 0x100013fa8 ∷ 0x3 ∷ 0xecc7a27d58330ee9c49f7a55300be6c19c77522d08e3be99744f2a05e0bb96714c2702ddb8936e4924ffdab5906b4621fcd7b28d68431ef9 ∷ [])
    ∷ (0x1 ∷ 0xffffffffffffffff ∷ 0x200015d06 ∷ 0x100000000 ∷ 0x7e2 ∷ 0xab34 ∷ 0x65886209bf1fc521 ∷ 0x0 ∷ 0xb1a16a1b ∷ 0x200010000 ∷ 0x100014058 ∷ 0xc ∷ 0xf7d2ad88633e19f4cfaa85603b16f1cca7825d3813eec9a47f5a3510ebc6a17c57320de8c39e79542f0ae5c09b76512c07e2bd98734e2904 ∷ [])
    ∷ (0x200015e17 ∷ 0xfb314b37d7d0912a ∷ 0xe9ab5979fc5f26b9 ∷ 0x100000000 ∷ 0x53 ∷ 0xd1ac8762 ∷ 0xded8 ∷ 0xfffffffe ∷ 0x1 ∷ 0x200010000 ∷ 0x100014108 ∷ 0xa ∷ 0x2ddb8936e4924ffdab5906b4621fcd7b28d68431ef9d4af8a65401bf6d1ac87623d18f3cea9845f3a15f0cba6815c3712edc8a37e59340f ∷ [])
    ∷ (0x100000000 ∷ 0x77ed79ffff5c859d ∷ 0x0 ∷ 0x4520fbd6b18c6742 ∷ 0x14409a232 ∷ 0xa0d4f2e345ffb65d ∷ 0x928ca2ceca468e9 ∷ 0x1f27b474402615f6 ∷ 0x3c953f5d6f066429 ∷ 0x20000df10 ∷ 0x1000141b8 ∷ 0x3 ∷ 0xde8c39e79542f0ae5c09b76512c07e2bd98734e2904dfba95704b2601dcb7926d4823fed9b48f6a4520fbd6b18c67421df8d3ae89643f1a ∷ []) ∷ [])
unfolding step fetched Rattle.a64_meaning.specs.Access.plain_load Rattle.a64_meaning.specs.Access.in_cell Rattle.a64_meaning.specs.Access.is_cell Rattle.a64_meaning.specs.Access.found Rattle.a64_meaning.specs.Access.is_writable Rattle.a64_meaning.specs.Access.load Rattle.a64_meaning.specs.Access.store Rattle.a64_code.specs.Words.instruction Rattle.a64_meaning.specs.Effects.act Rattle.a64_meaning.specs.Numbers.holds Rattle.a64_meaning.specs.Numbers.shifted Rattle.a64_meaning.specs.Numbers.logical Rattle.a64_meaning.specs.Numbers.multiplied Rattle.a64_meaning.specs.Numbers.long_product Rattle.a64_meaning.specs.Numbers.high_product Rattle.a64_meaning.specs.Numbers.quotient Rattle.a64_meaning.specs.Numbers.bit_field Rattle.a64_meaning.specs.Numbers.moved_wide
load_immediate = refl

load_signed_immediate_64 : map ran (b 0x399c5c44 (0xffffffffffffffff ∷ 0xe6c38898 ∷ 0x2000158ff ∷ 0x70a2579425fe05ea ∷ 0x2 ∷ 0x93cce111 ∷ 0x7fffffff ∷ 0x8bdb460abd8b16d7 ∷ 0x7fffffffffffffff ∷ []) 0x200010000 6 0x100014264 0x200016000
    ∷ b 0x79bffc42 (0x7fffffffffffffff ∷ 0x80000000 ∷ 0x20001411f ∷ 0x8000000000000000 ∷ 0x95ef5783f83815f5 ∷ 0xffffffff ∷ 0x7fffffff ∷ 0xffffffff ∷ 0x80000000 ∷ []) 0x200010000 1 0x100014314 0x200016100
    ∷ b 0xb9800000 (0x20001620a ∷ 0x0 ∷ 0x709d198ad596a703 ∷ 0x1 ∷ 0xf594ff78fd43345c ∷ 0x278eba6def175e5d ∷ 0xfffffffe ∷ 0xfffffffe ∷ 0xffffffffffffffff ∷ []) 0x200010000 15 0x1000143c4 0x200016200 ∷ []) ≡
    ((0xffffffffffffffff ∷ 0xe6c38898 ∷ 0x2000158ff ∷ 0x70a2579425fe05ea ∷ 0x53 ∷ 0x93cce111 ∷ 0x7fffffff ∷ 0x8bdb460abd8b16d7 ∷ 0x7fffffffffffffff ∷ 0x200010000 ∷ 0x100014268 ∷ 0x6 ∷ 0x18f3cea9845f3a15f0cba6815c3712edc8a37e59340feac5a07b56310ce7c29d78532e09e4bf9a75502b06e1bc97724d2803deb9946f4a25 ∷ [])
    ∷ (0x7fffffffffffffff ∷ 0x80000000 ∷ 0xffffffffffff8661 ∷ 0x8000000000000000 ∷ 0x95ef5783f83815f5 ∷ 0xffffffff ∷ 0x7fffffff ∷ 0xffffffff ∷ 0x80000000 ∷ 0x200010000 ∷ 0x100014318 ∷ 0x1 ∷ 0x23fed9b48f6a4520fbd6b18c67421df8d3ae89643f1af5d0ab86613c17f2cda8835e3914efcaa5805b3611ecc7a27d58330ee9c49f7a5530 ∷ [])
    ∷ (0x1cf7d2ad ∷ 0x0 ∷ 0x709d198ad596a703 ∷ 0x1 ∷ 0xf594ff78fd43345c ∷ 0x278eba6def175e5d ∷ 0xfffffffe ∷ 0xfffffffe ∷ 0xffffffffffffffff ∷ 0x200010000 ∷ 0x1000143c8 ∷ 0xf ∷ 0x2e09e4bf9a75502b06e1bc97724d2803deb9946f4a2500dbb6916c4722fdd8b38e69441ffad5b08b66411cf7d2ad88633e19f4cfaa85603b ∷ []) ∷ [])
unfolding step fetched Rattle.a64_meaning.specs.Access.plain_load Rattle.a64_meaning.specs.Access.in_cell Rattle.a64_meaning.specs.Access.is_cell Rattle.a64_meaning.specs.Access.found Rattle.a64_meaning.specs.Access.is_writable Rattle.a64_meaning.specs.Access.load Rattle.a64_meaning.specs.Access.store Rattle.a64_code.specs.Words.instruction Rattle.a64_meaning.specs.Effects.act Rattle.a64_meaning.specs.Numbers.holds Rattle.a64_meaning.specs.Numbers.shifted Rattle.a64_meaning.specs.Numbers.logical Rattle.a64_meaning.specs.Numbers.multiplied Rattle.a64_meaning.specs.Numbers.long_product Rattle.a64_meaning.specs.Numbers.high_product Rattle.a64_meaning.specs.Numbers.quotient Rattle.a64_meaning.specs.Numbers.bit_field Rattle.a64_meaning.specs.Numbers.moved_wide
load_signed_immediate_64 = refl

load_signed_immediate_32 : map ran (b 0x39c0dc5f (0x69 ∷ 0x1e110eb0 ∷ 0x2000162d1 ∷ 0x80000000 ∷ 0x1c6c347d ∷ 0x49be75391799 ∷ 0x5a5b2c164afcbac6 ∷ 0x8000000000000000 ∷ 0x526e2f0ba5f08356 ∷ []) 0x200010000 12 0x100014474 0x200016300
    ∷ b 0x79e7ffe4 (0x251e1ae1cd8e4dc5 ∷ 0x100000000 ∷ 0xd256ddf816829005 ∷ 0x7c068d32 ∷ 0x7ab8c0d33e1e7f97 ∷ 0x100000000 ∷ 0x6 ∷ 0xffffffffffffffff ∷ 0x75ccc720 ∷ []) 0x200015010 13 0x100014524 0x200016400 ∷ []) ≡
    ((0x69 ∷ 0x1e110eb0 ∷ 0x2000162d1 ∷ 0x80000000 ∷ 0x1c6c347d ∷ 0x49be75391799 ∷ 0x5a5b2c164afcbac6 ∷ 0x8000000000000000 ∷ 0x526e2f0ba5f08356 ∷ 0x200010000 ∷ 0x100014478 ∷ 0xc ∷ 0x3914efcaa5805b3611ecc7a27d58330ee9c49f7a55300be6c19c77522d08e3be99744f2a05e0bb96714c2702ddb8936e4924ffdab5906b46 ∷ [])
    ∷ (0x251e1ae1cd8e4dc5 ∷ 0x100000000 ∷ 0xd256ddf816829005 ∷ 0x7c068d32 ∷ 0x7c57 ∷ 0x100000000 ∷ 0x6 ∷ 0xffffffffffffffff ∷ 0x75ccc720 ∷ 0x200015010 ∷ 0x100014528 ∷ 0xd ∷ 0x441ffad5b08b66411cf7d2ad88633e19f4cfaa85603b16f1cca7825d3813eec9a47f5a3510ebc6a17c57320de8c39e79542f0ae5c09b7651 ∷ []) ∷ [])
unfolding step fetched Rattle.a64_meaning.specs.Access.plain_load Rattle.a64_meaning.specs.Access.in_cell Rattle.a64_meaning.specs.Access.is_cell Rattle.a64_meaning.specs.Access.found Rattle.a64_meaning.specs.Access.is_writable Rattle.a64_meaning.specs.Access.load Rattle.a64_meaning.specs.Access.store Rattle.a64_code.specs.Words.instruction Rattle.a64_meaning.specs.Effects.act Rattle.a64_meaning.specs.Numbers.holds Rattle.a64_meaning.specs.Numbers.shifted Rattle.a64_meaning.specs.Numbers.logical Rattle.a64_meaning.specs.Numbers.multiplied Rattle.a64_meaning.specs.Numbers.long_product Rattle.a64_meaning.specs.Numbers.high_product Rattle.a64_meaning.specs.Numbers.quotient Rattle.a64_meaning.specs.Numbers.bit_field Rattle.a64_meaning.specs.Numbers.moved_wide
load_signed_immediate_32 = refl

store_register : map ran (b 0x38266be5 (0xfffffffe ∷ 0x0 ∷ 0x3ab18dae8676ab61 ∷ 0xffffffff ∷ 0x8fb3e428a6067a27 ∷ 0xe13c ∷ 0x100000000 ∷ 0x7fffffffffffffff ∷ 0x157e12d4d ∷ []) 0x100016510 11 0x1000145d4 0x200016500
    ∷ b 0x783f6843 (0x2cf33142 ∷ 0xb09c724a4b7fe9b1 ∷ 0x200016617 ∷ 0xa18fda26 ∷ 0x80000000 ∷ 0x8140 ∷ 0x2eb26aa7 ∷ 0xffffffffffffffff ∷ 0x91e2cd455a6a4821 ∷ []) 0x200010000 13 0x100014684 0x200016600
    ∷ b 0xb8266805 (0x100bed177 ∷ 0xd797a9ee ∷ 0x0 ∷ 0x2cd986e83257ae42 ∷ 0x8000000000000000 ∷ 0xa5956e2bdf02eac3 ∷ 0xff429589 ∷ 0x9a0bc130693de148 ∷ 0x2 ∷ []) 0x200010000 3 0x100014734 0x200016700
    ∷ b 0xf83f7800 (0x20001680a ∷ 0xcce053f6ce7d5793 ∷ 0x0 ∷ 0x52a47582942f0c8a ∷ 0x7fffffff ∷ 0x2 ∷ 0xfffffffe ∷ 0xffffffffffffffff ∷ 0x7fffffff ∷ []) 0x200010000 12 0x1000147e4 0x200016800 ∷ []) ≡
    ((0xfffffffe ∷ 0x0 ∷ 0x3ab18dae8676ab61 ∷ 0xffffffff ∷ 0x8fb3e428a6067a27 ∷ 0xe13c ∷ 0x100000000 ∷ 0x7fffffffffffffff ∷ 0x157e12d4d ∷ 0x100016510 ∷ 0x1000145d8 ∷ 0xb ∷ 0x4f2a05e0bb96714c2702ddb8936e4924ffdab5906b4621fcd7b28d68431ef9d4af8a65401bf6d13c87623d18f3cea9845f3a15f0cba6815c ∷ [])
    ∷ (0x2cf33142 ∷ 0xb09c724a4b7fe9b1 ∷ 0x200016617 ∷ 0xa18fda26 ∷ 0x80000000 ∷ 0x8140 ∷ 0x2eb26aa7 ∷ 0xffffffffffffffff ∷ 0x91e2cd455a6a4821 ∷ 0x200010000 ∷ 0x100014688 ∷ 0xd ∷ 0x5a3510ebc6a17c57320de8c39e79542f0ae5c09b76512c07e2bd98734e2904da2695704b2601dcb7926d4823fed9b48f6a4520fbd6b18c67 ∷ [])
    ∷ (0x100bed177 ∷ 0xd797a9ee ∷ 0x0 ∷ 0x2cd986e83257ae42 ∷ 0x8000000000000000 ∷ 0xa5956e2bdf02eac3 ∷ 0xff429589 ∷ 0x9a0bc130693de148 ∷ 0x2 ∷ 0x200010000 ∷ 0x100014738 ∷ 0x3 ∷ 0x65401bf6d1ac87623d18f3cea9845f3a15f0cba6815c3712edc8a37e59340feac5a07b56310ce7c29d78532e09e4bf9a75502b06df02eac3 ∷ [])
    ∷ (0x20001680a ∷ 0xcce053f6ce7d5793 ∷ 0x0 ∷ 0x52a47582942f0c8a ∷ 0x7fffffff ∷ 0x2 ∷ 0xfffffffe ∷ 0xffffffffffffffff ∷ 0x7fffffff ∷ 0x200010000 ∷ 0x1000147e8 ∷ 0xc ∷ 0x704b2601dcb7926d4823fed9b48f6a4520fbd6b18c67421df8d3ae89643f1af5d0ab86613c17000000020001680acaa5805b3611ecc7a27d ∷ []) ∷ [])
unfolding step fetched Rattle.a64_meaning.specs.Access.plain_load Rattle.a64_meaning.specs.Access.in_cell Rattle.a64_meaning.specs.Access.is_cell Rattle.a64_meaning.specs.Access.found Rattle.a64_meaning.specs.Access.is_writable Rattle.a64_meaning.specs.Access.load Rattle.a64_meaning.specs.Access.store Rattle.a64_code.specs.Words.instruction Rattle.a64_meaning.specs.Effects.act Rattle.a64_meaning.specs.Numbers.holds Rattle.a64_meaning.specs.Numbers.shifted Rattle.a64_meaning.specs.Numbers.logical Rattle.a64_meaning.specs.Numbers.multiplied Rattle.a64_meaning.specs.Numbers.long_product Rattle.a64_meaning.specs.Numbers.high_product Rattle.a64_meaning.specs.Numbers.quotient Rattle.a64_meaning.specs.Numbers.bit_field Rattle.a64_meaning.specs.Numbers.moved_wide
store_register = refl

load_register : map ran (b 0x387f7804 (0x200016903 ∷ 0x0 ∷ 0x390ff0f43fd40dd8 ∷ 0xffffffffffffffff ∷ 0xc9f5d5 ∷ 0x26dedf897497ef39 ∷ 0x80000000 ∷ 0xfac33aa5 ∷ 0xad62 ∷ []) 0x200010000 7 0x100014894 0x200016900
    ∷ b 0x787f7bff (0x5bdbe37 ∷ 0x1664 ∷ 0xffffffff ∷ 0x0 ∷ 0x32b10240 ∷ 0x55c383051d69311d ∷ 0x55fc410d62b68280 ∷ 0x1 ∷ 0xd36948f6 ∷ []) 0x200016a10 7 0x100014944 0x200016a00
    ∷ b 0xb8677bff (0x7fffffff ∷ 0x80000000 ∷ 0xce0c070157675f82 ∷ 0xfffffffffffffffe ∷ 0x7fffffff ∷ 0x2 ∷ 0xd618c0a37790c627 ∷ 0x28c2 ∷ 0x7fffffff ∷ []) 0x20000c800 6 0x1000149f4 0x200016b00
    ∷ b 0xf8676842 (0x7fffffffffffffff ∷ 0xb4db6cf0f12ca00d ∷ 0x43998beebac7e3d2 ∷ 0x88df8c675e34f81d ∷ 0xffffffffffffffff ∷ 0xdf54fa502021dc2c ∷ 0x176a8355ce73 ∷ 0xbc6674134539884c ∷ 0x759fc0e ∷ []) 0x200010000 0 0x100014aa4 0x200016c00 ∷ []) ≡
    ((0x200016903 ∷ 0x0 ∷ 0x390ff0f43fd40dd8 ∷ 0xffffffffffffffff ∷ 0xf7 ∷ 0x26dedf897497ef39 ∷ 0x80000000 ∷ 0xfac33aa5 ∷ 0xad62 ∷ 0x200010000 ∷ 0x100014898 ∷ 0x7 ∷ 0x7b56310ce7c29d78532e09e4bf9a75502b06e1bc97724d2803deb9946f4a2500dbb6916c4722fdd8b38e69441ffad5b08b66411cf7d2ad88 ∷ [])
    ∷ (0x5bdbe37 ∷ 0x1664 ∷ 0xffffffff ∷ 0x0 ∷ 0x32b10240 ∷ 0x55c383051d69311d ∷ 0x55fc410d62b68280 ∷ 0x1 ∷ 0xd36948f6 ∷ 0x200016a10 ∷ 0x100014948 ∷ 0x7 ∷ 0x86613c17f2cda8835e3914efcaa5805b3611ecc7a27d58330ee9c49f7a55300be6c19c77522d08e3be99744f2a05e0bb96714c2702ddb893 ∷ [])
    ∷ (0x7fffffff ∷ 0x80000000 ∷ 0xce0c070157675f82 ∷ 0xfffffffffffffffe ∷ 0x7fffffff ∷ 0x2 ∷ 0xd618c0a37790c627 ∷ 0x28c2 ∷ 0x7fffffff ∷ 0x20000c800 ∷ 0x1000149f8 ∷ 0x6 ∷ 0x916c4722fdd8b38e69441ffad5b08b66411cf7d2ad88633e19f4cfaa85603b16f1cca7825d3813eec9a47f5a3510ebc6a17c57320de8c39e ∷ [])
    ∷ (0x7fffffffffffffff ∷ 0xb4db6cf0f12ca00d ∷ 0x2ddb8936e4924ff ∷ 0x88df8c675e34f81d ∷ 0xffffffffffffffff ∷ 0xdf54fa502021dc2c ∷ 0x176a8355ce73 ∷ 0xbc6674134539884c ∷ 0x759fc0e ∷ 0x200010000 ∷ 0x100014aa8 ∷ 0x0 ∷ 0x9c77522d08e3be99744f2a05e0bb96714c2702ddb8936e4924ffdab5906b4621fcd7b28d68431ef9d4af8a65401bf6d1ac87623d18f3cea9 ∷ []) ∷ [])
unfolding step fetched Rattle.a64_meaning.specs.Access.plain_load Rattle.a64_meaning.specs.Access.in_cell Rattle.a64_meaning.specs.Access.is_cell Rattle.a64_meaning.specs.Access.found Rattle.a64_meaning.specs.Access.is_writable Rattle.a64_meaning.specs.Access.load Rattle.a64_meaning.specs.Access.store Rattle.a64_code.specs.Words.instruction Rattle.a64_meaning.specs.Effects.act Rattle.a64_meaning.specs.Numbers.holds Rattle.a64_meaning.specs.Numbers.shifted Rattle.a64_meaning.specs.Numbers.logical Rattle.a64_meaning.specs.Numbers.multiplied Rattle.a64_meaning.specs.Numbers.long_product Rattle.a64_meaning.specs.Numbers.high_product Rattle.a64_meaning.specs.Numbers.quotient Rattle.a64_meaning.specs.Numbers.bit_field Rattle.a64_meaning.specs.Numbers.moved_wide
load_register = refl

load_signed_register : map ran (b 0x38a77be3 (0xd9db4cf9c6b0f8b3 ∷ 0x7fffffff ∷ 0x116dbe5b1be4e39e ∷ 0xce204c965c8a19d2 ∷ 0x315cefd14c057b32 ∷ 0x80000000 ∷ 0x80000000 ∷ 0xfffffffffffffffe ∷ 0xffffffff ∷ []) 0x200016d20 4 0x100014b54 0x200016d00
    ∷ b 0x78a76843 (0xfffffffe ∷ 0x699e3b2ae59e1f0c ∷ 0x5294b282499552c2 ∷ 0xfffc09203f9884b9 ∷ 0x73f94d58 ∷ 0x4a9e33f32e811113 ∷ 0xffffffffffffffff ∷ 0xad6b4d7fb66c1b49 ∷ 0x0 ∷ []) 0x200010000 6 0x100014c04 0x200016e00
    ∷ b 0xb8a6685f (0x4f9840d38d667015 ∷ 0x2dfef53bf109e573 ∷ 0x200016e34 ∷ 0x8000000000000000 ∷ 0x100000000 ∷ 0x595aa0bc93453d6f ∷ 0xd5 ∷ 0xe6ac494d4226 ∷ 0xffffffffffffffff ∷ []) 0x200010000 3 0x100014cb4 0x200016f00
    ∷ b 0x38ff6804 (0x200017014 ∷ 0xb1d65b1a ∷ 0xbf603b83ff841bf5 ∷ 0x47fa799838866458 ∷ 0xf244bf16595a75ee ∷ 0xee2227bb ∷ 0x8000000000000000 ∷ 0xd6c15464d47a2ebb ∷ 0x82376e6473e96b00 ∷ []) 0x200010000 6 0x100014d64 0x200017000
    ∷ b 0x78ff7be4 (0x7fffffff ∷ 0xfffffffffffffffe ∷ 0x42ddd793 ∷ 0xc7e67012f82b89f3 ∷ 0x42a180ff8b3f19e5 ∷ 0x0 ∷ 0xffffffff ∷ 0x7fffffff ∷ 0x22f526fc231ee958 ∷ []) 0x200017120 15 0x100014e14 0x200017100 ∷ []) ≡
    ((0xd9db4cf9c6b0f8b3 ∷ 0x7fffffff ∷ 0x116dbe5b1be4e39e ∷ 0xa ∷ 0x315cefd14c057b32 ∷ 0x80000000 ∷ 0x80000000 ∷ 0xfffffffffffffffe ∷ 0xffffffff ∷ 0x200016d20 ∷ 0x100014b58 ∷ 0x4 ∷ 0xa7825d3813eec9a47f5a3510ebc6a17c57320de8c39e79542f0ae5c09b76512c07e2bd98734e2904dfba95704b2601dcb7926d4823fed9b4 ∷ [])
    ∷ (0xfffffffe ∷ 0x699e3b2ae59e1f0c ∷ 0x5294b282499552c2 ∷ 0x7b56 ∷ 0x73f94d58 ∷ 0x4a9e33f32e811113 ∷ 0xffffffffffffffff ∷ 0xad6b4d7fb66c1b49 ∷ 0x0 ∷ 0x200010000 ∷ 0x100014c08 ∷ 0x6 ∷ 0xb28d68431ef9d4af8a65401bf6d1ac87623d18f3cea9845f3a15f0cba6815c3712edc8a37e59340feac5a07b56310ce7c29d78532e09e4bf ∷ [])
    ∷ (0x4f9840d38d667015 ∷ 0x2dfef53bf109e573 ∷ 0x200016e34 ∷ 0x8000000000000000 ∷ 0x100000000 ∷ 0x595aa0bc93453d6f ∷ 0xd5 ∷ 0xe6ac494d4226 ∷ 0xffffffffffffffff ∷ 0x200010000 ∷ 0x100014cb8 ∷ 0x3 ∷ 0xbd98734e2904dfba95704b2601dcb7926d4823fed9b48f6a4520fbd6b18c67421df8d3ae89643f1af5d0ab86613c17f2cda8835e3914efca ∷ [])
    ∷ (0x200017014 ∷ 0xb1d65b1a ∷ 0xbf603b83ff841bf5 ∷ 0x47fa799838866458 ∷ 0xffffffb9 ∷ 0xee2227bb ∷ 0x8000000000000000 ∷ 0xd6c15464d47a2ebb ∷ 0x82376e6473e96b00 ∷ 0x200010000 ∷ 0x100014d68 ∷ 0x6 ∷ 0xc8a37e59340feac5a07b56310ce7c29d78532e09e4bf9a75502b06e1bc97724d2803deb9946f4a2500dbb6916c4722fdd8b38e69441ffad5 ∷ [])
    ∷ (0x7fffffff ∷ 0xfffffffffffffffe ∷ 0x42ddd793 ∷ 0xc7e67012f82b89f3 ∷ 0xffffa580 ∷ 0x0 ∷ 0xffffffff ∷ 0x7fffffff ∷ 0x22f526fc231ee958 ∷ 0x200017120 ∷ 0x100014e18 ∷ 0xf ∷ 0xd3ae89643f1af5d0ab86613c17f2cda8835e3914efcaa5805b3611ecc7a27d58330ee9c49f7a55300be6c19c77522d08e3be99744f2a05e0 ∷ []) ∷ [])
unfolding step fetched Rattle.a64_meaning.specs.Access.plain_load Rattle.a64_meaning.specs.Access.in_cell Rattle.a64_meaning.specs.Access.is_cell Rattle.a64_meaning.specs.Access.found Rattle.a64_meaning.specs.Access.is_writable Rattle.a64_meaning.specs.Access.load Rattle.a64_meaning.specs.Access.store Rattle.a64_code.specs.Words.instruction Rattle.a64_meaning.specs.Effects.act Rattle.a64_meaning.specs.Numbers.holds Rattle.a64_meaning.specs.Numbers.shifted Rattle.a64_meaning.specs.Numbers.logical Rattle.a64_meaning.specs.Numbers.multiplied Rattle.a64_meaning.specs.Numbers.long_product Rattle.a64_meaning.specs.Numbers.high_product Rattle.a64_meaning.specs.Numbers.quotient Rattle.a64_meaning.specs.Numbers.bit_field Rattle.a64_meaning.specs.Numbers.moved_wide
load_signed_register = refl

pair : map ran (b 0xa9808c04 (0x200017208 ∷ 0xfffffffffffffffe ∷ 0xffffffffffffffff ∷ 0xfffffffe ∷ 0x16cb4e4f8 ∷ 0x27a0aaa1de16 ∷ 0xd6e88d16760fd085 ∷ 0xea7392534d1bd92 ∷ 0x5c48784e032ac419 ∷ []) 0x0 1 0x100014ec4 0x200017200
    ∷ b 0xa98e0fe5 (0x1 ∷ 0x7fffffffffffffff ∷ 0xffffffff ∷ 0x8000000000000000 ∷ 0x0 ∷ 0x7fffffffffffffff ∷ 0xfffffffffffffffe ∷ 0xfffffffffffffffe ∷ 0xa525c8151bda7ad1 ∷ []) 0x200017230 15 0x100014f74 0x200017300
    ∷ b 0xa8c00fff (0x1 ∷ 0x9d04e3c4a0b3d934 ∷ 0x405cb3097038 ∷ 0x237eba5914014c5a ∷ 0xc6419adb06799ac3 ∷ 0x2 ∷ 0x2 ∷ 0x1d88163ff ∷ 0x1a28 ∷ []) 0x200017410 9 0x100015024 0x200017400
    ∷ b 0xa8df8fff (0x2 ∷ 0xd67b6abc5e88df9b ∷ 0xec6 ∷ 0xffffffffffffffff ∷ 0x5a503f70fff89bea ∷ 0x0 ∷ 0x6c486af2 ∷ 0x2 ∷ 0x194c4064f ∷ []) 0x200017510 2 0x1000150d4 0x200017500 ∷ []) ≡
    ((0x200017210 ∷ 0xfffffffffffffffe ∷ 0xffffffffffffffff ∷ 0xfffffffe ∷ 0x16cb4e4f8 ∷ 0x27a0aaa1de16 ∷ 0xd6e88d16760fd085 ∷ 0xea7392534d1bd92 ∷ 0x5c48784e032ac419 ∷ 0x0 ∷ 0x100014ec8 ∷ 0x1 ∷ 0xdeb9946f4a2500dbb6916c4722fdd8b38e69441ffad5b08b00000000fffffffe000000016cb4e4f816f1cca7825d3813eec9a47f5a3510eb ∷ [])
    ∷ (0x1 ∷ 0x7fffffffffffffff ∷ 0xffffffff ∷ 0x8000000000000000 ∷ 0x0 ∷ 0x7fffffffffffffff ∷ 0xfffffffffffffffe ∷ 0xfffffffffffffffe ∷ 0xa525c8151bda7ad1 ∷ 0x200017310 ∷ 0x100014f78 ∷ 0xf ∷ 0xe9c49f7a55300be6c19c77522d08e3be99744f2a05e0bb9680000000000000007fffffffffffffff21fcd7b28d68431ef9d4af8a65401bf6 ∷ [])
    ∷ (0x1 ∷ 0x9d04e3c4a0b3d934 ∷ 0x405cb3097038 ∷ 0x7c57320de8c39e79 ∷ 0xc6419adb06799ac3 ∷ 0x2 ∷ 0x2 ∷ 0x1d88163ff ∷ 0x1a28 ∷ 0x200017410 ∷ 0x100015028 ∷ 0x9 ∷ 0xf4cfaa85603b16f1cca7825d3813eec9a47f5a3510ebc6a17c57320de8c39e79542f0ae5c09b76512c07e2bd98734e2904dfba95704b2601 ∷ [])
    ∷ (0x2 ∷ 0xd67b6abc5e88df9b ∷ 0xec6 ∷ 0x87623d18f3cea984 ∷ 0x5a503f70fff89bea ∷ 0x0 ∷ 0x6c486af2 ∷ 0x2 ∷ 0x194c4064f ∷ 0x200017708 ∷ 0x1000150d8 ∷ 0x2 ∷ 0xffdab5906b4621fcd7b28d68431ef9d4af8a65401bf6d1ac87623d18f3cea9845f3a15f0cba6815c3712edc8a37e59340feac5a07b56310c ∷ []) ∷ [])
unfolding step fetched Rattle.a64_meaning.specs.Access.plain_load Rattle.a64_meaning.specs.Access.in_cell Rattle.a64_meaning.specs.Access.is_cell Rattle.a64_meaning.specs.Access.found Rattle.a64_meaning.specs.Access.is_writable Rattle.a64_meaning.specs.Access.load Rattle.a64_meaning.specs.Access.store Rattle.a64_code.specs.Words.instruction Rattle.a64_meaning.specs.Effects.act Rattle.a64_meaning.specs.Numbers.holds Rattle.a64_meaning.specs.Numbers.shifted Rattle.a64_meaning.specs.Numbers.logical Rattle.a64_meaning.specs.Numbers.multiplied Rattle.a64_meaning.specs.Numbers.long_product Rattle.a64_meaning.specs.Numbers.high_product Rattle.a64_meaning.specs.Numbers.quotient Rattle.a64_meaning.specs.Numbers.bit_field Rattle.a64_meaning.specs.Numbers.moved_wide
pair = refl
