-- Steps of arithmetic as an emulator of the architecture makes them, for each row of the table. Written by scripts/emulate-steps.
use Rattle.std.proofs.Common.{◌≡◌, refl, ℕ, List, [], ◌∷◌}
use Rattle.std.specs.Prelude.{map}
use Rattle.a64_meaning.specs.Step.{step, fetched}
use Rattle.a64_meaning.proofs.Emulating.{b, ran}

add_immediate : map ran (b 0x11000045 (0x5d ∷ 0x81e74ef5e8e25d94 ∷ 0x1 ∷ 0x1 ∷ 0x8000000000000000 ∷ 0xffffffffffffffff ∷ 0x7fffffff ∷ 0xf29d0da9953f48f1 ∷ 0xffffffffffffffff ∷ []) 0x7fffffff 1 0x100010064 0x200010000
    ∷ b 0x9125105f (0x4ef8aa3892276658 ∷ 0x2e44158bae97ba94 ∷ 0xffffffffffffffff ∷ 0x18f135d25f557203 ∷ 0x907a70c31012f037 ∷ 0x7fffffff ∷ 0x8000000000000000 ∷ 0xffffffff ∷ 0x7fffffffffffffff ∷ []) 0x7fffffff 5 0x100010114 0x200010100
    ∷ b 0x31666c23 (0x9be4bcfc49b64a08 ∷ 0x83 ∷ 0xffffffff ∷ 0x7fffffffffffffff ∷ 0xfffffffe ∷ 0x8000000000000000 ∷ 0xd17f9acae01f5057 ∷ 0xfffffffffffffffe ∷ 0x7fffffffffffffff ∷ []) 0x119a72d174c9df6a 2 0x1000101c4 0x200010200
    ∷ b 0xb14000e4 (0xae658f33fe3b890b ∷ 0x5bba75a9 ∷ 0xfffffffe ∷ 0x7fffffffffffffff ∷ 0xffffffffffffffff ∷ 0x0 ∷ 0x80000000 ∷ 0x7fffffff ∷ 0x7fffffffffffffff ∷ []) 0x7fffffffffffffff 12 0x100010274 0x200010300 ∷ []) ≡
    ((0x5d ∷ 0x81e74ef5e8e25d94 ∷ 0x1 ∷ 0x1 ∷ 0x8000000000000000 ∷ 0x1 ∷ 0x7fffffff ∷ 0xf29d0da9953f48f1 ∷ 0xffffffffffffffff ∷ 0x7fffffff ∷ 0x100010068 ∷ 0x1 ∷ 0xf8d3ae89643f1af5d0ab86613c17f2cda8835e3914efcaa5805b3611ecc7a27d58330ee9c49f7a55300be6c19c77522d08e3be99744f2a05 ∷ [])
    ∷ (0x4ef8aa3892276658 ∷ 0x2e44158bae97ba94 ∷ 0xffffffffffffffff ∷ 0x18f135d25f557203 ∷ 0x907a70c31012f037 ∷ 0x7fffffff ∷ 0x8000000000000000 ∷ 0xffffffff ∷ 0x7fffffffffffffff ∷ 0x943 ∷ 0x100010118 ∷ 0x5 ∷ 0x3deb9946f4a2500dbb6916c4722fdd8b38e69441ffad5b08b66411cf7d2ad88633e19f4cfaa85603b16f1cca7825d3813eec9a47f5a3510 ∷ [])
    ∷ (0x9be4bcfc49b64a08 ∷ 0x83 ∷ 0xffffffff ∷ 0x99b083 ∷ 0xfffffffe ∷ 0x8000000000000000 ∷ 0xd17f9acae01f5057 ∷ 0xfffffffffffffffe ∷ 0x7fffffffffffffff ∷ 0x119a72d174c9df6a ∷ 0x1000101c8 ∷ 0x0 ∷ 0xee9c49f7a55300be6c19c77522d08e3be99744f2a05e0bb96714c2702ddb8936e4924ffdab5906b4621fcd7b28d68431ef9d4af8a65401b ∷ [])
    ∷ (0xae658f33fe3b890b ∷ 0x5bba75a9 ∷ 0xfffffffe ∷ 0x7fffffffffffffff ∷ 0x7fffffff ∷ 0x0 ∷ 0x80000000 ∷ 0x7fffffff ∷ 0x7fffffffffffffff ∷ 0x7fffffffffffffff ∷ 0x100010278 ∷ 0x0 ∷ 0x19f4cfaa85603b16f1cca7825d3813eec9a47f5a3510ebc6a17c57320de8c39e79542f0ae5c09b76512c07e2bd98734e2904dfba95704b26 ∷ []) ∷ [])
unfolding step fetched Rattle.a64_meaning.specs.Access.plain_load Rattle.a64_meaning.specs.Access.in_cell Rattle.a64_meaning.specs.Access.is_cell Rattle.a64_meaning.specs.Access.found Rattle.a64_meaning.specs.Access.is_writable Rattle.a64_meaning.specs.Access.load Rattle.a64_meaning.specs.Access.store Rattle.a64_code.specs.Words.instruction Rattle.a64_meaning.specs.Effects.act Rattle.a64_meaning.specs.Numbers.holds Rattle.a64_meaning.specs.Numbers.shifted Rattle.a64_meaning.specs.Numbers.logical Rattle.a64_meaning.specs.Numbers.multiplied Rattle.a64_meaning.specs.Numbers.long_product Rattle.a64_meaning.specs.Numbers.high_product Rattle.a64_meaning.specs.Numbers.quotient Rattle.a64_meaning.specs.Numbers.bit_field Rattle.a64_meaning.specs.Numbers.moved_wide
add_immediate = refl

sub_immediate : map ran (b 0x5151849f (0x5bd86d40fc891b4a ∷ 0xf52ddf5d616499c9 ∷ 0x1 ∷ 0x7fffffff ∷ 0x7c26847f0316909e ∷ 0x4343 ∷ 0x2 ∷ 0xffffffff ∷ 0xf3fe39c0519088f5 ∷ []) 0x8000000000000000 1 0x100010324 0x200010400
    ∷ b 0xd1723be7 (0x7fffffffffffffff ∷ 0x30cbc97d0fef7928 ∷ 0x7fffffff ∷ 0x1 ∷ 0x0 ∷ 0xffffffffffffffff ∷ 0x1 ∷ 0x68739fa ∷ 0x6050914a ∷ []) 0x58ee8571f4998d7c 11 0x1000103d4 0x200010500
    ∷ b 0x714ec027 (0x80000000 ∷ 0x1 ∷ 0x43c71b9abd87a865 ∷ 0xfffffffffffffffe ∷ 0x0 ∷ 0x8000000000000000 ∷ 0xfffffffffffffffe ∷ 0xc215a82a06ec41ad ∷ 0xa49636a2fa7f0eab ∷ []) 0x42d8d86f40f6 11 0x100010484 0x200010600
    ∷ b 0xf13ffca2 (0xfc241d0bc9d488b1 ∷ 0xce5b ∷ 0x100000000 ∷ 0x332dd3313a0b9965 ∷ 0xbb2313f55b06258e ∷ 0x0 ∷ 0x42594052 ∷ 0xffffffffffffffff ∷ 0xcefe2a1f ∷ []) 0x7a3d75ee 11 0x100010534 0x200010700 ∷ []) ≡
    ((0x5bd86d40fc891b4a ∷ 0xf52ddf5d616499c9 ∷ 0x1 ∷ 0x7fffffff ∷ 0x7c26847f0316909e ∷ 0x4343 ∷ 0x2 ∷ 0xffffffff ∷ 0xf3fe39c0519088f5 ∷ 0x2d0809e ∷ 0x100010328 ∷ 0x1 ∷ 0x24ffdab5906b4621fcd7b28d68431ef9d4af8a65401bf6d1ac87623d18f3cea9845f3a15f0cba6815c3712edc8a37e59340feac5a07b5631 ∷ [])
    ∷ (0x7fffffffffffffff ∷ 0x30cbc97d0fef7928 ∷ 0x7fffffff ∷ 0x1 ∷ 0x0 ∷ 0xffffffffffffffff ∷ 0x1 ∷ 0x58ee8571f3d0ad7c ∷ 0x6050914a ∷ 0x58ee8571f4998d7c ∷ 0x1000103d8 ∷ 0xb ∷ 0x2f0ae5c09b76512c07e2bd98734e2904dfba95704b2601dcb7926d4823fed9b48f6a4520fbd6b18c67421df8d3ae89643f1af5d0ab86613c ∷ [])
    ∷ (0x80000000 ∷ 0x1 ∷ 0x43c71b9abd87a865 ∷ 0xfffffffffffffffe ∷ 0x0 ∷ 0x8000000000000000 ∷ 0xfffffffffffffffe ∷ 0xffc50001 ∷ 0xa49636a2fa7f0eab ∷ 0x42d8d86f40f6 ∷ 0x100010488 ∷ 0x8 ∷ 0x3a15f0cba6815c3712edc8a37e59340feac5a07b56310ce7c29d78532e09e4bf9a75502b06e1bc97724d2803deb9946f4a2500dbb6916c47 ∷ [])
    ∷ (0xfc241d0bc9d488b1 ∷ 0xce5b ∷ 0xfffffffffffff001 ∷ 0x332dd3313a0b9965 ∷ 0xbb2313f55b06258e ∷ 0x0 ∷ 0x42594052 ∷ 0xffffffffffffffff ∷ 0xcefe2a1f ∷ 0x7a3d75ee ∷ 0x100010538 ∷ 0x8 ∷ 0x4520fbd6b18c67421df8d3ae89643f1af5d0ab86613c17f2cda8835e3914efcaa5805b3611ecc7a27d58330ee9c49f7a55300be6c19c7752 ∷ []) ∷ [])
unfolding step fetched Rattle.a64_meaning.specs.Access.plain_load Rattle.a64_meaning.specs.Access.in_cell Rattle.a64_meaning.specs.Access.is_cell Rattle.a64_meaning.specs.Access.found Rattle.a64_meaning.specs.Access.is_writable Rattle.a64_meaning.specs.Access.load Rattle.a64_meaning.specs.Access.store Rattle.a64_code.specs.Words.instruction Rattle.a64_meaning.specs.Effects.act Rattle.a64_meaning.specs.Numbers.holds Rattle.a64_meaning.specs.Numbers.shifted Rattle.a64_meaning.specs.Numbers.logical Rattle.a64_meaning.specs.Numbers.multiplied Rattle.a64_meaning.specs.Numbers.long_product Rattle.a64_meaning.specs.Numbers.high_product Rattle.a64_meaning.specs.Numbers.quotient Rattle.a64_meaning.specs.Numbers.bit_field Rattle.a64_meaning.specs.Numbers.moved_wide
sub_immediate = refl

add_register : map ran (b 0xb070461 (0x7fffffffffffffff ∷ 0x9c3a23cde67a9b75 ∷ 0xe8c14743 ∷ 0xa4a45effccb573d9 ∷ 0xfffffffe ∷ 0x100000000 ∷ 0x3d302d48330698a1 ∷ 0xca04c79f ∷ 0xcd02c5e116353d03 ∷ []) 0x76916555abfe 12 0x1000105e4 0x200010800
    ∷ b 0x8b000441 (0xce76e9f477216e9e ∷ 0xd39630d69c9011ef ∷ 0xa842bc19796f74ad ∷ 0x8c74 ∷ 0x3a56cc1057a40b2 ∷ 0x1a4fa6511445 ∷ 0x23a5ef88ef02090b ∷ 0x7fffffff ∷ 0x72a ∷ []) 0x80000000 7 0x100010694 0x200010900
    ∷ b 0x2b800485 (0x7fffffffffffffff ∷ 0xe77ffe48d0a6ec17 ∷ 0xeaefc4d2d3bf6d01 ∷ 0x8825 ∷ 0x8000000000000000 ∷ 0x7fffffffffffffff ∷ 0x10101b811 ∷ 0x243d ∷ 0xfffffffffffffffe ∷ []) 0x0 10 0x100010744 0x200010a00
    ∷ b 0xab1f03ff (0x80000000 ∷ 0x1 ∷ 0x72235c28fcd7f40 ∷ 0x71 ∷ 0x8000000000000000 ∷ 0xb156d1ad330c16a3 ∷ 0x8000000000000000 ∷ 0x81fc069e7a609683 ∷ 0xe06485f1115b ∷ []) 0x761dcb02 6 0x1000107f4 0x200010b00 ∷ []) ≡
    ((0x7fffffffffffffff ∷ 0x60bf0317 ∷ 0xe8c14743 ∷ 0xa4a45effccb573d9 ∷ 0xfffffffe ∷ 0x100000000 ∷ 0x3d302d48330698a1 ∷ 0xca04c79f ∷ 0xcd02c5e116353d03 ∷ 0x76916555abfe ∷ 0x1000105e8 ∷ 0xc ∷ 0x502b06e1bc97724d2803deb9946f4a2500dbb6916c4722fdd8b38e69441ffad5b08b66411cf7d2ad88633e19f4cfaa85603b16f1cca7825d ∷ [])
    ∷ (0xce76e9f477216e9e ∷ 0x4530900267b251e9 ∷ 0xa842bc19796f74ad ∷ 0x8c74 ∷ 0x3a56cc1057a40b2 ∷ 0x1a4fa6511445 ∷ 0x23a5ef88ef02090b ∷ 0x7fffffff ∷ 0x72a ∷ 0x80000000 ∷ 0x100010698 ∷ 0x7 ∷ 0x5b3611ecc7a27d58330ee9c49f7a55300be6c19c77522d08e3be99744f2a05e0bb96714c2702ddb8936e4924ffdab5906b4621fcd7b28d68 ∷ [])
    ∷ (0x7fffffffffffffff ∷ 0xe77ffe48d0a6ec17 ∷ 0xeaefc4d2d3bf6d01 ∷ 0x8825 ∷ 0x8000000000000000 ∷ 0xffffffff ∷ 0x10101b811 ∷ 0x243d ∷ 0xfffffffffffffffe ∷ 0x0 ∷ 0x100010748 ∷ 0x8 ∷ 0x66411cf7d2ad88633e19f4cfaa85603b16f1cca7825d3813eec9a47f5a3510ebc6a17c57320de8c39e79542f0ae5c09b76512c07e2bd9873 ∷ [])
    ∷ (0x80000000 ∷ 0x1 ∷ 0x72235c28fcd7f40 ∷ 0x71 ∷ 0x8000000000000000 ∷ 0xb156d1ad330c16a3 ∷ 0x8000000000000000 ∷ 0x81fc069e7a609683 ∷ 0xe06485f1115b ∷ 0x761dcb02 ∷ 0x1000107f8 ∷ 0x4 ∷ 0x714c2702ddb8936e4924ffdab5906b4621fcd7b28d68431ef9d4af8a65401bf6d1ac87623d18f3cea9845f3a15f0cba6815c3712edc8a37e ∷ []) ∷ [])
unfolding step fetched Rattle.a64_meaning.specs.Access.plain_load Rattle.a64_meaning.specs.Access.in_cell Rattle.a64_meaning.specs.Access.is_cell Rattle.a64_meaning.specs.Access.found Rattle.a64_meaning.specs.Access.is_writable Rattle.a64_meaning.specs.Access.load Rattle.a64_meaning.specs.Access.store Rattle.a64_code.specs.Words.instruction Rattle.a64_meaning.specs.Effects.act Rattle.a64_meaning.specs.Numbers.holds Rattle.a64_meaning.specs.Numbers.shifted Rattle.a64_meaning.specs.Numbers.logical Rattle.a64_meaning.specs.Numbers.multiplied Rattle.a64_meaning.specs.Numbers.long_product Rattle.a64_meaning.specs.Numbers.high_product Rattle.a64_meaning.specs.Numbers.quotient Rattle.a64_meaning.specs.Numbers.bit_field Rattle.a64_meaning.specs.Numbers.moved_wide
add_register = refl

sub_register : map ran (b 0x4b460047 (0xfffffffe ∷ 0x1 ∷ 0x80000000 ∷ 0x7841b0422789d059 ∷ 0x5dbe3023a906922f ∷ 0x2 ∷ 0xbf26 ∷ 0xe28af604 ∷ 0xfffffffe ∷ []) 0xb4d1 13 0x1000108a4 0x200010c00
    ∷ b 0xcb43acdf (0xfffffffffffffffe ∷ 0xffffffff ∷ 0xb401ba8570c1dca1 ∷ 0xffffffff ∷ 0x83239ef54ba2e161 ∷ 0xfc ∷ 0xf8c1 ∷ 0x43 ∷ 0x2 ∷ []) 0x2 13 0x100010954 0x200010d00
    ∷ b 0x6b0524c4 (0xfffffffffffffffe ∷ 0x1 ∷ 0x0 ∷ 0x42b38755cd37880e ∷ 0x7fffffff ∷ 0x1 ∷ 0xffffffff ∷ 0xed3a32a8 ∷ 0x2114e068 ∷ []) 0xf02905313d0a270b 3 0x100010a04 0x200010e00
    ∷ b 0xeb430482 (0xc26e7a4287f53ddd ∷ 0x7fffffffffffffff ∷ 0x4540f4262d8ad8c0 ∷ 0x0 ∷ 0x3 ∷ 0x8000000000000000 ∷ 0x83a4e62930803889 ∷ 0x7fffffffffffffff ∷ 0xfffffffe ∷ []) 0x7fffffffffffffff 12 0x100010ab4 0x200010f00 ∷ []) ≡
    ((0xfffffffe ∷ 0x1 ∷ 0x80000000 ∷ 0x7841b0422789d059 ∷ 0x5dbe3023a906922f ∷ 0x2 ∷ 0xbf26 ∷ 0x7fff40da ∷ 0xfffffffe ∷ 0xb4d1 ∷ 0x1000108a8 ∷ 0xd ∷ 0x7c57320de8c39e79542f0ae5c09b76512c07e2bd98734e2904dfba95704b2601dcb7926d4823fed9b48f6a4520fbd6b18c67421df8d3ae89 ∷ [])
    ∷ (0xfffffffffffffffe ∷ 0xffffffff ∷ 0xb401ba8570c1dca1 ∷ 0xffffffff ∷ 0x83239ef54ba2e161 ∷ 0xfc ∷ 0xf8c1 ∷ 0x43 ∷ 0x2 ∷ 0x2 ∷ 0x100010958 ∷ 0xd ∷ 0x87623d18f3cea9845f3a15f0cba6815c3712edc8a37e59340feac5a07b56310ce7c29d78532e09e4bf9a75502b06e1bc97724d2803deb994 ∷ [])
    ∷ (0xfffffffffffffffe ∷ 0x1 ∷ 0x0 ∷ 0x42b38755cd37880e ∷ 0xfffffdff ∷ 0x1 ∷ 0xffffffff ∷ 0xed3a32a8 ∷ 0x2114e068 ∷ 0xf02905313d0a270b ∷ 0x100010a08 ∷ 0xa ∷ 0x926d4823fed9b48f6a4520fbd6b18c67421df8d3ae89643f1af5d0ab86613c17f2cda8835e3914efcaa5805b3611ecc7a27d58330ee9c49f ∷ [])
    ∷ (0xc26e7a4287f53ddd ∷ 0x7fffffffffffffff ∷ 0x3 ∷ 0x0 ∷ 0x3 ∷ 0x8000000000000000 ∷ 0x83a4e62930803889 ∷ 0x7fffffffffffffff ∷ 0xfffffffe ∷ 0x7fffffffffffffff ∷ 0x100010ab8 ∷ 0x2 ∷ 0x9d78532e09e4bf9a75502b06e1bc97724d2803deb9946f4a2500dbb6916c4722fdd8b38e69441ffad5b08b66411cf7d2ad88633e19f4cfaa ∷ []) ∷ [])
unfolding step fetched Rattle.a64_meaning.specs.Access.plain_load Rattle.a64_meaning.specs.Access.in_cell Rattle.a64_meaning.specs.Access.is_cell Rattle.a64_meaning.specs.Access.found Rattle.a64_meaning.specs.Access.is_writable Rattle.a64_meaning.specs.Access.load Rattle.a64_meaning.specs.Access.store Rattle.a64_code.specs.Words.instruction Rattle.a64_meaning.specs.Effects.act Rattle.a64_meaning.specs.Numbers.holds Rattle.a64_meaning.specs.Numbers.shifted Rattle.a64_meaning.specs.Numbers.logical Rattle.a64_meaning.specs.Numbers.multiplied Rattle.a64_meaning.specs.Numbers.long_product Rattle.a64_meaning.specs.Numbers.high_product Rattle.a64_meaning.specs.Numbers.quotient Rattle.a64_meaning.specs.Numbers.bit_field Rattle.a64_meaning.specs.Numbers.moved_wide
sub_register = refl

logical_register : map ran (b 0xa45049f (0xa2cfba958810 ∷ 0xffffffff ∷ 0x1d31cb3213bca7f ∷ 0xfffffffffffffffe ∷ 0x29ca862d ∷ 0xfffffffe ∷ 0x55d45cd98185797c ∷ 0x13e01aaa6 ∷ 0x7fffffffffffffff ∷ []) 0x80000000 14 0x100010b64 0x200011000
    ∷ b 0x8a9ffc80 (0x80000000 ∷ 0x2 ∷ 0x100000000 ∷ 0x80000000 ∷ 0x3f88af5933736dcc ∷ 0x17420e940144702b ∷ 0x1 ∷ 0xffffffffffffffff ∷ 0x0 ∷ []) 0xfffffffe 7 0x100010c14 0x200011100
    ∷ b 0x2ac527e1 (0xfffffffffffffffe ∷ 0xb35b1de250e7b34 ∷ 0x8352e456559c ∷ 0xb3783a7cbbddbb9b ∷ 0xe8ee ∷ 0x9187df42811e7616 ∷ 0x69c7c622041dcd94 ∷ 0xe4907d49cc4793d7 ∷ 0xb17dd255f4c18226 ∷ []) 0x7fa22f715c891ff 1 0x100010cc4 0x200011200
    ∷ b 0xaa0734a2 (0x880cb401a0506098 ∷ 0x4387ee7b7d42646f ∷ 0x1 ∷ 0xe5d9fe8180c2b5f1 ∷ 0x86a74a63a8c7d9e0 ∷ 0xfffffffffffffffe ∷ 0x1 ∷ 0xbab5 ∷ 0xbd65 ∷ []) 0x7e736d5f75d8d8a4 12 0x100010d74 0x200011300
    ∷ b 0x4a0300e1 (0x41023aed54ef125a ∷ 0x4dee4812b16107f1 ∷ 0x3312ead222930ae ∷ 0x7fffffffffffffff ∷ 0xfffffffe ∷ 0x7fffffff ∷ 0xb578909c4a7591f2 ∷ 0x774510ca76f4251e ∷ 0x1 ∷ []) 0x33020ccd 2 0x100010e24 0x200011400
    ∷ b 0xcac19407 (0x35b7e448 ∷ 0x1319 ∷ 0xbf5b411b24491df6 ∷ 0x5c0bb40ff3e6ca73 ∷ 0xfffffffe ∷ 0x1cd86fc1e3096619 ∷ 0x7f7595b53b3bf4bf ∷ 0x64e27602 ∷ 0x0 ∷ []) 0x67c9736506ec 9 0x100010ed4 0x200011500 ∷ []) ≡
    ((0xa2cfba958810 ∷ 0xffffffff ∷ 0x1d31cb3213bca7f ∷ 0xfffffffffffffffe ∷ 0x29ca862d ∷ 0xfffffffe ∷ 0x55d45cd98185797c ∷ 0x13e01aaa6 ∷ 0x7fffffffffffffff ∷ 0x80000000 ∷ 0x100010b68 ∷ 0xe ∷ 0xa8835e3914efcaa5805b3611ecc7a27d58330ee9c49f7a55300be6c19c77522d08e3be99744f2a05e0bb96714c2702ddb8936e4924ffdab5 ∷ [])
    ∷ (0x0 ∷ 0x2 ∷ 0x100000000 ∷ 0x80000000 ∷ 0x3f88af5933736dcc ∷ 0x17420e940144702b ∷ 0x1 ∷ 0xffffffffffffffff ∷ 0x0 ∷ 0xfffffffe ∷ 0x100010c18 ∷ 0x7 ∷ 0xb38e69441ffad5b08b66411cf7d2ad88633e19f4cfaa85603b16f1cca7825d3813eec9a47f5a3510ebc6a17c57320de8c39e79542f0ae5c0 ∷ [])
    ∷ (0xfffffffffffffffe ∷ 0xb408f3b ∷ 0x8352e456559c ∷ 0xb3783a7cbbddbb9b ∷ 0xe8ee ∷ 0x9187df42811e7616 ∷ 0x69c7c622041dcd94 ∷ 0xe4907d49cc4793d7 ∷ 0xb17dd255f4c18226 ∷ 0x7fa22f715c891ff ∷ 0x100010cc8 ∷ 0x1 ∷ 0xbe99744f2a05e0bb96714c2702ddb8936e4924ffdab5906b4621fcd7b28d68431ef9d4af8a65401bf6d1ac87623d18f3cea9845f3a15f0cb ∷ [])
    ∷ (0x880cb401a0506098 ∷ 0x4387ee7b7d42646f ∷ 0xfffffffffffffffe ∷ 0xe5d9fe8180c2b5f1 ∷ 0x86a74a63a8c7d9e0 ∷ 0xfffffffffffffffe ∷ 0x1 ∷ 0xbab5 ∷ 0xbd65 ∷ 0x7e736d5f75d8d8a4 ∷ 0x100010d78 ∷ 0xc ∷ 0xc9a47f5a3510ebc6a17c57320de8c39e79542f0ae5c09b76512c07e2bd98734e2904dfba95704b2601dcb7926d4823fed9b48f6a4520fbd6 ∷ [])
    ∷ (0x41023aed54ef125a ∷ 0x890bdae1 ∷ 0x3312ead222930ae ∷ 0x7fffffffffffffff ∷ 0xfffffffe ∷ 0x7fffffff ∷ 0xb578909c4a7591f2 ∷ 0x774510ca76f4251e ∷ 0x1 ∷ 0x33020ccd ∷ 0x100010e28 ∷ 0x2 ∷ 0xd4af8a65401bf6d1ac87623d18f3cea9845f3a15f0cba6815c3712edc8a37e59340feac5a07b56310ce7c29d78532e09e4bf9a75502b06e1 ∷ [])
    ∷ (0x35b7e448 ∷ 0x1319 ∷ 0xbf5b411b24491df6 ∷ 0x5c0bb40ff3e6ca73 ∷ 0xfffffffe ∷ 0x1cd86fc1e3096619 ∷ 0x7f7595b53b3bf4bf ∷ 0x98fdb7e448 ∷ 0x0 ∷ 0x67c9736506ec ∷ 0x100010ed8 ∷ 0x9 ∷ 0xdfba95704b2601dcb7926d4823fed9b48f6a4520fbd6b18c67421df8d3ae89643f1af5d0ab86613c17f2cda8835e3914efcaa5805b3611ec ∷ []) ∷ [])
unfolding step fetched Rattle.a64_meaning.specs.Access.plain_load Rattle.a64_meaning.specs.Access.in_cell Rattle.a64_meaning.specs.Access.is_cell Rattle.a64_meaning.specs.Access.found Rattle.a64_meaning.specs.Access.is_writable Rattle.a64_meaning.specs.Access.load Rattle.a64_meaning.specs.Access.store Rattle.a64_code.specs.Words.instruction Rattle.a64_meaning.specs.Effects.act Rattle.a64_meaning.specs.Numbers.holds Rattle.a64_meaning.specs.Numbers.shifted Rattle.a64_meaning.specs.Numbers.logical Rattle.a64_meaning.specs.Numbers.multiplied Rattle.a64_meaning.specs.Numbers.long_product Rattle.a64_meaning.specs.Numbers.high_product Rattle.a64_meaning.specs.Numbers.quotient Rattle.a64_meaning.specs.Numbers.bit_field Rattle.a64_meaning.specs.Numbers.moved_wide
logical_register = refl

or_not_register : map ran (b 0x2a2558c2 (0x53 ∷ 0xf5d83ca65f456aa ∷ 0xb688 ∷ 0xfffffffffffffffe ∷ 0xffffffff ∷ 0x100000000 ∷ 0x138efef9 ∷ 0x6d583c9446709312 ∷ 0x1 ∷ []) 0xfffffffe 9 0x100010f84 0x200011600
    ∷ b 0xaabf8862 (0xffffffff ∷ 0xe25f4b1c ∷ 0xfffffffe ∷ 0x8000000000000000 ∷ 0x14a0b00bb835e8a5 ∷ 0xfffffffffffffffe ∷ 0xffffffffffffffff ∷ 0x4944de962a6d ∷ 0x8000000000000000 ∷ []) 0x7fffffffffffffff 13 0x100011034 0x200011700 ∷ []) ≡
    ((0x53 ∷ 0xf5d83ca65f456aa ∷ 0xffffffff ∷ 0xfffffffffffffffe ∷ 0xffffffff ∷ 0x100000000 ∷ 0x138efef9 ∷ 0x6d583c9446709312 ∷ 0x1 ∷ 0xfffffffe ∷ 0x100010f88 ∷ 0x9 ∷ 0xeac5a07b56310ce7c29d78532e09e4bf9a75502b06e1bc97724d2803deb9946f4a2500dbb6916c4722fdd8b38e69441ffad5b08b66411cf7 ∷ [])
    ∷ (0xffffffff ∷ 0xe25f4b1c ∷ 0xffffffffffffffff ∷ 0x8000000000000000 ∷ 0x14a0b00bb835e8a5 ∷ 0xfffffffffffffffe ∷ 0xffffffffffffffff ∷ 0x4944de962a6d ∷ 0x8000000000000000 ∷ 0x7fffffffffffffff ∷ 0x100011038 ∷ 0xd ∷ 0xf5d0ab86613c17f2cda8835e3914efcaa5805b3611ecc7a27d58330ee9c49f7a55300be6c19c77522d08e3be99744f2a05e0bb96714c2702 ∷ []) ∷ [])
unfolding step fetched Rattle.a64_meaning.specs.Access.plain_load Rattle.a64_meaning.specs.Access.in_cell Rattle.a64_meaning.specs.Access.is_cell Rattle.a64_meaning.specs.Access.found Rattle.a64_meaning.specs.Access.is_writable Rattle.a64_meaning.specs.Access.load Rattle.a64_meaning.specs.Access.store Rattle.a64_code.specs.Words.instruction Rattle.a64_meaning.specs.Effects.act Rattle.a64_meaning.specs.Numbers.holds Rattle.a64_meaning.specs.Numbers.shifted Rattle.a64_meaning.specs.Numbers.logical Rattle.a64_meaning.specs.Numbers.multiplied Rattle.a64_meaning.specs.Numbers.long_product Rattle.a64_meaning.specs.Numbers.high_product Rattle.a64_meaning.specs.Numbers.quotient Rattle.a64_meaning.specs.Numbers.bit_field Rattle.a64_meaning.specs.Numbers.moved_wide
or_not_register = refl

multiply_add : map ran (b 0x1b041085 (0xa71f11b2f9ee8bc8 ∷ 0xfffffffe ∷ 0x7fffffffffffffff ∷ 0x1ea7722864f54969 ∷ 0x2 ∷ 0x8000000000000000 ∷ 0x8ce621ef ∷ 0xffffffff ∷ 0x6d6b987a ∷ []) 0x7fffffff 7 0x1000110e4 0x200011800
    ∷ b 0x9b1f1441 (0x7fffffff ∷ 0xffffffffffffffff ∷ 0x0 ∷ 0x6201a9d369ac0f03 ∷ 0x8000000000000000 ∷ 0x80000000 ∷ 0x0 ∷ 0xffffffffffffffff ∷ 0xafcf ∷ []) 0xca51e152a12f3a94 6 0x100011194 0x200011900
    ∷ b 0x1b068c81 (0x7fffffffffffffff ∷ 0x80000000 ∷ 0x2caafdcf7d17ebd ∷ 0x100000000 ∷ 0xcde347abe54c5de6 ∷ 0xffffffffffffffff ∷ 0x1 ∷ 0x8000000000000000 ∷ 0x3f9b6bb2 ∷ []) 0x2785 4 0x100011244 0x200011a00
    ∷ b 0x9b019c3f (0x59865a0a1fb43b ∷ 0x91c3 ∷ 0x4dc4b70ba858 ∷ 0x873b4075916e ∷ 0xc38b48a2b2d643a2 ∷ 0x1 ∷ 0xffffffffffffffff ∷ 0x80000000 ∷ 0xffffffffffffffff ∷ []) 0x8000000000000000 9 0x1000112f4 0x200011b00 ∷ []) ≡
    ((0xa71f11b2f9ee8bc8 ∷ 0xfffffffe ∷ 0x7fffffffffffffff ∷ 0x1ea7722864f54969 ∷ 0x2 ∷ 0x6 ∷ 0x8ce621ef ∷ 0xffffffff ∷ 0x6d6b987a ∷ 0x7fffffff ∷ 0x1000110e8 ∷ 0x7 ∷ 0xdbb6916c4722fdd8b38e69441ffad5b08b66411cf7d2ad88633e19f4cfaa85603b16f1cca7825d3813eec9a47f5a3510ebc6a17c57320d ∷ [])
    ∷ (0x7fffffff ∷ 0x80000000 ∷ 0x0 ∷ 0x6201a9d369ac0f03 ∷ 0x8000000000000000 ∷ 0x80000000 ∷ 0x0 ∷ 0xffffffffffffffff ∷ 0xafcf ∷ 0xca51e152a12f3a94 ∷ 0x100011198 ∷ 0x6 ∷ 0xbe6c19c77522d08e3be99744f2a05e0bb96714c2702ddb8936e4924ffdab5906b4621fcd7b28d68431ef9d4af8a65401bf6d1ac87623d18 ∷ [])
    ∷ (0x7fffffffffffffff ∷ 0x1ab3a21a ∷ 0x2caafdcf7d17ebd ∷ 0x100000000 ∷ 0xcde347abe54c5de6 ∷ 0xffffffffffffffff ∷ 0x1 ∷ 0x8000000000000000 ∷ 0x3f9b6bb2 ∷ 0x2785 ∷ 0x100011248 ∷ 0x4 ∷ 0x16f1cca7825d3813eec9a47f5a3510ebc6a17c57320de8c39e79542f0ae5c09b76512c07e2bd98734e2904dfba95704b2601dcb7926d4823 ∷ [])
    ∷ (0x59865a0a1fb43b ∷ 0x91c3 ∷ 0x4dc4b70ba858 ∷ 0x873b4075916e ∷ 0xc38b48a2b2d643a2 ∷ 0x1 ∷ 0xffffffffffffffff ∷ 0x80000000 ∷ 0xffffffffffffffff ∷ 0x8000000000000000 ∷ 0x1000112f8 ∷ 0x9 ∷ 0x21fcd7b28d68431ef9d4af8a65401bf6d1ac87623d18f3cea9845f3a15f0cba6815c3712edc8a37e59340feac5a07b56310ce7c29d78532e ∷ []) ∷ [])
unfolding step fetched Rattle.a64_meaning.specs.Access.plain_load Rattle.a64_meaning.specs.Access.in_cell Rattle.a64_meaning.specs.Access.is_cell Rattle.a64_meaning.specs.Access.found Rattle.a64_meaning.specs.Access.is_writable Rattle.a64_meaning.specs.Access.load Rattle.a64_meaning.specs.Access.store Rattle.a64_code.specs.Words.instruction Rattle.a64_meaning.specs.Effects.act Rattle.a64_meaning.specs.Numbers.holds Rattle.a64_meaning.specs.Numbers.shifted Rattle.a64_meaning.specs.Numbers.logical Rattle.a64_meaning.specs.Numbers.multiplied Rattle.a64_meaning.specs.Numbers.long_product Rattle.a64_meaning.specs.Numbers.high_product Rattle.a64_meaning.specs.Numbers.quotient Rattle.a64_meaning.specs.Numbers.bit_field Rattle.a64_meaning.specs.Numbers.moved_wide
multiply_add = refl

multiply_long : map ran (b 0x9b257c87 (0x3e0b25cde23f03cc ∷ 0x7fffffff ∷ 0xf5ead065077ef32a ∷ 0xfffffffe ∷ 0x0 ∷ 0xfffffffe ∷ 0x5c ∷ 0x100000000 ∷ 0x7e31 ∷ []) 0xffffffff 13 0x1000113a4 0x200011c00
    ∷ b 0x9b247c03 (0x114340ff813fb5cd ∷ 0x7fffffff ∷ 0x7fffffff ∷ 0x7fffffff ∷ 0x80000000 ∷ 0xffffffffffffffff ∷ 0x2 ∷ 0x6ac26ae0 ∷ 0xf2 ∷ []) 0x64b9cb1cec032e6b 1 0x100011454 0x200011d00
    ∷ b 0x9ba27c03 (0xfffffffffffffffe ∷ 0x2b ∷ 0xfffffffffffffffe ∷ 0xff5e1cfb0a06 ∷ 0x2 ∷ 0x2 ∷ 0xbf0e11e086592243 ∷ 0x80000000 ∷ 0xd6d106fb60ed33a0 ∷ []) 0xffffffff 14 0x100011504 0x200011e00
    ∷ b 0x9ba47c20 (0x100000000 ∷ 0x8f ∷ 0x6150 ∷ 0x80000000 ∷ 0x167774ef ∷ 0x7fffffffffffffff ∷ 0x8000000000000000 ∷ 0x52c4 ∷ 0x7fffffffffffffff ∷ []) 0x100000000 7 0x1000115b4 0x200011f00 ∷ []) ≡
    ((0x3e0b25cde23f03cc ∷ 0x7fffffff ∷ 0xf5ead065077ef32a ∷ 0xfffffffe ∷ 0x0 ∷ 0xfffffffe ∷ 0x5c ∷ 0x0 ∷ 0x7e31 ∷ 0xffffffff ∷ 0x1000113a8 ∷ 0xd ∷ 0x2c07e2bd98734e2904dfba95704b2601dcb7926d4823fed9b48f6a4520fbd6b18c67421df8d3ae89643f1af5d0ab86613c17f2cda8835e39 ∷ [])
    ∷ (0x114340ff813fb5cd ∷ 0x7fffffff ∷ 0x7fffffff ∷ 0x3f60251980000000 ∷ 0x80000000 ∷ 0xffffffffffffffff ∷ 0x2 ∷ 0x6ac26ae0 ∷ 0xf2 ∷ 0x64b9cb1cec032e6b ∷ 0x100011458 ∷ 0x1 ∷ 0x3712edc8a37e59340feac5a07b56310ce7c29d78532e09e4bf9a75502b06e1bc97724d2803deb9946f4a2500dbb6916c4722fdd8b38e6944 ∷ [])
    ∷ (0xfffffffffffffffe ∷ 0x2b ∷ 0xfffffffffffffffe ∷ 0xfffffffc00000004 ∷ 0x2 ∷ 0x2 ∷ 0xbf0e11e086592243 ∷ 0x80000000 ∷ 0xd6d106fb60ed33a0 ∷ 0xffffffff ∷ 0x100011508 ∷ 0xe ∷ 0x421df8d3ae89643f1af5d0ab86613c17f2cda8835e3914efcaa5805b3611ecc7a27d58330ee9c49f7a55300be6c19c77522d08e3be99744f ∷ [])
    ∷ (0xc8cba5181 ∷ 0x8f ∷ 0x6150 ∷ 0x80000000 ∷ 0x167774ef ∷ 0x7fffffffffffffff ∷ 0x8000000000000000 ∷ 0x52c4 ∷ 0x7fffffffffffffff ∷ 0x100000000 ∷ 0x1000115b8 ∷ 0x7 ∷ 0x4d2803deb9946f4a2500dbb6916c4722fdd8b38e69441ffad5b08b66411cf7d2ad88633e19f4cfaa85603b16f1cca7825d3813eec9a47f5a ∷ []) ∷ [])
unfolding step fetched Rattle.a64_meaning.specs.Access.plain_load Rattle.a64_meaning.specs.Access.in_cell Rattle.a64_meaning.specs.Access.is_cell Rattle.a64_meaning.specs.Access.found Rattle.a64_meaning.specs.Access.is_writable Rattle.a64_meaning.specs.Access.load Rattle.a64_meaning.specs.Access.store Rattle.a64_code.specs.Words.instruction Rattle.a64_meaning.specs.Effects.act Rattle.a64_meaning.specs.Numbers.holds Rattle.a64_meaning.specs.Numbers.shifted Rattle.a64_meaning.specs.Numbers.logical Rattle.a64_meaning.specs.Numbers.multiplied Rattle.a64_meaning.specs.Numbers.long_product Rattle.a64_meaning.specs.Numbers.high_product Rattle.a64_meaning.specs.Numbers.quotient Rattle.a64_meaning.specs.Numbers.bit_field Rattle.a64_meaning.specs.Numbers.moved_wide
multiply_long = refl

multiply_high : map ran (b 0x9b467c06 (0x1 ∷ 0x41 ∷ 0x1 ∷ 0x2e75f109 ∷ 0xffffffffffffffff ∷ 0xfffffffffffffffe ∷ 0xec9a360c5105122a ∷ 0x1b ∷ 0xea9d18b298772790 ∷ []) 0x6 7 0x100011664 0x200012000
    ∷ b 0x9b447cc7 (0x10fc8d4c7e544d56 ∷ 0x23a ∷ 0xd2a04da60990 ∷ 0x9b75036226bc9858 ∷ 0xffffffff ∷ 0xffffffffffffffff ∷ 0x7fffffff ∷ 0x2 ∷ 0x1 ∷ []) 0x8d76d7a17b50079e 10 0x100011714 0x200012100
    ∷ b 0x9bc17cc2 (0x4ff2f1cc ∷ 0x1 ∷ 0xfffffffffffffffe ∷ 0x3bf4 ∷ 0x7fffffffffffffff ∷ 0x3c2496ebac9261f1 ∷ 0xc61c96dbd8d4250d ∷ 0x32 ∷ 0x23c34725 ∷ []) 0x4109d8d65f7b07b8 8 0x1000117c4 0x200012200
    ∷ b 0x9bc37c43 (0x80000000 ∷ 0x30312932 ∷ 0x80000000 ∷ 0x86bc2b99 ∷ 0xa74068b219bd2640 ∷ 0x0 ∷ 0x7fffffffffffffff ∷ 0xd72e ∷ 0xffffffff ∷ []) 0x80000000 7 0x100011874 0x200012300 ∷ []) ≡
    ((0x1 ∷ 0x41 ∷ 0x1 ∷ 0x2e75f109 ∷ 0xffffffffffffffff ∷ 0xfffffffffffffffe ∷ 0xffffffffffffffff ∷ 0x1b ∷ 0xea9d18b298772790 ∷ 0x6 ∷ 0x100011668 ∷ 0x7 ∷ 0x58330ee9c49f7a55300be6c19c77522d08e3be99744f2a05e0bb96714c2702ddb8936e4924ffdab5906b4621fcd7b28d68431ef9d4af8a65 ∷ [])
    ∷ (0x10fc8d4c7e544d56 ∷ 0x23a ∷ 0xd2a04da60990 ∷ 0x9b75036226bc9858 ∷ 0xffffffff ∷ 0xffffffffffffffff ∷ 0x7fffffff ∷ 0x0 ∷ 0x1 ∷ 0x8d76d7a17b50079e ∷ 0x100011718 ∷ 0xa ∷ 0x633e19f4cfaa85603b16f1cca7825d3813eec9a47f5a3510ebc6a17c57320de8c39e79542f0ae5c09b76512c07e2bd98734e2904dfba9570 ∷ [])
    ∷ (0x4ff2f1cc ∷ 0x1 ∷ 0x0 ∷ 0x3bf4 ∷ 0x7fffffffffffffff ∷ 0x3c2496ebac9261f1 ∷ 0xc61c96dbd8d4250d ∷ 0x32 ∷ 0x23c34725 ∷ 0x4109d8d65f7b07b8 ∷ 0x1000117c8 ∷ 0x8 ∷ 0x6e4924ffdab5906b4621fcd7b28d68431ef9d4af8a65401bf6d1ac87623d18f3cea9845f3a15f0cba6815c3712edc8a37e59340feac5a07b ∷ [])
    ∷ (0x80000000 ∷ 0x30312932 ∷ 0x80000000 ∷ 0x0 ∷ 0xa74068b219bd2640 ∷ 0x0 ∷ 0x7fffffffffffffff ∷ 0xd72e ∷ 0xffffffff ∷ 0x80000000 ∷ 0x100011878 ∷ 0x7 ∷ 0x79542f0ae5c09b76512c07e2bd98734e2904dfba95704b2601dcb7926d4823fed9b48f6a4520fbd6b18c67421df8d3ae89643f1af5d0ab86 ∷ []) ∷ [])
unfolding step fetched Rattle.a64_meaning.specs.Access.plain_load Rattle.a64_meaning.specs.Access.in_cell Rattle.a64_meaning.specs.Access.is_cell Rattle.a64_meaning.specs.Access.found Rattle.a64_meaning.specs.Access.is_writable Rattle.a64_meaning.specs.Access.load Rattle.a64_meaning.specs.Access.store Rattle.a64_code.specs.Words.instruction Rattle.a64_meaning.specs.Effects.act Rattle.a64_meaning.specs.Numbers.holds Rattle.a64_meaning.specs.Numbers.shifted Rattle.a64_meaning.specs.Numbers.logical Rattle.a64_meaning.specs.Numbers.multiplied Rattle.a64_meaning.specs.Numbers.long_product Rattle.a64_meaning.specs.Numbers.high_product Rattle.a64_meaning.specs.Numbers.quotient Rattle.a64_meaning.specs.Numbers.bit_field Rattle.a64_meaning.specs.Numbers.moved_wide
multiply_high = refl

divide : map ran (b 0x1ac30c01 (0x954c2fc1d3f2e52d ∷ 0x1 ∷ 0x2 ∷ 0x80000000 ∷ 0x19ff2198825 ∷ 0x2 ∷ 0x37b79c485985ea3f ∷ 0xffffffff ∷ 0x7fffffff ∷ []) 0x99 6 0x100011924 0x200012400
    ∷ b 0x1ac20ca6 (0x3412882213f38870 ∷ 0x7fffffffffffffff ∷ 0x687dd5121032888d ∷ 0x100000000 ∷ 0xa3a16d922790bb01 ∷ 0x29e78b06a72ed508 ∷ 0x80000000 ∷ 0x80000000 ∷ 0xf4042f1e6af7ea31 ∷ []) 0xfffffffffffffffe 11 0x1000119d4 0x200012500
    ∷ b 0x9ac00cc6 (0x527e43105d20c6a6 ∷ 0xfffffffffffffffe ∷ 0x81 ∷ 0x2 ∷ 0x1 ∷ 0xffffffff ∷ 0x2 ∷ 0x0 ∷ 0xce74b3c4a402bb72 ∷ []) 0x92 11 0x100011a84 0x200012600
    ∷ b 0x9ac40ca2 (0x2 ∷ 0x62 ∷ 0x7fffffff ∷ 0x0 ∷ 0x5084c63f ∷ 0xfffffffe ∷ 0xfffffffffffffffe ∷ 0xe4219307d31615e5 ∷ 0x7fffffff ∷ []) 0xd8aa7be39d5ee2f9 6 0x100011b34 0x200012700
    ∷ b 0x1ac30847 (0x8000000000000000 ∷ 0xffffffff ∷ 0x7fffffff ∷ 0x18a6f9c3e5b5206e ∷ 0x8000000000000000 ∷ 0xaafb09c2cd73 ∷ 0x6c ∷ 0xd958b1e68cd03260 ∷ 0xa626b0974e640cd4 ∷ []) 0xffffffffffffffff 7 0x100011be4 0x200012800
    ∷ b 0x1adf08e5 (0x0 ∷ 0x7fffffffffffffff ∷ 0x7fffffffffffffff ∷ 0x3aa93718d1a80888 ∷ 0x333e6b057924dede ∷ 0x2 ∷ 0xffffffff ∷ 0x7fffffffffffffff ∷ 0xa6fb154a8376dcd ∷ []) 0x2 2 0x100011c94 0x200012900
    ∷ b 0x9ac10be5 (0x8000000000000000 ∷ 0xc8c4f36c1575 ∷ 0x74 ∷ 0xd0a3b14aed54 ∷ 0x2 ∷ 0x49b29bbe ∷ 0x57d33cc52a44bf93 ∷ 0x10c5 ∷ 0xc194ff53 ∷ []) 0xffffffffffffffff 8 0x100011d44 0x200012a00
    ∷ b 0x9ac70be4 (0x80000000 ∷ 0x51af10743cc63141 ∷ 0x7fffffff ∷ 0x2 ∷ 0xadff81654737fed1 ∷ 0x100000000 ∷ 0x80000000 ∷ 0x8000000000000000 ∷ 0xffffffff ∷ []) 0x8e2048dc 3 0x100011df4 0x200012b00
    ∷ b 0x1ac20c20 (0x5 ∷ 0x80000000 ∷ 0xffffffff ∷ 0x0 ∷ 0x0 ∷ 0x0 ∷ 0x0 ∷ 0x0 ∷ 0x0 ∷ []) 0x4bd4a21ca1e381f9 14 0x1000126e4 0x200013800
    ∷ b 0x9ac20c20 (0x5 ∷ 0x8000000000000000 ∷ 0xffffffffffffffff ∷ 0x0 ∷ 0x0 ∷ 0x0 ∷ 0x0 ∷ 0x0 ∷ 0x0 ∷ []) 0x80000000 12 0x100012794 0x200013900
    ∷ b 0x1ac20c20 (0x5 ∷ 0xfffffffffffffff8 ∷ 0x0 ∷ 0x0 ∷ 0x0 ∷ 0x0 ∷ 0x0 ∷ 0x0 ∷ 0x0 ∷ []) 0x7fffffff 13 0x100012844 0x200013a00
    ∷ b 0x1ac20c20 (0x5 ∷ 0xfffffffffffffff8 ∷ 0x2 ∷ 0x0 ∷ 0x0 ∷ 0x0 ∷ 0x0 ∷ 0x0 ∷ 0x0 ∷ []) 0xbfc5056e96619afb 13 0x1000128f4 0x200013b00
    ∷ b 0x1ac20c20 (0x5 ∷ 0xfffffffffffffff8 ∷ 0xfffffffffffffffd ∷ 0x0 ∷ 0x0 ∷ 0x0 ∷ 0x0 ∷ 0x0 ∷ 0x0 ∷ []) 0xa709b8e3621b 7 0x1000129a4 0x200013c00
    ∷ b 0x9ac20c20 (0x5 ∷ 0xfffffffffffffff8 ∷ 0x0 ∷ 0x0 ∷ 0x0 ∷ 0x0 ∷ 0x0 ∷ 0x0 ∷ 0x0 ∷ []) 0x1fcc9634a43be368 14 0x100012a54 0x200013d00
    ∷ b 0x9ac20c20 (0x5 ∷ 0xfffffffffffffff8 ∷ 0x2 ∷ 0x0 ∷ 0x0 ∷ 0x0 ∷ 0x0 ∷ 0x0 ∷ 0x0 ∷ []) 0x80000000 3 0x100012b04 0x200013e00
    ∷ b 0x9ac20c20 (0x5 ∷ 0xfffffffffffffff8 ∷ 0xfffffffffffffffd ∷ 0x0 ∷ 0x0 ∷ 0x0 ∷ 0x0 ∷ 0x0 ∷ 0x0 ∷ []) 0xc849 12 0x100012bb4 0x200013f00
    ∷ b 0x1ac20820 (0x5 ∷ 0xfffffffffffffff8 ∷ 0x0 ∷ 0x0 ∷ 0x0 ∷ 0x0 ∷ 0x0 ∷ 0x0 ∷ 0x0 ∷ []) 0x280da853a12e6df3 8 0x100012c64 0x200014000
    ∷ b 0x1ac20820 (0x5 ∷ 0xfffffffffffffff8 ∷ 0x2 ∷ 0x0 ∷ 0x0 ∷ 0x0 ∷ 0x0 ∷ 0x0 ∷ 0x0 ∷ []) 0x7487a00c 0 0x100012d14 0x200014100
    ∷ b 0x1ac20820 (0x5 ∷ 0xfffffffffffffff8 ∷ 0xfffffffffffffffd ∷ 0x0 ∷ 0x0 ∷ 0x0 ∷ 0x0 ∷ 0x0 ∷ 0x0 ∷ []) 0x84ac2e3068cacfe6 5 0x100012dc4 0x200014200
    ∷ b 0x9ac20820 (0x5 ∷ 0xfffffffffffffff8 ∷ 0x0 ∷ 0x0 ∷ 0x0 ∷ 0x0 ∷ 0x0 ∷ 0x0 ∷ 0x0 ∷ []) 0x639b6229 0 0x100012e74 0x200014300
    ∷ b 0x9ac20820 (0x5 ∷ 0xfffffffffffffff8 ∷ 0x2 ∷ 0x0 ∷ 0x0 ∷ 0x0 ∷ 0x0 ∷ 0x0 ∷ 0x0 ∷ []) 0x7fffffffffffffff 3 0x100012f24 0x200014400
    ∷ b 0x9ac20820 (0x5 ∷ 0xfffffffffffffff8 ∷ 0xfffffffffffffffd ∷ 0x0 ∷ 0x0 ∷ 0x0 ∷ 0x0 ∷ 0x0 ∷ 0x0 ∷ []) 0x8000000000000000 6 0x100012fd4 0x200014500 ∷ []) ≡
    ((0x954c2fc1d3f2e52d ∷ 0x0 ∷ 0x2 ∷ 0x80000000 ∷ 0x19ff2198825 ∷ 0x2 ∷ 0x37b79c485985ea3f ∷ 0xffffffff ∷ 0x7fffffff ∷ 0x99 ∷ 0x100011928 ∷ 0x6 ∷ 0x845f3a15f0cba6815c3712edc8a37e59340feac5a07b56310ce7c29d78532e09e4bf9a75502b06e1bc97724d2803deb9946f4a2500dbb691 ∷ [])
    ∷ (0x3412882213f38870 ∷ 0x7fffffffffffffff ∷ 0x687dd5121032888d ∷ 0x100000000 ∷ 0xa3a16d922790bb01 ∷ 0x29e78b06a72ed508 ∷ 0xfffffffb ∷ 0x80000000 ∷ 0xf4042f1e6af7ea31 ∷ 0xfffffffffffffffe ∷ 0x1000119d8 ∷ 0xb ∷ 0x8f6a4520fbd6b18c67421df8d3ae89643f1af5d0ab86613c17f2cda8835e3914efcaa5805b3611ecc7a27d58330ee9c49f7a55300be6c19c ∷ [])
    ∷ (0x527e43105d20c6a6 ∷ 0xfffffffffffffffe ∷ 0x81 ∷ 0x2 ∷ 0x1 ∷ 0xffffffff ∷ 0x0 ∷ 0x0 ∷ 0xce74b3c4a402bb72 ∷ 0x92 ∷ 0x100011a88 ∷ 0xb ∷ 0x9a75502b06e1bc97724d2803deb9946f4a2500dbb6916c4722fdd8b38e69441ffad5b08b66411cf7d2ad88633e19f4cfaa85603b16f1cca7 ∷ [])
    ∷ (0x2 ∷ 0x62 ∷ 0x3 ∷ 0x0 ∷ 0x5084c63f ∷ 0xfffffffe ∷ 0xfffffffffffffffe ∷ 0xe4219307d31615e5 ∷ 0x7fffffff ∷ 0xd8aa7be39d5ee2f9 ∷ 0x100011b38 ∷ 0x6 ∷ 0xa5805b3611ecc7a27d58330ee9c49f7a55300be6c19c77522d08e3be99744f2a05e0bb96714c2702ddb8936e4924ffdab5906b4621fcd7b2 ∷ [])
    ∷ (0x8000000000000000 ∷ 0xffffffff ∷ 0x7fffffff ∷ 0x18a6f9c3e5b5206e ∷ 0x8000000000000000 ∷ 0xaafb09c2cd73 ∷ 0x6c ∷ 0x0 ∷ 0xa626b0974e640cd4 ∷ 0xffffffffffffffff ∷ 0x100011be8 ∷ 0x7 ∷ 0xb08b66411cf7d2ad88633e19f4cfaa85603b16f1cca7825d3813eec9a47f5a3510ebc6a17c57320de8c39e79542f0ae5c09b76512c07e2bd ∷ [])
    ∷ (0x0 ∷ 0x7fffffffffffffff ∷ 0x7fffffffffffffff ∷ 0x3aa93718d1a80888 ∷ 0x333e6b057924dede ∷ 0x0 ∷ 0xffffffff ∷ 0x7fffffffffffffff ∷ 0xa6fb154a8376dcd ∷ 0x2 ∷ 0x100011c98 ∷ 0x2 ∷ 0xbb96714c2702ddb8936e4924ffdab5906b4621fcd7b28d68431ef9d4af8a65401bf6d1ac87623d18f3cea9845f3a15f0cba6815c3712edc8 ∷ [])
    ∷ (0x8000000000000000 ∷ 0xc8c4f36c1575 ∷ 0x74 ∷ 0xd0a3b14aed54 ∷ 0x2 ∷ 0x0 ∷ 0x57d33cc52a44bf93 ∷ 0x10c5 ∷ 0xc194ff53 ∷ 0xffffffffffffffff ∷ 0x100011d48 ∷ 0x8 ∷ 0xc6a17c57320de8c39e79542f0ae5c09b76512c07e2bd98734e2904dfba95704b2601dcb7926d4823fed9b48f6a4520fbd6b18c67421df8d3 ∷ [])
    ∷ (0x80000000 ∷ 0x51af10743cc63141 ∷ 0x7fffffff ∷ 0x2 ∷ 0x0 ∷ 0x100000000 ∷ 0x80000000 ∷ 0x8000000000000000 ∷ 0xffffffff ∷ 0x8e2048dc ∷ 0x100011df8 ∷ 0x3 ∷ 0xd1ac87623d18f3cea9845f3a15f0cba6815c3712edc8a37e59340feac5a07b56310ce7c29d78532e09e4bf9a75502b06e1bc97724d2803de ∷ [])
    ∷ (0x80000000 ∷ 0x80000000 ∷ 0xffffffff ∷ 0x0 ∷ 0x0 ∷ 0x0 ∷ 0x0 ∷ 0x0 ∷ 0x0 ∷ 0x4bd4a21ca1e381f9 ∷ 0x1000126e8 ∷ 0xe ∷ 0x603b16f1cca7825d3813eec9a47f5a3510ebc6a17c57320de8c39e79542f0ae5c09b76512c07e2bd98734e2904dfba95704b2601dcb7926d ∷ [])
    ∷ (0x8000000000000000 ∷ 0x8000000000000000 ∷ 0xffffffffffffffff ∷ 0x0 ∷ 0x0 ∷ 0x0 ∷ 0x0 ∷ 0x0 ∷ 0x0 ∷ 0x80000000 ∷ 0x100012798 ∷ 0xc ∷ 0x6b4621fcd7b28d68431ef9d4af8a65401bf6d1ac87623d18f3cea9845f3a15f0cba6815c3712edc8a37e59340feac5a07b56310ce7c29d78 ∷ [])
    ∷ (0x0 ∷ 0xfffffffffffffff8 ∷ 0x0 ∷ 0x0 ∷ 0x0 ∷ 0x0 ∷ 0x0 ∷ 0x0 ∷ 0x0 ∷ 0x7fffffff ∷ 0x100012848 ∷ 0xd ∷ 0x76512c07e2bd98734e2904dfba95704b2601dcb7926d4823fed9b48f6a4520fbd6b18c67421df8d3ae89643f1af5d0ab86613c17f2cda883 ∷ [])
    ∷ (0xfffffffc ∷ 0xfffffffffffffff8 ∷ 0x2 ∷ 0x0 ∷ 0x0 ∷ 0x0 ∷ 0x0 ∷ 0x0 ∷ 0x0 ∷ 0xbfc5056e96619afb ∷ 0x1000128f8 ∷ 0xd ∷ 0x815c3712edc8a37e59340feac5a07b56310ce7c29d78532e09e4bf9a75502b06e1bc97724d2803deb9946f4a2500dbb6916c4722fdd8b38e ∷ [])
    ∷ (0x2 ∷ 0xfffffffffffffff8 ∷ 0xfffffffffffffffd ∷ 0x0 ∷ 0x0 ∷ 0x0 ∷ 0x0 ∷ 0x0 ∷ 0x0 ∷ 0xa709b8e3621b ∷ 0x1000129a8 ∷ 0x7 ∷ 0x8c67421df8d3ae89643f1af5d0ab86613c17f2cda8835e3914efcaa5805b3611ecc7a27d58330ee9c49f7a55300be6c19c77522d08e3be99 ∷ [])
    ∷ (0x0 ∷ 0xfffffffffffffff8 ∷ 0x0 ∷ 0x0 ∷ 0x0 ∷ 0x0 ∷ 0x0 ∷ 0x0 ∷ 0x0 ∷ 0x1fcc9634a43be368 ∷ 0x100012a58 ∷ 0xe ∷ 0x97724d2803deb9946f4a2500dbb6916c4722fdd8b38e69441ffad5b08b66411cf7d2ad88633e19f4cfaa85603b16f1cca7825d3813eec9a4 ∷ [])
    ∷ (0xfffffffffffffffc ∷ 0xfffffffffffffff8 ∷ 0x2 ∷ 0x0 ∷ 0x0 ∷ 0x0 ∷ 0x0 ∷ 0x0 ∷ 0x0 ∷ 0x80000000 ∷ 0x100012b08 ∷ 0x3 ∷ 0xa27d58330ee9c49f7a55300be6c19c77522d08e3be99744f2a05e0bb96714c2702ddb8936e4924ffdab5906b4621fcd7b28d68431ef9d4af ∷ [])
    ∷ (0x2 ∷ 0xfffffffffffffff8 ∷ 0xfffffffffffffffd ∷ 0x0 ∷ 0x0 ∷ 0x0 ∷ 0x0 ∷ 0x0 ∷ 0x0 ∷ 0xc849 ∷ 0x100012bb8 ∷ 0xc ∷ 0xad88633e19f4cfaa85603b16f1cca7825d3813eec9a47f5a3510ebc6a17c57320de8c39e79542f0ae5c09b76512c07e2bd98734e2904dfba ∷ [])
    ∷ (0x0 ∷ 0xfffffffffffffff8 ∷ 0x0 ∷ 0x0 ∷ 0x0 ∷ 0x0 ∷ 0x0 ∷ 0x0 ∷ 0x0 ∷ 0x280da853a12e6df3 ∷ 0x100012c68 ∷ 0x8 ∷ 0xb8936e4924ffdab5906b4621fcd7b28d68431ef9d4af8a65401bf6d1ac87623d18f3cea9845f3a15f0cba6815c3712edc8a37e59340feac5 ∷ [])
    ∷ (0x7ffffffc ∷ 0xfffffffffffffff8 ∷ 0x2 ∷ 0x0 ∷ 0x0 ∷ 0x0 ∷ 0x0 ∷ 0x0 ∷ 0x0 ∷ 0x7487a00c ∷ 0x100012d18 ∷ 0x0 ∷ 0xc39e79542f0ae5c09b76512c07e2bd98734e2904dfba95704b2601dcb7926d4823fed9b48f6a4520fbd6b18c67421df8d3ae89643f1af5d0 ∷ [])
    ∷ (0x0 ∷ 0xfffffffffffffff8 ∷ 0xfffffffffffffffd ∷ 0x0 ∷ 0x0 ∷ 0x0 ∷ 0x0 ∷ 0x0 ∷ 0x0 ∷ 0x84ac2e3068cacfe6 ∷ 0x100012dc8 ∷ 0x5 ∷ 0xcea9845f3a15f0cba6815c3712edc8a37e59340feac5a07b56310ce7c29d78532e09e4bf9a75502b06e1bc97724d2803deb9946f4a2500db ∷ [])
    ∷ (0x0 ∷ 0xfffffffffffffff8 ∷ 0x0 ∷ 0x0 ∷ 0x0 ∷ 0x0 ∷ 0x0 ∷ 0x0 ∷ 0x0 ∷ 0x639b6229 ∷ 0x100012e78 ∷ 0x0 ∷ 0xd9b48f6a4520fbd6b18c67421df8d3ae89643f1af5d0ab86613c17f2cda8835e3914efcaa5805b3611ecc7a27d58330ee9c49f7a55300be6 ∷ [])
    ∷ (0x7ffffffffffffffc ∷ 0xfffffffffffffff8 ∷ 0x2 ∷ 0x0 ∷ 0x0 ∷ 0x0 ∷ 0x0 ∷ 0x0 ∷ 0x0 ∷ 0x7fffffffffffffff ∷ 0x100012f28 ∷ 0x3 ∷ 0xe4bf9a75502b06e1bc97724d2803deb9946f4a2500dbb6916c4722fdd8b38e69441ffad5b08b66411cf7d2ad88633e19f4cfaa85603b16f1 ∷ [])
    ∷ (0x0 ∷ 0xfffffffffffffff8 ∷ 0xfffffffffffffffd ∷ 0x0 ∷ 0x0 ∷ 0x0 ∷ 0x0 ∷ 0x0 ∷ 0x0 ∷ 0x8000000000000000 ∷ 0x100012fd8 ∷ 0x6 ∷ 0xefcaa5805b3611ecc7a27d58330ee9c49f7a55300be6c19c77522d08e3be99744f2a05e0bb96714c2702ddb8936e4924ffdab5906b4621fc ∷ []) ∷ [])
unfolding step fetched Rattle.a64_meaning.specs.Access.plain_load Rattle.a64_meaning.specs.Access.in_cell Rattle.a64_meaning.specs.Access.is_cell Rattle.a64_meaning.specs.Access.found Rattle.a64_meaning.specs.Access.is_writable Rattle.a64_meaning.specs.Access.load Rattle.a64_meaning.specs.Access.store Rattle.a64_code.specs.Words.instruction Rattle.a64_meaning.specs.Effects.act Rattle.a64_meaning.specs.Numbers.holds Rattle.a64_meaning.specs.Numbers.shifted Rattle.a64_meaning.specs.Numbers.logical Rattle.a64_meaning.specs.Numbers.multiplied Rattle.a64_meaning.specs.Numbers.long_product Rattle.a64_meaning.specs.Numbers.high_product Rattle.a64_meaning.specs.Numbers.quotient Rattle.a64_meaning.specs.Numbers.bit_field Rattle.a64_meaning.specs.Numbers.moved_wide
divide = refl

shift_variable : map ran (b 0x1ac623e4 (0x43c6ed1e5f186904 ∷ 0xffffffff ∷ 0x54b133015c396f5e ∷ 0x3ae46155 ∷ 0x26 ∷ 0x68f000a7 ∷ 0xa3a517594f60e846 ∷ 0x76d7c07995fb98f9 ∷ 0xbba86df75009c0a9 ∷ []) 0x0 7 0x100011ea4 0x200012c00
    ∷ b 0x1adf20c6 (0x0 ∷ 0x7fffffff ∷ 0x5b4c4250bab5f9f ∷ 0xffffffffffffffff ∷ 0x1 ∷ 0x3969091988bba317 ∷ 0x80000000 ∷ 0x5dc18bce34456d5b ∷ 0x289b8ba979932a50 ∷ []) 0x7fffffff 4 0x100011f54 0x200012d00
    ∷ b 0x9ac12027 (0xaa5c6817df0c92b9 ∷ 0xcfc31601 ∷ 0x0 ∷ 0x3 ∷ 0x1a5464f6d ∷ 0x8000000000000000 ∷ 0x2a43f0473f9d8024 ∷ 0xf ∷ 0x2f87466e67eee099 ∷ []) 0x0 3 0x100012004 0x200012e00
    ∷ b 0x9ac320c2 (0x81c75baba48792c5 ∷ 0xd039b9636a4d76e6 ∷ 0x4f33b0ee823209b5 ∷ 0xfffffffe ∷ 0xfffffffffffffffe ∷ 0x1a089d4ff98 ∷ 0x100000000 ∷ 0x149a3e17771ba4ba ∷ 0x2ce678fe73d63426 ∷ []) 0x1 8 0x1000120b4 0x200012f00
    ∷ b 0x1ac12403 (0xfffffffffffffffe ∷ 0x5b18780243678856 ∷ 0xfffffffe ∷ 0xaf8c3e746fa126a8 ∷ 0xf8cde59b ∷ 0x63 ∷ 0x8000000000000000 ∷ 0x80000000 ∷ 0x19f49391be6ed515 ∷ []) 0x53adea3ab6d2 6 0x100012164 0x200013000
    ∷ b 0x1adf24c3 (0x8000000000000000 ∷ 0x6c9cd95db869c8a ∷ 0xfffffffffffffffe ∷ 0x80000000 ∷ 0x9f6428ef ∷ 0xe929840090b13f30 ∷ 0x0 ∷ 0x1 ∷ 0x5848fc64296c764d ∷ []) 0x7e7075b058b 1 0x100012214 0x200013100
    ∷ b 0x9ac12402 (0xdb43738610d5fe14 ∷ 0x33061fbc5d082eea ∷ 0x7215785688ad4972 ∷ 0x19 ∷ 0x6243f1bf55ed ∷ 0x7fffffff ∷ 0x0 ∷ 0xfffffffe ∷ 0xfffffffe ∷ []) 0x19918b8a7a243b32 4 0x1000122c4 0x200013200
    ∷ b 0x9ac524a4 (0x0 ∷ 0x80000000 ∷ 0xffffffff ∷ 0x4d0e9c3bf6c8a64a ∷ 0x49a35964d9f3dd45 ∷ 0xc9ff909007ee64fe ∷ 0x100000000 ∷ 0x58c6aeea192a2829 ∷ 0x0 ∷ []) 0xb6e244823771690c 2 0x100012374 0x200013300
    ∷ b 0x1ac62844 (0x7fffffff ∷ 0x0 ∷ 0x7fffffffffffffff ∷ 0xfffffffffffffffe ∷ 0xf797 ∷ 0xffffffff ∷ 0x142b50c7c ∷ 0x14 ∷ 0xfffffffffffffffe ∷ []) 0x2 3 0x100012424 0x200013400
    ∷ b 0x1ac5283f (0x100000000 ∷ 0x6c10160f6d6e ∷ 0x5f ∷ 0x80000000 ∷ 0x8000000000000000 ∷ 0xfb7f36ee611a245e ∷ 0xf1a4 ∷ 0x8000000000000000 ∷ 0xc0c3ea0cb071b0da ∷ []) 0x5936578308aca106 10 0x1000124d4 0x200013500
    ∷ b 0x9ac7285f (0x52c602e2bdf2e077 ∷ 0x7fffffffffffffff ∷ 0x9444785741d8b452 ∷ 0x29 ∷ 0xfffffffffffffffe ∷ 0x7fffffff ∷ 0xfffffffffffffffe ∷ 0x127937e85 ∷ 0x7fffffff ∷ []) 0x85ad81d79a575555 11 0x100012584 0x200013600
    ∷ b 0x9ac42865 (0x1a0ffeb36d43 ∷ 0xfffffffe ∷ 0x100000000 ∷ 0x2 ∷ 0x6f574c22b1f4 ∷ 0x1 ∷ 0x47e2cc361b5bd042 ∷ 0x100000000 ∷ 0x0 ∷ []) 0x100000000 7 0x100012634 0x200013700 ∷ []) ≡
    ((0x43c6ed1e5f186904 ∷ 0xffffffff ∷ 0x54b133015c396f5e ∷ 0x3ae46155 ∷ 0x0 ∷ 0x68f000a7 ∷ 0xa3a517594f60e846 ∷ 0x76d7c07995fb98f9 ∷ 0xbba86df75009c0a9 ∷ 0x0 ∷ 0x100011ea8 ∷ 0x7 ∷ 0xdcb7926d4823fed9b48f6a4520fbd6b18c67421df8d3ae89643f1af5d0ab86613c17f2cda8835e3914efcaa5805b3611ecc7a27d58330ee9 ∷ [])
    ∷ (0x0 ∷ 0x7fffffff ∷ 0x5b4c4250bab5f9f ∷ 0xffffffffffffffff ∷ 0x1 ∷ 0x3969091988bba317 ∷ 0x80000000 ∷ 0x5dc18bce34456d5b ∷ 0x289b8ba979932a50 ∷ 0x7fffffff ∷ 0x100011f58 ∷ 0x4 ∷ 0xe7c29d78532e09e4bf9a75502b06e1bc97724d2803deb9946f4a2500dbb6916c4722fdd8b38e69441ffad5b08b66411cf7d2ad88633e19f4 ∷ [])
    ∷ (0xaa5c6817df0c92b9 ∷ 0xcfc31601 ∷ 0x0 ∷ 0x3 ∷ 0x1a5464f6d ∷ 0x8000000000000000 ∷ 0x2a43f0473f9d8024 ∷ 0x19f862c02 ∷ 0x2f87466e67eee099 ∷ 0x0 ∷ 0x100012008 ∷ 0x3 ∷ 0xf2cda8835e3914efcaa5805b3611ecc7a27d58330ee9c49f7a55300be6c19c77522d08e3be99744f2a05e0bb96714c2702ddb8936e4924ff ∷ [])
    ∷ (0x81c75baba48792c5 ∷ 0xd039b9636a4d76e6 ∷ 0x0 ∷ 0xfffffffe ∷ 0xfffffffffffffffe ∷ 0x1a089d4ff98 ∷ 0x100000000 ∷ 0x149a3e17771ba4ba ∷ 0x2ce678fe73d63426 ∷ 0x1 ∷ 0x1000120b8 ∷ 0x8 ∷ 0xfdd8b38e69441ffad5b08b66411cf7d2ad88633e19f4cfaa85603b16f1cca7825d3813eec9a47f5a3510ebc6a17c57320de8c39e79542f0a ∷ [])
    ∷ (0xfffffffffffffffe ∷ 0x5b18780243678856 ∷ 0xfffffffe ∷ 0x3ff ∷ 0xf8cde59b ∷ 0x63 ∷ 0x8000000000000000 ∷ 0x80000000 ∷ 0x19f49391be6ed515 ∷ 0x53adea3ab6d2 ∷ 0x100012168 ∷ 0x6 ∷ 0x8e3be99744f2a05e0bb96714c2702ddb8936e4924ffdab5906b4621fcd7b28d68431ef9d4af8a65401bf6d1ac87623d18f3cea9845f3a15 ∷ [])
    ∷ (0x8000000000000000 ∷ 0x6c9cd95db869c8a ∷ 0xfffffffffffffffe ∷ 0x0 ∷ 0x9f6428ef ∷ 0xe929840090b13f30 ∷ 0x0 ∷ 0x1 ∷ 0x5848fc64296c764d ∷ 0x7e7075b058b ∷ 0x100012218 ∷ 0x1 ∷ 0x13eec9a47f5a3510ebc6a17c57320de8c39e79542f0ae5c09b76512c07e2bd98734e2904dfba95704b2601dcb7926d4823fed9b48f6a4520 ∷ [])
    ∷ (0xdb43738610d5fe14 ∷ 0x33061fbc5d082eea ∷ 0x36d0dc ∷ 0x19 ∷ 0x6243f1bf55ed ∷ 0x7fffffff ∷ 0x0 ∷ 0xfffffffe ∷ 0xfffffffe ∷ 0x19918b8a7a243b32 ∷ 0x1000122c8 ∷ 0x4 ∷ 0x1ef9d4af8a65401bf6d1ac87623d18f3cea9845f3a15f0cba6815c3712edc8a37e59340feac5a07b56310ce7c29d78532e09e4bf9a75502b ∷ [])
    ∷ (0x0 ∷ 0x80000000 ∷ 0xffffffff ∷ 0x4d0e9c3bf6c8a64a ∷ 0x3 ∷ 0xc9ff909007ee64fe ∷ 0x100000000 ∷ 0x58c6aeea192a2829 ∷ 0x0 ∷ 0xb6e244823771690c ∷ 0x100012378 ∷ 0x2 ∷ 0x2904dfba95704b2601dcb7926d4823fed9b48f6a4520fbd6b18c67421df8d3ae89643f1af5d0ab86613c17f2cda8835e3914efcaa5805b36 ∷ [])
    ∷ (0x7fffffff ∷ 0x0 ∷ 0x7fffffffffffffff ∷ 0xfffffffffffffffe ∷ 0xffffffff ∷ 0xffffffff ∷ 0x142b50c7c ∷ 0x14 ∷ 0xfffffffffffffffe ∷ 0x2 ∷ 0x100012428 ∷ 0x3 ∷ 0x340feac5a07b56310ce7c29d78532e09e4bf9a75502b06e1bc97724d2803deb9946f4a2500dbb6916c4722fdd8b38e69441ffad5b08b6641 ∷ [])
    ∷ (0x100000000 ∷ 0x6c10160f6d6e ∷ 0x5f ∷ 0x80000000 ∷ 0x8000000000000000 ∷ 0xfb7f36ee611a245e ∷ 0xf1a4 ∷ 0x8000000000000000 ∷ 0xc0c3ea0cb071b0da ∷ 0x5936578308aca106 ∷ 0x1000124d8 ∷ 0xa ∷ 0x3f1af5d0ab86613c17f2cda8835e3914efcaa5805b3611ecc7a27d58330ee9c49f7a55300be6c19c77522d08e3be99744f2a05e0bb96714c ∷ [])
    ∷ (0x52c602e2bdf2e077 ∷ 0x7fffffffffffffff ∷ 0x9444785741d8b452 ∷ 0x29 ∷ 0xfffffffffffffffe ∷ 0x7fffffff ∷ 0xfffffffffffffffe ∷ 0x127937e85 ∷ 0x7fffffff ∷ 0x85ad81d79a575555 ∷ 0x100012588 ∷ 0xb ∷ 0x4a2500dbb6916c4722fdd8b38e69441ffad5b08b66411cf7d2ad88633e19f4cfaa85603b16f1cca7825d3813eec9a47f5a3510ebc6a17c57 ∷ [])
    ∷ (0x1a0ffeb36d43 ∷ 0xfffffffe ∷ 0x100000000 ∷ 0x2 ∷ 0x6f574c22b1f4 ∷ 0x0 ∷ 0x47e2cc361b5bd042 ∷ 0x100000000 ∷ 0x0 ∷ 0x100000000 ∷ 0x100012638 ∷ 0x7 ∷ 0x55300be6c19c77522d08e3be99744f2a05e0bb96714c2702ddb8936e4924ffdab5906b4621fcd7b28d68431ef9d4af8a65401bf6d1ac8762 ∷ []) ∷ [])
unfolding step fetched Rattle.a64_meaning.specs.Access.plain_load Rattle.a64_meaning.specs.Access.in_cell Rattle.a64_meaning.specs.Access.is_cell Rattle.a64_meaning.specs.Access.found Rattle.a64_meaning.specs.Access.is_writable Rattle.a64_meaning.specs.Access.load Rattle.a64_meaning.specs.Access.store Rattle.a64_code.specs.Words.instruction Rattle.a64_meaning.specs.Effects.act Rattle.a64_meaning.specs.Numbers.holds Rattle.a64_meaning.specs.Numbers.shifted Rattle.a64_meaning.specs.Numbers.logical Rattle.a64_meaning.specs.Numbers.multiplied Rattle.a64_meaning.specs.Numbers.long_product Rattle.a64_meaning.specs.Numbers.high_product Rattle.a64_meaning.specs.Numbers.quotient Rattle.a64_meaning.specs.Numbers.bit_field Rattle.a64_meaning.specs.Numbers.moved_wide
shift_variable = refl

bitfield : map ran (b 0x130d0062 (0xcae5a871a3a6a0a9 ∷ 0x57c52302 ∷ 0x35c86b7874f806f2 ∷ 0x647a ∷ 0x1f55411eeec4e799 ∷ 0x5b0047539d2f4116 ∷ 0x463c465040a111b9 ∷ 0x0 ∷ 0x100000000 ∷ []) 0xacc5b2c0b0bc 11 0x100013084 0x200014600
    ∷ b 0x130e7c24 (0x2 ∷ 0x1 ∷ 0x781a3173b8d9 ∷ 0x39da457ab8801b29 ∷ 0x5a66 ∷ 0xd198e3b8d4a8b1a7 ∷ 0x77d5759d ∷ 0x532656ea8c5b45df ∷ 0x7fffffffffffffff ∷ []) 0x7fffffff 8 0x100013134 0x200014700
    ∷ b 0x13006c86 (0x2dd2344047fd7d46 ∷ 0x80000000 ∷ 0x7fffffffffffffff ∷ 0xfffffffe ∷ 0xffffffff ∷ 0x80000000 ∷ 0x15 ∷ 0x645b5f0f ∷ 0xd4d1e969 ∷ []) 0xa845063a03d61cbf 0 0x1000131e4 0x200014800
    ∷ b 0x937ffc23 (0x7fffffffffffffff ∷ 0x2 ∷ 0x100000000 ∷ 0x9c09 ∷ 0x1fa281648 ∷ 0x8000000000000000 ∷ 0x19436fd74c0b0f70 ∷ 0x7fffffff ∷ 0xd6db0106bdedf0d4 ∷ []) 0x1 3 0x100013294 0x200014900
    ∷ b 0x934000c4 (0x2 ∷ 0x7f8870a93f1efd5b ∷ 0xffffffffffffffff ∷ 0x29 ∷ 0xb2258e57 ∷ 0x4bfc3a30aa5122f7 ∷ 0x368113e1 ∷ 0xfffffffe ∷ 0xfffffffe ∷ []) 0xfffffffe 0 0x100013344 0x200014a00
    ∷ b 0x937f0000 (0xfffffffffffffffe ∷ 0x2 ∷ 0xfffffffe ∷ 0x7fffffffffffffff ∷ 0x1c5445ce8 ∷ 0x100000000 ∷ 0x80000000 ∷ 0x4a059e92d3a43d90 ∷ 0x7fffffffffffffff ∷ []) 0x8000000000000000 8 0x1000133f4 0x200014b00
    ∷ b 0x531f34bf (0xfffffffffffffffe ∷ 0xffffffffffffffff ∷ 0xc8 ∷ 0xb9015459 ∷ 0x8b9f684a67f186a2 ∷ 0x4ce76f146602ec12 ∷ 0x0 ∷ 0x7fffffffffffffff ∷ 0xf65e8f4a873af26 ∷ []) 0x9c9affde 4 0x1000134a4 0x200014c00
    ∷ b 0x53000861 (0x9775df3de84465a ∷ 0x1 ∷ 0x5e6e036feab9 ∷ 0xc95a ∷ 0xfffffffffffffffe ∷ 0x80000000 ∷ 0x0 ∷ 0x100000000 ∷ 0xef115a1b940a1624 ∷ []) 0x914829fa 1 0x100013554 0x200014d00
    ∷ b 0x53007cc1 (0xf00e60f8fe3d856b ∷ 0x79b6fcb927c17a26 ∷ 0x1a1f80d1 ∷ 0xe551550e3657c7bb ∷ 0x0 ∷ 0x0 ∷ 0xfc94fa421f25d23d ∷ 0x37 ∷ 0x78ea ∷ []) 0xfffffffffffffffe 7 0x100013604 0x200014e00
    ∷ b 0xd352fc47 (0x7f834533b5906f57 ∷ 0x80000000 ∷ 0xb7 ∷ 0x0 ∷ 0xfffffffe ∷ 0x1465f2339e43e933 ∷ 0x80000000 ∷ 0xf52bc6552a7ec806 ∷ 0x9be4078c ∷ []) 0xffffffff 14 0x1000136b4 0x200014f00
    ∷ b 0xd3540047 (0x7fffffffffffffff ∷ 0x488d71c6c13897b4 ∷ 0x80000000 ∷ 0xfffffffe ∷ 0x99933bf7d3d10e24 ∷ 0xffffffffffffffff ∷ 0xd4cf50a703f7d891 ∷ 0x80000000 ∷ 0xe35c18a0f9f4886c ∷ []) 0x100000000 12 0x100013764 0x200015000
    ∷ b 0xd34090e3 (0x2 ∷ 0xc3693486d0e47843 ∷ 0x49 ∷ 0x6f009415e3ff2dd0 ∷ 0x461a ∷ 0x461fe2f3ce99b522 ∷ 0x7ffe6c7de9eb7933 ∷ 0x1 ∷ 0xcc21a87a7c1964bb ∷ []) 0xfffffffffffffffe 7 0x100013814 0x200015100 ∷ []) ≡
    ((0xcae5a871a3a6a0a9 ∷ 0x57c52302 ∷ 0x0 ∷ 0x647a ∷ 0x1f55411eeec4e799 ∷ 0x5b0047539d2f4116 ∷ 0x463c465040a111b9 ∷ 0x0 ∷ 0x100000000 ∷ 0xacc5b2c0b0bc ∷ 0x100013088 ∷ 0xb ∷ 0xfad5b08b66411cf7d2ad88633e19f4cfaa85603b16f1cca7825d3813eec9a47f5a3510ebc6a17c57320de8c39e79542f0ae5c09b76512c07 ∷ [])
    ∷ (0x2 ∷ 0x1 ∷ 0x781a3173b8d9 ∷ 0x39da457ab8801b29 ∷ 0x0 ∷ 0xd198e3b8d4a8b1a7 ∷ 0x77d5759d ∷ 0x532656ea8c5b45df ∷ 0x7fffffffffffffff ∷ 0x7fffffff ∷ 0x100013138 ∷ 0x8 ∷ 0x5e0bb96714c2702ddb8936e4924ffdab5906b4621fcd7b28d68431ef9d4af8a65401bf6d1ac87623d18f3cea9845f3a15f0cba6815c3712 ∷ [])
    ∷ (0x2dd2344047fd7d46 ∷ 0x80000000 ∷ 0x7fffffffffffffff ∷ 0xfffffffe ∷ 0xffffffff ∷ 0x80000000 ∷ 0xffffffff ∷ 0x645b5f0f ∷ 0xd4d1e969 ∷ 0xa845063a03d61cbf ∷ 0x1000131e8 ∷ 0x0 ∷ 0x10ebc6a17c57320de8c39e79542f0ae5c09b76512c07e2bd98734e2904dfba95704b2601dcb7926d4823fed9b48f6a4520fbd6b18c67421d ∷ [])
    ∷ (0x7fffffffffffffff ∷ 0x2 ∷ 0x100000000 ∷ 0x0 ∷ 0x1fa281648 ∷ 0x8000000000000000 ∷ 0x19436fd74c0b0f70 ∷ 0x7fffffff ∷ 0xd6db0106bdedf0d4 ∷ 0x1 ∷ 0x100013298 ∷ 0x3 ∷ 0x1bf6d1ac87623d18f3cea9845f3a15f0cba6815c3712edc8a37e59340feac5a07b56310ce7c29d78532e09e4bf9a75502b06e1bc97724d28 ∷ [])
    ∷ (0x2 ∷ 0x7f8870a93f1efd5b ∷ 0xffffffffffffffff ∷ 0x29 ∷ 0xffffffffffffffff ∷ 0x4bfc3a30aa5122f7 ∷ 0x368113e1 ∷ 0xfffffffe ∷ 0xfffffffe ∷ 0xfffffffe ∷ 0x100013348 ∷ 0x0 ∷ 0x2601dcb7926d4823fed9b48f6a4520fbd6b18c67421df8d3ae89643f1af5d0ab86613c17f2cda8835e3914efcaa5805b3611ecc7a27d5833 ∷ [])
    ∷ (0x0 ∷ 0x2 ∷ 0xfffffffe ∷ 0x7fffffffffffffff ∷ 0x1c5445ce8 ∷ 0x100000000 ∷ 0x80000000 ∷ 0x4a059e92d3a43d90 ∷ 0x7fffffffffffffff ∷ 0x8000000000000000 ∷ 0x1000133f8 ∷ 0x8 ∷ 0x310ce7c29d78532e09e4bf9a75502b06e1bc97724d2803deb9946f4a2500dbb6916c4722fdd8b38e69441ffad5b08b66411cf7d2ad88633e ∷ [])
    ∷ (0xfffffffffffffffe ∷ 0xffffffffffffffff ∷ 0xc8 ∷ 0xb9015459 ∷ 0x8b9f684a67f186a2 ∷ 0x4ce76f146602ec12 ∷ 0x0 ∷ 0x7fffffffffffffff ∷ 0xf65e8f4a873af26 ∷ 0x9c9affde ∷ 0x1000134a8 ∷ 0x4 ∷ 0x3c17f2cda8835e3914efcaa5805b3611ecc7a27d58330ee9c49f7a55300be6c19c77522d08e3be99744f2a05e0bb96714c2702ddb8936e49 ∷ [])
    ∷ (0x9775df3de84465a ∷ 0x2 ∷ 0x5e6e036feab9 ∷ 0xc95a ∷ 0xfffffffffffffffe ∷ 0x80000000 ∷ 0x0 ∷ 0x100000000 ∷ 0xef115a1b940a1624 ∷ 0x914829fa ∷ 0x100013558 ∷ 0x1 ∷ 0x4722fdd8b38e69441ffad5b08b66411cf7d2ad88633e19f4cfaa85603b16f1cca7825d3813eec9a47f5a3510ebc6a17c57320de8c39e7954 ∷ [])
    ∷ (0xf00e60f8fe3d856b ∷ 0x1f25d23d ∷ 0x1a1f80d1 ∷ 0xe551550e3657c7bb ∷ 0x0 ∷ 0x0 ∷ 0xfc94fa421f25d23d ∷ 0x37 ∷ 0x78ea ∷ 0xfffffffffffffffe ∷ 0x100013608 ∷ 0x7 ∷ 0x522d08e3be99744f2a05e0bb96714c2702ddb8936e4924ffdab5906b4621fcd7b28d68431ef9d4af8a65401bf6d1ac87623d18f3cea9845f ∷ [])
    ∷ (0x7f834533b5906f57 ∷ 0x80000000 ∷ 0xb7 ∷ 0x0 ∷ 0xfffffffe ∷ 0x1465f2339e43e933 ∷ 0x80000000 ∷ 0x0 ∷ 0x9be4078c ∷ 0xffffffff ∷ 0x1000136b8 ∷ 0xe ∷ 0x5d3813eec9a47f5a3510ebc6a17c57320de8c39e79542f0ae5c09b76512c07e2bd98734e2904dfba95704b2601dcb7926d4823fed9b48f6a ∷ [])
    ∷ (0x7fffffffffffffff ∷ 0x488d71c6c13897b4 ∷ 0x80000000 ∷ 0xfffffffe ∷ 0x99933bf7d3d10e24 ∷ 0xffffffffffffffff ∷ 0xd4cf50a703f7d891 ∷ 0x0 ∷ 0xe35c18a0f9f4886c ∷ 0x100000000 ∷ 0x100013768 ∷ 0xc ∷ 0x68431ef9d4af8a65401bf6d1ac87623d18f3cea9845f3a15f0cba6815c3712edc8a37e59340feac5a07b56310ce7c29d78532e09e4bf9a75 ∷ [])
    ∷ (0x2 ∷ 0xc3693486d0e47843 ∷ 0x49 ∷ 0x1 ∷ 0x461a ∷ 0x461fe2f3ce99b522 ∷ 0x7ffe6c7de9eb7933 ∷ 0x1 ∷ 0xcc21a87a7c1964bb ∷ 0xfffffffffffffffe ∷ 0x100013818 ∷ 0x7 ∷ 0x734e2904dfba95704b2601dcb7926d4823fed9b48f6a4520fbd6b18c67421df8d3ae89643f1af5d0ab86613c17f2cda8835e3914efcaa580 ∷ []) ∷ [])
unfolding step fetched Rattle.a64_meaning.specs.Access.plain_load Rattle.a64_meaning.specs.Access.in_cell Rattle.a64_meaning.specs.Access.is_cell Rattle.a64_meaning.specs.Access.found Rattle.a64_meaning.specs.Access.is_writable Rattle.a64_meaning.specs.Access.load Rattle.a64_meaning.specs.Access.store Rattle.a64_code.specs.Words.instruction Rattle.a64_meaning.specs.Effects.act Rattle.a64_meaning.specs.Numbers.holds Rattle.a64_meaning.specs.Numbers.shifted Rattle.a64_meaning.specs.Numbers.logical Rattle.a64_meaning.specs.Numbers.multiplied Rattle.a64_meaning.specs.Numbers.long_product Rattle.a64_meaning.specs.Numbers.high_product Rattle.a64_meaning.specs.Numbers.quotient Rattle.a64_meaning.specs.Numbers.bit_field Rattle.a64_meaning.specs.Numbers.moved_wide
bitfield = refl

move_wide : map ran (b 0x12a00004 (0x7fffffff ∷ 0xc04a4a4c ∷ 0x8a6243fd ∷ 0xffffffff ∷ 0x65ef ∷ 0x42715046e59d2552 ∷ 0x522c9583 ∷ 0x306c3a5a33adba6f ∷ 0x1 ∷ []) 0xfffffffffffffffe 9 0x1000138c4 0x200015200
    ∷ b 0x92d27de5 (0x8000000000000000 ∷ 0xb6a ∷ 0x5fc11cc0 ∷ 0x50fdb478 ∷ 0x1 ∷ 0xffffffffffffffff ∷ 0x80000000 ∷ 0x1815f07d0544152f ∷ 0xffffffffffffffff ∷ []) 0xffffffffffffffff 6 0x100013974 0x200015300
    ∷ b 0x52bfffe4 (0x7fffffffffffffff ∷ 0x7b52ed129bd541eb ∷ 0x0 ∷ 0x2 ∷ 0x0 ∷ 0x8000000000000000 ∷ 0xfffffffffffffffe ∷ 0x1 ∷ 0xec1265bbc9f7 ∷ []) 0x1 8 0x100013a24 0x200015400
    ∷ b 0xd2800005 (0x64a381aa0cf0 ∷ 0x2 ∷ 0x7fffffff ∷ 0x2c10 ∷ 0x80000000 ∷ 0xe7 ∷ 0xd653e980071cfbc9 ∷ 0x64a7e0d5 ∷ 0xa58d41a4bd5480a6 ∷ []) 0xe46ccb3 3 0x100013ad4 0x200015500
    ∷ b 0x72800002 (0x96fc31a04c7dae57 ∷ 0xa70b407ec2059717 ∷ 0xffffffff ∷ 0x100000000 ∷ 0x7fffffffffffffff ∷ 0x7fffffffffffffff ∷ 0x2 ∷ 0x77 ∷ 0xcc81635631f251c2 ∷ []) 0x7fffffff 2 0x100013b84 0x200015600
    ∷ b 0xf2bc7045 (0xed ∷ 0x506e730205907fd1 ∷ 0xffffffff ∷ 0x7fffffff ∷ 0xfffffffe ∷ 0xffffffff ∷ 0x0 ∷ 0x7fffffffffffffff ∷ 0x706067ab250bc6e7 ∷ []) 0x3589a483 13 0x100013c34 0x200015700 ∷ []) ≡
    ((0x7fffffff ∷ 0xc04a4a4c ∷ 0x8a6243fd ∷ 0xffffffff ∷ 0xffffffff ∷ 0x42715046e59d2552 ∷ 0x522c9583 ∷ 0x306c3a5a33adba6f ∷ 0x1 ∷ 0xfffffffffffffffe ∷ 0x1000138c8 ∷ 0x9 ∷ 0x7e59340feac5a07b56310ce7c29d78532e09e4bf9a75502b06e1bc97724d2803deb9946f4a2500dbb6916c4722fdd8b38e69441ffad5b08b ∷ [])
    ∷ (0x8000000000000000 ∷ 0xb6a ∷ 0x5fc11cc0 ∷ 0x50fdb478 ∷ 0x1 ∷ 0xffff6c10ffffffff ∷ 0x80000000 ∷ 0x1815f07d0544152f ∷ 0xffffffffffffffff ∷ 0xffffffffffffffff ∷ 0x100013978 ∷ 0x6 ∷ 0x89643f1af5d0ab86613c17f2cda8835e3914efcaa5805b3611ecc7a27d58330ee9c49f7a55300be6c19c77522d08e3be99744f2a05e0bb96 ∷ [])
    ∷ (0x7fffffffffffffff ∷ 0x7b52ed129bd541eb ∷ 0x0 ∷ 0x2 ∷ 0xffff0000 ∷ 0x8000000000000000 ∷ 0xfffffffffffffffe ∷ 0x1 ∷ 0xec1265bbc9f7 ∷ 0x1 ∷ 0x100013a28 ∷ 0x8 ∷ 0x946f4a2500dbb6916c4722fdd8b38e69441ffad5b08b66411cf7d2ad88633e19f4cfaa85603b16f1cca7825d3813eec9a47f5a3510ebc6a1 ∷ [])
    ∷ (0x64a381aa0cf0 ∷ 0x2 ∷ 0x7fffffff ∷ 0x2c10 ∷ 0x80000000 ∷ 0x0 ∷ 0xd653e980071cfbc9 ∷ 0x64a7e0d5 ∷ 0xa58d41a4bd5480a6 ∷ 0xe46ccb3 ∷ 0x100013ad8 ∷ 0x3 ∷ 0x9f7a55300be6c19c77522d08e3be99744f2a05e0bb96714c2702ddb8936e4924ffdab5906b4621fcd7b28d68431ef9d4af8a65401bf6d1ac ∷ [])
    ∷ (0x96fc31a04c7dae57 ∷ 0xa70b407ec2059717 ∷ 0xffff0000 ∷ 0x100000000 ∷ 0x7fffffffffffffff ∷ 0x7fffffffffffffff ∷ 0x2 ∷ 0x77 ∷ 0xcc81635631f251c2 ∷ 0x7fffffff ∷ 0x100013b88 ∷ 0x2 ∷ 0xaa85603b16f1cca7825d3813eec9a47f5a3510ebc6a17c57320de8c39e79542f0ae5c09b76512c07e2bd98734e2904dfba95704b2601dcb7 ∷ [])
    ∷ (0xed ∷ 0x506e730205907fd1 ∷ 0xffffffff ∷ 0x7fffffff ∷ 0xfffffffe ∷ 0xe382ffff ∷ 0x0 ∷ 0x7fffffffffffffff ∷ 0x706067ab250bc6e7 ∷ 0x3589a483 ∷ 0x100013c38 ∷ 0xd ∷ 0xb5906b4621fcd7b28d68431ef9d4af8a65401bf6d1ac87623d18f3cea9845f3a15f0cba6815c3712edc8a37e59340feac5a07b56310ce7c2 ∷ []) ∷ [])
unfolding step fetched Rattle.a64_meaning.specs.Access.plain_load Rattle.a64_meaning.specs.Access.in_cell Rattle.a64_meaning.specs.Access.is_cell Rattle.a64_meaning.specs.Access.found Rattle.a64_meaning.specs.Access.is_writable Rattle.a64_meaning.specs.Access.load Rattle.a64_meaning.specs.Access.store Rattle.a64_code.specs.Words.instruction Rattle.a64_meaning.specs.Effects.act Rattle.a64_meaning.specs.Numbers.holds Rattle.a64_meaning.specs.Numbers.shifted Rattle.a64_meaning.specs.Numbers.logical Rattle.a64_meaning.specs.Numbers.multiplied Rattle.a64_meaning.specs.Numbers.long_product Rattle.a64_meaning.specs.Numbers.high_product Rattle.a64_meaning.specs.Numbers.quotient Rattle.a64_meaning.specs.Numbers.bit_field Rattle.a64_meaning.specs.Numbers.moved_wide
move_wide = refl
