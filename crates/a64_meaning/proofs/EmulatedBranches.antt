-- Steps of branches and choices as an emulator of the architecture makes them, for each row of the table. Written by scripts/emulate-steps.
use Rattle.std.proofs.Common.{◌≡◌, refl, ℕ, List, [], ◌∷◌}
use Rattle.std.specs.Prelude.{map}
use Rattle.a64_meaning.specs.Step.{step, fetched}
use Rattle.a64_meaning.proofs.Emulating.{b, ran}

pc_relative : map ran (b 0x30800002 (0xfffffffe ∷ 0xfa ∷ 0x7fffffffffffffff ∷ 0x7fffffff ∷ 0x8328ba900b7a724 ∷ 0x64b9c53bd562bf11 ∷ 0x488383be24a64615 ∷ 0x0 ∷ 0xe3ffedb66bd44acd ∷ []) 0x7fffffffffffffff 0 0x100015184 0x200017600
    ∷ b 0xf0800002 (0x7fffffffffffffff ∷ 0x9148591d3eb1 ∷ 0x1 ∷ 0x75e1b04d844bb0be ∷ 0x8000000000000000 ∷ 0x7cb820cc278470e2 ∷ 0xffffffffffffffff ∷ 0xcf482c12cfa76725 ∷ 0xfffffffe ∷ []) 0xfffffffe 9 0x100015234 0x200017700 ∷ []) ≡
    ((0xfffffffe ∷ 0xfa ∷ 0xfff15185 ∷ 0x7fffffff ∷ 0x8328ba900b7a724 ∷ 0x64b9c53bd562bf11 ∷ 0x488383be24a64615 ∷ 0x0 ∷ 0xe3ffedb66bd44acd ∷ 0x7fffffffffffffff ∷ 0x100015188 ∷ 0x0 ∷ 0xae5c09b76512c07e2bd98734e2904dfba95704b2601dcb7926d4823fed9b48f6a4520fbd6b18c67421df8d3ae89643f1af5d0ab86613c17 ∷ [])
    ∷ (0x7fffffffffffffff ∷ 0x9148591d3eb1 ∷ 0x18000 ∷ 0x75e1b04d844bb0be ∷ 0x8000000000000000 ∷ 0x7cb820cc278470e2 ∷ 0xffffffffffffffff ∷ 0xcf482c12cfa76725 ∷ 0xfffffffe ∷ 0xfffffffe ∷ 0x100015238 ∷ 0x9 ∷ 0x15f0cba6815c3712edc8a37e59340feac5a07b56310ce7c29d78532e09e4bf9a75502b06e1bc97724d2803deb9946f4a2500dbb6916c4722 ∷ []) ∷ [])
unfolding step fetched Rattle.a64_meaning.specs.Access.plain_load Rattle.a64_meaning.specs.Access.in_cell Rattle.a64_meaning.specs.Access.is_cell Rattle.a64_meaning.specs.Access.found Rattle.a64_meaning.specs.Access.is_writable Rattle.a64_meaning.specs.Access.load Rattle.a64_meaning.specs.Access.store Rattle.a64_code.specs.Words.instruction Rattle.a64_meaning.specs.Effects.act Rattle.a64_meaning.specs.Numbers.holds Rattle.a64_meaning.specs.Numbers.shifted Rattle.a64_meaning.specs.Numbers.logical Rattle.a64_meaning.specs.Numbers.multiplied Rattle.a64_meaning.specs.Numbers.long_product Rattle.a64_meaning.specs.Numbers.high_product Rattle.a64_meaning.specs.Numbers.quotient Rattle.a64_meaning.specs.Numbers.bit_field Rattle.a64_meaning.specs.Numbers.moved_wide
pc_relative = refl

branch : map ran (b 0x14000003 (0xa8103833 ∷ 0xdd81d9874c9fb3c7 ∷ 0xfffffffe ∷ 0x7fffffff ∷ 0xfffffffffffffffe ∷ 0x1 ∷ 0xffffffffffffffff ∷ 0xffffffffffffffff ∷ 0x43d655aa ∷ []) 0x7fffffffffffffff 12 0x1000152e4 0x200017800
    ∷ b 0x14000003 (0x2 ∷ 0x8c51 ∷ 0xdcb7695e38a47180 ∷ 0x3002184f9ba2 ∷ 0xb587728c40651107 ∷ 0x8000000000000000 ∷ 0x8000000000000000 ∷ 0xbc4f68f71ceebc19 ∷ 0x911ddb9296a50b7f ∷ []) 0x100000000 2 0x100015394 0x200017900
    ∷ b 0x14000003 (0x8000000000000000 ∷ 0xd6ab1c89b6f05dd4 ∷ 0xa0 ∷ 0x1a2283e14710 ∷ 0xfffffffe ∷ 0x2 ∷ 0x9022 ∷ 0x1 ∷ 0xffffffffffffffff ∷ []) 0x7fffffff 1 0x100015444 0x200017a00
    ∷ b 0x14000003 (0xfffffffffffffffe ∷ 0x75af45a8368fee32 ∷ 0xfffffffffffffffe ∷ 0x1 ∷ 0x339c02a1df439667 ∷ 0xba6c0498eae199b6 ∷ 0x5df2 ∷ 0xcdda241f5765af7c ∷ 0xd35c02fb4c55 ∷ []) 0x7fffffff 11 0x1000154f4 0x200017b00
    ∷ b 0x94000003 (0xd10919100b231039 ∷ 0x5b11cb3519825a91 ∷ 0x9a619e47cd92c90d ∷ 0xfffffffe ∷ 0xffffffff ∷ 0x7fffffffffffffff ∷ 0xffffffffffffffff ∷ 0x0 ∷ 0x1 ∷ []) 0x2676 9 0x1000155a4 0x200017c00
    ∷ b 0x94000003 (0xe01a6ea5 ∷ 0xc2edf8a6b0845f2f ∷ 0x3887155 ∷ 0x2 ∷ 0x7fffffffffffffff ∷ 0x489ea9bd64ffe41 ∷ 0xffffffffffffffff ∷ 0x647f99975e05 ∷ 0xb163 ∷ []) 0x3aad711f 2 0x100015654 0x200017d00
    ∷ b 0x94000003 (0x7fffffff ∷ 0x2 ∷ 0x361d02990b2d0a2f ∷ 0xffffffff ∷ 0x93b90dcb54d49c9b ∷ 0xffffffff ∷ 0xffffffff ∷ 0x3a0392f2557291ca ∷ 0x7fffffffffffffff ∷ []) 0x10b9e1f0e 4 0x100015704 0x200017e00
    ∷ b 0x97fffffe (0x80000000 ∷ 0x80000000 ∷ 0xffffffffffffffff ∷ 0x239bb65bf4fb5de4 ∷ 0xea ∷ 0x18626fcec55a8a05 ∷ 0x51097af36d1ed982 ∷ 0x5ce7b2c7195793c8 ∷ 0x1e7805d8cb99c882 ∷ []) 0xae6b 2 0x1000157b4 0x200017f00 ∷ []) ≡
    ((0xa8103833 ∷ 0xdd81d9874c9fb3c7 ∷ 0xfffffffe ∷ 0x7fffffff ∷ 0xfffffffffffffffe ∷ 0x1 ∷ 0xffffffffffffffff ∷ 0xffffffffffffffff ∷ 0x43d655aa ∷ 0x7fffffffffffffff ∷ 0x1000152f0 ∷ 0xc ∷ 0x20fbd6b18c67421df8d3ae89643f1af5d0ab86613c17f2cda8835e3914efcaa5805b3611ecc7a27d58330ee9c49f7a55300be6c19c77522d ∷ [])
    ∷ (0x2 ∷ 0x8c51 ∷ 0xdcb7695e38a47180 ∷ 0x3002184f9ba2 ∷ 0xb587728c40651107 ∷ 0x8000000000000000 ∷ 0x8000000000000000 ∷ 0xbc4f68f71ceebc19 ∷ 0x911ddb9296a50b7f ∷ 0x100000000 ∷ 0x1000153a0 ∷ 0x2 ∷ 0x2b06e1bc97724d2803deb9946f4a2500dbb6916c4722fdd8b38e69441ffad5b08b66411cf7d2ad88633e19f4cfaa85603b16f1cca7825d38 ∷ [])
    ∷ (0x8000000000000000 ∷ 0xd6ab1c89b6f05dd4 ∷ 0xa0 ∷ 0x1a2283e14710 ∷ 0xfffffffe ∷ 0x2 ∷ 0x9022 ∷ 0x1 ∷ 0xffffffffffffffff ∷ 0x7fffffff ∷ 0x100015450 ∷ 0x1 ∷ 0x3611ecc7a27d58330ee9c49f7a55300be6c19c77522d08e3be99744f2a05e0bb96714c2702ddb8936e4924ffdab5906b4621fcd7b28d6843 ∷ [])
    ∷ (0xfffffffffffffffe ∷ 0x75af45a8368fee32 ∷ 0xfffffffffffffffe ∷ 0x1 ∷ 0x339c02a1df439667 ∷ 0xba6c0498eae199b6 ∷ 0x5df2 ∷ 0xcdda241f5765af7c ∷ 0xd35c02fb4c55 ∷ 0x7fffffff ∷ 0x100015500 ∷ 0xb ∷ 0x411cf7d2ad88633e19f4cfaa85603b16f1cca7825d3813eec9a47f5a3510ebc6a17c57320de8c39e79542f0ae5c09b76512c07e2bd98734e ∷ [])
    ∷ (0xd10919100b231039 ∷ 0x5b11cb3519825a91 ∷ 0x9a619e47cd92c90d ∷ 0xfffffffe ∷ 0xffffffff ∷ 0x7fffffffffffffff ∷ 0xffffffffffffffff ∷ 0x0 ∷ 0x1000155a8 ∷ 0x2676 ∷ 0x1000155b0 ∷ 0x9 ∷ 0x4c2702ddb8936e4924ffdab5906b4621fcd7b28d68431ef9d4af8a65401bf6d1ac87623d18f3cea9845f3a15f0cba6815c3712edc8a37e59 ∷ [])
    ∷ (0xe01a6ea5 ∷ 0xc2edf8a6b0845f2f ∷ 0x3887155 ∷ 0x2 ∷ 0x7fffffffffffffff ∷ 0x489ea9bd64ffe41 ∷ 0xffffffffffffffff ∷ 0x647f99975e05 ∷ 0x100015658 ∷ 0x3aad711f ∷ 0x100015660 ∷ 0x2 ∷ 0x57320de8c39e79542f0ae5c09b76512c07e2bd98734e2904dfba95704b2601dcb7926d4823fed9b48f6a4520fbd6b18c67421df8d3ae8964 ∷ [])
    ∷ (0x7fffffff ∷ 0x2 ∷ 0x361d02990b2d0a2f ∷ 0xffffffff ∷ 0x93b90dcb54d49c9b ∷ 0xffffffff ∷ 0xffffffff ∷ 0x3a0392f2557291ca ∷ 0x100015708 ∷ 0x10b9e1f0e ∷ 0x100015710 ∷ 0x4 ∷ 0x623d18f3cea9845f3a15f0cba6815c3712edc8a37e59340feac5a07b56310ce7c29d78532e09e4bf9a75502b06e1bc97724d2803deb9946f ∷ [])
    ∷ (0x80000000 ∷ 0x80000000 ∷ 0xffffffffffffffff ∷ 0x239bb65bf4fb5de4 ∷ 0xea ∷ 0x18626fcec55a8a05 ∷ 0x51097af36d1ed982 ∷ 0x5ce7b2c7195793c8 ∷ 0x1000157b8 ∷ 0xae6b ∷ 0x1000157ac ∷ 0x2 ∷ 0x6d4823fed9b48f6a4520fbd6b18c67421df8d3ae89643f1af5d0ab86613c17f2cda8835e3914efcaa5805b3611ecc7a27d58330ee9c49f7a ∷ []) ∷ [])
unfolding step fetched Rattle.a64_meaning.specs.Access.plain_load Rattle.a64_meaning.specs.Access.in_cell Rattle.a64_meaning.specs.Access.is_cell Rattle.a64_meaning.specs.Access.found Rattle.a64_meaning.specs.Access.is_writable Rattle.a64_meaning.specs.Access.load Rattle.a64_meaning.specs.Access.store Rattle.a64_code.specs.Words.instruction Rattle.a64_meaning.specs.Effects.act Rattle.a64_meaning.specs.Numbers.holds Rattle.a64_meaning.specs.Numbers.shifted Rattle.a64_meaning.specs.Numbers.logical Rattle.a64_meaning.specs.Numbers.multiplied Rattle.a64_meaning.specs.Numbers.long_product Rattle.a64_meaning.specs.Numbers.high_product Rattle.a64_meaning.specs.Numbers.quotient Rattle.a64_meaning.specs.Numbers.bit_field Rattle.a64_meaning.specs.Numbers.moved_wide
branch = refl

branch_conditional : map ran (b 0x54000060 (0x5ea8fcee ∷ 0xfffffffe ∷ 0x8000000000000000 ∷ 0xf799649559d0d59 ∷ 0x52bd3be5abf802e7 ∷ 0x407a54fb7b415e88 ∷ 0x7fffffff ∷ 0x134dbcd5 ∷ 0x0 ∷ []) 0x67ac74001fac 14 0x100015864 0x200018000
    ∷ b 0x54000060 (0xedf264c54d6ac110 ∷ 0x1 ∷ 0xfffffffffffffffe ∷ 0xfffffffffffffffe ∷ 0xeffb62c3a8ab0628 ∷ 0xeb ∷ 0x1 ∷ 0x949a5ee04de27deb ∷ 0x7fffffffffffffff ∷ []) 0xfffffffffffffffe 13 0x100015914 0x200018100
    ∷ b 0x54ffffc0 (0x7315e54b ∷ 0x80000000 ∷ 0x2a20f08dc22c8317 ∷ 0xb4533d4e3ca593db ∷ 0x0 ∷ 0x7fffffff ∷ 0x6e99e7ce ∷ 0x325ba5eb197d69ba ∷ 0x0 ∷ []) 0xc711ed4 2 0x1000159c4 0x200018200
    ∷ b 0x54000061 (0x302c5d57014af67d ∷ 0xfffffffe ∷ 0xec4252a95476 ∷ 0xffffffff ∷ 0xfffffffffffffffe ∷ 0x7fffffffffffffff ∷ 0xfffffffe ∷ 0xeb4 ∷ 0xb294e390ba38a2b ∷ []) 0xc6a55eb855a3153e 15 0x100015a74 0x200018300
    ∷ b 0x54000061 (0x7fffffffffffffff ∷ 0xec ∷ 0xfffffffe ∷ 0x6a ∷ 0xd5bd6feeb960e68c ∷ 0x1 ∷ 0x7fffffff ∷ 0x1 ∷ 0xffffffff ∷ []) 0x8000000000000000 4 0x100015b24 0x200018400
    ∷ b 0x54000061 (0xffffffffffffffff ∷ 0xfffffffffffffffe ∷ 0x0 ∷ 0x5368f70b ∷ 0x8f2e74025c14 ∷ 0x8000000000000000 ∷ 0x21c1e16846202aed ∷ 0x8000000000000000 ∷ 0xfffffffe ∷ []) 0x1346a2cc 7 0x100015bd4 0x200018500
    ∷ b 0x54000062 (0xef ∷ 0x2 ∷ 0x8000000000000000 ∷ 0xc701ca778e24b87d ∷ 0xffffffffffffffff ∷ 0x2 ∷ 0x6d871058bcdcfa9f ∷ 0x874b ∷ 0xfffffffffffffffe ∷ []) 0x7fffffffffffffff 6 0x100015c84 0x200018600
    ∷ b 0x54000062 (0x75c90b8e ∷ 0x0 ∷ 0xfffffffffffffffe ∷ 0xfffffffe ∷ 0x59c6dd32fac2 ∷ 0xffffffffffffffff ∷ 0x100000000 ∷ 0x395ddc3ed57c ∷ 0x0 ∷ []) 0x100000000 7 0x100015d34 0x200018700
    ∷ b 0x54ffffc2 (0xffffffff ∷ 0x4c674757b10f ∷ 0x3773b4d8 ∷ 0x3d1a7fec281f097b ∷ 0x22361b12c4ea6574 ∷ 0xd2a4 ∷ 0x1 ∷ 0x7fffffffffffffff ∷ 0x295e ∷ []) 0xffffffffffffffff 14 0x100015de4 0x200018800
    ∷ b 0x54ffffc3 (0xc83c86b7e202fbed ∷ 0xfffffffffffffffe ∷ 0x7fffffffffffffff ∷ 0x2 ∷ 0x57b3216d ∷ 0x1 ∷ 0x0 ∷ 0x80000000 ∷ 0xfffffffffffffffe ∷ []) 0x2 14 0x100015e94 0x200018900
    ∷ b 0x54000063 (0xffffffff ∷ 0xb76325e2aa54729c ∷ 0xffffffff ∷ 0x95 ∷ 0xfffffffe ∷ 0x2284558809b21c7e ∷ 0x93296b9a3b4c057e ∷ 0x1 ∷ 0xfda3b9780c5e9c7a ∷ []) 0xe0 3 0x100015f44 0x200018a00
    ∷ b 0x54ffffc3 (0x8681 ∷ 0x2 ∷ 0x8000000000000000 ∷ 0xfffffffffffffffe ∷ 0x1cc3d47ffe4ec000 ∷ 0x7f0b528bd6ee47a8 ∷ 0x59 ∷ 0x7c6cc329f7ae1f2e ∷ 0x45e112880989 ∷ []) 0x43bffd7603e49d26 8 0x100015ff4 0x200018b00
    ∷ b 0x54ffffc4 (0x823d ∷ 0x8000000000000000 ∷ 0x15b047a ∷ 0x0 ∷ 0x483a17de8b419721 ∷ 0x690e3666b0b6b765 ∷ 0x5bdf8d7cbec9ffc9 ∷ 0x100000000 ∷ 0x100000000 ∷ []) 0x2 12 0x1000160a4 0x200018c00
    ∷ b 0x54000064 (0x72f4d9b4249f079d ∷ 0x3d ∷ 0xfd17acd1ed20ea49 ∷ 0xffffffffffffffff ∷ 0x3da293e2fdb2fa42 ∷ 0x16391dbd03e2 ∷ 0x744a69a2089d77b3 ∷ 0xb1b664f367e3c769 ∷ 0xa56ee7beaf5264b9 ∷ []) 0xfffffffe 10 0x100016154 0x200018d00
    ∷ b 0x54000064 (0x79 ∷ 0x7879bf39da7d30bb ∷ 0x8bd272c197a09289 ∷ 0xd332 ∷ 0xde93483ebe494976 ∷ 0xfffffffffffffffe ∷ 0x8000000000000000 ∷ 0xfffffffe ∷ 0x126e45a352778ced ∷ []) 0xaa0bcc3c8b067af7 7 0x100016204 0x200018e00
    ∷ b 0x54000065 (0x7fffffffffffffff ∷ 0x42d2509a ∷ 0x38a223049219c11f ∷ 0xed ∷ 0x431031bb ∷ 0x2 ∷ 0xac76 ∷ 0xfffffffe ∷ 0xfffffffe ∷ []) 0x5377b8e0e4decb20 1 0x1000162b4 0x200018f00
    ∷ b 0x54000065 (0x100000000 ∷ 0x2 ∷ 0x1a514b4d6009a07a ∷ 0xfffffffe ∷ 0x4d6a215a ∷ 0x6542a69246674b28 ∷ 0x7fffffffffffffff ∷ 0xa27777bc730647d5 ∷ 0x2 ∷ []) 0x183 4 0x100016364 0x200019000
    ∷ b 0x54000065 (0xfffffffe ∷ 0xffffffff ∷ 0x6191f21ecd32d4ab ∷ 0x8000000000000000 ∷ 0xffffffffffffffff ∷ 0xffffffffffffffff ∷ 0xfffffffffffffffe ∷ 0x52f2935ceabb98b9 ∷ 0x80000000 ∷ []) 0x86 15 0x100016414 0x200019100
    ∷ b 0x54ffffc6 (0x100000000 ∷ 0x4f1615ac ∷ 0xb7 ∷ 0xffffffff ∷ 0x80000000 ∷ 0xa5ef82fc ∷ 0x5a33c64241bd180c ∷ 0xffffffffffffffff ∷ 0xffffffffffffffff ∷ []) 0xfffffffffffffffe 11 0x1000164c4 0x200019200
    ∷ b 0x54ffffc6 (0xdc34acbb5456df6d ∷ 0x7fffffffffffffff ∷ 0x8000000000000000 ∷ 0xfffffffe ∷ 0x1b ∷ 0xef6002fb76691b13 ∷ 0x100000000 ∷ 0x7fffffffffffffff ∷ 0x1 ∷ []) 0x7fffffffffffffff 4 0x100016574 0x200019300
    ∷ b 0x54ffffc6 (0x33433e61bd8e02e3 ∷ 0x0 ∷ 0x46e48e09 ∷ 0x100000000 ∷ 0x17 ∷ 0x1 ∷ 0x1a096f2103f6082d ∷ 0x7fffffff ∷ 0xd2f139fc0e14c998 ∷ []) 0x55e9263cb608029d 15 0x100016624 0x200019400
    ∷ b 0x54ffffc7 (0x6afd1120bf7840c0 ∷ 0xff83 ∷ 0x0 ∷ 0x520b ∷ 0x8000000000000000 ∷ 0xfd1a ∷ 0x4328ec4e851f6c65 ∷ 0x100000000 ∷ 0x80000000 ∷ []) 0xe2c39f1982cfa57e 13 0x1000166d4 0x200019500
    ∷ b 0x54ffffc7 (0x7fffffff ∷ 0x6da66b7b6fa482d1 ∷ 0x33b6c07c4e12576c ∷ 0x7fffffff ∷ 0xeeb518985fb1d2e2 ∷ 0x7fffffffffffffff ∷ 0x5da05c58242b225a ∷ 0x19a25154 ∷ 0xfffffffffffffffe ∷ []) 0xbab0c1220d18d933 10 0x100016784 0x200019600
    ∷ b 0x54ffffc7 (0xf39003e368af8bb9 ∷ 0x90a5b5852d46eef ∷ 0x7fffffffffffffff ∷ 0xfffffffffffffffe ∷ 0xffffffffffffffff ∷ 0xef52eb3867efec23 ∷ 0xe0c8a5ca34302e5a ∷ 0x2 ∷ 0xfffffffe ∷ []) 0x2 2 0x100016834 0x200019700
    ∷ b 0x54000068 (0xfffffffffffffffe ∷ 0x2a0417f0ccfa8b19 ∷ 0xfffffffe ∷ 0x4b7e1509bfa8cb61 ∷ 0xd69b05b4 ∷ 0xfffffffffffffffe ∷ 0x1 ∷ 0x7fffffff ∷ 0x6a ∷ []) 0x80000000 14 0x1000168e4 0x200019800
    ∷ b 0x54000068 (0x0 ∷ 0xab0 ∷ 0x7fffffffffffffff ∷ 0x7fffffff ∷ 0x5a7d11f451984400 ∷ 0x4f3fc219276bcf25 ∷ 0x463cced8 ∷ 0xf20f ∷ 0x6439 ∷ []) 0x30a30232 4 0x100016994 0x200019900
    ∷ b 0x54000068 (0x8000000000000000 ∷ 0x76e6625732ba5b15 ∷ 0x2 ∷ 0xfffffffe ∷ 0x0 ∷ 0xa8 ∷ 0x8638f07e7028 ∷ 0x7d6b20984a6f28db ∷ 0x7fffffffffffffff ∷ []) 0x33 15 0x100016a44 0x200019a00
    ∷ b 0x54000069 (0x1957b1761 ∷ 0x23c3 ∷ 0x7fffffff ∷ 0x84b9f604cc3e511 ∷ 0xf7a48cf819c54985 ∷ 0x7fffffff ∷ 0xcd04cce62af ∷ 0xffffffff ∷ 0x7fffffff ∷ []) 0xffffffff 5 0x100016af4 0x200019b00
    ∷ b 0x54ffffc9 (0x678da227 ∷ 0x8000000000000000 ∷ 0xfffffffffffffffe ∷ 0x294f97e0c9b9a7c6 ∷ 0x930a7f4761e1ab9 ∷ 0x8000000000000000 ∷ 0xa595677269bafa1d ∷ 0x93f72e776a52ce18 ∷ 0x5f ∷ []) 0x29f4536ebbf73ce8 11 0x100016ba4 0x200019c00
    ∷ b 0x54ffffc9 (0x54e5c2dd170c9613 ∷ 0xfffffffe ∷ 0x4daa8abb ∷ 0x1 ∷ 0x7fffffff ∷ 0x7fffffffffffffff ∷ 0x8000000000000000 ∷ 0x7fffffffffffffff ∷ 0xffffffffffffffff ∷ []) 0x419818f281bc896a 11 0x100016c54 0x200019d00
    ∷ b 0x54ffffca (0x8000000000000000 ∷ 0x2 ∷ 0x88e8df1c6920 ∷ 0x18518e43e3fef409 ∷ 0x0 ∷ 0xfffffffffffffffe ∷ 0xbe637673b05f9e08 ∷ 0x2 ∷ 0x80000000 ∷ []) 0x64ad2d60 3 0x100016d04 0x200019e00
    ∷ b 0x5400006a (0x1596640e1ee99d8e ∷ 0x3be20afe37b630f3 ∷ 0x8000000000000000 ∷ 0xd2450b1b0fe84f53 ∷ 0xffffffffffffffff ∷ 0x1 ∷ 0xffffffffffffffff ∷ 0xd08c ∷ 0x1 ∷ []) 0x9784544c 5 0x100016db4 0x200019f00
    ∷ b 0x54ffffca (0x100000000 ∷ 0x16 ∷ 0xbbd7 ∷ 0x26b74d942ac961f0 ∷ 0x1a141aab23ef5835 ∷ 0x7fffffff ∷ 0xf9d9ac27b566aa33 ∷ 0x0 ∷ 0x9a8997f ∷ []) 0xffffffff 2 0x100016e64 0x20001a000
    ∷ b 0x54ffffcb (0xfffffffe ∷ 0xffffffff ∷ 0xa6 ∷ 0x9530e5dd59652327 ∷ 0x7fffffffffffffff ∷ 0x7f089fc0bedcd9c3 ∷ 0xfffffffffffffffe ∷ 0xbe ∷ 0xfffffffe ∷ []) 0x62c568c06f7130ef 9 0x100016f14 0x20001a100
    ∷ b 0x54ffffcb (0x80000000 ∷ 0x1ebbcb6f3b6a0b33 ∷ 0x7fffffffffffffff ∷ 0x7e1c6389e0a7bc30 ∷ 0xaf718aa7eee9b19c ∷ 0x64 ∷ 0xcb2c6df965129183 ∷ 0xf113c2cbc61ec870 ∷ 0x100000000 ∷ []) 0x1 7 0x100016fc4 0x20001a200
    ∷ b 0x5400006b (0xd617953ce775538a ∷ 0x80000000 ∷ 0x7fffffffffffffff ∷ 0x1c501826f3742b88 ∷ 0x6b2d1e45 ∷ 0x80000000 ∷ 0xffffffff ∷ 0x5a8d03121545ff3d ∷ 0x7fffffffffffffff ∷ []) 0x55f882be4ac92509 2 0x100017074 0x20001a300
    ∷ b 0x5400006c (0x7fffffffffffffff ∷ 0x8000000000000000 ∷ 0x37 ∷ 0x602a65a40aa12a75 ∷ 0x63c1 ∷ 0x2 ∷ 0x7fffffff ∷ 0xffffffffffffffff ∷ 0x4efe55fb ∷ []) 0x8000000000000000 6 0x100017124 0x20001a400
    ∷ b 0x54ffffcc (0x0 ∷ 0x2 ∷ 0x7fffffff ∷ 0xfffffffe ∷ 0xffffffff ∷ 0x8d7c38a1fc0986a1 ∷ 0x838cc85bc0cddb62 ∷ 0xedb98114229180a8 ∷ 0x554996a4 ∷ []) 0x8000000000000000 10 0x1000171d4 0x20001a500
    ∷ b 0x5400006c (0x80000000 ∷ 0xfffffffe ∷ 0x6038919bafb245fe ∷ 0x7a3ce1ead3271a6 ∷ 0x7e4b9284 ∷ 0x0 ∷ 0xfffffffe ∷ 0x100000000 ∷ 0x8000000000000000 ∷ []) 0xbff49b694acd 14 0x100017284 0x20001a600
    ∷ b 0x54ffffcd (0x2311f2cc ∷ 0x80000000 ∷ 0xffffffffffffffff ∷ 0x10bf2b809 ∷ 0xfffffffffffffffe ∷ 0x47e73205fb6dfb25 ∷ 0x4a8a33b13de292c5 ∷ 0x6b ∷ 0xa617ad4d68560e02 ∷ []) 0xfffffffe 12 0x100017334 0x20001a700
    ∷ b 0x5400006d (0xb0db5c38bed8 ∷ 0x14b850eb ∷ 0xd36c8d68 ∷ 0x8000000000000000 ∷ 0x2 ∷ 0x0 ∷ 0xfffffffffffffffe ∷ 0x4fdd63bfae70beed ∷ 0x14c31a089 ∷ []) 0xffffffff 5 0x1000173e4 0x20001a800
    ∷ b 0x5400006d (0x7fffffffffffffff ∷ 0xffffffff ∷ 0x1bc1ef63 ∷ 0x64db492c5c9e5d0e ∷ 0x7fffffffffffffff ∷ 0x7fffffff ∷ 0x17342d5a1 ∷ 0xc75528ebc172 ∷ 0x26 ∷ []) 0x8000000000000000 15 0x100017494 0x20001a900
    ∷ b 0x5400006e (0x3221529a ∷ 0x100000000 ∷ 0xd9f6313349d2fa61 ∷ 0x731cc115427d720f ∷ 0x88 ∷ 0x4e3ae9df ∷ 0x43f93bfd5c1c034b ∷ 0xe0 ∷ 0x9a4e8034c0f4d107 ∷ []) 0xd59b3d8669a8ee81 3 0x100017544 0x20001aa00
    ∷ b 0x5400006e (0x2 ∷ 0xb127be0b3177 ∷ 0x100000000 ∷ 0xfffffffffffffffe ∷ 0x647f770c ∷ 0xffffffff ∷ 0x2 ∷ 0x882382ff24b7205b ∷ 0xab5e7b1069e44cec ∷ []) 0x1118a75f 6 0x1000175f4 0x20001ab00
    ∷ b 0x5400006e (0x69c7d7e8ecaf3471 ∷ 0x0 ∷ 0x93ec3c4c8d6a ∷ 0x7fffffff ∷ 0xc9037880461896fb ∷ 0x6b50c7d3da5d02d0 ∷ 0x7fffffff ∷ 0x3d1c10dbc10dae44 ∷ 0x4858cfcae5f9683e ∷ []) 0xd22bf84a27b3 12 0x1000176a4 0x20001ac00
    ∷ b 0x5400006f (0xfffffffffffffffe ∷ 0x9cc321d7 ∷ 0xc582113b58d5 ∷ 0x8252584cd301cf19 ∷ 0x7fffffff ∷ 0xc02f34d ∷ 0xffffffffffffffff ∷ 0x2e0b2baf142399d4 ∷ 0x8000000000000000 ∷ []) 0xffffffff 6 0x100017754 0x20001ad00
    ∷ b 0x54ffffcf (0x2 ∷ 0x8000000000000000 ∷ 0x7fffffffffffffff ∷ 0xceb025f0987dd4b4 ∷ 0x8000000000000000 ∷ 0x7b ∷ 0xfffffffe ∷ 0x43edbce0 ∷ 0x8e7d6ed937c5b30a ∷ []) 0x481e 0 0x100017804 0x20001ae00
    ∷ b 0x54ffffcf (0xcf ∷ 0x5fd9333f6c857f1b ∷ 0xfffffffe ∷ 0x1 ∷ 0x63eb2034666f88f2 ∷ 0x68b60ffc96b89f5a ∷ 0x0 ∷ 0x1545535d0 ∷ 0xa4 ∷ []) 0x2 13 0x1000178b4 0x20001af00 ∷ []) ≡
    ((0x5ea8fcee ∷ 0xfffffffe ∷ 0x8000000000000000 ∷ 0xf799649559d0d59 ∷ 0x52bd3be5abf802e7 ∷ 0x407a54fb7b415e88 ∷ 0x7fffffff ∷ 0x134dbcd5 ∷ 0x0 ∷ 0x67ac74001fac ∷ 0x100015870 ∷ 0xe ∷ 0x78532e09e4bf9a75502b06e1bc97724d2803deb9946f4a2500dbb6916c4722fdd8b38e69441ffad5b08b66411cf7d2ad88633e19f4cfaa85 ∷ [])
    ∷ (0xedf264c54d6ac110 ∷ 0x1 ∷ 0xfffffffffffffffe ∷ 0xfffffffffffffffe ∷ 0xeffb62c3a8ab0628 ∷ 0xeb ∷ 0x1 ∷ 0x949a5ee04de27deb ∷ 0x7fffffffffffffff ∷ 0xfffffffffffffffe ∷ 0x100015920 ∷ 0xd ∷ 0x835e3914efcaa5805b3611ecc7a27d58330ee9c49f7a55300be6c19c77522d08e3be99744f2a05e0bb96714c2702ddb8936e4924ffdab590 ∷ [])
    ∷ (0x7315e54b ∷ 0x80000000 ∷ 0x2a20f08dc22c8317 ∷ 0xb4533d4e3ca593db ∷ 0x0 ∷ 0x7fffffff ∷ 0x6e99e7ce ∷ 0x325ba5eb197d69ba ∷ 0x0 ∷ 0xc711ed4 ∷ 0x1000159c8 ∷ 0x2 ∷ 0x8e69441ffad5b08b66411cf7d2ad88633e19f4cfaa85603b16f1cca7825d3813eec9a47f5a3510ebc6a17c57320de8c39e79542f0ae5c09b ∷ [])
    ∷ (0x302c5d57014af67d ∷ 0xfffffffe ∷ 0xec4252a95476 ∷ 0xffffffff ∷ 0xfffffffffffffffe ∷ 0x7fffffffffffffff ∷ 0xfffffffe ∷ 0xeb4 ∷ 0xb294e390ba38a2b ∷ 0xc6a55eb855a3153e ∷ 0x100015a78 ∷ 0xf ∷ 0x99744f2a05e0bb96714c2702ddb8936e4924ffdab5906b4621fcd7b28d68431ef9d4af8a65401bf6d1ac87623d18f3cea9845f3a15f0cba6 ∷ [])
    ∷ (0x7fffffffffffffff ∷ 0xec ∷ 0xfffffffe ∷ 0x6a ∷ 0xd5bd6feeb960e68c ∷ 0x1 ∷ 0x7fffffff ∷ 0x1 ∷ 0xffffffff ∷ 0x8000000000000000 ∷ 0x100015b28 ∷ 0x4 ∷ 0xa47f5a3510ebc6a17c57320de8c39e79542f0ae5c09b76512c07e2bd98734e2904dfba95704b2601dcb7926d4823fed9b48f6a4520fbd6b1 ∷ [])
    ∷ (0xffffffffffffffff ∷ 0xfffffffffffffffe ∷ 0x0 ∷ 0x5368f70b ∷ 0x8f2e74025c14 ∷ 0x8000000000000000 ∷ 0x21c1e16846202aed ∷ 0x8000000000000000 ∷ 0xfffffffe ∷ 0x1346a2cc ∷ 0x100015bd8 ∷ 0x7 ∷ 0xaf8a65401bf6d1ac87623d18f3cea9845f3a15f0cba6815c3712edc8a37e59340feac5a07b56310ce7c29d78532e09e4bf9a75502b06e1bc ∷ [])
    ∷ (0xef ∷ 0x2 ∷ 0x8000000000000000 ∷ 0xc701ca778e24b87d ∷ 0xffffffffffffffff ∷ 0x2 ∷ 0x6d871058bcdcfa9f ∷ 0x874b ∷ 0xfffffffffffffffe ∷ 0x7fffffffffffffff ∷ 0x100015c90 ∷ 0x6 ∷ 0xba95704b2601dcb7926d4823fed9b48f6a4520fbd6b18c67421df8d3ae89643f1af5d0ab86613c17f2cda8835e3914efcaa5805b3611ecc7 ∷ [])
    ∷ (0x75c90b8e ∷ 0x0 ∷ 0xfffffffffffffffe ∷ 0xfffffffe ∷ 0x59c6dd32fac2 ∷ 0xffffffffffffffff ∷ 0x100000000 ∷ 0x395ddc3ed57c ∷ 0x0 ∷ 0x100000000 ∷ 0x100015d40 ∷ 0x7 ∷ 0xc5a07b56310ce7c29d78532e09e4bf9a75502b06e1bc97724d2803deb9946f4a2500dbb6916c4722fdd8b38e69441ffad5b08b66411cf7d2 ∷ [])
    ∷ (0xffffffff ∷ 0x4c674757b10f ∷ 0x3773b4d8 ∷ 0x3d1a7fec281f097b ∷ 0x22361b12c4ea6574 ∷ 0xd2a4 ∷ 0x1 ∷ 0x7fffffffffffffff ∷ 0x295e ∷ 0xffffffffffffffff ∷ 0x100015ddc ∷ 0xe ∷ 0xd0ab86613c17f2cda8835e3914efcaa5805b3611ecc7a27d58330ee9c49f7a55300be6c19c77522d08e3be99744f2a05e0bb96714c2702dd ∷ [])
    ∷ (0xc83c86b7e202fbed ∷ 0xfffffffffffffffe ∷ 0x7fffffffffffffff ∷ 0x2 ∷ 0x57b3216d ∷ 0x1 ∷ 0x0 ∷ 0x80000000 ∷ 0xfffffffffffffffe ∷ 0x2 ∷ 0x100015e98 ∷ 0xe ∷ 0xdbb6916c4722fdd8b38e69441ffad5b08b66411cf7d2ad88633e19f4cfaa85603b16f1cca7825d3813eec9a47f5a3510ebc6a17c57320de8 ∷ [])
    ∷ (0xffffffff ∷ 0xb76325e2aa54729c ∷ 0xffffffff ∷ 0x95 ∷ 0xfffffffe ∷ 0x2284558809b21c7e ∷ 0x93296b9a3b4c057e ∷ 0x1 ∷ 0xfda3b9780c5e9c7a ∷ 0xe0 ∷ 0x100015f48 ∷ 0x3 ∷ 0xe6c19c77522d08e3be99744f2a05e0bb96714c2702ddb8936e4924ffdab5906b4621fcd7b28d68431ef9d4af8a65401bf6d1ac87623d18f3 ∷ [])
    ∷ (0x8681 ∷ 0x2 ∷ 0x8000000000000000 ∷ 0xfffffffffffffffe ∷ 0x1cc3d47ffe4ec000 ∷ 0x7f0b528bd6ee47a8 ∷ 0x59 ∷ 0x7c6cc329f7ae1f2e ∷ 0x45e112880989 ∷ 0x43bffd7603e49d26 ∷ 0x100015fec ∷ 0x8 ∷ 0xf1cca7825d3813eec9a47f5a3510ebc6a17c57320de8c39e79542f0ae5c09b76512c07e2bd98734e2904dfba95704b2601dcb7926d4823fe ∷ [])
    ∷ (0x823d ∷ 0x8000000000000000 ∷ 0x15b047a ∷ 0x0 ∷ 0x483a17de8b419721 ∷ 0x690e3666b0b6b765 ∷ 0x5bdf8d7cbec9ffc9 ∷ 0x100000000 ∷ 0x100000000 ∷ 0x2 ∷ 0x10001609c ∷ 0xc ∷ 0xfcd7b28d68431ef9d4af8a65401bf6d1ac87623d18f3cea9845f3a15f0cba6815c3712edc8a37e59340feac5a07b56310ce7c29d78532e09 ∷ [])
    ∷ (0x72f4d9b4249f079d ∷ 0x3d ∷ 0xfd17acd1ed20ea49 ∷ 0xffffffffffffffff ∷ 0x3da293e2fdb2fa42 ∷ 0x16391dbd03e2 ∷ 0x744a69a2089d77b3 ∷ 0xb1b664f367e3c769 ∷ 0xa56ee7beaf5264b9 ∷ 0xfffffffe ∷ 0x100016160 ∷ 0xa ∷ 0x7e2bd98734e2904dfba95704b2601dcb7926d4823fed9b48f6a4520fbd6b18c67421df8d3ae89643f1af5d0ab86613c17f2cda8835e3914 ∷ [])
    ∷ (0x79 ∷ 0x7879bf39da7d30bb ∷ 0x8bd272c197a09289 ∷ 0xd332 ∷ 0xde93483ebe494976 ∷ 0xfffffffffffffffe ∷ 0x8000000000000000 ∷ 0xfffffffe ∷ 0x126e45a352778ced ∷ 0xaa0bcc3c8b067af7 ∷ 0x100016208 ∷ 0x7 ∷ 0x12edc8a37e59340feac5a07b56310ce7c29d78532e09e4bf9a75502b06e1bc97724d2803deb9946f4a2500dbb6916c4722fdd8b38e69441f ∷ [])
    ∷ (0x7fffffffffffffff ∷ 0x42d2509a ∷ 0x38a223049219c11f ∷ 0xed ∷ 0x431031bb ∷ 0x2 ∷ 0xac76 ∷ 0xfffffffe ∷ 0xfffffffe ∷ 0x5377b8e0e4decb20 ∷ 0x1000162c0 ∷ 0x1 ∷ 0x1df8d3ae89643f1af5d0ab86613c17f2cda8835e3914efcaa5805b3611ecc7a27d58330ee9c49f7a55300be6c19c77522d08e3be99744f2a ∷ [])
    ∷ (0x100000000 ∷ 0x2 ∷ 0x1a514b4d6009a07a ∷ 0xfffffffe ∷ 0x4d6a215a ∷ 0x6542a69246674b28 ∷ 0x7fffffffffffffff ∷ 0xa27777bc730647d5 ∷ 0x2 ∷ 0x183 ∷ 0x100016370 ∷ 0x4 ∷ 0x2803deb9946f4a2500dbb6916c4722fdd8b38e69441ffad5b08b66411cf7d2ad88633e19f4cfaa85603b16f1cca7825d3813eec9a47f5a35 ∷ [])
    ∷ (0xfffffffe ∷ 0xffffffff ∷ 0x6191f21ecd32d4ab ∷ 0x8000000000000000 ∷ 0xffffffffffffffff ∷ 0xffffffffffffffff ∷ 0xfffffffffffffffe ∷ 0x52f2935ceabb98b9 ∷ 0x80000000 ∷ 0x86 ∷ 0x100016418 ∷ 0xf ∷ 0x330ee9c49f7a55300be6c19c77522d08e3be99744f2a05e0bb96714c2702ddb8936e4924ffdab5906b4621fcd7b28d68431ef9d4af8a6540 ∷ [])
    ∷ (0x100000000 ∷ 0x4f1615ac ∷ 0xb7 ∷ 0xffffffff ∷ 0x80000000 ∷ 0xa5ef82fc ∷ 0x5a33c64241bd180c ∷ 0xffffffffffffffff ∷ 0xffffffffffffffff ∷ 0xfffffffffffffffe ∷ 0x1000164bc ∷ 0xb ∷ 0x3e19f4cfaa85603b16f1cca7825d3813eec9a47f5a3510ebc6a17c57320de8c39e79542f0ae5c09b76512c07e2bd98734e2904dfba95704b ∷ [])
    ∷ (0xdc34acbb5456df6d ∷ 0x7fffffffffffffff ∷ 0x8000000000000000 ∷ 0xfffffffe ∷ 0x1b ∷ 0xef6002fb76691b13 ∷ 0x100000000 ∷ 0x7fffffffffffffff ∷ 0x1 ∷ 0x7fffffffffffffff ∷ 0x100016578 ∷ 0x4 ∷ 0x4924ffdab5906b4621fcd7b28d68431ef9d4af8a65401bf6d1ac87623d18f3cea9845f3a15f0cba6815c3712edc8a37e59340feac5a07b56 ∷ [])
    ∷ (0x33433e61bd8e02e3 ∷ 0x0 ∷ 0x46e48e09 ∷ 0x100000000 ∷ 0x17 ∷ 0x1 ∷ 0x1a096f2103f6082d ∷ 0x7fffffff ∷ 0xd2f139fc0e14c998 ∷ 0x55e9263cb608029d ∷ 0x10001661c ∷ 0xf ∷ 0x542f0ae5c09b76512c07e2bd98734e2904dfba95704b2601dcb7926d4823fed9b48f6a4520fbd6b18c67421df8d3ae89643f1af5d0ab8661 ∷ [])
    ∷ (0x6afd1120bf7840c0 ∷ 0xff83 ∷ 0x0 ∷ 0x520b ∷ 0x8000000000000000 ∷ 0xfd1a ∷ 0x4328ec4e851f6c65 ∷ 0x100000000 ∷ 0x80000000 ∷ 0xe2c39f1982cfa57e ∷ 0x1000166d8 ∷ 0xd ∷ 0x5f3a15f0cba6815c3712edc8a37e59340feac5a07b56310ce7c29d78532e09e4bf9a75502b06e1bc97724d2803deb9946f4a2500dbb6916c ∷ [])
    ∷ (0x7fffffff ∷ 0x6da66b7b6fa482d1 ∷ 0x33b6c07c4e12576c ∷ 0x7fffffff ∷ 0xeeb518985fb1d2e2 ∷ 0x7fffffffffffffff ∷ 0x5da05c58242b225a ∷ 0x19a25154 ∷ 0xfffffffffffffffe ∷ 0xbab0c1220d18d933 ∷ 0x10001677c ∷ 0xa ∷ 0x6a4520fbd6b18c67421df8d3ae89643f1af5d0ab86613c17f2cda8835e3914efcaa5805b3611ecc7a27d58330ee9c49f7a55300be6c19c77 ∷ [])
    ∷ (0xf39003e368af8bb9 ∷ 0x90a5b5852d46eef ∷ 0x7fffffffffffffff ∷ 0xfffffffffffffffe ∷ 0xffffffffffffffff ∷ 0xef52eb3867efec23 ∷ 0xe0c8a5ca34302e5a ∷ 0x2 ∷ 0xfffffffe ∷ 0x2 ∷ 0x10001682c ∷ 0x2 ∷ 0x75502b06e1bc97724d2803deb9946f4a2500dbb6916c4722fdd8b38e69441ffad5b08b66411cf7d2ad88633e19f4cfaa85603b16f1cca782 ∷ [])
    ∷ (0xfffffffffffffffe ∷ 0x2a0417f0ccfa8b19 ∷ 0xfffffffe ∷ 0x4b7e1509bfa8cb61 ∷ 0xd69b05b4 ∷ 0xfffffffffffffffe ∷ 0x1 ∷ 0x7fffffff ∷ 0x6a ∷ 0x80000000 ∷ 0x1000168e8 ∷ 0xe ∷ 0x805b3611ecc7a27d58330ee9c49f7a55300be6c19c77522d08e3be99744f2a05e0bb96714c2702ddb8936e4924ffdab5906b4621fcd7b28d ∷ [])
    ∷ (0x0 ∷ 0xab0 ∷ 0x7fffffffffffffff ∷ 0x7fffffff ∷ 0x5a7d11f451984400 ∷ 0x4f3fc219276bcf25 ∷ 0x463cced8 ∷ 0xf20f ∷ 0x6439 ∷ 0x30a30232 ∷ 0x100016998 ∷ 0x4 ∷ 0x8b66411cf7d2ad88633e19f4cfaa85603b16f1cca7825d3813eec9a47f5a3510ebc6a17c57320de8c39e79542f0ae5c09b76512c07e2bd98 ∷ [])
    ∷ (0x8000000000000000 ∷ 0x76e6625732ba5b15 ∷ 0x2 ∷ 0xfffffffe ∷ 0x0 ∷ 0xa8 ∷ 0x8638f07e7028 ∷ 0x7d6b20984a6f28db ∷ 0x7fffffffffffffff ∷ 0x33 ∷ 0x100016a48 ∷ 0xf ∷ 0x96714c2702ddb8936e4924ffdab5906b4621fcd7b28d68431ef9d4af8a65401bf6d1ac87623d18f3cea9845f3a15f0cba6815c3712edc8a3 ∷ [])
    ∷ (0x1957b1761 ∷ 0x23c3 ∷ 0x7fffffff ∷ 0x84b9f604cc3e511 ∷ 0xf7a48cf819c54985 ∷ 0x7fffffff ∷ 0xcd04cce62af ∷ 0xffffffff ∷ 0x7fffffff ∷ 0xffffffff ∷ 0x100016b00 ∷ 0x5 ∷ 0xa17c57320de8c39e79542f0ae5c09b76512c07e2bd98734e2904dfba95704b2601dcb7926d4823fed9b48f6a4520fbd6b18c67421df8d3ae ∷ [])
    ∷ (0x678da227 ∷ 0x8000000000000000 ∷ 0xfffffffffffffffe ∷ 0x294f97e0c9b9a7c6 ∷ 0x930a7f4761e1ab9 ∷ 0x8000000000000000 ∷ 0xa595677269bafa1d ∷ 0x93f72e776a52ce18 ∷ 0x5f ∷ 0x29f4536ebbf73ce8 ∷ 0x100016ba8 ∷ 0xb ∷ 0xac87623d18f3cea9845f3a15f0cba6815c3712edc8a37e59340feac5a07b56310ce7c29d78532e09e4bf9a75502b06e1bc97724d2803deb9 ∷ [])
    ∷ (0x54e5c2dd170c9613 ∷ 0xfffffffe ∷ 0x4daa8abb ∷ 0x1 ∷ 0x7fffffff ∷ 0x7fffffffffffffff ∷ 0x8000000000000000 ∷ 0x7fffffffffffffff ∷ 0xffffffffffffffff ∷ 0x419818f281bc896a ∷ 0x100016c58 ∷ 0xb ∷ 0xb7926d4823fed9b48f6a4520fbd6b18c67421df8d3ae89643f1af5d0ab86613c17f2cda8835e3914efcaa5805b3611ecc7a27d58330ee9c4 ∷ [])
    ∷ (0x8000000000000000 ∷ 0x2 ∷ 0x88e8df1c6920 ∷ 0x18518e43e3fef409 ∷ 0x0 ∷ 0xfffffffffffffffe ∷ 0xbe637673b05f9e08 ∷ 0x2 ∷ 0x80000000 ∷ 0x64ad2d60 ∷ 0x100016d08 ∷ 0x3 ∷ 0xc29d78532e09e4bf9a75502b06e1bc97724d2803deb9946f4a2500dbb6916c4722fdd8b38e69441ffad5b08b66411cf7d2ad88633e19f4cf ∷ [])
    ∷ (0x1596640e1ee99d8e ∷ 0x3be20afe37b630f3 ∷ 0x8000000000000000 ∷ 0xd2450b1b0fe84f53 ∷ 0xffffffffffffffff ∷ 0x1 ∷ 0xffffffffffffffff ∷ 0xd08c ∷ 0x1 ∷ 0x9784544c ∷ 0x100016db8 ∷ 0x5 ∷ 0xcda8835e3914efcaa5805b3611ecc7a27d58330ee9c49f7a55300be6c19c77522d08e3be99744f2a05e0bb96714c2702ddb8936e4924ffda ∷ [])
    ∷ (0x100000000 ∷ 0x16 ∷ 0xbbd7 ∷ 0x26b74d942ac961f0 ∷ 0x1a141aab23ef5835 ∷ 0x7fffffff ∷ 0xf9d9ac27b566aa33 ∷ 0x0 ∷ 0x9a8997f ∷ 0xffffffff ∷ 0x100016e5c ∷ 0x2 ∷ 0xd8b38e69441ffad5b08b66411cf7d2ad88633e19f4cfaa85603b16f1cca7825d3813eec9a47f5a3510ebc6a17c57320de8c39e79542f0ae5 ∷ [])
    ∷ (0xfffffffe ∷ 0xffffffff ∷ 0xa6 ∷ 0x9530e5dd59652327 ∷ 0x7fffffffffffffff ∷ 0x7f089fc0bedcd9c3 ∷ 0xfffffffffffffffe ∷ 0xbe ∷ 0xfffffffe ∷ 0x62c568c06f7130ef ∷ 0x100016f18 ∷ 0x9 ∷ 0xe3be99744f2a05e0bb96714c2702ddb8936e4924ffdab5906b4621fcd7b28d68431ef9d4af8a65401bf6d1ac87623d18f3cea9845f3a15f0 ∷ [])
    ∷ (0x80000000 ∷ 0x1ebbcb6f3b6a0b33 ∷ 0x7fffffffffffffff ∷ 0x7e1c6389e0a7bc30 ∷ 0xaf718aa7eee9b19c ∷ 0x64 ∷ 0xcb2c6df965129183 ∷ 0xf113c2cbc61ec870 ∷ 0x100000000 ∷ 0x1 ∷ 0x100016fbc ∷ 0x7 ∷ 0xeec9a47f5a3510ebc6a17c57320de8c39e79542f0ae5c09b76512c07e2bd98734e2904dfba95704b2601dcb7926d4823fed9b48f6a4520fb ∷ [])
    ∷ (0xd617953ce775538a ∷ 0x80000000 ∷ 0x7fffffffffffffff ∷ 0x1c501826f3742b88 ∷ 0x6b2d1e45 ∷ 0x80000000 ∷ 0xffffffff ∷ 0x5a8d03121545ff3d ∷ 0x7fffffffffffffff ∷ 0x55f882be4ac92509 ∷ 0x100017078 ∷ 0x2 ∷ 0xf9d4af8a65401bf6d1ac87623d18f3cea9845f3a15f0cba6815c3712edc8a37e59340feac5a07b56310ce7c29d78532e09e4bf9a75502b06 ∷ [])
    ∷ (0x7fffffffffffffff ∷ 0x8000000000000000 ∷ 0x37 ∷ 0x602a65a40aa12a75 ∷ 0x63c1 ∷ 0x2 ∷ 0x7fffffff ∷ 0xffffffffffffffff ∷ 0x4efe55fb ∷ 0x8000000000000000 ∷ 0x100017128 ∷ 0x6 ∷ 0x4dfba95704b2601dcb7926d4823fed9b48f6a4520fbd6b18c67421df8d3ae89643f1af5d0ab86613c17f2cda8835e3914efcaa5805b3611 ∷ [])
    ∷ (0x0 ∷ 0x2 ∷ 0x7fffffff ∷ 0xfffffffe ∷ 0xffffffff ∷ 0x8d7c38a1fc0986a1 ∷ 0x838cc85bc0cddb62 ∷ 0xedb98114229180a8 ∷ 0x554996a4 ∷ 0x8000000000000000 ∷ 0x1000171d8 ∷ 0xa ∷ 0xfeac5a07b56310ce7c29d78532e09e4bf9a75502b06e1bc97724d2803deb9946f4a2500dbb6916c4722fdd8b38e69441ffad5b08b66411c ∷ [])
    ∷ (0x80000000 ∷ 0xfffffffe ∷ 0x6038919bafb245fe ∷ 0x7a3ce1ead3271a6 ∷ 0x7e4b9284 ∷ 0x0 ∷ 0xfffffffe ∷ 0x100000000 ∷ 0x8000000000000000 ∷ 0xbff49b694acd ∷ 0x100017288 ∷ 0xe ∷ 0x1af5d0ab86613c17f2cda8835e3914efcaa5805b3611ecc7a27d58330ee9c49f7a55300be6c19c77522d08e3be99744f2a05e0bb96714c27 ∷ [])
    ∷ (0x2311f2cc ∷ 0x80000000 ∷ 0xffffffffffffffff ∷ 0x10bf2b809 ∷ 0xfffffffffffffffe ∷ 0x47e73205fb6dfb25 ∷ 0x4a8a33b13de292c5 ∷ 0x6b ∷ 0xa617ad4d68560e02 ∷ 0xfffffffe ∷ 0x10001732c ∷ 0xc ∷ 0x2500dbb6916c4722fdd8b38e69441ffad5b08b66411cf7d2ad88633e19f4cfaa85603b16f1cca7825d3813eec9a47f5a3510ebc6a17c5732 ∷ [])
    ∷ (0xb0db5c38bed8 ∷ 0x14b850eb ∷ 0xd36c8d68 ∷ 0x8000000000000000 ∷ 0x2 ∷ 0x0 ∷ 0xfffffffffffffffe ∷ 0x4fdd63bfae70beed ∷ 0x14c31a089 ∷ 0xffffffff ∷ 0x1000173f0 ∷ 0x5 ∷ 0x300be6c19c77522d08e3be99744f2a05e0bb96714c2702ddb8936e4924ffdab5906b4621fcd7b28d68431ef9d4af8a65401bf6d1ac87623d ∷ [])
    ∷ (0x7fffffffffffffff ∷ 0xffffffff ∷ 0x1bc1ef63 ∷ 0x64db492c5c9e5d0e ∷ 0x7fffffffffffffff ∷ 0x7fffffff ∷ 0x17342d5a1 ∷ 0xc75528ebc172 ∷ 0x26 ∷ 0x8000000000000000 ∷ 0x1000174a0 ∷ 0xf ∷ 0x3b16f1cca7825d3813eec9a47f5a3510ebc6a17c57320de8c39e79542f0ae5c09b76512c07e2bd98734e2904dfba95704b2601dcb7926d48 ∷ [])
    ∷ (0x3221529a ∷ 0x100000000 ∷ 0xd9f6313349d2fa61 ∷ 0x731cc115427d720f ∷ 0x88 ∷ 0x4e3ae9df ∷ 0x43f93bfd5c1c034b ∷ 0xe0 ∷ 0x9a4e8034c0f4d107 ∷ 0xd59b3d8669a8ee81 ∷ 0x100017550 ∷ 0x3 ∷ 0x4621fcd7b28d68431ef9d4af8a65401bf6d1ac87623d18f3cea9845f3a15f0cba6815c3712edc8a37e59340feac5a07b56310ce7c29d7853 ∷ [])
    ∷ (0x2 ∷ 0xb127be0b3177 ∷ 0x100000000 ∷ 0xfffffffffffffffe ∷ 0x647f770c ∷ 0xffffffff ∷ 0x2 ∷ 0x882382ff24b7205b ∷ 0xab5e7b1069e44cec ∷ 0x1118a75f ∷ 0x100017600 ∷ 0x6 ∷ 0x512c07e2bd98734e2904dfba95704b2601dcb7926d4823fed9b48f6a4520fbd6b18c67421df8d3ae89643f1af5d0ab86613c17f2cda8835e ∷ [])
    ∷ (0x69c7d7e8ecaf3471 ∷ 0x0 ∷ 0x93ec3c4c8d6a ∷ 0x7fffffff ∷ 0xc9037880461896fb ∷ 0x6b50c7d3da5d02d0 ∷ 0x7fffffff ∷ 0x3d1c10dbc10dae44 ∷ 0x4858cfcae5f9683e ∷ 0xd22bf84a27b3 ∷ 0x1000176b0 ∷ 0xc ∷ 0x5c3712edc8a37e59340feac5a07b56310ce7c29d78532e09e4bf9a75502b06e1bc97724d2803deb9946f4a2500dbb6916c4722fdd8b38e69 ∷ [])
    ∷ (0xfffffffffffffffe ∷ 0x9cc321d7 ∷ 0xc582113b58d5 ∷ 0x8252584cd301cf19 ∷ 0x7fffffff ∷ 0xc02f34d ∷ 0xffffffffffffffff ∷ 0x2e0b2baf142399d4 ∷ 0x8000000000000000 ∷ 0xffffffff ∷ 0x100017760 ∷ 0x6 ∷ 0x67421df8d3ae89643f1af5d0ab86613c17f2cda8835e3914efcaa5805b3611ecc7a27d58330ee9c49f7a55300be6c19c77522d08e3be9974 ∷ [])
    ∷ (0x2 ∷ 0x8000000000000000 ∷ 0x7fffffffffffffff ∷ 0xceb025f0987dd4b4 ∷ 0x8000000000000000 ∷ 0x7b ∷ 0xfffffffe ∷ 0x43edbce0 ∷ 0x8e7d6ed937c5b30a ∷ 0x481e ∷ 0x1000177fc ∷ 0x0 ∷ 0x724d2803deb9946f4a2500dbb6916c4722fdd8b38e69441ffad5b08b66411cf7d2ad88633e19f4cfaa85603b16f1cca7825d3813eec9a47f ∷ [])
    ∷ (0xcf ∷ 0x5fd9333f6c857f1b ∷ 0xfffffffe ∷ 0x1 ∷ 0x63eb2034666f88f2 ∷ 0x68b60ffc96b89f5a ∷ 0x0 ∷ 0x1545535d0 ∷ 0xa4 ∷ 0x2 ∷ 0x1000178ac ∷ 0xd ∷ 0x7d58330ee9c49f7a55300be6c19c77522d08e3be99744f2a05e0bb96714c2702ddb8936e4924ffdab5906b4621fcd7b28d68431ef9d4af8a ∷ []) ∷ [])
unfolding step fetched Rattle.a64_meaning.specs.Access.plain_load Rattle.a64_meaning.specs.Access.in_cell Rattle.a64_meaning.specs.Access.is_cell Rattle.a64_meaning.specs.Access.found Rattle.a64_meaning.specs.Access.is_writable Rattle.a64_meaning.specs.Access.load Rattle.a64_meaning.specs.Access.store Rattle.a64_code.specs.Words.instruction Rattle.a64_meaning.specs.Effects.act Rattle.a64_meaning.specs.Numbers.holds Rattle.a64_meaning.specs.Numbers.shifted Rattle.a64_meaning.specs.Numbers.logical Rattle.a64_meaning.specs.Numbers.multiplied Rattle.a64_meaning.specs.Numbers.long_product Rattle.a64_meaning.specs.Numbers.high_product Rattle.a64_meaning.specs.Numbers.quotient Rattle.a64_meaning.specs.Numbers.bit_field Rattle.a64_meaning.specs.Numbers.moved_wide
branch_conditional = refl

compare_and_branch : map ran (b 0x34ffffdf (0x0 ∷ 0x8000000000000000 ∷ 0x0 ∷ 0x0 ∷ 0x0 ∷ 0x0 ∷ 0x0 ∷ 0x0 ∷ 0x0 ∷ []) 0x7fffffff 3 0x100017964 0x20001b000
    ∷ b 0xb400007f (0x0 ∷ 0x1 ∷ 0x0 ∷ 0x0 ∷ 0x0 ∷ 0x0 ∷ 0x0 ∷ 0x0 ∷ 0x0 ∷ []) 0xbc 0 0x100017a14 0x20001b100
    ∷ b 0x35ffffdf (0x0 ∷ 0x1 ∷ 0x0 ∷ 0x0 ∷ 0x0 ∷ 0x0 ∷ 0x0 ∷ 0x0 ∷ 0x0 ∷ []) 0x8f6d 9 0x100017ac4 0x20001b200
    ∷ b 0xb5ffffc1 (0x0 ∷ 0x0 ∷ 0x0 ∷ 0x0 ∷ 0x0 ∷ 0x0 ∷ 0x0 ∷ 0x0 ∷ 0x0 ∷ []) 0x100000000 0 0x100017b74 0x20001b300 ∷ []) ≡
    ((0x0 ∷ 0x8000000000000000 ∷ 0x0 ∷ 0x0 ∷ 0x0 ∷ 0x0 ∷ 0x0 ∷ 0x0 ∷ 0x0 ∷ 0x7fffffff ∷ 0x10001795c ∷ 0x3 ∷ 0x88633e19f4cfaa85603b16f1cca7825d3813eec9a47f5a3510ebc6a17c57320de8c39e79542f0ae5c09b76512c07e2bd98734e2904dfba95 ∷ [])
    ∷ (0x0 ∷ 0x1 ∷ 0x0 ∷ 0x0 ∷ 0x0 ∷ 0x0 ∷ 0x0 ∷ 0x0 ∷ 0x0 ∷ 0xbc ∷ 0x100017a20 ∷ 0x0 ∷ 0x936e4924ffdab5906b4621fcd7b28d68431ef9d4af8a65401bf6d1ac87623d18f3cea9845f3a15f0cba6815c3712edc8a37e59340feac5a0 ∷ [])
    ∷ (0x0 ∷ 0x1 ∷ 0x0 ∷ 0x0 ∷ 0x0 ∷ 0x0 ∷ 0x0 ∷ 0x0 ∷ 0x0 ∷ 0x8f6d ∷ 0x100017ac8 ∷ 0x9 ∷ 0x9e79542f0ae5c09b76512c07e2bd98734e2904dfba95704b2601dcb7926d4823fed9b48f6a4520fbd6b18c67421df8d3ae89643f1af5d0ab ∷ [])
    ∷ (0x0 ∷ 0x0 ∷ 0x0 ∷ 0x0 ∷ 0x0 ∷ 0x0 ∷ 0x0 ∷ 0x0 ∷ 0x0 ∷ 0x100000000 ∷ 0x100017b78 ∷ 0x0 ∷ 0xa9845f3a15f0cba6815c3712edc8a37e59340feac5a07b56310ce7c29d78532e09e4bf9a75502b06e1bc97724d2803deb9946f4a2500dbb6 ∷ []) ∷ [])
unfolding step fetched Rattle.a64_meaning.specs.Access.plain_load Rattle.a64_meaning.specs.Access.in_cell Rattle.a64_meaning.specs.Access.is_cell Rattle.a64_meaning.specs.Access.found Rattle.a64_meaning.specs.Access.is_writable Rattle.a64_meaning.specs.Access.load Rattle.a64_meaning.specs.Access.store Rattle.a64_code.specs.Words.instruction Rattle.a64_meaning.specs.Effects.act Rattle.a64_meaning.specs.Numbers.holds Rattle.a64_meaning.specs.Numbers.shifted Rattle.a64_meaning.specs.Numbers.logical Rattle.a64_meaning.specs.Numbers.multiplied Rattle.a64_meaning.specs.Numbers.long_product Rattle.a64_meaning.specs.Numbers.high_product Rattle.a64_meaning.specs.Numbers.quotient Rattle.a64_meaning.specs.Numbers.bit_field Rattle.a64_meaning.specs.Numbers.moved_wide
compare_and_branch = refl

branch_register : map ran (b 0xd61f0000 (0x100017c30 ∷ 0x8ec8efd24387d40b ∷ 0x2 ∷ 0xfdd0ded450d04ccb ∷ 0x1 ∷ 0x2 ∷ 0xe623d7136bc7e3e7 ∷ 0xfffffffffffffffe ∷ 0x1 ∷ []) 0x2 11 0x100017c24 0x20001b400
    ∷ b 0xd61f00a0 (0x1 ∷ 0x3cf58268518addb8 ∷ 0xd997 ∷ 0xffffffffffffffff ∷ 0x100000000 ∷ 0x100017ccc ∷ 0xe8abc37ff0010b8c ∷ 0x80000000 ∷ 0x16fcead76 ∷ []) 0x293459456257c2bc 13 0x100017cd4 0x20001b500
    ∷ b 0xd61f03c0 (0x1 ∷ 0xffffffffffffffff ∷ 0x255faff0711015c ∷ 0x3b5ae9da16070cb4 ∷ 0xe396 ∷ 0x122bc68ae9f3f581 ∷ 0x4ff243fb ∷ 0x7c0a066d76361e03 ∷ 0x100017d7c ∷ []) 0xffffffff 12 0x100017d84 0x20001b600
    ∷ b 0xd63f0000 (0x100017e2c ∷ 0x74d71ab6 ∷ 0xa2e9b4aeeba42ef4 ∷ 0x708b8d47e9fdbf26 ∷ 0x1b9775bf0 ∷ 0x7fffffffffffffff ∷ 0xfffffffe ∷ 0xfd6bb14eb6b78139 ∷ 0xfffffffe ∷ []) 0x7fffffffffffffff 4 0x100017e34 0x20001b700
    ∷ b 0xd63f00a0 (0x61b6b402 ∷ 0xfca1c55fcccb6972 ∷ 0x64 ∷ 0xd2e60fcfbec726c8 ∷ 0xfffffffffffffffe ∷ 0x100017ef0 ∷ 0x7fffffff ∷ 0x77 ∷ 0x7fffffff ∷ []) 0xc67c 1 0x100017ee4 0x20001b800
    ∷ b 0xd63f03c0 (0x2 ∷ 0x7fffffffffffffff ∷ 0xc2 ∷ 0x2fdb18b92793 ∷ 0x8000000000000000 ∷ 0x8000000000000000 ∷ 0x8000000000000000 ∷ 0xea95eeba ∷ 0x100017f8c ∷ []) 0xfffffffe 2 0x100017f94 0x20001b900
    ∷ b 0xd65f0000 (0x10001803c ∷ 0x659f181475034ba2 ∷ 0xbeb814c18f558977 ∷ 0x2 ∷ 0x3a9f4881d658cc6f ∷ 0xfffffffffffffffe ∷ 0xabf674973506ce5f ∷ 0x1 ∷ 0x8bce4153161b3682 ∷ []) 0x181269c3ad7a915c 2 0x100018044 0x20001ba00
    ∷ b 0xd65f00a0 (0xcfb37a6fbd12e24 ∷ 0x80000000 ∷ 0x80000000 ∷ 0xffffffffffffffff ∷ 0xc4cf6da055b8fb74 ∷ 0x1000180ec ∷ 0x1 ∷ 0x9948a0c7c47207eb ∷ 0x100000000 ∷ []) 0x100000000 6 0x1000180f4 0x20001bb00
    ∷ b 0xd65f03c0 (0x5bbbde160f145b79 ∷ 0xae4d0899ab8d2e5b ∷ 0x100000000 ∷ 0x2e ∷ 0x7115cd554b1a0d0e ∷ 0x2 ∷ 0x80000000 ∷ 0x53 ∷ 0x1000181b0 ∷ []) 0xfffffffe 15 0x1000181a4 0x20001bc00 ∷ []) ≡
    ((0x100017c30 ∷ 0x8ec8efd24387d40b ∷ 0x2 ∷ 0xfdd0ded450d04ccb ∷ 0x1 ∷ 0x2 ∷ 0xe623d7136bc7e3e7 ∷ 0xfffffffffffffffe ∷ 0x1 ∷ 0x2 ∷ 0x100017c30 ∷ 0xb ∷ 0xb48f6a4520fbd6b18c67421df8d3ae89643f1af5d0ab86613c17f2cda8835e3914efcaa5805b3611ecc7a27d58330ee9c49f7a55300be6c1 ∷ [])
    ∷ (0x1 ∷ 0x3cf58268518addb8 ∷ 0xd997 ∷ 0xffffffffffffffff ∷ 0x100000000 ∷ 0x100017ccc ∷ 0xe8abc37ff0010b8c ∷ 0x80000000 ∷ 0x16fcead76 ∷ 0x293459456257c2bc ∷ 0x100017ccc ∷ 0xd ∷ 0xbf9a75502b06e1bc97724d2803deb9946f4a2500dbb6916c4722fdd8b38e69441ffad5b08b66411cf7d2ad88633e19f4cfaa85603b16f1cc ∷ [])
    ∷ (0x1 ∷ 0xffffffffffffffff ∷ 0x255faff0711015c ∷ 0x3b5ae9da16070cb4 ∷ 0xe396 ∷ 0x122bc68ae9f3f581 ∷ 0x4ff243fb ∷ 0x7c0a066d76361e03 ∷ 0x100017d7c ∷ 0xffffffff ∷ 0x100017d7c ∷ 0xc ∷ 0xcaa5805b3611ecc7a27d58330ee9c49f7a55300be6c19c77522d08e3be99744f2a05e0bb96714c2702ddb8936e4924ffdab5906b4621fcd7 ∷ [])
    ∷ (0x100017e2c ∷ 0x74d71ab6 ∷ 0xa2e9b4aeeba42ef4 ∷ 0x708b8d47e9fdbf26 ∷ 0x1b9775bf0 ∷ 0x7fffffffffffffff ∷ 0xfffffffe ∷ 0xfd6bb14eb6b78139 ∷ 0x100017e38 ∷ 0x7fffffffffffffff ∷ 0x100017e2c ∷ 0x4 ∷ 0xd5b08b66411cf7d2ad88633e19f4cfaa85603b16f1cca7825d3813eec9a47f5a3510ebc6a17c57320de8c39e79542f0ae5c09b76512c07e2 ∷ [])
    ∷ (0x61b6b402 ∷ 0xfca1c55fcccb6972 ∷ 0x64 ∷ 0xd2e60fcfbec726c8 ∷ 0xfffffffffffffffe ∷ 0x100017ef0 ∷ 0x7fffffff ∷ 0x77 ∷ 0x100017ee8 ∷ 0xc67c ∷ 0x100017ef0 ∷ 0x1 ∷ 0xe0bb96714c2702ddb8936e4924ffdab5906b4621fcd7b28d68431ef9d4af8a65401bf6d1ac87623d18f3cea9845f3a15f0cba6815c3712ed ∷ [])
    ∷ (0x2 ∷ 0x7fffffffffffffff ∷ 0xc2 ∷ 0x2fdb18b92793 ∷ 0x8000000000000000 ∷ 0x8000000000000000 ∷ 0x8000000000000000 ∷ 0xea95eeba ∷ 0x100017f98 ∷ 0xfffffffe ∷ 0x100017f8c ∷ 0x2 ∷ 0xebc6a17c57320de8c39e79542f0ae5c09b76512c07e2bd98734e2904dfba95704b2601dcb7926d4823fed9b48f6a4520fbd6b18c67421df8 ∷ [])
    ∷ (0x10001803c ∷ 0x659f181475034ba2 ∷ 0xbeb814c18f558977 ∷ 0x2 ∷ 0x3a9f4881d658cc6f ∷ 0xfffffffffffffffe ∷ 0xabf674973506ce5f ∷ 0x1 ∷ 0x8bce4153161b3682 ∷ 0x181269c3ad7a915c ∷ 0x10001803c ∷ 0x2 ∷ 0xf6d1ac87623d18f3cea9845f3a15f0cba6815c3712edc8a37e59340feac5a07b56310ce7c29d78532e09e4bf9a75502b06e1bc97724d2803 ∷ [])
    ∷ (0xcfb37a6fbd12e24 ∷ 0x80000000 ∷ 0x80000000 ∷ 0xffffffffffffffff ∷ 0xc4cf6da055b8fb74 ∷ 0x1000180ec ∷ 0x1 ∷ 0x9948a0c7c47207eb ∷ 0x100000000 ∷ 0x100000000 ∷ 0x1000180ec ∷ 0x6 ∷ 0x1dcb7926d4823fed9b48f6a4520fbd6b18c67421df8d3ae89643f1af5d0ab86613c17f2cda8835e3914efcaa5805b3611ecc7a27d58330e ∷ [])
    ∷ (0x5bbbde160f145b79 ∷ 0xae4d0899ab8d2e5b ∷ 0x100000000 ∷ 0x2e ∷ 0x7115cd554b1a0d0e ∷ 0x2 ∷ 0x80000000 ∷ 0x53 ∷ 0x1000181b0 ∷ 0xfffffffe ∷ 0x1000181b0 ∷ 0xf ∷ 0xce7c29d78532e09e4bf9a75502b06e1bc97724d2803deb9946f4a2500dbb6916c4722fdd8b38e69441ffad5b08b66411cf7d2ad88633e19 ∷ []) ∷ [])
unfolding step fetched Rattle.a64_meaning.specs.Access.plain_load Rattle.a64_meaning.specs.Access.in_cell Rattle.a64_meaning.specs.Access.is_cell Rattle.a64_meaning.specs.Access.found Rattle.a64_meaning.specs.Access.is_writable Rattle.a64_meaning.specs.Access.load Rattle.a64_meaning.specs.Access.store Rattle.a64_code.specs.Words.instruction Rattle.a64_meaning.specs.Effects.act Rattle.a64_meaning.specs.Numbers.holds Rattle.a64_meaning.specs.Numbers.shifted Rattle.a64_meaning.specs.Numbers.logical Rattle.a64_meaning.specs.Numbers.multiplied Rattle.a64_meaning.specs.Numbers.long_product Rattle.a64_meaning.specs.Numbers.high_product Rattle.a64_meaning.specs.Numbers.quotient Rattle.a64_meaning.specs.Numbers.bit_field Rattle.a64_meaning.specs.Numbers.moved_wide
branch_register = refl

conditional_select : map ran (b 0x1a800064 (0x0 ∷ 0x8000000000000000 ∷ 0x38b796542635b5 ∷ 0x71e58f1d3d20ed07 ∷ 0x1 ∷ 0x90edd5a1ad7b6e8 ∷ 0x36666d90 ∷ 0x10731be85dfbf1d1 ∷ 0x7541ada6f734741b ∷ []) 0x8000000000000000 1 0x100018254 0x20001bd00
    ∷ b 0x1a86107f (0x1b09679de ∷ 0xa5 ∷ 0x80000000 ∷ 0xb6 ∷ 0xfffffffffffffffe ∷ 0x2 ∷ 0xafd74c379d40c482 ∷ 0xfffffffffffffffe ∷ 0x100000000 ∷ []) 0x80000000 0 0x100018304 0x20001be00
    ∷ b 0x1a842061 (0xa4aee33aa7ecfe30 ∷ 0xa7f7362a245b82fc ∷ 0x1 ∷ 0x13f3fec64dcc67f8 ∷ 0x1 ∷ 0x5c8b537612cd8d4e ∷ 0x8000000000000000 ∷ 0x7fffffffffffffff ∷ 0xb002894682a159ad ∷ []) 0x16c5266f73352920 3 0x1000183b4 0x20001bf00
    ∷ b 0x1a863084 (0xfffffffffffffffe ∷ 0xfffffffffffffffe ∷ 0x3af5fe43eeabd1de ∷ 0x7fffffff ∷ 0x7fffffff ∷ 0x7fffffff ∷ 0x471455e63f24 ∷ 0x30a0719dd87cb335 ∷ 0x1 ∷ []) 0xfffffffe 9 0x100018464 0x20001c000
    ∷ b 0x1a804044 (0x1 ∷ 0x62 ∷ 0x1 ∷ 0xfe2cc0b39277dbc ∷ 0x0 ∷ 0x2 ∷ 0x2e8b8935 ∷ 0x236b8d4c2d23dac8 ∷ 0xfffffffffffffffe ∷ []) 0xffffffff 5 0x100018514 0x20001c100
    ∷ b 0x1a83503f (0x4908 ∷ 0x1cab6ce207b3f86e ∷ 0x3811ad44e2f9ac03 ∷ 0x1ed4fed05d878b11 ∷ 0x434eccd778c73d54 ∷ 0x19 ∷ 0x5e8d8e4dd61ff27c ∷ 0x0 ∷ 0x7fffffffffffffff ∷ []) 0x7fffffffffffffff 15 0x1000185c4 0x20001c200
    ∷ b 0x1a8160c1 (0x2 ∷ 0x70b5450a ∷ 0x7fffffff ∷ 0xffffffff ∷ 0x7fffffff ∷ 0xeaa8d63 ∷ 0xbe8553857be53fe6 ∷ 0xffffffffffffffff ∷ 0xe160962604ff378 ∷ []) 0x100000000 1 0x100018674 0x20001c300
    ∷ b 0x1a8273e3 (0x365ed46050f73707 ∷ 0x7fffffffffffffff ∷ 0x7fffffffffffffff ∷ 0x130e ∷ 0x1912515c9ac2 ∷ 0xfffffffe ∷ 0x1e ∷ 0x7b48db017997f8de ∷ 0x8000000000000000 ∷ []) 0xfffffffe 0 0x100018724 0x20001c400
    ∷ b 0x1a9f8007 (0x7fbe296cc5c6bb69 ∷ 0xa6b0dd3d23a9140a ∷ 0x100000000 ∷ 0x5ec48b18 ∷ 0xffffffff ∷ 0x2e85b59aa69c04d2 ∷ 0x9913b95b0401df01 ∷ 0xfffffffffffffffe ∷ 0x7fffffff ∷ []) 0x3831a8fb 4 0x1000187d4 0x20001c500
    ∷ b 0x1a859083 (0x10f4913bf07f3fc4 ∷ 0xfffffffe ∷ 0xffffffff ∷ 0x10d9 ∷ 0x8000000000000000 ∷ 0xac2e7dfa7deb ∷ 0xe7f0226c ∷ 0x7fffffffffffffff ∷ 0x7fffffffffffffff ∷ []) 0xffffffff 1 0x100018884 0x20001c600
    ∷ b 0x1a85a046 (0xfffffffffffffffe ∷ 0xffffffff ∷ 0xd3f9 ∷ 0x9b87 ∷ 0x7443d173 ∷ 0x62f4de5eb6342b23 ∷ 0x7fffffff ∷ 0xf5d2f5af461db961 ∷ 0x2 ∷ []) 0x94d7 10 0x100018934 0x20001c700
    ∷ b 0x1a83b040 (0x1 ∷ 0xca3e7ea373d1b53a ∷ 0xffffffffffffffff ∷ 0x26986a17dc376be1 ∷ 0x7bdf7171 ∷ 0x1847a1f9 ∷ 0x1 ∷ 0x90747a2 ∷ 0x2 ∷ []) 0x12c68f25 12 0x1000189e4 0x20001c800
    ∷ b 0x1a81c3e4 (0x7fffffffffffffff ∷ 0xae0867ca9617402a ∷ 0x1f65e382a ∷ 0x1 ∷ 0x92002a8d40db6dd7 ∷ 0xfffffffffffffffe ∷ 0x697b3c8ef712 ∷ 0x8000000000000000 ∷ 0x1 ∷ []) 0x9fcee3ee0e9cd6d9 15 0x100018a94 0x20001c900
    ∷ b 0x1a80d0a3 (0xffffffff ∷ 0xf4bad5b8b589130d ∷ 0x772b51322e24a2ea ∷ 0x1dcfe1adf8a22ee9 ∷ 0xf5 ∷ 0x68bbf935 ∷ 0x5eed3b84e300 ∷ 0x614d74c65c13e123 ∷ 0x5d6a8dd8c4524d89 ∷ []) 0x7fffffff 6 0x100018b44 0x20001ca00
    ∷ b 0x1a80e024 (0x67f8c107e272a5ed ∷ 0x13ea4bfea5785d77 ∷ 0x7fffffffffffffff ∷ 0x8afd1e20 ∷ 0x100000000 ∷ 0x7fffffffffffffff ∷ 0xad0be67dad2bcd56 ∷ 0x5ea516cd ∷ 0xfffffffe ∷ []) 0x522fe5438cdc00e7 6 0x100018bf4 0x20001cb00
    ∷ b 0x1a85f063 (0x53095efa ∷ 0x1 ∷ 0xaa7716fed982e22a ∷ 0xbae7c7a ∷ 0x88ec029f ∷ 0x770623545be83c2 ∷ 0x0 ∷ 0xb2 ∷ 0x2 ∷ []) 0x80000000 7 0x100018ca4 0x20001cc00
    ∷ b 0x9a810000 (0x1 ∷ 0x7849 ∷ 0x8000000000000000 ∷ 0x80000000 ∷ 0x7fffffffffffffff ∷ 0x70998e4 ∷ 0x14cb7a4e ∷ 0x1 ∷ 0xf93b3d89b2562857 ∷ []) 0xfffffffffffffffe 10 0x100018d54 0x20001cd00
    ∷ b 0x9a8713e5 (0xffffffffffffffff ∷ 0xce1ee419 ∷ 0x361ee9d8b1505cb8 ∷ 0xfffffffffffffffe ∷ 0x80000000 ∷ 0xc0f0e0178f2aa63 ∷ 0x2 ∷ 0xfffffffffffffffe ∷ 0x7fffffffffffffff ∷ []) 0x9f58 2 0x100018e04 0x20001ce00
    ∷ b 0x9a8220c7 (0xffffffffffffffff ∷ 0xfffffffe ∷ 0x80000000 ∷ 0x887ca84b8597b645 ∷ 0x0 ∷ 0xfffffffffffffffe ∷ 0x8000000000000000 ∷ 0xfffffffe ∷ 0x9d5e47f974491ae2 ∷ []) 0x2 6 0x100018eb4 0x20001cf00
    ∷ b 0x9a823084 (0x7fffffff ∷ 0xffffffff ∷ 0xf56dae6329e4 ∷ 0x4f471eeece191e0c ∷ 0x8000000000000000 ∷ 0xc64e0a8d0e3f819a ∷ 0x4b20506516d1af3c ∷ 0x8000000000000000 ∷ 0x2 ∷ []) 0x7635 0 0x100018f64 0x20001d000
    ∷ b 0x9a8140a3 (0xdeb285738ae6 ∷ 0xfffffffffffffffe ∷ 0x80000000 ∷ 0xa8 ∷ 0x100000000 ∷ 0x1 ∷ 0xfffffffe ∷ 0x51783656731ab8ab ∷ 0xc5336b1c0b58 ∷ []) 0x726469f388f4810e 10 0x100019014 0x20001d100
    ∷ b 0x9a875020 (0x80000000 ∷ 0x8000000000000000 ∷ 0x7fffffffffffffff ∷ 0x4ccb42d308fdeee7 ∷ 0xc02ca748da3855cc ∷ 0x6ff666b5573e9ee6 ∷ 0x64d41a3e25137cda ∷ 0xf6a96fefb743765c ∷ 0x49bc55a80829c80e ∷ []) 0x87af229210c1 3 0x1000190c4 0x20001d200
    ∷ b 0x9a8260a1 (0xd5458319 ∷ 0x2 ∷ 0x100000000 ∷ 0x1f8e95325cc82e12 ∷ 0xf8c494d3 ∷ 0x42731b871778baf4 ∷ 0x62ffe77d3699 ∷ 0x2 ∷ 0xc23e35dc49e8a804 ∷ []) 0xfffffffffffffffe 6 0x100019174 0x20001d300
    ∷ b 0x9a877062 (0x8000000000000000 ∷ 0x7fffffff ∷ 0x8000000000000000 ∷ 0xfffffffffffffffe ∷ 0xffffffffffffffff ∷ 0x2 ∷ 0x57731384d942170f ∷ 0x6b1d80f5a8deeb35 ∷ 0x0 ∷ []) 0x5803b278 8 0x100019224 0x20001d400
    ∷ b 0x9a858000 (0xffffffff ∷ 0x798cc6e1 ∷ 0xffffffff ∷ 0x60d488cc64f82b13 ∷ 0x7fffffff ∷ 0xfffffffe ∷ 0xfffffffe ∷ 0x1c16e22e4 ∷ 0xfffffffe ∷ []) 0xc13d2be26f9f 4 0x1000192d4 0x20001d500
    ∷ b 0x9a9f9084 (0x6fdec9b36173a49f ∷ 0x3d63 ∷ 0xabbe585b561ee46b ∷ 0x72ac661a ∷ 0x707de2d451d87b87 ∷ 0x7a326cd1f03132ea ∷ 0x8ae7a701ad4b8026 ∷ 0xcb28dcd70c49c999 ∷ 0xfaabac82 ∷ []) 0xc86cb2a1 14 0x100019384 0x20001d600
    ∷ b 0x9a85a0a3 (0x1 ∷ 0x0 ∷ 0x3a ∷ 0xffffffffffffffff ∷ 0xfffffffffffffffe ∷ 0x7fffffffffffffff ∷ 0xcd6a098f4fa6f43e ∷ 0x100000000 ∷ 0xfffffffe ∷ []) 0x7870f85f 11 0x100019434 0x20001d700
    ∷ b 0x9a81b0a4 (0xd4475930ff6e109d ∷ 0x7b ∷ 0x0 ∷ 0x353b3a22a939 ∷ 0x8000000000000000 ∷ 0xfffffffe ∷ 0xa7a06a4d1ff6a96f ∷ 0x76 ∷ 0x60ce7bd6eaf4f8b ∷ []) 0xffac87566de7b706 2 0x1000194e4 0x20001d800
    ∷ b 0x9a84c3e2 (0x2da582ccbeb84eaa ∷ 0xfffffffffffffffe ∷ 0x3810e8b10ecac7cb ∷ 0xfffffffffffffffe ∷ 0x100000000 ∷ 0xee054dcb13b62571 ∷ 0xffffffff ∷ 0xffffffff ∷ 0x2fd32149f8f536d9 ∷ []) 0x8000000000000000 0 0x100019594 0x20001d900
    ∷ b 0x9a9fd0c2 (0x2eef ∷ 0xfffffffe ∷ 0x1ce09a42c27042c5 ∷ 0x6d6608d ∷ 0x8141 ∷ 0x8000000000000000 ∷ 0xb666e6840b01 ∷ 0x176600d5f ∷ 0x7fffffff ∷ []) 0xfffffffe 14 0x100019644 0x20001da00
    ∷ b 0x9a82e0c0 (0x9aa9d60042572ede ∷ 0x100000000 ∷ 0xfffffffe ∷ 0x1 ∷ 0x739d35ff5717b70f ∷ 0xc864af94bf94536c ∷ 0x80000000 ∷ 0x2 ∷ 0x2 ∷ []) 0xf9dc 3 0x1000196f4 0x20001db00
    ∷ b 0x9a84f067 (0xecd3198e ∷ 0xf1b251b47d07d09f ∷ 0x1 ∷ 0x56bca3538f2fd1a1 ∷ 0xffffffff ∷ 0xfffffffe ∷ 0x8000000000000000 ∷ 0xfffffffffffffffe ∷ 0x7fffffff ∷ []) 0x100000000 11 0x1000197a4 0x20001dc00
    ∷ b 0x1a840486 (0x7fffffff ∷ 0x2 ∷ 0xffffffff ∷ 0x80000000 ∷ 0x7fffffffffffffff ∷ 0x4bc855eff915986c ∷ 0x80000000 ∷ 0x7fffffff ∷ 0x8000000000000000 ∷ []) 0x2 7 0x100019854 0x20001dd00
    ∷ b 0x1a8614a1 (0x19b66cd3 ∷ 0x100000000 ∷ 0xfffffffffffffffe ∷ 0xa53f4ec06454988b ∷ 0xffffffffffffffff ∷ 0xd978c2840aa90d05 ∷ 0x5abeb264 ∷ 0xeb941c03b65670d8 ∷ 0x6ebc97f6f3bad9c3 ∷ []) 0x8de15f95280e607f 0 0x100019904 0x20001de00
    ∷ b 0x1a8624a2 (0x192491738 ∷ 0x2 ∷ 0xa6a107e4670bdddd ∷ 0x1 ∷ 0x0 ∷ 0x7ac86cb6ce7a49fb ∷ 0x80000000 ∷ 0x0 ∷ 0x8000000000000000 ∷ []) 0x51d04d54 15 0x1000199b4 0x20001df00
    ∷ b 0x1a8434a1 (0xffffffffffffffff ∷ 0x42b6d19adb6ad12f ∷ 0x100000000 ∷ 0xfffffffe ∷ 0xe42a2cf2469c1988 ∷ 0x7fffffffffffffff ∷ 0xfffffffffffffffe ∷ 0x1 ∷ 0x0 ∷ []) 0x259a997a23fd4a19 9 0x100019a64 0x20001e000
    ∷ b 0x1a804463 (0x1 ∷ 0xe82e0724b85aeae1 ∷ 0x8d07 ∷ 0x16ef7dc0f939f767 ∷ 0x6f1c ∷ 0xbf ∷ 0xfffffffffffffffe ∷ 0x1 ∷ 0xc0e7b4afb5794d65 ∷ []) 0x2 9 0x100019b14 0x20001e100
    ∷ b 0x1a805420 (0x0 ∷ 0xfffffffffffffffe ∷ 0x1cc20c942b209563 ∷ 0x1 ∷ 0xffffffffffffffff ∷ 0x7fffffff ∷ 0x100000000 ∷ 0x100000000 ∷ 0x7fffffff ∷ []) 0x0 5 0x100019bc4 0x20001e200
    ∷ b 0x1a826442 (0xa7bdbcb78207 ∷ 0x8000000000000000 ∷ 0x89720bce7cb9bc2 ∷ 0x1ca796967 ∷ 0x7061d352739b298c ∷ 0xa221ee6e ∷ 0xf17fce5882e8282d ∷ 0x0 ∷ 0x843bf781 ∷ []) 0xfffffffffffffffe 12 0x100019c74 0x20001e300
    ∷ b 0x1a9f7402 (0x41e6263ab3a3287c ∷ 0x2e54ab44cc4f2dcc ∷ 0xfffffffe ∷ 0x100000000 ∷ 0x5571335068a6277b ∷ 0x1edcf0cd4 ∷ 0xe52126e550fc016f ∷ 0x80000000 ∷ 0xcace ∷ []) 0xd23cda4b9d56e087 0 0x100019d24 0x20001e400
    ∷ b 0x1a9f84a5 (0xffffffffffffffff ∷ 0xffffffffffffffff ∷ 0xf3b9e79e ∷ 0x1 ∷ 0x0 ∷ 0x1 ∷ 0x4b496514e83f1745 ∷ 0xb47bdd9c6d6250c7 ∷ 0x96 ∷ []) 0x60 8 0x100019dd4 0x20001e500
    ∷ b 0x1a8794c1 (0xa69ee8641b0cb25 ∷ 0x5e4c60faa613fed0 ∷ 0x7fffffffffffffff ∷ 0x1b74d0d3 ∷ 0x80000000 ∷ 0xffffffff ∷ 0x8000000000000000 ∷ 0x16d3fff23 ∷ 0xa5c0ec1bcef9177e ∷ []) 0xa4a0511b 10 0x100019e84 0x20001e600
    ∷ b 0x1a81a4e6 (0x2 ∷ 0x6d9f9ff ∷ 0x8a7b859ddd6e4ae6 ∷ 0x2193619bf0050f3c ∷ 0x100000000 ∷ 0x684f9ee4 ∷ 0x7a586fac71dfe75b ∷ 0x1 ∷ 0x37 ∷ []) 0x7fffffffffffffff 2 0x100019f34 0x20001e700
    ∷ b 0x1a82b4a4 (0xc200d08fc7a7 ∷ 0x2 ∷ 0x2b0d42e4 ∷ 0x7fffffff ∷ 0x7fffffff ∷ 0x0 ∷ 0xffffffffffffffff ∷ 0x1 ∷ 0x9fe83d45886ff226 ∷ []) 0x36557efc 3 0x100019fe4 0x20001e800
    ∷ b 0x1a85c4e6 (0x622f9854bea65cb2 ∷ 0x7fffffffffffffff ∷ 0x8000000000000000 ∷ 0x148b303a ∷ 0x8dda87751ea70428 ∷ 0x2 ∷ 0x783591f2 ∷ 0x80000000 ∷ 0x8dd5382419523ff8 ∷ []) 0xffffffffffffffff 10 0x10001a094 0x20001e900
    ∷ b 0x1a81d4a2 (0x1 ∷ 0x7fa8 ∷ 0x548bcaa1f7813c1e ∷ 0x8000000000000000 ∷ 0x0 ∷ 0x7fffffffffffffff ∷ 0x80000000 ∷ 0xffffffff ∷ 0xf02c655ef2bf2963 ∷ []) 0x7b0ffe965cc107af 6 0x10001a144 0x20001ea00
    ∷ b 0x1a85e45f (0x7fffffff ∷ 0xfffffffffffffffe ∷ 0xffffffffffffffff ∷ 0x0 ∷ 0x1 ∷ 0x8000000000000000 ∷ 0xd63ae1ddc0d22256 ∷ 0x1 ∷ 0x19c815faed3a520d ∷ []) 0xb69394a37926 0 0x10001a1f4 0x20001eb00
    ∷ b 0x1a86f404 (0x80000000 ∷ 0xffffffffffffffff ∷ 0x6a6e0bec83e27857 ∷ 0xfffffffffffffffe ∷ 0x2e44abcad3081c7a ∷ 0x7fffffff ∷ 0xd0310ca39622335 ∷ 0x1 ∷ 0xfffffffffffffffe ∷ []) 0xacc122ad52d02e9d 12 0x10001a2a4 0x20001ec00
    ∷ b 0x9a810406 (0xfb30f3e9b29b358a ∷ 0xfffffffffffffffe ∷ 0x25de324b ∷ 0xfffffffe ∷ 0x0 ∷ 0x9f8fe465 ∷ 0x293f7c34629c9c7d ∷ 0xffffffff ∷ 0xeb4afb745be7659b ∷ []) 0x45922d0a 4 0x10001a354 0x20001ed00
    ∷ b 0x9a821442 (0xffffffffffffffff ∷ 0x28 ∷ 0xffffffffffffffff ∷ 0x7f1fb7128f7a94b8 ∷ 0x8000000000000000 ∷ 0x3c760edf3756 ∷ 0x7fffffff ∷ 0x3d ∷ 0x1ee8abe1 ∷ []) 0x4b638e9a7a3a0a05 12 0x10001a404 0x20001ee00
    ∷ b 0x9a8724a6 (0xf9bc ∷ 0xc87fe95d5b06782 ∷ 0x8000000000000000 ∷ 0x0 ∷ 0x32be362b2e506eaf ∷ 0x1 ∷ 0x2b5e60ee16bebe9e ∷ 0xc12713666c707441 ∷ 0x8000000000000000 ∷ []) 0x3e8fec68 4 0x10001a4b4 0x20001ef00
    ∷ b 0x9a863482 (0x1 ∷ 0xeda9dc056dc899f2 ∷ 0x0 ∷ 0xfffffffffffffffe ∷ 0xd199166a2815ea1b ∷ 0x48efc6950ef278c1 ∷ 0xc3acb7955d92456 ∷ 0xfffffffffffffffe ∷ 0x82b9401030f6692b ∷ []) 0x7fffffff 6 0x10001a564 0x20001f000
    ∷ b 0x9a874486 (0x7fffffffffffffff ∷ 0x7fffffff ∷ 0x32c950c719d9547a ∷ 0x8000000000000000 ∷ 0x5d448752fe6d2ee5 ∷ 0x80000000 ∷ 0x38fbbb765486855b ∷ 0x100000000 ∷ 0x11b0efa86e42f5e1 ∷ []) 0x1 1 0x10001a614 0x20001f100
    ∷ b 0x9a84547f (0x61 ∷ 0x40c41cf17d0a97ad ∷ 0xfffffffe ∷ 0xcf0bb87d ∷ 0xffffffffffffffff ∷ 0x207db572 ∷ 0x7fffffffffffffff ∷ 0xfffffffe ∷ 0x2f519a74b28d3847 ∷ []) 0xb8313fd6f9eebce1 1 0x10001a6c4 0x20001f200
    ∷ b 0x9a856421 (0x7fffffff ∷ 0x44ac3173b916eebd ∷ 0xfffffffffffffffe ∷ 0xb653cea3 ∷ 0xfa68 ∷ 0x2 ∷ 0x1 ∷ 0xdd5e63366e4019a5 ∷ 0x2 ∷ []) 0xb7830cda42bbdc2f 3 0x10001a774 0x20001f300
    ∷ b 0x9a8174c1 (0x272b4c9900ed686f ∷ 0xffffffff ∷ 0x80000000 ∷ 0x6c61be9e ∷ 0x6ebbefe48f1d6586 ∷ 0xf82747d7 ∷ 0x6b701634f2a59cb9 ∷ 0x4fa81a1d3250572b ∷ 0xba39bbba7ba3ad8e ∷ []) 0xffffffff 11 0x10001a824 0x20001f400
    ∷ b 0x9a8387ff (0x80bd4964a8d6b996 ∷ 0x0 ∷ 0xfffffffe ∷ 0x8825dfbe0b29e655 ∷ 0x1 ∷ 0xc7f17224a7c9 ∷ 0x7fffffffffffffff ∷ 0x8000000000000000 ∷ 0x4a57722d8b464dce ∷ []) 0xfffffffffffffffe 1 0x10001a8d4 0x20001f500
    ∷ b 0x9a8594e4 (0xbab1efaf3681c45d ∷ 0xffffffff ∷ 0x5c05acb8747bc082 ∷ 0xffffffff ∷ 0xd376ee9735168bf5 ∷ 0x100000000 ∷ 0x417cbc0cad198af3 ∷ 0x44a55dbb1893747 ∷ 0x0 ∷ []) 0x100000000 1 0x10001a984 0x20001f600
    ∷ b 0x9a84a7e6 (0x5724 ∷ 0x1 ∷ 0xbcb3296abcae5c53 ∷ 0x1 ∷ 0x80000000 ∷ 0xb6 ∷ 0xffffffff ∷ 0x383961c8f5351071 ∷ 0x2 ∷ []) 0xfffffffe 5 0x10001aa34 0x20001f700
    ∷ b 0x9a84b4a2 (0xfffffffe ∷ 0x4b29cdb ∷ 0x6d ∷ 0x2 ∷ 0x412ea592 ∷ 0x80000000 ∷ 0x100000000 ∷ 0x7e4f80e4 ∷ 0x100000000 ∷ []) 0x0 11 0x10001aae4 0x20001f800
    ∷ b 0x9a85c4a1 (0x0 ∷ 0x34f4706b303c5759 ∷ 0xfffffffe ∷ 0x4b360ff13b52b5e8 ∷ 0xfffffffffffffffe ∷ 0x3bbc ∷ 0xffffffffffffffff ∷ 0x9 ∷ 0xa4f73cd7841a60df ∷ []) 0x82 14 0x10001ab94 0x20001f900
    ∷ b 0x9a83d461 (0x100000000 ∷ 0xe6 ∷ 0xffffffff ∷ 0xa764 ∷ 0x5561 ∷ 0xa238cbdc6090a458 ∷ 0x8000000000000000 ∷ 0x3c14d0d5 ∷ 0x77c1e1a4 ∷ []) 0xa9 12 0x10001ac44 0x20001fa00
    ∷ b 0x9a82e467 (0x463059ea7831db91 ∷ 0xccb5 ∷ 0x611ed63e ∷ 0xf057a774 ∷ 0x4f ∷ 0x7fffffff ∷ 0x17efeb7f1146303b ∷ 0x5e72 ∷ 0x100000000 ∷ []) 0xeb4b3d1d4a0edfc5 11 0x10001acf4 0x20001fb00
    ∷ b 0x9a82f4bf (0x8000000000000000 ∷ 0xffffffff ∷ 0x8000000000000000 ∷ 0x100000000 ∷ 0xffffffff ∷ 0x9037e1e28f2bc1f8 ∷ 0x1 ∷ 0x5e8ff674b772b882 ∷ 0x5408296b ∷ []) 0x233653db4795 10 0x10001ada4 0x20001fc00 ∷ []) ≡
    ((0x0 ∷ 0x8000000000000000 ∷ 0x38b796542635b5 ∷ 0x71e58f1d3d20ed07 ∷ 0x0 ∷ 0x90edd5a1ad7b6e8 ∷ 0x36666d90 ∷ 0x10731be85dfbf1d1 ∷ 0x7541ada6f734741b ∷ 0x8000000000000000 ∷ 0x100018258 ∷ 0x1 ∷ 0x17f2cda8835e3914efcaa5805b3611ecc7a27d58330ee9c49f7a55300be6c19c77522d08e3be99744f2a05e0bb96714c2702ddb8936e4924 ∷ [])
    ∷ (0x1b09679de ∷ 0xa5 ∷ 0x80000000 ∷ 0xb6 ∷ 0xfffffffffffffffe ∷ 0x2 ∷ 0xafd74c379d40c482 ∷ 0xfffffffffffffffe ∷ 0x100000000 ∷ 0x80000000 ∷ 0x100018308 ∷ 0x0 ∷ 0x22fdd8b38e69441ffad5b08b66411cf7d2ad88633e19f4cfaa85603b16f1cca7825d3813eec9a47f5a3510ebc6a17c57320de8c39e79542f ∷ [])
    ∷ (0xa4aee33aa7ecfe30 ∷ 0x4dcc67f8 ∷ 0x1 ∷ 0x13f3fec64dcc67f8 ∷ 0x1 ∷ 0x5c8b537612cd8d4e ∷ 0x8000000000000000 ∷ 0x7fffffffffffffff ∷ 0xb002894682a159ad ∷ 0x16c5266f73352920 ∷ 0x1000183b8 ∷ 0x3 ∷ 0x2d08e3be99744f2a05e0bb96714c2702ddb8936e4924ffdab5906b4621fcd7b28d68431ef9d4af8a65401bf6d1ac87623d18f3cea9845f3a ∷ [])
    ∷ (0xfffffffffffffffe ∷ 0xfffffffffffffffe ∷ 0x3af5fe43eeabd1de ∷ 0x7fffffff ∷ 0x7fffffff ∷ 0x7fffffff ∷ 0x471455e63f24 ∷ 0x30a0719dd87cb335 ∷ 0x1 ∷ 0xfffffffe ∷ 0x100018468 ∷ 0x9 ∷ 0x3813eec9a47f5a3510ebc6a17c57320de8c39e79542f0ae5c09b76512c07e2bd98734e2904dfba95704b2601dcb7926d4823fed9b48f6a45 ∷ [])
    ∷ (0x1 ∷ 0x62 ∷ 0x1 ∷ 0xfe2cc0b39277dbc ∷ 0x1 ∷ 0x2 ∷ 0x2e8b8935 ∷ 0x236b8d4c2d23dac8 ∷ 0xfffffffffffffffe ∷ 0xffffffff ∷ 0x100018518 ∷ 0x5 ∷ 0x431ef9d4af8a65401bf6d1ac87623d18f3cea9845f3a15f0cba6815c3712edc8a37e59340feac5a07b56310ce7c29d78532e09e4bf9a7550 ∷ [])
    ∷ (0x4908 ∷ 0x1cab6ce207b3f86e ∷ 0x3811ad44e2f9ac03 ∷ 0x1ed4fed05d878b11 ∷ 0x434eccd778c73d54 ∷ 0x19 ∷ 0x5e8d8e4dd61ff27c ∷ 0x0 ∷ 0x7fffffffffffffff ∷ 0x7fffffffffffffff ∷ 0x1000185c8 ∷ 0xf ∷ 0x4e2904dfba95704b2601dcb7926d4823fed9b48f6a4520fbd6b18c67421df8d3ae89643f1af5d0ab86613c17f2cda8835e3914efcaa5805b ∷ [])
    ∷ (0x2 ∷ 0x7be53fe6 ∷ 0x7fffffff ∷ 0xffffffff ∷ 0x7fffffff ∷ 0xeaa8d63 ∷ 0xbe8553857be53fe6 ∷ 0xffffffffffffffff ∷ 0xe160962604ff378 ∷ 0x100000000 ∷ 0x100018678 ∷ 0x1 ∷ 0x59340feac5a07b56310ce7c29d78532e09e4bf9a75502b06e1bc97724d2803deb9946f4a2500dbb6916c4722fdd8b38e69441ffad5b08b66 ∷ [])
    ∷ (0x365ed46050f73707 ∷ 0x7fffffffffffffff ∷ 0x7fffffffffffffff ∷ 0x0 ∷ 0x1912515c9ac2 ∷ 0xfffffffe ∷ 0x1e ∷ 0x7b48db017997f8de ∷ 0x8000000000000000 ∷ 0xfffffffe ∷ 0x100018728 ∷ 0x0 ∷ 0x643f1af5d0ab86613c17f2cda8835e3914efcaa5805b3611ecc7a27d58330ee9c49f7a55300be6c19c77522d08e3be99744f2a05e0bb9671 ∷ [])
    ∷ (0x7fbe296cc5c6bb69 ∷ 0xa6b0dd3d23a9140a ∷ 0x100000000 ∷ 0x5ec48b18 ∷ 0xffffffff ∷ 0x2e85b59aa69c04d2 ∷ 0x9913b95b0401df01 ∷ 0x0 ∷ 0x7fffffff ∷ 0x3831a8fb ∷ 0x1000187d8 ∷ 0x4 ∷ 0x6f4a2500dbb6916c4722fdd8b38e69441ffad5b08b66411cf7d2ad88633e19f4cfaa85603b16f1cca7825d3813eec9a47f5a3510ebc6a17c ∷ [])
    ∷ (0x10f4913bf07f3fc4 ∷ 0xfffffffe ∷ 0xffffffff ∷ 0x0 ∷ 0x8000000000000000 ∷ 0xac2e7dfa7deb ∷ 0xe7f0226c ∷ 0x7fffffffffffffff ∷ 0x7fffffffffffffff ∷ 0xffffffff ∷ 0x100018888 ∷ 0x1 ∷ 0x7a55300be6c19c77522d08e3be99744f2a05e0bb96714c2702ddb8936e4924ffdab5906b4621fcd7b28d68431ef9d4af8a65401bf6d1ac87 ∷ [])
    ∷ (0xfffffffffffffffe ∷ 0xffffffff ∷ 0xd3f9 ∷ 0x9b87 ∷ 0x7443d173 ∷ 0x62f4de5eb6342b23 ∷ 0xb6342b23 ∷ 0xf5d2f5af461db961 ∷ 0x2 ∷ 0x94d7 ∷ 0x100018938 ∷ 0xa ∷ 0x85603b16f1cca7825d3813eec9a47f5a3510ebc6a17c57320de8c39e79542f0ae5c09b76512c07e2bd98734e2904dfba95704b2601dcb792 ∷ [])
    ∷ (0xffffffff ∷ 0xca3e7ea373d1b53a ∷ 0xffffffffffffffff ∷ 0x26986a17dc376be1 ∷ 0x7bdf7171 ∷ 0x1847a1f9 ∷ 0x1 ∷ 0x90747a2 ∷ 0x2 ∷ 0x12c68f25 ∷ 0x1000189e8 ∷ 0xc ∷ 0x906b4621fcd7b28d68431ef9d4af8a65401bf6d1ac87623d18f3cea9845f3a15f0cba6815c3712edc8a37e59340feac5a07b56310ce7c29d ∷ [])
    ∷ (0x7fffffffffffffff ∷ 0xae0867ca9617402a ∷ 0x1f65e382a ∷ 0x1 ∷ 0x9617402a ∷ 0xfffffffffffffffe ∷ 0x697b3c8ef712 ∷ 0x8000000000000000 ∷ 0x1 ∷ 0x9fcee3ee0e9cd6d9 ∷ 0x100018a98 ∷ 0xf ∷ 0x9b76512c07e2bd98734e2904dfba95704b2601dcb7926d4823fed9b48f6a4520fbd6b18c67421df8d3ae89643f1af5d0ab86613c17f2cda8 ∷ [])
    ∷ (0xffffffff ∷ 0xf4bad5b8b589130d ∷ 0x772b51322e24a2ea ∷ 0x68bbf935 ∷ 0xf5 ∷ 0x68bbf935 ∷ 0x5eed3b84e300 ∷ 0x614d74c65c13e123 ∷ 0x5d6a8dd8c4524d89 ∷ 0x7fffffff ∷ 0x100018b48 ∷ 0x6 ∷ 0xa6815c3712edc8a37e59340feac5a07b56310ce7c29d78532e09e4bf9a75502b06e1bc97724d2803deb9946f4a2500dbb6916c4722fdd8b3 ∷ [])
    ∷ (0x67f8c107e272a5ed ∷ 0x13ea4bfea5785d77 ∷ 0x7fffffffffffffff ∷ 0x8afd1e20 ∷ 0xa5785d77 ∷ 0x7fffffffffffffff ∷ 0xad0be67dad2bcd56 ∷ 0x5ea516cd ∷ 0xfffffffe ∷ 0x522fe5438cdc00e7 ∷ 0x100018bf8 ∷ 0x6 ∷ 0xb18c67421df8d3ae89643f1af5d0ab86613c17f2cda8835e3914efcaa5805b3611ecc7a27d58330ee9c49f7a55300be6c19c77522d08e3be ∷ [])
    ∷ (0x53095efa ∷ 0x1 ∷ 0xaa7716fed982e22a ∷ 0xbae7c7a ∷ 0x88ec029f ∷ 0x770623545be83c2 ∷ 0x0 ∷ 0xb2 ∷ 0x2 ∷ 0x80000000 ∷ 0x100018ca8 ∷ 0x7 ∷ 0xbc97724d2803deb9946f4a2500dbb6916c4722fdd8b38e69441ffad5b08b66411cf7d2ad88633e19f4cfaa85603b16f1cca7825d3813eec9 ∷ [])
    ∷ (0x7849 ∷ 0x7849 ∷ 0x8000000000000000 ∷ 0x80000000 ∷ 0x7fffffffffffffff ∷ 0x70998e4 ∷ 0x14cb7a4e ∷ 0x1 ∷ 0xf93b3d89b2562857 ∷ 0xfffffffffffffffe ∷ 0x100018d58 ∷ 0xa ∷ 0xc7a27d58330ee9c49f7a55300be6c19c77522d08e3be99744f2a05e0bb96714c2702ddb8936e4924ffdab5906b4621fcd7b28d68431ef9d4 ∷ [])
    ∷ (0xffffffffffffffff ∷ 0xce1ee419 ∷ 0x361ee9d8b1505cb8 ∷ 0xfffffffffffffffe ∷ 0x80000000 ∷ 0x0 ∷ 0x2 ∷ 0xfffffffffffffffe ∷ 0x7fffffffffffffff ∷ 0x9f58 ∷ 0x100018e08 ∷ 0x2 ∷ 0xd2ad88633e19f4cfaa85603b16f1cca7825d3813eec9a47f5a3510ebc6a17c57320de8c39e79542f0ae5c09b76512c07e2bd98734e2904df ∷ [])
    ∷ (0xffffffffffffffff ∷ 0xfffffffe ∷ 0x80000000 ∷ 0x887ca84b8597b645 ∷ 0x0 ∷ 0xfffffffffffffffe ∷ 0x8000000000000000 ∷ 0x8000000000000000 ∷ 0x9d5e47f974491ae2 ∷ 0x2 ∷ 0x100018eb8 ∷ 0x6 ∷ 0xddb8936e4924ffdab5906b4621fcd7b28d68431ef9d4af8a65401bf6d1ac87623d18f3cea9845f3a15f0cba6815c3712edc8a37e59340fea ∷ [])
    ∷ (0x7fffffff ∷ 0xffffffff ∷ 0xf56dae6329e4 ∷ 0x4f471eeece191e0c ∷ 0x8000000000000000 ∷ 0xc64e0a8d0e3f819a ∷ 0x4b20506516d1af3c ∷ 0x8000000000000000 ∷ 0x2 ∷ 0x7635 ∷ 0x100018f68 ∷ 0x0 ∷ 0xe8c39e79542f0ae5c09b76512c07e2bd98734e2904dfba95704b2601dcb7926d4823fed9b48f6a4520fbd6b18c67421df8d3ae89643f1af5 ∷ [])
    ∷ (0xdeb285738ae6 ∷ 0xfffffffffffffffe ∷ 0x80000000 ∷ 0x1 ∷ 0x100000000 ∷ 0x1 ∷ 0xfffffffe ∷ 0x51783656731ab8ab ∷ 0xc5336b1c0b58 ∷ 0x726469f388f4810e ∷ 0x100019018 ∷ 0xa ∷ 0xf3cea9845f3a15f0cba6815c3712edc8a37e59340feac5a07b56310ce7c29d78532e09e4bf9a75502b06e1bc97724d2803deb9946f4a2500 ∷ [])
    ∷ (0x8000000000000000 ∷ 0x8000000000000000 ∷ 0x7fffffffffffffff ∷ 0x4ccb42d308fdeee7 ∷ 0xc02ca748da3855cc ∷ 0x6ff666b5573e9ee6 ∷ 0x64d41a3e25137cda ∷ 0xf6a96fefb743765c ∷ 0x49bc55a80829c80e ∷ 0x87af229210c1 ∷ 0x1000190c8 ∷ 0x3 ∷ 0xfed9b48f6a4520fbd6b18c67421df8d3ae89643f1af5d0ab86613c17f2cda8835e3914efcaa5805b3611ecc7a27d58330ee9c49f7a55300b ∷ [])
    ∷ (0xd5458319 ∷ 0x100000000 ∷ 0x100000000 ∷ 0x1f8e95325cc82e12 ∷ 0xf8c494d3 ∷ 0x42731b871778baf4 ∷ 0x62ffe77d3699 ∷ 0x2 ∷ 0xc23e35dc49e8a804 ∷ 0xfffffffffffffffe ∷ 0x100019178 ∷ 0x6 ∷ 0x9e4bf9a75502b06e1bc97724d2803deb9946f4a2500dbb6916c4722fdd8b38e69441ffad5b08b66411cf7d2ad88633e19f4cfaa85603b16 ∷ [])
    ∷ (0x8000000000000000 ∷ 0x7fffffff ∷ 0xfffffffffffffffe ∷ 0xfffffffffffffffe ∷ 0xffffffffffffffff ∷ 0x2 ∷ 0x57731384d942170f ∷ 0x6b1d80f5a8deeb35 ∷ 0x0 ∷ 0x5803b278 ∷ 0x100019228 ∷ 0x8 ∷ 0x14efcaa5805b3611ecc7a27d58330ee9c49f7a55300be6c19c77522d08e3be99744f2a05e0bb96714c2702ddb8936e4924ffdab5906b4621 ∷ [])
    ∷ (0xfffffffe ∷ 0x798cc6e1 ∷ 0xffffffff ∷ 0x60d488cc64f82b13 ∷ 0x7fffffff ∷ 0xfffffffe ∷ 0xfffffffe ∷ 0x1c16e22e4 ∷ 0xfffffffe ∷ 0xc13d2be26f9f ∷ 0x1000192d8 ∷ 0x4 ∷ 0x1ffad5b08b66411cf7d2ad88633e19f4cfaa85603b16f1cca7825d3813eec9a47f5a3510ebc6a17c57320de8c39e79542f0ae5c09b76512c ∷ [])
    ∷ (0x6fdec9b36173a49f ∷ 0x3d63 ∷ 0xabbe585b561ee46b ∷ 0x72ac661a ∷ 0x707de2d451d87b87 ∷ 0x7a326cd1f03132ea ∷ 0x8ae7a701ad4b8026 ∷ 0xcb28dcd70c49c999 ∷ 0xfaabac82 ∷ 0xc86cb2a1 ∷ 0x100019388 ∷ 0xe ∷ 0x2a05e0bb96714c2702ddb8936e4924ffdab5906b4621fcd7b28d68431ef9d4af8a65401bf6d1ac87623d18f3cea9845f3a15f0cba6815c37 ∷ [])
    ∷ (0x1 ∷ 0x0 ∷ 0x3a ∷ 0x7fffffffffffffff ∷ 0xfffffffffffffffe ∷ 0x7fffffffffffffff ∷ 0xcd6a098f4fa6f43e ∷ 0x100000000 ∷ 0xfffffffe ∷ 0x7870f85f ∷ 0x100019438 ∷ 0xb ∷ 0x3510ebc6a17c57320de8c39e79542f0ae5c09b76512c07e2bd98734e2904dfba95704b2601dcb7926d4823fed9b48f6a4520fbd6b18c6742 ∷ [])
    ∷ (0xd4475930ff6e109d ∷ 0x7b ∷ 0x0 ∷ 0x353b3a22a939 ∷ 0x7b ∷ 0xfffffffe ∷ 0xa7a06a4d1ff6a96f ∷ 0x76 ∷ 0x60ce7bd6eaf4f8b ∷ 0xffac87566de7b706 ∷ 0x1000194e8 ∷ 0x2 ∷ 0x401bf6d1ac87623d18f3cea9845f3a15f0cba6815c3712edc8a37e59340feac5a07b56310ce7c29d78532e09e4bf9a75502b06e1bc97724d ∷ [])
    ∷ (0x2da582ccbeb84eaa ∷ 0xfffffffffffffffe ∷ 0x0 ∷ 0xfffffffffffffffe ∷ 0x100000000 ∷ 0xee054dcb13b62571 ∷ 0xffffffff ∷ 0xffffffff ∷ 0x2fd32149f8f536d9 ∷ 0x8000000000000000 ∷ 0x100019598 ∷ 0x0 ∷ 0x4b2601dcb7926d4823fed9b48f6a4520fbd6b18c67421df8d3ae89643f1af5d0ab86613c17f2cda8835e3914efcaa5805b3611ecc7a27d58 ∷ [])
    ∷ (0x2eef ∷ 0xfffffffe ∷ 0xb666e6840b01 ∷ 0x6d6608d ∷ 0x8141 ∷ 0x8000000000000000 ∷ 0xb666e6840b01 ∷ 0x176600d5f ∷ 0x7fffffff ∷ 0xfffffffe ∷ 0x100019648 ∷ 0xe ∷ 0x56310ce7c29d78532e09e4bf9a75502b06e1bc97724d2803deb9946f4a2500dbb6916c4722fdd8b38e69441ffad5b08b66411cf7d2ad8863 ∷ [])
    ∷ (0x80000000 ∷ 0x100000000 ∷ 0xfffffffe ∷ 0x1 ∷ 0x739d35ff5717b70f ∷ 0xc864af94bf94536c ∷ 0x80000000 ∷ 0x2 ∷ 0x2 ∷ 0xf9dc ∷ 0x1000196f8 ∷ 0x3 ∷ 0x613c17f2cda8835e3914efcaa5805b3611ecc7a27d58330ee9c49f7a55300be6c19c77522d08e3be99744f2a05e0bb96714c2702ddb8936e ∷ [])
    ∷ (0xecd3198e ∷ 0xf1b251b47d07d09f ∷ 0x1 ∷ 0x56bca3538f2fd1a1 ∷ 0xffffffff ∷ 0xfffffffe ∷ 0x8000000000000000 ∷ 0x56bca3538f2fd1a1 ∷ 0x7fffffff ∷ 0x100000000 ∷ 0x1000197a8 ∷ 0xb ∷ 0x6c4722fdd8b38e69441ffad5b08b66411cf7d2ad88633e19f4cfaa85603b16f1cca7825d3813eec9a47f5a3510ebc6a17c57320de8c39e79 ∷ [])
    ∷ (0x7fffffff ∷ 0x2 ∷ 0xffffffff ∷ 0x80000000 ∷ 0x7fffffffffffffff ∷ 0x4bc855eff915986c ∷ 0xffffffff ∷ 0x7fffffff ∷ 0x8000000000000000 ∷ 0x2 ∷ 0x100019858 ∷ 0x7 ∷ 0x77522d08e3be99744f2a05e0bb96714c2702ddb8936e4924ffdab5906b4621fcd7b28d68431ef9d4af8a65401bf6d1ac87623d18f3cea984 ∷ [])
    ∷ (0x19b66cd3 ∷ 0xaa90d05 ∷ 0xfffffffffffffffe ∷ 0xa53f4ec06454988b ∷ 0xffffffffffffffff ∷ 0xd978c2840aa90d05 ∷ 0x5abeb264 ∷ 0xeb941c03b65670d8 ∷ 0x6ebc97f6f3bad9c3 ∷ 0x8de15f95280e607f ∷ 0x100019908 ∷ 0x0 ∷ 0x825d3813eec9a47f5a3510ebc6a17c57320de8c39e79542f0ae5c09b76512c07e2bd98734e2904dfba95704b2601dcb7926d4823fed9b48f ∷ [])
    ∷ (0x192491738 ∷ 0x2 ∷ 0xce7a49fb ∷ 0x1 ∷ 0x0 ∷ 0x7ac86cb6ce7a49fb ∷ 0x80000000 ∷ 0x0 ∷ 0x8000000000000000 ∷ 0x51d04d54 ∷ 0x1000199b8 ∷ 0xf ∷ 0x8d68431ef9d4af8a65401bf6d1ac87623d18f3cea9845f3a15f0cba6815c3712edc8a37e59340feac5a07b56310ce7c29d78532e09e4bf9a ∷ [])
    ∷ (0xffffffffffffffff ∷ 0xffffffff ∷ 0x100000000 ∷ 0xfffffffe ∷ 0xe42a2cf2469c1988 ∷ 0x7fffffffffffffff ∷ 0xfffffffffffffffe ∷ 0x1 ∷ 0x0 ∷ 0x259a997a23fd4a19 ∷ 0x100019a68 ∷ 0x9 ∷ 0x98734e2904dfba95704b2601dcb7926d4823fed9b48f6a4520fbd6b18c67421df8d3ae89643f1af5d0ab86613c17f2cda8835e3914efcaa5 ∷ [])
    ∷ (0x1 ∷ 0xe82e0724b85aeae1 ∷ 0x8d07 ∷ 0xf939f767 ∷ 0x6f1c ∷ 0xbf ∷ 0xfffffffffffffffe ∷ 0x1 ∷ 0xc0e7b4afb5794d65 ∷ 0x2 ∷ 0x100019b18 ∷ 0x9 ∷ 0xa37e59340feac5a07b56310ce7c29d78532e09e4bf9a75502b06e1bc97724d2803deb9946f4a2500dbb6916c4722fdd8b38e69441ffad5b0 ∷ [])
    ∷ (0xfffffffe ∷ 0xfffffffffffffffe ∷ 0x1cc20c942b209563 ∷ 0x1 ∷ 0xffffffffffffffff ∷ 0x7fffffff ∷ 0x100000000 ∷ 0x100000000 ∷ 0x7fffffff ∷ 0x0 ∷ 0x100019bc8 ∷ 0x5 ∷ 0xae89643f1af5d0ab86613c17f2cda8835e3914efcaa5805b3611ecc7a27d58330ee9c49f7a55300be6c19c77522d08e3be99744f2a05e0bb ∷ [])
    ∷ (0xa7bdbcb78207 ∷ 0x8000000000000000 ∷ 0xe7cb9bc3 ∷ 0x1ca796967 ∷ 0x7061d352739b298c ∷ 0xa221ee6e ∷ 0xf17fce5882e8282d ∷ 0x0 ∷ 0x843bf781 ∷ 0xfffffffffffffffe ∷ 0x100019c78 ∷ 0xc ∷ 0xb9946f4a2500dbb6916c4722fdd8b38e69441ffad5b08b66411cf7d2ad88633e19f4cfaa85603b16f1cca7825d3813eec9a47f5a3510ebc6 ∷ [])
    ∷ (0x41e6263ab3a3287c ∷ 0x2e54ab44cc4f2dcc ∷ 0xb3a3287c ∷ 0x100000000 ∷ 0x5571335068a6277b ∷ 0x1edcf0cd4 ∷ 0xe52126e550fc016f ∷ 0x80000000 ∷ 0xcace ∷ 0xd23cda4b9d56e087 ∷ 0x100019d28 ∷ 0x0 ∷ 0xc49f7a55300be6c19c77522d08e3be99744f2a05e0bb96714c2702ddb8936e4924ffdab5906b4621fcd7b28d68431ef9d4af8a65401bf6d1 ∷ [])
    ∷ (0xffffffffffffffff ∷ 0xffffffffffffffff ∷ 0xf3b9e79e ∷ 0x1 ∷ 0x0 ∷ 0x1 ∷ 0x4b496514e83f1745 ∷ 0xb47bdd9c6d6250c7 ∷ 0x96 ∷ 0x60 ∷ 0x100019dd8 ∷ 0x8 ∷ 0xcfaa85603b16f1cca7825d3813eec9a47f5a3510ebc6a17c57320de8c39e79542f0ae5c09b76512c07e2bd98734e2904dfba95704b2601dc ∷ [])
    ∷ (0xa69ee8641b0cb25 ∷ 0x6d3fff24 ∷ 0x7fffffffffffffff ∷ 0x1b74d0d3 ∷ 0x80000000 ∷ 0xffffffff ∷ 0x8000000000000000 ∷ 0x16d3fff23 ∷ 0xa5c0ec1bcef9177e ∷ 0xa4a0511b ∷ 0x100019e88 ∷ 0xa ∷ 0xdab5906b4621fcd7b28d68431ef9d4af8a65401bf6d1ac87623d18f3cea9845f3a15f0cba6815c3712edc8a37e59340feac5a07b56310ce7 ∷ [])
    ∷ (0x2 ∷ 0x6d9f9ff ∷ 0x8a7b859ddd6e4ae6 ∷ 0x2193619bf0050f3c ∷ 0x100000000 ∷ 0x684f9ee4 ∷ 0x1 ∷ 0x1 ∷ 0x37 ∷ 0x7fffffffffffffff ∷ 0x100019f38 ∷ 0x2 ∷ 0xe5c09b76512c07e2bd98734e2904dfba95704b2601dcb7926d4823fed9b48f6a4520fbd6b18c67421df8d3ae89643f1af5d0ab86613c17f2 ∷ [])
    ∷ (0xc200d08fc7a7 ∷ 0x2 ∷ 0x2b0d42e4 ∷ 0x7fffffff ∷ 0x0 ∷ 0x0 ∷ 0xffffffffffffffff ∷ 0x1 ∷ 0x9fe83d45886ff226 ∷ 0x36557efc ∷ 0x100019fe8 ∷ 0x3 ∷ 0xf0cba6815c3712edc8a37e59340feac5a07b56310ce7c29d78532e09e4bf9a75502b06e1bc97724d2803deb9946f4a2500dbb6916c4722fd ∷ [])
    ∷ (0x622f9854bea65cb2 ∷ 0x7fffffffffffffff ∷ 0x8000000000000000 ∷ 0x148b303a ∷ 0x8dda87751ea70428 ∷ 0x2 ∷ 0x3 ∷ 0x80000000 ∷ 0x8dd5382419523ff8 ∷ 0xffffffffffffffff ∷ 0x10001a098 ∷ 0xa ∷ 0xfbd6b18c67421df8d3ae89643f1af5d0ab86613c17f2cda8835e3914efcaa5805b3611ecc7a27d58330ee9c49f7a55300be6c19c77522d08 ∷ [])
    ∷ (0x1 ∷ 0x7fa8 ∷ 0xffffffff ∷ 0x8000000000000000 ∷ 0x0 ∷ 0x7fffffffffffffff ∷ 0x80000000 ∷ 0xffffffff ∷ 0xf02c655ef2bf2963 ∷ 0x7b0ffe965cc107af ∷ 0x10001a148 ∷ 0x6 ∷ 0x6e1bc97724d2803deb9946f4a2500dbb6916c4722fdd8b38e69441ffad5b08b66411cf7d2ad88633e19f4cfaa85603b16f1cca7825d3813 ∷ [])
    ∷ (0x7fffffff ∷ 0xfffffffffffffffe ∷ 0xffffffffffffffff ∷ 0x0 ∷ 0x1 ∷ 0x8000000000000000 ∷ 0xd63ae1ddc0d22256 ∷ 0x1 ∷ 0x19c815faed3a520d ∷ 0xb69394a37926 ∷ 0x10001a1f8 ∷ 0x0 ∷ 0x11ecc7a27d58330ee9c49f7a55300be6c19c77522d08e3be99744f2a05e0bb96714c2702ddb8936e4924ffdab5906b4621fcd7b28d68431e ∷ [])
    ∷ (0x80000000 ∷ 0xffffffffffffffff ∷ 0x6a6e0bec83e27857 ∷ 0xfffffffffffffffe ∷ 0x80000000 ∷ 0x7fffffff ∷ 0xd0310ca39622335 ∷ 0x1 ∷ 0xfffffffffffffffe ∷ 0xacc122ad52d02e9d ∷ 0x10001a2a8 ∷ 0xc ∷ 0x1cf7d2ad88633e19f4cfaa85603b16f1cca7825d3813eec9a47f5a3510ebc6a17c57320de8c39e79542f0ae5c09b76512c07e2bd98734e29 ∷ [])
    ∷ (0xfb30f3e9b29b358a ∷ 0xfffffffffffffffe ∷ 0x25de324b ∷ 0xfffffffe ∷ 0x0 ∷ 0x9f8fe465 ∷ 0xfb30f3e9b29b358a ∷ 0xffffffff ∷ 0xeb4afb745be7659b ∷ 0x45922d0a ∷ 0x10001a358 ∷ 0x4 ∷ 0x2702ddb8936e4924ffdab5906b4621fcd7b28d68431ef9d4af8a65401bf6d1ac87623d18f3cea9845f3a15f0cba6815c3712edc8a37e5934 ∷ [])
    ∷ (0xffffffffffffffff ∷ 0x28 ∷ 0x0 ∷ 0x7f1fb7128f7a94b8 ∷ 0x8000000000000000 ∷ 0x3c760edf3756 ∷ 0x7fffffff ∷ 0x3d ∷ 0x1ee8abe1 ∷ 0x4b638e9a7a3a0a05 ∷ 0x10001a408 ∷ 0xc ∷ 0x320de8c39e79542f0ae5c09b76512c07e2bd98734e2904dfba95704b2601dcb7926d4823fed9b48f6a4520fbd6b18c67421df8d3ae89643f ∷ [])
    ∷ (0xf9bc ∷ 0xc87fe95d5b06782 ∷ 0x8000000000000000 ∷ 0x0 ∷ 0x32be362b2e506eaf ∷ 0x1 ∷ 0xc12713666c707442 ∷ 0xc12713666c707441 ∷ 0x8000000000000000 ∷ 0x3e8fec68 ∷ 0x10001a4b8 ∷ 0x4 ∷ 0x3d18f3cea9845f3a15f0cba6815c3712edc8a37e59340feac5a07b56310ce7c29d78532e09e4bf9a75502b06e1bc97724d2803deb9946f4a ∷ [])
    ∷ (0x1 ∷ 0xeda9dc056dc899f2 ∷ 0xc3acb7955d92457 ∷ 0xfffffffffffffffe ∷ 0xd199166a2815ea1b ∷ 0x48efc6950ef278c1 ∷ 0xc3acb7955d92456 ∷ 0xfffffffffffffffe ∷ 0x82b9401030f6692b ∷ 0x7fffffff ∷ 0x10001a568 ∷ 0x6 ∷ 0x4823fed9b48f6a4520fbd6b18c67421df8d3ae89643f1af5d0ab86613c17f2cda8835e3914efcaa5805b3611ecc7a27d58330ee9c49f7a55 ∷ [])
    ∷ (0x7fffffffffffffff ∷ 0x7fffffff ∷ 0x32c950c719d9547a ∷ 0x8000000000000000 ∷ 0x5d448752fe6d2ee5 ∷ 0x80000000 ∷ 0x100000001 ∷ 0x100000000 ∷ 0x11b0efa86e42f5e1 ∷ 0x1 ∷ 0x10001a618 ∷ 0x1 ∷ 0x532e09e4bf9a75502b06e1bc97724d2803deb9946f4a2500dbb6916c4722fdd8b38e69441ffad5b08b66411cf7d2ad88633e19f4cfaa8560 ∷ [])
    ∷ (0x61 ∷ 0x40c41cf17d0a97ad ∷ 0xfffffffe ∷ 0xcf0bb87d ∷ 0xffffffffffffffff ∷ 0x207db572 ∷ 0x7fffffffffffffff ∷ 0xfffffffe ∷ 0x2f519a74b28d3847 ∷ 0xb8313fd6f9eebce1 ∷ 0x10001a6c8 ∷ 0x1 ∷ 0x5e3914efcaa5805b3611ecc7a27d58330ee9c49f7a55300be6c19c77522d08e3be99744f2a05e0bb96714c2702ddb8936e4924ffdab5906b ∷ [])
    ∷ (0x7fffffff ∷ 0x44ac3173b916eebd ∷ 0xfffffffffffffffe ∷ 0xb653cea3 ∷ 0xfa68 ∷ 0x2 ∷ 0x1 ∷ 0xdd5e63366e4019a5 ∷ 0x2 ∷ 0xb7830cda42bbdc2f ∷ 0x10001a778 ∷ 0x3 ∷ 0x69441ffad5b08b66411cf7d2ad88633e19f4cfaa85603b16f1cca7825d3813eec9a47f5a3510ebc6a17c57320de8c39e79542f0ae5c09b76 ∷ [])
    ∷ (0x272b4c9900ed686f ∷ 0x100000000 ∷ 0x80000000 ∷ 0x6c61be9e ∷ 0x6ebbefe48f1d6586 ∷ 0xf82747d7 ∷ 0x6b701634f2a59cb9 ∷ 0x4fa81a1d3250572b ∷ 0xba39bbba7ba3ad8e ∷ 0xffffffff ∷ 0x10001a828 ∷ 0xb ∷ 0x744f2a05e0bb96714c2702ddb8936e4924ffdab5906b4621fcd7b28d68431ef9d4af8a65401bf6d1ac87623d18f3cea9845f3a15f0cba681 ∷ [])
    ∷ (0x80bd4964a8d6b996 ∷ 0x0 ∷ 0xfffffffe ∷ 0x8825dfbe0b29e655 ∷ 0x1 ∷ 0xc7f17224a7c9 ∷ 0x7fffffffffffffff ∷ 0x8000000000000000 ∷ 0x4a57722d8b464dce ∷ 0xfffffffffffffffe ∷ 0x10001a8d8 ∷ 0x1 ∷ 0x7f5a3510ebc6a17c57320de8c39e79542f0ae5c09b76512c07e2bd98734e2904dfba95704b2601dcb7926d4823fed9b48f6a4520fbd6b18c ∷ [])
    ∷ (0xbab1efaf3681c45d ∷ 0xffffffff ∷ 0x5c05acb8747bc082 ∷ 0xffffffff ∷ 0x44a55dbb1893747 ∷ 0x100000000 ∷ 0x417cbc0cad198af3 ∷ 0x44a55dbb1893747 ∷ 0x0 ∷ 0x100000000 ∷ 0x10001a988 ∷ 0x1 ∷ 0x8a65401bf6d1ac87623d18f3cea9845f3a15f0cba6815c3712edc8a37e59340feac5a07b56310ce7c29d78532e09e4bf9a75502b06e1bc97 ∷ [])
    ∷ (0x5724 ∷ 0x1 ∷ 0xbcb3296abcae5c53 ∷ 0x1 ∷ 0x80000000 ∷ 0xb6 ∷ 0x80000001 ∷ 0x383961c8f5351071 ∷ 0x2 ∷ 0xfffffffe ∷ 0x10001aa38 ∷ 0x5 ∷ 0x95704b2601dcb7926d4823fed9b48f6a4520fbd6b18c67421df8d3ae89643f1af5d0ab86613c17f2cda8835e3914efcaa5805b3611ecc7a2 ∷ [])
    ∷ (0xfffffffe ∷ 0x4b29cdb ∷ 0x412ea593 ∷ 0x2 ∷ 0x412ea592 ∷ 0x80000000 ∷ 0x100000000 ∷ 0x7e4f80e4 ∷ 0x100000000 ∷ 0x0 ∷ 0x10001aae8 ∷ 0xb ∷ 0xa07b56310ce7c29d78532e09e4bf9a75502b06e1bc97724d2803deb9946f4a2500dbb6916c4722fdd8b38e69441ffad5b08b66411cf7d2ad ∷ [])
    ∷ (0x0 ∷ 0x3bbd ∷ 0xfffffffe ∷ 0x4b360ff13b52b5e8 ∷ 0xfffffffffffffffe ∷ 0x3bbc ∷ 0xffffffffffffffff ∷ 0x9 ∷ 0xa4f73cd7841a60df ∷ 0x82 ∷ 0x10001ab98 ∷ 0xe ∷ 0xab86613c17f2cda8835e3914efcaa5805b3611ecc7a27d58330ee9c49f7a55300be6c19c77522d08e3be99744f2a05e0bb96714c2702ddb8 ∷ [])
    ∷ (0x100000000 ∷ 0xa764 ∷ 0xffffffff ∷ 0xa764 ∷ 0x5561 ∷ 0xa238cbdc6090a458 ∷ 0x8000000000000000 ∷ 0x3c14d0d5 ∷ 0x77c1e1a4 ∷ 0xa9 ∷ 0x10001ac48 ∷ 0xc ∷ 0xb6916c4722fdd8b38e69441ffad5b08b66411cf7d2ad88633e19f4cfaa85603b16f1cca7825d3813eec9a47f5a3510ebc6a17c57320de8c3 ∷ [])
    ∷ (0x463059ea7831db91 ∷ 0xccb5 ∷ 0x611ed63e ∷ 0xf057a774 ∷ 0x4f ∷ 0x7fffffff ∷ 0x17efeb7f1146303b ∷ 0xf057a774 ∷ 0x100000000 ∷ 0xeb4b3d1d4a0edfc5 ∷ 0x10001acf8 ∷ 0xb ∷ 0xc19c77522d08e3be99744f2a05e0bb96714c2702ddb8936e4924ffdab5906b4621fcd7b28d68431ef9d4af8a65401bf6d1ac87623d18f3ce ∷ [])
    ∷ (0x8000000000000000 ∷ 0xffffffff ∷ 0x8000000000000000 ∷ 0x100000000 ∷ 0xffffffff ∷ 0x9037e1e28f2bc1f8 ∷ 0x1 ∷ 0x5e8ff674b772b882 ∷ 0x5408296b ∷ 0x233653db4795 ∷ 0x10001ada8 ∷ 0xa ∷ 0xcca7825d3813eec9a47f5a3510ebc6a17c57320de8c39e79542f0ae5c09b76512c07e2bd98734e2904dfba95704b2601dcb7926d4823fed9 ∷ []) ∷ [])
unfolding step fetched Rattle.a64_meaning.specs.Access.plain_load Rattle.a64_meaning.specs.Access.in_cell Rattle.a64_meaning.specs.Access.is_cell Rattle.a64_meaning.specs.Access.found Rattle.a64_meaning.specs.Access.is_writable Rattle.a64_meaning.specs.Access.load Rattle.a64_meaning.specs.Access.store Rattle.a64_code.specs.Words.instruction Rattle.a64_meaning.specs.Effects.act Rattle.a64_meaning.specs.Numbers.holds Rattle.a64_meaning.specs.Numbers.shifted Rattle.a64_meaning.specs.Numbers.logical Rattle.a64_meaning.specs.Numbers.multiplied Rattle.a64_meaning.specs.Numbers.long_product Rattle.a64_meaning.specs.Numbers.high_product Rattle.a64_meaning.specs.Numbers.quotient Rattle.a64_meaning.specs.Numbers.bit_field Rattle.a64_meaning.specs.Numbers.moved_wide
conditional_select = refl
