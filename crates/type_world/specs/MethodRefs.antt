-- What a reference to a method asks for, in the words of the definitions.
use Rattle.std.specs.Prelude.{ℕ, Bool, Option}
use Rattle.type_world.specs.declared.identity.MethodId.{MethodId}
use Rattle.type_world.specs.declared.identity.TypeId.{TypeId}
use Rattle.type_world.specs.declared.members.MethodRef.{MethodRef}
use Rattle.type_world.specs.World.{World}
use Rattle.type_world.specs.Members.{is_built_in_method, is_method, method_in}

-- a row of an assembly's MethodDef has the name, and a signature that equals the one of the reference
abbrev pub is_wanted : World → MethodRef → (ℕ → ℕ → Bool)
is_wanted world wanted = is_method world wanted.asm wanted.name.now wanted.sig.now

-- a built-in method of a type has them
abbrev pub is_wanted_built_in : World → MethodRef → TypeId → (ℕ → Bool)
is_wanted_built_in world wanted of = is_built_in_method world wanted.asm of wanted.name.now wanted.sig.now

-- the first method of a type that has them
abbrev pub wanted_in : World → MethodRef → (TypeId → Option MethodId)
wanted_in world wanted = method_in world wanted.asm wanted.name.now wanted.sig.now
