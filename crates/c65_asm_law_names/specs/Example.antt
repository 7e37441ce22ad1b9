-- A program with an object in the frame of its main function: the object has a symbol, as each has, which nothing names.
use Rattle.std.specs.Prelude.{◌≡◌, false, true, [], ◌∷◌, codes}
use Rattle.c65_mach.specs.declared.rows.Op.TheVariants.{Lda, Ldx, Rts}
use Rattle.c65_mach.specs.declared.rows.Mode.TheVariants.{Immediate, Implied}
use Rattle.c65_code.specs.declared.code.Code.{Code}
use Rattle.c65_code.specs.declared.line.Operand.TheVariants.{Nothing, Byte}
use Rattle.c65_code.specs.declared.line.Line.TheVariants.{Do}
use Rattle.c65_code.specs.Effects.{ax}
use Rattle.c65_code.specs.Placement.{is_function_of}
use Rattle.c65_asm_law_names.specs.Numbers.{IsClosed}

-- `int main(void) { int i; return 0; }`
abbrev pub with_a_local : Code
with_a_local = record {
  symbols = record { spelling = codes "s0"; literal = false } ∷ record { spelling = codes "_main"; literal = false } ∷ [];
  functions = (record { 0 = 1 }, record { lines = Do Lda Immediate (Byte 0) ∷ Do Ldx Immediate (Byte 0) ∷ Do Rts Implied Nothing ∷ []; out = ax }) ∷ [];
  datums = [];
  main_args = false;
}

-- it is closed, and the symbol of the object is no function's
abbrev pub LocalsNeedNoBody : Type 0
LocalsNeedNoBody = IsClosed with_a_local × (is_function_of with_a_local 0 ≡ false) × (is_function_of with_a_local 1 ≡ true)
