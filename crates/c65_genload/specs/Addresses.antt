-- Addresses (C90 6.3.3.2).
use Rattle.std.specs.Prelude.{ℕ, ◌+◌, ◌==◌, ◌/◌, ◌%◌, if◌then◌else◌, List, [], ◌∷◌, ◌++◌}
use Rattle.c65_ints.specs.declared.types.IntType.TheVariants.{UInt}
use Rattle.c65_mach.specs.declared.rows.Op.TheVariants.{Adc, Clc, Lda, Ldx, Tax, Tay, Tya}
use Rattle.c65_code.specs.declared.line.Sym.{Sym}
use Rattle.c65_code.specs.declared.line.Line.{Line}
use Rattle.c65_code.specs.declared.routine.Routine.TheVariants.{LdAi}
use Rattle.c65_genwide.specs.Lines.{value, call}
use Rattle.c65_genload.specs.Words.{sp, implied, zero_page, low_of, high_of}
use Rattle.c65_genload.specs.Numbers.{add_code}

abbrev pub symbol_code : Sym → ℕ → List Line
symbol_code sym at = high_of Ldx sym at ∷ low_of Lda sym at ∷ []

-- so many bytes above sp
abbrev pub address_code : ℕ → List Line
address_code at = implied Clc ∷ zero_page Lda sp ∷ value Adc (at % 256) ∷ implied Tay ∷ zero_page Lda (sp + 1) ∷ value Adc (at / 256) ∷ implied Tax ∷ implied Tya ∷ []

-- sp and the number in A
abbrev pub above_code : List Line
above_code = implied Clc ∷ zero_page Adc sp ∷ implied Tay ∷ value Lda 0 ∷ zero_page Adc (sp + 1) ∷ implied Tax ∷ implied Tya ∷ []

-- so many bytes above sp, and higher by the number in the byte that lies so many bytes above sp
abbrev pub raised_code : ℕ → ℕ → List Line
raised_code counter at = address_code counter ++ (call LdAi ∷ (above_code ++ add_code UInt at))

abbrev pub offset_code : ℕ → List Line
offset_code n = if n == 0 then [] else add_code UInt n
