-- Pointers in the zero page, and what is stored through them.
use Rattle.std.specs.Prelude.{ℕ, ◌+◌, ◌/◌, ◌%◌, nat_lt, if◌then◌else◌, List, [], ◌∷◌, ◌++◌}
use Rattle.c65_mach.specs.declared.rows.Op.TheVariants.{Adc, Clc, Iny, Lda, Ldy, Sta, Stx}
use Rattle.c65_code.specs.declared.line.Line.{Line}
use Rattle.c65_code.specs.declared.line.Sym.{Sym}
use Rattle.c65_genwide.specs.Lines.{value}
use Rattle.c65_genentry.specs.Words.{sp, sreg, ptr1, tmp1, tmp2, regbank, implied, zero_page, by_y, low_of, high_of}

-- the address so many bytes above sp
abbrev pub near_code : ℕ → ℕ → List Line
near_code pointer at = implied Clc ∷ zero_page Lda sp ∷ value Adc (at % 256) ∷ zero_page Sta pointer ∷ zero_page Lda (sp + 1) ∷ value Adc (at / 256) ∷ zero_page Sta (pointer + 1) ∷ []

-- the address so far behind a symbol
abbrev pub symbol_code : ℕ → Sym → ℕ → List Line
symbol_code pointer sym at = low_of Lda sym at ∷ zero_page Sta pointer ∷ high_of Lda sym at ∷ zero_page Sta (pointer + 1) ∷ []

abbrev pub second_byte : List Line
second_byte = implied Iny ∷ zero_page Lda tmp2 ∷ by_y Sta ptr1 ∷ []

abbrev pub upper_bytes : List Line
upper_bytes = implied Iny ∷ zero_page Lda sreg ∷ by_y Sta ptr1 ∷ implied Iny ∷ zero_page Lda (sreg + 1) ∷ by_y Sta ptr1 ∷ []

abbrev pub third_bytes : ℕ → List Line
third_bytes bytes = if nat_lt bytes 3 then [] else upper_bytes

abbrev pub further_bytes : ℕ → List Line
further_bytes bytes = if nat_lt bytes 2 then [] else second_byte ++ third_bytes bytes

-- so many bytes of the primary register go so many bytes above sp
abbrev pub far_store : ℕ → ℕ → List Line
far_store at bytes = (zero_page Sta tmp1 ∷ zero_page Stx tmp2 ∷ []) ++ (near_code ptr1 at ++ ((value Ldy 0 ∷ zero_page Lda tmp1 ∷ by_y Sta ptr1 ∷ []) ++ further_bytes bytes))

-- bytes of regbank become zero
abbrev pub clear_code : ℕ → ℕ → List Line
clear_code bank bytes = (value Lda 0 ∷ zero_page Sta ((regbank + bank) % 256) ∷ []) ++ (if nat_lt bytes 2 then [] else zero_page Sta (((regbank + bank) % 256 + 1) % 256) ∷ [])
