-- The structure or union that a call gives, in the object that takes it (C90 6.3.2.2).
use Rattle.std.specs.Prelude.{ℕ, ◌+◌, List, [], ◌∷◌, ◌++◌}
use Rattle.c65_mach.specs.declared.rows.Op.TheVariants.{Iny, Lda, Ldx, Ldy, Sta, Stx}
use Rattle.c65_code.specs.declared.line.Line.{Line}
use Rattle.c65_genwide.specs.Lines.{value}
use Rattle.c65_genload.specs.declared.places.Extent.{Extent}
use Rattle.c65_genload.specs.declared.places.Extent.TheVariants.{One, Two, Three, Four}
use Rattle.c65_genload.specs.Words.{sreg, ptr1, tmp1, tmp2, implied, zero_page, by_y}

-- A and X wait while the address comes; sreg stays
abbrev pub kept_code : List Line
kept_code = zero_page Sta tmp1 ∷ zero_page Stx tmp2 ∷ []

-- the first byte goes to the address in AX
abbrev pub first_code : List Line
first_code = zero_page Sta ptr1 ∷ zero_page Stx (ptr1 + 1) ∷ value Ldy 0 ∷ zero_page Lda tmp1 ∷ by_y Sta ptr1 ∷ []

-- a byte of the zero page behind it
abbrev pub next_code : ℕ → List Line
next_code byte = implied Iny ∷ zero_page Lda byte ∷ by_y Sta ptr1 ∷ []

abbrev pub further_code : Extent → List Line
further_code One = []
further_code Two = next_code tmp2
further_code Three = next_code tmp2 ++ next_code sreg
further_code Four = next_code tmp2 ++ (next_code sreg ++ next_code (sreg + 1))

-- AX is the address again
abbrev pub again_code : List Line
again_code = zero_page Lda ptr1 ∷ zero_page Ldx (ptr1 + 1) ∷ []

-- the bytes of the primary register go to an address, which takes lines of its own
abbrev pub spill_code : List Line → Extent → List Line
spill_code address extent = kept_code ++ (address ++ (first_code ++ (further_code extent ++ again_code)))
