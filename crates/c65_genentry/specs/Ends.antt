-- The end of a function (docs/MACHINE.md, "Calls").
use Rattle.std.specs.Prelude.{ℕ, zero, suc, ◌+◌, ◌%◌, ◌==◌, nat_lt, if◌then◌else◌, List, [], ◌∷◌, ◌++◌}
use Rattle.c65_mach.specs.declared.rows.Op.TheVariants.{Lda, Ldy, Pha, Pla, Rts, Sta, Tay}
use Rattle.c65_code.specs.declared.line.Line.{Line}
use Rattle.c65_code.specs.declared.routine.Routine.TheVariants.{AddYSp, RestRegs}
use Rattle.c65_genframe.specs.Frames.{Framed}
use Rattle.c65_genwide.specs.Lines.{value, call}
use Rattle.c65_genentry.specs.Words.{sp, tmp1, regbank, implied, zero_page, by_y}
use Rattle.c65_genentry.specs.Stack.{raise_code}

-- the bytes at sp go to the first ones of regbank
abbrev pub bank_loads : ℕ → List Line
bank_loads zero = []
bank_loads (suc n) = bank_loads n ++ (value Ldy n ∷ by_y Lda sp ∷ zero_page Sta ((regbank + n) % 256) ∷ [])

abbrev pub few_loads : ℕ → List Line
few_loads bank = zero_page Sta tmp1 ∷ (bank_loads bank ++ zero_page Lda tmp1 ∷ [])

-- the bytes of regbank that were taken are as they were
abbrev pub few_restored : ℕ → List Line
few_restored bank = few_loads bank ++ raise_code bank

abbrev pub restored_code : ℕ → List Line
restored_code bank = if bank == 0 then [] else (if nat_lt bank 6 then few_restored bank else call RestRegs ∷ [])

abbrev pub plain_end : ℕ → ℕ → ℕ → List Line
plain_end soft bank stacked = raise_code soft ++ (restored_code bank ++ (raise_code stacked ++ implied Rts ∷ []))

-- the number of bytes that the call pushed waits on the hard stack while the rest is removed
abbrev pub variadic_end : ℕ → ℕ → List Line
variadic_end soft bank = (zero_page Sta tmp1 ∷ value Ldy 0 ∷ by_y Lda sp ∷ implied Pha ∷ zero_page Lda tmp1 ∷ []) ++ (raise_code soft ++ (restored_code bank ++ (zero_page Sta tmp1 ∷ implied Pla ∷ implied Tay ∷ zero_page Lda tmp1 ∷ call AddYSp ∷ implied Rts ∷ [])))

abbrev pub end_code : Framed → List Line
end_code f = if f.variadic then variadic_end f.soft f.bank else plain_end f.soft f.bank f.stacked
