-- One round more.
use Rattle.std.proofs.Common.{◌≡◌, ℕ, ◌+◌, ◌%◌, List, [], ◌∷◌, ◌++◌, ap, add-one}
use Rattle.c65_code.specs.declared.line.Line.{Line}
use Rattle.c65_mach.specs.declared.rows.Op.TheVariants.{Lda, Ldy, Sta}
use Rattle.c65_genwide.specs.Lines.{value}
use Rattle.c65_genentry.specs.Words.{sp, regbank, zero_page, by_y}
use Rattle.c65_genentry.specs.Stack.{repeated}
use Rattle.c65_genentry.specs.Entry.{bank_saves}
use Rattle.c65_genentry.specs.Ends.{bank_loads}

pub repeated_next : (n : ℕ) (lines : List Line) → repeated (n + 1) lines ≡ repeated n lines ++ lines
repeated_next n lines = ap (λ (k : ℕ). repeated k lines) (add-one n)

pub saves_next : (n : ℕ) → bank_saves (n + 1) ≡ bank_saves n ++ (value Ldy n ∷ zero_page Lda ((regbank + n) % 256) ∷ by_y Sta sp ∷ [])
saves_next n = ap bank_saves (add-one n)

pub loads_next : (n : ℕ) → bank_loads (n + 1) ≡ bank_loads n ++ (value Ldy n ∷ by_y Lda sp ∷ zero_page Sta ((regbank + n) % 256) ∷ [])
loads_next n = ap bank_loads (add-one n)
