-- The entry of a function (docs/MACHINE.md, "Calls").
use Rattle.std.specs.Prelude.{ℕ, zero, suc, ◌+◌, ◌-◌, ◌/◌, ◌%◌, ◌==◌, nat_lt, Bool, if◌then◌else◌, List, [], ◌∷◌, ◌++◌, length, Option, None, Some}
use Rattle.c65_mach.specs.declared.rows.Op.TheVariants.{Adc, Clc, Iny, Lda, Ldy, Sta, Stx, Tax, Tay, Txa, Tya}
use Rattle.c65_code.specs.declared.line.Line.{Line}
use Rattle.c65_code.specs.declared.routine.Routine.TheVariants.{PushA, LdAxYSp, LdAi, LdAxi, SaveRegs, StkChk}
use Rattle.c65_genframe.specs.declared.home.Arrival.{Arrival}
use Rattle.c65_genframe.specs.declared.home.Arrival.TheVariants.{Pushed, Kept}
use Rattle.c65_genframe.specs.declared.home.Moved.{Moved}
use Rattle.c65_genframe.specs.Frames.{Framed}
use Rattle.c65_genwide.specs.Lines.{value, call}
use Rattle.c65_genwide.specs.Passing.{pass_bytes}
use Rattle.c65_genentry.specs.Words.{sp, tmp1, tmp2, tmp3, tmp4, regbank, implied, zero_page, by_y}
use Rattle.c65_genentry.specs.Stack.{lower_code}

-- the last parameter goes from the registers onto the software stack
abbrev pub pushed_code : Arrival → List Line
pushed_code (Pushed bytes) = pass_bytes bytes
pushed_code _ = []

abbrev pub bank_store : ℕ → ℕ → List Line
bank_store bank bytes = if nat_lt bytes 2 then zero_page Sta ((regbank + bank) % 256) ∷ [] else zero_page Sta ((regbank + bank) % 256) ∷ zero_page Stx (((regbank + bank) % 256 + 1) % 256) ∷ []

-- or to regbank
abbrev pub kept_code : Arrival → List Line
kept_code (Kept bank bytes) = bank_store bank bytes
kept_code _ = []

-- the first bytes of regbank go to those at sp
abbrev pub bank_saves : ℕ → List Line
bank_saves zero = []
bank_saves (suc n) = bank_saves n ++ (value Ldy n ∷ zero_page Lda ((regbank + n) % 256) ∷ by_y Sta sp ∷ [])

abbrev pub few_saved : ℕ → List Line
few_saved bank = lower_code bank ++ (zero_page Sta tmp1 ∷ (bank_saves bank ++ zero_page Lda tmp1 ∷ []))

-- the bytes of regbank that are taken are saved
abbrev pub saved_code : ℕ → List Line
saved_code bank = if bank == 0 then [] else (if nat_lt bank 6 then few_saved bank else call SaveRegs ∷ [])

-- the number of bytes that a variadic call pushed goes from Y to A, and from there to the byte at sp
abbrev pub counted_code : Bool → List Line
counted_code variadic = if variadic then implied Tya ∷ [] else []

abbrev pub count_code : Bool → List Line
count_code variadic = if variadic then call PushA ∷ [] else []

abbrev pub near_load : ℕ → ℕ → List Line
near_load at bytes = if nat_lt bytes 2 then value Ldy at ∷ by_y Lda sp ∷ [] else value Ldy (at + 1) ∷ call LdAxYSp ∷ []

abbrev pub far_load : ℕ → ℕ → List Line
far_load at bytes = (implied Clc ∷ zero_page Lda sp ∷ value Adc (at % 256) ∷ implied Tay ∷ zero_page Lda (sp + 1) ∷ value Adc (at / 256) ∷ implied Tax ∷ implied Tya ∷ []) ++ (if nat_lt bytes 2 then call LdAi ∷ [] else call LdAxi ∷ [])

abbrev pub load_code : ℕ → ℕ → List Line
load_code at bytes = if nat_lt at 255 then near_load at bytes else far_load at bytes

-- a parameter goes from the software stack to regbank
abbrev pub moved_code : Moved → List Line
moved_code m = load_code m.from m.bytes ++ bank_store m.bank m.bytes

abbrev pub all_moved : List Moved → List Line
all_moved [] = []
all_moved (m ∷ ms) = moved_code m ++ all_moved ms

-- In a variadic function a parameter lies higher by the bytes of the call's further arguments. Y reaches it where regbank is
-- saved and nothing else is taken yet: at the number of bytes that the call pushed, which X holds, and so many more.
abbrev pub counted_at : ℕ → ℕ → ℕ → ℕ
counted_at soft stacked from = (from + 131072 - soft - stacked) % 256

abbrev pub counted_store : ℕ → ℕ → List Line
counted_store bank bytes = if nat_lt bytes 2 then zero_page Sta ((regbank + bank) % 256) ∷ [] else zero_page Sta ((regbank + bank) % 256) ∷ implied Iny ∷ by_y Lda sp ∷ zero_page Sta (((regbank + bank) % 256 + 1) % 256) ∷ []

abbrev pub counted_move : ℕ → ℕ → Moved → List Line
counted_move soft stacked m = (implied Txa ∷ implied Clc ∷ value Adc (counted_at soft stacked m.from) ∷ implied Tay ∷ by_y Lda sp ∷ []) ++ counted_store m.bank m.bytes

abbrev pub all_counted : ℕ → ℕ → List Moved → List Line
all_counted soft stacked [] = []
all_counted soft stacked (m ∷ ms) = counted_move soft stacked m ++ all_counted soft stacked ms

-- A holds that number before and behind
abbrev pub raised_moves : ℕ → ℕ → List Moved → List Line
raised_moves soft stacked ms = if length ms == 0 then [] else implied Tax ∷ (all_counted soft stacked ms ++ implied Txa ∷ [])

abbrev pub early_moves : Framed → List Line
early_moves f = if f.variadic then raised_moves f.soft f.stacked f.moved else []

abbrev pub late_moves : Framed → List Line
late_moves f = if f.variadic then [] else all_moved f.moved

abbrev pub taken_bytes : Bool → ℕ → ℕ
taken_bytes variadic soft = if variadic then soft - 1 else soft

-- Where the stacks are checked, the number of bytes for which the entry asks goes to tmp3 and tmp4; A, X and Y stay.
abbrev pub checked_code : Option ℕ → List Line
checked_code None = []
checked_code (Some c) = zero_page Sta tmp2 ∷ value Lda (c % 256) ∷ zero_page Sta tmp3 ∷ value Lda (c / 256 % 256) ∷ zero_page Sta tmp4 ∷ zero_page Lda tmp2 ∷ call StkChk ∷ []

-- the arriving parameter and the objects come to their homes
abbrev pub taking_code : Framed → List Line
taking_code f = pushed_code f.last ++ (counted_code f.variadic ++ (saved_code f.bank ++ (early_moves f ++ (kept_code f.last ++ (lower_code (taken_bytes f.variadic f.soft) ++ (count_code f.variadic ++ late_moves f))))))

abbrev pub entry_code : Framed → List Line
entry_code f = checked_code f.check ++ taking_code f
