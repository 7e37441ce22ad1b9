-- The routines that move sp alone.
use Rattle.std.proofs.Common.{◌≡◌, ℕ, ◌+◌, ◌-◌, ◌%◌, ◌<◌, ◌≤◌, Bool, List, [], ◌∷◌, None, refl, subst, arith}
use Rattle.std.specs.Prelude.{max}
use Rattle.c65_mach.specs.declared.rows.Op.TheVariants.{Ldy}
use Rattle.c65_code.specs.declared.routine.Routine.TheVariants as routines
use Rattle.c65_code.specs.declared.routine.Count.{Count}
use Rattle.c65_code.specs.declared.routine.Count.TheVariants.{One, Two, Three, Four, Five, Six, Seven, Eight}
use Rattle.c65_code.specs.declared.line.Line.{Line}
use Rattle.c65_code.specs.LineState.{Place, State, sp_of}
use Rattle.c65_code.specs.Placement.{Placement}
use Rattle.c65_code.specs.Rows.{Row, sp_row, number_of}
use Rattle.c65_code.specs.RawMachine.{RawSetting, Bounds, called, MayRun, Runs, MeetsRow, reach_of}
use Rattle.c65_rtl.specs.Assembly.{value}
use Rattle.c65_rtl.specs.Short.{IsShort}
use Rattle.c65_rtl.specs.Stack.{raise_one, raise_two, raise_by_y, raise_by_number, lower_one, lower_two, lower_by_y, lower_by_number}
use Rattle.c65_rtl.specs.Routines.{lines_of}
use Rattle.c65_rtl.proofs.Ways.{leads, Ends, runs}
use Rattle.c65_rtl.proofs.Plain.{ends_plain}
use Rattle.c65_rtl.proofs.SpPieces.{Moved, Follows, raise_one_at, raise_two_at, raise_by_y_at, raise_by_at, lower_one_at, lower_two_at, lower_by_y_at, lower_by_at}
use Rattle.c65_rtl.proofs.Pushes.{meets_by, sreg_kept}

-- Y is loaded first
pub with_y_at : (place : Placement) (bounds : Bounds) (P : State → Type 0) (k : ℕ) (rest : List Line) (u : State)
    → ((n z : Bool) → leads place bounds P rest None (record u { regs = record u.regs { y = k; n = n; z = z } }))
    → leads place bounds P (value Ldy k ∷ rest) None u
unfolding leads
with_y_at place bounds P k rest u follows = follows _ _

-- what these routines leave
raised_ends : (count : Count) (s : RawSetting) (back : Place) (t : State) → MayRun s (sp_row (routines.IncSp count) (sp_of t + number_of count) t) t
    → Follows (Ends (sp_row (routines.IncSp count) (sp_of t + number_of count) t) t) (sp_of t + number_of count) (called back t)
raised_ends count s back t may = λ y n v z c zp moved.
    ends_plain (sp_row (routines.IncSp count) (sp_of t + number_of count) t) back t t.regs.a t.regs.x y n v z c zp t.mem [] refl may.running (refl, refl, tt, tt) moved.rest
    moved.sp (refl, refl, sreg_kept _ _ _ moved) (λ b h. refl)

lowered_ends : (count : Count) (s : RawSetting) (back : Place) (t : State) → MayRun s (sp_row (routines.DecSp count) (sp_of t - number_of count) t) t
    → Follows (Ends (sp_row (routines.DecSp count) (sp_of t - number_of count) t) t) (sp_of t - number_of count) (called back t)
lowered_ends count s back t may = λ y n v z c zp moved.
    ends_plain (sp_row (routines.DecSp count) (sp_of t - number_of count) t) back t t.regs.a t.regs.x y n v z c zp t.mem [] refl may.running (refl, refl, tt, tt) moved.rest
    moved.sp (refl, refl, sreg_kept _ _ _ moved) (λ b h. refl)

raises_one : (s : RawSetting) → s.lines (s.routine (routines.IncSp One)) ≡ raise_one → (back : Place) (t : State) → MayRun s (sp_row (routines.IncSp One) (sp_of t + 1) t) t
    → Runs s (routines.IncSp One) (sp_row (routines.IncSp One) (sp_of t + 1) t) back t
raises_one s has back t may =
    let high = may.high in
    runs s (routines.IncSp One) (sp_row (routines.IncSp One) (sp_of t + 1) t) back t raise_one has (record { onward = refl; weight = refl; depth = refl }) refl may
    (raise_one_at s.place (reach_of t) (Ends (sp_row (routines.IncSp One) (sp_of t + 1) t) t) (called back t) (may.bytes.zp 0) (may.bytes.zp 1) (omega arith) (raised_ends One s back t may))

raises_two : (s : RawSetting) → s.lines (s.routine (routines.IncSp Two)) ≡ raise_two → (back : Place) (t : State) → MayRun s (sp_row (routines.IncSp Two) (sp_of t + 2) t) t
    → Runs s (routines.IncSp Two) (sp_row (routines.IncSp Two) (sp_of t + 2) t) back t
raises_two s has back t may =
    let high = may.high in
    runs s (routines.IncSp Two) (sp_row (routines.IncSp Two) (sp_of t + 2) t) back t raise_two has (record { onward = refl; weight = refl; depth = refl }) refl may
    (raise_two_at s.place (reach_of t) (Ends (sp_row (routines.IncSp Two) (sp_of t + 2) t) t) (called back t) (may.bytes.zp 0) (may.bytes.zp 1) (omega arith) (raised_ends Two s back t may))

raises_more : (s : RawSetting) (count : Count) → number_of count < 9 → s.lines (s.routine (routines.IncSp count)) ≡ raise_by_number (number_of count) → IsShort 32 (raise_by_number (number_of count))
    → (back : Place) (t : State) → MayRun s (sp_row (routines.IncSp count) (sp_of t + number_of count) t) t
    → Runs s (routines.IncSp count) (sp_row (routines.IncSp count) (sp_of t + number_of count) t) back t
raises_more s count few has short back t may =
    let high = may.high in
    runs s (routines.IncSp count) (sp_row (routines.IncSp count) (sp_of t + number_of count) t) back t (raise_by_number (number_of count)) has short refl may
    (raise_by_at s.place (reach_of t) (Ends (sp_row (routines.IncSp count) (sp_of t + number_of count) t) t) (number_of count) (called back t) (may.bytes.zp 0) (may.bytes.zp 1) (omega arith) (omega arith) (raised_ends count s back t may))

lowers_one : (s : RawSetting) → s.lines (s.routine (routines.DecSp One)) ≡ lower_one → (back : Place) (t : State) → MayRun s (sp_row (routines.DecSp One) (sp_of t - 1) t) t
    → Runs s (routines.DecSp One) (sp_row (routines.DecSp One) (sp_of t - 1) t) back t
lowers_one s has back t may =
    let soft = may.room.soft in
    runs s (routines.DecSp One) (sp_row (routines.DecSp One) (sp_of t - 1) t) back t lower_one has (record { onward = refl; weight = refl; depth = refl }) refl may
    (lower_one_at s.place (reach_of t) (Ends (sp_row (routines.DecSp One) (sp_of t - 1) t) t) (called back t) (may.bytes.zp 0) (may.bytes.zp 1) (omega arith) (lowered_ends One s back t may))

lowers_two : (s : RawSetting) → s.lines (s.routine (routines.DecSp Two)) ≡ lower_two → (back : Place) (t : State) → MayRun s (sp_row (routines.DecSp Two) (sp_of t - 2) t) t
    → Runs s (routines.DecSp Two) (sp_row (routines.DecSp Two) (sp_of t - 2) t) back t
lowers_two s has back t may =
    let soft = may.room.soft in
    runs s (routines.DecSp Two) (sp_row (routines.DecSp Two) (sp_of t - 2) t) back t lower_two has (record { onward = refl; weight = refl; depth = refl }) refl may
    (lower_two_at s.place (reach_of t) (Ends (sp_row (routines.DecSp Two) (sp_of t - 2) t) t) (called back t) (may.bytes.zp 0) (may.bytes.zp 1) (omega arith) (lowered_ends Two s back t may))

lowers_more : (s : RawSetting) (count : Count) → number_of count < 9 → 1 ≤ number_of count → s.lines (s.routine (routines.DecSp count)) ≡ lower_by_number (number_of count) → IsShort 32 (lower_by_number (number_of count))
    → (back : Place) (t : State) → MayRun s (sp_row (routines.DecSp count) (sp_of t - number_of count) t) t
    → Runs s (routines.DecSp count) (sp_row (routines.DecSp count) (sp_of t - number_of count) t) back t
lowers_more s count few some has short back t may =
    let soft = may.room.soft in
    runs s (routines.DecSp count) (sp_row (routines.DecSp count) (sp_of t - number_of count) t) back t (lower_by_number (number_of count)) has short refl may
    (lower_by_at s.place (reach_of t) (Ends (sp_row (routines.DecSp count) (sp_of t - number_of count) t) t) (number_of count) (called back t) (may.bytes.zp 0) (may.bytes.zp 1) (omega arith) some (omega arith) (lowered_ends count s back t may))

few : (count : Count) → number_of count < 9
few One = omega arith
few Two = omega arith
few Three = omega arith
few Four = omega arith
few Five = omega arith
few Six = omega arith
few Seven = omega arith
few Eight = omega arith

pub incsp : (s : RawSetting) (count : Count) → s.lines (s.routine (routines.IncSp count)) ≡ lines_of (routines.IncSp count) → MeetsRow s (routines.IncSp count)
incsp s One has = meets_by s (routines.IncSp One) (λ t. sp_row (routines.IncSp One) (sp_of t + 1) t) (λ t. refl) (raises_one s has)
incsp s Two has = meets_by s (routines.IncSp Two) (λ t. sp_row (routines.IncSp Two) (sp_of t + 2) t) (λ t. refl) (raises_two s has)
incsp s Three has = meets_by s (routines.IncSp Three) (λ t. sp_row (routines.IncSp Three) (sp_of t + 3) t) (λ t. refl) (raises_more s Three (few Three) has (record { onward = refl; weight = refl; depth = refl }))
incsp s Four has = meets_by s (routines.IncSp Four) (λ t. sp_row (routines.IncSp Four) (sp_of t + 4) t) (λ t. refl) (raises_more s Four (few Four) has (record { onward = refl; weight = refl; depth = refl }))
incsp s Five has = meets_by s (routines.IncSp Five) (λ t. sp_row (routines.IncSp Five) (sp_of t + 5) t) (λ t. refl) (raises_more s Five (few Five) has (record { onward = refl; weight = refl; depth = refl }))
incsp s Six has = meets_by s (routines.IncSp Six) (λ t. sp_row (routines.IncSp Six) (sp_of t + 6) t) (λ t. refl) (raises_more s Six (few Six) has (record { onward = refl; weight = refl; depth = refl }))
incsp s Seven has = meets_by s (routines.IncSp Seven) (λ t. sp_row (routines.IncSp Seven) (sp_of t + 7) t) (λ t. refl) (raises_more s Seven (few Seven) has (record { onward = refl; weight = refl; depth = refl }))
incsp s Eight has = meets_by s (routines.IncSp Eight) (λ t. sp_row (routines.IncSp Eight) (sp_of t + 8) t) (λ t. refl) (raises_more s Eight (few Eight) has (record { onward = refl; weight = refl; depth = refl }))

pub decsp : (s : RawSetting) (count : Count) → s.lines (s.routine (routines.DecSp count)) ≡ lines_of (routines.DecSp count) → MeetsRow s (routines.DecSp count)
decsp s One has = meets_by s (routines.DecSp One) (λ t. sp_row (routines.DecSp One) (sp_of t - 1) t) (λ t. refl) (lowers_one s has)
decsp s Two has = meets_by s (routines.DecSp Two) (λ t. sp_row (routines.DecSp Two) (sp_of t - 2) t) (λ t. refl) (lowers_two s has)
decsp s Three has = meets_by s (routines.DecSp Three) (λ t. sp_row (routines.DecSp Three) (sp_of t - 3) t) (λ t. refl) (lowers_more s Three (few Three) (omega arith) has (record { onward = refl; weight = refl; depth = refl }))
decsp s Four has = meets_by s (routines.DecSp Four) (λ t. sp_row (routines.DecSp Four) (sp_of t - 4) t) (λ t. refl) (lowers_more s Four (few Four) (omega arith) has (record { onward = refl; weight = refl; depth = refl }))
decsp s Five has = meets_by s (routines.DecSp Five) (λ t. sp_row (routines.DecSp Five) (sp_of t - 5) t) (λ t. refl) (lowers_more s Five (few Five) (omega arith) has (record { onward = refl; weight = refl; depth = refl }))
decsp s Six has = meets_by s (routines.DecSp Six) (λ t. sp_row (routines.DecSp Six) (sp_of t - 6) t) (λ t. refl) (lowers_more s Six (few Six) (omega arith) has (record { onward = refl; weight = refl; depth = refl }))
decsp s Seven has = meets_by s (routines.DecSp Seven) (λ t. sp_row (routines.DecSp Seven) (sp_of t - 7) t) (λ t. refl) (lowers_more s Seven (few Seven) (omega arith) has (record { onward = refl; weight = refl; depth = refl }))
decsp s Eight has = meets_by s (routines.DecSp Eight) (λ t. sp_row (routines.DecSp Eight) (sp_of t - 8) t) (λ t. refl) (lowers_more s Eight (few Eight) (omega arith) has (record { onward = refl; weight = refl; depth = refl }))

adds_y : (s : RawSetting) → s.lines (s.routine routines.AddYSp) ≡ raise_by_y → (back : Place) (t : State) → MayRun s (sp_row routines.AddYSp ((sp_of t + t.regs.y) % 65536) t) t
    → Runs s routines.AddYSp (sp_row routines.AddYSp ((sp_of t + t.regs.y) % 65536) t) back t
adds_y s has back t may =
    runs s routines.AddYSp (sp_row routines.AddYSp ((sp_of t + t.regs.y) % 65536) t) back t raise_by_y has (record { onward = refl; weight = refl; depth = refl }) refl may
    (raise_by_y_at s.place (reach_of t) (Ends (sp_row routines.AddYSp ((sp_of t + t.regs.y) % 65536) t) t) (called back t) (may.bytes.zp 0) (may.bytes.zp 1) may.bytes.y (λ y n v z c zp moved.
    ends_plain (sp_row routines.AddYSp ((sp_of t + t.regs.y) % 65536) t) back t t.regs.a t.regs.x y n v z c zp t.mem [] refl may.running (refl, refl, tt, tt) moved.rest
    moved.sp (refl, refl, sreg_kept _ _ _ moved) (λ b h. refl)))

-- the room that it makes is open
abbrev subysp_row : State → Row
subysp_row t = record (sp_row routines.SubYSp (sp_of t - t.regs.y) t) { room = max 64 t.regs.y }

subtracts_y : (s : RawSetting) → s.lines (s.routine routines.SubYSp) ≡ lower_by_y → (back : Place) (t : State) → MayRun s (subysp_row t) t
    → Runs s routines.SubYSp (subysp_row t) back t
subtracts_y s has back t may =
    let soft = may.room.soft in
    let byte = may.bytes.y in
    runs s routines.SubYSp (subysp_row t) back t lower_by_y has (record { onward = refl; weight = refl; depth = refl }) refl may
    (lower_by_y_at s.place (reach_of t) (Ends (subysp_row t) t) (called back t) (may.bytes.zp 0) (may.bytes.zp 1) byte (omega arith) (λ y n v z c zp moved.
    ends_plain (subysp_row t) back t t.regs.a t.regs.x y n v z c zp t.mem [] refl may.running (refl, refl, tt, tt) moved.rest
    moved.sp (refl, refl, sreg_kept _ _ _ moved) (λ b h. refl)))

pub addysp : (s : RawSetting) → s.lines (s.routine routines.AddYSp) ≡ lines_of routines.AddYSp → MeetsRow s routines.AddYSp
addysp s has = meets_by s routines.AddYSp (λ t. sp_row routines.AddYSp ((sp_of t + t.regs.y) % 65536) t) (λ t. refl) (adds_y s has)

pub subysp : (s : RawSetting) → s.lines (s.routine routines.SubYSp) ≡ lines_of routines.SubYSp → MeetsRow s routines.SubYSp
subysp s has = meets_by s routines.SubYSp subysp_row (λ t. refl) (subtracts_y s has)
