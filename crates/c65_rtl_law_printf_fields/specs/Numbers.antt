-- `printf` pushes the digits of a number onto the software stack, with its sign before them.
use Rattle.std.specs.Prelude.{◌≡◌, ◌≢◌, ℕ, ◌+◌, ◌<◌, ◌≤◌, ◌==◌, ◌⊎◌, false, if◌then◌else◌, List, ◌∷◌, None, length}
use Rattle.std.specs.Fmt.{digits}
use Rattle.c65_code.specs.declared.routine.Count.TheVariants.{One}
use Rattle.c65_code.specs.declared.routine.Routine.TheVariants as routines
use Rattle.c65_code.specs.LineState.{State, Frame, sp_of, s_of, IsBytes}
use Rattle.c65_code.specs.Placement.{stack_end}
use Rattle.c65_code.specs.Texts.{bytes_at}
use Rattle.c65_code.specs.RawMachine.{RawSetting, Bounds, RawComes, LieLow}
use Rattle.c65_rtl.specs.Routines.{lines_of}
use Rattle.c65_rtl_law_walks.specs.Joined.{label_in}
use Rattle.c65_rtl_law_printf.specs.Digits.{number_left}
use Rattle.c65_rtl_law_printf.specs.Writing.{Stand, address_of}

-- the lines of `printf` and of all that they call stand under their numbers
pub record AllStand (s : RawSetting) (f : ℕ) : Type 0 where
  pub stand : Stand s f
  pub byte : s.lines (s.routine routines.PushA) ≡ lines_of routines.PushA
  pub raise : s.lines (s.routine (routines.IncSp One)) ≡ lines_of (routines.IncSp One)

-- what holds before bytes are pushed: there is room on both stacks
pub record MayPush (s : RawSetting) (bounds : Bounds) (t : State) : Type 0 where
  pub bytes : IsBytes t
  pub running : t.ended ≡ None
  pub hard : bounds.hard + 3 ≤ s_of t
  pub soft : bounds.soft + 11 ≤ sp_of t
  pub high : sp_of t ≤ stack_end
  pub data_low : LieLow s.place

-- the minus sign where there is one, and the digits
abbrev pub numeral : ℕ → ℕ → ℕ → List ℕ
numeral base sign n = if sign == 0 then digits base false n else 45 ∷ digits base false n

-- They stand in order from the sp on, where ptr4 points, and tmp2 is their length. Memory at the former sp and above is as before.
pub record MakesNumber (base : ℕ) (t u : State) : Type 0 where
  pub text : bytes_at (u.zp 17) (sp_of u) u.mem ≡ numeral base (t.zp 3) (number_left t.zp)
  pub length : u.zp 17 ≡ length (numeral base (t.zp 3) (number_left t.zp))
  pub few : u.zp 17 ≤ 11
  pub sp : sp_of u + u.zp 17 ≡ sp_of t
  pub address : address_of u ≡ sp_of u
  pub zp : (i : ℕ) → 2 ≤ i → i ≢ 4 → i ≢ 5 → i ≢ 6 → i ≢ 7 → i ≢ 14 → i ≢ 15 → i ≢ 17 → u.zp i ≡ t.zp i
  pub mem : (b : ℕ) → (b + 11 < sp_of t) ⊎ (sp_of t ≤ b) → u.mem b ≡ t.mem b
  pub pushed : u.pushed ≡ t.pushed
  pub input : u.input ≡ t.input
  pub output : u.output ≡ t.output
  pub ended : u.ended ≡ None

-- Wherever these lines stand, they do so within 7,500 instructions, with the base in tmp4.
abbrev pub NumbersAreMade : Type 0
NumbersAreMade = (s : RawSetting) (bounds : Bounds) (f base : ℕ) (t : State) (frame : Frame) (frames : List Frame) → AllStand s f → t.frames ≡ frame ∷ frames → MayPush s bounds t → t.zp 19 ≡ base → (base ≡ 10) ⊎ (base ≡ 16)
    → RawComes s bounds (λ q u. (q ≡ label_in s f 8) × (u.frames ≡ t.frames) × MakesNumber base t u) 7500 (label_in s f 5) t
