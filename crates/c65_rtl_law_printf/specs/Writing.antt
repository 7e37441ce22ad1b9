-- `printf` writes a text by the simulator's hook, and counts its bytes.
use Rattle.std.specs.Prelude.{◌≡◌, ◌≢◌, ℕ, ◌+◌, ◌*◌, ◌%◌, ◌<◌, ◌≤◌, ◌⊎◌, All, List, ◌∷◌, ◌++◌, None}
use Rattle.c65_code.specs.declared.routine.Routine.TheVariants as routines
use Rattle.c65_code.specs.LineState.{State, Frame, zero_word, sp_of, s_of, IsBytes}
use Rattle.c65_code.specs.Placement.{stack_end}
use Rattle.c65_code.specs.Texts.{bytes_at, range_of}
use Rattle.c65_code.specs.RawMachine.{RawSetting, Bounds, RawComes, IsReachable, LieLow}
use Rattle.c65_rtl.specs.Routines.{lines_of}
use Rattle.c65_rtl_law_walks.specs.Joined.{label_in}
use Rattle.c65_va.specs.Printf.{printf_lines}

-- the length of the text, in tmp2 and tmp3, and its address, in ptr4
abbrev pub length_of : State → ℕ
length_of t = t.zp 17 + 256 * t.zp 18

abbrev pub address_of : State → ℕ
address_of t = zero_word t 14

-- The text is written, its bytes are counted in ptr3, and where sreg holds a letter they are taken off the stack. Memory at the sp
-- and above is as before, and all that is more than four bytes below it.
pub record Writes (t u : State) : Type 0 where
  pub output : u.output ≡ t.output ++ bytes_at (length_of t) (address_of t) t.mem
  pub count : zero_word u 12 ≡ (zero_word t 12 + length_of t) % 65536
  pub own : t.zp 2 ≡ 0 → sp_of u ≡ sp_of t
  pub taken : t.zp 2 ≢ 0 → sp_of u ≡ (sp_of t + t.zp 17) % 65536
  pub zp : (i : ℕ) → 2 ≤ i → i ≢ 12 → i ≢ 13 → u.zp i ≡ t.zp i
  pub mem : (b : ℕ) → (b + 4 < sp_of t) ⊎ (sp_of t ≤ b) → u.mem b ≡ t.mem b
  pub pushed : u.pushed ≡ t.pushed
  pub input : u.input ≡ t.input
  pub ended : u.ended ≡ None

-- the lines of `printf` and of what they call to write stand under their numbers
pub record Stand (s : RawSetting) (f : ℕ) : Type 0 where
  pub printf : s.lines f ≡ printf_lines
  pub push : s.lines (s.routine routines.PushAx) ≡ lines_of routines.PushAx
  pub add : s.lines (s.routine routines.AddYSp) ≡ lines_of routines.AddYSp

-- what holds before a text is written: there is room on both stacks, and the text may be read and lies apart from that room
pub record MayWrite (s : RawSetting) (bounds : Bounds) (t : State) : Type 0 where
  pub bytes : IsBytes t
  pub running : t.ended ≡ None
  pub hard : bounds.hard + 3 ≤ s_of t
  pub soft : bounds.soft + 4 ≤ sp_of t
  pub high : sp_of t ≤ stack_end
  pub data_low : LieLow s.place
  pub readable : All (IsReachable s.place bounds) (range_of (length_of t) (address_of t))
  pub apart : (k : ℕ) → k < length_of t → (address_of t + k + 4 < sp_of t) ⊎ (sp_of t ≤ address_of t + k)

-- the labels before a text is written, and where the next byte of the format is read
abbrev pub text_label : ℕ
text_label = 9

abbrev pub next_label : ℕ
next_label = 0

-- Wherever these lines stand, they come from the one to the other within 100 instructions.
abbrev pub TextsAreWritten : Type 0
TextsAreWritten = (s : RawSetting) (bounds : Bounds) (f : ℕ) (t : State) (frame : Frame) (frames : List Frame) → Stand s f → t.frames ≡ frame ∷ frames → MayWrite s bounds t
    → RawComes s bounds (λ q u. (q ≡ label_in s f next_label) × (u.frames ≡ t.frames) × Writes t u) 100 (label_in s f text_label) t
