-- `printf` writes a space for each byte that a text is shorter than its width.
use Rattle.std.specs.Prelude.{◌≡◌, ◌≢◌, ℕ, ◌+◌, ◌-◌, ◌*◌, ◌%◌, ◌<◌, ◌≤◌, ◌⊎◌, List, ◌∷◌, ◌++◌, None, replicate}
use Rattle.c65_code.specs.LineState.{State, Frame, sp_of, zero_word}
use Rattle.c65_code.specs.RawMachine.{RawSetting, Bounds, RawComes}
use Rattle.c65_rtl_law_walks.specs.Joined.{label_in}
use Rattle.c65_rtl_law_printf.specs.Writing.{length_of}
use Rattle.c65_rtl_law_printf_fields.specs.Numbers.{AllStand, MayPush}

abbrev pub spaces_before : State → ℕ
spaces_before t = t.zp 16 - length_of t

pub record WritesSpaces (t u : State) : Type 0 where
  pub output : u.output ≡ t.output ++ replicate (spaces_before t) 32
  pub count : zero_word u 12 ≡ (zero_word t 12 + spaces_before t) % 65536
  pub sp : sp_of u ≡ sp_of t
  pub zp : (i : ℕ) → 2 ≤ i → i ≢ 4 → i ≢ 5 → i ≢ 12 → i ≢ 13 → i ≢ 16 → u.zp i ≡ t.zp i
  pub mem : (b : ℕ) → (b + 5 < sp_of t) ⊎ (sp_of t ≤ b) → u.mem b ≡ t.mem b
  pub pushed : u.pushed ≡ t.pushed
  pub input : u.input ≡ t.input
  pub ended : u.ended ≡ None

-- Wherever these lines stand, they do so within 60 instructions, and 80 for each space.
abbrev pub SpacesAreWritten : Type 0
SpacesAreWritten = (s : RawSetting) (bounds : Bounds) (f : ℕ) (t : State) (frame : Frame) (frames : List Frame) → AllStand s f → t.frames ≡ frame ∷ frames → MayPush s bounds t
    → RawComes s bounds (λ q u. (q ≡ label_in s f 9) × (u.frames ≡ t.frames) × WritesSpaces t u) (60 + 80 * spaces_before t) (label_in s f 8) t
