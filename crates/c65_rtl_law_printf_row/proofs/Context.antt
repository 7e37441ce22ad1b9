-- What holds within a call of `printf`, and how its laws of parts lead from label to label.
use Rattle.std.proofs.Common.{◌≡◌, ℕ, zero, suc, ◌+◌, ◌-◌, ◌*◌, ◌<◌, ◌≤◌, inr, List, ◌∷◌, ◌++◌, All, length, sym, ap, subst, ◌∙◌, arith}
use Rattle.std.specs.Prelude.{sum_by, replicate}
use Rattle.std.proofs.lemmas.List.{length-append, length-replicate}
use Rattle.std.proofs.lemmas.List.Elements.{All-nil, All-cons}
use Rattle.std.proofs.lemmas.List.Sums.{sum_by-cons}
use Rattle.c65_base.specs.declared.library.Library.TheVariants.{Printf}
use Rattle.c65_base.specs.Formats.{wide}
use Rattle.c65_code.specs.declared.routine.Routine.TheVariants as routines
use Rattle.c65_code.specs.Parts.{no_parts}
use Rattle.c65_code.specs.LineState.{Place, State, Frame, sp_of, s_of, zero_word, IsBytes}
use Rattle.c65_code.specs.Texts.{range_of}
use Rattle.c65_code.specs.RawMachine.{RawSetting, Bounds, RawComes, here, on, IsReachable, reach_of, LieLow}
use Rattle.c65_rtl_law_walks.specs.Joined.{label_in, Around, Turns}
use Rattle.c65_rtl_law_printf.specs.Arguments.{SameAside, MayTake}
use Rattle.c65_rtl_law_printf.specs.Format.{MayRead}
use Rattle.c65_rtl_law_printf_fields.specs.Numbers.{AllStand}
use Rattle.c65_rtl_law_printf_row.proofs.Left.{Readable}
use Rattle.c65_rtl_law_printf_row.proofs.Moments.{Moment, label_of, Reading, Noted, Holds, Inv}

pub wide_length : (w : ℕ) (chunk rest : List ℕ) → length (wide w chunk ++ rest) ≡ w - length chunk + (length chunk + length rest)
wide_length w chunk rest =
    let whole = length-append (wide w chunk) rest in
    let parts = length-append (replicate {A = ℕ} (w - length chunk) 32) chunk in
    let spaces : length (replicate {A = ℕ} (w - length chunk) 32) ≡ w - length chunk = length-replicate (w - length chunk) 32 in
    omega arith

pub all_range : (P : ℕ → Type 0) (count at : ℕ) → ((k : ℕ) → k < count → P (at + k)) → All P (range_of count at)
all_range P zero at each = All-nil P
all_range P (suc count) at each =
    let e : at + 0 ≡ at = omega arith in
    All-cons P at (range_of count (at + 1)) (subst P e (each 0 (omega arith))) (all_range P count (at + 1) (λ k few. let f : at + suc k ≡ at + 1 + k = omega arith in subst P f (each (suc k) (omega arith))))

pub comes_as : (s : RawSetting) (bounds : Bounds) (Q R : Place → State → Type 0) → ((q : Place) (u : State) → IsBytes u → Q q u → R q u) → (w : ℕ) (p : Place) (t : State) → IsBytes t → RawComes s bounds Q w p t → RawComes s bounds R w p t
comes_as s bounds Q R next w p t bytes (here h) = here (next p t bytes h)
comes_as s bounds Q R next w p t bytes (on {v = v} l is running within fits rest) = on {v = v} l is running within fits (λ q u m. comes_as s bounds Q R next v q u m.bytes (rest q u m))

-- what holds at the call
pub record Called (s : RawSetting) (t : State) : Type 0 where
  pub stand : AllStand s (s.routine (routines.Library Printf))
  pub bytes : IsBytes t
  pub soft : 63536 ≤ sp_of t
  pub hard : 29 ≤ s_of t
  pub top : sp_of t + t.regs.y ≤ 65520
  pub data_low : LieLow s.place

-- the calls within it
abbrev pub frame_of : State → Place → Frame
frame_of t back = record { back = back; pushed = t.pushed; gives = no_parts }

abbrev pub calls_of : State → Place → List Frame
calls_of t back = frame_of t back ∷ t.frames

-- the part of an invariant that tells of a label to come
abbrev pub Lands : RawSetting → State → List ℕ → ℕ → ℕ → State → Type 0
Lands s t text less l v = (m : Moment) × (l ≡ label_of m) × Holds s t text m less v

module _ (s : RawSetting) (t : State) (text : List ℕ) (back : Place) (call : Called s t) (Q : Place → State → Type 0) where
  abbrev f : ℕ
  f = s.routine (routines.Library Printf)

  abbrev pub Turning : ℕ → ℕ → State → Type 0
  Turning l n u = Turns s (reach_of t) Q f (Inv s t text (calls_of t back)) l n u

  pub turn_to : (l n spent less to : ℕ) (u : State) (X : State → Type 0) → IsBytes u → u.frames ≡ calls_of t back → less < n → spent + less ≤ n
      → RawComes s (reach_of t) (λ q v. (q ≡ label_in s f to) × (v.frames ≡ u.frames) × X v) spent (label_in s f l) u
      → ((v : State) → IsBytes v → X v → Lands s t text less to v) → Turning l n u
  turn_to l n spent less to u X bytes same fewer weighs comes lands = record {
    less = less;
    spent = spent;
    fewer = fewer;
    weighs = weighs;
    comes = comes_as s (reach_of t) (λ q v. (q ≡ label_in s f to) × (v.frames ≡ u.frames) × X v) (Around s Q f (Inv s t text (calls_of t back)) less)
        (λ q v bytes_v h. let m = lands v bytes_v h.2 in inr (to, h.0, (m.0, m.1, bytes_v, h.1 ∙ same, m.2))) spent (label_in s f l) u bytes comes;
  }

  pub deep_enough : (u : State) → u.frames ≡ calls_of t back → length u.pushed ≤ 1 → (reach_of t).hard + 3 ≤ s_of u
  deep_enough u same few =
      let calls : sum_by (λ (f : Frame). 2 + length f.pushed) u.frames ≡ sum_by (λ (f : Frame). 2 + length f.pushed) (calls_of t back) = ap (λ (fs : List Frame). sum_by (λ (f : Frame). 2 + length f.pushed) fs) same in
      let sum : sum_by (λ (f : Frame). 2 + length f.pushed) (calls_of t back) ≡ 2 + length t.pushed + sum_by (λ (f : Frame). 2 + length f.pushed) t.frames = sum_by-cons (λ (f : Frame). 2 + length f.pushed) (frame_of t back) t.frames in
      let hard = call.hard in
      omega arith

  -- the bytes of arguments
  pub on_stack : (b : ℕ) → sp_of t ≤ b → b < 65520 → Readable s t b
  on_stack b low high = record { reach = inr (omega arith, high); fixed = inr low; small = omega arith }

  pub may_read : (p size : ℕ) (todo : List ℕ) (u : State) → IsBytes u → u.frames ≡ calls_of t back → Reading s t text p size todo u → Readable s t p → MayRead s (reach_of t) u
  may_read p size todo u bytes same r readable =
      let format = r.format in
      let small = readable.small in
      let pushed = ap (λ (ps : List ℕ). length ps) r.pushed in
      let hard = deep_enough u same (omega arith) in
      record { bytes = bytes; running = r.ended; hard = omega arith; reach = subst (λ (b : ℕ). IsReachable s.place (reach_of t) b) (sym format) readable.reach; fits = omega arith }

  pub may_take : (p size : ℕ) (todo : List ℕ) (u : State) → IsBytes u → u.frames ≡ calls_of t back → Reading s t text p size todo u → MayTake s (reach_of t) u
  may_take p size todo u bytes same r =
      let block = r.block in
      let soft = call.soft in
      let pushed = ap (λ (ps : List ℕ). length ps) r.pushed in
      let hard = deep_enough u same (omega arith) in
      record { bytes = bytes; running = r.ended; hard = omega arith; some = omega arith }

  -- lines that write nothing, and change some of the zero page
  pub reading_on : (p q size left : ℕ) (todo : List ℕ) (u v : State) → Reading s t text p size todo u → SameAside u v → zero_word v 8 ≡ q → zero_word v 10 ≡ sp_of t + left → v.zp 12 ≡ u.zp 12 → v.zp 13 ≡ u.zp 13
      → ((i : ℕ) → 20 ≤ i → v.zp i ≡ u.zp i) → Reading s t text q left todo v
  reading_on p q size left todo u v r same format block e12 e13 bank =
      let count = r.count in
      record {
        format = format;
        block = block;
        told = ap (λ (ns : List ℕ). ns ++ todo) same.output ∙ r.told;
        count = omega arith;
        bank = λ i high. bank i high ∙ r.bank i high;
        mem = λ b fixed. same.mem b ∙ r.mem b fixed;
        pushed = same.pushed ∙ r.pushed;
        input = same.input ∙ r.input;
        ended = same.ended;
      }

  pub noted_on : (w x : ℕ) (u v : State) → Noted s t text w u → v.zp 16 ≡ x → v.regs.y ≡ u.regs.y → v.zp 0 ≡ u.zp 0 → v.zp 1 ≡ u.zp 1 → v.zp 2 ≡ u.zp 2 → v.zp 14 ≡ u.zp 14 → v.zp 15 ≡ u.zp 15 → v.zp 17 ≡ u.zp 17 → v.zp 18 ≡ u.zp 18 → Noted s t text x v
  noted_on w x u v k width y e0 e1 e2 e14 e15 e17 e18 =
      let sp_is = k.sp in
      let length_is = k.length in
      let address : v.zp 14 + 256 * v.zp 15 ≡ u.zp 14 + 256 * u.zp 15 = omega arith in
      record {
        sp = omega arith;
        percent = ap t.mem address ∙ k.percent;
        readable = subst (λ (b : ℕ). Readable s t b) (sym address) k.readable;
        length = omega arith;
        own = e2 ∙ k.own;
        width = width;
        y = y ∙ k.y;
      }
