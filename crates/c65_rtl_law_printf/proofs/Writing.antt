-- A text is written by the hook, counted, and taken off the stack where it lies there.
use Rattle.std.proofs.Common.{◌≡◌, ◌≢◌, ℕ, zero, suc, ◌+◌, ◌-◌, ◌*◌, ◌/◌, ◌%◌, ◌<◌, ◌≤◌, ◌⊎◌, inl, inr, Bool, true, false, List, [], ◌∷◌, ◌++◌, All, None, length, nat_eq, refl, sym, ap, subst, ◌∙◌, arith}
use Rattle.std.specs.Prelude.{◌==◌, if◌then◌else◌, nat_lt, sum_by}
use Rattle.std.proofs.lemmas.List.{append-nil}
use Rattle.std.proofs.lemmas.List.Elements.{All-nil, All-cons}
use Rattle.c65_mach.specs.declared.rows.Op.TheVariants.{Adc, Beq, Clc, Lda, Ldx, Ldy, Sta}
use Rattle.c65_mach.specs.Step.{bit}
use Rattle.c65_code.specs.declared.line.Line.{Line}
use Rattle.c65_code.specs.declared.line.Line.TheVariants.{Label}
use Rattle.c65_code.specs.declared.routine.Routine.{Routine}
use Rattle.c65_code.specs.declared.routine.Routine.TheVariants as routines
use Rattle.c65_code.specs.declared.routine.Width.TheVariants.{Ax}
use Rattle.c65_code.specs.LineState.{Place, State, Frame, Bytes, write, word_at, zero_word, sp_of, ax_of, IsBytes}
use Rattle.c65_code.specs.Texts.{bytes_at, range_of}
use Rattle.c65_code.specs.Moves.{settle, labelled}
use Rattle.c65_code.specs.Rows.{Row, Meets, sp_row, giving, popping}
use Rattle.c65_code.specs.RawMachine.{RawSetting, Bounds, IsReachable, called, quiet, write_hook}
use Rattle.c65_rtl.specs.Assembly.{sreg, ptr3, ptr4, tmp2, tmp3, implied, value, zero_page, branch, call}
use Rattle.c65_rtl.specs.Stack.{raise_by_y}
use Rattle.c65_rtl.specs.Routines.{lines_of}
use Rattle.c65_rtl.proofs.Ways.{Ends, moved_to}
use Rattle.c65_rtl.proofs.Rounds.{behind}
use Rattle.c65_rtl.proofs.Meeting.{eq_true, eq_false, write_other, ends_by}
use Rattle.c65_rtl.proofs.SpPieces.{left, raise_by_y_at}
use Rattle.c65_rtl.proofs.Pushes.{write_same, sreg_kept}
use Rattle.c65_rtl.proofs.Stores.{write_like}
use Rattle.c65_rtl.proofs.UnaryWords.{bit_carry}
use Rattle.c65_rtl_law_walks.specs.Joined.{label_in}
use Rattle.c65_rtl_law_walks.proofs.Walks.{Takes, Calls, Hooks}
use Rattle.c65_rtl_law_inner.proofs.Kept.{kept_from}
use Rattle.c65_rtl_law_inner.proofs.Straight.{ComesIn, straight_comes}
use Rattle.c65_rtl_law_inner.proofs.Pops.{above_or_below}
use Rattle.c65_rtl_law_inner.proofs.Pushes.{pushax_row, push_word_comes}
use Rattle.c65_va.specs.Printf.{printf_lines, jump}
use Rattle.c65_rtl_law_printf.specs.Writing.{length_of, address_of, Writes, Stand, MayWrite, text_label, next_label, TextsAreWritten}
use Rattle.c65_rtl_law_printf.proofs.Stops.{leads_stop, stops_in}

abbrev takes : Routine → Takes
takes routines.PushAx = record { below = 2; pushed = 1; weight = 15 }
takes routines.AddYSp = record { below = 0; pushed = 1; weight = 10 }
takes _ = record { below = 0; pushed = 0; weight = 0 }

-- the labels before the lines that write
abbrev gone : List ℕ
gone = 9 ∷ 29 ∷ 28 ∷ 8 ∷ 27 ∷ 26 ∷ 25 ∷ 7 ∷ 24 ∷ 6 ∷ 23 ∷ 22 ∷ 21 ∷ 20 ∷ 19 ∷ 5 ∷ 4 ∷ 18 ∷ 17 ∷ 3 ∷ 16 ∷ 15 ∷ 14 ∷ 2 ∷ 13 ∷ 1 ∷ 12 ∷ 0 ∷ 11 ∷ []

abbrev To : RawSetting → Bounds → ℕ → (State → Type 0) → (ℕ → State → Type 0) → List Line → State → Type 0
To s bounds deepest P B lines u = leads_stop s bounds deepest takes P B gone lines None u

abbrev next_on : List Line → List Line
next_on rest = Label 30 ∷ jump 0 ∷ rest

abbrev count_on : List Line → List Line
count_on rest = implied Clc ∷ zero_page Lda ptr3 ∷ zero_page Adc tmp2 ∷ zero_page Sta ptr3 ∷ zero_page Lda (ptr3 + 1) ∷ zero_page Adc tmp3 ∷ zero_page Sta (ptr3 + 1) ∷ zero_page Lda sreg ∷ branch Beq 30 ∷ zero_page Ldy tmp2 ∷ call routines.AddYSp ∷ next_on rest

abbrev hook_on : List Line → List Line
hook_on rest = zero_page Lda tmp2 ∷ zero_page Ldx tmp3 ∷ call routines.HookWrite ∷ count_on rest

abbrev address_on : List Line → List Line
address_on rest = zero_page Lda ptr4 ∷ zero_page Ldx (ptr4 + 1) ∷ call routines.PushAx ∷ hook_on rest

abbrev text_on : List Line → List Line
text_on rest = value Lda 1 ∷ value Ldx 0 ∷ call routines.PushAx ∷ address_on rest

-- ---- the pieces

abbrev pub with_ax : State → ℕ → ℕ → Bool → Bool → State
with_ax u a x n z = record u { regs = record u.regs { a = a; x = x; n = n; z = z } }

text_at : (s : RawSetting) (bounds : Bounds) (deepest : ℕ) (P : State → Type 0) (B : ℕ → State → Type 0) (rest : List Line) (u : State)
    → ((n z : Bool) → Calls s bounds deepest takes routines.PushAx (leads_stop s bounds deepest takes P B gone (address_on rest)) (with_ax u 1 0 n z)) → To s bounds deepest P B (text_on rest) u
unfolding leads_stop
text_at s bounds deepest P B rest u follows = follows _ _

address_at : (s : RawSetting) (bounds : Bounds) (deepest : ℕ) (P : State → Type 0) (B : ℕ → State → Type 0) (rest : List Line) (u : State)
    → ((n z : Bool) → Calls s bounds deepest takes routines.PushAx (leads_stop s bounds deepest takes P B gone (hook_on rest)) (with_ax u (u.zp 14) (u.zp 15) n z)) → To s bounds deepest P B (address_on rest) u
unfolding leads_stop
address_at s bounds deepest P B rest u follows = follows _ _

abbrev pub write_row : State → Row
write_row u = write_hook u (popping 4 u (quiet routines.HookWrite u))

hook_at : (s : RawSetting) (bounds : Bounds) (deepest : ℕ) (P : State → Type 0) (B : ℕ → State → Type 0) (rest : List Line) (u : State)
    → ((n z : Bool) → Hooks s bounds deepest (write_row (with_ax u (u.zp 17) (u.zp 18) n z)) (leads_stop s bounds deepest takes P B gone (count_on rest)) (with_ax u (u.zp 17) (u.zp 18) n z)) → To s bounds deepest P B (hook_on rest) u
unfolding leads_stop
hook_at s bounds deepest P B rest u follows = follows _ _

abbrev sum_low : State → ℕ
sum_low u = u.zp 12 + u.zp 17 + 0

abbrev sum_high : State → ℕ
sum_high u = u.zp 13 + u.zp 18 + bit (nat_lt 255 (sum_low u))

abbrev counted : State → Bool → Bool → Bool → State
counted u n v c = record u { regs = record u.regs { a = u.zp 2; n = n; v = v; z = nat_eq (u.zp 2) 0; c = c }; zp = write (write u.zp 12 (sum_low u % 256)) 13 (sum_high u % 256) }

abbrev with_y : State → Bool → Bool → State
with_y u n z = record u { regs = record u.regs { y = u.zp 17; n = n; z = z } }

count_at : (s : RawSetting) (bounds : Bounds) (deepest : ℕ) (P : State → Type 0) (B : ℕ → State → Type 0) (rest : List Line) (u : State)
    → ((n v c : Bool) → nat_eq (u.zp 2) 0 ≡ true → B 0 (counted u n v c))
    → ((n v c m w : Bool) → nat_eq (u.zp 2) 0 ≡ false → Calls s bounds deepest takes routines.AddYSp (leads_stop s bounds deepest takes P B gone (next_on rest)) (with_y (counted u n v c) m w))
    → To s bounds deepest P B (count_on rest) u
unfolding leads_stop
count_at s bounds deepest P B rest u own taken = elim [ true ↦ λ e. own _ _ _ e | false ↦ λ e. taken false _ _ _ _ e ]

next_at : (s : RawSetting) (bounds : Bounds) (deepest : ℕ) (P : State → Type 0) (B : ℕ → State → Type 0) (rest : List Line) (u : State) → B 0 u → To s bounds deepest P B (next_on rest) u
unfolding leads_stop
next_at s bounds deepest P B rest u h = h

-- ---- `addysp` within

abbrev pub added_row : State → Row
added_row t = record (sp_row routines.AddYSp ((sp_of t + t.regs.y) % 65536) t) { room = 0 }

pub add_y_comes : (s : RawSetting) → s.lines (s.routine routines.AddYSp) ≡ lines_of routines.AddYSp → ComesIn s 0 1 10 added_row routines.AddYSp
add_y_comes s has = straight_comes s 0 routines.AddYSp added_row raise_by_y (λ t. refl) has refl
    (λ bounds back t may. raise_by_y_at s.place bounds (Ends (added_row t) t) (called back t) (may.bytes.zp 0) (may.bytes.zp 1) may.bytes.y
    (λ y n v z c zp moved. ends_by (added_row t) t (left (called back t) t.regs.a t.regs.x y n v z c zp t.mem) [] (record {
      zp = moved.rest;
      fit = refl;
      small = (refl, refl, refl, refl, refl);
      low_kept = tt;
      high_kept = tt;
      a_kept = refl;
      x_kept = refl;
      sp = moved.sp;
      a = refl;
      x = refl;
      sreg = sreg_kept _ _ _ moved;
      pointers = tt;
      bank = tt;
      mem = λ b h. refl;
      input = refl;
      output = sym (append-nil t.output);
      ended = may.running;
    })))

-- ---- states between

-- So many bytes below the sp, with this memory, and these bytes told.
pub record Below (t : State) (depth : ℕ) (memory : Bytes) (told : List ℕ) (u : State) : Type 0 where
  pub sp : sp_of u + depth ≡ sp_of t
  pub mem : (b : ℕ) → u.mem b ≡ memory b
  pub zp : (i : ℕ) → 2 ≤ i → u.zp i ≡ t.zp i
  pub pushed : u.pushed ≡ t.pushed
  pub input : u.input ≡ t.input
  pub output : u.output ≡ t.output ++ told
  pub ended : u.ended ≡ None

pub below_word : (t : State) (depth : ℕ) (memory : Bytes) (u w : State) → depth + 2 ≤ sp_of t → Below t depth memory [] u → Meets (pushax_row u) u w
    → Below t (depth + 2) (write (write memory (sp_of t - (depth + 2)) u.regs.a) (sp_of t - (depth + 2) + 1) u.regs.x) [] w
below_word t depth memory u w fits k m =
    let sp_is = k.sp in
    let moved : sp_of w ≡ sp_of u - 2 = m.sp in
    let at : sp_of u - 2 ≡ sp_of t - (depth + 2) = omega arith in
    let next : sp_of u - 2 + 1 ≡ sp_of t - (depth + 2) + 1 = omega arith in
    record {
      sp = omega arith;
      mem = λ b. m.mem b (above_or_below (sp_of u) b)
          ∙ write_like (write u.mem (sp_of u - 2) u.regs.a) (write memory (sp_of t - (depth + 2)) u.regs.a) (sp_of u - 2 + 1) (sp_of t - (depth + 2) + 1) u.regs.x b next (write_like u.mem memory (sp_of u - 2) (sp_of t - (depth + 2)) u.regs.a b at (k.mem b));
      zp = λ i two. kept_from (pushax_row u) u w 2 m refl i two ∙ k.zp i two;
      pushed = m.pushed ∙ k.pushed;
      input = m.input ∙ k.input;
      output = m.output ∙ (append-nil u.output ∙ k.output);
      ended = m.ended;
    }

-- memory once the descriptor and the address are pushed
abbrev pub with_file : State → Bytes
with_file t = write (write t.mem (sp_of t - 2) 1) (sp_of t - 2 + 1) 0

abbrev pub with_both : State → ℕ → ℕ → Bytes
with_both t low high = write (write (with_file t) (sp_of t - 4) low) (sp_of t - 4 + 1) high

pub record Found (t : State) (low high : ℕ) : Type 0 where
  pub low_is : with_both t low high (sp_of t - 4) ≡ low
  pub high_is : with_both t low high (sp_of t - 4 + 1) ≡ high
  pub file_is : with_both t low high (sp_of t - 2) ≡ 1
  pub none_is : with_both t low high (sp_of t - 2 + 1) ≡ 0
  pub other : (b : ℕ) → (b + 4 < sp_of t) ⊎ (sp_of t ≤ b) → with_both t low high b ≡ t.mem b

apart : (t : State) (b : ℕ) → (b + 4 < sp_of t) ⊎ (sp_of t ≤ b) → (a : ℕ) → a < sp_of t → sp_of t ≤ a + 4 → b ≢ a
apart t b (inl below) a under near = omega arith
apart t b (inr above) a under near = omega arith

pub found : (t : State) (low high : ℕ) → 4 ≤ sp_of t → Found t low high
found t low high fits =
    let n45 : sp_of t - 4 ≢ sp_of t - 4 + 1 = omega arith in
    let n24 : sp_of t - 2 ≢ sp_of t - 4 = omega arith in
    let n25 : sp_of t - 2 ≢ sp_of t - 4 + 1 = omega arith in
    let n23 : sp_of t - 2 ≢ sp_of t - 2 + 1 = omega arith in
    let n34 : sp_of t - 2 + 1 ≢ sp_of t - 4 = omega arith in
    let n35 : sp_of t - 2 + 1 ≢ sp_of t - 4 + 1 = omega arith in
    let m1 : Bytes = write t.mem (sp_of t - 2) 1 in
    let m2 : Bytes = with_file t in
    let m3 : Bytes = write m2 (sp_of t - 4) low in
    record {
      low_is = write_other m3 (sp_of t - 4 + 1) high (sp_of t - 4) n45 ∙ write_same m2 (sp_of t - 4) low (sp_of t - 4) refl;
      high_is = write_same m3 (sp_of t - 4 + 1) high (sp_of t - 4 + 1) refl;
      file_is = write_other m3 (sp_of t - 4 + 1) high (sp_of t - 2) n25 ∙ (write_other m2 (sp_of t - 4) low (sp_of t - 2) n24 ∙ (write_other m1 (sp_of t - 2 + 1) 0 (sp_of t - 2) n23 ∙ write_same t.mem (sp_of t - 2) 1 (sp_of t - 2) refl));
      none_is = write_other m3 (sp_of t - 4 + 1) high (sp_of t - 2 + 1) n35 ∙ (write_other m2 (sp_of t - 4) low (sp_of t - 2 + 1) n34 ∙ write_same m1 (sp_of t - 2 + 1) 0 (sp_of t - 2 + 1) refl);
      other = λ b h. let far = apart t b h in write_other m3 (sp_of t - 4 + 1) high b (far (sp_of t - 4 + 1) (omega arith) (omega arith)) ∙ (write_other m2 (sp_of t - 4) low b (far (sp_of t - 4) (omega arith) (omega arith))
          ∙ (write_other m1 (sp_of t - 2 + 1) 0 b (far (sp_of t - 2 + 1) (omega arith) (omega arith)) ∙ write_other t.mem (sp_of t - 2) 1 b (far (sp_of t - 2) (omega arith) (omega arith))));
    }

pub same_bytes : (count at : ℕ) (m n : Bytes) → ((j : ℕ) → j < count → n (at + j) ≡ m (at + j)) → bytes_at count at n ≡ bytes_at count at m
same_bytes zero at m n same = refl
same_bytes (suc count) at m n same =
    let e : at + 0 ≡ at = omega arith in
    let first : n at ≡ m at = subst (λ (b : ℕ). n b ≡ m b) e (same 0 (omega arith)) in
    ap (λ (v : ℕ). v ∷ bytes_at count (at + 1) n) first ∙ ap (λ (vs : List ℕ). m at ∷ vs) (same_bytes count (at + 1) m n (λ j few. let f : at + suc j ≡ at + 1 + j = omega arith in subst (λ (b : ℕ). n b ≡ m b) f (same (suc j) (omega arith))))

pub all_two : (P : ℕ → Type 0) (a b : ℕ) → P a → P b → All P (a ∷ b ∷ [])
all_two P a b ha hb = All-cons P a (b ∷ []) ha (All-cons P b [] hb (All-nil P))

pub all_four : (P : ℕ → Type 0) (a b c d : ℕ) → P a → P b → P c → P d → All P (a ∷ b ∷ c ∷ d ∷ [])
all_four P a b c d ha hb hc hd = All-cons P a (b ∷ c ∷ d ∷ []) ha (All-cons P b (c ∷ d ∷ []) hb (all_two P c d hc hd))

abbrev pub told_row : State → Row
told_row u = record (giving Ax (ax_of u) (popping 4 u (quiet routines.HookWrite u))) { out = bytes_at (ax_of u) (word_at u.mem (sp_of u)) u.mem; far = range_of (ax_of u) (word_at u.mem (sp_of u)) }

pub told_is : (u : State) → word_at u.mem (sp_of u + 2) ≡ 1 → write_row u ≡ told_row u
told_is u e = ap (λ (k : ℕ). if k == 1 then told_row u else giving Ax 65535 (popping 4 u (quiet routines.HookWrite u))) e

-- the sum of the bytes so far and these
sum_is : (low high a x : ℕ) → low < 256 → high < 256 → a < 256 → x < 256
    → (low + a + 0) % 256 + 256 * ((high + x + bit (nat_lt 255 (low + a + 0))) % 256) ≡ (low + 256 * high + (a + 256 * x)) % 65536
sum_is low high a x ll lh la lx =
    let small : low + a + 0 < 512 = omega arith in
    let carry : bit (nat_lt 255 (low + a + 0)) ≡ (low + a + 0) / 256 = bit_carry (low + a + 0) small in
    omega arith

pub kept_count : (zp : Bytes) (a b i : ℕ) → i ≢ 12 → i ≢ 13 → write (write zp 12 a) 13 b i ≡ zp i
kept_count zp a b i e f = write_other (write zp 12 a) 13 b i f ∙ write_other zp 12 a i e

-- ---- from the label on

abbrev Exit : State → ℕ → State → Type 0
Exit t j u = (j ≡ next_label) × Writes t u

-- there is one piece alone
abbrev Going : State → ℕ → ℕ → State → Type 0
Going t l n u = (n ≡ 100) × (l ≡ text_label) × (u ≡ t)

module _ (s : RawSetting) (bounds : Bounds) (f : ℕ) (t : State) (stand : Stand s f) (may : MayWrite s bounds t) (rest : List Line) where
  abbrev deepest : ℕ
  deepest = length t.pushed + 3

  abbrev P : State → Type 0
  P u = ⊥

  -- behind the hook with the text told
  abbrev B : ℕ → State → Type 0
  B j u = Exit t j u ⊎ Going t j 0 u

  abbrev text : List ℕ
  text = bytes_at (length_of t) (address_of t) t.mem

  reach : (k : ℕ) → 1 ≤ k → k ≤ 4 → (b : ℕ) → b + k ≡ sp_of t → IsReachable s.place bounds b
  reach k some few b e = let soft = may.soft in let high = may.high in inr (omega arith, omega arith)

  -- the count
  count_go : (low high : ℕ) (u : State) → Below t 0 (with_both t low high) text u → IsBytes u → To s bounds deepest P B (count_on rest) u
  count_go low high u k bytes =
      let soft = may.soft in
      let there : Found t low high = found t low high (omega arith) in
      let e12 = k.zp 12 (omega arith) in
      let e13 = k.zp 13 (omega arith) in
      let e17 = k.zp 17 (omega arith) in
      let e18 = k.zp 18 (omega arith) in
      let e2 = k.zp 2 (omega arith) in
      let total = sum_is (u.zp 12) (u.zp 13) (u.zp 17) (u.zp 18) (bytes.zp 12) (bytes.zp 13) (bytes.zp 17) (bytes.zp 18) in
      let count : (sum_low u % 256) + 256 * (sum_high u % 256) ≡ (zero_word t 12 + length_of t) % 65536 = total ∙ (ap (λ (n : ℕ). (n + 256 * u.zp 13 + (u.zp 17 + 256 * u.zp 18)) % 65536) e12 ∙ (ap (λ (n : ℕ). (t.zp 12 + 256 * n + (u.zp 17 + 256 * u.zp 18)) % 65536) e13
      ∙ (ap (λ (n : ℕ). (t.zp 12 + 256 * t.zp 13 + (n + 256 * u.zp 18)) % 65536) e17 ∙ ap (λ (n : ℕ). (t.zp 12 + 256 * t.zp 13 + (t.zp 17 + 256 * n)) % 65536) e18))) in
      let sp_is = k.sp in
      let pushed = ap (λ (ps : List ℕ). length ps) k.pushed in
      let top = may.high in
      count_at s bounds deepest P B rest u
      (λ n v c e. inl (
        refl,
        record {
          output = k.output;
          count = count;
          own = λ none. (let same : sp_of u ≡ sp_of t = omega arith in same);
          taken = λ some. absurd (some (sym e2 ∙ eq_true _ _ e));
          zp = λ i two twelve thirteen. kept_count u.zp _ _ i twelve thirteen ∙ k.zp i two;
          mem = λ b h. k.mem b ∙ there.other b h;
          pushed = k.pushed;
          input = k.input;
          ended = k.ended;
        },
      ))
      (λ n v c m w e.
      let o : State = with_y (counted u n v c) m w in
      record {
        row = added_row o;
        comes = λ may_in from. add_y_comes s stand.add bounds from o may_in;
        goes_on = refl;
        ready = refl;
        near = All-nil (IsReachable s.place bounds);
        far = All-nil (IsReachable s.place bounds);
        soft = omega arith;
        hard = omega arith;
        high = omega arith;
        data_low = may.data_low;
        follows = λ q r inner. next_at s bounds deepest P B rest q (inl (
          refl,
          (let kept = kept_from (added_row o) o q 2 r refl in
              let q12 = kept 12 (omega arith) in
              let q13 = kept 13 (omega arith) in
              record {
                output = r.output ∙ (append-nil u.output ∙ k.output);
                count = ap (λ (n : ℕ). n + 256 * q.zp 13) q12 ∙ (ap (λ (n : ℕ). (sum_low u % 256) + 256 * n) q13 ∙ count);
                own = λ none. absurd ((eq_false _ _ e) (e2 ∙ none));
                taken = λ some. r.sp ∙ (let same : sp_of u ≡ sp_of t = omega arith in ap (λ (n : ℕ). (n + u.zp 17) % 65536) same ∙ ap (λ (n : ℕ). (sp_of t + n) % 65536) e17);
                zp = λ i two twelve thirteen. kept i two ∙ (kept_count u.zp _ _ i twelve thirteen ∙ k.zp i two);
                mem = λ b h. r.mem b (above_or_below (sp_of o) b) ∙ (k.mem b ∙ there.other b h);
                pushed = r.pushed ∙ k.pushed;
                input = r.input ∙ k.input;
                ended = r.ended;
              }),
        ));
      })

  -- the hook
  hook_go : (low high : ℕ) (u : State) → low + 256 * high ≡ address_of t → Below t 4 (with_both t low high) [] u → To s bounds deepest P B (hook_on rest) u
  hook_go low high u address k =
      let soft = may.soft in
      let sp_is = k.sp in
      let there : Found t low high = found t low high (omega arith) in
      let e17 = k.zp 17 (omega arith) in
      let e18 = k.zp 18 (omega arith) in
      let pushed = ap (λ (ps : List ℕ). length ps) k.pushed in
      let at4 : sp_of u ≡ sp_of t - 4 = omega arith in
      let at3 : sp_of u + 1 ≡ sp_of t - 4 + 1 = omega arith in
      let at2 : sp_of u + 2 ≡ sp_of t - 2 = omega arith in
      let at1 : sp_of u + 2 + 1 ≡ sp_of t - 2 + 1 = omega arith in
      let m4 : u.mem (sp_of u) ≡ low = k.mem (sp_of u) ∙ (ap (with_both t low high) at4 ∙ there.low_is) in
      let m3 : u.mem (sp_of u + 1) ≡ high = k.mem (sp_of u + 1) ∙ (ap (with_both t low high) at3 ∙ there.high_is) in
      let m2 : u.mem (sp_of u + 2) ≡ 1 = k.mem (sp_of u + 2) ∙ (ap (with_both t low high) at2 ∙ there.file_is) in
      let m1 : u.mem (sp_of u + 2 + 1) ≡ 0 = k.mem (sp_of u + 2 + 1) ∙ (ap (with_both t low high) at1 ∙ there.none_is) in
      let file : word_at u.mem (sp_of u + 2) ≡ 1 = omega arith in
      let place : word_at u.mem (sp_of u) ≡ address_of t = omega arith in
      let number : u.zp 17 + 256 * u.zp 18 ≡ length_of t = omega arith in
      let told : bytes_at (u.zp 17 + 256 * u.zp 18) (word_at u.mem (sp_of u)) u.mem ≡ text = ap (λ (v : ℕ). bytes_at v (word_at u.mem (sp_of u)) u.mem) number ∙ (ap (λ (v : ℕ). bytes_at (length_of t) v u.mem) place
      ∙ same_bytes (length_of t) (address_of t) t.mem u.mem (λ j less. k.mem (address_of t + j) ∙ there.other (address_of t + j) (may.apart j less))) in
      hook_at s bounds deepest P B rest u (λ n z.
      let o : State = with_ax u (u.zp 17) (u.zp 18) n z in
      subst (λ (row : Row). Hooks s bounds deepest row (leads_stop s bounds deepest takes P B gone (count_on rest)) o) (sym (told_is o file)) (record {
        goes_on = refl;
        near = all_four (IsReachable s.place bounds) (sp_of u) (sp_of u + 1) (sp_of u + 1 + 1) (sp_of u + 1 + 1 + 1) (reach 4 (omega arith) (omega arith) (sp_of u) (omega arith)) (reach 3 (omega arith) (omega arith) (sp_of u + 1) (omega arith))
            (reach 2 (omega arith) (omega arith) (sp_of u + 1 + 1) (omega arith)) (reach 1 (omega arith) (omega arith) (sp_of u + 1 + 1 + 1) (omega arith));
        far = subst (λ (v : ℕ). All (IsReachable s.place bounds) (range_of v (word_at u.mem (sp_of u)))) (sym number) (subst (λ (v : ℕ). All (IsReachable s.place bounds) (range_of (length_of t) v)) (sym place) may.readable);
        hard = omega arith;
        follows = λ w m inner. let moved : sp_of w ≡ sp_of u + 4 = m.sp in count_go low high w (record {
          sp = omega arith;
          mem = λ b. m.mem b (above_or_below (sp_of u) b) ∙ k.mem b;
          zp = λ i two. kept_from (told_row o) o w 2 m refl i two ∙ k.zp i two;
          pushed = m.pushed ∙ k.pushed;
          input = m.input ∙ k.input;
          output = m.output ∙ (ap (λ (bs : List ℕ). bs ++ bytes_at (u.zp 17 + 256 * u.zp 18) (word_at u.mem (sp_of u)) u.mem) (k.output ∙ append-nil t.output) ∙ ap (λ (bs : List ℕ). t.output ++ bs) told);
          ended = m.ended;
        }) inner;
      }))

  -- a word is pushed
  word_go : (depth : ℕ) (memory : Bytes) (lines : List Line) (u : State) → depth + 2 ≤ 4 → Below t depth memory [] u
      → ((w : State) → Below t (depth + 2) (write (write memory (sp_of t - (depth + 2)) u.regs.a) (sp_of t - (depth + 2) + 1) u.regs.x) [] w → To s bounds deepest P B lines w)
      → Calls s bounds deepest takes routines.PushAx (leads_stop s bounds deepest takes P B gone lines) u
  word_go depth memory lines u few k follows =
      let sp_is = k.sp in
      let soft = may.soft in
      let top = may.high in
      let pushed = ap (λ (ps : List ℕ). length ps) k.pushed in
      record {
        row = pushax_row u;
        comes = λ may_in from. push_word_comes s stand.push bounds from u may_in;
        goes_on = refl;
        ready = refl;
        near = all_two (IsReachable s.place bounds) (sp_of u - 2) (sp_of u - 2 + 1) (reach (depth + 2) (omega arith) (omega arith) (sp_of u - 2) (omega arith)) (reach (depth + 1) (omega arith) (omega arith) (sp_of u - 2 + 1) (omega arith));
        far = All-nil (IsReachable s.place bounds);
        soft = omega arith;
        hard = omega arith;
        high = omega arith;
        data_low = may.data_low;
        follows = λ w m inner. follows w (below_word t depth memory u w (omega arith) k m);
      }

  begins : To s bounds deepest P B (text_on rest) t
  begins =
      let e0 : sp_of t + 0 ≡ sp_of t = omega arith in
      text_at s bounds deepest P B rest t (λ n z.
      word_go 0 t.mem (address_on rest) (with_ax t 1 0 n z) (omega arith)
      (record { sp = e0; mem = λ b. refl; zp = λ i two. refl; pushed = refl; input = refl; output = sym (append-nil t.output); ended = may.running })
      (λ u k. address_at s bounds deepest P B rest u (λ m w.
      word_go 2 (with_file t) (hook_on rest) (with_ax u (u.zp 14) (u.zp 15) m w) (omega arith)
      (record { sp = k.sp; mem = k.mem; zp = k.zp; pushed = k.pushed; input = k.input; output = k.output; ended = k.ended })
      (λ q r. let e14 = k.zp 14 (omega arith) in let e15 = k.zp 15 (omega arith) in hook_go (u.zp 14) (u.zp 15) q (omega arith) r))))

pub texts_are_written : TextsAreWritten
texts_are_written s bounds f t frame frames stand frames_are may =
    let Q : Place → State → Type 0 = λ q u. (q ≡ label_in s f next_label) × (u.frames ≡ t.frames) × Writes t u in
    let used : ℕ = sum_by (λ (f : Frame). 2 + length f.pushed) t.frames in
    let hard = may.hard in
    let free : bounds.hard + (length t.pushed + 3) ≤ 253 - used = omega arith in
    moved_to s bounds Q 100 (label_in s f text_label) (f, settle printf_lines (labelled printf_lines text_label)) t t
    (ap (λ (ls : List Line). let q : Place = (f, settle ls (labelled ls text_label)) in q) stand.printf) refl
    (stops_in s bounds (length t.pushed + 3) takes Q (λ u. ⊥) f printf_lines frame frames used stand.printf free (λ u h bytes. absurd h) refl (Exit t) (Going t)
    (λ k u bytes own e. (ap (λ (j : ℕ). let q : Place = (f, settle printf_lines (labelled printf_lines j)) in q) e.0 ∙ sym (ap (λ (ls : List Line). let q : Place = (f, settle ls (labelled ls next_label)) in q) stand.printf), own.frames ∙ sym frames_are, e.1))
    (λ l n u bytes g. let all = g.0 in record {
      k = 269;
      ahead = [];
      less = 0;
      stands = ap (λ (j : ℕ). settle printf_lines (labelled printf_lines j)) g.1;
      fewer = omega arith;
      weighs = omega arith;
      leads = subst (λ (u : State). leads_stop s bounds (length t.pushed + 3) takes (λ u. ⊥) (λ j u. Exit t j u ⊎ Going t j 0 u) gone (behind 269 printf_lines) None u) (sym g.2)
          (begins s bounds f t stand may (behind 291 printf_lines));
    })
    100 text_label 100 t (omega arith) may.bytes (record { frames = frames_are; ended = may.running; used = refl }) (refl, refl, refl))
