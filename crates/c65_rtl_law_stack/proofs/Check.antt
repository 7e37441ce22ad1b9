-- `stkchk`: three branches to the end of the run, and a return.
use Rattle.std.proofs.Common.{◌≡◌, ℕ, ◌+◌, ◌-◌, ◌*◌, ◌%◌, ◌/◌, ◌<◌, ◌≤◌, Bool, true, false, List, [], ◌∷◌, ◌++◌, Some, None, slice_get, length, refl, sym, ap, ◌∙◌, arith}
use Rattle.std.specs.Prelude.{◌||◌, nat_lt, sum_by}
use Rattle.std.proofs.lemmas.List.{append-nil}
use Rattle.std.proofs.lemmas.List.Sums.{sum_by-cons}
use Rattle.std.proofs.lemmas.List.Elements.{All-nil}
use Rattle.c65_mach.specs.declared.rows.Op.TheVariants.{Bcc, Cmp, Lda, Ldx, Rts, Sbc, Sec, Sta, Stx, Tsx, Txa}
use Rattle.c65_mach.specs.declared.rows.Mode.TheVariants.{Immediate}
use Rattle.c65_mach.specs.Step.{is_not, bit, with_a}
use Rattle.c65_code.specs.declared.parts.Part.{Part}
use Rattle.c65_code.specs.declared.parts.Part.TheVariants.{A, X, Y, Zp, N, V, Z, C}
use Rattle.c65_code.specs.declared.line.Line.{Line}
use Rattle.c65_code.specs.declared.line.Line.TheVariants.{Label}
use Rattle.c65_code.specs.declared.line.Operand.TheVariants.{Byte}
use Rattle.c65_code.specs.declared.routine.Routine.{Routine}
use Rattle.c65_code.specs.declared.routine.Routine.TheVariants as routines
use Rattle.c65_code.specs.LineState.{Place, State, Frame, write, sp_of, s_of, zero_word, Same, IsBytes}
use Rattle.c65_code.specs.Parts.{no_parts, has_part}
use Rattle.c65_code.specs.Forms.{Plain, Run}
use Rattle.c65_code.specs.Moves.{settle, labelled}
use Rattle.c65_code.specs.Rows.{Row, row_by, costing, is_too_deep, check_row}
use Rattle.c65_code.specs.RawMachine.{RawSetting, Bounds, RawComes, here, HasDone, called, entry_of, MayRun, Runs, MeetsRow, reach_of}
use Rattle.c65_rtl.specs.Assembly.{sp, tmp1, tmp2, tmp3, tmp4, implied, value, zero_page, branch, call}
use Rattle.c65_rtl.specs.Routines.{lines_of}
use Rattle.c65_rtl.proofs.Ways.{Ends, IsAt, or_none, whole_at, on_form, moved_to}
use Rattle.c65_rtl.proofs.Meeting.{lt_true, lt_false, not_true, not_false, written_outside, written_above}
use Rattle.c65_rtl.proofs.Pushes.{meets_by}
use Rattle.c65_rtl.proofs.UnaryWords.{bit_carry}
use Rattle.c65_rtl.proofs.Widenings.{below_is, not_below}
use Rattle.c65_rtl_law_walks.proofs.Walks.{Takes, called_bytes}
use Rattle.c65_rtl_law_walks.proofs.Turning.{leads_turn, turn_weight, turning}

-- it calls no routine
abbrev takes : Routine → Takes
takes r = record { below = 0; pushed = 0; weight = 0 }

abbrev soft_on : List Line → List Line
soft_on rest = zero_page Sta tmp1 ∷ zero_page Lda sp ∷ implied Sec ∷ zero_page Sbc tmp3 ∷ zero_page Sta tmp3 ∷ zero_page Lda (sp + 1) ∷ zero_page Sbc tmp4 ∷ branch Bcc 0 ∷ rest

abbrev bound_on : List Line → List Line
bound_on rest = zero_page Sta tmp4 ∷ zero_page Lda tmp3 ∷ value Cmp 0x30 ∷ zero_page Lda tmp4 ∷ value Sbc 0xF8 ∷ branch Bcc 0 ∷ rest

abbrev hard_on : List Line → List Line
hard_on rest = zero_page Stx tmp2 ∷ implied Tsx ∷ implied Txa ∷ zero_page Ldx tmp2 ∷ value Cmp 29 ∷ branch Bcc 0 ∷ rest

abbrev back_on : List Line → List Line
back_on rest = zero_page Lda tmp1 ∷ implied Rts ∷ rest

abbrev stop : List Line
stop = Label 0 ∷ value Lda 240 ∷ call routines.HookExit ∷ implied Rts ∷ []

abbrev check_lines : List Line
check_lines = soft_on (bound_on (hard_on (back_on stop)))

abbrev Leads : RawSetting → Bounds → (State → Type 0) → (ℕ → State → Type 0) → List Line → State → Type 0
Leads s bounds P B lines u = leads_turn s bounds 0 takes P B (0 ∷ []) lines None u

-- sp less the number in tmp3 and tmp4, with its carry
abbrev less_low : State → ℕ
less_low u = u.zp 0 + (255 - u.zp 18) + 1

abbrev less_high : State → ℕ
less_high u = u.zp 1 + (255 - u.zp 19) + bit (nat_lt 255 (less_low u))

abbrev lessened : State → Bool → Bool → Bool → State
lessened u n v z = record u { regs = record u.regs { a = less_high u % 256; n = n; v = v; z = z; c = nat_lt 255 (less_high u) }; zp = write (write u.zp 16 u.regs.a) 18 (less_low u % 256) }

soft_at : (s : RawSetting) (bounds : Bounds) (P : State → Type 0) (B : ℕ → State → Type 0) (rest : List Line) (u : State)
    → ((n v z : Bool) → is_not (nat_lt 255 (less_high u)) ≡ true → B 0 (lessened u n v z)) → ((n v z : Bool) → is_not (nat_lt 255 (less_high u)) ≡ false → Leads s bounds P B rest (lessened u n v z))
    → Leads s bounds P B (soft_on rest) u
unfolding leads_turn
soft_at s bounds P B rest u few follows = elim [ true ↦ λ e. few _ _ _ e | false ↦ λ e. follows _ _ _ e ]

-- the carry of that less $F830, whose high byte is in A
abbrev over : State → ℕ
over u = u.regs.a + 7 + bit (nat_lt 48 (u.zp 18 + 1))

abbrev bounded : State → Bool → Bool → Bool → State
bounded u n v z = record u { regs = record u.regs { a = over u % 256; n = n; v = v; z = z; c = nat_lt 255 (over u) }; zp = write u.zp 19 u.regs.a }

bound_at : (s : RawSetting) (bounds : Bounds) (P : State → Type 0) (B : ℕ → State → Type 0) (rest : List Line) (u : State)
    → ((n v z : Bool) → is_not (nat_lt 255 (over u)) ≡ true → B 0 (bounded u n v z)) → ((n v z : Bool) → is_not (nat_lt 255 (over u)) ≡ false → Leads s bounds P B rest (bounded u n v z))
    → Leads s bounds P B (bound_on rest) u
unfolding leads_turn
bound_at s bounds P B rest u few follows = elim [ true ↦ λ e. few _ _ _ e | false ↦ λ e. follows _ _ _ e ]

-- S in A
abbrev measured : State → Bool → Bool → State
measured u n z = record u { regs = record u.regs { a = s_of u; n = n; z = z; c = nat_lt 29 (s_of u + 1) }; zp = write u.zp 17 u.regs.x }

hard_at : (s : RawSetting) (bounds : Bounds) (P : State → Type 0) (B : ℕ → State → Type 0) (rest : List Line) (u : State)
    → ((n z : Bool) → is_not (nat_lt 29 (s_of u + 1)) ≡ true → B 0 (measured u n z)) → ((n z : Bool) → is_not (nat_lt 29 (s_of u + 1)) ≡ false → Leads s bounds P B rest (measured u n z))
    → Leads s bounds P B (hard_on rest) u
unfolding leads_turn
hard_at s bounds P B rest u few follows = elim [ true ↦ λ e. few _ _ e | false ↦ λ e. follows _ _ e ]

back_at : (s : RawSetting) (bounds : Bounds) (P : State → Type 0) (B : ℕ → State → Type 0) (rest : List Line) (u : State)
    → ((n z : Bool) → P (record u { regs = record u.regs { a = u.zp 16; n = n; z = z }; pushed = [] })) → Leads s bounds P B (back_on rest) (record u { pushed = [] })
unfolding leads_turn
back_at s bounds P B rest u follows = follows _ _

-- ---- what the carries tell

soft_few : (l h w v : ℕ) → l < 256 → h < 256 → w < 256 → v < 256 → is_not (nat_lt 255 (h + (255 - v) + bit (nat_lt 255 (l + (255 - w) + 1)))) ≡ true → l + 256 * h < w + 256 * v
soft_few l h w v ll lh lw lv e =
    let small : l + (255 - w) + 1 < 512 = omega arith in
    let carry : bit (nat_lt 255 (l + (255 - w) + 1)) ≡ (l + (255 - w) + 1) / 256 = bit_carry (l + (255 - w) + 1) small in
    let none = lt_false 255 (h + (255 - v) + bit (nat_lt 255 (l + (255 - w) + 1))) (not_true _ e) in
    omega arith

record Left (l h w v low high : ℕ) : Type 0 where
  pub enough : w + 256 * v ≤ l + 256 * h
  pub difference : low + 256 * high + (w + 256 * v) ≡ l + 256 * h

soft_left : (l h w v : ℕ) → l < 256 → h < 256 → w < 256 → v < 256 → is_not (nat_lt 255 (h + (255 - v) + bit (nat_lt 255 (l + (255 - w) + 1)))) ≡ false
    → Left l h w v ((l + (255 - w) + 1) % 256) ((h + (255 - v) + bit (nat_lt 255 (l + (255 - w) + 1))) % 256)
soft_left l h w v ll lh lw lv e =
    let small : l + (255 - w) + 1 < 512 = omega arith in
    let carry : bit (nat_lt 255 (l + (255 - w) + 1)) ≡ (l + (255 - w) + 1) / 256 = bit_carry (l + (255 - w) + 1) small in
    let some = lt_true 255 (h + (255 - v) + bit (nat_lt 255 (l + (255 - w) + 1))) (not_false _ e) in
    record { enough = omega arith; difference = omega arith }

bound_few : (low high : ℕ) (c : Bool) → nat_lt 48 (low + 1) ≡ c → low < 256 → is_not (nat_lt 255 (high + 7 + bit c)) ≡ true → low + 256 * high < 63536
bound_few low high true e byte h =
    let none : high + 7 + 1 ≤ 255 = lt_false 255 (high + 7 + 1) (not_true _ h) in
    omega arith
bound_few low high false e byte h =
    let none : high + 7 + 0 ≤ 255 = lt_false 255 (high + 7 + 0) (not_true _ h) in
    let under = lt_false 48 (low + 1) e in
    omega arith

bound_left : (low high : ℕ) (c : Bool) → nat_lt 48 (low + 1) ≡ c → is_not (nat_lt 255 (high + 7 + bit c)) ≡ false → 63536 ≤ low + 256 * high
bound_left low high true e h =
    let some : 255 < high + 7 + 1 = lt_true 255 (high + 7 + 1) (not_false _ h) in
    let over = lt_true 48 (low + 1) e in
    omega arith
bound_left low high false e h =
    let some : 255 < high + 7 + 0 = lt_true 255 (high + 7 + 0) (not_false _ h) in
    omega arith

or_left : (a b : Bool) → a ≡ true → (a || b) ≡ true
or_left true b e = refl
or_left false b e = cc

or_right : (a b : Bool) → b ≡ true → (a || b) ≡ true
or_right true b e = refl
or_right false b e = e

-- ---- the row

abbrev base : State → Row
base t = costing 256 (row_by routines.StkChk t)

abbrev noted : State → ℕ → ℕ → List (ℕ × ℕ)
noted t low high = (16, t.regs.a) ∷ (18, low) ∷ (19, high) ∷ (17, t.regs.x) ∷ []

check_ends : (t u : State) (low high : ℕ) → t.ended ≡ None → u.regs.a ≡ t.regs.a → u.regs.x ≡ t.regs.x → u.regs.y ≡ t.regs.y → ((i : ℕ) → u.zp i ≡ write (write (write (write t.zp 16 t.regs.a) 18 low) 19 high) 17 t.regs.x i)
    → ((b : ℕ) → u.mem b ≡ t.mem b) → u.input ≡ t.input → u.output ≡ t.output → u.ended ≡ t.ended → Ends (base t) t u
check_ends t u low high running a x y zp mem input output ended = record {
  sp = (let e0 : u.zp 0 ≡ t.zp 0 = zp 0 in let e1 : u.zp 1 ≡ t.zp 1 = zp 1 in omega arith);
  a = tt;
  x = tt;
  sreg = tt;
  pointers = tt;
  bank = tt;
  kept = kept;
  high = λ i above. sym (zp i ∙ written_above (base t).changes (noted t low high) t.zp i refl above);
  mem = λ b h. mem b;
  pushed = refl;
  frames = refl;
  input = input;
  output = output ∙ sym (append-nil t.output);
  ended = ended ∙ running;
}
  where
    kept : (p : Part) → has_part (base t).changes p ≡ false → Same p t (record u { pushed = t.pushed; frames = t.frames })
    kept A h = sym a
    kept X h = sym x
    kept Y h = sym y
    kept (Zp i) h = sym (zp i ∙ written_outside (base t).changes (noted t low high) t.zp i refl h)
    kept N h = cc
    kept V h = cc
    kept Z h = cc
    kept C h = cc

-- where the lines lead: to the end of the run where too little is left, and to the return where not
module _ (s : RawSetting) (bounds : Bounds) (back : Place) (t : State) (bytes : IsBytes t) (running : t.ended ≡ None) (fits : 2 ≤ s_of t) (P : State → Type 0) (B : ℕ → State → Type 0)
    (few : is_too_deep t ≡ true → (u : State) → u.pushed ≡ [] → u.output ≡ t.output → B 0 u) (enough : is_too_deep t ≡ false → (u : State) → Ends (base t) t u → P u) where
  abbrev asked : ℕ
  asked = t.zp 18 + 256 * t.zp 19

  abbrev left_low : ℕ
  left_low = (t.zp 0 + (255 - t.zp 18) + 1) % 256

  abbrev left_high : ℕ
  left_high = less_high t % 256

  used : s_of (called back t) + 2 ≡ s_of t
  used =
      let sum : sum_by (λ (f : Frame). 2 + length f.pushed) (called back t).frames ≡ 2 + length t.pushed + sum_by (λ (f : Frame). 2 + length f.pushed) t.frames = sum_by-cons (λ (f : Frame). 2 + length f.pushed) (record { back = back; pushed = t.pushed; gives = no_parts }) t.frames in
      omega arith

  soft_is_low : sp_of t < 63536 + asked → is_too_deep t ≡ true
  soft_is_low less = or_left (nat_lt (sp_of t) (63536 + zero_word t 18)) (nat_lt (s_of t) 31) (below_is (sp_of t) (63536 + zero_word t 18) less)

  hard_is_low : s_of t < 31 → is_too_deep t ≡ true
  hard_is_low less = or_right (nat_lt (sp_of t) (63536 + zero_word t 18)) (nat_lt (s_of t) 31) (below_is (s_of t) 31 less)

  both_are_left : 63536 + asked ≤ sp_of t → 31 ≤ s_of t → is_too_deep t ≡ false
  both_are_left soft hard = or_none (nat_lt (sp_of t) (63536 + zero_word t 18)) (nat_lt (s_of t) 31) (not_below (sp_of t) (63536 + zero_word t 18) soft) (not_below (s_of t) 31 hard)

  pub begins : Leads s bounds P B check_lines (called back t)
  begins =
      let l0 = bytes.zp 0 in
      let l1 = bytes.zp 1 in
      let w0 = bytes.zp 18 in
      let w1 = bytes.zp 19 in
      soft_at s bounds P B (bound_on (hard_on (back_on stop))) (called back t)
      (λ n v z e. few (soft_is_low (let less = soft_few (t.zp 0) (t.zp 1) (t.zp 18) (t.zp 19) l0 l1 w0 w1 e in omega arith)) _ refl refl)
      (λ n v z e.
      let d : Left (t.zp 0) (t.zp 1) (t.zp 18) (t.zp 19) left_low left_high = soft_left (t.zp 0) (t.zp 1) (t.zp 18) (t.zp 19) l0 l1 w0 w1 e in
      let difference = d.difference in
      let small : left_low < 256 = omega arith in
      bound_at s bounds P B (hard_on (back_on stop)) (lessened (called back t) n v z)
      (λ i j k e. few (soft_is_low (let less = bound_few left_low left_high _ refl small e in omega arith)) _ refl refl)
      (λ i j k e.
      let more = bound_left left_low left_high _ refl e in
      let here_on : State = bounded (lessened (called back t) n v z) i j k in
      hard_at s bounds P B (back_on stop) here_on
      (λ o q e. let low = lt_false 29 (s_of (called back t) + 1) (not_true _ e) in let two = used in few (hard_is_low (omega arith)) (measured here_on o q) refl refl)
      (λ o q e.
      let high = lt_true 29 (s_of (called back t) + 1) (not_false _ e) in
      let two = used in
      let u : State = measured here_on o q in
      back_at s bounds P B stop u (λ x y.
      enough (both_are_left (omega arith) (omega arith)) (record u { regs = record u.regs { a = u.zp 16; n = x; z = y }; pushed = [] })
      (check_ends t (record u { regs = record u.regs { a = u.zp 16; n = x; z = y }; pushed = [] }) left_low left_high running refl refl refl (λ i. refl) (λ b. refl) refl refl refl)))))

-- the lines from the call on, where it is known what follows at the end of the run and at the return
comes : (s : RawSetting) → s.lines (s.routine routines.StkChk) ≡ check_lines → (bounds : Bounds) (back : Place) (t : State) → IsBytes t → t.ended ≡ None → 29 ≤ s_of t → bounds.hard + 26 ≤ s_of t
    → (Q : Place → State → Type 0) (P : State → Type 0) (B : ℕ → State → Type 0) → ((u : State) → P u → IsBytes (record u { pushed = t.pushed; frames = t.frames }) → Q back (record u { pushed = t.pushed; frames = t.frames }))
    → ((k : ℕ) (u : State) → u.ended ≡ None → B k u → (u.pushed ≡ [] → bounds.hard + 2 ≤ s_of u) → RawComes s bounds Q 3 (s.routine routines.StkChk, settle check_lines (labelled check_lines k)) u)
    → (is_too_deep t ≡ true → (u : State) → u.pushed ≡ [] → u.output ≡ t.output → B 0 u) → (is_too_deep t ≡ false → (u : State) → Ends (base t) t u → P u)
    → RawComes s bounds Q (turn_weight takes 3 (0 ∷ []) check_lines) (entry_of s (s.routine routines.StkChk)) (called back t)
comes s has bounds back t bytes running deep room Q P B ends again few enough =
    let f : ℕ = s.routine routines.StkChk in
    let frame : Frame = record { back = back; pushed = t.pushed; gives = no_parts } in
    let used : ℕ = sum_by (λ (f : Frame). 2 + length f.pushed) (frame ∷ t.frames) in
    let sum : sum_by (λ (f : Frame). 2 + length f.pushed) (frame ∷ t.frames) ≡ 2 + length t.pushed + sum_by (λ (f : Frame). 2 + length f.pushed) t.frames = sum_by-cons (λ (f : Frame). 2 + length f.pushed) frame t.frames in
    let all = whole_at check_lines in
    let at : IsAt check_lines 0 check_lines (0 ∷ []) = record { get = all.get; settles = all.settles; labels = λ l h. all.labels l refl } in
    moved_to s bounds Q (turn_weight takes 3 (0 ∷ []) check_lines) (entry_of s f) (f, settle check_lines 0) (called back t) (called back t)
    (ap (λ (ls : List Line). let q : Place = (f, settle ls 0) in q) has) refl
    (turning s bounds 0 takes Q P f check_lines frame t.frames used has (omega arith) ends B 3
    (λ k u bytes own h. again k u own.ended h (λ none. let calls = own.used in let no_bytes = ap (λ (ps : List ℕ). length ps) none in omega arith))
    check_lines 0 (0 ∷ []) None (called back t) at tt (called_bytes back t bytes) (record { frames = refl; ended = running; used = refl })
    (begins s bounds back t bytes running (omega arith) P B few enough))

-- the hook at the end
abbrev IsStopped : State → ℕ → State → Type 0
IsStopped t k u = (k ≡ 0) × (u.pushed ≡ []) × (u.output ≡ t.output)

stops : (s : RawSetting) → s.lines (s.routine routines.StkChk) ≡ check_lines → (bounds : Bounds) (back : Place) (t : State) (k : ℕ) (u : State) → u.ended ≡ None → IsStopped t k u → (u.pushed ≡ [] → bounds.hard + 2 ≤ s_of u)
    → RawComes s bounds (HasDone (Some 240) (check_row true (base t)) back t) 3 (s.routine routines.StkChk, settle check_lines (labelled check_lines k)) u
stops s has bounds back t k u running is room =
    let f : ℕ = s.routine routines.StkChk in
    let Q : Place → State → Type 0 = HasDone (Some 240) (check_row true (base t)) back t in
    let to : State = record u { regs = with_a 240 u.regs } in
    moved_to s bounds Q 3 (f, settle check_lines (labelled check_lines k)) (f, 23) u u (ap (λ (k : ℕ). let q : Place = (f, settle check_lines (labelled check_lines k)) in q) is.0) refl
    (on_form s bounds Q (value Lda 240) (Plain Lda Immediate (Byte 240)) 2 3 (f, 23) u refl (ap (λ (ls : List Line). slice_get ls 23) has) running tt (omega arith)
    (λ q w g bytes. moved_to s bounds Q 2 q (f, 24) w to (g.0 ∙ ap (λ (ls : List Line). let q' : Place = (f, settle ls 24) in q') has) g.1
    (on_form s bounds Q (call routines.HookExit) (Run routines.HookExit) 0 2 (f, 24) to refl (ap (λ (ls : List Line). slice_get ls 24) has) running (room is.1, All-nil _, All-nil _) (omega arith)
    (λ q w g bytes. let m = g.1 in here (m.ended, m.output ∙ ap (λ (o : List ℕ). o ++ []) is.2)))))

check_runs : (s : RawSetting) → s.lines (s.routine routines.StkChk) ≡ check_lines → (back : Place) (t : State) (deep : Bool) → is_too_deep t ≡ deep → MayRun s (check_row deep (base t)) t → Runs s routines.StkChk (check_row deep (base t)) back t
check_runs s has back t true e may =
    let hard = may.room.hard in
    record {
      weight = turn_weight takes 3 (0 ∷ []) check_lines;
      within = omega arith;
      comes = comes s has (reach_of t) back t may.bytes may.running hard (omega arith) (HasDone (Some 240) (check_row true (base t)) back t) (λ u. ⊥) (IsStopped t) (λ u h bytes. absurd h) (stops s has (reach_of t) back t)
          (λ _ u none same. (refl, none, same)) (λ other u h. absurd (let f : true ≡ false = sym e ∙ other in cc));
    }
check_runs s has back t false e may =
    let hard = may.room.hard in
    record {
      weight = turn_weight takes 3 (0 ∷ []) check_lines;
      within = omega arith;
      comes = comes s has (reach_of t) back t may.bytes may.running hard (omega arith) (HasDone None (base t) back t) (Ends (base t) t) (λ k u. ⊥) (λ u m bytes. (refl, m, bytes)) (λ k u running h room. absurd h)
          (λ other u none same. absurd (let f : false ≡ true = sym e ∙ other in cc)) (λ _ u m. m);
    }

pub stkchk : (s : RawSetting) → s.lines (s.routine routines.StkChk) ≡ lines_of routines.StkChk → MeetsRow s routines.StkChk
stkchk s has = meets_by s routines.StkChk (λ t. check_row (is_too_deep t) (base t)) (λ t. refl) (λ back t may. check_runs s has back t (is_too_deep t) refl may)
