-- `putchar` (C90 7.9.7.9)
use Rattle.std.proofs.Common.{◌≡◌, ◌≢◌, ℕ, ◌+◌, ◌-◌, ◌*◌, ◌<◌, ◌≤◌, ◌⊎◌, Bool, List, [], ◌∷◌, ◌++◌, length, refl, sym, ap, subst, ◌∙◌, arith}
use Rattle.std.specs.Prelude.{◌==◌, if◌then◌else◌}
use Rattle.std.proofs.lemmas.List.{append-nil}
use Rattle.std.proofs.lemmas.List.Elements.{All-nil}
use Rattle.c65_base.specs.declared.library.Library.TheVariants.{Putchar}
use Rattle.c65_code.specs.declared.routine.Routine.TheVariants as routines
use Rattle.c65_code.specs.declared.routine.Width.TheVariants.{Ax}
use Rattle.c65_code.specs.declared.line.Line.{Line}
use Rattle.c65_code.specs.LineState.{Place, State, Bytes, write, word_at, sp_of, ax_of, IsBytes}
use Rattle.c65_code.specs.Texts.{bytes_at, range_of}
use Rattle.c65_code.specs.Rows.{Row, Meets, row_by, giving, popping, costing}
use Rattle.c65_code.specs.RawMachine.{RawSetting, Bounds, IsReachable, called, quiet, write_hook}
use Rattle.c65_rtl.specs.Assembly.{call}
use Rattle.c65_rtl.proofs.Ways.{Ends}
use Rattle.c65_rtl.proofs.Meeting.{write_other, ends_by}
use Rattle.c65_rtl.proofs.Loads.{word_low}
use Rattle.c65_rtl.proofs.Pushes.{write_same}
use Rattle.c65_rtl_law_walks.proofs.Walks.{Calls, Hooks, leads_in, weight_in, walks_calling}
use Rattle.c65_rtl_law_walks.proofs.Meets.{met_within}
use Rattle.c65_rtl_law_inner.proofs.Straight.{ComesIn, meets_loud}
use Rattle.c65_rtl_law_inner.proofs.Kept.{kept_from}
use Rattle.c65_rtl_law_inner.proofs.Pops.{above_or_below, popax_row, pop_word_comes}
use Rattle.c65_rtl_law_inner.proofs.Beside.{outside, values, rewritten}
use Rattle.c65_rtl_law_inner.proofs.Pushes.{pushax_row}
use Rattle.c65_rtl_law_library.specs.Rows.{Holds, CharactersAreWritten}
use Rattle.c65_rtl_law_library.proofs.Deep.{Deep, open_below, all_one, all_two, all_four}
use Rattle.c65_rtl_law_library.proofs.Steps.{takes, Forward, one_on, one, one_at, pointed_on, pointing, pointed_at, noted_on, noted, noted_at, end_on, end_at, apart, spoken_of, Within, word_calls}

abbrev written_lines : List Line
written_lines = call routines.PopAx ∷ end_on []

abbrev hook_lines : List Line
hook_lines = one_on (call routines.HookWrite ∷ written_lines)

abbrev text_lines : List Line
text_lines = pointed_on (call routines.PushAx ∷ hook_lines)

abbrev count_lines : List Line
count_lines = noted_on (one_on (call routines.PushAx ∷ text_lines))

abbrev putchar_lines : List Line
putchar_lines = call routines.PushAx ∷ count_lines

pop_word_at : (s : RawSetting) (bounds : Bounds) (P : State → Type 0) (rest : List Line) (u : State) → Calls s bounds 3 takes routines.PopAx (leads_in s bounds 3 takes P rest) u → Forward s bounds P (call routines.PopAx ∷ rest) u
unfolding leads_in
pop_word_at s bounds P rest u h = h

-- memory once all is pushed: the word, the count and the descriptor, which are both 1, and the address of the word
abbrev with_word : State → Bytes
with_word t = write (write t.mem (sp_of t - 2) t.regs.a) (sp_of t - 2 + 1) t.regs.x

abbrev with_one : State → Bytes
with_one t = write (write (with_word t) (sp_of t - 4) 1) (sp_of t - 4 + 1) 0

abbrev with_all : State → ℕ → ℕ → Bytes
with_all t low high = write (write (with_one t) (sp_of t - 6) low) (sp_of t - 6 + 1) high

-- what is found there
record Found (t : State) (low high : ℕ) : Type 0 where
  low_is : with_all t low high (sp_of t - 6) ≡ low
  high_is : with_all t low high (sp_of t - 6 + 1) ≡ high
  file_is : with_all t low high (sp_of t - 4) ≡ 1
  none_is : with_all t low high (sp_of t - 4 + 1) ≡ 0
  byte_is : with_all t low high (sp_of t - 2) ≡ t.regs.a
  other : (b : ℕ) → (b + 64 < sp_of t) ⊎ (sp_of t ≤ b) → with_all t low high b ≡ t.mem b

found : (t : State) (low high : ℕ) → 6 ≤ sp_of t → Found t low high
found t low high fits =
    let a1 : ℕ = sp_of t - 2 + 1 in
    let a2 : ℕ = sp_of t - 2 in
    let a3 : ℕ = sp_of t - 4 + 1 in
    let a4 : ℕ = sp_of t - 4 in
    let a5 : ℕ = sp_of t - 6 + 1 in
    let a6 : ℕ = sp_of t - 6 in
    let n65 : a6 ≢ a5 = omega arith in
    let n45 : a4 ≢ a5 = omega arith in
    let n46 : a4 ≢ a6 = omega arith in
    let n43 : a4 ≢ a3 = omega arith in
    let n35 : a3 ≢ a5 = omega arith in
    let n36 : a3 ≢ a6 = omega arith in
    let n25 : a2 ≢ a5 = omega arith in
    let n26 : a2 ≢ a6 = omega arith in
    let n23 : a2 ≢ a3 = omega arith in
    let n24 : a2 ≢ a4 = omega arith in
    let n21 : a2 ≢ a1 = omega arith in
    let m1 : Bytes = write t.mem a2 t.regs.a in
    let m2 : Bytes = with_word t in
    let m3 : Bytes = write m2 a4 1 in
    let m4 : Bytes = with_one t in
    let m5 : Bytes = write m4 a6 low in
    record {
      low_is = write_other m5 a5 high a6 n65 ∙ write_same m4 a6 low a6 refl;
      high_is = write_same m5 a5 high a5 refl;
      file_is = write_other m5 a5 high a4 n45 ∙ (write_other m4 a6 low a4 n46 ∙ (write_other m3 a3 0 a4 n43 ∙ write_same m2 a4 1 a4 refl));
      none_is = write_other m5 a5 high a3 n35 ∙ (write_other m4 a6 low a3 n36 ∙ write_same m3 a3 0 a3 refl);
      byte_is = write_other m5 a5 high a2 n25 ∙ (write_other m4 a6 low a2 n26 ∙ (write_other m3 a3 0 a2 n23 ∙ (write_other m2 a4 1 a2 n24 ∙ (write_other m1 a1 t.regs.x a2 n21 ∙ write_same t.mem a2 t.regs.a a2 refl))));
      other = λ b h. let far = apart t b h in write_other m5 a5 high b (far a5 (omega arith) (omega arith)) ∙ (write_other m4 a6 low b (far a6 (omega arith) (omega arith))
          ∙ (write_other m3 a3 0 b (far a3 (omega arith) (omega arith)) ∙ (write_other m2 a4 1 b (far a4 (omega arith) (omega arith))
          ∙ (write_other m1 a1 t.regs.x b (far a1 (omega arith) (omega arith)) ∙ write_other t.mem a2 t.regs.a b (far a2 (omega arith) (omega arith))))));
    }

-- popped: the word at the sp
deep_popped : (t : State) (memory : Bytes) (unread told : List ℕ) (u w : State) → Deep t 2 memory unread told u → Meets (popax_row u) u w → Deep t 0 memory unread told w
deep_popped t memory unread told u w k m =
    let sp_is = k.sp in
    let moved : sp_of w ≡ sp_of u + 2 = m.sp in
    record {
      sp = omega arith;
      mem = λ b. m.mem b (above_or_below (sp_of u) b) ∙ k.mem b;
      rest = λ i two e8 e9. kept_from (popax_row u) u w 2 m refl i two ∙ k.rest i two e8 e9;
      pushed = m.pushed ∙ k.pushed;
      input = m.input ∙ k.input;
      output = m.output ∙ (append-nil u.output ∙ k.output);
      ended = m.ended;
    }

abbrev write_row : State → Row
write_row u = write_hook u (popping 4 u (quiet routines.HookWrite u))

write_at : (s : RawSetting) (bounds : Bounds) (P : State → Type 0) (rest : List Line) (u : State) → Hooks s bounds 3 (write_row u) (leads_in s bounds 3 takes P rest) u → Forward s bounds P (call routines.HookWrite ∷ rest) u
unfolding leads_in
write_at s bounds P rest u h = h

-- the hook writes the byte that was pushed first
abbrev told_row : State → Row
told_row u = record (giving Ax (ax_of u) (popping 4 u (quiet routines.HookWrite u))) { out = bytes_at (ax_of u) (word_at u.mem (sp_of u)) u.mem; far = range_of (ax_of u) (word_at u.mem (sp_of u)) }

told_is : (u : State) → word_at u.mem (sp_of u + 2) ≡ 1 → write_row u ≡ told_row u
told_is u e = ap (λ (k : ℕ). if k == 1 then told_row u else giving Ax 65535 (popping 4 u (quiet routines.HookWrite u))) e

abbrev pub putchar_row : State → Row
putchar_row t = record (giving Ax t.regs.a (costing 256 (row_by (routines.Library Putchar) t))) { out = t.regs.a ∷ [] }

-- the row, from the state behind the pop
putchar_ends : (t u : State) (low high : ℕ) (n z : Bool) → 6 ≤ sp_of t → IsBytes t → IsBytes u → u.regs.a ≡ t.regs.a → Deep t 0 (with_all t low high) t.input (t.regs.a ∷ []) u → Ends (putchar_row t) t (record u { regs = record u.regs { x = 0; n = n; z = z } })
putchar_ends t u low high n z fits before bytes a_is k =
    let sp_is = k.sp in
    let t0 = before.zp 0 in
    let t1 = before.zp 1 in
    let u0 = bytes.zp 0 in
    let u1 = bytes.zp 1 in
    let byte = before.a in
    let there : Found t low high = found t low high fits in
    ends_by (putchar_row t) t (record u { regs = record u.regs { x = 0; n = n; z = z } }) (values u.zp (8 ∷ 9 ∷ [])) (record {
      zp = λ i two. rewritten t.zp u.zp (8 ∷ 9 ∷ []) i (λ out. k.rest i two (outside (8 ∷ 9 ∷ []) 8 i refl out) (outside (8 ∷ 9 ∷ []) 9 i refl out));
      fit = refl;
      small = (refl, refl, refl, refl, refl);
      low_kept = (let e : t.zp 0 ≡ u.zp 0 = omega arith in e);
      high_kept = (let e : t.zp 1 ≡ u.zp 1 = omega arith in e);
      a_kept = tt;
      x_kept = tt;
      sp = omega arith;
      a = omega arith;
      x = omega arith;
      sreg = tt;
      pointers = tt;
      bank = tt;
      mem = λ b h. k.mem b ∙ there.other b (spoken_of t b h);
      input = k.input;
      output = k.output;
      ended = k.ended;
    })

module _ (s : RawSetting) (bounds : Bounds) (back : Place) (t : State) (word_has : Holds s routines.PushAx) (pop_has : Holds s routines.PopAx) (within : Within s bounds t) where
  abbrev P : State → Type 0
  P = Ends (putchar_row t) t

  fits : 6 ≤ sp_of t
  fits = let soft = within.soft in omega arith

  -- behind the hook: the word is popped again
  popped_at : (low high : ℕ) (u : State) → IsBytes u → Deep t 2 (with_all t low high) t.input (t.regs.a ∷ []) u → Forward s bounds P written_lines u
  popped_at low high u bytes k =
      let sp_is = k.sp in
      let soft = within.soft in
      let high_sp = within.high in
      let there : Found t low high = found t low high fits in
      let at2 : sp_of u ≡ sp_of t - 2 = omega arith in
      let at1 : sp_of u + 1 ≡ sp_of t - 1 = omega arith in
      let byte : u.mem (sp_of u) ≡ t.regs.a = k.mem (sp_of u) ∙ (ap (with_all t low high) at2 ∙ there.byte_is) in
      let pushed = ap (λ (ps : List ℕ). length ps) k.pushed in
      pop_word_at s bounds P (end_on []) u (record {
        row = popax_row u;
        comes = λ may_in from. pop_word_comes s pop_has bounds from u may_in;
        goes_on = refl;
        ready = refl;
        near = all_two (IsReachable s.place bounds) (sp_of u) (sp_of u + 1) (subst (λ (b : ℕ). IsReachable s.place bounds b) (sym at2) (open_below s.place bounds t 2 (omega arith) (omega arith) high_sp))
            (subst (λ (b : ℕ). IsReachable s.place bounds b) (sym at1) (open_below s.place bounds t 1 (omega arith) (omega arith) high_sp));
        far = All-nil (IsReachable s.place bounds);
        soft = omega arith;
        hard = omega arith;
        high = omega arith;
        data_low = within.low;
        follows = λ w m inner. (let j : Deep t 0 (with_all t low high) t.input (t.regs.a ∷ []) w = deep_popped t (with_all t low high) t.input (t.regs.a ∷ []) u w k m in
            end_at s bounds P [] w j.pushed (λ n z. putchar_ends t w low high n z fits within.bytes inner (m.a ∙ (word_low (u.mem (sp_of u)) (u.mem (sp_of u + 1)) (bytes.mem (sp_of u)) ∙ byte)) j));
      })

  -- at the hook
  told_at : (low high : ℕ) (u : State) → low + 256 * high ≡ sp_of t - 2 → Deep t 6 (with_all t low high) t.input [] u → Forward s bounds P hook_lines u
  told_at low high u address k =
      let sp_is = k.sp in
      let soft = within.soft in
      let high_sp = within.high in
      let there : Found t low high = found t low high fits in
      let o : State = one u in
      let at6 : sp_of o ≡ sp_of t - 6 = omega arith in
      let at5 : sp_of o + 1 ≡ sp_of t - 6 + 1 = omega arith in
      let at4 : sp_of o + 2 ≡ sp_of t - 4 = omega arith in
      let at3 : sp_of o + 2 + 1 ≡ sp_of t - 4 + 1 = omega arith in
      let e6 : o.mem (sp_of o) ≡ low = k.mem (sp_of o) ∙ (ap (with_all t low high) at6 ∙ there.low_is) in
      let e5 : o.mem (sp_of o + 1) ≡ high = k.mem (sp_of o + 1) ∙ (ap (with_all t low high) at5 ∙ there.high_is) in
      let e4 : o.mem (sp_of o + 2) ≡ 1 = k.mem (sp_of o + 2) ∙ (ap (with_all t low high) at4 ∙ there.file_is) in
      let e3 : o.mem (sp_of o + 2 + 1) ≡ 0 = k.mem (sp_of o + 2 + 1) ∙ (ap (with_all t low high) at3 ∙ there.none_is) in
      let first : word_at o.mem (sp_of o + 2) ≡ 1 = omega arith in
      let text : word_at o.mem (sp_of o) ≡ sp_of t - 2 = omega arith in
      let byte : o.mem (word_at o.mem (sp_of o)) ≡ t.regs.a = k.mem (word_at o.mem (sp_of o)) ∙ (ap (with_all t low high) text ∙ there.byte_is) in
      let reach : (j : ℕ) → 1 ≤ j → j ≤ 6 → (b : ℕ) → b ≡ sp_of t - j → IsReachable s.place bounds b = λ j some few b e. subst (λ (n : ℕ). IsReachable s.place bounds n) (sym e) (open_below s.place bounds t j some (omega arith) high_sp) in
      let pushed = ap (λ (ps : List ℕ). length ps) k.pushed in
      one_at s bounds P (call routines.HookWrite ∷ written_lines) u
      (write_at s bounds P written_lines o
      (subst (λ (row : Row). Hooks s bounds 3 row (leads_in s bounds 3 takes P written_lines) o) (sym (told_is o first)) (record {
        goes_on = refl;
        near = all_four (IsReachable s.place bounds) (sp_of o) (sp_of o + 1) (sp_of o + 1 + 1) (sp_of o + 1 + 1 + 1) (reach 6 (omega arith) (omega arith) (sp_of o) at6) (reach 5 (omega arith) (omega arith) (sp_of o + 1) (omega arith))
            (reach 4 (omega arith) (omega arith) (sp_of o + 1 + 1) (omega arith)) (reach 3 (omega arith) (omega arith) (sp_of o + 1 + 1 + 1) (omega arith));
        far = all_one (IsReachable s.place bounds) (word_at o.mem (sp_of o)) (reach 2 (omega arith) (omega arith) (word_at o.mem (sp_of o)) text);
        hard = omega arith;
        follows = λ w m bytes. let moved : sp_of w ≡ sp_of o + 4 = m.sp in popped_at low high w bytes (record {
          sp = omega arith;
          mem = λ b. m.mem b (above_or_below (sp_of o) b) ∙ k.mem b;
          rest = λ i two e8 e9. kept_from (told_row o) o w 2 m refl i two ∙ k.rest i two e8 e9;
          pushed = m.pushed ∙ k.pushed;
          input = m.input ∙ k.input;
          output = m.output ∙ (ap (λ (bs : List ℕ). bs ++ o.mem (word_at o.mem (sp_of o)) ∷ []) (k.output ∙ append-nil t.output) ∙ ap (λ (v : ℕ). t.output ++ v ∷ []) byte);
          ended = m.ended;
        });
      })))

  -- the byte's address is pushed
  text_at : (u : State) → u.zp 8 + 256 * u.zp 9 ≡ sp_of t - 2 → Deep t 4 (with_one t) t.input [] u → Forward s bounds P text_lines u
  text_at u address k =
      pointed_at s bounds P (call routines.PushAx ∷ hook_lines) u
      (word_calls s bounds P t word_has within t.input [] 4 (with_one t) hook_lines (pointing u) (omega arith)
      (record { sp = k.sp; mem = k.mem; rest = k.rest; pushed = k.pushed; input = k.input; output = k.output; ended = k.ended })
      (λ w m bytes j. told_at (u.zp 8) (u.zp 9) w address j))

  -- the count, which is 1 as the descriptor is
  count_at : (u : State) → Deep t 2 (with_word t) t.input [] u → Forward s bounds P count_lines u
  count_at u k =
      let sp_is = k.sp in
      noted_at s bounds P (one_on (call routines.PushAx ∷ text_lines)) u
      (one_at s bounds P (call routines.PushAx ∷ text_lines) (noted u)
      (word_calls s bounds P t word_has within t.input [] 2 (with_word t) text_lines (one (noted u)) (omega arith)
      (record { sp = k.sp; mem = k.mem; rest = λ i two e8 e9. write_other (write u.zp 8 (u.zp 0)) 9 (u.zp 1) i e9 ∙ (write_other u.zp 8 (u.zp 0) i e8 ∙ k.rest i two e8 e9); pushed = k.pushed; input = k.input; output = k.output; ended = k.ended })
      (λ w m bytes j. let eight : w.zp 8 ≡ u.zp 0 = kept_from (pushax_row (one (noted u))) (one (noted u)) w 2 m refl 8 (omega arith) in
      let nine : w.zp 9 ≡ u.zp 1 = kept_from (pushax_row (one (noted u))) (one (noted u)) w 2 m refl 9 (omega arith) in
      text_at w (omega arith) j)))

  begins : Forward s bounds P putchar_lines (called back t)
  begins = word_calls s bounds P t word_has within t.input [] 0 t.mem count_lines (called back t) (omega arith)
      (record { sp = (let e : sp_of t + 0 ≡ sp_of t = omega arith in e); mem = λ b. refl; rest = λ i two e8 e9. refl; pushed = refl; input = refl; output = sym (append-nil t.output); ended = within.running })
      (λ w m bytes k. count_at w k)

pub putchar_comes : (s : RawSetting) → Holds s (routines.Library Putchar) → Holds s routines.PushAx → Holds s routines.PopAx → ComesIn s 6 3 (weight_in takes putchar_lines) putchar_row (routines.Library Putchar)
putchar_comes s has word_has pop_has bounds back t may =
    let hard = may.hard in
    walks_calling s bounds 3 takes (routines.Library Putchar) (putchar_row t) back t putchar_lines has refl hard may.bytes may.running refl (begins s bounds back t word_has pop_has (record { soft = may.soft; high = may.high; low = may.data_low; bytes = may.bytes; running = may.running }))

pub putchar : CharactersAreWritten
putchar s has word_has pop_has = met_within s 6 3 (weight_in takes putchar_lines) (routines.Library Putchar) putchar_row (λ t. refl)
    (meets_loud s 6 3 (weight_in takes putchar_lines) putchar_row (routines.Library Putchar) (λ t. refl) (λ t. refl) (λ t. omega arith) (putchar_comes s has word_has pop_has))
    (omega arith) (omega arith) (λ t. (omega arith, omega arith))
