-- `getchar` (C90 7.9.7.6)
use Rattle.std.proofs.Common.{◌≡◌, ◌≢◌, ℕ, suc, ◌+◌, ◌-◌, ◌*◌, ◌%◌, ◌≤◌, Bool, true, false, List, [], ◌∷◌, Some, None, length, refl, sym, ap, subst, ◌∙◌, arith}
use Rattle.std.specs.Prelude.{◌==◌, if◌then◌else◌, take, drop}
use Rattle.std.proofs.lemmas.List.{append-nil}
use Rattle.std.proofs.lemmas.List.Elements.{All-nil}
use Rattle.c65_base.specs.declared.library.Library.TheVariants.{Getchar}
use Rattle.c65_mach.specs.declared.rows.Op.TheVariants.{Bne, Cmp, Lda, Rts, Tax}
use Rattle.c65_code.specs.declared.routine.Count.TheVariants.{One}
use Rattle.c65_code.specs.declared.routine.Routine.TheVariants as routines
use Rattle.c65_code.specs.declared.routine.Width.TheVariants.{Ax}
use Rattle.c65_code.specs.declared.line.Line.{Line}
use Rattle.c65_code.specs.declared.line.Line.TheVariants.{Label}
use Rattle.c65_code.specs.LineState.{Place, State, write, word_at, sp_of, ax_of, IsBytes}
use Rattle.c65_code.specs.Texts.{range_of, listed}
use Rattle.c65_code.specs.Rows.{Row, row_by, giving, popping, costing, read_row}
use Rattle.c65_code.specs.RawMachine.{RawSetting, Bounds, IsReachable, called, quiet, read_hook}
use Rattle.c65_rtl.specs.Assembly.{implied, value, branch, call}
use Rattle.c65_rtl.proofs.Ways.{Ends}
use Rattle.c65_rtl.proofs.Meeting.{eq_true, eq_false, not_true, not_false, write_other, ends_by}
use Rattle.c65_rtl.proofs.Pushes.{write_same}
use Rattle.c65_rtl.proofs.Stores.{write_like}
use Rattle.c65_rtl_law_walks.proofs.Walks.{Hooks, leads_in, weight_in, walks_calling}
use Rattle.c65_rtl_law_walks.proofs.Meets.{met_within}
use Rattle.c65_rtl_law_inner.proofs.Straight.{ComesIn, meets_loud}
use Rattle.c65_rtl_law_inner.proofs.Kept.{kept_from}
use Rattle.c65_rtl_law_inner.proofs.Pops.{above_or_below}
use Rattle.c65_rtl_law_inner.proofs.Beside.{returns, outside, values, rewritten}
use Rattle.c65_rtl_law_inner.proofs.Pushes.{push0_row}
use Rattle.c65_rtl_law_library.specs.Rows.{Holds, CharactersAreRead}
use Rattle.c65_rtl_law_library.proofs.Deep.{Deep, open_below, all_one, all_four}
use Rattle.c65_rtl_law_library.proofs.Steps.{takes, Forward, one_on, one, one_at, pointed_on, pointing, pointed_at, noted_on, noted, noted_at, end_on, end_at, with_byte, with_file, with_all, Found, found, apart, spoken_of, Within, word_calls, zero_calls, byte_calls, pop_calls, raise_calls}

abbrev end_of_input_lines : List Line
end_of_input_lines = value Lda 255 ∷ implied Tax ∷ implied Rts ∷ []

abbrev none_lines : List Line
none_lines = call (routines.IncSp One) ∷ end_of_input_lines

abbrev some_lines : List Line
some_lines = call routines.PopA ∷ end_on (Label 0 ∷ none_lines)

abbrev test_lines : List Line
test_lines = value Cmp 1 ∷ branch Bne 0 ∷ some_lines

abbrev hook_lines : List Line
hook_lines = one_on (call routines.HookRead ∷ test_lines)

abbrev place_lines : List Line
place_lines = pointed_on (call routines.PushAx ∷ hook_lines)

abbrev file_lines : List Line
file_lines = noted_on (call routines.Push0 ∷ place_lines)

abbrev getchar_lines : List Line
getchar_lines = call routines.PushA ∷ file_lines

-- the pieces
abbrev compared : State → Bool → Bool → Bool → State
compared u n z c = record u { regs = record u.regs { n = n; z = z; c = c } }

test_at : (s : RawSetting) (bounds : Bounds) (P : State → Type 0) (u : State)
    → ((n z c : Bool) → (u.regs.a + 256 - 1) % 256 ≢ 0 → Forward s bounds P none_lines (compared u n z c)) → ((n z c : Bool) → (u.regs.a + 256 - 1) % 256 ≡ 0 → Forward s bounds P some_lines (compared u n z c))
    → Forward s bounds P test_lines u
unfolding leads_in
test_at s bounds P u none some = elim [ true ↦ λ e. none _ _ _ (eq_false _ _ (not_true _ e)) | false ↦ λ e. some _ _ _ (eq_true _ _ (not_false _ e)) ]

end_of_input_at : (s : RawSetting) (bounds : Bounds) (P : State → Type 0) (u : State) → u.pushed ≡ [] → ((n z : Bool) → P (record u { regs = record u.regs { a = 255; x = 255; n = n; z = z } })) → Forward s bounds P end_of_input_lines u
unfolding leads_in
end_of_input_at s bounds P u none h = returns P _ none (h _ _)

abbrev hook_row_of : State → Row
hook_row_of u = read_hook u (popping 4 u (quiet routines.HookRead u))

read_at : (s : RawSetting) (bounds : Bounds) (P : State → Type 0) (rest : List Line) (u : State) → Hooks s bounds 3 (hook_row_of u) (leads_in s bounds 3 takes P rest) u → Forward s bounds P (call routines.HookRead ∷ rest) u
unfolding leads_in
read_at s bounds P rest u h = h

-- the hook, with the bytes that it takes
abbrev got_row : State → List ℕ → Row
got_row u bytes = record (giving Ax (length bytes) (popping 4 u (quiet routines.HookRead u))) { writes = listed bytes (word_at u.mem (sp_of u)); far = range_of (length bytes) (word_at u.mem (sp_of u)); taken = length bytes }

got_is : (u : State) (bytes : List ℕ) → word_at u.mem (sp_of u + 2) ≡ 0 → take (ax_of u) u.input ≡ bytes → hook_row_of u ≡ got_row u bytes
got_is u bytes e f = ap (λ (k : ℕ). if k == 0 then got_row u (take (ax_of u) u.input) else giving Ax 65535 (popping 4 u (quiet routines.HookRead u))) e ∙ ap (got_row u) f

abbrev base_row : State → Row
base_row t = costing 256 (row_by (routines.Library Getchar) t)

-- the row, once all is popped
none_ends : (t u : State) (low high : ℕ) (n z : Bool) → 5 ≤ sp_of t → IsBytes t → IsBytes u → Deep t 0 (with_all t 0 low high) t.input [] u → Ends (read_row [] t (base_row t)) t (record u { regs = record u.regs { a = 255; x = 255; n = n; z = z } })
none_ends t u low high n z fits before bytes k =
    let sp_is = k.sp in
    let t0 = before.zp 0 in
    let t1 = before.zp 1 in
    let u0 = bytes.zp 0 in
    let u1 = bytes.zp 1 in
    let there : Found t 0 low high = found t 0 low high fits in
    ends_by (read_row [] t (base_row t)) t (record u { regs = record u.regs { a = 255; x = 255; n = n; z = z } }) (values u.zp (8 ∷ 9 ∷ [])) (record {
      zp = λ i two. rewritten t.zp u.zp (8 ∷ 9 ∷ []) i (λ out. k.rest i two (outside (8 ∷ 9 ∷ []) 8 i refl out) (outside (8 ∷ 9 ∷ []) 9 i refl out));
      fit = refl;
      small = (refl, refl, refl, refl, refl);
      low_kept = (let e : t.zp 0 ≡ u.zp 0 = omega arith in e);
      high_kept = (let e : t.zp 1 ≡ u.zp 1 = omega arith in e);
      a_kept = tt;
      x_kept = tt;
      sp = omega arith;
      a = refl;
      x = refl;
      sreg = tt;
      pointers = tt;
      bank = tt;
      mem = λ b h. k.mem b ∙ there.other b (spoken_of t b h);
      input = k.input;
      output = k.output;
      ended = k.ended;
    })

some_ends : (t u : State) (v : ℕ) (rest : List ℕ) (low high : ℕ) (n z : Bool) → 5 ≤ sp_of t → IsBytes t → IsBytes u → u.regs.a ≡ v → Deep t 0 (write (with_all t 0 low high) (sp_of t - 1) v) (drop 1 t.input) [] u
    → Ends (read_row (v ∷ rest) t (base_row t)) t (record u { regs = record u.regs { x = 0; n = n; z = z } })
some_ends t u v rest low high n z fits before bytes a_is k =
    let sp_is = k.sp in
    let t0 = before.zp 0 in
    let t1 = before.zp 1 in
    let u0 = bytes.zp 0 in
    let u1 = bytes.zp 1 in
    let byte = bytes.a in
    let there : Found t 0 low high = found t 0 low high fits in
    ends_by (read_row (v ∷ rest) t (base_row t)) t (record u { regs = record u.regs { x = 0; n = n; z = z } }) (values u.zp (8 ∷ 9 ∷ [])) (record {
      zp = λ i two. rewritten t.zp u.zp (8 ∷ 9 ∷ []) i (λ out. k.rest i two (outside (8 ∷ 9 ∷ []) 8 i refl out) (outside (8 ∷ 9 ∷ []) 9 i refl out));
      fit = refl;
      small = (refl, refl, refl, refl, refl);
      low_kept = (let e : t.zp 0 ≡ u.zp 0 = omega arith in e);
      high_kept = (let e : t.zp 1 ≡ u.zp 1 = omega arith in e);
      a_kept = tt;
      x_kept = tt;
      sp = omega arith;
      a = omega arith;
      x = omega arith;
      sreg = tt;
      pointers = tt;
      bank = tt;
      mem = λ b h. k.mem b ∙ (write_other (with_all t 0 low high) (sp_of t - 1) v b (apart t b (spoken_of t b h) (sp_of t - 1) (omega arith) (omega arith)) ∙ there.other b (spoken_of t b h));
      input = k.input;
      output = k.output;
      ended = k.ended;
    })

module _ (s : RawSetting) (bounds : Bounds) (back : Place) (t : State) (byte_has : Holds s routines.PushA) (zero_has : Holds s routines.Push0) (word_has : Holds s routines.PushAx) (pop_has : Holds s routines.PopA) (raise_has : Holds s (routines.IncSp One)) (within : Within s bounds t) where
  abbrev P : List ℕ → State → Type 0
  P input = Ends (read_row input t (base_row t)) t

  fits : 5 ≤ sp_of t
  fits = let soft = within.soft in omega arith

  -- behind the hook, with no byte and with one
  none_at : (low high : ℕ) (u : State) → u.regs.a ≡ 0 → Deep t 1 (with_all t 0 low high) t.input [] u → Forward s bounds (P []) test_lines u
  none_at low high u a_is k =
      test_at s bounds (P []) u
      (λ n z c other. raise_calls s bounds (P []) t raise_has within t.input [] (with_all t 0 low high) end_of_input_lines (compared u n z c)
      (record { sp = k.sp; mem = k.mem; rest = k.rest; pushed = k.pushed; input = k.input; output = k.output; ended = k.ended })
      (λ w bytes j. end_of_input_at s bounds (P []) w j.pushed (λ m f. none_ends t w low high m f fits within.bytes bytes j)))
      (λ n z c same. absurd (omega arith))

  some_at : (v : ℕ) (rest : List ℕ) (low high : ℕ) (u : State) → u.regs.a ≡ 1 → Deep t 1 (write (with_all t 0 low high) (sp_of t - 1) v) (drop 1 t.input) [] u → Forward s bounds (P (v ∷ rest)) test_lines u
  some_at v rest low high u a_is k =
      test_at s bounds (P (v ∷ rest)) u
      (λ n z c other. absurd (other (let e : (u.regs.a + 256 - 1) % 256 ≡ 0 = omega arith in e)))
      (λ n z c same. pop_calls s bounds (P (v ∷ rest)) t pop_has within (drop 1 t.input) [] (write (with_all t 0 low high) (sp_of t - 1) v) (end_on (Label 0 ∷ none_lines)) (compared u n z c)
      (record { sp = k.sp; mem = k.mem; rest = k.rest; pushed = k.pushed; input = k.input; output = k.output; ended = k.ended })
      (λ w is bytes j. end_at s bounds (P (v ∷ rest)) (Label 0 ∷ none_lines) w j.pushed
      (λ m f. some_ends t w v rest low high m f fits within.bytes bytes (is ∙ write_same (with_all t 0 low high) (sp_of t - 1) v (sp_of t - 1) refl) j)))

  -- what the hook finds on the stack
  record AtHook (low high : ℕ) (o : State) : Type 0 where
    file : word_at o.mem (sp_of o + 2) ≡ 0
    place : word_at o.mem (sp_of o) ≡ sp_of t - 1
    reach : (j : ℕ) → 1 ≤ j → j ≤ 5 → (b : ℕ) → b ≡ sp_of t - j → IsReachable s.place bounds b

  at_hook : (low high : ℕ) (o : State) → low + 256 * high ≡ sp_of t - 1 → Deep t 5 (with_all t 0 low high) t.input [] o → AtHook low high o
  at_hook low high o address k =
      let sp_is = k.sp in
      let soft = within.soft in
      let there : Found t 0 low high = found t 0 low high fits in
      let at5 : sp_of o ≡ sp_of t - 5 = omega arith in
      let at6 : sp_of o + 1 ≡ sp_of t - 5 + 1 = omega arith in
      let at3 : sp_of o + 2 ≡ sp_of t - 3 = omega arith in
      let at4 : sp_of o + 2 + 1 ≡ sp_of t - 3 + 1 = omega arith in
      let e5 : o.mem (sp_of o) ≡ low = k.mem (sp_of o) ∙ (ap (with_all t 0 low high) at5 ∙ there.low_is) in
      let e6 : o.mem (sp_of o + 1) ≡ high = k.mem (sp_of o + 1) ∙ (ap (with_all t 0 low high) at6 ∙ there.high_is) in
      let e3 : o.mem (sp_of o + 2) ≡ 0 = k.mem (sp_of o + 2) ∙ (ap (with_all t 0 low high) at3 ∙ there.file_is) in
      let e4 : o.mem (sp_of o + 2 + 1) ≡ 0 = k.mem (sp_of o + 2 + 1) ∙ (ap (with_all t 0 low high) at4 ∙ there.none_is) in
      record {
        file = omega arith;
        place = omega arith;
        reach = λ j some few b e. subst (λ (n : ℕ). IsReachable s.place bounds n) (sym e) (open_below s.place bounds t j some (omega arith) within.high);
      }

  -- at the hook
  read_on : (input : List ℕ) → t.input ≡ input → (low high : ℕ) (u : State) → low + 256 * high ≡ sp_of t - 1 → Deep t 5 (with_all t 0 low high) t.input [] u → Forward s bounds (P input) hook_lines u
  read_on [] is low high u address k =
      let sp_is = k.sp in
      let o : State = one u in
      let found_it : AtHook low high o = at_hook low high o address (record { sp = k.sp; mem = k.mem; rest = k.rest; pushed = k.pushed; input = k.input; output = k.output; ended = k.ended }) in
      let pushed = ap (λ (ps : List ℕ). length ps) k.pushed in
      one_at s bounds (P []) (call routines.HookRead ∷ test_lines) u
      (read_at s bounds (P []) test_lines o
      (subst (λ (row : Row). Hooks s bounds 3 row (leads_in s bounds 3 takes (P []) test_lines) o) (sym (got_is o [] found_it.file (ap (take 1) (k.input ∙ is)))) (record {
        goes_on = refl;
        near = all_four (IsReachable s.place bounds) (sp_of o) (sp_of o + 1) (sp_of o + 1 + 1) (sp_of o + 1 + 1 + 1) (found_it.reach 5 (omega arith) (omega arith) (sp_of o) (omega arith)) (found_it.reach 4 (omega arith) (omega arith) (sp_of o + 1) (omega arith))
            (found_it.reach 3 (omega arith) (omega arith) (sp_of o + 1 + 1) (omega arith)) (found_it.reach 2 (omega arith) (omega arith) (sp_of o + 1 + 1 + 1) (omega arith));
        far = All-nil (IsReachable s.place bounds);
        hard = omega arith;
        follows = λ w m bytes. let moved : sp_of w ≡ sp_of o + 4 = m.sp in none_at low high w m.a (record {
          sp = omega arith;
          mem = λ b. m.mem b (above_or_below (sp_of o) b) ∙ k.mem b;
          rest = λ i two e8 e9. kept_from (got_row o []) o w 2 m refl i two ∙ k.rest i two e8 e9;
          pushed = m.pushed ∙ k.pushed;
          input = m.input ∙ k.input;
          output = m.output ∙ (append-nil u.output ∙ k.output);
          ended = m.ended;
        });
      })))
  read_on (v ∷ rest) is low high u address k =
      let sp_is = k.sp in
      let o : State = one u in
      let found_it : AtHook low high o = at_hook low high o address (record { sp = k.sp; mem = k.mem; rest = k.rest; pushed = k.pushed; input = k.input; output = k.output; ended = k.ended }) in
      let pushed = ap (λ (ps : List ℕ). length ps) k.pushed in
      one_at s bounds (P (v ∷ rest)) (call routines.HookRead ∷ test_lines) u
      (read_at s bounds (P (v ∷ rest)) test_lines o
      (subst (λ (row : Row). Hooks s bounds 3 row (leads_in s bounds 3 takes (P (v ∷ rest)) test_lines) o) (sym (got_is o (v ∷ []) found_it.file (ap (take 1) (k.input ∙ is)))) (record {
        goes_on = refl;
        near = all_four (IsReachable s.place bounds) (sp_of o) (sp_of o + 1) (sp_of o + 1 + 1) (sp_of o + 1 + 1 + 1) (found_it.reach 5 (omega arith) (omega arith) (sp_of o) (omega arith)) (found_it.reach 4 (omega arith) (omega arith) (sp_of o + 1) (omega arith))
            (found_it.reach 3 (omega arith) (omega arith) (sp_of o + 1 + 1) (omega arith)) (found_it.reach 2 (omega arith) (omega arith) (sp_of o + 1 + 1 + 1) (omega arith));
        far = all_one (IsReachable s.place bounds) (word_at o.mem (sp_of o)) (found_it.reach 1 (omega arith) (omega arith) (word_at o.mem (sp_of o)) found_it.place);
        hard = omega arith;
        follows = λ w m bytes. let moved : sp_of w ≡ sp_of o + 4 = m.sp in some_at v rest low high w m.a (record {
          sp = omega arith;
          mem = λ b. m.mem b (above_or_below (sp_of o) b) ∙ write_like o.mem (with_all t 0 low high) (word_at o.mem (sp_of o)) (sp_of t - 1) v b found_it.place (k.mem b);
          rest = λ i two e8 e9. kept_from (got_row o (v ∷ [])) o w 2 m refl i two ∙ k.rest i two e8 e9;
          pushed = m.pushed ∙ k.pushed;
          input = m.input ∙ ap (drop 1) k.input;
          output = m.output ∙ (append-nil u.output ∙ k.output);
          ended = m.ended;
        });
      })))

  -- the byte's place is pushed, and the descriptor before it
  place_at : (input : List ℕ) → t.input ≡ input → (u : State) → u.zp 8 + 256 * u.zp 9 ≡ sp_of t - 1 → Deep t 3 (with_file t 0) t.input [] u → Forward s bounds (P input) place_lines u
  place_at input is u address k =
      pointed_at s bounds (P input) (call routines.PushAx ∷ hook_lines) u
      (word_calls s bounds (P input) t word_has within t.input [] 3 (with_file t 0) hook_lines (pointing u) (omega arith)
      (record { sp = k.sp; mem = k.mem; rest = k.rest; pushed = k.pushed; input = k.input; output = k.output; ended = k.ended })
      (λ w m bytes j. read_on input is (u.zp 8) (u.zp 9) w address j))

  file_at : (input : List ℕ) → t.input ≡ input → (u : State) → Deep t 1 (with_byte t) t.input [] u → Forward s bounds (P input) file_lines u
  file_at input is u k =
      let sp_is = k.sp in
      noted_at s bounds (P input) (call routines.Push0 ∷ place_lines) u
      (zero_calls s bounds (P input) t zero_has within t.input [] 1 (with_byte t) place_lines (noted u) (omega arith)
      (record { sp = k.sp; mem = k.mem; rest = λ i two e8 e9. write_other (write u.zp 8 (u.zp 0)) 9 (u.zp 1) i e9 ∙ (write_other u.zp 8 (u.zp 0) i e8 ∙ k.rest i two e8 e9); pushed = k.pushed; input = k.input; output = k.output; ended = k.ended })
      (λ w m bytes j. let eight : w.zp 8 ≡ u.zp 0 = kept_from (push0_row (noted u)) (noted u) w 2 m refl 8 (omega arith) in
      let nine : w.zp 9 ≡ u.zp 1 = kept_from (push0_row (noted u)) (noted u) w 2 m refl 9 (omega arith) in
      place_at input is w (omega arith) j))

  begins : (input : List ℕ) → t.input ≡ input → Forward s bounds (P input) getchar_lines (called back t)
  begins input is = byte_calls s bounds (P input) back t byte_has within file_lines (λ w k. file_at input is w k)

-- the row, by the input
abbrev pub getchar_row : State → Row
getchar_row t = read_row t.input t (base_row t)

ends_not : (input : List ℕ) (t : State) → (read_row input t (base_row t)).ends ≡ None
ends_not [] t = refl
ends_not (v ∷ rest) t = refl

fair : (input : List ℕ) (t : State) → (suc (weight_in takes getchar_lines) ≤ (read_row input t (base_row t)).cost) × (sp_of t ≤ (read_row input t (base_row t)).sp + 64)
fair [] t = (omega arith, omega arith)
fair (v ∷ rest) t = (omega arith, omega arith)

pub getchar_comes : (s : RawSetting) → Holds s (routines.Library Getchar) → Holds s routines.PushA → Holds s routines.Push0 → Holds s routines.PushAx → Holds s routines.PopA → Holds s (routines.IncSp One) → ComesIn s 6 3 (weight_in takes getchar_lines) getchar_row (routines.Library Getchar)
getchar_comes s has byte_has zero_has word_has pop_has raise_has bounds back t may =
    let hard = may.hard in
    walks_calling s bounds 3 takes (routines.Library Getchar) (getchar_row t) back t getchar_lines has refl hard may.bytes may.running (ends_not t.input t)
    (begins s bounds back t byte_has zero_has word_has pop_has raise_has (record { soft = may.soft; high = may.high; low = may.data_low; bytes = may.bytes; running = may.running }) t.input refl)

room_is : (input : List ℕ) (t : State) → (read_row input t (base_row t)).room ≡ 64
room_is [] t = refl
room_is (v ∷ rest) t = refl

loud_is : (input : List ℕ) (t : State) → read_row input t (base_row t) ≡ record (read_row input t (base_row t)) { room = 64 }
loud_is [] t = refl
loud_is (v ∷ rest) t = refl

pub getchar : CharactersAreRead
getchar s has byte_has zero_has word_has pop_has raise_has = met_within s 6 3 (weight_in takes getchar_lines) (routines.Library Getchar) getchar_row (λ t. refl)
    (meets_loud s 6 3 (weight_in takes getchar_lines) getchar_row (routines.Library Getchar) (λ t. ap Some (loud_is t.input t)) (λ t. ends_not t.input t) (λ t. let e = room_is t.input t in omega arith)
    (getchar_comes s has byte_has zero_has word_has pop_has raise_has))
    (omega arith) (omega arith) (λ t. fair t.input t)
