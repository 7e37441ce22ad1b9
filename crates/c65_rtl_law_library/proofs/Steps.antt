-- The steps that the functions on characters have in common: what is pushed, and where.
use Rattle.std.proofs.Common.{◌≡◌, ◌≢◌, ℕ, ◌+◌, ◌-◌, ◌<◌, ◌≤◌, ◌⊎◌, inl, inr, Bool, List, [], ◌∷◌, None, nat_eq, length, refl, sym, ap, subst, ◌∙◌, arith}
use Rattle.std.specs.Prelude.{nat_lt}
use Rattle.std.proofs.lemmas.List.{append-nil}
use Rattle.std.proofs.lemmas.List.Elements.{All-nil}
use Rattle.c65_mach.specs.declared.rows.Op.TheVariants.{Lda, Ldx, Rts, Sta}
use Rattle.c65_code.specs.declared.routine.Routine.{Routine}
use Rattle.c65_code.specs.declared.routine.Routine.TheVariants as routines
use Rattle.c65_code.specs.declared.routine.Count.TheVariants.{One}
use Rattle.c65_code.specs.declared.line.Line.{Line}
use Rattle.c65_code.specs.LineState.{Place, State, Bytes, write, sp_of, IsBytes}
use Rattle.c65_code.specs.Placement.{stack_end}
use Rattle.c65_code.specs.Rows.{Meets}
use Rattle.c65_code.specs.RawMachine.{RawSetting, Bounds, IsReachable, LieLow, called}
use Rattle.c65_rtl.specs.Assembly.{sp, ptr1, implied, value, zero_page, call}
use Rattle.c65_rtl.proofs.Meeting.{write_other}
use Rattle.c65_rtl.proofs.Pushes.{write_same}
use Rattle.c65_rtl_law_walks.proofs.Walks.{Takes, Calls, leads_in}
use Rattle.c65_rtl_law_inner.proofs.Beside.{returns}
use Rattle.c65_rtl_law_inner.proofs.Pushes.{pusha_row, pushax_row, push0_row, push_byte_comes, push_word_comes, push_zero_comes}
use Rattle.c65_rtl_law_inner.proofs.Moves.{raised_row, raise_one_comes}
use Rattle.c65_rtl_law_inner.proofs.Loads.{popa_row, pop_byte_comes}
use Rattle.c65_rtl_law_library.specs.Rows.{Holds}
use Rattle.c65_rtl_law_library.proofs.Deep.{Deep, open_below, all_one, all_two, deep_byte, deep_word, deep_zero, deep_popped, deep_raised}

abbrev pub takes : Routine → Takes
takes routines.PushA = record { below = 1; pushed = 0; weight = 8 }
takes routines.PushAx = record { below = 2; pushed = 1; weight = 15 }
takes routines.Push0 = record { below = 2; pushed = 1; weight = 17 }
takes routines.PopA = record { below = 0; pushed = 0; weight = 7 }
takes routines.PopAx = record { below = 0; pushed = 0; weight = 15 }
takes _ = record { below = 0; pushed = 0; weight = 5 }

abbrev pub one_on : List Line → List Line
one_on rest = value Lda 1 ∷ value Ldx 0 ∷ rest

abbrev pub pointed_on : List Line → List Line
pointed_on rest = zero_page Lda ptr1 ∷ zero_page Ldx (ptr1 + 1) ∷ rest

abbrev pub noted_on : List Line → List Line
noted_on rest = zero_page Lda sp ∷ zero_page Sta ptr1 ∷ zero_page Lda (sp + 1) ∷ zero_page Sta (ptr1 + 1) ∷ rest

abbrev pub Forward : RawSetting → Bounds → (State → Type 0) → List Line → State → Type 0
Forward s bounds P lines u = leads_in s bounds 3 takes P lines None u

abbrev pub one : State → State
one u = record u { regs = record u.regs { a = 1; x = 0; n = nat_lt 127 0; z = nat_eq 0 0 } }

pub one_at : (s : RawSetting) (bounds : Bounds) (P : State → Type 0) (rest : List Line) (u : State) → Forward s bounds P rest (one u) → Forward s bounds P (one_on rest) u
unfolding leads_in
one_at s bounds P rest u h = h

abbrev pub pointing : State → State
pointing u = record u { regs = record u.regs { a = u.zp 8; x = u.zp 9; n = nat_lt 127 (u.zp 9); z = nat_eq (u.zp 9) 0 } }

pub pointed_at : (s : RawSetting) (bounds : Bounds) (P : State → Type 0) (rest : List Line) (u : State) → Forward s bounds P rest (pointing u) → Forward s bounds P (pointed_on rest) u
unfolding leads_in
pointed_at s bounds P rest u h = h

abbrev pub noted : State → State
noted u = record u { regs = record u.regs { a = u.zp 1; n = nat_lt 127 (u.zp 1); z = nat_eq (u.zp 1) 0 }; zp = write (write u.zp 8 (u.zp 0)) 9 (u.zp 1) }

pub noted_at : (s : RawSetting) (bounds : Bounds) (P : State → Type 0) (rest : List Line) (u : State) → Forward s bounds P rest (noted u) → Forward s bounds P (noted_on rest) u
unfolding leads_in
noted_at s bounds P rest u h = h

pub push_byte_at : (s : RawSetting) (bounds : Bounds) (P : State → Type 0) (rest : List Line) (u : State) → Calls s bounds 3 takes routines.PushA (leads_in s bounds 3 takes P rest) u → Forward s bounds P (call routines.PushA ∷ rest) u
unfolding leads_in
push_byte_at s bounds P rest u h = h

pub push_word_at : (s : RawSetting) (bounds : Bounds) (P : State → Type 0) (rest : List Line) (u : State) → Calls s bounds 3 takes routines.PushAx (leads_in s bounds 3 takes P rest) u → Forward s bounds P (call routines.PushAx ∷ rest) u
unfolding leads_in
push_word_at s bounds P rest u h = h

pub push_zero_at : (s : RawSetting) (bounds : Bounds) (P : State → Type 0) (rest : List Line) (u : State) → Calls s bounds 3 takes routines.Push0 (leads_in s bounds 3 takes P rest) u → Forward s bounds P (call routines.Push0 ∷ rest) u
unfolding leads_in
push_zero_at s bounds P rest u h = h

pub raise_one_at : (s : RawSetting) (bounds : Bounds) (P : State → Type 0) (rest : List Line) (u : State) → Calls s bounds 3 takes (routines.IncSp One) (leads_in s bounds 3 takes P rest) u → Forward s bounds P (call (routines.IncSp One) ∷ rest) u
unfolding leads_in
raise_one_at s bounds P rest u h = h

pub pop_byte_at : (s : RawSetting) (bounds : Bounds) (P : State → Type 0) (rest : List Line) (u : State) → Calls s bounds 3 takes routines.PopA (leads_in s bounds 3 takes P rest) u → Forward s bounds P (call routines.PopA ∷ rest) u
unfolding leads_in
pop_byte_at s bounds P rest u h = h

-- with X 0
abbrev pub end_on : List Line → List Line
end_on rest = value Ldx 0 ∷ implied Rts ∷ rest

pub end_at : (s : RawSetting) (bounds : Bounds) (P : State → Type 0) (rest : List Line) (u : State) → u.pushed ≡ [] → ((n z : Bool) → P (record u { regs = record u.regs { x = 0; n = n; z = z } })) → Forward s bounds P (end_on rest) u
unfolding leads_in
end_at s bounds P rest u none h = returns P _ none (h _ _)

-- memory once all is pushed: the byte, the descriptor, and the byte's address
abbrev pub with_byte : State → Bytes
with_byte t = write t.mem (sp_of t - 1) t.regs.a

abbrev pub with_file : State → ℕ → Bytes
with_file t file = write (write (with_byte t) (sp_of t - 3) file) (sp_of t - 3 + 1) 0

abbrev pub with_all : State → ℕ → ℕ → ℕ → Bytes
with_all t file low high = write (write (with_file t file) (sp_of t - 5) low) (sp_of t - 5 + 1) high

-- what is found there
pub record Found (t : State) (file low high : ℕ) : Type 0 where
  pub low_is : with_all t file low high (sp_of t - 5) ≡ low
  pub high_is : with_all t file low high (sp_of t - 5 + 1) ≡ high
  pub file_is : with_all t file low high (sp_of t - 3) ≡ file
  pub none_is : with_all t file low high (sp_of t - 3 + 1) ≡ 0
  pub byte_is : with_all t file low high (sp_of t - 1) ≡ t.regs.a
  pub other : (b : ℕ) → (b + 64 < sp_of t) ⊎ (sp_of t ≤ b) → with_all t file low high b ≡ t.mem b

-- no byte that a row speaks of is one that is pushed
pub apart : (t : State) (b : ℕ) → (b + 64 < sp_of t) ⊎ (sp_of t ≤ b) → (a : ℕ) → a < sp_of t → sp_of t ≤ a + 64 → b ≢ a
apart t b (inl below) a under near = omega arith
apart t b (inr above) a under near = omega arith

pub spoken_of : (t : State) (b : ℕ) → (b + 64 < sp_of t) ⊎ ((sp_of t ≤ b) ⊎ (sp_of t ≤ b)) → (b + 64 < sp_of t) ⊎ (sp_of t ≤ b)
spoken_of t b (inl below) = inl below
spoken_of t b (inr (inl above)) = inr above
spoken_of t b (inr (inr above)) = inr above

pub found : (t : State) (file low high : ℕ) → 5 ≤ sp_of t → Found t file low high
found t file low high fits =
    let a1 : ℕ = sp_of t - 1 in
    let a3 : ℕ = sp_of t - 3 in
    let a4 : ℕ = sp_of t - 3 + 1 in
    let a5 : ℕ = sp_of t - 5 in
    let a6 : ℕ = sp_of t - 5 + 1 in
    let n56 : a5 ≢ a6 = omega arith in
    let n36 : a3 ≢ a6 = omega arith in
    let n35 : a3 ≢ a5 = omega arith in
    let n34 : a3 ≢ a4 = omega arith in
    let n46 : a4 ≢ a6 = omega arith in
    let n45 : a4 ≢ a5 = omega arith in
    let n16 : a1 ≢ a6 = omega arith in
    let n15 : a1 ≢ a5 = omega arith in
    let n14 : a1 ≢ a4 = omega arith in
    let n13 : a1 ≢ a3 = omega arith in
    let m1 : Bytes = with_byte t in
    let m2 : Bytes = write m1 a3 file in
    let m3 : Bytes = with_file t file in
    let m4 : Bytes = write m3 a5 low in
    record {
      low_is = write_other m4 a6 high a5 n56 ∙ write_same m3 a5 low a5 refl;
      high_is = write_same m4 a6 high a6 refl;
      file_is = write_other m4 a6 high a3 n36 ∙ (write_other m3 a5 low a3 n35 ∙ (write_other m2 a4 0 a3 n34 ∙ write_same m1 a3 file a3 refl));
      none_is = write_other m4 a6 high a4 n46 ∙ (write_other m3 a5 low a4 n45 ∙ write_same m2 a4 0 a4 refl);
      byte_is = write_other m4 a6 high a1 n16 ∙ (write_other m3 a5 low a1 n15 ∙ (write_other m2 a4 0 a1 n14 ∙ (write_other m1 a3 file a1 n13 ∙ write_same t.mem a1 t.regs.a a1 refl)));
      other = λ b h. let far = apart t b h in write_other m4 a6 high b (far a6 (omega arith) (omega arith)) ∙ (write_other m3 a5 low b (far a5 (omega arith) (omega arith))
          ∙ (write_other m2 a4 0 b (far a4 (omega arith) (omega arith)) ∙ (write_other m1 a3 file b (far a3 (omega arith) (omega arith)) ∙ write_other t.mem a1 t.regs.a b (far a1 (omega arith) (omega arith)))));
    }

-- what holds at a call that has the room: three words
pub record Within (s : RawSetting) (bounds : Bounds) (t : State) : Type 0 where
  pub soft : bounds.soft + 6 ≤ sp_of t
  pub high : sp_of t ≤ stack_end
  pub low : LieLow s.place
  pub bytes : IsBytes t
  pub running : t.ended ≡ None

-- a word is pushed
pub word_calls : (s : RawSetting) (bounds : Bounds) (P : State → Type 0) (t : State) → Holds s routines.PushAx → Within s bounds t → (unread told : List ℕ) (depth : ℕ) (memory : Bytes) (rest : List Line) (u : State) → depth + 2 ≤ 6 → Deep t depth memory unread told u
    → ((w : State) → Meets (pushax_row u) u w → IsBytes w → Deep t (depth + 2) (write (write memory (sp_of t - (depth + 2)) u.regs.a) (sp_of t - (depth + 2) + 1) u.regs.x) unread told w → Forward s bounds P rest w)
    → Forward s bounds P (call routines.PushAx ∷ rest) u
word_calls s bounds P t has within unread told depth memory rest u few k follows =
    let sp_is = k.sp in
    let soft = within.soft in
    let high_sp = within.high in
    let pushed = ap (λ (ps : List ℕ). length ps) k.pushed in
    let low_at : sp_of u - 2 ≡ sp_of t - (depth + 2) = omega arith in
    let high_at : sp_of u - 2 + 1 ≡ sp_of t - (depth + 1) = omega arith in
    push_word_at s bounds P rest u (record {
      row = pushax_row u;
      comes = λ may_in from. push_word_comes s has bounds from u may_in;
      goes_on = refl;
      ready = refl;
      near = all_two (IsReachable s.place bounds) (sp_of u - 2) (sp_of u - 2 + 1) (subst (λ (b : ℕ). IsReachable s.place bounds b) (sym low_at) (open_below s.place bounds t (depth + 2) (omega arith) (omega arith) high_sp))
          (subst (λ (b : ℕ). IsReachable s.place bounds b) (sym high_at) (open_below s.place bounds t (depth + 1) (omega arith) (omega arith) high_sp));
      far = All-nil (IsReachable s.place bounds);
      soft = omega arith;
      hard = omega arith;
      high = omega arith;
      data_low = within.low;
      follows = λ w m bytes. follows w m bytes (deep_word t depth memory unread told u w (omega arith) k m);
    })

-- a word of 0 is pushed
pub zero_calls : (s : RawSetting) (bounds : Bounds) (P : State → Type 0) (t : State) → Holds s routines.Push0 → Within s bounds t → (unread told : List ℕ) (depth : ℕ) (memory : Bytes) (rest : List Line) (u : State) → depth + 2 ≤ 5 → Deep t depth memory unread told u
    → ((w : State) → Meets (push0_row u) u w → IsBytes w → Deep t (depth + 2) (write (write memory (sp_of t - (depth + 2)) 0) (sp_of t - (depth + 2) + 1) 0) unread told w → Forward s bounds P rest w)
    → Forward s bounds P (call routines.Push0 ∷ rest) u
zero_calls s bounds P t has within unread told depth memory rest u few k follows =
    let sp_is = k.sp in
    let soft = within.soft in
    let high_sp = within.high in
    let pushed = ap (λ (ps : List ℕ). length ps) k.pushed in
    let low_at : sp_of u - 2 ≡ sp_of t - (depth + 2) = omega arith in
    let high_at : sp_of u - 2 + 1 ≡ sp_of t - (depth + 1) = omega arith in
    push_zero_at s bounds P rest u (record {
      row = push0_row u;
      comes = λ may_in from. push_zero_comes s has bounds from u may_in;
      goes_on = refl;
      ready = refl;
      near = all_two (IsReachable s.place bounds) (sp_of u - 2) (sp_of u - 2 + 1) (subst (λ (b : ℕ). IsReachable s.place bounds b) (sym low_at) (open_below s.place bounds t (depth + 2) (omega arith) (omega arith) high_sp))
          (subst (λ (b : ℕ). IsReachable s.place bounds b) (sym high_at) (open_below s.place bounds t (depth + 1) (omega arith) (omega arith) high_sp));
      far = All-nil (IsReachable s.place bounds);
      soft = omega arith;
      hard = omega arith;
      high = omega arith;
      data_low = within.low;
      follows = λ w m bytes. follows w m bytes (deep_zero t depth memory unread told u w (omega arith) k m);
    })

-- A is pushed at once
pub byte_calls : (s : RawSetting) (bounds : Bounds) (P : State → Type 0) (back : Place) (t : State) → Holds s routines.PushA → Within s bounds t → (rest : List Line) → ((w : State) → Deep t 1 (with_byte t) t.input [] w → Forward s bounds P rest w)
    → Forward s bounds P (call routines.PushA ∷ rest) (called back t)
byte_calls s bounds P back t has within rest follows =
    let soft = within.soft in
    let high_sp = within.high in
    push_byte_at s bounds P rest (called back t) (record {
      row = pusha_row (called back t);
      comes = λ may_in from. push_byte_comes s has bounds from (called back t) may_in;
      goes_on = refl;
      ready = refl;
      near = all_one (IsReachable s.place bounds) (sp_of t - 1) (open_below s.place bounds t 1 (omega arith) (omega arith) high_sp);
      far = All-nil (IsReachable s.place bounds);
      soft = omega arith;
      hard = omega arith;
      high = within.high;
      data_low = within.low;
      follows = λ w m bytes. follows w (deep_byte t 0 t.mem t.input [] (called back t) w (omega arith)
          (record { sp = (let e : sp_of t + 0 ≡ sp_of t = omega arith in e); mem = λ b. refl; rest = λ i two e8 e9. refl; pushed = refl; input = refl; output = sym (append-nil t.output); ended = within.running }) m);
    })

-- the byte below the sp of the call is popped
pub pop_calls : (s : RawSetting) (bounds : Bounds) (P : State → Type 0) (t : State) → Holds s routines.PopA → Within s bounds t → (unread told : List ℕ) (memory : Bytes) (rest : List Line) (u : State) → Deep t 1 memory unread told u
    → ((w : State) → w.regs.a ≡ memory (sp_of t - 1) → IsBytes w → Deep t 0 memory unread told w → Forward s bounds P rest w) → Forward s bounds P (call routines.PopA ∷ rest) u
pop_calls s bounds P t has within unread told memory rest u k follows =
    let sp_is = k.sp in
    let soft = within.soft in
    let high_sp = within.high in
    let at : sp_of u ≡ sp_of t - 1 = omega arith in
    let pushed = ap (λ (ps : List ℕ). length ps) k.pushed in
    pop_byte_at s bounds P rest u (record {
      row = popa_row u;
      comes = λ may_in from. pop_byte_comes s has bounds from u may_in;
      goes_on = refl;
      ready = refl;
      near = all_one (IsReachable s.place bounds) (sp_of u) (subst (λ (b : ℕ). IsReachable s.place bounds b) (sym at) (open_below s.place bounds t 1 (omega arith) (omega arith) high_sp));
      far = All-nil (IsReachable s.place bounds);
      soft = omega arith;
      hard = omega arith;
      high = omega arith;
      data_low = within.low;
      follows = λ w m bytes. follows w (m.a ∙ (k.mem (sp_of u) ∙ ap memory at)) bytes (deep_popped t memory unread told u w k m);
    })

-- the byte is dropped
pub raise_calls : (s : RawSetting) (bounds : Bounds) (P : State → Type 0) (t : State) → Holds s (routines.IncSp One) → Within s bounds t → (unread told : List ℕ) (memory : Bytes) (rest : List Line) (u : State) → Deep t 1 memory unread told u
    → ((w : State) → IsBytes w → Deep t 0 memory unread told w → Forward s bounds P rest w) → Forward s bounds P (call (routines.IncSp One) ∷ rest) u
raise_calls s bounds P t has within unread told memory rest u k follows =
    let sp_is = k.sp in
    let soft = within.soft in
    let high_sp = within.high in
    let pushed = ap (λ (ps : List ℕ). length ps) k.pushed in
    raise_one_at s bounds P rest u (record {
      row = raised_row One u;
      comes = λ may_in from. raise_one_comes s has bounds from u may_in;
      goes_on = refl;
      ready = refl;
      near = All-nil (IsReachable s.place bounds);
      far = All-nil (IsReachable s.place bounds);
      soft = omega arith;
      hard = omega arith;
      high = omega arith;
      data_low = within.low;
      follows = λ w m bytes. follows w bytes (deep_raised t memory unread told u w k m);
    })
