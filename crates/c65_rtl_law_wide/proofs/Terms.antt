-- The pieces of lines that all routines of 32 bits begin with: the terms, of which one is popped, and what is not there yet.
use Rattle.std.proofs.Common.{◌≡◌, ◌≢◌, ℕ, ◌+◌, ◌<◌, ◌≤◌, Bool, true, false, List, [], ◌∷◌, inl, inr, None, nat_eq, refl, sym, subst, ◌∙◌, arith}
use Rattle.std.specs.Prelude.{nat_lt}
use Rattle.std.specs.Prelude.{if◌then◌else◌}
use Rattle.std.proofs.lemmas.Bool.Decides.{eqb_tells}
use Rattle.c65_mach.specs.declared.rows.Op.TheVariants.{Lda, Ldx, Rts, Sta, Stx}
use Rattle.c65_code.specs.declared.routine.Routine.{Routine}
use Rattle.c65_code.specs.declared.routine.Routine.TheVariants as routines
use Rattle.c65_code.specs.declared.line.Line.{Line}
use Rattle.c65_code.specs.LineState.{Place, Bytes, write, State, sp_of, eax_of, IsBytes}
use Rattle.c65_code.specs.Segments.{is_among}
use Rattle.c65_code.specs.Rows.{long_at}
use Rattle.c65_code.specs.RawMachine.{RawSetting, Bounds, called}
use Rattle.c65_rtl.specs.Assembly.{sreg, regsave, ptr1, ptr2, ptr3, ptr4, implied, value, zero_page, call}
use Rattle.c65_rtl.proofs.Meeting.{write_other}
use Rattle.c65_rtl_law_walks.proofs.Walks.{Takes, Calls}
use Rattle.c65_rtl_law_walks.proofs.Turning.{leads_turn}
use Rattle.c65_rtl_law_inner.proofs.Longs.{PoppedLong}
use Rattle.c65_rtl_law_inner.proofs.Beside.{Beside, returns, outside}
use Rattle.c65_rtl_law_wide.proofs.Numbers.{number}

-- `negeax` and `popeax`
abbrev pub takes : Routine → Takes
takes (routines.Unary op width) = record { below = 0; pushed = 0; weight = 18 }
takes r = record { below = 0; pushed = 0; weight = 21 }

abbrev pub Ways : RawSetting → Bounds → (State → Type 0) → (ℕ → State → Type 0) → List ℕ → List Line → State → Type 0
Ways s bounds P B passed lines u = leads_turn s bounds 3 takes P B passed lines None u

-- the addresses that these routines and `negeax` may write: sreg, regsave, the pointers, and the signs
abbrev pub places : List ℕ
places = 2 ∷ 3 ∷ 4 ∷ 5 ∷ 6 ∷ 7 ∷ 8 ∷ 9 ∷ 10 ∷ 11 ∷ 12 ∷ 13 ∷ 14 ∷ 15 ∷ 16 ∷ 17 ∷ 18 ∷ 19 ∷ []

-- four bytes of the zero page
abbrev pub four : Bytes → ℕ → ℕ
four zp at = number (zp at) (zp (at + 1)) (zp (at + 2)) (zp (at + 3))

pub kept_write : (zp : Bytes) (at v i : ℕ) → is_among places at ≡ true → is_among places i ≡ false → write zp at v i ≡ zp i
kept_write zp at v i in_it out = write_other zp at v i (outside places at i in_it out)

pub kept_four : (zp : Bytes) (a b c d v0 v1 v2 v3 i : ℕ) → is_among places a ≡ true → is_among places b ≡ true → is_among places c ≡ true → is_among places d ≡ true → is_among places i ≡ false
    → write (write (write (write zp a v0) b v1) c v2) d v3 i ≡ zp i
kept_four zp a b c d v0 v1 v2 v3 i in_a in_b in_c in_d out =
    kept_write (write (write (write zp a v0) b v1) c v2) d v3 i in_d out ∙ (kept_write (write (write zp a v0) b v1) c v2 i in_c out ∙ (kept_write (write zp a v0) b v1 i in_b out ∙ kept_write zp a v0 i in_a out))

abbrev pub dividend_on : List Line → List Line
dividend_on rest = zero_page Sta ptr1 ∷ zero_page Stx (ptr1 + 1) ∷ zero_page Lda sreg ∷ zero_page Sta ptr2 ∷ zero_page Lda (sreg + 1) ∷ zero_page Sta (ptr2 + 1) ∷ rest

abbrev pub terms_on : List Line → List Line
terms_on rest = zero_page Sta ptr3 ∷ zero_page Stx (ptr3 + 1) ∷ zero_page Lda sreg ∷ zero_page Sta ptr4 ∷ zero_page Lda (sreg + 1) ∷ zero_page Sta (ptr4 + 1) ∷ call routines.PopEax ∷ dividend_on rest

abbrev pub nothing_on : List Line → List Line
nothing_on rest = value Lda 0 ∷ zero_page Sta regsave ∷ zero_page Sta (regsave + 1) ∷ zero_page Sta (regsave + 2) ∷ zero_page Sta (regsave + 3) ∷ rest

-- EAX to four bytes
abbrev pub stored : State → ℕ → Bytes
stored u at = write (write (write (write u.zp at u.regs.a) (at + 1) u.regs.x) (at + 2) (u.zp 2)) (at + 3) (u.zp 3)

abbrev pub pointed : State → State
pointed u = record u { regs = record u.regs { a = u.zp 3; n = nat_lt 127 (u.zp 3); z = nat_eq (u.zp 3) 0 }; zp = stored u 12 }

pub terms_at : (s : RawSetting) (bounds : Bounds) (P : State → Type 0) (B : ℕ → State → Type 0) (rest : List Line) (u : State) → Calls s bounds 3 takes routines.PopEax (leads_turn s bounds 3 takes P B [] (dividend_on rest)) (pointed u)
    → Ways s bounds P B [] (terms_on rest) u
unfolding leads_turn
terms_at s bounds P B rest u h = h

abbrev pub held : State → Bool → Bool → State
held u n z = record u { regs = record u.regs { a = u.zp 3; n = n; z = z }; zp = stored u 8 }

pub dividend_at : (s : RawSetting) (bounds : Bounds) (P : State → Type 0) (B : ℕ → State → Type 0) (rest : List Line) (u : State) → ((n z : Bool) → Ways s bounds P B [] rest (held u n z)) → Ways s bounds P B [] (dividend_on rest) u
unfolding leads_turn
dividend_at s bounds P B rest u follows = follows _ _

abbrev pub cleared : State → Bool → Bool → State
cleared u n z = record u { regs = record u.regs { a = 0; n = n; z = z }; zp = write (write (write (write u.zp 4 0) 5 0) 6 0) 7 0 }

pub nothing_at : (s : RawSetting) (bounds : Bounds) (P : State → Type 0) (B : ℕ → State → Type 0) (passed : List ℕ) (rest : List Line) (u : State) → ((n z : Bool) → Ways s bounds P B passed rest (cleared u n z)) → Ways s bounds P B passed (nothing_on rest) u
unfolding leads_turn
nothing_at s bounds P B passed rest u follows = follows _ _

-- EAX from regsave
abbrev pub remainder_on : List Line → List Line
remainder_on rest = zero_page Lda (regsave + 2) ∷ zero_page Sta sreg ∷ zero_page Lda (regsave + 3) ∷ zero_page Sta (sreg + 1) ∷ zero_page Lda regsave ∷ zero_page Ldx (regsave + 1) ∷ rest

abbrev pub from_regsave : State → Bool → Bool → State
from_regsave u n z = record u { regs = record u.regs { a = u.zp 4; x = u.zp 5; n = n; z = z }; zp = write (write u.zp 2 (u.zp 6)) 3 (u.zp 7) }

pub remainder_at : (s : RawSetting) (bounds : Bounds) (P : State → Type 0) (B : ℕ → State → Type 0) (passed : List ℕ) (rest : List Line) (u : State) → ((n z : Bool) → Ways s bounds P B passed rest (from_regsave u n z)) → Ways s bounds P B passed (remainder_on rest) u
unfolding leads_turn
remainder_at s bounds P B passed rest u follows = follows _ _

abbrev pub back_lines : List Line
back_lines = implied Rts ∷ []

pub back_at : (s : RawSetting) (bounds : Bounds) (P : State → Type 0) (B : ℕ → State → Type 0) (passed : List ℕ) (u : State) → u.pushed ≡ [] → P u → Ways s bounds P B passed back_lines u
unfolding leads_turn
back_at s bounds P B passed u none h = returns P u none h

-- an address that none of the places is lies behind sreg
pub beyond : (i : ℕ) → 2 ≤ i → is_among places i ≡ false → 4 ≤ i
beyond i two out =
    let two_not : i ≢ 2 = outside places 2 i refl out in
    let three_not : i ≢ 3 = outside places 3 i refl out in
    omega arith

-- Once the other term is popped, and both are in the pointers.
pub record Ready (t u : State) : Type 0 where
  pub beside : Beside t 4 u
  pub rest : (i : ℕ) → 2 ≤ i → is_among places i ≡ false → u.zp i ≡ t.zp i
  pub first : four u.zp 8 ≡ long_at t.mem (sp_of t)
  pub second : four u.zp 12 ≡ eax_of t
  pub top : u.regs.a ≡ u.zp 11
  pub tmp1 : u.zp 16 ≡ t.zp 16
  pub tmp2 : u.zp 17 ≡ t.zp 17
  pub byte : (i : ℕ) → u.zp i < 256

byte_write : (zp : Bytes) (at v i : ℕ) → v < 256 → zp i < 256 → write zp at v i < 256
byte_write zp at v i low high = elim (eqb_tells i at) [
  | inl same ↦ subst (λ (b : Bool). (if b then v else zp i) < 256) (sym same.0) low
  | inr other ↦ subst (λ (b : Bool). (if b then v else zp i) < 256) (sym other.0) high
]

pub ready : (back : Place) (t u : State) (n z : Bool) → IsBytes t → IsBytes u → PoppedLong (pointed (called back t)) u → Ready t (held u n z)
ready back t u n z bytes after p =
    let a = p.a in
    let x = p.x in
    let upper = p.sreg in
    let m0 = bytes.mem (sp_of t) in
    let m1 = bytes.mem (sp_of t + 1) in
    let m2 = bytes.mem (sp_of t + 2) in
    let m3 = bytes.mem (sp_of t + 2 + 1) in
    let e12 : u.zp 12 ≡ t.regs.a = p.zp 12 (omega arith) in
    let e13 : u.zp 13 ≡ t.regs.x = p.zp 13 (omega arith) in
    let e14 : u.zp 14 ≡ t.zp 2 = p.zp 14 (omega arith) in
    let e15 : u.zp 15 ≡ t.zp 3 = p.zp 15 (omega arith) in
    record {
      beside = record { sp = p.sp; mem = p.mem; pushed = p.pushed; input = p.input; output = p.output; ended = p.ended };
      rest = λ i two out. kept_four u.zp 8 9 10 11 u.regs.a u.regs.x (u.zp 2) (u.zp 3) i refl refl refl refl out ∙ (p.zp i (beyond i two out) ∙ kept_four t.zp 12 13 14 15 t.regs.a t.regs.x (t.zp 2) (t.zp 3) i refl refl refl refl out);
      first = omega arith;
      second = omega arith;
      top = refl;
      tmp1 = p.zp 16 (omega arith);
      tmp2 = p.zp 17 (omega arith);
      byte = λ i. byte_write (write (write (write u.zp 8 u.regs.a) 9 u.regs.x) 10 (u.zp 2)) 11 (u.zp 3) i (after.zp 3) (byte_write (write (write u.zp 8 u.regs.a) 9 u.regs.x) 10 (u.zp 2) i (after.zp 2) (byte_write (write u.zp 8 u.regs.a) 9 u.regs.x i after.x (byte_write u.zp 8 u.regs.a i after.a (after.zp i))));
    }
