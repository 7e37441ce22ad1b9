-- Widenings and loads.
use Rattle.std.proofs.Common.{◌≡◌, ℕ, ◌+◌, ◌-◌, ◌*◌, ◌%◌, ◌<◌, ◌≤◌, ◌⊎◌, inl, inr, [], Some, Bool, true, false, refl, sym, ap, ◌∙◌, subst, arith}
use Rattle.std.specs.Prelude.{nat_lt, if◌then◌else◌}
use Rattle.std.proofs.lemmas.Bool.{cases_lt}
use Rattle.std.proofs.lemmas.List.Elements.{All-nil}
use Rattle.c65_meaning.specs.State.{Scene}
use Rattle.c65_code.specs.declared.parts.Part.TheVariants.{Zp}
use Rattle.c65_code.specs.LineState.{State, word_at, sp_of, ax_of, IsBytes}
use Rattle.c65_code.specs.Placement.{IsPlacement, stack_end}
use Rattle.c65_code.specs.Texts.{range_of}
use Rattle.c65_code.specs.Rows.{long_at}
use Rattle.c65_code.specs.Steady.{IsOpen}
use Rattle.c65_agree_store.specs.Stands.{Placing, Banks}
use Rattle.c65_agree_state.specs.World.{World, Active}
use Rattle.c65_agree_state.specs.Exprs.{Ready}
use Rattle.c65_agree_numbers.specs.Words.{signed_byte, signed_long}
use Rattle.c65_agree_numbers.proofs.Tests.{less, not_less, at_most}
use Rattle.c65_agree_rows.specs.Rows.{Widening, SignedByte, SignedWord, UnsignedWord, widening_of, IsWidened, NearLoad, WordByY, WordAtSp, LongByY, near_load_of, near_width, IsOffset, IsNearLoaded, FarLoad, FarByte, FarWord, FarLong, far_load_of, far_width, IsFarLoaded}
use Rattle.c65_agree_rows.specs.Laws.{Runs, IsKeptWith, WideningsRun, NearLoadsRun, FarLoadsRun}
use Rattle.c65_agree_rows.proofs.Quiet.{in_range, quiet_row}
use Rattle.c65_agree_rows.proofs.Families.{HasRow, kept_runs}

-- ---- widened

signed_by : (b : Bool) (a : ℕ) → a + 256 * (if b then 255 else 0) ≡ (if b then a + 65280 else a)
signed_by true a = omega arith
signed_by false a = omega arith

byte_signed : (a x : ℕ) → a < 256 → a + 256 * (if nat_lt 127 a then 255 else 0) ≡ signed_byte (a + 256 * x)
byte_signed a x h =
    let low : a ≡ (a + 256 * x) % 256 = omega arith in
    signed_by (nat_lt 127 a) a ∙ ap (λ v. if nat_lt 127 v then v + 65280 else v) low

long_by : (b : Bool) (n : ℕ) → n + 65536 * (if b then 65535 else 0) ≡ (if b then n + 4294901760 else n)
long_by true n = omega arith
long_by false n = omega arith

same_sign : (a x : ℕ) → a < 256 → nat_lt 127 x ≡ nat_lt 32767 (a + 256 * x)
same_sign a x h = go (cases_lt 127 x)
  where
    go : (127 < x) ⊎ (x ≤ 127) → nat_lt 127 x ≡ nat_lt 32767 (a + 256 * x)
    go (inl lt) = less 127 x lt ∙ sym (less 32767 (a + 256 * x) (omega (arith, lt)))
    go (inr le) = not_less 127 x le ∙ sym (not_less 32767 (a + 256 * x) (omega (arith, le, h)))

word_signed : (a x : ℕ) → a < 256 → a + 256 * x + 65536 * (if nat_lt 127 x then 65535 else 0) ≡ signed_long (a + 256 * x)
word_signed a x h = long_by (nat_lt 127 x) (a + 256 * x) ∙ ap (λ b. if b then a + 256 * x + 4294901760 else a + 256 * x) (same_sign a x h)

widening_rows : (widening : Widening) (t : State) → IsBytes t → HasRow (widening_of widening) [] [] (IsWidened widening t) t
widening_rows SignedByte t b = record {
  row = _;
  is = refl;
  still = record { quiet = quiet_row _ refl refl refl refl refl; sp = refl; writes = refl };
  ready = refl;
  near = refl;
  far = refl;
  result = λ u meets. let a = meets.a in let x = meets.x in ap (λ v. v + 256 * u.regs.x) a ∙ ap (λ v. t.regs.a + 256 * v) x ∙ byte_signed t.regs.a t.regs.x b.a;
}
widening_rows SignedWord t b = record {
  row = _;
  is = refl;
  still = record { quiet = quiet_row _ refl refl refl refl refl; sp = refl; writes = refl };
  ready = refl;
  near = refl;
  far = refl;
  result = λ u meets. let a = meets.a in let x = meets.x in let s = meets.sreg in omega (arith, a, x, s, word_signed t.regs.a t.regs.x b.a);
}
widening_rows UnsignedWord t b = record {
  row = _;
  is = refl;
  still = record { quiet = quiet_row _ refl refl refl refl refl; sp = refl; writes = refl };
  ready = refl;
  near = refl;
  far = refl;
  result = λ u meets. let a = meets.a in let x = meets.x in let s = meets.sreg in omega (arith, a, x, s);
}

pub widenings_run : WideningsRun
widenings_run g a pushed needs c w k t widening placed r =
    kept_runs g a pushed needs c w k t placed r (widening_of widening) [] [] (IsWidened widening t) (widening_rows widening t r.joins.bytes) (All-nil (IsOpen g.place (sp_of t))) (All-nil (IsOpen g.place (sp_of t)))

-- ---- loaded

word_below : (t : State) (at : ℕ) → IsBytes t → word_at t.mem at < 65536
word_below t at b = omega (arith, b.mem at, b.mem (at + 1))

long_below : (t : State) (at : ℕ) → IsBytes t → long_at t.mem at < 4294967296
long_below t at b = omega (arith, word_below t at b, word_below t (at + 2) b)

-- a load of bytes from `at` on that are counted from sp
abbrev HasNear : NearLoad → ℕ → State → Type 0
HasNear load at t = HasRow (near_load_of load) (range_of (near_width load) at) [] (IsNearLoaded load at t) t

pub near_rows : (load : NearLoad) (o : ℕ) (t : State) → IsBytes t → IsOffset load o t.regs.y → HasNear load (sp_of t + o) t
near_rows WordByY o t b e =
    let at : sp_of t + t.regs.y - 1 ≡ sp_of t + o = omega (arith, e) in
    record {
      row = _;
      is = refl;
      still = record { quiet = quiet_row _ refl refl refl refl refl; sp = refl; writes = refl };
      ready = at_most 1 t.regs.y (omega (arith, e));
      near = ap (range_of 2) at;
      far = refl;
      result = λ u meets. let a = meets.a in let x = meets.x in let h = word_below t (sp_of t + t.regs.y - 1) b in omega (arith, a, x, h) ∙ ap (word_at t.mem) at;
    }
near_rows WordAtSp o t b e =
    let at : sp_of t ≡ sp_of t + o = omega (arith, e) in
    record {
      row = _;
      is = refl;
      still = record { quiet = quiet_row _ refl refl refl refl refl; sp = refl; writes = refl };
      ready = refl;
      near = ap (range_of 2) at;
      far = refl;
      result = λ u meets. let a = meets.a in let x = meets.x in let h = word_below t (sp_of t) b in omega (arith, a, x, h) ∙ ap (word_at t.mem) at;
    }
near_rows LongByY o t b e =
    let at : sp_of t + t.regs.y - 3 ≡ sp_of t + o = omega (arith, e) in
    record {
      row = _;
      is = refl;
      still = record { quiet = quiet_row _ refl refl refl refl refl; sp = refl; writes = refl };
      ready = at_most 3 t.regs.y (omega (arith, e));
      near = ap (range_of 4) at;
      far = refl;
      result = λ u meets. let a = meets.a in let x = meets.x in let s = meets.sreg in let h = long_below t (sp_of t + t.regs.y - 3) b in omega (arith, a, x, s, h) ∙ ap (long_at t.mem) at;
    }

pub near_loads_run : NearLoadsRun
near_loads_run g a pushed needs c w k t load o placed r e fits =
    kept_runs g a pushed needs c w k t placed r (near_load_of load) (range_of (near_width load) (sp_of t + o)) [] (IsNearLoaded load (sp_of t + o) t) (near_rows load o t r.joins.bytes e)
    (in_range (IsOpen g.place (sp_of t)) (near_width load) (sp_of t + o) (λ i lt. inr (omega arith, omega (arith, lt, fits))))
    (All-nil (IsOpen g.place (sp_of t)))

-- ptr2 stays
pub record LeavesSecond (t u : State) : Type 0 where
  pub low : u.zp 10 ≡ t.zp 10
  pub high : u.zp 11 ≡ t.zp 11

abbrev HasLight : NearLoad → ℕ → State → Type 0
HasLight load at t = HasRow (near_load_of load) (range_of (near_width load) at) [] (λ u. IsNearLoaded load at t u × LeavesSecond t u) t

light_rows : (load : NearLoad) (o : ℕ) (t : State) → IsBytes t → IsOffset load o t.regs.y → HasLight load (sp_of t + o) t
light_rows WordByY o t b e =
    let at : sp_of t + t.regs.y - 1 ≡ sp_of t + o = omega (arith, e) in
    record {
      row = _;
      is = refl;
      still = record { quiet = quiet_row _ refl refl refl refl refl; sp = refl; writes = refl };
      ready = at_most 1 t.regs.y (omega (arith, e));
      near = ap (range_of 2) at;
      far = refl;
      result = λ u meets.
          let a = meets.a in let x = meets.x in let h = word_below t (sp_of t + t.regs.y - 1) b in
          (omega (arith, a, x, h) ∙ ap (word_at t.mem) at, record { low = sym (meets.kept (Zp 10) refl); high = sym (meets.kept (Zp 11) refl) });
    }
light_rows WordAtSp o t b e =
    let at : sp_of t ≡ sp_of t + o = omega (arith, e) in
    record {
      row = _;
      is = refl;
      still = record { quiet = quiet_row _ refl refl refl refl refl; sp = refl; writes = refl };
      ready = refl;
      near = ap (range_of 2) at;
      far = refl;
      result = λ u meets.
          let a = meets.a in let x = meets.x in let h = word_below t (sp_of t) b in
          (omega (arith, a, x, h) ∙ ap (word_at t.mem) at, record { low = sym (meets.kept (Zp 10) refl); high = sym (meets.kept (Zp 11) refl) });
    }
light_rows LongByY o t b e =
    let at : sp_of t + t.regs.y - 3 ≡ sp_of t + o = omega (arith, e) in
    record {
      row = _;
      is = refl;
      still = record { quiet = quiet_row _ refl refl refl refl refl; sp = refl; writes = refl };
      ready = at_most 3 t.regs.y (omega (arith, e));
      near = ap (range_of 4) at;
      far = refl;
      result = λ u meets.
          let a = meets.a in let x = meets.x in let s = meets.sreg in let h = long_below t (sp_of t + t.regs.y - 3) b in
          (omega (arith, a, x, s, h) ∙ ap (long_at t.mem) at, record { low = sym (meets.kept (Zp 10) refl); high = sym (meets.kept (Zp 11) refl) });
    }

-- such a load leaves ptr2
pub light_loads_run : (g : World) (a : Active) (pushed needs : ℕ) (c : Scene) (w : Placing) (k : Banks) (t : State) (load : NearLoad) (o : ℕ)
    → IsPlacement g.code g.place → Ready g a pushed needs c w k t → IsOffset load o t.regs.y → sp_of t + o + near_width load ≤ stack_end
    → Runs g (near_load_of load) t (IsKeptWith g a c w k t (λ u. IsNearLoaded load (sp_of t + o) t u × LeavesSecond t u))
light_loads_run g a pushed needs c w k t load o placed r e fits =
    kept_runs g a pushed needs c w k t placed r (near_load_of load) (range_of (near_width load) (sp_of t + o)) [] (λ u. IsNearLoaded load (sp_of t + o) t u × LeavesSecond t u) (light_rows load o t r.joins.bytes e)
    (in_range (IsOpen g.place (sp_of t)) (near_width load) (sp_of t + o) (λ i lt. inr (omega arith, omega (arith, lt, fits))))
    (All-nil (IsOpen g.place (sp_of t)))

pub far_rows : (load : FarLoad) (t : State) → IsBytes t → HasRow (far_load_of load) [] (range_of (far_width load) (ax_of t)) (IsFarLoaded load t) t
far_rows FarByte t b = record {
  row = _;
  is = refl;
  still = record { quiet = quiet_row _ refl refl refl refl refl; sp = refl; writes = refl };
  ready = refl;
  near = refl;
  far = refl;
  result = λ u meets. let a = meets.a in let x = meets.x in omega (arith, a, x, b.mem (ax_of t));
}
far_rows FarWord t b = record {
  row = _;
  is = refl;
  still = record { quiet = quiet_row _ refl refl refl refl refl; sp = refl; writes = refl };
  ready = refl;
  near = refl;
  far = refl;
  result = λ u meets. let a = meets.a in let x = meets.x in omega (arith, a, x, word_below t (ax_of t) b);
}
far_rows FarLong t b = record {
  row = _;
  is = refl;
  still = record { quiet = quiet_row _ refl refl refl refl refl; sp = refl; writes = refl };
  ready = refl;
  near = refl;
  far = refl;
  result = λ u meets. let a = meets.a in let x = meets.x in let s = meets.sreg in omega (arith, a, x, s, long_below t (ax_of t) b);
}

pub far_loads_run : FarLoadsRun
far_loads_run g a pushed needs c w k t load placed r fits =
    kept_runs g a pushed needs c w k t placed r (far_load_of load) [] (range_of (far_width load) (ax_of t)) (IsFarLoaded load t) (far_rows load t r.joins.bytes)
    (All-nil (IsOpen g.place (sp_of t)))
    (in_range (IsOpen g.place (sp_of t)) (far_width load) (ax_of t) fits)
