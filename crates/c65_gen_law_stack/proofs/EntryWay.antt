-- The entry of a function.
use Rattle.std.proofs.Common.{◌≡◌, ℕ, zero, suc, ◌+◌, ◌-◌, ◌<◌, ◌*◌, ◌/◌, ◌%◌, ◌==◌, ◌≤◌, inl, inr, Bool, true, false, Option, None, Some, List, [], ◌∷◌, ◌++◌, length, refl, sym, ap, subst, ◌∙◌, arith}
use Rattle.std.specs.Prelude.{if◌then◌else◌, nat_lt, IsTrue}
use Rattle.std.proofs.lemmas.Bool.{eqb-true, ltb-true, ltb-false}
use Rattle.c65_mach.specs.State.{Regs}
use Rattle.c65_mach.specs.Step.{after}
use Rattle.c65_mach.specs.declared.rows.Op.TheVariants.{Adc, Clc, Iny, Ldy, Lda, Sta, Stx, Tax, Tay, Txa, Tya}
use Rattle.c65_code.specs.declared.routine.Count.{Count}
use Rattle.c65_code.specs.declared.routine.Count.TheVariants.{One, Two, Three, Four, Five, Six, Seven, Eight}
use Rattle.c65_code.specs.declared.routine.Routine.TheVariants.{PushA, PushAx, PushEax, LdAxYSp, LdAi, LdAxi, SaveRegs, SubYSp, DecSp, StkChk}
use Rattle.c65_code.specs.declared.line.Line.{Line}
use Rattle.c65_code.specs.Texts.{bytes_at}
use Rattle.c65_code.specs.LineState.{Bytes, write, Place, State, sp_of}
use Rattle.c65_code.specs.Placement.{Setting}
use Rattle.c65_code.specs.declared.parts.Part.TheVariants.{Y}
use Rattle.c65_code.specs.Rows.{Meets, number_of, bank_of, row_by, costing, is_too_deep, check_row}
use Rattle.c65_code.specs.Moves.{Moves}
use Rattle.c65_code.specs.Steady.{IsCalm}
use Rattle.c65_genframe.specs.declared.home.Arrival.{Arrival}
use Rattle.c65_genframe.specs.declared.home.Arrival.TheVariants.{Passed, Pushed, Kept}
use Rattle.c65_genframe.specs.declared.home.Moved.{Moved}
use Rattle.c65_genframe.specs.Frames.{Framed, saved_bytes}
use Rattle.c65_genwide.specs.Lines.{value, call}
use Rattle.c65_genwide.specs.Passing.{three_code}
use Rattle.c65_genentry.specs.Words.{sp, sreg, tmp1, tmp2, tmp3, tmp4, regbank, implied, zero_page, by_y}
use Rattle.c65_genentry.specs.Stack.{count_of, lower_by, small_lower, repeated, lower_code}
use Rattle.c65_genentry.specs.Entry.{pushed_code, bank_store, kept_code, bank_saves, few_saved, saved_code, counted_code, count_code, near_load, far_load, load_code, moved_code, all_moved, counted_at, counted_store, counted_move, all_counted, raised_moves, early_moves, late_moves, taken_bytes, checked_code, taking_code, entry_code}
use Rattle.c65_gen_law_stack.specs.Passing.{Passes}
use Rattle.c65_gen_law_stack.specs.Calls.{pushed_bytes, entry_bytes, caller_bank, IsEntered}
use Rattle.c65_gen_law_stack.proofs.Steps.{write_other, bytes_same, Sinks, Quiet, sinks_same, sinks_then, quiet_same, quiet_then, pushes_a, pushes_ax, pushes_eax, saves, lowers, lowers_y, bank_kept}
use Rattle.c65_gen_law_stack.proofs.Ways.{calm_at, halves, single, simple_way}
use Rattle.c65_gen_law_stack.proofs.BankWay.{bytes_as, Rest, bank_halves, first_same, rest_same, rest_stored, saved_is, saved_few, Saves, saves_way}

-- ---- the last parameter

-- sp is lower by so many bytes, and regbank has not changed
record Lowers (n : ℕ) (t u : State) : Type 0 where
  sinks : Sinks n t u
  bank : bank_of u ≡ bank_of t

lowers_quiet : {n : ℕ} {t u : State} → Quiet n t u → Lowers n t u
lowers_quiet p = record { sinks = p.sinks; bank = p.bank }

-- three bytes are stored one behind another, from sp on
abbrev three_stores : List Line
three_stores = value Ldy 0 ∷ by_y Sta sp ∷ implied Iny ∷ implied Txa ∷ by_y Sta sp ∷ implied Iny ∷ zero_page Lda sreg ∷ by_y Sta sp ∷ []

above_three : (m : Bytes) (w a x z b : ℕ) → w + 3 ≤ 65535 → w + 3 ≤ b → write (write (write m (after w 0) a) (after w 1) x) (after w 2) z b ≡ m b
above_three m w a x z b low h =
    let m0 : Bytes = write m (after w 0) a in
    let m1 : Bytes = write m0 (after w 1) x in
    write_other m1 (after w 2) z b (λ e. omega (arith, e, low, h)) ∙ (write_other m0 (after w 1) x b (λ e. omega (arith, e, low, h)) ∙ write_other m (after w 0) a b (λ e. omega (arith, e, low, h)))

stores_way : (s : Setting) (p q : Place) (t u : State) → sp_of t + 3 ≤ 65535 → Passes s three_stores p t q u → (sp_of u ≡ sp_of t) × ((b : ℕ) → sp_of t + 3 ≤ b → u.mem b ≡ t.mem b) × (u.pushed ≡ t.pushed) × (u.frames ≡ t.frames) × (bank_of u ≡ bank_of t)
stores_way s p q t u low h =
    let all = simple_way s three_stores p q t u refl h in
    (ap sp_of all, (λ b above. ap (λ (x : State). x.mem b) all ∙ above_three t.mem (sp_of t) t.regs.a t.regs.x (t.zp 2) b low above), ap (λ (x : State). x.pushed) all, ap (λ (x : State). x.frames) all, ap bank_of all)

three_way : (s : Setting) (p q : Place) (t u : State) → Passes s three_code p t q u → Lowers 3 t u
three_way s p q t u h =
    let two = halves s (call (DecSp Three) ∷ []) three_stores p q t u h in
    let v : State = two.1 in
    let one = single s (call (DecSp Three)) p two.0 t v two.2 in
    let low : Quiet 3 t v = lowers Three s p two.0 t v (omega (arith, one.0.calm.low)) one.1 in
    let stored = stores_way s two.0 q v u (omega (arith, low.sinks.sp, one.0.calm.high)) two.3 in
    record {
      sinks = record {
        sp = omega (arith, low.sinks.sp, stored.0);
        mem = λ b above. stored.1 b (omega (arith, low.sinks.sp, above)) ∙ low.sinks.mem b above;
        pushed = stored.2 ∙ low.sinks.pushed;
        frames = stored.3 ∙ low.sinks.frames;
      };
      bank = stored.4 ∙ low.bank;
    }

push_way : (b c d : Bool) (s : Setting) (p q : Place) (t u : State) → Passes s (if b then call PushA ∷ [] else (if c then call PushAx ∷ [] else (if d then three_code else call PushEax ∷ []))) p t q u
    → Lowers (if b then 1 else (if c then 2 else (if d then 3 else 4))) t u
push_way true c d s p q t u h = let one = single s (call PushA) p q t u h in lowers_quiet (pushes_a s p q t u one.0.calm one.1).1
push_way false true d s p q t u h = let one = single s (call PushAx) p q t u h in lowers_quiet (pushes_ax s p q t u one.0.calm one.1)
push_way false false true s p q t u h = three_way s p q t u h
push_way false false false s p q t u h = let one = single s (call PushEax) p q t u h in lowers_quiet (pushes_eax s p q t u one.0.calm one.1)

same_quiet : (t u : State) → u ≡ t → Quiet 0 t u
same_quiet t u e = subst (λ (x : State). Quiet 0 t x) (sym e) (quiet_same t)

same_sinks : (t u : State) → u ≡ t → Sinks 0 t u
same_sinks t u e = subst (λ (x : State). Sinks 0 t x) (sym e) (sinks_same t)

pushed_way : (a : Arrival) (s : Setting) (p q : Place) (t u : State) → Passes s (pushed_code a) p t q u → Lowers (pushed_bytes a) t u
pushed_way (Pushed bytes) s p q t u h = push_way (nat_lt bytes 2) (nat_lt bytes 3) (nat_lt bytes 4) s p q t u h
pushed_way Passed s p q t u h = lowers_quiet (same_quiet t u h.1)
pushed_way (Kept bank bytes) s p q t u h = lowers_quiet (same_quiet t u h.1)

-- ---- lines that change registers alone, and what lies below sp

record Registers (t u : State) : Type 0 where
  sinks : Sinks 0 t u
  bank : bank_of u ≡ bank_of t

registers_then : {t u v : State} → Registers t u → Registers u v → Registers t v
registers_then p q = record { sinks = sinks_then p.sinks q.sinks; bank = q.bank ∙ p.bank }

registers_only : (t u : State) (r : Regs) → u ≡ record t { regs = r } → Registers t u
registers_only t u r e = subst (λ (x : State). Registers t x) (sym e) (record { sinks = record { sp = omega arith; mem = λ b h. refl; pushed = refl; frames = refl }; bank = refl })

counted_way : (variadic : Bool) (s : Setting) (p q : Place) (t u : State) → Passes s (counted_code variadic) p t q u → Registers t u × (IsTrue variadic → u.regs.a ≡ t.regs.y)
counted_way true s p q t u h =
    let e = simple_way s (counted_code true) p q t u refl h in
    (registers_only t u _ e, λ v. ap (λ (x : State). x.regs.a) e)
counted_way false s p q t u h = (record { sinks = same_sinks t u h.1; bank = ap bank_of h.1 }, λ v. absurd cc)

-- ---- stores to regbank

-- sp and what lies at it and above stay, and so do the bytes of regbank from one on
record Moving (k : ℕ) (t u : State) : Type 0 where
  sinks : Sinks 0 t u
  rest : Rest k t u

moving_same : (k : ℕ) (t u : State) → u ≡ t → Moving k t u
moving_same k t u e = record { sinks = same_sinks t u e; rest = ap (λ (x : State). bytes_at (6 - k) (20 + k) x.zp) e }

moving_then : {k : ℕ} {t u v : State} → Moving k t u → Moving k u v → Moving k t v
moving_then p q = record { sinks = sinks_then p.sinks q.sinks; rest = q.rest ∙ p.rest }

moving_by : (n : ℕ) {t u : State} → Sinks 0 t u → bank_of u ≡ bank_of t → Moving (saved_bytes n) t u
moving_by n {t = t} {u = u} s e = record { sinks = s; rest = rest_same (saved_bytes n) t u (saved_few n) e }

-- a store of so many bytes from byte bank of regbank on takes one or two
abbrev pub stored_bytes : ℕ → ℕ
stored_bytes bytes = if nat_lt bytes 2 then 1 else 2

-- the first n bytes of regbank are taken, and those from there on, as many as are not saved, do not lie at byte b
apart : (n b : ℕ) → b < n → (j : ℕ) → j < 6 - saved_bytes n → 20 + saved_bytes n + j ≡ (20 + b) % 256 → ⊥
apart n b l j less z = elim (saved_is n) [ inl x ↦ omega (arith, x.0, x.1, l, less, z) | inr x ↦ omega (arith, x.1, less) ]

apart_next : (n b : ℕ) → b + 2 ≤ n → (j : ℕ) → j < 6 - saved_bytes n → 20 + saved_bytes n + j ≡ ((20 + b) % 256 + 1) % 256 → ⊥
apart_next n b l j less z = elim (saved_is n) [ inl x ↦ omega (arith, x.0, x.1, l, less, z) | inr x ↦ omega (arith, x.1, less) ]

store_moves : (k : ℕ) (t u : State) (i v : ℕ) → 2 ≤ i → ((j : ℕ) → j < 6 - k → 20 + k + j ≡ i → ⊥) → u ≡ record t { zp = write t.zp i v } → Moving k t u
store_moves k t u i v h off e =
    let low : write t.zp i v 0 ≡ t.zp 0 = write_other t.zp i v 0 (λ z. omega (arith, z, h)) in
    let high : write t.zp i v 1 ≡ t.zp 1 = write_other t.zp i v 1 (λ z. omega (arith, z, h)) in
    subst (λ (x : State). Moving k t x) (sym e) (record { sinks = record { sp = omega (arith, low, high); mem = λ b h. refl; pushed = refl; frames = refl }; rest = rest_stored k i v t.zp off })

sta_way : (k : ℕ) (s : Setting) (i : ℕ) (p q : Place) (t u : State) → ((j : ℕ) → j < 6 - k → 20 + k + j ≡ i → ⊥) → Passes s (zero_page Sta i ∷ []) p t q u → Moving k t u
sta_way k s i p q t u off h =
    let one = single s (zero_page Sta i) p q t u h in
    store_moves k t u i t.regs.a (one.0.within.1 tt) off one.1.goes.1

stx_way : (k : ℕ) (s : Setting) (i : ℕ) (p q : Place) (t u : State) → ((j : ℕ) → j < 6 - k → 20 + k + j ≡ i → ⊥) → Passes s (zero_page Stx i ∷ []) p t q u → Moving k t u
stx_way k s i p q t u off h =
    let one = single s (zero_page Stx i) p q t u h in
    store_moves k t u i t.regs.x (one.0.within.1 tt) off one.1.goes.1

bank_way : (n : ℕ) (s : Setting) (bank bytes : ℕ) (p q : Place) (t u : State) → bank + stored_bytes bytes ≤ n → Passes s (bank_store bank bytes) p t q u → Moving (saved_bytes n) t u
bank_way n s bank bytes p q t u fits h = by (nat_lt bytes 2) fits h
  where
    by : (b : Bool) → bank + (if b then 1 else 2) ≤ n → Passes s (if b then zero_page Sta ((regbank + bank) % 256) ∷ [] else zero_page Sta ((regbank + bank) % 256) ∷ zero_page Stx (((regbank + bank) % 256 + 1) % 256) ∷ []) p t q u → Moving (saved_bytes n) t u
    by true fits h = sta_way (saved_bytes n) s ((regbank + bank) % 256) p q t u (apart n bank (omega (arith, fits))) h
    by false fits h =
        let two = halves s (zero_page Sta ((regbank + bank) % 256) ∷ []) (zero_page Stx (((regbank + bank) % 256 + 1) % 256) ∷ []) p q t u h in
        moving_then (sta_way (saved_bytes n) s ((regbank + bank) % 256) p two.0 t two.1 (apart n bank (omega (arith, fits))) two.2) (stx_way (saved_bytes n) s (((regbank + bank) % 256 + 1) % 256) two.0 q two.1 u (apart_next n bank fits) two.3)

-- what arrives in registers and is kept lies among the first bytes of regbank
abbrev pub KeptWithin : ℕ → Arrival → Type 0
KeptWithin n (Kept bank bytes) = bank + stored_bytes bytes ≤ n
KeptWithin n _ = Unit {0}

-- and so do parameters that move there
abbrev pub MovedWithin : ℕ → List Moved → Type 0
MovedWithin n [] = Unit {0}
MovedWithin n (m ∷ ms) = (m.bank + stored_bytes m.bytes ≤ n) × MovedWithin n ms

kept_way : (n : ℕ) (a : Arrival) (s : Setting) (p q : Place) (t u : State) → KeptWithin n a → Passes s (kept_code a) p t q u → Moving (saved_bytes n) t u
kept_way n (Kept bank bytes) s p q t u fits h = bank_way n s bank bytes p q t u fits h
kept_way n Passed s p q t u fits h = moving_same (saved_bytes n) t u h.1
kept_way n (Pushed bytes) s p q t u fits h = moving_same (saved_bytes n) t u h.1

-- ---- sp is lowered

number_in : Option Count → ℕ
number_in None = 0
number_in (Some c) = number_of c

pub counted_of : (n : ℕ) (c : Count) → count_of n ≡ Some c → number_of c ≡ n
unfolding number_in
counted_of zero c h = absurd cc
counted_of (suc zero) c h = sym (ap number_in h)
counted_of (suc (suc zero)) c h = sym (ap number_in h)
counted_of (suc (suc (suc n))) c h = absurd cc

few : (c : Count) → number_of c ≤ 8
few One = omega arith
few Two = omega arith
few Three = omega arith
few Four = omega arith
few Five = omega arith
few Six = omega arith
few Seven = omega arith
few Eight = omega arith

quiet_as : {m n : ℕ} {t u : State} → m ≡ n → Quiet m t u → Quiet n t u
quiet_as {t = t} {u = u} e p = subst (λ (k : ℕ). Quiet k t u) e p

registers_quiet : (t u : State) (n : ℕ) → Registers t u → u.regs.a ≡ t.regs.a → Quiet 0 t u
registers_quiet t u n r a = record { sinks = r.sinks; a = a; bank = r.bank }

lower_by_way : (n : ℕ) (c : Option Count) (s : Setting) (p q : Place) (t u : State) → count_of n ≡ c → Passes s (lower_by n c) p t q u → Quiet n t u
lower_by_way n (Some c) s p q t u e h =
    let one = single s (call (DecSp c)) p q t u h in
    quiet_as (counted_of n c e) (lowers c s p q t u (omega (arith, one.0.calm.low, few c)) one.1)
lower_by_way n None s p q t u e h =
    let two = halves s (value Ldy n ∷ []) (call SubYSp ∷ []) p q t u h in
    let v : State = two.1 in
    let set = simple_way s (value Ldy n ∷ []) p two.0 t v refl two.2 in
    let one = single s (call SubYSp) two.0 q v u two.3 in
    let y : v.regs.y ≡ n = ap (λ (x : State). x.regs.y) set in
    let low : Quiet v.regs.y v u = lowers_y s two.0 q v u (omega (arith, one.0.calm.low, one.0.calm.bytes.y)) one.1 in
    let first : Quiet 0 t v = record { sinks = (registers_only t v _ set).sinks; a = ap (λ (x : State). x.regs.a) set; bank = (registers_only t v _ set).bank } in
    quiet_as (omega (arith, y)) (quiet_then first low)

small_way : (n : ℕ) (s : Setting) (p q : Place) (t u : State) → Passes s (small_lower n) p t q u → Quiet n t u
small_way n s p q t u h = by (n == 0) refl h
  where
    by : (b : Bool) → (n == 0) ≡ b → Passes s (if b then [] else lower_by n (count_of n)) p t q u → Quiet n t u
    by true e h = quiet_as (sym (eqb-true n 0 e)) (same_quiet t u h.1)
    by false e h = lower_by_way n (count_of n) s p q t u refl h

repeated_way : (n k : ℕ) (s : Setting) (p q : Place) (t u : State) → Passes s (repeated n (small_lower k)) p t q u → Quiet (n * k) t u
repeated_way zero k s p q t u h = quiet_as (omega arith) (same_quiet t u h.1)
repeated_way (suc n) k s p q t u h =
    let two = halves s (repeated n (small_lower k)) (small_lower k) p q t u h in
    quiet_as (omega arith) (quiet_then (repeated_way n k s p two.0 t two.1 two.2) (small_way k s two.0 q two.1 u two.3))

lower_way : (n : ℕ) (s : Setting) (p q : Place) (t u : State) → Passes s (lower_code n) p t q u → Quiet n t u
lower_way n s p q t u h =
    let two = halves s (repeated (n / 255) (small_lower 255)) (small_lower (n % 255)) p q t u h in
    quiet_as (omega arith) (quiet_then (repeated_way (n / 255) 255 s p two.0 t two.1 two.2) (small_way (n % 255) s two.0 q two.1 u two.3))

-- ---- the bytes of regbank that are taken are saved

few_saved_way : (n : ℕ) (s : Setting) (p q : Place) (t u : State) → n ≤ 6 → Passes s (few_saved n) p t q u → Quiet n t u × (bytes_at n (sp_of u) u.mem ≡ bytes_at n 20 t.zp)
few_saved_way n s p q t u few h =
    let h1 = halves s (lower_code n) (zero_page Sta tmp1 ∷ (bank_saves n ++ zero_page Lda tmp1 ∷ [])) p q t u h in
    let h2 = halves s (zero_page Sta tmp1 ∷ []) (bank_saves n ++ zero_page Lda tmp1 ∷ []) h1.0 q h1.1 u h1.3 in
    let h3 = halves s (bank_saves n) (zero_page Lda tmp1 ∷ []) h2.0 q h2.1 u h2.3 in
    let t1 : State = h1.1 in
    let t2 : State = h2.1 in
    let t3 : State = h3.1 in
    let low : Quiet n t t1 = lower_way n s p h1.0 t t1 h1.2 in
    let calm : IsCalm s t = calm_at s (lower_code n) p h1.0 t t1 h1.2 in
    let e2 = simple_way s (zero_page Sta tmp1 ∷ []) h1.0 h2.0 t1 t2 refl h2.2 in
    let sp2 : sp_of t2 ≡ sp_of t1 = ap sp_of e2 in
    let saves : Saves n t2 t3 = saves_way n s h2.0 h3.0 t2 t3 few (omega (arith, sp2, low.sinks.sp, calm.high)) h3.2 in
    let e4 = simple_way s (zero_page Lda tmp1 ∷ []) h3.0 q t3 u refl h3.3 in
    let sp4 : sp_of u ≡ sp_of t2 = ap sp_of e4 ∙ saves.sp in
    let bank2 : bank_of t2 ≡ bank_of t = ap bank_of e2 ∙ low.bank in
    let saved : (j : ℕ) → j < n → u.mem (sp_of u + j) ≡ t2.zp (20 + j) = λ j l. ap (λ (x : State). x.mem (sp_of u + j)) e4 ∙ (ap (λ (b : ℕ). t3.mem (b + j)) sp4 ∙ saves.there j l) in (
      record {
        sinks = record {
          sp = omega (arith, sp4, sp2, low.sinks.sp);
          mem = λ b l. ap (λ (x : State). x.mem b) e4 ∙ (saves.mem b (omega (arith, sp2, low.sinks.sp, l)) ∙ (ap (λ (x : State). x.mem b) e2 ∙ low.sinks.mem b l));
          pushed = ap (λ (x : State). x.pushed) e4 ∙ (saves.pushed ∙ (ap (λ (x : State). x.pushed) e2 ∙ low.sinks.pushed));
          frames = ap (λ (x : State). x.frames) e4 ∙ (saves.frames ∙ (ap (λ (x : State). x.frames) e2 ∙ low.sinks.frames));
        };
        a = ap (λ (x : State). x.regs.a) e4 ∙ (ap (λ (z : Bytes). z 16) saves.zp ∙ (ap (λ (x : State). x.zp 16) e2 ∙ low.a));
        bank = ap bank_of e4 ∙ (ap (λ (z : Bytes). bytes_at 6 20 z) saves.zp ∙ bank2);
      },
      bytes_as n (sp_of u) 20 u.mem t2.zp saved ∙ first_same n t t2 few bank2,
    )

saved_way : (bank : ℕ) (s : Setting) (p q : Place) (t u : State) → Passes s (saved_code bank) p t q u → Quiet (saved_bytes bank) t u × (bytes_at (saved_bytes bank) (sp_of u) u.mem ≡ bytes_at (saved_bytes bank) 20 t.zp)
saved_way bank s p q t u h = by (bank == 0) (nat_lt bank 6) refl refl h
  where
    by : (z b : Bool) → (bank == 0) ≡ z → nat_lt bank 6 ≡ b → Passes s (if z then [] else (if b then few_saved bank else call SaveRegs ∷ [])) p t q u → Quiet (if b then bank else 6) t u × (bytes_at (if b then bank else 6) (sp_of u) u.mem ≡ bytes_at (if b then bank else 6) 20 t.zp)
    by true true e f h =
        let none : bank ≡ 0 = eqb-true bank 0 e in
        (quiet_as (sym none) (same_quiet t u h.1), ap (λ (n : ℕ). bytes_at n (sp_of u) u.mem) none ∙ sym (ap (λ (n : ℕ). bytes_at n 20 t.zp) none))
    by true false e f h = absurd (omega (arith, eqb-true bank 0 e, ltb-false bank 6 f))
    by false true e f h = few_saved_way bank s p q t u (omega (arith, ltb-true bank 6 f)) h
    by false false e f h =
        let one = single s (call SaveRegs) p q t u h in
        let both = saves s p q t u one.0.calm one.1 in
        (both.1, both.0.there)

-- ---- the number of bytes that a variadic call pushed

record Counts (variadic : Bool) (t u : State) : Type 0 where
  quiet : Quiet (if variadic then 1 else 0) t u
  there : IsTrue variadic → u.mem (sp_of u) ≡ t.regs.a

first_byte : (m : Bytes) (at v : ℕ) → bytes_at 1 at m ≡ v ∷ [] → m at ≡ v
first_byte m at v e = cc

count_way : (variadic : Bool) (s : Setting) (p q : Place) (t u : State) → Passes s (count_code variadic) p t q u → Counts variadic t u
count_way true s p q t u h =
    let one = single s (call PushA) p q t u h in
    let both = pushes_a s p q t u one.0.calm one.1 in
    record { quiet = both.1; there = λ v. first_byte u.mem (sp_of u) t.regs.a both.0.there }
count_way false s p q t u h = record { quiet = same_quiet t u h.1; there = λ v. absurd cc }

-- ---- parameters that move to regbank

ldaxysp_way : (s : Setting) (p q : Place) (t u : State) → Moves s (call LdAxYSp) p t q u → Registers t u
ldaxysp_way s p q t u m = let meets = m.goes.1 in record { sinks = record { sp = omega (arith, meets.sp); mem = λ b h. meets.mem b (inr (inl h)); pushed = meets.pushed; frames = meets.frames }; bank = bank_kept _ t u meets refl refl refl refl refl refl }

ldai_way : (s : Setting) (p q : Place) (t u : State) → Moves s (call LdAi) p t q u → Registers t u
ldai_way s p q t u m = let meets = m.goes.1 in record { sinks = record { sp = omega (arith, meets.sp); mem = λ b h. meets.mem b (inr (inl h)); pushed = meets.pushed; frames = meets.frames }; bank = bank_kept _ t u meets refl refl refl refl refl refl }

ldaxi_way : (s : Setting) (p q : Place) (t u : State) → Moves s (call LdAxi) p t q u → Registers t u
ldaxi_way s p q t u m = let meets = m.goes.1 in record { sinks = record { sp = omega (arith, meets.sp); mem = λ b h. meets.mem b (inr (inl h)); pushed = meets.pushed; frames = meets.frames }; bank = bank_kept _ t u meets refl refl refl refl refl refl }

near_way : (b : Bool) (at : ℕ) (s : Setting) (p q : Place) (t u : State) → Passes s (if b then value Ldy at ∷ by_y Lda sp ∷ [] else value Ldy (at + 1) ∷ call LdAxYSp ∷ []) p t q u → Registers t u
near_way true at s p q t u h = registers_only t u _ (simple_way s (value Ldy at ∷ by_y Lda sp ∷ []) p q t u refl h)
near_way false at s p q t u h =
    let two = halves s (value Ldy (at + 1) ∷ []) (call LdAxYSp ∷ []) p q t u h in
    let one = single s (call LdAxYSp) two.0 q two.1 u two.3 in
    registers_then (registers_only t two.1 _ (simple_way s (value Ldy (at + 1) ∷ []) p two.0 t two.1 refl two.2)) (ldaxysp_way s two.0 q two.1 u one.1)

-- the address so far above sp
abbrev address_code : ℕ → List Line
address_code at = implied Clc ∷ zero_page Lda sp ∷ value Adc (at % 256) ∷ implied Tay ∷ zero_page Lda (sp + 1) ∷ value Adc (at / 256) ∷ implied Tax ∷ implied Tya ∷ []

load_last_way : (b : Bool) (s : Setting) (p q : Place) (t u : State) → Passes s (if b then call LdAi ∷ [] else call LdAxi ∷ []) p t q u → Registers t u
load_last_way true s p q t u h = let one = single s (call LdAi) p q t u h in ldai_way s p q t u one.1
load_last_way false s p q t u h = let one = single s (call LdAxi) p q t u h in ldaxi_way s p q t u one.1

far_way : (at bytes : ℕ) (s : Setting) (p q : Place) (t u : State) → Passes s (far_load at bytes) p t q u → Registers t u
far_way at bytes s p q t u h =
    let two = halves s (address_code at) (if nat_lt bytes 2 then call LdAi ∷ [] else call LdAxi ∷ []) p q t u h in
    registers_then (registers_only t two.1 _ (simple_way s (address_code at) p two.0 t two.1 refl two.2)) (load_last_way (nat_lt bytes 2) s two.0 q two.1 u two.3)

load_way : (b : Bool) (at bytes : ℕ) (s : Setting) (p q : Place) (t u : State) → Passes s (if b then near_load at bytes else far_load at bytes) p t q u → Registers t u
load_way true at bytes s p q t u h = near_way (nat_lt bytes 2) at s p q t u h
load_way false at bytes s p q t u h = far_way at bytes s p q t u h

moved_way : (n : ℕ) (ms : List Moved) (s : Setting) (p q : Place) (t u : State) → MovedWithin n ms → Passes s (all_moved ms) p t q u → Moving (saved_bytes n) t u
moved_way n [] s p q t u fits h = moving_same (saved_bytes n) t u h.1
moved_way n (m ∷ ms) s p q t u fits h =
    let rest = halves s (moved_code m) (all_moved ms) p q t u h in
    let two = halves s (load_code m.from m.bytes) (bank_store m.bank m.bytes) p rest.0 t rest.1 rest.2 in
    let loaded = load_way (nat_lt m.from 255) m.from m.bytes s p two.0 t two.1 two.2 in
    moving_then (moving_then (moving_by n loaded.sinks loaded.bank) (bank_way n s m.bank m.bytes two.0 rest.0 two.1 rest.1 fits.0 two.3)) (moved_way n ms s rest.0 q rest.1 u fits.1 rest.3)

-- behind the frame's lines only where the function is not variadic
late_way : (n : ℕ) (v : Bool) (ms : List Moved) (s : Setting) (p q : Place) (t u : State) → MovedWithin n ms → Passes s (if v then [] else all_moved ms) p t q u → Moving (saved_bytes n) t u
late_way n true ms s p q t u fits h = moving_same (saved_bytes n) t u h.1
late_way n false ms s p q t u fits h = moved_way n ms s p q t u fits h

-- ---- parameters of a variadic function that move to regbank, where X holds the number of bytes that the call pushed

record Held (k : ℕ) (t u : State) : Type 0 where
  moves : Moving k t u
  x : u.regs.x ≡ t.regs.x

held_then : {k : ℕ} {t u v : State} → Held k t u → Held k u v → Held k t v
held_then a b = record { moves = moving_then a.moves b.moves; x = b.x ∙ a.x }

sta_held : (k : ℕ) (s : Setting) (i : ℕ) (p q : Place) (t u : State) → ((j : ℕ) → j < 6 - k → 20 + k + j ≡ i → ⊥) → Passes s (zero_page Sta i ∷ []) p t q u → Held k t u
sta_held k s i p q t u off h =
    let one = single s (zero_page Sta i) p q t u h in
    record { moves = sta_way k s i p q t u off h; x = ap (λ (z : State). z.regs.x) one.1.goes.1 }

held_registers : (n : ℕ) (t u : State) → Registers t u → u.regs.x ≡ t.regs.x → Held (saved_bytes n) t u
held_registers n t u r x = record { moves = moving_by n r.sinks r.bank; x = x }

abbrev next_byte : List Line
next_byte = implied Iny ∷ by_y Lda sp ∷ []

next_held : (n : ℕ) (s : Setting) (p q : Place) (t u : State) → Passes s next_byte p t q u → Held (saved_bytes n) t u
next_held n s p q t u h =
    let e = simple_way s next_byte p q t u refl h in
    held_registers n t u (registers_only t u _ e) (ap (λ (z : State). z.regs.x) e)

counted_store_way : (n : ℕ) (s : Setting) (bank bytes : ℕ) (p q : Place) (t u : State) → bank + stored_bytes bytes ≤ n → Passes s (counted_store bank bytes) p t q u → Held (saved_bytes n) t u
counted_store_way n s bank bytes p q t u fits h = by (nat_lt bytes 2) fits h
  where
    by : (b : Bool) → bank + (if b then 1 else 2) ≤ n → Passes s (if b then zero_page Sta ((regbank + bank) % 256) ∷ [] else zero_page Sta ((regbank + bank) % 256) ∷ implied Iny ∷ by_y Lda sp ∷ zero_page Sta (((regbank + bank) % 256 + 1) % 256) ∷ []) p t q u → Held (saved_bytes n) t u
    by true fits h = sta_held (saved_bytes n) s ((regbank + bank) % 256) p q t u (apart n bank (omega (arith, fits))) h
    by false fits h =
        let two = halves s (zero_page Sta ((regbank + bank) % 256) ∷ []) (implied Iny ∷ by_y Lda sp ∷ zero_page Sta (((regbank + bank) % 256 + 1) % 256) ∷ []) p q t u h in
        let three = halves s next_byte (zero_page Sta (((regbank + bank) % 256 + 1) % 256) ∷ []) two.0 q two.1 u two.3 in
        held_then (sta_held (saved_bytes n) s ((regbank + bank) % 256) p two.0 t two.1 (apart n bank (omega (arith, fits))) two.2) (held_then (next_held n s two.0 three.0 two.1 three.1 three.2) (sta_held (saved_bytes n) s (((regbank + bank) % 256 + 1) % 256) three.0 q three.1 u (apart_next n bank fits) three.3))

abbrev found_byte : ℕ → List Line
found_byte at = implied Txa ∷ implied Clc ∷ value Adc at ∷ implied Tay ∷ by_y Lda sp ∷ []

counted_move_way : (n : ℕ) (s : Setting) (soft stacked : ℕ) (m : Moved) (p q : Place) (t u : State) → m.bank + stored_bytes m.bytes ≤ n → Passes s (counted_move soft stacked m) p t q u → Held (saved_bytes n) t u
counted_move_way n s soft stacked m p q t u fits h =
    let two = halves s (found_byte (counted_at soft stacked m.from)) (counted_store m.bank m.bytes) p q t u h in
    let e = simple_way s (found_byte (counted_at soft stacked m.from)) p two.0 t two.1 refl two.2 in
    held_then (held_registers n t two.1 (registers_only t two.1 _ e) (ap (λ (z : State). z.regs.x) e)) (counted_store_way n s m.bank m.bytes two.0 q two.1 u fits two.3)

all_counted_way : (n : ℕ) (s : Setting) (soft stacked : ℕ) (ms : List Moved) (p q : Place) (t u : State) → MovedWithin n ms → Passes s (all_counted soft stacked ms) p t q u → Held (saved_bytes n) t u
all_counted_way n s soft stacked [] p q t u fits h = record { moves = moving_same (saved_bytes n) t u h.1; x = ap (λ (z : State). z.regs.x) h.1 }
all_counted_way n s soft stacked (m ∷ ms) p q t u fits h =
    let two = halves s (counted_move soft stacked m) (all_counted soft stacked ms) p q t u h in
    held_then (counted_move_way n s soft stacked m p two.0 t two.1 fits.0 two.2) (all_counted_way n s soft stacked ms two.0 q two.1 u fits.1 two.3)

-- A is as before
raised_way : (n : ℕ) (s : Setting) (soft stacked : ℕ) (ms : List Moved) (p q : Place) (t u : State) → MovedWithin n ms → Passes s (raised_moves soft stacked ms) p t q u → Moving (saved_bytes n) t u × (u.regs.a ≡ t.regs.a)
raised_way n s soft stacked ms p q t u fits h = by (length ms == 0) h
  where
    by : (b : Bool) → Passes s (if b then [] else implied Tax ∷ (all_counted soft stacked ms ++ implied Txa ∷ [])) p t q u → Moving (saved_bytes n) t u × (u.regs.a ≡ t.regs.a)
    by true h = (moving_same (saved_bytes n) t u h.1, ap (λ (z : State). z.regs.a) h.1)
    by false h =
        let two = halves s (implied Tax ∷ []) (all_counted soft stacked ms ++ implied Txa ∷ []) p q t u h in
        let three = halves s (all_counted soft stacked ms) (implied Txa ∷ []) two.0 q two.1 u two.3 in
        let to = simple_way s (implied Tax ∷ []) p two.0 t two.1 refl two.2 in
        let held = all_counted_way n s soft stacked ms two.0 three.0 two.1 three.1 fits three.2 in
        let back = simple_way s (implied Txa ∷ []) three.0 q three.1 u refl three.3 in
        let first = registers_only t two.1 _ to in
        let last = registers_only three.1 u _ back in
        (moving_then (moving_by n first.sinks first.bank) (moving_then held.moves (moving_by n last.sinks last.bank)), ap (λ (z : State). z.regs.a) back ∙ (held.x ∙ ap (λ (z : State). z.regs.x) to))

early_way : (n : ℕ) (v : Bool) (s : Setting) (soft stacked : ℕ) (ms : List Moved) (p q : Place) (t u : State) → MovedWithin n ms → Passes s (if v then raised_moves soft stacked ms else []) p t q u → Moving (saved_bytes n) t u × (u.regs.a ≡ t.regs.a)
early_way n true s soft stacked ms p q t u fits h = raised_way n s soft stacked ms p q t u fits h
early_way n false s soft stacked ms p q t u fits h = (moving_same (saved_bytes n) t u h.1, ap (λ (z : State). z.regs.a) h.1)

-- ---- the whole entry

-- what a frame keeps of what its entry does
pub record IsOrderly (f : Framed) : Type 0 where
  -- the parameters of a variadic function are all on the stack
  pub passed : IsTrue f.variadic → f.last ≡ Passed
  pub counted : IsTrue f.variadic → 1 ≤ f.soft
  -- parameters go to no other bytes of regbank than those that are taken
  pub kept : KeptWithin f.bank f.last
  pub moved : MovedWithin f.bank f.moved

taken_sum : (variadic : Bool) (soft : ℕ) → (IsTrue variadic → 1 ≤ soft) → taken_bytes variadic soft + (if variadic then 1 else 0) ≡ soft
taken_sum true soft h = omega (arith, h refl)
taken_sum false soft h = omega arith

no_push : (a : Arrival) (s : Setting) (p q : Place) (t u : State) → a ≡ Passed → Passes s (pushed_code a) p t q u → u ≡ t
no_push Passed s p q t u e h = h.1
no_push (Pushed bytes) s p q t u e h = absurd cc
no_push (Kept bank bytes) s p q t u e h = absurd cc

no_keep : (a : Arrival) (s : Setting) (p q : Place) (t u : State) → a ≡ Passed → Passes s (kept_code a) p t q u → u ≡ t
no_keep Passed s p q t u e h = h.1
no_keep (Pushed bytes) s p q t u e h = absurd cc
no_keep (Kept bank bytes) s p q t u e h = absurd cc

-- the states between the pieces of an entry
record Entry (f : Framed) (t0 t1 t2 t3 te t4 t5 t6 t7 : State) : Type 0 where
  push : Lowers (pushed_bytes f.last) t0 t1
  count : Registers t1 t2
  counted : IsTrue f.variadic → t2.regs.a ≡ t1.regs.y
  save : Quiet (saved_bytes f.bank) t2 t3
  saved : bytes_at (saved_bytes f.bank) (sp_of t3) t3.mem ≡ bytes_at (saved_bytes f.bank) 20 t2.zp
  early : Moving (saved_bytes f.bank) t3 te
  held : te.regs.a ≡ t3.regs.a
  keep : Moving (saved_bytes f.bank) te t4
  lower : Quiet (taken_bytes f.variadic f.soft) t4 t5
  counts : Counts f.variadic t5 t6
  move : Moving (saved_bytes f.bank) t6 t7
  -- nothing in between
  unpushed : IsTrue f.variadic → t1 ≡ t0
  unkept : IsTrue f.variadic → t4 ≡ te

below_all : (f : Framed) {t0 t1 t2 t3 te t4 t5 t6 t7 : State} → IsOrderly f → Entry f t0 t1 t2 t3 te t4 t5 t6 t7 → Sinks (entry_bytes f) t0 t7
below_all f {t0 = t0} {t7 = t7} o e =
    let sum : pushed_bytes f.last + (0 + (saved_bytes f.bank + (0 + (0 + (taken_bytes f.variadic f.soft + ((if f.variadic then 1 else 0) + 0)))))) ≡ entry_bytes f = omega (arith, taken_sum f.variadic f.soft o.counted) in
    subst (λ (n : ℕ). Sinks n t0 t7) sum (sinks_then e.push.sinks (sinks_then e.count.sinks (sinks_then e.save.sinks (sinks_then e.early.sinks (sinks_then e.keep.sinks (sinks_then e.lower.sinks (sinks_then e.counts.quiet.sinks e.move.sinks)))))))

-- from where regbank is saved on
below_saved : (f : Framed) {t0 t1 t2 t3 te t4 t5 t6 t7 : State} → IsOrderly f → Entry f t0 t1 t2 t3 te t4 t5 t6 t7 → Sinks f.soft t3 t7
below_saved f {t3 = t3} {t7 = t7} o e =
    let sum : 0 + (0 + (taken_bytes f.variadic f.soft + ((if f.variadic then 1 else 0) + 0))) ≡ f.soft = omega (arith, taken_sum f.variadic f.soft o.counted) in
    subst (λ (n : ℕ). Sinks n t3 t7) sum (sinks_then e.early.sinks (sinks_then e.keep.sinks (sinks_then e.lower.sinks (sinks_then e.counts.quiet.sinks e.move.sinks))))

entry_bank : (f : Framed) {t0 t1 t2 t3 te t4 t5 t6 t7 : State} → IsOrderly f → Entry f t0 t1 t2 t3 te t4 t5 t6 t7 → caller_bank f t7 ≡ bank_of t0
entry_bank f {t0 = t0} {t1 = t1} {t2 = t2} {t3 = t3} {te = te} {t4 = t4} {t5 = t5} {t6 = t6} {t7 = t7} o e =
    let k : ℕ = saved_bytes f.bank in
    let few : k ≤ 6 = saved_few f.bank in
    let below : Sinks f.soft t3 t7 = below_saved f o e in
    let first : bank_of t2 ≡ bank_of t0 = e.count.bank ∙ e.push.bank in
    let there : bytes_at k (sp_of t7 + f.soft) t7.mem ≡ bytes_at k 20 t0.zp =
    ap (λ (n : ℕ). bytes_at k n t7.mem) below.sp ∙ (bytes_same k (sp_of t3) t3.mem t7.mem below.mem ∙ (e.saved ∙ first_same k t0 t2 few first)) in
    let rest : Rest k t0 t7 = e.move.rest ∙ (rest_same k t5 t6 few e.counts.quiet.bank ∙ (rest_same k t4 t5 few e.lower.bank ∙ (e.keep.rest ∙ (e.early.rest ∙ rest_same k t0 t3 few (e.save.bank ∙ first))))) in
    ap (λ (l : List ℕ). l ++ bytes_at (6 - k) (20 + k) t7.zp) there ∙ (ap (λ (l : List ℕ). bytes_at k 20 t0.zp ++ l) rest ∙ sym (bank_halves k t0 few))

entry_count : (f : Framed) (v : Bool) {t0 t1 t2 t3 te t4 t5 t6 t7 : State} → f.variadic ≡ v → Entry f t0 t1 t2 t3 te t4 t5 t6 t7
    → (if v then t7.mem (sp_of t7) else f.stacked) ≡ (if v then t0.regs.y else f.stacked)
entry_count f true {t0 = t0} {t1 = t1} {t3 = t3} {t4 = t4} {t5 = t5} {t6 = t6} {t7 = t7} h e =
    let same : sp_of t7 ≡ sp_of t6 = omega (arith, e.move.sinks.sp) in
    let there : t7.mem (sp_of t7) ≡ t6.mem (sp_of t6) = ap (λ (b : ℕ). t7.mem b) same ∙ e.move.sinks.mem (sp_of t6) (omega arith) in
    there ∙ (e.counts.there h ∙ (e.lower.a ∙ (ap (λ (x : State). x.regs.a) (e.unkept h) ∙ (e.held ∙ (e.save.a ∙ (e.counted h ∙ ap (λ (x : State). x.regs.y) (e.unpushed h)))))))
entry_count f false h e = refl

entered_by : (f : Framed) {t0 t1 t2 t3 te t4 t5 t6 t7 : State} → IsOrderly f → Entry f t0 t1 t2 t3 te t4 t5 t6 t7 → IsEntered f t0 t7
entered_by f {t0 = t0} {t7 = t7} o e =
    let all : Sinks (entry_bytes f) t0 t7 = below_all f o e in
    record {
      sp = all.sp;
      bank = entry_bank f o e;
      parameters = entry_count f f.variadic refl e;
      above = all.mem;
      pushed = all.pushed;
      frames = all.frames;
    }

taken_in : (f : Framed) (s : Setting) (p q : Place) (t u : State) → IsOrderly f → Passes s (taking_code f) p t q u → IsEntered f t u
taken_in f s p q t u o h =
    let behind5 = count_code f.variadic ++ late_moves f in
    let behind4 = lower_code (taken_bytes f.variadic f.soft) ++ behind5 in
    let behind3 = kept_code f.last ++ behind4 in
    let behind2 = early_moves f ++ behind3 in
    let behind1 = saved_code f.bank ++ behind2 in
    let h1 = halves s (pushed_code f.last) (counted_code f.variadic ++ behind1) p q t u h in
    let h2 = halves s (counted_code f.variadic) behind1 h1.0 q h1.1 u h1.3 in
    let h3 = halves s (saved_code f.bank) behind2 h2.0 q h2.1 u h2.3 in
    let he = halves s (early_moves f) behind3 h3.0 q h3.1 u h3.3 in
    let h4 = halves s (kept_code f.last) behind4 he.0 q he.1 u he.3 in
    let h5 = halves s (lower_code (taken_bytes f.variadic f.soft)) behind5 h4.0 q h4.1 u h4.3 in
    let h6 = halves s (count_code f.variadic) (late_moves f) h5.0 q h5.1 u h5.3 in
    let raised = early_way f.bank f.variadic s f.soft f.stacked f.moved h3.0 he.0 h3.1 he.1 o.moved he.2 in
    let second = counted_way f.variadic s h1.0 h2.0 h1.1 h2.1 h2.2 in
    let third = saved_way f.bank s h2.0 h3.0 h2.1 h3.1 h3.2 in
    let e : Entry f t h1.1 h2.1 h3.1 he.1 h4.1 h5.1 h6.1 u = record {
      push = pushed_way f.last s p h1.0 t h1.1 h1.2;
      count = second.0;
      counted = second.1;
      save = third.0;
      saved = third.1;
      early = raised.0;
      held = raised.1;
      keep = kept_way f.bank f.last s he.0 h4.0 he.1 h4.1 o.kept h4.2;
      lower = lower_way (taken_bytes f.variadic f.soft) s h4.0 h5.0 h4.1 h5.1 h5.2;
      counts = count_way f.variadic s h5.0 h6.0 h5.1 h6.1 h6.2;
      move = late_way f.bank f.variadic f.moved s h6.0 q h6.1 u o.moved h6.3;
      unpushed = λ v. no_push f.last s p h1.0 t h1.1 (o.passed v) h1.2;
      unkept = λ v. no_keep f.last s he.0 h4.0 he.1 h4.1 (o.passed v) h4.2;
    } in
    entered_by f o e

-- ---- the check of the stacks

-- sp, Y, regbank and what lies at sp and above stay
record Checked (t u : State) : Type 0 where
  sinks : Sinks 0 t u
  bank : bank_of u ≡ bank_of t
  y : u.regs.y ≡ t.regs.y

check_meets : (deep : Bool) (t u : State) → Meets (check_row deep (costing 256 (row_by StkChk t))) t u → Checked t u
check_meets true t u m = record {
  sinks = record { sp = omega (arith, m.sp); mem = λ b h. m.mem b (inr (inl h)); pushed = m.pushed; frames = m.frames };
  bank = bank_kept _ t u m refl refl refl refl refl refl;
  y = sym (m.kept Y refl);
}
check_meets false t u m = record {
  sinks = record { sp = omega (arith, m.sp); mem = λ b h. m.mem b (inr (inl h)); pushed = m.pushed; frames = m.frames };
  bank = bank_kept _ t u m refl refl refl refl refl refl;
  y = sym (m.kept Y refl);
}

abbrev asked : ℕ → List Line
asked c = zero_page Sta tmp2 ∷ value Lda (c % 256) ∷ zero_page Sta tmp3 ∷ value Lda (c / 256 % 256) ∷ zero_page Sta tmp4 ∷ zero_page Lda tmp2 ∷ []

asked_way : (c : ℕ) (s : Setting) (p q : Place) (t u : State) → Passes s (asked c) p t q u → Checked t u
asked_way c s p q t u h =
    let all = simple_way s (asked c) p q t u refl h in
    let low : sp_of u ≡ sp_of t = ap sp_of all in
    record {
      sinks = record { sp = omega (arith, low); mem = λ b above. ap (λ (x : State). x.mem b) all; pushed = ap (λ (x : State). x.pushed) all; frames = ap (λ (x : State). x.frames) all };
      bank = ap bank_of all;
      y = ap (λ (x : State). x.regs.y) all;
    }

checked_then : {t u v : State} → Checked t u → Checked u v → Checked t v
checked_then a b = record { sinks = sinks_then a.sinks b.sinks; bank = b.bank ∙ a.bank; y = b.y ∙ a.y }

checked_way : (check : Option ℕ) (s : Setting) (p q : Place) (t u : State) → Passes s (checked_code check) p t q u → Checked t u
checked_way None s p q t u h = record { sinks = same_sinks t u h.1; bank = ap bank_of h.1; y = ap (λ (x : State). x.regs.y) h.1 }
checked_way (Some c) s p q t u h =
    let two = halves s (asked c) (call StkChk ∷ []) p q t u h in
    let one = single s (call StkChk) two.0 q two.1 u two.3 in
    checked_then (asked_way c s p two.0 t two.1 two.2) (check_meets (is_too_deep two.1) two.1 u one.1.goes.1)

entered_behind : (f : Framed) (t v u : State) → Checked t v → IsEntered f v u → IsEntered f t u
entered_behind f t v u c e = record {
  sp = omega (arith, e.sp, c.sinks.sp);
  bank = e.bank ∙ c.bank;
  parameters = e.parameters ∙ ap (λ (y : ℕ). if f.variadic then y else f.stacked) c.y;
  above = λ b h. e.above b (omega (arith, c.sinks.sp, h)) ∙ c.sinks.mem b h;
  pushed = e.pushed ∙ c.sinks.pushed;
  frames = e.frames ∙ c.sinks.frames;
}

pub entered : (f : Framed) (s : Setting) (p q : Place) (t u : State) → IsOrderly f → Passes s (entry_code f) p t q u → IsEntered f t u
entered f s p q t u o h =
    let two = halves s (checked_code f.check) (taking_code f) p q t u h in
    entered_behind f t two.1 u (checked_way f.check s p two.0 t two.1 two.2) (taken_in f s two.0 q two.1 u o two.3)
