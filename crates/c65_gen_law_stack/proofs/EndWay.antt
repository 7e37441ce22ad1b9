-- The end of a function.
use Rattle.std.proofs.Common.{◌≡◌, ℕ, zero, suc, ◌+◌, ◌-◌, ◌*◌, ◌/◌, ◌%◌, ◌==◌, ◌≤◌, ◌||◌, Bool, true, false, Option, None, Some, List, [], ◌∷◌, ◌++◌, refl, sym, ap, subst, ◌∙◌, arith}
use Rattle.std.specs.Prelude.{if◌then◌else◌, nat_lt}
use Rattle.std.proofs.lemmas.Bool.{eqb-true, ltb-true, ltb-false}
use Rattle.c65_mach.specs.State.{Regs}
use Rattle.c65_mach.specs.declared.rows.Op.TheVariants.{Ldy, Lda, Sta, Pha, Pla, Rts, Tay}
use Rattle.c65_code.specs.declared.parts.Part.TheVariants.{Zp}
use Rattle.c65_code.specs.declared.parts.RegSet.{RegSet}
use Rattle.c65_code.specs.declared.routine.Count.{Count}
use Rattle.c65_code.specs.declared.routine.Routine.TheVariants.{IncSp, AddYSp, RestRegs}
use Rattle.c65_code.specs.declared.line.Line.{Line}
use Rattle.c65_code.specs.Parts.{has_part, union_of}
use Rattle.c65_code.specs.Effects.{kept_at_calls}
use Rattle.c65_code.specs.Texts.{bytes_at}
use Rattle.c65_code.specs.LineState.{Bytes, Place, Frame, State, sp_of}
use Rattle.c65_code.specs.Placement.{Setting}
use Rattle.c65_code.specs.Rows.{bank_of}
use Rattle.c65_code.specs.Moves.{Keeps, Returns, common_of}
use Rattle.c65_code.specs.Steady.{IsCalm}
use Rattle.c65_code.proofs.PartLaws.{has_part-union}
use Rattle.c65_genframe.specs.Frames.{Framed, saved_bytes}
use Rattle.c65_genwide.specs.Lines.{value, call}
use Rattle.c65_genentry.specs.Words.{sp, tmp1, implied, zero_page, by_y}
use Rattle.c65_genentry.specs.Stack.{count_of, raise_by, small_raise, repeated, raise_code}
use Rattle.c65_genentry.specs.Ends.{bank_loads, few_loads, few_restored, restored_code, plain_end, variadic_end, end_code}
use Rattle.c65_gen_law_stack.specs.Passing.{Passes}
use Rattle.c65_gen_law_stack.specs.Calls.{caller_bank, parameter_bytes, IsLeft}
use Rattle.c65_gen_law_stack.proofs.Steps.{bytes_same, Lifts, lifts_same, lifts_then, lifts_some, lifts_y, Restores, restores}
use Rattle.c65_gen_law_stack.proofs.Ways.{calm_at, halves, single, simple_way}
use Rattle.c65_gen_law_stack.proofs.BankWay.{rest_same, saved_few, Loads, loads_way, loaded}
use Rattle.c65_gen_law_stack.proofs.EntryWay.{counted_of}

-- ---- sp is raised

lifts_as : {m n : ℕ} {t u : State} → m ≡ n → Lifts m t u → Lifts n t u
lifts_as {t = t} {u = u} e p = subst (λ (k : ℕ). Lifts k t u) e p

same_lifts : (t u : State) → u ≡ t → Lifts 0 t u
same_lifts t u e = subst (λ (x : State). Lifts 0 t x) (sym e) (lifts_same t)

-- a state that differs in registers alone, and not in A and X
regs_lift : (t u : State) (r : Regs) → r.a ≡ t.regs.a → r.x ≡ t.regs.x → u ≡ record t { regs = r } → Lifts 0 t u
regs_lift t u r a x e = subst (λ (w : State). Lifts 0 t w) (sym e) (record { sp = omega arith; mem = λ b h. refl; pushed = refl; frames = refl; a = a; x = x; sreg = refl; bank = refl })

raise_by_way : (n : ℕ) (c : Option Count) (s : Setting) (p q : Place) (t u : State) → count_of n ≡ c → Passes s (raise_by n c) p t q u → Lifts n t u
raise_by_way n (Some c) s p q t u e h =
    let one = single s (call (IncSp c)) p q t u h in
    lifts_as (counted_of n c e) (lifts_some c s p q t u one.1)
raise_by_way n None s p q t u e h =
    let two = halves s (value Ldy n ∷ []) (call AddYSp ∷ []) p q t u h in
    let v : State = two.1 in
    let set = simple_way s (value Ldy n ∷ []) p two.0 t v refl two.2 in
    let one = single s (call AddYSp) two.0 q v u two.3 in
    let y : v.regs.y ≡ n = ap (λ (x : State). x.regs.y) set in
    lifts_as (omega (arith, y)) (lifts_then (regs_lift t v _ refl refl set) (lifts_y s two.0 q v u one.0.calm one.2 one.1))

small_way : (n : ℕ) (s : Setting) (p q : Place) (t u : State) → Passes s (small_raise n) p t q u → Lifts n t u
small_way n s p q t u h = by (n == 0) refl h
  where
    by : (b : Bool) → (n == 0) ≡ b → Passes s (if b then [] else raise_by n (count_of n)) p t q u → Lifts n t u
    by true e h = lifts_as (sym (eqb-true n 0 e)) (same_lifts t u h.1)
    by false e h = raise_by_way n (count_of n) s p q t u refl h

repeated_way : (n k : ℕ) (s : Setting) (p q : Place) (t u : State) → Passes s (repeated n (small_raise k)) p t q u → Lifts (n * k) t u
repeated_way zero k s p q t u h = lifts_as (omega arith) (same_lifts t u h.1)
repeated_way (suc n) k s p q t u h =
    let two = halves s (repeated n (small_raise k)) (small_raise k) p q t u h in
    lifts_as (omega arith) (lifts_then (repeated_way n k s p two.0 t two.1 two.2) (small_way k s two.0 q two.1 u two.3))

raise_way : (n : ℕ) (s : Setting) (p q : Place) (t u : State) → Passes s (raise_code n) p t q u → Lifts n t u
raise_way n s p q t u h =
    let two = halves s (repeated (n / 255) (small_raise 255)) (small_raise (n % 255)) p q t u h in
    lifts_as (omega arith) (lifts_then (repeated_way (n / 255) 255 s p two.0 t two.1 two.2) (small_way (n % 255) s two.0 q two.1 u two.3))

-- ---- regbank comes back

-- sp is higher by so many bytes, and regbank is what is said; nothing else has changed but Y, the flags and what lies below sp
record Ends (n : ℕ) (given : List ℕ) (t u : State) : Type 0 where
  sp : sp_of u ≡ sp_of t + n
  mem : (b : ℕ) → sp_of u ≤ b → u.mem b ≡ t.mem b
  pushed : u.pushed ≡ t.pushed
  frames : u.frames ≡ t.frames
  a : u.regs.a ≡ t.regs.a
  bank : bank_of u ≡ given

-- sp is raised before
ends_behind : {m n : ℕ} {bank : List ℕ} {t u v : State} → Lifts m t u → Ends n bank u v → Ends (m + n) bank t v
ends_behind p q = record {
  sp = omega (arith, p.sp, q.sp);
  mem = λ b h. q.mem b h ∙ p.mem b (omega (arith, q.sp, h));
  pushed = q.pushed ∙ p.pushed;
  frames = q.frames ∙ p.frames;
  a = q.a ∙ p.a;
  bank = q.bank;
}

-- and behind
ends_before : {m n : ℕ} {bank : List ℕ} {t u v : State} → Ends m bank t u → Lifts n u v → Ends (m + n) bank t v
ends_before p q = record {
  sp = omega (arith, p.sp, q.sp);
  mem = λ b h. q.mem b h ∙ p.mem b (omega (arith, q.sp, h));
  pushed = q.pushed ∙ p.pushed;
  frames = q.frames ∙ p.frames;
  a = q.a ∙ p.a;
  bank = q.bank ∙ p.bank;
}

ends_as : {m n : ℕ} {bank new : List ℕ} {t u : State} → m ≡ n → bank ≡ new → Ends m bank t u → Ends n new t u
ends_as {bank = bank} {t = t} {u = u} e g p = record { sp = p.sp ∙ ap (λ (k : ℕ). sp_of t + k) e; mem = p.mem; pushed = p.pushed; frames = p.frames; a = p.a; bank = p.bank ∙ g }

few_loads_way : (n : ℕ) (s : Setting) (p q : Place) (t u : State) → n ≤ 6 → Passes s (few_loads n) p t q u → Ends 0 (bytes_at n (sp_of t) t.mem ++ bytes_at (6 - n) (20 + n) t.zp) t u
few_loads_way n s p q t u few h =
    let h1 = halves s (zero_page Sta tmp1 ∷ []) (bank_loads n ++ zero_page Lda tmp1 ∷ []) p q t u h in
    let h2 = halves s (bank_loads n) (zero_page Lda tmp1 ∷ []) h1.0 q h1.1 u h1.3 in
    let t1 : State = h1.1 in
    let t2 : State = h2.1 in
    let calm : IsCalm s t = calm_at s (few_loads n) p q t u h in
    let e1 = simple_way s (zero_page Sta tmp1 ∷ []) p h1.0 t t1 refl h1.2 in
    let sp1 : sp_of t1 ≡ sp_of t = ap sp_of e1 in
    let mem1 : (b : ℕ) → t1.mem b ≡ t.mem b = λ b. ap (λ (x : State). x.mem b) e1 in
    let loads : Loads n t1 t2 = loads_way n s h1.0 h2.0 t1 t2 few (omega (arith, sp1, calm.high, few)) h2.2 in
    let e3 = simple_way s (zero_page Lda tmp1 ∷ []) h2.0 q t2 u refl h2.3 in
    let bank1 : bank_of t1 ≡ bank_of t = ap bank_of e1 in
    let there : bytes_at n (sp_of t1) t1.mem ≡ bytes_at n (sp_of t) t.mem = bytes_same n (sp_of t1) t.mem t1.mem (λ b l. mem1 b) ∙ ap (λ (b : ℕ). bytes_at n b t.mem) sp1 in
    record {
      sp = omega (arith, ap sp_of e3, loads.sp, sp1);
      mem = λ b l. ap (λ (x : State). x.mem b) e3 ∙ (loads.mem b ∙ mem1 b);
      pushed = ap (λ (x : State). x.pushed) e3 ∙ (loads.pushed ∙ ap (λ (x : State). x.pushed) e1);
      frames = ap (λ (x : State). x.frames) e3 ∙ (loads.frames ∙ ap (λ (x : State). x.frames) e1);
      a = ap (λ (x : State). x.regs.a) e3 ∙ (loads.below 16 (omega arith) ∙ ap (λ (x : State). x.zp 16) e1);
      bank = ap bank_of e3 ∙ (loaded n t1 t2 few loads ∙ (ap (λ (l : List ℕ). l ++ bytes_at (6 - n) (20 + n) t1.zp) there ∙ ap (λ (l : List ℕ). bytes_at n (sp_of t) t.mem ++ l) (rest_same n t t1 few bank1)));
    }

-- the bytes at sp, and above them regbank as it is
abbrev given_back : ℕ → ℕ → State → List ℕ
given_back k at t = bytes_at k at t.mem ++ bytes_at (6 - k) (20 + k) t.zp

restored_way : (taken : ℕ) (s : Setting) (p q : Place) (t u : State) → Passes s (restored_code taken) p t q u → Ends (saved_bytes taken) (given_back (saved_bytes taken) (sp_of t) t) t u
restored_way taken s p q t u h = by (taken == 0) (nat_lt taken 6) refl refl h
  where
    by : (z b : Bool) → (taken == 0) ≡ z → nat_lt taken 6 ≡ b → Passes s (if z then [] else (if b then few_restored taken else call RestRegs ∷ [])) p t q u → Ends (if b then taken else 6) (given_back (if b then taken else 6) (sp_of t) t) t u
    by true true e f h =
        let none : taken ≡ 0 = eqb-true taken 0 e in
        let l : Lifts 0 t u = same_lifts t u h.1 in
        let same : Ends 0 (given_back 0 (sp_of t) t) t u = record { sp = l.sp; mem = l.mem; pushed = l.pushed; frames = l.frames; a = l.a; bank = l.bank } in
        ends_as (sym none) (sym (ap (λ (n : ℕ). given_back n (sp_of t) t) none)) same
    by true false e f h = absurd (omega (arith, eqb-true taken 0 e, ltb-false taken 6 f))
    by false true e f h =
        let two = halves s (few_loads taken) (raise_code taken) p q t u h in
        let first = few_loads_way taken s p two.0 t two.1 (omega (arith, ltb-true taken 6 f)) two.2 in
        ends_as (omega arith) refl (ends_before first (raise_way taken s two.0 q two.1 u two.3))
    by false false e f h =
        let one = single s (call RestRegs) p q t u h in
        let r : Restores t u = restores s p q t u one.1 in
        record { sp = r.sp; mem = r.mem; pushed = r.pushed; frames = r.frames; a = r.a; bank = r.bank }

-- what was saved lies so many bytes above sp
raised_bank : (k soft : ℕ) (t u : State) → k ≤ 6 → Lifts soft t u → given_back k (sp_of u) u ≡ given_back k (sp_of t + soft) t
raised_bank k soft t u few l =
    let first : bytes_at k (sp_of u) u.mem ≡ bytes_at k (sp_of t + soft) t.mem = bytes_same k (sp_of u) t.mem u.mem l.mem ∙ ap (λ (n : ℕ). bytes_at k n t.mem) l.sp in
    ap (λ (x : List ℕ). x ++ bytes_at (6 - k) (20 + k) u.zp) first ∙ ap (λ (x : List ℕ). bytes_at k (sp_of t + soft) t.mem ++ x) (rest_same k t u few l.bank)

-- ---- the return

pub kept_part : (reads : RegSet) (i : ℕ) → has_part kept_at_calls (Zp i) ≡ true → has_part (union_of reads kept_at_calls) (Zp i) ≡ true
kept_part reads i h = has_part-union reads kept_at_calls (Zp i) ∙ or_right (has_part reads (Zp i)) (has_part kept_at_calls (Zp i)) h
  where
    or_right : (a b : Bool) → b ≡ true → (a || b) ≡ true
    or_right true b h = refl
    or_right false b h = h

-- a return keeps sp and regbank
record Backs (frame : Frame) (others : List Frame) (t : State) (q : Place) (u : State) : Type 0 where
  to : q ≡ frame.back
  sp : sp_of u ≡ sp_of t
  mem : (b : ℕ) → u.mem b ≡ t.mem b
  bank : bank_of u ≡ bank_of t
  frames : u.frames ≡ others

kept_backs : (s : Setting) (given : RegSet) (frame : Frame) (frames : List Frame) (t : State) (q : Place) (u : State) → (t.pushed ≡ []) × (q ≡ frame.back) × Keeps (union_of given kept_at_calls) t u × (u.pushed ≡ frame.pushed) × (u.frames ≡ frames) → Backs frame frames t q u
kept_backs s given frame frames t q u h =
    let part : (i : ℕ) → has_part kept_at_calls (Zp i) ≡ true → t.zp i ≡ u.zp i = λ i k. h.2.part (Zp i) (kept_part given i k) in
    let s0 : t.zp 0 ≡ u.zp 0 = part 0 refl in
    let s1 : t.zp 1 ≡ u.zp 1 = part 1 refl in
    let e0 : t.zp 20 ≡ u.zp 20 = part 20 refl in
    let e1 : t.zp 21 ≡ u.zp 21 = part 21 refl in
    let e2 : t.zp 22 ≡ u.zp 22 = part 22 refl in
    let e3 : t.zp 23 ≡ u.zp 23 = part 23 refl in
    let e4 : t.zp 24 ≡ u.zp 24 = part 24 refl in
    let e5 : t.zp 25 ≡ u.zp 25 = part 25 refl in
    record { to = h.1; sp = omega (arith, s0, s1); mem = λ b. ap (λ (m : Bytes). m b) h.2.mem; bank = cc; frames = h.4 }

returned : (s : Setting) (fs : List Frame) (frame : Frame) (frames : List Frame) (p : Place) (t : State) (q : Place) (u : State) → fs ≡ frame ∷ frames → Returns s fs p t q u → Backs frame frames t q u
returned s [] frame frames p t q u e h = absurd cc
returned s (g ∷ gs) frame frames p t q u e h =
    let back : Backs g gs t q u = kept_backs s (common_of g.gives (s.gives p.0)) g gs t q u h in
    let first : g ≡ frame = ap (λ (xs : List Frame). head_or g xs) e in
    let rest : gs ≡ frames = ap (λ (xs : List Frame). tail_of xs) e in
    record { to = back.to ∙ ap (λ (x : Frame). x.back) first; sp = back.sp; mem = back.mem; bank = back.bank; frames = back.frames ∙ rest }
  where
    head_or : Frame → List Frame → Frame
    head_or g [] = g
    head_or g (x ∷ xs) = x

    tail_of : List Frame → List Frame
    tail_of [] = []
    tail_of (x ∷ xs) = xs

return_way : (s : Setting) (frame : Frame) (frames : List Frame) (p q : Place) (t u : State) → t.frames ≡ frame ∷ frames → Passes s (implied Rts ∷ []) p t q u → Backs frame frames t q u
return_way s frame frames p q t u e h = let one = single s (implied Rts) p q t u h in returned s t.frames frame frames p t q u e one.1.goes

left_by : (s : Setting) (f : Framed) (frame : Frame) (frames : List Frame) (p q : Place) (t v u : State) → t.frames ≡ frame ∷ frames → Ends (f.soft + (saved_bytes f.bank + parameter_bytes f t)) (caller_bank f t) t v → Backs frame frames v q u → IsLeft s f frame p t q u
left_by s f frame frames p q t v u e ends back = record {
  to = back.to;
  sp = back.sp ∙ ends.sp;
  bank = back.bank ∙ ends.bank;
  above = λ b h. back.mem b ∙ ends.mem b (omega (arith, back.sp, h));
  frames = e ∙ ap (λ (xs : List Frame). frame ∷ xs) (sym back.frames);
}

plain_left : (s : Setting) (f : Framed) (frame : Frame) (frames : List Frame) (p q : Place) (t u : State) → f.variadic ≡ false → t.frames ≡ frame ∷ frames → Passes s (plain_end f.soft f.bank f.stacked) p t q u → IsLeft s f frame p t q u
plain_left s f frame frames p q t u fixed e h =
    let h1 = halves s (raise_code f.soft) (restored_code f.bank ++ (raise_code f.stacked ++ implied Rts ∷ [])) p q t u h in
    let h2 = halves s (restored_code f.bank) (raise_code f.stacked ++ implied Rts ∷ []) h1.0 q h1.1 u h1.3 in
    let h3 = halves s (raise_code f.stacked) (implied Rts ∷ []) h2.0 q h2.1 u h2.3 in
    let first : Lifts f.soft t h1.1 = raise_way f.soft s p h1.0 t h1.1 h1.2 in
    let second = restored_way f.bank s h1.0 h2.0 h1.1 h2.1 h2.2 in
    let third : Lifts f.stacked h2.1 h3.1 = raise_way f.stacked s h2.0 h3.0 h2.1 h3.1 h3.2 in
    let all = ends_behind first (ends_before second third) in
    let number : f.stacked ≡ parameter_bytes f t = sym (ap (λ (b : Bool). if b then t.mem (sp_of t) else f.stacked) fixed) in
    let ends : Ends (f.soft + (saved_bytes f.bank + parameter_bytes f t)) (caller_bank f t) t h3.1 = ends_as (ap (λ (n : ℕ). f.soft + (saved_bytes f.bank + n)) number) (raised_bank (saved_bytes f.bank) f.soft t h1.1 (saved_few f.bank) first) all in
    left_by s f frame frames p q t h3.1 u e ends (return_way s frame frames h3.0 q h3.1 u (all.frames ∙ e) h3.3)

-- ---- the end of a variadic function

abbrev front : List Line
front = zero_page Sta tmp1 ∷ value Ldy 0 ∷ by_y Lda sp ∷ implied Pha ∷ zero_page Lda tmp1 ∷ []

-- the byte at sp is pushed
record Front (t u : State) : Type 0 where
  sp : sp_of u ≡ sp_of t
  mem : (b : ℕ) → u.mem b ≡ t.mem b
  pushed : u.pushed ≡ t.mem (sp_of t) ∷ t.pushed
  frames : u.frames ≡ t.frames
  a : u.regs.a ≡ t.regs.a
  bank : bank_of u ≡ bank_of t

front_way : (s : Setting) (p q : Place) (t u : State) → Passes s front p t q u → Front t u
front_way s p q t u h =
    let all = simple_way s front p q t u refl h in
    let calm : IsCalm s t = calm_at s front p q t u h in
    let at : (sp_of t + 0) % 65536 ≡ sp_of t = omega (arith, calm.high) in
    record {
      sp = ap sp_of all;
      mem = λ b. ap (λ (x : State). x.mem b) all;
      pushed = ap (λ (x : State). x.pushed) all ∙ ap (λ (n : ℕ). t.mem n ∷ t.pushed) at;
      frames = ap (λ (x : State). x.frames) all;
      a = ap (λ (x : State). x.regs.a) all;
      bank = ap bank_of all;
    }

abbrev back : List Line
back = implied Tay ∷ zero_page Lda tmp1 ∷ []

-- it comes back into Y
record Back (c : ℕ) (rest : List ℕ) (t u : State) : Type 0 where
  sp : sp_of u ≡ sp_of t
  mem : (b : ℕ) → u.mem b ≡ t.mem b
  pushed : u.pushed ≡ rest
  frames : u.frames ≡ t.frames
  a : u.regs.a ≡ t.regs.a
  bank : bank_of u ≡ bank_of t
  y : u.regs.y ≡ c

head_of : List ℕ → ℕ
head_of [] = 0
head_of (v ∷ vs) = v

rest_of : List ℕ → List ℕ
rest_of [] = []
rest_of (v ∷ vs) = vs

same_head : (v w : ℕ) (vs ws : List ℕ) → v ∷ vs ≡ w ∷ ws → v ≡ w
unfolding head_of
same_head v w vs ws e = ap head_of e

same_rest : (v w : ℕ) (vs ws : List ℕ) → v ∷ vs ≡ w ∷ ws → vs ≡ ws
unfolding rest_of
same_rest v w vs ws e = ap rest_of e

back_way : (c : ℕ) (rest : List ℕ) (s : Setting) (p q : Place) (t u : State) → t.pushed ≡ c ∷ rest → Passes s (zero_page Sta tmp1 ∷ implied Pla ∷ back) p t q u → Back c rest t u
back_way c rest s p q t u stack h =
    let h1 = halves s (zero_page Sta tmp1 ∷ []) (implied Pla ∷ back) p q t u h in
    let h2 = halves s (implied Pla ∷ []) back h1.0 q h1.1 u h1.3 in
    let t1 : State = h1.1 in
    let t2 : State = h2.1 in
    let e1 = simple_way s (zero_page Sta tmp1 ∷ []) p h1.0 t t1 refl h1.2 in
    let one = single s (implied Pla) h1.0 h2.0 t1 t2 h2.2 in
    let pull = one.1.goes.1 in
    let e2 = pull.3 in
    let e3 = simple_way s back h2.0 q t2 u refl h2.3 in
    let same : c ∷ rest ≡ pull.0 ∷ pull.1 = sym stack ∙ (sym (ap (λ (x : State). x.pushed) e1) ∙ pull.2) in
    record {
      sp = ap sp_of e3 ∙ (ap sp_of e2 ∙ ap sp_of e1);
      mem = λ b. ap (λ (x : State). x.mem b) e3 ∙ (ap (λ (x : State). x.mem b) e2 ∙ ap (λ (x : State). x.mem b) e1);
      pushed = ap (λ (x : State). x.pushed) e3 ∙ (ap (λ (x : State). x.pushed) e2 ∙ sym (same_rest c pull.0 rest pull.1 same));
      frames = ap (λ (x : State). x.frames) e3 ∙ (ap (λ (x : State). x.frames) e2 ∙ ap (λ (x : State). x.frames) e1);
      a = ap (λ (x : State). x.regs.a) e3 ∙ (ap (λ (x : State). x.zp 16) e2 ∙ ap (λ (x : State). x.zp 16) e1);
      bank = ap bank_of e3 ∙ (ap bank_of e2 ∙ ap bank_of e1);
      y = ap (λ (x : State). x.regs.y) e3 ∙ (ap (λ (x : State). x.regs.a) e2 ∙ sym (same_head c pull.0 rest pull.1 same));
    }

same_bank : (k soft : ℕ) (t u : State) → k ≤ 6 → Front t u → given_back k (sp_of u + soft) u ≡ given_back k (sp_of t + soft) t
same_bank k soft t u few h =
    let first : bytes_at k (sp_of u + soft) u.mem ≡ bytes_at k (sp_of t + soft) t.mem = bytes_same k (sp_of u + soft) t.mem u.mem (λ b l. h.mem b) ∙ ap (λ (n : ℕ). bytes_at k (n + soft) t.mem) h.sp in
    ap (λ (x : List ℕ). x ++ bytes_at (6 - k) (20 + k) u.zp) first ∙ ap (λ (x : List ℕ). bytes_at k (sp_of t + soft) t.mem ++ x) (rest_same k t u few h.bank)

variadic_ends : (f : Framed) {t t5 t7 t8 t9 : State} → f.variadic ≡ true → Front t t5 → Ends (f.soft + saved_bytes f.bank) (given_back (saved_bytes f.bank) (sp_of t5 + f.soft) t5) t5 t7
    → Back (t.mem (sp_of t)) t.pushed t7 t8 → Lifts t8.regs.y t8 t9 → Ends (f.soft + (saved_bytes f.bank + parameter_bytes f t)) (caller_bank f t) t t9
variadic_ends f {t = t} {t5 = t5} {t7 = t7} {t8 = t8} {t9 = t9} is first second third fourth =
    let number : t.mem (sp_of t) ≡ parameter_bytes f t = sym (ap (λ (b : Bool). if b then t.mem (sp_of t) else f.stacked) is) in
    record {
      sp = omega (arith, first.sp, second.sp, third.sp, third.y, fourth.sp, number);
      mem = λ b h. fourth.mem b h ∙ (third.mem b ∙ (second.mem b (omega (arith, fourth.sp, third.sp, h)) ∙ first.mem b));
      pushed = fourth.pushed ∙ third.pushed;
      frames = fourth.frames ∙ (third.frames ∙ (second.frames ∙ first.frames));
      a = fourth.a ∙ (third.a ∙ (second.a ∙ first.a));
      bank = fourth.bank ∙ (third.bank ∙ (second.bank ∙ same_bank (saved_bytes f.bank) f.soft t t5 (saved_few f.bank) first));
    }

variadic_left : (s : Setting) (f : Framed) (frame : Frame) (frames : List Frame) (p q : Place) (t u : State) → f.variadic ≡ true → t.frames ≡ frame ∷ frames → Passes s (variadic_end f.soft f.bank) p t q u → IsLeft s f frame p t q u
variadic_left s f frame frames p q t u is e h =
    let h1 = halves s front (raise_code f.soft ++ (restored_code f.bank ++ (zero_page Sta tmp1 ∷ implied Pla ∷ implied Tay ∷ zero_page Lda tmp1 ∷ call AddYSp ∷ implied Rts ∷ []))) p q t u h in
    let h2 = halves s (raise_code f.soft) (restored_code f.bank ++ (zero_page Sta tmp1 ∷ implied Pla ∷ implied Tay ∷ zero_page Lda tmp1 ∷ call AddYSp ∷ implied Rts ∷ [])) h1.0 q h1.1 u h1.3 in
    let h3 = halves s (restored_code f.bank) (zero_page Sta tmp1 ∷ implied Pla ∷ implied Tay ∷ zero_page Lda tmp1 ∷ call AddYSp ∷ implied Rts ∷ []) h2.0 q h2.1 u h2.3 in
    let h4 = halves s (zero_page Sta tmp1 ∷ implied Pla ∷ back) (call AddYSp ∷ implied Rts ∷ []) h3.0 q h3.1 u h3.3 in
    let h5 = halves s (call AddYSp ∷ []) (implied Rts ∷ []) h4.0 q h4.1 u h4.3 in
    let first : Front t h1.1 = front_way s p h1.0 t h1.1 h1.2 in
    let lift : Lifts f.soft h1.1 h2.1 = raise_way f.soft s h1.0 h2.0 h1.1 h2.1 h2.2 in
    let rest = restored_way f.bank s h2.0 h3.0 h2.1 h3.1 h3.2 in
    let second = ends_as refl (raised_bank (saved_bytes f.bank) f.soft h1.1 h2.1 (saved_few f.bank) lift) (ends_behind lift rest) in
    let third : Back (t.mem (sp_of t)) t.pushed h3.1 h4.1 = back_way (t.mem (sp_of t)) t.pushed s h3.0 h4.0 h3.1 h4.1 (second.pushed ∙ first.pushed) h4.2 in
    let one = single s (call AddYSp) h4.0 h5.0 h4.1 h5.1 h5.2 in
    let fourth : Lifts h4.1.regs.y h4.1 h5.1 = lifts_y s h4.0 h5.0 h4.1 h5.1 one.0.calm one.2 one.1 in
    let ends : Ends (f.soft + (saved_bytes f.bank + parameter_bytes f t)) (caller_bank f t) t h5.1 = variadic_ends f is first second third fourth in
    left_by s f frame frames p q t h5.1 u e ends (return_way s frame frames h5.0 q h5.1 u (ends.frames ∙ e) h5.3)

pub has_left : (s : Setting) (f : Framed) (frame : Frame) (frames : List Frame) (p q : Place) (t u : State) → t.frames ≡ frame ∷ frames → Passes s (end_code f) p t q u → IsLeft s f frame p t q u
has_left s f frame frames p q t u e h = by f.variadic refl h
  where
    by : (b : Bool) → f.variadic ≡ b → Passes s (if b then variadic_end f.soft f.bank else plain_end f.soft f.bank f.stacked) p t q u → IsLeft s f frame p t q u
    by true is h = variadic_left s f frame frames p q t u is e h
    by false is h = plain_left s f frame frames p q t u is e h
