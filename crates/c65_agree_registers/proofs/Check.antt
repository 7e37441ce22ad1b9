-- The lines of the check.
use Rattle.std.proofs.Common.{◌≡◌, ℕ, zero, suc, ◌+◌, ◌/◌, ◌%◌, ◌<◌, ◌≤◌, ◌⊎◌, inl, inr, Bool, true, false, List, [], ◌∷◌, ◌++◌, length, Some, refl, sym, ap, ◌∙◌, subst, arith}
use Rattle.std.specs.Prelude.{◌||◌, nat_lt, min, max}
use Rattle.std.proofs.lemmas.Bool.Decides.{nat_tests}
use Rattle.std.proofs.lemmas.List.Elements.{All-nil}
use Rattle.c65_mach.specs.declared.rows.Op.TheVariants.{Lda, Sta}
use Rattle.c65_mach.specs.State.{Regs}
use Rattle.c65_mach.specs.Step.{apply}
use Rattle.c65_code.specs.declared.line.Line.{Line}
use Rattle.c65_code.specs.declared.parts.Part.TheVariants as parts
use Rattle.c65_code.specs.declared.routine.Routine.TheVariants.{StkChk}
use Rattle.c65_code.specs.LineState.{Bytes, write, State, sp_of, s_of, eax_of, zero_word, IsBytes}
use Rattle.c65_code.specs.Placement.{IsPlacement, stack_start}
use Rattle.c65_code.specs.Rows.{Row, Meets, row_by, costing, row_of, check_row, is_too_deep}
use Rattle.c65_code.specs.Steady.{IsOpen, HasRoom}
use Rattle.c65_genwide.specs.Lines.{value, call}
use Rattle.c65_genentry.specs.Words.{tmp2, tmp3, tmp4, zero_page}
use Rattle.c65_agree_state.specs.World.{World, Active}
use Rattle.c65_agree_state.specs.Laws.{OnlyScratch}
use Rattle.c65_agree_state.proofs.Scratch.{constants_are_low}
use Rattle.c65_agree_rows.specs.Rows.{IsSilent}
use Rattle.c65_agree_rows.proofs.Quiet.{append_nothing, write_other, write_same, silent_row, silent_rows_scratch}
use Rattle.c65_agree_frame.specs.Leads.{IsOn, Leads}
use Rattle.c65_agree_frame.proofs.Leads.{leads_then, leads_as, stays_on, kept_regs, kept_zero, lines_lead, AreSafe, routine_leads}
use Rattle.c65_agree_registers.specs.Checks.{DoReach, IsChecked, StacksAreChecked, AreTooSmall, HasEnded, SmallStacksEnd}

module _ (g : World) (a : Active) (asked : ℕ) (t : State) (placed : IsPlacement g.code g.place) (on : IsOn g t) (few : asked < 65536) where
  abbrev low : ℕ
  low = asked % 256

  abbrev high : ℕ
  high = asked / 256 % 256

  abbrev puts : List Line
  puts = zero_page Sta tmp2 ∷ value Lda low ∷ zero_page Sta tmp3 ∷ value Lda high ∷ zero_page Sta tmp4 ∷ zero_page Lda tmp2 ∷ []

  abbrev z1 : Bytes
  z1 = write t.zp 17 t.regs.a

  abbrev r2 : Regs
  r2 = apply false Lda low t.regs

  abbrev z3 : Bytes
  z3 = write z1 18 r2.a

  abbrev r4 : Regs
  r4 = apply false Lda high r2

  abbrev z5 : Bytes
  z5 = write z3 19 r4.a

  abbrev r6 : Regs
  r6 = apply false Lda (z5 17) r4

  -- the state in which the stacks are checked
  abbrev put : State
  put = record t { regs = r6; zp = z5 }

  safe : AreSafe g puts t
  safe = (
    refl,
    (omega arith, λ _. omega arith),
    tt,
    kept_zero t 17 t.regs.a (omega arith),
    (
      refl,
      tt,
      omega arith,
      kept_regs (record t { zp = z1 }) r2,
      (
        refl,
        (omega arith, λ _. omega arith),
        tt,
        kept_zero (record t { zp = z1; regs = r2 }) 18 r2.a (omega arith),
        (
          refl,
          tt,
          omega arith,
          kept_regs (record t { zp = z3; regs = r2 }) r4,
          (
            refl,
            (omega arith, λ _. omega arith),
            tt,
            kept_zero (record t { zp = z3; regs = r4 }) 19 r4.a (omega arith),
            (refl, (omega arith, λ _. omega arith), tt, kept_regs (record t { zp = z5; regs = r4 }) r6, tt),
          ),
        ),
      ),
    ),
  )

  -- all but these three bytes of the zero page is as it was, and so is A
  other : (i : ℕ) → (i < 17) ⊎ (20 ≤ i) → z5 i ≡ t.zp i
  other i (inl lt) = write_other z3 19 r4.a i (λ e. omega (arith, e, lt)) ∙ (write_other z1 18 r2.a i (λ e. omega (arith, e, lt)) ∙ write_other t.zp 17 t.regs.a i (λ e. omega (arith, e, lt)))
  other i (inr le) = write_other z3 19 r4.a i (λ e. omega (arith, e, le)) ∙ (write_other z1 18 r2.a i (λ e. omega (arith, e, le)) ∙ write_other t.zp 17 t.regs.a i (λ e. omega (arith, e, le)))

  first_is : z5 17 ≡ t.regs.a
  first_is = write_other z3 19 r4.a 17 (λ e. omega (arith, e)) ∙ (write_other z1 18 r2.a 17 (λ e. omega (arith, e)) ∙ write_same t.zp 17 t.regs.a)

  low_is : z5 18 ≡ low
  low_is = write_other z3 19 r4.a 18 (λ e. omega (arith, e)) ∙ write_same z1 18 r2.a

  high_is : z5 19 ≡ high
  high_is = write_same z3 19 r4.a

  asked_is : zero_word put 18 ≡ asked
  asked_is = omega (arith, low_is, high_is, few)

  sp_is : sp_of put ≡ sp_of t
  sp_is = let l = other 0 (inl (omega arith)) in let h = other 1 (inl (omega arith)) in omega (arith, l, h)

  put_on : IsBytes put → IsOn g put
  put_on b = stays_on g placed t put on (λ n lt. refl) (omega (arith, sp_is, on.stacks.soft)) (omega (arith, sp_is, on.stacks.calm.high)) on.stacks.hard on.running b

  -- ---- the routine

  abbrev row : Row
  row = costing 256 (row_by StkChk put)

  -- by whether the stacks are too small
  row_is : (b : Bool) → is_too_deep put ≡ b → row_of StkChk put ≡ Some (check_row b row)
  row_is b e = ap (λ x. Some (check_row x row)) e

  room : (b : Bool) → IsBytes put → HasRoom g.place (check_row b row) put
  room true bytes =
      let stacks = (put_on bytes).stacks in
      record { ready = refl; soft = stacks.soft; hard = stacks.hard; near = All-nil (IsOpen g.place (min (sp_of put) row.sp)); far = All-nil (IsOpen g.place (max (sp_of put) row.sp)) }
  room false bytes =
      let stacks = (put_on bytes).stacks in
      record { ready = refl; soft = stacks.soft; hard = stacks.hard; near = All-nil (IsOpen g.place (min (sp_of put) row.sp)); far = All-nil (IsOpen g.place (max (sp_of put) row.sp)) }

  -- the lines lead to where the routine does
  check_leads : (b : Bool) (Behind : State → Type 0) → is_too_deep put ≡ b → ((u : State) → Meets (check_row b row) put u → IsBytes put → IsBytes u → Behind u) → Leads g a (puts ++ (call StkChk ∷ [])) (6 + 256) t Behind
  check_leads b Behind e behind = leads_then g a puts (call StkChk ∷ []) 6 256 t (λ u. (u ≡ put) × IsBytes u) Behind (lines_lead g a puts t placed on safe) (λ u h. rw h.0 (called (subst IsBytes h.0 h.1)))
    where
      cost : (x : Bool) → (check_row x row).cost ≤ 256
      cost true = omega arith
      cost false = omega arith

      called : IsBytes put → Leads g a (call StkChk ∷ []) 256 put Behind
      called bytes =
          leads_as g a (call StkChk ∷ []) (check_row b row).cost 256 put (λ v. Meets (check_row b row) put v × IsBytes v) Behind (cost b) (λ v m. behind v m.0 bytes m.1)
          (routine_leads g a StkChk (check_row b row) put (put_on bytes) (row_is b e) (room b bytes))

  -- ---- where the stacks reach

  reaches : DoReach asked t → is_too_deep put ≡ false
  reaches reach = go (nat_lt (sp_of put) (63536 + zero_word put 18)) (nat_lt (s_of put) 31) soft hard
    where
      soft : nat_lt (sp_of put) (63536 + zero_word put 18) ≡ false
      soft = let le : 63536 + zero_word put 18 ≤ sp_of put = omega (arith, asked_is, sp_is, reach.soft) in grind (arith, nat_tests)

      hard : nat_lt (s_of put) 31 ≡ false
      hard = let le : 31 ≤ s_of put = reach.hard in grind (arith, nat_tests)

      go : (x y : Bool) → x ≡ false → y ≡ false → (x || y) ≡ false
      go false y e f = f
      go true y e f = e

  silent : IsSilent row
  silent = silent_row row refl refl refl refl

  checked : (u : State) → Meets row put u → IsBytes put → IsBytes u → IsChecked t u
  checked u m b bytes =
      let here = put_on b in
      let sp : sp_of u ≡ sp_of put = m.sp in
      let s : OnlyScratch (sp_of put) put u = silent_rows_scratch (sp_of put) row put u silent tt m bytes here.running here.stacks.soft (omega arith) in
      let a_is : put.regs.a ≡ u.regs.a = m.kept parts.A refl in
      let x_is : put.regs.x ≡ u.regs.x = m.kept parts.X refl in
      let y_is : put.regs.y ≡ u.regs.y = m.kept parts.Y refl in
      let s2 : z5 2 ≡ u.zp 2 = m.kept (parts.Zp 2) refl in
      let s3 : z5 3 ≡ u.zp 3 = m.kept (parts.Zp 3) refl in
      let t2 = other 2 (inl (omega arith)) in
      let t3 = other 3 (inl (omega arith)) in
      record {
        sp = sp ∙ sp_is;
        value = omega (arith, a_is, x_is, s2, s3, t2, t3, first_is);
        count = sym y_is;
        bank = λ i lt. sym (s.bank i lt) ∙ other (20 + i) (inr (omega arith));
        mem = λ n side. s.mem n (subst (λ q. (n < stack_start) ⊎ (q ≤ n)) (sym sp_is) side);
        pushed = s.pushed;
        frames = s.frames;
        input = s.input;
        output = s.output;
        ended = s.ended;
        bytes = bytes;
      }

  -- ---- where one does not

  too_small : AreTooSmall asked t → is_too_deep put ≡ true
  too_small (inl soft) =
      let less : nat_lt (sp_of put) (63536 + zero_word put 18) ≡ true = (let lt : sp_of put < 63536 + zero_word put 18 = omega (arith, asked_is, sp_is, soft) in grind (arith, nat_tests)) in
      ap (λ b. b || nat_lt (s_of put) 31) less
  too_small (inr hard) = go (nat_lt (sp_of put) (63536 + zero_word put 18)) (nat_lt (s_of put) 31) (let lt : s_of put < 31 = hard in grind (arith, nat_tests))
    where
      go : (x y : Bool) → y ≡ true → (x || y) ≡ true
      go true y e = refl
      go false y e = e

  ended : (u : State) → Meets (check_row true row) put u → IsBytes put → IsBytes u → HasEnded g t u
  ended u m b bytes =
      let stacks = (put_on b).stacks in
      let sp : sp_of u ≡ sp_of put = m.sp in
      record {
        status = m.ended;
        output = m.output ∙ append_nothing t.output;
        calm = record { low = omega (arith, sp, stacks.calm.low); high = omega (arith, sp, stacks.calm.high); hard = rw (m.pushed, m.frames) stacks.calm.hard; constant = constant; bytes = bytes };
      }
    where
      constant : (n v : ℕ) → g.place.constant n ≡ Some v → u.mem n ≡ v
      constant n v e = m.mem n (inl (omega (arith, constants_are_low g placed n v e, (put_on b).stacks.soft))) ∙ on.stacks.calm.constant n v e

pub stacks_are_checked : StacksAreChecked
stacks_are_checked g a asked t placed on reach = check_leads g a asked t placed on reach.few false (IsChecked t) (reaches g a asked t placed on reach.few reach) (checked g a asked t placed on reach.few)

pub small_stacks_end : SmallStacksEnd
small_stacks_end g a asked t placed on few small = check_leads g a asked t placed on few true (HasEnded g t) (too_small g a asked t placed on few small) (ended g a asked t placed on few)
