-- A store to a byte that is not read.
use Rattle.std.proofs.Common.{◌≡◌, ℕ, ◌+◌, ◌-◌, ◌<◌, ◌≤◌, ◌==◌, ◌&&◌, ◌⊎◌, inl, inr, Bool, true, false, if◌then◌else◌, List, [], ◌∷◌, Option, Some, None, IsTrue, refl, sym, subst, ap, ◌∙◌, arith}
use Rattle.std.specs.Prelude.{is_some, nat_le, take, drop}
use Rattle.std.proofs.lemmas.Bool.{and_parts, cases_eq, eqb-true, leb-true}
use Rattle.c65_mach.specs.declared.rows.Op.{Op}
use Rattle.c65_mach.specs.declared.rows.Op.TheVariants as ops
use Rattle.c65_mach.specs.declared.rows.Mode.TheVariants.{ZeroPage}
use Rattle.c65_code.proofs.PartLaws.{with_iff}
use Rattle.c65_code.specs.declared.line.Line.{Line}
use Rattle.c65_code.specs.declared.line.Line.TheVariants.{Do}
use Rattle.c65_code.specs.declared.line.Operand.TheVariants.{Zero}
use Rattle.c65_code.specs.declared.line.Sym.{Sym}
use Rattle.c65_code.specs.declared.parts.Part.{Part}
use Rattle.c65_code.specs.declared.parts.Part.TheVariants as parts
use Rattle.c65_code.specs.declared.parts.RegSet.{RegSet}
use Rattle.c65_code.specs.Forms.{form_of}
use Rattle.c65_code.specs.LineState.{Bytes, write, State, Same}
use Rattle.c65_code.specs.Parts.{has_part, no_parts, set_of}
use Rattle.c65_code.specs.Placement.{Setting}
use Rattle.c65_know.specs.Known.{annotated}
use Rattle.c65_live.specs.Samples.{DeadIsNotLive}
use Rattle.c65_live.specs.Tables.{Table, live_after, is_dead}
use Rattle.c65_pass.specs.FlowRules.{gone_if}
use Rattle.c65_pass.specs.LoadRules.{is_scratch, is_dead_store}
use Rattle.c65_pass.specs.Registers.{stored_by}
use Rattle.c65_pass.specs.Rewriting.{Rewriting}
use Rattle.c65_pass.specs.Rules.{made_by, match_there, match_at}
use Rattle.c65_opt_law_near.specs.Near.{Near}
use Rattle.c65_optarith_law.specs.Straight.{Steps, Straight, done}
use Rattle.c65_optarith_law.proofs.Windows.{one}
use Rattle.c65_opt_law_kept.specs.Laws.{RuleIsFollowed}
use Rattle.c65_opt_law_kept.proofs.Steps.{IsStep}
use Rattle.c65_opt_law_kept.proofs.Kept.{InRow, IsDone, done_is_followed}
use Rattle.c65_opt_law_kept.proofs.Made.{gone_row}

write_other : (m : Bytes) (i v j : ℕ) → (j ≡ i → ⊥) → write m i v j ≡ m j
write_other m i v j ne = pick (j == i) refl
  where
    pick : (b : Bool) → (j == i) ≡ b → (if b then v else m j) ≡ m j
    pick true e = absurd (ne (eqb-true j i e))
    pick false e = refl

-- a byte of the scratch bytes that is not live
near_stored : (live : RegSet) (t : State) (i v : ℕ) → 2 ≤ i → i ≤ 19 → has_part live (parts.Zp i) ≡ false → Near live (record t { zp = write t.zp i v }) t
near_stored live t i v low high dead = record {
  part = part;
  sp_low = write_other t.zp i v 0 (λ e. omega (arith, e, low));
  sp_high = write_other t.zp i v 1 (λ e. omega (arith, e, low));
  high = λ j h. write_other t.zp i v j (λ e. omega (arith, e, h, high));
  mem = λ b h. refl;
  pushed = refl;
  input = refl;
  output = refl;
  ended = refl;
}
  where
    part : (p : Part) → IsTrue (has_part live p) → Same p (record t { zp = write t.zp i v }) t
    part (parts.Zp j) h = pick (cases_eq j i)
      where
        pick : (j ≡ i) ⊎ (j ≡ i → ⊥) → write t.zp i v j ≡ t.zp j
        pick (inl e) = let no : has_part live (parts.Zp j) ≡ false = ap (λ (n : ℕ). has_part live (parts.Zp n)) e ∙ dead in absurd cc
        pick (inr ne) = write_other t.zp i v j ne
    part parts.A h = refl
    part parts.X h = refl
    part parts.Y h = refl
    part parts.N h = refl
    part parts.V h = refl
    part parts.Z h = refl
    part parts.C h = refl

stored_step : (op : Op) (i : ℕ) → is_some (stored_by op) ≡ true → IsStep (form_of (Do op ZeroPage (Zero i)))
stored_step ops.Sta i h = tt
stored_step ops.Stx i h = tt
stored_step ops.Sty i h = tt
stored_step _ i h = absurd cc

stored_near : (s : Setting) (live : RegSet) (op : Op) (i : ℕ) (t u : State) → is_some (stored_by op) ≡ true → ((v : ℕ) → Near live (record t { zp = write t.zp i v }) t) → Steps s (Do op ZeroPage (Zero i)) t u → Near live u t
stored_near s live ops.Sta i t u h near step = subst (λ (x : State). Near live x t) (sym step.does) (near t.regs.a)
stored_near s live ops.Stx i t u h near step = subst (λ (x : State). Near live x t) (sym step.does) (near t.regs.x)
stored_near s live ops.Sty i t u h near step = subst (λ (x : State). Near live x t) (sym step.does) (near t.regs.y)
stored_near s live _ i t u h near step = absurd cc

module _ (dead : DeadIsNotLive) where
  dead_store : (table : Table) (q : ℕ) (line : Line) → is_dead_store table q line ≡ true → IsStep (form_of line) × ((s : Setting) (t u : State) → Steps s line t u → Near (live_after table q) u t)
  dead_store table q (Do op ZeroPage (Zero i)) h =
      let first = and_parts (is_some (stored_by op)) _ h in
      let rest = and_parts (is_scratch i) (is_dead table q (set_of (parts.Zp i ∷ []))) first.1 in
      let bounds = and_parts (nat_le 2 i) (nat_le i 19) rest.0 in
      let has : has_part (set_of (parts.Zp i ∷ [])) (parts.Zp i) ≡ true = (with_iff no_parts (parts.Zp i) (parts.Zp i)).1 (inl refl) in
      (stored_step op i first.0, λ s t u step. stored_near s (live_after table q) op i t u first.0 (λ v. near_stored (live_after table q) t i v (leb-true 2 i bounds.0) (leb-true i 19 bounds.1) (dead table q (set_of (parts.Zp i ∷ [])) rest.1 (parts.Zp i) has)) step)
  dead_store table q _ h = absurd cc

  -- the line goes
  gone : (lines : List Line) (table : Table) (at : ℕ) (w : Rewriting) (line : Line) (post : List Line) (b : Bool) → drop at lines ≡ line ∷ post → (b ≡ true → IsStep (form_of line) × ((s : Setting) (t u : State) → Steps s line t u → Near (live_after table at) u t))
      → gone_if b at ≡ Some w → InRow lines at w × ((s : Setting) → IsDone s lines table at w)
  gone lines table at w line post false e facts m = absurd cc
  gone lines table at w line post true e facts m =
      let is : record { at = at; count = 1; lines = [] } ≡ w = cc in
      let q : at ≡ at + 1 - 1 = omega arith in (
        gone_row lines at line post w true e (λ h. (facts refl).0) m,
        λ s. subst (IsDone s lines table at) is (λ t u so straight. (t, done, subst (λ (n : ℕ). Near (live_after table n) u t) q ((facts refl).1 s t u (one (subst (λ (x : List Line). Straight s (take 1 x) t u) e straight))))),
      )

  pub dead_store_followed : RuleIsFollowed 12
  dead_store_followed = done_is_followed 12 (λ literals out lines table at w m. go literals out lines table at w (drop at lines) refl m)
    where
      go : (literals : List (Sym × List ℕ)) (out : RegSet) (lines : List Line) (table : Table) (at : ℕ) (w : Rewriting) (rest : List Line) → drop at lines ≡ rest → match_there 12 literals (annotated lines out) table at rest ≡ Some w → InRow lines at w × ((s : Setting) → IsDone s lines table at w)
      go literals out lines table at w [] e k = absurd cc
      go literals out lines table at w (line ∷ post) e k = gone lines table at w line post (is_dead_store table at line) e (dead_store table at line) k
