-- The windows made by hand.
use Rattle.std.proofs.Common.{◌≡◌, ℕ, ◌+◌, ◌<◌, ◌≤◌, Bool, true, false, List, [], ◌∷◌, Option, Some, None, IsTrue, refl, sym, subst, ap, ◌∙◌, arith}
use Rattle.c65_mach.specs.declared.rows.Op.TheVariants.{Bne, Ldx}
use Rattle.c65_mach.specs.declared.rows.Mode.TheVariants.{Immediate, Relative}
use Rattle.c65_mach.specs.Step.{is_taken}
use Rattle.c65_code.proofs.PartLaws.{has_part-empty}
use Rattle.c65_code.specs.declared.line.Line.{Line}
use Rattle.c65_code.specs.declared.line.Line.TheVariants.{Do}
use Rattle.c65_code.specs.declared.line.Operand.TheVariants.{Byte, To}
use Rattle.c65_code.specs.declared.parts.Part.{Part}
use Rattle.c65_code.specs.declared.parts.Part.TheVariants.{A, X, Y, Zp, N, V, Z, C}
use Rattle.c65_code.specs.declared.parts.RegSet.{RegSet}
use Rattle.c65_code.specs.Forms.{Form, Jump, Branch, form_of}
use Rattle.c65_code.specs.LineState.{State, Same, IsBytes}
use Rattle.c65_code.specs.Parts.{has_part, no_parts, set_of}
use Rattle.c65_code.specs.Placement.{Placement, Setting}
use Rattle.c65_code.specs.Steady.{IsCalm}
use Rattle.c65_opt_law_near.proofs.Sets.{set_lacks, sets_no_byte}
use Rattle.c65_opt_law_near.specs.Near.{Near}
use Rattle.c65_opt_law_follow.specs.Windows.{WayOut, Behind, ToLabel, Way, ends, goes, jumps, branches, passes, Safe, safe_end, safe_line, EndsCalm, Answers, Starts, Justified}
use Rattle.c65_opt_law_follow.specs.Samples.{load, loaded_branch, loaded, BranchIsTaken, NothingPasses, DeadLoadGoes, LiveLoadStays, KnownLoadGoes}

loaded_bytes : (t : State) → IsBytes t → IsBytes (loaded t)
loaded_bytes t b = record { a = b.a; x = omega arith; y = b.y; zp = b.zp; mem = b.mem; pushed = b.pushed; frames = b.frames }

pub branch_is_taken : BranchIsTaken
branch_is_taken place t b = goes tt refl (loaded_bytes t b) (branches Bne 7 refl refl)

-- a way through the branch alone, from a state with Z clear
falls : (place : Placement) (t u : State) (w : ℕ) → t.regs.z ≡ false → Way place (Do Bne Relative (To 7) ∷ []) t Behind u w → ⊥
falls place t u w z (goes i d b way) = i
falls place t u w z (passes op k e taken way) =
    let same : Bne ≡ op = cc in
    let not_taken : is_taken Bne t.regs ≡ false = ap (λ o. is_taken o t.regs) same ∙ taken in
    cc

pub nothing_passes : NothingPasses
nothing_passes place t u w (goes {u = m} i d b way) = falls place m u _ (ap (λ (x : State). x.regs.z) d) way
nothing_passes place t u w (passes op k e taken way) = cc

near_loaded : (live : RegSet) (t : State) → ((p : Part) → IsTrue (has_part live p) → Same p (loaded t) t) → Near live (loaded t) t
near_loaded live t h = record { part = h; sp_low = refl; sp_high = refl; high = λ i k. refl; mem = λ b k. refl; pushed = refl; input = refl; output = refl; ended = refl }

-- nothing stands for the load where the states are near
gone : (s : Setting) (to : WayOut → ℕ) (live : RegSet) (known : State → Type 0) → ((t : State) → known t → Near live (loaded t) t) → Justified s to (λ exit. live) known (load ∷ []) []
gone s to live known near = record {
  safe = λ w t h. safe_end;
  answers = λ w t h e u v way. answer t h.knows h.bytes e u v way;
}
  where
    answer : (t : State) → known t → IsBytes t → (e : WayOut) (u : State) (v : ℕ) → Way s.place [] t e u v → Answers s.place to (λ exit. live) (load ∷ []) t e u v
    answer t k b e u v ends = record { old_exit = Behind; state = loaded t; weighs = 1; way = goes tt refl (loaded_bytes t b) ends; less = omega arith; same = refl; near = near t k }

pub dead_load_goes : DeadLoadGoes
dead_load_goes s to = gone s to no_parts (λ t. Unit {0}) (λ t k. near_loaded no_parts t (λ p h. absurd (none p h (has_part-empty p))))
  where
    none : (p : Part) → has_part no_parts p ≡ true → has_part no_parts p ≡ false → ⊥
    none p h k = cc

pub known_load_goes : KnownLoadGoes
known_load_goes s to = gone s to (set_of (X ∷ [])) (λ t. t.regs.x ≡ 1) (λ t k. near_loaded (set_of (X ∷ [])) t (part t k))
  where
    part : (t : State) → t.regs.x ≡ 1 → (p : Part) → IsTrue (has_part (set_of (X ∷ [])) p) → Same p (loaded t) t
    part t k X h = sym k
    part t k A h = absurd (cc)
    part t k Y h = refl
    part t k (Zp i) h = refl
    part t k N h = absurd (cc)
    part t k V h = refl
    part t k Z h = absurd (cc)
    part t k C h = refl

ended : {place : Placement} {t u : State} {e : WayOut} {w : ℕ} → Way place [] t e u w → u ≡ t
ended ends = refl

pub live_load_stays : LiveLoadStays
live_load_stays s to t calm running zero j = wrong (j.answers 1 t starts Behind t 0 ends)
  where
    after_load : (e : WayOut) (u : State) (w : ℕ) → Way s.place (load ∷ []) t e u w → u ≡ loaded t
    after_load e u w (goes i d b way) = ended way ∙ d
    after_load e u w (jumps k f) = absurd (cc)
    after_load e u w (branches op k f z) = absurd (cc)
    after_load e u w (passes op k f z way) = absurd (cc)

    starts : Starts s (λ t. Unit {0}) (load ∷ []) 1 t
    starts = record {
      knows = tt;
      running = running;
      bytes = calm.bytes;
      safe = safe_line {v = 0} tt (record { calm = calm; within = tt }) (omega arith) (λ u d b. safe_end);
      calm = λ e u w way. subst (IsCalm s) (sym (after_load e u w way)) (record { low = calm.low; high = calm.high; hard = calm.hard; constant = calm.constant; bytes = loaded_bytes t calm.bytes });
    }

    wrong : Answers s.place to (λ exit. set_of (X ∷ [])) (load ∷ []) t Behind t 0 → ⊥
    wrong a = let same : a.state.regs.x ≡ t.regs.x = a.near.part X refl in let one : a.state.regs.x ≡ 1 = ap (λ (x : State). x.regs.x) (after_load a.old_exit a.state a.weighs a.way) in omega (arith, same, one, zero)
