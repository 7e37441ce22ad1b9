-- Near states in which one byte is written, and the registers and flags are other ones.
use Rattle.std.proofs.Common.{◌≡◌, ℕ, ◌<◌, ◌≤◌, ◌==◌, Bool, true, false, if◌then◌else◌, ◌⊎◌, inl, inr, IsTrue, refl, arith, eqb-true}
use Rattle.c65_mach.specs.State.{Regs}
use Rattle.c65_code.specs.declared.parts.Part.{Part}
use Rattle.c65_code.specs.declared.parts.Part.TheVariants.{A, X, Y, Zp, N, V, Z, C}
use Rattle.c65_code.specs.declared.parts.RegSet.{RegSet}
use Rattle.c65_code.specs.LineState.{Bytes, write, State, sp_of, Same}
use Rattle.c65_code.specs.Moves.{Ref, Given, ZeroAt, MemAt, put}
use Rattle.c65_code.specs.Parts.{has_part}
use Rattle.c65_code.specs.Placement.{stack_start}
use Rattle.c65_know_law.proofs.Registers.{SameIn}
use Rattle.c65_opt_law_near.specs.Near.{Near}
use Rattle.c65_opt_law_near.proofs.Sets.{IsReg}

-- one byte at one address in both
pub write_same : (m k : Bytes) (at v w b : ℕ) → v ≡ w → ((b == at) ≡ false → m b ≡ k b) → write m at v b ≡ write k at w b
write_same m k at v w b e h = pick (b == at) refl
  where
    pick : (c : Bool) → (b == at) ≡ c → (if c then v else m b) ≡ (if c then w else k b)
    pick true f = e
    pick false f = h f

write_other : (m : Bytes) (at v b : ℕ) → b < at → write m at v b ≡ m b
write_other m at v b lt = pick (b == at) refl
  where
    pick : (c : Bool) → (b == at) ≡ c → (if c then v else m b) ≡ m b
    pick true f = let same : b ≡ at = eqb-true b at f in absurd (omega arith)
    pick false f = refl

-- a reference of the zero page is not to sp
abbrev pub IsAboveSp : Ref → Type 0
IsAboveSp (ZeroAt i) = 2 ≤ i
IsAboveSp _ = Unit {0}

-- the byte of the zero page is not that which the reference is to
abbrev pub IsNotAt : Ref → ℕ → Type 0
IsNotAt (ZeroAt j) i = (i == j) ≡ false
IsNotAt _ i = Unit {0}

module _ (live after : RegSet) (t u : State) (n : Near live t u) (r q : Regs) where
  part_by : (zp wp : Bytes) (mem nem : Bytes) → ((p : Part) → IsReg p → has_part after p ≡ true → SameIn p r q) → ((i : ℕ) → has_part after (Zp i) ≡ true → zp i ≡ wp i)
      → (p : Part) → IsTrue (has_part after p) → Same p (record t { regs = r; zp = zp; mem = mem }) (record u { regs = q; zp = wp; mem = nem })
  part_by zp wp mem nem regs bytes (Zp i) h = bytes i h
  part_by zp wp mem nem regs bytes A h = regs A tt h
  part_by zp wp mem nem regs bytes X h = regs X tt h
  part_by zp wp mem nem regs bytes Y h = regs Y tt h
  part_by zp wp mem nem regs bytes N h = regs N tt h
  part_by zp wp mem nem regs bytes V h = regs V tt h
  part_by zp wp mem nem regs bytes Z h = regs Z tt h
  part_by zp wp mem nem regs bytes C h = regs C tt h

  pub near_put : (ref : Ref) (v w : ℕ) → v ≡ w → IsAboveSp ref → ((p : Part) → IsReg p → has_part after p ≡ true → SameIn p r q) → ((i : ℕ) → has_part after (Zp i) ≡ true → IsNotAt ref i → t.zp i ≡ u.zp i)
      → Near after (put ref v (record t { regs = r })) (put ref w (record u { regs = q }))
  near_put (Given x) v w e above regs bytes = record {
    part = part_by t.zp u.zp t.mem u.mem regs (λ i h. bytes i h tt);
    sp_low = n.sp_low;
    sp_high = n.sp_high;
    high = n.high;
    mem = n.mem;
    pushed = n.pushed;
    input = n.input;
    output = n.output;
    ended = n.ended;
  }
  near_put (ZeroAt j) v w e above regs bytes =
      let low : write t.zp j v 0 ≡ t.zp 0 = write_other t.zp j v 0 (omega arith) in
      let high : write t.zp j v 1 ≡ t.zp 1 = write_other t.zp j v 1 (omega arith) in
      let sp : sp_of (record t { zp = write t.zp j v }) ≡ sp_of t = omega arith in
      record {
        part = part_by (write t.zp j v) (write u.zp j w) t.mem u.mem regs (λ i h. write_same t.zp u.zp j v w i e (λ f. bytes i h f));
        sp_low = write_same t.zp u.zp j v w 0 e (λ f. n.sp_low);
        sp_high = write_same t.zp u.zp j v w 1 e (λ f. n.sp_high);
        high = λ i h. write_same t.zp u.zp j v w i e (λ f. n.high i h);
        mem = λ b h. n.mem b (open_at b sp h);
        pushed = n.pushed;
        input = n.input;
        output = n.output;
        ended = n.ended;
      }
    where
      open_at : (b : ℕ) → sp_of (record t { zp = write t.zp j v }) ≡ sp_of t → (b < stack_start) ⊎ (sp_of (record t { zp = write t.zp j v }) ≤ b) → (b < stack_start) ⊎ (sp_of t ≤ b)
      open_at b sp (inl h) = inl h
      open_at b sp (inr h) = inr (omega arith)
  near_put (MemAt b) v w e above regs bytes = record {
    part = part_by t.zp u.zp (write t.mem b v) (write u.mem b w) regs (λ i h. bytes i h tt);
    sp_low = n.sp_low;
    sp_high = n.sp_high;
    high = n.high;
    mem = λ c h. write_same t.mem u.mem b v w c e (λ f. n.mem c h);
    pushed = n.pushed;
    input = n.input;
    output = n.output;
    ended = n.ended;
  }
