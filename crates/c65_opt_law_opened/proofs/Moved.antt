-- Functions of the library that move bytes: what their rows say of a state behind their lines.
use Rattle.std.proofs.Common.{◌≡◌, ℕ, zero, suc, ◌+◌, ◌*◌, ◌/◌, ◌%◌, ◌<◌, ◌≤◌, ◌==◌, ◌⊎◌, inl, inr, Bool, true, false, if◌then◌else◌, List, [], max, Option, Some, None, refl, sym, subst, ap, ◌∙◌, arith}
use Rattle.std.proofs.lemmas.List.{append-nil}
use Rattle.c65_base.specs.declared.library.Library.{Library}
use Rattle.c65_mach.specs.State.{Regs}
use Rattle.c65_mach.specs.Step.{with_a, with_x}
use Rattle.c65_mach.specs.declared.rows.Op.TheVariants as ops
use Rattle.c65_code.specs.declared.parts.Part.{Part}
use Rattle.c65_code.specs.declared.parts.Part.TheVariants as parts
use Rattle.c65_code.specs.declared.parts.RegSet.{RegSet}
use Rattle.c65_code.specs.declared.routine.Routine.TheVariants as routines
use Rattle.c65_code.specs.declared.routine.Width.TheVariants.{Ax}
use Rattle.c65_code.specs.Effects.{large, sp_bytes, library_sets}
use Rattle.c65_code.specs.LineState.{Bytes, State, sp_of, Same, IsBytes}
use Rattle.c65_code.specs.Moves.{MeetsRow}
use Rattle.c65_code.specs.Parts.{has_part, union_of}
use Rattle.c65_code.specs.Placement.{Setting, stack_start, stack_end}
use Rattle.c65_code.specs.Rows.{Row, Meets, written, giving, popping, by_bytes, row_by, row_of}
use Rattle.c65_code.specs.Steady.{IsCalm, IsOpen}
use Rattle.c65_pass.specs.KnownCalls.{given_back}
use Rattle.c65_opt_law_near.specs.Laws.{IsLow}
use Rattle.c65_opt_law_opened.proofs.AtSp.{with_regs}
use Rattle.c65_opt_law_opened.proofs.Known.{IsCalled}
use Rattle.c65_opt_law_opened.proofs.Leads.{Leads, leads_on}
use Rattle.c65_opt_law_opened.proofs.Moving.{IsTarget, Going}
use Rattle.c65_opt_law_opened.proofs.Popped.{open_at, open_below, loaded_zero}
use Rattle.c65_opt_law_opened.proofs.Writes.{after_writes, stays, agree_on}

-- the row of such a function, by what it pops, where it moves bytes to, what it writes and what it reaches
abbrev pub moved_row : Library → ℕ → ℕ → List (ℕ × ℕ) → List ℕ → State → Row
moved_row f popped to ws fs q = by_bytes (giving Ax to (record (popping popped q (row_by (routines.Library f) q)) { writes = ws; far = fs }))

-- where such a row says each byte of memory
abbrev pub IsSaid : State → ℕ → Type 0
IsSaid t b = (b + 64 < sp_of t) ⊎ ((sp_of t ≤ b) ⊎ (sp_of t ≤ b))

-- a state before bytes are moved, behind what pops the arguments of a call
pub record IsReady (t u : State) (popped to : ℕ) : Type 0 where
  pub sp : sp_of u ≡ sp_of t + popped
  pub at : u.zp 10 + 256 * u.zp 11 ≡ to
  pub kept : (i : ℕ) → has_part (union_of large sp_bytes) (parts.Zp i) ≡ false → t.zp i ≡ u.zp i
  pub high : (i : ℕ) → 26 ≤ i → t.zp i ≡ u.zp i
  pub mem : (b : ℕ) → IsSaid t b → u.mem b ≡ t.mem b
  pub pushed : u.pushed ≡ t.pushed
  pub frames : u.frames ≡ t.frames
  pub input : u.input ≡ t.input
  pub output : u.output ≡ t.output
  pub ended : u.ended ≡ None
  pub bytes : IsBytes u

-- an address that the row reaches
pub open_said : (s : Setting) (t : State) (popped b : ℕ) → IsLow s.place → stack_start + 64 ≤ sp_of t → IsOpen s.place (max (sp_of t) (sp_of t + popped)) b → IsSaid t b
open_said s t popped b low soft (inl h) = let below : b < stack_start = low.data_below b h in inl (omega (arith, below, soft))
open_said s t popped b low soft (inr h) = inr (inl (omega (arith, h.0)))

bytes_after : (to : ℕ) (read : Bytes → ℕ → ℕ) (m : Bytes) (n : ℕ) → ((b : ℕ) → m b < 256) → ((x : Bytes) (k : ℕ) → ((b : ℕ) → x b < 256) → read x k < 256) → (b : ℕ) → after_writes to read m n b < 256
bytes_after to read m zero bytes reads b = bytes b
bytes_after to read m (suc n) bytes reads b = pick (b == to + n)
    (reads (after_writes to read m n) n (bytes_after to read m n bytes reads)) (bytes_after to read m n bytes reads b)
  where
    pick : (c : Bool) → read (after_writes to read m n) n < 256 → after_writes to read m n b < 256 → (if c then read (after_writes to read m n) n else after_writes to read m n b) < 256
    pick true one other = one
    pick false one other = other

module _ (s : Setting) (low : IsLow s.place) (f : Library) (sets : library_sets f ≡ union_of large sp_bytes) (t : State) (regs : Regs) (popped to n : ℕ) (read : Bytes → ℕ → ℕ) (ws : List (ℕ × ℕ)) (fs : List ℕ)
    (row : row_of (routines.Library f) (with_regs t regs) ≡ Some (moved_row f popped to ws fs (with_regs t regs))) (writes : written t.mem ws ≡ after_writes to read t.mem n)
    (alike : (x y : Bytes) (k : ℕ) → k < n → ((b : ℕ) → IsSaid t b → x b ≡ y b) → read x k ≡ read y k)
    (reads : (x : Bytes) (k : ℕ) → ((b : ℕ) → x b < 256) → read x k < 256) (c : IsCalled s f t (with_regs t regs)) (u : State) (ready : IsReady t u popped to) (soft : stack_start + 64 ≤ sp_of t) where
  -- a state behind the moves, with the place to which they went in AX
  pub record IsMoved (v : State) : Type 0 where
    pub a : v.regs.a ≡ u.zp 10
    pub x : v.regs.x ≡ u.zp 11
    pub zp : v.zp ≡ u.zp
    pub mem : v.mem ≡ after_writes to read u.mem n
    pub pushed : v.pushed ≡ u.pushed
    pub frames : v.frames ≡ u.frames
    pub input : v.input ≡ u.input
    pub output : v.output ≡ u.output
    pub ended : v.ended ≡ u.ended

  moved_said : (v : State) → IsMoved v → (b : ℕ) → IsSaid t b → v.mem b ≡ written t.mem ws b
  moved_said v h b said = ap (λ (m : Bytes). m b) h.mem ∙ (agree_on (IsSaid t) to read n u.mem t.mem ready.mem alike b said ∙ sym (ap (λ (m : Bytes). m b) writes))

  moved_kept : (v : State) → IsMoved v → (p : Part) → has_part (union_of large sp_bytes) p ≡ false → Same p (with_regs t regs) v
  moved_kept v h (parts.Zp i) out = ready.kept i out ∙ sym (ap (λ (zp : Bytes). zp i) h.zp)
  moved_kept v h _ out = absurd (let e : true ≡ false = out in cc)

  moved_meets : (v : State) → IsMoved v → Meets (moved_row f popped to ws fs (with_regs t regs)) (with_regs t regs) v
  moved_meets v h = record {
    sp = ap (λ (zp : Bytes). zp 0 + 256 * zp 1) h.zp ∙ ready.sp;
    a = h.a ∙ low_is;
    x = h.x ∙ high_is;
    sreg = tt;
    pointers = tt;
    bank = tt;
    kept = λ p out. moved_kept v h p (subst (λ (set : RegSet). has_part set p ≡ false) sets out);
    high = λ i k. ready.high i k ∙ sym (ap (λ (zp : Bytes). zp i) h.zp);
    mem = λ b k. moved_said v h b k;
    pushed = h.pushed ∙ ready.pushed;
    frames = h.frames ∙ ready.frames;
    input = h.input ∙ ready.input;
    output = h.output ∙ (ready.output ∙ sym (append-nil t.output));
    ended = h.ended ∙ ready.ended;
  }
    where
      l : u.zp 10 < 256
      l = ready.bytes.zp 10

      g : u.zp 11 < 256
      g = ready.bytes.zp 11

      low_is : u.zp 10 ≡ to % 256
      low_is = omega (arith, ready.at, l, g)

      high_is : u.zp 11 ≡ to / 256 % 256
      high_is = omega (arith, ready.at, l, g)

  pub moved_row_meets : (v : State) → IsMoved v → MeetsRow (row_of (routines.Library f) (with_regs t regs)) (with_regs t regs) v
  moved_row_meets v h = subst (λ (o : Option Row). MeetsRow o (with_regs t regs) v) (sym row) (moved_meets v h)

  -- the state to which the call leads, in which constant bytes are as they were
  abbrev end : State
  end = record u { regs = with_x (u.zp 11) (with_a (u.zp 10) u.regs); mem = after_writes to read u.mem n }

  end_calm : IsCalm s end
  end_calm = c.ends_calm end (moved_row_meets end (record { a = refl; x = refl; zp = refl; mem = refl; pushed = refl; frames = refl; input = refl; output = refl; ended = refl }))
      (record { a = ready.bytes.zp 10; x = ready.bytes.zp 11; y = ready.bytes.y; zp = ready.bytes.zp; mem = bytes_after to read u.mem n ready.bytes.mem reads; pushed = ready.bytes.pushed; frames = ready.bytes.frames })

  -- what is written where a byte is constant is that byte
  pub end_constant : (k v : ℕ) → k < n → s.place.constant (to + k) ≡ Some v → read (after_writes to read t.mem k) k ≡ v
  end_constant k v less e =
      let below : to + k < stack_start = low.constant_below (to + k) v e in
      let said : IsSaid t (to + k) = inl (omega (arith, below, soft)) in
      sym (stays to read t.mem n k less) ∙ (sym (agree_on (IsSaid t) to read n u.mem t.mem ready.mem alike (to + k) said) ∙ end_calm.constant (to + k) v e)

  pub target_ready : n ≤ 8 → ((k : ℕ) → k < n → IsOpen s.place (max (sp_of t) (sp_of t + popped)) (to + k)) → IsTarget s u to n read
  target_ready few free = record {
    at = ready.at;
    free = λ k less. open_at s.place t popped (sp_of u) (to + k) low (sym ready.sp) (free k less);
    low = λ k less. let below : to + k < stack_end = open_below s.place (max (sp_of t) (sp_of t + popped)) (to + k) low (free k less) in omega (arith, below);
    constant = λ k v less e. sym (stays to read u.mem n k less) ∙ end_calm.constant (to + k) v e;
    few = few;
  }

  -- the place is given back
  pub given_leads : (k : ℕ) (v : State) → suc k ≡ n → Going u to read k (suc k) v → IsCalm s v → Leads s (MeetsRow (row_of (routines.Library f) (with_regs t regs)) (with_regs t regs)) given_back 2 v
  given_leads k v last g calm =
      let P : State → Type 0 = MeetsRow (row_of (routines.Library f) (with_regs t regs)) (with_regs t regs) in
      leads_on s P given_back [] 0 v (loaded_zero s ops.Lda 10 v (omega arith), (loaded_zero s ops.Ldx 11 (with_regs v (with_a (v.zp 10) v.regs)) (omega arith), tt)) calm (λ d.
      moved_row_meets (with_regs v (with_x (v.zp 11) (with_a (v.zp 10) v.regs))) (record {
        a = ap (λ (zp : Bytes). zp 10) g.zp;
        x = ap (λ (zp : Bytes). zp 11) g.zp;
        zp = g.zp;
        mem = g.mem ∙ ap (after_writes to read u.mem) last;
        pushed = g.pushed;
        frames = g.frames;
        input = g.input;
        output = g.output;
        ended = g.ended;
      }))
