-- Bytes that are copied and filled through pointers, one line after another.
use Rattle.std.proofs.Common.{◌≡◌, ℕ, suc, ◌+◌, ◌*◌, ◌%◌, ◌<◌, ◌≤◌, ◌==◌, Bool, true, false, if◌then◌else◌, ◌∷◌, Some, refl, sym, subst, ap, ◌∙◌, arith}
use Rattle.std.proofs.lemmas.Bool.{eqb-true}
use Rattle.c65_mach.specs.Step.{Stores, after, stored, with_a, with_y}
use Rattle.c65_mach.specs.declared.rows.Op.{Op}
use Rattle.c65_mach.specs.declared.rows.Op.TheVariants as ops
use Rattle.c65_mach.specs.declared.rows.Mode.TheVariants.{IndirectY}
use Rattle.c65_code.specs.declared.line.Operand.TheVariants.{Zero}
use Rattle.c65_code.specs.LineState.{Bytes, write, zero_word, State, sp_of}
use Rattle.c65_code.specs.Placement.{Setting}
use Rattle.c65_code.specs.Steady.{IsOpen}
use Rattle.c65_pass.specs.KnownCalls.{byte_copied, byte_filled}
use Rattle.c65_pass.specs.Registers.{alone}
use Rattle.c65_opt_law_opened.proofs.AtSp.{with_regs}
use Rattle.c65_opt_law_opened.proofs.Chains.{IsStep}
use Rattle.c65_opt_law_opened.proofs.Leads.{Passable, registers}
use Rattle.c65_opt_law_opened.proofs.Popped.{loaded_through}
use Rattle.c65_opt_law_opened.proofs.Writes.{after_writes, from_there, always}

-- a store through a pointer, which leaves constant bytes as they are
stored_through : (s : Setting) (op : Op) (i : ℕ) (t : State) (b : ℕ) → IsOpen s.place (sp_of t) b → after (zero_word t i) t.regs.y ≡ b → ((v : ℕ) → s.place.constant b ≡ Some v → stored op t.regs ≡ v) → Passable s Stores op IndirectY (Zero i) t
stored_through s op i t b h e same = record { form = refl; allowed = subst (IsOpen s.place (sp_of t)) (sym e) h; sp = refl; depth = refl; constant = λ c v k is. choose c v k is (c == after (zero_word t i) t.regs.y) refl }
  where
    choose : (c v : ℕ) → s.place.constant c ≡ Some v → t.mem c ≡ v → (d : Bool) → (c == after (zero_word t i) t.regs.y) ≡ d → (if d then stored op t.regs else t.mem c) ≡ v
    choose c v k is true h = let at : c ≡ b = eqb-true c (after (zero_word t i) t.regs.y) h ∙ e in same v (subst (λ (x : ℕ). s.place.constant x ≡ Some v) at k)
    choose c v k is false h = is

-- what bytes are moved to, and that they may be
pub record IsTarget (s : Setting) (u : State) (to n : ℕ) (read : Bytes → ℕ → ℕ) : Type 0 where
  pub at : u.zp 10 + 256 * u.zp 11 ≡ to
  pub free : (k : ℕ) → k < n → IsOpen s.place (sp_of u) (to + k)
  pub low : (k : ℕ) → k < n → to + k < 65536
  pub constant : (k v : ℕ) → k < n → s.place.constant (to + k) ≡ Some v → read (after_writes to read u.mem k) k ≡ v
  pub few : n ≤ 8

pub record IsSource (s : Setting) (u : State) (from n : ℕ) : Type 0 where
  pub at : u.zp 8 + 256 * u.zp 9 ≡ from
  pub free : (k : ℕ) → k < n → IsOpen s.place (sp_of u) (from + k)
  pub low : (k : ℕ) → k < n → from + k < 65536

-- behind so many writes, with such a place in Y
pub record Going (u : State) (to : ℕ) (read : Bytes → ℕ → ℕ) (place count : ℕ) (v : State) : Type 0 where
  pub y : v.regs.y ≡ place
  pub x : v.regs.x ≡ u.regs.x
  pub zp : v.zp ≡ u.zp
  pub mem : v.mem ≡ after_writes to read u.mem count
  pub pushed : v.pushed ≡ u.pushed
  pub frames : v.frames ≡ u.frames
  pub input : v.input ≡ u.input
  pub output : v.output ≡ u.output
  pub ended : v.ended ≡ u.ended

module _ (s : Setting) (u : State) (to n : ℕ) (read : Bytes → ℕ → ℕ) (target : IsTarget s u to n read) where
  -- the next place
  counted : (k : ℕ) (v : State) → suc k < n → Going u to read k (suc k) v → Going u to read (suc k) (suc k) (with_regs v (with_y ((v.regs.y + 1) % 256) v.regs))
  counted k v less g = record { y = omega (arith, g.y, less, target.few); x = g.x; zp = g.zp; mem = g.mem; pushed = g.pushed; frames = g.frames; input = g.input; output = g.output; ended = g.ended }

  sp_same : (k j : ℕ) (v : State) → Going u to read k j v → sp_of v ≡ sp_of u
  sp_same k j v g = ap (λ (zp : Bytes). zp 0 + 256 * zp 1) g.zp

  target_at : (k j : ℕ) (v : State) → k < n → Going u to read k j v → after (zero_word v 10) v.regs.y ≡ to + k
  target_at k j v less g =
      let pointer : v.zp 10 + 256 * v.zp 11 ≡ to = ap (λ (zp : Bytes). zp 10 + 256 * zp 11) g.zp ∙ target.at in
      let below : to + k < 65536 = target.low k less in
      omega (arith, pointer, below, g.y)

  target_free : (k j : ℕ) (v : State) → k < n → Going u to read k j v → IsOpen s.place (sp_of v) (to + k)
  target_free k j v less g = subst (λ (sp : ℕ). IsOpen s.place sp (to + k)) (sym (sp_same k j v g)) (target.free k less)

  -- behind a store of the next byte
  went : (k : ℕ) (v : State) (value : ℕ) → k < n → Going u to read k k v → value ≡ read (after_writes to read u.mem k) k → write v.mem (after (zero_word v 10) v.regs.y) value ≡ after_writes to read u.mem (suc k)
  went k v value less g e =
      ap (λ (b : ℕ). write v.mem b value) (target_at k k v less g) ∙ (ap (λ (m : Bytes). write m (to + k) value) g.mem ∙ ap (write (after_writes to read u.mem k) (to + k)) e)

-- ---- filled

module _ (s : Setting) (u : State) (to n value : ℕ) (target : IsTarget s u to n (always value)) where
  pub record Filling (place count : ℕ) (v : State) : Type 0 where
    pub going : Going u to (always value) place count v
    pub a : v.regs.a ≡ value

  pub fill_once : (k : ℕ) (v : State) → k < n → Filling k k v → IsStep s byte_filled v (Filling k (suc k))
  fill_once k v less f =
      let g = f.going in
      record {
        passable = (stored_through s ops.Sta 10 v (to + k) (target_free s u to n (always value) target k k v less g) (target_at s u to n (always value) target k k v less g) (λ w c. f.a ∙ target.constant k w less c), tt);
        holds = record {
          going = record { y = g.y; x = g.x; zp = g.zp; mem = went s u to n (always value) target k v v.regs.a less g f.a; pushed = g.pushed; frames = g.frames; input = g.input; output = g.output; ended = g.ended };
          a = f.a;
        };
      }

  pub fill_more : (k : ℕ) (v : State) → suc k < n → Filling k (suc k) v → IsStep s (alone ops.Iny ∷ byte_filled) v (Filling (suc k) (suc (suc k)))
  fill_more k v less f =
      let next = fill_once (suc k) (with_regs v (with_y ((v.regs.y + 1) % 256) v.regs)) less (record { going = counted s u to n (always value) target k v less f.going; a = f.a }) in
      record { passable = (registers s ops.Iny v, next.passable); holds = next.holds }

-- ---- copied

module _ (s : Setting) (u : State) (to from n : ℕ) (target : IsTarget s u to n (from_there from)) (source : IsSource s u from n) where
  pub copy_once : (k : ℕ) (v : State) → k < n → Going u to (from_there from) k k v → IsStep s byte_copied v (Going u to (from_there from) k (suc k))
  copy_once k v less g =
      let pointer : v.zp 8 + 256 * v.zp 9 ≡ from = ap (λ (zp : Bytes). zp 8 + 256 * zp 9) g.zp ∙ source.at in
      let below : from + k < 65536 = source.low k less in
      let at : after (zero_word v 8) v.regs.y ≡ from + k = omega (arith, pointer, below, g.y) in
      let free : IsOpen s.place (sp_of v) (from + k) = subst (λ (sp : ℕ). IsOpen s.place sp (from + k)) (sym (sp_same s u to n (from_there from) target k k v g)) (source.free k less) in
      let byte : ℕ = v.mem (after (zero_word v 8) v.regs.y) in
      let value : byte ≡ after_writes to (from_there from) u.mem k (from + k) = ap v.mem at ∙ ap (λ (m : Bytes). m (from + k)) g.mem in
      let mid : State = with_regs v (with_a (v.mem (after (zero_word v 8) v.regs.y)) v.regs) in
      record {
        passable = (
          loaded_through s ops.Lda 8 v (from + k) free at,
          (stored_through s ops.Sta 10 mid (to + k) (target_free s u to n (from_there from) target k k v less g) (target_at s u to n (from_there from) target k k v less g) (λ w c. value ∙ target.constant k w less c), tt),
        );
        holds = record { y = g.y; x = g.x; zp = g.zp; mem = went s u to n (from_there from) target k v byte less g value; pushed = g.pushed; frames = g.frames; input = g.input; output = g.output; ended = g.ended };
      }

  pub copy_more : (k : ℕ) (v : State) → suc k < n → Going u to (from_there from) k (suc k) v → IsStep s (alone ops.Iny ∷ byte_copied) v (Going u to (from_there from) (suc k) (suc (suc k)))
  copy_more k v less g =
      let next = copy_once (suc k) (with_regs v (with_y ((v.regs.y + 1) % 256) v.regs)) less (counted s u to n (from_there from) target k v less g) in
      record { passable = (registers s ops.Iny v, next.passable); holds = next.holds }
