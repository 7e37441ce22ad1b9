-- Copies of areas that have no byte in common.
use Rattle.std.proofs.Common.{◌≡◌, ℕ, zero, suc, ◌+◌, ◌/◌, ◌%◌, ◌<◌, ◌≤◌, ◌⊎◌, inl, inr, ◌++◌, Some, Bool, true, false, refl, sym, ap, ◌∙◌, subst, arith}
use Rattle.std.specs.Prelude.{min, max, IsTrue, drop, ◌==◌, ◌&&◌, nat_lt}
use Rattle.std.proofs.lemmas.Bool.{cases_eq}
use Rattle.c65_base.specs.declared.library.Library.TheVariants.{Memcpy}
use Rattle.c65_meaning.specs.Store.{Block}
use Rattle.c65_meaning.specs.State.{Scene}
use Rattle.c65_meaning.specs.Library.{overlap}
use Rattle.c65_code.specs.declared.parts.Part.TheVariants.{Zp}
use Rattle.c65_code.specs.declared.routine.Routine.TheVariants.{Library}
use Rattle.c65_code.specs.LineState.{Bytes, write, State, word_at, sp_of, ax_of, IsBytes}
use Rattle.c65_code.specs.Placement.{IsPlacement, stack_start}
use Rattle.c65_code.specs.Texts.{copied, range_of}
use Rattle.c65_code.specs.Rows.{Row, Meets, copy_row, written}
use Rattle.c65_code.specs.Steady.{IsOpen, HasRoom}
use Rattle.c65_agree_store.specs.Stands.{At, Placing, Banks, CellIs, IsAt}
use Rattle.c65_agree_state.specs.World.{World, Active}
use Rattle.c65_agree_state.specs.Exprs.{Ready}
use Rattle.c65_agree_state.specs.Laws.{HasStacks}
use Rattle.c65_agree_state.proofs.Followed.{ready_is_calm}
use Rattle.c65_agree_numbers.proofs.Tests.{less, equal}
use Rattle.c65_agree_rows.specs.Rows.{IsQuiet}
use Rattle.c65_agree_rows.proofs.Quiet.{append_nothing, write_other, write_same, in_range, quiet_row, runs_by}
use Rattle.c65_agree_put.specs.Puts.{OnlyStored, AreLaid}
use Rattle.c65_agree_put.proofs.Puts.{banks_follow, puts_are_taken}
use Rattle.c65_agree_put.proofs.Stores.{data_is_low}
use Rattle.c65_agree_copy.specs.Copies.{AreCopied, IsLibraryCopied}
use Rattle.c65_agree_copy.specs.Laws.{LibraryCopiesRun}
use Rattle.c65_agree_copy.proofs.Runs.{all_both}

-- ---- bytes that are copied one behind another

pub copied_other : (n to from : ℕ) (m : Bytes) (q : ℕ) → ((i : ℕ) → i < n → to + i ≡ q → ⊥) → written m (copied n to from m) q ≡ m q
copied_other zero to from m q h = refl
copied_other (suc n) to from m q h =
    copied_other n (to + 1) (from + 1) (write m to (m from)) q (λ i lt e. h (suc i) (omega (arith, lt)) (omega (arith, e))) ∙ write_other m to (m from) q (λ e. h 0 (omega arith) (omega (arith, e)))

pub copied_at : (n to from : ℕ) (m : Bytes) → ((i j : ℕ) → i < n → j < n → from + i ≡ to + j → ⊥) → (i : ℕ) → i < n → written m (copied n to from m) (to + i) ≡ m (from + i)
copied_at zero to from m h i lt = absurd (omega arith)
copied_at (suc n) to from m h zero lt =
    let here : to + 0 ≡ to = omega arith in
    let there : from + 0 ≡ from = omega arith in
    ap (written m (copied (suc n) to from m)) here ∙ copied_other n (to + 1) (from + 1) (write m to (m from)) to (λ i less_than e. omega (arith, e)) ∙ write_same m to (m from) ∙ ap m (sym there)
copied_at (suc n) to from m h (suc i) lt =
    let on : to + suc i ≡ to + 1 + i = omega arith in
    let next : from + suc i ≡ from + 1 + i = omega arith in
    ap (written m (copied (suc n) to from m)) on
    ∙ copied_at n (to + 1) (from + 1) (write m to (m from)) (λ k l lk ll e. h (suc k) (suc l) (omega (arith, lk)) (omega (arith, ll)) (omega (arith, e))) i (omega (arith, lt))
    ∙ write_other m to (m from) (from + 1 + i) (λ e. h (suc i) 0 lt (omega arith) (omega (arith, e))) ∙ ap m (sym next)

-- ---- the routine

module _ (g : World) (a : Active) (pushed needs count b o d p : ℕ) (c : Scene) (w : Placing) (k : Banks) (t : State) (placed : IsPlacement g.code g.place) (r : Ready g a (pushed + 4) needs c w k t) (h : AreCopied g a c w count b o d p t) where
  abbrev target : ℕ
  target = word_at t.mem (sp_of t + 2)

  abbrev origin : ℕ
  origin = word_at t.mem (sp_of t)

  abbrev row : Row
  row = copy_row (Library Memcpy) (ax_of t) target origin 4 t

  stacks : HasStacks g t
  stacks = ready_is_calm g a (pushed + 4) needs c w k t r

  -- no byte is in both areas
  both : (x y z : Bool) → x ≡ true → y ≡ true → z ≡ true → x && (y && z) ≡ true
  both x y z e f i = rw (e, f, i) refl

  bytes_apart : (i j : ℕ) → i < count → j < count → h.from + (o + i) ≡ h.to + (p + j) → ⊥
  bytes_apart i j li lj e = go (cases_eq b d)
    where
      go : (b ≡ d) ⊎ (b ≡ d → ⊥) → ⊥
      go (inr ne) = r.joins.stands.apart b d h.source h.block (At h.from) (At h.to) h.source_at h.may.block ne (o + i) (p + j) (omega (arith, li, h.source_fits, r.joins.stands.whole b h.source h.source_at.is)) (omega (arith, lj, h.may.fits, r.joins.stands.whole d h.block h.may.block.is)) (ap At e)
      go (inl same) =
          let f : Some (At h.from) ≡ Some (At h.to) = sym h.source_at.place ∙ ap w same ∙ h.may.block.place in
          let one : h.from ≡ h.to = cc in
          let meets : overlap count b o d p ≡ true = both (b == d) (nat_lt o (p + count)) (nat_lt p (o + count)) (equal b d same) (less o (p + count) (omega (arith, e, one, lj))) (less p (o + count) (omega (arith, e, one, li))) in
          let clash : true ≡ false = sym meets ∙ h.apart in
          cc

  -- both areas may be reached
  reach : (e : ℕ) (x : Block) (at i bound : ℕ) → IsAt c.store w e x (At at) → i < x.holds → bound ≤ a.base → IsOpen g.place bound (at + i)
  reach e x at i bound is lt le = go (r.joins.reached e x at i is lt)
    where
      go : IsTrue (g.place.is_data (at + i)) ⊎ (a.base ≤ at + i) → IsOpen g.place bound (at + i)
      go (inl there) = inl there
      go (inr high) = inr (omega (arith, high, le), omega (arith, lt, r.joins.stands.whole e x is.is, (r.joins.stands.lies e x (At at) is).1))

  source_byte : (i bound : ℕ) → i < ax_of t → bound ≤ a.base → IsOpen g.place bound (origin + i)
  source_byte i bound lt le =
      let e : h.from + (o + i) ≡ origin + i = omega (arith, h.source_is) in
      subst (IsOpen g.place bound) e (reach b h.source h.from (o + i) bound h.source_at (omega (arith, lt, h.counted, h.source_fits)) le)

  target_byte : (i bound : ℕ) → i < ax_of t → bound ≤ a.base → IsOpen g.place bound (target + i)
  target_byte i bound lt le =
      let e : h.to + (p + i) ≡ target + i = omega (arith, h.target_is) in
      subst (IsOpen g.place bound) e (reach d h.block h.to (p + i) bound h.may.block (omega (arith, lt, h.counted, h.may.fits)) le)

  access : HasRoom g.place row t
  access = record {
    ready = refl;
    soft = stacks.soft;
    hard = stacks.hard;
    near = in_range (IsOpen g.place (min (sp_of t) (sp_of t + 4))) 4 (sp_of t) (λ i lt. inr (omega arith, omega (arith, lt, r.sp, r.joins.top)));
    far = all_both (IsOpen g.place (max (sp_of t) (sp_of t + 4))) (range_of (ax_of t) origin) (range_of (ax_of t) target)
        (in_range (IsOpen g.place (max (sp_of t) (sp_of t + 4))) (ax_of t) origin (λ i lt. source_byte i (max (sp_of t) (sp_of t + 4)) lt (omega (arith, r.sp))))
        (in_range (IsOpen g.place (max (sp_of t) (sp_of t + 4))) (ax_of t) target (λ i lt. target_byte i (max (sp_of t) (sp_of t + 4)) lt (omega (arith, r.sp))));
  }

  module _ (u : State) (meets : Meets row t u) (bytes : IsBytes u) where
    quiet : IsQuiet row
    quiet = quiet_row row refl refl refl refl refl

    is_written : (n : ℕ) → (n < stack_start) ⊎ (sp_of t ≤ n) → u.mem n ≡ written t.mem (copied (ax_of t) target origin t.mem) n
    is_written n (inl low) = meets.mem n (inl (omega (arith, low, stacks.soft)))
    is_written n (inr high) = meets.mem n (inr (inl high))

    only : OnlyStored a (sp_of t) (At h.to) p count t u
    only = record {
      mem = λ n side beside. is_written n side ∙ copied_other (ax_of t) target origin t.mem n (λ i lt e. beside i (omega (arith, lt, h.counted)) (ap At (omega (arith, e, h.target_is))));
      bank = λ i lt beside. meets.kept (Zp (20 + i)) (quiet.silent.bank i lt);
      pushed = meets.pushed;
      frames = meets.frames;
      input = meets.input ∙ ap (λ n. drop n t.input) quiet.silent.taken;
      output = meets.output ∙ ap (λ xs. t.output ++ xs) quiet.silent.out ∙ append_nothing t.output;
      ended = meets.ended ∙ quiet.silent.ends ∙ sym r.joins.ended;
      bytes = bytes;
    }

    laid : AreLaid w (At h.to) p count (λ i. h.source.cells (o + i)) u
    laid i lt =
        let less_than : i < ax_of t = omega (arith, lt, h.counted) in
        let place : h.to + (p + i) ≡ target + i = omega (arith, h.target_is) in
        let source : origin + i ≡ h.from + (o + i) = omega (arith, h.source_is) in
        let byte : u.mem (h.to + (p + i)) ≡ t.mem (h.from + (o + i)) =
        ap u.mem place ∙ is_written (target + i) (side (target_byte i a.base less_than (omega arith)))
        ∙ copied_at (ax_of t) target origin t.mem (λ k l lk ll e. bytes_apart k l (omega (arith, lk, h.counted)) (omega (arith, ll, h.counted)) (omega (arith, e, h.source_is, h.target_is))) i less_than ∙ ap t.mem source in
        subst (λ y. CellIs w (h.source.cells (o + i)) y) (sym byte) (r.joins.stands.cells b h.source (At h.from) (o + i) h.source_at (omega (arith, lt, h.source_fits)))
      where
        side : IsOpen g.place a.base (target + i) → (target + i < stack_start) ⊎ (sp_of t ≤ target + i)
        side (inl there) = inl (data_is_low g placed (target + i) there)
        side (inr high) = inr (omega (arith, high.0, r.sp))

    is_copied : IsLibraryCopied g a pushed needs count o d p c w k t h.source h.block u
    is_copied = record {
      taken = puts_are_taken g a pushed needs 4 c w k k t u d h.block (At h.to) p count (λ i. h.source.cells (o + i)) placed r h.may only laid ((banks_follow a k t u p count).1 h.to r.joins.bank only) meets.sp;
      value = value meets.a meets.x;
    }
      where
        value : u.regs.a ≡ target % 256 → u.regs.x ≡ target / 256 % 256 → ax_of u ≡ target
        value low high = omega (arith, low, high, r.joins.bytes.mem (sp_of t + 2), r.joins.bytes.mem (sp_of t + 2 + 1))

pub library_copies_run : LibraryCopiesRun
library_copies_run g a pushed needs count b o d p c w k t placed r h =
    runs_by g (Library Memcpy) t (row g a pushed needs count b o d p c w k t placed r h) (IsLibraryCopied g a pushed needs count o d p c w k t h.source h.block) refl (access g a pushed needs count b o d p c w k t placed r h) (λ u meets bytes.
    is_copied g a pushed needs count b o d p c w k t placed r h u meets bytes)
