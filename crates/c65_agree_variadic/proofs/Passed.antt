-- Behind such an entry each parameter stands at its home, and the further arguments below the parameters.
use Rattle.std.proofs.Common.{◌≡◌, ℕ, zero, suc, ◌+◌, ◌-◌, ◌<◌, ◌≤◌, ◌⊎◌, inl, inr, List, [], ◌∷◌, Some, Bool, true, false, length, refl, sym, ap, ◌∙◌, subst, slice_get, arith}
use Rattle.std.specs.Prelude.{◌==◌, if◌then◌else◌}
use Rattle.std.proofs.lemmas.Bool.{eq-eqb}
use Rattle.c65_meaning.specs.Store.{Cell, Value, nth_cell, size_in, new_cells}
use Rattle.c65_meaning.specs.After.{is_among}
use Rattle.c65_meaning.specs.State.{soft_sum}
use Rattle.c65_meaning.specs.Step.{begin_rest}
use Rattle.c65_code.specs.LineState.{Bytes, State, sp_of, s_of}
use Rattle.c65_code.specs.Placement.{stack_start}
use Rattle.c65_genframe.specs.declared.home.Moved.{Moved}
use Rattle.c65_genframe.specs.Frames.{saved_bytes}
use Rattle.c65_genentry.specs.Entry.{entry_code}
use Rattle.c65_agree_store.specs.Stands.{Spot, At, Banked, Placing, Banks, byte_in, CellIs, IsFree}
use Rattle.c65_agree_state.specs.World.{World, unit_in, Active}
use Rattle.c65_agree_state.specs.Joins.{spot_of, call_bytes}
use Rattle.c65_agree_frame.proofs.Leads.{leads_as}
use Rattle.c65_agree_frame.proofs.Banks.{saved_few}
use Rattle.c65_agree_enter.specs.Params.{bytes_of, shape_in, no_cells, ArePassed}
use Rattle.c65_agree_enter.specs.Entries.{HaveHomes, IsTaken, banks_with, HasEntered}
use Rattle.c65_agree_enter.specs.Laws.{IsAtEntry, LiesAs}
use Rattle.c65_agree_enter.proofs.Lines.{shape_size, move_from, beside_moves, own_byte, other_byte}
use Rattle.c65_agree_registers.specs.Entries.{HasMoves}
use Rattle.c65_agree_registers.proofs.Entries.{costs_reach}
use Rattle.c65_agree_variadic.specs.Frames.{AreMovedFrom, HasCountedMoves, further_cost}
use Rattle.c65_agree_variadic.specs.Entries.{FurtherLie, IsPassedFurther, on_stack, moving, AllPassedFurther, HasPassedFurther, FurtherEntriesEnter, FurtherEntriesKeep}
use Rattle.c65_agree_variadic.proofs.Lines.{entries_count_moves}
use Rattle.c65_agree_variadic.proofs.Entered.{further_calls_are_entered}

moved_at : (higher : ℕ) (ms : List Moved) (k : ℕ) (m : Moved) (u : State) → AreMovedFrom higher ms u → slice_get ms k ≡ Some m → (i : ℕ) → i < m.bytes → u.zp (20 + (m.bank + i)) ≡ u.mem (sp_of u + (m.from + higher) + i)
moved_at higher [] k m u h e = cc
moved_at higher (x ∷ ms) zero m u h e =
    let same : x ≡ m = cc in
    subst (λ (y : Moved). (i : ℕ) → i < y.bytes → u.zp (20 + (y.bank + i)) ≡ u.mem (sp_of u + (y.from + higher) + i)) same h.0
moved_at higher (x ∷ ms) (suc k) m u h e = moved_at higher ms k m u h.1 e

module _ (g : World) (a : Active) (is : List ℕ) (args : List Value) (xs : List Cell) (w : Placing) (t0 t t1 : State) (at : IsAtEntry a t0 t) (homes : HaveHomes g a is) (low : stack_start + 64 ≤ a.base) (passed : HasPassedFurther g a is args xs w t) (has : HasMoves a.frame) (x : HasCountedMoves a.frame t t1) where
  abbrev from : ℕ
  from = a.base + (a.frame.soft + saved_bytes a.frame.bank)

  base_is : sp_of t1 ≡ a.base
  base_is = omega (arith, x.sp, passed.stacked)

  is_taken : IsTaken a t0 t1
  is_taken = record {
    sp = base_is;
    mem = λ n side. x.mem n (above n side) ∙ ap (λ (m : Bytes). m n) at.mem;
    none_pushed = x.pushed ∙ at.none_pushed;
    frames = x.frames ∙ at.frames;
    input = x.input ∙ at.input;
    output = x.output ∙ at.output;
    ended = x.ended ∙ at.ended;
    bytes = x.bytes;
  }
    where
      above : (n : ℕ) → (n < stack_start) ⊎ (a.base + call_bytes a ≤ n) → (n < stack_start) ⊎ (sp_of t ≤ n)
      above n (inl lt) = inl lt
      above n (inr le) = inr (omega (arith, le, passed.stacked))

  -- memory from the saved bytes on
  same_memory : (n : ℕ) → from ≤ n → t1.mem n ≡ t.mem n
  same_memory n le = x.mem n (inr (omega (arith, le, passed.stacked)))

  counted : t1.mem a.base ≡ a.frame.stacked + a.raised
  counted = ap t1.mem (sym base_is) ∙ (x.count ∙ passed.count)

  rest_lies : FurtherLie a w t1.mem xs
  rest_lies o lt = subst (CellIs w (nth_cell xs o)) (sym (same_memory (a.base + a.frame.soft + saved_bytes a.frame.bank + o) (omega arith))) (passed.rest o lt)

  module _ (k0 : Banks) where
    -- the cells of the argument are the bytes at the home
    abbrev Stands : ℕ → Value → Spot → Type 0
    Stands i v r = (o : ℕ) → o < size_in (shape_in (unit_in g) i) → CellIs w (new_cells (shape_in (unit_in g) i) v no_cells 0 o) (byte_in t1.mem (banks_with a t1 k0) r o)

    -- byte by byte
    stands_as : (i : ℕ) (v : Value) (r : Spot) (byte : ℕ → ℕ) → spot_of g a i ≡ r → ((o : ℕ) → o < bytes_of (unit_in g) i → byte_in t1.mem (banks_with a t1 k0) r o ≡ byte o) → LiesAs g w i v byte → Stands i v (spot_of g a i)
    stands_as i v r byte e same lies =
        subst (Stands i v) (sym e) (λ o lt. subst (CellIs w (new_cells (shape_in (unit_in g) i) v no_cells 0 o)) (sym (same o (omega (arith, lt, shape_size (unit_in g) i)))) (lies o lt))

    one_stands : (i : ℕ) (v : Value) → is_among is i ≡ true → IsPassedFurther g a w t i v → Stands i v (spot_of g a i)
    one_stands i v among (on_stack n e lies) = stands_as i v (At n) (λ o. t.mem (n + o)) e (λ o lt. let inside = homes.within i n o among e lt in same_memory (n + o) (omega (arith, inside))) lies
    one_stands i v among (moving k m there e size lies) =
        stands_as i v (Banked (length a.behind) m.bank) (λ o. t.mem (a.base + (m.from + a.raised) + o)) e (λ o lt.
        let higher : t.regs.y - a.frame.stacked ≡ a.raised = omega (arith, passed.count) in
        let place : sp_of t1 + (m.from + (t.regs.y - a.frame.stacked)) + o ≡ a.base + (m.from + a.raised) + o = omega (arith, base_is, higher) in
        let above : from ≤ a.base + (m.from + a.raised) + o = omega (arith, move_from (saved_bytes a.frame.bank) (a.frame.soft + saved_bytes a.frame.bank) (a.frame.soft + saved_bytes a.frame.bank + a.frame.stacked) a.frame.moved k m has.moves there) in
        own_byte a t1 k0 (m.bank + o) ∙ (moved_at (t.regs.y - a.frame.stacked) a.frame.moved k m t1 x.moved there o (omega (arith, lt, size)) ∙ (ap t1.mem place ∙ same_memory (a.base + (m.from + a.raised) + o) above))) lies

    all_stand : (js : List ℕ) (vs : List Value) → ((j : ℕ) → is_among js j ≡ true → is_among is j ≡ true) → AllPassedFurther g a w t js vs → ArePassed (unit_in g) w t1.mem (banks_with a t1 k0) (spot_of g a) js vs
    all_stand [] vs within h = tt
    all_stand (j ∷ js) [] within h = tt
    all_stand (j ∷ js) (v ∷ vs) within h = (one_stands j v (within j (ap (λ b. if b then true else is_among js j) (eq-eqb j j refl))) h.0, all_stand js vs (λ k e. within k (go k (j == k) e)) h.1)
      where
        go : (k : ℕ) (b : Bool) → is_among js k ≡ true → (if b then true else is_among js k) ≡ true
        go k true e = refl
        go k false e = e

pub further_entries_enter : FurtherEntriesEnter
further_entries_enter g a bound cost needs is args xs c0 d w0 k0 t0 t placed low may at called on frame enough has soft passed hard meant =
    leads_as g a (entry_code a.frame) (further_cost a.frame) (further_cost a.frame) t (HasCountedMoves a.frame t) (λ t1. HasEntered g a needs is c0 w0 k0 t0 (begin_rest xs d) t1 × HasCountedMoves a.frame t t1) (omega arith) (λ t1 x. (entered t1 x, x))
    (entries_count_moves g a t placed on frame (costs_reach a.frame.check t (cost + soft_sum c0.frames) enough called.few on.stacks.calm.high (omega (arith, hard, called.few_calls))) has (omega (arith, soft, passed.stacked)) (omega (arith, passed.count)) (omega (arith, passed.count, passed.few, saved_few a.frame.bank)) (omega (arith, passed.count, passed.stacked, called.top, called.high)))
  where
    entered : (t1 : State) → HasCountedMoves a.frame t t1 → HasEntered g a needs is c0 w0 k0 t0 (begin_rest xs d) t1
    entered t1 x =
        let s : s_of t1 ≡ s_of t = rw (x.pushed, x.frames) refl in
        further_calls_are_entered g a bound cost needs is args xs c0 d w0 k0 t0 t1 placed low may (is_taken g a is args xs w0 t0 t t1 at called.homes soft passed has x) called
        (all_stand g a is args xs w0 t0 t t1 at called.homes soft passed has x k0 is args (λ j e. e) passed.lies) (rest_lies g a is args xs w0 t0 t t1 at called.homes soft passed has x)
        (counted g a is args xs w0 t0 t t1 at called.homes soft passed has x) (omega (arith, s, hard)) meant

-- ---- the caller

pub further_entries_keep : FurtherEntriesKeep
further_entries_keep g a outer frame passed needs is c0 c1 w0 k0 t0 t t1 j0 calls behind pushed top first has at x h = record {
  calls = calls;
  behind = behind;
  pushed = pushed;
  top = top;
  first = first;
  next = h.next;
  bounds = h.bounds;
  grows = h.grows;
  kept = λ n le f. h.kept n (omega (arith, le, top)) f;
  banks = λ d i le. other_byte a t1 k0 d i (λ e. omega (arith, e, le, deeper));
  saved = λ i lt. saved i lt;
  others = λ i le lt. own_byte a t1 k0 i ∙ (x.others i lt (beside_moves (saved_bytes a.frame.bank) (a.frame.soft + saved_bytes a.frame.bank) (a.frame.soft + saved_bytes a.frame.bank + a.frame.stacked) i a.frame.moved le has.moves) ∙ back i lt);
}
  where
    deeper : length a.behind ≡ suc (length outer.behind)
    deeper = ap length behind

    -- a byte of regbank at the first line is the caller's
    back : (i : ℕ) → i < 6 → t.zp (20 + i) ≡ k0 (length outer.behind) i
    back i lt = at.bank i lt ∙ sym (j0.bank i lt)

    saved : (i : ℕ) → i < saved_bytes a.frame.bank → (t1.mem (a.base + a.frame.soft + i) ≡ k0 (length outer.behind) i) × IsFree c1.store h.placing (At (a.base + a.frame.soft + i))
    saved i lt =
        let here : a.base + a.frame.soft + i ≡ sp_of t1 + a.frame.soft + i = omega (arith, h.between.sp) in
        (ap t1.mem here ∙ (x.saved i lt ∙ back i (omega (arith, lt, saved_few a.frame.bank))), h.low (a.base + a.frame.soft + i) (omega (arith, h.between.room, h.between.joins.few)) (omega (arith, lt)))
