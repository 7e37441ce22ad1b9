-- The line of a call leads to the first line of the called function.
use Rattle.std.proofs.Common.{◌≡◌, ℕ, zero, suc, ◌+◌, ◌*◌, ◌<◌, Bool, true, false, refl, sym, ap, ◌∙◌, subst, arith}
use Rattle.std.specs.Prelude.{IsTrue, ◌||◌}
use Rattle.c65_meaning.specs.Step.{steps}
use Rattle.c65_code.specs.declared.parts.Part.{Part}
use Rattle.c65_code.specs.declared.parts.Part.TheVariants as parts
use Rattle.c65_code.specs.declared.parts.RegSet.{RegSet}
use Rattle.c65_code.specs.declared.line.Line.TheVariants as lines
use Rattle.c65_code.specs.declared.line.Callee.TheVariants.{Function, Pointer}
use Rattle.c65_code.specs.Parts.{has_part, union_of}
use Rattle.c65_code.specs.Effects.{kept_at_calls, ptr4_bytes}
use Rattle.c65_code.specs.LineState.{State, IsBytes}
use Rattle.c65_code.specs.Placement.{Setting}
use Rattle.c65_code.specs.Forms.{Enter, Through}
use Rattle.c65_code.specs.Moves.{Enters, IsCallee}
use Rattle.c65_code.specs.Steady.{IsCallable}
use Rattle.c65_code.specs.Comes.{seen_at}
use Rattle.c65_code.proofs.PartLaws.{has_part-union}
use Rattle.c65_agree_step.specs.Ways.{IsAtLine}
use Rattle.c65_agree_step.proofs.Ways.{weaken, calls_enter, pointer_calls_enter}
use Rattle.c65_agree_state.specs.World.{World, program_in, setting_in, Active, place_in}
use Rattle.c65_agree_state.specs.Follows.{Agrees}
use Rattle.c65_agree_state.proofs.Followed.{arrivals_count}
use Rattle.c65_agree_enter.specs.Laws.{IsAtEntry}
use Rattle.c65_agree_call.specs.Calls.{IsCallFrom, IsPassedIn}
use Rattle.c65_agree_call.specs.Laws.{CallsByNameEnter, CallsThroughPointersEnter}

-- ---- what a call keeps

pub first_in : (r s : RegSet) (p : Part) → IsTrue (has_part r p) → IsTrue (has_part (union_of r s) p)
first_in r s p h = has_part-union r s p ∙ ap (λ b. b || has_part s p) h

or_true : (b : Bool) → (b || true) ≡ true
or_true true = refl
or_true false = refl

second_in : (r s : RegSet) (p : Part) → IsTrue (has_part s p) → IsTrue (has_part (union_of r s) p)
second_in r s p h = has_part-union r s p ∙ (ap (λ b. has_part r p || b) h ∙ or_true (has_part r p))

module _ (g : World) (outer a : Active) (reads gives : RegSet) (p : ℕ) (t u : State) (from : IsCallFrom g outer a p gives t) (h : Enters (setting_in g) a.symbol reads gives (outer.symbol, p) t (place_in g a 0) u) (bytes : IsBytes u) where
  kept_byte : (i : ℕ) → has_part kept_at_calls (parts.Zp i) ≡ true → u.zp i ≡ t.zp i
  kept_byte i e = sym (h.keeps.part (parts.Zp i) (second_in reads kept_at_calls (parts.Zp i) e))

  bank_kept : (i : ℕ) → i < 6 → u.zp (20 + i) ≡ t.zp (20 + i)
  bank_kept zero lt = kept_byte 20 refl
  bank_kept (suc zero) lt = kept_byte 21 refl
  bank_kept (suc (suc zero)) lt = kept_byte 22 refl
  bank_kept (suc (suc (suc zero))) lt = kept_byte 23 refl
  bank_kept (suc (suc (suc (suc zero)))) lt = kept_byte 24 refl
  bank_kept (suc (suc (suc (suc (suc zero))))) lt = kept_byte 25 refl
  bank_kept (suc (suc (suc (suc (suc (suc i)))))) lt = absurd (omega (arith, lt))

  at_entry : IsAtEntry a t u
  at_entry =
      let low = kept_byte 0 refl in
      let high = kept_byte 1 refl in
      record {
        sp = omega (arith, low, high);
        bank = bank_kept;
        mem = h.keeps.mem;
        none_pushed = h.pushed;
        frames = h.frames ∙ sym from.behind;
        input = h.keeps.input;
        output = h.keeps.output;
        ended = h.keeps.ended;
        bytes = bytes;
      }

  passed_in : IsPassedIn reads t u
  passed_in part has = h.keeps.part part (first_in reads kept_at_calls part has)

-- ---- the laws

pub calls_by_name_enter : CallsByNameEnter
calls_by_name_enter g outer a name reads gives n w p turns m t seen on from same has turned k d =
    let s : Setting = setting_in g in
    let q = Agrees g (steps (program_in g) n m) in
    let callable : IsCallable s (s.library a.symbol) a.symbol reads t = subst (λ o. IsCallable s o a.symbol reads t) (sym from.own) from.lines in
    let at : IsAtLine s outer.symbol p t (Enter a.symbol reads gives) = record { line = lines.Call (Function name reads gives); there = has.0; formed = ap (λ f. Enter f reads gives) same; calm = on.stacks.calm; within = callable; running = on.running } in
    weaken s q (4000 * n + (8 + w)) (omega arith) (calls_enter q s (4000 * n + w) outer.symbol p a.symbol t seen reads gives at from.own (λ u h bytes.
    k u (seen_at (place_in g a 0) seen) (at_entry g outer a reads gives p t u from h bytes) (passed_in g outer a reads gives p t u from h bytes) (arrivals_count g turns (place_in g a 0) seen turned) d))

pub calls_through_pointers_enter : CallsThroughPointersEnter
calls_through_pointers_enter g outer a reads gives n w p turns m t seen placed on from callee has turned k d =
    let s : Setting = setting_in g in
    let q = Agrees g (steps (program_in g) n m) in
    let all : RegSet = union_of reads ptr4_bytes in
    let callable : IsCallable s (s.library a.symbol) a.symbol reads t = subst (λ o. IsCallable s o a.symbol reads t) (sym from.own) from.lines in
    let at : IsAtLine s outer.symbol p t (Through reads gives) = record { line = lines.Call (Pointer reads gives); there = has.0; formed = refl; calm = on.stacks.calm; within = (a.symbol, callee, callable); running = on.running } in
    weaken s q (4000 * n + (8 + w)) (omega arith) (pointer_calls_enter q s (4000 * n + w) outer.symbol p a.symbol t seen reads gives at from.own alone (λ u h bytes.
    k u (seen_at (place_in g a 0) seen) (at_entry g outer a all gives p t u from h bytes) (passed_in g outer a all gives p t u from h bytes) (arrivals_count g turns (place_in g a 0) seen turned) d))
  where
    alone : (f : ℕ) → IsCallee (setting_in g) t f → f ≡ a.symbol
    alone f h = placed.function_own f a.symbol h.0 callee.0 (h.1 ∙ sym callee.1)
