-- The line that counts the arguments.
use Rattle.std.proofs.Common.{ℕ, suc, ◌+◌, inl, inr, List, ◌∷◌, false, refl, arith}
use Rattle.std.specs.Prelude.{length}
use Rattle.c65_base.specs.declared.library.Library.TheVariants.{Printf}
use Rattle.c65_mach.specs.declared.rows.Op.TheVariants.{Ldy}
use Rattle.c65_mach.specs.declared.rows.Mode.TheVariants.{Immediate}
use Rattle.c65_mach.specs.Step.{apply}
use Rattle.c65_meaning.specs.Store.{Cell, Value}
use Rattle.c65_meaning.specs.State.{Scene, Running}
use Rattle.c65_code.specs.declared.line.Operand.TheVariants.{Byte}
use Rattle.c65_code.specs.LineState.{State, sp_of, IsBytes}
use Rattle.c65_code.specs.Placement.{IsPlacement}
use Rattle.c65_code.specs.Comes.{seen_at}
use Rattle.c65_genwide.specs.Lines.{value}
use Rattle.c65_agree_store.specs.Stands.{Placing, Banks}
use Rattle.c65_agree_state.specs.World.{World, Active, place_in}
use Rattle.c65_agree_state.specs.Exprs.{Ready}
use Rattle.c65_agree_state.proofs.Followed.{arrivals_count, ready_is_calm}
use Rattle.c65_agree_state.proofs.Leaves.{run, scratch_is_kept, with_regs}
use Rattle.c65_agree_library.specs.Calls.{IsLibraryCall, IsServed}
use Rattle.c65_agree_library_print.specs.Laws.{AreGiven, CountedPrintfIsFollowed}
use Rattle.c65_agree_library_print.proofs.Print.{printf_is_followed}

module _ (g : World) (a : Active) (pushed needs : ℕ) (c : Scene) (w : Placing) (banks : Banks) (t : State) (format : Value) (rest : List Cell) (placed : IsPlacement g.code g.place) (ready : Ready g a (pushed + (length rest + 2)) needs c w banks t) where
  abbrev counted : State
  counted = record t { regs = apply false Ldy (length rest + 2) t.regs }

  still_called : (p : ℕ) → IsLibraryCall g a Printf p t → IsLibraryCall g a Printf p counted
  still_called p (inl there) = inl there
  still_called p (inr x) = inr (record { reads = x.reads; gives = x.gives; symbol = x.symbol; there = x.there; callee = x.callee; library = x.library; passes = x.passes })

  still_ready : IsBytes counted → Ready g a (pushed + (length rest + 2)) needs c w banks counted
  still_ready b = record {
    joins = (scratch_is_kept g a (pushed + (length rest + 2)) needs c w banks t counted placed ready (with_regs (sp_of t) t (apply false Ldy (length rest + 2) t.regs) b) refl).joins;
    sp = ready.sp;
    room = ready.room;
    none_pushed = ready.none_pushed;
  }

  still_given : AreGiven w format rest t → AreGiven w format rest counted
  still_given h = record { cells = h.cells; format_is = h.format_is }

  -- what is left of the state behind the line is left of the one before it
  served_from : (r : Value) (c2 : Scene) (u : State) → IsServed g a Printf pushed needs (length rest + 2) c w banks counted r c2 u → IsServed g a Printf pushed needs (length rest + 2) c w banks t r c2 u
  served_from r c2 u s =
      let l = s.taken in
      record { taken = record { ready = l.ready; sp = l.sp; frames = l.frames; next = l.next; bounds = l.bounds; kept = l.kept; banks = l.banks; own_bank = l.own_bank }; value = s.value; gives = s.gives }

pub counted_printf_is_followed : CountedPrintfIsFollowed
counted_printf_is_followed g a pushed needs c w banks t n v p i k format ws vs rest seen placed line there few ready given turns step behind =
    run g n v (Running (i ∷ k) ws c) a.symbol p t seen Ldy Immediate (Byte (length rest + 2)) (record { line = value Ldy (length rest + 2); there = line; formed = refl; calm = (ready_is_calm g a (pushed + (length rest + 2)) needs c w banks t ready).calm; within = tt; running = ready.joins.ended }) few (λ b.
    printf_is_followed g a pushed needs c w banks (counted g a pushed needs c w banks t format rest placed ready) n v (suc p) i k format ws vs rest (seen_at (place_in g a (suc p)) seen) placed
    (still_called g a pushed needs c w banks t format rest placed ready (suc p) there) (still_ready g a pushed needs c w banks t format rest placed ready b) (still_given g a pushed needs c w banks t format rest placed ready given) refl
    (arrivals_count g c.turns (place_in g a (suc p)) seen (omega (arith, turns))) step (λ j r c2 u later lt s h. behind j r c2 u later lt (served_from g a pushed needs c w banks t format rest placed ready r c2 u s) h))
