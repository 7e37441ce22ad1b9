-- The length of a text, and a line that is written.
use Rattle.std.proofs.Common.{◌≡◌, ℕ, suc, ◌+◌, ◌*◌, ◌/◌, ◌%◌, pos, List, [], ◌∷◌, ◌++◌, refl, ap, ◌∙◌, subst, arith}
use Rattle.std.specs.Prelude.{Result, Ok, Err, length, max}
use Rattle.std.proofs.lemmas.Int.{ints}
use Rattle.c65_base.specs.declared.library.Library.TheVariants.{Strlen, Puts}
use Rattle.c65_meaning.specs.Why.{Why, ◌>>=◌}
use Rattle.c65_meaning.specs.Store.{Cell, Whole}
use Rattle.c65_meaning.specs.State.{Scene}
use Rattle.c65_meaning.specs.Library.{gives, writes_out, text_at}
use Rattle.c65_code.specs.declared.routine.Routine.TheVariants as routines
use Rattle.c65_code.specs.LineState.{State, sp_of, ax_of}
use Rattle.c65_code.specs.Placement.{IsPlacement}
use Rattle.c65_code.specs.Texts.{bytes_at, text_length}
use Rattle.c65_code.specs.Rows.{Row, row_by, costing, library_row}
use Rattle.c65_code.specs.Steady.{IsOpen}
use Rattle.c65_agree_store.specs.Stands.{Placing, Banks}
use Rattle.c65_agree_state.specs.World.{World, Active}
use Rattle.c65_agree_state.specs.Exprs.{Ready}
use Rattle.c65_agree_rows.proofs.Quiet.{append_nothing, in_range, silent_row}
use Rattle.c65_agree_copy.proofs.Runs.{range_length}
use Rattle.c65_agree_library_text.specs.Laws.{StrlenIsFollowed, PutsIsFollowed}
use Rattle.c65_agree_library.proofs.Flow.{IsDone, EachIsDone, calls_are_followed, refused, is_given}
use Rattle.c65_agree_library.proofs.Stills.{IsStill, lowered, still_room, still_taken}
use Rattle.c65_agree_library.proofs.Putchar.{byte_fits}
use Rattle.c65_agree_library_text.proofs.Texts.{IsText, text_is, text_length_is, bytes_spelled}

module _ (g : World) (a : Active) (pushed needs : ℕ) (c : Scene) (w : Placing) (banks : Banks) (t : State) (rest : List Cell) (placed : IsPlacement g.code g.place) (r : Ready g a (pushed + 0) needs c w banks t) (text : List ℕ) (h : IsText g a t (ax_of t) text) where
  count_is : text_length (ax_of t) t.mem ≡ length text
  count_is = text_length_is (ax_of t) t.mem text h.spelled h.short

  abbrev length_row : Row
  length_row = library_row Strlen t (costing 256 (row_by (routines.Library Strlen) t))

  length_still : IsStill 0 t length_row
  length_still = record { sp = omega arith; writes = refl; ends = refl; bank = (silent_row (row_by (routines.Library Strlen) t) refl refl refl refl).bank; room = refl }

  length_done : IsDone g a Strlen pushed needs 0 c w banks t (gives c (suc (length text)) (Whole (pos (length text))))
  length_done = record {
    row = length_row;
    is = refl;
    room = still_room g a pushed needs 0 c w banks t length_row placed r length_still refl refl
        (in_range (IsOpen g.place (max (sp_of t) length_row.sp)) (text_length (ax_of t) t.mem + 1) (ax_of t) (λ i lt. lowered g a pushed needs 0 c w banks t length_row placed r length_still (ax_of t + i) (h.opened i (omega (arith, lt, count_is)))));
    cost = omega (arith, range_length (text_length (ax_of t) t.mem + 1) (ax_of t), count_is);
    goes_on = refl;
    served = λ u meets bytes. record {
      taken = still_taken g a pushed needs 0 c w banks t length_row placed r length_still u meets bytes c.input c.out r.joins.read (meets.input ∙ r.joins.input) (meets.output ∙ append_nothing t.output ∙ r.joins.output);
      value = value u meets.a meets.x;
      gives = record { low = omega (arith, ints); high = omega (arith, ints, h.short) };
    };
  }
    where
      value : (u : State) → u.regs.a ≡ text_length (ax_of t) t.mem % 256 → u.regs.x ≡ text_length (ax_of t) t.mem / 256 % 256 → ax_of u ≡ length text % 65536
      value u low high = omega (arith, low, high, count_is)

  abbrev line_row : Row
  line_row = library_row Puts t (costing 256 (row_by (routines.Library Puts) t))

  line_still : IsStill 0 t line_row
  line_still = record { sp = omega arith; writes = refl; ends = refl; bank = (silent_row (row_by (routines.Library Puts) t) refl refl refl refl).bank; room = refl }

  line_is : bytes_at (text_length (ax_of t) t.mem) (ax_of t) t.mem ≡ text
  line_is = ap (λ n. bytes_at n (ax_of t) t.mem) count_is ∙ bytes_spelled t.mem (ax_of t) text h.spelled

  line_done : IsDone g a Puts pushed needs 0 c w banks t (writes_out c (2 * suc (length text)) (text ++ 10 ∷ []) (Whole (pos 0)))
  line_done = record {
    row = line_row;
    is = refl;
    room = still_room g a pushed needs 0 c w banks t line_row placed r line_still refl refl
        (in_range (IsOpen g.place (max (sp_of t) line_row.sp)) (text_length (ax_of t) t.mem + 1) (ax_of t) (λ i lt. lowered g a pushed needs 0 c w banks t line_row placed r line_still (ax_of t + i) (h.opened i (omega (arith, lt, count_is)))));
    cost = omega (arith, range_length (text_length (ax_of t) t.mem + 1) (ax_of t), count_is);
    goes_on = refl;
    served = λ u meets bytes. record {
      taken = still_taken g a pushed needs 0 c w banks t line_row placed r line_still u meets bytes c.input (c.out ++ (text ++ 10 ∷ [])) r.joins.read (meets.input ∙ r.joins.input)
          (meets.output ∙ ap (λ xs. t.output ++ (xs ++ 10 ∷ [])) line_is ∙ ap (λ o. o ++ (text ++ 10 ∷ [])) r.joins.output);
      value = value u meets.a meets.x;
      gives = byte_fits 0 (omega arith);
    };
  }
    where
      value : (u : State) → u.regs.a ≡ 0 % 256 → u.regs.x ≡ 0 / 256 % 256 → ax_of u ≡ 0 % 65536
      value u low high = omega (arith, low, high)

pub strlen_is_followed : StrlenIsFollowed
strlen_is_followed = calls_are_followed Strlen done
  where
    done : EachIsDone Strlen
    done g a pushed needs c w banks t [] rest x placed r passed e = refused e
    done g a pushed needs c w banks t (v ∷ v2 ∷ more) rest x placed r passed e = refused e
    done g a pushed needs c w banks t (v ∷ []) rest x placed r passed e = go (text_at c.store v) refl e
      where
        go : (s : Result (List ℕ) Why) → text_at c.store v ≡ s → (s >>= λ text. Ok (gives c (suc (length text)) (Whole (pos (length text))))) ≡ Ok x → IsDone g a Strlen pushed needs 0 c w banks t x
        go (Err why) f e = refused e
        go (Ok text) f e =
            let is : gives c (suc (length text)) (Whole (pos (length text))) ≡ x = is_given e in
            subst (IsDone g a Strlen pushed needs 0 c w banks t) is (length_done g a pushed needs c w banks t rest placed r text (text_is g a c w banks t r.joins v (ax_of t) text passed.0 f))

pub puts_is_followed : PutsIsFollowed
puts_is_followed = calls_are_followed Puts done
  where
    done : EachIsDone Puts
    done g a pushed needs c w banks t [] rest x placed r passed e = refused e
    done g a pushed needs c w banks t (v ∷ v2 ∷ more) rest x placed r passed e = refused e
    done g a pushed needs c w banks t (v ∷ []) rest x placed r passed e = go (text_at c.store v) refl e
      where
        go : (s : Result (List ℕ) Why) → text_at c.store v ≡ s → (s >>= λ text. Ok (writes_out c (2 * suc (length text)) (text ++ 10 ∷ []) (Whole (pos 0)))) ≡ Ok x → IsDone g a Puts pushed needs 0 c w banks t x
        go (Err why) f e = refused e
        go (Ok text) f e =
            let is : writes_out c (2 * suc (length text)) (text ++ 10 ∷ []) (Whole (pos 0)) ≡ x = is_given e in
            subst (IsDone g a Puts pushed needs 0 c w banks t) is (line_done g a pushed needs c w banks t rest placed r text (text_is g a c w banks t r.joins v (ax_of t) text passed.0 f))
