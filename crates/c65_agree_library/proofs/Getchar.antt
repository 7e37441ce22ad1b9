-- A character is read.
use Rattle.std.proofs.Common.{◌≡◌, ℕ, ◌+◌, ◌/◌, ◌%◌, ◌<◌, List, [], ◌∷◌, refl, ap, ◌∙◌, subst, arith}
use Rattle.std.specs.Prelude.{Some, All, drop, max}
use Rattle.std.proofs.lemmas.Int.{ints}
use Rattle.std.proofs.lemmas.List.Elements.{All-nil, All-head, All-tail}
use Rattle.c65_base.specs.declared.library.Library.TheVariants.{Getchar}
use Rattle.c65_meaning.specs.State.{Scene}
use Rattle.c65_meaning.specs.Library.{got}
use Rattle.c65_code.specs.declared.routine.Routine.TheVariants as routines
use Rattle.c65_code.specs.LineState.{State, sp_of, ax_of}
use Rattle.c65_code.specs.Placement.{IsPlacement}
use Rattle.c65_code.specs.Rows.{Row, row_by, costing, read_row}
use Rattle.c65_code.specs.Steady.{IsOpen}
use Rattle.c65_agree_store.specs.Stands.{Placing, Banks}
use Rattle.c65_agree_state.specs.World.{World, Active}
use Rattle.c65_agree_state.specs.Exprs.{Ready}
use Rattle.c65_agree_rows.proofs.Quiet.{append_nothing, silent_row}
use Rattle.c65_agree_library.specs.Laws.{GetcharIsFollowed}
use Rattle.c65_agree_library.proofs.Flow.{IsDone, EachIsDone, calls_are_followed, refused, is_given}
use Rattle.c65_agree_library.proofs.Stills.{IsStill, still_room, still_taken}
use Rattle.c65_agree_library.proofs.Putchar.{byte_fits}

module _ (g : World) (a : Active) (pushed needs : ℕ) (c : Scene) (w : Placing) (banks : Banks) (t : State) (placed : IsPlacement g.code g.place) (r : Ready g a (pushed + 0) needs c w banks t) where
  abbrev base : Row
  base = costing 256 (row_by (routines.Library Getchar) t)

  reads : (input : List ℕ) → t.input ≡ input → c.input ≡ input → IsDone g a Getchar pushed needs 0 c w banks t (got c input)
  reads [] there e =
      let row : Row = read_row [] t base in
      let still : IsStill 0 t row = record { sp = omega arith; writes = refl; ends = refl; bank = (silent_row (row_by (routines.Library Getchar) t) refl refl refl refl).bank; room = refl } in
      record {
        row = row;
        is = ap (λ i. Some (read_row i t base)) there;
        room = still_room g a pushed needs 0 c w banks t row placed r still refl refl (All-nil (IsOpen g.place (max (sp_of t) row.sp)));
        cost = omega arith;
        goes_on = refl;
        served = λ u meets bytes. record {
          taken = still_taken g a pushed needs 0 c w banks t row placed r still u meets bytes c.input c.out r.joins.read (meets.input ∙ r.joins.input) (meets.output ∙ append_nothing t.output ∙ r.joins.output);
          value = value u meets.a meets.x;
          gives = record { low = omega (arith, ints); high = omega (arith, ints) };
        };
      }
    where
      value : (u : State) → u.regs.a ≡ 65535 % 256 → u.regs.x ≡ 65535 / 256 % 256 → ax_of u ≡ 65535
      value u low high = omega (arith, low, high)
  reads (b ∷ input) there e =
      let all : All (λ v. v < 256) (b ∷ input) = subst (All (λ v. v < 256)) e r.joins.read in
      let row : Row = read_row (b ∷ input) t base in
      let still : IsStill 0 t row = record { sp = omega arith; writes = refl; ends = refl; bank = (silent_row (row_by (routines.Library Getchar) t) refl refl refl refl).bank; room = refl } in
      record {
        row = row;
        is = ap (λ i. Some (read_row i t base)) there;
        room = still_room g a pushed needs 0 c w banks t row placed r still refl refl (All-nil (IsOpen g.place (max (sp_of t) row.sp)));
        cost = omega arith;
        goes_on = refl;
        served = λ u meets bytes. record {
          taken = still_taken g a pushed needs 0 c w banks t row placed r still u meets bytes input c.out (All-tail (λ v. v < 256) b input all) (meets.input ∙ ap (drop 1) there) (meets.output ∙ append_nothing t.output ∙ r.joins.output);
          value = value u meets.a meets.x;
          gives = byte_fits b (All-head (λ v. v < 256) b input all);
        };
      }
    where
      value : (u : State) → u.regs.a ≡ b % 256 → u.regs.x ≡ b / 256 % 256 → ax_of u ≡ b % 65536
      value u low high = omega (arith, low, high)

pub getchar_is_followed : GetcharIsFollowed
getchar_is_followed = calls_are_followed Getchar done
  where
    done : EachIsDone Getchar
    done g a pushed needs c w banks t (v ∷ more) rest x placed r passed e = refused e
    done g a pushed needs c w banks t [] rest x placed r passed e =
        let is : got c c.input ≡ x = is_given e in
        subst (IsDone g a Getchar pushed needs 0 c w banks t) is (reads g a pushed needs c w banks t placed r c.input r.joins.input refl)
