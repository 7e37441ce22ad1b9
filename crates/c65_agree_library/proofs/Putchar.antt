-- A character is written.
use Rattle.std.proofs.Common.{◌≡◌, ℕ, ◌+◌, ◌*◌, ◌/◌, ◌%◌, ◌<◌, ℤ, pos, negsuc, List, [], ◌∷◌, ◌++◌, refl, ap, ◌∙◌, subst, arith}
use Rattle.std.specs.Prelude.{max}
use Rattle.std.proofs.lemmas.Int.{ints}
use Rattle.std.proofs.lemmas.List.Elements.{All-nil}
use Rattle.c65_ints.specs.declared.types.IntType.TheVariants.{Int}
use Rattle.c65_ints.specs.Ranges.{residue, InRange}
use Rattle.c65_base.specs.declared.library.Library.TheVariants.{Putchar}
use Rattle.c65_meaning.specs.Store.{Cell, Whole, Null, Place, Opaque, Cells, NoValue}
use Rattle.c65_meaning.specs.State.{Scene}
use Rattle.c65_meaning.specs.Library.{writes_out}
use Rattle.c65_code.specs.declared.routine.Routine.TheVariants as routines
use Rattle.c65_code.specs.LineState.{State, sp_of, ax_of}
use Rattle.c65_code.specs.Placement.{IsPlacement}
use Rattle.c65_code.specs.Rows.{Row, row_by, costing, library_row}
use Rattle.c65_code.specs.Steady.{IsOpen}
use Rattle.c65_agree_store.specs.Stands.{Placing, Banks}
use Rattle.c65_agree_state.specs.World.{World, Active}
use Rattle.c65_agree_state.specs.Exprs.{Ready}
use Rattle.c65_agree_numbers.proofs.Residues.{residue_below}
use Rattle.c65_agree_rows.proofs.Quiet.{silent_row}
use Rattle.c65_agree_library.specs.Laws.{PutcharIsFollowed}
use Rattle.c65_agree_library.proofs.Flow.{IsDone, EachIsDone, calls_are_followed, refused, is_given}
use Rattle.c65_agree_library.proofs.Stills.{IsStill, still_room, still_taken}

-- the low byte of a word
pub low_of : (a x : ℕ) (z : ℤ) → a < 256 → a + 256 * x ≡ residue 65536 z → a ≡ residue 256 z
low_of a x (pos n) lt e = omega (arith, lt, e)
low_of a x (negsuc n) lt e = omega (arith, lt, e)

pub byte_fits : (n : ℕ) → n < 256 → InRange Int (pos n)
byte_fits n lt = record { low = omega (arith, ints, lt); high = omega (arith, ints, lt) }

module _ (g : World) (a : Active) (pushed needs : ℕ) (c : Scene) (w : Placing) (banks : Banks) (t : State) (rest : List Cell) (placed : IsPlacement g.code g.place) where
  writes : (z : ℤ) → Ready g a (pushed + 0) needs c w banks t → ax_of t ≡ residue 65536 z → IsDone g a Putchar pushed needs 0 c w banks t (writes_out c 1 (residue 256 z ∷ []) (Whole (pos (residue 256 z))))
  writes z r e =
      let row : Row = library_row Putchar t (costing 256 (row_by (routines.Library Putchar) t)) in
      let same : t.regs.a ≡ residue 256 z = low_of t.regs.a t.regs.x z r.joins.bytes.a e in
      let none : row.sp ≡ sp_of t + 0 = omega arith in
      let still : IsStill 0 t row = record { sp = none; writes = refl; ends = refl; bank = (silent_row (row_by (routines.Library Putchar) t) refl refl refl refl).bank; room = refl } in
      record {
        row = row;
        is = refl;
        room = still_room g a pushed needs 0 c w banks t row placed r still refl refl (All-nil (IsOpen g.place (max (sp_of t) row.sp)));
        cost = omega arith;
        goes_on = refl;
        served = λ u meets bytes. record {
          taken = still_taken g a pushed needs 0 c w banks t row placed r still u meets bytes c.input (c.out ++ (residue 256 z ∷ [])) r.joins.read (meets.input ∙ r.joins.input) (meets.output ∙ ap (λ b. t.output ++ (b ∷ [])) same ∙ ap (λ o. o ++ (residue 256 z ∷ [])) r.joins.output);
          value = value u meets.a meets.x;
          gives = byte_fits (residue 256 z) (residue_below 256 z (omega arith));
        };
      }
    where
      value : (u : State) → u.regs.a ≡ t.regs.a % 256 → u.regs.x ≡ t.regs.a / 256 % 256 → ax_of u ≡ residue 256 z % 65536
      value u low high =
          let same : t.regs.a ≡ residue 256 z = low_of t.regs.a t.regs.x z r.joins.bytes.a e in
          omega (arith, low, high, same, r.joins.bytes.a)

pub putchar_is_followed : PutcharIsFollowed
putchar_is_followed = calls_are_followed Putchar done
  where
    done : EachIsDone Putchar
    done g a pushed needs c w banks t [] rest x placed r passed e = refused e
    done g a pushed needs c w banks t (v ∷ v2 ∷ more) rest x placed r passed e = refused e
    done g a pushed needs c w banks t (Null ∷ []) rest x placed r passed e = refused e
    done g a pushed needs c w banks t (Place b o ∷ []) rest x placed r passed e = refused e
    done g a pushed needs c w banks t (Opaque ∷ []) rest x placed r passed e = refused e
    done g a pushed needs c w banks t (Cells xs ∷ []) rest x placed r passed e = refused e
    done g a pushed needs c w banks t (NoValue ∷ []) rest x placed r passed e = refused e
    done g a pushed needs c w banks t (Whole z ∷ []) rest x placed r passed e =
        let is : writes_out c 1 (residue 256 z ∷ []) (Whole (pos (residue 256 z))) ≡ x = is_given e in
        subst (IsDone g a Putchar pushed needs 0 c w banks t) is (writes g a pushed needs c w banks t rest placed z r passed.0)
