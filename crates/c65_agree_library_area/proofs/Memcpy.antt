-- Bytes are copied.
use Rattle.std.proofs.Common.{◌≡◌, ℕ, ◌+◌, ◌*◌, ◌%◌, ◌<◌, pos, negsuc, [], ◌∷◌, Bool, true, false, inl, refl, sym, ◌∙◌, subst, arith, length-append}
use Rattle.std.specs.Prelude.{Ok, Err, length, if◌then◌else◌}
use Rattle.c65_base.specs.declared.library.Library.TheVariants.{Memcpy}
use Rattle.c65_meaning.specs.declared.action.Action.TheVariants.{LibraryArgument}
use Rattle.c65_meaning.specs.Why.{By, ◌>>=◌}
use Rattle.c65_meaning.specs.Store.{Block, Store, Value, Whole, Null, Place, Opaque, Cells, NoValue}
use Rattle.c65_meaning.specs.State.{Scene}
use Rattle.c65_meaning.specs.Library.{Effect, stores, area, filled, overlap, copied_apart, copied_area}
use Rattle.c65_code.specs.declared.routine.Routine.TheVariants as routines
use Rattle.c65_code.specs.LineState.{State, sp_of, ax_of, word_at}
use Rattle.c65_code.specs.Placement.{IsPlacement}
use Rattle.c65_code.specs.Texts.{range_of}
use Rattle.c65_code.specs.Rows.{Row, row_by, costing, library_row}
use Rattle.c65_agree_store.specs.Stands.{At, Placing, Banks, IsAt, ValueIs}
use Rattle.c65_agree_state.specs.World.{World, Active}
use Rattle.c65_agree_state.specs.Exprs.{Ready}
use Rattle.c65_agree_put.specs.Puts.{AreTaken}
use Rattle.c65_agree_copy.specs.Copies.{AreCopied, IsLibraryCopied}
use Rattle.c65_agree_copy.proofs.Apart.{library_copies_run}
use Rattle.c65_agree_library.specs.Calls.{IsServed}
use Rattle.c65_agree_library_area.specs.Laws.{MemcpyIsFollowed}
use Rattle.c65_agree_library.proofs.Flow.{IsDone, EachIsDone, calls_are_followed, scene_behind, refused, is_given}
use Rattle.c65_agree_library_text.proofs.Areas.{bound, IsArea, area_is, IsFilled, filled_is}
use Rattle.c65_agree_copy.proofs.Runs.{range_length}

-- what the copy of the meaning reads and writes
pub record IsApart (s : Store) (b o d p n : ℕ) (s2 : Store) : Type 0 where
  pub source : Block
  pub source_is : IsArea s b o n source
  pub apart : overlap n b o d p ≡ false
  pub target : IsFilled s d p n (λ i. source.cells (o + i)) s2

pub copied_is : (s : Store) (b o d p n : ℕ) (s2 : Store) → copied_apart s b o d p n ≡ Ok s2 → IsApart s b o d p n s2
copied_is s b o d p n s2 e = go (overlap n b o d p) refl e
  where
    go : (both : Bool) → overlap n b o d p ≡ both → (if both then Err (By LibraryArgument) else (area s b o n >>= λ x. filled s d p n (λ i. x.cells (o + i)))) ≡ Ok s2 → IsApart s b o d p n s2
    go true both f = cc
    go false both f =
        let h = bound (area s b o n) (λ x. filled s d p n (λ i. x.cells (o + i))) s2 f in
        record { source = h.0; source_is = area_is s b o n h.0 h.1; apart = both; target = filled_is s d p n (λ i. h.0.cells (o + i)) s2 h.2 }

module _ (g : World) (a : Active) (pushed needs : ℕ) (c : Scene) (w : Placing) (banks : Banks) (t : State) (placed : IsPlacement g.code g.place) (r : Ready g a (pushed + 4) needs c w banks t) (b o d p n : ℕ) (s : Store)
    (counted : ax_of t ≡ n % 65536) (from : ValueIs w 65536 (Place b o) (word_at t.mem (sp_of t))) (to : ValueIs w 65536 (Place d p) (word_at t.mem (sp_of t + 2))) (h : IsApart c.store b o d p n s) where
  source_at : IsAt c.store w b h.source (At from.0)
  source_at = record { is = h.source_is.is; live = h.source_is.live; place = from.1 }

  target_at : IsAt c.store w d h.target.block (At to.0)
  target_at = record { is = h.target.area.is; live = h.target.area.live; place = to.1 }

  small : n < 65536
  small = omega (arith, h.source_is.fits, r.joins.stands.whole b h.source h.source_is.is, (r.joins.stands.lies b h.source (At from.0) source_at).1)

  abbrev are : AreCopied g a c w n b o d p t
  are = record {
    source = h.source;
    from = from.0;
    source_at = source_at;
    source_fits = h.source_is.fits;
    block = h.target.block;
    to = to.0;
    may = record { block = target_at; fits = h.target.area.fits; own = tt; writable = inl h.target.unsealed };
    apart = h.apart;
    counted = omega (arith, counted, small);
    source_is = from.2;
    target_is = to.2;
  }

  abbrev row : Row
  row = library_row Memcpy t (costing 256 (row_by (routines.Library Memcpy) t))

  copied_done : IsDone g a Memcpy pushed needs 4 c w banks t (stores c (2 * n) (Place d p) s)
  copied_done =
      let runs = library_copies_run g a pushed needs n b o d p c w banks t placed r are in
      record {
        row = row;
        is = refl;
        room = runs.room;
        cost = omega (arith, length-append (range_of (ax_of t) (word_at t.mem (sp_of t))) (range_of (ax_of t) (word_at t.mem (sp_of t + 2))), range_length (ax_of t) (word_at t.mem (sp_of t)), range_length (ax_of t) (word_at t.mem (sp_of t + 2)), are.counted);
        goes_on = refl;
        served = λ u meets bytes. after u (runs.behind u meets bytes);
      }
    where
      after : (u : State) → IsLibraryCopied g a pushed needs n o d p c w banks t h.source h.target.block u → IsServed g a Memcpy pushed needs 4 c w banks t (Place d p) (scene_behind c (stores c (2 * n) (Place d p) s)) u
      after u l = record {
        taken = subst (λ z. AreTaken g a pushed needs 4 c w banks t (record c { store = z; input = c.input; out = c.out }) banks u) (sym h.target.store) l.taken;
        value = (to.0, to.1, l.value ∙ to.2);
        gives = λ size. tt;
      }

pub memcpy_is_followed : MemcpyIsFollowed
memcpy_is_followed = calls_are_followed Memcpy done
  where
    places : (g : World) (a : Active) (pushed needs : ℕ) (c : Scene) (w : Placing) (banks : Banks) (t : State) (to from : Value) (n : ℕ) (x : Effect) → IsPlacement g.code g.place
        → Ready g a (pushed + 4) needs c w banks t → ValueIs w 65536 (Whole (pos n)) (ax_of t) → ValueIs w 65536 from (word_at t.mem (sp_of t)) → ValueIs w 65536 to (word_at t.mem (sp_of t + 2))
        → (copied_area c.store to from n >>= λ s. Ok (stores c (2 * n) to s)) ≡ Ok x → IsDone g a Memcpy pushed needs 4 c w banks t x
    places g a pushed needs c w banks t (Place d p) (Place b o) n x placed r counted source target e =
        let h = bound (copied_apart c.store b o d p n) (λ s. Ok (stores c (2 * n) (Place d p) s)) x e in
        let is : stores c (2 * n) (Place d p) h.0 ≡ x = is_given h.2 in
        subst (IsDone g a Memcpy pushed needs 4 c w banks t) is (copied_done g a pushed needs c w banks t placed r b o d p n h.0 counted source target (copied_is c.store b o d p n h.0 h.1))
    places g a pushed needs c w banks t (Place d p) (Whole z) n x placed r counted source target e = refused e
    places g a pushed needs c w banks t (Place d p) Null n x placed r counted source target e = refused e
    places g a pushed needs c w banks t (Place d p) Opaque n x placed r counted source target e = refused e
    places g a pushed needs c w banks t (Place d p) (Cells xs) n x placed r counted source target e = refused e
    places g a pushed needs c w banks t (Place d p) NoValue n x placed r counted source target e = refused e
    places g a pushed needs c w banks t (Whole z) from n x placed r counted source target e = refused e
    places g a pushed needs c w banks t Null from n x placed r counted source target e = refused e
    places g a pushed needs c w banks t Opaque from n x placed r counted source target e = refused e
    places g a pushed needs c w banks t (Cells xs) from n x placed r counted source target e = refused e
    places g a pushed needs c w banks t NoValue from n x placed r counted source target e = refused e

    done : EachIsDone Memcpy
    done g a pushed needs c w banks t [] rest x placed r passed e = refused e
    done g a pushed needs c w banks t (to ∷ []) rest x placed r passed e = refused e
    done g a pushed needs c w banks t (to ∷ from ∷ []) rest x placed r passed e = refused e
    done g a pushed needs c w banks t (to ∷ from ∷ v ∷ v2 ∷ more) rest x placed r passed e = refused e
    done g a pushed needs c w banks t (to ∷ from ∷ Whole (pos n) ∷ []) rest x placed r passed e = places g a pushed needs c w banks t to from n x placed r passed.0 passed.1.0 passed.1.1.0 e
    done g a pushed needs c w banks t (to ∷ from ∷ Whole (negsuc n) ∷ []) rest x placed r passed e = refused e
    done g a pushed needs c w banks t (to ∷ from ∷ Null ∷ []) rest x placed r passed e = refused e
    done g a pushed needs c w banks t (to ∷ from ∷ Place b o ∷ []) rest x placed r passed e = refused e
    done g a pushed needs c w banks t (to ∷ from ∷ Opaque ∷ []) rest x placed r passed e = refused e
    done g a pushed needs c w banks t (to ∷ from ∷ Cells xs ∷ []) rest x placed r passed e = refused e
    done g a pushed needs c w banks t (to ∷ from ∷ NoValue ∷ []) rest x placed r passed e = refused e
