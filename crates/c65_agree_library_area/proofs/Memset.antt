-- Bytes are filled.
use Rattle.std.proofs.Common.{◌≡◌, ℕ, zero, suc, ◌+◌, ◌/◌, ◌%◌, ◌<◌, ◌≤◌, ◌⊎◌, inl, inr, ℤ, pos, negsuc, List, [], ◌∷◌, ◌++◌, refl, sym, ap, ◌∙◌, subst, arith}
use Rattle.std.specs.Prelude.{Ok, min, max, drop}
use Rattle.c65_ints.specs.Ranges.{residue}
use Rattle.c65_base.specs.declared.library.Library.TheVariants.{Memset}
use Rattle.c65_meaning.specs.Why.{◌>>=◌}
use Rattle.c65_meaning.specs.Store.{Cell, Store, Value, Whole, Null, Place, Opaque, Cells, NoValue, byte}
use Rattle.c65_meaning.specs.State.{Scene}
use Rattle.c65_meaning.specs.Library.{Effect, effect_of, stores, filled, filled_area}
use Rattle.c65_code.specs.declared.parts.Part.TheVariants.{Zp}
use Rattle.c65_code.specs.declared.routine.Routine.TheVariants as routines
use Rattle.c65_code.specs.LineState.{Bytes, write, State, sp_of, ax_of, word_at, IsBytes}
use Rattle.c65_code.specs.Placement.{IsPlacement, stack_start}
use Rattle.c65_code.specs.Texts.{filled as filling}
use Rattle.c65_code.specs.Rows.{Row, Meets, row_by, costing, library_row, written}
use Rattle.c65_code.specs.Steady.{IsOpen, HasRoom}
use Rattle.c65_agree_store.specs.Stands.{At, Placing, Banks, CellIs, IsAt, ValueIs}
use Rattle.c65_agree_state.specs.World.{World, Active}
use Rattle.c65_agree_state.specs.Exprs.{Ready}
use Rattle.c65_agree_state.specs.Laws.{HasStacks}
use Rattle.c65_agree_state.proofs.Followed.{ready_is_calm}
use Rattle.c65_agree_numbers.proofs.Residues.{residue_below}
use Rattle.c65_agree_rows.specs.Rows.{IsQuiet}
use Rattle.c65_agree_rows.proofs.Quiet.{append_nothing, write_other, write_same, in_range, quiet_row}
use Rattle.c65_agree_put.specs.Puts.{MayPut, OnlyStored, AreLaid, AreTaken}
use Rattle.c65_agree_put.proofs.Puts.{banks_follow, puts_are_taken}
use Rattle.c65_agree_put.proofs.Stores.{data_is_low}
use Rattle.c65_agree_library.specs.Calls.{IsServed}
use Rattle.c65_agree_library_area.specs.Laws.{MemsetIsFollowed}
use Rattle.c65_agree_library.proofs.Flow.{IsDone, EachIsDone, calls_are_followed, scene_behind, refused, is_given}
use Rattle.c65_agree_library.proofs.Putchar.{low_of}
use Rattle.c65_agree_copy.proofs.Runs.{range_length}
use Rattle.c65_agree_library_text.proofs.Texts.{whole, is_open}
use Rattle.c65_agree_library_text.proofs.Areas.{bound, IsFilled, filled_is}

filled_other : (n at v : ℕ) (m : Bytes) (q : ℕ) → ((i : ℕ) → i < n → at + i ≡ q → ⊥) → written m (filling n at v) q ≡ m q
filled_other zero at v m q h = refl
filled_other (suc n) at v m q h = filled_other n (at + 1) v (write m at v) q (λ i lt e. h (suc i) (omega (arith, lt)) (omega (arith, e))) ∙ write_other m at v q (λ e. h 0 (omega arith) (omega (arith, e)))

filled_at : (n at v : ℕ) (m : Bytes) (i : ℕ) → i < n → written m (filling n at v) (at + i) ≡ v
filled_at zero at v m i lt = absurd (omega (arith, lt))
filled_at (suc n) at v m zero lt =
    let here : at + 0 ≡ at = omega arith in
    ap (written m (filling (suc n) at v)) here ∙ filled_other n (at + 1) v (write m at v) at (λ i less_than e. omega (arith, e)) ∙ write_same m at v
filled_at (suc n) at v m (suc i) lt =
    let on : at + suc i ≡ at + 1 + i = omega arith in
    ap (written m (filling (suc n) at v)) on ∙ filled_at n (at + 1) v (write m at v) i (omega (arith, lt))

module _ (g : World) (a : Active) (pushed needs : ℕ) (c : Scene) (w : Placing) (banks : Banks) (t : State) (placed : IsPlacement g.code g.place) (r : Ready g a (pushed + 4) needs c w banks t) (d p n v : ℕ) (s : Store)
    (counted : ax_of t ≡ n % 65536) (fills : t.mem (sp_of t) ≡ v) (below : v < 256) (to : ValueIs w 65536 (Place d p) (word_at t.mem (sp_of t + 2))) (h : IsFilled c.store d p n (λ i. byte v) s) where
  abbrev target : ℕ
  target = word_at t.mem (sp_of t + 2)

  target_at : IsAt c.store w d h.block (At to.0)
  target_at = record { is = h.area.is; live = h.area.live; place = to.1 }

  count_is : ax_of t ≡ n
  count_is = omega (arith, counted, h.area.fits, r.joins.stands.whole d h.block h.area.is, (r.joins.stands.lies d h.block (At to.0) target_at).1)

  may : MayPut g a c w d h.block (At to.0) p n
  may = record { block = target_at; fits = h.area.fits; own = tt; writable = inl h.unsealed }

  stacks : HasStacks g t
  stacks = ready_is_calm g a (pushed + 4) needs c w banks t r

  abbrev row : Row
  row = library_row Memset t (costing 256 (row_by (routines.Library Memset) t))

  target_byte : (i : ℕ) → i < ax_of t → IsOpen g.place a.base (target + i)
  target_byte i lt =
      let e : to.0 + (p + i) ≡ target + i = omega (arith, to.2) in
      subst (IsOpen g.place a.base) e (is_open g a c w banks t r.joins d h.block to.0 (p + i) target_at (omega (arith, lt, count_is, h.area.fits)))

  access : HasRoom g.place row t
  access = record {
    ready = refl;
    soft = stacks.soft;
    hard = stacks.hard;
    near = in_range (IsOpen g.place (min (sp_of t) (sp_of t + 4))) 4 (sp_of t) (λ i lt. inr (omega arith, omega (arith, lt, r.sp, r.joins.top)));
    far = in_range (IsOpen g.place (max (sp_of t) (sp_of t + 4))) (ax_of t) target (λ i lt. lower i (target_byte i lt));
  }
    where
      lower : (i : ℕ) → IsOpen g.place a.base (target + i) → IsOpen g.place (max (sp_of t) (sp_of t + 4)) (target + i)
      lower i (inl there) = inl there
      lower i (inr le) = inr (omega (arith, le.0, r.sp), le.1)

  module _ (u : State) (meets : Meets row t u) (bytes : IsBytes u) where
    quiet : IsQuiet row
    quiet = quiet_row row refl refl refl refl refl

    is_written : (q : ℕ) → (q < stack_start) ⊎ (sp_of t ≤ q) → u.mem q ≡ written t.mem (filling (ax_of t) target (t.mem (sp_of t))) q
    is_written q (inl low) = meets.mem q (inl (omega (arith, low, stacks.soft)))
    is_written q (inr high) = meets.mem q (inr (inl high))

    only : OnlyStored a (sp_of t) (At to.0) p n t u
    only = record {
      mem = λ q side beside. is_written q side ∙ filled_other (ax_of t) target (t.mem (sp_of t)) t.mem q (λ i lt e. beside i (omega (arith, lt, count_is)) (ap At (omega (arith, e, to.2))));
      bank = λ i lt beside. meets.kept (Zp (20 + i)) (quiet.silent.bank i lt);
      pushed = meets.pushed;
      frames = meets.frames;
      input = meets.input ∙ ap (λ q. drop q t.input) quiet.silent.taken;
      output = meets.output ∙ ap (λ xs. t.output ++ xs) quiet.silent.out ∙ append_nothing t.output;
      ended = meets.ended ∙ quiet.silent.ends ∙ sym r.joins.ended;
      bytes = bytes;
    }

    laid : AreLaid w (At to.0) p n (λ i. byte v) u
    laid i lt =
        let less_than : i < ax_of t = omega (arith, lt, count_is) in
        let place : to.0 + (p + i) ≡ target + i = omega (arith, to.2) in
        let is : u.mem (to.0 + (p + i)) ≡ v = ap u.mem place ∙ is_written (target + i) (side (target_byte i less_than)) ∙ filled_at (ax_of t) target (t.mem (sp_of t)) t.mem i less_than ∙ fills in
        subst (λ y. CellIs w (byte v) y) (sym is) (whole v below)
      where
        side : IsOpen g.place a.base (target + i) → (target + i < stack_start) ⊎ (sp_of t ≤ target + i)
        side (inl there) = inl (data_is_low g placed (target + i) there)
        side (inr high) = inr (omega (arith, high.0, r.sp))

    served : IsServed g a Memset pushed needs 4 c w banks t (Place d p) (scene_behind c (stores c n (Place d p) s)) u
    served = record {
      taken = subst (λ z. AreTaken g a pushed needs 4 c w banks t (record c { store = z; input = c.input; out = c.out }) banks u) (sym h.store)
          (puts_are_taken g a pushed needs 4 c w banks banks t u d h.block (At to.0) p n (λ i. byte v) placed r may only laid ((banks_follow a banks t u p n).1 to.0 r.joins.bank only) meets.sp);
      value = (to.0, to.1, value meets.a meets.x ∙ to.2);
      gives = λ size. tt;
    }
      where
        value : u.regs.a ≡ target % 256 → u.regs.x ≡ target / 256 % 256 → ax_of u ≡ target
        value low high = omega (arith, low, high, r.joins.bytes.mem (sp_of t + 2), r.joins.bytes.mem (sp_of t + 2 + 1))

  filled_done : IsDone g a Memset pushed needs 4 c w banks t (stores c n (Place d p) s)
  filled_done = record {
    row = row;
    is = refl;
    room = access;
    cost = omega (arith, range_length (ax_of t) target, count_is);
    goes_on = refl;
    served = λ u meets bytes. served u meets bytes;
  }

pub memset_is_followed : MemsetIsFollowed
memset_is_followed = calls_are_followed Memset done
  where
    places : (g : World) (a : Active) (pushed needs : ℕ) (c : Scene) (w : Placing) (banks : Banks) (t : State) (to : Value) (z : ℤ) (n : ℕ) (x : Effect) → IsPlacement g.code g.place
        → Ready g a (pushed + 4) needs c w banks t → ValueIs w 65536 (Whole (pos n)) (ax_of t) → ValueIs w 65536 (Whole z) (word_at t.mem (sp_of t)) → ValueIs w 65536 to (word_at t.mem (sp_of t + 2))
        → (filled_area c.store to n (residue 256 z) >>= λ s. Ok (stores c n to s)) ≡ Ok x → IsDone g a Memset pushed needs 4 c w banks t x
    places g a pushed needs c w banks t (Place d p) z n x placed r counted fills aim e =
        let h = bound (filled c.store d p n (λ i. byte (residue 256 z))) (λ s. Ok (stores c n (Place d p) s)) x e in
        let is : stores c n (Place d p) h.0 ≡ x = is_given h.2 in
        subst (IsDone g a Memset pushed needs 4 c w banks t) is
        (filled_done g a pushed needs c w banks t placed r d p n (residue 256 z) h.0 counted (low_of (t.mem (sp_of t)) (t.mem (sp_of t + 1)) z (r.joins.bytes.mem (sp_of t)) fills) (residue_below 256 z (omega arith)) aim
        (filled_is c.store d p n (λ i. byte (residue 256 z)) h.0 h.1))
    places g a pushed needs c w banks t (Whole y) z n x placed r counted fills aim e = refused e
    places g a pushed needs c w banks t Null z n x placed r counted fills aim e = refused e
    places g a pushed needs c w banks t Opaque z n x placed r counted fills aim e = refused e
    places g a pushed needs c w banks t (Cells xs) z n x placed r counted fills aim e = refused e
    places g a pushed needs c w banks t NoValue z n x placed r counted fills aim e = refused e

    counts : (g : World) (a : Active) (pushed needs : ℕ) (c : Scene) (w : Placing) (banks : Banks) (t : State) (to : Value) (z : ℤ) (count : Value) (rest : List Cell) (x : Effect) → IsPlacement g.code g.place
        → Ready g a (pushed + 4) needs c w banks t → ValueIs w 65536 count (ax_of t) → ValueIs w 65536 (Whole z) (word_at t.mem (sp_of t)) → ValueIs w 65536 to (word_at t.mem (sp_of t + 2))
        → effect_of c Memset (to ∷ Whole z ∷ count ∷ []) rest ≡ Ok x → IsDone g a Memset pushed needs 4 c w banks t x
    counts g a pushed needs c w banks t to z (Whole (pos n)) rest x placed r counted fills aim e = places g a pushed needs c w banks t to z n x placed r counted fills aim e
    counts g a pushed needs c w banks t to z (Whole (negsuc n)) rest x placed r counted fills aim e = refused e
    counts g a pushed needs c w banks t to z Null rest x placed r counted fills aim e = refused e
    counts g a pushed needs c w banks t to z (Place b o) rest x placed r counted fills aim e = refused e
    counts g a pushed needs c w banks t to z Opaque rest x placed r counted fills aim e = refused e
    counts g a pushed needs c w banks t to z (Cells xs) rest x placed r counted fills aim e = refused e
    counts g a pushed needs c w banks t to z NoValue rest x placed r counted fills aim e = refused e

    done : EachIsDone Memset
    done g a pushed needs c w banks t [] rest x placed r passed e = refused e
    done g a pushed needs c w banks t (to ∷ []) rest x placed r passed e = refused e
    done g a pushed needs c w banks t (to ∷ v ∷ []) rest x placed r passed e = refused e
    done g a pushed needs c w banks t (to ∷ v ∷ v2 ∷ v3 ∷ more) rest x placed r passed e = refused e
    done g a pushed needs c w banks t (to ∷ Whole z ∷ count ∷ []) rest x placed r passed e = counts g a pushed needs c w banks t to z count rest x placed r passed.0 passed.1.0 passed.1.1.0 e
    done g a pushed needs c w banks t (to ∷ Null ∷ count ∷ []) rest x placed r passed e = refused e
    done g a pushed needs c w banks t (to ∷ Place b o ∷ count ∷ []) rest x placed r passed e = refused e
    done g a pushed needs c w banks t (to ∷ Opaque ∷ count ∷ []) rest x placed r passed e = refused e
    done g a pushed needs c w banks t (to ∷ Cells xs ∷ count ∷ []) rest x placed r passed e = refused e
    done g a pushed needs c w banks t (to ∷ NoValue ∷ count ∷ []) rest x placed r passed e = refused e
