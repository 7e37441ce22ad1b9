-- A text is copied.
use Rattle.std.proofs.Common.{◌≡◌, ℕ, zero, suc, ◌+◌, ◌*◌, ◌/◌, ◌%◌, ◌<◌, ◌≤◌, ◌⊎◌, inl, inr, List, [], ◌∷◌, ◌++◌, Bool, true, false, refl, sym, ap, ◌∙◌, subst, arith, length-append}
use Rattle.std.specs.Prelude.{Ok, Some, length, min, max, drop, nat_lt, if◌then◌else◌, ◌==◌, ◌&&◌}
use Rattle.std.proofs.lemmas.Bool.{cases_eq}
use Rattle.c65_base.specs.declared.library.Library.TheVariants.{Strcpy}
use Rattle.c65_meaning.specs.Why.{◌>>=◌}
use Rattle.c65_meaning.specs.Store.{Store, Value, Whole, Null, Place, Opaque, Cells, NoValue}
use Rattle.c65_meaning.specs.State.{Scene}
use Rattle.c65_meaning.specs.Library.{Effect, stores, text_at, overlap, copied_apart, copied_area}
use Rattle.c65_code.specs.declared.parts.Part.TheVariants.{Zp}
use Rattle.c65_code.specs.declared.routine.Routine.TheVariants as routines
use Rattle.c65_code.specs.LineState.{Bytes, write, State, sp_of, ax_of, word_at, IsBytes}
use Rattle.c65_code.specs.Placement.{IsPlacement, stack_start}
use Rattle.c65_code.specs.Texts.{range_of, copied, copy_within, copy_length}
use Rattle.c65_code.specs.Rows.{Row, Meets, row_by, costing, library_row, written}
use Rattle.c65_code.specs.Steady.{IsOpen, HasRoom}
use Rattle.c65_agree_store.specs.Stands.{At, Placing, Banks, CellIs, IsAt, ValueIs}
use Rattle.c65_agree_state.specs.World.{World, Active}
use Rattle.c65_agree_state.specs.Exprs.{Ready}
use Rattle.c65_agree_state.specs.Laws.{HasStacks}
use Rattle.c65_agree_state.proofs.Followed.{ready_is_calm}
use Rattle.c65_agree_numbers.proofs.Tests.{less, equal, unequal}
use Rattle.c65_agree_rows.specs.Rows.{IsQuiet}
use Rattle.c65_agree_rows.proofs.Quiet.{append_nothing, write_other, in_range, quiet_row}
use Rattle.c65_agree_put.specs.Puts.{MayPut, OnlyStored, AreLaid, AreTaken}
use Rattle.c65_agree_put.proofs.Puts.{banks_follow, puts_are_taken}
use Rattle.c65_agree_put.proofs.Stores.{data_is_low}
use Rattle.c65_agree_copy.proofs.Runs.{all_both, range_length}
use Rattle.c65_agree_copy.proofs.Apart.{copied_other, copied_at}
use Rattle.c65_agree_library.specs.Calls.{IsServed}
use Rattle.c65_agree_library_area.specs.Laws.{StrcpyIsFollowed}
use Rattle.c65_agree_library.proofs.Flow.{IsDone, EachIsDone, calls_are_followed, scene_behind, refused, is_given}
use Rattle.c65_agree_library_text.proofs.Texts.{Spells, IsText, text_is, is_open}
use Rattle.c65_agree_library_text.proofs.Areas.{bound}
use Rattle.c65_agree_library_area.proofs.Memcpy.{IsApart, copied_is}

-- a text goes on standing where its bytes stay
spelled_kept : (m m2 : Bytes) (at : ℕ) (text : List ℕ) → ((i : ℕ) → i ≤ length text → m2 (at + i) ≡ m (at + i)) → Spells m at text → Spells m2 at text
spelled_kept m m2 at [] same h = let here : at + 0 ≡ at = omega arith in sym (ap m2 here) ∙ same 0 (omega arith) ∙ ap m here ∙ h
spelled_kept m m2 at (v ∷ vs) same h =
    let here : at + 0 ≡ at = omega arith in
    (sym (ap m2 here) ∙ same 0 (omega arith) ∙ ap m here ∙ h.0, h.1, spelled_kept m m2 (at + 1) vs (λ i le. on i (same (suc i) (omega (arith, le)))) h.2)
  where
    on : (i : ℕ) → m2 (at + suc i) ≡ m (at + suc i) → m2 (at + 1 + i) ≡ m (at + 1 + i)
    on i e = let next : at + suc i ≡ at + 1 + i = omega arith in subst (λ q. m2 q ≡ m q) next e

-- the copy ends at the text's zero, where it writes no byte of the text
copy_spelled : (fuel to from : ℕ) (m : Bytes) (text : List ℕ) → Spells m from text → ((i j : ℕ) → i ≤ length text → j ≤ length text → from + i ≡ to + j → ⊥) → length text < fuel → copy_within fuel to from m ≡ length text
copy_spelled zero to from m text h apart lt = absurd (omega (arith, lt))
copy_spelled (suc fuel) to from m [] h apart lt = ap (λ (b : Bool). if b then 0 else suc (copy_within fuel (to + 1) (from + 1) (write m to (m from)))) (equal (m from) 0 h)
copy_spelled (suc fuel) to from m (v ∷ vs) h apart lt =
    ap (λ (b : Bool). if b then 0 else suc (copy_within fuel (to + 1) (from + 1) (write m to (m from)))) (unequal (m from) 0 (λ e. h.1 (sym h.0 ∙ e)))
    ∙ ap suc (copy_spelled fuel (to + 1) (from + 1) (write m to (m from)) vs (spelled_kept m (write m to (m from)) (from + 1) vs (λ i le. write_other m to (m from) (from + 1 + i) (λ e. apart (suc i) 0 (omega (arith, le)) (omega arith) (omega (arith, e)))) h.2)
    (λ i j li lj e. apart (suc i) (suc j) (omega (arith, li)) (omega (arith, lj)) (omega (arith, e))) (omega (arith, lt)))

copy_length_is : (to from : ℕ) (m : Bytes) (text : List ℕ) → Spells m from text → ((i j : ℕ) → i ≤ length text → j ≤ length text → from + i ≡ to + j → ⊥) → length text < 65536 → copy_length to from m ≡ length text
unfolding copy_length
copy_length_is to from m text h apart lt = copy_spelled 65536 to from m text h apart lt

module _ (g : World) (a : Active) (pushed needs : ℕ) (c : Scene) (w : Placing) (banks : Banks) (t : State) (placed : IsPlacement g.code g.place) (r : Ready g a (pushed + 2) needs c w banks t) (b o d p : ℕ) (text : List ℕ) (s : Store)
    (from : ValueIs w 65536 (Place b o) (ax_of t)) (to : ValueIs w 65536 (Place d p) (word_at t.mem (sp_of t))) (is_text : IsText g a t (ax_of t) text) (h : IsApart c.store b o d p (suc (length text)) s) where
  abbrev target : ℕ
  target = word_at t.mem (sp_of t)

  abbrev origin : ℕ
  origin = ax_of t

  abbrev size : ℕ
  size = suc (length text)

  abbrev count : ℕ
  count = copy_length target origin t.mem + 1

  source_at : IsAt c.store w b h.source (At from.0)
  source_at = record { is = h.source_is.is; live = h.source_is.live; place = from.1 }

  target_at : IsAt c.store w d h.target.block (At to.0)
  target_at = record { is = h.target.area.is; live = h.target.area.live; place = to.1 }

  may : MayPut g a c w d h.target.block (At to.0) p size
  may = record { block = target_at; fits = h.target.area.fits; own = tt; writable = inl h.target.unsealed }

  stacks : HasStacks g t
  stacks = ready_is_calm g a (pushed + 2) needs c w banks t r

  all_three : (x y z : Bool) → x ≡ true → y ≡ true → z ≡ true → x && (y && z) ≡ true
  all_three x y z e f i = rw (e, f, i) refl

  bytes_apart : (i j : ℕ) → i < size → j < size → origin + i ≡ target + j → ⊥
  bytes_apart i j li lj e = go (cases_eq b d)
    where
      go : (b ≡ d) ⊎ (b ≡ d → ⊥) → ⊥
      go (inr ne) = r.joins.stands.apart b d h.source h.target.block (At from.0) (At to.0) source_at target_at ne (o + i) (p + j) (omega (arith, li, h.source_is.fits, r.joins.stands.whole b h.source h.source_is.is)) (omega (arith, lj, h.target.area.fits, r.joins.stands.whole d h.target.block h.target.area.is))
          (ap At (omega (arith, e, from.2, to.2)))
      go (inl same) =
          let f : Some (At from.0) ≡ Some (At to.0) = sym from.1 ∙ ap w same ∙ to.1 in
          let one : from.0 ≡ to.0 = cc in
          let meets : overlap size b o d p ≡ true = all_three (b == d) (nat_lt o (p + size)) (nat_lt p (o + size)) (equal b d same) (less o (p + size) (omega (arith, e, one, from.2, to.2, lj))) (less p (o + size) (omega (arith, e, one, from.2, to.2, li))) in
          let clash : true ≡ false = sym meets ∙ h.apart in
          cc

  count_is : count ≡ size
  count_is = let e = copy_length_is target origin t.mem text is_text.spelled (λ i j li lj e. bytes_apart i j (omega (arith, li)) (omega (arith, lj)) e) is_text.short in omega (arith, e)

  abbrev row : Row
  row = library_row Strcpy t (costing 256 (row_by (routines.Library Strcpy) t))

  source_byte : (i : ℕ) → i < count → IsOpen g.place a.base (origin + i)
  source_byte i lt = is_text.opened i (omega (arith, lt, count_is))

  target_byte : (i : ℕ) → i < count → IsOpen g.place a.base (target + i)
  target_byte i lt =
      let e : to.0 + (p + i) ≡ target + i = omega (arith, to.2) in
      subst (IsOpen g.place a.base) e (is_open g a c w banks t r.joins d h.target.block to.0 (p + i) target_at (omega (arith, lt, count_is, h.target.area.fits)))

  abbrev Reached : ℕ → Type 0
  Reached q = IsOpen g.place (max (sp_of t) (sp_of t + 2)) q

  lower : (q : ℕ) → IsOpen g.place a.base q → Reached q
  lower q (inl there) = inl there
  lower q (inr le) = inr (omega (arith, le.0, r.sp), le.1)

  access : HasRoom g.place row t
  access = record {
    ready = refl;
    soft = stacks.soft;
    hard = stacks.hard;
    near = in_range (IsOpen g.place (min (sp_of t) (sp_of t + 2))) 2 (sp_of t) (λ i lt. inr (omega arith, omega (arith, lt, r.sp, r.joins.top)));
    far = all_both Reached (range_of count origin) (range_of count target) (in_range Reached count origin (λ i lt. lower (origin + i) (source_byte i lt))) (in_range Reached count target (λ i lt. lower (target + i) (target_byte i lt)));
  }

  module _ (u : State) (meets : Meets row t u) (bytes : IsBytes u) where
    quiet : IsQuiet row
    quiet = quiet_row row refl refl refl refl refl

    is_written : (q : ℕ) → (q < stack_start) ⊎ (sp_of t ≤ q) → u.mem q ≡ written t.mem (copied count target origin t.mem) q
    is_written q (inl low) = meets.mem q (inl (omega (arith, low, stacks.soft)))
    is_written q (inr high) = meets.mem q (inr (inl high))

    only : OnlyStored a (sp_of t) (At to.0) p size t u
    only = record {
      mem = λ q side beside. is_written q side ∙ copied_other count target origin t.mem q (λ i lt e. beside i (omega (arith, lt, count_is)) (ap At (omega (arith, e, to.2))));
      bank = λ i lt beside. meets.kept (Zp (20 + i)) (quiet.silent.bank i lt);
      pushed = meets.pushed;
      frames = meets.frames;
      input = meets.input ∙ ap (λ q. drop q t.input) quiet.silent.taken;
      output = meets.output ∙ ap (λ xs. t.output ++ xs) quiet.silent.out ∙ append_nothing t.output;
      ended = meets.ended ∙ quiet.silent.ends ∙ sym r.joins.ended;
      bytes = bytes;
    }

    laid : AreLaid w (At to.0) p size (λ i. h.source.cells (o + i)) u
    laid i lt =
        let less_than : i < count = omega (arith, lt, count_is) in
        let place : to.0 + (p + i) ≡ target + i = omega (arith, to.2) in
        let source : origin + i ≡ from.0 + (o + i) = omega (arith, from.2) in
        let byte : u.mem (to.0 + (p + i)) ≡ t.mem (from.0 + (o + i)) =
        ap u.mem place ∙ is_written (target + i) (side (target_byte i less_than)) ∙ copied_at count target origin t.mem (λ k l lk ll e. bytes_apart k l (omega (arith, lk, count_is)) (omega (arith, ll, count_is)) e) i less_than ∙ ap t.mem source in
        subst (λ y. CellIs w (h.source.cells (o + i)) y) (sym byte) (r.joins.stands.cells b h.source (At from.0) (o + i) source_at (omega (arith, lt, h.source_is.fits)))
      where
        side : IsOpen g.place a.base (target + i) → (target + i < stack_start) ⊎ (sp_of t ≤ target + i)
        side (inl there) = inl (data_is_low g placed (target + i) there)
        side (inr high) = inr (omega (arith, high.0, r.sp))

    text_served : IsServed g a Strcpy pushed needs 2 c w banks t (Place d p) (scene_behind c (stores c (2 * size) (Place d p) s)) u
    text_served = record {
      taken = subst (λ z. AreTaken g a pushed needs 2 c w banks t (record c { store = z; input = c.input; out = c.out }) banks u) (sym h.target.store)
          (puts_are_taken g a pushed needs 2 c w banks banks t u d h.target.block (At to.0) p size (λ i. h.source.cells (o + i)) placed r may only laid ((banks_follow a banks t u p size).1 to.0 r.joins.bank only) meets.sp);
      value = (to.0, to.1, value meets.a meets.x ∙ to.2);
      gives = λ size. tt;
    }
      where
        value : u.regs.a ≡ target % 256 → u.regs.x ≡ target / 256 % 256 → ax_of u ≡ target
        value low high = omega (arith, low, high, r.joins.bytes.mem (sp_of t), r.joins.bytes.mem (sp_of t + 1))

  text_done : IsDone g a Strcpy pushed needs 2 c w banks t (stores c (2 * size) (Place d p) s)
  text_done = record {
    row = row;
    is = refl;
    room = access;
    cost = omega (arith, length-append (range_of count origin) (range_of count target), range_length count origin, range_length count target, count_is);
    goes_on = refl;
    served = λ u meets bytes. text_served u meets bytes;
  }

pub strcpy_is_followed : StrcpyIsFollowed
strcpy_is_followed = calls_are_followed Strcpy done
  where
    both : (g : World) (a : Active) (pushed needs : ℕ) (c : Scene) (w : Placing) (banks : Banks) (t : State) (to from : Value) (text : List ℕ) (x : Effect) → IsPlacement g.code g.place
        → Ready g a (pushed + 2) needs c w banks t → ValueIs w 65536 from (ax_of t) → ValueIs w 65536 to (word_at t.mem (sp_of t)) → text_at c.store from ≡ Ok text
        → (copied_area c.store to from (suc (length text)) >>= λ s. Ok (stores c (2 * suc (length text)) to s)) ≡ Ok x → IsDone g a Strcpy pushed needs 2 c w banks t x
    both g a pushed needs c w banks t (Place d p) (Place b o) text x placed r source aim is_text e =
        let h = bound (copied_apart c.store b o d p (suc (length text))) (λ s. Ok (stores c (2 * suc (length text)) (Place d p) s)) x e in
        let is : stores c (2 * suc (length text)) (Place d p) h.0 ≡ x = is_given h.2 in
        subst (IsDone g a Strcpy pushed needs 2 c w banks t) is
        (text_done g a pushed needs c w banks t placed r b o d p text h.0 source aim (text_is g a c w banks t r.joins (Place b o) (ax_of t) text source is_text) (copied_is c.store b o d p (suc (length text)) h.0 h.1))
    both g a pushed needs c w banks t (Place d p) (Whole z) text x placed r source aim is_text e = refused e
    both g a pushed needs c w banks t (Place d p) Null text x placed r source aim is_text e = refused e
    both g a pushed needs c w banks t (Place d p) Opaque text x placed r source aim is_text e = refused e
    both g a pushed needs c w banks t (Place d p) (Cells xs) text x placed r source aim is_text e = refused e
    both g a pushed needs c w banks t (Place d p) NoValue text x placed r source aim is_text e = refused e
    both g a pushed needs c w banks t (Whole z) from text x placed r source aim is_text e = refused e
    both g a pushed needs c w banks t Null from text x placed r source aim is_text e = refused e
    both g a pushed needs c w banks t Opaque from text x placed r source aim is_text e = refused e
    both g a pushed needs c w banks t (Cells xs) from text x placed r source aim is_text e = refused e
    both g a pushed needs c w banks t NoValue from text x placed r source aim is_text e = refused e

    done : EachIsDone Strcpy
    done g a pushed needs c w banks t [] rest x placed r passed e = refused e
    done g a pushed needs c w banks t (to ∷ []) rest x placed r passed e = refused e
    done g a pushed needs c w banks t (to ∷ from ∷ v ∷ more) rest x placed r passed e = refused e
    done g a pushed needs c w banks t (to ∷ from ∷ []) rest x placed r passed e =
        let h = bound (text_at c.store from) (λ text. copied_area c.store to from (suc (length text)) >>= λ s. Ok (stores c (2 * suc (length text)) to s)) x e in
        both g a pushed needs c w banks t to from h.0 x placed r passed.0 passed.1.0 h.1 h.2
