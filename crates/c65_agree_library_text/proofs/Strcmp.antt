-- Two texts are compared.
use Rattle.std.proofs.Common.{◌≡◌, ℕ, zero, suc, ◌+◌, ◌-◌, ◌*◌, ◌/◌, ◌%◌, ◌<◌, ◌≤◌, ◌⊎◌, inl, inr, ℤ, pos, ◌-ℤ◌, [], ◌∷◌, Bool, refl, sym, ap, ◌∙◌, subst, arith, length-append}
use Rattle.std.specs.Prelude.{Ok, length, min, max, if◌then◌else◌, ◌==◌}
use Rattle.std.proofs.lemmas.Bool.{cases_eq, cases_lt}
use Rattle.std.proofs.lemmas.Int.{ints}
use Rattle.c65_ints.specs.declared.types.IntType.TheVariants.{Int}
use Rattle.c65_ints.specs.Ranges.{residue, InRange}
use Rattle.c65_base.specs.declared.library.Library.TheVariants.{Strcmp}
use Rattle.c65_meaning.specs.Why.{◌>>=◌}
use Rattle.c65_meaning.specs.Store.{Cell, Block, Value, Whole, Null, Place, Opaque, Cells, NoValue}
use Rattle.c65_meaning.specs.State.{Scene}
use Rattle.c65_meaning.specs.Library.{Effect, gives, area, set_byte, Compared, one_more, compared_byte, compared_in, compared_texts}
use Rattle.c65_code.specs.declared.routine.Routine.TheVariants as routines
use Rattle.c65_code.specs.declared.routine.Width.TheVariants.{Ax}
use Rattle.c65_code.specs.LineState.{Bytes, State, sp_of, ax_of, word_at}
use Rattle.c65_code.specs.Placement.{IsPlacement}
use Rattle.c65_code.specs.Texts.{range_of, common_within, common_length, difference}
use Rattle.c65_code.specs.Rows.{Row, row_by, costing, library_row}
use Rattle.c65_code.specs.Steady.{IsOpen}
use Rattle.c65_agree_store.specs.Stands.{At, Placing, Banks, CellIs, IsAt, ValueIs}
use Rattle.c65_agree_state.specs.World.{World, Active}
use Rattle.c65_agree_state.specs.Exprs.{Ready}
use Rattle.c65_agree_numbers.proofs.Residues.{less_word}
use Rattle.c65_agree_numbers.proofs.Tests.{less, not_less, equal, unequal}
use Rattle.c65_agree_rows.proofs.Quiet.{append_nothing, in_range, silent_row}
use Rattle.c65_agree_copy.proofs.Runs.{all_both, range_length}
use Rattle.c65_agree_library_text.specs.Laws.{StrcmpIsFollowed}
use Rattle.c65_agree_library.proofs.Flow.{IsDone, EachIsDone, calls_are_followed, refused, is_given}
use Rattle.c65_agree_library.proofs.Stills.{IsStill, lowered, still_room, still_taken}
use Rattle.c65_agree_library_text.proofs.Texts.{set_cell, is_open}
use Rattle.c65_agree_library_text.proofs.Areas.{bound, IsArea, area_is}

abbrev one_read : ℤ → Compared
one_read z = record { read = 1; difference = z }

-- the bytes that two texts have in common are those that the meaning reads before the last of each
pub record AreCompared (m : Bytes) (p q common n : ℕ) (d : Compared) : Type 0 where
  pub read : common + 1 ≡ d.read
  pub few : d.read ≤ n
  pub difference : d.difference ≡ pos (m (p + common)) -ℤ pos (m (q + common))

module _ (w : Placing) (xs ys : ℕ → Cell) (m : Bytes) (from to : ℕ) (small : (b : ℕ) → m b < 256) where
  -- so many cells stand in memory
  abbrev Stand : (ℕ → Cell) → ℕ → ℕ → ℕ → Type 0
  Stand cells at o n = (i : ℕ) → i < n → CellIs w (cells (o + i)) (m (at + (o + i)))

  first : (cells : ℕ → Cell) (at o n : ℕ) → Stand cells at o (suc n) → CellIs w (cells o) (m (at + o))
  first cells at o n h = let same : o + 0 ≡ o = omega arith in subst (λ j. CellIs w (cells j) (m (at + j))) same (h 0 (omega arith))

  others : (cells : ℕ → Cell) (at o n : ℕ) → Stand cells at o (suc n) → Stand cells at (suc o) n
  others cells at o n h i lt = let same : o + suc i ≡ suc o + i = omega arith in subst (λ j. CellIs w (cells j) (m (at + j))) same (h (suc i) (omega (arith, lt)))

  compared_is : (n fuel o p : ℕ) (d : Compared) → n ≤ fuel → Stand xs from o n → Stand ys to p n → compared_in xs ys n o p ≡ Ok d → AreCompared m (from + o) (to + p) (common_within fuel (from + o) (to + p) m) n d
  compared_is zero fuel o p d le hx hy e = cc
  compared_is (suc n) zero o p d le hx hy e = absurd (omega (arith, le))
  compared_is (suc n) (suc fuel) o p d le hx hy e =
      let a = bound (set_byte (xs o)) (λ a. set_byte (ys p) >>= λ b. compared_byte a b (compared_in xs ys n (suc o) (suc p))) d e in
      let b = bound (set_byte (ys p)) (λ b. compared_byte a.0 b (compared_in xs ys n (suc o) (suc p))) d a.2 in
      go a.0 b.0 (set_cell w (xs o) a.0 (m (from + o)) (small (from + o)) a.1 (first xs from o n hx)) (set_cell w (ys p) b.0 (m (to + p)) (small (to + p)) b.1 (first ys to p n hy)) (cases_eq a.0 b.0) (cases_eq a.0 0) b.2
      (λ d1 f. compared_is n fuel (suc o) (suc p) d1 (omega (arith, le)) (others xs from o n hx) (others ys to p n hy) f)
    where
      ends : (x y : ℕ) (d : Compared) → m (from + o) ≡ x → m (to + p) ≡ y → d.read ≡ 1 → d.difference ≡ pos x -ℤ pos y → common_within (suc fuel) (from + o) (to + p) m ≡ 0 → AreCompared m (from + o) (to + p) (common_within (suc fuel) (from + o) (to + p) m) (suc n) d
      ends x y d hx hy read_is is none =
          let here : from + o + common_within (suc fuel) (from + o) (to + p) m ≡ from + o = omega (arith, none) in
          let there : to + p + common_within (suc fuel) (from + o) (to + p) m ≡ to + p = omega (arith, none) in
          record {
            read = omega (arith, none, read_is);
            few = omega (arith, read_is);
            difference = is ∙ ap (λ z. pos z -ℤ pos y) (sym (ap m here ∙ hx)) ∙ ap (λ z. pos (m (from + o + common_within (suc fuel) (from + o) (to + p) m)) -ℤ pos z) (sym (ap m there ∙ hy));
          }

      go : (x y : ℕ) → m (from + o) ≡ x → m (to + p) ≡ y → (x ≡ y) ⊎ (x ≡ y → ⊥) → (x ≡ 0) ⊎ (x ≡ 0 → ⊥) → compared_byte x y (compared_in xs ys n (suc o) (suc p)) ≡ Ok d
          → ((d1 : Compared) → compared_in xs ys n (suc o) (suc p) ≡ Ok d1 → AreCompared m (from + suc o) (to + suc p) (common_within fuel (from + suc o) (to + suc p) m) n d1) → AreCompared m (from + o) (to + p) (common_within (suc fuel) (from + o) (to + p) m) (suc n) d
      go x y hx hy (inr ne) _ f deep =
          let f2 : Ok (one_read (pos x -ℤ pos y)) ≡ Ok d = sym (ap (λ (c : Bool). if c then (if x == 0 then Ok (one_read (pos 0)) else (compared_in xs ys n (suc o) (suc p) >>= λ c. Ok (one_more c))) else Ok (one_read (pos x -ℤ pos y))) (unequal x y ne)) ∙ f in
          let is : one_read (pos x -ℤ pos y) ≡ d = is_given f2 in
          let none : common_within (suc fuel) (from + o) (to + p) m ≡ 0 = ap (λ (c : Bool). if c then (if m (from + o) == 0 then 0 else suc (common_within fuel (from + o + 1) (to + p + 1) m)) else 0) (unequal (m (from + o)) (m (to + p)) (λ e. ne (sym hx ∙ e ∙ hy))) in
          ends x y d hx hy (ap (λ z. z.read) (sym is)) (ap (λ z. z.difference) (sym is)) none
      go x y hx hy (inl same) (inl none) f deep =
          let f2 : Ok (one_read (pos 0)) ≡ Ok d = sym (ap (λ (c : Bool). if c then (if x == 0 then Ok (one_read (pos 0)) else (compared_in xs ys n (suc o) (suc p) >>= λ c. Ok (one_more c))) else Ok (one_read (pos x -ℤ pos y))) (equal x y same)
          ∙ ap (λ (c : Bool). if c then Ok (one_read (pos 0)) else (compared_in xs ys n (suc o) (suc p) >>= λ c. Ok (one_more c))) (equal x 0 none)) ∙ f in
          let is : one_read (pos 0) ≡ d = is_given f2 in
          let zero_x : m (from + o) ≡ 0 = hx ∙ none in
          let zero_y : m (to + p) ≡ 0 = hy ∙ sym same ∙ none in
          let stop : common_within (suc fuel) (from + o) (to + p) m ≡ 0 = ap (λ (c : Bool). if c then (if m (from + o) == 0 then 0 else suc (common_within fuel (from + o + 1) (to + p + 1) m)) else 0) (equal (m (from + o)) (m (to + p)) (zero_x ∙ sym zero_y))
          ∙ ap (λ (c : Bool). if c then 0 else suc (common_within fuel (from + o + 1) (to + p + 1) m)) (equal (m (from + o)) 0 zero_x) in
          ends 0 0 d zero_x zero_y (ap (λ z. z.read) (sym is)) (ap (λ z. z.difference) (sym is)) stop
      go x y hx hy (inl same) (inr more) f deep =
          let f2 : (compared_in xs ys n (suc o) (suc p) >>= λ c. Ok (one_more c)) ≡ Ok d = sym (ap (λ (c : Bool). if c then (if x == 0 then Ok (one_read (pos 0)) else (compared_in xs ys n (suc o) (suc p) >>= λ c. Ok (one_more c))) else Ok (one_read (pos x -ℤ pos y))) (equal x y same)
          ∙ ap (λ (c : Bool). if c then Ok (one_read (pos 0)) else (compared_in xs ys n (suc o) (suc p) >>= λ c. Ok (one_more c))) (unequal x 0 more)) ∙ f in
          let l = bound (compared_in xs ys n (suc o) (suc p)) (λ c. Ok (one_more c)) d f2 in
          let is : one_more l.0 ≡ d = is_given l.2 in
          let h = deep l.0 l.1 in
          let onward : common_within (suc fuel) (from + o) (to + p) m ≡ suc (common_within fuel (from + o + 1) (to + p + 1) m) = ap (λ (c : Bool). if c then (if m (from + o) == 0 then 0 else suc (common_within fuel (from + o + 1) (to + p + 1) m)) else 0) (equal (m (from + o)) (m (to + p)) (hx ∙ same ∙ sym hy))
          ∙ ap (λ (c : Bool). if c then 0 else suc (common_within fuel (from + o + 1) (to + p + 1) m)) (unequal (m (from + o)) 0 (λ e. more (sym hx ∙ e))) in
          let left : from + suc o ≡ from + o + 1 = omega arith in
          let right : to + suc p ≡ to + p + 1 = omega arith in
          let same_count : common_within fuel (from + suc o) (to + suc p) m ≡ common_within fuel (from + o + 1) (to + p + 1) m = ap (λ z. common_within fuel z (to + suc p) m) left ∙ ap (λ z. common_within fuel (from + o + 1) z m) right in
          let here : from + suc o + common_within fuel (from + suc o) (to + suc p) m ≡ from + o + common_within (suc fuel) (from + o) (to + p) m = omega (arith, onward, same_count) in
          let there : to + suc p + common_within fuel (from + suc o) (to + suc p) m ≡ to + p + common_within (suc fuel) (from + o) (to + p) m = omega (arith, onward, same_count) in
          let read_is : d.read ≡ suc l.0.read = ap (λ z. z.read) (sym is) in
          record {
            read = omega (arith, h.read, same_count, onward, read_is);
            few = omega (arith, h.few, read_is);
            difference = ap (λ z. z.difference) (sym is) ∙ h.difference ∙ ap (λ z. pos (m z) -ℤ pos (m (to + suc p + common_within fuel (from + suc o) (to + suc p) m))) here ∙ ap (λ z. pos (m (from + o + common_within (suc fuel) (from + o) (to + p) m)) -ℤ pos (m z)) there;
          }

-- ---- the difference

difference_is : (x y : ℕ) → x < 256 → y < 256 → difference x y ≡ residue 65536 (pos x -ℤ pos y)
difference_is x y hx hy = go (cases_lt x y)
  where
    go : (x < y) ⊎ (y ≤ x) → difference x y ≡ residue 65536 (pos x -ℤ pos y)
    go (inl lt) = ap (λ (b : Bool). if b then 65536 + x - y else x - y) (less x y lt) ∙ omega (arith, lt, hx, hy, less_word Ax (pos x) (pos y))
    go (inr le) = ap (λ (b : Bool). if b then 65536 + x - y else x - y) (not_less x y le) ∙ omega (arith, le, hx, hy, less_word Ax (pos x) (pos y))

difference_fits : (x y : ℕ) → x < 256 → y < 256 → InRange Int (pos x -ℤ pos y)
difference_fits x y hx hy = record { low = omega (arith, ints, hx, hy); high = omega (arith, ints, hx, hy) }

common_is : (p q : ℕ) (m : Bytes) → common_length p q m ≡ common_within 65536 p q m
unfolding common_length
common_is p q m = refl

word_of : (a x n : ℕ) → n < 65536 → a ≡ n % 256 → x ≡ n / 256 % 256 → a + 256 * x ≡ n
word_of a x n lt low high = omega (arith, lt, low, high)

-- ---- the routine

module _ (g : World) (a : Active) (pushed needs : ℕ) (c : Scene) (w : Placing) (banks : Banks) (t : State) (placed : IsPlacement g.code g.place) (r : Ready g a (pushed + 2) needs c w banks t) (b o e p : ℕ) (x y : Block) (d : Compared)
    (left : ValueIs w 65536 (Place b o) (word_at t.mem (sp_of t))) (right : ValueIs w 65536 (Place e p) (ax_of t)) (is_x : IsArea c.store b o 0 x) (is_y : IsArea c.store e p 0 y) (h : compared_in x.cells y.cells (min (x.holds - o) (y.holds - p)) o p ≡ Ok d) where
  x_at : IsAt c.store w b x (At left.0)
  x_at = record { is = is_x.is; live = is_x.live; place = left.1 }

  y_at : IsAt c.store w e y (At right.0)
  y_at = record { is = is_y.is; live = is_y.live; place = right.1 }

  abbrev same : ℕ
  same = common_length (word_at t.mem (sp_of t)) (ax_of t) t.mem

  abbrev common : ℕ
  common = common_length (left.0 + o) (right.0 + p) t.mem

  compared : AreCompared t.mem (left.0 + o) (right.0 + p) common (min (x.holds - o) (y.holds - p)) d
  compared = subst (λ z. AreCompared t.mem (left.0 + o) (right.0 + p) z (min (x.holds - o) (y.holds - p)) d) (sym (common_is (left.0 + o) (right.0 + p) t.mem))
      (compared_is w x.cells y.cells t.mem left.0 right.0 r.joins.bytes.mem (min (x.holds - o) (y.holds - p)) 65536 o p d (omega (arith, r.joins.stands.whole b x is_x.is, (r.joins.stands.lies b x (At left.0) x_at).1))
      (λ i lt. r.joins.stands.cells b x (At left.0) (o + i) x_at (omega (arith, lt))) (λ i lt. r.joins.stands.cells e y (At right.0) (p + i) y_at (omega (arith, lt))) h)

  common_same : same ≡ common
  common_same = ap (λ z. common_length z (ax_of t) t.mem) left.2 ∙ ap (λ z. common_length (left.0 + o) z t.mem) right.2

  count_is : same + 1 ≡ d.read
  count_is = omega (arith, common_same, compared.read)

  abbrev one : ℕ
  one = t.mem (word_at t.mem (sp_of t) + same)

  abbrev other : ℕ
  other = t.mem (ax_of t + same)

  result_is : d.difference ≡ pos one -ℤ pos other
  result_is =
      let here : left.0 + o + common ≡ word_at t.mem (sp_of t) + same = omega (arith, common_same, left.2) in
      let there : right.0 + p + common ≡ ax_of t + same = omega (arith, common_same, right.2) in
      compared.difference ∙ ap (λ z. pos (t.mem z) -ℤ pos (t.mem (right.0 + p + common))) here ∙ ap (λ z. pos one -ℤ pos (t.mem z)) there

  abbrev row : Row
  row = library_row Strcmp t (costing 256 (row_by (routines.Library Strcmp) t))

  still : IsStill 2 t row
  still = record { sp = refl; writes = refl; ends = refl; bank = (silent_row (row_by (routines.Library Strcmp) t) refl refl refl refl).bank; room = refl }

  open_left : (i : ℕ) → i < same + 1 → IsOpen g.place a.base (word_at t.mem (sp_of t) + i)
  open_left i lt =
      let f : left.0 + (o + i) ≡ word_at t.mem (sp_of t) + i = omega (arith, left.2) in
      subst (IsOpen g.place a.base) f (is_open g a c w banks t r.joins b x left.0 (o + i) x_at (omega (arith, lt, count_is, compared.few)))

  open_right : (i : ℕ) → i < same + 1 → IsOpen g.place a.base (ax_of t + i)
  open_right i lt =
      let f : right.0 + (p + i) ≡ ax_of t + i = omega (arith, right.2) in
      subst (IsOpen g.place a.base) f (is_open g a c w banks t r.joins e y right.0 (p + i) y_at (omega (arith, lt, count_is, compared.few)))

  abbrev Reached : ℕ → Type 0
  Reached q = IsOpen g.place (max (sp_of t) row.sp) q

  compared_done : IsDone g a Strcmp pushed needs 2 c w banks t (gives c (2 * d.read) (Whole d.difference))
  compared_done = record {
    row = row;
    is = refl;
    room = still_room g a pushed needs 2 c w banks t row placed r still refl refl (all_both Reached (range_of (same + 1) (word_at t.mem (sp_of t))) (range_of (same + 1) (ax_of t))
        (in_range Reached (same + 1) (word_at t.mem (sp_of t)) (λ i lt. lowered g a pushed needs 2 c w banks t row placed r still (word_at t.mem (sp_of t) + i) (open_left i lt)))
        (in_range Reached (same + 1) (ax_of t) (λ i lt. lowered g a pushed needs 2 c w banks t row placed r still (ax_of t + i) (open_right i lt))));
    cost = omega (arith, length-append (range_of (same + 1) (word_at t.mem (sp_of t))) (range_of (same + 1) (ax_of t)), range_length (same + 1) (word_at t.mem (sp_of t)), range_length (same + 1) (ax_of t), count_is);
    goes_on = refl;
    served = λ u meets bytes. record {
      taken = still_taken g a pushed needs 2 c w banks t row placed r still u meets bytes c.input c.out r.joins.read (meets.input ∙ r.joins.input) (meets.output ∙ append_nothing t.output ∙ r.joins.output);
      value = value u meets.a meets.x ∙ difference_is one other one_below other_below ∙ ap (residue 65536) (sym result_is);
      gives = subst (InRange Int) (sym result_is) (difference_fits one other one_below other_below);
    };
  }
    where
      one_below : one < 256
      one_below = r.joins.bytes.mem (word_at t.mem (sp_of t) + same)

      other_below : other < 256
      other_below = r.joins.bytes.mem (ax_of t + same)

      small : difference one other < 65536
      small = go (cases_lt one other)
        where
          go : (one < other) ⊎ (other ≤ one) → difference one other < 65536
          go (inl lt) = rw (less one other lt) (omega (arith, lt, other_below))
          go (inr le) = rw (not_less one other le) (omega (arith, one_below))

      value : (u : State) → u.regs.a ≡ difference one other % 256 → u.regs.x ≡ difference one other / 256 % 256 → ax_of u ≡ difference one other
      value u low high = word_of u.regs.a u.regs.x (difference one other) small low high

pub strcmp_is_followed : StrcmpIsFollowed
strcmp_is_followed = calls_are_followed Strcmp done
  where
    both : (g : World) (a : Active) (pushed needs : ℕ) (c : Scene) (w : Placing) (banks : Banks) (t : State) (v v2 : Value) (x : Effect) → IsPlacement g.code g.place
        → Ready g a (pushed + 2) needs c w banks t → ValueIs w 65536 v2 (ax_of t) → ValueIs w 65536 v (word_at t.mem (sp_of t)) → (compared_texts c.store v v2 >>= λ d. Ok (gives c (2 * d.read) (Whole d.difference))) ≡ Ok x → IsDone g a Strcmp pushed needs 2 c w banks t x
    both g a pushed needs c w banks t (Place b o) (Place d p) x placed r right left e =
        let h = bound (compared_texts c.store (Place b o) (Place d p)) (λ z. Ok (gives c (2 * z.read) (Whole z.difference))) x e in
        let one = bound (area c.store b o 0) (λ y. area c.store d p 0 >>= λ z. compared_in y.cells z.cells (min (y.holds - o) (z.holds - p)) o p) h.0 h.1 in
        let two = bound (area c.store d p 0) (λ z. compared_in one.0.cells z.cells (min (one.0.holds - o) (z.holds - p)) o p) h.0 one.2 in
        let is : gives c (2 * h.0.read) (Whole h.0.difference) ≡ x = is_given h.2 in
        subst (IsDone g a Strcmp pushed needs 2 c w banks t) is (compared_done g a pushed needs c w banks t placed r b o d p one.0 two.0 h.0 left right (area_is c.store b o 0 one.0 one.1) (area_is c.store d p 0 two.0 two.1) two.2)
    both g a pushed needs c w banks t (Place b o) (Whole z) x placed r right left e = refused e
    both g a pushed needs c w banks t (Place b o) Null x placed r right left e = refused e
    both g a pushed needs c w banks t (Place b o) Opaque x placed r right left e = refused e
    both g a pushed needs c w banks t (Place b o) (Cells xs) x placed r right left e = refused e
    both g a pushed needs c w banks t (Place b o) NoValue x placed r right left e = refused e
    both g a pushed needs c w banks t (Whole z) v2 x placed r right left e = refused e
    both g a pushed needs c w banks t Null v2 x placed r right left e = refused e
    both g a pushed needs c w banks t Opaque v2 x placed r right left e = refused e
    both g a pushed needs c w banks t (Cells xs) v2 x placed r right left e = refused e
    both g a pushed needs c w banks t NoValue v2 x placed r right left e = refused e

    done : EachIsDone Strcmp
    done g a pushed needs c w banks t [] rest x placed r passed e = refused e
    done g a pushed needs c w banks t (v ∷ []) rest x placed r passed e = refused e
    done g a pushed needs c w banks t (v ∷ v2 ∷ v3 ∷ more) rest x placed r passed e = refused e
    done g a pushed needs c w banks t (v ∷ v2 ∷ []) rest x placed r passed e = both g a pushed needs c w banks t v v2 x placed r passed.0 passed.1.0 e
