-- What is read at a place.
use Rattle.std.proofs.Common.{◌≡◌, ℕ, zero, suc, ◌+◌, ◌*◌, ◌<◌, ◌≤◌, ◌⊎◌, inl, inr, Bool, true, false, refl, sym, ap, ◌∙◌, subst, arith}
use Rattle.std.specs.Prelude.{nat_le, if◌then◌else◌, IsTrue, Result, Ok, Err, length}
use Rattle.std.proofs.lemmas.Bool.Decides.{nat_tests}
use Rattle.c65_meaning.specs.Why.{Why, By, ◌>>=◌}
use Rattle.c65_meaning.specs.declared.action.Action.TheVariants.{OutsideObject}
use Rattle.c65_meaning.specs.Store.{Cell, Bits, Piece, Clouded, Block, Value, Whole, Null, Place, Opaque, Cells, NoValue, Shape, Number, Pointer, size_in, Gathered, Lacking, Hidden, Found, gather, gathered, as_pointer, read_pair, read_cells, read}
use Rattle.c65_meaning.specs.State.{Scene}
use Rattle.c65_code.specs.LineState.{State, sp_of}
use Rattle.c65_code.specs.Steady.{IsOpen}
use Rattle.c65_agree_store.specs.Stands.{Spot, At, Banked, Placing, Banks, CellIs, ValueIs, IsAt, LiesIn, stored_at}
use Rattle.c65_agree_store.specs.Laws.{number_in}
use Rattle.c65_agree_store.proofs.Read.{numbers_are_read, places_are_read}
use Rattle.c65_agree_state.specs.World.{World, Active}
use Rattle.c65_agree_state.specs.Joins.{Joins}
use Rattle.c65_agree_numbers.proofs.Bytes.{numbers_are_loaded}
use Rattle.c65_agree_places.specs.Places.{IsReached}
use Rattle.c65_agree_places.specs.Laws.{HeldBytesAreOpen, NumbersAreThere, PointersAreThere}

pub held_bytes_are_open : HeldBytesAreOpen
held_bytes_are_open g a pushed needs c w k t b at o x r is lt = go (r.joins.reached b x at o is lt)
  where
    go : IsTrue (g.place.is_data (at + o)) ⊎ (a.base ≤ at + o) → IsOpen g.place (sp_of t) (at + o)
    go (inl d) = inl d
    go (inr le) = inr (omega (arith, le, r.sp), omega (arith, lt, (r.joins.stands.lies b x (At at) is).1, r.joins.stands.whole b x is.is))

module _ (g : World) (a : Active) (c : Scene) (w : Placing) (k : Banks) (t : State) (b o : ℕ) (x : Block) (q : Spot) (j : Joins g a c w k t) (is : IsAt c.store w b x q) where
  -- a byte that is held is the machine's
  held : (r : Spot) → q ≡ r → IsReached a q → (p : ℕ) → p < x.holds → CellIs w (x.cells p) (stored_at t q p)
  held (At at) e reached p lt = subst (λ s. CellIs w (x.cells p) (stored_at t s p)) (sym e) (j.stands.cells b x (At at) p (subst (λ s. IsAt c.store w b x s) e is) lt)
  held (Banked d i) e reached p lt =
      let there : IsAt c.store w b x (Banked d i) = subst (λ s. IsAt c.store w b x s) e is in
      let own : d ≡ length a.behind = subst (λ s. IsReached a s) e reached in
      let lies : LiesIn (Banked d i) x.size = j.stands.lies b x (Banked d i) there in
      let small : i + p < 6 = omega (arith, lies, lt, j.stands.whole b x there.is) in
      let byte : k d (i + p) ≡ t.zp (20 + (i + p)) = ap (λ n. k n (i + p)) own ∙ j.bank (i + p) small in
      subst (λ s. CellIs w (x.cells p) (stored_at t s p)) (sym e) (subst (λ v. CellIs w (x.cells p) v) byte (j.stands.cells b x (Banked d i) p there lt))

  stored_byte : (r : Spot) (p : ℕ) → stored_at t r p < 256
  stored_byte (At at) p = j.bytes.mem (at + p)
  stored_byte (Banked d i) p = j.bytes.zp (20 + (i + p))

  -- what was read lies in the block
  record IsInside (f : Shape) (v : Value) : Type 0 where
    fits : o + size_in f ≤ x.holds
    cells : read_cells f x.cells o ≡ Ok v

  abbrev read_if : Shape → Bool → Result Value Why
  read_if f fits = (if fits then Ok x else Err (By OutsideObject)) >>= λ y. read_cells f y.cells o

  read_as : (f : Shape) → read f c.store b o ≡ read_if f (nat_le (o + size_in f) x.holds)
  read_as f = rw (is.is, is.live) refl

  inside : (f : Shape) (v : Value) → read f c.store b o ≡ Ok v → IsInside f v
  inside f v e = go (nat_le (o + size_in f) x.holds) refl
    where
      go : (fits : Bool) → nat_le (o + size_in f) x.holds ≡ fits → IsInside f v
      go true h = record { fits = grind (arith, nat_tests); cells = sym (ap (read_if f) h) ∙ (sym (read_as f) ∙ e) }
      go false h =
          let clash : read_if f false ≡ Ok v = sym (ap (read_if f) h) ∙ (sym (read_as f) ∙ e) in
          absurd (refused clash)
        where
          refused : read_if f false ≡ Ok v → ⊥
          refused e = cc

pub numbers_are_there : NumbersAreThere
numbers_are_there g a c w k t b o x q kind z j is reached e =
    let i = inside g a c w k t b o x q j is (Number kind) (Whole z) e in
    (i.fits, numbers_are_loaded w kind x.cells (stored_at t q) o z (stored_byte g a c w k t b o x q j is q) (λ p lo hi. held g a c w k t b o x q j is q refl reached p (omega (arith, hi, i.fits))) i.cells)

-- ---- pointers

pointed : (w : Placing) (g : Gathered) (n : ℕ) (v : Value) → ((m : ℕ) → g ≡ Found m → n ≡ m) → as_pointer g ≡ Ok v → ValueIs w 65536 v n
pointed w Lacking n v h e = cc
pointed w Hidden n v h e = let f : Opaque ≡ v = cc in subst (λ y. ValueIs w 65536 y n) f tt
pointed w (Found zero) n v h e = let f : Null ≡ v = cc in subst (λ y. ValueIs w 65536 y n) f (h 0 refl)
pointed w (Found (suc m)) n v h e = let f : Opaque ≡ v = cc in subst (λ y. ValueIs w 65536 y n) f tt

-- two cells that are no two pieces: a number, or a pointer that may not be used
gathered_is : (w : Placing) (cells : ℕ → Cell) (f : ℕ → ℕ) (o : ℕ) (v : Value) → ((p : ℕ) → f p < 256) → ((p : ℕ) → o ≤ p → p < o + 2 → CellIs w (cells p) (f p)) → (x y : Cell) → cells o ≡ x → cells (suc o) ≡ y → as_pointer (gather x (gather y (Found 0))) ≡ Ok v → ValueIs w 65536 v (number_in f 2 o)
gathered_is w cells f o v bytes is x y ex ey e =
    let same : gathered 2 cells o ≡ gather x (gather y (Found 0)) = ap (λ z. gather z (gather (cells (suc o)) (Found 0))) ex ∙ ap (λ z. gather x (gather z (Found 0))) ey in
    pointed w (gathered 2 cells o) (number_in f 2 o) v (λ m h. numbers_are_read w cells f 2 o m bytes is h) (ap as_pointer same ∙ e)

pair_is : (w : Placing) (cells : ℕ → Cell) (f : ℕ → ℕ) (o : ℕ) (v : Value) → ((p : ℕ) → f p < 256) → ((p : ℕ) → o ≤ p → p < o + 2 → CellIs w (cells p) (f p)) → (x y : Cell) → cells o ≡ x → cells (suc o) ≡ y → read_pair x y ≡ Ok v → ValueIs w 65536 v (number_in f 2 o)
pair_is w cells f o v bytes is (Piece i c p) (Piece j d r) ex ey e = of_two v e
  where
    low : CellIs w (Piece i c p) (f o)
    low = subst (λ z. CellIs w z (f o)) ex (is o (omega arith) (omega arith))

    high : CellIs w (Piece j d r) (f (suc o))
    high = subst (λ z. CellIs w z (f (suc o))) ey (is (suc o) (omega arith) (omega arith))

    of_two : (v : Value) → read_pair (Piece i c p) (Piece j d r) ≡ Ok v → ValueIs w 65536 v (number_in f 2 o)
    of_two (Place b n) e2 =
        let h : ValueIs w 65536 (Place b n) (f o + 256 * f (suc o)) = places_are_read w (Piece i c p) (Piece j d r) (f o) (f (suc o)) b n low high e2 in
        let same : f o + 256 * f (suc o) ≡ number_in f 2 o = omega arith in
        subst (λ m. ValueIs w 65536 (Place b n) m) same h
    of_two Opaque e2 = tt
    of_two NoValue e2 = tt
    of_two Null e2 = absurd (no_null e2)
      where
        no_null : read_pair (Piece i c p) (Piece j d r) ≡ Ok Null → ⊥
        no_null h = grind arith
    of_two (Whole z) e2 = absurd (no_whole e2)
      where
        no_whole : read_pair (Piece i c p) (Piece j d r) ≡ Ok (Whole z) → ⊥
        no_whole h = grind arith
    of_two (Cells xs) e2 = absurd (no_cells e2)
      where
        no_cells : read_pair (Piece i c p) (Piece j d r) ≡ Ok (Cells xs) → ⊥
        no_cells h = grind arith
pair_is w cells f o v bytes is (Piece i c p) (Bits m n) ex ey e = gathered_is w cells f o v bytes is (Piece i c p) (Bits m n) ex ey e
pair_is w cells f o v bytes is (Piece i c p) Clouded ex ey e = gathered_is w cells f o v bytes is (Piece i c p) Clouded ex ey e
pair_is w cells f o v bytes is (Bits m n) y ex ey e = gathered_is w cells f o v bytes is (Bits m n) y ex ey e
pair_is w cells f o v bytes is Clouded y ex ey e = gathered_is w cells f o v bytes is Clouded y ex ey e

pub pointers_are_there : PointersAreThere
pointers_are_there g a c w k t b o size x q v j is reached e =
    let i = inside g a c w k t b o x q j is (Pointer size) v e in
    (i.fits, pair_is w x.cells (stored_at t q) o v (stored_byte g a c w k t b o x q j is q) (λ p lo hi. held g a c w k t b o x q j is q refl reached p (omega (arith, hi, i.fits))) (x.cells o) (x.cells (suc o)) refl refl i.cells)
