-- Texts of the meaning's store stand in memory.
use Rattle.std.proofs.Common.{◌≡◌, ℕ, zero, suc, ◌+◌, ◌-◌, ◌%◌, ◌<◌, ◌≤◌, ◌⊎◌, inl, inr, List, [], ◌∷◌, Bool, true, false, refl, sym, ap, ◌∙◌, subst, arith}
use Rattle.std.specs.Prelude.{Result, Ok, Err, Option, Some, None, length, IsTrue, bit_and, nat_le, if◌then◌else◌}
use Rattle.std.proofs.lemmas.Bool.{cases_eq}
use Rattle.std.proofs.lemmas.Nat.{and_mask}
use Rattle.c65_meaning.specs.declared.action.Action.TheVariants.{LibraryArgument, UnsetBit, EndedObject}
use Rattle.c65_meaning.specs.Why.{Why, By, ◌>>=◌}
use Rattle.c65_meaning.specs.Store.{Cell, Bits, Piece, Clouded, Block, Value, Whole, Null, Place, Opaque, Cells, NoValue, reached_or}
use Rattle.c65_meaning.specs.Library.{set_byte, before, text_in, text_at}
use Rattle.c65_meaning.specs.State.{Scene}
use Rattle.c65_code.specs.LineState.{Bytes, State}
use Rattle.c65_code.specs.Texts.{bytes_at, length_within, text_length}
use Rattle.c65_code.specs.Steady.{IsOpen}
use Rattle.c65_agree_store.specs.Stands.{Placing, Banks, CellIs, IsAt, At, ValueIs}
use Rattle.c65_agree_numbers.proofs.Tests.{equal, unequal}
use Rattle.c65_agree_state.specs.World.{World, Active}
use Rattle.c65_agree_state.specs.Joins.{Joins}

-- the bytes of a text, none of them zero, and a zero behind them
abbrev pub Spells : Bytes → ℕ → List ℕ → Type 0
Spells m at [] = m at ≡ 0
Spells m at (v ∷ vs) = (m at ≡ v) × (v ≡ 0 → ⊥) × Spells m (at + 1) vs

pub length_spelled : (fuel at : ℕ) (m : Bytes) (text : List ℕ) → Spells m at text → length text < fuel → length_within fuel at m ≡ length text
length_spelled zero at m text h lt = absurd (omega (arith, lt))
length_spelled (suc fuel) at m [] h lt = ap (λ (b : Bool). if b then 0 else suc (length_within fuel (at + 1) m)) (equal (m at) 0 h)
length_spelled (suc fuel) at m (v ∷ vs) h lt =
    ap (λ (b : Bool). if b then 0 else suc (length_within fuel (at + 1) m)) (unequal (m at) 0 (λ e. h.1 (sym h.0 ∙ e))) ∙ ap suc (length_spelled fuel (at + 1) m vs h.2 (omega (arith, lt)))

pub text_length_is : (at : ℕ) (m : Bytes) (text : List ℕ) → Spells m at text → length text < 65536 → text_length at m ≡ length text
unfolding text_length
text_length_is at m text h lt = length_spelled 65536 at m text h lt

pub bytes_spelled : (m : Bytes) (at : ℕ) (text : List ℕ) → Spells m at text → bytes_at (length text) at m ≡ text
bytes_spelled m at [] h = refl
bytes_spelled m at (v ∷ vs) h = ap (λ x. x ∷ bytes_at (length vs) (at + 1) m) h.0 ∙ ap (λ xs. v ∷ xs) (bytes_spelled m (at + 1) vs h.2)

-- ---- blocks

pub whole : (n : ℕ) → n < 256 → bit_and n 255 ≡ n
whole n lt = let h : bit_and n 255 ≡ n % 256 = and_mask n 8 in omega arith

-- a cell with all bits set is its byte
pub set_cell : (w : Placing) (x : Cell) (v byte : ℕ) → byte < 256 → set_byte x ≡ Ok v → CellIs w x byte → byte ≡ v
set_cell w (Piece i b o) v byte lt e h = cc
set_cell w Clouded v byte lt e h = cc
set_cell w (Bits known value) v byte lt e h = go (cases_eq known 255)
  where
    go : (known ≡ 255) ⊎ (known ≡ 255 → ⊥) → byte ≡ v
    go (inl same) =
        let f : Ok value ≡ Ok v = sym (ap (λ (b : Bool). if b then Ok value else Err (By UnsetBit)) (equal known 255 same)) ∙ e in
        let is : value ≡ v = cc in
        sym (whole byte lt) ∙ ap (bit_and byte) (sym same) ∙ h ∙ is
    go (inr other) =
        let f : Err (By UnsetBit) ≡ Ok v = sym (ap (λ (b : Bool). if b then Ok value else Err (By UnsetBit)) (unequal known 255 other)) ∙ e in
        cc

-- so many cells from an offset on have these bytes
pub text_stands : (w : Placing) (cells : ℕ → Cell) (m : Bytes) (from n o : ℕ) (text : List ℕ) → ((b : ℕ) → m b < 256)
    → ((i : ℕ) → i < n → CellIs w (cells (o + i)) (m (from + (o + i)))) → text_in cells n o ≡ Ok text → Spells m (from + o) text × (length text < n)
text_stands w cells m from zero o text small h e = cc
text_stands w cells m from (suc n) o text small h e = go (λ rest f. text_stands w cells m from n (suc o) rest small (λ i lt. on i (h (suc i) (omega (arith, lt)))) f) (set_byte (cells o)) refl e
  where
    on : (i : ℕ) → CellIs w (cells (o + suc i)) (m (from + (o + suc i))) → CellIs w (cells (suc o + i)) (m (from + (suc o + i)))
    on i there = let same : o + suc i ≡ suc o + i = omega arith in subst (λ j. CellIs w (cells j) (m (from + j))) same there

    here : CellIs w (cells o) (m (from + o))
    here = let same : o + 0 ≡ o = omega arith in subst (λ j. CellIs w (cells j) (m (from + j))) same (h 0 (omega arith))

    go : ((rest : List ℕ) → text_in cells n (suc o) ≡ Ok rest → Spells m (from + suc o) rest × (length rest < n)) → (r : Result ℕ Why) → set_byte (cells o) ≡ r → (r >>= λ v. before v (text_in cells n (suc o))) ≡ Ok text → Spells m (from + o) text × (length text < suc n)
    go deep (Err why) f g = cc
    go deep (Ok zero) f g =
        let nothing : [] ≡ text = cc in
        subst (λ xs. Spells m (from + o) xs × (length xs < suc n)) nothing (set_cell w (cells o) 0 (m (from + o)) (small (from + o)) f here, omega arith)
    go deep (Ok (suc v)) f g = more deep (text_in cells n (suc o)) refl g
      where
        more : ((rest : List ℕ) → text_in cells n (suc o) ≡ Ok rest → Spells m (from + suc o) rest × (length rest < n)) → (r : Result (List ℕ) Why) → text_in cells n (suc o) ≡ r → (r >>= λ rest. Ok (suc v ∷ rest)) ≡ Ok text → Spells m (from + o) text × (length text < suc n)
        more deep (Err why) k g = cc
        more deep (Ok rest) k g =
            let d = deep rest k in
            let is : suc v ∷ rest ≡ text = cc in
            let place : from + suc o ≡ from + o + 1 = omega arith in
            subst (λ xs. Spells m (from + o) xs × (length xs < suc n)) is ((set_cell w (cells o) (suc v) (m (from + o)) (small (from + o)) f here, (λ z. omega (arith, z)), subst (λ q. Spells m q rest) place d.0), omega (arith, d.1))

-- ---- a text that an argument points to

-- the text stands at the address, and its bytes and its zero are those of one block
pub record IsText (g : World) (a : Active) (t : State) (at : ℕ) (text : List ℕ) : Type 0 where
  pub spelled : Spells t.mem at text
  pub short : length text < 65536
  pub opened : (i : ℕ) → i < length text + 1 → IsOpen g.place a.base (at + i)

module _ (g : World) (a : Active) (c : Scene) (w : Placing) (k : Banks) (t : State) (j : Joins g a c w k t) where
  -- a byte that a block holds may be read
  pub is_open : (b : ℕ) (x : Block) (at i : ℕ) → IsAt c.store w b x (At at) → i < x.holds → IsOpen g.place a.base (at + i)
  is_open b x at i is lt = go (j.reached b x at i is lt)
    where
      go : IsTrue (g.place.is_data (at + i)) ⊎ (a.base ≤ at + i) → IsOpen g.place a.base (at + i)
      go (inl there) = inl there
      go (inr high) = inr (high, omega (arith, lt, j.stands.whole b x is.is, (j.stands.lies b x (At at) is).1))

  in_block : (b o at word : ℕ) (x : Block) (text : List ℕ) → w b ≡ Some (At at) → word ≡ at + o → c.store b ≡ Some x → x.live ≡ true → text_in x.cells (x.holds - o) o ≡ Ok text → IsText g a t word text
  in_block b o at word x text place is there live e =
      let here : IsAt c.store w b x (At at) = record { is = there; live = live; place = place } in
      let h = text_stands w x.cells t.mem at (x.holds - o) o text j.bytes.mem (λ i lt. j.stands.cells b x (At at) (o + i) here (omega (arith, lt))) e in
      record {
        spelled = subst (λ q. Spells t.mem q text) (sym is) h.0;
        short = omega (arith, h.1, j.stands.whole b x there, (j.stands.lies b x (At at) here).1);
        opened = λ i lt. let f : at + (o + i) ≡ word + i = omega (arith, is) in subst (IsOpen g.place a.base) f (is_open b x at (o + i) here (omega (arith, lt, h.1)));
      }

  pub text_is : (v : Value) (word : ℕ) (text : List ℕ) → ValueIs w 65536 v word → text_at c.store v ≡ Ok text → IsText g a t word text
  text_is (Whole z) word text is e = cc
  text_is Null word text is e = cc
  text_is Opaque word text is e = cc
  text_is (Cells xs) word text is e = cc
  text_is NoValue word text is e = cc
  text_is (Place b o) word text is e = of_block (c.store b) refl e
    where
      of_block : (x : Option Block) → c.store b ≡ x → (reached_or LibraryArgument x o 0 >>= λ y. text_in y.cells (y.holds - o) o) ≡ Ok text → IsText g a t word text
      of_block None there e = cc
      of_block (Some x) there e = go x.live refl (nat_le (o + 0) x.holds) e
        where
          go : (live : Bool) → x.live ≡ live → (fits : Bool) → ((if live then (if fits then Ok x else Err (By LibraryArgument)) else Err (By EndedObject)) >>= λ y. text_in y.cells (y.holds - o) o) ≡ Ok text → IsText g a t word text
          go true live true e = in_block b o is.0 word x text is.1 is.2 there live e
          go true live false e = cc
          go false live fits e = cc
