-- Bytes of an object of a block that are put one behind another, in scenes and in states.
use Rattle.std.proofs.Common.{◌≡◌, ℕ, suc, ◌+◌, ◌<◌, ◌≤◌, ◌⊎◌, inl, inr, Option, Some, None, Bool, true, false, refl, sym, ap, ◌∙◌, subst, arith}
use Rattle.std.specs.Prelude.{nat_le, ◌==◌, if◌then◌else◌, IsTrue, Result, Ok, Err}
use Rattle.std.proofs.lemmas.Bool.{cases_lt}
use Rattle.std.proofs.lemmas.Bool.Decides.{nat_tests}
use Rattle.c65_meaning.specs.declared.action.Action.TheVariants.{OutsideObject, EndedObject}
use Rattle.c65_meaning.specs.Why.{Why, By, ◌>>=◌}
use Rattle.c65_meaning.specs.Store.{Cell, Block, set_block, reached, writable, put_cell, carry}
use Rattle.c65_meaning.specs.State.{Scene}
use Rattle.c65_meaning.specs.Step.{stored}
use Rattle.c65_code.specs.LineState.{Bytes, write, State, sp_of, IsBytes}
use Rattle.c65_code.specs.Placement.{IsPlacement}
use Rattle.c65_code.specs.Steady.{IsOpen}
use Rattle.c65_agree_store.specs.Stands.{Spot, At, Banked, Placing, Banks, CellIs, IsAt, beyond, stored_at}
use Rattle.c65_agree_store.specs.Laws.{with_cells}
use Rattle.c65_agree_state.specs.World.{World, Active}
use Rattle.c65_agree_state.specs.Exprs.{Ready, Kept, bounds_of}
use Rattle.c65_agree_state.proofs.Nodes.{ready_stays}
use Rattle.c65_agree_state.proofs.Parts.{kept_goes_on}
use Rattle.c65_agree_put.specs.Puts.{OnlyStored, AreLaid, IsOwn, IsNoConstant, MayPut, with_put, banks_in}
use Rattle.c65_agree_put.proofs.Puts.{banks_follow, puts_are_kept}
use Rattle.c65_agree_rows.proofs.Quiet.{write_other, write_same}
use Rattle.c65_agree_part.proofs.Lines.{filled}

-- ---- one byte, in the meaning

-- a cell of a live block is put
pub record IsPut (c : Scene) (b p : ℕ) (cell : Cell) (c2 : Scene) : Type 0 where
  pub block : Block
  pub is : c.store b ≡ Some block
  pub live : block.live ≡ true
  pub fits : p + 1 ≤ block.holds
  pub scene : c2 ≡ with_put c b block p 1 (λ i. cell)

-- it is one of a live block
pub record IsCarried (c : Scene) (b o d p : ℕ) (c2 : Scene) : Type 0 where
  pub source : Block
  pub is : c.store b ≡ Some source
  pub live : source.live ≡ true
  pub fits : o + 1 ≤ source.holds
  pub put : IsPut c d p (source.cells o) c2

module _ (c : Scene) (b p : ℕ) (cell : Cell) (c2 : Scene) where
  abbrev put_in : Result Block Why → Result Scene Why
  put_in r = stored c ((r >>= writable true) >>= λ z. Ok (set_block c.store b (with_cells z p 1 (λ i. cell))))

  put_at : (x : Option Block) → c.store b ≡ x → put_in (reached x p 1) ≡ Ok c2 → IsPut c b p cell c2
  put_at None is e = cc
  put_at (Some x) is e = go x.live refl (nat_le (p + 1) x.holds) refl e
    where
      go : (live : Bool) → x.live ≡ live → (fits : Bool) → nat_le (p + 1) x.holds ≡ fits → put_in (if live then (if fits then Ok x else Err (By OutsideObject)) else Err (By EndedObject)) ≡ Ok c2 → IsPut c b p cell c2
      go true live true fits h = record { block = x; is = is; live = live; fits = grind (arith, nat_tests); scene = cc }
      go true live false fits h = cc
      go false live fits _ h = cc

  pub cell_is_put : stored c (put_cell true c.store b p cell) ≡ Ok c2 → IsPut c b p cell c2
  cell_is_put e = put_at (c.store b) refl e

module _ (c : Scene) (b o d p : ℕ) (c2 : Scene) where
  abbrev carry_in : Result Block Why → Result Scene Why
  carry_in r = stored c (r >>= λ x. put_cell true c.store d p (x.cells o))

  read_at : (x : Option Block) → c.store b ≡ x → carry_in (reached x o 1) ≡ Ok c2 → IsCarried c b o d p c2
  read_at None is e = cc
  read_at (Some x) is e = go x.live refl (nat_le (o + 1) x.holds) refl e
    where
      go : (live : Bool) → x.live ≡ live → (fits : Bool) → nat_le (o + 1) x.holds ≡ fits → carry_in (if live then (if fits then Ok x else Err (By OutsideObject)) else Err (By EndedObject)) ≡ Ok c2 → IsCarried c b o d p c2
      go true live true fits h = record { source = x; is = is; live = live; fits = grind (arith, nat_tests); put = cell_is_put c d p (x.cells o) c2 h }
      go true live false fits h = cc
      go false live fits _ h = cc

  pub cell_is_carried : stored c (carry true c.store b o d p) ≡ Ok c2 → IsCarried c b o d p c2
  cell_is_carried e = read_at (c.store b) refl e

-- ---- one byte, in a state

-- so many bytes are stored from a place on
abbrev pub with_bytes : State → Spot → (Bytes → ℕ → ℕ) → ℕ → State
with_bytes t (At at) what count = record t { mem = filled t.mem at what count }
with_bytes t (Banked d i) what count = record t { zp = filled t.zp (20 + i) what count }

-- the next one
abbrev pub next_byte : State → Spot → (Bytes → ℕ → ℕ) → ℕ → ℕ
next_byte t (At at) what count = what (filled t.mem at what count) count
next_byte t (Banked d i) what count = what (filled t.zp (20 + i) what count) count

write_bytes : (m : Bytes) (at v : ℕ) → ((b : ℕ) → m b < 256) → v < 256 → (b : ℕ) → write m at v b < 256
write_bytes m at v bytes small b = go (b == at)
  where
    go : (here : Bool) → (if here then v else m b) < 256
    go true = small
    go false = bytes b

module _ (a : Active) (t : State) (what : Bytes → ℕ → ℕ) (o done : ℕ) where
  one_more : (q : Spot) → next_byte t (beyond q o) what done < 256 → IsBytes (with_bytes t (beyond q o) what done) → IsBytes (with_bytes t (beyond q o) what (suc done))
  one_more (At at) small h = record { a = h.a; x = h.x; y = h.y; zp = h.zp; mem = write_bytes (filled t.mem (at + o) what done) (at + o + done) (next_byte t (At (at + o)) what done) h.mem small; pushed = h.pushed; frames = h.frames }
  one_more (Banked d i) small h = record { a = h.a; x = h.x; y = h.y; zp = write_bytes (filled t.zp (20 + (i + o)) what done) (20 + (i + o) + done) (next_byte t (Banked d (i + o)) what done) h.zp small; mem = h.mem; pushed = h.pushed; frames = h.frames }

  stays_at : (q : Spot) → sp_of (with_bytes t (beyond q o) what (suc done)) ≡ sp_of (with_bytes t (beyond q o) what done)
  stays_at (At at) = refl
  stays_at (Banked d i) =
      let m = filled t.zp (20 + (i + o)) what done in
      let v = next_byte t (Banked d (i + o)) what done in
      let low = write_other m (20 + (i + o) + done) v 0 (λ e. omega (arith, e)) in
      let high = write_other m (20 + (i + o) + done) v 1 (λ e. omega (arith, e)) in
      omega (arith, low, high)

  only_one : (q : Spot) → IsOwn a q (o + done) 1 → IsBytes (with_bytes t (beyond q o) what (suc done)) → OnlyStored a (sp_of (with_bytes t (beyond q o) what done)) q (o + done) 1 (with_bytes t (beyond q o) what done) (with_bytes t (beyond q o) what (suc done))
  only_one (At at) own bytes = record {
    mem = λ b side beside. write_other (filled t.mem (at + o) what done) (at + o + done) (next_byte t (At (at + o)) what done) b (λ e. beside 0 (omega arith) (ap At (omega (arith, e))));
    bank = λ i lt beside. refl;
    pushed = refl;
    frames = refl;
    input = refl;
    output = refl;
    ended = refl;
    bytes = bytes;
  }
  only_one (Banked d i) own bytes = record {
    mem = λ b side beside. refl;
    bank = λ j lt beside. sym (write_other (filled t.zp (20 + (i + o)) what done) (20 + (i + o) + done) (next_byte t (Banked d (i + o)) what done) (20 + j) (λ e. beside 0 (omega arith) (ap (Banked d) (omega (arith, e)) ∙ ap (λ y. Banked y j) own.0)));
    pushed = refl;
    frames = refl;
    input = refl;
    output = refl;
    ended = refl;
    bytes = bytes;
  }

  laid_there : (q : Spot) (j : ℕ) → j < 1 → stored_at (with_bytes t (beyond q o) what (suc done)) q (o + done + j) ≡ next_byte t (beyond q o) what done
  laid_there (At at) j lt =
      let e : at + (o + done + j) ≡ at + o + done = omega (arith, lt) in
      ap (filled t.mem (at + o) what (suc done)) e ∙ write_same (filled t.mem (at + o) what done) (at + o + done) (next_byte t (At (at + o)) what done)
  laid_there (Banked d i) j lt =
      let e : 20 + (i + (o + done + j)) ≡ 20 + (i + o) + done = omega (arith, lt) in
      ap (filled t.zp (20 + (i + o)) what (suc done)) e ∙ write_same (filled t.zp (20 + (i + o)) what done) (20 + (i + o) + done) (next_byte t (Banked d (i + o)) what done)

-- ---- all bytes

-- no live block has a number that is still to come, and bounds stay
pub record WasLive (s : Option Block) (bytes : ℕ) : Type 0 where
  pub block : Block
  pub is : s ≡ Some block
  pub live : block.live ≡ true
  pub size : block.size ≡ bytes

abbrev size_of_bounds : Option (ℕ × Bool) → ℕ
size_of_bounds None = 0
size_of_bounds (Some b) = b.0

abbrev life_of_bounds : Option (ℕ × Bool) → Bool
life_of_bounds None = false
life_of_bounds (Some b) = b.1

pub was_live : (s : Option Block) (bytes : ℕ) → bounds_of s ≡ Some (bytes, true) → WasLive s bytes
was_live None bytes e = cc
was_live (Some x) bytes e = record { block = x; is = refl; live = ap life_of_bounds e; size = ap size_of_bounds e }

-- a live block stands there, with so many bytes
pub record IsRoomy (c : Scene) (w : Placing) (b : ℕ) (q : Spot) (count : ℕ) : Type 0 where
  pub block : Block
  pub at : IsAt c.store w b block q
  pub fits : count ≤ block.size

module _ (g : World) (a : Active) (needs : ℕ) (c : Scene) (w : Placing) (k : Banks) (t : State) (placed : IsPlacement g.code g.place) (r : Ready g a 0 needs c w k t) (b : ℕ) (q : Spot) (place_is : w b ≡ Some q) (o : ℕ) (what : Bytes → ℕ → ℕ) where
  -- the state in which so many bytes are stored belongs to the scene
  pub record IsReached (done : ℕ) (d : Scene) : Type 0 where
    pub banks : Banks
    pub kept : Kept g a c w k t d w banks (with_bytes t (beyond q o) what done)
    pub out : d.out ≡ c.out
    pub turns : d.turns ≡ c.turns
    pub opens : (at : ℕ) → q ≡ At at → (i : ℕ) → i < done → IsOpen g.place (sp_of t) (at + o + i)
    pub varying : (at : ℕ) → q ≡ At at → (i : ℕ) → i < done → g.place.constant (at + o + i) ≡ None
    pub block : 0 < done → IsRoomy c w b q (o + done)

  pub ready_at : (done : ℕ) (d : Scene) (h : IsReached done d) → Ready g a 0 needs d w h.banks (with_bytes t (beyond q o) what done)
  ready_at done d h = ready_stays g a 0 needs needs c d w w k h.banks t (with_bytes t (beyond q o) what done) (omega arith) r h.kept

  old_number : b < c.next
  old_number = go (cases_lt b c.next)
    where
      go : (b < c.next) ⊎ (c.next ≤ b) → b < c.next
      go (inl lt) = lt
      go (inr le) = let none = r.joins.fresh b le in cc

  -- the block was there before
  pub was_there : (done : ℕ) (d : Scene) → IsReached done d → (x : Block) → d.store b ≡ Some x → x.live ≡ true → WasLive (c.store b) x.size
  was_there done d h x is live =
      let same : bounds_of (c.store b) ≡ Some (x.size, true) = sym (h.kept.bounds b old_number) ∙ ap bounds_of is ∙ ap (λ y. Some (x.size, y)) live in
      was_live (c.store b) x.size same

  -- one byte more
  pub reached_on : (done : ℕ) (d d2 : Scene) (cell : Cell) → IsReached done d → IsPut d b (o + done) cell d2 → CellIs w cell (next_byte t (beyond q o) what done) → next_byte t (beyond q o) what done < 256 → IsOwn a q (o + done) 1 → IsNoConstant g q (o + done) 1 → IsReached (suc done) d2
  reached_on done d d2 cell h put stands small own varying = subst (IsReached (suc done)) (sym put.scene) (record {
    banks = banks;
    kept = kept_goes_on g a c d later w w w k h.banks banks t before after h.kept (puts_are_kept g a 0 needs d w h.banks banks before after b put.block q (o + done) 1 (λ i. cell) placed now may only laid ((banks_follow a h.banks before after (o + done) 1).0) (stays_at a t what o done q));
    out = h.out;
    turns = h.turns;
    opens = λ at same i lt. opened at same i (cases_lt i done) lt;
    varying = λ at same i lt. free at same i (cases_lt i done) lt;
    block = λ some. roomy;
  })
    where
      before : State
      before = with_bytes t (beyond q o) what done

      after : State
      after = with_bytes t (beyond q o) what (suc done)

      later : Scene
      later = with_put d b put.block (o + done) 1 (λ i. cell)

      banks : Banks
      banks = banks_in a after h.banks

      now : Ready g a 0 needs d w h.banks before
      now = ready_at done d h

      at_block : IsAt d.store w b put.block q
      at_block = record { is = put.is; live = put.live; place = place_is }

      may : MayPut g a d w b put.block q (o + done) 1
      may = record { block = at_block; fits = put.fits; own = own; writable = inr varying }

      bytes : IsBytes after
      bytes = one_more a t what o done q small now.joins.bytes

      only : OnlyStored a (sp_of before) q (o + done) 1 before after
      only = only_one a t what o done q own bytes

      laid : AreLaid w q (o + done) 1 (λ i. cell) after
      laid i lt = subst (λ v. CellIs w cell v) (sym (laid_there a t what o done q i lt)) stands

      roomy : IsRoomy c w b q (o + suc done)
      roomy =
          let x = was_there done d h put.block put.is put.live in
          let size = x.size in
          record { block = x.block; at = record { is = x.is; live = x.live; place = place_is }; fits = omega (arith, size, put.fits, now.joins.stands.whole b put.block put.is) }

      opened : (at : ℕ) → q ≡ At at → (i : ℕ) → (i < done) ⊎ (done ≤ i) → i < suc done → IsOpen g.place (sp_of t) (at + o + i)
      opened at same i (inl less) lt = h.opens at same i less
      opened at same i (inr least) lt = go (now.joins.reached b put.block at (o + done) here (omega (arith, put.fits)))
        where
          here : IsAt d.store w b put.block (At at)
          here = subst (λ z. IsAt d.store w b put.block z) same at_block

          e : at + (o + done) ≡ at + o + i
          e = omega (arith, lt, least)

          go : IsTrue (g.place.is_data (at + (o + done))) ⊎ (a.base ≤ at + (o + done)) → IsOpen g.place (sp_of t) (at + o + i)
          go (inl there) = inl (subst (λ l. IsTrue (g.place.is_data l)) e there)
          go (inr high) = inr (omega (arith, high, e, r.sp), omega (arith, e, put.fits, now.joins.stands.whole b put.block put.is, (now.joins.stands.lies b put.block (At at) here).1))

      free : (at : ℕ) → q ≡ At at → (i : ℕ) → (i < done) ⊎ (done ≤ i) → i < suc done → g.place.constant (at + o + i) ≡ None
      free at same i (inl less) lt = h.varying at same i less
      free at same i (inr least) lt =
          let e : at + (o + done + 0) ≡ at + o + i = omega (arith, lt, least) in
          subst (λ l. g.place.constant l ≡ None) e (varying at 0 same (omega arith))

  -- none so far
  pub reached_first : IsReached 0 c
  reached_first = record {
    banks = k;
    kept = subst (λ u. Kept g a c w k t c w k u) (sym (none q)) (record { joins = r.joins; sp = refl; frames = refl; next = omega arith; bounds = λ d lt. refl; grows = λ d p e. e; kept = λ n le f. (refl, f); banks = λ d i lt. refl; own_bank = λ i le. refl; none_pushed = r.none_pushed });
    out = refl;
    turns = refl;
    opens = λ at same i lt. absurd (omega (arith, lt));
    varying = λ at same i lt. absurd (omega (arith, lt));
    block = λ some. absurd (omega (arith, some));
  }
    where
      none : (q : Spot) → with_bytes t (beyond q o) what 0 ≡ t
      none (At at) = refl
      none (Banked d i) = refl
