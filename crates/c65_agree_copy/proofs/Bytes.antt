-- One byte of a copy after another: scenes, and states that memory alone tells apart.
use Rattle.std.proofs.Common.{◌≡◌, ℕ, zero, suc, ◌+◌, ◌<◌, ◌≤◌, ◌⊎◌, inl, inr, Bool, true, false, refl, sym, ap, ◌∙◌, subst, arith}
use Rattle.std.specs.Prelude.{nat_le, if◌then◌else◌, Result, Ok, Err, Option, Some, None, All, IsTrue, ◌==◌, ◌&&◌}
use Rattle.std.proofs.lemmas.Bool.Decides.{nat_tests}
use Rattle.std.proofs.lemmas.List.Elements.{All-nil, All-cons}
use Rattle.c65_meaning.specs.declared.action.Action.TheVariants.{OutsideObject, ReadOnly, EndedObject, PartialOverlap}
use Rattle.c65_meaning.specs.Why.{Why, By, ◌>>=◌}
use Rattle.c65_meaning.specs.Store.{Cell, Block, Store, Place, set_block, reached, reached_to_write, put_cell, carry}
use Rattle.c65_meaning.specs.State.{Scene}
use Rattle.c65_meaning.specs.Step.{stored, carried, carried_byte, partly_overlap}
use Rattle.c65_code.specs.LineState.{Bytes, write, State, IsBytes}
use Rattle.c65_code.specs.Placement.{IsPlacement}
use Rattle.c65_code.specs.Texts.{copied, range_of}
use Rattle.c65_code.specs.Rows.{written}
use Rattle.c65_code.specs.Steady.{IsOpen}
use Rattle.c65_agree_store.specs.Stands.{At, Placing, Banks, CellIs, IsAt, IsFree}
use Rattle.c65_agree_store.specs.Laws.{with_cells}
use Rattle.c65_agree_state.specs.World.{World, Active}
use Rattle.c65_agree_state.specs.Joins.{Joins}
use Rattle.c65_agree_state.specs.Exprs.{bounds_of}
use Rattle.c65_agree_rows.proofs.Quiet.{write_other, write_same}
use Rattle.c65_agree_put.specs.Puts.{OnlyStored, AreLaid, MayPut, with_put, AreBanks}
use Rattle.c65_agree_put.proofs.Puts.{puts_join, free_stays, bounds_stay}
use Rattle.c65_agree_copy.specs.Copies.{carried_on}

-- ---- what a step of the meaning does

-- one cell is read from a live block and put into a live block that may be written
pub record IsCarried (c : Scene) (b o d p : ℕ) (c2 : Scene) : Type 0 where
  pub source : Block
  pub source_is : c.store b ≡ Some source
  pub source_live : source.live ≡ true
  pub source_fits : o + 1 ≤ source.holds
  pub block : Block
  pub is : c.store d ≡ Some block
  pub live : block.live ≡ true
  pub fits : p + 1 ≤ block.holds
  pub unsealed : block.sealed ≡ false
  pub scene : c2 ≡ with_put c d block p 1 (λ i. source.cells o)

module _ (c : Scene) (b o d p : ℕ) (c2 : Scene) where
  abbrev in_scene : Result Store Why → Result Scene Why
  in_scene s = stored c s

  abbrev put_if : Cell → Result Block Why → Result Store Why
  put_if cell r = r >>= λ x. Ok (set_block c.store d (with_cells x p 1 (λ i. cell)))

  module _ (x : Block) (is_x : c.store b ≡ Some x) (live_x : x.live ≡ true) (fits_x : o + 1 ≤ x.holds) where
    put_in : (y : Block) → c.store d ≡ Some y → (live : Bool) → y.live ≡ live → (fits : Bool) → nat_le (p + 1) y.holds ≡ fits → (shut : Bool) → y.sealed ≡ shut
        → in_scene (put_if (x.cells o) ((if live then (if fits then Ok y else Err (By OutsideObject)) else Err (By EndedObject)) >>= λ z. if shut then Err (By ReadOnly) else Ok z)) ≡ Ok c2 → IsCarried c b o d p c2
    put_in y is true live true fits false shut e = record { source = x; source_is = is_x; source_live = live_x; source_fits = fits_x; block = y; is = is; live = live; fits = grind (arith, nat_tests); unsealed = shut; scene = cc }
    put_in y is true live true fits true shut e = cc
    put_in y is true live false fits shut _ e = cc
    put_in y is false live fits _ shut _ e = cc

    put_at : (y : Option Block) → c.store d ≡ y → in_scene (put_if (x.cells o) (reached_to_write false y p 1)) ≡ Ok c2 → IsCarried c b o d p c2
    put_at None is e = cc
    put_at (Some y) is e = go y.live refl (nat_le (p + 1) y.holds) refl e
      where
        go : (live : Bool) → y.live ≡ live → (fits : Bool) → nat_le (p + 1) y.holds ≡ fits
            → in_scene (put_if (x.cells o) ((if live then (if fits then Ok y else Err (By OutsideObject)) else Err (By EndedObject)) >>= λ z. if z.sealed then Err (By ReadOnly) else Ok z)) ≡ Ok c2 → IsCarried c b o d p c2
        go true live true fits e = put_in y is true live true fits y.sealed refl e
        go true live false fits e = cc
        go false live fits _ e = cc

  read_in : (x : Block) → c.store b ≡ Some x → (live : Bool) → x.live ≡ live → (fits : Bool) → nat_le (o + 1) x.holds ≡ fits
      → in_scene ((if live then (if fits then Ok x else Err (By OutsideObject)) else Err (By EndedObject)) >>= λ z. put_cell false c.store d p (z.cells o)) ≡ Ok c2 → IsCarried c b o d p c2
  read_in x is true live true fits e = put_at x is live (grind (arith, nat_tests)) (c.store d) refl e
  read_in x is true live false fits e = cc
  read_in x is false live fits _ e = cc

  read_at : (x : Option Block) → c.store b ≡ x → in_scene (reached x o 1 >>= λ z. put_cell false c.store d p (z.cells o)) ≡ Ok c2 → IsCarried c b o d p c2
  read_at None is e = cc
  read_at (Some x) is e = read_in x is x.live refl (nat_le (o + 1) x.holds) refl e

  pub is_carried : stored c (carry false c.store b o d p) ≡ Ok c2 → IsCarried c b o d p c2
  is_carried e = read_at (c.store b) refl e

-- whether areas overlap in part is asked at the first byte
pub byte_is_carried : (size b o d p done : ℕ) (c c2 : Scene) → carried_byte false done size c (Place b o) (Place d p) ≡ Ok c2 → IsCarried c b (o + done) d (p + done) c2
byte_is_carried size b o d p done c c2 e = go (done == 0 && partly_overlap size (Place b o) (Place d p)) e
  where
    go : (overlap : Bool) → (if overlap then Err (By PartialOverlap) else carried false done c (Place b o) (Place d p)) ≡ Ok c2 → IsCarried c b (o + done) d (p + done) c2
    go true e = cc
    go false e = is_carried c b (o + done) d (p + done) c2 e

-- ---- states

-- memory alone is other
abbrev pub with_memory : State → Bytes → State
with_memory t m = record t { mem = m }

-- what a byte of a copy keeps of the scene
pub record GoesOn (c : Scene) (w : Placing) (m : Bytes) (c2 : Scene) (m2 : Bytes) : Type 0 where
  pub frames : c2.frames ≡ c.frames
  pub next : c2.next ≡ c.next
  pub turns : c2.turns ≡ c.turns
  pub out : c2.out ≡ c.out
  pub bounds : (b : ℕ) → bounds_of (c2.store b) ≡ bounds_of (c.store b)
  pub kept : (n : ℕ) → IsFree c.store w (At n) → (m2 n ≡ m n) × IsFree c2.store w (At n)

module _ (g : World) (a : Active) (placed : IsPlacement g.code g.place) (w : Placing) (k : Banks) (t : State) (b d from to : ℕ) (from_is : w b ≡ Some (At from)) (to_is : w d ≡ Some (At to)) where
  -- one byte more
  module _ (c c2 : Scene) (m : Bytes) (o p : ℕ) (j : Joins g a c w k (with_memory t m)) (s : IsCarried c b o d p c2) where
    abbrev later : Bytes
    later = write m (to + p) (m (from + o))

    source_at : IsAt c.store w b s.source (At from)
    source_at = record { is = s.source_is; live = s.source_live; place = from_is }

    block_at : IsAt c.store w d s.block (At to)
    block_at = record { is = s.is; live = s.live; place = to_is }

    may_put : MayPut g a c w d s.block (At to) p 1
    may_put = record { block = block_at; fits = s.fits; own = tt; writable = inl s.unsealed }

    bytes_stay : IsBytes (with_memory t later)
    bytes_stay = record { a = j.bytes.a; x = j.bytes.x; y = j.bytes.y; zp = j.bytes.zp; mem = mem; pushed = j.bytes.pushed; frames = j.bytes.frames }
      where
        mem : (n : ℕ) → later n < 256
        mem n = go (n == to + p)
          where
            go : (same : Bool) → (if same then m (from + o) else m n) < 256
            go true = j.bytes.mem (from + o)
            go false = j.bytes.mem n

    only : OnlyStored a a.base (At to) p 1 (with_memory t m) (with_memory t later)
    only = record { mem = λ n side beside. write_other m (to + p) (m (from + o)) n (λ e. beside 0 (omega arith) (ap At (omega (arith, e)))); bank = λ i lt beside. refl; pushed = refl; frames = refl; input = refl; output = refl; ended = refl; bytes = bytes_stay }

    laid : AreLaid w (At to) p 1 (λ i. s.source.cells o) (with_memory t later)
    laid i lt =
        let here : to + (p + i) ≡ to + p = omega (arith, lt) in
        subst (λ v. CellIs w (s.source.cells o) v) (sym (ap later here ∙ write_same m (to + p) (m (from + o)))) (j.stands.cells b s.source (At from) o source_at (omega (arith, s.source_fits)))

    byte_joins : Joins g a c2 w k (with_memory t later)
    byte_joins =
        let banks : AreBanks a k (with_memory t later) k = record { now = j.bank; others = λ e i ne. refl; past = λ i le. refl } in
        subst (λ e. Joins g a e w k (with_memory t later)) (sym s.scene) (puts_join g a c w k k (with_memory t m) (with_memory t later) d s.block (At to) p 1 (λ i. s.source.cells o) placed j may_put only laid banks)

    byte_goes_on : GoesOn c w m c2 later
    byte_goes_on = subst (λ e. GoesOn c w m e later) (sym s.scene) (record {
      frames = refl;
      next = refl;
      turns = refl;
      out = refl;
      bounds = bounds_stay c w d s.block (At to) p 1 (λ i. s.source.cells o) block_at;
      kept = λ n f. (write_other m (to + p) (m (from + o)) n (λ e. f d s.block (At to) p block_at (omega (arith, s.fits, j.stands.whole d s.block s.is)) (ap At (sym e))), free_stays c w d s.block (At to) p 1 (λ i. s.source.cells o) block_at (At n) f);
    })

    -- both bytes may be reached, with every bound up to the base
    reaches : (bound : ℕ) → bound ≤ a.base → IsOpen g.place bound (from + o) × IsOpen g.place bound (to + p)
    reaches bound le = (of_block b s.source from o source_at (omega (arith, s.source_fits)), of_block d s.block to p block_at (omega (arith, s.fits)))
      where
        of_block : (e : ℕ) (x : Block) (at i : ℕ) → IsAt c.store w e x (At at) → i < x.holds → IsOpen g.place bound (at + i)
        of_block e x at i is lt = go (j.reached e x at i is lt)
          where
            go : IsTrue (g.place.is_data (at + i)) ⊎ (a.base ≤ at + i) → IsOpen g.place bound (at + i)
            go (inl data_there) = inl data_there
            go (inr h) = inr (omega (arith, h, le), omega (arith, lt, j.stands.whole e x is.is, (j.stands.lies e x (At at) is).1))

  -- ---- all bytes

  -- what so many bytes more leave
  pub record IsWhole (c : Scene) (m : Bytes) (o p left : ℕ) (c2 : Scene) : Type 0 where
    pub joins : Joins g a c2 w k (with_memory t (written m (copied left (to + p) (from + o) m)))
    pub goes_on : GoesOn c w m c2 (written m (copied left (to + p) (from + o) m))
    pub sources : (bound : ℕ) → bound ≤ a.base → All (IsOpen g.place bound) (range_of left (from + o))
    pub targets : (bound : ℕ) → bound ≤ a.base → All (IsOpen g.place bound) (range_of left (to + p))

  pub all_bytes : (size o p done left : ℕ) (c c2 : Scene) (m : Bytes) → Joins g a c w k (with_memory t m) → carried_on size (Place b o) (Place d p) done left c ≡ Ok c2 → IsWhole c m (o + done) (p + done) left c2
  all_bytes size o p done zero c c2 m j e =
      let same : c ≡ c2 = cc in
      subst (λ x. IsWhole c m (o + done) (p + done) 0 x) same (record { joins = j; goes_on = record { frames = refl; next = refl; turns = refl; out = refl; bounds = λ e. refl; kept = λ n f. (refl, f) }; sources = λ bound le. All-nil (IsOpen g.place bound); targets = λ bound le. All-nil (IsOpen g.place bound) })
  all_bytes size o p done (suc left) c c2 m j e = go (λ c1 m1 j1 e1. all_bytes size o p (suc done) left c1 c2 m1 j1 e1) (carried_byte false done size c (Place b o) (Place d p)) refl e
    where
      go : ((c1 : Scene) (m1 : Bytes) → Joins g a c1 w k (with_memory t m1) → carried_on size (Place b o) (Place d p) (suc done) left c1 ≡ Ok c2 → IsWhole c1 m1 (o + suc done) (p + suc done) left c2)
          → (r : Result Scene Why) → carried_byte false done size c (Place b o) (Place d p) ≡ r → (r >>= λ x. carried_on size (Place b o) (Place d p) (suc done) left x) ≡ Ok c2 → IsWhole c m (o + done) (p + done) (suc left) c2
      go deep (Err why) f e = cc
      go deep (Ok c1) f e =
          let s = byte_is_carried size b o d p done c c1 f in
          let m1 : Bytes = write m (to + (p + done)) (m (from + (o + done))) in
          let rest = deep c1 m1 (byte_joins c c1 m (o + done) (p + done) j s) e in
          let first = byte_goes_on c c1 m (o + done) (p + done) j s in
          let next_source : from + (o + suc done) ≡ from + (o + done) + 1 = omega arith in
          let next_target : to + (p + suc done) ≡ to + (p + done) + 1 = omega arith in
          let same : written m1 (copied left (to + (p + suc done)) (from + (o + suc done)) m1) ≡ written m1 (copied left (to + (p + done) + 1) (from + (o + done) + 1) m1) =
          ap (λ x. written m1 (copied left x (from + (o + suc done)) m1)) next_target ∙ ap (λ y. written m1 (copied left (to + (p + done) + 1) y m1)) next_source in
          record {
            joins = subst (λ x. Joins g a c2 w k (with_memory t x)) same rest.joins;
            goes_on = subst (λ x. GoesOn c w m c2 x) same (both_go_on c c1 c2 m m1 (written m1 (copied left (to + (p + suc done)) (from + (o + suc done)) m1)) first rest.goes_on);
            sources = λ bound le. All-cons (IsOpen g.place bound) (from + (o + done)) (range_of left (from + (o + done) + 1)) (reaches c c1 m (o + done) (p + done) j s bound le).0 (subst (λ x. All (IsOpen g.place bound) (range_of left x)) next_source (rest.sources bound le));
            targets = λ bound le. All-cons (IsOpen g.place bound) (to + (p + done)) (range_of left (to + (p + done) + 1)) (reaches c c1 m (o + done) (p + done) j s bound le).1 (subst (λ x. All (IsOpen g.place bound) (range_of left x)) next_target (rest.targets bound le));
          }
        where
          both_go_on : (c c1 c2 : Scene) (m m1 m2 : Bytes) → GoesOn c w m c1 m1 → GoesOn c1 w m1 c2 m2 → GoesOn c w m c2 m2
          both_go_on c c1 c2 m m1 m2 x y = record { frames = y.frames ∙ x.frames; next = y.next ∙ x.next; turns = y.turns ∙ x.turns; out = y.out ∙ x.out; bounds = λ e. y.bounds e ∙ x.bounds e; kept = λ n f. let one = x.kept n f in let two = y.kept n one.1 in (two.0 ∙ one.0, two.1) }
