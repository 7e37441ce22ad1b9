-- The scene behind a call belongs to the state, as the outer function's.
use Rattle.std.proofs.Common.{◌≡◌, ℕ, suc, ◌+◌, ◌<◌, ◌≤◌, ◌⊎◌, inl, inr, List, [], ◌∷◌, Option, Some, None, Bool, true, false, refl, sym, ap, ◌∙◌, subst, arith}
use Rattle.std.specs.Prelude.{IsTrue, nat_lt, if◌then◌else◌, length, slice_get, All}
use Rattle.std.proofs.lemmas.Bool.{cases_lt}
use Rattle.c65_csem.specs.Trees.{UnitTy}
use Rattle.c65_csem.specs.Places.{is_fixed_object}
use Rattle.c65_meaning.specs.Store.{Block, lives_in, is_live}
use Rattle.c65_meaning.specs.Shapes.{object_in, object_size}
use Rattle.c65_meaning.specs.State.{Scene, Frame as Call, block_in, rest_in, soft_sum, hard_sum}
use Rattle.c65_meaning.specs.Step.{params_of, frames_below, func_in, end_arguments}
use Rattle.c65_code.specs.LineState.{State, Frame, sp_of, s_of}
use Rattle.c65_code.specs.Placement.{IsPlacement, stack_start}
use Rattle.c65_genframe.specs.Frames.{saved_bytes}
use Rattle.c65_agree_store.specs.Stands.{Spot, At, Banked, Placing, Banks, Grows, byte_in, beyond, IsAt, IsFree, Stands}
use Rattle.c65_agree_store.proofs.Keep.{free_bytes_change}
use Rattle.c65_agree_state.specs.World.{World, unit_in, Active}
use Rattle.c65_agree_state.specs.Fixed.{symbol_at, HasFor, HaveOwnObjects, AreOnce, HaveFixed}
use Rattle.c65_agree_state.specs.Joins.{call_bytes, IsOfCall, HasBlock, HasBank, IsRest, Joins, spot_of}
use Rattle.c65_agree_state.specs.Exprs.{bounds_of}
use Rattle.c65_agree_between.specs.Stmts.{AreOpen, Between, Keeping}
use Rattle.c65_agree_state.proofs.Scratch.{constants_are_low}
use Rattle.c65_agree_state.proofs.Parts.{lives_by, sizes_stay, sized_stay}
use Rattle.c65_agree_frame.specs.Ends.{IsLeft}
use Rattle.c65_agree_leave.specs.Calls.{IsEntered, scene_behind, IsBehind}
use Rattle.c65_agree_leave.specs.Laws.{params_in}
use Rattle.c65_agree_leave.proofs.Endings.{SameElse, arguments_else, arguments_stand, arguments_other, arguments_end}

-- ---- bounds

-- a block of such bounds
record HasBounds (o : Option Block) (n : ℕ) (l : Bool) : Type 0 where
  block : Block
  is : o ≡ Some block
  size : block.size ≡ n
  live : block.live ≡ l

from_bounds : (o : Option Block) (n : ℕ) (l : Bool) → bounds_of o ≡ Some (n, l) → HasBounds o n l
from_bounds None n l e = cc
from_bounds (Some x) n l e =
    let same : (x.size, x.live) ≡ (n, l) = cc in
    record { block = x; is = refl; size = ap (λ (r : ℕ × Bool). r.0) same; live = ap (λ (r : ℕ × Bool). r.1) same }

-- ---- calls

has_below : (i d : ℕ) (fs : List Call) → HasFor i d fs → (block_in fs i ≡ Some d) ⊎ HasFor i d (frames_below fs)
has_below i d [] h = absurd h
has_below i d (f ∷ fs) (inl h) = inl h
has_below i d (f ∷ fs) (inr h) = inr h

objects_below : (u : UnitTy) (fs : List Call) → HaveOwnObjects u fs → HaveOwnObjects u (frames_below fs)
objects_below u [] h = tt
objects_below u (f ∷ fs) h = h.1

once_below : (u : UnitTy) (fs : List Call) → AreOnce u fs → AreOnce u (frames_below fs)
once_below u [] h = tt
once_below u (f ∷ fs) h = h.1

taken_below : (bank i : ℕ) → saved_bytes bank ≤ i → i < 6 → bank ≤ i
taken_below bank i le lt = go (nat_lt bank 6) refl le
  where
    go : (b : Bool) → nat_lt bank 6 ≡ b → (if b then bank else 6) ≤ i → bank ≤ i
    go true e le = le
    go false e le = absurd (omega (arith, le, lt))

-- ---- the scene behind

module _ (g : World) (a outer : Active) (frame : Frame) (passed needs : ℕ) (c0 c1 c : Scene) (w0 w1 w : Placing) (k0 k1 k : Banks) (t0 t1 t u : State) (placed : IsPlacement g.code g.place) (j0 : Joins g outer c0 w0 k0 t0) (room : sp_of t0 + passed ≤ outer.base)
    (e : IsEntered a outer frame passed c0 w0 k0 t0 c1 w1 k1 t1) (kept : Keeping a c1 w1 k1 t1 c w k t) (between : Between g a needs (params_in g a) c w k t) (left : IsLeft g a frame outer.behind t u) where
  abbrev c2 : Scene
  c2 = scene_behind g c

  j : Joins g a c w k t
  j = between.joins

  same_else : SameElse c (end_arguments (unit_in g) c)
  same_else = arguments_else (unit_in g) c

  frames_same : c2.frames ≡ c0.frames
  frames_same = ap frames_below same_else.frames ∙ (j.calls ∙ e.calls)

  -- ---- blocks

  dead : (d : ℕ) → HasBlock c d → is_live c2.store d ≡ false
  dead = arguments_end (unit_in g) c (subst (λ f. AreOpen (params_of (slice_get (unit_in g).funcs f)) c) (sym j.active) between.scoped)

  other : (d : ℕ) → (HasBlock c d → ⊥) → c2.store d ≡ c.store d
  other = arguments_other (unit_in g) c

  -- what lives behind the call lived before its end, and is none of its blocks
  not_own : (d : ℕ) (x : Block) → c2.store d ≡ Some x → x.live ≡ true → HasBlock c d → ⊥
  not_own d x is live h =
      let clash : true ≡ false = sym live ∙ (sym (ap lives_in is) ∙ dead d h) in
      cc

  was : (d : ℕ) (x : Block) (q : Spot) → IsAt c2.store w d x q → IsAt c.store w d x q
  was d x q at = record { is = sym (other d (not_own d x at.is at.live)) ∙ at.is; live = at.live; place = at.place }

  -- blocks of the outer function and behind it are as they were at the call
  old_bounds : (d : ℕ) → d < c0.next → bounds_of (c2.store d) ≡ bounds_of (c0.store d)
  old_bounds d lt =
      let none : HasBlock c d → ⊥ = λ h. let since = j.since d h in omega (arith, since, lt, e.first) in
      ap bounds_of (other d none) ∙ (kept.bounds d (omega (arith, lt, e.first)) (omega (arith, lt, e.next)) ∙ e.bounds d lt)

  older : (d : ℕ) (x : Block) → c2.store d ≡ Some x → x.live ≡ true → d < c0.next
  older d x is live = go (cases_lt d c0.next)
    where
      go : (d < c0.next) ⊎ (c0.next ≤ d) → d < c0.next
      go (inl lt) = lt
      go (inr le) =
          let same : c2.store d ≡ c.store d = other d (not_own d x is live) in
          let before : is_live c.store d ≡ true = ap lives_in (sym same ∙ is) ∙ live in
          absurd (not_own d x is live (j.begun d (omega (arith, le, e.first)) before))

  all_grows : Grows w0 w
  all_grows = λ d q at. kept.grows d q (e.grows d q at)

  -- a block that lives behind the call lived at the call, in its place and of its size
  record WasAtCall (d : ℕ) (x : Block) (q : Spot) : Type 0 where
    block : Block
    at : IsAt c0.store w0 d block q
    size : block.size ≡ x.size

  at_call : (d : ℕ) (x : Block) (q : Spot) → IsAt c2.store w d x q → WasAtCall d x q
  at_call d x q at =
      let bounds : bounds_of (c0.store d) ≡ Some (x.size, true) = sym (old_bounds d (older d x at.is at.live)) ∙ (ap bounds_of at.is ∙ ap (λ (l : Bool). Some (x.size, l)) at.live) in
      let h = from_bounds (c0.store d) x.size true bounds in
      let place = j0.stands.placed d h.block h.is h.live in
      let same : Some place.0 ≡ Some q = sym (all_grows d place.0 place.1) ∙ at.place in
      let one : place.0 ≡ q = cc in
      record { block = h.block; at = record { is = h.is; live = h.live; place = place.1 ∙ ap Some one }; size = h.size }

  -- ---- memory

  above_free : (n : ℕ) → stack_start ≤ n → n < outer.base → IsFree c2.store w (At n)
  above_free n lo hi d x q i at lt there = let h = at_call d x q at in j0.above n lo hi d h.block q i h.at (rw h.size lt) there

  top : sp_of u ≡ sp_of t0 + passed
  top = omega (arith, left.sp, between.sp, e.top)

  -- what lies above the called function's bytes is as it was at the call
  kept_above : (n : ℕ) → sp_of t0 + passed ≤ n → IsFree c0.store w0 (At n) → (u.mem n ≡ t0.mem n) × IsFree c2.store w (At n)
  kept_above n le f =
      let one = e.kept n le f in
      let two = kept.kept n (omega (arith, le, e.top)) one.1 in
      (left.mem n (inr (omega (arith, le, top))) ∙ (two.0 ∙ one.0), λ d x q i at lt there. two.1 d x q i (was d x q at) lt there)

  same_byte : (d : ℕ) (x : Block) (r : Spot) (p : ℕ) → IsAt c2.store w d x r → p < x.holds → byte_in u.mem k r p ≡ byte_in t.mem k r p
  same_byte d x (Banked b i) p at lt = refl
  same_byte d x (At n) p at lt = go (cases_lt (n + p) stack_start) (cases_lt (n + p) outer.base)
    where
      within : p < x.size
      within = let whole = j.stands.whole d x (was d x (At n) at).is in omega (arith, lt, whole)

      go : (n + p < stack_start) ⊎ (stack_start ≤ n + p) → (n + p < outer.base) ⊎ (outer.base ≤ n + p) → u.mem (n + p) ≡ t.mem (n + p)
      go (inl low) _ = left.mem (n + p) (inl low)
      go (inr h) (inr high) = left.mem (n + p) (inr (omega (arith, high, top, room)))
      go (inr h) (inl low) = absurd (above_free (n + p) h low d x (At n) p at within refl)

  -- regbank is the outer function's again
  outer_bank : (d i : ℕ) → d ≤ length outer.behind → k d i ≡ k0 d i
  outer_bank d i le =
      let deeper : length a.behind ≡ suc (length outer.behind) = ap length e.behind in
      kept.banks d i (omega (arith, le, deeper)) ∙ e.banks d i le

  bank_back : HasBank k (length outer.behind) u
  bank_back i lt = go (cases_lt i (saved_bytes a.frame.bank))
    where
      go : (i < saved_bytes a.frame.bank) ⊎ (saved_bytes a.frame.bank ≤ i) → k (length outer.behind) i ≡ u.zp (20 + i)
      go (inl few) =
          let at : ℕ = a.base + a.frame.soft + i in
          let place : sp_of t + a.frame.soft + i ≡ at = omega (arith, between.sp) in
          let put = e.saved i few in
          let still = kept.kept at (omega arith) put.1 in
          outer_bank (length outer.behind) i (omega arith) ∙ sym (left.brought i few ∙ (ap t.mem place ∙ (still.0 ∙ put.0)))
      go (inr more) =
          outer_bank (length outer.behind) i (omega arith)
          ∙ sym (left.others i more lt ∙ (sym (j.bank i lt) ∙ (kept.own_bank i (taken_below a.frame.bank i more lt) ∙ e.others i more lt)))

  -- ---- the relation

  fixed_stay : HaveFixed g c2 w
  fixed_stay = record { own = own; objects = subst (HaveOwnObjects (unit_in g)) below (objects_below (unit_in g) c.frames j.fixed.objects); once = subst (AreOnce (unit_in g)) below (once_below (unit_in g) c.frames j.fixed.once) }
    where
      below : frames_below c.frames ≡ c2.frames
      below = sym (ap frames_below same_else.frames)

      own : (i d o n : ℕ) (x : Block) (q : Spot) → is_fixed_object (object_in (unit_in g) i) ≡ true → IsAt c2.store w d x q → o < x.size → n < object_size (unit_in g).types (object_in (unit_in g) i) → beyond q o ≡ At (symbol_at g i + n) → HasFor i d c2.frames
      own i d o n x q fixed at lt less there = go (has_below i d c.frames (j.fixed.own i d o n x q fixed (was d x q at) lt less there))
        where
          go : (block_in c.frames i ≡ Some d) ⊎ HasFor i d (frames_below c.frames) → HasFor i d c2.frames
          go (inl h) = absurd (not_own d x at.is at.live (inl (i, h)))
          go (inr h) = subst (HasFor i d) below h

  placed_old : {d : ℕ} {q : Spot} → w0 d ≡ Some q → (d < c0.next) ⊎ (c0.next ≤ d) → d < c0.next
  placed_old at (inl lt) = lt
  placed_old {d} {q} at (inr le) =
      let clash : Some q ≡ None = sym at ∙ j0.fresh d le in
      cc

  rests_stay : (d : ℕ) → rest_in c2.frames ≡ Some d → IsRest outer c2 w d
  rests_stay d is =
      let r = j0.rests d (sym (ap rest_in frames_same) ∙ is) in
      let bounds : bounds_of (c2.store d) ≡ Some (r.block.size, r.block.live) = old_bounds d (placed_old r.place (cases_lt d c0.next)) ∙ ap bounds_of r.is in
      let h = from_bounds (c2.store d) r.block.size r.block.live bounds in
      record { block = h.block; is = h.is; place = all_grows d _ r.place; size = h.size ∙ r.size }

  has_same : (d : ℕ) → HasBlock c2 d → HasBlock c0 d
  has_same d (inl h) = inl (h.0, sym (ap (λ fs. block_in fs h.0) frames_same) ∙ h.1)
  has_same d (inr h) = inr (sym (ap rest_in frames_same) ∙ h)

  had_same : (d : ℕ) → HasBlock c0 d → HasBlock c2 d
  had_same d (inl h) = inl (h.0, ap (λ fs. block_in fs h.0) frames_same ∙ h.1)
  had_same d (inr h) = inr (ap rest_in frames_same ∙ h)

  begun_stay : (d : ℕ) → outer.first ≤ d → is_live c2.store d ≡ true → HasBlock c2 d
  begun_stay d le live = go (c2.store d) refl
    where
      go : (o : Option Block) → c2.store d ≡ o → HasBlock c2 d
      go None is = let clash : true ≡ false = sym live ∙ ap lives_in is in cc
      go (Some x) is =
          let lives : x.live ≡ true = sym (ap lives_in is) ∙ live in
          let before : is_live c0.store d ≡ true = sym (lives_by (c2.store d) (c0.store d) (old_bounds d (older d x is lives))) ∙ live in
          had_same d (j0.begun d le before)

  owned_stay : (d : ℕ) (x : Block) (q : Spot) → IsAt c2.store w d x q → 0 < x.size → IsOfCall outer q → HasBlock c2 d
  owned_stay d x q at some inside = let h = at_call d x q at in had_same d (j0.owned d h.block q h.at (rw h.size some) inside)

  reached_stay : (d : ℕ) (x : Block) (at o : ℕ) → IsAt c2.store w d x (At at) → o < x.holds → IsTrue (g.place.is_data (at + o)) ⊎ (outer.base ≤ at + o)
  reached_stay d x at o is lt = go (j.reached d x at o (was d x (At at) is) lt)
    where
      within : o < x.size
      within = let whole = j.stands.whole d x (was d x (At at) is).is in omega (arith, lt, whole)

      go : IsTrue (g.place.is_data (at + o)) ⊎ (a.base ≤ at + o) → IsTrue (g.place.is_data (at + o)) ⊎ (outer.base ≤ at + o)
      go (inl there) = inl there
      go (inr high) = by (cases_lt (at + o) outer.base)
        where
          by : (at + o < outer.base) ⊎ (outer.base ≤ at + o) → IsTrue (g.place.is_data (at + o)) ⊎ (outer.base ≤ at + o)
          by (inr le) = inr le
          by (inl low) = absurd (above_free (at + o) (omega (arith, high, between.room, j.few)) low d x (At at) o is within refl)

  count_stays : (d : ℕ) (x : Block) (q : Spot) (i : ℕ) → IsAt c2.store w d x q → i < x.size → beyond q i ≡ At outer.base → IsFree c0.store w0 (At outer.base) → ⊥
  count_stays d x q i at lt there f = let h = at_call d x q at in f d h.block q i h.at (rw h.size lt) there

  pushed_same : u.pushed ≡ t0.pushed
  pushed_same = left.pushed ∙ e.pushed

  hard_stays : 255 ≤ s_of u + length u.pushed + hard_sum c2.frames
  hard_stays =
      let frames : u.frames ≡ t0.frames = left.frames_are ∙ sym j0.frames in
      let s : s_of u ≡ s_of t0 = rw (pushed_same, frames) refl in
      let sum : hard_sum c2.frames ≡ hard_sum c0.frames = ap hard_sum frames_same in
      let many : length u.pushed ≡ length t0.pushed = ap length pushed_same in
      omega (arith, s, sum, many, j0.hard)

  joined : Joins g outer c2 w k u
  joined = record {
    stands = free_bytes_change c2.store w t.mem u.mem k k (arguments_stand (unit_in g) c w t.mem k j.stands) same_byte;
    bank = bank_back;
    symbols = j.symbols;
    fixed = fixed_stay;
    sizes = sizes_stay (unit_in g) c0.store c2.store c0.next c2.next (omega (arith, e.next, kept.next, same_else.next)) old_bounds j0.sizes;
    sized = sized_stay (unit_in g) c0 c2 frames_same (λ i d is. old_bounds d (placed_old (j0.homes i d is) (cases_lt d c0.next))) j0.sized;
    fresh = λ b le. j.fresh b (omega (arith, le, same_else.next));
    homes = λ i b is. all_grows b (spot_of g outer i) (j0.homes i b (sym (ap (λ fs. block_in fs i) frames_same) ∙ is));
    rests = rests_stay;
    since = λ b h. j0.since b (has_same b h);
    begun = begun_stay;
    owned = owned_stay;
    active = ap func_in frames_same ∙ j0.active;
    calls = ap frames_below frames_same ∙ j0.calls;
    as_many = j0.as_many;
    above = above_free;
    reached = reached_stay;
    constant = λ n v is. left.mem n (inl (constants_are_low g placed n v is)) ∙ j.constant n v is;
    sealed = λ b x at o v is lt there. j.sealed b x at o v (was b x (At at) is) lt there;
    top = j0.top;
    asked = same_else.free ∙ j.asked;
    few = let sum : soft_sum c2.frames ≡ soft_sum c0.frames = ap soft_sum frames_same in omega (arith, sum, j0.few);
    hard = hard_stays;
    few_calls = let sum : hard_sum c2.frames ≡ hard_sum c0.frames = ap hard_sum frames_same in omega (arith, sum, j0.few_calls);
    counted = λ v. (kept_above outer.base room (j0.count_free v)).0 ∙ j0.counted v;
    count_free = λ v d x q i at lt there. count_stays d x q i at lt there (j0.count_free v);
    frames = left.frames_are;
    input = left.input ∙ (j.input ∙ sym same_else.input);
    read = subst (All (λ v. v < 256)) (sym same_else.input) j.read;
    output = left.output ∙ (j.output ∙ sym same_else.out);
    ended = left.ended ∙ j.ended;
    bytes = left.bytes;
  }

  pub is_behind : IsBehind g outer passed c0 w0 k0 t0 c2 w k u
  is_behind = record {
    joins = joined;
    sp = top;
    pushed = pushed_same;
    frames = frames_same;
    next = omega (arith, e.next, kept.next, same_else.next);
    bounds = old_bounds;
    grows = all_grows;
    kept = kept_above;
    banks = outer_bank;
  }
