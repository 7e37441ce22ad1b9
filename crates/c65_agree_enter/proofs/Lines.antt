-- Behind the lines of an entry each parameter stands at its home.
use Rattle.std.proofs.Common.{◌≡◌, ◌≢◌, ℕ, zero, suc, ◌+◌, ◌-◌, ◌<◌, ◌≤◌, ◌⊎◌, inl, inr, List, [], ◌∷◌, Option, Some, None, Bool, true, false, length, refl, sym, ap, ◌∙◌, subst, slice_get, arith}
use Rattle.std.specs.Prelude.{◌==◌, if◌then◌else◌}
use Rattle.std.proofs.lemmas.Bool.{cases_lt, eq-eqb}
use Rattle.std.proofs.lemmas.Bool.Decides.{nat_tests}
use Rattle.c65_ctype.specs.Trees.{Ty, void, int, pointer, array, tag, function, TypesTy, type_in}
use Rattle.c65_ctype.specs.Sizes.{size_of}
use Rattle.c65_csem.specs.Trees.{ObjectTy, UnitTy}
use Rattle.c65_meaning.specs.Store.{Value, size_in, new_cells}
use Rattle.c65_meaning.specs.Shapes.{shape_of, object_in, object_shape, object_size}
use Rattle.c65_meaning.specs.After.{is_among}
use Rattle.c65_meaning.specs.State.{soft_sum}
use Rattle.c65_code.specs.LineState.{Bytes, State, sp_of, s_of}
use Rattle.c65_code.specs.Placement.{stack_start}
use Rattle.c65_code.specs.Texts.{listed}
use Rattle.c65_genframe.specs.declared.home.Arrival.{Arrival}
use Rattle.c65_genframe.specs.declared.home.Arrival.TheVariants.{Passed, Pushed, Kept}
use Rattle.c65_genframe.specs.declared.home.Moved.{Moved}
use Rattle.c65_genframe.specs.Frames.{saved_bytes}
use Rattle.c65_genentry.specs.Entry.{entry_code}
use Rattle.c65_agree_store.specs.Stands.{Spot, At, Banked, Placing, Banks, byte_in, CellIs, IsFree}
use Rattle.c65_agree_state.specs.World.{World, unit_in, Active}
use Rattle.c65_agree_state.specs.Joins.{spot_of, call_bytes}
use Rattle.c65_agree_rows.specs.Rows.{AreAt}
use Rattle.c65_agree_rows.proofs.Quiet.{written_other, listed_are_at, listed_below}
use Rattle.c65_agree_frame.specs.Entries.{arriving}
use Rattle.c65_agree_frame.proofs.Leads.{leads_as}
use Rattle.c65_agree_frame.proofs.Banks.{saved_few}
use Rattle.c65_agree_registers.specs.Entries.{AreBeside, AreMoves, IsKeptBeside, HasMoves, AreMoved, IsKept, IsBesideLast, HasMoved, register_byte, register_cost}
use Rattle.c65_agree_registers.proofs.Entries.{costs_reach, entries_move}
use Rattle.c65_agree_enter.specs.Params.{bytes_of, shape_in, no_cells, ArePassed}
use Rattle.c65_agree_enter.specs.Entries.{HaveHomes, IsTaken, banks_with, HasEntered}
use Rattle.c65_agree_enter.specs.Laws.{IsAtEntry, with_arriving, LiesAs, IsPassed, on_stack, moving, in_registers, AllPassed, ArgumentsLieAtHomes, EntriesEnter, EntriesKeep}
use Rattle.c65_agree_enter.proofs.Entered.{calls_are_entered}

-- ---- sizes

type_size : (types : TypesTy) (t : Ty) → size_in (shape_of types t) ≡ size_of types t
type_size types void = refl
type_size types (int k) = refl
type_size types (pointer q) = refl
type_size types (array q n) = refl
type_size types (tag n) = refl
type_size types (function f) = refl

pub shape_size : (u : UnitTy) (i : ℕ) → size_in (shape_in u i) ≡ bytes_of u i
shape_size u i = go (object_in u i)
  where
    go : (o : Option ObjectTy) → size_in (object_shape u.types o) ≡ object_size u.types o
    go None = refl
    go (Some x) = type_size u.types (type_in x.ty)

-- the bytes of one list at an address
pub same_at : (m m2 : Bytes) (vs : List ℕ) (at i : ℕ) → AreAt m at vs → AreAt m2 at vs → i < length vs → m (at + i) ≡ m2 (at + i)
same_at m m2 [] at i h h2 lt = absurd (omega (arith, lt))
same_at m m2 (v ∷ vs) at zero h h2 lt = let here : at + 0 ≡ at = omega arith in ap m here ∙ (h.0 ∙ sym h2.0) ∙ sym (ap m2 here)
same_at m m2 (v ∷ vs) at (suc i) h h2 lt = let next : at + suc i ≡ at + 1 + i = omega arith in ap m next ∙ same_at m m2 vs (at + 1) i h.1 h2.1 (omega (arith, lt)) ∙ sym (ap m2 next)

-- ---- one of the parameters that move

pub move_from : (taken low high : ℕ) (ms : List Moved) (k : ℕ) (m : Moved) → AreMoves taken low high ms → slice_get ms k ≡ Some m → low ≤ m.from
move_from taken low high [] k m h e = cc
move_from taken low high (x ∷ ms) zero m h e = let same : x ≡ m = cc in subst (λ (y : Moved). low ≤ y.from) same h.1
move_from taken low high (x ∷ ms) (suc k) m h e = move_from taken low high ms k m h.4 e

moved_at : (ms : List Moved) (k : ℕ) (m : Moved) (u : State) → AreMoved ms u → slice_get ms k ≡ Some m → (i : ℕ) → i < m.bytes → u.zp (20 + (m.bank + i)) ≡ u.mem (sp_of u + m.from + i)
moved_at [] k m u h e = cc
moved_at (x ∷ ms) zero m u h e = let same : x ≡ m = cc in subst (λ (y : Moved). (i : ℕ) → i < y.bytes → u.zp (20 + (y.bank + i)) ≡ u.mem (sp_of u + y.from + i)) same h.0
moved_at (x ∷ ms) (suc k) m u h e = moved_at ms k m u h.1 e

-- a byte that the function does not take is none of them
pub beside_moves : (taken low high i : ℕ) (ms : List Moved) → taken ≤ i → AreMoves taken low high ms → AreBeside i ms
beside_moves taken low high i [] le h = tt
beside_moves taken low high i (m ∷ ms) le h = (inr (omega (arith, le, h.0.within)), beside_moves taken low high i ms le h.4)

beside_last : (taken i : ℕ) (last : Arrival) (ms : List Moved) → taken ≤ i → IsKeptBeside taken last ms → IsBesideLast i last
beside_last taken i Passed ms le h = tt
beside_last taken i (Pushed n) ms le h = tt
beside_last taken i (Kept bank bytes) ms le h = inr (omega (arith, le, h.0.within))

-- ---- the banks

module _ (a : Active) (t1 : State) (k0 : Banks) where
  pub own_byte : (i : ℕ) → banks_with a t1 k0 (length a.behind) i ≡ t1.zp (20 + i)
  own_byte i = grind (arith, nat_tests)

  pub other_byte : (d i : ℕ) → d ≢ length a.behind → banks_with a t1 k0 d i ≡ k0 d i
  other_byte d i ne = grind (arith, nat_tests)

-- ---- behind the entry

module _ (g : World) (a : Active) (is : List ℕ) (t0 t t1 : State) (at : IsAtEntry a t0 t) (homes : HaveHomes g a is) (low : stack_start + 64 ≤ a.base) (sp : a.base + (a.frame.soft + (saved_bytes a.frame.bank + length (arriving a.frame.last t))) ≡ sp_of t)
    (few : length (arriving a.frame.last t) ≤ a.frame.stacked) (has : HasMoves a.frame) (x : HasMoved a.frame t t1) where
  abbrev bytes : List ℕ
  bytes = arriving a.frame.last t

  abbrev from : ℕ
  from = a.base + (a.frame.soft + saved_bytes a.frame.bank)

  base_is : sp_of t1 ≡ a.base
  base_is = omega (arith, x.sp, sp)

  pub is_taken : IsTaken a t0 t1
  is_taken = record {
    sp = base_is;
    mem = λ n side. x.mem n (above n side) ∙ ap (λ (m : Bytes). m n) at.mem;
    none_pushed = x.pushed ∙ at.none_pushed;
    frames = x.frames ∙ at.frames;
    input = x.input ∙ at.input;
    output = x.output ∙ at.output;
    ended = x.ended ∙ at.ended;
    bytes = x.bytes;
  }
    where
      above : (n : ℕ) → (n < stack_start) ⊎ (a.base + call_bytes a ≤ n) → (n < stack_start) ⊎ (sp_of t ≤ n)
      above n (inl lt) = inl lt
      above n (inr le) = inr (omega (arith, le, sp, few))

  -- memory from the saved bytes on
  pub same_memory : (n : ℕ) → from ≤ n → t1.mem n ≡ with_arriving a t n
  same_memory n le = go (cases_lt n (sp_of t))
    where
      go : (n < sp_of t) ⊎ (sp_of t ≤ n) → t1.mem n ≡ with_arriving a t n
      go (inr high) = x.mem n (inr high) ∙ sym (written_other t.mem (listed bytes from) (sp_of t) n (listed_below bytes from (sp_of t) (omega (arith, low)) (omega (arith, sp))) (inr high))
      go (inl lt) =
          let there : from + (n - from) ≡ n = omega (arith, le) in
          let arrived : AreAt t1.mem from bytes = subst (λ q. AreAt t1.mem q bytes) (omega (arith, base_is)) x.arrived in
          subst (λ q. t1.mem q ≡ with_arriving a t q) there (same_at t1.mem (with_arriving a t) bytes from (n - from) arrived (listed_are_at t.mem bytes from) (omega (arith, lt, sp, le)))

  module _ (w : Placing) (k0 : Banks) where
    -- the cells of the argument are the bytes at the home
    abbrev Stands : ℕ → Value → Spot → Type 0
    Stands i v r = (o : ℕ) → o < size_in (shape_in (unit_in g) i) → CellIs w (new_cells (shape_in (unit_in g) i) v no_cells 0 o) (byte_in t1.mem (banks_with a t1 k0) r o)

    -- byte by byte
    stands_as : (i : ℕ) (v : Value) (r : Spot) (byte : ℕ → ℕ) → spot_of g a i ≡ r → ((o : ℕ) → o < bytes_of (unit_in g) i → byte_in t1.mem (banks_with a t1 k0) r o ≡ byte o) → LiesAs g w i v byte → Stands i v (spot_of g a i)
    stands_as i v r byte e same lies =
        subst (Stands i v) (sym e) (λ o lt. subst (CellIs w (new_cells (shape_in (unit_in g) i) v no_cells 0 o)) (sym (same o (omega (arith, lt, shape_size (unit_in g) i)))) (lies o lt))

    one_stands : (i : ℕ) (v : Value) → is_among is i ≡ true → IsPassed g a w t i v → Stands i v (spot_of g a i)
    one_stands i v among (on_stack n e lies) =
        stands_as i v (At n) (λ o. with_arriving a t (n + o)) e (λ o lt. let inside = homes.within i n o among e lt in same_memory (n + o) (omega (arith, inside))) lies
    one_stands i v among (moving k m there e size lies) =
        stands_as i v (Banked (length a.behind) m.bank) (λ o. with_arriving a t (a.base + m.from + o)) e (λ o lt.
        let place : sp_of t1 + m.from + o ≡ a.base + m.from + o = omega (arith, base_is) in
        let above : from ≤ a.base + m.from + o = omega (arith, move_from (saved_bytes a.frame.bank) (a.frame.soft + saved_bytes a.frame.bank) (a.frame.soft + saved_bytes a.frame.bank + a.frame.stacked) a.frame.moved k m has.moves there) in
        own_byte a t1 k0 (m.bank + o) ∙ (moved_at a.frame.moved k m t1 x.moved there o (omega (arith, lt, size)) ∙ (ap t1.mem place ∙ same_memory (a.base + m.from + o) above))) lies
    one_stands i v among (in_registers bank count last e size lies) =
        let kept : IsKept (Kept bank count) t t1 = subst (λ (z : Arrival). IsKept z t t1) last x.kept in
        stands_as i v (Banked (length a.behind) bank) (λ o. register_byte o t) e (λ o lt. own_byte a t1 k0 (bank + o) ∙ kept o (omega (arith, lt, size))) lies

    pub all_stand : (js : List ℕ) (vs : List Value) → ((j : ℕ) → is_among js j ≡ true → is_among is j ≡ true) → AllPassed g a w t js vs → ArePassed (unit_in g) w t1.mem (banks_with a t1 k0) (spot_of g a) js vs
    all_stand [] vs within h = tt
    all_stand (j ∷ js) [] within h = tt
    all_stand (j ∷ js) (v ∷ vs) within h = (one_stands j v (within j (ap (λ b. if b then true else is_among js j) (eq-eqb j j refl))) h.0, all_stand js vs (λ k e. within k (go k (j == k) e)) h.1)
      where
        go : (k : ℕ) (b : Bool) → is_among js k ≡ true → (if b then true else is_among js k) ≡ true
        go k true e = refl
        go k false e = e

-- ---- arguments that lie at the homes

pub arguments_lie_at_homes : ArgumentsLieAtHomes
arguments_lie_at_homes g a w k t [] args spots h = tt
arguments_lie_at_homes g a w k t (i ∷ is) [] spots h = tt
arguments_lie_at_homes g a w k t (i ∷ is) (v ∷ args) spots h =
    let spot = spots i (ap (λ b. if b then true else is_among is i) (eq-eqb i i refl)) in
    (on_stack spot.0 spot.1 (λ o lt. subst (CellIs w (new_cells (shape_in (unit_in g) i) v no_cells 0 o)) (ap (λ (s : Spot). byte_in (with_arriving a t) (banks_with a t k) s o) spot.1) (h.0 o lt)), arguments_lie_at_homes g a w k t is args (λ j e. spots j (later j e)) h.1)
  where
    later : (j : ℕ) → is_among is j ≡ true → is_among (i ∷ is) j ≡ true
    later j e = go (i == j)
      where
        go : (b : Bool) → (if b then true else is_among is j) ≡ true
        go true = refl
        go false = e

pub entries_enter : EntriesEnter
entries_enter g a bound cost needs is args c0 c1 w0 k0 t0 t placed low may at called on enough has soft sp few passed hard meant =
    leads_as g a (entry_code a.frame) (register_cost a.frame) (register_cost a.frame) t (HasMoved a.frame t) (λ t1. HasEntered g a needs is c0 w0 k0 t0 c1 t1 × HasMoved a.frame t t1) (omega arith) (λ t1 x. (entered t1 x, x))
    (entries_move g a t placed on called.plain (costs_reach a.frame.check t (cost + soft_sum c0.frames) enough called.few on.stacks.calm.high (omega (arith, hard, called.few_calls))) has (omega (arith, soft, sp)) (omega (arith, sp, called.top, called.high)))
  where
    entered : (t1 : State) → HasMoved a.frame t t1 → HasEntered g a needs is c0 w0 k0 t0 c1 t1
    entered t1 x =
        let s : s_of t1 ≡ s_of t = rw (x.pushed, x.frames) refl in
        calls_are_entered g a bound cost needs is args c0 c1 w0 k0 t0 t1 placed low may (is_taken g a is t0 t t1 at called.homes soft sp few has x) called
        (all_stand g a is t0 t t1 at called.homes soft sp few has x w0 k0 is args (λ j e. e) passed) (omega (arith, s, hard)) meant

-- ---- the caller

pub entries_keep : EntriesKeep
entries_keep g a outer frame passed needs is c0 c1 w0 k0 t0 t t1 j0 calls behind pushed top first has at x h = record {
  calls = calls;
  behind = behind;
  pushed = pushed;
  top = top;
  first = first;
  next = h.next;
  bounds = h.bounds;
  grows = h.grows;
  kept = λ n le f. h.kept n (omega (arith, le, top)) f;
  banks = λ d i le. other_byte a t1 k0 d i (λ e. omega (arith, e, le, deeper));
  saved = λ i lt. saved i lt;
  others = λ i le lt. own_byte a t1 k0 i ∙ (x.others i lt (beside_last (saved_bytes a.frame.bank) i a.frame.last a.frame.moved le has.kept) (beside_moves (saved_bytes a.frame.bank) (a.frame.soft + saved_bytes a.frame.bank) (a.frame.soft + saved_bytes a.frame.bank + a.frame.stacked) i a.frame.moved le has.moves) ∙ back i lt);
}
  where
    deeper : length a.behind ≡ suc (length outer.behind)
    deeper = ap length behind

    -- a byte of regbank at the first line is the caller's
    back : (i : ℕ) → i < 6 → t.zp (20 + i) ≡ k0 (length outer.behind) i
    back i lt = at.bank i lt ∙ sym (j0.bank i lt)

    saved : (i : ℕ) → i < saved_bytes a.frame.bank → (t1.mem (a.base + a.frame.soft + i) ≡ k0 (length outer.behind) i) × IsFree c1.store h.placing (At (a.base + a.frame.soft + i))
    saved i lt =
        let here : a.base + a.frame.soft + i ≡ sp_of t1 + a.frame.soft + i = omega (arith, h.between.sp) in
        (ap t1.mem here ∙ (x.saved i lt ∙ back i (omega (arith, lt, saved_few a.frame.bank))), h.low (a.base + a.frame.soft + i) (omega (arith, h.between.room, h.between.joins.few)) (omega (arith, lt)))
