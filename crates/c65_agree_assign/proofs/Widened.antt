-- The value behind a store: a character that went through an address is widened again.
use Rattle.std.proofs.Common.{◌≡◌, ℕ, suc, ◌+◌, ◌%◌, ◌≤◌, List, [], ◌∷◌, ◌++◌, false, refl, sym, ap, ◌∙◌, subst, arith}
use Rattle.std.specs.Prelude.{length, nat_lt, if◌then◌else◌}
use Rattle.c65_ints.specs.declared.types.IntType.{IntType}
use Rattle.c65_ints.specs.declared.types.IntType.TheVariants as I
use Rattle.c65_mach.specs.declared.rows.Op.TheVariants.{Ldx}
use Rattle.c65_mach.specs.declared.rows.Mode.TheVariants.{Immediate}
use Rattle.c65_mach.specs.Step.{apply}
use Rattle.c65_meaning.specs.Store as values
use Rattle.c65_meaning.specs.Store.{Block, Value, Whole, Null, Opaque, Cells, NoValue, Shape, Number, Field, Pointer, Area, new_cells}
use Rattle.c65_meaning.specs.Fits.{Fits}
use Rattle.c65_meaning.specs.State as meaning
use Rattle.c65_meaning.specs.State.{Scene, Running}
use Rattle.c65_code.specs.declared.line.Line.{Line}
use Rattle.c65_code.specs.declared.line.Operand.TheVariants as operands
use Rattle.c65_code.specs.declared.routine.Routine.TheVariants.{SignA}
use Rattle.c65_code.specs.declared.routine.Width.{Width}
use Rattle.c65_code.specs.declared.routine.Width.TheVariants.{Ax, Eax}
use Rattle.c65_code.specs.LineState.{State, ax_of, sp_of, IsBytes}
use Rattle.c65_code.specs.declared.line.Sym.{Sym}
use Rattle.c65_code.specs.Rows.{primary_of}
use Rattle.c65_code.specs.Placement.{IsPlacement}
use Rattle.c65_code.specs.Comes.{Seen}
use Rattle.c65_genwide.specs.Lines.{call}
use Rattle.c65_genwide.specs.Lines as lines
use Rattle.c65_genwide.specs.Wide.{width_of, narrow_code}
use Rattle.c65_genload.specs.declared.places.Access.TheVariants as access
use Rattle.c65_genload.specs.declared.places.Extent.{Extent}
use Rattle.c65_genload.specs.declared.places.Extent.TheVariants.{One, Two, Three, Four}
use Rattle.c65_genload.specs.declared.places.Place.{Place}
use Rattle.c65_genload.specs.declared.places.Place.TheVariants.{Bank, Near, Data, Far}
use Rattle.c65_genload.specs.Places.{held, extent_of}
use Rattle.c65_genload.specs.Stores.{bytes_store, after_store, store_code}
use Rattle.c65_agree_store.specs.Stands.{At, Placing, Banks, IsFree}
use Rattle.c65_agree_state.specs.World.{World, Active, lines_of, place_in, HasAt, HasTurns}
use Rattle.c65_agree_state.specs.Follows.{Follows}
use Rattle.c65_agree_state.specs.Exprs.{Kept, Valued, ResultIs, width_in}
use Rattle.c65_agree_state.proofs.Followed.{follows_weaken, ready_is_calm}
use Rattle.c65_agree_state.proofs.Leaves.{scratch_is_kept, with_regs}
use Rattle.c65_agree_numbers.specs.Words.{signed_byte, narrowed}
use Rattle.c65_agree_numbers.proofs.Ranges.{words_in_range_stay}
use Rattle.c65_agree_rows.specs.Rows.{SignedByte, IsWidened}
use Rattle.c65_agree_rows.specs.Laws.{IsKeptWith}
use Rattle.c65_agree_rows.proofs.Loads.{widenings_run}
use Rattle.c65_agree_put.specs.Puts.{with_put, AreTaken}
use Rattle.c65_agree_lines.proofs.Stand.{parts_stand}
use Rattle.c65_agree_assign.specs.Places.{bytes_in, IsStill}
use Rattle.c65_agree_assign.specs.Laws.{ValuesAreAssigned}
use Rattle.c65_agree_assign.proofs.Steps.{operation, routine}
use Rattle.c65_agree_assign.proofs.Assigned.{assignments_are_followed}

-- ---- values

-- a number or a pointer stands where the register is as before, and where it is brought into the range of its type
pub record IsKeptBy (w : Placing) (f : Shape) (kind : IntType) (v : Value) (t : State) : Type 0 where
  pub same : (u : State) → primary_of (width_of kind) u ≡ primary_of (width_of kind) t → ResultIs Valued w (width_in f) v u
  pub brought : (u : State) → primary_of (width_of kind) u ≡ narrowed kind (primary_of (width_of kind) t) → ResultIs Valued w (width_in f) v u

pub number_kept : (w : Placing) (kind : IntType) (v : Value) (t : State) → Fits (Number kind) v → ResultIs Valued w (width_of kind) v t → IsKeptBy w (Number kind) kind v t
number_kept w kind (Whole z) t fits r = record { same = λ u e. e ∙ r; brought = λ u e. e ∙ ap (narrowed kind) r ∙ words_in_range_stay kind z fits }
number_kept w kind Opaque t fits r = record { same = λ u e. tt; brought = λ u e. tt }
number_kept w kind Null t fits r = absurd fits
number_kept w kind (values.Place b o) t fits r = absurd fits
number_kept w kind (Cells xs) t fits r = absurd fits
number_kept w kind NoValue t fits r = absurd fits

pub pointer_kept : (w : Placing) (size : ℕ) (v : Value) (t : State) → Fits (Pointer size) v → ResultIs Valued w Ax v t → IsKeptBy w (Pointer size) I.UInt v t
pointer_kept w size Null t fits r = record { same = λ u e. e ∙ r; brought = λ u e. e ∙ r }
pointer_kept w size (values.Place b o) t fits r = record { same = λ u e. (r.0, r.1, e ∙ r.2); brought = λ u e. (r.0, r.1, e ∙ r.2) }
pointer_kept w size Opaque t fits r = record { same = λ u e. tt; brought = λ u e. tt }
pointer_kept w size (Whole z) t fits r = absurd fits
pointer_kept w size (Cells xs) t fits r = absurd fits
pointer_kept w size NoValue t fits r = absurd fits

-- ---- registers

-- the register of so many bytes
abbrev width_by : Extent → Width
width_by Four = Eax
width_by _ = Ax

width_is : (kind : IntType) → width_of kind ≡ width_by (extent_of kind)
width_is I.SChar = refl
width_is I.UChar = refl
width_is I.Short = refl
width_is I.UShort = refl
width_is I.Int = refl
width_is I.UInt = refl
width_is I.Long = refl
width_is I.ULong = refl

module _ (t u : State) where
  bank_still : (at : ℕ) (e : Extent) → IsStill (Bank at) e t u → primary_of (width_by e) u ≡ primary_of (width_by e) t
  bank_still at One h = h
  bank_still at Two h = h
  bank_still at Three h = h
  bank_still at Four h = h

  near_still : (at : ℕ) (e : Extent) → IsStill (Near at) e t u → primary_of (width_by e) u ≡ primary_of (width_by e) t
  near_still at One h = h
  near_still at Two h = h
  near_still at Three h = h
  near_still at Four h = h

  data_still : (s : Sym) (at : ℕ) (e : Extent) → IsStill (Data s at) e t u → primary_of (width_by e) u ≡ primary_of (width_by e) t
  data_still s at One h = h
  data_still s at Two h = h
  data_still s at Three h = h
  data_still s at Four h = h

  of_kind : (kind : IntType) → primary_of (width_by (extent_of kind)) u ≡ primary_of (width_by (extent_of kind)) t → primary_of (width_of kind) u ≡ primary_of (width_of kind) t
  of_kind kind h = subst (λ x. primary_of x u ≡ primary_of x t) (sym (width_is kind)) h

-- the sign of a byte is that of its word
signed_alike : (m n : ℕ) → m % 256 ≡ n % 256 → signed_byte m ≡ signed_byte n
signed_alike m n e = ap (λ x. if nat_lt 127 x then x + 65280 else x) e

-- ---- behind the store

-- what an expression keeps it keeps behind what was taken
taken_on : (g : World) (a : Active) (pushed needs count : ℕ) (c : Scene) (w : Placing) (k later : Banks) (t u u2 : State) (c2 : Scene) → AreTaken g a pushed needs count c w k t c2 later u → Kept g a c2 w later u c2 w later u2 → AreTaken g a pushed needs count c w k t c2 later u2
taken_on g a pushed needs count c w k later t u u2 c2 x y = record {
  ready = record { joins = y.joins; sp = omega (arith, y.sp, x.ready.sp); room = omega (arith, y.sp, x.ready.room); none_pushed = y.none_pushed };
  sp = y.sp ∙ x.sp;
  frames = x.frames;
  next = x.next;
  bounds = x.bounds;
  kept = kept;
  banks = x.banks;
  own_bank = x.own_bank;
}
  where
    kept : (n : ℕ) → sp_of t + count ≤ n → IsFree c.store w (At n) → (u2.mem n ≡ t.mem n) × IsFree c2.store w (At n)
    kept n le f =
        let one = x.kept n le f in
        let two = y.kept n (omega (arith, le, x.sp)) one.1 in
        (two.0 ∙ one.0, two.1)

module _ (g : World) (a : Active) (pushed needs : ℕ) (c : Scene) (w : Placing) (k : Banks) (t : State) (f : Shape) (kind : IntType) (v : Value) (placed : IsPlacement g.code g.place) (value : IsKeptBy w f kind v t) (n turns : ℕ) (m : meaning.State) (c2 : Scene) (later : Banks) where
  -- the value is there again behind the lines
  abbrev Behind : Place → ℕ → ℕ → Type 0
  Behind place weight q = (u : State) (after : Seen) → AreTaken g a pushed needs (held place) c w k t c2 later u → ResultIs Valued w (width_in f) v u → HasTurns g turns (place_in g a (q + length (after_store place kind))) after
      → Follows g n weight m (place_in g a (q + length (after_store place kind))) u after

  -- no lines
  at_once : (place : Place) (weight q : ℕ) (u : State) (seen : Seen) → after_store place kind ≡ [] → primary_of (width_of kind) u ≡ primary_of (width_of kind) t → AreTaken g a pushed needs (held place) c w k t c2 later u → HasTurns g turns (place_in g a q) seen → Behind place weight q
      → Follows g n (weight + 340) m (place_in g a q) u seen
  at_once place weight q u seen none same taken h behind =
      let counted : length (after_store place kind) ≡ 0 = ap length none in
      let here : q + length (after_store place kind) ≡ q = omega (arith, counted) in
      follows_weaken g n weight (weight + 340) m (place_in g a q) u seen (omega arith)
      (subst (λ y. Follows g n weight m (place_in g a y) u seen) here (behind u seen taken (value.same u same) (subst (λ y. HasTurns g turns (place_in g a y) seen) (sym here) h)))

  -- a signed character
  signed_again : (off weight q : ℕ) (u : State) (seen : Seen) → kind ≡ I.SChar → HasAt (lines_of g a) q (call SignA ∷ []) → IsBytes t → u.regs.a ≡ t.regs.a → AreTaken g a pushed needs 2 c w k t c2 later u → HasTurns g turns (place_in g a q) seen → Behind (Far off) weight q
      → Follows g n (weight + 340) m (place_in g a q) u seen
  signed_again off weight q u seen e has bytes same taken h behind =
      follows_weaken g n (256 + weight) (weight + 340) m (place_in g a q) u seen (omega arith)
      (routine g a n turns m weight q pushed needs c2 w later u seen SignA (IsKeptWith g a c2 w later u (IsWidened SignedByte u)) (omega arith) taken.ready has.0 (widenings_run g a pushed needs c2 w later u SignedByte placed taken.ready) h (λ u2 after x h2.
      let low : ax_of u % 256 ≡ ax_of t % 256 = omega (arith, same, bytes.a, bytes.x) in
      let word : ax_of u2 ≡ signed_byte (ax_of t) = x.result ∙ signed_alike (ax_of u) (ax_of t) low in
      let brought : primary_of (width_of kind) u2 ≡ narrowed kind (primary_of (width_of kind) t) = subst (λ y. primary_of (width_of y) u2 ≡ narrowed y (primary_of (width_of y) t)) (sym e) word in
      let one : length (after_store (Far off) kind) ≡ 1 = ap (λ y. length (narrow_code y)) e in
      let there : suc q ≡ q + length (after_store (Far off) kind) = omega (arith, one) in
      subst (λ y. Follows g n weight m (place_in g a y) u2 after) (sym there) (behind u2 after (taken_on g a pushed needs 2 c w k later t u u2 c2 taken x.kept) (value.brought u2 brought) (subst (λ y. HasTurns g turns (place_in g a y) after) there h2))))

  -- an unsigned one
  unsigned_again : (off weight q : ℕ) (u : State) (seen : Seen) → kind ≡ I.UChar → HasAt (lines_of g a) q (lines.value Ldx 0 ∷ []) → IsBytes t → u.regs.a ≡ t.regs.a → AreTaken g a pushed needs 2 c w k t c2 later u → HasTurns g turns (place_in g a q) seen → Behind (Far off) weight q
      → Follows g n (weight + 340) m (place_in g a q) u seen
  unsigned_again off weight q u seen e has bytes same taken h behind =
      let regs = apply false Ldx 0 u.regs in
      let u2 : State = record u { regs = regs } in
      follows_weaken g n (1 + weight) (weight + 340) m (place_in g a q) u seen (omega arith)
      (operation g a n turns m weight q Ldx Immediate (operands.Byte 0) u seen (record { there = has.0; formed = refl; calm = (ready_is_calm g a pushed needs c2 w later u taken.ready).calm; within = tt; running = taken.ready.joins.ended; given = omega arith; counted = h }) (λ b after h2.
      let word : ax_of u2 ≡ ax_of t % 256 = omega (arith, same, bytes.a, bytes.x) in
      let brought : primary_of (width_of kind) u2 ≡ narrowed kind (primary_of (width_of kind) t) = subst (λ y. primary_of (width_of y) u2 ≡ narrowed y (primary_of (width_of y) t)) (sym e) word in
      let one : length (after_store (Far off) kind) ≡ 1 = ap (λ y. length (narrow_code y)) e in
      let there : suc q ≡ q + length (after_store (Far off) kind) = omega (arith, one) in
      let kept = scratch_is_kept g a pushed needs c2 w later u u2 placed taken.ready (with_regs (sp_of u) u regs b) refl in
      subst (λ y. Follows g n weight m (place_in g a y) u2 after) (sym there) (behind u2 after (taken_on g a pushed needs 2 c w k later t u u2 c2 taken kept) (value.brought u2 brought) (subst (λ y. HasTurns g turns (place_in g a y) after) there h2))))

-- by place and type
again : (g : World) (a : Active) (pushed needs : ℕ) (c : Scene) (w : Placing) (k : Banks) (t : State) (f : Shape) (kind : IntType) (v : Value) (placed : IsPlacement g.code g.place) (value : IsKeptBy w f kind v t) (n turns : ℕ) (m : meaning.State) (c2 : Scene) (later : Banks) (place : Place) (weight q : ℕ) (u : State) (seen : Seen)
    → HasAt (lines_of g a) q (after_store place kind) → IsBytes t → IsStill place (extent_of kind) t u → AreTaken g a pushed needs (held place) c w k t c2 later u → HasTurns g turns (place_in g a q) seen
    → Behind g a pushed needs c w k t f kind v placed value n turns m c2 later place weight q → Follows g n (weight + 340) m (place_in g a q) u seen
again g a pushed needs c w k t f kind v placed value n turns m c2 later (Bank at) weight q u seen has bytes still taken h behind =
    at_once g a pushed needs c w k t f kind v placed value n turns m c2 later (Bank at) weight q u seen refl (of_kind t u kind (bank_still t u at (extent_of kind) still)) taken h behind
again g a pushed needs c w k t f kind v placed value n turns m c2 later (Near at) weight q u seen has bytes still taken h behind =
    at_once g a pushed needs c w k t f kind v placed value n turns m c2 later (Near at) weight q u seen refl (of_kind t u kind (near_still t u at (extent_of kind) still)) taken h behind
again g a pushed needs c w k t f kind v placed value n turns m c2 later (Data s at) weight q u seen has bytes still taken h behind =
    at_once g a pushed needs c w k t f kind v placed value n turns m c2 later (Data s at) weight q u seen refl (of_kind t u kind (data_still t u s at (extent_of kind) still)) taken h behind
again g a pushed needs c w k t f I.SChar v placed value n turns m c2 later (Far at) weight q u seen has bytes still taken h behind = signed_again g a pushed needs c w k t f I.SChar v placed value n turns m c2 later at weight q u seen refl has bytes still taken h behind
again g a pushed needs c w k t f I.UChar v placed value n turns m c2 later (Far at) weight q u seen has bytes still taken h behind = unsigned_again g a pushed needs c w k t f I.UChar v placed value n turns m c2 later at weight q u seen refl has bytes still taken h behind
again g a pushed needs c w k t f I.Short v placed value n turns m c2 later (Far at) weight q u seen has bytes still taken h behind = at_once g a pushed needs c w k t f I.Short v placed value n turns m c2 later (Far at) weight q u seen refl still taken h behind
again g a pushed needs c w k t f I.UShort v placed value n turns m c2 later (Far at) weight q u seen has bytes still taken h behind = at_once g a pushed needs c w k t f I.UShort v placed value n turns m c2 later (Far at) weight q u seen refl still taken h behind
again g a pushed needs c w k t f I.Int v placed value n turns m c2 later (Far at) weight q u seen has bytes still taken h behind = at_once g a pushed needs c w k t f I.Int v placed value n turns m c2 later (Far at) weight q u seen refl still taken h behind
again g a pushed needs c w k t f I.UInt v placed value n turns m c2 later (Far at) weight q u seen has bytes still taken h behind = at_once g a pushed needs c w k t f I.UInt v placed value n turns m c2 later (Far at) weight q u seen refl still taken h behind
again g a pushed needs c w k t f I.Long v placed value n turns m c2 later (Far at) weight q u seen has bytes still taken h behind = at_once g a pushed needs c w k t f I.Long v placed value n turns m c2 later (Far at) weight q u seen refl still taken h behind
again g a pushed needs c w k t f I.ULong v placed value n turns m c2 later (Far at) weight q u seen has bytes still taken h behind = at_once g a pushed needs c w k t f I.ULong v placed value n turns m c2 later (Far at) weight q u seen refl still taken h behind

-- ---- the assignment

length_both : (xs ys : List Line) → length (xs ++ ys) ≡ length xs + length ys
length_both [] ys = omega arith
length_both (x ∷ xs) ys = let h = length_both xs ys in omega (arith, h)

pub values_are_assigned : ValuesAreAssigned
values_are_assigned g a pushed needs place (Number kind) c w k t b o v n weight p work vs seen placed has r scalar fits result holds meant turns behind =
    let code = bytes_store place (extent_of kind) in
    let parts = parts_stand (lines_of g a) code (after_store place kind) p has in
    let whole : p + length code + length (after_store place kind) ≡ p + length (store_code place (access.Whole kind)) = (let h = length_both code (after_store place kind) in omega (arith, h)) in
    assignments_are_followed g a pushed needs place (Number kind) c w k t b o v n weight p work vs seen placed parts.0 r scalar fits result holds meant turns (λ j x v2 later u after lt is e h.
    let c2 = with_put c b x o (bytes_in (extent_of kind)) (new_cells (Number kind) v x.cells o) in
    follows_weaken g j (weight + 3400 + 340) (weight + 3740) (Running work (v2 ∷ vs) c2) (place_in g a (p + length code)) u after (omega arith)
    (again g a pushed needs c w k t (Number kind) kind v placed (number_kept w kind v t fits result) j c.turns (Running work (v2 ∷ vs) c2) c2 later place (weight + 3400) (p + length code) u after parts.1 r.joins.bytes is.value is.taken h (λ u2 last taken there h2.
    subst (λ y. Follows g j (weight + 3400) (Running work (v2 ∷ vs) c2) (place_in g a y) u2 last) (sym whole) (behind j x v2 later u2 last lt taken there e (subst (λ y. HasTurns g c.turns (place_in g a y) last) whole h2)))))
values_are_assigned g a pushed needs place (Pointer size) c w k t b o v n weight p work vs seen placed has r scalar fits result holds meant turns behind =
    let code = bytes_store place Two in
    let parts = parts_stand (lines_of g a) code (after_store place I.UInt) p has in
    let whole : p + length code + length (after_store place I.UInt) ≡ p + length (store_code place (access.Whole I.UInt)) = (let h = length_both code (after_store place I.UInt) in omega (arith, h)) in
    assignments_are_followed g a pushed needs place (Pointer size) c w k t b o v n weight p work vs seen placed parts.0 r scalar fits result holds meant turns (λ j x v2 later u after lt is e h.
    let c2 = with_put c b x o 2 (new_cells (Pointer size) v x.cells o) in
    follows_weaken g j (weight + 3400 + 340) (weight + 3740) (Running work (v2 ∷ vs) c2) (place_in g a (p + length code)) u after (omega arith)
    (again g a pushed needs c w k t (Pointer size) I.UInt v placed (pointer_kept w size v t fits result) j c.turns (Running work (v2 ∷ vs) c2) c2 later place (weight + 3400) (p + length code) u after parts.1 r.joins.bytes is.value is.taken h (λ u2 last taken there h2.
    subst (λ y. Follows g j (weight + 3400) (Running work (v2 ∷ vs) c2) (place_in g a y) u2 last) (sym whole) (behind j x v2 later u2 last lt taken there e (subst (λ y. HasTurns g c.turns (place_in g a y) last) whole h2)))))
values_are_assigned g a pushed needs place (Field kind low width) c w k t b o v n weight p work vs seen placed has r scalar fits result holds meant turns behind = absurd scalar
values_are_assigned g a pushed needs place (Area size) c w k t b o v n weight p work vs seen placed has r scalar fits result holds meant turns behind = absurd scalar
