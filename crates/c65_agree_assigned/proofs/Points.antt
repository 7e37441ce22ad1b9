-- The pointer behind which a place lies is read where it lies, behind the lines of a value that leave it as it is.
use Rattle.std.proofs.Common.{◌≡◌, ℕ, pos, ◌+◌, ◌*◌, ◌<◌, ◌≤◌, ◌⊎◌, inl, inr, List, ◌∷◌, Option, Some, None, Bool, true, false, refl, sym, ap, ◌∙◌, subst, arith}
use Rattle.std.specs.Prelude.{nat_le, nat_lt, ◌==◌, ◌&&◌, if◌then◌else◌, Ok, Err}
use Rattle.std.proofs.lemmas.Bool.Decides.{nat_tests}
use Rattle.c65_ctype.specs.Trees.{type_in}
use Rattle.c65_ctype.specs.Views.{types_of}
use Rattle.c65_csem.specs.Trees.{Typed, node, constant, null, literal, object, func, deref, member, load, address, decay, convert, unary, binary, both, either, choice, comma, assign, assign_op, assign_step, step, copy, call, pack, spill, rest}
use Rattle.c65_csem.specs.Places.{member_at}
use Rattle.c65_csem.specs.Typed.{IsTyped}
use Rattle.c65_meaning.specs.declared.action.Action.TheVariants.{EndedObject, OutsideObject}
use Rattle.c65_meaning.specs.Why.{By}
use Rattle.c65_meaning.specs.Store as values
use Rattle.c65_meaning.specs.Store.{Block, Value, Whole, Null, Opaque, Cells, NoValue, Pointer, is_live, block_size, size_in_store}
use Rattle.c65_meaning.specs.Operators.{unusable, named_by}
use Rattle.c65_meaning.specs.Items.{Item, Follow, Move, plan}
use Rattle.c65_ctype.specs.Sizes.{size_of}
use Rattle.c65_meaning.specs.Shapes.{bare_type, offset_of, shape_of}
use Rattle.c65_meaning.specs.State.{Scene, Running}
use Rattle.c65_meaning.specs.Step.{go_on}
use Rattle.c65_code.specs.declared.routine.Width.TheVariants.{Ax}
use Rattle.c65_code.specs.LineState.{State, ax_of, IsBytes}
use Rattle.c65_code.specs.Placement.{IsPlacement}
use Rattle.c65_code.specs.Comes.{Seen}
use Rattle.c65_genframe.specs.Frames.{Framed}
use Rattle.c65_genload.specs.declared.places.Place.{Place}
use Rattle.c65_genload.specs.declared.places.Place.TheVariants.{Bank, Near, Data, Far}
use Rattle.c65_gendirect.specs.declared.bytes.OperandByte.{OperandByte}
use Rattle.c65_gendirect.specs.declared.bytes.OperandByte.TheVariants as bytes
use Rattle.c65_gendirect.specs.declared.direct.Direct.{Direct}
use Rattle.c65_genexpr.specs.Direct.{direct_of, address_at, is_fixed}
use Rattle.c65_genexpr.specs.Places.{moved, has_base, place_of, target_of}
use Rattle.c65_genexpr.specs.Storing.{pointer_of}
use Rattle.c65_genexpr.specs.Types.{bare, offset_at}
use Rattle.c65_agree_store.specs.Stands.{At, Placing, Banks}
use Rattle.c65_agree_store.specs.Laws.{byte_of}
use Rattle.c65_agree_state.specs.World.{World, unit_in, Active, place_in, HasTurns}
use Rattle.c65_agree_state.specs.Joins.{Joins}
use Rattle.c65_agree_state.specs.Follows.{Follows}
use Rattle.c65_agree_state.specs.Exprs.{Ready, Kept, bounds_of, shape_in}
use Rattle.c65_agree_rows.proofs.Quiet.{nothing_follows}
use Rattle.c65_agree_load.proofs.Kept.{kept_later}
use Rattle.c65_agree_direct.specs.Operands.{byte_in, MayRead, HasBytes}
use Rattle.c65_agree_direct.specs.Laws.{IsFrameOf}
use Rattle.c65_agree_direct.proofs.Spots.{IsLive, live_block}
use Rattle.c65_agree_direct.proofs.Places.{behind_goes}
use Rattle.c65_agree_direct.proofs.Trees.{Addressed, addressed, IsToldOn, IsRead, trees_are_read}
use Rattle.c65_agree_direct.proofs.Values.{has_bytes, IsAboveScratch, bytes_are_above}
use Rattle.c65_agree_operate.specs.Manners.{Where}
use Rattle.c65_agree_operate_bytes.proofs.DirectLefts.{fixed_byte}
use Rattle.c65_agree_structures.specs.Bases.{IsToldBy}
use Rattle.c65_agree_structures.proofs.Bases.{far_is_meant}
use Rattle.c65_agree_structures.proofs.Members.{IsMoved, is_moved, pos_same, moves, offset_is, told_on}
use Rattle.c65_agree_access.specs.Sums.{IsClear}
use Rattle.c65_agree_access.proofs.LeftEnds.{HasTwo}

-- the state in which AX is what two bytes are that are read
abbrev pub viewed : World → State → OperandByte → OperandByte → State
viewed g t low high = record t { regs = record t.regs { a = byte_in g t low; x = byte_in g t high } }

-- in each later state, in the same scene where the lines between are of a tree that changes nothing, the place is told by these bytes
abbrev pub PointsLater : World → Active → Bool → ℕ → Scene → Placing → Banks → State → OperandByte → OperandByte → Place → Value → Type 0
PointsLater g a pure pushed c w b t low high place v = (more_needs : ℕ) (c2 : Scene) (w2 : Placing) (b2 : Banks) (u : State) → Kept g a c w b t c2 w2 b2 u → Where pure (c2 ≡ c) → Ready g a pushed more_needs c2 w2 b2 u
    → IsClear high × MayRead g u low × MayRead g u high × IsToldBy g a place c2 w2 (viewed g u low high) v

-- the work of a place takes no lines
abbrev pub IsPointed : World → Active → Bool → ℕ → (List Item → List Item) → Place → OperandByte → OperandByte → Type 0
IsPointed g a pure pushed work place low high = (needs n weight p : ℕ) (k : List Item) (vs : List Value) (c : Scene) (w : Placing) (b : Banks) (t : State) (seen : Seen)
    → Ready g a pushed needs c w b t → HasTurns g c.turns (place_in g a p) seen
    → ((j : ℕ) (v : Value) → j < n → PointsLater g a pure pushed c w b t low high place v → Follows g j (weight + 4000) (Running k (v ∷ vs) c) (place_in g a p) t seen)
    → Follows g n weight (Running (work k) vs c) (place_in g a p) t seen

-- a byte that is read is one
pub byte_small : (g : World) (t : State) (x : OperandByte) → IsBytes t → MayRead g t x → byte_in g t x < 256
byte_small g t (bytes.Number n) all may = may
byte_small g t (bytes.Low s at) all may = omega arith
byte_small g t (bytes.High s at) all may = omega arith
byte_small g t (bytes.Near at) all may = all.mem _
byte_small g t (bytes.Data s at) all may = all.mem _
byte_small g t (bytes.Zero at) all may = all.zp at

above_is_clear : (x : OperandByte) → IsAboveScratch x → IsClear x
above_is_clear (bytes.Number n) h = tt
above_is_clear (bytes.Low s at) h = tt
above_is_clear (bytes.High s at) h = tt
above_is_clear (bytes.Near at) h = tt
above_is_clear (bytes.Data s at) h = tt
above_is_clear (bytes.Zero at) h = λ e. omega (arith, h, e)

-- ---- what the pointer names

-- a live block is followed
named_live : (g : World) (a : Active) (n weight p : ℕ) (k : List Item) (vs : List Value) (c : Scene) (t : State) (seen : Seen) (v : Value)
    → ((m o : ℕ) → v ≡ values.Place m o → is_live c.store m ≡ true → Follows g n weight (Running k (values.Place m o ∷ vs) c) (place_in g a p) t seen)
    → Follows g n weight (go_on (named_by c.store v) k vs c) (place_in g a p) t seen
named_live g a n weight p k vs c t seen (values.Place m o) goes = go (is_live c.store m) refl
  where
    go : (live : Bool) → is_live c.store m ≡ live → Follows g n weight (go_on (if live then Ok (values.Place m o) else Err (By EndedObject)) k vs c) (place_in g a p) t seen
    go true e = goes m o refl e
    go false e = nothing_follows g (By EndedObject) n weight (place_in g a p) t seen
named_live g a n weight p k vs c t seen Null goes = nothing_follows g (By OutsideObject) n weight (place_in g a p) t seen
named_live g a n weight p k vs c t seen (Whole z) goes = nothing_follows g (unusable (Whole z)) n weight (place_in g a p) t seen
named_live g a n weight p k vs c t seen Opaque goes = nothing_follows g (unusable Opaque) n weight (place_in g a p) t seen
named_live g a n weight p k vs c t seen (Cells xs) goes = nothing_follows g (unusable (Cells xs)) n weight (place_in g a p) t seen
named_live g a n weight p k vs c t seen NoValue goes = nothing_follows g (unusable NoValue) n weight (place_in g a p) t seen

-- the bytes of an address tell its block
told_by : (g : World) (a : Active) (c : Scene) (w : Placing) (u : State) (low high : OperandByte) (m o x word : ℕ) → w m ≡ Some (At x) → word ≡ x + o → word < 65536 → byte_in g u low ≡ byte_of 0 word → byte_in g u high ≡ byte_of 1 word → IsToldBy g a (Far 0) c w (viewed g u low high) (values.Place m o)
told_by g a c w u low high m o x word place is small first second =
    let sum : ax_of (viewed g u low high) ≡ x + o = ap (λ n. n + 256 * byte_in g u high) first ∙ ap (λ n. byte_of 0 word + 256 * n) second ∙ whole word small ∙ is in
    (far_is_meant g a c w (viewed g u low high) m o (x, place, sum), omega arith, tt)
  where
    whole : (n : ℕ) → n < 65536 → byte_of 0 n + 256 * byte_of 1 n ≡ n
    whole n lt = omega (arith, lt)

module _ (g : World) (a : Active) (pure : Bool) (pushed : ℕ) (placed : IsPlacement g.code g.place) (low high : OperandByte) where
  -- ---- a pointer

  module _ (d : Direct) (two : HasTwo d low high) (needs : ℕ) (c : Scene) (w : Placing) (b : Banks) (t : State) (r : Ready g a pushed needs c w b t) (m o : ℕ) (live : is_live c.store m ≡ true) (told : IsToldOn g a pushed c w Ax d (values.Place m o)) where
    clear : IsClear high
    clear = above_is_clear high (bytes_are_above g a c w t Ax d (values.Place m o) 1 high (omega arith) (told needs w b t (λ l q same. same) r) two.second)

    -- which nothing changes
    fixed_points : is_fixed (Some d) ≡ true → PointsLater g a pure pushed c w b t low high (Far 0) (values.Place m o)
    fixed_points fixed more_needs c2 w2 b2 u kept scene ready =
        let h : HasBytes g c.store w t Ax d (values.Place m o) = has_bytes g a c w t r.joins.bytes Ax d (values.Place m o) (told needs w b t (λ l q same. same) r) in
        let first = fixed_byte g t u d 0 (byte_of 0 h.word) low fixed two.first (h.bytes 0 low (omega arith) two.first) in
        let second = fixed_byte g t u d 1 (byte_of 1 h.word) high fixed two.second (h.bytes 1 high (omega arith) two.second) in
        (clear, first.0, second.0, told_by g a c2 w2 u low high m o h.is.0 h.word (kept.grows m (At h.is.0) h.is.1) h.is.2 (h.fits live) first.1 second.1)

    -- or the lines between leave the scene
    pure_points : pure ≡ true → PointsLater g a pure pushed c w b t low high (Far 0) (values.Place m o)
    pure_points is more_needs c2 w2 b2 u kept scene ready =
        let same : c2 ≡ c = subst (λ z. Where z (c2 ≡ c)) is scene in
        let h : HasBytes g c.store w2 u Ax d (values.Place m o) = has_bytes g a c w2 u ready.joins.bytes Ax d (values.Place m o) (told more_needs w2 b2 u kept.grows (subst (λ z. Ready g a pushed more_needs z w2 b2 u) same ready)) in
        let first = h.bytes 0 low (omega arith) two.first in
        let second = h.bytes 1 high (omega arith) two.second in
        (clear, first.0, second.0, told_by g a c2 w2 u low high m o h.is.0 h.word h.is.1 h.is.2 (h.fits live) first.1 second.1)

    either_points : (is_fixed (Some d) ≡ true) ⊎ (pure ≡ true) → PointsLater g a pure pushed c w b t low high (Far 0) (values.Place m o)
    either_points (inl fixed) = fixed_points fixed
    either_points (inr is) = pure_points is

  target_points : (work : List Item → List Item) (size : ℕ) (d : Direct) → HasTwo d low high → (is_fixed (Some d) ≡ true) ⊎ (pure ≡ true) → IsRead g a pushed (Pointer size) work d → IsPointed g a pure pushed (λ k. work (Follow ∷ k)) (Far 0) low high
  target_points work size d two stays reads needs n weight p k vs c w b t seen r turns later =
      reads needs n weight (Follow ∷ k) vs c w b (place_in g a p) t seen r turns (λ j v lt fit told.
      behind_goes g a pushed needs j weight Follow k (v ∷ vs) c w b (place_in g a p) t seen r turns (λ i less.
      named_live g a i (weight + 4000) p k vs c t seen v (λ m o same live.
      later i (values.Place m o) (omega (arith, lt, less)) (either_points d two needs c w b t r m o live (subst (IsToldOn g a pushed c w Ax d) same told) stays))))

  -- ---- a member

  module _ (needs : ℕ) (c : Scene) (w : Placing) (b : Banks) (t : State) (r : Ready g a pushed needs c w b t) (place : Place) (off : ℕ) (has : has_base place off ≡ true) (m o : ℕ) (x : Value) (moved_to : IsMoved c.store m o (pos off) x) (points : PointsLater g a pure pushed c w b t low high place (values.Place m o)) where
    live : IsLive c.store m
    live = live_block c.store m moved_to.live

    begun : m < c.next
    begun = go (nat_lt m c.next) refl
      where
        go : (before : Bool) → nat_lt m c.next ≡ before → m < c.next
        go true e = grind (arith, nat_tests)
        go false e =
            let le : c.next ≤ m = grind (arith, nat_tests) in
            let there = r.joins.stands.placed m live.block live.is live.live in
            let none : Some there.0 ≡ None = sym there.1 ∙ r.joins.fresh m le in
            absurd cc

    same_size : (p q : Option Block) → bounds_of p ≡ bounds_of q → size_in_store p ≡ size_in_store q
    same_size (Some p) (Some q) e = let same : (p.size, p.live) ≡ (q.size, q.live) = cc in ap (λ (z : ℕ × Bool). z.0) same
    same_size (Some p) None e = absurd cc
    same_size None (Some q) e = absurd cc
    same_size None None e = refl

    part_points : PointsLater g a pure pushed c w b t low high (moved place off) x
    part_points more_needs c2 w2 b2 u kept scene ready =
        let old = points more_needs c2 w2 b2 u kept scene ready in
        let same : IsBytes u = ready.joins.bytes in
        let view : IsBytes (viewed g u low high) = record { a = byte_small g u low same old.1; x = byte_small g u high same old.2; y = same.y; zp = same.zp; mem = same.mem; pushed = same.pushed; frames = same.frames } in
        let joins : Joins g a c2 w2 b2 (viewed g u low high) = (kept_later g a pushed more_needs c2 w2 b2 u placed ready (viewed g u low high).regs u.zp (λ i e. refl) view).joins in
        let size : block_size c2.store m ≡ block_size c.store m = same_size (c2.store m) (c.store m) (kept.bounds m begun) in
        let to_is : moved_to.to ≡ o + off = sym (pos_same (o + off) moved_to.to moved_to.sum) in
        let inside : moved_to.to ≤ block_size c2.store m = subst (λ n. moved_to.to ≤ n) (sym size) moved_to.inside in (
          old.0,
          old.1,
          old.2,
          subst (IsToldBy g a (moved place off) c2 w2 (viewed g u low high)) (sym moved_to.is)
              (told_on g a c2 w2 b2 (viewed g u low high) joins m o off moved_to.to inside (λ low_enough. omega (arith, to_is, low_enough)) place has old.3),
        )

  member_points : (work : List Item → List Item) (place : Place) (off : ℕ) → has_base place off ≡ true → IsPointed g a pure pushed work place low high → IsPointed g a pure pushed (λ k. work (Move off ∷ k)) (moved place off) low high
  member_points work place off has whole needs n weight p k vs c w b t seen r turns later =
      whole needs n weight p (Move off ∷ k) vs c w b t seen r turns (λ j v lt points.
      behind_goes g a pushed needs j weight (Move off) k (v ∷ vs) c w b (place_in g a p) t seen r turns (λ i less.
      moves g a i (weight + 4000) p k vs c t seen (pos off) v (λ m o x same e.
      later i x (omega (arith, lt, less)) (part_points needs c w b t r place off has m o x (is_moved c.store m o (pos off) x e) (subst (PointsLater g a pure pushed c w b t low high place) same points)))))

-- ---- by the tree

-- a place whose address takes lines of code
abbrev pub IsFar : Place → Type 0
IsFar (Far at) = Unit {0}
IsFar place = ⊥

far_whole : (place : Place) (n : ℕ) → has_base place n ≡ true → IsFar (moved place n) → IsFar place
far_whole (Far at) n has far = tt
far_whole (Data s at) n has far = absurd far
far_whole (Near at) n has far = go (nat_le n 252) (nat_le (at + n) 252) has far
  where
    go : (first second : Bool) → first && second ≡ true → IsFar (if first then (if second then Near (at + n) else Far 0) else Far 0) → ⊥
    go true true e far = far
    go true false e far = cc
    go false second e far = cc
far_whole (Bank at) n has far = go (n == 0) has far
  where
    go : (none : Bool) → none ≡ true → IsFar (if none then Bank at else Far 0) → ⊥
    go true e far = far
    go false e far = cc

no_far : (place : Place) (d : Direct) → address_at place ≡ Some d → IsFar place → ⊥
no_far (Data s at) d e far = far
no_far (Near at) d e far = far
no_far (Bank at) d e far = far
no_far (Far at) d e far = cc

-- of an address that is read only a function's is anywhere
address_target : (f : Framed) (pushed : ℕ) (e : Typed) (d : Direct) → Addressed f pushed e d → IsFar (place_of f pushed e) → place_of f pushed e ≡ Far 0
address_target f pushed e d (Addressed.of_function t i same is) far = ap (place_of f pushed) same
address_target f pushed e d (Addressed.of_place plain there) far = absurd (no_far (place_of f pushed e) d there far)

pointer_target : (f : Framed) (pushed : ℕ) (e : Typed) (d : Direct) → direct_of f pushed e ≡ Some d → IsFar (target_of f pushed e) → target_of f pushed e ≡ Far 0
pointer_target f pushed (node t (address e)) d is far = address_target f pushed e d (addressed f pushed d e is) far
pointer_target f pushed (node t (decay e)) d is far = address_target f pushed e d (addressed f pushed d e is) far
pointer_target f pushed (node t (binary op x y)) d is far = absurd cc
pointer_target f pushed (node t (constant z)) d is far = refl
pointer_target f pushed (node t null) d is far = refl
pointer_target f pushed (node t (literal n)) d is far = refl
pointer_target f pushed (node t (object i)) d is far = refl
pointer_target f pushed (node t (func i)) d is far = refl
pointer_target f pushed (node t (deref e)) d is far = refl
pointer_target f pushed (node t (member e m)) d is far = refl
pointer_target f pushed (node t (load e)) d is far = refl
pointer_target f pushed (node t (convert e)) d is far = refl
pointer_target f pushed (node t (unary op e)) d is far = refl
pointer_target f pushed (node t (both x y)) d is far = refl
pointer_target f pushed (node t (either x y)) d is far = refl
pointer_target f pushed (node t (choice x y z)) d is far = refl
pointer_target f pushed (node t (comma x y)) d is far = refl
pointer_target f pushed (node t (assign x y)) d is far = refl
pointer_target f pushed (node t (assign_op op k x y)) d is far = refl
pointer_target f pushed (node t (assign_step op x y)) d is far = refl
pointer_target f pushed (node t (step how e)) d is far = refl
pointer_target f pushed (node t (copy x y)) d is far = refl
pointer_target f pushed (node t (call e es)) d is far = refl
pointer_target f pushed (node t (pack e)) d is far = refl
pointer_target f pushed (node t (spill i e)) d is far = refl
pointer_target f pushed (node t rest) d is far = refl

module _ (g : World) (a : Active) (pure : Bool) (pushed : ℕ) (placed : IsPlacement g.code g.place) (frame : IsFrameOf g a) (d : Direct) (low high : OperandByte) (two : HasTwo d low high) (stays : (is_fixed (Some d) ≡ true) ⊎ (pure ≡ true)) where
  pub places_are_pointed : (e : Typed) → IsTyped (unit_in g) e → pointer_of a.frame pushed e ≡ Some d → IsFar (place_of a.frame pushed e) → IsPointed g a pure pushed (plan (unit_in g) e) (place_of a.frame pushed e) low high
  places_are_pointed (node t (deref e)) typed is far =
      let pointer : shape_in g a e ≡ Pointer (size_of (unit_in g).types (type_in t)) = ap (λ q. shape_of (unit_in g).types (type_in q)) typed.2 in
      let reads : IsRead g a pushed (Pointer (size_of (unit_in g).types (type_in t))) (plan (unit_in g) e) d = subst (λ f. IsRead g a pushed f (plan (unit_in g) e) d) pointer (trees_are_read g a pushed placed frame e d typed.0 is) in
      subst (λ z. IsPointed g a pure pushed (λ k. plan (unit_in g) e (Follow ∷ k)) z low high) (sym (pointer_target a.frame pushed e d is far))
      (target_points g a pure pushed placed low high (plan (unit_in g) e) (size_of (unit_in g).types (type_in t)) d two stays reads)
  places_are_pointed (node t (member e m)) typed is far = by_base (λ h near. places_are_pointed e typed.0 h near) (has_base (place_of a.frame pushed e) (offset_at (types_of a.frame.parts.types) (bare e) m)) refl is
    where
      by_base : (pointer_of a.frame pushed e ≡ Some d → IsFar (place_of a.frame pushed e) → IsPointed g a pure pushed (plan (unit_in g) e) (place_of a.frame pushed e) low high) → (has : Bool) → has_base (place_of a.frame pushed e) (offset_at (types_of a.frame.parts.types) (bare e) m) ≡ has → (if has then pointer_of a.frame pushed e else None) ≡ Some d
          → IsPointed g a pure pushed (plan (unit_in g) (node t (member e m))) (place_of a.frame pushed (node t (member e m))) low high
      by_base whole true has is =
          let off : ℕ = offset_of (member_at (unit_in g).types (bare_type e) m) in
          let place : Place = place_of a.frame pushed e in
          let same : offset_at (types_of a.frame.parts.types) (bare e) m ≡ off = offset_is g a e m frame.parts in
          subst (λ n. IsPointed g a pure pushed (λ k. plan (unit_in g) e (Move off ∷ k)) (moved place n) low high) (sym same)
          (member_points g a pure pushed placed low high (plan (unit_in g) e) place off (subst (λ n. has_base place n ≡ true) same has)
          (whole is (far_whole place (offset_at (types_of a.frame.parts.types) (bare e) m) has far)))
      by_base whole false has is = absurd cc
  places_are_pointed (node t (constant z)) typed is far = absurd cc
  places_are_pointed (node t null) typed is far = absurd cc
  places_are_pointed (node t (literal n)) typed is far = absurd cc
  places_are_pointed (node t (object i)) typed is far = absurd cc
  places_are_pointed (node t (func i)) typed is far = absurd cc
  places_are_pointed (node t (load e)) typed is far = absurd cc
  places_are_pointed (node t (address e)) typed is far = absurd cc
  places_are_pointed (node t (decay e)) typed is far = absurd cc
  places_are_pointed (node t (convert e)) typed is far = absurd cc
  places_are_pointed (node t (unary op e)) typed is far = absurd cc
  places_are_pointed (node t (binary op x y)) typed is far = absurd cc
  places_are_pointed (node t (both x y)) typed is far = absurd cc
  places_are_pointed (node t (either x y)) typed is far = absurd cc
  places_are_pointed (node t (choice x y z)) typed is far = absurd cc
  places_are_pointed (node t (comma x y)) typed is far = absurd cc
  places_are_pointed (node t (assign x y)) typed is far = absurd cc
  places_are_pointed (node t (assign_op op k x y)) typed is far = absurd cc
  places_are_pointed (node t (assign_step op x y)) typed is far = absurd cc
  places_are_pointed (node t (step how e)) typed is far = absurd cc
  places_are_pointed (node t (copy x y)) typed is far = absurd cc
  places_are_pointed (node t (call e es)) typed is far = absurd cc
  places_are_pointed (node t (pack e)) typed is far = absurd cc
  places_are_pointed (node t (spill i e)) typed is far = absurd cc
  places_are_pointed (node t rest) typed is far = absurd cc
