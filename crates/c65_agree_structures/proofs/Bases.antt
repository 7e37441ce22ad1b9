-- Bases of places.
use Rattle.std.proofs.Common.{◌≡◌, ℕ, zero, suc, ◌+◌, ◌<◌, ◌≤◌, List, [], ◌∷◌, ◌++◌, Option, Some, None, Bool, true, false, refl, sym, ap, ◌∙◌, subst, arith}
use Rattle.std.specs.Prelude.{nat_le, if◌then◌else◌, Ok, length}
use Rattle.std.proofs.lemmas.Bool.Decides.{nat_tests}
use Rattle.c65_ctype.specs.Trees.{QTy}
use Rattle.c65_csem.specs.Trees.{Typed, node, Node, constant, null, literal, object, func, deref, member, load, address, decay, convert, unary, binary, both, either, choice, comma, assign, assign_op, assign_step, step, copy, call, pack, spill, rest as further}
use Rattle.c65_csem.specs.Places.{is_place, is_registered}
use Rattle.c65_csem_need.specs.Needs.{need}
use Rattle.c65_meaning.specs.Why.{Unfit}
use Rattle.c65_meaning.specs.Store as values
use Rattle.c65_meaning.specs.Store.{Block, Value, Whole, Null, Opaque, Cells, NoValue, Shape, Area}
use Rattle.c65_meaning.specs.Items.{Item, Name, plan}
use Rattle.c65_meaning.specs.Shapes.{object_block, object_in, lives_in_frame}
use Rattle.c65_meaning.specs.State.{Scene, Running, block_in}
use Rattle.c65_meaning.specs.Step as steps
use Rattle.c65_meaning.specs.Step.{go_on}
use Rattle.c65_code.specs.declared.line.Line.{Line}
use Rattle.c65_code.specs.LineState.{State, sp_of, ax_of, IsBytes}
use Rattle.c65_code.specs.Placement.{IsPlacement}
use Rattle.c65_code.specs.Comes.{Seen}
use Rattle.c65_genframe.specs.declared.home.Home.{Home}
use Rattle.c65_genframe.specs.declared.home.Home.TheVariants as homes
use Rattle.c65_genframe.specs.Frames.{Framed, home_of, is_raised}
use Rattle.c65_genframe.specs.Symbols.{numbers_of, object_symbol}
use Rattle.c65_genload.specs.declared.places.Place.{Place}
use Rattle.c65_genload.specs.declared.places.Place.TheVariants.{Near, Data, Far}
use Rattle.c65_genload.specs.Addresses.{address_code}
use Rattle.c65_genexpr.specs.declared.destination.Destination.TheVariants.{Registers}
use Rattle.c65_genexpr.specs.declared.wanted.Wanted.TheVariants as wanted
use Rattle.c65_genexpr.specs.Places.{more, soft_place, place_at, place_of, soft_code, code_at, target_code}
use Rattle.c65_genexpr.specs.Code.{node_code, base_code}
use Rattle.c65_agree_store.specs.Stands.{Spot, At, Banked, Placing, Banks, ValueIs, LiesIn, IsAt, beyond}
use Rattle.c65_agree_state.specs.Fixed.{symbol_at}
use Rattle.c65_agree_state.specs.Joins.{spot_of}
use Rattle.c65_agree_state.specs.World.{World, unit_in, Active, lines_of, place_in, HasAt, HasTurns}
use Rattle.c65_agree_state.specs.Follows.{Follows}
use Rattle.c65_agree_state.specs.Exprs.{Ready, Kept, Yield, Valued, Placed, Registered, is_area, yield_of, MayFit, ResultIs, Does, shape_in, width_in}
use Rattle.c65_agree_state.proofs.Followed.{follows_weaken, steps_earn, ready_is_calm}
use Rattle.c65_agree_places.specs.Places.{spot_in, home_place, IsReached}
use Rattle.c65_agree_places.proofs.Spots.{objects_are_at_home, objects_are_at_symbols}
use Rattle.c65_agree_rows.proofs.Quiet.{nothing_follows}
use Rattle.c65_agree_frame.proofs.Entries.{append_end}
use Rattle.c65_agree_load.specs.Loads.{IsMeantThere}
use Rattle.c65_agree_load.specs.Objects.{IsHomed}
use Rattle.c65_agree_load.proofs.Kept.{is_on, kept_later}
use Rattle.c65_agree_structures.specs.Bases.{IsStanding, IsToldBy, AddressesAreBases, ObjectsAreBases}
use Rattle.c65_agree_registers.proofs.Addresses.{address_regs, address_is, address_leads}

-- ---- an address in AX

-- the lines of such a tree are those of its value
module _ (f : Framed) (pushed fresh : ℕ) where
  abbrev IsOwnBase : QTy → Node → Type 0
  IsOwnBase t n = (base_code f pushed fresh Registers (node t n) ≡ node_code f pushed fresh wanted.Value t n) × (place_of f pushed (node t n) ≡ Far 0)

  own_base : (t : QTy) (n : Node) → is_place (node t n) ≡ false → IsOwnBase t n
  own_base t (constant z) h = (append_end (node_code f pushed fresh wanted.Value t (constant z)), refl)
  own_base t null h = (append_end (node_code f pushed fresh wanted.Value t null), refl)
  own_base t (literal n) h = absurd cc
  own_base t (object i) h = absurd cc
  own_base t (func i) h = absurd cc
  own_base t (deref e) h = absurd cc
  own_base t (member e m) h = absurd cc
  own_base t (load e) h = (append_end (node_code f pushed fresh wanted.Value t (load e)), refl)
  own_base t (address e) h = (append_end (node_code f pushed fresh wanted.Value t (address e)), refl)
  own_base t (decay e) h = (append_end (node_code f pushed fresh wanted.Value t (decay e)), refl)
  own_base t (convert e) h = (append_end (node_code f pushed fresh wanted.Value t (convert e)), refl)
  own_base t (unary op e) h = (append_end (node_code f pushed fresh wanted.Value t (unary op e)), refl)
  own_base t (binary op x y) h = (append_end (node_code f pushed fresh wanted.Value t (binary op x y)), refl)
  own_base t (both x y) h = (append_end (node_code f pushed fresh wanted.Value t (both x y)), refl)
  own_base t (either x y) h = (append_end (node_code f pushed fresh wanted.Value t (either x y)), refl)
  own_base t (choice x y z) h = (append_end (node_code f pushed fresh wanted.Value t (choice x y z)), refl)
  own_base t (comma x y) h = (append_end (node_code f pushed fresh wanted.Value t (comma x y)), refl)
  own_base t (assign x y) h = (append_end (node_code f pushed fresh wanted.Value t (assign x y)), refl)
  own_base t (assign_op op k x y) h = (append_end (node_code f pushed fresh wanted.Value t (assign_op op k x y)), refl)
  own_base t (assign_step op x y) h = (append_end (node_code f pushed fresh wanted.Value t (assign_step op x y)), refl)
  own_base t (step k x) h = (append_end (node_code f pushed fresh wanted.Value t (step k x)), refl)
  own_base t (copy x y) h = (append_end (node_code f pushed fresh wanted.Value t (copy x y)), refl)
  own_base t (call x es) h = (append_end (node_code f pushed fresh wanted.Value t (call x es)), refl)
  own_base t (pack x) h = (append_end (node_code f pushed fresh wanted.Value t (pack x)), refl)
  own_base t (spill i x) h = (append_end (node_code f pushed fresh wanted.Value t (spill i x)), refl)
  own_base t further h = (append_end (node_code f pushed fresh wanted.Value t further), refl)

-- a block whose address is in AX
module _ (g : World) (a : Active) (c : Scene) (w : Placing) (t : State) where
  far_meant : (b o : ℕ) → ValueIs w 65536 (values.Place b o) (ax_of t) → IsMeantThere g a c w t (Far 0) b o
  far_meant b o result x q is =
      let one : Some q ≡ Some (At result.0) = sym is.place ∙ result.1 in
      let same : q ≡ At result.0 = cc in
      let there : ax_of t + 0 ≡ result.0 + o = omega (arith, result.2) in
      (subst (IsReached a) (sym same) tt, ap At there ∙ ap (λ s. beyond s o) (sym same))

  pub far_is_meant : (b o : ℕ) → ValueIs w 65536 (values.Place b o) (ax_of t) → IsStanding g a c w t (Far 0) b o
  far_is_meant b o result = ((At result.0, result.1), far_meant b o result)

  -- as the value of a structure or union is its place or its cells
  far_is_told : (size : ℕ) (in_memory : Bool) (v : Value) → ResultIs (if in_memory then Placed else Valued) w (width_in (Area size)) v t → MayFit (if in_memory then Placed else Valued) (Area size) v → IsToldBy g a (Far 0) c w t v
  far_is_told size true (values.Place b o) result fits = (far_is_meant b o result, omega arith, tt)
  far_is_told zero false (values.Place b o) result fits = absurd cc
  far_is_told (suc n) false (values.Place b o) result fits = absurd fits
  far_is_told size in_memory (Whole z) result fits = tt
  far_is_told size in_memory Null result fits = tt
  far_is_told size in_memory Opaque result fits = tt
  far_is_told size in_memory (Cells xs) result fits = tt
  far_is_told size in_memory NoValue result fits = tt

no_name : (g : World) (e : Typed) → is_place e ≡ false → yield_of (unit_in g) e ≡ (if is_area e then Placed else Valued)
no_name g e h = ap (λ (b : Bool). if b then (if is_registered (unit_in g) e then Registered else Placed) else (if is_area e then Placed else Valued)) h

pub addresses_are_bases : AddressesAreBases
addresses_are_bases g a size (node s inner) plain shape does pushed fresh n w p k vs c q b t seen has r turned rest =
    let e : Typed = node s inner in
    let own = own_base a.frame pushed fresh s inner plain in
    let lines : List Line = node_code a.frame pushed fresh wanted.Value s inner in
    let area_does : Does g a (if is_area e then Placed else Valued) (Area size) (plan (unit_in g) e) (need e) pushed lines =
    subst (λ (f : Shape). Does g a (if is_area e then Placed else Valued) f (plan (unit_in g) e) (need e) pushed lines) shape (subst (λ (y : Yield). Does g a y (shape_in g a e) (plan (unit_in g) e) (need e) pushed lines) (no_name g e plain) (does pushed fresh)) in
    area_does n w p k vs c q b t seen (subst (HasAt (lines_of g a) p) own.0 has) r turned (λ j v c2 q2 b2 u later lt done turned2.
    subst (λ (ls : List Line). Follows g j (w + 2600) (Running k (v ∷ vs) c2) (place_in g a (p + length ls)) u later) own.0
    (rest j v c2 q2 b2 u later lt done.kept (subst (λ place. IsToldBy g a place c2 q2 u v) (sym own.1) (far_is_told g a c2 q2 u size (is_area e) v done.result done.fits)) (subst (λ (ls : List Line). HasTurns g c2.turns (place_in g a (p + length ls)) later) (sym own.0) turned2)))

-- ---- objects

beyond_none : (s : Spot) → s ≡ beyond s 0
beyond_none (At at) = ap At (omega arith)
beyond_none (Banked d i) = ap (Banked d) (omega arith)

module _ (g : World) (a : Active) (t : QTy) (i : ℕ) (placed : IsPlacement g.code g.place) (parts : a.frame.parts ≡ g.parts) (homed : IsHomed g a i) (memory : (b : ℕ) → home_of a.frame i ≡ Some (homes.Bank b) → ⊥) (pushed n w p : ℕ) (k : List Item) (vs : List Value) (c : Scene) (q : Placing) (b : Banks) (s : State) (seen : Seen)
    (r : Ready g a pushed 0 c q b s) (turned : HasTurns g c.turns (place_in g a p) seen) where
  abbrev Behind : Place → List Line → Type 0
  Behind place lines = (j : ℕ) (v : Value) (c2 : Scene) (q2 : Placing) (b2 : Banks) (u : State) (later : Seen) → j < n → Kept g a c q b s c2 q2 b2 u → IsToldBy g a place c2 q2 u v → HasTurns g c2.turns (place_in g a (p + length lines)) later
      → Follows g j (w + 2600) (Running k (v ∷ vs) c2) (place_in g a (p + length lines)) u later

  itself : Kept g a c q b s c q b s
  itself = record { joins = r.joins; sp = refl; frames = refl; next = omega arith; bounds = λ d lt. refl; grows = λ d z e. e; kept = λ m le f. (refl, f); banks = λ d m lt. refl; own_bank = λ m le. refl; none_pushed = r.none_pushed }

  -- the block of the object stands at its home
  module _ (m : ℕ) (stood : (z : Spot) × (q m ≡ Some z)) (home : (x : Block) (z : Spot) → IsAt c.store q m x z → z ≡ spot_in g a s (home_place g pushed i (home_of a.frame i))) (j : ℕ) (lt : j < n) where
    abbrev Goes : Place → List Line → Type 0
    Goes place lines = HasAt (lines_of g a) p lines → Behind place lines → Follows g j (w + 4000) (Running k (values.Place m 0 ∷ vs) c) (place_in g a p) s seen

    -- without a line
    none_goes : (place : Place) → IsToldBy g a place c q s (values.Place m 0) → Goes place []
    none_goes place told has rest =
        let ends : p ≡ p + 0 = omega arith in
        subst (λ z. Follows g j (w + 4000) (Running k (values.Place m 0 ∷ vs) c) (place_in g a z) s seen) (sym ends)
        (follows_weaken g j (w + 2600) (w + 4000) (Running k (values.Place m 0 ∷ vs) c) (place_in g a (p + 0)) s seen (omega arith)
        (rest j (values.Place m 0) c q b s seen lt itself told (subst (λ z. HasTurns g c.turns (place_in g a z) seen) ends turned)))

    at_symbol : home_of a.frame i ≡ None → IsToldBy g a (Data (object_symbol (numbers_of g.parts) i) 0) c q s (values.Place m 0)
    at_symbol e = (
      (
        stood,
        λ x z at.
            let there : z ≡ spot_in g a s (Data (object_symbol (numbers_of g.parts) i) 0) = home x z at ∙ ap (λ h. spot_in g a s (home_place g pushed i h)) e in
            (subst (IsReached a) (sym there) tt, sym there ∙ beyond_none z),
      ),
      omega arith,
      tt,
    )

    -- in the frame, where a live block lies below the end of memory
    module _ (d : ℕ) (e : home_of a.frame i ≡ Some (homes.Soft d)) where
      abbrev at : ℕ
      at = more d pushed

      in_frame : (x : Block) (z : Spot) → IsAt c.store q m x z → z ≡ At (sp_of s + (d + pushed))
      in_frame x z is = home x z is ∙ ap (λ h. spot_in g a s (home_place g pushed i h)) e

      is_low : (x : Block) (z : Spot) → IsAt c.store q m x z → (at ≡ d + pushed) × (sp_of s + at < 65536)
      is_low x z is =
          let lies : LiesIn (At (sp_of s + (d + pushed))) x.size = subst (λ y. LiesIn y x.size) (in_frame x z is) (r.joins.stands.lies m x z is) in
          let same : at ≡ d + pushed = omega (arith, lies.1) in
          (same, omega (arith, lies.1, same))

      near_told : at ≤ 252 → IsToldBy g a (Near at) c q s (values.Place m 0)
      near_told few = (
        (
          stood,
          λ x z is.
              let low = is_low x z is in
              let there : z ≡ At (sp_of s + at) = in_frame x z is ∙ ap (λ y. At (sp_of s + y)) (sym low.0) in
              (subst (IsReached a) (sym there) tt, sym there ∙ beyond_none z),
        ),
        few,
        tt,
      )

      -- behind the lines of its address
      far_told : (u : State) → u ≡ record s { regs = address_regs s at } → IsToldBy g a (Far 0) c q u (values.Place m 0)
      far_told u is_u = (
        (
          stood,
          λ x z is.
              let low = is_low x z is in
              let ax : ax_of u ≡ sp_of s + at = ap ax_of is_u ∙ address_is s at (r.joins.bytes.zp 0) low.1 in
              let same = low.0 in
              let word : ax_of u + 0 ≡ sp_of s + (d + pushed) = omega (arith, ax, same) in
              let there : At (ax_of u + 0) ≡ z = ap At word ∙ sym (in_frame x z is) in
              (subst (IsReached a) (sym (in_frame x z is)) tt, there ∙ beyond_none z),
        ),
        omega arith,
        tt,
      )

      far_goes : Goes (Far 0) (address_code at ++ [])
      far_goes has rest =
          let lines : List Line = address_code at in
          follows_weaken g j (8 + (w + 2600)) (w + 4000) (Running k (values.Place m 0 ∷ vs) c) (place_in g a p) s seen (omega arith)
          (address_leads s at g a placed (is_on g a pushed 0 c q b s placed r) (omega arith) j (w + 2600) p c.turns (Running k (values.Place m 0 ∷ vs) c) seen has turned (λ u later h turned2.
          rest j (values.Place m 0) c q b u later lt (rw h.0 (kept_later g a pushed 0 c q b s placed r (address_regs s at) s.zp (λ z side. refl) (subst IsBytes h.0 h.1))) (far_told u h.0) turned2))

      by_height : (few : Bool) → nat_le at 252 ≡ few → Goes (if few then Near at else Far 0) (target_code (if few then Near at else Far 0) (address_code at ++ []))
      by_height true h = none_goes (Near at) (near_told (grind (arith, nat_tests)))
      by_height false h = far_goes

      soft_goes : Goes (soft_place (is_raised a.frame i) at) (target_code (soft_place (is_raised a.frame i) at) (soft_code (is_raised a.frame i) pushed at a.frame.stacked ++ []))
      soft_goes = subst (λ raised. Goes (soft_place raised at) (target_code (soft_place raised at) (soft_code raised pushed at a.frame.stacked ++ []))) (sym homed.low) (by_height (nat_le at 252) refl)

    by_home : (h : Option Home) → home_of a.frame i ≡ h → Goes (place_at a.frame pushed i h) (target_code (place_at a.frame pushed i h) (code_at a.frame pushed i h ++ []))
    by_home None e = subst (λ ps. Goes (Data (object_symbol (numbers_of ps) i) 0) []) (sym parts) (none_goes (Data (object_symbol (numbers_of g.parts) i) 0) (at_symbol e))
    by_home (Some (homes.Bank d)) e = absurd (memory d e)
    by_home (Some (homes.Soft d)) e = soft_goes d e

  abbrev base : List Line
  base = base_code a.frame pushed 0 Registers (node t (object i))

  abbrev place : Place
  place = place_of a.frame pushed (node t (object i))

  module _ (has : HasAt (lines_of g a) p base) (rest : Behind place base) (j : ℕ) (lt : j < n) where
    own_goes : (m : Option ℕ) → block_in c.frames i ≡ m → Follows g j (w + 4000) (go_on (steps.place_in m) k vs c) (place_in g a p) s seen
    own_goes None e = nothing_follows g Unfit j (w + 4000) (place_in g a p) s seen
    own_goes (Some m) e = by_home m (spot_of g a i, r.joins.homes i m e) (λ x z is. objects_are_at_home g a pushed 0 c q b s i m x z r e is homed.low) j lt (home_of a.frame i) refl has rest

    fixed_goes : lives_in_frame (object_in (unit_in g) i) ≡ false → Follows g j (w + 4000) (Running k (values.Place (object_block (unit_in g) i) 0 ∷ vs) c) (place_in g a p) s seen
    fixed_goes lasts =
        let home : home_place g pushed i (home_of a.frame i) ≡ Data (object_symbol (numbers_of g.parts) i) 0 = ap (home_place g pushed i) (homed.fixed lasts).0 in
        by_home (object_block (unit_in g) i) (At (symbol_at g i), r.joins.symbols.objects i lasts (homed.fixed lasts).1) (λ x z is. objects_are_at_symbols g a c q b s i x z r.joins lasts (homed.fixed lasts).1 is ∙ ap (spot_in g a s) (sym home)) j lt (home_of a.frame i) refl has rest

    goes : (lives : Bool) → lives_in_frame (object_in (unit_in g) i) ≡ lives → Follows g j (w + 4000) (go_on (if lives then steps.place_in (block_in c.frames i) else Ok (values.Place (object_block (unit_in g) i) 0)) k vs c) (place_in g a p) s seen
    goes true e = own_goes (block_in c.frames i) refl
    goes false e = fixed_goes e

pub objects_are_bases : ObjectsAreBases
objects_are_bases g a t i placed parts homed memory pushed fresh n w p k vs c q b s seen has r turned rest =
    steps_earn g n w (Name i) k vs c (place_in g a p) s seen (ready_is_calm g a pushed 0 c q b s r).calm r.joins.output r.joins.ended (omega (arith, turned)) (λ j lt.
    goes g a t i placed parts homed memory pushed n w p k vs c q b s seen r turned has rest j lt (lives_in_frame (object_in (unit_in g) i)) refl)
