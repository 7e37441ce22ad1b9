-- The bases of objects.
use Rattle.std.proofs.Common.{◌≡◌, ℕ, ◌+◌, ◌<◌, ◌≤◌, List, [], ◌∷◌, ◌++◌, Option, Some, None, Bool, true, false, refl, sym, ap, ◌∙◌, subst, arith}
use Rattle.std.specs.Prelude.{nat_le, if◌then◌else◌, Ok, length}
use Rattle.std.proofs.lemmas.Bool.Decides.{nat_tests}
use Rattle.c65_ctype.specs.Trees.{QTy}
use Rattle.c65_csem.specs.Trees.{node, object}
use Rattle.c65_meaning.specs.Why.{Unfit}
use Rattle.c65_meaning.specs.Store as values
use Rattle.c65_meaning.specs.Store.{Block, Value}
use Rattle.c65_meaning.specs.Items.{Item, Name, plan}
use Rattle.c65_meaning.specs.Shapes.{object_block, object_in, lives_in_frame}
use Rattle.c65_meaning.specs.State.{Scene, Running, block_in}
use Rattle.c65_meaning.specs.Step as steps
use Rattle.c65_meaning.specs.Step.{go_on}
use Rattle.c65_code.specs.declared.line.Line.{Line}
use Rattle.c65_code.specs.LineState.{State, sp_of, ax_of, IsBytes}
use Rattle.c65_code.specs.Placement.{IsPlacement}
use Rattle.c65_code.specs.Comes.{Seen}
use Rattle.c65_genframe.specs.declared.home.Home.{Home}
use Rattle.c65_genframe.specs.declared.home.Home.TheVariants as homes
use Rattle.c65_genframe.specs.Frames.{home_of, is_raised}
use Rattle.c65_genframe.specs.Symbols.{numbers_of, object_symbol}
use Rattle.c65_genload.specs.declared.places.Place.{Place}
use Rattle.c65_genload.specs.declared.places.Place.TheVariants.{Near, Data, Far}
use Rattle.c65_genload.specs.Addresses.{address_code}
use Rattle.c65_genexpr.specs.declared.destination.Destination.TheVariants.{Registers, Pointer}
use Rattle.c65_genexpr.specs.Places.{more, soft_place, place_at, place_of, soft_code, code_at, object_place, object_code, target_code}
use Rattle.c65_genexpr.specs.Code.{base_code}
use Rattle.c65_agree_store.specs.Stands.{Spot, At, Banked, Placing, Banks, LiesIn, IsAt, beyond}
use Rattle.c65_agree_state.specs.Fixed.{symbol_at}
use Rattle.c65_agree_state.specs.Joins.{spot_of}
use Rattle.c65_agree_state.specs.World.{World, unit_in, Active, lines_of, place_in, HasAt, HasTurns}
use Rattle.c65_agree_state.specs.Follows.{Follows}
use Rattle.c65_agree_state.specs.Exprs.{Ready, Kept}
use Rattle.c65_agree_state.proofs.Followed.{follows_weaken, steps_earn, ready_is_calm}
use Rattle.c65_agree_places.specs.Places.{spot_in, home_place, IsReached}
use Rattle.c65_agree_places.proofs.Spots.{objects_are_at_home, objects_are_at_symbols}
use Rattle.c65_agree_rows.proofs.Quiet.{nothing_follows}
use Rattle.c65_agree_load.specs.Objects.{IsHomed}
use Rattle.c65_agree_load.proofs.Kept.{is_on, kept_later}
use Rattle.c65_agree_operate.specs.Manners.{Manner, IsLeft}
use Rattle.c65_agree_operate.proofs.Manners.{left_held}
use Rattle.c65_agree_registers.proofs.Addresses.{address_regs, address_is, address_leads}
use Rattle.c65_agree_structures.specs.Bases.{IsToldBy}
use Rattle.c65_agree_loading.specs.Bases.{BaseDoesIn}
use Rattle.c65_agree_loading.specs.BaseLaws.{ObjectsTell}
use Rattle.c65_agree_loading.proofs.Arriving.{held_by_regs, base_arrives}

beyond_none : (s : Spot) → s ≡ beyond s 0
beyond_none (At at) = ap At (omega arith)
beyond_none (Banked d i) = ap (Banked d) (omega arith)

module _ (g : World) (a : Active) (m : Manner) (t : QTy) (i : ℕ) (placed : IsPlacement g.code g.place) (parts : a.frame.parts ≡ g.parts) (homed : IsHomed g a i) (memory : (b : ℕ) → home_of a.frame i ≡ Some (homes.Bank b) → ⊥) (pushed n w p : ℕ) (k : List Item) (vs : List Value) (c : Scene) (q : Placing) (b : Banks) (s : State) (seen : Seen)
    (r : Ready g a pushed 0 c q b s) (turned : HasTurns g c.turns (place_in g a p) seen) where
  abbrev Behind : Place → List Line → Type 0
  Behind place lines = (j : ℕ) (v : Value) (c2 : Scene) (q2 : Placing) (b2 : Banks) (u : State) (later : Seen) → j < n → Kept g a c q b s c2 q2 b2 u → IsToldBy g a place c2 q2 u v → IsLeft m c s c2 u → HasTurns g c2.turns (place_in g a (p + length lines)) later
      → Follows g j (w + 2600) (Running k (v ∷ vs) c2) (place_in g a (p + length lines)) u later

  itself : Kept g a c q b s c q b s
  itself = record { joins = r.joins; sp = refl; frames = refl; next = omega arith; bounds = λ d lt. refl; grows = λ d z e. e; kept = λ z le f. (refl, f); banks = λ d z lt. refl; own_bank = λ z le. refl; none_pushed = r.none_pushed }

  -- the block of the object stands at its home
  module _ (o : ℕ) (stood : (z : Spot) × (q o ≡ Some z)) (home : (x : Block) (z : Spot) → IsAt c.store q o x z → z ≡ spot_in g a s (home_place g pushed i (home_of a.frame i))) (j : ℕ) (lt : j < n) where
    abbrev Goes : Place → List Line → Type 0
    Goes place lines = HasAt (lines_of g a) p lines → Behind place lines → Follows g j (w + 4000) (Running k (values.Place o 0 ∷ vs) c) (place_in g a p) s seen

    -- without a line
    none_goes : (place : Place) → IsToldBy g a place c q s (values.Place o 0) → Goes place []
    none_goes place told has rest =
        let ends : p ≡ p + 0 = omega arith in
        subst (λ z. Follows g j (w + 4000) (Running k (values.Place o 0 ∷ vs) c) (place_in g a z) s seen) (sym ends)
        (follows_weaken g j (w + 2600) (w + 4000) (Running k (values.Place o 0 ∷ vs) c) (place_in g a (p + 0)) s seen (omega arith)
        (rest j (values.Place o 0) c q b s seen lt itself told (left_held m c s s (record { low = refl; high = refl })) (subst (λ z. HasTurns g c.turns (place_in g a z) seen) ends turned)))

    at_symbol : home_of a.frame i ≡ None → IsToldBy g a (Data (object_symbol (numbers_of g.parts) i) 0) c q s (values.Place o 0)
    at_symbol e = (
      (
        stood,
        λ x z at.
            let there : z ≡ spot_in g a s (Data (object_symbol (numbers_of g.parts) i) 0) = home x z at ∙ ap (λ h. spot_in g a s (home_place g pushed i h)) e in
            (subst (IsReached a) (sym there) tt, sym there ∙ beyond_none z),
      ),
      omega arith,
      tt,
    )

    -- in the frame, where a live block lies below the end of memory
    module _ (d : ℕ) (e : home_of a.frame i ≡ Some (homes.Soft d)) where
      abbrev at : ℕ
      at = more d pushed

      in_frame : (x : Block) (z : Spot) → IsAt c.store q o x z → z ≡ At (sp_of s + (d + pushed))
      in_frame x z is = home x z is ∙ ap (λ h. spot_in g a s (home_place g pushed i h)) e

      is_low : (x : Block) (z : Spot) → IsAt c.store q o x z → (at ≡ d + pushed) × (sp_of s + at < 65536)
      is_low x z is =
          let lies : LiesIn (At (sp_of s + (d + pushed))) x.size = subst (λ y. LiesIn y x.size) (in_frame x z is) (r.joins.stands.lies o x z is) in
          let same : at ≡ d + pushed = omega (arith, lies.1) in
          (same, omega (arith, lies.1, same))

      near_told : at ≤ 252 → IsToldBy g a (Near at) c q s (values.Place o 0)
      near_told few = (
        (
          stood,
          λ x z is.
              let low = is_low x z is in
              let there : z ≡ At (sp_of s + at) = in_frame x z is ∙ ap (λ y. At (sp_of s + y)) (sym low.0) in
              (subst (IsReached a) (sym there) tt, sym there ∙ beyond_none z),
        ),
        few,
        tt,
      )

      -- behind the lines of its address
      far_told : (u : State) → u ≡ record s { regs = address_regs s at } → IsToldBy g a (Far 0) c q u (values.Place o 0)
      far_told u is_u = (
        (
          stood,
          λ x z is.
              let low = is_low x z is in
              let ax : ax_of u ≡ sp_of s + at = ap ax_of is_u ∙ address_is s at (r.joins.bytes.zp 0) low.1 in
              let same = low.0 in
              let word : ax_of u + 0 ≡ sp_of s + (d + pushed) = omega (arith, ax, same) in
              let there : At (ax_of u + 0) ≡ z = ap At word ∙ sym (in_frame x z is) in
              (subst (IsReached a) (sym (in_frame x z is)) tt, there ∙ beyond_none z),
        ),
        omega arith,
        tt,
      )

      far_goes : Goes (Far 0) (address_code at ++ [])
      far_goes has rest =
          let lines : List Line = address_code at in
          follows_weaken g j (8 + (w + 2600)) (w + 4000) (Running k (values.Place o 0 ∷ vs) c) (place_in g a p) s seen (omega arith)
          (address_leads s at g a placed (is_on g a pushed 0 c q b s placed r) (omega arith) j (w + 2600) p c.turns (Running k (values.Place o 0 ∷ vs) c) seen has turned (λ u later h turned2.
          rest j (values.Place o 0) c q b u later lt (rw h.0 (kept_later g a pushed 0 c q b s placed r (address_regs s at) s.zp (λ z side. refl) (subst IsBytes h.0 h.1))) (far_told u h.0) (left_held m c s u (held_by_regs s u (address_regs s at) h.0)) turned2))

      by_height : (few : Bool) → nat_le at 252 ≡ few → Goes (if few then Near at else Far 0) (target_code (if few then Near at else Far 0) (address_code at ++ []))
      by_height true h = none_goes (Near at) (near_told (grind (arith, nat_tests)))
      by_height false h = far_goes

      soft_goes : Goes (soft_place (is_raised a.frame i) at) (target_code (soft_place (is_raised a.frame i) at) (soft_code (is_raised a.frame i) pushed at a.frame.stacked ++ []))
      soft_goes = subst (λ raised. Goes (soft_place raised at) (target_code (soft_place raised at) (soft_code raised pushed at a.frame.stacked ++ []))) (sym homed.low) (by_height (nat_le at 252) refl)

    by_home : (h : Option Home) → home_of a.frame i ≡ h → Goes (place_at a.frame pushed i h) (target_code (place_at a.frame pushed i h) (code_at a.frame pushed i h ++ []))
    by_home None e = subst (λ ps. Goes (Data (object_symbol (numbers_of ps) i) 0) []) (sym parts) (none_goes (Data (object_symbol (numbers_of g.parts) i) 0) (at_symbol e))
    by_home (Some (homes.Bank d)) e = absurd (memory d e)
    by_home (Some (homes.Soft d)) e = soft_goes d e

  abbrev base : List Line
  base = base_code a.frame pushed 0 Registers (node t (object i))

  abbrev place : Place
  place = place_of a.frame pushed (node t (object i))

  module _ (has : HasAt (lines_of g a) p base) (rest : Behind place base) (j : ℕ) (lt : j < n) where
    own_goes : (o : Option ℕ) → block_in c.frames i ≡ o → Follows g j (w + 4000) (go_on (steps.place_in o) k vs c) (place_in g a p) s seen
    own_goes None e = nothing_follows g Unfit j (w + 4000) (place_in g a p) s seen
    own_goes (Some o) e = by_home o (spot_of g a i, r.joins.homes i o e) (λ x z is. objects_are_at_home g a pushed 0 c q b s i o x z r e is homed.low) j lt (home_of a.frame i) refl has rest

    fixed_goes : lives_in_frame (object_in (unit_in g) i) ≡ false → Follows g j (w + 4000) (Running k (values.Place (object_block (unit_in g) i) 0 ∷ vs) c) (place_in g a p) s seen
    fixed_goes lasts =
        let home : home_place g pushed i (home_of a.frame i) ≡ Data (object_symbol (numbers_of g.parts) i) 0 = ap (home_place g pushed i) (homed.fixed lasts).0 in
        by_home (object_block (unit_in g) i) (At (symbol_at g i), r.joins.symbols.objects i lasts (homed.fixed lasts).1) (λ x z is. objects_are_at_symbols g a c q b s i x z r.joins lasts (homed.fixed lasts).1 is ∙ ap (spot_in g a s) (sym home)) j lt (home_of a.frame i) refl has rest

    goes : (lives : Bool) → lives_in_frame (object_in (unit_in g) i) ≡ lives → Follows g j (w + 4000) (go_on (if lives then steps.place_in (block_in c.frames i) else Ok (values.Place (object_block (unit_in g) i) 0)) k vs c) (place_in g a p) s seen
    goes true e = own_goes (block_in c.frames i) refl
    goes false e = fixed_goes e

in_registers : (g : World) (a : Active) (m : Manner) (t : QTy) (i : ℕ) → IsPlacement g.code g.place → a.frame.parts ≡ g.parts → IsHomed g a i → ((b : ℕ) → home_of a.frame i ≡ Some (homes.Bank b) → ⊥) → BaseDoesIn g a m Registers (node t (object i))
in_registers g a m t i placed parts homed memory pushed fresh n w p k vs c q b s seen has r turned rest =
    steps_earn g n w (Name i) k vs c (place_in g a p) s seen (ready_is_calm g a pushed 0 c q b s r).calm r.joins.output r.joins.ended (omega (arith, turned)) (λ j lt.
    goes g a m t i placed parts homed memory pushed n w p k vs c q b s seen r turned has rest j lt (lives_in_frame (object_in (unit_in g) i)) refl)

pub objects_tell : ObjectsTell
objects_tell g a m Registers t i placed parts homed memory = in_registers g a m t i placed parts homed memory
objects_tell g a m Pointer t i placed parts homed memory = λ pushed fresh. base_arrives g a m (plan (unit_in g) (node t (object i))) 0 pushed (object_place a.frame pushed i) (object_code a.frame pushed i) placed (in_registers g a m t i placed parts homed memory pushed fresh)
