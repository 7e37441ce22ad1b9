-- Assignments to objects in regbank.
use Rattle.std.proofs.Common.{◌≡◌, ℕ, ◌+◌, ◌<◌, ◌≤◌, List, [], ◌∷◌, ◌++◌, Option, Some, None, Bool, true, false, refl, sym, ap, ◌∙◌, subst, arith}
use Rattle.std.specs.Prelude.{if◌then◌else◌, option_and_then, Ok, length}
use Rattle.c65_ctype.specs.Trees.{QTy}
use Rattle.c65_ctype.specs.Views.{types_of}
use Rattle.c65_csem.specs.Trees.{node, object}
use Rattle.c65_meaning.specs.Why.{Unfit}
use Rattle.c65_meaning.specs.Store as values
use Rattle.c65_meaning.specs.Store.{Block}
use Rattle.c65_meaning.specs.Items.{Item, Name, plan}
use Rattle.c65_meaning.specs.Shapes.{object_block, object_in, lives_in_frame}
use Rattle.c65_meaning.specs.State.{Running, block_in}
use Rattle.c65_meaning.specs.Step as steps
use Rattle.c65_meaning.specs.Step.{go_on}
use Rattle.c65_genframe.specs.declared.home.Home.{Home}
use Rattle.c65_genframe.specs.declared.home.Home.TheVariants as homes
use Rattle.c65_genframe.specs.Frames.{home_of}
use Rattle.c65_genload.specs.declared.places.Extent.{Extent}
use Rattle.c65_genload.specs.declared.places.Place.TheVariants.{Bank}
use Rattle.c65_genload.specs.declared.places.Place.{Place}
use Rattle.c65_genexpr.specs.declared.destination.Destination.TheVariants.{Registers}
use Rattle.c65_genexpr.specs.declared.storing.Storing.TheVariants.{Stacked}
use Rattle.c65_genexpr.specs.Direct.{direct_of, is_pure}
use Rattle.c65_genexpr.specs.Operating.{is_light}
use Rattle.c65_genexpr.specs.Places.{place_at, place_of, target_code, code_at}
use Rattle.c65_genexpr.specs.Storing.{storing_of, storing_by, or_held, held_if, unless_changed, pointer_of}
use Rattle.c65_genexpr.specs.Types.{access_of}
use Rattle.c65_genexpr.specs.Code.{base_code}
use Rattle.c65_agree_store.specs.Stands.{Spot, Banked, Placing, Banks, IsAt, beyond}
use Rattle.c65_agree_state.specs.World.{World, unit_in, Active, place_in, HasTurns}
use Rattle.c65_agree_state.specs.Follows.{Follows}
use Rattle.c65_agree_state.specs.Joins.{home_spot, spot_of}
use Rattle.c65_agree_state.specs.Exprs.{shape_in}
use Rattle.c65_agree_state.proofs.Followed.{follows_weaken, steps_earn, ready_is_calm}
use Rattle.c65_agree_rows.proofs.Quiet.{nothing_follows}
use Rattle.c65_agree_assign.specs.Places.{bytes_in, extent_in}
use Rattle.c65_agree_places.specs.Places.{IsReached}
use Rattle.c65_agree_load.specs.Objects.{IsHomed}
use Rattle.c65_agree_operate.proofs.Converted.{kept_itself}
use Rattle.c65_agree_access.proofs.Wholes.{places_are_whole}
use Rattle.c65_agree_access.specs.Destinations.{IsToldFor, TellsFor}
use Rattle.c65_agree_access.specs.StoreLaws.{BankedAssignmentsDo}
use Rattle.c65_agree_access.proofs.Nodes.{are_sides, by_stacked}

-- ---- the place

module _ (g : World) (a : Active) (t : QTy) (i b : ℕ) (homed : IsHomed g a i) (home : home_of a.frame i ≡ Some (homes.Bank b)) (extent : Extent) (few : bytes_in extent ≤ 2) (inside : b + bytes_in extent ≤ a.frame.bank) (pushed : ℕ) where
  pub bank_told : TellsFor g a (λ k. Name i ∷ k) 0 pushed (Bank b) extent []
  bank_told n w p k vs c q bs s seen has r turned rest =
      steps_earn g n w (Name i) k vs c (place_in g a p) s seen (ready_is_calm g a pushed 0 c q bs s r).calm r.joins.output r.joins.ended (omega (arith, turned)) (λ j lt. goes j lt (lives_in_frame (object_in (unit_in g) i)) refl)
    where
      ends : p ≡ p + 0
      ends = omega arith

      told : (m : ℕ) → block_in c.frames i ≡ Some m → IsToldFor g a (Bank b) extent c q s (values.Place m 0)
      told m named =
          let there : q m ≡ Some (Banked (length a.behind) b) = r.joins.homes i m named ∙ ap (λ (h : Option Home). Some (home_spot g a i h)) home in
          (((Banked (length a.behind) b, there), λ x z is. at_home z (there_is z (sym there ∙ is.place))), few, inside)
        where
          there_is : (z : Spot) → Some (Banked (length a.behind) b) ≡ Some z → z ≡ Banked (length a.behind) b
          there_is z e = cc

          at_home : (z : Spot) → z ≡ Banked (length a.behind) b → IsReached a z × (Banked (length a.behind) b ≡ beyond z 0)
          at_home z e = let same : b ≡ b + 0 = omega arith in rw e (refl, ap (λ l. Banked (length a.behind) l) same)

      goes : (j : ℕ) → j < n → (lives : Bool) → lives_in_frame (object_in (unit_in g) i) ≡ lives → Follows g j (w + 4000) (go_on (if lives then steps.place_in (block_in c.frames i) else Ok (values.Place (object_block (unit_in g) i) 0)) k vs c) (place_in g a p) s seen
      goes j lt false e = absurd (let none : Some (homes.Bank b) ≡ None = sym home ∙ (homed.fixed e).0 in cc)
      goes j lt true e = named (block_in c.frames i) refl
        where
          named : (o : Option ℕ) → block_in c.frames i ≡ o → Follows g j (w + 4000) (go_on (steps.place_in o) k vs c) (place_in g a p) s seen
          named None e = nothing_follows g Unfit j (w + 4000) (place_in g a p) s seen
          named (Some m) e =
              follows_weaken g j (w + 2600) (w + 4000) (Running k (values.Place m 0 ∷ vs) c) (place_in g a p) s seen (omega arith)
              (subst (λ z. Follows g j (w + 2600) (Running k (values.Place m 0 ∷ vs) c) (place_in g a z) s seen) (sym ends)
              (rest j (values.Place m 0) c q bs s seen lt (kept_itself g a pushed 0 c q bs s r) (told m e) (subst (λ z. HasTurns g c.turns (place_in g a z) seen) ends turned)))

pub banked_assignments_do : BankedAssignmentsDo
banked_assignments_do g a t s i b y placed parts typed homed home few inside does pushed fresh =
    let x = node s (object i) in
    let sides = are_sides g a t x y typed (places_are_whole g a x parts typed.2 refl) in
    let there : place_of a.frame pushed x ≡ Bank b = ap (place_at a.frame pushed i) home in
    let how : storing_of a.frame pushed x y ≡ Stacked = ap (λ (z : Place). or_held (storing_by z (access_of (types_of a.frame.parts.types) x) (unless_changed (is_pure y) (pointer_of a.frame pushed x)) (direct_of a.frame pushed y)) (held_if (is_light a.frame pushed y) z (access_of (types_of a.frame.parts.types) x))) there ∙ bank_stacked (is_light a.frame pushed y) in
    let base : base_code a.frame pushed fresh Registers x ≡ [] = ap (λ (h : Option Home). target_code (place_at a.frame pushed i h) (code_at a.frame pushed i h ++ [])) home in
    by_stacked g a pushed fresh t x y placed sides how
    (subst (λ z. TellsFor g a (plan (unit_in g) x) 0 pushed z (extent_in (shape_in g a x)) (base_code a.frame pushed fresh Registers x)) (sym there)
    (subst (TellsFor g a (plan (unit_in g) x) 0 pushed (Bank b) (extent_in (shape_in g a x))) (sym base) (bank_told g a t i b homed home (extent_in (shape_in g a x)) few inside pushed))) does
  where
    bank_stacked : (light : Bool) → or_held Stacked (held_if light (Bank b) (access_of (types_of a.frame.parts.types) (node s (object i)))) ≡ Stacked
    bank_stacked true = refl
    bank_stacked false = refl
