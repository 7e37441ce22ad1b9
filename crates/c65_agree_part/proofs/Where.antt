-- Where the parts of objects of blocks lie.
use Rattle.std.proofs.Common.{◌≡◌, ℕ, ◌+◌, ◌≤◌, Option, Some, None, refl, sym, ap, ◌∙◌, subst, arith}
use Rattle.std.specs.Prelude.{length, if◌then◌else◌}
use Rattle.c65_meaning.specs.Store.{Block}
use Rattle.c65_meaning.specs.Shapes.{object_in, object_size}
use Rattle.c65_meaning.specs.State.{Scene, block_in}
use Rattle.c65_code.specs.LineState.{State, sp_of}
use Rattle.c65_code.specs.Placement.{IsPlacement}
use Rattle.c65_genframe.specs.declared.home.Home.{Home}
use Rattle.c65_genframe.specs.declared.home.Home.TheVariants as homes
use Rattle.c65_genframe.specs.Frames.{home_of, is_raised}
use Rattle.c65_genstmt.specs.declared.objects.Spot as objects
use Rattle.c65_genstmt.specs.declared.objects.Spot.TheVariants as spots
use Rattle.c65_genstmt.specs.Objects.{spot_at, spot_of}
use Rattle.c65_agree_store.specs.Stands.{Spot, At, Banked, Placing, Banks, IsAt, LiesIn, beyond}
use Rattle.c65_agree_state.specs.World.{World, unit_in, Active}
use Rattle.c65_agree_state.specs.Fixed.{symbol_at}
use Rattle.c65_agree_state.specs.Sizes.{AreSized}
use Rattle.c65_agree_state.specs.Joins.{home_spot}
use Rattle.c65_agree_state.specs.Exprs.{Ready}
use Rattle.c65_agree_state.specs.Laws.{HasStacks}
use Rattle.c65_agree_state.proofs.Followed.{ready_is_calm}
use Rattle.c65_agree_state.proofs.Scratch.{constants_are_low}
use Rattle.c65_agree_put.specs.Puts.{IsOwn, IsNoConstant}
use Rattle.c65_agree_assign.specs.Places.{stored_spot}
use Rattle.c65_agree_part.specs.Parts.{place_of, IsSettable}

-- in regbank there are few
abbrev pub IsHeld : objects.Spot → ℕ → Type 0
IsHeld (spots.Bank bank) count = count ≤ 2
IsHeld _ count = Unit {0}

-- so many bytes lie there, they are the call's own, and none of them is one of a constant
pub record IsThere (g : World) (a : Active) (t : State) (s : objects.Spot) (count o : ℕ) (z : Spot) : Type 0 where
  pub spot : stored_spot g a t (place_of s) ≡ beyond z o
  pub own : IsOwn a z o count
  pub held : IsHeld s count
  pub varying : IsNoConstant g z o count

module _ (g : World) (a : Active) (needs i : ℕ) (c : Scene) (w : Placing) (k : Banks) (t : State) (placed : IsPlacement g.code g.place) (r : Ready g a 0 needs c w k t) (sized : AreSized (unit_in g) c) (can : IsSettable g a i) (b : ℕ) (x : Block) (q : Spot) (named : block_in c.frames i ≡ Some b) (at : IsAt c.store w b x q) (o count : ℕ) (inside : o + count ≤ x.size) where
  size : x.size ≡ object_size (unit_in g).types (object_in (unit_in g) i)
  size = sized i b x named at.is

  at_home : q ≡ home_spot g a i (home_of a.frame i)
  at_home = let e : Some q ≡ Some (home_spot g a i (home_of a.frame i)) = sym at.place ∙ r.joins.homes i b named in cc

  -- constants lie below the software stack
  is_above : (n : ℕ) → sp_of t ≤ n → g.place.constant n ≡ None
  is_above n le = go (g.place.constant n) refl
    where
      stacks : HasStacks g t
      stacks = ready_is_calm g a 0 needs c w k t r

      go : (v : Option ℕ) → g.place.constant n ≡ v → g.place.constant n ≡ None
      go None e = e
      go (Some v) e = absurd (omega (arith, constants_are_low g placed n v e, stacks.soft, le))

  at_symbol : home_of a.frame i ≡ None → LiesIn (At (symbol_at g i)) x.size → IsThere g a t (spot_at a.frame i o None) count o (At (symbol_at g i))
  at_symbol e lies = record {
    spot = ap At (omega (arith, lies.1, inside));
    own = tt;
    held = tt;
    varying = λ from j same lt.
        let here : symbol_at g i ≡ from = cc in
        subst (λ y. g.place.constant (y + (o + j)) ≡ None) here (can.varying (o + j) e (omega (arith, lt, inside, size)));
  }

  in_bank : (n : ℕ) → home_of a.frame i ≡ Some (homes.Bank n) → LiesIn (Banked (length a.behind) n) x.size → IsThere g a t (spot_at a.frame i o (Some (homes.Bank n))) count o (Banked (length a.behind) n)
  in_bank n e lies =
      let known = can.bank n e in
      record {
        spot = ap (Banked (length a.behind)) (omega (arith, lies, inside));
        own = (refl, omega (arith, known.1, inside, size));
        held = omega (arith, known.0, inside, size);
        varying = λ from j same lt. cc;
      }

  near_sp : (d from : ℕ) → from ≡ sp_of t + d → LiesIn (At from) x.size → IsThere g a t (spot_at a.frame i o (Some (homes.Soft d))) count o (At from)
  near_sp d from e lies = record {
    spot = ap At (omega (arith, e, lies.1, inside));
    own = tt;
    held = tt;
    varying = λ start j same lt.
        let here : from ≡ start = cc in
        is_above (start + (o + j)) (omega (arith, here, e));
  }

  by_home : (h : Option Home) → home_of a.frame i ≡ h → LiesIn (home_spot g a i h) x.size → IsThere g a t (spot_at a.frame i o h) count o (home_spot g a i h)
  by_home None e lies = at_symbol e lies
  by_home (Some (homes.Bank n)) e lies = in_bank n e lies
  by_home (Some (homes.Soft d)) e lies =
      let low : a.base + d + (if is_raised a.frame i then a.raised else 0) ≡ a.base + d + 0 = ap (λ s. a.base + d + (if s then a.raised else 0)) can.low in
      near_sp d (a.base + d + (if is_raised a.frame i then a.raised else 0)) (low ∙ omega (arith, r.sp)) lies

  pub is_there : IsThere g a t (spot_of a.frame i o) count o q
  is_there = subst (IsThere g a t (spot_of a.frame i o) count o) (sym at_home) (by_home (home_of a.frame i) refl (subst (λ z. LiesIn z x.size) at_home (r.joins.stands.lies b x q at)))
