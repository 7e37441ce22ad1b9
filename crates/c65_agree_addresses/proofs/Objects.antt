-- The address of an object.
use Rattle.std.proofs.Common.{◌≡◌, ℕ, ◌+◌, ◌-◌, ◌%◌, ◌<◌, ◌≤◌, List, ◌∷◌, length, Bool, true, false, Option, Some, None, refl, sym, ap, ◌∙◌, subst, arith}
use Rattle.std.specs.Prelude.{◌&&◌, nat_le, if◌then◌else◌, Result, Ok, Err}
use Rattle.std.proofs.Math.Nat.{mod-eq_of_lt}
use Rattle.c65_meaning.specs.Why.{Unfit}
use Rattle.c65_meaning.specs.Store as values
use Rattle.c65_meaning.specs.Store.{Value, Shape}
use Rattle.c65_meaning.specs.Items.{Item, Name}
use Rattle.c65_meaning.specs.Shapes.{object_in, object_block, lives_in_frame}
use Rattle.c65_meaning.specs.State.{Scene, Running, block_in}
use Rattle.c65_meaning.specs.Step as step
use Rattle.c65_meaning.specs.Step.{go_on}
use Rattle.c65_code.specs.declared.line.Line.{Line}
use Rattle.c65_code.specs.declared.routine.Width.TheVariants.{Ax}
use Rattle.c65_code.specs.LineState.{State, sp_of, ax_of}
use Rattle.c65_code.specs.Placement.{IsPlacement, located, stack_end}
use Rattle.c65_code.specs.Comes.{Seen}
use Rattle.c65_genframe.specs.declared.home.Home.{Home}
use Rattle.c65_genframe.specs.declared.home.Home.TheVariants as homes
use Rattle.c65_genframe.specs.Frames.{home_of, lies_above, is_raised}
use Rattle.c65_genframe.specs.Symbols.{numbers_of, object_symbol}
use Rattle.c65_genexpr.specs.Places.{more, soft_code, code_at, object_code}
use Rattle.c65_agree_store.specs.Stands.{At, Banked, Placing, Banks, ValueIs}
use Rattle.c65_agree_state.specs.World.{World, unit_in, Active, lines_of, place_in, HasAt, HasTurns}
use Rattle.c65_agree_state.specs.Fixed.{symbol_at}
use Rattle.c65_agree_state.specs.Joins.{home_spot, spot_of}
use Rattle.c65_agree_state.specs.Follows.{Follows}
use Rattle.c65_agree_state.specs.Exprs.{Ready, Placed, Rest}
use Rattle.c65_agree_state.proofs.Followed.{follows_weaken, steps_earn, ready_is_calm}
use Rattle.c65_agree_rows.proofs.Quiet.{nothing_follows}
use Rattle.c65_agree_frame.specs.Leads.{Leads}
use Rattle.c65_agree_frame.proofs.Leads.{leads_as}
use Rattle.c65_agree_quick.specs.Laws.{IsNow}
use Rattle.c65_agree_addresses.specs.Laws.{IsAddressed, ObjectsArePlaced, ObjectLinesAre}
use Rattle.c65_agree_addresses.proofs.Near.{address_leads, symbol_leads, raised_leads}

both_true : (x y : Bool) → x && y ≡ true → x ≡ true
both_true true y e = refl
both_true false y e = absurd (cc)

-- ---- its lines

module _ (g : World) (a : Active) (needs pushed i : ℕ) (placed : IsPlacement g.code g.place) (parts : a.frame.parts ≡ g.parts) (addressed : IsAddressed g a i) (c : Scene) (w : Placing) (b : Banks) (t : State) (ready : Ready g a pushed needs c w b t) where
  abbrev at : ℕ
  at = addressed.at

  abbrev There : State → Type 0
  There u = IsNow g a c w b Ax at t u

  as_there : (ls : List Line) (cost n : ℕ) → cost ≤ 300 → n ≡ at → Leads g a ls cost t (IsNow g a c w b Ax n t) → Leads g a ls 300 t There
  as_there ls cost n few is lead = leads_as g a ls cost 300 t (IsNow g a c w b Ax n t) There few (λ u h. record { kept = h.kept; word = h.word ∙ is }) lead

  same_at : (n : ℕ) → At n ≡ At at → n ≡ at
  same_at n e = cc

  at_symbol : home_of a.frame i ≡ None → Leads g a (code_at a.frame pushed i None) 300 t There
  at_symbol none =
      let symbol = object_symbol (numbers_of a.frame.parts) i in
      let own : symbol_at g i ≡ at = same_at (symbol_at g i) (ap (home_spot g a i) (sym none) ∙ addressed.spot) in
      let same : g.place.address symbol.0 ≡ symbol_at g i = ap (λ p. g.place.address (object_symbol (numbers_of p) i).0) parts in
      let is : located g.place symbol 0 ≡ at = omega (arith, same, own, addressed.below) in
      as_there (code_at a.frame pushed i None) 4 (located g.place symbol 0) (omega arith) is (symbol_leads g a pushed needs c w b placed symbol 0 t ready)

  soft_is : (d : ℕ) → home_of a.frame i ≡ Some (homes.Soft d) → a.base + d + (if is_raised a.frame i then a.raised else 0) ≡ at
  soft_is d home = same_at (a.base + d + (if is_raised a.frame i then a.raised else 0)) (ap (home_spot g a i) (sym home) ∙ addressed.spot)

  at_soft : (d : ℕ) → home_of a.frame i ≡ Some (homes.Soft d) → (raised : Bool) → is_raised a.frame i ≡ raised → Leads g a (soft_code raised pushed (more d pushed) a.frame.stacked) 300 t There
  at_soft d home false e =
      let own : a.base + d + 0 ≡ at = ap (λ r. a.base + d + (if r then a.raised else 0)) (sym e) ∙ soft_is d home in
      let small : more d pushed < 65536 = omega arith in
      let is : (sp_of t + more d pushed) % 65536 ≡ at = omega (arith, own, addressed.below, ready.sp) in
      as_there (soft_code false pushed (more d pushed) a.frame.stacked) 8 ((sp_of t + more d pushed) % 65536) (omega arith) is (address_leads g a pushed needs c w b placed (more d pushed) t small ready)
  at_soft d home true e =
      let own : a.base + d + a.raised ≡ at = ap (λ r. a.base + d + (if r then a.raised else 0)) (sym e) ∙ soft_is d home in
      let variadic : a.frame.variadic ≡ true = both_true a.frame.variadic (lies_above a.frame.soft (home_of a.frame i)) e in
      let count : ℕ = a.frame.stacked + a.raised in
      let n : ℕ = (more d pushed + 65536 - a.frame.stacked) % 65536 in
      let here : t.mem a.base ≡ count = ready.joins.counted variadic in
      let few : count < 256 = omega (arith, here, ready.joins.bytes.mem a.base) in
      let low : a.base < stack_end = omega (arith, own, addressed.below) in
      let is : (a.base + 65536 - pushed + count + n) % 65536 ≡ at = omega (arith, own, addressed.below, ready.sp, few) in
      as_there (soft_code true pushed (more d pushed) a.frame.stacked) (8 + (256 + (7 + 7))) ((a.base + 65536 - pushed + count + n) % 65536) (omega arith) is
      (raised_leads g a pushed needs c w b placed count (λ u ready2. ready2.joins.counted variadic) few low n t ready)

  at_home : (h : Option Home) → home_of a.frame i ≡ h → Leads g a (code_at a.frame pushed i h) 300 t There
  at_home None e = at_symbol e
  at_home (Some (homes.Soft d)) e = at_soft d e (is_raised a.frame i) refl
  at_home (Some (homes.Bank k)) e = let clash : Banked (length a.behind) k ≡ At at = ap (home_spot g a i) (sym e) ∙ addressed.spot in absurd (cc)

  pub object_leads : Leads g a (object_code a.frame pushed i) 300 t There
  object_leads = at_home (home_of a.frame i) refl

-- ---- the node

pub objects_are_placed : ObjectsArePlaced
objects_are_placed g a shape needs pushed i placed parts addressed n weight p k vs c w b t seen has ready turns rest =
    steps_earn g n weight (Name i) k vs c (place_in g a p) t seen (ready_is_calm g a pushed needs c w b t ready).calm ready.joins.output ready.joins.ended (omega (arith, turns)) (λ j lt. go j lt (lives_in_frame (object_in (unit_in g) i)) refl)
  where
    named : (j m : ℕ) → j < n → w m ≡ Some (At addressed.at) → Follows g j (weight + 4000) (Running k (values.Place m 0 ∷ vs) c) (place_in g a p) t seen
    named j m lt there =
        follows_weaken g j (300 + (weight + 2600)) (weight + 4000) (Running k (values.Place m 0 ∷ vs) c) (place_in g a p) t seen (omega arith)
        (object_leads g a needs pushed i placed parts addressed c w b t ready j (weight + 2600) p c.turns (Running k (values.Place m 0 ∷ vs) c) seen has turns (λ u later h turned.
        rest j (values.Place m 0) c w b u later lt (record { kept = h.kept; result = (addressed.at, there, h.word ∙ omega arith); fits = tt }) turned))

    own : (j : ℕ) → j < n → (m : Option ℕ) → block_in c.frames i ≡ m → Follows g j (weight + 4000) (go_on (step.place_in m) k vs c) (place_in g a p) t seen
    own j lt None e = nothing_follows g Unfit j (weight + 4000) (place_in g a p) t seen
    own j lt (Some m) e = named j m lt (ready.joins.homes i m e ∙ ap Some addressed.spot)

    go : (j : ℕ) → j < n → (lives : Bool) → lives_in_frame (object_in (unit_in g) i) ≡ lives → Follows g j (weight + 4000) (go_on (if lives then step.place_in (block_in c.frames i) else Ok (values.Place (object_block (unit_in g) i) 0)) k vs c) (place_in g a p) t seen
    go j lt true e = own j lt (block_in c.frames i) refl
    go j lt false e =
        let lasts = addressed.fixed e in
        let spot : At (symbol_at g i) ≡ At addressed.at = ap (home_spot g a i) (sym lasts.0) ∙ addressed.spot in
        named j (object_block (unit_in g) i) lt (ready.joins.symbols.objects i e lasts.1 ∙ ap Some spot)

pub object_lines_are : ObjectLinesAre
object_lines_are f pushed fresh i t = refl
