-- Expressions between statements.
use Rattle.std.proofs.Common.{◌≡◌, ℕ, ◌+◌, ◌<◌, ◌≤◌, ◌⊎◌, inl, inr, List, Option, Some, None, Bool, true, false, refl, sym, ap, ◌∙◌, arith}
use Rattle.std.proofs.lemmas.Bool.{cases_lt}
use Rattle.c65_meaning.specs.Store.{Block, Store, lives_in, is_live}
use Rattle.c65_meaning.specs.Shapes.{object_in, object_size}
use Rattle.c65_meaning.specs.After.{is_among}
use Rattle.c65_meaning.specs.State.{Scene, block_in, soft_sum}
use Rattle.c65_code.specs.LineState.{State}
use Rattle.c65_agree_store.specs.Stands.{At, Placing, Banks, IsFree}
use Rattle.c65_agree_state.specs.World.{World, unit_in, Active}
use Rattle.c65_agree_state.specs.Sizes.{AreSized}
use Rattle.c65_agree_state.specs.Joins.{spot_of}
use Rattle.c65_agree_state.specs.Exprs.{Kept, bounds_of}
use Rattle.c65_agree_state.proofs.Parts.{lives_by, sized_stay}
use Rattle.c65_agree_between.specs.Stmts.{AreOpen, Between}
use Rattle.c65_agree_between.specs.Laws.{BetweenIsReady, BetweenStays, KeepingGoesOn}

pub between_is_ready : BetweenIsReady
between_is_ready g a needs scope c w k t h = record { joins = h.joins; sp = omega (arith, h.sp); room = omega (arith, h.sp, h.room); none_pushed = h.none_pushed }

-- a block that lives is there
record Lives (s : Store) (b : ℕ) : Type 0 where
  block : Block
  is : s b ≡ Some block
  live : block.live ≡ true

lives_as : (s : Store) (b : ℕ) (o : Option Block) → s b ≡ o → lives_in o ≡ true → Lives s b
lives_as s b None e l = cc
lives_as s b (Some x) e l = record { block = x; is = e; live = l }

module _ (g : World) (a : Active) (needs : ℕ) (scope : List ℕ) (c c2 : Scene) (w w2 : Placing) (k k2 : Banks) (t t2 : State) (h : Between g a needs scope c w k t) (kept : Kept g a c w k t c2 w2 k2 t2) where
  -- a block of the active call has a place, and so a number that is not to come
  begun : (i b : ℕ) → block_in c.frames i ≡ Some b → b < c.next
  begun i b e = go (cases_lt b c.next)
    where
      go : (b < c.next) ⊎ (c.next ≤ b) → b < c.next
      go (inl lt) = lt
      go (inr le) =
          let clash : Some (spot_of g a i) ≡ None = sym (h.joins.homes i b e) ∙ h.joins.fresh b le in
          cc

  open_before : (i b : ℕ) → block_in c.frames i ≡ Some b → is_live c2.store b ≡ true → is_among scope i ≡ true
  open_before i b e live = go (is_live c.store b) refl
    where
      go : (l : Bool) → is_live c.store b ≡ l → is_among scope i ≡ true
      go true f = let x = lives_as c.store b (c.store b) refl f in h.scoped i b x.block e x.is x.live
      go false f =
          let none : is_live c2.store b ≡ false = lives_by (c2.store b) (c.store b) (kept.bounds b (begun i b e)) ∙ f in
          let clash : true ≡ false = sym live ∙ none in
          cc

  still_open : AreOpen scope c2
  still_open i b x e is live =
      let before : block_in c.frames i ≡ Some b = sym (ap (λ fs. block_in fs i) kept.frames) ∙ e in
      let lives : is_live c2.store b ≡ true = ap lives_in is ∙ live in
      open_before i b before lives

  still_sized : AreSized (unit_in g) c2
  still_sized = sized_stay (unit_in g) c c2 kept.frames (λ i b e. kept.bounds b (begun i b e)) h.sized

  stays_between : Between g a needs scope c2 w2 k2 t2
  stays_between =
      let cost : soft_sum c2.frames ≡ soft_sum c.frames = ap soft_sum kept.frames in
      record { joins = kept.joins; sp = kept.sp ∙ h.sp; room = omega (arith, cost, h.room); scoped = still_open; sized = still_sized; call = (h.call.0, h.call.1, kept.frames ∙ h.call.2); none_pushed = kept.none_pushed }

pub between_stays : BetweenStays
between_stays g a needs scope c c2 w w2 k k2 t t2 h kept = stays_between g a needs scope c c2 w w2 k k2 t t2 h kept

pub keeping_goes_on : KeepingGoesOn
keeping_goes_on g a needs scope first c c2 w1 w w2 k1 k k2 t1 t t2 h between part = record {
  next = omega (arith, h.next, part.next);
  bounds = λ b own lt. part.bounds b (omega (arith, lt, h.next)) ∙ h.bounds b own lt;
  grows = λ b q e. part.grows b q (h.grows b q e);
  kept = λ n le f. kept n le f;
  banks = λ d i lt. part.banks d i lt ∙ h.banks d i lt;
  own_bank = λ i le. part.own_bank i le ∙ h.own_bank i le;
}
  where
    kept : (n : ℕ) → a.base + a.frame.soft ≤ n → IsFree first.store w1 (At n) → (t2.mem n ≡ t1.mem n) × IsFree c2.store w2 (At n)
    kept n le f =
        let one = h.kept n le f in
        let two = part.kept n (omega (arith, le, between.sp)) one.1 in
        (two.0 ∙ one.0, two.1)
