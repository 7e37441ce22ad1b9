-- States while the bytes of a number are stored, one behind another.
use Rattle.std.proofs.Common.{◌≡◌, ℕ, ◌+◌, ◌<◌, ◌≤◌, ◌⊎◌, inl, inr, List, Some, refl, sym, ap, ◌∙◌, subst, arith}
use Rattle.std.specs.Prelude.{length, slice_get, IsTrue}
use Rattle.c65_mach.specs.State.{Regs}
use Rattle.c65_meaning.specs.Store.{Cell, Block}
use Rattle.c65_meaning.specs.State.{Scene}
use Rattle.c65_code.specs.LineState.{State, sp_of, eax_of, IsBytes}
use Rattle.c65_code.specs.Placement.{IsPlacement}
use Rattle.c65_code.specs.Rows.{written}
use Rattle.c65_code.specs.Texts.{listed}
use Rattle.c65_code.specs.Steady.{IsCalm, IsOpen}
use Rattle.c65_agree_store.specs.Stands.{Spot, At, Banked, Placing, Banks, CellIs}
use Rattle.c65_agree_store.specs.Laws.{byte_of}
use Rattle.c65_agree_state.specs.World.{World, Active, setting_in}
use Rattle.c65_agree_state.specs.Exprs.{Ready}
use Rattle.c65_agree_state.specs.Laws.{HasStacks}
use Rattle.c65_agree_state.proofs.Followed.{ready_is_calm}
use Rattle.c65_agree_state.proofs.Scratch.{constants_are_low}
use Rattle.c65_agree_rows.proofs.Quiet.{listed_are_at, item_is}
use Rattle.c65_agree_put.specs.Puts.{OnlyStored, AreLaid, MayPut, with_put, banks_in, AreTaken}
use Rattle.c65_agree_put.proofs.Puts.{constant_beside, banks_follow, puts_are_taken}
use Rattle.c65_agree_put.proofs.Stores.{listed_other}

-- the machine stays calm while the bytes of a place are stored
pub calm_by : (g : World) (a : Active) (pushed needs : ℕ) (c : Scene) (w : Placing) (k : Banks) (t u : State) (b : ℕ) (x : Block) (q : Spot) (o n : ℕ) → IsPlacement g.code g.place → Ready g a pushed needs c w k t → MayPut g a c w b x q o n → OnlyStored a (sp_of t) q o n t u → sp_of u ≡ sp_of t → IsCalm (setting_in g) u
calm_by g a pushed needs c w k t u b x q o n placed r m s sp =
    let h : HasStacks g t = ready_is_calm g a pushed needs c w k t r in
    record { low = omega (arith, sp, h.calm.low); high = omega (arith, sp, h.calm.high); hard = rw (s.pushed, s.frames) h.calm.hard; constant = constant; bytes = s.bytes }
  where
    constant : (p v : ℕ) → g.place.constant p ≡ Some v → u.mem p ≡ v
    constant p v e = s.mem p (inl (constants_are_low g placed p v e)) (constant_beside g a c w k t b x q o n r.joins m v p e) ∙ r.joins.constant p v e

-- ---- in memory

module _ (g : World) (a : Active) (pushed needs : ℕ) (c : Scene) (w : Placing) (k : Banks) (t : State) (b : ℕ) (x : Block) (at o n : ℕ) (new : ℕ → Cell) (placed : IsPlacement g.code g.place) (r : Ready g a pushed needs c w k t) (m : MayPut g a c w b x (At at) o n) where
  abbrev in_memory : Regs → List (ℕ × ℕ) → State
  in_memory regs ws = record t { regs = regs; mem = written t.mem ws }

  only_memory : (regs : Regs) (vs : List ℕ) (ws : List (ℕ × ℕ)) → ws ≡ listed vs (at + o) → length vs ≤ n → IsBytes (in_memory regs ws) → OnlyStored a (sp_of t) (At at) o n t (in_memory regs ws)
  only_memory regs vs ws e le bytes = record {
    mem = λ p side beside. ap (λ l. written t.mem l p) e ∙ listed_other t.mem vs (at + o) p (λ i lt f. beside i (omega (arith, lt, le)) (ap At (omega (arith, f))));
    bank = λ i lt beside. refl;
    pushed = refl;
    frames = refl;
    input = refl;
    output = refl;
    ended = refl;
    bytes = bytes;
  }

  pub calm_in_memory : (regs : Regs) (vs : List ℕ) (ws : List (ℕ × ℕ)) → ws ≡ listed vs (at + o) → length vs ≤ n → IsBytes (in_memory regs ws) → IsCalm (setting_in g) (in_memory regs ws)
  calm_in_memory regs vs ws e le bytes = calm_by g a pushed needs c w k t (in_memory regs ws) b x (At at) o n placed r m (only_memory regs vs ws e le bytes) refl

  -- a byte of the place may be reached
  pub opened : (i : ℕ) → i < n → IsOpen g.place (sp_of t) (at + o + i)
  opened i lt = go (r.joins.reached b x at (o + i) m.block (omega (arith, lt, m.fits)))
    where
      inside : at + (o + i) < 65520
      inside = omega (arith, lt, m.fits, r.joins.stands.whole b x m.block.is, (r.joins.stands.lies b x (At at) m.block).1)

      go : IsTrue (g.place.is_data (at + (o + i))) ⊎ (a.base ≤ at + (o + i)) → IsOpen g.place (sp_of t) (at + o + i)
      go (inl d) = let e : at + (o + i) ≡ at + o + i = omega arith in inl (rw (sym e) d)
      go (inr h) = inr (omega (arith, h, r.sp), omega (arith, inside))

  -- all of them are stored
  module _ (laid : (i : ℕ) → i < n → CellIs w (new i) (byte_of i (eax_of t))) where
    pub taken_in_memory : (regs : Regs) (vs : List ℕ) (ws : List (ℕ × ℕ)) → ws ≡ listed vs (at + o) → length vs ≡ n → ((i : ℕ) → i < n → slice_get vs i ≡ Some (byte_of i (eax_of t))) → IsBytes (in_memory regs ws) → (rest : ℕ) → pushed ≡ rest + 0
        → AreTaken g a rest needs 0 c w k t (with_put c b x o n new) k (in_memory regs ws)
    taken_in_memory regs vs ws e whole items bytes rest all =
        let only = only_memory regs vs ws e (omega (arith, whole)) bytes in
        puts_are_taken g a rest needs 0 c w k k t (in_memory regs ws) b x (At at) o n new placed (subst (λ y. Ready g a y needs c w k t) all r) m only are_laid ((banks_follow a k t (in_memory regs ws) o n).1 at r.joins.bank only) (omega arith)
      where
        are_laid : AreLaid w (At at) o n new (in_memory regs ws)
        are_laid i lt =
            let place : at + (o + i) ≡ at + o + i = omega arith in
            let byte : written t.mem ws (at + (o + i)) ≡ byte_of i (eax_of t) =
            ap (λ l. written t.mem l (at + (o + i))) e ∙ ap (written t.mem (listed vs (at + o))) place
            ∙ item_is (written t.mem (listed vs (at + o))) vs (at + o) i (byte_of i (eax_of t)) (listed_are_at t.mem vs (at + o)) (items i lt) in
            subst (λ y. CellIs w (new i) y) (sym byte) (laid i lt)

-- ---- in regbank

module _ (g : World) (a : Active) (pushed needs : ℕ) (c : Scene) (w : Placing) (k : Banks) (t : State) (b : ℕ) (x : Block) (d from o n : ℕ) (new : ℕ → Cell) (placed : IsPlacement g.code g.place) (r : Ready g a pushed needs c w k t) (m : MayPut g a c w b x (Banked d from) o n) where
  abbrev in_bank : List (ℕ × ℕ) → State
  in_bank ws = record t { zp = written t.zp ws }

  inside_bank : from + o + n ≤ 6
  inside_bank = omega (arith, m.fits, r.joins.stands.whole b x m.block.is, r.joins.stands.lies b x (Banked d from) m.block)

  module _ (vs : List ℕ) (ws : List (ℕ × ℕ)) (e : ws ≡ listed vs (20 + (from + o))) (le : length vs ≤ n) where
    other_byte : (p : ℕ) → ((i : ℕ) → i < n → 20 + (from + o) + i ≡ p → ⊥) → written t.zp ws p ≡ t.zp p
    other_byte p h = ap (λ l. written t.zp l p) e ∙ listed_other t.zp vs (20 + (from + o)) p (λ i lt f. h i (omega (arith, lt, le)) f)

    pub sp_in_bank : sp_of (in_bank ws) ≡ sp_of t
    sp_in_bank =
        let low = other_byte 0 (λ i lt f. omega (arith, f)) in
        let high = other_byte 1 (λ i lt f. omega (arith, f)) in
        omega (arith, low, high)

    pub only_bank : IsBytes (in_bank ws) → OnlyStored a (sp_of t) (Banked d from) o n t (in_bank ws)
    only_bank bytes = record {
      mem = λ p side beside. refl;
      bank = λ i lt beside. sym (other_byte (20 + i) (λ l less f. beside l less (place l i (omega (arith, f)))));
      pushed = refl;
      frames = refl;
      input = refl;
      output = refl;
      ended = refl;
      bytes = bytes;
    }
      where
        place : (l i : ℕ) → from + (o + l) ≡ i → Banked d (from + (o + l)) ≡ Banked (length a.behind) i
        place l i f = ap (Banked d) f ∙ ap (λ y. Banked y i) m.own.0

    pub calm_in_bank : IsBytes (in_bank ws) → IsCalm (setting_in g) (in_bank ws)
    calm_in_bank bytes = calm_by g a pushed needs c w k t (in_bank ws) b x (Banked d from) o n placed r m (only_bank bytes) sp_in_bank

    module _ (laid : (i : ℕ) → i < n → CellIs w (new i) (byte_of i (eax_of t))) where
      pub taken_in_bank : ((i : ℕ) → i < n → slice_get vs i ≡ Some (byte_of i (eax_of t))) → IsBytes (in_bank ws) → (rest : ℕ) → pushed ≡ rest + 0
          → AreTaken g a rest needs 0 c w k t (with_put c b x o n new) (banks_in a (in_bank ws) k) (in_bank ws)
      taken_in_bank items bytes rest all =
          puts_are_taken g a rest needs 0 c w k (banks_in a (in_bank ws) k) t (in_bank ws) b x (Banked d from) o n new placed (subst (λ y. Ready g a y needs c w k t) all r) m (only_bank bytes) are_laid ((banks_follow a k t (in_bank ws) o n).0) (omega (arith, sp_in_bank))
        where
          are_laid : AreLaid w (Banked d from) o n new (in_bank ws)
          are_laid i lt =
              let place : 20 + (from + (o + i)) ≡ 20 + (from + o) + i = omega arith in
              let byte : written t.zp ws (20 + (from + (o + i))) ≡ byte_of i (eax_of t) =
              ap (λ l. written t.zp l (20 + (from + (o + i)))) e ∙ ap (written t.zp (listed vs (20 + (from + o)))) place
              ∙ item_is (written t.zp (listed vs (20 + (from + o)))) vs (20 + (from + o)) i (byte_of i (eax_of t)) (listed_are_at t.zp vs (20 + (from + o))) (items i lt) in
              subst (λ y. CellIs w (new i) y) (sym byte) (laid i lt)
