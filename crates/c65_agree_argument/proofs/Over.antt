-- What is kept while values wait on the software stack.
use Rattle.std.proofs.Common.{◌≡◌, ℕ, ◌+◌, ◌≤◌, [], length, refl, sym, ap, ◌∙◌, subst, arith}
use Rattle.c65_meaning.specs.Store.{Value, cell_of}
use Rattle.c65_meaning.specs.State.{Scene, turned}
use Rattle.c65_code.specs.LineState.{State, sp_of}
use Rattle.c65_agree_store.specs.Stands.{At, Placing, Banks, CellIs, IsFree}
use Rattle.c65_agree_store.proofs.Keep.{cell_grows}
use Rattle.c65_agree_state.specs.World.{World, Active}
use Rattle.c65_agree_state.specs.Joins.{Joins}
use Rattle.c65_agree_state.specs.Exprs.{Ready, Kept}
use Rattle.c65_agree_state.proofs.Followed.{ready_is_calm}
use Rattle.c65_agree_leave.specs.Calls.{IsBehind}
use Rattle.c65_agree_argument.specs.Arguments.{LieAt, IsOver, IsPushed}

module _ (g : World) (a : Active) where
  pub none_over : (pushed needs : ℕ) (c : Scene) (w : Placing) (k : Banks) (t : State) → Ready g a pushed needs c w k t → IsOver g a 0 c w k t c w k t
  none_over pushed needs c w k t r = record {
    joins = r.joins;
    sp = omega arith;
    frames = refl;
    next = omega arith;
    bounds = λ b lt. refl;
    grows = λ b q e. e;
    kept = λ n le f. (refl, f);
    banks = λ d i lt. refl;
    own_bank = λ i le. refl;
    none_pushed = r.none_pushed;
  }

  pub kept_over : (c c2 : Scene) (w w2 : Placing) (k k2 : Banks) (t u : State) → Kept g a c w k t c2 w2 k2 u → IsOver g a 0 c w k t c2 w2 k2 u
  kept_over c c2 w w2 k k2 t u h = record {
    joins = h.joins;
    sp = omega (arith, h.sp);
    frames = h.frames;
    next = h.next;
    bounds = h.bounds;
    grows = h.grows;
    kept = h.kept;
    banks = h.banks;
    own_bank = h.own_bank;
    none_pushed = h.none_pushed;
  }

  module _ (pushed needs count further : ℕ) (c c1 c2 : Scene) (w w1 w2 : Placing) (k k1 k2 : Banks) (t u u1 x : State) (v : Value)
      (h : Kept g a c w k t c1 w1 k1 u) (p : IsPushed g a pushed needs count c1 w1 k1 v u u1) (o : IsOver g a further c1 w1 k1 u1 c2 w2 k2 x) where
    pub over_pushed : IsOver g a (count + further) c w k t c2 w2 k2 x
    over_pushed = record {
      joins = o.joins;
      sp = omega (arith, o.sp, p.sp, h.sp);
      frames = o.frames ∙ h.frames;
      next = omega (arith, h.next, o.next);
      bounds = λ b lt. o.bounds b (omega (arith, lt, h.next)) ∙ h.bounds b lt;
      grows = λ b q e. o.grows b q (h.grows b q e);
      kept = bytes;
      banks = λ d i lt. o.banks d i lt ∙ h.banks d i lt;
      own_bank = λ i le. o.own_bank i le ∙ h.own_bank i le;
      none_pushed = o.none_pushed;
    }
      where
        bytes : (n : ℕ) → sp_of t ≤ n → IsFree c.store w (At n) → (x.mem n ≡ t.mem n) × IsFree c2.store w2 (At n)
        bytes n le f =
            let one = h.kept n le f in
            let two = o.kept n (omega (arith, le, h.sp, p.sp)) one.1 in
            (two.0 ∙ (p.mem n (omega (arith, le, h.sp)) ∙ one.0), two.1)

    -- what waits there is what was pushed
    pub still_lies : LieAt w2 x.mem (sp_of x + further) count v
    still_lies i lt =
        let calm = (ready_is_calm g a (pushed + count) needs c1 w1 k1 u1 p.ready).calm in
        let at : sp_of x + further + i ≡ sp_of u1 + i = omega (arith, o.sp) in
        let free = p.ready.joins.above (sp_of u1 + i) (omega (arith, calm.low)) (omega (arith, lt, p.ready.sp)) in
        let same : x.mem (sp_of x + further + i) ≡ u1.mem (sp_of u1 + i) = ap x.mem at ∙ (o.kept (sp_of u1 + i) (omega arith) free).0 in
        cell_grows w1 w2 (cell_of v i) (x.mem (sp_of x + further + i)) o.grows (subst (CellIs w1 (cell_of v i)) (sym same) (p.lies i lt))

-- ---- behind what waits

module _ (g : World) (a : Active) where
  -- lines that keep all
  pub over_then : (count : ℕ) (c c1 c2 : Scene) (w w1 w2 : Placing) (k k1 k2 : Banks) (t u x : State) → IsOver g a count c w k t c1 w1 k1 u → Kept g a c1 w1 k1 u c2 w2 k2 x → IsOver g a count c w k t c2 w2 k2 x
  over_then count c c1 c2 w w1 w2 k k1 k2 t u x o h = record {
    joins = h.joins;
    sp = omega (arith, o.sp, h.sp);
    frames = h.frames ∙ o.frames;
    next = omega (arith, o.next, h.next);
    bounds = λ b lt. h.bounds b (omega (arith, lt, o.next)) ∙ o.bounds b lt;
    grows = λ b q e. h.grows b q (o.grows b q e);
    kept = bytes;
    banks = λ d i lt. h.banks d i lt ∙ o.banks d i lt;
    own_bank = λ i le. h.own_bank i le ∙ o.own_bank i le;
    none_pushed = h.none_pushed;
  }
    where
      bytes : (n : ℕ) → sp_of t ≤ n → IsFree c.store w (At n) → (x.mem n ≡ t.mem n) × IsFree c2.store w2 (At n)
      bytes n le f =
          let one = o.kept n le f in
          let two = h.kept n (omega (arith, le, o.sp)) one.1 in
          (two.0 ∙ one.0, two.1)

  -- a call that takes off what it passes
  pub over_call : (count wait : ℕ) (c c1 c2 : Scene) (w w1 w2 : Placing) (k k1 k2 : Banks) (t u x : State) → IsOver g a (count + wait) c w k t c1 w1 k1 u → IsBehind g a wait (turned c1) w1 k1 u c2 w2 k2 x → IsOver g a count c w k t c2 w2 k2 x
  over_call count wait c c1 c2 w w1 w2 k k1 k2 t u x o h = record {
    joins = h.joins;
    sp = omega (arith, o.sp, h.sp);
    frames = h.frames ∙ o.frames;
    next = omega (arith, o.next, h.next);
    bounds = λ b lt. h.bounds b (omega (arith, lt, o.next)) ∙ o.bounds b lt;
    grows = λ b q e. h.grows b q (o.grows b q e);
    kept = bytes;
    banks = λ d i lt. h.banks d i (omega (arith, lt)) ∙ o.banks d i lt;
    own_bank = λ i le. h.banks (length a.behind) i (omega arith) ∙ o.own_bank i le;
    none_pushed = h.pushed ∙ o.none_pushed;
  }
    where
      bytes : (n : ℕ) → sp_of t ≤ n → IsFree c.store w (At n) → (x.mem n ≡ t.mem n) × IsFree c2.store w2 (At n)
      bytes n le f =
          let one = o.kept n le f in
          let two = h.kept n (omega (arith, le, o.sp)) one.1 in
          (two.0 ∙ one.0, two.1)

  -- where what waits was taken off all is kept
  pub over_all : (count : ℕ) (c c1 : Scene) (w w1 : Placing) (k k1 : Banks) (t u x : State) → IsOver g a count c w k t c1 w1 k1 u → Joins g a c1 w1 k1 x → sp_of x ≡ sp_of u + count → ((n : ℕ) → sp_of x ≤ n → x.mem n ≡ u.mem n) → x.pushed ≡ [] → Kept g a c w k t c1 w1 k1 x
  over_all count c c1 w w1 k k1 t u x o joins off mem none = record {
    joins = joins;
    sp = omega (arith, off, o.sp);
    frames = o.frames;
    next = o.next;
    bounds = o.bounds;
    grows = o.grows;
    kept = bytes;
    banks = o.banks;
    own_bank = o.own_bank;
    none_pushed = none;
  }
    where
      bytes : (n : ℕ) → sp_of t ≤ n → IsFree c.store w (At n) → (x.mem n ≡ t.mem n) × IsFree c1.store w1 (At n)
      bytes n le f =
          let one = o.kept n le f in
          (mem n (omega (arith, le, off, o.sp)) ∙ one.0, one.1)
