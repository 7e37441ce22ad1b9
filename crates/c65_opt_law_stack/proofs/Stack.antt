-- Rows of calls that move sp, push or pop, and read or write at sp.
use Rattle.std.proofs.Common.{◌≡◌, ℕ, zero, suc, ◌+◌, ◌-◌, ◌/◌, ◌%◌, ◌<◌, ◌≤◌, ◌==◌, Bool, true, false, if◌then◌else◌, [], ◌∷◌, max, min, Option, Some, None, refl, sym, subst, ap, ◌∙◌, arith}
use Rattle.std.proofs.lemmas.Bool.{eqb-true}
use Rattle.std.proofs.lemmas.List.{append-nil}
use Rattle.std.proofs.lemmas.List.Elements.{All-nil}
use Rattle.c65_code.specs.declared.parts.Part.{Part}
use Rattle.c65_code.specs.declared.parts.Part.TheVariants as parts
use Rattle.c65_code.specs.declared.parts.RegSet.{RegSet}
use Rattle.c65_code.specs.declared.routine.Routine.{Routine}
use Rattle.c65_code.specs.Effects.{small, sp_bytes, routine_sets}
use Rattle.c65_code.specs.LineState.{Bytes, write, State, sp_of, Same, IsBytes}
use Rattle.c65_code.specs.Moves.{MeetsRow}
use Rattle.c65_code.specs.Parts.{has_part, union_of}
use Rattle.c65_code.specs.Placement.{Setting}
use Rattle.c65_code.specs.Rows.{Row, Meets, sp_row, row_of}
use Rattle.c65_code.specs.Steady.{IsSteady, IsOpen, HasRoom, RowHasRoom}
use Rattle.c65_code.specs.Weights.{row_cost}
use Rattle.c65_pass.specs.StackRules.{call_of}
use Rattle.c65_opt_law_follow.specs.Windows.{WayOut, IsSilent, ends, goes, Justified}
use Rattle.c65_opt_law_stack.proofs.Windows.{first_steady, rest_safe, call_stands}

pub write_other : (m : Bytes) (i v j : ℕ) → (j ≡ i → ⊥) → write m i v j ≡ m j
write_other m i v j ne = pick (j == i) refl
  where
    pick : (b : Bool) → (j == i) ≡ b → (if b then v else m j) ≡ m j
    pick true e = absurd (ne (eqb-true j i e))
    pick false e = refl

-- ---- another sp

abbrev pub with_sp : ℕ → Bytes → Bytes
with_sp k zp = write (write zp 0 (k % 256)) 1 (k / 256)

pub with_sp_other : (k : ℕ) (zp : Bytes) (i : ℕ) → 2 ≤ i → with_sp k zp i ≡ zp i
with_sp_other k zp i h = write_other (write zp 0 (k % 256)) 1 (k / 256) i (λ e. omega (arith, e, h)) ∙ write_other zp 0 (k % 256) i (λ e. omega (arith, e, h))

pub with_sp_bytes : (k : ℕ) (zp : Bytes) (i : ℕ) → k < 65536 → ((j : ℕ) → zp j < 256) → with_sp k zp i < 256
with_sp_bytes k zp i h bytes = pick (i == 1) (i == 0)
  where
    pick : (b c : Bool) → (if b then k / 256 else (if c then k % 256 else zp i)) < 256
    pick true c = omega arith
    pick false true = omega arith
    pick false false = bytes i

-- a byte of the zero page that moves of sp do not change
pub outside_sp : (set : RegSet) (i : ℕ) → has_part set (parts.Zp 0) ≡ true → has_part set (parts.Zp 1) ≡ true → has_part set (parts.Zp i) ≡ false → 2 ≤ i
outside_sp set zero first second h = absurd (let e : true ≡ false = sym first ∙ h in cc)
outside_sp set (suc zero) first second h = absurd (let e : true ≡ false = sym second ∙ h in cc)
outside_sp set (suc (suc i)) first second h = omega arith

-- ---- sp moved twice

abbrev pub at_sp : ℕ → State → State
at_sp k t = record t { zp = with_sp k t.zp }

pub at_sp_bytes : (k : ℕ) (t : State) → k < 65536 → IsBytes t → IsBytes (at_sp k t)
at_sp_bytes k t h b = record { a = b.a; x = b.x; y = b.y; zp = λ i. with_sp_bytes k t.zp i h b.zp; mem = b.mem; pushed = b.pushed; frames = b.frames }

-- what a move of sp may change
abbrev pub moving : RegSet
moving = union_of small sp_bytes

module _ (r1 r2 r3 : Routine) (e1 : routine_sets r1 ≡ moving) (e2 : routine_sets r2 ≡ moving) (e3 : routine_sets r3 ≡ moving) where
  in_moving : (r : Routine) → routine_sets r ≡ moving → (p : Part) → has_part (routine_sets r) p ≡ false → has_part moving p ≡ false
  in_moving r e p h = subst (λ (set : RegSet). has_part set p ≡ false) e h

  as_joined : (r : Routine) → routine_sets r ≡ moving → (p : Part) → has_part (routine_sets r) p ≡ false → has_part (routine_sets r3) p ≡ false
  as_joined r e p h = subst (λ (set : RegSet). has_part set p ≡ false) (sym e3) (in_moving r e p h)

  -- a move leads as far as two do, the first of which changes what the move changes
  pub first_move : (k k1 : ℕ) (t u : State) → Meets (sp_row r3 k t) t u → Meets (sp_row r1 k1 t) t (at_sp k1 u)
  first_move k k1 t u m = record {
    sp = omega arith;
    a = m.a;
    x = m.x;
    sreg = m.sreg;
    pointers = tt;
    bank = tt;
    kept = kept;
    high = λ i h. m.high i h ∙ sym (with_sp_other k1 u.zp i (omega (arith, h)));
    mem = m.mem;
    pushed = m.pushed;
    frames = m.frames;
    input = m.input;
    output = m.output;
    ended = m.ended;
  }
    where
      kept : (p : Part) → has_part (routine_sets r1) p ≡ false → Same p t (at_sp k1 u)
      kept parts.A h = m.kept parts.A (as_joined r1 e1 parts.A h)
      kept parts.X h = m.kept parts.X (as_joined r1 e1 parts.X h)
      kept parts.Y h = m.kept parts.Y (as_joined r1 e1 parts.Y h)
      kept (parts.Zp i) h = m.kept (parts.Zp i) (as_joined r1 e1 (parts.Zp i) h) ∙ sym (with_sp_other k1 u.zp i (outside_sp moving i refl refl (in_moving r1 e1 (parts.Zp i) h)))
      kept parts.N h = m.kept parts.N (as_joined r1 e1 parts.N h)
      kept parts.V h = m.kept parts.V (as_joined r1 e1 parts.V h)
      kept parts.Z h = m.kept parts.Z (as_joined r1 e1 parts.Z h)
      kept parts.C h = m.kept parts.C (as_joined r1 e1 parts.C h)

  pub second_move : (k k1 : ℕ) (u : State) → sp_of u ≡ k → u.ended ≡ None → Meets (sp_row r2 k (at_sp k1 u)) (at_sp k1 u) u
  second_move k k1 u e running = record {
    sp = e;
    a = refl;
    x = refl;
    sreg = refl;
    pointers = tt;
    bank = tt;
    kept = kept;
    high = λ i h. with_sp_other k1 u.zp i (omega (arith, h));
    mem = λ b h. refl;
    pushed = refl;
    frames = refl;
    input = refl;
    output = sym (append-nil u.output);
    ended = running;
  }
    where
      kept : (p : Part) → has_part (routine_sets r2) p ≡ false → Same p (at_sp k1 u) u
      kept parts.A h = refl
      kept parts.X h = refl
      kept parts.Y h = refl
      kept (parts.Zp i) h = with_sp_other k1 u.zp i (outside_sp moving i refl refl (in_moving r2 e2 (parts.Zp i) h))
      kept parts.N h = refl
      kept parts.V h = refl
      kept parts.Z h = refl
      kept parts.C h = refl

  -- the window: each row moves sp by what it says
  module _ (one two three : ℕ → ℕ) (row1 : (t : State) → row_of r1 t ≡ Some (sp_row r1 (one (sp_of t)) t)) (row2 : (t : State) → row_of r2 t ≡ Some (sp_row r2 (two (sp_of t)) t)) (row3 : (t : State) → row_of r3 t ≡ Some (sp_row r3 (three (sp_of t)) t))
      (joined : (n : ℕ) → three n ≡ two (one n)) (below : (n : ℕ) → n < 65536 → three n < 65536 → one n < 65536) where
    pub moves_joined : (s : Setting) (to : WayOut → ℕ) (after : WayOut → RegSet) → IsSilent r1 → IsSilent r2 → IsSilent r3 → Justified s to after (λ t. Unit {0}) (call_of r1 ∷ call_of r2 ∷ []) (call_of r3 ∷ [])
    moves_joined s to after i1 i2 i3 = call_stands s to after (call_of r1 ∷ call_of r2 ∷ []) r3 i3 (λ w t h.
        let st : IsSteady s (call_of r1) t = first_steady s (call_of r1) (call_of r2 ∷ []) w t h.safe in
        let rest = rest_safe s (call_of r1) (call_of r2 ∷ []) w t i1 h.safe in
        let room : HasRoom s.place (sp_row r1 (one (sp_of t)) t) t = subst (λ (o : Option Row). RowHasRoom s.place o t) (row1 t) st.within in
        let cost : row_cost (row_of r1 t) ≡ 32 = ap row_cost (row1 t) in
        let cost3 : row_cost (row_of r3 t) ≡ 32 = ap row_cost (row3 t) in
        record {
          calm = st.calm;
          room = subst (λ (o : Option Row). RowHasRoom s.place o t) (sym (row3 t)) (record { ready = refl; soft = room.soft; hard = room.hard; near = All-nil (IsOpen s.place (min (sp_of t) (three (sp_of t)))); far = All-nil (IsOpen s.place (max (sp_of t) (three (sp_of t)))) });
          cost = omega (arith, cost, cost3, rest.enough);
          ways = λ u met b.
              let m : Meets (sp_row r3 (three (sp_of t)) t) t u = subst (λ (o : Option Row). MeetsRow o t u) (row3 t) met in
              let k1 : ℕ = one (sp_of t) in
              let mid : State = at_sp k1 u in
              let there : sp_of mid ≡ k1 = omega arith in
              let last : sp_of u ≡ two (sp_of mid) = m.sp ∙ (joined (sp_of t) ∙ ap two (sym there)) in
              let fits : k1 < 65536 = below (sp_of t) (omega (arith, st.calm.high)) (omega (arith, m.sp, b.zp 0, b.zp 1)) in (
                row_cost (row_of r1 t) + (row_cost (row_of r2 mid) + 0),
                goes i1 (subst (λ (o : Option Row). MeetsRow o t mid) (sym (row1 t)) (first_move (three (sp_of t)) k1 t u m)) (at_sp_bytes k1 u fits b)
                    (goes i2 (subst (λ (o : Option Row). MeetsRow o mid u) (sym (row2 mid)) (second_move (two (sp_of mid)) k1 u last m.ended)) b ends),
                omega (arith, cost, cost3),
              );
        })
