-- Stores over what was just stored, and loads that are moved on.
use Rattle.std.proofs.Common.{◌≡◌, ℕ, ◌+◌, ◌<◌, ◌≤◌, ◌==◌, ◌&&◌, Bool, true, false, if◌then◌else◌, Option, Some, None, List, [], ◌∷◌, IsTrue, refl, sym, subst, ap, ◌∙◌, eq-eqb}
use Rattle.std.specs.Prelude.{is_some}
use Rattle.std.proofs.Math.Path.{fun_ext}
use Rattle.std.proofs.lemmas.Bool.{and_parts}
use Rattle.c65_mach.specs.State.{Regs}
use Rattle.c65_mach.specs.declared.rows.Op.{Op}
use Rattle.c65_mach.specs.declared.rows.Op.TheVariants as ops
use Rattle.c65_mach.specs.declared.rows.Mode.{Mode}
use Rattle.c65_mach.specs.Step.{Kind, Reads, Stores, with_a, with_x, with_y}
use Rattle.c65_code.specs.declared.line.Line.{Line}
use Rattle.c65_code.specs.declared.line.Line.TheVariants.{Do}
use Rattle.c65_code.specs.declared.line.Operand.{Operand}
use Rattle.c65_code.specs.declared.parts.Part.{Part}
use Rattle.c65_code.specs.declared.parts.Part.TheVariants as parts
use Rattle.c65_code.specs.declared.parts.RegSet.{RegSet}
use Rattle.c65_code.specs.LineState.{Bytes, write, State, Same, IsBytes}
use Rattle.c65_code.specs.Moves.{Ref, Given, ZeroAt, MemAt, ref_of, value_at, put}
use Rattle.c65_code.specs.Parts.{has_part, set_of}
use Rattle.c65_code.specs.Placement.{Placement, Setting, word_of}
use Rattle.c65_code.specs.Steady.{IsAllowed}
use Rattle.c65_live.specs.Samples.{DeadIsNotLive}
use Rattle.c65_live.specs.Tables.{Table, live_after, is_dead}
use Rattle.c65_pass.specs.declared.register.Register.{Register}
use Rattle.c65_pass.specs.declared.register.Register.TheVariants.{A, X, Y}
use Rattle.c65_pass.specs.declared.register.Transfer.{Transfer}
use Rattle.c65_pass.specs.LoadRules.{is_one_place, is_overwritten, is_common_load, load_for, loaded_on}
use Rattle.c65_pass.specs.Registers.{is_same_register, part_of, loaded_by, stored_by, load_op, transfer_by}
use Rattle.c65_optarith_law.specs.Straight.{Steps, Agree}
use Rattle.c65_optarith_law.proofs.Agreeing.{DifferIn, agree_same, agree_dead}
use Rattle.c65_optload_law.proofs.Registers.{held, with_reg, load_is, store_is, move_is, same_register}
use Rattle.c65_optload_law.proofs.Places.{one_place, put_held}
use Rattle.c65_optload_law.proofs.Made.{Leads, loaded_small}

-- ---- a store over a store

write_over : (m : Bytes) (at v w b : ℕ) → write (write m at v) at w b ≡ write m at w b
write_over m at v w b = pick (b == at)
  where
    pick : (c : Bool) → (if c then w else (if c then v else m b)) ≡ (if c then w else m b)
    pick true = refl
    pick false = refl

put_over : (ref : Ref) (v w : ℕ) (t : State) → put ref w (put ref v t) ≡ put ref w t
put_over (Given x) v w t = refl
put_over (ZeroAt i) v w t = let e : write (write t.zp i v) i w ≡ write t.zp i w = fun_ext (write_over t.zp i v w) in ap (λ (m : Bytes). record t { zp = m }) e
put_over (MemAt i) v w t = let e : write (write t.mem i v) i w ≡ write t.mem i w = fun_ext (write_over t.mem i v w) in ap (λ (m : Bytes). record t { mem = m }) e

allowed_before : (place : Placement) (ref : Ref) (v : ℕ) (t : State) → IsAllowed place Stores ref (put ref v t) → IsAllowed place Stores ref t
allowed_before place (Given w) v t h = tt
allowed_before place (ZeroAt i) v t h = h
allowed_before place (MemAt b) v t h = h

some_is : (o : Option Register) → is_some o ≡ true → (r : Register) × (o ≡ Some r)
some_is None h = absurd cc
some_is (Some r) h = (r, refl)

module _ (s : Setting) (live : RegSet) (there : Mode) (other : Operand) (t m u : State) where
  -- the second store, from the state before the first
  second_store : (next : Op) (q : Register) (ref : Ref) (v : ℕ) → stored_by next ≡ Some q → m ≡ put ref v t → ref_of there (word_of s.place other) m ≡ ref → ref_of there (word_of s.place other) t ≡ ref
      → {line : Line} → Steps s line t m → Steps s (Do next there other) m u → Leads s live (Do next there other) t u
  second_store ops.Sta A ref v e is at_m at_t first second = (
    u,
    record {
      onward = tt;
      running = first.running;
      steady = record { calm = first.steady.calm; within = subst (λ (r : Ref). IsAllowed s.place Stores r t) (sym at_t) (allowed_before s.place ref v t (subst (λ (x : State). IsAllowed s.place Stores ref x) is (subst (λ (r : Ref). IsAllowed s.place Stores r m) at_m second.steady.within))) };
      does = second.does ∙ (ap (λ (r : Ref). put r m.regs.a m) at_m ∙ (ap (λ (x : State). put ref x.regs.a x) is ∙ (ap (λ (x : ℕ). put ref x (put ref v t)) (put_held ref v t A) ∙ (put_over ref v t.regs.a t ∙ ap (λ (r : Ref). put r t.regs.a t) (sym at_t)))));
      bytes = second.bytes;
    },
    agree_same live u u refl,
  )
  second_store ops.Stx X ref v e is at_m at_t first second = (
    u,
    record {
      onward = tt;
      running = first.running;
      steady = record { calm = first.steady.calm; within = subst (λ (r : Ref). IsAllowed s.place Stores r t) (sym at_t) (allowed_before s.place ref v t (subst (λ (x : State). IsAllowed s.place Stores ref x) is (subst (λ (r : Ref). IsAllowed s.place Stores r m) at_m second.steady.within))) };
      does = second.does ∙ (ap (λ (r : Ref). put r m.regs.x m) at_m ∙ (ap (λ (x : State). put ref x.regs.x x) is ∙ (ap (λ (x : ℕ). put ref x (put ref v t)) (put_held ref v t X) ∙ (put_over ref v t.regs.x t ∙ ap (λ (r : Ref). put r t.regs.x t) (sym at_t)))));
      bytes = second.bytes;
    },
    agree_same live u u refl,
  )
  second_store ops.Sty Y ref v e is at_m at_t first second = (
    u,
    record {
      onward = tt;
      running = first.running;
      steady = record { calm = first.steady.calm; within = subst (λ (r : Ref). IsAllowed s.place Stores r t) (sym at_t) (allowed_before s.place ref v t (subst (λ (x : State). IsAllowed s.place Stores ref x) is (subst (λ (r : Ref). IsAllowed s.place Stores r m) at_m second.steady.within))) };
      does = second.does ∙ (ap (λ (r : Ref). put r m.regs.y m) at_m ∙ (ap (λ (x : State). put ref x.regs.y x) is ∙ (ap (λ (x : ℕ). put ref x (put ref v t)) (put_held ref v t Y) ∙ (put_over ref v t.regs.y t ∙ ap (λ (r : Ref). put r t.regs.y t) (sym at_t)))));
      bytes = second.bytes;
    },
    agree_same live u u refl,
  )
  second_store _ _ ref v e is at_m at_t first second = absurd cc

pub overwritten_leads : (s : Setting) (live : RegSet) (line next : Line) (t m u : State) → is_overwritten line next ≡ true → Steps s line t m → Steps s next m u → Leads s live next t u
overwritten_leads s live (Do op mode operand) (Do next there other) t m u h first second =
    let one = and_parts (is_some (stored_by op)) _ h in
    let two = and_parts (is_some (stored_by next)) (is_one_place mode operand there other) one.1 in
    let r = some_is (stored_by op) one.0 in
    let q = some_is (stored_by next) two.0 in
    second_store s live there other t m u next q.0 (ref_of mode (word_of s.place operand) t) (held r.0 t.regs) q.1 (store_is s t m mode operand op r.0 r.1 first) (one_place s mode operand there other t m two.1) (one_place s mode operand there other t t two.1) first second
overwritten_leads s live _ _ t m u h first second = absurd cc

-- ---- a load moved on

move_made : (table : Table) (q : ℕ) (mode : Mode) (operand : Operand) (o : Option Register) (p : Option Transfer) (l : Line) → load_for table q mode operand o p ≡ Some l
    → (r : Register) × (m : Transfer) × (o ≡ Some r) × (p ≡ Some m) × (r ≡ m.from) × (is_dead table q (set_of (part_of r ∷ [])) ≡ true) × (Do (load_op m.to) mode operand ≡ l)
move_made table q mode operand (Some r) (Some m) l e = pick (is_common_load mode && (is_same_register r m.from && is_dead table q (set_of (part_of r ∷ [])))) refl e
  where
    pick : (b : Bool) → (is_common_load mode && (is_same_register r m.from && is_dead table q (set_of (part_of r ∷ [])))) ≡ b → (if b then Some (Do (load_op m.to) mode operand) else None) ≡ Some l
        → (k : Register) × (n : Transfer) × (Some r ≡ Some k) × (Some m ≡ Some n) × (k ≡ n.from) × (is_dead table q (set_of (part_of k ∷ [])) ≡ true) × (Do (load_op n.to) mode operand ≡ l)
    pick true h e =
        let rest = and_parts (is_same_register r m.from) (is_dead table q (set_of (part_of r ∷ []))) (and_parts (is_common_load mode) _ h).1 in
        (r, m, refl, refl, same_register r m.from rest.0, rest.1, cc)
    pick false h e = absurd cc
move_made table q mode operand None p l e = absurd cc
move_made table q mode operand (Some r) None l e = absurd cc

differs : (r to : Register) (v : ℕ) (q : Regs) → DifferIn (set_of (part_of r ∷ [])) (with_reg to v (with_reg r v q)) (with_reg to v q)
differs A A v q = record { a = λ h. refl; x = λ h. refl; y = λ h. refl; n = λ h. refl; v = λ h. refl; z = λ h. refl; c = λ h. refl }
differs A X v q = record { a = λ h. absurd cc; x = λ h. refl; y = λ h. refl; n = λ h. refl; v = λ h. refl; z = λ h. refl; c = λ h. refl }
differs A Y v q = record { a = λ h. absurd cc; x = λ h. refl; y = λ h. refl; n = λ h. refl; v = λ h. refl; z = λ h. refl; c = λ h. refl }
differs X A v q = record { a = λ h. refl; x = λ h. absurd cc; y = λ h. refl; n = λ h. refl; v = λ h. refl; z = λ h. refl; c = λ h. refl }
differs X X v q = record { a = λ h. refl; x = λ h. refl; y = λ h. refl; n = λ h. refl; v = λ h. refl; z = λ h. refl; c = λ h. refl }
differs X Y v q = record { a = λ h. refl; x = λ h. absurd cc; y = λ h. refl; n = λ h. refl; v = λ h. refl; z = λ h. refl; c = λ h. refl }
differs Y A v q = record { a = λ h. refl; x = λ h. refl; y = λ h. absurd cc; n = λ h. refl; v = λ h. refl; z = λ h. refl; c = λ h. refl }
differs Y X v q = record { a = λ h. refl; x = λ h. refl; y = λ h. absurd cc; n = λ h. refl; v = λ h. refl; z = λ h. refl; c = λ h. refl }
differs Y Y v q = record { a = λ h. refl; x = λ h. refl; y = λ h. refl; n = λ h. refl; v = λ h. refl; z = λ h. refl; c = λ h. refl }

held_same : (r : Register) (v : ℕ) (q : Regs) → held r (with_reg r v q) ≡ v
held_same A v q = refl
held_same X v q = refl
held_same Y v q = refl

module _ (s : Setting) (mode : Mode) (operand : Operand) (t : State) where
  -- what a load may read
  may_read : (op : Op) (r : Register) (m : State) → loaded_by op ≡ Some r → Steps s (Do op mode operand) t m → IsAllowed s.place Reads (ref_of mode (word_of s.place operand) t) t
  may_read ops.Lda r m e step = step.steady.within
  may_read ops.Ldx r m e step = step.steady.within
  may_read ops.Ldy r m e step = step.steady.within
  may_read _ r m e step = absurd cc

  -- a load of another register
  other_load : (to : Register) {line : Line} {m : State} → Steps s line t m → IsAllowed s.place Reads (ref_of mode (word_of s.place operand) t) t → value_at (ref_of mode (word_of s.place operand) t) t < 256
      → Steps s (Do (load_op to) mode operand) t (record t { regs = with_reg to (value_at (ref_of mode (word_of s.place operand) t) t) t.regs })
  other_load A step allowed small = let b = step.steady.calm.bytes in record { onward = tt; running = step.running; steady = record { calm = step.steady.calm; within = allowed }; does = refl; bytes = record { a = small; x = b.x; y = b.y; zp = b.zp; mem = b.mem; pushed = b.pushed; frames = b.frames } }
  other_load X step allowed small = let b = step.steady.calm.bytes in record { onward = tt; running = step.running; steady = record { calm = step.steady.calm; within = allowed }; does = refl; bytes = record { a = b.a; x = small; y = b.y; zp = b.zp; mem = b.mem; pushed = b.pushed; frames = b.frames } }
  other_load Y step allowed small = let b = step.steady.calm.bytes in record { onward = tt; running = step.running; steady = record { calm = step.steady.calm; within = allowed }; does = refl; bytes = record { a = b.a; x = b.x; y = small; zp = b.zp; mem = b.mem; pushed = b.pushed; frames = b.frames } }

module _ (dead : DeadIsNotLive) (table : Table) (q : ℕ) (s : Setting) where
  pub moved_on_leads : (line next l : Line) (t m u : State) → loaded_on table q line next ≡ Some l → Steps s line t m → Steps s next m u → Leads s (live_after table q) l t u
  moved_on_leads (Do op mode operand) (Do next there other) l t m u e first second =
      let made = move_made table q mode operand (loaded_by op) (transfer_by next) l e in
      let loaded = load_is s t m mode operand op made.0 made.2 first in
      let moved = move_is s m u there other next made.1 made.3 second in
      let from : held made.1.from m.regs ≡ value_at (ref_of mode (word_of s.place operand) t) t =
      ap (λ (x : Register). held x m.regs) (sym made.4) ∙ (ap (λ (x : State). held made.0 x.regs) loaded ∙ held_same made.0 (value_at (ref_of mode (word_of s.place operand) t) t) t.regs) in
      let is : u ≡ record t { regs = with_reg made.1.to (value_at (ref_of mode (word_of s.place operand) t) t) (with_reg made.0 (value_at (ref_of mode (word_of s.place operand) t) t) t.regs) } =
      moved ∙ (ap (λ (x : ℕ). record m { regs = with_reg made.1.to x m.regs }) from ∙ ap (λ (x : State). record x { regs = with_reg made.1.to (value_at (ref_of mode (word_of s.place operand) t) t) x.regs }) loaded) in
      let small : value_at (ref_of mode (word_of s.place operand) t) t < 256 = loaded_small made.0 (value_at (ref_of mode (word_of s.place operand) t) t) t m first.bytes loaded in
      subst (λ (x : Line). Leads s (live_after table q) x t u) made.6 (
        record t { regs = with_reg made.1.to (value_at (ref_of mode (word_of s.place operand) t) t) t.regs },
        other_load s mode operand t made.1.to first (may_read s mode operand t op made.0 m made.2 first) small,
        agree_dead dead table q (set_of (part_of made.0 ∷ [])) (record t { regs = with_reg made.1.to (value_at (ref_of mode (word_of s.place operand) t) t) t.regs }) u
            (with_reg made.1.to (value_at (ref_of mode (word_of s.place operand) t) t) (with_reg made.0 (value_at (ref_of mode (word_of s.place operand) t) t) t.regs)) is made.5 (differs made.0 made.1.to (value_at (ref_of mode (word_of s.place operand) t) t) t.regs),
      )
  moved_on_leads _ _ l t m u e first second = absurd cc
