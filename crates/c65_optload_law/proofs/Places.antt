-- Stores and loads at one place.
use Rattle.std.proofs.Common.{◌≡◌, ℕ, ◌+◌, ◌≤◌, ◌==◌, ◌%◌, ◌&&◌, Bool, true, false, if◌then◌else◌, Option, Some, None, List, [], ◌∷◌, refl, sym, subst, ap, ◌∙◌, eq-eqb}
use Rattle.std.specs.Prelude.{is_some}
use Rattle.std.proofs.Math.Path.{fun_ext}
use Rattle.std.proofs.lemmas.Bool.{and_parts, eqb-true}
use Rattle.c65_mach.specs.State.{Regs}
use Rattle.c65_mach.specs.declared.rows.Op.{Op}
use Rattle.c65_mach.specs.declared.rows.Op.TheVariants as ops
use Rattle.c65_mach.specs.declared.rows.Mode.{Mode}
use Rattle.c65_mach.specs.declared.rows.Mode.TheVariants.{Implied, Immediate, ZeroPage, Absolute}
use Rattle.c65_mach.specs.Step.{with_a, with_x, with_y, kind_of}
use Rattle.c65_code.specs.declared.line.Line.{Line}
use Rattle.c65_code.specs.declared.line.Line.TheVariants.{Do}
use Rattle.c65_code.specs.declared.line.Operand.{Operand}
use Rattle.c65_code.specs.declared.line.Operand.TheVariants.{Byte, Zero, At}
use Rattle.c65_code.specs.declared.line.Sym.{Sym}
use Rattle.c65_code.specs.declared.parts.RegSet.{RegSet}
use Rattle.c65_code.specs.LineState.{Bytes, write, State}
use Rattle.c65_code.specs.Moves.{Ref, Given, ZeroAt, MemAt, ref_of, value_at, put}
use Rattle.c65_code.specs.Placement.{Setting, word_of, located}
use Rattle.c65_know.specs.declared.note.Note.{Note}
use Rattle.c65_know_law.specs.Truth.{IsTrueOf}
use Rattle.c65_live.specs.Samples.{DeadIsNotLive}
use Rattle.c65_live.specs.Tables.{Table, live_after}
use Rattle.c65_pass.specs.declared.register.Register.{Register}
use Rattle.c65_pass.specs.declared.register.Register.TheVariants.{A, X, Y}
use Rattle.c65_pass.specs.declared.register.Transfer.{Transfer}
use Rattle.c65_pass.specs.LoadRules.{known_of, byte_of, are_flags_dead, is_one_place, are_one, is_reload, is_restore, shared, is_idle_store, are_back, is_back}
use Rattle.c65_pass.specs.Registers.{is_same_register, loaded_by, stored_by, transfer_by}
use Rattle.c65_optarith_law.specs.Straight.{Steps, Agree}
use Rattle.c65_optarith_law.proofs.Agreeing.{agree_same}
use Rattle.c65_optload_law.proofs.Registers.{held, with_reg, load_is, store_is, move_is, same_register, one_register, same_value, known_held}
use Rattle.c65_optload_law.proofs.Loads.{shared_is, byte_held}

-- the same place in both operands, whatever the state
pub one_place : (s : Setting) (mode : Mode) (operand : Operand) (there : Mode) (other : Operand) (t u : State) → is_one_place mode operand there other ≡ true → ref_of there (word_of s.place other) u ≡ ref_of mode (word_of s.place operand) t
one_place s ZeroPage (Zero i) ZeroPage (Zero j) t u h = ap ZeroAt (sym (eqb-true i j h))
one_place s Absolute (At x o) Absolute (At y p) t u h =
    let both = and_parts (x.0 == y.0) (o == p) h in
    ap (λ (n : ℕ). MemAt ((s.place.address n + p) % 65536)) (sym (eqb-true x.0 y.0 both.0)) ∙ ap (λ (n : ℕ). MemAt ((s.place.address x.0 + n) % 65536)) (sym (eqb-true o p both.1))
one_place s _ _ _ _ t u h = absurd cc

-- a place that holds what is put there
abbrev pub IsHolder : Ref → Type 0
IsHolder (Given v) = ⊥
IsHolder (ZeroAt i) = Unit {0}
IsHolder (MemAt b) = Unit {0}

pub one_holder : (s : Setting) (mode : Mode) (operand : Operand) (there : Mode) (other : Operand) (t : State) → is_one_place mode operand there other ≡ true → IsHolder (ref_of mode (word_of s.place operand) t)
one_holder s ZeroPage (Zero i) ZeroPage (Zero j) t h = tt
one_holder s Absolute (At x o) Absolute (At y p) t h = tt
one_holder s _ _ _ _ t h = absurd cc

same_byte : (m : Bytes) (at b : ℕ) → write m at (m at) b ≡ m b
same_byte m at b = pick (b == at) refl
  where
    pick : (c : Bool) → (b == at) ≡ c → (if c then m at else m b) ≡ m b
    pick true e = ap m (sym (eqb-true b at e))
    pick false e = refl

put_same : (ref : Ref) (t : State) → put ref (value_at ref t) t ≡ t
put_same (Given v) t = refl
put_same (ZeroAt i) t = let e : write t.zp i (t.zp i) ≡ t.zp = fun_ext (same_byte t.zp i) in ap (λ (m : Bytes). record t { zp = m }) e
put_same (MemAt i) t = let e : write t.mem i (t.mem i) ≡ t.mem = fun_ext (same_byte t.mem i) in ap (λ (m : Bytes). record t { mem = m }) e

put_value : (ref : Ref) (v : ℕ) (t : State) → IsHolder ref → value_at ref (put ref v t) ≡ v
put_value (Given w) v t i = absurd i
put_value (ZeroAt i) v t h = ap (λ (b : Bool). if b then v else t.zp i) (eq-eqb i i refl)
put_value (MemAt i) v t h = ap (λ (b : Bool). if b then v else t.mem i) (eq-eqb i i refl)

pub put_held : (ref : Ref) (v : ℕ) (t : State) (r : Register) → held r (put ref v t).regs ≡ held r t.regs
put_held (Given w) v t r = refl
put_held (ZeroAt i) v t r = refl
put_held (MemAt i) v t r = refl

module _ (dead : DeadIsNotLive) (table : Table) (q : ℕ) (s : Setting) where
  -- a load of what the same register just stored
  pub reload_agrees : (line next : Line) (t m u : State) → is_reload table q line next ≡ true → Steps s line t m → Steps s next m u → Agree (live_after table q) u m
  reload_agrees (Do op mode operand) (Do next there other) t m u h first second =
      let parts = and_parts (are_one (stored_by op) (loaded_by next)) _ h in
      let rest = and_parts (is_one_place mode operand there other) (are_flags_dead table q) parts.1 in
      let r = one_register (stored_by op) (loaded_by next) parts.0 in
      let stored = store_is s t m mode operand op r.0 r.1 first in
      let place = one_place s mode operand there other t m rest.0 in
      let value : value_at (ref_of there (word_of s.place other) m) m ≡ held r.0 m.regs =
      ap (λ (x : Ref). value_at x m) place ∙ (ap (value_at (ref_of mode (word_of s.place operand) t)) stored ∙ (put_value (ref_of mode (word_of s.place operand) t) (held r.0 t.regs) t (one_holder s mode operand there other t rest.0)
      ∙ sym (ap (λ (x : State). held r.0 x.regs) stored ∙ put_held (ref_of mode (word_of s.place operand) t) (held r.0 t.regs) t r.0))) in
      same_value dead table q m u r.0 (value_at (ref_of there (word_of s.place other) m) m) (load_is s m u there other next r.0 r.2 second) value rest.1
  reload_agrees _ _ t m u h first second = absurd cc

  -- a store of what the same register just loaded
  pub restore_agrees : (line next : Line) (t m u : State) → is_restore line next ≡ true → Steps s line t m → Steps s next m u → Agree (live_after table q) u m
  restore_agrees (Do op mode operand) (Do next there other) t m u h first second =
      let parts = and_parts (are_one (loaded_by op) (stored_by next)) _ h in
      let r = one_register (loaded_by op) (stored_by next) parts.0 in
      let loaded = load_is s t m mode operand op r.0 r.1 first in
      let place = one_place s mode operand there other t m parts.1 in
      let ref : Ref = ref_of mode (word_of s.place operand) t in
      let value : held r.0 m.regs ≡ value_at (ref_of mode (word_of s.place operand) t) m =
      ap (λ (x : State). held r.0 x.regs) loaded ∙ (held_loaded r.0 (value_at (ref_of mode (word_of s.place operand) t) t) t ∙ sym (ap (value_at (ref_of mode (word_of s.place operand) t)) loaded ∙ value_regs (ref_of mode (word_of s.place operand) t) t (with_reg r.0 (value_at (ref_of mode (word_of s.place operand) t) t) t.regs))) in
      agree_same (live_after table q) u m (store_is s m u there other next r.0 r.2 second ∙ (ap (λ (x : Ref). put x (held r.0 m.regs) m) place ∙ (ap (λ (x : ℕ). put (ref_of mode (word_of s.place operand) t) x m) value ∙ put_same (ref_of mode (word_of s.place operand) t) m)))
    where
      held_loaded : (r : Register) (v : ℕ) (t : State) → held r (with_reg r v t.regs) ≡ v
      held_loaded A v t = refl
      held_loaded X v t = refl
      held_loaded Y v t = refl

      value_regs : (ref : Ref) (t : State) (r : Regs) → value_at ref (record t { regs = r }) ≡ value_at ref t
      value_regs (Given w) t r = refl
      value_regs (ZeroAt i) t r = refl
      value_regs (MemAt b) t r = refl
  restore_agrees _ _ t m u h first second = absurd cc

  -- a store to a byte that is equal to the register
  pub idle_store_agrees : (known : Option Note) (line : Line) (t u : State) → is_idle_store known line ≡ true → IsTrueOf known t → Steps s line t u → Agree (live_after table q) u t
  idle_store_agrees known (Do op ZeroPage (Zero i)) t u h k step = pick (shared known (stored_by op) i) refl h
    where
      pick : (o : Option ℕ) → shared known (stored_by op) i ≡ o → is_some o ≡ true → Agree (live_after table q) u t
      pick None e h = absurd cc
      pick (Some v) e h =
          let r = shared_is known (stored_by op) i v e in
          let value : held r.0 t.regs ≡ t.zp i = known_held known t r.0 v r.2 k ∙ sym (byte_held known t i v r.3 k) in
          agree_same (live_after table q) u t (store_is s t u ZeroPage (Zero i) op r.0 r.1 step ∙ (ap (λ (x : ℕ). put (ZeroAt i) x t) value ∙ put_same (ZeroAt i) t))
  idle_store_agrees known _ t u h k step = absurd cc

  -- a transfer back again
  back_is : (there back : Option Transfer) → are_back there back ≡ true → (m : Transfer) × (n : Transfer) × (there ≡ Some m) × (back ≡ Some n) × (n.to ≡ m.from) × (n.from ≡ m.to)
  back_is (Some m) (Some n) h = let both = and_parts (is_same_register m.from n.to) (is_same_register m.to n.from) h in (m, n, refl, refl, sym (same_register m.from n.to both.0), sym (same_register m.to n.from both.1))
  back_is _ _ h = absurd cc

  moved_back : (from to : Register) (t : State) → (from ≡ to → ⊥) → with_reg from (held to (with_reg to (held from t.regs) t.regs)) (with_reg to (held from t.regs) t.regs) ≡ with_reg to (held from t.regs) t.regs
  moved_back A A t ne = absurd (ne refl)
  moved_back A X t ne = refl
  moved_back A Y t ne = refl
  moved_back X A t ne = refl
  moved_back X X t ne = absurd (ne refl)
  moved_back X Y t ne = refl
  moved_back Y A t ne = refl
  moved_back Y X t ne = refl
  moved_back Y Y t ne = absurd (ne refl)

  moves_apart : (op : Op) (m : Transfer) → transfer_by op ≡ Some m → m.from ≡ m.to → ⊥
  moves_apart ops.Tax m e h = let is : record { from = A; to = X } ≡ m = cc in let f : A ≡ m.from = ap (λ (x : Transfer). x.from) is in let g : X ≡ m.to = ap (λ (x : Transfer). x.to) is in cc
  moves_apart ops.Tay m e h = let is : record { from = A; to = Y } ≡ m = cc in let f : A ≡ m.from = ap (λ (x : Transfer). x.from) is in let g : Y ≡ m.to = ap (λ (x : Transfer). x.to) is in cc
  moves_apart ops.Txa m e h = let is : record { from = X; to = A } ≡ m = cc in let f : X ≡ m.from = ap (λ (x : Transfer). x.from) is in let g : A ≡ m.to = ap (λ (x : Transfer). x.to) is in cc
  moves_apart ops.Tya m e h = let is : record { from = Y; to = A } ≡ m = cc in let f : Y ≡ m.from = ap (λ (x : Transfer). x.from) is in let g : A ≡ m.to = ap (λ (x : Transfer). x.to) is in cc
  moves_apart _ m e h = absurd cc

  pub back_agrees : (line next : Line) (t m u : State) → is_back line next ≡ true → Steps s line t m → Steps s next m u → Agree (live_after table q) u m
  back_agrees (Do op mode operand) (Do next there other) t m u h first second =
      let b = back_is (transfer_by op) (transfer_by next) h in
      let one = move_is s t m mode operand op b.0 b.2 first in
      let two = move_is s m u there other next b.1 b.3 second in
      let turned : u ≡ record m { regs = with_reg b.0.from (held b.0.to m.regs) m.regs } = two ∙ (ap (λ (r : Register). record m { regs = with_reg r (held b.1.from m.regs) m.regs }) b.4 ∙ ap (λ (r : Register). record m { regs = with_reg b.0.from (held r m.regs) m.regs }) b.5) in
      let regs : m.regs ≡ with_reg b.0.to (held b.0.from t.regs) t.regs = ap (λ (x : State). x.regs) one in
      let same : with_reg b.0.from (held b.0.to m.regs) m.regs ≡ m.regs = ap (λ (r : Regs). with_reg b.0.from (held b.0.to r) r) regs ∙ (moved_back b.0.from b.0.to t (moves_apart op b.0 b.2) ∙ sym regs) in
      agree_same (live_after table q) u m (turned ∙ ap (λ (r : Regs). record m { regs = r }) same)
  back_agrees _ _ t m u h first second = absurd cc
