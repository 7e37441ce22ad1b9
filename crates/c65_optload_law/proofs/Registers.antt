-- What loads, stores and transfers do, register by register.
use Rattle.std.proofs.Common.{◌≡◌, ℕ, ◌+◌, ◌==◌, ◌&&◌, ◌||◌, Bool, true, false, ◌⊎◌, inl, inr, Option, Some, None, List, [], ◌∷◌, IsTrue, if◌then◌else◌, refl, sym, subst, ap, ◌∙◌}
use Rattle.std.specs.Prelude.{nat_lt, nat_le}
use Rattle.std.proofs.Math.Path.{fun_ext}
use Rattle.std.proofs.lemmas.Bool.{and_parts, eqb-true}
use Rattle.c65_mach.specs.State.{Regs}
use Rattle.c65_mach.specs.declared.rows.Op.{Op}
use Rattle.c65_mach.specs.declared.rows.Op.TheVariants as ops
use Rattle.c65_mach.specs.declared.rows.Mode.{Mode}
use Rattle.c65_mach.specs.Step.{negative, with_a, with_x, with_y}
use Rattle.c65_code.specs.declared.line.Line.{Line}
use Rattle.c65_code.specs.declared.line.Line.TheVariants.{Do}
use Rattle.c65_code.specs.declared.line.Operand.{Operand}
use Rattle.c65_code.specs.declared.parts.Part.{Part}
use Rattle.c65_code.specs.declared.parts.Part.TheVariants as parts
use Rattle.c65_code.specs.declared.parts.RegSet.{RegSet}
use Rattle.c65_code.specs.LineState.{Bytes, write, State, Same}
use Rattle.c65_code.specs.Moves.{ref_of, value_at, put}
use Rattle.c65_code.specs.Parts.{has_part, set_of}
use Rattle.c65_code.specs.Placement.{Setting, word_of}
use Rattle.c65_know.specs.declared.note.Note.{Note}
use Rattle.c65_know.specs.declared.note.Flag.{Flag}
use Rattle.c65_know.specs.declared.note.Flag.TheVariants as flags
use Rattle.c65_know.specs.Notes.{agreed, same}
use Rattle.c65_know.specs.Rows.{is_flag}
use Rattle.c65_know_law.specs.Truth.{IsAs, IsNoted, IsTrueOf}
use Rattle.c65_live.specs.Samples.{DeadIsNotLive}
use Rattle.c65_live.specs.Tables.{Table, live_after, is_dead}
use Rattle.c65_pass.specs.declared.register.Register.{Register}
use Rattle.c65_pass.specs.declared.register.Register.TheVariants.{A, X, Y}
use Rattle.c65_pass.specs.declared.register.Transfer.{Transfer}
use Rattle.c65_pass.specs.FlowRules.{shows}
use Rattle.c65_pass.specs.LoadRules.{known_of, is_value, has, is_flag_free, is_free, are_flags_dead, is_register_dead, are_one}
use Rattle.c65_pass.specs.Registers.{is_same_register, part_of, value_of, loaded_by, stored_by, transfer_by}
use Rattle.c65_optarith_law.specs.Straight.{Steps, Agree}
use Rattle.c65_optarith_law.proofs.Agreeing.{DifferIn, agree_same, agree_dead, set_a, set_x, set_y, in_signs_of_a, in_signs_of_x, in_signs_of_y}

abbrev pub held : Register → Regs → ℕ
held A r = r.a
held X r = r.x
held Y r = r.y

-- a value in a register, with N and Z by it
abbrev pub with_reg : Register → ℕ → Regs → Regs
with_reg A v r = with_a v r
with_reg X v r = with_x v r
with_reg Y v r = with_y v r

-- ---- what operations do

module _ (s : Setting) (t u : State) (mode : Mode) (operand : Operand) where
  pub load_is : (op : Op) (r : Register) → loaded_by op ≡ Some r → Steps s (Do op mode operand) t u → u ≡ record t { regs = with_reg r (value_at (ref_of mode (word_of s.place operand) t) t) t.regs }
  load_is ops.Lda A e step = step.does
  load_is ops.Ldx X e step = step.does
  load_is ops.Ldy Y e step = step.does
  load_is _ _ e step = absurd cc

  pub store_is : (op : Op) (r : Register) → stored_by op ≡ Some r → Steps s (Do op mode operand) t u → u ≡ put (ref_of mode (word_of s.place operand) t) (held r t.regs) t
  store_is ops.Sta A e step = step.does
  store_is ops.Stx X e step = step.does
  store_is ops.Sty Y e step = step.does
  store_is _ _ e step = absurd cc

  pub move_is : (op : Op) (m : Transfer) → transfer_by op ≡ Some m → Steps s (Do op mode operand) t u → u ≡ record t { regs = with_reg m.to (held m.from t.regs) t.regs }
  move_is ops.Tax m e step = let is : record { from = A; to = X } ≡ m = cc in subst (λ (m : Transfer). u ≡ record t { regs = with_reg m.to (held m.from t.regs) t.regs }) is step.does
  move_is ops.Tay m e step = let is : record { from = A; to = Y } ≡ m = cc in subst (λ (m : Transfer). u ≡ record t { regs = with_reg m.to (held m.from t.regs) t.regs }) is step.does
  move_is ops.Txa m e step = let is : record { from = X; to = A } ≡ m = cc in subst (λ (m : Transfer). u ≡ record t { regs = with_reg m.to (held m.from t.regs) t.regs }) is step.does
  move_is ops.Tya m e step = let is : record { from = Y; to = A } ≡ m = cc in subst (λ (m : Transfer). u ≡ record t { regs = with_reg m.to (held m.from t.regs) t.regs }) is step.does
  move_is _ m e step = absurd cc

pub with_held : (r : Register) (v : ℕ) (q : Regs) → held r (with_reg r v q) ≡ v
with_held A v q = refl
with_held X v q = refl
with_held Y v q = refl

-- ---- registers

pub same_register : (r q : Register) → is_same_register r q ≡ true → r ≡ q
same_register A A h = refl
same_register X X h = refl
same_register Y Y h = refl
same_register _ _ h = absurd cc

pub one_register : (o p : Option Register) → are_one o p ≡ true → (r : Register) × (o ≡ Some r) × (p ≡ Some r)
one_register (Some r) (Some q) h = let same = same_register r q h in (r, refl, ap Some (sym same))
one_register _ _ h = absurd cc

-- ---- what is not read

has_three : (r : Register) → (has_part (set_of (part_of r ∷ parts.N ∷ parts.Z ∷ [])) (part_of r) ≡ true) × (has_part (set_of (part_of r ∷ parts.N ∷ parts.Z ∷ [])) parts.N ≡ true) × (has_part (set_of (part_of r ∷ parts.N ∷ parts.Z ∷ [])) parts.Z ≡ true)
has_three A = (refl, refl, refl)
has_three X = (refl, refl, refl)
has_three Y = (refl, refl, refl)

module _ (dead : DeadIsNotLive) (table : Table) (q : ℕ) (t u : State) where
  register_differs : (r : Register) (v : ℕ) → DifferIn (set_of (part_of r ∷ parts.N ∷ parts.Z ∷ [])) (with_reg r v t.regs) t.regs
  register_differs A v = set_a (set_of (part_of A ∷ parts.N ∷ parts.Z ∷ [])) t.regs v (negative v) (v == 0) refl refl refl
  register_differs X v = set_x (set_of (part_of X ∷ parts.N ∷ parts.Z ∷ [])) t.regs v (negative v) (v == 0) refl refl refl
  register_differs Y v = set_y (set_of (part_of Y ∷ parts.N ∷ parts.Z ∷ [])) t.regs v (negative v) (v == 0) refl refl refl

  -- a register that is not read, nor a flag
  pub dead_register : (r : Register) (v : ℕ) → u ≡ record t { regs = with_reg r v t.regs } → is_dead table q (set_of (part_of r ∷ parts.N ∷ parts.Z ∷ [])) ≡ true → Agree (live_after table q) u t
  dead_register r v is h = agree_dead dead table q (set_of (part_of r ∷ parts.N ∷ parts.Z ∷ [])) t u (with_reg r v t.regs) is h (register_differs r v)

  signs_differ : (r : Register) (v : ℕ) → v ≡ held r t.regs → DifferIn (set_of (parts.N ∷ parts.Z ∷ [])) (with_reg r v t.regs) t.regs
  signs_differ A v e = in_signs_of_a t.regs v (negative v) (v == 0) e
  signs_differ X v e = in_signs_of_x t.regs v (negative v) (v == 0) e
  signs_differ Y v e = in_signs_of_y t.regs v (negative v) (v == 0) e

  -- a register that stays as it is, where no flag is read
  pub same_value : (r : Register) (v : ℕ) → u ≡ record t { regs = with_reg r v t.regs } → v ≡ held r t.regs → are_flags_dead table q ≡ true → Agree (live_after table q) u t
  same_value r v is e h = agree_dead dead table q (set_of (parts.N ∷ parts.Z ∷ [])) t u (with_reg r v t.regs) is h (signs_differ r v e)

  -- ---- flags that are not read, or are known to be so

  same_is : (b d : Bool) → same b d ≡ true → d ≡ b
  same_is true true h = refl
  same_is true false h = absurd cc
  same_is false true h = absurd cc
  same_is false false h = refl

  is_shown : (b : Bool) (o : Option Bool) (v : Bool) → is_flag b o ≡ true → IsAs o v → v ≡ b
  is_shown b None v h k = absurd cc
  is_shown b (Some d) v h k = sym k ∙ same_is b d h

  either : (a b : Bool) → (a || b) ≡ true → (a ≡ true) ⊎ (b ≡ true)
  either true b h = inl refl
  either false b h = inr h

  not_live : (p : Part) → is_dead table q (set_of (p ∷ [])) ≡ true → has_part (set_of (p ∷ [])) p ≡ true → IsTrue (has_part (live_after table q) p) → ⊥
  not_live p h in_set live = clash (has_part (live_after table q) p) live (dead table q (set_of (p ∷ [])) h p in_set)
    where
      clash : (b : Bool) → b ≡ true → b ≡ false → ⊥
      clash b h k = cc

  negative_free : (known : Option Note) (b : Bool) → is_flag_free known table q parts.N flags.N b ≡ true → IsTrueOf known t → IsTrue (has_part (live_after table q) parts.N) → b ≡ t.regs.n
  negative_free known b h k live = pick (either (is_dead table q (set_of (parts.N ∷ []))) (shows (Some flags.N) b known) h)
    where
      note : (o : Option Note) → shows (Some flags.N) b o ≡ true → IsTrueOf o t → b ≡ t.regs.n
      note None h k = absurd cc
      note (Some n) h k = sym (is_shown b n.n t.regs.n h k.n)

      pick : (is_dead table q (set_of (parts.N ∷ [])) ≡ true) ⊎ (shows (Some flags.N) b known ≡ true) → b ≡ t.regs.n
      pick (inl d) = absurd (not_live parts.N d refl live)
      pick (inr s) = note known s k

  zero_free : (known : Option Note) (b : Bool) → is_flag_free known table q parts.Z flags.Z b ≡ true → IsTrueOf known t → IsTrue (has_part (live_after table q) parts.Z) → b ≡ t.regs.z
  zero_free known b h k live = pick (either (is_dead table q (set_of (parts.Z ∷ []))) (shows (Some flags.Z) b known) h)
    where
      note : (o : Option Note) → shows (Some flags.Z) b o ≡ true → IsTrueOf o t → b ≡ t.regs.z
      note None h k = absurd cc
      note (Some n) h k = sym (is_shown b n.z t.regs.z h k.z)

      pick : (is_dead table q (set_of (parts.Z ∷ [])) ≡ true) ⊎ (shows (Some flags.Z) b known ≡ true) → b ≡ t.regs.z
      pick (inl d) = absurd (not_live parts.Z d refl live)
      pick (inr s) = note known s k

  -- a register that stays as it is, where each flag is not read or stays too
  pub free_value : (known : Option Note) (r : Register) (v : ℕ) → u ≡ record t { regs = with_reg r v t.regs } → v ≡ held r t.regs → is_free known table q v ≡ true → IsTrueOf known t → Agree (live_after table q) u t
  free_value known r v is e h k = subst (λ (x : State). Agree (live_after table q) x t) (sym is) (by r e)
    where
      both : (is_flag_free known table q parts.N flags.N (nat_le 128 v) ≡ true) × (is_flag_free known table q parts.Z flags.Z (v == 0) ≡ true)
      both = and_parts (is_flag_free known table q parts.N flags.N (nat_le 128 v)) (is_flag_free known table q parts.Z flags.Z (v == 0)) h

      by : (r : Register) → v ≡ held r t.regs → Agree (live_after table q) (record t { regs = with_reg r v t.regs }) t
      by A e = record { part = part; rest = refl }
        where
          part : (p : Part) → IsTrue (has_part (live_after table q) p) → Same p (record t { regs = with_a v t.regs }) t
          part parts.A live = e
          part parts.N live = negative_free known (nat_le 128 v) both.0 k live
          part parts.Z live = zero_free known (v == 0) both.1 k live
          part parts.X live = refl
          part parts.Y live = refl
          part (parts.Zp i) live = refl
          part parts.V live = refl
          part parts.C live = refl
      by X e = record { part = part; rest = refl }
        where
          part : (p : Part) → IsTrue (has_part (live_after table q) p) → Same p (record t { regs = with_x v t.regs }) t
          part parts.X live = e
          part parts.N live = negative_free known (nat_le 128 v) both.0 k live
          part parts.Z live = zero_free known (v == 0) both.1 k live
          part parts.A live = refl
          part parts.Y live = refl
          part (parts.Zp i) live = refl
          part parts.V live = refl
          part parts.C live = refl
      by Y e = record { part = part; rest = refl }
        where
          part : (p : Part) → IsTrue (has_part (live_after table q) p) → Same p (record t { regs = with_y v t.regs }) t
          part parts.Y live = e
          part parts.N live = negative_free known (nat_le 128 v) both.0 k live
          part parts.Z live = zero_free known (v == 0) both.1 k live
          part parts.A live = refl
          part parts.X live = refl
          part (parts.Zp i) live = refl
          part parts.V live = refl
          part parts.C live = refl

-- ---- what is known

pub as_is : (o : Option ℕ) (v w : ℕ) → o ≡ Some v → IsAs o w → w ≡ v
as_is None v w e k = absurd cc
as_is (Some x) v w e k = let same : x ≡ v = cc in sym k ∙ same

pub known_held : (known : Option Note) (t : State) (r : Register) (v : ℕ) → known_of known r ≡ Some v → IsTrueOf known t → held r t.regs ≡ v
known_held None t r v e k = absurd cc
known_held (Some n) t A v e k = as_is n.a v t.regs.a e k.a
known_held (Some n) t X v e k = as_is n.x v t.regs.x e k.x
known_held (Some n) t Y v e k = as_is n.y v t.regs.y e k.y

is_some_value : (v : ℕ) (o : Option ℕ) → is_value v o ≡ true → o ≡ Some v
is_some_value v None h = absurd cc
is_some_value v (Some w) h = ap Some (eqb-true w v h)

pub has_held : (known : Option Note) (t : State) (r : Register) (v : ℕ) → has known (Some r) v ≡ true → IsTrueOf known t → held r t.regs ≡ v
has_held known t r v h k = known_held known t r v (is_some_value v (known_of known r) h) k

pub agreed_both : (o p : Option ℕ) (v : ℕ) → agreed o p ≡ Some v → (o ≡ Some v) × (p ≡ Some v)
agreed_both None p v e = absurd cc
agreed_both (Some x) None v e = absurd cc
agreed_both (Some x) (Some y) v e = pick (x == y) refl e
  where
    pick : (b : Bool) → (x == y) ≡ b → (if b then Some x else None) ≡ Some v → (Some x ≡ Some v) × (Some y ≡ Some v)
    pick true f e = (e, ap Some (sym (eqb-true x y f)) ∙ e)
    pick false f e = absurd cc
