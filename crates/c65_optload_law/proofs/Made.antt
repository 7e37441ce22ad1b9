-- Lines that stand for others.
use Rattle.std.proofs.Common.{◌≡◌, ℕ, ◌+◌, ◌-◌, ◌%◌, ◌<◌, ◌≤◌, ◌==◌, ◌&&◌, Bool, true, false, ◌⊎◌, inl, inr, if◌then◌else◌, Option, Some, None, List, [], ◌∷◌, refl, sym, subst, ap, ◌∙◌, arith}
use Rattle.std.specs.Prelude.{is_some}
use Rattle.std.proofs.Math.Path.{fun_ext}
use Rattle.std.proofs.lemmas.Bool.{and_parts}
use Rattle.c65_mach.specs.State.{Regs}
use Rattle.c65_mach.specs.declared.rows.Op.{Op}
use Rattle.c65_mach.specs.declared.rows.Op.TheVariants as ops
use Rattle.c65_mach.specs.declared.rows.Mode.{Mode}
use Rattle.c65_mach.specs.declared.rows.Mode.TheVariants.{Implied, Immediate, ZeroPage, Absolute}
use Rattle.c65_mach.specs.Step.{with_a, with_x, with_y}
use Rattle.c65_code.specs.declared.line.Line.{Line}
use Rattle.c65_code.specs.declared.line.Line.TheVariants.{Do}
use Rattle.c65_code.specs.declared.line.Operand.{Operand}
use Rattle.c65_code.specs.declared.line.Operand.TheVariants.{Byte, Nothing}
use Rattle.c65_code.specs.declared.parts.RegSet.{RegSet}
use Rattle.c65_code.specs.LineState.{State, IsBytes}
use Rattle.c65_code.specs.Placement.{Setting}
use Rattle.c65_know.specs.declared.note.Note.{Note}
use Rattle.c65_know_law.specs.Truth.{IsTrueOf}
use Rattle.c65_pass.specs.declared.register.Register.{Register}
use Rattle.c65_pass.specs.declared.register.Register.TheVariants.{A, X, Y}
use Rattle.c65_pass.specs.LoadRules.{has, transfer_for, transferred, step_for, stepped}
use Rattle.c65_pass.specs.Registers.{loaded_by, alone}
use Rattle.c65_optarith_law.specs.Straight.{Steps, Agree}
use Rattle.c65_optarith_law.proofs.Agreeing.{agree_same}
use Rattle.c65_optload_law.proofs.Registers.{held, with_reg, load_is, has_held}

-- a line that leads where these lines led, but for what is not live
abbrev pub Leads : Setting → RegSet → Line → State → State → Type 0
Leads s live line t u = (v : State) × Steps s line t v × Agree live u v

module _ (s : Setting) (live : RegSet) (line : Line) (t u : State) (step : Steps s line t u) where
  txa : u ≡ record t { regs = with_a t.regs.x t.regs } → Leads s live (alone ops.Txa) t u
  txa e = (u, record { onward = tt; running = step.running; steady = record { calm = step.steady.calm; within = tt }; does = e; bytes = step.bytes }, agree_same live u u refl)

  tya : u ≡ record t { regs = with_a t.regs.y t.regs } → Leads s live (alone ops.Tya) t u
  tya e = (u, record { onward = tt; running = step.running; steady = record { calm = step.steady.calm; within = tt }; does = e; bytes = step.bytes }, agree_same live u u refl)

  tax : u ≡ record t { regs = with_x t.regs.a t.regs } → Leads s live (alone ops.Tax) t u
  tax e = (u, record { onward = tt; running = step.running; steady = record { calm = step.steady.calm; within = tt }; does = e; bytes = step.bytes }, agree_same live u u refl)

  tay : u ≡ record t { regs = with_y t.regs.a t.regs } → Leads s live (alone ops.Tay) t u
  tay e = (u, record { onward = tt; running = step.running; steady = record { calm = step.steady.calm; within = tt }; does = e; bytes = step.bytes }, agree_same live u u refl)

  inx : u ≡ record t { regs = with_x ((t.regs.x + 1) % 256) t.regs } → Leads s live (alone ops.Inx) t u
  inx e = (u, record { onward = tt; running = step.running; steady = record { calm = step.steady.calm; within = tt }; does = e; bytes = step.bytes }, agree_same live u u refl)

  dex : u ≡ record t { regs = with_x ((t.regs.x + 255) % 256) t.regs } → Leads s live (alone ops.Dex) t u
  dex e = (u, record { onward = tt; running = step.running; steady = record { calm = step.steady.calm; within = tt }; does = e; bytes = step.bytes }, agree_same live u u refl)

  iny : u ≡ record t { regs = with_y ((t.regs.y + 1) % 256) t.regs } → Leads s live (alone ops.Iny) t u
  iny e = (u, record { onward = tt; running = step.running; steady = record { calm = step.steady.calm; within = tt }; does = e; bytes = step.bytes }, agree_same live u u refl)

  dey : u ≡ record t { regs = with_y ((t.regs.y + 255) % 256) t.regs } → Leads s live (alone ops.Dey) t u
  dey e = (u, record { onward = tt; running = step.running; steady = record { calm = step.steady.calm; within = tt }; does = e; bytes = step.bytes }, agree_same live u u refl)

  -- the transfer in place of a load of a byte that another register has
  for_register : (known : Option Note) (r : Register) (v : ℕ) (l : Line) → IsTrueOf known t → u ≡ record t { regs = with_reg r v t.regs } → transfer_for known (Some r) v ≡ Some l → Leads s live l t u
  for_register known A v l k is e = first (has known (Some X) v) refl e
    where
      second : (b : Bool) → has known (Some Y) v ≡ b → (if b then Some (alone ops.Tya) else None) ≡ Some l → Leads s live l t u
      second true h e = let made : alone ops.Tya ≡ l = cc in subst (λ (x : Line). Leads s live x t u) made (tya (is ∙ ap (λ (x : ℕ). record t { regs = with_a x t.regs }) (sym (has_held known t Y v h k))))
      second false h e = absurd cc

      first : (b : Bool) → has known (Some X) v ≡ b → (if b then Some (alone ops.Txa) else (if has known (Some Y) v then Some (alone ops.Tya) else None)) ≡ Some l → Leads s live l t u
      first true h e = let made : alone ops.Txa ≡ l = cc in subst (λ (x : Line). Leads s live x t u) made (txa (is ∙ ap (λ (x : ℕ). record t { regs = with_a x t.regs }) (sym (has_held known t X v h k))))
      first false h e = second (has known (Some Y) v) refl e
  for_register known X v l k is e = pick (has known (Some A) v) refl e
    where
      pick : (b : Bool) → has known (Some A) v ≡ b → (if b then Some (alone ops.Tax) else None) ≡ Some l → Leads s live l t u
      pick true h e = let made : alone ops.Tax ≡ l = cc in subst (λ (x : Line). Leads s live x t u) made (tax (is ∙ ap (λ (x : ℕ). record t { regs = with_x x t.regs }) (sym (has_held known t A v h k))))
      pick false h e = absurd cc
  for_register known Y v l k is e = pick (has known (Some A) v) refl e
    where
      pick : (b : Bool) → has known (Some A) v ≡ b → (if b then Some (alone ops.Tay) else None) ≡ Some l → Leads s live l t u
      pick true h e = let made : alone ops.Tay ≡ l = cc in subst (λ (x : Line). Leads s live x t u) made (tay (is ∙ ap (λ (x : ℕ). record t { regs = with_y x t.regs }) (sym (has_held known t A v h k))))
      pick false h e = absurd cc

  up : (x v : ℕ) → v < 256 → x ≡ (v + 255) % 256 → v ≡ (x + 1) % 256
  up x v small e = omega (arith, small, e)

  down : (x v : ℕ) → v < 256 → x ≡ (v + 1) % 256 → v ≡ (x + 255) % 256
  down x v small e = omega (arith, small, e)

  -- the step in place of a load of a byte one above or below
  for_step : (known : Option Note) (r : Register) (v : ℕ) (l : Line) → IsTrueOf known t → v < 256 → u ≡ record t { regs = with_reg r v t.regs } → step_for known (Some r) v ≡ Some l → Leads s live l t u
  for_step known A v l k small is e = absurd cc
  for_step known X v l k small is e = first (has known (Some X) ((v + 255) % 256)) refl e
    where
      second : (b : Bool) → has known (Some X) ((v + 1) % 256) ≡ b → (if b then Some (alone ops.Dex) else None) ≡ Some l → Leads s live l t u
      second true h e = let made : alone ops.Dex ≡ l = cc in subst (λ (x : Line). Leads s live x t u) made (dex (is ∙ ap (λ (x : ℕ). record t { regs = with_x x t.regs }) (down t.regs.x v small (has_held known t X ((v + 1) % 256) h k))))
      second false h e = absurd cc

      first : (b : Bool) → has known (Some X) ((v + 255) % 256) ≡ b → (if b then Some (alone ops.Inx) else (if has known (Some X) ((v + 1) % 256) then Some (alone ops.Dex) else None)) ≡ Some l → Leads s live l t u
      first true h e = let made : alone ops.Inx ≡ l = cc in subst (λ (x : Line). Leads s live x t u) made (inx (is ∙ ap (λ (x : ℕ). record t { regs = with_x x t.regs }) (up t.regs.x v small (has_held known t X ((v + 255) % 256) h k))))
      first false h e = second (has known (Some X) ((v + 1) % 256)) refl e
  for_step known Y v l k small is e = first (has known (Some Y) ((v + 255) % 256)) refl e
    where
      second : (b : Bool) → has known (Some Y) ((v + 1) % 256) ≡ b → (if b then Some (alone ops.Dey) else None) ≡ Some l → Leads s live l t u
      second true h e = let made : alone ops.Dey ≡ l = cc in subst (λ (x : Line). Leads s live x t u) made (dey (is ∙ ap (λ (x : ℕ). record t { regs = with_y x t.regs }) (down t.regs.y v small (has_held known t Y ((v + 1) % 256) h k))))
      second false h e = absurd cc

      first : (b : Bool) → has known (Some Y) ((v + 255) % 256) ≡ b → (if b then Some (alone ops.Iny) else (if has known (Some Y) ((v + 1) % 256) then Some (alone ops.Dey) else None)) ≡ Some l → Leads s live l t u
      first true h e = let made : alone ops.Iny ≡ l = cc in subst (λ (x : Line). Leads s live x t u) made (iny (is ∙ ap (λ (x : ℕ). record t { regs = with_y x t.regs }) (up t.regs.y v small (has_held known t Y ((v + 255) % 256) h k))))
      first false h e = second (has known (Some Y) ((v + 1) % 256)) refl e

small_held : (r : Register) (u : State) → IsBytes u → held r u.regs < 256
small_held A u b = b.a
small_held X u b = b.x
small_held Y u b = b.y

pub loaded_small : (r : Register) (v : ℕ) (t u : State) → IsBytes u → u ≡ record t { regs = with_reg r v t.regs } → v < 256
loaded_small A v t u b e = subst (λ (x : ℕ). x < 256) (ap (λ (x : State). x.regs.a) e) b.a
loaded_small X v t u b e = subst (λ (x : ℕ). x < 256) (ap (λ (x : State). x.regs.x) e) b.x
loaded_small Y v t u b e = subst (λ (x : ℕ). x < 256) (ap (λ (x : State). x.regs.y) e) b.y

module _ (s : Setting) (live : RegSet) where
  pub transferred_leads : (known : Option Note) (line l : Line) (t u : State) → transferred known line ≡ Some l → IsTrueOf known t → Steps s line t u → Leads s live l t u
  transferred_leads known (Do op Immediate (Byte v)) l t u e k step = pick (loaded_by op) refl e
    where
      pick : (o : Option Register) → loaded_by op ≡ o → transfer_for known o v ≡ Some l → Leads s live l t u
      pick None is e = absurd cc
      pick (Some r) is e = for_register s live (Do op Immediate (Byte v)) t u step known r v l k (load_is s t u Immediate (Byte v) op r is step) e
  transferred_leads known _ l t u e k step = absurd cc

  pub stepped_leads : (known : Option Note) (line l : Line) (t u : State) → stepped known line ≡ Some l → IsTrueOf known t → Steps s line t u → Leads s live l t u
  stepped_leads known (Do op Immediate (Byte v)) l t u e k step = pick (loaded_by op) refl e
    where
      pick : (o : Option Register) → loaded_by op ≡ o → step_for known o v ≡ Some l → Leads s live l t u
      pick None is e = absurd cc
      pick (Some r) is e =
          let loaded = load_is s t u Immediate (Byte v) op r is step in
          for_step s live (Do op Immediate (Byte v)) t u step known r v l k (loaded_small r v t u step.bytes loaded) loaded e
  stepped_leads known _ l t u e k step = absurd cc
