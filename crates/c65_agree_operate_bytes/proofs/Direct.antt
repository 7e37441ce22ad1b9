-- The lines of an operator on AX and a word whose bytes are read where they lie.
use Rattle.std.proofs.Common.{◌≡◌, ℕ, ◌+◌, ◌≤◌, List, [], ◌∷◌, ◌++◌, Bool, false, refl, sym, ap, ◌∙◌, subst, arith}
use Rattle.std.specs.Prelude.{if◌then◌else◌}
use Rattle.c65_base.specs.declared.operators.BinaryOp.{BinaryOp}
use Rattle.c65_base.specs.declared.operators.BinaryOp.TheVariants as ops
use Rattle.c65_mach.specs.declared.rows.Op.TheVariants.{Clc, Pha, Pla, Sec, Tax, Tay, Txa, Tya}
use Rattle.c65_mach.specs.State.{Regs}
use Rattle.c65_mach.specs.Step.{with_a, apply}
use Rattle.c65_code.specs.declared.line.Line.{Line}
use Rattle.c65_code.specs.LineState.{State, s_of, IsBytes}
use Rattle.c65_code.specs.Placement.{IsPlacement}
use Rattle.c65_genload.specs.Words.{implied}
use Rattle.c65_gendirect.specs.declared.bytes.OperandByte.{OperandByte}
use Rattle.c65_gendirect.specs.declared.bytes.OperandByte.TheVariants.{Number, Low, High, Near, Data, Zero}
use Rattle.c65_gendirect.specs.Bytes.{op_of, takes_y, aside, back}
use Rattle.c65_gendirect.specs.Words.{instruction, carry_code, first_byte_code, both_bytes_code}
use Rattle.c65_agree_state.specs.World.{World, Active}
use Rattle.c65_agree_frame.specs.Leads.{Leads, IsOn}
use Rattle.c65_agree_frame.proofs.Leads.{none_leads, leads_then, leads_as}
use Rattle.c65_agree_direct.specs.Operands.{byte_in, MayRead, Reading, Adds, Subtracts, Conjoins, Disjoins, Excludes, op_in}
use Rattle.c65_agree_operate.proofs.Exact.{at_regs, To, on_byte, implied_leads, operand_leads, leads_from, holding, on_holding, push_a_leads, pull_a_leads, y_with}
use Rattle.c65_agree_operate_bytes.proofs.Words.{begins, byte_on, carry_on}

-- ---- one instruction

abbrev pub reading : BinaryOp → Reading
reading ops.Add = Adds
reading ops.Sub = Subtracts
reading ops.BitAnd = Conjoins
reading ops.BitXor = Excludes
reading _ = Disjoins

is_reading : (op : BinaryOp) → op_in (reading op) ≡ instruction op
is_reading ops.Add = refl
is_reading ops.Sub = refl
is_reading ops.BitAnd = refl
is_reading ops.BitXor = refl
is_reading _ = refl

module _ (g : World) (t : State) where
  -- the registers behind it
  abbrev worked : BinaryOp → OperandByte → Regs → Regs
  worked op x s = on_byte g t (reading op) x s

  a_on : (op : BinaryOp) (x : OperandByte) (s : Regs) → (worked op x s).a ≡ byte_on op s.a (byte_in g t x) s.c
  a_on ops.Add x s = refl
  a_on ops.Sub x s = refl
  a_on ops.BitAnd x s = refl
  a_on ops.BitXor x s = refl
  a_on _ x s = refl

  x_on : (op : BinaryOp) (x : OperandByte) (s : Regs) → (worked op x s).x ≡ s.x
  x_on ops.Add x s = refl
  x_on ops.Sub x s = refl
  x_on ops.BitAnd x s = refl
  x_on ops.BitXor x s = refl
  x_on _ x s = refl

  c_on : (op : BinaryOp) (x : OperandByte) (s : Regs) → (worked op x s).c ≡ carry_on op s.a (byte_in g t x) s.c
  c_on ops.Add x s = refl
  c_on ops.Sub x s = refl
  c_on ops.BitAnd x s = refl
  c_on ops.BitXor x s = refl
  c_on _ x s = refl

-- with the carry as the operator begins
abbrev begun : BinaryOp → Regs → Regs
begun ops.Add s = apply false Clc 0 s
begun ops.Sub s = apply false Sec 0 s
begun _ s = s

-- A, X and the carry as it begins
record Begins (op : BinaryOp) (s r : Regs) : Type 0 where
  a : r.a ≡ s.a
  x : r.x ≡ s.x
  c : r.c ≡ begins op s.c

it_begins : (op : BinaryOp) (s : Regs) → Begins op s (begun op s)
it_begins ops.Add s = record { a = refl; x = refl; c = refl }
it_begins ops.Sub s = record { a = refl; x = refl; c = refl }
it_begins _ s = record { a = refl; x = refl; c = refl }

-- ---- both bytes

-- AX is the operator's result by its bytes, and nothing but registers is other
pub record Worked (op : BinaryOp) (l h : ℕ) (t u : State) : Type 0 where
  pub only : u ≡ at_regs t u.regs
  pub a : u.regs.a ≡ byte_on op t.regs.a l (begins op t.regs.c)
  pub x : u.regs.x ≡ byte_on op t.regs.x h (carry_on op t.regs.a l (begins op t.regs.c))
  pub bytes : IsBytes u

-- by the registers
pub worked_by : (op : BinaryOp) (l h : ℕ) (t u : State) (s : Regs) → To t s u → s.a ≡ byte_on op t.regs.a l (begins op t.regs.c) → s.x ≡ byte_on op t.regs.x h (carry_on op t.regs.a l (begins op t.regs.c)) → Worked op l h t u
worked_by op l h t u s to a x =
    let regs : u.regs ≡ s = ap (λ (z : State). z.regs) to.0 in
    record { only = to.0 ∙ ap (at_regs t) (sym regs); a = ap (λ (r : Regs). r.a) regs ∙ a; x = ap (λ (r : Regs). r.x) regs ∙ x; bytes = to.1 }

module _ (g : World) (a : Active) (op : BinaryOp) (t : State) (on_place : IsPlacement g.code g.place) (on : IsOn g t) (more : 3 + 27 ≤ s_of t) where
  carry_leads : (o : BinaryOp) (s : Regs) → IsBytes (at_regs t s) → Leads g a (carry_code o) 1 (at_regs t s) (To t (begun o s))
  carry_leads ops.Add s b = implied_leads g a t on_place on Clc refl s b
  carry_leads ops.Sub s b = implied_leads g a t on_place on Sec refl s b
  carry_leads _ s b = leads_as g a [] 0 1 (at_regs t s) (To t s) (To t s) (omega arith) (λ u h. h) (none_leads g a (at_regs t s) (To t s) (refl, b))

  on_operand : (x : OperandByte) (s : Regs) → MayRead g t x → IsBytes (at_regs t s) → Leads g a (op_of (instruction op) x) 2 (at_regs t s) (To t (worked g t op x s))
  on_operand x s may b = subst (λ o. Leads g a (op_of o x) 2 (at_regs t s) (To t (worked g t op x s))) (is_reading op) (operand_leads g a t on_place on (reading op) x s may b)

  -- the low byte
  abbrev pub first : OperandByte → Regs
  first low = worked g t op low (begun op t.regs)

  pub first_leads : (low : OperandByte) → MayRead g t low → Leads g a (first_byte_code op low) 3 t (To t (first low))
  first_leads low may =
      leads_then g a (carry_code op) (op_of (instruction op) low) 1 2 t (To t (begun op t.regs)) (To t (first low)) (carry_leads op t.regs on.stacks.calm.bytes) (λ u h.
      leads_from g a (op_of (instruction op) low) 2 t u (begun op t.regs) (To t (first low)) h (λ b. on_operand low (begun op t.regs) may b))

  pub first_a : (low : OperandByte) → (first low).a ≡ byte_on op t.regs.a (byte_in g t low) (begins op t.regs.c)
  first_a low =
      let i = it_begins op t.regs in
      a_on g t op low (begun op t.regs) ∙ ap (λ n. byte_on op n (byte_in g t low) (begun op t.regs).c) i.a ∙ ap (byte_on op t.regs.a (byte_in g t low)) i.c

  pub first_x : (low : OperandByte) → (first low).x ≡ t.regs.x
  first_x low = x_on g t op low (begun op t.regs) ∙ (it_begins op t.regs).x

  pub first_c : (low : OperandByte) → (first low).c ≡ carry_on op t.regs.a (byte_in g t low) (begins op t.regs.c)
  first_c low =
      let i = it_begins op t.regs in
      c_on g t op low (begun op t.regs) ∙ ap (λ n. carry_on op n (byte_in g t low) (begun op t.regs).c) i.a ∙ ap (carry_on op t.regs.a (byte_in g t low)) i.c

  -- the high byte: A waits in Y
  abbrev second : OperandByte → Regs → Regs
  second high s = worked g t op high (apply false Txa 0 (apply false Tay 0 s))

  abbrev last : OperandByte → Regs → Regs
  last high s = apply false Tya 0 (apply false Tax 0 (second high s))

  by_y : (high : OperandByte) (s : Regs) → MayRead g t high → IsBytes (at_regs t s) → Leads g a (implied Tay ∷ implied Txa ∷ (op_of (instruction op) high ++ (implied Tax ∷ implied Tya ∷ []))) 6 (at_regs t s) (To t (last high s))
  by_y high s may b =
      leads_then g a (implied Tay ∷ []) (implied Txa ∷ (op_of (instruction op) high ++ (implied Tax ∷ implied Tya ∷ []))) 1 5 (at_regs t s) (To t (apply false Tay 0 s)) (To t (last high s)) (implied_leads g a t on_place on Tay refl s b) (λ u h.
      leads_from g a (implied Txa ∷ (op_of (instruction op) high ++ (implied Tax ∷ implied Tya ∷ []))) 5 t u (apply false Tay 0 s) (To t (last high s)) h (λ b2.
      leads_then g a (implied Txa ∷ []) (op_of (instruction op) high ++ (implied Tax ∷ implied Tya ∷ [])) 1 4 (at_regs t (apply false Tay 0 s)) (To t (apply false Txa 0 (apply false Tay 0 s))) (To t (last high s)) (implied_leads g a t on_place on Txa refl (apply false Tay 0 s) b2) (λ u2 h2.
      leads_from g a (op_of (instruction op) high ++ (implied Tax ∷ implied Tya ∷ [])) 4 t u2 (apply false Txa 0 (apply false Tay 0 s)) (To t (last high s)) h2 (λ b3.
      leads_then g a (op_of (instruction op) high) (implied Tax ∷ implied Tya ∷ []) 2 2 (at_regs t (apply false Txa 0 (apply false Tay 0 s))) (To t (second high s)) (To t (last high s)) (on_operand high (apply false Txa 0 (apply false Tay 0 s)) may b3) (λ u3 h3.
      leads_from g a (implied Tax ∷ implied Tya ∷ []) 2 t u3 (second high s) (To t (last high s)) h3 (λ b4.
      leads_then g a (implied Tax ∷ []) (implied Tya ∷ []) 1 1 (at_regs t (second high s)) (To t (apply false Tax 0 (second high s))) (To t (last high s)) (implied_leads g a t on_place on Tax refl (second high s) b4) (λ u4 h4.
      leads_from g a (implied Tya ∷ []) 1 t u4 (apply false Tax 0 (second high s)) (To t (last high s)) h4 (λ b5.
      implied_leads g a t on_place on Tya refl (apply false Tax 0 (second high s)) b5))))))))

  -- or on the hard stack
  module _ (at : ℕ) (s : Regs) (may : MayRead g t (Near at)) where
    abbrev v : State
    v = holding s.a t

    abbrev held : Regs
    held = worked g t op (Near at) (apply false Txa 0 s)

    abbrev pulled : Regs
    pulled = with_a s.a (apply false Tax 0 held)

    behind_push : IsBytes (at_regs v s) → Leads g a (implied Txa ∷ (op_of (instruction op) (Near at) ++ (implied Tax ∷ implied Pla ∷ []))) 5 (at_regs v s) (To t pulled)
    behind_push b =
        let on2 : IsOn g v = on_holding g t s.a s on more b in
        leads_then g a (implied Txa ∷ []) (op_of (instruction op) (Near at) ++ (implied Tax ∷ implied Pla ∷ [])) 1 4 (at_regs v s) (To v (apply false Txa 0 s)) (To t pulled) (implied_leads g a v on_place on2 Txa refl s b) (λ u2 h2.
        leads_from g a (op_of (instruction op) (Near at) ++ (implied Tax ∷ implied Pla ∷ [])) 4 v u2 (apply false Txa 0 s) (To t pulled) h2 (λ b3.
        leads_then g a (op_of (instruction op) (Near at)) (implied Tax ∷ implied Pla ∷ []) 2 2 (at_regs v (apply false Txa 0 s)) (To v held) (To t pulled) (subst (λ o. Leads g a (op_of o (Near at)) 2 (at_regs v (apply false Txa 0 s)) (To v held)) (is_reading op) (operand_leads g a v on_place on2 (reading op) (Near at) (apply false Txa 0 s) may b3)) (λ u3 h3.
        leads_from g a (implied Tax ∷ implied Pla ∷ []) 2 v u3 held (To t pulled) h3 (λ b4.
        leads_then g a (implied Tax ∷ []) (implied Pla ∷ []) 1 1 (at_regs v held) (To v (apply false Tax 0 held)) (To t pulled) (implied_leads g a v on_place on2 Tax refl held b4) (λ u4 h4.
        leads_from g a (implied Pla ∷ []) 1 v u4 (apply false Tax 0 held) (To t pulled) h4 (λ b5.
        pull_a_leads g a t s.a (apply false Tax 0 held) on2 b5))))))

    by_stack : IsBytes (at_regs t s) → Leads g a (implied Pha ∷ implied Txa ∷ (op_of (instruction op) (Near at) ++ (implied Tax ∷ implied Pla ∷ []))) 6 (at_regs t s) (To t pulled)
    by_stack b =
        leads_then g a (implied Pha ∷ []) (implied Txa ∷ (op_of (instruction op) (Near at) ++ (implied Tax ∷ implied Pla ∷ []))) 1 5 (at_regs t s) (To v s) (To t pulled) (push_a_leads g a t s on b) (λ u h.
        leads_from g a (implied Txa ∷ (op_of (instruction op) (Near at) ++ (implied Tax ∷ implied Pla ∷ []))) 5 v u s (To t pulled) h (λ b2. behind_push b2))

  -- where A has been put aside
  module _ (low : OperandByte) (u : State) where
    abbrev l : ℕ
    l = byte_in g t low

    second_is : (high : OperandByte) (n : ℕ) (s : Regs) → s.a ≡ t.regs.x → s.c ≡ (first low).c → n ≡ (worked g t op high s).a → n ≡ byte_on op t.regs.x (byte_in g t high) (carry_on op t.regs.a l (begins op t.regs.c))
    second_is high n s e f h =
        h ∙ a_on g t op high s ∙ ap (λ k. byte_on op k (byte_in g t high) s.c) e ∙ ap (byte_on op t.regs.x (byte_in g t high)) (f ∙ first_c low)

    from_y : (high : OperandByte) → y_with high (first low).a ≡ (first low).a → To t (last high (first low)) u → Worked op l (byte_in g t high) t u
    from_y high same h =
        worked_by op l (byte_in g t high) t u (last high (first low)) h (same ∙ first_a low)
        (second_is high (second high (first low)).a (apply false Txa 0 (apply false Tay 0 (first low))) (first_x low) refl refl)

    from_stack : (at : ℕ) (may : MayRead g t (Near at)) → To t (pulled at (first low) may) u → Worked op l (byte_in g t (Near at)) t u
    from_stack at may h =
        worked_by op l (byte_in g t (Near at)) t u (pulled at (first low) may) h (first_a low)
        (second_is (Near at) (held at (first low) may).a (apply false Txa 0 (first low)) (first_x low) refl refl)

  quiet_leads : (low high : OperandByte) → MayRead g t low → MayRead g t high → takes_y high ≡ false → y_with high (first low).a ≡ (first low).a → Leads g a (both_bytes_code op low high) 9 t (Worked op (byte_in g t low) (byte_in g t high) t)
  quiet_leads low high may may2 takes same =
      let tail : List Line = implied Tay ∷ implied Txa ∷ (op_of (instruction op) high ++ (implied Tax ∷ implied Tya ∷ [])) in
      let is : tail ≡ aside high ∷ implied Txa ∷ (op_of (instruction op) high ++ (implied Tax ∷ back high ∷ [])) = ap (λ (b : Bool). implied (if b then Pha else Tay) ∷ implied Txa ∷ (op_of (instruction op) high ++ (implied Tax ∷ implied (if b then Pla else Tya) ∷ []))) (sym takes) in
      leads_then g a (first_byte_code op low) (aside high ∷ implied Txa ∷ (op_of (instruction op) high ++ (implied Tax ∷ back high ∷ []))) 3 6 t (To t (first low)) (Worked op (byte_in g t low) (byte_in g t high) t) (first_leads low may) (λ u h.
      leads_from g a (aside high ∷ implied Txa ∷ (op_of (instruction op) high ++ (implied Tax ∷ back high ∷ []))) 6 t u (first low) (Worked op (byte_in g t low) (byte_in g t high) t) h (λ b.
      subst (λ ls. Leads g a ls 6 (at_regs t (first low)) (Worked op (byte_in g t low) (byte_in g t high) t)) is
      (leads_as g a tail 6 6 (at_regs t (first low)) (To t (last high (first low))) (Worked op (byte_in g t low) (byte_in g t high) t) (omega arith) (λ u2 h2. from_y low u2 high same h2) (by_y high (first low) may2 b))))

  pub both_leads : (low high : OperandByte) → MayRead g t low → MayRead g t high → Leads g a (both_bytes_code op low high) 9 t (Worked op (byte_in g t low) (byte_in g t high) t)
  both_leads low (Number n) may may2 = quiet_leads low (Number n) may may2 refl refl
  both_leads low (Low s at) may may2 = quiet_leads low (Low s at) may may2 refl refl
  both_leads low (High s at) may may2 = quiet_leads low (High s at) may may2 refl refl
  both_leads low (Data s at) may may2 = quiet_leads low (Data s at) may may2 refl refl
  both_leads low (Zero at) may may2 = quiet_leads low (Zero at) may may2 refl refl
  both_leads low (Near at) may may2 =
      leads_then g a (first_byte_code op low) (implied Pha ∷ implied Txa ∷ (op_of (instruction op) (Near at) ++ (implied Tax ∷ implied Pla ∷ []))) 3 6 t (To t (first low)) (Worked op (byte_in g t low) (byte_in g t (Near at)) t) (first_leads low may) (λ u h.
      leads_from g a (implied Pha ∷ implied Txa ∷ (op_of (instruction op) (Near at) ++ (implied Tax ∷ implied Pla ∷ []))) 6 t u (first low) (Worked op (byte_in g t low) (byte_in g t (Near at)) t) h (λ b.
      leads_as g a (implied Pha ∷ implied Txa ∷ (op_of (instruction op) (Near at) ++ (implied Tax ∷ implied Pla ∷ []))) 6 6 (at_regs t (first low)) (To t (pulled at (first low) may2)) (Worked op (byte_in g t low) (byte_in g t (Near at)) t) (omega arith) (λ u2 h2. from_stack low u2 at may2 h2) (by_stack at (first low) may2 b)))
