-- Orders of AX and a word without sign that is read where it lies.
use Rattle.std.proofs.Common.{◌≡◌, ℕ, ◌+◌, ◌-◌, ◌*◌, ◌%◌, ◌<◌, ◌≤◌, [], ◌∷◌, ◌++◌, Bool, true, false, refl, sym, ap, ◌∙◌, subst, arith}
use Rattle.std.specs.Prelude.{nat_lt, nat_le, bit_and, bit_xor}
use Rattle.std.proofs.lemmas.Bool.{ltb-true, ltb-false}
use Rattle.std.proofs.lemmas.Bool.Decides.{nat_tests}
use Rattle.c65_mach.specs.State.{Regs}
use Rattle.c65_mach.specs.Step.{apply, bit, negative, is_not, is_taken}
use Rattle.c65_mach.specs.declared.rows.Op.TheVariants.{Clc, Cmp, Sbc, Txa}
use Rattle.c65_code.specs.declared.line.Line.TheVariants.{Label}
use Rattle.c65_code.specs.LineState.{State, IsBytes}
use Rattle.c65_code.specs.Placement.{IsPlacement}
use Rattle.c65_code.specs.Forms.{Branch, form_of}
use Rattle.c65_genload.specs.Words.{branch, implied}
use Rattle.c65_gendirect.specs.declared.bytes.OperandByte.{OperandByte}
use Rattle.c65_gendirect.specs.declared.relation.Relation.{Relation}
use Rattle.c65_gendirect.specs.declared.relation.Relation.TheVariants.{Less, NotLess, Greater, NotGreater, Equal, Unequal}
use Rattle.c65_gendirect.specs.declared.compare.Sides.TheVariants.{Word}
use Rattle.c65_gendirect.specs.Bytes.{op_of}
use Rattle.c65_gendirect.specs.Compare.{lowest_code, by_carry, difference_code, order_code}
use Rattle.c65_agree_state.specs.World.{World, Active}
use Rattle.c65_agree_frame.specs.Leads.{Leads, IsOn}
use Rattle.c65_agree_frame.proofs.Leads.{leads_then, leads_as}
use Rattle.c65_agree_direct.specs.Operands.{byte_in, MayRead, Compares, Subtracts}
use Rattle.c65_agree_operate.proofs.Routines.{label_leads}
use Rattle.c65_agree_operate.proofs.Exact.{at_regs, To, on_byte, on_regs, implied_leads, operand_leads, leads_from}
use Rattle.c65_agree_compare.specs.Laws.{IsOrder}
use Rattle.c65_agree_compare.proofs.Ways.{LeadsBy, by_then, branch_by}
use Rattle.c65_agree_compare.proofs.Equal.{OnlyRegs}

-- an order of two numbers
abbrev pub holds : Relation → ℕ → ℕ → Bool
holds Less m n = nat_lt m n
holds NotLess m n = nat_le n m
holds Greater m n = nat_lt n m
holds _ m n = nat_le m n

-- whether the lines begin without the carry
abbrev pub begins : Relation → ℕ → ℕ → Bool
begins Greater a l = nat_lt 255 (a + (255 - l) + 0)
begins NotGreater a l = nat_lt 255 (a + (255 - l) + 0)
begins r a l = nat_lt l (a + 1)

abbrev pub carried : Relation → ℕ → ℕ → ℕ → ℕ → Bool
carried r a x l h = nat_lt 255 (x + (255 - h) + bit (begins r a l))

-- what such a carry says of both numbers: that the first one is not below the second one, or is above it
abbrev pub carries : Relation → ℕ → ℕ → Bool
carries Greater m n = nat_lt n m
carries NotGreater m n = nat_lt n m
carries r m n = nat_le n m

less_not : (m n : ℕ) → is_not (nat_le n m) ≡ nat_lt m n
less_not m n = go (nat_le n m) refl
  where
    go : (b : Bool) → nat_le n m ≡ b → is_not b ≡ nat_lt m n
    go true e = grind (arith, nat_tests)
    go false e = grind (arith, nat_tests)

greater_not : (m n : ℕ) → is_not (nat_lt n m) ≡ nat_le m n
greater_not m n = go (nat_lt n m) refl
  where
    go : (b : Bool) → nat_lt n m ≡ b → is_not b ≡ nat_le m n
    go true e = grind (arith, nat_tests)
    go false e = grind (arith, nat_tests)

pub carries_tell : (r : Relation) (m n : ℕ) → IsOrder r → (s : Regs) → s.c ≡ carries r m n → is_taken (by_carry r) s ≡ holds r m n
carries_tell Less m n o s e = ap is_not e ∙ less_not m n
carries_tell NotLess m n o s e = e
carries_tell Greater m n o s e = e
carries_tell NotGreater m n o s e = ap is_not e ∙ greater_not m n
carries_tell Equal m n o s e = absurd o
carries_tell Unequal m n o s e = absurd o

module _ (a x l h : ℕ) (a_byte : a < 256) (x_byte : x < 256) (l_byte : l < 256) (h_byte : h < 256) where
  abbrev m : ℕ
  m = a + 256 * x

  abbrev n : ℕ
  n = l + 256 * h

  plain : carried Less a x l h ≡ nat_le n m
  plain = go (nat_lt l (a + 1)) refl
    where
      go : (b : Bool) → nat_lt l (a + 1) ≡ b → nat_lt 255 (x + (255 - h) + bit b) ≡ nat_le n m
      go true e = let f : l < a + 1 = ltb-true l (a + 1) e in grind (arith, nat_tests)
      go false e = let f : a + 1 ≤ l = ltb-false l (a + 1) e in grind (arith, nat_tests)

  strict : carried Greater a x l h ≡ nat_lt n m
  strict = go (nat_lt 255 (a + (255 - l) + 0)) refl
    where
      go : (b : Bool) → nat_lt 255 (a + (255 - l) + 0) ≡ b → nat_lt 255 (x + (255 - h) + bit b) ≡ nat_lt n m
      go true e = let f : 255 < a + (255 - l) + 0 = ltb-true 255 (a + (255 - l) + 0) e in grind (arith, nat_tests)
      go false e = let f : a + (255 - l) + 0 ≤ 255 = ltb-false 255 (a + (255 - l) + 0) e in grind (arith, nat_tests)

  pub carried_is : (r : Relation) → IsOrder r → carried r a x l h ≡ carries r m n
  carried_is Less o = plain
  carried_is NotLess o = plain
  carried_is Greater o = strict
  carried_is NotGreater o = strict
  carried_is Equal o = absurd o
  carried_is Unequal o = absurd o

  pub carry_tells : (r : Relation) → IsOrder r → (s : Regs) → s.c ≡ carried r a x l h → is_taken (by_carry r) s ≡ holds r m n
  carry_tells r o s e = carries_tell r m n o s (e ∙ carried_is r o)

-- registers alone are others, with such a carry
pub record HasCarry (t : State) (x : ℕ) (carry : Bool) (u : State) : Type 0 where
  pub only : u ≡ at_regs t u.regs
  pub x_is : u.regs.x ≡ x
  pub c : u.regs.c ≡ carry
  pub bytes : IsBytes u

has_carry : (t : State) (s : Regs) (u : State) → To t s u → HasCarry t s.x s.c u
has_carry t s u h = let regs : u.regs ≡ s = ap (λ (z : State). z.regs) h.0 in record { only = h.0 ∙ ap (at_regs t) (sym regs); x_is = ap (λ (r : Regs). r.x) regs; c = ap (λ (r : Regs). r.c) regs; bytes = h.1 }

-- the highest byte of a difference, and whether that overflows as a signed number
abbrev pub last_byte : ℕ → ℕ → Bool → ℕ
last_byte x h c = (x + (255 - h) + bit c) % 256

abbrev pub overflows : ℕ → ℕ → Bool → Bool
overflows x h c = negative (bit_and (bit_xor x (last_byte x h c)) (bit_xor (255 - h) (last_byte x h c)))

-- registers alone are others, and A and the flags those of the difference of two bytes behind such a carry
pub record IsByteDifference (x h : ℕ) (carry : Bool) (t u : State) : Type 0 where
  pub only : OnlyRegs t u
  pub c : u.regs.c ≡ nat_lt 255 (x + (255 - h) + bit carry)
  pub a : u.regs.a ≡ last_byte x h carry
  pub n : u.regs.n ≡ negative (last_byte x h carry)
  pub v : u.regs.v ≡ overflows x h carry

-- of AX and a word
abbrev pub IsDifference : Relation → ℕ → ℕ → State → State → Type 0
IsDifference r l h t = IsByteDifference t.regs.x h (begins r t.regs.a l) t

-- ---- the branch by the carry, behind lines that leave all but registers

module _ (g : World) (a : Active) (t : State) (on_place : IsPlacement g.code g.place) (on : IsOn g t) (to label : ℕ) where
  formed : (r : Relation) → form_of (branch (by_carry r) to) ≡ Branch (by_carry r) to
  formed Less = refl
  formed NotGreater = refl
  formed NotLess = refl
  formed Greater = refl
  formed Equal = refl
  formed Unequal = refl

  pub carry_leads : (r : Relation) (y : Bool) (u : State) → OnlyRegs t u → is_taken (by_carry r) u.regs ≡ y → LeadsBy g a (order_code r false label to) 2 to y u (OnlyRegs t)
  carry_leads r y u only is =
      by_then g a (Label label ∷ []) (branch (by_carry r) to ∷ []) 0 2 to y u (λ v. v ≡ u) (OnlyRegs t) (label_leads g a label u (λ v. v ≡ u) refl) (λ v same.
      subst (λ z. LeadsBy g a (branch (by_carry r) to ∷ []) 2 to y z (OnlyRegs t)) (sym same)
      (λ n w p turns q seen has turned k.
      branch_by g a (by_carry r) to (formed r) u (subst (IsOn g) (sym only.0) (on_regs g a t on_place on u.regs (subst IsBytes only.0 only.1))) y is n w p turns q seen has turned (λ x later e come. k x later (subst (OnlyRegs t) (sym e) only) come)))

-- ---- a difference

module _ (g : World) (a : Active) (t : State) (on_place : IsPlacement g.code g.place) (on : IsOn g t) (to label : ℕ) (low high : OperandByte) (may : MayRead g t low) (may2 : MayRead g t high) (small : byte_in g t low < 256) (small2 : byte_in g t high < 256) where
  abbrev AfterLow : Relation → State → Type 0
  AfterLow r = HasCarry t t.regs.x (begins r t.regs.a (byte_in g t low))

  compared_low : Leads g a (op_of Cmp low) 3 t (AfterLow Less)
  compared_low = leads_as g a (op_of Cmp low) 2 3 t (To t (on_byte g t Compares low t.regs)) (AfterLow Less) (omega arith) (λ u h. has_carry t (on_byte g t Compares low t.regs) u h) (operand_leads g a t on_place on Compares low t.regs may on.stacks.calm.bytes)

  taken_low : Leads g a (implied Clc ∷ op_of Sbc low) 3 t (AfterLow Greater)
  taken_low =
      let clear : Regs = apply false Clc 0 t.regs in
      leads_then g a (implied Clc ∷ []) (op_of Sbc low) 1 2 t (To t clear) (AfterLow Greater) (implied_leads g a t on_place on Clc refl t.regs on.stacks.calm.bytes) (λ u h.
      leads_from g a (op_of Sbc low) 2 t u clear (AfterLow Greater) h (λ b.
      leads_as g a (op_of Sbc low) 2 2 (at_regs t clear) (To t (on_byte g t Subtracts low clear)) (AfterLow Greater) (omega arith) (λ v e. has_carry t (on_byte g t Subtracts low clear) v e) (operand_leads g a t on_place on Subtracts low clear may b)))

  pub low_leads : (r : Relation) → IsOrder r → Leads g a (lowest_code r low) 3 t (AfterLow r)
  low_leads Less o = compared_low
  low_leads NotLess o = compared_low
  low_leads Greater o = taken_low
  low_leads NotGreater o = taken_low
  low_leads Equal o = absurd o
  low_leads Unequal o = absurd o

  abbrev AfterHigh : Relation → State → Type 0
  AfterHigh r = IsDifference r (byte_in g t low) (byte_in g t high) t

  high_leads : (r : Relation) (u : State) → AfterLow r u → Leads g a (implied Txa ∷ op_of Sbc high) 3 u (AfterHigh r)
  high_leads r u h =
      let s : Regs = u.regs in
      let moved : Regs = apply false Txa 0 s in
      let last : Regs = on_byte g t Subtracts high moved in
      let byte : ℕ = byte_in g t high in
      let all : IsBytes (at_regs t s) = subst IsBytes h.only h.bytes in
      leads_from g a (implied Txa ∷ op_of Sbc high) 3 t u s (AfterHigh r) (h.only, h.bytes) (λ b.
      leads_then g a (implied Txa ∷ []) (op_of Sbc high) 1 2 (at_regs t s) (To t moved) (AfterHigh r) (implied_leads g a t on_place on Txa refl s b) (λ v e.
      leads_from g a (op_of Sbc high) 2 t v moved (AfterHigh r) e (λ b2.
      leads_as g a (op_of Sbc high) 2 2 (at_regs t moved) (To t last) (AfterHigh r) (omega arith) (λ z f.
      let k = has_carry t last z f in
      record {
        only = (k.only, k.bytes);
        c = k.c ∙ ap (λ n. nat_lt 255 (n + (255 - byte) + bit s.c)) h.x_is ∙ ap (λ d. nat_lt 255 (t.regs.x + (255 - byte) + bit d)) h.c;
        a = ap (λ (i : State). i.regs.a) f.0 ∙ ap (λ n. last_byte n byte s.c) h.x_is ∙ ap (last_byte t.regs.x byte) h.c;
        n = ap (λ (i : State). i.regs.n) f.0 ∙ ap (λ n. negative (last_byte n byte s.c)) h.x_is ∙ ap (λ d. negative (last_byte t.regs.x byte d)) h.c;
        v = ap (λ (i : State). i.regs.v) f.0 ∙ ap (λ n. overflows n byte s.c) h.x_is ∙ ap (overflows t.regs.x byte) h.c;
      })
      (operand_leads g a t on_place on Subtracts high moved may2 b2))))

  pub difference_leads : (r : Relation) → IsOrder r → Leads g a (difference_code r (Word low high)) 6 t (AfterHigh r)
  difference_leads r o = leads_then g a (lowest_code r low) (implied Txa ∷ op_of Sbc high) 3 3 t (AfterLow r) (AfterHigh r) (low_leads r o) (λ u h. high_leads r u h)

  abbrev left_word : ℕ
  left_word = t.regs.a + 256 * t.regs.x

  abbrev right_word : ℕ
  right_word = byte_in g t low + 256 * byte_in g t high

  -- the lines of an order without sign
  pub order_leads : (r : Relation) (y : Bool) → IsOrder r → holds r left_word right_word ≡ y → LeadsBy g a (difference_code r (Word low high) ++ order_code r false label to) 8 to y t (OnlyRegs t)
  order_leads r y o is =
      by_then g a (difference_code r (Word low high)) (Label label ∷ branch (by_carry r) to ∷ []) 6 2 to y t (AfterHigh r) (OnlyRegs t) (difference_leads r o) (λ u h.
      carry_leads g a t on_place on to label r y u h.only
      (carry_tells t.regs.a t.regs.x (byte_in g t low) (byte_in g t high) on.stacks.calm.bytes.a on.stacks.calm.bytes.x small small2 r o u.regs h.c ∙ is))
