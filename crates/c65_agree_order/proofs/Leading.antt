-- Ways through the lines that compare AX with a word, EAX with a long word, or A with a byte.
use Rattle.std.proofs.Common.{◌≡◌, ℕ, ◌+◌, ◌-◌, ◌*◌, ◌<◌, ◌≤◌, List, [], ◌∷◌, ◌++◌, Bool, true, false, refl, sym, ap, ◌∙◌, subst, arith}
use Rattle.std.specs.Prelude.{◌==◌, not, nat_lt, nat_le}
use Rattle.std.proofs.lemmas.Bool.{ltb-true, ltb-false}
use Rattle.std.proofs.lemmas.Bool.Decides.{nat_tests}
use Rattle.c65_mach.specs.State.{Regs}
use Rattle.c65_mach.specs.Step.{is_not, is_taken}
use Rattle.c65_mach.specs.declared.rows.Op.{Op}
use Rattle.c65_mach.specs.declared.rows.Op.TheVariants.{Beq, Bne, Cmp}
use Rattle.c65_code.specs.declared.line.Line.{Line}
use Rattle.c65_code.specs.declared.routine.Width.{Width}
use Rattle.c65_code.specs.declared.routine.Width.TheVariants.{Ax, Eax}
use Rattle.c65_code.specs.LineState.{State, eax_of, IsBytes}
use Rattle.c65_code.specs.Placement.{IsPlacement}
use Rattle.c65_code.specs.Forms.{Branch, form_of}
use Rattle.c65_genload.specs.Words.{branch}
use Rattle.c65_gendirect.specs.declared.bytes.OperandByte.{OperandByte}
use Rattle.c65_gendirect.specs.declared.relation.Relation.{Relation}
use Rattle.c65_gendirect.specs.declared.relation.Relation.TheVariants.{Less, NotLess, Greater, NotGreater, Equal, Unequal}
use Rattle.c65_gendirect.specs.declared.compare.Sides.{Sides}
use Rattle.c65_gendirect.specs.declared.compare.Sides.TheVariants.{Word, Long}
use Rattle.c65_gendirect.specs.Bytes.{op_of}
use Rattle.c65_gendirect.specs.Compare.{lowest_code, by_carry, ordered_code, compare_code, compare_byte_code}
use Rattle.c65_agree_numbers.proofs.Tests.{equal, unequal}
use Rattle.c65_agree_state.specs.World.{World, Active, lines_of, place_in, IsPlaced}
use Rattle.c65_agree_state.proofs.Followed.{follows_weaken}
use Rattle.c65_agree_frame.specs.Leads.{IsOn}
use Rattle.c65_agree_direct.specs.Operands.{byte_in, MayRead, Compares}
use Rattle.c65_agree_operate.proofs.Exact.{at_regs, To, on_byte, on_regs, operand_leads}
use Rattle.c65_agree_compare.specs.Laws.{IsOrder}
use Rattle.c65_agree_compare.proofs.Ways.{LeadsBy, by_then, branch_by}
use Rattle.c65_agree_compare.proofs.Equal.{OnlyRegs, apart, same_bytes, other_bytes, equal_leads, other_leads}
use Rattle.c65_agree_compare.proofs.Orders.{holds, begins, low_leads, HasCarry}
use Rattle.c65_agree_order.proofs.Tells.{tells}
use Rattle.c65_agree_order.proofs.Signed.{Ordering, ordered_leads}
use Rattle.c65_agree_order.proofs.Orderings.{MayReadLong, word_ordering, long_ordering}
use Rattle.c65_agree_order.proofs.LongEqual.{equal_longs_lead, other_longs_lead}

pub by_weaker : (g : World) (a : Active) (ls : List Line) (w x to : ℕ) (taken want : Bool) (t : State) (S : State → Type 0) → w ≤ x → taken ≡ want → LeadsBy g a ls w to taken t S → LeadsBy g a ls x to want t S
by_weaker g a ls w x to taken want t S le same way n v p turns m seen has turned k =
    follows_weaken g n (w + v) (x + v) m (place_in g a p) t seen (omega (arith, le))
    (subst (λ y. LeadsBy g a ls w to y t S) same way n v p turns m seen has turned k)

module _ (g : World) (a : Active) (t : State) (on_place : IsPlacement g.code g.place) (on : IsOn g t) (own : IsPlaced (lines_of g a)) (to label : ℕ) where
  -- orders, from the differences of which they are
  orders_lead : (width : Width) (sides : Sides) (m n : ℕ) → Ordering g a t width sides m n → (r : Relation) (sign y : Bool) → IsOrder r → tells r sign width m n ≡ y → LeadsBy g a (ordered_code r sign sides label to) 60 to y t (OnlyRegs t)
  orders_lead width sides m n by_bytes r sign y o is =
      by_weaker g a (ordered_code r sign sides label to) 26 60 to y y t (OnlyRegs t) (omega arith) refl
      (ordered_leads g a t width sides m n by_bytes on_place on own to label r sign y o is)

  module _ (low high : OperandByte) (may : MayRead g t low) (may2 : MayRead g t high) (small : byte_in g t low < 256) (small2 : byte_in g t high < 256) where
    abbrev left_word : ℕ
    left_word = t.regs.a + 256 * t.regs.x

    abbrev right_word : ℕ
    right_word = byte_in g t low + 256 * byte_in g t high

    word_order : (r : Relation) (sign y : Bool) → IsOrder r → tells r sign Ax left_word right_word ≡ y → LeadsBy g a (ordered_code r sign (Word low high) label to) 60 to y t (OnlyRegs t)
    word_order r sign y o is = orders_lead Ax (Word low high) left_word right_word (word_ordering g a t on_place on low high may may2 small small2) r sign y o is

    -- the lines go to the label where the words have the relation
    pub word_leads : (r : Relation) (sign y : Bool) → tells r sign Ax left_word right_word ≡ y → LeadsBy g a (compare_code r sign (Word low high) label to) 60 to y t (OnlyRegs t)
    word_leads Equal sign y is = by_weaker g a (compare_code Equal sign (Word low high) label to) 9 60 to y y t (OnlyRegs t) (omega arith) refl (equal_leads g a t on_place on own to label low high may may2 small small2 sign y is)
    word_leads Unequal sign y is = by_weaker g a (compare_code Unequal sign (Word low high) label to) 9 60 to (not (left_word == right_word)) y t (OnlyRegs t) (omega arith) is (other_leads g a t on_place on own to label low high may may2 small small2 sign (left_word == right_word) refl)
    word_leads Less sign y is = word_order Less sign y tt is
    word_leads NotLess sign y is = word_order NotLess sign y tt is
    word_leads Greater sign y is = word_order Greater sign y tt is
    word_leads NotGreater sign y is = word_order NotGreater sign y tt is

  module _ (first second third fourth : OperandByte) (may : MayReadLong g t first second third fourth) where
    abbrev left_long : ℕ
    left_long = eax_of t

    abbrev right_long : ℕ
    right_long = byte_in g t first + 256 * byte_in g t second + 65536 * byte_in g t third + 16777216 * byte_in g t fourth

    long_order : (r : Relation) (sign y : Bool) → IsOrder r → tells r sign Eax left_long right_long ≡ y → LeadsBy g a (ordered_code r sign (Long first second third fourth) label to) 60 to y t (OnlyRegs t)
    long_order r sign y o is = orders_lead Eax (Long first second third fourth) left_long right_long (long_ordering g a t on_place on first second third fourth may) r sign y o is

    -- the long words
    pub long_leads : (r : Relation) (sign y : Bool) → tells r sign Eax left_long right_long ≡ y → LeadsBy g a (compare_code r sign (Long first second third fourth) label to) 60 to y t (OnlyRegs t)
    long_leads Equal sign y is = by_weaker g a (compare_code Equal sign (Long first second third fourth) label to) 24 60 to y y t (OnlyRegs t) (omega arith) refl (equal_longs_lead g a t on_place on own to label first second third fourth may sign y is)
    long_leads Unequal sign y is = by_weaker g a (compare_code Unequal sign (Long first second third fourth) label to) 24 60 to (not (left_long == right_long)) y t (OnlyRegs t) (omega arith) is (other_longs_lead g a t on_place on own to label first second third fourth may sign (left_long == right_long) refl)
    long_leads Less sign y is = long_order Less sign y tt is
    long_leads NotLess sign y is = long_order NotLess sign y tt is
    long_leads Greater sign y is = long_order Greater sign y tt is
    long_leads NotGreater sign y is = long_order NotGreater sign y tt is

-- ---- a byte

-- the carry behind A and a byte
byte_carry : (r : Relation) (m n : ℕ) (s : Regs) → m < 256 → n < 256 → IsOrder r → s.c ≡ begins r m n → is_taken (by_carry r) s ≡ holds r m n
byte_carry Less m n s f h o e = ap is_not e ∙ go (nat_lt n (m + 1)) refl
  where
    go : (b : Bool) → nat_lt n (m + 1) ≡ b → is_not b ≡ nat_lt m n
    go true i = let few : n < m + 1 = ltb-true n (m + 1) i in grind (arith, nat_tests)
    go false i = let big : m + 1 ≤ n = ltb-false n (m + 1) i in grind (arith, nat_tests)
byte_carry NotLess m n s f h o e = e ∙ go (nat_lt n (m + 1)) refl
  where
    go : (b : Bool) → nat_lt n (m + 1) ≡ b → b ≡ nat_le n m
    go true i = let few : n < m + 1 = ltb-true n (m + 1) i in grind (arith, nat_tests)
    go false i = let big : m + 1 ≤ n = ltb-false n (m + 1) i in grind (arith, nat_tests)
byte_carry Greater m n s f h o e = e ∙ go (nat_lt 255 (m + (255 - n) + 0)) refl
  where
    go : (b : Bool) → nat_lt 255 (m + (255 - n) + 0) ≡ b → b ≡ nat_lt n m
    go true i = let big : 255 < m + (255 - n) + 0 = ltb-true 255 (m + (255 - n) + 0) i in grind (arith, nat_tests)
    go false i = let few : m + (255 - n) + 0 ≤ 255 = ltb-false 255 (m + (255 - n) + 0) i in grind (arith, nat_tests)
byte_carry NotGreater m n s f h o e = ap is_not e ∙ go (nat_lt 255 (m + (255 - n) + 0)) refl
  where
    go : (b : Bool) → nat_lt 255 (m + (255 - n) + 0) ≡ b → is_not b ≡ nat_le m n
    go true i = let big : 255 < m + (255 - n) + 0 = ltb-true 255 (m + (255 - n) + 0) i in grind (arith, nat_tests)
    go false i = let few : m + (255 - n) + 0 ≤ 255 = ltb-false 255 (m + (255 - n) + 0) i in grind (arith, nat_tests)
byte_carry Equal m n s f h o e = absurd o
byte_carry Unequal m n s f h o e = absurd o

-- Z behind CMP
byte_zero : (m n : ℕ) → m < 256 → n < 256 → apart m n ≡ (m == n)
byte_zero m n f h = go (apart m n) refl
  where
    go : (b : Bool) → apart m n ≡ b → b ≡ (m == n)
    go true e = let same : m ≡ n = same_bytes m n f h e in sym (equal m n same)
    go false e = sym (unequal m n (λ same. other_bytes m n e same))

module _ (g : World) (a : Active) (t : State) (on_place : IsPlacement g.code g.place) (on : IsOn g t) (to : ℕ) (x : OperandByte) (may : MayRead g t x) (small : byte_in g t x < 256) where
  abbrev byte : ℕ
  byte = byte_in g t x

  end_leads : (op : Op) (u : State) (y : Bool) → form_of (branch op to) ≡ Branch op to → OnlyRegs t u → is_taken op u.regs ≡ y → LeadsBy g a (branch op to ∷ []) 2 to y u (OnlyRegs t)
  end_leads op u y formed only is n v p turns q seen has turned k =
      branch_by g a op to formed u (subst (IsOn g) (sym only.0) (on_regs g a t on_place on u.regs (subst IsBytes only.0 only.1))) y is n v p turns q seen has turned (λ z later e come. k z later (subst (OnlyRegs t) (sym e) only) come)

  abbrev behind : Regs
  behind = on_byte g t Compares x t.regs

  only_to : (u : State) → To t behind u → OnlyRegs t u
  only_to u h = (h.0 ∙ ap (at_regs t) (sym (ap (λ (s : State). s.regs) h.0)), h.1)

  equality : (op : Op) (y : Bool) → form_of (branch op to) ≡ Branch op to → is_taken op behind ≡ y → LeadsBy g a (op_of Cmp x ++ (branch op to ∷ [])) 5 to y t (OnlyRegs t)
  equality op y formed is =
      by_weaker g a (op_of Cmp x ++ (branch op to ∷ [])) 4 5 to y y t (OnlyRegs t) (omega arith) refl
      (by_then g a (op_of Cmp x) (branch op to ∷ []) 2 2 to y t (To t behind) (OnlyRegs t) (operand_leads g a t on_place on Compares x t.regs may on.stacks.calm.bytes) (λ u h.
      end_leads op u y formed (only_to u h) (ap (λ (s : State). is_taken op s.regs) h.0 ∙ is)))

  order : (r : Relation) (y : Bool) → IsOrder r → form_of (branch (by_carry r) to) ≡ Branch (by_carry r) to → holds r t.regs.a byte ≡ y → LeadsBy g a (lowest_code r x ++ (branch (by_carry r) to ∷ [])) 5 to y t (OnlyRegs t)
  order r y o formed is =
      by_then g a (lowest_code r x) (branch (by_carry r) to ∷ []) 3 2 to y t (HasCarry t t.regs.x (begins r t.regs.a byte)) (OnlyRegs t) (low_leads g a t on_place on to to x x may may small small r o) (λ u h.
      end_leads (by_carry r) u y formed (h.only, h.bytes) (byte_carry r t.regs.a byte u.regs on.stacks.calm.bytes.a small o h.c ∙ is))

  zero_is : apart t.regs.a byte ≡ (t.regs.a == byte)
  zero_is = byte_zero t.regs.a byte on.stacks.calm.bytes.a small

  is_not_is : (b : Bool) → is_not b ≡ not b
  is_not_is true = refl
  is_not_is false = refl

  -- the lines go to the label where A and the byte have the relation
  pub byte_leads : (r : Relation) (y : Bool) → tells r false Ax t.regs.a byte ≡ y → LeadsBy g a (compare_byte_code r x to) 5 to y t (OnlyRegs t)
  byte_leads Equal y is = equality Beq y refl (zero_is ∙ is)
  byte_leads Unequal y is = equality Bne y refl (ap is_not zero_is ∙ is_not_is (t.regs.a == byte) ∙ is)
  byte_leads Less y is = order Less y tt refl is
  byte_leads NotLess y is = order NotLess y tt refl is
  byte_leads Greater y is = order Greater y tt refl is
  byte_leads NotGreater y is = order NotGreater y tt refl is
