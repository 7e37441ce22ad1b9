-- The differences of AX and a word, and of EAX and a long word, that are read where they lie.
use Rattle.std.proofs.Common.{◌≡◌, ℕ, ◌+◌, ◌-◌, ◌*◌, ◌<◌, ◌≤◌, List, [], ◌∷◌, ◌++◌, Bool, true, false, refl, sym, ap, ◌∙◌, subst, arith, append_assoc}
use Rattle.std.specs.Prelude.{◌&&◌, nat_lt, nat_le}
use Rattle.std.proofs.lemmas.Bool.{eqb-true, ltb-true, ltb-false, leb-true, leb-false, and_parts}
use Rattle.std.proofs.lemmas.Bool.Decides.{nat_tests}
use Rattle.c65_mach.specs.State.{Regs}
use Rattle.c65_mach.specs.Step.{apply, bit, negative}
use Rattle.c65_mach.specs.declared.rows.Op.TheVariants.{Lda, Sbc, Txa}
use Rattle.c65_code.specs.declared.line.Line.{Line}
use Rattle.c65_code.specs.declared.routine.Width.TheVariants.{Ax, Eax}
use Rattle.c65_code.specs.LineState.{State, ax_of, eax_of}
use Rattle.c65_code.specs.Numbers.{turned}
use Rattle.c65_code.specs.Placement.{IsPlacement}
use Rattle.c65_genload.specs.Words.{sreg, implied, zero_page}
use Rattle.c65_gendirect.specs.declared.bytes.OperandByte.{OperandByte}
use Rattle.c65_gendirect.specs.declared.bytes.OperandByte.TheVariants as bytes
use Rattle.c65_gendirect.specs.declared.relation.Relation.{Relation}
use Rattle.c65_gendirect.specs.declared.relation.Relation.TheVariants.{Less, NotLess, Greater, NotGreater, Equal, Unequal}
use Rattle.c65_gendirect.specs.declared.compare.Sides.TheVariants.{Word, Long}
use Rattle.c65_gendirect.specs.Bytes.{op_of}
use Rattle.c65_gendirect.specs.Compare.{lowest_code, difference_code, turned_code, turned_difference_code, is_zero_byte, is_number}
use Rattle.c65_agree_numbers.proofs.Tests.{less, not_less}
use Rattle.c65_agree_state.specs.World.{World, Active}
use Rattle.c65_agree_frame.specs.Leads.{Leads, IsOn}
use Rattle.c65_agree_frame.proofs.Leads.{leads_then, leads_as}
use Rattle.c65_agree_direct.specs.Operands.{byte_in, MayRead, Loads}
use Rattle.c65_agree_operate.proofs.Exact.{To, on_byte, implied_leads, operand_leads}
use Rattle.c65_agree_compare.specs.Laws.{IsOrder}
use Rattle.c65_agree_compare.proofs.Orders.{begins, carried, carries, carried_is, HasCarry, IsByteDifference, low_leads, difference_leads}
use Rattle.c65_agree_order.proofs.Steps.{across, Holds, IsTurnedDifference, only_to, moved_leads, loaded_leads, taken_leads, turned_leads}
use Rattle.c65_agree_order.proofs.Signed.{HasSign, Ordering}

zero_byte : (g : World) (t : State) (x : OperandByte) → is_zero_byte x ≡ true → byte_in g t x ≡ 0
zero_byte g t (bytes.Number n) e = eqb-true n 0 e
zero_byte g t (bytes.Low sym at) e = absurd (cc)
zero_byte g t (bytes.High sym at) e = absurd (cc)
zero_byte g t (bytes.Near at) e = absurd (cc)
zero_byte g t (bytes.Data sym at) e = absurd (cc)
zero_byte g t (bytes.Zero at) e = absurd (cc)

-- ---- words

turned_word : (a x : ℕ) → a < 256 → x < 256 → a + 256 * across x ≡ turned Ax (a + 256 * x)
turned_word a x h f = omega (arith, h, f)

-- beside 0 the sign of the left word tells
word_below : (a x : ℕ) → a < 256 → x < 256 → negative x ≡ nat_lt (turned Ax (a + 256 * x)) 32768
word_below a x h f = go (nat_lt 127 x) refl
  where
    go : (b : Bool) → nat_lt 127 x ≡ b → b ≡ nat_lt (turned Ax (a + 256 * x)) 32768
    go true e = let big : 127 < x = ltb-true 127 x e in sym (less (turned Ax (a + 256 * x)) 32768 (omega (arith, big, h, f)))
    go false e = let few : x ≤ 127 = ltb-false 127 x e in sym (not_less (turned Ax (a + 256 * x)) 32768 (omega (arith, few, h, f)))

module _ (g : World) (a : Active) (t : State) (on_place : IsPlacement g.code g.place) (on : IsOn g t) (low high : OperandByte) (may : MayRead g t low) (may2 : MayRead g t high) (small : byte_in g t low < 256) (small2 : byte_in g t high < 256) where
  abbrev l : ℕ
  l = byte_in g t low

  abbrev h : ℕ
  h = byte_in g t high

  words_turned : (r : Relation) → IsOrder r → is_number high ≡ true → Leads g a (turned_difference_code r (Word low high)) 24 t (IsTurnedDifference t.regs.x h (begins r t.regs.a l) t)
  words_turned r o number =
      let k : Bool = begins r t.regs.a l in
      leads_then g a (lowest_code r low) (implied Txa ∷ turned_code high) 3 21 t (HasCarry t t.regs.x k) (IsTurnedDifference t.regs.x h k t) (low_leads g a t on_place on 0 0 low high may may2 small small2 r o) (λ u e.
      leads_then g a (implied Txa ∷ []) (turned_code high) 1 20 u (Holds t.regs.x k t) (IsTurnedDifference t.regs.x h k t) (moved_leads g a t on_place on t.regs.x k u (e.only, e.bytes) e.x_is e.c) (λ v f.
      leads_as g a (turned_code high) 4 20 v (IsTurnedDifference t.regs.x h k t) (IsTurnedDifference t.regs.x h k t) (omega arith) (λ z i. i) (turned_leads g a t on_place on high t.regs.x k v number may2 small2 on.stacks.calm.bytes.x f)))

  words_none : (is_zero_byte low ≡ true) × (is_zero_byte high ≡ true) → l + 256 * h ≡ 0
  words_none e = let first : l ≡ 0 = zero_byte g t low e.0 in let second : h ≡ 0 = zero_byte g t high e.1 in omega (arith, first, second)

  words_highest : Leads g a (implied Txa ∷ []) 2 t (HasSign t.regs.x t)
  words_highest =
      let moved : Regs = apply false Txa 0 t.regs in
      leads_as g a (implied Txa ∷ []) 1 2 t (To t moved) (HasSign t.regs.x t) (omega arith) (λ u e. record { only = only_to t u moved e; n = ap (λ (z : State). z.regs.n) e.0 }) (implied_leads g a t on_place on Txa refl t.regs on.stacks.calm.bytes)

  pub word_ordering : Ordering g a t Ax (Word low high) (ax_of t) (l + 256 * h)
  word_ordering =
      record {
        x = t.regs.x;
        h = h;
        x_byte = on.stacks.calm.bytes.x;
        h_byte = small2;
        left = λ i. t.regs.a + 256 * i;
        right = λ j. l + 256 * j;
        left_is = refl;
        right_is = refl;
        left_turned = turned_word t.regs.a t.regs.x on.stacks.calm.bytes.a on.stacks.calm.bytes.x;
        right_turned = turned_word l h small small2;
        carry = λ r. begins r t.regs.a l;
        tells = λ r i j o f e. carried_is t.regs.a i l j on.stacks.calm.bytes.a f small e r o;
        difference = λ r o. leads_as g a (difference_code r (Word low high)) 6 20 t (IsByteDifference t.regs.x h (begins r t.regs.a l) t) (IsByteDifference t.regs.x h (begins r t.regs.a l) t) (omega arith) (λ u e. e) (difference_leads g a t on_place on 0 0 low high may may2 small small2 r o);
        turned_difference = words_turned;
        highest = words_highest;
        none = λ e. words_none (and_parts (is_zero_byte low) (is_zero_byte high) e);
        below = word_below t.regs.a t.regs.x on.stacks.calm.bytes.a on.stacks.calm.bytes.x;
      }

-- ---- long words

-- a byte more on each side
module _ (m n x h : ℕ) (f : m < 65536) (e : n < 65536) (i : x < 256) (j : h < 256) where
  third_plain : nat_lt 255 (x + (255 - h) + bit (nat_le n m)) ≡ nat_le (n + 65536 * h) (m + 65536 * x)
  third_plain = go (nat_le n m) refl
    where
      go : (b : Bool) → nat_le n m ≡ b → nat_lt 255 (x + (255 - h) + bit b) ≡ nat_le (n + 65536 * h) (m + 65536 * x)
      go true k = let le : n ≤ m = leb-true n m k in grind (arith, nat_tests)
      go false k = let lt : m < n = leb-false n m k in grind (arith, nat_tests)

  third_strict : nat_lt 255 (x + (255 - h) + bit (nat_lt n m)) ≡ nat_lt (n + 65536 * h) (m + 65536 * x)
  third_strict = go (nat_lt n m) refl
    where
      go : (b : Bool) → nat_lt n m ≡ b → nat_lt 255 (x + (255 - h) + bit b) ≡ nat_lt (n + 65536 * h) (m + 65536 * x)
      go true k = let lt : n < m = ltb-true n m k in grind (arith, nat_tests)
      go false k = let le : m ≤ n = ltb-false n m k in grind (arith, nat_tests)

  third_carry : (r : Relation) → IsOrder r → nat_lt 255 (x + (255 - h) + bit (carries r m n)) ≡ carries r (m + 65536 * x) (n + 65536 * h)
  third_carry Less o = third_plain
  third_carry NotLess o = third_plain
  third_carry Greater o = third_strict
  third_carry NotGreater o = third_strict
  third_carry Equal o = absurd o
  third_carry Unequal o = absurd o

module _ (m n x h : ℕ) (f : m < 16777216) (e : n < 16777216) (i : x < 256) (j : h < 256) where
  fourth_plain : nat_lt 255 (x + (255 - h) + bit (nat_le n m)) ≡ nat_le (n + 16777216 * h) (m + 16777216 * x)
  fourth_plain = go (nat_le n m) refl
    where
      go : (b : Bool) → nat_le n m ≡ b → nat_lt 255 (x + (255 - h) + bit b) ≡ nat_le (n + 16777216 * h) (m + 16777216 * x)
      go true k = let le : n ≤ m = leb-true n m k in grind (arith, nat_tests)
      go false k = let lt : m < n = leb-false n m k in grind (arith, nat_tests)

  fourth_strict : nat_lt 255 (x + (255 - h) + bit (nat_lt n m)) ≡ nat_lt (n + 16777216 * h) (m + 16777216 * x)
  fourth_strict = go (nat_lt n m) refl
    where
      go : (b : Bool) → nat_lt n m ≡ b → nat_lt 255 (x + (255 - h) + bit b) ≡ nat_lt (n + 16777216 * h) (m + 16777216 * x)
      go true k = let lt : n < m = ltb-true n m k in grind (arith, nat_tests)
      go false k = let le : m ≤ n = ltb-false n m k in grind (arith, nat_tests)

  fourth_carry : (r : Relation) → IsOrder r → nat_lt 255 (x + (255 - h) + bit (carries r m n)) ≡ carries r (m + 16777216 * x) (n + 16777216 * h)
  fourth_carry Less o = fourth_plain
  fourth_carry NotLess o = fourth_plain
  fourth_carry Greater o = fourth_strict
  fourth_carry NotGreater o = fourth_strict
  fourth_carry Equal o = absurd o
  fourth_carry Unequal o = absurd o

turned_long : (m x : ℕ) → m < 16777216 → x < 256 → m + 16777216 * across x ≡ turned Eax (m + 16777216 * x)
turned_long m x h f = omega (arith, h, f)

long_below : (m x : ℕ) → m < 16777216 → x < 256 → negative x ≡ nat_lt (turned Eax (m + 16777216 * x)) 2147483648
long_below m x h f = go (nat_lt 127 x) refl
  where
    go : (b : Bool) → nat_lt 127 x ≡ b → b ≡ nat_lt (turned Eax (m + 16777216 * x)) 2147483648
    go true e = let big : 127 < x = ltb-true 127 x e in sym (less (turned Eax (m + 16777216 * x)) 2147483648 (omega (arith, big, h, f)))
    go false e = let few : x ≤ 127 = ltb-false 127 x e in sym (not_less (turned Eax (m + 16777216 * x)) 2147483648 (omega (arith, few, h, f)))

-- the bytes of a long word may be read
pub record MayReadLong (g : World) (t : State) (first second third fourth : OperandByte) : Type 0 where
  pub may : MayRead g t first
  pub may2 : MayRead g t second
  pub may3 : MayRead g t third
  pub may4 : MayRead g t fourth
  pub small : byte_in g t first < 256
  pub small2 : byte_in g t second < 256
  pub small3 : byte_in g t third < 256
  pub small4 : byte_in g t fourth < 256

module _ (g : World) (a : Active) (t : State) (on_place : IsPlacement g.code g.place) (on : IsOn g t) (first second third fourth : OperandByte) (may : MayReadLong g t first second third fourth) where
  abbrev b0 : ℕ
  b0 = byte_in g t first

  abbrev b1 : ℕ
  b1 = byte_in g t second

  abbrev b2 : ℕ
  b2 = byte_in g t third

  abbrev b3 : ℕ
  b3 = byte_in g t fourth

  abbrev a2 : ℕ
  a2 = t.zp sreg

  abbrev a3 : ℕ
  a3 = t.zp (sreg + 1)

  -- all but the highest bytes
  abbrev left_rest : ℕ
  left_rest = t.regs.a + 256 * t.regs.x + 65536 * a2

  abbrev right_rest : ℕ
  right_rest = b0 + 256 * b1 + 65536 * b2

  -- the carry before these
  abbrev carry : Relation → Bool
  carry r = nat_lt 255 (a2 + (255 - b2) + bit (carried r t.regs.a t.regs.x b0 b1))

  long_tells : (r : Relation) (i j : ℕ) → IsOrder r → i < 256 → j < 256 → nat_lt 255 (i + (255 - j) + bit (carry r)) ≡ carries r (left_rest + 16777216 * i) (right_rest + 16777216 * j)
  long_tells r i j o f e =
      let all = on.stacks.calm.bytes in
      let m : ℕ = t.regs.a + 256 * t.regs.x in
      let n : ℕ = b0 + 256 * b1 in
      let few : m < 65536 = omega (arith, all.a, all.x) in
      let few2 : n < 65536 = omega (arith, may.small, may.small2) in
      let some : left_rest < 16777216 = omega (arith, few, all.zp sreg) in
      let some2 : right_rest < 16777216 = omega (arith, few2, may.small3) in
      ap (λ k. nat_lt 255 (i + (255 - j) + bit (nat_lt 255 (a2 + (255 - b2) + bit k)))) (carried_is t.regs.a t.regs.x b0 b1 all.a all.x may.small may.small2 r o)
      ∙ ap (λ k. nat_lt 255 (i + (255 - j) + bit k)) (third_carry m n a2 b2 few few2 (all.zp sreg) may.small3 r o) ∙ fourth_carry left_rest right_rest i j some some2 f e r o

  -- the highest byte of EAX is in A, and the carry is that before the highest bytes
  abbrev AtHighest : Relation → State → Type 0
  AtHighest r = Holds a3 (carry r) t

  abbrev upper_front : List Line → List Line
  upper_front ends = zero_page Lda sreg ∷ (op_of Sbc third ++ (zero_page Lda (sreg + 1) ∷ ends))

  upper_leads : (r : Relation) (ends : List Line) (w : ℕ) (Behind : State → Type 0) (u : State) → IsByteDifference t.regs.x b1 (begins r t.regs.a b0) t u → ((v : State) → AtHighest r v → Leads g a ends w v Behind) → Leads g a (upper_front ends) (2 + (2 + (2 + w))) u Behind
  upper_leads r ends w Behind u d goes =
      let k : Bool = carried r t.regs.a t.regs.x b0 b1 in
      leads_then g a (zero_page Lda sreg ∷ []) (op_of Sbc third ++ (zero_page Lda (sreg + 1) ∷ ends)) 2 (2 + (2 + w)) u (Holds a2 k t) Behind (loaded_leads g a t on_place on sreg k u (omega arith) d.only d.c) (λ v e.
      leads_then g a (op_of Sbc third) (zero_page Lda (sreg + 1) ∷ ends) 2 (2 + w) v (IsByteDifference a2 b2 k t) Behind (taken_leads g a t on_place on third a2 k v may.may3 e) (λ z f.
      leads_then g a (zero_page Lda (sreg + 1) ∷ []) ends 2 w z (AtHighest r) Behind (loaded_leads g a t on_place on (sreg + 1) (carry r) z (omega arith) f.only f.c) goes))

  long_leads : (r : Relation) (ends : List Line) (w : ℕ) (Behind : State → Type 0) → IsOrder r → ((v : State) → AtHighest r v → Leads g a ends w v Behind) → Leads g a (lowest_code r first ++ (implied Txa ∷ (op_of Sbc second ++ upper_front ends))) (6 + (2 + (2 + (2 + w)))) t Behind
  long_leads r ends w Behind o goes =
      subst (λ ls. Leads g a ls (6 + (2 + (2 + (2 + w)))) t Behind) (append_assoc (lowest_code r first) (implied Txa ∷ op_of Sbc second) (upper_front ends))
      (leads_then g a (difference_code r (Word first second)) (upper_front ends) 6 (2 + (2 + (2 + w))) t (IsByteDifference t.regs.x b1 (begins r t.regs.a b0) t) Behind (difference_leads g a t on_place on 0 0 first second may.may may.may2 may.small may.small2 r o) (λ u d.
      upper_leads r ends w Behind u d goes))

  longs_differ : (r : Relation) → IsOrder r → Leads g a (difference_code r (Long first second third fourth)) 20 t (IsByteDifference a3 b3 (carry r) t)
  longs_differ r o =
      long_leads r (op_of Sbc fourth) 8 (IsByteDifference a3 b3 (carry r) t) o (λ v e.
      leads_as g a (op_of Sbc fourth) 2 8 v (IsByteDifference a3 b3 (carry r) t) (IsByteDifference a3 b3 (carry r) t) (omega arith) (λ z i. i) (taken_leads g a t on_place on fourth a3 (carry r) v may.may4 e))

  longs_turned : (r : Relation) → IsOrder r → is_number fourth ≡ true → Leads g a (turned_difference_code r (Long first second third fourth)) 24 t (IsTurnedDifference a3 b3 (carry r) t)
  longs_turned r o number =
      long_leads r (turned_code fourth) 12 (IsTurnedDifference a3 b3 (carry r) t) o (λ v e.
      leads_as g a (turned_code fourth) 4 12 v (IsTurnedDifference a3 b3 (carry r) t) (IsTurnedDifference a3 b3 (carry r) t) (omega arith) (λ z i. i) (turned_leads g a t on_place on fourth a3 (carry r) v number may.may4 may.small4 (on.stacks.calm.bytes.zp (sreg + 1)) e))

  longs_highest : Leads g a (zero_page Lda (sreg + 1) ∷ []) 2 t (HasSign a3 t)
  longs_highest =
      let next : Regs = on_byte g t Loads (bytes.Zero (sreg + 1)) t.regs in
      leads_as g a (zero_page Lda (sreg + 1) ∷ []) 2 2 t (To t next) (HasSign a3 t) (omega arith) (λ u e. record { only = only_to t u next e; n = ap (λ (z : State). z.regs.n) e.0 }) (operand_leads g a t on_place on Loads (bytes.Zero (sreg + 1)) t.regs (omega arith) on.stacks.calm.bytes)

  longs_none : (is_zero_byte first && (is_zero_byte second && (is_zero_byte third && is_zero_byte fourth))) ≡ true → right_rest + 16777216 * b3 ≡ 0
  longs_none e =
      let one = and_parts (is_zero_byte first) (is_zero_byte second && (is_zero_byte third && is_zero_byte fourth)) e in
      let two = and_parts (is_zero_byte second) (is_zero_byte third && is_zero_byte fourth) one.1 in
      let three = and_parts (is_zero_byte third) (is_zero_byte fourth) two.1 in
      let none0 : b0 ≡ 0 = zero_byte g t first one.0 in
      let none1 : b1 ≡ 0 = zero_byte g t second two.0 in
      let none2 : b2 ≡ 0 = zero_byte g t third three.0 in
      let none3 : b3 ≡ 0 = zero_byte g t fourth three.1 in
      omega (arith, none0, none1, none2, none3)

  pub long_ordering : Ordering g a t Eax (Long first second third fourth) (eax_of t) (right_rest + 16777216 * b3)
  long_ordering =
      let all = on.stacks.calm.bytes in
      let some : left_rest < 16777216 = omega (arith, all.a, all.x, all.zp sreg) in
      let some2 : right_rest < 16777216 = omega (arith, may.small, may.small2, may.small3) in
      let whole : left_rest + 16777216 * a3 ≡ eax_of t = omega arith in
      record {
        x = a3;
        h = b3;
        x_byte = all.zp (sreg + 1);
        h_byte = may.small4;
        left = λ i. left_rest + 16777216 * i;
        right = λ j. right_rest + 16777216 * j;
        left_is = whole;
        right_is = refl;
        left_turned = turned_long left_rest a3 some (all.zp (sreg + 1)) ∙ ap (turned Eax) whole;
        right_turned = turned_long right_rest b3 some2 may.small4;
        carry = carry;
        tells = long_tells;
        difference = longs_differ;
        turned_difference = longs_turned;
        highest = longs_highest;
        none = longs_none;
        below = long_below left_rest a3 some (all.zp (sreg + 1)) ∙ ap (λ k. nat_lt (turned Eax k) 2147483648) whole;
      }
