-- Orders of AX or EAX and a number that is read where it lies, with sign or without: what their lines tell, from a difference that is worked out
-- byte by byte.
use Rattle.std.proofs.Common.{◌≡◌, ℕ, ◌+◌, ◌-◌, ◌%◌, ◌<◌, ◌≤◌, List, [], ◌∷◌, ◌++◌, Bool, true, false, refl, sym, ap, ◌∙◌, subst, arith}
use Rattle.std.specs.Prelude.{not, nat_lt, if◌then◌else◌}
use Rattle.std.proofs.lemmas.Bool.Decides.{nat_tests}
use Rattle.c65_mach.specs.State.{Regs}
use Rattle.c65_mach.specs.Step.{bit, negative, is_not, is_taken}
use Rattle.c65_mach.specs.declared.rows.Op.TheVariants.{Bvc, Eor}
use Rattle.c65_code.specs.declared.line.Line.{Line}
use Rattle.c65_code.specs.declared.line.Line.TheVariants.{Label}
use Rattle.c65_code.specs.declared.routine.Width.{Width}
use Rattle.c65_code.specs.LineState.{State, IsBytes}
use Rattle.c65_code.specs.Placement.{IsPlacement}
use Rattle.c65_code.specs.Forms.{Branch, form_of}
use Rattle.c65_code.specs.Numbers.{turned}
use Rattle.c65_genwide.specs.Lines.{value}
use Rattle.c65_genload.specs.Words.{branch}
use Rattle.c65_gendirect.specs.declared.bytes.OperandByte.TheVariants as bytes
use Rattle.c65_gendirect.specs.declared.relation.Relation.{Relation}
use Rattle.c65_gendirect.specs.declared.relation.Relation.TheVariants.{Less, NotLess, Greater, NotGreater, Equal, Unequal}
use Rattle.c65_gendirect.specs.declared.compare.Sides.{Sides}
use Rattle.c65_gendirect.specs.declared.compare.Sides.TheVariants.{Word, Long}
use Rattle.c65_gendirect.specs.Compare.{by_carry, by_sign, difference_code, turned_difference_code, order_code, are_zero, is_turned, highest_code, ordered_code}
use Rattle.c65_rtl.proofs.Flags.{flipped, negative_turned, sign_of_sum}
use Rattle.c65_agree_state.specs.World.{World, Active, lines_of, place_in, IsPlaced}
use Rattle.c65_agree_state.proofs.Followed.{follows_weaken}
use Rattle.c65_agree_frame.specs.Leads.{Leads, IsOn}
use Rattle.c65_agree_frame.proofs.Leads.{leads_then, leads_as}
use Rattle.c65_agree_direct.specs.Operands.{Excludes}
use Rattle.c65_agree_operate.proofs.Routines.{label_leads}
use Rattle.c65_agree_operate.proofs.Exact.{at_regs, To, on_byte, on_regs, operand_leads, leads_from, skip_leads}
use Rattle.c65_agree_compare.specs.Laws.{IsOrder}
use Rattle.c65_agree_compare.proofs.Ways.{LeadsBy, by_then, branch_by}
use Rattle.c65_agree_compare.proofs.Equal.{OnlyRegs}
use Rattle.c65_agree_compare.proofs.Orders.{holds, carries, last_byte, overflows, IsByteDifference, carries_tell, carry_leads}
use Rattle.c65_agree_compare.proofs.Directs.{below_not}
use Rattle.c65_agree_order.proofs.Tells.{tells}
use Rattle.c65_agree_order.proofs.Steps.{across, IsTurnedDifference}

-- ---- the sign of a difference

across_small : (x : ℕ) → across x < 256
across_small x = omega arith

under : (k : ℕ) → nat_lt k 256 ≡ is_not (nat_lt 255 k)
under k = go (nat_lt 255 k) refl
  where
    go : (b : Bool) → nat_lt 255 k ≡ b → nat_lt k 256 ≡ is_not b
    go true e = grind (arith, nat_tests)
    go false e = grind (arith, nat_tests)

bit_few : (c : Bool) → bit c ≤ 1
bit_few true = omega arith
bit_few false = omega arith

-- N, turned where the difference overflows, tells as the carry of the bytes with the other sign does
sign_is : (x h : ℕ) (c : Bool) → x < 256 → h < 256 → flipped (overflows x h c) (negative (last_byte x h c)) ≡ is_not (nat_lt 255 (across x + (255 - across h) + bit c))
sign_is x h c lx lh =
    let rest : (255 - h + 128) % 256 ≡ 255 - across h = omega (arith, lh) in
    sign_of_sum x (255 - h) (bit c) lx (omega (arith, lh)) (bit_few c) ∙ ap (λ w. nat_lt (across x + w + bit c) 256) rest ∙ under (across x + (255 - across h) + bit c)

is_not_is : (x : Bool) → is_not x ≡ not x
is_not_is true = refl
is_not_is false = refl

not_not : (x : Bool) → is_not (is_not x) ≡ x
not_not true = refl
not_not false = refl

-- a branch by such a sign goes as one by the carry
sign_taken : (r : Relation) (s : Regs) (k : Bool) → s.n ≡ is_not k → is_taken (by_sign r) s ≡ is_taken (by_carry r) (record s { c = k })
sign_taken Less s k e = e
sign_taken NotGreater s k e = e
sign_taken NotLess s k e = ap is_not e ∙ not_not k
sign_taken Greater s k e = ap is_not e ∙ not_not k
sign_taken Equal s k e = ap is_not e ∙ not_not k
sign_taken Unequal s k e = ap is_not e ∙ not_not k

formed : (r : Relation) (to : ℕ) → form_of (branch (by_sign r) to) ≡ Branch (by_sign r) to
formed Less to = refl
formed NotGreater to = refl
formed NotLess to = refl
formed Greater to = refl
formed Equal to = refl
formed Unequal to = refl

-- ---- a difference by bytes

-- registers alone are others, and N is the sign of a byte
pub record HasSign (x : ℕ) (t u : State) : Type 0 where
  pub only : OnlyRegs t u
  pub n : u.regs.n ≡ negative x

-- What the lines of a difference do, of the number m in the primary register and the number n that is read: the carry before the highest bytes tells
-- of all below these, whatever they are.
pub record Ordering (g : World) (a : Active) (t : State) (width : Width) (sides : Sides) (m n : ℕ) : Type 0 where
  pub x : ℕ
  pub h : ℕ
  pub x_byte : x < 256
  pub h_byte : h < 256
  pub left : ℕ → ℕ
  pub right : ℕ → ℕ
  pub left_is : left x ≡ m
  pub right_is : right h ≡ n
  pub left_turned : left (across x) ≡ turned width m
  pub right_turned : right (across h) ≡ turned width n
  pub carry : Relation → Bool
  pub tells : (r : Relation) (i j : ℕ) → IsOrder r → i < 256 → j < 256 → nat_lt 255 (i + (255 - j) + bit (carry r)) ≡ carries r (left i) (right j)
  pub difference : (r : Relation) → IsOrder r → Leads g a (difference_code r sides) 20 t (IsByteDifference x h (carry r) t)
  pub turned_difference : (r : Relation) → IsOrder r → is_turned true sides ≡ true → Leads g a (turned_difference_code r sides) 24 t (IsTurnedDifference x h (carry r) t)
  pub highest : Leads g a (highest_code sides) 2 t (HasSign x t)
  pub none : are_zero sides ≡ true → n ≡ 0
  pub below : negative x ≡ nat_lt (turned width m) (turned width 0)

module _ (g : World) (a : Active) (t : State) (width : Width) (sides : Sides) (m n : ℕ) (by_bytes : Ordering g a t width sides m n) (on_place : IsPlacement g.code g.place) (on : IsOn g t) (own : IsPlaced (lines_of g a)) (to label : ℕ) where
  abbrev x : ℕ
  x = by_bytes.x

  abbrev h : ℕ
  h = by_bytes.h

  is_on : (u : State) → OnlyRegs t u → IsOn g u
  is_on u only = subst (IsOn g) (sym only.0) (on_regs g a t on_place on u.regs (subst IsBytes only.0 only.1))

  -- ---- by the carry

  tells_plain : (r : Relation) (y : Bool) (s : Regs) → IsOrder r → holds r m n ≡ y → s.c ≡ nat_lt 255 (x + (255 - h) + bit (by_bytes.carry r)) → is_taken (by_carry r) s ≡ y
  tells_plain r y s o is e =
      carries_tell r m n o s (e ∙ by_bytes.tells r x h o by_bytes.x_byte by_bytes.h_byte ∙ ap (λ k. carries r k (by_bytes.right h)) by_bytes.left_is ∙ ap (carries r m) by_bytes.right_is) ∙ is

  -- the carry of the bytes with the other signs tells of numbers with sign
  tells_turned : (r : Relation) (y : Bool) (s : Regs) → IsOrder r → holds r (turned width m) (turned width n) ≡ y → s.c ≡ nat_lt 255 (across x + (255 - across h) + bit (by_bytes.carry r)) → is_taken (by_carry r) s ≡ y
  tells_turned r y s o is e =
      carries_tell r (turned width m) (turned width n) o s (e ∙ by_bytes.tells r (across x) (across h) o (across_small x) (across_small h) ∙ ap (λ k. carries r k (by_bytes.right (across h))) by_bytes.left_turned ∙ ap (carries r (turned width m)) by_bytes.right_turned) ∙ is

  plain_leads : (r : Relation) (y : Bool) → IsOrder r → holds r m n ≡ y → LeadsBy g a (difference_code r sides ++ order_code r false label to) 22 to y t (OnlyRegs t)
  plain_leads r y o is =
      by_then g a (difference_code r sides) (order_code r false label to) 20 2 to y t (IsByteDifference x h (by_bytes.carry r) t) (OnlyRegs t) (by_bytes.difference r o) (λ u d.
      carry_leads g a t on_place on to label r y u d.only (tells_plain r y u.regs o is d.c))

  turned_leads : (r : Relation) (y : Bool) → is_turned true sides ≡ true → IsOrder r → holds r (turned width m) (turned width n) ≡ y → LeadsBy g a (turned_difference_code r sides ++ order_code r false label to) 26 to y t (OnlyRegs t)
  turned_leads r y number o is =
      by_then g a (turned_difference_code r sides) (order_code r false label to) 24 2 to y t (IsTurnedDifference x h (by_bytes.carry r) t) (OnlyRegs t) (by_bytes.turned_difference r o number) (λ u d.
      carry_leads g a t on_place on to label r y u d.only (tells_turned r y u.regs o is d.c))

  -- ---- by the sign

  -- N tells whether the difference is below zero
  abbrev Signed : Relation → State → Type 0
  Signed r u = OnlyRegs t u × (u.regs.n ≡ is_not (nat_lt 255 (across x + (255 - across h) + bit (by_bytes.carry r))))

  signs : (r : Relation) → flipped (overflows x h (by_bytes.carry r)) (negative (last_byte x h (by_bytes.carry r))) ≡ is_not (nat_lt 255 (across x + (255 - across h) + bit (by_bytes.carry r)))
  signs r = sign_is x h (by_bytes.carry r) by_bytes.x_byte by_bytes.h_byte

  -- behind the difference
  module _ (r : Relation) (u : State) (d : IsByteDifference x h (by_bytes.carry r) t u) where
    abbrev turn : Regs
    turn = on_byte g t Excludes (bytes.Number 128) u.regs

    abbrev last : ℕ
    last = last_byte x h (by_bytes.carry r)

    stays : is_not u.regs.v ≡ true → Signed r u
    stays e =
        let no : overflows x h (by_bytes.carry r) ≡ false = sym d.v ∙ (sym (not_not u.regs.v) ∙ ap is_not e) in
        (d.only, d.n ∙ sym (ap (λ b. flipped b (negative last)) no) ∙ signs r)

    flips : is_not u.regs.v ≡ false → (v : State) → To t turn v → Signed r v
    flips e v f =
        let yes : overflows x h (by_bytes.carry r) ≡ true = sym d.v ∙ (sym (not_not u.regs.v) ∙ ap is_not e) in
        let same : v.regs ≡ turn = ap (λ (z : State). z.regs) f.0 in
        let small : u.regs.a < 256 = (subst IsBytes d.only.0 d.only.1).a in
        let other : v.regs.n ≡ is_not (negative u.regs.a) = ap (λ (z : Regs). z.n) same ∙ negative_turned u.regs.a small in
        ((f.0 ∙ ap (at_regs t) (sym same), f.1), other ∙ ap (λ k. is_not (negative k)) d.a ∙ sym (ap (λ b. flipped b (negative last)) yes) ∙ signs r)

    turn_leads : is_not u.regs.v ≡ false → Leads g a (value Eor 128 ∷ Label label ∷ []) 2 u (Signed r)
    turn_leads e =
        leads_from g a (value Eor 128 ∷ Label label ∷ []) 2 t u u.regs (Signed r) (d.only.0, d.only.1) (λ b.
        leads_then g a (value Eor 128 ∷ []) (Label label ∷ []) 2 0 (at_regs t u.regs) (To t turn) (Signed r) (operand_leads g a t on_place on Excludes (bytes.Number 128) u.regs (omega arith) b) (λ v f.
        label_leads g a label v (Signed r) (flips e v f)))

    sign_leads : Leads g a (branch Bvc label ∷ value Eor 128 ∷ Label label ∷ []) 4 u (Signed r)
    sign_leads = skip_leads g a own Bvc label (value Eor 128 ∷ []) 2 u (Signed r) (is_on u d.only) refl (is_not u.regs.v) refl stays turn_leads

  tells_sign : (r : Relation) (y : Bool) (u : State) → IsOrder r → holds r (turned width m) (turned width n) ≡ y → Signed r u → is_taken (by_sign r) u.regs ≡ y
  tells_sign r y u o is s =
      let k : Bool = nat_lt 255 (across x + (255 - across h) + bit (by_bytes.carry r)) in
      sign_taken r u.regs k s.1 ∙ tells_turned r y (record u.regs { c = k }) o is refl

  -- a branch by the sign behind lines that leave all but registers
  branches : (r : Relation) (y : Bool) (u : State) → OnlyRegs t u → is_taken (by_sign r) u.regs ≡ y → LeadsBy g a (branch (by_sign r) to ∷ []) 2 to y u (OnlyRegs t)
  branches r y u only is i v p turns q seen has turned k =
      branch_by g a (by_sign r) to (formed r to) u (is_on u only) y is i v p turns q seen has turned (λ z later e come. k z later (subst (OnlyRegs t) (sym e) only) come)

  signed_leads : (r : Relation) (y : Bool) → IsOrder r → holds r (turned width m) (turned width n) ≡ y → LeadsBy g a (difference_code r sides ++ order_code r true label to) 26 to y t (OnlyRegs t)
  signed_leads r y o is =
      by_then g a (difference_code r sides) (branch Bvc label ∷ value Eor 128 ∷ Label label ∷ branch (by_sign r) to ∷ []) 20 6 to y t (IsByteDifference x h (by_bytes.carry r) t) (OnlyRegs t) (by_bytes.difference r o) (λ u d.
      by_then g a (branch Bvc label ∷ value Eor 128 ∷ Label label ∷ []) (branch (by_sign r) to ∷ []) 4 2 to y u (Signed r) (OnlyRegs t) (sign_leads r u d) (λ v s.
      branches r y v s.0 (tells_sign r y v o is s)))

  -- beside 0 the sign of the left number
  zero_leads : (r : Relation) (y : Bool) → ((s : Regs) → s.n ≡ negative x → is_taken (by_sign r) s ≡ y) → LeadsBy g a (highest_code sides ++ (Label label ∷ branch (by_sign r) to ∷ [])) 26 to y t (OnlyRegs t)
  zero_leads r y told =
      by_then g a (highest_code sides) (Label label ∷ branch (by_sign r) to ∷ []) 2 24 to y t (HasSign x t) (OnlyRegs t) by_bytes.highest (λ u s.
      by_then g a (Label label ∷ []) (branch (by_sign r) to ∷ []) 22 2 to y u (HasSign x t) (OnlyRegs t) (leads_as g a (Label label ∷ []) 0 22 u (HasSign x t) (HasSign x t) (omega arith) (λ v e. e) (label_leads g a label u (HasSign x t) s)) (λ v e.
      branches r y v e.only (told v.regs e.n)))

  -- ---- the lines

  chosen : (z : Bool) (xs ys : List Line) (y : Bool) → (z ≡ true → LeadsBy g a xs 26 to y t (OnlyRegs t)) → (z ≡ false → LeadsBy g a ys 26 to y t (OnlyRegs t)) → LeadsBy g a (if z then xs else ys) 26 to y t (OnlyRegs t)
  chosen true xs ys y f k = f refl
  chosen false xs ys y f k = k refl

  abbrev behind_signs : Bool → Relation → List Line
  behind_signs sign r = if is_turned sign sides then turned_difference_code r sides ++ order_code r false label to else difference_code r sides ++ order_code r sign label to

  with_sign : (r : Relation) (y : Bool) → IsOrder r → holds r (turned width m) (turned width n) ≡ y → LeadsBy g a (behind_signs true r) 26 to y t (OnlyRegs t)
  with_sign r y o is = chosen (is_turned true sides) (turned_difference_code r sides ++ order_code r false label to) (difference_code r sides ++ order_code r true label to) y (λ number. turned_leads r y number o is) (λ e. signed_leads r y o is)

  no_sign : (s : Sides) → is_turned false s ≡ false
  no_sign (Word low high) = refl
  no_sign (Long first second third fourth) = refl

  without_sign : (r : Relation) (y : Bool) → IsOrder r → holds r m n ≡ y → LeadsBy g a (behind_signs false r) 26 to y t (OnlyRegs t)
  without_sign r y o is =
      chosen (is_turned false sides) (turned_difference_code r sides ++ order_code r false label to) (difference_code r sides ++ order_code r false label to) y
      (λ e. let clash : true ≡ false = sym e ∙ no_sign sides in absurd (cc))
      (λ e i v p turns q seen has turned k. follows_weaken g i (22 + v) (26 + v) q (place_in g a p) t seen (omega arith) (plain_leads r y o is i v p turns q seen has turned k))

  below_is : are_zero sides ≡ true → negative x ≡ holds Less (turned width m) (turned width n)
  below_is e = by_bytes.below ∙ ap (λ k. nat_lt (turned width m) (turned width k)) (sym (by_bytes.none e))

  beside_zero : (r : Relation) (y : Bool) → (are_zero sides ≡ true → (s : Regs) → s.n ≡ negative x → is_taken (by_sign r) s ≡ y) → IsOrder r → holds r (turned width m) (turned width n) ≡ y
      → LeadsBy g a (if are_zero sides then highest_code sides ++ (Label label ∷ branch (by_sign r) to ∷ []) else behind_signs true r) 26 to y t (OnlyRegs t)
  beside_zero r y told o is = chosen (are_zero sides) (highest_code sides ++ (Label label ∷ branch (by_sign r) to ∷ [])) (behind_signs true r) y (λ e. zero_leads r y (told e)) (λ e. with_sign r y o is)

  pub ordered_leads : (r : Relation) (sign y : Bool) → IsOrder r → tells r sign width m n ≡ y → LeadsBy g a (ordered_code r sign sides label to) 26 to y t (OnlyRegs t)
  ordered_leads Less true y o is = beside_zero Less y (λ e s f. f ∙ below_is e ∙ is) o is
  ordered_leads NotLess true y o is = beside_zero NotLess y (λ e s f. ap is_not f ∙ is_not_is (negative x) ∙ ap not (below_is e) ∙ sym (below_not (turned width m) (turned width n)) ∙ is) o is
  ordered_leads Greater true y o is = with_sign Greater y o is
  ordered_leads NotGreater true y o is = with_sign NotGreater y o is
  ordered_leads Less false y o is = without_sign Less y o is
  ordered_leads NotLess false y o is = without_sign NotLess y o is
  ordered_leads Greater false y o is = without_sign Greater y o is
  ordered_leads NotGreater false y o is = without_sign NotGreater y o is
  ordered_leads Equal sign y o is = absurd o
  ordered_leads Unequal sign y o is = absurd o
