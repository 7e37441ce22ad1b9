-- Sums and differences with a constant.
use Rattle.std.proofs.Common.{◌≡◌, ℕ, ◌+◌, ◌-◌, ◌*◌, ◌%◌, ◌<◌, ◌≤◌, ◌⊎◌, inl, inr, max, List, [], ◌∷◌, ◌++◌, ℤ, pos, negsuc, Bool, true, false, Some, refl, sym, ap, ◌∙◌, subst, arith}
use Rattle.std.specs.Prelude.{◌==◌, ◌&&◌, nat_lt, if◌then◌else◌, Ok}
use Rattle.std.proofs.lemmas.Bool.{eqb-true, ltb-true, ltb-false}
use Rattle.std.proofs.lemmas.List.{append-nil}
use Rattle.c65_base.specs.declared.operators.BinaryOp.{BinaryOp}
use Rattle.c65_base.specs.declared.operators.BinaryOp.TheVariants as ops
use Rattle.c65_ints.specs.declared.types.IntType.{IntType}
use Rattle.c65_ints.specs.Ranges.{is_signed_of, residue, InRange}
use Rattle.c65_csem.specs.Places.{is_promoted}
use Rattle.c65_mach.specs.declared.rows.Op.TheVariants.{Adc, Clc, Lda, Tax, Tay, Txa, Tya}
use Rattle.c65_mach.specs.State.{Regs}
use Rattle.c65_mach.specs.Step.{apply, bit}
use Rattle.c65_meaning.specs.Store.{Whole, Number}
use Rattle.c65_meaning.specs.Items.{Item, Push}
use Rattle.c65_meaning.specs.Operators.{calculated}
use Rattle.c65_meaning.specs.State.{Scene}
use Rattle.c65_code.specs.declared.line.Line.{Line}
use Rattle.c65_code.specs.declared.line.Line.TheVariants.{Label}
use Rattle.c65_code.specs.declared.routine.Width.{Width}
use Rattle.c65_code.specs.declared.routine.Width.TheVariants.{Ax, Eax}
use Rattle.c65_code.specs.LineState.{Bytes, write, State, ax_of, eax_of, s_of, IsBytes}
use Rattle.c65_code.specs.Numbers.{words_of, tos_result}
use Rattle.c65_code.specs.Placement.{IsPlacement}
use Rattle.c65_code.specs.Rows.{primary_of}
use Rattle.c65_genwide.specs.Wide.{width_of, tos_of, is_comparison}
use Rattle.c65_genload.specs.Numbers.{first, second, third, fourth, add_long_code}
use Rattle.c65_gendirect.specs.declared.bytes.OperandByte.TheVariants.{Number as Given}
use Rattle.c65_gendirect.specs.Words.{word_code, add_number_code}
use Rattle.c65_genexpr.specs.Operands.{residue_of, negative}
use Rattle.c65_genexpr.specs.Operating.{sum_by, number_form, value_form}
use Rattle.c65_agree_store.specs.Stands.{Placing, Banks}
use Rattle.c65_agree_numbers.specs.Words.{word_of}
use Rattle.c65_agree_state.specs.World.{World, Active, lines_of, IsPlaced}
use Rattle.c65_agree_state.specs.Exprs.{Ready, Valued}
use Rattle.c65_agree_state.proofs.Followed.{steps_earn, ready_is_calm}
use Rattle.c65_agree_rows.proofs.Quiet.{write_other}
use Rattle.c65_agree_frame.specs.Leads.{Leads, IsOn}
use Rattle.c65_agree_frame.proofs.Leads.{leads_then, leads_as, kept_regs, kept_zero, lines_lead}
use Rattle.c65_agree_load.proofs.Kept.{is_on, kept_later}
use Rattle.c65_agree_operate.specs.Manners.{Manner, DoesIn}
use Rattle.c65_agree_operate_bytes.specs.Laws.{IsSum, on_constant, ConstantSumsDo}
use Rattle.c65_agree_operate.proofs.Manners.{left_held}
use Rattle.c65_agree_operate.proofs.Given.{words_given}
use Rattle.c65_agree_operate.proofs.Routines.{label_leads}
use Rattle.c65_agree_operate.proofs.Exact.{at_regs, registers_kept, registers_held, one_more}
use Rattle.c65_agree_operate_bytes.proofs.Words.{by_bytes}
use Rattle.c65_agree_operate_bytes.proofs.Direct.{Worked}
use Rattle.c65_agree_operate_bytes.proofs.Short.{both_true, word_leads}
use Rattle.c65_agree_operate.proofs.Lefts.{HasWord, TakesNone, left_does}

-- ---- the number that is added

abbrev pub amount : BinaryOp → ℕ → ℕ
amount ops.Sub n = negative n
amount _ n = n

-- modulo the words of a width, which 2 to the 32 is a multiple of
down : (width : Width) (q : ℤ) → residue_of q % words_of width ≡ residue (words_of width) q
down Ax (pos n) = omega arith
down Ax (negsuc n) = omega arith
down Eax (pos n) = omega arith
down Eax (negsuc n) = omega arith

below_all : (q : ℤ) → residue_of q < 4294967296
below_all (pos n) = omega arith
below_all (negsuc n) = omega arith

pub amount_below : (op : BinaryOp) (q : ℤ) → amount op (residue_of q) < 4294967296
amount_below ops.Sub q = omega (arith, below_all q)
amount_below _ q = below_all q

-- it gives what the operator's routine does
pub amount_adds : (op : BinaryOp) (sign : Bool) (width : Width) (m : ℕ) (q : ℤ) → IsSum op → tos_result (tos_of op sign) width m (residue (words_of width) q) ≡ Some ((m + amount op (residue_of q)) % words_of width)
amount_adds ops.Add sign Ax m q o = let d = down Ax q in ap Some (omega (arith, d))
amount_adds ops.Add sign Eax m q o = let d = down Eax q in ap Some (omega (arith, d))
amount_adds ops.Sub sign Ax m q o = let d = down Ax q in let b = below_all q in ap Some (omega (arith, d, b))
amount_adds ops.Sub sign Eax m q o = let d = down Eax q in let b = below_all q in ap Some (omega (arith, d, b))
amount_adds _ sign width m q o = absurd o

pub sum_is : (op : BinaryOp) (t : IntType) (p q z : ℤ) → IsSum op → is_promoted t ≡ true → InRange t p → InRange t q → calculated op t p q ≡ Ok (Whole z) → (word_of t p + amount op (residue_of q)) % words_of (width_of t) ≡ word_of t z
sum_is op t p q z o promoted left right e =
    let same : Some ((word_of t p + amount op (residue_of q)) % words_of (width_of t)) ≡ Some (word_of t z) = sym (amount_adds op (is_signed_of t) (width_of t) (word_of t p) q o) ∙ words_given op t p q z (plain op o) promoted left right e in
    cc
  where
    plain : (op : BinaryOp) → IsSum op → is_comparison op ≡ false
    plain ops.Add o = refl
    plain ops.Sub o = refl
    plain _ o = absurd o

-- ---- AX

-- AX is more by a number, and nothing but registers is other
pub record Summed (n : ℕ) (t u : State) : Type 0 where
  pub only : u ≡ at_regs t u.regs
  pub word : ax_of u ≡ (ax_of t + n) % 65536
  pub bytes : IsBytes u

module _ (g : World) (a : Active) (t : State) (placed : IsPlacement g.code g.place) (on : IsOn g t) (more : 3 + 27 ≤ s_of t) (own : IsPlaced (lines_of g a)) (label n : ℕ) where
  a_below : t.regs.a < 256
  a_below = on.stacks.calm.bytes.a

  x_below : t.regs.x < 256
  x_below = on.stacks.calm.bytes.x

  less : 0 < first n → second n ≡ 255 → Leads g a (word_code ops.Sub (Given (256 - first n)) (Given 0) label) 9 t (Summed n t)
  less some ones =
      let l : ℕ = 256 - first n in
      let small : l < 256 = omega (arith, some) in
      subst (λ ls. Leads g a ls 9 t (Summed n t)) (append-nil (word_code ops.Sub (Given l) (Given 0) label))
      (leads_as g a (word_code ops.Sub (Given l) (Given 0) label ++ []) 9 9 t (Worked ops.Sub l 0 t) (Summed n t) (omega arith)
      (λ u h. record { only = h.only; word = ap (λ k. k + 256 * u.regs.x) h.a ∙ ap (λ k. (t.regs.a + (255 - l) + 1) % 256 + 256 * k) h.x ∙ by_bytes t.regs.a t.regs.x l 0 a_below x_below small (omega arith) ops.Sub t.regs.c refl ∙ omega (arith, some, ones, a_below, x_below); bytes = h.bytes })
      (word_leads g a ops.Sub t placed on more own label (Given l) (Given 0) small (omega arith)))

  sum : Leads g a (word_code ops.Add (Given (first n)) (Given (second n)) label) 9 t (Summed n t)
  sum =
      let low : first n < 256 = omega arith in
      let high : second n < 256 = omega arith in
      subst (λ ls. Leads g a ls 9 t (Summed n t)) (append-nil (word_code ops.Add (Given (first n)) (Given (second n)) label))
      (leads_as g a (word_code ops.Add (Given (first n)) (Given (second n)) label ++ []) 9 9 t (Worked ops.Add (first n) (second n) t) (Summed n t) (omega arith)
      (λ u h. record { only = h.only; word = ap (λ k. k + 256 * u.regs.x) h.a ∙ ap (λ k. (t.regs.a + first n + 0) % 256 + 256 * k) h.x ∙ by_bytes t.regs.a t.regs.x (first n) (second n) a_below x_below low high ops.Add t.regs.c refl ∙ omega (arith, a_below, x_below); bytes = h.bytes })
      (word_leads g a ops.Add t placed on more own label (Given (first n)) (Given (second n)) low high))

  pub sum_leads : Leads g a (add_number_code n label) 9 t (Summed n t)
  sum_leads = pick (n % 65536 == 0) (second n == 255 && nat_lt 0 (first n)) refl refl
    where
      pick : (none short : Bool) → (n % 65536 == 0) ≡ none → (second n == 255 && nat_lt 0 (first n)) ≡ short
          → Leads g a (if none then Label label ∷ [] else (if short then word_code ops.Sub (Given (256 - first n)) (Given 0) label else word_code ops.Add (Given (first n)) (Given (second n)) label)) 9 t (Summed n t)
      pick true short e f =
          let zero : n % 65536 ≡ 0 = eqb-true (n % 65536) 0 e in
          leads_as g a (Label label ∷ []) 0 9 t (Summed n t) (Summed n t) (omega arith) (λ u h. h) (label_leads g a label t (Summed n t) (record { only = refl; word = omega (arith, zero, a_below, x_below); bytes = on.stacks.calm.bytes }))
      pick false true e f =
          let both = both_true (second n == 255) (nat_lt 0 (first n)) f in
          less (ltb-true 0 (first n) both.1) (eqb-true (second n) 255 both.0)
      pick false false e f = sum

-- ---- EAX

carry_is : (s : ℕ) → s < 512 → s % 256 + 256 * bit (nat_lt 255 s) ≡ s
carry_is s h = pick (nat_lt 255 s) refl
  where
    pick : (b : Bool) → nat_lt 255 s ≡ b → s % 256 + 256 * bit b ≡ s
    pick true e = let more : 255 < s = ltb-true 255 s e in omega arith
    pick false e = let less : s ≤ 255 = ltb-false 255 s e in omega arith

bit_below : (b : Bool) → bit b < 2
bit_below true = omega arith
bit_below false = omega arith

-- four bytes with their carries
long_sum : (a x l h n : ℕ) → a < 256 → x < 256 → l < 256 → h < 256 → n < 4294967296
    → let s1 = a + first n + bit false in let s2 = x + second n + bit (nat_lt 255 s1) in let s3 = l + third n + bit (nat_lt 255 s2) in let s4 = h + fourth n + bit (nat_lt 255 s3) in
    s1 % 256 + 256 * (s2 % 256) + 65536 * (s3 % 256 + 256 * (s4 % 256)) ≡ (a + 256 * x + 65536 * (l + 256 * h) + n) % 4294967296
long_sum a x l h n ha hx hl hh hn =
    let s1 : ℕ = a + first n + bit false in
    let s2 : ℕ = x + second n + bit (nat_lt 255 s1) in
    let s3 : ℕ = l + third n + bit (nat_lt 255 s2) in
    let s4 : ℕ = h + fourth n + bit (nat_lt 255 s3) in
    let b1 = bit_below (nat_lt 255 s1) in
    let b2 = bit_below (nat_lt 255 s2) in
    let b3 = bit_below (nat_lt 255 s3) in
    let e1 = carry_is s1 (omega (arith, ha)) in
    let e2 = carry_is s2 (omega (arith, hx, b1)) in
    let e3 = carry_is s3 (omega (arith, hl, b2)) in
    let e4 = carry_is s4 (omega (arith, hh, b3)) in
    omega (arith, e1, e2, e3, e4, hn)

module _ (g : World) (a : Active) (t : State) (placed : IsPlacement g.code g.place) (on : IsOn g t) (n : ℕ) where
  abbrev r2 : Regs
  r2 = apply false Adc (first n) (apply false Clc 0 t.regs)

  abbrev r4 : Regs
  r4 = apply false Txa 0 (apply false Tay 0 r2)

  abbrev r6 : Regs
  r6 = apply false Tax 0 (apply false Adc (second n) r4)

  abbrev r8 : Regs
  r8 = apply false Adc (third n) (apply false Lda (t.zp 2) r6)

  abbrev z1 : Bytes
  z1 = write t.zp 2 r8.a

  abbrev r10 : Regs
  r10 = apply false Adc (fourth n) (apply false Lda (t.zp 3) r8)

  abbrev z2 : Bytes
  z2 = write z1 3 r10.a

  abbrev r11 : Regs
  r11 = apply false Tya 0 r10

  abbrev by_long : State
  by_long = record t { regs = r11; zp = z2 }

  long_leads : Leads g a (add_long_code n) 13 t (λ u. (u ≡ by_long) × IsBytes u)
  long_leads = lines_lead g a (add_long_code n) t placed on (
    refl,
    tt,
    omega arith,
    kept_regs t (apply false Clc 0 t.regs),
    (
      refl,
      tt,
      omega arith,
      kept_regs (at_regs t (apply false Clc 0 t.regs)) r2,
      (
        refl,
        tt,
        omega arith,
        kept_regs (at_regs t r2) (apply false Tay 0 r2),
        (
          refl,
          tt,
          omega arith,
          kept_regs (at_regs t (apply false Tay 0 r2)) r4,
          (
            refl,
            tt,
            omega arith,
            kept_regs (at_regs t r4) (apply false Adc (second n) r4),
            (
              refl,
              tt,
              omega arith,
              kept_regs (at_regs t (apply false Adc (second n) r4)) r6,
              (
                refl,
                (omega arith, λ h. absurd h),
                tt,
                kept_regs (at_regs t r6) (apply false Lda (t.zp 2) r6),
                (
                  refl,
                  tt,
                  omega arith,
                  kept_regs (at_regs t (apply false Lda (t.zp 2) r6)) r8,
                  (
                    refl,
                    (omega arith, λ h. omega arith),
                    tt,
                    kept_zero (at_regs t r8) 2 r8.a (omega arith),
                    (
                      refl,
                      (omega arith, λ h. absurd h),
                      tt,
                      kept_regs (record t { regs = r8; zp = z1 }) (apply false Lda (t.zp 3) r8),
                      (
                        refl,
                        tt,
                        omega arith,
                        kept_regs (record t { regs = apply false Lda (t.zp 3) r8; zp = z1 }) r10,
                        (
                          refl,
                          (omega arith, λ h. omega arith),
                          tt,
                          kept_zero (record t { regs = r10; zp = z1 }) 3 r10.a (omega arith),
                          (
                            refl,
                            tt,
                            omega arith,
                            kept_regs (record t { regs = r10; zp = z2 }) r11,
                            tt,
                          ),
                        ),
                      ),
                    ),
                  ),
                ),
              ),
            ),
          ),
        ),
      ),
    ),
  )

  long_word : n < 4294967296 → eax_of by_long ≡ (eax_of t + n) % 4294967296
  long_word lt = let b = on.stacks.calm.bytes in long_sum t.regs.a t.regs.x (t.zp 2) (t.zp 3) n b.a b.x (b.zp 2) (b.zp 3) lt

  pub others_stay : (i : ℕ) → (i < 2) ⊎ (20 ≤ i) → z2 i ≡ t.zp i
  others_stay i (inl h) = write_other z1 3 r10.a i (λ e. omega (arith, e, h)) ∙ write_other t.zp 2 r8.a i (λ e. omega (arith, e, h))
  others_stay i (inr h) = write_other z1 3 r10.a i (λ e. omega (arith, e, h)) ∙ write_other t.zp 2 r8.a i (λ e. omega (arith, e, h))

-- ---- both widths

module _ (g : World) (a : Active) (m : Manner) (op : BinaryOp) (t : IntType) (label pushed needs : ℕ) (placed : IsPlacement g.code g.place) (own : IsPlaced (lines_of g a)) (sums : IsSum op) (promoted : is_promoted t ≡ true)
    (c : Scene) (w : Placing) (b : Banks) (u : State) (p q z : ℤ) (ready : Ready g a pushed needs c w b u) (is : primary_of (width_of t) u ≡ word_of t p) (left : InRange t p) (right : InRange t q) (calculates : calculated op t p q ≡ Ok (Whole z)) where
  abbrev n : ℕ
  n = amount op (residue_of q)

  total : (width : Width) → width_of t ≡ width → (k : ℕ) → k ≡ (primary_of width u + n) % words_of width → k ≡ word_of t z
  total width e k h =
      let own_sum : (word_of t p + n) % words_of (width_of t) ≡ word_of t z = sum_is op t p q z sums promoted left right calculates in
      h ∙ sym (ap (λ x. (primary_of x u + n) % words_of x) e) ∙ ap (λ x. (x + n) % words_of (width_of t)) is ∙ own_sum

  pub word_sum_leads : width_of t ≡ Ax → Leads g a (add_number_code n label) 2560 u (HasWord g a m t c w b u (word_of t z))
  word_sum_leads narrow =
      leads_as g a (add_number_code n label) 9 2560 u (Summed n u) (HasWord g a m t c w b u (word_of t z)) (omega arith)
      (λ x h. record { kept = registers_kept g a pushed needs c w b u x placed ready h.only h.bytes; word = subst (λ width. primary_of width x ≡ word_of t z) (sym narrow) (total Ax narrow (ax_of x) h.word); left = left_held m c u x (registers_held u x h.only) })
      (sum_leads g a u placed (is_on g a pushed needs c w b u placed ready) (one_more g a pushed needs c w b u ready) own label n)

  pub long_sum_leads : width_of t ≡ Eax → Leads g a (add_long_code n ++ Label label ∷ []) 2560 u (HasWord g a m t c w b u (word_of t z))
  long_sum_leads wide =
      let on = is_on g a pushed needs c w b u placed ready in
      leads_as g a (add_long_code n ++ Label label ∷ []) 13 2560 u (HasWord g a m t c w b u (word_of t z)) (HasWord g a m t c w b u (word_of t z)) (omega arith) (λ x h. h)
      (leads_then g a (add_long_code n) (Label label ∷ []) 13 0 u (λ x. (x ≡ by_long g a u placed on n) × IsBytes x) (HasWord g a m t c w b u (word_of t z)) (long_leads g a u placed on n) (λ x h.
      label_leads g a label x (HasWord g a m t c w b u (word_of t z)) (rw h.0 (record {
        kept = kept_later g a pushed needs c w b u placed ready (r11 g a u placed on n) (z2 g a u placed on n) (others_stay g a u placed on n) (subst IsBytes h.0 h.1);
        word = subst (λ width. primary_of width (by_long g a u placed on n) ≡ word_of t z) (sym wide) (total Eax wide (eax_of (by_long g a u placed on n)) (long_word g a u placed on n (amount_below op q)));
        left = left_held m c u (by_long g a u placed on n) (record { low = refl; high = refl });
      }))))

-- ---- the law

-- the work of a constant takes no lines
pub constant_takes_none : (g : World) (a : Active) (pushed : ℕ) (t : IntType) (z : ℤ) → InRange t z → TakesNone g a pushed t (λ k. Push (Whole z) ∷ k) (λ c w u v. v ≡ Whole z)
constant_takes_none g a pushed t z range needs n weight k vs c w b p u seen ready turned goes =
    steps_earn g n weight (Push (Whole z)) k vs c p u seen (ready_is_calm g a pushed needs c w b u ready).calm ready.joins.output ready.joins.ended (omega (arith, turned)) (λ j lt. goes j (Whole z) lt range refl)

same_constant : (q z : ℤ) → Whole q ≡ Whole z → q ≡ z
same_constant q z e = cc

sum_is_plain : (op : BinaryOp) → IsSum op → is_comparison op ≡ false
sum_is_plain ops.Add o = refl
sum_is_plain ops.Sub o = refl
sum_is_plain _ o = absurd o

form_is : (op : BinaryOp) (t : IntType) (n : ℕ) → IsSum op → number_form op t n ≡ Some (sum_by (width_of t) (amount op n))
form_is ops.Add t n o = refl
form_is ops.Sub t n o = refl
form_is _ t n o = absurd o

module _ (g : World) (a : Active) (m : Manner) (op : BinaryOp) (t : IntType) (z : ℤ) (label needs more_needs pushed : ℕ) (first_work : List Item → List Item) (left : List Line) (placed : IsPlacement g.code g.place) (own : IsPlaced (lines_of g a)) (few : m.over ≤ 1000) (sums : IsSum op) (promoted : is_promoted t ≡ true) (range : InRange t z) (before : DoesIn g a m Valued (Number t) first_work needs pushed left) where
  by_width : (width : Width) → width_of t ≡ width → DoesIn g a m Valued (Number t) (on_constant op t z first_work) (max needs (1 + more_needs)) pushed (left ++ value_form (sum_by width (amount op (residue_of z))) label)
  by_width Ax e =
      left_does g a m op t t needs more_needs pushed first_work (λ k. Push (Whole z) ∷ k) left (add_number_code (amount op (residue_of z)) label) few (sum_is_plain op sums) (λ c w u v. v ≡ Whole z) (constant_takes_none g a pushed t z range)
      (λ c w b u p q y ready is so fits1 fits2 calculates. subst (λ x. Leads g a (add_number_code (amount op (residue_of x)) label) 2560 u (HasWord g a m t c w b u (word_of t y))) (same_constant q z so) (word_sum_leads g a m op t label pushed more_needs placed own sums promoted c w b u p q y ready is fits1 fits2 calculates e)) before
  by_width Eax e =
      left_does g a m op t t needs more_needs pushed first_work (λ k. Push (Whole z) ∷ k) left (add_long_code (amount op (residue_of z)) ++ Label label ∷ []) few (sum_is_plain op sums) (λ c w u v. v ≡ Whole z) (constant_takes_none g a pushed t z range)
      (λ c w b u p q y ready is so fits1 fits2 calculates. subst (λ x. Leads g a (add_long_code (amount op (residue_of x)) ++ Label label ∷ []) 2560 u (HasWord g a m t c w b u (word_of t y))) (same_constant q z so) (long_sum_leads g a m op t label pushed more_needs placed own sums promoted c w b u p q y ready is fits1 fits2 calculates e)) before

pub constant_sums_do : ConstantSumsDo
constant_sums_do g a m op t z form label needs more_needs pushed first_work left right placed own few sums promoted range is before =
    let same : Some form ≡ Some (sum_by (width_of t) (amount op (residue_of z))) = sym is ∙ form_is op t (residue_of z) sums in
    let same2 : form ≡ sum_by (width_of t) (amount op (residue_of z)) = cc in
    subst (λ f. DoesIn g a m Valued (Number t) (on_constant op t z first_work) (max needs (1 + more_needs)) pushed (left ++ value_form f label)) (sym same2)
    (by_width g a m op t z label needs more_needs pushed first_work left placed own few sums promoted range before (width_of t) refl)
