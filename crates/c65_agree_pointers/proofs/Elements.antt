-- The lines that make bytes of elements, and elements of bytes, where elements of one byte take no lines (C90 6.3.6).
use Rattle.std.proofs.Common.{◌≡◌, ℕ, zero, suc, ◌+◌, ◌*◌, ◌/◌, ◌%◌, ◌<◌, ◌≤◌, ◌⊎◌, inl, inr, List, [], ◌∷◌, ℤ, pos, negsuc, neg_ℤ, int_div, unsigned_abs, Bool, true, false, Some, refl, sym, ap, ◌∙◌, subst, arith}
use Rattle.std.specs.Prelude.{nat_lt, nat_le, ◌==◌, ◌&&◌, if◌then◌else◌}
use Rattle.std.proofs.lemmas.Bool.{eqb-true, eqb-false, ltb-true, ltb-false, leb-true, leb-false}
use Rattle.std.proofs.lemmas.Int.{ints}
use Rattle.std.proofs.Math.Nat.{div-eq_of_lt, div-zero}
use Rattle.c65_ints.specs.Ranges.{residue}
use Rattle.c65_ints.specs.declared.types.IntType.TheVariants.{UInt}
use Rattle.c65_meaning.specs.State.{Scene}
use Rattle.c65_code.specs.declared.line.Line.{Line}
use Rattle.c65_code.specs.declared.routine.TosOp.TheVariants as tos
use Rattle.c65_code.specs.declared.routine.Width.TheVariants.{Ax}
use Rattle.c65_code.specs.LineState.{State, ax_of, IsBytes}
use Rattle.c65_code.specs.Numbers.{tos_result}
use Rattle.c65_code.specs.Placement.{IsPlacement}
use Rattle.c65_genload.specs.Numbers.{number_code, by_code, is_divisor, divide_code}
use Rattle.c65_genshift.specs.Quick.{elements_code}
use Rattle.c65_agree_store.specs.Stands.{Placing, Banks}
use Rattle.c65_agree_numbers.proofs.Residues.{residue_below}
use Rattle.c65_agree_numbers.proofs.Quotients.{quotient_given}
use Rattle.c65_agree_numbers.proofs.Ranges.{Within}
use Rattle.c65_agree_state.specs.World.{World, Active}
use Rattle.c65_agree_state.specs.Exprs.{Ready}
use Rattle.c65_agree_frame.specs.Leads.{Leads}
use Rattle.c65_agree_frame.proofs.Leads.{none_leads, leads_as}
use Rattle.c65_agree_load.proofs.Kept.{is_on}
use Rattle.c65_agree_operate.specs.Manners.{Manner}
use Rattle.c65_agree_operate.proofs.Manners.{left_held, left_scene}
use Rattle.c65_agree_operate.proofs.Lefts.{HasWord}
use Rattle.c65_agree_operate_bytes.proofs.Short.{both_true}
use Rattle.c65_agree_quick.specs.Laws.{IsNow, HasTwo}
use Rattle.c65_agree_quick.proofs.Scratch.{scratch_leads, still_now}
use Rattle.c65_agree_quick.proofs.Room.{by_number}
use Rattle.c65_agree_quick.proofs.Elements.{elements_are_scaled}
use Rattle.c65_agree_pointers.specs.Sums.{told}

-- ---- how many bytes elements are told to have

pub told_below : (size : ℕ) → told size < 65536
told_below size = by (nat_lt size 65536) refl
  where
    by : (b : Bool) → nat_lt size 65536 ≡ b → (if b then size else 0) < 65536
    by true e = ltb-true size 65536 e
    by false e = omega arith

told_is : (size : ℕ) → (told size ≡ size) ⊎ ((told size ≡ 0) × (65536 ≤ size))
told_is size = by (nat_lt size 65536) refl
  where
    by : (b : Bool) → nat_lt size 65536 ≡ b → ((if b then size else 0) ≡ size) ⊎ (((if b then size else 0) ≡ 0) × (65536 ≤ size))
    by true e = inl refl
    by false e = inr (refl, ltb-false size 65536 e)

-- ---- quotients

by_one : (z : ℤ) → int_div z (pos 1) ≡ z
by_one (pos n) = let e : n / 1 ≡ n = omega arith in ap pos e
by_one (negsuc n) = let e : suc n / 1 ≡ suc n = omega arith in ap (λ k. neg_ℤ (pos k)) e

-- no elements lie between places that are nearer than one
by_more : (z : ℤ) (size : ℕ) → unsigned_abs z < size → int_div z (pos size) ≡ pos 0
by_more (pos n) size h = ap pos (div-eq_of_lt h)
by_more (negsuc n) size h = ap (λ k. neg_ℤ (pos k)) (div-eq_of_lt h)

by_none : (z : ℤ) → int_div z (pos 0) ≡ pos 0
by_none (pos n) = ap pos (div-zero n)
by_none (negsuc n) = ap (λ k. neg_ℤ (pos k)) (div-zero (suc n))

few_within : (z : ℤ) → unsigned_abs z ≤ 32767 → Within true Ax z
few_within (pos n) h = omega (arith, h)
few_within (negsuc n) h = omega (arith, h)

module _ (g : World) (a : Active) (m : Manner) (pushed needs : ℕ) (c : Scene) (w : Placing) (b : Banks) (t : State) (placed : IsPlacement g.code g.place) (ready : Ready g a pushed needs c w b t) (two : HasTwo a needs c t) where
  abbrev Result : ℕ → State → Type 0
  Result n = HasWord g a m UInt c w b t n

  -- no lines
  none : (n : ℕ) → ax_of t ≡ n → Leads g a [] 2306 t (Result n)
  none n is =
      let now : IsNow g a c w b Ax n t t = still_now g a pushed needs c w b Ax placed n t ready is in
      leads_as g a [] 0 2306 t (Result n) (Result n) (omega arith) (λ u h. h)
      (none_leads g a t (Result n) (record { kept = now.kept; word = now.word; left = left_held m c t t (record { low = refl; high = refl }) }))

  -- lines that may change ptr2
  heavy : (ls : List Line) (n : ℕ) → m.light ≡ false → Leads g a ls 2306 t (IsNow g a c w b Ax n t) → Leads g a ls 2306 t (Result n)
  heavy ls n dark lead = leads_as g a ls 2306 2306 t (IsNow g a c w b Ax n t) (Result n) (omega arith) (λ u h. record { kept = h.kept; word = h.word; left = left_scene m c t u dark }) lead

  ax_below : ax_of t < 65536
  ax_below = let bytes : IsBytes t = (is_on g a pushed needs c w b t placed ready).stacks.calm.bytes in omega (arith, bytes.a, bytes.x)

  pub scaled : (size : ℕ) → size < 65536 → (m.light ≡ true → (size == 1) ≡ true) → Leads g a (elements_code size) 2306 t (Result ((ax_of t * size) % 65536))
  scaled size small light = by (size == 1) m.light refl refl
    where
      by : (one lit : Bool) → (size == 1) ≡ one → m.light ≡ lit → Leads g a (elements_code size) 2306 t (Result ((ax_of t * size) % 65536))
      by true lit e f =
          let is : size ≡ 1 = eqb-true size 1 e in
          let same : ax_of t ≡ (ax_of t * 1) % 65536 = omega (arith, ax_below) in
          rw is (none ((ax_of t * 1) % 65536) same)
      by false false e f = heavy (elements_code size) ((ax_of t * size) % 65536) f (elements_are_scaled g a pushed needs size c w b t placed small ready two)
      by false true e f = let clash : false ≡ true = sym e ∙ light f in absurd (cc)

  -- ---- bytes between two places

  module _ (size : ℕ) (z : ℤ) (few : unsigned_abs z ≤ 32767) (is : ax_of t ≡ residue 65536 z) (light : m.light ≡ true → (told size == 1) ≡ true) where
    abbrev quotient : ℕ
    quotient = residue 65536 (int_div z (pos size))

    one_byte : told size ≡ 1 → size ≡ 1
    one_byte e = by (told_is size)
      where
        by : (told size ≡ size) ⊎ ((told size ≡ 0) × (65536 ≤ size)) → size ≡ 1
        by (inl h) = sym h ∙ e
        by (inr h) = absurd (omega (arith, e, h.0))

    by_routine : is_divisor (told size) ≡ true → Leads g a (by_code tos.Div (told size)) 2306 t (IsNow g a c w b Ax quotient t)
    by_routine e =
        let n : ℕ = told size in
        let both = both_true (nat_lt 0 n) (nat_le n 32767) e in
        let above : 0 < n = ltb-true 0 n both.0 in
        let below : n ≤ 32767 = leb-true n 32767 both.1 in
        let own : n ≡ size = own_size (told_is size) above in
        let ne : pos n ≡ pos 0 → ⊥ = λ f. omega (arith, above, ints, f) in
        let given : tos_result tos.Div Ax (residue 65536 z) (residue 65536 (pos n)) ≡ Some (residue 65536 (int_div z (pos n))) = quotient_given true Ax z (pos n) (few_within z few) (omega (arith, below)) ne in
        let same : residue 65536 (pos n) ≡ n = omega (arith, below) in
        let result : tos_result tos.Div Ax (ax_of t) n ≡ Some quotient =
        ap (λ k. tos_result tos.Div Ax k n) is ∙ ap (tos_result tos.Div Ax (residue 65536 z)) (sym same) ∙ given ∙ ap (λ k. Some (residue 65536 (int_div z (pos k)))) own in
        by_number g a pushed needs c w b t placed ready two tos.Div n quotient refl (omega (arith, below)) result (residue_below 65536 (int_div z (pos size)) (omega arith))
      where
        own_size : (told size ≡ size) ⊎ ((told size ≡ 0) × (65536 ≤ size)) → 0 < told size → told size ≡ size
        own_size (inl h) above = h
        own_size (inr h) above = absurd (omega (arith, above, h.0))

    none_between : is_divisor (told size) ≡ false → (told size == 1) ≡ false → quotient ≡ 0
    none_between e f = ap (residue 65536) (by (told_is size))
      where
        small : (told size ≡ size) → (size ≡ 0) ⊎ (32767 < size)
        small h = pick (nat_lt 0 (told size)) (nat_le (told size) 32767) refl refl e
          where
            pick : (x y : Bool) → nat_lt 0 (told size) ≡ x → nat_le (told size) 32767 ≡ y → x && y ≡ false → (size ≡ 0) ⊎ (32767 < size)
            pick false y d k s = let low : told size ≤ 0 = ltb-false 0 (told size) d in inl (omega (arith, low, h))
            pick true false d k s = let high : 32767 < told size = leb-false (told size) 32767 k in inr (omega (arith, high, h))
            pick true true d k s = absurd (cc)

        by : (told size ≡ size) ⊎ ((told size ≡ 0) × (65536 ≤ size)) → int_div z (pos size) ≡ pos 0
        by (inr h) = by_more z size (omega (arith, few, h.1))
        by (inl h) = which (small h)
          where
            which : (size ≡ 0) ⊎ (32767 < size) → int_div z (pos size) ≡ pos 0
            which (inl zero_is) = rw zero_is (by_none z)
            which (inr large) = by_more z size (omega (arith, few, large))

    pub divided : Leads g a (divide_code (told size)) 2306 t (Result quotient)
    divided = by (told size == 1) (is_divisor (told size)) refl refl
      where
        dark : (told size == 1) ≡ false → m.light ≡ false
        dark e = pick m.light refl
          where
            pick : (l : Bool) → m.light ≡ l → l ≡ false
            pick false f = refl
            pick true f = let clash : false ≡ true = sym e ∙ light f in absurd (cc)

        by : (one divides : Bool) → (told size == 1) ≡ one → is_divisor (told size) ≡ divides → Leads g a (if one then [] else (if divides then by_code tos.Div (told size) else number_code Ax 0)) 2306 t (Result quotient)
        by true divides e f =
            let own : size ≡ 1 = one_byte (eqb-true (told size) 1 e) in
            none quotient (is ∙ ap (residue 65536) (sym (by_one z)) ∙ ap (λ n. residue 65536 (int_div z (pos n))) (sym own))
        by false true e f = heavy (by_code tos.Div (told size)) quotient (dark e) (by_routine f)
        by false false e f =
            let nothing : quotient ≡ 0 = none_between f e in
            heavy (number_code Ax 0) quotient (dark e)
            (leads_as g a (number_code Ax 0) 2 2306 t (IsNow g a c w b Ax quotient t) (IsNow g a c w b Ax quotient t) (omega arith) (λ u h. h)
            (scratch_leads g a pushed needs c w b Ax placed (number_code Ax 0) quotient t ready (omega arith, (omega arith, tt)) (sym nothing)))
