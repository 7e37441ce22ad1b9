-- The lines of an operator with a constant, which leave the word of its value, do its work.
use Rattle.std.proofs.Common.{◌≡◌, ℕ, ◌+◌, ◌≤◌, max, List, ◌∷◌, ◌++◌, ℤ, false, subst, arith}
use Rattle.std.specs.Prelude.{Ok}
use Rattle.c65_base.specs.declared.operators.BinaryOp.{BinaryOp}
use Rattle.c65_ints.specs.declared.types.IntType.{IntType}
use Rattle.c65_ints.specs.Ranges.{InRange}
use Rattle.c65_meaning.specs.Store.{Whole, Number}
use Rattle.c65_meaning.specs.Items.{Item, Push}
use Rattle.c65_meaning.specs.Operators.{calculated}
use Rattle.c65_meaning.specs.State.{Scene}
use Rattle.c65_code.specs.declared.line.Line.{Line}
use Rattle.c65_code.specs.LineState.{State}
use Rattle.c65_code.specs.Rows.{primary_of}
use Rattle.c65_genwide.specs.Wide.{width_of, is_comparison}
use Rattle.c65_agree_store.specs.Stands.{Placing, Banks}
use Rattle.c65_agree_numbers.specs.Words.{word_of}
use Rattle.c65_agree_state.specs.World.{World, Active}
use Rattle.c65_agree_state.specs.Exprs.{Ready, Valued}
use Rattle.c65_agree_frame.specs.Leads.{Leads}
use Rattle.c65_agree_frame.proofs.Leads.{leads_as}
use Rattle.c65_agree_operate.specs.Manners.{Manner, DoesIn}
use Rattle.c65_agree_operate.proofs.Manners.{left_scene}
use Rattle.c65_agree_operate.proofs.Lefts.{HasWord, left_does}
use Rattle.c65_agree_operate_bytes.proofs.Sums.{constant_takes_none}
use Rattle.c65_agree_quick.specs.Laws.{with_constant, IsNow}

same_number : (q z : ℤ) → Whole q ≡ Whole z → q ≡ z
same_number q z e = cc

module _ (g : World) (a : Active) (m : Manner) (op : BinaryOp) (t r : IntType) (z : ℤ) (needs more_needs pushed : ℕ) (first : List Item → List Item) (left ls : List Line)
    (heavy : m.light ≡ false) (few : m.over ≤ 1000) (plain : is_comparison op ≡ false) (range : InRange r z)
    (leads : (c : Scene) (w : Placing) (b : Banks) (u : State) (p y : ℤ) → Ready g a pushed more_needs c w b u → primary_of (width_of t) u ≡ word_of t p → InRange t p → calculated op t p z ≡ Ok (Whole y) → Leads g a ls 2560 u (IsNow g a c w b (width_of t) (word_of t y) u)) where
  behind : (c : Scene) (w : Placing) (b : Banks) (u : State) (p q y : ℤ) → Ready g a pushed more_needs c w b u → primary_of (width_of t) u ≡ word_of t p → Whole q ≡ Whole z → InRange t p → InRange r q → calculated op t p q ≡ Ok (Whole y) → Leads g a ls 2560 u (HasWord g a m t c w b u (word_of t y))
  behind c w b u p q y ready is so range1 range2 e =
      leads_as g a ls 2560 2560 u (IsNow g a c w b (width_of t) (word_of t y) u) (HasWord g a m t c w b u (word_of t y)) (omega arith)
      (λ x h. record { kept = h.kept; word = h.word; left = left_scene m c u x heavy })
      (leads c w b u p y ready is range1 (subst (λ v. calculated op t p v ≡ Ok (Whole y)) (same_number q z so) e))

  pub constant_does : DoesIn g a m Valued (Number t) first needs pushed left → DoesIn g a m Valued (Number t) (with_constant op t r z first) (max needs (1 + more_needs)) pushed (left ++ ls)
  constant_does before = left_does g a m op t r needs more_needs pushed first (λ k. Push (Whole z) ∷ k) left ls few plain (λ c w u v. v ≡ Whole z) (constant_takes_none g a pushed r z range) behind before
