-- What sums with pointers give, where AX has the word that their operands' words give.
use Rattle.std.proofs.Common.{◌≡◌, ℕ, ◌+◌, ◌*◌, ◌%◌, ◌<◌, List, ℤ, pos, refl, sym, ap, ◌∙◌, subst, arith}
use Rattle.std.specs.Prelude.{Ok}
use Rattle.c65_base.specs.declared.operators.BinaryOp.{BinaryOp}
use Rattle.c65_base.specs.declared.operators.BinaryOp.TheVariants as ops
use Rattle.c65_ints.specs.declared.types.IntType.{IntType}
use Rattle.c65_ints.specs.declared.types.IntType.TheVariants.{Int, UInt}
use Rattle.c65_ints.specs.Ranges.{residue}
use Rattle.c65_meaning.specs.Store.{Value, Whole, Shape, Number, Pointer}
use Rattle.c65_meaning.specs.Operators.{binary}
use Rattle.c65_meaning.specs.State.{Scene}
use Rattle.c65_code.specs.declared.line.Line.{Line}
use Rattle.c65_code.specs.declared.routine.Width.TheVariants.{Ax}
use Rattle.c65_code.specs.LineState.{State, ax_of}
use Rattle.c65_agree_store.specs.Stands.{Placing, Banks, Grows, ValueIs}
use Rattle.c65_agree_numbers.proofs.Residues.{residue_below}
use Rattle.c65_agree_state.specs.World.{World, Active}
use Rattle.c65_agree_state.specs.Exprs.{Ready, Valued, MayFit, ResultIs, width_in}
use Rattle.c65_agree_frame.specs.Leads.{Leads}
use Rattle.c65_agree_frame.proofs.Leads.{leads_as}
use Rattle.c65_agree_operate.specs.Manners.{Manner}
use Rattle.c65_agree_operate.proofs.Behind.{IsGiven}
use Rattle.c65_agree_operate.proofs.Lefts.{HasWord}
use Rattle.c65_agree_operate_bytes.specs.Laws.{IsSum}
use Rattle.c65_agree_operate_bytes.proofs.Words.{word_on}
use Rattle.c65_agree_pointers.specs.Sums.{told}
use Rattle.c65_agree_pointers.proofs.Moved.{bytes_by, moved_is}
use Rattle.c65_agree_store.proofs.Moved.{IsMoved}
use Rattle.c65_agree_pointers.proofs.Words.{pointer_result}

module _ (g : World) (a : Active) (m : Manner) (pushed needs : ℕ) (c : Scene) (w : Placing) (b : Banks) (u : State) (ready : Ready g a pushed needs c w b u) where
  -- a place that is moved
  pub moved_given : (op : BinaryOp) (size n k : ℕ) (w1 : Placing) (v x : Value) (z : ℤ) (ls : List Line) → IsSum op → Grows w1 w → n < 65536 → ValueIs w1 65536 v n → IsMoved c.store v x (bytes_by op size z) → k ≡ word_on op n ((residue 65536 z * told size) % 65536)
      → Leads g a ls 2560 u (HasWord g a m UInt c w b u k) → Leads g a ls 2560 u (IsGiven g a m (Pointer size) c w b u x)
  moved_given op size n k w1 v x z ls sums grows few is h same lead =
      let value : ValueIs w 65536 x k = subst (ValueIs w 65536 x) (sym same) (moved_is c.store w1 w u.mem b op size n v x z ready.joins.stands grows sums few is h) in
      let fit : MayFit Valued (Pointer size) x = subst (MayFit Valued (Pointer size)) (sym h.result) tt in
      leads_as g a ls 2560 2560 u (HasWord g a m UInt c w b u k) (IsGiven g a m (Pointer size) c w b u x) (omega arith)
      (λ y d. record { kept = d.kept; result = pointer_result size w x y fit (subst (ValueIs w 65536 x) (sym d.word) value); left = d.left }) lead

  -- an int
  pub number_given : (z : ℤ) (x : Value) (ls : List Line) → x ≡ Whole z → Leads g a ls 2560 u (HasWord g a m UInt c w b u (residue 65536 z)) → Leads g a ls 2560 u (IsGiven g a m (Number Int) c w b u x)
  number_given z x ls is lead =
      leads_as g a ls 2560 2560 u (HasWord g a m UInt c w b u (residue 65536 z)) (IsGiven g a m (Number Int) c w b u x) (omega arith)
      (λ y d. record { kept = d.kept; result = subst (λ v. ResultIs Valued w Ax v y) (sym is) d.word; left = d.left }) lead

-- a number of elements of one byte, as one of bytes
pub one_byte : (z : ℤ) (size : ℕ) → told size ≡ 1 → residue 65536 z ≡ (residue 65536 z * told size) % 65536
one_byte z size e =
    let below : residue 65536 z < 65536 = residue_below 65536 z (omega arith) in
    let same : residue 65536 z ≡ (residue 65536 z * 1) % 65536 = omega (arith, below) in
    same ∙ ap (λ n. (residue 65536 z * n) % 65536) (sym e)
