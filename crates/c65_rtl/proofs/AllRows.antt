-- The law, from each routine's own.
use Rattle.std.proofs.Common.{◌≡◌, IsTrue, false, Some, None, refl}
use Rattle.std.specs.Prelude.{bit_and, bit_or, bit_xor}
use Rattle.c65_mach.specs.declared.rows.Op.TheVariants as ops
use Rattle.c65_code.specs.declared.routine.Routine.TheVariants as routines
use Rattle.c65_code.specs.declared.routine.TosOp.{TosOp}
use Rattle.c65_code.specs.declared.routine.TosOp.TheVariants as tos
use Rattle.c65_code.specs.declared.routine.Width.TheVariants.{Ax, Eax}
use Rattle.c65_code.specs.Rows.{Row}
use Rattle.c65_code.specs.RawMachine.{RawSetting, MeetsRow}
use Rattle.c65_rtl.specs.Routines.{lines_of}
use Rattle.c65_rtl.specs.Rows.{is_shown, RowsAreMet}
use Rattle.c65_rtl.proofs.Pushes.{pusha, pushax, pusha0, push0}
use Rattle.c65_rtl.proofs.SpMoves.{incsp, decsp, addysp, subysp}
use Rattle.c65_rtl.proofs.Loads.{ldaxysp, ldax0sp, popax, popa}
use Rattle.c65_rtl.proofs.Stores.{staxysp, stax0sp, steaxysp}
use Rattle.c65_rtl.proofs.Longs.{pusheax, ldeaxysp, popeax, popptrs}
use Rattle.c65_rtl.proofs.Widenings.{signa, longax, ulongax}
use Rattle.c65_rtl.proofs.ThroughPointers.{ldai, ldaxi, ldeaxi}
use Rattle.c65_rtl.proofs.ToMemory.{statos, staxtos, steaxtos, saveregs, restregs}
use Rattle.c65_rtl.proofs.UnaryRows.{unary}
use Rattle.c65_rtl.proofs.Bits.{and_bits, or_bits, xor_bits}
use Rattle.c65_rtl.proofs.ArithmeticRows.{add, sub, bitwise}
use Rattle.c65_rtl.proofs.OrderRows.{eq, ne, lt, le, gt, ge, ult, ule, ugt, uge}
use Rattle.c65_rtl.proofs.ShiftRows.{shl, shr, asr}

none_shown : IsTrue false → ⊥
none_shown h = cc

no_row : (row : Row) → None ≡ Some row → ⊥
no_row row e = cc

operator_of_words : (s : RawSetting) (op : TosOp) → IsTrue (is_shown (routines.Tos op Ax)) → s.lines (s.routine (routines.Tos op Ax)) ≡ lines_of (routines.Tos op Ax) → MeetsRow s (routines.Tos op Ax)
operator_of_words s tos.Add shown has = add s Ax refl has
operator_of_words s tos.Sub shown has = sub s Ax refl has
operator_of_words s tos.And shown has = bitwise s tos.And ops.And bit_and and_bits Ax (refl, λ a b. refl) refl refl refl has
operator_of_words s tos.Or shown has = bitwise s tos.Or ops.Ora bit_or or_bits Ax (refl, λ a b. refl) refl refl refl has
operator_of_words s tos.Xor shown has = bitwise s tos.Xor ops.Eor bit_xor xor_bits Ax (refl, λ a b. refl) refl refl refl has
operator_of_words s tos.Eq shown has = eq s Ax refl has
operator_of_words s tos.Ne shown has = ne s Ax refl has
operator_of_words s tos.Lt shown has = lt s Ax refl has
operator_of_words s tos.Le shown has = le s Ax refl has
operator_of_words s tos.Gt shown has = gt s Ax refl has
operator_of_words s tos.Ge shown has = ge s Ax refl has
operator_of_words s tos.ULt shown has = ult s Ax refl has
operator_of_words s tos.ULe shown has = ule s Ax refl has
operator_of_words s tos.UGt shown has = ugt s Ax refl has
operator_of_words s tos.UGe shown has = uge s Ax refl has
operator_of_words s tos.Mul shown has = absurd (none_shown shown)
operator_of_words s tos.Div shown has = absurd (none_shown shown)
operator_of_words s tos.Mod shown has = absurd (none_shown shown)
operator_of_words s tos.UDiv shown has = absurd (none_shown shown)
operator_of_words s tos.UMod shown has = absurd (none_shown shown)
operator_of_words s tos.Shl shown has = shl s Ax has
operator_of_words s tos.Shr shown has = shr s Ax has
operator_of_words s tos.Asr shown has = asr s Ax has

operator_of_longs : (s : RawSetting) (op : TosOp) → IsTrue (is_shown (routines.Tos op Eax)) → s.lines (s.routine (routines.Tos op Eax)) ≡ lines_of (routines.Tos op Eax) → MeetsRow s (routines.Tos op Eax)
operator_of_longs s tos.Add shown has = add s Eax refl has
operator_of_longs s tos.Sub shown has = sub s Eax refl has
operator_of_longs s tos.And shown has = bitwise s tos.And ops.And bit_and and_bits Eax (refl, λ a b. refl) refl refl refl has
operator_of_longs s tos.Or shown has = bitwise s tos.Or ops.Ora bit_or or_bits Eax (refl, λ a b. refl) refl refl refl has
operator_of_longs s tos.Xor shown has = bitwise s tos.Xor ops.Eor bit_xor xor_bits Eax (refl, λ a b. refl) refl refl refl has
operator_of_longs s tos.Eq shown has = eq s Eax refl has
operator_of_longs s tos.Ne shown has = ne s Eax refl has
operator_of_longs s tos.Lt shown has = lt s Eax refl has
operator_of_longs s tos.Le shown has = le s Eax refl has
operator_of_longs s tos.Gt shown has = gt s Eax refl has
operator_of_longs s tos.Ge shown has = ge s Eax refl has
operator_of_longs s tos.ULt shown has = ult s Eax refl has
operator_of_longs s tos.ULe shown has = ule s Eax refl has
operator_of_longs s tos.UGt shown has = ugt s Eax refl has
operator_of_longs s tos.UGe shown has = uge s Eax refl has
operator_of_longs s tos.Mul shown has = absurd (none_shown shown)
operator_of_longs s tos.Div shown has = absurd (none_shown shown)
operator_of_longs s tos.Mod shown has = absurd (none_shown shown)
operator_of_longs s tos.UDiv shown has = absurd (none_shown shown)
operator_of_longs s tos.UMod shown has = absurd (none_shown shown)
operator_of_longs s tos.Shl shown has = shl s Eax has
operator_of_longs s tos.Shr shown has = shr s Eax has
operator_of_longs s tos.Asr shown has = asr s Eax has

pub rows_are_met : RowsAreMet
rows_are_met s routines.PushA shown has = pusha s has
rows_are_met s routines.PushAx shown has = pushax s has
rows_are_met s routines.PushA0 shown has = pusha0 s has
rows_are_met s routines.Push0 shown has = push0 s has
rows_are_met s routines.PushEax shown has = pusheax s has
rows_are_met s routines.PopA shown has = popa s has
rows_are_met s routines.PopAx shown has = popax s has
rows_are_met s routines.PopEax shown has = popeax s has
rows_are_met s routines.PopPtrs shown has = popptrs s has
rows_are_met s routines.AddYSp shown has = addysp s has
rows_are_met s routines.SubYSp shown has = subysp s has
rows_are_met s routines.LdAxYSp shown has = ldaxysp s has
rows_are_met s routines.LdAx0Sp shown has = ldax0sp s has
rows_are_met s routines.LdEaxYSp shown has = ldeaxysp s has
rows_are_met s routines.StAxYSp shown has = staxysp s has
rows_are_met s routines.StAx0Sp shown has = stax0sp s has
rows_are_met s routines.StEaxYSp shown has = steaxysp s has
rows_are_met s routines.LdAi shown has = ldai s has
rows_are_met s routines.LdAxi shown has = ldaxi s has
rows_are_met s routines.LdEaxi shown has = ldeaxi s has
rows_are_met s routines.StATos shown has = statos s has
rows_are_met s routines.StAxTos shown has = staxtos s has
rows_are_met s routines.StEaxTos shown has = steaxtos s has
rows_are_met s routines.SaveRegs shown has = saveregs s has
rows_are_met s routines.RestRegs shown has = restregs s has
rows_are_met s routines.SignA shown has = signa s has
rows_are_met s routines.LongAx shown has = longax s has
rows_are_met s routines.ULongAx shown has = ulongax s has
rows_are_met s (routines.IncSp count) shown has = incsp s count has
rows_are_met s (routines.DecSp count) shown has = decsp s count has
rows_are_met s (routines.Unary op Ax) shown has = unary s op Ax has
rows_are_met s (routines.Unary op Eax) shown has = unary s op Eax has
rows_are_met s (routines.Tos op Ax) shown has = operator_of_words s op shown has
rows_are_met s (routines.Tos op Eax) shown has = operator_of_longs s op shown has
rows_are_met s routines.CallPtr4 shown has = λ row back t e may. absurd (no_row row e)
rows_are_met s _ shown has = absurd (none_shown shown)
