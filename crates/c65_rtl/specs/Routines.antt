-- The lines of each routine (docs/MACHINE.md, "Routines"), and what it gives.
use Rattle.std.specs.Prelude.{List, [], ◌∷◌, Bool, true, false}
use Rattle.c65_code.specs.declared.line.Line.{Line}
use Rattle.c65_code.specs.declared.parts.Part.TheVariants.{X}
use Rattle.c65_code.specs.declared.parts.RegSet.{RegSet}
use Rattle.c65_code.specs.declared.routine.Routine.{Routine}
use Rattle.c65_code.specs.declared.routine.Routine.TheVariants as routines
use Rattle.c65_code.specs.declared.routine.TosOp.{TosOp}
use Rattle.c65_code.specs.declared.routine.TosOp.TheVariants as tos
use Rattle.c65_code.specs.declared.routine.UnaryRoutine.{UnaryRoutine}
use Rattle.c65_code.specs.declared.routine.UnaryRoutine.TheVariants.{Neg, Compl, Shl1, Shr1, Asr1, BNeg}
use Rattle.c65_base.specs.declared.library.Library.{Library}
use Rattle.c65_base.specs.declared.library.Library.TheVariants.{Exit, Printf}
use Rattle.c65_code.specs.declared.routine.Width.{Width}
use Rattle.c65_code.specs.declared.routine.Width.TheVariants.{Ax, Eax}
use Rattle.c65_code.specs.Parts.{no_parts, all_parts, union_of, minus_of, set_of}
use Rattle.c65_code.specs.Effects.{only_a, ax, eax, primary, sreg_bytes, pointer_bytes, bank_bytes, routine_sets}
use Rattle.c65_rtl.specs.Assembly.{with_all}
use Rattle.c65_rtl.specs.Stack.{raise_pieces, lower_pieces, push_pieces, pop_pieces, load_pieces, store_pieces}
use Rattle.c65_rtl.specs.Memory.{from_pieces, to_pieces, bank_pieces}
use Rattle.c65_rtl.specs.Operators.{arithmetic_pieces, division_pieces}
use Rattle.c65_rtl.specs.Orders.{order_pieces}
use Rattle.c65_rtl.specs.Shifts.{shift_pieces}
use Rattle.c65_rtl.specs.Unary.{word_pieces, long_pieces, widening_pieces}
use Rattle.c65_rtl.specs.Library.{start_pieces, library_pieces}
use Rattle.c65_rtl.specs.Check.{check_pieces}

-- the hooks are no segments, and the multiplication and the divisions of 32 bits and `printf` are apart
abbrev pub is_narrow : Routine → Bool
is_narrow (routines.Tos tos.Mul Eax) = false
is_narrow (routines.Tos tos.Div Eax) = false
is_narrow (routines.Tos tos.Mod Eax) = false
is_narrow (routines.Tos tos.UDiv Eax) = false
is_narrow (routines.Tos tos.UMod Eax) = false
is_narrow (routines.Library Printf) = false
is_narrow routines.HookOpen = false
is_narrow routines.HookClose = false
is_narrow routines.HookRead = false
is_narrow routines.HookWrite = false
is_narrow routines.HookArgs = false
is_narrow routines.HookExit = false
is_narrow _ = true

abbrev pub tos_pieces : TosOp → Width → List (List Line)
tos_pieces tos.Add width = arithmetic_pieces tos.Add width
tos_pieces tos.Sub width = arithmetic_pieces tos.Sub width
tos_pieces tos.Mul width = arithmetic_pieces tos.Mul width
tos_pieces tos.And width = arithmetic_pieces tos.And width
tos_pieces tos.Or width = arithmetic_pieces tos.Or width
tos_pieces tos.Xor width = arithmetic_pieces tos.Xor width
tos_pieces tos.Div width = division_pieces tos.Div
tos_pieces tos.Mod width = division_pieces tos.Mod
tos_pieces tos.UDiv width = division_pieces tos.UDiv
tos_pieces tos.UMod width = division_pieces tos.UMod
tos_pieces tos.Shl width = shift_pieces tos.Shl width
tos_pieces tos.Shr width = shift_pieces tos.Shr width
tos_pieces tos.Asr width = shift_pieces tos.Asr width
tos_pieces tos.Eq width = order_pieces tos.Eq width
tos_pieces tos.Ne width = order_pieces tos.Ne width
tos_pieces tos.Lt width = order_pieces tos.Lt width
tos_pieces tos.Le width = order_pieces tos.Le width
tos_pieces tos.Gt width = order_pieces tos.Gt width
tos_pieces tos.Ge width = order_pieces tos.Ge width
tos_pieces tos.ULt width = order_pieces tos.ULt width
tos_pieces tos.ULe width = order_pieces tos.ULe width
tos_pieces tos.UGt width = order_pieces tos.UGt width
tos_pieces tos.UGe width = order_pieces tos.UGe width

abbrev pub stack_pieces : Routine → List (List Line)
stack_pieces routines.PushA = push_pieces routines.PushA
stack_pieces routines.PushAx = push_pieces routines.PushAx
stack_pieces routines.PushA0 = push_pieces routines.PushA0
stack_pieces routines.Push0 = push_pieces routines.Push0
stack_pieces routines.PushEax = push_pieces routines.PushEax
stack_pieces routines.PopA = pop_pieces routines.PopA
stack_pieces routines.PopAx = pop_pieces routines.PopAx
stack_pieces routines.PopEax = pop_pieces routines.PopEax
stack_pieces routines.PopPtrs = pop_pieces routines.PopPtrs
stack_pieces routines.AddYSp = pop_pieces routines.AddYSp
stack_pieces routines.SubYSp = pop_pieces routines.SubYSp
stack_pieces (routines.IncSp count) = raise_pieces count
stack_pieces (routines.DecSp count) = lower_pieces count
stack_pieces routines.LdAxYSp = load_pieces routines.LdAxYSp
stack_pieces routines.LdAx0Sp = load_pieces routines.LdAx0Sp
stack_pieces routines.LdEaxYSp = load_pieces routines.LdEaxYSp
stack_pieces routines.StAxYSp = store_pieces routines.StAxYSp
stack_pieces routines.StAx0Sp = store_pieces routines.StAx0Sp
stack_pieces routines.StEaxYSp = store_pieces routines.StEaxYSp
stack_pieces _ = []

abbrev pub pieces_of : Routine → List (List Line)
pieces_of routines.LdAi = from_pieces routines.LdAi
pieces_of routines.LdAxi = from_pieces routines.LdAxi
pieces_of routines.LdEaxi = from_pieces routines.LdEaxi
pieces_of routines.StATos = to_pieces routines.StATos
pieces_of routines.StAxTos = to_pieces routines.StAxTos
pieces_of routines.StEaxTos = to_pieces routines.StEaxTos
pieces_of routines.CopyTos = bank_pieces routines.CopyTos
pieces_of routines.SaveRegs = bank_pieces routines.SaveRegs
pieces_of routines.RestRegs = bank_pieces routines.RestRegs
pieces_of routines.CallPtr4 = bank_pieces routines.CallPtr4
pieces_of (routines.Tos op width) = tos_pieces op width
pieces_of (routines.Unary op Ax) = word_pieces op
pieces_of (routines.Unary op Eax) = long_pieces op
pieces_of routines.SignA = widening_pieces routines.SignA
pieces_of routines.LongAx = widening_pieces routines.LongAx
pieces_of routines.ULongAx = widening_pieces routines.ULongAx
pieces_of routines.Start = start_pieces routines.Start
pieces_of routines.StartArgs = start_pieces routines.StartArgs
pieces_of routines.StkChk = check_pieces
pieces_of (routines.Library function) = library_pieces function
pieces_of which = stack_pieces which

abbrev pub lines_of : Routine → List Line
lines_of which = with_all [] (pieces_of which)

-- the result of an operator: the orders give AX
abbrev pub tos_result : TosOp → Width → RegSet
tos_result tos.Add width = primary width
tos_result tos.Sub width = primary width
tos_result tos.Mul width = primary width
tos_result tos.And width = primary width
tos_result tos.Or width = primary width
tos_result tos.Xor width = primary width
tos_result tos.Div width = primary width
tos_result tos.Mod width = primary width
tos_result tos.UDiv width = primary width
tos_result tos.UMod width = primary width
tos_result tos.Shl width = primary width
tos_result tos.Shr width = primary width
tos_result tos.Asr width = primary width
tos_result _ width = ax

abbrev pub unary_result : UnaryRoutine → Width → RegSet
unary_result BNeg width = ax
unary_result Neg width = primary width
unary_result Compl width = primary width
unary_result Shl1 width = primary width
unary_result Shr1 width = primary width
unary_result Asr1 width = primary width

abbrev pub library_result : Library → RegSet
library_result Exit = no_parts
library_result _ = ax

abbrev pub result_of : Routine → RegSet
result_of routines.PopA = only_a
result_of routines.PushA0 = set_of (X ∷ [])
result_of routines.Push0 = ax
result_of routines.PopAx = ax
result_of routines.LdAxYSp = ax
result_of routines.LdAx0Sp = ax
result_of routines.PopEax = eax
result_of routines.LdEaxYSp = eax
result_of routines.PopPtrs = pointer_bytes
result_of routines.LdAi = ax
result_of routines.LdAxi = ax
result_of routines.LdEaxi = eax
result_of routines.CopyTos = ax
result_of (routines.Tos op width) = tos_result op width
result_of (routines.Unary op width) = unary_result op width
result_of routines.SignA = ax
result_of routines.LongAx = sreg_bytes
result_of routines.ULongAx = sreg_bytes
result_of routines.RestRegs = bank_bytes
result_of (routines.Library function) = library_result function
result_of _ = no_parts

-- its result, and what it does not change
abbrev pub given_by : Routine → RegSet
given_by which = union_of (minus_of all_parts (routine_sets which)) (result_of which)
