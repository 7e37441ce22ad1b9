-- The law, from each routine's own.
use Rattle.std.proofs.Common.{◌≡◌, IsTrue, Some, None, refl}
use Rattle.c65_base.specs.declared.library.Library.{Library}
use Rattle.c65_base.specs.declared.library.Library.TheVariants.{Putchar, Getchar, Puts, Exit, Memcpy, Memset, Strcmp, Strcpy, Strlen, Printf}
use Rattle.c65_code.specs.declared.routine.Count.TheVariants.{One, Four}
use Rattle.c65_code.specs.declared.routine.Routine.{Routine}
use Rattle.c65_code.specs.declared.routine.Routine.TheVariants as routines
use Rattle.c65_code.specs.declared.routine.TosOp.{TosOp}
use Rattle.c65_code.specs.declared.routine.TosOp.TheVariants as tos
use Rattle.c65_code.specs.declared.routine.UnaryRoutine.TheVariants.{Neg}
use Rattle.c65_code.specs.declared.routine.Width.TheVariants.{Ax, Eax}
use Rattle.c65_code.specs.Rows.{Row}
use Rattle.c65_code.specs.RawMachine.{RawSetting, MeetsRow}
use Rattle.c65_rtl.proofs.AllRows.{rows_are_met}
use Rattle.c65_rtl_law_stack.proofs.Check.{stkchk}
use Rattle.c65_rtl_law_strings.proofs.StringLength.{strlen}
use Rattle.c65_rtl_law_strings.proofs.Strcmp.{strcmp}
use Rattle.c65_rtl_law_copies.proofs.Copytos.{copytos}
use Rattle.c65_rtl_law_copies.proofs.Memcpy.{memcpy}
use Rattle.c65_rtl_law_copies.proofs.Memset.{memset}
use Rattle.c65_rtl_law_copies.proofs.Strcpy.{strcpy}
use Rattle.c65_rtl_law_hooks.proofs.Exit.{exit}
use Rattle.c65_rtl_law_products.proofs.Product.{tosmulax}
use Rattle.c65_rtl_law_quotients.proofs.Unsigned.{tosudivax, tosumodax}
use Rattle.c65_rtl_law_quotients.proofs.Signed.{tosdivax, tosmodax}
use Rattle.c65_rtl_law_wide.proofs.Product.{tosmuleax}
use Rattle.c65_rtl_law_wide.proofs.Unsigned.{tosudiveax, tosumodeax}
use Rattle.c65_rtl_law_wide.proofs.Signed.{tosdiveax, tosmodeax}
use Rattle.c65_rtl_law_library.proofs.Putchar.{putchar}
use Rattle.c65_rtl_law_library.proofs.Getchar.{getchar}
use Rattle.c65_rtl_law_library.proofs.Puts.{puts}
use Rattle.c65_rtl_law_printf_row.proofs.Row.{formats_are_written}
use Rattle.c65_rtl_law_runtime.specs.Runtime.{has_lines, Stands, CalledStand, itself, through, RuntimeIsMet, RoutinesAreMet}

no_row : (row : Row) → None ≡ Some row → ⊥
no_row row e = cc

-- the routine's own lines stand under its number, where it has some
abbrev Own : RawSetting → Routine → Type 0
Own s r = IsTrue (has_lines r) → Stands s r

operator_of_words : (s : RawSetting) (op : TosOp) → Own s (routines.Tos op Ax) → CalledStand s (routines.Tos op Ax) → MeetsRow s (routines.Tos op Ax)
operator_of_words s tos.Add own inner = rows_are_met s (routines.Tos tos.Add Ax) refl (own refl)
operator_of_words s tos.Sub own inner = rows_are_met s (routines.Tos tos.Sub Ax) refl (own refl)
operator_of_words s tos.And own inner = rows_are_met s (routines.Tos tos.And Ax) refl (own refl)
operator_of_words s tos.Or own inner = rows_are_met s (routines.Tos tos.Or Ax) refl (own refl)
operator_of_words s tos.Xor own inner = rows_are_met s (routines.Tos tos.Xor Ax) refl (own refl)
operator_of_words s tos.Shl own inner = rows_are_met s (routines.Tos tos.Shl Ax) refl (own refl)
operator_of_words s tos.Shr own inner = rows_are_met s (routines.Tos tos.Shr Ax) refl (own refl)
operator_of_words s tos.Asr own inner = rows_are_met s (routines.Tos tos.Asr Ax) refl (own refl)
operator_of_words s tos.Eq own inner = rows_are_met s (routines.Tos tos.Eq Ax) refl (own refl)
operator_of_words s tos.Ne own inner = rows_are_met s (routines.Tos tos.Ne Ax) refl (own refl)
operator_of_words s tos.Lt own inner = rows_are_met s (routines.Tos tos.Lt Ax) refl (own refl)
operator_of_words s tos.Le own inner = rows_are_met s (routines.Tos tos.Le Ax) refl (own refl)
operator_of_words s tos.Gt own inner = rows_are_met s (routines.Tos tos.Gt Ax) refl (own refl)
operator_of_words s tos.Ge own inner = rows_are_met s (routines.Tos tos.Ge Ax) refl (own refl)
operator_of_words s tos.ULt own inner = rows_are_met s (routines.Tos tos.ULt Ax) refl (own refl)
operator_of_words s tos.ULe own inner = rows_are_met s (routines.Tos tos.ULe Ax) refl (own refl)
operator_of_words s tos.UGt own inner = rows_are_met s (routines.Tos tos.UGt Ax) refl (own refl)
operator_of_words s tos.UGe own inner = rows_are_met s (routines.Tos tos.UGe Ax) refl (own refl)
operator_of_words s tos.Mul own inner = tosmulax s (own refl) (inner routines.PopAx (itself refl) refl)
operator_of_words s tos.Div own inner = tosdivax s (own refl) (inner (routines.Tos tos.Mod Ax) (itself refl) refl) (inner routines.PopAx (through (routines.Tos tos.Mod Ax) refl (itself refl)) refl)
operator_of_words s tos.Mod own inner = tosmodax s (own refl) (inner routines.PopAx (itself refl) refl)
operator_of_words s tos.UDiv own inner = tosudivax s (own refl) (inner (routines.Tos tos.UMod Ax) (itself refl) refl) (inner routines.PopAx (through (routines.Tos tos.UMod Ax) refl (itself refl)) refl)
operator_of_words s tos.UMod own inner = tosumodax s (own refl) (inner routines.PopAx (itself refl) refl)

operator_of_longs : (s : RawSetting) (op : TosOp) → Own s (routines.Tos op Eax) → CalledStand s (routines.Tos op Eax) → MeetsRow s (routines.Tos op Eax)
operator_of_longs s tos.Add own inner = rows_are_met s (routines.Tos tos.Add Eax) refl (own refl)
operator_of_longs s tos.Sub own inner = rows_are_met s (routines.Tos tos.Sub Eax) refl (own refl)
operator_of_longs s tos.And own inner = rows_are_met s (routines.Tos tos.And Eax) refl (own refl)
operator_of_longs s tos.Or own inner = rows_are_met s (routines.Tos tos.Or Eax) refl (own refl)
operator_of_longs s tos.Xor own inner = rows_are_met s (routines.Tos tos.Xor Eax) refl (own refl)
operator_of_longs s tos.Shl own inner = rows_are_met s (routines.Tos tos.Shl Eax) refl (own refl)
operator_of_longs s tos.Shr own inner = rows_are_met s (routines.Tos tos.Shr Eax) refl (own refl)
operator_of_longs s tos.Asr own inner = rows_are_met s (routines.Tos tos.Asr Eax) refl (own refl)
operator_of_longs s tos.Eq own inner = rows_are_met s (routines.Tos tos.Eq Eax) refl (own refl)
operator_of_longs s tos.Ne own inner = rows_are_met s (routines.Tos tos.Ne Eax) refl (own refl)
operator_of_longs s tos.Lt own inner = rows_are_met s (routines.Tos tos.Lt Eax) refl (own refl)
operator_of_longs s tos.Le own inner = rows_are_met s (routines.Tos tos.Le Eax) refl (own refl)
operator_of_longs s tos.Gt own inner = rows_are_met s (routines.Tos tos.Gt Eax) refl (own refl)
operator_of_longs s tos.Ge own inner = rows_are_met s (routines.Tos tos.Ge Eax) refl (own refl)
operator_of_longs s tos.ULt own inner = rows_are_met s (routines.Tos tos.ULt Eax) refl (own refl)
operator_of_longs s tos.ULe own inner = rows_are_met s (routines.Tos tos.ULe Eax) refl (own refl)
operator_of_longs s tos.UGt own inner = rows_are_met s (routines.Tos tos.UGt Eax) refl (own refl)
operator_of_longs s tos.UGe own inner = rows_are_met s (routines.Tos tos.UGe Eax) refl (own refl)
operator_of_longs s tos.Mul own inner = tosmuleax s (own refl) (inner routines.PopEax (itself refl) refl)
operator_of_longs s tos.Div own inner = tosdiveax s (own refl) (inner (routines.Tos tos.Mod Eax) (itself refl) refl) (inner routines.PopEax (through (routines.Tos tos.Mod Eax) refl (itself refl)) refl) (inner (routines.Unary Neg Eax) (itself refl) refl)
operator_of_longs s tos.Mod own inner = tosmodeax s (own refl) (inner routines.PopEax (itself refl) refl) (inner (routines.Unary Neg Eax) (itself refl) refl)
operator_of_longs s tos.UDiv own inner = tosudiveax s (own refl) (inner (routines.Tos tos.UMod Eax) (itself refl) refl) (inner routines.PopEax (through (routines.Tos tos.UMod Eax) refl (itself refl)) refl)
operator_of_longs s tos.UMod own inner = tosumodeax s (own refl) (inner routines.PopEax (itself refl) refl)

library_function : (s : RawSetting) (f : Library) → Own s (routines.Library f) → CalledStand s (routines.Library f) → MeetsRow s (routines.Library f)
library_function s Putchar own inner = putchar s (own refl) (inner routines.PushAx (itself refl) refl) (inner routines.PopAx (itself refl) refl)
library_function s Getchar own inner = getchar s (own refl) (inner routines.PushA (itself refl) refl) (inner routines.Push0 (itself refl) refl) (inner routines.PushAx (itself refl) refl) (inner routines.PopA (itself refl) refl) (inner (routines.IncSp One) (itself refl) refl)
library_function s Puts own inner = puts s (own refl) (inner routines.PushAx (itself refl) refl) (inner (routines.Library Strlen) (itself refl) refl) (inner routines.LdAxYSp (itself refl) refl) (inner (routines.IncSp Four) (itself refl) refl) (inner (routines.Library Putchar) (itself refl) refl) (inner routines.PopAx (through (routines.Library Putchar) refl (itself refl)) refl)
library_function s Exit own inner = exit s (own refl)
library_function s Memcpy own inner = memcpy s (own refl)
library_function s Memset own inner = memset s (own refl)
library_function s Strcmp own inner = strcmp s (own refl)
library_function s Strcpy own inner = strcpy s (own refl)
library_function s Strlen own inner = strlen s (own refl)
library_function s Printf own inner = formats_are_written s (record { stand = record { printf = own refl; push = inner routines.PushAx (itself refl) refl; add = inner routines.AddYSp (itself refl) refl }; byte = inner routines.PushA (itself refl) refl; raise = inner (routines.IncSp One) (itself refl) refl })

routine_is_met : (s : RawSetting) (r : Routine) → Own s r → CalledStand s r → MeetsRow s r
routine_is_met s (routines.Tos op Ax) own inner = operator_of_words s op own inner
routine_is_met s (routines.Tos op Eax) own inner = operator_of_longs s op own inner
routine_is_met s (routines.Library f) own inner = library_function s f own inner
routine_is_met s routines.CopyTos own inner = copytos s (own refl)
routine_is_met s routines.StkChk own inner = stkchk s (own refl)
routine_is_met s routines.PushA own inner = rows_are_met s routines.PushA refl (own refl)
routine_is_met s routines.PushAx own inner = rows_are_met s routines.PushAx refl (own refl)
routine_is_met s routines.PushA0 own inner = rows_are_met s routines.PushA0 refl (own refl)
routine_is_met s routines.Push0 own inner = rows_are_met s routines.Push0 refl (own refl)
routine_is_met s routines.PushEax own inner = rows_are_met s routines.PushEax refl (own refl)
routine_is_met s routines.PopA own inner = rows_are_met s routines.PopA refl (own refl)
routine_is_met s routines.PopAx own inner = rows_are_met s routines.PopAx refl (own refl)
routine_is_met s routines.PopEax own inner = rows_are_met s routines.PopEax refl (own refl)
routine_is_met s routines.PopPtrs own inner = rows_are_met s routines.PopPtrs refl (own refl)
routine_is_met s routines.AddYSp own inner = rows_are_met s routines.AddYSp refl (own refl)
routine_is_met s routines.SubYSp own inner = rows_are_met s routines.SubYSp refl (own refl)
routine_is_met s routines.LdAxYSp own inner = rows_are_met s routines.LdAxYSp refl (own refl)
routine_is_met s routines.LdAx0Sp own inner = rows_are_met s routines.LdAx0Sp refl (own refl)
routine_is_met s routines.LdEaxYSp own inner = rows_are_met s routines.LdEaxYSp refl (own refl)
routine_is_met s routines.StAxYSp own inner = rows_are_met s routines.StAxYSp refl (own refl)
routine_is_met s routines.StAx0Sp own inner = rows_are_met s routines.StAx0Sp refl (own refl)
routine_is_met s routines.StEaxYSp own inner = rows_are_met s routines.StEaxYSp refl (own refl)
routine_is_met s routines.LdAi own inner = rows_are_met s routines.LdAi refl (own refl)
routine_is_met s routines.LdAxi own inner = rows_are_met s routines.LdAxi refl (own refl)
routine_is_met s routines.LdEaxi own inner = rows_are_met s routines.LdEaxi refl (own refl)
routine_is_met s routines.StATos own inner = rows_are_met s routines.StATos refl (own refl)
routine_is_met s routines.StAxTos own inner = rows_are_met s routines.StAxTos refl (own refl)
routine_is_met s routines.StEaxTos own inner = rows_are_met s routines.StEaxTos refl (own refl)
routine_is_met s routines.SaveRegs own inner = rows_are_met s routines.SaveRegs refl (own refl)
routine_is_met s routines.RestRegs own inner = rows_are_met s routines.RestRegs refl (own refl)
routine_is_met s routines.SignA own inner = rows_are_met s routines.SignA refl (own refl)
routine_is_met s routines.LongAx own inner = rows_are_met s routines.LongAx refl (own refl)
routine_is_met s routines.ULongAx own inner = rows_are_met s routines.ULongAx refl (own refl)
routine_is_met s (routines.IncSp count) own inner = rows_are_met s (routines.IncSp count) refl (own refl)
routine_is_met s (routines.DecSp count) own inner = rows_are_met s (routines.DecSp count) refl (own refl)
routine_is_met s (routines.Unary op Ax) own inner = rows_are_met s (routines.Unary op Ax) refl (own refl)
routine_is_met s (routines.Unary op Eax) own inner = rows_are_met s (routines.Unary op Eax) refl (own refl)
routine_is_met s routines.CallPtr4 own inner = λ row back t e may. absurd (no_row row e)
routine_is_met s routines.Start own inner = λ row back t e may. absurd (no_row row e)
routine_is_met s routines.StartArgs own inner = λ row back t e may. absurd (no_row row e)
routine_is_met s routines.HookOpen own inner = λ row back t e may. absurd (no_row row e)
routine_is_met s routines.HookClose own inner = λ row back t e may. absurd (no_row row e)
routine_is_met s routines.HookRead own inner = λ row back t e may. absurd (no_row row e)
routine_is_met s routines.HookWrite own inner = λ row back t e may. absurd (no_row row e)
routine_is_met s routines.HookArgs own inner = λ row back t e may. absurd (no_row row e)
routine_is_met s routines.HookExit own inner = λ row back t e may. absurd (no_row row e)

pub routines_are_met : RoutinesAreMet
routines_are_met s which lines own inner = routine_is_met s which (λ e. own) inner

pub runtime_is_met : RuntimeIsMet
runtime_is_met s has = record { meets = λ r. routine_is_met s r (has r) (λ q calls lines. has q lines) }
