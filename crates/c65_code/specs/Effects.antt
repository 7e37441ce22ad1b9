-- What each routine of the runtime reads and may change (docs/MACHINE.md, "Routines").
use Rattle.std.specs.Prelude.{[], ◌∷◌}
use Rattle.c65_code.specs.declared.parts.Part.TheVariants.{A, X, Y, N, V, Z, C}
use Rattle.c65_code.specs.declared.parts.RegSet.{RegSet}
use Rattle.c65_code.specs.declared.routine.Width.{Width}
use Rattle.c65_code.specs.declared.routine.Width.TheVariants.{Ax, Eax}
use Rattle.c65_base.specs.declared.library.Library.{Library}
use Rattle.c65_base.specs.declared.library.Library.TheVariants.{Getchar, Memcpy, Memset, Strcmp, Strcpy, Printf}
use Rattle.c65_code.specs.declared.routine.Routine.{Routine}
use Rattle.c65_code.specs.declared.routine.Routine.TheVariants as routines
use Rattle.c65_code.specs.Parts.{no_parts, all_parts, zero_bytes, union_of, minus_of, set_of}

-- the zero page (docs/MACHINE.md, "Zero page"): sp, sreg, regsave, ptr1 to ptr4, tmp1 to tmp4, regbank
abbrev pub sp_bytes : RegSet
sp_bytes = zero_bytes 0 2

abbrev pub sreg_bytes : RegSet
sreg_bytes = zero_bytes 2 4

abbrev pub pointer_bytes : RegSet
pointer_bytes = zero_bytes 8 12

abbrev pub ptr3_bytes : RegSet
ptr3_bytes = zero_bytes 12 14

abbrev pub ptr4_bytes : RegSet
ptr4_bytes = zero_bytes 14 16

-- tmp3 and tmp4
abbrev pub asked_bytes : RegSet
asked_bytes = zero_bytes 18 20

-- regsave, ptr1 to ptr4, and tmp1 to tmp4
abbrev pub scratch_bytes : RegSet
scratch_bytes = zero_bytes 4 20

abbrev pub bank_bytes : RegSet
bank_bytes = zero_bytes 20 26

abbrev pub zero_page : RegSet
zero_page = zero_bytes 0 26

abbrev pub only_a : RegSet
only_a = set_of (A ∷ [])

abbrev pub only_y : RegSet
only_y = set_of (Y ∷ [])

abbrev pub ax : RegSet
ax = set_of (A ∷ X ∷ [])

abbrev pub eax : RegSet
eax = union_of ax sreg_bytes

abbrev pub primary : Width → RegSet
primary Ax = ax
primary Eax = eax

-- what every routine may change: Y and the flags
abbrev pub small : RegSet
small = set_of (Y ∷ N ∷ V ∷ Z ∷ C ∷ [])

-- what the check of the stacks may change where it comes back: the flags and the scratch bytes
abbrev pub checks : RegSet
checks = union_of (set_of (N ∷ V ∷ Z ∷ C ∷ [])) scratch_bytes

-- what a routine of the second group may change
abbrev pub large : RegSet
large = union_of (union_of small eax) scratch_bytes

-- what a function may read at its call beside what is passed to it, and what it keeps
abbrev pub kept_at_calls : RegSet
kept_at_calls = union_of sp_bytes bank_bytes

abbrev pub library_reads : Library → RegSet
library_reads Getchar = no_parts
library_reads Memcpy = union_of ax sp_bytes
library_reads Memset = union_of ax sp_bytes
library_reads Strcmp = union_of ax sp_bytes
library_reads Strcpy = union_of ax sp_bytes
-- Y tells how many bytes of arguments lie at the sp
library_reads Printf = union_of only_y sp_bytes
library_reads _ = ax

abbrev pub library_sets : Library → RegSet
library_sets Memcpy = union_of large sp_bytes
library_sets Memset = union_of large sp_bytes
library_sets Strcmp = union_of large sp_bytes
library_sets Strcpy = union_of large sp_bytes
library_sets Printf = union_of large sp_bytes
library_sets _ = large

abbrev pub routine_reads : Routine → RegSet
routine_reads routines.PushA = union_of only_a sp_bytes
routine_reads routines.PushAx = union_of ax sp_bytes
routine_reads routines.PushA0 = union_of only_a sp_bytes
routine_reads routines.Push0 = sp_bytes
routine_reads routines.PushEax = union_of eax sp_bytes
routine_reads routines.PopA = sp_bytes
routine_reads routines.PopAx = sp_bytes
routine_reads routines.PopEax = sp_bytes
routine_reads routines.PopPtrs = sp_bytes
routine_reads (routines.IncSp count) = sp_bytes
routine_reads (routines.DecSp count) = sp_bytes
routine_reads routines.AddYSp = union_of only_y sp_bytes
routine_reads routines.SubYSp = union_of only_y sp_bytes
routine_reads routines.LdAxYSp = union_of only_y sp_bytes
routine_reads routines.LdAx0Sp = sp_bytes
routine_reads routines.LdEaxYSp = union_of only_y sp_bytes
routine_reads routines.StAxYSp = union_of (union_of ax only_y) sp_bytes
routine_reads routines.StAx0Sp = union_of ax sp_bytes
routine_reads routines.StEaxYSp = union_of (union_of eax only_y) sp_bytes
routine_reads routines.LdAi = ax
routine_reads routines.LdAxi = ax
routine_reads routines.LdEaxi = ax
routine_reads routines.StATos = union_of only_a sp_bytes
routine_reads routines.StAxTos = union_of ax sp_bytes
routine_reads routines.StEaxTos = union_of eax sp_bytes
routine_reads routines.CopyTos = union_of (union_of ax ptr3_bytes) sp_bytes
routine_reads (routines.Tos op width) = union_of (primary width) sp_bytes
routine_reads (routines.Unary op width) = primary width
routine_reads routines.SignA = only_a
routine_reads routines.LongAx = ax
routine_reads routines.ULongAx = ax
routine_reads routines.SaveRegs = union_of (union_of eax sp_bytes) bank_bytes
routine_reads routines.RestRegs = union_of eax sp_bytes
-- what the callee reads is not known
routine_reads routines.CallPtr4 = minus_of all_parts (set_of (N ∷ V ∷ Z ∷ C ∷ []))
routine_reads routines.StkChk = union_of asked_bytes sp_bytes
routine_reads routines.Start = no_parts
routine_reads routines.StartArgs = no_parts
routine_reads (routines.Library function) = library_reads function
routine_reads routines.HookOpen = union_of only_y sp_bytes
routine_reads routines.HookClose = no_parts
routine_reads routines.HookRead = union_of ax sp_bytes
routine_reads routines.HookWrite = union_of ax sp_bytes
routine_reads routines.HookArgs = union_of ax sp_bytes
routine_reads routines.HookExit = only_a

abbrev pub routine_sets : Routine → RegSet
routine_sets routines.PushA = union_of small sp_bytes
routine_sets routines.PushAx = union_of small sp_bytes
routine_sets routines.PushA0 = union_of (union_of small sp_bytes) (set_of (X ∷ []))
routine_sets routines.Push0 = union_of (union_of small sp_bytes) ax
routine_sets routines.PushEax = union_of small sp_bytes
routine_sets routines.PopA = union_of (union_of small sp_bytes) only_a
routine_sets routines.PopAx = union_of (union_of small sp_bytes) ax
routine_sets routines.PopEax = union_of (union_of small sp_bytes) eax
routine_sets routines.PopPtrs = union_of (union_of (union_of small sp_bytes) only_a) pointer_bytes
routine_sets (routines.IncSp count) = union_of small sp_bytes
routine_sets (routines.DecSp count) = union_of small sp_bytes
routine_sets routines.AddYSp = union_of small sp_bytes
routine_sets routines.SubYSp = union_of small sp_bytes
routine_sets routines.LdAxYSp = union_of small ax
routine_sets routines.LdAx0Sp = union_of small ax
routine_sets routines.LdEaxYSp = union_of small eax
routine_sets routines.StAxYSp = small
routine_sets routines.StAx0Sp = small
routine_sets routines.StEaxYSp = small
routine_sets routines.LdAi = large
routine_sets routines.LdAxi = large
routine_sets routines.LdEaxi = large
routine_sets routines.StATos = minus_of (union_of large sp_bytes) only_a
routine_sets routines.StAxTos = minus_of (union_of large sp_bytes) ax
routine_sets routines.StEaxTos = minus_of (union_of large sp_bytes) eax
routine_sets routines.CopyTos = union_of large sp_bytes
routine_sets (routines.Tos op width) = union_of large sp_bytes
routine_sets (routines.Unary op width) = large
routine_sets routines.SignA = large
routine_sets routines.LongAx = minus_of large ax
routine_sets routines.ULongAx = minus_of large ax
routine_sets routines.SaveRegs = minus_of (union_of large sp_bytes) eax
routine_sets routines.RestRegs = union_of (minus_of (union_of large sp_bytes) eax) bank_bytes
routine_sets routines.CallPtr4 = minus_of all_parts kept_at_calls
routine_sets routines.StkChk = checks
routine_sets routines.Start = union_of large sp_bytes
routine_sets routines.StartArgs = union_of large sp_bytes
routine_sets (routines.Library function) = library_sets function
routine_sets routines.HookOpen = union_of ax sp_bytes
routine_sets routines.HookClose = ax
routine_sets routines.HookRead = union_of ax sp_bytes
routine_sets routines.HookWrite = union_of ax sp_bytes
routine_sets routines.HookArgs = union_of ax sp_bytes
routine_sets routines.HookExit = no_parts
