-- Each routine is found by its name.
use Rattle.std.proofs.Common.{◌≡◌, ℕ, Bool, true, false, List, [], ◌∷◌, Option, Some, None, IfSome, bytes_eq, cond, refl, sym, ◌∙◌, subst}
use Rattle.std.proofs.lemmas.Slice.Eq.{bytes_eq-Decides}
use Rattle.c65_code.specs.declared.routine.Count.{Count}
use Rattle.c65_code.specs.declared.routine.Count.TheVariants.{One, Two, Three, Four, Five, Six, Seven, Eight}
use Rattle.c65_code.specs.declared.routine.Width.{Width}
use Rattle.c65_code.specs.declared.routine.Width.TheVariants.{Ax, Eax}
use Rattle.c65_code.specs.declared.routine.TosOp.{TosOp}
use Rattle.c65_code.specs.declared.routine.TosOp.TheVariants as tos
use Rattle.c65_code.specs.declared.routine.UnaryRoutine.{UnaryRoutine}
use Rattle.c65_code.specs.declared.routine.UnaryRoutine.TheVariants.{Neg, Compl, Shl1, Shr1, Asr1, BNeg}
use Rattle.c65_base.specs.declared.library.Library.{Library}
use Rattle.c65_base.specs.declared.library.Library.TheVariants.{Putchar, Getchar, Puts, Exit, Memcpy, Memset, Strcmp, Strcpy, Strlen, Printf}
use Rattle.c65_code.specs.declared.routine.Routine.{Routine}
use Rattle.c65_code.specs.declared.routine.Routine.TheVariants as routines
use Rattle.c65_code.specs.Names.{name_of, found_in, routine_named}
use Rattle.c65_code.specs.declared.routine.TheConstants.Routine.{ALL}

own_raise : (x : Count) → routine_named (name_of (routines.IncSp x)) ≡ Some (routines.IncSp x)
own_raise One = refl
own_raise Two = refl
own_raise Three = refl
own_raise Four = refl
own_raise Five = refl
own_raise Six = refl
own_raise Seven = refl
own_raise Eight = refl

own_lower : (x : Count) → routine_named (name_of (routines.DecSp x)) ≡ Some (routines.DecSp x)
own_lower One = refl
own_lower Two = refl
own_lower Three = refl
own_lower Four = refl
own_lower Five = refl
own_lower Six = refl
own_lower Seven = refl
own_lower Eight = refl

own_word : (x : TosOp) → routine_named (name_of (routines.Tos x Ax)) ≡ Some (routines.Tos x Ax)
own_word tos.Add = refl
own_word tos.Sub = refl
own_word tos.Mul = refl
own_word tos.And = refl
own_word tos.Or = refl
own_word tos.Xor = refl
own_word tos.Div = refl
own_word tos.Mod = refl
own_word tos.UDiv = refl
own_word tos.UMod = refl
own_word tos.Shl = refl
own_word tos.Shr = refl
own_word tos.Asr = refl
own_word tos.Eq = refl
own_word tos.Ne = refl
own_word tos.Lt = refl
own_word tos.Le = refl
own_word tos.Gt = refl
own_word tos.Ge = refl
own_word tos.ULt = refl
own_word tos.ULe = refl
own_word tos.UGt = refl
own_word tos.UGe = refl

own_long : (x : TosOp) → routine_named (name_of (routines.Tos x Eax)) ≡ Some (routines.Tos x Eax)
own_long tos.Add = refl
own_long tos.Sub = refl
own_long tos.Mul = refl
own_long tos.And = refl
own_long tos.Or = refl
own_long tos.Xor = refl
own_long tos.Div = refl
own_long tos.Mod = refl
own_long tos.UDiv = refl
own_long tos.UMod = refl
own_long tos.Shl = refl
own_long tos.Shr = refl
own_long tos.Asr = refl
own_long tos.Eq = refl
own_long tos.Ne = refl
own_long tos.Lt = refl
own_long tos.Le = refl
own_long tos.Gt = refl
own_long tos.Ge = refl
own_long tos.ULt = refl
own_long tos.ULe = refl
own_long tos.UGt = refl
own_long tos.UGe = refl

own_unary : (x : UnaryRoutine) (w : Width) → routine_named (name_of (routines.Unary x w)) ≡ Some (routines.Unary x w)
own_unary Neg Ax = refl
own_unary Neg Eax = refl
own_unary Compl Ax = refl
own_unary Compl Eax = refl
own_unary Shl1 Ax = refl
own_unary Shl1 Eax = refl
own_unary Shr1 Ax = refl
own_unary Shr1 Eax = refl
own_unary Asr1 Ax = refl
own_unary Asr1 Eax = refl
own_unary BNeg Ax = refl
own_unary BNeg Eax = refl

own_library : (x : Library) → routine_named (name_of (routines.Library x)) ≡ Some (routines.Library x)
own_library Putchar = refl
own_library Getchar = refl
own_library Puts = refl
own_library Exit = refl
own_library Memcpy = refl
own_library Memset = refl
own_library Strcmp = refl
own_library Strcpy = refl
own_library Strlen = refl
own_library Printf = refl

pub own_name : (r : Routine) → routine_named (name_of r) ≡ Some r
own_name routines.PushA = refl
own_name routines.PushAx = refl
own_name routines.PushA0 = refl
own_name routines.Push0 = refl
own_name routines.PushEax = refl
own_name routines.PopA = refl
own_name routines.PopAx = refl
own_name routines.PopEax = refl
own_name routines.PopPtrs = refl
own_name (routines.IncSp x) = own_raise x
own_name (routines.DecSp x) = own_lower x
own_name routines.AddYSp = refl
own_name routines.SubYSp = refl
own_name routines.LdAxYSp = refl
own_name routines.LdAx0Sp = refl
own_name routines.LdEaxYSp = refl
own_name routines.StAxYSp = refl
own_name routines.StAx0Sp = refl
own_name routines.StEaxYSp = refl
own_name routines.LdAi = refl
own_name routines.LdAxi = refl
own_name routines.LdEaxi = refl
own_name routines.StATos = refl
own_name routines.StAxTos = refl
own_name routines.StEaxTos = refl
own_name routines.CopyTos = refl
own_name (routines.Tos x Ax) = own_word x
own_name (routines.Tos x Eax) = own_long x
own_name (routines.Unary x w) = own_unary x w
own_name routines.SignA = refl
own_name routines.LongAx = refl
own_name routines.ULongAx = refl
own_name routines.SaveRegs = refl
own_name routines.RestRegs = refl
own_name routines.CallPtr4 = refl
own_name routines.StkChk = refl
own_name routines.Start = refl
own_name routines.StartArgs = refl
own_name (routines.Library x) = own_library x
own_name routines.HookOpen = refl
own_name routines.HookClose = refl
own_name routines.HookRead = refl
own_name routines.HookWrite = refl
own_name routines.HookArgs = refl
own_name routines.HookExit = refl

pub found_by_name : (name : List ℕ) (r : Routine) → name_of r ≡ name → routine_named name ≡ Some r
found_by_name name r e = subst (λ n. routine_named n ≡ Some r) e (own_name r)

-- what is found has the name
Named : List ℕ → Option Routine → Type 0
Named name o = IfSome o (λ r. name_of r ≡ name)

named_if : (b : Bool) (r : Routine) (rest : Option Routine) (name : List ℕ) → (b ≡ true → name_of r ≡ name) → Named name rest → Named name (cond b (Some r) rest)
unfolding Named
named_if true r rest name h k = h refl
named_if false r rest name h k = k

found_in-named : (rs : List Routine) (name : List ℕ) → Named name (found_in rs name)
unfolding Named
found_in-named [] name = tt
found_in-named (r ∷ rs) name = named_if (bytes_eq (name_of r) name) r (found_in rs name) name ((bytes_eq-Decides (name_of r) name).0) (found_in-named rs name)

pub named_from : (rs : List Routine) (name : List ℕ) (r : Routine) → found_in rs name ≡ Some r → name_of r ≡ name
unfolding Named
named_from rs name r e = subst (λ o. IfSome o (λ r. name_of r ≡ name)) e (found_in-named rs name)

pub routine_named-named : (name : List ℕ) → IfSome (routine_named name) (λ r. name_of r ≡ name)
unfolding Named
routine_named-named name = found_in-named ALL name

-- no two routines have one name
pub same_routine : (r q : Routine) → name_of q ≡ name_of r → Some q ≡ Some r
same_routine r q e = sym (own_name q) ∙ found_by_name (name_of q) r (sym e)
