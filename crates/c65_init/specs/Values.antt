-- Expressions as statements and initialisers need them: converted, and folded.
use Rattle.std.specs.Prelude.{Bool, true, false, Option, Some, None, Result, Ok, Err, if◌then◌else◌}
use Rattle.c65_base.specs.declared.code.Code.TheVariants.{ReturnValue}
use Rattle.c65_base.specs.declared.refusal.Pos.{Pos}
use Rattle.c65_base.specs.Answers.{Fault, at, ◌>>=◌}
use Rattle.c65_ctype.specs.Trees.{Ty, void}
use Rattle.c65_csem.specs.Trees.{Typed, MaybeTyped, absent, present}
use Rattle.c65_fold.specs.Folded.{folded}
use Rattle.c65_elab_convert.specs.Structures.{packed_of}
use Rattle.c65_elab_convert.specs.Values.{value_of}
use Rattle.c65_elab_convert.specs.Logic.{condition_of}
use Rattle.c65_elab_convert.specs.Changes.{assigned_of}
use Rattle.c65_elab_scope.specs.Scopes.{ScopeTy}
use Rattle.c65_tree.specs.Trees.{ExprTree}
use Rattle.c65_elab.specs.Typing.{typed, beside}

-- the value of an expression as by assignment to a type (C90 6.5.7)
abbrev pub value_for : Ty → ExprTree → Pos → ScopeTy → Result (Typed × ScopeTy) Fault
value_for t e p s = do
  x ← typed e s
  beside x.1 (assigned_of x.1.unit.types p t x.0)

-- an expression whose value is not used (C90 6.6.3)
abbrev pub unused_of : ExprTree → ScopeTy → Result (Typed × ScopeTy) Fault
unused_of e s = typed e s >>= (λ x. Ok (folded (value_of x.0), x.1))

abbrev pub maybe_unused : Option ExprTree → ScopeTy → Result (MaybeTyped × ScopeTy) Fault
maybe_unused None s = Ok (absent, s)
maybe_unused (Some e) s = unused_of e s >>= (λ x. Ok (present x.0, x.1))

-- a condition (C90 6.6.4, 6.6.5)
abbrev pub test_of : ExprTree → Pos → ScopeTy → Result (Typed × ScopeTy) Fault
test_of e p s = do
  x ← typed e s
  c ← condition_of p x.0
  Ok (folded c, x.1)

abbrev pub maybe_test : Option ExprTree → Pos → ScopeTy → Result (MaybeTyped × ScopeTy) Fault
maybe_test None p s = Ok (absent, s)
maybe_test (Some e) p s = test_of e p s >>= (λ x. Ok (present x.0, x.1))

-- the value that a function gives (C90 6.6.6.4)
abbrev pub is_void : Ty → Bool
is_void void = true
is_void _ = false

abbrev pub given_as : Ty → Pos → Typed × ScopeTy → Result (Typed × ScopeTy) Fault
given_as t p x = if is_void t then Err (at ReturnValue p) else (assigned_of x.1.unit.types p t x.0 >>= (λ e. Ok (folded (packed_of e), x.1)))

abbrev pub given_by : Ty → ExprTree → Pos → ScopeTy → Result (Typed × ScopeTy) Fault
given_by t e p s = typed e s >>= given_as t p

abbrev pub given_of : Ty → Option ExprTree → Pos → ScopeTy → Result (MaybeTyped × ScopeTy) Fault
given_of t None p s = Ok (absent, s)
given_of t (Some e) p s = given_by t e p s >>= (λ x. Ok (present x.0, x.1))
