-- Operators that ask the scope, or that are several in one construct.
use Rattle.std.specs.Prelude.{List, Bool, true, false, Option, Some, None, slice_get, Result, Ok, if◌then◌else◌}
use Rattle.c65_base.specs.declared.operators.BinaryOp.{BinaryOp}
use Rattle.c65_base.specs.declared.operators.UnaryOp.{UnaryOp}
use Rattle.c65_base.specs.declared.refusal.Pos.{Pos}
use Rattle.c65_base.specs.Answers.{Fault, ◌>>=◌}
use Rattle.c65_ctype.specs.Trees.{TypesTy, type_in}
use Rattle.c65_csem.specs.declared.items.Class.{Class}
use Rattle.c65_csem.specs.declared.items.Class.TheVariants.{Register}
use Rattle.c65_csem.specs.Trees.{Typed, Nodes, node, object, member, spill, type_of, ObjectTy}
use Rattle.c65_csem.specs.Places.{is_tag}
use Rattle.c65_elab_convert.specs.Calls.{call_of}
use Rattle.c65_elab_convert.specs.Changes.{assign_of, assign_op_of}
use Rattle.c65_elab_convert.specs.Unaries.{unary_of}
use Rattle.c65_elab_scope.specs.Scopes.{ScopeTy}
use Rattle.c65_elab_scope.specs.Parts.{spill_added}

abbrev pub is_register_class : Class → Bool
is_register_class Register = true
is_register_class _ = false

abbrev pub register_object : Option ObjectTy → Bool
register_object None = false
register_object (Some o) = is_register_class o.class

-- an object of class register, or a part of one (C90 6.5.1)
abbrev pub is_register : ScopeTy → Typed → Bool
is_register s (node t (object i)) = register_object (slice_get s.unit.objects i)
is_register s (node t (member e n)) = is_register s e
is_register s (node t _) = false

abbrev pub on_place : ScopeTy → Pos → UnaryOp → Typed → Result Typed Fault
on_place s p op e = unary_of s.unit.types p op (is_register s e) e

-- C90 6.3.16
abbrev pub assigning : TypesTy → Pos → Option BinaryOp → Typed → Typed → Result Typed Fault
assigning types p None a b = assign_of types p a b
assigning types p (Some op) a b = assign_op_of types p op a b

-- a structure or union that a call gives is stored in an object without a name (C90 6.3.2.2)
abbrev pub spilled : ScopeTy → Typed → Result (Typed × ScopeTy) Fault
spilled s y = if is_tag (type_in (type_of y)) then spill_added s (type_of y) >>= (λ x. Ok (node (type_of y) (spill x.0 y), x.1)) else Ok (y, s)

-- a call whose arguments begin at these places
abbrev pub called : ScopeTy → Pos → List Pos → Typed → Nodes → Result (Typed × ScopeTy) Fault
called s p firsts f es = call_of s.unit.types p firsts f es >>= (λ y. spilled s y)
