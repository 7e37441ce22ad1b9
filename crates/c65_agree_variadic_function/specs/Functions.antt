-- The functions of a plain program that take further arguments may be called (docs/MACHINE.md, "Calls").
use Rattle.std.specs.Prelude.{◌≡◌, ℕ, ◌+◌, ◌≤◌, true, List, Ok, Some, slice_get}
use Rattle.c65_csem.specs.Trees.{Nodes, Stmt, FuncTy}
use Rattle.c65_csem.specs.Units.{IsProgram}
use Rattle.c65_csem_need.specs.Needs.{greatest_need}
use Rattle.c65_csem_plain.specs.Plain.{IsPlain}
use Rattle.c65_meaning.specs.Calls.{is_variadic}
use Rattle.c65_meaning.specs.Costs.{local_bytes}
use Rattle.c65_genframe.specs.Frames.{Framed, frame_of, saved_bytes}
use Rattle.c65_genstmt.specs.Programs.{program_of}
use Rattle.c65_gen_law_room.specs.Room.{moved_bytes}
use Rattle.c65_agree_state.specs.World.{World, unit_in}
use Rattle.c65_agree_function.specs.Functions.{end_line}
use Rattle.c65_agree_slots.specs.Functions.{any_call}
use Rattle.c65_agree_variadic_call.specs.Callees.{IsFurtherCallee}
use Rattle.c65_agree_variadic_function.specs.Arguments.{AreTakenFurther}

-- the code is that of a plain program, of which the function i takes further arguments, and has this body and this frame
pub record IsFurtherFunctionOf (g : World) (names : List (List ℕ)) (i : ℕ) (h : Framed) (function : FuncTy) (body : Stmt) : Type 0 where
  pub code : program_of g.parts g.main names g.modes ≡ Ok g.code
  pub program : IsProgram (unit_in g) g.main
  pub plain : IsPlain names (unit_in g) g.main
  pub is_function : slice_get (unit_in g).funcs i ≡ Some function
  pub has_body : function.body ≡ Some body
  pub further_too : is_variadic function.ty ≡ true
  pub framed : frame_of g.parts g.modes function ≡ Ok h

-- Beside its automatic objects it takes of the software stack the bytes of the parameters that move to regbank, and one for the number of
-- bytes of a call.
abbrev pub FurtherFramesAreWithin : Type 0
FurtherFramesAreWithin = (g : World) (names : List (List ℕ)) (i : ℕ) (h : Framed) (function : FuncTy) (body : Stmt)
    → IsFurtherFunctionOf g names i h function body → h.soft + saved_bytes h.bank ≤ local_bytes (unit_in g) body + moved_bytes h.moved + 1

-- So it may be called with arguments of the types of its parameters and further ones, and has five bytes to spare.
abbrev pub FurtherFunctionsMayBeCalled : Type 0
FurtherFunctionsMayBeCalled = (g : World) (names : List (List ℕ)) (i : ℕ) (h : Framed) (function : FuncTy) (body : Stmt) (f : Framed) (es : Nodes)
    → IsFurtherFunctionOf g names i h function body → f.parts ≡ g.parts → AreTakenFurther (unit_in g) function es
    → IsFurtherCallee g f i h (greatest_need body) 5 (end_line g (any_call g i h) body) function body es
