-- The functions of a plain program may be called (docs/MACHINE.md, "Calls").
use Rattle.std.specs.Prelude.{◌≡◌, ℕ, ◌+◌, ◌≤◌, false, List, [], Ok, Some, slice_get}
use Rattle.c65_csem.specs.Trees.{Nodes, Stmt, FuncTy}
use Rattle.c65_csem.specs.Units.{IsProgram}
use Rattle.c65_csem_need.specs.Needs.{greatest_need}
use Rattle.c65_csem_plain.specs.Plain.{IsPlain}
use Rattle.c65_meaning.specs.Costs.{local_bytes}
use Rattle.c65_genframe.specs.Frames.{Framed, has_prototype, frame_of, saved_bytes}
use Rattle.c65_genframe.specs.Symbols.{numbers_of, function_symbol}
use Rattle.c65_genstmt.specs.Programs.{program_of}
use Rattle.c65_gen_law_room.specs.Room.{kept_bytes, moved_bytes}
use Rattle.c65_gen_law_stack.specs.Parameters.{AreTaken}
use Rattle.c65_agree_state.specs.World.{World, unit_in, Active}
use Rattle.c65_agree_function.specs.Functions.{end_line}
use Rattle.c65_agree_slots.specs.Callees.{IsFunction}

-- a function may push so many bytes beside those of the values that wait
abbrev pub bytes_to_spare : ℕ
bytes_to_spare = 6

-- a call of the function i with this frame, wherever it lies
abbrev pub any_call : World → ℕ → Framed → Active
any_call g i h = record { func = i; symbol = (function_symbol (numbers_of g.parts) i).0; frame = h; base = 0; first = 0; raised = 0; behind = []; calls = []; spare = bytes_to_spare }

-- the code is that of a plain program, of which the function i takes no further arguments, and has this body and this frame
pub record IsFunctionOf (g : World) (names : List (List ℕ)) (i : ℕ) (h : Framed) (function : FuncTy) (body : Stmt) : Type 0 where
  pub code : program_of g.parts g.main names g.modes ≡ Ok g.code
  pub program : IsProgram (unit_in g) g.main
  pub plain : IsPlain names (unit_in g) g.main
  pub is_function : slice_get (unit_in g).funcs i ≡ Some function
  pub has_body : function.body ≡ Some body
  pub framed : frame_of g.parts g.modes function ≡ Ok h
  pub fixed : h.variadic ≡ false

-- Its automatic objects take no more of the software stack than the source counts, and the saved bytes of regbank no more than those that
-- stand there, parameters among them.
abbrev pub FramesAreWithinTheirObjects : Type 0
FramesAreWithinTheirObjects = (g : World) (names : List (List ℕ)) (i : ℕ) (h : Framed) (function : FuncTy) (body : Stmt)
    → IsFunctionOf g names i h function body → h.soft + saved_bytes h.bank ≤ local_bytes (unit_in g) body + (kept_bytes h.last + moved_bytes h.moved)

-- So it may be called with arguments of the types of its parameters.
abbrev pub FramesAreFunctions : Type 0
FramesAreFunctions = (g : World) (names : List (List ℕ)) (i : ℕ) (h : Framed) (function : FuncTy) (body : Stmt) (f : Framed) (es : Nodes)
    → IsFunctionOf g names i h function body → f.parts ≡ g.parts → AreTaken (unit_in g) (has_prototype function.ty) es function.params
    → IsFunction g f i h (greatest_need body) bytes_to_spare (end_line g (any_call g i h) body) function body es
