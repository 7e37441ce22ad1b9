-- That a call passes what the function takes (C90 6.3.2.2; docs/MACHINE.md, "Calls").
use Rattle.std.specs.Prelude.{◌≡◌, ℕ, ◌+◌, not, Bool, false, Ok, List, [], ◌∷◌, Some, IsTrue, slice_get}
use Rattle.c65_ctype.specs.Trees.{Ty, int, type_in, QTy, QTys, fn, known}
use Rattle.c65_ctype.specs.Sizes.{size_of}
use Rattle.c65_csem.specs.declared.items.Parts.{Parts}
use Rattle.c65_csem.specs.Trees.{Typed, node, pack, Nodes, none, some, Stmt, ObjectTy, UnitTy, FuncTy}
use Rattle.c65_csem.specs.Places.{is_scalar, is_small, promoted_of, alike}
use Rattle.c65_csem.specs.Typed.{AreGiven}
use Rattle.c65_csem.specs.Units.{IsBody}
use Rattle.c65_csem.specs.Views.{unit_of}
use Rattle.c65_genframe.specs.declared.modes.Modes.{Modes}
use Rattle.c65_genframe.specs.Frames.{Framed, has_prototype, takes_stack, frame_of}
use Rattle.c65_genexpr.specs.Types.{bare}
use Rattle.c65_gen_law_lines.specs.Stack.{bytes_in, passed}
use Rattle.c65_gen_law_stack.specs.Calls.{pushed_bytes}

-- a parameter is passed as its type, and where the definition has no prototype as its promoted one
abbrev pub passed_type : Bool → Ty → Ty
passed_type false (int k) = int (promoted_of k)
passed_type prototype t = t

-- what may be passed: a scalar value, or the bytes of a structure or union of at most four bytes
pub data IsArgument (u : UnitTy) : Typed → Type 0 where
  value : {e : Typed} → IsTrue (is_scalar (bare e)) → IsArgument u e
  bytes : {q : QTy} {e : Typed} → IsTrue (is_small u.types (type_in q)) → IsArgument u (node q (pack e))

abbrev pub AreArguments : UnitTy → Nodes → Type 0
AreArguments u none = Unit {0}
AreArguments u (some e es) = IsArgument u e × AreArguments u es

-- it is of a type down to pointers and tags, and has its size
pub data IsTaken (u : UnitTy) (t : Ty) : Typed → Type 0 where
  scalar : {e : Typed} → IsTrue (is_scalar (bare e)) → IsTrue (alike t (bare e)) → IsTaken u t e
  packed : {q : QTy} {e : Typed} → IsTrue (is_small u.types (type_in q)) → IsTrue (alike t (type_in q)) → size_of u.types t ≡ size_of u.types (type_in q) → IsTaken u t (node q (pack e))

-- as many arguments as parameters, and each of the type as which its parameter is passed, down to pointers and tags
abbrev pub AreTaken : UnitTy → Bool → Nodes → List ℕ → Type 0
AreTaken u prototype none [] = Unit {0}
AreTaken u prototype none (i ∷ is) = ⊥
AreTaken u prototype (some e es) [] = ⊥
AreTaken u prototype (some e es) (i ∷ is) = (o : ObjectTy) × (slice_get u.objects i ≡ Some o) × IsTaken u (passed_type prototype (type_in o.ty)) e × AreTaken u prototype es is

-- Such arguments, in whichever function of the program they stand, have as many bytes on the software stack as the parameters there, but
-- for the one that the entry pushes. Where the function takes all arguments on the stack, all go there, else the last one does not.
abbrev pub CallsPassWhatIsTaken : Type 0
CallsPassWhatIsTaken = (parts : Parts) (modes : Modes) (g : FuncTy) (f h : Framed) (es : Nodes)
    → frame_of parts modes g ≡ Ok f → h.parts ≡ parts → AreTaken (unit_of parts) (has_prototype g.ty) es g.params
    → bytes_in (passed h (not (takes_stack g.ty)) es) + pushed_bytes f.last ≡ f.stacked

-- So it is with the arguments that a prototype allows. With `cdecl` all go on the stack.
abbrev pub CallsPassTheirParameters : Type 0
CallsPassTheirParameters = (parts : Parts) (modes : Modes) (g : FuncTy) (body : Stmt) (f h : Framed) (q : QTy) (qs : QTys) (cdecl : Bool) (es : Nodes)
    → IsBody (unit_of parts) g body → g.ty ≡ fn q (known qs) false cdecl → frame_of parts modes g ≡ Ok f → h.parts ≡ parts
    → AreArguments (unit_of parts) es → AreGiven (unit_of parts) qs false es
    → bytes_in (passed h (not cdecl) es) + pushed_bytes f.last ≡ f.stacked
