-- The parts of a declarator from its name outward, and the type that they make (C90 6.5.4).
use Rattle.std.specs.Prelude.{ℕ, List, [], ◌∷◌, ◌++◌, map, Bool, true, false, Option, Some, None, is_some, Result, Ok, Err, nat_lt, if◌then◌else◌}
use Rattle.c65_base.specs.declared.code.Code.TheVariants.{TypeForm, ParameterList}
use Rattle.c65_base.specs.declared.names.Name.{Name}
use Rattle.c65_base.specs.declared.refusal.Pos.{Pos}
use Rattle.c65_base.specs.declared.refusal.Size.TheVariants.{Depth}
use Rattle.c65_base.specs.Answers.{Fault, at, large, ◌>>=◌}
use Rattle.c65_ctype.specs.Trees.{Ty, void, int, pointer, array, tag, function, QTy, qual, type_in, Fn, fn, Params, unknown, known, QTys, end, more, TypesTy}
use Rattle.c65_ctype.specs.Depth.{qty_depth}
use Rattle.c65_ctype.specs.Sizes.{size_at}
use Rattle.c65_ctype.specs.Views.{qty_of}
use Rattle.c65_csem.specs.Places.{plain}
use Rattle.c65_elab_convert.specs.Structures.{structure_size}
use Rattle.c65_elab_declare.specs.declared.parts.Formal.{Formal}
use Rattle.c65_elab_declare.specs.declared.parts.Formals.{Formals}
use Rattle.c65_elab_declare.specs.declared.parts.Formals.TheVariants as f
use Rattle.c65_elab_declare.specs.declared.parts.Part.{Part}
use Rattle.c65_elab_declare.specs.declared.parts.Part.TheVariants as q
use Rattle.c65_elab_declare.specs.declared.parts.Role.{Role}

-- a parameter
pub record FormalTy : Type 0 where
  pub name : Option Name
  pub ty : QTy
  pub is_register : Bool
  pub pos : Pos

-- no parameters are given, names alone, or a prototype, which `...` may end
pub data FormalsTy : Type 0 where
  nothing : FormalsTy
  names : List (Name × Pos) → FormalsTy
  prototype : List FormalTy → Bool → FormalsTy

pub data PartTy : Type 0 where
  pointing : Bool → Bool → PartTy
  counting : Option ℕ → Pos → PartTy
  calling : FormalsTy → Pos → PartTy

abbrev pub formal_of : Formal → FormalTy
formal_of p = record { name = p.name; ty = qty_of p.ty; is_register = p.is_register; pos = p.pos }

abbrev pub formals_of : Formals → FormalsTy
formals_of f.Unknown = nothing
formals_of (f.Names ns) = names ns.items
formals_of (f.Types ps variadic) = prototype (map formal_of ps.items) variadic

abbrev pub part_of : Part → PartTy
part_of (q.Pointer c v) = pointing c v
part_of (q.Array n p) = counting n p
part_of (q.Function fs p) = calling (formals_of fs) p

-- types are at most 256 deep
abbrev pub deep : QTy → Result QTy Fault
deep t = if nat_lt 256 (qty_depth t) then Err (large Depth 257) else Ok t

-- C90 6.5.4.1
abbrev pub pointed : QTy → Bool → Bool → Result QTy Fault
pointed t c v = deep (qual (pointer t) c v)

-- C90 6.5.4.2: no array of functions or of void
abbrev pub element_form : Ty → Pos → Result (Unit {0}) Fault
element_form void p = Err (at TypeForm p)
element_form (function g) p = Err (at TypeForm p)
element_form _ p = Ok tt

abbrev pub size_when : Bool → TypesTy → Pos → Ty → Result ℕ Fault
size_when true types p t = size_at types p t
size_when false types p t = Ok 0

abbrev pub arrayed : TypesTy → QTy → Option ℕ → Pos → Result QTy Fault
arrayed types t n p = do
  form ← element_form (type_in t) p
  size ← size_at types p (type_in t)
  whole ← size_when (is_some n) types p (array t n)
  deep (plain (array t n))

-- C90 6.5.4.3: no function gives an array or a function; a structure or union that it gives has at most four bytes,
-- and is refused at the function's name
abbrev pub result_form : TypesTy → Ty → Pos → Pos → Result (Unit {0}) Fault
result_form types (function g) p name = Err (at TypeForm p)
result_form types (array t n) p name = Err (at TypeForm p)
result_form types (tag n) p name = structure_size types name (tag n) >>= λ size. Ok tt
result_form types _ p name = Ok tt

abbrev pub formal_tys : List FormalTy → QTys
formal_tys [] = end
formal_tys (x ∷ xs) = more x.ty (formal_tys xs)

-- a list of names is one of a definition alone
abbrev pub params_in : FormalsTy → Bool → Pos → Result (Params × Bool) Fault
params_in nothing named p = Ok (unknown, false)
params_in (names ns) named p = if named then Ok (unknown, false) else Err (at ParameterList p)
params_in (prototype ps variadic) named p = Ok (known (formal_tys ps), variadic)

abbrev pub called : TypesTy → QTy → FormalsTy → Role → Pos → Result QTy Fault
called types t formals role p = do
  form ← result_form types (type_in t) p role.name
  params ← params_in formals role.named p
  deep (plain (function (fn t params.0 params.1 role.cdecl)))

abbrev pub applied : TypesTy → PartTy → Role → QTy → Result QTy Fault
applied types (pointing c v) role t = pointed t c v
applied types (counting n p) role t = arrayed types t n p
applied types (calling formals p) role t = called types t formals role p

-- the words for the stack and a list of names belong to the first function part
abbrev pub role_behind : PartTy → Role → Role
role_behind (calling formals p) role = record { cdecl = false; named = false; name = role.name }
role_behind _ role = record { cdecl = role.cdecl; named = false; name = role.name }

-- the type that the parts make of a type, from the last to the first
abbrev pub built : TypesTy → QTy → List PartTy → Role → Result QTy Fault
built types base [] role = Ok base
built types base (p ∷ ps) role = built types base ps (role_behind p role) >>= (λ t. applied types p role t)

-- the type of a parameter (C90 6.5.4.3)
abbrev pub adjusted_ty : Ty → Bool → Bool → Result QTy Fault
adjusted_ty (array t n) c v = Ok (plain (pointer t))
adjusted_ty (function g) c v = deep (plain (pointer (qual (function g) c v)))
adjusted_ty t c v = Ok (qual t c v)

abbrev pub adjusted : QTy → Result QTy Fault
adjusted (qual t c v) = adjusted_ty t c v
