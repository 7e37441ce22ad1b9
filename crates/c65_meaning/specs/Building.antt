-- Words that make small typed trees, for samples.
use Rattle.std.specs.Prelude.{ℕ, List, [], ◌∷◌, true, false, pos, negsuc, Some, None}
use Rattle.c65_base.specs.declared.operators.BinaryOp.{BinaryOp}
use Rattle.c65_base.specs.declared.operators.StepKind.{StepKind}
use Rattle.c65_ints.specs.declared.types.IntType.TheVariants as I
use Rattle.c65_ctype.specs.Trees.{int, pointer, array, tag, function, QTy, Fn, fn, known, QTys, end, more, MemberTy, TypesTy}
use Rattle.c65_base.specs.declared.library.Library.{Library}
use Rattle.c65_csem.specs.declared.items.Class.TheVariants.{Static, Auto, Fixed}
use Rattle.c65_csem.specs.Trees.{Typed, node, constant, object, func, deref, member, load, address, decay, convert, binary, assign, step, call, pack, spill, rest, Nodes, none, some, Stmt, set_part, block, return, Stmts, no_stmts, and_stmts, present, type_of, ObjectTy, FuncTy}
use Rattle.c65_meaning.specs.Program.{ProgramTy}
use Rattle.c65_csem.specs.Places.{plain}

-- ---- types

abbrev pub integer : QTy
integer = plain (int I.Int)

abbrev pub unsigned : QTy
unsigned = plain (int I.UInt)

abbrev pub character : QTy
character = plain (int I.UChar)

abbrev pub structure : QTy
structure = plain (tag 0)

abbrev pub pointer_to : QTy → QTy
pointer_to t = plain (pointer t)

abbrev pub array_of : ℕ → QTy → QTy
array_of n t = plain (array t (Some n))

abbrev pub all_types : List QTy → QTys
all_types [] = end
all_types (t ∷ ts) = more t (all_types ts)

-- a function with a prototype
abbrev pub takes : List QTy → QTy → Fn
takes params result = fn result (known (all_types params)) false false

-- and further arguments
abbrev pub takes_more : List QTy → QTy → Fn
takes_more params result = fn result (known (all_types params)) true false

-- a member, one of one byte, and a bit-field of type unsigned int, in the first unit or another one
abbrev pub member_as : QTy → ℕ → MemberTy
member_as t o = record { name = None; ty = t; offset = o; bits = None }

abbrev pub byte_member : ℕ → MemberTy
byte_member o = member_as character o

abbrev pub bits_at : ℕ → ℕ → ℕ → MemberTy
bits_at o low width = record { name = None; ty = unsigned; offset = o; bits = Some (low, width) }

abbrev pub bit_field : ℕ → ℕ → MemberTy
bit_field low width = bits_at 0 low width

abbrev pub no_types : TypesTy
no_types = record { tags = []; units = 1 }

-- one structure of so many bytes, and of two
abbrev pub structure_of : ℕ → List MemberTy → TypesTy
structure_of size members = record { tags = record { unit = 0; is_union = false; layout = Some (record { is_union = false; members = members; size = size }) } ∷ []; units = 1 }

abbrev pub one_structure : List MemberTy → TypesTy
one_structure members = structure_of 2 members

-- ---- expressions

abbrev pub number : ℕ → Typed
number n = node integer (constant (pos n))

-- -1 - n
abbrev pub below_zero : ℕ → Typed
below_zero n = node integer (constant (negsuc n))

abbrev pub place : QTy → ℕ → Typed
place t i = node t (object i)

abbrev pub value_of : Typed → Typed
value_of e = node (type_of e) (load e)

abbrev pub address_of : Typed → Typed
address_of e = node (pointer_to (type_of e)) (address e)

-- the value of an object of type int
abbrev pub value : ℕ → Typed
value i = value_of (place integer i)

-- what a pointer to a type names
abbrev pub at : QTy → Typed → Typed
at t e = node t (deref e)

-- the first element of an array of a type
abbrev pub first_of : QTy → Typed → Typed
first_of t e = node (pointer_to t) (decay e)

abbrev pub as_type : QTy → Typed → Typed
as_type t e = node t (convert e)

abbrev pub member_of : QTy → Typed → ℕ → Typed
member_of t e m = node t (member e m)

-- an operator whose result is an int, and one on a pointer
abbrev pub with : BinaryOp → Typed → Typed → Typed
with op a b = node integer (binary op a b)

abbrev pub beside : BinaryOp → Typed → Typed → Typed
beside op a b = node (type_of a) (binary op a b)

abbrev pub store : Typed → Typed → Typed
store a b = node (type_of a) (assign a b)

abbrev pub change : StepKind → ℕ → Typed
change kind i = node integer (step kind (place integer i))

abbrev pub all_arguments : List Typed → Nodes
all_arguments [] = none
all_arguments (e ∷ es) = some e (all_arguments es)

abbrev pub call_as : ℕ → Fn → QTy → List Typed → Typed
call_as f t result args = node result (call (node (pointer_to (plain (function t))) (decay (node (plain (function t)) (func f)))) (all_arguments args))

-- a structure as an argument or a returned value
abbrev pub pack_of : Typed → Typed
pack_of e = node (type_of e) (pack e)

-- the structure that a call gives, in an unnamed object
abbrev pub held_in : ℕ → Typed → Typed
held_in i e = node (type_of e) (spill i e)

-- the place behind the further arguments
abbrev pub end_of_rest : Typed
end_of_rest = node (pointer_to character) rest

-- the member of one byte of a structure, as an int
abbrev pub byte_of : Typed → ℕ → Typed
byte_of e m = as_type integer (value_of (member_of character e m))

-- ---- statements

abbrev pub all_statements : List Stmt → Stmts
all_statements [] = no_stmts
all_statements (s ∷ ss) = and_stmts s (all_statements ss)

abbrev pub scope : List ℕ → List Stmt → Stmt
scope objects ss = block objects (all_statements ss)

abbrev pub give : Typed → Stmt
give e = return (present e)

abbrev pub initial : ℕ → Typed → Stmt
initial i e = set_part i 0 e

-- ---- programs

abbrev pub local : QTy → ObjectTy
local t = record { name = Some (record { 0 = 0 }); ty = t; class = Auto; init = None }

-- an object that holds what a call gives
abbrev pub unnamed : QTy → ObjectTy
unnamed t = record { name = None; ty = t; class = Auto; init = None }

-- an object of a block with one place for the whole run
abbrev pub fixed : QTy → ObjectTy
fixed t = record { name = Some (record { 0 = 0 }); ty = t; class = Fixed; init = None }

abbrev pub static : QTy → ObjectTy
static t = record { name = Some (record { 0 = 0 }); ty = t; class = Static; init = None }

abbrev pub defined : Fn → List ℕ → Stmt → FuncTy
defined t params body = record { name = record { 0 = 0 }; ty = t; external = true; params = params; body = Some body; library = None }

abbrev pub provided : Fn → List ℕ → Library → FuncTy
provided t params l = record { name = record { 0 = 0 }; ty = t; external = true; params = params; body = None; library = Some l }

-- `int main(void)`
abbrev pub main_of : Stmt → FuncTy
main_of body = defined (takes [] integer) [] body

-- a program with these types and literals; `main` is its first function
abbrev pub program_with : TypesTy → List (List ℕ) → List ObjectTy → List FuncTy → ProgramTy
program_with types literals objects funcs = record { unit = record { types = types; objects = objects; literals = literals; funcs = funcs }; main = 0 }

abbrev pub program_of : List ObjectTy → List FuncTy → ProgramTy
program_of objects funcs = program_with no_types [] objects funcs
