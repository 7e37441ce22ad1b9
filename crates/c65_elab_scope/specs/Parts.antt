-- The lists of a unit grow, and what was declared before becomes more definite.
use Rattle.std.specs.Prelude.{ℕ, zero, suc, List, [], ◌∷◌, ◌++◌, length, take, filter, nat_lt, Bool, Option, Some, None, Result, Ok}
use Rattle.c65_base.specs.declared.names.Name.{Name}
use Rattle.c65_base.specs.Answers.{Fault, ◌>>=◌}
use Rattle.c65_ctype.specs.Trees.{Ty, array, QTy, qual, Fn}
use Rattle.c65_csem.specs.declared.items.Class.{Class}
use Rattle.c65_csem.specs.declared.items.Class.TheVariants.{Auto}
use Rattle.c65_csem.specs.Trees.{ObjectTy, FuncTy}
use Rattle.c65_elab_scope.specs.Scopes.{ScopeTy}

abbrev pub with_objects : ScopeTy → List ObjectTy → ScopeTy
with_objects s os = record s { unit = record { types = s.unit.types; objects = os; literals = s.unit.literals; funcs = s.unit.funcs } }

abbrev pub with_funcs : ScopeTy → List FuncTy → ScopeTy
with_funcs s fs = record s { unit = record { types = s.unit.types; objects = s.unit.objects; literals = s.unit.literals; funcs = fs } }

abbrev pub new_object : Option Name → QTy → Class → ObjectTy
new_object n t class = record { name = n; ty = t; class = class; init = None }

abbrev pub new_func : Name → Fn → Bool → FuncTy
new_func n f external = record { name = n; ty = f; external = external; params = []; body = None; library = None }

-- one more item, and its number
abbrev pub object_added : ScopeTy → Option Name → QTy → Class → Result (ℕ × ScopeTy) Fault
object_added s n t class = Ok (length s.unit.objects, with_objects s (s.unit.objects ++ new_object n t class ∷ []))

-- one more object without a name, which holds what a call gives, and its number
abbrev pub spill_added : ScopeTy → QTy → Result (ℕ × ScopeTy) Fault
spill_added s t = object_added s None t Auto >>= (λ x. Ok (x.0, record x.1 { spills = s.spills ++ x.0 ∷ [] }))

-- a function begins or ends
abbrev pub without_spills : ScopeTy → ScopeTy
without_spills s = record s { spills = [] }

abbrev pub func_added : ScopeTy → Name → Fn → Bool → Result (ℕ × ScopeTy) Fault
func_added s n f external = Ok (length s.unit.funcs, with_funcs s (s.unit.funcs ++ new_func n f external ∷ []))

abbrev pub typedef_added : ScopeTy → QTy → Result (ℕ × ScopeTy) Fault
typedef_added s t = Ok (length s.typedefs, record s { typedefs = s.typedefs ++ t ∷ [] })

abbrev pub literal_added : ScopeTy → List ℕ → Result (ℕ × ScopeTy) Fault
literal_added s bytes = Ok (length s.unit.literals, record s { unit = record { types = s.unit.types; objects = s.unit.objects; literals = s.unit.literals ++ bytes ∷ []; funcs = s.unit.funcs } })

-- one item of a list changed
abbrev pub with_object : List ObjectTy → ℕ → QTy → Class → List ObjectTy
with_object [] i t class = []
with_object (o ∷ os) zero t class = record o { ty = t; class = class } ∷ os
with_object (o ∷ os) (suc i) t class = o ∷ with_object os i t class

abbrev pub with_func : List FuncTy → ℕ → Fn → List FuncTy
with_func [] i g = []
with_func (f ∷ fs) zero g = record f { ty = g } ∷ fs
with_func (f ∷ fs) (suc i) g = f ∷ with_func fs i g

abbrev pub object_redeclared : ScopeTy → ℕ → QTy → Class → ScopeTy
object_redeclared s i t class = with_objects s (with_object s.unit.objects i t class)

abbrev pub func_redeclared : ScopeTy → ℕ → Fn → ScopeTy
func_redeclared s i g = with_funcs s (with_func s.unit.funcs i g)

-- an array whose number of elements is not known has so many
abbrev pub filled : Option ℕ → ℕ → Option ℕ
filled None n = Some n
filled (Some m) n = Some m

abbrev pub counted_ty : Ty → ℕ → Ty
counted_ty (array q m) n = array q (filled m n)
counted_ty t n = t

abbrev pub counted : QTy → ℕ → QTy
counted (qual t c v) n = qual (counted_ty t n) c v

abbrev pub with_count : List ObjectTy → ℕ → ℕ → List ObjectTy
with_count [] i n = []
with_count (o ∷ os) zero n = record o { ty = counted o.ty n } ∷ os
with_count (o ∷ os) (suc i) n = o ∷ with_count os i n

abbrev pub completed : ScopeTy → ℕ → ℕ → ScopeTy
completed s i n = with_objects s (with_count s.unit.objects i n)

-- the objects from a number on are forgotten, also where they are without a name
abbrev pub fewer_objects : ScopeTy → ℕ → ScopeTy
fewer_objects s n = record (with_objects s (take n s.unit.objects)) { spills = filter (λ i. nat_lt i n) s.spills }
