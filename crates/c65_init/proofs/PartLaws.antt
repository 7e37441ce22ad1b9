-- One item of a list of a unit is changed in its place.
use Rattle.std.proofs.Common.{◌≡◌, ◌∙◌, Bool, ℕ, zero, suc, ◌≤◌, List, [], ◌∷◌, ◌++◌, length, map, get_or, set, Some, Vec, Global, refl, sym, ap, arith}
use Rattle.std.proofs.lemmas.List.{length-map}
use Rattle.c65_csem.specs.declared.items.Cell.{Cell}
use Rattle.c65_csem.specs.declared.items.Class.{Class}
use Rattle.c65_csem.specs.declared.items.Parts.{Parts}
use Rattle.c65_csem.specs.declared.items.TObject.{TObject}
use Rattle.c65_csem.specs.declared.items.TFunc.{TFunc}
use Rattle.c65_csem.specs.declared.stmt.TStmt.{TStmt}
use Rattle.c65_csem.specs.declared.stmt.TStmt.TheVariants.{Block}
use Rattle.c65_csem.specs.Trees.{Stmt, block, ObjectTy, FuncTy}
use Rattle.c65_csem.specs.Views.{object_of, func_of, stmt_of, stmts_of, unit_of}
use Rattle.c65_csem.proofs.RowLaws.{stmt_of_block}
use Rattle.c65_init.specs.Declarations.{defined_as, with_init}
use Rattle.c65_init.specs.Functions.{with_body, with_unnamed}
use Rattle.c65_init.specs.Fixed.{fixed_class, fixed_at}
use Rattle.c65_ctype.specs.Trees.{Fn}
use Rattle.c65_ctype.specs.declared.types.FnType.{FnType}
use Rattle.c65_ctype.specs.Views.{fn_of}
use Rattle.c65_elab_scope.specs.Parts.{with_func}

pub object_begun : (os : List TObject) (i : ℕ) (o : TObject) (d class : Class) (cells : Vec Cell Global) → o ≡ get_or os i o → d ≡ defined_as class → map object_of (set os i (record { name = o.name; ty = o.ty; class = d; init = Some cells })) ≡ with_init (map object_of os) i class cells.items
object_begun [] i o d class cells is so = refl
object_begun (x ∷ os) zero o d class cells is so =
    ap (λ (y : TObject). object_of (record { name = y.name; ty = y.ty; class = d; init = Some cells }) ∷ map object_of os) is
    ∙ ap (λ (k : Class). record { name = x.name; ty = (object_of x).ty; class = k; init = Some cells.items } ∷ map object_of os) so
object_begun (x ∷ os) (suc i) o d class cells is so = ap (λ (ys : List ObjectTy). object_of x ∷ ys) (object_begun os i o d class cells is so)

pub object_past : (os : List TObject) (i : ℕ) (class : Class) (cells : List Cell) → length os ≤ i → with_init (map object_of os) i class cells ≡ map object_of os
object_past [] i class cells h = refl
object_past (x ∷ os) zero class cells h = absurd (omega arith)
object_past (x ∷ os) (suc i) class cells h = ap (λ (ys : List ObjectTy). object_of x ∷ ys) (object_past os i class cells (omega arith))

pub func_given : (fs : List TFunc) (i : ℕ) (f : TFunc) (params : Vec ℕ Global) (body : TStmt) → f ≡ get_or fs i f → map func_of (set fs i (record { name = f.name; ty = f.ty; external = f.external; params = params; body = Some body; library = f.library })) ≡ with_body (map func_of fs) i params.items (stmt_of body)
func_given [] i f params body is = refl
func_given (x ∷ fs) zero f params body is = ap (λ (y : TFunc). func_of (record { name = y.name; ty = y.ty; external = y.external; params = params; body = Some body; library = y.library }) ∷ map func_of fs) is
func_given (x ∷ fs) (suc i) f params body is = ap (λ (ys : List FuncTy). func_of x ∷ ys) (func_given fs i f params body is)

pub func_past : (fs : List TFunc) (i : ℕ) (params : List ℕ) (body : TStmt) → length fs ≤ i → with_body (map func_of fs) i params (stmt_of body) ≡ map func_of fs
func_past [] i params body h = refl
func_past (x ∷ fs) zero params body h = absurd (omega arith)
func_past (x ∷ fs) (suc i) params body h = ap (λ (ys : List FuncTy). func_of x ∷ ys) (func_past fs i params body (omega arith))

pub objects_many : (u : Parts) → length (unit_of u).objects ≡ length u.objects.items
objects_many u = length-map u.objects.items object_of

pub funcs_many : (u : Parts) → length (unit_of u).funcs ≡ length u.funcs.items
funcs_many u = length-map u.funcs.items func_of

pub func_typed : (fs : List TFunc) (i : ℕ) (f : TFunc) (g : FnType) → f ≡ get_or fs i f → map func_of (set fs i (record { name = f.name; ty = g; external = f.external; params = f.params; body = f.body; library = f.library })) ≡ with_func (map func_of fs) i (fn_of g)
func_typed [] i f g is = refl
func_typed (x ∷ fs) zero f g is = ap (λ (y : TFunc). func_of (record { name = y.name; ty = g; external = y.external; params = y.params; body = y.body; library = y.library }) ∷ map func_of fs) is
func_typed (x ∷ fs) (suc i) f g is = ap (λ (ys : List FuncTy). func_of x ∷ ys) (func_typed fs i f g is)

pub func_untyped : (fs : List TFunc) (i : ℕ) (g : Fn) → length fs ≤ i → with_func (map func_of fs) i g ≡ map func_of fs
func_untyped [] i g h = refl
func_untyped (x ∷ fs) zero g h = absurd (omega arith)
func_untyped (x ∷ fs) (suc i) g h = ap (λ (ys : List FuncTy). func_of x ∷ ys) (func_untyped fs i g (omega arith))

pub object_fixed : (os : List TObject) (i : ℕ) (honoured : Bool) (o : TObject) (d : Class) → o ≡ get_or os i o → d ≡ fixed_class honoured o.name o.class → map object_of (set os i (record { name = o.name; ty = o.ty; class = d; init = o.init })) ≡ fixed_at honoured (map object_of os) i
object_fixed [] i honoured o d is so = refl
object_fixed (x ∷ os) zero honoured o d is so =
    ap (λ (k : Class). object_of (record { name = o.name; ty = o.ty; class = k; init = o.init }) ∷ map object_of os) so
    ∙ ap (λ (y : TObject). object_of (record { name = y.name; ty = y.ty; class = fixed_class honoured y.name y.class; init = y.init }) ∷ map object_of os) is
object_fixed (x ∷ os) (suc i) honoured o d is so = ap (λ (ys : List ObjectTy). object_of x ∷ ys) (object_fixed os i honoured o d is so)

pub object_not_fixed : (os : List TObject) (i : ℕ) (honoured : Bool) → length os ≤ i → fixed_at honoured (map object_of os) i ≡ map object_of os
object_not_fixed [] i honoured h = refl
object_not_fixed (x ∷ os) zero honoured h = absurd (omega arith)
object_not_fixed (x ∷ os) (suc i) honoured h = ap (λ (ys : List ObjectTy). object_of x ∷ ys) (object_not_fixed os i honoured (omega arith))

pub unnamed_behind : (unnamed : List ℕ) (body : TStmt) (os ps : Vec ℕ Global) (ss : Vec TStmt Global) (made : Stmt) → body ≡ Block os ss → ps.items ≡ os.items ++ unnamed → made ≡ block ps.items (stmts_of ss.items) → made ≡ with_unnamed unnamed (stmt_of body)
unnamed_behind unnamed body os ps ss made is longer h =
    h ∙ ap (λ (is : List ℕ). block is (stmts_of ss.items)) longer ∙ sym (ap (with_unnamed unnamed) (ap stmt_of is ∙ stmt_of_block os ss))
