-- One item of a list of a unit is changed in its place.
use Rattle.std.proofs.Common.{◌≡◌, ◌∙◌, ℕ, zero, suc, ◌≤◌, List, [], ◌∷◌, length, map, take, get_or, set, refl, ap, arith}
use Rattle.std.proofs.lemmas.List.{take-map}
use Rattle.c65_csem.specs.declared.items.Class.{Class}
use Rattle.c65_csem.specs.declared.items.TObject.{TObject}
use Rattle.c65_csem.specs.declared.items.TFunc.{TFunc}
use Rattle.c65_csem.specs.Trees.{ObjectTy, FuncTy}
use Rattle.c65_csem.specs.Views.{object_of, func_of}
use Rattle.c65_ctype.specs.Trees.{QTy, Fn}
use Rattle.c65_ctype.specs.declared.types.QType.{QType}
use Rattle.c65_ctype.specs.declared.types.FnType.{FnType}
use Rattle.c65_ctype.specs.Views.{qty_of, fn_of}
use Rattle.c65_elab_scope.specs.Parts.{with_object, with_func, counted, with_count}

pub object_set : (os : List TObject) (i : ℕ) (o : TObject) (t : QType) (class : Class) → o ≡ get_or os i o → map object_of (set os i (record { name = o.name; ty = t; class = class; init = o.init })) ≡ with_object (map object_of os) i (qty_of t) class
object_set [] i o t class is = refl
object_set (x ∷ os) zero o t class is = ap (λ (y : TObject). object_of (record { name = y.name; ty = t; class = class; init = y.init }) ∷ map object_of os) is
object_set (x ∷ os) (suc i) o t class is = ap (λ (ys : List ObjectTy). object_of x ∷ ys) (object_set os i o t class is)

pub object_past : (os : List TObject) (i : ℕ) (t : QTy) (class : Class) → length os ≤ i → with_object (map object_of os) i t class ≡ map object_of os
object_past [] i t class h = refl
object_past (x ∷ os) zero t class h = absurd (omega arith)
object_past (x ∷ os) (suc i) t class h = ap (λ (ys : List ObjectTy). object_of x ∷ ys) (object_past os i t class (omega arith))

pub func_set : (fs : List TFunc) (i : ℕ) (f : TFunc) (g : FnType) → f ≡ get_or fs i f → map func_of (set fs i (record { name = f.name; ty = g; external = f.external; params = f.params; body = f.body; library = f.library })) ≡ with_func (map func_of fs) i (fn_of g)
func_set [] i f g is = refl
func_set (x ∷ fs) zero f g is = ap (λ (y : TFunc). func_of (record { name = y.name; ty = g; external = y.external; params = y.params; body = y.body; library = y.library }) ∷ map func_of fs) is
func_set (x ∷ fs) (suc i) f g is = ap (λ (ys : List FuncTy). func_of x ∷ ys) (func_set fs i f g is)

pub func_past : (fs : List TFunc) (i : ℕ) (g : Fn) → length fs ≤ i → with_func (map func_of fs) i g ≡ map func_of fs
func_past [] i g h = refl
func_past (x ∷ fs) zero g h = absurd (omega arith)
func_past (x ∷ fs) (suc i) g h = ap (λ (ys : List FuncTy). func_of x ∷ ys) (func_past fs i g (omega arith))

pub count_set : (os : List TObject) (i : ℕ) (o : TObject) (t : QType) (n : ℕ) → o ≡ get_or os i o → qty_of t ≡ counted (qty_of o.ty) n → map object_of (set os i (record { name = o.name; ty = t; class = o.class; init = o.init })) ≡ with_count (map object_of os) i n
count_set [] i o t n is so = refl
count_set (x ∷ os) zero o t n is so =
    ap (λ (q : QTy). record { name = o.name; ty = q; class = o.class; init = (object_of o).init } ∷ map object_of os) so
    ∙ ap (λ (y : TObject). record { name = y.name; ty = counted (qty_of y.ty) n; class = y.class; init = (object_of y).init } ∷ map object_of os) is
count_set (x ∷ os) (suc i) o t n is so = ap (λ (ys : List ObjectTy). object_of x ∷ ys) (count_set os i o t n is so)

pub count_past : (os : List TObject) (i n : ℕ) → length os ≤ i → with_count (map object_of os) i n ≡ map object_of os
count_past [] i n h = refl
count_past (x ∷ os) zero n h = absurd (omega arith)
count_past (x ∷ os) (suc i) n h = ap (λ (ys : List ObjectTy). object_of x ∷ ys) (count_past os i n (omega arith))

pub taken : (os : List TObject) (n : ℕ) → take n (map object_of os) ≡ map object_of (take n os)
taken os n = take-map object_of n os
