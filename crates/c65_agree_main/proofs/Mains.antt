-- What the start of a scoped program says.
use Rattle.std.proofs.Common.{◌≡◌, ℕ, Bool, true, Option, None, Some, List, [], ◌∷◌, refl, sym, ◌∙◌, ap, subst, slice_get}
use Rattle.std.specs.Prelude.{IsTrue}
use Rattle.std.proofs.lemmas.Bool.{eqb-true}
use Rattle.c65_ints.specs.declared.types.IntType.TheVariants as I
use Rattle.c65_ints.specs.declared.types.IntType.TheVariants.{Int}
use Rattle.c65_ctype.specs.Trees.{Ty, void, int, pointer, array, tag, function, type_in, TypesTy}
use Rattle.c65_ctype.specs.Sizes.{size_of}
use Rattle.c65_csem.specs.Trees.{ObjectTy, FuncTy, UnitTy}
use Rattle.c65_csem.specs.Typed.{result_of}
use Rattle.c65_csem_names.specs.Programs.{is_int, is_pointer, has_type, TakesArguments, Starts, IsScopedProgram}
use Rattle.c65_meaning.specs.Store.{Shape, Number, Pointer}
use Rattle.c65_meaning.specs.Shapes.{shape_of, object_in, object_shape}
use Rattle.c65_agree_state.specs.World.{World, unit_in, Active}
use Rattle.c65_agree_enter.specs.Params.{shape_in}
use Rattle.c65_agree_function.specs.Functions.{TakesProgramArguments}
use Rattle.c65_agree_main.specs.Laws.{MainsGiveInts, MainsTakeArguments}

-- ---- types

int_shape : (types : TypesTy) (t : Ty) → is_int t ≡ true → shape_of types t ≡ Number Int
int_shape types (int I.Int) h = refl
int_shape types (int _) h = absurd (cc)
int_shape types void h = absurd (cc)
int_shape types (pointer q) h = absurd (cc)
int_shape types (array q n) h = absurd (cc)
int_shape types (tag n) h = absurd (cc)
int_shape types (function f) h = absurd (cc)

pointer_shape : (types : TypesTy) (t : Ty) → is_pointer t ≡ true → (size : ℕ) × (shape_of types t ≡ Pointer size)
pointer_shape types (pointer q) h = (size_of types (type_in q), refl)
pointer_shape types void h = absurd (cc)
pointer_shape types (int k) h = absurd (cc)
pointer_shape types (array q n) h = absurd (cc)
pointer_shape types (tag n) h = absurd (cc)
pointer_shape types (function f) h = absurd (cc)

object_int : (types : TypesTy) (o : Option ObjectTy) → has_type is_int o ≡ true → object_shape types o ≡ Number Int
object_int types None h = absurd (cc)
object_int types (Some o) h = int_shape types (type_in o.ty) h

object_pointer : (types : TypesTy) (o : Option ObjectTy) → has_type is_pointer o ≡ true → (size : ℕ) × (object_shape types o ≡ Pointer size)
object_pointer types None h = absurd (cc)
object_pointer types (Some o) h = pointer_shape types (type_in o.ty) h

-- ---- main

started : (u : UnitTy) (main : ℕ) (f : FuncTy) → IsScopedProgram u main → slice_get u.funcs main ≡ Some f → Starts u (Some f)
started u main f h e = subst (Starts u) e h.start

takes : (u : UnitTy) (is : List ℕ) → TakesArguments u is → TakesProgramArguments u is
takes u [] h = tt
takes u (i ∷ j ∷ []) h = let pointer = object_pointer u.types (object_in u j) h.1 in (object_int u.types (object_in u i) h.0, pointer.0, pointer.1)
takes u (i ∷ []) h = absurd h
takes u (i ∷ j ∷ k ∷ is) h = absurd h

pub mains_take_arguments : MainsTakeArguments
mains_take_arguments g f h e = takes (unit_in g) f.params (started (unit_in g) g.main f h e).0

pub mains_give_ints : MainsGiveInts
mains_give_ints g a f result h e is same =
    let main : a.func ≡ g.main = eqb-true a.func g.main same in
    let there = started (unit_in g) g.main f h (ap (slice_get (unit_in g).funcs) (sym main) ∙ e) in
    is ∙ int_shape (unit_in g).types (type_in (result_of f.ty)) there.1
