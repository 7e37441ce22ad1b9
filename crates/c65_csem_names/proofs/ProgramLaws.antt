-- What the tests of initial values, of types and of whole programs tell.
use Rattle.std.proofs.Common.{◌≡◌, ℕ, zero, suc, ◌<◌, ◌≤◌, List, [], ◌∷◌, length, get_or, refl, ap, ◌∙◌, arith, Some, None, false, ◌⊎◌, inl, inr, Option, slice_get, nat_le, Bool, true}
use Rattle.std.specs.Prelude.{IsSome, IsTrue, All, nat_lt, ⊤}
use Rattle.std.proofs.lemmas.Bool.{le-leb, leb-true}
use Rattle.std.proofs.lemmas.Bool.Decides.{Decides-eqb, Decides-ltb}
use Rattle.c65_ctype.specs.Trees.{type_in, Fn}
use Rattle.c65_csem.specs.declared.items.Cell.{Cell}
use Rattle.c65_csem.specs.declared.items.Cell.TheVariants.{Byte, Piece}
use Rattle.c65_base.specs.declared.library.Library.{Library}
use Rattle.c65_csem.specs.declared.items.Target.{Target}
use Rattle.c65_csem.specs.declared.items.Target.TheVariants as T
use Rattle.c65_csem.specs.Library.{library_type}
use Rattle.c65_csem.specs.Places.{is_automatic}
use Rattle.c65_csem.specs.Trees.{ObjectTy, FuncTy, UnitTy}
use Rattle.c65_csem.specs.Typed.{result_of}
use Rattle.c65_meaning.specs.Shapes.{object_in, lives_in_frame}
use Rattle.c65_csem_names.specs.Initial.{IsOfWholeRun, PointsToWholeRun, HasStaticPointers, first_pieces, second_pieces, IsWhole, BeginsWhole}
use Rattle.c65_csem_names.specs.Library.{IsTypedAs, HasLibraryType, HaveLibraryTypes}
use Rattle.c65_csem_names.specs.Programs.{is_int, is_pointer, has_type, TakesArguments, Starts, IsScopedProgram}
use Rattle.c65_csem_names.specs.Tests as b
use Rattle.c65_csem_check.proofs.TypeLaws.{tells_fn}
use Rattle.c65_csem_names.proofs.ScopeLaws.{tells_bodies}
use Rattle.c65_csem_names.proofs.Tells.{Tells, like, tells_itself, tells_unit, tells_not, tells_never, from_decides, both, three, either, tells_if, tells_all, tells_each, AtEach, all_each, each_all}

-- ---- initial values

is_inside : {A : Type 0} (xs : List A) (i : ℕ) → i < length xs → IsSome (slice_get xs i)
is_inside [] i h = absurd (omega arith)
is_inside (x ∷ xs) zero h = refl
is_inside (x ∷ xs) (suc i) h = is_inside xs i (omega arith)

inside : {A : Type 0} (xs : List A) (i : ℕ) → IsSome (slice_get xs i) → i < length xs
inside [] i h = cc
inside (x ∷ xs) zero h = omega arith
inside (x ∷ xs) (suc i) h = let r = inside xs i h in omega arith

tells_inside : {A : Type 0} (xs : List A) (i : ℕ) → Tells (nat_lt i (length xs)) (IsSome (slice_get xs i))
tells_inside xs i = like (from_decides _ _ (Decides-ltb i (length xs))) (is_inside xs i) (inside xs i)

tells_lasting : (o : Option ObjectTy) → Tells (b.is_lasting o) (IsSome o × (lives_in_frame o ≡ false))
tells_lasting None = record { yes = λ h. cc; only = λ w. let e = w.0 in cc }
tells_lasting (Some x) = like (tells_not (is_automatic x.class)) (λ h. (refl, h)) (λ h. h.1)

module _ (u : UnitTy) where
  tells_target : (t : Target) → Tells (b.is_of_whole_run u t) (IsOfWholeRun u t)
  tells_target (T.Object i) = tells_lasting (object_in u i)
  tells_target (T.Literal l) = tells_inside u.literals l
  tells_target (T.Func f) = tells_inside u.funcs f

  tells_points : (x : Cell) → Tells (b.points_to_whole_run u x) (PointsToWholeRun u x)
  tells_points (Byte n) = tells_unit
  tells_points (Piece target offset part) = tells_target target

  tells_cells : (xs : List Cell) → Tells (b.point_to_whole_run u xs) (AtEach (PointsToWholeRun u) xs)
  tells_cells xs = tells_each (b.point_to_whole_run u) (b.points_to_whole_run u) (PointsToWholeRun u) refl (λ x xs. refl) tells_points xs

  abbrev PointsIn : Option (List Cell) → Type 0
  PointsIn o = (cells : List Cell) (n : ℕ) (x : Cell) → o ≡ Some cells → slice_get cells n ≡ Some x → PointsToWholeRun u x

  tells_le : (m n : ℕ) → Tells (nat_le m n) (m ≤ n)
  tells_le m n = record { yes = λ h. leb-true m n h; only = λ w. le-leb m n w }

  only_these : (xs ys : List Cell) → Some xs ≡ Some ys → xs ≡ ys
  only_these xs ys h = cc

  tells_init : (o : Option (List Cell)) → Tells (b.is_whole u o) (PointsIn o × IsWhole o)
  tells_init None = record { yes = λ h. ((λ cells n x e f. cc), tt); only = λ w. refl }
  tells_init (Some xs) = like (three (tells_cells xs) (tells_le (length xs) 65535) (tells_le (first_pieces xs) (second_pieces xs)))
      (λ h. ((λ cells n x e f. h.0 n x (ap (λ (ys : List Cell). slice_get ys n) (only_these xs cells e) ∙ f)), (h.1, h.2)))
      (λ h. ((λ n x f. h.0 xs n x refl f), h.1.0, h.1.1))

  tells_begin : (os : List ObjectTy) → Tells (b.begin_well u os) (AtEach (λ o. PointsIn o.init × IsWhole o.init) os)
  tells_begin os = tells_each (b.begin_well u) (b.begins_well u) (λ o. PointsIn o.init × IsWhole o.init) refl (λ o os. refl) (λ o. tells_init o.init) os

  tells_initial : Tells (b.begin_well u u.objects) (HasStaticPointers u × All BeginsWhole u.objects)
  tells_initial = like (tells_begin u.objects)
      (λ h. ((λ i n o cells x e f g. (h i o e).0 cells n x f g), all_each BeginsWhole u.objects (λ i o e. (h i o e).1)))
      (λ h i o e. ((λ cells n x f g. h.0 i n o cells x e f g), each_all BeginsWhole u.objects h.1 i o e))

-- ---- types

tells_typed_if : (s : Bool) (l : Option Library) (f : Fn) → Tells (b.is_typed_if s l f) (IsTypedAs s l f)
tells_typed_if s None f = tells_unit
tells_typed_if s (Some l) f = let same = tells_fn {S = ⊤} f (library_type s l) in record { yes = λ h. same.yes h; only = λ w. same.only tt w }

tells_where : (s : Bool) (fs : List FuncTy) → Tells (b.have_types_where s fs) (All (HasLibraryType s) fs)
tells_where s fs = tells_all (b.have_types_where s) (b.has_library_type s) (HasLibraryType s) refl (λ f fs. refl) (λ f. tells_typed_if s f.library f.ty) fs

tells_library : (u : UnitTy) → Tells (b.have_library_types u.funcs) (HaveLibraryTypes u)
tells_library u = like (either (tells_where false u.funcs) (tells_where true u.funcs)) to from
  where
    to : All (HasLibraryType false) u.funcs ⊎ All (HasLibraryType true) u.funcs → HaveLibraryTypes u
    to (inl w) = (false, w)
    to (inr w) = (true, w)

    from : HaveLibraryTypes u → All (HasLibraryType false) u.funcs ⊎ All (HasLibraryType true) u.funcs
    from (false, w) = inl w
    from (true, w) = inr w

-- ---- the start

module _ (u : UnitTy) where
  abbrev Taken : List ℕ → Type 0
  Taken params = (length params ≡ 0) ⊎ ((length params ≡ 2) × (IsTrue (has_type is_int (object_in u (get_or params 0 0))) × IsTrue (has_type is_pointer (object_in u (get_or params 1 0)))))

  to_taken : (params : List ℕ) → Taken params → TakesArguments u params
  to_taken [] w = tt
  to_taken (i ∷ []) (inl e) = absurd (omega arith)
  to_taken (i ∷ []) (inr w) = let e = w.0 in absurd (omega arith)
  to_taken (i ∷ j ∷ []) (inl e) = absurd (omega arith)
  to_taken (i ∷ j ∷ []) (inr w) = w.1
  to_taken (i ∷ j ∷ k ∷ rest) (inl e) = absurd (omega arith)
  to_taken (i ∷ j ∷ k ∷ rest) (inr w) = let e = w.0 in absurd (omega arith)

  from_taken : (params : List ℕ) → TakesArguments u params → Taken params
  from_taken [] w = inl refl
  from_taken (i ∷ []) w = absurd w
  from_taken (i ∷ j ∷ []) w = inr (refl, w)
  from_taken (i ∷ j ∷ k ∷ rest) w = absurd w

  tells_takes : (params : List ℕ) → Tells (b.takes_arguments u params) (TakesArguments u params)
  tells_takes params = like (either (from_decides _ _ (Decides-eqb (length params) 0)) (both (from_decides _ _ (Decides-eqb (length params) 2)) (both (tells_itself (has_type is_int (object_in u (get_or params 0 0)))) (tells_itself (has_type is_pointer (object_in u (get_or params 1 0))))))) (to_taken params) (from_taken params)

  tells_starts : (f : Option FuncTy) → Tells (b.starts u f) (Starts u f)
  tells_starts None = tells_never
  tells_starts (Some f) = both (tells_takes f.params) (tells_itself (is_int (type_in (result_of f.ty))))

  -- ---- whole programs

  pub tells_program : (main : ℕ) → Tells (b.is_scoped_program u main) (IsScopedProgram u main)
  tells_program main = like (tells_if (three (tells_initial u) (tells_starts (slice_get u.funcs main)) (tells_library u)) (tells_bodies u))
      (λ w. record { bodies = w.1; pointers = w.0.0.0; values = w.0.0.1; start = w.0.1; library = w.0.2 })
      (λ w. (((w.pointers, w.values), w.start, w.library), w.bodies))
