-- Initial values (C90 6.1.2.4, 6.5.7).
use Rattle.std.specs.Prelude.{◌≡◌, ℕ, ◌+◌, ◌≤◌, ◌==◌, false, List, [], ◌∷◌, length, Option, Some, None, IsSome, slice_get, ⊤, if◌then◌else◌}
use Rattle.c65_csem.specs.declared.items.Cell.{Cell}
use Rattle.c65_csem.specs.declared.items.Cell.TheVariants.{Byte, Piece}
use Rattle.c65_csem.specs.declared.items.Target.{Target}
use Rattle.c65_csem.specs.declared.items.Target.TheVariants as T
use Rattle.c65_csem.specs.Trees.{ObjectTy, UnitTy}
use Rattle.c65_meaning.specs.Shapes.{object_in, lives_in_frame}

-- an object of the whole run, a literal or a function
abbrev pub IsOfWholeRun : UnitTy → Target → Type 0
IsOfWholeRun u (T.Object i) = IsSome (object_in u i) × (lives_in_frame (object_in u i) ≡ false)
IsOfWholeRun u (T.Literal l) = IsSome (slice_get u.literals l)
IsOfWholeRun u (T.Func f) = IsSome (slice_get u.funcs f)

abbrev pub PointsToWholeRun : UnitTy → Cell → Type 0
PointsToWholeRun u (Byte b) = ⊤
PointsToWholeRun u (Piece target offset part) = IsOfWholeRun u target

-- no initial value points to an automatic object
abbrev pub HasStaticPointers : UnitTy → Type 0
HasStaticPointers u = (i n : ℕ) (o : ObjectTy) (cells : List Cell) (x : Cell) → slice_get u.objects i ≡ Some o → o.init ≡ Some cells → slice_get cells n ≡ Some x → PointsToWholeRun u x

-- the first pieces of pointers, and their second ones
abbrev pub first_pieces : List Cell → ℕ
first_pieces [] = 0
first_pieces (Byte b ∷ cells) = first_pieces cells
first_pieces (Piece target offset part ∷ cells) = (if part == 0 then 1 else 0) + first_pieces cells

abbrev pub second_pieces : List Cell → ℕ
second_pieces [] = 0
second_pieces (Byte b ∷ cells) = second_pieces cells
second_pieces (Piece target offset part ∷ cells) = (if part == 0 then 0 else 1) + second_pieces cells

-- an initial value has at most 65,535 bytes, and both pieces of each of its pointers
abbrev pub IsWhole : Option (List Cell) → Type 0
IsWhole None = ⊤
IsWhole (Some cells) = (length cells ≤ 65535) × (first_pieces cells ≤ second_pieces cells)

abbrev pub BeginsWhole : ObjectTy → Type 0
BeginsWhole o = IsWhole o.init
