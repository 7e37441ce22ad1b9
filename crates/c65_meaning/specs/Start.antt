-- The call of `main`: the initial store and the arguments of the program (C90 5.1.2.2.1, 6.1.2.4, 6.1.4, 6.5.7).
use Rattle.std.specs.Prelude.{ℕ, zero, suc, ◌+◌, ◌-◌, ◌*◌, ◌/◌, ◌%◌, ◌&&◌, Bool, true, false, ℤ, pos, negsuc, List, [], ◌∷◌, ◌++◌, Option, Some, None, slice_get, length, nat_lt, nat_le, if◌then◌else◌}
use Rattle.c65_csem.specs.declared.items.Cell.{Cell as InitialCell}
use Rattle.c65_csem.specs.declared.items.Cell.TheVariants.{Byte, Piece as InitialPiece}
use Rattle.c65_csem.specs.declared.items.Target.{Target}
use Rattle.c65_csem.specs.declared.items.Target.TheVariants as T
use Rattle.c65_csem.specs.Trees.{Stmt, ObjectTy, FuncTy, UnitTy}
use Rattle.c65_meaning.specs.Program.{ProgramTy}
use Rattle.c65_meaning.specs.declared.action.Action.TheVariants.{OffsetOutside}
use Rattle.c65_meaning.specs.Why.{By, Unfit}
use Rattle.c65_meaning.specs.Store.{Cell, Piece, byte, Block, Store, Value, Whole, Place, function_block, set_block, size_in_store}
use Rattle.c65_meaning.specs.Shapes.{object_in, object_size, object_sealed, lives_in_frame, literal_block, object_block, first_block}
use Rattle.c65_meaning.specs.Costs.{bytes_of_objects, soft_cost, arguments_bytes}
use Rattle.c65_meaning.specs.State.{Scene, State, Undefined}
use Rattle.c65_meaning.specs.Step.{entered}

abbrev pub bytes_at : List ℕ → ℕ → Cell
bytes_at [] o = byte 0
bytes_at (b ∷ rest) zero = byte b
bytes_at (b ∷ rest) (suc o) = bytes_at rest o

-- a block of the whole run with these bytes
abbrev pub text_block : Bool → List ℕ → Block
text_block sealed text = record { size = length text; holds = length text; live = true; sealed = sealed; cells = bytes_at text }

-- a literal has a closing zero
abbrev pub literal_in : Option (List ℕ) → Option Block
literal_in None = None
literal_in (Some text) = Some (text_block true (text ++ 0 ∷ []))

abbrev pub from_zero : ℤ → ℕ
from_zero (pos n) = n
from_zero (negsuc n) = 0

-- the list of pointers to `count` blocks from `first` on, and a null
abbrev pub argv_cells : ℕ → ℕ → ℕ → Cell
argv_cells first count o = if nat_lt (o / 2) count then Piece (o % 2) (first + o / 2) 0 else byte 0

abbrev pub argv_block : ℕ → ℕ → Block
argv_block first count = record { size = 2 * suc count; holds = 2 * suc count; live = true; sealed = false; cells = argv_cells first count }

abbrev pub with_texts : ℕ → List (List ℕ) → Store → Store
with_texts b [] s = s
with_texts b (a ∷ rest) s = with_texts (suc b) rest (set_block s b (text_block false (a ++ 0 ∷ [])))

module _ (u : UnitTy) where
  abbrev pub target_block : Target → ℕ
  target_block (T.Object i) = object_block u i
  target_block (T.Literal l) = literal_block u l
  target_block (T.Func f) = f

  abbrev pub initial_cell : Option InitialCell → Cell
  initial_cell None = byte 0
  initial_cell (Some (Byte b)) = byte b
  initial_cell (Some (InitialPiece target o i)) = Piece i (target_block target) (from_zero o)

  abbrev pub cells_of : Option (List InitialCell) → ℕ → Cell
  cells_of None o = byte 0
  cells_of (Some cells) o = initial_cell (slice_get cells o)

  -- a static object has its initial value, or zero bytes
  abbrev pub static_block : Option ObjectTy → Option Block
  static_block None = None
  static_block (Some x) = if lives_in_frame (Some x) then None else Some (record { size = object_size u.types (Some x); holds = object_size u.types (Some x); live = true; sealed = object_sealed (Some x); cells = cells_of x.init })

  abbrev pub initial_store : Store
  initial_store b = if nat_lt b (literal_block u 0) then Some function_block else (if nat_lt b (object_block u 0) then literal_in (slice_get u.literals (b - literal_block u 0)) else static_block (object_in u (b - object_block u 0)))

  -- ---- initial values that point outside their block

  abbrev pub initial_size : Target → ℕ
  initial_size target = size_in_store (initial_store (target_block target))

  abbrev pub is_inside : InitialCell → Bool
  is_inside (Byte b) = true
  is_inside (InitialPiece target (pos o) i) = nat_le o (initial_size target)
  is_inside (InitialPiece target (negsuc o) i) = false

  abbrev pub are_inside : List InitialCell → Bool
  are_inside [] = true
  are_inside (c ∷ rest) = is_inside c && are_inside rest

  abbrev pub init_inside : Option (List InitialCell) → Bool
  init_inside None = true
  init_inside (Some cells) = are_inside cells

  abbrev pub objects_inside : List ObjectTy → Bool
  objects_inside [] = true
  objects_inside (x ∷ rest) = init_inside x.init && objects_inside rest

  -- ---- the arguments of the program

  abbrev pub with_arguments : List (List ℕ) → Store
  with_arguments args = with_texts (suc (first_block u)) args (set_block initial_store (first_block u) (argv_block (suc (first_block u)) (length args)))

  -- only where `main` takes them
  abbrev pub first_store : List ℕ → List (List ℕ) → Store
  first_store [] args = initial_store
  first_store _ args = with_arguments args

  abbrev pub first_scene : Bool → List ℕ → List (List ℕ) → List ℕ → Scene
  first_scene free params args input = record { frames = []; store = first_store params args; next = first_block u + suc (length args); input = input; out = []; turns = 0; free = free }

  -- `main` takes no arguments, or their number and their list
  abbrev pub main_values : List (List ℕ) → List ℕ → List Value
  main_values args [] = []
  main_values args _ = Whole (pos (length args)) ∷ Place (first_block u) 0 ∷ []

  abbrev pub started : Bool → ℕ → List (List ℕ) → List ℕ → FuncTy → Option Stmt → State
  started free f args input g None = Undefined Unfit
  started free f args input g (Some body) = entered u f g body (soft_cost u (bytes_of_objects u g.params) body + arguments_bytes args) [] (main_values args g.params) [] [] (first_scene free g.params args input)

  abbrev pub started_by : Bool → ℕ → List (List ℕ) → List ℕ → Option FuncTy → State
  started_by free f args input None = Undefined Unfit
  started_by free f args input (Some g) = started free f args input g g.body

-- the call of `main`; an initial pointer that points outside its object is undefined from the start
abbrev pub start_in : Bool → ProgramTy → List (List ℕ) → List ℕ → State
start_in free p args input = if objects_inside p.unit p.unit.objects then started_by p.unit free p.main args input (slice_get p.unit.funcs p.main) else Undefined (By OffsetOutside)

abbrev pub start : ProgramTy → List (List ℕ) → List ℕ → State
start p args input = start_in false p args input
