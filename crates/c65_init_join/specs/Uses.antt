-- Which objects and functions of a unit its trees name.
use Rattle.std.specs.Prelude.{ℕ, List, [], ◌∷◌, length, Bool, true, false, Option, Some, None, unwrap_or, slice_get, slice_set, replicate}
use Rattle.c65_csem.specs.declared.items.Cell.{Cell}
use Rattle.c65_csem.specs.declared.items.Cell.TheVariants.{Byte, Piece}
use Rattle.c65_csem.specs.declared.items.Target.{Target}
use Rattle.c65_csem.specs.declared.items.Target.TheVariants as targets
use Rattle.c65_csem.specs.Trees
use Rattle.c65_csem.specs.Trees.{Typed, node, Node, Nodes, none, some, MaybeTyped, absent, present, Stmt, Stmts, no_stmts, and_stmts, ObjectTy, FuncTy}
use Rattle.c65_init_join.specs.declared.marks.Marks.{Marks}
use Rattle.c65_init_join.specs.Items.{ItemsTy}

-- for each object and each function, whether it is named
pub record MarksTy : Type 0 where
  pub objects : List Bool
  pub funcs : List Bool

abbrev pub marks_of : Marks → MarksTy
marks_of m = record { objects = m.objects.items; funcs = m.funcs.items }

abbrev pub is_marked : List Bool → ℕ → Bool
is_marked marks i = unwrap_or (slice_get marks i) false

abbrev pub with_object : ℕ → MarksTy → MarksTy
with_object i m = record { objects = slice_set m.objects i true; funcs = m.funcs }

abbrev pub with_func : ℕ → MarksTy → MarksTy
with_func i m = record { objects = m.objects; funcs = slice_set m.funcs i true }

-- an expression, beside what was named before it
abbrev mutual
  pub named : Typed → MarksTy → MarksTy
  named (node t e) m = named_by e m

  pub named_by : Node → MarksTy → MarksTy
  named_by (Trees.constant z) m = m
  named_by Trees.null m = m
  named_by (Trees.literal i) m = m
  named_by (Trees.object i) m = with_object i m
  named_by (Trees.func i) m = with_func i m
  named_by (Trees.deref a) m = named a m
  named_by (Trees.member a i) m = named a m
  named_by (Trees.load a) m = named a m
  named_by (Trees.address a) m = named a m
  named_by (Trees.decay a) m = named a m
  named_by (Trees.convert a) m = named a m
  named_by (Trees.unary op a) m = named a m
  named_by (Trees.binary op a b) m = named b (named a m)
  named_by (Trees.both a b) m = named b (named a m)
  named_by (Trees.either a b) m = named b (named a m)
  named_by (Trees.choice x a b) m = named b (named a (named x m))
  named_by (Trees.comma a b) m = named b (named a m)
  named_by (Trees.assign a b) m = named b (named a m)
  named_by (Trees.assign_op op k a b) m = named b (named a m)
  named_by (Trees.assign_step op a b) m = named b (named a m)
  named_by (Trees.step how a) m = named a m
  named_by (Trees.copy a b) m = named b (named a m)
  named_by (Trees.call f es) m = named_in es (named f m)
  named_by (Trees.pack a) m = named a m
  named_by (Trees.spill i a) m = with_object i (named a m)
  named_by Trees.rest m = m

  pub named_in : Nodes → MarksTy → MarksTy
  named_in none m = m
  named_in (some e es) m = named_in es (named e m)

abbrev pub maybe_named : MaybeTyped → MarksTy → MarksTy
maybe_named absent m = m
maybe_named (present e) m = named e m

-- a statement; one that only sets or clears a part of an object names what it stores
abbrev mutual
  pub stmt_named : Stmt → MarksTy → MarksTy
  stmt_named Trees.empty m = m
  stmt_named (Trees.eval e) m = named e m
  stmt_named (Trees.set_part i offset e) m = named e m
  stmt_named (Trees.clear i) m = m
  stmt_named (Trees.block os ss) m = stmts_named ss m
  stmt_named (Trees.if_stmt e a b) m = stmt_named b (stmt_named a (named e m))
  stmt_named (Trees.while e a) m = stmt_named a (named e m)
  stmt_named (Trees.do_while a e) m = named e (stmt_named a m)
  stmt_named (Trees.for_loop i c n a) m = stmt_named a (maybe_named n (maybe_named c (maybe_named i m)))
  stmt_named (Trees.switch e a) m = stmt_named a (named e m)
  stmt_named (Trees.case z a) m = stmt_named a m
  stmt_named (Trees.default a) m = stmt_named a m
  stmt_named (Trees.label l a) m = stmt_named a m
  stmt_named (Trees.goto l) m = m
  stmt_named Trees.break m = m
  stmt_named Trees.continue m = m
  stmt_named (Trees.return e) m = maybe_named e m

  pub stmts_named : Stmts → MarksTy → MarksTy
  stmts_named no_stmts m = m
  stmts_named (and_stmts a ss) m = stmts_named ss (stmt_named a m)

-- what an initial pointer names
abbrev pub target_named : Target → MarksTy → MarksTy
target_named (targets.Object i) m = with_object i m
target_named (targets.Func i) m = with_func i m
target_named (targets.Literal i) m = m

abbrev pub cell_named : Cell → MarksTy → MarksTy
cell_named (Byte b) m = m
cell_named (Piece target offset part) m = target_named target m

abbrev pub cells_named : List Cell → MarksTy → MarksTy
cells_named [] m = m
cells_named (x ∷ xs) m = cells_named xs (cell_named x m)

abbrev pub init_named : Option (List Cell) → MarksTy → MarksTy
init_named None m = m
init_named (Some cells) m = cells_named cells m

abbrev pub inits_named : List ObjectTy → MarksTy → MarksTy
inits_named [] m = m
inits_named (o ∷ os) m = inits_named os (init_named o.init m)

abbrev pub body_named : Option Stmt → MarksTy → MarksTy
body_named None m = m
body_named (Some body) m = stmt_named body m

abbrev pub bodies_named : List FuncTy → MarksTy → MarksTy
bodies_named [] m = m
bodies_named (f ∷ fs) m = bodies_named fs (body_named f.body m)

abbrev pub unmarked : ItemsTy → MarksTy
unmarked u = record { objects = replicate (length u.objects) false; funcs = replicate (length u.funcs) false }

-- what the initial values and the bodies of a unit name
abbrev pub uses_of : ItemsTy → MarksTy
uses_of u = bodies_named u.funcs (inits_named u.objects (unmarked u))
