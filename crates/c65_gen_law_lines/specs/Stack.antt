-- What waits on the software stack above a function's frame, line by line (docs/MACHINE.md, "Routines" and "Calls").
use Rattle.std.specs.Prelude.{ℕ, ◌+◌, ◌==◌, if◌then◌else◌, Bool, Option, Some, None, List, [], ◌∷◌, ◌++◌}
use Rattle.c65_csem.specs.Trees.{Typed, node, Node, deref, member, load, address, decay, convert, unary, binary, both, either, choice, comma, assign, assign_op, assign_step, step, copy, call, pack, spill, Nodes, none, some, MaybeTyped, absent, present, Stmt, eval, set_part, block, if_stmt, while, do_while, for_loop, switch, case, default, label, return, Stmts, no_stmts, and_stmts}
use Rattle.c65_code.specs.declared.line.Callee.{Callee}
use Rattle.c65_code.specs.declared.line.Callee.TheVariants as callees
use Rattle.c65_code.specs.declared.line.Line.{Line}
use Rattle.c65_code.specs.declared.line.Line.TheVariants.{Label, Do, Call}
use Rattle.c65_code.specs.declared.routine.Routine.{Routine}
use Rattle.c65_code.specs.declared.routine.Routine.TheVariants as routines
use Rattle.c65_code.specs.Rows.{number_of}
use Rattle.c65_genframe.specs.Frames.{Framed}
use Rattle.c65_genload.specs.Conversions.{waiting}
use Rattle.c65_genexpr.specs.Types.{bare}
use Rattle.c65_genexpr.specs.Arguments.{is_fast, stays, passed_size}
use Rattle.c65_genexpr.specs.Calls.{named}

-- the bytes of each value that waits, the last one first; and of the calls to come what each takes away, the last one first
pub record Waiting : Type 0 where
  pub values : List ℕ
  pub calls : List (List ℕ)

abbrev pub waiting_by : List ℕ → List (List ℕ) → Waiting
waiting_by values calls = record { values = values; calls = calls }

-- these values are taken away, where they are the last ones
abbrev pub taken : List ℕ → List ℕ → Option (List ℕ)
taken [] values = Some values
taken (n ∷ ns) [] = None
taken (n ∷ ns) (m ∷ values) = if m == n then taken ns values else None

abbrev pub left : List (List ℕ) → Option (List ℕ) → Option Waiting
left calls None = None
left calls (Some values) = Some (waiting_by values calls)

abbrev pub pushed : ℕ → Waiting → Option Waiting
pushed n w = Some (waiting_by (n ∷ w.values) w.calls)

abbrev pub popped : ℕ → Waiting → Option Waiting
popped n w = left w.calls (taken (n ∷ []) w.values)

-- a call takes away its arguments
abbrev pub called : List (List ℕ) → List ℕ → Option Waiting
called [] values = None
called (ns ∷ calls) values = left calls (taken ns values)

-- other routines move sp otherwise, or save and restore regbank: they stand at the entry and the end of functions alone
abbrev pub by_routine : Routine → Waiting → Option Waiting
by_routine routines.PushA w = pushed 1 w
by_routine routines.PushAx w = pushed 2 w
by_routine routines.PushA0 w = pushed 2 w
by_routine routines.Push0 w = pushed 2 w
by_routine routines.PushEax w = pushed 4 w
by_routine routines.PopA w = popped 1 w
by_routine routines.PopAx w = popped 2 w
by_routine routines.PopEax w = popped 4 w
by_routine (routines.IncSp count) w = popped (number_of count) w
by_routine (routines.DecSp count) w = pushed (number_of count) w
by_routine routines.StATos w = popped 2 w
by_routine routines.StAxTos w = popped 2 w
by_routine routines.StEaxTos w = popped 2 w
by_routine routines.CopyTos w = popped 2 w
by_routine (routines.Tos op width) w = popped (waiting width) w
by_routine (routines.Library f) w = called w.calls w.values
by_routine routines.LdAxYSp w = Some w
by_routine routines.LdAx0Sp w = Some w
by_routine routines.LdEaxYSp w = Some w
by_routine routines.StAxYSp w = Some w
by_routine routines.StAx0Sp w = Some w
by_routine routines.StEaxYSp w = Some w
by_routine routines.LdAi w = Some w
by_routine routines.LdAxi w = Some w
by_routine routines.LdEaxi w = Some w
by_routine (routines.Unary op width) w = Some w
by_routine routines.SignA w = Some w
by_routine routines.LongAx w = Some w
by_routine routines.ULongAx w = Some w
by_routine routines.StkChk w = Some w
by_routine _ w = None

abbrev pub by_callee : Callee → Waiting → Option Waiting
by_callee (callees.Routine r) w = by_routine r w
by_callee _ w = called w.calls w.values

abbrev pub by_line : Line → Waiting → Option Waiting
by_line (Label l) w = Some w
by_line (Do op mode operand) w = Some w
by_line (Call callee) w = by_callee callee w

abbrev pub behind : Line → Option Waiting → Option Waiting
behind line None = None
behind line (Some w) = by_line line w

-- what waits behind lines, if they take away nothing but what waits
abbrev pub waits : Option Waiting → List Line → Option Waiting
waits w [] = w
waits w (line ∷ lines) = waits (behind line w) lines

-- ---- the calls of an expression

abbrev pub argument_bytes : Bool → ℕ → List ℕ
argument_bytes kept size = if kept then [] else size ∷ []

-- the arguments that wait when a function is called, the last one first
abbrev pub passed : Framed → Bool → Nodes → List ℕ
passed f fast none = []
passed f fast (some e es) = passed f fast es ++ argument_bytes (stays fast es) (passed_size f e)

abbrev pub bytes_in : List ℕ → ℕ
bytes_in [] = 0
bytes_in (n ∷ ns) = n + bytes_in ns

-- a function that is called by its name takes no lines of its own
abbrev pub unless_named : Option ℕ → List (List ℕ) → List (List ℕ)
unless_named (Some i) calls = []
unless_named None calls = calls

-- what each call of an expression takes away, in the order of their lines
abbrev mutual
  pub calls_of : Framed → Typed → List (List ℕ)
  calls_of f (node t n) = node_calls f n

  pub node_calls : Framed → Node → List (List ℕ)
  node_calls f (deref e) = calls_of f e
  node_calls f (member e m) = calls_of f e
  node_calls f (load e) = calls_of f e
  node_calls f (address e) = calls_of f e
  node_calls f (decay e) = calls_of f e
  node_calls f (convert e) = calls_of f e
  node_calls f (unary op e) = calls_of f e
  node_calls f (binary op a b) = calls_of f a ++ calls_of f b
  node_calls f (both a b) = calls_of f a ++ calls_of f b
  node_calls f (either a b) = calls_of f a ++ calls_of f b
  node_calls f (choice c a b) = calls_of f c ++ (calls_of f a ++ calls_of f b)
  node_calls f (comma a b) = calls_of f a ++ calls_of f b
  node_calls f (assign a b) = calls_of f a ++ calls_of f b
  node_calls f (assign_op op k a b) = calls_of f a ++ calls_of f b
  node_calls f (assign_step op a b) = calls_of f a ++ calls_of f b
  node_calls f (step how e) = calls_of f e
  node_calls f (copy a b) = calls_of f a ++ calls_of f b
  node_calls f (call g es) = unless_named (named g) (calls_of f g) ++ (args_calls f es ++ passed f (is_fast (bare g)) es ∷ [])
  node_calls f (pack e) = calls_of f e
  node_calls f (spill i e) = calls_of f e
  node_calls f _ = []

  pub args_calls : Framed → Nodes → List (List ℕ)
  args_calls f none = []
  args_calls f (some e es) = calls_of f e ++ args_calls f es

-- ---- the calls of a statement

abbrev pub maybe_calls : Framed → MaybeTyped → List (List ℕ)
maybe_calls f absent = []
maybe_calls f (present e) = calls_of f e

abbrev mutual
  pub statement_calls : Framed → Stmt → List (List ℕ)
  statement_calls f (eval e) = calls_of f e
  statement_calls f (set_part i offset e) = calls_of f e
  statement_calls f (block os ss) = statements_calls f ss
  statement_calls f (if_stmt e a b) = calls_of f e ++ (statement_calls f a ++ statement_calls f b)
  statement_calls f (while e a) = calls_of f e ++ statement_calls f a
  statement_calls f (do_while a e) = statement_calls f a ++ calls_of f e
  statement_calls f (for_loop i c n a) = maybe_calls f i ++ (maybe_calls f c ++ (statement_calls f a ++ maybe_calls f n))
  statement_calls f (switch e a) = calls_of f e ++ statement_calls f a
  statement_calls f (case z a) = statement_calls f a
  statement_calls f (default a) = statement_calls f a
  statement_calls f (label n a) = statement_calls f a
  statement_calls f (return e) = maybe_calls f e
  statement_calls f _ = []

  pub statements_calls : Framed → Stmts → List (List ℕ)
  statements_calls f no_stmts = []
  statements_calls f (and_stmts a ss) = statement_calls f a ++ statements_calls f ss
