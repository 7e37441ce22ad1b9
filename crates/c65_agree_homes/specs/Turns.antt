-- The lines of a program at which turns are counted: heads of loops, `goto`s and calls (C90 6.3.2.2, 6.6.5, 6.6.6.1).
use Rattle.std.specs.Prelude.{◌≡◌, ℕ, suc, ◌+◌, if◌then◌else◌, List, [], ◌∷◌, ◌++◌, Option, Some, None, Result, Ok, Err, length}
use Rattle.c65_base.specs.Answers.{Fault}
use Rattle.c65_csem.specs.declared.items.Parts.{Parts}
use Rattle.c65_csem.specs.declared.items.TFunc.{TFunc}
use Rattle.c65_csem.specs.Trees.{Stmt, FuncTy}
use Rattle.c65_csem.specs.Views.{func_of}
use Rattle.c65_code.specs.declared.line.Line.{Line}
use Rattle.c65_code.specs.LineState.{Place}
use Rattle.c65_code.specs.Placement.{Setting}
use Rattle.c65_genframe.specs.declared.modes.Modes.{Modes}
use Rattle.c65_genframe.specs.Frames.{Framed, frame_of}
use Rattle.c65_genframe.specs.Symbols.{numbers_of, function_symbol}
use Rattle.c65_genentry.specs.Entry.{entry_code}
use Rattle.c65_genstmt.specs.Stmts.{ways}
use Rattle.c65_genstmt.specs.Functions.{body_room}
use Rattle.c65_gen_law_calls.specs.Lines.{is_calling}
use Rattle.c65_agree_step.specs.Ways.{place_at}
use Rattle.c65_agree_state.specs.World.{World, setting_in}
use Rattle.c65_agree_lines.specs.Turns.{Turn, LoopAt, GotoAt, turns_of}

-- ---- of a function

-- the first label of its statements, behind that of its end and those of its own labels
abbrev pub first_label : Stmt → ℕ
first_label body = 0 + 1 + body_room (Some body)

-- the turns of its body, whose lines stand behind those of the entry
abbrev pub body_turns : Framed → Stmt → List Turn
body_turns f body = turns_of f (ways 0 0 0) 0 body (first_label body) (length (entry_code f))

abbrev pub turns_if : Framed → Option Stmt → List Turn
turns_if f None = []
turns_if f (Some body) = body_turns f body

abbrev pub framed_turns : Option Stmt → Result Framed Fault → List Turn
framed_turns body (Err why) = []
framed_turns body (Ok f) = turns_if f body

abbrev pub function_turns : Parts → Modes → FuncTy → List Turn
function_turns parts modes f = framed_turns f.body (frame_of parts modes f)

-- ---- their lines, in the function with a symbol

module _ (s : Setting) (symbol : ℕ) where
  abbrev pub heads_at : List Turn → List Place
  heads_at [] = []
  heads_at (LoopAt p ∷ ts) = place_at s symbol p ∷ heads_at ts
  heads_at (GotoAt p ∷ ts) = heads_at ts

  abbrev pub gotos_at : List Turn → List Place
  gotos_at [] = []
  gotos_at (LoopAt p ∷ ts) = gotos_at ts
  gotos_at (GotoAt p ∷ ts) = place_at s symbol p ∷ gotos_at ts

  -- the first of these lines has the number p
  abbrev pub calls_at : ℕ → List Line → List Place
  calls_at p [] = []
  calls_at p (line ∷ lines) = if is_calling line then place_at s symbol p ∷ calls_at (suc p) lines else calls_at (suc p) lines

-- ---- of a program

module _ (g : World) where
  abbrev pub symbol_of : ℕ → ℕ
  symbol_of i = (function_symbol (numbers_of g.parts) i).0

  abbrev pub heads_of : ℕ → FuncTy → List Place
  heads_of i f = heads_at (setting_in g) (symbol_of i) (function_turns g.parts g.modes f)

  abbrev pub owns_by : ℕ → Option Stmt → List Turn → List Place
  owns_by i None ts = []
  owns_by i (Some body) ts = gotos_at (setting_in g) (symbol_of i) ts ++ calls_at (setting_in g) (symbol_of i) 0 ((setting_in g).lines (symbol_of i))

  abbrev pub owns_of : ℕ → FuncTy → List Place
  owns_of i f = owns_by i f.body (function_turns g.parts g.modes f)

  -- the first of these functions has the number i
  abbrev pub all_heads : ℕ → List TFunc → List Place
  all_heads i [] = []
  all_heads i (f ∷ fs) = heads_of i (func_of f) ++ all_heads (suc i) fs

  abbrev pub all_owns : ℕ → List TFunc → List Place
  all_owns i [] = []
  all_owns i (f ∷ fs) = owns_of i (func_of f) ++ all_owns (suc i) fs

-- turns are counted at these lines of the program, at each as often as loops, `goto`s and calls have it
pub record CountsTurns (g : World) : Type 0 where
  pub heads : g.heads ≡ all_heads g 0 g.parts.funcs.items
  pub owns : g.owns ≡ all_owns g 0 g.parts.funcs.items
