-- Ways through the functions of a compiled program, with all calls on them (docs/MACHINE.md, "Calls").
use Rattle.std.specs.Prelude.{◌≡◌, ℕ, suc, ◌+◌, ◌^◌, ◌<◌, ◌≤◌, ◌==◌, ◌⊎◌, IsTrue, true, Option, None, Some, Ok, List, ◌++◌, length, slice_get}
use Rattle.c65_csem.specs.declared.items.Parts.{Parts}
use Rattle.c65_base.specs.declared.library.Library.{Library}
use Rattle.c65_csem.specs.Library.{takes_more}
use Rattle.c65_csem.specs.Trees.{Stmt, FuncTy}
use Rattle.c65_csem.specs.Units.{IsUnit}
use Rattle.c65_csem.specs.Views.{unit_of}
use Rattle.c65_code.specs.declared.parts.RegSet.{RegSet}
use Rattle.c65_code.specs.declared.line.Callee.{Callee}
use Rattle.c65_code.specs.declared.line.Callee.TheVariants as callees
use Rattle.c65_code.specs.declared.line.Line.{Line}
use Rattle.c65_code.specs.declared.line.Line.TheVariants.{Call}
use Rattle.c65_code.specs.declared.routine.Routine.TheVariants as routines
use Rattle.c65_code.specs.Parts.{union_of}
use Rattle.c65_code.specs.Effects.{ptr4_bytes}
use Rattle.c65_code.specs.LineState.{Place, State, sp_of}
use Rattle.c65_code.specs.Placement.{Setting}
use Rattle.c65_code.specs.Forms.{form_of}
use Rattle.c65_code.specs.Rows.{Row, row_of}
use Rattle.c65_code.specs.Moves.{settle, MeetsRow, IsCallee, Enters, Moves}
use Rattle.c65_code.specs.Steady.{IsSteady}
use Rattle.c65_genframe.specs.declared.modes.Modes.{Modes}
use Rattle.c65_genframe.specs.Frames.{Framed, frame_of}
use Rattle.c65_genframe.specs.Symbols.{numbers_of, function_symbol}
use Rattle.c65_genexpr.specs.Calls.{named}
use Rattle.c65_genentry.specs.Entry.{entry_code}
use Rattle.c65_genentry.specs.Ends.{end_code}
use Rattle.c65_genstmt.specs.Functions.{gives_of, no_lines, with_function}
use Rattle.c65_gen_law_lines.specs.Stack.{bytes_in}
use Rattle.c65_gen_law_stack.specs.Passing.{Passes}
use Rattle.c65_gen_law_stack.specs.Calls.{parameter_bytes}
use Rattle.c65_gen_law_stack.specs.Going.{IsOwn, at_first}
use Rattle.c65_gen_law_stack.specs.Walks.{Laid, bytes_before, place_in}
use Rattle.c65_gen_law_calls.specs.Sites.{Site, bytes_of}
use Rattle.c65_gen_law_calls.specs.Lines.{site_at}
use Rattle.c65_gen_law_calls.specs.Agreement.{Agrees, LibraryAgrees, NamesAgree}

-- a program: its parts, the number of its main function, and what the options ask of its lines
pub record Program : Type 0 where
  pub parts : Parts
  pub main : ℕ
  pub modes : Modes

-- a function of a program that has a body, with its frame, and its lines between its entry and its end
pub record Compiled : Type 0 where
  pub index : ℕ
  pub func : FuncTy
  pub body : Stmt
  pub frame : Framed
  pub middle : List Line

abbrev pub laid : Program → Compiled → Laid
laid p c = record { number = (function_symbol (numbers_of p.parts) c.index).0; frame = c.frame; middle = c.middle; first = at_first c.frame c.body }

abbrev pub all_lines : Program → Compiled → List Line
all_lines p c = (with_function c.frame (c.index == p.main) (Some c.body) (no_lines (gives_of p.parts c.func))).lines

-- the machine has the lines of the function
pub record IsCompiled (s : Setting) (p : Program) (c : Compiled) : Type 0 where
  pub found : slice_get (unit_of p.parts).funcs c.index ≡ Some c.func
  pub has_body : c.func.body ≡ Some c.body
  pub framed : frame_of p.parts p.modes c.func ≡ Ok c.frame
  pub lines : s.lines (laid p c).number ≡ all_lines p c
  pub split : all_lines p c ≡ entry_code c.frame ++ (c.middle ++ end_code c.frame)
  pub few : (with_function c.frame (c.index == p.main) (Some c.body) (no_lines (gives_of p.parts c.func))).labels ≤ 2 ^ 32

-- a well typed program whose symbols have numbers of their own
pub record IsSound (p : Program) : Type 0 where
  pub typed : IsUnit (unit_of p.parts)
  pub names : NamesAgree (unit_of p.parts)
  pub few : length p.parts.objects.items + length p.parts.literals.items + length p.parts.funcs.items ≤ 2 ^ 32

-- the line calls the function with this number, and the machine stands at its first line
abbrev pub CallsOne : Setting → Callee → ℕ → Place → State → Place → State → Type 0
CallsOne s (callees.Function g reads gives) n p t q u = (g.0 ≡ n) × Enters s n reads gives p t q u
CallsOne s (callees.Pointer reads gives) n p t q u = IsCallee s t n × Enters s n (union_of reads ptr4_bytes) gives p t q u
CallsOne s (callees.Routine r) n p t q u = ⊥

abbrev pub Reaches : Setting → Line → ℕ → Place → State → Place → State → Type 0
Reaches s (Call callee) n p t q u = CallsOne s callee n p t q u
Reaches s _ n p t q u = ⊥

-- the line calls a function of the library, by its routine or through a pointer, and the machine stands behind it
abbrev pub RunsLibrary : Line → Library → Type 0
RunsLibrary line l = (line ≡ Call (callees.Routine (routines.Library l))) ⊎ ((reads : RegSet) × (gives : RegSet) × (line ≡ Call (callees.Pointer reads gives)))

-- a row whose needs are met
abbrev pub IsReady : Option Row → Type 0
IsReady None = ⊥
IsReady (Some row) = IsTrue row.ready

-- `printf` alone needs its row ready, and its further arguments end below the top of memory
pub record Runs (s : Setting) (line : Line) (l : Library) (p : Place) (t : State) (q : Place) (u : State) : Type 0 where
  pub called : RunsLibrary line l
  pub to : q ≡ (p.0, settle (s.lines p.0) (suc p.1))
  pub row : MeetsRow (row_of (routines.Library l) t) t u
  pub ready : takes_more l ≡ true → IsReady (row_of (routines.Library l) t)
  pub below : takes_more l ≡ true → sp_of t + t.regs.y < 65536

-- what is asked of a call where it is made: through a pointer, that it agrees with the function that is called
abbrev pub Through : Option ℕ → Type 0 → Type 0
Through None asked = asked
Through (Some i) asked = Unit {0}

-- From one of a function's lines, or the line behind them, to another: by moves that call no function, by whole calls of functions of
-- the library, and by whole calls of compiled functions, through the entry of the called function, a way from one of its lines to
-- another before which as much waits, and its end. At a variadic call Y is the number of bytes that wait for it, and a compiled function
-- leaves the number at sp alone.
pub data Travels (s : Setting) (p : Program) : Compiled → ℕ → State → ℕ → State → Type 0 where
  stays : {c : Compiled} {j : ℕ} {t : State} → Travels s p c j t j t
  moves : {c : Compiled} {j k m : ℕ} {t u v : State} (line : Line) → slice_get c.middle j ≡ Some line → IsOwn (form_of line) → IsSteady s line t
      → Moves s line (place_in (laid p c) j) t (place_in (laid p c) k) u → Travels s p c k u m v → Travels s p c j t m v
  library : {c : Compiled} {j k m : ℕ} {t u v : State} (line : Line) (l : Library) → slice_get c.middle j ≡ Some line
      → Runs s line l (place_in (laid p c) j) t (place_in (laid p c) k) u
      → ((site : Site) → site_at c.body c.middle j ≡ Some site → Through (named site.callee) (LibraryAgrees site l))
      → ((site : Site) → site_at c.body c.middle j ≡ Some site → takes_more l ≡ true → t.regs.y ≡ bytes_in (bytes_of c.frame site))
      → Travels s p c k u m v → Travels s p c j t m v
  calls : {c d : Compiled} {j k m from to : ℕ} {a u v x y : State} (q : Place) (t : State) (line : Line) → IsCompiled s p d → slice_get c.middle j ≡ Some line
      → Reaches s line (laid p d).number (place_in (laid p c) j) a q t
      → ((site : Site) → site_at c.body c.middle j ≡ Some site → Through (named site.callee) (Agrees (unit_of p.parts) site d.func))
      → ((site : Site) → site_at c.body c.middle j ≡ Some site → d.frame.variadic ≡ true → t.regs.y ≡ bytes_in (bytes_of c.frame site))
      → Passes s (entry_code d.frame) q t (place_in (laid p d) from) u
      → Travels s p d from u to v → bytes_before (laid p d) from ≡ bytes_before (laid p d) to → parameter_bytes d.frame v ≡ parameter_bytes d.frame u
      → Passes s (end_code d.frame) (place_in (laid p d) to) v (place_in (laid p c) k) x → Travels s p c k x m y → Travels s p c j a m y

-- On such a way sp and what waits have the same sum at each line, whatever was called.
abbrev pub TravelsKeepHeights : Type 0
TravelsKeepHeights = (s : Setting) (p : Program) (c : Compiled) (j m : ℕ) (t u : State) → IsSound p → IsCompiled s p c → Travels s p c j t m u
    → (sp_of u + bytes_before (laid p c) m ≡ sp_of t + bytes_before (laid p c) j) × (u.frames ≡ t.frames)
