-- The lines of a function (C90 6.7.1; docs/MACHINE.md, "Calls").
use Rattle.std.specs.Prelude.{ℕ, ◌==◌, ◌&&◌, nat_lt, not, Bool, false, if◌then◌else◌, Option, None, Some, option_map, slice_get, Result, Ok, Err, List, [], ◌∷◌}
use Rattle.c65_base.specs.declared.refusal.Size.TheVariants as sizes
use Rattle.c65_base.specs.Answers.{Fault, large, ◌>>=◌}
use Rattle.c65_ctype.specs.Trees.{type_in}
use Rattle.c65_ctype.specs.Views.{types_of}
use Rattle.c65_csem.specs.declared.items.Parts.{Parts}
use Rattle.c65_csem.specs.Trees.{Stmt, FuncTy}
use Rattle.c65_csem.specs.Typed.{result_of}
use Rattle.c65_csem.specs.Views.{func_of}
use Rattle.c65_mach.specs.declared.rows.Op.TheVariants.{Lda, Ldx}
use Rattle.c65_code.specs.declared.line.Line.{Line}
use Rattle.c65_code.specs.declared.parts.RegSet.{RegSet}
use Rattle.c65_code.specs.Segments.{Segment, Drafted}
use Rattle.c65_genframe.specs.declared.modes.Modes.{Modes}
use Rattle.c65_genframe.specs.Frames.{Framed, frame_of}
use Rattle.c65_genframe.specs.Registers.{registers}
use Rattle.c65_genframe.specs.Sizes.{bytes_or}
use Rattle.c65_genwide.specs.Lines.{value, with_lines}
use Rattle.c65_genentry.specs.Drafts.{with_labels}
use Rattle.c65_genentry.specs.Entry.{entry_code}
use Rattle.c65_genentry.specs.Ends.{end_code}
use Rattle.c65_genstmt.specs.Cases.{room_of}
use Rattle.c65_genstmt.specs.Stmts.{ways, with_label, with_last, returns_last}

-- what a function gives, by the type of its result
abbrev pub gives_of : Parts → FuncTy → RegSet
gives_of parts f = registers (bytes_or (types_of parts.types) (type_in (result_of f.ty)) 0)

abbrev pub body_room : Option Stmt → ℕ
body_room None = 0
body_room (Some body) = room_of body

abbrev pub with_body : Framed → Option Stmt → Drafted → Drafted
with_body f None d = d
with_body f (Some body) d = with_last f (ways 0 0 0) 0 body d

-- whether a return stands at its end
abbrev pub body_returns : Option Stmt → Bool
body_returns None = false
body_returns (Some body) = returns_last body

-- reaching the end of main returns 0 (C90 5.1.2.2.3)
abbrev pub main_code : Bool → List Line
main_code is_main = if is_main then value Ldx 0 ∷ value Lda 0 ∷ [] else []

-- the first free label is that of the end, and the labels of statements follow it
abbrev pub with_function : Framed → Bool → Option Stmt → Drafted → Drafted
with_function f is_main body d =
    let e = with_body f body (with_lines (with_labels (body_room body) (with_labels 1 d)) (entry_code f)) in
    with_lines (with_label d.labels (with_lines e (main_code (is_main && not (body_returns body))))) (end_code f)

abbrev pub no_lines : RegSet → Drafted
no_lines out = record { lines = []; labels = 0; out = out }

abbrev pub closed : Drafted → Segment
closed d = record { lines = d.lines; out = d.out }

-- labels are of 32 bits: what gives more of them is refused, as a frame of no size
abbrev pub finished : Drafted → Result Segment Fault
finished d = if nat_lt d.labels 4294967296 then Ok (closed d) else Err (large sizes.Frame 0)

abbrev pub drafted_of : Parts → Bool → FuncTy → Framed → Drafted
drafted_of parts is_main g f = with_function f is_main g.body (no_lines (gives_of parts g))

abbrev pub segment_of : Parts → Bool → FuncTy → Framed → Segment
segment_of parts is_main g f = closed (drafted_of parts is_main g f)

unfoldable pub function_of : Parts → Bool → Modes → FuncTy → Result Segment Fault
function_of parts is_main modes g = frame_of parts modes g >>= (λ f. finished (drafted_of parts is_main g f))

abbrev pub function_in : Parts → Bool → Modes → Option FuncTy → Result Segment Fault
function_in parts is_main modes None = Err (large sizes.Frame 0)
function_in parts is_main modes (Some g) = function_of parts is_main modes g

-- by its number
abbrev pub function_at : Parts → ℕ → Modes → ℕ → Result Segment Fault
function_at parts main modes func = function_in parts (func == main) modes (option_map func_of (slice_get parts.funcs.items func))
