-- Whole programs.
use Rattle.std.specs.Prelude.{ℕ, suc, ◌++◌, ◌==◌, not, Bool, false, Option, None, Some, slice_get, Result, Ok, List, [], ◌∷◌, length}
use Rattle.c65_base.specs.Answers.{Fault, ◌>>=◌}
use Rattle.c65_csem.specs.declared.items.Parts.{Parts}
use Rattle.c65_csem.specs.declared.items.TFunc.{TFunc}
use Rattle.c65_csem.specs.Trees.{Stmt, FuncTy}
use Rattle.c65_csem.specs.Views.{func_of}
use Rattle.c65_code.specs.declared.line.Sym.{Sym}
use Rattle.c65_code.specs.declared.code.Code.{Code}
use Rattle.c65_code.specs.Segments.{Segment}
use Rattle.c65_genframe.specs.declared.modes.Modes.{Modes}
use Rattle.c65_genframe.specs.Symbols.{numbers_of, function_symbol}
use Rattle.c65_gendata.specs.Data.{data_of}
use Rattle.c65_gendata.specs.Symbols.{symbols_of}
use Rattle.c65_genstmt.specs.Functions.{function_of}

abbrev pub one_more : Parts → Bool → Modes → Sym → FuncTy → Option Stmt → List (Sym × Segment) → Result (List (Sym × Segment)) Fault
one_more parts is_main modes sym g None fs = Ok fs
one_more parts is_main modes sym g (Some body) fs = function_of parts is_main modes g >>= (λ s. Ok (fs ++ (sym, s) ∷ []))

-- one function more, by its number, if it has a body
abbrev pub function_added : Parts → ℕ → Modes → ℕ → FuncTy → List (Sym × Segment) → Result (List (Sym × Segment)) Fault
function_added parts main modes i g fs = one_more parts (i == main) modes (function_symbol (numbers_of parts) i) g g.body fs

-- the first of these functions has the number i
abbrev pub functions_from : Parts → ℕ → Modes → ℕ → List TFunc → List (Sym × Segment) → Result (List (Sym × Segment)) Fault
functions_from parts main modes i [] fs = Ok fs
functions_from parts main modes i (g ∷ gs) fs = function_added parts main modes i (func_of g) fs >>= functions_from parts main modes (suc i) gs

abbrev pub functions_of : Parts → ℕ → Modes → Result (List (Sym × Segment)) Fault
functions_of parts main modes = functions_from parts main modes 0 parts.funcs.items []

abbrev pub has_params : Option TFunc → Bool
has_params None = false
has_params (Some g) = not (length g.params.items == 0)

abbrev pub takes_arguments : Parts → ℕ → Bool
takes_arguments parts main = has_params (slice_get parts.funcs.items main)

abbrev pub code_of : Parts → ℕ → List (List ℕ) → List (Sym × Segment) → Code
code_of parts main names functions = record { symbols = symbols_of names parts; functions = functions; datums = data_of parts; main_args = takes_arguments parts main }

-- functions, symbols and data
abbrev pub program_of : Parts → ℕ → List (List ℕ) → Modes → Result Code Fault
program_of parts main names modes = functions_of parts main modes >>= (λ fs. Ok (code_of parts main names fs))
