-- The bytes of whole programs, by their nodes.
use Rattle.std.proofs.Common.{◌≡◌, ℕ, suc, ◌+◌, ◌*◌, ◌≤◌, ◌==◌, Bool, Option, None, Some, List, [], ◌∷◌, ◌++◌, refl, sym, ap, arith}
use Rattle.std.specs.Prelude.{Result, Ok, Err}
use Rattle.c65_base.specs.Answers.{Fault, ◌>>=◌}
use Rattle.c65_csem.specs.declared.items.Parts.{Parts}
use Rattle.c65_csem.specs.declared.items.TFunc.{TFunc}
use Rattle.c65_csem.specs.Trees.{Stmt, FuncTy}
use Rattle.c65_csem.specs.Views.{func_of}
use Rattle.c65_code.specs.declared.line.Sym.{Sym}
use Rattle.c65_code.specs.declared.code.Code.{Code}
use Rattle.c65_code.specs.Segments.{Segment}
use Rattle.c65_code.specs.Weights.{lines_size, functions_size, extent_of}
use Rattle.c65_genframe.specs.declared.modes.Modes.{Modes}
use Rattle.c65_genframe.specs.Symbols.{numbers_of, function_symbol}
use Rattle.c65_genframe.specs.Frames.{Framed}
use Rattle.c65_genstmt.specs.Functions.{gives_of, no_lines, with_function, segment_of, function_of}
use Rattle.c65_genstmt.specs.Programs.{one_more, function_added, functions_from, functions_of, code_of}
use Rattle.c65_genstmt.proofs.Made.{IsMade, function_is_made}
use Rattle.c65_gen_law_lines.specs.Bulk.{body_nodes, function_nodes, functions_nodes}
use Rattle.c65_gen_law_lines.specs.Laws.{ProgramsAreSmall}
use Rattle.c65_gen_law_lines.proofs.SizeLaws.{functions_are_small}

size_sum : (fs gs : List (Sym × Segment)) → functions_size (fs ++ gs) ≡ functions_size fs + functions_size gs
size_sum [] gs = omega arith
size_sum (f ∷ fs) gs = omega (arith, size_sum fs gs)

-- what comes of two steps comes of both
pub bound : {A B : Type 0} (r : Result A Fault) (k : A → Result B Fault) (y : B) → (r >>= k) ≡ Ok y → (x : A) × (r ≡ Ok x) × (k x ≡ Ok y)
bound (Ok x) k y h = (x, refl, h)
bound (Err e) k y h = absurd cc

-- two answers that are the same are of the same
pub answer : {A : Type 0} (x y : A) → ◌≡◌ {A = Result A Fault} (Ok x) (Ok y) → x ≡ y
answer x y h = cc

segment_small : (parts : Parts) (is_main : Bool) (modes : Modes) (g : FuncTy) (body : Stmt) (s : Segment) → g.body ≡ Some body → function_of parts is_main modes g ≡ Ok s → lines_size s.lines ≤ 128 * function_nodes g
segment_small parts is_main modes g body s there h =
    let made : IsMade parts is_main modes g s = function_is_made parts is_main modes g s h in
    let f : Framed = made.frame in
    let sizes : lines_size (segment_of parts is_main g f).lines ≡ lines_size s.lines = ap (λ z. lines_size z.lines) made.same in
    let bodies : lines_size (with_function f is_main g.body (no_lines (gives_of parts g))).lines ≡ lines_size (with_function f is_main (Some body) (no_lines (gives_of parts g))).lines = ap (λ z. lines_size (with_function f is_main z (no_lines (gives_of parts g))).lines) there in
    let nodes : function_nodes g ≡ body_nodes g (Some body) = ap (body_nodes g) there in
    omega (arith, sizes, bodies, nodes, functions_are_small parts modes g body f is_main (gives_of parts g) made.framed)

one_small : (parts : Parts) (is_main : Bool) (modes : Modes) (sym : Sym) (g : FuncTy) (b : Option Stmt) (fs out : List (Sym × Segment)) → g.body ≡ b → one_more parts is_main modes sym g b fs ≡ Ok out → functions_size out ≤ functions_size fs + 128 * function_nodes g
one_small parts is_main modes sym g None fs out there h =
    let same : fs ≡ out = answer fs out h in
    omega (arith, ap functions_size same)
one_small parts is_main modes sym g (Some body) fs out there h =
    let made : (s : Segment) × (function_of parts is_main modes g ≡ Ok s) × (◌≡◌ {A = Result (List (Sym × Segment)) Fault} (Ok (fs ++ (sym, s) ∷ [])) (Ok out)) = bound (function_of parts is_main modes g) (λ s. Ok (fs ++ (sym, s) ∷ [])) out h in
    let same : fs ++ (sym, made.0) ∷ [] ≡ out = answer (fs ++ (sym, made.0) ∷ []) out made.2 in
    omega (arith, ap functions_size same, size_sum fs ((sym, made.0) ∷ []), segment_small parts is_main modes g body made.0 there made.1)

functions_small : (parts : Parts) (main : ℕ) (modes : Modes) (i : ℕ) (gs : List TFunc) (fs out : List (Sym × Segment)) → functions_from parts main modes i gs fs ≡ Ok out → functions_size out ≤ functions_size fs + 128 * functions_nodes gs
functions_small parts main modes i [] fs out h = let same : fs ≡ out = answer fs out h in omega (arith, ap functions_size same)
functions_small parts main modes i (g ∷ gs) fs out h =
    let made : (x : List (Sym × Segment)) × (function_added parts main modes i (func_of g) fs ≡ Ok x) × (functions_from parts main modes (suc i) gs x ≡ Ok out) = bound (function_added parts main modes i (func_of g) fs) (functions_from parts main modes (suc i) gs) out h in
    omega (arith, one_small parts (i == main) modes (function_symbol (numbers_of parts) i) (func_of g) (func_of g).body fs made.0 refl made.1, functions_small parts main modes (suc i) gs made.0 out made.2)

pub programs_are_small : ProgramsAreSmall
programs_are_small parts main names modes code h =
    let made : (fs : List (Sym × Segment)) × (functions_of parts main modes ≡ Ok fs) × (◌≡◌ {A = Result Code Fault} (Ok (code_of parts main names fs)) (Ok code)) = bound (functions_of parts main modes) (λ fs. Ok (code_of parts main names fs)) code h in
    let same : code_of parts main names made.0 ≡ code = answer (code_of parts main names made.0) code made.2 in
    omega (arith, ap extent_of same, functions_small parts main modes 0 parts.funcs.items [] made.0 made.1)
