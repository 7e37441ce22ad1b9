-- What is made of functions, and of programs.
use Rattle.std.proofs.Common.{◌≡◌, ℕ, zero, suc, ◌+◌, ◌<◌, ◌==◌, Bool, true, false, Option, None, Some, Result, Ok, Err, List, [], ◌∷◌, ◌++◌, refl, sym, ◌∙◌, ap, subst, slice_get, arith}
use Rattle.std.specs.Prelude.{if◌then◌else◌, nat_lt}
use Rattle.std.proofs.lemmas.Bool.{ltb-true}
use Rattle.c65_base.specs.declared.refusal.Size.TheVariants as sizes
use Rattle.c65_base.specs.Answers.{Fault, large, ◌>>=◌}
use Rattle.c65_csem.specs.declared.items.Parts.{Parts}
use Rattle.c65_csem.specs.declared.items.TFunc.{TFunc}
use Rattle.c65_csem.specs.Trees.{Stmt, FuncTy}
use Rattle.c65_csem.specs.Views.{func_of}
use Rattle.c65_code.specs.declared.code.Code.{Code}
use Rattle.c65_code.specs.declared.line.Sym.{Sym}
use Rattle.c65_code.specs.Segments.{Drafted, Segment}
use Rattle.c65_genframe.specs.declared.modes.Modes.{Modes}
use Rattle.c65_genframe.specs.Frames.{Framed, frame_of}
use Rattle.c65_genframe.specs.Symbols.{numbers_of, function_symbol}
use Rattle.c65_genstmt.specs.Functions.{closed, finished, drafted_of, segment_of, function_of}
use Rattle.c65_genstmt.specs.Programs.{one_more, function_added, functions_from, functions_of, code_of, program_of}

bound : {A B : Type 0} (r : Result A Fault) (k : A → Result B Fault) (y : B) → (r >>= k) ≡ Ok y → (x : A) × (r ≡ Ok x) × (k x ≡ Ok y)
bound (Ok x) k y h = (x, refl, h)
bound (Err e) k y h = absurd cc

-- ---- a function

finished_few : (b : Bool) (d : Drafted) (s : Segment) → nat_lt d.labels 4294967296 ≡ b → ◌≡◌ {A = Result Segment Fault} (if b then Ok (closed d) else Err (large sizes.Frame 0)) (Ok s) → (d.labels < 4294967296) × (closed d ≡ s)
finished_few true d s is h = (ltb-true d.labels 4294967296 is, cc)
finished_few false d s is h = absurd cc

-- it has a frame, and the labels of its draft are of 32 bits
pub record IsMade (parts : Parts) (is_main : Bool) (modes : Modes) (g : FuncTy) (s : Segment) : Type 0 where
  pub frame : Framed
  pub framed : frame_of parts modes g ≡ Ok frame
  pub few : (drafted_of parts is_main g frame).labels < 4294967296
  pub same : segment_of parts is_main g frame ≡ s

pub function_is_made : (parts : Parts) (is_main : Bool) (modes : Modes) (g : FuncTy) (s : Segment) → function_of parts is_main modes g ≡ Ok s → IsMade parts is_main modes g s
unfolding function_of
function_is_made parts is_main modes g s h =
    let made : (f : Framed) × (frame_of parts modes g ≡ Ok f) × (finished (drafted_of parts is_main g f) ≡ Ok s) = bound (frame_of parts modes g) (λ f. finished (drafted_of parts is_main g f)) s h in
    let few : ((drafted_of parts is_main g made.0).labels < 4294967296) × (closed (drafted_of parts is_main g made.0) ≡ s) = finished_few (nat_lt (drafted_of parts is_main g made.0).labels 4294967296) (drafted_of parts is_main g made.0) s refl made.2 in
    record { frame = made.0; framed = made.1; few = few.0; same = few.1 }

-- ---- the functions of a program

one_made : (parts : Parts) (is_main : Bool) (modes : Modes) (x : Sym) (g : FuncTy) (b : Option Stmt) (body : Stmt) (fs out : List (Sym × Segment)) → b ≡ Some body → one_more parts is_main modes x g b fs ≡ Ok out → (s : Segment) × (function_of parts is_main modes g ≡ Ok s)
one_made parts is_main modes x g None body fs out some h = absurd cc
one_made parts is_main modes x g (Some b) body fs out some h = let made = bound (function_of parts is_main modes g) (λ s. Ok (fs ++ (x, s) ∷ [])) out h in (made.0, made.1)

all_made : (parts : Parts) (main : ℕ) (modes : Modes) (i j n : ℕ) (gs : List TFunc) (g : TFunc) (body : Stmt) (fs out : List (Sym × Segment)) → i + j ≡ n → slice_get gs j ≡ Some g → (func_of g).body ≡ Some body
    → functions_from parts main modes i gs fs ≡ Ok out → (s : Segment) × (function_of parts (n == main) modes (func_of g) ≡ Ok s)
all_made parts main modes i j n [] g body fs out at here some h = absurd cc
all_made parts main modes i zero n (x ∷ gs) g body fs out at here some h =
    let step = bound (function_added parts main modes i (func_of x) fs) (functions_from parts main modes (suc i) gs) out h in
    let same : x ≡ g = cc in
    let there : i ≡ n = omega (arith, at) in
    let own : function_added parts main modes n (func_of g) fs ≡ Ok step.0 = ap (λ (m : ℕ). function_added parts main modes m (func_of g) fs) (sym there) ∙ (ap (λ (y : TFunc). function_added parts main modes i (func_of y) fs) (sym same) ∙ step.1) in
    one_made parts (n == main) modes (function_symbol (numbers_of parts) n) (func_of g) (func_of g).body body fs step.0 some own
all_made parts main modes i (suc j) n (x ∷ gs) g body fs out at here some h =
    let step = bound (function_added parts main modes i (func_of x) fs) (functions_from parts main modes (suc i) gs) out h in
    all_made parts main modes (suc i) j n gs g body step.0 out (omega (arith, at)) here some step.2

-- each one with a body has labels of 32 bits
pub labels_are_few : (parts : Parts) (main : ℕ) (names : List (List ℕ)) (modes : Modes) (code : Code) (i : ℕ) (g : TFunc) (body : Stmt) (f : Framed) → program_of parts main names modes ≡ Ok code → slice_get parts.funcs.items i ≡ Some g → (func_of g).body ≡ Some body
    → frame_of parts modes (func_of g) ≡ Ok f → (drafted_of parts (i == main) (func_of g) f).labels < 4294967296
labels_are_few parts main names modes code i g body f h here some framed =
    let made = bound (functions_of parts main modes) (λ fs. Ok (code_of parts main names fs)) code h in
    let one = all_made parts main modes 0 i i parts.funcs.items g body [] made.0 (omega arith) here some made.1 in
    let is : IsMade parts (i == main) modes (func_of g) one.0 = function_is_made parts (i == main) modes (func_of g) one.0 one.1 in
    let same : is.frame ≡ f = let e : ◌≡◌ {A = Result Framed Fault} (Ok is.frame) (Ok f) = sym is.framed ∙ framed in cc in
    subst (λ (z : Framed). (drafted_of parts (i == main) (func_of g) z).labels < 4294967296) same is.few
