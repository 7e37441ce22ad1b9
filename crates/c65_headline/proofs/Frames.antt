-- The generator refuses for the limit Frame alone.
use Rattle.std.proofs.Common.{◌≡◌, ℕ, suc, Bool, true, false, List, [], ◌∷◌, Option, None, Some, Result, Ok, Err, refl, sym, ◌∙◌}
use Rattle.std.specs.Prelude.{if◌then◌else◌}
use Rattle.c65_base.specs.Answers.{Fault, large, ◌>>=◌}
use Rattle.c65_base.specs.declared.refusal.Size.TheVariants as sizes
use Rattle.c65_csem.specs.declared.items.Parts.{Parts}
use Rattle.c65_csem.specs.declared.items.TFunc.{TFunc}
use Rattle.c65_csem.specs.Trees.{Stmt, FuncTy}
use Rattle.c65_csem.specs.Views.{func_of}
use Rattle.c65_code.specs.declared.line.Sym.{Sym}
use Rattle.c65_code.specs.Segments.{Segment}
use Rattle.c65_genframe.specs.declared.modes.Modes.{Modes}
use Rattle.c65_genframe.specs.Frames.{Framed, frame_of}
use Rattle.c65_genstmt.specs.Functions.{segment_of, function_of}
use Rattle.c65_genstmt.specs.Programs.{one_more, function_added, functions_from, functions_of}
use Rattle.c65_headline.specs.Planned.{OnlyFramesAreRefused}

abbrev IsFrame : Fault → Type 0
IsFrame fault = (value : ℕ) × (fault ≡ large sizes.Frame value)

no_fault : {A B : Type 0} (x : A) (fault : Fault) → (let y : Result A Fault = Ok x in y ≡ Err fault) → B
no_fault {A} x fault h = absurd (let k : (let y : Result A Fault = Ok x in y ≡ Err fault) = h in cc)

same_fault : {A : Type 0} (a b : Fault) → (let y : Result A Fault = Err a in y ≡ Err b) → b ≡ a
same_fault {A} a b h = cc

-- the fault of a chain is that of its first part, or of what follows
of_chain : {A B : Type 0} (r : Result A Fault) (f : A → Result B Fault) (fault : Fault) → ((e : Fault) → r ≡ Err e → IsFrame e) → ((x : A) (e : Fault) → f x ≡ Err e → IsFrame e) → r >>= f ≡ Err fault → IsFrame fault
of_chain (Ok x) f fault a b h = b x fault h
of_chain {A = A} (Err e) f fault a b h = let g = a e refl in (g.0, same_fault e fault h ∙ g.1)

of_frame : (b : Bool) (value : ℕ) (x : Framed) (fault : Fault) → (if b then Err (large sizes.Frame value) else Ok x) ≡ Err fault → IsFrame fault
of_frame true value x fault h = (value, same_fault {A = Framed} (large sizes.Frame value) fault h)
of_frame false value x fault h = no_fault x fault h

of_labels : (b : Bool) (x : Segment) (fault : Fault) → (if b then Ok x else Err (large sizes.Frame 0)) ≡ Err fault → IsFrame fault
of_labels true x fault h = no_fault x fault h
of_labels false x fault h = (0, same_fault {A = Segment} (large sizes.Frame 0) fault h)

frame_fault : (parts : Parts) (modes : Modes) (g : FuncTy) (fault : Fault) → frame_of parts modes g ≡ Err fault → IsFrame fault
frame_fault parts modes g fault h = of_frame _ _ _ fault h

function_fault : (parts : Parts) (is_main : Bool) (modes : Modes) (g : FuncTy) (fault : Fault) → function_of parts is_main modes g ≡ Err fault → IsFrame fault
unfolding function_of
function_fault parts is_main modes g fault h = of_chain (frame_of parts modes g) _ fault (λ e k. frame_fault parts modes g e k) (λ f e k. of_labels _ (segment_of parts is_main g f) e k) h

more_fault : (parts : Parts) (is_main : Bool) (modes : Modes) (sym : Sym) (g : FuncTy) (body : Option Stmt) (fs : List (Sym × Segment)) (fault : Fault) → one_more parts is_main modes sym g body fs ≡ Err fault → IsFrame fault
more_fault parts is_main modes sym g None fs fault h = no_fault fs fault h
more_fault parts is_main modes sym g (Some body) fs fault h = of_chain (function_of parts is_main modes g) _ fault (λ e k. function_fault parts is_main modes g e k) (λ x e k. no_fault _ e k) h

functions_fault : (parts : Parts) (main : ℕ) (modes : Modes) (i : ℕ) (gs : List TFunc) (fs : List (Sym × Segment)) (fault : Fault) → functions_from parts main modes i gs fs ≡ Err fault → IsFrame fault
functions_fault parts main modes i [] fs fault h = no_fault fs fault h
functions_fault parts main modes i (g ∷ gs) fs fault h =
    of_chain (function_added parts main modes i (func_of g) fs) _ fault (λ e k. more_fault parts _ modes _ (func_of g) (func_of g).body fs e k)
    (λ more e k. functions_fault parts main modes (suc i) gs more e k) h

pub only_frames_are_refused : OnlyFramesAreRefused
only_frames_are_refused parts main names modes fault h =
    of_chain (functions_of parts main modes) _ fault (λ e k. functions_fault parts main modes 0 parts.funcs.items [] e k) (λ fs e k. no_fault _ e k) h
