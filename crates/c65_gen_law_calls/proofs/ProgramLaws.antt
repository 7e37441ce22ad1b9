-- The functions of a program's code stand where their symbols say.
use Rattle.std.proofs.Common.{◌≡◌, ℕ, zero, suc, ◌+◌, ◌^◌, ◌<◌, ◌≤◌, ◌==◌, Bool, Option, None, Some, List, [], ◌∷◌, ◌++◌, length, slice_get, refl, sym, ap, subst, ◌∙◌, arith}
use Rattle.std.specs.Prelude.{Result, Ok, Err, option_map, if◌then◌else◌}
use Rattle.std.proofs.lemmas.Bool.{eq-eqb, ne_eqb}
use Rattle.std.proofs.lemmas.Option.{slice_get-map, slice_get_within}
use Rattle.c65_base.specs.Answers.{Fault, ◌>>=◌}
use Rattle.c65_csem.specs.declared.items.Parts.{Parts}
use Rattle.c65_csem.specs.declared.items.TFunc.{TFunc}
use Rattle.c65_csem.specs.Trees.{Stmt, FuncTy}
use Rattle.c65_csem.specs.Units.{HasBody, IsBody}
use Rattle.c65_csem.specs.Views.{func_of, unit_of}
use Rattle.c65_code.specs.declared.code.Code.{Code}
use Rattle.c65_code.specs.declared.line.Sym.{Sym}
use Rattle.c65_code.specs.Placement as placement
use Rattle.c65_code.specs.Segments.{Segment, Drafted}
use Rattle.c65_genframe.specs.declared.modes.Modes.{Modes}
use Rattle.c65_genframe.specs.Frames.{Framed, frame_of}
use Rattle.c65_genframe.specs.Symbols.{numbers_of, function_symbol}
use Rattle.c65_genstmt.specs.Functions.{gives_of, no_lines, with_function, segment_of, function_of}
use Rattle.c65_genstmt.specs.Programs.{one_more, function_added, functions_from, functions_of, code_of}
use Rattle.c65_genstmt.proofs.Made.{IsMade, function_is_made}
use Rattle.c65_gen_law_stack.proofs.FunctionLevels.{functions_are_level}
use Rattle.c65_gen_law_calls.specs.Travels.{Program, Compiled}
use Rattle.c65_gen_law_calls.specs.Programs.{ProgramsAreCompiled}
use Rattle.c65_gen_law_calls.proofs.TravelLaws.{func_in, same_number}

abbrev Placed : Type 0
Placed = List (Sym × Segment)

abbrev number : Parts → ℕ → ℕ
number parts i = (function_symbol (numbers_of parts) i).0

-- what comes of two steps comes of both
bound : {A B : Type 0} (r : Result A Fault) (k : A → Result B Fault) (y : B) → (r >>= k) ≡ Ok y → (x : A) × (r ≡ Ok x) × (k x ≡ Ok y)
bound (Ok x) k y h = (x, refl, h)
bound (Err e) k y h = absurd cc

answer : {A : Type 0} (x y : A) → ◌≡◌ {A = Result A Fault} (Ok x) (Ok y) → x ≡ y
answer x y h = cc

-- none of these has the number
abbrev AllOther : ℕ → Placed → Type 0
AllOther n [] = Unit {0}
AllOther n (e ∷ es) = (e.0.0 ≡ n → ⊥) × AllOther n es

other_more : (n : ℕ) (fs : Placed) (e : Sym × Segment) → AllOther n fs → (e.0.0 ≡ n → ⊥) → AllOther n (fs ++ e ∷ [])
other_more n [] e h k = (k, tt)
other_more n (f ∷ fs) e h k = (h.0, other_more n fs e h.1 k)

-- the first one with the number
found_at : (sy : Sym) (s : Segment) (fs more : Placed) → AllOther sy.0 fs → placement.segment_of ((fs ++ (sy, s) ∷ []) ++ more) sy.0 ≡ s
found_at sy s [] more h = ap (λ (b : Bool). if b then s else placement.segment_of more sy.0) (eq-eqb sy.0 sy.0 refl)
found_at sy s (f ∷ fs) more h = ap (λ (b : Bool). if b then f.1 else placement.segment_of ((fs ++ (sy, s) ∷ []) ++ more) sy.0) (ne_eqb f.0.0 sy.0 h.0) ∙ found_at sy s fs more h.1

append : (xs ys zs : Placed) → (xs ++ ys) ++ zs ≡ xs ++ (ys ++ zs)
append [] ys zs = refl
append (x ∷ xs) ys zs = ap (λ (l : Placed). x ∷ l) (append xs ys zs)

no_more : (xs : Placed) → xs ≡ xs ++ []
no_more [] = refl
no_more (x ∷ xs) = ap (λ (l : Placed). x ∷ l) (no_more xs)

-- one function more
record One (parts : Parts) (is_main : Bool) (modes : Modes) (sy : Sym) (g : FuncTy) (fs x : Placed) : Type 0 where
  segment : Segment
  made : function_of parts is_main modes g ≡ Ok segment
  is : fs ++ (sy, segment) ∷ [] ≡ x

one_with : (parts : Parts) (is_main : Bool) (modes : Modes) (sy : Sym) (g : FuncTy) (b : Option Stmt) (body : Stmt) (fs x : Placed) → b ≡ Some body → one_more parts is_main modes sy g b fs ≡ Ok x → One parts is_main modes sy g fs x
one_with parts is_main modes sy g None body fs x e h = absurd cc
one_with parts is_main modes sy g (Some other) body fs x e h =
    let made : (s : Segment) × (function_of parts is_main modes g ≡ Ok s) × (◌≡◌ {A = Result Placed Fault} (Ok (fs ++ (sy, s) ∷ [])) (Ok x)) = bound (function_of parts is_main modes g) (λ s. Ok (fs ++ (sy, s) ∷ [])) x h in
    record { segment = made.0; made = made.1; is = answer (fs ++ (sy, made.0) ∷ []) x made.2 }

one_other : (parts : Parts) (is_main : Bool) (modes : Modes) (sy : Sym) (g : FuncTy) (b : Option Stmt) (fs x : Placed) (n : ℕ) → one_more parts is_main modes sy g b fs ≡ Ok x → AllOther n fs → (sy.0 ≡ n → ⊥) → AllOther n x
one_other parts is_main modes sy g None fs x n h o k = subst (λ (l : Placed). AllOther n l) (answer fs x h) o
one_other parts is_main modes sy g (Some body) fs x n h o k =
    let made : One parts is_main modes sy g fs x = one_with parts is_main modes sy g (Some body) body fs x refl h in
    subst (λ (l : Placed). AllOther n l) made.is (other_more n fs (sy, made.segment) o k)

one_keeps : (parts : Parts) (is_main : Bool) (modes : Modes) (sy : Sym) (g : FuncTy) (b : Option Stmt) (fs x : Placed) → one_more parts is_main modes sy g b fs ≡ Ok x → (more : Placed) × (x ≡ fs ++ more)
one_keeps parts is_main modes sy g None fs x h = ([], sym (answer fs x h) ∙ no_more fs)
one_keeps parts is_main modes sy g (Some body) fs x h =
    let made : One parts is_main modes sy g fs x = one_with parts is_main modes sy g (Some body) body fs x refl h in
    ((sy, made.segment) ∷ [], sym made.is)

-- later functions stand behind
later : (parts : Parts) (main : ℕ) (modes : Modes) (k : ℕ) (gs : List TFunc) (fs out : Placed) → functions_from parts main modes k gs fs ≡ Ok out → (more : Placed) × (out ≡ fs ++ more)
later parts main modes k [] fs out h = ([], sym (answer fs out h) ∙ no_more fs)
later parts main modes k (g ∷ gs) fs out h =
    let step : (x : Placed) × (function_added parts main modes k (func_of g) fs ≡ Ok x) × (functions_from parts main modes (suc k) gs x ≡ Ok out) = bound (function_added parts main modes k (func_of g) fs) (functions_from parts main modes (suc k) gs) out h in
    let first = one_keeps parts (k == main) modes (function_symbol (numbers_of parts) k) (func_of g) (func_of g).body fs step.0 step.1 in
    let rest = later parts main modes (suc k) gs step.0 out step.2 in
    (first.0 ++ rest.0, rest.1 ∙ (ap (λ (l : Placed). l ++ rest.0) first.1 ∙ append fs first.0 rest.0))

record There (parts : Parts) (main : ℕ) (modes : Modes) (n : ℕ) (g : FuncTy) (out : Placed) : Type 0 where
  segment : Segment
  made : function_of parts (n == main) modes g ≡ Ok segment
  found : placement.segment_of out (number parts n) ≡ segment

there : (parts : Parts) (main : ℕ) (modes : Modes) (k j n : ℕ) (gs : List TFunc) (t : TFunc) (body : Stmt) (fs out : Placed) → k + j ≡ n → slice_get gs j ≡ Some t → (func_of t).body ≡ Some body → functions_from parts main modes k gs fs ≡ Ok out
    → AllOther (number parts n) fs → ((m : ℕ) → m < n → number parts m ≡ number parts n → ⊥) → There parts main modes n (func_of t) out
there parts main modes k j n [] t body fs out e here some h others differ = absurd cc
there parts main modes k zero n (g ∷ gs) t body fs out e here some h others differ =
    let step : (x : Placed) × (function_added parts main modes k (func_of g) fs ≡ Ok x) × (functions_from parts main modes (suc k) gs x ≡ Ok out) = bound (function_added parts main modes k (func_of g) fs) (functions_from parts main modes (suc k) gs) out h in
    let same : g ≡ t = cc in
    let at : k ≡ n = omega (arith, e) in
    let own : function_added parts main modes n (func_of t) fs ≡ Ok step.0 = ap (λ (m : ℕ). function_added parts main modes m (func_of t) fs) (sym at) ∙ (ap (λ (x : TFunc). function_added parts main modes k (func_of x) fs) (sym same) ∙ step.1) in
    let one : One parts (n == main) modes (function_symbol (numbers_of parts) n) (func_of t) fs step.0 = one_with parts (n == main) modes (function_symbol (numbers_of parts) n) (func_of t) (func_of t).body body fs step.0 some own in
    let rest = later parts main modes (suc k) gs step.0 out step.2 in
    let lists : out ≡ (fs ++ (function_symbol (numbers_of parts) n, one.segment) ∷ []) ++ rest.0 = rest.1 ∙ ap (λ (l : Placed). l ++ rest.0) (sym one.is) in
    record { segment = one.segment; made = one.made; found = ap (λ (l : Placed). placement.segment_of l (number parts n)) lists ∙ found_at (function_symbol (numbers_of parts) n) one.segment fs rest.0 others }
there parts main modes k (suc j) n (g ∷ gs) t body fs out e here some h others differ =
    let step : (x : Placed) × (function_added parts main modes k (func_of g) fs ≡ Ok x) × (functions_from parts main modes (suc k) gs x ≡ Ok out) = bound (function_added parts main modes k (func_of g) fs) (functions_from parts main modes (suc k) gs) out h in
    let others_on : AllOther (number parts n) step.0 = one_other parts (k == main) modes (function_symbol (numbers_of parts) k) (func_of g) (func_of g).body fs step.0 (number parts n) step.1 others (differ k (omega (arith, e))) in
    there parts main modes (suc k) j n gs t body step.0 out (omega (arith, e)) here some step.2 others_on differ

-- the lines of the function
record Lines (p : Program) (i : ℕ) (g : FuncTy) (body : Stmt) (s : Segment) : Type 0 where
  frame : Framed
  framed : frame_of p.parts p.modes g ≡ Ok frame
  lines : s.lines ≡ (with_function frame (i == p.main) (Some body) (no_lines (gives_of p.parts g))).lines
  few : (with_function frame (i == p.main) (Some body) (no_lines (gives_of p.parts g))).labels ≤ 2 ^ 32

made_lines : (p : Program) (i : ℕ) (g : FuncTy) (body : Stmt) (s : Segment) → g.body ≡ Some body → function_of p.parts (i == p.main) p.modes g ≡ Ok s → Lines p i g body s
made_lines p i g body s some h =
    let made : IsMade p.parts (i == p.main) p.modes g s = function_is_made p.parts (i == p.main) p.modes g s h in
    let bodied : (b : Option Stmt) → Drafted = λ b. with_function made.frame (i == p.main) b (no_lines (gives_of p.parts g)) in
    record {
      frame = made.frame;
      framed = made.framed;
      lines = sym (ap (λ (z : Segment). z.lines) made.same) ∙ ap (λ (b : Option Stmt). (bodied b).lines) some;
      few = omega (arith, made.few, ap (λ (b : Option Stmt). (bodied b).labels) some);
    }

item_of : (parts : Parts) (i : ℕ) (g : FuncTy) (o : Option TFunc) → slice_get parts.funcs.items i ≡ o → slice_get (unit_of parts).funcs i ≡ Some g → (t : TFunc) × (slice_get parts.funcs.items i ≡ Some t) × (func_of t ≡ g)
item_of parts i g None is e = absurd (let none : slice_get (unit_of parts).funcs i ≡ None = slice_get-map func_of parts.funcs.items i ∙ ap (option_map func_of) is in cc)
item_of parts i g (Some t) is e =
    let same : Some (func_of t) ≡ Some g = sym (slice_get-map func_of parts.funcs.items i ∙ ap (option_map func_of) is) ∙ e in
    (t, is, cc)

pub programs_are_compiled : ProgramsAreCompiled
programs_are_compiled p names code place i g body h unit few found some =
    let made : (fs : Placed) × (functions_of p.parts p.main p.modes ≡ Ok fs) × (◌≡◌ {A = Result Code Fault} (Ok (code_of p.parts p.main names fs)) (Ok code)) = bound (functions_of p.parts p.main p.modes) (λ fs. Ok (code_of p.parts p.main names fs)) code h in
    let same : made.0 ≡ code.functions = ap (λ (c : Code). c.functions) (answer (code_of p.parts p.main names made.0) code made.2) in
    let item = item_of p.parts i g (slice_get p.parts.funcs.items i) refl found in
    let below : i < length p.parts.funcs.items = slice_get_within p.parts.funcs.items i item.0 item.1 in
    let differ : (m : ℕ) → m < i → number p.parts m ≡ number p.parts i → ⊥ = λ m low e. let equal : m ≡ i = same_number (length p.parts.objects.items) (length p.parts.literals.items) (length p.parts.funcs.items) m i few (omega (arith, low, below)) below e in omega (arith, low, equal) in
    let bodied : (func_of item.0).body ≡ Some body = ap (λ (f : FuncTy). f.body) item.2 ∙ some in
    let at : There p.parts p.main p.modes i (func_of item.0) made.0 = there p.parts p.main p.modes 0 i i p.parts.funcs.items item.0 body [] made.0 (omega arith) item.1 bodied made.1 tt differ in
    let function : function_of p.parts (i == p.main) p.modes g ≡ Ok at.segment = ap (λ (f : FuncTy). function_of p.parts (i == p.main) p.modes f) (sym item.2) ∙ at.made in
    let lines : Lines p i g body at.segment = made_lines p i g body at.segment some function in
    let well : IsBody (unit_of p.parts) g body = subst (λ (b : Option Stmt). HasBody (unit_of p.parts) g b) some (func_in (unit_of p.parts) i g unit.funcs found).body in
    let level = functions_are_level (unit_of p.parts) g body lines.frame (i == p.main) (gives_of p.parts g) well lines.few in
    let c : Compiled = record { index = i; func = g; body = body; frame = lines.frame; middle = level.0 } in
    let placed : (placement.segment_of code.functions (number p.parts i)).lines ≡ at.segment.lines = ap (λ (l : Placed). (placement.segment_of l (number p.parts i)).lines) (sym same) ∙ ap (λ (z : Segment). z.lines) at.found in
    (c, refl, refl, refl, record { found = found; has_body = some; framed = lines.framed; lines = placed ∙ lines.lines; split = level.1; few = lines.few })
