-- Which lines call, and what they do to the calls that are to come.
use Rattle.std.proofs.Common.{◌≡◌, ℕ, Bool, true, false, Option, None, Some, List, [], ◌∷◌, ◌++◌, refl, sym, ap, ◌∙◌}
use Rattle.std.specs.Prelude.{if◌then◌else◌}
use Rattle.c65_code.specs.declared.line.Callee.TheVariants as callees
use Rattle.c65_code.specs.declared.line.Line.{Line}
use Rattle.c65_code.specs.declared.line.Line.TheVariants.{Label, Do, Call}
use Rattle.c65_code.specs.declared.routine.Routine.{Routine}
use Rattle.c65_code.specs.declared.routine.Routine.TheVariants as routines
use Rattle.c65_genframe.specs.Frames.{Framed}
use Rattle.c65_gen_law_lines.specs.Stack.{Waiting, waiting_by, left, called, by_routine, by_line, waits}
use Rattle.c65_gen_law_lines.proofs.Leaves.{Leaves}
use Rattle.c65_gen_law_calls.specs.Sites.{Site}
use Rattle.c65_gen_law_calls.specs.Lines.{is_library, is_calling, callings, line_of, lines_of}

abbrev pub calls_in : Option Waiting → List (List ℕ)
calls_in None = []
calls_in (Some w) = w.calls

left_keeps : (calls : List (List ℕ)) (o : Option (List ℕ)) (x : Waiting) → left calls o ≡ Some x → x.calls ≡ calls
left_keeps calls None x e = absurd cc
left_keeps calls (Some values) x e = sym (ap calls_in e)

-- a routine that is no function of the library leaves the calls to come
routine_keeps : (r : Routine) (w x : Waiting) → is_library r ≡ false → by_routine r w ≡ Some x → x.calls ≡ w.calls
routine_keeps routines.PushA w x h e = sym (ap calls_in e)
routine_keeps routines.PushAx w x h e = sym (ap calls_in e)
routine_keeps routines.PushA0 w x h e = sym (ap calls_in e)
routine_keeps routines.Push0 w x h e = sym (ap calls_in e)
routine_keeps routines.PushEax w x h e = sym (ap calls_in e)
routine_keeps routines.PopA w x h e = left_keeps w.calls _ x e
routine_keeps routines.PopAx w x h e = left_keeps w.calls _ x e
routine_keeps routines.PopEax w x h e = left_keeps w.calls _ x e
routine_keeps routines.PopPtrs w x h e = absurd cc
routine_keeps (routines.IncSp n) w x h e = left_keeps w.calls _ x e
routine_keeps (routines.DecSp n) w x h e = sym (ap calls_in e)
routine_keeps routines.AddYSp w x h e = absurd cc
routine_keeps routines.SubYSp w x h e = absurd cc
routine_keeps routines.LdAxYSp w x h e = sym (ap calls_in e)
routine_keeps routines.LdAx0Sp w x h e = sym (ap calls_in e)
routine_keeps routines.LdEaxYSp w x h e = sym (ap calls_in e)
routine_keeps routines.StAxYSp w x h e = sym (ap calls_in e)
routine_keeps routines.StAx0Sp w x h e = sym (ap calls_in e)
routine_keeps routines.StEaxYSp w x h e = sym (ap calls_in e)
routine_keeps routines.LdAi w x h e = sym (ap calls_in e)
routine_keeps routines.LdAxi w x h e = sym (ap calls_in e)
routine_keeps routines.LdEaxi w x h e = sym (ap calls_in e)
routine_keeps routines.StATos w x h e = left_keeps w.calls _ x e
routine_keeps routines.StAxTos w x h e = left_keeps w.calls _ x e
routine_keeps routines.StEaxTos w x h e = left_keeps w.calls _ x e
routine_keeps routines.CopyTos w x h e = left_keeps w.calls _ x e
routine_keeps (routines.Tos op width) w x h e = left_keeps w.calls _ x e
routine_keeps (routines.Unary op width) w x h e = sym (ap calls_in e)
routine_keeps routines.SignA w x h e = sym (ap calls_in e)
routine_keeps routines.LongAx w x h e = sym (ap calls_in e)
routine_keeps routines.ULongAx w x h e = sym (ap calls_in e)
routine_keeps routines.StkChk w x h e = sym (ap calls_in e)
routine_keeps routines.SaveRegs w x h e = absurd cc
routine_keeps routines.RestRegs w x h e = absurd cc
routine_keeps routines.CallPtr4 w x h e = absurd cc
routine_keeps routines.Start w x h e = absurd cc
routine_keeps routines.StartArgs w x h e = absurd cc
routine_keeps routines.HookOpen w x h e = absurd cc
routine_keeps routines.HookClose w x h e = absurd cc
routine_keeps routines.HookRead w x h e = absurd cc
routine_keeps routines.HookWrite w x h e = absurd cc
routine_keeps routines.HookArgs w x h e = absurd cc
routine_keeps routines.HookExit w x h e = absurd cc
routine_keeps (routines.Library f) w x h e = absurd cc

pub line_keeps : (line : Line) (w x : Waiting) → is_calling line ≡ false → by_line line w ≡ Some x → x.calls ≡ w.calls
line_keeps (Label l) w x h e = sym (ap calls_in e)
line_keeps (Do op mode operand) w x h e = sym (ap calls_in e)
line_keeps (Call (callees.Routine r)) w x h e = routine_keeps r w x h e
line_keeps (Call (callees.Function f reads gives)) w x h e = absurd cc
line_keeps (Call (callees.Pointer reads gives)) w x h e = absurd cc

-- a line that calls takes away what the next call passes
routine_takes : (r : Routine) (w : Waiting) → is_library r ≡ true → by_routine r w ≡ called w.calls w.values
routine_takes (routines.Library f) w h = refl
routine_takes routines.PushA w h = absurd cc
routine_takes routines.PushAx w h = absurd cc
routine_takes routines.PushA0 w h = absurd cc
routine_takes routines.Push0 w h = absurd cc
routine_takes routines.PushEax w h = absurd cc
routine_takes routines.PopA w h = absurd cc
routine_takes routines.PopAx w h = absurd cc
routine_takes routines.PopEax w h = absurd cc
routine_takes routines.PopPtrs w h = absurd cc
routine_takes (routines.IncSp n) w h = absurd cc
routine_takes (routines.DecSp n) w h = absurd cc
routine_takes routines.AddYSp w h = absurd cc
routine_takes routines.SubYSp w h = absurd cc
routine_takes routines.LdAxYSp w h = absurd cc
routine_takes routines.LdAx0Sp w h = absurd cc
routine_takes routines.LdEaxYSp w h = absurd cc
routine_takes routines.StAxYSp w h = absurd cc
routine_takes routines.StAx0Sp w h = absurd cc
routine_takes routines.StEaxYSp w h = absurd cc
routine_takes routines.LdAi w h = absurd cc
routine_takes routines.LdAxi w h = absurd cc
routine_takes routines.LdEaxi w h = absurd cc
routine_takes routines.StATos w h = absurd cc
routine_takes routines.StAxTos w h = absurd cc
routine_takes routines.StEaxTos w h = absurd cc
routine_takes routines.CopyTos w h = absurd cc
routine_takes (routines.Tos op width) w h = absurd cc
routine_takes (routines.Unary op width) w h = absurd cc
routine_takes routines.SignA w h = absurd cc
routine_takes routines.LongAx w h = absurd cc
routine_takes routines.ULongAx w h = absurd cc
routine_takes routines.StkChk w h = absurd cc
routine_takes routines.SaveRegs w h = absurd cc
routine_takes routines.RestRegs w h = absurd cc
routine_takes routines.CallPtr4 w h = absurd cc
routine_takes routines.Start w h = absurd cc
routine_takes routines.StartArgs w h = absurd cc
routine_takes routines.HookOpen w h = absurd cc
routine_takes routines.HookClose w h = absurd cc
routine_takes routines.HookRead w h = absurd cc
routine_takes routines.HookWrite w h = absurd cc
routine_takes routines.HookArgs w h = absurd cc
routine_takes routines.HookExit w h = absurd cc

pub line_takes : (line : Line) (w : Waiting) → is_calling line ≡ true → by_line line w ≡ called w.calls w.values
line_takes (Label l) w h = absurd cc
line_takes (Do op mode operand) w h = absurd cc
line_takes (Call (callees.Routine r)) w h = routine_takes r w h
line_takes (Call (callees.Function f reads gives)) w h = refl
line_takes (Call (callees.Pointer reads gives)) w h = refl

-- ---- lists of lines

pub one_if : (b : Bool) (line : Line) (xs ys : List Line) → (if b then line ∷ (xs ++ ys) else xs ++ ys) ≡ (if b then line ∷ xs else xs) ++ ys
one_if true line xs ys = refl
one_if false line xs ys = refl

pub callings_append : (a b : List Line) → callings (a ++ b) ≡ callings a ++ callings b
callings_append [] b = refl
callings_append (line ∷ a) b = ap (λ (x : List Line). if is_calling line then line ∷ x else x) (callings_append a b) ∙ one_if (is_calling line) line (callings a) (callings b)

pub lines_append : (f : Framed) (ss ts : List Site) → lines_of f (ss ++ ts) ≡ lines_of f ss ++ lines_of f ts
lines_append f [] ts = refl
lines_append f (s ∷ ss) ts = ap (λ (x : List Line). line_of f s ∷ x) (lines_append f ss ts)

pub nothing_waits : (a : List Line) → waits None a ≡ None
nothing_waits [] = refl
nothing_waits (line ∷ a) = nothing_waits a

-- where no call is to come, none of the lines calls
no_callings_by : (line : Line) (a : List Line) (w x : Waiting) (b : Bool) (o : Option Waiting) → is_calling line ≡ b → by_line line w ≡ o → w.calls ≡ [] → waits (by_line line w) a ≡ Some x
    → ((y : Waiting) → y.calls ≡ [] → waits (Some y) a ≡ Some x → callings a ≡ []) → (if b then line ∷ callings a else callings a) ≡ []
no_callings_by line a w x b None calling is none e later =
    absurd (let n : waits None a ≡ None = nothing_waits a in let k : waits None a ≡ Some x = ap (λ (y : Option Waiting). waits y a) (sym is) ∙ e in cc)
no_callings_by line a w x true (Some y) calling is none e later =
    let gone : by_line line w ≡ None = line_takes line w calling ∙ ap (λ (c : List (List ℕ)). called c w.values) none in
    absurd (let k : Some y ≡ None = sym is ∙ gone in cc)
no_callings_by line a w x false (Some y) calling is none e later = later y (line_keeps line w y calling is ∙ none) (ap (λ (z : Option Waiting). waits z a) (sym is) ∙ e)

no_callings : (a : List Line) (w x : Waiting) → w.calls ≡ [] → waits (Some w) a ≡ Some x → callings a ≡ []
no_callings [] w x none e = refl
no_callings (line ∷ a) w x none e = no_callings_by line a w x (is_calling line) (by_line line w) refl refl none e (λ y n k. no_callings a y x n k)

-- lines that call nothing
pub record Free (a : List Line) : Type 0 where
  pub none : callings a ≡ []

pub free_leaves : {v u : List ℕ} {a : List Line} → Leaves v a u → Free a
free_leaves {v = v} {u = u} {a = a} p = record { none = no_callings a (waiting_by v []) (waiting_by u []) refl (p.to []) }

pub free_append : {a b : List Line} → Free a → Free b → Free (a ++ b)
free_append {a = a} {b = b} p q = record { none = callings_append a b ∙ (ap (λ (x : List Line). x ++ callings b) p.none ∙ q.none) }

pub free_none : Free []
free_none = record { none = refl }

pub free_if : (b : Bool) {x y : List Line} → Free x → Free y → Free (if b then x else y)
free_if true p q = p
free_if false p q = q

-- ---- lines that call as these calls do

pub record Has (f : Framed) (ss : List Site) (a : List Line) : Type 0 where
  pub is : callings a ≡ lines_of f ss

pub has_then : {f : Framed} {ss ts : List Site} {a b : List Line} → Has f ss a → Has f ts b → Has f (ss ++ ts) (a ++ b)
has_then {f = f} {ss = ss} {ts = ts} {a = a} {b = b} p q = record {
  is = callings_append a b ∙ (ap (λ (x : List Line). x ++ callings b) p.is ∙ (ap (λ (x : List Line). lines_of f ss ++ x) q.is ∙ sym (lines_append f ss ts)));
}

pub no_more : (xs : List Line) → xs ++ [] ≡ xs
no_more [] = refl
no_more (x ∷ xs) = ap (λ (l : List Line). x ∷ l) (no_more xs)

pub has_behind : {f : Framed} {ss : List Site} {a b : List Line} → Has f ss a → Free b → Has f ss (a ++ b)
has_behind {f = f} {ss = ss} {a = a} {b = b} p q = record {
  is = callings_append a b ∙ (ap (λ (x : List Line). x ++ callings b) p.is ∙ (ap (λ (x : List Line). lines_of f ss ++ x) q.none ∙ no_more (lines_of f ss)));
}

pub has_before : {f : Framed} {ss : List Site} {a b : List Line} → Free a → Has f ss b → Has f ss (a ++ b)
has_before {a = a} {b = b} p q = record { is = callings_append a b ∙ (ap (λ (x : List Line). x ++ callings b) p.none ∙ q.is) }

-- a label, a branch or a jump
pub has_line : {f : Framed} {ss : List Site} {a : List Line} (line : Line) → is_calling line ≡ false → Has f ss a → Has f ss (line ∷ a)
has_line {a = a} line h p = record { is = ap (λ (b : Bool). if b then line ∷ callings a else callings a) h ∙ p.is }

pub has_none : {f : Framed} → Has f [] []
has_none = record { is = refl }

pub has_free : {f : Framed} {a : List Line} → Free a → Has f [] a
has_free p = record { is = p.none }

pub has_as : {f : Framed} {ss ts : List Site} {a : List Line} → ss ≡ ts → Has f ss a → Has f ts a
has_as {f = f} {a = a} e p = record { is = p.is ∙ ap (lines_of f) e }
