-- The rows of statements, functions and whole programs: the 6502 has them all.
use Rattle.std.proofs.Common.{◌≡◌, ℕ, zero, suc, ◌+◌, ◌==◌, Bool, true, false, not, ℤ, Option, None, Some, List, [], ◌∷◌, ◌++◌, length, slice_get, refl, sym, ◌∙◌, ap, subst}
use Rattle.std.specs.Prelude.{◌&&◌, Result, Ok}
use Rattle.std.specs.List.{list_all}
use Rattle.c65_base.specs.Answers.{Fault}
use Rattle.c65_csem.specs.declared.items.Parts.{Parts}
use Rattle.c65_csem.specs.declared.items.TFunc.{TFunc}
use Rattle.c65_csem.specs.Trees.{Stmt, empty, eval, set_part, clear, block, if_stmt, while, do_while, for_loop, switch, case, default, label, goto, break, continue, return, Stmts, no_stmts, and_stmts, FuncTy}
use Rattle.c65_csem.specs.Statements.{cases_of}
use Rattle.c65_csem.specs.Views.{func_of}
use Rattle.c65_code.specs.declared.line.Sym.{Sym}
use Rattle.c65_code.specs.declared.code.Code.{Code}
use Rattle.c65_code.specs.Processors.{is_nmos_line}
use Rattle.c65_code.specs.Segments.{Drafted, Segment}
use Rattle.c65_genframe.specs.declared.modes.Modes.{Modes}
use Rattle.c65_genframe.specs.Symbols.{numbers_of, function_symbol}
use Rattle.c65_genframe.specs.Frames.{Framed}
use Rattle.c65_genwide.specs.Lines.{with_lines}
use Rattle.c65_genwide.specs.Wide.{width_of}
use Rattle.c65_genexpr.specs.Types.{kind_in}
use Rattle.c65_genentry.specs.Drafts.{with_labels}
use Rattle.c65_genentry.specs.Entry.{entry_code}
use Rattle.c65_genentry.specs.Ends.{end_code}
use Rattle.c65_genstmt.specs.declared.jumps.Ways.{Ways}
use Rattle.c65_genstmt.specs.Jumps.{following, with_value, with_test}
use Rattle.c65_genstmt.specs.Objects.{spot_of, object_bytes}
use Rattle.c65_genstmt.specs.Stmts.{case_behind, with_label, with_jump, two_given, three_given, with_maybe, with_effects, with_guard, ways, default_way, with_stmt, with_stmts, with_last, with_lasts, returns_last, is_empty, with_way, with_cases}
use Rattle.c65_genstmt.specs.Cases.{room_of}
use Rattle.c65_genstmt.specs.Functions.{gives_of, main_code, no_lines, with_function, function_of}
use Rattle.c65_genstmt.specs.Programs.{one_more, function_added, functions_from, functions_of, code_of}
use Rattle.c65_genstmt.proofs.Made.{IsMade, function_is_made}
use Rattle.c65_code.specs.declared.parts.RegSet.{RegSet}
use Rattle.c65_gen_law_lines.specs.Laws.{ProgramsAreNmos}
use Rattle.c65_gen_law_lines.proofs.Made.{is_early, all_nmos}
use Rattle.c65_gen_law_lines.proofs.Flat.{entry_flat, end_flat}
use Rattle.c65_gen_law_lines.proofs.Puts.{puts_flat, puts_label, puts_jump, puts_value, puts_effect, puts_test}
use Rattle.c65_gen_law_lines.proofs.StmtLaws.{way_puts, set_puts, zeros_puts, choice_puts, maybe_puts, effects_puts, guard_puts}
use Rattle.c65_gen_law_lines.proofs.FunctionLaws.{main_flat}
use Rattle.c65_gen_law_lines.proofs.ProgramLaws.{bound, answer}

-- ---- statements

-- each line so far may stand in a segment and has a row of the 6502
abbrev IsEarly : Drafted → Type 0
IsEarly d = list_all is_early d.lines ≡ true

mutual
  stmt_rows : (f : Framed) (w : Ways) (l : ℕ) (s : Stmt) (d : Drafted) → IsEarly d → IsEarly (with_stmt f w l s d)
  stmt_rows f w l empty d h = h
  stmt_rows f w l (eval e) d h = (puts_effect f e d).fit h
  stmt_rows f w l (set_part i o e) d h = (set_puts f i o e d).fit h
  stmt_rows f w l (clear i) d h = (zeros_puts (spot_of f i 0) (object_bytes f i) d).fit h
  stmt_rows f w l (block os ss) d h = stmts_rows f w l ss d h
  stmt_rows f w l (if_stmt e a b) d h =
      let m1 : Drafted = with_test f d.labels false e (two_given d) in
      let m2 : Drafted = with_stmt f w l a m1 in
      let m3 : Drafted = with_way (is_empty b) (d.labels + 1) m2 in
      let m4 : Drafted = with_label d.labels m3 in
      let m5 : Drafted = with_stmt f w (case_behind l a) b m4 in
      let k1 : IsEarly m1 = (puts_test f d.labels false e (two_given d)).fit h in
      let k2 : IsEarly m2 = stmt_rows f w l a m1 k1 in
      let k4 : IsEarly m4 = (puts_label m3 d.labels).fit ((way_puts (is_empty b) m2 (d.labels + 1)).fit k2) in
      (puts_label m5 (d.labels + 1)).fit (stmt_rows f w (case_behind l a) b m4 k4)
  stmt_rows f w l (while e a) d h =
      let m1 : Drafted = with_label d.labels (two_given d) in
      let m2 : Drafted = with_test f (d.labels + 1) false e m1 in
      let inner : Ways = ways (d.labels + 1) d.labels w.other in
      let m3 : Drafted = with_stmt f inner l a m2 in
      let k2 : IsEarly m2 = (puts_test f (d.labels + 1) false e m1).fit ((puts_label (two_given d) d.labels).fit h) in
      (puts_label (with_jump d.labels m3) (d.labels + 1)).fit ((puts_jump m3 d.labels).fit (stmt_rows f inner l a m2 k2))
  stmt_rows f w l (do_while a e) d h =
      let m1 : Drafted = with_label d.labels (three_given d) in
      let inner : Ways = ways (d.labels + 1 + 1) (d.labels + 1) w.other in
      let m2 : Drafted = with_stmt f inner l a m1 in
      let m3 : Drafted = with_label (d.labels + 1) m2 in
      let m4 : Drafted = with_test f d.labels true e m3 in
      let k2 : IsEarly m2 = stmt_rows f inner l a m1 ((puts_label (three_given d) d.labels).fit h) in
      (puts_label m4 (d.labels + 1 + 1)).fit ((puts_test f d.labels true e m3).fit ((puts_label m2 (d.labels + 1)).fit k2))
  stmt_rows f w l (for_loop i t n a) d h =
      let g : Drafted = with_effects f i d in
      let m1 : Drafted = with_label g.labels (three_given g) in
      let m2 : Drafted = with_guard f (g.labels + 1 + 1) t m1 in
      let inner : Ways = ways (g.labels + 1 + 1) (g.labels + 1) w.other in
      let m3 : Drafted = with_stmt f inner l a m2 in
      let m4 : Drafted = with_label (g.labels + 1) m3 in
      let m5 : Drafted = with_effects f n m4 in
      let m6 : Drafted = with_jump g.labels m5 in
      let k1 : IsEarly m1 = (puts_label (three_given g) g.labels).fit ((effects_puts f i d).fit h) in
      let k3 : IsEarly m3 = stmt_rows f inner l a m2 ((guard_puts f (g.labels + 1 + 1) t m1).fit k1) in
      let k5 : IsEarly m5 = (effects_puts f n m4).fit ((puts_label m3 (g.labels + 1)).fit k3) in
      (puts_label m6 (g.labels + 1 + 1)).fit ((puts_jump m5 g.labels).fit k5)
  stmt_rows f w l (switch e a) d h =
      let cases : List ℤ = cases_of a in
      let m0 : Drafted = with_labels (length cases) (two_given d) in
      let g : Drafted = with_value f e m0 in
      let m1 : Drafted = with_cases (width_of (kind_in e)) (default_way a d.labels) (d.labels + 1 + 1) cases g in
      let m2 : Drafted = with_jump (default_way a d.labels) m1 in
      let inner : Ways = ways d.labels w.onward (d.labels + 1) in
      let m3 : Drafted = with_stmt f inner (d.labels + 1 + 1) a m2 in
      let k1 : IsEarly m1 = (choice_puts (width_of (kind_in e)) (default_way a d.labels) (d.labels + 1 + 1) cases g).fit ((puts_value f e m0).fit h) in
      (puts_label m3 d.labels).fit (stmt_rows f inner (d.labels + 1 + 1) a m2 ((puts_jump m1 (default_way a d.labels)).fit k1))
  stmt_rows f w l (case z a) d h = stmt_rows f w (following l) a (with_label l d) ((puts_label d l).fit h)
  stmt_rows f w l (default a) d h = stmt_rows f w l a (with_label w.other d) ((puts_label d w.other).fit h)
  stmt_rows f w l (label n a) d h = stmt_rows f w l a (with_label (following n) d) ((puts_label d (following n)).fit h)
  stmt_rows f w l (goto n) d h = (puts_jump d (following n)).fit h
  stmt_rows f w l break d h = (puts_jump d w.behind).fit h
  stmt_rows f w l continue d h = (puts_jump d w.onward).fit h
  stmt_rows f w l (return e) d h = (puts_jump (with_maybe f e d) 0).fit ((maybe_puts f e d).fit h)

  stmts_rows : (f : Framed) (w : Ways) (l : ℕ) (ss : Stmts) (d : Drafted) → IsEarly d → IsEarly (with_stmts f w l ss d)
  stmts_rows f w l no_stmts d h = h
  stmts_rows f w l (and_stmts a ss) d h = stmts_rows f w (case_behind l a) ss (with_stmt f w l a d) (stmt_rows f w l a d h)

mutual
  last_rows : (f : Framed) (w : Ways) (l : ℕ) (s : Stmt) (d : Drafted) → IsEarly d → IsEarly (with_last f w l s d)
  last_rows f w l (block os ss) d h = lasts_rows f w l ss d h
  last_rows f w l (return e) d h = (maybe_puts f e d).fit h
  last_rows f w l a d h = stmt_rows f w l a d h

  lasts_rows : (f : Framed) (w : Ways) (l : ℕ) (ss : Stmts) (d : Drafted) → IsEarly d → IsEarly (with_lasts f w l ss d)
  lasts_rows f w l no_stmts d h = h
  lasts_rows f w l (and_stmts a no_stmts) d h = last_rows f w l a d h
  lasts_rows f w l (and_stmts a (and_stmts b ss)) d h = lasts_rows f w (case_behind l a) (and_stmts b ss) (with_stmt f w l a d) (stmt_rows f w l a d h)

-- ---- functions

function_rows : (f : Framed) (is_main : Bool) (body : Stmt) (out : RegSet) → IsEarly (with_function f is_main (Some body) (no_lines out))
function_rows f is_main body out =
    let d : Drafted = with_labels (room_of body) (with_labels 1 (no_lines out)) in
    let m0 : Drafted = with_lines d (entry_code f) in
    let m1 : Drafted = with_last f (ways 0 0 0) 0 body m0 in
    let first : Bool = is_main && not (returns_last body) in
    let m2 : Drafted = with_lines m1 (main_code first) in
    let m3 : Drafted = with_label 0 m2 in
    let k0 : IsEarly m0 = (puts_flat d (entry_code f) (entry_flat f)).fit refl in
    let k2 : IsEarly m2 = (puts_flat m1 (main_code first) (main_flat first)).fit (last_rows f (ways 0 0 0) 0 body m0 k0) in
    (puts_flat m3 (end_code f) (end_flat f)).fit ((puts_label m2 0).fit k2)

segment_rows : (parts : Parts) (is_main : Bool) (modes : Modes) (g : FuncTy) (body : Stmt) (s : Segment) → g.body ≡ Some body → function_of parts is_main modes g ≡ Ok s → list_all is_nmos_line s.lines ≡ true
segment_rows parts is_main modes g body s there h =
    let made : IsMade parts is_main modes g s = function_is_made parts is_main modes g s h in
    let f : Framed = made.frame in
    ap (λ (z : Segment). list_all is_nmos_line z.lines) (sym made.same)
    ∙ ap (λ (z : Option Stmt). list_all is_nmos_line (with_function f is_main z (no_lines (gives_of parts g))).lines) there
    ∙ all_nmos (with_function f is_main (Some body) (no_lines (gives_of parts g))).lines (function_rows f is_main body (gives_of parts g))

-- ---- programs

abbrev AreNmos : List (Sym × Segment) → Type 0
AreNmos fs = (i : ℕ) (f : Sym × Segment) → slice_get fs i ≡ Some f → list_all is_nmos_line f.1.lines ≡ true

same_function : (f g : Sym × Segment) → ◌≡◌ {A = Option (Sym × Segment)} (Some f) (Some g) → f ≡ g
same_function f g h = cc

one_behind : (fs : List (Sym × Segment)) (g : Sym × Segment) → AreNmos fs → list_all is_nmos_line g.1.lines ≡ true → AreNmos (fs ++ g ∷ [])
one_behind [] g h k zero f here = ap (λ (x : Sym × Segment). list_all is_nmos_line x.1.lines) (sym (same_function g f here)) ∙ k
one_behind [] g h k (suc i) f here = absurd (let z : ◌≡◌ {A = Option (Sym × Segment)} None (Some f) = here in cc)
one_behind (x ∷ fs) g h k zero f here = h 0 f here
one_behind (x ∷ fs) g h k (suc i) f here = one_behind fs g (λ j. h (suc j)) k i f here

one_rows : (parts : Parts) (is_main : Bool) (modes : Modes) (sym : Sym) (g : FuncTy) (b : Option Stmt) (fs out : List (Sym × Segment)) → g.body ≡ b → AreNmos fs → one_more parts is_main modes sym g b fs ≡ Ok out → AreNmos out
one_rows parts is_main modes sym g None fs out there all h = subst AreNmos (answer fs out h) all
one_rows parts is_main modes sym g (Some body) fs out there all h =
    let made : (s : Segment) × (function_of parts is_main modes g ≡ Ok s) × (◌≡◌ {A = Result (List (Sym × Segment)) Fault} (Ok (fs ++ (sym, s) ∷ [])) (Ok out)) = bound (function_of parts is_main modes g) (λ s. Ok (fs ++ (sym, s) ∷ [])) out h in
    subst AreNmos (answer (fs ++ (sym, made.0) ∷ []) out made.2) (one_behind fs (sym, made.0) all (segment_rows parts is_main modes g body made.0 there made.1))

functions_rows : (parts : Parts) (main : ℕ) (modes : Modes) (i : ℕ) (gs : List TFunc) (fs out : List (Sym × Segment)) → AreNmos fs → functions_from parts main modes i gs fs ≡ Ok out → AreNmos out
functions_rows parts main modes i [] fs out all h = subst AreNmos (answer fs out h) all
functions_rows parts main modes i (g ∷ gs) fs out all h =
    let made : (x : List (Sym × Segment)) × (function_added parts main modes i (func_of g) fs ≡ Ok x) × (functions_from parts main modes (suc i) gs x ≡ Ok out) = bound (function_added parts main modes i (func_of g) fs) (functions_from parts main modes (suc i) gs) out h in
    functions_rows parts main modes (suc i) gs made.0 out (one_rows parts (i == main) modes (function_symbol (numbers_of parts) i) (func_of g) (func_of g).body fs made.0 refl all made.1) made.2

none_yet : AreNmos []
none_yet i f here = absurd (let z : ◌≡◌ {A = Option (Sym × Segment)} None (Some f) = here in cc)

pub programs_are_nmos : ProgramsAreNmos
programs_are_nmos parts main names modes code h =
    let made : (fs : List (Sym × Segment)) × (functions_of parts main modes ≡ Ok fs) × (◌≡◌ {A = Result Code Fault} (Ok (code_of parts main names fs)) (Ok code)) = bound (functions_of parts main modes) (λ fs. Ok (code_of parts main names fs)) code h in
    subst (λ (c : Code). AreNmos c.functions) (answer (code_of parts main names made.0) code made.2) (functions_rows parts main modes 0 parts.funcs.items [] made.0 none_yet made.1)
