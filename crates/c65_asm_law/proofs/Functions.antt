-- The functions of a program.
use Rattle.std.proofs.Common.{◌≡◌, ℕ, zero, suc, ◌+◌, ◌<◌, ◌≤◌, ◌^◌, ◌==◌, Bool, true, false, not, Option, None, Some, List, [], ◌∷◌, ◌++◌, length, refl, sym, ap, subst, ◌∙◌, arith}
use Rattle.std.specs.Prelude.{◌&&◌, Result, Ok, Err, nat_lt}
use Rattle.c65_base.specs.declared.refusal.Size.TheVariants as sizes
use Rattle.c65_base.specs.Answers.{Fault, large, ◌>>=◌}
use Rattle.c65_ctype.specs.Trees.{type_in}
use Rattle.c65_ctype.specs.Views.{types_of}
use Rattle.c65_csem.specs.declared.items.Parts.{Parts}
use Rattle.c65_csem.specs.declared.items.TFunc.{TFunc}
use Rattle.c65_csem.specs.Trees.{Typed, MaybeTyped, absent, present, Stmt, empty, eval, set_part, clear, block, if_stmt, while, do_while, for_loop, switch, case, default, label, goto, break, continue, return, Stmts, no_stmts, and_stmts, UnitTy, FuncTy}
use Rattle.c65_csem.specs.Typed.{result_of}
use Rattle.c65_csem.specs.Places.{is_tag}
use Rattle.c65_csem.specs.Units.{HasBody, IsBody, IsFunc, context_of}
use Rattle.c65_csem.specs.Views.{func_of, unit_of}
use Rattle.c65_code.specs.declared.line.Line.TheVariants.{Label}
use Rattle.c65_code.specs.declared.line.Sym.{Sym}
use Rattle.c65_code.specs.declared.parts.RegSet.{RegSet}
use Rattle.c65_code.specs.Segments.{Segment, Drafted, IsSegment}
use Rattle.c65_code.specs.Writable.{IsLetters}
use Rattle.c65_genframe.specs.declared.modes.Modes.{Modes}
use Rattle.c65_genframe.specs.Symbols.{numbers_of, function_symbol}
use Rattle.c65_genframe.specs.Frames.{Framed, frame_of, check_of, settled, passed_bytes, placed_in}
use Rattle.c65_genframe.specs.Marks.{lowest}
use Rattle.c65_genframe.specs.Objects.{locals_of}
use Rattle.c65_genframe.specs.Places.{Places}
use Rattle.c65_genframe.specs.Registers.{registers}
use Rattle.c65_genframe.specs.Sizes.{bytes_or}
use Rattle.c65_genwide.specs.Lines.{with_lines}
use Rattle.c65_genexpr.specs.Types.{bare}
use Rattle.c65_genentry.specs.Drafts.{with_labels}
use Rattle.c65_genentry.specs.Entry.{entry_code}
use Rattle.c65_genentry.specs.Ends.{end_code}
use Rattle.c65_genstmt.specs.declared.jumps.Ways.{Ways}
use Rattle.c65_genstmt.specs.declared.objects.Spot.{Spot}
use Rattle.c65_genstmt.specs.declared.objects.Spot.TheVariants.{Bank, Soft, Data}
use Rattle.c65_genstmt.specs.Cases.{room_of}
use Rattle.c65_genstmt.specs.Jumps.{following, with_value, with_test}
use Rattle.c65_genstmt.specs.Objects.{spot_of, object_bytes, with_kept, with_zeros}
use Rattle.c65_genstmt.specs.Stmts.{case_behind, with_label, two_given, three_given, with_maybe, with_effects, with_guard, ways, with_choice, with_stmt, with_stmts, with_last, with_lasts, is_empty, with_way, returns_last}
use Rattle.c65_genstmt.specs.Functions.{gives_of, main_code, no_lines, with_function, segment_of, function_of}
use Rattle.c65_genstmt.specs.Programs.{one_more, function_added, functions_from}
use Rattle.c65_genstmt.proofs.Made.{IsMade, function_is_made}
use Rattle.c65_gen_law_lines.proofs.FrameLaws.{answered}
use Rattle.c65_gen_law_lines.proofs.FunctionLaws.{functions_are_segments}
use Rattle.c65_asm_law.proofs.Well.{AllWell, well_append, well_none, letters_none, letters_a, letters_ax, letters_eax}
use Rattle.c65_asm_law.proofs.Known.{KnowsBy, Knows}
use Rattle.c65_asm_law.proofs.Moves.{frames_move}
use Rattle.c65_asm_law.proofs.Entries.{entry_well, end_well}
use Rattle.c65_asm_law.proofs.Stmts.{last_well}
use Rattle.c65_asm_law.proofs.Lists.{Every, every_append, Rises, rises_wider, rises_more}

-- ---- what a function gives stays through its body

kept_out : (tagged : Bool) (f : Framed) (spot : Spot) (e : Typed) (d : Drafted) → (with_kept tagged f spot e d).out ≡ d.out
kept_out true f spot e d = refl
kept_out false f spot e d = refl

zeros_out : (spot : Spot) (bytes : ℕ) (d : Drafted) → (with_zeros spot bytes d).out ≡ d.out
zeros_out (Bank bank) bytes d = refl
zeros_out (Soft at) bytes d = refl
zeros_out (Data s at) bytes d = refl

maybe_out : (f : Framed) (e : MaybeTyped) (d : Drafted) → (with_maybe f e d).out ≡ d.out
maybe_out f absent d = refl
maybe_out f (present e) d = refl

effects_out : (f : Framed) (e : MaybeTyped) (d : Drafted) → (with_effects f e d).out ≡ d.out
effects_out f absent d = refl
effects_out f (present e) d = refl

way_out : (at : Bool) (l : ℕ) (d : Drafted) → (with_way at l d).out ≡ d.out
way_out true l d = refl
way_out false l d = refl

guard_out : (f : Framed) (to : ℕ) (e : MaybeTyped) (d : Drafted) → (with_guard f to e d).out ≡ d.out
guard_out f to absent d = refl
guard_out f to (present e) d = refl

mutual
  stmt_out : (f : Framed) (w : Ways) (l : ℕ) (s : Stmt) (d : Drafted) → (with_stmt f w l s d).out ≡ d.out
  stmt_out f w l empty d = refl
  stmt_out f w l (eval e) d = refl
  stmt_out f w l (set_part i o e) d = kept_out (is_tag (bare e)) f (spot_of f i o) e (with_value f e d)
  stmt_out f w l (clear i) d = zeros_out (spot_of f i 0) (object_bytes f i) d
  stmt_out f w l (block os ss) d = stmts_out f w l ss d
  stmt_out f w l (if_stmt e a b) d =
      let m1 : Drafted = with_test f d.labels false e (two_given d) in
      let m2 : Drafted = with_stmt f w l a m1 in
      stmt_out f w (case_behind l a) b (with_label d.labels (with_way (is_empty b) (d.labels + 1) m2)) ∙ (way_out (is_empty b) (d.labels + 1) m2 ∙ stmt_out f w l a m1)
  stmt_out f w l (while e a) d = stmt_out f (ways (d.labels + 1) d.labels w.other) l a (with_test f (d.labels + 1) false e (with_label d.labels (two_given d)))
  stmt_out f w l (do_while a e) d = stmt_out f (ways (d.labels + 1 + 1) (d.labels + 1) w.other) l a (with_label d.labels (three_given d))
  stmt_out f w l (for_loop i c n a) d =
      let g : Drafted = with_effects f i d in
      let m1 : Drafted = with_label g.labels (three_given g) in
      let m2 : Drafted = with_guard f (g.labels + 1 + 1) c m1 in
      let inner : Ways = ways (g.labels + 1 + 1) (g.labels + 1) w.other in
      let m3 : Drafted = with_stmt f inner l a m2 in
      effects_out f n (with_label (g.labels + 1) m3) ∙ (stmt_out f inner l a m2 ∙ (guard_out f (g.labels + 1 + 1) c m1 ∙ effects_out f i d))
  stmt_out f w l (switch e a) d = stmt_out f (ways d.labels w.onward (d.labels + 1)) (d.labels + 1 + 1) a (with_choice f e a d)
  stmt_out f w l (case z a) d = stmt_out f w (following l) a (with_label l d)
  stmt_out f w l (default a) d = stmt_out f w l a (with_label w.other d)
  stmt_out f w l (label n a) d = stmt_out f w l a (with_label (following n) d)
  stmt_out f w l (goto n) d = refl
  stmt_out f w l break d = refl
  stmt_out f w l continue d = refl
  stmt_out f w l (return e) d = maybe_out f e d

  stmts_out : (f : Framed) (w : Ways) (l : ℕ) (ss : Stmts) (d : Drafted) → (with_stmts f w l ss d).out ≡ d.out
  stmts_out f w l no_stmts d = refl
  stmts_out f w l (and_stmts a ss) d = stmts_out f w (case_behind l a) ss (with_stmt f w l a d) ∙ stmt_out f w l a d

mutual
  last_out : (f : Framed) (w : Ways) (l : ℕ) (s : Stmt) (d : Drafted) → (with_last f w l s d).out ≡ d.out
  last_out f w l (block os ss) d = lasts_out f w l ss d
  last_out f w l (return e) d = maybe_out f e d
  last_out f w l a d = stmt_out f w l a d

  lasts_out : (f : Framed) (w : Ways) (l : ℕ) (ss : Stmts) (d : Drafted) → (with_lasts f w l ss d).out ≡ d.out
  lasts_out f w l no_stmts d = refl
  lasts_out f w l (and_stmts a no_stmts) d = last_out f w l a d
  lasts_out f w l (and_stmts a (and_stmts b ss)) d = lasts_out f w (case_behind l a) (and_stmts b ss) (with_stmt f w l a d) ∙ stmt_out f w l a d

registers_letters : (bytes : ℕ) → IsLetters (registers bytes)
registers_letters zero = letters_none
registers_letters (suc zero) = letters_a
registers_letters (suc (suc zero)) = letters_ax
registers_letters (suc (suc (suc n))) = letters_eax

-- ---- one function

main_well : (n : ℕ) (is_main : Bool) → AllWell n (main_code is_main)
main_well n true = record { all = ((tt, omega arith), ((tt, omega arith), tt)) }
main_well n false = well_none n

-- nothing yet, and the labels of the end and of the body's statements
abbrev begun : Stmt → RegSet → Drafted
begun body out = with_labels (room_of body) (with_labels 1 (no_lines out))

abbrev entered : Framed → Stmt → RegSet → Drafted
entered f body out = with_lines (begun body out) (entry_code f)

abbrev ran : Framed → Stmt → RegSet → Drafted
ran f body out = with_last f (ways 0 0 0) 0 body (entered f body out)

abbrev ended : Framed → Bool → Stmt → RegSet → Drafted
ended f is_main body out = with_label 0 (with_lines (ran f body out) (main_code (is_main && not (returns_last body))))

frame_parts : (parts : Parts) (modes : Modes) (g : FuncTy) (f : Framed) → frame_of parts modes g ≡ Ok f → f.parts ≡ parts
frame_parts parts modes g f h =
    let p : Places = placed_in parts modes g in
    let given : (nat_lt 1024 p.total ≡ false) × (settled parts (check_of parts modes g) g (lowest (locals_of g) g.params) (passed_bytes parts g) p ≡ f) = answered (nat_lt 1024 p.total) (large sizes.Frame p.total) (settled parts (check_of parts modes g) g (lowest (locals_of g) g.params) (passed_bytes parts g) p) f h in
    sym (ap (λ z. z.parts) given.1)

body_well : (n : ℕ) (u : UnitTy) (parts : Parts) (modes : Modes) (g : FuncTy) (body : Stmt) (f : Framed) (is_main : Bool) (out : RegSet) → Knows f u n → IsBody u g body → frame_of parts modes g ≡ Ok f
    → (with_function f is_main (Some body) (no_lines out)).labels < 2 ^ 32 → AllWell n (with_function f is_main (Some body) (no_lines out)).lines
body_well n u parts modes g body f is_main out knows well framed few =
    let m1 : Drafted = ran f body out in
    let first : Bool = is_main && not (returns_last body) in
    let h0 : AllWell n (entered f body out).lines = entry_well n f (frames_move parts modes g f framed) in
    let h1 : AllWell n m1.lines = last_well n u (context_of g body) f (ways 0 0 0) 0 body (entered f body out) knows well.typed (record { behind = omega arith; onward = omega arith; other = omega arith }) (omega arith) few h0 in
    let h2 : AllWell n (with_lines m1 (main_code first)).lines = well_append n m1.lines (main_code first) h1 (main_well n first) in
    let h3 : AllWell n (ended f is_main body out).lines = well_append n (with_lines m1 (main_code first)).lines (Label 0 ∷ []) h2 (record { all = (omega arith, tt) }) in
    well_append n (ended f is_main body out).lines (end_code f) h3 (end_well n f)

-- what holds of a function's lines
pub record WellFunction (n : ℕ) (f : Sym × Segment) : Type 0 where
  pub known : f.0.0 < n
  pub gives : IsLetters f.1.out
  pub lines : AllWell n f.1.lines
  pub segment : IsSegment f.1.lines

-- ---- what comes of two steps comes of both

bound : {A B : Type 0} (r : Result A Fault) (k : A → Result B Fault) (y : B) → (r >>= k) ≡ Ok y → (x : A) × (r ≡ Ok x) × (k x ≡ Ok y)
bound (Ok x) k y h = (x, refl, h)
bound (Err e) k y h = absurd cc

answer : {A : Type 0} (x y : A) → ◌≡◌ {A = Result A Fault} (Ok x) (Ok y) → x ≡ y
answer x y h = cc

-- a segment that is made of a body
segment_well : (n : ℕ) (parts : Parts) (is_main : Bool) (modes : Modes) (g : FuncTy) (body : Stmt) (s : Segment) (name : Sym) → KnowsBy (numbers_of parts) (unit_of parts) n → g.body ≡ Some body → IsBody (unit_of parts) g body → name.0 < n
    → function_of parts is_main modes g ≡ Ok s → WellFunction n (name, s)
segment_well n parts is_main modes g body s name knows there well known h =
    let made : IsMade parts is_main modes g s = function_is_made parts is_main modes g s h in
    let f : Framed = made.frame in
    let out : RegSet = gives_of parts g in
    let labels : (with_function f is_main (Some body) (no_lines out)).labels < 2 ^ 32 = subst (λ (b : Option Stmt). (with_function f is_main b (no_lines out)).labels < 2 ^ 32) there made.few in
    let knows_here : Knows f (unit_of parts) n = subst (λ (p : Parts). KnowsBy (numbers_of p) (unit_of parts) n) (sym (frame_parts parts modes g f made.framed)) knows in
    let lines : AllWell n (with_function f is_main (Some body) (no_lines out)).lines = body_well n (unit_of parts) parts modes g body f is_main out knows_here well made.framed labels in
    let segment : IsSegment (with_function f is_main (Some body) (no_lines out)).lines = functions_are_segments (unit_of parts) g body f is_main out well (omega (arith, labels)) in
    let gives : IsLetters (with_function f is_main (Some body) (no_lines out)).out = subst IsLetters (sym (last_out f (ways 0 0 0) 0 body (entered f body out))) (registers_letters (bytes_or (types_of parts.types) (type_in (result_of g.ty)) 0)) in
    let whole : WellFunction n (name, record { lines = (with_function f is_main (Some body) (no_lines out)).lines; out = (with_function f is_main (Some body) (no_lines out)).out }) = record { known = known; gives = gives; lines = lines; segment = segment } in
    let given : WellFunction n (name, segment_of parts is_main g f) = subst (λ (b : Option Stmt). WellFunction n (name, record { lines = (with_function f is_main b (no_lines out)).lines; out = (with_function f is_main b (no_lines out)).out })) (sym there) whole in
    subst (λ (z : Segment). WellFunction n (name, z)) made.same given

-- ---- all functions

abbrev pub key : Sym × Segment → ℕ
key f = f.0.0

pub record AreFunctions (n lo hi : ℕ) (fs : List (Sym × Segment)) : Type 0 where
  pub well : Every (WellFunction n) fs
  pub rises : Rises key lo hi fs

abbrev first : Parts → ℕ
first parts = length parts.objects.items + length parts.literals.items

one_well : (n : ℕ) (parts : Parts) (is_main : Bool) (modes : Modes) (i : ℕ) (g : FuncTy) (b : Option Stmt) (fs out : List (Sym × Segment)) → KnowsBy (numbers_of parts) (unit_of parts) n → first parts + suc i ≤ n → n ≤ 2 ^ 32 → g.body ≡ b → HasBody (unit_of parts) g b
    → one_more parts is_main modes (function_symbol (numbers_of parts) i) g b fs ≡ Ok out → AreFunctions n (first parts) (first parts + i) fs → AreFunctions n (first parts) (first parts + suc i) out
one_well n parts is_main modes i g None fs out knows room most there has h all =
    let wider : AreFunctions n (first parts) (first parts + suc i) fs = record { well = all.well; rises = rises_wider key (first parts) (first parts + i) (first parts + suc i) fs (omega arith) all.rises } in
    subst (AreFunctions n (first parts) (first parts + suc i)) (answer fs out h) wider
one_well n parts is_main modes i g (Some body) fs out knows room most there has h all =
    let s : Sym = function_symbol (numbers_of parts) i in
    let made : (z : Segment) × (function_of parts is_main modes g ≡ Ok z) × (◌≡◌ {A = Result (List (Sym × Segment)) Fault} (Ok (fs ++ (s, z) ∷ [])) (Ok out)) = bound (function_of parts is_main modes g) (λ z. Ok (fs ++ (s, z) ∷ [])) out h in
    let at : s.0 ≡ first parts + i = omega (arith, room, most) in
    let here : WellFunction n (s, made.0) = segment_well n parts is_main modes g body made.0 s knows there has (omega (arith, at, room)) made.1 in
    let more : AreFunctions n (first parts) (first parts + suc i) (fs ++ (s, made.0) ∷ []) = record {
      well = every_append (WellFunction n) fs ((s, made.0) ∷ []) all.well (here, tt);
      rises = rises_more key (first parts) (first parts + i) (first parts + suc i) fs (s, made.0) all.rises (omega (arith, at)) (omega (arith, at));
    } in
    subst (AreFunctions n (first parts) (first parts + suc i)) (answer (fs ++ (s, made.0) ∷ []) out made.2) more

pub functions_well : (n : ℕ) (parts : Parts) (main : ℕ) (modes : Modes) (i : ℕ) (gs : List TFunc) (fs out : List (Sym × Segment)) → KnowsBy (numbers_of parts) (unit_of parts) n → first parts + i + length gs ≤ n → n ≤ 2 ^ 32 → Every (λ g. IsFunc (unit_of parts) (func_of g)) gs
    → functions_from parts main modes i gs fs ≡ Ok out → AreFunctions n (first parts) (first parts + i) fs → AreFunctions n (first parts) (first parts + i + length gs) out
functions_well n parts main modes i [] fs out knows room most typed h all =
    let wider : AreFunctions n (first parts) (first parts + i + 0) fs = record { well = all.well; rises = rises_wider key (first parts) (first parts + i) (first parts + i + 0) fs (omega arith) all.rises } in
    subst (AreFunctions n (first parts) (first parts + i + 0)) (answer fs out h) wider
functions_well n parts main modes i (g ∷ gs) fs out knows room most typed h all =
    let made : (x : List (Sym × Segment)) × (function_added parts main modes i (func_of g) fs ≡ Ok x) × (functions_from parts main modes (suc i) gs x ≡ Ok out) = bound (function_added parts main modes i (func_of g) fs) (functions_from parts main modes (suc i) gs) out h in
    let next : List (Sym × Segment) = made.0 in
    let here : AreFunctions n (first parts) (first parts + suc i) next = one_well n parts (i == main) modes i (func_of g) (func_of g).body fs next knows (omega (arith, room)) most refl typed.0.body made.1 all in
    let rest_well : AreFunctions n (first parts) (first parts + suc i + length gs) out = functions_well n parts main modes (suc i) gs next out knows (omega (arith, room)) most typed.1 made.2 here in
    record { well = rest_well.well; rises = rises_wider key (first parts) (first parts + suc i + length gs) (first parts + i + suc (length gs)) out (omega arith) rest_well.rises }
