-- The line of each call takes away what the call passes.
use Rattle.std.proofs.Common.{◌≡◌, ℕ, zero, suc, ◌+◌, ◌==◌, ◌^◌, ◌≤◌, Bool, true, false, not, Option, None, Some, List, [], ◌∷◌, ◌++◌, length, slice_get, take, refl, sym, ap, subst, ◌∙◌, arith}
use Rattle.std.specs.Prelude.{◌&&◌, if◌then◌else◌}
use Rattle.std.proofs.lemmas.Bool.{eqb-true}
use Rattle.c65_csem.specs.Trees.{Stmt, UnitTy, FuncTy}
use Rattle.c65_csem.specs.Units.{context_of, IsBody}
use Rattle.c65_code.specs.declared.line.Line.{Line}
use Rattle.c65_code.specs.declared.parts.RegSet.{RegSet}
use Rattle.c65_code.specs.Segments.{Drafted}
use Rattle.c65_genframe.specs.Frames.{Framed}
use Rattle.c65_genwide.specs.Lines.{with_lines}
use Rattle.c65_genentry.specs.Drafts.{with_labels}
use Rattle.c65_genentry.specs.Entry.{entry_code}
use Rattle.c65_genentry.specs.Ends.{end_code}
use Rattle.c65_genstmt.specs.Cases.{room_of}
use Rattle.c65_genstmt.specs.Stmts.{with_label, ways, with_last, returns_last}
use Rattle.c65_genstmt.specs.Functions.{main_code, no_lines, with_function}
use Rattle.c65_gen_law_lines.specs.Stack.{Waiting, waiting_by, taken, left, called, by_line, waits, bytes_in, statement_calls}
use Rattle.c65_gen_law_stack.specs.Going.{sum_in, waiting_at, at_first}
use Rattle.c65_gen_law_stack.specs.Heights.{values_in, AreLevel}
use Rattle.c65_gen_law_stack.proofs.FunctionLevels.{functions_are_level}
use Rattle.c65_gen_law_calls.specs.Sites.{Site, bytes_of, statement_sites}
use Rattle.c65_gen_law_calls.specs.Lines.{is_calling, callings, line_of, lines_of}
use Rattle.c65_gen_law_calls.specs.Found.{LinesAreOfCalls}
use Rattle.c65_gen_law_calls.proofs.Callings.{calls_in, line_keeps, line_takes, nothing_waits, Free, free_none}
use Rattle.c65_gen_law_calls.proofs.StmtSites.{Adds, adds_before, adds_behind, free_lines, label_adds, last_adds}
use Rattle.c65_gen_law_calls.proofs.SiteLaws.{all_bytes, statement_calls_are, site_in, stmt_sites}

-- ---- what is taken away

taken_if : (n m : ℕ) (ns vs us : List ℕ) (b : Bool) → (m == n) ≡ b → ((taken ns vs ≡ Some us) → bytes_in vs ≡ bytes_in us + bytes_in ns) → (if b then taken ns vs else None) ≡ Some us → m + bytes_in vs ≡ bytes_in us + (n + bytes_in ns)
taken_if n m ns vs us true same rest e = let one : m ≡ n = eqb-true m n same in let more : bytes_in vs ≡ bytes_in us + bytes_in ns = rest e in omega (arith, one, more)
taken_if n m ns vs us false same rest e = absurd cc

taken_sum : (ns vs us : List ℕ) → taken ns vs ≡ Some us → bytes_in vs ≡ bytes_in us + bytes_in ns
taken_sum [] vs us e = let same : vs ≡ us = cc in let sums : bytes_in vs ≡ bytes_in us = ap bytes_in same in omega (arith, sums)
taken_sum (n ∷ ns) [] us e = absurd cc
taken_sum (n ∷ ns) (m ∷ vs) us e = taken_if n m ns vs us (m == n) refl (taken_sum ns vs us) e

left_sum : (calls : List (List ℕ)) (ns vs : List ℕ) (o : Option (List ℕ)) (x : Waiting) → taken ns vs ≡ o → left calls o ≡ Some x → bytes_in vs ≡ bytes_in x.values + bytes_in ns
left_sum calls ns vs None x is e = absurd cc
left_sum calls ns vs (Some us) x is e =
    let same : bytes_in us ≡ bytes_in x.values = ap (λ (w : Option Waiting). sum_in (values_in w)) e in
    omega (arith, taken_sum ns vs us is, same)

left_calls : (calls : List (List ℕ)) (o : Option (List ℕ)) (x : Waiting) → left calls o ≡ Some x → x.calls ≡ calls
left_calls calls None x e = absurd cc
left_calls calls (Some us) x e = sym (ap calls_in e)

-- ---- by the number of the line

record At (f : Framed) (ss : List Site) (w : Option Waiting) (lines : List Line) (j : ℕ) (line : Line) : Type 0 where
  site : Site
  found : slice_get ss (length (callings (take j lines))) ≡ Some site
  calls : line ≡ line_of f site
  takes : waiting_at w lines j ≡ waiting_at w lines (suc j) + bytes_in (bytes_of f site)

abbrev head_of : Line → List Line → Line
head_of other [] = other
head_of other (line ∷ lines) = line

abbrev tail_of : List Line → List Line
tail_of [] = []
tail_of (line ∷ lines) = lines

-- some wait behind the line, since some wait at the end
waits_on : (line : Line) (lines : List Line) (w x : Waiting) (o : Option Waiting) → by_line line w ≡ o → waits (by_line line w) lines ≡ Some x → (y : Waiting) × (by_line line w ≡ Some y)
waits_on line lines w x None is e = absurd (let n : waits None lines ≡ None = nothing_waits lines in let k : waits None lines ≡ Some x = ap (λ (z : Option Waiting). waits z lines) (sym is) ∙ e in cc)
waits_on line lines w x (Some y) is e = (y, is)

-- the line of the first call
first_call : (f : Framed) (line : Line) (lines : List Line) (ss : List Site) (w y : Waiting) → is_calling line ≡ true → w.calls ≡ all_bytes f ss → line ∷ callings lines ≡ lines_of f ss → by_line line w ≡ Some y
    → (s : Site) × (rest : List Site) × (ss ≡ s ∷ rest) × (line ≡ line_of f s) × (callings lines ≡ lines_of f rest) × (y.calls ≡ all_bytes f rest) × (bytes_in w.values ≡ bytes_in y.values + bytes_in (bytes_of f s))
first_call f line lines [] w y calls all is e = absurd cc
first_call f line lines (s ∷ rest) w y calls all is e =
    let step : left (all_bytes f rest) (taken (bytes_of f s) w.values) ≡ Some y = ap (λ (c : List (List ℕ)). called c w.values) (sym all) ∙ (sym (line_takes line w calls) ∙ e) in
    (s, rest, refl, ap (head_of line) is, ap tail_of is, left_calls (all_bytes f rest) (taken (bytes_of f s) w.values) y step, left_sum (all_bytes f rest) (bytes_of f s) w.values (taken (bytes_of f s) w.values) y refl step)

at_behind : (f : Framed) (ss : List Site) (w x : Waiting) (first : Line) (lines : List Line) (j : ℕ) (line : Line) (b : Bool) → waits (Some w) (first ∷ lines) ≡ Some x → w.calls ≡ all_bytes f ss → callings (first ∷ lines) ≡ lines_of f ss → is_calling first ≡ b
    → ((rest : List Site) (y : Waiting) → waits (Some y) lines ≡ Some x → y.calls ≡ all_bytes f rest → callings lines ≡ lines_of f rest → At f rest (Some y) lines j line) → At f ss (Some w) (first ∷ lines) (suc j) line
at_behind f ss w x first lines j line true e all is c later =
    let y : (y : Waiting) × (by_line first w ≡ Some y) = waits_on first lines w x (by_line first w) refl e in
    let on : waits (Some y.0) lines ≡ Some x = ap (λ (z : Option Waiting). waits z lines) (sym y.1) ∙ e in
    let before : waiting_at (Some w) (first ∷ lines) (suc j) ≡ waiting_at (Some y.0) lines j = ap (λ (z : Option Waiting). waiting_at z lines j) y.1 in
    let after : waiting_at (Some w) (first ∷ lines) (suc (suc j)) ≡ waiting_at (Some y.0) lines (suc j) = ap (λ (z : Option Waiting). waiting_at z lines (suc j)) y.1 in
    let split : first ∷ callings lines ≡ lines_of f ss = ap (λ (b : Bool). if b then first ∷ callings lines else callings lines) (sym c) ∙ is in
    let s = first_call f first lines ss w y.0 c all split y.1 in
    let rest : At f s.1 (Some y.0) lines j line = later s.1 y.0 on s.5 s.4 in
    let number : length (callings (take (suc j) (first ∷ lines))) ≡ suc (length (callings (take j lines))) = ap (λ (b : Bool). length (if b then first ∷ callings (take j lines) else callings (take j lines))) c in
    record {
      site = rest.site;
      found = ap (slice_get ss) number ∙ (ap (λ (z : List Site). slice_get z (suc (length (callings (take j lines))))) s.2 ∙ rest.found);
      calls = rest.calls;
      takes = omega (arith, rest.takes, before, after);
    }
at_behind f ss w x first lines j line false e all is c later =
    let y : (y : Waiting) × (by_line first w ≡ Some y) = waits_on first lines w x (by_line first w) refl e in
    let on : waits (Some y.0) lines ≡ Some x = ap (λ (z : Option Waiting). waits z lines) (sym y.1) ∙ e in
    let before : waiting_at (Some w) (first ∷ lines) (suc j) ≡ waiting_at (Some y.0) lines j = ap (λ (z : Option Waiting). waiting_at z lines j) y.1 in
    let after : waiting_at (Some w) (first ∷ lines) (suc (suc j)) ≡ waiting_at (Some y.0) lines (suc j) = ap (λ (z : Option Waiting). waiting_at z lines (suc j)) y.1 in
    let skip : callings lines ≡ lines_of f ss = ap (λ (b : Bool). if b then first ∷ callings lines else callings lines) (sym c) ∙ is in
    let rest : At f ss (Some y.0) lines j line = later ss y.0 on (line_keeps first w y.0 c y.1 ∙ all) skip in
    let number : length (callings (take (suc j) (first ∷ lines))) ≡ length (callings (take j lines)) = ap (λ (b : Bool). length (if b then first ∷ callings (take j lines) else callings (take j lines))) c in
    record {
      site = rest.site;
      found = ap (slice_get ss) number ∙ rest.found;
      calls = rest.calls;
      takes = omega (arith, rest.takes, before, after);
    }

at_line : (f : Framed) (ss : List Site) (w x : Waiting) (lines : List Line) (j : ℕ) (line : Line) → waits (Some w) lines ≡ Some x → w.calls ≡ all_bytes f ss → callings lines ≡ lines_of f ss → slice_get lines j ≡ Some line → is_calling line ≡ true → At f ss (Some w) lines j line
at_line f ss w x [] j line e all is here calls = absurd cc
at_line f ss w x (first ∷ lines) zero line e all is here calls =
    let same : first ≡ line = cc in
    let calling : is_calling first ≡ true = ap is_calling same ∙ calls in
    let y : (y : Waiting) × (by_line first w ≡ Some y) = waits_on first lines w x (by_line first w) refl e in
    let split : first ∷ callings lines ≡ lines_of f ss = ap (λ (b : Bool). if b then first ∷ callings lines else callings lines) (sym calling) ∙ is in
    let s = first_call f first lines ss w y.0 calling all split y.1 in
    let after : sum_in (values_in (by_line first w)) ≡ bytes_in y.0.values = ap (λ (z : Option Waiting). sum_in (values_in z)) y.1 in
    record { site = s.0; found = ap (λ (z : List Site). slice_get z zero) s.2; calls = sym same ∙ s.3; takes = omega (arith, s.6, after) }
at_line f ss w x (first ∷ lines) (suc j) line e all is here calls =
    at_behind f ss w x first lines j line (is_calling first) e all is refl (λ rest y on more lines_are. at_line f rest y x lines j line on more lines_are here calls)

-- ---- functions

main_free : (is_main : Bool) → Free (main_code is_main)
main_free true = record { none = refl }
main_free false = free_none

abbrev entered : Framed → Stmt → RegSet → Drafted
entered f body out = with_lines (with_labels (room_of body) (with_labels 1 (no_lines out))) (entry_code f)

abbrev run : Framed → Stmt → RegSet → Drafted
run f body out = with_last f (ways 0 0 0) 0 body (entered f body out)

abbrev ended : Framed → Bool → Stmt → RegSet → Drafted
ended f is_main body out = with_label 0 (with_lines (run f body out) (main_code (is_main && not (returns_last body))))

body_adds : (f : Framed) (is_main : Bool) (body : Stmt) (out : RegSet) → Adds f (statement_sites body) (entered f body out) (ended f is_main body out)
body_adds f is_main body out =
    let first : Bool = is_main && not (returns_last body) in
    let m : Drafted = with_lines (run f body out) (main_code first) in
    adds_behind (last_adds f (ways 0 0 0) 0 body (entered f body out)) (adds_before (free_lines (run f body out) (main_code first) (main_free first)) (label_adds 0 m))

-- lines between two others are the only ones there
same_behind : (a b c : List Line) → a ++ b ≡ a ++ c → b ≡ c
same_behind [] b c e = e
same_behind (x ∷ a) b c e = same_behind a b c (ap tail_of e)

same_length : (a b : List Line) → length (a ++ b) ≡ length a + length b
same_length [] b = omega arith
same_length (x ∷ a) b = omega (arith, same_length a b)

shorter : (x : Line) (a b : List Line) → x ∷ (a ++ b) ≡ b → ⊥
shorter x a b e =
    let lengths : length (x ∷ (a ++ b)) ≡ length b = ap length e in
    omega (arith, lengths, same_length a b)

same_before : (a b c : List Line) → a ++ c ≡ b ++ c → a ≡ b
same_before [] [] c e = refl
same_before [] (y ∷ b) c e = absurd (shorter y b c (sym e))
same_before (x ∷ a) [] c e = absurd (shorter x a c e)
same_before (x ∷ a) (y ∷ b) c e =
    let rest : a ≡ b = same_before a b c (ap tail_of e) in
    let first : x ≡ y = ap (head_of x) e in
    ap (λ (z : Line). z ∷ a) first ∙ ap (λ (z : List Line). y ∷ z) rest

append_lines : (xs ys zs : List Line) → (xs ++ ys) ++ zs ≡ xs ++ (ys ++ zs)
append_lines [] ys zs = refl
append_lines (x ∷ xs) ys zs = ap (λ (l : List Line). x ∷ l) (append_lines xs ys zs)

abbrev Split : Framed → Bool → Stmt → RegSet → List Line → Type 0
Split f is_main body out middle = (with_function f is_main (Some body) (no_lines out)).lines ≡ entry_code f ++ (middle ++ end_code f)

same_middle : (f : Framed) (a b : List Line) → entry_code f ++ (a ++ end_code f) ≡ entry_code f ++ (b ++ end_code f) → a ≡ b
same_middle f a b e = same_before a b (end_code f) (same_behind (entry_code f) (a ++ end_code f) (b ++ end_code f) e)

pub middle_level : (u : UnitTy) (g : FuncTy) (body : Stmt) (f : Framed) (is_main : Bool) (out : RegSet) (middle : List Line) → IsBody u g body → (with_function f is_main (Some body) (no_lines out)).labels ≤ 2 ^ 32 → Split f is_main body out middle → AreLevel (at_first f body) middle
middle_level u g body f is_main out middle well few lines =
    let level = functions_are_level u g body f is_main out well few in
    subst (λ (l : List Line). AreLevel (at_first f body) l) (same_middle f level.0 middle (sym level.1 ∙ lines)) level.3

pub lines_are_of_calls : LinesAreOfCalls
lines_are_of_calls u g body f is_main out middle well few lines j line here calls =
    let put : Adds f (statement_sites body) (entered f body out) (ended f is_main body out) = body_adds f is_main body out in
    let made : (entry_code f ++ put.added) ++ end_code f ≡ entry_code f ++ (middle ++ end_code f) = ap (λ (l : List Line). l ++ end_code f) (sym put.lines) ∙ lines in
    let same : put.added ≡ middle = same_middle f put.added middle (sym (append_lines (entry_code f) put.added (end_code f)) ∙ made) in
    let level = functions_are_level u g body f is_main out well few in
    let other : level.0 ≡ middle = same_middle f level.0 middle (sym level.1 ∙ lines) in
    let waits_all : waits (at_first f body) middle ≡ Some (waiting_by [] []) = ap (waits (at_first f body)) (sym other) ∙ level.2 in
    let all : callings middle ≡ lines_of f (statement_sites body) = ap callings (sym same) ∙ put.has.is in
    let at : At f (statement_sites body) (at_first f body) middle j line = at_line f (statement_sites body) (waiting_by [] (statement_calls f body)) (waiting_by [] []) middle j line waits_all (statement_calls_are f body) all here calls in
    record {
      site = at.site;
      found = at.found;
      typed = site_in u (statement_sites body) (length (callings (take j middle))) at.site (stmt_sites u (context_of g body) body well.typed) at.found;
      calls = at.calls;
      takes = at.takes;
    }
