-- The lines of a whole, from those that one draft has behind another.
use Rattle.std.proofs.Common.{◌≡◌, ℕ, ◌+◌, Bool, true, false, Some, None, List, [], ◌∷◌, ◌++◌, refl, sym, subst, ap, ◌∙◌, append_assoc, arith, Result, Ok, Err}
use Rattle.std.specs.Result.{OnOk}
use Rattle.c65_csem.specs.Trees.{Typed}
use Rattle.c65_mach.specs.declared.rows.Op.TheVariants.{Jmp}
use Rattle.c65_mach.specs.declared.rows.Mode.TheVariants.{Absolute}
use Rattle.c65_code.specs.Segments.{Drafted}
use Rattle.c65_code.specs.declared.line.Line.{Line}
use Rattle.c65_code.specs.declared.line.Line.TheVariants.{Label, Do}
use Rattle.c65_code.specs.declared.line.Operand.TheVariants.{To}
use Rattle.c65_genframe.specs.Frames.{Framed}
use Rattle.c65_genwide.specs.Lines.{grown, with_lines, with_label}
use Rattle.c65_genexpr.specs.declared.wanted.Wanted.TheVariants.{Value, Test}
use Rattle.c65_genexpr.specs.Wanted.{is_straight, way, way_labels, joined}
use Rattle.c65_genexpr.specs.Uses.{uses}
use Rattle.c65_genexpr.specs.Code.{expr_code, joint_code, choice_code}

nothing_more : (xs : List Line) → xs ++ [] ≡ xs
nothing_more [] = refl
nothing_more (x ∷ xs) = ap (λ (l : List Line). x ∷ l) (nothing_more xs)

-- `&&` and `||` whose two sides lead to one label
pub joint_lines : {A E : Type 0} (r : Result A E) (d e g : Drafted) (f : Framed) (pushed to : ℕ) (sense stop : Bool) (a b : Typed) → is_straight stop sense ≡ true
    → e ≡ grown d (expr_code f pushed d.labels (Test to stop) a) (uses (Some stop) a)
    → OnOk r (g ≡ grown e (expr_code f pushed e.labels (Test to sense) b) (uses (Some sense) b))
    → OnOk r (g ≡ grown d (joint_code f pushed d.labels to sense stop a b) (way_labels (is_straight stop sense) + (uses (Some stop) a + uses (Some sense) b)))
joint_lines (Err u) d e g f pushed to sense stop a b straight first second = tt
joint_lines (Ok u) d e g f pushed to sense stop a b straight first second =
    let ua : ℕ = uses (Some stop) a in
    let ub : ℕ = uses (Some sense) b in
    let left : ℕ → List Line = λ k. expr_code f pushed k (Test to stop) a in
    let right : ℕ → List Line = λ k. expr_code f pushed k (Test to sense) b in
    let count : d.labels + ua + ub ≡ d.labels + (0 + (ua + ub)) = omega arith in
    let none : d.labels ≡ d.labels + 0 = omega arith in
    let P : Bool → Type 0 = λ s. g ≡ grown d (joined s d.labels (expr_code f pushed (d.labels + way_labels s) (Test (way s to d.labels) stop) a) (expr_code f pushed (d.labels + way_labels s + ua) (Test to sense) b)) (way_labels s + (ua + ub)) in
    subst P (sym straight)
    (second
    ∙ ap (λ (x : Drafted). grown x (right x.labels) ub) first
    ∙ ap (λ (all : List Line). record d { lines = all; labels = d.labels + ua + ub }) (append_assoc d.lines (left d.labels) (right (d.labels + ua)))
    ∙ ap (λ (ls : List Line). record d { lines = d.lines ++ (left d.labels ++ ls); labels = d.labels + ua + ub }) (sym (nothing_more (right (d.labels + ua))))
    ∙ ap (λ (n : ℕ). record d { lines = d.lines ++ (left d.labels ++ (right (d.labels + ua) ++ [])); labels = n }) count
    ∙ ap (λ (k : ℕ). record d { lines = d.lines ++ (left k ++ (right (k + ua) ++ [])); labels = d.labels + (0 + (ua + ub)) }) none)

-- `?:`
pub choice_lines : {A E : Type 0} (r : Result A E) (d d1 d2 d3 d4 d5 d6 g : Drafted) (f : Framed) (pushed other end : ℕ) (c a b : Typed) → other ≡ d.labels → end ≡ d1.labels → d1 ≡ with_label d → d2 ≡ with_label d1
    → d3 ≡ grown d2 (expr_code f pushed d2.labels (Test other false) c) (uses (Some false) c)
    → d4 ≡ grown d3 (expr_code f pushed d3.labels Value a) (uses None a)
    → d5 ≡ with_lines d4 (Do Jmp Absolute (To end) ∷ Label other ∷ [])
    → d6 ≡ grown d5 (expr_code f pushed d5.labels Value b) (uses None b)
    → OnOk r (g ≡ with_lines d6 (Label end ∷ []))
    → OnOk r (g ≡ grown d (choice_code f pushed d.labels c a b) (2 + (uses (Some false) c + (uses None a + uses None b))))
choice_lines (Err u) d d1 d2 d3 d4 d5 d6 g f pushed other end c a b ho he h1 h2 h3 h4 h5 h6 q = tt
choice_lines (Ok u) d d1 d2 d3 d4 d5 d6 g f pushed other end c a b ho he h1 h2 h3 h4 h5 h6 q =
    let uc : ℕ = uses (Some false) c in
    let ua : ℕ = uses None a in
    let ub : ℕ = uses None b in
    let test : ℕ → ℕ → List Line = λ o k. expr_code f pushed k (Test o false) c in
    let first : ℕ → List Line = λ k. expr_code f pushed k Value a in
    let second : ℕ → List Line = λ k. expr_code f pushed k Value b in
    let over : ℕ → ℕ → List Line = λ o e. Do Jmp Absolute (To e) ∷ Label o ∷ [] in
    let shape : ℕ → ℕ → Drafted → Drafted = λ o e x. with_lines (grown (with_lines (grown (grown x (test o x.labels) uc) (first (x.labels + uc)) ua) (over o e)) (second (x.labels + uc + ua)) ub) (Label e ∷ []) in
    let o : ℕ = d.labels in
    let e : ℕ = d.labels + 1 in
    let two : d.labels + 1 + 1 ≡ d.labels + 2 = omega arith in
    let count : d.labels + 1 + 1 + uc + ua + ub ≡ d.labels + (2 + (uc + (ua + ub))) = omega arith in
    let k : ℕ = d.labels + 2 in
    let last : List Line = second (k + uc + ua) ++ Label e ∷ [] in
    q
    ∙ ap (λ (x : Drafted). with_lines x (Label end ∷ [])) h6
    ∙ ap (λ (x : Drafted). with_lines (grown x (second x.labels) ub) (Label end ∷ [])) h5
    ∙ ap (λ (x : Drafted). with_lines (grown (with_lines x (over other end)) (second x.labels) ub) (Label end ∷ [])) h4
    ∙ ap (λ (x : Drafted). with_lines (grown (with_lines (grown x (first x.labels) ua) (over other end)) (second (x.labels + ua)) ub) (Label end ∷ [])) h3
    ∙ ap (λ (x : Drafted). shape other end x) (h2 ∙ ap (λ (x : Drafted). with_label x) h1)
    ∙ ap (λ (y : ℕ). shape y end (with_label (with_label d))) ho
    ∙ ap (λ (y : ℕ). shape o y (with_label (with_label d))) (he ∙ ap (λ (x : Drafted). x.labels) h1)
    ∙ ap (λ (y : ℕ). record d { lines = ((((d.lines ++ test o y) ++ first (y + uc)) ++ over o e) ++ second (y + uc + ua)) ++ Label e ∷ []; labels = d.labels + 1 + 1 + uc + ua + ub }) two
    ∙ ap (λ (all : List Line). record d { lines = all; labels = d.labels + 1 + 1 + uc + ua + ub })
    (append_assoc (((d.lines ++ test o k) ++ first (k + uc)) ++ over o e) (second (k + uc + ua)) (Label e ∷ [])
    ∙ append_assoc ((d.lines ++ test o k) ++ first (k + uc)) (over o e) last
    ∙ append_assoc (d.lines ++ test o k) (first (k + uc)) (over o e ++ last)
    ∙ append_assoc d.lines (test o k) (first (k + uc) ++ (over o e ++ last)))
    ∙ ap (λ (n : ℕ). record d { lines = d.lines ++ (test o k ++ (first (k + uc) ++ (over o e ++ last))); labels = n }) count
