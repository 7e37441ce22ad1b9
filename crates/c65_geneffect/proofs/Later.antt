-- The lines of an assignment whose right side comes first, from those that one draft has behind another.
use Rattle.std.proofs.Common.{◌≡◌, ℕ, ◌+◌, List, ◌++◌, ap, ◌∙◌, append_assoc, arith, Result, Ok, Err}
use Rattle.std.specs.Result.{OnOk}
use Rattle.c65_code.specs.Segments.{Drafted}
use Rattle.c65_code.specs.declared.line.Line.{Line}
use Rattle.c65_genwide.specs.Lines.{grown, with_lines}

-- the right side, what lets its value wait, the index by the labels before it, and what is put behind
pub later_lines : {A E : Type 0} (r : Result A E) (d d1 d2 d3 g : Drafted) (right wait last : List Line) (index : ℕ → List Line) (own ua ub n : ℕ) → own ≡ ua → n ≡ ua + ub
    → d1 ≡ grown d right ub
    → d2 ≡ with_lines d1 wait
    → d3 ≡ grown d2 (index d2.labels) own
    → OnOk r (g ≡ with_lines d3 last)
    → OnOk r (g ≡ grown d (right ++ (wait ++ (index (d.labels + ub) ++ last))) n)
later_lines (Err u) d d1 d2 d3 g right wait last index own ua ub n same sum h1 h2 h3 h4 = tt
later_lines (Ok u) d d1 d2 d3 g right wait last index own ua ub n same sum h1 h2 h3 h4 =
    let k : ℕ = d.labels + ub in
    let count : d.labels + ub + own ≡ d.labels + n = omega (arith, same, sum) in
    h4
    ∙ ap (λ (z : Drafted). with_lines z last) h3
    ∙ ap (λ (z : Drafted). with_lines (grown z (index z.labels) own) last) h2
    ∙ ap (λ (z : Drafted). with_lines (grown (with_lines z wait) (index z.labels) own) last) h1
    ∙ ap (λ (all : List Line). record d { lines = all; labels = d.labels + ub + own })
    (append_assoc ((d.lines ++ right) ++ wait) (index k) last
    ∙ append_assoc (d.lines ++ right) wait (index k ++ last)
    ∙ append_assoc d.lines right (wait ++ (index k ++ last)))
    ∙ ap (λ (m : ℕ). record d { lines = d.lines ++ (right ++ (wait ++ (index k ++ last))); labels = m }) count
