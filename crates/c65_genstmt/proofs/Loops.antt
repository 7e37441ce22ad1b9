-- A loop that tests behind its body, step by step.
use Rattle.std.proofs.Common.{◌≡◌, ℕ, ◌+◌, ap, ◌∙◌}
use Rattle.c65_csem.specs.Trees.{Typed, Stmt}
use Rattle.c65_code.specs.Segments.{Drafted}
use Rattle.c65_genframe.specs.Frames.{Framed}
use Rattle.c65_genstmt.specs.declared.jumps.Ways.{Ways}
use Rattle.c65_genstmt.specs.Stmts.{ways, with_label, three_given, with_bottom, with_stmt, with_do}

pub do_is : (f : Framed) (w : Ways) (l : ℕ) (a : Stmt) (e : Typed) (d g b r : Drafted) (head onward end : ℕ) → g ≡ with_label d.labels (three_given d) → head ≡ d.labels → onward ≡ d.labels + 1 → end ≡ d.labels + 1 + 1 → b ≡ with_stmt f (ways end onward w.other) l a g → r ≡ with_bottom f head onward end e b → r ≡ with_do f w l a e d
do_is f w l a e d g b r head onward end opens is_head is_onward is_end runs closes =
    closes
    ∙ ap (λ (n : ℕ). with_bottom f n onward end e b) is_head
    ∙ ap (λ (n : ℕ). with_bottom f d.labels n end e b) is_onward
    ∙ ap (λ (n : ℕ). with_bottom f d.labels (d.labels + 1) n e b) is_end
    ∙ ap (λ (x : Drafted). with_bottom f d.labels (d.labels + 1) (d.labels + 1 + 1) e x) (runs ∙ ap (λ (n : ℕ). with_stmt f (ways n onward w.other) l a g) is_end ∙ ap (λ (n : ℕ). with_stmt f (ways (d.labels + 1 + 1) n w.other) l a g) is_onward ∙ ap (λ (x : Drafted). with_stmt f (ways (d.labels + 1 + 1) (d.labels + 1) w.other) l a x) opens)
