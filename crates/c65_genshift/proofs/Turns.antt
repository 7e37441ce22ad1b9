-- One turn more stands behind the others.
use Rattle.std.proofs.Common.{◌≡◌, ℕ, zero, suc, ◌+◌, List, ◌++◌, append_assoc, ap, refl, sym, ◌∙◌, arith}
use Rattle.c65_code.specs.declared.line.Line.{Line}
use Rattle.c65_code.specs.Segments.{Drafted}
use Rattle.c65_genwide.specs.Lines.{with_lines}
use Rattle.c65_genshift.specs.Shifts.{left_turn, left_turns}

turns_last : (n : ℕ) → left_turns (suc n) ≡ left_turns n ++ left_turn
turns_last zero = refl
turns_last (suc n) = ap (λ (ls : List Line). left_turn ++ ls) (turns_last n)

turns_next : (n : ℕ) → left_turns (n + 1) ≡ left_turns n ++ left_turn
turns_next n = let on : n + 1 ≡ suc n = omega arith in ap left_turns on ∙ turns_last n

pub turn_grows : (d e f : Drafted) (n : ℕ) → e ≡ with_lines d (left_turns n) → f ≡ with_lines e left_turn → f ≡ with_lines d (left_turns (n + 1))
turn_grows d e f n before last =
    last ∙ ap (λ (x : Drafted). with_lines x left_turn) before ∙ ap (λ (ls : List Line). record d { lines = ls }) (append_assoc d.lines (left_turns n) left_turn ∙ ap (λ (ls : List Line). d.lines ++ ls) (sym (turns_next n)))
