use Rattle.std.proofs.Common.{◌≡◌, ℕ, List, ◌++◌, take, drop, option_map}
use Rattle.c65_asm.specs.Words.{cut_at}
use Rattle.c65_asm.proofs.words.cut.Given as goal

abbrev pub invariant-loop-index : goal.invariant-loop-index
invariant-loop-index l = option_map (λ (p : List ℕ × List ℕ). (take l.index l.text ++ p.0, p.1)) (cut_at l.mark (drop l.index l.text)) ≡ cut_at l.mark l.text
