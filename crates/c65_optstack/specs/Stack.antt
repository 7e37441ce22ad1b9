-- The turns of the rules on the software stack.
use Rattle.std.specs.Prelude.{ℕ, ◌==◌, if◌then◌else◌}
use Rattle.c65_pass.specs.Rounds.{Only}

-- Each rule in the turn of its number, but rule 38 before rule 36, which takes the windows of rule 38 apart.
abbrev pub rule_of_turn : ℕ → ℕ
rule_of_turn turn = if turn == 36 then 38 else (if turn == 38 then 36 else turn)

abbrev pub InItsTurn : ℕ → ℕ → Type 0
InItsTurn turn rule = Only (rule_of_turn turn) rule
