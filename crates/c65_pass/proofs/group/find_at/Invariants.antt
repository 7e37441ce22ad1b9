use Rattle.std.proofs.Common.{◌≡◌, ℕ, ◌<◌, ◌≤◌, [], None}
use Rattle.c65_pass.specs.Rules.{match_at}
use Rattle.c65_pass.proofs.group.find_at.Given as goal

-- none of the rules so far matches
abbrev pub invariant-rules : goal.invariant-rules
invariant-rules g l = (rule : ℕ) → l.group.first ≤ rule → rule < l.rule → match_at rule [] l.code l.live l.at ≡ None
