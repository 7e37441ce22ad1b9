use Rattle.std.proofs.Common.{ℕ, List, Result}
use Rattle.c65_base.specs.declared.refusal.Refusal.{Refusal}
use Rattle.c65_lex.specs.declared.token.PpToken.{PpToken}
use Rattle.c65_ppdir.specs.CommandLine.{body_from, body_of}
use Rattle.c65_ppdir.proofs.command.body_of.Given as goal

abbrev pub invariant-loop : goal.invariant-loop
invariant-loop l = (n : ℕ) (z : Result (List PpToken × List (List ℕ)) Refusal) → body_from n l.has_ended l.tokens.items l.lexer l.names z → body_of l.fn.names l.fn.text.items z
