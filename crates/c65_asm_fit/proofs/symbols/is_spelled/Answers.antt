use Rattle.std.proofs.Common.{◌∙◌, List, ℕ, ap}
use Rattle.c65_asm.specs.Words.{is_symbol}
use Rattle.c65_asm_fit.proofs.Spelled.{spelled_then}
use Rattle.c65_asm_fit.proofs.symbols.is_spelled.Goals as goal

pub returns-then-is_symbol : goal.returns-then-is_symbol
returns-then-is_symbol c = spelled_then c.args.symbol.now c.is_symbol.result c.is_marked.result (c.is_symbol.ensures ∙ ap (λ (t : List ℕ). is_symbol t) c.as_slice.ensures) c.if-is_symbol.true c.is_marked.ensures
