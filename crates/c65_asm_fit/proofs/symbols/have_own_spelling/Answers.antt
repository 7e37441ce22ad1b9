use Rattle.std.proofs.Common.{◌∙◌, [], map}
use Rattle.c65_asm_fit.specs.Fit.{spelling_of}
use Rattle.c65_asm_fit.specs.Once.{comes_once, has_spelling}
use Rattle.c65_asm_fit.proofs.Keyed.{next_spelling, known_spelling}
use Rattle.c65_asm_fit.proofs.symbols.have_own_spelling.Goals as goal

pub returns-then-not-is_new : goal.returns-then-not-is_new
returns-then-not-is_new c =
    known_spelling c.loop-symbol.seen.keys c.in_ok-spelling.spelling c.args.symbols.now c.loop-symbol.symbol-index c.symbol-item.result c.in_ok-is_new.is_new (comes_once has_spelling [] (map spelling_of c.args.symbols.now))
    (c.in_ok-spelling.ensures.items ∙ c.as_slice.ensures) c.loop-symbol-test.true c.symbol-item.is c.in_ok-is_new.ensures.added c.if-not-is_new.true c.loop-symbol.invariant

pub loop-symbol-preserved : goal.loop-symbol-preserved
loop-symbol-preserved c =
    next_spelling c.loop-symbol.seen.keys c.insert_full.new.self.keys c.in_ok-spelling.spelling c.args.symbols.now c.loop-symbol.symbol-index c.symbol-item.result c.in_ok-is_new.is_new (comes_once has_spelling [] (map spelling_of c.args.symbols.now))
    (c.in_ok-spelling.ensures.items ∙ c.as_slice.ensures) c.loop-symbol-test.true c.symbol-item.is c.in_ok-is_new.ensures.added c.if-not-is_new.false c.in_ok-is_new.ensures.keys c.loop-symbol.invariant
