use Rattle.std.proofs.Common.{◌∙◌, List, Bool, rules}
use Rattle.c65_lex.specs.declared.token.PpToken.{PpToken}
use Rattle.c65_ppdir.specs.Units.{reached}
use Rattle.c65_ppfile.proofs.Missing.{still_misses}
use Rattle.c65_ppdir.proofs.Units.{loop_on, loop_ends, loop_stops, told_on}
use Rattle.c65_ppdir.proofs.entry.read_lines.Goals as goal

pub returns-in-Err-clause-misses : goal.returns-in-Err-clause-misses
returns-in-Err-clause-misses g c =
    λ units.
    still_misses Bool (List PpToken) (g.F.Files.contents c.args.files.now) (g.F.Files.contents c.loop.files) c.args.folders.now c.in-Err.refusal c.loop.invariant.serves.same
    (c.in-Err.ensures.misses (told_on (g.F.Files.contents c.args.files.now) (g.F.Files.contents c.loop.files) c.args.unit c.loop.unit c.loop.invariant.serves.same c.loop.invariant.told units))

pub returns-then-not-is_more-clause-exact : goal.returns-then-not-is_more-clause-exact
returns-then-not-is_more-clause-exact g c =
    λ held told units.
    loop_ends held c.args.folders.now c.args.unit.included.is_char_signed c.loop.unit.included.is_char_signed c.in-Ok.is_more (reached held c.args.unit c.args.names.now c.args.paths.now.items) (reached held c.loop.unit c.loop.names c.loop.paths.items)
    (reached held c.read_line.new.unit c.read_line.new.names c.read_line.new.paths.items) c.into_tokens.result (c.loop.invariant.goes held told units) c.loop.invariant.signed c.if-not-is_more.true c.into_tokens.ensures (c.in-Ok.ensures.exact held (c.loop.invariant.serves.same ∙ told) (c.loop.invariant.told held told units))

pub returns-in-Err-clause-exact : goal.returns-in-Err-clause-exact
returns-in-Err-clause-exact g c =
    λ held told units.
    loop_stops held c.args.folders.now c.args.unit.included.is_char_signed c.loop.unit.included.is_char_signed (reached held c.args.unit c.args.names.now c.args.paths.now.items) (reached held c.loop.unit c.loop.names c.loop.paths.items)
    (reached held c.read_line.new.unit c.read_line.new.names c.read_line.new.paths.items) c.in-Err.refusal (c.loop.invariant.goes held told units) c.loop.invariant.signed (c.in-Err.ensures.exact held (c.loop.invariant.serves.same ∙ told) (c.loop.invariant.told held told units))

pub loop-preserved : goal.loop-preserved
loop-preserved g c =
    record {
      serves = search rules;
      signed = c.read_line.ensures.signed ∙ c.loop.invariant.signed;
      told = λ held told units. c.in-Ok.ensures.told held (c.loop.invariant.serves.same ∙ told) (c.loop.invariant.told held told units);
      goes = λ held told units.
          loop_on held c.args.folders.now c.args.unit.included.is_char_signed c.loop.unit.included.is_char_signed c.in-Ok.is_more (reached held c.args.unit c.args.names.now c.args.paths.now.items) (reached held c.loop.unit c.loop.names c.loop.paths.items)
          (reached held c.read_line.new.unit c.read_line.new.names c.read_line.new.paths.items) (c.loop.invariant.goes held told units) c.loop.invariant.signed c.if-not-is_more.false (c.in-Ok.ensures.exact held (c.loop.invariant.serves.same ∙ told) (c.loop.invariant.told held told units));
    }
