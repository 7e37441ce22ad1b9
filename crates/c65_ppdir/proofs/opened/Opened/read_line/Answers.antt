use Rattle.std.proofs.Common.{◌∙◌, List, ap, subst, rules}
use Rattle.c65_lex.specs.declared.token.PpToken.{PpToken}
use Rattle.c65_ppline.specs.declared.line.Line.{Line}
use Rattle.c65_pptext.specs.declared.ending.Read.TheVariants as reads
use Rattle.c65_ppdir.specs.Files.{opened_as}
use Rattle.c65_ppdir.specs.Gathering.{gathering, Gathers}
use Rattle.c65_ppdir.proofs.Reading.{gathers_on, read_here}
use Rattle.c65_ppdir.proofs.opened.Opened.read_line.Goals as goal

pub returns-in-Ok-LineEnd-clause-exact : goal.returns-in-Ok-LineEnd-clause-exact
returns-in-Ok-LineEnd-clause-exact g c =
    λ held told here.
    let i = c.loop.invariant.goes held told here in
    let x = c.in-Ok-LineEnd.ensures.exact held (c.loop.invariant.serves.same ∙ told) i.0 in (
      x.0,
      tt,
      gathers_on c.args.hash c.loop.tokens.items (opened_as held c.args.self.now) (opened_as held c.loop.self) (opened_as held c.read.new.self) c.args.names.now c.loop.names c.read.new.names (reads.LineEnd c.in-Ok-LineEnd.token) i.1
          (read_here c.allows_header-header.result (opened_as held c.loop.self) c.loop.names c.loop.tokens.items c.deref.result.now (reads.LineEnd c.in-Ok-LineEnd.token) (opened_as held c.read.new.self) c.read.new.names c.allows_header-header.ensures c.deref.ensures.value (rw c.in-Ok-LineEnd.field-0-is at x.2))
          0 _ (ap (λ (l : Line). gathering l (opened_as held c.read.new.self) c.read.new.names) c.whole_line.ensures),
    )

pub returns-in-Ok-End-clause-exact : goal.returns-in-Ok-End-clause-exact
returns-in-Ok-End-clause-exact g c =
    λ held told here.
    let i = c.loop.invariant.goes held told here in
    let x = c.in-Ok-End.ensures.exact held (c.loop.invariant.serves.same ∙ told) i.0 in (
      x.0,
      tt,
      gathers_on c.args.hash c.loop.tokens.items (opened_as held c.args.self.now) (opened_as held c.loop.self) (opened_as held c.read.new.self) c.args.names.now c.loop.names c.read.new.names (reads.End) i.1
          (read_here c.allows_header-header.result (opened_as held c.loop.self) c.loop.names c.loop.tokens.items c.deref.result.now (reads.End) (opened_as held c.read.new.self) c.read.new.names c.allows_header-header.ensures c.deref.ensures.value (rw c.in-Ok-End.field-0-is at x.2))
          0 _ (ap (λ (l : Line). gathering l (opened_as held c.read.new.self) c.read.new.names) c.whole_line-in-Ok-End.ensures),
    )

pub returns-in-Ok-Cut-clause-exact : goal.returns-in-Ok-Cut-clause-exact
returns-in-Ok-Cut-clause-exact g c =
    λ held told here.
    let i = c.loop.invariant.goes held told here in
    let x = c.in-Ok-Cut.ensures.exact held (c.loop.invariant.serves.same ∙ told) i.0 in (
      x.0,
      tt,
      gathers_on c.args.hash c.loop.tokens.items (opened_as held c.args.self.now) (opened_as held c.loop.self) (opened_as held c.read.new.self) c.args.names.now c.loop.names c.read.new.names (reads.Cut c.in-Ok-Cut.cut) i.1
          (read_here c.allows_header-header.result (opened_as held c.loop.self) c.loop.names c.loop.tokens.items c.deref.result.now (reads.Cut c.in-Ok-Cut.cut) (opened_as held c.read.new.self) c.read.new.names c.allows_header-header.ensures c.deref.ensures.value (rw c.in-Ok-Cut.field-0-is at x.2))
          0 _ (ap (λ (l : Line). gathering l (opened_as held c.read.new.self) c.read.new.names) c.cut_line.ensures),
    )

pub loop-preserved : goal.loop-preserved
loop-preserved g c =
    record {
      serves = search rules;
      goes = λ held told here.
          let i = c.loop.invariant.goes held told here in
          let x = c.in-Ok-Token.ensures.exact held (c.loop.invariant.serves.same ∙ told) i.0 in (
            x.0,
            λ n y h. gathers_on c.args.hash c.loop.tokens.items (opened_as held c.args.self.now) (opened_as held c.loop.self) (opened_as held c.read.new.self) c.args.names.now c.loop.names c.read.new.names (reads.Token c.in-Ok-Token.token) i.1
                (read_here c.allows_header-header.result (opened_as held c.loop.self) c.loop.names c.loop.tokens.items c.deref.result.now (reads.Token c.in-Ok-Token.token) (opened_as held c.read.new.self) c.read.new.names c.allows_header-header.ensures c.deref.ensures.value (rw c.in-Ok-Token.field-0-is at x.2))
                n y (subst (λ (ts : List PpToken). Gathers n c.args.hash ts (opened_as held c.read.new.self) c.read.new.names y) c.in_ok-push-in-Ok-Token.ensures.items h),
          );
    }

pub returns-in-Err-clause-exact : goal.returns-in-Err-clause-exact
returns-in-Err-clause-exact g c =
    λ held told here.
    let i = c.loop.invariant.goes held told here in
    let x = c.in-Err.ensures.exact held (c.loop.invariant.serves.same ∙ told) i.0 in
    (x.0, x.1, x.2)
