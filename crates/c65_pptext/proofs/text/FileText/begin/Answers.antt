use Rattle.std.proofs.Common.{None, length, refl, subst}
use Rattle.c65_pieces.specs.Pieces.{Pieces, KnowsMore}
use Rattle.c65_pptext.specs.declared.text.FileText.{FileText}
use Rattle.c65_pptext.proofs.Pieces.{begins}
use Rattle.c65_pptext.proofs.text.FileText.begin.Goals as goal

pub returns-in-Ok-clause-exact : goal.returns-in-Ok-clause-exact
returns-in-Ok-clause-exact c =
    λ held bytes there front.
    let t : FileText = record { lexer = c.give.new.self; number = c.args.number; path = c.args.path; name = c.args.name; at = length c.args.first.now; line = c.line_behind.result; ending = None; alloc = c.args.alloc } in
    begins held bytes t there refl c.args.first.now front c.requires.short c.args.number (subst (λ (p : Pieces). KnowsMore p c.args.first.now c.give.new.self) c.open-lexer.ensures.new c.in-Ok.ensures.ok) refl refl c.line_behind.ensures
