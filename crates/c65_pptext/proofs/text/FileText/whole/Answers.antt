use Rattle.std.proofs.Common.{Some, refl, subst}
use Rattle.c65_pieces.specs.Pieces.{Pieces, KnowsMore}
use Rattle.c65_pptext.specs.declared.ending.Ending.TheVariants.{Whole}
use Rattle.c65_pptext.specs.declared.text.FileText.{FileText}
use Rattle.c65_pptext.proofs.Pieces.{is_whole}
use Rattle.c65_pptext.proofs.text.FileText.whole.Goals as goal

pub returns-in-Ok-clause-exact : goal.returns-in-Ok-clause-exact
returns-in-Ok-clause-exact c =
    λ held.
    let t : FileText = record { lexer = c.finish.new.self; number = c.args.number; path = c.from_vec.result; name = c.from_vec-in-Ok.result; at = 0; line = 1; ending = Some Whole; alloc = c.args.alloc } in
    is_whole held t c.give.new.self c.args.number c.args.text.now c.requires.short refl refl (subst (λ (p : Pieces). KnowsMore p c.args.text.now c.give.new.self) c.open-lexer.ensures.new c.in-Ok.ensures.ok) c.finish.ensures
