use Rattle.std.proofs.Common.{◌≡◌, ◌≤◌, ◌<◌, length, Option, subst, arith}
use Rattle.c65_pptext.specs.declared.ending.Ending.{Ending}
use Rattle.c65_pptext.specs.Reading.{Agrees}
use Rattle.c65_pptext.proofs.Behind.{no_bytes, some_bytes}
use Rattle.c65_pptext.proofs.Pieces.{takes, ends_whole, ends_long}
use Rattle.c65_pptext.proofs.text.FileText.take_read.Goals as goal

pub returns-then-is_empty-clause-exact : goal.returns-then-is_empty-clause-exact
returns-then-is_empty-clause-exact c =
    λ held none here read.
    let way = subst (λ (x : Option Ending). Agrees held c.args.self.now x) none here.1 in
    let z : length c.args.piece.now ≡ 0 = no_bytes c.is_empty.result (length c.args.piece.now) c.is_empty.ensures c.if-is_empty.true in
    ends_whole held c.args.self.now none here.0 way c.args.piece.now read c.end.new.self z c.end.ensures.finished c.end.ensures.same

pub returns-then-self-number-clause-exact : goal.returns-then-self-number-clause-exact
returns-then-self-number-clause-exact c =
    λ held none here read.
    let way = subst (λ (x : Option Ending). Agrees held c.args.self.now x) none here.1 in
    let some : 0 < length c.args.piece.now = some_bytes c.is_empty.result (length c.args.piece.now) c.is_empty.ensures c.if-is_empty.false in
    let high : 1048576 ≤ c.args.self.now.at = grind (arith, c.number.ensures, c.if-self-number.true) in
    ends_long held c.args.self.now none here.0 way c.args.piece.now read c.end-then-self-number.new.self some high c.end-then-self-number.ensures.finished c.end-then-self-number.ensures.same

pub returns-else-self-number-clause-exact : goal.returns-else-self-number-clause-exact
returns-else-self-number-clause-exact c =
    λ held none here read.
    let way = subst (λ (x : Option Ending). Agrees held c.args.self.now x) none here.1 in
    let low : c.args.self.now.at < 1048576 = grind (arith, c.number.ensures, c.if-self-number.false) in
    takes held c.args.self.now none here.0 way c.args.piece.now read low c.take.new.self c.take.result here.1 c.take.ensures.knows c.take.ensures.same c.take.ensures.kept
