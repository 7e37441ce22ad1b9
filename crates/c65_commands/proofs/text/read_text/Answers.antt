use Rattle.std.proofs.Common.{◌∙◌, ◌≡◌, ◌≤◌, List, ℕ, Ok, Err, length, arith, subst, sym}
use Rattle.c65_io.specs.declared.outside.FileFault.{FileFault}
use Rattle.c65_io.specs.Contents.{ReadsFile}
use Rattle.c65_commands.specs.Text.{ReadsText, HasRead}
use Rattle.c65_commands.proofs.TextLaws.{more_now, all_now, cut, missed}
use Rattle.c65_commands.proofs.text.read_text.Goals as goal

pub loop-piece-preserved : goal.loop-piece-preserved
loop-piece-preserved g c =
    let here : c.len-in-loop-piece.result ≡ length c.loop-piece.text.items = omega (arith, c.loop-piece.text.ok) in (
      subst (λ (text : List ℕ). HasRead (g.F.Files.contents c.args.files.now) c.args.path.now text) (sym c.in-Ok-extend_from_slice.ensures.items)
          (more_now _ (g.F.Files.contents c.loop-piece.files) c.args.path.now c.loop-piece.text.items c.read.new.into c.len-in-loop-piece.result c.in-Ok.count
          c.loop-piece.invariant.1 here c.loop-piece.invariant.0 c.in-Ok.ensures.bytes),
      c.in-Ok.ensures.same ∙ c.loop-piece.invariant.1,
      c.in-Ok.ensures.cause.0 ∙ c.loop-piece.invariant.2,
      c.in-Ok.ensures.cause.1 ∙ c.loop-piece.invariant.3,
      c.in-Ok.ensures.writes ∙ c.loop-piece.invariant.4,
      c.loop-piece.invariant.5,
    )

pub returns-in-Ok-eq0-clause-text : goal.returns-in-Ok-eq0-clause-text
returns-in-Ok-eq0-clause-text g c =
    let here : c.len-in-loop-piece.result ≡ length c.loop-piece.text.items = omega (arith, c.loop-piece.text.ok) in
    let none : c.in-Ok-eq0.field-0 ≡ 0 = omega (arith, c.in-Ok-eq0.field-0-test) in
    let short : length c.loop-piece.text.items ≤ c.args.most = omega (arith, c.loop-piece.text.ok) in
    subst (λ (text : List ℕ). ReadsText c.args.most (g.F.Files.contents c.args.files.now) c.args.path.now (Ok text)) (sym c.from_vec.ensures)
    (all_now c.args.most _ (g.F.Files.contents c.loop-piece.files) c.args.path.now c.loop-piece.text.items c.read.new.into c.len-in-loop-piece.result c.in-Ok-eq0.field-0
    c.loop-piece.invariant.1 here short none c.loop-piece.invariant.0 c.in-Ok-eq0.ensures.bytes)

pub returns-clause-text : goal.returns-clause-text
returns-clause-text g c =
    let long : c.args.most ≤ length c.loop-piece.text.items = omega (arith, c.loop-piece.text.ok) in
    subst (λ (text : List ℕ). ReadsText c.args.most (g.F.Files.contents c.args.files.now) c.args.path.now (Ok text)) (sym (c.from_vec-2.ensures ∙ c.truncate.ensures.items))
    (cut c.args.most (g.F.Files.contents c.args.files.now) c.args.path.now c.loop-piece.text.items c.requires.some long c.loop-piece.invariant.0)

pub returns-in-Err-Missing-clause-text : goal.returns-in-Err-Missing-clause-text
returns-in-Err-Missing-clause-text g c =
    missed c.args.most _ (g.F.Files.contents c.loop-piece.files) c.args.path.now c.loop-piece.name c.read.new.into c.len-in-loop-piece.result c.loop-piece.invariant.1
    (subst (λ (e : FileFault). ReadsFile (g.F.Files.contents c.loop-piece.files) c.args.path.now c.len-in-loop-piece.result c.read.new.into (Err e))
    c.in-Err-Missing.field-0-is c.in-Err-Missing.ensures.bytes) c.loop-piece.invariant.5

pub returns-in-Err-Missing-clause-some : goal.returns-in-Err-Missing-clause-some
returns-in-Err-Missing-clause-some g c = c.loop-piece.invariant.5
