use Rattle.std.proofs.Common.{◌⊎◌, Ok, Err, Some, None, refl, subst}
use Rattle.c65_base.specs.declared.refusal.Refusal.{Refusal}
use Rattle.c65_ppdir.specs.declared.reader.Turn.{Turn}
use Rattle.c65_ppdir.specs.declared.reader.Turn.TheVariants as turns
use Rattle.c65_ppdir.specs.Progress.{progress, flushed, Settles}
use Rattle.c65_ppline.specs.Relations.{IsFree, just}
use Rattle.c65_ppdir.proofs.Acting.{closing}
use Rattle.c65_ppline.proofs.Relations.{stops_first}
use Rattle.c65_ppdir.proofs.reader.Reader.close.Goals as goal

pub returns-in-Some-clause-exact : goal.returns-in-Some-clause-exact
returns-in-Some-clause-exact c =
    λ held.
    let p = progress held c.args.self.now c.args.file.now c.args.names.now in
    closing (λ (t : Turn). (t, p)) p (Some c.in-Some.pos) (Err c.settle.result) c.in-Some.ensures (subst (λ (f : Refusal). IsFree c.settle.result ⊎ Settles f p c.settle.result) c.fault.ensures (c.settle.ensures.exact held c.args.file.now))

pub returns-in-Err-clause-exact : goal.returns-in-Err-clause-exact
returns-in-Err-clause-exact c =
    λ held.
    let p = progress held c.args.self.now c.args.file.now c.args.names.now in
    closing (λ (t : Turn). (t, p)) p None (Err c.in-Err.refusal) c.in-None.ensures (stops_first (λ (x : Unit {0}). p) (λ (t : Turn). (t, p)) (flushed p) (λ q. just (Ok (turns.FileEnd, q))) c.in-Err.refusal (c.in-Err.ensures.exact held c.args.file.now))

pub returns-in-Ok-clause-exact : goal.returns-in-Ok-clause-exact
returns-in-Ok-clause-exact c =
    λ held.
    let p = progress held c.args.self.now c.args.file.now c.args.names.now in
    let q = progress held c.flush.new.self c.args.file.now c.flush.new.names in
    closing (λ (t : Turn). (t, q)) p None (Ok turns.FileEnd) c.in-None.ensures (q, c.in-Ok.ensures.exact held c.args.file.now, refl)
