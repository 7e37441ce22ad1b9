use Rattle.std.proofs.Common.{◌<◌, length, sym, ◌∙◌, arith}
use Rattle.c65_mach.specs.Images.{fixed}
use Rattle.c65_mach.proofs.Forms.{right_at, wrong_at, none_at}
use Rattle.c65_mach.proofs.image.wrong_start.Goals as goal
use Rattle.c65_mach.proofs.image.wrong_start.Goals.{then-at-bytes-via-then-at-bytes, then-at-bytes-via-else-at-bytes+then-bytes-at}

pub returns-then-at-bytes : goal.returns-then-at-bytes
returns-then-at-bytes c =
    let bytes = c.args.bytes.now in
    let at = c.loop-at.at in
    let before : at < length fixed = omega (arith, c.loop-at-test.true) in
    elim c.then-at-bytes.branch [
      | then-at-bytes-via-then-at-bytes w ↦ sym (c.loop-at.invariant ∙ none_at fixed bytes at before w.if-at-bytes.true)
      | then-at-bytes-via-else-at-bytes+then-bytes-at w ↦ sym (c.loop-at.invariant ∙ wrong_at fixed bytes at before w.if-at-bytes.false w.if-bytes-at.true)
    ]

pub loop-at-preserved : goal.loop-at-preserved
loop-at-preserved c =
    let bytes = c.args.bytes.now in
    let at = c.loop-at.at in
    let before : at < length fixed = omega (arith, c.loop-at-test.true) in
    c.loop-at.invariant ∙ right_at fixed bytes at before c.if-at-bytes.false c.if-bytes-at.false
