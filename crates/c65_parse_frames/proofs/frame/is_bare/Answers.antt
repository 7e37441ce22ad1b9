use Rattle.std.proofs.Common.{ap, ◌∙◌, sym, arith}
use Rattle.std.specs.Prelude.{vec_len}
use Rattle.c65_parse_frames.specs.declared.frame.Frame.{Frame}
use Rattle.c65_parse_frames.specs.Frames.{is_bare}
use Rattle.c65_parse_frames.specs.Views.{frame_of}
use Rattle.c65_parse_frames.proofs.Bare.{no_stmts_are}
use Rattle.c65_parse_frames.proofs.frame.is_bare.Goals as goal

pub returns-in-Block : goal.returns-in-Block
returns-in-Block c =
    let v = c.in-Block.stmts in
    c.is_empty.ensures ∙ no_stmts_are v.items (vec_len v) (omega (arith, v.ok)) ∙ sym (ap (λ (f : Frame). is_bare (frame_of f)) c.in-Block.is)
