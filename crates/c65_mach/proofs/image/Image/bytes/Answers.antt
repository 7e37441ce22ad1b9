use Rattle.std.proofs.Common.{ℕ, List, ap, refl, ◌∙◌, get_or}
use Rattle.c65_mach.proofs.image.Image.bytes.Goals as goal

pub returns-clause-ok : goal.returns-clause-ok
returns-clause-ok c =
    let low = λ (bytes : List ℕ). get_or bytes 0 0 in
    let high = λ (bytes : List ℕ). get_or bytes 1 0 in
    c.in_ok-extend_from_slice.ensures.items
    ∙ rw (c.in_ok-bytes.ensures.items, c.as_slice.ensures, ap low c.word_bytes.ensures, ap high c.word_bytes.ensures, ap low c.word_bytes-2.ensures, ap high c.word_bytes-2.ensures, c.cpu_code.ensures) refl
