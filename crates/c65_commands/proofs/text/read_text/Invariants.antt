use Rattle.std.proofs.Common.{◌≡◌, ◌-◌, ◌+◌, vec_len}
use Rattle.c65_commands.specs.Text.{HasRead}
use Rattle.c65_commands.proofs.text.read_text.Given as goal

abbrev pub invariant-loop-piece : goal.invariant-loop-piece
invariant-loop-piece g l =
    HasRead (g.F.Files.contents l.fn.files) l.path l.text.items
    × (g.F.Files.contents l.files ≡ g.F.Files.contents l.fn.files)
    × (g.F.Files.faults l.files ≡ g.F.Files.faults l.fn.files)
    × (g.F.Files.misses l.files ≡ g.F.Files.misses l.fn.files)
    × (g.F.Files.write_faults l.files ≡ g.F.Files.write_faults l.fn.files)
    × (l.name ≡ l.path)

abbrev pub decreases-loop-piece : goal.decreases-loop-piece
decreases-loop-piece g l = l.most + 512 - vec_len l.text
