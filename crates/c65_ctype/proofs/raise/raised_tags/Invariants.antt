use Rattle.std.proofs.Common.{◌≡◌, take, map}
use Rattle.c65_ctype.specs.Raised.{raised_tag}
use Rattle.c65_ctype.specs.Views.{tag_of}
use Rattle.c65_ctype.proofs.raise.raised_tags.Given as goal

abbrev pub invariant-loop-tag : goal.invariant-loop-tag
invariant-loop-tag l = map tag_of l.raised.items ≡ map (raised_tag l.by l.units) (map tag_of (take l.tag-index l.tags))
