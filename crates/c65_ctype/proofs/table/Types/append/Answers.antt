use Rattle.std.proofs.Common.{arith, ap, ◌∙◌, List}
use Rattle.std.specs.Prelude.{map}
use Rattle.c65_ctype.specs.declared.types.Tag.{Tag}
use Rattle.c65_ctype.specs.Raised.{raised_tag}
use Rattle.c65_ctype.specs.Views.{tag_of}
use Rattle.c65_ctype.proofs.TableLaws.{tags_appended}
use Rattle.c65_ctype.proofs.table.Types.append.Goals as goal

pub invariant_of-self-2 : goal.invariant_of-self-2
invariant_of-self-2 c = record {
  tags = tags_appended c.self.inside.table.units c.later.inside.table.units c.in-Some.units c.len-number.result c.self.inside.table.tags.items c.in_ok-tags.tags.items c.later.inside.table.tags.items _ c.in_ok-append.ensures.items (c.in_ok-tags.ensures ∙ ap (λ (ts : List Tag). map (raised_tag c.len-number.result c.self.inside.table.units) (map tag_of ts)) c.deref.ensures.value) c.self.invariant.tags c.later.invariant.tags c.in-Some.ensures.1;
  units = omega (arith, c.in-Some.ensures.1, c.self.invariant.units);
}
