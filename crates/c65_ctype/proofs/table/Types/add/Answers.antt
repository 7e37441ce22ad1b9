use Rattle.std.proofs.Common.{arith}
use Rattle.std.proofs.lemmas.List.{map_push}
use Rattle.c65_ctype.proofs.TableLaws.{tags_append}
use Rattle.c65_ctype.proofs.table.Types.add.Goals as goal

pub invariant_of-self-2 : goal.invariant_of-self-2
invariant_of-self-2 c = record {
  tags = rw (c.in_ok-push.ensures.items, map_push) (tags_append _ _ _ c.self.invariant.tags (omega (arith, c.self.invariant.units), c.requires, tt));
  units = c.self.invariant.units;
}
