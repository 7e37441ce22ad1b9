use Rattle.std.proofs.Common.{map, sym, subst}
use Rattle.c65_ctype.specs.Tables.{AreTags}
use Rattle.c65_ctype.specs.Views.{field_of, layout_of, tag_of}
use Rattle.c65_ctype.proofs.TableLaws.{tags_laid}
use Rattle.c65_ctype.proofs.FinishLaws.{layout_set, finished_now}
use Rattle.c65_ctype.proofs.table.Types.finish.Goals as goal

pub invariant_of-self : goal.invariant_of-self
invariant_of-self c =
    let table = c.self.inside.table in
    let set = layout_set table.tags.items c.args.tag c.index_mut-found.result.now c.in_ok-layout.layout c.index_mut-found.ensures.value in
    record {
      tags = subst (AreTags table.units) (sym set) (tags_laid table.units (map tag_of table.tags.items) c.args.tag (layout_of c.in_ok-layout.layout) c.in_ok-layout.ensures.small c.self.invariant.tags);
      units = c.self.invariant.units;
    }

pub returns-clause-ok : goal.returns-clause-ok
returns-clause-ok c =
    finished_now c.self.inside.table c.args.self.now c.self.view_is c.args.tag (map field_of c.args.fields.items) c.index_mut-found.result.now c.index.result.now c.in_ok-layout.layout c.requires c.index_mut-found.ensures.value c.index.ensures c.in_ok-layout.ensures.exact
