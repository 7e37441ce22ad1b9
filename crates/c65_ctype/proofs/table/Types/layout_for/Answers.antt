use Rattle.std.proofs.Common.{◌≡◌, List, map, length, sym, ap, ◌∙◌, subst}
use Rattle.std.proofs.lemmas.Iterator.Adapters.{YieldsList-from_vec}
use Rattle.std.proofs.lemmas.Iterator.Consumers.{YieldsList-end}
use Rattle.c65_base.specs.Answers.{Fails}
use Rattle.c65_base.specs.declared.refusal.Refusal.{Refusal}
use Rattle.c65_ctype.specs.declared.types.Field.{Field}
use Rattle.c65_ctype.specs.Views.{member_of, field_of, types_of}
use Rattle.c65_ctype.specs.Layouts.{unnamed_at, layout_for}
use Rattle.c65_ctype.proofs.LayoutLaws.{layout_named, layout_unnamed}
use Rattle.c65_ctype.proofs.table.Types.layout_for.Goals as goal

pub returns-in-Some-unnamed-clause-exact : goal.returns-in-Some-unnamed-clause-exact
returns-in-Some-unnamed-clause-exact c =
    let h = c.into_iter-field-iterator.ensures.into_iter_gives in
    let len = h.1 ∙ sym c.deref.ensures.len ∙ ap length c.deref.ensures.value in
    let all : length c.loop-field.yielded ≡ length c.args.fields.items = (YieldsList-end (YieldsList-from_vec c.args.fields.items h.0 len) c.loop-field.yielded c.loop-field.field-iterator c.loop-field.yielded_by c.next.result c.next.new.self c.in-None.is c.next.ensures.steps).1 in
    let named = sym (c.unnamed_at-unnamed.ensures ∙ ap (λ (fs : List Field). unnamed_at (map field_of fs)) c.deref.ensures.value) ∙ c.in-Some-unnamed.is in
    let fault = layout_unnamed (types_of c.args.self.now) c.args.is_union c.args.fields.items (map member_of c.loop-field.members.items) c.loop-field.cursor (length c.loop-field.yielded) c.in-Some-unnamed.pos all c.loop-field.invariant.so_far named in
    subst (λ (r : Refusal). Fails r (layout_for (types_of c.args.self.now) c.args.is_union (map field_of c.args.fields.items))) (sym c.fault.ensures) fault

pub returns-in-None-unnamed-clause-exact : goal.returns-in-None-unnamed-clause-exact
returns-in-None-unnamed-clause-exact c =
    let h = c.into_iter-field-iterator.ensures.into_iter_gives in
    let len = h.1 ∙ sym c.deref.ensures.len ∙ ap length c.deref.ensures.value in
    let all : length c.loop-field.yielded ≡ length c.args.fields.items = (YieldsList-end (YieldsList-from_vec c.args.fields.items h.0 len) c.loop-field.yielded c.loop-field.field-iterator c.loop-field.yielded_by c.next.result c.next.new.self c.in-None.is c.next.ensures.steps).1 in
    let named = sym (c.unnamed_at-unnamed.ensures ∙ ap (λ (fs : List Field). unnamed_at (map field_of fs)) c.deref.ensures.value) ∙ c.in-None-unnamed.is in
    layout_named (types_of c.args.self.now) c.args.is_union c.args.fields.items (map member_of c.loop-field.members.items) c.loop-field.cursor (length c.loop-field.yielded) all c.loop-field.invariant.so_far named
