use Rattle.std.proofs.Common.{◌≡◌, ◌++◌, ◌∷◌, [], true, IsTrue, sym, ap, ◌∙◌}
use Rattle.std.specs.List.{list_all}
use Rattle.c65_code.specs.Segments.{Drafted, is_fit, is_distinct, labels_of}
use Rattle.c65_asm.specs.Reading.{is_new}
use Rattle.c65_asm.proofs.LabelLaws.{all_push, distinct_line}
use Rattle.c65_asm.proofs.reader.OpenFunction.with_line.Goals as goal

pub invariant_of-result : goal.invariant_of-result
invariant_of-result c =
    let ls = c.self.inside.draft.lines in
    let line = c.args.line in
    let kept = c.self.invariant in
    let n : IsTrue (is_new ls line) = sym (c.is_new.ensures ls kept.0) ∙ c.if-not-is_new.false in
    let labels : c.add_label.new.labels ≡ labels_of (ls ++ line ∷ []) = c.in-Ok.ensures ls kept.0 n in
    let pushed : c.push.new.self.lines ≡ ls ++ line ∷ [] = ap (λ (d : Drafted). d.lines) c.in-Ok-push.ensures.ok in
    let fit : is_fit line ≡ true = sym c.is_fit.ensures ∙ c.if-not-is_fit.false in
    let distinct : is_distinct (labels_of ls) ≡ true = ap is_distinct (sym kept.0) ∙ kept.2 in (
      labels ∙ ap labels_of (sym pushed),
      ap (list_all is_fit) pushed ∙ all_push is_fit ls line kept.1 fit,
      ap is_distinct labels ∙ distinct_line ls line distinct n,
    )
