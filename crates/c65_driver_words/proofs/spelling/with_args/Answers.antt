use Rattle.std.proofs.Common.{◌∙◌, string_bytes, ◌==◌, ap, arith}
use Rattle.std.specs.List.{list_any}
use Rattle.c65_driver_words.proofs.WordLaws.{next_word, stops, args_stop, args_more}
use Rattle.c65_driver_words.proofs.spelling.with_args.Goals as goal

pub returns-then-contains : goal.returns-then-contains
returns-then-contains c =
    stops _ c.no_command.result c.loop-at.at c.no_command.ensures
    (c.loop-at.invariant.1
    ∙ args_stop c.loop-at.at c.args.told (string_bytes c.index-words-at.result) _ _ _ c.contains.result
    (next_word string_bytes c.args.words.now c.loop-at.at c.index-words-at.result c.loop-at-test.true c.index-words-at.is)
    (c.contains.ensures.value ∙ ap (list_any (λ byte. byte == 0)) (c.as_bytes-word.ensures.value ∙ c.as_str.ensures.value)) c.if-contains.true)

pub loop-at-preserved : goal.loop-at-preserved
loop-at-preserved c = (
  omega (arith, c.loop-at-test.true),
  c.loop-at.invariant.1
      ∙ args_more c.loop-at.at c.args.told (string_bytes c.index-words-at.result) c.in_ok-copy_of.field-0 _ _ _ _ c.contains.result
      (next_word string_bytes c.args.words.now c.loop-at.at c.index-words-at.result c.loop-at-test.true c.index-words-at.is)
      (c.contains.ensures.value ∙ ap (list_any (λ byte. byte == 0)) (c.as_bytes-word.ensures.value ∙ c.as_str.ensures.value)) c.if-contains.false
      (c.in_ok-copy_of.ensures ∙ c.as_bytes-word.ensures.value ∙ c.as_str.ensures.value)
      c.in_ok-push.ensures.items,
)
