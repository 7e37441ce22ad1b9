use Rattle.std.proofs.Common.{◌+◌, ◌∷◌, ◌∙◌, map, drop, string_bytes, ap, sym, subst, arith}
use Rattle.c65_driver_words.specs.Words.{Spelling, Spells}
use Rattle.c65_driver_words.proofs.WordLaws.{next_word, stops, words_given, words_more, words_stop, goes_some, goes_none}
use Rattle.c65_driver_words.proofs.spelling.spell_rest.Goals as goal

pub returns-then-begins_args : goal.returns-then-begins_args
returns-then-begins_args c =
    let next =
    next_word string_bytes c.args.words.now c.loop-at.at c.index-words-at.result c.loop-at-test.true c.index-words-at.is
    ∙ ap (λ w. w ∷ drop (c.loop-at.at + 1) (map string_bytes c.args.words.now)) (sym c.as_str-word.ensures.value) in
    subst (λ (s : Spelling). Spells s c.given.result)
    (sym (c.loop-at.invariant.1
    ∙ words_given c.loop-at.at c.loop-at.told c.as_str-word.result.now _ _ c.begins_args.result next c.begins_args.ensures c.if-begins_args.true))
    c.given.ensures

pub loop-at-preserved : goal.loop-at-preserved
loop-at-preserved c =
    let next =
    next_word string_bytes c.args.words.now c.loop-at.at c.index-words-at.result c.loop-at-test.true c.index-words-at.is
    ∙ ap (λ w. w ∷ drop (c.loop-at.at + 1) (map string_bytes c.args.words.now)) (sym c.as_str-word.ensures.value) in (
      omega (arith, c.loop-at-test.true),
      c.loop-at.invariant.1
          ∙ words_more c.loop-at.at c.loop-at.told c.take.new.self c.as_str-word.result.now _ _ c.begins_args.result next c.begins_args.ensures c.if-begins_args.false
          (goes_some c.in_ok-goes_on.goes_on c.take.new.self _ c.if-goes_on.true c.in_ok-goes_on.ensures),
    )

pub returns-else-goes_on : goal.returns-else-goes_on
returns-else-goes_on c =
    let next =
    next_word string_bytes c.args.words.now c.loop-at.at c.index-words-at.result c.loop-at-test.true c.index-words-at.is
    ∙ ap (λ w. w ∷ drop (c.loop-at.at + 1) (map string_bytes c.args.words.now)) (sym c.as_str-word.ensures.value) in
    stops _ c.no_command.result c.loop-at.at c.no_command.ensures
    (c.loop-at.invariant.1
    ∙ words_stop c.loop-at.at c.loop-at.told c.as_str-word.result.now _ _ c.begins_args.result next c.begins_args.ensures c.if-begins_args.false
    (goes_none c.in_ok-goes_on.goes_on c.take.new.self _ c.if-goes_on.false c.in_ok-goes_on.ensures))
