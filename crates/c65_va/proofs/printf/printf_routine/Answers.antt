-- The pieces are put one behind another.
use Rattle.std.proofs.Common.{◌≡◌, ◌∙◌, ap, List, [], ◌++◌}
use Rattle.c65_code.specs.declared.line.Line.{Line}
use Rattle.c65_code.specs.Segments.{Drafted}
use Rattle.c65_va.specs.Printf.{begin, head, read_width, choose, long_number, take_sign, push_digits, take_character, take_string, put_spaces, put_text, end}
use Rattle.c65_va.proofs.printf.printf_routine.Goals as goal

followed : (a b : Drafted) (lines piece : List Line) → b ≡ record a { lines = a.lines ++ piece } → a.lines ≡ lines → b.lines ≡ lines ++ piece
followed a b lines piece put here = ap (λ d. d.lines) put ∙ ap (λ l. l ++ piece) here

pub returns-clause-lines : goal.returns-clause-lines
returns-clause-lines c =
    let l1 = followed c.new-draft.result c.extend.new.self [] begin c.in_ok-extend.ensures.ok c.new-draft.ensures.lines in
    let l2 = followed c.extend.new.self c.extend-2.new.self _ head c.in_ok-extend-2.ensures.ok l1 in
    let l3 = followed c.extend-2.new.self c.extend-3.new.self _ read_width c.in_ok-extend-3.ensures.ok l2 in
    let l4 = followed c.extend-3.new.self c.extend-4.new.self _ choose c.in_ok-extend-4.ensures.ok l3 in
    let l5 = followed c.extend-4.new.self c.extend-5.new.self _ long_number c.in_ok-extend-5.ensures.ok l4 in
    let l6 = followed c.extend-5.new.self c.extend-6.new.self _ take_sign c.in_ok-extend-6.ensures.ok l5 in
    let l7 = followed c.extend-6.new.self c.extend-7.new.self _ push_digits c.in_ok-extend-7.ensures.ok l6 in
    let l8 = followed c.extend-7.new.self c.extend-8.new.self _ take_character c.in_ok-extend-8.ensures.ok l7 in
    let l9 = followed c.extend-8.new.self c.extend-9.new.self _ take_string c.in_ok-extend-9.ensures.ok l8 in
    let l10 = followed c.extend-9.new.self c.extend-10.new.self _ put_spaces c.in_ok-extend-10.ensures.ok l9 in
    let l11 = followed c.extend-10.new.self c.extend-11.new.self _ put_text c.in_ok-extend-11.ensures.ok l10 in
    let l12 = followed c.extend-11.new.self c.extend-12.new.self _ end c.in_ok-extend-12.ensures.ok l11 in
    c.close.ensures.lines ∙ l12
