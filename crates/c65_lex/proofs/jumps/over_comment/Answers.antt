use Rattle.std.proofs.Common.{◌≡◌, ◌+◌, ◌-◌, ◌≤◌, ℕ, List, take, drop, length, arith, refl, subst, true}
use Rattle.std.proofs.lemmas.List.{take_rest}
use Rattle.c65_lex.specs.Jumps.{are_plain}
use Rattle.c65_lex.proofs.Plain.{comment_jump}
use Rattle.c65_lex.proofs.jumps.over_comment.Goals as goal

pub returns : goal.returns
returns c =
    let text : List ℕ = c.args.text.now in
    let at : ℕ = c.args.from.at in
    let count : ℕ = c.before_star-count.result in
    let s : 2 ≤ count = omega arith in
    let l : c.args.from.column + count ≤ 32767 = omega arith in
    let r : take (length text - at) (drop at text) ≡ drop at text = take_rest text at in
    let w : count ≤ length (drop at text) = subst (λ (x : List ℕ). count ≤ length x) r c.before_star-count.ensures.within in
    let p : are_plain 42 (take count (drop at text)) ≡ true = subst (λ (x : List ℕ). are_plain 42 (take count x) ≡ true) r c.before_star-count.ensures.plain in
    comment_jump text c.args.from _ count refl refl refl s w l p
