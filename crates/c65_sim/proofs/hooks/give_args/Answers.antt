use Rattle.std.proofs.Common.{◌≡◌, ◌+◌, ◌-◌, ◌*◌, ◌%◌, ◌≤◌, length, get_or, drop, ap, sym, refl, ◌∙◌, arith, ℕ, List}
use Rattle.std.proofs.lemmas.List.Sums.{sum_by-drop_more}
use Rattle.std.specs.Prelude.{sum_by}
use Rattle.c65_mach.specs.State.{State, write}
use Rattle.c65_mach.specs.Step.{after, word_at}
use Rattle.c65_mach.specs.Hooks.{put_bytes, put_word}
use Rattle.c65_sim.proofs.ArgLaws.{laid_more, given}
use Rattle.c65_sim.proofs.Bytes.{memory_again}
use Rattle.c65_sim.proofs.hooks.give_args.Goals as goal

pub loop-arg-preserved : goal.loop-arg-preserved
loop-arg-preserved c =
    let f : List ℕ → ℕ = λ arg. length arg + 1 in
    let args : List (List ℕ) = c.args.args.now in
    let i : ℕ = c.loop-arg.arg-index in
    let text : List ℕ = c.as_slice-text.result.now in
    let item : text ≡ get_or args i c.arg-item.result = c.as_slice-text.ensures ∙ c.arg-item.is in
    let more : sum_by f (drop i args) ≡ f text + sum_by f (drop (i + 1) args) =
    sum_by-drop_more f args i c.arg-item.result c.loop-arg-test.true ∙ ap (λ x. f x + sum_by f (drop (i + 1) args)) (sym item) in
    let fits : length text + 1 ≤ 65536 = omega (arith, more, c.loop-arg.invariant.2) in
    let start : ℕ = (c.loop-arg.lowest + (65536 - (length text + 1))) % 65536 in
    let m : State = c.loop-arg.machine in
    let m1 : State = c.put_bytes.new.machine in
    let m2 : State = c.write.new.self in
    let m3 : State = c.put_word.new.self in
    let e1 : m1.mem ≡ put_bytes m.mem start text = ap (λ (u : State). u.mem) c.put_bytes.ensures in
    let e2 : m2.mem ≡ write m1.mem (after start (length text)) 0 = ap (λ (u : State). u.mem) c.write.ensures in
    let e3 : m3.mem ≡ put_word m2.mem c.loop-arg.at start = ap (λ (u : State). u.mem) c.put_word.ensures in
    let s1 = memory_again c.args.machine.now m m1 _ c.loop-arg.invariant.1 c.put_bytes.ensures in
    let s2 = memory_again c.args.machine.now m1 m2 _ s1 c.write.ensures in (
      c.loop-arg.invariant.0
          ∙ laid_more args i text c.arg-item.result c.loop-arg.at c.loop-arg.lowest start m.mem m1.mem m2.mem m3.mem c.loop-arg-test.true item fits refl e1 e2 e3,
      memory_again c.args.machine.now m2 m3 _ s2 c.put_word.ensures,
      omega (arith, more, c.loop-arg.invariant.2),
    )

pub returns : goal.returns
returns c =
    let args : List (List ℕ) = c.args.args.now in
    let i : ℕ = c.loop-arg.arg-index in
    let list : ℕ = (c.word.result + (65536 - 2 * (length args + 1))) % 65536 in
    let all : length args ≤ i = omega arith in
    let fits : 2 * (length args + 1) ≤ 65536 = omega arith in
    c.answer_hook.ensures
    ∙ given c.args.sp args c.args.machine.now c.loop-arg.machine c.put_word-2.new.self c.put_word-3.new.self c.put_word-4.new.self list c.loop-arg.at c.loop-arg.lowest i
    all fits (ap (λ w. (w + (65536 - 2 * (length args + 1))) % 65536) (c.word.ensures ∙ ap (word_at c.args.machine.now.mem) c.from.ensures)) c.loop-arg.invariant.0 c.loop-arg.invariant.1 c.put_word-2.ensures
    (c.put_word-3.ensures ∙ ap (λ p. record c.put_word-2.new.self { mem = put_word c.put_word-2.new.self.mem p c.loop-arg.lowest }) c.from-2.ensures)
    (c.put_word-4.ensures ∙ ap (λ p. record c.put_word-3.new.self { mem = put_word c.put_word-3.new.self.mem p list }) c.ax-pointer.ensures)
