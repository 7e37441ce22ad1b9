-- Laws of the arguments on the software stack.
use Rattle.std.proofs.Common.{◌≡◌, ℕ, ◌+◌, ◌-◌, ◌*◌, ◌%◌, ◌<◌, ◌≤◌, suc, List, [], ◌∷◌, ◌++◌, length, drop, get_or, ap, sym, ◌∙◌, arith}
use Rattle.std.proofs.Math.Seq.{drop-cons}
use Rattle.std.proofs.Math.ListN.{drop_of_length-le}
use Rattle.c65_mach.specs.State.{State, Memory, write}
use Rattle.c65_mach.specs.Step.{after, word_at}
use Rattle.c65_mach.specs.Hooks.{put_word, put_bytes, below, laid_args, given_args, hooked, ax}
use Rattle.c65_sim.proofs.Bytes.{put_bytes-end}

-- one more argument is laid
pub laid_more : (args : List (List ℕ)) (i : ℕ) (arg d : List ℕ) (at lowest start : ℕ) (mem mem1 mem2 mem3 : Memory) → i < length args
    → arg ≡ get_or args i d → length arg + 1 ≤ 65536 → start ≡ (lowest + (65536 - (length arg + 1))) % 65536
    → mem1 ≡ put_bytes mem start arg → mem2 ≡ write mem1 (after start (length arg)) 0 → mem3 ≡ put_word mem2 at start
    → laid_args (drop i args) at lowest mem ≡ laid_args (drop (i + 1) args) (after at 2) start mem3
laid_more args i arg d at lowest start mem mem1 mem2 mem3 lt is fits starts e1 e2 e3 =
    let one : suc i ≡ i + 1 = omega arith in
    let fits' : start < 65536 = omega arith in
    let at_start : below lowest (length arg + 1) ≡ start = omega arith in
    let text : put_bytes mem start (arg ++ 0 ∷ []) ≡ mem2 =
    put_bytes-end mem start arg 0 fits' ∙ ap (λ m. write m (after start (length arg)) 0) (sym e1) ∙ sym e2 in
    ap (λ xs. laid_args xs at lowest mem) (drop-cons args i d lt)
    ∙ ap (λ xs. laid_args (xs ∷ drop (suc i) args) at lowest mem) (sym is)
    ∙ ap (λ p. laid_args (drop (suc i) args) (after at 2) p (put_word (put_bytes mem p (arg ++ 0 ∷ [])) at p)) at_start
    ∙ ap (λ m. laid_args (drop (suc i) args) (after at 2) start (put_word m at start)) text
    ∙ ap (λ m. laid_args (drop (suc i) args) (after at 2) start m) (sym e3)
    ∙ ap (λ k. laid_args (drop k args) (after at 2) start mem3) one

-- all arguments are laid, and their list and the stack's pointer are stored
pub given : (sp : ℕ) (args : List (List ℕ)) (m m1 m2 m3 m4 : State) (list at lowest i : ℕ) → length args ≤ i → 2 * (length args + 1) ≤ 65536
    → list ≡ (word_at m.mem sp + (65536 - 2 * (length args + 1))) % 65536
    → laid_args args list list m.mem ≡ laid_args (drop i args) at lowest m1.mem
    → m1 ≡ record m { mem = m1.mem }
    → m2 ≡ record m1 { mem = put_word m1.mem at 0 }
    → m3 ≡ record m2 { mem = put_word m2.mem sp lowest }
    → m4 ≡ record m3 { mem = put_word m3.mem (ax m) list }
    → hooked (length args) m4 ≡ given_args sp args m
given sp args m m1 m2 m3 m4 list at lowest i all fits starts laid same e2 e3 e4 =
    let n : ℕ = length args in
    let at_list : list ≡ below (word_at m.mem sp) (2 * (n + 1)) = omega arith in
    let whole : laid_args args list list m.mem ≡ (put_word m1.mem at 0, lowest) =
    laid ∙ ap (λ xs. laid_args xs at lowest m1.mem) (drop_of_length-le args all) in
    let final : Memory × ℕ → ℕ → State = λ (p : Memory × ℕ) (l : ℕ). record m { mem = put_word (put_word p.0 sp p.1) (ax m) l } in
    let stored : m4 ≡ final (put_word m1.mem at 0, lowest) list =
    e4
    ∙ ap (λ (u : State). record u { mem = put_word u.mem (ax m) list }) (e3 ∙ ap (λ (u : State). record u { mem = put_word u.mem sp lowest }) e2)
    ∙ ap (λ (u : State). record u { mem = put_word (put_word (put_word m1.mem at 0) sp lowest) (ax m) list }) same in
    ap (hooked n) (stored ∙ ap (λ p. final p list) (sym whole))
    ∙ ap (λ l. hooked n (final (laid_args args l l m.mem) l)) at_list
