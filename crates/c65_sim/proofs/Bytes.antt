-- Laws of bytes in memory.
use Rattle.std.proofs.Common.{◌≡◌, ℕ, ◌+◌, ◌-◌, ◌<◌, suc, List, [], ◌∷◌, ◌++◌, length, take, set, ap, sym, ◌∙◌, append_assoc, arith}
use Rattle.std.proofs.lemmas.List.{take_more_set, length-set}
use Rattle.c65_mach.specs.State.{State, Memory, read, write}
use Rattle.c65_mach.specs.Step.{after}
use Rattle.c65_mach.specs.Hooks.{put_bytes, bytes_from}

pub after-after : (at n : ℕ) → after (after at 1) n ≡ after at (suc n)
after-after at n = omega arith

-- one more byte behind the others
pub put_bytes-end : (mem : Memory) (at : ℕ) (xs : List ℕ) (b : ℕ) → at < 65536
    → put_bytes mem at (xs ++ b ∷ []) ≡ write (put_bytes mem at xs) (after at (length xs)) b
put_bytes-end mem at [] b fits =
    let e : at ≡ after at 0 = omega arith in
    ap (λ a. write mem a b) e
put_bytes-end mem at (x ∷ xs) b fits =
    let next : after at 1 < 65536 = omega arith in
    put_bytes-end (write mem at x) (after at 1) xs b next
    ∙ ap (λ a. write (put_bytes (write mem at x) (after at 1) xs) a b) (after-after at (length xs))

-- one more byte is copied out
pub copied_more : (mem : Memory) (place at i : ℕ) (into : List ℕ) (b : ℕ) → i < length into → b ≡ read mem place
    → take i into ++ bytes_from mem place (length into - i) ≡ bytes_from mem at (length into)
    → take (i + 1) (set into i b) ++ bytes_from mem (after place 1) (length (set into i b) - (i + 1)) ≡ bytes_from mem at (length (set into i b))
copied_more mem place at i into b lt is before =
    let n : ℕ = length into - (i + 1) in
    let one_less : length into - i ≡ suc n = omega arith in
    let same : length (set into i b) ≡ length into = length-set into i b in
    let rest : List ℕ = bytes_from mem (after place 1) n in
    ap (λ k. take (i + 1) (set into i b) ++ bytes_from mem (after place 1) (k - (i + 1))) same
    ∙ ap (λ xs. xs ++ rest) (take_more_set into i b lt)
    ∙ append_assoc (take i into) (b ∷ []) rest
    ∙ ap (λ x. take i into ++ (x ∷ rest)) is
    ∙ ap (λ k. take i into ++ bytes_from mem place k) (sym one_less)
    ∙ before
    ∙ ap (bytes_from mem at) (sym same)

-- a machine that differs in memory alone, and its memory is written again
pub memory_again : (m0 m m' : State) (mem : Memory) → m ≡ record m0 { mem = m.mem } → m' ≡ record m { mem = mem }
    → m' ≡ record m0 { mem = m'.mem }
memory_again m0 m m' mem same step =
    step
    ∙ ap (λ (u : State). record u { mem = mem }) same
    ∙ ap (λ x. record m0 { mem = x }) (sym (ap (λ (u : State). u.mem) step))
