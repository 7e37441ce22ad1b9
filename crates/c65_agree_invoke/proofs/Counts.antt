-- How many bytes of arguments wait, and what a call says of them.
use Rattle.std.proofs.Common.{◌≡◌, ℕ, ◌+◌, ◌-◌, ◌%◌, ◌≤◌, Bool, true, false, List, [], ◌∷◌, refl, sym, ap, ◌∙◌, arith}
use Rattle.std.proofs.Math.Nat.{mod-eq_of_lt}
use Rattle.c65_csem.specs.Trees.{Nodes, none, some}
use Rattle.c65_genframe.specs.Frames.{Framed}
use Rattle.c65_genexpr.specs.declared.arguments.Passed.{Passed}
use Rattle.c65_genexpr.specs.Arguments.{stays, passed_size, joined, passed_of, argument_bytes}
use Rattle.c65_agree_argument.specs.Arguments.{Argument, AreArguments, is_last, waiting_bytes}
use Rattle.c65_agree_invoke.specs.Nodes.{sizes_of}

last_stays : (f : Framed) (fast : Bool) (es : Nodes) (xs : List Argument) → AreArguments f es xs → is_last fast xs ≡ stays fast es
last_stays f fast none [] h = refl
last_stays f fast none (x ∷ xs) h = absurd h
last_stays f fast (some e es) [] h = absurd h
last_stays f fast (some e es) (x ∷ xs) h = refl

waits_at_most : (last : Bool) (bytes : ℕ) → argument_bytes last bytes ≤ bytes
waits_at_most true bytes = omega arith
waits_at_most false bytes = omega arith

pub wait_most : (f : Framed) (fast : Bool) (es : Nodes) (xs : List Argument) → AreArguments f es xs → waiting_bytes fast xs ≤ sizes_of f es
wait_most f fast none [] h = omega arith
wait_most f fast none (x ∷ xs) h = absurd h
wait_most f fast (some e es) [] h = absurd h
wait_most f fast (some e es) (x ∷ xs) h = omega (arith, waits_at_most (is_last fast xs) x.bytes, h.0, wait_most f fast es xs h.1)

joined_is : (last : Bool) (bytes : ℕ) (p : Passed) (wait : ℕ) → p.stacked ≡ wait → bytes + wait ≤ 255 → (joined last bytes p).stacked ≡ argument_bytes last bytes + wait
joined_is true bytes p wait e le = omega (arith, e)
joined_is false bytes p wait e le = let same : (bytes + p.stacked) % 256 ≡ bytes + p.stacked = mod-eq_of_lt (omega (arith, e, le)) in omega (arith, same, e)

-- the number that a call passes is that of the bytes that wait
pub stacked_wait : (f : Framed) (fast : Bool) (es : Nodes) (xs : List Argument) → sizes_of f es ≤ 250 → AreArguments f es xs → (passed_of f fast es).stacked ≡ waiting_bytes fast xs
stacked_wait f fast none [] le h = refl
stacked_wait f fast none (x ∷ xs) le h = absurd h
stacked_wait f fast (some e es) [] le h = absurd h
stacked_wait f fast (some e es) (x ∷ xs) le h =
    let rest : (passed_of f fast es).stacked ≡ waiting_bytes fast xs = stacked_wait f fast es xs (omega (arith, le)) h.1 in
    let one : (joined (stays fast es) (passed_size f e) (passed_of f fast es)).stacked ≡ argument_bytes (stays fast es) (passed_size f e) + waiting_bytes fast xs = joined_is (stays fast es) (passed_size f e) (passed_of f fast es) (waiting_bytes fast xs) rest (omega (arith, le, wait_most f fast es xs h.1)) in
    one ∙ (ap (λ n. argument_bytes (stays fast es) n + waiting_bytes fast xs) (sym h.0) ∙ ap (λ last. argument_bytes last x.bytes + waiting_bytes fast xs) (sym (last_stays f fast es xs h.1)))
