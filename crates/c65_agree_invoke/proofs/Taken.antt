-- The values of arguments as the meaning takes them, and their bytes as the called function does.
use Rattle.std.proofs.Common.{◌≡◌, ℕ, zero, suc, ◌+◌, Bool, true, false, List, [], ◌∷◌, ◌++◌, Option, Some, None, length, refl, sym, ap, ◌∙◌, subst, arith}
use Rattle.c65_ctype.specs.Trees.{Ty}
use Rattle.c65_csem.specs.Trees.{Nodes, none, some, UnitTy}
use Rattle.c65_meaning.specs.Store.{Value}
use Rattle.c65_meaning.specs.Shapes.{types_of}
use Rattle.c65_meaning.specs.Step.{taken}
use Rattle.c65_genframe.specs.declared.home.Arrival.{Arrival}
use Rattle.c65_genframe.specs.declared.home.Arrival.TheVariants.{Passed, Pushed, Kept}
use Rattle.c65_genframe.specs.Frames.{Framed, is_kept}
use Rattle.c65_genexpr.specs.Arguments.{stays, passed_of}
use Rattle.c65_agree_argument.specs.Arguments.{Argument, AreArguments, is_last, waiting_bytes, piled}
use Rattle.c65_agree_argument.specs.Passed.{all_bytes, held_bytes, arrival_by, ArrivesAs, values_of, AreSmall, IsTakenBy, AllTaken, entering}
use Rattle.c65_agree_argument.proofs.Arguments.{size_least, size_most}
use Rattle.c65_agree_argument.proofs.Passed.{bytes_split, all_wait}
use Rattle.c65_agree_invoke.specs.Nodes.{sizes_of, arrival_of, IsArrival, stacked_of, HaveSlots}

-- ---- values

-- so many values off a pile
abbrev taken_off : ℕ → List Value → List Value → Option (List Value × List Value)
taken_off zero args vs = Some (args, vs)
taken_off (suc n) args [] = None
taken_off (suc n) args (v ∷ vs) = taken_off n (v ∷ args) vs

by_number : (ts : List Ty) (args vs : List Value) → taken ts args vs ≡ taken_off (length ts) args vs
by_number [] args vs = refl
by_number (t ∷ ts) args [] = refl
by_number (t ∷ ts) args (v ∷ vs) = by_number ts (v ∷ args) vs

-- the values of arguments, and more below them
pile_taken : (xs : List Argument) (m : ℕ) (args vs : List Value) → taken_off (length xs + m) args (piled xs vs) ≡ taken_off m (values_of xs ++ args) vs
pile_taken [] m args vs = let n : 0 + m ≡ m = omega arith in ap (λ k. taken_off k args vs) n
pile_taken (x ∷ xs) m args vs =
    let n : length (x ∷ xs) + m ≡ length xs + suc m = omega arith in
    ap (λ k. taken_off k args (piled xs (x.value ∷ vs))) n ∙ pile_taken xs (suc m) args (x.value ∷ vs)

none_behind : (vs : List Value) → vs ++ [] ≡ vs
none_behind [] = refl
none_behind (v ∷ vs) = ap (λ ws. v ∷ ws) (none_behind vs)

as_many : (f : Framed) (es : Nodes) (xs : List Argument) → AreArguments f es xs → length (types_of es) ≡ length xs
as_many f none [] h = refl
as_many f none (x ∷ xs) h = absurd h
as_many f (some e es) [] h = absurd h
as_many f (some e es) (x ∷ xs) h = ap suc (as_many f es xs h.1)

pub values_are_taken : (f : Framed) (es : Nodes) (xs : List Argument) (vs : List Value) → AreArguments f es xs → taken (types_of es) [] (piled xs vs) ≡ Some (values_of xs, vs)
values_are_taken f es xs vs h =
    let n : length (types_of es) ≡ length xs + 0 = omega (arith, as_many f es xs h) in
    by_number (types_of es) [] (piled xs vs) ∙ (ap (λ k. taken_off k [] (piled xs vs)) n ∙ (pile_taken xs 0 [] vs ∙ ap (λ ws. Some (ws, vs)) (none_behind (values_of xs))))

-- ---- bytes

pub are_small : (f : Framed) (es : Nodes) (xs : List Argument) → AreArguments f es xs → AreSmall xs
are_small f none [] h = tt
are_small f none (x ∷ xs) h = absurd h
are_small f (some e es) [] h = absurd h
are_small f (some e es) (x ∷ xs) h = (omega (arith, h.0, size_least f e), omega (arith, h.0, size_most f e), are_small f es xs h.1)

pub sizes_are : (f : Framed) (es : Nodes) (xs : List Argument) → AreArguments f es xs → all_bytes xs ≡ sizes_of f es
sizes_are f none [] h = refl
sizes_are f none (x ∷ xs) h = absurd h
sizes_are f (some e es) [] h = absurd h
sizes_are f (some e es) (x ∷ xs) h = let others = sizes_are f es xs h.1 in omega (arith, h.0, others)

last_is : (f : Framed) (fast : Bool) (es : Nodes) (xs : List Argument) → AreArguments f es xs → is_last fast xs ≡ stays fast es
last_is f fast none [] h = refl
last_is f fast none (x ∷ xs) h = absurd h
last_is f fast (some e es) [] h = absurd h
last_is f fast (some e es) (x ∷ xs) h = refl

pub arrival_is : (f : Framed) (fast : Bool) (es : Nodes) (xs : List Argument) → AreArguments f es xs → arrival_by fast xs ≡ arrival_of f fast es
arrival_is f fast none [] h = refl
arrival_is f fast none (x ∷ xs) h = absurd h
arrival_is f fast (some e es) [] h = absurd h
arrival_is f fast (some e es) (x ∷ xs) h = rw (last_is f fast es xs h.1, h.0, arrival_is f fast es xs h.1) refl

-- the last one alone is in registers
pub held_is : (f : Framed) (fast : Bool) (es : Nodes) (xs : List Argument) → AreArguments f es xs → held_bytes fast xs ≡ (passed_of f fast es).last
held_is f fast none [] h = refl
held_is f fast none (x ∷ xs) h = absurd h
held_is f fast (some e es) [] h = absurd h
held_is f true (some e none) (x ∷ []) h = omega (arith, h.0)
held_is f false (some e none) (x ∷ []) h = refl
held_is f fast (some e none) (x ∷ y ∷ ys) h = absurd h.1
held_is f fast (some e (some e2 es)) (x ∷ []) h = absurd h.1
held_is f fast (some e (some e2 es)) (x ∷ y ∷ ys) h = let others = held_is f fast (some e2 es) (y ∷ ys) h.1 in omega (arith, others)

-- those that are on the software stack
pub stacked_are : (kept : Bool) (f : Framed) (es : Nodes) (xs : List Argument) → AreArguments f es xs → waiting_bytes kept xs ≡ stacked_of kept f es
stacked_are kept f none [] h = refl
stacked_are kept f none (x ∷ xs) h = absurd h
stacked_are kept f (some e es) [] h = absurd h
stacked_are kept f (some e es) (x ∷ xs) h = rw (last_is f kept es xs h.1, h.0, stacked_are kept f es xs h.1) refl

pub arrives_as : (f : Framed) (fast : Bool) (es : Nodes) (xs : List Argument) (last : Arrival) → AreArguments f es xs → IsArrival f fast es last → ArrivesAs fast xs last
arrives_as f fast es xs Passed args h = h ∙ sym (arrival_is f fast es xs args)
arrives_as f fast es xs (Pushed n) args h = h ∙ sym (arrival_is f fast es xs args)
arrives_as f fast es xs (Kept bank bytes) args h = h

-- what the entry pushes stands below those that wait
pub stacked_split : (fast : Bool) (xs : List Argument) (last : Arrival) → ArrivesAs fast xs last → waiting_bytes (is_kept last) xs ≡ entering last (held_bytes fast xs) + waiting_bytes fast xs
stacked_split fast xs Passed h = all_wait xs ∙ bytes_split fast xs
stacked_split fast xs (Pushed n) h = all_wait xs ∙ bytes_split fast xs
stacked_split fast xs (Kept bank bytes) h =
    let same : waiting_bytes true xs ≡ waiting_bytes fast xs = ap (λ (b : Bool). waiting_bytes b xs) (sym h) in
    omega (arith, same)

-- ---- homes

pub all_taken : (kept : Bool) (u : UnitTy) (f h : Framed) (at : ℕ) (is : List ℕ) (es : Nodes) (xs : List Argument) → HaveSlots kept u f h at is es → AreArguments f es xs → AllTaken kept u h at is xs
all_taken kept u f h at [] none [] slots args = tt
all_taken kept u f h at [] none (x ∷ xs) slots args = absurd args
all_taken kept u f h at [] (some e es) xs slots args = absurd slots
all_taken kept u f h at (i ∷ is) none xs slots args = absurd slots
all_taken kept u f h at (i ∷ is) (some e es) [] slots args = absurd args
all_taken kept u f h at (i ∷ is) (some e es) (x ∷ xs) slots args =
    let here : IsTakenBy (is_last kept xs) u h i (at + stacked_of kept f es) = subst (λ (b : Bool). IsTakenBy b u h i (at + stacked_of kept f es)) (sym (last_is f kept es xs args.1)) slots.0 in
    (subst (λ (n : ℕ). IsTakenBy (is_last kept xs) u h i (at + n)) (sym (stacked_are kept f es xs args.1)) here, omega (arith, slots.1, args.0), all_taken kept u f h at is es xs slots.2 args.1)
