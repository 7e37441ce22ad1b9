-- A parser's scope has few types: it keeps a finite table.
use Rattle.std.proofs.Common.{◌≡◌, ℕ, zero, suc, ◌≤◌, List, [], ◌∷◌, reverse, length, Bool, true, false, refl, ap, arith}
use Rattle.std.specs.Prelude.{Vec, nat_eq, if◌then◌else◌, Result, Ok, Err}
use Rattle.std.specs.declared.alloc.Global.{Global}
use Rattle.c65_base.specs.Answers.{Fault, at, large, Gives}
use Rattle.c65_base.specs.declared.names.Name.{Name}
use Rattle.c65_base.specs.declared.refusal.Refusal.{Refusal}
use Rattle.c65_base.specs.declared.refusal.Refusal.TheVariants as refusals
use Rattle.c65_scan.specs.declared.token.Token.{Token}
use Rattle.c65_parse_names.specs.declared.scope.Scope.{Scope}
use Rattle.c65_parse_names.specs.Blocks.{Stacks, stack_at, stacks_of, head_or, tail_of, without_block, kinds_of, outer_of, scope_of}
use Rattle.c65_parse_grammar.specs.Phrases.{Phrase}
use Rattle.c65_parse_law_least.specs.Viable.{StopsAt, FewTypes}
use Rattle.c65_parse_law_least.specs.Calls.{Stops}

-- from some name on there are no kinds
abbrev Few : Stacks → Type 0
Few stacks = (least : ℕ) × ((n : Name) → least ≤ n.0 → stacks n ≡ [])

past_all : (kinds : List (Vec Bool Global)) (n : ℕ) → length kinds ≤ n → stack_at kinds n ≡ []
past_all [] n h = refl
past_all (k ∷ kinds) zero h = absurd (omega (arith, h))
past_all (k ∷ kinds) (suc n) h = past_all kinds n (omega (arith, h))

tail_empty : (b : Bool) (s : List Bool) → s ≡ [] → (if b then tail_of s else s) ≡ []
tail_empty true s e = ap tail_of e
tail_empty false s e = e

without_few : (names : List Name) (stacks : Stacks) → Few stacks → Few (without_block names stacks)
without_few [] stacks few = few
without_few (name ∷ names) stacks few =
    let inner = without_few names stacks few in
    (inner.0, λ n h. tail_empty (nat_eq n.0 name.0) (without_block names stacks n) (inner.1 n h))

kinds_few : (stacks : Stacks) → Few stacks → (least : ℕ) × ((n : Name) → least ≤ n.0 → kinds_of stacks n ≡ false)
kinds_few stacks few = (few.0, λ n h. ap (head_or false) (few.1 n h))

outer_few : (blocks : List (Vec Name Global)) (stacks : Stacks) → Few stacks → FewTypes (outer_of blocks stacks)
outer_few [] stacks few = tt
outer_few (block ∷ blocks) stacks few =
    let inner = without_few block.items stacks few in
    (kinds_few (without_block block.items stacks) inner, outer_few blocks (without_block block.items stacks) inner)

pub few_types : (s : Scope) → FewTypes (scope_of s)
few_types s =
    let few : Few (stacks_of s.kinds.items) = (length s.kinds.items, λ n h. past_all s.kinds.items n.0 h) in
    (kinds_few (stacks_of s.kinds.items) few, outer_few (reverse s.blocks.items) (stacks_of s.kinds.items) few)

-- what a call answers by its mirror
pub stopped : (limit : ℕ) → {X Y Tree : Type 0} (view : X → Y) (r : Result X Refusal) (y : Result Y Fault) (phrase : Tree → Phrase) (depth : Tree → ℕ) (tokens : List Token) → Gives view r y → ((fault : Fault) → y ≡ Err fault → StopsAt limit phrase depth tokens fault) → Stops limit phrase depth tokens r
stopped limit view (Ok x) y phrase depth tokens h f = tt
stopped limit view (Err refusals.OutOfMemory) y phrase depth tokens h f = tt
stopped limit view (Err (refusals.At code pos)) y phrase depth tokens h f = f (at code pos) h
stopped limit view (Err (refusals.TooLarge size value)) y phrase depth tokens h f = f (large size value) h
stopped limit view (Err _) y phrase depth tokens h f = absurd h
