-- The pairs of tags that are reached from some pairs, step by step: each was looked at, or is still to come.
use Rattle.std.proofs.Common.{◌≡◌, ◌⊎◌, inl, inr, ℕ, zero, suc, ◌+◌, ◌-◌, ◌<◌, ◌≤◌, [], ◌∷◌, ◌++◌, length, refl, sym, ap, ◌∙◌, subst, arith, Some, None, Bool, true, false}
use Rattle.std.specs.Prelude.{Option, slice_get, unwrap_or, ◌==◌, ◌&&◌, if◌then◌else◌}
use Rattle.std.proofs.lemmas.Bool.{eqb-true}
use Rattle.std.proofs.lemmas.Option.{slice_get_within}
use Rattle.std.proofs.Math.Nat.{eq-or-lt_of_le}
use Rattle.c65_ctype.specs.Trees.{TypesTy}
use Rattle.c65_ctype.specs.Compatible.{Pairs, each, each_in, next_pairs, agrees}
use Rattle.c65_ctype.specs.Visited.{has_pair, with_one, with_new}

some_is : (p q : ℕ × ℕ) → Some p ≡ Some q → p ≡ q
some_is p q e = ap (λ (o : Option (ℕ × ℕ)). unwrap_or o p) e

-- ---- tests of each pair

each_step : (f : ℕ × ℕ → Bool) (q : ℕ × ℕ) (ps : Pairs) (b : Bool) → f q ≡ b → each f (q ∷ ps) ≡ (if b then each f ps else false)
each_step f q ps b e = ap (λ (d : Bool). if d then each f ps else false) e

each_fails : (f : ℕ × ℕ → Bool) (q : ℕ × ℕ) (ps : Pairs) → each f ps ≡ false → (b : Bool) → f q ≡ b → each f (q ∷ ps) ≡ false
each_fails f q ps rest true e = each_step f q ps true e ∙ rest
each_fails f q ps rest false e = each_step f q ps false e

each_false : (f : ℕ × ℕ → Bool) (ps : Pairs) (k : ℕ) (p : ℕ × ℕ) → slice_get ps k ≡ Some p → f p ≡ false → each f ps ≡ false
each_false f [] k p there fails = absurd (let bad : None ≡ Some p = there in cc)
each_false f (q ∷ ps) zero p there fails = each_step f q ps false (ap f (some_is q p there) ∙ fails)
each_false f (q ∷ ps) (suc k) p there fails = each_fails f q ps (each_false f ps k p there fails) (f q) refl

each_true : (f : ℕ × ℕ → Bool) (ps : Pairs) → ((k : ℕ) (p : ℕ × ℕ) → slice_get ps k ≡ Some p → f p ≡ true) → each f ps ≡ true
each_true f [] h = refl
each_true f (q ∷ ps) h = each_step f q ps true (h zero q refl) ∙ each_true f ps (λ k p e. h (suc k) p e)

mono_step : (f g : ℕ × ℕ → Bool) (q : ℕ × ℕ) (ps : Pairs) → (f q ≡ false → g q ≡ false) → (each f ps ≡ false → each g ps ≡ false) → (b : Bool) → f q ≡ b → each f (q ∷ ps) ≡ false → each g (q ∷ ps) ≡ false
mono_step f g q ps one rest true holds e = each_fails g q ps (rest (sym (each_step f q ps true holds) ∙ e)) (g q) refl
mono_step f g q ps one rest false fails e = each_step g q ps false (one fails)

each_mono : (f g : ℕ × ℕ → Bool) → ((p : ℕ × ℕ) → f p ≡ false → g p ≡ false) → (ps : Pairs) → each f ps ≡ false → each g ps ≡ false
each_mono f g h [] e = e
each_mono f g h (q ∷ ps) e = mono_step f g q ps (h q) (each_mono f g h ps) (f q) refl e

in_mono : (f g : ℕ × ℕ → Bool) → ((p : ℕ × ℕ) → f p ≡ false → g p ≡ false) → (o : Option Pairs) → each_in f o ≡ false → each_in g o ≡ false
in_mono f g h None e = refl
in_mono f g h (Some ps) e = each_mono f g h ps e

-- ---- more steps find every difference that fewer find

agrees_more : (types : TypesTy) (n : ℕ) (p : ℕ × ℕ) → agrees types n p ≡ false → agrees types (suc n) p ≡ false
agrees_more types zero p e = absurd (let bad : true ≡ false = e in cc)
agrees_more types (suc n) p e = in_mono (agrees types n) (agrees types (suc n)) (agrees_more types n) (next_pairs types p) e

agrees_by : (types : TypesTy) (d n m : ℕ) (p : ℕ × ℕ) → m ≡ d + n → agrees types n p ≡ false → agrees types m p ≡ false
agrees_by types zero n m p is e = subst (λ (k : ℕ). agrees types k p ≡ false) (let same : n ≡ m = omega arith in same) e
agrees_by types (suc d) n m p is e = subst (λ (k : ℕ). agrees types k p ≡ false) (let same : suc (d + n) ≡ m = omega arith in same) (agrees_more types (d + n) p (agrees_by types d n (d + n) p refl e))

agrees_up : (types : TypesTy) (n m : ℕ) (p : ℕ × ℕ) → n ≤ m → agrees types n p ≡ false → agrees types m p ≡ false
agrees_up types n m p le e = agrees_by types (m - n) n m p (omega arith) e

each_up : (types : TypesTy) (n m : ℕ) (ps : Pairs) → n ≤ m → each (agrees types n) ps ≡ false → each (agrees types m) ps ≡ false
each_up types n m ps le e = each_mono (agrees types n) (agrees types m) (λ p h. agrees_up types n m p le h) ps e

-- ---- lists of pairs

abbrev pub Has : ℕ × ℕ → Pairs → Type 0
Has p ps = (k : ℕ) × (slice_get ps k ≡ Some p)

and_true : (a b : Bool) → (a && b) ≡ true → (a ≡ true) × (b ≡ true)
and_true true b e = (refl, e)
and_true false b e = absurd (let bad : false ≡ true = e in cc)

same_pair : (p q : ℕ × ℕ) → ((p.0 == q.0) && (p.1 == q.1)) ≡ true → p ≡ q
same_pair p q e =
    let both = and_true (p.0 == q.0) (p.1 == q.1) e in
    ap (λ (x : ℕ). (x, p.1)) (eqb-true p.0 q.0 both.0) ∙ ap (λ (y : ℕ). (q.0, y)) (eqb-true p.1 q.1 both.1)

has_step : (q p : ℕ × ℕ) (qs : Pairs) → (has_pair qs p ≡ true → Has p qs) → (b : Bool) → ((q.0 == p.0) && (q.1 == p.1)) ≡ b → has_pair (q ∷ qs) p ≡ true → Has p (q ∷ qs)
has_step q p qs more true same e = (zero, ap Some (same_pair q p same))
has_step q p qs more false other e =
    let rest = more (sym (ap (λ (d : Bool). if d then true else has_pair qs p) other) ∙ e) in
    (suc rest.0, rest.1)

has_is : (ps : Pairs) (p : ℕ × ℕ) → has_pair ps p ≡ true → Has p ps
has_is [] p e = absurd (let bad : false ≡ true = e in cc)
has_is (q ∷ qs) p e = has_step q p qs (has_is qs p) ((q.0 == p.0) && (q.1 == p.1)) refl e

append_keeps : (xs ys : Pairs) (k : ℕ) (q : ℕ × ℕ) → slice_get xs k ≡ Some q → slice_get (xs ++ ys) k ≡ Some q
append_keeps [] ys k q there = absurd (let bad : None ≡ Some q = there in cc)
append_keeps (x ∷ xs) ys zero q there = there
append_keeps (x ∷ xs) ys (suc k) q there = append_keeps xs ys k q there

append_has : (xs : Pairs) (p : ℕ × ℕ) → Has p (xs ++ p ∷ [])
append_has [] p = (zero, refl)
append_has (x ∷ xs) p = let rest = append_has xs p in (suc rest.0, rest.1)

append_comes : (xs : Pairs) (p : ℕ × ℕ) (k : ℕ) (q : ℕ × ℕ) → slice_get (xs ++ p ∷ []) k ≡ Some q → (slice_get xs k ≡ Some q) ⊎ ((length xs ≤ k) × (p ≡ q))
append_comes [] p zero q there = inr (omega arith, some_is p q there)
append_comes [] p (suc k) q there = absurd (let bad : None ≡ Some q = there in cc)
append_comes (x ∷ xs) p zero q there = inl there
append_comes (x ∷ xs) p (suc k) q there = elim (append_comes xs p k q there) as (λ z. (slice_get xs k ≡ Some q) ⊎ ((length (x ∷ xs) ≤ suc k) × (p ≡ q))) [ inl old ↦ inl old | inr new ↦ inr (omega (arith, new.0), new.1) ]

append_longer : (xs ys : Pairs) → length xs ≤ length (xs ++ ys)
append_longer [] ys = omega arith
append_longer (x ∷ xs) ys = omega (arith, append_longer xs ys)

one_keeps : (seen : Pairs) (p : ℕ × ℕ) (k : ℕ) (q : ℕ × ℕ) → slice_get seen k ≡ Some q → slice_get (with_one seen p) k ≡ Some q
one_keeps seen p k q there = tested (has_pair seen p)
  where
    tested : (b : Bool) → slice_get (if b then seen else seen ++ p ∷ []) k ≡ Some q
    tested true = there
    tested false = append_keeps seen (p ∷ []) k q there

one_has : (seen : Pairs) (p : ℕ × ℕ) → Has p (with_one seen p)
one_has seen p = tested (has_pair seen p) refl
  where
    tested : (b : Bool) → has_pair seen p ≡ b → Has p (if b then seen else seen ++ p ∷ [])
    tested true e = has_is seen p e
    tested false e = append_has seen p

one_longer : (seen : Pairs) (p : ℕ × ℕ) → length seen ≤ length (with_one seen p)
one_longer seen p = tested (has_pair seen p)
  where
    tested : (b : Bool) → length seen ≤ length (if b then seen else seen ++ p ∷ [])
    tested true = omega arith
    tested false = append_longer seen (p ∷ [])

one_comes : (seen : Pairs) (p : ℕ × ℕ) (k : ℕ) (q : ℕ × ℕ) → slice_get (with_one seen p) k ≡ Some q → (slice_get seen k ≡ Some q) ⊎ ((length seen ≤ k) × (p ≡ q))
one_comes seen p k q there = tested (has_pair seen p) there
  where
    tested : (b : Bool) → slice_get (if b then seen else seen ++ p ∷ []) k ≡ Some q → (slice_get seen k ≡ Some q) ⊎ ((length seen ≤ k) × (p ≡ q))
    tested true h = inl h
    tested false h = append_comes seen p k q h

new_keeps : (seen ps : Pairs) (k : ℕ) (q : ℕ × ℕ) → slice_get seen k ≡ Some q → slice_get (with_new seen ps) k ≡ Some q
new_keeps seen [] k q there = there
new_keeps seen (p ∷ ps) k q there = new_keeps (with_one seen p) ps k q (one_keeps seen p k q there)

new_has : (seen ps : Pairs) (k : ℕ) (q : ℕ × ℕ) → slice_get ps k ≡ Some q → Has q (with_new seen ps)
new_has seen [] k q there = absurd (let bad : None ≡ Some q = there in cc)
new_has seen (p ∷ ps) zero q there =
    let one = one_has seen p in
    (one.0, new_keeps (with_one seen p) ps one.0 q (one.1 ∙ there))
new_has seen (p ∷ ps) (suc k) q there = new_has (with_one seen p) ps k q there

new_comes : (seen ps : Pairs) (k : ℕ) (q : ℕ × ℕ) → slice_get (with_new seen ps) k ≡ Some q → (slice_get seen k ≡ Some q) ⊎ ((length seen ≤ k) × Has q ps)
new_comes seen [] k q there = inl there
new_comes seen (p ∷ ps) k q there =
    elim (new_comes (with_one seen p) ps k q there) as (λ z. (slice_get seen k ≡ Some q) ⊎ ((length seen ≤ k) × Has q (p ∷ ps))) [
      | inl old ↦ elim (one_comes seen p k q old) as (λ z. (slice_get seen k ≡ Some q) ⊎ ((length seen ≤ k) × Has q (p ∷ ps))) [ inl older ↦ inl older | inr new ↦ inr (new.0, (zero, ap Some new.1)) ]
      | inr new ↦ inr (omega (arith, new.0, one_longer seen p), (suc new.1.0, new.1.1))
    ]

-- ---- the pairs that were seen

-- what the pair leads to was seen too
abbrev pub IsDone : TypesTy → Pairs → ℕ × ℕ → Type 0
IsDone types seen q = (ps : Pairs) × (next_pairs types q ≡ Some ps) × ((r : ℕ × ℕ) → Has r ps → Has r seen)

pub record Seen (types : TypesTy) (first seen : Pairs) (i : ℕ) : Type 0 where
  -- the pair at k is reached in k steps at most: a difference that is found from there is found from the start
  pub reached : (k n : ℕ) (q : ℕ × ℕ) → slice_get seen k ≡ Some q → agrees types n q ≡ false → each (agrees types (n + k)) first ≡ false
  pub closed : (k : ℕ) (q : ℕ × ℕ) → slice_get seen k ≡ Some q → (i ≤ k) ⊎ IsDone types seen q
  pub whole : (q : ℕ × ℕ) → Has q first → Has q seen

pub seen_first : (types : TypesTy) (first : Pairs) → Seen types first first 0
seen_first types first = record {
  reached = λ k n q there fails. each_false (agrees types (n + k)) first k q there (agrees_up types n (n + k) q (omega arith) fails);
  closed = λ k q there. inl (omega arith);
  whole = λ q h. h;
}

more_done : (types : TypesTy) (seen found : Pairs) (q : ℕ × ℕ) → IsDone types seen q → IsDone types (with_new seen found) q
more_done types seen found q done = (done.0, done.1, λ r h. let z = done.2 r h in (z.0, new_keeps seen found z.0 r z.1))

pub seen_next : (types : TypesTy) (first seen : Pairs) (i : ℕ) (p : ℕ × ℕ) (found : Pairs) → slice_get seen i ≡ Some p → next_pairs types p ≡ Some found → Seen types first seen i → Seen types first (with_new seen found) (i + 1)
seen_next types first seen i p found here next w = record {
  reached = λ k n q there fails. elim (new_comes seen found k q there) as (λ z. each (agrees types (n + k)) first ≡ false) [
    | inl old ↦ w.reached k n q old fails
    | inr new ↦
        let below : i < length seen = slice_get_within seen i p here in
        let differs : agrees types (suc n) p ≡ false = ap (each_in (agrees types n)) next ∙ each_false (agrees types n) found new.1.0 q new.1.1 fails in
        each_up types (suc n + i) (n + k) first (omega (arith, new.0)) (w.reached i (suc n) p here differs)
  ];
  closed = λ k q there. elim (new_comes seen found k q there) as (λ z. (i + 1 ≤ k) ⊎ IsDone types (with_new seen found) q) [
    | inl old ↦ elim (w.closed k q old) as (λ z. (i + 1 ≤ k) ⊎ IsDone types (with_new seen found) q) [
      | inl le ↦ elim (eq-or-lt_of_le le) as (λ z. (i + 1 ≤ k) ⊎ IsDone types (with_new seen found) q) [
        | inl same ↦
            let this : q ≡ p = some_is q p (sym old ∙ ap (slice_get seen) (sym same) ∙ here) in
            inr (found, ap (next_pairs types) this ∙ next, λ r h. new_has seen found h.0 r h.1)
        | inr lt ↦ inl (omega arith)
      ]
      | inr done ↦ inr (more_done types seen found q done)
    ]
    | inr new ↦ let below : i < length seen = slice_get_within seen i p here in inl (omega (arith, new.0))
  ];
  whole = λ q h. let z = w.whole q h in (z.0, new_keeps seen found z.0 q z.1);
}

settled : (types : TypesTy) (first seen : Pairs) (i : ℕ) → Seen types first seen i → length seen ≤ i → (n k : ℕ) (q : ℕ × ℕ) → slice_get seen k ≡ Some q → agrees types n q ≡ true
settled types first seen i w past zero k q there = refl
settled types first seen i w past (suc n) k q there =
    elim (w.closed k q there) as (λ z. agrees types (suc n) q ≡ true) [
      | inl le ↦ let below : k < length seen = slice_get_within seen k q there in absurd (omega arith)
      | inr done ↦ ap (each_in (agrees types n)) done.1 ∙ each_true (agrees types n) done.0 (λ j r e. let z = done.2 r (j, e) in settled types first seen i w past n z.0 r z.1)
    ]

-- all was looked at, and no difference was found
pub all_agree : (types : TypesTy) (first seen : Pairs) (i : ℕ) → Seen types first seen i → length seen ≤ i → (n : ℕ) → each (agrees types n) first ≡ true
all_agree types first seen i w past n = each_true (agrees types n) first (λ k p there. let z = w.whole p (k, there) in settled types first seen i w past n z.0 p z.1)

-- a difference was found
pub some_differ : (types : TypesTy) (first seen : Pairs) (i : ℕ) (p : ℕ × ℕ) → slice_get seen i ≡ Some p → next_pairs types p ≡ None → Seen types first seen i → (n : ℕ) → i < n → each (agrees types n) first ≡ false
some_differ types first seen i p here none w n below =
    let differs : agrees types (suc zero) p ≡ false = ap (each_in (agrees types zero)) none in
    each_up types (suc zero + i) n first (omega arith) (w.reached i (suc zero) p here differs)
