-- Answers that are decided once, one behind another.
use Rattle.std.proofs.Common.{◌≡◌, ◌∙◌, ℕ, List, Bool, true, false, Result, Ok, Err, inl, inr, refl, ap, sym, subst}
use Rattle.c65_base.specs.declared.refusal.Refusal.{Refusal}
use Rattle.c65_base.specs.declared.refusal.Refusal.TheVariants as refusals
use Rattle.c65_base.specs.Answers.{Fault, at, large, Fails, Gives}
use Rattle.c65_lex.specs.declared.token.PpToken.{PpToken}
use Rattle.c65_macro.specs.Answered
use Rattle.c65_macro.specs.Expand.{Expands, Faults, Refuses}
use Rattle.c65_macro.specs.Items.{Outcome, faulty, done}
use Rattle.c65_macro.specs.Table.{Table}
use Rattle.c65_macro.proofs.Fuel.{one_expansion, no_fault, one_fault}
use Rattle.c65_ppline.specs.Expansions.{ReadsExpansion}
use Rattle.c65_ppdir.specs.Progress.{known_then, expansions}
use Rattle.c65_ppline.specs.Relations.{Answers, of, just, by_test, ◌then◌, IsFree}
use Rattle.c65_ppdir_law.specs.Once.{IsFinal, AreAlike, HasOne}

pub is_value : {A E : Type 0} (a b : A) → (let x : Result A E = Ok a in x ≡ Ok b) → a ≡ b
is_value a b h = cc

pub no_value : {A E : Type 0} (a : A) (e : E) → (let x : Result A E = Ok a in x ≡ Err e) → ⊥
no_value a e h = cc

pub is_error : {A E : Type 0} (a b : E) → (let x : Result A E = Err a in x ≡ Err b) → a ≡ b
is_error a b h = cc

pub pair_is : {A E : Type 0} (a b : A) (k l : List (List ℕ)) → a ≡ b → k ≡ l → (let x : Result (A × List (List ℕ)) E = Ok (a, k) in x ≡ Ok (b, l))
pair_is a b k l e f = cc

pub free_is_not_final : (e : Refusal) → IsFree e → IsFinal e → ⊥
free_is_not_final refusals.OutOfMemory h k = k
free_is_not_final refusals.ReadFault h k = k
free_is_not_final _ h k = absurd h

pub one_just : {A : Type 0} (a : Result A Refusal) → HasOne (just a)
one_just a y z d e p q = p ∙ sym q

pub none_alike : {A : Type 0} (Q : Answers A) → AreAlike (λ z. ⊥) Q
none_alike Q y z d e p q = absurd p

pub alike_none : {A : Type 0} (P : Answers A) → AreAlike P (λ z. ⊥)
alike_none P y z d e p q = absurd q

-- behind the same answer
pub alike_then : {A B : Type 0} (P : Answers A) (f g : A → Answers B) → HasOne P → ((a : A) → AreAlike (f a) (g a)) → AreAlike (P then f) (P then g)
alike_then P f g p q (Ok x) (Ok y) d e (a, h, k) (b, i, l) = q b (Ok x) (Ok y) d e (subst (λ c. f c (Ok x)) (is_value a b (p (Ok a) (Ok b) tt tt h i)) k) l
alike_then P f g p q (Ok x) (Err y) d e (a, h, k) (inl i) = absurd (no_value a y (p (Ok a) (Err y) tt e h i))
alike_then P f g p q (Ok x) (Err y) d e (a, h, k) (inr (b, i, l)) = q b (Ok x) (Err y) d e (subst (λ c. f c (Ok x)) (is_value a b (p (Ok a) (Ok b) tt tt h i)) k) l
alike_then P f g p q (Err x) (Ok y) d e (inl h) (b, i, l) = absurd (no_value b x (sym (p (Err x) (Ok b) d tt h i)))
alike_then P f g p q (Err x) (Ok y) d e (inr (a, h, k)) (b, i, l) = q b (Err x) (Ok y) d e (subst (λ c. f c (Err x)) (is_value a b (p (Ok a) (Ok b) tt tt h i)) k) l
alike_then P f g p q (Err x) (Err y) d e (inl h) (inl i) = ap (λ (r : Refusal). Err r) (is_error x y (p (Err x) (Err y) d e h i))
alike_then P f g p q (Err x) (Err y) d e (inl h) (inr (b, i, l)) = absurd (no_value b x (sym (p (Err x) (Ok b) d tt h i)))
alike_then P f g p q (Err x) (Err y) d e (inr (a, h, k)) (inl i) = absurd (no_value a y (p (Ok a) (Err y) tt e h i))
alike_then P f g p q (Err x) (Err y) d e (inr (a, h, k)) (inr (b, i, l)) = q b (Err x) (Err y) d e (subst (λ c. f c (Err x)) (is_value a b (p (Ok a) (Ok b) tt tt h i)) k) l

pub one_then : {A B : Type 0} (P : Answers A) (f : A → Answers B) → HasOne P → ((a : A) → HasOne (f a)) → HasOne (P then f)
one_then P f p q = alike_then P f f p q

pub one_behind : {A B : Type 0} (P : Answers A) (f : A → Result B Refusal) → HasOne P → HasOne (P then λ a. just (f a))
one_behind P f p = one_then P (λ a. just (f a)) p (λ a. one_just (f a))

pub one_test : {A : Type 0} (b : Bool) (P Q : Answers A) → HasOne P → HasOne Q → HasOne (by_test b P Q)
one_test true P Q p q = p
one_test false P Q p q = q

-- the refusal of a fault
abbrev pub told : Fault → Refusal
told (at code place) = refusals.At code place
told (large limit value) = refusals.TooLarge limit value

pub fails_by : {Y : Type 0} (e : Refusal) (y : Result Y Fault) → IsFinal e → Fails e y → (f : Fault) × (y ≡ Err f) × (e ≡ told f)
fails_by refusals.OutOfMemory y d h = absurd d
fails_by (refusals.At code place) y d h = (at code place, h, refl)
fails_by (refusals.TooLarge limit value) y d h = (large limit value, h, refl)
fails_by _ y d h = absurd h

pub refuses_by : (e : Refusal) (table : Table) (names : List (List ℕ)) (ts : List PpToken) → IsFinal e → Refuses e table names ts → (f : Fault) × Faults table names ts f × (e ≡ told f)
refuses_by refusals.OutOfMemory table names ts d h = absurd d
refuses_by (refusals.At code place) table names ts d h = (at code place, h, refl)
refuses_by (refusals.TooLarge limit value) table names ts d h = (large limit value, h, refl)
refuses_by _ table names ts d h = absurd h

pub stops_by : {A : Type 0} (e : Refusal) (y : Outcome A) → IsFinal e → Answered.Stops e y → (f : Fault) × (y ≡ faulty f) × (e ≡ told f)
stops_by refusals.OutOfMemory y d h = absurd d
stops_by (refusals.At code place) y d h = (at code place, h, refl)
stops_by (refusals.TooLarge limit value) y d h = (large limit value, h, refl)
stops_by _ y d h = absurd h

fails_value : {Y : Type 0} (a : Y) (e : Refusal) (y : Result Y Fault) → IsFinal e → y ≡ Ok a → Fails e y → ⊥
fails_value a e y d h k = let f = fails_by e y d k in no_value a f.0 (sym h ∙ f.1)

fails_once : {Y : Type 0} (e g : Refusal) (y : Result Y Fault) → IsFinal e → IsFinal g → Fails e y → Fails g y → e ≡ g
fails_once e g y d d' h k =
    let f = fails_by e y d h in
    let f' = fails_by g y d' k in
    f.2 ∙ (ap (λ (x : Fault). told x) (is_error f.0 f'.0 (sym f.1 ∙ f'.1)) ∙ sym f'.2)

-- a definition's value or fault
pub one_of : {A : Type 0} (y : Result A Fault) → HasOne (of y)
one_of y (Ok a) (Ok b) d e p q = ap (λ x. Ok x) (is_value a b (sym p ∙ q))
one_of y (Ok a) (Err g) d e p q = absurd (fails_value a g y e p q)
one_of y (Err g) (Ok b) d e p q = absurd (fails_value b g y d q p)
one_of y (Err g) (Err h) d e p q = ap (λ (x : Refusal). Err x) (fails_once g h y d e p q)

-- the same, with spellings that stay
pub one_given : {A : Type 0} (y : Result A Fault) (names : List (List ℕ)) → HasOne (known_then (λ known r. Gives (λ (x : A). x) r y × (known ≡ names)))
one_given y names (Ok (a, k)) (Ok (b, l)) d e (p, h) (q, i) = pair_is a b k l (is_value a b (sym p ∙ q)) (h ∙ sym i)
one_given y names (Ok (a, k)) (Err g) d e (p, h) (l, (q, i)) = absurd (fails_value a g y e p q)
one_given y names (Err g) (Ok (b, l)) d e (k, (p, h)) (q, i) = absurd (fails_value b g y d q p)
one_given y names (Err g) (Err g') d e (k, (p, h)) (l, (q, i)) = ap (λ (x : Refusal). Err x) (fails_once g g' y d e p q)

pub one_failing : {A : Type 0} (f : Fault) → HasOne (known_then (λ known r. Gives {Y = A} (λ (x : A). x) r (Err f)))
one_failing f (Ok (a, k)) z d e p q = absurd (no_value a f (sym p))
one_failing f (Err g) (Ok (b, l)) d e p q = absurd (no_value b f (sym q))
one_failing f (Err g) (Err g') d e (k, p) (l, q) = ap (λ (x : Refusal). Err x) (fails_once g g' (Err f) d e p q)

-- an outcome with its spellings
outcome_value : {A : Type 0} (a b : A) (k l : List (List ℕ)) (y : Outcome A) → y ≡ done k a → y ≡ done l b → (a ≡ b) × (k ≡ l)
outcome_value a b k l y p q = let e : done k a ≡ done l b = sym p ∙ q in (cc, cc)

outcome_fault : {A : Type 0} (a : A) (k : List (List ℕ)) (f : Fault) (y : Outcome A) → y ≡ done k a → y ≡ faulty f → ⊥
outcome_fault a k f y p q = let e : done k a ≡ faulty f = sym p ∙ q in cc

outcome_faults : {A : Type 0} (f g : Fault) (y : Outcome A) → y ≡ faulty f → y ≡ faulty g → f ≡ g
outcome_faults {A} f g y p q = let e : (let x : Outcome A = faulty f in x ≡ faulty g) = sym p ∙ q in cc

pub one_outcome : {A : Type 0} (y : Outcome A) → HasOne (known_then (λ known r. Answered.Gives (λ (x : A). x) r known y))
one_outcome y (Ok (a, k)) (Ok (b, l)) d e p q = let s = outcome_value a b k l y p q in pair_is a b k l s.0 s.1
one_outcome y (Ok (a, k)) (Err g) d e p (l, q) = let f = stops_by g y e q in absurd (outcome_fault a k f.0 y p f.1)
one_outcome y (Err g) (Ok (b, l)) d e (k, p) q = let f = stops_by g y d p in absurd (outcome_fault b l f.0 y q f.1)
one_outcome y (Err g) (Err h) d e (k, p) (l, q) =
    let f = stops_by g y d p in
    let f' = stops_by h y e q in
    ap (λ (x : Refusal). Err x) (f.2 ∙ (ap (λ (x : Fault). told x) (outcome_faults f.0 f'.0 y f.1 f'.1) ∙ sym f'.2))

-- the expansion of a list
refuses_once : (g h : Refusal) (table : Table) (names : List (List ℕ)) (ts : List PpToken) → IsFinal g → IsFinal h → Refuses g table names ts → Refuses h table names ts → g ≡ h
refuses_once g h table names ts d e p q =
    let f = refuses_by g table names ts d p in
    let f' = refuses_by h table names ts e q in
    f.2 ∙ (ap (λ (x : Fault). told x) (one_fault table names ts f.0 f'.0 f.1 f'.1) ∙ sym f'.2)

pub one_expanded : (table : Table) (names : List (List ℕ)) (ts : List PpToken) → HasOne (expansions table names ts)
one_expanded table names ts (Ok (a, k)) (Ok (b, l)) d e p q = let s = one_expansion table names ts a b k l p q in pair_is a b k l s.0 s.1
one_expanded table names ts (Ok (a, k)) (Err g) d e p q = let f = refuses_by g table names ts e q in absurd (no_fault table names ts a k f.0 p f.1)
one_expanded table names ts (Err g) (Ok (b, l)) d e p q = let f = refuses_by g table names ts d p in absurd (no_fault table names ts b l f.0 q f.1)
one_expanded table names ts (Err g) (Err h) d e p q = ap (λ (x : Refusal). Err x) (refuses_once g h table names ts d e p q)

-- what is read of an expansion
read_alike : {A : Type 0} (read : List (List ℕ) → List PpToken → Result A Fault) (table : Table) (names : List (List ℕ)) (ts a b : List PpToken) (k l : List (List ℕ)) → Expands table names ts a k → Expands table names ts b l → read k a ≡ read l b
read_alike read table names ts a b k l p q =
    let s = one_expansion table names ts a b k l p q in
    ap (λ (xs : List PpToken). read k xs) s.0 ∙ ap (λ (ns : List (List ℕ)). read ns b) s.1

pub one_read : {A : Type 0} (read : List (List ℕ) → List PpToken → Result A Fault) (table : Table) (names : List (List ℕ)) (ts : List PpToken) → HasOne (known_then (ReadsExpansion (λ (x : A). x) read table names ts))
one_read read table names ts (Ok (a, k)) (Ok (b, l)) d e (o, x, p) (o', x', q) =
    pair_is a b k l (is_value a b (sym p ∙ (read_alike read table names ts o o' k l x x' ∙ q))) (one_expansion table names ts o o' k l x x').1
one_read read table names ts (Ok (a, k)) (Err g) d e (o, x, p) (l, inl q) = let f = refuses_by g table names ts e q in absurd (no_fault table names ts o k f.0 x f.1)
one_read read table names ts (Ok (a, k)) (Err g) d e (o, x, p) (l, inr (o', n, x', q)) = absurd (fails_value a g (read n o') e (sym (read_alike read table names ts o o' k n x x') ∙ p) q)
one_read read table names ts (Err g) (Ok (b, l)) d e (k, inl p) (o, x, q) = let f = refuses_by g table names ts d p in absurd (no_fault table names ts o l f.0 x f.1)
one_read read table names ts (Err g) (Ok (b, l)) d e (k, inr (o, n, x, p)) (o', x', q) = absurd (fails_value b g (read n o) d (read_alike read table names ts o o' n l x x' ∙ q) p)
one_read read table names ts (Err g) (Err h) d e (k, inl p) (l, inl q) = ap (λ (x : Refusal). Err x) (refuses_once g h table names ts d e p q)
one_read read table names ts (Err g) (Err h) d e (k, inl p) (l, inr (o, n, x, q)) = let f = refuses_by g table names ts d p in absurd (no_fault table names ts o n f.0 x f.1)
one_read read table names ts (Err g) (Err h) d e (k, inr (o, n, x, p)) (l, inl q) = let f = refuses_by h table names ts e q in absurd (no_fault table names ts o n f.0 x f.1)
one_read read table names ts (Err g) (Err h) d e (k, inr (o, n, x, p)) (l, inr (o', n', x', q)) =
    ap (λ (r : Refusal). Err r) (fails_once g h (read n o) d e p (subst (λ y. Fails h y) (sym (read_alike read table names ts o o' n n' x x')) q))
