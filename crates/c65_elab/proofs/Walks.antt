-- A walk over a list, item by item: it goes on where it was, and its first fault is the fault of the whole.
use Rattle.std.proofs.Common.{◌≡◌, ℕ, ◌+◌, ◌<◌, ◌≤◌, List, [], ◌∷◌, ◌++◌, length, take, drop, get_or, refl, sym, ap, ◌∙◌, subst, arith, append_assoc, Ok, Err}
use Rattle.std.specs.Prelude.{Result}
use Rattle.std.proofs.lemmas.List.{append-nil, take_more, take_all, take-append-drop}
use Rattle.c65_base.specs.declared.refusal.Refusal.{Refusal}
use Rattle.c65_base.specs.declared.refusal.Refusal.TheVariants as refusals
use Rattle.c65_base.specs.Answers.{Fault, Fails, Gives, ◌>>=◌}
use Rattle.c65_elab_scope.specs.Scopes.{ScopeTy}
use Rattle.c65_elab.specs.Typing.{beside}

-- where a part fails, the whole does
pub fails_bind : {A B : Type 0} (e : Refusal) (r : Result A Fault) (f : A → Result B Fault) → Fails e r → Fails e (r >>= f)
fails_bind refusals.OutOfMemory r f h = tt
fails_bind (refusals.Usage word) r f h = absurd h
fails_bind (refusals.Missing path) r f h = absurd h
fails_bind refusals.ReadFault r f h = absurd h
fails_bind refusals.WriteFault r f h = absurd h
fails_bind (refusals.Source code file line) r f h = absurd h
fails_bind (refusals.At c p) r f h = ap (λ x. x >>= f) h
fails_bind (refusals.TooLarge l v) r f h = ap (λ x. x >>= f) h
fails_bind (refusals.BadImage offset) r f h = absurd h
fails_bind (refusals.Link kind name) r f h = absurd h
fails_bind (refusals.HardStack pc) r f h = absurd h
fails_bind (refusals.Limit count) r f h = absurd h
fails_bind (refusals.Illegal pc) r f h = absurd h

-- a part that is given, and what follows it
pub then_ok : {A B : Type 0} (r : Result A Fault) (a : A) (f : A → Result B Fault) (y : Result B Fault) → r ≡ Ok a → f a ≡ y → (r >>= f) ≡ y
then_ok r a f y e h = ap (λ x. x >>= f) e ∙ h

pub then_fails : {A B : Type 0} (e : Refusal) (r : Result A Fault) (a : A) (f : A → Result B Fault) → r ≡ Ok a → Fails e (f a) → Fails e (r >>= f)
then_fails e r a f is h = subst (Fails e) (sym (ap (λ x. x >>= f) is)) h

-- the walk of a list with one more item goes one step from that of the list
pub record Goes {A S : Type 0} (walk : List A → Result S Fault) (step : A → S → Result S Fault) : Type 0 where
  pub on : (xs : List A) (x : A) → walk (xs ++ x ∷ []) ≡ (walk xs >>= step x)

taken : {A S : Type 0} (walk : List A → Result S Fault) (step : A → S → Result S Fault) (goes : Goes walk step) (xs : List A) (i : ℕ) (x : A) (s : S) → i < length xs → x ≡ get_or xs i x → walk (take i xs) ≡ Ok s → walk (take (i + 1) xs) ≡ step x s
taken walk step goes xs i x s below is so_far =
    ap walk (take_more xs i x below) ∙ ap (λ y. walk (take i xs ++ y ∷ [])) (sym is) ∙ goes.on (take i xs) x ∙ ap (λ r. r >>= step x) so_far

pub next : {A S : Type 0} (walk : List A → Result S Fault) (step : A → S → Result S Fault) (goes : Goes walk step) (xs : List A) (i : ℕ) (x : A) (s u : S) → i < length xs → x ≡ get_or xs i x → walk (take i xs) ≡ Ok s → step x s ≡ Ok u → walk (take (i + 1) xs) ≡ Ok u
next walk step goes xs i x s u below is so_far done = taken walk step goes xs i x s below is so_far ∙ done

stays : {A S : Type 0} (walk : List A → Result S Fault) (step : A → S → Result S Fault) (goes : Goes walk step) (e : Refusal) (xs ys : List A) → Fails e (walk xs) → Fails e (walk (xs ++ ys))
stays walk step goes e xs [] h = subst (λ zs. Fails e (walk zs)) (sym (append-nil xs)) h
stays walk step goes e xs (y ∷ ys) h =
    subst (λ zs. Fails e (walk zs)) (append_assoc xs (y ∷ []) ys) (stays walk step goes e (xs ++ y ∷ []) ys (subst (Fails e) (sym (goes.on xs y)) (fails_bind e (walk xs) (step y) h)))

pub refused : {A S : Type 0} (walk : List A → Result S Fault) (step : A → S → Result S Fault) (goes : Goes walk step) (e : Refusal) (xs : List A) (i : ℕ) (x : A) (s : S) → i < length xs → x ≡ get_or xs i x → walk (take i xs) ≡ Ok s → Fails e (step x s) → Fails e (walk xs)
refused walk step goes e xs i x s below is so_far h =
    subst (λ zs. Fails e (walk zs)) (take-append-drop (i + 1) xs) (stays walk step goes e (take (i + 1) xs) (drop (i + 1) xs) (subst (Fails e) (sym (taken walk step goes xs i x s below is so_far)) h))

pub whole : {A S : Type 0} (walk : List A → Result S Fault) (xs : List A) (i : ℕ) (s : S) → length xs ≤ i → walk (take i xs) ≡ Ok s → walk xs ≡ Ok s
whole walk xs i s past so_far = ap walk (sym (take_all i xs past)) ∙ so_far

-- an answer beside a scope
pub gives_beside : {X Y : Type 0} (view : X → Y) (s : ScopeTy) (r : Result X Refusal) (y : Result Y Fault) → Gives view r y → Gives (λ x. (view x, s)) r (beside s y)
gives_beside view s (Ok x) y h = ap (λ z. beside s z) h
gives_beside view s (Err e) y h = fails_bind e y (λ a. Ok (a, s)) h

pub gives_then : {A X Y : Type 0} (view : X → Y) (given : Result X Refusal) (r : Result A Fault) (a : A) (f : A → Result Y Fault) → r ≡ Ok a → Gives view given (f a) → Gives view given (r >>= f)
gives_then view given r a f is h = subst (Gives view given) (sym (ap (λ x. x >>= f) is)) h

-- steps that follow one another, in two groupings
pub regrouped : {A B C : Type 0} (r : Result A Fault) (f : A → Result B Fault) (g : B → Result C Fault) (h : A → Result C Fault) → ((a : A) → (f a >>= g) ≡ h a) → ((r >>= f) >>= g) ≡ (r >>= h)
regrouped (Ok a) f g h each = each a
regrouped (Err e) f g h each = refl

pub each_step : {A B : Type 0} (r : Result A Fault) (f g : A → Result B Fault) → ((a : A) → f a ≡ g a) → (r >>= f) ≡ (r >>= g)
each_step (Ok a) f g same = same a
each_step (Err e) f g same = refl
