-- How marked tokens are seen, and what stops an outcome.
use Rattle.std.proofs.Common.{◌≡◌, ℕ, zero, suc, ◌+◌, List, [], ◌∷◌, ◌++◌, length, map, reverse, drop, refl, sym, ap, ◌∙◌, subst, Bool, true, false, Option, Some, None, option_map, Result, Bor}
use Rattle.std.specs.Prelude.{if◌then◌else◌, ◌==◌}
use Rattle.std.proofs.lemmas.List.{map-append, reverse-append}
use Rattle.c65_base.specs.declared.names.Name.{Name}
use Rattle.c65_base.specs.declared.refusal.Refusal.{Refusal}
use Rattle.c65_base.specs.declared.refusal.Refusal.TheVariants as refusals
use Rattle.c65_lex.specs.declared.token.PpToken.{PpToken}
use Rattle.c65_macro.specs.Table.{same_name, is_name_kind}
use Rattle.c65_macro.specs.declared.sets.Node.{Node}
use Rattle.c65_macro.specs.declared.marked.Marked.{Marked}
use Rattle.c65_macro.specs.Items.{Outcome, unfinished, faulty, done, ◌>>=◌, weight, put_count, tokens, with_space}
use Rattle.c65_macro.specs.Fill.{argument, argument_of}
use Rattle.c65_macro.specs.Uses.{is_blank, is_fit}
use Rattle.c65_macro.specs.Answered.{Stops, Gives}
use Rattle.c65_macro.specs.Views.{item_of, items_of, lists_of, tokens_of, put_of}

-- what stops the first part stops the whole
pub stops_bind : {A B : Type 0} (e : Refusal) (y : Outcome A) (f : List (List ℕ) → A → Outcome B) → Stops e y → Stops e (y >>= f)
stops_bind refusals.OutOfMemory y f h = tt
stops_bind (refusals.At code pos) y f h = ap (λ z. z >>= f) h
stops_bind (refusals.TooLarge limit value) y f h = ap (λ z. z >>= f) h
stops_bind _ y f h = absurd h

-- what stops a part stops what is equal to it
pub stops_same : {A : Type 0} (e : Refusal) (y z : Outcome A) → y ≡ z → Stops e z → Stops e y
stops_same {A} e y z h s = let P : Outcome A → Type 0 = λ w. Stops e w in subst P (sym h) s

-- the second part goes on from the value of the first
pub gives_bind : {X A B : Type 0} (view : X → B) (r : Result X Refusal) (known names : List (List ℕ)) (y : Outcome A) (x : A) (f : List (List ℕ) → A → Outcome B) → y ≡ done known x → Gives view r names (f known x) → Gives view r names (y >>= f)
gives_bind {X} {A} {B} view r known names y x f h g = let P : Outcome B → Type 0 = λ z. Gives view r names z in subst P (sym (ap (λ z. z >>= f) h)) g

pub gives_same : {X A : Type 0} (view : X → A) (r : Result X Refusal) (names : List (List ℕ)) (y z : Outcome A) → y ≡ z → Gives view r names z → Gives view r names y
gives_same {X} {A} view r names y z h g = let P : Outcome A → Type 0 = λ w. Gives view r names w in subst P (sym h) g

pub bind_assoc : {A B C : Type 0} (a : Outcome A) (f : List (List ℕ) → A → Outcome B) (g : List (List ℕ) → B → Outcome C) → ((a >>= f) >>= g) ≡ (a >>= λ names x. f names x >>= g)
bind_assoc unfinished f g = refl
bind_assoc (faulty e) f g = refl
bind_assoc (done names x) f g = refl

pub bind_done : {A : Type 0} (a : Outcome A) → (a >>= λ names x. done names x) ≡ a
bind_done unfinished = refl
bind_done (faulty e) = refl
bind_done (done names x) = refl

-- tokens of a list are seen one by one
pub items_push : (nodes : List Node) (ms : List Marked) (m : Marked) → items_of nodes (ms ++ m ∷ []) ≡ items_of nodes ms ++ item_of nodes m ∷ []
items_push nodes ms m = map-append (item_of nodes) ms (m ∷ [])

pub items_append : (nodes : List Node) (ms ns : List Marked) → items_of nodes (ms ++ ns) ≡ items_of nodes ms ++ items_of nodes ns
items_append nodes ms ns = map-append (item_of nodes) ms ns

pub tokens_items : (nodes : List Node) (ms : List Marked) → tokens (items_of nodes ms) ≡ tokens_of ms
tokens_items nodes [] = refl
tokens_items nodes (m ∷ ms) = ap (λ ts. m.token ∷ ts) (tokens_items nodes ms)

pub put_seen : (nodes : List Node) (ms : List Marked) → put_count (items_of nodes ms) ≡ put_of ms
put_seen nodes [] = refl
put_seen nodes (m ∷ ms) = ap (λ n. (if m.put then weight m.token else 0) + n) (put_seen nodes ms)

pub with_space_seen : (nodes : List Node) (m : Marked) (ms : List Marked) (space : Bool) → items_of nodes (record m { token = record m.token { space = space } } ∷ ms) ≡ with_space space (items_of nodes (m ∷ ms))
with_space_seen nodes m ms space = refl

-- an argument is the same however arguments are seen
pub argument_map : {A B : Type 0} (view : A → B) (ps : List Name) (args : List A) (n : Name) → argument ps (map view args) n ≡ option_map view (argument ps args n)
argument_map view [] args n = refl
argument_map view (p ∷ ps) [] n = refl
argument_map view (p ∷ ps) (a ∷ args) n = by (same_name p n) (argument_map view ps args n)
  where
    by : (b : Bool) → argument ps (map view args) n ≡ option_map view (argument ps args n) → (if b then Some (view a) else argument ps (map view args) n) ≡ option_map view (if b then Some a else argument ps args n)
    by true ih = refl
    by false ih = ih

pub argument_of_map : {A B : Type 0} (view : A → B) (ps : Option (List Name)) (args : List A) (t : PpToken) → argument_of ps (map view args) t ≡ option_map view (argument_of ps args t)
argument_of_map view None args t = refl
argument_of_map view (Some ps) args t = by (is_name_kind t.kind)
  where
    by : (b : Bool) → (if b then argument ps (map view args) t.spelling else None) ≡ option_map view (if b then argument ps args t.spelling else None)
    by true = argument_map view ps args t.spelling
    by false = refl

blank_map : {A B : Type 0} (view : A → B) (args : List (List A)) → is_blank (map (map view) args) ≡ is_blank args
blank_map view [] = refl
blank_map view ([] ∷ []) = refl
blank_map view ([] ∷ b ∷ args) = refl
blank_map view ((x ∷ xs) ∷ args) = refl

length_map : {A B : Type 0} (view : A → B) (xs : List A) → length (map view xs) ≡ length xs
length_map view [] = refl
length_map view (x ∷ xs) = ap suc (length_map view xs)

pub fit_map : {A B : Type 0} (view : A → B) (ps : List Name) (args : List (List A)) → is_fit ps (map (map view) args) ≡ is_fit ps args
fit_map view [] args = blank_map view args
fit_map view (p ∷ ps) args = ap (λ (n : ℕ). length (p ∷ ps) == n) (length_map (map view) args)

pub drop_map : {A B : Type 0} (view : A → B) (k : ℕ) (xs : List A) → drop k (map view xs) ≡ map view (drop k xs)
drop_map view zero xs = refl
drop_map view (suc k) [] = refl
drop_map view (suc k) (x ∷ xs) = drop_map view k xs

pub reverse_push : {A : Type 0} (xs : List A) (x : A) → reverse (xs ++ x ∷ []) ≡ x ∷ reverse xs
reverse_push xs x = reverse-append xs (x ∷ [])

-- an argument as it is seen
pub seen_argument : (nodes : List Node) (ps : Option (List Name)) (args : List (List Marked)) (t : PpToken) (r : Option (Bor (List Marked))) → option_map (λ (a : Bor (List Marked)). a.now) r ≡ argument_of ps args t
    → argument_of ps (lists_of nodes args) t ≡ option_map (λ (a : Bor (List Marked)). items_of nodes a.now) r
seen_argument nodes ps args t r h = argument_of_map (items_of nodes) ps args t ∙ ap (λ o. option_map (items_of nodes) o) (sym h) ∙ by r
  where
    by : (r : Option (Bor (List Marked))) → option_map (items_of nodes) (option_map (λ (a : Bor (List Marked)). a.now) r) ≡ option_map (λ (a : Bor (List Marked)). items_of nodes a.now) r
    by None = refl
    by (Some a) = refl
