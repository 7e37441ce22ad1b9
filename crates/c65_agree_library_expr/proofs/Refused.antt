-- A function of the library with the cells of a structure or union as an argument has no meaning.
use Rattle.std.proofs.Common.{◌≡◌, ◌⊎◌, inl, inr, ℕ, ℤ, pos, negsuc, List, [], ◌∷◌, refl, sym, ap, subst}
use Rattle.std.specs.Prelude.{Result, Ok, Err}
use Rattle.c65_base.specs.declared.library.Library.{Library}
use Rattle.c65_base.specs.declared.library.Library.TheVariants.{Putchar, Getchar, Puts, Exit, Memcpy, Memset, Strcmp, Strcpy, Strlen, Printf}
use Rattle.c65_meaning.specs.Why.{Why, Unfit, ◌>>=◌}
use Rattle.c65_meaning.specs.Operators.{unusable}
use Rattle.c65_meaning.specs.Store.{Cell, Store, Value, Whole, Null, Place, Opaque, Cells, NoValue}
use Rattle.c65_meaning.specs.State.{Scene}
use Rattle.c65_meaning.specs.Library.{Effect, not_pointing, text_at, copied_area, compared_texts, number_in, count_in, effect_of}
use Rattle.c65_agree_library_expr.proofs.Words.{IsWord, AreWords}

abbrev pub Fails : {A : Type 0} → Result A Why → Type 0
Fails r = (why : Why) × (r ≡ Err why)

bind_fails : {A B : Type 0} (r : Result A Why) (k : A → Result B Why) → Fails r → Fails (r >>= k)
bind_fails r k h = (h.0, ap (λ x. x >>= k) h.1)

bind_then : {A B : Type 0} (r : Result A Why) (k : A → Result B Why) → ((x : A) → Fails (k x)) → Fails (r >>= k)
bind_then (Err why) k h = (why, refl)
bind_then (Ok x) k h = h x

number_fails : (v : Value) (k : ℤ → Result Effect Why) → ((z : ℤ) → Fails (k z)) → Fails (number_in v k)
number_fails (Whole z) k h = h z
number_fails Null k h = (unusable Null, refl)
number_fails (Place b o) k h = (unusable (Place b o), refl)
number_fails Opaque k h = (unusable Opaque, refl)
number_fails (Cells xs) k h = (unusable (Cells xs), refl)
number_fails NoValue k h = (unusable NoValue, refl)

count_fails : (v : Value) (k : ℕ → Result Effect Why) → ((n : ℕ) → Fails (k n)) → Fails (count_in v k)
count_fails (Whole (pos n)) k h = h n
count_fails (Whole (negsuc n)) k h = (unusable (Whole (negsuc n)), refl)
count_fails Null k h = (unusable Null, refl)
count_fails (Place b o) k h = (unusable (Place b o), refl)
count_fails Opaque k h = (unusable Opaque, refl)
count_fails (Cells xs) k h = (unusable (Cells xs), refl)
count_fails NoValue k h = (unusable NoValue, refl)

copy_fails : (s : Store) (to : Value) (xs : List Cell) (n : ℕ) → Fails (copied_area s to (Cells xs) n)
copy_fails s (Place c p) xs n = (not_pointing (Cells xs), refl)
copy_fails s (Whole z) xs n = (not_pointing (Whole z), refl)
copy_fails s Null xs n = (not_pointing Null, refl)
copy_fails s Opaque xs n = (not_pointing Opaque, refl)
copy_fails s (Cells ys) xs n = (not_pointing (Cells ys), refl)
copy_fails s NoValue xs n = (not_pointing NoValue, refl)

compare_fails : (s : Store) (v : Value) (xs : List Cell) → Fails (compared_texts s v (Cells xs))
compare_fails s (Place b o) xs = (not_pointing (Cells xs), refl)
compare_fails s (Whole z) xs = (not_pointing (Whole z), refl)
compare_fails s Null xs = (not_pointing Null, refl)
compare_fails s Opaque xs = (not_pointing Opaque, refl)
compare_fails s (Cells ys) xs = (not_pointing (Cells ys), refl)
compare_fails s NoValue xs = (not_pointing NoValue, refl)

is_word : (v : Value) → IsWord v ⊎ ((xs : List Cell) × (v ≡ Cells xs))
is_word (Whole z) = inl tt
is_word Null = inl tt
is_word (Place b o) = inl tt
is_word Opaque = inl tt
is_word (Cells xs) = inr (xs, refl)
is_word NoValue = inl tt

module _ (c : Scene) (f : Library) (rest : List Cell) where
  abbrev Or : List Value → Type 0
  Or args = AreWords args ⊎ Fails (effect_of c f args rest)

  one_more : (before : List Value → List Value) (v : Value) (vs : List Value) → ((xs : List Cell) → Fails (effect_of c f (before (Cells xs ∷ vs)) rest)) → (AreWords vs ⊎ Fails (effect_of c f (before (v ∷ vs)) rest)) → AreWords (v ∷ vs) ⊎ Fails (effect_of c f (before (v ∷ vs)) rest)
  one_more before v vs fails (inr h) = inr h
  one_more before v vs fails (inl words) = go (is_word v)
    where
      go : IsWord v ⊎ ((xs : List Cell) × (v ≡ Cells xs)) → AreWords (v ∷ vs) ⊎ Fails (effect_of c f (before (v ∷ vs)) rest)
      go (inl word) = inl (word, words)
      go (inr e) = inr (subst (λ x. Fails (effect_of c f (before (x ∷ vs)) rest)) (sym e.1) (fails e.0))

  one : (v : Value) → ((xs : List Cell) → Fails (effect_of c f (Cells xs ∷ []) rest)) → Or (v ∷ [])
  one v first = one_more (λ l. l) v [] first (inl tt)

  two : (v w : Value) → ((xs : List Cell) → Fails (effect_of c f (Cells xs ∷ w ∷ []) rest)) → ((xs : List Cell) → Fails (effect_of c f (v ∷ Cells xs ∷ []) rest)) → Or (v ∷ w ∷ [])
  two v w first second = one_more (λ l. l) v (w ∷ []) first (one_more (λ l. v ∷ l) w [] second (inl tt))

  three : (v w x : Value) → ((xs : List Cell) → Fails (effect_of c f (Cells xs ∷ w ∷ x ∷ []) rest)) → ((xs : List Cell) → Fails (effect_of c f (v ∷ Cells xs ∷ x ∷ []) rest)) → ((xs : List Cell) → Fails (effect_of c f (v ∷ w ∷ Cells xs ∷ []) rest)) → Or (v ∷ w ∷ x ∷ [])
  three v w x first second third = one_more (λ l. l) v (w ∷ x ∷ []) first (one_more (λ l. v ∷ l) w (x ∷ []) second (one_more (λ l. v ∷ w ∷ l) x [] third (inl tt)))

-- The arguments are words, or the call has no meaning.
pub words_or_none : (c : Scene) (f : Library) (args : List Value) (rest : List Cell) → AreWords args ⊎ Fails (effect_of c f args rest)
words_or_none c f [] rest = inl tt
words_or_none c Putchar (v ∷ []) rest = one c Putchar rest v (λ xs. (unusable (Cells xs), refl))
words_or_none c Getchar (v ∷ vs) rest = inr (Unfit, refl)
words_or_none c Puts (v ∷ []) rest = one c Puts rest v (λ xs. (not_pointing (Cells xs), refl))
words_or_none c Exit (v ∷ []) rest = one c Exit rest v (λ xs. (unusable (Cells xs), refl))
words_or_none c Strlen (v ∷ []) rest = one c Strlen rest v (λ xs. (not_pointing (Cells xs), refl))
words_or_none c Printf (v ∷ []) rest = one c Printf rest v (λ xs. (not_pointing (Cells xs), refl))
words_or_none c Memcpy (v ∷ []) rest = inr (Unfit, refl)
words_or_none c Memset (v ∷ []) rest = inr (Unfit, refl)
words_or_none c Strcmp (v ∷ []) rest = inr (Unfit, refl)
words_or_none c Strcpy (v ∷ []) rest = inr (Unfit, refl)
words_or_none c Putchar (v ∷ w ∷ vs) rest = inr (Unfit, refl)
words_or_none c Puts (v ∷ w ∷ vs) rest = inr (Unfit, refl)
words_or_none c Exit (v ∷ w ∷ vs) rest = inr (Unfit, refl)
words_or_none c Strlen (v ∷ w ∷ vs) rest = inr (Unfit, refl)
words_or_none c Printf (v ∷ w ∷ vs) rest = inr (Unfit, refl)
words_or_none c Memcpy (v ∷ w ∷ []) rest = inr (Unfit, refl)
words_or_none c Memset (v ∷ w ∷ []) rest = inr (Unfit, refl)
words_or_none c Strcmp (v ∷ w ∷ []) rest = two c Strcmp rest v w (λ xs. (not_pointing (Cells xs), refl)) (λ xs. bind_fails (compared_texts c.store v (Cells xs)) _ (compare_fails c.store v xs))
words_or_none c Strcpy (v ∷ w ∷ []) rest = two c Strcpy rest v w (λ xs. bind_then (text_at c.store w) _ (λ text. (not_pointing (Cells xs), refl))) (λ xs. (not_pointing (Cells xs), refl))
words_or_none c Strcmp (v ∷ w ∷ x ∷ vs) rest = inr (Unfit, refl)
words_or_none c Strcpy (v ∷ w ∷ x ∷ vs) rest = inr (Unfit, refl)
words_or_none c Memcpy (v ∷ w ∷ x ∷ []) rest = three c Memcpy rest v w x (λ xs. count_fails x _ (λ n. (not_pointing (Cells xs), refl))) (λ xs. count_fails x _ (λ n. bind_fails (copied_area c.store v (Cells xs) n) _ (copy_fails c.store v xs n))) (λ xs. (unusable (Cells xs), refl))
words_or_none c Memset (v ∷ w ∷ x ∷ []) rest = three c Memset rest v w x (λ xs. number_fails w _ (λ z. count_fails x _ (λ n. (not_pointing (Cells xs), refl)))) (λ xs. (unusable (Cells xs), refl)) (λ xs. number_fails w _ (λ z. (unusable (Cells xs), refl)))
words_or_none c Memcpy (v ∷ w ∷ x ∷ y ∷ vs) rest = inr (Unfit, refl)
words_or_none c Memset (v ∷ w ∷ x ∷ y ∷ vs) rest = inr (Unfit, refl)
