-- Items that come once stand at one place each, and the other way round.
use Rattle.std.proofs.Common.{◌≡◌, ◌⊎◌, inl, inr, ℕ, zero, suc, ◌+◌, Bool, true, false, ◌||◌, List, [], ◌∷◌, ◌++◌, Option, None, Some, length, slice_get, nat_eq, refl, sym, ap, subst, ◌∙◌, arith, append_assoc, append-nil}
use Rattle.std.specs.Prelude.{if◌then◌else◌, is_some}
use Rattle.std.specs.List.{list_any}
use Rattle.std.proofs.lemmas.Bool.{eqb-true}
use Rattle.std.proofs.lemmas.Bool.Decides.{Decides-eqb}
use Rattle.std.proofs.lemmas.Option.{slice_get_within}
use Rattle.c65_base.specs.Names.{name_of}
use Rattle.c65_base.proofs.NameLaws.{name_of-at, has_name}
use Rattle.c65_asm_fit.specs.Once.{IsOnce, comes_once, has_spelling, has_number}

not_both : (b : Bool) → b ≡ true → b ≡ false → ⊥
not_both b h e = cc

some_same : {A : Type 0} (x y : A) → ◌≡◌ {A = Option A} (Some x) (Some y) → x ≡ y
some_same x y h = cc

-- ---- places in two lists, one behind the other

-- an item of the first, or of the second
abbrev pub Stands : {A : Type 0} → List A → List A → ℕ → A → Type 0
Stands xs ys i x = (slice_get xs i ≡ Some x) ⊎ ((k : ℕ) × (i ≡ length xs + k) × (slice_get ys k ≡ Some x))

pub in_first : {A : Type 0} (xs ys : List A) (i : ℕ) (x : A) → slice_get xs i ≡ Some x → slice_get (xs ++ ys) i ≡ Some x
in_first [] ys i x h = absurd cc
in_first (y ∷ xs) ys zero x h = h
in_first (y ∷ xs) ys (suc i) x h = in_first xs ys i x h

pub in_second : {A : Type 0} (xs ys : List A) (k : ℕ) (x : A) → slice_get ys k ≡ Some x → slice_get (xs ++ ys) (length xs + k) ≡ Some x
in_second [] ys k x h = let e : k ≡ 0 + k = omega arith in subst (λ (n : ℕ). slice_get ys n ≡ Some x) e h
in_second (y ∷ xs) ys k x h = let e : suc (length xs + k) ≡ suc (length xs) + k = omega arith in subst (λ (n : ℕ). slice_get (y ∷ (xs ++ ys)) n ≡ Some x) e (in_second xs ys k x h)

pub stands : {A : Type 0} (xs ys : List A) (i : ℕ) (x : A) → slice_get (xs ++ ys) i ≡ Some x → Stands xs ys i x
stands [] ys i x h = inr (i, omega arith, h)
stands (y ∷ xs) ys zero x h = inl h
stands {A = A} (y ∷ xs) ys (suc i) x h = next (stands xs ys i x h)
  where
    next : Stands xs ys i x → Stands (y ∷ xs) ys (suc i) x
    next (inl e) = inl e
    next (inr (k, e, f)) = inr (k, omega (arith, e), f)

alone : {A : Type 0} (x y : A) (k : ℕ) → slice_get (x ∷ []) k ≡ Some y → (k ≡ 0) × (x ≡ y)
alone x y zero h = (refl, some_same x y h)
alone x y (suc k) h = absurd cc

-- ---- items that come once, by a test of whether an item came

module _ {A : Type 0} (has : List A → A → Bool)
    (place : (seen : List A) (x : A) → has seen x ≡ true → (k : ℕ) × (slice_get seen k ≡ Some x))
    (there : (seen : List A) (x : A) (k : ℕ) → slice_get seen k ≡ Some x → has seen x ≡ true) where
  one_more : (seen : List A) (x : A) → IsOnce seen → has seen x ≡ false → IsOnce (seen ++ x ∷ [])
  one_more seen x d e i j y p q = same (stands seen (x ∷ []) i y p) (stands seen (x ∷ []) j y q)
    where
      new : (k n : ℕ) → slice_get seen k ≡ Some y → slice_get (x ∷ []) n ≡ Some y → ⊥
      new k n h f = not_both (has seen x) (there seen x k (h ∙ ap Some (sym (alone x y n f).1))) e

      same : Stands seen (x ∷ []) i y → Stands seen (x ∷ []) j y → i ≡ j
      same (inl a) (inl b) = d i j y a b
      same (inl a) (inr (n, c, f)) = absurd (new i n a f)
      same (inr (n, c, f)) (inl b) = absurd (new j n b f)
      same (inr (n, c, f)) (inr (m, g, h)) = omega (arith, c, g, (alone x y n f).0, (alone x y m h).0)

  yes_by : (seen : List A) (x : A) (xs : List A) (t : Bool) → has seen x ≡ t → IsOnce seen → (if t then false else comes_once has (seen ++ x ∷ []) xs) ≡ true
      → (IsOnce (seen ++ x ∷ []) → comes_once has (seen ++ x ∷ []) xs ≡ true → IsOnce ((seen ++ x ∷ []) ++ xs)) → IsOnce (seen ++ x ∷ xs)
  yes_by seen x xs true e d h rest = absurd cc
  yes_by seen x xs false e d h rest = subst (λ (ys : List A). IsOnce ys) (append_assoc seen (x ∷ []) xs) (rest (one_more seen x d e) h)

  pub once_yes : (seen xs : List A) → IsOnce seen → comes_once has seen xs ≡ true → IsOnce (seen ++ xs)
  once_yes seen [] d h = subst (λ (ys : List A). IsOnce ys) (sym (append-nil seen)) d
  once_yes seen (x ∷ xs) d h = yes_by seen x xs (has seen x) refl d h (λ d2 h2. once_yes (seen ++ x ∷ []) xs d2 h2)

  only_by : (seen : List A) (x : A) (xs : List A) (t : Bool) → has seen x ≡ t → IsOnce (seen ++ x ∷ xs)
      → (IsOnce ((seen ++ x ∷ []) ++ xs) → comes_once has (seen ++ x ∷ []) xs ≡ true) → (if t then false else comes_once has (seen ++ x ∷ []) xs) ≡ true
  only_by seen x xs true e d rest =
      let s = place seen x e in
      let at : s.0 ≡ length seen + 0 = d s.0 (length seen + 0) x (in_first seen (x ∷ xs) s.0 x s.1) (in_second seen (x ∷ xs) 0 x refl) in
      absurd (omega (arith, at, slice_get_within seen s.0 x s.1))
  only_by seen x xs false e d rest = rest (subst (λ (ys : List A). IsOnce ys) (sym (append_assoc seen (x ∷ []) xs)) d)

  pub once_only : (seen xs : List A) → IsOnce (seen ++ xs) → comes_once has seen xs ≡ true
  once_only seen [] d = refl
  once_only seen (x ∷ xs) d = only_by seen x xs (has seen x) refl d (λ d2. once_only (seen ++ x ∷ []) xs d2)

none_once : {A : Type 0} (i j : ℕ) (x : A) → ◌≡◌ {A = Option A} None (Some x) → i ≡ j
none_once i j x h = absurd cc

pub empty_once : {A : Type 0} → IsOnce {A = A} []
empty_once {A = A} i j x p q = none_once i j x p

-- ---- spellings

spelling_place : (seen : List (List ℕ)) (s : List ℕ) → has_spelling seen s ≡ true → (k : ℕ) × (slice_get seen k ≡ Some s)
spelling_place seen s h = by (name_of seen s) refl h
  where
    by : (o : Option ℕ) → name_of seen s ≡ o → is_some o ≡ true → (k : ℕ) × (slice_get seen k ≡ Some s)
    by (Some k) e h = (k, name_of-at seen s k e)
    by None e h = absurd cc

spelling_there : (seen : List (List ℕ)) (s : List ℕ) (k : ℕ) → slice_get seen k ≡ Some s → has_spelling seen s ≡ true
spelling_there seen s k h = ap (λ (o : Option ℕ). is_some o) (has_name seen s k h).1

pub spellings_yes : (ss : List (List ℕ)) → comes_once has_spelling [] ss ≡ true → IsOnce ss
spellings_yes ss h = once_yes has_spelling spelling_place spelling_there [] ss empty_once h

pub spellings_only : (ss : List (List ℕ)) → IsOnce ss → comes_once has_spelling [] ss ≡ true
spellings_only ss d = once_only has_spelling spelling_place spelling_there [] ss d

-- ---- numbers

number_by : (n m : ℕ) (t : Bool) → nat_eq n m ≡ t → (seen : List ℕ) → (t || list_any (nat_eq n) seen) ≡ true → (list_any (nat_eq n) seen ≡ true → (k : ℕ) × (slice_get seen k ≡ Some n)) → (k : ℕ) × (slice_get (m ∷ seen) k ≡ Some n)
number_by n m true e seen h rest = (0, ap Some (sym (eqb-true n m e)))
number_by n m false e seen h rest = let r = rest h in (suc r.0, r.1)

number_place : (seen : List ℕ) (n : ℕ) → has_number seen n ≡ true → (k : ℕ) × (slice_get seen k ≡ Some n)
number_place [] n h = absurd cc
number_place (m ∷ seen) n h = number_by n m (nat_eq n m) refl seen h (λ r. number_place seen n r)

or_true : (a b : Bool) → b ≡ true → (a || b) ≡ true
or_true true b h = refl
or_true false b h = h

number_there : (seen : List ℕ) (n k : ℕ) → slice_get seen k ≡ Some n → has_number seen n ≡ true
number_there [] n k h = absurd cc
number_there (m ∷ seen) n zero h = ap (λ (t : Bool). t || list_any (nat_eq n) seen) ((Decides-eqb n m).1 (sym (some_same m n h)))
number_there (m ∷ seen) n (suc k) h = or_true (nat_eq n m) (list_any (nat_eq n) seen) (number_there seen n k h)

pub numbers_yes : (ns : List ℕ) → comes_once has_number [] ns ≡ true → IsOnce ns
numbers_yes ns h = once_yes has_number number_place number_there [] ns empty_once h

pub numbers_only : (ns : List ℕ) → IsOnce ns → comes_once has_number [] ns ≡ true
numbers_only ns d = once_only has_number number_place number_there [] ns d
