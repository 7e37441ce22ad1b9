-- Laws of reading words one after another.
use Rattle.std.proofs.Common.{◌≡◌, ℕ, ◌+◌, ◌<◌, suc, Bool, true, false, not, ◌&&◌, cond, ◌==◌, List, [], ◌∷◌, ◌++◌, length, map, drop, get_or, bytes_eq, codes, is_some, Option, Some, None, Ok, Err, ap, sym, subst, ◌∙◌, arith}
use Rattle.std.proofs.Math.Seq.{drop-cons}
use Rattle.std.proofs.lemmas.List.{drop-map}
use Rattle.std.specs.List.{list_any}
use Rattle.c65_base.specs.declared.refusal.Refusal.{Refusal}
use Rattle.c65_base.specs.declared.refusal.Refusal.TheVariants.{Usage}
use Rattle.c65_driver_words.specs.Told.{GoesOn}
use Rattle.c65_driver_words.specs.Words.{Told, Spelling, NoCommand, Spells, told_more, args_from, given_at, words_from}

-- the next word, and the others
pub next_word : {A : Type 0} (f : A → List ℕ) (xs : List A) (i : ℕ) (r : A) → i < length xs → r ≡ get_or xs i r
    → drop i (map f xs) ≡ f r ∷ drop (i + 1) (map f xs)
next_word f xs i r below is =
    let one : suc i ≡ i + 1 = omega arith in
    drop-map f i xs ∙ ap (map f) (drop-cons xs i r below) ∙ ap (λ x. f x ∷ map f (drop (suc i) xs)) (sym is)
    ∙ ap (λ n. f r ∷ map f (drop n xs)) one ∙ ap (λ ys. f r ∷ ys) (sym (drop-map f (i + 1) xs))

-- a usage with the number of its word
pub stops : (s : Spelling) (r : Refusal) (at : ℕ) → r ≡ Usage at → s ≡ NoCommand at → Spells s (Err r)
stops s r at is none = subst (λ (e : Refusal). Spells s (Err e)) (sym is) none

-- an argument that holds a zero byte ends the command, and another one goes on with it
pub args_stop : (at : ℕ) (told : Told) (word : List ℕ) (args words rest : List (List ℕ)) (b : Bool) → rest ≡ word ∷ words
    → b ≡ list_any (λ byte. byte == 0) word → b ≡ true → args_from at told args rest ≡ NoCommand at
args_stop at told word args words rest b is test holds =
    ap (args_from at told args) is ∙ ap (λ t. cond t (NoCommand at) (args_from (at + 1) told (args ++ word ∷ []) words)) (sym test ∙ holds)

pub args_more : (at : ℕ) (told : Told) (word text : List ℕ) (args args' words rest : List (List ℕ)) (b : Bool) → rest ≡ word ∷ words
    → b ≡ list_any (λ byte. byte == 0) word → b ≡ false → text ≡ word → args' ≡ args ++ text ∷ [] → args_from at told args rest ≡ args_from (at + 1) told args' words
args_more at told word text args args' words rest b is test other copy step =
    ap (args_from at told args) is ∙ ap (λ t. cond t (NoCommand at) (args_from (at + 1) told (args ++ word ∷ []) words)) (sym test ∙ other)
    ∙ ap (λ (ys : List (List ℕ)). args_from (at + 1) told ys words) (sym (step ∙ ap (λ (t : List ℕ). args ++ t ∷ []) copy))

-- `--`
pub words_given : (at : ℕ) (told : Told) (word : List ℕ) (words rest : List (List ℕ)) (b : Bool) → rest ≡ word ∷ words
    → b ≡ (bytes_eq word (codes "--") && not (is_some told.waits)) → b ≡ true → words_from at told rest ≡ given_at at told words
words_given at told word words rest b is test holds =
    ap (words_from at told) is
    ∙ ap (λ t. cond t (given_at at told words) (elim (told_more told word) [ None ↦ NoCommand at | Some m ↦ words_from (at + 1) m words ])) (sym test ∙ holds)

-- a word that goes on
pub words_more : (at : ℕ) (told more : Told) (word : List ℕ) (words rest : List (List ℕ)) (b : Bool) → rest ≡ word ∷ words
    → b ≡ (bytes_eq word (codes "--") && not (is_some told.waits)) → b ≡ false → told_more told word ≡ Some more
    → words_from at told rest ≡ words_from (at + 1) more words
words_more at told more word words rest b is test other goes =
    ap (words_from at told) is
    ∙ ap (λ t. cond t (given_at at told words) (elim (told_more told word) [ None ↦ NoCommand at | Some m ↦ words_from (at + 1) m words ])) (sym test ∙ other)
    ∙ ap (λ (o : Option Told). elim o [ None ↦ NoCommand at | Some m ↦ words_from (at + 1) m words ]) goes

-- a word at which none goes on
pub words_stop : (at : ℕ) (told : Told) (word : List ℕ) (words rest : List (List ℕ)) (b : Bool) → rest ≡ word ∷ words
    → b ≡ (bytes_eq word (codes "--") && not (is_some told.waits)) → b ≡ false → told_more told word ≡ None → words_from at told rest ≡ NoCommand at
words_stop at told word words rest b is test other stop =
    ap (words_from at told) is
    ∙ ap (λ t. cond t (given_at at told words) (elim (told_more told word) [ None ↦ NoCommand at | Some m ↦ words_from (at + 1) m words ])) (sym test ∙ other)
    ∙ ap (λ (o : Option Told). elim o [ None ↦ NoCommand at | Some m ↦ words_from (at + 1) m words ]) stop

pub goes_some : (b : Bool) (told : Told) (more : Option Told) → b ≡ true → GoesOn {E = ℕ} (Ok b) told more → more ≡ Some told
goes_some true told more is goes = goes
goes_some false told more is goes = absurd cc

pub goes_none : (b : Bool) (told : Told) (more : Option Told) → b ≡ false → GoesOn {E = ℕ} (Ok b) told more → more ≡ None
goes_none true told more is goes = absurd cc
goes_none false told more is goes = goes
