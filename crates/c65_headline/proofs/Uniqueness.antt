-- Told files are one program at most.
use Rattle.std.proofs.Common.{◌≡◌, ◌∙◌, ℕ, Bool, true, false, List, [], ◌∷◌, ◌++◌, Result, Ok, Err, inl, inr, ap, sym, subst}
use Rattle.std.specs.Prelude.{length, nat_lt}
use Rattle.c65_base.specs.declared.names.Name.{Name}
use Rattle.c65_base.specs.declared.refusal.Refusal.{Refusal}
use Rattle.c65_base.specs.declared.refusal.Size.TheVariants as sizes
use Rattle.c65_base.specs.Limits.{limit_of}
use Rattle.c65_base.specs.Answers.{Fault, at, large}
use Rattle.c65_ppline.specs.Relations.{Answers, just, by_test, ◌then◌}
use Rattle.c65_ppdir.specs.Units.{preprocessed}
use Rattle.c65_ppdir_law.specs.Once.{HasOne, UnitsAreOne}
use Rattle.c65_csem.specs.Trees.{UnitTy}
use Rattle.c65_init_join.specs.Answers.{JoinFault}
use Rattle.c65_init_join.specs.Joined.{joined}
use Rattle.c65_driver_chain.specs.Front.{Command, in_file, typed, file_typed, files_typed, units_typed, rest_name, rest_spelling, joining, programs}

pub is_value : {A E : Type 0} (a b : A) → (let x : Result A E = Ok a in x ≡ Ok b) → a ≡ b
is_value a b h = cc

pub no_value : {A E : Type 0} (a : A) (e : E) → (let x : Result A E = Ok a in x ≡ Err e) → ⊥
no_value a e h = cc

pub is_error : {A E : Type 0} (a b : E) → (let x : Result A E = Err a in x ≡ Err b) → a ≡ b
is_error a b h = cc

as_error : {A B : Type 0} (e f : Refusal) → (let x : Result A Refusal = Err e in x ≡ Err f) → (let x : Result B Refusal = Err e in x ≡ Err f)
as_error {B = B} e f h = ap (λ (x : Refusal). let y : Result B Refusal = Err x in y) (is_error e f h)

pub one_just : {A : Type 0} (a : Result A Refusal) → HasOne (just a)
one_just a y z d e p q = p ∙ sym q

pub one_then : {A B : Type 0} (P : Answers A) (f : A → Answers B) → HasOne P → ((a : A) → HasOne (f a)) → HasOne (P then f)
one_then P f p q (Ok x) (Ok y) d e (a, h, k) (b, i, l) = q b (Ok x) (Ok y) d e (subst (λ c. f c (Ok x)) (is_value a b (p (Ok a) (Ok b) tt tt h i)) k) l
one_then P f p q (Ok x) (Err g) d e (a, h, k) (inl i) = absurd (no_value a g (p (Ok a) (Err g) tt e h i))
one_then P f p q (Ok x) (Err g) d e (a, h, k) (inr (b, i, l)) = q b (Ok x) (Err g) d e (subst (λ c. f c (Ok x)) (is_value a b (p (Ok a) (Ok b) tt tt h i)) k) l
one_then P f p q (Err g) (Ok y) d e (inl h) (b, i, l) = absurd (no_value b g (sym (p (Err g) (Ok b) d tt h i)))
one_then P f p q (Err g) (Ok y) d e (inr (a, h, k)) (b, i, l) = q b (Err g) (Ok y) d e (subst (λ c. f c (Err g)) (is_value a b (p (Ok a) (Ok b) tt tt h i)) k) l
one_then P f p q (Err g) (Err j) d e (inl h) (inl i) = as_error g j (p (Err g) (Err j) d e h i)
one_then P f p q (Err g) (Err j) d e (inl h) (inr (b, i, l)) = absurd (no_value b g (sym (p (Err g) (Ok b) d tt h i)))
one_then P f p q (Err g) (Err j) d e (inr (a, h, k)) (inl i) = absurd (no_value a j (p (Ok a) (Err j) tt e h i))
one_then P f p q (Err g) (Err j) d e (inr (a, h, k)) (inr (b, i, l)) = q b (Err g) (Err j) d e (subst (λ c. f c (Err g)) (is_value a b (p (Ok a) (Ok b) tt tt h i)) k) l

pub one_test : {A : Type 0} (b : Bool) (P Q : Answers A) → HasOne P → HasOne Q → HasOne (by_test b P Q)
one_test true P Q p q = p
one_test false P Q p q = q

one_in_file : {A : Type 0} (paths : List (List ℕ)) (r : Result A Fault) → HasOne (in_file paths r)
one_in_file paths (Ok x) = one_just (Ok x)
one_in_file paths (Err (at code p)) = one_just _
one_in_file paths (Err (large limit value)) = one_just _

pub one_joining : {A : Type 0} (r : Result A JoinFault) → HasOne (joining r)
one_joining (Ok x) = one_just (Ok x)
one_joining (Err f) = one_just _

module _ (units : UnitsAreOne) where
  one_file : (c : Command) (rest : Name) (path : List ℕ) (names : List (List ℕ)) → HasOne (file_typed c rest path names)
  one_file c rest path names = one_then (preprocessed c.held c.options c.defines c.folders path names) _ (units c.held c.options c.defines c.folders path names)
      (λ x. one_then (in_file x.0.files (typed x.1 c.options rest x.0.tokens)) _ (one_in_file x.0.files (typed x.1 c.options rest x.0.tokens)) (λ u. one_just (Ok (u, x.1))))

  one_files : (c : Command) (rest : Name) (paths : List (List ℕ)) (done : List UnitTy) (names : List (List ℕ)) → HasOne (files_typed c rest paths done names)
  one_files c rest [] done names = one_just (Ok (done, names))
  one_files c rest (path ∷ paths) done names = one_then (file_typed c rest path names) _ (one_file c rest path names) (λ x. one_files c rest paths (done ++ x.0 ∷ []) x.1)

  pub one_units : (c : Command) (paths : List (List ℕ)) → HasOne (units_typed c paths)
  one_units c paths = one_files c rest_name paths [] (rest_spelling ∷ [])

  pub one_program : (c : Command) (paths : List (List ℕ)) → HasOne (programs c paths)
  one_program c paths = one_test (nat_lt (limit_of sizes.Units) (length paths)) _ _ (one_just _)
      (one_then (units_typed c paths) _ (one_units c paths) (λ x. one_then (joining (joined x.1 x.0)) _ (one_joining (joined x.1 x.0)) (λ p. one_just (Ok (p, x.1)))))
