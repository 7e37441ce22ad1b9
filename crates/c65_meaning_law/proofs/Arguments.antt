-- The arguments of a call: their values among those that wait, and what a compatible function takes.
use Rattle.std.proofs.Common.{◌≡◌, ℕ, pos, negsuc, Bool, true, false, List, [], ◌∷◌, Option, Some, None, refl, sym, ap, ◌∙◌, subst, if◌then◌else◌}
use Rattle.std.specs.Prelude.{take, IsSome, option_and_then, ◌&&◌, ◌^◌, ⊤}
use Rattle.std.proofs.lemmas.Bool.{and_parts}
use Rattle.c65_ctype.specs.Trees.{Ty, void, int, pointer, array, tag, function, QTy, qual, type_in, Fn, fn, QTys, end, more, TypesTy}
use Rattle.c65_ctype.specs.Compatible.{Pairs, same_int, same_bool, meet, qualified_meet, functions_meet, params_meet, each_in, agrees, are_compatible}
use Rattle.c65_base.specs.declared.library.Library.{Library}
use Rattle.c65_base.specs.declared.library.Library.TheVariants as the
use Rattle.c65_csem.specs.Library.{takes_more, library_params}
use Rattle.c65_csem.specs.Trees.{UnitTy}
use Rattle.c65_csem.specs.Places.{plain}
use Rattle.c65_csem.specs.Units.{AreParams}
use Rattle.c65_meaning.specs.Store.{Store, Value, Whole, Null, Place, Opaque, Cells, NoValue}
use Rattle.c65_meaning.specs.Calls.{count_of, fit, fit_objects, promoted, parameter_type}
use Rattle.c65_meaning.specs.Shapes.{object_in}
use Rattle.c65_meaning.specs.Step.{taken}
use Rattle.c65_meaning_law.specs.Library.{IsNumber, IsCount, IsPointing, AreArguments}
use Rattle.c65_meaning_law.proofs.Stacks.{Kind, arithmetic, pointing, kind_passed, kind_given, Suits, AreSuited, pushed}
use Rattle.c65_meaning_law.proofs.Plans.{plain_type}
use Rattle.c65_meaning_law.proofs.Statements.{sign_same}

-- ---- compatible types are of one kind

some_if : {A : Type 0} (t : Bool) (m : Option A) → IsSome (if t then m else None) → IsSome m
some_if true m h = h
some_if false m h = absurd (cc)

some_then : {A B : Type 0} (f : A → Option B) (m : Option A) → IsSome (option_and_then f m) → IsSome m
some_then f None h = h
some_then f (Some x) h = refl

meet_kind : (ps : Pairs) (t u : Ty) → IsSome (meet ps t u) → kind_passed t ≡ kind_passed u
meet_kind ps void void h = refl
meet_kind ps (int s) (int t) h = tested (same_int s t) refl h
  where
    tested : (b : Bool) → same_int s t ≡ b → IsSome (if b then Some ps else None) → kind_passed (int s) ≡ kind_passed (int t)
    tested true e h = ap arithmetic (sign_same s t e)
    tested false e h = absurd (cc)
meet_kind ps (pointer q) (pointer r) h = refl
meet_kind ps (array q m) (array r n) h = refl
meet_kind ps (tag s) (tag t) h = refl
meet_kind ps (function f) (function g) h = refl
meet_kind ps _ _ h = absurd (cc)

qualified_some : (ps : Pairs) (q r : QTy) → IsSome (qualified_meet ps q r) → IsSome (meet ps (type_in q) (type_in r))
qualified_some ps (qual t c v) (qual u d w) h = some_if (same_bool c d && same_bool v w) (meet ps t u) h

each_some : (f : ℕ × ℕ → Bool) (m : Option Pairs) → each_in f m ≡ true → IsSome m
each_some f None h = absurd (cc)
each_some f (Some ps) h = refl

module _ (types : TypesTy) where
  compatible_meet : (a b : QTy) → are_compatible types a b ≡ true → IsSome (meet [] (type_in a) (type_in b))
  compatible_meet a b h = qualified_some [] a b (each_some (agrees types (2 ^ 64)) (qualified_meet [] a b) h)

  compatible_kind : (t u : Ty) → are_compatible types (plain t) (plain u) ≡ true → kind_passed t ≡ kind_passed u
  compatible_kind t u h = meet_kind [] t u (compatible_meet (plain t) (plain u) h)

  functions_kind : (f g : Fn) → IsSome (functions_meet [] f g) → kind_given f ≡ kind_given g
  functions_kind (fn q xs va cd) (fn r ys vb ce) h =
      let m = some_then (λ given. params_meet given xs va ys vb) (qualified_meet [] q r) (some_if (same_bool cd ce) (option_and_then (λ given. params_meet given xs va ys vb) (qualified_meet [] q r)) h) in
      ap kind_passed (plain_type q) ∙ meet_kind [] (type_in q) (type_in r) (qualified_some [] q r m) ∙ sym (ap kind_passed (plain_type r))

  pub callee_kind : (f g : Fn) → are_compatible types (plain (function f)) (plain (function g)) ≡ true → kind_given f ≡ kind_given g
  callee_kind f g h = functions_kind f g (compatible_meet (plain (function f)) (plain (function g)) h)

-- ---- arguments of types, no more and no fewer

module _ (D : ℕ → Type 0) where
  abbrev pub AllSuited : List Ty → List Value → Type 0
  AllSuited [] [] = ⊤
  AllSuited (t ∷ ts) (v ∷ vs) = Suits D (kind_passed t) v × AllSuited ts vs
  AllSuited _ _ = ⊥

  -- where they are taken from the values that wait
  pub record AreTaken (ts : List Ty) (ks : List Kind) (vs : List Value) : Type 0 where
    pub args : List Value
    pub rest : List Value
    pub is : taken ts [] vs ≡ Some (args, rest)
    pub suited : AllSuited ts args
    pub below : AreSuited D ks rest

  abbrev with_one : Option (List Value × List Value) → Option (List Value × List Value)
  with_one None = None
  with_one (Some (args, [])) = None
  with_one (Some (args, v ∷ vs)) = Some (v ∷ args, vs)

  last_taken : (t : Ty) (ts : List Ty) (args vs : List Value) → taken (t ∷ ts) args vs ≡ with_one (taken ts args vs)
  last_taken t [] args [] = refl
  last_taken t [] args (v ∷ vs) = refl
  last_taken t (s ∷ ts) args [] = refl
  last_taken t (s ∷ ts) args (v ∷ vs) = last_taken s ts (v ∷ args) vs

  pub are_taken : (ts : List Ty) (ks : List Kind) (vs : List Value) → AreSuited D (pushed ts ks) vs → AreTaken ts ks vs
  are_taken [] ks vs a = record { args = []; rest = vs; is = refl; suited = tt; below = a }
  are_taken (t ∷ ts) ks vs a = let h = are_taken ts (kind_passed t ∷ ks) vs a in one h h.rest refl h.below
    where
      one : (h : AreTaken ts (kind_passed t ∷ ks) vs) (rest : List Value) → h.rest ≡ rest → AreSuited D (kind_passed t ∷ ks) rest → AreTaken (t ∷ ts) ks vs
      one h [] e b = absurd b
      one h (v ∷ rest) e b = record { args = v ∷ h.args; rest = rest; is = last_taken t ts [] vs ∙ ap with_one (h.is ∙ ap (λ (r : List Value). Some (h.args, r)) e); suited = (b.0, h.suited); below = b.1 }

  -- ---- what a function takes

  abbrev pub Enough : List ℕ → List Value → Type 0
  Enough [] vs = ⊤
  Enough (i ∷ is) [] = ⊥
  Enough (i ∷ is) (v ∷ vs) = Enough is vs

  pub fit_enough : (u : UnitTy) (ts : List Ty) (v : Bool) (ps : QTys) (is : List ℕ) (vs : List Value) → fit u.types ts v ps ≡ true → AreParams u ps is → AllSuited ts vs → Enough is vs
  fit_enough u ts v end [] vs f p a = tt
  fit_enough u ts v end (i ∷ is) vs f p a = absurd p
  fit_enough u ts v (more q ps) [] vs f p a = absurd p
  fit_enough u [] v (more q ps) (i ∷ is) vs f p a = absurd (cc)
  fit_enough u (t ∷ ts) v (more q ps) (i ∷ is) [] f p a = absurd a
  fit_enough u (t ∷ ts) v (more q ps) (i ∷ is) (w ∷ vs) f p a = fit_enough u ts v ps is vs (and_parts (are_compatible u.types (plain t) (plain (type_in q))) (fit u.types ts v ps) f).1 p.4 a.1

  pub objects_enough : (u : UnitTy) (ts : List Ty) (is : List ℕ) (vs : List Value) → fit_objects u ts is ≡ true → AllSuited ts vs → Enough is vs
  objects_enough u ts [] vs f a = tt
  objects_enough u [] (i ∷ is) vs f a = absurd (cc)
  objects_enough u (t ∷ ts) (i ∷ is) [] f a = absurd a
  objects_enough u (t ∷ ts) (i ∷ is) (w ∷ vs) f a = objects_enough u ts is vs (and_parts (are_compatible u.types (plain t) (plain (promoted (parameter_type u (object_in u i))))) (fit_objects u ts is) f).1 a.1

  abbrev SuitedBy : QTys → List Value → Type 0
  SuitedBy end [] = ⊤
  SuitedBy (more q ps) (v ∷ vs) = Suits D (kind_passed (type_in q)) v × SuitedBy ps vs
  SuitedBy _ _ = ⊥

  -- those that a prototype names
  fit_by : (types : TypesTy) (ts : List Ty) (variadic : Bool) (ps : QTys) (vs : List Value) → fit types ts variadic ps ≡ true → AllSuited ts vs → SuitedBy ps (take (count_of ps) vs)
  fit_by types ts variadic end vs f a = tt
  fit_by types [] variadic (more q ps) vs f a = absurd (cc)
  fit_by types (t ∷ ts) variadic (more q ps) [] f a = absurd a
  fit_by types (t ∷ ts) variadic (more q ps) (v ∷ vs) f a =
      let parts = and_parts (are_compatible types (plain t) (plain (type_in q))) (fit types ts variadic ps) f in
      (subst (λ (x : Kind). Suits D x v) (compatible_kind types t (type_in q) parts.0) a.0, fit_by types ts variadic ps vs parts.1 a.1)

-- ---- what the library takes

module _ (s : Store) where
  abbrev E : ℕ → Type 0
  E b = IsSome (s b)

  is_number : (v : Value) → Suits E (arithmetic true) v → IsNumber v
  is_number (Whole z) h = tt
  is_number Opaque h = tt
  is_number NoValue h = tt
  is_number Null h = absurd h
  is_number (Cells xs) h = absurd h
  is_number (Place b o) h = absurd h

  is_count : (v : Value) → Suits E (arithmetic false) v → IsCount v
  is_count (Whole (pos n)) h = tt
  is_count (Whole (negsuc n)) h = absurd h
  is_count Opaque h = tt
  is_count NoValue h = tt
  is_count Null h = absurd h
  is_count (Cells xs) h = absurd h
  is_count (Place b o) h = absurd h

  points : (v : Value) → Suits E pointing v → IsPointing s v
  points (Place b o) h = h
  points Null h = tt
  points Opaque h = tt
  points NoValue h = tt
  points (Whole z) h = absurd h
  points (Cells xs) h = absurd h

  arguments_by : (c : Bool) (l : Library) (vs : List Value) → SuitedBy E (library_params c l) vs → AreArguments s l vs
  arguments_by c the.Putchar (v ∷ []) h = is_number v h.0
  arguments_by c the.Getchar [] h = tt
  arguments_by c the.Puts (v ∷ []) h = points v h.0
  arguments_by c the.Exit (v ∷ []) h = is_number v h.0
  arguments_by c the.Memcpy (v ∷ w ∷ n ∷ []) h = (points v h.0, points w h.1.0, is_count n h.1.1.0)
  arguments_by c the.Memset (v ∷ w ∷ n ∷ []) h = (points v h.0, is_number w h.1.0, is_count n h.1.1.0)
  arguments_by c the.Strcmp (v ∷ w ∷ []) h = (points v h.0, points w h.1.0)
  arguments_by c the.Strcpy (v ∷ w ∷ []) h = (points v h.0, points w h.1.0)
  arguments_by c the.Strlen (v ∷ []) h = points v h.0
  arguments_by c the.Printf (v ∷ []) h = points v h.0
  arguments_by c the.Putchar [] h = absurd h
  arguments_by c the.Putchar (v ∷ w ∷ vs) h = absurd h.1
  arguments_by c the.Getchar (v ∷ vs) h = absurd h
  arguments_by c the.Puts [] h = absurd h
  arguments_by c the.Puts (v ∷ w ∷ vs) h = absurd h.1
  arguments_by c the.Exit [] h = absurd h
  arguments_by c the.Exit (v ∷ w ∷ vs) h = absurd h.1
  arguments_by c the.Memcpy [] h = absurd h
  arguments_by c the.Memcpy (v ∷ []) h = absurd h.1
  arguments_by c the.Memcpy (v ∷ w ∷ []) h = absurd h.1.1
  arguments_by c the.Memcpy (v ∷ w ∷ n ∷ x ∷ vs) h = absurd h.1.1.1
  arguments_by c the.Memset [] h = absurd h
  arguments_by c the.Memset (v ∷ []) h = absurd h.1
  arguments_by c the.Memset (v ∷ w ∷ []) h = absurd h.1.1
  arguments_by c the.Memset (v ∷ w ∷ n ∷ x ∷ vs) h = absurd h.1.1.1
  arguments_by c the.Strcmp [] h = absurd h
  arguments_by c the.Strcmp (v ∷ []) h = absurd h.1
  arguments_by c the.Strcmp (v ∷ w ∷ x ∷ vs) h = absurd h.1.1
  arguments_by c the.Strcpy [] h = absurd h
  arguments_by c the.Strcpy (v ∷ []) h = absurd h.1
  arguments_by c the.Strcpy (v ∷ w ∷ x ∷ vs) h = absurd h.1.1
  arguments_by c the.Strlen [] h = absurd h
  arguments_by c the.Strlen (v ∷ w ∷ vs) h = absurd h.1
  arguments_by c the.Printf [] h = absurd h
  arguments_by c the.Printf (v ∷ w ∷ vs) h = absurd h.1

  pub library_arguments : (types : TypesTy) (ts : List Ty) (c : Bool) (l : Library) (vs : List Value) → fit types ts (takes_more l) (library_params c l) ≡ true → AllSuited E ts vs → AreArguments s l (take (count_of (library_params c l)) vs)
  library_arguments types ts c l vs f a = arguments_by c l (take (count_of (library_params c l)) vs) (fit_by E types ts (takes_more l) (library_params c l) vs f a)
