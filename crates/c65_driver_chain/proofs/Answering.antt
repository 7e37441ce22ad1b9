-- What files are together, stage after stage.
use Rattle.std.proofs.lemmas.Bool.{le-ltb}
use Rattle.std.proofs.lemmas.List.{map-append}
use Rattle.std.proofs.Common.{◌≡◌, ◌≤◌, ◌↔◌, ◌∙◌, map, IfOk, IsTrue, ℕ, Option, Some, ◌⊎◌, inl, inr, Bool, true, List, [], ◌∷◌, ◌++◌, length, nat_lt, Result, Ok, Err, refl, sym, ap, subst}
use Rattle.std.specs.Prelude.{unwrap_or}
use Rattle.c65_base.specs.declared.names.Name.{Name}
use Rattle.c65_base.specs.declared.options.Options.{Options}
use Rattle.c65_base.specs.declared.refusal.Refusal.{Refusal}
use Rattle.c65_base.specs.declared.refusal.Refusal.TheVariants as refusals
use Rattle.c65_base.specs.declared.refusal.Size.TheVariants as sizes
use Rattle.c65_base.specs.Limits.{limit_of}
use Rattle.c65_base.specs.Names.{name_of, with_spelling}
use Rattle.c65_base.specs.Answers.{Fault, Fails, Gives, ◌>>=◌}
use Rattle.c65_lex.specs.declared.token.PpToken.{PpToken}
use Rattle.c65_lex.specs.declared.token.PpUnit.{PpUnit}
use Rattle.c65_scan.specs.declared.token.Token.{Token}
use Rattle.c65_scan.specs.Tokens.{tokens_of}
use Rattle.c65_decl.specs.Units.{unit_read}
use Rattle.c65_tree.specs.Trees.{UnitTree}
use Rattle.c65_csem.specs.declared.items.Parts.{Parts}
use Rattle.c65_csem.specs.Trees.{UnitTy}
use Rattle.c65_csem.specs.Views.{unit_of}
use Rattle.c65_init.specs.Units.{unit_in}
use Rattle.c65_init_join.specs.Answers as joins
use Rattle.c65_init_join.specs.Joined.{joined}
use Rattle.c65_code.specs.declared.code.Code.{Code}
use Rattle.c65_genframe.specs.Modes.{modes_of}
use Rattle.c65_genstmt.specs.Programs.{program_of}
use Rattle.c65_ppline.specs.Relations.{Answers, just, by_test, ◌then◌, IsFree, Comes}
use Rattle.c65_ppdir.specs.Units.{preprocessed}
use Rattle.c65_ppline.proofs.Relations.{goes, goes_on, stops_first}
use Rattle.c65_driver_chain.specs.Front.{typed, in_file, Command, rest_spelling, rest_name, file_typed, files_typed, units_typed, joining, units_joined, programs, IsGood, generated, compiled, Located, Passed}

-- the first answer is a refusal
stops : {A B : Type 0} (P : Answers A) (f : A → Answers B) (e : Refusal) → IsFree e ⊎ P (Err e) → IsFree e ⊎ (P then f) (Err e)
stops {A} {B} P f e h = stops_first {X = A} {Y = B} (λ x. x) (λ x. x) P f e h

-- ---- one file

fails_on : {A B : Type 0} (e : Refusal) (y : Result A Fault) (f : A → Result B Fault) → Fails e y → Fails e (y >>= f)
fails_on refusals.OutOfMemory y f h = tt
fails_on (refusals.At code p) y f h = ap (λ z. z >>= f) h
fails_on (refusals.TooLarge limit value) y f h = ap (λ z. z >>= f) h
fails_on e y f h = absurd h

pub not_scanned : (names : List (List ℕ)) (o : Options) (rest : Name) (ts : List PpToken) (e : Refusal) → Fails e (tokens_of names ts) → Fails e (typed names o rest ts)
not_scanned names o rest ts e h = fails_on e (tokens_of names ts) (λ tokens. unit_read (limit_of sizes.Depth) tokens >>= (λ tree. unit_in tree o rest)) h

pub not_parsed : (names : List (List ℕ)) (o : Options) (rest : Name) (ts : List PpToken) (tokens : List Token) (e : Refusal) → tokens_of names ts ≡ Ok tokens → Fails e (unit_read (limit_of sizes.Depth) tokens) → Fails e (typed names o rest ts)
not_parsed names o rest ts tokens e scanned h =
    let all : Fails e (unit_read (limit_of sizes.Depth) tokens >>= (λ tree. unit_in tree o rest)) = fails_on e (unit_read (limit_of sizes.Depth) tokens) (λ tree. unit_in tree o rest) h in
    subst (λ (y : Result (List Token) Fault). Fails e (y >>= (λ tokens. unit_read (limit_of sizes.Depth) tokens >>= (λ tree. unit_in tree o rest)))) (sym scanned) all

pub is_typed : {X : Type 0} (view : X → UnitTy) (names : List (List ℕ)) (o : Options) (rest : Name) (ts : List PpToken) (tokens : List Token) (tree : UnitTree) (r : Result X Refusal)
    → tokens_of names ts ≡ Ok tokens → unit_read (limit_of sizes.Depth) tokens ≡ Ok tree → Gives view r (unit_in tree o rest) → Gives view r (typed names o rest ts)
is_typed view names o rest ts tokens tree r scanned parsed h =
    let behind : Gives view r (unit_read (limit_of sizes.Depth) tokens >>= (λ tree. unit_in tree o rest)) = subst (λ (y : Result UnitTree Fault). Gives view r (y >>= (λ tree. unit_in tree o rest))) (sym parsed) h in
    subst (λ (y : Result (List Token) Fault). Gives view r (y >>= (λ tokens. unit_read (limit_of sizes.Depth) tokens >>= (λ tree. unit_in tree o rest)))) (sym scanned) behind

-- a stage's refusal is one of the file, or want of memory
in_file_stops : {A : Type 0} (paths : List (List ℕ)) (e r : Refusal) (y : Result A Fault) → Fails e y → Located paths e r → IsFree r ⊎ in_file paths y (Err r)
in_file_stops {A} paths (refusals.At code p) r y h located = inr (subst (λ (x : Result A Fault). in_file paths x (Err r)) (sym h) (ap Err located))
in_file_stops {A} paths (refusals.TooLarge limit value) r y h (inl same) = inr (subst (λ (x : Result A Fault). in_file paths x (Err r)) (sym h) (ap Err same))
in_file_stops {A} paths (refusals.TooLarge limit value) r y h (inr memory) = inl (subst IsFree (sym memory) tt)
in_file_stops {A} paths refusals.OutOfMemory r y h located = inl (subst IsFree (sym located) tt)
in_file_stops {A} paths e r y h located = absurd h

in_file_goes : {A : Type 0} (paths : List (List ℕ)) (y : Result A Fault) (a : A) → y ≡ Ok a → in_file paths y (Ok a)
in_file_goes {A} paths y a h = subst (λ (x : Result A Fault). in_file paths x (Ok a)) (sym h) refl

pub file_stops : (c : Command) (rest : Name) (path : List ℕ) (names : List (List ℕ)) (e : Refusal) → IsFree e ⊎ preprocessed c.held c.options c.defines c.folders path names (Err e) → IsFree e ⊎ file_typed c rest path names (Err e)
file_stops c rest path names e h = stops (preprocessed c.held c.options c.defines c.folders path names) (λ x. in_file x.0.files (typed x.1 c.options rest x.0.tokens) then λ t. just (Ok (t, x.1))) e h

pub file_refused : (c : Command) (rest : Name) (path : List ℕ) (names known : List (List ℕ)) (u : PpUnit) (e r : Refusal) → preprocessed c.held c.options c.defines c.folders path names (Ok (u, known)) → Fails e (typed known c.options rest u.tokens) → Located u.files e r → IsFree r ⊎ file_typed c rest path names (Err r)
file_refused c rest path names known u e r before h located =
    let here = in_file_stops u.files e r (typed known c.options rest u.tokens) h located in
    goes_on {X = UnitTy × List (List ℕ)} (λ x. x) (preprocessed c.held c.options c.defines c.folders path names) (λ x. in_file x.0.files (typed x.1 c.options rest x.0.tokens) then λ t. just (Ok (t, x.1))) (u, known) (Err r) before
    (stops (in_file u.files (typed known c.options rest u.tokens)) (λ t. just (Ok (t, known))) r here)

pub file_comes : (c : Command) (rest : Name) (path : List ℕ) (names known : List (List ℕ)) (u : PpUnit) (t : UnitTy) → preprocessed c.held c.options c.defines c.folders path names (Ok (u, known)) → typed known c.options rest u.tokens ≡ Ok t → file_typed c rest path names (Ok (t, known))
file_comes c rest path names known u t before h = ((u, known), before, (t, in_file_goes u.files (typed known c.options rest u.tokens) t h, refl))

-- ---- all files

-- the first spelling that is known has the first name
pub rest_is : (names : List (List ℕ)) (n : Name) → names ≡ with_spelling [] rest_spelling → name_of names rest_spelling ≡ Some n.0 → n ≡ rest_name
rest_is names n table known =
    let first : Some 0 ≡ Some n.0 = subst (λ (l : List (List ℕ)). name_of l rest_spelling ≡ Some n.0) table known in
    sym (ap (λ (o : Option ℕ). let m : Name = record { 0 = unwrap_or o 0 } in m) first)

pub files_stop : (c : Command) (rest : Name) (path : List ℕ) (paths all : List (List ℕ)) (done : List UnitTy) (names : List (List ℕ)) (e : Refusal) → all ≡ path ∷ paths → IsFree e ⊎ file_typed c rest path names (Err e) → IsFree e ⊎ files_typed c rest all done names (Err e)
files_stop c rest path paths all done names e is h = subst (λ (l : List (List ℕ)). IsFree e ⊎ files_typed c rest l done names (Err e)) (sym is) (stops (file_typed c rest path names) (λ x. files_typed c rest paths (done ++ x.0 ∷ []) x.1) e h)

pub files_go : (c : Command) (rest : Name) (path : List ℕ) (paths all : List (List ℕ)) (done : List UnitTy) (names known : List (List ℕ)) (t : UnitTy) (z : Result (List UnitTy × List (List ℕ)) Refusal)
    → all ≡ path ∷ paths → file_typed c rest path names (Ok (t, known)) → files_typed c rest paths (done ++ t ∷ []) known z → files_typed c rest all done names z
files_go c rest path paths all done names known t z is h more = subst (λ (l : List (List ℕ)). files_typed c rest l done names z) (sym is) (goes (file_typed c rest path names) (λ x. files_typed c rest paths (done ++ x.0 ∷ []) x.1) (t, known) z h more)

pub one_unit_more : (units : List Parts) (unit : Parts) (more : List Parts) → more ≡ units ++ unit ∷ [] → map unit_of more ≡ map unit_of units ++ unit_of unit ∷ []
one_unit_more units unit more h = ap (map unit_of) h ∙ map-append unit_of units (unit ∷ [])

-- ---- the program

joining_goes : {A : Type 0} (y : Result A joins.JoinFault) (a : A) → y ≡ Ok a → joining y (Ok a)
joining_goes {A} y a h = subst (λ (x : Result A joins.JoinFault). joining x (Ok a)) (sym h) refl

joining_stops : {A : Type 0} (y : Result A joins.JoinFault) (e : Refusal) → joins.Fails e y → IsFree e ⊎ joining y (Err e)
joining_stops {A} y refusals.OutOfMemory h = inl tt
joining_stops {A} y (refusals.Link kind name) h = inr (subst (λ (x : Result A joins.JoinFault). joining x (Err (refusals.Link kind name))) (sym h) refl)
joining_stops {A} y e h = absurd h

pub not_joined : (units : List UnitTy) (names : List (List ℕ)) (e : Refusal) → joins.Fails e (joined names units) → IsFree e ⊎ joining (joined names units) (Err e)
not_joined units names e h = joining_stops (joined names units) e h

pub is_joined : (units : List UnitTy) (names : List (List ℕ)) (p : UnitTy × ℕ) → joined names units ≡ Ok p → joining (joined names units) (Ok p)
is_joined units names p h = joining_goes (joined names units) p h

pub tested_so : {E P : Type 0} (r : Result Bool E) (so : Bool) → r ≡ Ok so → so ≡ true → IfOk r (λ (b : Bool). IsTrue b ↔ P) → P
tested_so {E} {P} r so is true_is both =
    let met : IsTrue so ↔ P = subst (λ (x : Result Bool E). IfOk x (λ (b : Bool). IsTrue b ↔ P)) is both in
    met.0 true_is

-- a refusal of joining or generating, seen from outside
pub passes : {A : Type 0} (P : Answers A) (e r : Refusal) → IsFree e ⊎ P (Err e) → Passed e r → IsFree r ⊎ P (Err r)
passes P (refusals.Link kind name) r h same = subst (λ (x : Refusal). IsFree x ⊎ P (Err x)) (sym same) h
passes P (refusals.TooLarge limit value) r h (inl same) = subst (λ (x : Refusal). IsFree x ⊎ P (Err x)) (sym same) h
passes P (refusals.TooLarge limit value) r h (inr memory) = inl (subst IsFree (sym memory) tt)
passes P e r h memory = inl (subst IsFree (sym memory) tt)

-- ---- the whole

pub begun_stops : (c : Command) (paths : List (List ℕ)) (n : Name) (names : List (List ℕ)) (e : Refusal) → n ≡ rest_name → names ≡ rest_spelling ∷ [] → IsFree e ⊎ files_typed c n paths [] names (Err e) → IsFree e ⊎ units_typed c paths (Err e)
begun_stops c paths n names e name known h =
    subst (λ (m : Name). IsFree e ⊎ files_typed c m paths [] (rest_spelling ∷ []) (Err e)) name
    (subst (λ (l : List (List ℕ)). IsFree e ⊎ files_typed c n paths [] l (Err e)) known h)

pub begun_goes : (c : Command) (paths : List (List ℕ)) (n : Name) (names : List (List ℕ)) (z : List UnitTy × List (List ℕ)) → n ≡ rest_name → names ≡ rest_spelling ∷ [] → files_typed c n paths [] names (Ok z) → units_typed c paths (Ok z)
begun_goes c paths n names z name known h =
    subst (λ (m : Name). files_typed c m paths [] (rest_spelling ∷ []) (Ok z)) name
    (subst (λ (l : List (List ℕ)). files_typed c n paths [] l (Ok z)) known h)

pub too_many : (c : Command) (paths : List (List ℕ)) → nat_lt (limit_of sizes.Units) (length paths) ≡ true → programs c paths (Err (refusals.TooLarge sizes.Units (length paths)))
too_many c paths h = subst (λ (b : Bool). by_test b (just (Err (refusals.TooLarge sizes.Units (length paths)))) (units_typed c paths then units_joined) (Err (refusals.TooLarge sizes.Units (length paths)))) (sym h) refl

few : (c : Command) (paths : List (List ℕ)) (z : Result ((UnitTy × ℕ) × List (List ℕ)) Refusal) → length paths ≤ limit_of sizes.Units → (units_typed c paths then units_joined) z → programs c paths z
few c paths z h = subst (λ (b : Bool). (units_typed c paths then units_joined) z → by_test b (just (Err (refusals.TooLarge sizes.Units (length paths)))) (units_typed c paths then units_joined) z) (sym (le-ltb (limit_of sizes.Units) (length paths) h)) (λ x. x)

few_err : (c : Command) (paths : List (List ℕ)) (e : Refusal) → length paths ≤ limit_of sizes.Units → IsFree e ⊎ (units_typed c paths then units_joined) (Err e) → IsFree e ⊎ programs c paths (Err e)
few_err c paths e h (inl free) = inl free
few_err c paths e h (inr stopped) = inr (few c paths (Err e) h stopped)

pub not_typed : (c : Command) (paths : List (List ℕ)) (e : Refusal) → length paths ≤ limit_of sizes.Units → IsFree e ⊎ units_typed c paths (Err e) → IsFree e ⊎ programs c paths (Err e)
not_typed c paths e h stopped = few_err c paths e h (stops (units_typed c paths) units_joined e stopped)

pub no_program : (c : Command) (paths : List (List ℕ)) (units : List UnitTy) (names : List (List ℕ)) (e r : Refusal) → length paths ≤ limit_of sizes.Units → units_typed c paths (Ok (units, names)) → IsFree e ⊎ joining (joined names units) (Err e) → Passed e r → IsFree r ⊎ programs c paths (Err r)
no_program c paths units names e r h before stopped passed =
    let here : IsFree r ⊎ (joining (joined names units) then λ p. just (Ok (p, names))) (Err r) = stops (joining (joined names units)) (λ p. just (Ok (p, names))) r (passes (joining (joined names units)) e r stopped passed) in
    few_err c paths r h (goes_on {X = (UnitTy × ℕ) × List (List ℕ)} (λ x. x) (units_typed c paths) units_joined (units, names) (Err r) before here)

pub is_program : (c : Command) (paths : List (List ℕ)) (units : List UnitTy) (names : List (List ℕ)) (p : UnitTy × ℕ) → length paths ≤ limit_of sizes.Units → units_typed c paths (Ok (units, names)) → joining (joined names units) (Ok p) → programs c paths (Ok (p, names))
is_program c paths units names p h before is = few c paths (Ok (p, names)) h ((units, names), before, (p, is, refl))

-- ---- its code

pub no_code : (c : Command) (paths : List (List ℕ)) (e : Refusal) → IsFree e ⊎ programs c paths (Err e) → IsFree e ⊎ compiled c paths (Err e)
no_code c paths e h = stops (programs c paths) (λ x. generated c.options x.1 x.0) e h

generated_comes : (o : Options) (names : List (List ℕ)) (parts : Parts) (main : ℕ) (r : Result Code Refusal) → IsGood names (unit_of parts) main → Gives (λ c. c) r (program_of parts main names (modes_of o)) → Comes (λ c. c) (generated o names (unit_of parts, main)) r
generated_comes o names parts main (Ok code) good h = (parts, refl, good, h)
generated_comes o names parts main (Err e) good h = inr (parts, refl, good, h)

pub not_generated : (c : Command) (paths : List (List ℕ)) (names : List (List ℕ)) (parts : Parts) (main : ℕ) (e r : Refusal) → programs c paths (Ok ((unit_of parts, main), names)) → IsGood names (unit_of parts) main
    → Fails e (program_of parts main names (modes_of c.options)) → Passed e r → IsFree r ⊎ compiled c paths (Err r)
not_generated c paths names parts main e r front good h passed =
    goes_on {X = Code} (λ x. x) (programs c paths) (λ x. generated c.options x.1 x.0) ((unit_of parts, main), names) (Err r) front
    (passes (generated c.options names (unit_of parts, main)) e r (generated_comes c.options names parts main (Err e) good h) passed)

pub is_compiled : (c : Command) (paths : List (List ℕ)) (names : List (List ℕ)) (parts : Parts) (main : ℕ) (code : Code) → programs c paths (Ok ((unit_of parts, main), names)) → IsGood names (unit_of parts) main
    → program_of parts main names (modes_of c.options) ≡ Ok code → compiled c paths (Ok code)
is_compiled c paths names parts main code front good h = (((unit_of parts, main), names), front, (parts, refl, good, h))
