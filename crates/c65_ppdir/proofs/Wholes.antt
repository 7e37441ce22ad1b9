-- A whole unit: its own file, and what follows.
use Rattle.std.proofs.Common.{◌≡◌, ◌⊎◌, ℕ, List, [], ◌∷◌, ◌++◌, Bool, Option, Some, None, Result, Ok, Err, inl, inr, refl, ap, sym, subst}
use Rattle.c65_base.specs.declared.options.Options.{Options}
use Rattle.c65_base.specs.declared.refusal.Refusal.{Refusal}
use Rattle.c65_base.specs.declared.refusal.Refusal.TheVariants as refusals
use Rattle.c65_io.specs.Contents.{Contents}
use Rattle.c65_ppfile.specs.Finding.{Begins, BeginsAt, Misses, MissesInUnit}
use Rattle.c65_ppdir.specs.declared.unit.Unit.{Unit as UnitParts}
use Rattle.c65_lex.specs.declared.token.PpUnit.{PpUnit}
use Rattle.c65_macro.specs.Answered
use Rattle.c65_macro.specs.Predefined.{initial}
use Rattle.c65_macro.specs.Table.{Table}
use Rattle.c65_lex.specs.declared.define.Define.{Define}
use Rattle.c65_ppdir.specs.CommandLine.{all_defined}
use Rattle.c65_ppline.specs.Relations.{Answers, just, ◌then◌, IsFree}
use Rattle.c65_ppdir.specs.Standing.{Standing, first_standing}
use Rattle.c65_ppdir.specs.Units.{Held, Surroundings, Reached, around, located, rest, macros, main_of, first_reached, begun, unit_read, preprocessed, with_path, ComesAt, IsToldUnit, AreToldWhere}
use Rattle.c65_ppdir.proofs.Placeless.{is_located, free_located, begun_placeless}
use Rattle.c65_ppline.proofs.Relations.{goes, then_onward}

main_there : (path bytes : List ℕ) (o : Option (List ℕ)) → o ≡ Some bytes → Ok bytes ≡ main_of path o
main_there path bytes o e = sym (ap (λ (x : Option (List ℕ)). main_of path x) e)

-- the unit's own file
begun_is : (a : Surroundings) (table : Table) (path bytes : List ℕ) (names paths : List (List ℕ)) → a.held path ≡ Some bytes → paths ≡ [] → (z : Result Reached Refusal) → first_reached paths table path bytes names z → begun a table path names z
begun_is a table path bytes names paths there nil z h =
    goes (just (main_of path (a.held path))) (λ bs. first_reached [] table path bs names) bytes z (main_there path bytes (a.held path) there) (subst (λ (ps : List (List ℕ)). first_reached ps table path bytes names z) nil h)

-- it was read, and not opened
pub begin_refused : {X : Type 0} (view : X → PpUnit × List (List ℕ)) (a : Surroundings) (path bytes : List ℕ) (table : Table) (names before paths : List (List ℕ)) (e : Refusal) → a.held path ≡ Some bytes → before ≡ []
    → IsFree e ⊎ first_reached before table path bytes names (Err e) → ComesAt paths view (unit_read a path table names) (Err e)
begin_refused view a path bytes table names before paths e there nil (inl h) = inl h
begin_refused view a path bytes table names before paths e there nil (inr h) =
    let stopped : begun a table path names (Err e) = begun_is a table path bytes names before there nil (Err e) h in
    inr (subst (λ (x : Refusal). unit_read a path table names (Err x)) (sym (is_located paths e (begun_placeless a table path names e stopped))) (inl stopped))

goes_at : {X A B : Type 0} (paths : List (List ℕ)) (view : X → B) (P : Answers A) (f : A → Answers B) (x : A) (r : Result X Refusal) → P (Ok x) → ComesAt paths view (f x) r → ComesAt paths view (P then f) r
goes_at paths view P f x (Ok y) p q = (x, p, q)
goes_at paths view P f x (Err e) p (inl q) = inl q
goes_at paths view P f x (Err e) p (inr q) = inr (inr (x, p, q))

-- it was opened, and the rest of the unit was read
pub unit_goes : {X : Type 0} (view : X → PpUnit × List (List ℕ)) (held : Held) (folders : List (List ℕ)) (signed signed' : Bool) (path bytes : List ℕ) (table : Table) (names before paths : List (List ℕ)) (q : Reached) (r : Result X Refusal)
    → held path ≡ Some bytes → before ≡ [] → first_reached before table path bytes names (Ok q) → signed' ≡ signed → ComesAt paths view (rest (around held folders signed') q) r → ComesAt paths view (unit_read (around held folders signed) path table names) r
unit_goes view held folders signed signed' path bytes table names before paths q r there nil h same more =
    let a = around held folders signed in
    goes_at paths view (begun a table path names) (rest a) q r
    (begun_is a table path bytes names before there nil (Ok q) h)
    (subst (λ (b : Bool). ComesAt paths view (rest (around held folders b) q) r) same more)

-- a refusal whose file is told by its path
refused_at : {X A : Type 0} (view : X → A) (paths : List (List ℕ)) (P : Answers A) (e other : Refusal) → other ≡ located paths e → ComesAt paths view P (Err e) → IsFree other ⊎ P (Err other)
refused_at view paths P e other same (inl h) = inl (subst (λ (x : Refusal). IsFree x) (sym same) (free_located paths e h))
refused_at view paths P e other same (inr h) = inr (subst (λ (x : Refusal). P (Err x)) (sym same) h)

-- the unit's own file is opened
pub begins : (table : Table) (path spelled bytes : List ℕ) (names before paths : List (List ℕ)) (s : Standing) → spelled ≡ path → first_standing table spelled bytes names (Ok s) → paths ≡ before ++ path ∷ [] → first_reached before table path bytes names (Ok (record { standing = s; paths = paths }))
begins table path spelled bytes names before paths s g h e = (s, subst (λ (p : List ℕ). first_standing table p bytes names (Ok s)) g h, ap (λ (ps : List (List ℕ)). Ok (record { standing = s; paths = ps })) e)

-- the predefined macros and those of the command line
pub macros_go : (o : Options) (ds : List Define) (names known now : List (List ℕ)) (m n : Table) → Answered.Gives (λ (t : Table). t) (Ok m) known (initial o names) → all_defined 0 ds m known (Ok (n, now)) → macros o ds names (Ok (n, now))
macros_go o ds names known now m n h k = ((m, known), h, k)

pub macros_stop : (o : Options) (ds : List Define) (names known : List (List ℕ)) (m : Table) (e : Refusal) → Answered.Gives (λ (t : Table). t) (Ok m) known (initial o names) → IsFree e ⊎ all_defined 0 ds m known (Err e) → IsFree e ⊎ macros o ds names (Err e)
macros_stop o ds names known m e h (inl k) = inl k
macros_stop o ds names known m e h (inr k) = inr (inr ((m, known), h, k))

behind_macros : (held : Held) (o : Options) (ds : List Define) (folders : List (List ℕ)) (path : List ℕ) (names known : List (List ℕ)) (m : Table) (e : Refusal) → macros o ds names (Ok (m, known))
    → IsFree e ⊎ unit_read (around held folders o.signed_chars) path m known (Err e) → IsFree e ⊎ preprocessed held o ds folders path names (Err e)
behind_macros held o ds folders path names known m e made (inl h) = inl h
behind_macros held o ds folders path names known m e made (inr h) = inr (inr ((m, known), made, h))

-- a unit is refused behind the macros
pub whole_stops : {X : Type 0} (view : X → PpUnit × List (List ℕ)) (held : Held) (o : Options) (ds : List Define) (folders : List (List ℕ)) (path : List ℕ) (names known paths : List (List ℕ)) (m : Table) (e other : Refusal) → macros o ds names (Ok (m, known)) → other ≡ located paths e
    → ComesAt paths view (unit_read (around held folders o.signed_chars) path m known) (Err e) → IsFree other ⊎ preprocessed held o ds folders path names (Err other)
whole_stops view held o ds folders path names known paths m e other made same h =
    behind_macros held o ds folders path names known m other made (refused_at view paths (unit_read (around held folders o.signed_chars) path m known) e other same h)

pub begins_not : (table : Table) (path spelled bytes : List ℕ) (names before : List (List ℕ)) (e : Refusal) → spelled ≡ path → IsFree e ⊎ first_standing table spelled bytes names (Err e) → IsFree e ⊎ first_reached before table path bytes names (Err e)
begins_not table path spelled bytes names before e g (inl h) = inl h
begins_not table path spelled bytes names before e g (inr h) = inr (inl (subst (λ (p : List ℕ). first_standing table p bytes names (Err e)) g h))

of_begins : (o : Option (List ℕ)) (front : List ℕ) → Begins o front → (bytes : List ℕ) × (o ≡ Some bytes) × Begins (Some bytes) front
of_begins None front h = absurd h
of_begins (Some bytes) front h = (bytes, refl, h)

-- the bytes of the unit's own file, of which the first were read
pub main_begins : (c : Contents) (held : Held) (path front : List ℕ) → c ≡ Some held → BeginsAt c path front → (bytes : List ℕ) × (held path ≡ Some bytes) × Begins (Some bytes) front
main_begins c held path front told h = of_begins (held path) front (subst (λ (k : Contents). BeginsAt k path front) told h)

told_first : (c : Contents) (path front : List ℕ) (u : UnitParts) → BeginsAt c path front → ((held : Held) (bytes : List ℕ) → held path ≡ Some bytes → Begins (Some bytes) front → IsToldUnit held u) → AreToldWhere c u
told_first None path front u h f = tt
told_first (Some held) path front u h f = let m = of_begins (held path) front h in f held m.0 m.1 m.2

pub told_main : (c d : Contents) (path front : List ℕ) (u : UnitParts) → d ≡ c → BeginsAt c path front → ((held : Held) (bytes : List ℕ) → held path ≡ Some bytes → Begins (Some bytes) front → IsToldUnit held u) → AreToldWhere d u
told_main c d path front u same h f = subst (λ (k : Contents). AreToldWhere k u) (sym same) (told_first c path front u h f)

missed : (T : Type 0) (c : Contents) (folders : List (List ℕ)) (path : List ℕ) (e : Refusal) → Misses {T = T} c folders (Err e) → MissesInUnit {T = T} c folders path (Err e)
missed T c folders path (refusals.Missing name) h = inr h
missed T c folders path _ h = tt

-- a header is missing behind the first line of a unit
pub unit_misses : (T : Type 0) (c d : Contents) (folders : List (List ℕ)) (path : List ℕ) (answer : Result T Refusal) → d ≡ c → Misses d folders answer → MissesInUnit c folders path answer
unit_misses T c d folders path (Ok x) same h = tt
unit_misses T c d folders path (Err e) same h = missed T c folders path e (subst (λ (k : Contents). Misses {T = T} k folders (Err e)) same h)
