-- A unit is decided once.
use Rattle.std.proofs.Common.{◌≡◌, ◌∙◌, ℕ, zero, suc, List, [], length, Bool, Result, Ok, Err, inl, inr, ap, sym}
use Rattle.c65_base.specs.declared.refusal.Refusal.{Refusal}
use Rattle.c65_base.specs.declared.refusal.Refusal.TheVariants as refusals
use Rattle.c65_base.specs.declared.refusal.Size.TheVariants as sizes
use Rattle.c65_lex.specs.declared.token.PpUnit.{PpUnit}
use Rattle.c65_macro.specs.Table.{Table}
use Rattle.c65_ppfile.specs.declared.include.Header.{Header}
use Rattle.c65_ppdir.specs.declared.unit.Event.{Event}
use Rattle.c65_ppdir.specs.declared.unit.Event.TheVariants as events
use Rattle.c65_ppfile.specs.Finding.{path_at}
use Rattle.c65_ppfile.specs.Headers.{path_of, text_behind}
use Rattle.c65_ppdir.specs.LineActions.{turn}
use Rattle.c65_ppdir.specs.Opening.{opened}
use Rattle.c65_ppline.specs.Relations.{Answers, just, Comes}
use Rattle.c65_ppfile.specs.Search.{paths_of}
use Rattle.c65_ppdir.specs.Standing.{Standing, learned, literal_of, inner, opening, has_room, event_of, advanced, first_standing}
use Rattle.c65_ppdir.specs.Units.{Surroundings, Reached, Source, file, built_in, source_of, with_path, opening_file, with_built_in, entering, with_room, including, located, by_path, unit_of, rest_by, rest_from, rest, macros, main_of, first_reached, begun, unit_read, around}
use Rattle.c65_ppdir_law.specs.Once.{IsFinal, IsDecided, AreAlike, HasOne, UnitsAreOne, IsAnswered}
use Rattle.c65_ppdir_law.proofs.Actions.{one_turn}
use Rattle.c65_ppdir_law.proofs.Alike.{alike_then, one_then, one_behind, one_just, one_test, none_alike, alike_none, no_value, is_error}
use Rattle.c65_ppdir_law.proofs.Definitions.{one_learned, one_macros}

one_opening : (number : ℕ) (path bytes : List ℕ) (s : Standing) → HasOne (opening number path bytes s)
one_opening number path bytes s = one_behind (learned s.here.names (literal_of path)) (λ x. Ok (inner (opened number x.0 bytes) x.1 s)) (one_learned s.here.names (literal_of path))

one_opening_file : (path bytes : List ℕ) (r : Reached) → HasOne (opening_file path bytes r)
one_opening_file path bytes r = one_behind (opening (length r.paths) path bytes r.standing) (λ s. Ok (with_path path r.paths s)) (one_opening (length r.paths) path bytes r.standing)

one_entering : (signed : Bool) (source : Source) (r : Reached) → HasOne (entering signed source r)
one_entering signed (file path bytes) r = one_opening_file path bytes r
one_entering signed (built_in h) r = one_opening_file (path_of h) (text_behind signed r.standing.headers h) (with_built_in h r)

one_including : (a : Surroundings) (h : Header) (number : ℕ) (r : Reached) → HasOne (including a h number r)
one_including a h number r =
    let source = source_of a.held (paths_of (path_at r.paths number) a.folders h.is_quoted h.name) h.name in
    one_then (just source) (λ s. with_room a.signed s r) (one_just source)
    (λ s. one_test (has_room r.standing) (entering a.signed s r) (just (Err (refusals.TooLarge sizes.Includes 65))) (one_entering a.signed s r) (one_just (Err (refusals.TooLarge sizes.Includes 65))))

one_advanced : (s : Standing) → HasOne (advanced s)
one_advanced s = one_behind (turn s.here) (λ x. Ok (event_of x.0 s.here.file.number x.1 s)) (one_turn s.here)

final_located : (paths : List (List ℕ)) (e : Refusal) → IsFinal (located paths e) → IsFinal e
final_located paths (refusals.At code place) h = tt
final_located paths refusals.OutOfMemory h = h
final_located paths refusals.ReadFault h = h
final_located paths _ h = tt

one_by_path : {A : Type 0} (paths : List (List ℕ)) (P : Answers A) → HasOne P → HasOne (by_path paths P)
one_by_path paths P h (Ok x) (Ok y) d e p q = h (Ok x) (Ok y) d e p q
one_by_path paths P h (Ok x) (Err g) d e p (f, q, a) = let last : IsFinal (located paths f) = rw a at e in absurd (no_value x f (h (Ok x) (Err f) d (final_located paths f last) p q))
one_by_path paths P h (Err g) (Ok y) d e (f, p, a) q = let last : IsFinal (located paths f) = rw a at d in absurd (no_value y f (sym (h (Err f) (Ok y) (final_located paths f last) e p q)))
one_by_path {A} paths P h (Err g) (Err g') d e (f, p, a) (f', q, b) =
    let first : IsFinal (located paths f) = rw a at d in
    let last : IsFinal (located paths f') = rw b at e in
    let same : f ≡ f' = is_error {A = A} f f' (h (Err f) (Err f') (final_located paths f first) (final_located paths f' last) p q) in
    ap (λ (x : Refusal). Err x) (a ∙ (ap (λ (x : Refusal). located paths x) same ∙ sym b))

abbrev Whole : Type 0
Whole = PpUnit × List (List ℕ)

alike_rest_by : (go go' : Reached → Answers Whole) (a : Surroundings) (event : Event) (r : Reached) → ((q : Reached) → AreAlike (go q) (go' q)) → AreAlike (rest_by go a event r) (rest_by go' a event r)
alike_rest_by go go' a events.Line r h = h r
alike_rest_by go go' a (events.Include header number) r h = alike_then (including a header number r) go go' (one_including a header number r) h
alike_rest_by go go' a events.End r h = one_just (Ok (unit_of r.standing.here.given r.paths, r.standing.here.names))

alike_rest : (n m : ℕ) (a : Surroundings) (r : Reached) → AreAlike (rest_from n a r) (rest_from m a r)
alike_rest zero m a r = none_alike (rest_from m a r)
alike_rest (suc n) zero a r = alike_none (rest_from (suc n) a r)
alike_rest (suc n) (suc m) a r =
    alike_then (by_path r.paths (advanced r.standing)) _ _ (one_by_path r.paths (advanced r.standing) (one_advanced r.standing)) (λ x. alike_rest_by (rest_from n a) (rest_from m a) a x.0 (record r { standing = x.1 }) (λ q. alike_rest n m a q))

one_rest : (a : Surroundings) (r : Reached) → HasOne (rest a r)
one_rest a r y z d e (n, p) (m, q) = alike_rest n m a r y z d e p q

one_first : (paths : List (List ℕ)) (table : Table) (path bytes : List ℕ) (names : List (List ℕ)) → HasOne (first_reached paths table path bytes names)
one_first paths table path bytes names = one_behind (first_standing table path bytes names) (λ s. Ok (with_path path paths s)) (one_behind (learned names (literal_of path)) _ (one_learned names (literal_of path)))

one_begun : (a : Surroundings) (table : Table) (path : List ℕ) (names : List (List ℕ)) → HasOne (begun a table path names)
one_begun a table path names = one_then (just (main_of path (a.held path))) (λ bytes. first_reached [] table path bytes names) (one_just (main_of path (a.held path))) (λ bytes. one_first [] table path bytes names)

one_unit : (a : Surroundings) (path : List ℕ) (table : Table) (names : List (List ℕ)) → HasOne (unit_read a path table names)
one_unit a path table names = one_then (begun a table path names) (rest a) (one_begun a table path names) (one_rest a)

pub units_are_one : UnitsAreOne
units_are_one held options defines folders path names =
    one_then (macros options defines names) (λ x. unit_read (around held folders options.signed_chars) path x.0 x.1) (one_macros options defines names) (λ x. one_unit (around held folders options.signed_chars) path x.0 x.1)

-- what is decided is answered
pub is_answered : {X A : Type 0} (view : X → A) (P : Answers A) (r : Result X Refusal) (z : Result A Refusal) → HasOne P → Comes view P r → IsDecided z → P z → IsAnswered view r z
is_answered view P (Ok x) z one h d p = one z (Ok (view x)) d tt p h
is_answered view P (Err e) z one (inl h) d p = inl h
is_answered view P (Err refusals.OutOfMemory) z one (inr h) d p = inl tt
is_answered view P (Err refusals.ReadFault) z one (inr h) d p = inl tt
is_answered view P (Err e) z one (inr h) d p = inr (one z (Err e) d tt p h)
