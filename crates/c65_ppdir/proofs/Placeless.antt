-- Refusals without a place, which stay as they are where a fault's file is told by its path.
use Rattle.std.proofs.Common.{◌≡◌, ℕ, List, [], ◌∷◌, ◌++◌, length, Bool, true, false, ◌==◌, if◌then◌else◌, Option, Some, None, Ok, Err, inl, inr, refl}
use Rattle.std.specs.Prelude.{⊤, pos}
use Rattle.c65_base.specs.declared.code.Code.{Code}
use Rattle.c65_base.specs.declared.names.Name.{Name}
use Rattle.c65_base.specs.declared.refusal.Pos.{Pos}
use Rattle.c65_base.specs.declared.refusal.Refusal.{Refusal}
use Rattle.c65_base.specs.declared.refusal.Refusal.TheVariants as refusals
use Rattle.c65_base.specs.declared.refusal.Size.TheVariants as sizes
use Rattle.c65_base.specs.Answers.{at, large}
use Rattle.c65_macro.specs.Items.{Outcome, faulty, done, learn_as}
use Rattle.c65_base.specs.Names.{name_of}
use Rattle.c65_macro.specs.Table.{Table}
use Rattle.c65_ppfile.specs.declared.headers.BuiltIn.{BuiltIn}
use Rattle.c65_ppfile.specs.declared.include.Header.{Header}
use Rattle.c65_ppfile.specs.Finding.{first_held, header_of, path_at}
use Rattle.c65_ppfile.specs.Headers.{path_of, text_behind}
use Rattle.c65_ppdir.specs.Files.{OpenFile}
use Rattle.c65_ppdir.specs.Opening.{opened}
use Rattle.c65_ppline.specs.Relations.{Answers, just, by_test, ◌then◌, IsFree}
use Rattle.c65_ppfile.specs.Search.{paths_of}
use Rattle.c65_ppdir.specs.Standing.{Standing, inner, learned, literal_of, opening, has_room, first_standing}
use Rattle.c65_ppdir.specs.Units.{Surroundings, Reached, Source, file, built_in, or_built_in, source_of, with_path, opening_file, with_built_in, entering, with_room, including, located, main_of, begun, first_reached}

abbrev pub IsPlaceless : Refusal → Type 0
IsPlaceless (refusals.At code place) = ⊥
IsPlaceless _ = ⊤

pub is_located : (paths : List (List ℕ)) (e : Refusal) → IsPlaceless e → located paths e ≡ e
is_located paths (refusals.At code place) h = absurd h
is_located paths _ h = refl

pub free_located : (paths : List (List ℕ)) (e : Refusal) → IsFree e → IsFree (located paths e)
free_located paths refusals.OutOfMemory h = tt
free_located paths refusals.ReadFault h = tt
free_located paths _ h = absurd h

then_placeless : {A B : Type 0} (P : Answers A) (f : A → Answers B) → ((e : Refusal) → P (Err e) → IsPlaceless e) → ((a : A) (e : Refusal) → f a (Err e) → IsPlaceless e) → (e : Refusal) → (P then f) (Err e) → IsPlaceless e
then_placeless P f p q e (inl h) = p e h
then_placeless P f p q e (inr (a, x, h)) = q a e h

never : {A : Type 0} (x : A) (e : Refusal) → just (Ok x) (Err e) → IsPlaceless e
never x e h = cc

behind_placeless : {A B : Type 0} (P : Answers A) (f : A → B) → ((e : Refusal) → P (Err e) → IsPlaceless e) → (e : Refusal) → (P then λ a. just (Ok (f a))) (Err e) → IsPlaceless e
behind_placeless P f p e (inl h) = p e h
behind_placeless P f p e (inr (a, x, h)) = never (f a) e h

full_place : (b : Bool) (names : List (List ℕ)) (s : List ℕ) (code : Code) (place : Pos) → (let x : Outcome Name = faulty (at code place) in (if b then faulty (large sizes.Names 65536) else done (names ++ s ∷ []) (record { 0 = length names })) ≡ x) → ⊥
full_place true names s code place h = cc
full_place false names s code place h = cc

learn_place : (names : List (List ℕ)) (s : List ℕ) (o : Option ℕ) (code : Code) (place : Pos) → learn_as names s o ≡ faulty (at code place) → ⊥
learn_place names s (Some n) code place h = cc
learn_place names s None code place h = full_place (length names == 65535) names s code place h

learned_placeless : (names : List (List ℕ)) (s : List ℕ) (e : Refusal) → learned names s (Err e) → IsPlaceless e
learned_placeless names s (refusals.At code place) h = learn_place names s (name_of names s) code place h.1
learned_placeless names s _ h = tt

opening_placeless : (n : ℕ) (path bytes : List ℕ) (s : Standing) (e : Refusal) → opening n path bytes s (Err e) → IsPlaceless e
opening_placeless n path bytes s e h = behind_placeless (learned s.here.names (literal_of path)) (λ x. inner (opened n x.0 bytes) x.1 s) (learned_placeless s.here.names (literal_of path)) e h

file_placeless : (path bytes : List ℕ) (r : Reached) (e : Refusal) → opening_file path bytes r (Err e) → IsPlaceless e
file_placeless path bytes r e h = behind_placeless (opening (length r.paths) path bytes r.standing) (λ s. with_path path r.paths s) (opening_placeless (length r.paths) path bytes r.standing) e h

entering_placeless : (signed : Bool) (source : Source) (r : Reached) (e : Refusal) → entering signed source r (Err e) → IsPlaceless e
entering_placeless signed (file path bytes) r e h = file_placeless path bytes r e h
entering_placeless signed (built_in h) r e k = file_placeless (path_of h) (text_behind signed r.standing.headers h) (with_built_in h r) e k

too_large : (e : Refusal) → just {A = Reached} (Err (refusals.TooLarge sizes.Includes 65)) (Err e) → IsPlaceless e
too_large (refusals.At code place) h = cc
too_large _ h = tt

by_room : (b : Bool) (P : Answers Reached) → ((e : Refusal) → P (Err e) → IsPlaceless e) → (e : Refusal) → by_test b P (just (Err (refusals.TooLarge sizes.Includes 65))) (Err e) → IsPlaceless e
by_room true P p e h = p e h
by_room false P p e h = too_large e h

missing_place : (name : List ℕ) (o : Option (List ℕ × List ℕ)) (header : Option BuiltIn) (code : Code) (place : Pos) → Err (refusals.At code place) ≡ or_built_in name o header → ⊥
missing_place name (Some f) header code place h = cc
missing_place name None (Some header) code place h = cc
missing_place name None None code place h = cc

source_placeless : (name : List ℕ) (o : Option (List ℕ × List ℕ)) (header : Option BuiltIn) (e : Refusal) → just (or_built_in name o header) (Err e) → IsPlaceless e
source_placeless name o header (refusals.At code place) h = missing_place name o header code place h
source_placeless name o header _ h = tt

-- an #include is refused without a place
pub including_placeless : (a : Surroundings) (header : Header) (number : ℕ) (r : Reached) (e : Refusal) → including a header number r (Err e) → IsPlaceless e
including_placeless a header number r e h =
    let paths = paths_of (path_at r.paths number) a.folders header.is_quoted header.name in
    then_placeless (just (source_of a.held paths header.name)) (λ source. with_room a.signed source r) (source_placeless header.name (first_held a.held paths) (header_of header.name))
    (λ source e k. by_room (has_room r.standing) (entering a.signed source r) (entering_placeless a.signed source r) e k) e h

main_place : (path : List ℕ) (o : Option (List ℕ)) (code : Code) (place : Pos) → Err (refusals.At code place) ≡ main_of path o → ⊥
main_place path None code place h = cc
main_place path (Some bytes) code place h = cc

main_placeless : (path : List ℕ) (o : Option (List ℕ)) (e : Refusal) → just (main_of path o) (Err e) → IsPlaceless e
main_placeless path o (refusals.At code place) h = main_place path o code place h
main_placeless path o _ h = tt

abbrev first : Table → Name → List (List ℕ) → OpenFile → Standing
first table name names f = record { here = record { table = record table { file = name; offset = pos 0 }; given = []; list = []; file = f; names = names }; outer = []; headers = [] }

first_placeless : (table : Table) (path bytes : List ℕ) (names : List (List ℕ)) (e : Refusal) → first_standing table path bytes names (Err e) → IsPlaceless e
first_placeless table path bytes names e h = behind_placeless (learned names (literal_of path)) (λ x. first table x.0 x.1 (opened 0 x.0 bytes)) (learned_placeless names (literal_of path)) e h

first_file_placeless : (paths : List (List ℕ)) (table : Table) (path bytes : List ℕ) (names : List (List ℕ)) (e : Refusal) → first_reached paths table path bytes names (Err e) → IsPlaceless e
first_file_placeless paths table path bytes names e h = behind_placeless (first_standing table path bytes names) (λ s. with_path path paths s) (first_placeless table path bytes names) e h

-- the unit's own file is refused without a place
pub begun_placeless : (a : Surroundings) (table : Table) (path : List ℕ) (names : List (List ℕ)) (e : Refusal) → begun a table path names (Err e) → IsPlaceless e
begun_placeless a table path names e h = then_placeless (just (main_of path (a.held path))) (λ bytes. first_reached [] table path bytes names) (main_placeless path (a.held path)) (λ bytes e k. first_file_placeless [] table path bytes names e k) e h
