-- What a read says of the file at a path, and the first of several paths.
use Rattle.std.proofs.Common.{◌≡◌, ◌∙◌, ℕ, List, [], ◌∷◌, ◌++◌, length, take, drop, Option, Some, None, Ok, Err, refl, ap, sym, subst, append_assoc}
use Rattle.std.proofs.lemmas.List.{take-append-drop}
use Rattle.std.proofs.Math.Seq.{drop-append_seam}
use Rattle.c65_base.specs.declared.refusal.Refusal.{Refusal}
use Rattle.c65_base.specs.declared.refusal.Refusal.TheVariants as refusals
use Rattle.c65_io.specs.Contents.{Contents, ReadsFile, ReadsFrom}
use Rattle.c65_io.specs.declared.outside.FileFault.TheVariants as faults
use Rattle.c65_ppfile.specs.declared.files.Found.{Found}
use Rattle.c65_ppfile.specs.declared.files.Found.TheVariants as kinds
use Rattle.c65_ppfile.specs.declared.include.Header.{Header}
use Rattle.c65_ppline.specs.Relations.{IsFree}
use Rattle.c65_ppfile.specs.Search.{paths_of}
use Rattle.c65_ppfile.specs.Finding.{Begins, BeginsAt, or_next, first_held, IsFile, IsFirst, IsThere, IsSought, Seeks}

begins_there : (o : Option (List ℕ)) (into : List ℕ) (n : ℕ) → ReadsFrom o 0 into (Ok n) → Begins o (take n into)
begins_there None into n h = absurd h
begins_there (Some bytes) into n h = (drop n bytes, sym (take-append-drop n bytes) ∙ ap (λ (xs : List ℕ). xs ++ drop n bytes) (sym h.0))

-- a read from the start
pub begins_at : (c : Contents) (path into : List ℕ) (n : ℕ) → ReadsFile c path 0 into (Ok n) → BeginsAt c path (take n into)
begins_at None path into n h = tt
begins_at (Some held) path into n h = begins_there (held path) into n h

first_there : (held : List ℕ → Option (List ℕ)) (o : Option (List ℕ)) (p : List ℕ) (later : Option (List ℕ × List ℕ)) (path front : List ℕ) → held p ≡ o → (IsFile later path front → Begins (held path) front) → IsFile (or_next p o later) path front → Begins (held path) front
first_there held None p later path front e more h = more h
first_there held (Some bytes) p later path front e more h = subst (λ (o : Option (List ℕ)). Begins o front) (sym (ap (λ (q : List ℕ). held q) h.0 ∙ e)) h.1

first_begins : (held : List ℕ → Option (List ℕ)) (paths : List (List ℕ)) (path front : List ℕ) → IsFile (first_held held paths) path front → Begins (held path) front
first_begins held [] path front h = absurd h
first_begins held (p ∷ ps) path front h = first_there held (held p) p (first_held held ps) path front refl (λ g. first_begins held ps path front g) h

first_is_there : (c : Contents) (paths : List (List ℕ)) (path front : List ℕ) → IsFirst c paths path front → BeginsAt c path front
first_is_there None paths path front h = tt
first_is_there (Some held) paths path front h = first_begins held paths path front h

sought_is_there : (c : Contents) (paths : List (List ℕ)) (name : List ℕ) (found : Found) → IsSought c paths name found → IsThere c found
sought_is_there c paths name (kinds.File path front missing) h = (first_is_there c paths path front.items h.0, h.1)
sought_is_there c paths name (kinds.BuiltIn header) h = tt

-- what was found for a header is there, in files that hold the same
pub found_is_there : (c d : Contents) (including : List ℕ) (folders : List (List ℕ)) (header : Header) (found : Found) → d ≡ c → Seeks c including folders header (Ok found) → IsThere d found
found_is_there c d including folders header found same h =
    subst (λ (k : Contents). IsThere k found) (sym same) (sought_is_there c (paths_of including folders header.is_quoted header.name) header.name found h)

-- a refusal that may come in the place of each answer
pub free_seeks : (c : Contents) (including : List ℕ) (folders : List (List ℕ)) (header : Header) (e : Refusal) → IsFree e → Seeks c including folders header (Err e)
free_seeks c including folders header (refusals.Missing path) h = absurd h
free_seeks c including folders header _ h = h
