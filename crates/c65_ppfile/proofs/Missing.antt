-- Where a header may be missing.
use Rattle.std.proofs.Common.{◌≡◌, ℕ, List, Err, sym, subst}
use Rattle.c65_base.specs.declared.refusal.Refusal.{Refusal}
use Rattle.c65_base.specs.declared.refusal.Refusal.TheVariants as refusals
use Rattle.c65_io.specs.Contents.{Contents}
use Rattle.c65_ppfile.specs.declared.include.Header.{Header}
use Rattle.c65_ppfile.specs.Counts.{Relocates}
use Rattle.c65_ppfile.specs.Search.{paths_of}
use Rattle.c65_ppfile.specs.Finding.{IsMissed, Includes, Misses, MissesInUnit}

of_name : (A B : Type 0) (c : Contents) (including : List ℕ) (folders : List (List ℕ)) (header : Header) (e : Refusal) → Includes {T = A} c including folders header (Err e) → Misses {T = B} c folders (Err e)
of_name A B c including folders header (refusals.Missing name) h =
    (including, header.is_quoted, subst (λ (n : List ℕ). IsMissed c (paths_of including folders header.is_quoted n) n) (sym h.0) h.1)
of_name A B c including folders header _ h = tt

-- the header of one #include is missing, in files that hold the same
pub included_misses : (A B : Type 0) (c d : Contents) (including : List ℕ) (folders : List (List ℕ)) (header : Header) (e : Refusal) → d ≡ c → Includes {T = A} d including folders header (Err e) → Misses {T = B} c folders (Err e)
included_misses A B c d including folders header e same h =
    of_name A B c including folders header e (subst (λ (k : Contents). Includes {T = A} k including folders header (Err e)) same h)

same_name : (A B : Type 0) (c : Contents) (folders : List (List ℕ)) (e : Refusal) → Misses {T = A} c folders (Err e) → Misses {T = B} c folders (Err e)
same_name A B c folders (refusals.Missing name) h = h
same_name A B c folders _ h = tt

-- the same of another call, in files that hold the same
pub still_misses : (A B : Type 0) (c d : Contents) (folders : List (List ℕ)) (e : Refusal) → d ≡ c → Misses {T = A} d folders (Err e) → Misses {T = B} c folders (Err e)
still_misses A B c d folders e same h = same_name A B c folders e (subst (λ (k : Contents). Misses {T = A} k folders (Err e)) same h)

of_any : (A B : Type 0) (c : Contents) (folders : List (List ℕ)) (path : List ℕ) (e : Refusal) → MissesInUnit {T = A} c folders path (Err e) → MissesInUnit {T = B} c folders path (Err e)
of_any A B c folders path (refusals.Missing name) h = h
of_any A B c folders path _ h = tt

-- a refusal whose file is told in another way
pub relocated_misses : (A B : Type 0) (c : Contents) (folders : List (List ℕ)) (path : List ℕ) (e other : Refusal) → Relocates e other → MissesInUnit {T = A} c folders path (Err e) → MissesInUnit {T = B} c folders path (Err other)
relocated_misses A B c folders path (refusals.At code place) (refusals.Source code' file line) same h = tt
relocated_misses A B c folders path (refusals.At code place) other same h = absurd same
relocated_misses A B c folders path e other same h = subst (λ (r : Refusal). MissesInUnit {T = B} c folders path (Err r)) (sym same) (of_any A B c folders path e h)
