-- What compiling and linking the files of a command gives.
use Rattle.std.proofs.Common.{◌≡◌, ℕ, ◌≤◌, ◌<◌, List, length, None, Some, Option, Result, Ok, Err, Bool, true, false, cond, nat_lt, sym, subst, refl, ◌-◌, arith}
use Rattle.std.proofs.lemmas.Bool.{ltb-true}
use Rattle.c65_base.specs.declared.options.Cpu.{Cpu}
use Rattle.c65_base.specs.declared.refusal.LinkKind.TheVariants.{Undefined}
use Rattle.c65_base.specs.declared.refusal.Refusal.{Refusal}
use Rattle.c65_base.specs.declared.refusal.Refusal.TheVariants.{OutOfMemory, Missing, ReadFault, TooLarge, Link}
use Rattle.c65_base.specs.declared.refusal.Size.TheVariants.{Units, Image as ImageSize}
use Rattle.c65_base.specs.Limits.{limit_of}
use Rattle.c65_code.specs.declared.code.Code.{Code}
use Rattle.c65_mach.specs.declared.image.Image.{Image}
use Rattle.c65_code.specs.Placement.{program_start}
use Rattle.c65_link.specs.declared.symbols.Target.{Target}
use Rattle.c65_link.specs.Layouts.{layout_of}
use Rattle.c65_link.specs.Symbols.{targets_of, missing_of}
use Rattle.c65_link.specs.Linked.{Fault, undefined, large, linked, linked_for, image_for, named_or_placed, entry_of, parts_of, image_of, payload_of, Fails, Gives}
use Rattle.c65_ppfile.specs.Counts.{FaultCause, MissCause as HeaderCause}
use Rattle.c65_driver_chain.specs.Refused.{StopsChain, UnitsLimit}
use Rattle.c65_commands.specs.Compiled.{IsRead, Compiles}
use Rattle.c65_commands.specs.Outside.{FilesSide}
use Rattle.c65_commands.proofs.GoLaws.{units_of, headers_of}

fit_large : (n v : ℕ) (image : Image) (b : Bool) → nat_lt 62960 n ≡ b → ◌≡◌ {A = Result Image Fault} (cond b (Err (large n)) (Ok image)) (Err (large v)) → 62960 < v
fit_large n v image true less is =
    let both : ◌≡◌ {A = Result Image Fault} (Err (large n)) (Err (large v)) = is in
    let same : n ≡ v = cc in
    subst (λ m. 62960 < m) same (ltb-true 62960 n less)
fit_large n v image false less is = absurd (let both : ◌≡◌ {A = Result Image Fault} (Ok image) (Err (large v)) = is in cc)

-- an image is too large above its limit alone
large_above : (code : Code) (targets : List Target) (missing : Option (List ℕ)) (v : ℕ) → named_or_placed code targets missing ≡ Err (large v) → 62960 < v
large_above code targets (Some name) v is = absurd (let both : ◌≡◌ {A = Result Image Fault} (Err (undefined name)) (Err (large v)) = is in cc)
large_above code targets None v is =
    let layout = layout_of code targets (entry_of code) (parts_of code targets) in
    let n : ℕ = layout.at - program_start in
    fit_large n v (image_of (payload_of code layout (entry_of code) (parts_of code targets))) (nat_lt 62960 n) refl is

pub fails_stops : (code : Code) (r : Refusal) → Fails r (linked code) → StopsChain r
fails_stops code OutOfMemory fails = tt
fails_stops code (Link kind name) fails = tt
fails_stops code (TooLarge ImageSize value) fails = (refl, large_above code (targets_of code) (missing_of code (targets_of code)) value fails)
fails_stops code r fails = absurd fails

fault_link : (code : Code) (f f' : ℕ) (r : Refusal) → Fails r (linked code) → f' ≡ f → FaultCause {T = Image} f f' (Err r)
fault_link code f f' ReadFault fails same = absurd fails
fault_link code f f' r fails same = same

header_link : (code : Code) (folders : List (List ℕ)) (m m' : ℕ) (r : Refusal) → Fails r (linked code) → m ≤ m' → HeaderCause {T = Image} folders m m' (Err r)
header_link code folders m m' (Missing path) fails le = absurd fails
header_link code folders m m' r fails le = le

units_link : (code : Code) (count : ℕ) (r : Refusal) → Fails r (linked code) → count ≤ limit_of Units → UnitsLimit {T = Image} count (Err r)
units_link code count OutOfMemory fails few = tt
units_link code count (TooLarge Units value) fails few = absurd fails
units_link code count r fails few = few

-- the linker refuses for each processor alike
fails_for : (cpu : Cpu) (y : Result Image Fault) (r : Refusal) → Fails r (image_for cpu y) → Fails r y
fails_for cpu (Err fault) r fails = fails
fails_for cpu (Ok image) OutOfMemory fails = tt
fails_for cpu (Ok image) (Link Undefined name) fails = absurd (let both : ◌≡◌ {A = Result Image Fault} (Ok (record image { cpu = cpu })) (Err (undefined name)) = fails in cc)
fails_for cpu (Ok image) (Link kind name) fails = absurd fails
fails_for cpu (Ok image) (TooLarge ImageSize value) fails = absurd (let both : ◌≡◌ {A = Result Image Fault} (Ok (record image { cpu = cpu })) (Err (large value)) = fails in cc)
fails_for cpu (Ok image) r fails = absurd fails

pub compiles_linked : (cpu : Cpu) (folders files : List (List ℕ)) (old new : FilesSide) (code : Code) (r : Result Image Refusal) → new.contents ≡ old.contents → new.writes ≡ old.writes
    → new.faults ≡ old.faults → old.misses ≤ new.misses → length files ≤ limit_of Units → IsRead cpu (Some code) → Gives r (linked_for cpu code) → Compiles cpu folders files old new (Some code) r
compiles_linked cpu folders files old new code (Ok image) same written faults misses few read gives = record {
  same = same;
  written = written;
  read = faults;
  missing = misses;
  refused = tt;
  units = few;
  from_text = read;
  from_code = gives;
}
compiles_linked cpu folders files old new code (Err r) same written faults misses few read gives =
    let fails : Fails r (linked code) = fails_for cpu (linked code) r gives in
    record {
      same = same;
      written = written;
      read = fault_link code old.faults new.faults r fails faults;
      missing = header_link code folders old.misses new.misses r fails misses;
      refused = fails_stops code r fails;
      units = units_link code (length files) r fails few;
      from_text = read;
      from_code = fails;
    }

faults_of : (f f' : ℕ) (r : Refusal) → FaultCause {T = Code} f f' (Err r) → FaultCause {T = Image} f f' (Err r)
faults_of f f' ReadFault cause = cause
faults_of f f' r cause = cause

without_code : (cpu : Cpu) (folders files : List (List ℕ)) (old new : FilesSide) (r : Refusal) → new.contents ≡ old.contents → new.writes ≡ old.writes
    → FaultCause {T = Code} old.faults new.faults (Err r) → HeaderCause {T = Code} folders old.misses new.misses (Err r) → StopsChain r
    → UnitsLimit {T = Code} (length files) (Err r) → Compiles cpu folders files old new None (Err r)
without_code cpu folders files old new r same written read missing stops units = record {
  same = same;
  written = written;
  read = faults_of old.faults new.faults r read;
  missing = headers_of Code Image folders old.misses new.misses r missing;
  refused = stops;
  units = units_of Code Image (length files) r units;
  from_text = tt;
  from_code = tt;
}

-- no code
pub compiles_not : (cpu : Cpu) (folders files : List (List ℕ)) (old new : FilesSide) (code : Option Code) (r : Refusal) → code ≡ None → new.contents ≡ old.contents → new.writes ≡ old.writes
    → FaultCause {T = Code} old.faults new.faults (Err r) → HeaderCause {T = Code} folders old.misses new.misses (Err r) → StopsChain r
    → UnitsLimit {T = Code} (length files) (Err r) → Compiles cpu folders files old new code (Err r)
compiles_not cpu folders files old new code r none same written read missing stops units =
    subst (λ (made : Option Code). Compiles cpu folders files old new made (Err r)) (sym none) (without_code cpu folders files old new r same written read missing stops units)

-- the same of equal names
pub compiles_as : (cpu cpu' : Cpu) (folders folders' files files' : List (List ℕ)) (old new : FilesSide) (code : Option Code) (r : Result Image Refusal) → cpu ≡ cpu' → folders ≡ folders' → files ≡ files'
    → Compiles cpu folders files old new code r → Compiles cpu' folders' files' old new code r
compiles_as cpu cpu' folders folders' files files' old new code r for is of made =
    subst (λ (xs : List (List ℕ)). Compiles cpu' xs files' old new code r) is (subst (λ (xs : List (List ℕ)). Compiles cpu' folders xs old new code r) of (subst (λ (x : Cpu). Compiles x folders files old new code r) for made))
