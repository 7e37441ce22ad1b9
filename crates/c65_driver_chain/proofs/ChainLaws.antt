-- Causes of refusals, stage after stage.
use Rattle.std.proofs.Common.{◌≡◌, ℕ, ◌≤◌, ◌⊎◌, inl, inr, true, false, List, Result, Ok, Err, refl, subst, ◌∙◌, arith}
use Rattle.c65_base.specs.declared.refusal.Refusal.{Refusal}
use Rattle.c65_base.specs.declared.refusal.Refusal.TheVariants.{OutOfMemory, Missing, ReadFault, Source, TooLarge, Link}
use Rattle.c65_base.specs.declared.refusal.Size.{Size}
use Rattle.c65_base.specs.declared.refusal.Size.TheVariants as sizes
use Rattle.c65_base.specs.Limits.{limit_of}
use Rattle.c65_ppline.specs.Causes.{IsUnitLimit, StopsUnit}
use Rattle.c65_ppfile.specs.Counts.{FaultCause, MissCause, LooksAtNoFile}
use Rattle.c65_io.specs.Causes.{Rose}
use Rattle.c65_driver_chain.specs.Refused.{Exceeds, StopsLater, StopsUnits, StopsChain, UnitsLimit}
use Rattle.c65_driver_chain.specs.Compiled.{Outside, Compiles}

unit_limit : (limit : Size) (value : ℕ) → IsUnitLimit limit value → Exceeds limit value
unit_limit sizes.File value is = (refl, omega (arith, is))
unit_limit sizes.Line value is = (refl, omega (arith, is))
unit_limit sizes.Names value is = (refl, omega (arith, is))
unit_limit sizes.Includes value is = (refl, omega (arith, is))
unit_limit sizes.Conditionals value is = (refl, omega (arith, is))
unit_limit sizes.Macros value is = (refl, omega (arith, is))
unit_limit sizes.MacroArguments value is = (refl, omega (arith, is))
unit_limit sizes.Tokens value is = (refl, omega (arith, is))
unit_limit _ value is = absurd is

-- what the preprocessor refuses
pub unit_stops : (r : Refusal) → StopsUnit r → StopsUnits r
unit_stops OutOfMemory stops = tt
unit_stops (Missing path) stops = tt
unit_stops ReadFault stops = tt
unit_stops (Source code file line) stops = tt
unit_stops (TooLarge limit value) stops = unit_limit limit value stops
unit_stops r stops = absurd stops

pub later_stops : (r : Refusal) → StopsLater r → StopsUnits r
later_stops OutOfMemory stops = tt
later_stops (Source code file line) stops = tt
later_stops (TooLarge limit value) stops = stops
later_stops (Link kind name) stops = tt
later_stops r stops = absurd stops

pub units_stop : (r : Refusal) → StopsUnits r → StopsChain r
units_stop (TooLarge sizes.Units value) stops = stops.1
units_stop r stops = stops

pub units_few : (count : ℕ) (r : Refusal) → count ≤ limit_of sizes.Units → StopsUnits r → UnitsLimit {T = ℕ} count (Err r)
units_few count OutOfMemory few stops = tt
units_few count (TooLarge sizes.Units value) few stops = absurd (let both : true ≡ false = stops.0 in cc)
units_few count r few stops = few

pub fault_later : (f f' : ℕ) (r : Refusal) → StopsLater r → f' ≡ f → FaultCause {T = ℕ} f f' (Err r)
fault_later f f' ReadFault stops same = absurd stops
fault_later f f' r stops same = same

pub miss_later : (folders : List (List ℕ)) (m m' : ℕ) (r : Refusal) → StopsLater r → m ≤ m' → MissCause {T = ℕ} folders m m' (Err r)
miss_later folders m m' (Missing path) stops le = absurd stops
miss_later folders m m' r stops le = le

-- the same refusal of another call
pub compiles_of : {A B : Type 0} (folders : List (List ℕ)) (old new : Outside) (r : Refusal) → Compiles {T = A} folders old new (Err r) → Compiles {T = B} folders old new (Err r)
compiles_of folders old new r before = record {
  same = before.same;
  written = before.written;
  read = before.read;
  missing = before.missing;
  refused = before.refused;
}

-- the same of another value
pub compiles_ok : {A B : Type 0} (folders : List (List ℕ)) (old new : Outside) (a : A) (b : B) → Compiles folders old new (Ok a) → Compiles folders old new (Ok b)
compiles_ok folders old new a b before = record {
  same = before.same;
  written = before.written;
  read = before.read;
  missing = before.missing;
  refused = tt;
}

-- a refusal of a later stage
pub compiles_later : {A B : Type 0} (folders : List (List ℕ)) (old new : Outside) (a : A) (r : Refusal) → Compiles folders old new (Ok a) → StopsLater r
    → Compiles {T = B} folders old new (Err r)
compiles_later folders old new a r before stops = record {
  same = before.same;
  written = before.written;
  read = fault_later old.faults new.faults r stops before.read;
  missing = miss_later folders old.misses new.misses r stops before.missing;
  refused = later_stops r stops;
}

fault_then : {T : Type 0} (f g h : ℕ) (r : Result T Refusal) → g ≡ f → FaultCause g h r → FaultCause f h r
fault_then {T} f g h r same cause = subst (λ n. FaultCause n h r) same cause

miss_then : {T : Type 0} (folders : List (List ℕ)) (f g h : ℕ) (r : Result T Refusal) → f ≤ g → MissCause folders g h r → MissCause folders f h r
miss_then folders f g h (Err (Missing path)) le cause = (omega (arith, le, cause.0), earlier cause.1)
  where
    earlier : Rose g h ⊎ LooksAtNoFile folders path → Rose f h ⊎ LooksAtNoFile folders path
    earlier (inl rose) = inl (omega (arith, le, rose))
    earlier (inr looks) = inr looks
miss_then folders f g h (Ok a) le cause = omega (arith, le, cause)
miss_then folders f g h (Err r) le cause = omega (arith, le, cause)

-- one call after another
pub compiles_then : {A B : Type 0} (folders : List (List ℕ)) (old mid new : Outside) (a : A) (r : Result B Refusal) → Compiles folders old mid (Ok a) → Compiles folders mid new r
    → Compiles folders old new r
compiles_then folders old mid new a r before after = record {
  same = after.same ∙ before.same;
  written = after.written ∙ before.written;
  read = fault_then old.faults mid.faults new.faults r before.read after.read;
  missing = miss_then folders old.misses mid.misses new.misses r before.missing after.missing;
  refused = after.refused;
}
