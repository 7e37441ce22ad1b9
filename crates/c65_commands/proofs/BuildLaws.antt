-- What `build` answers.
use Rattle.std.proofs.Common.{◌≡◌, ℕ, ◌≤◌, List, length, None, Some, Option, Result, Ok, Err, sym, subst, refl, ◌∙◌, arith}
use Rattle.c65_base.specs.declared.options.Cpu.{Cpu}
use Rattle.c65_base.specs.declared.refusal.Refusal.{Refusal}
use Rattle.c65_base.specs.declared.refusal.Refusal.TheVariants.{OutOfMemory, ReadFault, WriteFault}
use Rattle.c65_base.specs.declared.refusal.Size.TheVariants.{Units}
use Rattle.c65_base.specs.Limits.{limit_of}
use Rattle.c65_code.specs.declared.code.Code.{Code}
use Rattle.c65_io.specs.declared.outside.Failed.{Failed}
use Rattle.c65_io.specs.Contents.{Contents, WritesFile}
use Rattle.c65_mach.specs.declared.image.Image.{Image}
use Rattle.c65_mach.specs.Images.{bytes_of}
use Rattle.c65_ppfile.specs.Counts.{FaultCause, MissCause as HeaderCause}
use Rattle.c65_sim.specs.Runs.{WriteCause}
use Rattle.c65_driver_chain.specs.Refused.{StopsChain, UnitsLimit}
use Rattle.c65_driver_words.specs.Commands.{Spelled}
use Rattle.c65_commands.specs.Compiled.{LinkedBy, IsLinked, Compiles, output_of, wrote, wrote_not, IsOfSources, WritesBytes, WriteServes, WritesImage}
use Rattle.c65_commands.specs.Outside.{FilesSide, Outside}
use Rattle.c65_commands.specs.Tool.{BuildServes, Builds, BuildsAlone}
use Rattle.c65_commands.proofs.FrontLaws.{sources_stop, sources_go, sources_free}
use Rattle.c65_commands.proofs.GoLaws.{units_of, headers_of, linked_stop}

pub stop_served : (r : Refusal) → StopsChain r → BuildServes (Err r)
stop_served WriteFault stops = tt
stop_served r stops = stops

pub faults_of : (f f' : ℕ) (r : Refusal) → FaultCause {T = Image} f f' (Err r) → FaultCause {T = ℕ} f f' (Err r)
faults_of f f' ReadFault cause = cause
faults_of f f' r cause = cause

no_write : (n n' : ℕ) (r : Refusal) → StopsChain r → n' ≡ n → WriteCause {T = ℕ} n n' (Err r)
no_write n n' WriteFault stops same = absurd stops
no_write n n' r stops same = same

stopped : (command : Spelled) (old new : FilesSide) (code : Option Code) (r : Refusal) → Compiles command.options.cpu command.folders command.files old new code (Err r) → IsOfSources {T = Image} command old.contents code (Err r)
    → Builds command old new code None (Err r)
stopped command old new code r stops sources = record {
  served = stop_served r stops.refused;
  units = units_of Image ℕ (length command.files) r stops.units;
  read = faults_of old.faults new.faults r stops.read;
  missing = headers_of Image ℕ command.folders old.misses new.misses r stops.missing;
  write = no_write old.writes new.writes r stops.refused stops.written;
  with_image = tt;
  contents = stops.same;
  from_text = stops.from_text;
  from_code = linked_stop command.options.cpu code r stops.from_code;
  from_files = sources_stop Image ℕ command old.contents code r sources;
}

pub builds_stop : (command : Spelled) (old new : FilesSide) (code : Option Code) (image : Option Image) (r : Refusal) → image ≡ None
    → Compiles command.options.cpu command.folders command.files old new code (Err r) → IsOfSources {T = Image} command old.contents code (Err r) → Builds command old new code image (Err r)
builds_stop command old new code image r none stops sources =
    subst (λ (made : Option Image). Builds command old new code made (Err r)) (sym none) (stopped command old new code r stops sources)

pub wrote_served : (r : Result ℕ Refusal) → WriteServes r → BuildServes r
wrote_served (Ok s) served = served
wrote_served (Err OutOfMemory) served = tt
wrote_served (Err WriteFault) served = tt
wrote_served (Err r) served = absurd served

pub wrote_units : (count : ℕ) (r : Result ℕ Refusal) → count ≤ limit_of Units → WriteServes r → UnitsLimit count r
wrote_units count (Ok s) few served = few
wrote_units count (Err OutOfMemory) few served = tt
wrote_units count (Err WriteFault) few served = few
wrote_units count (Err r) few served = absurd served

pub wrote_faults : (f f' : ℕ) (r : Result ℕ Refusal) → f' ≡ f → WriteServes r → FaultCause f f' r
wrote_faults f f' (Ok s) same served = same
wrote_faults f f' (Err OutOfMemory) same served = same
wrote_faults f f' (Err WriteFault) same served = same
wrote_faults f f' (Err r) same served = absurd served

pub wrote_headers : (folders : List (List ℕ)) (m m' : ℕ) (r : Result ℕ Refusal) → m ≤ m' → WriteServes r → HeaderCause folders m m' r
wrote_headers folders m m' (Ok s) le served = le
wrote_headers folders m m' (Err OutOfMemory) le served = le
wrote_headers folders m m' (Err WriteFault) le served = le
wrote_headers folders m m' (Err r) le served = absurd served

pub linked_wrote : (cpu : Cpu) (code : Option Code) (image : Image) (r : Result ℕ Refusal) → LinkedBy cpu code (Ok image) → IsLinked cpu code (Some image) r
linked_wrote cpu None image r by = absurd by
linked_wrote cpu (Some code) image r by = by

pub builds_wrote : (command : Spelled) (old mid new : FilesSide) (code : Option Code) (image : Image) (path : List ℕ) (r : Result ℕ Refusal)
    → path ≡ output_of command.out → Compiles command.options.cpu command.folders command.files old mid code (Ok image) → IsOfSources command old.contents code (Ok image) → WritesImage path (bytes_of image) mid new r
    → Builds command old new code (Some image) r
builds_wrote command old mid new code image path r is made sources wrote = record {
  served = wrote_served r wrote.served;
  units = wrote_units (length command.files) r made.units wrote.served;
  read = wrote_faults old.faults new.faults r (wrote.faults ∙ made.read) wrote.served;
  missing = wrote_headers command.folders old.misses new.misses r (subst (λ n. old.misses ≤ n) (sym wrote.misses) made.missing) wrote.served;
  write = subst (λ n. WriteCause n new.writes r) made.written wrote.cause;
  with_image = wrote.served;
  contents = subst (λ (held : Contents). WritesBytes (output_of command.out) (bytes_of image) held new.contents r) made.same
      (subst (λ (p : List ℕ). WritesBytes p (bytes_of image) mid.contents new.contents r) is wrote.contents);
  from_text = made.from_text;
  from_code = linked_wrote command.options.cpu code image r made.from_code;
  from_files = sources_go Image ℕ command old.contents code image r sources;
}

pub wrote_all : (old new : Contents) (path bytes : List ℕ) (u : Unit) → WritesFile {E = Failed} old new path bytes (Ok u) → WritesFile old new path bytes wrote
wrote_all None None path bytes u writes = writes
wrote_all None (Some new) path bytes u writes = writes
wrote_all (Some old) None path bytes u writes = writes
wrote_all (Some old) (Some new) path bytes u writes = writes

pub wrote_some : (old new : Contents) (path bytes : List ℕ) (e : Failed) → WritesFile {E = Failed} old new path bytes (Err e) → WritesFile old new path bytes wrote_not
wrote_some None None path bytes e writes = writes
wrote_some None (Some new) path bytes e writes = writes
wrote_some (Some old) None path bytes e writes = writes
wrote_some (Some old) (Some new) path bytes e writes = writes

-- want of memory
pub builds_free : (command : Spelled) (old : Outside) → BuildsAlone command old old None None (Err OutOfMemory)
builds_free command old = record {
  builds = record {
    served = tt;
    units = tt;
    read = refl;
    missing = omega arith;
    write = refl;
    with_image = tt;
    contents = refl;
    from_text = tt;
    from_code = tt;
    from_files = sources_free ℕ command old.files.contents;
  };
  left = refl;
  input_faults = refl;
  written = refl;
  out_faults = refl;
}
