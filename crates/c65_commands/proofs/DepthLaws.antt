-- What `depth` does and answers.
use Rattle.std.proofs.Common.{◌≡◌, ℕ, ◌<◌, ◌≤◌, inl, true, false, List, length, None, Some, Option, Result, Ok, Err, refl, sym, subst, arith}
use Rattle.std.specs.Prelude.{IfOk, IfErr}
use Rattle.c65_base.specs.declared.options.Options.{Options}
use Rattle.c65_base.specs.declared.refusal.Refusal.{Refusal}
use Rattle.c65_base.specs.declared.refusal.Refusal.TheVariants.{OutOfMemory, ReadFault, WriteFault, TooLarge}
use Rattle.c65_base.specs.declared.refusal.Size.TheVariants.{Arguments}
use Rattle.c65_csem.specs.Views.{unit_of}
use Rattle.c65_depth.specs.Numbers.{certificate_of}
use Rattle.c65_io.specs.Contents.{Contents}
use Rattle.c65_lex.specs.declared.define.Define.{Define}
use Rattle.c65_ppfile.specs.Counts.{FaultCause, MissCause}
use Rattle.c65_ppline.specs.Relations.{Comes}
use Rattle.c65_ppdir.specs.Units.{Held}
use Rattle.c65_sim.specs.Runs.{WriteCause}
use Rattle.c65_driver_chain.specs.declared.chain.Joined.{Joined}
use Rattle.c65_driver_chain.specs.Front.{command, programs, IsGood}
use Rattle.c65_driver_chain.specs.Joined.{program_in}
use Rattle.c65_driver_chain.specs.Refused.{StopsChain, UnitsLimit}
use Rattle.c65_driver_words.specs.Commands.{Spelled}
use Rattle.c65_commands.specs.Assembly.{AppendsBytes}
use Rattle.c65_commands.specs.Compiled.{WriteServes}
use Rattle.c65_commands.specs.Depth.{front, StopsFiles, IsProgram, Joins, size_of, size_told, IsReport, Writes, Tells, IsMeasured, Depths}
use Rattle.c65_commands.specs.Outside.{FilesSide, Outside}
use Rattle.c65_commands.specs.Tool.{DepthsAlone}
use Rattle.c65_commands.proofs.GoLaws.{units_of, headers_of, no_write}

-- ---- the program

-- of a command and not of its parts
front_of : (c : Spelled) (held : Held) (o : Options) (ds : List Define) (folders files : List (List ℕ)) (r : Result Joined Refusal) → o ≡ c.options → ds ≡ c.defines → folders ≡ c.folders → files ≡ c.files
    → Comes program_in (programs (command held o ds folders) files) r → Comes program_in (front held c) r
front_of c held o ds folders files r options defines is of given =
    subst (λ (x : Options). Comes program_in (programs (command held x c.defines c.folders) c.files) r) options
    (subst (λ (xs : List Define). Comes program_in (programs (command held o xs c.folders) c.files) r) defines
    (subst (λ (xs : List (List ℕ)). Comes program_in (programs (command held o ds xs) c.files) r) is
    (subst (λ (xs : List (List ℕ)). Comes program_in (programs (command held o ds folders) xs) r) of given)))

program_by : (c : Spelled) (contents : Contents) (r : Result Joined Refusal) → IfErr r StopsChain → IfOk r (λ x. IsGood x.names (unit_of x.program.0) x.program.1)
    → ((held : Held) → contents ≡ Some held → Comes program_in (front held c) r) → IsProgram c contents r
program_by c contents (Ok x) refused good exact = record { gives = exact; good = good }
program_by c contents (Err e) refused good exact = record { refused = refused; gives = exact }

pub joins_by : (c : Spelled) (o : Options) (ds : List Define) (folders files : List (List ℕ)) (old new : FilesSide) (r : Result Joined Refusal) → o ≡ c.options → ds ≡ c.defines → folders ≡ c.folders → files ≡ c.files
    → IfErr r StopsChain → UnitsLimit (length files) r → FaultCause old.faults new.faults r → MissCause folders old.misses new.misses r → new.contents ≡ old.contents → new.writes ≡ old.writes
    → ((held : Held) → old.contents ≡ Some held → Comes program_in (programs (command held o ds folders) files) r) → IfOk r (λ x. IsGood x.names (unit_of x.program.0) x.program.1) → Joins c old new r
joins_by c o ds folders files old new r options defines is of refused units read missing same writes exact good = record {
  same = same;
  written = writes;
  read = read;
  missing = subst (λ (xs : List (List ℕ)). MissCause xs old.misses new.misses r) is missing;
  units = subst (λ (xs : List (List ℕ)). UnitsLimit (length xs) r) of units;
  program = program_by c old.contents r refused good (λ held told. front_of c held o ds folders files r options defines is of (exact held told));
}

-- ---- what is written

pub writes_not : (text : List ℕ) (wanted : ℕ) (w w' : Option (List ℕ)) (r : Refusal) → WriteServes (Err r) → AppendsBytes text w w' (Err r) → Writes text wanted w w' (Err r)
writes_not text wanted w w' OutOfMemory served appends = appends
writes_not text wanted w w' WriteFault served appends = appends
writes_not text wanted w w' r served appends = absurd served

-- ---- all of it

fault_of : (A B : Type 0) (f f' : ℕ) (r : Refusal) → FaultCause {T = A} f f' (Err r) → FaultCause {T = B} f f' (Err r)
fault_of A B f f' ReadFault cause = cause
fault_of A B f f' r cause = cause

tells_not : (c : Spelled) (contents : Contents) (w : Option (List ℕ)) (r : Refusal) → StopsFiles c contents r → Tells c contents w w (Err r)
tells_not c contents w WriteFault stops = absurd stops.refused
tells_not c contents w (TooLarge Arguments value) stops = absurd (let both : true ≡ false = stops.refused.0 in cc)
tells_not c contents w r stops = (stops, refl)

-- the files are no program
pub depths_stop : (c : Spelled) (old new : FilesSide) (w : Option (List ℕ)) (o : ℕ) (r : Refusal) → Joins c old new (Err r)
    → Depths c (record { files = old; written = w; out_faults = o }) (record { files = new; written = w; out_faults = o }) (Err r)
depths_stop c old new w o r joins = record {
  units = units_of Joined ℕ (length c.files) r joins.units;
  read = fault_of Joined ℕ old.faults new.faults r joins.read;
  missing = headers_of Joined ℕ c.folders old.misses new.misses r joins.missing;
  write = no_write o r joins.program.refused;
  contents = joins.same;
  file_writes = joins.written;
  lines = tells_not c old.contents w r joins.program;
}

-- want of memory, behind joining
pub depths_short : (c : Spelled) (old new : FilesSide) (w : Option (List ℕ)) (o : ℕ) (x : Joined) → Joins c old new (Ok x)
    → Depths c (record { files = old; written = w; out_faults = o }) (record { files = new; written = w; out_faults = o }) (Err OutOfMemory)
depths_short c old new w o x joins = record {
  units = tt;
  read = joins.read;
  missing = joins.missing;
  write = refl;
  contents = joins.same;
  file_writes = joins.written;
  lines = (record { refused = tt; gives = λ held told. inl tt }, refl);
}

-- the arguments take too many bytes
pub depths_long : (c : Spelled) (old new : FilesSide) (w : Option (List ℕ)) (o : ℕ) (x : Joined) (size : ℕ) → Joins c old new (Ok x) → size ≡ size_told c → 1024 < size
    → Depths c (record { files = old; written = w; out_faults = o }) (record { files = new; written = w; out_faults = o }) (Err (TooLarge Arguments size))
depths_long c old new w o x size joins is many = record {
  units = joins.units;
  read = joins.read;
  missing = joins.missing;
  write = refl;
  contents = joins.same;
  file_writes = joins.written;
  lines = (
    record {
      names = x.names;
      unit = unit_of x.program.0;
      main = x.program.1;
      of_files = joins.program;
      many = omega (arith, is, many);
      told = is;
    },
    refl,
  );
}

measured : (c : Spelled) (old new : FilesSide) (x : Joined) (size : ℕ) (text : List ℕ) (status : ℕ) → Joins c old new (Ok x) → size ≡ size_told c → size ≤ 1024
    → IsReport x.names (unit_of x.program.0) x.program.1 size (certificate_of (unit_of x.program.0) x.program.1) text status → IsMeasured c old.contents text status
measured c old new x size text status joins is few report =
    let same : size ≡ size_of c = omega (arith, is, few) in
    record {
      names = x.names;
      unit = unit_of x.program.0;
      main = x.program.1;
      of_files = joins.program;
      few = omega (arith, same, few);
      report = subst (λ n. IsReport x.names (unit_of x.program.0) x.program.1 n (certificate_of (unit_of x.program.0) x.program.1) text status) same report;
    }

-- the text was written, or a part of it
pub depths_wrote : (c : Spelled) (old new : FilesSide) (w w' : Option (List ℕ)) (o o' : ℕ) (x : Joined) (size : ℕ) (text : List ℕ) (status : ℕ) (r : Result ℕ Refusal) → Joins c old new (Ok x) → size ≡ size_told c → size ≤ 1024
    → IsReport x.names (unit_of x.program.0) x.program.1 size (certificate_of (unit_of x.program.0) x.program.1) text status → Writes text status w w' r → WriteCause o o' r
    → Depths c (record { files = old; written = w; out_faults = o }) (record { files = new; written = w'; out_faults = o' }) r
depths_wrote c old new w w' o o' x size text status (Ok s) joins is few report writes cause = record {
  units = joins.units;
  read = joins.read;
  missing = joins.missing;
  write = cause;
  contents = joins.same;
  file_writes = joins.written;
  lines = (text, subst (λ n. IsMeasured c old.contents text n) (sym writes.0) (measured c old new x size text status joins is few report), writes.1);
}
depths_wrote c old new w w' o o' x size text status (Err OutOfMemory) joins is few report writes cause = record {
  units = tt;
  read = joins.read;
  missing = joins.missing;
  write = cause;
  contents = joins.same;
  file_writes = joins.written;
  lines = (record { refused = tt; gives = λ held told. inl tt }, writes);
}
depths_wrote c old new w w' o o' x size text status (Err WriteFault) joins is few report writes cause = record {
  units = joins.units;
  read = joins.read;
  missing = joins.missing;
  write = cause;
  contents = joins.same;
  file_writes = joins.written;
  lines = (text, status, measured c old new x size text status joins is few report, writes);
}
depths_wrote c old new w w' o o' x size text status (Err r) joins is few report writes cause = absurd writes

-- want of memory, before there is a command
pub depths_free : (c : Spelled) (old : Outside) → DepthsAlone c old old None None (Err OutOfMemory)
depths_free c old = record {
  depths = record {
    units = tt;
    read = refl;
    missing = omega arith;
    write = refl;
    contents = refl;
    file_writes = refl;
    lines = (record { refused = tt; gives = λ held told. inl tt }, refl);
  };
  left = refl;
  input_faults = refl;
  no_code = refl;
  no_image = refl;
}
