-- The clause of the tool.
use Rattle.std.proofs.Common.{◌≡◌, ℕ, Bool, true, List, Option, Some, None, Result, Ok, Err, inl, inr, refl, subst}
use Rattle.std.specs.Prelude.{All}
use Rattle.c65_base.specs.declared.options.Cpu.{Cpu}
use Rattle.c65_base.specs.declared.refusal.Refusal.{Refusal}
use Rattle.c65_base.specs.declared.refusal.Refusal.TheVariants as refusals
use Rattle.c65_mach.specs.declared.image.Image.{Image}
use Rattle.c65_code.specs.declared.code.Code.{Code}
use Rattle.c65_ppfile.specs.Counts.{FaultCause}
use Rattle.c65_ppdir.specs.Units.{Held}
use Rattle.c65_sim.specs.Runs.{WriteCause}
use Rattle.c65_meaning.specs.Program.{ProgramTy}
use Rattle.c65_driver_words.specs.Commands.{Spelled}
use Rattle.c65_driver_words.specs.Words.{Spelling, Is, NoCommand, spelling_of}
use Rattle.c65_driver_words.specs.declared.command.CommandKind.{CommandKind}
use Rattle.c65_driver_words.specs.declared.command.CommandKind.TheVariants as kinds
use Rattle.c65_commands.specs.Assembly.{MadeText, TextTo}
use Rattle.c65_commands.specs.Causes.{ReadCauses}
use Rattle.c65_commands.specs.Compiled.{IsLinked, IsOfSources, ServesWith, WriteServes}
use Rattle.c65_commands.specs.Outside.{Outside, text_part}
use Rattle.c65_commands.specs.Setups.{Setup, setup_of, MadeRuns, ImageRuns}
use Rattle.c65_commands.specs.Tool as tools
use Rattle.c65_headline.specs.Images.{AreBytes}
use Rattle.c65_headline.specs.Fronts.{IsFront, IsMadeOf}
use Rattle.c65_headline.specs.Planned.{IsSpelled}
use Rattle.c65_headline.specs.Headline.{Means, IsWritten, Goes, Writes, Performs, IsMade, IsMadeBy, Headline}
use Rattle.c65_headline.specs.Laws.{Laws, HeadlineHolds}
use Rattle.c65_headline.proofs.Grounds.{Grounds}
use Rattle.c65_headline.proofs.Made.{CauseIn, hindered, agreeing}
use Rattle.c65_headline.proofs.Spelled.{words_are_spelled}
use Rattle.c65_headline.proofs.Runs.{counted, runs_well}
use Rattle.c65_headline.proofs.Cycles.{rows_take_seven}

-- ---- causes

read_cause : (grounds : Grounds) (laws : Laws) (held : Held) (command : Spelled) (old new : Outside) (answer : Result ℕ Refusal)
    → ReadCauses old.files.faults new.files.faults old.input_faults new.input_faults answer → CauseIn grounds laws held command old new answer
read_cause grounds laws held command old new (Ok status) c = tt
read_cause grounds laws held command old new (Err refusals.ReadFault) c = c.2
read_cause grounds laws held command old new (Err _) c = tt

file_cause : (grounds : Grounds) (laws : Laws) (held : Held) (command : Spelled) (old new : Outside) (answer : Result ℕ Refusal)
    → FaultCause old.files.faults new.files.faults answer → CauseIn grounds laws held command old new answer
file_cause grounds laws held command old new (Ok status) c = tt
file_cause grounds laws held command old new (Err refusals.ReadFault) c = inl c.1
file_cause grounds laws held command old new (Err _) c = tt

build_written : (old new : Outside) (answer : Result ℕ Refusal) → WriteServes answer → WriteCause old.files.writes new.files.writes answer → IsWritten old new answer
build_written old new (Ok status) s c = s
build_written old new (Err refusals.OutOfMemory) s c = tt
build_written old new (Err refusals.WriteFault) s c = inl c.1
build_written old new (Err _) s c = absurd s

text_written : (old new : Outside) (answer : Result ℕ Refusal) → WriteServes answer → WriteCause old.out_faults new.out_faults answer → IsWritten old new answer
text_written old new (Ok status) s c = s
text_written old new (Err refusals.OutOfMemory) s c = tt
text_written old new (Err refusals.WriteFault) s c = inr c.1
text_written old new (Err _) s c = absurd s

to_written : (out : Option (List ℕ)) (bytes : List ℕ) (old new : Outside) (answer : Result ℕ Refusal) → WriteServes answer → TextTo out bytes (text_part old) (text_part new) answer → IsWritten old new answer
to_written None bytes old new answer s t = text_written old new answer s t.cause
to_written (Some path) bytes old new answer s t = build_written old new answer s t.cause

made_written : (cpu : Cpu) (known : Bool) (out : Option (List ℕ)) (code : Option Code) (image : Option Image) (old new : Outside) (answer : Result ℕ Refusal) (i : Image) → IsLinked cpu code image answer → MadeText known out code image (text_part old) (text_part new) answer
    → WriteServes answer → image ≡ Some i → IsWritten old new answer
made_written cpu known out None (Some j) old new answer i l t s e = absurd l
made_written cpu known out None None old new answer i l t s e = absurd (let h : (let x : Option Image = None in x ≡ Some i) = e in cc)
made_written cpu known out (Some c) None old new answer i l t s e = absurd (let h : (let x : Option Image = None in x ≡ Some i) = e in cc)
made_written cpu known out (Some c) (Some j) old new answer i l t s e = to_written out _ old new answer s t

-- with an image, what is answered is what writing answers
served_with : (image : Option Image) (answer : Result ℕ Refusal) (i : Image) → ServesWith image answer → image ≡ Some i → WriteServes answer
served_with None answer i s e = absurd (let h : (let x : Option Image = None in x ≡ Some i) = e in cc)
served_with (Some j) answer i s e = s

runs_of : (setup : Setup) (image : Option Image) (left left' written written' : Option (List ℕ)) (answer : Result ℕ Refusal) (i : Image) → MadeRuns setup image left left' written written' answer → image ≡ Some i → ImageRuns setup i left left' written written' answer
runs_of setup None left left' written written' answer i m e = absurd (let h : (let x : Option Image = None in x ≡ Some i) = e in cc)
runs_of setup (Some j) left left' written written' answer i m e =
    let same : j ≡ i = let h : (let x : Option Image = Some j in x ≡ Some i) = e in cc in
    subst (λ (x : Image). ImageRuns setup x left left' written written' answer) same m

-- ---- each command

module _ (grounds : Grounds) (laws : Laws) (command : Spelled) (old new : Outside) (code : Option Code) (image : Option Image) (answer : Result ℕ Refusal)
    (held : Held) (p : ProgramTy) (told : old.files.contents ≡ Some held) (front : IsFront held command p) (made : (c : Code) → code ≡ Some c → IsMadeOf held command c) where
  means : IsLinked command.options.cpu code image answer → IsOfSources command old.files.contents code answer → CauseIn grounds laws held command old new answer → Means command p old new code image answer
  means linked sources cause = record {
    builds = hindered grounds laws held command p front old new code image answer linked (sources held told) made cause;
    agrees = agreeing grounds laws held command p front code image answer linked made;
  }

  pub goes : IsSpelled command → tools.Goes command old new code image answer → Goes command p old new code image answer
  goes spelled g =
      let m : Means command p old new code image answer = means g.from_code g.from_files (read_cause grounds laws held command old new answer g.read) in
      record {
        means = m;
        runs = λ i input e left given. runs_well (m.agrees i e).0 p i (m.agrees i e).2 (setup_of true command) (counted command.cycles spelled.cycles) input spelled.args given old new left rows_take_seven grounds.turns answer
            (runs_of (setup_of true command) image old.left new.left old.written new.written answer i g.made e) g.read g.write;
      }

  pub builds : tools.BuildsAlone command old new code image answer → Writes command p old new code image answer
  builds b = record {
    means = means b.builds.from_code b.builds.from_files (file_cause grounds laws held command old new answer b.builds.read);
    written = λ i e. build_written old new answer (served_with image answer i b.builds.with_image e) b.builds.write;
  }

  pub texts : tools.TextsAlone command old new code image answer → Writes command p old new code image answer
  texts b = record {
    means = means b.texts.from_code b.texts.from_files (file_cause grounds laws held command old new answer b.texts.read);
    written = λ i e. made_written command.options.cpu command.known command.out code image old new answer i b.texts.from_code b.texts.text (served_with image answer i b.texts.with_image e) e;
  }

performs : (grounds : Grounds) (laws : Laws) (command : Spelled) (old new : Outside) (code : Option Code) (image : Option Image) (answer : Result ℕ Refusal)
    (held : Held) (p : ProgramTy) → old.files.contents ≡ Some held → IsFront held command p → (kind : CommandKind) → IsSpelled command → tools.Serves kind command old new code image answer → IsMadeBy kind command old code
    → Performs kind command p old new code image answer
performs grounds laws command old new code image answer held p told front kinds.Go spelled s a = goes grounds laws command old new code image answer held p told front (λ c k. a held c told k) spelled s
performs grounds laws command old new code image answer held p told front kinds.Build spelled s a = builds grounds laws command old new code image answer held p told front (λ c k. a held c told k) s
performs grounds laws command old new code image answer held p told front kinds.Text spelled s a = texts grounds laws command old new code image answer held p told front (λ c k. a held c told k) s
performs grounds laws command old new code image answer held p told front kinds.Run spelled s a = tt
performs grounds laws command old new code image answer held p told front kinds.Gen spelled s a = tt
performs grounds laws command old new code image answer held p told front kinds.Depth spelled s a = tt

by_spelling : Grounds → Laws → (words : List (List ℕ)) → All AreBytes words → (spelling : Spelling) → spelling_of words ≡ spelling
    → (old new : Outside) (code : Option Code) (image : Option Image) (answer : Result ℕ Refusal)
    → tools.Performs spelling old new code image answer → IsMade spelling old code → Headline spelling old new code image answer
by_spelling grounds laws words bytes (NoCommand word) e old new code image answer s a = tt
by_spelling grounds laws words bytes (Is command) e old new code image answer s a = λ held p told front.
    performs grounds laws command old new code image answer held p told front command.kind (words_are_spelled words command bytes e) s a

pub holds : Grounds → HeadlineHolds
holds grounds laws words old new code image answer bytes s a = by_spelling grounds laws words bytes (spelling_of words) refl old new code image answer s a
