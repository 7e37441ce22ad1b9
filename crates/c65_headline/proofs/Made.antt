-- The code and the image that are made of a program.
use Rattle.std.proofs.Common.{◌≡◌, ◌⊎◌, ◌∙◌, ℕ, Bool, true, false, List, Option, Some, None, Result, Ok, Err, inl, inr, refl, ap, sym, subst}
use Rattle.std.specs.Prelude.{IsTrue, slice_get}
use Rattle.c65_base.specs.declared.options.Options.{Options}
use Rattle.c65_base.specs.declared.refusal.Refusal.{Refusal}
use Rattle.c65_base.specs.declared.refusal.Refusal.TheVariants as refusals
use Rattle.c65_base.specs.declared.refusal.Size.{Size}
use Rattle.c65_base.specs.declared.refusal.Size.TheVariants as sizes
use Rattle.c65_base.specs.declared.refusal.LinkKind.TheVariants as linkkinds
use Rattle.c65_base.specs.Answers.{at, large, Fails}
use Rattle.c65_io.specs.Causes.{Rose}
use Rattle.c65_mach.specs.declared.image.Image.{Image}
use Rattle.c65_ppline.specs.Relations.{Answers, ◌then◌, IsFree}
use Rattle.c65_ppdir.specs.Units.{Held}
use Rattle.c65_ppdir_law.specs.Once.{IsFinal, HasOne, UnitsAreOne}
use Rattle.c65_csem.specs.Trees.{UnitTy}
use Rattle.c65_csem.specs.declared.items.Parts.{Parts}
use Rattle.c65_csem.specs.Views.{unit_of}
use Rattle.c65_code.specs.declared.code.Code.{Code}
use Rattle.c65_code.specs.declared.code.Symbol.{Symbol}
use Rattle.c65_code.specs.declared.code.Datum.{Datum}
use Rattle.c65_code.specs.Named.{function}
use Rattle.c65_code.specs.Placement.{has_datum}
use Rattle.c65_code.specs.Starts.{IsMain}
use Rattle.c65_code.specs.Writable.{IsWritable}
use Rattle.c65_asm.specs.Renumbered.{IsOfTypes, renumbered}
use Rattle.c65_link.specs.Linked.{linked, linked_for, undefined, Fails as LinkFails}
use Rattle.c65_link.specs.Linked as linker
use Rattle.c65_genframe.specs.declared.modes.Modes.{Modes}
use Rattle.c65_genframe.specs.Modes.{modes_of}
use Rattle.c65_genframe.specs.Symbols.{numbers_of, function_symbol}
use Rattle.c65_genstmt.specs.Programs.{program_of}
use Rattle.c65_meaning.specs.Program.{ProgramTy}
use Rattle.c65_driver_chain.specs.Front.{Command, programs, generated, compiled}
use Rattle.c65_driver_words.specs.Commands.{Spelled}
use Rattle.c65_commands.specs.Compiled.{IsLinked, IsOfFront, front}
use Rattle.c65_commands.specs.Outside.{Outside}
use Rattle.c65_driver_law_images.proofs.Made.{printed_codes_read_back}
use Rattle.c65_headline.specs.Images.{ImageAgrees}
use Rattle.c65_headline.specs.Lines.{LineAgrees, StandsForIf, StandsFor}
use Rattle.c65_asm_law_names.specs.Numbers.{HasSegment, HasBody, IsClosed}
use Rattle.c65_asm_law_names.proofs.Missing.{nothing_is_undefined}
use Rattle.c65_headline.specs.Fronts.{command_of, IsFront, IsMadeOf, HasLargeFrame}
use Rattle.c65_headline.specs.Headline.{Hinders, IsHindered}
use Rattle.c65_headline.specs.Laws.{Laws}
use Rattle.c65_headline.proofs.Grounds.{Grounds}
use Rattle.c65_headline.proofs.Frames.{only_frames_are_refused}
use Rattle.c65_headline.proofs.Codes.{two_moments, rewritten_if}
use Rattle.c65_headline.proofs.Agreement.{image_agrees}
use Rattle.c65_headline.proofs.Uniqueness.{is_value, no_value, one_program}

-- ---- refusals behind the front

free_or_final : (e : Refusal) → IsFree e ⊎ IsFinal e
free_or_final refusals.OutOfMemory = inl tt
free_or_final refusals.ReadFault = inl tt
free_or_final _ = inr tt

pair_left : {A B E : Type 0} (a c : A) (b d : B) → (let x : Result (A × B) E = Ok (a, b) in x ≡ Ok (c, d)) → a ≡ c
pair_left {A} {B} {E} a c b d h = let e : (a, b) ≡ (c, d) = is_value {A = A × B} {E = E} (a, b) (c, d) h in ap (λ (x : A × B). x.0) e

-- where the front gives a program, what is refused is refused by the generator, or free
late_by : (P : Answers ((UnitTy × ℕ) × List (List ℕ))) (o : Options) (e : Refusal) (q : UnitTy × ℕ) (names : List (List ℕ)) → HasOne P → P (Ok (q, names))
    → (P then λ x. generated o x.1 x.0) (Err e) → IsFree e ⊎ generated o names q (Err e)
late_by P o e q names one f (inl g) = elim (free_or_final e) [
  | inl free ↦ inl free
  | inr final ↦ absurd (no_value (q, names) e (one (Ok (q, names)) (Err e) tt final f g))
]
late_by P o e q names one f (inr (x, h, l)) =
    let same : x ≡ (q, names) = is_value x (q, names) (one (Ok x) (Ok (q, names)) tt tt h f) in
    inr (subst (λ (y : (UnitTy × ℕ) × List (List ℕ)). generated o y.1 y.0 (Err e)) same l)

pub late : UnitsAreOne → (c : Command) (paths : List (List ℕ)) (e : Refusal) (q : UnitTy × ℕ) (names : List (List ℕ)) → programs c paths (Ok (q, names)) → compiled c paths (Err e) → IsFree e ⊎ generated c.options names q (Err e)
late units c paths e q names f g = late_by (programs c paths) c.options e q names (one_program units c paths) f g

-- ---- why there is no image

-- a read fault has its cause
abbrev pub CauseOf : Outside → Outside → Refusal → Type 0
CauseOf old new refusals.ReadFault = Rose old.files.faults new.files.faults ⊎ Rose old.input_faults new.input_faults
CauseOf old new _ = Unit {0}

free_hinders : (p : ProgramTy) (modes : Modes) (code : Option Code) (old new : Outside) (e : Refusal) → CauseOf old new e → IsFree e → Hinders p modes code old new e
free_hinders p modes code old new refusals.OutOfMemory c f = tt
free_hinders p modes code old new refusals.ReadFault c f = c
free_hinders p modes code old new _ c f = absurd f

limit_is : (limit : Size) (value v : ℕ) → large limit value ≡ large sizes.Frame v → limit ≡ sizes.Frame
limit_is limit value v h = cc

no_place : (code : _) (pos : _) (v : ℕ) → at code pos ≡ large sizes.Frame v → ⊥
no_place code pos v h = cc

frame_hinders : (p : ProgramTy) (modes : Modes) (code : Option Code) (old new : Outside) (limit : Size) (value : ℕ) → limit ≡ sizes.Frame → HasLargeFrame p modes value → Hinders p modes code old new (refusals.TooLarge limit value)
frame_hinders p modes code old new limit value same h = subst (λ (l : Size). Hinders p modes code old new (refusals.TooLarge l value)) (sym same) h

generated_hinders : (p : ProgramTy) (modes : Modes) (code : Option Code) (old new : Outside) (e : Refusal) (parts : Parts) (names : List (List ℕ)) → CauseOf old new e
    → unit_of parts ≡ p.unit → Fails e (program_of parts p.main names modes) → Hinders p modes code old new e
generated_hinders p modes code old new refusals.OutOfMemory parts names c u f = tt
generated_hinders p modes code old new (refusals.At k pos) parts names c u f =
    let x = only_frames_are_refused parts p.main names modes (at k pos) f in absurd (no_place k pos x.0 x.1)
generated_hinders p modes code old new (refusals.TooLarge limit value) parts names c u f =
    let x = only_frames_are_refused parts p.main names modes (large limit value) f in
    let same : limit ≡ sizes.Frame = limit_is limit value x.0 x.1 in
    frame_hinders p modes code old new limit value same (record {
      parts = parts;
      names = names;
      same = u;
      refused = subst (λ (l : Size). program_of parts p.main names modes ≡ Err (large l value)) same f;
    })
generated_hinders p modes code old new _ parts names c u f = absurd f

front_hinders : UnitsAreOne → (held : Held) (command : Spelled) (p : ProgramTy) (code : Option Code) (old new : Outside) (e : Refusal) → CauseOf old new e
    → IsFront held command p → IsFree e ⊎ front held command (Err e) → Hinders p (modes_of command.options) code old new e
front_hinders units held command p code old new e c f (inl free) = free_hinders p (modes_of command.options) code old new e c free
front_hinders units held command p code old new e c f (inr h) = elim (late units (command_of held command) command.files e (p.unit, p.main) f.names f.gives h) [
  | inl free ↦ free_hinders p (modes_of command.options) code old new e c free
  | inr g ↦ generated_hinders p (modes_of command.options) code old new e g.0 f.names c g.1 g.3
]

-- ---- the code that was made

defined_if : (asked : Bool) (old new : Code) (main : ℕ) → StandsForIf asked old new → HasSegment old main → HasSegment new main
defined_if false old new main e h = subst (λ (c : Code). HasSegment c main) (sym e) h
defined_if true old new main o h = o.defined main h

-- a code with the same symbols and data whose functions have lines where they had lines
body_in : (old new : Code) (i : ℕ) (symbol : Symbol) → StandsFor old new → HasBody old i symbol → HasBody new i symbol
body_in old new i symbol o (inl h) = inl (o.defined i h)
body_in old new i symbol o (inr (inl h)) = inr (inl (subst (λ (d : List Datum). IsTrue (has_datum d i)) (sym o.datums) h))
body_in old new i symbol o (inr (inr h)) = inr (inr h)

closed_if : (asked : Bool) (old new : Code) → StandsForIf asked old new → IsClosed old → IsClosed new
closed_if false old new e c = subst (λ (x : Code). IsClosed x) (sym e) c
closed_if true old new o c = λ i symbol there named. body_in old new i symbol o (c i symbol (subst (λ (s : List Symbol). slice_get s i ≡ Some symbol) o.symbols there) (o.names i named))

main_if : (asked : Bool) (old new : Code) (main : ℕ) → StandsForIf asked old new → IsMain old main → IsMain new main
main_if false old new main e h = subst (λ (c : Code). IsMain c main) (sym e) h
main_if true old new main o (symbol, there, spelled) = (symbol, subst (λ (s : List Symbol). slice_get s main ≡ Some symbol) (sym o.symbols) there, spelled)

module _ (grounds : Grounds) (laws : Laws) (held : Held) (command : Spelled) where
  pub program_in : (code : Code) → IsMadeOf held command code → ProgramTy
  program_in code m = record { unit = unit_of m.parts; main = m.main }

  -- the number of its main function's symbol
  abbrev main_of : (code : Code) → IsMadeOf held command code → ℕ
  main_of code m = (function_symbol (numbers_of m.parts) m.main).0

  has_main : (code : Code) (m : IsMadeOf held command code) → IsMain m.generated (main_of code m) × HasSegment m.generated (main_of code m)
  has_main code m = grounds.mains m.parts m.main m.names (modes_of command.options) m.generated m.good.well_typed m.good.plain m.generates

  is_closed : (code : Code) (m : IsMadeOf held command code) → IsClosed m.generated
  is_closed code m = grounds.closed m.parts m.main m.names (modes_of command.options) m.generated m.good.well_typed m.good.scoped m.good.plain m.generates

  is_written : (code : Code) (m : IsMadeOf held command code) → IsWritable m.rewritten × IsOfTypes m.rewritten
  is_written code m = (m.printed.writable, m.printed.typed)

  pub is_renumbered : (code : Code) (m : IsMadeOf held command code) → code ≡ renumbered m.rewritten
  is_renumbered code m = printed_codes_read_back command.options.cpu m.rewritten code m.printed

  pub made_agrees : (code : Code) (m : IsMadeOf held command code) (image : Image) → linked_for command.options.cpu code ≡ Ok image → ImageAgrees code (program_in code m) image
  unfolding program_in
  made_agrees code m image l =
      let p : ProgramTy = record { unit = unit_of m.parts; main = m.main } in
      let main : ℕ = main_of code m in
      let known = has_main code m in
      let w = is_written code m in
      let agrees : LineAgrees p m.generated main = laws.lines m.parts m.main m.names (modes_of command.options) m.generated m.good m.generates in
      subst (λ (c : Code). ImageAgrees c p image) (sym (is_renumbered code m))
      (image_agrees grounds.runtime grounds.notes command.options.cpu p m.rewritten image main w.0 w.1 m.printed.runs
      (main_if command.options.optimise m.generated m.rewritten main m.rewrites known.0)
      (defined_if command.options.optimise m.generated m.rewritten main m.rewrites known.1)
      (subst (λ (c : Code). linked_for command.options.cpu c ≡ Ok image) (is_renumbered code m) l)
      (rewritten_if command.options.optimise p m.generated m.rewritten main m.rewrites (two_moments p m.generated main agrees)))

  program_is : (u v : UnitTy) (a b : ℕ) (names more : List (List ℕ)) → (let x : Result ((UnitTy × ℕ) × List (List ℕ)) Refusal = Ok ((u, a), names) in x ≡ Ok ((v, b), more)) → (let x : ProgramTy = record { unit = u; main = a } in x ≡ record { unit = v; main = b })
  program_is u v a b names more h = let e : (u, a) ≡ (v, b) = pair_left (u, a) (v, b) names more h in ap (λ (z : UnitTy × ℕ). let x : ProgramTy = record { unit = z.0; main = z.1 } in x) e

  -- it is the program of the front
  pub same_program : (code : Code) (m : IsMadeOf held command code) (p : ProgramTy) → IsFront held command p → program_in code m ≡ p
  unfolding program_in
  same_program code m p f = program_is (unit_of m.parts) p.unit m.main p.main m.names f.names
      (one_program grounds.units (command_of held command) command.files (Ok ((unit_of m.parts, m.main), m.names)) (Ok ((p.unit, p.main), f.names)) tt tt m.front f.gives)

  undefined_never : (code : Code) (m : IsMadeOf held command code) (name : List ℕ) → linked code ≡ Err (undefined name) → ⊥
  undefined_never code m name l =
      let main : ℕ = main_of code m in
      let known = has_main code m in
      let w = is_written code m in
      nothing_is_undefined m.rewritten main name w.0 w.1
      (closed_if command.options.optimise m.generated m.rewritten m.rewrites (is_closed code m))
      (main_if command.options.optimise m.generated m.rewritten main m.rewrites known.0)
      (let d = defined_if command.options.optimise m.generated m.rewritten main m.rewrites known.1 in function d.at d.unit d.there d.is)
      (subst (λ (c : Code). linked c ≡ Err (undefined name)) (is_renumbered code m) l)

  linker_hinders : (p : ProgramTy) (code : Code) (m : IsMadeOf held command code) (old new : Outside) (e : Refusal) → LinkFails e (linked code) → Hinders p (modes_of command.options) (Some code) old new e
  linker_hinders p code m old new refusals.OutOfMemory f = tt
  linker_hinders p code m old new (refusals.Link linkkinds.Undefined name) f = absurd (undefined_never code m name f)
  linker_hinders p code m old new (refusals.Link _ name) f = absurd f
  linker_hinders p code m old new (refusals.TooLarge sizes.Image value) f = (code, refl, f)
  linker_hinders p code m old new (refusals.TooLarge _ value) f = absurd f
  linker_hinders p code m old new _ f = absurd f

  -- the same for whatever was made
  abbrev pub CauseIn : Outside → Outside → Result ℕ Refusal → Type 0
  CauseIn old new (Ok status) = Unit {0}
  CauseIn old new (Err e) = CauseOf old new e

  pub hindered : (p : ProgramTy) → IsFront held command p → (old new : Outside) (code : Option Code) (image : Option Image) (answer : Result ℕ Refusal) → IsLinked command.options.cpu code image answer → IsOfFront command.options (front held command) code answer
      → ((c : Code) → code ≡ Some c → IsMadeOf held command c) → CauseIn old new answer → image ≡ None → IsHindered p (modes_of command.options) code old new answer
  hindered p f old new None None (Ok status) l g m c e = absurd l
  hindered p f old new None None (Err r) l g m c e = front_hinders grounds.units held command p None old new r c f g
  hindered p f old new None (Some i) answer l g m c e = absurd l
  hindered p f old new (Some k) (Some i) answer l g m c e = absurd (let h : (let x : Option Image = Some i in x ≡ None) = e in cc)
  hindered p f old new (Some k) None (Ok status) l g m c e = absurd l
  hindered p f old new (Some k) None (Err r) l g m c e = linker_hinders p k (m k refl) old new r l

  pub agreeing : (p : ProgramTy) → IsFront held command p → (code : Option Code) (image : Option Image) (answer : Result ℕ Refusal) → IsLinked command.options.cpu code image answer
      → ((c : Code) → code ≡ Some c → IsMadeOf held command c) → (i : Image) → image ≡ Some i → (c : Code) × (code ≡ Some c) × ImageAgrees c p i
  agreeing p f None (Some j) answer l m i e = absurd l
  agreeing p f None None answer l m i e = absurd (let h : (let x : Option Image = None in x ≡ Some i) = e in cc)
  agreeing p f (Some k) None answer l m i e = absurd (let h : (let x : Option Image = None in x ≡ Some i) = e in cc)
  agreeing p f (Some k) (Some j) answer l m i e =
      let made : IsMadeOf held command k = m k refl in
      let same : j ≡ i = let h : (let x : Option Image = Some j in x ≡ Some i) = e in cc in
      (k, refl, subst (λ (q : ProgramTy). ImageAgrees k q i) (same_program k made p f) (made_agrees k made i (l ∙ ap (λ (x : Image). let y : Result Image linker.Fault = Ok x in y) same)))
