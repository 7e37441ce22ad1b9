-- One move of the lines of a code is followed.
use Rattle.std.proofs.Common.{◌≡◌, ℕ, ◌+◌, ◌-◌, ◌<◌, ◌≤◌, inl, inr, Bool, false, if◌then◌else◌, IsTrue, List, All, Some, None, length, slice_get, ap, sym, ◌∙◌, subst, arith}
use Rattle.std.proofs.lemmas.Bool.{lt-ltb}
use Rattle.c65_base.specs.declared.options.Cpu.{Cpu}
use Rattle.c65_base.specs.declared.library.Library.{Library}
use Rattle.c65_mach.specs.declared.image.Image.{Image}
use Rattle.c65_mach.specs.State.{read, loaded_memory}
use Rattle.c65_mach.specs.Run.{Setting, Moment, Ended, turn}
use Rattle.c65_sim.specs.Budgets.{is_too_deep}
use Rattle.c65_code.specs.declared.routine.Routine.{Routine}
use Rattle.c65_code.specs.declared.routine.Routine.TheVariants as routines
use Rattle.c65_code.specs.declared.line.Sym.{Sym}
use Rattle.c65_code.specs.declared.line.Line.{Line}
use Rattle.c65_code.specs.declared.code.Code.{Code}
use Rattle.c65_code.specs.LineState.{Place, State}
use Rattle.c65_code.specs.Placement.{Setting as LineSetting, IsPlacement, setting_of, segment_of, is_function_of, stack_start}
use Rattle.c65_code.specs.Segments.{Segment}
use Rattle.c65_code.specs.Forms.{Form, Run, form_of}
use Rattle.c65_code.specs.Moves.{Goes as LineGoes, Moves as LineMoves}
use Rattle.c65_code.specs.RawMachine.{RawSetting, IsRawWithin, RawGoes, IsRuntime, raw_weight}
use Rattle.c65_link_law_spots.specs.Places.{place_in, runtime_lines}
use Rattle.c65_link_law_spots.specs.Sound.{IsSound}
use Rattle.c65_link_law_spots.specs.Laws.{IsChosen, IsUnit, function}
use Rattle.c65_link_law_follow.specs.Agree.{Ground, Agrees, Goes, IsFirstOr, IsInside, Arrives}
use Rattle.c65_link_law_follow.specs.Laid.{IsLaid, IsGround}
use Rattle.c65_link_law_follow.specs.Laws.{IsCounted}
use Rattle.c65_link_law_follow.proofs.Follow.{lines_are_followed}
use Rattle.c65_link_law_laid.specs.Linked.{start_number, raw_in, ground_in, IsInstruction, IsByteOf}
use Rattle.c65_link_law_laid.specs.Laws.{IsNoStart}
use Rattle.c65_link_law_laid.proofs.Linked.{segment_from, not_the_start}
use Rattle.c65_link_law_runs.specs.Follows.{first_hook, IsOnTheWay, IsSetFor, IsRunning}
use Rattle.c65_link_law_runs.specs.Laws.{AreUnits}
use Rattle.c65_link_law_runs.proofs.Kept.{IsKeptBy, kept_by}
use Rattle.c65_link_law_runs.proofs.Moves.{weaker, quiet_line}
use Rattle.c65_link_law_reach.specs.Reach.{runtime_in, code_ground, IsAt, IsElsewhere, AreCallers}
use Rattle.c65_link_law_reach.proofs.Units.{units_in}

-- What is known of a linked code and its image

pub record Image_ (cpu : Cpu) (code : Code) (image : Image) (args : List (List ℕ)) (setting : Setting) : Type 0 where
  pub sound : IsSound code
  pub set : IsSetFor (raw_in code args) setting
  pub runtime : IsRuntime (runtime_in code args)
  pub place : IsPlacement code (place_in code)
  pub ground : IsGround (code_ground cpu code image) (raw_in code args)
  pub laid : (f : ℕ) → IsUnit code f → IsNoStart code f → IsLaid (code_ground cpu code image) (raw_in code args) f
  pub start_ground : IsGround (ground_in cpu code image 255 None) (raw_in code args)
  pub start_units : (f : ℕ) → IsUnit code f → IsNoStart code f → IsLaid (ground_in cpu code image 255 None) (raw_in code args) f
  pub start_laid : IsLaid (ground_in cpu code image 255 None) (raw_in code args) (start_number code)
  pub units : AreUnits (code_ground cpu code image) (runtime_in code args) (units_in code)
  pub library : (f : ℕ) (l : Library) → IsTrue (is_function_of code f) → (raw_in code args).library f ≡ Some l → IsChosen code (routines.Library l)
  pub first : (q : Place) (l : Line) → IsUnit code q.0 → slice_get ((raw_in code args).lines q.0) q.1 ≡ Some l → IsInstruction l → IsByteOf code (read (loaded_memory image)) q ((code_ground cpu code image).at q)
  pub apart : (k : ℕ) (f : Sym × Segment) (p : ℕ) (q : Place) (b : ℕ) → slice_get code.functions k ≡ Some f → IsUnit code q.0 → IsByteOf code (read (loaded_memory image)) (f.0.0, p) b → IsByteOf code (read (loaded_memory image)) q b → (f.0.0, p) ≡ q

-- the machine on lines of the code
abbrev pub lines_setting : Code → LineSetting
lines_setting code = setting_of code (place_in code)

-- a line of a function
pub record LineOf (code : Code) (args : List (List ℕ)) (p : Place) (l : Line) : Type 0 where
  pub inside : p.0 < length code.symbols
  pub number : ℕ
  pub unit : Sym × Segment
  pub there : slice_get code.functions number ≡ Some unit
  pub here : slice_get unit.1.lines p.1 ≡ Some l
  pub is : unit.0.0 ≡ p.0
  pub same : (raw_in code args).lines p.0 ≡ (lines_setting code).lines p.0
  pub own : slice_get ((lines_setting code).lines p.0) p.1 ≡ Some l

-- functions have their lines
pub same_lines : (code : Code) (args : List (List ℕ)) (f : ℕ) → f < length code.symbols → (raw_in code args).lines f ≡ (lines_setting code).lines f
same_lines code args f h =
    not_the_start code f (λ e. omega (arith, h, e)) ∙ ap (λ (b : Bool). if b then (segment_of code.functions f).lines else runtime_lines code (f - length code.symbols)) (lt-ltb f (length code.symbols) h)

pub line_there : (code : Code) (args : List (List ℕ)) (p : Place) (l : Line) → IsSound code → slice_get ((lines_setting code).lines p.0) p.1 ≡ Some l → LineOf code args p l
line_there code args p l s h =
    let it = segment_from code.functions p.0 p.1 l h in
    let known = s.writable.function_known it.0 it.1 it.2 in
    let is = it.4 in
    let inside : p.0 < length code.symbols = omega (arith, known, is) in
    record { inside = inside; number = it.0; unit = it.1; there = it.2; here = it.3; is = is; same = same_lines code args p.0 inside; own = h }

-- Addresses at which no instruction of a function begins

-- the only instruction with a byte at its first one
pub one_line : (cpu : Cpu) (code : Code) (image : Image) (args : List (List ℕ)) (setting : Setting) (p q : Place) (l : Line) (a : ℕ) → Image_ cpu code image args setting → IsUnit code p.0 → IsByteOf code (read (loaded_memory image)) p a → IsAt code q l → a ≡ (code_ground cpu code image).at q → q ≡ p
one_line cpu code image args setting p q l a i unit byte at is =
    let lo : LineOf code args q l = line_there code args q l i.sound at.there in
    let own : IsByteOf code (read (loaded_memory image)) q ((code_ground cpu code image).at q) = i.first q l (function lo.number lo.unit lo.there lo.is) (ap (λ (ls : List Line). slice_get ls q.1) lo.same ∙ lo.own) at.instruction in
    let there : IsByteOf code (read (loaded_memory image)) (lo.unit.0.0, q.1) a = subst (λ (n : ℕ). IsByteOf code (read (loaded_memory image)) (n, q.1) a) (sym lo.is) (subst (λ (n : ℕ). IsByteOf code (read (loaded_memory image)) q n) (sym is) own) in
    ap (λ (n : ℕ). (n, q.1)) (sym lo.is) ∙ i.apart lo.number lo.unit q.1 p a lo.there unit there byte

-- behind the first byte of a line
pub away_inside : (cpu : Cpu) (code : Code) (image : Image) (args : List (List ℕ)) (setting : Setting) (p : Place) (a : ℕ) → Image_ cpu code image args setting → IsUnit code p.0 → IsInside (code_ground cpu code image) p a → IsElsewhere (code_ground cpu code image) code a
away_inside cpu code image args setting p a i unit h q l at is =
    let from = h.0 in
    let same : q ≡ p = one_line cpu code image args setting p q l a i unit (record { from = omega (arith, from); to = h.1 }) at is in
    let first : a ≡ (code_ground cpu code image).at p = is ∙ ap (code_ground cpu code image).at same in
    omega (arith, from, first)

-- in a unit of the runtime
pub away_outside : (cpu : Cpu) (code : Code) (image : Image) (args : List (List ℕ)) (setting : Setting) (p : Place) (a : ℕ) → Image_ cpu code image args setting → IsUnit code p.0 → length code.symbols ≤ p.0 → IsByteOf code (read (loaded_memory image)) p a → IsElsewhere (code_ground cpu code image) code a
away_outside cpu code image args setting p a i unit high byte q l at is =
    let lo : LineOf code args q l = line_there code args q l i.sound at.there in
    let less = lo.inside in
    let same : q.0 ≡ p.0 = ap (λ (x : Place). x.0) (one_line cpu code image args setting p q l a i unit byte at is) in
    omega (arith, less, same, high)

-- at a hook
pub away_hook : (cpu : Cpu) (code : Code) (image : Image) (args : List (List ℕ)) (setting : Setting) (a : ℕ) → Image_ cpu code image args setting → first_hook ≤ a → IsElsewhere (code_ground cpu code image) code a
away_hook cpu code image args setting a i high q l at is = (let to = i.ground.to q in let end = i.ground.high in omega (arith, high, to, end, is))

-- on the way of a line of the runtime
pub away_runtime : (cpu : Cpu) (code : Code) (image : Image) (args : List (List ℕ)) (setting : Setting) (p : Place) (a : ℕ) → Image_ cpu code image args setting → IsUnit code p.0 → length code.symbols ≤ p.0 → IsOnTheWay (code_ground cpu code image) p a → IsElsewhere (code_ground cpu code image) code a
away_runtime cpu code image args setting p a i unit high (inl h) = away_inside cpu code image args setting p a i unit h
away_runtime cpu code image args setting p a i unit high (inr h) = away_hook cpu code image args setting a i h

-- What a move of the lines of a code leads to

pub data Steps (g : Ground) (setting : Setting) (c : ℕ) (now : Moment) (code : Code) (l : Line) (p : Place) (t : State) : Type 0 where
  steps_on : (rows : ℕ) (m : Moment) (q : Place) (u : State) → 1 ≤ rows → rows ≤ c → Goes (IsFirstOr (IsElsewhere g code) now) setting rows now m → LineMoves (lines_setting code) l p t q u → IsRunning u → AreCallers code u.frames → Agrees g (g.at q) u m → Steps g setting c now code l p t
  steps_out : (rows status : ℕ) (last : Moment) (q : Place) (u : State) → rows + 1 ≤ c + 2 → Goes (IsFirstOr (IsElsewhere g code) now) setting rows now last → is_too_deep last.machine ≡ false → IsElsewhere g code last.machine.pc → turn setting last ≡ Ended last status
      → LineMoves (lines_setting code) l p t q u → u.ended ≡ Some status → u.output ≡ last.output → Steps g setting c now code l p t

-- what holds before the rows of a move
pub later_by : (Later Other : ℕ → Type 0) (first m : Moment) → ((a : ℕ) → Later a → Other a) → IsFirstOr Later first m → IsFirstOr Other first m
later_by Later Other first m h (inl e) = inl e
later_by Later Other first m h (inr l) = inr (h m.machine.pc l)

-- the state and place of the lines, where those of the machine without rows are known
pub record Turned (g : Ground) (code : Code) (form : Form) (p : Place) (t : State) (m : Moment) : Type 0 where
  pub place : Place
  pub state : State
  pub goes : LineGoes (lines_setting code) form p t place state
  pub running : IsRunning state
  pub callers : AreCallers code state.frames
  pub agrees : Agrees g (g.at place) state m

-- a line that calls no routine
pub step_by : (cpu : Cpu) (code : Code) (image : Image) (args : List (List ℕ)) (setting : Setting) (c : ℕ) (form : Form) (l : Line) (p : Place) (t : State) (now : Moment) → Image_ cpu code image args setting → LineOf code args p l → form_of l ≡ form → ((r : Routine) → form ≡ Run r → ⊥)
    → IsCounted (code_ground cpu code image) (raw_in code args) form → IsRawWithin (raw_in code args) (record { soft = stack_start; hard = 0 }) form t → raw_weight form ≤ c → IsRunning t
    → ((q : Place) (u : State) (m : Moment) → RawGoes (raw_in code args) form p t q u → IsRunning u → Agrees (code_ground cpu code image) ((code_ground cpu code image).at q) u m → Turned (code_ground cpu code image) code form p t m)
    → Agrees (code_ground cpu code image) ((code_ground cpu code image).at p) t now → Steps (code_ground cpu code image) setting c now code l p t
step_by cpu code image args setting c form l p t now i lo is other counted within le r turn_to a =
    let g : Ground = code_ground cpu code image in
    let s : RawSetting = raw_in code args in
    let unit : IsUnit code p.0 = function lo.number lo.unit lo.there lo.is in
    let inside = lo.inside in
    let laid : IsLaid g s p.0 = i.laid p.0 unit (λ e. omega (arith, inside, e), λ e. omega (arith, inside, e)) in
    let here : slice_get (s.lines p.0) p.1 ≡ Some l = ap (λ (ls : List Line). slice_get ls p.1) lo.same ∙ lo.own in
    let quiet = quiet_line l g s p.0 p.1 t laid here (λ q e. other q (sym is ∙ e)) in
    let v : Arrives g setting (raw_weight (form_of l)) now (IsInside g (p.0, p.1)) (RawGoes s (form_of l) (p.0, p.1) t) = lines_are_followed g s setting (record { soft = stack_start; hard = 0 }) p.0 p.1 l t now i.ground laid here quiet.0 (subst (λ (x : Form). IsCounted g s x) (sym is) counted) r.bytes (omega arith)
    (subst (λ (x : Form). IsRawWithin s (record { soft = stack_start; hard = 0 }) x t) (sym is) within) a in
    let k : IsKeptBy t v.state = kept_by (form_of l) s (p.0, p.1) t v.place v.state quiet.0 quiet.1 r.bytes v.holds in
    let goes : RawGoes s form p t v.place v.state = subst (λ (x : Form). RawGoes s x p t v.place v.state) is v.holds in
    let running : IsRunning v.state = record { running = k.ended ∙ r.running; bytes = k.bytes; input = subst (λ (xs : List ℕ). All (λ v. v < 256) xs) (sym k.input) r.input } in
    let to : Turned g code form p t v.then_at = turn_to v.place v.state v.then_at goes running v.agrees in
    let within_rows = v.within in let weight = ap raw_weight is in
    steps_on v.rows v.then_at to.place to.state v.least (omega (arith, within_rows, weight, le))
    (weaker (IsFirstOr (IsInside g p) now) (IsFirstOr (IsElsewhere g code) now) setting v.rows now v.then_at (λ m h. later_by (IsInside g p) (IsElsewhere g code) now m (λ b at. away_inside cpu code image args setting p b i unit at) h) v.goes)
    (record { running = r.running; goes = subst (λ (x : Form). LineGoes (lines_setting code) x p t to.place to.state) (sym is) to.goes; bytes = to.running.bytes }) to.running to.callers to.agrees
