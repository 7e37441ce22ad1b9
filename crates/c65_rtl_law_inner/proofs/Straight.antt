-- A routine whose lines lead forward only, and call nothing, within given bounds. Its row may leave it less room below the sp
-- than its own does.
use Rattle.std.proofs.Common.{◌≡◌, ℕ, ◌+◌, ◌<◌, ◌≤◌, ◌⊎◌, inl, inr, IsTrue, List, [], Option, Some, None, sym, subst, ◌∙◌, arith}
use Rattle.c65_code.specs.declared.line.Line.{Line}
use Rattle.c65_code.specs.declared.routine.Routine.{Routine}
use Rattle.c65_code.specs.LineState.{Place, State, sp_of}
use Rattle.c65_code.specs.Rows.{Row, Meets, row_of}
use Rattle.c65_code.specs.RawMachine.{RawSetting, Bounds, RawComes, here, HasDone, called, entry_of}
use Rattle.c65_rtl.specs.Short.{pushed_by}
use Rattle.c65_rtl.proofs.Ways.{leads, Ends, weaken}
use Rattle.c65_rtl_law_walks.specs.Inside.{MayRunIn, MeetsIn}
use Rattle.c65_rtl_law_walks.proofs.Joins.{bind}
use Rattle.c65_rtl_law_walks.proofs.Walks.{Takes, leads_forward, weight_in, straight_in, walks_calling}

some_is : {A : Type 0} (x y : A) → Some x ≡ Some y → x ≡ y
some_is x y e = cc

-- it calls nothing
abbrev pub nothing : Routine → Takes
nothing r = record { below = 0; pushed = 0; weight = 0 }

-- it comes back with this row met
abbrev pub ComesIn : RawSetting → ℕ → ℕ → ℕ → (State → Row) → Routine → Type 0
ComesIn s below pushed weight row r = (bounds : Bounds) (back : Place) (t : State) → MayRunIn s bounds below pushed (row t) t → RawComes s bounds (HasDone (row t).ends (row t) back t) weight (entry_of s (s.routine r)) (called back t)

pub straight_comes : (s : RawSetting) (below : ℕ) (r : Routine) (row : State → Row) (lines : List Line) → ((t : State) → (row t).ends ≡ None) → s.lines (s.routine r) ≡ lines → IsTrue (leads_forward [] lines)
    → ((bounds : Bounds) (back : Place) (t : State) → MayRunIn s bounds below (pushed_by lines) (row t) t → leads s.place bounds (Ends (row t) t) lines None (called back t))
    → ComesIn s below (pushed_by lines) (weight_in nothing lines) row r
straight_comes s below r row lines goes_on has onward by bounds back t may =
    let hard = may.hard in
    walks_calling s bounds (pushed_by lines) nothing r (row t) back t lines has onward hard may.bytes may.running (goes_on t)
    (straight_in s bounds (pushed_by lines) nothing (Ends (row t) t) lines None (called back t) (omega arith) (by bounds back t may))

-- the row with all the room that rows leave
abbrev pub loud : Row → Row
loud row = record row { room = 64 }

more_room : (row : Row) (t : State) (b : ℕ) → row.room ≤ 64 → (b + 64 < sp_of t) ⊎ ((sp_of t ≤ b) ⊎ (row.settled ≤ b)) → (b + row.room < sp_of t) ⊎ ((sp_of t ≤ b) ⊎ (row.settled ≤ b))
more_room row t b few (inl below) = inl (omega arith)
more_room row t b few (inr above) = inr above

louder : (row : Row) (t u : State) → row.room ≤ 64 → Meets row t u → Meets (loud row) t u
louder row t u few m = record {
  sp = m.sp;
  a = m.a;
  x = m.x;
  sreg = m.sreg;
  pointers = m.pointers;
  bank = m.bank;
  kept = m.kept;
  high = m.high;
  mem = λ b h. m.mem b (more_room row t b few h);
  pushed = m.pushed;
  frames = m.frames;
  input = m.input;
  output = m.output;
  ended = m.ended;
}

-- so it does what its own row says
pub meets_loud : (s : RawSetting) (below pushed weight : ℕ) (row : State → Row) (r : Routine) → ((t : State) → row_of r t ≡ Some (loud (row t))) → ((t : State) → (row t).ends ≡ None) → ((t : State) → (row t).room ≤ 64)
    → ComesIn s below pushed weight row r → MeetsIn s below pushed (λ w. weight) r
meets_loud s below pushed weight row r is goes_on few comes bounds given back t e may =
    let same : loud (row t) ≡ given = some_is (loud (row t)) given (sym (is t) ∙ e) in
    let mine : MayRunIn s bounds below pushed (loud (row t)) t = subst (λ (w : Row). MayRunIn s bounds below pushed w t) (sym same) may in
    let inner : MayRunIn s bounds below pushed (row t) t = record { ready = mine.ready; near = mine.near; far = mine.far; soft = mine.soft; hard = mine.hard; high = mine.high; bytes = mine.bytes; running = mine.running; data_low = mine.data_low } in
    subst (λ (w : Row). RawComes s bounds (HasDone w.ends w back t) weight (entry_of s (s.routine r)) (called back t)) same
    (subst (λ (k : Option ℕ). RawComes s bounds (HasDone k (loud (row t)) back t) weight (entry_of s (s.routine r)) (called back t)) (sym (goes_on t))
    (weaken s bounds (HasDone None (loud (row t)) back t) (weight + 0) weight (entry_of s (s.routine r)) (called back t) (omega arith)
    (bind s bounds (HasDone None (row t) back t) (HasDone None (loud (row t)) back t) weight 0 (entry_of s (s.routine r)) (called back t)
    (subst (λ (k : Option ℕ). RawComes s bounds (HasDone k (row t) back t) weight (entry_of s (s.routine r)) (called back t)) (goes_on t) (comes bounds back t inner))
    (λ q u done. here (done.0, louder (row t) t u (few t) done.1, done.2)))))
