-- The bytes of a parameter go from the software stack to A and X.
use Rattle.std.proofs.Common.{◌≡◌, ℕ, ◌+◌, ◌-◌, ◌<◌, ◌≤◌, ◌⊎◌, inl, inr, Bool, true, false, List, [], ◌∷◌, ◌++◌, refl, sym, ap, ◌∙◌, subst, arith}
use Rattle.std.specs.Prelude.{if◌then◌else◌, nat_lt, min, max, All}
use Rattle.std.proofs.lemmas.Bool.{ltb-true, ltb-false}
use Rattle.std.proofs.lemmas.List.Elements.{All-nil}
use Rattle.c65_mach.specs.declared.rows.Op.TheVariants.{Lda, Ldy}
use Rattle.c65_mach.specs.State.{Regs}
use Rattle.c65_mach.specs.Step.{apply, after}
use Rattle.c65_code.specs.declared.routine.Routine.{Routine}
use Rattle.c65_code.specs.declared.routine.Routine.TheVariants.{LdAxYSp, LdAi, LdAxi}
use Rattle.c65_code.specs.declared.line.Line.{Line}
use Rattle.c65_code.specs.LineState.{State, sp_of, s_of, ax_of, word_at, zero_word, IsBytes}
use Rattle.c65_code.specs.Placement.{IsPlacement, stack_start, stack_end}
use Rattle.c65_code.specs.Texts.{range_of}
use Rattle.c65_code.specs.Rows.{Meets, row_of}
use Rattle.c65_code.specs.Steady.{IsOpen, HasRoom}
use Rattle.c65_code.specs.Weights.{row_cost}
use Rattle.c65_genwide.specs.Lines.{value, call}
use Rattle.c65_genentry.specs.Words.{sp, by_y}
use Rattle.c65_genload.specs.Addresses.{address_code}
use Rattle.c65_genentry.specs.Entry.{near_load, far_load, load_code}
use Rattle.c65_agree_state.specs.World.{World, Active}
use Rattle.c65_agree_state.specs.Laws.{OnlyScratch}
use Rattle.c65_agree_rows.specs.Rows.{WordByY, FarByte, FarWord, IsNearLoaded, IsFarLoaded}
use Rattle.c65_agree_rows.proofs.Quiet.{in_range, quiet_rows_scratch}
use Rattle.c65_agree_rows.proofs.Families.{HasRow}
use Rattle.c65_agree_rows.proofs.Loads.{near_rows, far_rows}
use Rattle.c65_agree_frame.specs.Leads.{Leads, IsOn, SameBank}
use Rattle.c65_agree_frame.proofs.Leads.{leads_then, leads_as, stays_on, kept_regs, after_lines, AreSafe, lines_lead, routine_leads}
use Rattle.c65_agree_registers.proofs.Addresses.{address_regs, address_is, address_leads}

-- sp and all from sp on are as before, and so is what no line of an entry changes
pub record Remains (t u : State) : Type 0 where
  pub sp : sp_of u ≡ sp_of t
  pub mem : (n : ℕ) → (n < stack_start) ⊎ (sp_of t ≤ n) → u.mem n ≡ t.mem n
  pub pushed : u.pushed ≡ t.pushed
  pub frames : u.frames ≡ t.frames
  pub input : u.input ≡ t.input
  pub output : u.output ≡ t.output
  pub ended : u.ended ≡ t.ended
  pub bytes : IsBytes u

pub remains_then : (t u v : State) → Remains t u → Remains u v → Remains t v
remains_then t u v h k = record {
  sp = k.sp ∙ h.sp;
  mem = λ n side. k.mem n (higher n side) ∙ h.mem n side;
  pushed = k.pushed ∙ h.pushed;
  frames = k.frames ∙ h.frames;
  input = k.input ∙ h.input;
  output = k.output ∙ h.output;
  ended = k.ended ∙ h.ended;
  bytes = k.bytes;
}
  where
    higher : (n : ℕ) → (n < stack_start) ⊎ (sp_of t ≤ n) → (n < stack_start) ⊎ (sp_of u ≤ n)
    higher n (inl lt) = inl lt
    higher n (inr le) = inr (omega (arith, le, h.sp))

-- the bytes from an address on are in A and X, and regbank is as before
pub record IsLoaded (bytes at : ℕ) (t u : State) : Type 0 where
  pub low : u.regs.a ≡ t.mem at
  pub high : 2 ≤ bytes → u.regs.x ≡ t.mem (at + 1)
  pub bank : SameBank t u
  pub remains : Remains t u

-- what a routine leaves that keeps sp and writes nothing
record HasRun (Result : State → Type 0) (t u : State) : Type 0 where
  result : Result u
  scratch : OnlyScratch (sp_of t) t u
  sp_is : sp_of u ≡ sp_of t

module _ (g : World) (a : Active) (placed : IsPlacement g.code g.place) where
  pub remains_on : (t u : State) → IsOn g t → Remains t u → IsOn g u
  remains_on t u on h =
      let same : s_of u ≡ s_of t = rw (h.pushed, h.frames) refl in
      stays_on g placed t u on (λ n lt. h.mem n (inl lt)) (omega (arith, h.sp, on.stacks.soft)) (omega (arith, h.sp, on.stacks.calm.high)) (omega (arith, same, on.stacks.hard)) (h.ended ∙ on.running) h.bytes

  row_leads : (r : Routine) (near far : List ℕ) (Result : State → Type 0) (t : State) → IsOn g t → HasRow r near far Result t → All (IsOpen g.place (sp_of t)) near → All (IsOpen g.place (sp_of t)) far → row_cost (row_of r t) ≤ 256
      → Leads g a (call r ∷ []) 256 t (HasRun Result t)
  row_leads r near far Result t on h opened open_far cheap =
      let lower : min (sp_of t) h.row.sp ≡ sp_of t = omega (arith, h.still.sp) in
      let upper : max (sp_of t) h.row.sp ≡ sp_of t = omega (arith, h.still.sp) in
      let room : HasRoom g.place h.row t = record { ready = h.ready; soft = on.stacks.soft; hard = on.stacks.hard; near = rw (h.near, lower) opened; far = rw (h.far, upper) open_far } in
      let cost : row_cost (row_of r t) ≡ h.row.cost = ap row_cost h.is in
      leads_as g a (call r ∷ []) h.row.cost 256 t (λ u. Meets h.row t u × IsBytes u) (HasRun Result t) (omega (arith, cheap, cost)) (λ u m. run u m.0 m.1) (routine_leads g a r h.row t on h.is room)
    where
      run : (u : State) → Meets h.row t u → IsBytes u → HasRun Result t u
      run u m b = record { result = h.result u m; scratch = quiet_rows_scratch (sp_of t) h.row t u h.still.quiet (rw h.still.writes tt) m b on.running on.stacks.soft (omega arith); sp_is = m.sp ∙ h.still.sp }

  -- behind lines that change registers alone, a routine loads
  module _ (t : State) (regs : Regs) (bytes at : ℕ) where
    abbrev behind : State
    behind = record t { regs = regs }

    remains_in : (u : State) → OnlyScratch (sp_of t) behind u → sp_of u ≡ sp_of t → Remains t u
    remains_in u s same = record { sp = same; mem = s.mem; pushed = s.pushed; frames = s.frames; input = s.input; output = s.output; ended = s.ended; bytes = s.bytes }

    word_in : (u : State) → IsBytes t → HasRun (λ v. ax_of v ≡ word_at t.mem at) behind u → IsLoaded bytes at t u
    word_in u b h = record {
      low = omega (arith, h.result, h.scratch.bytes.a, h.scratch.bytes.x, b.mem at, b.mem (at + 1));
      high = λ _. omega (arith, h.result, h.scratch.bytes.a, h.scratch.bytes.x, b.mem at, b.mem (at + 1));
      bank = λ i lt. sym (h.scratch.bank i lt);
      remains = remains_in u h.scratch h.sp_is;
    }

    byte_in : (u : State) → bytes < 2 → IsBytes t → HasRun (λ v. ax_of v ≡ t.mem at) behind u → IsLoaded bytes at t u
    byte_in u few b h = record {
      low = omega (arith, h.result, h.scratch.bytes.a, h.scratch.bytes.x, b.mem at);
      high = λ more. absurd (omega (arith, more, few));
      bank = λ i lt. sym (h.scratch.bank i lt);
      remains = remains_in u h.scratch h.sp_is;
    }

  module _ (at bytes : ℕ) (t : State) (on : IsOn g t) (fits : sp_of t + at + bytes ≤ stack_end) (some : 1 ≤ bytes) (most : bytes ≤ 2) where
    abbrev from : ℕ
    from = sp_of t + at

    -- ---- near sp

    abbrev by_byte : List Line
    by_byte = value Ldy at ∷ by_y Lda sp ∷ []

    byte_near : at < 255 → bytes < 2 → Leads g a by_byte 264 t (IsLoaded bytes from t)
    byte_near near few =
        leads_as g a by_byte 2 264 t (λ u. (u ≡ after_lines g by_byte t) × IsBytes u) (IsLoaded bytes from t) (omega arith) (λ u e. loaded u e.0 e.1) (lines_lead g a by_byte t placed on safe)
      where
        place : after (zero_word t 0) at ≡ from
        place = omega (arith, fits, some)

        safe : AreSafe g by_byte t
        safe = (
          refl,
          tt,
          omega (arith, near),
          kept_regs t (apply false Ldy at t.regs),
          (refl, inr (omega (arith, place), omega (arith, place, fits, some)), tt, kept_regs (record t { regs = apply false Ldy at t.regs }) (apply false Lda (t.mem (after (zero_word t 0) at)) (apply false Ldy at t.regs)), tt),
        )

        loaded : (u : State) → u ≡ after_lines g by_byte t → IsBytes u → IsLoaded bytes from t u
        loaded u e b = record {
          low = ap (λ (x : State). x.regs.a) e ∙ ap t.mem place;
          high = λ more. absurd (omega (arith, more, few));
          bank = λ i lt. ap (λ (x : State). x.zp (20 + i)) e;
          remains = record { sp = ap sp_of e; mem = λ n side. ap (λ (x : State). x.mem n) e; pushed = ap (λ (x : State). x.pushed) e; frames = ap (λ (x : State). x.frames) e; input = ap (λ (x : State). x.input) e; output = ap (λ (x : State). x.output) e; ended = ap (λ (x : State). x.ended) e; bytes = b };
        }

    abbrev to_y : List Line
    to_y = value Ldy (at + 1) ∷ []

    abbrev y_regs : Regs
    y_regs = apply false Ldy (at + 1) t.regs

    abbrev y_state : State
    y_state = record t { regs = y_regs }

    word_near : at < 255 → 2 ≤ bytes → Leads g a (to_y ++ call LdAxYSp ∷ []) 264 t (IsLoaded bytes from t)
    word_near near two =
        leads_as g a (to_y ++ call LdAxYSp ∷ []) 257 264 t (IsLoaded bytes from t) (IsLoaded bytes from t) (omega arith) (λ u h. h)
        (leads_then g a to_y (call LdAxYSp ∷ []) 1 256 t (λ u. (u ≡ y_state) × IsBytes u) (IsLoaded bytes from t) (lines_lead g a to_y t placed on (refl, tt, omega (arith, near), kept_regs t y_regs, tt))
        (λ u e. subst (λ x. Leads g a (call LdAxYSp ∷ []) 256 x (IsLoaded bytes from t)) (sym e.0) (loads (subst IsBytes e.0 e.1))))
      where
        loads : IsBytes y_state → Leads g a (call LdAxYSp ∷ []) 256 y_state (IsLoaded bytes from t)
        loads b =
            leads_as g a (call LdAxYSp ∷ []) 256 256 y_state (HasRun (IsNearLoaded WordByY from y_state) y_state) (IsLoaded bytes from t) (omega arith) (λ u h. word_in t y_regs bytes from u on.stacks.calm.bytes h)
            (row_leads LdAxYSp (range_of 2 from) [] (IsNearLoaded WordByY from y_state) y_state (stays_on g placed t y_state on (λ n lt. refl) on.stacks.soft on.stacks.calm.high on.stacks.hard on.running b) (near_rows WordByY at y_state b refl)
            (in_range (IsOpen g.place (sp_of t)) 2 from (λ i lt. inr (omega arith, omega (arith, lt, fits, two)))) (All-nil (IsOpen g.place (sp_of t))) (omega arith))

    -- ---- far from sp

    abbrev sum_lines : List Line
    sum_lines = address_code at

    abbrev sum_regs : Regs
    sum_regs = address_regs t at

    abbrev sum_state : State
    sum_state = record t { regs = sum_regs }

    sum_is : ax_of sum_state ≡ from
    sum_is = address_is t at (on.stacks.calm.bytes.zp 0) (omega (arith, fits))

    far_leads : (r : Routine) → (IsBytes sum_state → Leads g a (call r ∷ []) 256 sum_state (IsLoaded bytes from t)) → Leads g a (sum_lines ++ call r ∷ []) 264 t (IsLoaded bytes from t)
    far_leads r h =
        leads_then g a sum_lines (call r ∷ []) 8 256 t (λ u. (u ≡ sum_state) × IsBytes u) (IsLoaded bytes from t) (address_leads t at g a placed on (omega (arith, fits)))
        (λ u e. subst (λ x. Leads g a (call r ∷ []) 256 x (IsLoaded bytes from t)) (sym e.0) (h (subst IsBytes e.0 e.1)))

    sum_on : IsBytes sum_state → IsOn g sum_state
    sum_on b = stays_on g placed t sum_state on (λ n lt. refl) on.stacks.soft on.stacks.calm.high on.stacks.hard on.running b

    opened : (count : ℕ) → count ≤ bytes → All (IsOpen g.place (sp_of t)) (range_of count (ax_of sum_state))
    opened count le = subst (λ n. All (IsOpen g.place (sp_of t)) (range_of count n)) (sym sum_is) (in_range (IsOpen g.place (sp_of t)) count from (λ i lt. inr (omega arith, omega (arith, lt, le, fits))))

    byte_far : bytes < 2 → Leads g a (sum_lines ++ call LdAi ∷ []) 264 t (IsLoaded bytes from t)
    byte_far few = far_leads LdAi (λ b.
        leads_as g a (call LdAi ∷ []) 256 256 sum_state (HasRun (IsFarLoaded FarByte sum_state) sum_state) (IsLoaded bytes from t) (omega arith)
        (λ u h. byte_in t sum_regs bytes from u few on.stacks.calm.bytes (record { result = h.result ∙ ap t.mem sum_is; scratch = h.scratch; sp_is = h.sp_is }))
        (row_leads LdAi [] (range_of 1 (ax_of sum_state)) (IsFarLoaded FarByte sum_state) sum_state (sum_on b) (far_rows FarByte sum_state b) (All-nil (IsOpen g.place (sp_of t))) (opened 1 some) (omega arith)))

    word_far : 2 ≤ bytes → Leads g a (sum_lines ++ call LdAxi ∷ []) 264 t (IsLoaded bytes from t)
    word_far two = far_leads LdAxi (λ b.
        leads_as g a (call LdAxi ∷ []) 256 256 sum_state (HasRun (IsFarLoaded FarWord sum_state) sum_state) (IsLoaded bytes from t) (omega arith)
        (λ u h. word_in t sum_regs bytes from u on.stacks.calm.bytes (record { result = h.result ∙ ap (word_at t.mem) sum_is; scratch = h.scratch; sp_is = h.sp_is }))
        (row_leads LdAxi [] (range_of 2 (ax_of sum_state)) (IsFarLoaded FarWord sum_state) sum_state (sum_on b) (far_rows FarWord sum_state b) (All-nil (IsOpen g.place (sp_of t))) (opened 2 two) (omega arith)))

    -- ---- both

    near_leads : (b : Bool) → nat_lt bytes 2 ≡ b → at < 255 → Leads g a (if b then by_byte else to_y ++ call LdAxYSp ∷ []) 264 t (IsLoaded bytes from t)
    near_leads true e near = byte_near near (ltb-true bytes 2 e)
    near_leads false e near = word_near near (ltb-false bytes 2 e)

    far_by : (b : Bool) → nat_lt bytes 2 ≡ b → Leads g a (sum_lines ++ (if b then call LdAi ∷ [] else call LdAxi ∷ [])) 264 t (IsLoaded bytes from t)
    far_by true e = byte_far (ltb-true bytes 2 e)
    far_by false e = word_far (ltb-false bytes 2 e)

    pub loads_lead : Leads g a (load_code at bytes) 264 t (IsLoaded bytes from t)
    loads_lead = go (nat_lt at 255) refl
      where
        go : (b : Bool) → nat_lt at 255 ≡ b → Leads g a (if b then near_load at bytes else far_load at bytes) 264 t (IsLoaded bytes from t)
        go true e = near_leads (nat_lt bytes 2) refl (ltb-true at 255 e)
        go false e = far_by (nat_lt bytes 2) refl
