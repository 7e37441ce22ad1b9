-- A value in its register that is tested by all its bytes.
use Rattle.std.proofs.Common.{◌≡◌, ℕ, zero, suc, ◌+◌, ◌*◌, ◌%◌, ◌<◌, ◌≤◌, ◌⊎◌, inl, inr, List, [], ◌∷◌, ◌++◌, length, Bool, true, false, ℤ, pos, negsuc, refl, sym, ap, ◌∙◌, subst, arith, length-append}
use Rattle.std.specs.Prelude.{◌==◌, not, bit_or, if◌then◌else◌, Ok, Err}
use Rattle.std.specs.Bool.{beq}
use Rattle.std.proofs.lemmas.Nat.{le_or_l, le_or_r}
use Rattle.std.proofs.lemmas.Bool.Decides.{nat_tests}
use Rattle.std.proofs.lemmas.Int.{ints}
use Rattle.c65_ints.specs.declared.types.IntType.{IntType}
use Rattle.c65_ints.specs.declared.types.IntType.TheVariants as I
use Rattle.c65_ints.specs.Ranges.{residue, InRange}
use Rattle.c65_mach.specs.State.{Regs}
use Rattle.c65_mach.specs.declared.rows.Op.{Op}
use Rattle.c65_mach.specs.Step.{apply, is_taken}
use Rattle.c65_mach.specs.declared.rows.Op.TheVariants.{Ora}
use Rattle.c65_meaning.specs.declared.action.Action.TheVariants.{EndedObject}
use Rattle.c65_meaning.specs.Why.{By}
use Rattle.c65_meaning.specs.Store as values
use Rattle.c65_meaning.specs.Store.{Store, Value, Whole, Null, Opaque, Cells, NoValue, Shape, Number, Field, Pointer, Area, is_live}
use Rattle.c65_meaning.specs.Fits.{Fits}
use Rattle.c65_meaning.specs.Items.{Item}
use Rattle.c65_meaning.specs.Operators.{truth_of}
use Rattle.c65_meaning.specs.State.{Scene, Running}
use Rattle.c65_code.specs.declared.line.Line.{Line}
use Rattle.c65_code.specs.declared.routine.Width.{Width}
use Rattle.c65_code.specs.declared.routine.Width.TheVariants.{Ax, Eax}
use Rattle.c65_code.specs.LineState.{Bytes, State, write, ax_of, eax_of, IsBytes}
use Rattle.c65_code.specs.Placement.{IsPlacement}
use Rattle.c65_code.specs.Numbers.{words_of}
use Rattle.c65_code.specs.Forms.{Branch, form_of}
use Rattle.c65_code.specs.Rows.{primary_of}
use Rattle.c65_code.specs.Moves.{labelled}
use Rattle.c65_code.specs.Comes.{Seen, seen_at}
use Rattle.c65_genload.specs.Words.{branch}
use Rattle.c65_genload.specs.Conversions.{test_code}
use Rattle.c65_genexpr.specs.Wanted.{by_sense, branch_code, value_test_code}
use Rattle.c65_agree_store.specs.Stands.{At, Placing, Banks}
use Rattle.c65_agree_step.specs.Ways.{IsAtLine}
use Rattle.c65_agree_state.specs.World.{World, setting_in, Active, lines_of, place_in, HasAt, HasTurns}
use Rattle.c65_agree_state.specs.Follows.{Follows}
use Rattle.c65_agree_state.specs.Exprs.{Ready, Valued, ResultIs, MayFit, Kept, Done, Tells, width_in}
use Rattle.c65_agree_state.proofs.Followed.{follows_weaken, branches_count, ready_is_calm}
use Rattle.c65_agree_state.proofs.Nodes.{has_front, has_back, ready_stays}
use Rattle.c65_agree_state.proofs.Parts.{kept_goes_on}
use Rattle.c65_agree_rows.proofs.Quiet.{write_other}
use Rattle.c65_agree_put.specs.Laws.{IsScalar}
use Rattle.c65_agree_frame.specs.Leads.{Leads, IsOn}
use Rattle.c65_agree_frame.proofs.Leads.{leads_as, kept_regs, kept_zero, lines_lead}
use Rattle.c65_agree_load.proofs.Kept.{is_on, kept_later, ready_later}
use Rattle.c65_agree_direct.proofs.Spots.{live_block}
use Rattle.c65_agree_direct.proofs.Tests.{same_zero}
use Rattle.c65_agree_operate.specs.Manners.{Manner, IsHeld, IsLeft}
use Rattle.c65_agree_operate.proofs.Manners.{left_then, left_held}
use Rattle.c65_agree_operate.proofs.Exact.{at_regs, To}
use Rattle.c65_agree_compare.specs.Branches.{end_of, RestOfBranch}
use Rattle.c65_agree_compare.specs.Laws.{ValuesAreTested}
use Rattle.c65_agree_compare.proofs.Taken.{branch_goes, is_told, is_branch}

-- ---- the truth of a value in its register

not_zero : (n : ℕ) → (n ≡ 0 → ⊥) → (n == 0) ≡ false
not_zero n some = same_zero n 1 (λ h. absurd (some h)) (λ h. absurd (omega (arith, h)))

-- no number of four bytes is in AX
abbrev FitsIn : Width → IntType → Type 0
FitsIn Ax I.Long = ⊥
FitsIn Ax I.ULong = ⊥
FitsIn width kind = Unit {0}

-- the bounds of the words of a width
record IsNear (width : Width) (z : ℤ) : Type 0 where
  above : (n : ℕ) → z ≡ pos n → n < words_of width
  below : (n : ℕ) → z ≡ negsuc n → suc n < words_of width

near_in : (kind : IntType) (width : Width) (z : ℤ) → FitsIn width kind → InRange kind z → IsNear width z
near_in I.SChar Ax z fits r = record { above = λ n e. omega (arith, ints, r.high, e); below = λ n e. omega (arith, ints, r.low, e) }
near_in I.UChar Ax z fits r = record { above = λ n e. omega (arith, ints, r.high, e); below = λ n e. omega (arith, ints, r.low, e) }
near_in I.Short Ax z fits r = record { above = λ n e. omega (arith, ints, r.high, e); below = λ n e. omega (arith, ints, r.low, e) }
near_in I.UShort Ax z fits r = record { above = λ n e. omega (arith, ints, r.high, e); below = λ n e. omega (arith, ints, r.low, e) }
near_in I.Int Ax z fits r = record { above = λ n e. omega (arith, ints, r.high, e); below = λ n e. omega (arith, ints, r.low, e) }
near_in I.UInt Ax z fits r = record { above = λ n e. omega (arith, ints, r.high, e); below = λ n e. omega (arith, ints, r.low, e) }
near_in I.Long Ax z fits r = absurd fits
near_in I.ULong Ax z fits r = absurd fits
near_in I.SChar Eax z fits r = record { above = λ n e. omega (arith, ints, r.high, e); below = λ n e. omega (arith, ints, r.low, e) }
near_in I.UChar Eax z fits r = record { above = λ n e. omega (arith, ints, r.high, e); below = λ n e. omega (arith, ints, r.low, e) }
near_in I.Short Eax z fits r = record { above = λ n e. omega (arith, ints, r.high, e); below = λ n e. omega (arith, ints, r.low, e) }
near_in I.UShort Eax z fits r = record { above = λ n e. omega (arith, ints, r.high, e); below = λ n e. omega (arith, ints, r.low, e) }
near_in I.Int Eax z fits r = record { above = λ n e. omega (arith, ints, r.high, e); below = λ n e. omega (arith, ints, r.low, e) }
near_in I.UInt Eax z fits r = record { above = λ n e. omega (arith, ints, r.high, e); below = λ n e. omega (arith, ints, r.low, e) }
near_in I.Long Eax z fits r = record { above = λ n e. omega (arith, ints, r.high, e); below = λ n e. omega (arith, ints, r.low, e) }
near_in I.ULong Eax z fits r = record { above = λ n e. omega (arith, ints, r.high, e); below = λ n e. omega (arith, ints, r.low, e) }

residue_some : (width : Width) (n : ℕ) → suc n < words_of width → residue (words_of width) (pos (suc n)) ≡ 0 → ⊥
residue_some Ax n lt e = omega (arith, ints, lt, e)
residue_some Eax n lt e = omega (arith, ints, lt, e)

residue_below : (width : Width) (n : ℕ) → suc n < words_of width → residue (words_of width) (negsuc n) ≡ 0 → ⊥
residue_below Ax n lt e = omega (arith, ints, lt, e)
residue_below Eax n lt e = omega (arith, ints, lt, e)

residue_none : (width : Width) → residue (words_of width) (pos zero) ≡ 0
residue_none Ax = refl
residue_none Eax = refl

number_truth : (width : Width) (s : Store) (z : ℤ) (b : Bool) → IsNear width z → truth_of s (Whole z) ≡ Ok b → (residue (words_of width) z == 0) ≡ not b
number_truth width s (pos zero) b near e = let same : false ≡ b = cc in ap (λ n. n == 0) (residue_none width) ∙ ap not same
number_truth width s (pos (suc n)) b near e = let same : true ≡ b = cc in not_zero (residue (words_of width) (pos (suc n))) (residue_some width n (near.above (suc n) refl)) ∙ ap not same
number_truth width s (negsuc n) b near e = let same : true ≡ b = cc in not_zero (residue (words_of width) (negsuc n)) (residue_below width n (near.below n refl)) ∙ ap not same

own_width : (kind : IntType) → FitsIn (width_in (Number kind)) kind
own_width I.SChar = tt
own_width I.UChar = tt
own_width I.Short = tt
own_width I.UShort = tt
own_width I.Int = tt
own_width I.UInt = tt
own_width I.Long = tt
own_width I.ULong = tt

module _ (g : World) (a : Active) (pushed needs : ℕ) (c : Scene) (w : Placing) (k : Banks) (t : State) (r : Ready g a pushed needs c w k t) where
  -- the register is 0 where the value is false
  truth_tells : (f : Shape) (v : Value) (b : Bool) → IsScalar f → MayFit Valued f v → ResultIs Valued w (width_in f) v t → truth_of c.store v ≡ Ok b → (primary_of (width_in f) t == 0) ≡ not b
  truth_tells (Number kind) (Whole z) b scalar fit is e = ap (λ n. n == 0) is ∙ number_truth (width_in (Number kind)) c.store z b (near_in kind (width_in (Number kind)) z (own_width kind) fit) e
  truth_tells (Pointer size) Null b scalar fit is e =
      let false_is : false ≡ b = cc in
      ap (λ n. n == 0) is ∙ ap not false_is
  truth_tells (Pointer size) (values.Place m o) b scalar fit is e = go (is_live c.store m) refl e
    where
      go : (live : Bool) → is_live c.store m ≡ live → (if live then Ok true else Err (By EndedObject)) ≡ Ok b → (ax_of t == 0) ≡ not b
      go true live e =
          let l = live_block c.store m live in
          let lies = r.joins.stands.lies m l.block (At is.0) (record { is = l.is; live = l.live; place = is.1 }) in
          let some : ax_of t ≡ 0 → ⊥ = λ h. omega (arith, h, is.2, lies.0) in
          let true_is : true ≡ b = cc in
          not_zero (ax_of t) some ∙ ap not true_is
      go false live e = cc
  truth_tells (Number kind) Null b scalar fit is e = absurd fit
  truth_tells (Number kind) (values.Place m o) b scalar fit is e = absurd fit
  truth_tells (Number kind) (Cells xs) b scalar fit is e = absurd fit
  truth_tells (Pointer size) (Whole z) b scalar fit is e = absurd fit
  truth_tells (Pointer size) (Cells xs) b scalar fit is e = absurd fit
  truth_tells (Number kind) Opaque b scalar fit is e = cc
  truth_tells (Number kind) NoValue b scalar fit is e = cc
  truth_tells (Pointer size) Opaque b scalar fit is e = cc
  truth_tells (Pointer size) NoValue b scalar fit is e = cc
  truth_tells (Field kind low width) v b scalar fit is e = absurd scalar
  truth_tells (Area size) v b scalar fit is e = absurd scalar

-- ---- the lines

-- registers and tmp1 are others, and Z tells whether a number is 0
record IsTested (n : ℕ) (t u : State) : Type 0 where
  only : u ≡ record t { regs = u.regs; zp = write t.zp 16 t.regs.x }
  z : u.regs.z ≡ (n == 0)
  bytes : IsBytes u

none_or : (a b : ℕ) → bit_or a b ≡ 0 → (a ≡ 0) × (b ≡ 0)
none_or a b e = (omega (arith, e, le_or_l a b), omega (arith, e, le_or_r a b))

or_none : (a b : ℕ) → a ≡ 0 → b ≡ 0 → bit_or a b ≡ 0
or_none a b e f = ap (λ x. bit_or x b) e ∙ ap (bit_or 0) f

module _ (g : World) (a : Active) (pushed needs : ℕ) (c : Scene) (w : Placing) (k : Banks) (t : State) (placed : IsPlacement g.code g.place) (r : Ready g a pushed needs c w k t) where
  abbrev zp : Bytes
  zp = write t.zp 16 t.regs.x

  abbrev v : State
  v = record t { zp = zp }

  others_stay : (i : ℕ) → (i < 2) ⊎ (20 ≤ i) → zp i ≡ t.zp i
  others_stay i (inl h) = write_other t.zp 16 t.regs.x i (λ e. omega (arith, e, h))
  others_stay i (inr h) = write_other t.zp 16 t.regs.x i (λ e. omega (arith, e, h))

  on_t : IsOn g t
  on_t = is_on g a pushed needs c w k t placed r

  abbrev first : Regs
  first = apply false Ora (zp 16) t.regs

  abbrev second : Regs
  second = apply false Ora (t.zp 2) first

  abbrev third : Regs
  third = apply false Ora (t.zp 3) second

  word_leads : Leads g a (test_code Ax) 2 t (To v first)
  word_leads = lines_lead g a (test_code Ax) t placed on_t (refl, (omega arith, λ h. omega arith), tt, kept_zero t 16 t.regs.x (omega arith), (refl, (omega arith, λ h. omega arith), tt, kept_regs v first, tt))

  long_leads : Leads g a (test_code Eax) 4 t (To v third)
  long_leads = lines_lead g a (test_code Eax) t placed on_t (
    refl,
    (omega arith, λ h. omega arith),
    tt,
    kept_zero t 16 t.regs.x (omega arith),
    (
      refl,
      (omega arith, λ h. omega arith),
      tt,
      kept_regs v first,
      (refl, (omega arith, λ h. omega arith), tt, kept_regs (at_regs v first) second, (refl, (omega arith, λ h. omega arith), tt, kept_regs (at_regs v second) third, tt)),
    ),
  )

  -- the bits of all bytes together
  low_zero : (bit_or t.regs.a t.regs.x == 0) ≡ (ax_of t == 0)
  low_zero = same_zero (bit_or t.regs.a t.regs.x) (ax_of t) (λ e. let h = none_or t.regs.a t.regs.x e in omega (arith, h.0, h.1)) (λ e. or_none t.regs.a t.regs.x (omega (arith, e)) (omega (arith, e)))

  all_zero : (bit_or (bit_or (bit_or t.regs.a t.regs.x) (t.zp 2)) (t.zp 3) == 0) ≡ (eax_of t == 0)
  all_zero =
      let x : ℕ = bit_or t.regs.a t.regs.x in
      same_zero (bit_or (bit_or x (t.zp 2)) (t.zp 3)) (eax_of t)
      (λ e. let h = none_or (bit_or x (t.zp 2)) (t.zp 3) e in let h2 = none_or x (t.zp 2) h.0 in let h3 = none_or t.regs.a t.regs.x h2.0 in omega (arith, h.1, h2.1, h3.0, h3.1))
      (λ e. or_none (bit_or x (t.zp 2)) (t.zp 3) (or_none x (t.zp 2) (or_none t.regs.a t.regs.x (omega (arith, e)) (omega (arith, e))) (omega (arith, e))) (omega (arith, e)))

  behind_word : (u : State) → To v first u → IsTested (ax_of t) t u
  behind_word u h = rw h.0 (record { only = refl; z = low_zero; bytes = subst IsBytes h.0 h.1 })

  behind_long : (u : State) → To v third u → IsTested (eax_of t) t u
  behind_long u h = rw h.0 (record { only = refl; z = all_zero; bytes = subst IsBytes h.0 h.1 })

  test_leads : (width : Width) → Leads g a (test_code width) 4 t (IsTested (primary_of width t) t)
  test_leads Ax = leads_as g a (test_code Ax) 2 4 t (To v first) (IsTested (ax_of t) t) (omega arith) (λ u h. behind_word u h) word_leads
  test_leads Eax = leads_as g a (test_code Eax) 4 4 t (To v third) (IsTested (eax_of t) t) (omega arith) (λ u h. behind_long u h) long_leads

  -- only scratch bytes are others
  tested_kept : (n : ℕ) (u : State) → IsTested n t u → Kept g a c w k t c w k u
  tested_kept n u h = subst (λ z. Kept g a c w k t c w k z) (sym h.only) (kept_later g a pushed needs c w k t placed r u.regs zp others_stay (subst IsBytes h.only h.bytes))

  tested_held : (n : ℕ) (u : State) → IsTested n t u → IsHeld t u
  tested_held n u h = record { low = ap (λ (z : State). z.zp 10) h.only ∙ write_other t.zp 16 t.regs.x 10 (λ e. omega (arith, e)); high = ap (λ (z : State). z.zp 11) h.only ∙ write_other t.zp 16 t.regs.x 11 (λ e. omega (arith, e)) }

-- ---- the branch

-- a branch behind lines that have ended, by a truth that the flags tell
module _ (g : World) (a : Active) (m : Manner) (f : Shape) (s : Bool) (to pushed needs n weight p end : ℕ) (ends : suc p ≡ end) (k : List Item) (vs : List Value) (c : Scene) (w : Placing) (b : Banks) (t : State) (rest : RestOfBranch g a m f s to n weight end k vs c w b t)
    (o : ℕ) (lt : o < n) (v : Value) (c2 : Scene) (w2 : Placing) (b2 : Banks) (u : State) (later : Seen) (ready : Ready g a pushed needs c2 w2 b2 u) (kept : Kept g a c w b t c2 w2 b2 u) (left : IsLeft m c t c2 u) (fit : MayFit Valued f v) where
  pub branch_tests : (op : Op) → form_of (branch op to) ≡ Branch op to → HasAt (lines_of g a) p (branch op to ∷ []) → Tells c2.store v s (is_taken op u.regs) → HasTurns g c2.turns (place_in g a p) later → Follows g o (2 + (weight + 2600 + m.over)) (Running k (v ∷ vs) c2) (place_in g a p) u later
  branch_tests op formed has told turned =
      let taken : Bool = is_taken op u.regs in
      let at : IsAtLine (setting_in g) a.symbol p u (Branch op to) = record { line = branch op to; there = has.0; formed = formed; calm = (ready_is_calm g a pushed needs c2 w2 b2 u ready).calm; within = tt; running = ready.joins.ended } in
      branch_goes g o (weight + 2600 + m.over) (Running k (v ∷ vs) c2) a.symbol p to u later op taken at refl
      (subst (λ q. Follows g o (weight + 2600 + m.over) (Running k (v ∷ vs) c2) (place_in g a (end_of g a taken to q)) u (seen_at (place_in g a (end_of g a taken to q)) later)) (sym ends)
      (rest o v taken c2 w2 b2 u (seen_at (place_in g a (end_of g a taken to end)) later) lt kept fit told left
      (branches_count g taken c2.turns (place_in g a (end_of g a taken to end)) later (omega (arith, turned)))))

module _ (g : World) (a : Active) (m : Manner) (f : Shape) (s : Bool) (to needs pushed : ℕ) (lines : List Line) (placed : IsPlacement g.code g.place) (scalar : IsScalar f) (n weight p : ℕ) (k : List Item) (vs : List Value) (c : Scene) (w : Placing) (b : Banks) (t : State)
    (has : HasAt (lines_of g a) p (lines ++ value_test_code (width_in f) s to)) (rest : RestOfBranch g a m f s to n weight (p + length (lines ++ value_test_code (width_in f) s to)) k vs c w b t)
    (o : ℕ) (lt : o < n) (v : Value) (c2 : Scene) (w2 : Placing) (b2 : Banks) (u : State) (later : Seen) (ready : Ready g a pushed needs c2 w2 b2 u) (done : Done g a Valued f c w b t v c2 w2 b2 u) (left : IsLeft m c t c2 u) (turned : HasTurns g c2.turns (place_in g a (p + length lines)) later) where
  abbrev front : List Line
  front = test_code (width_in f)

  behind : HasAt (lines_of g a) (p + length lines) (front ++ branch_code s to)
  behind = has_back (lines_of g a) p lines (front ++ branch_code s to) has

  ends : suc (p + length lines + length front) ≡ p + length (lines ++ value_test_code (width_in f) s to)
  ends = omega (arith, length-append lines (front ++ branch_code s to), length-append front (branch_code s to))

  value_tested : Follows g o (weight + 2606 + m.over) (Running k (v ∷ vs) c2) (place_in g a (p + length lines)) u later
  value_tested =
      follows_weaken g o (4 + (2 + (weight + 2600 + m.over))) (weight + 2606 + m.over) (Running k (v ∷ vs) c2) (place_in g a (p + length lines)) u later (omega arith)
      (test_leads g a pushed needs c2 w2 b2 u placed ready (width_in f) o (2 + (weight + 2600 + m.over)) (p + length lines) c2.turns (Running k (v ∷ vs) c2) later (has_front (lines_of g a) (p + length lines) front (branch_code s to) behind) turned (λ x after h turned2.
      let kept2 = tested_kept g a pushed needs c2 w2 b2 u placed ready (primary_of (width_in f) u) x h in
      let told : Tells c2.store v s (is_taken (by_sense s) x.regs) = λ y e. is_told s y x (h.z ∙ truth_tells g a pushed needs c2 w2 b2 u ready f v y scalar done.fits done.result e) in
      branch_tests g a m f s to pushed needs n weight (p + length lines + length front) (p + length (lines ++ value_test_code (width_in f) s to)) ends k vs c w b t rest o lt v c2 w2 b2 x after
      (ready_stays g a pushed needs needs c2 c2 w2 w2 b2 b2 u x (omega arith) ready kept2) (kept_goes_on g a c c2 c2 w w2 w2 b b2 b2 t u x done.kept kept2)
      (left_then m c c2 c2 t u x left (left_held m c2 u x (tested_held g a pushed needs c2 w2 b2 u placed ready (primary_of (width_in f) u) x h))) done.fits
      (by_sense s) (is_branch s to) (has_back (lines_of g a) (p + length lines) front (branch_code s to) behind) told turned2))

pub values_are_tested : ValuesAreTested
values_are_tested g a m more f s to needs pushed work lines placed scalar enough does n weight p k vs c w b t seen has r turns rest =
    does n weight p k vs c w b t seen (has_front (lines_of g a) p lines (value_test_code (width_in f) s to) has) r turns (λ j v c2 w2 b2 u later lt done left turned.
    let ready = ready_stays g a pushed needs needs c c2 w w2 b b2 t u (omega arith) r done.kept in
    follows_weaken g j (weight + 2606 + m.over) (weight + 2600 + more) (Running k (v ∷ vs) c2) (place_in g a (p + length lines)) u later (omega (arith, enough))
    (value_tested g a m f s to needs pushed lines placed scalar n weight p k vs c w b t has rest j lt v c2 w2 b2 u later ready done (record { scene = left.scene; held = left.held }) turned))
