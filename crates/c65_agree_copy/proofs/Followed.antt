-- The lines of a copy, against the steps of the meaning.
use Rattle.std.proofs.Common.{◌≡◌, ℕ, zero, suc, ◌+◌, ◌*◌, ◌<◌, ◌≤◌, ◌⊎◌, inl, inr, List, ◌∷◌, ◌++◌, Bool, true, false, refl, sym, ap, ◌∙◌, subst, arith, length-append}
use Rattle.std.specs.Prelude.{length, nat_lt, if◌then◌else◌, Result, Ok, Err}
use Rattle.c65_mach.specs.declared.rows.Op.TheVariants.{Tay, Tya, Lda, Sta}
use Rattle.c65_mach.specs.declared.rows.Mode.TheVariants.{Implied, Immediate, ZeroPage}
use Rattle.c65_mach.specs.State.{Regs}
use Rattle.c65_mach.specs.Step.{apply}
use Rattle.c65_meaning.specs.Why.{Why, ◌>>=◌}
use Rattle.c65_meaning.specs.Store.{Value, Place}
use Rattle.c65_meaning.specs.Items.{Item, Carry}
use Rattle.c65_meaning.specs.State.{Scene, Running}
use Rattle.c65_meaning.specs.Step.{perform, carried_byte, carry_step}
use Rattle.c65_code.specs.declared.line.Operand.TheVariants.{Nothing, Byte, Zero}
use Rattle.c65_code.specs.declared.line.Line.TheVariants.{Do}
use Rattle.c65_code.specs.declared.routine.Routine.TheVariants.{CopyTos}
use Rattle.c65_code.specs.LineState.{Bytes, write, State, IsBytes, sp_of, ax_of, word_at}
use Rattle.c65_code.specs.Placement.{IsPlacement}
use Rattle.c65_code.specs.Rows.{row_of}
use Rattle.c65_code.specs.Texts.{range_of}
use Rattle.c65_code.specs.Weights.{row_cost}
use Rattle.c65_code.specs.Steady.{IsCalm}
use Rattle.c65_code.specs.Comes.{Seen, seen_at}
use Rattle.c65_genload.specs.Numbers.{first, second}
use Rattle.c65_genload.specs.Stores.{copy_code}
use Rattle.c65_agree_store.specs.Stands.{Placing, Banks}
use Rattle.c65_agree_state.specs.World.{World, Active, program_in, setting_in, lines_of, place_in, HasAt, HasTurns, total_in}
use Rattle.c65_agree_state.specs.Follows.{Follows}
use Rattle.c65_agree_state.specs.Exprs.{Ready}
use Rattle.c65_agree_state.specs.Laws.{OnlyScratch}
use Rattle.c65_agree_state.proofs.Followed.{follows_weaken, steps_earn, arrivals_count, ready_is_calm}
use Rattle.c65_agree_state.proofs.Leaves.{run, scratch_is_kept}
use Rattle.c65_agree_rows.specs.Laws.{Runs}
use Rattle.c65_agree_rows.proofs.Quiet.{write_other, write_same, nothing_follows, routines_are_followed}
use Rattle.c65_agree_numbers.proofs.Tests.{less, not_less}
use Rattle.c65_agree_copy.specs.Copies.{carried_on, AreAtHand, IsCopied}
use Rattle.c65_agree_copy.specs.Laws.{CopiesAreFollowed}
use Rattle.c65_agree_copy.proofs.Bytes.{byte_is_carried}
use Rattle.c65_agree_copy.proofs.Runs.{copies_run, range_length}

-- ---- the meaning

-- a byte leaves the output and the turns
record AreLeft (c c2 : Scene) : Type 0 where
  out : c2.out ≡ c.out
  turns : c2.turns ≡ c.turns

byte_leaves : (size b o d p done : ℕ) (c c2 : Scene) → carried_byte false done size c (Place b o) (Place d p) ≡ Ok c2 → AreLeft c c2
byte_leaves size b o d p done c c2 e =
    let s = byte_is_carried size b o d p done c c2 e in
    record { out = ap (λ x. x.out) s.scene; turns = ap (λ x. x.turns) s.scene }

carried_turns : (size b o d p done left : ℕ) (c c2 : Scene) → carried_on size (Place b o) (Place d p) done left c ≡ Ok c2 → c2.turns ≡ c.turns
carried_turns size b o d p done zero c c2 e = let same : c ≡ c2 = cc in ap (λ x. x.turns) (sym same)
carried_turns size b o d p done (suc left) c c2 e = go (λ c1 h. carried_turns size b o d p (suc done) left c1 c2 h) (carried_byte false done size c (Place b o) (Place d p)) refl e
  where
    go : ((c1 : Scene) → carried_on size (Place b o) (Place d p) (suc done) left c1 ≡ Ok c2 → c2.turns ≡ c1.turns) → (r : Result Scene Why) → carried_byte false done size c (Place b o) (Place d p) ≡ r → (r >>= λ x. carried_on size (Place b o) (Place d p) (suc done) left x) ≡ Ok c2 → c2.turns ≡ c.turns
    go deep (Err why) f h = cc
    go deep (Ok c1) f h = deep c1 h ∙ (byte_leaves size b o d p done c c1 f).turns

-- The steps of a copy: the machine stands before its lines meanwhile, and each step earns.
module _ (g : World) (a : Active) (pushed needs size b o d p : ℕ) (w : Placing) (banks : Banks) (c : Scene) (t : State) (v at : ℕ) (k : List Item) (vs : List Value) (seen : Seen) (r : Ready g a (pushed + 2) needs c w banks t) (turns : c.turns ≤ total_in g seen) where
  abbrev from : Value
  from = Place b o

  abbrev to : Value
  to = Place d p

  abbrev Behind : ℕ → ℕ → ℕ → ℕ → Scene → Type 0
  Behind n weight done left cd = (j : ℕ) (c2 : Scene) → j < n → carried_on size from to done left cd ≡ Ok c2 → Follows g j weight (Running k (to ∷ vs) c2) (place_in g a at) t seen

  -- a step that carries a byte
  byte_earns : (n done : ℕ) (cd : Scene) → done < size → AreLeft c cd
      → ((j : ℕ) → j < n → (s : Result Scene Why) → carried_byte false done size cd from to ≡ s → Follows g j (v + 4000 * done + 4000) (carry_step done size from to k vs s) (place_in g a at) t seen)
      → Follows g n (v + 4000 * done) (Running (Carry done size ∷ k) (from ∷ to ∷ vs) cd) (place_in g a at) t seen
  byte_earns n done cd lt l goes =
      steps_earn g n (v + 4000 * done) (Carry done size) k (from ∷ to ∷ vs) cd (place_in g a at) t seen (ready_is_calm g a (pushed + 2) needs c w banks t r).calm (r.joins.output ∙ sym l.out) r.joins.ended (omega (arith, turns, l.turns))
      (λ j less_than. subst (λ m. Follows g j (v + 4000 * done + 4000) m (place_in g a at) t seen) (sym (step_is (less done size lt))) (goes j less_than (carried_byte false done size cd from to) refl))
    where
      step_is : nat_lt done size ≡ true → perform (program_in g) (Carry done size) k (from ∷ to ∷ vs) cd ≡ carry_step done size from to k vs (carried_byte false done size cd from to)
      step_is h = ap (λ (x : Bool). if x then carry_step done size from to k vs (carried_byte false done size cd from to) else Running k (to ∷ vs) cd) h

  carries : (left n done : ℕ) (cd : Scene) → suc left + done ≡ size → AreLeft c cd → Behind n (v + 4000 * size) done (suc left) cd → Follows g n (v + 4000 * done) (Running (Carry done size ∷ k) (from ∷ to ∷ vs) cd) (place_in g a at) t seen
  carries zero n done cd e l behind = byte_earns n done cd (omega (arith, e)) l go
    where
      go : (j : ℕ) → j < n → (s : Result Scene Why) → carried_byte false done size cd from to ≡ s → Follows g j (v + 4000 * done + 4000) (carry_step done size from to k vs s) (place_in g a at) t seen
      go j lt (Err why) f = nothing_follows g why j (v + 4000 * done + 4000) (place_in g a at) t seen
      go j lt (Ok c1) f =
          let last : carry_step done size from to k vs (Ok c1) ≡ Running k (to ∷ vs) c1 = ap (λ (x : Bool). if x then Running (Carry (suc done) size ∷ k) (from ∷ to ∷ vs) c1 else Running k (to ∷ vs) c1) (not_less (suc done) size (omega (arith, e))) in
          let whole : v + 4000 * size ≡ v + 4000 * done + 4000 = omega (arith, e) in
          subst (λ m. Follows g j (v + 4000 * done + 4000) m (place_in g a at) t seen) (sym last) (subst (λ x. Follows g j x (Running k (to ∷ vs) c1) (place_in g a at) t seen) whole (behind j c1 lt (ap (λ s. s >>= λ x. carried_on size from to (suc done) 0 x) f)))
  carries (suc rest) n done cd e l behind = byte_earns n done cd (omega (arith, e)) l (go (λ j c1 l1 b1. carries rest j (suc done) c1 (omega (arith, e)) l1 b1))
    where
      go : ((j : ℕ) (c1 : Scene) → AreLeft c c1 → Behind j (v + 4000 * size) (suc done) (suc rest) c1 → Follows g j (v + 4000 * suc done) (Running (Carry (suc done) size ∷ k) (from ∷ to ∷ vs) c1) (place_in g a at) t seen)
          → (j : ℕ) → j < n → (s : Result Scene Why) → carried_byte false done size cd from to ≡ s → Follows g j (v + 4000 * done + 4000) (carry_step done size from to k vs s) (place_in g a at) t seen
      go deep j lt (Err why) f = nothing_follows g why j (v + 4000 * done + 4000) (place_in g a at) t seen
      go deep j lt (Ok c1) f =
          let more : carry_step done size from to k vs (Ok c1) ≡ Running (Carry (suc done) size ∷ k) (from ∷ to ∷ vs) c1 = ap (λ (x : Bool). if x then Running (Carry (suc done) size ∷ k) (from ∷ to ∷ vs) c1 else Running k (to ∷ vs) c1) (less (suc done) size (omega (arith, e))) in
          let whole : v + 4000 * suc done ≡ v + 4000 * done + 4000 = omega arith in
          let left = byte_leaves size b o d p done cd c1 f in
          subst (λ m. Follows g j (v + 4000 * done + 4000) m (place_in g a at) t seen) (sym more)
          (subst (λ x. Follows g j x (Running (Carry (suc done) size ∷ k) (from ∷ to ∷ vs) c1) (place_in g a at) t seen) whole
          (deep j c1 (record { out = left.out ∙ l.out; turns = left.turns ∙ l.turns }) (λ i c2 less_than h. behind i c2 (omega (arith, less_than, lt)) (ap (λ s. s >>= λ x. carried_on size from to (suc done) (suc rest) x) f ∙ h))))

  -- all steps, of which there is one where there are no bytes
  pub all_carried : (n : ℕ) → ((j : ℕ) (c2 : Scene) → j < n → carried_on size from to 0 size c ≡ Ok c2 → Follows g j (v + 2862 + 128 * size) (Running k (to ∷ vs) c2) (place_in g a at) t seen) → Follows g n v (Running (Carry 0 size ∷ k) (from ∷ to ∷ vs) c) (place_in g a at) t seen
  all_carried n behind = go size refl
    where
      go : (s : ℕ) → size ≡ s → Follows g n v (Running (Carry 0 size ∷ k) (from ∷ to ∷ vs) c) (place_in g a at) t seen
      go zero e =
          steps_earn g n v (Carry 0 size) k (from ∷ to ∷ vs) c (place_in g a at) t seen (ready_is_calm g a (pushed + 2) needs c w banks t r).calm r.joins.output r.joins.ended turns (λ j lt.
          let none : perform (program_in g) (Carry 0 size) k (from ∷ to ∷ vs) c ≡ Running k (to ∷ vs) c = ap (λ (x : Bool). if x then carry_step 0 size from to k vs (carried_byte false 0 size c from to) else Running k (to ∷ vs) c) (not_less 0 size (omega (arith, e))) in
          subst (λ m. Follows g j (v + 4000) m (place_in g a at) t seen) (sym none)
          (follows_weaken g j (v + 2862 + 128 * size) (v + 4000) _ (place_in g a at) t seen (omega (arith, e)) (behind j c lt (ap (λ s. carried_on size from to 0 s c) e))))
      go (suc left) e =
          let start : v + 4000 * 0 ≡ v = omega arith in
          subst (λ x. Follows g n x (Running (Carry 0 size ∷ k) (from ∷ to ∷ vs) c) (place_in g a at) t seen) start
          (carries left n 0 c (omega (arith, e)) (record { out = refl; turns = refl }) (λ j c2 lt h. follows_weaken g j (v + 2862 + 128 * size) (v + 4000 * size) _ (place_in g a at) t seen (omega (arith, e)) (behind j c2 lt (ap (λ s. carried_on size from to 0 s c) e ∙ h))))

-- ---- the machine

-- other registers, and other bytes in ptr3
module _ (g : World) (a : Active) (placed : IsPlacement g.code g.place) (pushed needs : ℕ) (c : Scene) (w : Placing) (banks : Banks) (t : State) (r : Ready g a pushed needs c w banks t) (regs : Regs) (zp : Bytes) (others : (i : ℕ) → (i < 12) ⊎ (14 ≤ i) → zp i ≡ t.zp i) (bytes : IsBytes (record t { regs = regs; zp = zp })) where
  abbrev later : State
  later = record t { regs = regs; zp = zp }

  scratch : OnlyScratch (sp_of t) t later
  scratch = record { mem = λ n h. refl; bank = λ i lt. sym (others (20 + i) (inr (omega arith))); pushed = refl; frames = refl; input = refl; output = refl; ended = refl; bytes = bytes }

  same_sp : sp_of later ≡ sp_of t
  same_sp = let low = others 0 (inl (omega arith)) in let high = others 1 (inl (omega arith)) in omega (arith, low, high)

  still_ready : Ready g a pushed needs c w banks later
  still_ready = record { joins = (scratch_is_kept g a pushed needs c w banks t later placed r scratch same_sp).joins; sp = omega (arith, same_sp, r.sp); room = omega (arith, same_sp, r.room); none_pushed = r.none_pushed }

module _ (g : World) (a : Active) (pushed needs size b o d p : ℕ) (c c2 : Scene) (w : Placing) (banks : Banks) (t : State) (n v at : ℕ) (k : List Item) (vs : List Value) (placed : IsPlacement g.code g.place) (has : HasAt (lines_of g a) at (copy_code size)) (small : size < 65536) (r : Ready g a (pushed + 2) needs c w banks t) (hand : AreAtHand w b o d p t) (done : carried_on size (Place b o) (Place d p) 0 size c ≡ Ok c2) where
  abbrev regs1 : Regs
  regs1 = apply false Tay 0 t.regs

  abbrev regs2 : Regs
  regs2 = apply false Lda (first size) regs1

  abbrev zp3 : Bytes
  zp3 = write t.zp 12 (first size)

  abbrev regs4 : Regs
  regs4 = apply false Lda (second size) regs2

  abbrev zp5 : Bytes
  zp5 = write zp3 13 (second size)

  abbrev regs6 : Regs
  regs6 = apply false Tya 0 regs4

  abbrev with_both : Regs → Bytes → State
  with_both regs zp = record t { regs = regs; zp = zp }

  others0 : (i : ℕ) → (i < 12) ⊎ (14 ≤ i) → t.zp i ≡ t.zp i
  others0 i h = refl

  others3 : (i : ℕ) → (i < 12) ⊎ (14 ≤ i) → zp3 i ≡ t.zp i
  others3 i h = write_other t.zp 12 (first size) i (λ e. apart h e)
    where
      apart : (i < 12) ⊎ (14 ≤ i) → i ≡ 12 → ⊥
      apart (inl x) e = omega (arith, x, e)
      apart (inr x) e = omega (arith, x, e)

  others5 : (i : ℕ) → (i < 12) ⊎ (14 ≤ i) → zp5 i ≡ t.zp i
  others5 i h = write_other zp3 13 (second size) i (λ e. apart h e) ∙ others3 i h
    where
      apart : (i < 12) ⊎ (14 ≤ i) → i ≡ 13 → ⊥
      apart (inl x) e = omega (arith, x, e)
      apart (inr x) e = omega (arith, x, e)

  ready_at : (regs : Regs) (zp : Bytes) → ((i : ℕ) → (i < 12) ⊎ (14 ≤ i) → zp i ≡ t.zp i) → IsBytes (with_both regs zp) → Ready g a (pushed + 2) needs c w banks (with_both regs zp)
  ready_at regs zp others bytes = still_ready g a placed (pushed + 2) needs c w banks t r regs zp others bytes

  calm_at : (regs : Regs) (zp : Bytes) → ((i : ℕ) → (i < 12) ⊎ (14 ≤ i) → zp i ≡ t.zp i) → IsBytes (with_both regs zp) → IsCalm (setting_in g) (with_both regs zp)
  calm_at regs zp others bytes = (ready_is_calm g a (pushed + 2) needs c w banks (with_both regs zp) (ready_at regs zp others bytes)).calm

  count_is : zp5 12 + 256 * zp5 13 ≡ size
  count_is =
      let low : zp5 12 ≡ first size = write_other zp3 13 (second size) 12 (λ e. omega (arith, e)) ∙ write_same t.zp 12 (first size) in
      let high : zp5 13 ≡ second size = write_same zp3 13 (second size) in
      omega (arith, low, high, small)

  last_hand : AreAtHand w b o d p (with_both regs6 zp5)
  last_hand =
      let low = others5 0 (inl (omega arith)) in
      let high = others5 1 (inl (omega arith)) in
      let sp : zp5 0 + 256 * zp5 1 ≡ sp_of t = omega (arith, low, high) in
      record { from = hand.from; from_is = hand.from_is; source = hand.source; to = hand.to; to_is = hand.to_is; target = ap (word_at t.mem) sp ∙ hand.target }

  -- behind the lines
  lines_copy : (seen : Seen) → HasTurns g c.turns (place_in g a at) seen
      → ((u : State) (later : Seen) → IsCopied g a pushed needs c w banks t c2 u → c2.turns ≡ c.turns → HasTurns g c.turns (place_in g a (suc (suc (suc (suc (suc (suc (suc at)))))))) later → Follows g n (v + 2600) (Running k (Place d p ∷ vs) c2) (place_in g a (suc (suc (suc (suc (suc (suc (suc at)))))))) u later)
      → Follows g n (v + 2862 + 128 * size) (Running k (Place d p ∷ vs) c2) (place_in g a at) t seen
  lines_copy seen turns behind =
      let m = Running k (Place d p ∷ vs) c2 in
      let rest = v + 2600 + (256 + 128 * size) in
      let w1 = 1 + rest in
      let w2 = 1 + w1 in
      let w3 = 1 + w2 in
      let w4 = 1 + w3 in
      let w5 = 1 + w4 in
      follows_weaken g n (1 + w5) (v + 2862 + 128 * size) m (place_in g a at) t seen (omega arith)
      (run g n w5 m a.symbol at t seen Tay Implied Nothing (record { line = Do Tay Implied Nothing; there = has.0; formed = refl; calm = (ready_is_calm g a (pushed + 2) needs c w banks t r).calm; within = tt; running = r.joins.ended }) (omega arith) (λ b1.
      let s1 = seen_at (place_in g a (suc at)) seen in
      let h1 : HasTurns g c.turns (place_in g a (suc at)) s1 = arrivals_count g c.turns (place_in g a (suc at)) seen (omega (arith, turns)) in
      run g n w4 m a.symbol (suc at) (with_both regs1 t.zp) s1 Lda Immediate (Byte (first size)) (record { line = Do Lda Immediate (Byte (first size)); there = has.1.0; formed = refl; calm = calm_at regs1 t.zp others0 b1; within = tt; running = r.joins.ended }) (omega arith) (λ b2.
      let s2 = seen_at (place_in g a (suc (suc at))) s1 in
      let h2 : HasTurns g c.turns (place_in g a (suc (suc at))) s2 = arrivals_count g c.turns (place_in g a (suc (suc at))) s1 (omega (arith, h1)) in
      run g n w3 m a.symbol (suc (suc at)) (with_both regs2 t.zp) s2 Sta ZeroPage (Zero 12) (record { line = Do Sta ZeroPage (Zero 12); there = has.1.1.0; formed = refl; calm = calm_at regs2 t.zp others0 b2; within = (omega arith, λ _. omega arith); running = r.joins.ended }) tt (λ b3.
      let s3 = seen_at (place_in g a (suc (suc (suc at)))) s2 in
      let h3 : HasTurns g c.turns (place_in g a (suc (suc (suc at)))) s3 = arrivals_count g c.turns (place_in g a (suc (suc (suc at)))) s2 (omega (arith, h2)) in
      run g n w2 m a.symbol (suc (suc (suc at))) (with_both regs2 zp3) s3 Lda Immediate (Byte (second size)) (record { line = Do Lda Immediate (Byte (second size)); there = has.1.1.1.0; formed = refl; calm = calm_at regs2 zp3 others3 b3; within = tt; running = r.joins.ended }) (omega arith) (λ b4.
      let s4 = seen_at (place_in g a (suc (suc (suc (suc at))))) s3 in
      let h4 : HasTurns g c.turns (place_in g a (suc (suc (suc (suc at))))) s4 = arrivals_count g c.turns (place_in g a (suc (suc (suc (suc at))))) s3 (omega (arith, h3)) in
      run g n w1 m a.symbol (suc (suc (suc (suc at)))) (with_both regs4 zp3) s4 Sta ZeroPage (Zero 13) (record { line = Do Sta ZeroPage (Zero 13); there = has.1.1.1.1.0; formed = refl; calm = calm_at regs4 zp3 others3 b4; within = (omega arith, λ _. omega arith); running = r.joins.ended }) tt (λ b5.
      let s5 = seen_at (place_in g a (suc (suc (suc (suc (suc at)))))) s4 in
      let h5 : HasTurns g c.turns (place_in g a (suc (suc (suc (suc (suc at)))))) s5 = arrivals_count g c.turns (place_in g a (suc (suc (suc (suc (suc at)))))) s4 (omega (arith, h4)) in
      run g n rest m a.symbol (suc (suc (suc (suc (suc at))))) (with_both regs4 zp5) s5 Tya Implied Nothing (record { line = Do Tya Implied Nothing; there = has.1.1.1.1.1.0; formed = refl; calm = calm_at regs4 zp5 others5 b5; within = tt; running = r.joins.ended }) (omega arith) (λ b6.
      let s6 = seen_at (place_in g a (suc (suc (suc (suc (suc (suc at))))))) s5 in
      let h6 : HasTurns g c.turns (place_in g a (suc (suc (suc (suc (suc (suc at))))))) s6 = arrivals_count g c.turns (place_in g a (suc (suc (suc (suc (suc (suc at))))))) s5 (omega (arith, h5)) in
      last s6 h6 b6)))))))
    where
      last : (s6 : Seen) → HasTurns g c.turns (place_in g a (suc (suc (suc (suc (suc (suc at))))))) s6 → IsBytes (with_both regs6 zp5) → Follows g n (v + 2600 + (256 + 128 * size)) (Running k (Place d p ∷ vs) c2) (place_in g a (suc (suc (suc (suc (suc (suc at))))))) (with_both regs6 zp5) s6
      last s6 h6 b6 =
          let t6 = with_both regs6 zp5 in
          let ready : Ready g a (pushed + 2) needs c w banks t6 = ready_at regs6 zp5 others5 b6 in
          let copy : Runs g CopyTos t6 (IsCopied g a pushed needs c w banks t6 c2) = copies_run g a pushed needs size b o d p c c2 w banks t6 placed ready last_hand count_is done in
          let cost : row_cost (row_of CopyTos t6) + (v + 2600) ≤ v + 2600 + (256 + 128 * size) = cost_is in
          follows_weaken g n (row_cost (row_of CopyTos t6) + (v + 2600)) (v + 2600 + (256 + 128 * size)) _ (place_in g a (suc (suc (suc (suc (suc (suc at))))))) t6 s6 cost
          (routines_are_followed g a (pushed + 2) needs c w banks t6 n (v + 2600) (suc (suc (suc (suc (suc (suc at)))))) (Running k (Place d p ∷ vs) c2) s6 CopyTos ready has.1.1.1.1.1.1.0 copy.room (λ u meets bytes.
          let s7 = seen_at (place_in g a (suc (suc (suc (suc (suc (suc (suc at)))))))) s6 in
          let h7 : HasTurns g c.turns (place_in g a (suc (suc (suc (suc (suc (suc (suc at)))))))) s7 = arrivals_count g c.turns (place_in g a (suc (suc (suc (suc (suc (suc (suc at)))))))) s6 (omega (arith, h6)) in
          behind u s7 (back u (copy.behind u meets bytes)) (carried_turns size b o d p 0 size c c2 done) h7))
        where
          lengths : (count to from : ℕ) → length (range_of count from ++ range_of count to) ≡ 2 * count
          lengths count to from = omega (arith, length-append (range_of count from) (range_of count to), range_length count from, range_length count to)

          cost_is : row_cost (row_of CopyTos (with_both regs6 zp5)) + (v + 2600) ≤ v + 2600 + (256 + 128 * size)
          cost_is = let h = lengths (zp5 12 + 256 * zp5 13) (word_at t.mem (zp5 0 + 256 * zp5 1)) (ax_of (with_both regs6 zp5)) in omega (arith, h, count_is)

          -- what the copy leaves of the state before the last line it leaves of the first
          back : (u : State) → IsCopied g a pushed needs c w banks (with_both regs6 zp5) c2 u → IsCopied g a pushed needs c w banks t c2 u
          back u x =
              let low = others5 0 (inl (omega arith)) in
              let high = others5 1 (inl (omega arith)) in
              let sp : zp5 0 + 256 * zp5 1 ≡ sp_of t = omega (arith, low, high) in
              record {
                taken = record { ready = x.taken.ready; sp = x.taken.sp ∙ ap (λ y. y + 2) sp; frames = x.taken.frames; next = x.taken.next; bounds = x.taken.bounds; kept = λ q le f. x.taken.kept q (omega (arith, le, sp)) f; banks = x.taken.banks; own_bank = x.taken.own_bank };
                value = x.value ∙ ap (word_at t.mem) sp;
              }

pub copies_are_followed : CopiesAreFollowed
copies_are_followed g a pushed needs size b o d p c w banks t n v at k vs seen placed has small r hand turns behind =
    all_carried g a pushed needs size b o d p w banks c t v at k vs seen r (omega (arith, turns)) n (λ j c2 lt done.
    let ends : suc (suc (suc (suc (suc (suc (suc at)))))) ≡ at + length (copy_code size) = omega arith in
    lines_copy g a pushed needs size b o d p c c2 w banks t j v at k vs placed has small r hand done seen turns (λ u later copied same h.
    let there = subst (λ q. HasTurns g c2.turns (place_in g a q) later) ends (subst (λ x. HasTurns g x (place_in g a (suc (suc (suc (suc (suc (suc (suc at)))))))) later) (sym same) h) in
    subst (λ q. Follows g j (v + 2600) (Running k (Place d p ∷ vs) c2) (place_in g a q) u later) (sym ends) (behind j c2 u later lt copied there)))
