-- Between the statements of a call: steps of the meaning, jumps, and expressions under what is followed.
use Rattle.std.proofs.Common.{◌≡◌, ℕ, zero, suc, ◌+◌, ◌<◌, ◌≤◌, Bool, true, false, List, ◌∷◌, Some, Ok, Err, refl, sym, subst, arith}
use Rattle.std.specs.Prelude.{if◌then◌else◌, length, slice_get, Result}
use Rattle.std.specs.Bool.{beq}
use Rattle.c65_csem.specs.Trees.{Typed}
use Rattle.c65_csem_need.specs.Needs.{need}
use Rattle.c65_mach.specs.declared.rows.Op.TheVariants.{Jmp}
use Rattle.c65_meaning.specs.Program.{ProgramTy}
use Rattle.c65_meaning.specs.Why.{Why}
use Rattle.c65_meaning.specs.Store.{Store, Value}
use Rattle.c65_meaning.specs.Operators.{truth_of}
use Rattle.c65_meaning.specs.Sem.{IsDefined, outcome_of}
use Rattle.c65_meaning.specs.Items.{Item, plan}
use Rattle.c65_meaning.specs.State as meaning
use Rattle.c65_meaning.specs.State.{Scene, Running, Undefined, turned}
use Rattle.c65_meaning.specs.Step.{decided, perform, steps}
use Rattle.c65_code.specs.LineState.{Place, State}
use Rattle.c65_code.specs.Moves.{labelled}
use Rattle.c65_code.specs.Comes.{Seen, seen_at}
use Rattle.c65_genexpr.specs.declared.wanted.Wanted.TheVariants.{Test}
use Rattle.c65_genexpr.specs.Code.{expr_code}
use Rattle.c65_geneffect.specs.Effects.{effect_code}
use Rattle.c65_genentry.specs.Words.{jump}
use Rattle.c65_agree_store.specs.Stands.{Placing, Banks}
use Rattle.c65_agree_state.specs.World.{World, unit_in, program_in, total_in, owned_at, Active, lines_of, place_in, HasAt, HasTurns, HasCome, HasBranched}
use Rattle.c65_agree_state.specs.Joins.{Joins}
use Rattle.c65_agree_state.specs.Follows.{Follows}
use Rattle.c65_agree_state.specs.Exprs.{Ready, Kept, Tells}
use Rattle.c65_agree_between.specs.Stmts.{Between, Keeping}
use Rattle.c65_agree_state.proofs.Followed.{follows_weaken, steps_earn, heads_count, ready_is_calm}
use Rattle.c65_agree_between.proofs.Between.{between_is_ready, between_stays, keeping_goes_on}
use Rattle.c65_agree_state.proofs.Tests as tests
use Rattle.c65_agree_stmts.specs.Calling.{Calling, HasTest, HasEffect}

-- ---- turns

pub come_turns : (g : World) (turns : ℕ) (q : Place) (seen : Seen) → HasCome g turns q seen → HasTurns g turns q seen
come_turns g turns q seen h = omega (arith, h)

pub branched_turns : (g : World) (taken : Bool) (turns : ℕ) (q : Place) (seen : Seen) → HasBranched g taken turns q seen → HasTurns g turns q seen
branched_turns g true turns q seen h = come_turns g turns q seen h
branched_turns g false turns q seen h = h

-- where the machine has come to a loop's head the turn may be taken
pub turn_taken : (g : World) (turns : ℕ) (q : Place) (seen : Seen) → 1 ≤ owned_at g.heads q → HasCome g turns q seen → HasTurns g (suc turns) q seen
turn_taken g turns q seen own h = omega (arith, own, h)

-- ---- what is undefined

pub undefined_stays : (p : ProgramTy) (n : ℕ) (why : Why) → IsDefined (outcome_of (steps p n (Undefined why))) → ⊥
undefined_stays p zero why d = d
undefined_stays p (suc n) why d = undefined_stays p n why d

pub undefined_follows : (g : World) (n w : ℕ) (why : Why) (p : Place) (t : State) (seen : Seen) → Follows g n w (Undefined why) p t seen
undefined_follows g n w why p t seen d = absurd (undefined_stays (program_in g) n why d.1)

-- a decision by a value whose truth a test has told
pub decided_follows : (g : World) (n w : ℕ) (store : Store) (v : Value) (s taken : Bool) (one other : meaning.State) (p : Place) (t : State) (seen : Seen) → Tells store v s taken
    → (taken ≡ beq true s → Follows g n w one p t seen) → (taken ≡ beq false s → Follows g n w other p t seen) → Follows g n w (decided (truth_of store v) one other) p t seen
decided_follows g n w store v s taken one other p t seen tells a b = go (truth_of store v) refl
  where
    go : (o : Result Bool Why) → truth_of store v ≡ o → Follows g n w (decided o one other) p t seen
    go (Err why) e = undefined_follows g n w why p t seen
    go (Ok true) e = a (tells true e)
    go (Ok false) e = b (tells false e)

-- ---- scenes

-- a turn changes nothing else
pub turned_joins : (g : World) (a : Active) (c : Scene) (w : Placing) (k : Banks) (t : State) → Joins g a c w k t → Joins g a (turned c) w k t
turned_joins g a c w k t j = record {
  stands = j.stands;
  bank = j.bank;
  symbols = j.symbols;
  fixed = record { own = j.fixed.own; objects = j.fixed.objects; once = j.fixed.once };
  sizes = j.sizes;
  sized = j.sized;
  fresh = j.fresh;
  homes = j.homes;
  rests = λ b e. let r = j.rests b e in record { block = r.block; is = r.is; place = r.place; size = r.size };
  since = j.since;
  begun = j.begun;
  owned = j.owned;
  active = j.active;
  calls = j.calls;
  as_many = j.as_many;
  above = j.above;
  reached = j.reached;
  constant = j.constant;
  sealed = j.sealed;
  top = j.top;
  asked = j.asked;
  few = j.few;
  hard = j.hard;
  few_calls = j.few_calls;
  counted = j.counted;
  count_free = j.count_free;
  frames = j.frames;
  input = j.input;
  read = j.read;
  output = j.output;
  ended = j.ended;
  bytes = j.bytes;
}

module _ (x : Calling) where
  abbrev g : World
  g = x.world

  abbrev a : Active
  a = x.active

  abbrev vs : List Value
  vs = x.values

  abbrev at : ℕ → Place
  at p = place_in x.world x.active p

  -- between two statements, with these objects in scope, and what the call keeps kept
  pub record Stands (scope : List ℕ) (c : Scene) (q : Placing) (b : Banks) (t : State) : Type 0 where
    pub between : Between x.world x.active x.needs scope c q b t
    pub keeping : Keeping x.active x.first x.placing x.banks x.state c q b t

  pub stands_turned : (scope : List ℕ) (c : Scene) (q : Placing) (b : Banks) (t : State) → Stands scope c q b t → Stands scope (turned c) q b t
  stands_turned scope c q b t h =
      let i = h.between in
      let k = h.keeping in
      record {
        between = record { joins = turned_joins g a c q b t i.joins; sp = i.sp; room = i.room; scoped = i.scoped; sized = i.sized; call = i.call; none_pushed = i.none_pushed };
        keeping = record { next = k.next; bounds = k.bounds; grows = k.grows; kept = k.kept; banks = k.banks; own_bank = k.own_bank };
      }

  -- behind an expression
  pub stands_behind : (scope : List ℕ) (c c2 : Scene) (q q2 : Placing) (b b2 : Banks) (t u : State) → Stands scope c q b t → Kept g a c q b t c2 q2 b2 u → Stands scope c2 q2 b2 u
  stands_behind scope c c2 q q2 b b2 t u h kept = record {
    between = between_stays g a x.needs scope c c2 q q2 b b2 t u h.between kept;
    keeping = keeping_goes_on g a x.needs scope x.first c c2 x.placing q q2 x.banks b b2 x.state t u h.keeping h.between kept;
  }

  pub ready : (scope : List ℕ) (c : Scene) (q : Placing) (b : Banks) (t : State) → Stands scope c q b t → (needs : ℕ) → needs ≤ x.needs → Ready g a 0 needs c q b t
  ready scope c q b t h needs le =
      let r = between_is_ready g a x.needs scope c q b t h.between in
      record { joins = r.joins; sp = r.sp; room = omega (arith, le, r.room); none_pushed = r.none_pushed }

  -- a step of the meaning
  pub earns : (scope : List ℕ) (c : Scene) (q : Placing) (b : Banks) (t : State) → Stands scope c q b t → (n w : ℕ) (i : Item) (k : List Item) (values : List Value) (p : Place) (seen : Seen) → HasTurns g c.turns p seen
      → ((j : ℕ) → j < n → Follows g j (w + 4000) (perform (program_in g) i k values c) p t seen) → Follows g n w (Running (i ∷ k) values c) p t seen
  earns scope c q b t h n w i k values p seen turns f =
      let j = h.between.joins in
      steps_earn g n w i k values c p t seen (ready_is_calm g a 0 x.needs c q b t (ready scope c q b t h x.needs (omega arith))).calm j.output j.ended (omega (arith, turns)) f

  module _ (scope : List ℕ) (c : Scene) (q : Placing) (b : Banks) (t : State) (h : Stands scope c q b t) where
    -- a jump, where the turns that are to have been taken behind it are among the arrivals
    pub jumps_with : (n w turns p l : ℕ) (m : meaning.State) (seen : Seen) → slice_get (lines_of g a) p ≡ Some (jump Jmp l) → turns ≤ total_in g seen
        → (HasCome g turns (at (labelled (lines_of g a) l)) (seen_at (at (labelled (lines_of g a) l)) seen) → Follows g n w m (at (labelled (lines_of g a) l)) t (seen_at (at (labelled (lines_of g a) l)) seen))
        → Follows g n (1 + w) m (at p) t seen
    jumps_with n w turns p l m seen there few f =
        let r = ready scope c q b t h x.needs (omega arith) in
        tests.jump g n w m a.symbol p l t seen (record { line = jump Jmp l; there = there; formed = refl; calm = (ready_is_calm g a 0 x.needs c q b t r).calm; within = tt; running = h.between.joins.ended })
        (f (heads_count g turns (at (labelled (lines_of g a) l)) seen few))

    pub jumps : (n w turns p l : ℕ) (m : meaning.State) (seen : Seen) → slice_get (lines_of g a) p ≡ Some (jump Jmp l) → HasTurns g turns (at p) seen
        → (HasCome g turns (at (labelled (lines_of g a) l)) (seen_at (at (labelled (lines_of g a) l)) seen) → Follows g n w m (at (labelled (lines_of g a) l)) t (seen_at (at (labelled (lines_of g a) l)) seen))
        → Follows g n (1 + w) m (at p) t seen
    jumps n w turns p l m seen there has f = jumps_with n w turns p l m seen there (omega (arith, has)) f

    -- ---- expressions

    -- an expression whose value is not used
    pub effect_goes : (e : Typed) → HasEffect x e → (n w p fresh : ℕ) (k : List Item) (seen : Seen) → HasAt (lines_of g a) p (effect_code a.frame 0 fresh e) → HasTurns g c.turns (at p) seen
        → ((j : ℕ) (v : Value) (c2 : Scene) (q2 : Placing) (b2 : Banks) (u : State) (later : Seen) → j < n → Stands scope c2 q2 b2 u → HasTurns g c2.turns (at (p + length (effect_code a.frame 0 fresh e))) later
        → Follows g j (w + 2600) (Running k (v ∷ vs) c2) (at (p + length (effect_code a.frame 0 fresh e))) u later)
        → Follows g n w (Running (plan (unit_in g) e k) vs c) (at p) t seen
    effect_goes e has n w p fresh k seen there turns f =
        has.does 0 fresh n w p k vs c q b t seen there (ready scope c q b t h (need e) has.need) turns (λ j v c2 q2 b2 u later lt kept turns2.
        f j v c2 q2 b2 u later lt (stands_behind scope c c2 q q2 b b2 t u h kept) turns2)

    abbrev P : ℕ → ℕ → Bool → Place
    P to p taken = at (if taken then labelled (lines_of x.world x.active) to else p)

    -- a decision by an expression that is tested
    pub decision_goes : (e : Typed) → HasTest x e → (s : Bool) (to : ℕ) (i : Item) (one other : Scene → meaning.State) (n w p fresh : ℕ) (k : List Item) (seen : Seen)
        → ((v : Value) (c2 : Scene) → perform (program_in g) i k (v ∷ vs) c2 ≡ decided (truth_of c2.store v) (one c2) (other c2))
        → HasAt (lines_of g a) p (expr_code a.frame 0 fresh (Test to s) e) → HasTurns g c.turns (at p) seen
        → ((j : ℕ) (c2 : Scene) (q2 : Placing) (b2 : Banks) (u : State) (later : Seen) → j < n → Stands scope c2 q2 b2 u → HasBranched g (beq true s) c2.turns (P to (p + length (expr_code a.frame 0 fresh (Test to s) e)) (beq true s)) later
        → Follows g j (w + 6600) (one c2) (P to (p + length (expr_code a.frame 0 fresh (Test to s) e)) (beq true s)) u later)
        → ((j : ℕ) (c2 : Scene) (q2 : Placing) (b2 : Banks) (u : State) (later : Seen) → j < n → Stands scope c2 q2 b2 u → HasBranched g (beq false s) c2.turns (P to (p + length (expr_code a.frame 0 fresh (Test to s) e)) (beq false s)) later
        → Follows g j (w + 6600) (other c2) (P to (p + length (expr_code a.frame 0 fresh (Test to s) e)) (beq false s)) u later)
        → Follows g n w (Running (plan (unit_in g) e (i ∷ k)) vs c) (at p) t seen
    decision_goes e has s to i one other n w p fresh k seen performs there turns f f2 =
        has.does 0 fresh to s n w p (i ∷ k) vs c q b t seen there (ready scope c q b t h (need e) has.need) turns (λ j v taken c2 q2 b2 u later lt kept fits tells turns2.
        decision j v taken c2 q2 b2 u later lt (stands_behind scope c c2 q q2 b b2 t u h kept) tells turns2)
      where
        end : ℕ
        end = p + length (expr_code a.frame 0 fresh (Test to s) e)

        decision : (j : ℕ) (v : Value) (taken : Bool) (c2 : Scene) (q2 : Placing) (b2 : Banks) (u : State) (later : Seen) → j < n → Stands scope c2 q2 b2 u → Tells c2.store v s taken → HasBranched g taken c2.turns (P to end taken) later
            → Follows g j (w + 2600) (Running (i ∷ k) (v ∷ vs) c2) (P to end taken) u later
        decision j v taken c2 q2 b2 u later lt stands tells turns2 =
            earns scope c2 q2 b2 u stands j (w + 2600) i k (v ∷ vs) (P to end taken) later (branched_turns g taken c2.turns (P to end taken) later turns2) (λ h2 lt2.
            rw (performs v c2) (follows_weaken g h2 (w + 6600) (w + 2600 + 4000) _ _ u later (omega arith)
            (decided_follows g h2 (w + 6600) c2.store v s taken (one c2) (other c2) (P to end taken) u later tells
            (λ same. subst (λ z. Follows g h2 (w + 6600) (one c2) (P to end z) u later) (sym same) (f h2 c2 q2 b2 u later (omega (arith, lt, lt2)) stands (subst (λ z. HasBranched g z c2.turns (P to end z) later) same turns2)))
            (λ same. subst (λ z. Follows g h2 (w + 6600) (other c2) (P to end z) u later) (sym same) (f2 h2 c2 q2 b2 u later (omega (arith, lt, lt2)) stands (subst (λ z. HasBranched g z c2.turns (P to end z) later) same turns2))))))
