-- Routines of the library that write no byte of memory.
use Rattle.std.proofs.Common.{◌≡◌, ℕ, ◌+◌, ◌<◌, ◌≤◌, ◌⊎◌, inl, inr, List, [], false, refl, sym, ap, ◌∙◌, arith}
use Rattle.std.specs.Prelude.{min, max, All, None, true}
use Rattle.c65_meaning.specs.State.{Scene}
use Rattle.c65_code.specs.declared.parts.Part.TheVariants.{Zp}
use Rattle.c65_code.specs.Parts.{has_part}
use Rattle.c65_code.specs.LineState.{State, sp_of, IsBytes}
use Rattle.c65_code.specs.Placement.{IsPlacement, stack_start}
use Rattle.c65_code.specs.Texts.{range_of}
use Rattle.c65_code.specs.Rows.{Row, Meets, written}
use Rattle.c65_code.specs.Steady.{IsOpen, HasRoom}
use Rattle.c65_agree_store.specs.Stands.{Placing, Banks}
use Rattle.c65_agree_state.specs.World.{World, Active}
use Rattle.c65_agree_state.specs.Joins.{Joins}
use Rattle.c65_agree_state.specs.Exprs.{Ready}
use Rattle.c65_agree_state.specs.Laws.{OnlyScratch, HasStacks}
use Rattle.c65_agree_state.proofs.Followed.{ready_is_calm}
use Rattle.c65_agree_state.proofs.Scratch.{scratch_changes}
use Rattle.c65_agree_rows.proofs.Quiet.{in_range}
use Rattle.c65_agree_put.specs.Puts.{AreTaken}

-- the row writes no memory, and takes so many bytes that waited off
pub record IsStill (count : ℕ) (t : State) (row : Row) : Type 0 where
  pub sp : row.sp ≡ sp_of t + count
  pub writes : row.writes ≡ []
  pub ends : row.ends ≡ None
  pub bank : (i : ℕ) → i < 6 → has_part row.changes (Zp (20 + i)) ≡ false
  pub room : row.room ≡ 64

-- input is taken, and output written
abbrev pub with_text : Scene → List ℕ → List ℕ → Scene
with_text c input out = record c { store = c.store; input = input; out = out }

abbrev shown : State → List ℕ → List ℕ → State
shown t input output = record t { input = input; output = output }

module _ (g : World) (a : Active) (pushed needs count : ℕ) (c : Scene) (w : Placing) (k : Banks) (t : State) (row : Row) (placed : IsPlacement g.code g.place) (r : Ready g a (pushed + count) needs c w k t) (h : IsStill count t row) where
  stacks : HasStacks g t
  stacks = ready_is_calm g a (pushed + count) needs c w k t r

  text_joins : (input out : List ℕ) → All (λ v. v < 256) input → Joins g a (with_text c input out) w k (shown t input out)
  text_joins input out read = record {
    stands = r.joins.stands;
    bank = r.joins.bank;
    symbols = r.joins.symbols;
    fixed = record { own = r.joins.fixed.own; objects = r.joins.fixed.objects; once = r.joins.fixed.once };
    sizes = r.joins.sizes;
    sized = r.joins.sized;
    fresh = r.joins.fresh;
    homes = r.joins.homes;
    rests = λ b e. let x = r.joins.rests b e in record { block = x.block; is = x.is; place = x.place; size = x.size };
    since = r.joins.since;
    begun = r.joins.begun;
    owned = r.joins.owned;
    active = r.joins.active;
    calls = r.joins.calls;
    as_many = r.joins.as_many;
    above = r.joins.above;
    reached = r.joins.reached;
    constant = r.joins.constant;
    sealed = r.joins.sealed;
    top = r.joins.top;
    asked = r.joins.asked;
    few = r.joins.few;
    few_calls = r.joins.few_calls;
    counted = r.joins.counted;
    count_free = r.joins.count_free;
    hard = r.joins.hard;
    frames = r.joins.frames;
    input = refl;
    read = read;
    output = refl;
    ended = r.joins.ended;
    bytes = record { a = r.joins.bytes.a; x = r.joins.bytes.x; y = r.joins.bytes.y; zp = r.joins.bytes.zp; mem = r.joins.bytes.mem; pushed = r.joins.bytes.pushed; frames = r.joins.bytes.frames };
  }

  -- what may be reached above the base, may be reached
  pub lowered : (b : ℕ) → IsOpen g.place a.base b → IsOpen g.place (max (sp_of t) row.sp) b
  lowered b (inl there) = inl there
  lowered b (inr le) = inr (omega (arith, le.0, h.sp, r.sp), le.1)

  pub still_room : row.ready ≡ true → row.near ≡ range_of count (sp_of t) → All (IsOpen g.place (max (sp_of t) row.sp)) row.far → HasRoom g.place row t
  still_room ready near far = record {
    ready = ready;
    soft = stacks.soft;
    hard = stacks.hard;
    near = rw near (in_range (IsOpen g.place (min (sp_of t) row.sp)) count (sp_of t) (λ i lt. inr (omega arith, omega (arith, lt, r.sp, r.joins.top))));
    far = far;
  }

  module _ (u : State) (meets : Meets row t u) (bytes : IsBytes u) where
    same : (n : ℕ) → (n < stack_start) ⊎ (sp_of t ≤ n) → u.mem n ≡ t.mem n
    same n (inl low) = meets.mem n (inl (omega (arith, low, stacks.soft, h.room))) ∙ ap (λ ws. written t.mem ws n) h.writes
    same n (inr high) = meets.mem n (inr (inl high)) ∙ ap (λ ws. written t.mem ws n) h.writes

    pub still_taken : (input out : List ℕ) → All (λ v. v < 256) input → u.input ≡ input → u.output ≡ out → AreTaken g a pushed needs count c w k t (with_text c input out) k u
    still_taken input out read taken text =
        let sp : sp_of u ≡ sp_of t + count = meets.sp ∙ h.sp in
        let scratch : OnlyScratch a.base (shown t input out) u = record {
          mem = λ n side. same n (above n side);
          bank = λ i lt. meets.kept (Zp (20 + i)) (h.bank i lt);
          pushed = meets.pushed;
          frames = meets.frames;
          input = taken;
          output = text;
          ended = meets.ended ∙ h.ends ∙ sym r.joins.ended;
          bytes = bytes;
        } in
        record {
          ready = record { joins = scratch_changes g a (with_text c input out) w k (shown t input out) u placed (text_joins input out read) scratch; sp = omega (arith, sp, r.sp); room = omega (arith, sp, r.room); none_pushed = meets.pushed ∙ r.none_pushed };
          sp = sp;
          frames = refl;
          next = refl;
          bounds = λ b. refl;
          kept = λ n le f. (same n (inr (omega (arith, le))), f);
          banks = λ d i lt. refl;
          own_bank = λ i le. refl;
        }
      where
        above : (n : ℕ) → (n < stack_start) ⊎ (a.base ≤ n) → (n < stack_start) ⊎ (sp_of t ≤ n)
        above n (inl low) = inl low
        above n (inr high) = inr (omega (arith, high, r.sp))
