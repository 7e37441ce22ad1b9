-- The scene with cells that are put belongs to the state with their bytes.
use Rattle.std.proofs.Common.{◌≡◌, ◌≢◌, ℕ, ◌+◌, ◌<◌, ◌≤◌, ◌⊎◌, inl, inr, Some, None, true, false, refl, sym, ap, ◌∙◌, subst, arith}
use Rattle.std.specs.Prelude.{length, IsTrue}
use Rattle.std.proofs.lemmas.Bool.{cases_eq, cases_lt}
use Rattle.std.proofs.lemmas.Bool.Decides.{nat_tests}
use Rattle.c65_meaning.specs.Store.{Cell, Block, Store, set_block}
use Rattle.c65_meaning.specs.Shapes.{object_in, object_size}
use Rattle.c65_meaning.specs.State.{Scene, rest_in, hard_sum}
use Rattle.c65_csem.specs.Places.{is_fixed_object}
use Rattle.c65_code.specs.LineState.{State, sp_of, s_of}
use Rattle.c65_code.specs.Placement.{IsPlacement, stack_start}
use Rattle.c65_agree_store.specs.Stands.{Spot, At, Banked, Placing, Banks, IsAt, LiesIn, IsFree, beyond, byte_in, stored_at}
use Rattle.c65_agree_store.specs.Laws.{with_cells, ArePut}
use Rattle.c65_agree_store.proofs.Keep.{block_same, block_other, stores_go_on_standing}
use Rattle.c65_agree_state.specs.World.{World, Active, unit_in}
use Rattle.c65_agree_state.specs.Fixed.{symbol_at, HasFor}
use Rattle.c65_agree_state.specs.Joins.{Joins, IsRest, IsOfCall, HasBlock, HasBank}
use Rattle.c65_agree_state.specs.Exprs.{bounds_of}
use Rattle.c65_agree_state.proofs.Scratch.{constants_are_low}
use Rattle.c65_agree_state.proofs.Parts.{lives_by, sizes_stay, sized_stay}
use Rattle.c65_agree_put.specs.Puts.{IsBeside, OnlyStored, AreLaid, IsOwn, IsNoConstant, MayPut, with_put, AreBanks, banks_in}
use Rattle.c65_agree_put.specs.Laws.{PutsJoin, PutsAreKept, PutsAreTaken, BanksFollow, WaitingIsKept}

-- ---- spots

same_offset : (q : Spot) (i p : ℕ) → beyond q i ≡ beyond q p → i ≡ p
same_offset (At a) i p e = let f : a + i ≡ a + p = cc in omega (arith, f)
same_offset (Banked d j) i p e = let f : j + i ≡ j + p = cc in omega (arith, f)

-- ---- regbank

module _ (a : Active) (u : State) (k : Banks) where
  in_now : (d i : ℕ) → d ≡ length a.behind → i < 6 → banks_in a u k d i ≡ u.zp (20 + i)
  in_now d i e lt = grind (arith, nat_tests)

  in_others : (d i : ℕ) → d ≢ length a.behind → banks_in a u k d i ≡ k d i
  in_others d i ne = grind (arith, nat_tests)

  in_past : (d i : ℕ) → 6 ≤ i → banks_in a u k d i ≡ k d i
  in_past d i le = grind (arith, nat_tests)

pub banks_follow : BanksFollow
banks_follow a k t u o n = (record { now = λ i lt. in_now a u k (length a.behind) i refl lt; others = in_others a u k; past = λ i le. in_past a u k (length a.behind) i le }, stay)
  where
    stay : (at : ℕ) → HasBank k (length a.behind) t → OnlyStored a (sp_of t) (At at) o n t u → AreBanks a k u k
    stay at h s = record { now = λ i lt. h i lt ∙ s.bank i lt (λ l less e. apart l i e); others = λ d i ne. refl; past = λ i le. refl }
      where
        apart : (l i : ℕ) → At (at + (o + l)) ≡ Banked (length a.behind) i → ⊥
        apart l i e = cc

module _ (a : Active) (u : State) (k later : Banks) (banks : AreBanks a k u later) where
  bank_now : (d i : ℕ) → d ≡ length a.behind → i < 6 → later d i ≡ u.zp (20 + i)
  bank_now d i e lt = ap (λ n. later n i) e ∙ banks.now i lt

  -- the byte of a spot that the active call reaches is the machine's
  byte_now : (r : Spot) (size p o n : ℕ) → LiesIn r size → p < size → IsOwn a r o n → byte_in u.mem later r p ≡ stored_at u r p
  byte_now (At at) size p o n lies lt own = refl
  byte_now (Banked d i) size p o n lies lt own = bank_now d (i + p) own.0 (omega (arith, lies, lt))

-- ---- blocks

module _ (c : Scene) (w : Placing) (b : ℕ) (x : Block) (q : Spot) (o n : ℕ) (new : ℕ → Cell) (here : IsAt c.store w b x q) where
  abbrev later : Block
  later = with_cells x o n new

  abbrev after : Store
  after = set_block c.store b later

  -- a block that is live behind the store was so before
  record Was (d : ℕ) (y : Block) (r : Spot) : Type 0 where
    block : Block
    is : IsAt c.store w d block r
    size : block.size ≡ y.size
    holds : block.holds ≡ y.holds
    sealed : block.sealed ≡ y.sealed

  was : (d : ℕ) (y : Block) (r : Spot) → IsAt after w d y r → Was d y r
  was d y r h = go (cases_eq d b)
    where
      go : (d ≡ b) ⊎ (d ≡ b → ⊥) → Was d y r
      go (inl e) =
          let f : y ≡ later = cc (h.is, block_same c.store b d later e) in
          let g : r ≡ q = cc (h.place, here.place, ap w e) in
          record { block = x; is = record { is = ap c.store e ∙ here.is; live = here.live; place = h.place }; size = sym (ap (λ z. z.size) f); holds = sym (ap (λ z. z.holds) f); sealed = sym (ap (λ z. z.sealed) f) }
      go (inr ne) = record { block = y; is = record { is = sym (block_other c.store b d later ne) ∙ h.is; live = h.live; place = h.place }; size = refl; holds = refl; sealed = refl }

  pub free_stays : (p : Spot) → IsFree c.store w p → IsFree after w p
  free_stays p f d y r i at lt =
      let h = was d y r at in
      f d h.block r i h.is (rw h.size lt)

  pub bounds_stay : (d : ℕ) → bounds_of (after d) ≡ bounds_of (c.store d)
  bounds_stay d = go (cases_eq d b)
    where
      go : (d ≡ b) ⊎ (d ≡ b → ⊥) → bounds_of (after d) ≡ bounds_of (c.store d)
      go (inl f) = ap bounds_of (block_same c.store b d later f) ∙ sym (ap bounds_of (ap c.store f ∙ here.is))
      go (inr ne) = ap bounds_of (block_other c.store b d later ne)

-- ---- what is beside a place

module _ (g : World) (a : Active) (c : Scene) (w : Placing) (k : Banks) (t : State) (b : ℕ) (x : Block) (q : Spot) (o n : ℕ) (j : Joins g a c w k t) (m : MayPut g a c w b x q o n) where
  -- a free byte is none of them
  pub free_beside : (p : Spot) → IsFree c.store w p → IsBeside q o n p
  free_beside p f i lt e = f b x q (o + i) m.block (omega (arith, lt, m.fits, j.stands.whole b x m.block.is)) e

  -- nor is a constant one
  pub constant_beside : (v at : ℕ) → g.place.constant at ≡ Some v → IsBeside q o n (At at)
  constant_beside v at e i lt f = go q refl m.writable
    where
      go : (r : Spot) → q ≡ r → (x.sealed ≡ false) ⊎ IsNoConstant g q o n → ⊥
      go (Banked d l) h side = let clash : Banked d (l + (o + i)) ≡ At at = ap (λ r. beyond r (o + i)) (sym h) ∙ f in cc
      go (At from) h (inl unsealed) =
          let same : At (from + (o + i)) ≡ At at = ap (λ r. beyond r (o + i)) (sym h) ∙ f in
          let same2 : from + (o + i) ≡ at = cc in
          let block : IsAt c.store w b x (At from) = subst (λ r. IsAt c.store w b x r) h m.block in
          let shut : x.sealed ≡ true = j.sealed b x from (o + i) v block (omega (arith, lt, m.fits)) (ap g.place.constant same2 ∙ e) in
          let clash : true ≡ false = sym shut ∙ unsealed in
          cc
      go (At from) h (inr none) =
          let same : At (from + (o + i)) ≡ At at = ap (λ r. beyond r (o + i)) (sym h) ∙ f in
          let same2 : from + (o + i) ≡ at = cc in
          let clash : None ≡ Some v = sym (none from i h lt) ∙ ap g.place.constant same2 ∙ e in
          cc

-- ---- what is stored

module _ (g : World) (a : Active) (placed : IsPlacement g.code g.place) (c : Scene) (w : Placing) (k k2 : Banks) (t u : State) (b : ℕ) (x : Block) (q : Spot) (o n : ℕ) (new : ℕ → Cell) (j : Joins g a c w k t) (m : MayPut g a c w b x q o n) (s : OnlyStored a a.base q o n t u) (laid : AreLaid w q o n new u) (banks : AreBanks a k u k2) where
  whole : x.holds ≤ x.size
  whole = j.stands.whole b x m.block.is

  there : (i : ℕ) → i < n → byte_in u.mem k2 q (o + i) ≡ stored_at u q (o + i)
  there i lt = byte_now a u k k2 banks q x.size (o + i) o n (j.stands.lies b x q m.block) (omega (arith, lt, m.fits, whole)) m.own

  -- a byte of a live block that is none of these
  same_byte : (d : ℕ) (y : Block) (r : Spot) (p : ℕ) → IsAt c.store w d y r → p < y.holds → IsBeside q o n (beyond r p) → byte_in u.mem k2 r p ≡ byte_in t.mem k r p
  same_byte d y (At at) p is lt beside = go (cases_lt (at + p) stack_start) (cases_lt (at + p) a.base)
    where
      go : (at + p < stack_start) ⊎ (stack_start ≤ at + p) → (at + p < a.base) ⊎ (a.base ≤ at + p) → u.mem (at + p) ≡ t.mem (at + p)
      go (inl h) _ = s.mem (at + p) (inl h) beside
      go (inr h) (inr h2) = s.mem (at + p) (inr h2) beside
      go (inr h) (inl h2) = absurd (j.above (at + p) h h2 d y (At at) p is (omega (arith, lt, j.stands.whole d y is.is)) refl)
  same_byte d y (Banked e i) p is lt beside = go (cases_eq e (length a.behind))
    where
      small : i + p < 6
      small = omega (arith, lt, j.stands.whole d y is.is, j.stands.lies d y (Banked e i) is)

      go : (e ≡ length a.behind) ⊎ (e ≡ length a.behind → ⊥) → k2 e (i + p) ≡ k e (i + p)
      go (inr ne) = banks.others e (i + p) ne
      go (inl f) = bank_now a u k k2 banks e (i + p) f small ∙ sym (s.bank (i + p) small (subst (λ v. IsBeside q o n (Banked v (i + p))) f beside)) ∙ sym (j.bank (i + p) small) ∙ ap (λ v. k v (i + p)) (sym f)

  put : ArePut c.store w t.mem k b x q o n new u.mem k2
  put = record {
    block = m.block;
    fits = m.fits;
    there = λ i lt. rw (there i lt) (laid i lt);
    here = λ p lt. (λ low. same_byte b x q p m.block lt (λ i less e. below p i low (same_offset q (o + i) p e)), λ high. same_byte b x q p m.block lt (λ i less e. past p i less high (same_offset q (o + i) p e)));
    elsewhere = λ d y r p is ne lt. same_byte d y r p is lt (λ i less e. j.stands.apart b d x y q r m.block is (λ f. ne (sym f)) (o + i) p (omega (arith, less, m.fits, whole)) (omega (arith, lt, j.stands.whole d y is.is)) e);
  }
    where
      below : (p i : ℕ) → p < o → o + i ≡ p → ⊥
      below p i low e = omega arith

      past : (p i : ℕ) → i < n → o + n ≤ p → o + i ≡ p → ⊥
      past p i less high e = omega arith

  rests_stay : (d : ℕ) → rest_in c.frames ≡ Some d → IsRest a (with_put c b x o n new) w d
  rests_stay d e = go (cases_eq d b)
    where
      h : IsRest a c w d
      h = j.rests d e

      go : (d ≡ b) ⊎ (d ≡ b → ⊥) → IsRest a (with_put c b x o n new) w d
      go (inl f) =
          let same : Some h.block ≡ Some x = sym h.is ∙ ap c.store f ∙ m.block.is in
          let one : h.block ≡ x = cc in
          record { block = with_cells x o n new; is = block_same c.store b d (with_cells x o n new) f; place = h.place; size = sym (ap (λ z. z.size) one) ∙ h.size }
      go (inr ne) = record { block = h.block; is = block_other c.store b d (with_cells x o n new) ne ∙ h.is; place = h.place; size = h.size }

  fixed_stay : (i d p l : ℕ) (y : Block) (r : Spot) → is_fixed_object (object_in (unit_in g) i) ≡ true → IsAt (set_block c.store b (with_cells x o n new)) w d y r
      → p < y.size → l < object_size (unit_in g).types (object_in (unit_in g) i) → beyond r p ≡ At (symbol_at g i + l) → HasFor i d c.frames
  fixed_stay i d p l y r fixed at lt less e =
      let h = was c w b x q o n new m.block d y r at in
      j.fixed.own i d p l h.block r fixed h.is (rw h.size lt) less e

  owned_stay : (d : ℕ) (y : Block) (r : Spot) → IsAt (set_block c.store b (with_cells x o n new)) w d y r → 0 < y.size → IsOfCall a r → HasBlock c d
  owned_stay d y r at some inside = let h = was c w b x q o n new m.block d y r at in j.owned d h.block r h.is (rw h.size some) inside

  stays_joined : Joins g a (with_put c b x o n new) w k2 u
  stays_joined = record {
    stands = stores_go_on_standing c.store w t.mem u.mem k k2 b x q o n new j.stands put;
    bank = banks.now;
    symbols = j.symbols;
    fixed = record { own = fixed_stay; objects = j.fixed.objects; once = j.fixed.once };
    sizes = sizes_stay (unit_in g) c.store (set_block c.store b (with_cells x o n new)) c.next c.next (omega arith) (λ d lt. bounds_stay c w b x q o n new m.block d) j.sizes;
    sized = sized_stay (unit_in g) c (with_put c b x o n new) refl (λ i d e. bounds_stay c w b x q o n new m.block d) j.sized;
    fresh = j.fresh;
    homes = j.homes;
    rests = rests_stay;
    since = j.since;
    begun = λ d le live. j.begun d le (sym (lives_by (set_block c.store b (with_cells x o n new) d) (c.store d) (bounds_stay c w b x q o n new m.block d)) ∙ live);
    owned = owned_stay;
    active = j.active;
    calls = j.calls;
    as_many = j.as_many;
    above = λ p lo hi. free_stays c w b x q o n new m.block (At p) (j.above p lo hi);
    reached = reached;
    constant = λ p v e. s.mem p (inl (constants_are_low g placed p v e)) (constant_beside g a c w k t b x q o n j m v p e) ∙ j.constant p v e;
    sealed = sealed;
    top = j.top;
    asked = j.asked;
    few = j.few;
    few_calls = j.few_calls;
    counted = λ e. s.mem a.base (inr (omega arith)) (free_beside g a c w k t b x q o n j m (At a.base) (j.count_free e)) ∙ j.counted e;
    count_free = λ e. free_stays c w b x q o n new m.block (At a.base) (j.count_free e);
    hard = hard;
    frames = s.frames ∙ j.frames;
    input = s.input ∙ j.input;
    read = j.read;
    output = s.output ∙ j.output;
    ended = s.ended ∙ j.ended;
    bytes = s.bytes;
  }
    where
      reached : (d : ℕ) (y : Block) (at p : ℕ) → IsAt (set_block c.store b (with_cells x o n new)) w d y (At at) → p < y.holds → IsTrue (g.place.is_data (at + p)) ⊎ (a.base ≤ at + p)
      reached d y at p is lt = let h = was c w b x q o n new m.block d y (At at) is in j.reached d h.block at p h.is (rw h.holds lt)

      sealed : (d : ℕ) (y : Block) (at p v : ℕ) → IsAt (set_block c.store b (with_cells x o n new)) w d y (At at) → p < y.holds → g.place.constant (at + p) ≡ Some v → y.sealed ≡ true
      sealed d y at p v is lt e = let h = was c w b x q o n new m.block d y (At at) is in sym h.sealed ∙ j.sealed d h.block at p v h.is (rw h.holds lt) e

      hard : 255 ≤ s_of u + length u.pushed + hard_sum c.frames
      hard = rw (s.pushed, s.frames) j.hard

pub puts_join : PutsJoin
puts_join g a c w k later t u b x q o n new placed j m s laid banks = stays_joined g a placed c w k later t u b x q o n new j m s laid banks

-- above a higher bound less is said
pub stored_above : (a : Active) (low high : ℕ) (q : Spot) (o n : ℕ) (t u : State) → low ≤ high → OnlyStored a low q o n t u → OnlyStored a high q o n t u
stored_above a low high q o n t u le s = record { mem = mem; bank = s.bank; pushed = s.pushed; frames = s.frames; input = s.input; output = s.output; ended = s.ended; bytes = s.bytes }
  where
    mem : (p : ℕ) → (p < stack_start) ⊎ (high ≤ p) → IsBeside q o n (At p) → u.mem p ≡ t.mem p
    mem p (inl h) beside = s.mem p (inl h) beside
    mem p (inr h) beside = s.mem p (inr (omega (arith, h, le))) beside

-- the bytes from sp on that were free stay, and are free
module _ (g : World) (a : Active) (placed : IsPlacement g.code g.place) (c : Scene) (w : Placing) (t u : State) (b : ℕ) (x : Block) (q : Spot) (o n : ℕ) (new : ℕ → Cell) (whole : x.holds ≤ x.size) (m : MayPut g a c w b x q o n) (s : OnlyStored a (sp_of t) q o n t u) where
  pub still_free : (p : ℕ) → sp_of t ≤ p → IsFree c.store w (At p) → (u.mem p ≡ t.mem p) × IsFree (set_block c.store b (with_cells x o n new)) w (At p)
  still_free p le f = (s.mem p (inr le) (λ i lt e. f b x q (o + i) m.block (omega (arith, lt, m.fits, whole)) e), free_stays c w b x q o n new m.block (At p) f)

  pub still_bound : (d : ℕ) → bounds_of (set_block c.store b (with_cells x o n new) d) ≡ bounds_of (c.store d)
  still_bound = bounds_stay c w b x q o n new m.block

-- the banks that stay
module _ (g : World) (a : Active) (c : Scene) (w : Placing) (k later : Banks) (t u : State) (b : ℕ) (x : Block) (q : Spot) (o n : ℕ) (j : Joins g a c w k t) (m : MayPut g a c w b x q o n) (s : OnlyStored a (sp_of t) q o n t u) (banks : AreBanks a k u later) where
  -- a byte that the frame does not take is none of them
  no_bank : (q2 : Spot) → q ≡ q2 → (i : ℕ) → a.frame.bank ≤ i → IsBeside q o n (Banked (length a.behind) i)
  no_bank (At at) e i le l lt f = let clash : At (at + (o + l)) ≡ Banked (length a.behind) i = ap (λ v. beyond v (o + l)) (sym e) ∙ f in cc
  no_bank (Banked d p) e i le l lt f =
      let clash : Banked d (p + (o + l)) ≡ Banked (length a.behind) i = ap (λ v. beyond v (o + l)) (sym e) ∙ f in
      let same : p + (o + l) ≡ i = cc in
      omega (arith, same, le, lt, (subst (λ v. IsOwn a v o n) e m.own).1)

  own_stays : (i : ℕ) → a.frame.bank ≤ i → later (length a.behind) i ≡ k (length a.behind) i
  own_stays i few = go (cases_lt i 6)
    where
      go : (i < 6) ⊎ (6 ≤ i) → later (length a.behind) i ≡ k (length a.behind) i
      go (inl lt) = banks.now i lt ∙ sym (s.bank i lt (no_bank q refl i few)) ∙ sym (j.bank i lt)
      go (inr le) = banks.past i le

pub puts_are_kept : PutsAreKept
puts_are_kept g a pushed needs c w k later t u b x q o n new placed r m s laid banks sp =
    let whole : x.holds ≤ x.size = r.joins.stands.whole b x m.block.is in
    record {
      joins = puts_join g a c w k later t u b x q o n new placed r.joins m (stored_above a (sp_of t) a.base q o n t u (omega (arith, r.sp)) s) laid banks;
      sp = sp;
      frames = refl;
      next = omega arith;
      bounds = λ d lt. still_bound g a placed c w t u b x q o n new whole m s d;
      grows = λ d r e. e;
      kept = still_free g a placed c w t u b x q o n new whole m s;
      banks = λ d i lt. banks.others d i (λ e. omega (arith, lt, e));
      own_bank = own_stays g a c w k later t u b x q o n r.joins m s banks;
      none_pushed = s.pushed ∙ r.none_pushed;
    }

pub puts_are_taken : PutsAreTaken
puts_are_taken g a pushed needs count c w k later t u b x q o n new placed r m s laid banks sp =
    let whole : x.holds ≤ x.size = r.joins.stands.whole b x m.block.is in
    record {
      ready = record {
        joins = puts_join g a c w k later t u b x q o n new placed r.joins m (stored_above a (sp_of t) a.base q o n t u (omega (arith, r.sp)) s) laid banks;
        sp = omega (arith, sp, r.sp);
        room = omega (arith, sp, r.room);
        none_pushed = s.pushed ∙ r.none_pushed;
      };
      sp = sp;
      frames = refl;
      next = refl;
      bounds = still_bound g a placed c w t u b x q o n new whole m s;
      kept = λ p le f. still_free g a placed c w t u b x q o n new whole m s p (omega (arith, le)) f;
      banks = λ d i lt. banks.others d i (λ e. omega (arith, lt, e));
      own_bank = own_stays g a c w k later t u b x q o n r.joins m s banks;
    }

pub waiting_is_kept : WaitingIsKept
waiting_is_kept g a pushed needs bytes c c2 c3 w w2 k k2 k3 t t1 t2 u push part take = record {
  joins = take.ready.joins;
  sp = omega (arith, take.sp, part.sp, push.sp);
  frames = take.frames ∙ part.frames;
  next = omega (arith, take.next, part.next);
  bounds = λ b lt. take.bounds b ∙ part.bounds b lt;
  grows = part.grows;
  kept = kept;
  banks = λ d i lt. take.banks d i lt ∙ part.banks d i lt;
  own_bank = λ i le. take.own_bank i le ∙ part.own_bank i le;
  none_pushed = take.ready.none_pushed;
}
  where
    kept : (n : ℕ) → sp_of t ≤ n → IsFree c.store w (At n) → (u.mem n ≡ t.mem n) × IsFree c3.store w2 (At n)
    kept n le f =
        let one = part.kept n (omega (arith, le, push.sp)) f in
        let two = take.kept n (omega (arith, le, part.sp, push.sp)) one.1 in
        (two.0 ∙ one.0 ∙ push.mem n le, two.1)
