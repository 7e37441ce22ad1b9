-- Objects of blocks that end: where a jump leaves the blocks, and at a block's end (C90 6.1.2.4).
use Rattle.std.proofs.Common.{◌≡◌, ℕ, ◌<◌, ◌≤◌, ◌⊎◌, inl, inr, List, [], ◌∷◌, Option, Some, None, Bool, true, false, refl, sym, ap, ◌∙◌, subst, arith}
use Rattle.std.specs.Prelude.{◌==◌, if◌then◌else◌}
use Rattle.std.proofs.lemmas.Bool.{cases_eq, eqb-true}
use Rattle.c65_meaning.specs.Store.{Block, Store, lives_in, size_in_store, is_live, block_size, end_in, end_block}
use Rattle.c65_meaning.specs.Shapes.{object_in, object_size}
use Rattle.c65_meaning.specs.After.{is_among}
use Rattle.c65_meaning.specs.State.{Scene, Frame as Call, with_store, block_in}
use Rattle.c65_meaning.specs.Step.{end_named, end_objects}
use Rattle.c65_code.specs.LineState.{State}
use Rattle.c65_agree_store.specs.Stands.{Spot, At, Placing, Banks, IsAt, Stands as StoreStands, IsFree}
use Rattle.c65_agree_store.proofs.Keep.{block_same, block_other}
use Rattle.c65_agree_state.specs.World.{World, unit_in, Active}
use Rattle.c65_agree_state.specs.Sizes.{AreSized}
use Rattle.c65_agree_state.specs.Joins.{Joins, IsRest}
use Rattle.c65_agree_state.specs.Exprs.{bounds_of}
use Rattle.c65_agree_between.specs.Stmts.{AreOpen, Covers}
use Rattle.c65_agree_stmts.specs.Calling.{Calling}
use Rattle.c65_agree_stmts.proofs.Standing.{Stands}

abbrev off : Block → Block
off x = record x { live = false }

-- ---- stores of which blocks have ended

module _ (fs : List Call) where
  -- each block is as before, or is one of the active call's objects and has ended
  abbrev pub EndsTo : Store → Store → Type 0
  EndsTo s s2 = (d : ℕ) → (s2 d ≡ s d) ⊎ ((x : Block) × (s d ≡ Some x) × (s2 d ≡ Some (off x)) × (i : ℕ) × (block_in fs i ≡ Some d))

  same_ends : (s : Store) → EndsTo s s
  same_ends s d = inl refl

  then_ends : (s s2 s3 : Store) → EndsTo s s2 → EndsTo s2 s3 → EndsTo s s3
  then_ends s s2 s3 h h2 d = go (h d) (h2 d)
    where
      go : (s2 d ≡ s d) ⊎ ((x : Block) × (s d ≡ Some x) × (s2 d ≡ Some (off x)) × (i : ℕ) × (block_in fs i ≡ Some d))
          → (s3 d ≡ s2 d) ⊎ ((x : Block) × (s2 d ≡ Some x) × (s3 d ≡ Some (off x)) × (i : ℕ) × (block_in fs i ≡ Some d))
          → (s3 d ≡ s d) ⊎ ((x : Block) × (s d ≡ Some x) × (s3 d ≡ Some (off x)) × (i : ℕ) × (block_in fs i ≡ Some d))
      go (inl e) (inl f) = inl (f ∙ e)
      go (inl e) (inr f) = inr (f.0, sym e ∙ f.1, f.2, f.3, f.4)
      go (inr e) (inl f) = inr (e.0, e.1, f ∙ e.2, e.3, e.4)
      go (inr e) (inr f) =
          let both : Some f.0 ≡ Some (off e.0) = sym f.1 ∙ e.2 in
          let same : f.0 ≡ off e.0 = cc in
          inr (e.0, e.1, f.2 ∙ ap (λ y. Some (off y)) same, e.3, e.4)

  dead_stays : (s s2 : Store) (d : ℕ) → EndsTo s s2 → is_live s d ≡ false → is_live s2 d ≡ false
  dead_stays s s2 d h dead = go (h d)
    where
      go : (s2 d ≡ s d) ⊎ ((x : Block) × (s d ≡ Some x) × (s2 d ≡ Some (off x)) × (i : ℕ) × (block_in fs i ≡ Some d)) → is_live s2 d ≡ false
      go (inl e) = ap lives_in e ∙ dead
      go (inr e) = ap lives_in e.2

  block_ends : (s : Store) (b i : ℕ) → block_in fs i ≡ Some b → EndsTo s (end_block s b)
  block_ends s b i named d = go (s b) refl (cases_eq d b)
    where
      go : (o : Option Block) → s b ≡ o → (d ≡ b) ⊎ (d ≡ b → ⊥) → (end_in s b o d ≡ s d) ⊎ ((x : Block) × (s d ≡ Some x) × (end_in s b o d ≡ Some (off x)) × (j : ℕ) × (block_in fs j ≡ Some d))
      go None e by = inl refl
      go (Some x) e (inl f) = inr (x, ap s f ∙ e, block_same s b d (off x) f, i, named ∙ ap Some (sym f))
      go (Some x) e (inr ne) = inl (block_other s b d (off x) ne)

  block_dead : (s : Store) (b : ℕ) → is_live (end_block s b) b ≡ false
  block_dead s b = go (s b) refl
    where
      go : (o : Option Block) → s b ≡ o → is_live (end_in s b o) b ≡ false
      go None e = ap lives_in e
      go (Some x) e = ap lives_in (block_same s b b (off x) refl)

  named_ends : (o : Option ℕ) (c : Scene) (i : ℕ) → block_in fs i ≡ o → EndsTo c.store (end_named o c).store
  named_ends None c i e = same_ends c.store
  named_ends (Some b) c i e = block_ends c.store b i e

  named_frames : (o : Option ℕ) (c : Scene) → (end_named o c).frames ≡ c.frames
  named_frames None c = refl
  named_frames (Some b) c = refl

  objects_end_to : (is : List ℕ) (c : Scene) → c.frames ≡ fs → EndsTo c.store (end_objects is c).store
  objects_end_to [] c e = same_ends c.store
  objects_end_to (i ∷ is) c e =
      let d = end_named (block_in c.frames i) c in
      then_ends c.store d.store (end_objects is d).store (named_ends (block_in c.frames i) c i (ap (λ gs. block_in gs i) (sym e))) (objects_end_to is d (named_frames (block_in c.frames i) c ∙ e))

  named_dead : (o : Option ℕ) (c : Scene) (d : ℕ) → o ≡ Some d → is_live (end_named o c).store d ≡ false
  named_dead None c d e = cc
  named_dead (Some b) c d e =
      let same : b ≡ d = cc in
      ap (is_live (end_block c.store b)) (sym same) ∙ block_dead c.store b

  -- an object of the list has ended
  objects_dead : (is : List ℕ) (c : Scene) (i d : ℕ) → c.frames ≡ fs → is_among is i ≡ true → block_in fs i ≡ Some d → is_live (end_objects is c).store d ≡ false
  objects_dead [] c i d f among e = cc
  objects_dead (j ∷ is) c i d f among e = go (λ h. objects_dead is next i d (named_frames (block_in c.frames j) c ∙ f) h e) (j == i) refl among
    where
      next : Scene
      next = end_named (block_in c.frames j) c

      go : (is_among is i ≡ true → is_live (end_objects is next).store d ≡ false) → (b : Bool) → (j == i) ≡ b → (if b then true else is_among is i) ≡ true → is_live (end_objects is next).store d ≡ false
      go deep true same h =
          let named : block_in c.frames j ≡ Some d = ap (λ gs. block_in gs j) f ∙ (ap (block_in fs) (eqb-true j i same) ∙ e) in
          dead_stays next.store (end_objects is next).store d (objects_end_to is next (named_frames (block_in c.frames j) c ∙ f)) (named_dead (block_in c.frames j) c d named)
      go deep false same h = deep h

-- all but the store is as before
named_only : (o : Option ℕ) (c : Scene) → end_named o c ≡ with_store c (end_named o c).store
named_only None c = refl
named_only (Some b) c = refl

pub objects_only : (is : List ℕ) (c : Scene) → end_objects is c ≡ with_store c (end_objects is c).store
objects_only [] c = refl
objects_only (i ∷ is) c =
    let d = end_named (block_in c.frames i) c in
    objects_only is d ∙ ap (λ z. with_store z (end_objects is d).store) (named_only (block_in c.frames i) c)

-- ---- the relation

module _ (g : World) (a : Active) (c : Scene) (w : Placing) (k : Banks) (t : State) (s2 : Store) (ends : EndsTo c.frames c.store s2) where
  -- what lives lived before
  pub was : (d : ℕ) (x : Block) (q : Spot) → IsAt s2 w d x q → IsAt c.store w d x q
  was d x q at = go (ends d)
    where
      go : (s2 d ≡ c.store d) ⊎ ((y : Block) × (c.store d ≡ Some y) × (s2 d ≡ Some (off y)) × (i : ℕ) × (block_in c.frames i ≡ Some d)) → IsAt c.store w d x q
      go (inl e) = record { is = sym e ∙ at.is; live = at.live; place = at.place }
      go (inr e) =
          let same : Some x ≡ Some (off e.0) = sym at.is ∙ e.2 in
          let dead : x ≡ off e.0 = cc in
          let clash : true ≡ false = sym at.live ∙ ap (λ y. y.live) dead in
          cc

  lived : (d : ℕ) (x : Block) → s2 d ≡ Some x → x.live ≡ true → c.store d ≡ Some x
  lived d x is live = go (ends d)
    where
      go : (s2 d ≡ c.store d) ⊎ ((y : Block) × (c.store d ≡ Some y) × (s2 d ≡ Some (off y)) × (i : ℕ) × (block_in c.frames i ≡ Some d)) → c.store d ≡ Some x
      go (inl e) = sym e ∙ is
      go (inr e) =
          let same : Some x ≡ Some (off e.0) = sym is ∙ e.2 in
          let dead : x ≡ off e.0 = cc in
          let clash : true ≡ false = sym live ∙ ap (λ y. y.live) dead in
          cc

  live_before : (d : ℕ) → is_live s2 d ≡ true → is_live c.store d ≡ true
  live_before d live = go (ends d)
    where
      go : (s2 d ≡ c.store d) ⊎ ((y : Block) × (c.store d ≡ Some y) × (s2 d ≡ Some (off y)) × (i : ℕ) × (block_in c.frames i ≡ Some d)) → is_live c.store d ≡ true
      go (inl e) = ap lives_in (sym e) ∙ live
      go (inr e) =
          let clash : true ≡ false = sym live ∙ ap lives_in e.2 in
          cc

  free_later : (p : Spot) → IsFree c.store w p → IsFree s2 w p
  free_later p f d x q i at lt = f d x q i (was d x q at) lt

  whole_later : StoreStands c.store w t.mem k → (d : ℕ) (x : Block) → s2 d ≡ Some x → x.holds ≤ x.size
  whole_later st d x is = go (ends d)
    where
      go : (s2 d ≡ c.store d) ⊎ ((y : Block) × (c.store d ≡ Some y) × (s2 d ≡ Some (off y)) × (i : ℕ) × (block_in c.frames i ≡ Some d)) → x.holds ≤ x.size
      go (inl e) = st.whole d x (sym e ∙ is)
      go (inr e) =
          let same : Some x ≡ Some (off e.0) = sym is ∙ e.2 in
          let eq : x ≡ off e.0 = cc in
          subst (λ y. y.holds ≤ y.size) (sym eq) (st.whole d e.0 e.1)

  stands_later : StoreStands c.store w t.mem k → StoreStands s2 w t.mem k
  stands_later st = record {
    placed = λ d x is live. st.placed d x (lived d x is live) live;
    lies = λ d x q at. st.lies d x q (was d x q at);
    whole = whole_later st;
    cells = λ d x q o at lt. st.cells d x q o (was d x q at) lt;
    apart = λ d e x y q r at at2 ne. st.apart d e x y q r (was d x q at) (was e y r at2) ne;
  }

  rest_later : (d : ℕ) → IsRest a c w d → IsRest a (with_store c s2) w d
  rest_later d r = go (ends d)
    where
      go : (s2 d ≡ c.store d) ⊎ ((y : Block) × (c.store d ≡ Some y) × (s2 d ≡ Some (off y)) × (i : ℕ) × (block_in c.frames i ≡ Some d)) → IsRest a (with_store c s2) w d
      go (inl e) = record { block = r.block; is = e ∙ r.is; place = r.place; size = r.size }
      go (inr e) =
          let both : Some e.0 ≡ Some r.block = sym e.1 ∙ r.is in
          let same : e.0 ≡ r.block = cc in
          record { block = off r.block; is = e.2 ∙ ap (λ y. Some (off y)) same; place = r.place; size = r.size }

  sized_later : AreSized (unit_in g) c → AreSized (unit_in g) (with_store c s2)
  sized_later sized i d y named is = go (ends d)
    where
      go : (s2 d ≡ c.store d) ⊎ ((z : Block) × (c.store d ≡ Some z) × (s2 d ≡ Some (off z)) × (j : ℕ) × (block_in c.frames j ≡ Some d)) → y.size ≡ object_size (unit_in g).types (object_in (unit_in g) i)
      go (inl e) = sized i d y named (sym e ∙ is)
      go (inr e) =
          let both : Some y ≡ Some (off e.0) = sym is ∙ e.2 in
          let same : y ≡ off e.0 = cc in
          ap (λ z. z.size) same ∙ sized i d e.0 named e.1

  size_later : (d : ℕ) → block_size s2 d ≡ block_size c.store d
  size_later d = go (ends d)
    where
      go : (s2 d ≡ c.store d) ⊎ ((y : Block) × (c.store d ≡ Some y) × (s2 d ≡ Some (off y)) × (i : ℕ) × (block_in c.frames i ≡ Some d)) → block_size s2 d ≡ block_size c.store d
      go (inl e) = ap size_in_store e
      go (inr e) = ap size_in_store e.2 ∙ sym (ap size_in_store e.1)

  joins_later : Joins g a c w k t → Joins g a (with_store c s2) w k t
  joins_later j = record {
    stands = stands_later j.stands;
    bank = j.bank;
    symbols = j.symbols;
    fixed = record { own = λ i b o n x q fixed at lo hi same. j.fixed.own i b o n x q fixed (was b x q at) lo hi same; objects = j.fixed.objects; once = j.fixed.once };
    sizes = record { behind = j.sizes.behind; sizes = λ d lt. size_later d ∙ j.sizes.sizes d lt };
    sized = sized_later j.sized;
    fresh = j.fresh;
    homes = j.homes;
    rests = λ b e. rest_later b (j.rests b e);
    since = j.since;
    begun = λ b le live. j.begun b le (live_before b live);
    owned = λ b x q at some of. j.owned b x q (was b x q at) some of;
    active = j.active;
    calls = j.calls;
    as_many = j.as_many;
    above = λ n lo hi. free_later (At n) (j.above n lo hi);
    reached = λ b x at o h lt. j.reached b x at o (was b x (At at) h) lt;
    constant = j.constant;
    sealed = λ b x at o v h lt e. j.sealed b x at o v (was b x (At at) h) lt e;
    top = j.top;
    asked = j.asked;
    few = j.few;
    hard = j.hard;
    few_calls = j.few_calls;
    counted = j.counted;
    count_free = λ e. free_later (At a.base) (j.count_free e);
    frames = j.frames;
    input = j.input;
    read = j.read;
    output = j.output;
    ended = j.ended;
    bytes = j.bytes;
  }

  -- blocks that the call has not begun are as before
  others_later : Joins g a c w k t → (d : ℕ) → d < a.first → s2 d ≡ c.store d
  others_later j d lt = go (ends d)
    where
      go : (s2 d ≡ c.store d) ⊎ ((y : Block) × (c.store d ≡ Some y) × (s2 d ≡ Some (off y)) × (i : ℕ) × (block_in c.frames i ≡ Some d)) → s2 d ≡ c.store d
      go (inl e) = e
      go (inr e) = let since = j.since d (inl (e.3, e.4)) in absurd (omega (arith, lt, since))

-- ---- between statements

module _ (x : Calling) (scope inner os : List ℕ) (c : Scene) (q : Placing) (b : Banks) (t : State) (h : Stands x scope c q b t) (covers : Covers scope os inner) where
  abbrev s2 : Store
  s2 = (end_objects os c).store

  ends : EndsTo c.frames c.store s2
  ends = objects_end_to c.frames os c refl

  open_later : AreOpen inner (with_store c s2)
  open_later i d y named is live = go (covers i (h.between.scoped i d y named (lived x.world x.active c q b t s2 ends d y is live) live))
    where
      go : (is_among os i ≡ true) ⊎ (is_among inner i ≡ true) → is_among inner i ≡ true
      go (inr e) = e
      go (inl e) =
          let clash : true ≡ false = sym live ∙ (sym (ap lives_in is) ∙ objects_dead c.frames os c i d refl e named) in
          cc

  kept_later : Stands x inner (with_store c s2) q b t
  kept_later =
      let i = h.between in
      let r = h.keeping in
      record {
        between = record { joins = joins_later x.world x.active c q b t s2 ends i.joins; sp = i.sp; room = i.room; scoped = open_later; sized = sized_later x.world x.active c q b t s2 ends i.sized; call = i.call; none_pushed = i.none_pushed };
        keeping = record {
          next = r.next;
          bounds = λ d own lt. ap bounds_of (others_later x.world x.active c q b t s2 ends i.joins d own) ∙ r.bounds d own lt;
          grows = r.grows;
          kept = λ n le f. let was_kept = r.kept n le f in (was_kept.0, free_later x.world x.active c q b t s2 ends (At n) was_kept.1);
          banks = r.banks;
          own_bank = r.own_bank;
        };
      }

  pub stands_ended : Stands x inner (end_objects os c) q b t
  stands_ended = subst (λ d. Stands x inner d q b t) (sym (objects_only os c)) kept_later

pub ended_turns : (os : List ℕ) (c : Scene) → (end_objects os c).turns ≡ c.turns
ended_turns os c = ap (λ d. d.turns) (objects_only os c)
