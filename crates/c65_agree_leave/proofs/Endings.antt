-- Blocks that end with a call.
use Rattle.std.proofs.Common.{◌≡◌, ◌≢◌, ℕ, ◌+◌, ◌⊎◌, inl, inr, List, [], ◌∷◌, Option, Some, None, Bool, true, false, refl, sym, ap, ◌∙◌, arith}
use Rattle.std.specs.Prelude.{◌==◌, if◌then◌else◌, slice_get}
use Rattle.std.proofs.lemmas.Bool.{cases_eq, eqb-true}
use Rattle.c65_csem.specs.Trees.{UnitTy}
use Rattle.c65_meaning.specs.Store.{Block, Store, lives_in, is_live, set_block, end_in, end_block}
use Rattle.c65_meaning.specs.After.{is_among}
use Rattle.c65_meaning.specs.State.{Scene, block_in, rest_in}
use Rattle.c65_meaning.specs.Step.{func_in, params_of, end_named, end_objects, end_arguments}
use Rattle.c65_code.specs.LineState.{Bytes}
use Rattle.c65_agree_store.specs.Stands.{Placing, Banks, Stands}
use Rattle.c65_agree_store.proofs.Keep.{block_same, block_other, blocks_end}
use Rattle.c65_agree_state.specs.Joins.{HasBlock}
use Rattle.c65_agree_between.specs.Stmts.{AreOpen}

-- ---- one block

pub ended_dead : (s : Store) (b : ℕ) → is_live (end_block s b) b ≡ false
ended_dead s b = go (s b) refl
  where
    go : (o : Option Block) → s b ≡ o → is_live (end_in s b o) b ≡ false
    go None e = ap lives_in e
    go (Some x) e = ap lives_in (block_same s b b (record x { live = false }) refl)

dead_stays : (s : Store) (b d : ℕ) → is_live s d ≡ false → is_live (end_block s b) d ≡ false
dead_stays s b d dead = go (s b) refl
  where
    go : (o : Option Block) → s b ≡ o → is_live (end_in s b o) d ≡ false
    go None e = dead
    go (Some x) e = by (cases_eq d b)
      where
        by : (d ≡ b) ⊎ (d ≡ b → ⊥) → is_live (set_block s b (record x { live = false })) d ≡ false
        by (inl f) = ap lives_in (block_same s b d (record x { live = false }) f)
        by (inr ne) = ap lives_in (block_other s b d (record x { live = false }) ne) ∙ dead

ended_other : (s : Store) (b d : ℕ) → d ≢ b → end_block s b d ≡ s d
ended_other s b d ne = go (s b)
  where
    go : (o : Option Block) → end_in s b o d ≡ s d
    go None = refl
    go (Some x) = block_other s b d (record x { live = false }) ne

-- ---- named blocks

-- all but the store is as before
pub record SameElse (c d : Scene) : Type 0 where
  pub frames : d.frames ≡ c.frames
  pub next : d.next ≡ c.next
  pub input : d.input ≡ c.input
  pub out : d.out ≡ c.out
  pub turns : d.turns ≡ c.turns
  pub free : d.free ≡ c.free

else_then : (c d e : Scene) → SameElse c d → SameElse d e → SameElse c e
else_then c d e f s = record { frames = s.frames ∙ f.frames; next = s.next ∙ f.next; input = s.input ∙ f.input; out = s.out ∙ f.out; turns = s.turns ∙ f.turns; free = s.free ∙ f.free }

named_else : (o : Option ℕ) (c : Scene) → SameElse c (end_named o c)
named_else None c = record { frames = refl; next = refl; input = refl; out = refl; turns = refl; free = refl }
named_else (Some b) c = record { frames = refl; next = refl; input = refl; out = refl; turns = refl; free = refl }

objects_else : (is : List ℕ) (c : Scene) → SameElse c (end_objects is c)
objects_else [] c = record { frames = refl; next = refl; input = refl; out = refl; turns = refl; free = refl }
objects_else (i ∷ is) c =
    let d = end_named (block_in c.frames i) c in
    else_then c d (end_objects is d) (named_else (block_in c.frames i) c) (objects_else is d)

named_dead : (o : Option ℕ) (c : Scene) (d : ℕ) → is_live c.store d ≡ false → is_live (end_named o c).store d ≡ false
named_dead None c d dead = dead
named_dead (Some b) c d dead = dead_stays c.store b d dead

objects_dead : (is : List ℕ) (c : Scene) (d : ℕ) → is_live c.store d ≡ false → is_live (end_objects is c).store d ≡ false
objects_dead [] c d dead = dead
objects_dead (i ∷ is) c d dead = objects_dead is (end_named (block_in c.frames i) c) d (named_dead (block_in c.frames i) c d dead)

named_ends : (o : Option ℕ) (c : Scene) (d : ℕ) → o ≡ Some d → is_live (end_named o c).store d ≡ false
named_ends None c d e = cc
named_ends (Some b) c d e =
    let same : b ≡ d = cc in
    ap (λ n. is_live (end_block c.store b) n) (sym same) ∙ ended_dead c.store b

-- an object of the list has ended
objects_end : (is : List ℕ) (c : Scene) (i d : ℕ) → is_among is i ≡ true → block_in c.frames i ≡ Some d → is_live (end_objects is c).store d ≡ false
objects_end [] c i d among e = cc
objects_end (j ∷ is) c i d among e = go (λ h f. objects_end is (end_named (block_in c.frames j) c) i d h f) (j == i) refl among
  where
    go : (is_among is i ≡ true → block_in (end_named (block_in c.frames j) c).frames i ≡ Some d → is_live (end_objects is (end_named (block_in c.frames j) c)).store d ≡ false)
        → (b : Bool) → (j == i) ≡ b → (if b then true else is_among is i) ≡ true → is_live (end_objects is (end_named (block_in c.frames j) c)).store d ≡ false
    go deep true f h =
        let same : j ≡ i = eqb-true j i f in
        objects_dead is (end_named (block_in c.frames j) c) d (named_ends (block_in c.frames j) c d (ap (block_in c.frames) same ∙ e))
    go deep false f h = deep h (ap (λ fs. block_in fs i) (named_else (block_in c.frames j) c).frames ∙ e)

-- a block that has none of these names is as before
named_other : (o : Option ℕ) (c : Scene) (d : ℕ) → (o ≡ Some d → ⊥) → (end_named o c).store d ≡ c.store d
named_other None c d none = refl
named_other (Some b) c d none = ended_other c.store b d (λ e. none (ap Some (sym e)))

objects_other : (is : List ℕ) (c : Scene) (d : ℕ) → ((i : ℕ) → block_in c.frames i ≡ Some d → ⊥) → (end_objects is c).store d ≡ c.store d
objects_other [] c d none = refl
objects_other (j ∷ is) c d none =
    let next = end_named (block_in c.frames j) c in
    objects_other is next d (λ i e. none i (sym (ap (λ fs. block_in fs i) (named_else (block_in c.frames j) c).frames) ∙ e)) ∙ named_other (block_in c.frames j) c d (none j)

named_stand : (o : Option ℕ) (c : Scene) (w : Placing) (m : Bytes) (k : Banks) → Stands c.store w m k → Stands (end_named o c).store w m k
named_stand None c w m k st = st
named_stand (Some b) c w m k st = blocks_end c.store w m k b st

objects_stand : (is : List ℕ) (c : Scene) (w : Placing) (m : Bytes) (k : Banks) → Stands c.store w m k → Stands (end_objects is c).store w m k
objects_stand [] c w m k st = st
objects_stand (i ∷ is) c w m k st = objects_stand is (end_named (block_in c.frames i) c) w m k (named_stand (block_in c.frames i) c w m k st)

-- ---- the end of a call

module _ (u : UnitTy) (c : Scene) where
  abbrev params : List ℕ
  params = params_of (slice_get u.funcs (func_in c.frames))

  abbrev middle : Scene
  middle = end_objects params c

  pub arguments_else : SameElse c (end_arguments u c)
  arguments_else = else_then c middle (end_named (rest_in c.frames) middle) (objects_else params c) (named_else (rest_in c.frames) middle)

  pub arguments_stand : (w : Placing) (m : Bytes) (k : Banks) → Stands c.store w m k → Stands (end_arguments u c).store w m k
  arguments_stand w m k st = named_stand (rest_in c.frames) middle w m k (objects_stand params c w m k st)

  -- blocks of other calls are as before
  pub arguments_other : (d : ℕ) → (HasBlock c d → ⊥) → (end_arguments u c).store d ≡ c.store d
  arguments_other d none = named_other (rest_in c.frames) middle d (λ e. none (inr e)) ∙ objects_other params c d (λ i e. none (inl (i, e)))

  -- and those of the call have ended, where no object was open but the parameters
  pub arguments_end : AreOpen params c → (d : ℕ) → HasBlock c d → is_live (end_arguments u c).store d ≡ false
  arguments_end scoped d (inr e) = named_ends (rest_in c.frames) middle d e
  arguments_end scoped d (inl h) = go (c.store d) refl
    where
      gone : is_live c.store d ≡ false → is_live (end_arguments u c).store d ≡ false
      gone dead = named_dead (rest_in c.frames) middle d (objects_dead params c d dead)

      go : (o : Option Block) → c.store d ≡ o → is_live (end_arguments u c).store d ≡ false
      go None e = gone (ap lives_in e)
      go (Some x) e = by x.live refl
        where
          by : (l : Bool) → x.live ≡ l → is_live (end_arguments u c).store d ≡ false
          by false f = gone (ap lives_in e ∙ f)
          by true f = named_dead (rest_in c.frames) middle d (objects_end params c h.0 d (scoped h.0 d x h.1 e f) h.1)
