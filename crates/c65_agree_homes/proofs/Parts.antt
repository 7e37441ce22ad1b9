-- What is asked of the statements of a body is given, where its expressions do their work.
use Rattle.std.proofs.Common.{◌≡◌, ℕ, zero, suc, ◌+◌, ◌≤◌, ◌⊎◌, inl, inr, true, false, Some, List, [], ◌∷◌, ◌++◌, length, refl, sym, ◌∙◌, subst, slice_get, arith}
use Rattle.std.specs.Prelude.{max, Contains}
use Rattle.std.proofs.Math.Nat.{le-max_left, le-max_right}
use Rattle.std.proofs.lemmas.List.Elements.{Contains-append_left, Contains-append_right}
use Rattle.c65_csem.specs.Trees.{present, absent, Stmt, empty, eval, set_part, clear, block, if_stmt, while, do_while, for_loop, switch, case, default, label, goto, break, continue, return, Stmts, no_stmts, and_stmts, FuncTy}
use Rattle.c65_csem.specs.Statements.{labels_of, Context, looping, switching, IsStmt, AreStmts}
use Rattle.c65_csem_plain.specs.Arms.{arms, arms_in}
use Rattle.c65_meaning.specs.Items.{Item, Leave, EndSwitch}
use Rattle.c65_meaning.specs.After.{Sought, Landing, after, is_among}
use Rattle.c65_meaning.specs.Sites.{count}
use Rattle.c65_mach.specs.declared.rows.Op.TheVariants.{Jmp}
use Rattle.c65_code.specs.declared.line.Line.{Line}
use Rattle.c65_code.specs.declared.line.Line.TheVariants.{Label}
use Rattle.c65_genframe.specs.Frames.{Framed}
use Rattle.c65_genframe.specs.Objects.{objects_in, objects_in_all, locals_of}
use Rattle.c65_genexpr.specs.declared.wanted.Wanted.TheVariants.{Test}
use Rattle.c65_genexpr.specs.Code.{expr_code}
use Rattle.c65_genexpr.specs.Uses.{uses}
use Rattle.c65_genentry.specs.Words.{jump}
use Rattle.c65_genstmt.specs.declared.jumps.Ways.{Ways}
use Rattle.c65_genstmt.specs.Jumps.{following}
use Rattle.c65_genstmt.specs.Stmts.{is_empty, case_behind, ways}
use Rattle.c65_agree_state.specs.World.{unit_in, lines_of, place_in, HasAt, IsPlaced, owned_at}
use Rattle.c65_agree_between.specs.Stmts.{arms_weight}
use Rattle.c65_agree_lines.specs.Lists.{effects_code, effects_uses, guard_code, guard_uses, head_code, head_uses, way_code, stmt_code, stmt_uses, stmts_code, last_code, lasts_code}
use Rattle.c65_agree_lines.specs.Turns.{Turn, LoopAt, turns_of, all_turns_of}
use Rattle.c65_agree_lines.proofs.Stand.{parts_stand}
use Rattle.c65_agree_stmts.specs.Calling.{Calling, HeadIsCounted, GotosAreCounted}
use Rattle.c65_agree_stmts.specs.Objects.{MayAllBegin}
use Rattle.c65_agree_stmts.specs.Trees.{HasParts, HaveParts}
use Rattle.c65_agree_stmts.proofs.Blocks.{among_left, among_right, among_both}
use Rattle.c65_agree_enter.specs.Params.{AreDistinct}
use Rattle.c65_agree_homes.specs.Frames.{IsCalling}
use Rattle.c65_agree_homes.specs.Work.{HasWork, HaveWork}
use Rattle.c65_agree_homes.proofs.Among.{among_clash, not_by, IsWithin, IsOutside}
use Rattle.c65_agree_homes.proofs.Distinct.{distinct_first, distinct_second, distinct_apart}
use Rattle.c65_agree_homes.proofs.Landed.{landing_holds}
use Rattle.c65_agree_homes.proofs.Begins.{all_may_begin, label_lands}

-- ---- turns among others

abbrev pub Turns : List Turn → List Turn → Type 0
Turns all ts = (t : Turn) → Contains ts t → Contains all t

turns_left : (all ts us : List Turn) → Turns all (ts ++ us) → Turns all ts
turns_left all ts us h t k = h t (Contains-append_left ts us t k)

turns_right : (all ts us : List Turn) → Turns all (ts ++ us) → Turns all us
turns_right all ts us h t k = h t (Contains-append_right ts us t k)

turns_head : (all : List Turn) (t : Turn) (ts : List Turn) → Turns all (t ∷ ts) → Contains all t
turns_head all t ts h = h t (zero, omega arith, refl)

turns_tail : (all : List Turn) (t : Turn) (ts : List Turn) → Turns all (t ∷ ts) → Turns all ts
turns_tail all t ts h u k = h u (Contains-append_right (t ∷ []) ts u k)

-- ---- objects that are still to begin

-- those in scope are the function's, and those of the statement others of its blocks
pub record Opens (f : FuncTy) (scope is : List ℕ) : Type 0 where
  pub own : IsWithin scope (f.params ++ locals_of f)
  pub local : IsWithin is (locals_of f)
  pub distinct : AreDistinct is
  pub closed : IsOutside is scope

opens_left : (f : FuncTy) (scope is js : List ℕ) → Opens f scope (is ++ js) → Opens f scope is
opens_left f scope is js h = record { own = h.own; local = λ i e. h.local i (among_left is js i e); distinct = distinct_first is js h.distinct; closed = λ i e. h.closed i (among_left is js i e) }

opens_right : (f : FuncTy) (scope is js : List ℕ) → Opens f scope (is ++ js) → Opens f scope js
opens_right f scope is js h = record { own = h.own; local = λ i e. h.local i (among_right is js i e); distinct = distinct_second is js h.distinct; closed = λ i e. h.closed i (among_right is js i e) }

-- inside a block
opens_inside : (f : FuncTy) (scope os is : List ℕ) → Opens f scope (os ++ is) → Opens f (os ++ scope) is
opens_inside f scope os is h = record { own = wider; local = λ i e. h.local i (among_right os is i e); distinct = distinct_second os is h.distinct; closed = outside }
  where
    wider : IsWithin (os ++ scope) (f.params ++ locals_of f)
    wider i e = go (among_both os scope i e)
      where
        go : (is_among os i ≡ true) ⊎ (is_among scope i ≡ true) → is_among (f.params ++ locals_of f) i ≡ true
        go (inl k) = among_right f.params (locals_of f) i (h.local i (among_left os is i k))
        go (inr k) = h.own i k

    outside : IsOutside is (os ++ scope)
    outside i e = not_by (os ++ scope) i (λ k. go (among_both os scope i k))
      where
        go : (is_among os i ≡ true) ⊎ (is_among scope i ≡ true) → ⊥
        go (inl k) = among_clash is i e (distinct_apart os is h.distinct i k)
        go (inr k) = among_clash scope i k (h.closed i (among_right os is i e))

-- ---- statements

module _ (x : Calling) (names : List (List ℕ)) (f : FuncTy) (h : IsCalling x names f) (placed : IsPlaced (lines_of x.world x.active)) (all : List Turn)
    (loops : (p : ℕ) → Contains all (LoopAt p) → 1 ≤ owned_at x.world.heads (place_in x.world x.active p)) (gotos : (l : ℕ) → Contains (labels_of x.body) l → GotosAreCounted x (following l)) where
  abbrev code : List Line
  code = lines_of x.world x.active

  abbrev z : Framed
  z = x.active.frame

  pub head_counted : (p l : ℕ) → slice_get code p ≡ Some (Label l) → Contains all (LoopAt p) → HeadIsCounted x l
  head_counted p l at k q there =
      let same : p ≡ q = sym (placed p l at) ∙ placed q l there in
      subst (λ (n : ℕ). 1 ≤ owned_at x.world.heads (place_in x.world x.active n)) same (loops p k)

  all_begin : (scope os is : List ℕ) → Opens f scope (os ++ is) → MayAllBegin x scope os
  all_begin scope os is o =
      let left = opens_left f scope os is o in
      all_may_begin x names f h os scope left.own left.distinct left.local left.closed

  landing_begins : (scope : List ℕ) (s : Stmt) → Opens f scope (objects_in s) → (what : Sought) (at : ℕ) (k : List Item) (to : Landing) → after (unit_in x.world) what at s k ≡ Some to → MayAllBegin x scope to.objects
  landing_begins scope s o what at k to e =
      let holds = landing_holds (unit_in x.world) what s at k to o.distinct e in
      all_may_begin x names f h to.objects scope o.own holds.distinct (λ i m. o.local i (holds.within i m)) (λ i m. o.closed i (holds.within i m))

  -- what stands of a statement whose lines begin at p
  pub record IsInside (scope : List ℕ) (c : Context) (s : Stmt) (w : Ways) (next fresh p : ℕ) : Type 0 where
    pub at : HasAt code p (stmt_code z w next s fresh)
    pub turns : Turns all (turns_of z w next s fresh p)
    pub opens : Opens f scope (objects_in s)
    pub few : arms s ≤ arms_weight
    pub labels : c.labels ≡ labels_of x.body
    pub typed : IsStmt (unit_in x.world) c s

  pub record AreInside (scope : List ℕ) (c : Context) (ss : Stmts) (w : Ways) (next fresh p : ℕ) : Type 0 where
    pub at : HasAt code p (stmts_code z w next ss fresh)
    pub turns : Turns all (all_turns_of z w next ss fresh p)
    pub opens : Opens f scope (objects_in_all ss)
    pub few : arms_in ss ≤ arms_weight
    pub labels : c.labels ≡ labels_of x.body
    pub typed : AreStmts (unit_in x.world) c ss

  max_left : (m n : ℕ) → max m n ≤ arms_weight → m ≤ arms_weight
  max_left m n le = omega (arith, le, le-max_left m n)

  max_right : (m n : ℕ) → max m n ≤ arms_weight → n ≤ arms_weight
  max_right m n le = omega (arith, le, le-max_right m n)

  mutual
    pub parts_of : (s : Stmt) (scope : List ℕ) (at next fresh p : ℕ) (w : Ways) (c : Context) → IsInside scope c s w next fresh p → HasWork x scope at s w next fresh → HasParts x scope at s w next fresh
    parts_of empty scope at next fresh p w c i k = tt
    parts_of (eval e) scope at next fresh p w c i k = k
    parts_of (set_part j o e) scope at next fresh p w c i k = k
    parts_of (clear j) scope at next fresh p w c i k = k
    parts_of (block os ss) scope at next fresh p w c i k =
        (all_begin scope os (objects_in_all ss) i.opens, all_parts ss (os ++ scope) (suc at) next fresh p w c (record { at = i.at; turns = i.turns; opens = opens_inside f scope os (objects_in_all ss) i.opens; few = i.few; labels = i.labels; typed = i.typed.1 }) k)
    parts_of (if_stmt e a b) scope at next fresh p w c i k =
        let first = fresh + 1 + 1 + uses (Some false) e in
        let test = expr_code z 0 (fresh + 1 + 1) (Test fresh false) e in
        let one = stmt_code z w next a first in
        let two = stmt_code z w (case_behind next a) b (first + stmt_uses z a) in
        let over = way_code (is_empty b) (fresh + 1) in
        let tested = parts_stand code test (one ++ (over ++ Label fresh ∷ (two ++ Label (fresh + 1) ∷ []))) p i.at in
        let q = p + length test in
        let body = parts_stand code one (over ++ Label fresh ∷ (two ++ Label (fresh + 1) ∷ [])) q tested.1 in
        let passed = parts_stand code over (Label fresh ∷ (two ++ Label (fresh + 1) ∷ [])) (q + length one) body.1 in
        let last = suc (q + length one + length over) in
        let other = parts_stand code two (Label (fresh + 1) ∷ []) last passed.1.1 in
        let ts = turns_of z w next a first q in
        let us = turns_of z w (case_behind next a) b (first + stmt_uses z a) last in
        let arms_a : arms a ≤ arms_weight = let le = max_left (1 + arms a) (arms b) i.few in omega (arith, le) in (
          k.0,
          parts_of a scope (suc at) next first q w c (record { at = body.0; turns = turns_left all ts us i.turns; opens = opens_left f scope (objects_in a) (objects_in b) i.opens; few = arms_a; labels = i.labels; typed = i.typed.1 }) k.1,
          parts_of b scope (suc at + count a) (case_behind next a) (first + stmt_uses z a) last w c (record { at = other.0; turns = turns_right all ts us i.turns; opens = opens_right f scope (objects_in a) (objects_in b) i.opens; few = max_right (1 + arms a) (arms b) i.few; labels = i.labels; typed = i.typed.2 }) k.2,
        )
    parts_of (while e a) scope at next fresh p w c i k =
        let test = expr_code z 0 (fresh + 1 + 1) (Test (fresh + 1) false) e in
        let inner = ways (fresh + 1) fresh w.other in
        let first = fresh + 1 + 1 + uses (Some false) e in
        let one = stmt_code z inner next a first in
        let last = jump Jmp fresh ∷ Label (fresh + 1) ∷ [] in
        let tested = parts_stand code test (one ++ last) (suc p) i.at.1 in
        let q = suc p + length test in
        let body = parts_stand code one last q tested.1 in
        let ts = turns_of z inner next a first q in (
          head_counted p fresh i.at.0 (turns_head all (LoopAt p) ts i.turns),
          k.0,
          parts_of a scope (suc at) next first q inner (looping c) (record { at = body.0; turns = turns_tail all (LoopAt p) ts i.turns; opens = i.opens; few = i.few; labels = i.labels; typed = i.typed.1 }) k.1,
        )
    parts_of (do_while a e) scope at next fresh p w c i k =
        let inner = ways (fresh + 1 + 1) (fresh + 1) w.other in
        let first = fresh + 1 + 1 + 1 in
        let one = stmt_code z inner next a first in
        let body = parts_stand code one (Label (fresh + 1) ∷ (expr_code z 0 (first + stmt_uses z a) (Test fresh true) e ++ Label (fresh + 1 + 1) ∷ [])) (suc p) i.at.1 in
        let ts = turns_of z inner next a first (suc p) in (
          head_counted p fresh i.at.0 (turns_head all (LoopAt p) ts i.turns),
          k.0,
          parts_of a scope (suc at) next first (suc p) inner (looping c) (record { at = body.0; turns = turns_tail all (LoopAt p) ts i.turns; opens = i.opens; few = i.few; labels = i.labels; typed = i.typed.0 }) k.1,
        )
    parts_of (for_loop b t n a) scope at next fresh p w c i k =
        let head = fresh + effects_uses b in
        let before = effects_code z b fresh in
        let test = guard_code z (head + 1 + 1) t (head + 1 + 1 + 1) in
        let inner = ways (head + 1 + 1) (head + 1) w.other in
        let first = head + 1 + 1 + 1 + guard_uses t in
        let one = stmt_code z inner next a first in
        let last = Label (head + 1) ∷ (effects_code z n (first + stmt_uses z a) ++ jump Jmp head ∷ Label (head + 1 + 1) ∷ []) in
        let begun = parts_stand code before (Label head ∷ (test ++ (one ++ last))) p i.at in
        let q = p + length before in
        let tested = parts_stand code test (one ++ last) (suc q) begun.1.1 in
        let body = parts_stand code one last (suc q + length test) tested.1 in
        let ts = turns_of z inner next a first (suc q + length test) in (
          head_counted q head begun.1.0 (turns_head all (LoopAt q) ts i.turns),
          k.0,
          k.1,
          k.2,
          parts_of a scope (suc at) next first (suc q + length test) inner (looping c) (record { at = body.0; turns = turns_tail all (LoopAt q) ts i.turns; opens = i.opens; few = i.few; labels = i.labels; typed = i.typed.3 }) k.3,
        )
    parts_of (switch e a) scope at next fresh p w c i k =
        let before = head_code z e a fresh in
        let inner = ways fresh w.onward (fresh + 1) in
        let one = stmt_code z inner (fresh + 1 + 1) a (fresh + head_uses e a) in
        let begun = parts_stand code before (one ++ Label fresh ∷ []) p i.at in
        let body = parts_stand code one (Label fresh ∷ []) (p + length before) begun.1 in
        let t = k.0 in (
          record { kind = t.kind; value = t.value; plain = t.plain; shape = t.shape; kinds = t.kinds; choice = t.choice; begin = λ what m to found. landing_begins scope a i.opens what (suc at) (EndSwitch ∷ m) to found; few = i.few },
          parts_of a scope (suc at) (fresh + 1 + 1) (fresh + head_uses e a) (p + length before) inner (switching i.typed.0 c) (record { at = body.0; turns = i.turns; opens = i.opens; few = i.few; labels = i.labels; typed = i.typed.2 }) k.1,
        )
    parts_of (case v a) scope at next fresh p w c i k = parts_of a scope (suc at) (following next) fresh (suc p) w c (record { at = i.at.1; turns = i.turns; opens = i.opens; few = i.few; labels = i.labels; typed = i.typed.1 }) k
    parts_of (default a) scope at next fresh p w c i k = parts_of a scope (suc at) next fresh (suc p) w c (record { at = i.at.1; turns = i.turns; opens = i.opens; few = i.few; labels = i.labels; typed = i.typed.1 }) k
    parts_of (label l a) scope at next fresh p w c i k = parts_of a scope (suc at) next fresh (suc p) w c (record { at = i.at.1; turns = i.turns; opens = i.opens; few = i.few; labels = i.labels; typed = i.typed }) k
    parts_of (goto l) scope at next fresh p w c i k = (gotos l (subst (λ (ls : List ℕ). Contains ls l) i.labels i.typed), label_lands x names f h l (Leave ∷ x.below))
    parts_of break scope at next fresh p w c i k = tt
    parts_of continue scope at next fresh p w c i k = tt
    parts_of (return (present e)) scope at next fresh p w c i k = k
    parts_of (return absent) scope at next fresh p w c i k = tt

    all_parts : (ss : Stmts) (scope : List ℕ) (at next fresh p : ℕ) (w : Ways) (c : Context) → AreInside scope c ss w next fresh p → HaveWork x scope at ss w next fresh → HaveParts x scope at ss w next fresh
    all_parts no_stmts scope at next fresh p w c i k = tt
    all_parts (and_stmts s ss) scope at next fresh p w c i k =
        let one = stmt_code z w next s fresh in
        let parts = parts_stand code one (stmts_code z w (case_behind next s) ss (fresh + stmt_uses z s)) p i.at in
        let ts = turns_of z w next s fresh p in
        let us = all_turns_of z w (case_behind next s) ss (fresh + stmt_uses z s) (p + length one) in (
          parts_of s scope at next fresh p w c (record { at = parts.0; turns = turns_left all ts us i.turns; opens = opens_left f scope (objects_in s) (objects_in_all ss) i.opens; few = max_left (arms s) (arms_in ss) i.few; labels = i.labels; typed = i.typed.0 }) k.0,
          all_parts ss scope (at + count s) (case_behind next s) (fresh + stmt_uses z s) (p + length one) w c (record { at = parts.1; turns = turns_right all ts us i.turns; opens = opens_right f scope (objects_in s) (objects_in_all ss) i.opens; few = max_right (arms s) (arms_in ss) i.few; labels = i.labels; typed = i.typed.1 }) k.1,
        )

  -- ---- where it stands last in the function

  pub record IsLast (scope : List ℕ) (c : Context) (s : Stmt) (w : Ways) (next fresh p : ℕ) : Type 0 where
    pub at : HasAt code p (last_code z w next s fresh)
    pub turns : Turns all (turns_of z w next s fresh p)
    pub opens : Opens f scope (objects_in s)
    pub few : arms s ≤ arms_weight
    pub labels : c.labels ≡ labels_of x.body
    pub typed : IsStmt (unit_in x.world) c s

  pub record AreLast (scope : List ℕ) (c : Context) (ss : Stmts) (w : Ways) (next fresh p : ℕ) : Type 0 where
    pub at : HasAt code p (lasts_code z w next ss fresh)
    pub turns : Turns all (all_turns_of z w next ss fresh p)
    pub opens : Opens f scope (objects_in_all ss)
    pub few : arms_in ss ≤ arms_weight
    pub labels : c.labels ≡ labels_of x.body
    pub typed : AreStmts (unit_in x.world) c ss

  -- one whose lines are the same wherever it stands
  same_parts : (s : Stmt) (scope : List ℕ) (at next fresh p : ℕ) (w : Ways) (c : Context) → IsLast scope c s w next fresh p → HasAt code p (stmt_code z w next s fresh) → HasWork x scope at s w next fresh → HasParts x scope at s w next fresh
  same_parts s scope at next fresh p w c i there k = parts_of s scope at next fresh p w c (record { at = there; turns = i.turns; opens = i.opens; few = i.few; labels = i.labels; typed = i.typed }) k

  mutual
    pub last_parts : (s : Stmt) (scope : List ℕ) (at next fresh p : ℕ) (w : Ways) (c : Context) → IsLast scope c s w next fresh p → HasWork x scope at s w next fresh → HasParts x scope at s w next fresh
    last_parts (block os ss) scope at next fresh p w c i k =
        (all_begin scope os (objects_in_all ss) i.opens, lasts_parts ss (os ++ scope) (suc at) next fresh p w c (record { at = i.at; turns = i.turns; opens = opens_inside f scope os (objects_in_all ss) i.opens; few = i.few; labels = i.labels; typed = i.typed.1 }) k)
    last_parts (return (present e)) scope at next fresh p w c i k = k
    last_parts (return absent) scope at next fresh p w c i k = tt
    last_parts empty scope at next fresh p w c i k = tt
    last_parts (eval e) scope at next fresh p w c i k = k
    last_parts (set_part j o e) scope at next fresh p w c i k = k
    last_parts (clear j) scope at next fresh p w c i k = k
    last_parts (if_stmt e a b) scope at next fresh p w c i k = same_parts (if_stmt e a b) scope at next fresh p w c i i.at k
    last_parts (while e a) scope at next fresh p w c i k = same_parts (while e a) scope at next fresh p w c i i.at k
    last_parts (do_while a e) scope at next fresh p w c i k = same_parts (do_while a e) scope at next fresh p w c i i.at k
    last_parts (for_loop b t n a) scope at next fresh p w c i k = same_parts (for_loop b t n a) scope at next fresh p w c i i.at k
    last_parts (switch e a) scope at next fresh p w c i k = same_parts (switch e a) scope at next fresh p w c i i.at k
    last_parts (case v a) scope at next fresh p w c i k = same_parts (case v a) scope at next fresh p w c i i.at k
    last_parts (default a) scope at next fresh p w c i k = same_parts (default a) scope at next fresh p w c i i.at k
    last_parts (label l a) scope at next fresh p w c i k = same_parts (label l a) scope at next fresh p w c i i.at k
    last_parts (goto l) scope at next fresh p w c i k = same_parts (goto l) scope at next fresh p w c i i.at k
    last_parts break scope at next fresh p w c i k = tt
    last_parts continue scope at next fresh p w c i k = tt

    lasts_parts : (ss : Stmts) (scope : List ℕ) (at next fresh p : ℕ) (w : Ways) (c : Context) → AreLast scope c ss w next fresh p → HaveWork x scope at ss w next fresh → HaveParts x scope at ss w next fresh
    lasts_parts no_stmts scope at next fresh p w c i k = tt
    lasts_parts (and_stmts s no_stmts) scope at next fresh p w c i k =
        (last_parts s scope at next fresh p w c (record { at = i.at; turns = turns_left all (turns_of z w next s fresh p) [] i.turns; opens = opens_left f scope (objects_in s) [] i.opens; few = max_left (arms s) 0 i.few; labels = i.labels; typed = i.typed.0 }) k.0, tt)
    lasts_parts (and_stmts s (and_stmts r ss)) scope at next fresh p w c i k =
        let one = stmt_code z w next s fresh in
        let more = and_stmts r ss in
        let parts = parts_stand code one (lasts_code z w (case_behind next s) more (fresh + stmt_uses z s)) p i.at in
        let ts = turns_of z w next s fresh p in
        let us = all_turns_of z w (case_behind next s) more (fresh + stmt_uses z s) (p + length one) in (
          parts_of s scope at next fresh p w c (record { at = parts.0; turns = turns_left all ts us i.turns; opens = opens_left f scope (objects_in s) (objects_in_all more) i.opens; few = max_left (arms s) (arms_in more) i.few; labels = i.labels; typed = i.typed.0 }) k.0,
          lasts_parts (and_stmts r ss) scope (at + count s) (case_behind next s) (fresh + stmt_uses z s) (p + length one) w c (record { at = parts.1; turns = turns_right all ts us i.turns; opens = opens_right f scope (objects_in s) (objects_in_all more) i.opens; few = max_right (arms s) (arms_in more) i.few; labels = i.labels; typed = i.typed.1 }) k.1,
        )
