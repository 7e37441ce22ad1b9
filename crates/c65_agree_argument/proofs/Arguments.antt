-- The lines of arguments, one behind another.
use Rattle.std.proofs.Common.{◌≡◌, ℕ, ◌+◌, ◌<◌, ◌≤◌, max, Bool, true, false, List, [], ◌∷◌, ◌++◌, None, length, refl, sym, ap, subst, arith, length-append}
use Rattle.std.proofs.Math.Nat.{mod-eq_of_lt}
use Rattle.c65_ints.specs.declared.types.IntType.{IntType}
use Rattle.c65_ints.specs.declared.types.IntType.TheVariants as I
use Rattle.c65_ctype.specs.Trees.{type_in}
use Rattle.c65_csem.specs.Trees.{Typed, node, pack, Nodes, none, some}
use Rattle.c65_csem_need.specs.Needs.{need, need_of_all}
use Rattle.c65_meaning.specs.Store.{Value}
use Rattle.c65_meaning.specs.Items.{Item, plan_all}
use Rattle.c65_meaning.specs.State.{Scene, Running, soft_sum}
use Rattle.c65_code.specs.declared.line.Line.{Line}
use Rattle.c65_code.specs.LineState.{State, sp_of}
use Rattle.c65_code.specs.Placement.{IsPlacement}
use Rattle.c65_code.specs.Comes.{Seen}
use Rattle.c65_genframe.specs.Frames.{Framed}
use Rattle.c65_genwide.specs.Passing.{pass_bytes}
use Rattle.c65_genload.specs.Conversions.{size_of}
use Rattle.c65_genexpr.specs.declared.wanted.Wanted.TheVariants as wanted
use Rattle.c65_genexpr.specs.Types.{kind_of}
use Rattle.c65_genexpr.specs.Places.{more}
use Rattle.c65_genexpr.specs.Arguments.{passed_size, argument_bytes}
use Rattle.c65_genexpr.specs.Uses.{uses}
use Rattle.c65_genexpr.specs.Code.{expr_code, args_code}
use Rattle.c65_agree_store.specs.Stands.{Placing, Banks}
use Rattle.c65_agree_state.specs.World.{World, unit_in, Active, lines_of, place_in, HasAt, HasTurns}
use Rattle.c65_agree_state.specs.Follows.{Follows}
use Rattle.c65_agree_state.specs.Exprs.{Ready, Kept}
use Rattle.c65_agree_state.proofs.Followed.{follows_weaken}
use Rattle.c65_agree_state.proofs.Nodes.{has_front, has_back, ready_stays}
use Rattle.c65_agree_argument.specs.Arguments.{Argument, AreArguments, AreHeld, is_last, waiting_bytes, IsThere, piled, IsOver, IsPushed, HasRoomFor, left_of, ArgumentDoes, ArgumentsDo, RestOfArguments, ArgumentsLeave}
use Rattle.c65_agree_argument.specs.Laws.{ArgumentsAreFollowed, ArgumentsLeaveWeight}
use Rattle.c65_agree_argument.proofs.Over.{none_over, kept_over, over_pushed, still_lies}
use Rattle.c65_agree_argument.proofs.Pushed.{values_are_pushed}

-- ---- from 1 to 4 bytes

kind_least : (kind : IntType) → 1 ≤ size_of kind
kind_least I.SChar = omega arith
kind_least I.UChar = omega arith
kind_least I.Short = omega arith
kind_least I.UShort = omega arith
kind_least I.Int = omega arith
kind_least I.UInt = omega arith
kind_least I.Long = omega arith
kind_least I.ULong = omega arith

kind_most : (kind : IntType) → size_of kind ≤ 4
kind_most I.SChar = omega arith
kind_most I.UChar = omega arith
kind_most I.Short = omega arith
kind_most I.UShort = omega arith
kind_most I.Int = omega arith
kind_most I.UInt = omega arith
kind_most I.Long = omega arith
kind_most I.ULong = omega arith

pub size_least : (f : Framed) (e : Typed) → 1 ≤ passed_size f e
size_least f (node t (pack e)) = omega arith
size_least f (node t _) = kind_least (kind_of (type_in t))

pub size_most : (f : Framed) (e : Typed) → passed_size f e ≤ 4
size_most f (node t (pack e)) = omega arith
size_most f (node t _) = kind_most (kind_of (type_in t))

-- ---- one argument that waits, and those behind it

module _ (g : World) (a : Active) (placed : IsPlacement g.code g.place) (fast : Bool) (e : Typed) (es : Nodes) (others : (xs : List Argument) → AreArguments a.frame es xs → is_last fast xs ≡ false) (pushed fresh : ℕ)
    (follow : ArgumentsLeave g a fast es (more pushed (passed_size a.frame e)) fresh) (n w p : ℕ) (k : List Item) (vs : List Value) (c : Scene) (q : Placing) (b : Banks) (t : State) where
  abbrev bytes : ℕ
  bytes = passed_size a.frame e

  abbrev push : List Line
  push = pass_bytes bytes

  abbrev behind : List Line
  behind = args_code a.frame (more pushed bytes) fresh fast es

  module _ (rest : RestOfArguments g a fast (some e es) pushed n (w + left_of (some e es)) k vs (p + length push + length behind) c q b t) (j : ℕ) (v : Value) (c1 : Scene) (q1 : Placing) (b1 : Banks) (u : State) (lt : j < n)
      (kept : Kept g a c q b t c1 q1 b1 u) (held : AreHeld q1 u bytes v) (r : Ready g a pushed 0 c1 q1 b1 u) (room : HasRoomFor a (1 + need_of_all es) 4 c1 u) where
    -- behind the last one
    all_wait : (u1 : State) → IsPushed g a pushed (need_of_all es) bytes c1 q1 b1 v u u1 → RestOfArguments g a fast es (more pushed bytes) j (w + 2267 + left_of es) k (v ∷ vs) (p + length push + length behind) c1 q1 b1 u1
    all_wait u1 h i xs c2 q2 b2 x later le are over ready there turned =
        let x0 : Argument = record { bytes = bytes; value = v } in
        let wait : ℕ = waiting_bytes fast xs in
        let no : false ≡ is_last fast xs = sym (others xs are) in
        let same : more pushed bytes ≡ pushed + bytes = mod-eq_of_lt (omega (arith, h.ready.sp, h.ready.joins.top)) in
        let sum : more pushed bytes + wait ≡ pushed + (bytes + wait) = omega (arith, same) in
        let first : IsThere false q2 x (sp_of x + wait) x0 = still_lies g a pushed (need_of_all es) bytes wait c c1 c2 q q1 q2 b b1 b2 t u u1 x v kept h over in
        let ready2 : Ready g a (pushed + (bytes + wait)) 0 c2 q2 b2 x = subst (λ m. Ready g a m 0 c2 q2 b2 x) sum ready in
        let over2 : IsOver g a (bytes + wait) c q b t c2 q2 b2 x = over_pushed g a pushed (need_of_all es) bytes wait c c1 c2 q q1 q2 b b1 b2 t u u1 x v kept h over in
        follows_weaken g i (w + left_of (some e es)) (w + 2267 + left_of es) (Running k (piled xs (v ∷ vs)) c2) (place_in g a (p + length push + length behind)) x later (omega arith)
        (rest i (x0 ∷ xs) c2 q2 b2 x later (omega (arith, le, lt)) (refl, are)
        (subst (λ l. IsOver g a (argument_bytes l bytes + wait) c q b t c2 q2 b2 x) no over2)
        (subst (λ l. Ready g a (pushed + (argument_bytes l bytes + wait)) 0 c2 q2 b2 x) no ready2)
        (subst (λ l. IsThere l q2 x (sp_of x + wait) x0) no first, there) turned)

    one_waits : (seen : Seen) → HasAt (lines_of g a) p (push ++ behind) → HasTurns g c1.turns (place_in g a p) seen → Follows g j (w + 2600) (Running (plan_all (unit_in g) es k) (v ∷ vs) c1) (place_in g a p) u seen
    one_waits seen has turned =
        follows_weaken g j (333 + (w + 2267)) (w + 2600) (Running (plan_all (unit_in g) es k) (v ∷ vs) c1) (place_in g a p) u seen (omega arith)
        (values_are_pushed g a pushed (need_of_all es) bytes c1 q1 b1 u v placed (size_least a.frame e) (size_most a.frame e) held r room j (w + 2267) p c1.turns (Running (plan_all (unit_in g) es k) (v ∷ vs) c1) seen (has_front (lines_of g a) p push behind has) turned (λ u1 later h turned1.
        let same : more pushed bytes ≡ pushed + bytes = mod-eq_of_lt (omega (arith, h.ready.sp, h.ready.joins.top)) in
        follow j (w + 2267) (p + length push) k (v ∷ vs) c1 q1 b1 u1 later (has_back (lines_of g a) p push behind has) (subst (λ m. Ready g a m 0 c1 q1 b1 u1) (sym same) (record { joins = h.ready.joins; sp = h.ready.sp; room = omega (arith, h.ready.room); none_pushed = h.ready.none_pushed })) (omega (arith, h.ready.room)) turned1 (all_wait u1 h)))

-- ---- all of them

module _ (g : World) (a : Active) (placed : IsPlacement g.code g.place) where
  -- an argument may begin where there is room for it
  ready_for : (pushed m needs : ℕ) (c : Scene) (q : Placing) (b : Banks) (t : State) → Ready g a pushed 0 c q b t → HasRoomFor a (1 + needs) 2 c t → m ≤ needs → Ready g a pushed m c q b t
  ready_for pushed m needs c q b t r room le = record { joins = r.joins; sp = r.sp; room = omega (arith, room, le); none_pushed = r.none_pushed }

  -- and behind it as much room is left
  room_behind : (m needs : ℕ) (c c1 : Scene) (q q1 : Placing) (b b1 : Banks) (t u : State) → HasRoomFor a (1 + needs) 2 c t → m ≤ needs → Kept g a c q b t c1 q1 b1 u → HasRoomFor a (1 + m) 4 c1 u
  room_behind m needs c c1 q q1 b b1 t u room le kept = let cost : soft_sum c1.frames ≡ soft_sum c.frames = ap soft_sum kept.frames in omega (arith, room, le, cost, kept.sp)

  waits_then : (fast : Bool) (e : Typed) (es : Nodes) → ((xs : List Argument) → AreArguments a.frame es xs → is_last fast xs ≡ false) → (pushed fresh : ℕ) → ArgumentDoes g a e
      → ArgumentsLeave g a fast es (more pushed (passed_size a.frame e)) (fresh + uses None e)
      → (n w p : ℕ) (k : List Item) (vs : List Value) (c : Scene) (q : Placing) (b : Banks) (t : State) (seen : Seen)
      → HasAt (lines_of g a) p (expr_code a.frame pushed fresh wanted.Value e ++ (pass_bytes (passed_size a.frame e) ++ args_code a.frame (more pushed (passed_size a.frame e)) (fresh + uses None e) fast es))
      → Ready g a pushed 0 c q b t → HasRoomFor a (need_of_all (some e es)) 2 c t → HasTurns g c.turns (place_in g a p) seen
      → RestOfArguments g a fast (some e es) pushed n (w + left_of (some e es)) k vs (p + length (expr_code a.frame pushed fresh wanted.Value e ++ (pass_bytes (passed_size a.frame e) ++ args_code a.frame (more pushed (passed_size a.frame e)) (fresh + uses None e) fast es))) c q b t
      → Follows g n w (Running (plan_all (unit_in g) (some e es) k) vs c) (place_in g a p) t seen
  waits_then fast e es others pushed fresh does follow n w p k vs c q b t seen has r room turned rest =
      let own : List Line = expr_code a.frame pushed fresh wanted.Value e in
      let push : List Line = pass_bytes (passed_size a.frame e) in
      let behind : List Line = args_code a.frame (more pushed (passed_size a.frame e)) (fresh + uses None e) fast es in
      let ends : p + length (own ++ (push ++ behind)) ≡ p + length own + length push + length behind = omega (arith, length-append own (push ++ behind), length-append push behind) in
      let rest2 : RestOfArguments g a fast (some e es) pushed n (w + left_of (some e es)) k vs (p + length own + length push + length behind) c q b t = subst (λ z. RestOfArguments g a fast (some e es) pushed n (w + left_of (some e es)) k vs z c q b t) ends rest in
      does pushed fresh n w p (plan_all (unit_in g) es k) vs c q b t seen (has_front (lines_of g a) p own (push ++ behind) has) (ready_for pushed (need e) (max (need e) (need_of_all es)) c q b t r room (omega arith)) turned (λ j v c1 q1 b1 u later lt kept held turned1.
      one_waits g a placed fast e es others pushed (fresh + uses None e) follow n w (p + length own) k vs c q b t rest2 j v c1 q1 b1 u lt kept held (ready_stays g a pushed 0 0 c c1 q q1 b b1 t u (omega arith) r kept) (room_behind (need_of_all es) (max (need e) (need_of_all es)) c c1 q q1 b b1 t u room (omega arith) kept) later
      (has_back (lines_of g a) p own (push ++ behind) has) turned1)

  -- the last one stays in registers
  stays_last : (e : Typed) (pushed fresh : ℕ) → ArgumentDoes g a e → ArgumentsLeave g a true (some e none) pushed fresh
  stays_last e pushed fresh does n w p k vs c q b t seen has r room turned rest =
      let own : List Line = expr_code a.frame pushed fresh wanted.Value e in
      let ends : p + length own ≡ p + length (own ++ []) = omega (arith, length-append own []) in
      let sum : pushed ≡ pushed + 0 = omega arith in
      does pushed fresh n w p k vs c q b t seen (has_front (lines_of g a) p own [] has) (ready_for pushed (need e) (max (need e) (need_of_all none)) c q b t r room (omega arith)) turned (λ j v c1 q1 b1 u later lt kept held turned1.
      let x0 : Argument = record { bytes = passed_size a.frame e; value = v } in
      let ready : Ready g a pushed 0 c1 q1 b1 u = ready_stays g a pushed 0 0 c c1 q q1 b b1 t u (omega arith) r kept in
      follows_weaken g j (w + left_of (some e none)) (w + 2600) (Running k (v ∷ vs) c1) (place_in g a (p + length own)) u later (omega arith)
      (subst (λ z. Follows g j (w + left_of (some e none)) (Running k (v ∷ vs) c1) (place_in g a z) u later) (sym ends)
      (rest j (x0 ∷ []) c1 q1 b1 u later (omega (arith, lt)) (refl, tt) (kept_over g a c c1 q q1 b b1 t u kept) (subst (λ m. Ready g a m 0 c1 q1 b1 u) sum ready) (held, tt)
      (subst (λ z. HasTurns g c1.turns (place_in g a z) later) ends turned1))))

  only_none : (xs : List Argument) → AreArguments a.frame none xs → is_last false xs ≡ false
  only_none [] h = refl
  only_none (x ∷ xs) h = refl

  some_behind : (fast : Bool) (e : Typed) (es : Nodes) (xs : List Argument) → AreArguments a.frame (some e es) xs → is_last fast xs ≡ false
  some_behind fast e es [] h = absurd h
  some_behind fast e es (x ∷ xs) h = refl

  none_follow : (fast : Bool) (pushed fresh : ℕ) → ArgumentsLeave g a fast none pushed fresh
  none_follow fast pushed fresh n w p k vs c q b t seen has r room turned rest =
      let ends : p ≡ p + 0 = omega arith in
      let sum : pushed ≡ pushed + 0 = omega arith in
      follows_weaken g n (w + left_of none) w (Running k vs c) (place_in g a p) t seen (omega arith)
      (subst (λ z. Follows g n (w + left_of none) (Running k vs c) (place_in g a z) t seen) (sym ends)
      (rest n [] c q b t seen (omega arith) tt (none_over g a pushed 0 c q b t r) (subst (λ m. Ready g a m 0 c q b t) sum r) tt (subst (λ z. HasTurns g c.turns (place_in g a z) seen) ends turned)))

  arguments_follow : (fast : Bool) (es : Nodes) (pushed fresh : ℕ) → ArgumentsDo g a es → ArgumentsLeave g a fast es pushed fresh
  arguments_follow fast none pushed fresh all = none_follow fast pushed fresh
  arguments_follow true (some e none) pushed fresh all = stays_last e pushed fresh all.0
  arguments_follow false (some e none) pushed fresh all = waits_then false e none only_none pushed fresh all.0 (none_follow false (more pushed (passed_size a.frame e)) (fresh + uses None e))
  arguments_follow fast (some e (some e2 es)) pushed fresh all = waits_then fast e (some e2 es) (some_behind fast e2 es) pushed fresh all.0 (arguments_follow fast (some e2 es) (more pushed (passed_size a.frame e)) (fresh + uses None e) all.1)

pub arguments_leave_weight : ArgumentsLeaveWeight
arguments_leave_weight g a fast es pushed fresh placed all = arguments_follow g a placed fast es pushed fresh all

pub arguments_are_followed : ArgumentsAreFollowed
arguments_are_followed g a fast es pushed fresh placed all n w p k vs c q b t seen has r room turned rest =
    arguments_leave_weight g a fast es pushed fresh placed all n w p k vs c q b t seen has r room turned (λ j xs c2 q2 b2 u later le are over ready there turned2.
    follows_weaken g j w (w + left_of es) (Running k (piled xs vs) c2) (place_in g a (p + length (args_code a.frame pushed fresh fast es))) u later (omega arith) (rest j xs c2 q2 b2 u later le are over ready there turned2))
