-- Orders of a pointer and a null pointer, which have no meaning.
use Rattle.std.proofs.Common.{◌≡◌, ℕ, ◌+◌, List, ◌∷◌, length, refl, subst, arith}
use Rattle.std.specs.Prelude.{Result, Ok, Err}
use Rattle.c65_meaning.specs.Why.{Why}
use Rattle.c65_meaning.specs.Store.{Store, Value, Whole, Null, Place, Opaque, Cells, NoValue, Pointer}
use Rattle.c65_meaning.specs.Items.{Item, Push, Apply2}
use Rattle.c65_meaning.specs.Operators as meaning
use Rattle.c65_meaning.specs.State.{Scene, Running}
use Rattle.c65_meaning.specs.Step.{go_on}
use Rattle.c65_code.specs.LineState.{Place as Spot, State}
use Rattle.c65_code.specs.Comes.{Seen}
use Rattle.c65_gendirect.specs.declared.relation.Relation.{Relation}
use Rattle.c65_gendirect.specs.declared.relation.Relation.TheVariants.{Less, NotLess, Greater, NotGreater, Equal, Unequal}
use Rattle.c65_gendirect.specs.Compare.{compare_code}
use Rattle.c65_agree_state.specs.World.{World, lines_of, place_in}
use Rattle.c65_agree_state.specs.Follows.{Follows}
use Rattle.c65_agree_state.proofs.Followed.{follows_weaken, steps_earn, ready_is_calm}
use Rattle.c65_agree_state.proofs.Nodes.{has_front, ready_stays}
use Rattle.c65_agree_state.specs.Exprs.{Ready}
use Rattle.c65_agree_rows.proofs.Quiet.{nothing_follows}
use Rattle.c65_agree_compare.specs.Laws.{IsOrder}
use Rattle.c65_agree_order.specs.Laws.{NullOrdersSettle, NullOrdersBehindSettle}
use Rattle.c65_agree_order.proofs.PointerTells.{op_by, op_is, alive}

-- an order has no value outside one block
none_apart : (r : Relation) (x : Value) → IsOrder r → meaning.apart (op_by r) ≡ Ok x → ⊥
none_apart Less x o e = absurd (cc)
none_apart NotLess x o e = absurd (cc)
none_apart Greater x o e = absurd (cc)
none_apart NotGreater x o e = absurd (cc)
none_apart Equal x o e = absurd o
none_apart Unequal x o e = absurd o

none_null : (r : Relation) (x : Value) → IsOrder r → meaning.both_null (op_by r) ≡ Ok x → ⊥
none_null Less x o e = absurd (cc)
none_null NotLess x o e = absurd (cc)
none_null Greater x o e = absurd (cc)
none_null NotGreater x o e = absurd (cc)
none_null Equal x o e = absurd o
none_null Unequal x o e = absurd o

none_right : (s : Store) (r : Relation) (size : ℕ) (v x : Value) → IsOrder r → meaning.on_pointers s (op_by r) size v Null ≡ Ok x → ⊥
none_right s r size (Place b i) x o e = none_apart r x o (alive s b (meaning.apart (op_by r)) x e).1
none_right s r size Null x o e = none_null r x o e
none_right s r size (Whole z) x o e = absurd (cc)
none_right s r size Opaque x o e = absurd (cc)
none_right s r size (Cells xs) x o e = absurd (cc)
none_right s r size NoValue x o e = absurd (cc)

none_left : (s : Store) (r : Relation) (size : ℕ) (v x : Value) → IsOrder r → meaning.on_pointers s (op_by r) size Null v ≡ Ok x → ⊥
none_left s r size (Place b i) x o e = none_apart r x o (alive s b (meaning.apart (op_by r)) x e).1
none_left s r size Null x o e = none_null r x o e
none_left s r size (Whole z) x o e = absurd (cc)
none_left s r size Opaque x o e = absurd (cc)
none_left s r size (Cells xs) x o e = absurd (cc)
none_left s r size NoValue x o e = absurd (cc)

-- nothing is followed where a step has no value
none_follows : (g : World) (y : Result Value Why) (k : List Item) (vs : List Value) (c : Scene) (n w : ℕ) (p : Spot) (t : State) (seen : Seen) → ((x : Value) → y ≡ Ok x → ⊥) → Follows g n w (go_on y k vs c) p t seen
none_follows g (Err why) k vs c n w p t seen none = nothing_follows g why n w p t seen
none_follows g (Ok x) k vs c n w p t seen none = absurd (none x refl)

pub null_orders_settle : NullOrdersSettle
null_orders_settle g a m op r x size other sign sides operands right_type s to own needs pushed first left right by_op order before n weight p k vs c w b t seen has ready turns rest =
    before n weight p (Push Null ∷ Apply2 op (Pointer size) (Pointer other) ∷ k) vs c w b t seen (has_front (lines_of g a) p left (compare_code x sign sides own to) has) ready turns (λ j v c2 w2 b2 u later lt done gone turned.
    let at = place_in g a (p + length left) in
    let ready2 : Ready g a pushed needs c2 w2 b2 u = ready_stays g a pushed needs needs c c2 w w2 b b2 t u (omega arith) ready done.kept in
    let calm = (ready_is_calm g a pushed needs c2 w2 b2 u ready2).calm in
    steps_earn g j (weight + 2600 + m.over) (Push Null) (Apply2 op (Pointer size) (Pointer other) ∷ k) (v ∷ vs) c2 at u later calm done.kept.joins.output done.kept.joins.ended (omega (arith, turned)) (λ i less.
    steps_earn g i (weight + 2600 + m.over + 4000) (Apply2 op (Pointer size) (Pointer other)) k (Null ∷ v ∷ vs) c2 at u later calm done.kept.joins.output done.kept.joins.ended (omega (arith, turned)) (λ o less2.
    none_follows g (meaning.binary c2.store op (Pointer size) (Pointer other) v Null) k vs c2 o (weight + 2600 + m.over + 4000 + 4000) at u later (λ y e. none_right c2.store r size v y order (subst (λ z. meaning.on_pointers c2.store z size v Null ≡ Ok y) (op_is op r by_op) e)))))

pub null_orders_behind_settle : NullOrdersBehindSettle
null_orders_behind_settle g a m op r x size other sign sides operands right_type s to own needs pushed second left right by_op order behind n weight p k vs c w b t seen has ready turns rest =
    steps_earn g n weight (Push Null) (second (Apply2 op (Pointer size) (Pointer other) ∷ k)) vs c (place_in g a p) t seen (ready_is_calm g a pushed needs c w b t ready).calm ready.joins.output ready.joins.ended (omega (arith, turns)) (λ i less.
    follows_weaken g i weight (weight + 4000) (Running (second (Apply2 op (Pointer size) (Pointer other) ∷ k)) (Null ∷ vs) c) (place_in g a p) t seen (omega arith)
    (behind i weight p (Apply2 op (Pointer size) (Pointer other) ∷ k) (Null ∷ vs) c w b t seen (has_front (lines_of g a) p right (compare_code x sign sides own to) has) ready turns (λ j v c2 w2 b2 u later lt done gone turned.
    let at = place_in g a (p + length right) in
    let ready2 : Ready g a pushed needs c2 w2 b2 u = ready_stays g a pushed needs needs c c2 w w2 b b2 t u (omega arith) ready done.kept in
    steps_earn g j (weight + 2600 + m.over) (Apply2 op (Pointer size) (Pointer other)) k (v ∷ Null ∷ vs) c2 at u later (ready_is_calm g a pushed needs c2 w2 b2 u ready2).calm done.kept.joins.output done.kept.joins.ended (omega (arith, turned)) (λ o less2.
    none_follows g (meaning.binary c2.store op (Pointer size) (Pointer other) Null v) k vs c2 o (weight + 2600 + m.over + 4000) at u later (λ y e. none_left c2.store r size v y order (subst (λ z. meaning.on_pointers c2.store z size Null v ≡ Ok y) (op_is op r by_op) e))))))
