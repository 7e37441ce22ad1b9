-- An expression that folding replaces by a constant runs to that constant's value, and changes nothing else.
use Rattle.std.proofs.Common.{◌≡◌, ℕ, zero, suc, ℤ, pos, negsuc, Bool, true, false, not, List, ◌∷◌, Option, Some, None, option_and_then, if◌then◌else◌, refl, sym, ap, ◌∙◌, subst}
use Rattle.std.specs.Prelude.{Ok}
use Rattle.c65_base.specs.declared.operators.UnaryOp.{UnaryOp}
use Rattle.c65_base.specs.declared.operators.BinaryOp.{BinaryOp}
use Rattle.c65_ints.specs.declared.types.IntType.{IntType}
use Rattle.c65_ints.specs.Ranges.{wrap_of}
use Rattle.c65_ctype.specs.Trees.{Ty, void, int, pointer, array, tag, function, qual, QTy, type_in}
use Rattle.c65_csem.specs.Trees.{Typed, node, Node, constant, convert, unary, binary, both, either, choice, comma, type_of}
use Rattle.c65_csem.specs.Typed.{IsTyped, IsNode}
use Rattle.c65_fold.specs.Compute as f
use Rattle.c65_fold.specs.Constants.{number_type, and_also, or_else}
use Rattle.c65_fold.specs.Folded as g
use Rattle.c65_fold.specs.Folded.{from_both, now_value, value_at, by_value, folded, folded_node}
use Rattle.c65_fold.proofs.FoldLaws.{kept_type}
use Rattle.c65_fold.proofs.RangeLaws.{some_is}
use Rattle.c65_fold.proofs.TypedLaws.{typed}
use Rattle.c65_meaning.specs.Program.{ProgramTy}
use Rattle.c65_meaning.specs.Store.{Store, Value, Whole}
use Rattle.c65_meaning.specs.Operators.{truth_of}
use Rattle.c65_meaning.specs.Operators as o
use Rattle.c65_meaning.specs.Shapes.{shape_of, bare_type}
use Rattle.c65_meaning.specs.Items.{Item, Change, Apply1, Apply2, Both, Either, Truth, Choose, Drop, plan}
use Rattle.c65_meaning.specs.State.{State, Running, Scene}
use Rattle.c65_meaning.specs.Step.{step, go_on, decided}
use Rattle.c65_fold_law.specs.Laws.{IsIn, Quietly, Leads, ConstantsSettle}
use Rattle.c65_fold_law.proofs.Operators.{IsConstant, unary_same, binary_same}

-- ---- parts of a value that is there

bound_some : {A : Type 0} (h : A → Option ℤ) (o : Option A) (z : ℤ) → option_and_then h o ≡ Some z → (x : A) × (o ≡ Some x) × (h x ≡ Some z)
bound_some h None z e = cc
bound_some h (Some x) z e = (x, refl, e)

both_some : (x y : Option ℤ) (h : ℤ → ℤ → Option ℤ) (z : ℤ) → from_both x y h ≡ Some z → (a b : ℤ) × (x ≡ Some a) × (y ≡ Some b) × (h a b ≡ Some z)
both_some None y h z e = cc
both_some (Some a) None h z e = cc
both_some (Some a) (Some b) h z e = (a, b, refl, refl, e)

abbrev nothing : Option ℤ
nothing = None

impossible : {A : Type 0} → (z : ℤ) → nothing ≡ Some z → A
impossible z h = cc

-- a known tree is a constant of its type
constant_is : (p : ProgramTy) (e : Typed) (x : ℤ) → IsTyped p.unit e → g.known e ≡ Some x → IsConstant (type_of e) x
constant_is p (node t (constant y)) x w e = let P : ℤ → Type 0 = IsConstant t in subst P (some_is y x e) (record { kind = w.0; typed = w.1; range = w.2 })
constant_is p (node t _) x w e = cc

pub folded_constant : (p : ProgramTy) (e : Typed) (x : ℤ) → IsTyped p.unit e → g.known (folded e) ≡ Some x → IsConstant (type_of e) x
folded_constant p e x w h = let P : QTy → Type 0 = λ (t : QTy). IsConstant t x in subst P (kept_type e) (constant_is p (folded e) x (typed p.unit e w) h)

int_type : (t : QTy) (k : IntType) → number_type (type_in t) ≡ Some k → type_in t ≡ int k
int_type (qual void c v) k h = cc
int_type (qual (int j) c v) k h = ap int (some_of j k h)
  where
    some_of : (i j : IntType) → Some i ≡ Some j → i ≡ j
    some_of i j e = cc
int_type (qual (pointer q) c v) k h = cc
int_type (qual (array q n) c v) k h = cc
int_type (qual (tag n) c v) k h = cc
int_type (qual (function q) c v) k h = cc

-- what a test makes of a number
truth_is : (s : Store) (x : ℤ) → truth_of s (Whole x) ≡ Ok (not (f.is_zero x))
truth_is s (pos zero) = refl
truth_is s (pos (suc n)) = refl
truth_is s (negsuc n) = refl

module _ (p : ProgramTy) where
  -- ---- ways

  join : (c : Scene) (n : ℕ) (s t r : State) → Quietly p c n s t → Leads p c t r → Leads p c s r
  join c zero s t r w l = subst (λ (x : State). Leads p c x r) (sym w.0) l
  join c (suc n) s t r w l = let rest = join c n (step p s) t r w.1 l in record { others = suc rest.others; way = (w.0, rest.way) }

  pub followed : (c : Scene) (s t r : State) → Leads p c s t → Leads p c t r → Leads p c s r
  followed c s t r w l = join c (suc w.others) s t r w.way l

  one : (c : Scene) (s t : State) → IsIn c s → step p s ≡ t → IsIn c t → Leads p c s t
  one c s t h e i = record { others = 0; way = (h, (e, subst (IsIn c) (sym e) i)) }

  -- ---- one node

  pub record Settles (e : Typed) (z : ℤ) : Type 0 where
    pub run : (k : List Item) (vs : List Value) (c : Scene) → Leads p c (Running (plan p.unit e k) vs c) (Running k (Whole z ∷ vs) c)

  same_settles : (e : Typed) (x z : ℤ) → x ≡ z → Settles e x → Settles e z
  same_settles e x z h s = subst (Settles e) h s

  constant_settles : (t : QTy) (z : ℤ) → Settles (node t (constant z)) z
  constant_settles t z = record { run = λ k vs c. one c (Running (plan p.unit (node t (constant z)) k) vs c) (Running k (Whole z ∷ vs) c) refl refl refl }

  -- an operand, and then one item that gives the value
  then_item : (a : Typed) (x z : ℤ) (i : Item) (k : List Item) (vs : List Value) (c : Scene) → Settles a x → step p (Running (i ∷ k) (Whole x ∷ vs) c) ≡ Running k (Whole z ∷ vs) c → Leads p c (Running (plan p.unit a (i ∷ k)) vs c) (Running k (Whole z ∷ vs) c)
  then_item a x z i k vs c s e = followed c (Running (plan p.unit a (i ∷ k)) vs c) (Running (i ∷ k) (Whole x ∷ vs) c) (Running k (Whole z ∷ vs) c) (s.run (i ∷ k) vs c) (one c (Running (i ∷ k) (Whole x ∷ vs) c) (Running k (Whole z ∷ vs) c) refl e refl)

  convert_settles : (t : QTy) (a : Typed) (k : IntType) (x z : ℤ) → type_in t ≡ int k → wrap_of k x ≡ z → Settles a x → Settles (node t (convert a)) z
  convert_settles t a k x z h e s = record { run = λ l vs c. then_item a x z (Change (shape_of p.unit.types (type_in t))) l vs c s (ap (λ (y : Ty). go_on (o.converted (shape_of p.unit.types y) (Whole x)) l vs c) h ∙ ap (λ (y : ℤ). Running l (Whole y ∷ vs) c) e) }

  unary_settles : (op : UnaryOp) (t : QTy) (a : Typed) (x z : ℤ) → ((s : Store) → o.unary s op (shape_of p.unit.types (bare_type a)) (Whole x) ≡ Ok (Whole z)) → Settles a x → Settles (node t (unary op a)) z
  unary_settles op t a x z e s = record { run = λ l vs c. then_item a x z (Apply1 op (shape_of p.unit.types (bare_type a))) l vs c s (ap (λ r. go_on r l vs c) (e c.store)) }

  binary_settles : (op : BinaryOp) (t : QTy) (a b : Typed) (x y z : ℤ) → ((s : Store) → o.binary s op (shape_of p.unit.types (bare_type a)) (shape_of p.unit.types (bare_type b)) (Whole x) (Whole y) ≡ Ok (Whole z)) → Settles a x → Settles b y → Settles (node t (binary op a b)) z
  binary_settles op t a b x y z e s r = record {
    run = λ l vs c.
        let i : Item = Apply2 op (shape_of p.unit.types (bare_type a)) (shape_of p.unit.types (bare_type b)) in
        followed c (Running (plan p.unit a (plan p.unit b (i ∷ l))) vs c) (Running (plan p.unit b (i ∷ l)) (Whole x ∷ vs) c) (Running l (Whole z ∷ vs) c) (s.run (plan p.unit b (i ∷ l)) vs c)
        (followed c (Running (plan p.unit b (i ∷ l)) (Whole x ∷ vs) c) (Running (i ∷ l) (Whole y ∷ Whole x ∷ vs) c) (Running l (Whole z ∷ vs) c) (r.run (i ∷ l) (Whole x ∷ vs) c)
        (one c (Running (i ∷ l) (Whole y ∷ Whole x ∷ vs) c) (Running l (Whole z ∷ vs) c) refl (ap (λ q. go_on q l vs c) (e c.store)) refl));
  }

  -- a choice by the truth of a number
  branch : (c : Scene) (x : ℤ) (b : Bool) (s t : State) → f.is_zero x ≡ b → decided (truth_of c.store (Whole x)) s t ≡ (if b then t else s)
  branch c x true s t h = ap (λ q. decided q s t) (truth_is c.store x) ∙ ap (λ (b : Bool). decided (Ok (not b)) s t) h
  branch c x false s t h = ap (λ q. decided q s t) (truth_is c.store x) ∙ ap (λ (b : Bool). decided (Ok (not b)) s t) h

  -- an operand, an item that tests it, and the part that it goes on with
  then_part : (a : Typed) (x z : ℤ) (i : Item) (k l : List Item) (vs : List Value) (c : Scene) → Settles a x → step p (Running (i ∷ k) (Whole x ∷ vs) c) ≡ Running l vs c → Leads p c (Running l vs c) (Running k (Whole z ∷ vs) c) → Leads p c (Running (plan p.unit a (i ∷ k)) vs c) (Running k (Whole z ∷ vs) c)
  then_part a x z i k l vs c s e w =
      followed c (Running (plan p.unit a (i ∷ k)) vs c) (Running (i ∷ k) (Whole x ∷ vs) c) (Running k (Whole z ∷ vs) c) (s.run (i ∷ k) vs c)
      (followed c (Running (i ∷ k) (Whole x ∷ vs) c) (Running l vs c) (Running k (Whole z ∷ vs) c) (one c (Running (i ∷ k) (Whole x ∷ vs) c) (Running l vs c) refl e refl) w)

  truth_step : (y : ℤ) (k : List Item) (vs : List Value) (c : Scene) → step p (Running (Truth ∷ k) (Whole y ∷ vs) c) ≡ Running k (Whole (f.truth (if f.is_zero y then false else true)) ∷ vs) c
  truth_step (pos zero) k vs c = refl
  truth_step (pos (suc n)) k vs c = refl
  truth_step (negsuc n) k vs c = refl

  both_by : (t : QTy) (a b : Typed) (x y z : ℤ) (q : Bool) → f.is_zero x ≡ q → (if q then Some (f.truth false) else Some (f.truth (if f.is_zero y then false else true))) ≡ Some z → Settles a x → Settles b y → Settles (node t (both a b)) z
  both_by t a b x y z true h e s r = same_settles (node t (both a b)) (pos 0) z (some_is (pos 0) z e) (record { run = λ k vs c. then_item a x (pos 0) (Both b) k vs c s (branch c x true (Running (plan p.unit b (Truth ∷ k)) vs c) (Running k (Whole (pos 0) ∷ vs) c) h) })
  both_by t a b x y z false h e s r =
      let v : ℤ = f.truth (if f.is_zero y then false else true) in
      same_settles (node t (both a b)) v z (some_is v z e) (record { run = λ k vs c. then_part a x v (Both b) k (plan p.unit b (Truth ∷ k)) vs c s (branch c x false (Running (plan p.unit b (Truth ∷ k)) vs c) (Running k (Whole (pos 0) ∷ vs) c) h) (then_item b y v Truth k vs c r (truth_step y k vs c)) })

  either_by : (t : QTy) (a b : Typed) (x y z : ℤ) (q : Bool) → f.is_zero x ≡ q → (if q then Some (f.truth (if f.is_zero y then false else true)) else Some (f.truth true)) ≡ Some z → Settles a x → Settles b y → Settles (node t (either a b)) z
  either_by t a b x y z false h e s r = same_settles (node t (either a b)) (pos 1) z (some_is (pos 1) z e) (record { run = λ k vs c. then_item a x (pos 1) (Either b) k vs c s (branch c x false (Running k (Whole (pos 1) ∷ vs) c) (Running (plan p.unit b (Truth ∷ k)) vs c) h) })
  either_by t a b x y z true h e s r =
      let v : ℤ = f.truth (if f.is_zero y then false else true) in
      same_settles (node t (either a b)) v z (some_is v z e) (record { run = λ k vs c. then_part a x v (Either b) k (plan p.unit b (Truth ∷ k)) vs c s (branch c x true (Running k (Whole (pos 1) ∷ vs) c) (Running (plan p.unit b (Truth ∷ k)) vs c) h) (then_item b y v Truth k vs c r (truth_step y k vs c)) })

  choice_by : (t : QTy) (d a b : Typed) (x y v z : ℤ) (q : Bool) → f.is_zero x ≡ q → Some (if q then v else y) ≡ Some z → Settles d x → Settles a y → Settles b v → Settles (node t (choice d a b)) z
  choice_by t d a b x y v z true h e s r w = same_settles (node t (choice d a b)) v z (some_is v z e) (record { run = λ k vs c. then_part d x v (Choose a b) k (plan p.unit b k) vs c s (branch c x true (Running (plan p.unit a k) vs c) (Running (plan p.unit b k) vs c) h) (w.run k vs c) })
  choice_by t d a b x y v z false h e s r w = same_settles (node t (choice d a b)) y z (some_is y z e) (record { run = λ k vs c. then_part d x y (Choose a b) k (plan p.unit a k) vs c s (branch c x false (Running (plan p.unit a k) vs c) (Running (plan p.unit b k) vs c) h) (r.run k vs c) })

  comma_settles : (t : QTy) (a b : Typed) (x y : ℤ) → Settles a x → Settles b y → Settles (node t (comma a b)) y
  comma_settles t a b x y s r = record { run = λ k vs c. comma_part a x y Drop k (plan p.unit b k) vs c s (r.run k vs c) }
    where
      comma_part : (a : Typed) (x z : ℤ) (i : Item) (k l : List Item) (vs : List Value) (c : Scene) → Settles a x → Leads p c (Running l vs c) (Running k (Whole z ∷ vs) c) → Leads p c (Running (plan p.unit a (Drop ∷ l)) vs c) (Running k (Whole z ∷ vs) c)
      comma_part a x z i k l vs c s w =
          followed c (Running (plan p.unit a (Drop ∷ l)) vs c) (Running (Drop ∷ l) (Whole x ∷ vs) c) (Running k (Whole z ∷ vs) c) (s.run (Drop ∷ l) vs c)
          (followed c (Running (Drop ∷ l) (Whole x ∷ vs) c) (Running l vs c) (Running k (Whole z ∷ vs) c) (one c (Running (Drop ∷ l) (Whole x ∷ vs) c) (Running l vs c) refl refl refl) w)

  -- ---- trees

  plain : (t : QTy) (n : Node) (z : ℤ) → g.known (node t (folded_node n)) ≡ Some z → Settles (node t n) z
  plain t (constant y) z h = same_settles (node t (constant y)) y z (some_is y z h) (constant_settles t y)
  plain t _ z h = impossible z h

  by_cases : (t : QTy) (n : Node) (z : ℤ) (v : Option ℤ) → value_at t (folded_node n) ≡ v → g.known (by_value t (folded_node n) v) ≡ Some z → ((k : IntType) → number_type (type_in t) ≡ Some k → now_value (folded_node n) k ≡ Some z → Settles (node t n) z) → Settles (node t n) z
  by_cases t n z None e h settle = plain t n z h
  by_cases t n z (Some y) e h settle = let b = bound_some (λ (k : IntType). now_value (folded_node n) k) (number_type (type_in t)) y e in settle b.0 b.1 (b.2 ∙ h)

  mutual
    pub settles : (e : Typed) (z : ℤ) → IsTyped p.unit e → g.known (folded e) ≡ Some z → Settles e z
    settles (node t n) z w h = by_cases t n z (value_at t (folded_node n)) refl h (λ k i v. node_settles t n k z w i v)

    node_settles : (t : QTy) (n : Node) (k : IntType) (z : ℤ) → IsNode p.unit t n → number_type (type_in t) ≡ Some k → now_value (folded_node n) k ≡ Some z → Settles (node t n) z
    node_settles t (convert a) k z w i h =
        let v = bound_some (λ (x : ℤ). Some (wrap_of k x)) (g.known (folded a)) z h in
        convert_settles t a k v.0 z (int_type t k i) (some_is _ z v.2) (settles a v.0 w.0 v.1)
    node_settles t (unary op a) k z w i h =
        let v = bound_some (λ (x : ℤ). f.unary_value op k x) (g.known (folded a)) z h in
        unary_settles op t a v.0 z (λ s. unary_same p.unit.types s op t (type_of a) k v.0 z w.2 i (folded_constant p a v.0 w.0 v.1) v.2) (settles a v.0 w.0 v.1)
    node_settles t (binary op a b) k z w i h =
        let v = both_some (g.known (folded a)) (g.known (folded b)) (λ (x y : ℤ). f.binary_value op k x y) z h in
        binary_settles op t a b v.0 v.1 z (λ s. binary_same p.unit.types p.unit s op t (type_of a) (type_of b) k v.0 v.1 z w.4 i (folded_constant p a v.0 w.0 v.2) (folded_constant p b v.1 w.1 v.3) v.4) (settles a v.0 w.0 v.2) (settles b v.1 w.1 v.3)
    node_settles t (both a b) k z w i h =
        let v = both_some (g.known (folded a)) (g.known (folded b)) (λ (x y : ℤ). and_also x (Some y)) z h in
        both_by t a b v.0 v.1 z (f.is_zero v.0) refl v.4 (settles a v.0 w.0 v.2) (settles b v.1 w.1 v.3)
    node_settles t (either a b) k z w i h =
        let v = both_some (g.known (folded a)) (g.known (folded b)) (λ (x y : ℤ). or_else x (Some y)) z h in
        either_by t a b v.0 v.1 z (f.is_zero v.0) refl v.4 (settles a v.0 w.0 v.2) (settles b v.1 w.1 v.3)
    node_settles t (choice d a b) k z w i h =
        let u = bound_some (λ (c : ℤ). from_both (g.known (folded a)) (g.known (folded b)) (λ (y n : ℤ). Some (if f.is_zero c then n else y))) (g.known (folded d)) z h in
        let v = both_some (g.known (folded a)) (g.known (folded b)) (λ (y n : ℤ). Some (if f.is_zero u.0 then n else y)) z u.2 in
        choice_by t d a b u.0 v.0 v.1 z (f.is_zero u.0) refl v.4 (settles d u.0 w.0 u.1) (settles a v.0 w.1 v.2) (settles b v.1 w.2 v.3)
    node_settles t (comma a b) k z w i h =
        let v = both_some (g.known (folded a)) (g.known (folded b)) (λ (x y : ℤ). Some y) z h in
        same_settles (node t (comma a b)) v.1 z (some_is v.1 z v.4) (comma_settles t a b v.0 v.1 (settles a v.0 w.0 v.2) (settles b v.1 w.1 v.3))
    node_settles t _ k z w i h = impossible z h

pub constants_settle : ConstantsSettle
constants_settle p e t z w h k vs c = (settles p e z w (ap g.known h)).run k vs c
