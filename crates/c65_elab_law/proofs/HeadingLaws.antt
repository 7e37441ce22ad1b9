-- The beginning of a unit, what completes an object, and headings of functions.
use Rattle.std.proofs.Common.{◌≡◌, ℕ, zero, suc, ◌≤◌, Bool, true, false, Some, None, Ok, refl, subst, arith, List, [], ◌∷◌}
use Rattle.std.specs.Prelude.{slice_get, nat_lt}
use Rattle.c65_base.specs.declared.names.Name.{Name}
use Rattle.c65_base.specs.Answers.{◌>>=◌}
use Rattle.c65_ctype.specs.Trees.{void, int, pointer, array, tag, function, QTy, qual, type_in, TypesTy}
use Rattle.c65_csem.specs.declared.items.Class.{Class}
use Rattle.c65_csem.specs.declared.items.Class.TheVariants as c
use Rattle.c65_csem.specs.Trees.{ObjectTy}
use Rattle.c65_csem.specs.Places.{are_alike}
use Rattle.c65_elab_scope.specs.Tables.{closed_table}
use Rattle.c65_elab_scope.specs.Scopes.{ScopeTy, nothing}
use Rattle.c65_elab_scope.specs.Parts.{counted, with_count, completed, literal_added}
use Rattle.c65_elab_declare.specs.Headings.{HeadingTy, heading_from}
use Rattle.c65_elab_declare.specs.Shapes.{shaped_for}
use Rattle.c65_tree.specs.Trees as t
use Rattle.c65_elab.specs.Headings.{declarator_place, names_ended, parameters_left, enumerators_left, headed}
use Rattle.c65_elab.specs.Typing.{beside, parts_in}
use Rattle.c65_elab_law.specs.Growth.{IsLater}
use Rattle.c65_elab_law.specs.Numbers.{IsRangedDeclarator}
use Rattle.c65_elab_law.specs.Scoped.{has_elements, HasPlace, ArePlaced, IsScope, Keeps}
use Rattle.c65_elab_law.proofs.GrowthLaws.{alike_self}
use Rattle.c65_elab_law.proofs.OperatorLaws.{ok_is}
use Rattle.c65_elab_law.proofs.ScopeLaws.{keeps_self, keeps_on, renamed, closed_table_names, fewer_keeps, later_self, get_more}
use Rattle.c65_elab_law.proofs.AnswerLaws.{beside_keeps, chain}
use Rattle.c65_elab_law.proofs.TypingLaws.{parts_in_keeps}

pub begins : (signed_chars : Bool) (rest : Name) (s : ScopeTy) → nothing signed_chars rest ≡ Ok s → IsScope s
begins signed_chars rest s h = subst IsScope (ok_is _ _ h) (record { types = record { tags = tt; units = let one : 1 ≤ 1 = omega arith in one }; one_unit = refl; names = record { current = tt; hidden = tt }; objects = tt; funcs = tt })

pub literal_added_keeps : (s : ScopeTy) (bytes : List ℕ) (x : ℕ × ScopeTy) → IsScope s → literal_added s bytes ≡ Ok x → Keeps s x.1
literal_added_keeps s bytes x w h = subst (λ (y : ℕ × ScopeTy). Keeps s y.1) (ok_is _ _ h) (record {
  scope = record { types = w.types; one_unit = w.one_unit; names = w.names; objects = w.objects; funcs = w.funcs };
  grown = record { types = λ i l g. g; objects = λ i o g. (o, g, later_self o); literals = λ i bs g. get_more s.unit.literals (bytes ∷ []) i bs g; funcs = λ i f g. (f, g) };
})

-- ---- an array gets its number of elements

counted_alike : (q : QTy) (n : ℕ) → are_alike q (counted q n) ≡ true
counted_alike (qual void c v) n = refl
counted_alike (qual (int k) c v) n = alike_self (qual (int k) c v)
counted_alike (qual (pointer r) c v) n = refl
counted_alike (qual (array r m) c v) n = alike_self r
counted_alike (qual (tag i) c v) n = refl
counted_alike (qual (function f) c v) n = refl

counted_tag : (q : QTy) (n i : ℕ) → type_in q ≡ tag i → type_in (counted q n) ≡ tag i
counted_tag (qual void c v) n i h = h
counted_tag (qual (int k) c v) n i h = h
counted_tag (qual (pointer r) c v) n i h = h
counted_tag (qual (array r m) c v) n i h = cc
counted_tag (qual (tag j) c v) n i h = h
counted_tag (qual (function f) c v) n i h = h

counted_elements : (types : TypesTy) (q : QTy) (n : ℕ) → has_elements types (type_in q) ≡ true → has_elements types (type_in (counted q n)) ≡ true
counted_elements types (qual void c v) n h = h
counted_elements types (qual (int k) c v) n h = h
counted_elements types (qual (pointer r) c v) n h = h
counted_elements types (qual (array r m) c v) n h = h
counted_elements types (qual (tag i) c v) n h = h
counted_elements types (qual (function f) c v) n h = h

counted_place : (types : TypesTy) (q : QTy) (n : ℕ) (class : Class) → HasPlace types q class → HasPlace types (counted q n) class
counted_place types q n c.External w = counted_elements types q n w
counted_place types q n c.Tentative w = tt
counted_place types q n c.Declared w = tt
counted_place types q n c.Static w = counted_elements types q n w
counted_place types q n c.Auto w = counted_elements types q n w
counted_place types q n c.Register w = counted_elements types q n w
counted_place types q n c.Fixed w = counted_elements types q n w

counted_placed : (types : TypesTy) (os : List ObjectTy) (i n : ℕ) → ArePlaced types os → ArePlaced types (with_count os i n)
counted_placed types [] i n w = tt
counted_placed types (o ∷ os) zero n w = (counted_place types o.ty n o.class w.0, w.1)
counted_placed types (o ∷ os) (suc i) n w = (w.0, counted_placed types os i n w.1)

counted_later : (os : List ObjectTy) (i n j : ℕ) (o : ObjectTy) → slice_get os j ≡ Some o → (p : ObjectTy) × (slice_get (with_count os i n) j ≡ Some p) × IsLater o p
counted_later [] i n j o h = absurd (let z : None ≡ Some o = h in cc)
counted_later (x ∷ os) zero n zero o h = (record x { ty = counted x.ty n }, refl, subst (λ (y : ObjectTy). IsLater y (record x { ty = counted x.ty n })) (let z : x ≡ o = cc in z) (record { alike = counted_alike x.ty n; register = refl; tags = counted_tag x.ty n; name = refl; automatic = λ a. refl }))
counted_later (x ∷ os) zero n (suc j) o h = (o, h, later_self o)
counted_later (x ∷ os) (suc i) n zero o h = (o, h, later_self o)
counted_later (x ∷ os) (suc i) n (suc j) o h = counted_later os i n j o h

pub completed_keeps : (s : ScopeTy) (i n : ℕ) → IsScope s → Keeps s (completed s i n)
completed_keeps s i n w = record {
  scope = record { types = w.types; one_unit = w.one_unit; names = w.names; objects = counted_placed s.unit.types s.unit.objects i n w.objects; funcs = w.funcs };
  grown = record { types = λ k l h. h; objects = counted_later s.unit.objects i n; literals = λ k bytes h. h; funcs = λ k f h. (f, h) };
}

-- ---- headings of functions

names_ended_keeps : (s : ScopeTy) (block : ℕ) → IsScope s → Keeps s (names_ended s block)
names_ended_keeps s block w = tested (nat_lt block s.block) refl
  where
    tested : (b : Bool) → nat_lt block s.block ≡ b → Keeps s (names_ended s block)
    tested true x = rw x (renamed s (record s { names = closed_table s.block s.names; block = block }) refl w (closed_table_names s.block s.names w.names))
    tested false x = rw x (keeps_self s w)

parameters_left_keep : (s u : ScopeTy) → Keeps s u → Keeps s (parameters_left s u)
parameters_left_keep s u k = fewer_keeps s (names_ended u s.block) (keeps_on s u (names_ended u s.block) k (names_ended_keeps u s.block k.scope))

pub headed_keeps : (base : QTy) (k : t.DeclaratorTree) (s : ScopeTy) (x : HeadingTy × ScopeTy) → IsRangedDeclarator k → IsScope s → headed base k s ≡ Ok x → Keeps s x.1
headed_keeps base k s x w g h =
    chain (parts_in k true s) (λ y. shaped_for (parameters_left s y.1).unit.types base k y.0.1 true >>= λ u. beside (parameters_left s y.1) (heading_from y.0.0 u y.0.1 (enumerators_left y.1 s.block) (declarator_place k))) x (Keeps s x.1) (λ y hy h1.
    chain (shaped_for (parameters_left s y.1).unit.types base k y.0.1 true) (λ u. beside (parameters_left s y.1) (heading_from y.0.0 u y.0.1 (enumerators_left y.1 s.block) (declarator_place k))) x (Keeps s x.1) (λ u hu h2.
    beside_keeps s (parameters_left s y.1) (heading_from y.0.0 u y.0.1 (enumerators_left y.1 s.block) (declarator_place k)) x (parameters_left_keep s y.1 (parts_in_keeps k w true s y g hy)) h2) h1) h
