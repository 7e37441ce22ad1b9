-- What several notes all know does not depend on the order.
use Rattle.std.proofs.Common.{◌≡◌, ℕ, ◌==◌, Bool, true, false, if◌then◌else◌, Option, None, Some, List, [], ◌∷◌, unwrap_or, refl, sym, ◌∙◌, ap, eqb-true}
use Rattle.c65_know.specs.declared.note.Note.{Note}
use Rattle.c65_know.specs.Notes.{nothing_known, agreed, agreed_flag, meet}
use Rattle.c65_know.specs.Known.{Way, joined, met}
use Rattle.c65_know.specs.Index.{known_at}

three : (x y z : ℕ) (p q : Bool) → (x == y) ≡ p → (y == z) ≡ q → agreed (if p then Some x else None) (Some z) ≡ agreed (Some x) (if q then Some y else None)
three x y z true true e f = ap (λ k. if x == k then Some x else None) (sym (eqb-true y z f))
three x y z true false e f = ap (λ k. if k == z then Some x else None) (eqb-true x y e) ∙ ap (λ b. if b then Some x else None) f
three x y z false true e f = sym (ap (λ b. if b then Some x else None) e)
three x y z false false e f = refl

two : (x y : ℕ) (p : Bool) → agreed (if p then Some x else None) None ≡ None
two x y true = refl
two x y false = refl

agreed_thrice : (a b c : Option ℕ) → agreed (agreed a b) c ≡ agreed a (agreed b c)
agreed_thrice None b c = refl
agreed_thrice (Some x) None c = refl
agreed_thrice (Some x) (Some y) None = two x y (x == y)
agreed_thrice (Some x) (Some y) (Some z) = three x y z (x == y) (y == z) refl refl

flags_thrice : (a b c : Option Bool) → agreed_flag (agreed_flag a b) c ≡ agreed_flag a (agreed_flag b c)
flags_thrice None b c = refl
flags_thrice (Some x) None c = refl
flags_thrice (Some true) (Some true) None = refl
flags_thrice (Some true) (Some false) None = refl
flags_thrice (Some false) (Some true) None = refl
flags_thrice (Some false) (Some false) None = refl
flags_thrice (Some true) (Some true) (Some true) = refl
flags_thrice (Some true) (Some true) (Some false) = refl
flags_thrice (Some true) (Some false) (Some true) = refl
flags_thrice (Some true) (Some false) (Some false) = refl
flags_thrice (Some false) (Some true) (Some true) = refl
flags_thrice (Some false) (Some true) (Some false) = refl
flags_thrice (Some false) (Some false) (Some true) = refl
flags_thrice (Some false) (Some false) (Some false) = refl

make : (a x y s0 s1 p0 p1 t1 : Option ℕ) (n v z c : Option Bool) → Note
make a x y s0 s1 p0 p1 t1 n v z c = record { a = a; x = x; y = y; s0 = s0; s1 = s1; p0 = p0; p1 = p1; t1 = t1; n = n; v = v; z = z; c = c }

made : (k : Note) → k ≡ make k.a k.x k.y k.s0 k.s1 k.p0 k.p1 k.t1 k.n k.v k.z k.c
unfolding make
made k = refl

module _ (u v w : Note) where
  pub meet_thrice : meet (meet u v) w ≡ meet u (meet v w)
  meet_thrice =
      let one : Note = meet (meet u v) w in
      let other : Note = meet u (meet v w) in
      let a : one.a ≡ other.a = agreed_thrice u.a v.a w.a in
      let x : one.x ≡ other.x = agreed_thrice u.x v.x w.x in
      let y : one.y ≡ other.y = agreed_thrice u.y v.y w.y in
      let s0 : one.s0 ≡ other.s0 = agreed_thrice u.s0 v.s0 w.s0 in
      let s1 : one.s1 ≡ other.s1 = agreed_thrice u.s1 v.s1 w.s1 in
      let p0 : one.p0 ≡ other.p0 = agreed_thrice u.p0 v.p0 w.p0 in
      let p1 : one.p1 ≡ other.p1 = agreed_thrice u.p1 v.p1 w.p1 in
      let t1 : one.t1 ≡ other.t1 = agreed_thrice u.t1 v.t1 w.t1 in
      let n : one.n ≡ other.n = flags_thrice u.n v.n w.n in
      let vv : one.v ≡ other.v = flags_thrice u.v v.v w.v in
      let z : one.z ≡ other.z = flags_thrice u.z v.z w.z in
      let c : one.c ≡ other.c = flags_thrice u.c v.c w.c in
      let same : make one.a one.x one.y one.s0 one.s1 one.p0 one.p1 one.t1 one.n one.v one.z one.c ≡ make other.a other.x other.y other.s0 other.s1 other.p0 other.p1 other.t1 other.n other.v other.z other.c = cc in
      made one ∙ (same ∙ sym (made other))

-- what a way, if there is one, and others all know
abbrev both : Option Note → Option Note → Option Note
both None m = m
both (Some n) None = Some n
both (Some n) (Some m) = Some (meet n m)

both_thrice : (way : Option Note) (n : Note) (m : Option Note) → both (Some (joined way n)) m ≡ both way (both (Some n) m)
both_thrice None n m = refl
both_thrice (Some w) n None = refl
both_thrice (Some w) n (Some m) = ap Some (meet_thrice w n m)

-- the way on can be met last
met_last : (l : ℕ) (ways : List Way) (way : Option Note) → met l way ways ≡ both way (met l None ways)
met_last l [] None = refl
met_last l [] (Some n) = refl
met_last l (w ∷ ways) way = by (w.label == l) (met_last l ways)
  where
    by : (here : Bool) → ((last : Option Note) → met l last ways ≡ both last (met l None ways)) → met l (if here then Some (joined way w.note) else way) ways ≡ both way (met l (if here then Some (joined None w.note) else None) ways)
    by true more = more (Some (joined way w.note)) ∙ (both_thrice way w.note (met l None ways) ∙ ap (both way) (sym (more (Some w.note))))
    by false more = more way

known_both : (way m : Option Note) → known_at way m ≡ unwrap_or (both way m) nothing_known
known_both None None = refl
known_both None (Some m) = refl
known_both (Some n) None = refl
known_both (Some n) (Some m) = refl

pub known_met : (l : ℕ) (ways : List Way) (way : Option Note) → known_at way (met l None ways) ≡ unwrap_or (met l way ways) nothing_known
known_met l ways way = known_both way (met l None ways) ∙ ap (λ m. unwrap_or m nothing_known) (sym (met_last l ways way))
