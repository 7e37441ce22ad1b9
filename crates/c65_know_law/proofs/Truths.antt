-- What stays true of a state where less is said of it.
use Rattle.std.proofs.Common.{◌≡◌, ℕ, ◌==◌, Bool, true, false, if◌then◌else◌, Option, Some, None, List, [], ◌∷◌, ◌++◌, ◌⊎◌, inl, inr, unwrap_or, refl, sym, subst, eqb-true, eq-eqb}
use Rattle.c65_code.specs.LineState.{State}
use Rattle.c65_know.specs.declared.note.Note.{Note}
use Rattle.c65_know.specs.Notes.{nothing_known, agreed, agreed_flag, meet, unless}
use Rattle.c65_know.specs.Known.{Way, joined, met}
use Rattle.c65_know_law.specs.Truth.{IsAs, IsNoted}

pub nothing_noted : (t : State) → IsNoted nothing_known t
nothing_noted t = record { a = tt; x = tt; y = tt; s0 = tt; s1 = tt; p0 = tt; p1 = tt; t1 = tt; n = tt; v = tt; z = tt; c = tt }

first_as : (o p : Option ℕ) (v : ℕ) → IsAs o v → IsAs (agreed o p) v
first_as None p v h = tt
first_as (Some w) None v h = tt
first_as (Some w) (Some y) v h = pick (w == y)
  where
    pick : (b : Bool) → IsAs (if b then Some w else None) v
    pick true = h
    pick false = tt

second_as : (o p : Option ℕ) (v : ℕ) → IsAs p v → IsAs (agreed o p) v
second_as None p v h = tt
second_as (Some w) None v h = tt
second_as (Some w) (Some y) v h = pick (w == y) refl
  where
    pick : (b : Bool) → (w == y) ≡ b → IsAs (if b then Some w else None) v
    pick true e = let i : w ≡ y = eqb-true w y e in let k : y ≡ v = h in cc
    pick false e = tt

first_flag : (o p : Option Bool) (v : Bool) → IsAs o v → IsAs (agreed_flag o p) v
first_flag None p v h = tt
first_flag (Some true) None v h = tt
first_flag (Some false) None v h = tt
first_flag (Some true) (Some true) v h = h
first_flag (Some true) (Some false) v h = tt
first_flag (Some false) (Some true) v h = tt
first_flag (Some false) (Some false) v h = h

second_flag : (o p : Option Bool) (v : Bool) → IsAs p v → IsAs (agreed_flag o p) v
second_flag None p v h = tt
second_flag (Some true) None v h = tt
second_flag (Some false) None v h = tt
second_flag (Some true) (Some true) v h = h
second_flag (Some true) (Some false) v h = tt
second_flag (Some false) (Some true) v h = tt
second_flag (Some false) (Some false) v h = h

pub meet_first : (n m : Note) (t : State) → IsNoted n t → IsNoted (meet n m) t
meet_first n m t h = record {
  a = first_as n.a m.a t.regs.a h.a;
  x = first_as n.x m.x t.regs.x h.x;
  y = first_as n.y m.y t.regs.y h.y;
  s0 = first_as n.s0 m.s0 (t.zp 2) h.s0;
  s1 = first_as n.s1 m.s1 (t.zp 3) h.s1;
  p0 = first_as n.p0 m.p0 (t.zp 8) h.p0;
  p1 = first_as n.p1 m.p1 (t.zp 9) h.p1;
  t1 = first_as n.t1 m.t1 (t.zp 16) h.t1;
  n = first_flag n.n m.n t.regs.n h.n;
  v = first_flag n.v m.v t.regs.v h.v;
  z = first_flag n.z m.z t.regs.z h.z;
  c = first_flag n.c m.c t.regs.c h.c;
}

pub meet_second : (n m : Note) (t : State) → IsNoted m t → IsNoted (meet n m) t
meet_second n m t h = record {
  a = second_as n.a m.a t.regs.a h.a;
  x = second_as n.x m.x t.regs.x h.x;
  y = second_as n.y m.y t.regs.y h.y;
  s0 = second_as n.s0 m.s0 (t.zp 2) h.s0;
  s1 = second_as n.s1 m.s1 (t.zp 3) h.s1;
  p0 = second_as n.p0 m.p0 (t.zp 8) h.p0;
  p1 = second_as n.p1 m.p1 (t.zp 9) h.p1;
  t1 = second_as n.t1 m.t1 (t.zp 16) h.t1;
  n = second_flag n.n m.n t.regs.n h.n;
  v = second_flag n.v m.v t.regs.v h.v;
  z = second_flag n.z m.z t.regs.z h.z;
  c = second_flag n.c m.c t.regs.c h.c;
}

pub unless_as : {A : Type 0} (b : Bool) (o : Option A) (v : A) → (b ≡ false → IsAs o v) → IsAs (unless b o) v
unless_as true o v h = tt
unless_as false o v h = h refl

-- a way on which a state comes: what is known on it is so
abbrev pub Comes : Option Note → State → Type 0
Comes None t = ⊥
Comes (Some n) t = IsNoted n t

pub joined_first : (o : Option Note) (n : Note) (t : State) → Comes o t → IsNoted (joined o n) t
joined_first None n t h = absurd h
joined_first (Some m) n t h = meet_first m n t h

pub joined_second : (o : Option Note) (n : Note) (t : State) → IsNoted n t → IsNoted (joined o n) t
joined_second None n t h = h
joined_second (Some m) n t h = meet_second m n t h

pub come_as_noted : (o : Option Note) (t : State) → Comes o t → IsNoted (unwrap_or o nothing_known) t
come_as_noted None t h = absurd h
come_as_noted (Some n) t h = h

-- among these ways to labels there is one to this label on which the state comes
abbrev pub ComesTo : ℕ → List Way → State → Type 0
ComesTo l [] t = ⊥
ComesTo l (w ∷ ways) t = ((w.label ≡ l) × IsNoted w.note t) ⊎ ComesTo l ways t

pub met_first : (l : ℕ) (ways : List Way) (way : Option Note) (t : State) → Comes way t → Comes (met l way ways) t
met_first l [] way t h = h
met_first l (w ∷ ways) way t h = met_first l ways _ t (pick (w.label == l))
  where
    pick : (b : Bool) → Comes (if b then Some (joined way w.note) else way) t
    pick true = joined_first way w.note t h
    pick false = h

pub met_among : (l : ℕ) (ways : List Way) (way : Option Note) (t : State) → ComesTo l ways t → Comes (met l way ways) t
met_among l [] way t h = absurd h
met_among l (w ∷ ways) way t (inl h) = met_first l ways _ t (subst (λ (b : Bool). Comes (if b then Some (joined way w.note) else way) t) (sym (eq-eqb w.label l h.0)) (joined_second way w.note t h.1))
met_among l (w ∷ ways) way t (inr h) = met_among l ways _ t h

pub comes_more : (l : ℕ) (ways more : List Way) (t : State) → ComesTo l ways t → ComesTo l (ways ++ more) t
comes_more l [] more t h = absurd h
comes_more l (w ∷ ways) more t (inl h) = inl h
comes_more l (w ∷ ways) more t (inr h) = inr (comes_more l ways more t h)

pub comes_last : (l : ℕ) (ways : List Way) (n : Note) (t : State) → IsNoted n t → ComesTo l (ways ++ record { label = l; note = n } ∷ []) t
comes_last l [] n t h = inl (refl, h)
comes_last l (w ∷ ways) n t h = inr (comes_last l ways n t h)
