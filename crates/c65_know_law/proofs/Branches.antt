-- What a note says where a branch is taken, and where it is not.
use Rattle.std.proofs.Common.{◌≡◌, Bool, true, false, if◌then◌else◌, Option, Some, None, refl}
use Rattle.c65_mach.specs.declared.rows.Op.{Op}
use Rattle.c65_mach.specs.declared.rows.Op.TheVariants as ops
use Rattle.c65_mach.specs.State.{Regs}
use Rattle.c65_mach.specs.Step.{is_taken, is_not, Branches, kind_of}
use Rattle.c65_code.specs.LineState.{State}
use Rattle.c65_know.specs.declared.note.Note.{Note}
use Rattle.c65_know.specs.declared.note.Flag.{Flag}
use Rattle.c65_know.specs.declared.note.Flag.TheVariants as flags
use Rattle.c65_know.specs.Notes.{nothing_known, with_flag, known_flag}
use Rattle.c65_know.specs.Rows.{tested_by, takes_at, is_flag, branched_by, passed_by}
use Rattle.c65_know.specs.Known.{leap}
use Rattle.c65_know_law.specs.Truth.{IsNoted}
use Rattle.c65_know_law.proofs.Truths.{nothing_noted, Comes}

abbrev flag_in : Flag → Regs → Bool
flag_in flags.N r = r.n
flag_in flags.V r = r.v
flag_in flags.Z r = r.z
flag_in flags.C r = r.c

flag_noted : (f : Flag) (b : Bool) (n : Note) (t : State) → IsNoted n t → b ≡ flag_in f t.regs → IsNoted (with_flag f b n) t
flag_noted flags.N b n t h e = record { a = h.a; x = h.x; y = h.y; s0 = h.s0; s1 = h.s1; p0 = h.p0; p1 = h.p1; t1 = h.t1; n = e; v = h.v; z = h.z; c = h.c }
flag_noted flags.V b n t h e = record { a = h.a; x = h.x; y = h.y; s0 = h.s0; s1 = h.s1; p0 = h.p0; p1 = h.p1; t1 = h.t1; n = h.n; v = e; z = h.z; c = h.c }
flag_noted flags.Z b n t h e = record { a = h.a; x = h.x; y = h.y; s0 = h.s0; s1 = h.s1; p0 = h.p0; p1 = h.p1; t1 = h.t1; n = h.n; v = h.v; z = e; c = h.c }
flag_noted flags.C b n t h e = record { a = h.a; x = h.x; y = h.y; s0 = h.s0; s1 = h.s1; p0 = h.p0; p1 = h.p1; t1 = h.t1; n = h.n; v = h.v; z = h.z; c = e }

-- what a branch tests: whether it is taken is told by its flag
abbrev TestsAs : Option Flag → Bool → Bool → Regs → Type 0
TestsAs None at taken r = taken ≡ true
TestsAs (Some f) at taken r = taken ≡ (if at then flag_in f r else is_not (flag_in f r))

tests_as : (op : Op) (r : Regs) → kind_of op ≡ Branches → TestsAs (tested_by op) (takes_at op) (is_taken op r) r
tests_as ops.Bcc r e = refl
tests_as ops.Bcs r e = refl
tests_as ops.Beq r e = refl
tests_as ops.Bmi r e = refl
tests_as ops.Bne r e = refl
tests_as ops.Bpl r e = refl
tests_as ops.Bra r e = refl
tests_as ops.Bvc r e = refl
tests_as ops.Bvs r e = refl
tests_as _ r e = absurd (cc)

set_by : (at f taken : Bool) → taken ≡ (if at then f else is_not f) → taken ≡ true → at ≡ f
set_by true true taken e h = refl
set_by true false taken e h = absurd (cc)
set_by false true taken e h = absurd (cc)
set_by false false taken e h = refl

unset_by : (at f taken : Bool) → taken ≡ (if at then f else is_not f) → taken ≡ false → is_not at ≡ f
unset_by true true taken e h = absurd (cc)
unset_by true false taken e h = refl
unset_by false true taken e h = refl
unset_by false false taken e h = absurd (cc)

branched : (o : Option Flag) (at taken : Bool) (n : Note) (t : State) → TestsAs o at taken t.regs → taken ≡ true → IsNoted n t → IsNoted (branched_by o at n) t
branched None at taken n t e h k = k
branched (Some f) at taken n t e h k = flag_noted f at n t k (set_by at (flag_in f t.regs) taken e h)

passed : (o : Option Flag) (at taken : Bool) (n : Note) (t : State) → TestsAs o at taken t.regs → taken ≡ false → IsNoted n t → Comes (passed_by o at n) t
passed None at taken n t e h k = absurd (cc)
passed (Some f) at taken n t e h k = pick (is_flag at (known_flag n f))
  where
    pick : (b : Bool) → IsNoted (if b then nothing_known else with_flag f (is_not at) n) t
    pick true = nothing_noted t
    pick false = flag_noted f (is_not at) n t k (unset_by at (flag_in f t.regs) taken e h)

pub taken_noted : (op : Op) (n : Note) (t : State) → kind_of op ≡ Branches → is_taken op t.regs ≡ true → IsNoted n t → IsNoted (leap op n) t
taken_noted op n t e h k = branched (tested_by op) (takes_at op) (is_taken op t.regs) n t (tests_as op t.regs e) h k

pub passed_noted : (op : Op) (n : Note) (t : State) → kind_of op ≡ Branches → is_taken op t.regs ≡ false → IsNoted n t → Comes (passed_by (tested_by op) (takes_at op) n) t
passed_noted op n t e h k = passed (tested_by op) (takes_at op) (is_taken op t.regs) n t (tests_as op t.regs e) h k
