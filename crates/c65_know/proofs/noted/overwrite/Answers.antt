-- The part that was written over stands in the whole, and what was left of the old lines is gone.
use Rattle.std.proofs.Common.{◌≡◌, ◌+◌, ◌-◌, ◌≤◌, ◌++◌, length, take, drop, ℕ, List, [], append_assoc, append-nil, length-append, length-drop, ◌∙◌, sym, refl, subst, arith, rules}
use Rattle.std.proofs.lemmas.List.{take_all, drop_all, length-take-le}
use Rattle.std.proofs.lemmas.Slice.{take-put_mid, drop-put_mid}
use Rattle.std.specs.List.{remove_range}
use Rattle.c65_know.specs.declared.note.Note.{Note}
use Rattle.c65_know.proofs.noted.overwrite.Goals as goal

over : List Note → List Note → ℕ → ℕ → List Note
over old new at k = take at old ++ (new ++ drop k (drop at old))

length_over : (old new : List Note) (at k : ℕ) → at + k ≤ length old → k ≡ length new → length (over old new at k) ≡ length old
unfolding over
length_over old new at k fits e = grind (arith, length-append, length-take-le, length-drop)

whole : (old : List Note) (n : ℕ) (part : List Note) → n ≡ length old → length part ≡ length old → take n (part ++ drop (length part) old) ≡ part
whole old n part e f =
    let a : take n part ≡ part = take_all n part (omega arith) in
    let b : drop (length part) old ≡ [] = drop_all (length part) old (omega arith) in
    simp (b, append-nil, a) refl

removed : (old new : List Note) (at k count : ℕ) → at + count ≤ length old → length new ≤ count → k ≡ length new → remove_range (over old new at k) (at + length new) (at + count) ≡ take at old ++ (new ++ drop (at + count) old)
unfolding over
removed old new at k count fits fewer e =
    let a : take (at + length new) (take at old ++ (new ++ drop k (drop at old))) ≡ take at old ++ new = take-put_mid at k old new (at + length new) refl (omega arith) in
    let b : drop (at + count) (take at old ++ (new ++ drop k (drop at old))) ≡ drop (at + count) old = drop-put_mid at k old new (at + count) (omega arith) (omega arith) (sym e) in
    simp (a, b, append_assoc) refl

both : (old part : List Note) (n i j : ℕ) (end : List Note) → take n (part ++ drop (length part) old) ≡ part → remove_range part i j ≡ end → remove_range (take n (part ++ drop (length part) old)) i j ≡ end
both old part n i j end e f = subst (λ (x : List Note). remove_range x i j ≡ end) (sym e) f

all : (old new : List Note) (at k n count : ℕ) → n ≡ length old → at + count ≤ length old → length new ≤ count → k ≡ length new
    → remove_range (take n (take at old ++ (new ++ drop k (drop at old)) ++ drop (length (take at old ++ (new ++ drop k (drop at old)))) old)) (at + length new) (at + count) ≡ take at old ++ (new ++ drop (at + count) old)
unfolding over
all old new at k n count e fits fewer f =
    both old (over old new at k) n (at + length new) (at + count) (take at old ++ (new ++ drop (at + count) old)) (whole old n (over old new at k) e (length_over old new at k (omega arith) f)) (removed old new at k count fits fewer f)

-- the same where the part was lent and the new lines were copied
lent : (old part new given : List Note) (at k n count : ℕ) → part ≡ old → new ≡ given → n ≡ length old → at + count ≤ length old → length given ≤ count → k ≡ length given
    → remove_range (take n (take at part ++ (new ++ drop k (drop at part)) ++ drop (length (take at part ++ (new ++ drop k (drop at part)))) old)) (at + length given) (at + count) ≡ take at old ++ (given ++ drop (at + count) old)
lent old part new given at k n count e f g fits fewer h =
    let P : List Note → Type 0 = λ part. remove_range (take n (take at part ++ (given ++ drop k (drop at part)) ++ drop (length (take at part ++ (given ++ drop k (drop at part)))) old)) (at + length given) (at + count) ≡ take at old ++ (given ++ drop (at + count) old) in
    let Q : List Note → Type 0 = λ new. remove_range (take n (take at part ++ (new ++ drop k (drop at part)) ++ drop (length (take at part ++ (new ++ drop k (drop at part)))) old)) (at + length given) (at + count) ≡ take at old ++ (given ++ drop (at + count) old) in
    subst Q (sym f) (subst P (sym e) (all old given at k n count g fits fewer h))

pub returns : goal.returns
returns c =
    let done = lent c.args.notes.now.items c.deref_mut.result.now c.copy_from_slice.new.self c.args.new.now c.args.at (c.args.at + length c.args.new.now - c.args.at) c.args.notes.now.len c.args.count
    c.deref_mut.ensures.value c.copy_from_slice.ensures.after (search (rules, c.well_formed)) c.requires.place c.requires.fewer (omega arith) in
    let end = c.drop-drain.ensures.items ∙ (c.drain.ensures.kept ∙ done) in
    search (rules, end)
