-- From what a file holds to the image that it spells.
use Rattle.std.proofs.Common.{◌≡◌, ℕ, ◌+◌, ◌-◌, ◌*◌, ◌≤◌, ◌<◌, ◌⊎◌, inl, inr, zero, suc, ◌==◌, true, false, nat_lt, cond, List, [], ◌∷◌, length, take, get_or, None, Some, Option, Ok, Err, ap, sym, subst, refl, ◌∙◌, arith}
use Rattle.std.proofs.lemmas.List.{take_all, length-take, get_or-take}
use Rattle.std.proofs.lemmas.Bool.{cases_lt, lt-ltb, le-ltb}
use Rattle.c65_base.specs.declared.refusal.Refusal.{Refusal}
use Rattle.c65_base.specs.declared.refusal.Refusal.TheVariants.{OutOfMemory, Missing, ReadFault, BadImage}
use Rattle.c65_mach.specs.declared.image.Image.{Image}
use Rattle.c65_mach.specs.Images.{Parses, fault_of, cpu_fault, late_fault, wrong_in, fixed, word_in, or_else}
use Rattle.c65_io.specs.Contents.{Contents}
use Rattle.c65_commands.specs.Text.{ReadsHeld, ReadsText, ReadsSome}
use Rattle.c65_commands.specs.Told.{HeldImage, ToldImage, SomeImage}

spelled_held_err : (most : ℕ) (held : Option (List ℕ)) (path : List ℕ) (r : Refusal) → ReadsHeld most path held (Err r) → HeldImage held path (Err r)
spelled_held_err most None path (Missing missed) reads = reads
spelled_held_err most None path OutOfMemory reads = tt
spelled_held_err most (Some bytes) path OutOfMemory reads = tt
spelled_held_err most (Some bytes) path ReadFault reads = tt
spelled_held_err most None path r reads = absurd reads
spelled_held_err most (Some bytes) path r reads = absurd reads

pub spelled_err : (most : ℕ) (held : Contents) (path : List ℕ) (r : Refusal) → ReadsText most held path (Err r) → ToldImage held path (Err r)
spelled_err most None path r reads = tt
spelled_err most (Some held) path r reads = spelled_held_err most (held path) path r reads

pub some_read_err : (path : List ℕ) (r : Refusal) → ReadsSome path (Err r) → SomeImage path (Err r)
some_read_err path OutOfMemory reads = tt
some_read_err path (Missing missed) reads = reads
some_read_err path ReadFault reads = tt
some_read_err path r reads = absurd reads

-- Bytes behind the first 65,549 change no answer.
wrong-take : (wants bytes : List ℕ) (n at : ℕ) → length wants ≤ n → wrong_in wants (take n bytes) at ≡ wrong_in wants bytes at
wrong-take [] bytes n at fits = refl
wrong-take (want ∷ wants) [] n at fits = ap (λ bs. wrong_in (want ∷ wants) bs at) (take_all n [] (omega arith))
wrong-take (want ∷ wants) (b ∷ bs) zero at fits = absurd (omega arith)
wrong-take (want ∷ wants) (b ∷ bs) (suc n) at fits = ap (λ o. cond (b == want) o (Some at)) (wrong-take wants bs n (at + 1) (omega arith))

word-take : (bytes : List ℕ) (n at : ℕ) → at + 1 < n → word_in (take n bytes) at ≡ word_in bytes at
word-take bytes n at fits =
    ap (λ low. low + 256 * get_or (take n bytes) (at + 1) 0) (get_or-take n bytes at 0 (omega arith))
    ∙ ap (λ high. get_or bytes at 0 + 256 * high) (get_or-take n bytes (at + 1) 0 fits)

late_long : (bytes : List ℕ) (load : ℕ) → word_in bytes 8 ≡ load → 65549 ≤ length bytes → late_fault bytes ≡ Some (12 + 65536 - load)
late_long bytes load is long =
    let enough : nat_lt (length bytes) 12 ≡ false = le-ltb (length bytes) 12 (omega arith) in
    let past : nat_lt (12 + 65536 - load) (length bytes) ≡ true = lt-ltb (12 + 65536 - load) (length bytes) (omega arith) in
    rw (is, enough, past) refl

cpu-take : (bytes : List ℕ) → cpu_fault (take 65549 bytes) ≡ cpu_fault bytes
cpu-take bytes = rw (get_or-take 65549 bytes 6 0 (omega arith)) refl

fault-take : (bytes : List ℕ) → 65549 ≤ length bytes → fault_of (take 65549 bytes) ≡ fault_of bytes
fault-take bytes long =
    let size : length (take 65549 bytes) ≡ 65549 = omega (arith, length-take 65549 bytes) in
    ap (λ o. or_else o (or_else (cpu_fault (take 65549 bytes)) (late_fault (take 65549 bytes)))) (wrong-take fixed bytes 65549 0 (omega arith))
    ∙ ap (λ o. or_else (wrong_in fixed bytes 0) (or_else o (late_fault (take 65549 bytes)))) (cpu-take bytes)
    ∙ ap (λ o. or_else (wrong_in fixed bytes 0) (or_else (cpu_fault bytes) o))
    (late_long (take 65549 bytes) (word_in bytes 8) (word-take bytes 65549 8 (omega arith)) (omega (arith, size)) ∙ sym (late_long bytes (word_in bytes 8) refl long))

or_some : (o p : Option ℕ) (e : ℕ) → or_else o (or_else p (Some e)) ≡ None → ⊥
or_some None None e is = let both : Some e ≡ None = is in cc
or_some None (Some a) e is = let both : Some a ≡ None = is in cc
or_some (Some a) p e is = let both : Some a ≡ None = is in cc

long_faulty : (bytes : List ℕ) → 65549 ≤ length bytes → fault_of bytes ≡ None → ⊥
long_faulty bytes long none =
    or_some (wrong_in fixed bytes 0) (cpu_fault bytes) (12 + 65536 - word_in bytes 8)
    (sym (ap (λ o. or_else (wrong_in fixed bytes 0) (or_else (cpu_fault bytes) o)) (late_long bytes (word_in bytes 8) refl long)) ∙ none)

spelled_by : (bytes : List ℕ) (image : Image) → (length bytes < 65549) ⊎ (65549 ≤ length bytes) → Parses (take 65549 bytes) (Ok image) → Parses bytes (Ok image)
spelled_by bytes image (inl short) parses = subst (λ (bs : List ℕ). Parses bs (Ok image)) (take_all 65549 bytes (omega arith)) parses
spelled_by bytes image (inr long) parses =
    absurd (long_faulty (take 65549 bytes) (omega (arith, length-take 65549 bytes)) parses.0)

bad_by : (bytes : List ℕ) (offset : ℕ) → (length bytes < 65549) ⊎ (65549 ≤ length bytes) → Parses (take 65549 bytes) (Err (BadImage offset)) → Parses bytes (Err (BadImage offset))
bad_by bytes offset (inl short) parses = subst (λ (bs : List ℕ). Parses bs (Err (BadImage offset))) (take_all 65549 bytes (omega arith)) parses
bad_by bytes offset (inr long) parses = sym (fault-take bytes long) ∙ parses

spelled_held : (held : Option (List ℕ)) (path bytes : List ℕ) (image : Image) → ReadsHeld 65549 path held (Ok bytes) → Parses bytes (Ok image) → HeldImage held path (Ok image)
spelled_held None path bytes image reads parses = absurd reads
spelled_held (Some all) path bytes image reads parses =
    spelled_by all image (cases_lt (length all) 65549) (subst (λ (bs : List ℕ). Parses bs (Ok image)) reads parses)

pub spelled_ok : (held : Contents) (path bytes : List ℕ) (image : Image) → ReadsText 65549 held path (Ok bytes) → Parses bytes (Ok image) → ToldImage held path (Ok image)
spelled_ok None path bytes image reads parses = tt
spelled_ok (Some held) path bytes image reads parses = spelled_held (held path) path bytes image reads parses

bad_held : (held : Option (List ℕ)) (path bytes : List ℕ) (offset : ℕ) → ReadsHeld 65549 path held (Ok bytes) → Parses bytes (Err (BadImage offset))
    → HeldImage held path (Err (BadImage offset))
bad_held None path bytes offset reads parses = absurd reads
bad_held (Some all) path bytes offset reads parses =
    bad_by all offset (cases_lt (length all) 65549) (subst (λ (bs : List ℕ). Parses bs (Err (BadImage offset))) reads parses)

pub spelled_bad : (held : Contents) (path bytes : List ℕ) (offset : ℕ) → ReadsText 65549 held path (Ok bytes) → Parses bytes (Err (BadImage offset))
    → ToldImage held path (Err (BadImage offset))
spelled_bad None path bytes offset reads parses = tt
spelled_bad (Some held) path bytes offset reads parses = bad_held (held path) path bytes offset reads parses

held_free : (held : Option (List ℕ)) (path : List ℕ) → HeldImage held path (Err OutOfMemory)
held_free None path = tt
held_free (Some bytes) path = tt

-- want of memory is free
pub spelled_free : (held : Contents) (path : List ℕ) → ToldImage held path (Err OutOfMemory)
spelled_free None path = tt
spelled_free (Some held) path = held_free (held path) path
