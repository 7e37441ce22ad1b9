-- Laws of reading a file piece by piece.
use Rattle.std.proofs.Common.{◌≡◌, ℕ, ◌+◌, ◌≤◌, ◌<◌, List, ◌++◌, length, take, drop, None, Some, Option, Ok, Err, ap, sym, subst, ◌∙◌, arith}
use Rattle.std.proofs.lemmas.List.{take_all, take-take, length-drop, length-take-le, length-append}
use Rattle.std.proofs.Math.Seq.{take-add}
use Rattle.c65_base.specs.declared.refusal.Refusal.TheVariants.{Missing}
use Rattle.c65_io.specs.declared.outside.FileFault.TheVariants.{Missing as NotThere}
use Rattle.c65_io.specs.Contents.{Contents, ReadsFrom, ReadsFile}
use Rattle.c65_commands.specs.Text.{IsFront, HasRead, ReadsHeld, ReadsText}

more_of : (held : Option (List ℕ)) (text into : List ℕ) (at count : ℕ) → at ≡ length text → IsFront held text
    → ReadsFrom held at into (Ok count) → IsFront held (text ++ take count into)
more_of None text into at count here front reads = absurd reads
more_of (Some bytes) text into at count here front reads =
    let fits : count ≤ length (drop (length text) bytes) = omega (arith, length-drop (length text) bytes, reads.1) in
    let copied : take count into ≡ take count (drop (length text) bytes) = reads.0 ∙ ap (λ n. take count (drop n bytes)) here in
    let len : length (take count into) ≡ count = ap length copied ∙ length-take-le count (drop (length text) bytes) fits in
    let total : length (text ++ take count into) ≡ length text + count = omega (arith, length-append text (take count into), len) in
    ap (λ n. take n bytes) total ∙ take-add (length text) count bytes ∙ ap (λ xs. xs ++ take count (drop (length text) bytes)) front
    ∙ ap (λ xs. text ++ xs) (sym copied)

pub more : (held : Contents) (path text into : List ℕ) (at count : ℕ) → at ≡ length text → HasRead held path text
    → ReadsFile held path at into (Ok count) → HasRead held path (text ++ take count into)
more None path text into at count here front reads = tt
more (Some held) path text into at count here front reads = more_of (held path) text into at count here front reads

-- the same over files that tell what they told at first
pub more_now : (held held' : Contents) (path text into : List ℕ) (at count : ℕ) → held' ≡ held → at ≡ length text → HasRead held path text
    → ReadsFile held' path at into (Ok count) → HasRead held path (text ++ take count into)
more_now held held' path text into at count same here front reads =
    more held path text into at count here front (subst (λ (h : Contents). ReadsFile h path at into (Ok count)) same reads)

all_of : (most : ℕ) (path : List ℕ) (held : Option (List ℕ)) (text into : List ℕ) (at count : ℕ) → at ≡ length text → length text ≤ most → count ≡ 0 → IsFront held text
    → ReadsFrom held at into (Ok count) → ReadsHeld most path held (Ok text)
all_of most path None text into at count here short none front reads = absurd reads
all_of most path (Some bytes) text into at count here short none front reads =
    let whole : length bytes ≤ length text = omega (arith, reads.2 none, here) in
    sym front ∙ take_all (length text) bytes whole ∙ sym (take_all most bytes (omega arith))

all : (most : ℕ) (held : Contents) (path text into : List ℕ) (at count : ℕ) → at ≡ length text → length text ≤ most → count ≡ 0 → HasRead held path text
    → ReadsFile held path at into (Ok count) → ReadsText most held path (Ok text)
all most None path text into at count here short none front reads = tt
all most (Some held) path text into at count here short none front reads = all_of most path (held path) text into at count here short none front reads

pub all_now : (most : ℕ) (held held' : Contents) (path text into : List ℕ) (at count : ℕ) → held' ≡ held → at ≡ length text → length text ≤ most → count ≡ 0
    → HasRead held path text → ReadsFile held' path at into (Ok count) → ReadsText most held path (Ok text)
all_now most held held' path text into at count same here short none front reads =
    all most held path text into at count here short none front (subst (λ (h : Contents). ReadsFile h path at into (Ok count)) same reads)

cut_of : (most : ℕ) (path : List ℕ) (held : Option (List ℕ)) (text : List ℕ) → 0 < most → most ≤ length text → IsFront held text → ReadsHeld most path held (Ok (take most text))
cut_of most path None text some long front = absurd (omega (arith, ap length front))
cut_of most path (Some bytes) text some long front = ap (take most) (sym front) ∙ take-take most (length text) bytes long

-- as many bytes as are wanted
pub cut : (most : ℕ) (held : Contents) (path text : List ℕ) → 0 < most → most ≤ length text → HasRead held path text → ReadsText most held path (Ok (take most text))
cut most None path text some long front = tt
cut most (Some held) path text some long front = cut_of most path (held path) text some long front

missed_of : (most : ℕ) (path name into : List ℕ) (at : ℕ) (held : Option (List ℕ)) → ReadsFrom held at into (Err NotThere) → name ≡ path
    → ReadsHeld most path held (Err (Missing name))
missed_of most path name into at None reads same = same
missed_of most path name into at (Some bytes) reads same = absurd reads

-- a path that is not there
pub missed : (most : ℕ) (held held' : Contents) (path name into : List ℕ) (at : ℕ) → held' ≡ held → ReadsFile held' path at into (Err NotThere) → name ≡ path
    → ReadsText most held path (Err (Missing name))
missed most None held' path name into at is reads same = tt
missed most (Some held) held' path name into at is reads same =
    let now : ReadsFile (Some held) path at into (Err NotThere) = subst (λ (h : Contents). ReadsFile h path at into (Err NotThere)) is reads in
    missed_of most path name into at (held path) now same
