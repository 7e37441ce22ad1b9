-- The list that is read up to a directive: its expansion, and the lines that it grows by, are decided once.
use Rattle.std.proofs.Common.{◌∙◌, ℕ, zero, suc, false, Result, Ok, Err, ap, sym}
use Rattle.c65_base.specs.declared.refusal.Refusal.{Refusal}
use Rattle.c65_base.specs.declared.refusal.Refusal.TheVariants as refusals
use Rattle.c65_ppdir.specs.Files.{OpenFile}
use Rattle.c65_pptext.specs.declared.ending.Read.{Read}
use Rattle.c65_pptext.specs.declared.ending.Read.TheVariants as reads
use Rattle.c65_ppdir.specs.Gathering.{used}
use Rattle.c65_ppdir.specs.LineActions.{text_by, text_from, text_line, skipped_rest}
use Rattle.c65_ppline.specs.Lines.{cut_refusal}
use Rattle.c65_ppdir.specs.Progress.{Progress, added, expansions, ended, flushed, earlier, settled, settles, read_next}
use Rattle.c65_ppline.specs.Relations.{Answers, of}
use Rattle.c65_ppdir.specs.UnitTokens.{with_tokens}
use Rattle.c65_ppdir_law.specs.Once.{IsFinal, IsDecided, AreAlike, HasOne}
use Rattle.c65_ppdir_law.proofs.Alike.{alike_then, one_then, one_behind, one_just, one_of, one_expanded, alike_none, none_alike, is_value, is_error, no_value}
use Rattle.c65_ppdir_law.proofs.LineReads.{one_read_next, one_skipped}

pub one_flushed : (p : Progress) → HasOne (flushed p)
one_flushed p = one_then (expansions p.table p.names p.list) _ (one_expanded p.table p.names p.list) (λ x. one_behind (of (with_tokens p.given x.0)) (λ given. Ok (ended p x.1 given)) (one_of (with_tokens p.given x.0)))

-- a fault that comes behind another one is final as that one is
final_behind : (fault e : Refusal) → IsFinal (earlier fault e) → IsFinal e
final_behind fault refusals.OutOfMemory h = h
final_behind fault refusals.ReadFault h = h
final_behind fault _ h = tt

decided_behind : (fault : Refusal) (z : Result Progress Refusal) → IsFinal (settled fault z) → IsDecided z
decided_behind fault (Ok p) h = tt
decided_behind fault (Err e) h = final_behind fault e h

pub one_settles : {A : Type 0} (fault : Refusal) (p : Progress) → HasOne (settles {A = A} fault p)
one_settles fault p (Ok x) z d e a b = absurd a
one_settles fault p (Err g) (Ok x) d e a b = absurd b
one_settles fault p (Err g) (Err h) d e (y, a, f) (z, b, i) =
    let first : IsFinal (settled fault y) = rw f at d in
    let second : IsFinal (settled fault z) = rw i at e in
    ap (λ (x : Refusal). Err x) (f ∙ (ap (λ (x : Result Progress Refusal). settled fault x) (one_flushed p y z (decided_behind fault y first) (decided_behind fault z second) a b) ∙ sym i))

-- a line that is no directive
alike_text_by : (go go' : Progress → Answers Progress) (r : Read) (p : Progress) → ((q : Progress) → AreAlike (go q) (go' q)) → AreAlike (text_by go r p) (text_by go' r p)
alike_text_by go go' (reads.Token t) p h = h (added t p)
alike_text_by go go' (reads.LineEnd t) p h = one_just (Ok (added t p))
alike_text_by go go' reads.End p h = one_just (Ok p)
alike_text_by go go' (reads.Cut cut) p h = one_settles (cut_refusal cut) (record p { list = used cut p.list })

alike_text : (n m : ℕ) (p : Progress) → AreAlike (text_from n p) (text_from m p)
alike_text zero m p = none_alike (text_from m p)
alike_text (suc n) zero p = alike_none (text_from (suc n) p)
alike_text (suc n) (suc m) p = alike_then (read_next false p) _ _ (one_read_next false p) (λ x. alike_text_by (text_from n) (text_from m) x.0 x.1 (λ q. alike_text n m q))

pub one_text_line : (p : Progress) → HasOne (text_line p)
one_text_line p y z d e (n, a) (m, b) = alike_text n m p y z d e a b

pub one_skipped_rest : (p : Progress) → HasOne (skipped_rest p)
one_skipped_rest p (Ok q) (Ok q') d e (left, a, f) (left', b, g) = ap (λ (x : Progress). Ok x) (f ∙ (ap (λ (x : OpenFile). record p { file = x }) (is_value left left' (one_skipped p.file (Ok left) (Ok left') tt tt a b)) ∙ sym g))
one_skipped_rest p (Ok q) (Err h) d e (left, a, f) b = absurd (no_value left h (one_skipped p.file (Ok left) (Err h) tt e a b))
one_skipped_rest p (Err h) (Ok q) d e a (left, b, f) = absurd (no_value left h (sym (one_skipped p.file (Err h) (Ok left) d tt a b)))
one_skipped_rest p (Err g) (Err h) d e a b = ap (λ (x : Refusal). Err x) (is_error g h (one_skipped p.file (Err g) (Err h) d e a b))
