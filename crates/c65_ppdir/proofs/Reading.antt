-- What is read next, as steps of a file.
use Rattle.std.proofs.Common.{◌≡◌, ◌∙◌, ◌⊎◌, ℕ, suc, List, [], ◌∷◌, ◌++◌, Bool, false, Result, Ok, Err, inl, inr, ap, sym, subst, take, length}
use Rattle.std.specs.Prelude.{IfErr, OnOk}
use Rattle.c65_base.specs.declared.refusal.Refusal.{Refusal}
use Rattle.c65_base.specs.declared.refusal.Refusal.TheVariants as refusals
use Rattle.c65_base.specs.declared.refusal.Pos.{Pos}
use Rattle.c65_lex.specs.declared.token.PpToken.{PpToken}
use Rattle.c65_macro.specs.Table.{Table}
use Rattle.c65_ppdir.specs.declared.opened.Opened.{Opened}
use Rattle.c65_ppdir.specs.Files.{OpenFile, opened_as}
use Rattle.c65_pptext.specs.Reading.{Held}
use Rattle.c65_ppline.specs.declared.line.Cut.{Cut}
use Rattle.c65_pptext.specs.declared.ending.Read.{Read}
use Rattle.c65_pptext.specs.declared.ending.Read.TheVariants as reads
use Rattle.c65_ppdir.specs.declared.opened.Unseen.{Unseen}
use Rattle.c65_ppdir.specs.declared.reader.Reader.{Reader}
use Rattle.c65_ppline.specs.Expansions.{ReadsExpansion}
use Rattle.c65_ppdir.specs.Gathering.{Gathering, Gathers, Gathered, IsLineRead, allows_header, used}
use Rattle.c65_ppline.specs.Lines.{cut_refusal}
use Rattle.c65_ppdir.specs.LineActions.{text_by, text_from, text_line}
use Rattle.c65_ppdir.specs.Opening.{IsReadNext, IsSeenNext, has_more, skipping, skipped, past}
use Rattle.c65_ppdir.specs.Progress.{Progress, progress, added, flushed, earlier, Settles, settles, read_next}
use Rattle.c65_ppline.specs.Relations.{Comes, IsFree}
use Rattle.c65_ppdir.specs.UnitTokens.{with_tokens}
use Rattle.c65_ppline.proofs.Relations.{goes, is_free}

-- one step more of a line that is skipped
pub skips_on : (start file left : OpenFile) (u : Unseen) (more : Result Bool Refusal) → ((n : ℕ) (z : Result OpenFile Refusal) → skipping n file z → skipped start z) → IsSeenNext file u left → more ≡ has_more u
    → (n : ℕ) (z : Result OpenFile Refusal) → past (skipping n) more left z → skipped start z
skips_on start file left u more before seen e n z h = before (suc n) z (u, left, seen, subst (λ (m : Result Bool Refusal). past (skipping n) m left z) e h)

-- one step more of a directive's line
pub gathers_on : (hash : Pos) (ts : List PpToken) (start file left : OpenFile) (first names known : List (List ℕ)) (r : Read)
    → ((n : ℕ) (g : Gathering) → Gathers n hash ts file names g → IsLineRead hash start first g) → IsReadNext (allows_header names ts) file names r left known
    → (n : ℕ) (g : Gathering) → Gathered (λ us. Gathers n hash us left known g) hash ts r left known g → IsLineRead hash start first g
gathers_on hash ts start file left first names known r before read n g h = before (suc n) g (r, left, known, read, h)

-- one step more of a line that is no directive
pub text_on : (start p q : Progress) (r : Read) → ((n : ℕ) (z : Result Progress Refusal) → text_from n p z → text_line start z) → read_next false p (Ok (r, q))
    → (n : ℕ) (z : Result Progress Refusal) → text_by (text_from n) r q z → text_line start z
text_on start p q r before read n z h = before (suc n) z (goes (read_next false p) (λ x. text_by (text_from n) x.0 x.1) (r, q) z read h)

-- the list ends
pub flushes : (held : Held) (reader new : Reader) (file : Opened) (names known : List (List ℕ)) (r : Result (Unit {0}) Refusal) → new.macros ≡ reader.macros
    → ReadsExpansion (λ _. new.output.given) (λ _ out. with_tokens reader.output.given out) reader.macros names reader.output.list.items known r → OnOk r (new.output.list.items ≡ [])
    → Comes (λ _. progress held new file known) (flushed (progress held reader file names)) r
flushes held reader new file names known (Ok x) same e l =
    ((e.0, known), e.1, (new.output.given, e.2, ap (λ (t : Table). Ok (record { table = t; given = new.output.given; list = new.output.list.items; file = opened_as held file; names = known })) same ∙ ap (λ (ts : List PpToken). Ok (record { table = reader.macros; given = new.output.given; list = ts; file = opened_as held file; names = known })) l))
flushes held reader new file names known (Err e) same (inl h) l = inr (inl h)
flushes held reader new file names known (Err e) same (inr (out, now, x, f)) l = inr (inr ((out, now), x, inl f))

-- which fault comes first
free_earlier : (fault e : Refusal) → IsFree e → IsFree (earlier fault e)
free_earlier fault refusals.OutOfMemory h = tt
free_earlier fault refusals.ReadFault h = tt
free_earlier fault _ h = absurd h

pub settles_behind : (fault e result' : Refusal) (p : Progress) → result' ≡ earlier fault e → IsFree e ⊎ flushed p (Err e) → IsFree result' ⊎ Settles fault p result'
settles_behind fault e result' p same (inl h) = inl (subst (λ (x : Refusal). IsFree x) (sym same) (free_earlier fault e h))
settles_behind fault e result' p same (inr h) = inr (Err e, h, same)

-- the answer of a fault that is settled
pub settled_answer : {X A : Type 0} (view : X → A) (fault e : Refusal) (p : Progress) → IsFree e ⊎ Settles fault p e → Comes view (settles {A = A} fault p) (Err e)
settled_answer view fault e p (inl h) = inl h
settled_answer view fault e p (inr h) = inr h

-- what was read of a directive's line, where a header name may stand as these tokens say
pub read_here : (header : Bool) (file : OpenFile) (names : List (List ℕ)) (ts us : List PpToken) (r : Read) (left : OpenFile) (known : List (List ℕ)) → header ≡ allows_header names us → us ≡ ts → IsReadNext header file names r left known → IsReadNext (allows_header names ts) file names r left known
read_here header file names ts us r left known e f h =
    subst (λ (b : Bool). IsReadNext b file names r left known) (e ∙ ap (λ (vs : List PpToken). allows_header names vs) f) h

-- a token was added
pub add_is : (table : Table) (given given' list list' : List PpToken) (file : OpenFile) (names : List (List ℕ)) (t : PpToken) → list' ≡ list ++ t ∷ [] → given' ≡ given
    → (let p : Progress = record { table = table; given = given'; list = list'; file = file; names = names } in p ≡ added t (record { table = table; given = given; list = list; file = file; names = names }))
add_is table given given' list list' file names t e f =
    let mid : Progress = record { table = table; given = given'; list = list ++ t ∷ []; file = file; names = names } in
    let first : (let p : Progress = record { table = table; given = given'; list = list'; file = file; names = names } in p ≡ mid) = ap (λ (ts : List PpToken). record { table = table; given = given'; list = ts; file = file; names = names }) e in
    first ∙ ap (λ (ts : List PpToken). record { table = table; given = ts; list = list ++ t ∷ []; file = file; names = names }) f

-- a text line ends with a token that was added
pub text_ends : (start p q new : Progress) (t : PpToken) (r : Result (Unit {0}) Refusal) → ((n : ℕ) (z : Result Progress Refusal) → text_from n p z → text_line start z) → read_next false p (Ok (reads.LineEnd t, q))
    → IfErr r (λ e. e ≡ refusals.OutOfMemory) → OnOk r (new ≡ added t q) → Comes (λ _. new) (text_line start) r
text_ends start p q new t (Ok x) before read f h = text_on start p q (reads.LineEnd t) before read 0 (Ok new) (ap (λ (x : Progress). Ok x) h)
text_ends start p q new t (Err e) before read f h = inl (is_free e f)

pub add_ok : (table : Table) (given given' list list' : List PpToken) (file : OpenFile) (names : List (List ℕ)) (t : PpToken) (r : Result (Unit {0}) Refusal) → OnOk r (list' ≡ list ++ t ∷ []) → given' ≡ given
    → OnOk r (let p : Progress = record { table = table; given = given'; list = list'; file = file; names = names } in p ≡ added t (record { table = table; given = given; list = list; file = file; names = names }))
add_ok table given given' list list' file names t (Ok x) e f = add_is table given given' list list' file names t e f
add_ok table given given' list list' file names t (Err x) e f = tt

-- a text line is cut off
pub text_cut : (start p q q' : Progress) (cut : Cut) (fault e : Refusal) → ((n : ℕ) (z : Result Progress Refusal) → text_from n p z → text_line start z) → read_next false p (Ok (reads.Cut cut, q))
    → q' ≡ record q { list = used cut q.list } → fault ≡ cut_refusal cut → IsFree e ⊎ Settles fault q' e → IsFree e ⊎ text_line start (Err e)
text_cut start p q q' cut fault e before read same f (inl h) = inl h
text_cut start p q q' cut fault e before read same f (inr h) =
    inr (text_on start p q (reads.Cut cut) before read 0 (Err e) (subst (λ (x : Progress). Settles (cut_refusal cut) x e) same (subst (λ (x : Refusal). Settles x q' e) f h)))

pub list_is : (table : Table) (given given' list list' : List PpToken) (file : OpenFile) (names : List (List ℕ)) → list' ≡ list → given' ≡ given
    → (let p : Progress = record { table = table; given = given'; list = list'; file = file; names = names } in p ≡ record { table = table; given = given; list = list; file = file; names = names })
list_is table given given' list list' file names e f =
    ap (λ (ts : List PpToken). record { table = table; given = given'; list = ts; file = file; names = names }) e ∙ ap (λ (ts : List PpToken). record { table = table; given = ts; list = list; file = file; names = names }) f

pub is_same : (a b : Bool) (r : Result Bool Refusal) → a ≡ b → Ok a ≡ r → Ok b ≡ r
is_same a b r e h = ap (λ (x : Bool). Ok x) (sym e) ∙ h
