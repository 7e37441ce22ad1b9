-- Data are read as they are written.
use Rattle.std.proofs.Common.{◌≡◌, ℕ, zero, suc, ◌+◌, ◌<◌, ◌≤◌, ◌==◌, not, Bool, true, false, List, [], ◌∷◌, ◌++◌, Option, Some, None, map, option_map, codes, decimal, length, nat_lt, refl, sym, ap, ◌∙◌, subst, arith, append_assoc, inl, inr}
use Rattle.std.specs.Prelude.{slice_get, if◌then◌else◌, ◌⊎◌}
use Rattle.std.proofs.lemmas.Bool.{and_parts, le-ltb, ne_eqb, cases_lt}
use Rattle.std.proofs.lemmas.List.{append-nil, map_push, length_push, length-map}
use Rattle.c65_code.specs.declared.line.Sym.{Sym}
use Rattle.c65_code.specs.declared.code.Symbol.{Symbol}
use Rattle.c65_code.specs.declared.code.Datum.{Datum}
use Rattle.c65_code.specs.declared.code.DatumKind.{DatumKind}
use Rattle.c65_code.specs.declared.code.DatumKind.TheVariants.{Data, Const, Zero}
use Rattle.c65_code.specs.declared.code.DataCell.{DataCell}
use Rattle.c65_code.specs.declared.code.DataCell.TheVariants.{Byte, Address}
use Rattle.c65_code.specs.Segments.{Segment, is_among}
use Rattle.c65_code.specs.Writable.{IsSpelling}
use Rattle.c65_asm.specs.declared.reader.Open.{Open}
use Rattle.c65_asm.specs.declared.reader.Open.TheVariants as opens
use Rattle.c65_asm.specs.Opened.{OpenedDatum}
use Rattle.c65_asm.specs.Text.{byte_text, sym_text, place_text, byte_start, line_end, opened, cells_text, datum_by, datums_text}
use Rattle.c65_asm.specs.Words.{and_read, is_symbol}
use Rattle.c65_asm.specs.Rows as told
use Rattle.c65_asm.specs.Rows.{Told, datum_in, zeros_by, zeros_in, row_in}
use Rattle.c65_asm.specs.Reading.{Reading, bytes_in, with_values, begun, new_datum, begin_data, zero_datum, put_zeros, with_datum, opened_datum, step_in, step}
use Rattle.c65_asm.specs.Read.{lines_in, next_number}
use Rattle.c65_asm.specs.Renumbered.{naming, naming_cells, naming_datum, naming_datums, renamed, renamed_cell, renamed_datum}
use Rattle.c65_asm.proofs.WordLaws.{number_read, byte_read, byte_lacks, lacks, lacks-append, cut_there, word_lacks, decimal_word, symbol_is, spelling_word, place_read}
use Rattle.c65_asm.proofs.OperandLaws.{place_lacks}
use Rattle.c65_asm.proofs.FeedLaws.{feed, ends, Reads, reads_none, reads_both, reads_line, reads_to}
use Rattle.c65_asm.proofs.NumberLaws.{Grows, grows_on, grows_cells, grows_datums, renamed_now}
use Rattle.c65_asm.proofs.FunctionLaws.{at_top, begun_so, fresh}

-- lines of bytes

abbrev AreBytes : List ℕ → Type 0
AreBytes vs = (k v : ℕ) → slice_get vs k ≡ Some v → v < 256

-- bytes with commas between them
abbrev listed : ℕ → List ℕ → List ℕ
listed v [] = byte_text v
listed v (w ∷ vs) = byte_text v ++ 44 ∷ listed w vs

-- the line that is begun
abbrev begun_line : List ℕ → List ℕ
begun_line [] = []
begun_line (v ∷ vs) = codes ".byte " ++ listed v vs

listed_push : (v : ℕ) (vs : List ℕ) (w : ℕ) → listed v (vs ++ w ∷ []) ≡ listed v vs ++ (44 ∷ byte_text w)
listed_push v [] w = refl
listed_push v (x ∷ vs) w = ap (λ t. byte_text v ++ 44 ∷ t) (listed_push x vs w)

listed_read : (v : ℕ) (vs : List ℕ) → AreBytes (v ∷ vs) → bytes_in (listed v vs) ≡ Some (v ∷ vs)
listed_read v [] h = ap (λ (o : Option ℕ). option_map (λ v. v ∷ []) o) (byte_read v (h 0 v refl))
listed_read v (w ∷ vs) h =
    ap (λ (o : Option ℕ). and_read o (λ v. option_map (λ vs. v ∷ vs) (bytes_in (listed w vs)))) (byte_read v (h 0 v refl))
    ∙ ap (λ (o : Option (List ℕ)). option_map (λ vs. v ∷ vs) o) (listed_read w vs (λ k x e. h (suc k) x e))

listed_lacks : (v : ℕ) (vs : List ℕ) → AreBytes (v ∷ vs) → lacks 10 (listed v vs) ≡ true
listed_lacks v [] h = byte_lacks 10 v refl refl (h 0 v refl)
listed_lacks v (w ∷ vs) h = lacks-append 10 (byte_text v) (44 ∷ listed w vs) (byte_lacks 10 v refl refl (h 0 v refl)) (listed_lacks w vs (λ k x e. h (suc k) x e))

bytes_push : (vs : List ℕ) (w : ℕ) → AreBytes vs → w < 256 → AreBytes (vs ++ w ∷ [])
bytes_push [] w h g zero v e = subst (λ n. n < 256) (some_is w v e) g
  where
    some_is : (a b : ℕ) → Some a ≡ Some b → a ≡ b
    some_is a b h = cc
bytes_push [] w h g (suc k) v e = absurd cc
bytes_push (x ∷ vs) w h g zero v e = h 0 v e
bytes_push (x ∷ vs) w h g (suc k) v e = bytes_push vs w (λ k v e. h (suc k) v e) g k v e

-- states in data

abbrev holding : Sym → DatumKind → List DataCell → Bool → OpenedDatum
holding own kind cells has_room = record { sym = own; kind = kind; cells = cells; has_room = has_room }

abbrev in_datum : Reading → List (List ℕ) → OpenedDatum → Reading
in_datum r names d = record r { names = names; opened = opens.Datum d }

abbrev as_cells : List ℕ → List DataCell
as_cells vs = map (λ v. Byte v) vs

-- a line of 1 to 16 bytes
bytes_step : (r : Reading) (names : List (List ℕ)) (own : Sym) (kind : DatumKind) (cells : List DataCell) (v : ℕ) (vs : List ℕ) → AreBytes (v ∷ vs) → length (v ∷ vs) ≤ 16 → step (in_datum r names (holding own kind cells false)) (begun_line (v ∷ vs)) ≡ Some (in_datum r names (holding own kind (cells ++ as_cells (v ∷ vs)) (nat_lt (length (v ∷ vs)) 16)))
bytes_step r names own kind cells v vs h most =
    let s = in_datum r names (holding own kind cells false) in
    let d = holding own kind cells false in
    let e = holding own kind (cells ++ as_cells (v ∷ vs)) (nat_lt (length (v ∷ vs)) 16) in
    ap (λ (o : Option (List ℕ)). option_map (opened_datum s) (and_read o (with_values d))) (listed_read v vs h)
    ∙ ap (λ t. option_map (opened_datum s) (if t then None else Some e)) (le-ltb 16 (length (v ∷ vs)) most)

address_step : (symbols : List Symbol) (final : List (List ℕ)) (r : Reading) (names : List (List ℕ)) (own : Sym) (kind : DatumKind) (cells : List DataCell) (room : Bool) (sym : Sym) (offset : ℕ) → IsSpelling (sym_text symbols sym) → offset < 65536 → Grows (naming symbols sym names) final → step (in_datum r names (holding own kind cells room)) (codes ".addr " ++ place_text symbols sym offset) ≡ Some (in_datum r (naming symbols sym names) (holding own kind (cells ++ Address (renamed symbols final sym) offset ∷ []) false))
address_step symbols final r names own kind cells room sym offset s h g =
    let state = in_datum r names (holding own kind cells room) in
    ap (λ (o : Option (List ℕ × ℕ)). and_read (option_map (λ (p : List ℕ × ℕ). told.Address p.0 p.1) o) (step_in state (opens.Datum (holding own kind cells room)))) (place_read (sym_text symbols sym) offset s h)
    ∙ ap (λ (y : Sym). Some (in_datum r (naming symbols sym names) (holding own kind (cells ++ Address y offset ∷ []) false))) (renamed_now symbols sym names final g)

-- a cell that may be written
abbrev pub IsWellCell : List Symbol → DataCell → Type 0
IsWellCell symbols (Byte v) = v < 256
IsWellCell symbols (Address sym offset) = IsSpelling (sym_text symbols sym) × (offset < 65536)

abbrev pub AreWellCells : List Symbol → List DataCell → Type 0
AreWellCells symbols cells = (k : ℕ) (cell : DataCell) → slice_get cells k ≡ Some cell → IsWellCell symbols cell

-- reading goes on from a line that is begun
abbrev Goes : Reading → List ℕ → List ℕ → Reading → Type 0
Goes r begun text s = (n : ℕ) (rest : List ℕ) → (m : ℕ) × (lines_in r n begun (text ++ rest) ≡ lines_in s m [] rest)

-- some bytes are begun, and the line ends
some_end : (count : ℕ) (rest : List ℕ) → (count ≡ 0 → ⊥) → line_end count ++ rest ≡ 10 ∷ rest
some_end count rest h = ap (λ t. (if t then [] else codes "\n") ++ rest) (ne_eqb count 0 h)

flushed : (r : Reading) (names : List (List ℕ)) (own : Sym) (kind : DatumKind) (cells : List DataCell) (vs : List ℕ) → AreBytes vs → length vs ≤ 16 → (room : Bool) × Goes (in_datum r names (holding own kind cells false)) (begun_line vs) (line_end (length vs)) (in_datum r names (holding own kind (cells ++ as_cells vs) room))
flushed r names own kind cells [] h most =
    (false, λ n rest. (n, ap (λ cs. lines_in (in_datum r names (holding own kind cs false)) n [] rest) (sym (append-nil cells))))
flushed r names own kind cells (v ∷ vs) h most =
    let a = in_datum r names (holding own kind cells false) in
    let b = in_datum r names (holding own kind (cells ++ as_cells (v ∷ vs)) (nat_lt (length (v ∷ vs)) 16)) in
    (nat_lt (length (v ∷ vs)) 16, λ n rest. (next_number n, ap (lines_in a n (begun_line (v ∷ vs))) (some_end (length (v ∷ vs)) rest (λ e. omega arith)) ∙ ends a b n (begun_line (v ∷ vs)) rest (bytes_step r names own kind cells v vs h most)))

-- the line begun with one byte more
comma_so : (count : ℕ) → (count ≡ 0 → ⊥) → (count ≡ 16 → ⊥) → byte_start count ≡ codes ","
comma_so count h g =
    ap (λ t. if t then codes ".byte " else if count == 16 then codes "\n.byte " else codes ",") (ne_eqb count 0 h)
    ∙ ap (λ t. if t then codes "\n.byte " else codes ",") (ne_eqb count 16 g)

started : (r : Reading) (n : ℕ) (vs : List ℕ) (w : ℕ) (rest : List ℕ) → AreBytes vs → w < 256 → length vs < 16 → lines_in r n (begun_line vs) ((byte_start (length vs) ++ byte_text w) ++ rest) ≡ lines_in r n (begun_line (vs ++ w ∷ [])) rest
started r n [] w rest h g less = feed r n [] (codes ".byte " ++ byte_text w) rest (byte_lacks 10 w refl refl g)
started r n (v ∷ vs) w rest h g less =
    ap (λ t. lines_in r n (begun_line (v ∷ vs)) ((t ++ byte_text w) ++ rest)) (comma_so (length (v ∷ vs)) (λ e. omega arith) (λ e. omega arith))
    ∙ feed r n (begun_line (v ∷ vs)) (codes "," ++ byte_text w) rest (byte_lacks 10 w refl refl g)
    ∙ ap (λ t. lines_in r n t rest) (append_assoc (codes ".byte ") (listed v vs) (44 ∷ byte_text w) ∙ ap (λ t. codes ".byte " ++ t) (sym (listed_push v vs w)))

length_next : (vs : List ℕ) (w : ℕ) → length vs < 16 → opened (length vs) (Byte w) ≡ length (vs ++ w ∷ [])
length_next vs w less = ap (λ t. if t then 1 else length vs + 1) (ne_eqb (length vs) 16 (λ e. omega arith)) ∙ sym (length_push vs w)

last_cells : (cells : List DataCell) (vs : List ℕ) (w : ℕ) (more : List DataCell) → (cells ++ as_cells (vs ++ w ∷ [])) ++ more ≡ (cells ++ as_cells vs) ++ Byte w ∷ more
last_cells cells vs w more =
    ap (λ t. (cells ++ t) ++ more) (map_push (λ v. Byte v) vs w)
    ∙ ap (λ t. t ++ more) (sym (append_assoc cells (as_cells vs) (Byte w ∷ [])))
    ∙ append_assoc (cells ++ as_cells vs) (Byte w ∷ []) more

goes_to : (r s t : Reading) (begun text : List ℕ) → s ≡ t → Goes r begun text s → Goes r begun text t
goes_to r s t begun text e h n rest = let p = h n rest in (p.0, p.1 ∙ ap (λ u. lines_in u p.0 [] rest) e)

-- cells go on from a line that is begun with some bytes
abbrev pub GoOn : List Symbol → List (List ℕ) → Reading → Sym → DatumKind → List DataCell → List (List ℕ) → List DataCell → List ℕ → Type 0
GoOn symbols final r own kind rest names cells vs = (room : Bool) × Goes (in_datum r names (holding own kind cells false)) (begun_line vs) (cells_text symbols (length vs) rest) (in_datum r (naming_cells symbols rest names) (holding own kind ((cells ++ as_cells vs) ++ map (renamed_cell symbols final) rest) room))

-- a byte goes to the line
byte_in_line : (symbols : List Symbol) (final : List (List ℕ)) (r : Reading) (own : Sym) (kind : DatumKind) (rest : List DataCell) (names : List (List ℕ)) (cells : List DataCell) (vs : List ℕ) (v : ℕ) → AreBytes vs → v < 256 → length vs < 16 → GoOn symbols final r own kind rest names cells (vs ++ v ∷ []) → GoOn symbols final r own kind (Byte v ∷ rest) names cells vs
byte_in_line symbols final r own kind rest names cells vs v h well less q =
    let a = in_datum r names (holding own kind cells false) in
    let text = cells_text symbols (opened (length vs) (Byte v)) rest in (
      q.0,
      λ n more.
          let z = q.1 n more in (
            z.0,
            ap (lines_in a n (begun_line vs)) (append_assoc (byte_start (length vs) ++ byte_text v) text more)
                ∙ started a n vs v (text ++ more) h well less
                ∙ ap (λ k. lines_in a n (begun_line (vs ++ v ∷ [])) (cells_text symbols k rest ++ more)) (length_next vs v less)
                ∙ z.1
                ∙ ap (λ cs. lines_in (in_datum r (naming_cells symbols rest names) (holding own kind cs q.0)) z.0 [] more) (last_cells cells vs v (map (renamed_cell symbols final) rest)),
          ),
    )

full_step : (r : Reading) (names : List (List ℕ)) (own : Sym) (kind : DatumKind) (cells : List DataCell) (vs : List ℕ) → AreBytes vs → length vs ≡ 16 → step (in_datum r names (holding own kind cells false)) (begun_line vs) ≡ Some (in_datum r names (holding own kind (cells ++ as_cells vs) false))
full_step r names own kind cells [] h e = absurd (omega arith)
full_step r names own kind cells (x ∷ vs) h e = bytes_step r names own kind cells x vs h (omega arith) ∙ ap (λ t. Some (in_datum r names (holding own kind (cells ++ as_cells (x ∷ vs)) t))) (le-ltb (length (x ∷ vs)) 16 (omega arith))

-- the line is full, and a byte begins the next one
byte_on_next : (symbols : List Symbol) (final : List (List ℕ)) (r : Reading) (own : Sym) (kind : DatumKind) (rest : List DataCell) (names : List (List ℕ)) (cells : List DataCell) (vs : List ℕ) (v : ℕ) → AreBytes vs → v < 256 → length vs ≡ 16 → GoOn symbols final r own kind rest names (cells ++ as_cells vs) (v ∷ []) → GoOn symbols final r own kind (Byte v ∷ rest) names cells vs
byte_on_next symbols final r own kind rest names cells vs v h well sixteen q =
    let a = in_datum r names (holding own kind cells false) in
    let now = cells ++ as_cells vs in
    let b = in_datum r names (holding own kind now false) in
    let text = cells_text symbols 1 rest in (
      q.0,
      λ n more.
          let z = q.1 (next_number n) more in (
            z.0,
            ap (λ k. lines_in a n (begun_line vs) ((((if k == 0 then codes ".byte " else if k == 16 then codes "\n.byte " else codes ",") ++ byte_text v) ++ cells_text symbols (if k == 16 then 1 else k + 1) rest) ++ more)) sixteen
                ∙ ends a b n (begun_line vs) (((codes ".byte " ++ byte_text v) ++ text) ++ more) (full_step r names own kind cells vs h sixteen)
                ∙ ap (lines_in b (next_number n) []) (append_assoc (codes ".byte " ++ byte_text v) text more)
                ∙ feed b (next_number n) [] (codes ".byte " ++ byte_text v) (text ++ more) (byte_lacks 10 v refl refl well)
                ∙ z.1
                ∙ ap (λ cs. lines_in (in_datum r (naming_cells symbols rest names) (holding own kind cs q.0)) z.0 [] more) (append_assoc now (Byte v ∷ []) (map (renamed_cell symbols final) rest)),
          ),
    )

pub cells_go : (symbols : List Symbol) (final : List (List ℕ)) (r : Reading) (own : Sym) (kind : DatumKind) (rest : List DataCell) (names : List (List ℕ)) (cells : List DataCell) (vs : List ℕ) → AreBytes vs → length vs ≤ 16 → AreWellCells symbols rest → Grows (naming_cells symbols rest names) final → GoOn symbols final r own kind rest names cells vs
cells_go symbols final r own kind [] names cells vs h most w g =
    let p = flushed r names own kind cells vs h most in
    (p.0, goes_to _ _ _ (begun_line vs) (line_end (length vs)) (ap (λ cs. in_datum r names (holding own kind cs p.0)) (sym (append-nil (cells ++ as_cells vs)))) p.1)
cells_go symbols final r own kind (Address sym offset ∷ rest) names cells vs h most w g =
    let next = naming symbols sym names in
    let well = w 0 (Address sym offset) refl in
    let p = flushed r names own kind cells vs h most in
    let now = (cells ++ as_cells vs) ++ Address (renamed symbols final sym) offset ∷ [] in
    let q = cells_go symbols final r own kind rest next now [] (λ k v e. absurd cc) (omega arith) (λ k c e. w (suc k) c e) g in
    let body = codes ".addr " ++ place_text symbols sym offset in
    let a = in_datum r names (holding own kind cells false) in
    let b = in_datum r names (holding own kind (cells ++ as_cells vs) p.0) in
    let c = in_datum r next (holding own kind now false) in
    let d = in_datum r (naming_cells symbols rest next) (holding own kind ((now ++ []) ++ map (renamed_cell symbols final) rest) q.0) in
    let e = in_datum r (naming_cells symbols rest next) (holding own kind ((cells ++ as_cells vs) ++ Address (renamed symbols final sym) offset ∷ map (renamed_cell symbols final) rest) q.0) in
    let one : Reads b (body ++ 10 ∷ []) c = reads_line b c body (place_lacks 10 (sym_text symbols sym) offset refl refl well.0 well.1) (address_step symbols final r names own kind (cells ++ as_cells vs) p.0 sym offset well.0 well.1 (grows_on next (naming_cells symbols rest next) final (grows_cells symbols rest next) g)) in
    let same : d ≡ e = ap (λ cs. in_datum r (naming_cells symbols rest next) (holding own kind (cs ++ map (renamed_cell symbols final) rest) q.0)) (append-nil now) ∙ ap (λ cs. in_datum r (naming_cells symbols rest next) (holding own kind cs q.0)) (append_assoc (cells ++ as_cells vs) (Address (renamed symbols final sym) offset ∷ []) (map (renamed_cell symbols final) rest)) in
    let text = cells_text symbols 0 rest in (
      q.0,
      λ n more.
          let x = p.1 n ((body ++ 10 ∷ []) ++ (text ++ more)) in
          let y = one x.0 (text ++ more) in
          let z = q.1 y.0 more in (
            z.0,
            ap (lines_in a n (begun_line vs)) (whole (line_end (length vs)) body text more)
                ∙ x.1 ∙ y.1 ∙ z.1 ∙ ap (λ u. lines_in u z.0 [] more) same,
          ),
    )
  where
    whole : (end body text more : List ℕ) → (((end ++ codes ".addr ") ++ place_text symbols sym offset) ++ codes "\n" ++ text) ++ more ≡ end ++ (((codes ".addr " ++ place_text symbols sym offset) ++ 10 ∷ []) ++ (text ++ more))
    whole end body text more =
        let l = codes ".addr " in
        let q = place_text symbols sym offset in
        append_assoc (((end ++ l) ++ q) ++ codes "\n") text more
        ∙ ap (λ t. (t ++ codes "\n") ++ (text ++ more)) (append_assoc end l q)
        ∙ ap (λ t. t ++ (text ++ more)) (append_assoc end (l ++ q) (codes "\n"))
        ∙ append_assoc end ((l ++ q) ++ codes "\n") (text ++ more)
cells_go symbols final r own kind (Byte v ∷ rest) names cells vs h most w g =
    by_room (cases_lt (length vs) 16)
    (λ less. cells_go symbols final r own kind rest names cells (vs ++ v ∷ []) (bytes_push vs v h (w 0 (Byte v) refl)) (omega (arith, length_push vs v)) (λ k c e. w (suc k) c e) g)
    (cells_go symbols final r own kind rest names (cells ++ as_cells vs) (v ∷ []) (bytes_push [] v (λ k v e. absurd cc) (w 0 (Byte v) refl)) (omega arith) (λ k c e. w (suc k) c e) g)
  where
    by_room : (length vs < 16) ⊎ (16 ≤ length vs) → (length vs < 16 → GoOn symbols final r own kind rest names cells (vs ++ v ∷ [])) → GoOn symbols final r own kind rest names (cells ++ as_cells vs) (v ∷ []) → GoOn symbols final r own kind (Byte v ∷ rest) names cells vs
    by_room (inl less) in_line on_next = byte_in_line symbols final r own kind rest names cells vs v h (w 0 (Byte v) refl) less (in_line less)
    by_room (inr full) in_line on_next = byte_on_next symbols final r own kind rest names cells vs v h (w 0 (Byte v) refl) (omega arith) on_next

-- data

pub record IsWellDatum (symbols : List Symbol) (d : Datum) : Type 0 where
  pub own : IsSpelling (sym_text symbols d.sym)
  pub cells : AreWellCells symbols d.cells
  pub zeros : d.zeros < 4294967296

-- zero data have no cells, and other data have some and no zeros
abbrev pub IsShapedSo : DatumKind → List DataCell → ℕ → Type 0
IsShapedSo Zero cells blank = cells ≡ []
IsShapedSo _ cells blank = (1 ≤ length cells) × (blank ≡ 0)

abbrev datum_head : List Symbol → List ℕ → Sym → List ℕ
datum_head symbols word own = word ++ sym_text symbols own

head_lacks : (symbols : List Symbol) (own : Sym) (word : List ℕ) → lacks 10 word ≡ true → IsSpelling (sym_text symbols own) → lacks 10 (word ++ sym_text symbols own) ≡ true
head_lacks symbols own word h s = lacks-append 10 word (sym_text symbols own) h (word_lacks 10 (sym_text symbols own) refl (spelling_word (sym_text symbols own) s))

-- where data may come
abbrev pub MayBegin : Open → Type 0
MayBegin opens.Functions = Unit {0}
MayBegin opens.Data = Unit {0}
MayBegin _ = ⊥

begin_so : (symbols : List Symbol) (names : List (List ℕ)) (bodies : List ℕ) (fs : List (Sym × Segment)) (ds : List Datum) (args : Bool) (opened : Open) → MayBegin opened → (kind : DatumKind) (symbol : List ℕ) → step_in (at_top names bodies fs ds args opened) opened (told.Datum kind symbol) ≡ begin_data (at_top names bodies fs ds args opened) kind symbol
begin_so symbols names bodies fs ds args opens.Functions m kind symbol = refl
begin_so symbols names bodies fs ds args opens.Data m kind symbol = refl
begin_so symbols names bodies fs ds args opens.Start m kind symbol = absurd m
begin_so symbols names bodies fs ds args (opens.Function f) m kind symbol = absurd m
begin_so symbols names bodies fs ds args (opens.Datum d) m kind symbol = absurd m

zeros_so : (names : List (List ℕ)) (bodies : List ℕ) (fs : List (Sym × Segment)) (ds : List Datum) (args : Bool) (opened : Open) → MayBegin opened → (symbol : List ℕ) (count : ℕ) → step_in (at_top names bodies fs ds args opened) opened (told.Zeros symbol count) ≡ put_zeros (at_top names bodies fs ds args opened) symbol count
zeros_so names bodies fs ds args opens.Functions m symbol count = refl
zeros_so names bodies fs ds args opens.Data m symbol count = refl
zeros_so names bodies fs ds args opens.Start m symbol count = absurd m
zeros_so names bodies fs ds args (opens.Function f) m symbol count = absurd m
zeros_so names bodies fs ds args (opens.Datum d) m symbol count = absurd m

-- what stands behind the first line of data
body_reads : (symbols : List Symbol) (final : List (List ℕ)) (bodies : List ℕ) (fs : List (Sym × Segment)) (ds : List Datum) (args : Bool) (opened : Open) (word : List ℕ) (kind : DatumKind) (d : Datum) → lacks 10 word ≡ true → IsWellDatum symbols d → 1 ≤ length d.cells → ((symbol : List ℕ) → is_symbol symbol ≡ true → row_in (word ++ symbol) ≡ Some (told.Datum kind symbol)) → MayBegin opened → (names : List (List ℕ)) → is_among bodies (renamed symbols final d.sym).0 ≡ false → Grows (naming_datum symbols d names) final → Reads (at_top names bodies fs ds args opened) (word ++ sym_text symbols d.sym ++ codes "\n" ++ cells_text symbols 0 d.cells ++ codes ".end\n") (at_top (naming_datum symbols d names) (bodies ++ (renamed symbols final d.sym).0 ∷ []) fs (ds ++ record { sym = renamed symbols final d.sym; kind = kind; cells = map (renamed_cell symbols final) d.cells; zeros = 0 } ∷ []) args opens.Data)
body_reads symbols final bodies fs ds args opened word kind d lack w some heads may names free g =
    let own = renamed symbols final d.sym in
    let r = at_top names bodies fs ds args opened in
    let named = naming symbols d.sym names in
    let head = word ++ sym_text symbols d.sym in
    let base = at_top named (bodies ++ own.0 ∷ []) fs ds args opened in
    let s = in_datum base named (holding own kind [] false) in
    let last = naming_datum symbols d names in
    let mapped = map (renamed_cell symbols final) d.cells in
    let made : Datum = record { sym = own; kind = kind; cells = mapped; zeros = 0 } in
    let u = at_top last (bodies ++ own.0 ∷ []) fs (ds ++ made ∷ []) args opens.Data in
    let now : renamed symbols named d.sym ≡ own = renamed_now symbols d.sym names final (grows_on named last final (grows_cells symbols d.cells named) g) in
    let first : step r head ≡ Some s =
    ap (λ (o : Option Told). and_read o (step_in r opened)) (heads (sym_text symbols d.sym) (symbol_is (sym_text symbols d.sym) w.own))
    ∙ begin_so symbols names bodies fs ds args opened may kind (sym_text symbols d.sym)
    ∙ ap (λ (y : Sym). begun (at_top named bodies fs ds args opened) y (new_datum kind y)) now
    ∙ begun_so (at_top named bodies fs ds args opened) own.0 own (new_datum kind own) refl free in
    let p = cells_go symbols final base own kind d.cells named [] [] (λ k v e. absurd cc) (omega arith) w.cells g in
    let t = in_datum base last (holding own kind mapped p.0) in
    let end : step t (codes ".end") ≡ Some u = ap (λ b. option_map (with_datum t) (if b then None else Some made)) (ne_eqb (length mapped) 0 (λ e. omega (arith, length-map d.cells (renamed_cell symbols final)))) in
    reads_both r t u (head ++ codes "\n" ++ cells_text symbols 0 d.cells) (codes ".end\n")
    (reads_both r s t (head ++ codes "\n") (cells_text symbols 0 d.cells) (reads_line r s head (head_lacks symbols d.sym word lack w.own) first) p.1)
    (reads_line t u (codes ".end") refl end)

zeros_read : (symbols : List Symbol) (own : Sym) (count : ℕ) → IsSpelling (sym_text symbols own) → count < 4294967296 → row_in (codes ".zero " ++ sym_text symbols own ++ codes "," ++ decimal count) ≡ Some (told.Zeros (sym_text symbols own) count)
zeros_read symbols own count s h =
    let symbol = sym_text symbols own in
    ap zeros_in (append_assoc symbol (codes ",") (decimal count))
    ∙ ap (λ (o : Option (List ℕ × List ℕ)). and_read o zeros_by) (cut_there 44 symbol (decimal count) (word_lacks 44 symbol refl (spelling_word symbol s)))
    ∙ ap (λ (o : Option ℕ). and_read o (λ count. if is_symbol symbol then Some (told.Zeros symbol count) else None)) (number_read count h)
    ∙ ap (λ t. if t then Some (told.Zeros symbol count) else None) (symbol_is symbol s)

zeros_reads : (symbols : List Symbol) (final names : List (List ℕ)) (bodies : List ℕ) (fs : List (Sym × Segment)) (ds : List Datum) (args : Bool) (opened : Open) → MayBegin opened → (own : Sym) (count : ℕ) → IsSpelling (sym_text symbols own) → count < 4294967296 → is_among bodies (renamed symbols final own).0 ≡ false → Grows (naming symbols own names) final → Reads (at_top names bodies fs ds args opened) (codes ".zero " ++ sym_text symbols own ++ codes "," ++ decimal count ++ codes "\n") (at_top (naming symbols own names) (bodies ++ (renamed symbols final own).0 ∷ []) fs (ds ++ zero_datum (renamed symbols final own) count ∷ []) args opens.Data)
zeros_reads symbols final names bodies fs ds args opened may sym count w h free g =
    let own = renamed symbols final sym in
    let r = at_top names bodies fs ds args opened in
    let named = naming symbols sym names in
    let symbol = sym_text symbols sym in
    let body = codes ".zero " ++ symbol ++ codes "," ++ decimal count in
    let base = at_top named bodies fs ds args opened in
    let u = at_top named (bodies ++ own.0 ∷ []) fs (ds ++ zero_datum own count ∷ []) args opens.Data in
    let one : step r body ≡ Some u =
    ap (λ (o : Option Told). and_read o (step_in r opened)) (zeros_read symbols sym count w h)
    ∙ zeros_so names bodies fs ds args opened may symbol count
    ∙ ap (λ (y : Sym). option_map (λ s. with_datum s (zero_datum y count)) (begun base y opens.Data)) (renamed_now symbols sym names final g)
    ∙ ap (λ (o : Option Reading). option_map (λ s. with_datum s (zero_datum own count)) o) (begun_so base own.0 own opens.Data refl free) in
    reads_line r u body (lacks-append 10 (symbol ++ codes ",") (decimal count) (lacks-append 10 symbol (codes ",") (word_lacks 10 symbol refl (spelling_word symbol w)) refl) (word_lacks 10 (decimal count) refl (decimal_word count h))) one

-- one datum, and data

shaped_so : (own : Sym) (kind : DatumKind) (cells : List DataCell) (d : Datum) → d.kind ≡ kind → d.zeros ≡ 0 → (let made : Datum = record { sym = own; kind = kind; cells = cells; zeros = 0 } in made) ≡ record { sym = own; kind = d.kind; cells = cells; zeros = d.zeros }
shaped_so own kind cells d k z =
    ap (λ (x : DatumKind). let made : Datum = record { sym = own; kind = x; cells = cells; zeros = 0 } in made) (sym k)
    ∙ ap (λ (n : ℕ). let made : Datum = record { sym = own; kind = d.kind; cells = cells; zeros = n } in made) (sym z)

pub datum_reads : (symbols : List Symbol) (final names : List (List ℕ)) (bodies : List ℕ) (fs : List (Sym × Segment)) (ds : List Datum) (args : Bool) (opened : Open) → MayBegin opened → (d : Datum) (kind : DatumKind) → d.kind ≡ kind → IsShapedSo kind d.cells d.zeros → IsWellDatum symbols d → is_among bodies (renamed symbols final d.sym).0 ≡ false → Grows (naming_datum symbols d names) final → Reads (at_top names bodies fs ds args opened) (datum_by symbols kind d) (at_top (naming_datum symbols d names) (bodies ++ (renamed symbols final d.sym).0 ∷ []) fs (ds ++ renamed_datum symbols final d ∷ []) args opens.Data)
datum_reads symbols final names bodies fs ds args opened may d Data k shape w free g =
    let own = renamed symbols final d.sym in
    reads_to _ _ _ (datum_by symbols Data d) (ap (λ (x : Datum). at_top (naming_datum symbols d names) (bodies ++ own.0 ∷ []) fs (ds ++ x ∷ []) args opens.Data) (shaped_so own Data (map (renamed_cell symbols final) d.cells) d k shape.1))
    (body_reads symbols final bodies fs ds args opened (codes ".data ") Data d refl w shape.0 (λ symbol h. ap (λ t. if t then Some (told.Datum Data symbol) else None) h) may names free g)
datum_reads symbols final names bodies fs ds args opened may d Const k shape w free g =
    let own = renamed symbols final d.sym in
    reads_to _ _ _ (datum_by symbols Const d) (ap (λ (x : Datum). at_top (naming_datum symbols d names) (bodies ++ own.0 ∷ []) fs (ds ++ x ∷ []) args opens.Data) (shaped_so own Const (map (renamed_cell symbols final) d.cells) d k shape.1))
    (body_reads symbols final bodies fs ds args opened (codes ".const ") Const d refl w shape.0 (λ symbol h. ap (λ t. if t then Some (told.Datum Const symbol) else None) h) may names free g)
datum_reads symbols final names bodies fs ds args opened may d Zero k shape w free g =
    let own = renamed symbols final d.sym in
    let named = naming symbols d.sym names in
    let same : naming_datum symbols d names ≡ named = ap (λ cs. naming_cells symbols cs named) shape in
    let made : zero_datum own d.zeros ≡ renamed_datum symbols final d =
    ap (λ (x : DatumKind). let made : Datum = record { sym = own; kind = x; cells = []; zeros = d.zeros } in made) (sym k)
    ∙ ap (λ (cs : List DataCell). let made : Datum = record { sym = own; kind = d.kind; cells = map (renamed_cell symbols final) cs; zeros = d.zeros } in made) (sym shape) in
    reads_to _ _ _ (datum_by symbols Zero d)
    (ap (λ ns. at_top ns (bodies ++ own.0 ∷ []) fs (ds ++ zero_datum own d.zeros ∷ []) args opens.Data) (sym same) ∙ ap (λ (x : Datum). at_top (naming_datum symbols d names) (bodies ++ own.0 ∷ []) fs (ds ++ x ∷ []) args opens.Data) made)
    (zeros_reads symbols final names bodies fs ds args opened may d.sym d.zeros w.own w.zeros free (subst (λ ns. Grows ns final) same g))

abbrev pub datum_numbers : List Symbol → List (List ℕ) → List Datum → List ℕ
datum_numbers symbols final ds = map (λ d. (renamed symbols final d.sym).0) ds

not_false : (t : Bool) → not t ≡ true → t ≡ false
not_false true h = sym h
not_false false h = refl

pub datums_reads : (symbols : List Symbol) (final : List (List ℕ)) (fs : List (Sym × Segment)) (args : Bool) (rest before : List Datum) (names : List (List ℕ)) (bodies : List ℕ) (opened : Open) → MayBegin opened → ((k : ℕ) (d : Datum) → slice_get rest k ≡ Some d → IsWellDatum symbols d × IsShapedSo d.kind d.cells d.zeros) → fresh bodies (datum_numbers symbols final rest) ≡ true → Grows (naming_datums symbols rest names) final → (o : Open) × MayBegin o × Reads (at_top names bodies fs before args opened) (datums_text symbols rest) (at_top (naming_datums symbols rest names) (bodies ++ datum_numbers symbols final rest) fs (before ++ map (renamed_datum symbols final) rest) args o)
datums_reads symbols final fs args [] before names bodies opened may w free g =
    (opened, may, reads_to (at_top names bodies fs before args opened) _ _ [] (ap (λ b. at_top names b fs before args opened) (sym (append-nil bodies)) ∙ ap (λ ds. at_top names (bodies ++ []) fs ds args opened) (sym (append-nil before))) (reads_none _))
datums_reads symbols final fs args (d ∷ rest) before names bodies opened may w free g =
    let n = (renamed symbols final d.sym).0 in
    let next = naming_datum symbols d names in
    let p = and_parts (not (is_among bodies n)) (fresh (bodies ++ n ∷ []) (datum_numbers symbols final rest)) free in
    let well = w 0 d refl in
    let s = at_top names bodies fs before args opened in
    let t = at_top next (bodies ++ n ∷ []) fs (before ++ renamed_datum symbols final d ∷ []) args opens.Data in
    let one : Reads s (datum_by symbols d.kind d) t = datum_reads symbols final names bodies fs before args opened may d d.kind refl well.1 well.0 (not_false _ p.0) (grows_on next (naming_datums symbols rest next) final (grows_datums symbols rest next) g) in
    let more = datums_reads symbols final fs args rest (before ++ renamed_datum symbols final d ∷ []) next (bodies ++ n ∷ []) opens.Data tt (λ k x e. w (suc k) x e) p.1 g in
    let u = at_top (naming_datums symbols rest next) ((bodies ++ n ∷ []) ++ datum_numbers symbols final rest) fs ((before ++ renamed_datum symbols final d ∷ []) ++ map (renamed_datum symbols final) rest) args more.0 in (
      more.0,
      more.1,
      reads_to s u _ (datums_text symbols (d ∷ rest))
          (ap (λ b. at_top (naming_datums symbols rest next) b fs ((before ++ renamed_datum symbols final d ∷ []) ++ map (renamed_datum symbols final) rest) args more.0) (append_assoc bodies (n ∷ []) (datum_numbers symbols final rest))
          ∙ ap (λ ds. at_top (naming_datums symbols rest next) (bodies ++ n ∷ datum_numbers symbols final rest) fs ds args more.0) (append_assoc before (renamed_datum symbols final d ∷ []) (map (renamed_datum symbols final) rest)))
          (reads_both s t u (datum_by symbols d.kind d) (datums_text symbols rest) one more.2),
    )
