-- Bytes with commas between them, one after another.
use Rattle.std.proofs.Common.{◌≡◌, ℕ, ◌<◌, ◌≤◌, nat_lt, Bool, true, false, List, [], ◌∷◌, ◌++◌, Option, Some, None, map, option_map, length, take, drop, get_or, refl, sym, ap, ◌∙◌, arith, append_assoc}
use Rattle.std.specs.Prelude.{if◌then◌else◌}
use Rattle.std.proofs.lemmas.Bool.{eq-eqb, lt-ltb, le-ltb}
use Rattle.std.proofs.lemmas.List.{append-nil, map_push}
use Rattle.c65_code.specs.declared.code.DataCell.{DataCell}
use Rattle.c65_code.specs.declared.code.DataCell.TheVariants.{Byte}
use Rattle.c65_asm.specs.Words.{and_read, byte_in}
use Rattle.c65_asm.specs.Opened.{OpenedDatum}
use Rattle.c65_asm.specs.Reading.{bytes_in, with_values, with_bytes}
use Rattle.c65_asm.specs.Read.{PutsBytes}

-- the bytes of a text before what is left of it
abbrev pub Put : List DataCell → List DataCell → List ℕ → List ℕ → Type 0
Put initial cells text rest = (before : List ℕ) × (cells ≡ initial ++ map (λ v. Byte v) before) × (bytes_in text ≡ option_map (λ vs. before ++ vs) (bytes_in rest))

same_option : (o : Option (List ℕ)) → o ≡ option_map (λ vs. [] ++ vs) o
same_option None = refl
same_option (Some vs) = refl

pub put_none : (cells : List DataCell) (text : List ℕ) → Put cells cells text text
put_none cells text = ([], sym (append-nil cells), same_option (bytes_in text))

first_byte : (rest : List ℕ) (v : ℕ) → 3 < length rest → get_or rest 3 0 ≡ 44 → byte_in (take 3 rest) ≡ Some v → bytes_in rest ≡ option_map (λ vs. v ∷ vs) (bytes_in (drop 4 rest))
first_byte [] v l g h = absurd (omega arith)
first_byte (a ∷ []) v l g h = absurd (omega arith)
first_byte (a ∷ b ∷ []) v l g h = absurd (omega arith)
first_byte (a ∷ b ∷ c ∷ []) v l g h = absurd (omega arith)
first_byte (a ∷ b ∷ c ∷ d ∷ t) v l g h =
    ap (λ (e : Bool). if e then and_read (byte_in (a ∷ b ∷ c ∷ [])) (λ v. option_map (λ vs. v ∷ vs) (bytes_in t)) else None) (eq-eqb d 44 g)
    ∙ ap (λ (o : Option ℕ). and_read o (λ v. option_map (λ vs. v ∷ vs) (bytes_in t))) h

joined : (before : List ℕ) (v : ℕ) (o : Option (List ℕ)) → option_map (λ vs. before ++ vs) (option_map (λ vs. v ∷ vs) o) ≡ option_map (λ vs. (before ++ v ∷ []) ++ vs) o
joined before v None = refl
joined before v (Some vs) = ap Some (sym (append_assoc before (v ∷ []) vs))

pub put_more : (initial cells new : List DataCell) (text rest : List ℕ) (v : ℕ) → Put initial cells text rest → 3 < length rest → get_or rest 3 0 ≡ 44 → byte_in (take 3 rest) ≡ Some v → new ≡ cells ++ Byte v ∷ [] → Put initial new text (drop 4 rest)
put_more initial cells new text rest v (before, e, f) l g h n = (
  before ++ v ∷ [],
  n ∙ ap (λ cs. cs ++ Byte v ∷ []) e ∙ append_assoc initial (map (λ v. Byte v) before) (Byte v ∷ []) ∙ ap (λ cs. initial ++ cs) (sym (map_push (λ v. Byte v) before v)),
  f ∙ ap (λ (o : Option (List ℕ)). option_map (λ vs. before ++ vs) o) (first_byte rest v l g h) ∙ joined before v (bytes_in (drop 4 rest)),
)

-- bytes that were put

pub puts_some : (old new : List DataCell) (o : Option (List ℕ)) (b : Bool) → PutsBytes old new o b → b ≡ true → (vs : List ℕ) × (o ≡ Some vs) × (new ≡ old ++ map (λ v. Byte v) vs)
puts_some old new (Some vs) true h e = (vs, refl, h)
puts_some old new None true h e = absurd h
puts_some old new (Some vs) false h e = absurd h
puts_some old new None false h e = absurd cc

pub over : (d : OpenedDatum) (text vs : List ℕ) → d.has_room ≡ false → bytes_in text ≡ Some vs → 16 < length vs → None ≡ with_bytes d text
over d text vs r e l =
    sym (ap (λ t. if t then None else and_read (bytes_in text) (with_values d)) r
    ∙ ap (λ (o : Option (List ℕ)). and_read o (with_values d)) e
    ∙ ap (λ t. if t then None else Some (record d { cells = d.cells ++ map (λ v. Byte v) vs; has_room = nat_lt (length vs) 16 })) (lt-ltb 16 (length vs) l))

pub fits : (d : OpenedDatum) (text vs : List ℕ) (new : List DataCell) (n : ℕ) → d.has_room ≡ false → bytes_in text ≡ Some vs → n ≤ 16 → new ≡ d.cells ++ map (λ v. Byte v) vs → n ≡ length vs → Some (record d { cells = new; has_room = nat_lt n 16 }) ≡ with_bytes d text
fits d text vs new n r e l c k =
    let le : length vs ≤ 16 = omega arith in
    ap (λ (cs : List DataCell). Some (record d { cells = cs; has_room = nat_lt n 16 })) c
    ∙ ap (λ m. Some (record d { cells = d.cells ++ map (λ v. Byte v) vs; has_room = nat_lt m 16 })) k
    ∙ sym (ap (λ t. if t then None else and_read (bytes_in text) (with_values d)) r
    ∙ ap (λ (o : Option (List ℕ)). and_read o (with_values d)) e
    ∙ ap (λ t. if t then None else Some (record d { cells = d.cells ++ map (λ v. Byte v) vs; has_room = nat_lt (length vs) 16 })) (le-ltb 16 (length vs) le))
