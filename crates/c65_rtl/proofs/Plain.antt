-- What every routine leaves that takes no input, writes nothing and does not end the run.
use Rattle.std.proofs.Common.{◌≡◌, ℕ, ◌+◌, ◌*◌, ◌<◌, ◌≤◌, ◌⊎◌, Bool, true, false, IsTrue, List, [], ◌∷◌, ◌++◌, Option, Some, None, refl, sym, ap, subst, ◌∙◌}
use Rattle.std.specs.Prelude.{◌&&◌, ◌==◌, drop}
use Rattle.std.proofs.lemmas.List.{append-nil}
use Rattle.c65_code.specs.declared.parts.Part.TheVariants.{A, X, Y, Zp, N, V, Z, C}
use Rattle.c65_code.specs.Parts.{has_part}
use Rattle.c65_code.specs.LineState.{Place, Bytes, State, sp_of}
use Rattle.c65_code.specs.Rows.{Row, Gives, GivesPointers, GivesBank, written}
use Rattle.c65_code.specs.RawMachine.{called}
use Rattle.c65_rtl.proofs.Ways.{Ends, and_parts}
use Rattle.c65_rtl.proofs.Meeting.{eq_true, fits, KeptUnless, ends_by}
use Rattle.c65_rtl.proofs.SpPieces.{left}

abbrev pub is_none : {A : Type 0} → Option A → Bool
is_none None = true
is_none (Some a) = false

abbrev pub is_nil : List ℕ → Bool
is_nil [] = true
is_nil (b ∷ bs) = false

-- a row that says nothing but of sp, A, X, sreg and memory, and may change Y, the flags, and what was written of the zero page
abbrev pub is_plain : Row → List (ℕ × ℕ) → Bool
is_plain row ws =
    fits row.changes ws
    && (has_part row.changes Y && (has_part row.changes N && (has_part row.changes V && (has_part row.changes Z && (has_part row.changes C
    && (is_none row.pointers && (is_none row.bank && ((row.taken == 0) && (is_nil row.out && is_none row.ends)))))))))

none_is : {A : Type 0} (o : Option A) → IsTrue (is_none o) → o ≡ None
none_is None h = refl
none_is (Some a) h = cc

nil_is : (bs : List ℕ) → IsTrue (is_nil bs) → bs ≡ []
nil_is [] h = refl
nil_is (b ∷ bs) h = cc

-- A, X and sp, where the row keeps them
abbrev pub IsKept : Row → State → ℕ → ℕ → Bytes → Type 0
IsKept row t a x zp = KeptUnless (has_part row.changes A) t.regs.a a × KeptUnless (has_part row.changes X) t.regs.x x × KeptUnless (has_part row.changes (Zp 0)) (t.zp 0) (zp 0) × KeptUnless (has_part row.changes (Zp 1)) (t.zp 1) (zp 1)

-- A, X and sreg, where the row gives them
abbrev pub IsGiven : Row → ℕ → ℕ → Bytes → Type 0
IsGiven row a x zp = Gives row.a a × Gives row.x x × Gives row.sreg (zp 2 + 256 * zp 3)

pub ends_plain : (row : Row) (back : Place) (t : State) (a x y : ℕ) (n v z c : Bool) (zp mem : Bytes) (ws : List (ℕ × ℕ)) → IsTrue (is_plain row ws) → t.ended ≡ None → IsKept row t a x zp
    → ((i : ℕ) → 2 ≤ i → zp i ≡ written t.zp ws i) → zp 0 + 256 * zp 1 ≡ row.sp → IsGiven row a x zp
    → ((b : ℕ) → (b + row.room < sp_of t) ⊎ ((sp_of t ≤ b) ⊎ (row.settled ≤ b)) → mem b ≡ written t.mem row.writes b)
    → Ends row t (left (called back t) a x y n v z c zp mem)
ends_plain row back t a x y n v z c zp mem ws plain running kept same sp given memory =
    let p0 = and_parts _ _ plain in
    let p1 = and_parts _ _ p0.1 in
    let p2 = and_parts _ _ p1.1 in
    let p3 = and_parts _ _ p2.1 in
    let p4 = and_parts _ _ p3.1 in
    let p5 = and_parts _ _ p4.1 in
    let p6 = and_parts _ _ p5.1 in
    let p7 = and_parts _ _ p6.1 in
    let p8 = and_parts _ _ p7.1 in
    let p9 = and_parts _ _ p8.1 in
    ends_by row t (left (called back t) a x y n v z c zp mem) ws (record {
      zp = same;
      fit = p0.0;
      small = (p1.0, p2.0, p3.0, p4.0, p5.0);
      low_kept = kept.2;
      high_kept = kept.3;
      a_kept = kept.0;
      x_kept = kept.1;
      sp = sp;
      a = given.0;
      x = given.1;
      sreg = given.2;
      pointers = subst (λ (p : Option (ℕ × ℕ)). GivesPointers p zp) (sym (none_is row.pointers p6.0)) tt;
      bank = subst (λ (p : Option (List ℕ)). GivesBank p zp) (sym (none_is row.bank p7.0)) tt;
      mem = memory;
      input = sym (ap (λ (k : ℕ). drop k t.input) (eq_true row.taken 0 p8.0));
      output = sym (ap (λ (bs : List ℕ). t.output ++ bs) (nil_is row.out p9.0) ∙ append-nil t.output);
      ended = running ∙ sym (none_is row.ends p9.1);
    })
