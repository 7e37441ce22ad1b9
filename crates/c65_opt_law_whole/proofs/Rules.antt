-- Each rule makes lines whose operands stand in the old lines, or name nothing: rules 1 to 32.
use Rattle.std.proofs.Common.{◌≡◌, ℕ, ◌+◌, ◌&&◌, ◌%◌, Bool, true, false, if◌then◌else◌, List, [], ◌∷◌, Option, Some, None, refl, subst}
use Rattle.std.specs.Prelude.{slice_get}
use Rattle.c65_mach.specs.declared.rows.Op.{Op}
use Rattle.c65_mach.specs.declared.rows.Op.TheVariants as ops
use Rattle.c65_mach.specs.declared.rows.Mode.{Mode}
use Rattle.c65_mach.specs.declared.rows.Mode.TheVariants.{Immediate, Relative}
use Rattle.c65_code.specs.declared.line.Line.{Line}
use Rattle.c65_code.specs.declared.line.Line.TheVariants.{Do}
use Rattle.c65_code.specs.declared.line.Operand.{Operand}
use Rattle.c65_code.specs.declared.line.Operand.TheVariants.{Byte, To}
use Rattle.c65_code.specs.Parts.{set_of}
use Rattle.c65_code.specs.Segments.{is_closing}
use Rattle.c65_know.specs.declared.note.Note.{Note}
use Rattle.c65_know.specs.Known.{annotated}
use Rattle.c65_live.specs.Tables.{Table, is_dead}
use Rattle.c65_pass.specs.declared.register.Register.{Register}
use Rattle.c65_pass.specs.declared.register.Register.TheVariants.{A, X, Y}
use Rattle.c65_pass.specs.declared.register.Transfer.{Transfer}
use Rattle.c65_pass.specs.ArithRules.{is_idle_carry, is_dead_carry, is_idle_compare, is_dead_compare, is_idle_mask, is_stepped_back, is_idle_sum, is_dead_arithmetic, may_join, mixed, with_byte, joined_masks, idle_compare, stepped_back, joined}
use Rattle.c65_pass.specs.FlowRules.{begins_plainly, goes_on_plainly, threaded, inverted, is_unused, is_taken, is_passed}
use Rattle.c65_pass.specs.Labels.{jump_target, branch_target, begins_with, begins_with_target}
use Rattle.c65_pass.specs.LoadRules.{has, is_idle_load, is_dead_load, is_dead_store, is_reload, is_restore, is_overwritten, is_dead_transfer, is_idle_transfer, is_back, is_idle_byte_load, is_idle_store, transfer_for, transferred, step_for, stepped, is_common_load, load_for, loaded_on, reload, restore, overwritten, back, moved_on}
use Rattle.c65_pass.specs.Registers.{is_same_register, part_of, loaded_by, load_op, transfer_by, alone}
use Rattle.c65_pass.specs.Rewriting.{Rewriting}
use Rattle.c65_opt_law_whole.proofs.Copies.{IsOfOperands, Each, Makes, by_line, gone, both_gone, one_left, instead_of, one_if, no_line, sent, inverted_by, alone_line}

module _ (P : Line → Type 0) (is : IsOfOperands P) where
  -- ---- jumps, branches and labels

  pub makes_1 : Makes P 1
  makes_1 = by_line P 1 (λ literals out lines table at w line post h hs m. gone P (begins_with_target (jump_target line) post) at w m)

  pub makes_2 : Makes P 2
  makes_2 = by_line P 2 (λ literals out lines table at w line post h hs m. gone P (begins_with_target (branch_target line) post) at w m)

  pub makes_3 : Makes P 3
  makes_3 = by_line P 3 (λ literals out lines table at w line post h hs m. one_left P (is_closing line && begins_plainly post) at line w h m)

  pub makes_4 : Makes P 4
  makes_4 = by_line P 4 (λ literals out lines table at w line post h hs m. sent P is (threaded lines (jump_target line)) at line w h m)

  pub makes_5 : Makes P 5
  makes_5 = by_line P 5 (λ literals out lines table at w line post h hs m. sent P is (threaded lines (branch_target line)) at line w h m)

  inverted_lines : (at : ℕ) (w : Rewriting) (line : Line) (post : List Line) → inverted at line post ≡ Some w → Each P w.lines
  inverted_lines at w (Do op Relative (To l)) (next ∷ post) m = inverted_by P is (begins_with l post) at op (jump_target next) w m
  inverted_lines at w _ _ m = absurd cc

  pub makes_6 : Makes P 6
  makes_6 = by_line P 6 (λ literals out lines table at w line post h hs m. inverted_lines at w line post m)

  pub makes_7 : Makes P 7
  makes_7 = by_line P 7 (λ literals out lines table at w line post h hs m. gone P (is_unused lines line) at w m)

  pub makes_8 : Makes P 8
  makes_8 = by_line P 8 (λ literals out lines table at w line post h hs m. gone P (is_passed (slice_get (annotated lines out).notes at) line) at w m)

  pub makes_9 : Makes P 9
  makes_9 = by_line P 9 (λ literals out lines table at w line post h hs m. one_left P (is_taken (slice_get (annotated lines out).notes at) line && goes_on_plainly post) at line w h m)

  -- ---- loads, stores and transfers

  pub makes_10 : Makes P 10
  makes_10 = by_line P 10 (λ literals out lines table at w line post h hs m. gone P (is_idle_load (slice_get (annotated lines out).notes at) table at line) at w m)

  pub makes_11 : Makes P 11
  makes_11 = by_line P 11 (λ literals out lines table at w line post h hs m. gone P (is_dead_load table at line) at w m)

  pub makes_12 : Makes P 12
  makes_12 = by_line P 12 (λ literals out lines table at w line post h hs m. gone P (is_dead_store table at line) at w m)

  reload_lines : (table : Table) (at : ℕ) (w : Rewriting) (line : Line) (post : List Line) → P line → reload table at line post ≡ Some w → Each P w.lines
  reload_lines table at w line [] h m = absurd cc
  reload_lines table at w line (next ∷ post) h m = one_left P (is_reload table (at + 1) line next) at line w h m

  pub makes_13 : Makes P 13
  makes_13 = by_line P 13 (λ literals out lines table at w line post h hs m. reload_lines table at w line post h m)

  restore_lines : (at : ℕ) (w : Rewriting) (line : Line) (post : List Line) → P line → restore at line post ≡ Some w → Each P w.lines
  restore_lines at w line [] h m = absurd cc
  restore_lines at w line (next ∷ post) h m = one_left P (is_restore line next) at line w h m

  pub makes_14 : Makes P 14
  makes_14 = by_line P 14 (λ literals out lines table at w line post h hs m. restore_lines at w line post h m)

  overwritten_lines : (at : ℕ) (w : Rewriting) (line : Line) (post : List Line) → Each P post → overwritten at line post ≡ Some w → Each P w.lines
  overwritten_lines at w line [] hs m = absurd cc
  overwritten_lines at w line (next ∷ post) hs m = one_left P (is_overwritten line next) at next w hs.0 m

  pub makes_15 : Makes P 15
  makes_15 = by_line P 15 (λ literals out lines table at w line post h hs m. overwritten_lines at w line post hs m)

  pub makes_16 : Makes P 16
  makes_16 = by_line P 16 (λ literals out lines table at w line post h hs m. gone P (is_dead_transfer table at line) at w m)

  pub makes_17 : Makes P 17
  makes_17 = by_line P 17 (λ literals out lines table at w line post h hs m. gone P (is_idle_transfer (slice_get (annotated lines out).notes at) table at line) at w m)

  back_lines : (at : ℕ) (w : Rewriting) (line : Line) (post : List Line) → P line → back at line post ≡ Some w → Each P w.lines
  back_lines at w line [] h m = absurd cc
  back_lines at w line (next ∷ post) h m = one_left P (is_back line next) at line w h m

  pub makes_18 : Makes P 18
  makes_18 = by_line P 18 (λ literals out lines table at w line post h hs m. back_lines at w line post h m)

  one_or_none : (b : Bool) (op : Op) (l : Line) → (if b then Some (alone op) else None) ≡ Some l → P l
  one_or_none b op l m = one_if P b (alone op) None l (alone_line P is op) (no_line P l) m

  transfer_lines : (known : Option Note) (to : Option Register) (v : ℕ) (l : Line) → transfer_for known to v ≡ Some l → P l
  transfer_lines known None v l m = absurd cc
  transfer_lines known (Some A) v l m =
      one_if P (has known (Some X) v) (alone ops.Txa) (if has known (Some Y) v then Some (alone ops.Tya) else None) l (alone_line P is ops.Txa) (one_or_none (has known (Some Y) v) ops.Tya l) m
  transfer_lines known (Some X) v l m = one_or_none (has known (Some A) v) ops.Tax l m
  transfer_lines known (Some Y) v l m = one_or_none (has known (Some A) v) ops.Tay l m

  transferred_lines : (known : Option Note) (line l : Line) → transferred known line ≡ Some l → P l
  transferred_lines known (Do op Immediate (Byte v)) l m = transfer_lines known (loaded_by op) v l m
  transferred_lines known _ l m = absurd cc

  pub makes_19 : Makes P 19
  makes_19 = by_line P 19 (λ literals out lines table at w line post h hs m.
      instead_of P 1 at (transferred (slice_get (annotated lines out).notes at) line) w (transferred_lines (slice_get (annotated lines out).notes at) line) m)

  pub makes_20 : Makes P 20
  makes_20 = by_line P 20 (λ literals out lines table at w line post h hs m. gone P (is_idle_byte_load (slice_get (annotated lines out).notes at) table at line) at w m)

  pub makes_21 : Makes P 21
  makes_21 = by_line P 21 (λ literals out lines table at w line post h hs m. gone P (is_idle_store (slice_get (annotated lines out).notes at) line) at w m)

  step_lines : (known : Option Note) (to : Option Register) (v : ℕ) (l : Line) → step_for known to v ≡ Some l → P l
  step_lines known None v l m = absurd cc
  step_lines known (Some A) v l m = absurd cc
  step_lines known (Some X) v l m =
      one_if P (has known (Some X) ((v + 255) % 256)) (alone ops.Inx) (if has known (Some X) ((v + 1) % 256) then Some (alone ops.Dex) else None) l (alone_line P is ops.Inx) (one_or_none (has known (Some X) ((v + 1) % 256)) ops.Dex l) m
  step_lines known (Some Y) v l m =
      one_if P (has known (Some Y) ((v + 255) % 256)) (alone ops.Iny) (if has known (Some Y) ((v + 1) % 256) then Some (alone ops.Dey) else None) l (alone_line P is ops.Iny) (one_or_none (has known (Some Y) ((v + 1) % 256)) ops.Dey l) m

  stepped_lines : (known : Option Note) (line l : Line) → stepped known line ≡ Some l → P l
  stepped_lines known (Do op Immediate (Byte v)) l m = step_lines known (loaded_by op) v l m
  stepped_lines known _ l m = absurd cc

  pub makes_22 : Makes P 22
  makes_22 = by_line P 22 (λ literals out lines table at w line post h hs m.
      instead_of P 1 at (stepped (slice_get (annotated lines out).notes at) line) w (stepped_lines (slice_get (annotated lines out).notes at) line) m)

  load_lines : (table : Table) (q : ℕ) (op : Op) (mode : Mode) (operand : Operand) (r : Option Register) (move : Option Transfer) (l : Line) → P (Do op mode operand)
      → load_for table q mode operand r move ≡ Some l → P l
  load_lines table q op mode operand None move l h m = absurd cc
  load_lines table q op mode operand (Some r) None l h m = absurd cc
  load_lines table q op mode operand (Some r) (Some move) l h m =
      one_if P (is_common_load mode && (is_same_register r move.from && is_dead table q (set_of (part_of r ∷ [])))) (Do (load_op move.to) mode operand) None l
      (is.moved op (load_op move.to) mode mode operand h) (no_line P l) m

  loaded_lines : (table : Table) (q : ℕ) (line next l : Line) → P line → loaded_on table q line next ≡ Some l → P l
  loaded_lines table q (Do op mode operand) (Do next there other) l h m = load_lines table q op mode operand (loaded_by op) (transfer_by next) l h m
  loaded_lines table q _ _ l h m = absurd cc

  moved_lines : (table : Table) (at : ℕ) (w : Rewriting) (line : Line) (post : List Line) → P line → moved_on table at line post ≡ Some w → Each P w.lines
  moved_lines table at w line [] h m = absurd cc
  moved_lines table at w line (next ∷ post) h m = instead_of P 2 at (loaded_on table (at + 1) line next) w (λ l e. loaded_lines table (at + 1) line next l h e) m

  pub makes_23 : Makes P 23
  makes_23 = by_line P 23 (λ literals out lines table at w line post h hs m. moved_lines table at w line post h m)

  -- ---- arithmetic, comparisons and flags

  pub makes_24 : Makes P 24
  makes_24 = by_line P 24 (λ literals out lines table at w line post h hs m. gone P (is_idle_carry (slice_get (annotated lines out).notes at) line) at w m)

  pub makes_25 : Makes P 25
  makes_25 = by_line P 25 (λ literals out lines table at w line post h hs m. gone P (is_dead_carry table at line) at w m)

  compare_lines : (table : Table) (at : ℕ) (w : Rewriting) (line : Line) (post : List Line) → P line → idle_compare table at line post ≡ Some w → Each P w.lines
  compare_lines table at w line [] h m = absurd cc
  compare_lines table at w line (next ∷ post) h m = one_left P (is_idle_compare table (at + 1) line next) at line w h m

  pub makes_26 : Makes P 26
  makes_26 = by_line P 26 (λ literals out lines table at w line post h hs m. compare_lines table at w line post h m)

  pub makes_27 : Makes P 27
  makes_27 = by_line P 27 (λ literals out lines table at w line post h hs m. gone P (is_dead_compare table at line) at w m)

  pub makes_28 : Makes P 28
  makes_28 = by_line P 28 (λ literals out lines table at w line post h hs m. gone P (is_idle_mask table at line) at w m)

  steps_lines : (table : Table) (at : ℕ) (w : Rewriting) (line : Line) (post : List Line) → stepped_back table at line post ≡ Some w → Each P w.lines
  steps_lines table at w line [] m = absurd cc
  steps_lines table at w line (next ∷ post) m = both_gone P (is_stepped_back table (at + 1) line next) at w m

  pub makes_29 : Makes P 29
  makes_29 = by_line P 29 (λ literals out lines table at w line post h hs m. steps_lines table at w line post m)

  pub makes_30 : Makes P 30
  makes_30 = by_line P 30 (λ literals out lines table at w line post h hs m. gone P (is_idle_sum (slice_get (annotated lines out).notes at) table at line) at w m)

  byte_line : (op next : Op) (v u : ℕ) (x : Option ℕ) (l : Line) → mixed next v u ≡ x → P (Do op Immediate (Byte v)) → P (Do next Immediate (Byte u)) → with_byte op x ≡ Some l → P l
  byte_line op next v u None l e h k m = absurd cc
  byte_line op next v u (Some x) l e h k m = let same : Do op Immediate (Byte x) ≡ l = cc in subst P same (is.mix op next v u x h k e)

  mask_line : (b : Bool) (op next : Op) (v u : ℕ) (l : Line) → P (Do op Immediate (Byte v)) → P (Do next Immediate (Byte u)) → (if b then with_byte op (mixed next v u) else None) ≡ Some l → P l
  mask_line true op next v u l h k m = byte_line op next v u (mixed next v u) l refl h k m
  mask_line false op next v u l h k m = absurd cc

  masks_lines : (line next l : Line) → P line → P next → joined_masks line next ≡ Some l → P l
  masks_lines (Do op Immediate (Byte v)) (Do next Immediate (Byte u)) l h k m = mask_line (may_join op next) op next v u l h k m
  masks_lines _ _ l h k m = absurd cc

  joined_lines : (at : ℕ) (w : Rewriting) (line : Line) (post : List Line) → P line → Each P post → joined at line post ≡ Some w → Each P w.lines
  joined_lines at w line [] h hs m = absurd cc
  joined_lines at w line (next ∷ post) h hs m = instead_of P 2 at (joined_masks line next) w (λ l e. masks_lines line next l h hs.0 e) m

  pub makes_31 : Makes P 31
  makes_31 = by_line P 31 (λ literals out lines table at w line post h hs m. joined_lines at w line post h hs m)

  pub makes_32 : Makes P 32
  makes_32 = by_line P 32 (λ literals out lines table at w line post h hs m. gone P (is_dead_arithmetic table at line) at w m)
