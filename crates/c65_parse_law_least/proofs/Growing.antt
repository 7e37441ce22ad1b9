-- Within a greater limit what stands still stands, and what was read is read.
use Rattle.std.proofs.Common.{◌≡◌, ℕ, ◌≤◌, List, [], ◌∷◌, length, ◌⊎◌, inl, inr, sym, ◌∙◌, arith}
use Rattle.std.specs.Prelude.{Result, Ok}
use Rattle.c65_base.specs.Answers.{Fault}
use Rattle.c65_scan.specs.declared.token.Token.{Token}
use Rattle.c65_parse_names.specs.Scopes.{Blocks}
use Rattle.c65_parse.specs.declared.frame.Change.{Change}
use Rattle.c65_parse.specs.Frames.{Frame, in_call, in_then, in_width, in_type, in_type_declarator, in_members, in_member, Held, operand, opened, sizeof_word, sizeof_opened, called, more_members, member, opened_bound, Done, Next, go, deep}
use Rattle.c65_parse.specs.Machine.{step, run}
use Rattle.c65_parse_law_depth.specs.Grows.{Grows}
use Rattle.c65_parse_law_depth.proofs.Steps.{step_grows}
use Rattle.c65_parse_law_depth.proofs.Runs.{run_grows}
use Rattle.c65_parse_law_least.proofs.Places.{Place, round, Roomy, Takes, Stands}

roomy_more : (limit more : ℕ) → limit ≤ more → (n : ℕ) (f : Frame) → Roomy limit n f → Roomy more n f
roomy_more limit more up n (in_call l f es) h = omega (arith, up, h)
roomy_more limit more up n (in_then l c) h = omega (arith, up, h)
roomy_more limit more up n (in_width part l d) h = omega (arith, up, h)
roomy_more limit more up n (in_type l purpose) h = omega (arith, up, h)
roomy_more limit more up n (in_type_declarator l purpose q) h = omega (arith, up, h)
roomy_more limit more up n (in_members body) h = omega (arith, up, h)
roomy_more limit more up n (in_member part l) h = omega (arith, up, h)
roomy_more limit more up n _ h = tt

takes_more : (limit more : ℕ) → limit ≤ more → (top p : Place) (fs : List Frame) → Takes limit top p fs → Takes more top p fs
takes_more limit more up top p [] h = h
takes_more limit more up top p (f ∷ fs) h = (h.0, roomy_more limit more up (length fs) f h.1, takes_more limit more up top (round f) fs h.2)

pub stands_more : (limit more : ℕ) → limit ≤ more → (top : Place) (fs : List Frame) (held : Held) → Stands limit top fs held → Stands more top fs held
stands_more limit more up top fs operand h = let room = h.0 in (omega (arith, up, room), takes_more limit more up top _ fs h.1)
stands_more limit more up top fs (opened l) h = let room = h.0 in (omega (arith, up, room), takes_more limit more up top _ fs h.1)
stands_more limit more up top fs (sizeof_word l) h = let room = h.0 in (omega (arith, up, room), takes_more limit more up top _ fs h.1)
stands_more limit more up top fs (sizeof_opened l m) h = let room = h.0 in (omega (arith, up, room), takes_more limit more up top _ fs h.1)
stands_more limit more up top fs (called l e) h = let room = h.0 in (omega (arith, up, room), takes_more limit more up top _ fs h.1)
stands_more limit more up top fs (more_members body) h = let room = h.0 in (omega (arith, up, room), takes_more limit more up top _ fs h.1)
stands_more limit more up top fs (member part) h = let room = h.0 in (omega (arith, up, room), takes_more limit more up top _ fs h.1)
stands_more limit more up top fs (opened_bound l d) h = let room = h.0 in (omega (arith, up, room), takes_more limit more up top _ fs h.1)
stands_more limit more up top fs _ h = takes_more limit more up top _ fs h

goes_too : (n m : Next) (gs : List Frame) (next : Held) (change : Change) → (n ≡ deep) ⊎ (n ≡ m) → n ≡ go gs next change → m ≡ go gs next change
goes_too n m gs next change (inl low) e = absurd cc
goes_too n m gs next change (inr same) e = sym same ∙ e

pub step_still : (limit more : ℕ) → limit ≤ more → (least : ℕ) (scope : Blocks) (fs gs : List Frame) (held next : Held) (change : Change) (tok : Token) → step limit least scope fs held tok ≡ go gs next change → step more least scope fs held tok ≡ go gs next change
step_still limit more up least scope fs gs held next change tok e = goes_too (step limit least scope fs held tok) (step more least scope fs held tok) gs next change (step_grows limit more up least scope fs held tok) e

answers_too : {A : Type 0} (r s : Result A Fault) (a : A) → Grows r s → r ≡ Ok a → s ≡ Ok a
answers_too r s a (inl low) e = absurd cc
answers_too r s a (inr same) e = sym same ∙ e

pub run_still : (limit more : ℕ) → limit ≤ more → (least : ℕ) (tokens : List Token) (scope : Blocks) (fs : List Frame) (held : Held) → (a : Done × List Token × Blocks) → run limit least scope fs held tokens ≡ Ok a → run more least scope fs held tokens ≡ Ok a
run_still limit more up least tokens scope fs held a e = answers_too (run limit least scope fs held tokens) (run more least scope fs held tokens) a (run_grows limit more up least tokens scope fs held) e
