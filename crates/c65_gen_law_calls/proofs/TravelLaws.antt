-- Ways through the functions of a program keep sp and what waits together.
use Rattle.std.proofs.Common.{◌≡◌, ℕ, suc, ◌+◌, ◌%◌, ◌^◌, ◌<◌, ◌≤◌, ◌==◌, inl, inr, true, Option, None, Some, List, [], ◌∷◌, length, slice_get, take, map, refl, sym, ap, subst, ◌∙◌, arith}
use Rattle.std.specs.Prelude.{All, option_map}
use Rattle.std.proofs.lemmas.List.Elements.{All-get_or}
use Rattle.std.proofs.lemmas.Option.{slice_get-map, slice_get_within, get_or_from_slice_get}
use Rattle.c65_base.specs.declared.library.Library.{Library}
use Rattle.c65_csem.specs.declared.items.Parts.{Parts}
use Rattle.c65_csem.specs.declared.items.TFunc.{TFunc}
use Rattle.c65_csem.specs.Library.{takes_more}
use Rattle.c65_csem.specs.Trees.{Typed, node, decay, func, Stmt, UnitTy, FuncTy}
use Rattle.c65_csem.specs.Typed.{IsTyped}
use Rattle.c65_csem.specs.Units.{HasBody, IsBody, IsFunc}
use Rattle.c65_csem.specs.Views.{func_of, unit_of}
use Rattle.c65_code.specs.declared.line.Callee.TheVariants as callees
use Rattle.c65_code.specs.declared.line.Line.{Line}
use Rattle.c65_code.specs.declared.line.Line.TheVariants.{Label, Do, Call}
use Rattle.c65_code.specs.declared.parts.RegSet.{RegSet}
use Rattle.c65_code.specs.declared.routine.Routine.TheVariants as routines
use Rattle.c65_code.specs.Parts.{union_of}
use Rattle.c65_code.specs.Effects.{ptr4_bytes}
use Rattle.c65_code.specs.LineState.{Place, State}
use Rattle.c65_code.specs.Placement.{Setting}
use Rattle.c65_code.specs.Rows.{row_of}
use Rattle.c65_code.specs.Moves.{settle, Enters}
use Rattle.c65_genframe.specs.Frames.{Framed}
use Rattle.c65_genframe.specs.Symbols.{numbers_of, function_symbol}
use Rattle.c65_genexpr.specs.Calls.{named, library_in, library_at}
use Rattle.c65_genentry.specs.Entry.{entry_code}
use Rattle.c65_genentry.specs.Ends.{end_code}
use Rattle.c65_genstmt.specs.Functions.{gives_of}
use Rattle.c65_gen_law_lines.specs.Stack.{bytes_in}
use Rattle.c65_gen_law_lines.proofs.Flat.{end_flat}
use Rattle.c65_gen_law_stack.specs.Heights.{height_at}
use Rattle.c65_gen_law_stack.specs.Calls.{pushed_bytes, passed_bytes}
use Rattle.c65_gen_law_stack.specs.Going.{sum_in, at_first}
use Rattle.c65_gen_law_stack.specs.Walks.{bytes_before, place_in, IsLaid}
use Rattle.c65_gen_law_stack.proofs.LineMoves.{Arrives, settles, no_labels, below_length}
use Rattle.c65_gen_law_stack.proofs.WalkLaws.{row_frames, Step, same_line, move_step, call_step}
use Rattle.c65_gen_law_calls.specs.Sites.{Site, bytes_of}
use Rattle.c65_gen_law_calls.specs.Lines.{is_calling, callings, named_line, line_by, site_at}
use Rattle.c65_gen_law_calls.specs.Found.{IsMade}
use Rattle.c65_gen_law_calls.specs.Agreement.{Agrees, LibraryAgrees, AgreesWith}
use Rattle.c65_gen_law_calls.specs.Travels.{Program, Compiled, laid, IsCompiled, IsSound, Reaches, RunsLibrary, Runs, Through, Travels, stays, moves, library, calls, TravelsKeepHeights}
use Rattle.c65_gen_law_calls.proofs.FoundLaws.{middle_level, lines_are_of_calls}
use Rattle.c65_gen_law_calls.proofs.AgreementLaws.{parts_are, agreed_bytes, library_bytes, agreed_library, library_sp}

-- ---- functions of the program

pub func_in : (u : UnitTy) (i : ℕ) (g : FuncTy) → All (IsFunc u) u.funcs → slice_get u.funcs i ≡ Some g → IsFunc u g
func_in u i g h e = subst (λ (x : FuncTy). IsFunc u x) (get_or_from_slice_get u.funcs i g g e) (All-get_or (IsFunc u) u.funcs i g (slice_get_within u.funcs i g e) h)

body_of : (s : Setting) (p : Program) (c : Compiled) → IsSound p → IsCompiled s p c → IsBody (unit_of p.parts) c.func c.body
body_of s p c sound made =
    let func : IsFunc (unit_of p.parts) c.func = func_in (unit_of p.parts) c.index c.func sound.typed.funcs made.found in
    subst (λ (b : Option Stmt). HasBody (unit_of p.parts) c.func b) made.has_body func.body

laid_of : (s : Setting) (p : Program) (c : Compiled) → IsSound p → IsCompiled s p c → IsLaid s (laid p c)
laid_of s p c sound made = record {
  parts = p.parts;
  modes = p.modes;
  func = c.func;
  framed = made.framed;
  lines = made.lines ∙ made.split;
  level = middle_level (unit_of p.parts) c.func c.body c.frame (c.index == p.main) (gives_of p.parts c.func) c.middle (body_of s p c sound made) made.few made.split;
}

-- the call of a line that calls
site_of : (s : Setting) (p : Program) (c : Compiled) (j : ℕ) (line : Line) → IsSound p → IsCompiled s p c → slice_get c.middle j ≡ Some line → is_calling line ≡ true → IsMade (unit_of p.parts) c.frame c.body c.middle j line
site_of s p c j line sound made here calling = lines_are_of_calls (unit_of p.parts) c.func c.body c.frame (c.index == p.main) (gives_of p.parts c.func) c.middle (body_of s p c sound made) made.few made.split j line here calling

-- ---- lines that call

reach_calls : (s : Setting) (line : Line) (n : ℕ) (p q : Place) (t u : State) → Reaches s line n p t q u → is_calling line ≡ true
reach_calls s (Label l) n p q t u h = absurd h
reach_calls s (Do op mode operand) n p q t u h = absurd h
reach_calls s (Call (callees.Routine r)) n p q t u h = absurd h
reach_calls s (Call (callees.Function g reads gives)) n p q t u h = refl
reach_calls s (Call (callees.Pointer reads gives)) n p q t u h = refl

run_calls : (line : Line) (l : Library) → RunsLibrary line l → is_calling line ≡ true
run_calls line l (inl e) = ap is_calling e
run_calls line l (inr e) = ap is_calling e.2

record Entered (s : Setting) (n : ℕ) (p : Place) (t : State) (q : Place) (u : State) : Type 0 where
  reads : RegSet
  gives : RegSet
  enters : Enters s n reads gives p t q u

reach_enters : (s : Setting) (line : Line) (n : ℕ) (p q : Place) (t u : State) → Reaches s line n p t q u → Entered s n p t q u
reach_enters s (Label l) n p q t u h = absurd h
reach_enters s (Do op mode operand) n p q t u h = absurd h
reach_enters s (Call (callees.Routine r)) n p q t u h = absurd h
reach_enters s (Call (callees.Function g reads gives)) n p q t u h = record { reads = reads; gives = gives; enters = h.1 }
reach_enters s (Call (callees.Pointer reads gives)) n p q t u h = record { reads = union_of reads ptr4_bytes; gives = gives; enters = h.1 }

-- ---- the function that a call names

pub map_length : {A B : Type 0} (f : A → B) (xs : List A) → length (map f xs) ≡ length xs
map_length f [] = refl
map_length f (x ∷ xs) = ap suc (map_length f xs)

named_there : (u : UnitTy) (e : Typed) (i : ℕ) → IsTyped u e → named e ≡ Some i → (g : FuncTy) × (slice_get u.funcs i ≡ Some g)
named_there u (node t (decay (node v (func k)))) i h e = let same : k ≡ i = cc in (h.0.0, ap (λ (n : ℕ). slice_get u.funcs n) (sym same) ∙ h.0.1)
named_there u (node t (decay (node v _))) i h e = absurd cc
named_there u (node t _) i h e = absurd cc

pub same_number : (a b n i j : ℕ) → a + b + n ≤ 2 ^ 32 → i < n → j < n → (a + b + i) % 2 ^ 32 ≡ (a + b + j) % 2 ^ 32 → i ≡ j
same_number a b n i j few p q e = omega (arith, few, p, q, e)

same_function : (p : Program) (i j : ℕ) (g h : FuncTy) → IsSound p → slice_get (unit_of p.parts).funcs i ≡ Some g → slice_get (unit_of p.parts).funcs j ≡ Some h
    → (function_symbol (numbers_of p.parts) i).0 ≡ (function_symbol (numbers_of p.parts) j).0 → i ≡ j
same_function p i j g h sound a b e =
    let count : length (unit_of p.parts).funcs ≡ length p.parts.funcs.items = map_length func_of p.parts.funcs.items in
    let low : i < length (unit_of p.parts).funcs = slice_get_within (unit_of p.parts).funcs i g a in
    let high : j < length (unit_of p.parts).funcs = slice_get_within (unit_of p.parts).funcs j h b in
    same_number (length p.parts.objects.items) (length p.parts.literals.items) (length p.parts.funcs.items) i j sound.few (omega (arith, count, low)) (omega (arith, count, high)) e

library_of : (parts : Parts) (i : ℕ) (h : FuncTy) (o : Option TFunc) → slice_get parts.funcs.items i ≡ o → slice_get (unit_of parts).funcs i ≡ Some h → library_in o ≡ h.library
library_of parts i h None is e = absurd (let none : slice_get (unit_of parts).funcs i ≡ None = slice_get-map func_of parts.funcs.items i ∙ ap (option_map func_of) is in cc)
library_of parts i h (Some f) is e =
    let there : Some (func_of f) ≡ Some h = sym (slice_get-map func_of parts.funcs.items i ∙ ap (option_map func_of) is) ∙ e in
    let same : func_of f ≡ h = cc in
    ap (λ (g : FuncTy). g.library) same

library_is : (s : Setting) (p : Program) (c : Compiled) (i : ℕ) (h : FuncTy) → IsCompiled s p c → slice_get (unit_of p.parts).funcs i ≡ Some h → library_at c.frame i ≡ h.library
library_is s p c i h made there = ap (λ (x : Parts). library_in (slice_get x.funcs.items i)) (parts_are p.parts p.modes c.func c.frame made.framed) ∙ library_of p.parts i h (slice_get p.parts.funcs.items i) refl there

-- ---- a call of a compiled function agrees with it

agrees_by : (u : UnitTy) (s : Site) (g : FuncTy) (l : Option Library) (b : Option Stmt) (body : Stmt) → l ≡ None → b ≡ Some body → AgreesWith u s g l b → Agrees u s g
agrees_by u s g (Some l) b body none some h = absurd cc
agrees_by u s g None None body none some h = absurd cc
agrees_by u s g None (Some x) body none some h = h

library_by : (u : UnitTy) (s : Site) (g : FuncTy) (l : Option Library) (b : Option Stmt) (k : Library) → l ≡ Some k → AgreesWith u s g l b → LibraryAgrees s k
library_by u s g None b k some h = absurd cc
library_by u s g (Some l) b k some h = let same : l ≡ k = cc in subst (λ (x : Library). LibraryAgrees s x) same h

-- the line of a call by name that reaches a function
named_reach : (s : Setting) (f : Framed) (i : ℕ) (l : Option Library) (site : Site) (n : ℕ) (p q : Place) (t u : State) → Reaches s (named_line f i l site) n p t q u → (l ≡ None) × ((function_symbol (numbers_of f.parts) i).0 ≡ n)
named_reach s f i (Some l) site n p q t u h = absurd h
named_reach s f i None site n p q t u h = (refl, h.0)

agrees_at : (s : Setting) (p : Program) (c d : Compiled) (j : ℕ) (line : Line) (n : Option ℕ) (a q : Place) (t u : State) (made : IsMade (unit_of p.parts) c.frame c.body c.middle j line) → IsSound p → IsCompiled s p c → IsCompiled s p d
    → named made.site.callee ≡ n → Reaches s line (laid p d).number a t q u → Through n (Agrees (unit_of p.parts) made.site d.func) → Agrees (unit_of p.parts) made.site d.func
agrees_at s p c d j line None a q t u made sound first second is reach asked = asked
agrees_at s p c d j line (Some i) a q t u made sound first second is reach asked =
    let there = named_there (unit_of p.parts) made.site.callee i made.typed.callee is in
    let same : line ≡ named_line c.frame i (library_at c.frame i) made.site = made.calls ∙ ap (λ (o : Option ℕ). line_by c.frame o made.site) is in
    let to = named_reach s c.frame i (library_at c.frame i) made.site (laid p d).number a q t u (subst (λ (x : Line). Reaches s x (laid p d).number a t q u) same reach) in
    let number : (function_symbol (numbers_of p.parts) i).0 ≡ (function_symbol (numbers_of p.parts) d.index).0 = ap (λ (x : Parts). (function_symbol (numbers_of x) i).0) (sym (parts_are p.parts p.modes c.func c.frame first.framed)) ∙ to.1 in
    let index : i ≡ d.index = same_function p i d.index there.0 d.func sound there.1 second.found number in
    let found : slice_get (unit_of p.parts).funcs i ≡ Some d.func = ap (λ (k : ℕ). slice_get (unit_of p.parts).funcs k) index ∙ second.found in
    let none : d.func.library ≡ None = sym (library_is s p c i d.func first found) ∙ to.0 in
    let agrees : AgreesWith (unit_of p.parts) made.site d.func d.func.library d.func.body = sound.names c.index (length (callings (take j c.middle))) i c.func d.func c.body made.site first.found first.has_body made.found is found in
    agrees_by (unit_of p.parts) made.site d.func d.func.library d.func.body d.body none second.has_body agrees

-- and one of a function of the library
abbrev library_in_line : Line → Option Library
library_in_line (Call (callees.Routine (routines.Library l))) = Some l
library_in_line _ = None

named_runs : (f : Framed) (i : ℕ) (o : Option Library) (site : Site) (l : Library) → RunsLibrary (named_line f i o site) l → (k : Library) × (o ≡ Some k) × (k ≡ l)
named_runs f i None site l (inl e) = absurd (let z : None ≡ Some l = ap library_in_line e in cc)
named_runs f i None site l (inr e) = absurd (let z = e.2 in cc)
named_runs f i (Some k) site l (inl e) = (k, refl, let z : Some k ≡ Some l = ap library_in_line e in cc)
named_runs f i (Some k) site l (inr e) = absurd (let z = e.2 in cc)

library_at_line : (s : Setting) (p : Program) (c : Compiled) (j : ℕ) (line : Line) (l : Library) (n : Option ℕ) (made : IsMade (unit_of p.parts) c.frame c.body c.middle j line) → IsSound p → IsCompiled s p c
    → named made.site.callee ≡ n → RunsLibrary line l → Through n (LibraryAgrees made.site l) → (y : ℕ) → (takes_more l ≡ true → y ≡ bytes_in (bytes_of c.frame made.site)) → bytes_in (bytes_of c.frame made.site) ≡ library_bytes l y
library_at_line s p c j line l None made sound first is runs asked y counted = agreed_library c.frame made.site l y asked counted
library_at_line s p c j line l (Some i) made sound first is runs asked y counted =
    let there = named_there (unit_of p.parts) made.site.callee i made.typed.callee is in
    let same : line ≡ named_line c.frame i (library_at c.frame i) made.site = made.calls ∙ ap (λ (o : Option ℕ). line_by c.frame o made.site) is in
    let own = named_runs c.frame i (library_at c.frame i) made.site l (subst (λ (x : Line). RunsLibrary x l) same runs) in
    let agrees : AgreesWith (unit_of p.parts) made.site there.0 there.0.library there.0.body = sound.names c.index (length (callings (take j c.middle))) i c.func there.0 c.body made.site first.found first.has_body made.found is there.1 in
    let kept : LibraryAgrees made.site own.0 = library_by (unit_of p.parts) made.site there.0 there.0.library there.0.body own.0 (sym (library_is s p c i there.0 first there.1) ∙ own.1) agrees in
    agreed_library c.frame made.site l y (subst (λ (k : Library). LibraryAgrees made.site k) own.2 kept) counted

-- ---- one step of a way

library_step : (s : Setting) (p : Program) (c : Compiled) (j k : ℕ) (t u : State) (line : Line) (l : Library) → IsSound p → IsCompiled s p c → slice_get c.middle j ≡ Some line
    → Runs s line l (place_in (laid p c) j) t (place_in (laid p c) k) u → ((site : Site) → site_at c.body c.middle j ≡ Some site → Through (named site.callee) (LibraryAgrees site l))
    → ((site : Site) → site_at c.body c.middle j ≡ Some site → takes_more l ≡ true → t.regs.y ≡ bytes_in (bytes_of c.frame site)) → Step (laid p c) j t k u
library_step s p c j k t u line l sound first here runs asked counted =
    let made : IsMade (unit_of p.parts) c.frame c.body c.middle j line = site_of s p c j line sound first here (run_calls line l runs.called) in
    let bytes : bytes_in (bytes_of c.frame made.site) ≡ library_bytes l t.regs.y = library_at_line s p c j line l (named made.site.callee) made sound first refl runs.called (asked made.site made.found) t.regs.y (counted made.site made.found) in
    let laid_there : IsLaid s (laid p c) = laid_of s p c sound first in
    let n : ℕ = length (entry_code c.frame) in
    let g : ℕ = (laid p c).number in
    let behind : suc (n + j) ≡ n + suc j = omega arith in
    let arrives : Arrives g (entry_code c.frame) c.middle (place_in (laid p c) k) (height_at (at_first c.frame c.body) c.middle (suc j)) (at_first c.frame c.body) = settles g (suc j) (s.lines g) (entry_code c.frame) c.middle (end_code c.frame) (at_first c.frame c.body) (place_in (laid p c) k) laid_there.lines (no_labels (end_code c.frame) (end_flat c.frame).plain) (below_length c.middle j line here) (runs.to ∙ ap (λ (i : ℕ). (g, settle (s.lines g) i)) behind) in
    let place : k ≡ arrives.at = same_line n g k arrives.at arrives.to in
    let after : bytes_before (laid p c) k ≡ bytes_before (laid p c) (suc j) = ap (bytes_before (laid p c)) place ∙ ap sum_in arrives.height in
    let takes : bytes_before (laid p c) j ≡ bytes_before (laid p c) (suc j) + bytes_in (bytes_of c.frame made.site) = made.takes in
    record { sp = omega (arith, library_sp l t u runs.row runs.ready runs.below, bytes, after, takes); frames = row_frames (row_of (routines.Library l) t) t u runs.row }

-- ---- ways

travel : (s : Setting) (p : Program) (c : Compiled) (j m : ℕ) (t u : State) → IsSound p → IsCompiled s p c → Travels s p c j t m u → Step (laid p c) j t m u
travel s p c j m t u sound first stays = record { sp = refl; frames = refl }
travel s p c j m t u sound first (moves {k = k} {u = v} line at own steady move rest) =
    let step : Step (laid p c) j t k v = move_step s (laid p c) j k t v line (laid_of s p c sound first) at own steady move in
    let later : Step (laid p c) k v m u = travel s p c k m v u sound first rest in
    record { sp = omega (arith, step.sp, later.sp); frames = later.frames ∙ step.frames }
travel s p c j m t u sound first (library {k = k} {u = v} line l at runs asked counted rest) =
    let step : Step (laid p c) j t k v = library_step s p c j k t v line l sound first at runs asked counted in
    let later : Step (laid p c) k v m u = travel s p c k m v u sound first rest in
    record { sp = omega (arith, step.sp, later.sp); frames = later.frames ∙ step.frames }
travel s p c j m t u sound first (calls {d = d} {k = k} {from = from} {to = to} {u = w} {v = v} {x = x} q b line second at reach asked counted entry body same number end rest) =
    let made : IsMade (unit_of p.parts) c.frame c.body c.middle j line = site_of s p c j line sound first at (reach_calls s line (laid p d).number (place_in (laid p c) j) q t b reach) in
    let agrees : Agrees (unit_of p.parts) made.site d.func = agrees_at s p c d j line (named made.site.callee) (place_in (laid p c) j) q t b made sound first second refl reach (asked made.site made.found) in
    let bytes : bytes_in (bytes_of c.frame made.site) + pushed_bytes d.frame.last ≡ passed_bytes d.frame b = agreed_bytes p.parts p.modes d.func d.frame c.frame made.site b second.framed (parts_are p.parts p.modes c.func c.frame first.framed) agrees (counted made.site made.found) in
    let before : bytes_before (laid p c) j ≡ bytes_before (laid p c) (suc j) + bytes_in (bytes_of c.frame made.site) = made.takes in
    let takes : bytes_before (laid p c) j + pushed_bytes d.frame.last ≡ bytes_before (laid p c) (suc j) + passed_bytes d.frame b = omega (arith, bytes, before) in
    let entered : Entered s (laid p d).number (place_in (laid p c) j) t q b = reach_enters s line (laid p d).number (place_in (laid p c) j) q t b reach in
    let inner : Step (laid p d) from w to v = travel s p d from to w v sound second body in
    let step : Step (laid p c) j t k x = call_step s (laid p c) (laid p d) j k entered.reads entered.gives (place_in (laid p d) from) q (place_in (laid p d) to) t b w v x (laid_of s p c sound first) (laid_of s p d sound second) (below_length c.middle j line at) takes entered.enters entry (omega (arith, inner.sp, same)) inner.frames number end in
    let later : Step (laid p c) k x m u = travel s p c k m x u sound first rest in
    record { sp = omega (arith, step.sp, later.sp); frames = later.frames ∙ step.frames }

pub travels_keep_heights : TravelsKeepHeights
travels_keep_heights s p c j m t u sound first way = let all : Step (laid p c) j t m u = travel s p c j m t u sound first way in (all.sp, all.frames)
