-- What is open in the code, without where it lies in memory.
use Rattle.std.specs.Prelude.{List, map, reverse}
use Rattle.c65_tree.specs.Trees.{no_inits}
use Rattle.c65_tree.specs.View.{expr_of, decl_of, stmt_of, init_of, inits_from, maybe}
use Rattle.c65_parse_frames.specs.declared.frame.Head.{Head}
use Rattle.c65_parse_frames.specs.declared.frame.Head.TheVariants as h
use Rattle.c65_parse_frames.specs.declared.frame.Frame.{Frame}
use Rattle.c65_parse_frames.specs.declared.frame.Frame.TheVariants as f
use Rattle.c65_parse_frames.specs.declared.frame.Plugged.{Plugged}
use Rattle.c65_parse_frames.specs.declared.frame.Plugged.TheVariants as p
use Rattle.c65_parse_frames.specs.declared.frame.Begun.{Begun}
use Rattle.c65_parse_frames.specs.declared.frame.Begun.TheVariants as b
use Rattle.c65_parse_frames.specs.declared.frame.Reached.{Reached}
use Rattle.c65_parse_frames.specs.declared.frame.Reached.TheVariants as r
use Rattle.c65_parse_frames.specs.declared.list.InitList.{InitList}
use Rattle.c65_parse_frames.specs.declared.list.Listed.{Listed}
use Rattle.c65_parse_frames.specs.declared.list.Listed.TheVariants as l
use Rattle.c65_parse_frames.specs.Frames
use Rattle.c65_parse_frames.specs.Frames.{decls_of, stmts_of}
use Rattle.c65_parse_frames.specs.Lists

abbrev pub head_of : Head → Frames.Head
head_of (h.Label l n) = Frames.in_label l n
head_of (h.Case l e) = Frames.in_case l (expr_of e)
head_of (h.Default l) = Frames.in_default l
head_of (h.Else l e s) = Frames.in_else l (expr_of e) (stmt_of s)
head_of (h.Switch l e) = Frames.in_switch l (expr_of e)
head_of (h.While l e) = Frames.in_while l (expr_of e)
head_of (h.For l e f g) = Frames.in_for l (maybe expr_of e) (maybe expr_of f) (maybe expr_of g)

abbrev pub frame_of : Frame → Frames.Frame
frame_of (f.Head h) = Frames.in_head (head_of h)
frame_of (f.Block l ds ss) = Frames.in_block l (decls_of ds.items) (stmts_of ss.items)
frame_of (f.Then l e) = Frames.in_then l (expr_of e)
frame_of (f.Do l) = Frames.in_do l

-- the innermost first
abbrev pub stack_of : List Frame → List Frames.Frame
stack_of fs = map frame_of (reverse fs)

abbrev pub plugged_of : Plugged → Frames.Plugged
plugged_of (p.Whole s) = Frames.plugged_whole (stmt_of s)
plugged_of (p.Open f) = Frames.plugged_open (frame_of f)

abbrev pub begun_of : Begun → Frames.Begun
begun_of (b.Open f) = Frames.begun_open (frame_of f)
begun_of (b.Decl d) = Frames.begun_decl (decl_of d)
begun_of (b.Whole s) = Frames.begun_whole (stmt_of s)
begun_of b.Close = Frames.begun_close

abbrev pub reached_of : Reached → Frames.Reached
reached_of (r.End s) = Frames.reached_end (stmt_of s)
reached_of (r.Need fs) = Frames.reached_need (stack_of fs.items)

abbrev pub list_of : InitList → Lists.OpenList
list_of e = record { place = e.pos; inits = inits_from no_inits e.items.items }

abbrev pub lists_of : List InitList → List Lists.OpenList
lists_of ls = map list_of (reverse ls)

abbrev pub listed_of : Listed → Lists.Listed
listed_of (l.Whole i) = Lists.listed_whole (init_of i)
listed_of (l.Open ls) = Lists.listed_open (lists_of ls.items)
