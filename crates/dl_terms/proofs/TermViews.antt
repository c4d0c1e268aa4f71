-- The trees of terms, form by form, and how high they are.
use Rattle.std.proofs.Common.{◌≡◌, ◌∙◌, ap, refl, zero, suc, ◌+◌, ◌<◌, ◌≤◌, List, [], ◌∷◌, ◌++◌, length, get_or, arith}
use Rattle.std.specs.Prelude.{ℕ, Vec, Box, max}
use Rattle.std.specs.declared.alloc.Global.{Global}
use Rattle.dl_terms.specs.declared.node.Frame.{Frame}
use Rattle.dl_terms.specs.declared.node.Frame.TheVariants.{Pick, Follow, Each, Over}
use Rattle.dl_terms.specs.declared.term.Term.{Term, the_lemmas}
use Rattle.dl_terms.specs.declared.term.Term.TheVariants as form
use Rattle.dl_terms.specs.Tree.{Name, Tree, pick, follow, each, all, over, the_item, named, height_of, height_of_all}
use Rattle.dl_terms.specs.View.{term_view, terms_view}
use Rattle.dl_terms.specs.Node.{framed, in_frame}
use Rattle.dl_terms.proofs.Frames.{framed_last}
use Rattle.std.proofs.Common.{rules}

pub term_view-All : (v : Vec Term Global) → term_view (form.All v) ≡ all (terms_view v.items)
term_view-All v = search (rules, the_lemmas)

pub term_view-Pick : (part : Box Term Global) (field : Name) → term_view (form.Pick part field) ≡ pick (term_view part.value) field
term_view-Pick part field = search (rules, the_lemmas)

pub term_view-Follow : (part : Box Term Global) (field table : Name) → term_view (form.Follow part field table) ≡ follow (term_view part.value) field table
term_view-Follow part field table = search (rules, the_lemmas)

pub term_view-Each : (part : Box Term Global) (field table : Name) → term_view (form.Each part field table) ≡ each (term_view part.value) field table
term_view-Each part field table = search (rules, the_lemmas)

pub term_view-Over : (part body : Box Term Global) → term_view (form.Over part body) ≡ over (term_view part.value) (term_view body.value)
term_view-Over part body = search (rules, the_lemmas)

pub term_view-Item : term_view form.Item ≡ the_item
term_view-Item = search (rules, the_lemmas)

pub term_view-Object : (names : List Name) (v : Vec Term Global) → term_view (form.Object names v) ≡ named names (terms_view v.items)
term_view-Object names v = search (rules, the_lemmas)

-- ---- one step of a loop that takes the frames off

pub frame_next : (fs more : List Frame) (f : Frame) (inner whole t : Tree) → more ≡ fs ++ f ∷ [] → in_frame f inner ≡ t → framed fs t ≡ whole
    → framed more inner ≡ whole
frame_next fs more f inner whole t pushed is so_far =
    ap (λ gs. framed gs inner) pushed ∙ (framed_last fs f inner ∙ (ap (framed fs) is ∙ so_far))

-- ---- how high a part is

pub item_high : (xs : List Term) (i : ℕ) (x : Term) → i < length xs → x ≡ get_or xs i x → height_of (term_view x) ≤ height_of_all (terms_view xs)
item_high [] i x low is = absurd (omega arith)
item_high (y ∷ ys) zero x low is =
    let same : height_of (term_view x) ≡ height_of (term_view y) = ap (λ z. height_of (term_view z)) is in
    omega arith
item_high (y ∷ ys) (suc i) x low is =
    let below : height_of (term_view x) ≤ height_of_all (terms_view ys) = item_high ys i x (omega arith) is in
    omega arith

-- how high the body of a frame is
abbrev pub body_high : Frame → ℕ
body_high (Pick field) = 0
body_high (Follow field table) = 0
body_high (Each field table) = 0
body_high (Over body) = height_of (term_view body.value)

pub in_frame_high : (f : Frame) (t : Tree) → height_of (in_frame f t) ≡ max (height_of t) (body_high f) + 1
in_frame_high (Pick field) t = omega arith
in_frame_high (Follow field table) t = omega arith
in_frame_high (Each field table) t = omega arith
in_frame_high (Over body) t = refl

pub framed_high : (fs : List Frame) (t : Tree) → height_of t ≤ height_of (framed fs t)
framed_high [] t = omega arith
framed_high (f ∷ fs) t =
    let below : height_of t ≤ height_of (framed fs t) = framed_high fs t in
    let one : height_of (in_frame f (framed fs t)) ≡ max (height_of (framed fs t)) (body_high f) + 1 = in_frame_high f (framed fs t) in
    omega arith

pub part_high : (before : List Term) (x : Term) (rest : List Term) → height_of (term_view x) ≤ height_of_all (terms_view (before ++ x ∷ rest))
part_high [] x rest = omega arith
part_high (y ∷ before) x rest = let below : height_of (term_view x) ≤ height_of_all (terms_view (before ++ x ∷ rest)) = part_high before x rest in omega arith
