-- What a tree in frames answers and waits for.
use Rattle.std.proofs.Common.{◌≡◌, ◌∙◌, ap, sym, subst, refl, ℕ, zero, suc, ◌<◌, ◌==◌, Bool, false, true≢false, List, [], ◌∷◌, ◌++◌, length, vec_len}
use Rattle.std.proofs.Common.{Option, Some, None, arith}
use Rattle.std.specs.Prelude.{Vec}
use Rattle.std.specs.declared.alloc.Global.{Global}
use Rattle.std.specs.Option.{option_map, option_and_then}
use Rattle.std.proofs.lemmas.List.{append-nil}
use Rattle.dl_values.specs.Key.{Key}
use Rattle.dl_values.specs.declared.outcome.Outcome.{Outcome}
use Rattle.dl_terms.specs.declared.answer.Answer.{Answer}
use Rattle.dl_terms.specs.declared.node.Frame.{Frame}
use Rattle.dl_terms.specs.declared.node.Frame.TheVariants.{Pick, Follow, Each, Over}
use Rattle.dl_terms.specs.Tree.{Tree, ended}
use Rattle.dl_terms.specs.TermAnswers.{answer, waits, picked, waits_after, target_in, target_answer, target_waits, targets_in, targets_answer, targets_waits}
use Rattle.dl_terms.specs.TermAnswers.{answer_at, waits_at, copies_answer, copies_wait, listed}
use Rattle.dl_terms.specs.View.{term_view}
use Rattle.dl_terms.specs.Node.{framed, in_frame, result_of}
use Rattle.dl_terms.specs.Reduction.{MeansSame, Reduces}

-- the last frame is the innermost
pub framed_last : (fs : List Frame) (f : Frame) (t : Tree) → framed (fs ++ f ∷ []) t ≡ framed fs (in_frame f t)
framed_last [] f t = refl
framed_last (g ∷ fs) f t = ap (in_frame g) (framed_last fs f t)

-- a frame is no answer
pub framed_open : (fs : List Frame) (t : Tree) → result_of t ≡ None → result_of (framed fs t) ≡ None
framed_open [] t none = none
framed_open (Pick field ∷ fs) t none = refl
framed_open (Follow field table ∷ fs) t none = refl
framed_open (Each field table ∷ fs) t none = refl
framed_open (Over body ∷ fs) t none = refl

some_items : (n : ℕ) → (n == 0) ≡ false → 0 < n
some_items zero e = absurd (true≢false e)
some_items (suc n) e = omega arith

pub not_empty : (v : Vec Frame Global) (test : Bool) → test ≡ (vec_len v == 0) → test ≡ false → 0 < length v.items
not_empty v test is fails = let some : 0 < vec_len v = some_items (vec_len v) (sym is ∙ fails) in omega (arith, v.ok.0)

-- in some frame nothing has ended
pub not_ended : (fs : List Frame) (t : Tree) → 0 < length fs → result_of (framed fs t) ≡ None
not_ended [] t some = absurd (omega arith)
not_ended (Pick field ∷ fs) t some = refl
not_ended (Follow field table ∷ fs) t some = refl
not_ended (Each field table ∷ fs) t some = refl
not_ended (Over body ∷ fs) t some = refl

module _ (p : Key → Option Outcome) where
  pub means_itself : (t : Tree) → MeansSame p t t
  means_itself t = record { meaning = λ q more. refl; waiting = λ q more. refl }

  pub means_then : (t u v : Tree) → MeansSame p t u → MeansSame p u v → MeansSame p t v
  means_then t u v first next = record {
    meaning = λ q more. next.meaning q more ∙ first.meaning q more;
    waiting = λ q more. next.waiting q more ∙ first.waiting q more;
  }

  means_in_frame : (f : Frame) (t u : Tree) → MeansSame p t u → MeansSame p (in_frame f t) (in_frame f u)
  means_in_frame (Pick field) t u same = record {
    meaning = λ q more. ap (option_map (picked field)) (same.meaning q more);
    waiting = λ q more. same.waiting q more;
  }
  means_in_frame (Follow field table) t u same = record {
    meaning = λ q more. ap (option_and_then (λ a. target_answer q (target_in table (picked field a)))) (same.meaning q more);
    waiting = λ q more.
        ap (λ ks. ks ++ waits_after (answer q u) (λ a. target_waits q (target_in table (picked field a)))) (same.waiting q more)
        ∙ ap (λ o. waits q t ++ waits_after o (λ a. target_waits q (target_in table (picked field a)))) (same.meaning q more);
  }
  means_in_frame (Each field table) t u same = record {
    meaning = λ q more. ap (option_and_then (λ a. targets_answer q (targets_in table (picked field a)))) (same.meaning q more);
    waiting = λ q more.
        ap (λ ks. ks ++ waits_after (answer q u) (λ a. targets_waits q (targets_in table (picked field a)))) (same.waiting q more)
        ∙ ap (λ o. waits q t ++ waits_after o (λ a. targets_waits q (targets_in table (picked field a)))) (same.meaning q more);
  }
  means_in_frame (Over body) t u same = record {
    meaning = λ q more. ap (option_and_then (λ a. copies_answer (λ d. answer_at q (Some d) (term_view body.value)) (listed a))) (same.meaning q more);
    waiting = λ q more.
        ap (λ ks. ks ++ waits_after (answer q u) (λ a. copies_wait (λ d. waits_at q (Some d) (term_view body.value)) (listed a))) (same.waiting q more)
        ∙ ap (λ o. waits q t ++ waits_after o (λ a. copies_wait (λ d. waits_at q (Some d) (term_view body.value)) (listed a))) (same.meaning q more);
  }

  -- trees that mean the same do so in frames
  pub means_framed : (fs : List Frame) (t u : Tree) → MeansSame p t u → MeansSame p (framed fs t) (framed fs u)
  means_framed [] t u same = same
  means_framed (f ∷ fs) t u same = means_in_frame f (framed fs t) (framed fs u) (means_framed fs t u same)

  pub no_answer : (f : Frame) (t : Tree) → answer p t ≡ None → answer p (in_frame f t) ≡ None
  no_answer (Pick field) t none = ap (option_map (picked field)) none
  no_answer (Follow field table) t none = ap (option_and_then (λ a. target_answer p (target_in table (picked field a)))) none
  no_answer (Each field table) t none = ap (option_and_then (λ a. targets_answer p (targets_in table (picked field a)))) none
  no_answer (Over body) t none = ap (option_and_then (λ a. copies_answer (λ d. answer_at p (Some d) (term_view body.value)) (listed a))) none

  same_waits : (f : Frame) (t : Tree) → answer p t ≡ None → waits p (in_frame f t) ≡ waits p t
  same_waits (Pick field) t none = refl
  same_waits (Follow field table) t none =
      ap (λ o. waits p t ++ waits_after o (λ a. target_waits p (target_in table (picked field a)))) none ∙ append-nil (waits p t)
  same_waits (Each field table) t none =
      ap (λ o. waits p t ++ waits_after o (λ a. targets_waits p (targets_in table (picked field a)))) none ∙ append-nil (waits p t)
  same_waits (Over body) t none =
      ap (λ o. waits p t ++ waits_after o (λ a. copies_wait (λ d. waits_at p (Some d) (term_view body.value)) (listed a))) none ∙ append-nil (waits p t)

  framed_none : (fs : List Frame) (t : Tree) → answer p t ≡ None → answer p (framed fs t) ≡ None
  framed_none [] t none = none
  framed_none (f ∷ fs) t none = no_answer f (framed fs t) (framed_none fs t none)

  framed_waits : (fs : List Frame) (t : Tree) → answer p t ≡ None → waits p (framed fs t) ≡ waits p t
  framed_waits [] t none = refl
  framed_waits (f ∷ fs) t none = same_waits f (framed fs t) (framed_none fs t none) ∙ framed_waits fs t none

  -- a tree that has its answer, if p suffices for one
  pub reduces : (t u : Tree) → MeansSame p t u → result_of u ≡ answer p u → Reduces p t u
  reduces t u same settled = record { meaning = same.meaning; waiting = same.waiting; ending = settled ∙ same.meaning p (λ k o is. is) }

  -- the part waits, in whatever frames: the term waits for the same keys
  module _ (whole : Tree) (fs : List Frame) (part : Tree) (same : MeansSame p whole (framed fs part)) (settled : result_of part ≡ answer p part) where
    pub part_waits : result_of part ≡ None → Reduces p whole (framed fs part)
    part_waits none = reduces whole (framed fs part) same (framed_open fs part none ∙ sym (framed_none fs part (sym settled ∙ none)))

    pub part_wants : result_of part ≡ None → waits p whole ≡ waits p part
    part_wants none = sym (same.waiting p (λ k o is. is)) ∙ framed_waits fs part (sym settled ∙ none)

    pub part_left : fs ≡ [] → Reduces p whole part
    part_left none = reduces whole part (subst (λ gs. MeansSame p whole (framed gs part)) none same) settled

    pub left_wants : fs ≡ [] → waits p whole ≡ waits p part
    left_wants none = sym (same.waiting p (λ k o is. is)) ∙ ap (λ gs. waits p (framed gs part)) none

  -- the answer of a part goes on through the innermost frame
  module _ (whole : Tree) (before fs : List Frame) (f : Frame) (part next : Tree) (a : Answer) (innermost : before ≡ fs ++ f ∷ [])
      (is : part ≡ ended a) (goes : Reduces p (in_frame f (ended a)) next) where
    pub still_means : MeansSame p whole (framed before part) → MeansSame p whole (framed fs next)
    still_means same =
        let out : framed before part ≡ framed fs (in_frame f (ended a)) =
        ap (λ gs. framed gs part) innermost ∙ (ap (framed (fs ++ f ∷ [])) is ∙ framed_last fs f (ended a)) in
        let on : MeansSame p (in_frame f (ended a)) next = record { meaning = goes.meaning; waiting = goes.waiting } in
        means_then whole (framed before part) (framed fs next) same
        (subst (λ t. MeansSame p t (framed fs next)) (sym out) (means_framed fs (in_frame f (ended a)) next on))

  -- what stands for a tree has its answer, if p suffices for one
  pub settles : (t u : Tree) → Reduces p t u → result_of u ≡ answer p u
  settles t u stands = stands.ending ∙ sym (stands.meaning p (λ k o known. known))
