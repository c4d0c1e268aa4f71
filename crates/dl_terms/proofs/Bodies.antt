-- What a round makes of the terms of a body, for an item.
use Rattle.std.proofs.Common.{◌≡◌, ◌∙◌, ap, sym, refl, ℕ, suc, ◌<◌, ◌≤◌, Bool, true, false, nat_lt, if◌then◌else◌, List, [], ◌∷◌, ◌++◌, length, Option}
use Rattle.std.proofs.Common.{Some, None}
use Rattle.std.specs.Prelude.{Box, Result, Ok, Err, IfOk, OnOk}
use Rattle.std.specs.declared.alloc.Global.{Global}
use Rattle.std.specs.Option.{option_map, option_and_then}
use Rattle.std.specs.List.{AllZip}
use Rattle.std.proofs.lemmas.List.Sums.{fold-append}
use Rattle.std.proofs.lemmas.Bool.{lt-ltb, le-ltb}
use Rattle.indexmap.specs.IndexSet.{insert_key, insert_all}
use Rattle.serde_json.specs.Data.{Data, Items}
use Rattle.serde_json.specs.Find.{as_array}
use Rattle.serde_json.specs.View.{items_of}
use Rattle.dl_values.specs.Key.{Key, key_eq}
use Rattle.dl_values.specs.declared.outcome.Outcome.{Outcome}
use Rattle.dl_terms.specs.declared.answer.Answer.{Answer}
use Rattle.dl_terms.specs.declared.answer.Answer.TheVariants.{Value, Fault}
use Rattle.dl_terms.specs.declared.answer.EvalFault.{EvalFault}
use Rattle.dl_terms.specs.declared.answer.EvalFault.TheVariants as why
use Rattle.dl_terms.specs.declared.node.Frame.{Frame}
use Rattle.dl_terms.specs.declared.node.Frame.TheVariants.{Pick, Follow, Each, Over}
use Rattle.dl_terms.specs.declared.node.Node.{Node}
use Rattle.dl_terms.specs.declared.term.Term.{Term}
use Rattle.dl_terms.specs.Tree.{Tree, ended, over, Trees}
use Rattle.dl_terms.specs.View.{term_view, terms_view}
use Rattle.dl_terms.specs.TermAnswers.{Joint, listing, naming, picked, waits_after, target_in, target_answer, target_waits, targets_in}
use Rattle.dl_terms.specs.TermAnswers.{targets_answer, targets_waits, most_items, Listed, listed, list_items, few_items, items_count, copies_answer, copies_wait}
use Rattle.dl_terms.specs.TermAnswers.{copy_answers, copy_waits, answer, waits, answer_at, answers_at, waits_at, all_wait_at}
use Rattle.dl_terms.specs.Node.{in_frame, joined_tree, node_view, nodes_view, result_of}
use Rattle.dl_terms.specs.Reduction.{Reduces}
use Rattle.dl_terms.specs.Inside.Exploration.{AllStandAt, CopiesStand, IsSettled, JoinsOn, StandsAt, frame_waits}
use Rattle.dl_terms.proofs.Frames.{no_answer}
use Rattle.dl_terms.proofs.Reductions.{joins_on, stand_more}

pub if_ok : {X E : Type 0} (r : Result X E) (P Q : X → Type 0) → ((x : X) → P x → Q x) → IfOk r P → IfOk r Q
if_ok (Ok x) P Q f h = f x h
if_ok (Err e) P Q f h = h

pub on_ok : {X E : Type 0} (r : Result X E) (R S : Type 0) → (R → S) → OnOk r R → OnOk r S
on_ok (Ok x) R S f h = f h
on_ok (Err e) R S f h = h

pub always_ok : {X E : Type 0} (r : Result X E) (S : Type 0) → S → OnOk r S
always_ok (Ok x) S h = h
always_ok (Err e) S h = tt

-- ---- a part in a frame

module _ (i : Option Data) (q : Key → Option Outcome) (t part : Tree) (same : answer q part ≡ answer_at q i t) where
  frame_answer : (f : Frame) → answer q (in_frame f part) ≡ answer_at q i (in_frame f t)
  frame_answer (Pick field) = ap (option_map (picked field)) same
  frame_answer (Follow field table) = ap (option_and_then (λ a. target_answer q (target_in table (picked field a)))) same
  frame_answer (Each field table) = ap (option_and_then (λ a. targets_answer q (targets_in table (picked field a)))) same
  frame_answer (Over body) = ap (option_and_then (λ a. copies_answer (λ d. answer_at q (Some d) (term_view body.value)) (listed a))) same

  frame_waiting : (f : Frame) → waits q part ≡ waits_at q i t → waits q (in_frame f part) ≡ waits_at q i (in_frame f t)
  frame_waiting (Pick field) w = w
  frame_waiting (Follow field table) w = λ j. w j ++ waits_after (same j) (λ a. target_waits q (target_in table (picked field a)))
  frame_waiting (Each field table) w = λ j. w j ++ waits_after (same j) (λ a. targets_waits q (targets_in table (picked field a)))
  frame_waiting (Over body) w = λ j. w j ++ waits_after (same j) (λ a. copies_wait (λ d. waits_at q (Some d) (term_view body.value)) (listed a))

module _ (p : Key → Option Outcome) where
  -- a part that stands for a term of a body, and what a frame makes of it
  pub frame_stands : (i : Option Data) (f : Frame) (t part n : Tree) → StandsAt p i t part → Reduces p (in_frame f part) n → StandsAt p i (in_frame f t) n
  frame_stands i f t part n stands goes = record {
    meaning = λ q more. goes.meaning q more ∙ frame_answer i q t part (stands.meaning q more) f;
    waiting = λ q more. goes.waiting q more ∙ frame_waiting i q t part (stands.meaning q more) f (stands.waiting q more);
    ending = goes.ending ∙ frame_answer i p t part (stands.meaning p (λ k o is. is)) f;
  }

  -- what stands for a term of a body has its answer, if p suffices for one
  pub stands_settled : (i : Option Data) (t u : Tree) → StandsAt p i t u → IsSettled p u
  stands_settled i t u stands = stands.ending ∙ sym (stands.meaning p (λ k o is. is))

  -- a frame round a part that waits
  pub waits_in_frame : (f : Frame) (part : Tree) (n : Tree) → IsSettled p part → result_of part ≡ None → n ≡ in_frame f part → Reduces p (in_frame f part) n
  waits_in_frame f part n settled none is = record {
    meaning = λ q more. ap (answer q) is;
    waiting = λ q more. ap (waits q) is;
    ending = ap result_of is ∙ (no_result f ∙ sym (no_answer p f part (sym settled ∙ none)));
  }
    where
      no_result : (g : Frame) → result_of (in_frame g part) ≡ None
      no_result (Pick field) = refl
      no_result (Follow field table) = refl
      no_result (Each field table) = refl
      no_result (Over body) = refl

  -- what the frame wants behind the keys of its part
  waits_then : (ks w : List Key) (x : Option Answer) (next : Answer → List Key) (after : List Key) → after ≡ waits_after x next
      → insert_all key_eq ks (w ++ waits_after x next) ≡ insert_all key_eq (insert_all key_eq ks w) after
  waits_then ks w x next after e = fold-append (insert_key key_eq) ks w (waits_after x next) ∙ ap (insert_all key_eq (insert_all key_eq ks w)) (sym e)

  picks_none : (field : List ℕ) (x : Option Answer) → frame_waits p (Pick field) x ≡ []
  picks_none field None = refl
  picks_none field (Some a) = refl

  follows : (field table : List ℕ) (x : Option Answer)
      → frame_waits p (Follow field table) x ≡ waits_after x (λ a. target_waits p (target_in table (picked field a)))
  follows field table None = refl
  follows field table (Some a) = refl

  eaches : (field table : List ℕ) (x : Option Answer)
      → frame_waits p (Each field table) x ≡ waits_after x (λ a. targets_waits p (targets_in table (picked field a)))
  eaches field table None = refl
  eaches field table (Some a) = refl

  overs : (body : Box Term Global) (x : Option Answer)
      → frame_waits p (Over body) x ≡ waits_after x (λ a. copies_wait (λ d. waits_at p (Some d) (term_view body.value)) (listed a))
  overs body None = refl
  overs body (Some a) = refl

  pub frame_wants : (i : Option Data) (f : Frame) (t : Tree) (ks : List Key)
      → insert_all key_eq ks (waits_at p i (in_frame f t)) ≡ insert_all key_eq (insert_all key_eq ks (waits_at p i t)) (frame_waits p f (answer_at p i t))
  frame_wants i (Pick field) t ks = ap (insert_all key_eq (insert_all key_eq ks (waits_at p i t))) (sym (picks_none field (answer_at p i t)))
  frame_wants i (Follow field table) t ks = waits_then ks (waits_at p i t) (answer_at p i t) (λ a. target_waits p (target_in table (picked field a)))
      (frame_waits p (Follow field table) (answer_at p i t)) (follows field table (answer_at p i t))
  frame_wants i (Each field table) t ks = waits_then ks (waits_at p i t) (answer_at p i t) (λ a. targets_waits p (targets_in table (picked field a)))
      (frame_waits p (Each field table) (answer_at p i t)) (eaches field table (answer_at p i t))
  frame_wants i (Over body) t ks = waits_then ks (waits_at p i t) (answer_at p i t)
      (λ a. copies_wait (λ d. waits_at p (Some d) (term_view body.value)) (listed a)) (frame_waits p (Over body) (answer_at p i t)) (overs body (answer_at p i t))

  -- the keys that are wanted once a part and then its frame added theirs
  pub part_wants : (i : Option Data) (f : Frame) (t part : Tree) (ks mid new : List Key) → mid ≡ insert_all key_eq ks (waits_at p i t)
      → result_of part ≡ answer_at p i t → new ≡ insert_all key_eq mid (frame_waits p f (result_of part))
      → new ≡ insert_all key_eq ks (waits_at p i (in_frame f t))
  part_wants i f t part ks mid new wanted ends e =
      e
      ∙ (ap (λ m. insert_all key_eq m (frame_waits p f (result_of part))) wanted
      ∙ (ap (λ x. insert_all key_eq (insert_all key_eq ks (waits_at p i t)) (frame_waits p f x)) ends ∙ sym (frame_wants i f t ks)))

  -- ---- parts of a body, together

  pub parts_stand : (i : Option Data) (j : Joint) (ts us : Trees) (u : Tree) → AllStandAt p i ts us → JoinsOn j us u → StandsAt p i (joined_tree j ts) u
  parts_stand i listing ts us u s on = joins_on p listing (λ q. answers_at q i ts) (λ q. all_wait_at q i ts) us u s on
  parts_stand i (naming names) ts us u s on = joins_on p (naming names) (λ q. answers_at q i ts) (λ q. all_wait_at q i ts) us u s on

  pub terms_stand : (i : Option Data) (ts : List Term) (ns : List Node) → AllZip (λ t n. StandsAt p i (term_view t) (node_view n)) ts ns
      → AllStandAt p i (terms_view ts) (nodes_view ns)
  terms_stand i [] [] h = record { meaning = λ q more. refl; waiting = λ q more. refl; ending = refl }
  terms_stand i [] (n ∷ ns) h = absurd h
  terms_stand i (t ∷ ts) [] h = absurd h
  terms_stand i (t ∷ ts) (n ∷ ns) h =
      stand_more p (λ q. answer_at q i (term_view t)) (λ q. waits_at q i (term_view t)) (λ q. answers_at q i (terms_view ts))
      (λ q. all_wait_at q i (terms_view ts)) (node_view n) (nodes_view ns) h.0 (terms_stand i ts ns h.1)

  -- ---- the copies of a body

  pub copies_stand : (body : Tree) (ds : List Data) (ns : List Node) → AllZip (λ d n. StandsAt p (Some d) body (node_view n)) ds ns
      → CopiesStand p body (items_of ds) (nodes_view ns)
  copies_stand body [] [] h = record { meaning = λ q more. refl; waiting = λ q more. refl; ending = refl }
  copies_stand body [] (n ∷ ns) h = absurd h
  copies_stand body (d ∷ ds) [] h = absurd h
  copies_stand body (d ∷ ds) (n ∷ ns) h =
      stand_more p (λ q. answer_at q (Some d) body) (λ q. waits_at q (Some d) body) (λ q. copy_answers (λ e. answer_at q (Some e) body) (items_of ds))
      (λ q. copy_waits (λ e. waits_at q (Some e) body) (items_of ds)) (node_view n) (nodes_view ns) h.0 (copies_stand body ds ns h.1)

  pub over_fault : (body : Tree) (d : Data) (f : EvalFault) (u : Tree) → listed (Value d) ≡ Listed.none f → u ≡ ended (Fault f)
      → Reduces p (over (ended (Value d)) body) u
  over_fault body d f u e is = record {
    meaning = λ q more. ap (answer q) is ∙ ap (copies_answer (λ x. answer_at q (Some x) body)) (sym e);
    waiting = λ q more. ap (waits q) is ∙ ap (copies_wait (λ x. waits_at q (Some x) body)) (sym e);
    ending = ap result_of is ∙ ap (copies_answer (λ x. answer_at p (Some x) body)) (sym e);
  }

  pub over_stands : (body : Tree) (d : Data) (ds : Items) (us : Trees) (u : Tree) → listed (Value d) ≡ Listed.items ds → CopiesStand p body ds us
      → JoinsOn listing us u → Reduces p (over (ended (Value d)) body) u
  over_stands body d ds us u e s on =
      let stands = joins_on p listing (λ q. copy_answers (λ x. answer_at q (Some x) body) ds) (λ q. copy_waits (λ x. waits_at q (Some x) body) ds) us u s on in
      record {
        meaning = λ q more. stands.meaning q more ∙ ap (copies_answer (λ x. answer_at q (Some x) body)) (sym e);
        waiting = λ q more. stands.waiting q more ∙ ap (copies_wait (λ x. waits_at q (Some x) body)) (sym e);
        ending = stands.ending ∙ ap (copies_answer (λ x. answer_at p (Some x) body)) (sym e);
      }

-- ---- how many items there are

items-count : (ds : List Data) → items_count (items_of ds) ≡ length ds
items-count [] = refl
items-count (d ∷ ds) = ap suc (items-count ds)

few_step : (ds : Items) (b : Bool) → nat_lt most_items (items_count ds) ≡ b → few_items ds ≡ if b then Listed.none why.TooMany else Listed.items ds
few_step ds b e = ap (λ t. if t then Listed.none why.TooMany else Listed.items ds) e

pub over_none : (d : Data) → None ≡ as_array d → listed (Value d) ≡ Listed.none why.NotAList
over_none d e = ap list_items (sym e)

pub over_many : (d : Data) (ds : List Data) → Some (items_of ds) ≡ as_array d → most_items < length ds → listed (Value d) ≡ Listed.none why.TooMany
over_many d ds e many =
    ap list_items (sym e) ∙ few_step (items_of ds) true (ap (nat_lt most_items) (items-count ds) ∙ lt-ltb most_items (length ds) many)

pub over_few : (d : Data) (ds : List Data) → Some (items_of ds) ≡ as_array d → length ds ≤ most_items → listed (Value d) ≡ Listed.items (items_of ds)
over_few d ds e few_are =
    ap list_items (sym e) ∙ few_step (items_of ds) false (ap (nat_lt most_items) (items-count ds) ∙ le-ltb most_items (length ds) few_are)
