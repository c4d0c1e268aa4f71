-- Seats are dealt one by one: each keeps its place at the channel, and has sent and taken nothing.
use Rattle.std.proofs.Common.{◌≡◌, ◌∙◌, ℕ, ◌-◌, List, [], ◌∷◌, ◌++◌, All, ap, sym}
use Rattle.std.proofs.lemmas.List.Elements.{All-push, All-same}
use Rattle.crossbeam_channel.specs.Claims.{Pass, view}
use Rattle.dl_workers.specs.LosslessRule.{traffic, jobs}
use Rattle.dl_workers.specs.Seats.{IsNewSender, IsNewTaker}
use Rattle.dl_workers.specs.declared.rule.Item.{Item}
use Rattle.dl_workers.specs.declared.rule.Traffic.{Traffic}
use Rattle.dl_workers.specs.declared.seats.Sender.{Sender}
use Rattle.dl_workers.specs.declared.seats.Taker.{Taker}

-- one seat more
pub all_more : {X : Type 0} (P : X → Type 0) (xs ys : List X) (x : X) → ys ≡ xs ++ x ∷ [] → All P xs → P x → All P ys
all_more P xs ys x is all here = All-same P ys (xs ++ x ∷ []) is (All-push P xs x all here)

-- the pass that deals keeps the other seats
pub one_less : (v w : Traffic) (n m all : ℕ) → w ≡ traffic (v.seats - 1) v.all v.sent v.taken → v ≡ traffic n all [] [] → m ≡ n - 1
    → w ≡ traffic m all [] []
one_less v w n m all dealt known is = rw is (dealt ∙ ap (λ (a : Traffic). traffic (a.seats - 1) a.all a.sent a.taken) known)

-- the pass that it deals knows how many seats there are in all
pub one_dealt : (v w : Traffic) (n all : ℕ) → w ≡ traffic 1 v.all [] [] → v ≡ traffic n all [] [] → w ≡ traffic 1 all [] []
one_dealt v w n all dealt known = dealt ∙ ap (λ (a : Traffic). traffic 1 a.all [] []) known

pub new_sender : (s : Sender) (p : Pass Item Traffic) (n all : ℕ) → s.pass ≡ p → view p ≡ traffic n all [] [] → IsNewSender all s
new_sender s p n all is known =
    let known' : view s.pass ≡ traffic n all [] [] = ap view is ∙ known in
    (ap (λ (a : Traffic). a.all) known', ap (λ (a : Traffic). jobs a.sent) known')

pub new_taker : (t : Taker) (p : Pass Item Traffic) (n all : ℕ) → t.pass ≡ p → view p ≡ traffic n all [] [] → IsNewTaker all t
new_taker t p n all is known =
    let known' : view t.pass ≡ traffic n all [] [] = ap view is ∙ known in
    (ap (λ (a : Traffic). a.all) known', ap (λ (a : Traffic). jobs a.taken) known')

-- a pass that has sent and taken nothing, by the number of its seats
pub is_unused : (v : Traffic) (m all n : ℕ) → v ≡ traffic m all [] [] → n ≡ m → v ≡ traffic n v.all [] []
is_unused v m all n known is = known ∙ ap (λ (k : ℕ). traffic k all [] []) (sym is) ∙ ap (λ (a : Traffic). traffic n a.all [] []) (sym known)
