use Rattle.std.proofs.Common.{◌≡◌, ◌∙◌, ◌++◌, ℕ, List, arith, drop, length, take}
use Rattle.std.proofs.lemmas.List.{take-append-le, take_all}
use Rattle.dl_loader.proofs.loader.Loader.close.Goals as goal

-- a list that was lent whole and came back as it was
lent_back : {A : Type 0} {n : ℕ} {xs ys : List A} → n ≡ length xs → ys ≡ xs → take n (ys ++ drop (length ys) xs) ≡ xs
lent_back {n = n} {xs} long same = rw same (take-append-le n xs (drop (length xs) xs) (omega arith) ∙ take_all n xs (omega arith))

pub returns-in-Err-clause-loader : goal.returns-in-Err-clause-loader
returns-in-Err-clause-loader g c = c.self.view_is

pub returns-in-Err-clause-passes : goal.returns-in-Err-clause-passes
returns-in-Err-clause-passes g c = lent_back c.args.passes.ok.0 (c.in-Err.ensures.passes ∙ c.deref_mut.ensures.value)

pub returns-in-Err-clause-fault : goal.returns-in-Err-clause-fault
returns-in-Err-clause-fault g c =
    (c.outlines.new.book, c.keeps-in-Err.ensures, rw (c.in-Err.ensures.book, ← c.deref_mut.ensures.value) c.in-Err.ensures.fault)
