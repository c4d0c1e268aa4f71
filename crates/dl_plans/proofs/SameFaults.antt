-- Faults that are the same.
use Rattle.std.proofs.Common.{◌≡◌, ◌∙◌, ◌&&◌, ap, true, List, ℕ}
use Rattle.std.specs.Str.{bytes_eq}
use Rattle.std.proofs.lemmas.Bool.{and_parts}
use Rattle.dl_values.specs.Key.{Key, key_eq}
use Rattle.dl_values.specs.declared.outcome.BatchFault.{BatchFault}
use Rattle.dl_values.proofs.KeyLemmas.{key_eq-same}
use Rattle.dl_values.proofs.Names.{bytes_eq-same}
use Rattle.dl_terms.specs.declared.answer.EvalFault.TheVariants as why

pub same_key : (a b : Key) (s t : List ℕ) → (key_eq a b && bytes_eq s t) ≡ true → why.Key a s ≡ why.Key b t
same_key a b s t h =
    let p = and_parts (key_eq a b) (bytes_eq s t) h in
    ap (λ k. why.Key k s) (key_eq-same a b p.0) ∙ ap (why.Key b) (bytes_eq-same s t p.1)

pub same_batch : (a b : Key) (f g : BatchFault) → key_eq a b ≡ true → f ≡ g → why.Batch a f ≡ why.Batch b g
same_batch a b f g h is = ap (λ k. why.Batch k f) (key_eq-same a b h) ∙ ap (why.Batch b) is
