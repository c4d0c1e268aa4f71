use Rattle.std.proofs.Common.{◌≡◌, ◌<◌, true, false, ◌++◌, ◌∷◌, [], if◌then◌else◌, map, length, get_or, ap, sym, ◌∙◌, bytes_eq, take, List, ℕ}
use Rattle.std.proofs.lemmas.List.{length-map, get_or-map}
use Rattle.std.specs.List.{list_any}
use Rattle.dl_values.specs.TableLimits.{lists}
use Rattle.dl_source.specs.declared.table_number.TableNumber.{TableNumber}
use Rattle.dl_values.proofs.Repeats.{clashes_first, found_again, goes_on}
use Rattle.dl_source.proofs.Repeats.{lists-names, noted, was_there, was_new}
use Rattle.dl_documents.specs.TableNumbers.{named}
use Rattle.dl_documents.proofs.table_numbers.repeats.Goals as goal

module _ (ns : List TableNumber) (i : ℕ) (n : TableNumber) (lt : i < length ns) (is : n ≡ get_or ns i n) where
  within : i < length (named ns)
  within = rw length-map lt

  is_at : (n.table, n.number) ≡ get_or (named ns) i (n.table, n.number)
  is_at = sym (get_or-map (λ (m : TableNumber). (m.table, m.number)) ns i n (n.table, n.number) lt ∙ ap (λ (m : TableNumber). (m.table, m.number)) (sym is))

pub loop-number-init : goal.loop-number-init
loop-number-init c = record { seen = ap (map (λ n. n.now)) c.with_hasher-names.ensures.empty; rest = clashes_first (named c.args.numbers.now) }

pub returns-then-not-branch : goal.returns-then-not-branch
returns-then-not-branch c =
    let l = c.loop-number in
    let ns = c.args.numbers.now in
    let n = c.number-item.result in
    let name = c.as_str.result.now in
    let there : list_any (λ k. bytes_eq name k.now) l.names.keys ≡ true = was_there _ (sym c.if-not-branch.true ∙ c.in_ok-insert.ensures.added) in
    let before : lists n.table (take l.number-index (named ns)) ≡ true =
    ap (λ t. lists t (take l.number-index (named ns))) (sym c.as_str.ensures)
    ∙ sym (lists-names name l.names.keys (take l.number-index (named ns)) l.invariant.seen) ∙ there in
    found_again (named ns) l.number-index (n.table, n.number) (within ns l.number-index n c.loop-number-test.true c.number-item.is)
    (is_at ns l.number-index n c.loop-number-test.true c.number-item.is) _ l.invariant.rest before

pub loop-number-preserved : goal.loop-number-preserved
loop-number-preserved c =
    let l = c.loop-number in
    let ns = c.args.numbers.now in
    let n = c.number-item.result in
    let name = c.as_str.result in
    let lt = within ns l.number-index n c.loop-number-test.true c.number-item.is in
    let is = is_at ns l.number-index n c.loop-number-test.true c.number-item.is in
    let new : list_any (λ k. bytes_eq name.now k.now) l.names.keys ≡ false = was_new _ (sym c.if-not-branch.false ∙ c.in_ok-insert.ensures.added) in
    let not_before : lists n.table (take l.number-index (named ns)) ≡ false =
    ap (λ t. lists t (take l.number-index (named ns))) (sym c.as_str.ensures)
    ∙ sym (lists-names name.now l.names.keys (take l.number-index (named ns)) l.invariant.seen) ∙ new in
    record {
      seen = ap (map (λ k. k.now)) (c.in_ok-insert.ensures.keys ∙ ap (λ b. if b then l.names.keys else l.names.keys ++ name ∷ []) new)
          ∙ noted (named ns) l.number-index (n.table, n.number) lt is l.names.keys name l.invariant.seen c.as_str.ensures;
      rest = goes_on (named ns) l.number-index (n.table, n.number) lt is _ l.invariant.rest not_before;
    }
