use Rattle.std.proofs.Common.{ℕ, List, refl, ◌≡◌, ◌∙◌, ◌-◌, ◌+◌, ◌<◌, ◌≤◌, ◌∷◌, ◌++◌, [], length, get_or, take, true, false, sym, ap, arith, bytes_eq}
use Rattle.std.proofs.lemmas.List.{take_more}
use Rattle.std.proofs.lemmas.Option.{slice_get_read}
use Rattle.std.proofs.lemmas.Slice.Eq.{bytes_eq-Decides}
use Rattle.serde_json.specs.Find.{get_member}
use Rattle.dl_documents.specs.Inside.Trees.{object_data}
use Rattle.dl_documents.proofs.ObjectMembers.{Member, found_last, found_before}
use Rattle.dl_documents.proofs.member.last_place.Goals as goal

-- the members up to one end with it
up_to : (ms : List Member) (left : ℕ) (m : Member) → 0 < left → left ≤ length ms → m ≡ get_or ms (left - 1) m → take left ms ≡ take (left - 1) ms ++ m ∷ []
up_to ms left m some within is =
    let next : left ≡ left - 1 + 1 = omega arith in
    ap (λ n. take n ms) next ∙ take_more ms (left - 1) m (omega arith) ∙ ap (λ (x : Member). take (left - 1) ms ++ x ∷ []) (sym is)

pub returns-then-eq : goal.returns-then-eq
returns-then-eq c =
    let ms = c.args.members.now in
    let left = c.loop-left.left in
    let m : Member = c.index-members-left.result in
    let name = c.args.name.now in
    let some : 0 < left = c.loop-left-test.true in
    let within : left ≤ length ms = c.loop-left.invariant.within in
    let low : left - 1 < length ms = omega arith in
    let front = up_to ms left m some within c.index-members-left.is in
    let same : bytes_eq m.0.now name ≡ true = grind arith in
    record {
      member = m;
      there = slice_get_read ms (length ms) (left - 1) m refl low c.index-members-left.is;
      named = (bytes_eq-Decides m.0.now name).0 same;
      value = c.loop-left.invariant.same ∙ ap (λ xs. get_member name (object_data xs)) front ∙ found_last name (take (left - 1) ms) m same;
    }

pub loop-left-preserved : goal.loop-left-preserved
loop-left-preserved c =
    let ms = c.args.members.now in
    let left = c.loop-left.left in
    let m : Member = c.index-members-left.result in
    let name = c.args.name.now in
    let some : 0 < left = c.loop-left-test.true in
    let within : left ≤ length ms = c.loop-left.invariant.within in
    let front = up_to ms left m some within c.index-members-left.is in
    let other : bytes_eq m.0.now name ≡ false = grind arith in
    record {
      within = omega arith;
      same = c.loop-left.invariant.same ∙ ap (λ xs. get_member name (object_data xs)) front ∙ found_before name (take (left - 1) ms) m other;
    }
